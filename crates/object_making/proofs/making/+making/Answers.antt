use Rattle.std.proofs.Common.{rules, ◌≡◌, ◌++◌, ◌∷◌, ◌-◌, ◌∙◌, ◌≤◌, [], ℕ, List, length, map, false, ap, sym, subst, arith}
use Rattle.git_object.specs.Objects.{pair_id}
use Rattle.std.proofs.lemmas.List.{append-nil, length-append}
use Rattle.git_object.specs.declared.modes.Mode.TheVariants.{Dir}
use Rattle.tree_paths.specs.States.{path_values}
use Rattle.tree_paths.specs.Walks.{below, is_dir, steps}
use Rattle.tree_paths.proofs.ObjectsRead.{none_at, some_at}
use Rattle.object_making.specs.Listings.{entry_of, values}
use Rattle.object_making.specs.Made.{tree_ids}
use Rattle.object_making.proofs.Made.{ids_plain, ids_put, ids_tree, no_entries, open_plain, open_put, open_tree, put_full, put_some, run_some}
use Rattle.object_making.proofs.Putting.{adds_nothing, adds_twice, directory_piece, keeps_before, listed_piece, no_more, place_there, put_entry, tree_values}
use Rattle.object_making.proofs.Refusing.{directory_formed, directory_has_level, directory_is_tree, directory_matches, leaf_formed, leaf_matches, leaf_plain, match_start, next_begins, next_entry}
use Rattle.text_reader.specs.Line.{has_byte}
use Rattle.object_making.proofs.making.+making.Goals as goal

pub make_tree-listing-preserved-in-None : goal.make_tree-listing-preserved-in-None
make_tree-listing-preserved-in-None t c =
    let first = c.in-Some.first.now in
    let name = c.in-Some-strip_front.tail.now in
    let added : c.push_listed.new.tree.entries ≡ c.listing.tree.entries ++ entry_of first.mode name first.id ∷ [] = search rules in
    let plain : is_dir first.mode ≡ false = search rules in
    let at : first.path ≡ c.args.front.now ++ name = search rules in
    let whole : c.listing.rest.now ≡ first ∷ c.in-Some.more.now = search rules in
    let no_slash : has_byte 47 name ≡ false = search rules in
    record {
      kept = search rules;
      formed = search rules;
      walk = λ trees holder keeps.
          put_entry (steps trees (c.args.left - 1)) holder c.args.front.now c.listing.tree.entries c.push_listed.new.tree.entries (entry_of first.mode name first.id) (first ∷ []) c.in-Some.more.now c.listing.rest.now
          added whole (listed_piece (steps trees (c.args.left - 1)) holder c.args.front.now name first plain at)
          ∙ c.listing.invariant.walk trees holder keeps;
      ids = λ trees keeps.
          c.listing.invariant.ids trees keeps
          ∙ ap (λ (ids : List (List ℕ)). map pair_id c.args.objects.now ++ ids) (sym (ids_plain (tree_ids trees (c.args.left - 1)) c.listing.tree.entries c.push_listed.new.tree.entries (entry_of first.mode name first.id) added plain));
      visited = λ trees holder keeps.
          open_plain trees (steps trees (c.args.left - 1)) holder c.args.front.now c.listing.tree.entries c.push_listed.new.tree.entries (entry_of first.mode name first.id) added plain
          (c.listing.invariant.visited trees holder keeps);
      some = λ none. absurd (put_some c.listing.tree.entries c.push_listed.new.tree.entries (entry_of first.mode name first.id) added none);
      match = λ trees id forms is.
          leaf_matches trees (c.args.left - 1) id c.args.front.now c.listing.tree.entries first c.in-Some.more.now
          (next_entry (steps trees (c.args.left - 1)) id c.args.front.now c.listing.tree.entries c.listing.rest.now first c.in-Some.more.now whole (c.listing.invariant.match trees id forms is))
          name c.push_listed.new.tree.entries at no_slash added;
    }

pub make_tree-listing-preserved : goal.make_tree-listing-preserved
make_tree-listing-preserved t c =
    let at : c.as_slice-path.result.now ≡ c.args.front.now ++ c.in-Some-strip_front.tail.now = search rules in
    let parts : c.in-Some-strip_front.tail.now ≡ c.in-Some-split_at_slash.name.now ++ 47 ∷ c.in-Some-split_at_slash.below.now = search rules in
    let cut : c.as_slice-path.result.now ≡ c.split_at.result.0.now ++ c.split_at.result.1.now = search rules in
    let long : length c.split_at.result.0.now ≡ length c.as_slice-path.result.now - length c.in-Some-split_at_slash.below.now = search rules in
    let there = place_there c.as_slice-path.result.now c.args.front.now c.in-Some-strip_front.tail.now c.in-Some-split_at_slash.name.now c.in-Some-split_at_slash.below.now c.split_at.result.0.now c.split_at.result.1.now at parts cut long in
    record {
      kept = adds_twice c.args.objects.now c.listing.objects c.put_directory.new.objects c.listing.invariant.kept c.put_directory.ensures.kept;
      formed = search rules;
      walk = λ trees holder keeps.
          some_at _ _ c.in-Some-put.after c.in_ok-put-in-Some-split_at_slash.ensures.put c.in-Some-put.is c.args.front.now (record { at = there; plain = search rules }) trees holder keeps
          ∙ c.listing.invariant.walk trees holder (keeps_before trees c.listing.objects c.put_directory.new.objects c.put_directory.ensures.kept keeps);
      ids = λ trees keeps.
          some_at _ _ c.in-Some-put.after c.in_ok-put-in-Some-split_at_slash.ensures.ids c.in-Some-put.is trees (map pair_id c.args.objects.now) keeps
          (c.listing.invariant.ids trees (keeps_before trees c.listing.objects c.put_directory.new.objects c.put_directory.ensures.kept keeps));
      visited = λ trees holder keeps.
          some_at _ _ c.in-Some-put.after c.in_ok-put-in-Some-split_at_slash.ensures.visited c.in-Some-put.is c.args.front.now (record { at = there; plain = search rules }) trees holder keeps
          (c.listing.invariant.visited trees holder (keeps_before trees c.listing.objects c.put_directory.new.objects c.put_directory.ensures.kept keeps));
      some = λ none.
          let full : 1 ≤ length c.put_directory.new.tree.entries = some_at _ _ c.in-Some-put.after c.in_ok-put-in-Some-split_at_slash.ensures.some c.in-Some-put.is in
          absurd (omega (arith, full, none));
      match = λ trees id forms is.
          some_at _ _ c.in-Some-put.after c.in_ok-put-in-Some-split_at_slash.ensures.next c.in-Some-put.is c.args.front.now trees id forms (record { at = there; plain = search rules })
          (c.listing.invariant.match trees id forms is);
    }

pub make_tree-returns-clause-made : goal.make_tree-returns-clause-made
make_tree-returns-clause-made t c = λ trees keeps.
    let done : length c.listing.rest.now ≡ 0 = c.in_default.ensures.cases in
    tree_values trees c.args.left c.args.front.now c.in_ok-keep_tree.field-0 c.listing.tree.entries c.requires.level (c.in_ok-keep_tree.ensures.made trees keeps)
    ∙ no_more (path_values (below (steps trees (c.args.left - 1)) c.in_ok-keep_tree.field-0 c.args.front.now c.listing.tree.entries)) c.listing.rest.now done
    ∙ c.listing.invariant.walk trees c.in_ok-keep_tree.field-0 (keeps_before trees c.listing.objects c.keep_tree.new.objects c.keep_tree.ensures.kept keeps)

pub make_tree-returns-clause-ids : goal.make_tree-returns-clause-ids
make_tree-returns-clause-ids t c = λ trees keeps.
    ids_tree trees c.args.left c.in_ok-keep_tree.field-0 c.listing.tree.entries (map pair_id c.args.objects.now) (map pair_id c.listing.objects) (map pair_id c.keep_tree.new.objects) c.requires.level
    (c.in_ok-keep_tree.ensures.made trees keeps)
    (c.listing.invariant.ids trees (keeps_before trees c.listing.objects c.keep_tree.new.objects c.keep_tree.ensures.kept keeps)) c.in_ok-keep_tree.ensures.one

pub make_tree-returns-clause-visited : goal.make_tree-returns-clause-visited
make_tree-returns-clause-visited t c = λ trees keeps root.
    let done : length c.listing.rest.now ≡ 0 = c.in_default.ensures.cases in
    open_tree trees c.args.left c.args.front.now c.in_ok-keep_tree.field-0 c.listing.tree.entries c.requires.level (c.in_ok-keep_tree.ensures.made trees keeps)
    (λ none. root (ap length (sym (c.listing.invariant.some none)) ∙ done))
    (c.listing.invariant.visited trees c.in_ok-keep_tree.field-0 (keeps_before trees c.listing.objects c.keep_tree.new.objects c.keep_tree.ensures.kept keeps))

pub put_directory-returns-clause-ids : goal.put_directory-returns-clause-ids
put_directory-returns-clause-ids t c = λ trees before keeps stood.
    let added : c.push_entry.new.tree.entries ≡ c.args.tree.now.entries ++ entry_of Dir c.args.name.now c.in-Some.id ∷ [] = search rules in
    let made : map pair_id c.make_tree.new.objects ≡ map pair_id c.args.objects.now ++ tree_ids trees (c.args.left - 1) c.in-Some.id = some_at _ _ c.in-Some.id c.in_ok-id.ensures.ids c.in-Some.is trees keeps in
    ids_put (tree_ids trees (c.args.left - 1)) c.args.tree.now.entries c.push_entry.new.tree.entries c.args.name.now c.in-Some.id before (map pair_id c.args.objects.now) (map pair_id c.make_tree.new.objects) added stood made

pub put_directory-returns-clause-visited : goal.put_directory-returns-clause-visited
put_directory-returns-clause-visited t c = λ front is trees holder keeps all.
    let added : c.push_entry.new.tree.entries ≡ c.args.tree.now.entries ++ entry_of Dir c.args.name.now c.in-Some.id ∷ [] = search rules in
    open_put trees (steps trees (c.args.left - 1)) holder front c.args.place.now c.args.name.now c.in-Some.id c.args.tree.now.entries c.push_entry.new.tree.entries added is.at
    (some_at _ _ c.in-Some.id c.in_ok-id.ensures.visited c.in-Some.is trees keeps
    (λ none. absurd (run_some c.args.place.now c.args.listing.now c.split_run.result.0.now c.split_run.result.1.now c.requires.starts c.split_run.ensures.whole c.split_run.ensures.stop none)))
    all

pub put_directory-returns-clause-some : goal.put_directory-returns-clause-some
put_directory-returns-clause-some t c =
    let added : c.push_entry.new.tree.entries ≡ c.args.tree.now.entries ++ entry_of Dir c.args.name.now c.in-Some.id ∷ [] = search rules in
    put_full c.args.tree.now.entries c.push_entry.new.tree.entries (entry_of Dir c.args.name.now c.in-Some.id) added

pub put_directory-returns-clause-put : goal.put_directory-returns-clause-put
put_directory-returns-clause-put t c = λ front is trees holder keeps.
    let added : c.push_entry.new.tree.entries ≡ c.args.tree.now.entries ++ entry_of Dir c.args.name.now c.in-Some.id ∷ [] = search rules in
    let made : path_values (steps trees (c.args.left - 1) c.args.place.now c.in-Some.id) ≡ values c.split_run.result.0.now = search rules in
    put_entry (steps trees (c.args.left - 1)) holder front c.args.tree.now.entries c.push_entry.new.tree.entries (entry_of Dir c.args.name.now c.in-Some.id) c.split_run.result.0.now c.split_run.result.1.now c.args.listing.now
    added c.split_run.ensures.whole (directory_piece (steps trees (c.args.left - 1)) holder front c.args.place.now c.args.name.now c.in-Some.id c.split_run.result.0.now is.at made)

pub make_tree-listing-init : goal.make_tree-listing-init
make_tree-listing-init t c = record {
  kept = adds_nothing c.args.objects.now;
  formed = search rules;
  walk = search rules;
  ids = λ trees keeps. no_entries trees (c.args.left - 1) (map pair_id c.args.objects.now) c.new.result c.new.ensures;
  visited = λ trees holder keeps. search rules;
  some = λ none. search rules;
  match = λ trees id forms is. match_start trees c.args.left c.args.front.now id c.new.result c.args.listing.now c.requires.level forms c.new.ensures is;
}

pub make_tree-returns-in_default-strip_front-clause-none : goal.make_tree-returns-in_default-strip_front-clause-none
make_tree-returns-in_default-strip_front-clause-none t c = λ trees id forms is.
    let first = c.in-Some.first.now in
    let whole : c.listing.rest.now ≡ first ∷ c.in-Some.more.now = search rules in
    let other : (tail : List ℕ) → c.as_slice-path.result.now ≡ c.args.front.now ++ tail → ⊥ = none_at _ c.strip_front.ensures.none c.in_default-strip_front.is in
    next_begins trees (c.args.left - 1) id c.args.front.now c.listing.tree.entries first c.in-Some.more.now
    (next_entry (steps trees (c.args.left - 1)) id c.args.front.now c.listing.tree.entries c.listing.rest.now first c.in-Some.more.now whole (c.listing.invariant.match trees id forms is))
    (λ tail at. other tail (c.as_slice-path.ensures ∙ at))

pub make_tree-returns-then-not-branch-clause-none : goal.make_tree-returns-then-not-branch-clause-none
make_tree-returns-then-not-branch-clause-none t c = λ trees id forms is.
    let first = c.in-Some.first.now in
    let name = c.in-Some-strip_front.tail.now in
    let at : first.path ≡ c.args.front.now ++ name = search rules in
    let whole : c.listing.rest.now ≡ first ∷ c.in-Some.more.now = search rules in
    let no_slash : has_byte 47 name ≡ false = search rules in
    let next = next_entry (steps trees (c.args.left - 1)) id c.args.front.now c.listing.tree.entries c.listing.rest.now first c.in-Some.more.now whole (c.listing.invariant.match trees id forms is) in
    c.in_ok-push_listed-in-None.ensures.refused c.if-not-branch.true
    (leaf_plain trees (c.args.left - 1) id c.args.front.now c.listing.tree.entries first c.in-Some.more.now next name at no_slash)
    (leaf_formed trees (c.args.left - 1) id c.args.front.now c.listing.tree.entries first c.in-Some.more.now next name c.listing.invariant.formed at no_slash)

pub make_tree-returns-in_default-put-clause-none : goal.make_tree-returns-in_default-put-clause-none
make_tree-returns-in_default-put-clause-none t c = λ trees id forms is.
    let at : c.as_slice-path.result.now ≡ c.args.front.now ++ c.in-Some-strip_front.tail.now = search rules in
    let parts : c.in-Some-strip_front.tail.now ≡ c.in-Some-split_at_slash.name.now ++ 47 ∷ c.in-Some-split_at_slash.below.now = search rules in
    let cut : c.as_slice-path.result.now ≡ c.split_at.result.0.now ++ c.split_at.result.1.now = search rules in
    let long : length c.split_at.result.0.now ≡ length c.as_slice-path.result.now - length c.in-Some-split_at_slash.below.now = search rules in
    let there = place_there c.as_slice-path.result.now c.args.front.now c.in-Some-strip_front.tail.now c.in-Some-split_at_slash.name.now c.in-Some-split_at_slash.below.now c.split_at.result.0.now c.split_at.result.1.now at parts cut long in
    none_at _ c.in_ok-put-in-Some-split_at_slash.ensures.none c.in_default-put.is c.args.front.now trees id forms (record { at = there; plain = search rules })
    (c.listing.invariant.match trees id forms is)

pub put_directory-returns-then-left-eq1-clause-none : goal.put_directory-returns-then-left-eq1-clause-none
put_directory-returns-then-left-eq1-clause-none t c = λ front trees holder forms is match.
    directory_has_level trees (c.args.left - 1) holder front c.args.name.now c.args.place.now c.args.tree.now.entries c.args.listing.now c.requires.starts is match (omega (arith, c.if-left-eq1.true))

pub put_directory-returns-in_default-clause-none : goal.put_directory-returns-in_default-clause-none
put_directory-returns-in_default-clause-none t c = λ front trees holder forms is match.
    directory_is_tree trees (c.args.left - 1) holder front c.args.name.now c.args.place.now c.args.tree.now.entries c.args.listing.now c.requires.starts is match
    c.split_run.result.0.now c.split_run.result.1.now forms c.split_run.ensures.whole c.split_run.ensures.run c.split_run.ensures.stop (none_at _ c.in_ok-id.ensures.none c.in_default.is)

pub put_directory-returns-then-not-branch-clause-none : goal.put_directory-returns-then-not-branch-clause-none
put_directory-returns-then-not-branch-clause-none t c = λ front trees holder forms is match.
    c.in_ok-push_entry.ensures.refused c.if-not-branch.true
    (directory_formed trees (c.args.left - 1) holder front c.args.name.now c.args.place.now c.args.tree.now.entries c.args.listing.now c.requires.starts is match c.in-Some.id c.requires.formed)

pub put_directory-returns-clause-next : goal.put_directory-returns-clause-next
put_directory-returns-clause-next t c = λ front trees holder forms is match.
    let added : c.push_entry.new.tree.entries ≡ c.args.tree.now.entries ++ entry_of Dir c.args.name.now c.in-Some.id ∷ [] = search rules in
    directory_matches trees (c.args.left - 1) holder front c.args.name.now c.args.place.now c.args.tree.now.entries c.args.listing.now c.requires.starts is match
    c.in-Some.id c.split_run.result.0.now c.split_run.result.1.now c.push_entry.new.tree.entries c.split_run.ensures.whole c.split_run.ensures.run c.split_run.ensures.stop added
