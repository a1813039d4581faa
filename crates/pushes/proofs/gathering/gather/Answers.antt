use Rattle.std.proofs.Common.{◌+◌, ◌^◌, ◌-◌, ℕ, List, Option, length, map, refl, sym, ap, subst, ◌∙◌, rules}
use Rattle.std.specs.Prelude.{IfSome, IfNone, min}
use Rattle.std.proofs.lemmas.Bool.{true≢false}
use Rattle.std.proofs.lemmas.List.{take_all}
use Rattle.std.proofs.lemmas.Option.{slice_get_read}
use Rattle.git_object.specs.Objects.{Pair, pair_id}
use Rattle.git_object.specs.Repository.{HasObject, IsObject}
use Rattle.git_object.proofs.ObjectAt.{object_none}
use Rattle.clone_stream.specs.Reading.{ComesAfter, last_of}
use Rattle.pushes.proofs.Gathered.{added_more, found_all, kept_there, skipped_more, still_so, those_all, too_large}
use Rattle.pushes.proofs.Values.{has_at}
use Rattle.pushes.proofs.gathering.gather.Goals as goal

pub ids-preserved-then-not-follows_object : goal.ids-preserved-then-not-follows_object
ids-preserved-then-not-follows_object g c =
    let ids = c.args.ids.now in
    let there = slice_get_read ids (length ids) c.ids.id-index c.id-item.result refl c.ids-test.true c.id-item.is in
    record {
      so = skipped_more (g.R.Keeper.content c.ids.keeper) ids c.ids.id-index c.id-item.result there c.ids.objects c.ids.len c.ids.invariant.so c.requires
          (λ comes. true≢false (sym (c.follows_object.ensures.1
          (subst (λ (o : List Pair). ComesAfter (last_of (map pair_id o)) c.id-item.result) (sym c.as_slice.ensures) comes))
          ∙ c.if-not-follows_object.true));
      same = c.ids.invariant.same;
      quiet = c.ids.invariant.quiet;
    }

pub returns-in_default-clause-stops : goal.returns-in_default-clause-stops
returns-in_default-clause-stops g c = λ r told.
    let ids = c.args.ids.now in
    let there = slice_get_read ids (length ids) c.ids.id-index c.id-item.result refl c.ids-test.true c.id-item.is in
    let never = subst (λ (o : Option Pair). IfNone o ((pair : Pair) → HasObject r c.id-item.result pair → ⊥)) c.in_default.is
    (c.in_ok-object.ensures.none r told) in
    (has_at ids c.ids.id-index c.id-item.result there, object_none r c.id-item.result never)

pub returns-then-len-gt-LARGEST_PUSH-clause-stops :
    goal.returns-then-len-gt-LARGEST_PUSH-clause-stops
returns-then-len-gt-LARGEST_PUSH-clause-stops g c = λ r told.
    let ids = c.args.ids.now in
    let id = c.id-item.result in
    let pair = c.in-Some.object in
    let content = g.R.Keeper.content c.load_object.new.keeper in
    let there = slice_get_read ids (length ids) c.ids.id-index id refl c.ids-test.true c.id-item.is in
    let so = still_so (g.R.Keeper.content c.ids.keeper) content _ c.ids.objects c.ids.len c.in_ok-object.ensures.same.content c.ids.invariant.so in
    let own = subst (λ (o : Option Pair). IfSome o (IsObject id)) c.in-Some.is c.in_ok-object.ensures.own in
    let comes = subst (λ (o : List Pair). ComesAfter (last_of (map pair_id o)) id) c.as_slice.ensures
    (c.follows_object.ensures.0 c.if-not-follows_object.false) in
    let kept = kept_there content id c.in_ok-object.field-0 pair c.in-Some.is c.in_ok-object.ensures.found in
    let len = c.saturating_add-len.ensures ∙ ap (λ (n : ℕ). min (c.ids.len + n) (2 ^ 64 - 1)) c.record_len.ensures in
    too_large content ids c.ids.id-index id there c.ids.objects c.ids.len so pair c.as_bytes.ensures.valid own comes kept
    c.saturating_add-len.result len c.if-len-gt-LARGEST_PUSH.true r told

pub ids-preserved : goal.ids-preserved
ids-preserved g c =
    let ids = c.args.ids.now in
    let id = c.id-item.result in
    let pair = c.in-Some.object in
    let content = g.R.Keeper.content c.load_object.new.keeper in
    let there = slice_get_read ids (length ids) c.ids.id-index id refl c.ids-test.true c.id-item.is in
    let so = still_so (g.R.Keeper.content c.ids.keeper) content _ c.ids.objects c.ids.len c.in_ok-object.ensures.same.content c.ids.invariant.so in
    let own = subst (λ (o : Option Pair). IfSome o (IsObject id)) c.in-Some.is c.in_ok-object.ensures.own in
    let comes = subst (λ (o : List Pair). ComesAfter (last_of (map pair_id o)) id) c.as_slice.ensures
    (c.follows_object.ensures.0 c.if-not-follows_object.false) in
    let kept = kept_there content id c.in_ok-object.field-0 pair c.in-Some.is c.in_ok-object.ensures.found in
    let len = c.saturating_add-len.ensures ∙ ap (λ (n : ℕ). min (c.ids.len + n) (2 ^ 64 - 1)) c.record_len.ensures in
    record {
      so = added_more content ids c.ids.id-index id there c.ids.objects c.ids.len so pair c.as_bytes.ensures.valid own comes kept
          c.saturating_add-len.result len c.if-len-gt-LARGEST_PUSH.false c.push.new.self c.in_ok-push.ensures.added;
      same = search rules;
      quiet = search rules;
    }

pub returns-clause-those : goal.returns-clause-those
returns-clause-those g c = λ r told.
    those_all (g.R.Keeper.content c.ids.keeper) c.args.ids.now _ c.ids.objects c.ids.len
    (take_all c.ids.id-index c.args.ids.now c.ids-test.false) c.ids.invariant.so r told

pub returns-clause-found : goal.returns-clause-found
returns-clause-found g c = λ r told.
    found_all (g.R.Keeper.content c.ids.keeper) c.args.ids.now _ c.ids.objects c.ids.len
    (take_all c.ids.id-index c.args.ids.now c.ids-test.false) c.ids.invariant.so r told
