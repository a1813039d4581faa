-- A repository that has the objects of a change beside the old ones finds the approval that was put.
use Rattle.std.proofs.Common.{◌≡◌, ◌≢◌, ℕ, zero, suc, arith, get_or, Bool, true, false, cond, List, [], ◌∷◌, ◌++◌, length, Option, Some, None, refl, sym, ap, subst, ◌∙◌}
use Rattle.std.specs.Prelude.{Ok, Err, option_and_then}
use Rattle.std.specs.List.{AllByRecursion}
use Rattle.std.specs.Result.{result_ok}
use Rattle.std.specs.Str.{bytes_eq}
use Rattle.std.proofs.lemmas.Bool.{le-leb}
use Rattle.git_object.specs.Commits.{IsCommitText, commit_lines}
use Rattle.git_object.specs.Ids.{IsId, zeros}
use Rattle.git_object.specs.Names.{IsRefName, components}
use Rattle.git_object.specs.Objects.{Pair, pair_id}
use Rattle.git_object.specs.Repository.{HasObject, Repository}
use Rattle.git_object.specs.declared.commits.Commit.{Commit}
use Rattle.git_object.specs.declared.kinds.Kind.{Kind}
use Rattle.git_object.specs.declared.modes.Mode.TheVariants.{File}
use Rattle.dsse_envelope.specs.Envelopes.{reading}
use Rattle.dsse_envelope.specs.Written.{text_of}
use Rattle.dsse_envelope.specs.declared.envelope.Envelope.{Envelope}
use Rattle.object_making.specs.Keeping.{Keeps}
use Rattle.object_making.proofs.Kept.{kept_all}
use Rattle.tree_paths.specs.Lookups.{entry_at}
use Rattle.git_object.proofs.ObjectAt.{object_there}
use Rattle.tree_paths.specs.Readings.{Heads, IsHeadAt, Trees}
use Rattle.tree_paths.specs.Repositories.{readings_of}
use Rattle.tree_paths.specs.States.{PathValue, may_be_commit, may_be_tag, peel_step, peeled, root_of}
use Rattle.tree_paths.specs.declared.heads.TargetHead.{TargetHead}
use Rattle.tree_paths.specs.declared.heads.TargetHead.TheVariants.{Next, Other, Root}
use Rattle.tree_paths.specs.declared.heads.Peeled.{Peeled}
use Rattle.tree_paths.specs.declared.heads.Peeled.TheVariants.{At, Bad, Nothing}
use Rattle.keeper_api.specs.Changes.{changed}
use Rattle.keeper_api.specs.Growing.{AreNew}
use Rattle.keeper_api.proofs.Growing.{grows, has_there, stays}
use Rattle.tree_paths.proofs.Blobs.{text_tested}
use Rattle.tree_paths.proofs.Existence.{are_readings}
use Rattle.tree_paths.proofs.GrowingPeels.{is_good, root_same}
use Rattle.tree_paths.proofs.GrowingReadings.{more_read}
use Rattle.tree_paths.proofs.ObjectsRead.{commit_there}
use Rattle.tree_paths.proofs.PathNames.{some_parts}
use Rattle.tree_paths.proofs.Peels.{peel_root}
use Rattle.approvals.specs.Approvals.{approval_path}
use Rattle.approvals.specs.Lookups.{approval_at, entry_in, signers_of, tree_of}
use Rattle.approvals.proofs.Elsewhere.{all_else_kept}
use Rattle.approvals.proofs.Finding.{file_entry, file_there, this_envelope}
use Rattle.approvals.proofs.PathParts.{path_named}
use Rattle.approvals.specs.Attesting.{IsAttestable, approval_pair, attested, attested_after, attested_with, change_of, commit_pair, commit_rest, parents_of}
use Rattle.approvals.specs.Files.{Putting, put_file}
use Rattle.approvals.specs.Finding.{path_from}
use Rattle.approvals.specs.Tied.{HasBoth, IsFoundAgain, StaysElsewhere, path_in}
use Rattle.approvals.specs.declared.attesting.Attested.{Attested}
use Rattle.approvals.proofs.Found.{all_front, all_last, file_put, id_of_pair, root_is}
use Rattle.approvals.proofs.Held.{are_held}
use Rattle.object_making.proofs.InOrder.{not_same}

-- ---- the commit that a target is peeled to

commit_by : (b : Bool) (id tree c t : List ℕ) (heads : Heads) → Root tree ≡ heads id → cond b (At id tree) (Bad id) ≡ At c t → heads c ≡ Root t
commit_by true id tree c t heads is e =
    let same : id ≡ c = cc in
    let same_tree : tree ≡ t = cc in
    ap heads (sym same) ∙ sym is ∙ ap Root same_tree
commit_by false id tree c t heads is e = cc

tag_by : (b : Bool) (next : Peeled) (id c t : List ℕ) → cond b next (Bad id) ≡ At c t → next ≡ At c t
tag_by true next id c t e = e
tag_by false next id c t e = cc

commit_step : (heads : Heads) (next : List ℕ → Kind → Peeled) (id : List ℕ) (wanted : Option Kind) (h : TargetHead) (c t : List ℕ) → h ≡ heads id → peel_step next id wanted h ≡ At c t
    → ((object : List ℕ) (names : Kind) → next object names ≡ At c t → heads c ≡ Root t) → heads c ≡ Root t
commit_step heads next id wanted Other c t is e later = cc
commit_step heads next id wanted (Root tree) c t is e later = commit_by (may_be_commit wanted) id tree c t heads is e
commit_step heads next id wanted (Next object names) c t is e later = later object names (tag_by (may_be_tag wanted) (next object names) id c t e)

commit_peeled : (heads : Heads) (n : ℕ) (wanted : Option Kind) (id c t : List ℕ) → peeled heads n wanted id ≡ At c t → heads c ≡ Root t
unfolding peeled
commit_peeled heads zero wanted id c t e = commit_step heads (λ object names. Bad id) id wanted (heads id) c t refl e (λ object names bad. cc bad)
commit_peeled heads (suc n) wanted id c t e =
    commit_step heads (λ object names. peeled heads n (Some names) object) id wanted (heads id) c t refl e (λ object names more. commit_peeled heads n (Some names) object c t more)

by_zeros : (b : Bool) (heads : Heads) (target c t : List ℕ) → cond b Nothing (peeled heads 8 None target) ≡ At c t → heads c ≡ Root t
by_zeros true heads target c t e = cc
by_zeros false heads target c t e = commit_peeled heads 8 None target c t e

commit_id : (r : Repository) (c t : List ℕ) (h : TargetHead) → h ≡ Root t → IsHeadAt r c h → IsId c
commit_id r c t Other e at = cc
commit_id r c t (Next object names) e at = cc
commit_id r c t (Root tree) e at = subst IsId at.kept.is.own (id_of_pair at.pair)

parent_id : (r : Repository) (target c t : List ℕ) → root_of (readings_of r).heads target ≡ At c t → IsId c
parent_id r target c t e =
    commit_id r c t ((readings_of r).heads c) (by_zeros (bytes_eq target zeros) (readings_of r).heads target c t e) ((are_readings r).heads c)

-- ---- the new commit

new_root : (r : Repository) (root author : List ℕ) (parent : Option (List ℕ)) (commit : List ℕ) → IsId root → AllByRecursion IsId (parents_of parent)
    → commit ≡ pair_id (commit_pair root (parents_of parent) author) → HasObject r (pair_id (commit_pair root (parents_of parent) author)) (commit_pair root (parents_of parent) author) → commit ≢ zeros
    → root_of (readings_of r).heads commit ≡ At commit root
new_root r root author parent commit id parents is has some =
    let value : Commit = record { tree = root; parents = parents_of parent; rest = commit_rest author } in
    let pair : Pair = commit_pair root (parents_of parent) author in
    let text : IsCommitText (record { tree = root; parents = parents_of parent; rest = commit_rest author }) (commit_lines root (parents_of parent) ++ commit_rest author) =
    record { lines = record { tree_is = id; parents_are = parents; front = refl }; no_parent = λ more e. (let first : 97 ≡ 112 = ap (λ (t : List ℕ). get_or t 0 0) e in absurd (omega arith)) } in
    let has_it : HasObject r commit (commit_pair root (parents_of parent) author) = subst (λ (i : List ℕ). HasObject r i (commit_pair root (parents_of parent) author)) (sym is) has in
    let head = commit_there r commit (commit_pair root (parents_of parent) author) (record { tree = root; parents = parents_of parent; rest = commit_rest author }) ((readings_of r).heads commit) has_it refl text
    ((are_readings r).heads commit) in
    ap (λ (b : Bool). cond b Nothing (peeled (readings_of r).heads 8 None commit)) (not_same commit zeros some)
    ∙ sym (peel_root (readings_of r).heads 8 None commit root head refl)

-- ---- the approval

abbrev Premises : Repository → Repository → List ℕ → List ℕ → List ℕ → Envelope → Type 0
Premises before after name from tree envelope = IsRefName name × IsId from × IsId tree × IsAttestable name from tree envelope × (reading (text_of envelope) ≡ Ok envelope)

found_with : (before after : Repository) (name from tree author : List ℕ) (envelope : Envelope) (a : Attested) (parent old : Option (List ℕ)) (put : Putting) → Premises before after name from tree envelope
    → put_file (readings_of before).trees (pair_id (approval_pair envelope)) (components (approval_path name from tree)) old ≡ put
    → attested_with (approval_pair envelope) author parent put ≡ Ok a → AllByRecursion IsId (parents_of parent) → HasBoth before after a.change.objects → a.commit ≢ zeros
    → Some envelope ≡ approval_at after a.commit name from tree
found_with before after name from tree author envelope a parent old (Err id) given is e parents both some = cc
found_with before after name from tree author envelope a parent old (Ok made) given is e parents both some =
    let blob = pair_id (approval_pair envelope) in
    let names = components (approval_path name from tree) in
    let commit = commit_pair made.root (parents_of parent) author in
    let it : Attested = record { change = change_of (approval_pair envelope) made.objects (commit_pair made.root (parents_of parent) author); commit = pair_id (commit_pair made.root (parents_of parent) author) } in
    let same : it ≡ a = cc in
    let P : Pair → Type 0 = λ pair. HasObject after (pair_id pair) pair in
    let all : AllByRecursion P (approval_pair envelope ∷ (made.objects ++ commit_pair made.root (parents_of parent) author ∷ [])) =
    subst (AllByRecursion P) (ap (λ (x : Attested). x.change.objects) (sym same)) both.new in
    let held = are_held before after (readings_of before) (readings_of after) (are_readings before) (are_readings after) both.old in
    let keeps : Keeps (readings_of after).trees made.objects =
    kept_all after (readings_of after) (are_readings after) made.objects (all_front P made.objects (commit_pair made.root (parents_of parent) author ∷ []) all.1) in
    let some_names = some_parts (approval_path name from tree) in
    let root = root_is (readings_of before).trees (pair_id (approval_pair envelope)) (components (approval_path name from tree)) old made some_names is in
    let target = new_root after made.root author parent a.commit root parents (ap (λ (x : Attested). x.commit) (sym same))
    (all_last P made.objects (commit_pair made.root (parents_of parent) author) all.1) some in
    let value : PathValue = (File, pair_id (approval_pair envelope)) in
    let file = file_put (readings_of before).trees (pair_id (approval_pair envelope)) (components (approval_path name from tree)) old made (readings_of after).trees held.read (id_of_pair (approval_pair envelope))
    (path_named name from tree given.0 given.1 given.2) some_names is keeps in
    let entry : entry_in (readings_of after) a.commit (approval_path name from tree) ≡ Some (File, pair_id (approval_pair envelope)) =
    ap (λ (p : Peeled). option_and_then (entry_at (readings_of after).trees (components (approval_path name from tree))) (tree_of p)) target ∙ file in
    let bytes = text_tested after (pair_id (approval_pair envelope)) (Some (approval_pair envelope)) (approval_pair envelope) true
    (sym (object_there after (pair_id (approval_pair envelope)) (approval_pair envelope) all.0)) refl (le-leb (length (text_of envelope)) 1048576 given.3.small) in
    file_there after a.commit name from tree (text_of envelope) (Some envelope)
    (file_entry after a.commit (approval_path name from tree) (File, pair_id (approval_pair envelope)) (Some (text_of envelope)) (sym entry) refl bytes)
    (this_envelope name from tree (text_of envelope) envelope (sym (ap result_ok given.4)) given.3.approves)

found_after : (before after : Repository) (target name from tree author : List ℕ) (envelope : Envelope) (a : Attested) (p : Peeled) → root_of (readings_of before).heads target ≡ p
    → Premises before after name from tree envelope → attested_after (readings_of before).trees (approval_pair envelope) author (components (approval_path name from tree)) p ≡ Ok a
    → HasBoth before after a.change.objects → a.commit ≢ zeros → Some envelope ≡ approval_at after a.commit name from tree
found_after before after target name from tree author envelope a (Bad id) is given e both some = cc
found_after before after target name from tree author envelope a Nothing is given e both some =
    found_with before after name from tree author envelope a None None _ given refl e tt both some
found_after before after target name from tree author envelope a (At commit root) is given e both some =
    found_with before after name from tree author envelope a (Some commit) (Some root) _ given refl e (parent_id before target commit root is, tt) both some

-- ---- after the change

both_of : (r : Repository) (a : Attested) → AreNew a.change.objects r → HasBoth r (changed a.change r) a.change.objects
both_of r a new = record {
  old = λ id pair has. has_there (changed a.change r) id pair (grows a.change r new.kept id pair (object_there r id pair has));
  new = stays a.change r new;
}

pub found_again : (r : Repository) → IsFoundAgain r
unfolding attested
found_again r = λ target name from tree author envelope keys a named id id_tree may reads e new some.
    ap (signers_of keys) (sym (found_after r (changed a.change r) target name from tree author envelope a (root_of (readings_of r).heads target) refl (named, id, id_tree, may, reads) e (both_of r a new) some))

-- ---- the other paths

other_with : (before after : Repository) (name from tree author : List ℕ) (envelope : Envelope) (a : Attested) (parent old : Option (List ℕ)) (put : Putting) (others : List (List ℕ))
    → IsRefName name → IsId from → IsId tree → put_file (readings_of before).trees (pair_id (approval_pair envelope)) (components (approval_path name from tree)) old ≡ put
    → attested_with (approval_pair envelope) author parent put ≡ Ok a → AllByRecursion IsId (parents_of parent) → HasBoth before after a.change.objects → a.commit ≢ zeros
    → others ≢ components (approval_path name from tree) → path_in (readings_of after) others a.commit ≡ path_from (readings_of after).trees others old
other_with before after name from tree author envelope a parent old (Err id) others named id_from id_tree is e parents both some apart = cc
other_with before after name from tree author envelope a parent old (Ok made) others named id_from id_tree is e parents both some apart =
    let blob = pair_id (approval_pair envelope) in
    let commit = commit_pair made.root (parents_of parent) author in
    let it : Attested = record { change = change_of (approval_pair envelope) made.objects (commit_pair made.root (parents_of parent) author); commit = pair_id (commit_pair made.root (parents_of parent) author) } in
    let same : it ≡ a = cc in
    let P : Pair → Type 0 = λ pair. HasObject after (pair_id pair) pair in
    let all : AllByRecursion P (approval_pair envelope ∷ (made.objects ++ commit_pair made.root (parents_of parent) author ∷ [])) =
    subst (AllByRecursion P) (ap (λ (x : Attested). x.change.objects) (sym same)) both.new in
    let held = are_held before after (readings_of before) (readings_of after) (are_readings before) (are_readings after) both.old in
    let keeps : Keeps (readings_of after).trees made.objects =
    kept_all after (readings_of after) (are_readings after) made.objects (all_front P made.objects (commit_pair made.root (parents_of parent) author ∷ []) all.1) in
    let some_names = some_parts (approval_path name from tree) in
    let root = root_is (readings_of before).trees (pair_id (approval_pair envelope)) (components (approval_path name from tree)) old made some_names is in
    let target = new_root after made.root author parent a.commit root parents (ap (λ (x : Attested). x.commit) (sym same))
    (all_last P made.objects (commit_pair made.root (parents_of parent) author) all.1) some in
    ap (λ (p : Peeled). path_from (readings_of after).trees others (tree_of p)) target
    ∙ all_else_kept (readings_of before).trees (pair_id (approval_pair envelope)) (components (approval_path name from tree)) old made (readings_of after).trees others held.read
    (id_of_pair (approval_pair envelope)) (path_named name from tree named id_from id_tree) some_names is keeps held.remain apart

other_after : (r after : Repository) (target name from tree author : List ℕ) (envelope : Envelope) (a : Attested) (p : Peeled) (others : List (List ℕ)) → root_of (readings_of r).heads target ≡ p
    → IsRefName name → IsId from → IsId tree → attested_after (readings_of r).trees (approval_pair envelope) author (components (approval_path name from tree)) p ≡ Ok a
    → HasBoth r after a.change.objects → a.commit ≢ zeros → others ≢ components (approval_path name from tree)
    → path_in (readings_of after) others a.commit ≡ path_from (readings_of after).trees others (tree_of p)
other_after r after target name from tree author envelope a (Bad id) others is named id_from id_tree e both some apart = cc
other_after r after target name from tree author envelope a Nothing others is named id_from id_tree e both some apart =
    other_with r after name from tree author envelope a None None _ others named id_from id_tree refl e tt both some apart
other_after r after target name from tree author envelope a (At commit root) others is named id_from id_tree e both some apart =
    other_with r after name from tree author envelope a (Some commit) (Some root) _ others named id_from id_tree refl e (parent_id r target commit root is, tt) both some apart

good_root : (trees : Trees) (blob : Pair) (author : List ℕ) (names : List (List ℕ)) (p : Peeled) (a : Attested) → attested_after trees blob author names p ≡ Ok a → is_good p ≡ true
good_root trees blob author names Nothing a e = refl
good_root trees blob author names (Bad id) a e = let bad : Err id ≡ Ok a = e in cc
good_root trees blob author names (At commit tree) a e = refl

pub stays_elsewhere : (r : Repository) → StaysElsewhere r
unfolding attested
stays_elsewhere r = λ target name from tree author envelope a others named id_from id_tree e new some apart.
    let after = changed a.change r in
    let p = root_of (readings_of r).heads target in
    let good = good_root (readings_of r).trees (approval_pair envelope) author (components (approval_path name from tree)) p a e in
    let grown = more_read r after (grows a.change r new.kept) in
    let root = root_same (readings_of r).heads (readings_of after).heads grown.heads target p good refl in
    other_after r after target name from tree author envelope a p others refl named id_from id_tree e (both_of r a new) some apart
    ∙ ap (λ (q : Peeled). path_from (readings_of after).trees others (tree_of q)) (sym root)
