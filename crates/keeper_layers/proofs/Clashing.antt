-- What a store has under the id of an object.
use Rattle.std.proofs.Common.{◌≡◌, ◌+◌, ◌<◌, ℕ, Bool, true, false, not, List, [], ◌∷◌, ◌++◌, get_or, length, take, drop, Option, Some, None, refl, sym, ap, subst, ◌∙◌}
use Rattle.std.specs.Prelude.{IfNone, IfSome}
use Rattle.std.proofs.lemmas.Bool.{true≢false}
use Rattle.std.proofs.lemmas.List.{take-append-drop, take_more}
use Rattle.git_object.proofs.ObjectAt.{object_none, object_there}
use Rattle.git_object.proofs.Runs.{all_front, all_last, all_push}
use Rattle.git_object.specs.Objects.{Pair, pair_id}
use Rattle.git_object.specs.Repository.{HasObject, Repository, object_at}
use Rattle.keeper_api.specs.Growing.{ClashesNowhere, NoneClashes}

clash_none : (r : Repository) (pair : Pair) → object_at r (pair_id pair) ≡ None → ClashesNowhere r pair
clash_none r pair none id kept has same = let bad : None ≡ Some kept = sym none ∙ ap (object_at r) same ∙ has in cc

clash_same : (r : Repository) (pair had : Pair) → object_at r (pair_id pair) ≡ Some had → had ≡ pair → ClashesNowhere r pair
clash_same r pair had found is id kept has same =
    let e : Some had ≡ Some kept = sym found ∙ ap (object_at r) same ∙ has in
    let one : had ≡ kept = cc in
    sym is ∙ one

pub clash_push : (r : Repository) (pairs : List Pair) (i : ℕ) (pair : Pair) → i < length pairs → pair ≡ get_or pairs i pair → NoneClashes (take i pairs) r
    → ClashesNowhere r pair → NoneClashes (take (i + 1) pairs) r
clash_push r pairs i pair within here before one =
    subst (λ (ps : List Pair). NoneClashes ps r) (sym (take_more pairs i pair within ∙ ap (λ (p : Pair). take i pairs ++ p ∷ []) (sym here)))
    (all_push (ClashesNowhere r) (take i pairs) pair before one)

pub clash_some : (r : Repository) (pair had : Pair) (id : List ℕ) (found : Option Pair) → id ≡ pair_id pair → found ≡ Some had → IfSome found (HasObject r id)
    → had ≡ pair → ClashesNowhere r pair
clash_some r pair had id found at is has same =
    let there : HasObject r id had = subst (λ (f : Option Pair). IfSome f (HasObject r id)) is has in
    clash_same r pair had (ap (object_at r) (sym at) ∙ object_there r id had there) same

pub clash_missing : (r : Repository) (pair : Pair) (id : List ℕ) (found : Option Pair) → id ≡ pair_id pair → found ≡ None
    → IfNone found ((p : Pair) → HasObject r id p → ⊥) → ClashesNowhere r pair
clash_missing r pair id found at is none =
    let missing : (p : Pair) → HasObject r id p → ⊥ = subst (λ (f : Option Pair). IfNone f ((p : Pair) → HasObject r id p → ⊥)) is none in
    clash_none r pair (ap (object_at r) (sym at) ∙ object_none r id missing)

pub not_false : (b : Bool) → not b ≡ false → b ≡ true
not_false true e = refl
not_false false e = absurd (true≢false e)

-- another object that is kept under this one's id is a clash
pub clash_other : (r : Repository) (pair had : Pair) (id : List ℕ) (found : Option Pair) → id ≡ pair_id pair → found ≡ Some had → IfSome found (HasObject r id)
    → (had ≡ pair → ⊥) → ClashesNowhere r pair → ⊥
clash_other r pair had id found at is has other nowhere =
    let there : HasObject r id had = subst (λ (f : Option Pair). IfSome f (HasObject r id)) is has in
    other (sym (nowhere id had (object_there r id had there) (sym at)))

-- where one of these clashes, not all are without a clash
pub clash_one : (r : Repository) (pairs : List Pair) (i : ℕ) (pair : Pair) → i < length pairs → pair ≡ get_or pairs i pair
    → (ClashesNowhere r pair → ⊥) → NoneClashes pairs r → ⊥
clash_one r pairs i pair within here clash none =
    let front : NoneClashes (take (i + 1) pairs) r = all_front (ClashesNowhere r) (take (i + 1) pairs) (drop (i + 1) pairs)
    (subst (λ (ps : List Pair). NoneClashes ps r) (sym (take-append-drop (i + 1) pairs)) none) in
    clash (all_last (ClashesNowhere r) (take i pairs) pair
    (subst (λ (ps : List Pair). NoneClashes ps r) (take_more pairs i pair within ∙ ap (λ (p : Pair). take i pairs ++ p ∷ []) (sym here)) front))

pub not_true : (b : Bool) → not b ≡ true → b ≡ true → ⊥
not_true true e is = true≢false (sym e)
not_true false e is = true≢false (sym is)
