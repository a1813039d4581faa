-- The last row of a log, and what is looked up in a store.
use Rattle.std.proofs.Common.{◌≡◌, ℕ, suc, ◌-◌, List, [], ◌∷◌, Option, Some, None, length, map, refl, sym, ap, subst, ◌∙◌, arith}
use Rattle.std.specs.Prelude.{IfNone, IfSome, option_map, slice_get}
use Rattle.git_object.specs.Repository.{HasObject, Repository, object_at}
use Rattle.git_object.specs.Objects.{Pair}
use Rattle.git_object.proofs.ObjectAt.{object_none, object_there}
use Rattle.rsl_chain.specs.Chain.{last_of}
use Rattle.pushes.specs.Steps.{ids_of, row_id}
use Rattle.pushes.specs.declared.rows.Row.{Row}

last_is : (log : List Row) → last_of (ids_of log) ≡ option_map row_id (slice_get log (length log - 1))
last_is [] = refl
last_is (x ∷ []) = refl
last_is (x ∷ y ∷ log) =
    let place : length (x ∷ y ∷ log) - 1 ≡ suc (length (y ∷ log) - 1) = omega arith in
    last_is (y ∷ log) ∙ sym (ap (λ (n : ℕ). option_map row_id (slice_get (x ∷ y ∷ log) n)) place)

pub tip_some : (log : List Row) (row : Row) → Some row ≡ slice_get log (length log - 1) → Some row.id ≡ last_of (ids_of log)
tip_some log row e = ap (option_map row_id) e ∙ sym (last_is log)

pub kept_is : (r : Repository) (id : List ℕ) (pair : Pair) → HasObject r id pair → object_at r id ≡ None → ⊥
kept_is r id pair has none = let both : Some pair ≡ None = sym (object_there r id pair has) ∙ none in cc both

pub kept_some : (r : Repository) (id : List ℕ) (found : Option Pair) (pair : Pair) → found ≡ Some pair → IfSome found (HasObject r id) → object_at r id ≡ None → ⊥
kept_some r id found pair is has none = kept_is r id pair (subst (λ (o : Option Pair). IfSome o (HasObject r id)) is has) none

pub kept_none : (r : Repository) (id : List ℕ) (found : Option Pair) → found ≡ None → IfNone found ((pair : Pair) → HasObject r id pair → ⊥) → object_at r id ≡ None
kept_none r id found is never = object_none r id (subst (λ (o : Option Pair). IfNone o ((pair : Pair) → HasObject r id pair → ⊥)) is never)
