-- The object that an id leads to, by the clauses of what was looked up.
use Rattle.std.proofs.Common.{◌≡◌, ℕ, Bool, true, false, ◌&&◌, List, length, Option, Some, None, refl, ap, ◌∙◌}
use Rattle.std.specs.Prelude.{nat_le}
use Rattle.std.specs.Cmp.Derive.{both_true}
use Rattle.std.specs.FinMap.{get}
use Rattle.std.specs.Option.{option_and_then}
use Rattle.std.specs.Str.{bytes_eq}
use Rattle.std.proofs.lemmas.Bool.{and_parts, leb-true, le-leb}
use Rattle.std.proofs.lemmas.Slice.Eq.{bytes_eq-Decides}
use Rattle.git_object.specs.Objects.{Pair, pair_id}
use Rattle.git_object.specs.Repository.{HasObject, IsObject, Repository, if_own, largest_body, object_at, own_pair}

pub own_there : (id : List ℕ) (pair : Pair) → IsObject id pair → own_pair id pair ≡ Some pair
own_there id pair is =
    ap (λ (b : Bool). if_own b pair) (both_true ((bytes_eq-Decides (pair_id pair) id).1 is.own) (le-leb (length pair.body) largest_body is.small))

-- an object that an id leads to is there
pub object_there : (r : Repository) (id : List ℕ) (pair : Pair) → HasObject r id pair → object_at r id ≡ Some pair
object_there r id pair has = ap (option_and_then (own_pair id)) has.kept ∙ own_there id pair has.is

is_own : (id : List ℕ) (pair : Pair) → (bytes_eq (pair_id pair) id && nat_le (length pair.body) largest_body) ≡ true → IsObject id pair
is_own id pair test =
    let parts = and_parts (bytes_eq (pair_id pair) id) (nat_le (length pair.body) largest_body) test in
    record { own = (bytes_eq-Decides (pair_id pair) id).0 parts.0; small = leb-true (length pair.body) largest_body parts.1 }

not_own : (id : List ℕ) (pair : Pair) (b : Bool) → (bytes_eq (pair_id pair) id && nat_le (length pair.body) largest_body) ≡ b → (IsObject id pair → ⊥) → if_own b pair ≡ None
not_own id pair true test never = absurd (never (is_own id pair test))
not_own id pair false test never = refl

looked_up : (r : Repository) (id : List ℕ) (found : Option Pair) → get r.objects id ≡ found → ((pair : Pair) → HasObject r id pair → ⊥) → option_and_then (own_pair id) found ≡ None
looked_up r id None is never = refl
looked_up r id (Some pair) is never =
    not_own id pair (bytes_eq (pair_id pair) id && nat_le (length pair.body) largest_body) refl (λ own. never pair (record { kept = is; is = own }))

-- where no object is there, the id leads to none
pub object_none : (r : Repository) (id : List ℕ) → ((pair : Pair) → HasObject r id pair → ⊥) → object_at r id ≡ None
object_none r id never = looked_up r id (get r.objects id) refl never
