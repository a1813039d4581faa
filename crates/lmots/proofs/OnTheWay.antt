-- A table of chains, one of which changes.
use Rattle.std.proofs.Common.{◌≡◌, ◌≢◌, ℕ, ◌+◌, ◌-◌, ◌<◌, ◌≤◌, List, [], slice_index, slice_set, inl, inr, ◌∙◌, ap, sym, arith}
use Rattle.std.proofs.lemmas.Bool.{cases_eq, cases_lt}
use Rattle.std.proofs.lemmas.List.{length-set, get_or-set_same, get_or-set_other}
use Rattle.lmots.specs.Chain.{steps}
use Rattle.lmots.specs.OnWay.{AreOnWay, IsTable}

pub table_begun : (at to : List ℕ) (values : List (List ℕ)) (chain a b : ℕ) (value : List ℕ) → chain < 265 → a ≤ b → IsTable at to values
    → IsTable (slice_set at chain a) (slice_set to chain b) (slice_set values chain value)
table_begun at to values chain a b value inside le table = record {
  places = length-set at chain a ∙ table.places;
  ends = length-set to chain b ∙ table.ends;
  held = length-set values chain value ∙ table.held;
  low = λ c lt. elim (cases_eq c chain) [
    | inl same ↦
        let x : slice_index (slice_set at chain a) c ≡ a = rw same (get_or-set_same at chain a 0 (omega (arith, table.places))) in
        let y : slice_index (slice_set to chain b) c ≡ b = rw same (get_or-set_same to chain b 0 (omega (arith, table.ends))) in
        omega (arith, x, y)
    | inr other ↦
        let x = get_or-set_other at chain c a 0 other in
        let y = get_or-set_other to chain c b 0 other in
        omega (arith, x, y, table.low c lt)
  ];
}

pub table_advanced : (at to : List ℕ) (values : List (List ℕ)) (chain place : ℕ) (value : List ℕ) → chain < 265 → place ≤ slice_index to chain
    → IsTable at to values → IsTable (slice_set at chain place) to (slice_set values chain value)
table_advanced at to values chain place value inside le table = record {
  places = length-set at chain place ∙ table.places;
  ends = table.ends;
  held = length-set values chain value ∙ table.held;
  low = λ c lt. elim (cases_eq c chain) [
    | inl same ↦
        let x : slice_index (slice_set at chain place) c ≡ place = rw same (get_or-set_same at chain place 0 (omega (arith, table.places))) in
        let y : slice_index to chain ≡ slice_index to c = ap (λ k. slice_index to k) (sym same) in
        omega (arith, x, y)
    | inr other ↦
        let x = get_or-set_other at chain c place 0 other in
        omega (arith, x, table.low c lt)
  ];
}

pub begun : (i : List ℕ) (q : ℕ) (z : ℕ → List ℕ) (at to : List ℕ) (values : List (List ℕ)) (chain a b : ℕ) (value : List ℕ) → chain < 265 → IsTable at to values
    → steps i q chain a (b - a) value ≡ z chain → AreOnWay i q chain z at to values
    → AreOnWay i q (chain + 1) z (slice_set at chain a) (slice_set to chain b) (slice_set values chain value)
begun i q z at to values chain a b value inside table is before = record {
  goes = λ c lt. elim (cases_lt c chain) [
    | inl less ↦
        let other : c ≢ chain = omega arith in
        (λ k. steps i q c (get_or-set_other at chain c a 0 other k) (get_or-set_other to chain c b 0 other k - get_or-set_other at chain c a 0 other k) (get_or-set_other values chain c value [] other k))
        ∙ before.goes c less
    | inr more ↦
        let same : c ≡ chain = omega arith in
        rw same (
        (λ k. steps i q chain (get_or-set_same at chain a 0 (omega (arith, table.places)) k)
        (get_or-set_same to chain b 0 (omega (arith, table.ends)) k - get_or-set_same at chain a 0 (omega (arith, table.places)) k)
        (get_or-set_same values chain value [] (omega (arith, table.held)) k))
        ∙ is)
  ];
}

pub advanced : (i : List ℕ) (q n : ℕ) (z : ℕ → List ℕ) (at to : List ℕ) (values : List (List ℕ)) (chain place : ℕ) (value : List ℕ) → chain < 265 → IsTable at to values
    → steps i q chain place (slice_index to chain - place) value ≡ z chain → AreOnWay i q n z at to values
    → AreOnWay i q n z (slice_set at chain place) to (slice_set values chain value)
advanced i q n z at to values chain place value inside table is before = record {
  goes = λ c lt. elim (cases_eq c chain) [
    | inr other ↦
        (λ k. steps i q c (get_or-set_other at chain c place 0 other k) (slice_index to c - get_or-set_other at chain c place 0 other k) (get_or-set_other values chain c value [] other k))
        ∙ before.goes c lt
    | inl same ↦
        rw same (
        (λ k. steps i q chain (get_or-set_same at chain place 0 (omega (arith, table.places)) k)
        (slice_index to chain - get_or-set_same at chain place 0 (omega (arith, table.places)) k)
        (get_or-set_same values chain value [] (omega (arith, table.held)) k))
        ∙ is)
  ];
}

-- the same ends, said in another way
pub on_said : (i : List ℕ) (q n : ℕ) (y z : ℕ → List ℕ) (at to : List ℕ) (values : List (List ℕ)) → ((c : ℕ) → c < n → y c ≡ z c)
    → AreOnWay i q n y at to values → AreOnWay i q n z at to values
on_said i q n y z at to values same on = record { goes = λ c lt. on.goes c lt ∙ same c lt }
