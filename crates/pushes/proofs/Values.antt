-- The value that a reference has after entries.
use Rattle.std.proofs.Common.{◌≡◌, ◌≢◌, ℕ, zero, suc, ◌≤◌, List, [], ◌∷◌, Some, inl, inr, length, refl, sym, ap, subst, ◌∙◌, arith}
use Rattle.std.specs.Prelude.{◌||◌, Bool, true, false, slice_get}
use Rattle.git_object.specs.Ids.{zeros}
use Rattle.git_object.specs.Repository.{Repository}
use Rattle.rsl_chain.specs.Logs.{IsNamed, IsNoEntryAs, entry_at}
use Rattle.rsl_chain.specs.declared.entries.Entry.{Entry}
use Rattle.rsl_chain.specs.declared.entries.EntryBody.{EntryBody}
use Rattle.rsl_chain.specs.declared.entries.EntryBody.TheVariants.{Reference, Annotation}
use Rattle.rsl_chain.specs.declared.log_faults.LogFault.{LogFault}
use Rattle.rsl_chain.specs.declared.log_faults.LogFault.TheVariants.{Broken, Failed, Memory}
use Rattle.std.proofs.lemmas.Slice.Eq.{bytes_eq-Decides}
use Rattle.pushes.specs.Needing.{has}
use Rattle.pushes.proofs.Walks.{tri}
use Rattle.pushes.specs.Going.{AreNew, Go, GoWith, IsBreakAmong, IsLast, IsValueAfter, RecordsAt}
use Rattle.pushes.specs.Reaching.{AreReached}
use Rattle.pushes.proofs.Visiting.{one_reached}

pub same_some : {A : Type 0} (a b : A) → Some a ≡ Some b → a ≡ b
same_some a b e = cc

abbrev recorded : EntryBody → List ℕ
recorded (Reference name target) = target
recorded (Annotation ids skip message) = []

-- ---- one value

one_at : (r : Repository) (name : List ℕ) (ids : List (List ℕ)) (n : ℕ) (a b : List ℕ) → RecordsAt r name ids n a → RecordsAt r name ids n b → a ≡ b
one_at r name ids n a b x y =
    let id : x.id ≡ y.id = same_some x.id y.id (sym x.there ∙ y.there) in
    let entry : x.entry ≡ y.entry = same_some x.entry y.entry (sym x.read ∙ ap (entry_at r) id ∙ y.read) in
    ap recorded (sym x.records ∙ ap (λ (e : Entry). e.body) entry ∙ y.records)

one_last : (r : Repository) (name : List ℕ) (ids : List (List ℕ)) (a b : List ℕ) → IsLast r name ids a → IsLast r name ids b → a ≡ b
one_last r name ids a b x y = elim (tri x.place y.place) [
  | inl lt ↦ absurd (x.last y.place b lt y.at)
  | inr (inl same) ↦ one_at r name ids y.place a b (subst (λ (n : ℕ). RecordsAt r name ids n a) same x.at) y.at
  | inr (inr gt) ↦ absurd (y.last x.place a gt x.at)
]

pub one_value : (r : Repository) (name : List ℕ) (ids : List (List ℕ)) (a b : List ℕ) → IsValueAfter r name ids a → IsValueAfter r name ids b → a ≡ b
one_value r name ids a b (inl x) (inl y) = one_last r name ids a b x y
one_value r name ids a b (inl x) (inr y) = absurd (y.none x.place a x.at)
one_value r name ids a b (inr x) (inl y) = absurd (x.none y.place b y.at)
one_value r name ids a b (inr x) (inr y) = x.is ∙ sym y.is

-- ---- one list of ids

one_new : (r : Repository) (before : List (List ℕ)) (name target : List ℕ) (xs ys : List (List ℕ)) → AreNew r before name target xs
    → AreNew r before name target ys → xs ≡ ys
one_new r before name target xs ys a b =
    let was : a.was ≡ b.was = one_value r name before a.was b.was a.value b.value in
    one_reached r b.was target xs ys (subst (λ (w : List ℕ). AreReached r w target xs) was a.reached) b.reached

one_with : (r : Repository) (before : List (List ℕ)) (body : EntryBody) (xs ys : List (List ℕ)) → GoWith r before body xs → GoWith r before body ys → xs ≡ ys
one_with r before (Reference name target) xs ys a b = one_new r before name target xs ys a b
one_with r before (Annotation ids skip message) xs ys a b = a ∙ sym b

pub one_go : (r : Repository) (before : List (List ℕ)) (id : List ℕ) (xs ys : List (List ℕ)) → Go r before id xs → Go r before id ys → xs ≡ ys
one_go r before id xs ys a b =
    let entry : a.entry ≡ b.entry = same_some a.entry b.entry (sym a.read ∙ b.read) in
    one_with r before b.entry.body xs ys (subst (λ (e : Entry). GoWith r before e.body xs) entry a.with_body) b.with_body

-- ---- back through the entries

-- none of the entries from this place on records the reference
pub record NoneFrom (r : Repository) (name : List ℕ) (ids : List (List ℕ)) (end : ℕ) : Type 0 where
  pub none : (n : ℕ) (other : List ℕ) → end ≤ n → RecordsAt r name ids n other → ⊥

past_end : (ids : List (List ℕ)) (n : ℕ) (id : List ℕ) → length ids ≤ n → slice_get ids n ≡ Some id → ⊥
past_end [] n id le e = cc e
past_end (x ∷ ids) zero id le e = absurd (omega (arith, le))
past_end (x ∷ ids) (suc n) id le e = past_end ids n id (omega (arith, le)) e

pub none_at_end : (r : Repository) (name : List ℕ) (ids : List (List ℕ)) → NoneFrom r name ids (length ids)
none_at_end r name ids = record { none = λ n other le at. past_end ids n at.id le at.there }

-- the entry at the place before does not record it either
pub none_before : (r : Repository) (name : List ℕ) (ids : List (List ℕ)) (end place : ℕ) (id : List ℕ) (entry : Entry) → end ≡ suc place
    → slice_get ids place ≡ Some id
    → entry_at r id ≡ Some entry → ((target : List ℕ) → entry.body ≢ Reference name target) → NoneFrom r name ids end → NoneFrom r name ids place
none_before r name ids end place id entry next there read not from = record { none = go }
  where
    go : (n : ℕ) (other : List ℕ) → place ≤ n → RecordsAt r name ids n other → ⊥
    go n other le at = elim (tri place n) [
      | inl lt ↦ from.none n other (omega (arith, lt, next)) at
      | inr (inl same) ↦
          let here : RecordsAt r name ids place other = subst (λ (k : ℕ). RecordsAt r name ids k other) (sym same) at in
          let one_id : here.id ≡ id = same_some here.id id (sym here.there ∙ there) in
          let one_entry : here.entry ≡ entry = same_some here.entry entry (sym here.read ∙ ap (entry_at r) one_id ∙ read) in
          not other (sym (ap (λ (e : Entry). e.body) one_entry) ∙ here.records)
      | inr (inr gt) ↦ absurd (omega (arith, gt, le))
    ]

pub found_last : (r : Repository) (name : List ℕ) (ids : List (List ℕ)) (end place : ℕ) (id : List ℕ) (entry : Entry) (target : List ℕ) → end ≡ suc place
    → slice_get ids place ≡ Some id → entry_at r id ≡ Some entry → entry.body ≡ Reference name target → NoneFrom r name ids end
    → IsValueAfter r name ids target
found_last r name ids end place id entry target next there read records from = inl (record {
  place = place;
  at = record { id = id; entry = entry; there = there; read = read; records = records };
  last = λ n other lt at. from.none n other (omega (arith, lt, next)) at;
})

pub found_none : (r : Repository) (name : List ℕ) (ids : List (List ℕ)) (end : ℕ) (target : List ℕ) → end ≡ 0 → target ≡ zeros
    → NoneFrom r name ids end → IsValueAfter r name ids target
found_none r name ids end target start is from = inr (record {
  none = λ n other at. from.none n other (omega (arith, start)) at;
  is = is;
})

-- ---- a break among the entries

either_true : (a b : Bool) → b ≡ true → (a || b) ≡ true
either_true true b e = refl
either_true false b e = e

pub has_at : (ids : List (List ℕ)) (n : ℕ) (id : List ℕ) → slice_get ids n ≡ Some id → has ids id ≡ true
has_at [] n id e = absurd (cc e)
has_at (x ∷ ids) zero id e = ap (λ (b : Bool). b || has ids id) ((bytes_eq-Decides x id).1 (same_some x id e))
has_at (x ∷ ids) (suc n) id e = either_true _ (has ids id) (has_at ids n id e)

pub break_at : (r : Repository) (ids : List (List ℕ)) (n : ℕ) (id : List ℕ) (fault : LogFault) → slice_get ids n ≡ Some id → IsNoEntryAs r id fault
    → IsNamed id fault → IsBreakAmong r ids fault
break_at r ids n id (Broken named) there none is = record { among = ap (has ids) is ∙ has_at ids n id there; none = ap (entry_at r) is ∙ none }
break_at r ids n id Failed there none is = tt
break_at r ids n id Memory there none is = tt
