-- What the calls of a disk in memory leave of it.
use Rattle.std.proofs.Common.{◌≡◌, ◌≤◌, ◌⊎◌, ℕ, List, ◌∷◌, length, inl, inr, refl, sym, ◌∙◌, subst, arith}
use Rattle.std.specs.Prelude.{Some, Result, Ok, Err, OnErr, OnOk}
use Rattle.octets.specs.Content.{Told}
use Rattle.edge_io.specs.Disk.{Follows, Only, Torn, Written}
use Rattle.edge_io.specs.Moments.{Elapses}
use Rattle.edge_io.specs.Recalled.{reading_stays, spliced, spliced_whole}
use Rattle.edge_io.specs.Recorded.{IsSynced, IsUnmoved, IsWritten, Keeps, LeftSince, MayLeave, Passes, Recording, Step, seen_after, synced, wrote}

-- one of two, by the outcome
pub either : {T E A B : Type 0} (result : Result T E) → OnErr result A → OnOk result B → A ⊎ B
either (Ok done) failed ok = inr ok
either (Err error) failed ok = inl failed

same_bytes : (a b : List ℕ) → Some a ≡ Some b → a ≡ b
same_bytes a b same = cc

-- a step more
goes_by : (start : List ℕ) (steps : List Step) (step : Step)
    → Elapses (length steps) (length (step ∷ steps)) (LeftSince start steps) (LeftSince start (step ∷ steps)) (MayLeave start (step ∷ steps))
goes_by start steps step = record {
  later = omega arith;
  nothing_else = λ t c le left. elim left [ inl now ↦ inr now | inr past ↦ inl past.1 ];
  keeps = λ t c le left. inr (le, left);
}

-- nothing is torn where nothing is written
whole : (at n : ℕ) (file : List ℕ) → Torn at n file file
whole at n file = record {
  no_shorter = omega arith;
  no_longer = omega arith;
  below = λ i within before. refl;
  above = λ i within after. refl;
}

-- a call that leaves the steps as they were
pub unmoved_keeps : (old new : Recording) → IsUnmoved old new → Keeps old new
unmoved_keeps old new same = subst (Keeps old) (sym same) (record { same = λ now told. told; no_more = λ c may. may })

pub unmoved_passes : (old new : Recording) → IsUnmoved old new → Passes old new
unmoved_passes old new same = subst (Passes old) (sym same) (record {
  later = omega arith;
  nothing_else = λ t c le left. inl left;
  keeps = λ t c le left. left;
})

-- a sync
pub synced_keeps : (old new : Recording) → IsUnmoved old new ⊎ IsSynced old new → Keeps old new
synced_keeps old new (inl same) = unmoved_keeps old new same
synced_keeps old new (inr done) = subst (Keeps old) (sym done) (record {
  same = λ now told. told;
  no_more = λ c may. subst (MayLeave old.start old.steps) (sym may) (reading_stays old.start old.steps);
})

pub synced_passes : (old new : Recording) → IsUnmoved old new ⊎ IsSynced old new → Passes old new
synced_passes old new (inl same) = unmoved_passes old new same
synced_passes old new (inr done) = subst (Passes old) (sym done) (goes_by old.start old.steps synced)

pub synced_only : (old new : Recording) → IsSynced old new → (file : List ℕ) → Some (seen_after new.start new.steps) ≡ Some file → Only file (MayLeave new.start new.steps)
synced_only old new done file told =
    let now : Some (seen_after old.start old.steps) ≡ Some file = subst (λ (r : Recording). Some (seen_after r.start r.steps) ≡ Some file) done told in
    subst (λ (r : Recording). Only file (MayLeave r.start r.steps)) (sym done) (λ c may. may ∙ same_bytes (seen_after old.start old.steps) file now)

-- a write
pub written_passes : (at : ℕ) (bytes : List ℕ) (old new : Recording) → IsUnmoved old new ⊎ IsWritten at bytes old new → Passes old new
written_passes at bytes old new (inl same) = unmoved_passes old new same
written_passes at bytes old new (inr done) = subst (Passes old) (sym done) (goes_by old.start old.steps (wrote at bytes))

abbrev IsTorn : ℕ → List ℕ → Recording → Recording → Type 0
IsTorn at bytes old new = Told (Torn at (length bytes)) (Some (seen_after old.start old.steps)) (Some (seen_after new.start new.steps))

pub written_torn : (at : ℕ) (bytes : List ℕ) (old new : Recording) → IsUnmoved old new ⊎ IsWritten at bytes old new → IsTorn at bytes old new
written_torn at bytes old new (inl same) = subst (IsTorn at bytes old) (sym same) (λ now told. (now, told, whole at (length bytes) now))
written_torn at bytes old new (inr done) = subst (IsTorn at bytes old) (sym done) (λ now told. (
  seen_after old.start old.steps,
  refl,
  subst (Torn at (length bytes) (seen_after old.start old.steps)) (same_bytes _ now told) (spliced at bytes (seen_after old.start old.steps)),
))

abbrev IsPut : ℕ → List ℕ → Recording → Recording → Type 0
IsPut at bytes old new = Told (Written at bytes) (Some (seen_after old.start old.steps)) (Some (seen_after new.start new.steps))

pub written_put : (at : ℕ) (bytes : List ℕ) (old new : Recording) → at ≤ length (seen_after old.start old.steps) → IsWritten at bytes old new → IsPut at bytes old new
written_put at bytes old new within done = subst (IsPut at bytes old) (sym done) (λ now told. (
  seen_after old.start old.steps,
  refl,
  subst (Written at bytes (seen_after old.start old.steps)) (same_bytes _ now told) (spliced_whole at bytes (seen_after old.start old.steps) within),
))

pub written_follows : (at : ℕ) (bytes : List ℕ) (old new : Recording) → IsUnmoved old new ⊎ IsWritten at bytes old new
    → Follows (Torn at (length bytes)) (MayLeave old.start old.steps) (MayLeave new.start new.steps)
written_follows at bytes old new (inl same) =
    subst (λ (r : Recording). Follows (Torn at (length bytes)) (MayLeave old.start old.steps) (MayLeave r.start r.steps)) (sym same) (λ c may. (c, may, whole at (length bytes) c))
written_follows at bytes old new (inr done) =
    subst (λ (r : Recording). Follows (Torn at (length bytes)) (MayLeave old.start old.steps) (MayLeave r.start r.steps)) (sym done) (λ c may. may)
