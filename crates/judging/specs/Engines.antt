-- What an engine stands for, and what its steps make of it.
use Rattle.std.specs.Prelude.{◌≡◌, ◌≢◌, ◌&&◌, ◌↔◌, ◌<◌, ◌≤◌, ◌++◌, ℕ}
use Rattle.std.specs.Prelude.{Bool, true, List, [], ◌∷◌, length, map, Option}
use Rattle.std.specs.Prelude.{Some, None, is_some, if◌then◌else◌}
use Rattle.std.specs.Str.{bytes_eq}
use Rattle.rsl_chain.specs.Entries.{Taken, target_of}
use Rattle.git_object.specs.References.{attestations_name}
use Rattle.rsl_chain.specs.declared.entries.Entry.{Entry}
use Rattle.recovery.specs.Lanes.{lane_of}
use Rattle.judging.specs.Books.{HasLanes, HasNote, IsPut, IsSame, Kept, kept_fault, next_number, place_of}
use Rattle.judging.specs.Hits.{IsHitBy, some_hit, without}
use Rattle.judging.specs.Rules.{Rules}
use Rattle.judging.specs.Logs.{attested_after, entry_at, fault_at, has_id, lane, last_signers, policy_after}
use Rattle.judging.specs.Steps.{recorded}
use Rattle.judging.specs.Verdicts.{verdict_of}
use Rattle.judging.specs.declared.deciding.Decision.{Decision}
use Rattle.judging.specs.declared.engine.Engine.{Engine}
use Rattle.judging.specs.declared.verdicts.EntryVerdict.{EntryVerdict}

-- the engine stands for this list of entries, of which no two have one id
pub record Stands {P F : Type 0} (rules : Rules P F) (log : List Taken) (e : Engine P F) : Type 0 where
  pub policy : e.policy ≡ policy_after rules log
  pub attested : e.attested ≡ attested_after log
  pub signers : e.signers ≡ last_signers rules log
  pub lanes : (name : List ℕ) → lane_of e.book.marks name ≡ lane rules log name
  pub targets : e.book.targets ≡ map (λ t. target_of t.entry.body) log
  pub places : (id : List ℕ) (i : ℕ)
      → (place_of e.book id ≡ Some i) ↔ ((0 < i) × (i ≤ length log) × (has_id (entry_at log i) id ≡ true))
  pub faults : (i : ℕ) (fault : F) → 0 < i → i ≤ length log → fault_at rules log i ≡ Some fault
      → kept_fault e.book i ≡ Some fault

-- the engine stands for the list with this entry, and this is answered of it
pub record IsTaken {P F : Type 0} (rules : Rules P F) (log : List Taken) (t : Taken) (e : Engine P F)
    (verdict : EntryVerdict F) : Type 0 where
  pub stands : Stands rules (log ++ t ∷ []) e
  pub answer : verdict ≡ verdict_of rules log t

-- how many entries were taken
abbrev pub taken : {P F : Type 0} → Engine P F → ℕ
taken e = length e.book.targets

-- whether an entry of this id was taken
abbrev pub has_taken : {P F : Type 0} → Engine P F → List ℕ → Bool
has_taken e id = is_some (place_of e.book id)

-- the policy that was opened, or the one before
abbrev pub opened_or : {P : Type 0} → Option P → Option P → Option P
opened_or None policy = policy
opened_or (Some next) policy = Some next

module _ {P F : Type 0} where
  -- an entry of a reference is kept, as it was decided
  pub record KeepsReference (id name target : List ℕ) (above : ℕ) (completes : Bool) (found : Decision P F)
      (was now : Engine P F) : Type 0 where
    pub policy : now.policy ≡ opened_or found.opened was.policy
    pub attested : now.attested ≡ (if bytes_eq name attestations_name then Some target else was.attested)
    pub signers : now.signers ≡ found.signers
    pub lanes : (other : List ℕ) → lane_of now.book.marks other
        ≡ (if bytes_eq name other then recorded (next_number was.book) (is_some found.fault) completes above
        (lane_of was.book.marks other) else lane_of was.book.marks other)
    pub targets_now : now.book.targets ≡ was.book.targets ++ target ∷ []
    pub place : IsPut id was.book now.book
    pub new_fault : (f : F) → found.fault ≡ Some f → kept_fault now.book (next_number was.book) ≡ Some f
    pub old_fault : (number : ℕ) → number ≢ next_number was.book
        → kept_fault now.book number ≡ kept_fault was.book number

  -- nothing is kept
  pub record KeepsNothing (was now : Engine P F) : Type 0 where
    pub policy : now.policy ≡ was.policy
    pub attested : now.attested ≡ was.attested
    pub signers : now.signers ≡ was.signers
    pub book : IsSame was.book now.book

  -- an annotation is kept, and what it skips is skipped
  pub record KeepsNote (rules : Rules P F) (annotation : Entry) (ids : List (List ℕ)) (skip : Bool)
      (was now : Engine P F) : Type 0 where
    pub policy : now.policy ≡ was.policy
    pub attested : now.attested ≡ was.attested
    pub signers : now.signers ≡ []
    pub mid : Kept F
    pub noted : HasNote annotation.id was.book mid
    pub skipped : (hit : List ℕ → ℕ → Bool) → IsHitBy rules was.policy annotation mid hit
        → HasLanes (λ name lane. without (λ n. skip && some_hit hit ids n) lane) mid now.book
