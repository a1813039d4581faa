-- What is found of an entry of a reference before anything is kept.
use Rattle.std.specs.Prelude.{◌≡◌, ◌⊎◌, ◌&&◌, nat_lt, ℕ, Bool, false, List, [], Option, Some, None, Result, Ok, Err}
use Rattle.std.specs.Prelude.{if◌then◌else◌, is_none}
use Rattle.std.specs.List.{list_any}
use Rattle.std.specs.Str.{bytes_eq}
use Rattle.git_object.specs.Repository.{Repository}
use Rattle.git_object.specs.References.{policy_name}
use Rattle.rsl_chain.specs.declared.entries.Entry.{Entry}
use Rattle.recovery.specs.Lanes.{lane_of}
use Rattle.judging.specs.Books.{Kept}
use Rattle.judging.specs.Rules.{Rules, same_tree}
use Rattle.judging.specs.declared.references.Standing.{Standing}
use Rattle.judging.specs.declared.deciding.Decision.{Decision}

module _ {P F : Type 0} (rules : Rules P F) (r : Repository) where
  -- an entry of the policy's reference
  abbrev pub epoch_decision : Result P F → Decision P F
  epoch_decision (Ok policy) = record { opened = Some policy; fault = None; signers = [] }
  epoch_decision (Err fault) = record { opened = None; fault = Some fault; signers = [] }

  -- an entry of another reference
  abbrev pub ordinary_decision : Option P → Entry → List ℕ → Option (List ℕ) → Decision P F
  ordinary_decision None entry from attested = record { opened = None; fault = Some rules.no_policy; signers = [] }
  ordinary_decision (Some policy) entry from attested =
      record {
        opened = None;
        fault = rules.fault r policy entry from attested;
        signers = rules.signers r policy entry from attested;
      }

  abbrev pub decision : Option P → Entry → List ℕ → List ℕ → Option (List ℕ) → Decision P F
  decision policy entry name from attested =
      if bytes_eq name policy_name then epoch_decision (rules.epoch r policy entry) else ordinary_decision policy entry
      from attested

  -- the reads that a decision may take
  abbrev pub ordinary_reads : Option P → Entry → List ℕ → Option (List ℕ) → ℕ
  ordinary_reads None entry from attested = 0
  ordinary_reads (Some policy) entry from attested = rules.fault_reads r policy entry from attested

  abbrev pub decision_reads : Option P → Entry → List ℕ → List ℕ → Option (List ℕ) → ℕ
  decision_reads policy entry name from attested = if bytes_eq name policy_name then rules.epoch_reads r policy entry
      else ordinary_reads policy entry from attested

-- the entry completes a recovery, or there is none that would take anything in
abbrev pub IsFinish : {P F : Type 0} → Rules P F → Repository → Kept F → Decision P F → List ℕ → Standing → List ℕ
    → Bool → Type 0
IsFinish rules r kept found name stands target finishes =
    (finishes ≡ (is_none found.fault && same_tree rules r stands.from target))
    ⊎ ((finishes ≡ false) × (list_any (nat_lt stands.above) (lane_of kept.marks name).pending ≡ false))
