-- What holds of what mends a violation.
use Rattle.std.specs.Prelude.{◌≡◌, ◌<◌, ◌≤◌, ◌||◌, ◌++◌, ◌∷◌, [], ℕ, true, false, List, length, Some, None}
use Rattle.std.specs.Prelude.{nat_le, unwrap_or}
use Rattle.git_object.specs.Ids.{zeros}
use Rattle.rsl_chain.specs.Entries.{Taken}
use Rattle.rsl_chain.specs.declared.entries.EntryBody.TheVariants.{Reference}
use Rattle.recovery.specs.Lanes.{first_of, is_in}
use Rattle.judging.specs.Logs.{before, completes, entry_at, fault_of, is_entry_of, lane, skipped}
use Rattle.judging.specs.Readings.{IsRescue}
use Rattle.judging.specs.Rules.{Rules, same_tree}
use Rattle.judging.specs.Verdicts.{IsJudged}
use Rattle.judging.specs.declared.verdicts.Verdict.TheVariants.{Accepted}
use Rattle.judged_logs.specs.Mends.{back_to, from_on}

module _ {P F : Type 0} (rules : Rules P F) (log : List Taken) (name : List ℕ) (b : ℕ) where
  -- behind the log stand more entries, none of them the reference's, and with them exactly those of its entries are
  -- skipped that were, and those from the number on
  pub record SkipsFrom (more : List Taken) : Type 0 where
    pub others : (i : ℕ) → length log < i → is_entry_of (entry_at (log ++ more) i) name ≡ false
    pub exactly : (i : ℕ) → 0 < i → i ≤ length log → is_entry_of (entry_at log i) name ≡ true
        → skipped rules (log ++ more) i ≡ (skipped rules log i || nat_le b i)

  -- an entry of the reference behind them is authorised, and has the tree of the target that is gone back to
  pub record BringsBack (more : List Taken) (fix : Taken) (target : List ℕ) : Type 0 where
    pub body : fix.entry.body ≡ Reference name target
    pub authorised : fault_of rules (log ++ more) (Some fix) ≡ None
    pub tree : same_tree rules fix.repository (unwrap_or (back_to rules log name b) zeros) target ≡ true

  -- where the number is that of the reference's violation, the verdict on it is then `accepted`, where it stands at the
  -- target
  abbrev pub IsMending : Type 0
  IsMending = first_of (lane rules log name).pending ≡ Some b → (more : List Taken) (fix : Taken) (target : List ℕ)
      → SkipsFrom more → BringsBack more fix target
      → IsJudged rules ((log ++ more) ++ fix ∷ []) name target
      (Accepted (length (lane rules ((log ++ more) ++ fix ∷ []) name).pushed))

  -- whatever later entry rescues it, each of those that are to be skipped is skipped before that
  abbrev pub IsLeast : Type 0
  IsLeast = first_of (lane rules log name).pending ≡ Some b → (more : List Taken) (f : ℕ) → length log < f
      → IsRescue rules (log ++ more) b f → (i : ℕ) → is_in i (from_on rules log name b) ≡ true
      → skipped rules (before (log ++ more) f) i ≡ true

  -- where the state of that target is broken, no entry of the reference behind them completes a recovery
  abbrev pub IsNoWay : Type 0
  IsNoWay = (more : List Taken) (fix : Taken) (target : List ℕ) → SkipsFrom more
      → fix.entry.body ≡ Reference name target
      → rules.tree_of fix.repository (unwrap_or (back_to rules log name b) zeros) ≡ None
      → completes rules (log ++ more) (Some fix) ≡ false
