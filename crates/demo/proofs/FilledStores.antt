-- A store that held nothing is filled, and stays so where it is only looked at.
use Rattle.std.proofs.Common.{◌≡◌, ◌↔◌, ℕ, refl, subst, true}
use Rattle.std.specs.Prelude.{IsTrue, Some, None, Result, Ok, Err}
use Rattle.git_object.specs.Repository.{Repository, empty_repository}
use Rattle.keeper_api.specs.Undisturbed.{Undisturbed}
use Rattle.keeper_api.specs.declared.changes.Change.{Change}
use Rattle.keeper_api.specs.declared.keepers.Keeper as keeper
use Rattle.keeper_api.proofs.Committed.{gains_from, may_gain_from}
use Rattle.keeper_api.specs.Committing.{Gains, MayGain}
use Rattle.judging.specs.declared.verdicts.Verdict.{Verdict}
use Rattle.entry_rules.specs.declared.faults.Fault.{Fault}
use Rattle.rsl_chain.specs.declared.log_faults.LogFault.{LogFault}
use Rattle.verify_ref.specs.Verdicts.{Answers}
use Rattle.demo.specs.Histories.{demo_change, main_name}
use Rattle.rsl_chain.specs.declared.log_faults.LogFault.TheVariants as log
use Rattle.demo.specs.Demos.{JudgeEnds, judge_fault}
use Rattle.demo.specs.declared.running.DemoFault.{DemoFault}
use Rattle.demo.specs.Filling.{Fills, MayFill}

-- what a verdict or its refusal is once the store is filled
abbrev pub judged_as : Result (Verdict Fault) LogFault → Result (Verdict Fault) DemoFault
judged_as (Ok verdict) = Ok verdict
judged_as (Err fault) = Err (judge_fault fault)

module _ (n : ℕ) {R : Type 0} (keeper_of : keeper.Ghosts R) (old mid new : R) where
  module _ (first : Undisturbed keeper_of old mid) (empty : (r : Repository) → keeper_of.content mid ≡ Some r → IsTrue true ↔ (r ≡ empty_repository)) (change : Change) (made : change ≡ demo_change n) where
    was_empty : (was : Repository) → keeper_of.content mid ≡ Some was → keeper_of.content old ≡ Some empty_repository
    was_empty was held = subst (λ (r : Repository). keeper_of.content old ≡ Some r) ((empty was held).0 refl) (first.content was held)

    pub filled : Gains keeper_of mid new change → Fills n keeper_of old new
    filled gains = record {
      was = λ now held. (let was = gains.held now held in was_empty was.0 was.1);
      gains = subst (λ (c : Change). Gains keeper_of old new c) made (gains_from keeper_of old mid new first change gains);
    }

    pub may_be_filled : MayGain keeper_of mid new change → MayFill n keeper_of old new
    may_be_filled gains = record {
      was = λ now held. (let was = gains.held now held in was_empty was.0 was.1);
      gains = subst (λ (c : Change). MayGain keeper_of old new c) made (may_gain_from keeper_of old mid new first change gains);
    }

  module _ (fills : Fills n keeper_of old mid) (same : Undisturbed keeper_of mid new) where
    pub still_filled : Fills n keeper_of old new
    still_filled = record {
      was = λ now held. fills.was now (same.content now held);
      gains = record {
        held = λ now held. fills.gains.held now (same.content now held);
        tells = λ tells. fills.gains.tells (same.tells tells);
        stop = λ tells now held r left. fills.gains.stop (same.tells tells) now (same.content now held) r (same.left tells r left);
      };
    }

    pub judged : (result : Result (Verdict Fault) LogFault) → ((r : Repository) → keeper_of.content new ≡ Some r → Answers r main_name None result) → JudgeEnds n keeper_of old new (judged_as result)
    judged (Ok verdict) answers = record { fills = still_filled; is = answers }
    judged (Err (log.Broken id)) answers = record { fills = still_filled; breaks = answers }
    judged (Err log.Failed) answers = still_filled
    judged (Err log.Memory) answers = still_filled
