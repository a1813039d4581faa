-- What `demo` comes to where the store tells what it holds.
use Rattle.std.proofs.Common.{◌≡◌, ◌⊎◌, ℕ, List, inl, inr, ap, subst, ◌∙◌}
use Rattle.std.specs.Prelude.{Option, Some, None, Result, Ok, Err}
use Rattle.git_object.specs.Repository.{Repository, empty_repository}
use Rattle.keeper_api.specs.Changes.{changed}
use Rattle.keeper_api.specs.declared.keepers.Keeper as keeper
use Rattle.rsl_chain.specs.Logs.{IsBreakOf}
use Rattle.judging.specs.declared.verdicts.Verdict.{Verdict}
use Rattle.entry_rules.specs.declared.faults.Fault.{Fault}
use Rattle.verify_ref.specs.Verdicts.{IsVerdict}
use Rattle.worlds.specs.Endings.{IsStopped}
use Rattle.demo.specs.Histories.{demo_change, demo_repository, main_name}
use Rattle.demo.specs.Contents.{DemoComes}
use Rattle.demo.specs.Demos.{DemoEnds, demo_ending}
use Rattle.demo.specs.Filling.{Fills}
use Rattle.demo.specs.declared.running.DemoFault.{DemoFault}
use Rattle.demo.specs.declared.running.DemoFault.TheVariants.{Unfilled, LogBroken, KeeperFailed, SinkFailed, Memory}
use Rattle.demo.specs.declared.filling.FillFault.TheVariants as fill

same_some : {X : Type 0} (x y : X) (told : Option X) → told ≡ Some x → told ≡ Some y → x ≡ y
same_some x y told e f = cc

module _ {R : Type 0} (keeper_of : keeper.Ghosts R) (n : ℕ) (was now : Repository) (old new : R) (printed printed_now : Option (List ℕ))
    (held : keeper_of.content old ≡ Some was) (holds : keeper_of.content new ≡ Some now) where
  empty : Fills n keeper_of old new → was ≡ empty_repository
  empty fills = same_some was empty_repository (keeper_of.content old) held (fills.was now holds)

  whole : Fills n keeper_of old new → now ≡ demo_repository n
  whole fills =
      let before = fills.gains.held now holds in
      before.2 ∙ ap (changed (demo_change n)) (same_some before.0 empty_repository (keeper_of.content old) before.1 (fills.was now holds))

  pub told_demo : (outcome : Result (Verdict Fault) DemoFault) → DemoEnds n keeper_of old new printed printed_now outcome → DemoComes n was outcome ⊎ IsStopped (demo_ending outcome)
  told_demo (Ok verdict) means = inl (empty means.0.fills, subst (λ (r : Repository). IsVerdict r main_name None verdict) (whole means.0.fills) (means.0.is now holds))
  told_demo (Err (Unfilled fill.KeeperFailed)) means = inr tt
  told_demo (Err (Unfilled fill.NotEmpty)) means = inl (λ is. means.0.some now holds (same_some now was (keeper_of.content old) (means.0.same.content now holds) held ∙ is))
  told_demo (Err (Unfilled fill.Memory)) means = inr tt
  told_demo (Err (Unfilled fill.CommitFailed)) means = inr tt
  told_demo (Err (LogBroken id)) means = inl (empty means.0.fills, subst (λ (r : Repository). IsBreakOf r id) (whole means.0.fills) (means.0.breaks now holds))
  told_demo (Err KeeperFailed) means = inr tt
  told_demo (Err SinkFailed) means = inr tt
  told_demo (Err Memory) means = inr tt
