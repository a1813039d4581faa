-- What a run of `verify-ref` answers where no object counts a fault.
use Rattle.std.proofs.Common.{◌≡◌, ◌⊎◌, ◌<◌, ◌-◌, ◌^◌, inl, inr, List, ℕ, ap, arith, refl, sym, subst, ◌∙◌}
use Rattle.std.specs.Prelude.{Option, Some, Result, Ok, Err, Bool, IsTrue}
use Rattle.octets.specs.Causes.{one_more}
use Rattle.git_object.specs.Repository.{Repository}
use Rattle.keeper_api.specs.declared.keepers.Keeper as keeper
use Rattle.clone_stream.specs.Taking.{TakesInto}
use Rattle.command_words.specs.Laws.{OneCommand}
use Rattle.command_words.specs.declared.commands.Command.{Command}
use Rattle.command_words.specs.declared.commands.Command.TheVariants.{VerifyRef}
use Rattle.worlds.specs.Counts.{Faults, IsCounted}
use Rattle.worlds.specs.Endings.{status_of}
use Rattle.worlds.specs.declared.ending.Ending.{Ending}
use Rattle.worlds.specs.declared.ending.Ending.TheVariants.{Refused}
use Rattle.worlds.specs.declared.ending.Part.TheVariants as part
use Rattle.worlds.specs.declared.ending.Refusal.TheVariants as refusal
use Rattle.judging.specs.declared.verdicts.Verdict.TheVariants.{Accepted, TipDiffers, Violation}
use Rattle.commands_stream.proofs.ToldStream.{told_declined, told_opened}
use Rattle.commands_stream.specs.Contents.{IsOpened}
use Rattle.commands_stream.specs.Taking.{DeclinesTaking, Opens}
use Rattle.commands_stream.specs.declared.taking.TakeFault.TheVariants as take
use Rattle.commands_verify.specs.Verdicts.{RefVerdict}
use Rattle.commands_verify.specs.Verifying.{VerifyEnds, verify_ending}
use Rattle.commands_verify.specs.declared.verifying.VerifyFault.{VerifyFault}
use Rattle.commands_verify.specs.declared.verifying.VerifyFault.TheVariants as verify
use Rattle.worlds.specs.Telling.{Content}
use Rattle.worlds.specs.Worlds.{Types, Ways, World, faults_of}
use Rattle.gittuf_cli.specs.Headline.{Answers, Headline, NoneFails, Printed, printed_in}
use Rattle.gittuf_cli.specs.Runs.{EndsOf, Says}

-- a count that is not at its end rises with a fault
rises : (count : ℕ) → count < 2 ^ 64 - 1 → one_more count ≡ count → ⊥
rises count less same = omega (arith, less, same)

source_quiet : (before after : Faults) → NoneFails before after → IsCounted (Refused (refusal.Fault part.Source)) before after → ⊥
source_quiet before after none counted =
    rises before.source none.source (sym (ap (λ (f : Faults). f.source) counted.is) ∙ ap (λ (f : Faults). f.source) none.same)

sink_quiet : (before after : Faults) → NoneFails before after → IsCounted (Refused (refusal.Fault part.Sink)) before after → ⊥
sink_quiet before after none counted =
    rises before.sink none.sink (sym (ap (λ (f : Faults). f.sink) counted.is) ∙ ap (λ (f : Faults). f.sink) none.same)

keeper_quiet : (before after : Faults) → NoneFails before after → IsCounted (Refused (refusal.Fault part.Keeper)) before after → ⊥
keeper_quiet before after none counted =
    rises before.keeper none.keeper (sym (ap (λ (f : Faults). f.keeper) counted.is) ∙ ap (λ (f : Faults). f.keeper) none.same)

same_some : {X : Type 0} (x y : X) (told : Option X) → told ≡ Some x → told ≡ Some y → x ≡ y
same_some x y told e f = cc

module _ {R : Type 0} (keeper_of : keeper.Ghosts R) (left left_now : Option (List ℕ)) (content : Content) (now : Repository) (old new : R)
    (held : keeper_of.content old ≡ Some content.held) (holds : keeper_of.content new ≡ Some now) where
  opened : (stdin : Bool) → (IsTrue stdin → left ≡ Some content.bytes) → Opens stdin keeper_of left left_now old new
      → IsOpened stdin content.held content.bytes now
  opened stdin tells (inl took) =
      told_opened keeper_of content.bytes left_now content.held now old new held holds stdin
      (inl (took.0, subst (λ (l : Option (List ℕ)). TakesInto keeper_of l left_now old new) (tells took.0) took.1))
  opened stdin tells (inr unread) = inr (unread.0, same_some now content.held (keeper_of.content old) (unread.2.content now holds) held)

  module _ (name : List ℕ) (root : Option (List (List ℕ))) (stdin : Bool) (tells : IsTrue stdin → left ≡ Some content.bytes) (printed : Printed)
      (before after : Faults) (none : NoneFails before after) where
    -- a stream that was asked for was not taken
    untaken : (number : ℕ) → IsTrue stdin → DeclinesTaking keeper_of left left_now old new (take.Stream number)
        → printed.after ≡ printed.before → printed.status ≡ 3
        → Says printed.told printed.told_now printed.faults printed.faults_now (Refused (refusal.Stream number)) → Answers printed name root stdin content
    untaken number asked why unprinted status says =
        elim (told_declined keeper_of content.bytes left_now content.held now old new held holds (take.Stream number)
        (subst (λ (l : Option (List ℕ)). DeclinesTaking keeper_of l left_now old new (take.Stream number)) (tells asked) why)) [
          | inl comes ↦ inr (inl (record { asked = asked; number = number; why = comes; unprinted = unprinted; status_is = status; says = says }))
          | inr stops ↦ absurd stops
        ]

    answered : (outcome : Result RefVerdict VerifyFault)
        → VerifyEnds name root stdin keeper_of left left_now old new printed.before printed.after outcome
        → printed.status ≡ status_of (verify_ending outcome) → IsCounted (verify_ending outcome) before after
        → Says printed.told printed.told_now printed.faults printed.faults_now (verify_ending outcome) → Answers printed name root stdin content
    answered (Ok verdict) ends status counted says = inr (inr (record {
      repository = now;
      opened = opened stdin tells ends.finds.opens;
      gives = inl (record { verdict = verdict; is = ends.finds.is now holds; line_is = ends.printed_is; status_is = status });
    }))
    answered (Err (verify.Unopened (take.Stream number))) ends status counted says = untaken number ends.why.0 ends.why.1 ends.unprinted status says
    answered (Err (verify.Unopened take.SourceFailed)) ends status counted says = absurd (source_quiet before after none counted)
    answered (Err (verify.Unopened take.KeeperFailed)) ends status counted says = absurd (keeper_quiet before after none counted)
    answered (Err (verify.Unopened take.Memory)) ends status counted says = inl (record { unprinted = ends.unprinted; status_is = status; says = says })
    answered (Err (verify.LogBroken id)) ends status counted says = inr (inr (record {
      repository = now;
      opened = opened stdin tells ends.finds.opens;
      gives = inr (record { id = id; breaks = ends.finds.breaks now holds; line_is = ends.printed_is; status_is = status });
    }))
    answered (Err verify.KeeperFailed) ends status counted says = absurd (keeper_quiet before after none counted)
    answered (Err verify.SinkFailed) ends status counted says = absurd (sink_quiet before after none counted)
    answered (Err verify.Memory) ends status counted says = inl (record { unprinted = ends.unprinted; status_is = status; says = says })

module _ {types : Types} (ways : Ways types) where
  pub headline : OneCommand → Headline ways
  headline commands words name root stdin before after told told_now faults faults_now status content asked holds tells none ran = elim ran.ends [
    | inl nothing ↦ elim nothing.why [
      | inl refused ↦ absurd (refused.1 (VerifyRef name root stdin) asked)
      | inr wanting ↦ inl (record {
        unprinted = ap (λ (w : World types). ways.sink.contents w.sink) nothing.untouched;
        status_is = ran.status_is ∙ ap status_of wanting.0;
        says = subst (Says told told_now faults faults_now) wanting.0 ran.says;
      })
    ]
    | inr one ↦
        let same : one.command ≡ VerifyRef name root stdin = commands words one.command (VerifyRef name root stdin) one.asked asked in
        let ends : EndsOf ways (VerifyRef name root stdin) before after ran.ending =
        subst (λ (c : Command). EndsOf ways c before after ran.ending) same one.ends in
        let ended = ends.0.ended in
        answered ways.keeper (ways.source.left before.source) (ways.source.left after.source) content holds.now before.keeper after.keeper
        holds.held holds.holds name root stdin tells (printed_in ways before after told told_now faults faults_now status)
        (faults_of ways before) (faults_of ways after) none
        ended.outcome ended.means (ran.status_is ∙ ap status_of ended.is)
        (subst (λ (e : Ending). IsCounted e (faults_of ways before) (faults_of ways after)) ended.is ran.counted)
        (subst (Says told told_now faults faults_now) ended.is ran.says)
  ]
