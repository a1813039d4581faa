-- A step over a store that tells what it holds.
use Rattle.std.proofs.Common.{◌≡◌, ℕ, Some, refl, sym, ap, ◌∙◌}
use Rattle.git_object.specs.Repository.{Repository}
use Rattle.keeper_api.specs.declared.keepers.Keeper as keeper
use Rattle.pushes.specs.declared.pushed.Push.{Push}
use Rattle.pushes.specs.Steps.{DeskStep, Replies, log_after, repository_after}
use Rattle.pushes.specs.declared.replies.Reply.{Reply}
use Rattle.pushes.specs.declared.replies.Reply.TheVariants.{Done, Already, Stale, Malformed, Incomplete, TooLarge, Misnumbered, Moved, Fault, Memory}
use Rattle.desk_turns.specs.Laws.{IsToldReply, StepIs}
use Rattle.desk_turns.specs.States.{Desk, IsAnswered, Steps}

module _ {R : Type 0} (k : keeper.Ghosts R) (old new : R) (was now : Desk) (push : Push) (seat : ℕ) where
  abbrev IsStep : Reply → Type 0
  IsStep reply = (r' : Repository) → k.content new ≡ Some r' → (r : Repository) × (k.content old ≡ Some r) × DeskStep was.log r push seat reply now.log r'

  answered_is : (reply : Reply) → IsAnswered k old new was now push reply → ((r : Repository) → k.content new ≡ Some r → Replies was.log r push reply) → log_after was.log push seat reply ≡ was.log
      → ((r : Repository) → repository_after was.log r push reply ≡ r) → IsStep reply
  answered_is reply s replies log_is r_is = λ r' told. (r', s.same.content r' told, record { replies = replies r' told; log_is = ap (λ (d : Desk). d.log) s.state ∙ sym log_is; repository_is = sym (r_is r') })

  step_of : (reply : Reply) → Steps k old new was now push seat reply → IsToldReply reply → IsStep reply
  step_of (Done number id) s told = s.step
  step_of (Already number) s told = answered_is (Already number) s (λ r e. s.why) refl (λ r. refl)
  step_of (Stale number id) s told = answered_is (Stale number id) s (λ r e. s.why) refl (λ r. refl)
  step_of (Malformed at) s told = absurd s
  step_of (Incomplete id) s told = answered_is (Incomplete id) s (λ r e. (s.why.0, s.why.2 r e)) refl (λ r. refl)
  step_of (TooLarge length) s told = absurd s
  step_of (Misnumbered number expected) s told = answered_is (Misnumbered number expected) s (λ r e. s.why) refl (λ r. refl)
  step_of (Moved found expected) s told = absurd s
  step_of Fault s told = absurd told
  step_of Memory s told = absurd told

pub step_is : {R : Type 0} (k : keeper.Ghosts R) → StepIs k
step_is k old new was now push seat reply s told = step_of k old new was now push seat reply s told
