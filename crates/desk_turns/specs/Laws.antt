-- What holds of a step over a store that tells what it holds.
use Rattle.std.specs.Prelude.{◌≡◌, ℕ, Some}
use Rattle.git_object.specs.Repository.{Repository}
use Rattle.keeper_api.specs.declared.keepers.Keeper as keeper
use Rattle.pushes.specs.declared.pushed.Push.{Push}
use Rattle.pushes.specs.Steps.{DeskStep}
use Rattle.pushes.specs.declared.replies.Reply.{Reply}
use Rattle.pushes.specs.declared.replies.Reply.TheVariants.{Already, Done, Fault, Incomplete, Malformed, Memory}
use Rattle.pushes.specs.declared.replies.Reply.TheVariants.{Misnumbered, Moved, Stale, TooLarge}
use Rattle.desk_turns.specs.States.{Desk, Steps}

-- a reply that is neither a fault nor want of memory
abbrev pub IsToldReply : Reply → Type 0
IsToldReply (Done number id) = Unit {0}
IsToldReply (Already number) = Unit {0}
IsToldReply (Stale number id) = Unit {0}
IsToldReply (Malformed at) = Unit {0}
IsToldReply (Incomplete id) = Unit {0}
IsToldReply (TooLarge length) = Unit {0}
IsToldReply (Misnumbered number expected) = Unit {0}
IsToldReply (Moved found expected) = Unit {0}
IsToldReply Fault = ⊥
IsToldReply Memory = ⊥

-- a step is the desk's relation
abbrev pub StepIs : {R : Type 0} → keeper.Ghosts R → Type 0
StepIs {R} k =
    (old new : R) (was now : Desk) (push : Push) (seat : ℕ) (reply : Reply) → Steps k old new was now push seat reply
    → IsToldReply reply → (r' : Repository) → k.content new ≡ Some r'
    → (r : Repository) × (k.content old ≡ Some r) × DeskStep was.log r push seat reply now.log r'
