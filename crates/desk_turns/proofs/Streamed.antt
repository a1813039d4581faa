-- A stream that a shop gave in a turn.
use Rattle.std.proofs.Common.{◌≡◌, ℕ, Bool, List, sym, ap, ◌∙◌, subst}
use Rattle.std.specs.Prelude.{Option, Result}
use Rattle.octets.specs.Causes.{HasCause, count_after}
use Rattle.git_object.specs.Repository.{Repository}
use Rattle.desk_turns.specs.Histories.{History}
use Rattle.desk_turns.specs.Seats.{Sitting, given_back}
use Rattle.pushes.specs.declared.replies.Reply.{Reply}
use Rattle.desk_turns.specs.States.{is_fault}
use Rattle.desk_turns.specs.Calls.{Enters, IsStreamedBy}
use Rattle.desk_turns.proofs.CallSittings.{fault_rose}

module _ {S : Type 0} (stands : S → History → Type 0) (in_doubt : S → Bool) (counted : S → ℕ) (told : S → Option Repository) (streams : S → History → Result (List ℕ) Reply → Type 0) where
  pub streamed : (result : Result (List ℕ) Reply) (old mid new : Sitting) (before shop : S) → Enters stands in_doubt counted before old mid → stands shop mid.seen → streams shop mid.seen result
      → HasCause is_fault (counted before) (counted shop) result → new ≡ given_back (counted shop) mid.seen mid → IsStreamedBy stands told streams result old new
  streamed result old mid new before shop enters stands_now says cause is =
      let seen : new.seen ≡ mid.seen = ap (λ (s : Sitting). s.seen) is in record {
        shop = shop;
        is_state = subst (stands shop) (sym seen) stands_now;
        streamed = subst (λ (h : History). streams shop h result) (sym seen) says;
        fault = λ failed. fault_rose old mid new mid.seen (counted before) (counted shop) enters.own_more enters.faults_are (cause.is ∙ ap (count_after is_fault (counted before)) failed) is;
      }
