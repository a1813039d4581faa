-- A push that a shop answered in a turn, by whether it is done.
use Rattle.std.proofs.Common.{◌≡◌, ℕ, Bool, true, false, sym, ap, ◌∙◌, subst}
use Rattle.std.specs.Prelude.{Option, if◌then◌else◌}
use Rattle.octets.specs.Causes.{HasCause, one_more}
use Rattle.octets.specs.Content.{Stays}
use Rattle.git_object.specs.Repository.{Repository}
use Rattle.pushes.specs.declared.pushed.Push.{Push}
use Rattle.desk_turns.specs.Histories.{History}
use Rattle.desk_turns.specs.Seats.{LeavesWithOne, Sitting, given_back}
use Rattle.pushes.specs.declared.replies.Reply.{Reply}
use Rattle.desk_turns.specs.Legal.{last, rows}
use Rattle.desk_turns.specs.Shops.{AddsOne, StandsPushed, answered}
use Rattle.desk_turns.specs.Calls.{Enters, HasFault, IsAnswered, IsDoneWhere}
use Rattle.desk_turns.proofs.CallSittings.{enters_ahead, fault_rose, own_one}

module _ {S A : Type 0} (legal : History → Type 0) (stands : S → History → Type 0) (in_doubt : S → Bool) (counted : S → ℕ) (told : S → Option Repository) (answers : S → History → Push → A → Type 0) (is_done is_fault : A → Bool) (plain : Reply → A) (one_log : (shop : S) (a b : History) → stands shop a → stands shop b → rows a ≡ rows b) (told_last : (shop : S) (h : History) → stands shop h → in_doubt shop ≡ false → Stays (last h) (told shop)) where
  module _ (push : Push) (answer : A) (seat : ℕ) (old mid new : Sitting) (before shop : S) (enters : Enters stands in_doubt counted before old mid) (seat_is : seat ≡ mid.number) (keeps : StandsPushed stands (is_done answer) shop mid.seen push.entry.id seat) (says : answers shop mid.seen push answer) (clear : is_done answer ≡ true → in_doubt shop ≡ false) (cause : HasCause is_fault (counted before) (counted shop) (answered answer)) where
    adds : is_done answer ≡ true → AddsOne stands shop mid.seen push.entry.id seat
    adds done = subst (λ (b : Bool). StandsPushed stands b shop mid.seen push.entry.id seat) done keeps

    rose : (seen : History) → new ≡ given_back (counted shop) seen mid → is_fault answer ≡ true → HasFault old new
    rose seen is fault =
        fault_rose old mid new seen (counted before) (counted shop) enters.own_more enters.faults_are (cause.is ∙ ap (λ (b : Bool). if b then one_more (counted before) else counted before) fault) is

    pub answered_done : is_done answer ≡ true → LeavesWithOne stands counted shop mid new → IsAnswered stands told answers is_done is_fault plain push answer old new
    answered_done done leave =
        let one = adds done in
        let ahead = enters_ahead stands in_doubt counted before old mid enters in record {
          before = mid.seen;
          since = enters.later;
          shop = shop;
          is_state = leave.is_state;
          says = says;
          done = subst (λ (b : Bool). IsDoneWhere b mid.seen push.entry.id old new) (sym done) (own_one legal stands counted one_log shop push.entry.id seat old mid new ahead one leave seat_is);
          told_last = λ _. told_last shop new.seen leave.is_state (clear done);
          fault = rose _ leave.is;
        }
