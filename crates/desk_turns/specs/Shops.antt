-- What a shop behind a desk stands for after each of its calls, and a reply as an answer that counts a fault or not.
use Rattle.std.specs.Prelude.{◌≡◌, ◌<◌, ℕ, Bool, true, false, List, Option, None, Result, Err}
use Rattle.git_object.specs.Repository.{Repository}
use Rattle.desk_turns.specs.Histories.{History, Member, count, with_member}
use Rattle.desk_turns.specs.declared.settled.Settled.{Settled}
use Rattle.desk_turns.specs.declared.settled.Settled.TheVariants as settled_

-- an answer, of which a test says whether it is a fault
abbrev pub answered : {A : Type 0} → A → Result (Unit {0}) A
answered answer = Err answer

module _ {S : Type 0} (stands : S → History → Type 0) where
  -- with one member more, of this id and seat
  pub record AddsOne (shop : S) (h : History) (id : List ℕ) (seat : ℕ) : Type 0 where
    pub member : Member
    pub id_is : member.id ≡ id
    pub seat_is : member.seat ≡ seat
    pub few : count h < 1000000
    pub is_state : stands shop (with_member h member)

  -- after a push: with one member more exactly where it is done
  abbrev pub StandsPushed : Bool → S → History → List ℕ → ℕ → Type 0
  StandsPushed true shop h id seat = AddsOne shop h id seat
  StandsPushed false shop h id seat = stands shop h

  module _ (in_doubt : S → Bool) (told : S → Option Repository) where
    -- after settling: with one member more, of nobody, exactly where the entry in doubt is taken in; and `Moved` never
    -- comes over a store that tells what it holds
    abbrev pub StandsSettled : S → History → Settled → Type 0
    StandsSettled shop h settled_.Clear = stands shop h × (in_doubt shop ≡ false)
    StandsSettled shop h (settled_.TookIn id) = AddsOne shop h id 0
    StandsSettled shop h (settled_.Moved found expected) = stands shop h × (told shop ≡ None)
    StandsSettled shop h settled_.Fault = stands shop h
    StandsSettled shop h settled_.Memory = stands shop h
