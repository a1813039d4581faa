-- Calls of a seat that follow one another.
use Rattle.std.proofs.Common.{◌≡◌, ℕ, Bool, false, ⊎_elim, inl, inr, refl, ◌∙◌, arith}
use Rattle.std.specs.Prelude.{Option}
use Rattle.git_object.specs.Repository.{Repository}
use Rattle.desk_turns.specs.Histories.{History}
use Rattle.desk_turns.specs.Seats.{Sitting}
use Rattle.desk_turns.proofs.Lists.{begins_itself, begins_through}
use Rattle.pushes.specs.declared.replies.Reply.{Reply}
use Rattle.pushes.specs.declared.replies.Reply.TheVariants as reply_
use Rattle.desk_turns.specs.Calls.{Enters, IsUnsettled, OnlySees}

pub itself : (legal : History → Type 0) (s : Sitting) → s.holds ≡ false → OnlySees legal s s
itself legal s idle = record {
  returns = record {
    same_turn = refl;
    same_number = refl;
    idle = idle;
    later = begins_itself s.seen;
    is_legal = λ is. is;
    own_more = omega arith;
  };
  mine_same = refl;
}

pub through : (legal : History → Type 0) (a b c : Sitting) → OnlySees legal a b → OnlySees legal b c → OnlySees legal a c
through legal a b c ab bc =
    let x = ab.returns.own_more in
    let y = bc.returns.own_more in record {
      returns = record {
        same_turn = bc.returns.same_turn ∙ ab.returns.same_turn;
        same_number = bc.returns.same_number ∙ ab.returns.same_number;
        idle = bc.returns.idle;
        later = begins_through a.seen b.seen c.seen ab.returns.later bc.returns.later;
        is_legal = λ is. bc.returns.is_legal (ab.returns.is_legal is);
        own_more = omega (arith, x, y);
      };
      mine_same = bc.mine_same ∙ ab.mine_same;
    }

-- a turn that was taken later was taken then
module _ {S : Type 0} (stands : S → History → Type 0) (in_doubt : S → Bool) (counted : S → ℕ) where
  pub entered : (legal : History → Type 0) (shop : S) (a b c : Sitting) → OnlySees legal a b → Enters stands in_doubt counted shop b c → Enters stands in_doubt counted shop a c
  entered legal shop a b c ab bc =
      let x = ab.returns.own_more in
      let y = bc.own_more in record {
        same_turn = bc.same_turn ∙ ab.returns.same_turn;
        same_number = bc.same_number ∙ ab.returns.same_number;
        some = bc.some;
        holds = bc.holds;
        later = begins_through a.seen b.seen c.seen ab.returns.later bc.later;
        mine_same = bc.mine_same ∙ ab.mine_same;
        own_more = omega (arith, x, y);
        is_state = bc.is_state;
        clear = bc.clear;
        room = bc.room;
        faults_are = bc.faults_are;
      }

-- ---- a doubt that stays

pub unsettled : {S : Type 0} (stands : S → History → Type 0) (told : S → Option Repository) (legal : History → Type 0) (reply : Reply) (a b c : Sitting) → OnlySees legal a b → IsUnsettled stands told reply b c
    → IsUnsettled stands told reply a c
unsettled stands told legal (reply_.Done number id) a b c ab is = is
unsettled stands told legal (reply_.Already number) a b c ab is = is
unsettled stands told legal (reply_.Stale number id) a b c ab is = is
unsettled stands told legal (reply_.Malformed at) a b c ab is = is
unsettled stands told legal (reply_.Incomplete id) a b c ab is = is
unsettled stands told legal (reply_.TooLarge length) a b c ab is = is
unsettled stands told legal (reply_.Misnumbered number expected) a b c ab is = is
unsettled stands told legal (reply_.Moved found expected) a b c ab is = is
unsettled stands told legal reply_.Fault a b c ab is = let own = ab.returns.own_more in ⊎_elim (λ lt. inl (omega (arith, own, lt))) (λ end. inr end) is
unsettled stands told legal reply_.Memory a b c ab is = is
