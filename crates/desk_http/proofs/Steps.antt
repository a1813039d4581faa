-- Each reply to a push says why its bytes are no push, or is the desk's relation; and a store is left alone that was.
use Rattle.std.proofs.Common.{◌≡◌, ◌⊎◌, inl, inr, ℕ, List, Option, Some, None, ap, subst}
use Rattle.git_object.specs.Repository.{Repository}
use Rattle.keeper_api.specs.Undisturbed.{Undisturbed}
use Rattle.keeper_api.specs.declared.keepers.Keeper as keeper
use Rattle.pushes.specs.Pushes.{IsPushText}
use Rattle.pushes.specs.declared.pushed.Push.{Push}
use Rattle.desk_turns.specs.Histories.{History}
use Rattle.desk_turns.specs.Seats.{Sitting}
use Rattle.pushes.specs.declared.replies.Reply.{Reply}
use Rattle.pushes.specs.declared.replies.Reply.TheVariants as reply_
use Rattle.desk_turns.specs.Laws.{IsToldReply}
use Rattle.desk_turns.specs.States.{is_fault}
use Rattle.desk_turns.specs.Calls as calls
use Rattle.desk_shops.specs.Calls.{IsLeftAlone}
use Rattle.desk_shops.specs.Desks.{PushIsStep, answers_in, done_reply, stands_in, told_in}
use Rattle.desk_http.specs.declared.serving_desks.Pushed.TheVariants.{Replied}
use Rattle.desk_http.specs.Steps.{EachReplyIsStep, IsNoPush, IsStepped}

not_untold : (held : Option Repository) (r : Repository) → held ≡ Some r → held ≡ None → ⊥
not_untold held r told untold = cc

-- of a store to which no commit was made a stop leaves what it holds, where it did before
pub left_alone_still : {R : Type 0} (k : keeper.Ghosts R) (old new : R) → Undisturbed k old new → IsLeftAlone k old → IsLeftAlone k new
left_alone_still k old new same alone told w holds r left = alone (same.tells told) w (same.content w holds) r (same.left told r left)

-- where the stores tell, and the answer is neither a fault nor want of memory, no doubt stays
pub settled : {S : Type 0} (stands : S → History → Type 0) (told : S → Option Repository) → ((shop : S) → (r : Repository) × (told shop ≡ Some r)) → (reply : Reply) (old new : Sitting)
    → calls.IsUnsettled stands told reply old new → IsToldReply reply → ⊥
settled stands told tells (reply_.Done number id) old new why is = why
settled stands told tells (reply_.Already number) old new why is = why
settled stands told tells (reply_.Stale number id) old new why is = why
settled stands told tells (reply_.Malformed at) old new why is = why
settled stands told tells (reply_.Incomplete id) old new why is = why
settled stands told tells (reply_.TooLarge size) old new why is = why
settled stands told tells (reply_.Misnumbered number expected) old new why is = why
settled stands told tells (reply_.Moved found expected) old new why is = (let held = tells why.shop in not_untold (told why.shop) held.0 held.1 why.untold)
settled stands told tells reply_.Fault old new why is = is
settled stands told tells reply_.Memory old new why is = is

module _ {R : Type 0} (k : keeper.Ghosts R) (law : PushIsStep k) (tells : (store : R) → (r : Repository) × (k.content store ≡ Some r)) where
  unasked : (reply : Reply) (old new : Sitting) → calls.IsUnasked (stands_in k) (told_in k) (answers_in k) done_reply is_fault (λ r. r) reply old new → IsToldReply reply → ⊥
  unasked reply old new is told = settled (stands_in k) (told_in k) (λ shop. tells shop.keeper) is.reply old new is.why (subst IsToldReply is.answer_is told)

  stepped : (body : List ℕ) (push : Push) (reply : Reply) (old new : Sitting) → IsPushText push body
      → calls.AnswersPush (stands_in k) (told_in k) (answers_in k) done_reply is_fault (λ r. r) push reply old new → IsToldReply reply → IsStepped k body reply old new
  stepped body push reply old new text (inl is) told = absurd (unasked reply old new is told)
  stepped body push reply old new text (inr is) told =
      record { push = push; text = text; before = is.before; since = is.since; step = law tells push reply old new is told }

  replied : (body : List ℕ) (reply : Reply) (old new : Sitting) → calls.Pushes (stands_in k) (told_in k) (answers_in k) done_reply is_fault (λ r. r) body reply old new
      → IsToldReply reply → IsNoPush body (Replied reply) old new ⊎ IsStepped k body reply old new
  replied body reply old new (inl is) told = inl (record { fault = is.fault; refused = is.refused; pushed_is = ap Replied is.answer_is; same = is.same })
  replied body reply old new (inr is) told = inr (stepped body is.push reply old new is.text is.answered told)

pub each_reply : {R : Type 0} (k : keeper.Ghosts R) → PushIsStep k → EachReplyIsStep k
each_reply k law tells body reply old new is told =
    let same : is.answer ≡ reply = cc (is.pushed_is) in replied k law tells body reply old new (subst (λ (x : Reply). calls.Pushes (stands_in k) (told_in k) (answers_in k) done_reply is_fault (λ r. r) body x old new) same is.given) told
