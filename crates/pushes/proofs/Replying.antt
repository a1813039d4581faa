-- A push has one reply.
use Rattle.std.proofs.Common.{◌≡◌, ℕ, ◌+◌, List, Option, Some, None, inl, inr, length, refl, sym, ap, ◌∙◌}
use Rattle.std.specs.Prelude.{◌⊎◌}
use Rattle.git_object.specs.Repository.{Repository}
use Rattle.pushes.specs.declared.pushed.Push.{Push}
use Rattle.pushes.specs.Needing.{IsComplete, IsIncomplete, IsNowhere, names_in, start_of}
use Rattle.pushes.specs.Steps.{OneReply, Replies, early}
use Rattle.pushes.specs.declared.replies.Reply.{Reply}
use Rattle.pushes.specs.declared.replies.Reply.TheVariants.{Done, Already, Stale, Malformed, Incomplete, TooLarge, Misnumbered, Moved, Fault, Memory}
use Rattle.pushes.specs.declared.rows.Row.{Row}
use Rattle.pushes.proofs.Walks.{never_both, one_first}

module _ (log : List Row) (r : Repository) (push : Push) where
  record Lacks (a : Reply) : Type 0 where
    id : List ℕ
    is : a ≡ Incomplete id
    first : IsIncomplete push.objects r (start_of push.entry.body) id

  record Whole (a : Reply) : Type 0 where
    is : a ≡ Done (length log + 1) push.entry.id
    all : IsComplete push.objects r (start_of push.entry.body)

  abbrev View : Reply → Type 0
  View a = (early log push.entry ≡ Some a) ⊎ ((early log push.entry ≡ None) × (Lacks a ⊎ Whole a))

  view : (a : Reply) → Replies log r push a → View a
  view (Done number id) is = inr (is.0.fits, inr (record { is = λ i. Done (is.1 i) (is.2 i); all = is.0.complete }))
  view (Already number) is = inl is
  view (Stale number id) is = inl is
  view (Misnumbered number expected) is = inl is
  view (Incomplete id) is = inr (is.0, inl (record { id = id; is = refl; first = is.1 }))
  view (Malformed at) is = absurd is
  view (TooLarge length) is = absurd is
  view (Moved found expected) is = absurd is
  view Fault is = absurd is
  view Memory is = absurd is

  same_some : (a b : Reply) → Some a ≡ Some b → a ≡ b
  same_some a b e = cc

  not_both : (a : Reply) (o : Option Reply) → o ≡ Some a → o ≡ None → ⊥
  not_both a o some none = let e : Some a ≡ None = sym some ∙ none in absurd (cc e)

  pub one_here : (a b : Reply) → Replies log r push a → Replies log r push b → a ≡ b
  one_here a b ra rb = both (view a ra) (view b rb)
    where
      lacks : Lacks a → (Lacks b ⊎ Whole b) → a ≡ b
      lacks la (inl lb) = la.is ∙ ap Incomplete (one_first (names_in push.objects) (IsNowhere push.objects r) (start_of push.entry.body) la.id lb.id la.first lb.first) ∙ sym lb.is
      lacks la (inr wb) = absurd (never_both (names_in push.objects) (IsNowhere push.objects r) (start_of push.entry.body) la.id la.first wb.all)

      whole : Whole a → (Lacks b ⊎ Whole b) → a ≡ b
      whole wa (inl lb) = absurd (never_both (names_in push.objects) (IsNowhere push.objects r) (start_of push.entry.body) lb.id lb.first wa.all)
      whole wa (inr wb) = wa.is ∙ sym wb.is

      both : View a → View b → a ≡ b
      both (inl ea) (inl eb) = same_some a b (sym ea ∙ eb)
      both (inl ea) (inr eb) = absurd (not_both a (early log push.entry) ea eb.0)
      both (inr ea) (inl eb) = absurd (not_both b (early log push.entry) eb ea.0)
      both (inr (none, inl la)) (inr (none', rest)) = lacks la rest
      both (inr (none, inr wa)) (inr (none', rest)) = whole wa rest

pub one_reply : OneReply
one_reply = λ log r push a b. one_here log r push a b
