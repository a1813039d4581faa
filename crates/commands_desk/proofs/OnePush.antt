-- A repository, a number and an answer come to one outcome at most.
use Rattle.std.proofs.Common.{◌≡◌, ℕ, suc, ◌+◌, Bool, true, false, List, [], ◌∷◌, ◌++◌, inl, inr, length, take, refl, sym, ap, subst, ◌∙◌, arith}
use Rattle.std.specs.Prelude.{Ok, Err, Result}
use Rattle.std.specs.FinMap.{get}
use Rattle.std.proofs.lemmas.Bool.{true≢false}
use Rattle.git_object.specs.Names.{log_name}
use Rattle.git_object.specs.Repository.{Repository}
use Rattle.rsl_chain.specs.Chain.{NeverBoth, OneBreak, OneLog}
use Rattle.rsl_chain.specs.Logs.{IsBreakOf, IsLogOf, heads_of}
use Rattle.pushes.specs.MakingLaws.{OneMaking}
use Rattle.pushes.specs.Making.{IsMade, IsTooLarge, Lacks}
use Rattle.desk_messages.specs.ClientAsking.{most_read}
use Rattle.desk_messages.specs.ClientLaws.{OneCause, OneReading}
use Rattle.commands_desk.specs.Answering.{Says, is_done_code}
use Rattle.commands_desk.specs.Contents.{Answers, PushComes}
use Rattle.commands_desk.specs.Preparing.{HasNoEntry, IsTextOf, IsTooLargeOf, LacksOf, OfEntry, StandsAt}
use Rattle.commands_desk.specs.declared.faults.PushFault.{PushFault}
use Rattle.commands_desk.specs.declared.faults.PushFault.TheVariants.{LogBroken, NoEntry, Missing, TooLarge, Desk, KeeperFailed, PeerFailed, SinkFailed, Memory}

-- ---- one place

abbrev tail : List (List ℕ) → List (List ℕ)
tail [] = []
tail (x ∷ xs) = xs

head_same : (a b : List ℕ) (xs ys : List (List ℕ)) → a ∷ xs ≡ b ∷ ys → a ≡ b
head_same a b xs ys e = cc

same_place : (xs ys : List (List ℕ)) (a b : List ℕ) (r s : List (List ℕ)) → length xs ≡ length ys → xs ++ a ∷ r ≡ ys ++ b ∷ s → (xs ≡ ys) × (a ≡ b)
same_place [] [] a b r s len e = (refl, head_same a b r s e)
same_place [] (y ∷ ys) a b r s len e = absurd (omega (arith, len))
same_place (x ∷ xs) [] a b r s len e = absurd (omega (arith, len))
same_place (x ∷ xs) (y ∷ ys) a b r s len e =
    let more = same_place xs ys a b r s (omega (arith, len)) (ap tail e) in
    let first : x ≡ y = head_same x y (xs ++ a ∷ r) (ys ++ b ∷ s) e in
    ((λ i. first i ∷ more.0 i), more.1)

module _ (one : OneLog) (once : OneBreak) (apart : NeverBoth) (making : OneMaking) (reading : OneReading) (cause : OneCause) (r : Repository) (come : List ℕ) (number : ℕ) where
  same_log : (xs ys : List (List ℕ)) → IsLogOf r xs → IsLogOf r ys → xs ≡ ys
  same_log xs ys x y = one (heads_of r) (get r.refs log_name) xs ys x y

  -- what is so of the entry of the number is so of one entry
  meet : {A : Type 0} (So To : Repository → List (List ℕ) → List ℕ → Type 0) → OfEntry r number So → OfEntry r number To → ((before : List (List ℕ)) (id : List ℕ) → So r before id → To r before id → A) → A
  meet So To x y goes =
      let ids : x.ids ≡ y.ids = same_log x.ids y.ids x.log y.log in
      let a = x.stands.numbered in
      let b = y.stands.numbered in
      let at = same_place x.before y.before x.id y.id x.stands.rest y.stands.rest (omega (arith, a, b)) (sym x.stands.whole ∙ ids ∙ y.stands.whole) in
      let so : To r x.before x.id = subst (λ (i : List ℕ). To r x.before i) (sym at.1) (subst (λ (f : List (List ℕ)). To r f y.id) (sym at.0) y.so) in
      goes x.before x.id x.so so

  none_not : {So : Repository → List (List ℕ) → List ℕ → Type 0} → HasNoEntry r number → OfEntry r number So → ⊥
  none_not none of =
      let ids : of.ids ≡ none.ids = same_log of.ids none.ids of.log none.log in
      none.none of.before of.id (subst (λ (xs : List (List ℕ)). StandsAt xs number of.before of.id) ids of.stands)

  broken_not : (id : List ℕ) (ids : List (List ℕ)) → IsBreakOf r id → IsLogOf r ids → ⊥
  broken_not id ids broken log = apart (heads_of r) (get r.refs log_name) ids id log broken

  says_one : (bytes said other : List ℕ) (a b : Bool) → Says bytes said a → Says bytes other b → a ≡ b
  says_one bytes said other a b (inl x) (inl y) =
      x.taken_is ∙ ap is_done_code (reading bytes x.code y.code said other x.reply y.reply).0 ∙ sym y.taken_is
  says_one bytes said other a b (inl x) (inr y) = absurd (cause.apart bytes x.code said y.why x.reply y.bad)
  says_one bytes said other a b (inr x) (inl y) = absurd (cause.apart bytes y.code other x.why y.reply x.bad)
  says_one bytes said other a b (inr x) (inr y) = x.taken_is ∙ sym y.taken_is

  one_answer : (a b : Bool) → Answers r come number a → Answers r come number b → a ≡ b
  one_answer a b x y = says_one (take most_read come) x.said y.said a b x.says y.says

  lacks_not : (missing text : List ℕ) → LacksOf r number missing → IsTextOf r number text → ⊥
  lacks_not missing text x y = meet (λ r before id. Lacks r before id missing) (λ r before id. IsMade r before id text) x y (λ before id lacks made. making.made_whole r before id text missing made lacks)

  large_not : (text : List ℕ) → IsTooLargeOf r number → IsTextOf r number text → ⊥
  large_not text x y = meet IsTooLarge (λ r before id. IsMade r before id text) x y (λ before id large made. making.made_short r before id text made large)

  lacks_large : (missing : List ℕ) → LacksOf r number missing → IsTooLargeOf r number → ⊥
  lacks_large missing x y = meet (λ r before id. Lacks r before id missing) IsTooLarge x y (λ before id lacks large. making.large_whole r before id missing lacks large)

  one_missing : (a b : List ℕ) → LacksOf r number a → LacksOf r number b → a ≡ b
  one_missing a b x y = meet (λ r before id. Lacks r before id a) (λ r before id. Lacks r before id b) x y (λ before id p q. making.one_missing r before id a b p q)

  -- ---- the outcomes, one after the other

  not_answered : (taken : Bool) (b : PushFault) → Answers r come number taken → PushComes r come number (Err b) → (b ≡ Desk) × (taken ≡ false)
  not_answered taken (LogBroken id) x y = absurd (broken_not id x.made.ids y x.made.log)
  not_answered taken NoEntry x y = absurd (none_not y x.made)
  not_answered taken (Missing id) x y = absurd (lacks_not id x.text y x.made)
  not_answered taken TooLarge x y = absurd (large_not x.text y x.made)
  not_answered taken Desk x y = (refl, one_answer taken false x y)
  not_answered taken KeeperFailed x y = absurd y
  not_answered taken PeerFailed x y = absurd y
  not_answered taken SinkFailed x y = absurd y
  not_answered taken Memory x y = absurd y

  same_fault : (a b : PushFault) → PushComes r come number (Err a) → PushComes r come number (Err b) → a ≡ b
  same_fault (LogBroken id) (LogBroken found) x y = ap LogBroken (once (heads_of r) (get r.refs log_name) id found x y)
  same_fault (LogBroken id) NoEntry x y = absurd (broken_not id y.ids x y.log)
  same_fault (LogBroken id) (Missing found) x y = absurd (broken_not id y.ids x y.log)
  same_fault (LogBroken id) TooLarge x y = absurd (broken_not id y.ids x y.log)
  same_fault (LogBroken id) Desk x y = absurd (broken_not id y.made.ids x y.made.log)
  same_fault (LogBroken id) KeeperFailed x y = absurd y
  same_fault (LogBroken id) PeerFailed x y = absurd y
  same_fault (LogBroken id) SinkFailed x y = absurd y
  same_fault (LogBroken id) Memory x y = absurd y
  same_fault NoEntry (LogBroken found) x y = absurd (broken_not found x.ids y x.log)
  same_fault NoEntry NoEntry x y = refl
  same_fault NoEntry (Missing found) x y = absurd (none_not x y)
  same_fault NoEntry TooLarge x y = absurd (none_not x y)
  same_fault NoEntry Desk x y = absurd (none_not x y.made)
  same_fault NoEntry KeeperFailed x y = absurd y
  same_fault NoEntry PeerFailed x y = absurd y
  same_fault NoEntry SinkFailed x y = absurd y
  same_fault NoEntry Memory x y = absurd y
  same_fault (Missing id) (LogBroken found) x y = absurd (broken_not found x.ids y x.log)
  same_fault (Missing id) NoEntry x y = absurd (none_not y x)
  same_fault (Missing id) (Missing found) x y = ap Missing (one_missing id found x y)
  same_fault (Missing id) TooLarge x y = absurd (lacks_large id x y)
  same_fault (Missing id) Desk x y = absurd (lacks_not id y.text x y.made)
  same_fault (Missing id) KeeperFailed x y = absurd y
  same_fault (Missing id) PeerFailed x y = absurd y
  same_fault (Missing id) SinkFailed x y = absurd y
  same_fault (Missing id) Memory x y = absurd y
  same_fault TooLarge (LogBroken found) x y = absurd (broken_not found x.ids y x.log)
  same_fault TooLarge NoEntry x y = absurd (none_not y x)
  same_fault TooLarge (Missing found) x y = absurd (lacks_large found y x)
  same_fault TooLarge TooLarge x y = refl
  same_fault TooLarge Desk x y = absurd (large_not y.text x y.made)
  same_fault TooLarge KeeperFailed x y = absurd y
  same_fault TooLarge PeerFailed x y = absurd y
  same_fault TooLarge SinkFailed x y = absurd y
  same_fault TooLarge Memory x y = absurd y
  same_fault Desk b x y = sym (not_answered false b x y).0
  same_fault KeeperFailed b x y = absurd x
  same_fault PeerFailed b x y = absurd x
  same_fault SinkFailed b x y = absurd x
  same_fault Memory b x y = absurd x

  pub same_push : (a b : Result (Unit {0}) PushFault) → PushComes r come number a → PushComes r come number b → a ≡ b
  same_push (Ok x) (Ok y) is other = refl
  same_push (Ok x) (Err b) is other = absurd (true≢false (not_answered true b is other).1)
  same_push (Err a) (Ok y) is other = absurd (true≢false (not_answered true a other is).1)
  same_push (Err a) (Err b) is other = ap Err (same_fault a b is other)
