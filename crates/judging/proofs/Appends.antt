-- What entries at the end of the list change of the earlier ones.
use Rattle.std.proofs.Common.{◌≡◌, ◌&&◌, ◌||◌, ◌<◌, ◌≤◌, ◌+◌, ◌-◌, ◌++◌, ℕ, suc, zero, Bool, true, false, not, nat_lt, is_none, List, [], ◌∷◌, Option, Some, None, length, refl, ap, ◌∙◌, arith}
use Rattle.std.specs.List.{list_any, slice_get}
use Rattle.std.proofs.lemmas.Bool.{le-ltb, lt-ltb}
use Rattle.std.proofs.lemmas.List.{length_push, take-append-le, take_at}
use Rattle.rsl_chain.specs.Entries.{Taken}
use Rattle.judging.specs.Rules.{Rules}
use Rattle.judging.specs.Logs.{above_of, authorised, before, completes, entry_at, fault_at, fault_of, numbers, pending, rescued, rescues, share, skipped, skips}
use Rattle.judging.proofs.Counting.{any_none, any_same, any_suc}

get_left : {X : Type 0} (xs ys : List X) (i : ℕ) → i < length xs → slice_get (xs ++ ys) i ≡ slice_get xs i
get_left [] ys i h = absurd (omega arith)
get_left (x ∷ xs) ys zero h = refl
get_left (x ∷ xs) ys (suc i) h = get_left xs ys i (omega arith)

get_end : {X : Type 0} (xs : List X) (x : X) → slice_get (xs ++ x ∷ []) (length xs) ≡ Some x
get_end [] x = refl
get_end (y ∷ xs) x = get_end xs x

get_past : {X : Type 0} (xs : List X) (i : ℕ) → length xs ≤ i → slice_get xs i ≡ None
get_past [] i h = refl
get_past (x ∷ xs) zero h = absurd (omega arith)
get_past (x ∷ xs) (suc i) h = get_past xs i (omega arith)

pub entry_old : (log more : List Taken) (i : ℕ) → 0 < i → i ≤ length log → entry_at (log ++ more) i ≡ entry_at log i
entry_old log more i a b = get_left log more (i - 1) (omega arith)

pub before_old : (log more : List Taken) (i : ℕ) → i ≤ length log + 1 → before (log ++ more) i ≡ before log i
before_old log more i h = take-append-le (i - 1) log more (omega arith)

pub entry_new : (log : List Taken) (t : Taken) → entry_at (log ++ t ∷ []) (suc (length log)) ≡ Some t
entry_new log t = let e : suc (length log) - 1 ≡ length log = omega arith in ap (slice_get (log ++ t ∷ [])) e ∙ get_end log t

pub before_new : (log more : List Taken) → before (log ++ more) (suc (length log)) ≡ log
before_new log more = take_at log more (suc (length log) - 1) (omega arith)

pub no_entry : (log : List Taken) (i : ℕ) → length log < i → entry_at log i ≡ None
no_entry log i h = get_past log (i - 1) (omega arith)

pub long : (log : List Taken) (t : Taken) → length (log ++ t ∷ []) ≡ suc (length log)
long log t = let e = length_push log t in omega arith

module _ {P F : Type 0} (rules : Rules P F) where
  pub fault_old : (log more : List Taken) (i : ℕ) → 0 < i → i ≤ length log → fault_at rules (log ++ more) i ≡ fault_at rules log i
  fault_old log more i a b =
      ap (λ l. fault_of rules l (entry_at (log ++ more) i)) (before_old log more i (omega arith)) ∙ ap (fault_of rules (before log i)) (entry_old log more i a b)

  pub fault_new : (log : List Taken) (t : Taken) → fault_at rules (log ++ t ∷ []) (suc (length log)) ≡ fault_of rules log (Some t)
  fault_new log t = ap (λ l. fault_of rules l (entry_at (log ++ t ∷ []) (suc (length log)))) (before_new log (t ∷ [])) ∙ ap (fault_of rules log) (entry_new log t)

  pub skips_old : (log more : List Taken) (a i : ℕ) → 0 < a → a ≤ length log → 0 < i → i ≤ length log → skips rules (before (log ++ more) a) (entry_at (log ++ more) a) (entry_at (log ++ more) i) ≡ skips rules (before log a) (entry_at log a) (entry_at log i)
  skips_old log more a i a0 a1 i0 i1 =
      ap (λ l. skips rules l (entry_at (log ++ more) a) (entry_at (log ++ more) i)) (before_old log more a (omega arith))
      ∙ ap (λ x. skips rules (before log a) x (entry_at (log ++ more) i)) (entry_old log more a a0 a1)
      ∙ ap (skips rules (before log a) (entry_at log a)) (entry_old log more i i0 i1)

  pub skipped_old : (log : List Taken) (t : Taken) (i : ℕ) → 0 < i → i ≤ length log → skipped rules (log ++ t ∷ []) i ≡ (skipped rules log i || skips rules log (Some t) (entry_at log i))
  skipped_old log t i a b =
      let now = log ++ t ∷ [] in
      let p : ℕ → Bool = λ k. nat_lt i k && skips rules (before now k) (entry_at now k) (entry_at now i) in
      let q : ℕ → Bool = λ k. nat_lt i k && skips rules (before log k) (entry_at log k) (entry_at log i) in
      ap (λ n. list_any p (numbers n)) (long log t) ∙ any_suc p (length log)
      ∙ ap (λ c. c || p (suc (length log))) (any_same p q (length log) (λ k k0 k1. ap (λ c. nat_lt i k && c) (skips_old log (t ∷ []) k i k0 k1 a b)))
      ∙ ap (λ c. skipped rules log i || c) (
      ap (λ c. c && skips rules (before now (suc (length log))) (entry_at now (suc (length log))) (entry_at now i)) (lt-ltb i (suc (length log)) (omega arith))
      ∙ ap (λ l. skips rules l (entry_at now (suc (length log))) (entry_at now i)) (before_new log (t ∷ []))
      ∙ ap (λ x. skips rules log x (entry_at now i)) (entry_new log t)
      ∙ ap (skips rules log (Some t)) (entry_old log (t ∷ []) i a b))

  pub skipped_last : (log : List Taken) (i : ℕ) → length log ≤ i → skipped rules log i ≡ false
  skipped_last log i h =
      any_none (λ k. nat_lt i k && skips rules (before log k) (entry_at log k) (entry_at log i)) (length log) (λ k a b. ap (λ c. c && skips rules (before log k) (entry_at log k) (entry_at log i)) (le-ltb i k (omega arith)))

  pub skipped_new : (log : List Taken) (t : Taken) → skipped rules (log ++ t ∷ []) (suc (length log)) ≡ false
  skipped_new log t = skipped_last (log ++ t ∷ []) (suc (length log)) (let e = long log t in omega arith)

  -- what the entry that comes after these rescues
  abbrev pub rescues_now : List Taken → Taken → ℕ → Bool
  rescues_now log t b = share (Some t) (entry_at log b) && (completes rules log (Some t) && (nat_lt (above_of rules log (Some t)) b && nat_lt b (suc (length log))))

  abbrev tested : Option Taken → List Taken → Option Taken → ℕ → ℕ → Bool
  tested f earlier b bn fn = share f b && (completes rules earlier f && (nat_lt (above_of rules earlier f) bn && nat_lt bn fn))

  pub rescues_old : (log more : List Taken) (f b : ℕ) → 0 < f → f ≤ length log → 0 < b → b ≤ length log → rescues rules (log ++ more) f b ≡ rescues rules log f b
  rescues_old log more f b f0 f1 b0 b1 =
      ap (λ l. tested (entry_at (log ++ more) f) l (entry_at (log ++ more) b) b f) (before_old log more f (omega arith))
      ∙ ap (λ x. tested x (before log f) (entry_at (log ++ more) b) b f) (entry_old log more f f0 f1)
      ∙ ap (λ x. tested (entry_at log f) (before log f) x b f) (entry_old log more b b0 b1)

  pub rescued_old : (log : List Taken) (t : Taken) (b : ℕ) → 0 < b → b ≤ length log → rescued rules (log ++ t ∷ []) b ≡ (rescued rules log b || rescues_now log t b)
  rescued_old log t b a h =
      let now = log ++ t ∷ [] in
      let p : ℕ → Bool = λ k. rescues rules now k b in
      let q : ℕ → Bool = λ k. rescues rules log k b in
      ap (λ n. list_any p (numbers n)) (long log t) ∙ any_suc p (length log)
      ∙ ap (λ c. c || p (suc (length log))) (any_same p q (length log) (λ k k0 k1. rescues_old log (t ∷ []) k b k0 k1 a h))
      ∙ ap (λ c. rescued rules log b || c) (
      ap (λ l. tested (entry_at now (suc (length log))) l (entry_at now b) b (suc (length log))) (before_new log (t ∷ []))
      ∙ ap (λ x. tested x log (entry_at now b) b (suc (length log))) (entry_new log t)
      ∙ ap (λ x. tested (Some t) log x b (suc (length log))) (entry_old log (t ∷ []) b a h))

  and_false : (x y z : Bool) → (x && (y && (z && false))) ≡ false
  and_false true true true = refl
  and_false true true false = refl
  and_false true false z = refl
  and_false false y z = refl

  pub rescued_last : (log : List Taken) (b : ℕ) → length log ≤ b → rescued rules log b ≡ false
  rescued_last log b h =
      any_none (λ f. rescues rules log f b) (length log) (λ f f0 f1.
      ap (λ c. share (entry_at log f) (entry_at log b) && (completes rules (before log f) (entry_at log f) && (nat_lt (above_of rules (before log f) (entry_at log f)) b && c))) (le-ltb b f (omega arith))
      ∙ and_false (share (entry_at log f) (entry_at log b)) (completes rules (before log f) (entry_at log f)) (nat_lt (above_of rules (before log f) (entry_at log f)) b))

  pub pending_new : (log : List Taken) (t : Taken) → pending rules (log ++ t ∷ []) (suc (length log)) ≡ not (is_none (fault_of rules log (Some t)))
  pending_new log t =
      ap (λ r. not (authorised rules (log ++ t ∷ []) (suc (length log))) && not r) (rescued_last (log ++ t ∷ []) (suc (length log)) (let e = long log t in omega arith))
      ∙ and_true (not (authorised rules (log ++ t ∷ []) (suc (length log)))) ∙ ap (λ f. not (is_none f)) (fault_new log t) where
        and_true : (b : Bool) → (b && true) ≡ b
        and_true true = refl
        and_true false = refl

  split_not : (a r n : Bool) → (not a && not (r || n)) ≡ ((not a && not r) && not n)
  split_not true r n = refl
  split_not false true n = refl
  split_not false false n = refl

  pub pending_old : (log : List Taken) (t : Taken) (i : ℕ) → 0 < i → i ≤ length log → pending rules (log ++ t ∷ []) i ≡ (pending rules log i && not (rescues_now log t i))
  pending_old log t i a b =
      ap (λ f. not (is_none f) && not (rescued rules (log ++ t ∷ []) i)) (fault_old log (t ∷ []) i a b)
      ∙ ap (λ r. not (authorised rules log i) && not r) (rescued_old log t i a b)
      ∙ split_not (authorised rules log i) (rescued rules log i) (rescues_now log t i)
