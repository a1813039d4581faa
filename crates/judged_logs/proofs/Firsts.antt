-- By whom an entry is skipped or rescued, with one entry more.
use Rattle.std.proofs.Common.{◌≡◌, ◌&&◌, ◌<◌, ◌≤◌, ◌++◌, ℕ, suc, Bool, true, false, cond, not, nat_lt, List, [], ◌∷◌, Option, Some, None, length, is_none, refl, ap, sym, inl, inr, ◌∙◌, arith}
use Rattle.std.specs.List.{filter, list_any}
use Rattle.std.proofs.lemmas.Bool.{cases_lt, le-ltb, lt-ltb, true≢false}
use Rattle.rsl_chain.specs.Entries.{Taken}
use Rattle.recovery.specs.Lanes.{first_of}
use Rattle.judging.specs.Logs.{above_of, authorised, before, completes, entry_at, numbers, rescued, rescues, share, skipped, skips}
use Rattle.judging.specs.Rules.{Rules}
use Rattle.judging.proofs.Appends.{before_new, entry_new, entry_old, fault_old, long, no_entry, rescues_now, rescues_old, skips_old}
use Rattle.judging.proofs.Counting.{any_none, filter_same, filter_suc, first_number, no_first}
use Rattle.judged_logs.specs.Firsts.{rescuer_of, skipper_of, skips_at}
use Rattle.judged_logs.specs.Keeping.{noted}
use Rattle.judged_logs.specs.WhomLaws.{IsFirstRescue, IsFirstSkip}

first_cond : (xs : List ℕ) (b : Bool) (y : ℕ) → first_of (xs ++ cond b (y ∷ []) []) ≡ noted (first_of xs) b y
first_cond [] true y = refl
first_cond [] false y = refl
first_cond (x ∷ xs) b y = refl

pub noted_none : (o : Option ℕ) (y : ℕ) → noted o false y ≡ o
noted_none None y = refl
noted_none (Some x) y = refl

filter_false : (xs : List ℕ) → filter (λ _. false) xs ≡ []
filter_false [] = refl
filter_false (x ∷ xs) = filter_false xs

pub and_no : (b : Bool) → (b && false) ≡ false
and_no true = refl
and_no false = refl

no_end : (x y z : Bool) → (x && (y && (z && false))) ≡ false
no_end true true z = and_no z
no_end true false z = refl
no_end false y z = refl

pub and_yes : (b : Bool) → (b && true) ≡ b
and_yes true = refl
and_yes false = refl

cond_none : (b : Bool) (o : Option ℕ) → o ≡ None → cond b None o ≡ None
cond_none true o e = refl
cond_none false o e = e

module _ {P F : Type 0} (rules : Rules P F) where
  abbrev rescue_of : List Taken → ℕ → Option ℕ
  rescue_of log b = first_of (filter (λ f. rescues rules log f b) (numbers (length log)))

  no_skipper : (log : List Taken) (i : ℕ) → length log ≤ i → skipper_of rules log i ≡ None
  no_skipper log i h =
      ap first_of (filter_same (skips_at rules log i) (λ _. false) (length log) (λ a a0 a1. ap (λ c. c && skips rules (before log a) (entry_at log a) (entry_at log i)) (le-ltb i a (omega arith)))
      ∙ filter_false (numbers (length log)))

  no_rescue : (log : List Taken) (b : ℕ) → length log ≤ b → rescue_of log b ≡ None
  no_rescue log b h =
      ap first_of (filter_same (λ f. rescues rules log f b) (λ _. false) (length log) (λ f f0 f1.
      ap (λ c. share (entry_at log f) (entry_at log b) && (completes rules (before log f) (entry_at log f) && (nat_lt (above_of rules (before log f) (entry_at log f)) b && c))) (le-ltb b f (omega arith))
      ∙ no_end (share (entry_at log f) (entry_at log b)) (completes rules (before log f) (entry_at log f)) (nat_lt (above_of rules (before log f) (entry_at log f)) b))
      ∙ filter_false (numbers (length log)))

  pub unskipped_then : (log : List Taken) (i : ℕ) → skipper_of rules log i ≡ None → skipped rules log i ≡ false
  unskipped_then log i none = any_none (skips_at rules log i) (length log) (no_first (skips_at rules log i) (length log) none)

  pub unrescued_then : (log : List Taken) (b : ℕ) → rescuer_of rules log b ≡ None → authorised rules log b ≡ false → rescued rules log b ≡ false
  unrescued_then log b none refused =
      any_none (λ f. rescues rules log f b) (length log)
      (no_first (λ f. rescues rules log f b) (length log) (sym (ap (λ c. cond c None (rescue_of log b)) refused) ∙ none))

  pub first_skip : (log : List Taken) (i : ℕ) → IsFirstSkip rules log i
  first_skip log i = record { some = λ a is. first_number (skips_at rules log i) (length log) a is; none = unskipped_then log i }

  refused_where : (log : List Taken) (b f : ℕ) (c : Bool) → authorised rules log b ≡ c → rescuer_of rules log b ≡ Some f → c ≡ false
  refused_where log b f true is h = absurd (let clash : None ≡ Some f = sym (ap (λ a. cond a None (rescue_of log b)) is) ∙ h in cc)
  refused_where log b f false is h = refl

  pub first_rescue : (log : List Taken) (b : ℕ) → IsFirstRescue rules log b
  first_rescue log b = record {
    refused = λ f is. refused_where log b f (authorised rules log b) refl is;
    some = λ f is. first_number (λ k. rescues rules log k b) (length log) f (sym (ap (λ a. cond a None (rescue_of log b)) (refused_where log b f (authorised rules log b) refl is)) ∙ is);
    none = unrescued_then log b;
  }

  module _ (log : List Taken) (t : Taken) where
    skips_at_new : (i : ℕ) → 0 < i → i ≤ length log → skips_at rules (log ++ t ∷ []) i (suc (length log)) ≡ skips rules log (Some t) (entry_at log i)
    skips_at_new i a b =
        ap (λ c. c && skips rules (before (log ++ t ∷ []) (suc (length log))) (entry_at (log ++ t ∷ []) (suc (length log))) (entry_at (log ++ t ∷ []) i)) (lt-ltb i (suc (length log)) (omega arith))
        ∙ ap (λ l. skips rules l (entry_at (log ++ t ∷ []) (suc (length log))) (entry_at (log ++ t ∷ []) i)) (before_new log (t ∷ []))
        ∙ ap (λ x. skips rules log x (entry_at (log ++ t ∷ []) i)) (entry_new log t)
        ∙ ap (skips rules log (Some t)) (entry_old log (t ∷ []) i a b)

    pub skipper_more : (i : ℕ) → 0 < i → skipper_of rules (log ++ t ∷ []) i ≡ noted (skipper_of rules log i) (skips rules log (Some t) (entry_at log i)) (suc (length log))
    skipper_more i some =
        elim (cases_lt (length log) i) [
          | inl past ↦
              no_skipper (log ++ t ∷ []) i (let e = long log t in omega arith)
              ∙ sym (ap (λ o. noted o (skips rules log (Some t) (entry_at log i)) (suc (length log))) (no_skipper log i (omega arith)) ∙ ap (λ e. noted None (skips rules log (Some t) e) (suc (length log))) (no_entry log i past))
          | inr within ↦
              ap (λ k. first_of (filter (skips_at rules (log ++ t ∷ []) i) (numbers k))) (long log t)
              ∙ ap first_of (filter_suc (skips_at rules (log ++ t ∷ []) i) (length log)
              ∙ ap (λ xs. xs ++ cond (skips_at rules (log ++ t ∷ []) i (suc (length log))) (suc (length log) ∷ []) []) (filter_same (skips_at rules (log ++ t ∷ []) i) (skips_at rules log i) (length log) (λ a a0 a1. ap (λ c. nat_lt i a && c) (skips_old rules log (t ∷ []) a i a0 a1 some within)))
              ∙ ap (λ c. filter (skips_at rules log i) (numbers (length log)) ++ cond c (suc (length log) ∷ []) []) (skips_at_new i some within))
              ∙ first_cond (filter (skips_at rules log i) (numbers (length log))) (skips rules log (Some t) (entry_at log i)) (suc (length log))
        ]

    rescues_new : (b : ℕ) → 0 < b → b ≤ length log → rescues rules (log ++ t ∷ []) (suc (length log)) b ≡ rescues_now rules log t b
    rescues_new b some within =
        ap (λ l. share (entry_at (log ++ t ∷ []) (suc (length log))) (entry_at (log ++ t ∷ []) b) && (completes rules l (entry_at (log ++ t ∷ []) (suc (length log))) && (nat_lt (above_of rules l (entry_at (log ++ t ∷ []) (suc (length log)))) b && nat_lt b (suc (length log))))) (before_new log (t ∷ []))
        ∙ ap (λ x. share x (entry_at (log ++ t ∷ []) b) && (completes rules log x && (nat_lt (above_of rules log x) b && nat_lt b (suc (length log))))) (entry_new log t)
        ∙ ap (λ x. share (Some t) x && (completes rules log (Some t) && (nat_lt (above_of rules log (Some t)) b && nat_lt b (suc (length log))))) (entry_old log (t ∷ []) b some within)

    rescue_more : (b : ℕ) → 0 < b → b ≤ length log → rescue_of (log ++ t ∷ []) b ≡ noted (rescue_of log b) (rescues_now rules log t b) (suc (length log))
    rescue_more b some within =
        ap (λ k. first_of (filter (λ f. rescues rules (log ++ t ∷ []) f b) (numbers k))) (long log t)
        ∙ ap first_of (filter_suc (λ f. rescues rules (log ++ t ∷ []) f b) (length log)
        ∙ ap (λ xs. xs ++ cond (rescues rules (log ++ t ∷ []) (suc (length log)) b) (suc (length log) ∷ []) []) (filter_same (λ f. rescues rules (log ++ t ∷ []) f b) (λ f. rescues rules log f b) (length log) (λ f f0 f1. rescues_old rules log (t ∷ []) f b f0 f1 some within))
        ∙ ap (λ c. filter (λ f. rescues rules log f b) (numbers (length log)) ++ cond c (suc (length log) ∷ []) []) (rescues_new b some within))
        ∙ first_cond (filter (λ f. rescues rules log f b) (numbers (length log))) (rescues_now rules log t b) (suc (length log))

    by_case : (a : Bool) (old new : Option ℕ) (hit : Bool) → new ≡ noted old hit (suc (length log)) → cond a None new ≡ noted (cond a None old) (not a && hit) (suc (length log))
    by_case true old new hit e = refl
    by_case false old new hit e = e

    pub rescuer_more : (b : ℕ) → 0 < b → rescuer_of rules (log ++ t ∷ []) b ≡ noted (rescuer_of rules log b) (not (authorised rules log b) && rescues_now rules log t b) (suc (length log))
    rescuer_more b some =
        elim (cases_lt (length log) b) [
          | inl past ↦
              cond_none (authorised rules (log ++ t ∷ []) b) (rescue_of (log ++ t ∷ []) b) (no_rescue (log ++ t ∷ []) b (let e = long log t in omega arith))
              ∙ sym (ap (λ o. noted o (not (authorised rules log b) && rescues_now rules log t b) (suc (length log))) (cond_none (authorised rules log b) (rescue_of log b) (no_rescue log b (omega arith)))
              ∙ ap (λ e. noted None (not (authorised rules log b) && (share (Some t) e && (completes rules log (Some t) && (nat_lt (above_of rules log (Some t)) b && nat_lt b (suc (length log)))))) (suc (length log))) (no_entry log b past)
              ∙ ap (λ c. noted None c (suc (length log))) (and_no (not (authorised rules log b))))
          | inr within ↦
              ap (λ a. cond (is_none a) None (rescue_of (log ++ t ∷ []) b)) (fault_old rules log (t ∷ []) b some within)
              ∙ by_case (authorised rules log b) (rescue_of log b) (rescue_of (log ++ t ∷ []) b) (rescues_now rules log t b) (rescue_more b some within)
        ]
