-- A log of which the entries from a number on were judged, with one entry more.
use Rattle.std.proofs.Common.{◌≡◌, ◌<◌, ◌≤◌, ◌+◌, ◌-◌, ◌&&◌, ◌++◌, ℕ, suc, zero, Bool, cond, is_none, List, [], ◌∷◌, Option, Some, None, length, refl, ap, sym, subst, ◌∙◌, inl, inr, arith}
use Rattle.std.specs.List.{slice_get}
use Rattle.std.proofs.lemmas.Bool.{cases_Bool, cases_eq}
use Rattle.std.proofs.lemmas.List.{length_push}
use Rattle.std.proofs.lemmas.Option.{slice_get_within}
use Rattle.git_object.specs.References.{policy_name}
use Rattle.rsl_chain.specs.Entries.{Taken, is_of}
use Rattle.judging.specs.Engines.{IsTaken, Stands, taken}
use Rattle.judging.specs.Logs.{before, entry_at, fault_of}
use Rattle.judging.specs.Rules.{Rules}
use Rattle.judging.specs.declared.verdicts.EntryVerdict.{EntryVerdict}
use Rattle.judging.proofs.Appends.{before_new, before_old, entry_new, entry_old}
use Rattle.judging.proofs.Takes.{attested_push}
use Rattle.judged_logs.specs.Keeping.{Knows}
use Rattle.judged_logs.specs.LaterRules.{AreNumbered, rules_from}
use Rattle.judged_logs.proofs.Later.{own_fault}
use Rattle.policy_epochs.specs.declared.policies.Policy.{Policy}
use Rattle.entry_rules.specs.RealRules.{real_rules}
use Rattle.entry_rules.specs.declared.faults.Fault.{Fault}
use Rattle.account_lines.specs.declared.rows.EntryRow.{EntryRow}
use Rattle.accounts.specs.Later.{AreRowsFrom, FollowsFrom, StandsFrom}
use Rattle.accounts.specs.Rows.{epoch_of, row_of}
use Rattle.accounts.specs.Steps.{attested_then, is_authorised}
use Rattle.accounts.specs.declared.later_log.LaterLog.{LaterLog}
use Rattle.accounts.proofs.Taking.{all_taken, authorised_is, epoch_found}

get_left : {X : Type 0} (xs ys : List X) (i : ℕ) → i < length xs → slice_get (xs ++ ys) i ≡ slice_get xs i
get_left [] ys i h = absurd (omega arith)
get_left (x ∷ xs) ys zero h = refl
get_left (x ∷ xs) ys (suc i) h = get_left xs ys i (omega arith)

get_end : {X : Type 0} (xs : List X) (x : X) → slice_get (xs ++ x ∷ []) (length xs) ≡ Some x
get_end [] x = refl
get_end (y ∷ xs) x = get_end xs x

numbered_more : (log : List Taken) (t : Taken) → AreNumbered log → t.entry.number ≡ suc (length log) → AreNumbered (log ++ t ∷ [])
numbered_more log t numbered own = λ number u some is.
    elim (cases_eq number (suc (length log))) [
      | inl at ↦
          let both : Some t ≡ Some u = sym (ap (entry_at (log ++ t ∷ [])) at ∙ entry_new log t) ∙ is in
          let same : t ≡ u = cc both in
          sym (ap (λ (x : Taken). x.entry.number) same) ∙ own ∙ sym at
      | inr apart ↦
          let below = slice_get_within (log ++ t ∷ []) (number - 1) u is in
          let long = length_push log t in
          let within : number ≤ length log = omega arith in
          numbered number u some (sym (entry_old log (t ∷ []) number some within) ∙ is)
    ]

rows_from_more : (first : ℕ) (anchor : Option (List (List ℕ))) (log : List Taken) (t : Taken) (rows : List EntryRow) (row : EntryRow) → length rows ≡ length log
    → (first ≤ suc (length log) → row ≡ row_of anchor log t) → AreRowsFrom first anchor log rows → AreRowsFrom first anchor (log ++ t ∷ []) (rows ++ row ∷ [])
rows_from_more first anchor log t rows row many made known = λ number x some late is.
    elim (cases_eq number (suc (length log))) [
      | inl at ↦
          let place : number - 1 ≡ length rows = omega arith in
          let both : Some row ≡ Some x = sym (ap (slice_get (rows ++ row ∷ [])) place ∙ get_end rows row) ∙ is in
          let same : row ≡ x = cc both in
          let front : before (log ++ t ∷ []) number ≡ log = ap (before (log ++ t ∷ [])) at ∙ before_new log (t ∷ []) in
          let judged : first ≤ suc (length log) = omega arith in
          (t, ap (entry_at (log ++ t ∷ [])) at ∙ entry_new log t, sym same ∙ made judged ∙ ap (λ (l : List Taken). row_of anchor l t) (sym front))
      | inr apart ↦
          let below = slice_get_within (rows ++ row ∷ []) (number - 1) x is in
          let long = length_push rows row in
          let within : number ≤ length log = omega arith in
          let there : number - 1 < length rows = omega arith in
          let was = known number x some late (sym (get_left rows (row ∷ []) (number - 1) there) ∙ is) in
          let front : before (log ++ t ∷ []) number ≡ before log number = before_old log (t ∷ []) number (omega arith) in
          (was.0, entry_old log (t ∷ []) number some within ∙ was.1, was.2 ∙ ap (λ (l : List Taken). row_of anchor l was.0) (sym front))
    ]

-- whether an entry opens a policy is found of each
opens_all : (first : ℕ) (rules : Rules Policy Fault) (log : List Taken) (t : Taken)
    → (is_of t.entry.body policy_name && is_none (fault_of (rules_from first rules) log (Some t))) ≡ (is_of t.entry.body policy_name && is_none (fault_of rules log (Some t)))
opens_all first rules log t =
    let own = is_of t.entry.body policy_name in
    let part = is_none (fault_of (rules_from first rules) log (Some t)) in
    let whole = is_none (fault_of rules log (Some t)) in
    elim (cases_Bool own) [
      | inl is ↦ ap (λ (x : Option Fault). own && is_none x) (own_fault first rules log t is)
      | inr isnt ↦ ap (λ (b : Bool). b && part) isnt ∙ sym (ap (λ (b : Bool). b && whole) isnt)
    ]

-- what holds for two numbers and keys that are the same
pub carried : (P : ℕ → Option (List (List ℕ)) → Type 0) (m n : ℕ) (a b : Option (List (List ℕ))) → m ≡ n → a ≡ b → P m a → P n b
carried P m n a b number keys p = subst (λ (x : Option (List (List ℕ))). P n x) keys (subst (λ (k : ℕ). P k a) number p)

-- what was found of an entry before it was taken, and what was answered then
pub record IsFoundFrom (log : List Taken) (t : Taken) (was now : LaterLog) (row : EntryRow) : Type 0 where
  pub first : now.engine.first ≡ was.engine.first
  pub anchor : now.engine.rules.anchor ≡ was.engine.rules.anchor
  pub takes : IsTaken (rules_from was.engine.first (real_rules was.engine.rules.anchor)) log t now.engine.entries row.verdict
  pub number : t.entry.number ≡ taken was.engine.entries + 1
  pub opened : now.epoch ≡ cond (is_of t.entry.body policy_name && is_authorised row.verdict) (Some t.entry.number) was.epoch
  pub known : was.engine.first ≤ t.entry.number → row ≡ row_of was.engine.rules.anchor log t
  pub rows : now.rows ≡ was.rows ++ row ∷ []
  pub attested : now.attested ≡ attested_then was.attested t.entry.body
  pub later : Knows (rules_from was.engine.first (real_rules was.engine.rules.anchor)) (log ++ t ∷ []) now.later

pub stands_from_more : (log : List Taken) (t : Taken) (was now : LaterLog) (row : EntryRow) → StandsFrom log was → IsFoundFrom log t was now row → StandsFrom (log ++ t ∷ []) now
stands_from_more log t was now row stands found =
    let first = was.engine.first in
    let anchor = was.engine.rules.anchor in
    let rules = rules_from first (real_rules anchor) in
    let more = log ++ t ∷ [] in
    let long = all_taken rules log was.engine.entries stands.follows in
    let next = found.number in
    let number : t.entry.number ≡ suc (length log) = omega arith in
    let known : first ≤ suc (length log) → row ≡ row_of anchor log t = λ late. found.known (omega arith) in
    let rows : AreRowsFrom first anchor more now.rows =
    subst (λ (xs : List EntryRow). AreRowsFrom first anchor more xs) (sym found.rows) (rows_from_more first anchor log t was.rows row stands.long known stands.rows) in
    let opens : (is_of t.entry.body policy_name && is_authorised row.verdict) ≡ (is_of t.entry.body policy_name && is_none (fault_of (real_rules anchor) log (Some t))) =
    ap (λ (v : EntryVerdict Fault). is_of t.entry.body policy_name && is_authorised v) found.takes.answer
    ∙ authorised_is t.entry.body (fault_of rules log (Some t)) ∙ opens_all first (real_rules anchor) log t in
    let epoch : now.epoch ≡ epoch_of (real_rules anchor) more =
    epoch_found (real_rules anchor) log t was.epoch now.epoch t.entry.number (is_of t.entry.body policy_name && is_authorised row.verdict) number stands.epoch opens found.opened in
    let many = length_push was.rows row in
    let many_more = length_push log t in
    let all = ap length found.rows in
    let had = stands.long in
    record {
      follows = carried (λ n a. Stands (rules_from n (real_rules a)) more now.engine.entries) first now.engine.first anchor now.engine.rules.anchor (sym found.first) (sym found.anchor) found.takes.stands;
      numbered = numbered_more log t stands.numbered number;
      epoch = epoch ∙ ap (λ (a : Option (List (List ℕ))). epoch_of (real_rules a) more) (sym found.anchor);
      attested = found.attested ∙ ap (λ (a : Option (List ℕ)). attested_then a t.entry.body) stands.attested ∙ sym (attested_push (real_rules anchor) log t);
      long = omega arith;
      rows = carried (λ n a. AreRowsFrom n a more now.rows) first now.engine.first anchor now.engine.rules.anchor (sym found.first) (sym found.anchor) rows;
      later = carried (λ n a. Knows (rules_from n (real_rules a)) more now.later) first now.engine.first anchor now.engine.rules.anchor (sym found.first) (sym found.anchor) found.later;
    }

-- it stands for no entry before any is taken
pub stands_for_none : (judged : LaterLog) → FollowsFrom [] judged.engine → judged.epoch ≡ None → judged.attested ≡ None → judged.rows ≡ []
    → Knows (rules_from judged.engine.first (real_rules judged.engine.rules.anchor)) [] judged.later → StandsFrom [] judged
stands_for_none judged follows epoch attested rows later = record {
  follows = follows;
  numbered = λ number t some is. absurd (cc is);
  epoch = epoch;
  attested = attested;
  long = ap length rows;
  rows = λ number row some late is.
      let none : None ≡ Some row = sym (ap (λ (xs : List EntryRow). slice_get xs (number - 1)) rows) ∙ is in
      absurd (cc none);
  later = later;
}
