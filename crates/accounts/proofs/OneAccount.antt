-- A repository has one account at most.
use Rattle.std.proofs.Common.{◌≡◌, ◌<◌, ◌≤◌, ◌-◌, ℕ, Bool, true, List, Option, Some, length, map, take, sym, ap, subst, ◌∙◌}
use Rattle.std.specs.FinMap.{get}
use Rattle.std.proofs.lemmas.Bool.{true≢false}
use Rattle.std.proofs.lemmas.List.{take-map}
use Rattle.git_object.specs.Names.{log_name}
use Rattle.git_object.specs.Repository.{Repository}
use Rattle.rsl_chain.specs.Entries.{Taken}
use Rattle.rsl_chain.specs.Chain.{NeverBoth, OneLog}
use Rattle.rsl_chain.specs.Logs.{IsBreakOf, heads_of}
use Rattle.judging.proofs.Counting.{last_number}
use Rattle.judging.specs.Logs.{before}
use Rattle.entry_rules.specs.RealRules.{real_rules}
use Rattle.verify_ref.specs.Logs.{AreEntries, taken_at}
use Rattle.verify_ref.proofs.OneVerdict.{one_verdict, same_entries}
use Rattle.accounts.specs.Accounts.{IsLine, IsLineOf, IsToldVerdict, is_accepted, line_of, told_line}
use Rattle.accounts.specs.Fronts.{AsBefore}
use Rattle.accounts.specs.Rows.{epoch_of, opens_at}

module _ (anchor : Option (List (List ℕ))) (log : List Taken) (number : ℕ) where
  in_log : (a b : List ℕ) → IsLine anchor log number a → IsLine anchor log number b → a ≡ b
  in_log a b is other =
      let both : Some is.t ≡ Some other.t = sym is.there ∙ other.there in
      let same : is.t ≡ other.t = cc both in
      is.is ∙ ap (line_of anchor log number) same ∙ sym other.is

pub same_line : OneLog → (anchor : Option (List (List ℕ))) (r : Repository) (number : ℕ) (a b : List ℕ) → IsLineOf anchor r number a → IsLineOf anchor r number b → a ≡ b
same_line one anchor r number a b is other =
    let ids = one (heads_of r) (get r.refs log_name) is.ids other.ids is.is_log other.is_log in
    let entries : AreEntries r is.ids other.log = subst (λ (xs : List (List ℕ)). AreEntries r xs other.log) (sym ids) other.entries in
    let log = same_entries is.log other.log (sym is.entries ∙ entries) in
    in_log anchor is.log number a b is.line (subst (λ (xs : List Taken). IsLine anchor xs number b) (sym log) other.line)

pub line_or_break : NeverBoth → (anchor : Option (List (List ℕ))) (r : Repository) (number : ℕ) (text id : List ℕ) → IsLineOf anchor r number text → IsBreakOf r id → ⊥
line_or_break apart anchor r number text id is breaks = apart (heads_of r) (get r.refs log_name) is.ids id is.is_log breaks

pub same_told : OneLog → (anchor : Option (List (List ℕ))) (r : Repository) (name a b : List ℕ) (m n : Bool) → IsToldVerdict anchor r name a m → IsToldVerdict anchor r name b n → (a ≡ b) × (m ≡ n)
same_told one anchor r name a b m n is other =
    let same = one_verdict r name anchor is.verdict other.verdict is.judged other.judged in
    let ids = one (heads_of r) (get r.refs log_name) is.judged.ids other.judged.ids is.judged.is_log other.judged.is_log in
    let entries : AreEntries r is.judged.ids other.judged.log = subst (λ (xs : List (List ℕ)). AreEntries r xs other.judged.log) (sym ids) other.judged.entries in
    let log = same_entries is.judged.log other.judged.log (sym is.judged.entries ∙ entries) in (
      is.told ∙ ap (told_line (real_rules anchor) is.judged.log r name) same ∙ ap (λ (l : List Taken). told_line (real_rules anchor) l r name other.verdict) log ∙ sym other.told,
      is.is ∙ ap is_accepted same ∙ sym other.is,
    )

pub greatest : (anchor : Option (List (List ℕ))) (log : List Taken) (k : ℕ) → epoch_of (real_rules anchor) log ≡ Some k
    → (0 < k) × (k ≤ length log) × (opens_at (real_rules anchor) log k ≡ true) × ((j : ℕ) → k < j → j ≤ length log → opens_at (real_rules anchor) log j ≡ true → ⊥)
greatest anchor log k is =
    let last = last_number (opens_at (real_rules anchor) log) (length log) k is in
    (last.0, last.1, last.2, λ j later within opens. true≢false (sym opens ∙ last.3 j later within))

pub as_before : OneLog → AsBefore
as_before one anchor r number front whole is all =
    let n = number - 1 in
    let ids = one (heads_of r) (get r.refs log_name) is.ids all.ids is.is_log all.is_log in
    let some : Taken → Option Taken = λ t. Some t in
    let those : map (taken_at r) (take n all.ids) ≡ map some (take n all.log) =
    sym (take-map (taken_at r) n all.ids) ∙ ap (take n) all.entries ∙ take-map some n all.log in
    let these : AreEntries r (take n all.ids) is.log = subst (λ (xs : List (List ℕ)). AreEntries r (take n xs) is.log) ids is.entries in
    same_entries is.log (before all.log number) (sym these ∙ those)
