-- A repository has one verdict on a reference, or its log breaks, and never both.
use Rattle.std.proofs.Common.{◌≡◌, ℕ, List, [], ◌∷◌, Option, Some, None, map, refl, ap, sym, ◌∙◌, subst}
use Rattle.std.specs.FinMap.{get}
use Rattle.git_object.specs.Names.{log_name}
use Rattle.git_object.specs.Repository.{Repository, value_of}
use Rattle.rsl_chain.specs.Entries.{Taken}
use Rattle.recovery.specs.Lanes.{first_of}
use Rattle.judging.specs.Logs.{fault_at, lane}
use Rattle.judging.specs.Rules.{Rules}
use Rattle.judging.specs.Verdicts.{IsJudged}
use Rattle.judging.specs.declared.verdicts.Verdict.{Verdict}
use Rattle.judging.specs.declared.verdicts.Verdict.TheVariants.{Accepted, TipDiffers, Violation}
use Rattle.policy_epochs.specs.declared.policies.Policy.{Policy}
use Rattle.rsl_chain.specs.Logs.{IsBreakOf, heads_of}
use Rattle.rsl_chain.proofs.Chains.{never_both, one_log}
use Rattle.entry_rules.specs.declared.faults.Fault.{Fault}
use Rattle.entry_rules.specs.RealRules.{real_rules}
use Rattle.verify_ref.specs.Logs.{AreEntries}
use Rattle.verify_ref.specs.Verdicts.{IsVerdict}

abbrev in_some : {X : Type 0} → X → Option X → X
in_some d None = d
in_some d (Some x) = x

same_some : {X : Type 0} (x y : X) (o : Option X) → o ≡ Some x → o ≡ Some y → x ≡ y
same_some x y o e f = let both : Some x ≡ Some y = sym e ∙ f in ap (in_some x) both

not_none : {X : Type 0} (x : X) (o : Option X) → o ≡ Some x → o ≡ None → ⊥
not_none x o e f = let clash : Some x ≡ None = sym e ∙ f in cc clash

abbrev heads : {X : Type 0} (d : X) → List X → X
heads d [] = d
heads d (x ∷ xs) = x

abbrev tails : {X : Type 0} → List X → List X
tails [] = []
tails (x ∷ xs) = xs

-- a list is known by what `Some` makes of it
pub same_entries : (xs ys : List Taken) → map (λ (t : Taken). Some t) xs ≡ map (λ (t : Taken). Some t) ys → xs ≡ ys
same_entries [] [] e = refl
same_entries [] (y ∷ ys) e = absurd (cc e)
same_entries (x ∷ xs) [] e = absurd (cc e)
same_entries (x ∷ xs) (y ∷ ys) e =
    let here : Some x ≡ Some y = ap (heads None) e in
    let first : x ≡ y = ap (in_some x) here in
    let rest : xs ≡ ys = same_entries xs ys (ap tails e) in
    λ i. first i ∷ rest i

-- one verdict of a list
same_judged : (rules : Rules Policy Fault) (log : List Taken) (name kept : List ℕ) (a b : Verdict Fault) → IsJudged rules log name kept a → IsJudged rules log name kept b → a ≡ b
same_judged rules log name kept (Violation n f) (Violation m g) is other =
    let number : n ≡ m = same_some n m (first_of (lane rules log name).pending) is.0 other.0 in
    let fault : f ≡ g = same_some f g (fault_at rules log m) (ap (fault_at rules log) (sym number) ∙ is.1) other.1 in
    λ i. Violation (number i) (fault i)
same_judged rules log name kept (Violation n f) (TipDiffers stands recorded) is other = absurd (not_none n (first_of (lane rules log name).pending) is.0 other.0)
same_judged rules log name kept (Violation n f) (Accepted count) is other = absurd (not_none n (first_of (lane rules log name).pending) is.0 other.0)
same_judged rules log name kept (TipDiffers stands recorded) (Violation m g) is other = absurd (not_none m (first_of (lane rules log name).pending) other.0 is.0)
same_judged rules log name kept (TipDiffers a b) (TipDiffers c d) is other =
    let stands : a ≡ c = is.1 ∙ sym other.1 in
    let recorded : b ≡ d = is.2 ∙ sym other.2 in
    λ i. TipDiffers (stands i) (recorded i)
same_judged rules log name kept (TipDiffers a b) (Accepted count) is other = absurd (is.3 other.1)
same_judged rules log name kept (Accepted count) (Violation m g) is other = absurd (not_none m (first_of (lane rules log name).pending) other.0 is.0)
same_judged rules log name kept (Accepted count) (TipDiffers c d) is other = absurd (other.3 is.1)
same_judged rules log name kept (Accepted m) (Accepted n) is other = ap Accepted (is.2 ∙ sym other.2)

pub one_verdict : (r : Repository) (name : List ℕ) (anchor : Option (List (List ℕ))) (a b : Verdict Fault) → IsVerdict r name anchor a → IsVerdict r name anchor b → a ≡ b
one_verdict r name anchor a b is other =
    let ids = one_log (heads_of r) (get r.refs log_name) is.ids other.ids is.is_log other.is_log in
    let entries : AreEntries r is.ids other.log = subst (λ xs. AreEntries r xs other.log) (sym ids) other.entries in
    let log = same_entries is.log other.log (sym is.entries ∙ entries) in
    same_judged (real_rules anchor) is.log name (value_of r name) a b is.judged (subst (λ xs. IsJudged (real_rules anchor) xs name (value_of r name) b) (sym log) other.judged)

pub verdict_or_break : (r : Repository) (name : List ℕ) (anchor : Option (List (List ℕ))) (verdict : Verdict Fault) (id : List ℕ) → IsVerdict r name anchor verdict → IsBreakOf r id → ⊥
verdict_or_break r name anchor verdict id is breaks = never_both (heads_of r) (get r.refs log_name) is.ids id is.is_log breaks
