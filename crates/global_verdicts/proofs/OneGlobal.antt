-- One verdict by global rules at most, and none where the log breaks.
use Rattle.std.proofs.Common.{◌≡◌, ℕ, List, Option, Some, None, ap, sym, subst, ◌∙◌, inl, inr, arith}
use Rattle.std.specs.FinMap.{get}
use Rattle.std.proofs.lemmas.Bool.{cases_Bool, cases_lt}
use Rattle.git_object.specs.Names.{log_name}
use Rattle.git_object.specs.Repository.{Repository}
use Rattle.rsl_chain.specs.Entries.{Taken}
use Rattle.rsl_chain.specs.Logs.{IsBreakOf, heads_of}
use Rattle.rsl_chain.proofs.Chains.{never_both, one_log}
use Rattle.rsl_chain.specs.declared.entries.EntryBody.{EntryBody}
use Rattle.judging.specs.Logs.{before}
use Rattle.judging.specs.Rules.{Rules}
use Rattle.policy_epochs.specs.declared.policies.Policy.{Policy}
use Rattle.entry_rules.specs.RealRules.{real_rules}
use Rattle.entry_rules.specs.declared.faults.Fault.{Fault}
use Rattle.verify_ref.specs.Logs.{AreEntries}
use Rattle.verify_ref.proofs.OneVerdict.{same_entries}
use Rattle.global_rules.proofs.Same as whys
use Rattle.global_rules.specs.declared.found_files.FoundFile.{FoundFile}
use Rattle.global_rules.specs.declared.whys.Change.{Change}
use Rattle.global_rules.specs.declared.whys.GlobalWhy.{GlobalWhy}
use Rattle.global_verdicts.specs.Rows.{IsUnder, IsWhyBy, IsWhyOf, change_by, is_judged}
use Rattle.global_verdicts.specs.Verdicts.{Breaks, IsGlobal, IsGlobalVerdict, Keeps}
use Rattle.global_verdicts.specs.declared.verdicts.GlobalVerdict.{GlobalVerdict}
use Rattle.global_verdicts.specs.declared.verdicts.GlobalVerdict.TheVariants.{Kept, Violation}

under_same : (r : Repository) (policy : Option Policy) (found : FoundFile) (change : Change) (a b : Option GlobalWhy) → IsUnder r policy found change a → IsUnder r policy found change b → a ≡ b
under_same r None found change a b is other = is ∙ sym other
under_same r (Some policy) found change a b is other = whys.one_why r policy.rules change found a b is other

why_same : (r : Repository) (name : List ℕ) (policy : Option Policy) (found : FoundFile) (from : List ℕ) (signers : List (List ℕ)) (body : EntryBody) (a b : Option GlobalWhy)
    → IsWhyBy r name policy found from signers body a → IsWhyBy r name policy found from signers body b → a ≡ b
why_same r name policy found from signers body a b is other = elim (cases_Bool (is_judged name body)) [
  | inl judged ↦ under_same r policy found (change_by name from signers body) a b (is.judged judged) (other.judged judged)
  | inr unjudged ↦ is.other unjudged ∙ sym (other.other unjudged)
]

module _ (rules : Rules Policy Fault) (log : List Taken) (name : List ℕ) where
  why_once : (earlier : List Taken) (t : Taken) (a b : Option GlobalWhy) → IsWhyOf rules name earlier t a → IsWhyOf rules name earlier t b → a ≡ b
  why_once earlier t a b is other = why_same t.repository name _ _ _ _ t.entry.body a b is other

  never : (number : ℕ) (why : GlobalWhy) → Breaks rules log name number why → Keeps rules log name number → ⊥
  never number why breaks keeps =
      let clash : None ≡ Some why = why_once (before log number) breaks.t None (Some why) (keeps breaks.t breaks.counts) breaks.breaks in
      cc clash

  same_break : (number : ℕ) (a b : GlobalWhy) → Breaks rules log name number a → Breaks rules log name number b → a ≡ b
  same_break number a b is other =
      let same : is.t ≡ other.t = let e : Some is.t ≡ Some other.t = sym is.counts.there ∙ other.counts.there in cc e in
      let one = why_once (before log number) other.t (Some a) (Some b) (subst (λ (t : Taken). IsWhyOf rules name (before log number) t (Some a)) same is.breaks) other.breaks in
      cc one

  pub verdict_once : (a b : GlobalVerdict) → IsGlobalVerdict rules log name a → IsGlobalVerdict rules log name b → a ≡ b
  verdict_once (Violation m a) (Violation n b) is other = elim (cases_lt m n) [
    | inl less ↦ absurd (never m a is.0 (other.1 m less))
    | inr least ↦ elim (cases_lt n m) [
      | inl less ↦ absurd (never n b other.0 (is.1 n less))
      | inr most ↦
          let same : m ≡ n = omega (arith, least, most) in
          let why : a ≡ b = same_break n a b (subst (λ (k : ℕ). Breaks rules log name k a) same is.0) other.0 in
          λ i. Violation (same i) (why i)
    ]
  ]
  verdict_once (Violation m a) (Kept n) is other = absurd (never m a is.0 (other.0 m))
  verdict_once (Kept m) (Violation n b) is other = absurd (never n b other.0 (is.0 n))
  verdict_once (Kept m) (Kept n) is other = ap Kept (is.1 ∙ sym other.1)

pub one_global : (r : Repository) (name : List ℕ) (anchor : Option (List (List ℕ))) (a b : GlobalVerdict) → IsGlobal r name anchor a → IsGlobal r name anchor b → a ≡ b
one_global r name anchor a b is other =
    let ids = one_log (heads_of r) (get r.refs log_name) is.ids other.ids is.is_log other.is_log in
    let entries : AreEntries r is.ids other.log = subst (λ xs. AreEntries r xs other.log) (sym ids) other.entries in
    let log = same_entries is.log other.log (sym is.entries ∙ entries) in
    verdict_once (real_rules anchor) is.log name a b is.judged (subst (λ xs. IsGlobalVerdict (real_rules anchor) xs name b) (sym log) other.judged)

pub global_or_break : (r : Repository) (name : List ℕ) (anchor : Option (List (List ℕ))) (verdict : GlobalVerdict) (id : List ℕ) → IsGlobal r name anchor verdict → IsBreakOf r id → ⊥
global_or_break r name anchor verdict id is breaks = never_both (heads_of r) (get r.refs log_name) is.ids id is.is_log breaks
