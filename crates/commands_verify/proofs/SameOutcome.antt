-- There is at most one outcome for the same words and content.
use Rattle.std.proofs.Common.{◌≡◌, ℕ, List, refl, sym, ap, ◌∙◌, subst}
use Rattle.std.specs.Prelude.{Option, Ok, Err, Bool, IsTrue, Result}
use Rattle.std.specs.FinMap.{get}
use Rattle.git_object.specs.Names.{log_name}
use Rattle.git_object.specs.Repository.{Repository}
use Rattle.rsl_chain.specs.Chain.{OneBreak}
use Rattle.rsl_chain.specs.Logs.{IsBreakOf, heads_of}
use Rattle.clone_stream.specs.Laws.{OneRefusal}
use Rattle.clone_stream.specs.Streams.{OneSpelling}
use Rattle.commands_stream.specs.Contents.{TakeComes}
use Rattle.commands_verify.specs.Contents.{IsBrokenLog, IsJudged, VerifyComes}
use Rattle.commands_verify.specs.Verdicts.{RefVerdict, anchor_of}
use Rattle.verify_ref.specs.Verdicts.{IsVerdict}
use Rattle.verify_ref.proofs.OneVerdict.{one_verdict, verdict_or_break}
use Rattle.commands_stream.specs.declared.taking.TakeFault.{TakeFault}
use Rattle.commands_verify.specs.declared.verifying.VerifyFault.{VerifyFault}
use Rattle.commands_verify.specs.declared.verifying.VerifyFault.TheVariants as verify
use Rattle.commands_stream.proofs.SameStream.{same_opened, same_fault, opened_or_declined}

module _ (spelling : OneSpelling) (refusal : OneRefusal) (was : Repository) (bytes : List ℕ) where
  -- what a verdict comes to
  data Judging (name : List ℕ) (root : Option (List (List ℕ))) (stdin : Bool) (outcome : Result RefVerdict VerifyFault) : Type 0 where
    judged : (verdict : RefVerdict) → outcome ≡ Ok verdict → IsJudged name root stdin was bytes verdict → Judging name root stdin outcome
    refused : (fault : TakeFault) → outcome ≡ Err (verify.Unopened fault) → IsTrue stdin → TakeComes was bytes fault → Judging name root stdin outcome
    broken : (id : List ℕ) → outcome ≡ Err (verify.LogBroken id) → IsBrokenLog stdin was bytes id → Judging name root stdin outcome

  judging : (name : List ℕ) (root : Option (List (List ℕ))) (stdin : Bool) (outcome : Result RefVerdict VerifyFault) → VerifyComes name root stdin was bytes outcome → Judging name root stdin outcome
  judging name root stdin (Ok verdict) is = judged verdict refl is
  judging name root stdin (Err (verify.Unopened fault)) is = refused fault refl is.0 is.1
  judging name root stdin (Err (verify.LogBroken id)) is = broken id refl is
  judging name root stdin (Err verify.KeeperFailed) is = absurd is
  judging name root stdin (Err verify.SinkFailed) is = absurd is
  judging name root stdin (Err verify.Memory) is = absurd is

  judged_once : (name : List ℕ) (root : Option (List (List ℕ))) (stdin : Bool) (a b : RefVerdict) → IsJudged name root stdin was bytes a → IsJudged name root stdin was bytes b → a ≡ b
  judged_once name root stdin a b is other =
      let repository = same_opened spelling refusal was bytes stdin is.repository other.repository is.opened other.opened in
      one_verdict is.repository name (anchor_of root) a b is.judged (subst (λ (r : Repository). IsVerdict r name (anchor_of root) b) (sym repository) other.judged)

  judged_or_broken : {X : Type 0} (name : List ℕ) (root : Option (List (List ℕ))) (stdin : Bool) (verdict : RefVerdict) (id : List ℕ) → IsJudged name root stdin was bytes verdict → IsBrokenLog stdin was bytes id → X
  judged_or_broken name root stdin verdict id is other =
      let repository = same_opened spelling refusal was bytes stdin is.repository other.repository is.opened other.opened in
      absurd (verdict_or_break is.repository name (anchor_of root) verdict id is.judged (subst (λ (r : Repository). IsBreakOf r id) (sym repository) other.breaks))

  module _ (one_break : OneBreak) (stdin : Bool) where
    broken_once : (id found : List ℕ) → IsBrokenLog stdin was bytes id → IsBrokenLog stdin was bytes found → id ≡ found
    broken_once id found is other =
        let repository = same_opened spelling refusal was bytes stdin is.repository other.repository is.opened other.opened in
        one_break (heads_of is.repository) (get is.repository.refs log_name) id found is.breaks (subst (λ (r : Repository). IsBreakOf r found) (sym repository) other.breaks)

  one_judging : OneBreak → (name : List ℕ) (root : Option (List (List ℕ))) (stdin : Bool) (a b : Result RefVerdict VerifyFault) → Judging name root stdin a → Judging name root stdin b → a ≡ b
  one_judging once name root stdin a b (judged v e is) (judged w f other) = e ∙ ap Ok (judged_once name root stdin v w is other) ∙ sym f
  one_judging once name root stdin a b (judged v e is) (refused n f given other) = opened_or_declined spelling refusal was bytes stdin is.repository n is.opened given other
  one_judging once name root stdin a b (judged v e is) (broken id f other) = judged_or_broken name root stdin v id is other
  one_judging once name root stdin a b (refused m e given is) (judged w f other) = opened_or_declined spelling refusal was bytes stdin other.repository m other.opened given is
  one_judging once name root stdin a b (refused m e given is) (refused n f also other) = e ∙ ap (λ (k : TakeFault). Err (verify.Unopened k)) (same_fault spelling refusal was bytes m n is other) ∙ sym f
  one_judging once name root stdin a b (refused m e given is) (broken id f other) = opened_or_declined spelling refusal was bytes stdin other.repository m other.opened given is
  one_judging once name root stdin a b (broken id e is) (judged w f other) = judged_or_broken name root stdin w id other is
  one_judging once name root stdin a b (broken id e is) (refused n f given other) = opened_or_declined spelling refusal was bytes stdin is.repository n is.opened given other
  one_judging once name root stdin a b (broken id e is) (broken found f other) = e ∙ ap (λ (i : List ℕ). Err (verify.LogBroken i)) (broken_once once stdin id found is other) ∙ sym f

pub same_judging : OneSpelling → OneRefusal → OneBreak → (name : List ℕ) (root : Option (List (List ℕ))) (stdin : Bool) (was : Repository) (bytes : List ℕ) (a b : Result RefVerdict VerifyFault)
    → VerifyComes name root stdin was bytes a → VerifyComes name root stdin was bytes b → a ≡ b
same_judging spelling refusal once name root stdin was bytes a b is other =
    one_judging spelling refusal was bytes once name root stdin a b (judging spelling refusal was bytes name root stdin a is) (judging spelling refusal was bytes name root stdin b other)
