use Rattle.std.proofs.Common.{◌≡◌, ◌-◌, ℕ, List, drop, sym, subst, ◌∙◌}
use Rattle.lms_keys.specs.PublicKey.{number_in}
use Rattle.lms_keys.specs.SigOk.{AreSignedKeys}
use Rattle.lms_keys.proofs.Levels.{none_signed}
use Rattle.evidence.specs.Uses.{uses_from}
use Rattle.evidence.proofs.SignatureParts.{uses_behind, uses_one}
use Rattle.evidence.proofs.Walking.{by_others, by_sixty, signed_behind}
use Rattle.evidence.proofs.uses.signed_keys.Goals as goal

pub returns-then-public-eq60-clause-uses : goal.returns-then-public-eq60-clause-uses
returns-then-public-eq60-clause-uses c =
    let public = c.args.public.now in
    let message = c.args.message.now in
    let s = c.args.signature.now in
    let number : number_in public 0 ≡ c.number_at.result = sym c.number_at.ensures in
    let first : drop 4 public ≡ c.split_at.result.1.now = sym c.split_at.ensures.back in
    let rest : drop 4 s ≡ c.split_at-then-public-eq60.result.1.now = sym c.split_at-then-public-eq60.ensures.back in
    uses_behind public message s c.if-public-eq60.true ∙ (λ i. uses_from (number i - 1) (first i) message (rest i))

pub returns-then-public-eq60-clause-good : goal.returns-then-public-eq60-clause-good
returns-then-public-eq60-clause-good c =
    let public = c.args.public.now in
    let message = c.args.message.now in
    let s = c.args.signature.now in
    let number : number_in public 0 ≡ c.number_at.result = sym c.number_at.ensures in
    let first : drop 4 public ≡ c.split_at.result.1.now = sym c.split_at.ensures.back in
    let rest : drop 4 s ≡ c.split_at-then-public-eq60.result.1.now = sym c.split_at-then-public-eq60.ensures.back in
    let signed = signed_behind public message s (by_sixty public message s c.if-public-eq60.true c.requires) in
    subst (λ (n : ℕ). AreSignedKeys (n - 1) c.split_at.result.1.now message c.split_at-then-public-eq60.result.1.now) number
    (subst (λ (p : List ℕ). AreSignedKeys (number_in public 0 - 1) p message c.split_at-then-public-eq60.result.1.now) first
    (subst (λ (l : List ℕ). AreSignedKeys (number_in public 0 - 1) (drop 4 public) message l) rest signed))

pub returns-else-public-eq60-clause-uses : goal.returns-else-public-eq60-clause-uses
returns-else-public-eq60-clause-uses c = uses_one c.args.public.now c.args.message.now c.args.signature.now c.if-public-eq60.false

pub returns-else-public-eq60-clause-good : goal.returns-else-public-eq60-clause-good
returns-else-public-eq60-clause-good c =
    (none_signed c.args.public.now c.args.message.now c.args.signature.now).1
    (by_others c.args.public.now c.args.message.now c.args.signature.now c.if-public-eq60.false c.requires)
