use Rattle.std.proofs.Common.{◌≡◌, ◌∙◌, rules, refl, ap, List, ℕ, take}
use Rattle.sha2.specs.Sha256.{sha256}
use Rattle.edge_io.specs.Recorded.{seen_after}
use Rattle.lmots.specs.declared.ots_type.OtsType.TheVariants.{W4}
use Rattle.lms_keys.specs.declared.lms_type.LmsType.TheVariants.{H10}
use Rattle.lms_keys.specs.HssSecret.{Secret}
use Rattle.demo.specs.Keys.{demo_key, identifier_text, seed_text}
use Rattle.demo.proofs.NewJournals.{loaded_key, made_key, new_journal}
use Rattle.demo.proofs.journals.Journal.make.Goals as goal

same_key : (number : ℕ) (i seed : List ℕ) → i ≡ take 16 (sha256 (identifier_text number)) → seed ≡ sha256 (seed_text number) → (made_key i seed).top ≡ demo_key number
unfolding demo_key
same_key number i seed same_i same_seed = λ j. record { lms = H10; ots = W4; i = same_i j; seed = same_seed j }

pub invariant_of-result : goal.invariant_of-result
invariant_of-result c =
    let file : List ℕ = seen_after c.load.new.disk.start c.load.new.disk.steps in
    let kept = c.load.ensures.kept.same file refl in
    new_journal c.copy_from_slice.new.self c.digest_of-seed.result file c.in-Ok-load.signer (c.in-Ok.ensures.file file kept) (c.in-Ok-load.ensures.loaded file refl) (c.in-Ok-load.ensures.covers file refl)

pub returns : goal.returns
returns c =
    let file : List ℕ = seen_after c.load.new.disk.start c.load.new.disk.steps in
    let kept = c.load.ensures.kept.same file refl in
    let i_is : c.copy_from_slice.new.self ≡ take 16 (sha256 (identifier_text c.args.number)) = search rules in
    let seed_is : c.digest_of-seed.result ≡ sha256 (seed_text c.args.number) = c.digest_of-seed.ensures in
    let same : c.in-Ok-load.signer.secret.top ≡ demo_key c.args.number =
    ap (λ (s : Secret). s.top) (loaded_key c.copy_from_slice.new.self c.digest_of-seed.result file c.in-Ok-load.signer (c.in-Ok.ensures.file file kept) (c.in-Ok-load.ensures.loaded file refl))
    ∙ same_key c.args.number c.copy_from_slice.new.self c.digest_of-seed.result i_is seed_is in
    λ j. record { secret = same j; used = 0 }
