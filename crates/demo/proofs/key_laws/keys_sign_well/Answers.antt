use Rattle.std.proofs.Common.{◌≡◌, ◌^◌, ◌<◌, ℕ, length, arith, refl}
use Rattle.std.proofs.lemmas.List.{length-take-le}
use Rattle.sha2.specs.Sha256.{sha256}
use Rattle.sha2.proofs.Facts256.{length-sha256}
use Rattle.lms_keys.specs.LmsType.{height}
use Rattle.lms_keys.specs.Secret.{Secret, public_key_of, signature}
use Rattle.lms_keys.proofs.Growing.{length-node}
use Rattle.lms_keys.proofs.OnBytes.{by_one_key}
use Rattle.lms_keys.proofs.Signing.{IsSignature-signature}
use Rattle.demo.specs.Keys.{demo_key, identifier_text, public_bytes, signed_by}
use Rattle.demo.proofs.key_laws.keys_sign_well.Goals as goal

wide : (k : ℕ) → length (demo_key k).i ≡ 16
unfolding demo_key
wide k = length-take-le 16 (sha256 (identifier_text k)) (let long = length-sha256 (identifier_text k) in omega arith)

tall : (k : ℕ) → height (demo_key k).lms ≡ 10
unfolding demo_key
tall k = refl

inside : (secret : Secret) (leaf : ℕ) → height secret.lms ≡ 10 → leaf < 1024 → leaf < 2 ^ height secret.lms
inside secret leaf is small = rw is small

pub returns : goal.returns
unfolding public_bytes signed_by
returns c = λ k leaf message small.
    let secret = demo_key k in
    let high = length-node secret.ots (height secret.lms) secret.i secret.seed 1 in
    (by_one_key (public_key_of secret) message (signature secret leaf message) (wide k) high).1
    (IsSignature-signature secret leaf message (inside secret leaf (tall k) small) (omega (arith, small)))
