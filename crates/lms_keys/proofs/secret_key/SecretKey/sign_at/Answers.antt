use Rattle.std.proofs.Common.{◌≡◌, ℕ, ◌+◌, ◌*◌, ◌^◌, ◌<◌, List, ◌++◌, length, sym, ◌∙◌, ap, subst, arith}
use Rattle.std.specs.Int.{w32, to_be_bytes}
use Rattle.lmots.specs.OneTime as one_time
use Rattle.lmots.specs.Chain.{joined}
use Rattle.lms_keys.specs.LmsType.{code, height, signature_len}
use Rattle.lms_keys.specs.Secret.{Secret, path_in_table, public_key_of, signature}
use Rattle.lms_keys.proofs.Growing.{length-node}
use Rattle.lms_keys.proofs.OnBytes.{by_one_key}
use Rattle.lms_keys.proofs.Signing.{IsSignature-signature, leaf-signature}
use Rattle.lms_keys.proofs.Written.{four_parts, path_in_table-same}
use Rattle.lms_keys.proofs.secret_key.SecretKey.sign_at.Goals as goal

pub returns-clause-bytes : goal.returns-clause-bytes
returns-clause-bytes c =
    let secret : Secret = record { lms = c.self.inside.lms; ots = c.self.inside.ots; i = c.self.inside.i; seed = c.self.inside.seed } in
    let within : c.args.q < 2 ^ height c.self.inside.lms =
    subst (λ (s : Secret). c.args.q < 2 ^ height s.lms) (sym c.self.view_is) c.requires.leaf in
    let room : length c.args.out.now ≡ signature_len c.self.inside.lms c.self.inside.ots =
    subst (λ (s : Secret). length c.args.out.now ≡ signature_len s.lms s.ots) (sym c.self.view_is) c.requires.room in
    let leaf : ℕ = c.leaves.result + c.args.q in
    let path : List ℕ = joined (path_in_table c.as_slice.result.now leaf) (height c.self.inside.lms) in
    let signed : List ℕ = one_time.signature c.self.inside.ots c.self.inside.i c.args.q c.self.inside.seed c.args.message.now in
    four_parts c.to_be_bytes.result c.sign_ots.new.out c.to_be_bytes-2.result path c.put.new.out c.put-2.new.out c.put_path.new.out
    c.signature_len-len.result _ (32 * height c.self.inside.lms)
    (omega arith) (omega arith) (omega arith) (omega arith) c.put.ensures.front c.put-2.ensures.front c.put_path.ensures (omega (arith, room))
    ∙ ap (λ (l : List ℕ). l ++ c.sign_ots.new.out ++ c.to_be_bytes-2.result ++ path) c.to_be_bytes.ensures
    ∙ ap (λ (l : List ℕ). to_be_bytes w32 c.args.q ++ l ++ c.to_be_bytes-2.result ++ path) c.sign_ots.ensures
    ∙ ap (λ (l : List ℕ). to_be_bytes w32 c.args.q ++ signed ++ l ++ path) (c.to_be_bytes-2.ensures ∙ ap (to_be_bytes w32) c.code.ensures)
    ∙ ap (λ (l : List ℕ). to_be_bytes w32 c.args.q ++ signed ++ to_be_bytes w32 (code c.self.inside.lms) ++ l)
    (path_in_table-same secret c.args.q leaf c.as_slice.result.now c.self.inside.nodes.items c.self.invariant.tree c.as_slice.ensures.value
    (ap (λ (n : ℕ). n + c.args.q) c.leaves.ensures) within)
    ∙ ap (λ (s : Secret). signature s c.args.q c.args.message.now) c.self.view_is

pub returns-clause-good : goal.returns-clause-good
returns-clause-good c =
    let secret = c.args.self.now in
    let wide : length secret.i ≡ 16 = subst (λ (s : Secret). length s.i ≡ 16) c.self.view_is c.self.invariant.identifier in
    let high = length-node secret.ots (height secret.lms) secret.i secret.seed 1 in
    rw (returns-clause-bytes c) ((by_one_key (public_key_of secret) c.args.message.now (signature secret c.args.q c.args.message.now) wide high).1
    (IsSignature-signature c.args.self.now c.args.q c.args.message.now c.requires.leaf (omega arith)))

pub returns-clause-leaf : goal.returns-clause-leaf
returns-clause-leaf c =
    rw (returns-clause-bytes c) (leaf-signature c.args.self.now c.args.q c.args.message.now (omega arith))
