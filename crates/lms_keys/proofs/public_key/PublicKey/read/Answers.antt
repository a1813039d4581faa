use Rattle.std.proofs.Common.{List, ℕ, ◌++◌, take, drop, sym, ◌∙◌, ap}
use Rattle.std.specs.Int.{w32, to_be_bytes}
use Rattle.lmots.specs.OtsType as one_time
use Rattle.lms_keys.specs.LmsType.{code}
use Rattle.lms_keys.proofs.KeyBytes.{key_parts}
use Rattle.lms_keys.proofs.public_key.PublicKey.read.Goals as goal

pub returns-clause-key : goal.returns-clause-key
returns-clause-key c =
    key_parts c.args.bytes.now (code c.in-Some.lms) (one_time.code c.in-Some-of_code.ots) c.if-bytes-ne56.false (λ k. (c.type_inv.bytes k).fits)
    (sym c.in-Some.ensures.found ∙ c.number_at.ensures) (sym c.in-Some-of_code.ensures.found ∙ c.number_at-2.ensures)
    ∙ ap (λ (l : List ℕ). to_be_bytes w32 (code c.in-Some.lms) ++ to_be_bytes w32 (one_time.code c.in-Some-of_code.ots) ++ l ++ take 32 (drop 24 c.args.bytes.now)) (sym c.copy_from_slice.ensures.after)
    ∙ ap (λ (l : List ℕ). to_be_bytes w32 (code c.in-Some.lms) ++ to_be_bytes w32 (one_time.code c.in-Some-of_code.ots) ++ c.copy_from_slice.new.self ++ l) (sym c.block_at-root.ensures)
