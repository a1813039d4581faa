use Rattle.std.proofs.Common.{◌≡◌, ◌+◌, ◌^◌, ◌∙◌, ℕ, ap, drop, sym}
use Rattle.lms_keys.specs.LmsType.{height}
use Rattle.lms_keys.specs.HssSecret.{height_below}
use Rattle.leaf_journal.specs.Loading.{secret_with}
use Rattle.leaf_journal.proofs.NewFile.{new_is}
use Rattle.leaf_journal.proofs.making.new_file.Goals as goal

pub returns : goal.returns
returns c =
    let zeros = c.in_ok-file.ensures.items_if_clones_equal (λ y same. same) in
    let behind = c.split_at_mut-head.ensures.back in
    let value = c.as_mut_slice.ensures.value in
    let size : c.start-start.result + c.leaves_of.result ≡ c.start-start.result + 2 ^ (height c.args.header.now.lms + height_below c.args.header.now.below) =
    ap (λ (n : ℕ). c.start-start.result + n) (c.leaves_of.ensures ∙ ap (λ (n : ℕ). 2 ^ n) c.height.ensures) in
    rw c.in_ok-file.ensures.len (new_is (secret_with c.args.header.now c.args.i.now c.args.seed.now) c.start-start.result _ _ _ _ _ c.start-start.ensures.begins c.write_header.ensures.header
    (c.write_header.ensures.long ∙ sym c.start-start.ensures.begins) zeros (behind ∙ ap (drop c.start-start.result) value) size)
