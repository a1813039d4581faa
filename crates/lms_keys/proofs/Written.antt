-- A signature as it is written: its four parts, one after another.
use Rattle.std.proofs.Common.{◌≡◌, ℕ, ◌+◌, ◌/◌, ◌^◌, ◌<◌, ◌≤◌, List, [], ◌++◌, length, take, slice_index_or, sym, ◌∙◌, ap, arith}
use borrow.Rule.Slice.PartMut.{put_mid}
use Rattle.std.proofs.lemmas.Nat.{shr_le}
use Rattle.std.proofs.lemmas.List.{take_all}
use Rattle.std.proofs.lemmas.Slice.{take-put_mid}
use Rattle.lmots.specs.Chain.{joined}
use Rattle.lmots.proofs.Blocks.{joined-same}
use Rattle.lms_keys.specs.LmsType.{height}
use Rattle.lms_keys.specs.Tree.{beside}
use Rattle.lms_keys.specs.Secret.{AreNodesFrom, Secret, path_in_table, path_of}
use Rattle.lms_keys.proofs.Climbing.{beside-bounds, way_low}

pub four_parts : (leaf signed code path first third now : List ℕ) (len k n : ℕ)
    → length leaf ≡ 4 → length signed ≡ len → length code ≡ 4 → 4 ≤ length first
    → take (0 + length leaf) first ≡ leaf
    → take (4 + len + length code) third ≡ take (4 + len) (put_mid 4 k first signed) ++ code
    → take (8 + len + n) now ≡ take (8 + len) third ++ path
    → length now ≡ 8 + len + n
    → now ≡ leaf ++ signed ++ code ++ path
four_parts leaf signed code path first third now len k n four long four_too room put_leaf put_code put_path whole =
    let front : take 4 first ≡ leaf = ap (λ m. take (0 + m) first) (sym four) ∙ put_leaf in
    let second : take (4 + len) (put_mid 4 k first signed) ≡ leaf ++ signed =
    take-put_mid 4 k first signed (4 + len) (omega (arith, long)) room ∙ ap (λ l. l ++ signed) front in
    let place : 8 + len ≡ 4 + len + length code = omega (arith, four_too) in
    sym (take_all (8 + len + n) now (omega (arith, whole))) ∙ put_path
    ∙ ap (λ l. l ++ path) (ap (λ m. take m third) place ∙ put_code ∙ ap (λ l. l ++ code) second)

-- what a table of all nodes has beside the way up is the path
pub path_in_table-same : (s : Secret) (q leaf : ℕ) (table nodes : List (List ℕ)) → AreNodesFrom s.lms s.ots s.i s.seed nodes 1 → table ≡ nodes
    → leaf ≡ 2 ^ height s.lms + q → q < 2 ^ height s.lms
    → joined (path_in_table table leaf) (height s.lms) ≡ joined (path_of s q) (height s.lms)
path_in_table-same s q leaf table nodes grown whole is_leaf inside =
    let h : ℕ = height s.lms in
    joined-same (path_in_table table leaf) (path_of s q) h (λ level below.
    let r : ℕ = (2 ^ h + q) / 2 ^ level in
    let bounds = beside-bounds (2 ^ h) r (way_low h (2 ^ h + q) level below (omega arith)) (omega (arith, shr_le (2 ^ h + q) level, inside)) in
    ap (λ t. slice_index_or t (beside (leaf / 2 ^ level)) []) whole
    ∙ ap (λ l. slice_index_or nodes (beside (l / 2 ^ level)) []) is_leaf
    ∙ grown.each (beside r) (omega (arith, bounds.0)) bounds.1)
