use Rattle.std.proofs.Common.{◌≡◌, ℕ, [], ◌/◌, ◌^◌, ◌≤◌, length, take, slice_index_or, ◌∙◌, ap, arith, add-zero}
use Rattle.lmots.proofs.Rows.{joined_none, written_more}
use Rattle.lms_keys.specs.LmsType.{height}
use Rattle.lms_keys.specs.Tree.{beside}
use Rattle.lms_keys.specs.Secret.{path_in_table}
use Rattle.lms_keys.proofs.Climbing.{beside-bounds, halved_more, leaves_small, way_low}
use Rattle.lms_keys.proofs.secret_key.put_path.Goals as goal

pub levels-init : goal.levels-init
levels-init c = record {
  front = ap (λ (n : ℕ). take n c.args.out.now) (add-zero c.args.at) ∙ joined_none (take c.args.at c.args.out.now) (path_in_table c.args.nodes.now c.args.leaf);
  node = omega arith;
  within = omega arith;
}

pub beside-requires : goal.beside-requires
beside-requires c = omega (arith, c.levels.invariant.within, leaves_small c.args.lms)

pub levels-preserved : goal.levels-preserved
levels-preserved c =
    let z = path_in_table c.args.nodes.now c.args.leaf in
    let low : 2 ≤ c.args.leaf / 2 ^ c.levels.level = way_low (height c.args.lms) c.args.leaf c.levels.level (omega arith) c.requires.low in
    let bounds = beside-bounds (2 ^ height c.args.lms) c.levels.node (omega (arith, low, c.levels.invariant.node)) (omega (arith, c.levels.invariant.within)) in
    let long : length (slice_index_or c.args.nodes.now c.beside.result []) ≡ 32 = c.told-nodes c.beside.result (omega (arith, bounds.1, c.beside.ensures)) in
    let same : slice_index_or c.args.nodes.now c.beside.result [] ≡ z c.levels.level =
    ap (λ (r : ℕ). slice_index_or c.args.nodes.now r []) (c.beside.ensures ∙ ap beside c.levels.invariant.node) in
    record {
      front = written_more c.args.at (take c.args.at c.args.out.now) z c.levels.level c.levels.out c.put.new.out (slice_index_or c.args.nodes.now c.beside.result [])
          long same c.levels.invariant.front c.put.ensures.front;
      node = ap (λ (n : ℕ). n / 2) c.levels.invariant.node ∙ halved_more c.args.leaf c.levels.level;
      within = omega (arith, c.levels.invariant.within);
    }
