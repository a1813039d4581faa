use Rattle.lms_keys.specs.LmsType.{height}
use Rattle.lms_keys.proofs.Growing.{node-leaf, node-inner}
use Rattle.lms_keys.proofs.laws.tree.Goals as goal

pub returns : goal.returns
returns c = record {
  leaf = node-leaf c.args.ots (height c.args.lms) c.args.i.now c.args.seed.now c.args.node;
  inner = node-inner c.args.ots (height c.args.lms) c.args.i.now c.args.seed.now c.args.node c.requires;
}
