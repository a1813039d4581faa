use Rattle.std.proofs.Common.{rules}
use Rattle.git_object.proofs.TreeLemmas.{formed_last, formed_push}
use Rattle.git_object.proofs.trees.Tree.may_take.Goals as goal

pub returns : goal.returns
returns c = (
  λ is. formed_push c.args.self.now.entries c.args.entry.now c.requires (search rules) (c.comes_after.ensures.0 is),
  λ formed. c.comes_after.ensures.1 (formed_last c.args.self.now.entries c.args.entry.now formed).1,
)
