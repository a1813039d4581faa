use Rattle.demo.proofs.OneDemo.{same_demo}
use Rattle.demo.proofs.laws.one_of_demo.Goals as goal

pub returns : goal.returns
returns c = record { demo = same_demo c.logs.ensures.one_break }
