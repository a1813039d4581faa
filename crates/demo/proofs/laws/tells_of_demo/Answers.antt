use Rattle.demo.proofs.ToldDemo.{told_demo}
use Rattle.demo.proofs.laws.tells_of_demo.Goals as goal

pub returns : goal.returns
returns g c = record { demo = λ n was now old new printed printed_now outcome held holds means. told_demo g.R.Keeper n was now old new printed printed_now held holds outcome means }
