use Rattle.std.proofs.Common.{◌≡◌, inr, rules}
use Rattle.commands_policy.proofs.Explained.{break_cut}
use Rattle.commands_policy.specs.Explaining.{BreaksAt}
use Rattle.commands_policy.proofs.explaining.explain.Goals as goal

pub returns-in-Err-clause-ends : goal.returns-in-Err-clause-ends
returns-in-Err-clause-ends g c =
    let held = g.R.Keeper.content c.print_text-outcome.new.keeper in
    let printed = g.K.Sink.contents c.args.sink.now in
    let mid = g.K.Sink.contents c.print_text-outcome.new.sink in
    let quiet : mid ≡ printed = search rules in
    let breaks : BreaksAt held printed mid (record { space = c.args.space; text = c.args.name.now }) c.in-Err-Broken.id = search rules in
    inr (break_cut held printed mid (g.K.Sink.contents c.print_break.new.sink) (record { space = c.args.space; text = c.args.name.now }) c.in-Err-Broken.id quiet breaks c.in-Err.ensures.part)
