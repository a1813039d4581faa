use Rattle.commands_policy.proofs.Explained.{explains}
use Rattle.commands_policy.proofs.explaining.load_text.Goals as goal

pub returns-in-Ok-text_of-clause-explains : goal.returns-in-Ok-text_of-clause-explains
returns-in-Ok-text_of-clause-explains g c =
    explains (g.R.Keeper.content c.load_epochs.new.keeper) c.in-Ok.epochs (record { space = c.args.space; text = c.args.name.now }) c.in-Ok-text_of.text c.in-Ok.ensures.anchor c.in-Ok.ensures.stands c.in-Ok-text_of.ensures
