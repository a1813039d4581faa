use Rattle.gittuf_cli.proofs.Headline.{headline}
use Rattle.gittuf_cli.proofs.laws.headline.Goals as goal

pub returns : goal.returns
returns g c = headline _ c.one_command.ensures
