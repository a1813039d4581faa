use Rattle.std.proofs.Common.{◌∙◌, ℕ, List, ap, sym}
use Rattle.git_object.specs.Names.{components}
use Rattle.approvals.specs.Levels.{put_levels}
use Rattle.approvals.proofs.Puts.{made_at}
use Rattle.approvals.proofs.sites.in_way.Goals as goal

pub returns-in-Made-clause-fit : goal.returns-in-Made-clause-fit
returns-in-Made-clause-fit c =
    let made = made_at c.in_ok-put_levels.field-0 _ c.new-trial.result c.put_levels.new.objects c.in-Made.field-0 c.in-Made.is c.in_ok-put_levels.ensures.placed in
    record {
      named = c.requires.named;
      few = c.requires.few;
      are = c.requires.levels;
      trial = record { objects = made.made; root = c.in-Made.field-0 };
      fits = ap (λ (z : List ℕ). put_levels z (components c.args.path.now) c.args.levels.now) (sym c.zeros.ensures) ∙ made.put_is;
    }
