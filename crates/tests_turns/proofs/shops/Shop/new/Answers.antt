use Rattle.std.proofs.Common.{◌≡◌, [], sym, ap, arith}
use Rattle.tests_turns.specs.Shops.{logged}
use Rattle.tests_turns.proofs.shops.Shop.new.Goals as goal

-- a shop with no entry stands for the history that begins with its store
pub returns : goal.returns
returns g c =
    let K = g.R.Keeper in
    let keeper = c.args.keeper in (
      record { opening = record { repository = K.content keeper; loaded = 0; faults = K.faults keeper }; members = [] },
      record { logs = ap logged (sym c.new.ensures.items); store = λ clean now at. at; counted = omega arith; is_legal = tt },
      (omega arith, λ k d lt. absurd (omega (arith, lt))),
    )
