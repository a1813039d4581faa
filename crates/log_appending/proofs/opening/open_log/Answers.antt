use Rattle.std.proofs.Common.{arith}
use Rattle.log_appending.proofs.Unopened.{holds_key}
use Rattle.log_appending.proofs.opening.open_log.Goals as goal

pub returns-then-len-ge1000000-clause-why : goal.returns-then-len-ge1000000-clause-why
returns-then-len-ge1000000-clause-why g c = (
  holds_key g.R.Keeper g.D.Disk c.open_whole_log.new.keeper c.open_whole_log.new.disk c.in-Ok.opened.key.signer c.in-Ok.ensures.loaded,
  λ r told. (c.in-Ok.opened.log.ids, c.in-Ok.ensures.log r told, omega (arith, c.in-Ok.ensures.few, c.len.ensures)),
)
