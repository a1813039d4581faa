use Rattle.std.proofs.Common.{◌≡◌, sym, subst}
use Rattle.std.specs.Prelude.{false}
use Rattle.log_appending.proofs.Causes.{no_cause}
use Rattle.log_appending.proofs.Unopened.{holds_key, log_disk, not_loaded, not_opened}
use Rattle.log_appending.specs.Opening.{WhyUnread, unread_disk}
use Rattle.log_appending.specs.declared.opening.ReadingFault.{ReadingFault}
use Rattle.log_appending.proofs.opening.open_whole_log.Goals as goal

pub returns-in-Err-clause-why : goal.returns-in-Err-clause-why
returns-in-Err-clause-why g c =
    subst (λ (f : ReadingFault). WhyUnread g.R.Keeper g.D.Disk c.args.keeper.now c.open_key.new.disk f) (sym c.of_key.ensures)
    (not_opened g.R.Keeper g.D.Disk c.args.keeper.now c.open_key.new.disk c.in-Err.fault c.in-Err.ensures.why)

pub returns-in-Err-load-clause-why : goal.returns-in-Err-load-clause-why
returns-in-Err-load-clause-why g c =
    subst (λ (f : ReadingFault). WhyUnread g.R.Keeper g.D.Disk c.load.new.keeper c.open_key.new.disk f) (sym c.unread_log.ensures)
    (not_loaded g.R.Keeper g.D.Disk c.load.new.keeper c.open_key.new.disk c.in-Err-load.fault
    (holds_key g.R.Keeper g.D.Disk c.load.new.keeper c.open_key.new.disk c.in-Ok.key.signer c.in-Ok.ensures.loaded) c.in-Err-load.ensures.broken)

pub returns-in-Err-load-clause-disk : goal.returns-in-Err-load-clause-disk
returns-in-Err-load-clause-disk g c =
    no_cause unread_disk c.unread_log.result _ _ (subst (λ (f : ReadingFault). unread_disk f ≡ false) (sym c.unread_log.ensures) (log_disk c.in-Err-load.fault))
    c.in-Ok.ensures.cause.later c.in-Ok.ensures.cause.is
