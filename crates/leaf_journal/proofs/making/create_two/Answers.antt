use Rattle.std.proofs.Common.{◌≡◌, ◌∙◌, ℕ, ap, inr, length, subst, Err}
use Rattle.leaf_journal.specs.declared.faults.CreateFault.TheVariants as fault
use Rattle.leaf_journal.specs.Making.{IsCutShort}
use Rattle.leaf_journal.proofs.Cutting.{cut_after}
use Rattle.leaf_journal.proofs.NewMoments.{made}
use Rattle.leaf_journal.proofs.making.create_two.Goals as goal

pub returns-in-Err-clause-not_empty : goal.returns-in-Err-clause-not_empty
returns-in-Err-clause-not_empty g c = λ len is file told.
    let same : c.in-Err.fault ≡ fault.NotEmpty len = cc in
    c.in-Err.ensures.not_empty len (ap Err same) file told

pub returns-clause-key : goal.returns-clause-key
returns-clause-key g c = c.in_ok-public.ensures.key (record { lms = c.args.bottom; ots = c.args.ots })

pub returns-in_err-write_whole-clause-spared : goal.returns-in_err-write_whole-clause-spared
returns-in_err-write_whole-clause-spared g c = λ failed.
    inr (subst (λ (n : ℕ). IsCutShort g.D.Disk c.args.disk.now c.write_whole.new.disk n) (ap length c.as_slice.ensures.value ∙ c.in_ok-file.ensures.is.size)
    (cut_after g.D.Disk _ c.args.disk.now c.expect_empty.new.disk c.write_whole.new.disk c.expect_empty.ensures.kept c.in_err-write_whole.ensures.cut))

pub returns-in_err-write_whole-clause-any_moment : goal.returns-in_err-write_whole-clause-any_moment
returns-in_err-write_whole-clause-any_moment g c = made g.D.Disk c.args.disk.now c.expect_empty.new.disk c.write_whole.new.disk (g.met.D.Disk.seen_may_stay c.args.disk.now)
    c.expect_empty.ensures.any_moment c.expect_empty.ensures.kept c.write_whole.ensures.any_moment

pub returns-clause-any_moment : goal.returns-clause-any_moment
returns-clause-any_moment g c = made g.D.Disk c.args.disk.now c.expect_empty.new.disk c.write_whole.new.disk (g.met.D.Disk.seen_may_stay c.args.disk.now)
    c.expect_empty.ensures.any_moment c.expect_empty.ensures.kept c.write_whole.ensures.any_moment
