use Rattle.std.proofs.Common.{◌∙◌}
use Rattle.leaf_journal.proofs.Writing.{written_whole}
use Rattle.leaf_journal.proofs.making.write_whole.Goals as goal

pub returns-clause-only : goal.returns-clause-only
returns-clause-only g c = λ image may.
    let told = g.met.D.Disk.told c.sync.new.self image may in
    c.in_ok-sync.ensures.durable told.0 told.1 image may
    ∙ (written_whole _ told.0 _ _ (c.in_ok-sync.ensures.kept.same told.0 told.1) c.in_ok-write_at.ensures.written c.requires).0

pub returns-clause-file : goal.returns-clause-file
returns-clause-file g c = λ file told. written_whole _ file _ _ (c.in_ok-sync.ensures.kept.same file told) c.in_ok-write_at.ensures.written c.requires
