use Rattle.std.proofs.Common.{sym, ◌∙◌, arith}
use Rattle.tree_paths.proofs.ObjectsRead.{kept_told}
use Rattle.tree_paths.proofs.PathNames.{at_last, at_next, at_none, at_other, one_more_part, one_part}
use Rattle.tree_paths.proofs.lookups.+load_at.Goals as goal

pub returns-in_err-found-clause-reads : goal.returns-in_err-found-clause-reads
returns-in_err-found-clause-reads g t c = omega (arith, one_part c.args.path.now, c.load_entry.ensures.reads)

pub returns-in_default-clause-found : goal.returns-in_default-clause-found
returns-in_default-clause-found g t c = λ readings told.
    at_last readings.trees c.args.tree.now c.args.path.now c.in_ok-found.found c.in_default.ensures.none (c.in_ok-found.ensures.found readings told)

pub returns-in_default-clause-reads : goal.returns-in_default-clause-reads
returns-in_default-clause-reads g t c = omega (arith, one_part c.args.path.now, c.load_entry.ensures.reads)

pub returns-in_err-entry-clause-reads : goal.returns-in_err-entry-clause-reads
returns-in_err-entry-clause-reads g t c = omega (arith, one_part c.args.path.now, c.load_entry-2.ensures.reads)

pub returns-in_default-2-clause-found : goal.returns-in_default-2-clause-found
returns-in_default-2-clause-found g t c = λ readings told.
    at_none readings.trees c.args.tree.now c.args.path.now c.in-Some.name.now c.in-Some.rest.now c.in-Some.ensures.found c.in-Some.ensures.first
    (sym c.in_default-2.is ∙ c.in_ok-entry.ensures.found readings told)

pub returns-in_default-2-clause-reads : goal.returns-in_default-2-clause-reads
returns-in_default-2-clause-reads g t c = omega (arith, one_part c.args.path.now, c.load_entry-2.ensures.reads)

pub returns-then-not-is_dir-clause-found : goal.returns-then-not-is_dir-clause-found
returns-then-not-is_dir-clause-found g t c = λ readings told.
    at_other readings.trees c.args.tree.now c.args.path.now c.in-Some.name.now c.in-Some.rest.now c.in-Some.ensures.found c.in-Some.ensures.first
    c.in-Some-2.entry (sym c.in-Some-2.is ∙ c.in_ok-entry.ensures.found readings told) (sym c.if-not-is_dir.ensures)

pub returns-then-not-is_dir-clause-reads : goal.returns-then-not-is_dir-clause-reads
returns-then-not-is_dir-clause-reads g t c = omega (arith, one_part c.args.path.now, c.load_entry-2.ensures.reads)

pub returns-in_err-found-2-clause-reads : goal.returns-in_err-found-2-clause-reads
returns-in_err-found-2-clause-reads g t c =
    let more = one_more_part c.args.path.now c.in-Some.name.now c.in-Some.rest.now c.in-Some.ensures.found c.in-Some.ensures.first in
    omega (arith, more, c.load_entry-2.ensures.reads, c.load_at.ensures.reads)

pub returns-clause-found : goal.returns-clause-found
returns-clause-found g t c = λ readings told.
    let before = kept_told readings c.load_at.ensures.same.content told in
    at_next readings.trees c.args.tree.now c.args.path.now c.in-Some.name.now c.in-Some.rest.now c.in-Some.ensures.found c.in-Some.ensures.first
    c.in-Some-2.entry c.in_ok-found-2.found (sym c.in-Some-2.is ∙ c.in_ok-entry.ensures.found readings before) (sym c.if-not-is_dir.ensures)
    (c.in_ok-found-2.ensures.found readings told)

pub returns-clause-reads : goal.returns-clause-reads
returns-clause-reads g t c =
    let more = one_more_part c.args.path.now c.in-Some.name.now c.in-Some.rest.now c.in-Some.ensures.found c.in-Some.ensures.first in
    omega (arith, more, c.load_entry-2.ensures.reads, c.load_at.ensures.reads)
