use Rattle.std.proofs.Common.{ap, sym, ◌∙◌, arith}
use Rattle.rsl_chain.specs.Entries.{Taken, target_of}
use Rattle.judging.specs.Standings.{standing_of}
use Rattle.judging.proofs.Takes.{bounded_is, decision_reads_are, on_ok}
use Rattle.judging.proofs.engine.Engine.look.Goals as goal

pub returns-in-Reference-clause-reads : goal.returns-in-Reference-clause-reads
returns-in-Reference-clause-reads g c = on_ok c.look_reference.result c.look_reference.ensures.reads (λ reads r log told stands few.
    let t : Taken = record { entry = c.args.entry.now; repository = r } in
    let rules = g.J.Judge.rules c.args.judge.now in
    let from = (standing_of c.args.self.now.book c.in-Reference.name).from in
    let bounded = bounded_is rules log t c.in-Reference.name c.in-Reference.target c.in-Reference.is c.args.self.now stands in
    let here = ap (λ body. rules.bounded r from (target_of body)) c.in-Reference.is in
    let bound = reads r told (here ∙ sym bounded ∙ few) in
    let same = decision_reads_are rules log t c.in-Reference.name c.in-Reference.target c.in-Reference.is c.args.self.now stands in
    omega arith)
