use Rattle.std.proofs.Common.{ℕ, List, subst, sym, ◌∙◌, arith}
use Rattle.git_object.specs.Repository.{empty_repository}
use Rattle.rsl_chain.specs.Entries.{Taken}
use Rattle.judging.specs.Books.{place_of}
use Rattle.judging.specs.Engines.{KeepsNote}
use Rattle.judging.proofs.Notes.{taken_note}
use Rattle.judging.proofs.Takes.{bounded_is, none_there, on_err, on_ok, reads_are, stands_still}
use Rattle.judging.proofs.engine.Engine.extend.Goals as goal

pub returns-in_err-take_note-in-Annotation-clause-refused : goal.returns-in_err-take_note-in-Annotation-clause-refused
returns-in_err-take_note-in-Annotation-clause-refused g c =
    on_err c.from_residual.result (λ rules log stands. stands_still rules log (record { entry = c.args.entry.now; repository = empty_repository }) c.args.self.now c.take_note.new.engine stands c.in_err-take_note-in-Annotation.ensures.same)

pub returns-in-Reference-clause-reads : goal.returns-in-Reference-clause-reads
returns-in-Reference-clause-reads g c = on_ok c.take_reference.result c.take_reference.ensures.reads (λ reads r log told stands few.
    let t : Taken = record { entry = c.args.entry.now; repository = r } in
    let rules = g.J.Judge.rules c.args.judge.now in
    let bounded = bounded_is rules log t c.in-Reference.name c.in-Reference.target c.in-Reference.is c.args.self.now stands in
    let bound = reads r told c.in-Reference.is (sym bounded ∙ few) in
    let same = reads_are rules log t c.in-Reference.name c.in-Reference.target c.in-Reference.is c.args.self.now stands in
    omega arith)

pub returns-in_ok-take_note-in-Annotation-clause-taken : goal.returns-in_ok-take_note-in-Annotation-clause-taken
returns-in_ok-take_note-in-Annotation-clause-taken g c = λ r log told stands.
    let t : Taken = record { entry = c.args.entry.now; repository = r } in
    let rules = g.J.Judge.rules c.args.judge.now in
    let K : List (List ℕ) → Type 0 = λ ids. KeepsNote rules c.args.entry.now ids c.in-Annotation.skip c.args.self.now c.take_note.new.engine in
    let kept : K c.in-Annotation.ids = subst K c.as_slice.ensures c.in_ok-take_note-in-Annotation.ensures.kept in
    taken_note rules log t c.in-Annotation.ids c.in-Annotation.skip c.in-Annotation.message c.in-Annotation.is c.args.self.now c.take_note.new.engine stands (none_there (place_of c.args.self.now.book c.args.entry.now.id) c.requires.fresh) kept
