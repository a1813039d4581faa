use Rattle.std.proofs.Common.{ℕ, List, subst}
use Rattle.std.specs.Prelude.{IfErr}
use Rattle.clone_stream.specs.Grammar.{BreaksGrammar}
use Rattle.buffered_reader.specs.Ahead.{ahead}
use Rattle.clone_stream.proofs.Broken.{wrong_line}
use Rattle.clone_stream.proofs.record_reads.next_words.Goals as goal

pub returns-clause-bad : goal.returns-clause-bad
returns-clause-bad g c =
    wrong_line c.words_of.result (ahead c.args.reader.now (g.S.Source.left c.args.source.now)) (ahead c.line.new.self (g.S.Source.left c.line.new.source)) c.args.reader.now.taken c.in-Ok.line
    c.in-Ok.ensures.is_line c.in-Ok.ensures.ahead
    (subst (λ (at : ℕ). IfErr c.words_of.result (BreaksGrammar at c.in-Ok.line)) c.taken-at.ensures (subst (λ (line : List ℕ). IfErr c.words_of.result (BreaksGrammar c.taken-at.result line)) c.as_slice.ensures c.words_of.ensures.bad))
