use Rattle.std.proofs.Common.{sym, ◌∙◌}
use Rattle.std.proofs.lemmas.Bool.{false≢true}
use Rattle.pushes.proofs.ObjectLines.{no_feed, other_id}
use Rattle.pushes.proofs.object_lines.object_of.Goals as goal

pub returns-in_default-strip_front-clause-none : goal.returns-in_default-strip_front-clause-none
returns-in_default-strip_front-clause-none c = λ body more long own.
    no_feed c.args.text.now c.in-Some.parts.0.now c.in-Some.parts.1.now c.args.size c.in-Some.ensures.found c.in-Some.ensures.len
    c.in_default-strip_front.ensures.none body more long

pub returns-then-not-same_bytes-clause-none : goal.returns-then-not-same_bytes-clause-none
returns-then-not-same_bytes-clause-none c =
    other_id c.args.text.now c.in-Some.parts.0.now c.in-Some.parts.1.now c.args.id.now c.args.kind c.args.size c.in-Some.ensures.found c.in-Some.ensures.len
    (λ same. false≢true (sym c.if-not-same_bytes.true
    ∙ c.same_bytes.ensures.1 (c.as_bytes.ensures.bytes ∙ c.id_of-found.ensures ∙ same ∙ sym c.as_bytes-2.ensures.bytes)))
