use Rattle.std.proofs.Common.{Option, refl, sym, subst}
use Rattle.judging.specs.Hits.{IsHitBy}
use Rattle.judging.proofs.noting.take_note.Goals as goal

pub returns-clause-kept : goal.returns-clause-kept
returns-clause-kept g c = record {
  policy = refl;
  attested = refl;
  signers = c.new.ensures;
  mid = c.add_note.new.self;
  noted = c.in_ok-add_note.ensures.added;
  skipped = λ hit is.
      let Q : Option g.row.P.Denot → Type 0 = λ p. IsHitBy (g.J.Judge.rules c.args.judge.now) p c.args.annotation.now c.add_note.new.self hit in
      c.skip_where.ensures.lanes hit (subst Q (sym c.as_ref-policy.ensures.value) is);
}
