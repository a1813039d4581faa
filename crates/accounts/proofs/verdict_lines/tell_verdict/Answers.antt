use Rattle.std.proofs.Common.{arith}
use Rattle.accounts.proofs.verdict_lines.tell_verdict.Goals as goal

pub returns-in-Ok-told_line-clause-told : goal.returns-in-Ok-told_line-clause-told
returns-in-Ok-told_line-clause-told g c = λ r told is. record {
  verdict = c.in-Ok.verdict;
  judged = record {
    ids = is.ids;
    is_log = is.is_log;
    log = is.log;
    entries = is.entries;
    judged = c.in-Ok.ensures.judged r is.log (c.in-Ok-told_line.ensures.same.content r told) is.stands.follows;
  };
  told = c.in-Ok-told_line.ensures.line r told is.log is.stands;
  is = c.is_accepted.ensures;
}

pub returns-in-Ok-told_line-clause-reads : goal.returns-in-Ok-told_line-clause-reads
returns-in-Ok-told_line-clause-reads g c = λ r told is. record {
  verdict = c.in-Ok.verdict;
  is = record {
    ids = is.ids;
    is_log = is.is_log;
    log = is.log;
    entries = is.entries;
    judged = c.in-Ok.ensures.judged r is.log (c.in-Ok-told_line.ensures.same.content r told) is.stands.follows;
  };
  most = let reads = c.in-Ok-told_line.ensures.reads r told is.log is.stands in omega (arith, reads, c.verdict.ensures.reads);
}
