use Rattle.rsl_chain.proofs.WordLemmas.{drop_within, take_within}
use Rattle.rsl_chain.proofs.words.split_digits.Goals as goal

pub returns : goal.returns
returns c = record {
  front = rw (c.split_at.ensures.front, c.min.ensures) (take_within 64 c.args.text.now);
  back = rw (c.split_at.ensures.back, c.min.ensures) (drop_within 64 c.args.text.now);
}
