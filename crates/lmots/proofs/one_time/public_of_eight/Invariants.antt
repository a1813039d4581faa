use Rattle.std.proofs.Common.{◌+◌}
use Rattle.lmots.proofs.one_time.public_of_eight.Given as goal
use Rattle.lmots.proofs.Hashing.{HoldsEnds}

abbrev pub invariant-chains : goal.invariant-chains
invariant-chains l = record {
  first : HoldsEnds l.kind l.i l.q l.seed l.chain l.hasher0;
  second : HoldsEnds l.kind l.i (l.q + 1) l.seed l.chain l.hasher1;
  third : HoldsEnds l.kind l.i (l.q + 2) l.seed l.chain l.hasher2;
  fourth : HoldsEnds l.kind l.i (l.q + 3) l.seed l.chain l.hasher3;
  fifth : HoldsEnds l.kind l.i (l.q + 4) l.seed l.chain l.hasher4;
  sixth : HoldsEnds l.kind l.i (l.q + 5) l.seed l.chain l.hasher5;
  seventh : HoldsEnds l.kind l.i (l.q + 6) l.seed l.chain l.hasher6;
  eighth : HoldsEnds l.kind l.i (l.q + 7) l.seed l.chain l.hasher7;
}
