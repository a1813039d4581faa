use Rattle.std.proofs.Common.{ltb, arith, rules}
use Rattle.std.proofs.lemmas.List.Sorted.{IsPartitionPoint-from_clause, IsPartitionedBy-ltb}
use Rattle.recovery.proofs.RowLemmas.{no_place, non_decreasing}
use Rattle.recovery.proofs.rows.place_of.Goals as goal
use Rattle.recovery.proofs.rows.place_of.Goals.{else-at-rows-via-then-at-rows+else-rows-at, else-at-rows-via-else-at-rows}

pub returns-else-at-rows-clause-none : goal.returns-else-at-rows-clause-none
returns-else-at-rows-clause-none c =
    let rows = c.args.rows.now in
    let parted = IsPartitionedBy-ltb (λ r. r.number) rows c.args.number (non_decreasing rows c.requires) in
    let point = IsPartitionPoint-from_clause (λ r. ltb r.number c.args.number) rows c.partition_point-at.result c.partition_point-at.ensures.partitioned parted (λ a r q k. search rules) in
    no_place rows c.args.number c.partition_point-at.result c.requires point.0 point.1
    (elim c.else-at-rows.branch [ else-at-rows-via-then-at-rows+else-rows-at w ↦ λ h e. w.if-rows-at.false e | else-at-rows-via-else-at-rows w ↦ λ h e. absurd (omega arith) ])
