use Rattle.std.proofs.Common.{◌≡◌, ◌≤◌, ◌-◌, ◌++◌, length}
use Rattle.clone_stream.specs.Grouped.{AreClaims, claimed_text}
use Rattle.clone_stream.proofs.whole_records.whole_records.Given as goal

abbrev pub invariant-records : goal.invariant-records
invariant-records l = record {
  whole : l.fn.bytes ≡ claimed_text l.claims.items l.objects.items ++ l.rest;
  are : AreClaims l.claims.items l.objects.items;
  few : length l.objects.items ≤ 8;
}

abbrev pub decreases-records : goal.decreases-records
decreases-records l = 8 - length l.objects.items
