use Rattle.std.proofs.Common.{◌≡◌, drop, []}
use Rattle.policy_reading.specs.Metadata.{put_files}
use Rattle.policy_reading.proofs.found_files.put_files.Given as goal

abbrev pub invariant-entries : goal.invariant-entries
invariant-entries l = put_files l.found.entries (drop l.entry-index l.entries) ≡ put_files [] l.entries
