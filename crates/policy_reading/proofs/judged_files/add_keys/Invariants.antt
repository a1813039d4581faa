use Rattle.std.proofs.Common.{◌≡◌, ◌++◌, take}
use Rattle.policy_reading.proofs.judged_files.add_keys.Given as goal

abbrev pub invariant-keys : goal.invariant-keys
invariant-keys l = l.all ≡ l.fn.all ++ take l.key-index l.keys
