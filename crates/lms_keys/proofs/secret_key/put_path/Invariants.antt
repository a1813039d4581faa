use Rattle.std.proofs.Common.{◌≡◌, ◌+◌, ◌*◌, ◌/◌, ◌^◌, ◌≤◌, ◌++◌, take}
use Rattle.lmots.specs.Chain.{joined}
use Rattle.lms_keys.specs.Secret.{path_in_table}
use Rattle.lms_keys.proofs.secret_key.put_path.Given as goal

abbrev pub invariant-levels : goal.invariant-levels
invariant-levels l = record {
  front : take (l.at + 32 * l.level) l.out ≡ take l.at l.fn.out ++ joined (path_in_table l.nodes l.leaf) l.level;
  node : l.node ≡ l.leaf / 2 ^ l.level;
  within : l.node ≤ l.leaf;
}
