use Rattle.std.proofs.Common.{◌≡◌, ◌≤◌, ◌+◌, drop, map, take, Some}
use Rattle.git_object.specs.Repository.{Repository}
use Rattle.keeper_api.specs.Undisturbed.{Undisturbed}
use Rattle.policy_reading.specs.Signed.{after, read_files}
use Rattle.policy_reading.proofs.loaded_files.load_files.Given as goal

abbrev pub invariant-ats : goal.invariant-ats
invariant-ats g l = record {
  read : (r : Repository) → g.R.Keeper.content l.keeper ≡ Some r → read_files r l.ats ≡ after l.files (read_files r (drop l.at-index l.ats));
  named : map (λ signed. signed.file.name) l.files ≡ map (λ at. at.stem) (take l.at-index l.ats);
  same : Undisturbed g.R.Keeper l.fn.keeper l.keeper;
  quiet : g.R.Keeper.faults l.keeper ≡ g.R.Keeper.faults l.fn.keeper;
  reads : g.R.Keeper.reads l.keeper ≤ g.R.Keeper.reads l.fn.keeper + l.at-index;
}
