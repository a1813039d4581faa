-- The names of a policy's files.
use Rattle.std.specs.Prelude.{ℕ, List, map}
use Rattle.policy_epochs.specs.declared.policies.PolicyFile.{PolicyFile}

abbrev pub names_of : List PolicyFile → List (List ℕ)
names_of files = map (λ file. file.name) files
