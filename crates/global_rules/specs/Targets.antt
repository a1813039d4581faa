-- Whether the commit of one target descends from the commit of another.
use Rattle.std.specs.Prelude.{◌≡◌, ◌≤◌, ◌+◌, ℕ, List}
use Rattle.git_object.specs.Repository.{Repository}
use Rattle.tree_paths.specs.Repositories.{readings_of}
use Rattle.tree_paths.specs.States.{root_of}
use Rattle.tree_paths.specs.declared.heads.Peeled.{Peeled}
use Rattle.tree_paths.specs.declared.heads.Peeled.TheVariants.{At, Bad, Nothing}
use Rattle.global_rules.specs.Commits.{commit_parents}
use Rattle.global_rules.specs.Descents.{IsDescent, IsWalked}
use Rattle.global_rules.specs.Order.{Parents}
use Rattle.global_rules.specs.declared.descents.Descent.{Descent}
use Rattle.global_rules.specs.declared.descents.Descent.TheVariants.{No, Yes}

-- by what the two are peeled to: each descends from nothing; else there are two commits, or it does not
abbrev pub IsDescentOf : ℕ → Parents → Peeled → Peeled → Descent → Type 0
IsDescentOf most parents target Nothing descent = descent ≡ Yes
IsDescentOf most parents target (Bad id) descent = descent ≡ No
IsDescentOf most parents Nothing (At from tree) descent = descent ≡ No
IsDescentOf most parents (Bad id) (At from tree) descent = descent ≡ No
IsDescentOf most parents (At commit root) (At from tree) descent = IsDescent most parents commit from descent

-- of two targets in a repository
abbrev pub IsDescentIn : ℕ → Repository → List ℕ → List ℕ → Descent → Type 0
IsDescentIn most r target from descent =
    let peeled = root_of (readings_of r).heads in
    IsDescentOf most (commit_parents r) (peeled target) (peeled from) descent

-- both were peeled, and at most the ancestors of the first one's commit were walked
abbrev pub AreReadsOf : ℕ → Parents → Peeled → ℕ → ℕ → Type 0
AreReadsOf most parents Nothing before now = now ≤ before + 18
AreReadsOf most parents (Bad id) before now = now ≤ before + 18
AreReadsOf most parents (At commit tree) before now = IsWalked most parents commit (before + 18) now

abbrev pub AreReadsIn : ℕ → Repository → List ℕ → ℕ → ℕ → Type 0
AreReadsIn most r target before now =
    AreReadsOf most (commit_parents r) (root_of (readings_of r).heads target) before now
