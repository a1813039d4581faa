-- What comes of two targets by what they are peeled to.
use Rattle.std.proofs.Common.{◌≡◌, ◌≤◌, ◌+◌, ℕ, List, Option, Some, refl, sym, subst, arith}
use Rattle.git_object.specs.Repository.{Repository}
use Rattle.tree_paths.specs.Repositories.{readings_of}
use Rattle.tree_paths.specs.Readings.{Told}
use Rattle.tree_paths.specs.States.{root_of}
use Rattle.tree_paths.specs.declared.heads.Peeled.{Peeled}
use Rattle.tree_paths.specs.declared.heads.Peeled.TheVariants.{At, Bad, Nothing}
use Rattle.tree_paths.proofs.Existence.{are_readings}
use Rattle.global_rules.specs.Commits.{commit_parents}
use Rattle.global_rules.specs.Descents.{IsDescent, IsWalked}
use Rattle.global_rules.specs.Order.{Parents}
use Rattle.global_rules.specs.Targets.{AreReadsIn, AreReadsOf, IsDescentIn, IsDescentOf}
use Rattle.global_rules.specs.declared.descents.Descent.{Descent}
use Rattle.global_rules.specs.declared.descents.Descent.TheVariants.{No, Yes}
use Rattle.global_rules.proofs.Walks.{unwalked}

-- what is told has its readings
pub told_by : {content : Option Repository} (r : Repository) → content ≡ Some r → Told content (readings_of r)
told_by r told = record { repository = r; told = told; are = are_readings r }

module _ (most : ℕ) (parents : Parents) where
  pub from_nothing : (x y : Peeled) → y ≡ Nothing → IsDescentOf most parents x y Yes
  from_nothing x y is = subst (λ (p : Peeled). IsDescentOf most parents x p Yes) (sym is) refl

  pub from_bad : (x y : Peeled) (id : List ℕ) → y ≡ Bad id → IsDescentOf most parents x y No
  from_bad x y id is = subst (λ (p : Peeled). IsDescentOf most parents x p No) (sym is) refl

  pub of_nothing : (x y : Peeled) (from tree : List ℕ) → x ≡ Nothing → y ≡ At from tree → IsDescentOf most parents x y No
  of_nothing x y from tree is_x is_y =
      subst (λ (p : Peeled). IsDescentOf most parents p y No) (sym is_x) (subst (λ (p : Peeled). IsDescentOf most parents Nothing p No) (sym is_y) refl)

  pub of_bad : (x y : Peeled) (id from tree : List ℕ) → x ≡ Bad id → y ≡ At from tree → IsDescentOf most parents x y No
  of_bad x y id from tree is_x is_y =
      subst (λ (p : Peeled). IsDescentOf most parents p y No) (sym is_x) (subst (λ (p : Peeled). IsDescentOf most parents (Bad id) p No) (sym is_y) refl)

  pub of_both : (x y : Peeled) (commit root from tree : List ℕ) (descent : Descent) → x ≡ At commit root → y ≡ At from tree → IsDescent most parents commit from descent
      → IsDescentOf most parents x y descent
  of_both x y commit root from tree descent is_x is_y is =
      subst (λ (p : Peeled). IsDescentOf most parents p y descent) (sym is_x) (subst (λ (p : Peeled). IsDescentOf most parents (At commit root) p descent) (sym is_y) is)

  pub of_walk : (x : Peeled) (commit tree : List ℕ) (before now : ℕ) → x ≡ At commit tree → IsWalked most parents commit (before + 18) now → AreReadsOf most parents x before now
  of_walk x commit tree before now is walked = subst (λ (p : Peeled). AreReadsOf most parents p before now) (sym is) walked

module _ (most : ℕ) (r : Repository) (target from : List ℕ) where
  pub descent_in : (x y : Peeled) (descent : Descent) → x ≡ root_of (readings_of r).heads target → y ≡ root_of (readings_of r).heads from
      → IsDescentOf most (commit_parents r) x y descent → IsDescentIn most r target from descent
  descent_in x y descent is_x is_y of =
      subst (λ (p : Peeled). IsDescentOf most (commit_parents r) (root_of (readings_of r).heads target) p descent) is_y
      (subst (λ (p : Peeled). IsDescentOf most (commit_parents r) p y descent) is_x of)

-- no more was read than for both targets
pub few_reads : (most : ℕ) (parents : Parents) (x : Peeled) (before now : ℕ) → now ≤ before + 18 → AreReadsOf most parents x before now
few_reads most parents Nothing before now few = few
few_reads most parents (Bad id) before now few = few
few_reads most parents (At commit tree) before now few = unwalked most parents commit commit (before + 18) now few

-- and the walk's behind them
pub reads_in : (most : ℕ) (r : Repository) (target : List ℕ) (x : Peeled) (before now : ℕ) → x ≡ root_of (readings_of r).heads target
    → AreReadsOf most (commit_parents r) x before now → AreReadsIn most r target before now
reads_in most r target x before now is of = subst (λ (p : Peeled). AreReadsOf most (commit_parents r) p before now) is of

-- reads that began earlier
pub walked_from : (most : ℕ) (parents : Parents) (root : List ℕ) (before later now : ℕ) → later ≤ before → IsWalked most parents root later now → IsWalked most parents root before now
walked_from most parents root before later now less walked = record {
  turns = walked.turns;
  few = walked.few;
  once = (let once = walked.once in omega (arith, less, once));
  named = walked.named;
}
