-- What holds of what is told to have changed.
use Rattle.std.specs.Prelude.{◌≡◌, ◌&&◌, ℕ, List, not}
use Rattle.policy_changes.specs.Names.{has_name}
use Rattle.policy_changes.specs.Changes.{beyond}

-- a text is told exactly where it is said now and was not there
pub record ToldWhere : Type 0 where
  pub told : (there texts : List (List ℕ)) (text : List ℕ)
      → has_name (beyond there texts) text ≡ (has_name texts text && not (has_name there text))
