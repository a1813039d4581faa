-- What a walk knows where it came to a commit, or to the end of what was met.
use Rattle.std.proofs.Common.{◌≡◌, ◌≤◌, ◌<◌, ◌+◌, ℕ, true, false, List, [], ◌∷◌, length, Some, get_or, refl, ap, ◌∙◌, arith}
use Rattle.std.specs.Prelude.{slice_get}
use Rattle.std.specs.Str.{bytes_eq}
use Rattle.std.proofs.lemmas.List.{length-append}
use Rattle.std.proofs.lemmas.Option.{slice_get-get_or}
use Rattle.std.proofs.lemmas.Slice.Eq.{bytes_eq-Decides}
use Rattle.global_rules.specs.Commits.{NoCommits}
use Rattle.global_rules.specs.Descents.{IsDescent, IsWalked}
use Rattle.global_rules.specs.Order.{Parents, with_new}
use Rattle.global_rules.specs.declared.descents.Descent.TheVariants.{No, TooFar, Yes}
use Rattle.global_rules.proofs.Endings.{finds, is_no, is_too_far, is_walked}
use Rattle.global_rules.proofs.Order.{new_front}
use Rattle.global_rules.proofs.Passing.{passed}
use Rattle.global_rules.proofs.Turns.{IsAtTurn, goes_on, starts}

-- no id goes where more are met
pub no_fewer : (xs ids : List (List ℕ)) → length xs ≤ length (with_new xs ids)
no_fewer xs ids = let ends = new_front xs ids in let e = ap length ends.1 ∙ length-append xs ends.0 in omega (arith, e)

module _ (most : ℕ) (parents : Parents) (root from : List ℕ) where
  -- nothing is read yet, or as much as the targets took
  pub unwalked : (before now : ℕ) → now ≤ before → IsWalked most parents root before now
  unwalked before now few =
      is_walked most parents root from 0 (root ∷ []) 0 (starts parents root from) before now (omega arith) (omega arith) (let e : length (root ∷ []) ≡ 1 = refl in omega (arith, few, e))

  module _ (at to count : ℕ) (ids : List (List ℕ)) (on : at ≤ to) (none : NoCommits parents ids at to) (walk : IsAtTurn parents root from at ids count) where
    -- reads of a walk that stops there
    pub walked : (before now : ℕ) → to ≤ length ids → count ≤ most → now ≤ before + length ids → IsWalked most parents root before now
    walked before now within few once = is_walked most parents root from to ids count (passed parents root from at to ids count on within none walk) before now few within once

    pub ended : to ≡ length ids → count ≤ most → IsDescent most parents root from No
    ended end few =
        is_no most parents root from to ids count (passed parents root from at to ids count on (let e = end in omega (arith, e)) none walk) (let e = end in omega (arith, e)) few

    module _ (within : to < length ids) (found : List (List ℕ)) (there : (id : List ℕ) → slice_get ids to ≡ Some id → parents id ≡ Some found) where
      at_commit : IsAtTurn parents root from to ids count
      at_commit = passed parents root from at to ids count on (omega (arith, within)) none walk

      here : slice_get ids to ≡ Some (get_or ids to [])
      here = slice_get-get_or ids to [] within

      pub is_yes : ((id : List ℕ) → slice_get ids to ≡ Some id → bytes_eq id from ≡ true) → count < most → IsDescent most parents root from Yes
      is_yes same less =
          finds most parents root from to ids count at_commit (get_or ids to []) found here (there (get_or ids to []) here)
          ((bytes_eq-Decides (get_or ids to []) from).0 (same (get_or ids to []) here)) less

      pub too_far : count ≡ most → IsDescent most parents root from TooFar
      too_far full = is_too_far most parents root from to ids count at_commit (get_or ids to []) found here (there (get_or ids to []) here) full

      pub next_turn : ((id : List ℕ) → slice_get ids to ≡ Some id → bytes_eq id from ≡ false) → IsAtTurn parents root from (to + 1) (with_new ids found) (count + 1)
      next_turn other =
          goes_on parents root from to ids count at_commit (get_or ids to []) found here (there (get_or ids to []) here) (other (get_or ids to []) here)
