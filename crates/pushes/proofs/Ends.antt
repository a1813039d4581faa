-- What stands at the end of a text.
use Rattle.std.proofs.Common.{◌≡◌, ℕ, List, [], ◌∷◌, ◌++◌, sym, ap, ◌∙◌, append_assoc}
use Rattle.pushes.specs.Fronts.{IsEndOf}

-- behind a front of it
pub further : (whole text front rest : List ℕ) → IsEndOf whole text → text ≡ front ++ rest → IsEndOf whole rest
further whole text front rest (before, e) at = (before ++ front, e ∙ ap (λ t. before ++ t) at ∙ sym (append_assoc before front rest))

-- behind a line of it
pub behind_line : (whole text line rest : List ℕ) → IsEndOf whole text → text ≡ line ++ 10 ∷ rest → IsEndOf whole rest
behind_line whole text line rest ends at = further whole text (line ++ 10 ∷ []) rest ends (at ∙ sym (append_assoc line (10 ∷ []) rest))
