-- Objects that are added one after the other.
use Rattle.std.proofs.Common.{◌≡◌, ◌++◌, List, [], ◌∷◌, ap, ◌∙◌, append_assoc}
use Rattle.git_object.specs.Objects.{Pair}

abbrev with_one : Pair → List Pair → List Pair
with_one pair pairs = pairs ++ pair ∷ []

pub tree_parts : (o a b c d : List Pair) (file src root : Pair) (keys : List Pair) → a ≡ o ++ file ∷ [] → b ≡ a ++ keys → c ≡ b ++ src ∷ [] → d ≡ c ++ root ∷ []
    → d ≡ o ++ (file ∷ (keys ++ src ∷ root ∷ []))
tree_parts o a b c d file src root keys p q r s =
    let parts : d ≡ ((o ++ file ∷ []) ++ keys ++ src ∷ []) ++ root ∷ [] =
    s ∙ ap (λ (l : List Pair). l ++ root ∷ []) (r ∙ ap (λ (l : List Pair). l ++ src ∷ []) (q ∙ ap (λ (l : List Pair). l ++ keys) p)) in
    parts ∙ simp append_assoc

pub change_parts : (o a b c trees : List Pair) (commit entry : Pair) → a ≡ o ++ trees → b ≡ a ++ commit ∷ [] → c ≡ b ++ entry ∷ [] → c ≡ o ++ (trees ++ commit ∷ entry ∷ [])
change_parts o a b c trees commit entry p q r =
    let parts : c ≡ ((o ++ trees) ++ commit ∷ []) ++ entry ∷ [] = r ∙ ap (λ (l : List Pair). l ++ entry ∷ []) (q ∙ ap (λ (l : List Pair). l ++ commit ∷ []) p) in
    parts ∙ simp append_assoc

pub policy_parts : (o a b c d e : List Pair) (root top metadata tree commit : Pair) → o ≡ [] → a ≡ o ++ root ∷ [] → b ≡ a ++ top ∷ [] → c ≡ b ++ metadata ∷ [] → d ≡ c ++ tree ∷ [] → e ≡ d ++ commit ∷ []
    → e ≡ root ∷ top ∷ metadata ∷ tree ∷ commit ∷ []
policy_parts o a b c d e root top metadata tree commit none p q r s t =
    t ∙ ap (λ (l : List Pair). l ++ commit ∷ []) (s ∙ ap (λ (l : List Pair). l ++ tree ∷ []) (r ∙ ap (λ (l : List Pair). l ++ metadata ∷ [])
    (q ∙ ap (λ (l : List Pair). l ++ top ∷ []) (p ∙ ap (λ (l : List Pair). l ++ root ∷ []) none))))
