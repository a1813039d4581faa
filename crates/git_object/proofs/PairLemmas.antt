-- Where one byte stands right before another, seen from a later place.
use Rattle.std.proofs.Common.{◌≡◌, ℕ, ◌+◌, ◌<◌, ◌≤◌, ◌==◌, ◌&&◌, ◌||◌, Bool, true, false, List, [], ◌∷◌, length, get_or, drop, refl, sym, ap, ◌∙◌, arith}
use Rattle.std.proofs.lemmas.List.{drop_more}
use Rattle.git_object.specs.Names.{has_pair}

-- the pair does not stand here, so it stands later or nowhere
pub has_pair_later : (x y : ℕ) (text : List ℕ) (i : ℕ) → i + 1 < length text
    → (get_or text i 0 == x && get_or text (i + 1) 0 == y) ≡ false → has_pair x y (drop (i + 1) text) ≡ has_pair x y (drop i text)
has_pair_later x y text i more other =
    let first : drop i text ≡ get_or text i 0 ∷ drop (i + 1) text = drop_more text i 0 (omega arith) in
    let second : drop (i + 1) text ≡ get_or text (i + 1) 0 ∷ drop (i + 1 + 1) text = drop_more text (i + 1) 0 more in
    let whole : drop i text ≡ get_or text i 0 ∷ get_or text (i + 1) 0 ∷ drop (i + 1 + 1) text = first ∙ ap (λ (rest : List ℕ). get_or text i 0 ∷ rest) second in
    let here : has_pair x y (drop i text) ≡ has_pair x y (get_or text (i + 1) 0 ∷ drop (i + 1 + 1) text) =
    ap (has_pair x y) whole ∙ ap (λ (b : Bool). b || has_pair x y (get_or text (i + 1) 0 ∷ drop (i + 1 + 1) text)) other in
    ap (has_pair x y) second ∙ sym here

-- one byte is no pair
pub has_pair_short : (x y : ℕ) (text : List ℕ) → length text ≤ 1 → has_pair x y text ≡ false
has_pair_short x y [] short = refl
has_pair_short x y (b ∷ []) short = refl
has_pair_short x y (b ∷ c ∷ text) short = absurd (omega arith)

-- the pair stands here
pub has_pair_here : (x y : ℕ) (text : List ℕ) (i : ℕ) → i + 1 < length text
    → (get_or text i 0 == x && get_or text (i + 1) 0 == y) ≡ true → has_pair x y (drop i text) ≡ true
has_pair_here x y text i more here =
    let first : drop i text ≡ get_or text i 0 ∷ drop (i + 1) text = drop_more text i 0 (omega arith) in
    let second : drop (i + 1) text ≡ get_or text (i + 1) 0 ∷ drop (i + 1 + 1) text = drop_more text (i + 1) 0 more in
    let whole : drop i text ≡ get_or text i 0 ∷ get_or text (i + 1) 0 ∷ drop (i + 1 + 1) text = first ∙ ap (λ (rest : List ℕ). get_or text i 0 ∷ rest) second in
    ap (has_pair x y) whole ∙ ap (λ (b : Bool). b || has_pair x y (get_or text (i + 1) 0 ∷ drop (i + 1 + 1) text)) here
