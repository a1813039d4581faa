-- Strings that are the same or collide, and what equal strings have in common.
use Rattle.std.proofs.Common.{◌≡◌, ◌≢◌, ◌⊎◌, ℕ, ◌+◌, List, ◌++◌, length, take, drop, inl, inr, sym, ◌∙◌, ap, refl, length-append}
use Rattle.std.proofs.lemmas.Bool.{cases_Bool, true≢false}
use Rattle.std.proofs.lemmas.List.{drop_at, take_at}
use Rattle.std.proofs.lemmas.Slice.Eq.{bytes_eq-Decides}
use Rattle.std.specs.Str.{bytes_eq}

pub same_or_not : (a b : List ℕ) → (a ≡ b) ⊎ (a ≢ b)
same_or_not a b =
    elim (cases_Bool (bytes_eq a b)) [
      | inl same ↦ inl ((bytes_eq-Decides a b).0 same)
      | inr other ↦ inr (λ e. true≢false (sym ((bytes_eq-Decides a b).1 e) ∙ other))
    ]

-- what follows the same front
pub back : (p a b : List ℕ) → p ++ a ≡ p ++ b → a ≡ b
back p a b same = sym (drop_at p a (length p) refl) ∙ ap (drop (length p)) same ∙ drop_at p b (length p) refl

-- the two parts that follow the same front, the first of 32 bytes
pub two_parts : (p a b c d : List ℕ) → length a ≡ 32 → length c ≡ 32 → p ++ a ++ b ≡ p ++ c ++ d → (a ≡ c) × (b ≡ d)
two_parts p a b c d long long_too same =
    let n : ℕ = length p + 32 in
    let here : length (p ++ a) ≡ n = length-append p a ∙ ap (λ k. length p + k) long in
    let there : length (p ++ c) ≡ n = length-append p c ∙ ap (λ k. length p + k) long_too in
    let front : p ++ a ≡ p ++ c = sym (take_at (p ++ a) b n here) ∙ ap (take n) same ∙ take_at (p ++ c) d n there in
    (back p a c front, sym (drop_at (p ++ a) b n here) ∙ ap (drop n) same ∙ drop_at (p ++ c) d n there)
