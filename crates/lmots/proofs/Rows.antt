-- A row of pieces that grows by one at its end, in a list and in what is written of it.
use Rattle.std.proofs.Common.{◌≡◌, ℕ, ◌+◌, ◌*◌, List, ◌++◌, length, take, sym, ◌∙◌, ap, arith, refl, add-one, append_assoc}
use Rattle.std.proofs.lemmas.List.{append-nil}
use Rattle.lmots.specs.Chain.{joined}

pub joined_next : (z : ℕ → List ℕ) (n : ℕ) → joined z (n + 1) ≡ joined z n ++ z n
unfolding joined
joined_next z n = rw add-one refl

pub joined_none : (before : List ℕ) (z : ℕ → List ℕ) → before ≡ before ++ joined z 0
unfolding joined
joined_none before z = sym (append-nil before)

pub joined_more : (before : List ℕ) (z : ℕ → List ℕ) (n : ℕ) (piece : List ℕ) → piece ≡ z n
    → (before ++ joined z n) ++ piece ≡ before ++ joined z (n + 1)
joined_more before z n piece same =
    append_assoc before (joined z n) piece
    ∙ ap (λ p. before ++ (joined z n ++ p)) same
    ∙ ap (λ p. before ++ p) (sym (joined_next z n))

-- one more piece of 32 bytes is written after those before it
pub written_more : (at : ℕ) (before : List ℕ) (z : ℕ → List ℕ) (n : ℕ) (out now piece : List ℕ) → length piece ≡ 32 → piece ≡ z n
    → take (at + 32 * n) out ≡ before ++ joined z n
    → take (at + 32 * n + length piece) now ≡ take (at + 32 * n) out ++ piece
    → take (at + 32 * (n + 1)) now ≡ before ++ joined z (n + 1)
written_more at before z n out now piece long same so_far put =
    let place : at + 32 * (n + 1) ≡ at + 32 * n + length piece = omega (arith, long) in
    ap (λ k. take k now) place ∙ put ∙ ap (λ l. l ++ piece) so_far ∙ joined_more before z n piece same

-- a code of four bytes and a randomizer are written, and no piece after them
pub written_none : (z : ℕ → List ℕ) (first now front back code randomizer : List ℕ) → front ≡ code → back ≡ randomizer
    → length front ≡ 4 → length back ≡ 32
    → take (0 + length front) first ≡ front
    → take (4 + length back) now ≡ take 4 first ++ back
    → take (36 + 32 * 0) now ≡ code ++ randomizer ++ joined z 0
written_none z first now front back code randomizer is_code is_randomizer four long put_front put_back =
    let begun : take 4 first ≡ code = ap (λ k. take (0 + k) first) (sym four) ∙ put_front ∙ is_code in
    ap (λ k. take (4 + k) now) (sym long) ∙ put_back ∙ ap (λ l. l ++ back) begun ∙ ap (λ l. code ++ l) is_randomizer
    ∙ joined_none (code ++ randomizer) z
