-- Blocks of a text and of its padding.
use Rattle.std.proofs.Common.{◌≡◌, ◌≢◌, ℕ, ◌+◌, ◌-◌, ◌*◌, ◌/◌, ◌<◌, ◌≤◌, List, ◌++◌, length, take, drop, sym, ◌∙◌, ap, arith, length-append, length-drop}
use Rattle.std.proofs.Math.Seq.{drop-append-add, take-append-add}
use Rattle.std.proofs.lemmas.List.{take-append-le, drop-append-le, drop-take, take-take, drop-drop}

pub inner_block : (m p : List ℕ) (k : ℕ) → k < length m / 64 → take 64 (drop (64 * k) m) ≡ take 64 (drop (k * 64) (m ++ p))
inner_block m p k lt =
    let fits : 64 ≤ length (drop (k * 64) m) = omega (arith, length-drop (k * 64) m) in
    let at : 64 * k ≡ k * 64 = omega arith in
    ap (λ (x : ℕ). take 64 (drop x m)) at ∙ sym (take-append-le 64 (drop (k * 64) m) p fits)
    ∙ ap (take 64) (sym (drop-append-le (k * 64) m p (omega arith)))

pub tail_piece : (tail p : List ℕ) (q n after : ℕ) → take (64 * n) tail ≡ drop (q * 64) p → after < n
    → take 64 (drop (64 * after) tail) ≡ take 64 (drop ((q + after) * 64) p)
tail_piece tail p q n after held lt =
    let a : ℕ = 64 * after in
    let r : ℕ = 64 * n - a in
    let e : 64 * n ≡ a + r = omega arith in
    let place : q * 64 + a ≡ (q + after) * 64 = omega arith in
    sym (take-take 64 r (drop a tail) (omega arith)) ∙ ap (take 64) (sym (drop-take a r tail))
    ∙ ap (λ (x : ℕ). take 64 (drop a (take x tail))) (sym e) ∙ ap (λ (x : List ℕ). take 64 (drop a x)) held
    ∙ ap (take 64) (drop-drop a (q * 64) p) ∙ ap (λ (x : ℕ). take 64 (drop x p)) place

-- the first block of a text whose head is no longer than a block
pub first_block : (head body p : List ℕ) (k : ℕ) → k ≡ 0 → length head ≤ 64 → 64 ≤ length head + length body
    → head ++ take (64 - length head) body ≡ take 64 (drop (k * 64) ((head ++ body) ++ p))
first_block head body p k e short fits =
    let m : List ℕ = head ++ body in
    let sum : length head + (64 - length head) ≡ 64 = omega (arith, short) in
    let within : 64 ≤ length m = omega (arith, fits, length-append head body) in
    sym (take-append-add head body (64 - length head)) ∙ ap (λ (x : ℕ). take x m) sum ∙ sym (take-append-le 64 m p within)
    ∙ ap (λ (j : ℕ). take 64 (drop (j * 64) (m ++ p))) (sym e)

-- a whole block of the body
pub later_block : (head body p : List ℕ) (k : ℕ) → k ≢ 0 → length head ≤ 64 → k < (length head + length body) / 64
    → take 64 (drop (64 * k - length head) body) ≡ take 64 (drop (k * 64) ((head ++ body) ++ p))
later_block head body p k ne short lt =
    let sum : length head + (64 * k - length head) ≡ 64 * k = omega (arith, short, ne) in
    let within : k < length (head ++ body) / 64 = omega (arith, lt, length-append head body) in
    ap (take 64) (sym (drop-append-add head body (64 * k - length head))) ∙ ap (λ (x : ℕ). take 64 (drop x (head ++ body))) sum
    ∙ inner_block (head ++ body) p k within
