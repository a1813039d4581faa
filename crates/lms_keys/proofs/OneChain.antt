-- Two values of a chain: where the walks from them meet, they are the same, or texts on the walks
-- collide.
use Rattle.std.proofs.Common.{◌≡◌, ◌⊎◌, ℕ, suc, ◌+◌, ◌<◌, List, [], ◌∷◌, ◌++◌, inl, inr, sym, ◌∙◌, subst, arith}
use Prim.Native.Nat as Nat
use Rattle.lmots.specs.Chain.{head, step, step_text, steps}
use Rattle.lmots.proofs.Steps.{steps-first, steps-none}
use Rattle.lms_keys.specs.OneLeaf.{Collide}
use Rattle.lms_keys.proofs.Collisions.{back, same_or_not}

pub record WalksPart (i : List ℕ) (q chain a n : ℕ) (x y : List ℕ) : Type 0 where
  pub after : ℕ
  pub short : after < n
  pub collide : Collide (step_text i q chain (a + after) (steps i q chain a after x)) (step_text i q chain (a + after) (steps i q chain a after y))

text_later : (i : List ℕ) (q chain a n : ℕ) (x : List ℕ)
    → step_text i q chain (a + 1 + n) (steps i q chain (a + 1) n (step i q chain a x)) ≡ step_text i q chain (a + suc n) (steps i q chain a (suc n) x)
text_later i q chain a n x =
    let place : a + 1 + n ≡ a + suc n = omega arith in
    λ k. step_text i q chain (place k) (steps-first i q chain a n x k)

text_now : (i : List ℕ) (q chain a : ℕ) (x : List ℕ) → step_text i q chain a x ≡ step_text i q chain (a + 0) (steps i q chain a 0 x)
text_now i q chain a x =
    let place : a ≡ a + 0 = omega arith in
    λ k. step_text i q chain (place k) (sym (steps-none i q chain a x) k)

collide_as : {a b c d : List ℕ} → a ≡ c → b ≡ d → Collide a b → Collide c d
collide_as {a} {b} {c} {d} left right found = subst (λ z. Collide z d) left (subst (λ z. Collide a z) right found)

pub one_chain : (i : List ℕ) (q chain a n : ℕ) (x y : List ℕ) → steps i q chain a n x ≡ steps i q chain a n y → (x ≡ y) ⊎ WalksPart i q chain a n x y
one_chain i q chain a Nat.zero x y same = inl (sym (steps-none i q chain a x) ∙ same ∙ steps-none i q chain a y)
one_chain i q chain a (suc n) x y same =
    elim (one_chain i q chain (a + 1) n (step i q chain a x) (step i q chain a y) (steps-first i q chain a n x ∙ same ∙ sym (steps-first i q chain a n y))) [
      | inr found ↦
          inr (record {
            after = suc found.after;
            short = omega (arith, found.short);
            collide = collide_as (text_later i q chain a found.after x) (text_later i q chain a found.after y) found.collide;
          })
      | inl hashes ↦
          elim (same_or_not (step_text i q chain a x) (step_text i q chain a y)) [
            | inl texts ↦ inl (back (head i q chain ++ a ∷ []) x y texts)
            | inr differ ↦
                inr (record {
                  after = 0;
                  short = omega arith;
                  collide = collide_as (text_now i q chain a x) (text_now i q chain a y) (record { differ = differ; same = hashes });
                })
          ]
    ]
