use Rattle.std.proofs.Common.{◌≡◌, ◌-◌, ◌∙◌, ℕ, suc, List, [], ◌∷◌, length, ap, refl, arith}
use Rattle.std.specs.List.{slice_get}
use Rattle.rsl_chain.specs.Chain.{last_of}
use Rattle.log_appending.proofs.drafting.tip_of.Goals as goal

last_is : (ids : List (List ℕ)) → slice_get ids (length ids - 1) ≡ last_of ids
last_is [] = refl
last_is (id ∷ []) = refl
last_is (id ∷ next ∷ ids) =
    let step : length (id ∷ next ∷ ids) - 1 ≡ suc (length ids) = omega arith in
    let back : length ids ≡ length (next ∷ ids) - 1 = omega arith in
    ap (λ (n : ℕ). slice_get (id ∷ next ∷ ids) n) step ∙ ap (λ (n : ℕ). slice_get (next ∷ ids) n) back ∙ last_is (next ∷ ids)

pub returns : goal.returns
returns c = c.copied.ensures ∙ c.last.ensures.value ∙ ap (λ (ids : List (List ℕ)). slice_get ids (length ids - 1)) c.as_slice.ensures ∙ last_is c.args.ids.now
