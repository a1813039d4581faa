-- Lower-case hexadecimal digits have no line feed among them.
use Rattle.std.proofs.Common.{◌≡◌, ℕ, ◌==◌, ◌||◌, Bool, true, false, List, [], ◌∷◌, refl, sym, ap, ◌∙◌}
use Rattle.std.specs.List.{AllPass}
use Rattle.std.proofs.lemmas.Bool.{ne_eqb, true≢false}
use Rattle.std.proofs.lemmas.List.Elements.{All-head, All-tail}
use Rattle.text_reader.specs.Hexadecimal.{is_lower_digit}
use Rattle.text_reader.specs.Line.{has_byte}

pub lower_one_line : (text : List ℕ) → AllPass is_lower_digit text → has_byte 10 text ≡ false
lower_one_line [] all = refl
lower_one_line (c ∷ text) all =
    let P : ℕ → Type 0 = λ d. is_lower_digit d ≡ true in
    let other : (c == 10) ≡ false = ne_eqb c 10 (λ e. true≢false (sym (All-head P c text all) ∙ ap is_lower_digit e)) in
    ap (λ (t : Bool). t || has_byte 10 text) other ∙ lower_one_line text (All-tail P c text all)
