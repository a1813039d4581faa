-- What a reference name does not hold.
use Rattle.std.proofs.Common.{◌≡◌, ℕ, ◌≤◌, ◌==◌, Bool, true, false, not, ◌&&◌, ◌||◌, List, [], ◌∷◌, refl, ap, ◌∙◌, arith}
use Rattle.std.specs.Prelude.{nat_le}
use Rattle.std.specs.List.{list_all}
use Rattle.std.proofs.lemmas.Bool.{and_parts, leb-true, ne_eqb}
use Rattle.text_reader.specs.Line.{has_byte}
use Rattle.git_object.specs.Names.{IsRefName, is_plain, is_special}

-- plain bytes are no spaces
plain_has_no_space : (text : List ℕ) → list_all is_plain text ≡ true → has_byte 32 text ≡ false
plain_has_no_space [] plain = refl
plain_has_no_space (b ∷ text) plain =
    let parts = and_parts (is_plain b) (list_all is_plain text) plain in
    let first = and_parts (nat_le 33 b && not (b == 127)) (not (is_special b)) parts.0 in
    let low : 33 ≤ b = leb-true 33 b (and_parts (nat_le 33 b) (not (b == 127)) first.0).0 in
    let other : (b == 32) ≡ false = ne_eqb b 32 (λ e. omega arith) in
    ap (λ (t : Bool). t || has_byte 32 text) other ∙ plain_has_no_space text parts.1

pub name_has_no_space : (name : List ℕ) → IsRefName name → has_byte 32 name ≡ false
name_has_no_space name is = plain_has_no_space name is.plain
