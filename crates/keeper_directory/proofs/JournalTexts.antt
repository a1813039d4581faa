-- What stands in front of a text is the only journal that could.
use Rattle.std.proofs.Common.{◌≡◌, ℕ, ◌==◌, Bool, true, false, ◌||◌, List, [], ◌∷◌, ◌++◌, Option, Some, None, IfSome, refl, sym, ap, ◌∙◌, append_assoc, arith}
use Rattle.std.specs.Prelude.{codes}
use Rattle.std.specs.List.{AllByRecursion, flat_map, list_all}
use Rattle.std.proofs.lemmas.Bool.{and_parts, ne_eqb, true≢false}
use Rattle.hex.specs.Hex.{encode_lower}
use Rattle.text_reader.specs.Line.{has_byte}
use Rattle.text_reader.proofs.Unique.{same_front, same_until}
use Rattle.git_object.specs.Ids.{IsId}
use Rattle.git_object.specs.Names.{is_plain}
use Rattle.keeper_api.specs.declared.changes.RefChange.{RefChange}
use Rattle.keeper_directory.specs.Journals.{IsNamed, OneJournal, journal_text, object_line, ref_line, ref_word}
use Rattle.keeper_directory.proofs.Ids.{same_id}

plain_one_line : (text : List ℕ) → list_all is_plain text ≡ true → has_byte 10 text ≡ false
plain_one_line [] plain = refl
plain_one_line (b ∷ text) plain =
    let parts = and_parts (is_plain b) (list_all is_plain text) plain in
    let other : (b == 10) ≡ false = ne_eqb b 10 (λ e. true≢false (sym parts.0 ∙ ap is_plain e)) in
    ap (λ (t : Bool). t || has_byte 10 text) other ∙ plain_one_line text parts.1

-- the lines of references, and what follows
abbrev ref_part : List RefChange → List ℕ → List ℕ
ref_part r x = flat_map ref_line r ++ (codes "whole\n" ++ x)

line_then : (to : Option (List ℕ)) (name x : List ℕ) → (ref_word to ++ (name ++ 10 ∷ [])) ++ x ≡ ref_word to ++ (name ++ 10 ∷ x)
line_then to name x = append_assoc (ref_word to) (name ++ 10 ∷ []) x ∙ ap (λ (t : List ℕ). ref_word to ++ t) (append_assoc name (10 ∷ []) x)

set_then : (id x : List ℕ) → ref_word (Some id) ++ x ≡ codes "set " ++ (encode_lower id ++ 32 ∷ x)
set_then id x = append_assoc (codes "set ") (encode_lower id ++ 32 ∷ []) x ∙ ap (λ (t : List ℕ). codes "set " ++ t) (append_assoc (encode_lower id) (32 ∷ []) x)

object_then : (id x : List ℕ) → object_line id ++ x ≡ codes "object " ++ (encode_lower id ++ 10 ∷ x)
object_then id x = append_assoc (codes "object ") (encode_lower id ++ 10 ∷ []) x ∙ ap (λ (t : List ℕ). codes "object " ++ t) (append_assoc (encode_lower id) (10 ∷ []) x)

differ : (b c : ℕ) (x y : List ℕ) → (b ≡ c → ⊥) → b ∷ x ≡ c ∷ y → ⊥
differ b c x y other e = let head : b ≡ c = cc in other head

same_word : (t u : Option (List ℕ)) (x y : List ℕ) → IfSome t IsId → IfSome u IsId → ref_word t ++ x ≡ ref_word u ++ y → (t ≡ u) × (x ≡ y)
same_word (Some a) (Some b) x y ia ib e =
    let both = same_id a b (32 ∷ x) (32 ∷ y) ia ib (same_front (codes "set ") (encode_lower a ++ 32 ∷ x) (encode_lower b ++ 32 ∷ y) (sym (set_then a x) ∙ e ∙ set_then b y)) in
    (ap Some both.0, same_front (32 ∷ []) x y both.1)
same_word (Some a) None x y ia ib e =
    absurd (differ 115 100 (codes "et " ++ (encode_lower a ++ 32 ∷ x)) (codes "rop " ++ y) (λ h. omega (arith, h)) (sym (set_then a x) ∙ e))
same_word None (Some b) x y ia ib e =
    absurd (differ 100 115 (codes "rop " ++ x) (codes "et " ++ (encode_lower b ++ 32 ∷ y)) (λ h. omega (arith, h)) (e ∙ set_then b y))
same_word None None x y ia ib e = (refl, same_front (codes "drop ") x y e)

same_line : (c d : RefChange) (x y : List ℕ) → IsNamed c → IsNamed d → ref_line c ++ x ≡ ref_line d ++ y → (c ≡ d) × (x ≡ y)
same_line c d x y nc nd e =
    let word = same_word c.to d.to (c.name ++ 10 ∷ x) (d.name ++ 10 ∷ y) nc.1 nd.1 (sym (line_then c.to c.name x) ∙ e ∙ line_then d.to d.name y) in
    let rest = same_until 10 c.name d.name x y (plain_one_line c.name nc.0.plain) (plain_one_line d.name nd.0.plain) word.1 in
    (λ i. record { name = rest.0 i; to = word.0 i }, rest.1)

-- no word of a reference stands where the journal ends
not_whole : (t : Option (List ℕ)) (x y : List ℕ) → codes "whole\n" ++ x ≡ ref_word t ++ y → ⊥
not_whole (Some a) x y e =
    differ 119 115 (codes "hole\n" ++ x) (codes "et " ++ (encode_lower a ++ 32 ∷ y)) (λ h. omega (arith, h)) (e ∙ set_then a y)
not_whole None x y e =
    differ 119 100 (codes "hole\n" ++ x) (codes "rop " ++ y) (λ h. omega (arith, h)) e

part_then : (c : RefChange) (r : List RefChange) (x : List ℕ) → ref_part (c ∷ r) x ≡ ref_line c ++ ref_part r x
part_then c r x = append_assoc (ref_line c) (flat_map ref_line r) (codes "whole\n" ++ x)

part_of : (c : RefChange) (r : List RefChange) (x : List ℕ) → ref_part (c ∷ r) x ≡ ref_word c.to ++ (c.name ++ 10 ∷ ref_part r x)
part_of c r x = part_then c r x ∙ line_then c.to c.name (ref_part r x)

same_refs : (r s : List RefChange) (x y : List ℕ) → AllByRecursion IsNamed r → AllByRecursion IsNamed s → ref_part r x ≡ ref_part s y → (r ≡ s) × (x ≡ y)
same_refs [] [] x y nr ns e = (refl, same_front (codes "whole\n") x y e)
same_refs [] (d ∷ s) x y nr ns e = absurd (not_whole d.to x (d.name ++ 10 ∷ ref_part s y) (e ∙ part_of d s y))
same_refs (c ∷ r) [] x y nr ns e = absurd (not_whole c.to y (c.name ++ 10 ∷ ref_part r x) (sym e ∙ part_of c r x))
same_refs (c ∷ r) (d ∷ s) x y nr ns e =
    let line = same_line c d (ref_part r x) (ref_part s y) nr.0 ns.0 (sym (part_then c r x) ∙ e ∙ part_then d s y) in
    let more = same_refs r s x y nr.1 ns.1 line.1 in
    (λ i. line.0 i ∷ more.0 i, more.1)

-- no line of an object stands where those of references begin
not_object : (t : Option (List ℕ)) (x y : List ℕ) → codes "object " ++ x ≡ ref_word t ++ y → ⊥
not_object (Some a) x y e =
    differ 111 115 (codes "bject " ++ x) (codes "et " ++ (encode_lower a ++ 32 ∷ y)) (λ h. omega (arith, h)) (e ∙ set_then a y)
not_object None x y e =
    differ 111 100 (codes "bject " ++ x) (codes "rop " ++ y) (λ h. omega (arith, h)) e

no_object : (r : List RefChange) (x y : List ℕ) → codes "object " ++ x ≡ ref_part r y → ⊥
no_object [] x y e = differ 111 119 (codes "bject " ++ x) (codes "hole\n" ++ y) (λ h. omega (arith, h)) e
no_object (c ∷ r) x y e = not_object c.to x (c.name ++ 10 ∷ ref_part r y) (e ∙ part_of c r y)

-- the lines of objects, and what follows
abbrev all_parts : List (List ℕ) → List RefChange → List ℕ → List ℕ
all_parts a r x = flat_map object_line a ++ ref_part r x

objects_then : (id : List ℕ) (a : List (List ℕ)) (r : List RefChange) (x : List ℕ) → all_parts (id ∷ a) r x ≡ codes "object " ++ (encode_lower id ++ 10 ∷ all_parts a r x)
objects_then id a r x = append_assoc (object_line id) (flat_map object_line a) (ref_part r x) ∙ object_then id (all_parts a r x)

same_parts : (a b : List (List ℕ)) (r s : List RefChange) (x y : List ℕ)
    → AllByRecursion IsId a → AllByRecursion IsId b → AllByRecursion IsNamed r → AllByRecursion IsNamed s
    → all_parts a r x ≡ all_parts b s y → (a ≡ b) × (r ≡ s) × (x ≡ y)
same_parts [] [] r s x y ia ib nr ns e = let refs = same_refs r s x y nr ns e in (refl, refs.0, refs.1)
same_parts [] (d ∷ b) r s x y ia ib nr ns e = absurd (no_object r (encode_lower d ++ 10 ∷ all_parts b s y) x (sym (objects_then d b s y) ∙ sym e))
same_parts (c ∷ a) [] r s x y ia ib nr ns e = absurd (no_object s (encode_lower c ++ 10 ∷ all_parts a r x) y (sym (objects_then c a r x) ∙ e))
same_parts (c ∷ a) (d ∷ b) r s x y ia ib nr ns e =
    let here = same_front (codes "object ") (encode_lower c ++ 10 ∷ all_parts a r x) (encode_lower d ++ 10 ∷ all_parts b s y) (sym (objects_then c a r x) ∙ e ∙ objects_then d b s y) in
    let id = same_id c d (10 ∷ all_parts a r x) (10 ∷ all_parts b s y) ia.0 ib.0 here in
    let more = same_parts a b r s x y ia.1 ib.1 nr ns (same_front (10 ∷ []) (all_parts a r x) (all_parts b s y) id.1) in
    (λ i. id.0 i ∷ more.0 i, more.1, more.2)

-- a journal and what follows
whole_then : (a : List (List ℕ)) (r : List RefChange) (x : List ℕ) → journal_text a r ++ x ≡ codes "gittuf-change 1\n" ++ all_parts a r x
whole_then a r x =
    append_assoc (codes "gittuf-change 1\n") (flat_map object_line a ++ (flat_map ref_line r ++ codes "whole\n")) x
    ∙ ap (λ (t : List ℕ). codes "gittuf-change 1\n" ++ t) (append_assoc (flat_map object_line a) (flat_map ref_line r ++ codes "whole\n") x
    ∙ ap (λ (t : List ℕ). flat_map object_line a ++ t) (append_assoc (flat_map ref_line r) (codes "whole\n") x))

pub one_journal : OneJournal
one_journal a b r s x y ia ib nr ns e =
    same_parts a b r s x y ia ib nr ns (same_front (codes "gittuf-change 1\n") (all_parts a r x) (all_parts b s y) (sym (whole_then a r x) ∙ e ∙ whole_then b s y))
