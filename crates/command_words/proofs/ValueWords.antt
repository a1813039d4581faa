-- Values that begin with no dash are taken as values.
use Rattle.std.proofs.Common.{◌≡◌, ◌≢◌, ◌≤◌, ◌<◌, ◌==◌, ℕ, Bool, true, false, List, [], ◌∷◌, ◌++◌, get_or, length, inl, inr, refl, sym, ap, subst, ◌∙◌, arith}
use Rattle.std.specs.Prelude.{◌⊎◌, Option, Some, None, codes, decimal, map}
use Rattle.std.specs.List.{join_with_byte}
use Rattle.std.specs.Option.{IsSomeAnd}
use Rattle.std.proofs.lemmas.Bool.{true≢false, ne_eqb}
use Rattle.std.proofs.lemmas.Fmt.{first_decimal}
use Rattle.std.proofs.lemmas.List.Elements.{All-head}
use Rattle.clap.specs.Faults.{defaults_fault, flags_fault, walk_fault}
use Rattle.clap.specs.Walk.{walked}
use Rattle.hex.specs.Hex.{encode_lower}
use Rattle.text_reader.specs.Hexadecimal.{IsLowerHexadecimal, is_lower_digit}
use Rattle.git_object.specs.Ids.{IsId}
use Rattle.git_object.specs.Names.{IsRefName, log_name}
use Rattle.git_object.proofs.IdLemmas.{id_is_lower}
use Rattle.evidence.proofs.KeyLines.{is_lower}
use Rattle.evidence.specs.Dossiers.{IsPublic}
use Rattle.command_words.specs.Ids.{AreIds}
use Rattle.command_words.specs.Numbers.{IsCount}
use Rattle.command_words.specs.Commands.{AsksApproval, AsksDemo, AsksDossier, AsksNote, IsMessage, annotate_app, approve_app, demo_app, evidence_app, kind_text}
use Rattle.command_words.specs.Grammars.{Takes, value_of}
use Rattle.command_words.proofs.LetterFirst.{letter_first}

-- a text begins with a byte that is no dash
pub record Begins (text : List ℕ) : Type 0 where
  pub first : ℕ
  pub rest : List ℕ
  pub is : text ≡ first ∷ rest
  pub no_dash : (first == 45) ≡ false

of_digits : (n : ℕ) → 0 < n → (text : List ℕ) → IsLowerHexadecimal n text → Begins text
of_digits n some [] is = absurd (omega (arith, is.0, some))
of_digits n some (d ∷ rest) is =
    let digit : is_lower_digit d ≡ true = All-head (λ (b : ℕ). is_lower_digit b ≡ true) d rest is.1 in
    record { first = d; rest = rest; is = refl; no_dash = ne_eqb d 45 (λ same. true≢false (sym digit ∙ ap is_lower_digit same)) }

of_more : (text more : List ℕ) → Begins text → Begins (text ++ more)
of_more text more begins = record { first = begins.first; rest = begins.rest ++ more; is = ap (λ (t : List ℕ). t ++ more) begins.is; no_dash = begins.no_dash }

of_id : (id : List ℕ) → IsId id → Begins (encode_lower id)
of_id id is = of_digits 32 (omega arith) (encode_lower id) (id_is_lower id is)

of_list : (ids : List (List ℕ)) → 1 ≤ length ids → ((k : ℕ) (d : List ℕ) → k < length ids → IsId (get_or ids k d)) → Begins (join_with_byte 44 (map encode_lower ids))
of_list [] some are = absurd (omega arith)
of_list (id ∷ []) some are = of_id id (All-head IsId id [] are)
of_list (id ∷ next ∷ ids) some are = of_more (encode_lower id) (44 ∷ join_with_byte 44 (map encode_lower (next ∷ ids))) (of_id id (All-head IsId id (next ∷ ids) are))

of_ids : (most : ℕ) (text : List ℕ) (ids : List (List ℕ)) → AreIds most text ids → Begins text
of_ids most text ids is = subst Begins (sym is.written) (of_list ids is.some is.are)

-- ---- annotate <kind> <ids>
annotate_taken : (skip : Bool) (d : ℕ) (rest : List ℕ) → (d == 45) ≡ false → Takes annotate_app (kind_text skip ∷ (d ∷ rest) ∷ [])
unfolding walk_fault walked flags_fault defaults_fault
annotate_taken true d rest other = simp other
annotate_taken false d rest other = simp other

annotate_kind : (skip : Bool) (d : ℕ) (rest : List ℕ) → (d == 45) ≡ false → value_of annotate_app (codes "kind") (kind_text skip ∷ (d ∷ rest) ∷ []) ≡ Some (kind_text skip)
unfolding walked
annotate_kind true d rest other = simp other
annotate_kind false d rest other = simp other

annotate_given : (skip : Bool) (d : ℕ) (rest : List ℕ) → (d == 45) ≡ false → value_of annotate_app (codes "ids") (kind_text skip ∷ (d ∷ rest) ∷ []) ≡ Some (d ∷ rest)
unfolding walked
annotate_given true d rest other = simp other
annotate_given false d rest other = simp other

annotate_silent : (skip : Bool) (d : ℕ) (rest : List ℕ) → (d == 45) ≡ false → value_of annotate_app (codes "message") (kind_text skip ∷ (d ∷ rest) ∷ []) ≡ None
unfolding walked
annotate_silent true d rest other = simp other
annotate_silent false d rest other = simp other

annotate_begun : (skip : Bool) (d : ℕ) (rest : List ℕ) (ids : List (List ℕ)) → (d == 45) ≡ false → AreIds 256 (d ∷ rest) ids → AsksNote skip ids [] (kind_text skip ∷ (d ∷ rest) ∷ [])
annotate_begun skip d rest ids other are = record {
  takes = annotate_taken skip d rest other;
  is_kind = annotate_kind skip d rest other;
  lists = subst (λ (given : Option (List ℕ)). IsSomeAnd given (λ text. AreIds 256 text ids)) (sym (annotate_given skip d rest other)) are;
  says = subst (λ (given : Option (List ℕ)). IsMessage given []) (sym (annotate_silent skip d rest other)) refl;
}

pub annotate_asks : (skip : Bool) (text : List ℕ) (ids : List (List ℕ)) → AreIds 256 text ids → AsksNote skip ids [] (kind_text skip ∷ text ∷ [])
annotate_asks skip text ids are =
    let begins = of_ids 256 text ids are in
    subst (λ (t : List ℕ). AreIds 256 t ids → AsksNote skip ids [] (kind_text skip ∷ t ∷ [])) (sym begins.is)
    (annotate_begun skip begins.first begins.rest ids begins.no_dash) are

-- ---- approve <ref> <target id>
approve_taken : (name : List ℕ) (d : ℕ) (rest : List ℕ) → (d == 45) ≡ false → Takes approve_app ((114 ∷ name) ∷ (d ∷ rest) ∷ [])
unfolding walk_fault walked flags_fault defaults_fault
approve_taken name d rest other = simp other

approve_named : (name : List ℕ) (d : ℕ) (rest : List ℕ) → (d == 45) ≡ false → value_of approve_app (codes "ref") ((114 ∷ name) ∷ (d ∷ rest) ∷ []) ≡ Some (114 ∷ name)
unfolding walked
approve_named name d rest other = simp other

approve_given : (name : List ℕ) (d : ℕ) (rest : List ℕ) → (d == 45) ≡ false → value_of approve_app (codes "target") ((114 ∷ name) ∷ (d ∷ rest) ∷ []) ≡ Some (d ∷ rest)
unfolding walked
approve_given name d rest other = simp other

approve_begun : (name target : List ℕ) (d : ℕ) (rest : List ℕ) → (d == 45) ≡ false → encode_lower target ≡ d ∷ rest → IsId target → IsRefName (114 ∷ name) → 114 ∷ name ≢ log_name
    → AsksApproval (114 ∷ name) target ((114 ∷ name) ∷ (d ∷ rest) ∷ [])
approve_begun name target d rest other text is_id is_name not_log = record {
  takes = approve_taken name d rest other;
  named = record { is = approve_named name d rest other; is_name = is_name; not_log = not_log };
  at = record { is = approve_given name d rest other ∙ sym (ap (λ (t : List ℕ). Some t) text); is_id = is_id };
}

pub approve_asks : (name target : List ℕ) → IsRefName name → name ≢ log_name → IsId target → AsksApproval name target (name ∷ encode_lower target ∷ [])
approve_asks name target is_name not_log is_id =
    let named = letter_first name is_name in
    let begins = of_id target is_id in
    subst (λ (n : List ℕ). IsRefName n → n ≢ log_name → AsksApproval n target (n ∷ encode_lower target ∷ [])) (sym named.1)
    (λ is other. subst (λ (text : List ℕ). AsksApproval (114 ∷ named.0) target ((114 ∷ named.0) ∷ text ∷ [])) (sym begins.is)
    (approve_begun named.0 target begins.first begins.rest begins.no_dash begins.is is_id is other)) is_name not_log

-- ---- evidence-make <key> <id> <id>
key_begins : (public : List ℕ) → IsPublic public → Begins (encode_lower public)
key_begins public is = by_length is.long where
  by_length : (length public ≡ 56) ⊎ (length public ≡ 60) → Begins (encode_lower public)
  by_length (inl long) = of_digits 56 (omega arith) (encode_lower public) (is_lower 56 public long is.bytes)
  by_length (inr long) = of_digits 60 (omega arith) (encode_lower public) (is_lower 60 public long is.bytes)

evidence_taken : (a b c : ℕ) (key left right : List ℕ) → (a == 45) ≡ false → (b == 45) ≡ false → (c == 45) ≡ false
    → Takes evidence_app ((a ∷ key) ∷ (b ∷ left) ∷ (c ∷ right) ∷ [])
unfolding walk_fault walked flags_fault defaults_fault
evidence_taken a b c key left right first second third = simp (first, second, third)

evidence_key : (a b c : ℕ) (key left right : List ℕ) → (a == 45) ≡ false → (b == 45) ≡ false → (c == 45) ≡ false
    → value_of evidence_app (codes "key") ((a ∷ key) ∷ (b ∷ left) ∷ (c ∷ right) ∷ []) ≡ Some (a ∷ key)
unfolding walked
evidence_key a b c key left right first second third = simp (first, second, third)

evidence_left : (a b c : ℕ) (key left right : List ℕ) → (a == 45) ≡ false → (b == 45) ≡ false → (c == 45) ≡ false
    → value_of evidence_app (codes "left") ((a ∷ key) ∷ (b ∷ left) ∷ (c ∷ right) ∷ []) ≡ Some (b ∷ left)
unfolding walked
evidence_left a b c key left right first second third = simp (first, second, third)

evidence_right : (a b c : ℕ) (key left right : List ℕ) → (a == 45) ≡ false → (b == 45) ≡ false → (c == 45) ≡ false
    → value_of evidence_app (codes "right") ((a ∷ key) ∷ (b ∷ left) ∷ (c ∷ right) ∷ []) ≡ Some (c ∷ right)
unfolding walked
evidence_right a b c key left right first second third = simp (first, second, third)

evidence_begun : (public left right key first second : List ℕ) (a b c : ℕ) → (a == 45) ≡ false → (b == 45) ≡ false → (c == 45) ≡ false
    → encode_lower public ≡ a ∷ key → encode_lower left ≡ b ∷ first → encode_lower right ≡ c ∷ second → IsPublic public → IsId left → IsId right
    → AsksDossier public left right ((a ∷ key) ∷ (b ∷ first) ∷ (c ∷ second) ∷ [])
evidence_begun public left right key first second a b c no_a no_b no_c is_key is_first is_second is_public is_left is_right = record {
  takes = evidence_taken a b c key first second no_a no_b no_c;
  key = record { is = evidence_key a b c key first second no_a no_b no_c ∙ sym (ap (λ (t : List ℕ). Some t) is_key); is_public = is_public };
  at_left = record { is = evidence_left a b c key first second no_a no_b no_c ∙ sym (ap (λ (t : List ℕ). Some t) is_first); is_id = is_left };
  at_right = record { is = evidence_right a b c key first second no_a no_b no_c ∙ sym (ap (λ (t : List ℕ). Some t) is_second); is_id = is_right };
}

pub evidence_asks : (public left right : List ℕ) → IsPublic public → IsId left → IsId right
    → AsksDossier public left right (encode_lower public ∷ encode_lower left ∷ encode_lower right ∷ [])
evidence_asks public left right is_public is_left is_right =
    let key = key_begins public is_public in
    let first = of_id left is_left in
    let second = of_id right is_right in
    subst (λ (text : List ℕ). AsksDossier public left right (text ∷ encode_lower left ∷ encode_lower right ∷ [])) (sym key.is)
    (subst (λ (text : List ℕ). AsksDossier public left right ((key.first ∷ key.rest) ∷ text ∷ encode_lower right ∷ [])) (sym first.is)
    (subst (λ (text : List ℕ). AsksDossier public left right ((key.first ∷ key.rest) ∷ (first.first ∷ first.rest) ∷ text ∷ [])) (sym second.is)
    (evidence_begun public left right key.rest first.rest second.rest key.first first.first second.first key.no_dash first.no_dash second.no_dash
    key.is first.is second.is is_public is_left is_right)))

-- ---- demo <count>
pub of_number : (text : List ℕ) → 48 < get_or text 0 0 → Begins text
of_number [] above = absurd (omega (arith, above))
of_number (d ∷ rest) above = record { first = d; rest = rest; is = refl; no_dash = ne_eqb d 45 (λ same. omega (arith, above, same)) }

demo_taken : (d : ℕ) (rest : List ℕ) → (d == 45) ≡ false → Takes demo_app ((d ∷ rest) ∷ [])
unfolding walk_fault walked flags_fault defaults_fault
demo_taken d rest other = simp other

demo_given : (d : ℕ) (rest : List ℕ) → (d == 45) ≡ false → value_of demo_app (codes "count") ((d ∷ rest) ∷ []) ≡ Some (d ∷ rest)
unfolding walked
demo_given d rest other = simp other

demo_begun : (d : ℕ) (rest : List ℕ) (count : ℕ) → (d == 45) ≡ false → IsCount 500 (d ∷ rest) count → AsksDemo count ((d ∷ rest) ∷ [])
demo_begun d rest count other is = record {
  takes = demo_taken d rest other;
  counts = subst (λ (given : Option (List ℕ)). IsSomeAnd given (λ text. IsCount 500 text count)) (sym (demo_given d rest other)) is;
}

pub demo_asks : (count : ℕ) → 1 ≤ count → count ≤ 500 → AsksDemo count (decimal count ∷ [])
demo_asks count some few =
    let begins = of_number (decimal count) (first_decimal count (omega (arith, some)) (omega (arith, few))) in
    subst (λ (text : List ℕ). IsCount 500 text count → AsksDemo count (text ∷ [])) (sym begins.is)
    (demo_begun begins.first begins.rest count begins.no_dash) (record { some = some; few = few; written = refl })
