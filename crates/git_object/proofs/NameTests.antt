-- Reference names by a test.
use Rattle.std.proofs.Common.{◌≡◌, ℕ, Bool, true, false, not, ◌&&◌, List, length, codes, lit≤, refl, ap}
use Rattle.std.specs.Prelude.{nat_le}
use Rattle.std.specs.Bool.{nat_eq}
use Rattle.std.specs.Cmp.Derive.{both_true}
use Rattle.std.specs.List.{list_all, starts_with, ends_with}
use Rattle.std.specs.Str.{is_utf8}
use Rattle.std.proofs.Math.Utf8.{encode}
use Rattle.std.proofs.lemmas.Bool.{false≢true, leb-true, le-leb}
use Rattle.std.proofs.lemmas.Str.{IsUtf8-from_is_utf8, is_utf8-from_IsUtf8}
use Rattle.git_object.specs.Names.{IsRefName, components, has_pair, is_component, is_plain, is_ref_name, log_name}

nine : (a b c d e f g h i : Bool) → (a && b && c && d && e && f && not g && not h && not i) ≡ true
    → (a ≡ true) × (b ≡ true) × (c ≡ true) × (d ≡ true) × (e ≡ true) × (f ≡ true) × (g ≡ false) × (h ≡ false) × (i ≡ false)
nine true true true true true true false false false is = (refl, refl, refl, refl, refl, refl, refl, refl, refl)
nine true true true true true true false false true never = absurd (false≢true never)
nine true true true true true true false true i never = absurd (false≢true never)
nine true true true true true true true h i never = absurd (false≢true never)
nine true true true true true false g h i never = absurd (false≢true never)
nine true true true true false f g h i never = absurd (false≢true never)
nine true true true false e f g h i never = absurd (false≢true never)
nine true true false d e f g h i never = absurd (false≢true never)
nine true false c d e f g h i never = absurd (false≢true never)
nine false b c d e f g h i never = absurd (false≢true never)

-- a text that passes the test is a name
pub name_from_test : (text : List ℕ) → is_ref_name text ≡ true → IsRefName text
name_from_test text test =
    let parts = nine (starts_with nat_eq text (codes "refs/")) (is_utf8 text) (nat_le (length text) 255) (nat_le (length (components text)) 16)
    (list_all is_component (components text)) (list_all is_plain text) (has_pair 46 46 text) (has_pair 64 123 text) (ends_with nat_eq text (codes ".")) test in
    record {
      begins = parts.0;
      utf8 = IsUtf8-from_is_utf8 text parts.1;
      short = leb-true (length text) 255 parts.2;
      few = leb-true (length (components text)) 16 parts.3;
      whole = parts.4;
      plain = parts.5;
      no_dots = parts.6;
      no_at = parts.7;
      no_dot_last = parts.8;
    }

-- a name passes the test
pub test_from_name : (text : List ℕ) → IsRefName text → is_ref_name text ≡ true
test_from_name text is =
    let one = both_true (both_true is.begins (is_utf8-from_IsUtf8 text is.utf8)) (le-leb (length text) 255 is.short) in
    let two = both_true (both_true (both_true one (le-leb (length (components text)) 16 is.few)) is.whole) is.plain in
    both_true (both_true (both_true two (ap not is.no_dots)) (ap not is.no_at)) (ap not is.no_dot_last)

-- the log's reference has a name
pub log_is_named : IsRefName log_name
unfolding encode
log_is_named = record {
  begins = refl;
  utf8 = (log_name, (refl, refl));
  short = lit≤ tt;
  few = lit≤ tt;
  whole = refl;
  plain = refl;
  no_dots = refl;
  no_at = refl;
  no_dot_last = refl;
}
