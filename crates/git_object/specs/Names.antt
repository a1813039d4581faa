-- Reference names: git-check-ref-format's rules, with this project's own bounds.
use Rattle.std.specs.Prelude.{◌≡◌, ◌≤◌, ◌↔◌, ◌++◌, ◌==◌, ◌&&◌, ◌||◌, ℕ}
use Rattle.std.specs.Prelude.{Bool, false, not, List, [], ◌∷◌, length, codes}
use Rattle.std.specs.Prelude.{IsTrue, nat_le}
use Rattle.std.specs.Bool.{nat_eq}
use Rattle.std.specs.List.{AllByRecursion, join_with_byte, slice_split, list_all, starts_with, ends_with}
use Rattle.std.specs.Str.{IsUtf8, is_utf8}
use Rattle.text_reader.specs.Line.{has_byte}

-- the parts between slashes
abbrev pub components : List ℕ → List (List ℕ)
components text = slice_split (λ b. b == 47) text

-- not empty, no dot in front, and no `.lock` at the end
abbrev pub is_component : List ℕ → Bool
is_component part =
    not (length part == 0) && not (starts_with nat_eq part (codes ".")) && not (ends_with nat_eq part (codes ".lock"))

-- one of `~ ^ : ? * [ \`
abbrev pub is_special : ℕ → Bool
is_special b = b == 126 || b == 94 || b == 58 || b == 63 || b == 42 || b == 91 || b == 92

-- a byte that may stand in a name: no control byte, no space, none of the special ones
abbrev pub is_plain : ℕ → Bool
is_plain b = nat_le 33 b && not (b == 127) && not (is_special b)

-- somewhere x stands right before y
abbrev pub has_pair : ℕ → ℕ → List ℕ → Bool
has_pair x y [] = false
has_pair x y (b ∷ []) = false
has_pair x y (b ∷ c ∷ bs) = (b == x && c == y) || has_pair x y (c ∷ bs)

-- a reference name
pub record IsRefName (text : List ℕ) : Type 0 where
  pub begins : IsTrue (starts_with nat_eq text (codes "refs/"))
  pub utf8 : IsUtf8 text
  pub short : length text ≤ 255
  pub few : length (components text) ≤ 16
  pub whole : IsTrue (list_all is_component (components text))
  pub plain : IsTrue (list_all is_plain text)
  pub no_dots : has_pair 46 46 text ≡ false
  pub no_at : has_pair 64 123 text ≡ false
  pub no_dot_last : ends_with nat_eq text (codes ".") ≡ false

-- whether a text is a reference name
abbrev pub is_ref_name : List ℕ → Bool
is_ref_name text =
    starts_with nat_eq text (codes "refs/") && is_utf8 text && nat_le (length text) 255
    && nat_le (length (components text)) 16
    && list_all is_component (components text) && list_all is_plain text
    && not (has_pair 46 46 text) && not (has_pair 64 123 text) && not (ends_with nat_eq text (codes "."))

-- what the words of this grammar say to a reader: the components are what is joined by slashes, and hold none; and
-- two bytes stand together where there is something before them and something behind
pub record NamesAloud : Type 0 where
  pub joined : (text : List ℕ) → join_with_byte 47 (components text) ≡ text
  pub no_slash : (text : List ℕ) → AllByRecursion (λ part. has_byte 47 part ≡ false) (components text)
  pub pairs : (x y : ℕ) (text : List ℕ)
      → IsTrue (has_pair x y text) ↔ ((front : List ℕ) × (rest : List ℕ) × (text ≡ front ++ x ∷ y ∷ rest))

-- the reference that the reference state log's tip stands at
abbrev pub log_name : List ℕ
log_name = codes "refs/gittuf/reference-state-log"
