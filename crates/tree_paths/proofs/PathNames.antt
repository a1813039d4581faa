-- The names of a path, and what stands at it by its first name.
use Rattle.std.proofs.Common.{◌≡◌, ◌≢◌, ℕ, ◌+◌, ◌≤◌, ◌==◌, Bool, true, false, ◌||◌, List, [], ◌∷◌, ◌++◌, length, Option, Some, None, refl, sym, ap, ◌∙◌, arith, add-one}
use Rattle.std.specs.Prelude.{All, option_and_then, if◌then◌else◌}
use Rattle.std.proofs.lemmas.Bool.{true≢false}
use Rattle.std.proofs.lemmas.List.Elements.{All-cons, All-nil}
use Rattle.std.proofs.lemmas.List.Splits.{length-slice_split, slice_split_at, slice_split_none}
use Rattle.text_reader.specs.Line.{has_byte}
use Rattle.git_object.specs.Names.{components}
use Rattle.tree_paths.specs.Lookups.{entry_at, from_dir, value_named}
use Rattle.tree_paths.specs.Readings.{Trees}
use Rattle.tree_paths.specs.States.{PathValue}
use Rattle.tree_paths.specs.Walks.{is_dir}

or_false : (a b : Bool) → (a || b) ≡ false → (a ≡ false) × (b ≡ false)
or_false true b e = absurd (true≢false e)
or_false false b e = (refl, e)

no_slashes : (text : List ℕ) → has_byte 47 text ≡ false → All (λ b. (b == 47) ≡ false) text
no_slashes [] plain = All-nil _
no_slashes (c ∷ text) plain =
    let parts = or_false (c == 47) (has_byte 47 text) plain in
    All-cons (λ b. (b == 47) ≡ false) c text parts.0 (no_slashes text parts.1)

pub plain_parts : (text : List ℕ) → has_byte 47 text ≡ false → components text ≡ text ∷ []
plain_parts text plain = slice_split_none (λ b. b == 47) text (no_slashes text plain)

pub cut_parts : (name rest : List ℕ) → has_byte 47 name ≡ false → components (name ++ 47 ∷ rest) ≡ name ∷ components rest
cut_parts name rest plain = slice_split_at (λ b. b == 47) name 47 rest (no_slashes name plain) refl

pub some_parts : (text : List ℕ) → components text ≢ []
some_parts text none = let e = length-slice_split (λ b. b == 47) text in let z : length (components text) ≡ 0 = ap length none in omega arith

pub one_part : (text : List ℕ) → 1 ≤ length (components text)
one_part text = let e = length-slice_split (λ b. b == 47) text in omega arith

pub one_more_part : (path name rest : List ℕ) → path ≡ name ++ 47 ∷ rest → has_byte 47 name ≡ false → length (components path) ≡ length (components rest) + 1
one_more_part path name rest whole plain = ap length (ap components whole ∙ cut_parts name rest plain) ∙ sym (add-one (length (components rest)))

pub entry_next : (trees : Trees) (name : List ℕ) (names : List (List ℕ)) (tree : List ℕ) → names ≢ []
    → entry_at trees (name ∷ names) tree ≡ option_and_then (from_dir (entry_at trees names)) (value_named trees tree name)
entry_next trees name [] tree some = absurd (some refl)
entry_next trees name (next ∷ names) tree some = refl

module _ (trees : Trees) (tree path : List ℕ) where
  pub at_last : (found : Option PathValue) → has_byte 47 path ≡ false → found ≡ value_named trees tree path → found ≡ entry_at trees (components path) tree
  at_last found plain is = is ∙ sym (ap (λ (names : List (List ℕ)). entry_at trees names tree) (plain_parts path plain))

  module _ (name rest : List ℕ) (whole : path ≡ name ++ 47 ∷ rest) (plain : has_byte 47 name ≡ false) where
    parts : components path ≡ name ∷ components rest
    parts = ap components whole ∙ cut_parts name rest plain

    split_entry : entry_at trees (components path) tree ≡ option_and_then (from_dir (entry_at trees (components rest))) (value_named trees tree name)
    split_entry = ap (λ (names : List (List ℕ)). entry_at trees names tree) parts ∙ entry_next trees name (components rest) tree (some_parts rest)

    pub at_none : None ≡ value_named trees tree name → None ≡ entry_at trees (components path) tree
    at_none is = ap (option_and_then (from_dir (entry_at trees (components rest)))) is ∙ sym split_entry

    pub at_other : (value : PathValue) → Some value ≡ value_named trees tree name → is_dir value.0 ≡ false → None ≡ entry_at trees (components path) tree
    at_other value is other =
        ap (λ (b : Bool). if b then entry_at trees (components rest) value.1 else None) (sym other) ∙ ap (option_and_then (from_dir (entry_at trees (components rest)))) is ∙ sym split_entry

    pub at_next : (value : PathValue) (found : Option PathValue) → Some value ≡ value_named trees tree name → is_dir value.0 ≡ true → found ≡ entry_at trees (components rest) value.1
        → found ≡ entry_at trees (components path) tree
    at_next value found is dir below =
        below ∙ ap (λ (b : Bool). if b then entry_at trees (components rest) value.1 else None) (sym dir)
        ∙ ap (option_and_then (from_dir (entry_at trees (components rest)))) is ∙ sym split_entry
