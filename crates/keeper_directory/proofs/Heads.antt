-- The heads of objects' files, piece by piece, and that what stands in front is the only head that could.
use Rattle.std.proofs.Common.{◌≡◌, ℕ, ◌+◌, ◌%◌, ◌<◌, ◌≤◌, ◌^◌, ◌==◌, Bool, false, ◌||◌, List, [], ◌∷◌, ◌++◌, length, slice_index, refl, sym, ap, ◌∙◌, append_assoc, arith}
use Rattle.std.specs.Prelude.{decimal, if◌then◌else◌, nat_eq}
use Rattle.std.proofs.lemmas.Bool.{ne_eqb}
use Rattle.std.proofs.lemmas.Fmt.{decimal_by_steps, decimal_injective, length-decimal-le}
use Rattle.std.proofs.lemmas.List.{length-append}
use Rattle.text_reader.specs.Line.{has_byte}
use Rattle.text_reader.proofs.Unique.{no_byte, same_until}
use Rattle.git_object.specs.Objects.{kind_name, object_text}
use Rattle.git_object.specs.declared.kinds.Kind.{Kind}
use Rattle.git_object.specs.declared.kinds.Kind.TheVariants.{Blob, Tree, Commit, Tag}
use Rattle.keeper_directory.specs.Files.{object_head}

one_digit : (d : ℕ) → has_byte 0 ((48 + d) ∷ []) ≡ false
one_digit d = let other : (48 + d == 0) ≡ false = ne_eqb (48 + d) 0 (λ e. omega arith) in ap (λ (t : Bool). t || false) other

-- no zero byte stands in a decimal number
pub decimal_word : (n : ℕ) → n < 2 ^ 64 → has_byte 0 (decimal n) ≡ false
decimal_word n fits =
    decimal_by_steps (λ m digits. has_byte 0 digits ≡ false) (λ m h. one_digit m)
    (λ m digits h before. no_byte 0 digits ((48 + m % 10) ∷ []) before (one_digit (m % 10))) n fits

pub head_then : (kind : Kind) (size : ℕ) (rest : List ℕ) → object_head kind size ++ rest ≡ kind_name kind ++ 32 ∷ (decimal size ++ 0 ∷ rest)
head_then kind size rest =
    append_assoc (kind_name kind) (32 ∷ (decimal size ++ 0 ∷ [])) rest
    ∙ ap (λ (r : List ℕ). kind_name kind ++ 32 ∷ r) (append_assoc (decimal size) (0 ∷ []) rest)

-- an object's file is a head and its body
pub text_is : (kind : Kind) (body : List ℕ) → object_text kind body ≡ object_head kind (length body) ++ body
text_is kind body =
    ap (λ (t : List ℕ). t ++ body) (append_assoc (kind_name kind ++ 32 ∷ []) (decimal (length body)) (0 ∷ [])
    ∙ append_assoc (kind_name kind) (32 ∷ []) (decimal (length body) ++ 0 ∷ []))

-- the kind of a word's second letter
kind_of : ℕ → Kind
kind_of c = if nat_eq c 108 then Blob else if nat_eq c 114 then Tree else if nat_eq c 111 then Commit else Tag

named : (kind : Kind) → kind_of (slice_index (kind_name kind) 1) ≡ kind
unfolding kind_of
named Blob = refl
named Tree = refl
named Commit = refl
named Tag = refl

same_name : (k l : Kind) → kind_name k ≡ kind_name l → k ≡ l
same_name k l e = sym (named k) ∙ ap (λ (word : List ℕ). kind_of (slice_index word 1)) e ∙ named l

kind_has_no_space : (kind : Kind) → has_byte 32 (kind_name kind) ≡ false
kind_has_no_space Blob = refl
kind_has_no_space Tree = refl
kind_has_no_space Commit = refl
kind_has_no_space Tag = refl

kind_is_short : (kind : Kind) → length (kind_name kind) ≤ 6
kind_is_short Blob = omega arith
kind_is_short Tree = omega arith
kind_is_short Commit = omega arith
kind_is_short Tag = omega arith

pub head_is_short : (kind : Kind) (size : ℕ) → size < 2 ^ 64 → length (object_head kind size) ≤ 28
head_is_short kind size fits =
    let word = kind_is_short kind in
    let digits = length-decimal-le 20 size (omega arith) (omega arith) fits in
    omega (arith, length-append (kind_name kind) (32 ∷ (decimal size ++ 0 ∷ [])), length-append (decimal size) (0 ∷ []))

-- kind, size and what follows, of one text
pub record SameHead (k l : Kind) (m n : ℕ) (x y : List ℕ) : Type 0 where
  pub kind : k ≡ l
  pub size : m ≡ n
  pub rest : x ≡ y

pub same_head : (k l : Kind) (m n : ℕ) (x y : List ℕ) → m < 2 ^ 64 → n < 2 ^ 64 → object_head k m ++ x ≡ object_head l n ++ y → SameHead k l m n x y
same_head k l m n x y sm sn e =
    let words = same_until 32 (kind_name k) (kind_name l) (decimal m ++ 0 ∷ x) (decimal n ++ 0 ∷ y) (kind_has_no_space k) (kind_has_no_space l) (sym (head_then k m x) ∙ e ∙ head_then l n y) in
    let sizes = same_until 0 (decimal m) (decimal n) x y (decimal_word m sm) (decimal_word n sn) words.1 in
    record { kind = same_name k l words.0; size = decimal_injective m n sm sn sizes.0; rest = sizes.1 }
