-- The line of an entry in front of a text.
use Rattle.std.proofs.Common.{◌≡◌, ◌≢◌, ℕ, Bool, true, false, cond, List, [], ◌∷◌, ◌++◌, Option, Some, None, refl, sym, ap, subst, ◌∙◌, append_assoc}
use Rattle.std.specs.Prelude.{codes, Ok, Err}
use Rattle.std.specs.List.{find}
use Rattle.std.specs.Option.{option_and_then}
use Rattle.std.specs.Result.{result_ok}
use Rattle.std.proofs.lemmas.Slice.Eq.{bytes_eq-Decides}
use Rattle.hex.specs.Hex.{encode_lower}
use Rattle.text_reader.proofs.Unique.{same_front}
use Rattle.git_object.specs.Ids.{IsId}
use Rattle.git_object.specs.Objects.{Pair, pair_id}
use Rattle.git_object.specs.declared.kinds.Kind.{Kind}
use Rattle.git_object.specs.declared.kinds.Kind.TheVariants.{Blob, Tree, Commit, Tag}
use Rattle.git_object.proofs.LineLemmas.{same_id}
use Rattle.rsl_chain.specs.declared.entries.Entry.{Entry}
use Rattle.rsl_chain.specs.Logs.{entry_of_pair}
use Rattle.rsl_chain.specs.Reading.{Reading, entry_as, entry_from, reading}
use Rattle.pushes.specs.Pushes.{entry_in, entry_line, entry_of_object, has_own_id, object_in}
use Rattle.pushes.specs.Refusals.{HasEntry}

pub entry_then : (id more : List ℕ) → entry_line id ++ more ≡ codes "entry " ++ (encode_lower id ++ more)
unfolding entry_line
entry_then id more = append_assoc (codes "entry ") (encode_lower id) more

pub one_entry_line : (a b x y : List ℕ) → IsId a → IsId b → entry_line a ++ x ≡ entry_line b ++ y → (a ≡ b) × (x ≡ y)
one_entry_line a b x y ia ib e =
    same_id a b x y ia ib (same_front (codes "entry ") (encode_lower a ++ x) (encode_lower b ++ y) (sym (entry_then a x) ∙ e ∙ entry_then b y))

pub after_feed : (x y : List ℕ) → 10 ∷ x ≡ 10 ∷ y → x ≡ y
after_feed x y e = cc

-- another line stands there
pub no_feed_after : (text words id rest : List ℕ) → text ≡ codes "entry " ++ words → words ≡ encode_lower id ++ rest → IsId id
    → ((after : List ℕ) → rest ≢ 10 ∷ after)
    → (i more : List ℕ) → IsId i → text ≢ entry_line i ++ 10 ∷ more
no_feed_after text words id rest first second is none i more ii same =
    let both = same_id id i rest (10 ∷ more) is ii (sym second
    ∙ same_front (codes "entry ") words (encode_lower i ++ 10 ∷ more) (sym first ∙ same ∙ entry_then i (10 ∷ more))) in
    none more both.1

-- the object of the line's id is no entry
pub no_entry : (objects : List Pair) (text id rest : List ℕ) → text ≡ entry_line id ++ 10 ∷ rest → IsId id → entry_in objects id ≡ None
    → (entry : Entry) (more : List ℕ) → HasEntry objects text entry more → ⊥
no_entry objects text id rest whole is none entry more has =
    let both = one_entry_line id entry.id (10 ∷ rest) (10 ∷ more) is has.id (sym whole ∙ has.whole) in
    let there : Some entry ≡ None = sym has.entry_is ∙ ap (entry_in objects) (sym both.0) ∙ none in
    absurd (cc there)

-- ---- the entry that an object is

found_passes : {A : Type 0} (p : A → Bool) (xs : List A) (y : A) → find p xs ≡ Some y → p y ≡ true
found_passes p [] y e = absurd (cc e)
found_passes p (x ∷ xs) y e = by_test (p x) refl e (found_passes p xs y)
  where
    by_test : (b : Bool) → p x ≡ b → cond b (Some x) (find p xs) ≡ Some y → (find p xs ≡ Some y → p y ≡ true) → p y ≡ true
    by_test true is e more = let same : x ≡ y = cc in ap p (sym same) ∙ is
    by_test false is e more = more e

-- an object in a list has the id by which it is found
pub has_id : (objects : List Pair) (id : List ℕ) (pair : Pair) → object_in objects id ≡ Some pair → pair_id pair ≡ id
has_id objects id pair e = (bytes_eq-Decides (pair_id pair) id).0 (found_passes (has_own_id id) objects pair e)

as_id : (id : List ℕ) (read : Reading) (entry : Entry) → result_ok (entry_as id read) ≡ Some entry → entry.id ≡ id
as_id id (Ok read) entry e = let same : entry_from id read ≡ entry = cc in sym (ap (λ (x : Entry). x.id) same)
as_id id (Err n) entry e = absurd (cc e)

pub pair_entry_id : (id : List ℕ) (kind : Kind) (body : List ℕ) (entry : Entry) → entry_of_pair id kind body ≡ Some entry → entry.id ≡ id
pair_entry_id id Commit body entry e = as_id id (reading body) entry e
pair_entry_id id Blob body entry e = absurd (cc e)
pair_entry_id id Tree body entry e = absurd (cc e)
pair_entry_id id Tag body entry e = absurd (cc e)

then_entry : (objects : List Pair) (id : List ℕ) (found : Option Pair) (entry : Entry) → object_in objects id ≡ found
    → option_and_then entry_of_object found ≡ Some entry → entry.id ≡ id
then_entry objects id None entry is e = absurd (cc e)
then_entry objects id (Some pair) entry is e = pair_entry_id (pair_id pair) pair.kind pair.body entry e ∙ has_id objects id pair is

-- the entry of an id has it
pub entry_id : (objects : List Pair) (id : List ℕ) (entry : Entry) → entry_in objects id ≡ Some entry → entry.id ≡ id
entry_id objects id entry e = then_entry objects id (object_in objects id) entry refl e

pub entry_here : (objects : List Pair) (text id rest : List ℕ) (entry : Entry) → text ≡ entry_line id ++ 10 ∷ rest → IsId id
    → entry_in objects id ≡ Some entry → HasEntry objects text entry rest
entry_here objects text id rest entry whole is e =
    let same = entry_id objects id entry e in
    record {
      id = subst IsId (sym same) is;
      whole = whole ∙ ap (λ (i : List ℕ). entry_line i ++ 10 ∷ rest) (sym same);
      entry_is = ap (entry_in objects) same
          ∙ e;
    }
