-- Objects that stand in front of a text, one after the other.
use Rattle.std.proofs.Common.{◌≡◌, ℕ, ◌<◌, List, [], ◌∷◌, ◌++◌, length, map, refl, sym, ap, subst, ◌∙◌, append_assoc, arith, length-append}
use Rattle.std.specs.List.{AllByRecursion, flat_map}
use Rattle.git_object.specs.Objects.{Pair, pair_id}
use Rattle.git_object.proofs.Runs.{all_push, flat_push}
use Rattle.clone_stream.specs.Reading.{ComesAfter, last_of}
use Rattle.std.specs.Prelude.{decimal}
use Rattle.clone_stream.specs.Streams.{IsOwn, object_line, object_record}
use Rattle.clone_stream.proofs.Growing.{ids_are_keys}
use Rattle.clone_stream.proofs.Lasts.{sorted_push}
use Rattle.pushes.specs.Pushes.{AreOwn, own_record}
use Rattle.pushes.specs.Fronts.{EndsObjects, HasHuge, HasHugeNext, IsFront, IsObjects, keys}

map_push : {A B : Type 0} (f : A → B) (xs : List A) (x : A) → map f (xs ++ x ∷ []) ≡ map f xs ++ f x ∷ []
map_push f [] x = refl
map_push f (y ∷ xs) x = ap (λ rest. f y ∷ rest) (map_push f xs x)

abbrev pub SoFar : List ℕ → List Pair → List ℕ → Type 0
SoFar text objects rest = (es : List (List ℕ × Pair)) × IsFront text es objects rest

pub at_first : (text : List ℕ) (objects : List Pair) → objects ≡ [] → SoFar text objects text
at_first text objects none =
    ([], record { own = record { are = record { own = tt; ids_rise = refl; are_refs = tt; names_rise = refl }; objects_are = none }; front = refl })

-- the ids of the objects are the keys
pub their_keys : (es : List (List ℕ × Pair)) (objects : List Pair) → AreOwn es objects → map pair_id objects ≡ keys es
their_keys es objects own = ap (map pair_id) own.objects_are ∙ ids_are_keys es own.are.own

pub one_more : (text : List ℕ) (objects : List Pair) (rest : List ℕ) (object : Pair) (more : List ℕ) → SoFar text objects rest
    → rest ≡ own_record object ++ more
    → IsOwn (pair_id object, object) → ComesAfter (last_of (map pair_id objects)) (pair_id object) → SoFar text (objects ++ object ∷ []) more
one_more text objects rest object more (es, f) next own comes =
    let e : List ℕ × Pair = (pair_id object, object) in
    let after : ComesAfter (last_of (keys es)) (pair_id object) = subst (λ ks. ComesAfter (last_of ks) (pair_id object)) (their_keys es objects f.own) comes
    in (
      es ++ e ∷ [],
      record {
        own = record {
          are = record {
            own = all_push IsOwn es e f.own.are.own own;
            ids_rise = sorted_push es (pair_id object) object f.own.are.ids_rise after;
            are_refs =
                tt;
            names_rise = refl;
          };
          objects_are = ap (λ (xs : List Pair). xs ++ object ∷ []) f.own.objects_are ∙ sym (map_push (λ (d : List ℕ × Pair). d.1) es e);
        };
        front = f.front ∙ ap (λ t. flat_map object_record es ++ t) next ∙ sym (append_assoc (flat_map object_record es) (object_record e) more)
            ∙ ap (λ t. t ++ more) (sym (flat_push object_record es e));
      },
    )

pub all_objects : (text : List ℕ) (objects : List Pair) (rest : List ℕ) → SoFar text objects rest → EndsObjects (last_of (map pair_id objects)) rest
    → IsObjects text objects rest
all_objects text objects rest (es, f) ends =
    record { es = es; front = f; ends = subst (λ ks. EndsObjects (last_of ks) rest) (their_keys es objects f.own) ends }

pub too_large : (text : List ℕ) (objects : List Pair) (rest : List ℕ) (told : ℕ) → SoFar text objects rest → HasHuge rest told → HasHugeNext text told
too_large text objects rest told (es, f) huge = record { es = es; objects = objects; rest = rest; front = f; huge = huge }

pub shorter : (rest more : List ℕ) (object : Pair) → rest ≡ own_record object ++ more → length more < length rest
shorter rest more object e =
    let a = ap length e in
    let b = length-append (own_record object) more in
    let c = some_record object in
    omega arith
  where
    some_record : (o : Pair) → 0 < length (own_record o)
    some_record o = let d = length-append (object_line (pair_id o) o.kind (decimal (length o.body))) (10 ∷ (o.body ++ 10 ∷ [])) in omega arith

-- the records of objects under their own ids
pub own_records : (es : List (List ℕ × Pair)) → AllByRecursion IsOwn es → flat_map own_record (map (λ (e : List ℕ × Pair). e.1) es) ≡ flat_map object_record es
own_records [] own = refl
own_records (e ∷ es) own = λ i. object_record (own.0.is.own i, e.1) ++ own_records es own.1 i
