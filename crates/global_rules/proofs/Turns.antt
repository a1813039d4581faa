-- A walk turn by turn, and what it is at its end.
use Rattle.std.proofs.Common.{◌≡◌, ◌≤◌, ◌+◌, ◌++◌, ◌||◌, ℕ, suc, zero, Bool, true, false, cond, List, [], ◌∷◌, length, take, Option, Some, None, refl, sym, ap, ◌∙◌, arith}
use Rattle.std.specs.Prelude.{is_some, slice_get}
use Rattle.std.specs.Str.{bytes_eq}
use Rattle.std.proofs.lemmas.List.{append_assoc, append-nil, length_push}
use Rattle.std.proofs.lemmas.List.Elements.{filter-append}
use Rattle.std.proofs.lemmas.List.Folds.{list_any-append}
use Rattle.global_rules.specs.Order.{Parents, after_turn, ancestors, commits, has_id, is_commit, met, parent_lines, parents_or_none, with_new}
use Rattle.global_rules.proofs.Order.{Front, met_first, met_suc, new_few, new_front}

-- ids in which one of them is first found behind a front
head_of : (front rest : List (List ℕ)) (id : List ℕ) → slice_get (front ++ rest) (length front) ≡ Some id → (more : List (List ℕ)) × (rest ≡ id ∷ more)
head_of [] [] id e = absurd (cc e)
head_of [] (x ∷ xs) id e = let same : x ≡ id = cc e in (xs, ap (λ (y : List ℕ). y ∷ xs) same)
head_of (x ∷ front) rest id e = head_of front rest id e

-- an id that is found stays found behind more ids
pub has_more : (xs ys : List (List ℕ)) (id : List ℕ) → has_id xs id ≡ true → has_id (xs ++ ys) id ≡ true
has_more xs ys id has = list_any-append (λ x. bytes_eq x id) xs ys ∙ ap (λ (b : Bool). b || has_id ys id) has

-- a front of a list has a front of its front
pub take_front : (n : ℕ) (xs ys : List (List ℕ)) → Front (take n xs) (take n (xs ++ ys))
take_front zero xs ys = ([], refl)
take_front (suc n) [] ys = (take (suc n) ys, refl)
take_front (suc n) (x ∷ xs) ys = let more = take_front n xs ys in (more.0, ap (λ (zs : List (List ℕ)). x ∷ zs) more.1)

module _ (parents : Parents) where
  lines_append : (xs ys : List (List ℕ)) → parent_lines parents (xs ++ ys) ≡ parent_lines parents xs + parent_lines parents ys
  lines_append [] ys = omega arith
  lines_append (x ∷ xs) ys = let rest = lines_append xs ys in omega (arith, rest)

  no_more : (front : List (List ℕ)) (id : List ℕ) → parents id ≡ None → commits parents (front ++ id ∷ []) ≡ commits parents front
  no_more front id none =
      filter-append (is_commit parents) front (id ∷ [])
      ∙ ap (λ (o : Option (List (List ℕ))). commits parents front ++ cond (is_some o) (id ∷ []) []) none
      ∙ append-nil (commits parents front)

  one_more : (front more : List (List ℕ)) (id : List ℕ) (ids : List (List ℕ)) → parents id ≡ Some ids
      → commits parents (front ++ id ∷ more) ≡ commits parents front ++ id ∷ commits parents more
  one_more front more id ids some =
      filter-append (is_commit parents) front (id ∷ more)
      ∙ ap (λ (o : Option (List (List ℕ))). commits parents front ++ cond (is_some o) (id ∷ commits parents more) (commits parents more)) some

module _ (parents : Parents) (root from : List ℕ) where
  -- so many ids had their turn: those of the front, of which so many are commits and none is the one that is looked for
  pub record IsAtTurn (at : ℕ) (ids : List (List ℕ)) (count : ℕ) : Type 0 where
    pub front : List (List ℕ)
    pub rest : List (List ℕ)
    pub parts : ids ≡ front ++ rest
    pub at_is : length front ≡ at
    pub met_is : ids ≡ met parents root at
    pub count_is : count ≡ length (commits parents front)
    pub none : has_id (commits parents front) from ≡ false
    pub named : length ids ≤ 1 + parent_lines parents front

  pub starts : IsAtTurn 0 (root ∷ []) 0
  starts = record {
    front = [];
    rest = root ∷ [];
    parts = refl;
    at_is = refl;
    met_is = sym (met_first parents root);
    count_is = refl;
    none = refl;
    named = omega arith;
  }

  module _ (at : ℕ) (ids : List (List ℕ)) (count : ℕ) (walk : IsAtTurn at ids count) where
    -- the id of the next turn stands behind the front
    next_of : (id : List ℕ) → slice_get ids at ≡ Some id → (more : List (List ℕ)) × (walk.rest ≡ id ∷ more)
    next_of id here =
        head_of walk.front walk.rest id
        (ap (slice_get (walk.front ++ walk.rest)) walk.at_is ∙ ap (λ (xs : List (List ℕ)). slice_get xs at) (sym walk.parts) ∙ here)

    parts_next : (id : List ℕ) (more : List (List ℕ)) → walk.rest ≡ id ∷ more → ids ≡ walk.front ++ id ∷ more
    parts_next id more is = walk.parts ∙ ap (λ (xs : List (List ℕ)). walk.front ++ xs) is

    turned : (id : List ℕ) → slice_get ids at ≡ Some id → met parents root (at + 1) ≡ with_new ids (parents_or_none (parents id))
    turned id here =
        ap (met parents root) (let e : at + 1 ≡ suc at = omega arith in e) ∙ met_suc parents root at
        ∙ ap (λ (xs : List (List ℕ)). after_turn parents xs (slice_get xs at)) (sym walk.met_is)
        ∙ ap (after_turn parents ids) here

    -- a turn of what is no commit
    pub passes : (id : List ℕ) → slice_get ids at ≡ Some id → parents id ≡ None → IsAtTurn (at + 1) ids count
    passes id here none =
        let more = next_of id here in
        let same : commits parents (walk.front ++ id ∷ []) ≡ commits parents walk.front = no_more parents walk.front id none in
        record {
          front = walk.front ++ id ∷ [];
          rest = more.0;
          parts = parts_next id more.0 more.1 ∙ sym (append_assoc walk.front (id ∷ []) more.0);
          at_is = length_push walk.front id ∙ ap (λ (n : ℕ). n + 1) walk.at_is;
          met_is = sym (turned id here ∙ ap (λ (o : Option (List (List ℕ))). with_new ids (parents_or_none o)) none);
          count_is = walk.count_is ∙ ap length (sym same);
          none = ap (λ (xs : List (List ℕ)). has_id xs from) same ∙ walk.none;
          named = omega (arith, walk.named, lines_append parents walk.front (id ∷ []));
        }

    -- a turn of another commit than the one that is looked for
    pub goes_on : (id : List ℕ) (found : List (List ℕ)) → slice_get ids at ≡ Some id → parents id ≡ Some found → bytes_eq id from ≡ false
        → IsAtTurn (at + 1) (with_new ids found) (count + 1)
    goes_on id found here some other =
        let more = next_of id here in
        let ends = new_front ids found in
        let one : commits parents (walk.front ++ id ∷ []) ≡ commits parents walk.front ++ id ∷ [] = one_more parents walk.front [] id found some in
        let lines : parent_lines parents (id ∷ []) ≡ length found = ap (λ (o : Option (List (List ℕ))). length (parents_or_none o) + 0) some ∙ (let e : length found + 0 ≡ length found = omega arith in e) in
        record {
          front = walk.front ++ id ∷ [];
          rest = more.0 ++ ends.0;
          parts = ends.1 ∙ ap (λ (xs : List (List ℕ)). xs ++ ends.0) (parts_next id more.0 more.1 ∙ sym (append_assoc walk.front (id ∷ []) more.0))
              ∙ append_assoc (walk.front ++ id ∷ []) more.0 ends.0;
          at_is = length_push walk.front id ∙ ap (λ (n : ℕ). n + 1) walk.at_is;
          met_is = sym (turned id here ∙ ap (λ (o : Option (List (List ℕ))). with_new ids (parents_or_none o)) some);
          count_is = ap (λ (n : ℕ). n + 1) walk.count_is ∙ sym (length_push (commits parents walk.front) id) ∙ ap length (sym one);
          none = ap (λ (xs : List (List ℕ)). has_id xs from) one ∙ list_any-append (λ x. bytes_eq x from) (commits parents walk.front) (id ∷ [])
              ∙ ap (λ (b : Bool). b || (bytes_eq id from || false)) walk.none ∙ ap (λ (b : Bool). b || false) other;
          named = omega (arith, walk.named, new_few ids found, lines_append parents walk.front (id ∷ []), lines);
        }

    pub order_at : (id : List ℕ) (found : List (List ℕ)) → slice_get ids at ≡ Some id → parents id ≡ Some found
        → (more : List (List ℕ)) × (ancestors parents root at ≡ commits parents walk.front ++ id ∷ more)
    order_at id found here some =
        let more = next_of id here in (
          commits parents more.0,
          ap (commits parents) (sym walk.met_is ∙ parts_next id more.0 more.1) ∙ one_more parents walk.front more.0 id found some,
        )
