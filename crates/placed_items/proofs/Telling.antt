-- What two maps tell of a list that gains and loses a last item.
use Rattle.std.proofs.Common.{◌≡◌, inl, inr, ℕ, ◌+◌, Bool, true, false, cond, List, [], ◌∷◌, ◌++◌, Option, Some, None}
use Rattle.std.proofs.Common.{suc, length, refl, sym, ap, subst, ◌∙◌}
use Prim.Native.Nat as Nat
use lib.Dec.{eqb}
use Rattle.std.specs.Option.{option_map, option_or}
use Rattle.std.specs.Prelude.{is_some, slice_get}
use Rattle.std.specs.Str.{bytes_eq}
use Rattle.std.proofs.lemmas.Bool.{true≢false, eqb-true, eqb-false}
use Rattle.std.proofs.lemmas.Slice.Eq.{bytes_eq-Decides}
use Rattle.placed_items.specs.Places.{place_of, placed_last}
use Rattle.placed_items.specs.Fronts.{AreTold, HasLetGo, IsPut, IsPutInFront, IsPutWhole}
use Rattle.placed_items.specs.Fronts.{front_of, other_than, own_place, stands_under, told_place}
use Rattle.placed_items.proofs.OneId.{front_case, gone_case, had_case, whole_case}
use Rattle.placed_items.proofs.OneId.{get_last, get_other, get_past, other_same, other_self, other_stays, same_test}
use Rattle.placed_items.proofs.Placing.{place_within, placed_push}

module _ {T : Type 0} (id : T → List ℕ) where
  abbrev front : T → List ℕ
  front item = front_of (id item)

  stands_map : (x : T) (xs : List T) (wanted : List ℕ) (n : ℕ) (b : Bool) (o : Option ℕ) → bytes_eq (id x) wanted ≡ b
      → ((k : ℕ) → o ≡ None → stands_under id (slice_get xs k) wanted ≡ false)
      → cond b (Some 0) (option_map (λ m. m + 1) o) ≡ None → stands_under id (slice_get (x ∷ xs) n) wanted ≡ false
  stands_map x xs wanted n true o is none e = absurd (cc e)
  stands_map x xs wanted n false (Some m) is none e = absurd (cc e)
  stands_map x xs wanted Nat.zero false None is none e = is
  stands_map x xs wanted (suc n) false None is none e = none n refl

  -- where an id has no place no item stands under it
  none_stands : (items : List T) (wanted : List ℕ) (n : ℕ) → place_of id items wanted ≡ None → stands_under id (slice_get items n) wanted ≡ false
  none_stands [] wanted n e = refl
  none_stands (x ∷ xs) wanted n e = stands_map x xs wanted n (bytes_eq (id x) wanted) (place_of id xs wanted) refl (none_stands xs wanted) e

  none_own : (items : List T) (wanted : List ℕ) (o : Option ℕ) → place_of id items wanted ≡ None → own_place id items o wanted ≡ None
  none_own items wanted None e = refl
  none_own items wanted (Some n) e = ap (λ (b : Bool). cond b (Some n) None) (none_stands items wanted n e)

  module _ (items : List T) (last : T) where
    abbrev n : ℕ
    n = length items

    abbrev more : List T
    more = items ++ last ∷ []

    own_last : (wanted : List ℕ) → own_place id more (Some n) wanted ≡ cond (bytes_eq (id last) wanted) (Some n) None
    own_last wanted = ap (λ (item : Option T). cond (stands_under id item wanted) (Some n) None) (get_last items last)

    own_past : (wanted : List ℕ) → own_place id items (Some n) wanted ≡ None
    own_past wanted = ap (λ (item : Option T). cond (stands_under id item wanted) (Some n) None) (get_past items)

    own_grows : (o : Option ℕ) (wanted : List ℕ) → (o ≡ Some n → ⊥) → own_place id more o wanted ≡ own_place id items o wanted
    own_grows None wanted other = refl
    own_grows (Some m) wanted other =
        ap (λ (item : Option T). cond (stands_under id item wanted) (Some m) None) (get_other items last m (λ e. other (ap Some e)))

    own_cond : (b : Bool) (m : ℕ) → eqb m n ≡ false → cond b (Some m) None ≡ other_than n (cond b (Some m) None)
    own_cond true m e = sym (other_stays m n e)
    own_cond false m e = refl

    own_shrinks : (o : Option ℕ) (wanted : List ℕ) → own_place id items o wanted ≡ other_than n (own_place id more o wanted)
    own_shrinks None wanted = refl
    own_shrinks (Some m) wanted = by_test (eqb m n) refl
      where
        by_last : (b : Bool) → None ≡ other_than n (cond b (Some n) None)
        by_last true = sym (other_self n)
        by_last false = refl

        by_test : (t : Bool) → eqb m n ≡ t → own_place id items (Some m) wanted ≡ other_than n (own_place id more (Some m) wanted)
        by_test true e =
            subst (λ (k : ℕ). own_place id items (Some k) wanted ≡ other_than n (own_place id more (Some k) wanted)) (sym (eqb-true m n e))
            (own_past wanted ∙ by_last (bytes_eq (id last) wanted) ∙ ap (other_than n) (sym (own_last wanted)))
        by_test false e =
            sym (own_grows (Some m) wanted (λ same. eqb-false m n e (cc same))) ∙ own_cond (stands_under id (slice_get more m) wanted) m e

    -- ---- a last item is put

    module _ (fronts wholes : List ℕ → Option ℕ) (told : AreTold id items fronts wholes) where
      abbrev had : List ℕ → Option ℕ
      had wanted = own_place id items (fronts (front_of wanted)) wanted

      no_front : (key : List ℕ) → fronts key ≡ Some n → ⊥
      no_front key e =
          let both : None ≡ Some key = ap (option_map front) (sym (get_past items)) ∙ told.begun key n e in
          absurd (cc both)

      grows : (wanted : List ℕ) → own_place id more (fronts (front_of wanted)) wanted ≡ had wanted
      grows wanted = own_grows (fronts (front_of wanted)) wanted (no_front (front_of wanted))

      after : (wanted : List ℕ) → placed_last (told_place id items fronts wholes wanted) (bytes_eq (id last) wanted) n ≡ place_of id more wanted
      after wanted = ap (λ (o : Option ℕ). placed_last o (bytes_eq (id last) wanted) n) (told.places wanted) ∙ sym (placed_push id items last wanted)

      begun_still : (key : List ℕ) (m : ℕ) → fronts key ≡ Some m → option_map front (slice_get more m) ≡ Some key
      begun_still key m e =
          ap (option_map front) (get_other items last m (λ same. no_front key (e ∙ ap Some same))) ∙ told.begun key m e

      -- nothing is put for an id that has a place
      had_told : (m : ℕ) → told_place id items fronts wholes (id last) ≡ Some m → AreTold id more fronts wholes
      had_told m there = record {
        places = λ wanted.
            ap (option_or (wholes wanted)) (grows wanted)
            ∙ had_case (bytes_eq (id last) wanted) (told_place id items fronts wholes wanted) m n
            (λ is. ap (told_place id items fronts wholes) (sym ((bytes_eq-Decides (id last) wanted).0 is)) ∙ there) ∙ after wanted;
        begun = begun_still;
      }

      pub some_told : is_some (told_place id items fronts wholes (id last)) ≡ true → AreTold id more fronts wholes
      some_told some = by_test (told_place id items fronts wholes (id last)) refl some
        where
          by_test : (o : Option ℕ) → told_place id items fronts wholes (id last) ≡ o → is_some o ≡ true → AreTold id more fronts wholes
          by_test None e is = absurd (true≢false (sym is))
          by_test (Some m) e is = had_told m e

      is_none : (o : Option ℕ) → is_some o ≡ false → o ≡ None
      is_none None e = refl
      is_none (Some m) e = absurd (true≢false e)

      module _ (none : told_place id items fronts wholes (id last) ≡ None) (fronts_now wholes_now : List ℕ → Option ℕ) where
        no_whole : (x y : Option ℕ) → option_or x y ≡ None → x ≡ None
        no_whole None y e = refl
        no_whole (Some m) y e = absurd (cc e)

        here_none : (wanted : List ℕ) → bytes_eq (id last) wanted ≡ true → told_place id items fronts wholes wanted ≡ None
        here_none wanted is = ap (told_place id items fronts wholes) (sym ((bytes_eq-Decides (id last) wanted).0 is)) ∙ none

        -- the place is put under the front
        front_told : IsPutInFront fronts wholes fronts_now wholes_now (id last) n → AreTold id more fronts_now wholes_now
        front_told put = record { places = places; begun = λ key m e. begun key m (bytes_eq (front last) key) refl (sym (now_front key) ∙ e) }
          where
            now_front : (key : List ℕ) → fronts_now key ≡ cond (bytes_eq (front last) key) (Some n) (fronts key)
            now_front key = put.fronts key ∙ ap (λ (b : Bool). cond b (Some n) (fronts key)) (same_test (front last) key)

            alike : (wanted : List ℕ) → bytes_eq (id last) wanted ≡ true → bytes_eq (front last) (front_of wanted) ≡ true
            alike wanted is = (bytes_eq-Decides (front last) (front_of wanted)).1 (ap front_of ((bytes_eq-Decides (id last) wanted).0 is))

            free : (key : List ℕ) → bytes_eq (front last) key ≡ true → fronts key ≡ None
            free key is = ap fronts (sym ((bytes_eq-Decides (front last) key).0 is)) ∙ put.free

            places : (wanted : List ℕ) → told_place id more fronts_now wholes_now wanted ≡ place_of id more wanted
            places wanted =
                ap (λ (o : Option ℕ). option_or o (own_place id more (fronts_now (front_of wanted)) wanted)) (put.wholes wanted)
                ∙ ap (λ (o : Option ℕ). option_or (wholes wanted) (own_place id more o wanted)) (now_front (front_of wanted))
                ∙ front_case (bytes_eq (id last) wanted) (bytes_eq (front last) (front_of wanted)) (wholes wanted) (fronts (front_of wanted))
                (λ o. own_place id more o wanted) (λ o. own_place id items o wanted) n (own_last wanted) refl (grows wanted)
                (free (front_of wanted)) (alike wanted) (λ is. no_whole (wholes wanted) (had wanted) (here_none wanted is))
                ∙ after wanted

            begun : (key : List ℕ) (m : ℕ) (b : Bool) → bytes_eq (front last) key ≡ b → cond b (Some n) (fronts key) ≡ Some m
                → option_map front (slice_get more m) ≡ Some key
            begun key m true is e =
                let same : n ≡ m = cc e in
                subst (λ (k : ℕ). option_map front (slice_get more k) ≡ Some key) same
                (ap (option_map front) (get_last items last) ∙ ap Some ((bytes_eq-Decides (front last) key).0 is))
            begun key m false is e = begun_still key m e

        -- or under the whole id
        whole_told : IsPutWhole fronts wholes fronts_now wholes_now (id last) n → AreTold id more fronts_now wholes_now
        whole_told put = record { places = places; begun = λ key m e. begun_still key m (sym (put.fronts key) ∙ e) }
          where
            now_whole : (wanted : List ℕ) → wholes_now wanted ≡ cond (bytes_eq (id last) wanted) (Some n) (wholes wanted)
            now_whole wanted = put.wholes wanted ∙ ap (λ (b : Bool). cond b (Some n) (wholes wanted)) (same_test (id last) wanted)

            places : (wanted : List ℕ) → told_place id more fronts_now wholes_now wanted ≡ place_of id more wanted
            places wanted =
                ap (λ (o : Option ℕ). option_or o (own_place id more (fronts_now (front_of wanted)) wanted)) (now_whole wanted)
                ∙ ap (λ (o : Option ℕ). option_or (cond (bytes_eq (id last) wanted) (Some n) (wholes wanted)) (own_place id more o wanted))
                (put.fronts (front_of wanted))
                ∙ whole_case (bytes_eq (id last) wanted) (wholes wanted) (own_place id more (fronts (front_of wanted)) wanted) (had wanted) n
                (grows wanted) (here_none wanted) ∙ after wanted

      pub put_told : is_some (told_place id items fronts wholes (id last)) ≡ false → (fronts_now wholes_now : List ℕ → Option ℕ)
          → IsPut fronts wholes fronts_now wholes_now (id last) n → AreTold id more fronts_now wholes_now
      put_told none fronts_now wholes_now (inl put) = front_told (is_none (told_place id items fronts wholes (id last)) none) fronts_now wholes_now put
      put_told none fronts_now wholes_now (inr put) = whole_told (is_none (told_place id items fronts wholes (id last)) none) fronts_now wholes_now put

    -- ---- the last item is taken away

    module _ (fronts wholes fronts_now wholes_now : List ℕ → Option ℕ) (told : AreTold id more fronts wholes)
        (no_front : HasLetGo fronts fronts_now (front last) n) (no_whole : HasLetGo wholes wholes_now (id last) n) where
      now_whole : (wanted : List ℕ) → wholes_now wanted ≡ cond (bytes_eq (id last) wanted) (other_than n (wholes wanted)) (wholes wanted)
      now_whole wanted = no_whole wanted ∙ ap (λ (b : Bool). cond b (other_than n (wholes wanted)) (wholes wanted)) (same_test (id last) wanted)

      now_front : (key : List ℕ) → fronts_now key ≡ cond (bytes_eq (front last) key) (other_than n (fronts key)) (fronts key)
      now_front key = no_front key ∙ ap (λ (b : Bool). cond b (other_than n (fronts key)) (fronts key)) (same_test (front last) key)

      own_other : (o : Option ℕ) (wanted : List ℕ) → own_place id items (other_than n o) wanted ≡ own_place id items o wanted
      own_other None wanted = refl
      own_other (Some m) wanted = by_test (eqb m n) refl
        where
          by_test : (t : Bool) → eqb m n ≡ t → own_place id items (other_than n (Some m)) wanted ≡ own_place id items (Some m) wanted
          by_test true e =
              ap (λ (o : Option ℕ). own_place id items o wanted) (other_same m n e)
              ∙ sym (ap (λ (k : ℕ). own_place id items (Some k) wanted) (eqb-true m n e) ∙ own_past wanted)
          by_test false e = ap (λ (o : Option ℕ). own_place id items o wanted) (other_stays m n e)

      own_either : (b : Bool) (o : Option ℕ) (wanted : List ℕ) → own_place id items (cond b (other_than n o) o) wanted ≡ own_place id items o wanted
      own_either true o wanted = own_other o wanted
      own_either false o wanted = refl

      left_begun : (key : List ℕ) (m : ℕ) → fronts key ≡ Some m → (m ≡ n → ⊥) → option_map front (slice_get items m) ≡ Some key
      left_begun key m e other = ap (option_map front) (sym (get_other items last m other)) ∙ told.begun key m e

      begun : (key : List ℕ) (m : ℕ) (b : Bool) (o : Option ℕ) → bytes_eq (front last) key ≡ b → fronts key ≡ o
          → cond b (other_than n o) o ≡ Some m → option_map front (slice_get items m) ≡ Some key
      begun key m true None is had e = absurd (cc e)
      begun key m true (Some k) is had e = by_test (eqb k n) refl
        where
          by_test : (t : Bool) → eqb k n ≡ t → option_map front (slice_get items m) ≡ Some key
          by_test true same = let both : None ≡ Some m = sym (other_same k n same) ∙ e in absurd (cc both)
          by_test false other =
              let both : Some k ≡ Some m = sym (other_stays k n other) ∙ e in
              let k_is : k ≡ m = cc both in
              left_begun key m (had ∙ both) (λ at_end. eqb-false k n other (k_is ∙ at_end))
      begun key m false o is had e =
          left_begun key m (had ∙ e) (λ at_end.
          let there : Some (front last) ≡ Some key =
          ap (option_map front) (sym (get_last items last)) ∙ told.begun key n (had ∙ e ∙ ap Some at_end) in
          let same : front last ≡ key = cc there in
          absurd (true≢false (sym ((bytes_eq-Decides (front last) key).1 same) ∙ is)))

      pub gone_told : AreTold id items fronts_now wholes_now
      gone_told = record { places = places; begun = λ key m e. begun key m (bytes_eq (front last) key) (fronts key) refl refl (sym (now_front key) ∙ e) }
        where
          places : (wanted : List ℕ) → told_place id items fronts_now wholes_now wanted ≡ place_of id items wanted
          places wanted =
              let b : Bool = bytes_eq (id last) wanted in
              let o : Option ℕ = fronts (front_of wanted) in
              let z : Option ℕ = own_place id more o wanted in
              ap (λ (y : Option ℕ). option_or y (own_place id items (fronts_now (front_of wanted)) wanted)) (now_whole wanted)
              ∙ ap (option_or (cond b (other_than n (wholes wanted)) (wholes wanted)))
              (ap (λ (y : Option ℕ). own_place id items y wanted) (now_front (front_of wanted))
              ∙ own_either (bytes_eq (front last) (front_of wanted)) o wanted ∙ own_shrinks o wanted)
              ∙ gone_case b (wholes wanted) z (place_of id items wanted) n (told.places wanted ∙ placed_push id items last wanted)
              (place_within id items wanted) (λ none. sym (own_shrinks o wanted) ∙ none_own items wanted o none)
