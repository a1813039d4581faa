-- Tests of ids and numbers, and what they leave of lanes.
use Rattle.std.proofs.Common.{◌≡◌, ◌&&◌, ◌||◌, ◌<◌, ◌+◌, ℕ, Bool, true, false, cond, not, List, [], ◌∷◌, length, get_or, take, refl, ap, sym, ◌∙◌}
use Rattle.std.specs.List.{filter}
use Rattle.std.specs.BTreeMap.{is_at}
use Rattle.std.specs.Map.{lookup}
use Rattle.std.proofs.lemmas.List.Elements.{filter_agree}
use Rattle.std.proofs.lemmas.List.Folds.{list_any_more}
use Rattle.octets.specs.BytesMap.{by_bytes}
use Rattle.recovery.specs.Lanes.{Lane, is_in, lane_of}
use Rattle.judging.specs.Books.{HasLanes, Kept, place_of}
use Rattle.judging.specs.Hits.{IsHit, some_hit, without}
use Rattle.judging.specs.Rules.{Rules}
use Rattle.judging.proofs.Counting.{filter_twice}

filter_true : (p : ℕ → Bool) → ((n : ℕ) → p n ≡ true) → (ns : List ℕ) → filter p ns ≡ ns
filter_true p h [] = refl
filter_true p h (n ∷ ns) = ap (λ b. cond b (n ∷ filter p ns) (filter p ns)) (h n) ∙ ap (λ xs. n ∷ xs) (filter_true p h ns)

pub without_same : (p q : ℕ → Bool) → ((n : ℕ) → p n ≡ q n) → (lane : Lane) → without p lane ≡ without q lane
without_same p q h lane =
    let e = filter_agree (λ n. not (p n)) (λ n. not (q n)) (λ n. ap not (h n)) lane.unskipped in
    λ i. record { pushed = lane.pushed; unskipped = e i; pending = lane.pending }

pub without_none : (p : ℕ → Bool) → ((n : ℕ) → p n ≡ false) → (lane : Lane) → lane ≡ without p lane
without_none p h lane =
    let e = sym (filter_true (λ n. not (p n)) (λ n. ap not (h n)) lane.unskipped) in
    λ i. record { pushed = lane.pushed; unskipped = e i; pending = lane.pending }

not_or : (a b : Bool) → (not a && not b) ≡ not (a || b)
not_or true b = refl
not_or false b = refl

pub without_twice : (p q : ℕ → Bool) (lane : Lane) → without q (without p lane) ≡ without (λ n. p n || q n) lane
without_twice p q lane =
    let e = filter_twice (λ n. not (p n)) (λ n. not (q n)) lane.unskipped ∙ filter_agree (λ n. not (p n) && not (q n)) (λ n. not (p n || q n)) (λ n. not_or (p n) (q n)) lane.unskipped in
    λ i. record { pushed = lane.pushed; unskipped = e i; pending = lane.pending }

module _ {F : Type 0} where
  pub lanes_as : (f h : List ℕ → Lane → Lane) (was now : Kept F) → ((name : List ℕ) (lane : Lane) → f name lane ≡ h name lane) → HasLanes f was now → HasLanes h was now
  lanes_as f h was now same has = record {
    lanes = λ name. has.lanes name ∙ same name (lane_of was.marks name);
    target = has.target;
    place = has.place;
    fault = has.fault;
  }

  pub lanes_still : (h : List ℕ → Lane → Lane) (was : Kept F) → ((name : List ℕ) (lane : Lane) → lane ≡ h name lane) → HasLanes h was was
  lanes_still h was same = record { lanes = λ name. same name (lane_of was.marks name); target = refl; place = refl; fault = refl }

  pub lanes_then : (p q t : ℕ → Bool) (was mid now : Kept F) → HasLanes (λ name lane. without p lane) was mid → HasLanes (λ name lane. without q lane) mid now → ((n : ℕ) → (p n || q n) ≡ t n) → HasLanes (λ name lane. without t lane) was now
  lanes_then p q t was mid now a b same = record {
    lanes = λ name. b.lanes name ∙ ap (without q) (a.lanes name) ∙ without_twice p q (lane_of was.marks name) ∙ without_same (λ n. p n || q n) t same (lane_of was.marks name);
    target = b.target ∙ a.target;
    place = b.place ∙ a.place;
    fault = b.fault ∙ a.fault;
  }

module _ {P F : Type 0} where
  pub hit_kept : (rules : Rules P F) (policy : P) (key : List ℕ) (t : ℕ → Bool) (was now : Kept F) (hit : List ℕ → ℕ → Bool) → HasLanes (λ name lane. without t lane) was now → IsHit rules policy key was hit → IsHit rules policy key now hit
  hit_kept rules policy key t was now hit has is =
      let place : (id : List ℕ) → place_of now id ≡ place_of was id = λ id. ap (lookup (is_at (by_bytes id))) has.place in
      let pushed : (n : ℕ) (name : List ℕ) → is_in n (lane_of now.marks name).pushed ≡ is_in n (lane_of was.marks name).pushed = λ n name. ap (λ (l : Lane). is_in n l.pushed) (has.lanes name) in
      record {
        some = λ id n name p h. is.some id n name (sym (place id) ∙ p) (sym (pushed n name) ∙ h);
        other = λ id n p h. is.other id n (sym (place id) ∙ p) (λ name. sym (pushed n name) ∙ h name);
        one = λ id n m p h. is.one id n m (sym (place id) ∙ p) h;
        none = λ id m p. is.none id m (sym (place id) ∙ p);
      }

pub hit_more : (hit : List ℕ → ℕ → Bool) (ids : List (List ℕ)) (k : ℕ) (id : List ℕ) (n : ℕ) → k < length ids → get_or ids k id ≡ id → (some_hit hit (take k ids) n || hit id n) ≡ some_hit hit (take (k + 1) ids) n
hit_more hit ids k id n h is = sym (list_any_more (λ x. hit x n) ids k id h ∙ ap (λ x. some_hit hit (take k ids) n || hit x n) is)

-- a test that nothing passes
pub hit_never : (hit : List ℕ → ℕ → Bool) → ((id : List ℕ) (n : ℕ) → hit id n ≡ false) → (ids : List (List ℕ)) (n : ℕ) → some_hit hit ids n ≡ false
hit_never hit h [] n = refl
hit_never hit h (id ∷ ids) n = ap (λ b. b || some_hit hit ids n) (h id n) ∙ hit_never hit h ids n
