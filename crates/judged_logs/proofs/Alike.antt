-- What the same entries have in common, whatever the repositories are in which they are judged.
use Rattle.std.proofs.Common.{◌≡◌, ◌&&◌, ◌-◌, ℕ, suc, zero, Bool, not, nat_lt, List, [], ◌∷◌, length, take, Option, Some, None, refl, sym, ap, ◌∙◌}
use Rattle.std.specs.Prelude.{unwrap_or, option_and_then, if◌then◌else◌}
use Rattle.std.specs.List.{filter, fold, list_any, slice_get}
use Rattle.std.specs.Option.{option_map}
use Rattle.git_object.specs.Ids.{zeros}
use Rattle.rsl_chain.specs.Entries.{Taken, is_of, shares, skips_id, target_of}
use Rattle.git_object.specs.References.{attestations_name}
use Rattle.rsl_chain.specs.declared.entries.Entry.{Entry}
use Rattle.recovery.specs.Lanes.{last_of}
use Rattle.judging.specs.Rules.{Rules}
use Rattle.judging.specs.Logs.{above, attested_after, before, entry_at, from, is_entry_of, may_skip, next_attested, numbers, policy_after, prior, share, skipped, skips, target_at, unskipped}
use Rattle.judging.proofs.Counting.{any_same, filter_same}
use Rattle.judged_logs.specs.Growing.{AllGrow, Grows, SameEpochs}

-- the same entry, or none in both
abbrev pub GrowsIn : Option Taken → Option Taken → Type 0
GrowsIn None None = Unit {0}
GrowsIn None (Some u) = ⊥
GrowsIn (Some t) None = ⊥
GrowsIn (Some t) (Some u) = Grows t u

pub take_grows : (n : ℕ) (log more : List Taken) → AllGrow log more → AllGrow (take n log) (take n more)
take_grows zero log more grow = tt
take_grows (suc n) [] [] grow = tt
take_grows (suc n) [] (u ∷ us) grow = absurd grow
take_grows (suc n) (t ∷ ts) [] grow = absurd grow
take_grows (suc n) (t ∷ ts) (u ∷ us) grow = (grow.0, take_grows n ts us grow.1)

pub at_grows : (n : ℕ) (log more : List Taken) → AllGrow log more → GrowsIn (slice_get log n) (slice_get more n)
at_grows n [] [] grow = tt
at_grows n [] (u ∷ us) grow = absurd grow
at_grows n (t ∷ ts) [] grow = absurd grow
at_grows zero (t ∷ ts) (u ∷ us) grow = grow.0
at_grows (suc n) (t ∷ ts) (u ∷ us) grow = at_grows n ts us grow.1

pub as_long : (log more : List Taken) → AllGrow log more → length more ≡ length log
as_long [] [] grow = refl
as_long [] (u ∷ us) grow = absurd grow
as_long (t ∷ ts) [] grow = absurd grow
as_long (t ∷ ts) (u ∷ us) grow = ap suc (as_long ts us grow.1)

pub take_twice : {X : Type 0} (m n : ℕ) (xs : List X) → (k : ℕ) × (take m (take n xs) ≡ take k xs)
take_twice zero n xs = (0, refl)
take_twice (suc m) zero xs = (0, refl)
take_twice (suc m) (suc n) [] = (0, refl)
take_twice (suc m) (suc n) (x ∷ xs) = let less = take_twice m n xs in (suc less.0, ap (λ ys. x ∷ ys) less.1)

-- ---- an entry
same_reference : (x y : Option Taken) → GrowsIn x y → (name : List ℕ) → is_entry_of y name ≡ is_entry_of x name
same_reference None None grow name = refl
same_reference None (Some u) grow name = absurd grow
same_reference (Some t) None grow name = absurd grow
same_reference (Some t) (Some u) grow name = ap (λ (e : Entry). is_of e.body name) grow.entry_is

pub same_share : (w x y z : Option Taken) → GrowsIn w y → GrowsIn x z → share y z ≡ share w x
same_share None x None z grow too = refl
same_share None x (Some u) z grow too = absurd grow
same_share (Some t) x None z grow too = absurd grow
same_share (Some t) None (Some u) None grow too = refl
same_share (Some t) None (Some u) (Some v) grow too = absurd too
same_share (Some t) (Some s) (Some u) None grow too = absurd too
same_share (Some t) (Some s) (Some u) (Some v) grow too = λ i. shares (grow.entry_is i).body (too.entry_is i).body

pub reference_alike : (log more : List Taken) → AllGrow log more → (i : ℕ) (name : List ℕ) → is_entry_of (entry_at more i) name ≡ is_entry_of (entry_at log i) name
reference_alike log more grow i name = same_reference (entry_at log i) (entry_at more i) (at_grows (i - 1) log more grow) name

target_alike : (x y : Option Taken) → GrowsIn x y → option_map (λ (t : Taken). target_of t.entry.body) y ≡ option_map (λ (t : Taken). target_of t.entry.body) x
target_alike None None grow = refl
target_alike None (Some u) grow = absurd grow
target_alike (Some t) None grow = absurd grow
target_alike (Some t) (Some u) grow = ap (λ (e : Entry). Some (target_of e.body)) grow.entry_is

pub targets_alike : (log more : List Taken) → AllGrow log more → (i : ℕ) → target_at more i ≡ target_at log i
targets_alike log more grow i = target_alike (entry_at log i) (entry_at more i) (at_grows (i - 1) log more grow)

attested_from : (attested : Option (List ℕ)) (log more : List Taken) → AllGrow log more → fold next_attested attested more ≡ fold next_attested attested log
attested_from attested [] [] grow = refl
attested_from attested [] (u ∷ us) grow = absurd grow
attested_from attested (t ∷ ts) [] grow = absurd grow
attested_from attested (t ∷ ts) (u ∷ us) grow =
    ap (λ (e : Entry). fold next_attested (if is_of e.body attestations_name then Some (target_of e.body) else attested) us) grow.0.entry_is
    ∙ attested_from (next_attested attested t) ts us grow.1

pub attested_alike : (log more : List Taken) → AllGrow log more → attested_after more ≡ attested_after log
attested_alike log more grow = attested_from None log more grow

-- ---- skips and priors
module _ {P F : Type 0} (rules : Rules P F) where
  skips_alike : (l m : List Taken) → policy_after rules m ≡ policy_after rules l → (w x y z : Option Taken) → GrowsIn w y → GrowsIn x z → skips rules m y z ≡ skips rules l w x
  skips_alike l m same None x None z grow too = refl
  skips_alike l m same None x (Some u) z grow too = absurd grow
  skips_alike l m same (Some t) x None z grow too = absurd grow
  skips_alike l m same (Some t) None (Some u) None grow too = refl
  skips_alike l m same (Some t) None (Some u) (Some v) grow too = absurd too
  skips_alike l m same (Some t) (Some s) (Some u) None grow too = absurd too
  skips_alike l m same (Some t) (Some s) (Some u) (Some v) grow too =
      λ i. skips_id (grow.entry_is i).body (too.entry_is i).id && may_skip rules (same i) (grow.entry_is i) (too.entry_is i).body

  module _ (log more : List Taken) (grow : AllGrow log more) (epochs : SameEpochs rules log more) where
    pub skipped_alike : (i : ℕ) → skipped rules more i ≡ skipped rules log i
    skipped_alike i =
        let p : ℕ → Bool = λ a. nat_lt i a && skips rules (before more a) (entry_at more a) (entry_at more i) in
        let q : ℕ → Bool = λ a. nat_lt i a && skips rules (before log a) (entry_at log a) (entry_at log i) in
        ap (λ n. list_any p (numbers n)) (as_long log more grow)
        ∙ any_same p q (length log) (λ a above within. ap (λ b. nat_lt i a && b)
        (skips_alike (before log a) (before more a) (epochs (a - 1)) (entry_at log a) (entry_at log i) (entry_at more a) (entry_at more i) (at_grows (a - 1) log more grow) (at_grows (i - 1) log more grow)))

    pub unskipped_alike : (name : List ℕ) → unskipped rules more name ≡ unskipped rules log name
    unskipped_alike name =
        ap (λ n. filter (λ i. is_entry_of (entry_at more i) name && not (skipped rules more i)) (numbers n)) (as_long log more grow)
        ∙ filter_same (λ i. is_entry_of (entry_at more i) name && not (skipped rules more i)) (λ i. is_entry_of (entry_at log i) name && not (skipped rules log i)) (length log)
        (λ i above within. let same = reference_alike log more grow i name in let too = skipped_alike i in λ j. same j && not (too j))

    pub prior_alike : (name : List ℕ) → prior rules more name ≡ prior rules log name
    prior_alike name = ap last_of (unskipped_alike name)

    found_alike : (n : Option ℕ) → option_and_then (target_at more) n ≡ option_and_then (target_at log) n
    found_alike None = refl
    found_alike (Some n) = targets_alike log more grow n

    pub from_alike : (name : List ℕ) → from rules more name ≡ from rules log name
    from_alike name =
        ap (λ target. unwrap_or target zeros) (ap (option_and_then (target_at more)) (prior_alike name) ∙ found_alike (prior rules log name))

    pub above_alike : (name : List ℕ) → above rules more name ≡ above rules log name
    above_alike name = ap (λ n. unwrap_or n 0) (prior_alike name)

  -- the same holds of each front
  pub epochs_front : (log more : List Taken) → SameEpochs rules log more → (n : ℕ) → SameEpochs rules (take n log) (take n more)
  epochs_front log more epochs n m =
      let less = take_both m n log more in
      ap (policy_after rules) less.2 ∙ epochs less.0 ∙ sym (ap (policy_after rules) less.1)
    where
      take_both : (m n : ℕ) (xs ys : List Taken) → (k : ℕ) × (take m (take n xs) ≡ take k xs) × (take m (take n ys) ≡ take k ys)
      take_both zero n xs ys = (0, refl, refl)
      take_both (suc m) zero xs ys = (0, refl, refl)
      take_both (suc m) (suc n) [] [] = (0, refl, refl)
      take_both (suc m) (suc n) [] (y ∷ ys) = let less = take_both m n [] ys in (suc less.0, refl, ap (λ zs. y ∷ zs) less.2)
      take_both (suc m) (suc n) (x ∷ xs) [] = let less = take_both m n xs [] in (suc less.0, ap (λ zs. x ∷ zs) less.1, refl)
      take_both (suc m) (suc n) (x ∷ xs) (y ∷ ys) = let less = take_both m n xs ys in (suc less.0, ap (λ zs. x ∷ zs) less.1, ap (λ zs. y ∷ zs) less.2)
