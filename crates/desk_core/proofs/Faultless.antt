-- An entry without fault has none in a larger repository.
use Rattle.std.proofs.Common.{◌≡◌, ◌+◌, ◌++◌, ℕ, suc, zero, Bool, true, false, cond, not, List, [], ◌∷◌, Option, Some, None, refl, sym, ap, ◌∙◌, arith}
use Rattle.std.specs.Prelude.{option_and_then, if◌then◌else◌, slice_get}
use Rattle.std.specs.List.{AllByRecursion, filter}
use Rattle.std.specs.Option.{option_map, option_map_or}
use Rattle.std.specs.Ordering.{is_gt}
use Rattle.std.proofs.lemmas.Bool.{false≢true, true≢false}
use Rattle.octets.specs.BytesMap.{by_bytes}
use Rattle.git_object.specs.Repository.{Repository}
use Rattle.rsl_chain.specs.declared.entries.Entry.{Entry}
use Rattle.rsl_chain.specs.declared.entries.EntryBody.{EntryBody}
use Rattle.rsl_chain.specs.declared.entries.EntryBody.TheVariants.{Reference, Annotation}
use Rattle.root_metadata.specs.Judged.{or_next}
use Rattle.root_metadata.specs.Persons.{count_in}
use Rattle.root_metadata.specs.Risings.{has_key}
use Rattle.root_metadata.specs.declared.keys.Key.{Key}
use Rattle.rule_files.specs.declared.rules.Rule.{Rule}
use Rattle.rule_files.specs.declared.rules.RuleFile.{RuleFile}
use Rattle.rule_delegations.specs.declared.places.RuleRef.{RuleRef}
use Rattle.rule_delegations.specs.Chains.{rule_at}
use Rattle.rule_delegations.specs.Forests.{place_named, rules_of}
use Rattle.rule_delegations.specs.Reached.{Name, rule_matches}
use Rattle.rule_delegations.specs.Walks.{Found, at_rule, below_link, is_enough, nothing, one_rule, then_found, walk, walk_rules}
use Rattle.dsse_envelope.specs.declared.envelope.Envelope.{Envelope}
use Rattle.approvals.specs.Lookups.{approval_at, signers_of}
use Rattle.tree_paths.specs.Repositories.{readings_of}
use Rattle.tree_paths.specs.States.{Ended, Faulty, Gone, Sound, is_sound, walk_of}
use Rattle.policy_epochs.specs.declared.policies.Policy.{Policy}
use Rattle.entry_rules.specs.Changing.{changed, is_unmet, least_of, least_unmet, lesser}
use Rattle.entry_rules.specs.Faults.{body_fault, change_fault, entry_fault, first_told, path_fault, ref_fault, rules_fault, signers_for, told_of}
use Rattle.entry_rules.specs.Meeting.{file_name, first_place, git_name, meets, passes, reached}
use Rattle.entry_rules.specs.Signing.{approved, joined, signer_among, tree_in}
use Rattle.entry_rules.specs.declared.faults.Fault.{Fault}
use Rattle.entry_rules.specs.declared.faults.Fault.TheVariants.{Broken, PathRule, RefRule}
use Rattle.keeper_api.specs.Growing.{Keeps, Larger}
use Rattle.tree_paths.proofs.GrowingPeels.{walk_same}
use Rattle.tree_paths.proofs.GrowingReadings.{more_read}
use Rattle.desk_core.proofs.Found.{approval_kept}
use Rattle.desk_core.proofs.Signing.{AreAmong, among_same, joined_more, meets_more}

-- ---- a rule stands at each place that is reached
rule_in : (files : List RuleFile) (file at : ℕ) (rule : Rule) → slice_get (rules_of files file) at ≡ Some rule → rule_at files (record { file = file; rule = at }) ≡ Some rule
rule_in files file at rule is = by_file (slice_get files file) is where
  by_file : (found : Option RuleFile) → slice_get (option_map_or (λ held. held.rules) found []) at ≡ Some rule → option_and_then (λ held. slice_get held.rules at) found ≡ Some rule
  by_file None e = absurd (cc e)
  by_file (Some held) e = e

module _ (files : List RuleFile) where
  abbrev HasRule : RuleRef → Type 0
  HasRule place = (rule : Rule) × (rule_at files place ≡ Some rule)

  all_both : (xs ys : List RuleRef) → AllByRecursion HasRule xs → AllByRecursion HasRule ys → AllByRecursion HasRule (xs ++ ys)
  all_both [] ys a b = b
  all_both (x ∷ xs) ys a b = (a.0, all_both xs ys a.1 b)

  all_then : (first rest : Found) → AllByRecursion HasRule first.places → AllByRecursion HasRule rest.places → AllByRecursion HasRule (then_found first rest).places
  all_then first rest a b = by_stop first.stopped where
    by_stop : (stop : Bool) → AllByRecursion HasRule (if stop then first.places else first.places ++ rest.places)
    by_stop true = a
    by_stop false = all_both first.places rest.places a b

  -- the rules from a place on
  abbrev StandFrom : ℕ → ℕ → List Rule → Type 0
  StandFrom file at rules = (k : ℕ) (rule : Rule) → slice_get rules k ≡ Some rule → rule_at files (record { file = file; rule = at + k }) ≡ Some rule

  module _ (name : Name) (into : ℕ → Found) (all_into : (file : ℕ) → AllByRecursion HasRule (into file).places) where
    all_below : (link : Option ℕ) → AllByRecursion HasRule (below_link into link).places
    all_below None = tt
    all_below (Some file) = all_into file

    all_one : (file at : ℕ) (rule : Rule) → rule_at files (record { file = file; rule = at }) ≡ Some rule
        → AllByRecursion HasRule (one_rule into (place_named files) name (record { file = file; rule = at }) rule).places
    all_one file at rule is = by_match (rule_matches name rule) where
      by_match : (b : Bool) → AllByRecursion HasRule (if b then at_rule (record { file = file; rule = at }) rule.terminating (below_link into (place_named files rule.name)) else nothing).places
      by_match true = ((rule, is), all_below (place_named files rule.name))
      by_match false = tt

    all_rules : (file at : ℕ) (rules : List Rule) → StandFrom file at rules → AllByRecursion HasRule (walk_rules into (place_named files) name file at rules).places
    all_rules file at [] stand = tt
    all_rules file at (rule ∷ rules) stand =
        all_then (one_rule into (place_named files) name (record { file = file; rule = at }) rule) (walk_rules into (place_named files) name file (at + 1) rules)
        (all_one file at rule (ap (λ (n : ℕ). rule_at files (record { file = file; rule = n })) (let e : at ≡ at + 0 = omega arith in e) ∙ stand 0 rule refl))
        (all_rules file (at + 1) rules (λ k r is. ap (λ (n : ℕ). rule_at files (record { file = file; rule = n })) (let e : at + 1 + k ≡ at + suc k = omega arith in e) ∙ stand (suc k) r is))

  all_walk : (name : Name) (left file : ℕ) → AllByRecursion HasRule (walk files name left file).places
  unfolding walk
  all_walk name zero file = tt
  all_walk name (suc left) file =
      all_rules name (walk files name left) (all_walk name left) file 0 (rules_of files file)
      (λ k rule is. ap (λ (n : ℕ). rule_at files (record { file = file; rule = n })) (let e : 0 + k ≡ k = omega arith in e) ∙ rule_in files file k rule is)

  -- where a name is not met, the rule that is told of is there
  told_there : (make : List ℕ → ℕ → ℕ → Fault) (name : Name) (signers : List (List ℕ)) → meets files name signers ≡ false → first_told make files name signers ≡ None → ⊥
  told_there make name signers unmet none = by_places (reached files name) (all_walk name 8 0) unmet none where
    by_rule : (place : RuleRef) → HasRule place → told_of make files signers place ≡ None → ⊥
    by_rule place has none =
        let there = has.0 in
        let bad : Some (make there.name (count_in there.persons signers) there.threshold) ≡ None =
        sym (ap (option_map (λ (r : Rule). make r.name (count_in r.persons signers) r.threshold)) has.1) ∙ none in
        cc

    by_places : (places : List RuleRef) → AllByRecursion HasRule places → passes files (is_enough signers) places ≡ false → option_and_then (told_of make files signers) (first_place places) ≡ None → ⊥
    by_places [] all unmet none = true≢false unmet
    by_places (place ∷ places) all unmet none = by_rule place all.0 none

-- ---- the least of some texts
module _ (test : List ℕ → Bool) where
  lesser_passes : (x : List ℕ) (y : Option (List ℕ)) → test x ≡ true → ((z : List ℕ) → y ≡ Some z → test z ≡ true) → test (lesser x y) ≡ true
  lesser_passes x None is rest = is
  lesser_passes x (Some y) is rest = by_order (is_gt (by_bytes x y)) where
    by_order : (b : Bool) → test (if b then y else x) ≡ true
    by_order true = rest y refl
    by_order false = is

  least_passes : (xs : List (List ℕ)) (p : List ℕ) → least_of (filter test xs) ≡ Some p → test p ≡ true
  least_passes [] p e = let bad : None ≡ Some p = e in cc
  least_passes (x ∷ xs) p e = by_first (test x) refl e (least_passes xs) where
    by_first : (b : Bool) → test x ≡ b → least_of (cond b (x ∷ filter test xs) (filter test xs)) ≡ Some p → ((z : List ℕ) → least_of (filter test xs) ≡ Some z → test z ≡ true) → test p ≡ true
    by_first true is e rest =
        let same : lesser x (least_of (filter test xs)) ≡ p = cc in
        ap test (sym same) ∙ lesser_passes x (least_of (filter test xs)) is rest
    by_first false is e rest = rest p e

none_left : (f g : List ℕ → Bool) (xs : List (List ℕ)) → ((x : List ℕ) → f x ≡ false → g x ≡ false) → least_of (filter f xs) ≡ None → least_of (filter g xs) ≡ None
none_left f g [] each e = refl
none_left f g (x ∷ xs) each e = by_first (f x) refl e (none_left f g xs each) where
  by_first : (b : Bool) → f x ≡ b → least_of (cond b (x ∷ filter f xs) (filter f xs)) ≡ None → (least_of (filter f xs) ≡ None → least_of (filter g xs) ≡ None) → least_of (filter g (x ∷ xs)) ≡ None
  by_first true is e rest = let bad : Some (lesser x (least_of (filter f xs))) ≡ None = e in cc
  by_first false is e rest = ap (λ (b : Bool). least_of (cond b (x ∷ filter g xs) (filter g xs))) (each x is) ∙ rest e

-- ---- the rules
module _ (files : List RuleFile) (name : List ℕ) (few more : List (List ℕ)) (among : AreAmong few more) (s t : Ended) where
  ref_met : ref_fault files name few ≡ None → meets files (git_name name) few ≡ true
  ref_met none = by_met (meets files (git_name name) few) refl none where
    by_met : (b : Bool) → meets files (git_name name) few ≡ b → (if b then None else first_told RefRule files (git_name name) few) ≡ None → b ≡ true
    by_met true is none = refl
    by_met false is none = absurd (told_there files RefRule (git_name name) few is none)

  unmet_less : (path : List ℕ) → is_unmet files few path ≡ false → is_unmet files more path ≡ false
  unmet_less path e = by_met (meets files (file_name path) few) refl e where
    by_met : (b : Bool) → meets files (file_name path) few ≡ b → not b ≡ false → not (meets files (file_name path) more) ≡ false
    by_met true is e = ap not (meets_more files (file_name path) few more among is)
    by_met false is e = absurd (true≢false e)

  unmet_is : (path : List ℕ) → is_unmet files few path ≡ true → meets files (file_name path) few ≡ false
  unmet_is path e = by_met (meets files (file_name path) few) e where
    by_met : (b : Bool) → not b ≡ true → b ≡ false
    by_met true e = absurd (false≢true e)
    by_met false e = refl

  paths_met : path_fault files few (least_unmet files few s t) ≡ None → least_unmet files few s t ≡ None
  paths_met none = by_least (least_unmet files few s t) refl none where
    by_least : (p : Option (List ℕ)) → least_unmet files few s t ≡ p → path_fault files few p ≡ None → p ≡ None
    by_least None is none = refl
    by_least (Some path) is none =
        absurd (told_there files (PathRule path) (file_name path) few (unmet_is path (least_passes (is_unmet files few) (changed s t) path is)) none)

  pub rules_met : rules_fault files name few s t ≡ None → rules_fault files name more s t ≡ None
  rules_met none = by_ref (ref_fault files name few) refl none where
    by_ref : (f : Option Fault) → ref_fault files name few ≡ f → or_next f (path_fault files few (least_unmet files few s t)) ≡ None → rules_fault files name more s t ≡ None
    by_ref (Some f) is none = let bad : Some f ≡ None = none in cc
    by_ref None is none =
        ap (λ (b : Bool). or_next (if b then None else first_told RefRule files (git_name name) more) (path_fault files more (least_unmet files more s t)))
        (meets_more files (git_name name) few more among (ref_met is))
        ∙ ap (path_fault files more) (none_left (is_unmet files few) (is_unmet files more) (changed s t) unmet_less (paths_met none))

change_sound : (files : List RuleFile) (name : List ℕ) (signers : List (List ℕ)) (s t : Ended) → change_fault files name signers s t ≡ None → (is_sound s ≡ true) × (is_sound t ≡ true) × (rules_fault files name signers s t ≡ None)
change_sound files name signers (Faulty id) t none = let bad : Some (Broken id) ≡ None = none in cc
change_sound files name signers Gone (Faulty id) none = let bad : Some (Broken id) ≡ None = none in cc
change_sound files name signers Gone Gone none = (refl, refl, none)
change_sound files name signers Gone (Sound tree ss c) none = (refl, refl, none)
change_sound files name signers (Sound tree ss c) (Faulty id) none = let bad : Some (Broken id) ≡ None = none in cc
change_sound files name signers (Sound tree ss c) Gone none = (refl, refl, none)
change_sound files name signers (Sound tree ss c) (Sound tree_to ss_to c_to) none = (refl, refl, none)

sound_change : (files : List RuleFile) (name : List ℕ) (signers : List (List ℕ)) (s t : Ended) → is_sound s ≡ true → is_sound t ≡ true → rules_fault files name signers s t ≡ None → change_fault files name signers s t ≡ None
sound_change files name signers (Faulty id) t a b none = absurd (false≢true a)
sound_change files name signers Gone (Faulty id) a b none = absurd (false≢true b)
sound_change files name signers Gone Gone a b none = none
sound_change files name signers Gone (Sound tree ss c) a b none = none
sound_change files name signers (Sound tree ss c) (Faulty id) a b none = absurd (false≢true b)
sound_change files name signers (Sound tree ss c) Gone a b none = none
sound_change files name signers (Sound tree ss c) (Sound tree_to ss_to c_to) a b none = none

-- ---- the entry
module _ (small large : Repository) (grown : Larger small large) where
  signers_kept : (signer : Option (List ℕ)) (keys : List Key) (few more : Option Envelope) → Keeps few more → AreAmong (joined signer (signers_of keys few)) (joined signer (signers_of keys more))
  signers_kept signer keys None more keeps = joined_more signer (signers_of keys more)
  signers_kept signer keys (Some envelope) more keeps =
      among_same (joined signer (signers_of keys (Some envelope))) (joined signer (signers_of keys more)) (ap (λ (e : Option Envelope). joined signer (signers_of keys e)) (keeps envelope refl))

  approved_more : (signer : Option (List ℕ)) (keys : List Key) (name from : List ℕ) (attested tree : Option (List ℕ))
      → AreAmong (joined signer (approved small keys name from attested tree)) (joined signer (approved large keys name from attested tree))
  approved_more signer keys name from None tree = among_same (joined signer []) (joined signer []) refl
  approved_more signer keys name from (Some attestations) None = among_same (joined signer []) (joined signer []) refl
  approved_more signer keys name from (Some attestations) (Some tree) =
      signers_kept signer keys (approval_at small attestations name from tree) (approval_at large attestations name from tree) (approval_kept small large grown attestations name from tree)

  sound_same : (target : List ℕ) → is_sound (walk_of (readings_of small) target) ≡ true → walk_of (readings_of large) target ≡ walk_of (readings_of small) target
  sound_same target sound = walk_same (readings_of small) (readings_of large) (more_read small large grown) target sound

  signers_more : (policy : Policy) (entry : Entry) (from : List ℕ) (attested : Option (List ℕ)) (name target : List ℕ) → is_sound (walk_of (readings_of small) target) ≡ true
      → AreAmong (signers_for small policy entry from attested name target) (signers_for large policy entry from attested name target)
  signers_more policy entry from attested name target sound id is =
      let more = approved_more (signer_among policy.keys entry) policy.keys name from attested (tree_in (walk_of (readings_of small) target)) id is in
      ap (λ (w : Ended). has_key (λ other. other) (joined (signer_among policy.keys entry) (approved large policy.keys name from attested (tree_in w))) id) (sound_same target sound) ∙ more

  body_kept : (policy : Policy) (entry : Entry) (from : List ℕ) (attested : Option (List ℕ)) (body : EntryBody)
      → body_fault small policy entry from attested body ≡ None → body_fault large policy entry from attested body ≡ None
  body_kept policy entry from attested (Annotation ids skip message) none = refl
  body_kept policy entry from attested (Reference name target) none =
      let few = signers_for small policy entry from attested name target in
      let more = signers_for large policy entry from attested name target in
      let s = walk_of (readings_of small) from in
      let t = walk_of (readings_of small) target in
      let parts = change_sound policy.rules name few s t none in
      let met = rules_met policy.rules name few more (signers_more policy entry from attested name target parts.1) s t parts.2 in
      ap (λ (w : Ended). change_fault policy.rules name more w (walk_of (readings_of large) target)) (sound_same from parts.0)
      ∙ ap (change_fault policy.rules name more s) (sound_same target parts.1)
      ∙ sound_change policy.rules name more s t parts.0 parts.1 met

  pub fault_kept : (policy : Policy) (entry : Entry) (from : List ℕ) (attested : Option (List ℕ)) → entry_fault small policy entry from attested ≡ None → entry_fault large policy entry from attested ≡ None
  unfolding entry_fault
  fault_kept policy entry from attested none = body_kept policy entry from attested entry.body none
