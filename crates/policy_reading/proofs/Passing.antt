-- What one more entry makes of what stands for a log.
use Rattle.std.proofs.Common.{◌≡◌, ◌<◌, ◌≤◌, ◌+◌, ◌-◌, ◌++◌, ◌∙◌, ℕ, suc, zero, List, [], ◌∷◌, length, map, get_or, take, drop, Option, Some, None, Result, ap, refl, subst, sym, add-one, arith, append_assoc, take-append-drop}
use Rattle.std.specs.List.{slice_get}
use Rattle.std.specs.Prelude.{Bool, true, if◌then◌else◌}
use Rattle.std.specs.Str.{bytes_eq}
use Rattle.std.proofs.lemmas.List.{map-append, take_all, take_more}
use Rattle.git_object.specs.Repository.{Repository}
use Rattle.rsl_chain.specs.Entries.{is_of, target_of}
use Rattle.git_object.specs.References.{policy_name}
use Rattle.rsl_chain.specs.declared.entries.Entry.{Entry}
use Rattle.rsl_chain.specs.declared.entries.EntryBody.{EntryBody}
use Rattle.rsl_chain.specs.declared.entries.EntryBody.TheVariants.{Reference}
use Rattle.rsl_chain.specs.Logs.{IsBrokenAs, IsLogOf, IsNamed, IsNoEntryAs, entry_at}
use Rattle.rsl_chain.specs.declared.log_faults.LogFault.{LogFault}
use Rattle.rsl_chain.specs.declared.log_faults.LogFault.TheVariants as log
use Rattle.rsl_chain.proofs.Entered.{entries_from, never_misses}
use Rattle.rsl_chain.specs.Histories.{AreEntriesAt}
use Rattle.policy_epochs.specs.Epochs.{fault_under, next_policy, policy_after}
use Rattle.policy_epochs.specs.Standing.{Found, IsNext, Stands, verdict_of}
use Rattle.policy_epochs.specs.Succession.{succession}
use Rattle.policy_epochs.specs.declared.epochs.Epochs.{Epochs}
use Rattle.policy_epochs.specs.declared.faults.PolicyFault.{PolicyFault}
use Rattle.policy_epochs.specs.declared.policies.Policy.{Policy}
use Rattle.policy_reading.specs.Policies.{policy_of}
use Rattle.policy_reading.specs.InForce.{HasEntries, HasEpochs, MissesEntry, StandsAt, StandsFor, Takes, TakesAt, epoch_fault, found_in, found_of}

-- the next entry is for the policy
pub next_is : (checked : Found) (n : ℕ) (found : Result Policy PolicyFault) → checked (n + 1) ≡ Some found → IsNext checked n (n + 1) found
next_is checked n found there = record { later = omega arith; between = λ k above below. absurd (omega arith); there = there }

-- the next entry is not
pub passed : (epochs : Epochs) (checked : Found) (n : ℕ) → checked (n + 1) ≡ None → Stands epochs checked n → Stands epochs checked (n + 1)
passed epochs checked n none stands =
    rw (add-one n) (stands ∙ sym (ap (next_policy (succession epochs.anchor) (policy_after checked (succession epochs.anchor) n)) (rw (add-one n) at none)))

-- an entry of the policy's reference
pub found_policy : (r : Repository) (entry : Entry) (name target : List ℕ) → entry.body ≡ Reference name target → bytes_eq name policy_name ≡ true → found_in r entry ≡ Some (policy_of r target)
found_policy r entry name target is named =
    ap (λ (body : EntryBody). if is_of body policy_name then Some (policy_of r (target_of body)) else None) is
    ∙ ap (λ (b : Bool). if b then Some (policy_of r target) else None) named

-- an entry that is not for the policy is taken by nothing
pub takes_other : (r : Repository) (entry : Entry) (epochs : Epochs) → found_in r entry ≡ None → Takes r entry epochs epochs
takes_other r entry epochs none = record { stands = λ checked n there stood. passed epochs checked n (there ∙ none) stood }

-- and one that is by its target
pub takes_policy : (r : Repository) (entry : Entry) (found : Result Policy PolicyFault) (before after : Epochs) → found_in r entry ≡ Some found
    → ((checked : Found) (n number : ℕ) → IsNext checked n number found → Stands before checked n → Stands after checked number) → Takes r entry before after
takes_policy r entry found before after is stands = record { stands = λ checked n there stood. stands checked n (n + 1) (next_is checked n found (there ∙ is)) stood }

-- the epochs stand for the first of the entries at these ids
pub record StandsUpTo (r : Repository) (ids : List (List ℕ)) (i : ℕ) (epochs : Epochs) : Type 0 where
  pub there : HasEntries r (take i ids)
  pub are : (entries : List Entry) → AreEntriesAt r ids entries → Stands epochs (found_of r entries) i

-- none of them
pub none_taken : (r : Repository) (ids : List (List ℕ)) (epochs : Epochs) → ((checked : Found) → Stands epochs checked 0) → StandsUpTo r ids 0 epochs
none_taken r ids epochs start = record { there = record { entries = []; are = refl }; are = λ entries are. start (found_of r entries) }

-- the entry at a place of these ids is that of the next number
at_place : (r : Repository) (ids : List (List ℕ)) (entries : List Entry) (i : ℕ) (id : List ℕ) (entry : Entry) → i < length ids → id ≡ get_or ids i id
    → AreEntriesAt r ids entries → entry_at r id ≡ Some entry → slice_get entries i ≡ Some entry
at_place r [] entries i id entry below at are read = absurd (omega arith)
at_place r (x ∷ ids) [] i id entry below at are read = let never : ⊥ = cc are in absurd never
at_place r (x ∷ ids) (e ∷ entries) zero id entry below at are read = let here : entry_at r x ≡ Some e = cc are in sym here ∙ ap (entry_at r) (sym at) ∙ read
at_place r (x ∷ ids) (e ∷ entries) (suc i) id entry below at are read =
    let rest : AreEntriesAt r ids entries = cc are in at_place r ids entries i id entry (omega arith) at rest read

pub found_next : (r : Repository) (ids : List (List ℕ)) (entries : List Entry) (i : ℕ) (id : List ℕ) (entry : Entry) → i < length ids → id ≡ get_or ids i id
    → AreEntriesAt r ids entries → entry_at r id ≡ Some entry → found_of r entries (i + 1) ≡ found_in r entry
found_next r ids entries i id entry below at are read =
    let back : (i + 1) - 1 ≡ i = omega arith in
    rw back (rw (at_place r ids entries i id entry below at are read) refl)

-- as many entries as ids
pub as_many : (r : Repository) (ids : List (List ℕ)) (entries : List Entry) → AreEntriesAt r ids entries → length entries ≡ length ids
as_many r [] [] are = refl
as_many r [] (e ∷ entries) are = let never : ⊥ = cc are in absurd never
as_many r (x ∷ ids) [] are = let never : ⊥ = cc are in absurd never
as_many r (x ∷ ids) (e ∷ entries) are = let rest : AreEntriesAt r ids entries = cc are in ap suc (as_many r ids entries rest)

-- an entry stands at each id up to the next
has_more : (r : Repository) (ids : List (List ℕ)) (i : ℕ) (id : List ℕ) (entry : Entry) → i < length ids → id ≡ get_or ids i id → entry_at r id ≡ Some entry → HasEntries r (take i ids) → HasEntries r (take (i + 1) ids)
has_more r ids i id entry below at read has = record {
  entries = has.entries ++ entry ∷ [];
  are = ap (map (entry_at r)) (take_more ids i id below ∙ ap (λ (x : List ℕ). take i ids ++ x ∷ []) (sym at))
      ∙ map-append (entry_at r) (take i ids) (id ∷ []) ∙ (λ j. has.are j ++ read j ∷ []) ∙ sym (map-append (λ (e : Entry). Some e) has.entries (entry ∷ []));
}

-- one entry more
pub one_more : (r : Repository) (ids : List (List ℕ)) (i : ℕ) (id : List ℕ) (before after : Epochs) → i < length ids → id ≡ get_or ids i id
    → TakesAt r id before after → StandsUpTo r ids i before → StandsUpTo r ids (i + 1) after
one_more r ids i id before after below at taken so = record {
  there = has_more r ids i id taken.entry below at taken.read so.there;
  are = λ entries are.
      let takes = taken.takes in
      takes.stands (found_of r entries) i (found_next r ids entries i id taken.entry below at are taken.read) (so.are entries are);
}

-- all of them
pub all_taken : (r : Repository) (ids : List (List ℕ)) (i : ℕ) (epochs : Epochs) → length ids ≤ i → i ≤ length ids → StandsUpTo r ids i epochs → StandsAt r ids epochs
all_taken r ids i epochs past within so = record {
  there = subst (HasEntries r) (take_all i ids past) so.there;
  for = λ entries are.
      let whole : i ≡ length entries = omega (arith, as_many r ids entries are) in
      record { is = subst (λ (n : ℕ). Stands epochs (found_of r entries) n) whole (so.are entries are) };
}

-- ---- where no entry stands

pub misses : (r : Repository) (ids : List (List ℕ)) (i : ℕ) (id : List ℕ) (epochs : Epochs) (fault : LogFault) → i < length ids → id ≡ get_or ids i id → StandsUpTo r ids i epochs → IsNoEntryAs r id fault → IsNamed id fault → MissesEntry r ids fault
misses r ids i id epochs (log.Broken named) below at so none is = record {
  front = take i ids;
  rest = drop (i + 1) ids;
  is = sym (take-append-drop (i + 1) ids) ∙ ap (λ (t : List (List ℕ)). t ++ drop (i + 1) ids) (take_more ids i id below ∙ ap (λ (x : List ℕ). take i ids ++ x ∷ []) (sym at ∙ sym is)) ∙ append_assoc (take i ids) (named ∷ []) (drop (i + 1) ids);
  there = so.there;
  none = ap (entry_at r) is ∙ none;
}
misses r ids i id epochs log.Failed below at so none is = tt
misses r ids i id epochs log.Memory below at so none is = tt

-- an id of a log never is
pub unmissed : (r : Repository) (ids : List (List ℕ)) (fault : LogFault) → IsLogOf r ids → MissesEntry r ids fault → IsBrokenAs r fault
unmissed r ids (log.Broken id) is missed = absurd (never_misses r ids missed.front id missed.rest is missed.is missed.none)
unmissed r ids log.Failed is missed = tt
unmissed r ids log.Memory is missed = tt

-- ---- the whole log

pub has_epochs : (r : Repository) (ids : List (List ℕ)) (epochs : Epochs) → IsLogOf r ids → StandsAt r ids epochs → HasEpochs r epochs
has_epochs r ids epochs is stands =
    let found = entries_from r ids [] ids is.linked refl in
    record { entries = found.0; history = record { ids = ids; log = is; are = found.1 }; stands = stands.for found.0 found.1 }

-- ---- one entry more than the log has

-- a fault under the policy in force is that behind the entries
pub fault_behind : (anchor : Option (List (List ℕ))) (r : Repository) (entries : List Entry) (epochs : Epochs) (target : List ℕ) (fault : Option PolicyFault) → epochs.anchor ≡ anchor → StandsFor r entries epochs
    → verdict_of fault ≡ verdict_of (fault_under (succession epochs.anchor) epochs.current (policy_of r target)) → fault ≡ epoch_fault anchor r entries target
fault_behind anchor r entries epochs target fault given stands told =
    same_fault fault (fault_under (succession epochs.anchor) epochs.current (policy_of r target)) told
    ∙ ap (λ (current : Option Policy). fault_under (succession epochs.anchor) current (policy_of r target)) stands.is
    ∙ ap (λ (a : Option (List (List ℕ))). epoch_fault a r entries target) given
  where
    same_fault : (x y : Option PolicyFault) → verdict_of x ≡ verdict_of y → x ≡ y
    same_fault None None e = refl
    same_fault None (Some y) e = cc e
    same_fault (Some x) None e = cc e
    same_fault (Some x) (Some y) e = cc e
