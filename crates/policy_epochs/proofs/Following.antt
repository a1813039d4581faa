-- The rules of succession, read aloud.
use Rattle.std.proofs.Common.{◌≡◌, ◌↔◌, ◌<◌, ◌≤◌, ◌+◌, ◌&&◌, ◌||◌, ◌==◌, ℕ, nat_le, nat_lt, Bool, true, false, not, cond, List, Option, Some, None, refl, sym, subst, ◌∙◌, arith}
use Rattle.std.specs.Bool.{Decides}
use Rattle.std.specs.List.{Contains, find, list_all, list_any}
use Rattle.std.specs.Option.{option_map}
use Rattle.std.specs.Str.{bytes_eq}
use Rattle.std.proofs.lemmas.Bool.{le-leb, leb-true, true≢false}
use Rattle.std.proofs.lemmas.Bool.Decides.{Decides-and, Decides-eqb, Decides-ltb, Decides-not, Decides-or}
use Rattle.std.proofs.lemmas.Slice.Eq.{bytes_eq-Decides}
use Rattle.approvals.specs.Signers.{env_signers}
use Rattle.root_metadata.specs.Judged.{or_next}
use Rattle.root_metadata.specs.Persons.{count_in}
use Rattle.root_metadata.specs.Shapes.{only_if}
use Rattle.policy_epochs.specs.declared.policies.Policy.{Policy}
use Rattle.policy_epochs.specs.declared.policies.PolicyFile.{PolicyFile}
use Rattle.policy_epochs.specs.Succession.{anchor_fault, are_exactly, dropped_fault, following_fault, has_file, has_id, is_above, is_changed, is_dropped, is_given, is_known, is_lowered, is_raised, lowered_fault, may_go, root_fault, same_root, signing_fault, version_fault, was_lower}
use Rattle.policy_epochs.specs.Following.{AreKeysOf, Follows, HasFile, IsKeyOf, IsOther, IsRaised, MayGo}
use Rattle.policy_epochs.proofs.Members.{all_decides, any_decides, none_found}

-- ---- parts
le_decides : (a b : ℕ) → Decides (nat_le a b) (a ≤ b)
le_decides a b = (leb-true a b, le-leb a b)

only_none : {T : Type 0} (b : Bool) (x : T) → (only_if (not b) x ≡ None) ↔ (b ≡ true)
only_none true x = ((λ _. refl), λ _. refl)
only_none false x = ((λ h. absurd cc), λ h. absurd (true≢false (sym h)))

next_none : {T : Type 0} (a b : Option T) → (or_next a b ≡ None) ↔ ((a ≡ None) × (b ≡ None))
next_none None b = ((λ h. (refl, h)), λ h. h.1)
next_none (Some x) b = ((λ h. absurd cc), λ h. absurd (let e = h.0 in cc))

map_none : {S T : Type 0} (f : S → T) (o : Option S) → (option_map f o ≡ None) ↔ (o ≡ None)
map_none f None = ((λ _. refl), λ _. refl)
map_none f (Some x) = ((λ h. absurd cc), λ h. absurd cc)

-- the second where the first does not hold
unless : {A B : Type 0} (a b : Bool) → Decides a A → Decides b B → ((a || b) ≡ true) ↔ ((A → ⊥) → B)
unless true b da db = ((λ _ no_a. absurd (no_a (da.0 refl))), λ _. refl)
unless false b da db = ((λ h _. db.0 h), λ h. db.1 (h (λ x. true≢false (sym (da.1 x)))))

neither : {A B : Type 0} (a b : Bool) → Decides a A → Decides b B → ((not a && not b) ≡ false) ↔ ((A → ⊥) → B)
neither true b da db = ((λ _ no_a. absurd (no_a (da.0 refl))), λ _. refl)
neither false true da db = ((λ _ _. db.0 refl), λ _. refl)
neither false false da db = ((λ h. absurd (true≢false h)), λ h. absurd (true≢false (sym (db.1 (h (λ x. true≢false (sym (da.1 x))))))))

both_none : {A B C D : Type 0} → A ↔ B → C ↔ D → (A × C) ↔ (B × D)
both_none f g = ((λ h. (f.0 h.0, g.0 h.1)), λ h. (f.1 h.0, g.1 h.1))

-- ---- the root
version_none : (old new : Policy) → (version_fault old new ≡ None) ↔ (IsOther old new → new.root.version ≡ old.root.version + 1)
version_none old new =
    let a = only_none (same_root old new || new.root.version == old.root.version + 1) _ in
    let b = unless (same_root old new) (new.root.version == old.root.version + 1) (bytes_eq-Decides new.envelope.payload old.envelope.payload) (Decides-eqb new.root.version (old.root.version + 1)) in
    ((λ h. b.0 (a.0 h)), λ h. a.1 (b.1 h))

root_none : (old new : Policy) → (root_fault old new ≡ None) ↔ (IsOther old new → old.root.root.threshold ≤ count_in old.root.root.persons (env_signers new.envelope old.root.keys))
root_none old new = by_test (same_root old new) (bytes_eq-Decides new.envelope.payload old.envelope.payload) where
  got : ℕ
  got = count_in old.root.root.persons (env_signers new.envelope old.root.keys)

  by_test : (b : Bool) → Decides b (new.envelope.payload ≡ old.envelope.payload) → (cond b None (signing_fault old (env_signers new.envelope old.root.keys)) ≡ None) ↔ (IsOther old new → old.root.root.threshold ≤ count_in old.root.root.persons (env_signers new.envelope old.root.keys))
  by_test true d = ((λ _ other. absurd (other (d.0 refl))), λ _. refl)
  by_test false d =
      let a = only_none (nat_le old.root.root.threshold (count_in old.root.root.persons (env_signers new.envelope old.root.keys))) _ in
      let e = le_decides old.root.root.threshold (count_in old.root.root.persons (env_signers new.envelope old.root.keys)) in
      ((λ h _. e.0 (a.0 h)), λ h. a.1 (e.1 (h (λ is. true≢false (sym (d.1 is))))))

-- ---- files
changed_none : (was now : PolicyFile) → (is_changed was now ≡ false) ↔ (now.name ≡ was.name → (now.payload ≡ was.payload → ⊥) → was.version < now.version)
changed_none was now = by_tests (bytes_eq now.name was.name) (bytes_eq now.payload was.payload) (nat_le now.version was.version) (bytes_eq-Decides now.name was.name) (bytes_eq-Decides now.payload was.payload) (le_decides now.version was.version) where
  by_tests : (x y z : Bool) → Decides x (now.name ≡ was.name) → Decides y (now.payload ≡ was.payload) → Decides z (now.version ≤ was.version)
      → ((x && (not y && z)) ≡ false) ↔ (now.name ≡ was.name → (now.payload ≡ was.payload → ⊥) → was.version < now.version)
  by_tests false y z dx dy dz = ((λ _ own. absurd (true≢false (sym (dx.1 own)))), λ _. refl)
  by_tests true true z dx dy dz = ((λ _ own other. absurd (other (dy.0 refl))), λ _. refl)
  by_tests true false true dx dy dz = (
    (λ h. absurd (true≢false h)),
    λ h. absurd (let lt = h (dx.0 refl) (λ is. true≢false (sym (dy.1 is))) in let le = dz.0 refl in omega arith),
  )
  by_tests true false false dx dy dz = ((λ _ own other. above (λ le. true≢false (sym (dz.1 le)))), λ _. refl) where
    above : (now.version ≤ was.version → ⊥) → was.version < now.version
    above high = grind arith

any_none : {X : Type 0} (p : X → Bool) (P : X → Type 0) → ((x : X) → (p x ≡ false) ↔ P x) → (xs : List X) → (list_any p xs ≡ false) ↔ ((x : X) → Contains xs x → P x)
any_none {X} p P each xs = by_test (list_any p xs) (any_decides p (λ x. p x ≡ true) (λ x. ((λ h. h), λ h. h)) xs) where
  by_test : (b : Bool) → Decides b ((x : X) × (Contains xs x × (p x ≡ true))) → (b ≡ false) ↔ ((x : X) → Contains xs x → P x)
  by_test true d = (
    (λ h. absurd (true≢false h)),
    λ h. absurd (let w = d.0 refl in true≢false (sym w.1.1 ∙ (each w.0).1 (h w.0 w.1.0))),
  )
  by_test false d = ((λ _ x there. (each x).0 (fails (λ is. true≢false (sym (d.1 (x, (there, is))))) (p x) refl)), λ _. refl) where
    fails : {x : X} → (p x ≡ true → ⊥) → (v : Bool) → p x ≡ v → p x ≡ false
    fails no_x true is = absurd (no_x is)
    fails no_x false is = is

lowered_none : (old new : Policy) → (lowered_fault old new ≡ None) ↔ ((was : PolicyFile) → Contains old.files was → (now : PolicyFile) → Contains new.files now → now.name ≡ was.name → (now.payload ≡ was.payload → ⊥) → was.version < now.version)
lowered_none old new =
    let a = map_none _ (find (is_lowered new.files) old.files) in
    let b = none_found (is_lowered new.files) (λ was. (now : PolicyFile) → Contains new.files now → now.name ≡ was.name → (now.payload ≡ was.payload → ⊥) → was.version < now.version)
    (λ was. any_none (is_changed was) (λ now. now.name ≡ was.name → (now.payload ≡ was.payload → ⊥) → was.version < now.version) (changed_none was) new.files) old.files in
    ((λ h. b.0 (a.0 h)), λ h. a.1 (b.1 h))

file_decides : (files : List PolicyFile) (name : List ℕ) → Decides (has_file files name) (HasFile files name)
file_decides files name = any_decides (λ file. bytes_eq file.name name) (λ file. file.name ≡ name) (λ file. bytes_eq-Decides file.name name) files

raised_decides : (old new : List PolicyFile) (name : List ℕ) → Decides (is_raised old new name) (IsRaised old new name)
raised_decides old new name =
    any_decides (λ now. is_above old name now)
    (λ now. (now.name ≡ name) × ((was : PolicyFile) × (Contains old was × ((was.name ≡ name) × (was.version < now.version)))))
    (λ now. Decides-and (bytes_eq now.name name) (was_lower old name now.version) (bytes_eq-Decides now.name name)
    (any_decides (λ was. bytes_eq was.name name && nat_lt was.version now.version) (λ was. (was.name ≡ name) × (was.version < now.version))
    (λ was. Decides-and (bytes_eq was.name name) (nat_lt was.version now.version) (bytes_eq-Decides was.name name) (Decides-ltb was.version now.version)) old))
    new

may_decides : (old new : Policy) (holder : Option (List ℕ)) → Decides (may_go old.files new.files (nat_lt old.root.version new.root.version) holder) (MayGo old new holder)
may_decides old new None = Decides-ltb old.root.version new.root.version
may_decides old new (Some name) = Decides-or (is_raised old.files new.files name) (not (has_file new.files name)) (raised_decides old.files new.files name) (Decides-not (has_file new.files name) (file_decides new.files name))

dropped_none : (old new : Policy) → (dropped_fault old new ≡ None) ↔ ((was : PolicyFile) → Contains old.files was → (HasFile new.files was.name → ⊥) → MayGo old new was.holder)
dropped_none old new =
    let test = is_dropped old.files new.files (nat_lt old.root.version new.root.version) in
    let a = map_none _ (find test old.files) in
    let b = none_found test (λ was. (HasFile new.files was.name → ⊥) → MayGo old new was.holder)
    (λ was. neither (has_file new.files was.name) (may_go old.files new.files (nat_lt old.root.version new.root.version) was.holder) (file_decides new.files was.name) (may_decides old new was.holder)) old.files in
    ((λ h. b.0 (a.0 h)), λ h. a.1 (b.1 h))

pub follows : (old new : Policy) → (following_fault old new ≡ None) ↔ Follows old new
follows old new =
    let v = version_none old new in
    let r = root_none old new in
    let l = lowered_none old new in
    let d = dropped_none old new in
    let one = next_none (version_fault old new) (or_next (root_fault old new) (or_next (lowered_fault old new) (dropped_fault old new))) in
    let two = next_none (root_fault old new) (or_next (lowered_fault old new) (dropped_fault old new)) in
    let three = next_none (lowered_fault old new) (dropped_fault old new) in (
      (λ h.
          let a = one.0 h in
          let b = two.0 a.1 in
          let c = three.0 b.1 in
          record { next = v.0 a.0; signed = r.0 b.0; raised = λ was now there here. l.0 c.0 was there now here; dropped = d.0 c.1 }),
      λ is. one.1 (v.1 is.next, two.1 (r.1 is.signed, three.1 (l.1 (λ was there now here. is.raised was now there here), d.1 is.dropped))),
    )

-- ---- the anchor
id_decides : (ids : List (List ℕ)) (id : List ℕ) → Decides (has_id ids id) (Contains ids id)
id_decides ids id =
    let d = any_decides (λ other. bytes_eq other id) (λ other. other ≡ id) (λ other. bytes_eq-Decides other id) ids in
    ((λ h. let w = d.0 h in let Q : List ℕ → Type 0 = λ x. Contains ids x in subst Q w.1.1 w.1.0), λ h. d.1 (id, (h, refl)))

pub anchored : (ids : List (List ℕ)) (new : Policy) → (anchor_fault (Some ids) new ≡ None) ↔ AreKeysOf new.root.root.persons ids
anchored ids new =
    let persons = new.root.root.persons in
    let a = only_none (are_exactly ids persons) _ in
    let given = all_decides (is_given ids) (λ person. (id : List ℕ) → Contains person.keyids id → Contains ids id) (λ person. all_decides (has_id ids) (Contains ids) (id_decides ids) person.keyids) persons in
    let known = all_decides (is_known persons) (IsKeyOf persons) (λ id. any_decides (λ person. has_id person.keyids id) (λ person. Contains person.keyids id) (λ person. id_decides person.keyids id) persons) ids in
    let both = Decides-and (list_all (is_given ids) persons) (list_all (is_known persons) ids) given known in (
      (λ h. let w = both.0 (a.0 h) in λ id. (w.1 id, λ key. w.0 key.0 key.1.0 id key.1.1)),
      λ h. a.1 (both.1 ((λ person there id own. (h id).1 (person, (there, own))), λ id there. (h id).0 there)),
    )
