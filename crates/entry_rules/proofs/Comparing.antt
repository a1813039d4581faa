-- What a comparison says of two states.
use Rattle.std.specs.Prelude.{IfOk, OnOk}
use Rattle.std.proofs.Common.{◌≡◌, ◌&&◌, ℕ, Bool, true, false, List, Option, Some, None, Result, Ok, Err, refl, ap, sym, ◌∙◌, inl, inr}
use Rattle.std.proofs.lemmas.Bool.{false≢true}
use Rattle.rule_files.specs.declared.rules.RuleFile.{RuleFile}
use Rattle.tree_paths.specs.Changes.{IfChanged, IsComparison}
use Rattle.tree_paths.specs.States.{Ended, Faulty, Gone, Sound, is_sound, tree_at}
use Rattle.tree_paths.specs.declared.states.Comparison.{Comparison}
use Rattle.tree_paths.specs.declared.states.Comparison.TheVariants as comparison
use Rattle.entry_rules.specs.declared.faults.Fault.TheVariants.{Broken}
use Rattle.entry_rules.specs.Faults.{change_fault, rules_fault}
use Rattle.entry_rules.specs.RealRules.{has_one_tree}
use Rattle.entry_rules.specs.Signing.{tree_in}
use Rattle.judging.specs.Rules.{is_same_tree}

not_faulty : (e : Ended) (id : List ℕ) → is_sound e ≡ true → e ≡ Faulty id → ⊥
not_faulty e id sound is = false≢true (sym (ap is_sound is) ∙ sound)

both : (a b : Bool) → (a && b) ≡ true → (a ≡ true) × (b ≡ true)
both true b e = (refl, e)
both false b e = absurd (false≢true e)

-- what follows of two facts of an answer
pub by_both : {T E : Type 0} (P Q : T → Type 0) (S : Type 0) → (result : Result T E) → IfOk result P → IfOk result Q → ((x : T) → P x → Q x → S) → OnOk result S
by_both P Q S (Ok x) p q f = f x p q
by_both P Q S (Err e) p q f = tt

-- where both are sound, what holds of a change holds
pub whole_changed : (s t : Ended) (c : Comparison) (P : Type 0) → IsComparison s t c → is_sound s ≡ true → is_sound t ≡ true → IfChanged c P → P
whole_changed s t (comparison.Broken id) P is first second h = elim is [ inl from ↦ absurd (not_faulty s id first from) | inr to ↦ absurd (not_faulty t id second to.1) ]
whole_changed s t (comparison.Changed from to paths) P is first second h = h

pub sound_changed : (s t : Ended) (c : Comparison) (P : Type 0) → IsComparison s t c → (is_sound s && is_sound t) ≡ true → IfChanged c P → P
sound_changed s t c P is sound h =
    let parts = both (is_sound s) (is_sound t) sound in
    whole_changed s t c P is parts.0 parts.1 h

pub sound_tree : (e : Ended) (tree : List ℕ) → is_sound e ≡ true → tree ≡ tree_at e → tree_in e ≡ Some tree
sound_tree Gone tree sound is = ap Some (sym is)
sound_tree (Faulty id) tree sound is = absurd (false≢true sound)
sound_tree (Sound root ss c) tree sound is = ap Some (sym is)

pub sound_fault : (files : List RuleFile) (name : List ℕ) (signers : List (List ℕ)) (s t : Ended) → is_sound s ≡ true → is_sound t ≡ true → change_fault files name signers s t ≡ rules_fault files name signers s t
sound_fault files name signers (Faulty id) t a b = absurd (false≢true a)
sound_fault files name signers Gone (Faulty id) a b = absurd (false≢true b)
sound_fault files name signers Gone Gone a b = refl
sound_fault files name signers Gone (Sound tree ss c) a b = refl
sound_fault files name signers (Sound root xs d) (Faulty id) a b = absurd (false≢true b)
sound_fault files name signers (Sound root xs d) Gone a b = refl
sound_fault files name signers (Sound root xs d) (Sound tree ss c) a b = refl

pub broken_fault : (files : List RuleFile) (name : List ℕ) (signers : List (List ℕ)) (s t : Ended) (id : List ℕ) → IsComparison s t (comparison.Broken id) → change_fault files name signers s t ≡ Some (Broken id)
broken_fault files name signers s t id is = elim is [
  | inl from ↦ ap (λ (e : Ended). change_fault files name signers e t) from
  | inr to ↦ ap (λ (e : Ended). change_fault files name signers s e) to.1 ∙ second s to.0
] where
  second : (e : Ended) → is_sound e ≡ true → change_fault files name signers e (Faulty id) ≡ Some (Broken id)
  second Gone sound = refl
  second (Faulty other) sound = absurd (false≢true sound)
  second (Sound tree ss c) sound = refl

pub one_tree : (s t : Ended) (c : Comparison) → IsComparison s t c → has_one_tree c ≡ is_same_tree (tree_in s) (tree_in t)
one_tree s t (comparison.Broken id) is = elim is [
  | inl from ↦ ap (λ (e : Ended). is_same_tree (tree_in e) (tree_in t)) (sym from)
  | inr to ↦ sym (ap (λ (e : Ended). is_same_tree (tree_in s) (tree_in e)) to.1 ∙ no_second (tree_in s))
] where
  no_second : (o : Option (List ℕ)) → is_same_tree o None ≡ false
  no_second None = refl
  no_second (Some tree) = refl
one_tree s t (comparison.Changed from to paths) is =
    sym (ap (λ o. is_same_tree o (tree_in t)) (sound_tree s from is.from_sound is.from_is) ∙ ap (is_same_tree (Some from)) (sound_tree t to is.to_sound is.to_is))
