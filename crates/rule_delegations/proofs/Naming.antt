-- The file of a name, and the rule at a place.
use Rattle.std.proofs.Common.{◌≡◌, ◌+◌, ℕ, suc, Bool, true, false, cond, List, [], ◌∷◌, Option, Some, None, refl, sym, ap, ◌∙◌, arith}
use Prim.Native.Nat as Nat
use Rattle.std.specs.Prelude.{slice_get, option_and_then}
use Rattle.std.specs.Option.{option_map_or}
use Rattle.std.specs.List.{position_from}
use Rattle.std.specs.Str.{bytes_eq}
use Rattle.std.proofs.lemmas.Slice.Eq.{bytes_eq-Decides}
use Rattle.rule_files.specs.declared.rules.Rule.{Rule}
use Rattle.rule_files.specs.declared.rules.RuleFile.{RuleFile}
use Rattle.rule_delegations.specs.declared.places.RuleRef.{RuleRef}
use Rattle.rule_delegations.specs.Chains.{IsNamed, rule_at}
use Rattle.rule_delegations.specs.Forests.{AreDistinct, place_named, rules_of}

module _ {X : Type 0} (test : X → Bool) where
  -- the place that was found passes
  found_passes : (i at : ℕ) (xs : List X) → position_from test i xs ≡ Some at → (k : ℕ) × (at ≡ i + k) × (x : X) × (slice_get xs k ≡ Some x) × (test x ≡ true)
  found_passes i at [] e = absurd (cc e)
  found_passes i at (x ∷ xs) e = by_first (test x) refl (found_passes (i + 1) at xs) e where
    by_first : (b : Bool) → test x ≡ b → (position_from test (i + 1) xs ≡ Some at → (k : ℕ) × (at ≡ i + 1 + k) × (y : X) × (slice_get xs k ≡ Some y) × (test y ≡ true))
        → cond b (Some i) (position_from test (i + 1) xs) ≡ Some at → (k : ℕ) × (at ≡ i + k) × (y : X) × (slice_get (x ∷ xs) k ≡ Some y) × (test y ≡ true)
    by_first true passes later h = let same : i ≡ at = cc in (0, omega (arith, same), x, refl, passes)
    by_first false fails later h = let (k, place, y, is, passes) = later h in (suc k, omega (arith, place), y, is, passes)

  -- where an item passes some place is found
  passes_found : (i k : ℕ) (x : X) (xs : List X) → slice_get xs k ≡ Some x → test x ≡ true → (at : ℕ) × (position_from test i xs ≡ Some at)
  passes_found i k x [] is passes = absurd (cc is)
  passes_found i Nat.zero x (y ∷ ys) is passes =
      let same : y ≡ x = cc in (i, ap (λ (b : Bool). cond b (Some i) (position_from test (i + 1) ys)) (ap test same ∙ passes))
  passes_found i (suc k) x (y ∷ ys) is passes = by_first (test y) refl (passes_found (i + 1) k x ys is passes) where
    by_first : (b : Bool) → test y ≡ b → ((at : ℕ) × (position_from test (i + 1) ys ≡ Some at)) → (at : ℕ) × (position_from test i (y ∷ ys) ≡ Some at)
    by_first true here later = (i, ap (λ (b : Bool). cond b (Some i) (position_from test (i + 1) ys)) here)
    by_first false there later = (later.0, ap (λ (b : Bool). cond b (Some i) (position_from test (i + 1) ys)) there ∙ later.1)

pub named_there : (files : List RuleFile) (name : List ℕ) (at : ℕ) → place_named files name ≡ Some at → IsNamed files at name
named_there files name at e =
    let (k, place, file, is, passes) = found_passes (λ (f : RuleFile). bytes_eq name f.name) 0 at files e in
    let same : at ≡ k = omega (arith, place) in
    record { file = file; is = ap (slice_get files) same ∙ is; named = sym ((bytes_eq-Decides name file.name).0 passes) }

pub there_named : (files : List RuleFile) (name : List ℕ) (at : ℕ) → AreDistinct files → IsNamed files at name → place_named files name ≡ Some at
there_named files name at distinct named =
    let passes = (bytes_eq-Decides name named.file.name).1 (sym named.named) in
    let (other, found) = passes_found (λ (f : RuleFile). bytes_eq name f.name) 0 at named.file files named.is passes in
    found ∙ ap Some (distinct other at name (named_there files name other found) named)

pub rule_in : (files : List RuleFile) (file at : ℕ) (rule : Rule) → slice_get (rules_of files file) at ≡ Some rule → rule_at files (record { file = file; rule = at }) ≡ Some rule
rule_in files file at rule is = by_file (slice_get files file) is where
  by_file : (found : Option RuleFile) → slice_get (option_map_or (λ held. held.rules) found []) at ≡ Some rule → option_and_then (λ held. slice_get held.rules at) found ≡ Some rule
  by_file None e = absurd (cc e)
  by_file (Some held) e = e

pub in_rule : (files : List RuleFile) (p : RuleRef) (rule : Rule) → rule_at files p ≡ Some rule → slice_get (rules_of files p.file) p.rule ≡ Some rule
in_rule files p rule is = by_file (slice_get files p.file) is where
  by_file : (found : Option RuleFile) → option_and_then (λ held. slice_get held.rules p.rule) found ≡ Some rule → slice_get (option_map_or (λ held. held.rules) found []) p.rule ≡ Some rule
  by_file None e = absurd (cc e)
  by_file (Some held) e = e
