-- The search as a walk: the chains that it finds, and whether a terminating rule ended it.
use Rattle.std.specs.Prelude.{◌≡◌, ℕ, ◌+◌, ◌||◌, ◌++◌, Bool, false, List, [], ◌∷◌, Option, Some, None, map}
use Rattle.std.specs.Prelude.{if◌then◌else◌}
use Prim.Native.Nat as Nat
use Rattle.std.specs.Prelude.{nat_le}
use Rattle.std.specs.List.{list_any}
use Rattle.std.specs.Option.{option_map_or}
use Rattle.root_metadata.specs.Persons.{count_in}
use Rattle.rule_delegations.specs.declared.meeting.Asked.{Asked}
use Rattle.rule_delegations.specs.declared.meeting.Asked.TheVariants.{IsMet, Lists}
use Rattle.rule_delegations.specs.declared.meeting.Told.{Told}
use Rattle.rule_delegations.specs.declared.meeting.Told.TheVariants.{Met, Stopped, Passed}
use Rattle.rule_delegations.specs.Chains.{rule_at}
use Rattle.rule_files.specs.declared.rules.Rule.{Rule}
use Rattle.rule_files.specs.declared.rules.RuleFile.{RuleFile}
use Rattle.rule_delegations.specs.declared.places.RuleRef.{RuleRef}
use Rattle.rule_delegations.specs.Forests.{place_named, rules_of}
use Rattle.rule_delegations.specs.Reached.{Name, is_listed, rule_matches}

pub record Found : Type 0 where
  pub chains : List (List RuleRef)
  -- the places of their last rules
  pub places : List RuleRef
  pub stopped : Bool

abbrev pub nothing : Found
nothing = record { chains = []; places = []; stopped = false }

-- a matching rule, and what is found below it
abbrev pub at_rule : RuleRef → Bool → Found → Found
at_rule place terminating below = record {
  chains = (place ∷ []) ∷ map (λ chain. place ∷ chain) below.chains;
  places = place ∷ below.places;
  stopped = below.stopped || terminating;
}

-- what is found first, and then the rest where the search did not end
abbrev pub then_found : Found → Found → Found
then_found first rest = record {
  chains = (if first.stopped then first.chains else first.chains ++ rest.chains);
  places = (if first.stopped then first.places else first.places ++ rest.places);
  stopped = first.stopped || rest.stopped;
}

abbrev pub below_link : (ℕ → Found) → Option ℕ → Found
below_link into None = nothing
below_link into (Some file) = into file

abbrev pub one_rule : (ℕ → Found) → (List ℕ → Option ℕ) → Name → RuleRef → Rule → Found
one_rule into link name place rule =
    (if rule_matches name rule then at_rule place rule.terminating (below_link into (link rule.name)) else nothing)

-- the rules of a file from this one on
abbrev pub walk_rules : (ℕ → Found) → (List ℕ → Option ℕ) → Name → ℕ → ℕ → List Rule → Found
walk_rules into link name file at [] = nothing
walk_rules into link name file at (rule ∷ rules) =
    then_found (one_rule into link name (record { file = file; rule = at }) rule)
    (walk_rules into link name file (at + 1) rules)

-- the rules of a file, and so many levels of files below it
unfoldable pub walk : List RuleFile → Name → ℕ → ℕ → Found
walk files name Nat.zero file = nothing
walk files name (Nat.suc left) file = walk_rules (walk files name left) (place_named files) name file 0
    (rules_of files file)

-- what is found at a rule, and through so many levels of files below it
abbrev pub found_at : List RuleFile → Name → ℕ → RuleRef → Rule → Found
found_at files name left place rule = one_rule (walk files name left) (place_named files) name place rule

-- the places of what was found were added, and it ended as found
pub record Adds (old new : List RuleRef) (stopped : Bool) (found : Found) : Type 0 where
  pub added : new ≡ old ++ found.places
  pub ended : stopped ≡ found.stopped

-- what is still to be added makes it whole
abbrev pub GoesOn : List RuleRef → Found → List RuleRef → Found → Type 0
GoesOn old whole now rest = (end : List RuleRef) (stopped : Bool) → Adds now end stopped rest
    → Adds old end stopped whole

-- a rule has enough persons among the signers
abbrev pub is_enough : List (List ℕ) → Rule → Bool
is_enough signers rule = nat_le rule.threshold (count_in rule.persons signers)

-- the rule at a place passes a test
abbrev pub passes_at : List RuleFile → (Rule → Bool) → RuleRef → Bool
passes_at files test place = option_map_or test (rule_at files place) false

-- what a search tells: whether some rule that it found passes the test, and else whether it ended
abbrev pub told : List RuleFile → (Rule → Bool) → Found → Told
told files test found = (if list_any (passes_at files test) found.places then Met else
    (if found.stopped then Stopped else Passed))

-- what is asked of a rule, as a test of it
abbrev pub test_of : Asked → Rule → Bool
test_of (IsMet signers) rule = is_enough signers.now rule
test_of (Lists key) rule = is_listed rule.persons key.now
