-- The rules at the places that were gone through, and their lines.
use Rattle.std.proofs.Common.{◌≡◌, ◌<◌, ◌≤◌, ◌+◌, ◌++◌, ◌∙◌, ℕ, List, [], ◌∷◌, get_or, length, take, Some, ap, refl, sym, subst, arith}
use Rattle.std.specs.Prelude.{◌==◌, true, false}
use Rattle.std.specs.List.{flat_map}
use Rattle.std.proofs.lemmas.Bool.{eqb-true}
use Rattle.std.proofs.lemmas.List.{map-append, flat_map_more, take_all, take_more}
use Rattle.rule_files.specs.declared.rules.Rule.{Rule}
use Rattle.rule_files.specs.declared.rules.RuleFile.{RuleFile}
use Rattle.rule_delegations.specs.declared.places.RuleRef.{RuleRef}
use Rattle.rule_delegations.specs.Chains.{rule_at}
use Rattle.rule_delegations.specs.Reached.{AreReached, Name}
use Rattle.commands_policy.specs.Explaining.{AreRulesAt, AreTold, ExplainsRules, rule_line, rules_text}

-- rules stand at these places, and the text has their lines
pub record AreListed (files : List RuleFile) (places : List RuleRef) (text : List ℕ) : Type 0 where
  pub rules : List Rule
  pub are : AreRulesAt files places rules
  pub text_is : text ≡ flat_map rule_line rules

pub none_listed : (files : List RuleFile) (text : List ℕ) → text ≡ [] → AreListed files [] text
none_listed files text empty = record { rules = []; are = refl; text_is = empty }

-- one more
pub one_more : (files : List RuleFile) (places : List RuleRef) (i : ℕ) (place d : RuleRef) (rule : Rule) (text text_now : List ℕ) → i < length places → place ≡ get_or places i d
    → AreListed files (take i places) text → rule_at files place ≡ Some rule → text_now ≡ text ++ rule_line rule → AreListed files (take (i + 1) places) text_now
one_more files places i place d rule text text_now below at so is gained =
    let front : take (i + 1) places ≡ take i places ++ place ∷ [] = take_more places i d below ∙ ap (λ (p : RuleRef). take i places ++ p ∷ []) (sym at) in
    let here : AreRulesAt files (place ∷ []) (rule ∷ []) = λ k. is k ∷ [] in
    subst (λ (ps : List RuleRef). AreListed files ps text_now) (sym front) (record {
      rules = so.rules ++ rule ∷ [];
      are = map-append (rule_at files) (take i places) (place ∷ []) ∙ (λ k. so.are k ++ here k) ∙ sym (map-append Some so.rules (rule ∷ []));
      text_is = gained ∙ ap (λ (t : List ℕ). t ++ rule_line rule) so.text_is ∙ flat_map_more rule_line [] so.rules rule;
    })

-- rules that are some
some_rules : (files : List RuleFile) (places : List RuleRef) (rules : List Rule) → (length places == 0) ≡ false → AreRulesAt files places rules → flat_map rule_line rules ≡ rules_text rules
some_rules files [] rules some are = let never : ⊥ = cc some in absurd never
some_rules files (p ∷ ps) [] some are = let never : ⊥ = cc are in absurd never
some_rules files (p ∷ ps) (rule ∷ rules) some are = refl

-- all of them
pub all_listed : (files : List RuleFile) (places : List RuleRef) (i : ℕ) (text : List ℕ) → (length places == 0) ≡ false → length places ≤ i → AreListed files (take i places) text → AreTold files places text
all_listed files places i text some past so =
    let are : AreRulesAt files places so.rules = subst (λ (ps : List RuleRef). AreRulesAt files ps so.rules) (take_all i places past) so.are in
    record { rules = so.rules; are = are; text_is = so.text_is ∙ some_rules files places so.rules some are }

-- there is none
pub none_told : (files : List RuleFile) (places : List RuleRef) (text : List ℕ) → (length places == 0) ≡ true → text ≡ rules_text [] → AreTold files places text
none_told files [] text none is = record { rules = []; are = refl; text_is = is }
none_told files (p ∷ ps) text none is = absurd (omega (arith, eqb-true (length (p ∷ ps)) 0 none))

-- with the places that the name reaches
pub explained : (files : List RuleFile) (name : Name) (places given : List RuleRef) (text : List ℕ) → given ≡ places → AreReached files name places → AreTold files given text → ExplainsRules files name text
explained files name places given text same reached told = record { places = places; reached = reached; told = subst (λ (ps : List RuleRef). AreTold files ps text) same told }
