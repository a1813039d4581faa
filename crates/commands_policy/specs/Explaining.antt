-- What `explain` prints: the rules that a name reaches under the policy in force after the whole log.
use Rattle.std.specs.Prelude.{◌≡◌, ◌⊎◌, ◌++◌, ℕ, Bool, true, false, List, [], ◌∷◌, Option, Some, None, Result, Ok, Err}
use Rattle.std.specs.Prelude.{codes, decimal, map}
use Rattle.std.specs.List.{flat_map}
use Rattle.octets.specs.Content.{GainsPart, with_end}
use Rattle.git_object.specs.Repository.{Repository}
use Rattle.rsl_chain.specs.declared.entries.Entry.{Entry}
use Rattle.rsl_chain.specs.Logs.{IsBreakOf}
use Rattle.rsl_chain.specs.Histories.{IsHistory}
use Rattle.worlds.specs.Breaks.{break_line}
use Rattle.commands_log.specs.declared.faults.LogCommandFault.{LogCommandFault}
use Rattle.commands_log.specs.declared.faults.LogCommandFault.TheVariants.{Broken, KeeperFailed, SinkFailed, Memory}
use Rattle.worlds.specs.declared.ending.Ending.{Ending}
use Rattle.worlds.specs.declared.ending.Ending.TheVariants as ending
use Rattle.worlds.specs.declared.ending.Part.TheVariants as part
use Rattle.worlds.specs.declared.ending.Refusal.TheVariants as refusal
use Rattle.rule_files.specs.declared.rules.Rule.{Rule}
use Rattle.rule_files.specs.declared.rules.RuleFile.{RuleFile}
use Rattle.rule_delegations.specs.declared.places.RuleRef.{RuleRef}
use Rattle.rule_delegations.specs.Chains.{rule_at}
use Rattle.rule_delegations.specs.Reached.{AreReached, Name}
use Rattle.policy_epochs.specs.declared.policies.Policy.{Policy}
use Rattle.policy_reading.specs.InForce.{in_force}

-- whether the search ends behind a rule
abbrev pub openness : Bool → List ℕ
openness true = codes " terminating\n"
openness false = codes " open\n"

-- the line of a rule: its name, its threshold, whether it is terminating
unfoldable pub rule_line : Rule → List ℕ
rule_line rule = codes "rule " ++ rule.name ++ codes " " ++ decimal rule.threshold ++ openness rule.terminating

-- the lines of rules, or of none
abbrev pub rules_text : List Rule → List ℕ
rules_text [] = codes "unprotected\n"
rules_text (rule ∷ rules) = flat_map rule_line (rule ∷ rules)

-- these rules stand at these places, one at each
abbrev pub AreRulesAt : List RuleFile → List RuleRef → List Rule → Type 0
AreRulesAt files places rules = map (rule_at files) places ≡ map Some rules

-- the text has the lines of the rules at these places
pub record AreTold (files : List RuleFile) (places : List RuleRef) (text : List ℕ) : Type 0 where
  pub rules : List Rule
  pub are : AreRulesAt files places rules
  pub text_is : text ≡ rules_text rules

-- the text has the lines of the last rules of the chains that the name reaches, in pre-order
pub record ExplainsRules (files : List RuleFile) (name : Name) (text : List ℕ) : Type 0 where
  pub places : List RuleRef
  pub reached : AreReached files name places
  pub told : AreTold files places text

-- the text explains the name under a policy, or that there is none
abbrev pub Explains : Name → Option Policy → List ℕ → Type 0
Explains name None text = text ≡ codes "no-policy\n"
Explains name (Some policy) text = ExplainsRules policy.rules name text

-- the policy is the one in force after the repository's log, whatever keys its first root has
pub record IsLastPolicy (r : Repository) (policy : Option Policy) : Type 0 where
  pub entries : List Entry
  pub history : IsHistory r entries
  pub is : policy ≡ in_force None r entries

-- the text explains the name under a policy, which is the one in force where the store tells
pub record ExplainsLog (held : Option Repository) (name : Name) (text : List ℕ) : Type 0 where
  pub policy : Option Policy
  pub explains : Explains name policy text
  pub told : (r : Repository) → held ≡ Some r → IsLastPolicy r policy

-- how the program ends
abbrev pub explain_ending : Result (Unit {0}) LogCommandFault → Ending
explain_ending (Ok done) = ending.Done
explain_ending (Err (Broken id)) = ending.Broken
explain_ending (Err KeeperFailed) = ending.Refused (refusal.Fault part.Keeper)
explain_ending (Err SinkFailed) = ending.Refused (refusal.Fault part.Sink)
explain_ending (Err Memory) = ending.Refused refusal.Memory

module _ (held : Option Repository) (printed printed_now : Option (List ℕ)) (name : Name) where
  abbrev pub BreaksAt : List ℕ → Type 0
  BreaksAt id = (r : Repository) → held ≡ Some r → IsBreakOf r id

  -- a front of the text was printed, and not all of it
  pub record PrintsPart : Type 0 where
    pub text : List ℕ
    pub part : GainsPart printed printed_now text
    pub explains : ExplainsLog held name text

  -- a front of the line of a break was
  pub record PrintsBreakPart : Type 0 where
    pub id : List ℕ
    pub part : GainsPart printed printed_now (break_line id)
    pub breaks : BreaksAt id

  -- what printing the text comes to, before a break is told
  abbrev pub Prints : Result (Unit {0}) LogCommandFault → Type 0
  Prints (Ok done) = (text : List ℕ) × (printed_now ≡ with_end printed text) × ExplainsLog held name text
  Prints (Err (Broken id)) = (printed_now ≡ printed) × BreaksAt id
  Prints (Err KeeperFailed) = printed_now ≡ printed
  Prints (Err SinkFailed) = PrintsPart
  Prints (Err Memory) = printed_now ≡ printed

  -- what each outcome means: the text was printed, or the line of the log's break, or a front of one of these, or
  -- nothing
  abbrev pub ExplainEnds : Result (Unit {0}) LogCommandFault → Type 0
  ExplainEnds (Ok done) = (text : List ℕ) × (printed_now ≡ with_end printed text) × ExplainsLog held name text
  ExplainEnds (Err (Broken id)) = (printed_now ≡ with_end printed (break_line id)) × BreaksAt id
  ExplainEnds (Err KeeperFailed) = printed_now ≡ printed
  ExplainEnds (Err SinkFailed) = PrintsPart ⊎ PrintsBreakPart
  ExplainEnds (Err Memory) = printed_now ≡ printed
