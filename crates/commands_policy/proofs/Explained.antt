-- What is told of a name under the policy in force.
use Rattle.std.proofs.Common.{◌≡◌, ◌∙◌, ℕ, List, ap, length, refl, subst, sym}
use Rattle.std.specs.Prelude.{Option, Some, None, Result, Ok, Err}
use Rattle.std.specs.Result.{IsErrAnd}
use Rattle.octets.specs.Content.{GainsPart}
use Rattle.git_object.specs.Repository.{Repository}
use Rattle.rsl_chain.specs.Logs.{IsBrokenAs}
use Rattle.rsl_chain.specs.declared.log_faults.LogFault.{LogFault}
use Rattle.rsl_chain.specs.declared.log_faults.LogFault.TheVariants as log
use Rattle.commands_log.specs.Faults.{fault_of_log}
use Rattle.worlds.specs.Breaks.{break_line}
use Rattle.commands_log.specs.declared.faults.LogCommandFault.{LogCommandFault}
use Rattle.commands_log.specs.declared.faults.LogCommandFault.TheVariants.{SinkFailed}
use Rattle.policy_epochs.specs.Epochs.{policy_after}
use Rattle.policy_epochs.specs.Succession.{succession}
use Rattle.policy_epochs.specs.declared.epochs.Epochs.{Epochs}
use Rattle.rule_delegations.specs.Reached.{Name}
use Rattle.policy_reading.specs.InForce.{HasEpochs, found_of}
use Rattle.commands_policy.specs.Explaining.{BreaksAt, Explains, ExplainsLog, IsLastPolicy, Prints, PrintsBreakPart}

last_policy : (r : Repository) (epochs : Epochs) → epochs.anchor ≡ None → HasEpochs r epochs → IsLastPolicy r epochs.current
last_policy r epochs free has = record {
  entries = has.entries;
  history = has.history;
  is = (let stands = has.stands in stands.is) ∙ ap (λ (anchor : Option (List (List ℕ))). policy_after (found_of r has.entries) (succession anchor) (length has.entries)) free;
}

pub explains : (held : Option Repository) (epochs : Epochs) (name : Name) (text : List ℕ) → epochs.anchor ≡ None → ((r : Repository) → held ≡ Some r → HasEpochs r epochs) → Explains name epochs.current text → ExplainsLog held name text
explains held epochs name text free has is = record { policy = epochs.current; explains = is; told = λ r told. last_policy r epochs free (has r told) }

-- no text was loaded, and nothing was printed
pub not_loaded : (held : Option Repository) (printed : Option (List ℕ)) (name : Name) (result : Result (Unit {0}) LogCommandFault) (fault : LogFault) → IsErrAnd result (λ made. made ≡ fault_of_log fault)
    → ((r : Repository) → held ≡ Some r → IsBrokenAs r fault) → Prints held printed printed name result
not_loaded held printed name (Ok done) fault made told = absurd made
not_loaded held printed name (Err error) fault made told = subst (λ (e : LogCommandFault). Prints held printed printed name (Err e)) (sym made) (of_log fault told)
  where
    of_log : (f : LogFault) → ((r : Repository) → held ≡ Some r → IsBrokenAs r f) → Prints held printed printed name (Err (fault_of_log f))
    of_log (log.Broken id) breaks = (refl, breaks)
    of_log log.Failed breaks = refl
    of_log log.Memory breaks = refl

-- a front of the text was printed
pub cut : (held : Option Repository) (printed now : Option (List ℕ)) (name : Name) (text : List ℕ) (result : Result (Unit {0}) LogCommandFault) → IsErrAnd result (λ made. made ≡ SinkFailed)
    → ExplainsLog held name text → GainsPart printed now text → Prints held printed now name result
cut held printed now name text (Ok done) made explains part = absurd made
cut held printed now name text (Err error) made explains part =
    subst (λ (e : LogCommandFault). Prints held printed now name (Err e)) (sym made) (record { text = text; part = part; explains = explains })

-- a front of the line of the break was printed
pub break_cut : (held : Option Repository) (printed mid now : Option (List ℕ)) (name : Name) (id : List ℕ) → mid ≡ printed → BreaksAt held printed mid name id → GainsPart mid now (break_line id) → PrintsBreakPart held printed now name
break_cut held printed mid now name id quiet breaks part = record { id = id; part = subst (λ (p : Option (List ℕ)). GainsPart p now (break_line id)) quiet part; breaks = breaks }
