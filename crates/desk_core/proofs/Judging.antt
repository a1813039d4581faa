-- What a state judges, while its engine takes the entry that is kept.
use Rattle.std.proofs.Common.{◌≡◌, ◌++◌, ◌∷◌, [], ℕ, List, Option, Some, None, sym, ap, subst, ◌∙◌}
use Rattle.git_object.specs.Repository.{Repository}
use Rattle.rsl_chain.specs.Entries.{Taken}
use Rattle.rsl_chain.specs.declared.entries.Entry.{Entry}
use Rattle.judging.specs.Verdicts.{IsJudged}
use Rattle.judging.specs.declared.verdicts.Verdict.{Verdict}
use Rattle.entry_rules.specs.RealRules.{real_rules}
use Rattle.entry_rules.specs.declared.faults.Fault.{Fault}
use Rattle.verify_ref.specs.Following.{Follows}
use Rattle.verify_ref.specs.declared.engine.Engine.{Engine}
use Rattle.desk_turns.specs.States.{Desk}
use Rattle.desk_core.specs.States.{IsAt, IsBehind, IsOneBehind, Judges}
use Rattle.desk_core.specs.declared.gate_state.GateState.{GateState}

pub caught_one : (r : Repository) (log : List Taken) (was now : Engine) (entry : Entry) → ((front : List Taken) → Follows front was → Follows (front ++ record { entry = entry; repository = r } ∷ []) now) → IsOneBehind r log was entry
    → Follows log now
caught_one r log was now entry takes is = subst (λ (l : List Taken). Follows l now) (sym is.is) (takes is.front is.follows)

pub behind_stays : (r : Repository) (log : List Taken) (was now : Engine) (waiting : Option Entry) → ((l : List Taken) → Follows l was → Follows l now) → IsBehind r log was waiting → IsBehind r log now waiting
behind_stays r log was now None keeps is = keeps log is
behind_stays r log was now (Some entry) keeps is = record { front = is.front; follows = keeps is.front is.follows; is = is.is }

module _ (r : Repository) (log : List Taken) (was : GateState) (clear : was.log.doubt ≡ None) where
  at_clear : Judges r log was → IsBehind r log was.engine was.waiting
  at_clear is = subst (λ (doubt : Option (List ℕ)). IsAt r log was.engine was.waiting doubt) clear is.at

  pub follows_of : was.waiting ≡ None → Judges r log was → Follows log was.engine
  follows_of none is = subst (λ (waiting : Option Entry). IsBehind r log was.engine waiting) none (at_clear is)

  -- another engine and another entry, which judge the same
  pub judges_with : (engine : Engine) (waiting : Option Entry) → engine.rules ≡ was.engine.rules → IsBehind r log engine waiting → Judges r log was → Judges r log (record { log = was.log; engine = engine; waiting = waiting })
  judges_with engine waiting rules behind is = record {
    rows = is.rows;
    anchor = ap (λ (x : _). x.anchor) rules ∙ is.anchor;
    at = subst (λ (doubt : Option (List ℕ)). IsAt r log engine waiting doubt) (sym clear) behind;
  }

  pub judges_caught : (engine : Engine) → engine.rules ≡ was.engine.rules → (IsBehind r log was.engine was.waiting → Follows log engine) → Judges r log was → Judges r log (record { log = was.log; engine = engine; waiting = None })
  judges_caught engine rules caught is = judges_with engine None rules (caught (at_clear is)) is

  pub judges_still : (engine : Engine) → engine.rules ≡ was.engine.rules → ((l : List Taken) → Follows l was.engine → Follows l engine) → Judges r log was
      → Judges r log (record { log = was.log; engine = engine; waiting = was.waiting })
  judges_still engine rules keeps is = judges_with engine was.waiting rules (behind_stays r log was.engine engine was.waiting keeps (at_clear is)) is

-- what is judged by an engine that took all entries
pub judged_here : (r : Repository) (log : List Taken) (was now : GateState) → was.log.doubt ≡ None → now.log ≡ was.log → now.waiting ≡ None → Judges r log now → (name kept : List ℕ) (verdict : Verdict Fault)
    → (Follows log now.engine → IsJudged (real_rules now.engine.rules.anchor) log name kept verdict) → IsJudged (real_rules None) log name kept verdict
judged_here r log was now clear log_is none is name kept verdict judged =
    let now_clear : now.log.doubt ≡ None = ap (λ (d : Desk). d.doubt) log_is ∙ clear in
    subst (λ (anchor : Option (List (List ℕ))). IsJudged (real_rules anchor) log name kept verdict) is.anchor (judged (follows_of r log now now_clear none is))
