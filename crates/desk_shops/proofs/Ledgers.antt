-- Ledgers of a history that grows.
use Rattle.std.proofs.Common.{◌≡◌, ◌++◌, ◌∷◌, [], ℕ, false, List, Option, Some, None, refl, sym, ap, subst, ◌∙◌}
use Rattle.std.specs.Option.{is_some}
use Rattle.std.specs.Prelude.{Bool, IfOk, Result, Ok, Err}
use Rattle.octets.specs.Causes.{HasCause}
use Rattle.git_object.specs.Repository.{Repository}
use Rattle.keeper_api.specs.declared.keeper_faults.KeeperFault.{KeeperFault}
use Rattle.keeper_api.specs.declared.keepers.Keeper as keeper
use Rattle.desk_turns.specs.Histories.{History, Member, with_member}
use Rattle.desk_turns.specs.Legal.{last, rows}
use Rattle.desk_turns.specs.Standing.{IsHeld, IsSettled, StandsFor}
use Rattle.desk_shops.specs.Desks.{none_of}
use Rattle.desk_shops.specs.declared.judged.Judged.{Judged}
use Rattle.desk_core.specs.GateSteps.{Ledger}
use Rattle.desk_core.specs.Runs.{Happens, Run, Turn}
use Rattle.desk_core.specs.States.{Judges, JudgesAt, ledger_of}
use Rattle.desk_core.specs.declared.gate_state.GateState.{GateState}
use Rattle.desk_shops.specs.GateCalls.{GateJudges}
use Rattle.desk_shops.specs.GateStanding.{IsGated, IsHeldAt, Stands}

-- one turn more
pub run_push : (g mid now : Ledger) (turns : List Turn) (turn : Turn) → Run g turns mid → Happens mid turn now → Run g (turns ++ turn ∷ []) now
run_push g mid now [] turn run happens = (now, subst (λ (x : Ledger). Happens x turn now) run happens, refl)
run_push g mid now (t ∷ turns) turn run happens = (run.0, run.1, run_push run.0 mid now turns turn run.2 happens)

pub gated_more : (h : History) (m : Member) (g now : Ledger) (turn : Turn) → IsGated h g → Happens g turn now → now.rows ≡ rows (with_member h m) → last (with_member h m) ≡ Some now.repository → IsGated (with_member h m) now
gated_more h m g now turn is happens rows_are last_is = record {
  start = is.start;
  loaded = is.loaded;
  opening = is.opening;
  many = is.many;
  entries = is.entries;
  turns = is.turns ++ turn ∷ [];
  run = run_push is.start g now is.turns turn is.run happens;
  rows_are = rows_are;
  last_is = last_is;
}

-- one repository is told
pub one_told : (o : Option Repository) (r s : Repository) → o ≡ Some r → o ≡ Some s → r ≡ s
one_told o r s is also = let both : Some r ≡ Some s = sym is ∙ also in cc

pub settled_of : {R : Type 0} (k : keeper.Ghosts R) (store : R) (state : GateState) (h : History) → StandsFor k store state.log h → state.log.doubt ≡ None → IsSettled k store h
settled_of k store state h is clear = subst (IsHeld k store h) clear is.held

module _ {R : Type 0} (k : keeper.Ghosts R) (store : R) (state : GateState) (h : History) (is : Stands k store state h) (r : Repository) (told : k.content store ≡ Some r) where
  pub ledger : Ledger
  ledger = (is.judged r told).ledger

  -- it judges so in whatever is told
  pub judges_at : JudgesAt (k.content store) (is.judged r told).ledger.log state
  judges_at s also = subst (λ (x : Repository). Judges x (is.judged r told).ledger.log state) (one_told (k.content store) r s told also) (is.judged r told).judges

  pub repository_is : state.log.doubt ≡ None → r ≡ (is.judged r told).ledger.repository
  repository_is clear = subst (IsHeldAt (is.judged r told).ledger r state) clear (is.judged r told).held

  pub ledger_is : state.log.doubt ≡ None → ledger_of state (is.judged r told).ledger.log r ≡ (is.judged r told).ledger
  ledger_is clear =
      let rows : state.log.log ≡ (is.judged r told).ledger.rows = is.desk.log ∙ sym (is.judged r told).gated.rows_are in
      let here = repository_is clear in λ i. record { rows = rows i; log = (is.judged r told).ledger.log; repository = here i }

-- ---- a state and a store as one

module _ {R : Type 0} (shop : GateState × R) (state : GateState) (store : R) (view_is : (state, store) ≡ shop) where
  pub stands_inside : (k : keeper.Ghosts R) (h : History) → Stands k shop.1 shop.0 h → Stands k store state h
  stands_inside k h is = subst (λ (x : GateState × R). Stands k x.1 x.0 h) (sym view_is) is

  pub cause_inside : {T E : Type 0} (k : keeper.Ghosts R) (is_fault : E → Bool) (now : ℕ) (result : Result T E) → HasCause is_fault (k.faults store) now result → HasCause is_fault (k.faults shop.1) now result
  cause_inside k is_fault now result cause = subst (λ (x : GateState × R). HasCause is_fault (k.faults x.1) now result) view_is cause

  pub judged_inside : (k : keeper.Ghosts R) (new : R) (name : List ℕ) (result : Result Judged KeeperFault) → IfOk result (λ judged. (h : History) → Stands k store state h → GateJudges k new h name judged)
      → IfOk result (λ judged. (h : History) → Stands k shop.1 shop.0 h → GateJudges k new h name judged)
  judged_inside k new name (Ok judged) found = λ h is. found h (stands_inside k h is)
  judged_inside k new name (Err fault) found = tt

  pub clear_inside : is_some shop.0.log.doubt ≡ false → state.log.doubt ≡ None
  clear_inside clear = none_of state.log.doubt (ap (λ (x : GateState × R). is_some x.0.log.doubt) view_is ∙ clear)
