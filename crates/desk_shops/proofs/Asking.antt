-- A verdict, a stream, a shop that was just made, and what a shop holds.
use Rattle.std.proofs.Common.{◌≡◌, ◌++◌, ◌∷◌, [], ℕ, Bool, List, length, map, Some, None, Result, Ok, Err, refl, sym, ap, subst, ◌∙◌, arith}
use Rattle.std.specs.List.{AllByRecursion}
use Rattle.std.specs.Prelude.{IfOk}
use Rattle.std.proofs.lemmas.List.{append-nil, length-append, length-map}
use Rattle.octets.specs.Causes.{HasCause}
use Rattle.git_object.specs.Repository.{Repository, value_of}
use Rattle.keeper_api.specs.Faults.{keeper_failed}
use Rattle.keeper_api.specs.Undisturbed.{Undisturbed}
use Rattle.keeper_api.specs.declared.keeper_faults.KeeperFault.{KeeperFault}
use Rattle.keeper_api.specs.declared.keepers.Keeper as keeper
use Rattle.rsl_chain.specs.Entries.{Taken}
use Rattle.judging.specs.Verdicts.{IsJudged}
use Rattle.judging.specs.declared.verdicts.Verdict.{Verdict}
use Rattle.entry_rules.specs.RealRules.{real_rules}
use Rattle.entry_rules.specs.declared.faults.Fault.{Fault}
use Rattle.verify_ref.specs.Logs.{AreEntries}
use Rattle.pushes.specs.Steps.{ids_of}
use Rattle.desk_turns.specs.Histories.{History, Member, Opening, count}
use Rattle.desk_turns.specs.Legal.{IsLegal, last, last_repository, loaded}
use Rattle.desk_turns.proofs.Keeps.{same_stands}
use Rattle.desk_turns.proofs.Loads.{load_stands}
use Rattle.desk_core.proofs.Astray.{first_at, taken_there}
use Rattle.desk_turns.specs.States.{is_fault}
use Rattle.desk_shops.specs.Texts.{IsTextOf, text_keeper_failed}
use Rattle.desk_shops.specs.declared.text_faults.TextFault.{TextFault}
use Rattle.desk_shops.specs.Calls.{IsLeftAlone}
use Rattle.desk_shops.specs.Desks.{IsStreamOf}
use Rattle.desk_shops.proofs.Counting.{counted}
use Rattle.desk_shops.proofs.Refusals.{stream_cause, stream_is}
use Rattle.desk_core.specs.GateSteps.{Ledger}
use Rattle.desk_core.specs.States.{Judges}
use Rattle.desk_core.specs.declared.gate_state.GateState.{GateState}
use Rattle.desk_core.proofs.Holding.{gate_holds}
use Rattle.desk_shops.specs.GateCalls.{GateJudges, IsVerdictAt, judged_by, text_or_reply}
use Rattle.desk_shops.specs.GateStanding.{IsHeldAt, IsJustLoadedState, Opens, ShopHolds, Stands}
use Rattle.desk_shops.proofs.Ledgers.{repository_is, settled_of}

module _ {R : Type 0} (k : keeper.Ghosts R) (old new : R) (was now : GateState) (same : Undisturbed k old new) (log_is : now.log ≡ was.log) (clear : was.log.doubt ≡ None) where
  now_clear : now.log.doubt ≡ None
  now_clear = ap (λ (d : _). d.doubt) log_is ∙ clear

  -- a call that adds nothing
  pub asked_stands : {T E : Type 0} (is_fault : E → Bool) (result : Result T E) → HasCause is_fault (k.faults old) (k.faults new) result
      → ((r : Repository) (log : List Taken) → k.content new ≡ Some r → Judges r log was → Judges r log now) → (h : History) → Stands k old was h → Stands k new now h
  asked_stands is_fault result cause keeps h is = record {
    desk = same_stands k old new h was.log now.log log_is same cause.later (counted is_fault (k.faults old) (k.faults new) result cause) is.desk;
    judged = λ r told.
        let held = same.content r told in
        let j = is.judged r held in
        record {
          ledger = j.ledger;
          gated = j.gated;
          judges = keeps r j.ledger.log told j.judges;
          held = subst (IsHeldAt j.ledger r now) (sym now_clear) (repository_is k old was h is r held clear);
        };
  }

  -- what is told is the last repository
  pub last_told : (h : History) → Stands k old was h → (r : Repository) → k.content new ≡ Some r → last h ≡ Some r
  last_told h is r told = (settled_of k old was h is.desk clear).held r (same.content r told)

  pub verdict_at : (name : List ℕ) (verdict : Verdict Fault) → ((r : Repository) (log : List Taken) → k.content new ≡ Some r → Judges r log was → IsJudged (real_rules None) log name (value_of r name) verdict)
      → (h : History) → Stands k old was h → (r : Repository) → k.content new ≡ Some r → IsVerdictAt h name verdict
  verdict_at name verdict judged h is r told =
      let held = same.content r told in
      let j = is.judged r held in
      let here = repository_is k old was h is r held clear in
      record {
        ledger = j.ledger;
        gated = j.gated;
        judged = subst (λ (x : Repository). IsJudged (real_rules None) j.ledger.log name (value_of x name) verdict) here (judged r j.ledger.log told j.judges);
      }

  pub verdict_found : (name : List ℕ) (result : Result (Verdict Fault) KeeperFault)
      → IfOk result (λ verdict. (r : Repository) (log : List Taken) → k.content new ≡ Some r → Judges r log was → IsJudged (real_rules None) log name (value_of r name) verdict)
      → IfOk (judged_by result) (λ judged. (h : History) → Stands k old was h → GateJudges k new h name judged)
  verdict_found name (Ok verdict) judged = λ h is r told. verdict_at name verdict judged h is r told
  verdict_found name (Err fault) judged = tt

pub verdict_cause : (before now : ℕ) (result : Result (Verdict Fault) KeeperFault) → HasCause keeper_failed before now result → HasCause keeper_failed before now (judged_by result)
verdict_cause before now (Ok verdict) cause = record { later = cause.later; is = cause.is }
verdict_cause before now (Err fault) cause = record { later = cause.later; is = cause.is }

-- ---- a stream

pub stream_of : (r : Repository) (result : Result (List ℕ) TextFault) → IsTextOf r result → IsStreamOf r (text_or_reply result)
stream_of r (Ok text) is = is
stream_of r (Err fault) is = stream_is r fault is

pub text_cause : (before now : ℕ) (result : Result (List ℕ) TextFault) → HasCause text_keeper_failed before now result → HasCause is_fault before now (text_or_reply result)
text_cause before now (Ok text) cause = record { later = cause.later; is = cause.is }
text_cause before now (Err fault) cause = stream_cause before now fault cause

-- ---- a shop that was just made

same_repository : (o : Opening) (ids : List (List ℕ)) → last_repository o.repository (map (loaded o) ids) ≡ o.repository
same_repository o [] = refl
same_repository o (id ∷ ids) = same_repository o ids

opening_last : (h : History) → IsLegal h → h.opening.loaded ≡ count h → last h ≡ h.opening.repository
opening_last h legal all = by_later legal.later legal.members where
  by_later : (later : List Member) → h.members ≡ map (loaded h.opening) legal.ids ++ later → last h ≡ h.opening.repository
  by_later [] is = ap (last_repository h.opening.repository) (is ∙ append-nil (map (loaded h.opening) legal.ids)) ∙ same_repository h.opening legal.ids
  by_later (m ∷ later) is =
      let whole = ap length is in
      let parts = length-append (map (loaded h.opening) legal.ids) (m ∷ later) in
      let front = length-map legal.ids (loaded h.opening) in
      let many = legal.count in
      absurd (omega (arith, whole, parts, front, many, all))

in_one : (r : Repository) (ids : List (List ℕ)) (log : List Taken) → AreEntries r ids log → AllByRecursion (λ (t : Taken). t.repository ≡ r) log
in_one r ids [] are = tt
in_one r [] (t ∷ log) are = absurd (cc are)
in_one r (id ∷ ids) (t ∷ log) are = (let parts = first_at r id ids t log are in ((taken_there r id t parts.0).1, in_one r ids log parts.1))

pub opens : {R : Type 0} (k : keeper.Ghosts R) (store : R) (state : GateState) → IsJustLoadedState (k.content store) state → IsLeftAlone k store → (h : History) × Opens k store state h
opens k store state is alone =
    let found = load_stands k store state.log is.loaded alone in
    let h = found.0 in
    let opened = found.1 in
    let few = is.few in
    let many = opened.many in
    let clear : state.log.doubt ≡ None = ap (λ (d : _). d.doubt) is.loaded.is in (
      h,
      record {
        stands = record {
          desk = opened.stands;
          judged = λ r told.
              let w = is.judges r told in
              let g : Ledger = record { rows = state.log.log; log = w.0; repository = r } in
              let last_is = (settled_of k store state h opened.stands clear).held r told in
              record {
                ledger = g;
                gated = record {
                  start = g;
                  loaded = in_one r (ids_of state.log.log) w.0 w.1;
                  opening = sym (opening_last h opened.stands.legal opened.all_loaded) ∙ last_is;
                  many = sym many ∙ sym opened.all_loaded;
                  entries = w.1;
                  turns = [];
                  run = refl;
                  rows_are = opened.stands.log;
                  last_is = last_is;
                };
                judges = w.2;
                held = subst (IsHeldAt g r state) (sym clear) refl;
              };
        };
        all_loaded = opened.all_loaded;
        few = omega (arith, few, many);
        at_start = (omega (arith, few, many), opened.nobody);
      },
    )

pub shop_holds : {R : Type 0} (k : keeper.Ghosts R) → ShopHolds k
shop_holds k store state h is clear r told =
    let j = is.judged r told in
    (j.ledger, sym (repository_is k store state h is r told clear), j.gated, j.judges, λ gated beside start. gate_holds gated.start j.ledger gated.turns gated.run beside gated.loaded start)
