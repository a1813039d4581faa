-- A verdict by the entries of a history.
use Rattle.std.proofs.Common.{◌≡◌, ◌++◌, ◌∙◌, [], ℕ, List, length, drop, map, Option, Some, None, sym, ap, subst, append-nil, arith}
use Rattle.std.specs.Prelude.{Result, Ok, Err, OnErr, IfOk, IfErr}
use Rattle.std.proofs.lemmas.List.{length-append, length-map}
use Rattle.octets.specs.Causes.{HasCause}
use Rattle.git_object.specs.Repository.{Repository, value_of}
use Rattle.keeper_api.specs.Undisturbed.{Undisturbed}
use Rattle.keeper_api.specs.declared.keepers.Keeper as keeper
use Rattle.rsl_chain.specs.Entries.{Taken, target_of}
use Rattle.rsl_chain.specs.Logs.{IsLogOf, IsUnbroken, log_failed}
use Rattle.rsl_chain.specs.declared.log_faults.LogFault.{LogFault}
use Rattle.rsl_chain.specs.declared.log_faults.LogFault.TheVariants.{Broken, Failed, Memory}
use Rattle.judging.specs.Engines.{taken}
use Rattle.judging.specs.Verdicts.{IsJudged}
use Rattle.judging.specs.declared.verdicts.Verdict.{Verdict}
use Rattle.entry_rules.specs.RealRules.{real_rules}
use Rattle.entry_rules.specs.declared.faults.Fault.{Fault}
use Rattle.verify_ref.specs.Following.{Follows}
use Rattle.verify_ref.specs.declared.engine.Engine.{Engine}
use Rattle.desk_turns.specs.Histories.{History, count}
use Rattle.pushes.specs.Steps.{ids_of}
use Rattle.pushes.specs.declared.rows.Row.{Row}
use Rattle.desk_core.specs.Lagging.{BreaksBehind, Judges, TakesFront, ids_behind}
use Rattle.desk_core.specs.Laws.{taken_id}
use Rattle.desk_core.specs.declared.desk_state.DeskState.{DeskState}
use Rattle.desk_core.proofs.Astray.{ids_are, none_in_log}
use Rattle.desk_turns.specs.Legal.{last, rows, rows_of}
use Rattle.desk_turns.specs.Standing.{IsHeld, IsSettled}
use Rattle.desk_turns.proofs.Keeps.{same_stands}
use Rattle.desk_shops.specs.Standing.{AreEntriesOf, IsVerdictOf, Lags, Stands}
use Rattle.desk_shops.proofs.Counting.{counted}
use Rattle.desk_shops.proofs.Engines.{front_ids, taken_more}
use Rattle.desk_shops.proofs.Standing.{many_rows}

-- ---- what was taken

many_taken : (log : List Taken) (engine : Engine) → Follows log engine → taken engine.entries ≡ length log
many_taken log engine follows = let targets : Taken → List ℕ = λ t. target_of t.entry.body in ap length follows.targets ∙ length-map log targets

module _ (was now : DeskState) (h : History) (log_is : was.log.log ≡ rows h) (lags : Lags h was.engine) (r : Repository) (last_is : last h ≡ Some r) where
  abbrev behind : List (List ℕ)
  behind = ids_behind was.log.log was.engine

  behind_is : behind ≡ ids_of (drop (length lags.log) (rows_of h.members))
  behind_is = ap (λ (n : ℕ). ids_of (drop n was.log.log)) (many_taken lags.log was.engine lags.follows) ∙ ap (λ (rows : List Row). ids_of (drop (length lags.log) rows)) log_is

  whole : map taken_id lags.log ++ behind ≡ ids_of (rows_of h.members)
  whole = ap (λ (ids : List (List ℕ)). map taken_id lags.log ++ ids) behind_is ∙ front_ids lags.log h.members lags.entries

  entries_of : (front : TakesFront r lags.log behind now.engine) → AreEntriesOf (lags.log ++ front.taken.more) h.members
  entries_of front = taken_more r h.opening.repository lags.log front.taken.more h.members front.front front.rest lags.entries last_is (sym behind_is ∙ front.is) front.taken.entries

  lags_on : TakesFront r lags.log behind now.engine → Lags h now.engine
  lags_on front = record { log = lags.log ++ front.taken.more; follows = front.taken.follows; entries = entries_of front }

  -- where all were taken, they are as many as the members
  all_of : (more : List Taken) → map taken_id more ≡ behind → length (lags.log ++ more) ≡ count h
  all_of more ids =
      let both = length-append lags.log more in
      let left = length-map lags.log taken_id in
      let right = length-map more taken_id in
      let same : length (map taken_id more) ≡ length behind = ap length ids in
      let sum : length (map taken_id lags.log ++ behind) ≡ length (ids_of (rows_of h.members)) = ap length whole in
      let parts = length-append (map taken_id lags.log) behind in
      let rows_many = many_rows h in
      let ids_many : length (ids_of (rows_of h.members)) ≡ length (rows_of h.members) = length-map (rows_of h.members) (λ (row : Row). row.id) in
      omega (arith, both, left, right, same, sum, parts, rows_many, ids_many)

-- the rows that were taken are a front of those behind, also where they are all
module _ {R : Type 0} (k : keeper.Ghosts R) (new : R) (was now : DeskState) (name : List ℕ) where
  abbrev FoundAll : Result (Verdict Fault) LogFault → Type 0
  FoundAll result = IfOk result (λ verdict. (r : Repository) (log : List Taken) → k.content new ≡ Some r → Follows log was.engine → Judges r log (ids_behind was.log.log was.engine) now.engine name verdict)

  abbrev FoundFront : Result (Verdict Fault) LogFault → Type 0
  FoundFront result = OnErr result ((r : Repository) (log : List Taken) → k.content new ≡ Some r → Follows log was.engine → TakesFront r log (ids_behind was.log.log was.engine) now.engine)

  abbrev FoundBreak : Result (Verdict Fault) LogFault → Type 0
  FoundBreak result = IfErr result (λ fault. (r : Repository) (log : List Taken) → k.content new ≡ Some r → Follows log was.engine → BreaksBehind r log (ids_behind was.log.log was.engine) fault)

  abbrev all_as_front : (r : Repository) (log : List Taken) (verdict : Verdict Fault) → Judges r log (ids_behind was.log.log was.engine) now.engine name verdict → TakesFront r log (ids_behind was.log.log was.engine) now.engine
  all_as_front r log verdict judges = record { front = ids_behind was.log.log was.engine; rest = []; is = sym (append-nil (ids_behind was.log.log was.engine)); taken = judges.taken }

  front_of : (result : Result (Verdict Fault) LogFault) → FoundAll result → FoundFront result → (r : Repository) (log : List Taken) → k.content new ≡ Some r → Follows log was.engine → TakesFront r log (ids_behind was.log.log was.engine) now.engine
  front_of (Ok verdict) all front r log told follows = all_as_front r log verdict (all r log told follows)
  front_of (Err fault) all front r log told follows = front r log told follows

  module _ (old : R) (same : Undisturbed k old new) (clear : was.log.doubt ≡ None) (rules : now.engine.rules ≡ was.engine.rules) where
    last_told : (h : History) → Stands k old was h → (r : Repository) → k.content new ≡ Some r → last h ≡ Some r
    last_told h is r told = (let settled : IsSettled k old h = subst (IsHeld k old h) clear is.desk.held in settled.held r (same.content r told))

    anchored : (h : History) → Stands k old was h → now.engine.rules.anchor ≡ None
    anchored h is = ap (λ (x : _). x.anchor) rules ∙ is.anchor

    pub verdict_stands : (result : Result (Verdict Fault) LogFault) → now.log ≡ was.log → HasCause log_failed (k.faults old) (k.faults new) result → FoundAll result → FoundFront result → (h : History) → Stands k old was h → Stands k new now h
    verdict_stands result log_same cause all front h is = record {
      desk = same_stands k old new h was.log now.log log_same same cause.later (counted log_failed (k.faults old) (k.faults new) result cause) is.desk;
      anchor = anchored h is;
      engine = λ r told.
          let lags = is.engine r (same.content r told) in
          lags_on was now h is.desk.log lags r (last_told h is r told) (front_of result all front r lags.log told lags.follows);
    }

    verdict_of : (verdict : Verdict Fault) (h : History) (r : Repository) → Stands k old was h → k.content new ≡ Some r → ((log : List Taken) → Follows log was.engine → Judges r log (ids_behind was.log.log was.engine) now.engine name verdict)
        → IsVerdictOf h name verdict
    verdict_of verdict h r is told all =
        let lags = is.engine r (same.content r told) in
        let judges = all lags.log lags.follows in
        let last_is = last_told h is r told in
        record {
          log = lags.log ++ judges.taken.more;
          entries = entries_of was now h is.desk.log lags r last_is (all_as_front r lags.log verdict judges);
          all = all_of was now h is.desk.log lags r last_is judges.taken.more (ids_are r (ids_behind was.log.log was.engine) judges.taken.more judges.taken.entries);
          repository = r;
          last_is = last_is;
          judged = subst (λ (a : Option (List (List ℕ))). IsJudged (real_rules a) (lags.log ++ judges.taken.more) name (value_of r name) verdict) (anchored h is) judges.judged;
        }

    pub verdict_judged : (result : Result (Verdict Fault) LogFault) → FoundAll result → IfOk result (λ verdict. (h : History) (r : Repository) → Stands k old was h → k.content new ≡ Some r → IsVerdictOf h name verdict)
    verdict_judged (Ok verdict) all = λ h r is told. verdict_of verdict h r is told (λ log follows. all r log told follows)
    verdict_judged (Err fault) all = tt

    never_broken : (fault : LogFault) (h : History) (r : Repository) → Stands k old was h → k.content new ≡ Some r
        → ((log : List Taken) → Follows log was.engine → BreaksBehind r log (ids_behind was.log.log was.engine) fault) → IsUnbroken fault
    never_broken (Broken id) h r is told breaks =
        let lags = is.engine r (same.content r told) in
        let last_is = last_told h is r told in
        let rows_are : ids_of was.log.log ≡ map taken_id lags.log ++ ids_behind was.log.log was.engine = ap ids_of is.desk.log ∙ sym (whole was now h is.desk.log lags r last_is) in
        none_in_log r lags.log (ids_behind was.log.log was.engine) id (subst (IsLogOf r) rows_are (is.desk.is_log r last_is)) (breaks lags.log lags.follows)
    never_broken Failed h r is told breaks = tt
    never_broken Memory h r is told breaks = tt

    pub verdict_unbroken : (result : Result (Verdict Fault) LogFault) → FoundBreak result → IfErr result (λ fault. (h : History) (r : Repository) → Stands k old was h → k.content new ≡ Some r → IsUnbroken fault)
    verdict_unbroken (Ok verdict) broken = tt
    verdict_unbroken (Err fault) broken = λ h r is told. never_broken fault h r is told (λ log follows. broken r log told follows)
