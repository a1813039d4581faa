-- What settling and pushes leave of the history for which a shop stands.
use Rattle.std.proofs.Common.{◌≡◌, ◌≢◌, ◌+◌, ◌<◌, ◌≤◌, ◌∙◌, [], ℕ, List, length, Option, Some, None, Ok, Err, inl, inr, ⊎_elim, refl, sym, ap, subst, arith}
use Rattle.std.specs.Prelude.{IfSome}
use Rattle.std.specs.Option.{option_and_then, option_map}
use Rattle.std.specs.Result.{result_ok}
use Rattle.std.proofs.lemmas.List.{length-map}
use Rattle.octets.specs.Causes.{HasCause}
use Rattle.git_object.specs.Objects.{Pair, pair_id}
use Rattle.git_object.specs.Repository.{Repository}
use Rattle.git_object.specs.declared.kinds.Kind.{Kind}
use Rattle.git_object.specs.declared.kinds.Kind.TheVariants.{Blob, Commit, Tag, Tree}
use Rattle.keeper_api.specs.Changes.{changed}
use Rattle.keeper_api.specs.Undisturbed.{Undisturbed}
use Rattle.keeper_api.specs.declared.keepers.Keeper as keeper
use Rattle.rsl_chain.specs.Chain.{IsHead}
use Rattle.rsl_chain.specs.Logs.{entry_of_pair, head_from, head_in, head_of, head_of_pair}
use Rattle.rsl_chain.specs.Reading.{Reading, entry_as, reading}
use Rattle.rsl_chain.specs.declared.entries.Entry.{Entry}
use Rattle.rsl_chain.proofs.Lookups.{pair_valid}
use Rattle.pushes.specs.Pushes.{IsSpelled, entry_of_object, object_in}
use Rattle.pushes.specs.declared.pushed.Push.{Push}
use Rattle.desk_turns.specs.Histories.{History, count}
use Rattle.pushes.specs.Steps.{IsTaken, change_of, early}
use Rattle.pushes.specs.declared.replies.Reply.{Reply}
use Rattle.pushes.specs.declared.replies.Reply.TheVariants as reply_
use Rattle.pushes.specs.declared.rows.Row.{Row}
use Rattle.pushes.proofs.LogGrowth.{next_of}
use Rattle.desk_turns.specs.Settling.{Settles, is_unsettled, settled_as}
use Rattle.desk_turns.specs.States.{Desk, IsAnswered, Refuses, Steps, answered, is_fault}
use Rattle.desk_turns.specs.declared.settled.Settled.{Settled}
use Rattle.desk_turns.specs.declared.settled.Settled.TheVariants as settled_
use Rattle.desk_core.specs.declared.desk_state.DeskState.{DeskState}
use Rattle.desk_core.specs.Loading.{IsUnjudged}
use Rattle.verify_ref.specs.declared.engine.Engine.{Engine}
use Rattle.desk_turns.specs.Keeping.{HasMore}
use Rattle.desk_turns.specs.Legal.{last, row_of, rows}
use Rattle.desk_turns.specs.Standing.{IsDoubted, IsHeld, IsSettled, StandsFor}
use Rattle.desk_turns.proofs.Keeps.{step_keeps}
use Rattle.desk_turns.proofs.Loads.{load_stands}
use Rattle.desk_turns.proofs.Settles.{settle_keeps}
use Rattle.desk_shops.specs.Calls.{AddsOne, IsLeftAlone, Opens, Replies, StandsAfterPush, StandsAfterSettling}
use Rattle.desk_shops.specs.Standing.{Lags, Stands}
use Rattle.desk_shops.proofs.Engines.{lags_more}

-- ---- an entry that was read has a number of at most 1,000,000

read_head : (id : List ℕ) (read : Reading) → head_from read ≡ option_map head_in (result_ok (entry_as id read))
read_head id (Ok read) = refl
read_head id (Err n) = refl

pair_head : (id : List ℕ) (kind : Kind) (body : List ℕ) → head_of_pair kind body ≡ option_map head_in (entry_of_pair id kind body)
unfolding head_of
pair_head id Commit body = read_head id (reading body)
pair_head id Blob body = refl
pair_head id Tree body = refl
pair_head id Tag body = refl

few_of : (id : List ℕ) (kind : Kind) (body : List ℕ) (entry : Entry) → entry_of_pair id kind body ≡ Some entry → entry.number ≤ 1000000
few_of id kind body entry is =
    let head : head_of_pair kind body ≡ Some (head_in entry) = pair_head id kind body ∙ ap (option_map head_in) is in
    let valid : IfSome (Some (head_in entry)) IsHead = subst (λ (o : _). IfSome o IsHead) head (pair_valid kind body) in
    valid.most

few_numbers : (push : Push) → IsSpelled push → push.entry.number ≤ 1000000
few_numbers push spelled = by_object (object_in push.objects push.entry.id) spelled.entry where
  by_object : (o : Option Pair) → option_and_then entry_of_object o ≡ Some push.entry → push.entry.number ≤ 1000000
  by_object None is = absurd (cc is)
  by_object (Some pair) is = few_of (pair_id pair) pair.kind pair.body push.entry is

pub many_rows : (h : History) → length (rows h) ≡ count h
many_rows h = length-map h.members row_of

pub fits_few : (h : History) (push : Push) → IsSpelled push → early (rows h) push.entry ≡ None → count h < 1000000
fits_few h push spelled fits =
    let next = next_of (rows h) push.entry fits in
    let number = next.number in
    let most = few_numbers push spelled in
    let many = many_rows h in
    omega (arith, number, most, many)

-- ---- what is told now was told before

module _ {R : Type 0} (k : keeper.Ghosts R) (old new : R) where
  -- what is told now was told before
  abbrev pub WasTold : Type 0
  WasTold = (r' : Repository) → k.content new ≡ Some r' → (r : Repository) × (k.content old ≡ Some r)

  pub same_told : Undisturbed k old new → WasTold
  same_told same r' told = (r', same.content r' told)

  pub step_told : (was now : Desk) (push : Push) (seat : ℕ) (reply : Reply) → Steps k old new was now push seat reply → WasTold
  step_told was now push seat (reply_.Done number id) s = λ r' told. (let w = s.step r' told in (w.0, w.1))
  step_told was now push seat (reply_.Already number) s = same_told s.same
  step_told was now push seat (reply_.Stale number id) s = same_told s.same
  step_told was now push seat (reply_.Malformed at) s = absurd s
  step_told was now push seat (reply_.Incomplete id) s = same_told s.same
  step_told was now push seat (reply_.TooLarge size) s = absurd s
  step_told was now push seat (reply_.Misnumbered number expected) s = same_told s.same
  step_told was now push seat (reply_.Moved found expected) s = absurd s
  step_told was now push seat reply_.Fault (inl s) = same_told s.same
  step_told was now push seat reply_.Fault (inr s) = λ r' told. (let w = s.held r' told in (w.0, w.1))
  step_told was now push seat reply_.Memory s = same_told s.same

  settle_told : (was now : Desk) (settled : Settled) → Settles k old new was now settled → WasTold
  settle_told was now settled_.Clear s = ⊎_elim (λ same. same_told same.1) (λ tip r' told. (let w = tip.held r' told in (w.0, w.1))) s.store
  settle_told was now (settled_.TookIn id) s = λ r' told. (let w = s.store.held r' told in (w.0, w.1))
  settle_told was now (settled_.Moved found expected) s = same_told s.store
  settle_told was now settled_.Fault s =
      ⊎_elim same_told (⊎_elim (λ tip r' told. (let w = tip.held r' told in (w.0, w.1))) (λ tip r' told. (let w = tip.held r' told in (w.0, w.1)))) s.store
  settle_told was now settled_.Memory s = same_told s.store

  module _ (was now : DeskState) (engine_is : now.engine ≡ was.engine) (h : History) (is : Stands k old was h) (told : WasTold) where
    anchored : now.engine.rules.anchor ≡ None
    anchored = ap (λ (e : Engine). e.rules.anchor) engine_is ∙ is.anchor

    lagging : (r : Repository) → k.content new ≡ Some r → Lags h now.engine
    lagging r held = let w = told r held in subst (Lags h) (sym engine_is) (is.engine w.0 w.1)

    still : StandsFor k new now.log h → Stands k new now h
    still desk = record { desk = desk; anchor = anchored; engine = lagging }

    grown : (id : List ℕ) (seat : ℕ) → count h < 1000000 → HasMore k new now.log h id seat → AddsOne k new now h id seat
    grown id seat few more = record {
      member = more.member;
      id_is = more.id_is;
      seat_is = more.seat_is;
      few = few;
      stands = record { desk = more.stands; anchor = anchored; engine = λ r held. lags_more h more.member now.engine (lagging r held) };
    }

-- ---- settling

settled_few : {R : Type 0} (k : keeper.Ghosts R) (store : R) (was : Desk) (h : History) (id : List ℕ) → StandsFor k store was h → was.doubt ≡ Some id → count h < 1000000
settled_few k store was h id stands doubt =
    let doubted : IsDoubted k store h id = subst (IsHeld k store h) doubt stands.held in
    fits_few h doubted.push doubted.spelled doubted.fits

cleared : (now : Desk) (log : List Row) → now ≡ record { log = log; doubt = None } → now.doubt ≡ None
cleared now log is = ap (λ (d : Desk). d.doubt) is

settles_by : {R : Type 0} (k : keeper.Ghosts R) (old new : R) (was now : DeskState) (settled : Settled) (h : History) → Stands k old was h → now.engine ≡ was.engine → Settles k old new was.log now.log settled
    → HasCause is_unsettled (k.faults old) (k.faults new) (settled_as settled) → StandsAfterSettling k new now h settled
settles_by k old new was now settled_.Clear h is engine_is s cause =
    (still k old new was now engine_is h is (settle_told k old new was.log now.log settled_.Clear s) (settle_keeps k old new was.log now.log settled_.Clear h is.desk s cause), cleared now.log was.log.log s.state)
settles_by k old new was now (settled_.TookIn id) h is engine_is s cause = (
  grown k old new was now engine_is h is (settle_told k old new was.log now.log (settled_.TookIn id) s) id 0 (settled_few k old was.log h id is.desk s.doubt) (settle_keeps k old new was.log now.log (settled_.TookIn id) h is.desk s cause),
  ap (λ (d : Desk). d.doubt) s.state,
)
settles_by k old new was now (settled_.Moved found expected) h is engine_is s cause =
    let kept = settle_keeps k old new was.log now.log (settled_.Moved found expected) h is.desk s cause in
    (still k old new was now engine_is h is (settle_told k old new was.log now.log (settled_.Moved found expected) s) kept.0, kept.1)
settles_by k old new was now settled_.Fault h is engine_is s cause =
    still k old new was now engine_is h is (settle_told k old new was.log now.log settled_.Fault s) (settle_keeps k old new was.log now.log settled_.Fault h is.desk s cause)
settles_by k old new was now settled_.Memory h is engine_is s cause =
    still k old new was now engine_is h is (settle_told k old new was.log now.log settled_.Memory s) (settle_keeps k old new was.log now.log settled_.Memory h is.desk s cause)

pub settle_stands : {R : Type 0} (k : keeper.Ghosts R) (old new : R) (was now : DeskState) (settled : Settled) → now.engine ≡ was.engine → Settles k old new was.log now.log settled
    → HasCause is_unsettled (k.faults old) (k.faults new) (settled_as settled) → (h : History) → Stands k old was h → StandsAfterSettling k new now h settled
settle_stands k old new was now settled engine_is s cause h is = settles_by k old new was now settled h is engine_is s cause

-- ---- pushes

module _ {R : Type 0} (k : keeper.Ghosts R) (old new : R) (was now : DeskState) (push : Push) (seat : ℕ) (clear : was.log.doubt ≡ None) (spelled : IsSpelled push) (h : History) (is : Stands k old was h) where
  log_is : was.log.log ≡ rows h
  log_is = is.desk.log

  settled : IsSettled k old h
  settled = subst (IsHeld k old h) clear is.desk.held

  fits_here : early was.log.log push.entry ≡ None → early (rows h) push.entry ≡ None
  fits_here fits = subst (λ (log : List Row). early log push.entry ≡ None) log_is fits

  module _ (engine_is : now.engine ≡ was.engine) (some : 0 < seat) where
    not_none : seat ≢ 0
    not_none zero = omega (arith, some, zero)

    kept : (reply : Reply) → Steps k old new was.log now.log push seat reply → HasCause is_fault (k.faults old) (k.faults new) (answered reply) → StandsAfterPush k new now h push seat reply
    kept (reply_.Done number id) s cause =
        grown k old new was now engine_is h is (step_told k old new was.log now.log push seat (reply_.Done number id) s) push.entry.id seat (fits_few h push spelled (fits_here s.fits))
        (step_keeps k old new was.log now.log push seat (reply_.Done number id) h is.desk clear spelled not_none s cause)
    kept (reply_.Already number) s cause =
        still k old new was now engine_is h is (step_told k old new was.log now.log push seat (reply_.Already number) s) (step_keeps k old new was.log now.log push seat (reply_.Already number) h is.desk clear spelled not_none s cause)
    kept (reply_.Stale number id) s cause =
        still k old new was now engine_is h is (step_told k old new was.log now.log push seat (reply_.Stale number id) s) (step_keeps k old new was.log now.log push seat (reply_.Stale number id) h is.desk clear spelled not_none s cause)
    kept (reply_.Malformed at) s cause = s
    kept (reply_.Incomplete id) s cause =
        still k old new was now engine_is h is (step_told k old new was.log now.log push seat (reply_.Incomplete id) s) (step_keeps k old new was.log now.log push seat (reply_.Incomplete id) h is.desk clear spelled not_none s cause)
    kept (reply_.TooLarge size) s cause = s
    kept (reply_.Misnumbered number expected) s cause =
        still k old new was now engine_is h is (step_told k old new was.log now.log push seat (reply_.Misnumbered number expected) s)
        (step_keeps k old new was.log now.log push seat (reply_.Misnumbered number expected) h is.desk clear spelled not_none s cause)
    kept (reply_.Moved found expected) s cause = s
    kept reply_.Fault s cause =
        still k old new was now engine_is h is (step_told k old new was.log now.log push seat reply_.Fault s) (step_keeps k old new was.log now.log push seat reply_.Fault h is.desk clear spelled not_none s cause)
    kept reply_.Memory s cause =
        still k old new was now engine_is h is (step_told k old new was.log now.log push seat reply_.Memory s) (step_keeps k old new was.log now.log push seat reply_.Memory h is.desk clear spelled not_none s cause)

  refused : (reply : Reply) → IsAnswered k old new was.log now.log push reply → Refuses (k.content new) (rows h) push reply × ((r : Repository) → k.content new ≡ Some r → last h ≡ Some r)
  refused reply s = (subst (λ (log : List Row). Refuses (k.content new) log push reply) log_is s.why, λ r held. settled.held r (s.same.content r held))

  said : (reply : Reply) → Steps k old new was.log now.log push seat reply → Replies k new h push reply
  said (reply_.Done number id) s = record {
    number_is = s.number_is ∙ ap (λ (n : ℕ). n + 1) (ap length log_is ∙ many_rows h);
    id_is = s.id_is;
    fits = fits_here s.fits;
    made = λ r held.
        let w = s.step r held in (
          w.0,
          settled.held w.0 w.1,
          (
            subst (λ (log : List Row). IsTaken log w.0 push) log_is w.2.replies.0,
            w.2.repository_is ∙ ap (λ (log : List Row). changed (change_of log push) w.0) log_is,
          ),
        );
  }
  said (reply_.Already number) s = let w = refused (reply_.Already number) s in record { why = w.0; last_is = w.1 }
  said (reply_.Stale number id) s = let w = refused (reply_.Stale number id) s in record { why = w.0; last_is = w.1 }
  said (reply_.Malformed at) s = s
  said (reply_.Incomplete id) s = let w = refused (reply_.Incomplete id) s in record { why = w.0; last_is = w.1 }
  said (reply_.TooLarge size) s = s
  said (reply_.Misnumbered number expected) s = let w = refused (reply_.Misnumbered number expected) s in record { why = w.0; last_is = w.1 }
  said (reply_.Moved found expected) s = s
  said reply_.Fault s = tt
  said reply_.Memory s = tt

pub push_stands : {R : Type 0} (k : keeper.Ghosts R) (old new : R) (was now : DeskState) (push : Push) (seat : ℕ) (reply : Reply) → was.log.doubt ≡ None → IsSpelled push → 0 < seat → now.engine ≡ was.engine
    → Steps k old new was.log now.log push seat reply → HasCause is_fault (k.faults old) (k.faults new) (answered reply) → (h : History) → Stands k old was h → StandsAfterPush k new now h push seat reply
push_stands k old new was now push seat reply clear spelled some engine_is s cause h is = kept k old new was now push seat clear spelled h is engine_is some reply s cause

pub push_replies : {R : Type 0} (k : keeper.Ghosts R) (old new : R) (was now : DeskState) (push : Push) (seat : ℕ) (reply : Reply) → was.log.doubt ≡ None → IsSpelled push
    → Steps k old new was.log now.log push seat reply → (h : History) → Stands k old was h → Replies k new h push reply
push_replies k old new was now push seat reply clear spelled s h is = said k old new was now push seat clear spelled h is reply s

-- ---- a shop that was just made

pub opens : {R : Type 0} (k : keeper.Ghosts R) (store : R) (state : DeskState) → IsUnjudged (k.content store) state → IsLeftAlone k store → (h : History) × Opens k store state h
opens k store state is alone =
    let found = load_stands k store state.log is.loaded alone in
    let h = found.0 in
    let opened = found.1 in
    let few = is.few in
    let many = opened.many in (
      h,
      record {
        stands = record { desk = opened.stands; anchor = is.anchor; engine = λ r held. record { log = []; follows = is.follows; entries = tt } };
        all_loaded = opened.all_loaded;
        few = omega (arith, few, many);
        at_start = (omega (arith, few, many), opened.nobody);
      },
    )
