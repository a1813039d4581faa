-- What steps and settling leave of what a desk's log and its store stand for.
use Rattle.std.proofs.Common.{◌≡◌, ◌≢◌, ℕ, zero, suc, ◌+◌, ◌-◌, ◌^◌, ◌<◌, ◌≤◌, Bool, true, false, cond, List, [], ◌∷◌, ◌++◌, Option, Some, None, inl, inr, ⊎_elim, length, map, min, refl, sym, ap, subst, ◌∙◌, append_assoc, arith}
use Rattle.std.specs.Prelude.{◌⊎◌}
use Rattle.std.proofs.lemmas.Bool.{true≢false}
use Rattle.octets.specs.Causes.{HasCause, one_more}
use Rattle.git_object.specs.Repository.{Repository}
use Rattle.keeper_api.specs.Changes.{changed}
use Rattle.keeper_api.specs.Undisturbed.{Undisturbed}
use Rattle.keeper_api.specs.declared.keepers.Keeper as keeper
use Rattle.rsl_chain.specs.Chain.{last_of}
use Rattle.rsl_chain.specs.Logs.{IsLogOf}
use Rattle.rsl_chain.proofs.Chains.{ends, last_push}
use Rattle.pushes.specs.Pushes.{IsSpelled}
use Rattle.pushes.specs.declared.pushed.Push.{Push}
use Rattle.desk_turns.specs.Histories.{History, Member, Opening, with_member}
use Rattle.pushes.specs.Steps.{IsTaken, change_of, early, has_row, ids_of, row_id}
use Rattle.pushes.specs.declared.replies.Reply.TheVariants as reply_
use Rattle.pushes.specs.declared.rows.Row.{Row}
use Rattle.pushes.proofs.LogGrowth.{its_row, next_of, push_grows}
use Rattle.pushes.proofs.Walks.{tri}
use Rattle.desk_turns.specs.States.{Desk, IsDone, IsInDoubt, with_row}
use Rattle.desk_turns.specs.Keeping.{HasMore, StepKeeps}
use Rattle.desk_turns.specs.Legal.{FollowFrom, Follows, Rose, Took, faults, last, last_faults, last_repository, loaded, row_of, rows}
use Rattle.desk_turns.specs.Standing.{IsHeld, IsOneOf, IsSettled, StandsFor}

-- ---- lists of members

map_push : {A B : Type 0} (f : A → B) (xs : List A) (x : A) → map f (xs ++ x ∷ []) ≡ map f xs ++ f x ∷ []
map_push f [] x = refl
map_push f (y ∷ xs) x = ap (λ rest. f y ∷ rest) (map_push f xs x)

last_repository_push : (first : Option Repository) (ms : List Member) (m : Member) → last_repository first (ms ++ m ∷ []) ≡ m.repository
last_repository_push first [] m = refl
last_repository_push first (x ∷ ms) m = last_repository_push x.repository ms m

last_faults_push : (first : ℕ) (ms : List Member) (m : Member) → last_faults first (ms ++ m ∷ []) ≡ m.faults
last_faults_push first [] m = refl
last_faults_push first (x ∷ ms) m = last_faults_push x.faults ms m

follow_push : (o : Opening) (front ms : List Member) (m : Member) → FollowFrom o front ms → Follows o (front ++ ms) m → FollowFrom o front (ms ++ m ∷ [])
follow_push o front [] m all is = (subst (λ (fs : List Member). Follows o fs m) (none front) is, tt)
  where
    none : (xs : List Member) → xs ++ [] ≡ xs
    none [] = refl
    none (x ∷ xs) = ap (λ (rest : List Member). x ∷ rest) (none xs)
follow_push o front (x ∷ ms) m all is = (all.0, follow_push o (front ++ x ∷ []) ms m all.1 (subst (λ (fs : List Member). Follows o fs m) (sym (append_assoc front (x ∷ []) ms)) is))

-- ---- counts

rose : (c n now : ℕ) → c ≤ n → n ≤ now → now ≡ one_more n → Rose c now
rose c n now le later is = elim (tri (n + 1) (2 ^ 64 - 1)) [
  | inl lt ↦ record { later = omega (arith, le, later); more = inl (omega (arith, le, is, lt)) }
  | inr (inl same) ↦ record { later = omega (arith, le, later); more = inr (omega (arith, is, same)) }
  | inr (inr gt) ↦ record { later = omega (arith, le, later); more = inr (omega (arith, is, gt)) }
]

pub rose_on : (c n m : ℕ) → Rose c n → n ≤ m → (m ≡ n) ⊎ (m ≡ one_more n) → Rose c m
rose_on c n m was later why = record {
  later = let l = was.later in omega (arith, l, later);
  more = elim was.more [
    | inl lt ↦ inl (omega (arith, lt, later))
    | inr full ↦ inr (elim why [ inl same ↦ same ∙ full | inr risen ↦ omega (arith, risen, full) ])
  ];
}

choose : (b : Bool) (before now : ℕ) → now ≡ cond b (one_more before) before → (now ≡ before) ⊎ (now ≡ one_more before)
choose true before now e = inr e
choose false before now e = inl e

-- ---- the log's reference

-- a log whose reference is at an id has it
tip_has_row : (log : List Row) (id : List ℕ) → last_of (ids_of log) ≡ Some id → has_row log id ≡ true
tip_has_row log id e = elim (ends (ids_of log)) [
  | inl none ↦ (let both : None ≡ Some id = sym (ap last_of none) ∙ e in absurd (cc both))
  | inr some ↦
      let tip : Some some.1 ≡ Some id = sym (last_push some.0 some.1) ∙ sym (ap last_of some.2) ∙ e in
      let same : some.1 ≡ id = cc tip in
      its_row log some.0 id [] (some.2 ∙ ap (λ (x : List ℕ). some.0 ++ x ∷ []) same)
]

pub not_there : (log : List Row) (push : Push) → early log push.entry ≡ None → last_of (ids_of log) ≡ Some push.entry.id → ⊥
not_there log push fits e = let next = next_of log push.entry fits in true≢false (sym (tip_has_row log push.entry.id e) ∙ next.fresh)

module _ {R : Type 0} (k : keeper.Ghosts R) (old new : R) (h : History) where
  -- nothing changed but the count
  same_held : (doubt : Option (List ℕ)) → Undisturbed k old new → k.faults old ≤ k.faults new → (k.faults new ≡ k.faults old) ⊎ (k.faults new ≡ one_more (k.faults old)) → IsHeld k old h doubt → IsHeld k new h doubt
  same_held None same later why is = record {
    held = λ r e. is.held r (same.content r e);
    counted = let c = is.counted in omega (arith, c, later);
    stop = λ tells w e r left. is.stop (same.tells tells) w (same.content w e) r (same.left tells r left);
  }
  same_held (Some id) same later why is = record {
    push = is.push;
    spelled = is.spelled;
    id_is = is.id_is;
    fits = is.fits;
    held = λ r e. is.held r (same.content r e);
    rose = rose_on (faults h) (k.faults old) (k.faults new) is.rose later why;
    stop = λ tells w e r left. is.stop (same.tells tells) w (same.content w e) r (same.left tells r left);
  }

  pub same_stands : (was now : Desk) → now ≡ was → Undisturbed k old new → k.faults old ≤ k.faults new → (k.faults new ≡ k.faults old) ⊎ (k.faults new ≡ one_more (k.faults old)) → StandsFor k old was h → StandsFor k new now h
  same_stands was now state same later why is = subst (λ (d : Desk). StandsFor k new d h) (sym state) (record {
    legal = is.legal;
    log = is.log;
    is_log = is.is_log;
    held = same_held was.doubt same later why is.held;
  })

  settled_of : (was : Desk) → StandsFor k old was h → was.doubt ≡ None → IsSettled k old h
  settled_of was is none = subst (λ (d : Option (List ℕ)). IsHeld k old h d) none is.held

  -- one member more
  pub grown : (was : Desk) → StandsFor k old was h → (id : List ℕ) (seat : ℕ) → Took was.log (last h) id (k.content new) → faults h ≤ k.faults new → (seat ≡ 0 → Rose (faults h) (k.faults new))
      → (k.tells_left new ≡ true → (w : Repository) → k.content new ≡ Some w → (r : Repository) → k.left new r → r ≡ w) → HasMore k new (with_row was id seat) h id seat
  grown was is id seat took counted nobody stop =
      let m : Member = record { id = id; seat = seat; repository = k.content new; faults = k.faults new } in
      let next : History = with_member h m in
      let last_is : last next ≡ k.content new = last_repository_push h.opening.repository h.members m in
      let log_is : was.log ++ record { id = id; seat = seat } ∷ [] ≡ rows next = ap (λ (log : List Row). log ++ row_of m ∷ []) is.log ∙ sym (map_push row_of h.members m) in
      record {
        member = m;
        id_is = refl;
        seat_is = refl;
        stands = record {
          legal = record {
            ids = is.legal.ids;
            later = is.legal.later ++ m ∷ [];
            members = ap (λ (ms : List Member). ms ++ m ∷ []) is.legal.members ∙ append_assoc (map (loaded h.opening) is.legal.ids) is.legal.later (m ∷ []);
            count = is.legal.count;
            log = is.legal.log;
            follow = follow_push h.opening (map (loaded h.opening) is.legal.ids) is.legal.later m is.legal.follow
                (subst (λ (front : List Member). Follows h.opening front m) is.legal.members (record {
                  took = subst (λ (log : List Row). Took log (last h) id (k.content new)) is.log took;
                  counted = counted;
                  nobody = nobody;
                }));
          };
          log = log_is;
          is_log = λ r e.
              let w = took.step r (sym last_is ∙ e) in
              let ids : ids_of (was.log ++ record { id = id; seat = seat } ∷ []) ≡ ids_of was.log ++ took.push.entry.id ∷ [] =
              map_push row_id was.log (record { id = id; seat = seat }) ∙ ap (λ (x : List ℕ). ids_of was.log ++ x ∷ []) (sym took.id_is) in
              let grows = push_grows was.log w.0 took.push took.spelled took.fits (is.is_log w.0 w.1) in
              subst (λ (all : List (List ℕ)). IsLogOf r all) (sym ids) (subst (λ (x : Repository). IsLogOf x (ids_of was.log ++ took.push.entry.id ∷ [])) (sym w.2.1) grows);
          held = record {
            held = λ r e. last_is ∙ e;
            counted = let c = last_faults_push h.opening.faults h.members m in omega (arith, c);
            stop = stop;
          };
        };
      }

  pub done_stands : (was now : Desk) (push : Push) (seat number : ℕ) (id : List ℕ) → StandsFor k old was h → was.doubt ≡ None → IsSpelled push → seat ≢ 0 → IsDone k old new was now push seat number id
      → k.faults new ≡ k.faults old → HasMore k new now h push.entry.id seat
  done_stands was now push seat number id is none spelled some d count_is =
      let settled = settled_of was is none in
      let took : Took was.log (last h) push.entry.id (k.content new) = record {
        push = push;
        spelled = spelled;
        id_is = refl;
        fits = d.fits;
        step = λ r e. (let w = d.step r e in (w.0, settled.held w.0 w.1, (w.2.replies.0, w.2.repository_is)));
      } in
      subst (λ (x : Desk). HasMore k new x h push.entry.id seat) (sym d.state)
      (grown was is push.entry.id seat took (let c = settled.counted in omega (arith, c, count_is)) (λ zero. absurd (some zero)) d.stop)

  pub doubt_stands : (was now : Desk) (push : Push) → StandsFor k old was h → was.doubt ≡ None → IsSpelled push → IsInDoubt k old new was now push → k.faults old ≤ k.faults new → k.faults new ≡ one_more (k.faults old)
      → StandsFor k new now h
  doubt_stands was now push is none spelled d later risen =
      let settled = settled_of was is none in
      let one : (r was' r' : Repository) → k.content old ≡ Some was' → IsTaken was.log was' push → (r ≡ was') ⊎ (r ≡ changed (change_of was.log push) was') → IsOneOf h push r =
      λ r was' r' e taken either. record {
        was = was';
        last_is = settled.held was' e;
        taken = subst (λ (log : List Row). IsTaken log was' push) is.log taken;
        one = subst (λ (log : List Row). (r ≡ was') ⊎ (r ≡ changed (change_of log push) was')) is.log either;
      } in
      subst (λ (x : Desk). StandsFor k new x h) (sym d.state) (record {
        legal = is.legal;
        log = is.log;
        is_log = is.is_log;
        held = record {
          push = push;
          spelled = spelled;
          id_is = refl;
          fits = subst (λ (log : List Row). early log push.entry ≡ None) is.log d.fits;
          held = λ r e. (let w = d.held r e in one r w.0 r w.1 w.2.0 w.2.1);
          rose = rose (faults h) (k.faults old) (k.faults new) settled.counted later risen;
          stop = λ tells w e r left.
              let w0 = d.held w e in
              one r w0.0 r w0.1 w0.2.0 (⊎_elim
              (λ past. inl (settled.stop (d.tells tells) w0.0 w0.1 r past))
              (λ c. let same : w0.0 ≡ c.0 = (let both : Some w0.0 ≡ Some c.0 = sym w0.1 ∙ c.1 in cc both) in inr (c.2 ∙ ap (changed (change_of was.log push)) (sym same)))
              (d.stop tells r left));
        };
      })

step_by : {R : Type 0} (k : keeper.Ghosts R) → StepKeeps k
step_by k old new was now push seat (reply_.Done number id) h is none spelled some s cause = done_stands k old new h was now push seat number id is none spelled some s cause.is
step_by k old new was now push seat (reply_.Already number) h is none spelled some s cause = same_stands k old new h was now s.state s.same cause.later (inl cause.is) is
step_by k old new was now push seat (reply_.Stale number id) h is none spelled some s cause = same_stands k old new h was now s.state s.same cause.later (inl cause.is) is
step_by k old new was now push seat (reply_.Malformed at) h is none spelled some s cause = absurd s
step_by k old new was now push seat (reply_.Incomplete id) h is none spelled some s cause = same_stands k old new h was now s.state s.same cause.later (inl cause.is) is
step_by k old new was now push seat (reply_.TooLarge length) h is none spelled some s cause = absurd s
step_by k old new was now push seat (reply_.Misnumbered number expected) h is none spelled some s cause = same_stands k old new h was now s.state s.same cause.later (inl cause.is) is
step_by k old new was now push seat (reply_.Moved found expected) h is none spelled some s cause = absurd s
step_by k old new was now push seat reply_.Fault h is none spelled some (inl s) cause = same_stands k old new h was now s.state s.same cause.later (inr cause.is) is
step_by k old new was now push seat reply_.Fault h is none spelled some (inr s) cause = doubt_stands k old new h was now push is none spelled s cause.later cause.is
step_by k old new was now push seat reply_.Memory h is none spelled some s cause = same_stands k old new h was now s.state s.same cause.later (inl cause.is) is

pub step_keeps : {R : Type 0} (k : keeper.Ghosts R) → StepKeeps k
step_keeps k = step_by k
