-- A push that was checked, and what each answer of its commit means.
use Rattle.std.proofs.Common.{◌≡◌, ℕ, ◌+◌, true, List, [], ◌∷◌, ◌++◌, Option, Some, None, inl, inr, ⊎_elim, ◌-◌, length, take, refl, sym, ap, subst, ◌∙◌, arith}
use Rattle.std.proofs.lemmas.List.{length_push}
use Rattle.git_object.specs.Repository.{Repository}
use Rattle.keeper_api.specs.Undisturbed.{Undisturbed}
use Rattle.keeper_api.proofs.Coming.{as_before_then}
use Rattle.keeper_api.specs.declared.changes.Change.{Change}
use Rattle.keeper_api.specs.declared.keepers.Keeper as keeper
use Rattle.keeper_api.specs.Committing.{Gains, MayGain}
use Rattle.pushes.specs.declared.pushed.Push.{Push}
use Rattle.pushes.specs.Steps.{change_of}
use Rattle.desk_turns.specs.States.{Desk, Fits, IsAnswered, IsDone, IsInDoubt, Refuses, Steps, in_doubt, with_row}
use Rattle.pushes.specs.declared.replies.Reply.{Reply}
use Rattle.pushes.specs.declared.replies.Reply.TheVariants.{Done, Already, Stale, Malformed, Incomplete, TooLarge, Misnumbered, Moved, Fault, Memory}
use Rattle.pushes.specs.declared.rows.Row.{Row}

-- a row more, taken away again
pub without_last : (log : List Row) (row : Row) → take (length (log ++ row ∷ []) - 1) (log ++ row ∷ []) ≡ log
without_last log row =
    let count : length (log ++ row ∷ []) - 1 ≡ length log = (let more = length_push log row in omega (arith, more)) in
    ap (λ (n : ℕ). take n (log ++ row ∷ [])) count ∙ front log row
  where
    front : (xs : List Row) (x : Row) → take (length xs) (xs ++ x ∷ []) ≡ xs
    front [] x = refl
    front (y ∷ xs) x = ap (λ (rest : List Row). y ∷ rest) (front xs x)

module _ {R : Type 0} (keeper_of : keeper.Ghosts R) (old new : R) (was now : Desk) (push : Push) (fits : Fits (keeper_of.content old) was.log push) where
  pub done : (seat number : ℕ) (id : List ℕ) → number ≡ length was.log + 1 → id ≡ push.entry.id → now ≡ with_row was push.entry.id seat → Gains keeper_of old new (change_of was.log push) → IsDone keeper_of old new was now push seat number id
  done seat number id number_is id_is state gains = record {
    state = state;
    fits = fits.fits;
    number_is = number_is;
    id_is = id_is;
    step = λ r' told. (let w = gains.held r' told in (
      w.0,
      w.1,
      record {
        replies = (record { fits = fits.fits; complete = fits.complete w.0 w.1 }, number_is, id_is);
        log_is = ap (λ (d : Desk). d.log) state;
        repository_is = w.2;
      },
    ));
    tells = gains.tells;
    stop = gains.stop;
  }

  pub doubted : now ≡ in_doubt was push.entry.id → MayGain keeper_of old new (change_of was.log push) → IsInDoubt keeper_of old new was now push
  doubted state gains = record {
    state = state;
    fits = fits.fits;
    held = λ r' told. (let w = gains.held r' told in (w.0, w.1, (record { fits = fits.fits; complete = fits.complete w.0 w.1 }, w.2)));
    tells = gains.tells;
    stop = gains.stop;
  }

  pub done_by : (rows : List Row) (doubt : Option (List ℕ)) (change : Change) (seat number : ℕ) → change ≡ change_of was.log push → rows ≡ was.log ++ record { id = push.entry.id; seat = seat } ∷ [] → doubt ≡ None → number ≡ length was.log + 1
      → now ≡ record { log = rows; doubt = doubt } → Gains keeper_of old new change → IsDone keeper_of old new was now push seat number push.entry.id
  done_by rows doubt change seat number change_is rows_are clear number_is now_is gains =
      done seat number push.entry.id number_is refl (now_is ∙ (λ i. record { log = rows_are i; doubt = clear i })) (subst (λ (c : Change). Gains keeper_of old new c) change_is gains)

  pub doubted_by : (rows : List Row) (change : Change) → change ≡ change_of was.log push → rows ≡ was.log → now ≡ record { log = rows; doubt = Some push.entry.id } → MayGain keeper_of old new change → IsInDoubt keeper_of old new was now push
  doubted_by rows change change_is rows_are now_is gains =
      doubted (now_is ∙ (λ i. record { log = rows_are i; doubt = Some push.entry.id })) (subst (λ (c : Change). MayGain keeper_of old new c) change_is gains)

-- ---- after the check, by which nothing changed

module _ {R : Type 0} (k : keeper.Ghosts R) (old mid new : R) (first : Undisturbed k old mid) (was now : Desk) (push : Push) where
  through : Undisturbed k mid new → Undisturbed k old new
  through second = as_before_then k old mid new first second

  answered_from : (reply : Reply) → IsAnswered k mid new was now push reply → IsAnswered k old new was now push reply
  answered_from reply s = record { state = s.state; same = through s.same; why = s.why }

  done_from : (seat number : ℕ) (id : List ℕ) → IsDone k mid new was now push seat number id → IsDone k old new was now push seat number id
  done_from seat number id s = record {
    state = s.state;
    fits = s.fits;
    number_is = s.number_is;
    id_is = s.id_is;
    step = λ r e. (let w = s.step r e in (w.0, first.content w.0 w.1, w.2));
    tells = λ t. first.tells (s.tells t);
    stop = s.stop;
  }

  doubt_from : IsInDoubt k mid new was now push → IsInDoubt k old new was now push
  doubt_from s = record {
    state = s.state;
    fits = s.fits;
    held = λ r e. (let w = s.held r e in (w.0, first.content w.0 w.1, w.2));
    tells = λ t. first.tells (s.tells t);
    stop = λ t r left. ⊎_elim (λ past. inl (first.left (s.tells t) r past)) (λ c. inr (c.0, first.content c.0 c.1, c.2)) (s.stop t r left);
  }

  pub steps_from : (seat : ℕ) (reply : Reply) → Steps k mid new was now push seat reply → Steps k old new was now push seat reply
  steps_from seat (Done number id) s = done_from seat number id s
  steps_from seat (Already number) s = answered_from (Already number) s
  steps_from seat (Stale number id) s = answered_from (Stale number id) s
  steps_from seat (Malformed at) s = s
  steps_from seat (Incomplete id) s = answered_from (Incomplete id) s
  steps_from seat (TooLarge length) s = s
  steps_from seat (Misnumbered number expected) s = answered_from (Misnumbered number expected) s
  steps_from seat (Moved found expected) s = s
  steps_from seat Fault (inl s) = inl (answered_from Fault s)
  steps_from seat Fault (inr s) = inr (doubt_from s)
  steps_from seat Memory s = answered_from Memory s
