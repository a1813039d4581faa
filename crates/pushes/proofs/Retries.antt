-- Pushes made again, commits that fail, and stops.
use Rattle.std.proofs.Common.{◌≡◌, ℕ, ◌+◌, Bool, true, false, ◌||◌, cond, List, [], ◌∷◌, ◌++◌, Option, Some, None, inl, inr, map, refl, sym, ap, subst, ◌∙◌}
use Rattle.std.specs.Prelude.{◌⊎◌, is_some}
use Rattle.std.specs.FinMap.{get}
use Rattle.std.specs.List.{AllByRecursion, list_any}
use Rattle.std.specs.Str.{bytes_eq}
use Rattle.std.proofs.lemmas.Bool.{true≢false}
use Rattle.std.proofs.lemmas.List.Folds.{list_any-append}
use Rattle.std.proofs.lemmas.Slice.Eq.{bytes_eq-Decides}
use Rattle.git_object.specs.Names.{log_name}
use Rattle.git_object.specs.Repository.{Repository}
use Rattle.git_object.proofs.Runs.{all_push}
use Rattle.keeper_api.specs.Changes.{changed}
use Rattle.rsl_chain.specs.Logs.{IsLogOf, heads_of}
use Rattle.rsl_chain.proofs.Chains.{one_log}
use Rattle.pushes.specs.Pushes.{IsSpelled}
use Rattle.pushes.specs.declared.pushed.Push.{Push}
use Rattle.pushes.specs.Needing.{has}
use Rattle.pushes.specs.Steps.{DeskStep, IsTaken, Replies, by_nobody, by_place, change_of, early, has_row, ids_of, log_after, repository_after, row_id}
use Rattle.placed_items.specs.Places.{place_of}
use Rattle.placed_items.proofs.Placing.{has_place}
use Rattle.pushes.specs.Retrying.{AreApart, DoubtFits, Event, Goes, IsAgain, IsSound, LeftBy, RetryOnce, Run, Runs, acks, dropped, failed, pushed, stopped, taken_in}
use Rattle.pushes.specs.declared.replies.Reply.{Reply}
use Rattle.pushes.specs.declared.replies.Reply.TheVariants.{Done, Already, Stale, Malformed, Incomplete, TooLarge, Misnumbered, Moved, Fault, Memory}
use Rattle.pushes.specs.declared.rows.Row.{Row}
use Rattle.pushes.proofs.LogGrowth.{next_of, push_grows}
use Rattle.pushes.proofs.Replying.{one_reply}

-- ---- ids

has_ids : (log : List Row) (id : List ℕ) → has (ids_of log) id ≡ has_row log id
has_ids [] id = refl
has_ids (row ∷ log) id = ap (λ (b : Bool). bytes_eq row.id id || b) (has_ids log id)

their_ids : (ids : List (List ℕ)) → ids_of (map by_nobody ids) ≡ ids
their_ids [] = refl
their_ids (id ∷ ids) = ap (λ (rest : List (List ℕ)). id ∷ rest) (their_ids ids)

map_push : {A B : Type 0} (f : A → B) (xs : List A) (x : A) → map f (xs ++ x ∷ []) ≡ map f xs ++ f x ∷ []
map_push f [] x = refl
map_push f (y ∷ xs) x = ap (λ rest. f y ∷ rest) (map_push f xs x)

has_push : (ids : List (List ℕ)) (y id : List ℕ) → has (ids ++ y ∷ []) id ≡ (has ids id || (bytes_eq y id || false))
has_push ids y id = list_any-append (λ (x : List ℕ). bytes_eq x id) ids (y ∷ [])

still_has : (ids : List (List ℕ)) (y id : List ℕ) → has ids id ≡ true → has (ids ++ y ∷ []) id ≡ true
still_has ids y id e = has_push ids y id ∙ ap (λ (b : Bool). b || (bytes_eq y id || false)) e

has_new : (ids : List (List ℕ)) (y : List ℕ) → has (ids ++ y ∷ []) y ≡ true
has_new ids y = has_push ids y y ∙ ap (λ (b : Bool). has ids y || (b || false)) ((bytes_eq-Decides y y).1 refl) ∙ last_true (has ids y)
  where
    last_true : (b : Bool) → (b || (true || false)) ≡ true
    last_true true = refl
    last_true false = refl

parts_false : (a b : Bool) → (a || b) ≡ false → (a ≡ false) × (b ≡ false)
parts_false true b e = absurd (true≢false e)
parts_false false b e = (refl, e)

turned : (x y : List ℕ) → bytes_eq x y ≡ false → bytes_eq y x ≡ false
turned x y e = by_test (bytes_eq y x) refl
  where
    by_test : (b : Bool) → bytes_eq y x ≡ b → bytes_eq y x ≡ false
    by_test true is = absurd (true≢false (sym ((bytes_eq-Decides x y).1 (sym ((bytes_eq-Decides y x).0 is))) ∙ e))
    by_test false is = is

apart_push : (ids : List (List ℕ)) (y : List ℕ) → AreApart ids → has ids y ≡ false → AreApart (ids ++ y ∷ [])
apart_push [] y apart none = (refl, tt)
apart_push (x ∷ ids) y apart none =
    let parts = parts_false (bytes_eq x y) (has ids y) none in (
      has_push ids y x ∙ ap (λ (b : Bool). b || (bytes_eq y x || false)) apart.0 ∙ ap (λ (b : Bool). b || false) (turned x y parts.0),
      apart_push ids y apart.1 parts.1,
    )

all_have : (ids : List (List ℕ)) (y : List ℕ) (xs : List (List ℕ)) → AllByRecursion (λ (id : List ℕ). has ids id ≡ true) xs → AllByRecursion (λ (id : List ℕ). has (ids ++ y ∷ []) id ≡ true) xs
all_have ids y [] all = tt
all_have ids y (x ∷ xs) all = (still_has ids y x all.0, all_have ids y xs all.1)

nothing_more : {A : Type 0} (xs : List A) → xs ++ [] ≡ xs
nothing_more [] = refl
nothing_more (x ∷ xs) = ap (λ rest. x ∷ rest) (nothing_more xs)

-- ---- one event

-- the sound log of these ids, and of a repository
record IsGood (r : Repository) (ids acked : List (List ℕ)) : Type 0 where
  is_log : IsLogOf r ids
  once : AreApart ids
  kept : AllByRecursion (λ (id : List ℕ). has ids id ≡ true) acked

good_of : (run : Run) → IsSound run → IsGood run.repository (ids_of run.log) run.acked
good_of run is = record { is_log = is.is_log; once = is.once; kept = is.kept }

grown : (log : List Row) (r : Repository) (acked : List (List ℕ)) (push : Push) → IsGood r (ids_of log) acked → IsSpelled push → early log push.entry ≡ None
    → IsGood (changed (change_of log push) r) (ids_of log ++ push.entry.id ∷ []) acked
grown log r acked push good spelled fits = record {
  is_log = push_grows log r push spelled fits good.is_log;
  once = apart_push (ids_of log) push.entry.id good.once (has_ids log push.entry.id ∙ (let next = next_of log push.entry fits in next.fresh));
  kept = all_have (ids_of log) push.entry.id acked good.kept;
}

acknowledged : (r : Repository) (ids acked : List (List ℕ)) (id : List ℕ) → has ids id ≡ true → IsGood r ids acked → IsGood r ids (acked ++ id ∷ [])
acknowledged r ids acked id there good = record { is_log = good.is_log; once = good.once; kept = all_push (λ (x : List ℕ). has ids x ≡ true) acked id good.kept there }

sound_from : (b : Run) (r : Repository) (ids acked : List (List ℕ)) → b.repository ≡ r → ids_of b.log ≡ ids → b.acked ≡ acked → b.doubt ≡ None → IsGood r ids acked → IsSound b
sound_from b r ids acked r_is ids_are acked_is clear good =
    let there = subst (λ (x : Repository). IsGood x (ids_of b.log) b.acked) (sym r_is) (subst (λ (xs : List (List ℕ)). IsGood r xs b.acked) (sym ids_are) (subst (λ (xs : List (List ℕ)). IsGood r ids xs) (sym acked_is) good)) in
    record { is_log = there.is_log; once = there.once; kept = there.kept; doubt = subst (λ (d : Option Push). DoubtFits b.log b.repository d) (sym clear) tt }

same_ids : (a b : List Row) → a ≡ b → ids_of a ≡ ids_of b
same_ids a b e = ap ids_of e

module _ (a b : Run) (push : Push) (seat : ℕ) (is : IsSound a) (spelled : IsSpelled push) (clear : b.doubt ≡ None) where
  stays : b.log ≡ a.log → b.repository ≡ a.repository → b.acked ≡ a.acked ++ [] → IsSound b
  stays log_is r_is acked_is = sound_from b a.repository (ids_of a.log) a.acked r_is (ap ids_of log_is) (acked_is ∙ nothing_more a.acked) clear (good_of a is)

  pushed_sound : (reply : Reply) → DeskStep a.log a.repository push seat reply b.log b.repository → b.acked ≡ a.acked ++ acks reply → IsSound b
  pushed_sound (Done number id) step acked_is =
      let ids : ids_of b.log ≡ ids_of a.log ++ push.entry.id ∷ [] = ap ids_of step.log_is ∙ map_push row_id a.log (record { id = push.entry.id; seat = seat }) in
      let acked : b.acked ≡ a.acked ++ push.entry.id ∷ [] = acked_is ∙ ap (λ (x : List ℕ). a.acked ++ x ∷ []) step.replies.2 in
      sound_from b (changed (change_of a.log push) a.repository) (ids_of a.log ++ push.entry.id ∷ []) (a.acked ++ push.entry.id ∷ []) step.repository_is ids acked clear
      (acknowledged (changed (change_of a.log push) a.repository) (ids_of a.log ++ push.entry.id ∷ []) a.acked push.entry.id (has_new (ids_of a.log) push.entry.id)
      (grown a.log a.repository a.acked push (good_of a is) spelled step.replies.0.fits))
  pushed_sound (Already number) step acked_is = stays step.log_is step.repository_is acked_is
  pushed_sound (Stale number id) step acked_is = stays step.log_is step.repository_is acked_is
  pushed_sound (Malformed at) step acked_is = stays step.log_is step.repository_is acked_is
  pushed_sound (Incomplete id) step acked_is = stays step.log_is step.repository_is acked_is
  pushed_sound (TooLarge length) step acked_is = stays step.log_is step.repository_is acked_is
  pushed_sound (Misnumbered number expected) step acked_is = stays step.log_is step.repository_is acked_is
  pushed_sound (Moved found expected) step acked_is = stays step.log_is step.repository_is acked_is
  pushed_sound Fault step acked_is = stays step.log_is step.repository_is acked_is
  pushed_sound Memory step acked_is = stays step.log_is step.repository_is acked_is

-- the log that is loaded after a stop
loaded_good : (log : List Row) (base : Repository) (doubt : Option Push) (acked : List (List ℕ)) (r : Repository) (ids : List (List ℕ)) → IsGood base (ids_of log) acked → DoubtFits log base doubt → LeftBy log base doubt r → IsLogOf r ids → IsGood r ids acked
loaded_good log base None acked r ids good fits left is =
    let here : IsGood r (ids_of log) acked = subst (λ (x : Repository). IsGood x (ids_of log) acked) (sym left) good in
    subst (λ (xs : List (List ℕ)). IsGood r xs acked) (one_log (heads_of r) (get r.refs log_name) (ids_of log) ids here.is_log is) here
loaded_good log base (Some push) acked r ids good fits (inl left) is =
    let here : IsGood r (ids_of log) acked = subst (λ (x : Repository). IsGood x (ids_of log) acked) (sym left) good in
    subst (λ (xs : List (List ℕ)). IsGood r xs acked) (one_log (heads_of r) (get r.refs log_name) (ids_of log) ids here.is_log is) here
loaded_good log base (Some push) acked r ids good fits (inr left) is =
    let more = grown log base acked push good fits.0 fits.1.fits in
    let here : IsGood r (ids_of log ++ push.entry.id ∷ []) acked = subst (λ (x : Repository). IsGood x (ids_of log ++ push.entry.id ∷ []) acked) (sym left) more in
    subst (λ (xs : List (List ℕ)). IsGood r xs acked) (one_log (heads_of r) (get r.refs log_name) (ids_of log ++ push.entry.id ∷ []) ids here.is_log is) here

goes_sound : (a : Run) (event : Event) (b : Run) → IsSound a → Goes a event b → IsSound b
goes_sound a (pushed push seat reply) b is g = pushed_sound a b push seat is g.spelled g.still reply g.step g.acked
goes_sound a (failed push) b is g = subst IsSound (sym g.is) (record { is_log = is.is_log; once = is.once; kept = is.kept; doubt = (g.spelled, g.taken) })
goes_sound a dropped b is g = subst IsSound (sym g) (record { is_log = is.is_log; once = is.once; kept = is.kept; doubt = tt })
goes_sound a (taken_in push) b is g =
    let fits : DoubtFits a.log a.repository (Some push) = subst (λ (d : Option Push). DoubtFits a.log a.repository d) g.doubt is.doubt in
    let more = grown a.log a.repository a.acked push (good_of a is) fits.0 fits.1.fits in
    sound_from b (changed (change_of a.log push) a.repository) (ids_of a.log ++ push.entry.id ∷ []) a.acked (ap (λ (x : Run). x.repository) g.is)
    (ap (λ (x : Run). ids_of x.log) g.is ∙ map_push row_id a.log (record { id = push.entry.id; seat = 0 })) (ap (λ (x : Run). x.acked) g.is) (ap (λ (x : Run). x.doubt) g.is) more
goes_sound a (stopped r ids) b is g =
    sound_from b r ids a.acked (ap (λ (x : Run). x.repository) g.is) (ap (λ (x : Run). ids_of x.log) g.is ∙ their_ids ids) (ap (λ (x : Run). x.acked) g.is) (ap (λ (x : Run). x.doubt) g.is)
    (loaded_good a.log a.repository a.doubt a.acked r ids (good_of a is) is.doubt g.left g.log)

runs_sound : (a : Run) (events : List Event) (b : Run) → IsSound a → Runs a events b → IsSound b
runs_sound a [] b is same = subst IsSound (sym same) is
runs_sound a (event ∷ events) c is (b, g, more) = runs_sound b events c (goes_sound a event b is g) more

-- ---- a push whose id is there

is_again : (run : Run) → IsAgain run
is_again run = record { again = λ push seat reply log r there step. by_where push seat reply log r there step (place_of row_id run.log push.entry.id) refl }
  where
    by_where : (push : Push) (seat : ℕ) (reply : Reply) (log : List Row) (r : Repository) → has (ids_of run.log) push.entry.id ≡ true
        → DeskStep run.log run.repository push seat reply log r → (o : Option ℕ) → place_of row_id run.log push.entry.id ≡ o
        → (n : ℕ) × (place_of row_id run.log push.entry.id ≡ Some n) × (reply ≡ Already (n + 1)) × (log ≡ run.log) × (r ≡ run.repository)
    by_where push seat reply log r there step None is =
        absurd (true≢false (sym there ∙ has_ids run.log push.entry.id ∙ sym (has_place row_id run.log push.entry.id) ∙ ap is_some is))
    by_where push seat reply log r there step (Some n) is =
        let already : Replies run.log run.repository push (Already (n + 1)) = ap (by_place run.log push.entry) is in
        let same : reply ≡ Already (n + 1) = one_reply run.log run.repository push reply (Already (n + 1)) step.replies already in
        (n, is, same, step.log_is ∙ ap (log_after run.log push seat) same, step.repository_is ∙ ap (repository_after run.log run.repository push) same)

pub retry_once : RetryOnce
retry_once = λ a b events is runs. (runs_sound a events b is runs, is_again b)
