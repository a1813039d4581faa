-- An engine that took the first entries of a history, while the history and what it took grow.
use Rattle.std.proofs.Common.{◌≡◌, ◌∷◌, ◌++◌, ◌∙◌, [], ℕ, List, length, drop, map, Option, Some, inl, inr, refl, sym, ap, subst}
use Rattle.git_object.specs.Repository.{Repository}
use Rattle.rsl_chain.specs.Entries.{Taken}
use Rattle.rsl_chain.specs.Logs.{entry_at}
use Rattle.verify_ref.specs.Logs.{AreEntries}
use Rattle.verify_ref.specs.declared.engine.Engine.{Engine}
use Rattle.desk_turns.specs.Histories.{History, Member, with_member}
use Rattle.pushes.specs.Steps.{ids_of}
use Rattle.desk_core.specs.Laws.{taken_id}
use Rattle.desk_core.proofs.Astray.{first_at, own_id, taken_there}
use Rattle.desk_turns.specs.Legal.{last_repository, rows_of}
use Rattle.desk_shops.specs.Standing.{AreEntriesOf, IsOfOne, Lags}

-- ---- one member more

of_one_more : (ms : List Member) (m : Member) (r : Repository) → IsOfOne ms r → IsOfOne (ms ++ m ∷ []) r
of_one_more [] m r is = absurd is
of_one_more (x ∷ ms) m r (inl here) = inl here
of_one_more (x ∷ ms) m r (inr later) = inr (of_one_more ms m r later)

entries_stay : (log : List Taken) (ms : List Member) (m : Member) → AreEntriesOf log ms → AreEntriesOf log (ms ++ m ∷ [])
entries_stay [] ms m are = tt
entries_stay (t ∷ log) [] m are = absurd are
entries_stay (t ∷ log) (x ∷ ms) m are = (are.0, of_one_more (x ∷ ms) m t.repository are.1, entries_stay log ms m are.2)

pub lags_more : (h : History) (m : Member) (engine : Engine) → Lags h engine → Lags (with_member h m) engine
lags_more h m engine lags = record { log = lags.log; follows = lags.follows; entries = entries_stay lags.log h.members m lags.entries }

-- ---- more entries taken, in the last repository

of_last : (first : Option Repository) (m : Member) (ms : List Member) (r : Repository) → last_repository first (m ∷ ms) ≡ Some r → IsOfOne (m ∷ ms) r
of_last first m [] r is = inl is
of_last first m (x ∷ ms) r is = inr (of_last m.repository x ms r is)

taken_here : (r : Repository) (first : Option Repository) (ms : List Member) (front rest : List (List ℕ)) (more : List Taken) → last_repository first ms ≡ Some r → ids_of (rows_of ms) ≡ front ++ rest → AreEntries r front more → AreEntriesOf more ms
taken_here r first ms front rest [] last_is ids are = tt
taken_here r first ms [] rest (t ∷ more) last_is ids are = absurd (cc are)
taken_here r first [] (id ∷ front) rest (t ∷ more) last_is ids are = absurd (cc ids)
taken_here r first (m ∷ ms) (id ∷ front) rest (t ∷ more) last_is ids are =
    let same : m.id ≡ id = cc ids in
    let others : ids_of (rows_of ms) ≡ front ++ rest = cc ids in
    let parts = first_at r id front t more are in
    let there = taken_there r id t parts.0 in (
      subst (λ (x : Repository). entry_at x m.id ≡ Some t.entry) (sym there.1) (ap (entry_at r) same ∙ there.0),
      subst (IsOfOne (m ∷ ms)) (sym there.1) (of_last first m ms r last_is),
      taken_here r m.repository ms front rest more last_is others parts.1,
    )

pub taken_more : (r : Repository) (first : Option Repository) (log more : List Taken) (ms : List Member) (front rest : List (List ℕ)) → AreEntriesOf log ms → last_repository first ms ≡ Some r
    → ids_of (drop (length log) (rows_of ms)) ≡ front ++ rest → AreEntries r front more → AreEntriesOf (log ++ more) ms
taken_more r first [] more ms front rest are last_is ids these = taken_here r first ms front rest more last_is ids these
taken_more r first (t ∷ log) more [] front rest are last_is ids these = absurd are
taken_more r first (t ∷ log) more (m ∷ ms) front rest are last_is ids these = (are.0, are.1, taken_more r m.repository log more ms front rest are.2 last_is ids these)

-- ---- the ids of what was taken

pub front_ids : (log : List Taken) (ms : List Member) → AreEntriesOf log ms → map taken_id log ++ ids_of (drop (length log) (rows_of ms)) ≡ ids_of (rows_of ms)
front_ids [] ms are = refl
front_ids (t ∷ log) [] are = absurd are
front_ids (t ∷ log) (m ∷ ms) are =
    let own : t.entry.id ≡ m.id = own_id t.repository m.id t.entry are.0 in
    let rest = front_ids log ms are.2 in
    λ i. own i ∷ rest i
