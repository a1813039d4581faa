-- Behind a gate no reference comes to have a violation.
use Rattle.std.proofs.Common.{◌≡◌, ◌&&◌, ◌<◌, ◌≤◌, ◌++◌, ℕ, suc, Bool, true, false, not, is_none, List, [], ◌∷◌, length, Option, Some, None, refl, sym, ap, subst, ◌∙◌, inl, inr, arith}
use Rattle.std.specs.List.{AllByRecursion}
use Rattle.std.proofs.lemmas.Bool.{cases_eq, false≢true}
use Rattle.std.proofs.lemmas.List.{append_assoc, append-nil}
use Rattle.std.proofs.lemmas.Slice.Eq.{bytes_eq-Decides}
use Rattle.git_object.specs.Repository.{Repository, object_at}
use Rattle.rsl_chain.specs.Entries.{Taken, is_of}
use Rattle.git_object.specs.References.{policy_name}
use Rattle.rsl_chain.specs.declared.entries.EntryBody.{EntryBody}
use Rattle.rsl_chain.specs.declared.entries.EntryBody.TheVariants.{Reference, Annotation}
use Rattle.recovery.specs.Lanes.{first_of}
use Rattle.judging.specs.Rules.{Rules}
use Rattle.judging.specs.Logs.{before, body_fault, entry_at, fault_at, fault_of, is_entry_of, lane, pending, rescued}
use Rattle.judging.proofs.Appends.{entry_old, fault_new, fault_old, long, pending_new, pending_old, rescues_now}
use Rattle.judging.proofs.Counting.{first_number, no_first}
use Rattle.keeper_api.specs.Growing.{Larger}
use Rattle.judged_logs.specs.Gates.{AreEpochs, AreTaken, HasNoViolation, all_in, repository_after}
use Rattle.judged_logs.specs.Growing.{AllGrow, Lasting}
use Rattle.judged_logs.proofs.Alike.{as_long, reference_alike}
use Rattle.judged_logs.proofs.Epochs.{epochs_same}
use Rattle.judged_logs.proofs.Staying.{authorised_stays, clear_stays}

-- ---- repositories that grow
-- each of them is judged in a repository than which this one is larger
abbrev AllBelow : Repository → List Taken → Type 0
AllBelow r log = AllByRecursion (λ t. Larger t.repository r) log

below_more : (r s : Repository) (log : List Taken) → Larger r s → AllBelow r log → AllBelow s log
below_more r s [] larger all = tt
below_more r s (t ∷ ts) larger all = (λ id pair has. larger id pair (all.0 id pair has), below_more r s ts larger all.1)

below_push : (r : Repository) (log : List Taken) (t : Taken) → AllBelow r log → Larger t.repository r → AllBelow r (log ++ t ∷ [])
below_push r [] t all last = (last, tt)
below_push r (u ∷ us) t all last = (all.0, below_push r us t all.1 last)

all_below : (r : Repository) (log : List Taken) → AllByRecursion (λ t. t.repository ≡ r) log → AllBelow r log
all_below r [] all = tt
all_below r (t ∷ ts) all = (λ id pair has. subst (λ (s : Repository). object_at s id ≡ Some pair) all.0 has, all_below r ts all.1)

all_grow : (r : Repository) (log : List Taken) → AllBelow r log → AllGrow log (all_in r log)
all_grow r [] all = tt
all_grow r (t ∷ ts) all = (record { entry_is = refl; larger = all.0 }, all_grow r ts all.1)

module _ {P F : Type 0} (rules : Rules P F) where
  -- every entry is authorised or rescued
  abbrev IsClear : List Taken → Type 0
  IsClear log = (i : ℕ) → 0 < i → i ≤ length log → pending rules log i ≡ false

  -- ---- no violation and nothing pending are one
  fault_there : (log : List Taken) (i : ℕ) → pending rules log i ≡ true → (fault : F) × (fault_at rules log i ≡ Some fault)
  fault_there log i is = by_fault (fault_at rules log i) refl is where
    by_fault : (x : Option F) → fault_at rules log i ≡ x → (not (is_none x) && not (rescued rules log i)) ≡ true → (fault : F) × (fault_at rules log i ≡ Some fault)
    by_fault None at is = absurd (false≢true is)
    by_fault (Some fault) at is = (fault, at)

  none_pending : (log : List Taken) → HasNoViolation rules log → (name : List ℕ) → first_of (lane rules log name).pending ≡ None
  none_pending log none name = by_first (first_of (lane rules log name).pending) refl where
    right : (a b : Bool) → (a && b) ≡ true → b ≡ true
    right true b e = e
    right false b e = absurd (false≢true e)

    by_first : (x : Option ℕ) → first_of (lane rules log name).pending ≡ x → x ≡ None
    by_first None at = refl
    by_first (Some number) at =
        let first = first_number (λ i. is_entry_of (entry_at log i) name && pending rules log i) (length log) number at in
        let found = fault_there log number (right (is_entry_of (entry_at log number) name) (pending rules log number) first.2) in
        absurd (none name [] number found.0 (at, found.1))

  pub clear_of : (log : List Taken) → HasNoViolation rules log → IsClear log
  clear_of log none i above within = by_entry (entry_at log i) refl where
    by_body : (t : Taken) (body : EntryBody) → entry_at log i ≡ Some t → t.entry.body ≡ body → pending rules log i ≡ false
    by_body t (Annotation ids skip message) at is =
        ap (λ (f : Option F). not (is_none f) && not (rescued rules log i)) (ap (fault_of rules (before log i)) at ∙ ap (body_fault rules (before log i) t) is)
    by_body t (Reference name target) at is =
        let own : is_entry_of (entry_at log i) name ≡ true =
        ap (λ x. is_entry_of x name) at ∙ ap (λ (b : EntryBody). is_of b name) is ∙ (bytes_eq-Decides name name).1 refl in
        let no = no_first (λ j. is_entry_of (entry_at log j) name && pending rules log j) (length log) (none_pending log none name) i above within in
        sym (ap (λ b. b && pending rules log i) own) ∙ no

    by_entry : (x : Option Taken) → entry_at log i ≡ x → pending rules log i ≡ false
    by_entry None at = ap (λ (f : Option F). not (is_none f) && not (rescued rules log i)) (ap (fault_of rules (before log i)) at)
    by_entry (Some t) at = by_body t t.entry.body at refl

  pub of_clear : (log : List Taken) → IsClear log → HasNoViolation rules log
  of_clear log clear name kept number fault judged =
      let first = first_number (λ i. is_entry_of (entry_at log i) name && pending rules log i) (length log) number judged.0 in
      false≢true (sym (ap (λ b. is_entry_of (entry_at log number) name && b) (clear number first.0 first.1) ∙ nothing (is_entry_of (entry_at log number) name)) ∙ first.2)
    where
      nothing : (b : Bool) → (b && false) ≡ false
      nothing true = refl
      nothing false = refl

  -- ---- one entry more
  clear_push : (log : List Taken) (t : Taken) → IsClear log → fault_of rules log (Some t) ≡ None → IsClear (log ++ t ∷ [])
  clear_push log t clear lawful i above within =
      elim (cases_eq i (suc (length log))) [
        | inl is ↦ ap (pending rules (log ++ t ∷ [])) is ∙ pending_new rules log t ∙ ap (λ (f : Option F). not (is_none f)) lawful
        | inr isnt ↦
            let size = long log t in
            let old : i ≤ length log = omega (arith, size, within, isnt) in
            pending_old rules log t i above old ∙ ap (λ b. b && not (rescues_now rules log t i)) (clear i above old)
      ]

  epochs_push : (log : List Taken) (t : Taken) → AreEpochs rules log → fault_of rules log (Some t) ≡ None → AreEpochs rules (log ++ t ∷ [])
  epochs_push log t epochs lawful i above within own =
      elim (cases_eq i (suc (length log))) [
        | inl is ↦ ap (λ k. is_none (fault_at rules (log ++ t ∷ []) k)) is ∙ ap is_none (fault_new rules log t ∙ lawful)
        | inr isnt ↦
            let size = long log t in
            let old : i ≤ length log = omega (arith, size, within, isnt) in
            ap is_none (fault_old rules log (t ∷ []) i above old) ∙ epochs i above old (sym (ap (λ x. is_entry_of x policy_name) (entry_old log (t ∷ []) i above old)) ∙ own)
      ]

  -- ---- all of them
  pub record Stands (log : List Taken) (r : Repository) : Type 0 where
    pub clear : IsClear log
    pub epochs : AreEpochs rules log
    pub below : AllBelow r log

  pub all_taken : (log taken : List Taken) (r : Repository) → Stands log r → AreTaken rules log r taken → Stands (log ++ taken) (repository_after r taken)
  all_taken log [] r stands run = subst (λ (l : List Taken). Stands l r) (sym (append-nil log)) stands
  all_taken log (t ∷ ts) r stands run =
      let step = run.0 in
      let next : Stands (log ++ t ∷ []) t.repository = record {
        clear = clear_push log t stands.clear step.lawful;
        epochs = epochs_push log t stands.epochs step.lawful;
        below = below_push t.repository log t (below_more r t.repository log step.larger stands.below) (λ id pair has. has);
      } in
      subst (λ (l : List Taken). Stands l (repository_after t.repository ts)) (append_assoc log (t ∷ []) ts) (all_taken (log ++ t ∷ []) ts t.repository next run.1)

  pub holds : Lasting rules → (loaded taken : List Taken) (r : Repository) → AllByRecursion (λ t. t.repository ≡ r) loaded → HasNoViolation rules loaded → AreEpochs rules loaded → AreTaken rules loaded r taken
      → HasNoViolation rules (all_in (repository_after r taken) (loaded ++ taken)) × AreEpochs rules (all_in (repository_after r taken) (loaded ++ taken))
  holds lasting loaded taken r in_one none epochs run =
      let end = all_taken loaded taken r (record { clear = clear_of loaded none; epochs = epochs; below = all_below r loaded in_one }) run in
      let now = all_in (repository_after r taken) (loaded ++ taken) in
      let grow : AllGrow (loaded ++ taken) now = all_grow (repository_after r taken) (loaded ++ taken) end.below in
      let same = epochs_same rules lasting (loaded ++ taken) now grow end.epochs in
      let size = as_long (loaded ++ taken) now grow in (
        of_clear now (λ i above within. clear_stays rules lasting (loaded ++ taken) now grow same i (end.clear i above (omega (arith, size, within)))),
        λ i above within own. authorised_stays rules lasting (loaded ++ taken) now grow same i
            (end.epochs i above (omega (arith, size, within)) (sym (reference_alike (loaded ++ taken) now grow i policy_name) ∙ own)),
      )
