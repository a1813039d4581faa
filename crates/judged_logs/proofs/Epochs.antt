-- Where each entry for the policy is an epoch, the same policies are in force where repositories grow.
use Rattle.std.proofs.Common.{◌≡◌, ◌-◌, ◌++◌, ℕ, suc, zero, Bool, true, false, is_none, List, [], ◌∷◌, take, Option, Some, None, Result, Ok, Err, refl, sym, ap, ◌∙◌, arith}
use Rattle.std.specs.Prelude.{if◌then◌else◌}
use Rattle.std.specs.List.{slice_get}
use Rattle.std.specs.Result.{result_err}
use Rattle.std.specs.Str.{bytes_eq}
use Rattle.std.proofs.lemmas.Bool.{false≢true}
use Rattle.std.proofs.lemmas.List.Sums.{fold-append}
use Rattle.std.proofs.lemmas.Option.{slice_get_within}
use Rattle.rsl_chain.specs.Entries.{Taken, is_of}
use Rattle.git_object.specs.References.{policy_name}
use Rattle.rsl_chain.specs.declared.entries.Entry.{Entry}
use Rattle.rsl_chain.specs.declared.entries.EntryBody.{EntryBody}
use Rattle.rsl_chain.specs.declared.entries.EntryBody.TheVariants.{Reference, Annotation}
use Rattle.judging.specs.Rules.{Rules}
use Rattle.judging.specs.Logs.{attested_after, body_fault, entry_at, fault_of, from, is_entry_of, next_policy, opened, ordinary_fault, policy_after}
use Rattle.judged_logs.specs.Gates.{AreEpochs}
use Rattle.judged_logs.specs.Growing.{AllGrow, Grows, Lasting}
use Rattle.judged_logs.proofs.Alike.{GrowsIn, at_grows}

take_one_more : {X : Type 0} (n : ℕ) (xs : List X) (x : X) → slice_get xs n ≡ Some x → take (suc n) xs ≡ take n xs ++ x ∷ []
take_one_more n [] x e = let bad : None ≡ Some x = e in cc
take_one_more {X = X} zero (y ∷ ys) x e = let same : y ≡ x = cc in ap (λ (z : X). z ∷ []) same
take_one_more (suc n) (y ∷ ys) x e = ap (λ zs. y ∷ zs) (take_one_more n ys x e)

take_no_more : {X : Type 0} (n : ℕ) (xs : List X) → slice_get xs n ≡ None → take (suc n) xs ≡ take n xs
take_no_more zero [] e = refl
take_no_more (suc n) [] e = refl
take_no_more zero (y ∷ ys) e = let bad : Some y ≡ None = e in cc
take_no_more (suc n) (y ∷ ys) e = ap (λ zs. y ∷ zs) (take_no_more n ys e)

module _ {P F : Type 0} (rules : Rules P F) (lasting : Lasting rules) where
  pub epoch_opens : (l : List Taken) (t : Taken) (body : EntryBody) → is_of body policy_name ≡ true → is_none (body_fault rules l t body) ≡ true
      → (p : P) × (rules.epoch t.repository (policy_after rules l) t.entry ≡ Ok p)
  epoch_opens l t (Annotation ids skip message) is none = absurd (false≢true is)
  epoch_opens l t (Reference name target) is none = by_test (bytes_eq name policy_name) is none where
    by_epoch : (x : Result P F) → rules.epoch t.repository (policy_after rules l) t.entry ≡ x → is_none (result_err x) ≡ true → (p : P) × (rules.epoch t.repository (policy_after rules l) t.entry ≡ Ok p)
    by_epoch (Ok p) e none = (p, e)
    by_epoch (Err f) e none = absurd (false≢true none)

    by_test : (b : Bool) → b ≡ true
        → is_none (if b then result_err (rules.epoch t.repository (policy_after rules l) t.entry) else ordinary_fault rules (policy_after rules l) t (from rules l name) (attested_after l)) ≡ true
        → (p : P) × (rules.epoch t.repository (policy_after rules l) t.entry ≡ Ok p)
    by_test true is none = by_epoch (rules.epoch t.repository (policy_after rules l) t.entry) refl none
    by_test false is none = absurd (false≢true is)

  -- one entry more makes the same policy
  next_same : (l : List Taken) (policy : Option P) → policy_after rules l ≡ policy → (t u : Taken) → Grows t u
      → (is_of t.entry.body policy_name ≡ true → is_none (fault_of rules l (Some t)) ≡ true) → next_policy rules policy u ≡ next_policy rules policy t
  next_same l policy at t u grows lawful =
      ap (λ (e : Entry). if is_of e.body policy_name then opened rules policy (rules.epoch u.repository policy e) else policy) grows.entry_is
      ∙ by_test (is_of t.entry.body policy_name) refl
    where
      by_test : (b : Bool) → is_of t.entry.body policy_name ≡ b
          → (if b then opened rules policy (rules.epoch u.repository policy t.entry) else policy) ≡ (if b then opened rules policy (rules.epoch t.repository policy t.entry) else policy)
      by_test false is = refl
      by_test true is =
          let found = epoch_opens l t t.entry.body is (lawful is) in
          let here : rules.epoch t.repository policy t.entry ≡ Ok found.0 = ap (λ (p : Option P). rules.epoch t.repository p t.entry) (sym at) ∙ found.1 in
          ap (opened rules policy) (lasting.epoch t.repository u.repository policy t.entry found.0 grows.larger here ∙ sym here)

  module _ (log more : List Taken) (grow : AllGrow log more) (epochs : AreEpochs rules log) where
    lawful_at : (n : ℕ) (t : Taken) → slice_get log n ≡ Some t → is_of t.entry.body policy_name ≡ true → is_none (fault_of rules (take n log) (Some t)) ≡ true
    lawful_at n t at is =
        let e : suc n - 1 ≡ n = omega arith in
        let within = slice_get_within log n t at in
        let there : entry_at log (suc n) ≡ Some t = ap (slice_get log) e ∙ at in
        let lawful = epochs (suc n) (omega arith) (omega (arith, within)) (ap (λ x. is_entry_of x policy_name) there ∙ is) in
        sym (ap (λ k. is_none (fault_of rules (take k log) (entry_at log (suc n)))) e ∙ ap (λ x. is_none (fault_of rules (take n log) x)) there) ∙ lawful

    pub epochs_same : (n : ℕ) → policy_after rules (take n more) ≡ policy_after rules (take n log)
    epochs_same zero = refl
    epochs_same (suc n) = by_entry (slice_get log n) (slice_get more n) refl refl (at_grows n log more grow) (epochs_same n) where
      by_entry : (x y : Option Taken) → slice_get log n ≡ x → slice_get more n ≡ y → GrowsIn x y → policy_after rules (take n more) ≡ policy_after rules (take n log)
          → policy_after rules (take (suc n) more) ≡ policy_after rules (take (suc n) log)
      by_entry None None at too grows same = ap (policy_after rules) (take_no_more n more too) ∙ same ∙ sym (ap (policy_after rules) (take_no_more n log at))
      by_entry None (Some u) at too grows same = absurd grows
      by_entry (Some t) None at too grows same = absurd grows
      by_entry (Some t) (Some u) at too grows same =
          ap (policy_after rules) (take_one_more n more u too) ∙ fold-append (next_policy rules) None (take n more) (u ∷ [])
          ∙ ap (λ (p : Option P). next_policy rules p u) same
          ∙ next_same (take n log) (policy_after rules (take n log)) refl t u grows (lawful_at n t at)
          ∙ sym (ap (policy_after rules) (take_one_more n log t at) ∙ fold-append (next_policy rules) None (take n log) (t ∷ []))
