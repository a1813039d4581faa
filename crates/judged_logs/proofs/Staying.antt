-- What is authorised or rescued stays so where repositories grow and the epochs are the same.
use Rattle.std.proofs.Common.{◌≡◌, ◌&&◌, ◌-◌, ℕ, Bool, true, false, not, nat_lt, is_none, List, length, Option, Some, None, Result, Ok, Err, refl, sym, ap, ◌∙◌, arith}
use Rattle.std.specs.Prelude.{if◌then◌else◌}
use Rattle.std.specs.Result.{result_err}
use Rattle.std.specs.Str.{bytes_eq}
use Rattle.std.proofs.lemmas.Bool.{false≢true}
use Rattle.git_object.specs.Repository.{Repository}
use Rattle.rsl_chain.specs.Entries.{Taken}
use Rattle.git_object.specs.References.{policy_name}
use Rattle.rsl_chain.specs.declared.entries.Entry.{Entry}
use Rattle.rsl_chain.specs.declared.entries.EntryBody.{EntryBody}
use Rattle.rsl_chain.specs.declared.entries.EntryBody.TheVariants.{Reference, Annotation}
use Rattle.judging.specs.Rules.{Rules, is_same_tree, same_tree}
use Rattle.judging.specs.Logs.{above_of, attested_after, authorised, before, body_above, body_fault, completes, entry_at, fault_at, fault_of, from, keeps_tree, ordinary_fault, pending, policy_after, rescued, rescues, share}
use Rattle.judging.proofs.Counting.{number_some, some_number}
use Rattle.keeper_api.specs.Growing.{Larger}
use Rattle.judged_logs.specs.Growing.{AllGrow, Grows, Lasting, SameEpochs}
use Rattle.judged_logs.proofs.Alike.{GrowsIn, above_alike, as_long, at_grows, attested_alike, epochs_front, from_alike, same_share, take_grows}

both_true : (a b c d : Bool) → (a ≡ true → c ≡ true) → (b ≡ true → d ≡ true) → (a && b) ≡ true → (c && d) ≡ true
both_true true b c d first rest e = ap (λ x. x && d) (first refl) ∙ rest e
both_true false b c d first rest e = absurd (false≢true e)

none_of : {F : Type 0} (x : Option F) → is_none x ≡ true → x ≡ None
none_of None e = refl
none_of (Some f) e = absurd (false≢true e)

module _ {P F : Type 0} (rules : Rules P F) (lasting : Lasting rules) where
  err_stays : (few more : Result P F) → ((p : P) → few ≡ Ok p → more ≡ Ok p) → result_err few ≡ None → result_err more ≡ None
  err_stays (Ok p) more keeps e = ap result_err (keeps p refl)
  err_stays (Err f) more keeps e = let bad : Some f ≡ None = e in cc

  ordinary_stays : (policy : Option P) (e : Entry) (r s : Repository) (from : List ℕ) (attested : Option (List ℕ)) → Larger r s
      → ordinary_fault rules policy (record { entry = e; repository = r }) from attested ≡ None → ordinary_fault rules policy (record { entry = e; repository = s }) from attested ≡ None
  ordinary_stays None e r s from attested larger none = none
  ordinary_stays (Some policy) e r s from attested larger none = lasting.fault r s policy e from attested larger none

  trees_stay : (r s : Repository) (a b : List ℕ) → Larger r s → same_tree rules r a b ≡ true → same_tree rules s a b ≡ true
  trees_stay r s a b larger e = by_first (rules.tree_of r a) refl e where
    by_second : (x : List ℕ) (y : Option (List ℕ)) → rules.tree_of r a ≡ Some x → rules.tree_of r b ≡ y → is_same_tree (Some x) y ≡ true → same_tree rules s a b ≡ true
    by_second x None first second e = absurd (false≢true e)
    by_second x (Some y) first second e =
        let p = lasting.tree r s a x larger first in let q = lasting.tree r s b y larger second in
        ap (λ t. is_same_tree t (rules.tree_of s b)) p ∙ ap (is_same_tree (Some x)) q ∙ e

    by_first : (x : Option (List ℕ)) → rules.tree_of r a ≡ x → is_same_tree x (rules.tree_of r b) ≡ true → same_tree rules s a b ≡ true
    by_first None first e = absurd (false≢true e)
    by_first (Some x) first e = by_second x (rules.tree_of r b) first refl e

  -- behind one front and behind another that grew from it
  module _ (l m : List Taken) (grow : AllGrow l m) (epochs : SameEpochs rules l m) (policies : policy_after rules m ≡ policy_after rules l) where
    body_stays : (e : Entry) (r s : Repository) → Larger r s → (body : EntryBody)
        → body_fault rules l (record { entry = e; repository = r }) body ≡ None → body_fault rules m (record { entry = e; repository = s }) body ≡ None
    body_stays e r s larger (Annotation ids skip message) none = refl
    body_stays e r s larger (Reference name target) none = by_test (bytes_eq name policy_name) none where
      by_test : (b : Bool)
          → (if b then result_err (rules.epoch r (policy_after rules l) e) else ordinary_fault rules (policy_after rules l) (record { entry = e; repository = r }) (from rules l name) (attested_after l)) ≡ None
          → (if b then result_err (rules.epoch s (policy_after rules m) e) else ordinary_fault rules (policy_after rules m) (record { entry = e; repository = s }) (from rules m name) (attested_after m)) ≡ None
      by_test true none =
          ap (λ (p : Option P). result_err (rules.epoch s p e)) policies
          ∙ err_stays (rules.epoch r (policy_after rules l) e) (rules.epoch s (policy_after rules l) e) (λ p. lasting.epoch r s (policy_after rules l) e p larger) none
      by_test false none =
          let place = from_alike rules l m grow epochs name in
          let attested = attested_alike l m grow in
          ap (λ (p : Option P). ordinary_fault rules p (record { entry = e; repository = s }) (from rules m name) (attested_after m)) policies
          ∙ ap (λ (x : List ℕ). ordinary_fault rules (policy_after rules l) (record { entry = e; repository = s }) x (attested_after m)) place
          ∙ ap (λ (a : Option (List ℕ)). ordinary_fault rules (policy_after rules l) (record { entry = e; repository = s }) (from rules l name) a) attested
          ∙ ordinary_stays (policy_after rules l) e r s (from rules l name) (attested_after l) larger none

    as_grown : (t u : Taken) → Grows t u → u ≡ record { entry = t.entry; repository = u.repository }
    as_grown t u grows = λ i. record { entry = grows.entry_is i; repository = u.repository }

    pub fault_stays : (x y : Option Taken) → GrowsIn x y → fault_of rules l x ≡ None → fault_of rules m y ≡ None
    fault_stays None None grows none = refl
    fault_stays None (Some u) grows none = absurd grows
    fault_stays (Some t) None grows none = absurd grows
    fault_stays (Some t) (Some u) grows none =
        ap (λ (v : Taken). fault_of rules m (Some v)) (as_grown t u grows) ∙ body_stays t.entry t.repository u.repository grows.larger t.entry.body none

    tree_stays : (e : Entry) (r s : Repository) → Larger r s → (body : EntryBody)
        → keeps_tree rules l (record { entry = e; repository = r }) body ≡ true → keeps_tree rules m (record { entry = e; repository = s }) body ≡ true
    tree_stays e r s larger (Annotation ids skip message) is = is
    tree_stays e r s larger (Reference name target) is =
        ap (λ (x : List ℕ). same_tree rules s x target) (from_alike rules l m grow epochs name) ∙ trees_stay r s (from rules l name) target larger is

    pub completes_stays : (x y : Option Taken) → GrowsIn x y → completes rules l x ≡ true → completes rules m y ≡ true
    completes_stays None None grows is = is
    completes_stays None (Some u) grows is = absurd grows
    completes_stays (Some t) None grows is = absurd grows
    completes_stays (Some t) (Some u) grows is =
        both_true (is_none (fault_of rules l (Some t))) (keeps_tree rules l t t.entry.body) (is_none (fault_of rules m (Some u))) (keeps_tree rules m u u.entry.body)
        (λ none. ap is_none (fault_stays (Some t) (Some u) grows (none_of (fault_of rules l (Some t)) none)))
        (λ tree. ap (λ (v : Taken). keeps_tree rules m v v.entry.body) (as_grown t u grows) ∙ tree_stays t.entry t.repository u.repository grows.larger t.entry.body tree)
        is

    body_alike : (body : EntryBody) → body_above rules m body ≡ body_above rules l body
    body_alike (Annotation ids skip message) = refl
    body_alike (Reference name target) = above_alike rules l m grow epochs name

    pub above_same : (x y : Option Taken) → GrowsIn x y → above_of rules m y ≡ above_of rules l x
    above_same None None grows = refl
    above_same None (Some u) grows = absurd grows
    above_same (Some t) None grows = absurd grows
    above_same (Some t) (Some u) grows = ap (λ (e : Entry). body_above rules m e.body) grows.entry_is ∙ body_alike t.entry.body

  module _ (log more : List Taken) (grow : AllGrow log more) (epochs : SameEpochs rules log more) where
    pub authorised_stays : (i : ℕ) → authorised rules log i ≡ true → authorised rules more i ≡ true
    authorised_stays i is =
        ap is_none (fault_stays (before log i) (before more i) (take_grows (i - 1) log more grow) (epochs_front rules log more epochs (i - 1)) (epochs (i - 1))
        (entry_at log i) (entry_at more i) (at_grows (i - 1) log more grow) (none_of (fault_at rules log i) is))

    rescues_stays : (f b : ℕ) → rescues rules log f b ≡ true → rescues rules more f b ≡ true
    rescues_stays f b is =
        let front = take_grows (f - 1) log more grow in
        let fronts = epochs_front rules log more epochs (f - 1) in
        let at_f = at_grows (f - 1) log more grow in
        let at_b = at_grows (b - 1) log more grow in
        let shared = same_share (entry_at log f) (entry_at log b) (entry_at more f) (entry_at more b) at_f at_b in
        let place = above_same (before log f) (before more f) front fronts (epochs (f - 1)) (entry_at log f) (entry_at more f) at_f in
        both_true (share (entry_at log f) (entry_at log b))
        (completes rules (before log f) (entry_at log f) && (nat_lt (above_of rules (before log f) (entry_at log f)) b && nat_lt b f))
        (share (entry_at more f) (entry_at more b))
        (completes rules (before more f) (entry_at more f) && (nat_lt (above_of rules (before more f) (entry_at more f)) b && nat_lt b f))
        (λ e. shared ∙ e)
        (both_true (completes rules (before log f) (entry_at log f)) (nat_lt (above_of rules (before log f) (entry_at log f)) b && nat_lt b f)
        (completes rules (before more f) (entry_at more f)) (nat_lt (above_of rules (before more f) (entry_at more f)) b && nat_lt b f)
        (completes_stays (before log f) (before more f) front fronts (epochs (f - 1)) (entry_at log f) (entry_at more f) at_f)
        (λ e. ap (λ n. nat_lt n b && nat_lt b f) place ∙ e))
        is

    pub rescued_stays : (b : ℕ) → rescued rules log b ≡ true → rescued rules more b ≡ true
    rescued_stays b is =
        let some = some_number (λ f. rescues rules log f b) (length log) is in
        number_some (λ f. rescues rules more f b) (length more) some.0 some.1 (let long = as_long log more grow in let within = some.2 in omega (arith, long, within)) (rescues_stays some.0 b some.3)

    clear_both : (a r c s : Bool) → (a ≡ true → c ≡ true) → (r ≡ true → s ≡ true) → (not a && not r) ≡ false → (not c && not s) ≡ false
    clear_both true r c s first rest e = ap (λ x. not x && not s) (first refl)
    clear_both false true c s first rest e = ap (λ x. not c && not x) (rest refl) ∙ nothing (not c) where
      nothing : (b : Bool) → (b && false) ≡ false
      nothing true = refl
      nothing false = refl
    clear_both false false c s first rest e = absurd (false≢true (sym e))

    pub clear_stays : (i : ℕ) → pending rules log i ≡ false → pending rules more i ≡ false
    clear_stays i e = clear_both (authorised rules log i) (rescued rules log i) (authorised rules more i) (rescued rules more i) (authorised_stays i) (rescued_stays i) e
