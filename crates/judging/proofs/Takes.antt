-- An engine that stands for a list stands for the list with the entry that it kept.
use Rattle.std.proofs.Common.{◌≡◌, if◌then◌else◌, ◌↔◌, ◌==◌, ◌&&◌, ◌<◌, ◌≤◌, ◌+◌, ◌-◌, ◌++◌, ℕ, suc, Bool, true, false, cond, not, nat_lt, is_none, is_some, ⊎_elim, List, [], ◌∷◌, Option, Some, None, Result, Ok, Err, length, map, refl, ap, sym, subst, inl, inr, ◌∙◌, arith}
use Rattle.std.specs.List.{list_any, slice_get}
use Rattle.std.specs.Option.{option_and_then, option_map, unwrap_or}
use Rattle.std.specs.Result.{OnErr, OnOk, result_err}
use Rattle.std.specs.Str.{bytes_eq}
use Rattle.std.specs.Cmp.Lexicographic.{bytes_decides}
use Rattle.std.proofs.lemmas.Bool.{and_parts, cases_Bool, cases_eq, ne_eqb, true≢false}
use Rattle.std.proofs.lemmas.List.{length-map, map_push}
use Rattle.std.proofs.lemmas.Option.{slice_get-map}
use Rattle.std.proofs.lemmas.List.Sums.{fold_push}
use Rattle.git_object.specs.Ids.{zeros}
use Rattle.rsl_chain.specs.Entries.{Taken, is_of, target_of}
use Rattle.git_object.specs.References.{attestations_name, policy_name}
use Rattle.rsl_chain.specs.declared.entries.EntryBody.TheVariants.{Reference}
use Rattle.recovery.specs.Lanes.{Lane, first_of, lane_of, last_of}
use Rattle.judging.specs.Books.{kept_fault, kept_target, next_number, place_of}
use Rattle.judging.specs.Rules.{Rules, same_tree}
use Rattle.judging.specs.Decisions.{IsFinish, decision, decision_reads, epoch_decision, ordinary_decision}
use Rattle.judging.specs.Engines.{IsTaken, KeepsNothing, KeepsReference, Stands, opened_or}
use Rattle.judging.specs.Logs.{above, attested_after, authorised, before, body_fault, body_signers, completes, entry_at, fault_at, fault_of, from, has_id, is_entry_of, keeps_tree, lane, last_signers, next_attested, next_policy, opened, ordinary_fault, ordinary_signers, pending, policy_after, prior, prior_target, rescued, signers_of, target_at}
use Rattle.judging.specs.Standings.{standing_at, standing_of}
use Rattle.judging.specs.Steps.{recorded}
use Rattle.judging.specs.Reads.{body_bounded, body_decision_reads, body_reads, decision_reads_of, is_bounded, may_rescue, reads_of}
use Rattle.judging.specs.Tips.{IsTip}
use Rattle.judging.specs.Verdicts.{IsJudged, answer_of, body_verdict, verdict_of}
use Rattle.judging.specs.declared.deciding.Decision.{Decision}
use Rattle.judging.specs.declared.engine.Engine.{Engine}
use Rattle.judging.specs.declared.references.Standing.{Standing}
use Rattle.judging.specs.declared.verdicts.EntryVerdict.{EntryVerdict}
use Rattle.judging.specs.declared.verdicts.Verdict.{Verdict}
use Rattle.judging.specs.declared.verdicts.Verdict.TheVariants.{Violation, TipDiffers, Accepted}
use Rattle.judging.proofs.Counting.{first_number}
use Rattle.judging.proofs.Appends.{before_new, entry_new, entry_old, fault_new, fault_old, long}
use Rattle.judging.proofs.Readers.{prior_reads}
use Rattle.judging.proofs.LaneSteps.{Decides, reference_lanes}

pub on_err : {T E : Type 0} {Q : Type 0} → (r : Result T E) → Q → OnErr r Q
on_err (Ok x) q = tt
on_err (Err x) q = q

-- what follows of what holds where there is an answer
pub on_ok : {T E A B : Type 0} → (r : Result T E) → OnOk r A → (A → B) → OnOk r B
on_ok (Ok x) a next = next a
on_ok (Err x) a next = tt

module _ {P F : Type 0} (rules : Rules P F) (log : List Taken) (t : Taken) where
  pub policy_push : policy_after rules (log ++ t ∷ []) ≡ next_policy rules (policy_after rules log) t
  policy_push = fold_push (next_policy rules) None log t

  pub attested_push : attested_after (log ++ t ∷ []) ≡ next_attested (attested_after log) t
  attested_push = fold_push next_attested None log t

  pub signers_push : last_signers rules (log ++ t ∷ []) ≡ signers_of rules log t
  signers_push =
      ap (λ n. unwrap_or (option_map (signers_of rules (before (log ++ t ∷ []) n)) (entry_at (log ++ t ∷ []) n)) []) (long log t)
      ∙ ap (λ l. unwrap_or (option_map (signers_of rules l) (entry_at (log ++ t ∷ []) (suc (length log)))) []) (before_new log (t ∷ []))
      ∙ ap (λ e. unwrap_or (option_map (signers_of rules log) e) []) (entry_new log t)

  -- places with one id more, that no entry had
  pub places_push : (old new : List ℕ → Option ℕ) → old t.entry.id ≡ None → ((id : List ℕ) → new id ≡ cond (bytes_eq t.entry.id id) (Some (suc (length log))) (old id)) → ((id : List ℕ) (i : ℕ) → (old id ≡ Some i) ↔ ((0 < i) × (i ≤ length log) × (has_id (entry_at log i) id ≡ true))) → (id : List ℕ) (i : ℕ) → (new id ≡ Some i) ↔ ((0 < i) × (i ≤ length (log ++ t ∷ [])) × (has_id (entry_at (log ++ t ∷ []) i) id ≡ true))
  places_push old new none put are id i =
      let n = long log t in
      elim (cases_Bool (bytes_eq t.entry.id id)) [
        | inl is ↦
            let here : new id ≡ Some (suc (length log)) = put id ∙ ap (λ b. cond b (Some (suc (length log))) (old id)) is in
            let gone : old id ≡ None = ap old (sym ((bytes_decides t.entry.id id).0 is)) ∙ none in (
              λ e.
                  let same : Some (suc (length log)) ≡ Some i = sym here ∙ e in
                  let at : suc (length log) ≡ i = cc in
                  (omega arith, omega arith, ap (λ k. has_id (entry_at (log ++ t ∷ []) k) id) (sym at) ∙ ap (λ x. has_id x id) (entry_new log t) ∙ is),
              λ w.
                  elim (cases_eq i (suc (length log))) [
                    | inl at ↦ here ∙ ap Some (sym at)
                    | inr apart ↦ let within : i ≤ length log = let l = w.1 in omega arith in absurd (let clash : None ≡ Some i = sym gone ∙ (are id i).1 (w.0, within, sym (ap (λ x. has_id x id) (entry_old log (t ∷ []) i w.0 within)) ∙ w.2) in cc)
                  ],
            )
        | inr isnt ↦
            let there : new id ≡ old id = put id ∙ ap (λ b. cond b (Some (suc (length log))) (old id)) isnt in (
              λ e.
                  let w = (are id i).0 (sym there ∙ e) in
                  (w.0, let l = w.1 in omega arith, ap (λ x. has_id x id) (entry_old log (t ∷ []) i w.0 w.1) ∙ w.2),
              λ w.
                  elim (cases_eq i (suc (length log))) [
                    | inl at ↦ absurd (true≢false (sym w.2 ∙ ap (λ k. has_id (entry_at (log ++ t ∷ []) k) id) at ∙ ap (λ x. has_id x id) (entry_new log t) ∙ isnt))
                    | inr apart ↦ let within : i ≤ length log = let l = w.1 in omega arith in there ∙ (are id i).1 (w.0, within, sym (ap (λ x. has_id x id) (entry_old log (t ∷ []) i w.0 within)) ∙ w.2)
                  ],
            )
      ]

  module _ (name target : List ℕ) (body : t.entry.body ≡ Reference name target) where
    abbrev pub found : Decision P F
    found = decision rules t.repository (policy_after rules log) t.entry name (from rules log name) (attested_after log)

    -- what is decided is what the definitions say
    by_name : (b : Bool) → bytes_eq name policy_name ≡ b → (cond b (opened rules (policy_after rules log) (rules.epoch t.repository (policy_after rules log) t.entry)) (policy_after rules log) ≡ opened_or (cond b (epoch_decision rules t.repository (rules.epoch t.repository (policy_after rules log) t.entry)) (ordinary_decision rules t.repository (policy_after rules log) t.entry (from rules log name) (attested_after log))).opened (policy_after rules log))
        × (cond b (result_err (rules.epoch t.repository (policy_after rules log) t.entry)) (ordinary_fault rules (policy_after rules log) t (from rules log name) (attested_after log)) ≡ (cond b (epoch_decision rules t.repository (rules.epoch t.repository (policy_after rules log) t.entry)) (ordinary_decision rules t.repository (policy_after rules log) t.entry (from rules log name) (attested_after log))).fault)
        × (cond b [] (ordinary_signers rules (policy_after rules log) t (from rules log name) (attested_after log)) ≡ (cond b (epoch_decision rules t.repository (rules.epoch t.repository (policy_after rules log) t.entry)) (ordinary_decision rules t.repository (policy_after rules log) t.entry (from rules log name) (attested_after log))).signers)
    by_name true _ = by_epoch (rules.epoch t.repository (policy_after rules log) t.entry) where
      by_epoch : (e : Result P F) → (opened rules (policy_after rules log) e ≡ opened_or (epoch_decision rules t.repository e).opened (policy_after rules log)) × (result_err e ≡ (epoch_decision rules t.repository e).fault) × ([] ≡ (epoch_decision rules t.repository e).signers)
      by_epoch (Ok p) = (refl, refl, refl)
      by_epoch (Err f) = (refl, refl, refl)
    by_name false _ = by_policy (policy_after rules log) where
      by_policy : (p : Option P) → (p ≡ opened_or (ordinary_decision rules t.repository p t.entry (from rules log name) (attested_after log)).opened p) × (ordinary_fault rules p t (from rules log name) (attested_after log) ≡ (ordinary_decision rules t.repository p t.entry (from rules log name) (attested_after log)).fault) × (ordinary_signers rules p t (from rules log name) (attested_after log) ≡ (ordinary_decision rules t.repository p t.entry (from rules log name) (attested_after log)).signers)
      by_policy None = (refl, refl, refl)
      by_policy (Some p) = (refl, refl, refl)

    pub policy_found : next_policy rules (policy_after rules log) t ≡ opened_or found.opened (policy_after rules log)
    policy_found = ap (λ b. cond (is_of b policy_name) (opened rules (policy_after rules log) (rules.epoch t.repository (policy_after rules log) t.entry)) (policy_after rules log)) body ∙ (by_name (bytes_eq name policy_name) refl).0

    pub fault_found : fault_of rules log (Some t) ≡ found.fault
    fault_found = ap (body_fault rules log t) body ∙ (by_name (bytes_eq name policy_name) refl).1

    pub signers_found : signers_of rules log t ≡ found.signers
    signers_found = ap (body_signers rules log t) body ∙ (by_name (bytes_eq name policy_name) refl).2

  pub next_is : (e : Engine P F) → Stands rules log e → next_number e.book ≡ suc (length log)
  next_is e stands =
      let a : length e.book.targets ≡ length (map (λ u. target_of u.entry.body) log) = ap length stands.targets in
      let b = length-map log (λ (u : Taken). target_of u.entry.body) in
      omega arith

  module _ (name target : List ℕ) (body : t.entry.body ≡ Reference name target) (e now : Engine P F) (finishes : Bool) where
    pub stands_reference : Stands rules log e → place_of e.book t.entry.id ≡ None → Decides rules log t name target body finishes → KeepsReference t.entry.id name target (above rules log name) finishes (found name target body) e now → Stands rules (log ++ t ∷ []) now
    stands_reference stands fresh decides keeps =
        let d = found name target body in
        let n = next_is e stands in
        record {
          policy = keeps.policy ∙ ap (opened_or d.opened) stands.policy ∙ sym (policy_push ∙ policy_found name target body);
          attested = keeps.attested ∙ ap (λ a. cond (bytes_eq name attestations_name) (Some target) a) stands.attested
              ∙ sym (attested_push ∙ ap (λ b. cond (is_of b attestations_name) (Some (target_of b)) (attested_after log)) body);
          signers = keeps.signers ∙ sym (signers_push ∙ signers_found name target body);
          lanes = λ other. keeps.lanes other
              ∙ ap (λ k. cond (bytes_eq name other) (recorded k (is_some d.fault) finishes (above rules log name) (lane_of e.book.marks other)) (lane_of e.book.marks other)) n
              ∙ ap (λ f. cond (bytes_eq name other) (recorded (suc (length log)) (is_some f) finishes (above rules log name) (lane_of e.book.marks other)) (lane_of e.book.marks other)) (sym (fault_found name target body))
              ∙ ap (λ (l : Lane). cond (bytes_eq name other) (recorded (suc (length log)) (is_some (fault_of rules log (Some t))) finishes (above rules log name) l) l) (stands.lanes other)
              ∙ sym (reference_lanes rules log t name target body finishes decides other);
          targets = keeps.targets_now ∙ ap (λ xs. xs ++ target ∷ []) stands.targets ∙ sym (map_push (λ u. target_of u.entry.body) log t ∙ ap (λ b. map (λ u. target_of u.entry.body) log ++ target_of b ∷ []) body);
          places = places_push (place_of e.book) (place_of now.book) fresh (λ id. keeps.place id ∙ ap (λ k. cond (bytes_eq t.entry.id id) (Some k) (place_of e.book id)) n) stands.places;
          faults = λ i fault a b is.
              elim (cases_eq i (suc (length log))) [
                | inl at ↦
                    let here : d.fault ≡ Some fault = sym (fault_found name target body) ∙ sym (fault_new rules log t) ∙ ap (fault_at rules (log ++ t ∷ [])) (sym at) ∙ is in
                    ap (kept_fault now.book) (at ∙ sym n) ∙ keeps.new_fault fault here
                | inr apart ↦
                    let l = long log t in
                    let within : i ≤ length log = omega arith in
                    keeps.old_fault i (λ x. apart (x ∙ n)) ∙ stands.faults i fault a within (sym (fault_old rules log (t ∷ []) i a within) ∙ is)
              ];
        }

  -- nothing was kept
  pub stands_still : (e now : Engine P F) → Stands rules log e → KeepsNothing e now → Stands rules log now
  stands_still e now stands keeps =
      let n = next_is e stands in
      record {
        policy = keeps.policy ∙ stands.policy;
        attested = keeps.attested ∙ stands.attested;
        signers = keeps.signers ∙ stands.signers;
        lanes = λ name. keeps.book.lanes name ∙ stands.lanes name;
        targets = keeps.book.target ∙ stands.targets;
        places = λ id i. (λ x. (stands.places id i).0 (sym (keeps.book.place id) ∙ x), λ w. keeps.book.place id ∙ (stands.places id i).1 w);
        faults = λ i fault a b is. keeps.book.fault i (λ x. absurd (let y = x ∙ n in omega arith)) ∙ stands.faults i fault a b is;
      }

  -- where a reference stands
  pub standing_is : (e : Engine P F) (name : List ℕ) → Stands rules log e → standing_of e.book name ≡ record { above = above rules log name; from = from rules log name }
  standing_is e name stands = ap (λ (l : Lane). standing_at e.book (last_of l.unskipped)) (stands.lanes name) ∙ by_prior (prior rules log name) refl where
    by_prior : (o : Option ℕ) → prior rules log name ≡ o → standing_at e.book o ≡ record { above = unwrap_or o 0; from = unwrap_or (option_and_then (target_at log) o) zeros }
    by_prior None is = refl
    by_prior (Some i) is =
        let p = prior_reads rules log name i is in
        let positive : (i == 0) ≡ false = ne_eqb i 0 (let f = p.first in λ x. absurd (omega arith)) in
        let target : kept_target e.book i ≡ target_at log i = ap (λ b. cond b None (slice_get e.book.targets (i - 1))) positive ∙ ap (λ xs. slice_get xs (i - 1)) stands.targets ∙ slice_get-map (λ u. target_of u.entry.body) log (i - 1) in
        ap (λ x. record { above = i; from = unwrap_or x zeros }) target

  module _ (name target : List ℕ) (body : t.entry.body ≡ Reference name target) (e now : Engine P F) (finishes : Bool) where
    -- an entry that was decided and kept is taken
    pub taken_reference : (d : Decision P F) (s : Standing) (verdict : EntryVerdict F) → Stands rules log e → place_of e.book t.entry.id ≡ None → s ≡ standing_of e.book name → d ≡ decision rules t.repository e.policy t.entry name s.from e.attested → IsFinish rules t.repository e.book d name s target finishes → KeepsReference t.entry.id name target s.above finishes d e now → verdict ≡ answer_of d.fault → IsTaken rules log t now verdict
    taken_reference d s verdict stands fresh at is finish keeps said =
        let here : s ≡ record { above = above rules log name; from = from rules log name } = at ∙ standing_is e name stands in
        let there : d ≡ found name target body =
        is ∙ ap (λ p. decision rules t.repository p t.entry name s.from e.attested) stands.policy
        ∙ ap (λ x. decision rules t.repository (policy_after rules log) t.entry name x.from e.attested) here
        ∙ ap (decision rules t.repository (policy_after rules log) t.entry name (from rules log name)) stands.attested in
        let up : s.above ≡ above rules log name = ap (λ x. x.above) here in
        let fault : fault_of rules log (Some t) ≡ d.fault = fault_found name target body ∙ ap (λ x. x.fault) (sym there) in
        let done : completes rules log (Some t) ≡ (is_none d.fault && same_tree rules t.repository s.from target) =
        ap (λ f. is_none f && keeps_tree rules log t t.entry.body) fault ∙ ap (λ b. is_none d.fault && keeps_tree rules log t b) body
        ∙ ap (λ x. is_none d.fault && same_tree rules t.repository x.from target) (sym here) in
        let decides : Decides rules log t name target body finishes = ⊎_elim (λ y. inl (y ∙ sym done)) (λ n. inr (
          n.0,
          ap (λ a. list_any (nat_lt a) (lane rules log name).pending) (sym up) ∙ ap (λ (l : Lane). list_any (nat_lt s.above) l.pending) (sym (stands.lanes name)) ∙ n.1,
        )) finish in
        let K : ℕ → Type 0 = λ a. KeepsReference t.entry.id name target a finishes d e now in
        let D : Decision P F → Type 0 = λ x. KeepsReference t.entry.id name target (above rules log name) finishes x e now in
        record {
          stands = stands_reference name target body e now finishes stands fresh decides (subst D there (subst K up keeps));
          answer = said ∙ ap answer_of (sym fault) ∙ ap (body_verdict (fault_of rules log (Some t))) (sym body);
        }

pub none_there : {X : Type 0} (o : Option X) → is_some o ≡ false → o ≡ None
none_there None h = refl
none_there (Some x) h = absurd (true≢false h)

module _ {P F : Type 0} (rules : Rules P F) (log : List Taken) (t : Taken) (name target : List ℕ) (body : t.entry.body ≡ Reference name target) (e : Engine P F) where
  -- the reads of what is kept are those of the definitions
  pub decision_reads_are : Stands rules log e → decision_reads_of rules log t ≡ decision_reads rules t.repository e.policy t.entry name (standing_of e.book name).from e.attested
  decision_reads_are stands =
      let here = ap (λ s. s.from) (standing_is rules log t e name stands) in
      ap (body_decision_reads rules log t) body
      ∙ ap (λ f. decision_reads rules t.repository (policy_after rules log) t.entry name f (attested_after log)) (sym here)
      ∙ ap (λ p. decision_reads rules t.repository p t.entry name (standing_of e.book name).from (attested_after log)) (sym stands.policy)
      ∙ ap (λ a. decision_reads rules t.repository e.policy t.entry name (standing_of e.book name).from a) (sym stands.attested)

  rescue_is : Stands rules log e → may_rescue rules log name ≡ list_any (nat_lt (standing_of e.book name).above) (lane_of e.book.marks name).pending
  rescue_is stands =
      let here = ap (λ s. s.above) (standing_is rules log t e name stands) in
      ap (λ a. list_any (nat_lt a) (lane rules log name).pending) (sym here)
      ∙ ap (λ (l : Lane). list_any (nat_lt (standing_of e.book name).above) l.pending) (sym (stands.lanes name))

  pub reads_are : Stands rules log e → reads_of rules log t ≡ decision_reads rules t.repository e.policy t.entry name (standing_of e.book name).from e.attested
      + (if list_any (nat_lt (standing_of e.book name).above) (lane_of e.book.marks name).pending then rules.tree_reads t.repository (standing_of e.book name).from target else 0)
  reads_are stands =
      let here = ap (λ s. s.from) (standing_is rules log t e name stands) in
      ap (body_reads rules log t) body
      ∙ ap (λ n. n + (if may_rescue rules log name then rules.tree_reads t.repository (from rules log name) target else 0)) (sym (ap (body_decision_reads rules log t) body) ∙ decision_reads_are stands)
      ∙ ap (λ b. decision_reads rules t.repository e.policy t.entry name (standing_of e.book name).from e.attested + (if b then rules.tree_reads t.repository (from rules log name) target else 0)) (rescue_is stands)
      ∙ ap (λ f. decision_reads rules t.repository e.policy t.entry name (standing_of e.book name).from e.attested
      + (if list_any (nat_lt (standing_of e.book name).above) (lane_of e.book.marks name).pending then rules.tree_reads t.repository f target else 0)) (sym here)

  -- and bounded where the definitions say so
  pub bounded_is : Stands rules log e → is_bounded rules log t ≡ rules.bounded t.repository (standing_of e.book name).from target
  bounded_is stands =
      let here = ap (λ s. s.from) (standing_is rules log t e name stands) in
      ap (body_bounded rules log t) body ∙ ap (λ f. rules.bounded t.repository f target) (sym here)

  -- the verdict of a look
  pub looked : (d : Decision P F) (s : Standing) (verdict : EntryVerdict F) → Stands rules log e → s ≡ standing_of e.book name → d ≡ decision rules t.repository e.policy t.entry name s.from e.attested → verdict ≡ answer_of d.fault → verdict ≡ verdict_of rules log t
  looked d s verdict stands at is said =
      let here : s ≡ record { above = above rules log name; from = from rules log name } = at ∙ standing_is rules log t e name stands in
      let there : d ≡ found rules log t name target body =
      is ∙ ap (λ p. decision rules t.repository p t.entry name s.from e.attested) stands.policy
      ∙ ap (λ x. decision rules t.repository (policy_after rules log) t.entry name x.from e.attested) here
      ∙ ap (decision rules t.repository (policy_after rules log) t.entry name (from rules log name)) stands.attested in
      said ∙ ap (λ x. answer_of x.fault) there ∙ ap answer_of (sym (fault_found rules log t name target body)) ∙ ap (body_verdict (fault_of rules log (Some t))) (sym body)

module _ {P F : Type 0} (rules : Rules P F) (log : List Taken) (e : Engine P F) (stands : Stands rules log e) where
  -- ---- what an engine that stands for the list reads
  some_prior : (name : List ℕ) (i : ℕ) → prior rules log name ≡ Some i → kept_target e.book i ≡ target_at log i
  some_prior name i is =
      let p = prior_reads rules log name i is in
      let positive : (i == 0) ≡ false = ne_eqb i 0 (let f = p.first in λ x. absurd (omega arith)) in
      ap (λ b. cond b None (slice_get e.book.targets (i - 1))) positive ∙ ap (λ xs. slice_get xs (i - 1)) stands.targets ∙ slice_get-map (λ u. target_of u.entry.body) log (i - 1)

  pub prior_target_is : (name : List ℕ) → option_and_then (kept_target e.book) (last_of (lane_of e.book.marks name).unskipped) ≡ prior_target rules log name
  prior_target_is name = ap (λ (l : Lane). option_and_then (kept_target e.book) (last_of l.unskipped)) (stands.lanes name) ∙ by_prior (prior rules log name) refl where
    by_prior : (o : Option ℕ) → prior rules log name ≡ o → option_and_then (kept_target e.book) o ≡ option_and_then (target_at log) o
    by_prior None is = refl
    by_prior (Some i) is = some_prior name i is

  standing_from : (name : List ℕ) → (standing_of e.book name).from ≡ from rules log name
  standing_from name = by_last (last_of (lane_of e.book.marks name).unskipped) ∙ ap (λ o. unwrap_or o zeros) (prior_target_is name) where
    by_last : (o : Option ℕ) → (standing_at e.book o).from ≡ unwrap_or (option_and_then (kept_target e.book) o) zeros
    by_last None = refl
    by_last (Some i) = refl

  standing_above : (name : List ℕ) → (standing_of e.book name).above ≡ above rules log name
  standing_above name = by_last (last_of (lane_of e.book.marks name).unskipped) ∙ ap (λ (l : Lane). unwrap_or (last_of l.unskipped) 0) (stands.lanes name) where
    by_last : (o : Option ℕ) → (standing_at e.book o).above ≡ unwrap_or o 0
    by_last None = refl
    by_last (Some i) = refl

  pub may_rescue_is : (name : List ℕ) → list_any (nat_lt (standing_of e.book name).above) (lane_of e.book.marks name).pending ≡ may_rescue rules log name
  may_rescue_is name =
      ap (λ a. list_any (nat_lt a) (lane_of e.book.marks name).pending) (standing_above name) ∙ ap (λ (l : Lane). list_any (nat_lt (above rules log name)) l.pending) (stands.lanes name)

  pub violation_is : (name kept : List ℕ) (number : ℕ) (fault : F) → first_of (lane_of e.book.marks name).pending ≡ Some number → kept_fault e.book number ≡ Some fault → IsJudged rules log name kept (Violation number fault)
  violation_is name kept number fault first is =
      let here : first_of (lane rules log name).pending ≡ Some number = ap (λ (l : Lane). first_of l.pending) (sym (stands.lanes name)) ∙ first in
      let w = first_number (λ i. is_entry_of (entry_at log i) name && pending rules log i) (length log) number here in
      let p = and_parts (is_entry_of (entry_at log number) name) (pending rules log number) w.2 in
      let q = and_parts (not (authorised rules log number)) (not (rescued rules log number)) p.1 in
      (here, by_fault (fault_at rules log number) refl q.0 w.0 w.1) where
        by_fault : (o : Option F) → fault_at rules log number ≡ o → not (is_none (fault_at rules log number)) ≡ true → 0 < number → number ≤ length log → fault_at rules log number ≡ Some fault
        by_fault None at h a b = absurd (true≢false (sym h ∙ ap (λ o. not (is_none o)) at))
        by_fault (Some f) at h a b = let same : Some f ≡ Some fault = sym (stands.faults number f a b at) ∙ is in at ∙ same

  pub no_violation : (name : List ℕ) → ((number : ℕ) → first_of (lane_of e.book.marks name).pending ≡ Some number → kept_fault e.book number ≡ None) → first_of (lane rules log name).pending ≡ None
  no_violation name none = by_first (first_of (lane rules log name).pending) refl where
    by_fault : (number : ℕ) (o : Option F) → fault_at rules log number ≡ o → not (is_none (fault_at rules log number)) ≡ true → 0 < number → number ≤ length log → kept_fault e.book number ≡ None → ⊥
    by_fault number None at h a b k = true≢false (sym h ∙ ap (λ o. not (is_none o)) at)
    by_fault number (Some f) at h a b k = let clash : None ≡ Some f = sym k ∙ stands.faults number f a b at in cc

    by_first : (o : Option ℕ) → first_of (lane rules log name).pending ≡ o → first_of (lane rules log name).pending ≡ None
    by_first None is = is
    by_first (Some number) is =
        let w = first_number (λ i. is_entry_of (entry_at log i) name && pending rules log i) (length log) number is in
        let p = and_parts (is_entry_of (entry_at log number) name) (pending rules log number) w.2 in
        let q = and_parts (not (authorised rules log number)) (not (rescued rules log number)) p.1 in
        absurd (by_fault number (fault_at rules log number) refl q.0 w.0 w.1 (none number (ap (λ (l : Lane). first_of l.pending) (stands.lanes name) ∙ is)))

  pub tip_is : (name kept : List ℕ) (v : Verdict F) → first_of (lane rules log name).pending ≡ None → IsTip e.book name kept v → IsJudged rules log name kept v
  tip_is name kept (Violation number fault) none is = absurd is
  tip_is name kept (TipDiffers stood recorded) none is =
      let f = standing_from name in
      (none, is.0, is.1 ∙ f, λ x. is.2 (x ∙ sym f))
  tip_is name kept (Accepted count) none is =
      (none, is.0 ∙ standing_from name, is.1 ∙ ap (λ (l : Lane). length l.pushed) (stands.lanes name))
