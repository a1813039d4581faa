-- What an annotation would skip, and the entry that it lists.
use Rattle.std.proofs.Common.{◌≡◌, ◌<◌, ◌≤◌, ◌-◌, ◌&&◌, ℕ, Bool, true, false, List, length, Option, Some, None, refl, ap, sym, ◌∙◌, inl, inr}
use Rattle.std.specs.Prelude.{◌↔◌}
use Rattle.std.specs.List.{slice_get}
use Rattle.std.proofs.lemmas.Bool.{cases_Bool, false≢true}
use Rattle.std.proofs.lemmas.Slice.Eq.{bytes_eq-Decides}
use Rattle.git_object.specs.Repository.{Repository}
use Rattle.root_metadata.specs.Shapes.{only_if}
use Rattle.rsl_chain.specs.Entries.{Taken}
use Rattle.rsl_chain.specs.declared.entries.Entry.{Entry}
use Rattle.rsl_chain.specs.declared.entries.EntryBody.{EntryBody}
use Rattle.rsl_chain.specs.declared.entries.EntryBody.TheVariants.{Reference, Annotation}
use Rattle.rsl_chain.specs.Logs.{IsNoEntryAs, IsUnbroken, entry_at}
use Rattle.rsl_chain.specs.declared.log_faults.LogFault.{LogFault}
use Rattle.rsl_chain.specs.declared.log_faults.LogFault.TheVariants.{Broken, Failed, Memory}
use Rattle.judging.specs.Logs as logs
use Rattle.judging.specs.Logs.{has_id, key_may_skip, may_skip, policy_after}
use Rattle.policy_epochs.specs.declared.policies.Policy.{Policy}
use Rattle.entry_rules.specs.Meeting.{git_name, may_act}
use Rattle.entry_rules.specs.RealRules.{real_rules}
use Rattle.accounts.specs.Judging.{IsJudgedLog, IsOwn}
use Rattle.accounts.specs.Rows.{signer_in}
use Rattle.accounts.specs.Skips.{AsSkipped, IsFoundAt, key_in, would_skip}
use Rattle.accounts.specs.declared.judged_log.JudgedLog.{JudgedLog}
use Rattle.accounts.proofs.Lines.{at_index}

may_as : (anchor : Option (List (List ℕ))) (p : Option Policy) (annotation : Entry) (key : List ℕ) (body : EntryBody)
    → signer_in p annotation ≡ key_in p key
    → may_skip (real_rules anchor) p annotation body ≡ would_skip (real_rules anchor) p key body
may_as anchor None annotation key body signs = refl
may_as anchor (Some policy) annotation key (Reference name target) signs = ap (λ (k : Option (List ℕ)). key_may_skip (real_rules anchor) policy k name) signs
may_as anchor (Some policy) annotation key (Annotation ids skip message) signs = refl

pub as_skipped : AsSkipped
as_skipped anchor log a x key lists signs =
    let rules = real_rules anchor in
    ap (λ (b : Bool). b && may_skip rules (policy_after rules log) a.entry x.entry.body) lists
    ∙ may_as anchor (policy_after rules log) a.entry key x.entry.body signs

-- the key may act, where it is one of the policy's
pub by_key : (anchor : Option (List (List ℕ))) (policy : Policy) (key name : List ℕ) (b : Bool)
    → (b && may_act policy.rules (git_name name) key) ≡ key_may_skip (real_rules anchor) policy (only_if b key) name
by_key anchor policy key name true = refl
by_key anchor policy key name false = refl

pub found_none : (log : List Taken) (id : List ℕ) (o : Option ℕ) → o ≡ None
    → ((i : ℕ) → (o ≡ Some i) ↔ ((0 < i) × (i ≤ length log) × (has_id (logs.entry_at log i) id ≡ true))) → IsFoundAt log id 0 None
found_none log id o missing places = record {
  there = λ t is. absurd (cc is);
  none = λ _ i some within. elim (cases_Bool (has_id (logs.entry_at log i) id)) [
    | inl has ↦ let clash : None ≡ Some i = sym missing ∙ (places i).1 (some, within, has) in absurd (cc clash)
    | inr hasnt ↦ hasnt
  ];
}

module _ (r : Repository) (judged : JudgedLog) (is : IsJudgedLog judged.engine.rules.anchor r judged) (id : List ℕ) (number : ℕ)
    (at : (0 < number) × (number ≤ length is.log) × (has_id (logs.entry_at is.log number) id ≡ true)) where
  there : (t : Taken) × (logs.entry_at is.log number ≡ Some t) × (t.entry.id ≡ id) × (entry_at r id ≡ Some t.entry)
  there = by_entry (slice_get is.log (number - 1)) refl at.2 where
    by_entry : (o : Option Taken) → slice_get is.log (number - 1) ≡ o → has_id o id ≡ true
        → (t : Taken) × (logs.entry_at is.log number ≡ Some t) × (t.entry.id ≡ id) × (entry_at r id ≡ Some t.entry)
    by_entry None found h = absurd (false≢true h)
    by_entry (Some t) found h =
        let same : t.entry.id ≡ id = (bytes_eq-Decides t.entry.id id).0 h in
        (t, found, same, ap (entry_at r) (sym same) ∙ at_index (IsOwn r) is.log (number - 1) t is.own found)

  pub found_some : (entry : Entry) → entry_at r id ≡ Some entry → (t : Taken) × (entry ≡ t.entry) × IsFoundAt is.log id number (Some t)
  found_some entry read =
      let w = there in
      let both : Some entry ≡ Some w.0.entry = sym read ∙ w.3 in (
        w.0,
        cc both,
        record {
          there = λ t same. let own : w.0 ≡ t = cc same in (at.0, w.1 ∙ same, ap (λ (x : Taken). x.entry.id) (sym own) ∙ w.2);
          none = λ never. absurd (cc never);
        },
      )

  pub no_break_at : (fault : LogFault) → IsNoEntryAs r id fault → IsUnbroken fault
  no_break_at (Broken named) none =
      let clash : Some there.0.entry ≡ None = sym there.3 ∙ none in
      absurd (cc clash)
  no_break_at Failed none = tt
  no_break_at Memory none = tt
