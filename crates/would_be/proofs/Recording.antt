-- An entry that is signed has the fault that it would have had.
use Rattle.std.proofs.Common.{◌≡◌, ◌++◌, ℕ, cond, List, Option, Some, None, refl, ap, sym, ◌∙◌}
use Rattle.std.specs.Result.{result_err}
use Rattle.std.specs.Str.{bytes_eq}
use Rattle.git_object.specs.References.{policy_name}
use Rattle.root_metadata.specs.Shapes.{set_of}
use Rattle.rsl_chain.specs.Entries.{Taken, target_of}
use Rattle.rsl_chain.specs.declared.entries.EntryBody.{EntryBody}
use Rattle.rsl_chain.specs.declared.entries.EntryBody.TheVariants.{Reference}
use Rattle.tree_paths.specs.Repositories.{readings_of}
use Rattle.tree_paths.specs.States.{walk_of}
use Rattle.judging.specs.Logs as logs
use Rattle.policy_epochs.specs.declared.policies.Policy.{Policy}
use Rattle.policy_reading.specs.Policies.{policy_of}
use Rattle.entry_rules.specs.Faults as faults
use Rattle.entry_rules.specs.Faults.{change_fault, entry_fault}
use Rattle.entry_rules.specs.RealRules.{epoch_by, real_rules}
use Rattle.entry_rules.specs.Signing.{approved, tree_in}
use Rattle.entry_rules.specs.declared.faults.Fault.{Fault}
use Rattle.would_be.specs.Laws.{SignsAs, stood_at}
use Rattle.would_be.specs.Would.{ordinary_fault, would_fault}
use Rattle.would_be.specs.declared.proposals.Proposed.{Proposed}

module _ (anchor : Option (List (List ℕ))) (log : List Taken) (t : Taken) (p : Proposed) (body : t.entry.body ≡ Reference p.name p.target) where
  ordinary_as : (current : Option Policy) → SignsAs current p t
      → ordinary_fault t.repository current (stood_at anchor log p.name) p ≡ logs.ordinary_fault (real_rules anchor) current t (logs.from (real_rules anchor) log p.name) (logs.attested_after log)
  unfolding entry_fault
  ordinary_as None signs = refl
  ordinary_as (Some policy) signs =
      let r = t.repository in
      let from = logs.from (real_rules anchor) log p.name in
      let attested = logs.attested_after log in
      let s = walk_of (readings_of r) from in
      let e = walk_of (readings_of r) p.target in
      let approvers = approved r policy.keys p.name from attested (tree_in e) in
      ap (λ (ids : List (List ℕ)). change_fault policy.rules p.name (set_of (ids ++ approvers)) s e) signs
      ∙ sym (ap (faults.body_fault r policy t.entry from attested) body)

  pub as_recorded : SignsAs (logs.policy_after (real_rules anchor) log) p t
      → would_fault anchor t.repository (logs.policy_after (real_rules anchor) log) (stood_at anchor log p.name) p ≡ logs.fault_of (real_rules anchor) log (Some t)
  as_recorded signs =
      let current = logs.policy_after (real_rules anchor) log in
      let target : p.target ≡ target_of t.entry.body = sym (ap target_of body) in
      let ordinary = ordinary_as current signs in
      (λ i. cond (bytes_eq p.name policy_name) (result_err (epoch_by anchor current (policy_of t.repository (target i)))) (ordinary i))
      ∙ sym (ap (logs.body_fault (real_rules anchor) log t) body)
