-- The definitions over the list, read aloud: each as a reader would say it, without tests and filters.
use Rattle.std.specs.Prelude.{◌≡◌, ◌≢◌, ◌⊎◌, ◌<◌, ◌≤◌, ◌++◌, ℕ, true, false, List, length, Some, None, Ok, Err}
use Rattle.std.specs.Result.{result_err}
use Rattle.rsl_chain.specs.Entries.{Taken, skips_id}
use Rattle.git_object.specs.References.{policy_name}
use Rattle.rsl_chain.specs.declared.entries.EntryBody.TheVariants.{Reference}
use Rattle.judging.specs.Rules.{Rules, same_tree}
use Rattle.judging.specs.Logs.{attested_after, authorised, before, entry_at, fault_at, from, is_entry_of, may_skip}
use Rattle.judging.specs.Logs.{policy_after, prior, rescued, skipped}

module _ {P F : Type 0} (rules : Rules P F) (log : List Taken) where
  -- annotation a is later, lists the entry's id to skip it, and its key may
  pub record IsSkip (i a : ℕ) : Type 0 where
    pub later : i < a
    pub within : a ≤ length log
    pub annotation : Taken
    pub entry : Taken
    pub there : entry_at log a ≡ Some annotation
    pub here : entry_at log i ≡ Some entry
    pub lists : skips_id annotation.entry.body entry.entry.id ≡ true
    pub may : may_skip rules (policy_after rules (before log a)) annotation.entry entry.entry.body ≡ true

  -- entry f is authorised, of b's reference, has the tree of its prior's target, and b is between its prior and it
  pub record IsRescue (b f : ℕ) : Type 0 where
    pub within : f ≤ length log
    pub fix : Taken
    pub there : entry_at log f ≡ Some fix
    pub name : List ℕ
    pub target : List ℕ
    pub body : fix.entry.body ≡ Reference name target
    pub own : is_entry_of (entry_at log b) name ≡ true
    pub authorised : fault_at rules log f ≡ None
    pub tree : same_tree rules fix.repository (from rules (before log f) name) target ≡ true
    pub above : (p : ℕ) → prior rules (before log f) name ≡ Some p → p < b
    pub some : 0 < b
    pub below : b < f

  -- the last entry of the reference that is not skipped
  pub record IsPrior (name : List ℕ) (i : ℕ) : Type 0 where
    pub first : 0 < i
    pub within : i ≤ length log
    pub own : is_entry_of (entry_at log i) name ≡ true
    pub unskipped : skipped rules log i ≡ false
    pub last : (j : ℕ) → i < j → j ≤ length log → is_entry_of (entry_at log j) name ≡ true → skipped rules log j ≡ true

  -- neither authorised nor rescued
  pub record IsViolation (name : List ℕ) (i : ℕ) (fault : F) : Type 0 where
    pub first : 0 < i
    pub within : i ≤ length log
    pub own : is_entry_of (entry_at log i) name ≡ true
    pub found : fault_at rules log i ≡ Some fault
    pub unrescued : rescued rules log i ≡ false
    -- and no earlier entry of the reference is like it
    pub least : (j : ℕ) → 0 < j → j < i → is_entry_of (entry_at log j) name ≡ true → (fault_at rules log j ≡ None)
        ⊎ (rescued rules log j ≡ true)

  -- the entry of the policy's reference opens no policy
  abbrev pub OpensNone : ℕ → Taken → Type 0
  OpensNone j t = (fault : F) × (rules.epoch t.repository (policy_after rules (before log j)) t.entry ≡ Err fault)

  -- the policy that the entry opened, of which no later entry of the policy's reference opened another
  pub record IsInForce (policy : P) (k : ℕ) : Type 0 where
    pub first : 0 < k
    pub within : k ≤ length log
    pub epoch : Taken
    pub there : entry_at log k ≡ Some epoch
    pub own : is_entry_of (entry_at log k) policy_name ≡ true
    pub opens : rules.epoch epoch.repository (policy_after rules (before log k)) epoch.entry ≡ Ok policy
    pub last : (j : ℕ) (t : Taken) → k < j → j ≤ length log → entry_at log j ≡ Some t
        → is_entry_of (entry_at log j) policy_name ≡ true → OpensNone j t

  -- the entry has the fault of its rule
  pub record HasFault (i : ℕ) (t : Taken) : Type 0 where
    pub policy : (target : List ℕ) → t.entry.body ≡ Reference policy_name target
        → fault_at rules log i ≡ result_err (rules.epoch t.repository (policy_after rules (before log i)) t.entry)
    pub none : (name target : List ℕ) → t.entry.body ≡ Reference name target → name ≢ policy_name
        → policy_after rules (before log i) ≡ None → fault_at rules log i ≡ Some rules.no_policy
    pub ordinary : (name target : List ℕ) (p : P) → t.entry.body ≡ Reference name target → name ≢ policy_name
        → policy_after rules (before log i) ≡ Some p → fault_at rules log i ≡ rules.fault t.repository p t.entry
        (from rules (before log i) name) (attested_after (before log i))

  -- with more entries at the end an entry's fault is the same, and none that was authorised or rescued ceases to be so
  pub record Stays (more : List Taken) (i : ℕ) : Type 0 where
    pub same : fault_at rules (log ++ more) i ≡ fault_at rules log i
    pub stays_authorised : authorised rules log i ≡ true → authorised rules (log ++ more) i ≡ true
    pub stays_rescued : rescued rules log i ≡ true → rescued rules (log ++ more) i ≡ true
