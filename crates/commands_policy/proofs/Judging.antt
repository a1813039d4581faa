-- What was judged behind a log, and what came of adding its entry.
use Rattle.std.proofs.Common.{◌≡◌, ◌<◌, ◌∙◌, ℕ, List, [], ap, length, refl, subst, sym}
use Rattle.std.specs.Prelude.{Option, Some, None, Ok, Err, false}
use Rattle.git_object.specs.Repository.{Repository, value_of}
use Rattle.keeper_api.specs.declared.keepers.Keeper as keeper
use Rattle.edge_io.specs.declared.disks.Disk as disk
use Rattle.git_object.specs.References.{policy_name}
use Rattle.rsl_chain.specs.declared.entries.Entry.{Entry}
use Rattle.rsl_chain.specs.declared.entries.EntryBody.TheVariants.{Reference}
use Rattle.rsl_chain.specs.Logs.{IsBrokenAs, IsLogOf}
use Rattle.rsl_chain.specs.declared.log_faults.LogFault.{LogFault}
use Rattle.rsl_chain.specs.declared.log_faults.LogFault.TheVariants as log
use Rattle.rsl_chain.proofs.Entered.{entries_from}
use Rattle.rsl_chain.specs.Histories.{AreEntriesAt}
use Rattle.log_appending.specs.Opening.{HoldsKey, WhyUnread, log_fault, unread_disk, unread_keeper}
use Rattle.log_appending.specs.Untouched.{Untouched}
use Rattle.log_appending.specs.declared.opening.ReadingFault.{ReadingFault}
use Rattle.policy_epochs.specs.declared.faults.PolicyFault.{PolicyFault}
use Rattle.policy_reading.specs.InForce.{epoch_fault}
use Rattle.commands_policy.specs.Applying.{HasEpochFault, HasPolicyFault, IsRefusal, Judges, PolicyEnds, RecordsEpoch, no_clock, no_disk, no_keeper, policy_line}
use Rattle.commands_policy.specs.declared.policies.NotApplied.{NotApplied}
use Rattle.commands_policy.specs.declared.policies.NotApplied.TheVariants as none

-- the fault of an entry behind the ids of a log is its fault behind the log
pub has_fault : (r : Repository) (ids : List (List ℕ)) (target : List ℕ) (fault : Option PolicyFault) → IsLogOf r ids → ((entries : List Entry) → AreEntriesAt r ids entries → fault ≡ epoch_fault None r entries target) → HasEpochFault r target fault
has_fault r ids target fault is judged =
    let found = entries_from r ids [] ids is.linked refl in
    record { entries = found.0; history = record { ids = ids; log = is; are = found.1 }; is = judged found.0 found.1 }

-- and that of a reference's value
pub judges_epoch : (r : Repository) (ids : List (List ℕ)) (name target : List ℕ) → target ≡ value_of r name → IsLogOf r ids → ((entries : List Entry) → AreEntriesAt r ids entries → None ≡ epoch_fault None r entries target) → Judges r name (Ok target)
judges_epoch r ids name target value is judged = (value, has_fault r ids target None is judged)

pub judges_fault : (r : Repository) (ids : List (List ℕ)) (name target : List ℕ) (why : PolicyFault) → target ≡ value_of r name → IsLogOf r ids → ((entries : List Entry) → AreEntriesAt r ids entries → Some why ≡ epoch_fault None r entries target) → Judges r name (Err why)
judges_fault r ids name target why value is judged = subst (λ (t : List ℕ). HasEpochFault r t (Some why)) value (has_fault r ids target (Some why) is judged)

module _ {R D : Type 0} (keeper_of : keeper.Ghosts R) (disk_of : disk.Ghosts D) (store : R) (file : D) where
  -- why a log was not read again is why nothing was read
  pub unread : (fault : LogFault) → HoldsKey keeper_of disk_of store file → ((r : Repository) → keeper_of.content store ≡ Some r → IsBrokenAs r fault) → WhyUnread keeper_of disk_of store file (log_fault fault)
  unread (log.Broken id) key why = (key, why)
  unread log.Failed key why = key
  unread log.Memory key why = tt

-- ---- behind the log, with what was read of the reference

pub opens : (r : Repository) (ids : List (List ℕ)) (name target : List ℕ) → name ≡ policy_name → Judges r name (Ok target) → RecordsEpoch ids (Reference name target) r
opens r ids name target named judged =
    let at : target ≡ value_of r policy_name = judged.0 ∙ ap (value_of r) named in
    record {
      value = ap (λ (n : List ℕ). Reference n target) named ∙ ap (λ (t : List ℕ). Reference policy_name t) at;
      epoch = subst (λ (t : List ℕ). HasEpochFault r t None) at judged.1;
    }

pub policy_fault : (r : Repository) (ids : List (List ℕ)) (name : List ℕ) (why : PolicyFault) → IsLogOf r ids → length ids < 1000000 → name ≡ policy_name → Judges r name (Err why) → HasPolicyFault r why
policy_fault r ids name why log short named judged = record {
  ids = ids;
  log = log;
  short = short;
  fault = subst (λ (n : List ℕ). HasEpochFault r (value_of r n) (Some why)) named judged;
}

-- a refusal is no fault of an object
pub quiet_keeper : (why : PolicyFault) (result : NotApplied) → IsRefusal why result → no_keeper result ≡ false
quiet_keeper why (none.Unread fault) is = ap unread_keeper is
quiet_keeper why (none.Refused told line) is = refl
quiet_keeper why (none.Unappended fault) is = absurd is

pub quiet_disk : (why : PolicyFault) (result : NotApplied) → IsRefusal why result → no_disk result ≡ false
quiet_disk why (none.Unread fault) is = ap unread_disk is
quiet_disk why (none.Refused told line) is = refl
quiet_disk why (none.Unappended fault) is = absurd is

pub quiet_clock : (why : PolicyFault) (result : NotApplied) → IsRefusal why result → no_clock result ≡ false
quiet_clock why (none.Unread fault) is = refl
quiet_clock why (none.Refused told line) is = refl
quiet_clock why (none.Unappended fault) is = absurd is

module _ {R D : Type 0} (keeper_of : keeper.Ghosts R) (disk_of : disk.Ghosts D) (left : Option (List ℕ)) (old store : R) (was file : D) where
  -- the policy was refused, and nothing was done
  pub refuses : (why : PolicyFault) (result : NotApplied) → IsRefusal why result → HoldsKey keeper_of disk_of store file → ((r : Repository) → keeper_of.content store ≡ Some r → HasPolicyFault r why)
      → Untouched keeper_of disk_of old store was file → PolicyEnds keeper_of disk_of left left old store was file (Err result)
  refuses why (none.Unread fault) is key has same = record {
    why = subst (λ (f : ReadingFault). WhyUnread keeper_of disk_of store file f) (sym is) tt;
    same = same;
    unasked = refl;
  }
  refuses why (none.Refused told line) is key has same = record {
    line_is = is.1 ∙ ap policy_line (sym is.0);
    holds = key;
    fault = λ r held. subst (HasPolicyFault r) (sym is.0) (has r held);
    same = same;
    unasked = refl;
  }
  refuses why (none.Unappended fault) is key has same = absurd is
