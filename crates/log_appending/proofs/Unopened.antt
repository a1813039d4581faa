-- Why a key file or a log was not opened is why nothing was read.
use Rattle.std.proofs.Common.{◌≡◌, ℕ, List, refl}
use Rattle.std.specs.Prelude.{false, Some}
use Rattle.git_object.specs.Repository.{Repository}
use Rattle.keeper_api.specs.declared.keepers.Keeper as keeper
use Rattle.edge_io.specs.declared.disks.Disk as disk
use Rattle.leaf_journal.specs.Signing.{IsLoaded, Signing}
use Rattle.leaf_journal.specs.Opening.{WhyUnopened, open_failed}
use Rattle.leaf_journal.specs.declared.open_keys.OpenFault.{OpenFault}
use Rattle.leaf_journal.specs.declared.open_keys.OpenFault.TheVariants as opening
use Rattle.rsl_chain.specs.Logs.{IsBrokenAs}
use Rattle.rsl_chain.specs.declared.log_faults.LogFault.{LogFault}
use Rattle.rsl_chain.specs.declared.log_faults.LogFault.TheVariants as log
use Rattle.log_appending.specs.Opening.{HoldsKey, WhyUnread, log_fault, opened_fault, unread_disk}

-- which object counts the fault
pub key_disk : (fault : OpenFault) → open_failed fault ≡ unread_disk (opened_fault fault)
key_disk opening.KeyFile = refl
key_disk opening.DiskFailed = refl
key_disk opening.Memory = refl

pub log_disk : (fault : LogFault) → unread_disk (log_fault fault) ≡ false
log_disk (log.Broken id) = refl
log_disk log.Failed = refl
log_disk log.Memory = refl

module _ {R D : Type 0} (keeper_of : keeper.Ghosts R) (disk_of : disk.Ghosts D) (store : R) (file : D) where
  pub not_opened : (fault : OpenFault) → ((bytes : List ℕ) → disk_of.seen file ≡ Some bytes → WhyUnopened fault bytes) → WhyUnread keeper_of disk_of store file (opened_fault fault)
  not_opened opening.KeyFile why = why
  not_opened opening.DiskFailed why = tt
  not_opened opening.Memory why = tt

  pub holds_key : (signing : Signing) → ((bytes : List ℕ) → disk_of.seen file ≡ Some bytes → IsLoaded bytes signing) → HoldsKey keeper_of disk_of store file
  holds_key signing loaded = λ bytes told. (signing.secret, (loaded bytes told).is)

  pub not_loaded : (fault : LogFault) → HoldsKey keeper_of disk_of store file → ((r : Repository) → keeper_of.content store ≡ Some r → IsBrokenAs r fault) → WhyUnread keeper_of disk_of store file (log_fault fault)
  not_loaded (log.Broken id) key why = (key, why)
  not_loaded log.Failed key why = key
  not_loaded log.Memory key why = tt
