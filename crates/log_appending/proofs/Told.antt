-- What was read of a store when something came of adding an entry to it.
use Rattle.std.proofs.Common.{◌≡◌, ◌<◌, ◌∙◌, ℕ, List, ap, length}
use Rattle.std.specs.Prelude.{Option, Some, Result, Ok, Err}
use Rattle.git_object.specs.Repository.{Repository, value_of}
use Rattle.keeper_api.proofs.Coming.{as_before_then}
use Rattle.keeper_api.specs.Undisturbed.{Undisturbed}
use Rattle.keeper_api.specs.declared.keepers.Keeper as keeper
use Rattle.edge_io.specs.Disk.{IsKept}
use Rattle.edge_io.specs.declared.disks.Disk as disk
use Rattle.rsl_chain.specs.declared.entries.EntryBody.{EntryBody}
use Rattle.rsl_chain.specs.declared.entries.EntryBody.TheVariants.{Reference}
use Rattle.lms_keys.specs.HssSecret.{Secret}
use Rattle.rsl_chain.specs.Logs.{IsLogOf}
use Rattle.log_appending.proofs.Moved.{append_from}
use Rattle.log_appending.specs.Appending.{AppendEnds}
use Rattle.log_appending.specs.Recording.{Tries}
use Rattle.log_appending.specs.declared.appending.AppendFault.{AppendFault}
use Rattle.log_appending.specs.declared.appending.AppendFault.TheVariants.{ClockFailed, Exhausted, DiskFailed, CommitFailed, Memory, MemoryAfter}
use Rattle.log_appending.specs.declared.appending.Appended.{Appended}

module _ {R D : Type 0} (keeper_of : keeper.Ghosts R) (disk_of : disk.Ghosts D) (secret : Secret) (old new : R) (file file_now : D) (ids : List (List ℕ)) (body : EntryBody) (left left_now : Option (List ℕ)) where
  -- what is told afterwards was told before
  pub told_before : (result : Result Appended AppendFault) → AppendEnds keeper_of disk_of secret old new file file_now ids body left left_now result
      → (now : Repository) → keeper_of.content new ≡ Some now → (was : Repository) × (keeper_of.content old ≡ Some was)
  told_before (Ok appended) ends now held = (let was = ends.0.is.gains.held now held in (was.0, was.1))
  told_before (Err ClockFailed) ends now held = (now, ends.0.store.content now held)
  told_before (Err Exhausted) ends now held = (now, ends.is.0.store.content now held)
  told_before (Err DiskFailed) ends now held = (now, ends.is.0.content now held)
  told_before (Err CommitFailed) ends now held = (let was = ends.is.gains.held now held in (was.0, was.1))
  told_before (Err Memory) ends now held = (now, ends.is.store.content now held)
  told_before (Err MemoryAfter) ends now held = (now, ends.is.0.content now held)

module _ {R D : Type 0} (keeper_of : keeper.Ghosts R) (disk_of : disk.Ghosts D) (left left_now : Option (List ℕ)) (Is : EntryBody → Type 0) (IsSo : List (List ℕ) → EntryBody → Repository → Type 0) where
  -- the log was read, then what the body wants, and then adding its entry came to this
  pub tried : (secret : Secret) (ids : List (List ℕ)) (body : EntryBody) (old opened mid new : R) (file file_mid file_now : D) (result : Result Appended AppendFault)
      → length ids < 1000000 → Undisturbed keeper_of old opened → Undisturbed keeper_of opened mid
      → IsKept (disk_of.seen file) (disk_of.seen file_mid) (disk_of.may_leave file) (disk_of.may_leave file_mid)
      → ((r : Repository) → keeper_of.content opened ≡ Some r → IsLogOf r ids)
      → Is body
      → ((r : Repository) → keeper_of.content mid ≡ Some r → IsSo ids body r)
      → AppendEnds keeper_of disk_of secret mid new file_mid file_now ids body left left_now result
      → Tries keeper_of disk_of left left_now old new file file_now Is IsSo result
  tried secret ids body old opened mid new file file_mid file_now result short first next kept log is so ends = record {
    secret = secret;
    ids = ids;
    body = body;
    is = is;
    short = short;
    read = λ now held.
        let was = told_before keeper_of disk_of secret mid new file_mid file_now ids body left left_now result ends now held in
        let then = next.content was.0 was.1 in
        (was.0, first.content was.0 then, record { log = log was.0 then; so = so was.0 was.1 });
    ends = append_from keeper_of disk_of secret old mid new file file_mid file_now (as_before_then keeper_of old opened mid first next) kept ids body left left_now result ends;
  }

-- the value of a reference is what its body records
pub of_value : (name target : List ℕ) (body : EntryBody) (held : Option Repository) → body ≡ Reference name target → ((r : Repository) → held ≡ Some r → target ≡ value_of r name)
    → (r : Repository) → held ≡ Some r → body ≡ Reference name (value_of r name)
of_value name target body held is value r told = is ∙ ap (λ (t : List ℕ). Reference name t) (value r told)
