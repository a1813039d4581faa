-- Where memory may be wanting.
use Rattle.std.proofs.Common.{◌≡◌, ℕ, List, Option, Some, None, inl, inr, sym, subst}
use Rattle.std.specs.Prelude.{IfErr, IfSome, IsErrAnd, Ok, Err, Result}
use Rattle.git_object.specs.Repository.{empty_repository}
use Rattle.keeper_api.specs.Changes.{changed}
use Rattle.keeper_api.specs.declared.changes.Change.{Change}
use Rattle.keeper_api.specs.declared.keeper_faults.KeeperFault.{KeeperFault}
use Rattle.keeper_api.specs.declared.keeper_faults.KeeperFault.TheVariants as keeper
use Rattle.clone_stream.specs.Deciding.{IsRefusedBy}
use Rattle.clone_stream.specs.Faults.{from_keeper}
use Rattle.clone_stream.specs.Streams.{largest_stream}
use Rattle.clone_stream.specs.Taking.{IsChangeRead, IsDecided}
use Rattle.clone_stream.specs.declared.stream_faults.StreamFault.{StreamFault}
use Rattle.clone_stream.specs.declared.stream_faults.StreamFault.TheVariants.{BadLine, IdDiffers, Order, TooLarge, Truncated, SourceFailed, KeeperFailed, NotEmpty, Memory}

-- what holds of one refusal holds where it was answered
pub gives : {T E : Type 0} (r : Result T E) (x : E) (P : E → Type 0) → IsErrAnd r (λ e. e ≡ x) → P x → IfErr r P
gives (Ok y) x P is p = tt
gives (Err e) x P is p = subst P (sym is) p

-- what a reading that was refused decides
by_reading : (input : List ℕ) (after : Option (List ℕ)) (fault : StreamFault) → IsRefusedBy largest_stream input after fault → IsDecided input after fault
by_reading input after (BadLine p) is = is
by_reading input after (IdDiffers id found) is = is
by_reading input after (Order p) is = is
by_reading input after (TooLarge n) is = is
by_reading input after (Truncated p) is = is
by_reading input after SourceFailed is = is
by_reading input after KeeperFailed is = tt
by_reading input after NotEmpty is = tt
by_reading input after Memory is = inr (inl is)

pub refused : (o after : Option (List ℕ)) (fault : StreamFault) → IfSome o (λ input. IsRefusedBy largest_stream input after fault) → IfSome o (λ input. IsDecided input after fault)
refused None after fault is = tt
refused (Some input) after fault is = by_reading input after fault is

-- the keeper did not take what was read
pub untaken : (change : Change) (o after : Option (List ℕ)) (e : KeeperFault) → IsChangeRead change o after → IfSome o (λ input. IsDecided input after (from_keeper e))
untaken change None after e found = tt
untaken change (Some input) after keeper.Failed found = tt
untaken change (Some input) after keeper.Memory found = inr (inr (record { bytes = found.bytes; repository = changed change empty_repository; was_read = found.was_read; text = found.text }))
