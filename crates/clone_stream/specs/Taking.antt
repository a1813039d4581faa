-- A stream that is taken from a source into an empty keeper.
use Rattle.std.specs.Prelude.{◌≡◌, ◌≤◌, ◌⊎◌, ℕ, true, List, length, take, Option, Some}
use Rattle.octets.specs.Content.{with_front}
use Rattle.edge_io.specs.Read.{IsAtEnd}
use Rattle.git_object.specs.Repository.{Repository, empty_repository}
use Rattle.keeper_api.specs.Changes.{changed}
use Rattle.keeper_api.specs.Undisturbed.{Undisturbed}
use Rattle.keeper_api.specs.declared.changes.Change.{Change}
use Rattle.keeper_api.specs.declared.keepers.Keeper.{Ghosts}
use Rattle.clone_stream.specs.Deciding.{Decides, FailsUnbroken}
use Rattle.clone_stream.specs.Fronts.{FirstBreak}
use Rattle.clone_stream.specs.Streams.{IsStreamText, largest_stream}
use Rattle.clone_stream.specs.declared.stream_faults.Break.TheVariants as break_
use Rattle.clone_stream.specs.declared.stream_faults.StreamFault.{StreamFault}
use Rattle.clone_stream.specs.declared.stream_faults.StreamFault.TheVariants.{BadLine, IdDiffers, Order, TooLarge}
use Rattle.clone_stream.specs.declared.stream_faults.StreamFault.TheVariants.{Truncated, SourceFailed, KeeperFailed}
use Rattle.clone_stream.specs.declared.stream_faults.StreamFault.TheVariants.{NotEmpty, Memory}

-- the source was read to its end, and gave these bytes
pub record WasRead (before after : Option (List ℕ)) (bytes : List ℕ) : Type 0 where
  pub read : before ≡ with_front bytes after
  pub end : IsAtEnd after
  pub short : length bytes ≤ largest_stream

-- the source was read to its end, and its bytes are the stream of what the change makes of nothing
pub record IsChangeRead (change : Change) (before after : Option (List ℕ)) : Type 0 where
  pub bytes : List ℕ
  pub was_read : WasRead before after bytes
  pub text : IsStreamText (changed change empty_repository) bytes

-- the keeper was empty, and the source's bytes are the repository's stream
pub record Spells (left left_now : Option (List ℕ)) (before : Option Repository) (r : Repository) : Type 0 where
  pub bytes : List ℕ
  pub was_read : WasRead left left_now bytes
  pub empty : before ≡ Some empty_repository
  pub text : IsStreamText r bytes

-- the source was read to its end, its bytes are this repository's stream, and what the keeper then tells is this one;
-- it
-- was empty before
pub record TakesStream (left left_now : Option (List ℕ)) (before after : Option Repository) : Type 0 where
  pub bytes : List ℕ
  pub repository : Repository
  pub was_read : WasRead left left_now bytes
  pub text : IsStreamText repository bytes
  pub held : (r : Repository) → after ≡ Some r → (before ≡ Some empty_repository) × (r ≡ repository)

-- the same, and where the keeper tells it, a stop leaves the repository alone
pub record TakesInto {S : Type 0} (keeper : Ghosts S) (left left_now : Option (List ℕ)) (old new : S) : Type 0 where
  pub takes : TakesStream left left_now (keeper.content old) (keeper.content new)
  pub tells : keeper.tells_left new ≡ true → keeper.tells_left old ≡ true
  pub stop : keeper.tells_left new ≡ true → (now : Repository) → keeper.content new ≡ Some now → (r : Repository)
      → keeper.left new r
      → r ≡ takes.repository

-- the input was read to its end, and is a stream
pub record IsWhole (input : List ℕ) (after : Option (List ℕ)) : Type 0 where
  pub bytes : List ℕ
  pub repository : Repository
  pub was_read : WasRead (Some input) after bytes
  pub text : IsStreamText repository bytes

-- memory is wanting only where nothing was read, at a record that takes some after the longest front, or where the
-- whole stream was read
abbrev pub MayLack : List ℕ → Option (List ℕ) → Type 0
MayLack input after = (after ≡ Some input)
    ⊎ (FirstBreak (take largest_stream input) break_.Memory ⊎ IsWhole input after)

-- a refusal of the input is the one that its first wrong place decides; a failed source gave nothing that is refused,
-- and want of memory hides no place where no memory is taken
abbrev pub IsDecided : List ℕ → Option (List ℕ) → StreamFault → Type 0
IsDecided input after (BadLine at) = Decides input (BadLine at)
IsDecided input after (IdDiffers id found) = Decides input (IdDiffers id found)
IsDecided input after (Order at) = Decides input (Order at)
IsDecided input after (TooLarge limit) = Decides input (TooLarge limit)
IsDecided input after (Truncated at) = Decides input (Truncated at)
IsDecided input after SourceFailed = FailsUnbroken input after
IsDecided input after KeeperFailed = Unit {0}
IsDecided input after NotEmpty = Unit {0}
IsDecided input after Memory = MayLack input after

-- the refusals that come without a keeper
abbrev pub IsOfSource : StreamFault → Type 0
IsOfSource (BadLine at) = Unit {0}
IsOfSource (IdDiffers id found) = Unit {0}
IsOfSource (Order at) = Unit {0}
IsOfSource (TooLarge limit) = Unit {0}
IsOfSource (Truncated at) = Unit {0}
IsOfSource SourceFailed = Unit {0}
IsOfSource KeeperFailed = ⊥
IsOfSource NotEmpty = ⊥
IsOfSource Memory = Unit {0}

-- the refusals that come of what the source gives
abbrev pub IsOfInput : StreamFault → Type 0
IsOfInput (BadLine at) = Unit {0}
IsOfInput (IdDiffers id found) = Unit {0}
IsOfInput (Order at) = Unit {0}
IsOfInput (TooLarge limit) = Unit {0}
IsOfInput (Truncated at) = Unit {0}
IsOfInput SourceFailed = Unit {0}
IsOfInput KeeperFailed = ⊥
IsOfInput NotEmpty = ⊥
IsOfInput Memory = ⊥

-- the keeper failed: it holds what it held or, perhaps, the spelled repository, and a stop leaves no other than these
pub record MayTake {S : Type 0} (keeper : Ghosts S) (left left_now : Option (List ℕ)) (old new : S) : Type 0 where
  pub held : (r : Repository) → keeper.content new ≡ Some r → (keeper.content old ≡ Some r)
      ⊎ Spells left left_now (keeper.content old) r
  pub tells : keeper.tells_left new ≡ true → keeper.tells_left old ≡ true
  pub stop : keeper.tells_left new ≡ true → (r : Repository) → keeper.left new r → keeper.left old r
      ⊎ Spells left left_now (keeper.content old) r

-- what a refusal leaves of the keeper: all as before, but where the keeper failed
abbrev pub LeavesRefused : {S : Type 0} → Ghosts S → Option (List ℕ) → Option (List ℕ) → S → S → StreamFault → Type 0
LeavesRefused keeper left left_now old new (BadLine at) = Undisturbed keeper old new
LeavesRefused keeper left left_now old new (IdDiffers id found) = Undisturbed keeper old new
LeavesRefused keeper left left_now old new (Order at) = Undisturbed keeper old new
LeavesRefused keeper left left_now old new (TooLarge limit) = Undisturbed keeper old new
LeavesRefused keeper left left_now old new (Truncated at) = Undisturbed keeper old new
LeavesRefused keeper left left_now old new SourceFailed = Undisturbed keeper old new
LeavesRefused keeper left left_now old new KeeperFailed = MayTake keeper left left_now old new
LeavesRefused keeper left left_now old new NotEmpty = Undisturbed keeper old new
LeavesRefused keeper left left_now old new Memory = Undisturbed keeper old new
