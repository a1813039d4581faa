-- The parts of a stream as they are read.
use Rattle.std.specs.Prelude.{◌≡◌, ◌≢◌, ◌<◌, ◌≤◌, ◌⊎◌, [], ℕ, List, Option, IfSome, length}
use Rattle.octets.specs.Content.{with_front}
use Rattle.edge_io.specs.Read.{IsAtEnd}
use Rattle.buffered_reader.specs.Ahead.{Reading, ahead}
use Rattle.git_object.specs.Repository.{empty_repository}
use Rattle.keeper_api.specs.Changes.{changed}
use Rattle.keeper_api.specs.declared.changes.Change.{Change}
use Rattle.clone_stream.specs.Streams.{IsStreamText}
use Rattle.clone_stream.specs.declared.stream_faults.Break.{Break}
use Rattle.clone_stream.specs.declared.stream_faults.Break.TheVariants.{BadLine, IdDiffers, Order, TooLarge, Cut}
use Rattle.clone_stream.specs.declared.stream_faults.Break.TheVariants.{Failed, Memory}
use Rattle.clone_stream.specs.declared.stream_faults.StreamFault.{StreamFault}
use Rattle.clone_stream.specs.declared.stream_faults.StreamFault.TheVariants as stream

-- nothing is ahead, and nothing is buffered
pub record EndsAt (was now : Reading) (before after : Option (List ℕ)) : Type 0 where
  pub none : IfSome after (λ rest. rest ≡ [])
  pub same : before ≡ with_front [] after
  pub taken : now.taken ≡ was.taken
  pub drained : now.buffered ≡ []

-- something is ahead after the last line, or the source failed there
abbrev pub OverRuns : ℕ → Option (List ℕ) → Break → Type 0
OverRuns at before (BadLine p) = (p ≡ at) × IfSome before (λ rest. rest ≢ [])
OverRuns at before (IdDiffers id found) = ⊥
OverRuns at before (Order p) = ⊥
OverRuns at before (TooLarge limit) = ⊥
OverRuns at before (Cut p) = ⊥
OverRuns at before (Failed p) = p ≡ at
OverRuns at before Memory = ⊥

-- a whole stream was taken, nothing is ahead, and nothing is buffered
pub record AreParts (change : Change) (now : Reading) (before after : Option (List ℕ)) : Type 0 where
  pub bytes : List ℕ
  pub text : IsStreamText (changed change empty_repository) bytes
  pub read : before ≡ with_front bytes after
  pub none : IfSome after (λ rest. rest ≡ [])
  pub taken : now.taken ≡ length bytes
  pub drained : now.buffered ≡ []

-- the limit is not passed; where nothing is ahead, the source is at its end
pub record EndsWithin (was : Reading) (left left_now past : Option (List ℕ)) : Type 0 where
  pub within : (was.taken < was.limit) ⊎ IfSome past (λ rest. rest ≡ [])
  pub limited : was.taken ≤ was.limit
  pub unread : left_now ≡ left
  pub end : was.buffered ≡ [] → IfSome (ahead was left) (λ rest. rest ≡ []) → IsAtEnd left_now

-- the limit is passed, or the source failed at it
abbrev pub PassesBy : Reading → Option (List ℕ) → Option (List ℕ) → StreamFault → Type 0
PassesBy was left_now past (stream.BadLine p) = ⊥
PassesBy was left_now past (stream.IdDiffers id found) = ⊥
PassesBy was left_now past (stream.Order p) = ⊥
PassesBy was left_now past (stream.TooLarge n) = (n ≡ was.limit) × (was.taken ≡ was.limit)
    × IfSome past (λ rest. rest ≢ [])
PassesBy was left_now past (stream.Truncated p) = ⊥
PassesBy was left_now past stream.SourceFailed = (was.taken ≡ was.limit) × (left_now ≡ past)
PassesBy was left_now past stream.KeeperFailed = ⊥
PassesBy was left_now past stream.NotEmpty = ⊥
PassesBy was left_now past stream.Memory = ⊥
