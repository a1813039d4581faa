-- The first place that decides how an input is refused.
use Rattle.std.specs.Prelude.{◌≡◌, ◌≢◌, ◌++◌, ◌⊎◌, [], ℕ, List, Option, Some, length, take, drop}
use Rattle.git_object.specs.Repository.{Repository}
use Rattle.clone_stream.specs.Fronts.{FirstBreak}
use Rattle.clone_stream.specs.Streams.{IsStreamText, largest_stream}
use Rattle.clone_stream.specs.declared.stream_faults.Break.TheVariants as break_
use Rattle.clone_stream.specs.declared.stream_faults.StreamFault.{StreamFault}
use Rattle.clone_stream.specs.declared.stream_faults.StreamFault.TheVariants.{BadLine, IdDiffers, Order, TooLarge}
use Rattle.clone_stream.specs.declared.stream_faults.StreamFault.TheVariants.{Truncated, SourceFailed, KeeperFailed}
use Rattle.clone_stream.specs.declared.stream_faults.StreamFault.TheVariants.{NotEmpty, Memory}

-- nothing in these bytes is refused: they are a stream, or the front of one that is cut
abbrev pub IsUnbroken : List ℕ → Type 0
IsUnbroken bytes = ((r : Repository) × IsStreamText r bytes) ⊎ FirstBreak bytes (break_.Cut (length bytes))

-- there is a byte past the limit, and nothing before it is refused
pub record PassesLimit (limit : ℕ) (input : List ℕ) : Type 0 where
  pub past : drop limit input ≢ []
  pub unbroken : IsUnbroken (take limit input)

-- how an input is refused of which so many bytes may be read
abbrev pub DecidesWithin : ℕ → List ℕ → StreamFault → Type 0
DecidesWithin limit input (BadLine p) = FirstBreak (take limit input) (break_.BadLine p)
DecidesWithin limit input (IdDiffers id found) = FirstBreak (take limit input) (break_.IdDiffers id found)
DecidesWithin limit input (Order p) = FirstBreak (take limit input) (break_.Order p)
DecidesWithin limit input (TooLarge n) = FirstBreak (take limit input) (break_.TooLarge n)
    ⊎ ((n ≡ limit) × PassesLimit limit input)
DecidesWithin limit input (Truncated p) = (drop limit input ≡ []) × FirstBreak (take limit input) (break_.Cut p)
DecidesWithin limit input SourceFailed = ⊥
DecidesWithin limit input KeeperFailed = ⊥
DecidesWithin limit input NotEmpty = ⊥
DecidesWithin limit input Memory = ⊥

abbrev pub Decides : List ℕ → StreamFault → Type 0
Decides input fault = DecidesWithin largest_stream input fault

-- the source failed after these bytes, in which nothing is refused
pub record FailsUnbroken (input : List ℕ) (after : Option (List ℕ)) : Type 0 where
  pub read : List ℕ
  pub rest : List ℕ
  pub whole : input ≡ read ++ rest
  pub left : after ≡ Some rest
  pub unbroken : IsUnbroken read

-- how reading of an input ended in a refusal; memory is wanting only at an object that may come or at a reference
-- after the longest front
abbrev pub IsRefusedBy : ℕ → List ℕ → Option (List ℕ) → StreamFault → Type 0
IsRefusedBy limit input after (BadLine p) = DecidesWithin limit input (BadLine p)
IsRefusedBy limit input after (IdDiffers id found) = DecidesWithin limit input (IdDiffers id found)
IsRefusedBy limit input after (Order p) = DecidesWithin limit input (Order p)
IsRefusedBy limit input after (TooLarge n) = DecidesWithin limit input (TooLarge n)
IsRefusedBy limit input after (Truncated p) = DecidesWithin limit input (Truncated p)
IsRefusedBy limit input after SourceFailed = FailsUnbroken input after
IsRefusedBy limit input after KeeperFailed = ⊥
IsRefusedBy limit input after NotEmpty = ⊥
IsRefusedBy limit input after Memory = FirstBreak (take limit input) break_.Memory
