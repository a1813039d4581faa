-- What is wrong with a line that was read.
use Rattle.std.specs.Prelude.{◌≡◌, ◌≢◌, ℕ, List, codes}
use Rattle.git_object.specs.Repository.{largest_body}
use Rattle.clone_stream.specs.Words.{IsHugeLine, IsOtherLine, IsRefLine}
use Rattle.clone_stream.specs.declared.stream_faults.Break.{Break}
use Rattle.clone_stream.specs.declared.stream_faults.Break.TheVariants.{BadLine, IdDiffers, Order, TooLarge, Cut}
use Rattle.clone_stream.specs.declared.stream_faults.Break.TheVariants.{Failed, Memory}

-- a line that begins at this place is of another form, or is an object's with a size past the limit; only a
-- reference's takes memory
abbrev pub BreaksGrammar : ℕ → List ℕ → Break → Type 0
BreaksGrammar at line (BadLine p) = (p ≡ at) × IsOtherLine line
BreaksGrammar at line (IdDiffers id found) = ⊥
BreaksGrammar at line (Order p) = ⊥
BreaksGrammar at line (TooLarge limit) = (limit ≡ largest_body) × IsHugeLine line
BreaksGrammar at line (Cut p) = ⊥
BreaksGrammar at line (Failed p) = ⊥
BreaksGrammar at line Memory = IsRefLine line

-- a line that begins at this place is neither a reference's nor the last; only a reference's takes memory
abbrev pub BreaksOther : ℕ → List ℕ → Break → Type 0
BreaksOther at line (BadLine p) = (p ≡ at) × (IsRefLine line → ⊥) × (line ≢ codes "end")
BreaksOther at line (IdDiffers id found) = ⊥
BreaksOther at line (Order p) = ⊥
BreaksOther at line (TooLarge limit) = ⊥
BreaksOther at line (Cut p) = ⊥
BreaksOther at line (Failed p) = ⊥
BreaksOther at line Memory = IsRefLine line
