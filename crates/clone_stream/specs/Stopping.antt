-- Where reading stands after a break.
use Rattle.std.specs.Prelude.{◌≡◌, ◌+◌, [], ℕ, List, length, Option, Result, IfErr}
use Rattle.octets.specs.Causes.{HasCause}
use Rattle.octets.specs.Content.{with_front}
use Rattle.buffered_reader.specs.Ahead.{Reading, ahead, past}
use Rattle.clone_stream.specs.Faults.{break_failed}
use Rattle.clone_stream.specs.declared.stream_faults.Break.{Break}
use Rattle.clone_stream.specs.declared.stream_faults.Break.TheVariants.{BadLine, IdDiffers, Order, TooLarge, Cut}
use Rattle.clone_stream.specs.declared.stream_faults.Break.TheVariants.{Failed, Memory}

-- the source failed: all that was taken was read, and nothing is buffered
pub record FailsAt (was now : Reading) (before after : Option (List ℕ)) (p : ℕ) : Type 0 where
  pub part : List ℕ
  pub read : before ≡ with_front part after
  pub taken : now.taken ≡ was.taken + length part
  pub place : p ≡ now.taken
  pub drained : now.buffered ≡ []

abbrev pub StopsAt : Reading → Reading → Option (List ℕ) → Option (List ℕ) → Break → Type 0
StopsAt was now before after (BadLine p) = Unit {0}
StopsAt was now before after (IdDiffers id found) = Unit {0}
StopsAt was now before after (Order p) = Unit {0}
StopsAt was now before after (TooLarge limit) = Unit {0}
StopsAt was now before after (Cut p) = p ≡ now.taken
StopsAt was now before after (Failed p) = FailsAt was now before after p
StopsAt was now before after Memory = Unit {0}

-- what every step of reading does, however it ends: what lies past the limit is not touched, one fault of the source is
-- counted exactly where it failed, and reading stands at the break
pub record ReadsOn {T : Type 0} (was now : Reading) (left left_now : Option (List ℕ)) (faults faults_now : ℕ)
    (result : Result T Break) : Type 0 where
  pub past : past now left_now ≡ past was left
  pub limit : now.limit ≡ was.limit
  pub cause : HasCause break_failed faults faults_now result
  pub stops : IfErr result (StopsAt was now (ahead was left) (ahead now left_now))
