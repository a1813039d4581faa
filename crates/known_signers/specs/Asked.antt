-- What is asked of who signed.
use Rattle.std.specs.Prelude.{List}
use Rattle.dsse_envelope.specs.declared.envelope.Envelope.{Envelope}
use Rattle.root_metadata.specs.declared.keys.Key.{Key}

-- an envelope, and the keys of which some may have signed it
pub record Asked : Type 0 where
  pub envelope : Envelope
  pub keys : List Key
