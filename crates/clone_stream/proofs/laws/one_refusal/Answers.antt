use Rattle.clone_stream.specs.Streams.{largest_stream}
use Rattle.clone_stream.proofs.OneRefused.{apart_within, one_within}
use Rattle.clone_stream.proofs.SomeRefused.{some_within}
use Rattle.clone_stream.proofs.laws.one_refusal.Goals as goal

pub returns : goal.returns
returns c = record { one = one_within largest_stream; apart = apart_within largest_stream; some = some_within largest_stream }
