use Rattle.std.proofs.Common.{rules}
use Rattle.worlds.proofs.Counting.{as_ended}
use Rattle.worlds.specs.Given.{world_of}
use Rattle.worlds.specs.Worlds.{faults_of, ways}
use Rattle.commands_stream.specs.Exporting.{export_ending}
use Rattle.commands_stream.proofs.commands.export.Goals as goal

pub returns-clause-runs : goal.returns-clause-runs
returns-clause-runs g c =
    let told = ways g.W.Source.Source g.W.Sink.Sink g.W.Keeper.Keeper g.W.Disk.Disk g.W.Entropy.Entropy g.W.Clock.Clock g.W.Peer.Peer in
    let counted = as_ended _ _ c.export_ending.result (export_ending c.export-outcome.result) c.export_ending.ensures
    (c.export-outcome.ensures.counted (faults_of told (world_of c.args.outside.now))) in
    search rules
