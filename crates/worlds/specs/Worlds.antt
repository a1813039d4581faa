-- The objects outside that a command works on, all but the sink for faults, and how they tell what they hold.
use Rattle.edge_io.specs.declared.clocks.Clock as clock
use Rattle.edge_io.specs.declared.disks.Disk as disk
use Rattle.edge_io.specs.declared.entropies.Entropy as entropy
use Rattle.edge_io.specs.declared.sinks.Sink as sink
use Rattle.edge_io.specs.declared.sources.Source as source
use Rattle.keeper_api.specs.declared.keepers.Keeper as keeper
use Rattle.links.specs.declared.peers.Peer as peer
use Rattle.worlds.specs.Counts.{Faults}

-- the types of the objects outside
pub record Types : Type 1 where
  pub source : Type 0
  pub sink : Type 0
  pub keeper : Type 0
  pub disk : Type 0
  pub entropy : Type 0
  pub clock : Type 0
  pub peer : Type 0

abbrev pub types_of : Type 0 → Type 0 → Type 0 → Type 0 → Type 0 → Type 0 → Type 0 → Types
types_of S K R D E C P = record { source = S; sink = K; keeper = R; disk = D; entropy = E; clock = C; peer = P }

-- the objects outside
pub record World (types : Types) : Type 0 where
  pub source : types.source
  pub sink : types.sink
  pub keeper : types.keeper
  pub disk : types.disk
  pub entropy : types.entropy
  pub clock : types.clock
  pub peer : types.peer

-- how each of them tells what it holds
pub record Ways (types : Types) : Type 1 where
  pub source : source.Ghosts types.source
  pub sink : sink.Ghosts types.sink
  pub keeper : keeper.Ghosts types.keeper
  pub disk : disk.Ghosts types.disk
  pub entropy : entropy.Ghosts types.entropy
  pub clock : clock.Ghosts types.clock
  pub peer : peer.Ghosts types.peer

abbrev pub ways : {S K R D E C P : Type 0} → source.Ghosts S → sink.Ghosts K → keeper.Ghosts R → disk.Ghosts D
    → entropy.Ghosts E → clock.Ghosts C → peer.Ghosts P → Ways (types_of S K R D E C P)
ways of_source of_sink of_keeper of_disk of_entropy of_clock of_peer = record {
  source = of_source;
  sink = of_sink;
  keeper = of_keeper;
  disk = of_disk;
  entropy = of_entropy;
  clock = of_clock;
  peer = of_peer;
}

-- how many faults these have counted
abbrev pub faults_of : {types : Types} → Ways types → World types → Faults
faults_of ways world = record {
  source = ways.source.faults world.source;
  sink = ways.sink.faults world.sink;
  keeper = ways.keeper.faults world.keeper;
  disk = ways.disk.faults world.disk;
  entropy = ways.entropy.faults world.entropy;
  clock = ways.clock.faults world.clock;
  peer = ways.peer.faults world.peer;
}
