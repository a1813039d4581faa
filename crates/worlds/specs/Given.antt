-- The world of the objects that are lent.
use Rattle.worlds.specs.Worlds.{World, types_of}
use Rattle.worlds.specs.declared.outside.Outside.{Outside}

abbrev pub world_of : {S K F R D E C P : Type 0} → Outside S K F R D E C P → World (types_of S K R D E C P)
world_of outside = record {
  source = outside.source;
  sink = outside.sink;
  keeper = outside.keeper;
  disk = outside.disk;
  entropy = outside.entropy;
  clock = outside.clock;
  peer = outside.peer;
}
