-- Refusals of an offer: what the refusals below become, and which of them the objects count.
use Rattle.std.specs.Prelude.{Bool, true, false}
use Rattle.clone_stream.specs.Faults.{stream_source_failed}
use Rattle.clone_stream.specs.declared.stream_faults.StreamFault.{StreamFault}
use Rattle.clone_stream.specs.declared.stream_faults.StreamFault.TheVariants as stream
use Rattle.keeper_api.specs.declared.keeper_faults.KeeperFault.{KeeperFault}
use Rattle.keeper_api.specs.declared.keeper_faults.KeeperFault.TheVariants as keeper
use Rattle.rsl_chain.specs.declared.log_faults.LogFault.{LogFault}
use Rattle.rsl_chain.specs.declared.log_faults.LogFault.TheVariants as log
use Rattle.mirror.specs.declared.mirror_faults.MirrorFault.{MirrorFault}
use Rattle.mirror.specs.declared.mirror_faults.MirrorFault.TheVariants.{Stream, BrokenKept, BrokenOffered}
use Rattle.mirror.specs.declared.mirror_faults.MirrorFault.TheVariants.{Failed, Memory}

abbrev pub fault_of_stream : StreamFault → MirrorFault
fault_of_stream (stream.BadLine at) = Stream (stream.BadLine at)
fault_of_stream (stream.IdDiffers id found) = Stream (stream.IdDiffers id found)
fault_of_stream (stream.Order at) = Stream (stream.Order at)
fault_of_stream (stream.TooLarge limit) = Stream (stream.TooLarge limit)
fault_of_stream (stream.Truncated at) = Stream (stream.Truncated at)
fault_of_stream stream.SourceFailed = Stream stream.SourceFailed
fault_of_stream stream.KeeperFailed = Stream stream.KeeperFailed
fault_of_stream stream.NotEmpty = Stream stream.NotEmpty
fault_of_stream stream.Memory = Memory

abbrev pub fault_of_kept : LogFault → MirrorFault
fault_of_kept (log.Broken id) = BrokenKept id
fault_of_kept log.Failed = Failed
fault_of_kept log.Memory = Memory

abbrev pub fault_of_offered : LogFault → MirrorFault
fault_of_offered (log.Broken id) = BrokenOffered id
fault_of_offered log.Failed = Memory
fault_of_offered log.Memory = Memory

abbrev pub fault_of_keeper : KeeperFault → MirrorFault
fault_of_keeper keeper.Failed = Failed
fault_of_keeper keeper.Memory = Memory

-- the faults that the source and the kept store count
abbrev pub mirror_source_failed : MirrorFault → Bool
mirror_source_failed (Stream fault) = stream_source_failed fault
mirror_source_failed (BrokenKept id) = false
mirror_source_failed (BrokenOffered id) = false
mirror_source_failed Failed = false
mirror_source_failed Memory = false

abbrev pub mirror_keeper_failed : MirrorFault → Bool
mirror_keeper_failed (Stream fault) = false
mirror_keeper_failed (BrokenKept id) = false
mirror_keeper_failed (BrokenOffered id) = false
mirror_keeper_failed Failed = true
mirror_keeper_failed Memory = false
