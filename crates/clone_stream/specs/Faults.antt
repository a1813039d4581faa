-- Refusals by number, and the refusal that one below becomes.
use Rattle.std.specs.Prelude.{ℕ, Bool, true, false}
use Rattle.buffered_reader.specs.declared.exact_reads.ExactFault.{ExactFault}
use Rattle.buffered_reader.specs.declared.exact_reads.ExactFault.TheVariants as exact
use Rattle.buffered_reader.specs.declared.line_reads.LineFault.{LineFault}
use Rattle.buffered_reader.specs.declared.line_reads.LineFault.TheVariants as line
use Rattle.keeper_api.specs.declared.keeper_faults.KeeperFault.{KeeperFault}
use Rattle.keeper_api.specs.declared.keeper_faults.KeeperFault.TheVariants as keeper
use Rattle.clone_stream.specs.declared.export_faults.ExportFault.{ExportFault}
use Rattle.clone_stream.specs.declared.export_faults.ExportFault.TheVariants as export
use Rattle.clone_stream.specs.declared.stream_faults.Break.{Break}
use Rattle.clone_stream.specs.declared.stream_faults.Break.TheVariants as break_
use Rattle.clone_stream.specs.declared.stream_faults.StreamFault.{StreamFault}
use Rattle.clone_stream.specs.declared.stream_faults.StreamFault.TheVariants.{BadLine, IdDiffers, Order, TooLarge}
use Rattle.clone_stream.specs.declared.stream_faults.StreamFault.TheVariants.{Truncated, SourceFailed, KeeperFailed}
use Rattle.clone_stream.specs.declared.stream_faults.StreamFault.TheVariants.{NotEmpty, Memory}

-- the place of a refusal among the refusals; want of memory has none
abbrev pub fault_number : StreamFault → ℕ
fault_number (BadLine at) = 1
fault_number (IdDiffers id found) = 2
fault_number (Order at) = 3
fault_number (TooLarge limit) = 4
fault_number (Truncated at) = 5
fault_number SourceFailed = 6
fault_number KeeperFailed = 7
fault_number NotEmpty = 8
fault_number Memory = 0

abbrev pub from_keeper : KeeperFault → StreamFault
from_keeper keeper.Failed = KeeperFailed
from_keeper keeper.Memory = Memory

abbrev pub from_line : ℕ → ℕ → LineFault → Break
from_line at taken line.Long = break_.BadLine at
from_line at taken line.Cut = break_.Cut taken
from_line at taken line.Failed = break_.Failed taken

abbrev pub from_exact : ℕ → ExactFault → Break
from_exact taken exact.Cut = break_.Cut taken
from_exact taken exact.Failed = break_.Failed taken
from_exact taken exact.Memory = break_.Memory

-- the input ended
abbrev pub IsCut : Break → Type 0
IsCut (break_.BadLine at) = ⊥
IsCut (break_.IdDiffers id found) = ⊥
IsCut (break_.Order at) = ⊥
IsCut (break_.TooLarge limit) = ⊥
IsCut (break_.Cut at) = Unit {0}
IsCut (break_.Failed at) = ⊥
IsCut break_.Memory = ⊥

abbrev pub from_break : Break → StreamFault
from_break (break_.BadLine at) = BadLine at
from_break (break_.IdDiffers id found) = IdDiffers id found
from_break (break_.Order at) = Order at
from_break (break_.TooLarge limit) = TooLarge limit
from_break (break_.Cut at) = Truncated at
from_break (break_.Failed at) = SourceFailed
from_break break_.Memory = Memory

-- the faults that the source and the keeper count of a stream that is read
abbrev pub stream_source_failed : StreamFault → Bool
stream_source_failed (BadLine at) = false
stream_source_failed (IdDiffers id found) = false
stream_source_failed (Order at) = false
stream_source_failed (TooLarge limit) = false
stream_source_failed (Truncated at) = false
stream_source_failed SourceFailed = true
stream_source_failed KeeperFailed = false
stream_source_failed NotEmpty = false
stream_source_failed Memory = false

abbrev pub stream_keeper_failed : StreamFault → Bool
stream_keeper_failed (BadLine at) = false
stream_keeper_failed (IdDiffers id found) = false
stream_keeper_failed (Order at) = false
stream_keeper_failed (TooLarge limit) = false
stream_keeper_failed (Truncated at) = false
stream_keeper_failed SourceFailed = false
stream_keeper_failed KeeperFailed = true
stream_keeper_failed NotEmpty = false
stream_keeper_failed Memory = false

-- the fault that the source counts of a record that is read
abbrev pub break_failed : Break → Bool
break_failed (break_.BadLine at) = false
break_failed (break_.IdDiffers id found) = false
break_failed (break_.Order at) = false
break_failed (break_.TooLarge limit) = false
break_failed (break_.Cut at) = false
break_failed (break_.Failed at) = true
break_failed break_.Memory = false

-- the faults that the keeper and the sink count of a stream that is written
abbrev pub export_keeper_failed : ExportFault → Bool
export_keeper_failed (export.Damaged id) = false
export_keeper_failed (export.TooLarge limit) = false
export_keeper_failed export.KeeperFailed = true
export_keeper_failed export.SinkFailed = false
export_keeper_failed export.Memory = false

abbrev pub export_sink_failed : ExportFault → Bool
export_sink_failed (export.Damaged id) = false
export_sink_failed (export.TooLarge limit) = false
export_sink_failed export.KeeperFailed = false
export_sink_failed export.SinkFailed = true
export_sink_failed export.Memory = false
