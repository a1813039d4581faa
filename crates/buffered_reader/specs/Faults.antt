-- The faults that a source counts where it is read by lines and by lengths.
use Rattle.std.specs.Prelude.{Bool, true, false}
use Rattle.buffered_reader.specs.declared.exact_reads.ExactFault.{ExactFault}
use Rattle.buffered_reader.specs.declared.exact_reads.ExactFault.TheVariants as exact
use Rattle.buffered_reader.specs.declared.line_reads.LineFault.{LineFault}
use Rattle.buffered_reader.specs.declared.line_reads.LineFault.TheVariants as line

abbrev pub exact_failed : ExactFault → Bool
exact_failed exact.Cut = false
exact_failed exact.Failed = true
exact_failed exact.Memory = false

abbrev pub line_failed : LineFault → Bool
line_failed line.Long = false
line_failed line.Cut = false
line_failed line.Failed = true
