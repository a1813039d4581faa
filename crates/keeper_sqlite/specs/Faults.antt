-- Which refusal of the database is want of memory.
use Rattle.std.specs.Prelude.{Bool, true, false}
use Rattle.sqlite.specs.declared.error.Error.{Error}
use Rattle.sqlite.specs.declared.error.Error.TheVariants.{SqliteFailure}
use Rattle.sqlite.specs.declared.error.ErrorCode.TheVariants.{OutOfMemory}

-- the database could not get memory
abbrev pub wants_memory : Error → Bool
wants_memory (SqliteFailure OutOfMemory) = true
wants_memory _ = false
