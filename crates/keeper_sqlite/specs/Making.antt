-- After which answers to a change the database is open, where its disk is clean.
use Rattle.std.specs.Prelude.{⊤}
use Rattle.keeper_sqlite.specs.Answering.{MayGoOn}
use Rattle.keeper_sqlite.specs.declared.commits.Made.{Made}
use Rattle.keeper_sqlite.specs.declared.commits.Made.TheVariants.{Done, Refused, InDoubt}

abbrev pub GoesOn : Made → Type 0
GoesOn Done = ⊤
GoesOn (Refused fault) = MayGoOn fault
GoesOn InDoubt = ⊥
