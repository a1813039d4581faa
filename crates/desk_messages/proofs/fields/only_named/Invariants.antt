use Rattle.std.proofs.Common.{take}
use Rattle.desk_messages.specs.Lengths.{values_of}
use Rattle.desk_messages.specs.Parts.{IsOnly, pairs_at}
use Rattle.desk_messages.proofs.fields.only_named.Given as goal

abbrev pub invariant-fields : goal.invariant-fields
invariant-fields l = IsOnly l.bytes (values_of l.name (pairs_at l.bytes (take l.field-index l.fields))) l.found
