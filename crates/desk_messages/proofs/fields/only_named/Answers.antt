use Rattle.std.proofs.Common.{List, ℕ, sym, subst, take}
use Rattle.desk_messages.specs.Lengths.{values_of}
use Rattle.desk_messages.specs.Parts.{IsOnly, pairs_at}
use Rattle.desk_messages.proofs.FieldValues.{next_values}
use Rattle.desk_messages.proofs.fields.only_named.Goals as goal

pub fields-preserved : goal.fields-preserved
fields-preserved c =
    let e = next_values c.args.name.now c.args.bytes.now c.args.fields.now c.fields.field-index
    (record { name = record { start = 0; end = 0 }; value = record { start = 0; end = 0 } }) c.fields-test.true in
    subst (λ (vs : List (List ℕ)). IsOnly c.args.bytes.now vs c.with_field-found.result) (sym e)
    (c.with_field-found.ensures (values_of c.args.name.now (pairs_at c.args.bytes.now (take c.fields.field-index c.args.fields.now))) c.fields.invariant)
