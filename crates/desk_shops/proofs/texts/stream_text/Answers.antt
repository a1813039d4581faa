use Rattle.std.proofs.Common.{◌≡◌, false, [], Some, Ok, Err, sym, ◌∙◌, subst}
use Rattle.std.specs.Prelude.{nat_lt, length}
use Rattle.clone_stream.specs.Exporting.{Exports, RefusesExport}
use Rattle.desk_shops.specs.Texts.{IsTextOf, largest_text}
use Rattle.desk_shops.proofs.Lengths.{refused_text, short_text}
use Rattle.desk_shops.proofs.texts.stream_text.Goals as goal

pub returns-else-is_past-clause-told : goal.returns-else-is_past-clause-told
returns-else-is_past-clause-told g c =
    let text = c.write_stream.new.sink.text in
    let content = g.R.Keeper.content c.write_stream.new.keeper in
    let short : nat_lt largest_text (length text) ≡ false = sym c.is_past.ensures ∙ c.if-is_past.false in
    let out : Exports content (Some []) (Some text) = subst (λ old. Exports content (Some old) (Some text)) c.new-sink.ensures c.in-Ok.ensures.ok in
    λ r told. subst (λ l. IsTextOf r (Ok l)) (sym c.into_text.ensures) (short_text content text short out r told)

pub returns-in-Err-clause-told : goal.returns-in-Err-clause-told
returns-in-Err-clause-told g c =
    let text = c.write_stream.new.sink.text in
    let content = g.R.Keeper.content c.write_stream.new.keeper in
    let fault = c.in-Err.fault in
    let why : RefusesExport content (Some []) (Some text) fault = subst (λ old. RefusesExport content (Some old) (Some text) fault) c.new-sink.ensures c.in-Err.ensures.refused in
    λ r told. subst (λ f. IsTextOf r (Err f)) (sym c.fault_as.ensures) (refused_text content text fault c.is_past-in-Err.result c.is_past-in-Err.ensures why r told)
