use Rattle.std.proofs.Common.{◌∙◌, ap, map, arith}
use Rattle.std.proofs.Math.ListN.{length-map}
use Rattle.command_words.proofs.Parts.{found, none, too_many}
use Rattle.command_words.proofs.ids.read_ids.Goals as goal

pub returns-then-len-most-clause-none : goal.returns-then-len-most-clause-none
returns-then-len-most-clause-none g c =
    too_many c.args.most c.args.text.now _ c.in-Ok.ensures (omega (arith, length-map c.in-Ok.parts.items (λ part. part.now), c.len.ensures, c.if-len-most.true))

pub returns-clause-found : goal.returns-clause-found
returns-clause-found g c =
    let same = ap (map (λ part. part.now)) c.as_slice.ensures.value in
    found g.T.Written.bytes c.args.most c.args.text.now _ (same ∙ c.in-Ok.ensures) c.ids_of.result
    (omega (arith, length-map c.as_slice.result.now (λ part. part.now), c.as_slice.ensures.len, c.len.ensures, c.if-len-most.false))
    c.ids_of.ensures.found c.ids_of.ensures.valid

pub returns-clause-none : goal.returns-clause-none
returns-clause-none g c =
    let same = ap (map (λ part. part.now)) c.as_slice.ensures.value in
    none g.T.Written.bytes c.args.most c.args.text.now _ (same ∙ c.in-Ok.ensures) c.ids_of.result c.ids_of.ensures.none
