use Rattle.std.proofs.Common.{◌*◌, [], ◌∷◌, ◌++◌, Some, refl, sym, ap, ◌∙◌, arith}
use Rattle.desk_turns.proofs.Moves.{opening_kept}
use Rattle.desk_turns.proofs.seating.open.Goals as goal

pub new-requires : goal.new-requires
new-requires g c =
    let C = g.S.Chronicle in
    let r = c.requires.stands in
    let length_is = c.len-length.ensures r.0 r.1 in
    let faults_are = c.faults.ensures in
    opening_kept C.is_legal C.stands C.counted c.args.state r.0 r.1 (g.met.S.Chronicle.stands_legal c.args.state r.0 r.1) r.2.0 r.2.1 _ (λ i. (2 * length_is i) ∷ faults_are i ∷ []) _
    (c.in_ok-push.ensures.items ∙ ap (λ l. l ++ Some c.args.state ∷ []) c.new-slots.ensures.items)
