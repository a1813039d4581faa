use Rattle.tests_turns.proofs.scene.opened.Goals as goal

pub returns : goal.returns
returns c =
    let turn = c.in_ok-turn.turn in
    let idle = c.in_ok-turn.ensures.idle in
    (c.in-Some.ensures.left turn idle, c.in-Some.ensures.seat turn idle)
