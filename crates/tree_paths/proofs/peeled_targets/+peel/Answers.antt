use Rattle.std.proofs.Common.{sym, ◌∙◌}
use Rattle.tree_paths.proofs.ObjectsRead.{kept_told}
use Rattle.tree_paths.proofs.Peels.{peel_last, peel_next, peel_no_commit, peel_no_tag, peel_other, peel_root}
use Rattle.tree_paths.proofs.peeled_targets.+peel.Goals as goal

pub returns-then-may_be_commit-clause-peeled : goal.returns-then-may_be_commit-clause-peeled
returns-then-may_be_commit-clause-peeled g t c = λ readings told.
    peel_root readings.heads c.args.left c.args.wanted c.args.id.now c.in-Root.tree (sym c.in-Root.is ∙ c.in_ok-load_head.ensures.read readings told) (sym c.if-may_be_commit.ensures)

pub returns-then-left-eq0-clause-peeled : goal.returns-then-left-eq0-clause-peeled
returns-then-left-eq0-clause-peeled g t c = λ readings told.
    peel_last readings.heads c.args.left c.args.wanted c.args.id.now c.in-Next.object c.in-Next.kind c.if-left-eq0.true (sym c.in-Next.is ∙ c.in_ok-load_head.ensures.read readings told)

pub returns-then-not-may_be_tag-clause-peeled : goal.returns-then-not-may_be_tag-clause-peeled
returns-then-not-may_be_tag-clause-peeled g t c = λ readings told.
    peel_no_tag readings.heads c.args.left c.args.wanted c.args.id.now c.in-Next.object c.in-Next.kind (sym c.in-Next.is ∙ c.in_ok-load_head.ensures.read readings told)
    (sym c.if-not-may_be_tag.ensures)

pub returns-in-Other-clause-peeled : goal.returns-in-Other-clause-peeled
returns-in-Other-clause-peeled g t c = λ readings told.
    peel_other readings.heads c.args.left c.args.wanted c.args.id.now (sym c.in-Other.is ∙ c.in_ok-load_head.ensures.read readings told)

pub returns-else-may_be_commit-clause-peeled : goal.returns-else-may_be_commit-clause-peeled
returns-else-may_be_commit-clause-peeled g t c = λ readings told.
    peel_no_commit readings.heads c.args.left c.args.wanted c.args.id.now c.in-Root.tree (sym c.in-Root.is ∙ c.in_ok-load_head.ensures.read readings told) (sym c.if-may_be_commit.ensures)

pub returns-in_ok-end-in-Next-clause-peeled : goal.returns-in_ok-end-in-Next-clause-peeled
returns-in_ok-end-in-Next-clause-peeled g t c = λ readings told.
    let before = kept_told readings c.in_ok-end-in-Next.ensures.same.content told in
    peel_next readings.heads c.args.left c.args.wanted c.args.id.now c.in-Next.object c.in-Next.kind c.in_ok-end-in-Next.end c.if-left-eq0.false
    (sym c.in-Next.is ∙ c.in_ok-load_head.ensures.read readings before) (sym c.if-not-may_be_tag.ensures) (c.in_ok-end-in-Next.ensures.peeled readings told)
