use Rattle.std.proofs.Common.{◌≡◌, rules, subst}
use Rattle.std.specs.Prelude.{IfSome}
use Rattle.clone_stream.specs.Faults.{from_keeper}
use Rattle.clone_stream.specs.Taking.{IsDecided, IsOfSource, LeavesRefused}
use Rattle.clone_stream.specs.declared.stream_faults.StreamFault.TheVariants.{NotEmpty}
use Rattle.clone_stream.proofs.Lacking.{gives, refused, untaken}
use Rattle.clone_stream.proofs.Storing.{commit_leaves, keeper_leaves, source_cause, source_leaves, taken_into}
use Rattle.clone_stream.proofs.streams.read_stream.Goals as goal

pub returns-in-Err-clause-not_empty : goal.returns-in-Err-clause-not_empty
returns-in-Err-clause-not_empty g c = λ full.
    let same : c.in-Err.fault ≡ NotEmpty = cc in
    absurd (subst IsOfSource same c.in-Err.ensures.no_keeper)

pub returns-in-Err-clause-unread : goal.returns-in-Err-clause-unread
returns-in-Err-clause-unread g c = λ full.
    let same : c.in-Err.fault ≡ NotEmpty = cc in
    absurd (subst IsOfSource same c.in-Err.ensures.no_keeper)

pub returns-in-Err-clause-keeper_cause : goal.returns-in-Err-clause-keeper_cause
returns-in-Err-clause-keeper_cause g c = source_cause c.in-Err.fault c.in-Err.ensures.no_keeper c.is_empty.ensures.cause.later (search rules)

pub returns-in-Err-clause-held : goal.returns-in-Err-clause-held
returns-in-Err-clause-held g c = source_leaves g.R.Keeper (g.S.Source.left c.args.source.now) (g.S.Source.left c.read_change.new.source) c.args.keeper.now c.is_empty.new.keeper c.in-Err.fault c.in-Err.ensures.no_keeper c.is_empty.ensures.same

pub returns-in-Err-clause-decided : goal.returns-in-Err-clause-decided
returns-in-Err-clause-decided g c = refused (g.S.Source.left c.args.source.now) (g.S.Source.left c.read_change.new.source) c.in-Err.fault c.in-Err.ensures.refused

pub returns-in_err-commit-clause-decided : goal.returns-in_err-commit-clause-decided
returns-in_err-commit-clause-decided g c =
    gives c.from_residual-in_err-commit.result (from_keeper c.in_err-commit.field-0.0) (λ fault. IfSome (g.S.Source.left c.args.source.now) (λ input. IsDecided input (g.S.Source.left c.read_change.new.source) fault))
    c.from_residual-in_err-commit.ensures.1 (untaken c.in-Ok.change _ _ c.in_err-commit.field-0.0 c.in-Ok.ensures.found)

pub returns-in_err-is_empty-clause-held : goal.returns-in_err-is_empty-clause-held
returns-in_err-is_empty-clause-held g c =
    gives c.from_residual.result (from_keeper c.in_err-is_empty.field-0.0) (LeavesRefused g.R.Keeper (g.S.Source.left c.args.source.now) (g.S.Source.left c.args.source.now) c.args.keeper.now c.is_empty.new.keeper)
    c.from_residual.ensures.1 (keeper_leaves g.R.Keeper (g.S.Source.left c.args.source.now) (g.S.Source.left c.args.source.now) c.args.keeper.now c.is_empty.new.keeper c.in_err-is_empty.field-0.0 c.is_empty.ensures.same)

pub returns-in_err-commit-clause-held : goal.returns-in_err-commit-clause-held
returns-in_err-commit-clause-held g c =
    let left = g.S.Source.left c.args.source.now in
    let left_now = g.S.Source.left c.read_change.new.source in
    gives c.from_residual-in_err-commit.result (from_keeper c.in_err-commit.field-0.0) (LeavesRefused g.R.Keeper left left_now c.args.keeper.now c.commit.new.self)
    c.from_residual-in_err-commit.ensures.1
    (commit_leaves g.R.Keeper left left_now c.args.keeper.now c.is_empty.new.keeper c.commit.new.self c.in-Ok.change c.is_empty.ensures.same
    (λ r told. (c.in_ok-is_empty.ensures.answer r told).0 (search rules)) c.in-Ok.ensures.found c.in_err-commit.field-0.0 c.in_err-commit.ensures.content c.in_err-commit.ensures.left
    (λ memory. search rules))

pub returns-clause-ok : goal.returns-clause-ok
returns-clause-ok g c =
    let left = g.S.Source.left c.args.source.now in
    let left_now = g.S.Source.left c.read_change.new.source in
    taken_into g.R.Keeper left left_now c.args.keeper.now c.is_empty.new.keeper c.commit.new.self c.in-Ok.change c.is_empty.ensures.same
    (λ r told. (c.in_ok-is_empty.ensures.answer r told).0 (search rules)) c.in-Ok.ensures.found tt c.in_ok-commit.ensures.content c.in_ok-commit.ensures.left
