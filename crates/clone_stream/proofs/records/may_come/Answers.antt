use Rattle.std.proofs.Common.{◌≡◌, ◌==◌, false, sym, ◌∙◌, length}
use Rattle.std.proofs.lemmas.Bool.{false≢true, eq-eqb, true≢false}
use Rattle.keeper_api.specs.declared.changes.RefChange.{RefChange}
use Rattle.clone_stream.proofs.Lasts.{none_last}
use Rattle.clone_stream.proofs.records.may_come.Goals as goal

pub returns-then-not-is_empty : goal.returns-then-not-is_empty
returns-then-not-is_empty c =
    let some : (length c.args.refs.now == 0) ≡ false = sym c.is_empty.ensures ∙ c.if-not-is_empty.true in (
      λ no. absurd (false≢true no),
      λ comes. absurd (true≢false (sym (eq-eqb (length c.args.refs.now) 0 (none_last (λ (change : RefChange). change.name) c.args.refs.now comes.no_refs)) ∙ some)),
    )
