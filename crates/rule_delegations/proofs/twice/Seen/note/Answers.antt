use Rattle.std.proofs.Common.{refl, sym, ap, ◌∙◌}
use Rattle.std.specs.BTreeSet.{contains}
use Rattle.octets.specs.BytesMap.{by_bytes}
use Rattle.rule_delegations.proofs.Seeing.{added, note_again, note_new, was_not_there, was_there}
use Rattle.rule_delegations.proofs.twice.Seen.note.Goals as goal

pub returns-in_ok-insert : goal.returns-in_ok-insert
returns-in_ok-insert c =
    note_again c.args.self.now _ c.args.name.now (added c.args.name.now _ _ _ c.in_ok-copy.ensures c.in_ok-is_new.ensures.updates.0)
    (ap (contains by_bytes c.args.self.now.once) (sym c.in_ok-copy.ensures) ∙ was_there c.in_ok-is_new.is_new _ c.in_ok-is_new.ensures.added c.if-not-is_new.true)
    (added c.args.name.now _ _ _ c.in_ok-copy-2.ensures c.in_ok-insert.ensures.updates.0)

pub returns-else-not-is_new : goal.returns-else-not-is_new
returns-else-not-is_new c =
    note_new c.args.self.now _ c.args.name.now (added c.args.name.now _ _ _ c.in_ok-copy.ensures c.in_ok-is_new.ensures.updates.0)
    (ap (contains by_bytes c.args.self.now.once) (sym c.in_ok-copy.ensures) ∙ was_not_there c.in_ok-is_new.is_new _ c.in_ok-is_new.ensures.added c.if-not-is_new.false) refl
