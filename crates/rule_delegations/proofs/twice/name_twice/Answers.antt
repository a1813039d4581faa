use Rattle.rule_delegations.proofs.Seeing.{first_twice}
use Rattle.rule_delegations.proofs.twice.name_twice.Goals as goal

pub returns : goal.returns
returns c =
    first_twice c.args.files.now c.new.result c.new-2.result c.new-3.result c.new.ensures.empty c.new-2.ensures.empty c.new-3.ensures.empty c.note_all_rules.new.self c.note_files.new.self
    c.in_ok-note_all_rules.ensures c.in_ok-note_files.ensures c.pop_first.result c.pop_first.ensures.variant.1 (λ name is. rw is at c.pop_first.ensures.member) (λ name is. rw is at c.pop_first.ensures.least)
