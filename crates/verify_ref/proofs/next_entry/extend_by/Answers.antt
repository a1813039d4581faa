use Rattle.std.proofs.Common.{◌≡◌, Some, rules}
use Rattle.tree_paths.specs.Repositories.{readings_of}
use Rattle.entry_rules.specs.Learning.{IsLesson}
use Rattle.verify_ref.proofs.next_entry.extend_by.Goals as goal

pub returns-clause-known : goal.returns-clause-known
returns-clause-known g c = λ r told.
    let there : g.R.Keeper.content c.extend_in-verdict.new.store.keeper.now ≡ Some r = search rules in
    let taught : IsLesson (readings_of r).trees c.extend_in-verdict.new.store.lesson.now = c.extend_in-verdict.ensures.lesson r there (c.none-lesson.ensures (readings_of r).trees) in
    let known = c.learn_before.ensures.known r (c.extend_in-verdict.ensures.same.content r there) in
    search rules
