use Rattle.std.proofs.Common.{refl}
use Rattle.std.proofs.lemmas.Bool.{false≢true}
use Rattle.rule_delegations.specs.Forests.{rules_of}
use Rattle.rule_delegations.specs.Reached.{AreReached, Name}
use Rattle.rule_delegations.proofs.Searched.{all_there, none_matches, searched}
use Rattle.rule_delegations.proofs.rules.Rules.search.Goals as goal

pub returns : goal.returns
returns c =
    let name : Name = record { space = c.args.space; text = c.args.text.now } in
    let are : AreReached c.args.self.now name c.search_file.new.found.items =
    rw (← c.self.view_is) (searched c.self.inside.forest name _ c.in_ok-search_file.field-0 c.self.invariant (rw c.new-found.ensures.items at c.in_ok-search_file.ensures.added)) in
    record { reached = are; places = all_there c.args.self.now name _ are; free = λ none. refl }

pub returns-in_err-search_file-clause-free : goal.returns-in_err-search_file-clause-free
returns-in_err-search_file-clause-free c none =
    let name : Name = record { space = c.args.space; text = c.args.text.now } in
    let files = c.self.inside.forest in
    absurd (false≢true (c.in_err-search_file.ensures.free (none_matches files name (rules_of files 0) refl (rw c.self.view_is none))))
