use Rattle.std.proofs.Common.{sym, ap, ◌∙◌}
use Rattle.std.specs.Str.{bytes_eq}
use Rattle.rule_delegations.specs.Forests.{or_place}
use Rattle.rule_delegations.proofs.Linking.{named_more}
use Rattle.rule_delegations.proofs.links.places_of.Goals as goal

pub loop-at-preserved : goal.loop-at-preserved
loop-at-preserved c name =
    c.in_ok-add_place.ensures name ∙ ap (λ found. or_place found (bytes_eq name c.index-files-at.result.name) c.loop-at.at) (c.loop-at.invariant name)
    ∙ sym (named_more c.args.files.now c.loop-at.at c.index-files-at.result name c.loop-at-test.true c.index-files-at.is)
