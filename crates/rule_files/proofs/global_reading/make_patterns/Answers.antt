use Rattle.std.proofs.Common.{ap}
use Rattle.root_metadata.proofs.Listed.{some_more}
use Rattle.rule_files.specs.Files.{pattern_made}
use Rattle.rule_files.proofs.global_reading.make_patterns.Goals as goal

pub texts-preserved : goal.texts-preserved
texts-preserved c =
    some_more pattern_made c.args.texts.now c.texts.text-index c.text-item.result c.texts.made c.add_pattern.new.patterns (pattern_made c.as_slice.result.now) c.texts-test.true c.text-item.is (ap pattern_made c.as_slice.ensures)
    c.in_ok-add_pattern.ensures c.texts.invariant
