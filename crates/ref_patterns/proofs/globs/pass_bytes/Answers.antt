use Rattle.std.proofs.Common.{rules, sym, ◌∙◌}
use Rattle.ref_patterns.proofs.Passed.{further}
use Rattle.ref_patterns.proofs.globs.pass_bytes.Goals as goal

pub bytes-preserved : goal.bytes-preserved
bytes-preserved c = record {
  passed = further c.args.glob.now c.args.text.now c.bytes.rest.now c.bytes.left.now c.in-Some.after.now c.in-Some-split_first.more.now c.in-Some.wanted.now c.in-Some-split_first.found.now c.bytes.invariant.passed
      (search rules) (search rules) (search rules) (search rules);
}
