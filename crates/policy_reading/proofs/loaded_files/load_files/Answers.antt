use Rattle.std.proofs.Common.{rules, arith, ap, sym, ◌∙◌, ◌+◌, drop}
use Rattle.keeper_api.proofs.Coming.{as_before_then}
use Rattle.policy_reading.specs.Signed.{after, read_files}
use Rattle.policy_reading.proofs.FilesRead.{names_more, read_more}
use Rattle.policy_reading.proofs.loaded_files.load_files.Goals as goal

pub ats-preserved : goal.ats-preserved
ats-preserved g c = record {
  read = λ r told.
      read_more r c.args.ats.now c.ats.at-index c.ats.files (read_files r c.args.ats.now) (c.ats.invariant.read r (c.in_ok-load_file.ensures.same.content r told)) c.at-item.result c.in_ok-load_file.field-0 c.in-Some.file c.ats-test.true
      c.at-item.is (c.in_ok-load_file.ensures.read r told) c.in-Some.is
      ∙ ap (λ files. after files (read_files r (drop (c.ats.at-index + 1) c.args.ats.now))) (sym c.in_ok-push-in-Some.ensures);
  named = names_more c.args.ats.now c.ats.at-index c.ats.files c.push.new.self c.at-item.result c.in_ok-load_file.field-0 c.in-Some.file c.in_ok-push-in-Some.ensures c.ats.invariant.named c.in_ok-load_file.ensures.named c.in-Some.is c.ats-test.true c.at-item.is;
  same = as_before_then g.R.Keeper c.args.keeper.now c.ats.keeper c.load_file.new.keeper
      c.ats.invariant.same c.in_ok-load_file.ensures.same;
  quiet = search rules;
  reads = omega (arith, c.ats.invariant.reads, c.in_ok-load_file.ensures.reads);
}
