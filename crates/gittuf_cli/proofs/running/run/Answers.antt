use Rattle.std.proofs.Common.{◌≤◌, subst}
use Rattle.gittuf_cli.specs.Runs.{Says}
use Rattle.gittuf_cli.proofs.running.run.Goals as goal

pub returns-clause-ran : goal.returns-clause-ran
returns-clause-ran g c =
    let same = c.obey-ending.ensures.unsaid in
    record {
      ending = c.obey-ending.result;
      status_is = c.status.ensures.status;
      ends = c.obey-ending.ensures.ends;
      counted = c.obey-ending.ensures.counted;
      says = subst (λ (f : _). Says (g.F.Sink.contents f) (g.F.Sink.contents c.say.new.faults_out) (g.F.Sink.faults f) (g.F.Sink.faults c.say.new.faults_out) c.obey-ending.result) same c.say.ensures.says;
      later = subst (λ (f : _). g.F.Sink.faults f ≤ g.F.Sink.faults c.say.new.faults_out) same c.say.ensures.later;
    }
