use Rattle.verify_ref.proofs.OneVerdict.{one_verdict, verdict_or_break}
use Rattle.verify_ref.proofs.laws.one_verdict.Goals as goal

pub returns : goal.returns
returns c = record { one = one_verdict; or_break = verdict_or_break }
