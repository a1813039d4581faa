use Rattle.std.proofs.Common.{◌≡◌, ap, map, ◌∙◌}
use Rattle.policy_reading.proofs.InOrder.{in_order}
use Rattle.policy_reading.proofs.TextsRead.{ok_at}
use Rattle.policy_reading.proofs.checking.check_entries.Goals as goal

pub returns-clause-order : goal.returns-clause-order
returns-clause-order g c =
    in_order c.in-Some-2.signed c.in-Ok.files c.in_ok-judge-in-Ok.field-0 c.args.entries.now c.in_ok-judge-in-Ok.ensures
    (ok_at (λ files. map (λ signed. signed.file.name) files ≡ map (λ at. at.stem) c.as_slice.result.now) c.in_ok-fault.field-0 c.in-Ok.files c.in_ok-fault.ensures.named c.in-Ok.is ∙ ap (map (λ at. at.stem)) (c.as_slice.ensures ∙ c.in_ok-files.ensures))
