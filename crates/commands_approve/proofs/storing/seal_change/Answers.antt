use Rattle.std.proofs.Common.{subst}
use Rattle.hex.specs.Hex.{IsBytes}
use Rattle.commands_approve.proofs.Sealed.{attests_by}
use Rattle.commands_approve.proofs.storing.seal_change.Goals as goal

pub returns-clause-attests : goal.returns-clause-attests
returns-clause-attests c = λ name secret seconds ready long at.
    attests_by c.args.prepared c.args.sig c.args.author.now c.as_slice-2.result.now c.in_ok-envelope.envelope c.in_ok-attested.attested c.in_ok-envelope.ensures.sealed c.in_ok-envelope.ensures.writable
    c.in_ok-attested.ensures.change c.as_slice-2.ensures c.in_ok-attested.ensures.reads_back (subst IsBytes c.as_slice.ensures c.are_bytes.ensures) name secret seconds ready long at
