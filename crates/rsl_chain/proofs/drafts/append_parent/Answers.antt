use Rattle.std.proofs.Common.{◌++◌, codes}
use Rattle.hex.specs.Hex.{encode_lower}
use Rattle.rsl_chain.proofs.DraftLemmas.{last_line}
use Rattle.rsl_chain.proofs.drafts.append_parent.Goals as goal

pub returns-in_ok-append_id-in-Some-clause-added : goal.returns-in_ok-append_id-in-Some-clause-added
returns-in_ok-append_id-in-Some-clause-added c = rw c.in-Some.is
    (last_line c.args.text.now c.append_id.new.text (codes "parent " ++ encode_lower c.in-Some.id) c.in_ok-append_id-in-Some.ensures.added)
