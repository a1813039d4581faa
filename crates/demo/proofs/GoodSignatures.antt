-- Each signature of a demonstration is good.
use Rattle.std.proofs.Common.{◌%◌, suc, arith}
use Rattle.metadata_writing.specs.Written.{file_text, root_text}
use Rattle.dsse_envelope.specs.Authentication.{pae}
use Rattle.std.specs.Prelude.{None}
use Rattle.git_object.specs.References.{policy_name}
use Rattle.rsl_chain.specs.Drafts.{unsigned_text}
use Rattle.demo.specs.Journals.{uses_of}
use Rattle.demo.specs.KeyLaws.{SignWell}
use Rattle.demo.specs.Histories.{draft_of, uses_after}
use Rattle.demo.specs.SignatureLaws.{AreGood, change_draft}
use Rattle.demo.specs.Policies.{demo_root, demo_top, payload_type, policy_id}
use Rattle.demo.proofs.KeyUses.{has_leaf}

pub are_good : SignWell → AreGood
are_good sign = record {
  root = sign 0 0 (pae payload_type (root_text demo_root)) (omega arith);
  top = sign 0 1 (pae payload_type (file_text demo_top)) (omega arith);
  policy = sign 0 2 (unsigned_text (draft_of 1 None 0 policy_name policy_id)) (omega arith);
  changes = λ j few. sign (suc j % 3) (uses_of (suc j % 3) (uses_after j)) (unsigned_text (change_draft j)) (has_leaf (suc j % 3) j few);
}
