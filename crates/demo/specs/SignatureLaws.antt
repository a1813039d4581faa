-- That each signature of a demonstration is good.
use Rattle.std.specs.Prelude.{◌<◌, ◌+◌, ◌%◌, ℕ, suc, None, Some}
use Rattle.git_object.specs.Objects.{pair_id}
use Rattle.lms_keys.specs.SigOk.{SigOk}
use Rattle.git_object.specs.References.{policy_name}
use Rattle.rsl_chain.specs.Drafts.{unsigned_text}
use Rattle.dsse_envelope.specs.Authentication.{pae}
use Rattle.metadata_writing.specs.Written.{file_text, root_text}
use Rattle.rsl_chain.specs.declared.drafts.Draft.{Draft}
use Rattle.demo.specs.Histories.{change_commit, draft_of, main_after, main_name, tip_after, uses_after}
use Rattle.demo.specs.Journals.{uses_of}
use Rattle.demo.specs.Keys.{demo_key, public_bytes, signed_by}
use Rattle.demo.specs.Policies.{demo_root, demo_top, payload_type, policy_id}

-- the draft that records change j + 1
abbrev pub change_draft : ℕ → Draft
change_draft j = draft_of (suc j + 1) (Some (tip_after j)) (suc j) main_name
    (pair_id (change_commit (suc j) (main_after j)))

-- key 0 signed the policy's files and its entry, and each change was recorded by the key of its number mod 3
pub record AreGood : Type 0 where
  pub root : SigOk (public_bytes 0) (pae payload_type (root_text demo_root))
      (signed_by (demo_key 0) 0 (pae payload_type (root_text demo_root)))
  pub top : SigOk (public_bytes 0) (pae payload_type (file_text demo_top))
      (signed_by (demo_key 0) 1 (pae payload_type (file_text demo_top)))
  pub policy : SigOk (public_bytes 0) (unsigned_text (draft_of 1 None 0 policy_name policy_id))
      (signed_by (demo_key 0) 2 (unsigned_text (draft_of 1 None 0 policy_name policy_id)))
  pub changes : (j : ℕ) → j < 500 → SigOk (public_bytes (suc j % 3)) (unsigned_text (change_draft j))
      (signed_by (demo_key (suc j % 3)) (uses_of (suc j % 3) (uses_after j)) (unsigned_text (change_draft j)))
