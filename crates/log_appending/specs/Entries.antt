-- An entry that is added to a log: its draft, the body of its commit, and the repository with it.
use Rattle.std.specs.Prelude.{◌≡◌, ◌+◌, ◌++◌, ℕ, List, length, Some, Ok, codes, decimal}
use Rattle.std.specs.FinMap.{insert}
use Rattle.sha2.specs.Sha256.{sha256}
use Rattle.git_object.specs.Names.{log_name}
use Rattle.git_object.specs.Objects.{object_id}
use Rattle.git_object.specs.Repository.{Repository}
use Rattle.git_object.specs.declared.kinds.Kind.TheVariants.{Commit}
use Rattle.rsl_chain.specs.declared.entries.EntryBody.{EntryBody}
use Rattle.lms_keys.specs.HssSecret.{Secret, public_bytes}
use Rattle.rsl_chain.specs.Chain.{last_of}
use Rattle.rsl_chain.specs.Drafts.{entry_of_draft, signed_text_of, unsigned_text}
use Rattle.rsl_chain.specs.Reading.{entry_of}
use Rattle.rsl_chain.specs.declared.drafts.Draft.{Draft}
use Rattle.rsl_chain.specs.declared.words.SignatureLine.{SignatureLine}

-- who writes an entry, and when, as Git writes a person and a time: the program, and the seconds since the beginning of
-- 1970 (UTC)
unfoldable pub author_of : ℕ → List ℕ
author_of seconds = codes "gittuf <gittuf@localhost> " ++ decimal seconds ++ codes " +0000"

-- the draft of the entry that comes after those of these ids
unfoldable pub draft_after : List (List ℕ) → ℕ → EntryBody → Draft
draft_after ids seconds body = record {
  parent = last_of ids;
  author = author_of seconds;
  number = length ids + 1;
  body = body;
}

-- what is signed of it
unfoldable pub draft_text : Draft → List ℕ
draft_text draft = unsigned_text draft

-- the signature by a key, whose id is the SHA-256 of its public part's bytes
abbrev pub signed_by : Secret → List ℕ → SignatureLine
signed_by secret signature = record { signer = sha256 (public_bytes secret); signature = signature }

-- the body of the draft's commit with that signature
unfoldable pub entry_text : Draft → Secret → List ℕ → List ℕ
entry_text draft secret signature = signed_text_of (unsigned_text draft) (signed_by secret signature)

-- the body is read as the draft's entry with that signature
pub record ReadsAs (draft : Draft) (secret : Secret) (signature text : List ℕ) : Type 0 where
  pub read : entry_of text ≡ Ok (entry_of_draft draft (Some (signed_by secret signature)) text)

-- the id of the commit with this body
abbrev pub entry_id : List ℕ → List ℕ
entry_id text = object_id Commit text

-- the repository with that commit more and the log's reference at it, and else the same
abbrev pub with_entry : List ℕ → Repository → Repository
with_entry text r = record {
  objects = insert r.objects (entry_id text) (record { kind = Commit; body = text });
  refs = insert r.refs log_name (entry_id text);
}
