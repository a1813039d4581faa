-- What is written of an entry is inside the grammar.
use Rattle.std.proofs.Common.{◌≡◌, ◌+◌, ◌<◌, ◌/◌, ◌%◌, ◌^◌, ◌++◌, ℕ, List, [], ◌∷◌, length, length-append, refl, sym, subst, ap, ◌∙◌, arith}
use Rattle.std.specs.Prelude.{false, Option, None, Some, codes, decimal}
use Rattle.std.specs.Int.{w32, to_be_bytes}
use Rattle.text_reader.proofs.Unique.{decimal_line, no_byte}
use Rattle.text_reader.specs.Line.{has_byte}
use Rattle.rsl_chain.specs.declared.entries.EntryBody.{EntryBody}
use Rattle.lmots.specs.Chain.{joined}
use Rattle.lmots.specs.OneTime as one_time
use Rattle.lms_keys.specs.LmsType.{code, height}
use Rattle.lms_keys.specs.Secret as one
use Rattle.lms_keys.specs.HssSecret.{Secret, bottom_of, bytes_of, signature_by}
use Rattle.lms_keys.specs.declared.below.Below.{Below}
use Rattle.leaf_journal.specs.Signing.{Signs}
use Rattle.rsl_chain.specs.Chain.{IsHead, last_of}
use Rattle.rsl_chain.specs.Drafts.{IsBody, IsDraft, IsReadWith, IsValid, signed_text_of}
use Rattle.rsl_chain.specs.declared.drafts.Draft.{Draft}
use Rattle.log_appending.specs.Entries.{ReadsAs, author_of, draft_after, draft_text, entry_text, signed_by}

-- who writes an entry has no line feed in it
pub author_plain : (seconds : ℕ) → seconds < 2 ^ 64 → has_byte 10 (author_of seconds) ≡ false
unfolding author_of
author_plain seconds small =
    no_byte 10 (codes "gittuf <gittuf@localhost> " ++ decimal seconds) (codes " +0000")
    (no_byte 10 (codes "gittuf <gittuf@localhost> ") (decimal seconds) refl (decimal_line seconds small)) refl

-- there is a last id exactly where there are ids
some_last : (id : List ℕ) (ids : List (List ℕ)) → last_of (id ∷ ids) ≡ None → ⊥
some_last id [] none = cc
some_last id (next ∷ ids) none = some_last next ids none

head_of : (ids : List (List ℕ)) → length ids < 1000000 → IsHead (record { number = length ids + 1; parent = last_of ids })
head_of [] short = record { some = omega arith; most = omega arith; first = (λ one. refl, λ none. refl) }
head_of (id ∷ ids) short = record {
  some = omega arith;
  most = omega arith;
  first = (λ one. absurd (omega arith), λ none. absurd (some_last id ids none));
}

-- the draft after fewer than 1,000,000 entries is inside the grammar
pub draft_valid : (ids : List (List ℕ)) (seconds : ℕ) (body : EntryBody) → length ids < 1000000 → has_byte 10 (author_of seconds) ≡ false → IsBody body → IsDraft (draft_after ids seconds body)
unfolding draft_after
draft_valid ids seconds body short plain is = record { head = head_of ids short; author = plain; body = is }

-- a signature is not empty
some_bytes : (q : ℕ) (rest : List ℕ) → 0 < length (to_be_bytes w32 q ++ rest)
some_bytes q rest = omega (arith, length-append (to_be_bytes w32 q) rest)

some_signed : (key : one.Secret) (q : ℕ) (message : List ℕ) → 0 < length (one.signature key q message)
some_signed key q message = some_bytes q (one_time.signature key.ots key.i q key.seed message ++ to_be_bytes w32 (code key.lms) ++ joined (one.path_of key q) (height key.lms))

some_by : (top : one.Secret) (below : Option Below) (q : ℕ) (message : List ℕ) → 0 < length (signature_by top below q message)
some_by top None q message = some_signed top q message
some_by top (Some below) q message =
    let last : one.Secret = bottom_of top.i top.seed below (q / 2 ^ height below.lms) in
    some_bytes 1 (one.signature top (q / 2 ^ height below.lms) (bytes_of last) ++ bytes_of last ++ one.signature last (q % 2 ^ height below.lms) message)

pub signature_some : (secret : Secret) (message : List ℕ) (q : ℕ) (s : List ℕ) → Signs secret message q s → 0 < length s
signature_some secret message q s signs = subst (λ (t : List ℕ). 0 < length t) (sym signs.is) (some_by secret.top secret.below q message)

pub text_is : (draft : Draft) (secret : Secret) (signature unsigned text : List ℕ) → unsigned ≡ draft_text draft → text ≡ signed_text_of unsigned (signed_by secret signature) → text ≡ entry_text draft secret signature
unfolding draft_text entry_text
text_is draft secret signature unsigned text is joined = joined ∙ ap (λ (t : List ℕ). signed_text_of t (signed_by secret signature)) is

pub reads_as : (draft : Draft) (secret : Secret) (signature unsigned text : List ℕ) → IsDraft draft → IsValid draft → unsigned ≡ draft_text draft → 0 < length signature
    → IsReadWith unsigned (signed_by secret signature) text → ReadsAs draft secret signature text
unfolding draft_text
reads_as draft secret signature unsigned text is valid unsigned_is some reads = record { read = reads draft is valid unsigned_is some }
