-- What is written is read as its parts.
use Rattle.std.proofs.Common.{◌≡◌, ℕ, ◌+◌, ◌≤◌, Bool, true, false, List, [], ◌∷◌, ◌++◌, map, length, Option, Some, None, Ok, refl, sym, ap, subst, ◌∙◌, arith, append_assoc, append-nil}
use Rattle.std.specs.Prelude.{codes}
use Rattle.std.specs.List.{AllByRecursion}
use Rattle.std.proofs.lemmas.Bool.{lt-ltb}
use Rattle.base64.specs.GeneralPurpose.{IsBytes}
use Rattle.hex.specs.Hex.{encode_lower}
use Rattle.git_object.specs.Ids.{IsId, zeros}
use Rattle.git_object.specs.Objects.{object_id}
use Rattle.git_object.specs.declared.kinds.Kind.TheVariants.{Commit}
use Rattle.rsl_chain.specs.declared.entries.EntryBody.{EntryBody}
use Rattle.rsl_chain.specs.declared.entries.EntryBody.TheVariants.{Reference, Annotation}
use Rattle.text_reader.proofs.Unique.{no_byte}
use Rattle.rsl_chain.specs.Chain.{IsHead}
use Rattle.rsl_chain.specs.Drafts.{IsBody, IsDraft, IsParent, IsReadBack, IsReadWith, IsValid, IsValidBody, author_lines, body_lines, draft_lines, entry_line, entry_of_draft, head_lines, insert_line, joined, message_lines, number_line, signature_line, signature_lines, signature_of, signer_of, signed_text_of, skip_line, unsigned_text}
use Rattle.rsl_chain.specs.Grammar.{first_id_step, id_if, id_or_skip_step, name_step, parent_step, signature_step, start, step, target_step, tree_line}
use Rattle.rsl_chain.specs.Reading.{body_from, entry_as, entry_of, judge, no_parts}
use Rattle.rsl_chain.specs.declared.drafts.Draft.{Draft}
use Rattle.rsl_chain.specs.declared.parts.Parts.{Parts}
use Rattle.rsl_chain.specs.declared.places.Part.TheVariants.{Parent, Name, Target, Id, Skip, Number}
use Rattle.rsl_chain.specs.declared.places.Place.{Place}
use Rattle.rsl_chain.specs.declared.places.Want.{Want}
use Rattle.rsl_chain.specs.declared.places.Want.TheVariants.{ParentOrAuthor, Author, Committer, SignatureOrGap, Gap, Title, ReferenceGap, ReferenceName, ReferenceTarget, ReferenceNumber, AnnotationGap, FirstId, IdOrSkip, AnnotationNumber, MessageOrEnd, End}
use Rattle.rsl_chain.specs.declared.words.SignatureLine.{SignatureLine}
use Rattle.rsl_chain.proofs.PlainLines.{Plain, name_plain}
use Rattle.rsl_chain.proofs.Runs.{Runs, at, lines_joined, runs_end, runs_line, runs_signature, to}
use Rattle.rsl_chain.proofs.WrittenMessages.{message_runs, message_want}
use Rattle.rsl_chain.proofs.WrittenWords.{IsSignature, id_line_plain, id_read, name_read, number_plain, numbered, signature_plain, signature_read}

abbrev Text : Type 0
Text = List ℕ

-- ---- the parts of a body

abbrev name_of : EntryBody → Option Text
name_of (Reference name target) = Some name
name_of (Annotation ids skip message) = None

abbrev target_of : EntryBody → Text
target_of (Reference name target) = target
target_of (Annotation ids skip message) = zeros

abbrev ids_of : EntryBody → List Text
ids_of (Reference name target) = []
ids_of (Annotation ids skip message) = ids

abbrev skip_of : EntryBody → Bool
skip_of (Reference name target) = false
skip_of (Annotation ids skip message) = skip

abbrev message_of : EntryBody → Text
message_of (Reference name target) = []
message_of (Annotation ids skip message) = message

abbrev last_want : EntryBody → Want
last_want (Reference name target) = End
last_want (Annotation ids skip message) = message_want message

abbrev last_count : EntryBody → ℕ
last_count (Reference name target) = 0
last_count (Annotation ids skip message) = length ids

-- with a signature alone
abbrev signed_parts : Option Text → Text → Parts
signed_parts signer signature =
    record { signer = signer; signature = signature; name = None; target = zeros; ids = []; skip = false; message = []; signed = [] }

abbrev body_parts : Option Text → Text → EntryBody → Parts
body_parts signer signature body = record {
  signer = signer;
  signature = signature;
  name = name_of body;
  target = target_of body;
  ids = ids_of body;
  skip = skip_of body;
  message = message_of body;
  signed = [];
}

body_again : (body : EntryBody) → body_from (name_of body) (target_of body) (ids_of body) (skip_of body) (message_of body) ≡ body
body_again (Reference name target) = refl
body_again (Annotation ids skip message) = refl

abbrev BodyRuns : Option Text → Text → Option Text → ℕ → EntryBody → Type 0
BodyRuns signer signature parent n body =
    Runs (at Title parent 0 0) (signed_parts signer signature) (body_lines body n) (joined (body_lines body n)) (at (last_want body) parent n (last_count body)) (body_parts signer signature body)

abbrev HasHead : ℕ → Option Text → Type 0
HasHead n parent = IsHead (record { number = n; parent = parent })

-- ---- a reference entry

reference_runs : (signer : Option Text) (signature : Text) (parent : Option Text) (n : ℕ) (name target : Text) → HasHead n parent → IsBody (Reference name target) → IsValidBody (Reference name target)
    → BodyRuns signer signature parent n (Reference name target)
unfolding step
reference_runs signer signature parent n name target head is valid =
    let none = signed_parts signer signature in
    let named : Parts = record none { name = Some name } in
    let all = body_parts signer signature (Reference name target) in
    let end = at End parent n 0 in
    let number_more : List Text = number_line n ∷ [] in
    let target_more : List Text = (codes "targetID: " ++ encode_lower target) ∷ number_more in
    let name_more : List Text = (codes "ref: " ++ name) ∷ target_more in
    let gap_more : List Text = [] ∷ name_more in
    runs_line (at Title parent 0 0) none (codes "RSL Reference Entry") gap_more (joined gap_more) (to (at ReferenceGap parent 0 0)) end all refl tt refl
    (runs_line (at ReferenceGap parent 0 0) none [] name_more (joined name_more) (to (at ReferenceName parent 0 0)) end all refl tt refl
    (runs_line (at ReferenceName parent 0 0) none (codes "ref: " ++ name) target_more (joined target_more) (record { place = at ReferenceTarget parent 0 0; part = Name name }) end all
    (ap (λ (o : Option Text). name_step o (at ReferenceName parent 0 0)) (name_read name valid.0 is)) tt (no_byte 10 (codes "ref: ") name refl (name_plain name valid.0))
    (runs_line (at ReferenceTarget parent 0 0) named (codes "targetID: " ++ encode_lower target) number_more (joined number_more)
    (record { place = at ReferenceNumber parent 0 0; part = Target target }) end all
    (ap (λ (o : Option Text). target_step o (at ReferenceTarget parent 0 0)) (id_read (codes "targetID: ") target valid.1)) tt (id_line_plain (codes "targetID: ") target refl valid.1)
    (runs_line (at ReferenceNumber parent 0 0) all (number_line n) [] [] (record { place = end; part = Number n }) end all
    (numbered End parent (at ReferenceNumber parent 0 0) n refl head) tt (number_plain n head.most)
    (runs_end end all refl)))))

-- ---- an annotation

ids_run : (ids : List Text) (parent : Option Text) (k total : ℕ) (parts : Parts) (all more : List Text) (q : Place) (now : Parts)
    → total ≡ k + length ids → all ≡ parts.ids ++ ids → total ≤ 256 → AllByRecursion IsId ids
    → Runs (at IdOrSkip parent 0 total) (record parts { ids = all }) more (joined more) q now
    → Runs (at IdOrSkip parent 0 k) parts (map entry_line ids ++ more) (joined (map entry_line ids ++ more)) q now
unfolding step
ids_run [] parent k total parts all more q now count same few are rest =
    let this : total ≡ k = omega (arith, count) in
    subst (λ (n : ℕ). Runs (at IdOrSkip parent 0 n) parts more (joined more) q now) this
    (subst (λ (ids : List Text). Runs (at IdOrSkip parent 0 total) (record parts { ids = ids }) more (joined more) q now) (same ∙ append-nil parts.ids) rest)
ids_run (id ∷ ids) parent k total parts all more q now count same few are rest =
    runs_line (at IdOrSkip parent 0 k) parts (entry_line id) (map entry_line ids ++ more) (joined (map entry_line ids ++ more))
    (record { place = at IdOrSkip parent 0 (k + 1); part = Id id }) q now
    (ap (λ (o : Option Text). id_or_skip_step o (entry_line id) (at IdOrSkip parent 0 k)) (id_read (codes "entryID: ") id are.0)
    ∙ ap (λ (b : Bool). id_if b id (at IdOrSkip parent 0 k)) (lt-ltb k 256 (omega (arith, count, few))))
    tt (id_line_plain (codes "entryID: ") id refl are.0)
    (ids_run ids parent (k + 1) total (record parts { ids = parts.ids ++ id ∷ [] }) all more q now (omega (arith, count)) (same ∙ sym (append_assoc parts.ids (id ∷ []) ids)) few are.1 rest)

skip_read : (skip : Bool) (parent : Option Text) (k : ℕ) → step (at IdOrSkip parent 0 k) (skip_line skip) ≡ Some (record { place = at AnnotationNumber parent 0 k; part = Skip skip })
unfolding step
skip_read true parent k = refl
skip_read false parent k = refl

skip_plain : (skip : Bool) → Plain (skip_line skip)
skip_plain true = refl
skip_plain false = refl

annotation_runs : (signer : Option Text) (signature : Text) (parent : Option Text) (n : ℕ) (ids : List Text) (skip : Bool) (message : Text) → HasHead n parent → IsBody (Annotation ids skip message) → IsValidBody (Annotation ids skip message)
    → BodyRuns signer signature parent n (Annotation ids skip message)
unfolding step
annotation_runs signer signature parent n [] skip message head is valid = let none = is.0 in absurd (omega (arith, none))
annotation_runs signer signature parent n (id ∷ ids) skip message head is valid =
    let none = signed_parts signer signature in
    let first : Parts = record none { ids = id ∷ [] } in
    let skipped : Parts = record none { ids = id ∷ ids; skip = skip } in
    let all = body_parts signer signature (Annotation (id ∷ ids) skip message) in
    let k = length (id ∷ ids) in
    let few = is.1 in
    let end = at (message_want message) parent n k in
    let message_more : List Text = message_lines message in
    let number_more : List Text = number_line n ∷ message_more in
    let skip_more : List Text = skip_line skip ∷ number_more in
    let ids_more : List Text = map entry_line ids ++ skip_more in
    let first_more : List Text = entry_line id ∷ ids_more in
    let gap_more : List Text = [] ∷ first_more in
    runs_line (at Title parent 0 0) none (codes "RSL Annotation Entry") gap_more (joined gap_more) (to (at AnnotationGap parent 0 0)) end all refl tt refl
    (runs_line (at AnnotationGap parent 0 0) none [] first_more (joined first_more) (to (at FirstId parent 0 0)) end all refl tt refl
    (runs_line (at FirstId parent 0 0) none (entry_line id) ids_more (joined ids_more) (record { place = at IdOrSkip parent 0 1; part = Id id }) end all
    (ap (λ (o : Option Text). first_id_step o (at FirstId parent 0 0)) (id_read (codes "entryID: ") id valid.0.0)) tt (id_line_plain (codes "entryID: ") id refl valid.0.0)
    (ids_run ids parent 1 k first (id ∷ ids) skip_more end all (omega arith) refl few valid.0.1
    (runs_line (at IdOrSkip parent 0 k) (record none { ids = id ∷ ids }) (skip_line skip) number_more (joined number_more)
    (record { place = at AnnotationNumber parent 0 k; part = Skip skip }) end all (skip_read skip parent k) tt (skip_plain skip)
    (runs_line (at AnnotationNumber parent 0 k) skipped (number_line n) message_more (joined message_more) (record { place = at MessageOrEnd parent n k; part = Number n }) end all
    (numbered MessageOrEnd parent (at AnnotationNumber parent 0 k) n refl head) tt (number_plain n head.most)
    (message_runs message parent n k skipped refl valid.1))))))

body_runs : (signer : Option Text) (signature : Text) (parent : Option Text) (n : ℕ) (body : EntryBody) → HasHead n parent → IsBody body → IsValidBody body → BodyRuns signer signature parent n body
body_runs signer signature parent n (Reference name target) head is valid = reference_runs signer signature parent n name target head is valid
body_runs signer signature parent n (Annotation ids skip message) head is valid = annotation_runs signer signature parent n ids skip message head is valid

-- ---- the lines above the body

abbrev IsSigned : Option SignatureLine → Type 0
IsSigned None = Unit {0}
IsSigned (Some s) = IsSignature s

signature_runs : (s : Option SignatureLine) (parent : Option Text) (more : List Text) (q : Place) (now : Parts) → IsSigned s
    → Runs (at Title parent 0 0) (signed_parts (signer_of s) (signature_of s)) more (joined more) q now
    → Runs (at SignatureOrGap parent 0 0) no_parts (signature_lines s ++ ([] ∷ more)) (joined ([] ∷ more)) q now
unfolding step
signature_runs None parent more q now is rest =
    runs_line (at SignatureOrGap parent 0 0) no_parts [] more (joined more) (to (at Title parent 0 0)) q now refl tt refl rest
signature_runs (Some s) parent more q now is rest =
    runs_signature (at SignatureOrGap parent 0 0) no_parts (signature_line s) ([] ∷ more) (joined ([] ∷ more)) s (at Gap parent 0 0) q now
    (ap (λ (o : Option SignatureLine). signature_step o (signature_line s) (at SignatureOrGap parent 0 0)) (signature_read s is)) (signature_plain s is)
    (runs_line (at Gap parent 0 0) (signed_parts (Some s.signer) s.signature) [] more (joined more) (to (at Title parent 0 0)) q now refl tt refl rest)

head_runs : (parent : Option Text) (author : Text) (ls signed : List Text) (q : Place) (now : Parts) → IsParent parent → Plain author
    → Runs (at SignatureOrGap parent 0 0) no_parts ls (joined signed) q now → Runs start no_parts (head_lines parent author ++ ls) (joined (head_lines parent author ++ signed)) q now
unfolding step
head_runs None author ls signed q now is plain rest =
    runs_line start no_parts tree_line (author_lines author ++ ls) (joined (author_lines author ++ signed)) (to (at ParentOrAuthor None 0 0)) q now refl tt refl
    (runs_line (at ParentOrAuthor None 0 0) no_parts (codes "author " ++ author) ((codes "committer " ++ author) ∷ ls) (joined ((codes "committer " ++ author) ∷ signed))
    (to (at Committer None 0 0)) q now refl tt (no_byte 10 (codes "author ") author refl plain)
    (runs_line (at Committer None 0 0) no_parts (codes "committer " ++ author) ls (joined signed) (to (at SignatureOrGap None 0 0)) q now refl tt (no_byte 10 (codes "committer ") author refl plain) rest))
head_runs (Some id) author ls signed q now is plain rest =
    runs_line start no_parts tree_line ((codes "parent " ++ encode_lower id) ∷ (author_lines author ++ ls)) (joined ((codes "parent " ++ encode_lower id) ∷ (author_lines author ++ signed)))
    (to (at ParentOrAuthor None 0 0)) q now refl tt refl
    (runs_line (at ParentOrAuthor None 0 0) no_parts (codes "parent " ++ encode_lower id) (author_lines author ++ ls) (joined (author_lines author ++ signed))
    (record { place = at Author (Some id) 0 0; part = Parent id }) q now
    (ap (λ (o : Option Text). parent_step o (codes "parent " ++ encode_lower id) (at ParentOrAuthor None 0 0)) (id_read (codes "parent ") id is)) tt (id_line_plain (codes "parent ") id refl is)
    (runs_line (at Author (Some id) 0 0) no_parts (codes "author " ++ author) ((codes "committer " ++ author) ∷ ls) (joined ((codes "committer " ++ author) ∷ signed))
    (to (at Committer (Some id) 0 0)) q now refl tt (no_byte 10 (codes "author ") author refl plain)
    (runs_line (at Committer (Some id) 0 0) no_parts (codes "committer " ++ author) ls (joined signed) (to (at SignatureOrGap (Some id) 0 0)) q now refl tt
    (no_byte 10 (codes "committer ") author refl plain) rest)))

-- ---- the whole text

draft_runs : (d : Draft) (s : Option SignatureLine) → IsDraft d → IsValid d → IsSigned s
    → Runs start no_parts (draft_lines s d) (unsigned_text d) (at (last_want d.body) d.parent d.number (last_count d.body)) (body_parts (signer_of s) (signature_of s) d.body)
draft_runs d s is valid signed =
    let q = at (last_want d.body) d.parent d.number (last_count d.body) in
    let now = body_parts (signer_of s) (signature_of s) d.body in
    head_runs d.parent d.author (signature_lines s ++ ([] ∷ body_lines d.body d.number)) ([] ∷ body_lines d.body d.number) q now valid.0 is.author
    (signature_runs s d.parent (body_lines d.body d.number) q now signed
    (body_runs (signer_of s) (signature_of s) d.parent d.number d.body is.head is.body valid.1))

-- the text with its signature, or without one
abbrev text_of : Option SignatureLine → Draft → Text
text_of s d = joined (draft_lines s d)

read_with : (d : Draft) (s : Option SignatureLine) → IsDraft d → IsValid d → IsSigned s → entry_of (text_of s d) ≡ Ok (entry_of_draft d s (text_of s d))
read_with d s is valid signed =
    let runs = draft_runs d s is valid signed in
    let id = object_id Commit (text_of s d) in
    ap (λ (ls : List Text × Text). entry_as id (judge ls.1 ls.0 start no_parts 1)) (lines_joined (draft_lines s d) runs.plain)
    ∙ ap (entry_as id) (runs.reads [] 1)
    ∙ ap (λ (body : EntryBody). Ok (record (entry_of_draft d s (text_of s d)) { body = body })) (body_again d.body)

inserted : (line : Text) (parent : Option Text) (author : Text) (more : List Text)
    → insert_line line (head_lines parent author ++ ([] ∷ more)) ≡ head_lines parent author ++ (line ∷ [] ∷ more)
inserted line None author more = refl
inserted line (Some id) author more = refl

is_joined : (d : Draft) (s : SignatureLine) → IsDraft d → IsValid d → signed_text_of (unsigned_text d) s ≡ text_of (Some s) d
is_joined d s is valid =
    let ls = draft_lines None d in
    ap (λ (t : List Text × Text). joined (insert_line (signature_line s) t.0) ++ t.1) (lines_joined ls (draft_runs d None is valid tt).plain)
    ∙ append-nil (joined (insert_line (signature_line s) ls)) ∙ ap joined (inserted (signature_line s) d.parent d.author (body_lines d.body d.number))

pub draft_is_read : (d : Draft) (text : Text) → text ≡ unsigned_text d → IsValid d → IsDraft d → IsReadBack d text
draft_is_read d text same valid is = subst (IsReadBack d) (sym same) (read_with d None is valid tt)

pub joined_is_read : (s : SignatureLine) (unsigned text : Text) → text ≡ signed_text_of unsigned s → IsId s.signer → IsBytes s.signature → IsReadWith unsigned s text
joined_is_read s unsigned text joins signer bytes d is valid same some =
    subst (λ (t : Text). entry_of t ≡ Ok (entry_of_draft d (Some s) t)) (sym (joins ∙ ap (λ (t : Text). signed_text_of t s) same ∙ is_joined d s is valid))
    (read_with d (Some s) is valid (record { signer = signer; some = some; bytes = bytes }))
