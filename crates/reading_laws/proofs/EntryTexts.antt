-- A body is read as an entry exactly where it is the text of a draft.
use Rattle.std.proofs.Common.{◌≡◌, ℕ, true, List, [], ◌∷◌, ◌++◌, Option, Some, None, Result, Ok, Err}
use Rattle.std.proofs.Common.{refl, sym, ap, ◌∙◌, append-nil}
use Rattle.std.specs.Prelude.{◌↔◌, is_err}
use Rattle.std.proofs.lemmas.Bool.{false≢true}
use Rattle.base64.specs.GeneralPurpose.{IsBytes}
use Rattle.text_reader.proofs.Unique.{same_front}
use Rattle.git_object.specs.Objects.{object_id}
use Rattle.git_object.specs.declared.kinds.Kind.TheVariants.{Commit}
use Rattle.rsl_chain.specs.Drafts.{IsDraft, IsValid, body_lines, entry_of_draft, insert_line, joined, signature_line}
use Rattle.rsl_chain.specs.Drafts.{signature_lines, signed_text_of, unsigned_text}
use Rattle.rsl_chain.specs.Grammar.{start}
use Rattle.rsl_chain.specs.Reading.{entry_as, entry_from, entry_of, judge, no_parts}
use Rattle.rsl_chain.specs.declared.drafts.Draft.{Draft}
use Rattle.rsl_chain.specs.declared.entries.Entry.{Entry}
use Rattle.rsl_chain.specs.declared.parts.Parts.{Parts}
use Rattle.rsl_chain.specs.declared.places.Place.{Place}
use Rattle.rsl_chain.specs.declared.places.Want.TheVariants.{SignatureOrGap}
use Rattle.rsl_chain.specs.declared.words.SignatureLine.{SignatureLine}
use Rattle.rsl_chain.proofs.DraftLemmas.{joined_more}
use Rattle.rsl_chain.proofs.PlainLines.{Plain}
use Rattle.rsl_chain.proofs.Runs.{at, lines_joined}
use Rattle.rsl_chain.proofs.Written.{draft_is_read, joined_is_read}
use Rattle.reading_laws.specs.EntryTexts.{IsSigned, IsTextOf, entry_lines, entry_said, entry_text, lines_above}
use Rattle.reading_laws.proofs.Heads.{draft_is}
use Rattle.reading_laws.proofs.LineWalks.{read_lines, reading_is}
use Rattle.reading_laws.proofs.OtherHeads.{adds, head_count, head_joined, head_of, head_read, head_text, lines_plain, over}

abbrev Text : Type 0
Text = List ℕ

-- ---- with the author as the committer

inserted : (line : Text) (parent : Option Text) (author : Text) (more : List Text)
    → insert_line line (head_of parent author author ++ ([] ∷ more)) ≡ head_of parent author author ++ (line ∷ [] ∷ more)
inserted line None author more = refl
inserted line (Some id) author more = refl

with_signature : (d : Draft) (s : SignatureLine) → IsDraft d → IsValid d → entry_text d d.author (Some s) ≡ signed_text_of (unsigned_text d) s
with_signature d s is valid =
    let ls : List Text = entry_lines d d.author None in
    let joins : signed_text_of (unsigned_text d) s ≡ entry_text d d.author (Some s) =
    ap (λ (t : List Text × Text). joined (insert_line (signature_line s) t.0) ++ t.1)
    (lines_joined ls (lines_plain d d.author None is valid is.author tt))
    ∙ append-nil (joined (insert_line (signature_line s) ls)) ∙ ap joined
    (inserted (signature_line s) d.parent d.author (body_lines d.body d.number)) in
    sym joins

own_read : (d : Draft) (s : Option SignatureLine) → IsDraft d → IsValid d → IsSigned s
    → entry_of (entry_text d d.author s) ≡ Ok (entry_of_draft d s (entry_text d d.author s))
own_read d None is valid signed = draft_is_read d (unsigned_text d) refl valid is
own_read d (Some s) is valid signed =
    joined_is_read s (unsigned_text d) (entry_text d d.author (Some s)) (with_signature d s is valid) signed.0 signed.2 d is valid refl signed.1

-- ---- with any committer

abbrev judged : Draft → Text → Option SignatureLine → Type 0
judged d committer s = (x : Place × Parts) × (judge [] (entry_lines d committer s) start no_parts 1 ≡ Ok x)

abbrev rest_of : Draft → Option SignatureLine → List Text
rest_of d s = signature_lines s ++ ([] ∷ body_lines d.body d.number)

text_judged : (d : Draft) (committer : Text) (s : Option SignatureLine) → IsDraft d → IsValid d → Plain committer → IsSigned s
    → entry_of (entry_text d committer s) ≡ entry_as (object_id Commit (entry_text d committer s))
    (judge [] (entry_lines d committer s) start no_parts 1)
text_judged d committer s is valid plain signed =
    ap (λ (ls : List Text × Text). entry_as (object_id Commit (entry_text d committer s)) (judge ls.1 ls.0 start no_parts 1))
    (lines_joined (entry_lines d committer s) (lines_plain d committer s is valid plain signed))

-- what is read of the lines, as the place and the parts
from_parts : (id : Text) (x : Place × Parts) (e : Entry) → entry_as id (Ok x) ≡ Ok e → entry_from id x ≡ e
from_parts id x e is = cc is

unsigned_is : (d : Draft) (committer : Text) → entry_text d committer None ≡ head_text d.parent d.author committer ++ joined ([] ∷ body_lines d.body d.number)
unsigned_is d committer =
    joined_more (lines_above d committer) ([] ∷ body_lines d.body d.number)
    ∙ ap (λ (t : Text). t ++ joined ([] ∷ body_lines d.body d.number)) (sym (head_joined d.parent d.author committer))

-- the same entry, of another text that is signed
abbrev resigned : Entry → Text → Text → Entry
resigned e id signed = record e { id = id; signed = signed }

pub text_read : (d : Draft) (committer : Text) (s : Option SignatureLine) → IsDraft d → IsValid d → Plain committer → IsSigned s
    → entry_of (entry_text d committer s) ≡ Ok (entry_said d committer s)
text_read d committer s is valid plain signed =
    let own_id : Text = object_id Commit (entry_text d d.author s) in
    let id : Text = object_id Commit (entry_text d committer s) in
    let rest : List Text = rest_of d s in
    let own = sym (text_judged d d.author s is valid is.author signed) ∙ own_read d s is valid signed in
    let read = reading_is own_id (judge [] (entry_lines d d.author s) start no_parts 1) (entry_of_draft d s (entry_text d d.author s)) own in
    let x : Place × Parts = read.0 in
    let says : entry_from own_id x ≡ entry_of_draft d s (entry_text d d.author s) =
    from_parts own_id x (entry_of_draft d s (entry_text d d.author s)) (ap (entry_as own_id) (sym read.1) ∙ own) in
    let below = adds rest (at SignatureOrGap d.parent 0 0) (over no_parts (head_text d.parent d.author d.author)) (head_count d.parent) x
    (sym (head_read d.parent d.author d.author rest valid.0) ∙ read.1) in
    let added : below.added ≡ joined ([] ∷ body_lines d.body d.number) =
    same_front (head_text d.parent d.author d.author) below.added (joined ([] ∷ body_lines d.body d.number))
    (sym below.ends ∙ ap (λ (e : Entry). e.signed) says ∙ unsigned_is d d.author) in
    let now : Text = head_text d.parent d.author committer ++ below.added in
    let signed_is : now ≡ entry_text d committer None =
    ap (λ (t : Text). head_text d.parent d.author committer ++ t) added ∙ sym (unsigned_is d committer) in
    text_judged d committer s is valid plain signed
    ∙ ap (entry_as id) (head_read d.parent d.author committer rest valid.0 ∙ below.reads (head_text d.parent d.author committer)
    (head_count d.parent))
    ∙ ap (λ (e : Entry). Ok (resigned e id now)) says
    ∙ ap (λ (t : Text). Ok (record (entry_said d committer s) { signed = t })) signed_is

-- ---- exactly these

same_entry : (a b : Entry) → ◌≡◌ {A = Result Entry ℕ} (Ok a) (Ok b) → a ≡ b
same_entry a b is = cc is

is_text : (body : Text) (entry : Entry) → IsBytes body → entry_of body ≡ Ok entry → IsTextOf body entry
is_text body entry bytes is =
    let read = read_lines body entry bytes is in
    let from = draft_is read.ls read.are read.walk in
    let text : body ≡ entry_text from.draft from.committer from.signature = read.body_is ∙ ap joined from.lines_are in
    record {
      draft = from.draft;
      committer = from.committer;
      signature = from.signature;
      inside = from.inside;
      valid = from.valid;
      one_line = from.one_line;
      signed = from.signed;
      text = text;
      says = same_entry entry (entry_said from.draft from.committer from.signature)
          (sym is ∙ ap entry_of text ∙ text_read from.draft from.committer from.signature from.inside from.valid from.one_line from.signed);
    }

of_text : (body : Text) (entry : Entry) → IsTextOf body entry → entry_of body ≡ Ok entry
of_text body entry is =
    ap entry_of is.text ∙ text_read is.draft is.committer is.signature is.inside is.valid is.one_line is.signed
    ∙ ap (λ (e : Entry). Ok e) (sym is.says)

pub entry_where : (body : Text) (entry : Entry) → IsBytes body → (entry_of body ≡ Ok entry) ↔ IsTextOf body entry
entry_where body entry bytes = (is_text body entry bytes, of_text body entry)

refused_on : (body : Text) (r : Result Entry ℕ) → entry_of body ≡ r → IsBytes body → (is_err r ≡ true) ↔ ((entry : Entry) → IsTextOf body entry → ⊥)
refused_on body (Ok entry) is bytes = (λ err. absurd (false≢true err), λ never. absurd (never entry (is_text body entry bytes is)))
refused_on body (Err n) is bytes = (λ err entry text. no_text entry (sym is ∙ of_text body entry text), λ never. refl)
  where
    no_text : (entry : Entry) → ◌≡◌ {A = Result Entry ℕ} (Err n) (Ok entry) → ⊥
    no_text entry bad = cc bad

pub refused_where : (body : Text) → IsBytes body → (is_err (entry_of body) ≡ true) ↔ ((entry : Entry) → IsTextOf body entry → ⊥)
refused_where body bytes = refused_on body (entry_of body) refl bytes
