-- What is read does not hang on the committer: another one changes what is signed, and nothing else that is said.
use Rattle.std.proofs.Common.{◌≡◌, ℕ, ◌+◌, ◌≤◌, Bool, true, false, ◌&&◌, List, [], ◌∷◌, ◌++◌, map}
use Rattle.std.proofs.Common.{Option, Some, None, Ok, refl, sym, ap, ◌∙◌, append_assoc, append-nil}
use Rattle.std.specs.Prelude.{codes}
use Rattle.std.specs.List.{AllByRecursion}
use Rattle.hex.specs.Hex.{encode_lower}
use Rattle.text_reader.proofs.Unique.{no_byte}
use Rattle.git_object.specs.Ids.{IsId}
use Rattle.rsl_chain.specs.Drafts.{IsDraft, IsParent, IsValid, IsValidBody, body_lines, ended, entry_line}
use Rattle.rsl_chain.specs.Drafts.{joined, parent_lines, signature_lines}
use Rattle.rsl_chain.specs.Drafts.{skip_line}
use Rattle.rsl_chain.specs.Grammar.{may_end, parent_step, start, step, tree_line}
use Rattle.rsl_chain.specs.Reading.{at_end, goes_on, judge, no_parts, put, with_line}
use Rattle.rsl_chain.specs.declared.drafts.Draft.{Draft}
use Rattle.rsl_chain.specs.declared.entries.EntryBody.{EntryBody}
use Rattle.rsl_chain.specs.declared.entries.EntryBody.TheVariants.{Reference, Annotation}
use Rattle.rsl_chain.specs.declared.parts.Parts.{Parts}
use Rattle.rsl_chain.specs.declared.places.Part.{Part}
use Rattle.rsl_chain.specs.declared.places.Part.TheVariants.{Nothing, Parent, Signature, Name, Target, Id, Skip, Number, Piece}
use Rattle.rsl_chain.specs.declared.places.Place.{Place}
use Rattle.rsl_chain.specs.declared.places.Step.{Step}
use Rattle.rsl_chain.specs.declared.places.Want.TheVariants.{ParentOrAuthor, SignatureOrGap}
use Rattle.rsl_chain.specs.declared.words.SignatureLine.{SignatureLine}
use Rattle.rsl_chain.proofs.PlainLines.{AllPlain, Plain, name_plain}
use Rattle.rsl_chain.proofs.Runs.{at}
use Rattle.rsl_chain.proofs.WrittenMessages.{message_runs}
use Rattle.rsl_chain.proofs.WrittenWords.{id_line_plain, id_read, number_plain, signature_plain}
use Rattle.reading_laws.specs.EntryTexts.{IsSigned, entry_lines, lines_above}

abbrev Text : Type 0
Text = List ℕ

-- the parts with another text that is signed
abbrev pub over : Parts → Text → Parts
over parts signed = record parts { signed = signed }

with_added : (part : Part) (line signed : Text) → with_line part line signed ≡ signed ++ with_line part line []
with_added Nothing line signed = refl
with_added (Parent id) line signed = refl
with_added (Signature found) line signed = sym (append-nil signed)
with_added (Name name) line signed = refl
with_added (Target id) line signed = refl
with_added (Id id) line signed = refl
with_added (Skip skip) line signed = refl
with_added (Number n) line signed = refl
with_added (Piece bytes) line signed = refl

put_over : (part : Part) (line signed : Text) (parts : Parts)
    → put part line (over parts signed) ≡ over (put part line parts) (with_line part line signed)
put_over Nothing line signed parts = refl
put_over (Parent id) line signed parts = refl
put_over (Signature found) line signed parts = refl
put_over (Name name) line signed parts = refl
put_over (Target id) line signed parts = refl
put_over (Id id) line signed parts = refl
put_over (Skip skip) line signed parts = refl
put_over (Number n) line signed parts = refl
put_over (Piece bytes) line signed parts = refl

-- lines that are read add a text of their own to what is signed, whatever that is, and say the same
pub record Adds (ls : List Text) (p : Place) (parts : Parts) (x : Place × Parts) : Type 0 where
  pub added : Text
  pub ends : x.1.signed ≡ parts.signed ++ added
  pub reads : (signed : Text) (n : ℕ) → judge [] ls p (over parts signed) n ≡ Ok (x.0, over x.1 (signed ++ added))

adds_none : (p : Place) (parts : Parts) (n : ℕ) (x : Place × Parts) (b : Bool) → (may_end p.want && true) ≡ b → at_end b p parts n ≡ Ok x
    → Adds [] p parts x
adds_none p parts n x true tests is =
    let same : (p, parts) ≡ x = cc is in
    record {
      added = [];
      ends = ap (λ (y : Place × Parts). y.1.signed) (sym same) ∙ sym (append-nil parts.signed);
      reads = λ signed m.
          ap (λ (b : Bool). at_end b p (over parts signed) m) tests ∙ (ap (λ (y : Place × Parts). Ok (y.0, over y.1 signed)) same
          ∙ ap (λ (t : Text). Ok (x.0, over x.1 t)) (sym (append-nil signed)));
    }
adds_none p parts n x false tests is = cc is

adds_line : (line : Text) (more : List Text) (p : Place) (parts : Parts) (n : ℕ) (x : Place × Parts) (o : Option Step) → step p line ≡ o
    → ((s : Step) → judge [] more s.place (put s.part line parts) (n + 1) ≡ Ok x → Adds more s.place (put s.part line parts) x)
    → goes_on o n (λ s. judge [] more s.place (put s.part line parts) (n + 1)) ≡ Ok x → Adds (line ∷ more) p parts x
adds_line line more p parts n x None steps each is = cc is
adds_line line more p parts n x (Some s) steps each is =
    let later = each s is in
    let here : Text = with_line s.part line [] in
    record {
      added = here ++ later.added;
      ends = later.ends ∙ ap (λ (t : Text). t ++ later.added)
          (ap (λ (parts : Parts). parts.signed) (put_over s.part line parts.signed parts) ∙ with_added s.part line parts.signed)
          ∙ append_assoc parts.signed here later.added;
      reads = λ signed m.
          ap (λ (o : Option Step). goes_on o m (λ s. judge [] more s.place (put s.part line (over parts signed)) (m + 1))) steps
          ∙ ap (λ (kept : Parts). judge [] more s.place kept (m + 1)) (put_over s.part line signed parts)
          ∙ later.reads (with_line s.part line signed) (m + 1)
          ∙ ap (λ (t : Text). Ok (x.0, over x.1 t)) (ap (λ (t : Text). t ++ later.added) (with_added s.part line signed)
          ∙ append_assoc signed here later.added);
    }

pub adds : (ls : List Text) (p : Place) (parts : Parts) (n : ℕ) (x : Place × Parts) → judge [] ls p parts n ≡ Ok x → Adds ls p parts x
adds [] p parts n x is = adds_none p parts n x (may_end p.want && true) refl is
adds (line ∷ more) p parts n x is =
    adds_line line more p parts n x (step p line) refl (λ s on. adds more s.place (put s.part line parts) (n + 1) x on) is

-- ---- the lines above

abbrev pub head_text : Option Text → Text → Text → Text
head_text None author committer = (ended tree_line ++ ended (codes "author " ++ author)) ++ ended (codes "committer " ++ committer)
head_text (Some id) author committer =
    ((ended tree_line ++ ended (codes "parent " ++ encode_lower id)) ++ ended (codes "author " ++ author)) ++ ended (codes "committer " ++ committer)

abbrev pub head_count : Option Text → ℕ
head_count None = 4
head_count (Some id) = 5

abbrev pub head_of : Option Text → Text → Text → List Text
head_of parent author committer = tree_line ∷ (parent_lines parent ++ (codes "author " ++ author) ∷ (codes "committer " ++ committer) ∷ [])

pub head_read : (parent : Option Text) (author committer : Text) (ls : List Text) → IsParent parent
    → judge [] (head_of parent author committer ++ ls) start no_parts 1 ≡ judge [] ls (at SignatureOrGap parent 0 0)
    (over no_parts (head_text parent author committer)) (head_count parent)
unfolding step
head_read None author committer ls is = refl
head_read (Some id) author committer ls is =
    ap (λ (o : Option Text). goes_on (parent_step o (codes "parent " ++ encode_lower id) (at ParentOrAuthor None 0 0)) 2
    (λ s. judge [] ((codes "author " ++ author) ∷ (codes "committer " ++ committer) ∷ ls) s.place
    (put s.part (codes "parent " ++ encode_lower id) (over no_parts (ended tree_line))) 3))
    (id_read (codes "parent ") id is)

pub head_joined : (parent : Option Text) (author committer : Text) → head_text parent author committer ≡ joined (head_of parent author committer)
head_joined None author committer =
    append_assoc (ended tree_line) (ended (codes "author " ++ author)) (ended (codes "committer " ++ committer))
    ∙ ap (λ (t : Text). ended tree_line ++ (ended (codes "author " ++ author) ++ t)) (sym (append-nil (ended (codes "committer " ++ committer))))
head_joined (Some id) author committer =
    append_assoc (ended tree_line ++ ended (codes "parent " ++ encode_lower id)) (ended (codes "author " ++ author))
    (ended (codes "committer " ++ committer))
    ∙ append_assoc (ended tree_line) (ended (codes "parent " ++ encode_lower id))
    (ended (codes "author " ++ author) ++ ended (codes "committer " ++ committer))
    ∙ ap (λ (t : Text). ended tree_line ++ (ended (codes "parent " ++ encode_lower id) ++ (ended (codes "author " ++ author) ++ t)))
    (sym (append-nil (ended (codes "committer " ++ committer))))

-- ---- no line has a line feed

both_plain : (a b : List Text) → AllPlain a → AllPlain b → AllPlain (a ++ b)
both_plain [] b of_a of_b = of_b
both_plain (l ∷ a) b of_a of_b = (of_a.0, both_plain a b of_a.1 of_b)

parents_plain : (parent : Option Text) → IsParent parent → AllPlain (parent_lines parent)
parents_plain None is = tt
parents_plain (Some id) is = (id_line_plain (codes "parent ") id refl is, tt)

head_plain : (parent : Option Text) (author committer : Text) → IsParent parent → Plain author → Plain committer
    → AllPlain (head_of parent author committer)
head_plain parent author committer is of_author of_committer = (
  refl,
  both_plain (parent_lines parent) ((codes "author " ++ author) ∷ (codes "committer " ++ committer) ∷ []) (parents_plain parent is)
      (no_byte 10 (codes "author ") author refl of_author, (no_byte 10 (codes "committer ") committer refl of_committer, tt)),
)

signatures_plain : (s : Option SignatureLine) → IsSigned s → AllPlain (signature_lines s)
signatures_plain None is = tt
signatures_plain (Some s) is = (signature_plain s (record { signer = is.0; some = is.1; bytes = is.2 }), tt)

ids_plain : (ids : List Text) (more : List Text) → AllByRecursion IsId ids → AllPlain more → AllPlain (map entry_line ids ++ more)
ids_plain [] more are rest = rest
ids_plain (id ∷ ids) more are rest = (id_line_plain (codes "entryID: ") id refl are.0, ids_plain ids more are.1 rest)

skip_plain : (skip : Bool) → Plain (skip_line skip)
skip_plain true = refl
skip_plain false = refl

body_plain : (body : EntryBody) (n : ℕ) → n ≤ 1000000 → IsValidBody body → AllPlain (body_lines body n)
body_plain (Reference name target) n most valid =
    let named : Plain (codes "ref: " ++ name) = no_byte 10 (codes "ref: ") name refl (name_plain name valid.0) in
    let leads : Plain (codes "targetID: " ++ encode_lower target) = id_line_plain (codes "targetID: ") target refl valid.1 in
    (refl, (refl, (named, (leads, (number_plain n most, tt)))))
body_plain (Annotation ids skip message) n most valid =
    (refl, (refl, ids_plain ids _ valid.0 (skip_plain skip, (number_plain n most, (message_runs message None 0 0 no_parts refl valid.1).plain))))

pub lines_plain : (d : Draft) (committer : Text) (s : Option SignatureLine) → IsDraft d → IsValid d → Plain committer → IsSigned s
    → AllPlain (entry_lines d committer s)
lines_plain d committer s is valid plain signed =
    both_plain (lines_above d committer) (signature_lines s ++ ([] ∷ body_lines d.body d.number))
    (head_plain d.parent d.author committer valid.0 is.author plain)
    (both_plain (signature_lines s) ([] ∷ body_lines d.body d.number) (signatures_plain s signed)
    (refl, body_plain d.body d.number is.head.most valid.1))
