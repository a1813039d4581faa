-- The lines of what an entry says are those of a reference's value or of an annotation.
use Rattle.std.proofs.Common.{◌≡◌, ℕ, ◌+◌, ◌<◌, ◌≤◌, Bool, true, false, List, [], ◌∷◌, ◌++◌, map, length, Option}
use Rattle.std.proofs.Common.{Some, None, refl, sym, ap, subst, ◌∙◌, arith}
use Rattle.std.specs.Prelude.{codes, nat_lt}
use Rattle.std.specs.List.{AllByRecursion}
use Rattle.std.specs.Str.{bytes_eq}
use Rattle.std.proofs.lemmas.Bool.{false≢true, ltb-true}
use Rattle.base64.specs.GeneralPurpose.{IsBytes}
use Rattle.hex.specs.Hex.{encode_lower}
use Rattle.git_object.specs.Ids.{IsId}
use Rattle.git_object.specs.Names.{IsRefName, log_name}
use Rattle.rsl_chain.specs.Drafts.{IsBody, IsValidBody, body_lines, entry_line, message_lines, number_line, skip_line}
use Rattle.rsl_chain.specs.Grammar.{first_id_step, fits, id_if, id_or_skip_step, name_step, skip_step, step, target_step, title_step}
use Rattle.rsl_chain.specs.Lines.{id_after, name_after, number_after}
use Rattle.rsl_chain.specs.declared.entries.EntryBody.{EntryBody}
use Rattle.rsl_chain.specs.declared.entries.EntryBody.TheVariants.{Reference, Annotation}
use Rattle.rsl_chain.specs.declared.places.Place.{Place}
use Rattle.rsl_chain.specs.declared.places.Want.TheVariants.{AnnotationGap, AnnotationNumber, End, FirstId, IdOrSkip}
use Rattle.rsl_chain.specs.declared.places.Want.TheVariants.{MessageOrEnd, ReferenceGap, ReferenceName}
use Rattle.rsl_chain.specs.declared.places.Want.TheVariants.{ReferenceNumber, ReferenceTarget, Title}
use Rattle.rsl_chain.proofs.Runs.{at}
use Rattle.reading_laws.proofs.LineTexts.{id_line_is, name_line_is, number_line_is, same_text}
use Rattle.reading_laws.proofs.LineWalks.{AreLines, OnStep, Walks, number_on, plain_on}
use Rattle.reading_laws.proofs.Messages.{at_end_lines, both_lines, message_is}

abbrev Text : Type 0
Text = List ℕ

abbrev Parent : Type 0
Parent = Option Text

-- ---- a reference's value

record Numbered (parent : Parent) (ls : List Text) : Type 0 where
  pub number : ℕ
  pub fitting : fits number parent ≡ true
  pub most : number ≤ 1000000
  pub lines_are : ls ≡ number_line number ∷ []

reference_number : (ls : List Text) (parent : Parent) (n k : ℕ) → Walks ls (at ReferenceNumber parent n k) → Numbered parent ls
unfolding step
reference_number [] parent n k walk = absurd (false≢true walk)
reference_number (line ∷ more) parent n k walk =
    let on = number_on End (number_after line) (at ReferenceNumber parent n k) (λ q. Walks more q) walk in
    let read = number_line_is line on.number on.reads in
    record {
      number = on.number;
      fitting = on.fitting;
      most = read.1;
      lines_are = both_lines line (number_line on.number) more [] read.0 (at_end_lines more parent on.number k on.on);
    }

record Targeted (parent : Parent) (ls : List Text) : Type 0 where
  pub target : Text
  pub target_is : IsId target
  pub rest : List Text
  pub numbered : Numbered parent rest
  pub lines_are : ls ≡ (codes "targetID: " ++ encode_lower target) ∷ rest

target_on : (line : Text) (more : List Text) (parent : Parent) (n k : ℕ) (o : Option Text) → id_after (codes "targetID: ") line ≡ o
    → OnStep (target_step o (at ReferenceTarget parent n k)) (λ q. Walks more q) → Targeted parent (line ∷ more)
target_on line more parent n k None reads on = absurd on
target_on line more parent n k (Some id) reads on =
    let read = id_line_is (codes "targetID: ") line id reads in
    record {
      target = id;
      target_is = read.1;
      rest = more;
      numbered = reference_number more parent n k on;
      lines_are = ap (λ (t : Text). t ∷ more) read.0;
    }

reference_target : (ls : List Text) (parent : Parent) (n k : ℕ) → Walks ls (at ReferenceTarget parent n k) → Targeted parent ls
unfolding step
reference_target [] parent n k walk = absurd (false≢true walk)
reference_target (line ∷ more) parent n k walk = target_on line more parent n k (id_after (codes "targetID: ") line) refl walk

-- what stands behind the gap of a reference entry
record Recorded (parent : Parent) (ls : List Text) : Type 0 where
  pub name : Text
  pub target : Text
  pub number : ℕ
  pub fitting : fits number parent ≡ true
  pub most : number ≤ 1000000
  pub named : IsRefName name
  pub target_is : IsId target
  pub other : name ≡ log_name → ⊥
  pub lines_are : ls ≡ (codes "ref: " ++ name) ∷ (codes "targetID: " ++ encode_lower target) ∷ number_line number ∷ []

name_on : (line : Text) (more : List Text) (parent : Parent) (n k : ℕ) (o : Option Text) → name_after line ≡ o
    → OnStep (name_step o (at ReferenceName parent n k)) (λ q. Walks more q) → Recorded parent (line ∷ more)
name_on line more parent n k None reads on = absurd on
name_on line more parent n k (Some name) reads on =
    let read = name_line_is line name reads in
    let rest = reference_target more parent n k on in
    record {
      name = name;
      target = rest.target;
      number = rest.numbered.number;
      fitting = rest.numbered.fitting;
      most = rest.numbered.most;
      named = read.1;
      target_is = rest.target_is;
      other = read.2;
      lines_are = both_lines line (codes "ref: " ++ name) more
          ((codes "targetID: " ++ encode_lower rest.target) ∷ number_line rest.numbered.number ∷ []) read.0
          (rest.lines_are ∙ ap (λ (ls : List Text). (codes "targetID: " ++ encode_lower rest.target) ∷ ls) rest.numbered.lines_are);
    }

reference_name : (ls : List Text) (parent : Parent) (n k : ℕ) → Walks ls (at ReferenceName parent n k) → Recorded parent ls
unfolding step
reference_name [] parent n k walk = absurd (false≢true walk)
reference_name (line ∷ more) parent n k walk = name_on line more parent n k (name_after line) refl walk

-- what an entry says, from its title on
pub record Said (parent : Parent) (ls : List Text) : Type 0 where
  pub body : EntryBody
  pub number : ℕ
  pub fitting : fits number parent ≡ true
  pub most : number ≤ 1000000
  pub inside : IsBody body
  pub valid : IsValidBody body
  pub lines_are : ls ≡ body_lines body number

reference_gap : (ls : List Text) (parent : Parent) (n k : ℕ) → Walks ls (at ReferenceGap parent n k) → Said parent (codes "RSL Reference Entry" ∷ ls)
unfolding step
reference_gap [] parent n k walk = absurd (false≢true walk)
reference_gap (line ∷ more) parent n k walk =
    let on = plain_on (bytes_eq line []) ReferenceName (at ReferenceGap parent n k) (λ q. Walks more q) walk in
    let read = reference_name more parent n k on.1 in
    record {
      body = Reference read.name read.target;
      number = read.number;
      fitting = read.fitting;
      most = read.most;
      inside = read.other;
      valid = (read.named, read.target_is);
      lines_are = ap (λ (ls : List Text). codes "RSL Reference Entry" ∷ ls)
          (both_lines line [] more ((codes "ref: " ++ read.name) ∷ (codes "targetID: " ++ encode_lower read.target) ∷ number_line read.number ∷ [])
          (same_text line [] on.0) read.lines_are);
    }

-- ---- an annotation

-- what stands behind so many ids
record Annotated (parent : Parent) (k : ℕ) (ls : List Text) : Type 0 where
  pub ids : List Text
  pub skip : Bool
  pub message : Text
  pub number : ℕ
  pub fitting : fits number parent ≡ true
  pub most : number ≤ 1000000
  pub are : AllByRecursion IsId ids
  pub few : k + length ids ≤ 256
  pub bytes : IsBytes message
  pub lines_are : ls ≡ map entry_line ids ++ (skip_line skip ∷ number_line number ∷ message_lines message)

annotation_number : (line : Text) (skip : Bool) (ls : List Text) (parent : Parent) (n k : ℕ) → k ≤ 256 → line ≡ skip_line skip → AreLines ls
    → Walks ls (at AnnotationNumber parent n k) → Annotated parent k (line ∷ ls)
unfolding step
annotation_number line skip [] parent n k few skips are walk = absurd (false≢true walk)
annotation_number line skip (next ∷ more) parent n k few skips are walk =
    let on = number_on MessageOrEnd (number_after next) (at AnnotationNumber parent n k) (λ q. Walks more q) walk in
    let read = number_line_is next on.number on.reads in
    let told = message_is more parent on.number k are.1 on.on in
    record {
      ids = [];
      skip = skip;
      message = told.message;
      number = on.number;
      fitting = on.fitting;
      most = read.1;
      are = tt;
      few = omega (arith, few);
      bytes = told.are;
      lines_are = both_lines line (skip_line skip) (next ∷ more) (number_line on.number ∷ message_lines told.message) skips
          (both_lines next (number_line on.number) more (message_lines told.message) read.0 told.lines_are);
    }

skip_on : (line : Text) (skip kept : Bool) (ls : List Text) (parent : Parent) (n k : ℕ) → k ≤ 256 → bytes_eq line (codes "skip: true") ≡ skip
    → bytes_eq line (codes "skip: false") ≡ kept → AreLines ls
    → OnStep (skip_step skip kept (at IdOrSkip parent n k)) (λ q. Walks ls q) → Annotated parent k (line ∷ ls)
skip_on line true kept ls parent n k few skips keeps are walk =
    annotation_number line true ls parent n k few (same_text line (codes "skip: true") skips) are walk
skip_on line false true ls parent n k few skips keeps are walk =
    annotation_number line false ls parent n k few (same_text line (codes "skip: false") keeps) are walk
skip_on line false false ls parent n k few skips keeps are walk = absurd walk

one_id : (line id : Text) (ls : List Text) (parent : Parent) (k : ℕ) → (line ≡ codes "entryID: " ++ encode_lower id) × IsId id
    → Annotated parent (k + 1) ls → Annotated parent k (line ∷ ls)
one_id line id ls parent k read rest = record {
  ids = id ∷ rest.ids;
  skip = rest.skip;
  message = rest.message;
  number = rest.number;
  fitting = rest.fitting;
  most = rest.most;
  are = (read.1, rest.are);
  few = fewer rest.few;
  bytes = rest.bytes;
  lines_are = both_lines line (entry_line id) ls
      (map entry_line rest.ids ++ (skip_line rest.skip ∷ number_line rest.number ∷ message_lines rest.message)) read.0 rest.lines_are;
}
  where
    fewer : k + 1 + length rest.ids ≤ 256 → k + length (id ∷ rest.ids) ≤ 256
    fewer few = omega (arith, few)

id_test : (b : Bool) (id : Text) (p : Place) (P : Place → Type 0) → OnStep (id_if b id p) P
    → (b ≡ true) × P (at IdOrSkip p.parent p.number (p.ids + 1))
id_test true id p P on = (refl, on)
id_test false id p P on = absurd on

id_on : (line : Text) (ls : List Text) (parent : Parent) (n k : ℕ) (o : Option Text) → k ≤ 256 → id_after (codes "entryID: ") line ≡ o → AreLines ls
    → ((m : ℕ) → m ≤ 256 → Walks ls (at IdOrSkip parent n m) → Annotated parent m ls) → OnStep (id_or_skip_step o line (at IdOrSkip parent n k))
    (λ q. Walks ls q) → Annotated parent k (line ∷ ls)
id_on line ls parent n k None few reads are others walk =
    skip_on line (bytes_eq line (codes "skip: true")) (bytes_eq line (codes "skip: false")) ls parent n k few refl refl are walk
id_on line ls parent n k (Some id) few reads are others walk =
    let on = id_test (nat_lt k 256) id (at IdOrSkip parent n k) (λ q. Walks ls q) walk in
    let less : k < 256 = ltb-true k 256 on.0 in
    one_id line id ls parent k (id_line_is (codes "entryID: ") line id reads) (others (k + 1) (omega (arith, less)) on.1)

id_or_skip : (ls : List Text) (parent : Parent) (n k : ℕ) → k ≤ 256 → AreLines ls → Walks ls (at IdOrSkip parent n k) → Annotated parent k ls
unfolding step
id_or_skip [] parent n k few are walk = absurd (false≢true walk)
id_or_skip (line ∷ more) parent n k few are walk =
    id_on line more parent n k (id_after (codes "entryID: ") line) few refl are.1 (λ m within on. id_or_skip more parent n m within are.1 on) walk

first_on : (line : Text) (ls : List Text) (parent : Parent) (n k : ℕ) (o : Option Text) → id_after (codes "entryID: ") line ≡ o → AreLines ls
    → OnStep (first_id_step o (at FirstId parent n k)) (λ q. Walks ls q) → Said parent (codes "RSL Annotation Entry" ∷ [] ∷ line ∷ ls)
first_on line ls parent n k None reads are walk = absurd walk
first_on line ls parent n k (Some id) reads are walk =
    let read = id_line_is (codes "entryID: ") line id reads in
    let rest = id_or_skip ls parent n 1 (omega arith) are walk in
    record {
      body = Annotation (id ∷ rest.ids) rest.skip rest.message;
      number = rest.number;
      fitting = rest.fitting;
      most = rest.most;
      inside = (omega arith, within rest.ids rest.few);
      valid = ((read.1, rest.are), rest.bytes);
      lines_are = ap (λ (ls : List Text). codes "RSL Annotation Entry" ∷ [] ∷ ls)
          (both_lines line (entry_line id) ls
          (map entry_line rest.ids ++ (skip_line rest.skip ∷ number_line rest.number ∷ message_lines rest.message)) read.0 rest.lines_are);
    }
  where
    within : (ids : List Text) → 1 + length ids ≤ 256 → length (id ∷ ids) ≤ 256
    within ids few = omega (arith, few)

first_id : (line : Text) (ls : List Text) (parent : Parent) (n k : ℕ) → line ≡ [] → AreLines ls → Walks ls (at FirstId parent n k)
    → Said parent (codes "RSL Annotation Entry" ∷ line ∷ ls)
unfolding step
first_id line [] parent n k empty are walk = absurd (false≢true walk)
first_id line (next ∷ more) parent n k empty are walk =
    subst (λ (t : Text). Said parent (codes "RSL Annotation Entry" ∷ t ∷ next ∷ more)) (sym empty)
    (first_on next more parent n k (id_after (codes "entryID: ") next) refl are.1 walk)

annotation_gap : (ls : List Text) (parent : Parent) (n k : ℕ) → AreLines ls → Walks ls (at AnnotationGap parent n k)
    → Said parent (codes "RSL Annotation Entry" ∷ ls)
unfolding step
annotation_gap [] parent n k are walk = absurd (false≢true walk)
annotation_gap (line ∷ more) parent n k are walk =
    let on = plain_on (bytes_eq line []) FirstId (at AnnotationGap parent n k) (λ q. Walks more q) walk in
    first_id line more parent n k (same_text line [] on.0) are.1 on.1

-- ---- the title

title_on : (line : Text) (ls : List Text) (parent : Parent) (n k : ℕ) (reference annotation : Bool)
    → bytes_eq line (codes "RSL Reference Entry") ≡ reference → bytes_eq line (codes "RSL Annotation Entry") ≡ annotation
    → AreLines ls → OnStep (title_step reference annotation (at Title parent n k)) (λ q. Walks ls q) → Said parent (line ∷ ls)
title_on line ls parent n k true annotation is other are walk =
    subst (λ (t : Text). Said parent (t ∷ ls)) (sym (same_text line (codes "RSL Reference Entry") is)) (reference_gap ls parent n k walk)
title_on line ls parent n k false true is other are walk =
    subst (λ (t : Text). Said parent (t ∷ ls)) (sym (same_text line (codes "RSL Annotation Entry") other)) (annotation_gap ls parent n k are walk)
title_on line ls parent n k false false is other are walk = absurd walk

pub said_is : (ls : List Text) (parent : Parent) (n k : ℕ) → AreLines ls → Walks ls (at Title parent n k) → Said parent ls
unfolding step
said_is [] parent n k are walk = absurd (false≢true walk)
said_is (line ∷ more) parent n k are walk =
    title_on line more parent n k (bytes_eq line (codes "RSL Reference Entry")) (bytes_eq line (codes "RSL Annotation Entry")) refl refl are.1 walk
