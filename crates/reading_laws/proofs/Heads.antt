-- The lines above what an entry says: the tree's, a parent's or none, author and committer, a signature's or none.
use Rattle.std.proofs.Common.{◌≡◌, ℕ, ◌≤◌, ◌==◌, Bool, true, false, ◌||◌, List, [], ◌∷◌, ◌++◌}
use Rattle.std.proofs.Common.{Option, Some, None, refl, sym, ap, subst, ◌∙◌, arith, append_assoc}
use Rattle.std.specs.Prelude.{codes, nat_le}
use Rattle.std.specs.Str.{bytes_eq}
use Rattle.std.proofs.lemmas.Bool.{eqb-true, false≢true, leb-true}
use Rattle.base64.specs.GeneralPurpose.{IsBytes}
use Rattle.text_reader.specs.Line.{has_byte}
use Rattle.rsl_chain.specs.Chain.{IsHead}
use Rattle.rsl_chain.specs.Drafts.{IsDraft, IsParent, IsValid, body_lines, parent_lines, signature_line, signature_lines}
use Rattle.rsl_chain.specs.Grammar.{author_step, fits, parent_step, signature_step, start, step, tree_line}
use Rattle.rsl_chain.specs.Lines.{begins, id_after, signature_after}
use Rattle.rsl_chain.specs.declared.drafts.Draft.{Draft}
use Rattle.rsl_chain.specs.declared.places.Want.{Want}
use Rattle.rsl_chain.specs.declared.places.Want.TheVariants.{Author, Committer, Gap, ParentOrAuthor, SignatureOrGap, Title}
use Rattle.rsl_chain.specs.declared.words.SignatureLine.{SignatureLine}
use Rattle.rsl_chain.proofs.PlainLines.{Plain}
use Rattle.rsl_chain.proofs.Runs.{at}
use Rattle.reading_laws.specs.EntryTexts.{IsSigned, entry_lines}
use Rattle.reading_laws.proofs.Bodies.{Said, said_is}
use Rattle.reading_laws.proofs.LineTexts.{begins_is, id_line_is, same_text, signature_line_is}
use Rattle.reading_laws.proofs.LineWalks.{AreLines, OnStep, Walks, plain_on}
use Rattle.reading_laws.proofs.Messages.{both_lines}

abbrev Text : Type 0
Text = List ℕ

abbrev Parent : Type 0
Parent = Option Text

-- what stands behind a word is no line feed, where the line has none
plain_rest : (word rest : Text) → Plain (word ++ rest) → Plain rest
plain_rest [] rest none = none
plain_rest (c ∷ word) rest none = plain_rest word rest (later (c == 10) none)
  where
    later : (b : Bool) → (b || has_byte 10 (word ++ rest)) ≡ false → has_byte 10 (word ++ rest) ≡ false
    later true never = cc never
    later false is = is

-- from the signature's line on
record Below (parent : Parent) (ls : List Text) : Type 0 where
  pub signature : Option SignatureLine
  pub signed : IsSigned signature
  pub rest : List Text
  pub said : Said parent rest
  pub lines_are : ls ≡ signature_lines signature ++ ([] ∷ rest)

gap : (line : Text) (ls : List Text) (s : SignatureLine) (parent : Parent) (n k : ℕ) → line ≡ signature_line s → IsSigned (Some s) → AreLines ls
    → Walks ls (at Gap parent n k) → Below parent (line ∷ ls)
unfolding step
gap line [] s parent n k is signed are walk = absurd (false≢true walk)
gap line (next ∷ more) s parent n k is signed are walk =
    let on = plain_on (bytes_eq next []) Title (at Gap parent n k) (λ q. Walks more q) walk in
    record {
      signature = Some s;
      signed = signed;
      rest = more;
      said = said_is more parent n k are.1 on.1;
      lines_are = both_lines line (signature_line s) (next ∷ more) ([] ∷ more) is (ap (λ (t : Text). t ∷ more) (same_text next [] on.0));
    }

signature_on : (line : Text) (ls : List Text) (parent : Parent) (n k : ℕ) (o : Option SignatureLine) → signature_after line ≡ o → IsBytes line
    → AreLines ls
    → OnStep (signature_step o line (at SignatureOrGap parent n k)) (λ q. Walks ls q) → Below parent (line ∷ ls)
signature_on line ls parent n k (Some s) reads bytes are walk =
    let read = signature_line_is line s bytes reads in
    gap line ls s parent n k read.line_is (read.signer, read.some, read.bytes) are walk
signature_on line ls parent n k None reads bytes are walk =
    let on = plain_on (bytes_eq line []) Title (at SignatureOrGap parent n k) (λ q. Walks ls q) walk in
    record {
      signature = None;
      signed = tt;
      rest = ls;
      said = said_is ls parent n k are on.1;
      lines_are = ap (λ (t : Text). t ∷ ls) (same_text line [] on.0);
    }

signature_or_gap : (ls : List Text) (parent : Parent) (n k : ℕ) → AreLines ls → Walks ls (at SignatureOrGap parent n k) → Below parent ls
unfolding step
signature_or_gap [] parent n k are walk = absurd (false≢true walk)
signature_or_gap (line ∷ more) parent n k are walk = signature_on line more parent n k (signature_after line) refl are.0.1 are.1 walk

-- from the author's line on
record FromAuthor (parent : Parent) (ls : List Text) : Type 0 where
  pub author : Text
  pub committer : Text
  pub author_is : Plain author
  pub committer_is : Plain committer
  pub rest : List Text
  pub below : Below parent rest
  pub lines_are : ls ≡ (codes "author " ++ author) ∷ (codes "committer " ++ committer) ∷ rest

committer_on : (line author : Text) (ls : List Text) (parent : Parent) (n k : ℕ) → line ≡ codes "author " ++ author → Plain author → AreLines ls
    → Walks ls (at Committer parent n k) → FromAuthor parent (line ∷ ls)
unfolding step
committer_on line author [] parent n k is plain are walk = absurd (false≢true walk)
committer_on line author (next ∷ more) parent n k is plain are walk =
    let on = plain_on (begins (codes "committer ") next) SignatureOrGap (at Committer parent n k) (λ q. Walks more q) walk in
    let read = begins_is (codes "committer ") next on.0 in
    record {
      author = author;
      committer = read.0;
      author_is = plain;
      committer_is = plain_rest (codes "committer ") read.0 (subst Plain read.1 are.0.0);
      rest = more;
      below = signature_or_gap more parent n k are.1 on.1;
      lines_are = both_lines line (codes "author " ++ author) (next ∷ more) ((codes "committer " ++ read.0) ∷ more) is
          (ap (λ (t : Text). t ∷ more) read.1);
    }

author_on : (want : Want) (line : Text) (ls : List Text) (parent : Parent) (n k : ℕ) → AreLines (line ∷ ls)
    → OnStep (author_step line (at want parent n k)) (λ q. Walks ls q) → FromAuthor parent (line ∷ ls)
author_on want line ls parent n k are walk =
    let on = plain_on (begins (codes "author ") line) Committer (at want parent n k) (λ q. Walks ls q) walk in
    let read = begins_is (codes "author ") line on.0 in
    committer_on line read.0 ls parent n k read.1 (plain_rest (codes "author ") read.0 (subst Plain read.1 are.0.0)) are.1 on.1

author_is : (ls : List Text) (parent : Parent) (n k : ℕ) → AreLines ls → Walks ls (at Author parent n k) → FromAuthor parent ls
unfolding step
author_is [] parent n k are walk = absurd (false≢true walk)
author_is (line ∷ more) parent n k are walk = author_on Author line more parent n k are walk

-- from the parent's line on
record FromParent (ls : List Text) : Type 0 where
  pub parent : Parent
  pub parent_is : IsParent parent
  pub rest : List Text
  pub from_author : FromAuthor parent rest
  pub lines_are : ls ≡ parent_lines parent ++ rest

parent_on : (line : Text) (ls : List Text) (o : Option Text) → id_after (codes "parent ") line ≡ o → AreLines (line ∷ ls)
    → OnStep (parent_step o line (at ParentOrAuthor None 0 0)) (λ q. Walks ls q) → FromParent (line ∷ ls)
parent_on line ls None reads are walk = record {
  parent = None;
  parent_is = tt;
  rest = line ∷ ls;
  from_author = author_on ParentOrAuthor line ls None 0 0 are walk;
  lines_are = refl;
}
parent_on line ls (Some id) reads are walk =
    let read = id_line_is (codes "parent ") line id reads in
    record {
      parent = Some id;
      parent_is = read.1;
      rest = ls;
      from_author = author_is ls (Some id) 0 0 are.1 walk;
      lines_are = ap (λ (t : Text). t ∷ ls) read.0;
    }

parent_is : (ls : List Text) → AreLines ls → Walks ls (at ParentOrAuthor None 0 0) → FromParent ls
unfolding step
parent_is [] are walk = absurd (false≢true walk)
parent_is (line ∷ more) are walk = parent_on line more (id_after (codes "parent ") line) refl are walk

-- ---- the whole body

head_of_none : (n : ℕ) → (n == 1) ≡ true → IsHead (record { number = n; parent = None })
head_of_none n fitting =
    let one : n ≡ 1 = eqb-true n 1 fitting in
    record { some = omega (arith, one); most = omega (arith, one); first = (λ _. refl, λ _. one) }

head_of_some : (n : ℕ) (id : Text) → n ≤ 1000000 → nat_le 2 n ≡ true → IsHead (record { number = n; parent = Some id })
head_of_some n id most fitting =
    let two : 2 ≤ n = leb-true 2 n fitting in
    record { some = omega (arith, two); most = most; first = (λ one. absurd (omega (arith, one, two)), λ none. cc none) }

head_is : (n : ℕ) (parent : Parent) → n ≤ 1000000 → fits n parent ≡ true → IsHead (record { number = n; parent = parent })
head_is n None most fitting = head_of_none n fitting
head_is n (Some id) most fitting = head_of_some n id most fitting

-- a body's lines are those of a draft
pub record FromDraft (ls : List Text) : Type 0 where
  pub draft : Draft
  pub committer : Text
  pub signature : Option SignatureLine
  pub inside : IsDraft draft
  pub valid : IsValid draft
  pub one_line : Plain committer
  pub signed : IsSigned signature
  pub lines_are : ls ≡ entry_lines draft committer signature

drafted : (ls rest : List Text) → ls ≡ tree_line ∷ rest → FromParent rest → FromDraft ls
drafted ls rest is from =
    let author = from.from_author in
    let below = author.below in
    let said = below.said in
    record {
      draft = record { parent = from.parent; author = author.author; number = said.number; body = said.body };
      committer = author.committer;
      signature = below.signature;
      inside = record { head = head_is said.number from.parent said.most said.fitting; author = author.author_is; body = said.inside };
      valid = (from.parent_is, said.valid);
      one_line = author.committer_is;
      signed = below.signed;
      lines_are = is ∙ ap (λ (t : List Text). tree_line ∷ t)
          (from.lines_are ∙ ap (λ (t : List Text). parent_lines from.parent ++ t)
          (author.lines_are ∙ ap (λ (t : List Text). (codes "author " ++ author.author) ∷ (codes "committer " ++ author.committer) ∷ t)
          (below.lines_are ∙ ap (λ (t : List Text). signature_lines below.signature ++ ([] ∷ t)) said.lines_are))
          ∙ sym (append_assoc (parent_lines from.parent) ((codes "author " ++ author.author) ∷ (codes "committer " ++ author.committer) ∷ [])
          (signature_lines below.signature ++ ([] ∷ body_lines said.body said.number))));
    }

pub draft_is : (ls : List Text) → AreLines ls → Walks ls start → FromDraft ls
unfolding step
draft_is [] are walk = absurd (false≢true walk)
draft_is (line ∷ more) are walk =
    let on = plain_on (bytes_eq line tree_line) ParentOrAuthor start (λ q. Walks more q) walk in
    drafted (line ∷ more) more (ap (λ (t : Text). t ∷ more) (same_text line tree_line on.0)) (parent_is more are.1 on.1)
