-- The body of a log entry's commit, line by line: for each place which lines may stand there, what they say, and which
-- place is next.
use Rattle.std.specs.Prelude.{ℕ, ◌==◌, ◌+◌, Bool, true, false, List, [], Option, Some, None, nat_le, nat_lt, codes}
use Rattle.std.specs.Str.{bytes_eq}
use Rattle.rsl_chain.specs.Lines.{begins, id_after, is_full, name_after, number_after, piece_text, signature_after}
use Rattle.rsl_chain.specs.declared.places.Part.{Part}
use Rattle.rsl_chain.specs.declared.places.Part.TheVariants.{Nothing, Parent, Signature, Name, Target, Id, Skip, Number}
use Rattle.rsl_chain.specs.declared.places.Part.TheVariants.{Piece}
use Rattle.rsl_chain.specs.declared.places.Place.{Place}
use Rattle.rsl_chain.specs.declared.places.Step.{Step}
use Rattle.rsl_chain.specs.declared.places.Want.{Want}
use Rattle.rsl_chain.specs.declared.places.Want.TheVariants.{Tree, ParentOrAuthor, Author, Committer, SignatureOrGap}
use Rattle.rsl_chain.specs.declared.places.Want.TheVariants.{Gap, Title, ReferenceGap, ReferenceName, ReferenceTarget}
use Rattle.rsl_chain.specs.declared.places.Want.TheVariants.{ReferenceNumber, AnnotationGap, FirstId, IdOrSkip}
use Rattle.rsl_chain.specs.declared.places.Want.TheVariants.{AnnotationNumber, MessageOrEnd, FirstPiece}
use Rattle.rsl_chain.specs.declared.places.Want.TheVariants.{PieceOrMessageEnd, MessageEnd, End}
use Rattle.rsl_chain.specs.declared.words.SignatureLine.{SignatureLine}

-- the empty tree's line: an entry has no files
abbrev pub tree_line : List ℕ
tree_line = codes "tree 6ef19b41225c5369f1c104d45d8d85efa9b057b53b14b4b9b939dd74decc5321"

abbrev pub message_begin : List ℕ
message_begin = codes "-----BEGIN MESSAGE-----"

abbrev pub message_end : List ℕ
message_end = codes "-----END MESSAGE-----"

-- before the first line
abbrev pub start : Place
start = record { want = Tree; parent = None; number = 0; ids = 0 }

-- on to another place, with what the line says
abbrev pub goes : Want → Part → Place → Option Step
goes want part p = Some (record {
  place = record { want = want; parent = p.parent; number = p.number; ids = p.ids };
  part = part;
})

-- a line that says nothing more, where a test of it holds
abbrev pub plain_if : Bool → Want → Place → Option Step
plain_if true want p = goes want Nothing p
plain_if false want p = None

abbrev pub author_step : List ℕ → Place → Option Step
author_step line p = plain_if (begins (codes "author ") line) Committer p

-- the line of the parent, or else at once that of the author
abbrev pub parent_step : Option (List ℕ) → List ℕ → Place → Option Step
parent_step (Some id) line p =
    Some (record {
      place = record { want = Author; parent = Some id; number = p.number; ids = p.ids };
      part = Parent id;
    })
parent_step None line p = author_step line p

-- the line of the signature, or else at once the gap
abbrev pub signature_step : Option SignatureLine → List ℕ → Place → Option Step
signature_step (Some found) line p = goes Gap (Signature found) p
signature_step None line p = plain_if (bytes_eq line []) Title p

-- the title of a reference entry, or that of an annotation
abbrev pub title_step : Bool → Bool → Place → Option Step
title_step true annotation p = goes ReferenceGap Nothing p
title_step false annotation p = plain_if annotation AnnotationGap p

abbrev pub name_step : Option (List ℕ) → Place → Option Step
name_step (Some name) p = goes ReferenceTarget (Name name) p
name_step None p = None

abbrev pub target_step : Option (List ℕ) → Place → Option Step
target_step (Some id) p = goes ReferenceNumber (Target id) p
target_step None p = None

-- a number from 1 on: 1 exactly where there is no parent
abbrev pub fits : ℕ → Option (List ℕ) → Bool
fits n None = n == 1
fits n (Some parent) = nat_le 2 n

abbrev pub number_if : Bool → Want → ℕ → Place → Option Step
number_if true want n p = Some (record {
  place = record { want = want; parent = p.parent; number = n; ids = p.ids };
  part = Number n;
})
number_if false want n p = None

abbrev pub number_step : Want → Option ℕ → Place → Option Step
number_step want (Some n) p = number_if (fits n p.parent) want n p
number_step want None p = None

-- one more id, of which there are at most 256
abbrev pub id_if : Bool → List ℕ → Place → Option Step
id_if true id p = Some (record {
  place = record {
    want = IdOrSkip;
    parent = p.parent;
    number = p.number;
    ids = p.ids + 1;
  };
  part = Id id;
})
id_if false id p = None

abbrev pub first_id_step : Option (List ℕ) → Place → Option Step
first_id_step (Some id) p = Some
    (record { place = record { want = IdOrSkip; parent = p.parent; number = p.number; ids = 1 }; part = Id id })
first_id_step None p = None

abbrev pub id_step : Option (List ℕ) → Place → Option Step
id_step (Some id) p = id_if (nat_lt p.ids 256) id p
id_step None p = None

-- whether the entries of these ids are skipped
abbrev pub skip_step : Bool → Bool → Place → Option Step
skip_step true kept p = goes AnnotationNumber (Skip true) p
skip_step false true p = goes AnnotationNumber (Skip false) p
skip_step false false p = None

abbrev pub id_or_skip_step : Option (List ℕ) → List ℕ → Place → Option Step
id_or_skip_step (Some id) line p = id_step (Some id) p
id_or_skip_step None line p = skip_step (bytes_eq line (codes "skip: true")) (bytes_eq line (codes "skip: false")) p

-- a line of a message: after a full one others may follow
abbrev pub piece_want : Bool → Want
piece_want true = PieceOrMessageEnd
piece_want false = MessageEnd

abbrev pub piece_step : Option (List ℕ) → Bool → Place → Option Step
piece_step (Some bytes) full p = goes (piece_want full) (Piece bytes) p
piece_step None full p = None

abbrev pub piece_or_end_step : Bool → List ℕ → Place → Option Step
piece_or_end_step true line p = goes End Nothing p
piece_or_end_step false line p = piece_step (piece_text line) (is_full line) p

-- the table: one row for each place
abbrev pub row : Want → List ℕ → Place → Option Step
row Tree line p = plain_if (bytes_eq line tree_line) ParentOrAuthor p
row ParentOrAuthor line p = parent_step (id_after (codes "parent ") line) line p
row Author line p = author_step line p
row Committer line p = plain_if (begins (codes "committer ") line) SignatureOrGap p
row SignatureOrGap line p = signature_step (signature_after line) line p
row Gap line p = plain_if (bytes_eq line []) Title p
row Title line p = title_step (bytes_eq line (codes "RSL Reference Entry"))
    (bytes_eq line (codes "RSL Annotation Entry")) p
row ReferenceGap line p = plain_if (bytes_eq line []) ReferenceName p
row ReferenceName line p = name_step (name_after line) p
row ReferenceTarget line p = target_step (id_after (codes "targetID: ") line) p
row ReferenceNumber line p = number_step End (number_after line) p
row AnnotationGap line p = plain_if (bytes_eq line []) FirstId p
row FirstId line p = first_id_step (id_after (codes "entryID: ") line) p
row IdOrSkip line p = id_or_skip_step (id_after (codes "entryID: ") line) line p
row AnnotationNumber line p = number_step MessageOrEnd (number_after line) p
row MessageOrEnd line p = plain_if (bytes_eq line message_begin) FirstPiece p
row FirstPiece line p = piece_step (piece_text line) (is_full line) p
row PieceOrMessageEnd line p = piece_or_end_step (bytes_eq line message_end) line p
row MessageEnd line p = plain_if (bytes_eq line message_end) End p
row End line p = None

-- the step that a line takes from a place
unfoldable pub step : Place → List ℕ → Option Step
step p line = row p.want line p

-- whether a body may end at the place
abbrev pub may_end : Want → Bool
may_end Tree = false
may_end ParentOrAuthor = false
may_end Author = false
may_end Committer = false
may_end SignatureOrGap = false
may_end Gap = false
may_end Title = false
may_end ReferenceGap = false
may_end ReferenceName = false
may_end ReferenceTarget = false
may_end ReferenceNumber = false
may_end AnnotationGap = false
may_end FirstId = false
may_end IdOrSkip = false
may_end AnnotationNumber = false
may_end MessageOrEnd = true
may_end FirstPiece = false
may_end PieceOrMessageEnd = false
may_end MessageEnd = false
may_end End = true
