-- No entry that is read names the log's own reference.
use Rattle.std.proofs.Common.{◌≡◌, ◌+◌, ◌&&◌, ℕ, Bool, true, false, not, List, [], ◌∷◌, ap, refl, sym, subst, ◌∙◌}
use Rattle.std.specs.Prelude.{IfSome, Option, Some, None, Result, Ok, Err, codes, if◌then◌else◌, nat_lt}
use Rattle.std.specs.Option.{option_and_then}
use Rattle.std.specs.Result.{result_ok}
use Rattle.std.specs.Str.{bytes_eq}
use Rattle.std.proofs.lemmas.Bool.{true≢false}
use Rattle.std.proofs.lemmas.Slice.Eq.{bytes_eq-Decides}
use Rattle.git_object.specs.Names.{is_ref_name, log_name}
use Rattle.git_object.specs.declared.kinds.Kind.{Kind}
use Rattle.git_object.specs.declared.kinds.Kind.TheVariants as kind
use Rattle.rsl_chain.specs.declared.entries.Entry.{Entry}
use Rattle.rsl_chain.specs.declared.entries.EntryBody.{EntryBody}
use Rattle.rsl_chain.specs.declared.entries.EntryBody.TheVariants.{Reference, Annotation}
use Rattle.rsl_chain.specs.Grammar.{author_step, first_id_step, fits, id_if, id_or_skip_step, id_step, name_step, number_if, number_step, parent_step, piece_or_end_step, piece_step, plain_if, row, signature_step, skip_step, start, step, target_step, title_step}
use Rattle.rsl_chain.specs.Growing.{NeverTheLog}
use Rattle.rsl_chain.specs.Lines.{lines, name_after, name_text, strip}
use Rattle.rsl_chain.specs.Logs.{entry_of_pair}
use Rattle.rsl_chain.specs.Reading.{Reading, at_end, body_from, entry_as, entry_from, goes_on, judge, no_parts, put, reading}
use Rattle.rsl_chain.specs.declared.parts.Parts.{Parts}
use Rattle.rsl_chain.specs.declared.places.Part.{Part}
use Rattle.rsl_chain.specs.declared.places.Part.TheVariants.{Nothing, Parent, Signature, Name, Target, Id, Skip, Number, Piece}
use Rattle.rsl_chain.specs.declared.places.Place.{Place}
use Rattle.rsl_chain.specs.declared.places.Step.{Step}
use Rattle.rsl_chain.specs.declared.places.Want.{Want}
use Rattle.rsl_chain.specs.declared.places.Want.TheVariants.{Tree, ParentOrAuthor, Author, Committer, SignatureOrGap, Gap, Title, ReferenceGap, ReferenceName, ReferenceTarget, ReferenceNumber, AnnotationGap, FirstId, IdOrSkip, AnnotationNumber, MessageOrEnd, FirstPiece, PieceOrMessageEnd, MessageEnd, End}
use Rattle.rsl_chain.specs.declared.words.SignatureLine.{SignatureLine}

-- another name than the log's
abbrev IsOther : List ℕ → Type 0
IsOther name = name ≡ log_name → ⊥

-- a name that a line says is another
abbrev SaysOther : Part → Type 0
SaysOther Nothing = Unit {0}
SaysOther (Parent id) = Unit {0}
SaysOther (Signature found) = Unit {0}
SaysOther (Name name) = IsOther name
SaysOther (Target id) = Unit {0}
SaysOther (Id id) = Unit {0}
SaysOther (Skip skip) = Unit {0}
SaysOther (Number n) = Unit {0}
SaysOther (Piece bytes) = Unit {0}

abbrev Takes : Option Step → Type 0
Takes found = IfSome found (λ s. SaysOther s.part)

plain : (so : Bool) (want : Want) (p : Place) → Takes (plain_if so want p)
plain true want p = tt
plain false want p = tt

parent : (found : Option (List ℕ)) (line : List ℕ) (p : Place) → Takes (parent_step found line p)
parent (Some id) line p = tt
parent None line p = plain _ Committer p

signed : (found : Option SignatureLine) (line : List ℕ) (p : Place) → Takes (signature_step found line p)
signed (Some found) line p = tt
signed None line p = plain _ Title p

titled : (reference annotation : Bool) (p : Place) → Takes (title_step reference annotation p)
titled true annotation p = tt
titled false annotation p = plain annotation AnnotationGap p

target : (found : Option (List ℕ)) (p : Place) → Takes (target_step found p)
target (Some id) p = tt
target None p = tt

fitting : (so : Bool) (want : Want) (n : ℕ) (p : Place) → Takes (number_if so want n p)
fitting true want n p = tt
fitting false want n p = tt

numbered : (want : Want) (found : Option ℕ) (p : Place) → Takes (number_step want found p)
numbered want (Some n) p = fitting (fits n p.parent) want n p
numbered want None p = tt

within : (so : Bool) (id : List ℕ) (p : Place) → Takes (id_if so id p)
within true id p = tt
within false id p = tt

first_id : (found : Option (List ℕ)) (p : Place) → Takes (first_id_step found p)
first_id (Some id) p = tt
first_id None p = tt

skips : (skip kept : Bool) (p : Place) → Takes (skip_step skip kept p)
skips true kept p = tt
skips false true p = tt
skips false false p = tt

next_id : (found : Option (List ℕ)) (line : List ℕ) (p : Place) → Takes (id_or_skip_step found line p)
next_id (Some id) line p = within (nat_lt p.ids 256) id p
next_id None line p = skips _ _ p

piece : (found : Option (List ℕ)) (full : Bool) (p : Place) → Takes (piece_step found full p)
piece (Some bytes) full p = tt
piece None full p = tt

piece_or_end : (ends : Bool) (line : List ℕ) (p : Place) → Takes (piece_or_end_step ends line p)
piece_or_end true line p = tt
piece_or_end false line p = piece _ _ p

-- the text of a name is another than the log's
other_text : (text : List ℕ) (named same : Bool) → bytes_eq text log_name ≡ same → IfSome (if named && not same then Some text else None) IsOther
other_text text false same is = tt
other_text text true true is = tt
other_text text true false is = λ log. true≢false (sym ((bytes_eq-Decides text log_name).1 log) ∙ is)

after_word : (found : Option (List ℕ)) → IfSome (option_and_then name_text found) IsOther
after_word None = tt
after_word (Some text) = other_text text (is_ref_name text) (bytes_eq text log_name) refl

named : (found : Option (List ℕ)) (p : Place) → IfSome found IsOther → Takes (name_step found p)
named (Some name) p other = other
named None p other = tt

rows : (want : Want) (line : List ℕ) (p : Place) → Takes (row want line p)
rows Tree line p = plain _ ParentOrAuthor p
rows ParentOrAuthor line p = parent _ line p
rows Author line p = plain _ Committer p
rows Committer line p = plain _ SignatureOrGap p
rows SignatureOrGap line p = signed _ line p
rows Gap line p = plain _ Title p
rows Title line p = titled _ _ p
rows ReferenceGap line p = plain _ ReferenceName p
rows ReferenceName line p = named (name_after line) p (after_word (strip (codes "ref: ") line))
rows ReferenceTarget line p = target _ p
rows ReferenceNumber line p = numbered End _ p
rows AnnotationGap line p = plain _ FirstId p
rows FirstId line p = first_id _ p
rows IdOrSkip line p = next_id _ line p
rows AnnotationNumber line p = numbered MessageOrEnd _ p
rows MessageOrEnd line p = plain _ FirstPiece p
rows FirstPiece line p = piece _ _ p
rows PieceOrMessageEnd line p = piece_or_end _ line p
rows MessageEnd line p = plain _ End p
rows End line p = tt

taken : (p : Place) (line : List ℕ) → Takes (step p line)
unfolding step
taken p line = rows p.want line p

-- ---- the parts that were read

abbrev HasOther : Parts → Type 0
HasOther parts = IfSome parts.name IsOther

with_other : (part : Part) (line : List ℕ) (parts : Parts) → SaysOther part → HasOther parts → HasOther (put part line parts)
with_other Nothing line parts says has = has
with_other (Parent id) line parts says has = has
with_other (Signature found) line parts says has = has
with_other (Name name) line parts says has = says
with_other (Target id) line parts says has = has
with_other (Id id) line parts says has = has
with_other (Skip skip) line parts says has = has
with_other (Number n) line parts says has = has
with_other (Piece bytes) line parts says has = has

abbrev ReadsOther : Reading → Type 0
ReadsOther (Ok read) = HasOther read.1
ReadsOther (Err n) = Unit {0}

ended : (may : Bool) (p : Place) (parts : Parts) (n : ℕ) → HasOther parts → ReadsOther (at_end may p parts n)
ended true p parts n has = has
ended false p parts n has = tt

stepped : (found : Option Step) (n : ℕ) (more : Step → Reading) → Takes found → ((s : Step) → SaysOther s.part → ReadsOther (more s)) → ReadsOther (goes_on found n more)
stepped None n more takes each = tt
stepped (Some s) n more takes each = each s takes

judged : (tail : List ℕ) (lines : List (List ℕ)) (p : Place) (parts : Parts) (n : ℕ) → HasOther parts → ReadsOther (judge tail lines p parts n)
judged tail [] p parts n has = ended _ p parts n has
judged tail (line ∷ more) p parts n has =
    stepped (step p line) n (λ s. judge tail more s.place (put s.part line parts) (n + 1)) (taken p line)
    (λ s says. judged tail more s.place (put s.part line parts) (n + 1) (with_other s.part line parts says has))

abbrev BodyOther : EntryBody → Type 0
BodyOther (Reference name target) = IsOther name
BodyOther (Annotation ids skip message) = Unit {0}

from_name : (name : Option (List ℕ)) (at : List ℕ) (ids : List (List ℕ)) (skip : Bool) (message : List ℕ) → IfSome name IsOther → BodyOther (body_from name at ids skip message)
from_name (Some name) at ids skip message other = other
from_name None at ids skip message other = tt

entry_other : (id : List ℕ) (read : Reading) (entry : Entry) → ReadsOther read → result_ok (entry_as id read) ≡ Some entry → BodyOther entry.body
entry_other id (Ok read) entry other is =
    let same : entry_from id read ≡ entry = cc is in
    subst (λ (e : Entry). BodyOther e.body) same (from_name read.1.name read.1.target read.1.ids read.1.skip read.1.message other)
entry_other id (Err n) entry other is = let bad : None ≡ Some entry = is in cc

pair_other : (id : List ℕ) (k : Kind) (body : List ℕ) (entry : Entry) → entry_of_pair id k body ≡ Some entry → BodyOther entry.body
pair_other id kind.Commit body entry is = entry_other id (reading body) entry (judged (lines body).1 (lines body).0 start no_parts 1 tt) is
pair_other id kind.Blob body entry is = let bad : None ≡ Some entry = is in cc
pair_other id kind.Tree body entry is = let bad : None ≡ Some entry = is in cc
pair_other id kind.Tag body entry is = let bad : None ≡ Some entry = is in cc

pub never_the_log : NeverTheLog
never_the_log id k body entry name at read is = subst BodyOther is (pair_other id k body entry read)
