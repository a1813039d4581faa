-- The reading of an entry's body: the table over its lines, from the first to the first that is not as wanted.
use Rattle.std.specs.Prelude.{◌≡◌, ℕ, ◌+◌, ◌==◌, ◌&&◌, ◌++◌, Bool, true, false, List, [], ◌∷◌, length, Option, Some}
use Rattle.std.specs.Prelude.{None, Result, Ok, Err}
use Rattle.git_object.specs.Ids.{zeros}
use Rattle.git_object.specs.Objects.{object_id}
use Rattle.git_object.specs.declared.kinds.Kind.TheVariants.{Commit}
use Rattle.rsl_chain.specs.declared.entries.Entry.{Entry}
use Rattle.rsl_chain.specs.declared.entries.EntryBody.{EntryBody}
use Rattle.rsl_chain.specs.declared.entries.EntryBody.TheVariants.{Reference, Annotation}
use Rattle.rsl_chain.specs.Grammar.{may_end, start, step}
use Rattle.rsl_chain.specs.Lines.{lines}
use Rattle.rsl_chain.specs.declared.entry_faults.EntryFault.{EntryFault}
use Rattle.rsl_chain.specs.declared.entry_faults.EntryFault.TheVariants.{BadEntry, Memory}
use Rattle.rsl_chain.specs.declared.parts.Parts.{Parts}
use Rattle.rsl_chain.specs.declared.places.Part.{Part}
use Rattle.rsl_chain.specs.declared.places.Part.TheVariants.{Nothing, Parent, Signature, Name, Target, Id, Skip, Number}
use Rattle.rsl_chain.specs.declared.places.Part.TheVariants.{Piece}
use Rattle.rsl_chain.specs.declared.places.Place.{Place}
use Rattle.rsl_chain.specs.declared.places.Step.{Step}

-- ---- the parts

-- before the first line
abbrev pub no_parts : Parts
no_parts = record {
  signer = None;
  signature = [];
  name = None;
  target = zeros;
  ids = [];
  skip = false;
  message = [];
  signed = [];
}

-- what is signed, with one more line: each line but that of the signature
abbrev pub with_line : Part → List ℕ → List ℕ → List ℕ
with_line Nothing line signed = signed ++ (line ++ 10 ∷ [])
with_line (Parent id) line signed = signed ++ (line ++ 10 ∷ [])
with_line (Signature found) line signed = signed
with_line (Name name) line signed = signed ++ (line ++ 10 ∷ [])
with_line (Target id) line signed = signed ++ (line ++ 10 ∷ [])
with_line (Id id) line signed = signed ++ (line ++ 10 ∷ [])
with_line (Skip skip) line signed = signed ++ (line ++ 10 ∷ [])
with_line (Number n) line signed = signed ++ (line ++ 10 ∷ [])
with_line (Piece bytes) line signed = signed ++ (line ++ 10 ∷ [])

-- the parts with what a line says
abbrev pub with_part : Part → Parts → Parts
with_part Nothing parts = parts
with_part (Parent id) parts = parts
with_part (Signature found) parts = record parts { signer = Some found.signer; signature = found.signature }
with_part (Name name) parts = record parts { name = Some name }
with_part (Target id) parts = record parts { target = id }
with_part (Id id) parts = record parts { ids = parts.ids ++ id ∷ [] }
with_part (Skip skip) parts = record parts { skip = skip }
with_part (Number n) parts = parts
with_part (Piece bytes) parts = record parts { message = parts.message ++ bytes }

abbrev pub put : Part → List ℕ → Parts → Parts
put part line parts = with_part part (record parts { signed = with_line part line parts.signed })

-- ---- the lines

abbrev pub Reading : Type 0
Reading = Result (Place × Parts) ℕ

-- the end of a body, or the line that is missing
abbrev pub at_end : Bool → Place → Parts → ℕ → Reading
at_end true p parts n = Ok (p, parts)
at_end false p parts n = Err n

-- on from a line that is as wanted, or the line that is not
abbrev pub goes_on : Option Step → ℕ → (Step → Reading) → Reading
goes_on None n more = Err n
goes_on (Some s) n more = more s

-- from a place and the number of its line, over the lines that end and the bytes behind them
abbrev pub judge : List ℕ → List (List ℕ) → Place → Parts → ℕ → Reading
judge tail [] p parts n = at_end (may_end p.want && length tail == 0) p parts n
judge tail (line ∷ more) p parts n =
    goes_on (step p line) n (λ s. judge tail more s.place (put s.part line parts) (n + 1))

-- the whole body, or the number of the first line that is not as wanted
abbrev pub reading : List ℕ → Reading
reading body = judge (lines body).1 (lines body).0 start no_parts 1

-- ---- the entry

-- a name makes a reference entry of the parts
abbrev pub body_from : Option (List ℕ) → List ℕ → List (List ℕ) → Bool → List ℕ → EntryBody
body_from (Some name) target ids skip message = Reference name target
body_from None target ids skip message = Annotation ids skip message

abbrev pub entry_from : List ℕ → Place × Parts → Entry
entry_from id read = record {
  id = id;
  number = read.0.number;
  parent = read.0.parent;
  body = body_from read.1.name read.1.target read.1.ids read.1.skip read.1.message;
  signer = read.1.signer;
  signature = read.1.signature;
  signed = read.1.signed;
}

-- the entry of this id, where its body is read
abbrev pub entry_as : List ℕ → Reading → Result Entry ℕ
entry_as id (Ok read) = Ok (entry_from id read)
entry_as id (Err n) = Err n

-- the entry of a body, or the number of the first line that is not as wanted
abbrev pub entry_of : List ℕ → Result Entry ℕ
entry_of body = entry_as (object_id Commit body) (reading body)

-- a refusal of a body names that line
abbrev pub IsBadAs : {A : Type 0} → Result A ℕ → EntryFault → Type 0
IsBadAs read (BadEntry line) = read ≡ Err line
IsBadAs read Memory = Unit {0}

-- the body was read to this place, and where the parts are kept they are these, and else none
pub record IsReadTo (read : Reading) (keep : Bool) (place : Place) (kept : Parts) : Type 0 where
  pub parts : Parts
  pub read_is : read ≡ Ok (place, parts)
  pub kept_are : keep ≡ true → kept ≡ parts
  pub none_kept : keep ≡ false → kept ≡ no_parts
