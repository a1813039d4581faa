-- Lines that lead from one place of the table to another, which is an end.
use Rattle.std.proofs.Common.{◌≡◌, ℕ, ◌+◌, Bool, true, ◌&&◌, List, [], ◌∷◌, ◌++◌, Option, Some, Ok, refl, sym, ap, ◌∙◌, append_assoc, append-nil}
use Rattle.rsl_chain.specs.Drafts.{ended, joined}
use Rattle.rsl_chain.specs.Grammar.{may_end, step}
use Rattle.rsl_chain.specs.Lines.{lines}
use Rattle.rsl_chain.specs.Reading.{Reading, at_end, goes_on, judge, put, with_part}
use Rattle.rsl_chain.specs.declared.parts.Parts.{Parts}
use Rattle.rsl_chain.specs.declared.places.Part.{Part}
use Rattle.rsl_chain.specs.declared.places.Part.TheVariants.{Nothing, Parent, Signature, Name, Target, Id, Skip, Number, Piece}
use Rattle.rsl_chain.specs.declared.places.Place.{Place}
use Rattle.rsl_chain.specs.declared.places.Step.{Step}
use Rattle.rsl_chain.specs.declared.places.Want.{Want}
use Rattle.rsl_chain.specs.declared.words.SignatureLine.{SignatureLine}
use Rattle.rsl_chain.proofs.LineLemmas.{lines_more}
use Rattle.rsl_chain.proofs.PlainLines.{AllPlain, Plain}

abbrev Text : Type 0
Text = List ℕ

abbrev pub at : Want → Option Text → ℕ → ℕ → Place
at want parent number ids = record { want = want; parent = parent; number = number; ids = ids }

-- a line that says nothing
abbrev pub to : Place → Step
to place = record { place = place; part = Nothing }

abbrev done : Place → Parts → Text → Reading
done q now signed = Ok (q, record now { signed = signed })

-- the lines lead from the place to the end, where the parts are these, and add the text to what is signed
pub record Runs (p : Place) (parts : Parts) (ls : List Text) (text : Text) (q : Place) (now : Parts) : Type 0 where
  pub plain : AllPlain ls
  pub reads : (signed : Text) (n : ℕ) → judge [] ls p (record parts { signed = signed }) n ≡ Ok (q, record now { signed = signed ++ text })

pub runs_end : (p : Place) (parts : Parts) → may_end p.want ≡ true → Runs p parts [] [] p parts
runs_end p parts may = record {
  plain = tt;
  reads = λ signed n.
      ap (λ (b : Bool). at_end (b && true) p (record parts { signed = signed }) n) may ∙ ap (done p parts) (sym (append-nil signed));
}

abbrev pub IsKept : Part → Type 0
IsKept Nothing = Unit {0}
IsKept (Parent id) = Unit {0}
IsKept (Signature found) = ⊥
IsKept (Name name) = Unit {0}
IsKept (Target id) = Unit {0}
IsKept (Id id) = Unit {0}
IsKept (Skip skip) = Unit {0}
IsKept (Number n) = Unit {0}
IsKept (Piece bytes) = Unit {0}

put_kept : (part : Part) (line signed : Text) (parts : Parts) → IsKept part → put part line (record parts { signed = signed }) ≡ record (with_part part parts) { signed = signed ++ ended line }
put_kept Nothing line signed parts is = refl
put_kept (Parent id) line signed parts is = refl
put_kept (Signature found) line signed parts is = absurd is
put_kept (Name name) line signed parts is = refl
put_kept (Target id) line signed parts is = refl
put_kept (Id id) line signed parts is = refl
put_kept (Skip skip) line signed parts is = refl
put_kept (Number n) line signed parts is = refl
put_kept (Piece bytes) line signed parts is = refl

-- one line in front
pub runs_line : (p : Place) (parts : Parts) (line : Text) (more : List Text) (text : Text) (s : Step) (q : Place) (now : Parts)
    → step p line ≡ Some s → IsKept s.part → Plain line → Runs s.place (with_part s.part parts) more text q now → Runs p parts (line ∷ more) (ended line ++ text) q now
runs_line p parts line more text s q now steps is none rest = record {
  plain = (none, rest.plain);
  reads = λ signed n.
      ap (λ (o : Option Step). goes_on o n (λ s. judge [] more s.place (put s.part line (record parts { signed = signed })) (n + 1))) steps
      ∙ ap (λ (kept : Parts). judge [] more s.place kept (n + 1)) (put_kept s.part line signed parts is)
      ∙ rest.reads (signed ++ ended line) (n + 1)
      ∙ ap (done q now) (append_assoc signed (ended line) text);
}

-- the line of a signature in front: it is not signed
pub runs_signature : (p : Place) (parts : Parts) (line : Text) (more : List Text) (text : Text) (s : SignatureLine) (at : Place) (q : Place) (now : Parts)
    → step p line ≡ Some (record { place = at; part = Signature s }) → Plain line → Runs at (record parts { signer = Some s.signer; signature = s.signature }) more text q now
    → Runs p parts (line ∷ more) text q now
runs_signature p parts line more text s at q now steps none rest = record {
  plain = (none, rest.plain);
  reads = λ signed n.
      ap (λ (o : Option Step). goes_on o n (λ s. judge [] more s.place (put s.part line (record parts { signed = signed })) (n + 1))) steps
      ∙ rest.reads signed (n + 1);
}

-- the lines of a text are the lines it was joined of
pub lines_joined : (ls : List Text) → AllPlain ls → lines (joined ls) ≡ (ls, [])
lines_joined [] all = refl
lines_joined (l ∷ ls) all =
    ap lines (append_assoc l (10 ∷ []) (joined ls)) ∙ lines_more l (joined ls) all.0
    ∙ ap (λ (t : List Text × Text). (l ∷ t.0, t.1)) (lines_joined ls all.1)
