-- What breaks a record after its line.
use Rattle.std.proofs.Common.{◌≡◌, ℕ, ◌+◌, List, [], ◌∷◌, ◌++◌, Option, inl, inr, length, refl, sym, ap, subst, ◌∙◌, append_assoc, arith, length-append}
use Rattle.std.specs.Prelude.{decimal, IfErr, IfSome, Ok, Err, Result, ◌⊎◌}
use Rattle.octets.specs.Content.{with_front}
use Rattle.buffered_reader.specs.Ahead.{Reading}
use Rattle.edge_io.proofs.Taken.{with_fronts}
use Rattle.clone_stream.specs.Breaks.{BreaksOrder, BreaksRecord}
use Rattle.clone_stream.specs.Wrongs.{Last}
use Rattle.clone_stream.specs.Reading.{ComesAfter}
use Rattle.clone_stream.specs.Records.{IsBroken, IsLate}
use Rattle.clone_stream.specs.Stopping.{StopsAt}
use Rattle.clone_stream.specs.Streams.{IsRef, object_line, ref_line}
use Rattle.clone_stream.specs.Words.{IsHead}
use Rattle.clone_stream.specs.declared.line_words.ObjectLine.{ObjectLine}
use Rattle.clone_stream.specs.declared.stream_faults.Break.{Break}
use Rattle.clone_stream.specs.declared.stream_faults.Break.TheVariants.{BadLine, IdDiffers, Order, TooLarge, Cut, Failed, Memory}
use Rattle.clone_stream.proofs.Broken.{told}

-- what breaks an object after its line breaks the record that begins at the line
pub object_breaks : {T : Type 0} (r : Result T Break) (last : Last) (o mid : Option (List ℕ)) (at mid_at : ℕ) (head : ObjectLine) → IsHead head → o ≡ with_front (object_line head.id head.kind (decimal head.size) ++ 10 ∷ []) mid
    → mid_at ≡ at + length (object_line head.id head.kind (decimal head.size)) + 1
    → IfErr r (λ fault. IsLate last at head.id fault ⊎ IfSome mid (λ rest. IsBroken last head.id head.kind head.size mid_at rest fault))
    → IfErr r (λ fault. IfSome o (λ rest. BreaksRecord last at rest fault))
object_breaks (Ok x) last o mid at mid_at head is e place bad = tt
object_breaks (Err fault) last o mid at mid_at head is e place bad =
    let line = object_line head.id head.kind (decimal head.size) in
    let here : (more : List ℕ) → (line ++ 10 ∷ []) ++ more ≡ line ++ 10 ∷ more = λ more. append_assoc line (10 ∷ []) more in
    let grouped : mid_at ≡ at + (length line + 1) = omega arith in
    elim bad [
      | inl late ↦ told (λ rest. BreaksRecord last at rest fault) o mid (line ++ 10 ∷ []) e (λ more _. inr (inl (subst (λ (f : Break). BreaksOrder last at ((line ++ 10 ∷ []) ++ more) f) (sym late.is)
          (refl, inl (record { id = head.id; kind = head.kind; size = head.size; more = more; head = record { whole = here more; is_id = is.id; small = is.small }; late = late.late })))))
      | inr broken ↦ told (λ rest. BreaksRecord last at rest fault) o mid (line ++ 10 ∷ []) e (λ more there.
          let body : IsBroken last head.id head.kind head.size mid_at more fault = subst (λ (m : Option (List ℕ)). IfSome m (λ rest. IsBroken last head.id head.kind head.size mid_at rest fault)) there broken in
          let placed : IsBroken last head.id head.kind head.size (at + (length line + 1)) more fault = subst (λ (n : ℕ). IsBroken last head.id head.kind head.size n more fault) grouped body in
          inr (inr (record { id = head.id; kind = head.kind; size = head.size; more = more; head = record { whole = here more; is_id = is.id; small = is.small }; comes = placed.comes; breaks = placed.breaks })))
    ]

-- a reference that does not come after the last
pub ref_breaks : {T : Type 0} (r : Result T Break) (last : Last) (o mid : Option (List ℕ)) (at : ℕ) (name id : List ℕ) → IsRef (name, id) → o ≡ with_front (ref_line name id ++ 10 ∷ []) mid
    → IfErr r (λ fault. (fault ≡ Order at) × (ComesAfter last.name name → ⊥))
    → IfErr r (λ fault. IfSome o (λ rest. BreaksRecord last at rest fault))
ref_breaks (Ok x) last o mid at name id is e bad = tt
ref_breaks (Err fault) last o mid at name id is e bad =
    let line = ref_line name id in
    told (λ rest. BreaksRecord last at rest fault) o mid (line ++ 10 ∷ []) e (λ more _. inr (inl (subst (λ (f : Break). BreaksOrder last at ((line ++ 10 ∷ []) ++ more) f) (sym bad.0)
    (refl, inr (record { name = name; id = id; more = more; whole = append_assoc line (10 ∷ []) more; is_ref = is; late = bad.1 })))))

-- where reading stands after a break, told from an earlier place
pub stops_later : {T : Type 0} (r : Result T Break) (was mid now : Reading) (o m n : Option (List ℕ)) (front : List ℕ) → o ≡ with_front front m → mid.taken ≡ was.taken + length front → IfErr r (StopsAt mid now m n) → IfErr r (StopsAt was now o n)
stops_later (Ok x) was mid now o m n front e taken stops = tt
stops_later (Err (BadLine p)) was mid now o m n front e taken stops = tt
stops_later (Err (IdDiffers id found)) was mid now o m n front e taken stops = tt
stops_later (Err (Order p)) was mid now o m n front e taken stops = tt
stops_later (Err (TooLarge limit)) was mid now o m n front e taken stops = tt
stops_later (Err (Cut p)) was mid now o m n front e taken stops = stops
stops_later (Err (Failed p)) was mid now o m n front e taken stops = record {
  part = front ++ stops.part;
  read = e ∙ ap (with_front front) stops.read ∙ with_fronts front stops.part n;
  taken = let whole = length-append front stops.part in let then = stops.taken in omega arith;
  place = stops.place;
  drained = stops.drained;
}
stops_later (Err Memory) was mid now o m n front e taken stops = tt
