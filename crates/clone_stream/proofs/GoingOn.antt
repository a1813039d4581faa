-- Reading that goes on to more objects of what is buffered.
use Rattle.std.proofs.Common.{◌≡◌, ◌≤◌, ◌+◌, ℕ, List, [], ◌∷◌, ◌++◌, inl, inr, length, take, drop, refl, ap, subst, ◌∙◌, arith, length-append}
use Rattle.std.proofs.lemmas.Bool.{cases_lt}
use Rattle.octets.specs.Content.{with_front}
use Rattle.buffered_reader.specs.Ahead.{Reading, ahead}
use Rattle.buffered_reader.proofs.Fronts.{pass_ahead, pass_past}
use Rattle.git_object.specs.Ids.{IsId}
use Rattle.git_object.specs.Objects.{Pair, pair_id}
use Rattle.keeper_api.specs.declared.changes.RefChange.{RefChange}
use Rattle.object_lanes.specs.Groups.{unnamed_id}
use Rattle.object_lanes.specs.declared.heads.Unnamed.{Unnamed}
use Rattle.clone_stream.specs.Grouped.{GoesOn, StandsFirst, claimed_record, pair_of}
use Rattle.clone_stream.specs.Records.{IsNextObject, last_read}
use Rattle.clone_stream.specs.Streams.{object_record}
use Rattle.clone_stream.specs.Wrongs.{ComesObject}
use Rattle.clone_stream.specs.declared.whole_records.Claim.{Claim}
use Rattle.clone_stream.proofs.Growing.{object_read}
use Rattle.clone_stream.proofs.Grouping.{front_of}

-- nothing was taken
pub stays : (objects : List Pair) (refs : List RefChange) (r : Reading) → GoesOn objects objects refs r r
stays objects refs r = record { read = λ first left start so. so; past = λ left. refl; limit = refl; later = omega arith; limited = λ less. absurd (omega arith) }

-- one step after another
pub goes_further : (a b c : List Pair) (refs : List RefChange) (r s t : Reading) → GoesOn a b refs r s → GoesOn b c refs s t → GoesOn a c refs r t
goes_further a b c refs r s t p q = record {
  read = λ first left start so. q.read first left start (p.read first left start so);
  past = λ left. q.past left ∙ p.past left;
  limit = q.limit ∙ p.limit;
  later = omega (arith, p.later, q.later);
  limited = λ less. elim (cases_lt s.taken t.taken) [
    | inl more ↦ q.limited more
    | inr none ↦ omega (arith, p.limited (omega (arith, less, none)), q.later, q.limit)
  ];
}

-- the object in front was taken
pub object_taken : (objects : List Pair) (refs : List RefChange) (was is : Reading) (claim : Claim) (object : Unnamed) → StandsFirst claim object was.buffered → claim.id ≡ unnamed_id object
    → ComesObject (last_read objects refs) claim.id → is ≡ record was { buffered = drop claim.len was.buffered; taken = was.taken + claim.len } → was.taken + length was.buffered ≤ was.limit
    → GoesOn objects (objects ++ pair_of object ∷ []) refs was is
object_taken objects refs was is claim object stands own comes after limited =
    let pair = pair_of object in
    let text = object_record (pair_id pair, pair) in
    let named : claimed_record claim object ≡ text = ap (λ (id : List ℕ). object_record (id, pair)) own in
    let long : claim.len ≡ length (claimed_record claim object) = stands.is.long in
    let whole = ap length stands.whole in
    let parts = length-append (claimed_record claim object) stands.rest in
    let small : claim.len ≤ length was.buffered = omega (arith, long, whole, parts) in
    let front : take claim.len was.buffered ≡ text = front_of claim.len was.buffered (claimed_record claim object) stands.rest long stands.whole ∙ named in
    let taken : is.taken ≡ was.taken + claim.len = ap (λ (r : Reading). r.taken) after in
    let limit : is.limit ≡ was.limit = ap (λ (r : Reading). r.limit) after in
    let same : length (claimed_record claim object) ≡ length text = ap length named in
    let next : IsNextObject (last_read objects refs) pair =
    record {
      own = record { id = subst IsId own stands.is.is_id; is = record { own = refl; small = stands.is.small } };
      comes = subst (λ (id : List ℕ). ComesObject (last_read objects refs) id) own comes;
    } in
    record {
      read = λ first left start so.
          object_read objects refs first (ahead was left) start was.taken so pair (ahead is left) is.taken next
          (pass_ahead was is left left claim.len after small limited ∙ ap (λ (b : List ℕ). with_front b (ahead is left)) front)
          (omega (arith, taken, long, same));
      past = λ left. pass_past was is left left claim.len after small limited;
      limit = limit;
      later = omega (arith, taken);
      limited = λ _. omega (arith, taken, small, limited, limit);
    }
