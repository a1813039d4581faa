-- Records of a map's entries that are written one after the other.
use Rattle.std.proofs.Common.{◌≡◌, ◌≤◌, ◌<◌, ◌+◌, ℕ, List, [], ◌∷◌, ◌++◌, Option, Some, None, length, refl, sym, ap, subst, ◌∙◌, append_assoc, arith, length-append}
use Rattle.std.specs.Prelude.{map, slice_get, Err}
use Rattle.std.specs.List.{AllByRecursion, flat_map}
use Rattle.std.specs.FinMap.{entries}
use Rattle.std.proofs.lemmas.List.{append-nil}
use Rattle.std.proofs.lemmas.Option.{same_Some}
use Rattle.octets.specs.BytesMap.{BytesMap, entry_after}
use Rattle.octets.specs.Content.{Stays, with_end}
use Rattle.edge_io.proofs.Parts.{with_ends}
use Rattle.git_object.specs.Repository.{Repository}
use Rattle.git_object.proofs.Runs.{all_push, flat_push}
use Rattle.clone_stream.specs.Exports.{Halts, HaltsAt, IsBadAfter, IsBadEntry, IsFrontOf, IsLastStep, IsPastNext, IsPut, IsRun, IsStep, Steps}
use Rattle.clone_stream.specs.Reading.{last_of}
use Rattle.clone_stream.specs.Streams.{largest_stream}
use Rattle.clone_stream.specs.declared.export_faults.ExportFault.{ExportFault}
use Rattle.clone_stream.specs.declared.export_faults.ExportFault.TheVariants.{Damaged, TooLarge, KeeperFailed, SinkFailed, Memory}
use Rattle.clone_stream.proofs.Entries.{next_entry}
use Rattle.clone_stream.proofs.Pieces.{none_put, put_then}

-- a text is the records of the entries up to this key
pub record IsUpTo {X : Type 0} (record_of : List ℕ × X → List ℕ) (Is : List ℕ × X → Type 0) (es : List (List ℕ × X)) (last : Option (List ℕ)) (text : List ℕ) : Type 0 where
  pub first : List (List ℕ × X)
  pub rest : List (List ℕ × X)
  pub whole : es ≡ first ++ rest
  pub each : AllByRecursion Is first
  pub last_is : last ≡ last_of (map (λ (e : List ℕ × X). e.0) first)
  pub is : text ≡ flat_map record_of first

-- the records up to this key went out
pub record IsSoFar {X : Type 0} (record_of : List ℕ × X → List ℕ) (Is : List ℕ × X → Type 0) (map_in : Repository → BytesMap X) (content : Option Repository) (start : ℕ) (before now : Option (List ℕ)) (last : Option (List ℕ)) (written : ℕ) : Type 0 where
  pub text : List ℕ
  pub put : IsPut text start before now written
  pub told : (r : Repository) → content ≡ Some r → IsUpTo record_of Is (entries (map_in r)) last text

-- each entry up to this key was read once
pub record ReadsUpTo {X : Type 0} (record_of : List ℕ × X → List ℕ) (Is : List ℕ × X → Type 0) (es : List (List ℕ × X)) (last : Option (List ℕ)) (before now : ℕ) : Type 0 where
  pub text : List ℕ
  pub up : IsUpTo record_of Is es last text
  pub few : now ≤ before + length up.first

head_of : {A : Type 0} (xs : List A) (x : A) → slice_get xs 0 ≡ Some x → (ys : List A) × (xs ≡ x ∷ ys)
head_of [] x h = cc
head_of (y ∷ ys) x h = (ys, ap (λ z. z ∷ ys) (same_Some y x h))

none_of : {A : Type 0} (xs : List A) → slice_get xs 0 ≡ None → xs ≡ []
none_of [] h = refl
none_of (y ∷ ys) h = cc

last_push : {X : Type 0} (es : List (List ℕ × X)) (e : List ℕ × X) → Some e.0 ≡ last_of (map (λ (d : List ℕ × X). d.0) (es ++ e ∷ []))
last_push [] e = refl
last_push (d ∷ []) e = refl
last_push (d ∷ f ∷ es) e = last_push (f ∷ es) e

module _ {X : Type 0} (record_of : List ℕ × X → List ℕ) (Is Bad : List ℕ × X → Type 0) where
  -- one entry more
  up_to_next : (m : BytesMap X) (last : Option (List ℕ)) (text : List ℕ) (e : List ℕ × X) → IsUpTo record_of Is (entries m) last text → entry_after m last ≡ Some e → Is e
      → IsUpTo record_of Is (entries m) (Some e.0) (text ++ record_of e)
  up_to_next m last text e so next is =
      let tail = head_of so.rest e (sym (next_entry m last so.first so.rest so.whole so.last_is) ∙ next) in
      record {
        first = so.first ++ e ∷ [];
        rest = tail.0;
        whole = so.whole ∙ ap (λ (t : List (List ℕ × X)). so.first ++ t) tail.1 ∙ sym (append_assoc so.first (e ∷ []) tail.0);
        each = all_push Is so.first e so.each is;
        last_is = last_push so.first e;
        is = ap (λ (t : List ℕ). t ++ record_of e) so.is ∙ sym (flat_push record_of so.first e);
      }

  -- none was read yet, one more, and all of them
  pub none_read : (es : List (List ℕ × X)) (n : ℕ) → ReadsUpTo record_of Is es None n n
  none_read es n = record { text = []; up = record { first = []; rest = es; whole = refl; each = tt; last_is = refl; is = refl }; few = omega arith }

  pub one_read : (m : BytesMap X) (last : Option (List ℕ)) (e : List ℕ × X) (before now after : ℕ) → ReadsUpTo record_of Is (entries m) last before now → entry_after m last ≡ Some e → Is e → after ≤ now + 1
      → ReadsUpTo record_of Is (entries m) (Some e.0) before after
  unfolding up_to_next
  one_read m last e before now after reads next is more = record {
    text = reads.text ++ record_of e;
    up = up_to_next m last reads.text e reads.up next is;
    few =
        let had = reads.few in
        let longer = length-append reads.up.first (e ∷ []) in
        omega (arith, had, longer, more);
  }

  pub all_read : (es : List (List ℕ × X)) (last : Option (List ℕ)) (before now : ℕ) → ReadsUpTo record_of Is es last before now → now ≤ before + length es
  all_read es last before now reads =
      let up = reads.up in
      let whole = ap length up.whole in
      let parts = length-append up.first up.rest in
      omega (arith, reads.few, whole, parts)

  -- no entry more
  all_first : (m : BytesMap X) (last : Option (List ℕ)) (text : List ℕ) (so : IsUpTo record_of Is (entries m) last text) → entry_after m last ≡ None → so.first ≡ entries m
  all_first m last text so next =
      let none = none_of so.rest (sym (next_entry m last so.first so.rest so.whole so.last_is) ∙ next) in
      sym (so.whole ∙ ap (λ (t : List (List ℕ × X)). so.first ++ t) none ∙ append-nil so.first)

  front_of : (es : List (List ℕ × X)) (last : Option (List ℕ)) (start : ℕ) (text : List ℕ) → start + length text ≤ largest_stream → IsUpTo record_of Is es last text → IsFrontOf record_of Is es start text
  front_of es last start text few so = record {
    first = so.first;
    rest = so.rest;
    more = [];
    whole = so.whole;
    each = so.each;
    is = sym so.is ∙ sym (append-nil text);
    within = let same = ap length so.is in omega arith;
  }

  part_of : (es : List (List ℕ × X)) (last : Option (List ℕ)) (start : ℕ) (text a b : List ℕ) (e : List ℕ × X) → start + (length text + length (record_of e)) ≤ largest_stream → record_of e ≡ a ++ b
      → IsUpTo record_of Is es last (text ++ record_of e) → IsFrontOf record_of Is es start (text ++ a)
  part_of es last start text a b e few parts so = record {
    first = so.first;
    rest = so.rest;
    more = b;
    whole = so.whole;
    each = so.each;
    is = sym so.is ∙ ap (λ (t : List ℕ). text ++ t) parts ∙ sym (append_assoc text a b);
    within = let same = ap length so.is in let both = length-append text (record_of e) in omega arith;
  }

  bad_after : (m : BytesMap X) (last : Option (List ℕ)) (id text : List ℕ) → IsUpTo record_of Is (entries m) last text → IsBadEntry Bad m last id → IsBadAfter record_of Is Bad (entries m) id text
  bad_after m last id text so entry =
      let tail = head_of so.rest (id, entry.value) (sym (next_entry m last so.first so.rest so.whole so.last_is) ∙ entry.after) in
      record {
        first = so.first;
        value = entry.value;
        rest = tail.0;
        whole = so.whole ∙ ap (λ (t : List (List ℕ × X)). so.first ++ t) tail.1;
        each = so.each;
        bad = entry.bad;
        is = so.is;
      }

  past_next : (m : BytesMap X) (last : Option (List ℕ)) (start : ℕ) (text : List ℕ) (e : List ℕ × X) → IsUpTo record_of Is (entries m) last text → entry_after m last ≡ Some e → Is e
      → largest_stream < start + (length text + length (record_of e)) → IsPastNext record_of Is (entries m) start text
  past_next m last start text e so next is past =
      let tail = head_of so.rest e (sym (next_entry m last so.first so.rest so.whole so.last_is) ∙ next) in
      record {
        first = so.first;
        next = e;
        rest = tail.0;
        whole = so.whole ∙ ap (λ (t : List (List ℕ × X)). so.first ++ t) tail.1;
        each = all_push Is so.first e so.each is;
        is = so.is;
        past = past;
      }

  module _ (map_in : Repository → BytesMap X) where
    -- nothing was written yet
    pub at_first : (content : Option Repository) (start : ℕ) (before : Option (List ℕ)) → start ≤ largest_stream → IsSoFar record_of Is map_in content start before before None start
    at_first content start before few = record {
      text = [];
      put = none_put before start few;
      told = λ r _. record { first = []; rest = entries (map_in r); whole = refl; each = tt; last_is = refl; is = refl };
    }

    module _ (content content_now : Option Repository) (start written : ℕ) (before mid after : Option (List ℕ)) (last : Option (List ℕ))
        (so : IsSoFar record_of Is map_in content start before mid last written) (stays : Stays content content_now) where
      -- one record more
      pub one_more : (key : List ℕ) (now : ℕ) → IsStep record_of Is map_in content_now last written mid after key now → IsSoFar record_of Is map_in content_now start before after (Some key) now
      one_more key now step = record {
        text = so.text ++ record_of (key, step.value);
        put = put_then so.text (record_of (key, step.value)) start written now before mid after so.put step.put;
        told = λ r told. up_to_next (map_in r) last so.text (key, step.value) (so.told r (stays r told)) (step.next.tells r told) step.next.is;
      }

      -- no record more
      pub at_last : IsLastStep map_in content_now last mid after → IsRun record_of Is map_in content_now start before after written
      at_last step = record {
        text = so.text;
        put = record { gained = step.same ∙ so.put.gained; long = so.put.long; within = so.put.within };
        each = λ r told. subst (AllByRecursion Is) (all_first (map_in r) last so.text (so.told r (stays r told)) (step.tells r told)) (so.told r (stays r told)).each;
        is = λ r told. (so.told r (stays r told)).is ∙ ap (flat_map record_of) (all_first (map_in r) last so.text (so.told r (stays r told)) (step.tells r told));
      }

      stopped : (fault : ExportFault) → after ≡ mid → ((r : Repository) → content_now ≡ Some r → HaltsAt record_of Is Bad (entries (map_in r)) start so.text fault) → Halts record_of Is Bad map_in content_now start before after fault
      stopped fault same told = record {
        text = so.text;
        gained = same ∙ so.put.gained;
        within = let e = so.put.long in let few = so.put.within in omega arith;
        told = told;
      }

      same_front : (r : Repository) → content_now ≡ Some r → IsFrontOf record_of Is (entries (map_in r)) start so.text
      same_front r told = front_of (entries (map_in r)) last start so.text (let e = so.put.long in let few = so.put.within in omega arith) (so.told r (stays r told))

      -- why no record more
      pub halted : (fault : ExportFault) → Steps record_of Is Bad map_in content_now last written mid after (Err fault) → Halts record_of Is Bad map_in content_now start before after fault
      halted (Damaged id) step = stopped (Damaged id) step.same (λ r told. bad_after (map_in r) last id so.text (so.told r (stays r told)) (step.next r told))
      halted (TooLarge limit) step = stopped (TooLarge limit) step.past.same (λ r told.
          let more = up_to_next (map_in r) last so.text step.entry (so.told r (stays r told)) (step.next.tells r told) step.next.is in
          let long = ap length more.is in
          let both = length-append so.text (record_of step.entry) in
          let count = so.put.long in
          let past = step.past.past in (
            step.past.is_limit,
            record { first = more.first; rest = more.rest; whole = more.whole; each = more.each; past = omega arith },
            past_next (map_in r) last start so.text step.entry (so.told r (stays r told)) (step.next.tells r told) step.next.is (omega arith),
          ))
      halted KeeperFailed step = stopped KeeperFailed step same_front
      halted SinkFailed step =
          let part = step.put.part in
          record {
            text = so.text ++ part.front;
            gained = part.gained ∙ ap (λ (p : Option (List ℕ)). with_end p part.front) so.put.gained ∙ with_ends before so.text part.front;
            within =
                let whole = ap length part.whole in
                let parts = length-append part.front part.rest in
                let both = length-append so.text part.front in
                let count = so.put.long in
                let few = step.put.within in
                omega arith;
            told = λ r told. part_of (entries (map_in r)) (Some step.entry.0) start so.text part.front part.rest step.entry (let count = so.put.long in let few = step.put.within in omega arith) part.whole
                (up_to_next (map_in r) last so.text step.entry (so.told r (stays r told)) (step.next.tells r told) step.next.is);
          }
      halted Memory step = stopped Memory step same_front
