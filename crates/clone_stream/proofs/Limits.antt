-- What the end of the input, the limit and a failed source decide.
use Rattle.std.proofs.Common.{◌≡◌, ◌≢◌, ℕ, ◌+◌, ◌-◌, ◌<◌, ◌≤◌, List, [], ◌∷◌, ◌++◌, Option, Some, None, inl, inr, length, take, drop, refl, sym, ap, subst, ◌∙◌, append_assoc, arith, length-append}
use Rattle.std.specs.Prelude.{decimal, IfSome}
use Rattle.std.specs.Option.{option_map}
use Rattle.std.proofs.lemmas.List.{append-nil, length-drop, length-take, take-append-drop}
use Rattle.octets.specs.Content.{with_front}
use Rattle.text_reader.proofs.Unique.{same_fronts}
use Rattle.buffered_reader.specs.Ahead.{Reading, ahead, past}
use Rattle.git_object.specs.Objects.{Pair}
use Rattle.git_object.specs.Repository.{empty_repository}
use Rattle.keeper_api.specs.Changes.{changed}
use Rattle.keeper_api.specs.declared.changes.Change.{Change}
use Rattle.clone_stream.specs.Breaks.{BreaksRecord}
use Rattle.clone_stream.specs.Deciding.{IsRefusedBy, IsUnbroken}
use Rattle.clone_stream.specs.Faults.{IsCut, from_break}
use Rattle.clone_stream.specs.Fronts.{AreRecords, FirstBreak, change_of, last_record, records_text}
use Rattle.clone_stream.specs.Parts.{AreParts, EndsWithin, PassesBy}
use Rattle.clone_stream.specs.Stopping.{StopsAt}
use Rattle.clone_stream.specs.Streams.{IsStreamText, header, object_line}
use Rattle.clone_stream.specs.Taking.{IsChangeRead}
use Rattle.clone_stream.specs.declared.stream_faults.Break.{Break}
use Rattle.clone_stream.specs.declared.stream_faults.Break.TheVariants as break_
use Rattle.clone_stream.specs.declared.stream_faults.StreamFault.{StreamFault}
use Rattle.clone_stream.specs.declared.stream_faults.StreamFault.TheVariants.{BadLine, IdDiffers, Order, TooLarge, Truncated, SourceFailed, KeeperFailed, NotEmpty, Memory}
use Rattle.clone_stream.proofs.Wholes.{stream_built}

-- ---- what breaks at the end of a text

-- a text that is cut is cut at its end
pub cut_place : (text : List ℕ) (p : ℕ) → FirstBreak text (break_.Cut p) → p ≡ length text
cut_place text p (inl first) = first.0
cut_place text p (inr after) =
    let whole = ap length after.front ∙ length-append header after.rest in
    elim after.breaks [
      | inl records ↦ let front = ap length records.front ∙ length-append (records_text records.objects records.refs) records.rest in elim records.breaks [
        | inl line ↦ let place = line.0 in omega arith
        | inr more ↦ elim more [
          | inl order ↦ absurd order
          | inr object ↦
              let place = object.breaks.0 in
              let line = object_line object.id object.kind (decimal object.size) in
              let long = ap length object.head.whole ∙ length-append line (10 ∷ object.more) in
              omega arith
        ]
      ]
      | inr end ↦ absurd end.breaks
    ]

-- what was read when the source failed
pub record WasUnbroken (text : List ℕ) (p : ℕ) : Type 0 where
  pub read : List ℕ
  pub more : List ℕ
  pub whole : text ≡ read ++ more
  pub place : p ≡ length read
  pub unbroken : IsUnbroken read

-- a front that ends in the middle of a record is cut there
cut_front : (es : List (List ℕ × Pair)) (fs : List (List ℕ × List ℕ)) (part : List ℕ) → AreRecords es fs
    → BreaksRecord (last_record es fs) (length header + length (records_text es fs)) part (break_.Cut ((length header + length (records_text es fs)) + length part))
    → IsUnbroken (header ++ (records_text es fs ++ part))
cut_front es fs part are breaks =
    let long = length-append header (records_text es fs ++ part) in
    let longer = length-append (records_text es fs) part in
    let place : (length header + length (records_text es fs)) + length part ≡ length (header ++ (records_text es fs ++ part)) = omega arith in
    inr (inr (record {
      rest = records_text es fs ++ part;
      front = refl;
      breaks = inl (record { objects = es; refs = fs; rest = part; are = are; front = refl; breaks = subst (λ (k : ℕ). BreaksRecord (last_record es fs) (length header + length (records_text es fs)) part (break_.Cut k)) place breaks });
    }))

regrouped : (a b c d e text rest tail : List ℕ) → text ≡ a ++ rest → rest ≡ b ++ tail → tail ≡ c ++ d → text ≡ (a ++ (b ++ c)) ++ d
regrouped a b c d e text rest tail p q r =
    p ∙ ap (λ (t : List ℕ). a ++ t) (q ∙ ap (λ (t : List ℕ). b ++ t) r ∙ sym (append_assoc b c d)) ∙ sym (append_assoc a (b ++ c) d)

pub failed_unbroken : (text : List ℕ) (p : ℕ) → FirstBreak text (break_.Failed p) → WasUnbroken text p
failed_unbroken text p (inl first) = record { read = first.part; more = first.more; whole = first.whole; place = let at = first.place in omega arith; unbroken = inr (inl (refl, first.is)) }
failed_unbroken text p (inr after) = elim after.breaks [
  | inl records ↦ elim records.breaks [
    | inl line ↦ record {
      read = header ++ (records_text records.objects records.refs ++ line.part);
      more = line.more;
      whole = regrouped header (records_text records.objects records.refs) line.part line.more [] text after.rest records.rest after.front records.front line.whole;
      place =
          let long = length-append header (records_text records.objects records.refs ++ line.part) in
          let longer = length-append (records_text records.objects records.refs) line.part in
          let at = line.place in
          omega arith;
      unbroken = cut_front records.objects records.refs line.part records.are (inl (refl, line.is));
    }
    | inr more ↦ elim more [
      | inl order ↦ absurd order
      | inr object ↦
          let line = object_line object.id object.kind (decimal object.size) in
          let fails = object.breaks in record {
            read = header ++ (records_text records.objects records.refs ++ (line ++ 10 ∷ fails.part));
            more = fails.more;
            whole = regrouped header (records_text records.objects records.refs) (line ++ 10 ∷ fails.part) fails.more [] text after.rest records.rest after.front records.front
                (object.head.whole ∙ ap (λ (t : List ℕ). line ++ 10 ∷ t) fails.whole ∙ sym (append_assoc line (10 ∷ fails.part) fails.more));
            place =
                let long = length-append header (records_text records.objects records.refs ++ (line ++ 10 ∷ fails.part)) in
                let longer = length-append (records_text records.objects records.refs) (line ++ 10 ∷ fails.part) in
                let longest = length-append line (10 ∷ fails.part) in
                let at = fails.place in
                omega arith;
            unbroken = cut_front records.objects records.refs (line ++ 10 ∷ fails.part) records.are (inr (inr (record {
              id = object.id;
              kind = object.kind;
              size = object.size;
              more = fails.part;
              head = record { whole = refl; is_id = object.head.is_id; small = object.head.small };
              comes = object.comes;
              breaks = (let longest = length-append line (10 ∷ fails.part) in omega arith, fails.is);
            })));
          }
    ]
  ]
  | inr end ↦ record {
    read = header ++ (records_text end.objects end.refs ++ end.breaks.part);
    more = end.breaks.more;
    whole = regrouped header (records_text end.objects end.refs) end.breaks.part end.breaks.more [] text after.rest end.rest after.front end.front end.breaks.whole;
    place =
        let long = length-append header (records_text end.objects end.refs ++ end.breaks.part) in
        let longer = length-append (records_text end.objects end.refs) end.breaks.part in
        let at = end.breaks.place in
        omega arith;
    unbroken = inl (
      changed (change_of end.objects end.refs) empty_repository,
      subst (λ (t : List ℕ). IsStreamText (changed (change_of end.objects end.refs) empty_repository) (header ++ (records_text end.objects end.refs ++ t)))
          (sym end.breaks.is) (stream_built end.objects end.refs end.are),
    );
  }
]

-- ---- a reader that began at a source's first byte

pub new_ahead : (r : Reading) (limit : ℕ) (left : Option (List ℕ)) → r ≡ record { buffered = []; taken = 0; limit = limit } → ahead r left ≡ option_map (take limit) left
unfolding ahead
new_ahead r limit None e = refl
new_ahead r limit (Some x) e = (λ i. ahead (e i) (Some x)) ∙ ap (λ (k : ℕ). Some (take k x)) (let n : limit - 0 ≡ limit = omega arith in n)

pub new_past : (r : Reading) (limit : ℕ) (left : Option (List ℕ)) → r ≡ record { buffered = []; taken = 0; limit = limit } → past r left ≡ option_map (drop limit) left
unfolding past
new_past r limit None e = refl
new_past r limit (Some x) e = (λ i. past (e i) (Some x)) ∙ ap (λ (k : ℕ). Some (drop k x)) (let n : limit - 0 ≡ limit = omega arith in n)

none_ahead : (r : Reading) (left : Option (List ℕ)) → ahead r left ≡ None → left ≡ None
unfolding ahead
none_ahead r None e = refl
none_ahead r (Some x) e = cc e

-- what is ahead and what is past is what the source has left, where nothing is buffered
rejoin : (r : Reading) (left : Option (List ℕ)) (a b : List ℕ) → r.buffered ≡ [] → ahead r left ≡ Some a → past r left ≡ Some b → left ≡ Some (a ++ b)
unfolding ahead past
rejoin r None a b none e f = cc e
rejoin r (Some x) a b none e f =
    let k : ℕ = r.limit - r.taken in
    let front : take k (r.buffered ++ x) ≡ a = cc e in
    let end : drop k (r.buffered ++ x) ≡ b = cc f in
    ap Some (sym (ap (λ (t : List ℕ). t ++ x) none) ∙ sym (take-append-drop k (r.buffered ++ x)) ∙ (λ i. front i ++ end i))

front_none : (front : List ℕ) (o : Option (List ℕ)) → None ≡ with_front front o → o ≡ None
front_none front None e = refl
front_none front (Some x) e = cc e

front_some : (front whole : List ℕ) (o : Option (List ℕ)) → Some whole ≡ with_front front o → (rest : List ℕ) × (o ≡ Some rest) × (whole ≡ front ++ rest)
front_some front whole None e = cc e
front_some front whole (Some x) e = let same : whole ≡ front ++ x = cc in (x, refl, same)

at_some : (P : List ℕ → Type 0) (o : Option (List ℕ)) (x : List ℕ) → o ≡ Some x → IfSome o P → P x
at_some P o x e h = subst (λ (q : Option (List ℕ)). IfSome q P) e h

-- fewer bytes than the limit are all bytes
all_within : (limit : ℕ) (input : List ℕ) → length (take limit input) < limit → drop limit input ≡ []
all_within limit input short = none_left (drop limit input) (let a = length-take limit input in let b = length-drop limit input in omega arith)
  where
    none_left : (xs : List ℕ) → length xs ≡ 0 → xs ≡ []
    none_left [] e = refl
    none_left (x ∷ xs) e = absurd (omega arith)

module _ (limit : ℕ) (r : Reading) (left first now : Option (List ℕ)) (before : Option (List ℕ)) (limit_is : r.limit ≡ limit)
    (told_first : before ≡ option_map (take limit) first) (told_past : past r left ≡ option_map (drop limit) first) where
  -- a whole stream was read: within the limit it is what the source gave
  pub taken_whole : (change : Change) → AreParts change r before (ahead r left) → EndsWithin r left now (past r left) → limit ≡ 1073741824 → IsChangeRead change first now
  taken_whole change parts ends big = record { bytes = parts.bytes; was_read = record { read = read first told_first told_past; end = ends.end parts.drained parts.none; short = short }; text = parts.text }
    where
      short : length parts.bytes ≤ 1073741824
      short = let a = parts.taken in let b = ends.limited in omega arith

      read : (o : Option (List ℕ)) → before ≡ option_map (take limit) o → past r left ≡ option_map (drop limit) o → o ≡ with_front parts.bytes now
      read None e f = sym (ap (with_front parts.bytes) (ends.unread ∙ none_ahead r left (front_none parts.bytes (ahead r left) (sym e ∙ parts.read))))
      read (Some input) e f =
          let split = front_some parts.bytes (take limit input) (ahead r left) (sym e ∙ parts.read) in
          let none : split.0 ≡ [] = at_some (λ (rest : List ℕ). rest ≡ []) (ahead r left) split.0 split.1 parts.none in
          let whole : take limit input ≡ parts.bytes = split.2 ∙ ap (λ (t : List ℕ). parts.bytes ++ t) none ∙ append-nil parts.bytes in
          let past_none : drop limit input ≡ [] = elim ends.within [
            | inl within ↦ let long = ap length whole in let taken = parts.taken in all_within limit input (omega arith)
            | inr none_past ↦ at_some (λ (rest : List ℕ). rest ≡ []) (past r left) (drop limit input) f none_past
          ] in
          let left_is : left ≡ Some (split.0 ++ drop limit input) = rejoin r left split.0 (drop limit input) parts.drained split.1 f in
          let end : left ≡ Some [] = left_is ∙ (λ i. Some (none i ++ past_none i)) in
          ap Some (sym (take-append-drop limit input) ∙ (λ i. whole i ++ past_none i)) ∙ sym (ap (with_front parts.bytes) (ends.unread ∙ end))

  -- the limit was met, and nothing before it is refused
  at_limit : (input : List ℕ) (g : StreamFault) → PassesBy r now (past r left) g → IsUnbroken (take limit input) → past r left ≡ Some (drop limit input) → IsRefusedBy limit input now g
  at_limit input (BadLine p) over un f = absurd over
  at_limit input (IdDiffers id found) over un f = absurd over
  at_limit input (Order p) over un f = absurd over
  at_limit input (TooLarge n) over un f = inr (over.0 ∙ limit_is, record { past = at_some (λ (rest : List ℕ). rest ≢ []) (past r left) (drop limit input) f over.2; unbroken = un })
  at_limit input (Truncated p) over un f = absurd over
  at_limit input SourceFailed over un f = record { read = take limit input; rest = drop limit input; whole = sym (take-append-drop limit input); left = over.1 ∙ f; unbroken = un }
  at_limit input KeeperFailed over un f = absurd over
  at_limit input NotEmpty over un f = absurd over
  at_limit input Memory over un f = absurd over

  -- a whole stream was read, and the limit was met
  pub passed_whole : (change : Change) (fault : StreamFault) → AreParts change r before (ahead r left) → PassesBy r now (past r left) fault → IfSome first (λ input. IsRefusedBy limit input now fault)
  passed_whole change fault parts passes = go first told_first told_past
    where
      go : (o : Option (List ℕ)) → before ≡ option_map (take limit) o → past r left ≡ option_map (drop limit) o → IfSome o (λ input. IsRefusedBy limit input now fault)
      go None e f = tt
      go (Some input) e f =
          let split = front_some parts.bytes (take limit input) (ahead r left) (sym e ∙ parts.read) in
          let none : split.0 ≡ [] = at_some (λ (rest : List ℕ). rest ≡ []) (ahead r left) split.0 split.1 parts.none in
          let whole : take limit input ≡ parts.bytes = split.2 ∙ ap (λ (t : List ℕ). parts.bytes ++ t) none ∙ append-nil parts.bytes in
          let text : IsStreamText (changed change empty_repository) (take limit input) = subst (IsStreamText (changed change empty_repository)) (sym whole) parts.text in
          at_limit input fault passes (inl (changed change empty_repository, text)) f

  -- the input ended, and the limit was met
  pub passed_cut : (fault : Break) (refusal : StreamFault) → IfSome before (λ text. FirstBreak text fault) → IsCut fault → PassesBy r now (past r left) refusal → IfSome first (λ input. IsRefusedBy limit input now refusal)
  passed_cut (break_.BadLine p) refusal bad cut passes = absurd cut
  passed_cut (break_.IdDiffers id found) refusal bad cut passes = absurd cut
  passed_cut (break_.Order p) refusal bad cut passes = absurd cut
  passed_cut (break_.TooLarge n) refusal bad cut passes = absurd cut
  passed_cut (break_.Cut p) refusal bad cut passes = go first told_first told_past
    where
      go : (o : Option (List ℕ)) → before ≡ option_map (take limit) o → past r left ≡ option_map (drop limit) o → IfSome o (λ input. IsRefusedBy limit input now refusal)
      go None e f = tt
      go (Some input) e f =
          let first_cut : FirstBreak (take limit input) (break_.Cut p) = at_some (λ text. FirstBreak text (break_.Cut p)) before (take limit input) e bad in
          let un : IsUnbroken (take limit input) = inr (subst (λ (k : ℕ). FirstBreak (take limit input) (break_.Cut k)) (cut_place (take limit input) p first_cut) first_cut) in
          at_limit input refusal passes un f
  passed_cut (break_.Failed p) refusal bad cut passes = absurd cut
  passed_cut break_.Memory refusal bad cut passes = absurd cut

  -- the input ended within the limit
  pub ended_cut : (was : Reading) (fault : Break) → IfSome before (λ text. FirstBreak text fault) → IsCut fault → StopsAt was r before (ahead r left) fault → EndsWithin r left now (past r left)
      → IfSome first (λ input. IsRefusedBy limit input now (from_break fault))
  ended_cut was (break_.BadLine p) bad cut stops ends = absurd cut
  ended_cut was (break_.IdDiffers id found) bad cut stops ends = absurd cut
  ended_cut was (break_.Order p) bad cut stops ends = absurd cut
  ended_cut was (break_.TooLarge n) bad cut stops ends = absurd cut
  ended_cut was (break_.Cut p) bad cut stops ends = go first told_first told_past
    where
      go : (o : Option (List ℕ)) → before ≡ option_map (take limit) o → past r left ≡ option_map (drop limit) o → IfSome o (λ input. IsRefusedBy limit input now (Truncated p))
      go None e f = tt
      go (Some input) e f =
          let first_cut : FirstBreak (take limit input) (break_.Cut p) = at_some (λ text. FirstBreak text (break_.Cut p)) before (take limit input) e bad in
          let place = cut_place (take limit input) p first_cut in
          let none : drop limit input ≡ [] = elim ends.within [
            | inl within ↦ all_within limit input (omega arith)
            | inr none_past ↦ at_some (λ (rest : List ℕ). rest ≡ []) (past r left) (drop limit input) f none_past
          ] in
          (none, first_cut)
  ended_cut was (break_.Failed p) bad cut stops ends = absurd cut
  ended_cut was break_.Memory bad cut stops ends = absurd cut

  -- something broke before the input ended
  pub broken : (was : Reading) (fault : Break) → was.taken ≡ 0 → IfSome before (λ text. FirstBreak text fault) → (IsCut fault → ⊥) → StopsAt was r before (ahead r left) fault → IfSome first (λ input. IsRefusedBy limit input left (from_break fault))
  broken was fault zero bad no_cut stops = go first told_first told_past
    where
      at : (input : List ℕ) (g : Break) → before ≡ Some (take limit input) → past r left ≡ Some (drop limit input) → (IsCut g → ⊥) → FirstBreak (take limit input) g → StopsAt was r before (ahead r left) g → IsRefusedBy limit input left (from_break g)
      at input (break_.BadLine p) e f uncut is st = is
      at input (break_.IdDiffers id found) e f uncut is st = is
      at input (break_.Order p) e f uncut is st = is
      at input (break_.TooLarge n) e f uncut is st = inl is
      at input (break_.Cut p) e f uncut is st = absurd (uncut tt)
      at input (break_.Failed p) e f uncut is st =
          let un = failed_unbroken (take limit input) p is in
          let split = front_some st.part (take limit input) (ahead r left) (sym e ∙ st.read) in
          let same_length : length st.part ≡ length un.read = let a = st.taken in let b = st.place in let d = un.place in omega arith in
          let same = same_fronts st.part un.read split.0 un.more same_length (sym split.2 ∙ un.whole) in
          record {
            read = un.read;
            rest = split.0 ++ drop limit input;
            whole = sym (take-append-drop limit input) ∙ ap (λ (t : List ℕ). t ++ drop limit input) (split.2 ∙ ap (λ (t : List ℕ). t ++ split.0) same.0) ∙ append_assoc un.read split.0 (drop limit input);
            left = rejoin r left split.0 (drop limit input) st.drained split.1 f;
            unbroken = un.unbroken;
          }
      at input break_.Memory e f uncut is st = is

      go : (o : Option (List ℕ)) → before ≡ option_map (take limit) o → past r left ≡ option_map (drop limit) o → IfSome o (λ input. IsRefusedBy limit input left (from_break fault))
      go None e f = tt
      go (Some input) e f = at input fault e f no_cut (at_some (λ text. FirstBreak text fault) before (take limit input) e bad) stops
