-- No place is dead: from each there is a way to the end. So the first line that is not as wanted is the first after which no entry goes on.
use Rattle.std.proofs.Common.{◌≡◌, ℕ, zero, suc, ◌+◌, ◌-◌, ◌≤◌, ◌==◌, Bool, true, false, not, ◌&&◌, List, [], ◌∷◌, ◌++◌, length, take, Option, Some, None, Ok, Err, lit≤, refl, sym, ap, subst, arith}
use Rattle.std.specs.Prelude.{IsOk, codes, if◌then◌else◌}
use Rattle.std.specs.Str.{bytes_eq}
use Rattle.std.proofs.Math.Utf8.{encode}
use Rattle.std.proofs.lemmas.Bool.{false≢true}
use Rattle.base64.specs.Decode.{groups_error, groups_bytes, scan_steps}
use Rattle.base64.specs.GeneralPurpose.{decoded_of}
use Rattle.hex.specs.Hex.{encode_lower}
use Rattle.git_object.specs.Ids.{zeros}
use Rattle.git_object.specs.Names.{IsRefName, log_name}
use Rattle.git_object.proofs.IdLemmas.{IsId-zeros}
use Rattle.git_object.proofs.NameTests.{test_from_name}
use Rattle.rsl_chain.specs.FirstWrong.{FirstWrong, GoesOn, IsFirstWrong}
use Rattle.rsl_chain.specs.Grammar.{may_end, message_end, name_step, start, step, target_step, tree_line, first_id_step}
use Rattle.rsl_chain.specs.Lines.{id_after, lines, name_after, number_text}
use Rattle.rsl_chain.specs.Reading.{Reading, at_end, entry_as, goes_on, judge, no_parts, put, reading}
use Rattle.rsl_chain.specs.declared.parts.Parts.{Parts}
use Rattle.rsl_chain.specs.declared.places.Part.TheVariants.{Nothing, Name, Target, Id, Number, Piece, Skip}
use Rattle.rsl_chain.specs.declared.places.Place.{Place}
use Rattle.rsl_chain.specs.declared.places.Step.{Step}
use Rattle.rsl_chain.specs.declared.places.Want.{Want}
use Rattle.rsl_chain.specs.declared.places.Want.TheVariants.{Tree, ParentOrAuthor, Author, Committer, SignatureOrGap, Gap, Title, ReferenceGap, ReferenceName, ReferenceTarget, ReferenceNumber, AnnotationGap, FirstId, IdOrSkip, AnnotationNumber, MessageOrEnd, FirstPiece, PieceOrMessageEnd, MessageEnd, End}
use Rattle.rsl_chain.proofs.Runs.{at}
use Rattle.rsl_chain.proofs.WrittenWords.{id_read}

abbrev Alive : Place → Type 0
Alive p = GoesOn p []

by : (p : Place) (line : List ℕ) (s : Step) → step p line ≡ Some s → Alive s.place → Alive p
by p line s steps alive = (
  line ∷ alive.0,
  λ parts n.
      subst (λ (o : Option Step). IsOk (goes_on o n (λ s. judge [] alive.0 s.place (put s.part line parts) (n + 1)))) (sym steps) (alive.1 (put s.part line parts) (n + 1)),
)

-- ---- lines that stand

id_line : (word : List ℕ) → id_after word (word ++ encode_lower zeros) ≡ Some zeros
id_line word = id_read word zeros IsId-zeros

abbrev some_name : List ℕ
some_name = codes "refs/a"

some_name_is : IsRefName some_name
unfolding encode
some_name_is = record {
  begins = refl;
  utf8 = (some_name, (refl, refl));
  short = lit≤ tt;
  few = lit≤ tt;
  whole = refl;
  plain = refl;
  no_dots = refl;
  no_at = refl;
  no_dot_last = refl;
}

name_line : name_after (codes "ref: refs/a") ≡ Some some_name
name_line = ap (λ (b : Bool). if b && not (bytes_eq some_name log_name) then Some some_name else None) (test_from_name some_name some_name_is)

-- ---- a way from each place

live_end : (parent : Option (List ℕ)) (number ids : ℕ) → Alive (at End parent number ids)
live_end parent number ids = ([], λ parts n. refl)

live_message_or_end : (parent : Option (List ℕ)) (number ids : ℕ) → Alive (at MessageOrEnd parent number ids)
live_message_or_end parent number ids = ([], λ parts n. refl)

live_message_end : (parent : Option (List ℕ)) (number ids : ℕ) → Alive (at MessageEnd parent number ids)
unfolding step
live_message_end parent number ids = by (at MessageEnd parent number ids) message_end (record { place = at End parent number ids; part = Nothing }) refl (live_end parent number ids)

live_piece_or_end : (parent : Option (List ℕ)) (number ids : ℕ) → Alive (at PieceOrMessageEnd parent number ids)
unfolding step
live_piece_or_end parent number ids = by (at PieceOrMessageEnd parent number ids) message_end (record { place = at End parent number ids; part = Nothing }) refl (live_end parent number ids)

live_first_piece : (parent : Option (List ℕ)) (number ids : ℕ) → Alive (at FirstPiece parent number ids)
unfolding step decoded_of groups_error groups_bytes scan_steps
live_first_piece parent number ids =
    by (at FirstPiece parent number ids) (codes "AAAA") (record { place = at MessageEnd parent number ids; part = Piece (0 ∷ 0 ∷ 0 ∷ []) }) refl (live_message_end parent number ids)

live_reference_number : (parent : Option (List ℕ)) (number ids : ℕ) → Alive (at ReferenceNumber parent number ids)
unfolding step number_text
live_reference_number None number ids =
    by (at ReferenceNumber None number ids) (codes "number: 1") (record { place = at End None 1 ids; part = Number 1 }) refl (live_end None 1 ids)
live_reference_number (Some id) number ids =
    by (at ReferenceNumber (Some id) number ids) (codes "number: 2") (record { place = at End (Some id) 2 ids; part = Number 2 }) refl (live_end (Some id) 2 ids)

live_annotation_number : (parent : Option (List ℕ)) (number ids : ℕ) → Alive (at AnnotationNumber parent number ids)
unfolding step number_text
live_annotation_number None number ids =
    by (at AnnotationNumber None number ids) (codes "number: 1") (record { place = at MessageOrEnd None 1 ids; part = Number 1 }) refl (live_message_or_end None 1 ids)
live_annotation_number (Some id) number ids =
    by (at AnnotationNumber (Some id) number ids) (codes "number: 2") (record { place = at MessageOrEnd (Some id) 2 ids; part = Number 2 }) refl (live_message_or_end (Some id) 2 ids)

live_target : (parent : Option (List ℕ)) (number ids : ℕ) → Alive (at ReferenceTarget parent number ids)
unfolding step
live_target parent number ids =
    let p = at ReferenceTarget parent number ids in
    by p (codes "targetID: " ++ encode_lower zeros) (record { place = at ReferenceNumber parent number ids; part = Target zeros })
    (ap (λ (o : Option (List ℕ)). target_step o p) (id_line (codes "targetID: "))) (live_reference_number parent number ids)

live_name : (parent : Option (List ℕ)) (number ids : ℕ) → Alive (at ReferenceName parent number ids)
unfolding step
live_name parent number ids =
    let p = at ReferenceName parent number ids in
    by p (codes "ref: refs/a") (record { place = at ReferenceTarget parent number ids; part = Name some_name })
    (ap (λ (o : Option (List ℕ)). name_step o p) name_line) (live_target parent number ids)

live_reference_gap : (parent : Option (List ℕ)) (number ids : ℕ) → Alive (at ReferenceGap parent number ids)
unfolding step
live_reference_gap parent number ids = by (at ReferenceGap parent number ids) [] (record { place = at ReferenceName parent number ids; part = Nothing }) refl (live_name parent number ids)

live_id_or_skip : (parent : Option (List ℕ)) (number ids : ℕ) → Alive (at IdOrSkip parent number ids)
unfolding step
live_id_or_skip parent number ids =
    by (at IdOrSkip parent number ids) (codes "skip: true") (record { place = at AnnotationNumber parent number ids; part = Skip true }) refl (live_annotation_number parent number ids)

live_first_id : (parent : Option (List ℕ)) (number ids : ℕ) → Alive (at FirstId parent number ids)
unfolding step
live_first_id parent number ids =
    let p = at FirstId parent number ids in
    by p (codes "entryID: " ++ encode_lower zeros) (record { place = at IdOrSkip parent number 1; part = Id zeros })
    (ap (λ (o : Option (List ℕ)). first_id_step o p) (id_line (codes "entryID: "))) (live_id_or_skip parent number 1)

live_annotation_gap : (parent : Option (List ℕ)) (number ids : ℕ) → Alive (at AnnotationGap parent number ids)
unfolding step
live_annotation_gap parent number ids = by (at AnnotationGap parent number ids) [] (record { place = at FirstId parent number ids; part = Nothing }) refl (live_first_id parent number ids)

live_title : (parent : Option (List ℕ)) (number ids : ℕ) → Alive (at Title parent number ids)
unfolding step
live_title parent number ids =
    by (at Title parent number ids) (codes "RSL Reference Entry") (record { place = at ReferenceGap parent number ids; part = Nothing }) refl (live_reference_gap parent number ids)

live_gap : (parent : Option (List ℕ)) (number ids : ℕ) → Alive (at Gap parent number ids)
unfolding step
live_gap parent number ids = by (at Gap parent number ids) [] (record { place = at Title parent number ids; part = Nothing }) refl (live_title parent number ids)

live_signature : (parent : Option (List ℕ)) (number ids : ℕ) → Alive (at SignatureOrGap parent number ids)
unfolding step
live_signature parent number ids = by (at SignatureOrGap parent number ids) [] (record { place = at Title parent number ids; part = Nothing }) refl (live_title parent number ids)

live_committer : (parent : Option (List ℕ)) (number ids : ℕ) → Alive (at Committer parent number ids)
unfolding step
live_committer parent number ids =
    by (at Committer parent number ids) (codes "committer ") (record { place = at SignatureOrGap parent number ids; part = Nothing }) refl (live_signature parent number ids)

live_author : (parent : Option (List ℕ)) (number ids : ℕ) → Alive (at Author parent number ids)
unfolding step
live_author parent number ids = by (at Author parent number ids) (codes "author ") (record { place = at Committer parent number ids; part = Nothing }) refl (live_committer parent number ids)

live_parent : (parent : Option (List ℕ)) (number ids : ℕ) → Alive (at ParentOrAuthor parent number ids)
unfolding step
live_parent parent number ids = by (at ParentOrAuthor parent number ids) (codes "author ") (record { place = at Committer parent number ids; part = Nothing }) refl (live_committer parent number ids)

live_tree : (parent : Option (List ℕ)) (number ids : ℕ) → Alive (at Tree parent number ids)
unfolding step
live_tree parent number ids = by (at Tree parent number ids) tree_line (record { place = at ParentOrAuthor parent number ids; part = Nothing }) refl (live_parent parent number ids)

live_at : (want : Want) (parent : Option (List ℕ)) (number ids : ℕ) → Alive (at want parent number ids)
live_at Tree parent number ids = live_tree parent number ids
live_at ParentOrAuthor parent number ids = live_parent parent number ids
live_at Author parent number ids = live_author parent number ids
live_at Committer parent number ids = live_committer parent number ids
live_at SignatureOrGap parent number ids = live_signature parent number ids
live_at Gap parent number ids = live_gap parent number ids
live_at Title parent number ids = live_title parent number ids
live_at ReferenceGap parent number ids = live_reference_gap parent number ids
live_at ReferenceName parent number ids = live_name parent number ids
live_at ReferenceTarget parent number ids = live_target parent number ids
live_at ReferenceNumber parent number ids = live_reference_number parent number ids
live_at AnnotationGap parent number ids = live_annotation_gap parent number ids
live_at FirstId parent number ids = live_first_id parent number ids
live_at IdOrSkip parent number ids = live_id_or_skip parent number ids
live_at AnnotationNumber parent number ids = live_annotation_number parent number ids
live_at MessageOrEnd parent number ids = live_message_or_end parent number ids
live_at FirstPiece parent number ids = live_first_piece parent number ids
live_at PieceOrMessageEnd parent number ids = live_piece_or_end parent number ids
live_at MessageEnd parent number ids = live_message_end parent number ids
live_at End parent number ids = live_end parent number ids

live : (p : Place) → Alive p
live p = live_at p.want p.parent p.number p.ids

-- ---- the law

-- whether a body is read hangs neither on the parts so far nor on the number of the line
same_end : (b : Bool) (p : Place) (parts other : Parts) (m n : ℕ) → IsOk (at_end b p parts m) → IsOk (at_end b p other n)
same_end true p parts other m n is = refl
same_end false p parts other m n is = is

same_on : (o : Option Step) (line : List ℕ) (m n : ℕ) (f g : Step → Reading) → ((s : Step) → IsOk (f s) → IsOk (g s)) → IsOk (goes_on o m f) → IsOk (goes_on o n g)
same_on None line m n f g all is = is
same_on (Some s) line m n f g all is = all s is

same_ok : (tail : List ℕ) (ls : List (List ℕ)) (p : Place) (parts other : Parts) (m n : ℕ) → IsOk (judge tail ls p parts m) → IsOk (judge tail ls p other n)
same_ok tail [] p parts other m n is = same_end (may_end p.want && length tail == 0) p parts other m n is
same_ok tail (line ∷ more) p parts other m n is =
    same_on (step p line) line m n (λ s. judge tail more s.place (put s.part line parts) (m + 1)) (λ s. judge tail more s.place (put s.part line other) (n + 1))
    (λ s. same_ok tail more s.place (put s.part line parts) (put s.part line other) (m + 1) (n + 1)) is

onto : (p : Place) (line : List ℕ) (s : Step) (front : List (List ℕ)) → step p line ≡ Some s → GoesOn s.place front → GoesOn p (line ∷ front)
onto p line s front steps on = (
  on.0,
  λ parts n.
      subst (λ (o : Option Step). IsOk (goes_on o n (λ s. judge [] (front ++ on.0) s.place (put s.part line parts) (n + 1)))) (sym steps) (on.1 (put s.part line parts) (n + 1)),
)

past : (p : Place) (line : List ℕ) (s : Step) (front : List (List ℕ)) → step p line ≡ Some s → GoesOn p (line ∷ front) → GoesOn s.place front
past p line s front steps on = (
  on.0,
  λ parts n.
      same_ok [] (front ++ on.0) s.place (put s.part line no_parts) parts 1 n
      (subst (λ (o : Option Step). IsOk (goes_on o 0 (λ s. judge [] (front ++ on.0) s.place (put s.part line no_parts) 1))) steps (on.1 no_parts 0)),
)

dead : (p : Place) (line : List ℕ) → step p line ≡ None → GoesOn p (line ∷ []) → ⊥
dead p line steps on =
    false≢true (subst (λ (o : Option Step). IsOk (goes_on o 0 (λ s. judge [] on.0 s.place (put s.part line no_parts) 1))) steps (on.1 no_parts 0))

at_stop : (b : Bool) (p : Place) (parts : Parts) (first n : ℕ) → at_end b p parts first ≡ Err n → n ≡ first
at_stop true p parts first n is = cc is
at_stop false p parts first n is = cc is

nothing : (k : ℕ) → ◌≡◌ {A = List (List ℕ)} (take k []) []
nothing zero = refl
nothing (suc k) = refl

stopped : (p : Place) (first n : ℕ) → n ≡ first → IsFirstWrong p [] first n
stopped p first n same = record {
  from = omega (arith, same);
  within = omega (arith, same);
  before = subst (GoesOn p) (sym (nothing (n - first))) (live p);
  wrong = λ less on. absurd (omega (arith, same, less));
}

one_less : (first n : ℕ) → first + 1 ≤ n → n - first ≡ suc (n - (first + 1))
one_less first n from = omega (arith, from)

one_more : (first n : ℕ) → first + 1 ≤ n → n - first + 1 ≡ suc (n - (first + 1) + 1)
one_more first n from = omega (arith, from)

stepped : (tail : List ℕ) (line : List ℕ) (more : List (List ℕ)) (p : Place) (parts : Parts) (first n : ℕ) (o : Option Step) → step p line ≡ o
    → goes_on o first (λ s. judge tail more s.place (put s.part line parts) (first + 1)) ≡ Err n
    → ((s : Step) → judge tail more s.place (put s.part line parts) (first + 1) ≡ Err n → IsFirstWrong s.place more (first + 1) n)
    → IsFirstWrong p (line ∷ more) first n
stepped tail line more p parts first n None steps is again =
    let same : n ≡ first = cc is in
    let none : n - first ≡ 0 = omega (arith, same) in
    record {
      from = omega (arith, same);
      within = omega (arith, same);
      before = subst (λ (k : ℕ). GoesOn p (take k (line ∷ more))) (sym none) (live p);
      wrong = λ less on. dead p line steps (subst (λ (k : ℕ). GoesOn p (take (k + 1) (line ∷ more))) none on);
    }
stepped tail line more p parts first n (Some s) steps is again =
    let later = again s is in
    let from = later.from in
    let within = later.within in
    let less = one_less first n from in
    record {
      from = omega (arith, from);
      within = omega (arith, within);
      before = subst (λ (k : ℕ). GoesOn p (take k (line ∷ more))) (sym less) (onto p line s (take (n - (first + 1)) more) steps later.before);
      wrong = λ below on.
          later.wrong (omega (arith, below, from))
          (past p line s (take (n - (first + 1) + 1) more) steps (subst (λ (k : ℕ). GoesOn p (take k (line ∷ more))) (one_more first n from) on));
    }

first_wrong : (tail : List ℕ) (ls : List (List ℕ)) (p : Place) (parts : Parts) (first n : ℕ) → judge tail ls p parts first ≡ Err n → IsFirstWrong p ls first n
first_wrong tail [] p parts first n is = stopped p first n (at_stop (may_end p.want && length tail == 0) p parts first n is)
first_wrong tail (line ∷ more) p parts first n is =
    stepped tail line more p parts first n (step p line) refl is (λ s. first_wrong tail more s.place (put s.part line parts) (first + 1) n)

unread : (id : List ℕ) (read : Reading) (n : ℕ) → entry_as id read ≡ Err n → read ≡ Err n
unread id (Ok read) n is = cc is
unread id (Err m) n is = let same : m ≡ n = cc is in ap (λ (k : ℕ). Err k) same

pub wrong_first : FirstWrong
wrong_first body n is = first_wrong (lines body).1 (lines body).0 start no_parts 1 n (unread _ (reading body) n is)
