-- A whole stream that is written part by part.
use Rattle.std.proofs.Common.{◌≡◌, ◌≤◌, ◌<◌, ◌+◌, ℕ, List, [], ◌∷◌, ◌++◌, Option, Some, inl, inr, length, refl, sym, ap, ◌∙◌, append_assoc, arith, length-append}
use Rattle.std.specs.Prelude.{Err}
use Rattle.std.specs.List.{AllByRecursion, flat_map}
use Rattle.std.specs.FinMap.{entries}
use Rattle.std.proofs.lemmas.List.{append-nil}
use Rattle.octets.specs.Content.{Stays, with_end}
use Rattle.edge_io.proofs.Parts.{with_ends}
use Rattle.git_object.specs.Repository.{Repository}
use Rattle.clone_stream.specs.Exporting.{Exports, IsFrontText, RefusesExport, RefusesText}
use Rattle.clone_stream.specs.Exports.{Halts, HaltsAt, IsDamaged, IsFrontOf, IsNever, IsPut, IsRun, Puts, objects_in, refs_in}
use Rattle.clone_stream.specs.Streams.{IsOwn, IsRef, end_line, header, largest_stream, object_record, ref_record, stream_text}
use Rattle.clone_stream.specs.declared.export_faults.ExportFault.{ExportFault}
use Rattle.clone_stream.specs.declared.export_faults.ExportFault.TheVariants.{Damaged, TooLarge, KeeperFailed, SinkFailed, Memory}
use Rattle.clone_stream.proofs.Pieces.{no_end, put_then}

-- ---- the first line

first_front : (r : Repository) (front more : List ℕ) → header ≡ front ++ more → IsFrontText r front
first_front r front more e = inl (record { first = []; rest = entries r.objects; more = more; whole = refl; own = tt; is = sym e ∙ sym (append-nil header); within = let same = ap length e in let few : length header ≡ 16 = refl in omega arith })

pub header_refused : (content : Option Repository) (o n : Option (List ℕ)) (fault : ExportFault) → Puts header 0 o n (Err fault) → RefusesExport content o n fault
header_refused content o n (Damaged id) put = absurd put
header_refused content o n (TooLarge limit) put =
    let past = put.past in
    let few : length header ≡ 16 = refl in
    absurd (omega arith)
header_refused content o n KeeperFailed put = absurd put
header_refused content o n SinkFailed put =
    let part = put.part in
    record {
      front = part.front;
      gained = part.gained;
      within =
          let whole = ap length part.whole in
          let parts = length-append part.front part.rest in
          let few = put.within in
          omega arith;
      told = λ r _. first_front r part.front part.rest part.whole;
    }
header_refused content o n Memory put = record { front = []; gained = put.same ∙ no_end o; within = omega arith; told = λ r _. first_front r [] header refl }

-- ---- the objects

module _ (r : Repository) (start : ℕ) (is_start : start ≡ length header) (text : List ℕ) where
  objects_front : IsFrontOf object_record IsOwn (entries r.objects) start text → IsFrontText r (header ++ text)
  objects_front so =
      let is = append_assoc header text so.more ∙ ap (λ (t : List ℕ). header ++ t) (sym so.is) in
      inl (record {
        first = so.first;
        rest = so.rest;
        more = so.more;
        whole = so.whole;
        own = so.each;
        is = is;
        within = let same = ap length is in let both = length-append header (flat_map object_record so.first) in let few = so.within in omega arith;
      })

  objects_told : start + length text ≤ largest_stream → (fault : ExportFault) → HaltsAt object_record IsOwn IsDamaged (entries r.objects) start text fault → RefusesText r (header ++ text) fault
  objects_told few (Damaged id) at = record {
    first = at.first;
    pair = at.value;
    rest = at.rest;
    whole = at.whole;
    own = at.each;
    damaged = at.bad;
    within =
        let both = length-append header (flat_map object_record at.first) in
        let same = ap length at.is in
        omega arith;
    is = ap (λ (t : List ℕ). header ++ t) at.is;
  }
  objects_told few (TooLarge limit) at = (
    at.0,
    inl (record {
      first = at.1.first;
      rest = at.1.rest;
      whole = at.1.whole;
      own = at.1.each;
      past = let both = length-append header (flat_map object_record at.1.first) in let past = at.1.past in omega arith;
    }),
    inl (record {
      first = at.2.first;
      next = at.2.next;
      rest = at.2.rest;
      whole = at.2.whole;
      own = at.2.each;
      is = ap (λ (t : List ℕ). header ++ t) at.2.is;
      past =
          let both = length-append (header ++ text) (object_record at.2.next) in
          let parts = length-append header text in
          let past = at.2.past in
          omega arith;
    }),
  )
  objects_told few KeeperFailed at = objects_front at
  objects_told few SinkFailed at = objects_front at
  objects_told few Memory at = objects_front at

-- the first line and all objects went out
pub record WroteObjects (content : Option Repository) (before now : Option (List ℕ)) (written : ℕ) : Type 0 where
  pub text : List ℕ
  pub put : IsPut text 0 before now written
  pub own : (r : Repository) → content ≡ Some r → AllByRecursion IsOwn (entries r.objects)
  pub is : (r : Repository) → content ≡ Some r → text ≡ header ++ flat_map object_record (entries r.objects)

module _ (content : Option Repository) (o m n : Option (List ℕ)) (start : ℕ) (first : IsPut header 0 o m start) where
  pub objects_refused : (fault : ExportFault) → Halts object_record IsOwn IsDamaged objects_in content start m n fault → RefusesExport content o n fault
  objects_refused fault halts =
      let is_start : start ≡ length header = let e = first.long in omega arith in
      record {
        front = header ++ halts.text;
        gained = halts.gained ∙ ap (λ (p : Option (List ℕ)). with_end p halts.text) first.gained ∙ with_ends o header halts.text;
        within = let both = length-append header halts.text in let few = halts.within in omega arith;
        told = λ r told. objects_told r start is_start halts.text halts.within fault (halts.told r told);
      }

  pub objects_written : (now : ℕ) → IsRun object_record IsOwn objects_in content start m n now → WroteObjects content o n now
  objects_written now run = record {
    text = header ++ run.text;
    put = put_then header run.text 0 start now o m n first run.put;
    own = run.each;
    is = λ r told. ap (λ (t : List ℕ). header ++ t) (run.is r told);
  }

-- ---- the references

flat_both : {X : Type 0} (f : X → List ℕ) (xs ys : List X) → flat_map f (xs ++ ys) ≡ flat_map f xs ++ flat_map f ys
flat_both f [] ys = refl
flat_both f (x ∷ xs) ys = ap (λ (t : List ℕ). f x ++ t) (flat_both f xs ys) ∙ sym (append_assoc (f x) (flat_map f xs) (flat_map f ys))

-- the text of a repository, cut in its references
cut : (r : Repository) (first rest : List (List ℕ × List ℕ)) → entries r.refs ≡ first ++ rest
    → stream_text r ≡ (header ++ flat_map object_record (entries r.objects)) ++ (flat_map ref_record first ++ (flat_map ref_record rest ++ end_line))
cut r first rest whole =
    let objects = flat_map object_record (entries r.objects) in
    let refs : flat_map ref_record (entries r.refs) ++ end_line ≡ flat_map ref_record first ++ (flat_map ref_record rest ++ end_line) =
    ap (λ (es : List (List ℕ × List ℕ)). flat_map ref_record es ++ end_line) whole ∙ ap (λ (t : List ℕ). t ++ end_line) (flat_both ref_record first rest)
    ∙ append_assoc (flat_map ref_record first) (flat_map ref_record rest) end_line
    in
    ap (λ (t : List ℕ). header ++ (objects ++ t)) refs ∙ sym (append_assoc header objects (flat_map ref_record first ++ (flat_map ref_record rest ++ end_line)))

module _ (r : Repository) (own : AllByRecursion IsOwn (entries r.objects)) (a : List ℕ) (is : a ≡ header ++ flat_map object_record (entries r.objects)) (text : List ℕ) (start : ℕ) (is_start : start ≡ length a) where
  refs_front : IsFrontOf ref_record IsRef (entries r.refs) start text → IsFrontText r (a ++ text)
  refs_front so =
      let refs = flat_map ref_record so.first in
      let joined : (a ++ text) ++ so.more ≡ a ++ refs = append_assoc a text so.more ∙ ap (λ (t : List ℕ). a ++ t) (sym so.is) in
      inr (inl (record {
        first = so.first;
        rest = so.rest;
        more = so.more;
        own = own;
        whole = so.whole;
        is = joined ∙ ap (λ (t : List ℕ). t ++ refs) is ∙ append_assoc header (flat_map object_record (entries r.objects)) refs;
        within = let same = ap length joined in let both = length-append a refs in let few = so.within in omega arith;
      }))

  refs_told : (fault : ExportFault) → HaltsAt ref_record IsRef IsNever (entries r.refs) start text fault → RefusesText r (a ++ text) fault
  refs_told (Damaged id) at = absurd at.bad
  refs_told (TooLarge limit) at = (
    at.0,
    inr (record {
      own = own;
      past =
          let others = flat_map ref_record at.1.rest ++ end_line in
          let whole = ap length (cut r at.1.first at.1.rest at.1.whole) in
          let both = length-append (header ++ flat_map object_record (entries r.objects)) (flat_map ref_record at.1.first ++ others) in
          let parts = length-append (flat_map ref_record at.1.first) others in
          let same = ap length is in
          let past = at.1.past in
          omega arith;
    }),
    inr (inl (record {
      own = own;
      first = at.2.first;
      next = at.2.next;
      rest = at.2.rest;
      whole = at.2.whole;
      is =
          let refs = flat_map ref_record at.2.first in
          ap (λ (t : List ℕ). a ++ t) at.2.is ∙ ap (λ (t : List ℕ). t ++ refs) is ∙ append_assoc header (flat_map object_record (entries r.objects)) refs;
      past =
          let both = length-append (a ++ text) (ref_record at.2.next) in
          let parts = length-append a text in
          let past = at.2.past in
          omega arith;
    })),
  )
  refs_told KeeperFailed at = refs_front at
  refs_told SinkFailed at = refs_front at
  refs_told Memory at = refs_front at

-- all but the last line went out
pub record WroteRefs (content : Option Repository) (before now : Option (List ℕ)) (written : ℕ) : Type 0 where
  pub text : List ℕ
  pub put : IsPut text 0 before now written
  pub own : (r : Repository) → content ≡ Some r → AllByRecursion IsOwn (entries r.objects)
  pub refs : (r : Repository) → content ≡ Some r → AllByRecursion IsRef (entries r.refs)
  pub is : (r : Repository) → content ≡ Some r → text ≡ header ++ (flat_map object_record (entries r.objects) ++ flat_map ref_record (entries r.refs))

module _ (content content_now : Option Repository) (o m n : Option (List ℕ)) (start : ℕ) (wrote : WroteObjects content o m start) (stays : Stays content content_now) where
  pub refs_refused : (fault : ExportFault) → Halts ref_record IsRef IsNever refs_in content_now start m n fault → RefusesExport content_now o n fault
  refs_refused fault halts =
      let is_start : start ≡ length wrote.text = let e = wrote.put.long in omega arith in
      record {
        front = wrote.text ++ halts.text;
        gained = halts.gained ∙ ap (λ (p : Option (List ℕ)). with_end p halts.text) wrote.put.gained ∙ with_ends o wrote.text halts.text;
        within = let both = length-append wrote.text halts.text in let few = halts.within in omega arith;
        told = λ r told. refs_told r (wrote.own r (stays r told)) wrote.text (wrote.is r (stays r told)) halts.text start is_start fault (halts.told r told);
      }

  pub refs_written : (now : ℕ) → IsRun ref_record IsRef refs_in content_now start m n now → WroteRefs content_now o n now
  refs_written now run = record {
    text = wrote.text ++ run.text;
    put = put_then wrote.text run.text 0 start now o m n wrote.put run.put;
    own = λ r told. wrote.own r (stays r told);
    refs = run.each;
    is = λ r told.
        let objects = flat_map object_record (entries r.objects) in
        ap (λ (t : List ℕ). t ++ run.text) (wrote.is r (stays r told)) ∙ append_assoc header objects run.text
        ∙ ap (λ (t : List ℕ). header ++ (objects ++ t)) (run.is r told);
  }

-- ---- the last line

module _ (content : Option Repository) (o m n : Option (List ℕ)) (written : ℕ) (wrote : WroteRefs content o m written) where
  -- with the last line it is the text
  ends : (r : Repository) → content ≡ Some r → wrote.text ++ end_line ≡ stream_text r
  ends r told =
      let objects = flat_map object_record (entries r.objects) in
      let refs = flat_map ref_record (entries r.refs) in
      ap (λ (t : List ℕ). t ++ end_line) (wrote.is r told) ∙ append_assoc header (objects ++ refs) end_line
      ∙ ap (λ (t : List ℕ). header ++ t) (append_assoc objects refs end_line)

  before_end : (r : Repository) → content ≡ Some r → IsFrontText r wrote.text
  before_end r told =
      let none = append-nil wrote.text in
      inr (inl (record {
        first = entries r.refs;
        rest = [];
        more = [];
        own = wrote.own r told;
        whole = sym (append-nil (entries r.refs));
        is = none ∙ wrote.is r told;
        within = let same = ap length none in let few = wrote.put.within in let long = wrote.put.long in omega arith;
      }))

  in_end : (r : Repository) → content ≡ Some r → (a b : List ℕ) → 0 < length b → written + length end_line ≤ largest_stream → end_line ≡ a ++ b → IsFrontText r (wrote.text ++ a)
  in_end r told a b less few e =
      let is = append_assoc wrote.text a b ∙ ap (λ (t : List ℕ). wrote.text ++ t) (sym e) in
      inr (inr (record {
        more = b;
        less = less;
        own = wrote.own r told;
        is = is ∙ ends r told;
        within = let same = ap length is in let both = length-append wrote.text end_line in let long = wrote.put.long in omega arith;
      }))

  pub end_refused : (fault : ExportFault) → Puts end_line written m n (Err fault) → RefusesExport content o n fault
  end_refused (Damaged id) put = absurd put
  end_refused (TooLarge limit) put = record {
    front = wrote.text;
    gained = put.same ∙ wrote.put.gained;
    within = let few = wrote.put.within in let long = wrote.put.long in omega arith;
    told = λ r told. (
      put.is_limit,
      inr (record {
        own = wrote.own r told;
        past =
            let past = put.past in
            let long = wrote.put.long in
            let both = length-append wrote.text end_line in
            let whole = ap length (ends r told) in
            omega arith;
      }),
      inr (inr (record {
        own = wrote.own r told;
        is = ends r told;
        past =
            let past = put.past in
            let long = wrote.put.long in
            let both = length-append wrote.text end_line in
            omega arith;
      })),
    );
  }
  end_refused KeeperFailed put = absurd put
  end_refused SinkFailed put =
      let part = put.part in
      record {
        front = wrote.text ++ part.front;
        gained = part.gained ∙ ap (λ (p : Option (List ℕ)). with_end p part.front) wrote.put.gained ∙ with_ends o wrote.text part.front;
        within =
            let few = put.within in
            let long = wrote.put.long in
            let both = length-append wrote.text part.front in
            let whole = ap length part.whole in
            let parts = length-append part.front part.rest in
            omega arith;
        told = λ r told. in_end r told part.front part.rest part.less put.within part.whole;
      }
  end_refused Memory put = record {
    front = wrote.text;
    gained = put.same ∙ wrote.put.gained;
    within = let few = wrote.put.within in let long = wrote.put.long in omega arith;
    told = before_end;
  }

  pub exported : (now : ℕ) → IsPut end_line written m n now → Exports content o n
  exported now last =
      let whole = put_then wrote.text end_line 0 written now o m n wrote.put last in
      record {
        text = wrote.text ++ end_line;
        gained = whole.gained;
        within = let few = whole.within in let long = whole.long in omega arith;
        told = λ r told. record { objects = wrote.own r told; refs = wrote.refs r told; text = ends r told };
      }
