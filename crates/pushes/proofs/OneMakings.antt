-- An entry has one push at most, or lacks one object first, or is too large.
use Rattle.std.proofs.Common.{◌≡◌, ℕ, ◌≤◌, List, [], ◌∷◌, ◌++◌, Option, Some, None, length, sym, ap, ◌∙◌, arith}
use Rattle.std.specs.Option.{option_and_then}
use Rattle.git_object.specs.Objects.{Pair}
use Rattle.git_object.specs.Repository.{Repository, object_at}
use Rattle.rsl_chain.specs.Logs.{entry_at, entry_of_pair}
use Rattle.rsl_chain.specs.declared.entries.Entry.{Entry}
use Rattle.pushes.specs.Pushes.{largest_push, push_text}
use Rattle.pushes.proofs.EntryLines.{pair_entry_id}
use Rattle.pushes.specs.MakingLaws.{OneGo, OneMaking}
use Rattle.pushes.specs.Making.{IsMade, first_missing, kept_among, text_with}
use Rattle.pushes.proofs.Values.{same_some}
use Rattle.pushes.proofs.Values as values

pub one_go : OneGo
one_go = values.one_go

-- the entry that is read at an id has it
pub read_id : (r : Repository) (id : List ℕ) (entry : Entry) → entry_at r id ≡ Some entry → entry.id ≡ id
read_id r id entry read = by_object (object_at r id) read
  where
    by_object : (o : Option Pair) → option_and_then (λ (pair : Pair). entry_of_pair id pair.kind pair.body) o ≡ Some entry → entry.id ≡ id
    by_object None e = absurd (cc e)
    by_object (Some pair) e = pair_entry_id id pair.kind pair.body entry e

module _ (r : Repository) (before : List (List ℕ)) (id text : List ℕ) (made : IsMade r before id text) where
  text_is : text ≡ text_with r id made.ids
  text_is = made.is.text_is ∙ ap (push_text (kept_among r (made.ids ++ id ∷ []))) (read_id r id made.go.entry made.go.read)

  is_short : length text ≤ largest_push
  is_short =
      let same : length text ≡ length (push_text (kept_among r (made.ids ++ id ∷ [])) made.go.entry.id) = ap length made.is.text_is in
      let short = made.is.is.short in
      omega (arith, same, short)

pub one_making : OneMaking
one_making = record {
  one_text = λ r before id a b x y. text_is r before id a x ∙ ap (text_with r id) (one_go r before id x.ids y.ids x.go y.go) ∙ sym (text_is r before id b y);
  one_missing = λ r before id a b x y. same_some a b (sym x.first ∙ ap (first_missing r) (one_go r before id x.ids y.ids x.go y.go) ∙ y.first);
  made_whole = λ r before id a b x y.
      let both : None ≡ Some b = sym x.whole ∙ ap (first_missing r) (one_go r before id x.ids y.ids x.go y.go) ∙ y.first in cc both;
  made_short = λ r before id a x y.
      let same : length a ≡ length (text_with r id y.ids) =
      ap length (text_is r before id a x ∙ ap (text_with r id) (one_go r before id x.ids y.ids x.go y.go)) in
      let short = is_short r before id a x in
      let long = y.long in
      absurd (omega (arith, same, short, long));
  large_whole = λ r before id a x y.
      let both : None ≡ Some a = sym y.whole ∙ ap (first_missing r) (one_go r before id y.ids x.ids y.go x.go) ∙ x.first in cc both;
}
