-- How an input is refused: in at most one way, and not at all where it is a stream within the limit.
use Rattle.std.proofs.Common.{◌≡◌, ℕ, ◌≤◌, List, [], length, take, drop, refl, sym, ap, subst, ◌∙◌, inl, inr}
use Rattle.std.specs.Prelude.{◌⊎◌}
use Rattle.std.proofs.lemmas.List.{drop_all, take_all}
use Rattle.git_object.specs.Repository.{Repository}
use Rattle.clone_stream.specs.Deciding.{DecidesWithin, PassesLimit}
use Rattle.clone_stream.specs.Faults.{IsCut, from_break}
use Rattle.clone_stream.specs.Fronts.{FirstBreak}
use Rattle.clone_stream.specs.Streams.{IsStreamText}
use Rattle.clone_stream.specs.declared.stream_faults.Break.{Break}
use Rattle.clone_stream.specs.declared.stream_faults.Break.TheVariants as break_
use Rattle.clone_stream.specs.declared.stream_faults.StreamFault.{StreamFault}
use Rattle.clone_stream.specs.declared.stream_faults.StreamFault.TheVariants.{BadLine, IdDiffers, Order, TooLarge, Truncated, SourceFailed, KeeperFailed, NotEmpty, Memory}
use Rattle.clone_stream.proofs.OneBreak.{IsOfText}
use Rattle.clone_stream.proofs.OneFirst.{one_first, stream_unbroken}

-- the refusal comes of what breaks first, and where that is the end of the input nothing follows
record ComesOfBreak (limit : ℕ) (input : List ℕ) (fault : StreamFault) : Type 0 where
  broken : Break
  first : FirstBreak (take limit input) broken
  of_text : IsOfText broken
  ended : IsCut broken → drop limit input ≡ []
  is : fault ≡ from_break broken

-- the refusal comes of the limit
record ComesOfLimit (limit : ℕ) (input : List ℕ) (fault : StreamFault) : Type 0 where
  passes : PassesLimit limit input
  is : fault ≡ TooLarge limit

comes_of : (limit : ℕ) (input : List ℕ) (fault : StreamFault) → DecidesWithin limit input fault → ComesOfBreak limit input fault ⊎ ComesOfLimit limit input fault
comes_of limit input (BadLine p) d = inl (record { broken = break_.BadLine p; first = d; of_text = tt; ended = λ c. absurd c; is = refl })
comes_of limit input (IdDiffers id found) d = inl (record { broken = break_.IdDiffers id found; first = d; of_text = tt; ended = λ c. absurd c; is = refl })
comes_of limit input (Order p) d = inl (record { broken = break_.Order p; first = d; of_text = tt; ended = λ c. absurd c; is = refl })
comes_of limit input (TooLarge n) d = elim d [
  | inl first ↦ inl (record { broken = break_.TooLarge n; first = first; of_text = tt; ended = λ c. absurd c; is = refl })
  | inr past ↦ inr (record { passes = past.1; is = ap TooLarge past.0 })
]
comes_of limit input (Truncated p) d = inl (record { broken = break_.Cut p; first = d.1; of_text = tt; ended = λ _. d.0; is = refl })
comes_of limit input SourceFailed d = absurd d
comes_of limit input KeeperFailed d = absurd d
comes_of limit input NotEmpty d = absurd d
comes_of limit input Memory d = absurd d

-- where something breaks before the limit, the limit refuses nothing
not_both : (limit : ℕ) (input : List ℕ) (a b : StreamFault) → ComesOfBreak limit input a → ComesOfLimit limit input b → ⊥
not_both limit input a b x y = elim y.passes.unbroken [
  | inl stream ↦ stream_unbroken stream.0 (take limit input) x.broken stream.1 x.first x.of_text
  | inr cut ↦
      let same = one_first (take limit input) x.broken (break_.Cut (length (take limit input))) x.first cut x.of_text tt in
      y.passes.past (x.ended (subst IsCut (sym same) tt))
]

pub one_within : (limit : ℕ) (input : List ℕ) (a b : StreamFault) → DecidesWithin limit input a → DecidesWithin limit input b → a ≡ b
one_within limit input a b d e = elim (comes_of limit input a d) [
  | inl x ↦ elim (comes_of limit input b e) [
    | inl y ↦ x.is ∙ ap from_break (one_first (take limit input) x.broken y.broken x.first y.first x.of_text y.of_text) ∙ sym y.is
    | inr y ↦ absurd (not_both limit input a b x y)
  ]
  | inr x ↦ elim (comes_of limit input b e) [
    | inl y ↦ absurd (not_both limit input b a y x)
    | inr y ↦ x.is ∙ sym y.is
  ]
]

pub apart_within : (limit : ℕ) (input : List ℕ) (r : Repository) (a : StreamFault) → IsStreamText r input → length input ≤ limit → DecidesWithin limit input a → ⊥
apart_within limit input r a is short d =
    let whole : IsStreamText r (take limit input) = subst (IsStreamText r) (sym (take_all limit input short)) is in
    elim (comes_of limit input a d) [
      | inl x ↦ stream_unbroken r (take limit input) x.broken whole x.first x.of_text
      | inr x ↦ x.passes.past (drop_all limit input short)
    ]
