-- Each input is a stream within the limit, or is refused in some way.
use Rattle.std.proofs.Common.{◌≡◌, ◌≢◌, ℕ, ◌≤◌, List, [], ◌++◌, length, take, drop, refl, sym, ap, subst, ◌∙◌, arith, inl, inr}
use Rattle.std.specs.Prelude.{◌⊎◌}
use Rattle.std.proofs.lemmas.List.{append-nil, length-drop, take-append-drop}
use Rattle.git_object.specs.Repository.{Repository}
use Rattle.clone_stream.specs.Deciding.{DecidesWithin, IsUnbroken}
use Rattle.clone_stream.specs.Fronts.{FirstBreak}
use Rattle.clone_stream.specs.Streams.{IsStreamText}
use Rattle.clone_stream.specs.declared.stream_faults.Break.{Break}
use Rattle.clone_stream.specs.declared.stream_faults.Break.TheVariants as break_
use Rattle.clone_stream.specs.declared.stream_faults.StreamFault.{StreamFault}
use Rattle.clone_stream.specs.declared.stream_faults.StreamFault.TheVariants.{BadLine, IdDiffers, Order, TooLarge, Truncated}
use Rattle.git_object.proofs.Decisions.{is_empty}
use Rattle.clone_stream.proofs.Limits.{cut_place}
use Rattle.clone_stream.proofs.OneBreak.{IsOfText}
use Rattle.clone_stream.proofs.SomeFirst.{some_first}

module _ (limit : ℕ) (input : List ℕ) where
  abbrev IsRead : Type 0
  IsRead = (r : Repository) × IsStreamText r input × (length input ≤ limit)

  abbrev IsRefused : Type 0
  IsRefused = (a : StreamFault) × DecidesWithin limit input a

  -- nothing in the bytes up to the limit is refused, and more follow
  passes : IsUnbroken (take limit input) → drop limit input ≢ [] → IsRefused
  passes unbroken past = (TooLarge limit, inr (refl, record { past = past; unbroken = unbroken }))

  -- this breaks first in the bytes up to the limit
  broken : (fault : Break) → IsOfText fault → FirstBreak (take limit input) fault → IsRefused
  broken (break_.BadLine p) of first = (BadLine p, first)
  broken (break_.IdDiffers id found) of first = (IdDiffers id found, first)
  broken (break_.Order p) of first = (Order p, first)
  broken (break_.TooLarge n) of first = (TooLarge n, inl first)
  broken (break_.Cut p) of first = elim (is_empty (drop limit input)) [
    | inl none ↦ (Truncated p, (none, first))
    | inr past ↦ passes (inr (subst (λ (k : ℕ). FirstBreak (take limit input) (break_.Cut k)) (cut_place (take limit input) p first) first)) past
  ]
  broken (break_.Failed p) of first = absurd of
  broken break_.Memory of first = absurd of

  -- the bytes up to the limit are a stream
  whole : (r : Repository) → IsStreamText r (take limit input) → IsRead ⊎ IsRefused
  whole r is = elim (is_empty (drop limit input)) [
    | inl none ↦
        let all : take limit input ≡ input = sym (append-nil (take limit input)) ∙ ap (λ (t : List ℕ). take limit input ++ t) (sym none) ∙ take-append-drop limit input in
        let left = sym (length-drop limit input) ∙ ap length none in
        inl (r, subst (IsStreamText r) all is, omega arith)
    | inr past ↦ inr (passes (inl (r, is)) past)
  ]

  pub some_within : IsRead ⊎ IsRefused
  some_within = elim (some_first (take limit input)) [
    | inl b ↦ inr (broken b.fault b.of_text b.first)
    | inr s ↦ whole s.repository s.is
  ]
