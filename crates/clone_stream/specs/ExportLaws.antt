-- What is exclusive of a repository's export: a text within the limit, the first damaged object, a text past the limit.
use Rattle.std.specs.Prelude.{◌≡◌, ◌≤◌, ℕ, List, length}
use Rattle.git_object.specs.Repository.{Repository}
use Rattle.clone_stream.specs.Exporting.{IsDamagedAt, PassesFirst}
use Rattle.clone_stream.specs.Streams.{IsStreamText, largest_stream}

pub record OneExport : Type 0 where
  pub text_or_damaged : (r : Repository) (text id front : List ℕ) → IsStreamText r text → IsDamagedAt r id front → ⊥
  pub text_or_past : (r : Repository) (text : List ℕ) → IsStreamText r text → length text ≤ largest_stream
      → PassesFirst r → ⊥
  pub one_damaged : (r : Repository) (id other front before : List ℕ) → IsDamagedAt r id front
      → IsDamagedAt r other before → id ≡ other
  pub damaged_or_past : (r : Repository) (id front : List ℕ) → IsDamagedAt r id front → PassesFirst r → ⊥
