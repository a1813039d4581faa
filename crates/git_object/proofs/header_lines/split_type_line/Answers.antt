use Rattle.std.proofs.Common.{List, ℕ, ◌++◌, ◌≡◌}
use Rattle.git_object.specs.HeaderLines.{type_line}
use Rattle.git_object.specs.declared.kinds.Kind.TheVariants.{Blob, Tree, Commit, Tag}
use Rattle.git_object.proofs.header_lines.split_type_line.Goals as goal

pub returns-clause-none : goal.returns-clause-none
returns-clause-none c = λ kind. elim kind as (λ k. (more : List ℕ) → c.args.text.now ≡ type_line k ++ more → ⊥) [
  | Blob ↦ c.in_default.ensures.none
  | Tree ↦ c.in_default-strip_front.ensures.none
  | Commit ↦ c.in_default-strip_front-2.ensures.none
  | Tag ↦ c.in_default-strip_front-3.ensures.none
]
