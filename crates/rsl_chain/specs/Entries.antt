-- Entries of the log, each with the repository in which it is judged.
use Rattle.std.specs.Prelude.{◌&&◌, ℕ, Bool, false, List}
use Rattle.std.specs.List.{list_any}
use Rattle.std.specs.Str.{bytes_eq}
use Rattle.git_object.specs.Ids.{zeros}
use Rattle.git_object.specs.Repository.{Repository}
use Rattle.rsl_chain.specs.declared.entries.Entry.{Entry}
use Rattle.rsl_chain.specs.declared.entries.EntryBody.{EntryBody}
use Rattle.rsl_chain.specs.declared.entries.EntryBody.TheVariants.{Reference, Annotation}

-- an entry, and the repository that stood when it was judged
pub record Taken : Type 0 where
  pub entry : Entry
  pub repository : Repository

-- whether a body records a target of this reference
abbrev pub is_of : EntryBody → List ℕ → Bool
is_of (Reference name target) other = bytes_eq name other
is_of (Annotation ids skip message) other = false

-- the target that a body records
abbrev pub target_of : EntryBody → List ℕ
target_of (Reference name target) = target
target_of (Annotation ids skip message) = zeros

-- whether two bodies record targets of one reference
abbrev pub shares : EntryBody → EntryBody → Bool
shares (Reference name target) other = is_of other name
shares (Annotation ids skip message) other = false

-- whether a body says that the entry of this id is skipped
abbrev pub skips_id : EntryBody → List ℕ → Bool
skips_id (Reference name target) id = false
skips_id (Annotation ids skip message) id = skip && list_any (λ listed. bytes_eq listed id) ids
