-- The bytes of a blob.
use Rattle.std.specs.Prelude.{◌&&◌, ℕ, Bool, true, false, List, Option, Some, None, length, nat_le, option_and_then}
use Rattle.std.specs.Prelude.{if◌then◌else◌}
use Rattle.git_object.specs.Objects.{Pair}
use Rattle.git_object.specs.Repository.{Repository, object_at}
use Rattle.git_object.specs.declared.kinds.Kind.{Kind}
use Rattle.git_object.specs.declared.kinds.Kind.TheVariants.{Blob, Commit, Tag, Tree}

abbrev pub is_blob : Kind → Bool
is_blob Blob = true
is_blob Tree = false
is_blob Commit = false
is_blob Tag = false

-- a blob of at most 1 MiB
abbrev pub is_small_blob : Pair → Bool
is_small_blob pair = is_blob pair.kind && nat_le (length pair.body) 1048576

abbrev pub small_blob : Pair → Option (List ℕ)
small_blob pair = (if is_small_blob pair then Some pair.body else None)

-- the bytes of the blob of at most 1 MiB that an id names
abbrev pub blob_at : Repository → List ℕ → Option (List ℕ)
blob_at r id = option_and_then small_blob (object_at r id)
