-- The keys after a key.
use Rattle.std.specs.Prelude.{Option, Some, None}
use Rattle.std.specs.declared.ops.Bound.{Bound}
use Rattle.std.specs.declared.ops.Bound.TheVariants.{Excluded, Unbounded}

-- the bound right after a key, or none
abbrev pub bound_after : {K : Type 0} → Option K → Bound K
bound_after None = Unbounded
bound_after (Some key) = Excluded key
