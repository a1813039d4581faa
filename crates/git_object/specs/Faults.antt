-- Where an object's body is refused.
use Rattle.std.specs.Prelude.{ℕ, List}
use Rattle.git_object.specs.declared.object_faults.ObjectFault.{ObjectFault}
use Rattle.git_object.specs.declared.object_faults.ObjectFault.TheVariants.{Malformed, Memory}

-- a refusal that names a place names where the body is first wrong; want of memory says nothing
abbrev pub Refuses : (List ℕ → ℕ → Type 0) → List ℕ → ObjectFault → Type 0
Refuses IsFault body (Malformed at) = IsFault body at
Refuses IsFault body Memory = Unit {0}
