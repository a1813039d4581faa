-- The bytes of a body, whoever holds them.
use Rattle.std.specs.Prelude.{ℕ, List}
use Rattle.git_object.specs.declared.bodies.Bytes.{Bytes}
use Rattle.git_object.specs.declared.bodies.Bytes.TheVariants.{Own, Shared}

abbrev pub bytes_of : Bytes → List ℕ
bytes_of (Own bytes) = bytes
bytes_of (Shared part) = part
