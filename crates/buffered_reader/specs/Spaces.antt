-- Where a reader keeps what is buffered.
use Rattle.std.specs.Prelude.{ℕ, List, Option, Some, None, Vec}
use Rattle.std.specs.declared.alloc.Global.{Global}

-- the wider bytes, where there are some
abbrev pub bytes_in : List ℕ → Option (Vec ℕ Global) → List ℕ
bytes_in narrow None = narrow
bytes_in narrow (Some wide) = wide.items
