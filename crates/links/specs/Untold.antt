-- What a peer over TCP tells.
use Rattle.std.specs.Prelude.{ℕ, List, Option, None}

-- no port
abbrev pub no_port : Option ℕ
no_port = None

-- no bytes
abbrev pub no_bytes : Option (List ℕ)
no_bytes = None
