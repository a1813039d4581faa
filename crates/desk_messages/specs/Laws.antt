-- What holds of requests.
use Rattle.std.specs.Prelude.{◌≡◌, ◌++◌, ℕ, List}
use Rattle.desk_messages.specs.Asking.{Asks}
use Rattle.desk_messages.specs.Reading.{HasEnough}
use Rattle.desk_messages.specs.declared.requests.Asked.{Asked}

-- bytes ask one thing at most
abbrev pub OneAnswer : Type 0
OneAnswer = (bytes : List ℕ) (a b : Asked) → Asks bytes a → Asks bytes b → a ≡ b

-- where enough has come, what follows changes nothing
abbrev pub WhatFollows : Type 0
WhatFollows = (bytes more : List ℕ) (asks : Asked) → HasEnough bytes → Asks bytes asks → Asks (bytes ++ more) asks
