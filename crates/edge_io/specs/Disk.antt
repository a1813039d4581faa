-- What the calls of a disk do to its file, and what a crash may leave between two syncs.
use Rattle.std.specs.Prelude.{◌≡◌, ◌+◌, ◌<◌, ◌≤◌, ℕ, List, Option, length, max, slice_index}
use Rattle.octets.specs.Content.{Stays}

-- these bytes stand at this offset
abbrev pub Has : ℕ → List ℕ → List ℕ → Type 0
Has at bytes file = (i : ℕ) → i < length bytes → slice_index file (at + i) ≡ slice_index bytes i

-- after a write of n bytes that may be cut short: any bytes in the range and past the old end, the same elsewhere,
-- and any length from the old one to the one that the whole write needs
pub record Torn (at n : ℕ) (old new : List ℕ) : Type 0 where
  pub no_shorter : length old ≤ length new
  pub no_longer : length new ≤ max (length old) (at + n)
  pub below : (i : ℕ) → i < length old → i < at → slice_index new i ≡ slice_index old i
  pub above : (i : ℕ) → i < length old → at + n ≤ i → slice_index new i ≡ slice_index old i

-- after a write that was done: these bytes there, the length that they need, and the same elsewhere
pub record Written (at : ℕ) (bytes old new : List ℕ) : Type 0 where
  pub has : Has at bytes new
  pub size : length new ≡ max (length old) (at + length bytes)
  pub torn : Torn at (length bytes) old new

-- each new outcome of a crash is an old outcome after a step
abbrev pub Follows : (List ℕ → List ℕ → Type 0) → (List ℕ → Type 0) → (List ℕ → Type 0) → Type 0
Follows step old new = (c : List ℕ) → new c → (d : List ℕ) × old d × step d c

-- a crash leaves this and nothing else
abbrev pub Only : List ℕ → (List ℕ → Type 0) → Type 0
Only file outcomes = (c : List ℕ) → outcomes c → c ≡ file

-- what is read stays, and a crash leaves no more than it could
pub record IsKept (seen seen_now : Option (List ℕ)) (may_leave may_leave_now : List ℕ → Type 0) : Type 0 where
  pub same : Stays seen seen_now
  pub no_more : (c : List ℕ) → may_leave_now c → may_leave c
