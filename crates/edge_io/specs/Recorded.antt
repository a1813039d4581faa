-- A disk in memory: the content that it began with, and the writes and syncs since, the newest first.
use Rattle.std.specs.Prelude.{◌≡◌, ◌+◌, ◌≤◌, ◌⊎◌, ℕ, List, [], ◌∷◌, ◌++◌, length, take, drop, IsTrue, Some}
use Rattle.octets.specs.Calls.{Calls, after_call, fails_next}
use Rattle.edge_io.specs.Disk.{IsKept, Torn}
use Rattle.edge_io.specs.Moments.{Elapses}
use Rattle.edge_io.specs.declared.disk_calls.DiskCall.{DiskCall}
use Rattle.edge_io.specs.declared.disk_calls.DiskCall.TheVariants.{Write, Sync}

-- a call that was done: a write of these bytes at an offset, or a sync
pub data Step : Type 0 where
  wrote : ℕ → List ℕ → Step
  synced : Step

-- the file with these bytes at an offset
abbrev pub splice : ℕ → List ℕ → List ℕ → List ℕ
splice at bytes file = take at file ++ bytes ++ drop (at + length bytes) file

-- what is read
abbrev pub seen_after : List ℕ → List Step → List ℕ
seen_after start [] = start
seen_after start (wrote at bytes ∷ earlier) = splice at bytes (seen_after start earlier)
seen_after start (synced ∷ earlier) = seen_after start earlier

-- all that a crash may leave: after a sync what is read, and after each write since whatever the write may be cut to
abbrev pub MayLeave : List ℕ → List Step → List ℕ → Type 0
MayLeave start [] c = c ≡ start
MayLeave start (wrote at bytes ∷ earlier) c = (d : List ℕ) × MayLeave start earlier d × Torn at (length bytes) d c
MayLeave start (synced ∷ earlier) c = c ≡ seen_after start earlier

-- the same at one of the moments from t on, a moment being the number of steps by then
abbrev pub LeftSince : List ℕ → List Step → ℕ → List ℕ → Type 0
LeftSince start [] t c = MayLeave start [] c
LeftSince start (step ∷ earlier) t c = MayLeave start (step ∷ earlier) c
    ⊎ ((t ≤ length earlier) × LeftSince start earlier t c)

-- a disk in memory, how many bytes all its writes may have and how many calls it takes
pub record Recording : Type 0 where
  pub start : List ℕ
  pub steps : List Step
  pub written : ℕ
  pub room : ℕ
  pub recorded : ℕ
  pub calls : Calls

-- the next call fails: it is listed, or past the number of calls that are taken
abbrev pub FailsNext : Recording → Type 0
FailsNext disk = IsTrue (fails_next disk.calls) ⊎ disk.recorded ≤ disk.calls.made

-- nothing but the counts of calls changed
abbrev pub IsUnmoved : Recording → Recording → Type 0
IsUnmoved old new = new ≡ record old { calls = new.calls }

-- a write more, and a call more
abbrev pub IsWritten : ℕ → List ℕ → Recording → Recording → Type 0
IsWritten at bytes old new = new ≡ record old {
  steps = wrote at bytes ∷ old.steps;
  written = old.written + length bytes;
  calls = after_call old.calls;
}

-- a sync more, and a call more
abbrev pub IsSynced : Recording → Recording → Type 0
IsSynced old new = new ≡ record old { steps = synced ∷ old.steps; calls = after_call old.calls }

-- what is read stays, and a crash leaves no more than it could
abbrev pub Keeps : Recording → Recording → Type 0
Keeps old new = IsKept (Some (seen_after old.start old.steps)) (Some (seen_after new.start new.steps))
    (MayLeave old.start old.steps) (MayLeave new.start new.steps)

-- time goes on
abbrev pub Passes : Recording → Recording → Type 0
Passes old new = Elapses (length old.steps) (length new.steps) (LeftSince old.start old.steps)
    (LeftSince new.start new.steps) (MayLeave new.start new.steps)

-- the steps of the calls that are kept, the oldest first, whose bytes stand one after the other, before those of
-- `later`
abbrev pub steps_onto : List Step → List DiskCall → List ℕ → List Step
steps_onto later [] bytes = later
steps_onto later (Write at len ∷ kept) bytes = steps_onto (wrote at (take len bytes) ∷ later) kept (drop len bytes)
steps_onto later (Sync ∷ kept) bytes = steps_onto (synced ∷ later) kept bytes

-- how many bytes these calls wrote
abbrev pub byte_count : List DiskCall → ℕ
byte_count [] = 0
byte_count (Write at len ∷ kept) = len + byte_count kept
byte_count (Sync ∷ kept) = byte_count kept

-- the bytes that are there are those that the steps make, and what they take is within its bounds
pub record AreKept (start bytes written : List ℕ) (kept : List DiskCall) (most : ℕ) : Type 0 where
  pub seen : bytes ≡ seen_after start (steps_onto [] kept written)
  pub whole : byte_count kept ≡ length written
  pub room : length written ≤ most
  pub long : length bytes ≤ length start + length written
