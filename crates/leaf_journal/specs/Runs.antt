-- Key runs: what happens to the leaves of one key, and the law that none is released twice.
use Rattle.std.specs.Prelude.{◌≡◌, ◌⊎◌, ℕ, List, [], ◌∷◌, slice_set}
use Rattle.edge_io.specs.declared.disks.Disk as disk
use Rattle.leaf_journal.specs.KeyFile.{UsedInAll}
use Rattle.leaf_journal.specs.Signing.{IsLeast, IsMarked}

-- the leaves that are used in all that a crash may leave of a disk
abbrev pub in_use : {D : Type 0} → disk.Ghosts D → D → ℕ → Type 0
in_use disk_of file q = UsedInAll (disk_of.may_leave file) q

-- an event, with the state of things after it: a signer was opened with these marks; a leaf signed; a leaf was to
-- sign, and did not
pub data Event (S : Type 0) : Type 0 where
  opened : S → List ℕ → Event S
  signed : S → ℕ → Event S
  failed : S → ℕ → Event S

module _ {S : Type 0} (U : S → ℕ → Type 0) where
  -- the leaves in use stay, and each of them is marked in the signer
  pub record Opens (was now : S) (marks : List ℕ) : Type 0 where
    pub kept : (q : ℕ) → U was q → U now q
    pub covered : (q : ℕ) → U now q → IsMarked marks q

  -- the least unmarked leaf is marked; the leaves in use stay, and what comes to them is marked
  pub record Marks (was now : S) (marks : List ℕ) (q : ℕ) : Type 0 where
    pub least : IsLeast marks q
    pub kept : (k : ℕ) → U was k → U now k
    pub covered : (k : ℕ) → U now k → U was k ⊎ IsMarked (slice_set marks q 1) k

  -- the same, and the leaf is in use
  pub record Releases (was now : S) (marks : List ℕ) (q : ℕ) : Type 0 where
    pub marking : Marks was now marks q
    pub used : U now q

-- the state after the events, of which the newest comes first
abbrev pub now_after : {S : Type 0} → S → List (Event S) → S
now_after start [] = start
now_after start (opened s marks ∷ earlier) = s
now_after start (signed s q ∷ earlier) = s
now_after start (failed s q ∷ earlier) = s

-- the marks of the signer that is open then; before one is opened there is no leaf to sign with
abbrev pub marks_after : {S : Type 0} → List (Event S) → List ℕ
marks_after [] = []
marks_after (opened s marks ∷ earlier) = marks
marks_after (signed s q ∷ earlier) = slice_set (marks_after earlier) q 1
marks_after (failed s q ∷ earlier) = slice_set (marks_after earlier) q 1

-- the leaves with which signatures were given out
abbrev pub released_in : {S : Type 0} → List (Event S) → List ℕ
released_in [] = []
released_in (opened s marks ∷ earlier) = released_in earlier
released_in (signed s q ∷ earlier) = q ∷ released_in earlier
released_in (failed s q ∷ earlier) = released_in earlier

-- each event is one that may come after those before it
abbrev pub IsKeyRun : {S : Type 0} → (S → ℕ → Type 0) → S → List (Event S) → Type 0
IsKeyRun {S} U start [] = Unit {0}
IsKeyRun U start (opened s marks ∷ earlier) = Opens U (now_after start earlier) s marks × IsKeyRun U start earlier
IsKeyRun U start (signed s q ∷ earlier) = Releases U (now_after start earlier) s (marks_after earlier) q
    × IsKeyRun U start earlier
IsKeyRun U start (failed s q ∷ earlier) = Marks U (now_after start earlier) s (marks_after earlier) q
    × IsKeyRun U start earlier

-- the leaf is one of these
abbrev pub IsAmong : ℕ → List ℕ → Type 0
IsAmong q [] = ⊥
IsAmong q (k ∷ leaves) = (q ≡ k) ⊎ IsAmong q leaves

-- no leaf stands twice
abbrev pub NoneTwice : List ℕ → Type 0
NoneTwice [] = Unit {0}
NoneTwice (q ∷ leaves) = (IsAmong q leaves → ⊥) × NoneTwice leaves

-- in every key run the released leaves are distinct
abbrev pub LeavesOnce : {S : Type 0} → (S → ℕ → Type 0) → Type 0
LeavesOnce {S} U = (start : S) (events : List (Event S)) → IsKeyRun U start events → NoneTwice (released_in events)
