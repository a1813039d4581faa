-- What is left of a disk that held nothing, where a write was cut short.
use Rattle.std.proofs.Common.{◌≡◌, ◌∙◌, ℕ, List, [], ap}
use Rattle.std.specs.Prelude.{Some}
use Rattle.octets.specs.Content.{Told}
use Rattle.edge_io.specs.Disk.{Follows, IsKept, Torn}
use Rattle.edge_io.specs.declared.disks.Disk as disk
use Rattle.leaf_journal.specs.Making.{IsCutShort}

module _ {D : Type 0} (disk_of : disk.Ghosts D) where
  -- by a write
  pub cut_short : (size : ℕ) (old new : D) → ((file : List ℕ) → disk_of.seen old ≡ Some file → file ≡ [])
      → Told (Torn 0 size) (disk_of.seen old) (disk_of.seen new) → Follows (Torn 0 size) (disk_of.may_leave old) (disk_of.may_leave new) → IsCutShort disk_of old new size
  cut_short size old new empty told torn = record {
    nothing = λ file holds. let was = told file holds in was.1 ∙ ap Some (empty was.0 was.1);
    seen = told;
    crash = torn;
  }

  -- by a write after what kept the disk
  pub cut_after : (size : ℕ) (old mid new : D) → IsKept (disk_of.seen old) (disk_of.seen mid) (disk_of.may_leave old) (disk_of.may_leave mid)
      → IsCutShort disk_of mid new size → IsCutShort disk_of old new size
  cut_after size old mid new kept cut = record {
    nothing = λ file holds. kept.same [] (cut.nothing file holds);
    seen = λ file holds. let was = cut.seen file holds in (was.0, kept.same was.0 was.1, was.2);
    crash = λ c may. let was = cut.crash c may in (was.0, kept.no_more was.0 was.1, was.2);
  }

  -- by a write that what comes after keeps
  pub cut_kept : (size : ℕ) (old mid new : D) → IsCutShort disk_of old mid size
      → IsKept (disk_of.seen mid) (disk_of.seen new) (disk_of.may_leave mid) (disk_of.may_leave new) → IsCutShort disk_of old new size
  cut_kept size old mid new cut kept = record {
    nothing = λ file holds. cut.nothing file (kept.same file holds);
    seen = λ file holds. cut.seen file (kept.same file holds);
    crash = λ c may. cut.crash c (kept.no_more c may);
  }
