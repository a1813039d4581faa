-- What a crash may leave at any moment while a key file is made.
use Rattle.std.proofs.Common.{◌≡◌, ◌∙◌, ℕ, List, [], ap, inl, inr, ⊎_elim, refl}
use Rattle.std.specs.Prelude.{Some}
use Rattle.octets.specs.Content.{Told}
use Rattle.edge_io.specs.Disk.{IsKept, Torn}
use Rattle.edge_io.specs.Moments.{Elapses, LeavesOnly}
use Rattle.edge_io.specs.declared.disks.Disk as disk
use Rattle.leaf_journal.specs.KeyFile.{KeepsUsed}
use Rattle.leaf_journal.specs.Making.{MayBeNew}
use Rattle.leaf_journal.proofs.Moving.{goes_on, started, then, weaker}

module _ {D : Type 0} (disk_of : disk.Ghosts D) where
  -- nothing is asked of the disk
  pub untouched : (old : D) → ((c : List ℕ) → disk_of.left_since old (disk_of.moment old) c → disk_of.may_leave old c)
      → LeavesOnly disk_of.moment disk_of.left_since old old (KeepsUsed (disk_of.may_leave old))
  untouched old only = started disk_of.moment disk_of.left_since old (KeepsUsed (disk_of.may_leave old)) (λ c left start q used. used c (only c left))

  -- it is only read
  pub looked : (old new : D) → LeavesOnly disk_of.moment disk_of.left_since old new (disk_of.may_leave old)
      → LeavesOnly disk_of.moment disk_of.left_since old new (KeepsUsed (disk_of.may_leave old))
  looked old new run = weaker disk_of.moment disk_of.left_since old new (disk_of.may_leave old) (KeepsUsed (disk_of.may_leave old)) (λ c may start q used. used c may) run

  -- where it held nothing no leaf was used in all that it might have left
  nothing_used : (old : D) → ((bytes : List ℕ) → disk_of.seen old ≡ Some bytes → disk_of.may_leave old bytes) → disk_of.seen old ≡ Some []
      → (c : List ℕ) → KeepsUsed (disk_of.may_leave old) c
  nothing_used old stays empty c = λ start q used. absurd ((used [] (stays [] empty)).used refl)

  -- a file is written to it
  pub made : (old mid new : D) → ((bytes : List ℕ) → disk_of.seen old ≡ Some bytes → disk_of.may_leave old bytes)
      → LeavesOnly disk_of.moment disk_of.left_since old mid (disk_of.may_leave old)
      → IsKept (disk_of.seen old) (disk_of.seen mid) (disk_of.may_leave old) (disk_of.may_leave mid)
      → LeavesOnly disk_of.moment disk_of.left_since mid new (MayBeNew disk_of mid)
      → LeavesOnly disk_of.moment disk_of.left_since old new (KeepsUsed (disk_of.may_leave old))
  made old mid new stays first kept next = then disk_of.moment disk_of.left_since old mid new (KeepsUsed (disk_of.may_leave old)) (looked old mid first)
      (weaker disk_of.moment disk_of.left_since mid new (MayBeNew disk_of mid) (KeepsUsed (disk_of.may_leave old))
      (λ c either. ⊎_elim (λ empty. nothing_used old stays (kept.same [] empty) c) (λ may start q used. used c (kept.no_more c may)) either) next)

  -- what there may be after a write to a disk that held nothing
  new_now : (size : ℕ) (old mid : D) → ((c : List ℕ) → disk_of.may_leave mid c → (bytes : List ℕ) × (disk_of.seen mid ≡ Some bytes))
      → ((file : List ℕ) → disk_of.seen old ≡ Some file → file ≡ []) → Told (Torn 0 size) (disk_of.seen old) (disk_of.seen mid)
      → (c : List ℕ) → disk_of.may_leave mid c → MayBeNew disk_of old c
  new_now size old mid tells empty told c may =
      let now = tells c may in
      let was = told now.0 now.1 in
      inl (was.1 ∙ ap Some (empty was.0 was.1))

  pub written : (size : ℕ) (old mid : D) → ((c : List ℕ) → disk_of.left_since old (disk_of.moment old) c → disk_of.may_leave old c)
      → ((c : List ℕ) → disk_of.may_leave mid c → (bytes : List ℕ) × (disk_of.seen mid ≡ Some bytes))
      → ((file : List ℕ) → disk_of.seen old ≡ Some file → file ≡ []) → Told (Torn 0 size) (disk_of.seen old) (disk_of.seen mid)
      → Elapses (disk_of.moment old) (disk_of.moment mid) (disk_of.left_since old) (disk_of.left_since mid) (disk_of.may_leave mid)
      → LeavesOnly disk_of.moment disk_of.left_since old mid (MayBeNew disk_of old)
  written size old mid only tells empty told time =
      goes_on disk_of.moment disk_of.left_since old old mid (MayBeNew disk_of old) (disk_of.may_leave mid)
      (started disk_of.moment disk_of.left_since old (MayBeNew disk_of old) (λ c left. inr (only c left))) time (new_now size old mid tells empty told)

  -- and after what is made to last
  pub synced : (size : ℕ) (old mid new : D) → ((c : List ℕ) → disk_of.left_since old (disk_of.moment old) c → disk_of.may_leave old c)
      → ((c : List ℕ) → disk_of.may_leave mid c → (bytes : List ℕ) × (disk_of.seen mid ≡ Some bytes))
      → ((file : List ℕ) → disk_of.seen old ≡ Some file → file ≡ []) → Told (Torn 0 size) (disk_of.seen old) (disk_of.seen mid)
      → Elapses (disk_of.moment old) (disk_of.moment mid) (disk_of.left_since old) (disk_of.left_since mid) (disk_of.may_leave mid)
      → Elapses (disk_of.moment mid) (disk_of.moment new) (disk_of.left_since mid) (disk_of.left_since new) (disk_of.may_leave new)
      → IsKept (disk_of.seen mid) (disk_of.seen new) (disk_of.may_leave mid) (disk_of.may_leave new)
      → LeavesOnly disk_of.moment disk_of.left_since old new (MayBeNew disk_of old)
  synced size old mid new only tells empty told time later kept =
      goes_on disk_of.moment disk_of.left_since old mid new (MayBeNew disk_of old) (disk_of.may_leave new) (written size old mid only tells empty told time) later
      (λ c may. new_now size old mid tells empty told c (kept.no_more c may))
