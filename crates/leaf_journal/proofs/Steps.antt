-- Opening a key file, and then using one of its leaves.
use Rattle.std.proofs.Common.{◌≡◌, ℕ, List, sym, subst}
use Rattle.std.specs.Prelude.{Some}
use Rattle.octets.specs.Content.{Stays}
use Rattle.edge_io.specs.Disk.{IsKept}
use Rattle.edge_io.specs.Moments.{LeavesOnly}
use Rattle.edge_io.specs.declared.disks.Disk as disk
use Rattle.lms_keys.specs.HssSecret.{Secret}
use Rattle.leaf_journal.proofs.Moving.{then, weaker}
use Rattle.leaf_journal.specs.KeyFile.{KeepsUsed}
use Rattle.leaf_journal.specs.Files.{IsUsedUp}
use Rattle.leaf_journal.specs.KeySigning.{Finds}
use Rattle.leaf_journal.specs.Using.{FindsNone, MayTear, SignsWith}

module _ {D : Type 0} (disk_of : disk.Ghosts D) where
  pub opened : (old mid : D) → LeavesOnly disk_of.moment disk_of.left_since old mid (disk_of.may_leave old) → LeavesOnly disk_of.moment disk_of.left_since old mid (KeepsUsed (disk_of.may_leave old))
  opened old mid run = weaker disk_of.moment disk_of.left_since old mid (disk_of.may_leave old) (KeepsUsed (disk_of.may_leave old)) (λ c may start q used. used c may) run

  pub moments : (old mid new : D) → LeavesOnly disk_of.moment disk_of.left_since old mid (disk_of.may_leave old) → ((c : List ℕ) → disk_of.may_leave mid c → disk_of.may_leave old c)
      → LeavesOnly disk_of.moment disk_of.left_since mid new (KeepsUsed (disk_of.may_leave mid)) → LeavesOnly disk_of.moment disk_of.left_since old new (KeepsUsed (disk_of.may_leave old))
  moments old mid new first less next =
      then disk_of.moment disk_of.left_since old mid new (KeepsUsed (disk_of.may_leave old))
      (opened old mid first)
      (weaker disk_of.moment disk_of.left_since mid new (KeepsUsed (disk_of.may_leave mid)) (KeepsUsed (disk_of.may_leave old)) (λ c keeps start q used. keeps start q (λ d may. used d (less d may))) next)

  pub signs_from : (old mid new : D) (secret : Secret) (message signature : List ℕ) → Stays (disk_of.seen old) (disk_of.seen mid)
      → SignsWith disk_of secret message mid new signature → SignsWith disk_of secret message old new signature
  signs_from old mid new secret message signature stays signs = record {
    leaf = signs.leaf;
    file = λ now told. (let was = signs.file now told in (was.0, stays was.0 was.1, was.2, was.3));
    used = signs.used;
    signs = signs.signs;
  }

  pub tears_from : (old mid new : D) (secret : Secret) → Stays (disk_of.seen old) (disk_of.seen mid) → MayTear disk_of secret mid new → MayTear disk_of secret old new
  tears_from old mid new secret stays tears = λ now told. (let was = tears now told in (was.0, was.1, stays was.0 was.2, was.3, was.4))

  pub finds_none : (message : List ℕ) (old mid new : D) (secret : Secret) → IsKept (disk_of.seen old) (disk_of.seen mid) (disk_of.may_leave old) (disk_of.may_leave mid)
      → FindsNone disk_of secret mid new → Finds disk_of message old new (λ file. (secret : Secret) × IsUsedUp file secret)
  finds_none message old mid new secret kept none = record {
    kept = subst (λ (d : D). IsKept (disk_of.seen old) (disk_of.seen d) (disk_of.may_leave old) (disk_of.may_leave d)) (sym none.same) kept;
    found = λ file told. (secret, none.used_up file (subst (λ (d : D). disk_of.seen d ≡ Some file) none.same told));
  }
