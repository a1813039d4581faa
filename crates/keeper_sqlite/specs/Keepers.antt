-- A keeper over a database: what it holds, and what a stop may leave of it.
use Rattle.std.specs.Prelude.{◌≡◌, ◌≤◌, ◌&&◌, ◌||◌, ℕ, Bool, false, IsTrue, Option, Some, None, Result}
use Rattle.std.specs.Prelude.{if◌then◌else◌, refl}
use Rattle.std.specs.Coded.{Coded, code_by, coded×, coded_ℕ, coded_bool}
use Rattle.git_object.specs.Repository.{Repository}
use Rattle.keeper_api.specs.Keepers.{TellsOn}
use Rattle.keeper_api.specs.declared.keeper_faults.KeeperFault.{KeeperFault}
use Rattle.sqlite.specs.Held.{Held, held_code, state}
use Rattle.sqlite.specs.Store.{Ghosts}
use Rattle.sqlite.specs.Tree.{Trees}
use Rattle.keeper_sqlite.specs.Rows.{repository_in}
use Rattle.keeper_sqlite.specs.States.{IsStore}
use Rattle.keeper_sqlite.specs.Telling.{Looks, TellsAfter}

-- whether the tables were found to be those of the schema, and whether a commit has left it open what a stop may leave
pub record Kept (S : Type 0) : Type 0 where
  pub conn : Held S
  pub known : Bool
  pub in_doubt : Bool
  pub faults : ℕ
  pub reads : ℕ

abbrev pub kept_code : {S : Type 0} → Coded S → Coded (Kept S)
kept_code {S} store =
    code_by (Held S × (Bool × (Bool × (ℕ × ℕ))))
    (coded× (held_code store) (coded× coded_bool (coded× coded_bool (coded× coded_ℕ coded_ℕ))))
    (λ k. (k.conn, (k.known, (k.in_doubt, (k.faults, k.reads)))))
    (λ p. record { conn = p.0; known = p.1.0; in_doubt = p.1.1.0; faults = p.1.1.1.0; reads = p.1.1.1.1 }) (λ _. refl)

module _ {S : Type 0} (g : Ghosts S) where
  -- no transaction is open, and the tables are a store where they are known
  pub record IsKeeper (conn : Held S) (known : Bool) : Type 0 where
    pub idle : conn.in_transaction ≡ false
    pub store : IsTrue known → IsTrue (state g conn).is_open → IsStore (state g conn).now

  abbrev pub tells : Kept S → Bool
  tells k = k.known && (state g k.conn).is_open

  -- the repository of the last commit, where the connection is open and the tables are known
  abbrev pub content_of : Kept S → Option Repository
  content_of k = if tells k then Some (repository_in (state g k.conn).committed.trees) else None

  -- it tells what a stop may leave while the connection is open, and after a commit that has shut it
  abbrev pub tells_left_of : Kept S → Bool
  tells_left_of k = k.known && ((state g k.conn).is_clean && ((state g k.conn).is_open || k.in_doubt))

  abbrev pub left_of : Kept S → Repository → Type 0
  left_of k r = (db : Trees) × (state g k.conn).may_leave db × (r ≡ repository_in db)

  abbrev pub is_clean_of : Kept S → Bool
  is_clean_of k = (state g k.conn).is_clean

  -- a call that makes no commit, with its answer
  abbrev pub LooksAt : {T : Type 0} → Result T KeeperFault → Kept S → Kept S → Type 0
  LooksAt result k l = Looks result (content_of k) (content_of l) (tells_left_of k) (tells_left_of l) (is_clean_of k)
      (is_clean_of l) (left_of k) (left_of l)

  abbrev pub TellsAfterAt : {T : Type 0} → Result T KeeperFault → Kept S → Kept S → Type 0
  TellsAfterAt result k l = TellsAfter result (content_of k) (content_of l) (tells_left_of k) (tells_left_of l)
      (is_clean_of k) (is_clean_of l)

  abbrev pub TellsOnAt : Kept S → Kept S → Type 0
  TellsOnAt k l = TellsOn (content_of k) (content_of l) (tells_left_of k) (tells_left_of l) (is_clean_of k)
      (is_clean_of l) k.faults l.faults

  -- the second tells what the first told, but where a fault was counted since or the disk is not clean
  pub record ComesOf (k l : Kept S) : Type 0 where
    pub later : k.faults ≤ l.faults
    pub on : TellsOnAt k l
