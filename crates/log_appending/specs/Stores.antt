-- What the commit of an entry does to a store.
use Rattle.std.specs.Prelude.{◌≡◌, ◌⊎◌, ℕ, List, [], ◌∷◌, true, Some, Result, Ok, Err}
use Rattle.octets.specs.Content.{Told}
use Rattle.git_object.specs.Names.{log_name}
use Rattle.git_object.specs.Repository.{Repository}
use Rattle.git_object.specs.declared.kinds.Kind.TheVariants.{Commit}
use Rattle.keeper_api.specs.Undisturbed.{Undisturbed}
use Rattle.keeper_api.specs.declared.changes.Change.{Change}
use Rattle.keeper_api.specs.declared.keeper_faults.KeeperFault.{KeeperFault}
use Rattle.keeper_api.specs.declared.keeper_faults.KeeperFault.TheVariants.{Failed, Memory}
use Rattle.keeper_api.specs.declared.keepers.Keeper as keeper
use Rattle.log_appending.specs.Entries.{entry_id, with_entry}

-- the commit of this body, and the log's reference at it
abbrev pub entry_change : List ℕ → Change
entry_change text = record {
  objects = record { kind = Commit; body = text } ∷ [];
  refs = record { name = log_name; to = Some (entry_id text) } ∷ [];
}

-- one is the other with the entry more
abbrev pub GainsEntry : List ℕ → Repository → Repository → Type 0
GainsEntry text was now = now ≡ with_entry text was

-- one is the other, or that with the entry more
abbrev pub MayGainEntry : List ℕ → Repository → Repository → Type 0
MayGainEntry text was now = (now ≡ was) ⊎ (now ≡ with_entry text was)

module _ {R : Type 0} (keeper_of : keeper.Ghosts R) (text : List ℕ) (old new : R) where
  -- the repository has the entry more, and a stop leaves what is held and nothing else
  pub record Gains : Type 0 where
    pub held : Told (GainsEntry text) (keeper_of.content old) (keeper_of.content new)
    pub tells : keeper_of.tells_left new ≡ true → keeper_of.tells_left old ≡ true
    pub stop : keeper_of.tells_left new ≡ true → (now : Repository) → keeper_of.content new ≡ Some now
        → (r : Repository) → keeper_of.left new r → r ≡ now

  -- the repository is as before or has the entry more, and a stop leaves no more than it could, and that
  pub record MayGain : Type 0 where
    pub held : Told (MayGainEntry text) (keeper_of.content old) (keeper_of.content new)
    pub tells : keeper_of.tells_left new ≡ true → keeper_of.tells_left old ≡ true
    pub stop : keeper_of.tells_left new ≡ true → (r : Repository) → keeper_of.left new r
        → keeper_of.left old r ⊎ ((was : Repository) × (keeper_of.content old ≡ Some was) × (r ≡ with_entry text was))

  -- what each outcome of the commit means
  abbrev pub CommitEnds : Result (List ℕ) KeeperFault → Type 0
  CommitEnds (Ok id) = (id ≡ entry_id text) × Gains
  CommitEnds (Err Failed) = MayGain
  CommitEnds (Err Memory) = Undisturbed keeper_of old new
