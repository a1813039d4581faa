-- Which kind of store a word is opened as, and with which statuses it is refused.
use Rattle.std.specs.Prelude.{◌≡◌, ◌⊎◌, ℕ}
use Rattle.command_words.specs.declared.places.Store.{Store}
use Rattle.command_words.specs.declared.places.Store.TheVariants as store
use Rattle.keeper_layers.specs.declared.either_keeper.EitherKeeper.{EitherKeeper}
use Rattle.keeper_layers.specs.declared.either_keeper.EitherKeeper.TheVariants.{First, Second}
use Rattle.worlds.specs.Endings.{refusal_status}
use Rattle.worlds.specs.declared.ending.Part.TheVariants as part
use Rattle.worlds.specs.declared.ending.Refusal.TheVariants as refusal

-- the store failed, or memory was wanting
abbrev pub IsFaultStatus : ℕ → Type 0
IsFaultStatus status = (status ≡ refusal_status (refusal.Fault part.Keeper)) ⊎ (status ≡ refusal_status refusal.Memory)

-- an empty store in memory is always had, and only a database file can have another schema
abbrev pub IsRefusal : Store → ℕ → Type 0
IsRefusal store.Memory status = ⊥
IsRefusal (store.Directory path) status = IsFaultStatus status
IsRefusal (store.Database path) status = (status ≡ 3) ⊎ IsFaultStatus status

-- the store is of the kind that the word names: in memory, in a folder, or in a database file
abbrev pub IsOfKind : {M D S : Type 0} → Store → EitherKeeper M (EitherKeeper D S) → Type 0
IsOfKind store.Memory (First keeper) = Unit {0}
IsOfKind store.Memory (Second keeper) = ⊥
IsOfKind (store.Directory path) (First keeper) = ⊥
IsOfKind (store.Directory path) (Second (First keeper)) = Unit {0}
IsOfKind (store.Directory path) (Second (Second keeper)) = ⊥
IsOfKind (store.Database path) (First keeper) = ⊥
IsOfKind (store.Database path) (Second (First keeper)) = ⊥
IsOfKind (store.Database path) (Second (Second keeper)) = Unit {0}
