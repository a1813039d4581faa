-- The two words in front of a command's: where the store is, and where the key file is.
use Rattle.std.specs.Prelude.{◌≡◌, ◌≢◌, [], ◌∷◌, ℕ, List, codes, IsTrue}
use Rattle.std.specs.Bool.{nat_eq}
use Rattle.std.specs.List.{ends_with, starts_with}
use Rattle.command_words.specs.declared.places.KeyPlace.{KeyPlace}
use Rattle.command_words.specs.declared.places.KeyPlace.TheVariants as key
use Rattle.command_words.specs.declared.places.Store.{Store}
use Rattle.command_words.specs.declared.places.Store.TheVariants as store

-- the text that stands for a store
abbrev pub store_text : Store → List ℕ
store_text store.Memory = codes "-"
store_text (store.Directory path) = path.now
store_text (store.Database path) = path.now

-- the text ends in a slash
abbrev pub IsFolder : List ℕ → Type 0
IsFolder text = IsTrue (ends_with nat_eq text (codes "/"))

-- the text is not empty, begins in no dash and ends in no slash
abbrev pub IsDatabase : List ℕ → Type 0
IsDatabase text = (text ≢ []) × (¬ IsTrue (starts_with nat_eq text (codes "-"))) × (¬ IsFolder text)

abbrev pub IsStore : Store → Type 0
IsStore store.Memory = Unit {0}
IsStore (store.Directory path) = IsFolder path.now
IsStore (store.Database path) = IsDatabase path.now

-- the text that stands for a key file
abbrev pub key_text : KeyPlace → List ℕ
key_text key.Memory = codes "-"
key_text (key.File path) = path.now

abbrev pub IsKey : KeyPlace → Type 0
IsKey key.Memory = Unit {0}
IsKey (key.File path) = path.now ≢ codes "-"

-- this store and this key file are named, and then these words follow
pub record ArePlaces (words : List (List ℕ)) (store : Store) (key : KeyPlace) (rest : List (List ℕ)) : Type 0 where
  pub are : words ≡ store_text store ∷ key_text key ∷ rest
  pub is_store : IsStore store
  pub is_key : IsKey key

-- no store and key file are named
abbrev pub AreNoPlaces : List (List ℕ) → Type 0
AreNoPlaces words = (store : Store) (key : KeyPlace) (rest : List (List ℕ)) → ArePlaces words store key rest → ⊥
