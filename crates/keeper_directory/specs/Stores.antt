-- Which folders may be a store's, by the names of what is in them.
use Rattle.std.specs.Prelude.{◌≡◌, ◌⊎◌, ◌++◌, ◌∷◌, [], ℕ, List, false, codes}
use Rattle.std.specs.List.{AllByRecursion}
use Rattle.text_reader.specs.Line.{has_byte}

-- the text is that of these names, each followed by a zero byte, which none of them holds
abbrev pub IsListing : List (List ℕ) → List ℕ → Type 0
IsListing [] text = text ≡ []
IsListing (name ∷ names) text = (rest : List ℕ) × (text ≡ name ++ 0 ∷ rest) × (has_byte 0 name ≡ false)
    × IsListing names rest

-- a name is one of these
abbrev pub IsOneOf : List ℕ → List (List ℕ) → Type 0
IsOneOf name [] = ⊥
IsOneOf name (other ∷ names) = (other ≡ name) ⊎ IsOneOf name names

-- the name of a mark: that of a call that may change the store, that of a change, and what is to become the latter
abbrev pub IsMark : List ℕ → Type 0
IsMark name = (name ≡ codes "open.lock") ⊎ ((name ≡ codes "commit.lock") ⊎ (name ≡ codes "commit.new"))

-- the name of a folder itself, of the one above it, or of a mark
abbrev pub IsDots : List ℕ → Type 0
IsDots name = (name ≡ codes ".") ⊎ ((name ≡ codes "..") ⊎ IsMark name)

-- there are only such names
abbrev pub AreDots : List (List ℕ) → Type 0
AreDots names = AllByRecursion IsDots names

-- no call that may change the store works in a folder with these names, and none was stopped there before a change
abbrev pub IsFree : List (List ℕ) → Type 0
IsFree names = IsOneOf (codes "open.lock") names → ⊥

-- a change has begun in a folder with these names, and is not whole
abbrev pub HasBegun : List (List ℕ) → Type 0
HasBegun names = IsOneOf (codes "commit.lock") names

-- a folder with these names may be a store's, or become one again: it is no Git directory, and has one of the store's
-- two folders, or nothing of its own
pub record MayBeMended (names : List (List ℕ)) : Type 0 where
  pub not_git : IsOneOf (codes "HEAD") names → IsOneOf (codes "config") names → ⊥
  pub own : AreDots names ⊎ (IsOneOf (codes "objects") names ⊎ IsOneOf (codes "refs") names)

-- a folder with these names may be a store's, and no change was left half made in it
pub record MayBeKept (names : List (List ℕ)) : Type 0 where
  pub whole : HasBegun names → ⊥
  pub own : MayBeMended names
