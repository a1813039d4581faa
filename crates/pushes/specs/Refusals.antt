-- Where a text is first wrong that is no push.
use Rattle.std.specs.Prelude.{◌≡◌, ◌≢◌, ◌<◌, ◌≤◌, ◌+◌, ◌++◌, ◌∷◌, ◌⊎◌, [], ℕ, List, Some, length}
use Rattle.git_object.specs.Ids.{IsId}
use Rattle.git_object.specs.Objects.{Pair}
use Rattle.rsl_chain.specs.declared.entries.Entry.{Entry}
use Rattle.pushes.specs.Fronts.{HasHugeNext, IsObjects}
use Rattle.pushes.specs.Pushes.{end_line, entry_in, entry_line, header, largest_push}
use Rattle.pushes.specs.declared.push_faults.PushFault.{PushFault}
use Rattle.pushes.specs.declared.push_faults.PushFault.TheVariants.{Malformed, TooLarge, Memory}

-- the line of an entry that one of the objects is stands in front
pub record HasEntry (objects : List Pair) (rest : List ℕ) (entry : Entry) (more : List ℕ) : Type 0 where
  pub id : IsId entry.id
  pub whole : rest ≡ entry_line entry.id ++ 10 ∷ more
  pub entry_is : entry_in objects entry.id ≡ Some entry

-- another first line
pub record HasNoHeader (text : List ℕ) (at : ℕ) : Type 0 where
  pub place : at ≡ 0
  pub no_header : (more : List ℕ) → text ≢ header ++ more

-- behind the first line stand these objects, and then a line that is neither an object's that may come nor that of an
-- entry among them
pub record HasNoEntry (text : List ℕ) (at : ℕ) : Type 0 where
  pub more : List ℕ
  pub objects : List Pair
  pub rest : List ℕ
  pub first : text ≡ header ++ more
  pub front : IsObjects more objects rest
  pub no_entry : (entry : Entry) (after : List ℕ) → HasEntry objects rest entry after → ⊥
  pub place : at + length rest ≡ length text

-- behind the entry's line stands another than the last line
pub record HasNoEnd (text : List ℕ) (at : ℕ) : Type 0 where
  pub more : List ℕ
  pub objects : List Pair
  pub rest : List ℕ
  pub entry : Entry
  pub after : List ℕ
  pub first : text ≡ header ++ more
  pub front : IsObjects more objects rest
  pub has : HasEntry objects rest entry after
  pub no_end : (tail : List ℕ) → after ≢ end_line ++ tail
  pub place : at + length after ≡ length text

-- something stands behind the last line
pub record HasTail (text : List ℕ) (at : ℕ) : Type 0 where
  pub more : List ℕ
  pub objects : List Pair
  pub rest : List ℕ
  pub entry : Entry
  pub tail : List ℕ
  pub first : text ≡ header ++ more
  pub front : IsObjects more objects rest
  pub has : HasEntry objects rest entry (end_line ++ tail)
  pub some : tail ≢ []
  pub place : at + length tail ≡ length text

-- the first line that is wrong begins at this place
abbrev pub IsMalformedAt : List ℕ → ℕ → Type 0
IsMalformedAt text at = HasNoHeader text at ⊎ (HasNoEntry text at ⊎ (HasNoEnd text at ⊎ HasTail text at))

-- behind the first line and objects stands one that is too large
pub record HasHugeObject (text : List ℕ) (told : ℕ) : Type 0 where
  pub more : List ℕ
  pub first : text ≡ header ++ more
  pub huge : HasHugeNext more told

abbrev pub IsRefused : List ℕ → PushFault → Type 0
IsRefused text (Malformed at) = (length text ≤ largest_push) × IsMalformedAt text at
IsRefused text (TooLarge told) = ((largest_push < length text) × (told ≡ length text))
    ⊎ ((length text ≤ largest_push) × HasHugeObject text told)
IsRefused text Memory = Unit {0}
