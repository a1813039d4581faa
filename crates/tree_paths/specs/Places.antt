-- The next place of two lists of entries that are gone through side by side.
use Rattle.std.specs.Prelude.{◌≡◌, ◌+◌, ◌<◌, ◌≤◌, ◌*◌, ◌++◌, ◌∷◌, [], false, ℕ, List, length, Option, Some, None}
use Rattle.std.specs.List.{AllByRecursion}
use Rattle.std.specs.declared.cmp.Ordering.TheVariants.{Less}
use Rattle.octets.specs.BytesMap.{by_bytes}
use Rattle.text_reader.specs.Line.{has_byte}
use Rattle.git_object.specs.Trees.{AreWellFormed, sort_key}
use Rattle.git_object.specs.declared.trees.TreeEntry.{TreeEntry}
use Rattle.tree_paths.specs.Walks.{IsFew, Step, entry_steps, is_dir}
use Rattle.tree_paths.specs.Pairings.{changes, cost, merge}
use Rattle.tree_paths.specs.declared.counts.Counts.{Counts}

-- the first entry's place is less, and both names hold no slash
pub record Before (e f : TreeEntry) : Type 0 where
  pub less : by_bytes (sort_key e) (sort_key f) ≡ Less
  pub plain : has_byte 47 e.name ≡ false
  pub plain_next : has_byte 47 f.name ≡ false

-- the entry, if there is one, and what follows it
abbrev pub with_first : Option TreeEntry → List TreeEntry → List TreeEntry
with_first None es = es
with_first (Some e) es = e ∷ es

abbrev pub AreAfter : Option TreeEntry → List TreeEntry → Type 0
AreAfter None es = Unit {0}
AreAfter (Some e) es = AllByRecursion (Before e) es

-- two entries stand at one place
pub record AreAtOne (e f : TreeEntry) : Type 0 where
  pub key : sort_key e ≡ sort_key f
  pub kind : is_dir e.mode ≡ is_dir f.mode

-- where both are there, they stand at one place; one of them is there
abbrev pub AreTogether : Option TreeEntry → Option TreeEntry → Type 0
AreTogether None None = ⊥
AreTogether None (Some f) = Unit {0}
AreTogether (Some e) None = Unit {0}
AreTogether (Some e) (Some f) = AreAtOne e f

-- these come first, and all that is left stands after both
pub record IsNext (es fs : List TreeEntry) (e f : Option TreeEntry) (rest_from rest_to : List TreeEntry) : Type 0 where
  pub from_is : es ≡ with_first e rest_from
  pub to_is : fs ≡ with_first f rest_to
  pub together : AreTogether e f
  pub from_before : AreAfter e rest_to
  pub to_before : AreAfter f rest_from
  pub formed_from : AreWellFormed rest_from
  pub formed_to : AreWellFormed rest_to

pub record AreDone (es fs : List TreeEntry) : Type 0 where
  pub from : es ≡ []
  pub to : fs ≡ []

-- what an entry leads to, if there is one
abbrev pub piece : (List ℕ → List ℕ → List Step) → List ℕ → List ℕ → Option TreeEntry → List Step
piece into holder front None = []
piece into holder front (Some e) = entry_steps into holder front e (is_dir e.mode)

-- one more path, and no more trees
pub record OnePath (a b : Counts) : Type 0 where
  pub more : b.paths ≡ a.paths + 1
  pub dirs : b.dirs ≡ a.dirs
  pub few : b.paths ≤ 262144

-- an entry that is taken leaves counts within the limits, and none leaves them as they are
abbrev pub Takes : Option TreeEntry → Counts → Counts → Type 0
Takes None a b = b ≡ a
Takes (Some e) a b = IsFew 0 b

-- the counts in the middle of a tree of which these entries are left: the tree itself may still be without a path
pub record Kept (left : ℕ) (rest : List TreeEntry) (c : Counts) : Type 0 where
  pub few : c.paths ≤ 262144
  pub room : c.dirs + left ≤ 32 * c.paths + 33
  pub full : length rest ≡ 0 → left < 32 → c.dirs ≤ 32 * c.paths

-- what is still to be added by what is left of two walks
pub record Rest (all_from all_to : List Step) (paths_start : List (List ℕ)) (reads_start : ℕ) (xs ys : List Step)
    (paths : List (List ℕ)) (reads : ℕ) : Type 0 where
  pub changed : paths_start ++ changes (merge all_from all_to) ≡ paths ++ changes (merge xs ys)
  pub spent : reads + cost (merge xs ys) ≤ reads_start + cost (merge all_from all_to)
