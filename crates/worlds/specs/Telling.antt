-- What has to be told for what a command comes to to be known.
use Rattle.std.specs.Prelude.{◌≡◌, ◌⊎◌, ℕ, Bool, true, false, List, Some}
use Rattle.git_object.specs.Repository.{Repository}
use Rattle.worlds.specs.Endings.{IsStopped}
use Rattle.worlds.specs.declared.ending.Ending.{Ending}
use Rattle.worlds.specs.Touching.{Touched}
use Rattle.worlds.specs.Worlds.{Types, Ways, World}

-- what the objects hold
pub record Content : Type 0 where
  pub held : Repository
  pub bytes : List ℕ
  pub file : List ℕ
  pub come : List ℕ

-- this is so where the object is touched
abbrev pub Where : Bool → Type 0 → Type 0
Where true so = so
Where false so = Unit {0}

module _ {types : Types} (ways : Ways types) where
  -- the source tells these bytes
  abbrev pub TellsSource : World types → Content → Type 0
  TellsSource before content = ways.source.left before.source ≡ Some content.bytes

  -- the store tells this repository, and still tells one afterwards
  pub record TellsStore (before after : World types) (content : Content) : Type 0 where
    pub held : ways.keeper.content before.keeper ≡ Some content.held
    pub now : Repository
    pub holds : ways.keeper.content after.keeper ≡ Some now

  -- the disk tells this file, and still tells one afterwards
  pub record TellsDisk (before after : World types) (content : Content) : Type 0 where
    pub held : ways.disk.seen before.disk ≡ Some content.file
    pub now : List ℕ
    pub holds : ways.disk.seen after.disk ≡ Some now

  -- the peer tells these bytes
  abbrev pub TellsPeer : World types → Content → Type 0
  TellsPeer before content = ways.peer.left before.peer ≡ Some content.come

  -- the touched objects that hold something tell it
  pub record Tells (touched : Touched) (before after : World types) (content : Content) : Type 0 where
    pub source : Where touched.source (TellsSource before content)
    pub store : Where touched.keeper (TellsStore before after content)
    pub disk : Where touched.disk (TellsDisk before after content)
    pub peer : Where touched.peer (TellsPeer before content)

  -- where they do, what ended in this way is what is come to over that content, or it stopped
  abbrev pub TellsEnding : Touched → (World types → World types → Ending → Type 0) → (Content → Ending → Type 0)
      → Type 0
  TellsEnding touched EndsSo Comes =
      (before after : World types) (content : Content) (ending : Ending) → Tells touched before after content
      → EndsSo before after ending → Comes content ending ⊎ IsStopped ending
