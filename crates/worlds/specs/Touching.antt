-- Which of the objects outside a command touches.
use Rattle.std.specs.Prelude.{◌≡◌, Bool, true, false, if◌then◌else◌}
use Rattle.worlds.specs.Worlds.{Types, World}

-- which objects are touched
pub record Touched : Type 0 where
  pub source : Bool
  pub sink : Bool
  pub keeper : Bool
  pub disk : Bool
  pub entropy : Bool
  pub clock : Bool
  pub peer : Bool

abbrev pub nothing : Touched
nothing = record {
  source = false;
  sink = false;
  keeper = false;
  disk = false;
  entropy = false;
  clock = false;
  peer = false;
}

-- the store is used, and the answer printed
abbrev pub on_store : Touched
on_store = record nothing { sink = true; keeper = true }

-- the source is read beside it
abbrev pub on_stream : Touched
on_stream = record nothing { source = true; sink = true; keeper = true }

-- and the clock is asked
abbrev pub on_listing : Touched
on_listing = record nothing { source = true; sink = true; keeper = true; clock = true }

-- something is signed at this time, and committed
abbrev pub on_log : Touched
on_log = record nothing { sink = true; keeper = true; disk = true; clock = true }

-- what is read is signed
abbrev pub on_key : Touched
on_key = record nothing { source = true; sink = true; disk = true }

-- a key is drawn
abbrev pub on_new_key : Touched
on_new_key = record nothing { sink = true; disk = true; entropy = true }

-- an entry of the store is sent, and the answer printed
abbrev pub on_peer : Touched
on_peer = record nothing { sink = true; keeper = true; peer = true }

-- the object afterwards where it is touched, and else the one before
abbrev pub pick : {X : Type 0} → Bool → X → X → X
pick touched before after = (if touched then after else before)

module _ {types : Types} where
  -- the world before, with these objects as they are afterwards
  abbrev pub only : Touched → World types → World types → World types
  only touched before after = record {
    source = pick touched.source before.source after.source;
    sink = pick touched.sink before.sink after.sink;
    keeper = pick touched.keeper before.keeper after.keeper;
    disk = pick touched.disk before.disk after.disk;
    entropy = pick touched.entropy before.entropy after.entropy;
    clock = pick touched.clock before.clock after.clock;
    peer = pick touched.peer before.peer after.peer;
  }

  -- no other object is touched
  abbrev pub Touches : Touched → World types → World types → Type 0
  Touches touched before after = after ≡ only touched before after
