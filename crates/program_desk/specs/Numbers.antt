-- The numbers of `serve` in the words of a call.
use Rattle.std.specs.Prelude.{◌≡◌, ◌⊎◌, ℕ, List, Option, Some, None}
use Rattle.command_words.specs.FirstWords.{IsCommand, IsNoCommand}
use Rattle.command_words.specs.Numbers.{IsUpTo}
use Rattle.command_words.specs.declared.commands.Command.{Command}
use Rattle.command_words.specs.declared.commands.Command.TheVariants.{VerifyRef, Export, Import, KeyGen, Log, Record}
use Rattle.command_words.specs.declared.commands.Command.TheVariants.{Seal, Snapshot, PolicyApply, Explain, Annotate}
use Rattle.command_words.specs.declared.commands.Command.TheVariants.{Approve, Demo, Mirror}
use Rattle.command_words.specs.declared.commands.Command.TheVariants.{EvidenceMake, EvidenceCheck, Push, Serve}
use Rattle.command_words.specs.declared.commands.Command.TheVariants.{VerifyGlobal}
use Rattle.program_desk.specs.declared.words.ServeWords.{ServeWords}

-- the numbers of the desk that a command asks for; none where it asks for no desk
abbrev pub numbers_of : Command → Option ServeWords
numbers_of (VerifyRef name root stdin) = None
numbers_of (VerifyGlobal name root) = None
numbers_of Export = None
numbers_of Import = None
numbers_of (KeyGen height width bottom) = None
numbers_of Log = None
numbers_of (Record name) = None
numbers_of (Seal add) = None
numbers_of (Snapshot name) = None
numbers_of PolicyApply = None
numbers_of (Explain space text) = None
numbers_of (Annotate skip ids message) = None
numbers_of (Approve name target) = None
numbers_of (Demo count) = None
numbers_of Mirror = None
numbers_of (EvidenceMake public left right) = None
numbers_of EvidenceCheck = None
numbers_of (Serve p w c g) = Some (record { port = p; workers = w; connections = c; gate = g })
numbers_of (Push port number) = None

-- the words ask for a command with these numbers, or for none
abbrev pub AreOfWords : List (List ℕ) → Option ServeWords → Type 0
AreOfWords words found = ((command : Command) × IsCommand words command × (found ≡ numbers_of command))
    ⊎ (IsNoCommand words × (found ≡ None))

-- each number is within its limits
pub record AreWithin (asked : ServeWords) : Type 0 where
  pub port : IsUpTo 65535 asked.port
  pub workers : IsUpTo 64 asked.workers
  pub connections : IsUpTo 1000000 asked.connections
