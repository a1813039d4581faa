-- Which command words ask for: the first word names it, and the words after that are such as it takes.
use Rattle.std.specs.Prelude.{◌≡◌, ◌≢◌, ◌<◌, ◌≤◌, ◌∷◌, ℕ, Bool, List, Option, None, Some, codes, length}
use Rattle.git_object.specs.Names.{log_name}
use Rattle.git_object.specs.References.{policy_name}
use Rattle.ref_patterns.specs.declared.space.Space.{Space}
use Rattle.evidence.specs.Dossiers.{IsPublic}
use Rattle.command_words.specs.Commands.{AreTwo, AsksApproval, AsksDemo, AsksDossier, AsksGlobal, AsksKey, AsksNote}
use Rattle.command_words.specs.Commands.{AsksPush, AsksReasons, AsksReference, AsksSeal, AsksService}
use Rattle.command_words.specs.Commands.{AsksVerdict}
use Rattle.command_words.specs.Numbers.{IsUpTo}
use Rattle.command_words.specs.Grammars.{Takes, bare_app}
use Rattle.command_words.specs.declared.commands.Command.{Command}
use Rattle.command_words.specs.declared.commands.Command.TheVariants.{VerifyRef, Export, Import, KeyGen, Log, Record}
use Rattle.command_words.specs.declared.commands.Command.TheVariants.{Seal, Snapshot, PolicyApply, Explain, Annotate}
use Rattle.command_words.specs.declared.commands.Command.TheVariants.{Approve, Demo, Mirror}
use Rattle.command_words.specs.declared.commands.Command.TheVariants.{EvidenceMake, EvidenceCheck, Serve, Push}
use Rattle.command_words.specs.declared.commands.Command.TheVariants.{VerifyGlobal}
use Rattle.command_words.specs.declared.commands.CommandName.{CommandName}
use Rattle.command_words.specs.declared.commands.CommandName.TheVariants as name
use Rattle.command_words.specs.declared.commands.Height.{Height}
use Rattle.command_words.specs.declared.commands.Width.{Width}

abbrev pub name_text : CommandName → List ℕ
name_text name.VerifyRef = codes "verify-ref"
name_text name.VerifyGlobal = codes "verify-global"
name_text name.Export = codes "export"
name_text name.Import = codes "import"
name_text name.KeyGen = codes "key-gen"
name_text name.Log = codes "log"
name_text name.Record = codes "record"
name_text name.Seal = codes "seal"
name_text name.Snapshot = codes "snapshot"
name_text name.PolicyApply = codes "policy-apply"
name_text name.Explain = codes "explain"
name_text name.Annotate = codes "annotate"
name_text name.Approve = codes "approve"
name_text name.Demo = codes "demo"
name_text name.Mirror = codes "mirror"
name_text name.EvidenceMake = codes "evidence-make"
name_text name.EvidenceCheck = codes "evidence-check"
name_text name.Serve = codes "serve"
name_text name.Push = codes "push"

-- the words behind this first one ask for the command
abbrev pub AsksFor : CommandName → List (List ℕ) → Command → Type 0
AsksFor name.VerifyRef rest command = (reference : List ℕ) × (root : Option (List (List ℕ))) × (stdin : Bool)
    × (command ≡ VerifyRef reference root stdin) × AsksVerdict reference root stdin rest
AsksFor name.VerifyGlobal rest command = (reference : List ℕ) × (root : Option (List (List ℕ)))
    × (command ≡ VerifyGlobal reference root) × AsksGlobal reference root rest
AsksFor name.Export rest command = (command ≡ Export) × Takes (bare_app (codes "export")) rest
AsksFor name.Import rest command = (command ≡ Import) × Takes (bare_app (codes "import")) rest
AsksFor name.KeyGen rest command = (height : Height) × (width : Width) × (bottom : Option Height)
    × (command ≡ KeyGen height width bottom) × AsksKey height width bottom rest
AsksFor name.Log rest command = (command ≡ Log) × Takes (bare_app (codes "log")) rest
AsksFor name.Record rest command = (reference : List ℕ) × (command ≡ Record reference)
    × AsksReference (codes "record") reference rest
AsksFor name.Seal rest command = (add : Bool) × (command ≡ Seal add) × AsksSeal add rest
AsksFor name.Snapshot rest command = (reference : List ℕ) × (command ≡ Snapshot reference)
    × AsksReference (codes "snapshot") reference rest
AsksFor name.PolicyApply rest command = (command ≡ PolicyApply) × Takes (bare_app (codes "policy-apply")) rest
AsksFor name.Explain rest command = (space : Space) × (text : List ℕ) × (command ≡ Explain space text)
    × AsksReasons space text rest
AsksFor name.Annotate rest command = (skip : Bool) × (ids : List (List ℕ)) × (message : List ℕ)
    × (command ≡ Annotate skip ids message) × AsksNote skip ids message rest
AsksFor name.Approve rest command = (reference : List ℕ) × (target : List ℕ) × (command ≡ Approve reference target)
    × AsksApproval reference target rest
AsksFor name.Demo rest command = (count : ℕ) × (command ≡ Demo count) × AsksDemo count rest
AsksFor name.Mirror rest command = (command ≡ Mirror) × Takes (bare_app (codes "mirror")) rest
AsksFor name.EvidenceMake rest command = (public : List ℕ) × (left : List ℕ) × (right : List ℕ)
    × (command ≡ EvidenceMake public left right) × AsksDossier public left right rest
AsksFor name.EvidenceCheck rest command = (command ≡ EvidenceCheck) × Takes (bare_app (codes "evidence-check")) rest
AsksFor name.Serve rest command = (port : ℕ) × (workers : ℕ) × (connections : ℕ) × (gate : Bool)
    × (command ≡ Serve port workers connections gate) × AsksService port workers connections gate rest
AsksFor name.Push rest command = (port : ℕ) × (number : ℕ) × (command ≡ Push port number) × AsksPush port number rest

abbrev pub AsksForNone : CommandName → List (List ℕ) → Type 0
AsksForNone first rest = (command : Command) → AsksFor first rest command → ⊥

-- the first word is the name of a command
pub record AreNamed (words : List (List ℕ)) : Type 0 where
  pub first : CommandName
  pub rest : List (List ℕ)
  pub are : words ≡ name_text first ∷ rest

-- the words ask for this command
pub record IsCommand (words : List (List ℕ)) (command : Command) : Type 0 where
  pub first : CommandName
  pub rest : List (List ℕ)
  pub are : words ≡ name_text first ∷ rest
  pub asks : AsksFor first rest command

-- the words are outside the grammar
abbrev pub IsNoCommand : List (List ℕ) → Type 0
IsNoCommand words = (command : Command) → IsCommand words command → ⊥

-- the values of a command are within their limits, and no reference is the log's own
abbrev pub IsWithinLimits : Command → Type 0
IsWithinLimits (VerifyRef name root stdin) = name ≢ log_name
IsWithinLimits (VerifyGlobal name root) = (name ≢ log_name) × (name ≢ policy_name)
IsWithinLimits Export = Unit {0}
IsWithinLimits Import = Unit {0}
IsWithinLimits (KeyGen height width None) = Unit {0}
IsWithinLimits (KeyGen height width (Some bottom)) = AreTwo height bottom
IsWithinLimits Log = Unit {0}
IsWithinLimits (Record name) = name ≢ log_name
IsWithinLimits (Seal add) = Unit {0}
IsWithinLimits (Snapshot name) = name ≢ log_name
IsWithinLimits PolicyApply = Unit {0}
IsWithinLimits (Explain space text) = Unit {0}
IsWithinLimits (Annotate skip ids message) = (0 < length ids) × (length ids ≤ 256) × (length message ≤ 65536)
IsWithinLimits (Approve name target) = name ≢ log_name
IsWithinLimits (Demo count) = count ≤ 500
IsWithinLimits Mirror = Unit {0}
IsWithinLimits (EvidenceMake public left right) = IsPublic public
IsWithinLimits EvidenceCheck = Unit {0}
IsWithinLimits (Serve port workers connections gate) = IsUpTo 65535 port × IsUpTo 64 workers
    × IsUpTo 1000000 connections
IsWithinLimits (Push port number) = IsUpTo 65535 port × IsUpTo 1000000 number
