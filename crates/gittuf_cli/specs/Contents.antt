-- What a run comes to where the objects tell what they hold: one ending, faults and memory aside.
use Rattle.std.specs.Prelude.{◌≡◌, ◌⊎◌, ℕ, List}
use Rattle.command_words.specs.FirstWords.{IsCommand, IsNoCommand}
use Rattle.command_words.specs.declared.commands.Command.{Command}
use Rattle.command_words.specs.declared.commands.Command.TheVariants as command
use Rattle.worlds.specs.Endings.{IsStopped}
use Rattle.worlds.specs.declared.ending.Ending.{Ending}
use Rattle.worlds.specs.declared.ending.Ending.TheVariants.{Refused}
use Rattle.worlds.specs.declared.ending.Refusal.TheVariants as refusal
use Rattle.worlds.specs.Telling.{Content, Tells}
use Rattle.worlds.specs.Worlds.{Types, Ways, World}
use Rattle.commands_approve.specs.Runs.{ApproveAnswers}
use Rattle.commands_desk.specs.Runs.{ServeAnswers}
use Rattle.commands_verify.specs.GlobalRuns.{GlobalAnswered}
use Rattle.commands_keys.specs.Runs.{KeyGenAnswers, SealAnswers}
use Rattle.commands_log.specs.Runs.{LogAnswers, RecordAnswers}
use Rattle.commands_mirror.specs.Runs.{CheckAnswers, MakeAnswers, MirrorAnswers}
use Rattle.commands_policy.specs.Runs.{ApplyAnswers, ExplainAnswers}
use Rattle.commands_desk.specs.PushRuns.{PushAnswers}
use Rattle.commands_snapshot.specs.Contents.{IsSettled}
use Rattle.commands_snapshot.specs.Runs.{SnapshotAnswers}
use Rattle.commands_stream.specs.Runs.{ExportAnswers, ImportAnswers}
use Rattle.commands_verify.specs.Runs.{VerifyAnswers}
use Rattle.demo.specs.Runs.{DemoAnswers}
use Rattle.gittuf_cli.specs.Runs.{Ends, touched}

-- what a command comes to over this content
abbrev pub Comes : Command → Content → Ending → Type 0
Comes (command.VerifyRef name root stdin) = VerifyAnswers name root stdin
Comes (command.VerifyGlobal name root) = GlobalAnswered name root
Comes command.Export = ExportAnswers
Comes command.Import = ImportAnswers
Comes (command.KeyGen height width bottom) = KeyGenAnswers
Comes command.Log = LogAnswers
Comes (command.Record name) = RecordAnswers
Comes (command.Seal add) = SealAnswers add
Comes (command.Snapshot name) = SnapshotAnswers name
Comes command.PolicyApply = ApplyAnswers
Comes (command.Explain space text) = ExplainAnswers
Comes (command.Annotate skip ids message) = RecordAnswers
Comes (command.Approve name target) = ApproveAnswers name target
Comes (command.Demo count) = DemoAnswers count
Comes command.Mirror = MirrorAnswers
Comes (command.EvidenceMake public left right) = MakeAnswers left right
Comes command.EvidenceCheck = CheckAnswers
Comes (command.Serve port workers connections gate) = ServeAnswers
Comes (command.Push port number) = PushAnswers number

-- what is settled of the content where a command has one ending: nothing, but for the trees of a listing
abbrev pub IsSettledFor : Command → Content → Type 0
IsSettledFor (command.Snapshot name) content = IsSettled content.bytes
IsSettledFor _ content = Unit {0}

-- the words ask for this command, and it comes to this
pub record IsAnswered (words : List (List ℕ)) (content : Content) (ending : Ending) : Type 0 where
  pub command : Command
  pub asked : IsCommand words command
  pub comes : Comes command content ending

-- the ending for these words over this content
abbrev pub IsOutcome : List (List ℕ) → Content → Ending → Type 0
IsOutcome words content ending =
    ((ending ≡ Refused refusal.Words) × IsNoCommand words) ⊎ IsAnswered words content ending

-- where the objects that a command touches tell their content, an ending is the one for it, or the run stopped
abbrev pub TellsOutcome : {types : Types} → Ways types → Type 0
TellsOutcome {types} ways =
    (words : List (List ℕ)) (before after : World types) (ending : Ending) (content : Content)
    → ((command : Command) → IsCommand words command → Tells ways (touched command) before after content)
    → Ends ways words before after ending → IsOutcome words content ending ⊎ IsStopped ending

-- there is at most one ending for the same words and content, where that is settled
abbrev pub OneOutcome : Type 0
OneOutcome =
    (words : List (List ℕ)) (content : Content) (a b : Ending)
    → ((command : Command) → IsCommand words command → IsSettledFor command content)
    → IsOutcome words content a → IsOutcome words content b → a ≡ b
