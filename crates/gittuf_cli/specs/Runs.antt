-- What a run of a command does to the objects outside.
use Rattle.std.specs.Prelude.{◌≡◌, ◌≤◌, ◌⊎◌, ℕ, List, Option}
use Rattle.octets.specs.Causes.{one_more}
use Rattle.octets.specs.Content.{GainsPart, with_end}
use Rattle.command_words.specs.FirstWords.{AreNamed, IsCommand, IsNoCommand}
use Rattle.command_words.specs.declared.commands.Command.{Command}
use Rattle.command_words.specs.declared.commands.Command.TheVariants as command
use Rattle.worlds.specs.Endings.{refusal_line, status_of}
use Rattle.worlds.specs.declared.ending.Ending.{Ending}
use Rattle.worlds.specs.declared.ending.Ending.TheVariants.{Done, Differs, Broken, Refused}
use Rattle.worlds.specs.declared.ending.Refusal.TheVariants as refusal
use Rattle.worlds.specs.Running.{CountsFaults}
use Rattle.worlds.specs.Touching.{Touched, on_key, on_listing, on_log, on_new_key, on_peer, on_store, on_stream}
use Rattle.worlds.specs.Worlds.{Types, Ways, World}
use Rattle.commands_approve.specs.Runs.{ApproveRuns}
use Rattle.commands_desk.specs.Runs.{ServeRuns}
use Rattle.commands_verify.specs.GlobalRuns.{GlobalRuns}
use Rattle.commands_keys.specs.Runs.{KeyGenRuns, SealRuns}
use Rattle.commands_log.specs.Runs.{AnnotateRuns, LogRuns, RecordRuns}
use Rattle.commands_mirror.specs.Runs.{CheckRuns, MakeRuns, MirrorRuns, on_text}
use Rattle.commands_policy.specs.Runs.{ApplyRuns, ExplainRuns}
use Rattle.commands_desk.specs.PushRuns.{PushRuns}
use Rattle.commands_snapshot.specs.Runs.{SnapshotRuns}
use Rattle.commands_stream.specs.Runs.{ExportRuns, ImportRuns}
use Rattle.commands_verify.specs.Runs.{VerifyRuns}
use Rattle.demo.specs.Runs.{DemoRuns}
use Rattle.gittuf_cli.specs.KeyTypes.{below_of, lms_of, ots_of}

-- the line was written and no fault counted, or a front of the line was written and one fault counted
abbrev pub SaysLine : Option (List ℕ) → Option (List ℕ) → ℕ → ℕ → List ℕ → Type 0
SaysLine told told_now faults faults_now message =
    ((told_now ≡ with_end told message) × (faults_now ≡ faults))
    ⊎ (GainsPart told told_now message × (faults_now ≡ one_more faults))

-- what is said of an ending: nothing where the answer was given or the log is broken, and else the line of the refusal
abbrev pub Says : Option (List ℕ) → Option (List ℕ) → ℕ → ℕ → Ending → Type 0
Says told told_now faults faults_now Done = (told_now ≡ told) × (faults_now ≡ faults)
Says told told_now faults faults_now Differs = (told_now ≡ told) × (faults_now ≡ faults)
Says told told_now faults faults_now Broken = (told_now ≡ told) × (faults_now ≡ faults)
Says told told_now faults faults_now (Refused refused) = SaysLine told told_now faults faults_now (refusal_line refused)

-- which objects a command touches
abbrev pub touched : Command → Touched
touched (command.VerifyRef name root stdin) = on_stream
touched (command.VerifyGlobal name root) = on_store
touched command.Export = on_store
touched command.Import = on_stream
touched (command.KeyGen height width bottom) = on_new_key
touched command.Log = on_store
touched (command.Record name) = on_log
touched (command.Seal add) = on_key
touched (command.Snapshot name) = on_listing
touched command.PolicyApply = on_log
touched (command.Explain space text) = on_store
touched (command.Annotate skip ids message) = on_log
touched (command.Approve name target) = on_log
touched (command.Demo count) = on_store
touched command.Mirror = on_stream
touched (command.EvidenceMake public left right) = on_store
touched command.EvidenceCheck = on_text
touched (command.Serve port workers connections gate) = on_store
touched (command.Push port number) = on_peer

-- what it means that a command ran to an ending
abbrev pub EndsOf : {types : Types} → Ways types → Command → World types → World types → Ending → Type 0
EndsOf ways (command.VerifyRef name root stdin) = VerifyRuns ways name root stdin
EndsOf ways (command.VerifyGlobal name root) = GlobalRuns ways name root
EndsOf ways command.Export = ExportRuns ways
EndsOf ways command.Import = ImportRuns ways
EndsOf ways (command.KeyGen height width bottom) = KeyGenRuns ways (lms_of height) (ots_of width) (below_of bottom)
EndsOf ways command.Log = LogRuns ways
EndsOf ways (command.Record name) = RecordRuns ways name
EndsOf ways (command.Seal add) = SealRuns ways add
EndsOf ways (command.Snapshot name) = SnapshotRuns ways name
EndsOf ways command.PolicyApply = ApplyRuns ways
EndsOf ways (command.Explain space text) = ExplainRuns ways space text
EndsOf ways (command.Annotate skip ids message) = AnnotateRuns ways ids skip message
EndsOf ways (command.Approve name target) = ApproveRuns ways name target
EndsOf ways (command.Demo count) = DemoRuns ways count
EndsOf ways command.Mirror = MirrorRuns ways
EndsOf ways (command.EvidenceMake public left right) = MakeRuns ways public left right
EndsOf ways command.EvidenceCheck = CheckRuns ways
EndsOf ways (command.Serve port workers connections gate) = ServeRuns ways
EndsOf ways (command.Push port number) = PushRuns ways port number

module _ {types : Types} (ways : Ways types) where
  -- the words ask for this command, and it ran to this ending
  pub record RunsCommand (words : List (List ℕ)) (before after : World types) (ending : Ending) : Type 0 where
    pub command : Command
    pub asked : IsCommand words command
    pub ends : EndsOf ways command before after ending

  -- no command was run: the words ask for none, or memory was wanting to read them behind the name of a command
  pub record RunsNone (words : List (List ℕ)) (before after : World types) (ending : Ending) : Type 0 where
    pub why : ((ending ≡ Refused refusal.Words) × IsNoCommand words)
        ⊎ ((ending ≡ Refused refusal.Memory) × AreNamed words)
    pub untouched : after ≡ before

  -- what the words and the objects make of each other
  abbrev pub Ends : List (List ℕ) → World types → World types → Ending → Type 0
  Ends words before after ending = RunsNone words before after ending ⊎ RunsCommand words before after ending

  -- a run of these words answered this status: the words and the objects come to an ending, and that was said
  pub record Ran (words : List (List ℕ)) (before after : World types) (told told_now : Option (List ℕ))
      (faults faults_now : ℕ) (status : ℕ) : Type 0 where
    pub ending : Ending
    pub status_is : status ≡ status_of ending
    pub ends : Ends words before after ending
    pub counted : CountsFaults ways before after ending
    pub says : Says told told_now faults faults_now ending
    pub later : faults ≤ faults_now
