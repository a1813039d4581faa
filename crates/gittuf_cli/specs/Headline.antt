-- The sentence that the program exists for: what a run of `verify-ref` answers.
use Rattle.std.specs.Prelude.{◌≡◌, ◌<◌, ◌-◌, ◌^◌, ◌⊎◌, ℕ, List, Option, Some, Ok, Bool, IsTrue}
use Rattle.octets.specs.Content.{with_end}
use Rattle.git_object.specs.Repository.{Repository}
use Rattle.rsl_chain.specs.Logs.{IsBreakOf}
use Rattle.command_words.specs.FirstWords.{IsCommand}
use Rattle.command_words.specs.declared.commands.Command.TheVariants.{VerifyRef}
use Rattle.worlds.specs.Breaks.{break_line}
use Rattle.worlds.specs.Counts.{Faults}
use Rattle.worlds.specs.Endings.{refusal_line, status_of}
use Rattle.worlds.specs.declared.ending.Refusal.TheVariants as refusal
use Rattle.verify_ref.specs.Lines.{line}
use Rattle.verify_ref.specs.Verdicts.{IsVerdict}
use Rattle.worlds.specs.Telling.{Content, TellsSource, TellsStore}
use Rattle.worlds.specs.Worlds.{Types, Ways, World, faults_of}
use Rattle.commands_stream.specs.Contents.{IsNotTaken, IsOpened}
use Rattle.commands_verify.specs.Verdicts.{RefVerdict, anchor_of}
use Rattle.commands_verify.specs.Verifying.{verify_ending}
use Rattle.gittuf_cli.specs.Runs.{Ran, SaysLine}

-- what the sink holds before and after, the status, and what the sink for faults holds and has counted before and after
pub record Printed : Type 0 where
  pub before : Option (List ℕ)
  pub after : Option (List ℕ)
  pub status : ℕ
  pub told : Option (List ℕ)
  pub told_now : Option (List ℕ)
  pub faults : ℕ
  pub faults_now : ℕ

module _ (printed : Printed) where
  -- the one verdict on the reference in this repository: exactly its line is printed, and the status is its own
  pub record GivesVerdict (name : List ℕ) (root : Option (List (List ℕ))) (r : Repository) : Type 0 where
    pub verdict : RefVerdict
    pub is : IsVerdict r name (anchor_of root) verdict
    pub line_is : printed.after ≡ with_end printed.before (line name verdict)
    pub status_is : printed.status ≡ status_of (verify_ending (Ok verdict))

  -- the commit at which the log of this repository breaks: exactly the line that names it is printed
  pub record GivesBreak (r : Repository) : Type 0 where
    pub id : List ℕ
    pub breaks : IsBreakOf r id
    pub line_is : printed.after ≡ with_end printed.before (break_line id)
    pub status_is : printed.status ≡ 3

  -- the repository that is held, or that the stream spells, is judged
  pub record Judges (name : List ℕ) (root : Option (List (List ℕ))) (stdin : Bool) (content : Content) : Type 0 where
    pub repository : Repository
    pub opened : IsOpened stdin content.held content.bytes repository
    pub gives : GivesVerdict name root repository ⊎ GivesBreak repository

  -- a stream was asked for and is refused, for the refusal of this number, which is said; nothing is printed
  pub record RefusesStream (stdin : Bool) (content : Content) : Type 0 where
    pub asked : IsTrue stdin
    pub number : ℕ
    pub why : IsNotTaken content.held content.bytes number
    pub unprinted : printed.after ≡ printed.before
    pub status_is : printed.status ≡ 3
    pub says : SaysLine printed.told printed.told_now printed.faults printed.faults_now
        (refusal_line (refusal.Stream number))

  -- memory was wanting, which is said; nothing is printed
  pub record WantsMemory : Type 0 where
    pub unprinted : printed.after ≡ printed.before
    pub status_is : printed.status ≡ 5
    pub says : SaysLine printed.told printed.told_now printed.faults printed.faults_now (refusal_line refusal.Memory)

  abbrev pub Answers : List ℕ → Option (List (List ℕ)) → Bool → Content → Type 0
  Answers name root stdin content = WantsMemory ⊎ (RefusesStream stdin content ⊎ Judges name root stdin content)

-- no object counted a fault, and no count that could have risen was at its end
pub record NoneFails (before after : Faults) : Type 0 where
  pub same : after ≡ before
  pub source : before.source < 2 ^ 64 - 1
  pub sink : before.sink < 2 ^ 64 - 1
  pub keeper : before.keeper < 2 ^ 64 - 1

module _ {types : Types} (ways : Ways types) where
  -- what is printed and said in a run
  abbrev pub printed_in : World types → World types → Option (List ℕ) → Option (List ℕ) → ℕ → ℕ → ℕ → Printed
  printed_in before after told told_now faults faults_now status = record {
    before = ways.sink.contents before.sink;
    after = ways.sink.contents after.sink;
    status = status;
    told = told;
    told_now = told_now;
    faults = faults;
    faults_now = faults_now;
  }

  -- for words that ask for `verify-ref`, over a store that tells what it holds, and with `--stdin` a source that does,
  -- in a run in which no object counts a fault
  abbrev pub Headline : Type 0
  Headline =
      (words : List (List ℕ)) (name : List ℕ) (root : Option (List (List ℕ))) (stdin : Bool)
      (before after : World types) (told told_now : Option (List ℕ)) (faults faults_now status : ℕ) (content : Content)
      → IsCommand words (VerifyRef name root stdin)
      → TellsStore ways before after content
      → (IsTrue stdin → TellsSource ways before content)
      → NoneFails (faults_of ways before) (faults_of ways after)
      → Ran ways words before after told told_now faults faults_now status
      → Answers (printed_in before after told told_now faults faults_now status) name root stdin content
