-- The status of each ending, the line that tells a refusal, and the object that failed.
use Rattle.std.specs.Prelude.{◌++◌, ℕ, List, Option, Some, None, codes, decimal}
use Rattle.hex.specs.Hex.{encode_lower}
use Rattle.worlds.specs.declared.ending.Ending.{Ending}
use Rattle.worlds.specs.declared.ending.Ending.TheVariants.{Done, Differs, Broken, Refused}
use Rattle.worlds.specs.declared.ending.Part.{Part}
use Rattle.worlds.specs.declared.ending.Refusal.{Refusal}
use Rattle.worlds.specs.declared.ending.Refusal.TheVariants.{Words, Stream, Object, TooLarge, NotEmpty, KeyFile}
use Rattle.worlds.specs.declared.ending.Refusal.TheVariants.{Policy, Input, Fault, Memory, Exhausted, Desk}
use Rattle.worlds.specs.declared.messages.Line.{Line}
use Rattle.worlds.specs.declared.messages.Line.TheVariants.{Made, Held}

-- the status of a refusal
abbrev pub refusal_status : Refusal → ℕ
refusal_status Words = 2
refusal_status (Stream number) = 3
refusal_status (Object id) = 3
refusal_status TooLarge = 3
refusal_status NotEmpty = 3
refusal_status KeyFile = 3
refusal_status (Policy line) = 3
refusal_status Input = 3
refusal_status (Fault part) = 4
refusal_status Memory = 5
refusal_status Exhausted = 6
refusal_status Desk = 7

-- the status of the program
abbrev pub status_of : Ending → ℕ
status_of Done = 0
status_of Differs = 1
status_of Broken = 3
status_of (Refused refusal) = refusal_status refusal

-- the line that tells a refusal
abbrev pub refusal_line : Refusal → List ℕ
refusal_line Words = codes "words refused\n"
refusal_line (Stream number) = codes "stream " ++ decimal number ++ codes "\n"
refusal_line (Object id) = codes "object " ++ encode_lower id ++ codes "\n"
refusal_line TooLarge = codes "too large\n"
refusal_line NotEmpty = codes "not empty\n"
refusal_line KeyFile = codes "key file\n"
refusal_line (Policy line) = line
refusal_line Input = codes "input\n"
refusal_line (Fault part) = codes "fault\n"
refusal_line Memory = codes "memory\n"
refusal_line Exhausted = codes "exhausted\n"
refusal_line Desk = codes "desk refused\n"

-- the bytes of a line
abbrev pub line_bytes : Line → List ℕ
line_bytes (Made message) = message
line_bytes (Held bytes) = bytes.now

-- the object that failed
abbrev pub part_in : Refusal → Option Part
part_in Words = None
part_in (Stream number) = None
part_in (Object id) = None
part_in TooLarge = None
part_in NotEmpty = None
part_in KeyFile = None
part_in (Policy line) = None
part_in Input = None
part_in (Fault part) = Some part
part_in Memory = None
part_in Exhausted = None
part_in Desk = None

abbrev pub part_of : Ending → Option Part
part_of Done = None
part_of Differs = None
part_of Broken = None
part_of (Refused refusal) = part_in refusal

-- the command stopped: an object failed, or memory was wanting
abbrev pub IsStop : Refusal → Type 0
IsStop Words = ⊥
IsStop (Stream number) = ⊥
IsStop (Object id) = ⊥
IsStop TooLarge = ⊥
IsStop NotEmpty = ⊥
IsStop KeyFile = ⊥
IsStop (Policy line) = ⊥
IsStop Input = ⊥
IsStop (Fault part) = Unit {0}
IsStop Memory = Unit {0}
IsStop Exhausted = ⊥
IsStop Desk = ⊥

abbrev pub IsStopped : Ending → Type 0
IsStopped Done = ⊥
IsStopped Differs = ⊥
IsStopped Broken = ⊥
IsStopped (Refused refusal) = IsStop refusal
