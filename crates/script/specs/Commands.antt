-- The lines of a script that are commands.
use Rattle.std.specs.Prelude.{◌≡◌, ℕ, ◌≤◌, List, [], ◌∷◌, Option, Some, None, codes}
use Rattle.pc_types.specs.declared.ids.HandleId.{HandleId}
use Rattle.pc_types.specs.declared.ids.PageIndex.{PageIndex}
use Rattle.blockdev.specs.declared.fault.FaultEffect.{FaultEffect}
use Rattle.blockdev.specs.declared.fault.FaultEffect.TheVariants.{Old, New}
use Rattle.script.specs.declared.command.Command.{Command}
use Rattle.script.specs.declared.command.Command.TheVariants as command
use Rattle.world.specs.declared.step.Step.{Step as WorldStep}
use Rattle.world.specs.declared.step.Step.TheVariants as step
use Rattle.script.specs.declared.keyword.Keyword.{Keyword}
use Rattle.script.specs.declared.keyword.Keyword.TheVariants.{Config, Create, Open, Close, Size, Read, Write, Append, Truncate, Fill, Flush, Do, Fail, End, Sync, Step, Drop, Fsync, Poll, Evict, Age, Tags}
use Rattle.script.specs.declared.command.TheConstants.{MAX_CODE, MAX_READ}
use Rattle.script.specs.Keywords.{name_of}
use Rattle.textline.specs.Words.{IsNumber, bytes_of, words_of}

-- what a word of a command is: its name, a number, bytes, or what a write that fails leaves in its block
pub data Part : Type 0 where
  Name : (keyword : Keyword) → Part
  Number : (n : ℕ) → Part
  Hex : (bytes : List ℕ) → Part
  Leaves : (effect : FaultEffect) → Part

abbrev pub effect_text : FaultEffect → List ℕ
effect_text Old = codes "old"
effect_text New = codes "new"

abbrev pub Is : List ℕ → Part → Type 0
Is word (Name keyword) = word ≡ name_of keyword
Is word (Number n) = IsNumber word n
Is word (Hex bytes) = bytes_of word ≡ Some bytes
Is word (Leaves effect) = word ≡ effect_text effect

-- the first words are these parts, one by one, and the rest follows them
abbrev pub Begins : List (List ℕ) → List Part → List (List ℕ) → Type 0
Begins words [] rest = words ≡ rest
Begins words (part ∷ parts) rest = (word : List ℕ) × (more : List (List ℕ)) × (words ≡ word ∷ more) × Is word part × Begins more parts rest

-- the words of a range of pages; the whole file is named by none
abbrev pub range_parts : Option (PageIndex × PageIndex) → List Part
range_parts None = []
range_parts (Some range) = Number range.0.0 ∷ Number range.1.0 ∷ []

-- the step that begins a sync of the handle's whole file, or of a range of its pages
abbrev pub sync_begin : HandleId → Option (PageIndex × PageIndex) → WorldStep
sync_begin handle None = step.SyncBegin handle
sync_begin handle (Some range) = step.SyncBeginRange handle range.0 range.1

-- the words of each command
abbrev pub parts_of : Command → List Part
parts_of (command.Config page frames dirty_limit blocks) = Name Config ∷ Number page ∷ Number frames ∷ Number dirty_limit ∷ Number blocks ∷ []
parts_of (command.Step step.Create) = Name Create ∷ []
parts_of (command.Step (step.Open file)) = Name Open ∷ Number file.0 ∷ []
parts_of (command.Step (step.Close handle)) = Name Close ∷ Number handle.0 ∷ []
parts_of (command.Step (step.Size handle)) = Name Size ∷ Number handle.0 ∷ []
parts_of (command.Step (step.Read handle offset count)) = Name Read ∷ Number handle.0 ∷ Number offset ∷ Number count ∷ []
parts_of (command.Step (step.Write handle offset bytes)) = Name Write ∷ Number handle.0 ∷ Number offset ∷ Hex bytes ∷ []
parts_of (command.Step (step.Append handle bytes)) = Name Append ∷ Number handle.0 ∷ Hex bytes ∷ []
parts_of (command.Step (step.Truncate handle size)) = Name Truncate ∷ Number handle.0 ∷ Number size ∷ []
parts_of (command.Step (step.FillBegin handle page)) = Name Fill ∷ Number handle.0 ∷ Number page.0 ∷ []
parts_of (command.Step (step.FlushBegin file)) = Name Flush ∷ Number file.0 ∷ []
parts_of (command.Step (step.Call serial)) = Name Do ∷ Number serial.0 ∷ []
parts_of (command.Fail serial code effect) = Name Fail ∷ Number serial.0 ∷ Number code ∷ Leaves effect ∷ []
parts_of (command.Step (step.End serial)) = Name End ∷ Number serial.0 ∷ []
parts_of (command.Step (step.SyncBegin handle)) = Name Sync ∷ Number handle.0 ∷ []
parts_of (command.Step (step.SyncBeginRange handle first last)) = Name Sync ∷ Number handle.0 ∷ range_parts (Some (first, last))
parts_of (command.Step (step.SyncStep sync)) = Name Step ∷ Number sync.0 ∷ []
parts_of (command.Step (step.SyncDrop sync)) = Name Drop ∷ Number sync.0 ∷ []
parts_of (command.Fsync handle range) = Name Fsync ∷ Number handle.0 ∷ range_parts range
parts_of (command.Poll handle) = Name Poll ∷ Number handle.0 ∷ []
parts_of (command.Step step.Evict) = Name Evict ∷ []
parts_of (command.Step step.Age) = Name Age ∷ []
parts_of (command.Tags file page) = Name Tags ∷ Number file.0 ∷ Number page.0 ∷ []

-- a sync or an fsync of a range of pages in place of the whole file
abbrev pub ranged : Command → PageIndex × PageIndex → Option Command
ranged (command.Step (step.SyncBegin handle)) range = Some (command.Step (step.SyncBeginRange handle range.0 range.1))
ranged (command.Fsync handle None) range = Some (command.Fsync handle (Some range))
ranged _ range = None

-- a command reads no more bytes than this, and a code has 16 bits
abbrev pub IsWithinLimit : Command → Type 0
IsWithinLimit (command.Step (step.Read handle offset count)) = count ≤ MAX_READ
IsWithinLimit (command.Fail serial code effect) = code ≤ MAX_CODE
IsWithinLimit _ = Unit {0}

-- the words ask for the command, and nothing follows
abbrev pub Asks : List (List ℕ) → Command → Type 0
Asks words c = Begins words (parts_of c) [] × IsWithinLimit c

-- the line asks for the command
abbrev pub Means : List ℕ → Command → Type 0
Means line c = Asks (words_of line) c
