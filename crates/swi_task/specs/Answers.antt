-- Which answer comes, of any command, and what stands with it.
use Rattle.std.specs.Prelude.{◌≡◌, ◌⊎◌, ℕ, ◌+◌, ◌-◌, ◌/◌, ◌<◌, ◌≤◌, List, [], ◌∷◌, ◌++◌, length, take, slice_get, All, Bool, true, false, Option, Some, None, Result, Ok, Err, IfOk, IfErr, OnOk, OnErr, IsErrOf, ⊤}
use Rattle.std.specs.Io.KnownBytes.{Appends}
use Rattle.swi_outside.specs.CacheRam.{KeepsBeyond, RamState}
use Rattle.swi_outside.specs.Causes.{Rose, risen}
use Rattle.swi_outside.specs.Shelf.{Asked, Contents, IsLonger, Passed, SameAt, Same, ShelfState, Stands, get_of, put_of}
use Rattle.swi_outside.specs.Source.{SourceState}
use Rattle.swi_answer.specs.declared.answer.Ending.{Ending}
use Rattle.swi_answer.specs.declared.answer.Refusal.{Refusal}
use Rattle.swi_answer.specs.declared.answer.Refusal.TheVariants as refusal
use Rattle.swi_answer.specs.Lines.{ending_line, refusal_line}
use Rattle.swi_task.specs.Devices.{Devices, IsUntouched, with_error_faults}
use Rattle.swi_task.specs.Checks.{Caches, NoCache, InRam, CountedFor, Check, IsAccepted, IsRefusedBy, cache_refusal}
use Rattle.swi_task.specs.Causes.{HasCauses}
use Rattle.swi_task.specs.Task.{AreFiles, GaveFirst, Task, TellsAll}

-- the last call that failed was one that writes
abbrev pub IsPut : Option Asked → Type 0
IsPut (Some (put_of name)) = ⊤
IsPut (Some (get_of name)) = ⊥
IsPut None = ⊥

-- An ending, or a fault in the run or in writing, comes only where all checks pass; and the refusal by a check only where that check is
-- the first that fails.
abbrev pub IsChecked : List Check → Option Asked → Result Ending Refusal → Type 0
IsChecked checks failed (Ok e) = IsAccepted checks
IsChecked checks failed (Err refusal.SourceFault) = IsAccepted checks
IsChecked checks failed (Err refusal.SinkFault) = IsAccepted checks
IsChecked checks failed (Err refusal.RamFault) = IsAccepted checks
IsChecked checks failed (Err refusal.ShelfFault) = IsPut failed → IsAccepted checks
-- of a file that is too long no bytes are given
IsChecked checks failed (Err (refusal.FileLong limit)) = ⊤
IsChecked checks failed (Err (refusal.Elf r)) = IsRefusedBy checks (refusal.Elf r)
IsChecked checks failed (Err (refusal.Room end)) = IsRefusedBy checks (refusal.Room end)
IsChecked checks failed (Err refusal.NoImage) = IsRefusedBy checks refusal.NoImage
IsChecked checks failed (Err (refusal.Image r)) = IsRefusedBy checks (refusal.Image r)
IsChecked checks failed (Err (refusal.Mismatch m)) = IsRefusedBy checks (refusal.Mismatch m)
IsChecked checks failed (Err (refusal.Long a needs)) = IsRefusedBy checks (refusal.Long a needs)
IsChecked checks failed (Err (refusal.CacheSmall bytes least)) = IsRefusedBy checks (refusal.CacheSmall bytes least)
IsChecked checks failed (Err (refusal.CacheLarge bytes)) = ⊤
IsChecked checks failed (Err (refusal.RamSmall bytes held)) = ⊤
IsChecked checks failed (Err refusal.Usage) = ⊥
IsChecked checks failed (Err refusal.Memory) = ⊤

-- a refusal that comes before a file is read
abbrev pub IsSizeRefusal : Refusal → Type 0
IsSizeRefusal (refusal.CacheLarge bytes) = ⊤
IsSizeRefusal (refusal.RamSmall bytes held) = ⊤
IsSizeRefusal _ = ⊥

-- a cache is refused, but for want of memory, exactly where one is too large, or larger than the ram: the first such one
pub record IsSized (expected : Option Refusal) (result : Result Ending Refusal) : Type 0 where
  pub refused : (r : Refusal) → expected ≡ Some r → (result ≡ Err r) ⊎ IsErrOf result refusal.Memory
  pub only : IfErr result (λ r. IsSizeRefusal r → expected ≡ Some r)

-- a fault in the run
abbrev pub IsRunFault : Refusal → Type 0
IsRunFault refusal.SourceFault = ⊤
IsRunFault refusal.SinkFault = ⊤
IsRunFault refusal.RamFault = ⊤
IsRunFault _ = ⊥

-- ---- what stays, whatever the devices tell

-- how many files a command writes
abbrev pub writes_in : Option (List ℕ) → ℕ
writes_in None = 0
writes_in (Some name) = 1

-- of so many files as many were got, or fewer, but one at least, where there is one
abbrev pub IsGot : (reads gets : ℕ) → Type 0
IsGot reads gets = (gets ≤ reads) × (0 < reads → 0 < gets)

-- The shelf was got and put so often by a command that reads and writes so many files, whose last failed call is this. It gets each file
-- once, up to one that is refused, and then it puts each once.
abbrev pub IsAskedFor : (reads writes : ℕ) → Option Asked → Result Ending Refusal → (gets puts : ℕ) → Type 0
IsAskedFor reads writes failed (Ok e) gets puts = (gets ≡ reads) × (puts ≡ writes)
-- the sizes are checked before it asks at all
IsAskedFor reads writes failed (Err (refusal.CacheLarge bytes)) gets puts = (gets ≡ 0) × (puts ≡ 0)
IsAskedFor reads writes failed (Err (refusal.RamSmall bytes held)) gets puts = (gets ≡ 0) × (puts ≡ 0)
IsAskedFor reads writes failed (Err refusal.Usage) gets puts = (gets ≡ 0) × (puts ≡ 0)
-- a file that is too long is the last that is got, and so is one that the shelf could not give
IsAskedFor reads writes failed (Err (refusal.FileLong limit)) gets puts = (0 < gets) × (gets ≤ reads) × (puts ≡ 0)
IsAskedFor reads writes (Some (put_of name)) (Err refusal.ShelfFault) gets puts = (gets ≡ reads) × (0 < puts) × (puts ≤ writes)
IsAskedFor reads writes failed (Err refusal.ShelfFault) gets puts = (0 < gets) × (gets ≤ reads) × (puts ≡ 0)
-- a file that a check refuses may be followed by others, which need not be got; where none is read, the check is made without one
IsAskedFor reads writes failed (Err (refusal.Elf r)) gets puts = IsGot reads gets × (puts ≡ 0)
IsAskedFor reads writes failed (Err (refusal.Room end)) gets puts = IsGot reads gets × (puts ≡ 0)
IsAskedFor reads writes failed (Err refusal.NoImage) gets puts = IsGot reads gets × (puts ≡ 0)
IsAskedFor reads writes failed (Err (refusal.Image r)) gets puts = IsGot reads gets × (puts ≡ 0)
IsAskedFor reads writes failed (Err (refusal.Mismatch m)) gets puts = IsGot reads gets × (puts ≡ 0)
IsAskedFor reads writes failed (Err (refusal.Long address needs)) gets puts = IsGot reads gets × (puts ≡ 0)
-- memory may be refused at any time
IsAskedFor reads writes failed (Err refusal.Memory) gets puts = (gets ≤ reads) × (puts ≤ writes) × (0 < puts → gets ≡ reads)
-- the cache is checked, and the command runs, when all are got, and before one is put
IsAskedFor reads writes failed (Err r) gets puts = (gets ≡ reads) × (puts ≡ 0)

-- of so many files that were asked for so many were given: all, but for the last one where the shelf failed, it was too long, or there was no
-- memory
abbrev pub AreGiven : Option Asked → Result Ending Refusal → (gets given : ℕ) → Type 0
AreGiven failed (Err (refusal.FileLong limit)) gets given = gets ≡ given + 1
AreGiven (Some (put_of name)) (Err refusal.ShelfFault) gets given = gets ≡ given
AreGiven failed (Err refusal.ShelfFault) gets given = gets ≡ given + 1
AreGiven failed (Err refusal.Memory) gets given = (given ≤ gets) × (gets ≤ given + 1)
AreGiven failed r gets given = gets ≡ given

-- what the shelf stored for a command: one content under OUT, where the command has ended, and nothing else
abbrev pub HasStored : Result Ending Refusal → Option (List ℕ) → Passed → Passed → Type 0
HasStored (Err r) writes before after = after ≡ before
HasStored (Ok e) None before after = after ≡ before
HasStored (Ok e) (Some output) before after = (bytes : List ℕ) × (after ≡ before ++ (output, bytes) ∷ [])

-- these stand under the first of these names, as far as is told
abbrev pub StandFirst : Option Contents → (names files : List (List ℕ)) → Type 0
StandFirst contents names [] = ⊤
StandFirst contents [] (file ∷ files) = ⊥
StandFirst contents (name ∷ names) (file ∷ files) = Stands contents name file × StandFirst contents names files

-- the name of the file that was got last, where so many were
abbrev pub IsLast : List (List ℕ) → (gets : ℕ) (name : List ℕ) → Type 0
IsLast names gets name = slice_get names (gets - 1) ≡ Some name

-- the file that was got last is longer than the limit, as far as is told
abbrev pub IsLastLonger : Option Contents → List (List ℕ) → (gets limit : ℕ) → Type 0
IsLastLonger contents names gets limit = (name : List ℕ) × IsLast names gets name × IsLonger contents name limit

-- what the shelf gave and stored for a command that asked it for so many files
pub record HasPassed (t : Task) (before after : ShelfState) (result : Result Ending Refusal) (gets : ℕ) : Type 0 where
  pub given : List (List ℕ)
  pub gave : GaveFirst t.reads given before after
  pub all : AreGiven after.last_failed result gets (length given)
  pub stood : StandFirst before.contents t.reads given
  -- each file passed its checks before the next one was asked for; and the last one is the one that is too long, where it is refused so
  pub accepted : All (λ file. IsAccepted (t.before_next file)) (take (gets - 1) given)
  pub long : (limit : ℕ) → IsErrOf result (refusal.FileLong limit) → IsLastLonger before.contents t.reads gets limit
  pub stored : HasStored result t.writes before.stored after.stored

-- of the shelf
pub record KeepsShelf (t : Task) (before after : ShelfState) (result : Result Ending Refusal) : Type 0 where
  -- each name but OUT keeps its content
  pub others : (name : List ℕ) → (t.writes ≡ Some name → ⊥) → SameAt before.contents after.contents name
  -- and so does OUT where the command is refused, unless the shelf failed in writing
  pub refused : OnErr result ((IsErrOf result refusal.ShelfFault → ⊥) → Same before.contents after.contents)
  -- how often it was asked
  pub gets : ℕ
  pub puts : ℕ
  pub calls : after.calls ≡ risen before.calls (gets + puts)
  pub asked : IsAskedFor (length t.reads) (writes_in t.writes) after.last_failed result gets puts
  -- the last failed call is as it was, unless the shelf failed: in giving the file that was got last, or in writing OUT
  pub quiet : (IsErrOf result refusal.ShelfFault → ⊥) → after.last_failed ≡ before.last_failed
  pub failed : IsErrOf result refusal.ShelfFault →
      ((input : List ℕ) × IsLast t.reads gets input × (after.last_failed ≡ Some (get_of input)) × Same before.contents after.contents)
      ⊎ ((output : List ℕ) × (t.writes ≡ Some output) × (after.last_failed ≡ Some (put_of output)))
  -- and what passed
  pub passed : HasPassed t before after result gets

-- of the input: a command that takes none of it doesn't ask it
abbrev pub KeepsInput : Bool → SourceState → SourceState → Type 0
KeepsInput true before after = ⊤
KeepsInput false before after = after ≡ before

-- of the ram: a command with a cache in it keeps the words behind that, any other all
abbrev pub KeepsRam : Caches → RamState → RamState → Type 0
KeepsRam NoCache before after = after ≡ before
KeepsRam (InRam bytes) before after = KeepsBeyond (bytes / 4) before after
KeepsRam (CountedFor sizes) before after = after ≡ before

-- ---- the whole answer

-- What a command answers, and what it does to the devices. `last` is what the errors gain behind all else.
pub record Answers (t : Task) (before after : Devices) (result : Result Ending Refusal) (last : List ℕ) : Type 0 where
  -- the words were a command
  pub asked : IsErrOf result refusal.Usage → ⊥
  -- the sizes are checked first, and then the files
  pub sized : IsSized (cache_refusal t.caches (length before.ram.words)) result
  pub checked : (files : t.Files) → AreFiles t before.shelf after.shelf files → IsChecked (t.checks files) after.shelf.last_failed result
  -- one is too long only where the shelf tells no files, or this is the first check that fails
  pub long : (limit : ℕ) → IsErrOf result (refusal.FileLong limit) → (files : t.Files) → TellsAll before.shelf.contents t.reads (t.contents files) →
      IsRefusedBy (t.checks files) (refusal.FileLong limit)
  -- where there is an ending, it is one of the command's
  pub ended : IfOk result (λ e. t.ends e)
  -- and the command did what it is for
  pub done : IfOk result (λ e. (files : t.Files) → AreFiles t before.shelf after.shelf files → t.does files before after e last)
  -- where a device failed in the run, each sink holds a front of that
  pub failed : IfErr result (λ r. IsRunFault r → (files : t.Files) → AreFiles t before.shelf after.shelf files → t.fails files before after r last)
  -- every other refusal leaves input, output and ram as they were, and the errors gain its line alone
  pub refused : IfErr result (λ r. (IsRunFault r → ⊥) → IsUntouched before after × Appends before.error.held after.error.held last)
  -- whatever the devices tell, these stay
  pub shelf : KeepsShelf t before.shelf after.shelf result
  pub input : KeepsInput t.takes_input before.input after.input
  pub ram : KeepsRam t.caches before.ram after.ram
  -- each fault has its cause, and each failure is answered
  pub causes : HasCauses before after result

-- the line that is written last
abbrev pub last_line : Result Ending Refusal → List ℕ
last_line (Ok e) = ending_line e
last_line (Err r) = refusal_line r

-- The errors end with that line: it is whole where the error sink didn't fail in it. All else is said of the devices but for that line's own
-- failure, which only an ending's answer names.
pub record AnswersWithLine (t : Task) (before after : Devices) (result : Result Ending Refusal) : Type 0 where
  -- how often the error sink had failed before that line
  pub untold : ℕ
  pub shown : ℕ
  pub whole : (Rose untold after.error.faults → ⊥) → shown ≡ length (last_line result)
  pub later : untold ≤ after.error.faults
  pub quiet : OnOk result (after.error.faults ≡ untold)
  pub answers : Answers t before (with_error_faults after untold) result (take shown (last_line result))

-- words that are no command change nothing, but that the errors gain a line
pub record IsRefusedAtOnce (before after : Devices) (result : Result Ending Refusal) : Type 0 where
  pub untouched : IsUntouched before after
  pub shelf : after.shelf ≡ before.shelf
  pub shown : ℕ
  pub error : Appends before.error.held after.error.held (take shown (last_line result))
  pub whole : (Rose before.error.faults after.error.faults → ⊥) → shown ≡ length (last_line result)
  pub later : before.error.faults ≤ after.error.faults
