-- A command as one record: what it reads, what is checked before it does anything, what it does, and what it leaves.
use Rattle.std.specs.Prelude.{◌≡◌, ◌⊎◌, ℕ, ◌≤◌, List, ◌++◌, length, zip, Bool, Option, Some, None}
use Rattle.std.specs.List.{AllZip}
use Rattle.swi_outside.specs.Shelf.{Contents, ShelfState}
use Rattle.swi_answer.specs.declared.answer.Ending.{Ending}
use Rattle.swi_answer.specs.declared.answer.Refusal.{Refusal}
use Rattle.swi_task.specs.Devices.{Devices}
use Rattle.swi_task.specs.Checks.{Caches, Check}

-- the shelf tells that this stands under the name
abbrev pub TellsFile : Option Contents → List ℕ → List ℕ → Type 0
TellsFile None name file = ⊥
TellsFile (Some contents) name file = contents name ≡ Some file

-- that these contents stand under the names, in their order
abbrev pub TellsAll : Option Contents → List (List ℕ) → List (List ℕ) → Type 0
TellsAll contents names files = AllZip (TellsFile contents) names files

-- the shelf gave just these contents, once each and in their order, of the first of these names
pub record GaveFirst (names files : List (List ℕ)) (before after : ShelfState) : Type 0 where
  pub few : length files ≤ length names
  pub got : after.got ≡ before.got ++ zip names files

pub record Task : Type 1 where
  -- the names of the files that it reads, in their order
  pub reads : List (List ℕ)
  -- what it takes from them: nothing, a content, or several; and these contents, in the order of the names
  pub Files : Type 0
  pub contents : Files → List (List ℕ)
  -- the name of the file that it writes
  pub writes : Option (List ℕ)
  -- whether it takes of the input; without that it leaves the input alone
  pub takes_input : Bool
  -- its caches; but for one in the ram it leaves the ram alone
  pub caches : Caches
  -- what is checked before it does anything, in this order
  pub checks : Files → List Check
  -- what of it is checked of a file before the next one is asked for
  pub before_next : List ℕ → List Check
  -- how it can end
  pub ends : Ending → Type 0
  -- what it does where it isn't refused and no device fails; the last argument is what the errors gain behind all else
  pub does : Files → Devices → Devices → Ending → List ℕ → Type 0
  -- what stands where it isn't refused and a source, a sink or the ram fails
  pub fails : Files → Devices → Devices → Refusal → List ℕ → Type 0

-- these are a command's files: what the shelf gave, or what it tells to stand under their names
abbrev pub AreFiles : (t : Task) → ShelfState → ShelfState → t.Files → Type 0
AreFiles t before after files = GaveFirst t.reads (t.contents files) before after ⊎ TellsAll before.contents t.reads (t.contents files)
