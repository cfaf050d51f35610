-- Laws of schedules, whatever the events are and in whatever order.
use Rattle.std.specs.Prelude.{◌≡◌, ℕ, zero, suc, ◌+◌, ◌*◌, ◌≤◌, true, List, ◌++◌, Option, Some, None}
use Rattle.std.specs.Bool.{⊤}
use Rattle.swi_outside.specs.CacheRam.{Fetch}
use Rattle.swi_calls.specs.declared.end.End.{End}
use Rattle.swi_calls.specs.declared.end.End.TheVariants.{StoreText}
use Rattle.swi_calls.specs.declared.machine.Machine.{Machine}
use Rattle.swi_calls.specs.Held.{held_run}
use Rattle.swi_image.specs.Format.{ImageData}
use Rattle.swi_image.specs.Place.{place_of}
use Rattle.swi_rom.specs.Record.{Has, Placed, Placement, writes}
use Rattle.swi_rom.specs.Service.{Setting}
use Rattle.swi_hart.specs.Hart.{HartData, is_between, original, slots}
use Rattle.swi_hart.specs.MachineStep.{BoardWithRam}
use Rattle.swi_board.specs.Moments.{Moment}
use Rattle.swi_board.specs.Transfers.{Here, at_fall, before_last, cost, here_run}
use Rattle.swi_engine.specs.declared.copying.Copying.{Copying}
use Rattle.swi_engine.specs.Engine.{copy_of, engine_words}
use Rattle.swi_engine.specs.Service.{engine_service}
use Rattle.swi_engine.specs.State.{EngineData, kept_by}
use Rattle.swi_prefetch.specs.Events.{Turn, booted, turned_all}
use Rattle.swi_prefetch.specs.Turns.{Beside}

-- ---- the flat machine's steps, and what they cost

-- the fall exits that were made of the next step, none or one, by where the run stands before them
abbrev pub FallMade : ℕ → ImageData → Moment → Here → Type 0
FallMade zero v s there = s.here ≡ there
FallMade (suc n) v s there = (n ≡ 0) × (at_fall v s.flat.machine there ≡ true) × (s.here ≡ place_of v s.flat.machine.pc)

-- no more words of the instruction were executed than lead to its last one
abbrev pub SpendsIn : ImageData → Moment → Here → Type 0
SpendsIn v s None = s.spent ≡ 0
SpendsIn v s (Some p) = (s.spent ≤ before_last s.flat.machine (original s.flat.machine) (slots s.flat.machine)) × (at_fall v s.flat.machine (Some p) ≡ true → s.spent ≡ 0)

-- The flat machine stands at so many steps over the fixed text, and the machine instructions are what those cost, and the words of the next
-- one that were executed: between two instructions just the cost, and the exit behind a block where that is made.
pub record Stood (v : ImageData) (s0 s : Moment) : Type 0 where
  pub steps : ℕ
  pub falls : ℕ
  pub flat : s.flat ≡ held_run steps s0.flat
  pub count : s.count ≡ s0.count + cost v steps s0.flat s0.here + falls + s.spent
  pub place : s.flat.machine.ending ≡ None → FallMade falls v s (here_run v steps s0.flat s0.here)
  pub spends : s.flat.machine.ending ≡ None → SpendsIn v s s.here

abbrev pub StandsInSteps : Type 0
StandsInSteps = (by : Setting) (v : ImageData) (ts : List Turn) (s : Moment) → s.spent ≡ 0 → Stood v s (turned_all by v ts s)

-- ---- the words that are set and fetched

-- the words set are those that services and engine wrote to copy, the links, and the links that were undone
abbrev pub Written : Moment → Type 0
Written s = s.sets ≡ writes s.kept + engine_words s.kept

abbrev pub BeginsWritten : Type 0
BeginsWritten = (by : Setting) (v : ImageData) (m : Machine) (left : List ℕ) → Written (booted by v m left)

abbrev pub StaysWritten : Type 0
StaysWritten = (by : Setting) (v : ImageData) (ts : List Turn) (s : Moment) → Written s → Written (turned_all by v ts s)

-- no word fetched is taken back
abbrev pub KeepsFetched : Type 0
KeepsFetched = (by : Setting) (v : ImageData) (ts : List Turn) (s : Moment) → (more : List Fetch) × ((turned_all by v ts s).words ≡ more ++ s.words)

-- ---- the copy

-- no block stands in a slot, and in that of the copy, if there is one
abbrev pub IsVacant : ℕ → List Placement → ℕ → Type 0
IsVacant size placed n = (e : Placement) → Has placed e → e.first ≡ n * size → ⊥

abbrev pub CopyApart : ℕ → List Placement → Option Copying → Type 0
CopyApart size placed None = ⊤
CopyApart size placed (Some k) = IsVacant size placed k.slot

-- from the boot on no placed block stands in the slot that has a copy
abbrev pub StaysApart : Type 0
StaysApart = (by : Setting) (v : ImageData) (m : Machine) (left : List ℕ) (ts : List Turn) →
    CopyApart by.slot_words (turned_all by v ts (booted by v m left)).kept.placed (copy_of (turned_all by v ts (booted by v m left)).kept)

-- and so on a board, whose block under control is one that stands
abbrev pub BoardApart : Type 0
BoardApart = (v : ImageData) (b : BoardWithRam EngineData) (k : Copying) (c first : ℕ) → Beside engine_service v b → b.rom.copy ≡ Some k → Placed (kept_by b.rom) c first →
    first ≡ k.slot * b.rom.size → ⊥

-- ---- bounds of the machine instructions

pub record CountFew (h : HartData) : Type 0 where
  -- at any moment at most three for each original step, and three
  pub any : h.count ≤ 3 * h.machine.steps + 3
  -- one between two original instructions
  pub between : h.machine.ending ≡ None → is_between h.control ≡ true → h.count ≤ 3 * h.machine.steps + 1
  -- two behind a stop before a store into the text
  pub stopped : (a : ℕ) → h.machine.ending ≡ Some (StoreText a) → h.count ≤ 3 * h.machine.steps + 2
  -- one behind any other ending
  pub ended : (x : End) → h.machine.ending ≡ Some x → ((a : ℕ) → x ≡ StoreText a → ⊥) → h.count ≤ 3 * h.machine.steps + 1

abbrev pub StaysFew : Type 0
StaysFew = (v : ImageData) (b : BoardWithRam EngineData) → Beside engine_service v b → CountFew b.hart
