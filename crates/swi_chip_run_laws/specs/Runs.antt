-- A run of a processor whose service is `swi_chip`, against the flat machine's run. Own rule.
use Rattle.std.specs.Prelude.{◌≡◌, ℕ, suc, ◌<◌, ◌≤◌, ◌^◌, List}
use Rattle.swi_memory.specs.Bus.{fetched}
use Rattle.swi_calls.specs.declared.machine.Machine.{Machine}
use Rattle.swi_calls.specs.Flat.{started}
use Rattle.swi_image.specs.Format.{ImageData}
use Rattle.swi_render.specs.Carried.{Carries}
use Rattle.swi_rom.specs.Record.{indirect}
use Rattle.swi_slots.specs.Slots.{Slots, kept_by, setting_of}
use Rattle.swi_hart.specs.declared.hart.Control.{Control}
use Rattle.swi_hart.specs.Matching.{Matches}
use Rattle.swi_board.specs.Moments.{events}
use Rattle.swi_board.specs.Transfers.{cost, here_of, spent_run}
use Rattle.swi_chip.specs.declared.chip.Chip.{Chip}
use Rattle.swi_chip.specs.Bounded.{fifo_few}
use Rattle.swi_chip.specs.Repeated.{EnterCalls}
use Rattle.swi_chip.specs.Service.{StandsFor}
use Rattle.swi_chip_laws.specs.Running.{ChipRanSteps, ChipState, StandsAfter, moment_of}
use Rattle.swi_chip_run_laws.specs.Calls.{GoesOnAt, ProcessorMoved, ProcessorState}

-- the state, with the record and the ram's words that its service stands for
abbrev pub state_of : Slots → List ℕ → ProcessorState → ChipState
state_of s words p = record { hart = p.hart; held = p.chip.cache.now; input = p.input; output = p.output; error = p.error; kept = kept_by s; words = words }

-- The service has been entered at the flat machine's pc, and the processor goes on at its answer: so it stands where the flat machine does.
pub record EnteredAt (v : ImageData) (s : Slots) (f : Machine) (chip : Chip) (c : Control) : Type 0 where
  pub next : Slots
  pub words : List ℕ
  pub lists : List (List ℕ)
  pub stands : StandsFor next (λ p. v) words lists chip
  pub setting : setting_of next ≡ setting_of s
  pub moves : kept_by next ≡ fifo_few chip.most (setting_of s) (kept_by s) v (indirect f.pc)
  pub matches : Matches v (kept_by next) f f c

abbrev pub EntersRight : Type 0
EntersRight = (v : ImageData) (s : Slots) (ram : List ℕ) (lists : List (List ℕ)) (old new : Chip) (f : Machine) (answer : ℕ) (c : Control) → StandsFor s (λ p. v) ram lists old →
    EnterCalls old new f.pc answer → GoesOnAt v new f.pc answer c → EnteredAt v s f new c

-- so many machine instructions, from one state to the next; at first the hart stands where the flat machine does, over an image of its text
pub record IsProcessorRun (v : ImageData) (s : Slots) (n : ℕ) (f : Machine) (at : ℕ → ProcessorState) : Type 0 where
  pub moves : (j : ℕ) → j < n → ProcessorMoved v (at j) (at (suc j))
  pub short : (j : ℕ) → j ≤ n → (at j).hart.machine.pc < 2 ^ 32
  pub image : Carries (fetched f.bus) v
  pub matches : Matches v (kept_by s) f (at 0).hart.machine (at 0).hart.control

-- Behind them the service stands for slots of the same setting, and the processor stands where the definition's machine instructions lead.
pub record ProcessorStands (v : ImageData) (s : Slots) (ram : List ℕ) (n : ℕ) (f : Machine) (at : ℕ → ProcessorState) : Type 0 where
  pub next : Slots
  pub words : List ℕ
  pub lists : List (List ℕ)
  pub stands : StandsFor next (λ p. v) words lists (at n).chip
  pub setting : setting_of next ≡ setting_of s
  pub after : StandsAfter v (events (fifo_few (at 0).chip.most (setting_of s)) v n (moment_of v f (state_of s ram (at 0)))) (state_of s ram (at 0)) (state_of next words (at n))

abbrev pub ProcessorFollows : Type 0
ProcessorFollows = (v : ImageData) (s : Slots) (ram : List ℕ) (lists : List (List ℕ)) (n : ℕ) (f : Machine) (at : ℕ → ProcessorState) → StandsFor s (λ p. v) ram lists (at 0).chip →
    IsProcessorRun v s n f at → ProcessorStands v s ram n f at

-- Behind as many as k steps of the flat machine cost, these were made, and the record has moved on by the slots' policy with the chip's bound.
pub record ProcessorRan (v : ImageData) (s : Slots) (ram : List ℕ) (k : ℕ) (f : Machine) (old new : ProcessorState) : Type 0 where
  pub next : Slots
  pub words : List ℕ
  pub lists : List (List ℕ)
  pub stands : StandsFor next (λ p. v) words lists new.chip
  pub setting : setting_of next ≡ setting_of s
  pub ran : ChipRanSteps (fifo_few old.chip.most (setting_of s)) v k f (state_of s ram old) (state_of next words new)

abbrev pub ProcessorRunsInSteps : Type 0
ProcessorRunsInSteps = (v : ImageData) (s : Slots) (ram : List ℕ) (lists : List (List ℕ)) (n k : ℕ) (f : Machine) (at : ℕ → ProcessorState) → StandsFor s (λ p. v) ram lists (at 0).chip →
    IsProcessorRun v s n f at → spent_run f (at 0).hart.control ≡ 0 → n ≡ cost v k (started f (at 0).input) (here_of v f (at 0).hart.control) → ProcessorRan v s ram k f (at 0) (at n)
