-- A run that is left before a word of the ram, and goes on later from a text address. Own rule.
use Rattle.std.specs.Prelude.{◌≡◌, ◌⊎◌, ◌==◌, ◌&&◌, ℕ, ◌+◌, ◌%◌, ◌^◌, ◌<◌, Bool, true, false, List, Some, None, if◌then◌else◌}
use Rattle.swi_memory.specs.Bus.{fetched}
use Rattle.swi_program.specs.Text.{TextData, IsSized, word_of}
use Rattle.swi_calls.specs.declared.machine.Machine.{Machine}
use Rattle.swi_calls.specs.Flat.{quiet}
use Rattle.swi_calls.specs.Held.{held_made, held_run}
use Rattle.swi_calls.specs.State.{FlatState}
use Rattle.swi_image.specs.Format.{ImageData}
use Rattle.swi_image.specs.Place.{origin_of, word_at}
use Rattle.swi_render.specs.Rendering.{ebreak}
use Rattle.swi_render.specs.ImageOf.{IsImageOf}
use Rattle.swi_render.specs.Carried.{Carries}
use Rattle.swi_rom.specs.Record.{Record}
use Rattle.swi_hart.specs.declared.hart.Control.{Control}
use Rattle.swi_hart.specs.declared.hart.Control.TheVariants.{At, Outside}
use Rattle.swi_hart.specs.Matching.{Arrives, Matches}

-- The text address from which a run goes on that was left before this word. At a direct exit, linked or not, it is the descriptor: control
-- is on the way there. Elsewhere it is the address of the instruction whose rendering has the word.
abbrev pub resume_at : ImageData → ℕ → ℕ → ℕ
resume_at v b o = if word_at v b o == ebreak && (word_at v b (o + 1) % 4 == 0) then word_at v b (o + 1) else (origin_of v b o).0

-- the same by where control is; of the machine nothing is asked but its pc, where no text word stands
abbrev pub resume_of : ImageData → Machine → Control → ℕ
resume_of v m (At i b o stage) = resume_at v b o
resume_of v m Outside = m.pc

-- the machine that goes on from an address, with the registers and the memory of the one that was left; and whether that counts the
-- instruction as done
abbrev pub resumed : Machine → ℕ → Bool → Machine
resumed m pc true = record m { pc = pc; steps = m.steps + 1 }
resumed m pc false = record m { pc = pc }

-- the image is one of the text that the machine fetches
pub record IsOfText (t : TextData) (v : ImageData) (f : Machine) : Type 0 where
  pub sized : IsSized t
  pub image : IsImageOf t v
  pub carries : Carries (fetched f.bus) v
  pub text : (a w : ℕ) → fetched f.bus a ≡ Some w → word_of t a ≡ Some w

-- The instruction at f's pc is begun again, and leaves the same, whatever the input: at most a register that it writes has another value.
pub record BegunAgain (f m : Machine) (pc : ℕ) : Type 0 where
  pub here : pc ≡ f.pc
  pub same : (input : List ℕ) → held_made (resumed m pc false) input ≡ held_made f input

-- The instruction is done: f's step has led to just this machine, has written nothing and taken no input.
pub record DoneAlready (f m : Machine) (pc : ℕ) : Type 0 where
  pub leads : (input : List ℕ) → held_made f input ≡ quiet (resumed m pc true) input

-- Wherever the hart stands for the flat machine f, also midway, it may be left, and go on later with its registers and its memory.
abbrev pub GoesOnRight : Type 0
GoesOnRight = (t : TextData) (v : ImageData) (r : Record) (f m : Machine) (c : Control) → IsOfText t v f → f.pc < 2 ^ 32 → m.ending ≡ None → Matches v r f m c →
    BegunAgain f m (resume_of v m c) ⊎ DoneAlready f m (resume_of v m c)

-- Behind its next step the run from the machine that goes on is that of the flat machine, however long: state, input and output.
pub record RunsOn (s : FlatState) (m : Machine) (pc : ℕ) : Type 0 where
  pub is_done : Bool
  pub run : (n : ℕ) → held_run (n + 1) s ≡ held_run (if is_done then n else n + 1) (record s { machine = resumed m pc is_done })

abbrev pub RunsOnRight : Type 0
RunsOnRight = (t : TextData) (v : ImageData) (r : Record) (s : FlatState) (m : Machine) (c : Control) → IsOfText t v s.machine → s.machine.pc < 2 ^ 32 → m.ending ≡ None → Matches v r s.machine m c →
    RunsOn s m (resume_of v m c)

-- the machine g fetches the image's text, and the hart stands for it: so it may be left again
pub record StandsAnew (t : TextData) (v : ImageData) (new : Record) (g : Machine) (c : Control) : Type 0 where
  pub text : IsOfText t v g
  pub matches : Matches v new g g c

-- A service that enters the ram at the address, whatever it holds by then, brings control to where the machine that goes on stands for itself.
abbrev pub EntersAgain : Type 0
EntersAgain = (t : TextData) (v : ImageData) (r new : Record) (f m : Machine) (c there : Control) (is_done : Bool) → IsOfText t v f → m.ending ≡ None → Matches v r f m c →
    Arrives v new (resume_of v m c) there → StandsAnew t v new (resumed m (resume_of v m c) is_done) there
