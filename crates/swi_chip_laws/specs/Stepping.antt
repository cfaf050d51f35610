-- A machine instruction of a chip at a word under control, in a processor's words: by what its memory holds. What a chip has to do is
-- just this. Own rule.
use Rattle.std.specs.Prelude.{◌≡◌, ◌⊎◌, ℕ, ◌+◌, ◌*◌, true, false, List, Some, slice_index}
use Rattle.swi_isa.specs.declared.instr.Instr.{Instr}
use Rattle.swi_isa.specs.Decode.{decoded}
use Rattle.swi_exec.specs.Execute.{executed}
use Rattle.swi_exec.specs.declared.done.Done.TheVariants as done
use Rattle.swi_exec.specs.declared.done.FaultKind.TheVariants as kind
use Rattle.swi_calls.specs.declared.end.End.TheVariants.{Faulted}
use Rattle.swi_calls.specs.declared.machine.Machine.{Machine}
use Rattle.swi_calls.specs.Flat.{ends}
use Rattle.swi_memory.specs.Bus.{fetched}
use Rattle.swi_image.specs.Format.{ImageData}
use Rattle.swi_image.specs.Place.{place_of, word_at}
use Rattle.swi_render.specs.Carried.{Carries}
use Rattle.swi_rom.specs.Record.{Record, ebreak, is_linked}
use Rattle.swi_hart.specs.declared.hart.Stage.{Stage}
use Rattle.swi_hart.specs.declared.hart.Stage.TheVariants.{Start}
use Rattle.swi_hart.specs.declared.hart.Control.TheVariants.{At}
use Rattle.swi_hart.specs.declared.hart.ExitKind.{ExitKind}
use Rattle.swi_hart.specs.declared.hart.ExitKind.TheVariants.{Direct, Misaligned, Trap, Indirect}
use Rattle.swi_hart.specs.Hart.{HartData, Stepped, stepped, exit_kind, is_fall, left_made, next_made, original, role_of, trap_kind, word_stepped}
use Rattle.swi_hart.specs.Matching.{Arrives, BoardStep, Follows, JumpsBy, Matches}
use Rattle.swi_chip_laws.specs.Holding.{HoldsWords, Under}

-- EBREAK: the vector and the service leave the exit by the words behind it
abbrev pub LeavesBy : ExitKind → ImageData → Record → Machine → Stepped → List ℕ → List ℕ → ℕ → ℕ → ℕ → Stage → Type 0
LeavesBy Direct v new m s input held i b o stage = Arrives v new (slice_index held (i + 1)) s.control × (s.made ≡ left_made (is_fall v m b o stage) m (slice_index held (i + 1)) input)
LeavesBy Misaligned v new m s input held i b o stage = s ≡ stepped (At i b o stage) (ends m (Faulted kind.FetchMisaligned (slice_index held (i + 1))) input)
LeavesBy Trap v new m s input held i b o stage = s ≡ stepped (At i b o stage) (ends m (Faulted (trap_kind (original m)) m.pc) input)
LeavesBy Indirect v new m s input held i b o stage = JumpsBy (decoded (slice_index held (i + 1))) v new s input (At i b o stage) m (slice_index held (i + 2))

-- a linked exit: the processor executes the word where it stands, and goes to the index of the address to which that leads
pub record GoesOver (v : ImageData) (m : Machine) (s : Stepped) (input held : List ℕ) (i b o : ℕ) (stage : Stage) : Type 0 where
  pub instruction : Instr
  pub is : decoded (slice_index held i) ≡ Some instruction
  pub to : ℕ
  pub next : executed instruction (4 * i) m.regs m.bus ≡ record { done = done.Next (4 * to); regs = m.regs; bus = m.bus }
  pub block : ℕ
  pub offset : ℕ
  pub place : place_of v (word_at v b (o + 1)) ≡ Some (block, offset)
  pub control : s.control ≡ At to block offset Start
  pub made : s.made ≡ left_made (is_fall v m b o stage) m (word_at v b (o + 1)) input

-- another word is executed, as the model's board executes one
pub record Executes (m : Machine) (s : Stepped) (input held : List ℕ) (i b o : ℕ) (stage : Stage) : Type 0 where
  pub instruction : Instr
  pub is : decoded (slice_index held i) ≡ Some instruction
  pub other : slice_index held i ≡ ebreak → ⊥
  pub step : s ≡ word_stepped (role_of stage (original m)) i b o stage m instruction input

abbrev pub ChipStep : ImageData → Record → Record → Machine → Stepped → List ℕ → List ℕ → ℕ → ℕ → ℕ → Stage → Type 0
ChipStep v r new m s input held i b o stage =
    ((slice_index held i ≡ ebreak) × LeavesBy (exit_kind (slice_index held (i + 1))) v new m s input held i b o stage)
    ⊎ (((is_linked r b o ≡ true) × (new ≡ r) × GoesOver v m s input held i b o stage)
    ⊎ ((is_linked r b o ≡ false) × (new ≡ r) × Executes m s input held i b o stage))

-- It is a step of the model's board, over a coherent ram of which the memory holds the words.
abbrev pub StepsAsModel : Type 0
StepsAsModel = (v : ImageData) (r new : Record) (span : ℕ) (words held : List ℕ) (h : HartData) (s : Stepped) (input : List ℕ) (i b o : ℕ) (stage : Stage) → Under v r span words h i b o stage → HoldsWords v r words held →
    ChipStep v r new h.machine s input held i b o stage → BoardStep v new h.machine (At i b o stage) s input

-- So the chip stands behind it where the flat machine f does: where f stood, or one step on, or midway to it.
abbrev pub FollowsFlat : Type 0
FollowsFlat = (v : ImageData) (r new : Record) (span : ℕ) (words held : List ℕ) (h : HartData) (f : Machine) (s : Stepped) (input : List ℕ) (i b o : ℕ) (stage : Stage) → Under v r span words h i b o stage → HoldsWords v r words held →
    Carries (fetched f.bus) v → Matches v r f h.machine (At i b o stage) → ChipStep v r new h.machine s input held i b o stage →
    Follows v new s (next_made v h.machine (At i b o stage) f input)
