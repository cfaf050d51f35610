-- A machine instruction of a processor whose service is `swi_chip`, in the words of its memory and of its calls. Own rule.
use Rattle.std.specs.Prelude.{◌≡◌, ◌⊎◌, ℕ, ◌+◌, ◌*◌, ◌/◌, ◌++◌, true, false, List, Some, None, slice_index}
use Rattle.swi_isa.specs.declared.instr.Instr.TheVariants as instr
use Rattle.swi_isa.specs.Decode.{decoded}
use Rattle.swi_exec.specs.Execute as execute
use Rattle.swi_exec.specs.declared.done.FaultKind.TheVariants as kind
use Rattle.swi_calls.specs.declared.end.End.TheVariants.{Faulted}
use Rattle.swi_calls.specs.declared.machine.Machine.{Machine}
use Rattle.swi_calls.specs.Flat.{ends, quiet}
use Rattle.swi_image.specs.Format.{ImageData}
use Rattle.swi_image.specs.Place.{place_of}
use Rattle.swi_rom.specs.Record.{ebreak}
use Rattle.swi_hart.specs.declared.hart.Stage.{Stage}
use Rattle.swi_hart.specs.declared.hart.Stage.TheVariants.{Start, Low, Return, Leave}
use Rattle.swi_hart.specs.declared.hart.Control.{Control}
use Rattle.swi_hart.specs.declared.hart.Control.TheVariants.{At, Outside}
use Rattle.swi_hart.specs.declared.hart.ExitKind.{ExitKind}
use Rattle.swi_hart.specs.declared.hart.ExitKind.TheVariants.{Direct, Misaligned, Trap, Indirect}
use Rattle.swi_hart.specs.Hart.{HartData, Stepped, exit_kind, hart_after, is_fall, left_made, original, stepped, trap_kind}
use Rattle.swi_chip.specs.declared.chip.Chip.{Chip}
use Rattle.swi_chip.specs.Owned.{is_jump}
use Rattle.swi_chip.specs.Repeated.{ExitCalls, LeaveCalls}
use Rattle.swi_chip.specs.Service.{address_of, misaligned, no_text}
use Rattle.swi_chip_laws.specs.Stepping.{Executes, GoesOver}

-- What stands between two machine instructions: the hart, the service with its cache, the input that is left, and what was written.
pub record ProcessorState : Type 0 where
  pub hart : HartData
  pub chip : Chip
  pub input : List ℕ
  pub output : List ℕ
  pub error : List ℕ

-- a word of the cache
abbrev pub held : ProcessorState → ℕ → ℕ
held p i = slice_index p.chip.cache.now i

-- the word under control: its index, which word of which block it is, and how far its instruction was executed
pub record WordAt : Type 0 where
  pub index : ℕ
  pub block : ℕ
  pub offset : ℕ
  pub stage : Stage

abbrev pub control_of : WordAt → Control
control_of w = At w.index w.block w.offset w.stage

-- the processor goes on at the answer, an address of the cache, where the target's first word stands; outside, where it is `no_text`
abbrev pub GoesOnAt : ImageData → Chip → ℕ → ℕ → Control → Type 0
GoesOnAt v c target answer (At i b o Start) = (answer ≡ address_of c i) × (place_of v target ≡ Some (b, o))
GoesOnAt v c target answer (At i b o Low) = ⊥
GoesOnAt v c target answer (At i b o Return) = ⊥
GoesOnAt v c target answer (At i b o Leave) = ⊥
GoesOnAt v c target answer Outside = answer ≡ no_text

-- a direct exit: the vector calls `exit` with the address of the EBREAK and the word behind it, again while it answers so, and goes on at the
-- last answer
pub record CallsExit (v : ImageData) (a b : ProcessorState) (s : Stepped) (w : WordAt) : Type 0 where
  pub answer : ℕ
  pub served : ExitCalls a.chip b.chip (address_of a.chip w.index) (held a (w.index + 1)) answer
  pub goes : GoesOnAt v b.chip (held a (w.index + 1)) answer s.control
  pub made : s.made ≡ left_made (is_fall v a.hart.machine w.block w.offset w.stage) a.hart.machine (held a (w.index + 1)) a.input

-- to where a JALR jumps
abbrev pub jalr_target : Machine → ℕ → ℕ → ℕ
jalr_target m rs1 imm = execute.address_of m.regs rs1 imm / 2 * 2

-- a jump over a register: the vector calls `leave` with the registers, the address of the EBREAK and the target of the JALR behind it, again
-- while it answers so, and goes on at the last answer, but where the target is misaligned
pub record CallsLeave (v : ImageData) (a b : ProcessorState) (s : Stepped) (w : WordAt) : Type 0 where
  pub rd : ℕ
  pub rs1 : ℕ
  pub imm : ℕ
  pub is : decoded (held a (w.index + 1)) ≡ Some (instr.Jalr rd rs1 imm)
  pub answer : ℕ
  pub registers : List ℕ
  pub served : LeaveCalls a.chip b.chip a.hart.machine.regs.words registers (address_of a.chip w.index) (jalr_target a.hart.machine rs1 imm) answer
  pub refused : answer ≡ misaligned → s ≡ stepped (control_of w) (ends a.hart.machine (Faulted kind.FetchMisaligned (jalr_target a.hart.machine rs1 imm)) a.input)
  pub goes : (answer ≡ misaligned → ⊥) → GoesOnAt v b.chip (jalr_target a.hart.machine rs1 imm) answer s.control
      × (s.made ≡ quiet (record a.hart.machine { pc = jalr_target a.hart.machine rs1 imm; regs = record a.hart.machine.regs { words = registers }; steps = a.hart.machine.steps + 1 }) a.input)

-- an EBREAK, by the word behind it: the service is called, or the run ends
abbrev pub CallsBy : ExitKind → ImageData → ProcessorState → ProcessorState → Stepped → WordAt → Type 0
CallsBy Direct v a b s w = CallsExit v a b s w
CallsBy Misaligned v a b s w = (b.chip ≡ a.chip) × (s ≡ stepped (control_of w) (ends a.hart.machine (Faulted kind.FetchMisaligned (held a (w.index + 1))) a.input))
CallsBy Trap v a b s w = (b.chip ≡ a.chip) × (s ≡ stepped (control_of w) (ends a.hart.machine (Faulted (trap_kind (original a.hart.machine)) a.hart.machine.pc) a.input))
CallsBy Indirect v a b s w = CallsLeave v a b s w

-- another word: a JAL x0 is executed where it stands, and every other one as the model's board executes it
pub record RunsWord (v : ImageData) (a b : ProcessorState) (s : Stepped) (w : WordAt) : Type 0 where
  pub same : b.chip ≡ a.chip
  pub link : is_jump (held a w.index) ≡ true → GoesOver v a.hart.machine s a.input a.chip.cache.now w.index w.block w.offset w.stage
  pub word : is_jump (held a w.index) ≡ false → Executes a.hart.machine s a.input a.chip.cache.now w.index w.block w.offset w.stage

abbrev pub StepsAt : ImageData → ProcessorState → ProcessorState → Stepped → WordAt → Type 0
StepsAt v a b s w = ((held a w.index ≡ ebreak) × CallsBy (exit_kind (held a (w.index + 1))) v a b s w) ⊎ RunsWord v a b s w

-- a machine instruction, by control
abbrev pub ProcessorStep : Control → ImageData → ProcessorState → ProcessorState → Stepped → Type 0
ProcessorStep (At i c o stage) v a b s = StepsAt v a b s (record { index = i; block = c; offset = o; stage = stage })
ProcessorStep Outside v a b s = (b.chip ≡ a.chip) × (s ≡ stepped Outside (ends a.hart.machine (Faulted kind.FetchAccess a.hart.machine.pc) a.input))

-- one machine instruction of a run that goes on
pub record ProcessorMoved (v : ImageData) (a b : ProcessorState) : Type 0 where
  pub running : a.hart.machine.ending ≡ None
  pub step : Stepped
  pub is : ProcessorStep a.hart.control v a b step
  pub hart : b.hart ≡ hart_after a.hart step
  pub input : b.input ≡ step.made.input
  pub output : b.output ≡ a.output ++ step.made.output
  pub error : b.error ≡ a.error ++ step.made.error
