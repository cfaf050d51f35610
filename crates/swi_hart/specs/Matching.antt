-- The machine that runs out of a cache ram, against the flat one.
use Rattle.std.specs.Prelude.{◌≡◌, ◌⊎◌, ◌==◌, ℕ, ◌+◌, ◌*◌, ◌/◌, ◌%◌, Bool, true, false, List, Option, Some, None, ⊤}
use Rattle.swi_isa.specs.declared.instr.Instr.{Instr}
use Rattle.swi_isa.specs.declared.instr.Instr.TheVariants as instr
use Rattle.swi_isa.specs.declared.instr.BranchOp.{BranchOp}
use Rattle.swi_isa.specs.Decode.{decoded}
use Rattle.swi_memory.specs.Bus.{fetched}
use Rattle.swi_exec.specs.Arithmetic.{sum_of}
use Rattle.swi_exec.specs.Registers.{reg, with_reg}
use Rattle.swi_exec.specs.Execute.{is_taken, address_of}
use Rattle.swi_exec.specs.declared.done.FaultKind.TheVariants as kind
use Rattle.swi_calls.specs.declared.end.End.{End}
use Rattle.swi_calls.specs.declared.end.End.TheVariants.{Faulted}
use Rattle.swi_calls.specs.declared.machine.Machine.{Machine}
use Rattle.swi_calls.specs.Flat.{Made, quiet, ends}
use Rattle.swi_image.specs.Format.{ImageData}
use Rattle.swi_image.specs.Place.{place_of, word_at}
use Rattle.swi_render.specs.Rendering.{ebreak}
use Rattle.swi_hart.specs.Hart.{links, HartData, Stepped, stepped, word_stepped, role_of, original, exit_kind, is_fall, left_made, trap_kind}
use Rattle.swi_render.specs.Carried.{GoesOn, Carries}
use Rattle.swi_rom.specs.Record.{Record, Placed}
use Rattle.swi_hart.specs.declared.hart.Stage.{Stage}
use Rattle.swi_hart.specs.declared.hart.Stage.TheVariants.{Start, Low, Return, Leave}
use Rattle.swi_hart.specs.declared.hart.Control.{Control}
use Rattle.swi_hart.specs.declared.hart.Control.TheVariants.{At, Outside}
use Rattle.swi_hart.specs.declared.hart.ExitKind.{ExitKind}
use Rattle.swi_hart.specs.declared.hart.ExitKind.TheVariants.{Direct, Misaligned, Trap, Indirect}

-- the word at the index is that of the block at the offset
abbrev pub IsIn : Record → ℕ → ℕ → ℕ → Type 0
IsIn r i b o = (f : ℕ) × Placed r b f × (i ≡ f + o)

-- control has gone to the address
abbrev pub Arrives : ImageData → Record → ℕ → Control → Type 0
Arrives v r t (At i b o Start) = IsIn r i b o × (place_of v t ≡ Some (b, o))
Arrives v r t (At i b o Low) = ⊥
Arrives v r t (At i b o Return) = ⊥
Arrives v r t (At i b o Leave) = ⊥
Arrives v r t Outside = place_of v t ≡ None

-- a jump over a register, to this target
abbrev pub Jumps : Bool → ImageData → Record → Stepped → List ℕ → Control → Machine → ℕ → ℕ → ℕ → Type 0
Jumps true v new s input here m rd return t = Arrives v new t s.control
    × (s.made ≡ quiet (record m { pc = t; regs = with_reg m.regs rd return; steps = m.steps + 1 }) input)
Jumps false v new s input here m rd return t = s ≡ stepped here (ends m (Faulted kind.FetchMisaligned t) input)

abbrev pub JumpsBy : Option Instr → ImageData → Record → Stepped → List ℕ → Control → Machine → ℕ → Type 0
JumpsBy (Some (instr.Jalr rd rs1 imm)) v new s input here m return =
    Jumps (address_of m.regs rs1 imm / 2 * 2 % 4 == 0) v new s input here m rd return (address_of m.regs rs1 imm / 2 * 2)
JumpsBy _ v new s input here m return = ⊥

-- a step at an exit, by what the exit is for
abbrev pub ExitStep : ExitKind → ImageData → Record → Machine → Stepped → List ℕ → ℕ → ℕ → ℕ → Stage → Type 0
ExitStep Direct v new m s input i b o stage = Arrives v new (word_at v b (o + 1)) s.control
    × (s.made ≡ left_made (is_fall v m b o stage) m (word_at v b (o + 1)) input)
ExitStep Misaligned v new m s input i b o stage = s ≡ stepped (At i b o stage) (ends m (Faulted kind.FetchMisaligned (word_at v b (o + 1))) input)
ExitStep Trap v new m s input i b o stage = s ≡ stepped (At i b o stage) (ends m (Faulted (trap_kind (original m)) m.pc) input)
ExitStep Indirect v new m s input i b o stage = JumpsBy (decoded (word_at v b (o + 1))) v new s input (At i b o stage) m (word_at v b (o + 2))

-- a step at a word of the ram: an exit is left, and any other word is executed
abbrev pub HomeStep : Bool → ImageData → Record → Machine → Stepped → List ℕ → ℕ → ℕ → ℕ → Stage → Type 0
HomeStep true v new m s input i b o stage = ExitStep (exit_kind (word_at v b (o + 1))) v new m s input i b o stage
HomeStep false v new m s input i b o stage =
    (x : Instr) × (decoded (word_at v b o) ≡ Some x) × (s ≡ word_stepped (role_of stage (original m)) i b o stage m x input)

-- a step of the board
abbrev pub BoardStep : ImageData → Record → Machine → Control → Stepped → List ℕ → Type 0
BoardStep v new m (At i b o stage) s input = HomeStep (word_at v b o == ebreak) v new m s input i b o stage
BoardStep v new m Outside s input = s ≡ stepped Outside (ends m (Faulted kind.FetchAccess m.pc) input)

-- the LUI of an AUIPC at f's pc is done, and its ADDI comes
pub record AtLow (v : ImageData) (b o : ℕ) (f m : Machine) : Type 0 where
  pub at : ℕ
  pub w : ℕ
  pub rd : ℕ
  pub imm : ℕ
  pub upper : ℕ
  pub fetch : fetched f.bus f.pc ≡ Some w
  pub is : decoded w ≡ Some (instr.Auipc rd imm)
  pub start : place_of v f.pc ≡ Some (b, at)
  pub offset : o ≡ at + 1
  pub lui : decoded (word_at v b at) ≡ Some (instr.Lui rd upper)
  pub done : m ≡ record f { regs = with_reg f.regs rd upper }

-- the LUI of a JAL's return address is done, and its ADDI comes
pub record AtReturn (v : ImageData) (b o : ℕ) (f m : Machine) : Type 0 where
  pub at : ℕ
  pub w : ℕ
  pub rd : ℕ
  pub off : ℕ
  pub upper : ℕ
  pub fetch : fetched f.bus f.pc ≡ Some w
  pub is : decoded w ≡ Some (instr.Jal rd off)
  pub linking : links rd (sum_of f.pc off) ≡ true
  pub start : place_of v f.pc ≡ Some (b, at)
  pub offset : o ≡ at + 1
  pub lui : decoded (word_at v b at) ≡ Some (instr.Lui rd upper)
  pub done : m ≡ record f { regs = with_reg f.regs rd upper }

-- the return address of a JAL stands in its rd, and its exit comes
pub record AtExit (v : ImageData) (b o : ℕ) (f m : Machine) : Type 0 where
  pub at : ℕ
  pub w : ℕ
  pub rd : ℕ
  pub off : ℕ
  pub fetch : fetched f.bus f.pc ≡ Some w
  pub is : decoded w ≡ Some (instr.Jal rd off)
  pub linking : links rd (sum_of f.pc off) ≡ true
  pub start : place_of v f.pc ≡ Some (b, at)
  pub offset : o ≡ at + 2
  pub done : m ≡ record f { regs = with_reg f.regs rd (sum_of f.pc 4) }

-- the branch at f's pc is taken, and its exit comes
pub record AtTaken (v : ImageData) (b o : ℕ) (f m : Machine) : Type 0 where
  pub at : ℕ
  pub w : ℕ
  pub op : BranchOp
  pub rs1 : ℕ
  pub rs2 : ℕ
  pub off : ℕ
  pub fetch : fetched f.bus f.pc ≡ Some w
  pub is : decoded w ≡ Some (instr.Branch op rs1 rs2 off)
  pub taken : is_taken op (reg f.regs rs1) (reg f.regs rs2) ≡ true
  pub start : place_of v f.pc ≡ Some (b, at)
  pub offset : o ≡ at + 1
  pub done : m ≡ f

-- where control stands for the flat machine f, and how m differs from it
abbrev pub StageAt : Stage → ImageData → ℕ → ℕ → Machine → Machine → Type 0
StageAt Start v b o f m = (m ≡ f) × GoesOn v f.pc b o
StageAt Low v b o f m = AtLow v b o f m
StageAt Return v b o f m = AtReturn v b o f m
StageAt Leave v b o f m = AtExit v b o f m ⊎ AtTaken v b o f m

abbrev pub Stands : ImageData → Record → Machine → Machine → Control → Type 0
Stands v r f m (At i b o stage) = IsIn r i b o × StageAt stage v b o f m
Stands v r f m Outside = (m ≡ f) × (place_of v f.pc ≡ None)

abbrev pub Agrees : Option End → ImageData → Record → Machine → Machine → Control → Type 0
Agrees None v r f m c = Stands v r f m c
Agrees (Some e) v r f m c = m ≡ f

-- the hart stands where the flat machine does, or midway to its next step
abbrev pub Matches : ImageData → Record → Machine → Machine → Control → Type 0
Matches v r f m c = Agrees m.ending v r f m c

-- a step of the board is one of the flat machine, or none
pub record Follows (v : ImageData) (new : Record) (s : Stepped) (next : Made) : Type 0 where
  pub matches : Matches v new next.machine s.made.machine s.control
  pub input : s.made.input ≡ next.input
  pub output : s.made.output ≡ next.output
  pub error : s.made.error ≡ next.error

-- control is so many words behind the first that stands for this instruction, which is the one at the machine's pc
pub record Behind (x : Instr) (words : ℕ) (v : ImageData) (b o : ℕ) (m : Machine) : Type 0 where
  pub at : ℕ
  pub w : ℕ
  pub fetch : fetched m.bus m.pc ≡ Some w
  pub is : decoded w ≡ Some x
  pub start : place_of v m.pc ≡ Some (b, at)
  pub offset : o ≡ at + words

-- behind the first words of an AUIPC, of a JAL that keeps its return address, and of a branch
pub record BehindAuipc (v : ImageData) (b o : ℕ) (m : Machine) : Type 0 where
  pub rd : ℕ
  pub imm : ℕ
  pub behind : Behind (instr.Auipc rd imm) 1 v b o m

pub record BehindJal (words : ℕ) (v : ImageData) (b o : ℕ) (m : Machine) : Type 0 where
  pub rd : ℕ
  pub off : ℕ
  pub linking : links rd (sum_of m.pc off) ≡ true
  pub behind : Behind (instr.Jal rd off) words v b o m

pub record BehindBranch (v : ImageData) (b o : ℕ) (m : Machine) : Type 0 where
  pub op : BranchOp
  pub rs1 : ℕ
  pub rs2 : ℕ
  pub off : ℕ
  pub behind : Behind (instr.Branch op rs1 rs2 off) 1 v b o m

-- where control is by its stage, in what stands for the instruction at the machine's pc
abbrev pub PlaceAt : Stage → ImageData → ℕ → ℕ → Machine → Type 0
PlaceAt Start v b o m = GoesOn v m.pc b o
PlaceAt Low v b o m = BehindAuipc v b o m
PlaceAt Return v b o m = BehindJal 1 v b o m
PlaceAt Leave v b o m = BehindJal 2 v b o m ⊎ BehindBranch v b o m

abbrev pub StandsBy : Option End → ImageData → Record → Machine → Control → Type 0
StandsBy None v r m (At i b o stage) = IsIn r i b o × PlaceAt stage v b o m
StandsBy None v r m Outside = place_of v m.pc ≡ None
StandsBy (Some e) v r m c = ⊤

-- The image fits the hart: it is one of the text that the hart fetches, and while the hart goes on, control is in what stands for the
-- instruction at its pc. Nothing is asked of the registers.
pub record Fits (v : ImageData) (r : Record) (h : HartData) : Type 0 where
  pub image : Carries (fetched h.machine.bus) v
  pub place : StandsBy h.machine.ending v r h.machine h.control
