-- What a step at a word of the ram is to the flat machine f, by cases. What the step leaves, what it costs and which transfer it makes
-- are read off them.
use Rattle.std.proofs.Common.{◌≡◌, ◌==◌, if◌then◌else◌, ℕ, ◌+◌, ◌%◌, Bool, true, false, not, ◌&&◌, Option, Some, None, List, length, ◌∙◌, ap}
use Rattle.swi_isa.specs.declared.instr.Instr.{Instr}
use Rattle.swi_isa.specs.declared.instr.Instr.TheVariants as instr
use Rattle.swi_isa.specs.Decode.{decoded}
use Rattle.swi_memory.specs.Bus.{fetched}
use Rattle.swi_exec.specs.Arithmetic.{sum_of}
use Rattle.swi_exec.specs.Registers.{reg}
use Rattle.swi_exec.specs.Execute.{is_taken}
use Rattle.swi_calls.specs.declared.end.End.{End}
use Rattle.swi_calls.specs.declared.machine.Machine.{Machine}
use Rattle.swi_calls.specs.StoresText.{instruction_store}
use Rattle.swi_calls.specs.Flat.{quiet, with_instruction}
use Rattle.swi_calls.specs.Held.{held, held_made}
use Rattle.swi_image.specs.Format.{ImageData}
use Rattle.swi_image.specs.Place.{place_of, word_at}
use Rattle.swi_render.specs.Rendering.{ebreak, Slot, rendering_of, falls_of}
use Rattle.swi_render.specs.Carried.{GoesOn, Carries}
use Rattle.swi_rom.specs.Record.{Record, Transfer, direct, indirect}
use Rattle.swi_hart.specs.declared.hart.Stage.{Stage}
use Rattle.swi_hart.specs.declared.hart.Stage.TheVariants.{Start, Low, Return, Leave}
use Rattle.swi_hart.specs.declared.hart.Control.TheVariants.{At}
use Rattle.swi_hart.specs.Hart.{Stepped, stepped, behind, completes, instruction, is_fall, leads, original, slots}
use Rattle.swi_hart.specs.Matching.{IsIn, Arrives, BoardStep, StageAt}
use Rattle.swi_hart.specs.Leaving.{transfer_at}
use Rattle.swi_hart.proofs.Own.{held_as}
use Rattle.swi_hart.proofs.Standing.{Stands, stands_for, slots_are}

-- whether the instruction is a branch that is taken, and whether the run goes on at the next address
abbrev pub takes_branch : Machine → Option Instr → Bool
takes_branch f (Some (instr.Branch op rs1 rs2 off)) = is_taken op (reg f.regs rs1) (reg f.regs rs2)
takes_branch f x = false

abbrev pub goes_next : Machine → Option Instr → Bool
goes_next f x = falls_of x && not (takes_branch f x)

-- how many words of the rendering are executed before the last one
abbrev pub words_before : Machine → Option Instr → List Slot → ℕ
words_before f x ss = leads ss + (if takes_branch f x then 1 else 0)

-- the transfer of the instruction's exit at a place, where it is left for t
abbrev pub transfer_to : Option Instr → ℕ → ℕ → ℕ → Transfer
transfer_to (Some (instr.Jalr rd rs1 imm)) b o t = indirect t
transfer_to x b o t = direct b o t

-- the instruction at f's pc, and what stands for it from an offset of block b on
pub record Known (v : ImageData) (f : Machine) (b first : ℕ) (x : Option Instr) : Type 0 where
  pub w : ℕ
  pub fetch : fetched f.bus f.pc ≡ Some w
  pub is : decoded w ≡ x
  pub start : place_of v f.pc ≡ Some (b, first)
  pub aligned : f.pc % 4 ≡ 0
  pub stands : Stands v w f.pc b first x

pub known : {v : ImageData} {f : Machine} {b first : ℕ} {x : Option Instr} → Carries (fetched f.bus) v → (w : ℕ) → fetched f.bus f.pc ≡ Some w → decoded w ≡ x → place_of v f.pc ≡ Some (b, first) → Known v f b first x
known {v = v} {f = f} {b = b} {first = first} {x = x} image w fetch is start = record {
  w = w;
  fetch = fetch;
  is = is;
  start = start;
  aligned = image.aligned f.pc b first start;
  stands = stands_for v f w b first x image fetch is start;
}

module _ {v : ImageData} {f : Machine} {b first : ℕ} {x : Option Instr} (k : Known v f b first x) where
  pub original_is : original f ≡ x
  original_is = ap instruction k.fetch ∙ k.is

  pub length_is : length (slots f) ≡ length (rendering_of x k.w f.pc)
  length_is = ap (λ (l : List Slot). length l) (slots_are f k.w x k.fetch k.is)

  pub before_is : words_before f (original f) (slots f) ≡ words_before f x (rendering_of x k.w f.pc)
  before_is = ap (λ (y : Option Instr). words_before f y (slots f)) original_is ∙ ap (λ (l : List Slot). words_before f x l) (slots_are f k.w x k.fetch k.is)

  pub held_is : (input : List ℕ) → held_made f input ≡ held f (instruction_store f x) (with_instruction f x input) input
  held_is input = held_as f input k.w x k.fetch k.is

-- so many words of the instruction at f's pc were executed
abbrev pub Counts : Stage → Machine → ℕ → Type 0
Counts Start f n = n ≡ 0
Counts Low f n = n ≡ 1
Counts Return f n = n ≡ 1
Counts Leave f n = words_before f (original f) (slots f) ≡ n

-- control is behind n words of what stands for that instruction from `first` on
pub record Within (v : ImageData) (f : Machine) (b o : ℕ) (stage : Stage) (first n : ℕ) : Type 0 where
  pub start : place_of v f.pc ≡ Some (b, first)
  pub offset : o ≡ first + n
  pub count : Counts stage f n

-- the word under control is the last one that the instruction executes
pub record Last (v : ImageData) (f m : Machine) (i b o : ℕ) (stage : Stage) (first n : ℕ) : Type 0 where
  pub within : Within v f b o stage first n
  pub before : words_before f (original f) (slots f) ≡ n
  pub complete : completes v m (At i b o stage) ≡ true

-- it goes on in its block, at the next address
pub record Stayed (v : ImageData) (r new : Record) (f : Machine) (i b o : ℕ) (stage : Stage) (s : Stepped) (input : List ℕ) (first : ℕ) : Type 0 where
  pub index : ℕ
  pub offset : ℕ
  pub is : s ≡ stepped (behind (held_made f input).machine.ending (At index b offset Start) (At i b o stage)) (held_made f input)
  pub is_in : IsIn new index b offset
  pub pc : (held_made f input).machine.ending ≡ None → (held_made f input).machine.pc ≡ sum_of f.pc 4
  pub goes : GoesOn v (sum_of f.pc 4) b offset
  pub length : first + length (slots f) ≡ offset
  pub next : goes_next f (original f) ≡ true
  pub same : new ≡ r

-- it leaves its block, or jumps in it
pub record Departed (v : ImageData) (new : Record) (f m : Machine) (i b o : ℕ) (stage : Stage) (s : Stepped) (input : List ℕ) : Type 0 where
  pub to : ℕ
  pub transfer : transfer_at v m (At i b o stage) ≡ Some (transfer_to (original f) b o to)
  pub away : goes_next f (original f) ≡ false
  pub arrives : Arrives v new to s.control
  pub is : s.made ≡ held_made f input
  pub on : (held_made f input).machine.ending ≡ None
  pub pc : (held_made f input).machine.pc ≡ to

-- the run ends at it
pub record Stopped (v : ImageData) (f m : Machine) (i b o : ℕ) (stage : Stage) (s : Stepped) (input : List ℕ) : Type 0 where
  pub end : End
  pub transfer : transfer_at v m (At i b o stage) ≡ None
  pub is : s ≡ stepped (At i b o stage) (held_made f input)
  pub ending : (held_made f input).machine.ending ≡ Some end

-- the word under control leads to the next one of its instruction
pub record Led (v : ImageData) (r new : Record) (f m : Machine) (i b o : ℕ) (stage : Stage) (s : Stepped) (input : List ℕ) : Type 0 where
  pub first : ℕ
  pub n : ℕ
  pub next : Stage
  pub machine : Machine
  pub within : Within v f b o stage first n
  pub later : Within v f b (o + 1) next first (n + 1)
  pub complete : completes v m (At i b o stage) ≡ false
  pub is : s ≡ stepped (At (i + 1) b (o + 1) next) (quiet machine input)
  pub running : machine.ending ≡ None
  pub is_in : IsIn new (i + 1) b (o + 1)
  pub stage_at : StageAt next v b (o + 1) f machine
  pub same : new ≡ r

-- the exit behind a block's last text word, which is no step of the flat machine
pub record Fallen (v : ImageData) (new : Record) (f m : Machine) (i b o : ℕ) (stage : Stage) (s : Stepped) (input : List ℕ) : Type 0 where
  pub starts : stage ≡ Start
  pub falls : is_fall v f b o Start ≡ true
  pub complete : completes v m (At i b o stage) ≡ false
  pub transfer : transfer_at v m (At i b o stage) ≡ Some (direct b o f.pc)
  pub arrives : Arrives v new f.pc s.control
  pub is : s.made ≡ quiet f input

pub data Case (v : ImageData) (r new : Record) (f m : Machine) (i b o : ℕ) (stage : Stage) (s : Stepped) (input : List ℕ) : Type 0 where
  stayed : (first n : ℕ) → Last v f m i b o stage first n → Stayed v r new f i b o stage s input first → Case v r new f m i b o stage s input
  departed : (first n : ℕ) → Last v f m i b o stage first n → Departed v new f m i b o stage s input → Case v r new f m i b o stage s input
  stopped : (first n : ℕ) → Last v f m i b o stage first n → Stopped v f m i b o stage s input → Case v r new f m i b o stage s input
  led : Led v r new f m i b o stage s input → Case v r new f m i b o stage s input
  fallen : Fallen v new f m i b o stage s input → Case v r new f m i b o stage s input

-- a step at a word of the ram, of a machine m that stands for f
pub record Ground (v : ImageData) (r new : Record) (f m : Machine) (i b o : ℕ) (stage : Stage) (s : Stepped) (input : List ℕ) : Type 0 where
  pub running : f.ending ≡ None
  pub is_in : IsIn r i b o
  pub stay : (word_at v b o == ebreak) ≡ false → new ≡ r
  pub image : Carries (fetched f.bus) v
  pub step : BoardStep v new m (At i b o stage) s input
