-- What a run costs the board, and the transfers that it makes, read off the flat steps and the image.
use Rattle.std.specs.Prelude.{ℕ, zero, suc, ◌+◌, Bool, false, not, ◌&&◌, List, [], ◌∷◌, ◌++◌, length, fold, Option, Some, None, is_some, if◌then◌else◌}
use Rattle.swi_isa.specs.declared.instr.Instr.{Instr}
use Rattle.swi_isa.specs.declared.instr.Instr.TheVariants as instr
use Rattle.swi_exec.specs.Registers.{reg}
use Rattle.swi_exec.specs.Execute.{is_taken}
use Rattle.swi_calls.specs.declared.end.End.{End}
use Rattle.swi_calls.specs.declared.machine.Machine.{Machine}
use Rattle.swi_calls.specs.State.{FlatState}
use Rattle.swi_image.specs.Format.{ImageData}
use Rattle.swi_image.specs.Place.{place_of}
use Rattle.swi_render.specs.Rendering.{Slot, falls_of}
use Rattle.swi_rom.specs.Record.{Record, Transfer, direct, indirect}
use Rattle.swi_hart.specs.declared.hart.Stage.TheVariants.{Start, Low, Return, Leave}
use Rattle.swi_hart.specs.declared.hart.Control.{Control}
use Rattle.swi_hart.specs.declared.hart.Control.TheVariants.{At, Outside}
use Rattle.swi_hart.specs.Hart.{original, is_place, slots, leads}
use Rattle.swi_calls.specs.Held.{held_step}

-- where a run stands: at the block and offset of a text word's first word or of an exit behind a block's last text word, or outside
abbrev pub Here : Type 0
Here = Option (ℕ × ℕ)

-- whether it stands at an exit behind a block's last text word
abbrev pub at_fall : ImageData → Machine → Here → Bool
at_fall v f None = false
at_fall v f (Some p) = not (is_place (place_of v f.pc) p.0 p.1)

-- where it stands once such an exit is made
abbrev pub settled : ImageData → Machine → Here → Here
settled v f here = if at_fall v f here then place_of v f.pc else here

-- whether the instruction goes on elsewhere than at the next word
abbrev pub jumps_as : Machine → Option Instr → Bool
jumps_as f (Some (instr.Branch op rs1 rs2 off)) = is_taken op (reg f.regs rs1) (reg f.regs rs2)
jumps_as f x = not (falls_of x)

-- how many words of the rendering are executed before the last one: those that lead to it, and the branch over the exit where the
-- original branch is taken
abbrev pub branch_words : Machine → Option Instr → ℕ
branch_words f (Some (instr.Branch op rs1 rs2 off)) = if is_taken op (reg f.regs rs1) (reg f.regs rs2) then 1 else 0
branch_words f x = 0

abbrev pub before_last : Machine → Option Instr → List Slot → ℕ
before_last f x ss = leads ss + branch_words f x

-- the machine steps of one step: of AUIPC two, of a JAL that keeps its return address three, of a taken branch two, else one
abbrev pub step_cost : Machine → Option Instr → List Slot → ℕ
step_cost f x ss = before_last f x ss + 1

-- the transfer of a step that goes on at pc: the exit of a JAL or branch is the last word executed
abbrev pub leaves_by : Machine → Option Instr → List Slot → ℕ × ℕ → ℕ → List Transfer
leaves_by f (Some (instr.Jalr rd rs1 imm)) ss p pc = indirect pc ∷ []
leaves_by f x ss p pc = direct p.0 (p.1 + before_last f x ss) pc ∷ []

abbrev pub step_transfers : Machine → Here → Machine → List Transfer
step_transfers f None next = []
step_transfers f (Some p) next = if jumps_as f (original f) && not (is_some next.ending) then leaves_by f (original f) (slots f) p next.pc else []

-- where the run stands after a step
abbrev pub here_after : ImageData → Machine → Here → Machine → Here
here_after v f None next = None
here_after v f (Some p) next = if jumps_as f (original f) then place_of v next.pc else Some (p.0, p.1 + length (slots f))

-- the exit behind a block's last text word, which is made first
abbrev pub fall_transfers : ImageData → Machine → Here → List Transfer
fall_transfers v f None = []
fall_transfers v f (Some p) = if at_fall v f (Some p) then direct p.0 p.1 f.pc ∷ [] else []

-- the transfers of up to so many steps
unfoldable pub transfers : ImageData → ℕ → FlatState → Here → List Transfer
transfers v zero s here = []
transfers v (suc k) s here =
    if is_some s.machine.ending then []
    else fall_transfers v s.machine here ++ (step_transfers s.machine (settled v s.machine here) (held_step s).machine
    ++ transfers v k (held_step s) (here_after v s.machine (settled v s.machine here) (held_step s).machine))

-- where the run stands after up to so many steps
unfoldable pub here_run : ImageData → ℕ → FlatState → Here → Here
here_run v zero s here = here
here_run v (suc k) s here =
    if is_some s.machine.ending then here
    else here_run v k (held_step s) (here_after v s.machine (settled v s.machine here) (held_step s).machine)

-- the words executed by one step; one outside the text executes none, and counts as is said
abbrev pub step_size : ℕ → Machine → Here → ℕ
step_size outside f None = outside
step_size outside f (Some p) = step_cost f (original f) (slots f)

-- and by up to so many, with the exits behind blocks' last text words
unfoldable pub size : ℕ → ImageData → ℕ → FlatState → Here → ℕ
size outside v zero s here = 0
size outside v (suc k) s here =
    if is_some s.machine.ending then 0
    else (if at_fall v s.machine here then 1 else 0) + step_size outside s.machine (settled v s.machine here)
    + size outside v k (held_step s) (here_after v s.machine (settled v s.machine here) (held_step s).machine)

-- the machine steps of up to so many steps
abbrev pub cost : ImageData → ℕ → FlatState → Here → ℕ
cost v k s here = size 1 v k s here

-- and their fetches: a step outside the text fetches nothing
abbrev pub fetches : ImageData → ℕ → FlatState → Here → ℕ
fetches v k s here = size 0 v k s here

-- the record that a list of transfers leads to
abbrev pub after_all : (Record → ImageData → Transfer → Record) → ImageData → Record → List Transfer → Record
after_all policy v r list = fold (λ s t. policy s v t) r list

-- where a run of the flat machine f stands, by control: midway in an instruction, at its first word
abbrev pub here_of : ImageData → Machine → Control → Here
here_of v f (At i b o Start) = Some (b, o)
here_of v f (At i b o Low) = place_of v f.pc
here_of v f (At i b o Return) = place_of v f.pc
here_of v f (At i b o Leave) = place_of v f.pc
here_of v f Outside = None

-- how many machine steps of the instruction are made
abbrev pub spent : Machine → Control → ℕ
spent f (At i b o Start) = 0
spent f (At i b o Low) = 1
spent f (At i b o Return) = 1
spent f (At i b o Leave) = before_last f (original f) (slots f)
spent f Outside = 0

-- and none where the run has ended
abbrev pub spent_by : Option End → Machine → Control → ℕ
spent_by None f c = spent f c
spent_by (Some e) f c = 0

abbrev pub spent_run : Machine → Control → ℕ
spent_run f c = spent_by f.ending f c
