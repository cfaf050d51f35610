-- Exits and transfers of a board.
use Rattle.std.specs.Prelude.{◌≡◌, ◌⊎◌, ◌==◌, ℕ, ◌+◌, ◌*◌, ◌/◌, ◌%◌, ◌<◌, ◌≤◌, Bool, true, false, not, ◌&&◌, List, [], ◌∷◌, ◌++◌, Option, Some, None, length, slice_index, if◌then◌else◌}
use Rattle.swi_isa.specs.declared.instr.ImmOp.{ImmOp}
use Rattle.swi_isa.specs.declared.instr.ImmOp.TheVariants.{Addi}
use Rattle.swi_isa.specs.declared.instr.Instr.{Instr}
use Rattle.swi_isa.specs.declared.instr.Instr.TheVariants as instr
use Rattle.swi_isa.specs.Decode.{decoded}
use Rattle.swi_exec.specs.Arithmetic.{sum_of}
use Rattle.swi_exec.specs.Execute.{address_of}
use Rattle.swi_calls.specs.declared.machine.Machine.{Machine}
use Rattle.swi_outside.specs.Causes.{Rose, risen, counted}
use Rattle.swi_outside.specs.CacheRam.{Fetch, RamState, KeepsBeyond, fetch}
use Rattle.swi_image.specs.Format.{ImageData}
use Rattle.swi_image.specs.Place.{place_of, word_at, length_at}
use Rattle.swi_render.specs.Rendering.{ebreak}
use Rattle.swi_render.specs.Carried.{GoesOn}
use Rattle.swi_rom.specs.Record.{Record, Transfer, target_of, direct, indirect, Placed}
use Rattle.swi_hart.specs.declared.hart.Stage.{Stage}
use Rattle.swi_hart.specs.declared.hart.Stage.TheVariants.{Start, Low, Return, Leave}
use Rattle.swi_hart.specs.declared.hart.Control.{Control}
use Rattle.swi_hart.specs.declared.hart.Control.TheVariants.{At, Outside}
use Rattle.swi_hart.specs.declared.hart.Role.{Role}
use Rattle.swi_hart.specs.declared.hart.Role.TheVariants.{Lead, Whole, Over}
use Rattle.swi_hart.specs.declared.hart.ExitKind.{ExitKind}
use Rattle.swi_hart.specs.declared.hart.ExitKind.TheVariants.{Direct, Misaligned, Trap, Indirect}
use Rattle.swi_calls.specs.StoresText.{text_store_of}
use Rattle.swi_calls.specs.Flat.{quiet}
use Rattle.swi_hart.specs.Hart.{HartData, Stepped, stepped, exit_kind, is_fall, first_role, role_of, original}

-- a direct exit under control
pub record LeaveAt (v : ImageData) (r : Record) (words : List ℕ) (w i b o : ℕ) : Type 0 where
  pub first : ℕ
  pub is_placed : Placed r b first
  pub index : i ≡ first + o
  pub inside : o + 1 < length_at v b
  pub known : b < length v.starts
  pub leaves : word_at v b o ≡ ebreak
  pub is_direct : word_at v b (o + 1) % 4 ≡ 0
  pub fetched : w ≡ slice_index words i

-- the ram after a call of the service that succeeded, with so many writes
pub record RamServed (span more : ℕ) (before after : RamState) : Type 0 where
  pub quiet : after.faults ≡ before.faults
  pub fetches_stay : after.fetches ≡ before.fetches
  pub fetched_at_stays : after.fetched_at ≡ before.fetched_at
  pub sets_rise : after.sets ≡ risen before.sets more
  pub kept : KeepsBeyond span before after

-- and after one that failed: nothing was asked of the ram behind the call of it that failed
pub record RamFailed (span : ℕ) (before after : RamState) : Type 0 where
  pub rose : Rose before.faults after.faults
  pub later : before.faults ≤ after.faults
  pub last_failed : after.last_failed ≡ true
  pub fetches_stay : after.fetches ≡ before.fetches
  pub fetched_at_stays : after.fetched_at ≡ before.fetched_at
  pub kept : KeepsBeyond span before after

-- the transfer that an exit makes
abbrev pub jump_transfer : Option Instr → Machine → Option Transfer
jump_transfer (Some (instr.Jalr rd rs1 imm)) m =
    if address_of m.regs rs1 imm / 2 * 2 % 4 == 0 then Some (indirect (address_of m.regs rs1 imm / 2 * 2)) else None
jump_transfer _ m = None

abbrev pub exit_transfer : ExitKind → ImageData → Machine → ℕ → ℕ → Option Transfer
exit_transfer Direct v m b o = Some (direct b o (word_at v b (o + 1)))
exit_transfer Misaligned v m b o = None
exit_transfer Trap v m b o = None
exit_transfer Indirect v m b o = jump_transfer (decoded (word_at v b (o + 1))) m

-- the transfer that the step under control makes
abbrev pub transfer_at : ImageData → Machine → Control → Option Transfer
transfer_at v m (At i b o stage) = if word_at v b o == ebreak then exit_transfer (exit_kind (word_at v b (o + 1))) v m b o else None
transfer_at v m Outside = None

abbrev pub moved : (Record → ImageData → Transfer → Record) → Record → ImageData → Option Transfer → Record
moved policy r v None = r
moved policy r v (Some t) = policy r v t

-- whether control went to the exit itself
abbrev pub is_back : Control → ℕ → ℕ → Bool
is_back (At i b o stage) b' o' = b == b' && o == o'
is_back Outside b' o' = false

-- whether an exit that was left for t is one behind a block's last text word, by whether control went to the exit itself
abbrev pub fell : Stage → ℕ → ℕ → Bool → Bool
fell Start pc t back = (t == pc) && not back
fell Low pc t back = false
fell Return pc t back = false
fell Leave pc t back = false

-- the role of a fetched word, by itself, and where it is a LUI by the original instruction
abbrev pub upper_quick : Stage → Option Instr → Role
upper_quick Start original = first_role original
upper_quick Low original = Whole
upper_quick Return original = Whole
upper_quick Leave original = Whole

abbrev pub return_quick : ImmOp → Role
return_quick Addi = Lead Leave
return_quick _ = Whole

abbrev pub immediate_quick : Stage → ImmOp → Role
immediate_quick Start op = Whole
immediate_quick Low op = Whole
immediate_quick Return op = return_quick op
immediate_quick Leave op = Whole

abbrev pub quick_role : Stage → Instr → Option Instr → Role
quick_role stage (instr.Lui rd imm) original = upper_quick stage original
quick_role stage (instr.Branch op rs1 rs2 off) original = Over
quick_role stage (instr.Alu op rd rs1 imm) original = immediate_quick stage op
quick_role stage _ original = Whole

-- the offset of a JAL, and else 0
abbrev pub offset_of : Option Instr → ℕ
offset_of (Some (instr.Jal rd off)) = off
offset_of _ = 0

-- words that are never executed as they stand in the ram
abbrev pub leaves : Instr → Bool
leaves (instr.Jal rd off) = true
leaves instr.Ebreak = true
leaves _ = false

-- the word of a JALR behind an exit
pub record JalrAt (v : ImageData) (b o : ℕ) : Type 0 where
  pub rd : ℕ
  pub rs1 : ℕ
  pub imm : ℕ
  pub is : decoded (word_at v b (o + 1)) ≡ Some (instr.Jalr rd rs1 imm)
  pub inside : o + 2 < length_at v b

-- an exit under control
pub record ExitHome (v : ImageData) (m : Machine) (b o : ℕ) (stage : Stage) : Type 0 where
  pub is_exit : word_at v b o ≡ ebreak
  pub inside : o + 1 < length_at v b
  pub jalr : exit_kind (word_at v b (o + 1)) ≡ Indirect → JalrAt v b o
  pub falls : is_fall v m b o stage ≡ true → word_at v b (o + 1) ≡ m.pc

-- another word under control
pub record WordHome (v : ImageData) (m : Machine) (b o : ℕ) (stage : Stage) : Type 0 where
  pub instruction : Instr
  pub is : decoded (word_at v b o) ≡ Some instruction
  pub inside : o < length_at v b
  pub stays : leaves instruction ≡ false
  pub role : quick_role stage instruction (original m) ≡ role_of stage (original m)
  pub no_exit : stage ≡ Leave → ⊥
  pub low : stage ≡ Low → text_store_of instruction m.regs m.bus ≡ None
  pub goes : instruction ≡ instr.Ecall → (stage ≡ Start) × GoesOn v (sum_of m.pc 4) b (o + 1)

-- what is known of the word under control
pub record Home (v : ImageData) (r : Record) (m : Machine) (i b o : ℕ) (stage : Stage) : Type 0 where
  pub first : ℕ
  pub is_placed : Placed r b first
  pub index : i ≡ first + o
  pub known : b < length v.starts
  pub kind : ExitHome v m b o stage ⊎ WordHome v m b o stage

-- the step that a hart has come by, where nothing was written and no input taken
abbrev pub step_to : HartData → List ℕ → Stepped
step_to h input = stepped h.control (quiet h.machine input)

-- one machine step more
pub record Counted (h h' : HartData) : Type 0 where
  pub count : h'.count ≡ h.count + 1
  pub failed : h'.failed ≡ h.failed
  pub booted : h'.booted ≡ h.booted

-- the direct exit under control, as `leave` needs it
pub record PlacedAt (r : Record) (i b o : ℕ) : Type 0 where
  pub first : ℕ
  pub is_placed : Placed r b first
  pub index : i ≡ first + o

-- a step that a device broke off: only that is told
abbrev pub broken : HartData → HartData
broken h = record h { failed = true }

-- the ram after a step: one fetch of the word under control, and behind it so many sets
abbrev pub fetches_after : Control → ℕ → ℕ
fetches_after (At i b o stage) n = counted n
fetches_after Outside n = n

-- the fetch of the word under control, behind so many sets, out of these words
abbrev pub fetch_under : Control → ℕ → List ℕ → List Fetch
fetch_under (At i b o stage) sets words = fetch i sets (slice_index words i) ∷ []
fetch_under Outside sets words = []

pub record RamStepped (span more : ℕ) (c : Control) (before after : RamState) : Type 0 where
  pub quiet : after.faults ≡ before.faults
  pub fetches : after.fetches ≡ fetches_after c before.fetches
  pub fetched_at : after.fetched_at ≡ fetch_under c before.sets before.words ++ before.fetched_at
  pub sets : after.sets ≡ risen before.sets more
  pub kept : KeepsBeyond span before after

-- there is a transfer, and its target has a place
abbrev pub HasPlace : ImageData → Option Transfer → Type 0
HasPlace v None = ⊥
HasPlace v (Some t) = place_of v (target_of t) ≡ None → ⊥

-- The ram after a step that it broke off. The fetch failed, and nothing more was done to it; or one was made, of the word under control, and
-- a set of the service failed, which serves no transfer whose target has no place.
pub record RamBroken (v : ImageData) (m : Machine) (c : Control) (span : ℕ) (before after : RamState) : Type 0 where
  pub inside : c ≡ Outside → ⊥
  pub rose : Rose before.faults after.faults
  pub later : before.faults ≤ after.faults
  -- no call of it comes behind the one that failed
  pub last_failed : after.last_failed ≡ true
  pub asked : (after ≡ record before { faults = after.faults; reach = after.reach; last_failed = true })
      ⊎ (((after.fetches ≡ counted before.fetches) × (after.fetched_at ≡ fetch_under c before.sets before.words ++ before.fetched_at)) × HasPlace v (transfer_at v m c))
  pub kept : KeepsBeyond span before after
