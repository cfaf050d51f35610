-- The step of a system call.
use Rattle.std.proofs.Common.{◌≡◌, refl, sym, subst, ℕ, Bool, true, false, if◌then◌else◌, List, ◌%◌, ◌/◌, ◌*◌, ◌==◌, Result}
use Rattle.swi_isa.specs.declared.instr.AtomicOp.{AtomicOp}
use Rattle.swi_isa.specs.declared.instr.AtomicOp.TheVariants.{LrW, ScW}
use Rattle.swi_isa.specs.declared.instr.Instr.{Instr}
use Rattle.swi_isa.specs.declared.instr.Instr.TheVariants as instr
use Rattle.swi_memory.specs.Bus.{AreaData, holds}
use Rattle.swi_memory.specs.declared.right.Right.TheVariants.{Read, Write}
use Rattle.swi_exec.specs.Arithmetic.{sum_of}
use Rattle.swi_exec.specs.Registers.{Registers, reg, with_reg}
use Rattle.swi_exec.specs.Execute.{Effect, executed, is_taken, lets_reserve, lets_store_word, lets_update, is_reserved, load_size, store_size, address_of, updates, jumps}
use Rattle.swi_exec.specs.declared.done.Done.TheVariants as done
use Rattle.swi_outside.specs.Devices.{Devices}
use Rattle.swi_calls.specs.declared.end.CallFault.{CallFault}
use Rattle.swi_hart.specs.declared.hart.Stage.{Stage}
use Rattle.swi_hart.specs.Hart.{HartData, Stepped, call_stepped}
use Rattle.swi_hart.specs.Calling.{WordExecuted}

if_no_call : (t : Bool) (a b : Effect) → (a.done ≡ done.Call → ⊥) → (b.done ≡ done.Call → ⊥) → (if t then a else b).done ≡ done.Call → ⊥
if_no_call true a b x y = x
if_no_call false a b x y = y

jumps_no_call : (t : ℕ) (old new : Registers) (bus : List AreaData) → (jumps t old new bus).done ≡ done.Call → ⊥
jumps_no_call t old new bus = if_no_call (t % 4 == 0) _ _ (λ e. cc) (λ e. cc)

updates_no_call : (op : AtomicOp) (rd a k p : ℕ) (regs : Registers) (bus : List AreaData) → (updates op rd a k p regs bus).done ≡ done.Call → ⊥
updates_no_call op rd a k p regs bus = if_no_call (lets_update bus a) _ _ (λ e. cc) (λ e. cc)

atomic_no_call : (op : AtomicOp) (rd rs1 rs2 p : ℕ) (regs : Registers) (bus : List AreaData) → (executed (instr.Atomic op rd rs1 rs2) p regs bus).done ≡ done.Call → ⊥
atomic_no_call LrW rd rs1 rs2 p regs bus = if_no_call (lets_reserve bus (reg regs rs1)) _ _ (λ e. cc) (λ e. cc)
atomic_no_call ScW rd rs1 rs2 p regs bus = if_no_call (lets_store_word bus (reg regs rs1)) _ _ (if_no_call (is_reserved regs (reg regs rs1)) _ _ (λ e. cc) (λ e. cc)) (λ e. cc)
atomic_no_call op rd rs1 rs2 p regs bus = updates_no_call op rd (reg regs rs1) (reg regs rs2) p regs bus

-- only ECALL asks for a system call
pub call_is : (x : Instr) (p : ℕ) (regs : Registers) (bus : List AreaData) → (executed x p regs bus).done ≡ done.Call → x ≡ instr.Ecall
call_is (instr.Jal rd off) p regs bus e = absurd (jumps_no_call (sum_of p off) regs (with_reg regs rd (sum_of p 4)) bus e)
call_is (instr.Jalr rd rs1 imm) p regs bus e = absurd (jumps_no_call (address_of regs rs1 imm / 2 * 2) regs (with_reg regs rd (sum_of p 4)) bus e)
call_is (instr.Branch op rs1 rs2 off) p regs bus e = absurd (if_no_call (is_taken op (reg regs rs1) (reg regs rs2)) _ _ (jumps_no_call (sum_of p off) regs regs bus) (λ e. cc) e)
call_is (instr.Load op rd rs1 imm) p regs bus e = absurd (if_no_call (holds bus Read (address_of regs rs1 imm) (load_size op)) _ _ (λ e. cc) (λ e. cc) e)
call_is (instr.Store op rs1 rs2 imm) p regs bus e = absurd (if_no_call (holds bus Write (address_of regs rs1 imm) (store_size op)) _ _ (λ e. cc) (λ e. cc) e)
call_is (instr.Atomic op rd rs1 rs2) p regs bus e = absurd (atomic_no_call op rd rs1 rs2 p regs bus e)
call_is instr.Ecall p regs bus e = refl
call_is x p regs bus e = cc

-- a word that makes a call leaves what the call does
pub call_is_word : {T : Type 0} (word : List ℕ → Stepped) (i b o : ℕ) (stage : Stage) (h first h' : HartData) (before after : Devices) (result : Result T CallFault) → first ≡ h →
    ((input : List ℕ) → word input ≡ call_stepped i b o stage h.machine input) → WordExecuted (λ left. call_stepped i b o stage first.machine left) first h' before after result →
    WordExecuted word h h' before after result
call_is_word {T} word i b o stage h first h' before after result is same done =
    subst (λ (f : List ℕ → Stepped). WordExecuted {T = T} f h h' before after result) (λ j left. sym (same left) j)
    (subst (λ (q : HartData). WordExecuted {T = T} (λ left. call_stepped i b o stage q.machine left) q h' before after result) is done)
