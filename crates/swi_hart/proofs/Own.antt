-- What words leave that are executed at their place in the ram, against the original instructions.
use Rattle.std.proofs.Common.{◌≡◌, ◌==◌, if◌then◌else◌, ℕ, ◌*◌, Bool, true, false, not, Option, Some, None, List, [], ◌∷◌, length, slice_index, slice_set, refl, sym, ◌∙◌, ap, inl, inr}
use Rattle.std.proofs.lemmas.Bool.{false≢true, cases_lt}
use Rattle.std.proofs.lemmas.List.{get_or-set_same, set_past}
use Rattle.swi_isa.specs.declared.instr.BranchOp.{BranchOp}
use Rattle.swi_isa.specs.declared.instr.BranchOp.TheVariants.{Beq, Bne, Blt, Bge, Bltu, Bgeu}
use Rattle.swi_isa.specs.declared.instr.AtomicOp.{AtomicOp}
use Rattle.swi_isa.specs.declared.instr.AtomicOp.TheVariants.{LrW, ScW}
use Rattle.swi_isa.specs.declared.instr.Instr.{Instr}
use Rattle.swi_isa.specs.declared.instr.Instr.TheVariants as instr
use Rattle.swi_isa.specs.Decode.{decoded}
use Rattle.swi_memory.specs.Bus.{AreaData, fetched, holds}
use Rattle.swi_memory.specs.declared.right.Right.TheVariants.{Read, Write}
use Rattle.swi_exec.specs.Arithmetic.{sum_of}
use Rattle.swi_exec.specs.Registers.{Registers, reg, with_reg}
use Rattle.swi_exec.specs.Execute.{Effect, executed, is_taken, lets_reserve, lets_store_word, lets_update, is_reserved, load_size, store_size, address_of, updates}
use Rattle.swi_exec.specs.declared.done.Done.{Done}
use Rattle.swi_exec.specs.declared.done.Done.TheVariants as done
use Rattle.swi_calls.specs.declared.machine.Machine.{Machine}
use Rattle.swi_calls.specs.Call.{CallEffect, called}
use Rattle.swi_calls.specs.StoresText.{text_store_of, word_store, instruction_store}
use Rattle.swi_calls.specs.Flat.{Made, made, after, with_call, past_call, with_effect, with_instruction, with_word as with_fetched}
use Rattle.swi_render.specs.Rendering.{opposite}
use Rattle.swi_calls.specs.Held.{held, held_made}
use Rattle.swi_hart.specs.Hart.{next_at, at_pc, whole_made}

-- whether the instruction is rendered as itself
abbrev pub is_own : Instr → Bool
is_own (instr.Auipc rd imm) = false
is_own (instr.Jal rd off) = false
is_own (instr.Jalr rd rs1 imm) = false
is_own (instr.Branch op rs1 rs2 off) = false
is_own instr.Ebreak = false
is_own _ = true

if_at : (t : Bool) (q : ℕ) (a b c d : Effect) → at_pc q a ≡ c → at_pc q b ≡ d → at_pc q (if t then a else b) ≡ (if t then c else d)
if_at true q a b c d x y = x
if_at false q a b c d x y = y

updates_same : (op : AtomicOp) (rd a k p q : ℕ) (regs : Registers) (bus : List AreaData) → at_pc (sum_of q 4) (updates op rd a k p regs bus) ≡ updates op rd a k q regs bus
updates_same op rd a k p q regs bus = if_at (lets_update bus a) (sum_of q 4) _ _ _ _ refl refl

atomic_same : (op : AtomicOp) (rd rs1 rs2 p q : ℕ) (regs : Registers) (bus : List AreaData) →
    at_pc (sum_of q 4) (executed (instr.Atomic op rd rs1 rs2) p regs bus) ≡ executed (instr.Atomic op rd rs1 rs2) q regs bus
atomic_same LrW rd rs1 rs2 p q regs bus = if_at (lets_reserve bus (reg regs rs1)) (sum_of q 4) _ _ _ _ refl refl
atomic_same ScW rd rs1 rs2 p q regs bus = if_at (lets_store_word bus (reg regs rs1)) (sum_of q 4) _ _ _ _ (if_at (is_reserved regs (reg regs rs1)) (sum_of q 4) _ _ _ _ refl refl) refl
atomic_same op rd rs1 rs2 p q regs bus = updates_same op rd (reg regs rs1) (reg regs rs2) p q regs bus

-- it leaves the same wherever it is executed, but for where it goes on
pub same_effect : (x : Instr) (p q : ℕ) (regs : Registers) (bus : List AreaData) → is_own x ≡ true → at_pc (sum_of q 4) (executed x p regs bus) ≡ executed x q regs bus
same_effect (instr.Auipc rd imm) p q regs bus own = absurd (false≢true own)
same_effect (instr.Jal rd off) p q regs bus own = absurd (false≢true own)
same_effect (instr.Jalr rd rs1 imm) p q regs bus own = absurd (false≢true own)
same_effect (instr.Branch op rs1 rs2 off) p q regs bus own = absurd (false≢true own)
same_effect instr.Ebreak p q regs bus own = absurd (false≢true own)
same_effect (instr.Load op rd rs1 imm) p q regs bus own = if_at (holds bus Read (address_of regs rs1 imm) (load_size op)) (sum_of q 4) _ _ _ _ refl refl
same_effect (instr.Store op rs1 rs2 imm) p q regs bus own = if_at (holds bus Write (address_of regs rs1 imm) (store_size op)) (sum_of q 4) _ _ _ _ refl refl
same_effect (instr.Atomic op rd rs1 rs2) p q regs bus own = atomic_same op rd rs1 rs2 p q regs bus
same_effect x p q regs bus own = refl

-- where the run goes on, it is at the next pc
pc_of_call : (m : Machine) (c : CallEffect) (x : Option ℕ) → (past_call (with_call m c) x).ending ≡ None → (past_call (with_call m c) x).pc ≡ sum_of m.pc 4
pc_of_call m c None on = refl
pc_of_call m c (Some code) on = cc

pc_after : (m : Machine) (d : Done) (input : List ℕ) → (after m (next_at (sum_of m.pc 4) d) input).machine.ending ≡ None → (after m (next_at (sum_of m.pc 4) d) input).machine.pc ≡ sum_of m.pc 4
pc_after m (done.Next p) input on = refl
pc_after m done.Call input on = pc_of_call m (called m.log m.regs m.bus m.heap input) (called m.log m.regs m.bus m.heap input).exited on
pc_after m done.Break input on = cc
pc_after m (done.Fault k a) input on = cc

held_pc : (m : Machine) (a : Option ℕ) (M : Made) (input : List ℕ) (pc : ℕ) → (M.machine.ending ≡ None → M.machine.pc ≡ pc) → (held m a M input).machine.ending ≡ None → (held m a M input).machine.pc ≡ pc
held_pc m None M input pc is on = is on
held_pc m (Some a) M input pc is on = cc

pub whole_pc : (i : ℕ) (m : Machine) (x : Instr) (input : List ℕ) → (whole_made i m x input).machine.ending ≡ None → (whole_made i m x input).machine.pc ≡ sum_of m.pc 4
whole_pc i m x input on =
    let e : Effect = executed x (4 * i) m.regs m.bus in
    held_pc m (text_store_of x m.regs m.bus) (with_effect m (at_pc (sum_of m.pc 4) e) input) input (sum_of m.pc 4)
    (pc_after (record m { regs = e.regs; bus = e.bus }) e.done input) on

-- the step of the flat machine, by the instruction at its pc
pub held_as : (f : Machine) (input : List ℕ) (w : ℕ) (x : Option Instr) → fetched f.bus f.pc ≡ Some w → decoded w ≡ x →
    held_made f input ≡ held f (instruction_store f x) (with_instruction f x input) input
unfolding made
held_as f input w x fetch is =
    ap (λ (k : Option ℕ). held f (word_store f k) (with_fetched f k input) input) fetch
    ∙ ap (λ (k : Option Instr). held f (instruction_store f k) (with_instruction f k input) input) is

pub held_none : (f : Machine) (input : List ℕ) → fetched f.bus f.pc ≡ None → held_made f input ≡ with_fetched f None input
unfolding made
held_none f input fetch = ap (λ (k : Option ℕ). held f (word_store f k) (with_fetched f k input) input) fetch

pub own_made : (f : Machine) (i : ℕ) (input : List ℕ) (w : ℕ) (x : Instr) → fetched f.bus f.pc ≡ Some w → decoded w ≡ Some x → is_own x ≡ true → whole_made i f x input ≡ held_made f input
own_made f i input w x fetch is own =
    ap (λ (e : Effect). held f (text_store_of x f.regs f.bus) (with_effect f e input) input) (same_effect x (4 * i) f.pc f.regs f.bus own)
    ∙ sym (held_as f input w (Some x) fetch is)

-- a register that is written twice
set_twice : (ws : List ℕ) (k a b : ℕ) → slice_set (slice_set ws k a) k b ≡ slice_set ws k b
set_twice [] k a b = refl
set_twice (w ∷ ws) ℕ.zero a b = refl
set_twice (w ∷ ws) (ℕ.suc k) a b = ap (λ (l : List ℕ). w ∷ l) (set_twice ws k a b)

add_low : (ws : List ℕ) (k upper lower v : ℕ) → sum_of upper lower ≡ v →
    slice_set (slice_set ws k upper) k (sum_of (slice_index (slice_set ws k upper) k) lower) ≡ slice_set ws k v
add_low ws k upper lower v sum =
    elim (cases_lt k (length ws)) [
      | inl below ↦
          let got : slice_index (slice_set ws k upper) k ≡ upper = get_or-set_same ws k upper 0 below in
          ap (λ n. slice_set (slice_set ws k upper) k (sum_of n lower)) got ∙ set_twice ws k upper (sum_of upper lower) ∙ ap (λ n. slice_set ws k n) sum
      | inr past ↦
          let all = λ (n : ℕ). set_past ws k n past in
          ap (λ (l : List ℕ). slice_set l k (sum_of (slice_index l k) lower)) (all upper) ∙ all (sum_of (slice_index ws k) lower) ∙ sym (all v)
    ]

low_by : (regs : Registers) (rd upper lower v : ℕ) (t : Bool) → t ≡ (rd == 0) → sum_of upper lower ≡ v →
    with_reg (with_reg regs rd upper) rd (sum_of (reg (with_reg regs rd upper) rd) lower) ≡ with_reg regs rd v
low_by regs rd upper lower v true e sum = rw (← e) refl
low_by regs rd upper lower v false e sum = rw (← e) (ap (λ (l : List ℕ). record regs { words = l }) (add_low regs.words rd upper lower v sum))

-- LUI and ADDI put the sum into rd
pub low_done : (regs : Registers) (rd upper lower v : ℕ) → sum_of upper lower ≡ v →
    with_reg (with_reg regs rd upper) rd (sum_of (reg (with_reg regs rd upper) rd) lower) ≡ with_reg regs rd v
low_done regs rd upper lower v sum = low_by regs rd upper lower v (rd == 0) refl sum

not_not : (t : Bool) → not (not t) ≡ t
not_not true = refl
not_not false = refl

pub opposite_taken : (op : BranchOp) (a b : ℕ) → is_taken (opposite op) a b ≡ not (is_taken op a b)
opposite_taken Beq a b = refl
opposite_taken Bne a b = sym (not_not (a == b))
opposite_taken Blt a b = refl
opposite_taken Bge a b = sym (not_not _)
opposite_taken Bltu a b = refl
opposite_taken Bgeu a b = sym (not_not _)
