-- Laws of instructions that store: where they go on, and what one that stores into the text leaves of what is fetched.
use Rattle.std.proofs.Common.{◌≡◌, ◌⊎◌, ℕ, ◌+◌, ◌≤◌, Bool, true, false, if◌then◌else◌, Some, None, List, arith, refl, inl, inr}
use Rattle.swi_isa.specs.declared.instr.AtomicOp.{AtomicOp}
use Rattle.swi_isa.specs.declared.instr.AtomicOp.TheVariants.{LrW, ScW}
use Rattle.swi_isa.specs.declared.instr.StoreOp.{StoreOp}
use Rattle.swi_isa.specs.declared.instr.StoreOp.TheVariants.{Sb, Sh, Sw}
use Rattle.swi_isa.specs.declared.instr.Instr.{Instr}
use Rattle.swi_isa.specs.declared.instr.Instr.TheVariants as instr
use Rattle.swi_memory.specs.declared.right.Right.TheVariants.{Write}
use Rattle.swi_memory.specs.Bus.{AreaData, fetched, holds, lowest, number_at, stored, touches_text}
use Rattle.swi_memory.specs.Laws.{fetched_beside, length-lowest}
use Rattle.swi_exec.specs.declared.done.Done.TheVariants as done
use Rattle.swi_exec.specs.declared.done.FaultKind.{FaultKind}
use Rattle.swi_exec.specs.declared.done.FaultKind.TheVariants.{LoadAccess, StoreAccess}
use Rattle.swi_exec.specs.Arithmetic.{sum_of}
use Rattle.swi_exec.specs.Execute.{Effect, faults, goes_on, lets_reserve, address_of, atomic_effect, atomic_word, executed, is_reserved, lets_store_word, lets_update, store_size}
use Rattle.swi_exec.specs.Registers.{Registers, reg}
use Rattle.swi_exec.specs.StoresText.{atomic_into_text, into_text, text_access_of}

-- where a store into the text begins
begins : (bus : List AreaData) (may : Bool) (a n first : ℕ) → into_text bus may a n ≡ Some first → a ≡ first
begins bus false a n first is = absurd (cc)
begins bus true a n first is = of_test (touches_text bus a n) is where
  of_test : (touches : Bool) → (if touches then Some a else None) ≡ Some first → a ≡ first
  of_test true e = cc
  of_test false e = absurd (cc)

small_store : (op : StoreOp) → store_size op ≤ 4
small_store Sb = omega arith
small_store Sh = omega arith
small_store Sw = omega arith

-- of two effects, the one that a test gives
either : (x : ℕ) (bus : List AreaData) (t : Bool) (e f : Effect) → fetched e.bus x ≡ fetched bus x → fetched f.bus x ≡ fetched bus x → fetched (if t then e else f).bus x ≡ fetched bus x
either x bus true e f p q = p
either x bus false e f p q = q

module _ (regs : Registers) (bus : List AreaData) (a x : ℕ) (beside : (x + 4 ≤ a) ⊎ (a + 4 ≤ x)) where
  -- a store of at most 4 bytes
  stored_beside : (first n v : ℕ) → first ≡ a → n ≤ 4 → fetched (stored bus first n v) x ≡ fetched bus x
  stored_beside first n v is small =
      fetched_beside bus first (lowest n v) x (elim beside [
        | inl below ↦ inl (omega (arith, below, is))
        | inr above ↦ inr (omega (arith, above, is, small, length-lowest n v))
      ])

  atomic_beside : (op : AtomicOp) (rd first v pc : ℕ) → atomic_into_text op first regs bus ≡ Some a → fetched (atomic_effect op rd first v pc regs bus).bus x ≡ fetched bus x
  atomic_beside LrW rd first v pc is = absurd (cc)
  atomic_beside ScW rd first v pc is =
      either x bus (lets_store_word bus first) _ _
      (either x bus (is_reserved regs first) _ _ (stored_beside first 4 v (begins bus _ first 4 a is) (omega arith)) refl)
      refl
  atomic_beside op rd first v pc is =
      either x bus (lets_update bus first) _ _ (stored_beside first 4 (atomic_word op (number_at bus first 4) v) (begins bus _ first 4 a is) (omega arith)) refl

  beside_store : (i : Instr) (pc : ℕ) → text_access_of i regs bus ≡ Some a → fetched (executed i pc regs bus).bus x ≡ fetched bus x
  beside_store (instr.Store op rs1 rs2 imm) pc is =
      either x bus (holds bus Write (address_of regs rs1 imm) (store_size op)) _ _
      (stored_beside (address_of regs rs1 imm) (store_size op) (reg regs rs2) (begins bus _ (address_of regs rs1 imm) (store_size op) a is) (small_store op))
      refl
  beside_store (instr.Atomic op rd rs1 rs2) pc is = atomic_beside op rd (reg regs rs1) (reg regs rs2) pc is
  beside_store i pc is = absurd (cc)

-- an instruction that stores into the text leaves each word of which none of the four bytes from the store's address on is
pub executed_beside : (i : Instr) (pc : ℕ) (regs : Registers) (bus : List AreaData) (a : ℕ) → text_access_of i regs bus ≡ Some a →
    (x : ℕ) → (x + 4 ≤ a) ⊎ (a + 4 ≤ x) → fetched (executed i pc regs bus).bus x ≡ fetched bus x
executed_beside i pc regs bus a is x beside = beside_store regs bus a x beside i pc is

-- a store or an atomic instruction
abbrev pub IsStore : Instr → Type 0
IsStore (instr.Store op rs1 rs2 imm) = Unit {0}
IsStore (instr.Atomic op rd rs1 rs2) = Unit {0}
IsStore _ = ⊥

module _ (pc next : ℕ) where
  goes_or_faults : (regs regs' : Registers) (bus bus' : List AreaData) (kind : FaultKind) (a : ℕ) (t : Bool) → (if t then goes_on pc regs bus else faults kind a regs' bus').done ≡ done.Next next → next ≡ sum_of pc 4
  goes_or_faults regs regs' bus bus' kind a true is = cc
  goes_or_faults regs regs' bus bus' kind a false is = absurd (cc)

  conditional_next : (regs regs' regs'' : Registers) (bus bus' bus'' : List AreaData) (kind : FaultKind) (a : ℕ) (may reserved : Bool) →
      (if may then (if reserved then goes_on pc regs bus else goes_on pc regs' bus') else faults kind a regs'' bus'').done ≡ done.Next next → next ≡ sum_of pc 4
  conditional_next regs regs' regs'' bus bus' bus'' kind a true true is = cc
  conditional_next regs regs' regs'' bus bus' bus'' kind a true false is = cc
  conditional_next regs regs' regs'' bus bus' bus'' kind a false reserved is = absurd (cc)

  atomic_next : (op : AtomicOp) (rd a v : ℕ) (regs : Registers) (bus : List AreaData) → (atomic_effect op rd a v pc regs bus).done ≡ done.Next next → next ≡ sum_of pc 4
  atomic_next LrW rd a v regs bus is = goes_or_faults _ regs bus bus LoadAccess a (lets_reserve bus a) is
  atomic_next ScW rd a v regs bus is = conditional_next _ _ regs _ bus bus StoreAccess a (lets_store_word bus a) (is_reserved regs a) is
  atomic_next op rd a v regs bus is = goes_or_faults _ regs _ bus StoreAccess a (lets_update bus a) is

-- where it goes on, it does so at the next word
pub store_next : (i : Instr) (pc : ℕ) (regs : Registers) (bus : List AreaData) (next : ℕ) → IsStore i → (executed i pc regs bus).done ≡ done.Next next → next ≡ sum_of pc 4
store_next (instr.Store op rs1 rs2 imm) pc regs bus next stores is = goes_or_faults pc next regs regs _ bus StoreAccess (address_of regs rs1 imm) (holds bus Write (address_of regs rs1 imm) (store_size op)) is
store_next (instr.Atomic op rd rs1 rs2) pc regs bus next stores is = atomic_next pc next op rd (reg regs rs1) (reg regs rs2) regs bus is
store_next i pc regs bus next stores is = absurd stores
