-- Micro-ops that go on at the next word alone: what they do is the same wherever their word stands.
use Rattle.std.proofs.Common.{◌≡◌, ℕ, ◌+◌, Bool, true, false, if◌then◌else◌, Some, None, List, refl}
use Rattle.swi_memory.specs.Bus.{AreaData}
use Rattle.swi_memory.specs.declared.word_range.WordRange.{WordRange}
use Rattle.swi_exec.specs.Registers.{Registers}
use Rattle.swi_micro.specs.declared.class.Class.{Class}
use Rattle.swi_micro.specs.declared.class.Class.TheVariants as class
use Rattle.swi_micro.specs.declared.translator.MicroOp.{MicroOp}
use Rattle.swi_micro.specs.Classes.{is_straight}
use Rattle.swi_micro.specs.Ran.{Ran, goes_to, leaves, ran_as}

-- a micro-op went on at the next word, and at another index of another range it does the same
pub record SameAt (next : ℕ) (k k' : ℕ) (here there : Ran) : Type 0 where
  pub on : next ≡ k + 1
  pub same : there ≡ goes_to (k' + 1) here.regs here.bus

same_next : (m n : ℕ) → Some m ≡ Some n → n ≡ m
same_next m n e = cc

on : (k k' next : ℕ) (regs : Registers) (bus : List AreaData) → (goes_to (k + 1) regs bus).next ≡ Some next → SameAt next k k' (goes_to (k + 1) regs bus) (goes_to (k' + 1) regs bus)
on k k' next regs bus goes = record { on = same_next (k + 1) next goes; same = refl }

-- a load or a store, which may be refused
may : (t : Bool) (k k' next : ℕ) (regs regs' : Registers) (bus bus' : List AreaData) → (if t then goes_to (k + 1) regs' bus' else leaves regs bus).next ≡ Some next →
    SameAt next k k' (if t then goes_to (k + 1) regs' bus' else leaves regs bus) (if t then goes_to (k' + 1) regs' bus' else leaves regs bus)
may true k k' next regs regs' bus bus' goes = on k k' next regs' bus' goes
may false k k' next regs regs' bus bus' goes = absurd (let never : None ≡ Some next = goes in cc)

-- a class that neither jumps, branches nor stops
pub else_straight : (c : Class) → (c ≡ class.Equal → ⊥) → (c ≡ class.Less → ⊥) → (c ≡ class.Below → ⊥) → (c ≡ class.Jal → ⊥) → (c ≡ class.Jalr → ⊥) → (c ≡ class.Stop → ⊥) → is_straight c ≡ true
else_straight class.Equal a b c d e f = absurd (a refl)
else_straight class.Less a b c d e f = absurd (b refl)
else_straight class.Below a b c d e f = absurd (c refl)
else_straight class.Jal a b c d e f = absurd (d refl)
else_straight class.Jalr a b c d e f = absurd (e refl)
else_straight class.Stop a b c d e f = absurd (f refl)
else_straight _ a b c d e f = refl

pub same_at : (c : Class) → is_straight c ≡ true → (range range' : WordRange) (m : MicroOp) (k k' next : ℕ) (regs : Registers) (bus : List AreaData) → (ran_as c range m k regs bus).next ≡ Some next →
    SameAt next k k' (ran_as c range m k regs bus) (ran_as c range' m k' regs bus)
same_at class.Add s range range' m k k' next regs bus goes = on k k' next _ bus goes
same_at class.Sub s range range' m k k' next regs bus goes = on k k' next _ bus goes
same_at class.And s range range' m k k' next regs bus goes = on k k' next _ bus goes
same_at class.Or s range range' m k k' next regs bus goes = on k k' next _ bus goes
same_at class.Xor s range range' m k k' next regs bus goes = on k k' next _ bus goes
same_at class.Sll s range range' m k k' next regs bus goes = on k k' next _ bus goes
same_at class.Srl s range range' m k k' next regs bus goes = on k k' next _ bus goes
same_at class.Sra s range range' m k k' next regs bus goes = on k k' next _ bus goes
same_at class.Slt s range range' m k k' next regs bus goes = on k k' next _ bus goes
same_at class.Sltu s range range' m k k' next regs bus goes = on k k' next _ bus goes
same_at class.Mul s range range' m k k' next regs bus goes = on k k' next _ bus goes
same_at class.MulDiv s range range' m k k' next regs bus goes = on k k' next _ bus goes
same_at class.Lui s range range' m k k' next regs bus goes = on k k' next _ bus goes
same_at class.Lw s range range' m k k' next regs bus goes = may _ k k' next regs _ bus bus goes
same_at class.Lbu s range range' m k k' next regs bus goes = may _ k k' next regs _ bus bus goes
same_at class.Lhu s range range' m k k' next regs bus goes = may _ k k' next regs _ bus bus goes
same_at class.Lh s range range' m k k' next regs bus goes = may _ k k' next regs _ bus bus goes
same_at class.Lb s range range' m k k' next regs bus goes = may _ k k' next regs _ bus bus goes
same_at class.Sw s range range' m k k' next regs bus goes = may _ k k' next regs regs bus _ goes
same_at class.Sb s range range' m k k' next regs bus goes = may _ k k' next regs regs bus _ goes
same_at class.Sh s range range' m k k' next regs bus goes = may _ k k' next regs regs bus _ goes
same_at class.Equal s range range' m k k' next regs bus goes = absurd (let never : false ≡ true = s in cc)
same_at class.Less s range range' m k k' next regs bus goes = absurd (let never : false ≡ true = s in cc)
same_at class.Below s range range' m k k' next regs bus goes = absurd (let never : false ≡ true = s in cc)
same_at class.Jal s range range' m k k' next regs bus goes = absurd (let never : false ≡ true = s in cc)
same_at class.Jalr s range range' m k k' next regs bus goes = absurd (let never : false ≡ true = s in cc)
same_at class.Stop s range range' m k k' next regs bus goes = absurd (let never : false ≡ true = s in cc)
