-- Steps by micro-ops, by what their instructions are, as far as gates let them go on.
use Rattle.std.proofs.Common.{◌≡◌, ◌==◌, ◌&&◌, ℕ, suc, ◌+◌, ◌-◌, ◌*◌, ◌/◌, ◌^◌, ◌<◌, ◌≤◌, Bool, true, false, not, List, length, get_or, slice_get, Option, Some, None, IfSome, arith, if◌then◌else◌, refl, sym, ap, subst, ◌∙◌, inl, inr}
use Rattle.std.proofs.lemmas.Bool.{cases_lt}
use Rattle.swi_isa.specs.Decode.{decoded}
use Rattle.swi_isa.specs.declared.instr.BranchOp.{BranchOp}
use Rattle.swi_isa.specs.declared.instr.BranchOp.TheVariants.{Beq, Bne, Blt, Bge, Bltu, Bgeu}
use Rattle.swi_isa.specs.declared.instr.ImmOp.{ImmOp}
use Rattle.swi_isa.specs.declared.instr.ImmOp.TheVariants.{Addi}
use Rattle.swi_isa.specs.declared.instr.Instr.{Instr}
use Rattle.swi_isa.specs.declared.instr.Instr.TheVariants as instr
use Rattle.swi_isa.specs.declared.instr.LoadOp.{LoadOp}
use Rattle.swi_isa.specs.declared.instr.LoadOp.TheVariants.{Lb}
use Rattle.swi_isa.specs.declared.instr.RegOp.{RegOp}
use Rattle.swi_isa.specs.declared.instr.RegOp.TheVariants.{Add}
use Rattle.swi_isa.specs.declared.instr.StoreOp.{StoreOp}
use Rattle.swi_isa.specs.declared.instr.StoreOp.TheVariants.{Sb, Sh, Sw}
use Rattle.swi_memory.specs.Bus.{AreaData, fetched, holds, lets_store, touches_text}
use Rattle.swi_memory.specs.declared.right.Right.TheVariants.{Write}
use Rattle.swi_memory.specs.declared.word_range.WordRange.{WordRange}
use Rattle.swi_memory.specs.WordRange.{IsWordRange}
use Rattle.swi_exec.specs.Arithmetic.{sum_of}
use Rattle.swi_exec.specs.Execute.{address_of, is_taken, store_size}
use Rattle.swi_exec.specs.Registers.{Registers, reg}
use Rattle.swi_calls.specs.StoresText.{text_store_of}
use Rattle.swi_calls.specs.declared.machine.Machine.{Machine}
use Rattle.swi_micro.specs.declared.class.Class.{Class}
use Rattle.swi_micro.specs.declared.class.Class.TheVariants as class
use Rattle.swi_micro.specs.declared.translator.MicroOp.{MicroOp}
use Rattle.swi_micro.specs.Classes.{class_of, code_of, is_straight}
use Rattle.swi_micro.specs.Decoded.{AreDecoded, IsOpOf}
use Rattle.swi_micro.specs.MicroOp.{address_at, branch_op, branch_or_stop, class_of_imm, class_of_load, class_of_op, class_of_store, index_at, jump_or_stop, made_op, micro_op_of, stop_op}
use Rattle.swi_micro.specs.Ran.{goes_to, leaves, ran, ran_as}
use Rattle.swi_micro.specs.Ran.{jumps as jumps_to}
use Rattle.swi_micro.proofs.Agreeing.{Agrees, agrees}
use Rattle.swi_micro.proofs.Sums.{Target, target}
use Rattle.swi_flat.specs.Coasted.{At, Coasts, Gates, GoesOn, StepsAt, StepsOn, is_open, is_taken_branch, is_taken_by, jumps, onward, over, toll, toll_by}
use Rattle.swi_flat.specs.declared.coast.Gate.{Gate}
use Rattle.swi_flat.proofs.Stepping.{executes}

-- ---- a micro-op that goes to the next word, if it goes on

pub straight_toll : (c : Class) (stops free : Bool) (m : MicroOp) (regs : Registers) → is_straight c ≡ true → toll_by c stops free m regs ≡ Some 0
straight_toll class.Equal stops free m regs e = absurd (let never : false ≡ true = e in cc)
straight_toll class.Less stops free m regs e = absurd (let never : false ≡ true = e in cc)
straight_toll class.Below stops free m regs e = absurd (let never : false ≡ true = e in cc)
straight_toll class.Jal stops free m regs e = absurd (let never : false ≡ true = e in cc)
straight_toll class.Jalr stops free m regs e = absurd (let never : false ≡ true = e in cc)
straight_toll class.Stop stops free m regs e = absurd (let never : false ≡ true = e in cc)
straight_toll _ stops free m regs e = refl

straight_untaken : (c : Class) (m : MicroOp) (regs : Registers) → is_straight c ≡ true → is_taken_by c m regs ≡ false
straight_untaken class.Equal m regs e = absurd (let never : false ≡ true = e in cc)
straight_untaken class.Less m regs e = absurd (let never : false ≡ true = e in cc)
straight_untaken class.Below m regs e = absurd (let never : false ≡ true = e in cc)
straight_untaken _ m regs e = refl

by_imm : (o : ImmOp) → is_straight (class_of (code_of (class_of_imm o))) ≡ true
by_imm Addi = refl
by_imm _ = refl

by_op : (o : RegOp) → is_straight (class_of (code_of (class_of_op o))) ≡ true
by_op Add = refl
by_op _ = refl

by_load : (o : LoadOp) → is_straight (class_of (code_of (class_of_load o))) ≡ true
by_load Lb = refl
by_load _ = refl

by_store : (o : StoreOp) → is_straight (class_of (code_of (class_of_store o))) ≡ true
by_store Sb = refl
by_store Sh = refl
by_store Sw = refl

-- ---- what a micro-op pays, and whether it is a branch that is taken

abbrev tolled : MicroOp → Bool → Bool → Registers → Option ℕ
tolled m stops free regs = toll_by (class_of m.code) stops free m regs

abbrev taken_of : MicroOp → Registers → Bool
taken_of m regs = is_taken_by (class_of m.code) m regs

never_some : {A : Type 0} (n : ℕ) → None ≡ Some n → A
never_some n e = absurd cc

jump_toll : (rd : ℕ) (o : Option ℕ) (stops free : Bool) (regs : Registers) (n : ℕ) → tolled (jump_or_stop rd o) stops free regs ≡ Some n → over free (if rd == 0 then 0 else 2) ≡ Some n
jump_toll rd None stops free regs n e = never_some n e
jump_toll rd (Some k) stops free regs n e = e

branch_toll : (op : BranchOp) (rs1 rs2 k : ℕ) (stops free : Bool) (regs : Registers) → tolled (branch_op op rs1 rs2 k) stops free regs ≡ (if is_taken op (reg regs rs1) (reg regs rs2) then over free 1 else onward stops)
branch_toll Beq rs1 rs2 k stops free regs = refl
branch_toll Bne rs1 rs2 k stops free regs = refl
branch_toll Blt rs1 rs2 k stops free regs = refl
branch_toll Bge rs1 rs2 k stops free regs = refl
branch_toll Bltu rs1 rs2 k stops free regs = refl
branch_toll Bgeu rs1 rs2 k stops free regs = refl

branches_toll : (op : BranchOp) (rs1 rs2 : ℕ) (o : Option ℕ) (stops free : Bool) (regs : Registers) (n : ℕ) → tolled (branch_or_stop op rs1 rs2 o) stops free regs ≡ Some n →
    (if is_taken op (reg regs rs1) (reg regs rs2) then over free 1 else onward stops) ≡ Some n
branches_toll op rs1 rs2 None stops free regs n e = never_some n e
branches_toll op rs1 rs2 (Some k) stops free regs n e = sym (branch_toll op rs1 rs2 k stops free regs) ∙ e

op_toll : (range : WordRange) (k : ℕ) (i : Instr) (stops free : Bool) (regs : Registers) (n : ℕ) → tolled (micro_op_of range k i) stops free regs ≡ Some n → toll i stops free regs ≡ Some n
op_toll range k (instr.Lui rd imm) stops free regs n e = e
op_toll range k (instr.Auipc rd imm) stops free regs n e = e
op_toll range k (instr.Jal rd off) stops free regs n e = jump_toll rd (index_at range (sum_of (address_at range k) off)) stops free regs n e
op_toll range k (instr.Jalr rd rs1 imm) stops free regs n e = never_some n e
op_toll range k (instr.Branch op rs1 rs2 off) stops free regs n e = branches_toll op rs1 rs2 (index_at range (sum_of (address_at range k) off)) stops free regs n e
op_toll range k (instr.Load op rd rs1 imm) stops free regs n e = sym (straight_toll (class_of (code_of (class_of_load op))) stops free (micro_op_of range k (instr.Load op rd rs1 imm)) regs (by_load op)) ∙ e
op_toll range k (instr.Store op rs1 rs2 imm) stops free regs n e = sym (straight_toll (class_of (code_of (class_of_store op))) stops free (micro_op_of range k (instr.Store op rs1 rs2 imm)) regs (by_store op)) ∙ e
op_toll range k (instr.Alu op rd rs1 imm) stops free regs n e = sym (straight_toll (class_of (code_of (class_of_imm op))) stops free (micro_op_of range k (instr.Alu op rd rs1 imm)) regs (by_imm op)) ∙ e
op_toll range k (instr.Op op rd rs1 rs2) stops free regs n e = sym (straight_toll (class_of (code_of (class_of_op op))) stops free (micro_op_of range k (instr.Op op rd rs1 rs2)) regs (by_op op)) ∙ e
op_toll range k (instr.Atomic op rd rs1 rs2) stops free regs n e = never_some n e
op_toll range k instr.Fence stops free regs n e = e
op_toll range k instr.Ecall stops free regs n e = never_some n e
op_toll range k instr.Ebreak stops free regs n e = never_some n e

by_jump : (rd : ℕ) (o : Option ℕ) (regs : Registers) → taken_of (jump_or_stop rd o) regs ≡ false
by_jump rd None regs = refl
by_jump rd (Some k) regs = refl

branch_taken : (o : BranchOp) (rs1 rs2 k : ℕ) (regs : Registers) → taken_of (branch_op o rs1 rs2 k) regs ≡ is_taken o (reg regs rs1) (reg regs rs2)
branch_taken Beq rs1 rs2 k regs = refl
branch_taken Bne rs1 rs2 k regs = refl
branch_taken Blt rs1 rs2 k regs = refl
branch_taken Bge rs1 rs2 k regs = refl
branch_taken Bltu rs1 rs2 k regs = refl
branch_taken Bgeu rs1 rs2 k regs = refl

-- a micro-op goes on
abbrev Goes : WordRange → ℕ → MicroOp → Registers → List AreaData → ℕ → Type 0
Goes range k m regs bus next = (ran range m k regs bus).next ≡ Some next

branches_taken : (range : WordRange) (k : ℕ) (op : BranchOp) (rs1 rs2 : ℕ) (o : Option ℕ) (regs : Registers) (bus : List AreaData) (next : ℕ) → Goes range k (branch_or_stop op rs1 rs2 o) regs bus next →
    taken_of (branch_or_stop op rs1 rs2 o) regs ≡ is_taken op (reg regs rs1) (reg regs rs2)
branches_taken range k op rs1 rs2 None regs bus next goes = never_some next goes
branches_taken range k op rs1 rs2 (Some j) regs bus next goes = branch_taken op rs1 rs2 j regs

taken_is : (range : WordRange) (k : ℕ) (regs : Registers) (bus : List AreaData) (next : ℕ) (i : Instr) → Goes range k (micro_op_of range k i) regs bus next → taken_of (micro_op_of range k i) regs ≡ is_taken_branch i regs
taken_is range k regs bus next (instr.Lui rd imm) goes = refl
taken_is range k regs bus next (instr.Auipc rd imm) goes = refl
taken_is range k regs bus next (instr.Jal rd off) goes = by_jump rd (index_at range (sum_of (address_at range k) off)) regs
taken_is range k regs bus next (instr.Jalr rd rs1 imm) goes = refl
taken_is range k regs bus next (instr.Branch op rs1 rs2 off) goes = branches_taken range k op rs1 rs2 (index_at range (sum_of (address_at range k) off)) regs bus next goes
taken_is range k regs bus next (instr.Load op rd rs1 imm) goes = straight_untaken (class_of (code_of (class_of_load op))) (micro_op_of range k (instr.Load op rd rs1 imm)) regs (by_load op)
taken_is range k regs bus next (instr.Store op rs1 rs2 imm) goes = straight_untaken (class_of (code_of (class_of_store op))) (micro_op_of range k (instr.Store op rs1 rs2 imm)) regs (by_store op)
taken_is range k regs bus next (instr.Alu op rd rs1 imm) goes = straight_untaken (class_of (code_of (class_of_imm op))) (micro_op_of range k (instr.Alu op rd rs1 imm)) regs (by_imm op)
taken_is range k regs bus next (instr.Op op rd rs1 rs2) goes = straight_untaken (class_of (code_of (class_of_op op))) (micro_op_of range k (instr.Op op rd rs1 rs2)) regs (by_op op)
taken_is range k regs bus next (instr.Atomic op rd rs1 rs2) goes = refl
taken_is range k regs bus next instr.Fence goes = refl
taken_is range k regs bus next instr.Ecall goes = refl
taken_is range k regs bus next instr.Ebreak goes = refl

-- ---- a jump lands at a word of the range

some_same : (m n : ℕ) → ◌≡◌ {A = Option ℕ} (Some m) (Some n) → m ≡ n
some_same m n e = cc

lands_at : (range : WordRange) (a j next : ℕ) → IsWordRange range → a < 2 ^ 32 → index_at range a ≡ Some j → j ≡ next → next < range.words
lands_at range a j next whole small at same = let t : Target range a j = target range a j whole small at in omega (arith, t.within, same)

jal_lands : (range : WordRange) (k rd a : ℕ) (regs : Registers) (bus : List AreaData) (next : ℕ) (o : Option ℕ) → IsWordRange range → a < 2 ^ 32 → index_at range a ≡ o → Goes range k (jump_or_stop rd o) regs bus next → next < range.words
jal_lands range k rd a regs bus next None whole small at goes = never_some next goes
jal_lands range k rd a regs bus next (Some j) whole small at goes = lands_at range a j next whole small at (some_same j next goes)

jalr_lands : (range : WordRange) (k : ℕ) (m : MicroOp) (a : ℕ) (regs : Registers) (bus : List AreaData) (next : ℕ) (o : Option ℕ) → IsWordRange range → a < 2 ^ 32 → index_at range a ≡ o → (jumps_to range m k regs bus o).next ≡ Some next → next < range.words
jalr_lands range k m a regs bus next None whole small at goes = never_some next goes
jalr_lands range k m a regs bus next (Some j) whole small at goes = lands_at range a j next whole small at (some_same j next goes)

branch_goes : (range : WordRange) (k : ℕ) (op : BranchOp) (rs1 rs2 j : ℕ) (regs : Registers) (bus : List AreaData) → (ran range (branch_op op rs1 rs2 j) k regs bus).next ≡ Some (if is_taken op (reg regs rs1) (reg regs rs2) then j else k + 1)
branch_goes range k Beq rs1 rs2 j regs bus = refl
branch_goes range k Bne rs1 rs2 j regs bus = refl
branch_goes range k Blt rs1 rs2 j regs bus = refl
branch_goes range k Bge rs1 rs2 j regs bus = refl
branch_goes range k Bltu rs1 rs2 j regs bus = refl
branch_goes range k Bgeu rs1 rs2 j regs bus = refl

branch_lands : (range : WordRange) (k : ℕ) (op : BranchOp) (rs1 rs2 a : ℕ) (regs : Registers) (bus : List AreaData) (next : ℕ) (o : Option ℕ) → IsWordRange range → a < 2 ^ 32 → index_at range a ≡ o →
    Goes range k (branch_or_stop op rs1 rs2 o) regs bus next → is_taken op (reg regs rs1) (reg regs rs2) ≡ true → next < range.words
branch_lands range k op rs1 rs2 a regs bus next None whole small at goes taken = never_some next goes
branch_lands range k op rs1 rs2 a regs bus next (Some j) whole small at goes taken =
    lands_at range a j next whole small at
    (some_same j next (sym (ap (λ (b : Bool). Some (if b then j else k + 1)) taken) ∙ sym (branch_goes range k op rs1 rs2 j regs bus) ∙ goes))

off_true : {A : Type 0} → false ≡ true → A
off_true e = absurd cc

jump_lands : (range : WordRange) (k : ℕ) (regs : Registers) (bus : List AreaData) (next : ℕ) (i : Instr) → IsWordRange range → Goes range k (micro_op_of range k i) regs bus next → jumps i regs ≡ true → next < range.words
jump_lands range k regs bus next (instr.Jal rd off) whole goes j = jal_lands range k rd (sum_of (address_at range k) off) regs bus next (index_at range (sum_of (address_at range k) off)) whole (omega arith) refl goes
jump_lands range k regs bus next (instr.Jalr rd rs1 imm) whole goes j =
    jalr_lands range k (micro_op_of range k (instr.Jalr rd rs1 imm)) (address_of regs rs1 imm / 2 * 2) regs bus next (index_at range (address_of regs rs1 imm / 2 * 2)) whole (omega arith) refl goes
jump_lands range k regs bus next (instr.Branch op rs1 rs2 off) whole goes j =
    branch_lands range k op rs1 rs2 (sum_of (address_at range k) off) regs bus next (index_at range (sum_of (address_at range k) off)) whole (omega arith) refl goes j
jump_lands range k regs bus next _ whole goes j = off_true j

-- ---- a step by a micro-op stores beside the text

made_true : (t : Bool) (k next : ℕ) (regs regs' : Registers) (bus bus' : List AreaData) → (if t then goes_to k regs bus else leaves regs' bus').next ≡ Some next → t ≡ true
made_true true k next regs regs' bus bus' goes = refl
made_true false k next regs regs' bus bus' goes = never_some next goes

not_into : (may touches : Bool) (a : ℕ) → (may && not touches) ≡ true → (if may && touches then Some a else None) ≡ None
not_into true true a e = off_true e
not_into true false a e = refl
not_into false touches a e = refl

module _ (range : WordRange) (k next : ℕ) (regs : Registers) (bus : List AreaData) where
  store_may : (op : StoreOp) (rs1 rs2 imm : ℕ) → Goes range k (made_op (class_of_store op) 0 rs1 rs2 imm) regs bus next → lets_store bus (address_of regs rs1 imm) (store_size op) ≡ true
  store_may Sb rs1 rs2 imm goes = made_true _ (k + 1) next regs regs _ bus goes
  store_may Sh rs1 rs2 imm goes = made_true _ (k + 1) next regs regs _ bus goes
  store_may Sw rs1 rs2 imm goes = made_true _ (k + 1) next regs regs _ bus goes

  unstored : (i : Instr) → Goes range k (micro_op_of range k i) regs bus next → text_store_of i regs bus ≡ None
  unstored (instr.Store op rs1 rs2 imm) goes =
      let a : ℕ = address_of regs rs1 imm in
      not_into (holds bus Write a (store_size op)) (touches_text bus a (store_size op)) a (store_may op rs1 rs2 imm goes)
  unstored (instr.Atomic op rd rs1 rs2) goes = never_some next goes
  unstored instr.Ecall goes = never_some next goes
  unstored _ goes = refl

-- ---- the step

-- a step by a micro-op, at the instruction that stands at its word
pub record StepsBy (range : WordRange) (k : ℕ) (m : MicroOp) (regs : Registers) (bus : List AreaData) (next : ℕ) (regs' : Registers) (bus' : List AreaData) : Type 0 where
  pub instruction : Instr
  pub step : StepsAt range k instruction regs bus next regs' bus'
  pub pays : (stops free : Bool) (n : ℕ) → toll_by (class_of m.code) stops free m regs ≡ Some n → toll instruction stops free regs ≡ Some n
  pub taken : is_taken_by (class_of m.code) m regs ≡ is_taken_branch instruction regs

module _ (range : WordRange) (k : ℕ) (m : MicroOp) (regs regs' : Registers) (bus bus' : List AreaData) (next : ℕ) where
  by_op_of : IsWordRange range → k < range.words → IsOpOf (fetched bus) range k m → Goes range k m regs bus next → regs' ≡ (ran range m k regs bus).regs → bus' ≡ (ran range m k regs bus).bus →
      StepsBy range k m regs bus next regs' bus'
  by_op_of whole here h goes same_regs same_bus =
      let i : Instr = h.instruction in
      let made_goes : Goes range k (micro_op_of range k i) regs bus next = subst (λ q. Goes range k q regs bus next) h.is goes in
      let same : Agrees range k i m regs bus next = subst (λ q. Agrees range k i q regs bus next) (sym h.is) (agrees range k regs bus next whole here i made_goes) in
      record {
        instruction = i;
        step = record {
          word = h.word;
          fetches = h.stands;
          decodes = h.decodes;
          unstored = unstored range k next regs bus i made_goes;
          goes = executes (address_at range k) regs regs' bus bus' h.word (address_at range next) i h.stands h.decodes (rw (same_regs, same_bus) same.effect);
          within = same.within;
          lands = λ j. jump_lands range k regs bus next i whole made_goes j;
        };
        pays = λ stops free n e. op_toll range k i stops free regs n (subst (λ (q : MicroOp). tolled q stops free regs ≡ Some n) h.is e);
        taken = ap (λ (q : MicroOp). taken_of q regs) h.is ∙ taken_is range k regs bus next i made_goes;
      }

  stopped_goes : {A : Type 0} → m ≡ stop_op → Goes range k m regs bus next → A
  stopped_goes is goes = never_some next (subst (λ q. Goes range k q regs bus next) is goes)

  -- at any index, the one behind the last word's included
  pub steps_on : (ops : List MicroOp) (c : Class) (r : Option ℕ) → AreDecoded (fetched bus) range ops → k ≤ range.words → m ≡ get_or ops k m → c ≡ class_of m.code → r ≡ (ran_as c range m k regs bus).next → r ≡ Some next →
      regs' ≡ (ran_as c range m k regs bus).regs → bus' ≡ (ran_as c range m k regs bus).bus → StepsBy range k m regs bus next regs' bus'
  steps_on ops c r d bound is by went some same_regs same_bus =
      let goes : Goes range k m regs bus next = ap (λ q. (ran_as q range m k regs bus).next) (sym by) ∙ sym went ∙ some in
      let regs_are : regs' ≡ (ran range m k regs bus).regs = same_regs ∙ ap (λ q. (ran_as q range m k regs bus).regs) by in
      let bus_is : bus' ≡ (ran range m k regs bus).bus = same_bus ∙ ap (λ q. (ran_as q range m k regs bus).bus) by in
      elim (cases_lt k range.words) [
        | inl here ↦ elim (d.each k here m) [
          | inl none ↦ stopped_goes (is ∙ none) goes
          | inr one ↦ by_op_of d.whole here (subst (λ q. IsOpOf (fetched bus) range k q) (sym is) one) goes regs_are bus_is
        ]
        | inr past ↦
            let at : k ≡ range.words = omega (arith, bound, past) in
            stopped_goes (is ∙ ap (λ i. get_or ops i m) at ∙ d.last m) goes
      ]

-- ---- runs of such steps

-- the machine at a word
abbrev pub at_word : WordRange → Machine → ℕ → ℕ → Machine
at_word range m k steps = record m { pc = address_at range k; steps = steps }

pub machine_steps : (range : WordRange) (m : Machine) (k next steps : ℕ) (i : Instr) (regs : Registers) (bus : List AreaData) → StepsAt range k i m.regs m.bus next regs bus →
    StepsOn i (at_word range m k steps) (at_word range (record m { regs = regs; bus = bus }) next (steps + 1))
machine_steps range m k next steps i regs bus s = record {
  word = s.word;
  fetches = s.fetches;
  decodes = s.decodes;
  unstored = s.unstored;
  goes = s.goes (record m { steps = steps });
  counted = refl;
  ending = refl;
}

-- a step more of a machine at a word
pub one_more : (range : WordRange) (m : Machine) (k next : ℕ) (i : Instr) (regs : Registers) (bus : List AreaData) → m.pc ≡ address_at range k → StepsAt range k i m.regs m.bus next regs bus →
    StepsOn i m (at_word range (record m { regs = regs; bus = bus }) next (m.steps + 1))
one_more range m k next i regs bus at s =
    subst (λ (a : ℕ). StepsOn i (record m { pc = a }) (at_word range (record m { regs = regs; bus = bus }) next (m.steps + 1))) (sym at) (machine_steps range m k next m.steps i regs bus s)

-- the machine's own step, with one fewer that is left
pub one_fewer : (range : WordRange) (m : Machine) (limit left k next : ℕ) (i : Instr) (regs : Registers) (bus : List AreaData) → 0 < left → left ≤ limit → StepsAt range k i m.regs m.bus next regs bus →
    StepsOn i (at_word range m k (limit - left)) (at_word range (record m { regs = regs; bus = bus }) next (limit - (left - 1)))
one_fewer range m limit left k next i regs bus some within s =
    let counted : limit - left + 1 ≡ limit - (left - 1) = omega (arith, some, within) in
    subst (λ n. StepsOn i (at_word range m k (limit - left)) (at_word range (record m { regs = regs; bus = bus }) next n)) counted (machine_steps range m k next (limit - left) i regs bus s)

at_index : (g : Gates) (range : WordRange) (k : ℕ) (m : Machine) (steps : ℕ) → range.from ≡ g.base → length g.words ≡ range.words + 1 → k ≤ range.words → At g k (at_word range m k steps)
at_index g range k m steps same long within = record { within = omega (arith, long, within); pc = ap (λ (a : ℕ). sum_of a (4 * k)) same }

-- a step at a word that its gate lets go on, by its micro-op: nothing else of the machine changes, and no text word
pub record Gone (g : Gates) (range : WordRange) (k : ℕ) (m n : Machine) (next paid : ℕ) : Type 0 where
  pub instruction : Instr
  pub gate : Gate
  pub gate_is : slice_get g.words k ≡ Some gate
  pub on : gate.stops ≡ false
  pub toll_is : toll instruction gate.ends (is_open g.masks g.pass gate.exit) m.regs ≡ Some paid
  pub step : StepsAt range k instruction m.regs m.bus next n.regs n.bus
  pub rest : n ≡ record m { regs = n.regs; bus = n.bus }
  pub text : (a : ℕ) → fetched n.bus a ≡ fetched m.bus a
  pub few : paid ≤ 2

count_on : (limit left first : ℕ) → 0 < left → left ≤ limit → first ≤ limit - left → limit - (left - 1) - first ≡ suc (limit - left - first)
count_on limit left first some within no_fewer = omega arith

-- one more that was let go on
pub coasts_on : (g : Gates) (range : WordRange) (begun m n : Machine) (limit left first k next paid more : ℕ) → range.from ≡ g.base → length g.words ≡ range.words + 1 → 0 < left → left ≤ limit → begun.steps ≤ limit - left → Gone g range k m n next more →
    Coasts g first begun (limit - left - begun.steps) k (at_word range m k (limit - left)) paid → Coasts g first begun (limit - (left - 1) - begun.steps) next (at_word range n next (limit - (left - 1))) (paid + more)
coasts_on g range begun m n limit left first k next paid more same long some within no_fewer o run =
    let after : Machine = at_word range (record m { regs = n.regs; bus = n.bus }) next (limit - (left - 1)) in
    let step_is : GoesOn g k (at_word range m k (limit - left)) next after more = record {
      instruction = o.instruction;
      gate = o.gate;
      gate_is = o.gate_is;
      step = one_fewer range m limit left k next o.instruction n.regs n.bus some within o.step;
      on = o.on;
      toll_is = o.toll_is;
      at = at_index g range next (record m { regs = n.regs; bus = n.bus }) (limit - (left - 1)) same long o.step.within;
      lands = λ j. omega (arith, o.step.lands j, long);
    } in
    let gone : Coasts g first begun (limit - (left - 1) - begun.steps) next after (paid + more) =
    subst (λ j. Coasts g first begun j next after (paid + more)) (sym (count_on limit left begun.steps some within no_fewer)) (k, at_word range m k (limit - left), paid, more, run, step_is, refl) in
    subst (λ (q : Machine). Coasts g first begun (limit - (left - 1) - begun.steps) next (at_word range q next (limit - (left - 1))) (paid + more)) (sym o.rest) gone

pub coasts_none : (g : Gates) (k n : ℕ) (m : Machine) → n ≡ 0 → Coasts g k m n k m 0
coasts_none g k n m none = subst (λ i. Coasts g k m i k m 0) (sym none) (refl, refl, refl)

-- ---- micro-ops that a gate lets go on

module _ (g : Gates) (range : WordRange) (k : ℕ) (m n : Machine) (op : MicroOp) (ops : List MicroOp) (gate : Gate) where
  -- of the class, by its micro-op
  pub gone_by : (q : Class) (next paid : ℕ) → AreDecoded (fetched m.bus) range ops → k ≤ range.words → op ≡ get_or ops k op → slice_get g.words k ≡ Some gate → gate.stops ≡ false → q ≡ class_of op.code →
      toll_by q gate.ends (is_open g.masks g.pass gate.exit) op m.regs ≡ Some paid → (ran_as q range op k m.regs m.bus).next ≡ Some next → n.regs ≡ (ran_as q range op k m.regs m.bus).regs → n.bus ≡ (ran_as q range op k m.regs m.bus).bus →
      n ≡ record m { regs = n.regs; bus = n.bus } → ((a : ℕ) → fetched n.bus a ≡ fetched m.bus a) → paid ≤ 2 → Gone g range k m n next paid
  gone_by q next paid decoded within is gate_is on by pays goes same_regs same_bus rest text few =
      let s : StepsBy range k op m.regs m.bus next n.regs n.bus =
      steps_on range k op m.regs n.regs m.bus n.bus next ops q ((ran_as q range op k m.regs m.bus).next) decoded within is by refl goes same_regs same_bus in
      record {
        instruction = s.instruction;
        gate = gate;
        gate_is = gate_is;
        on = on;
        toll_is = s.pays gate.ends (is_open g.masks g.pass gate.exit) paid (ap (λ (c : Class). toll_by c gate.ends (is_open g.masks g.pass gate.exit) op m.regs) (sym by) ∙ pays);
        step = s.step;
        rest = rest;
        text = text;
        few = few;
      }

  -- a jump or a branch
  pub jumped : (q : Class) (r : Option (ℕ × ℕ)) (next paid : ℕ) → AreDecoded (fetched m.bus) range ops → k ≤ range.words → op ≡ get_or ops k op → slice_get g.words k ≡ Some gate → gate.stops ≡ false → q ≡ class_of op.code → r ≡ Some (next, paid) →
      IfSome r (λ p. toll_by q gate.ends (is_open g.masks g.pass gate.exit) op m.regs ≡ Some p.1) → IfSome r (λ p. (ran_as q range op k m.regs m.bus).next ≡ Some p.0) →
      IfSome r (λ p. n.regs ≡ (ran_as q range op k m.regs m.bus).regs) → IfSome r (λ p. n.bus ≡ (ran_as q range op k m.regs m.bus).bus) → n ≡ record m { regs = n.regs; bus = n.bus } → ((a : ℕ) → fetched n.bus a ≡ fetched m.bus a) → IfSome r (λ p. p.1 ≤ 2) → Gone g range k m n next paid
  jumped q r next paid decoded within is gate_is on by some pays goes same_regs same_bus rest text few =
      gone_by q next paid decoded within is gate_is on by
      (subst (λ o. IfSome o (λ p. toll_by q gate.ends (is_open g.masks g.pass gate.exit) op m.regs ≡ Some p.1)) some pays)
      (subst (λ o. IfSome o (λ p. (ran_as q range op k m.regs m.bus).next ≡ Some p.0)) some goes)
      (subst (λ o. IfSome o (λ p. n.regs ≡ (ran_as q range op k m.regs m.bus).regs)) some same_regs)
      (subst (λ o. IfSome o (λ p. n.bus ≡ (ran_as q range op k m.regs m.bus).bus)) some same_bus)
      rest text (subst (λ o. IfSome o (λ p. p.1 ≤ 2)) some few)

-- a micro-op that left its word has not changed the machine
pub left_so : (m n : Machine) (regs : Registers) (bus : List AreaData) → regs ≡ m.regs → bus ≡ m.bus → n ≡ record m { regs = regs; bus = bus } → n ≡ m
left_so m n regs bus same_regs same_bus is = is ∙ ap (λ (r : Registers). let q : Machine = record m { regs = r; bus = bus } in q) same_regs ∙ ap (λ (b : List AreaData). let q : Machine = record m { bus = b } in q) same_bus
