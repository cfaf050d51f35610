-- What a step by an image's micro-op is to the flat machine, and what stands for its instruction.
use Rattle.std.proofs.Common.{◌≡◌, ◌==◌, ◌&&◌, ℕ, ◌+◌, ◌*◌, ◌/◌, ◌%◌, ◌^◌, ◌<◌, ◌≤◌, Bool, true, false, not, List, [], ◌∷◌, length, Option, Some, None, arith, if◌then◌else◌, refl, sym, ap, subst, ◌∙◌, inl, inr}
use Rattle.std.proofs.lemmas.Bool.{cases_Bool, cond-false, cond-true, eq-eqb, eqb-true}
use Rattle.swi_isa.specs.Decode.{decoded}
use Rattle.swi_isa.specs.declared.instr.BranchOp.{BranchOp}
use Rattle.swi_isa.specs.declared.instr.BranchOp.TheVariants.{Beq, Bne, Blt, Bge, Bltu, Bgeu}
use Rattle.swi_isa.specs.declared.instr.Instr.{Instr}
use Rattle.swi_isa.specs.declared.instr.Instr.TheVariants as instr
use Rattle.swi_isa.specs.declared.instr.StoreOp.{StoreOp}
use Rattle.swi_isa.specs.declared.instr.StoreOp.TheVariants.{Sb, Sh, Sw}
use Rattle.swi_memory.specs.Bus.{AreaData, fetched, holds, lets_store, touches_text}
use Rattle.swi_memory.specs.declared.right.Right.TheVariants.{Write}
use Rattle.swi_memory.specs.declared.word_range.WordRange.{WordRange}
use Rattle.swi_memory.specs.WordRange.{IsWordRange}
use Rattle.swi_exec.specs.Arithmetic.{sum_of}
use Rattle.swi_exec.specs.Execute
use Rattle.swi_exec.specs.Execute.{Effect, address_of, executed, goes_on, is_taken, store_size}
use Rattle.swi_exec.specs.Registers.{Registers, reg, with_reg}
use Rattle.swi_exec.specs.declared.done.Done.TheVariants.{Next}
use Rattle.swi_exec.specs.declared.done.FaultKind.TheVariants.{FetchMisaligned}
use Rattle.swi_calls.specs.declared.machine.Machine.{Machine}
use Rattle.swi_calls.specs.Flat.{made, quiet, with_effect, with_instruction, with_word}
use Rattle.swi_calls.specs.Held.{held, held_made}
use Rattle.swi_calls.specs.StoresText.{instruction_store, text_store_of, word_store}
use Rattle.swi_image.specs.Format.{ImageData}
use Rattle.swi_image.specs.Place.{length_at, word_at}
use Rattle.swi_render.specs.declared.parts.Part.TheVariants.{Lead, Step, Skip, Leave, Indirect, Inert}
use Rattle.swi_render.specs.Rendering.{Slot, Is, Decodes, add_lower, ebreak, falls, falls_of, jump, load_upper, opposite, rendering, rendering_of, slot, sum}
use Rattle.swi_render.specs.Carried.{Carries, GoesOn, StandAt, StandsFor}
use Rattle.swi_micro.specs.declared.class.Class.{Class}
use Rattle.swi_micro.specs.declared.class.Class.TheVariants as class
use Rattle.swi_micro.specs.declared.translator.MicroOp.{MicroOp}
use Rattle.swi_micro.specs.Classes.{class_of, code_of}
use Rattle.swi_micro.specs.Classes.{is_straight}
use Rattle.swi_micro.specs.MicroOp.{branch_op, class_of_store, made_op, micro_op_of}
use Rattle.swi_micro.specs.Ran.{Ran, goes_to, is_gone, leaves, ran, ran_as}
use Rattle.swi_micro.proofs.Agreeing.{agrees, gone}
use Rattle.swi_micro.proofs.Straight.{same_at}
use Rattle.swi_image_ops.specs.ImageOp.{IsWordOp, exit_op, jump_op, row_of, text_op}
use Rattle.swi_image_ops.proofs.Forms.{Kind, Value, Register, Compare, Plain, Left, branch_is, jal_is, kind_by, kind_of, kind_of_class}
use Rattle.swi_image_ops.proofs.Standing.{AtText, in_row, stands_here}

-- ---- the machine's step

-- the machine behind a step that goes on
abbrev pub went : Machine → ℕ → Registers → List AreaData → Machine
went f pc regs bus = record f { pc = pc; regs = regs; bus = bus; steps = f.steps + 1 }

-- the machine's step, over the fixed text, goes on there, takes no input and writes nothing
abbrev pub Goes : Machine → ℕ → Registers → List AreaData → Type 0
Goes f pc regs bus = (input : List ℕ) → held_made f input ≡ quiet (went f pc regs bus) input

abbrev effect_at : ℕ → Registers → List AreaData → Effect
effect_at pc regs bus = record { done = Next pc; regs = regs; bus = bus }

pub goes_by : (f : Machine) (w : ℕ) (x : Instr) (pc : ℕ) (regs : Registers) (bus : List AreaData) → fetched f.bus f.pc ≡ Some w → decoded w ≡ Some x → text_store_of x f.regs f.bus ≡ None →
    executed x f.pc f.regs f.bus ≡ effect_at pc regs bus → Goes f pc regs bus
unfolding made
goes_by f w x pc regs bus reads is none does = λ input.
    ap (λ (o : Option ℕ). held f (word_store f o) (with_word f o input) input) reads
    ∙ ap (λ (i : Option Instr). held f (instruction_store f i) (with_instruction f i input) input) is
    ∙ ap (λ (s : Option ℕ). held f s (with_effect f (executed x f.pc f.regs f.bus) input) input) none
    ∙ ap (λ (e : Effect). with_effect f e input) does

-- a jump to a multiple of 4 lands there
lands : (t : ℕ) (old new : Registers) (bus : List AreaData) → t % 4 ≡ 0 → Execute.jumps t old new bus ≡ effect_at t new bus
lands t old new bus aligned = cond-true (t % 4 == 0) (effect_at t new bus) (Execute.faults FetchMisaligned t old bus) (eq-eqb (t % 4) 0 aligned)

-- ---- what stands for an instruction

rendered : (w a : ℕ) (x : Instr) → decoded w ≡ Some x → rendering w a ≡ rendering_of (Some x) w a
unfolding rendering
rendered w a x is = ap (λ i. rendering_of i w a) is

falls_by : (w : ℕ) (x : Instr) → decoded w ≡ Some x → falls w ≡ falls_of (Some x)
unfolding falls
falls_by w x is = ap falls_of is

-- behind a word that falls, and for which so many stand
behind : (v : ImageData) (w a b o n : ℕ) (x : Instr) (ss : List Slot) → StandsFor v w a b o → decoded w ≡ Some x → falls_of (Some x) ≡ true → rendering w a ≡ ss → length ss ≡ n → GoesOn v (sum_of a 4) b (o + n)
behind v w a b o n x ss stands is goes slots size = subst (λ k. GoesOn v (sum_of a 4) b (o + k)) (ap (λ (l : List Slot). length l) slots ∙ size) (stands.behind (falls_by w x is ∙ goes))

-- whether an instruction stands as itself and goes on at the next word, if it goes on
abbrev pub stands_as_itself : Instr → Bool
stands_as_itself (instr.Lui rd imm) = true
stands_as_itself (instr.Load op rd rs1 imm) = true
stands_as_itself (instr.Store op rs1 rs2 imm) = true
stands_as_itself (instr.Alu op rd rs1 imm) = true
stands_as_itself (instr.Op op rd rs1 rs2) = true
stands_as_itself instr.Fence = true
stands_as_itself _ = false

plain_itself : (x : Instr) → kind_of x ≡ Plain → stands_as_itself x ≡ true
plain_itself (instr.Load op rd rs1 imm) k = refl
plain_itself (instr.Store op rs1 rs2 imm) k = refl
plain_itself (instr.Alu op rd rs1 imm) k = refl
plain_itself (instr.Op op rd rs1 rs2) k = refl
plain_itself instr.Fence k = refl
plain_itself x k = absurd (cc)

itself_slot : (w a : ℕ) (x : Instr) → stands_as_itself x ≡ true → rendering_of (Some x) w a ≡ slot Step (Is w) ∷ []
itself_slot w a (instr.Lui rd imm) e = refl
itself_slot w a (instr.Load op rd rs1 imm) e = refl
itself_slot w a (instr.Store op rs1 rs2 imm) e = refl
itself_slot w a (instr.Alu op rd rs1 imm) e = refl
itself_slot w a (instr.Op op rd rs1 rs2) e = refl
itself_slot w a instr.Fence e = refl
itself_slot w a x e = absurd (cc)

itself_falls : (x : Instr) → stands_as_itself x ≡ true → falls_of (Some x) ≡ true
itself_falls (instr.Lui rd imm) e = refl
itself_falls (instr.Load op rd rs1 imm) e = refl
itself_falls (instr.Store op rs1 rs2 imm) e = refl
itself_falls (instr.Alu op rd rs1 imm) e = refl
itself_falls (instr.Op op rd rs1 rs2) e = refl
itself_falls instr.Fence e = refl
itself_falls x e = absurd (cc)

-- ---- what is said of each step

-- the word is executed as it is, and the next one follows
pub record Straight (f : Machine) (w : ℕ) (regs : Registers) (bus : List AreaData) : Type 0 where
  pub instruction : Instr
  pub is : decoded w ≡ Some instruction
  pub itself : stands_as_itself instruction ≡ true
  pub step : Goes f (sum_of f.pc 4) regs bus
  pub slots : rendering w f.pc ≡ slot Step (Is w) ∷ []

-- two words put a value into a register
pub record Pair (f : Machine) (w : ℕ) (m : MicroOp) : Type 0 where
  pub imm : ℕ
  pub is : decoded w ≡ Some (instr.Auipc m.rd imm)
  pub step : Goes f (sum_of f.pc 4) (with_reg f.regs m.rd m.imm) f.bus
  pub slots : rendering w f.pc ≡ slot Lead (load_upper m.rd m.imm) ∷ slot Step (add_lower m.rd m.imm) ∷ []

-- at the offset stands an exit to the text word at an address, which has this index in the row
pub record ExitTo (v : ImageData) (b o a k : ℕ) : Type 0 where
  pub leaves : word_at v b o ≡ ebreak
  pub leads : word_at v b (o + 1) ≡ a
  pub room : o + 2 ≤ length_at v b
  pub target : row_of v a ≡ Some k
  pub aligned : a % 4 ≡ 0

-- a jump that keeps no return address is its exit
pub record Exits (v : ImageData) (f : Machine) (b o w k : ℕ) : Type 0 where
  pub off : ℕ
  pub is : decoded w ≡ Some (instr.Jal 0 off)
  pub step : Goes f (sum_of f.pc off) f.regs f.bus
  pub slots : rendering w f.pc ≡ slot Leave (Is ebreak) ∷ slot Inert (Is (sum f.pc off)) ∷ []
  pub exit : ExitTo v b o (sum_of f.pc off) k

-- one that keeps it has its exit two words on
pub record Calls (v : ImageData) (f : Machine) (b o w : ℕ) (m : MicroOp) (k : ℕ) : Type 0 where
  pub off : ℕ
  pub is : decoded w ≡ Some (instr.Jal m.rd off)
  pub keeps : (m.rd == 0) ≡ false
  pub step : Goes f (sum_of f.pc off) (with_reg f.regs m.rd m.imm) f.bus
  pub slots : rendering w f.pc ≡ slot Lead (load_upper m.rd m.imm) ∷ slot Lead (add_lower m.rd m.imm) ∷ slot Leave (Is ebreak) ∷ slot Inert (Is (sum f.pc off)) ∷ []
  pub exit : ExitTo v b (o + 2) (sum_of f.pc off) k

-- a jump over a register: behind its exit stands the return address
pub record Returns (v : ImageData) (f : Machine) (b o w : ℕ) (m : MicroOp) : Type 0 where
  pub is : decoded w ≡ Some (instr.Jalr m.rd m.rs1 m.imm)
  pub step : address_of f.regs m.rs1 m.imm / 2 * 2 % 4 ≡ 0 → Goes f (address_of f.regs m.rs1 m.imm / 2 * 2) (with_reg f.regs m.rd (sum_of f.pc 4)) f.bus
  pub slots : rendering w f.pc ≡ slot Indirect (Is ebreak) ∷ slot Inert (Is w) ∷ slot Inert (Is (sum f.pc 4)) ∷ []
  pub return : word_at v b (o + 2) ≡ sum_of f.pc 4
  pub room : o + 3 ≤ length_at v b

-- a branch passes over its exit where it isn't taken
pub record Branches (by : BranchOp) (v : ImageData) (f : Machine) (b o w : ℕ) (m : MicroOp) : Type 0 where
  pub op : BranchOp
  pub rs1 : ℕ
  pub rs2 : ℕ
  pub off : ℕ
  pub is : decoded w ≡ Some (instr.Branch op rs1 rs2 off)
  pub same : is_taken op (reg f.regs rs1) (reg f.regs rs2) ≡ is_gone by m f.regs
  pub taken : is_gone by m f.regs ≡ true → Goes f (sum_of f.pc off) f.regs f.bus
  pub passed : is_gone by m f.regs ≡ false → Goes f (sum_of f.pc 4) f.regs f.bus
  pub slots : rendering w f.pc ≡ slot Skip (Decodes (instr.Branch (opposite op) rs1 rs2 12)) ∷ slot Leave (Is ebreak) ∷ slot Inert (Is (sum f.pc off)) ∷ []
  pub exit : ExitTo v b (o + 1) (sum_of f.pc off) m.imm
  pub behind : GoesOn v (sum_of f.pc 4) b (o + 3)

-- ---- a store that goes on isn't one into the text

made_true : (t : Bool) (k next : ℕ) (regs regs' : Registers) (bus bus' : List AreaData) → (if t then goes_to k regs bus else leaves regs' bus').next ≡ Some next → t ≡ true
made_true true k next regs regs' bus bus' goes = refl
made_true false k next regs regs' bus bus' goes = absurd (let never : None ≡ Some next = goes in cc)

not_into : (may touches : Bool) (a : ℕ) → (may && not touches) ≡ true → (if may && touches then Some a else None) ≡ None
not_into true true a e = absurd (let never : false ≡ true = e in cc)
not_into true false a e = refl
not_into false touches a e = refl

module _ (range : WordRange) (k next : ℕ) (regs : Registers) (bus : List AreaData) where
  store_may : (op : StoreOp) (rs1 rs2 imm : ℕ) → (ran range (made_op (class_of_store op) 0 rs1 rs2 imm) k regs bus).next ≡ Some next → lets_store bus (address_of regs rs1 imm) (store_size op) ≡ true
  store_may Sb rs1 rs2 imm goes = made_true _ (k + 1) next regs regs _ bus goes
  store_may Sh rs1 rs2 imm goes = made_true _ (k + 1) next regs regs _ bus goes
  store_may Sw rs1 rs2 imm goes = made_true _ (k + 1) next regs regs _ bus goes

  no_store : (x : Instr) → kind_of x ≡ Plain → (ran range (micro_op_of range k x) k regs bus).next ≡ Some next → text_store_of x regs bus ≡ None
  no_store (instr.Load op rd rs1 imm) p goes = refl
  no_store (instr.Store op rs1 rs2 imm) p goes =
      let a : ℕ = address_of regs rs1 imm in
      not_into (holds bus Write a (store_size op)) (touches_text bus a (store_size op)) a (store_may op rs1 rs2 imm goes)
  no_store (instr.Alu op rd rs1 imm) p goes = refl
  no_store (instr.Op op rd rs1 rs2) p goes = refl
  no_store instr.Fence p goes = refl
  no_store x p goes = absurd (cc)

-- the micro-op of such an instruction is the same at each place
placeless : (v : ImageData) (a : ℕ) (range : WordRange) (k : ℕ) (x : Instr) → kind_of x ≡ Plain → text_op v a x ≡ micro_op_of range k x
placeless v a range k (instr.Load op rd rs1 imm) p = refl
placeless v a range k (instr.Store op rs1 rs2 imm) p = refl
placeless v a range k (instr.Alu op rd rs1 imm) p = refl
placeless v a range k (instr.Op op rd rs1 rs2) p = refl
placeless v a range k instr.Fence p = refl
placeless v a range k x p = absurd (cc)

plain_class : (c : Class) → is_straight c ≡ true → (c ≡ class.Lui → ⊥) → kind_of_class c ≡ Plain
plain_class class.Lui s other = absurd (other refl)
plain_class class.Equal s other = absurd (let never : false ≡ true = s in cc)
plain_class class.Less s other = absurd (let never : false ≡ true = s in cc)
plain_class class.Below s other = absurd (let never : false ≡ true = s in cc)
plain_class class.Jal s other = absurd (let never : false ≡ true = s in cc)
plain_class class.Jalr s other = absurd (let never : false ≡ true = s in cc)
plain_class class.Stop s other = absurd (let never : false ≡ true = s in cc)
plain_class _ s other = refl

-- ---- the laws

-- the range of one word alone
abbrev word_range : ℕ → WordRange
word_range a = record { from = a; words = 1 }

one_word : (a : ℕ) → a < 2 ^ 32 → a % 4 ≡ 0 → IsWordRange (word_range a)
one_word a short aligned = record { first = aligned; few = omega arith; end = omega (arith, short, aligned) }

module _ (v : ImageData) (f : Machine) (b o : ℕ) (m : MicroOp) (t : AtText v f b o m) where
  abbrev own_op : MicroOp
  own_op = micro_op_of (word_range f.pc) 0 t.instruction

  kind_at : (c : Class) (k : Kind) → class_of m.code ≡ c → kind_of_class c ≡ k → (k ≡ Left → ⊥) → kind_of t.instruction ≡ k
  kind_at c k is kinds some = kind_by v f.pc t.instruction c k (ap (λ (q : MicroOp). class_of q.code) (sym t.is) ∙ is) kinds some

  ran_here : (c : Class) → is_straight c ≡ true → kind_of t.instruction ≡ Plain → class_of m.code ≡ c → (range : WordRange) (k next : ℕ) → (ran_as c range m k f.regs f.bus).next ≡ Some next →
      ran (word_range f.pc) own_op 0 f.regs f.bus ≡ goes_to 1 (ran_as c range m k f.regs f.bus).regs (ran_as c range m k f.regs f.bus).bus
  ran_here c s p is range k next goes =
      ap (λ q. ran (word_range f.pc) q 0 f.regs f.bus) (sym (t.is ∙ placeless v f.pc (word_range f.pc) 0 t.instruction p))
      ∙ ap (λ d. ran_as d (word_range f.pc) m 0 f.regs f.bus) is
      ∙ (same_at c s range (word_range f.pc) m k 0 next f.regs f.bus goes).same

  straight_by : (regs : Registers) (bus : List AreaData) → kind_of t.instruction ≡ Plain → ran (word_range f.pc) own_op 0 f.regs f.bus ≡ goes_to 1 regs bus → Straight f t.word regs bus
  straight_by regs bus p goes =
      let next : (ran (word_range f.pc) own_op 0 f.regs f.bus).next ≡ Some 1 = ap (λ (r : Ran). r.next) goes in
      let short = t.short in
      let first : sum_of f.pc (4 * 0) ≡ f.pc = omega (arith, short) in
      let agreed = agrees (word_range f.pc) 0 f.regs f.bus 1 (one_word f.pc t.short t.aligned) (omega arith) t.instruction next in
      let does : executed t.instruction f.pc f.regs f.bus ≡ goes_on f.pc regs bus = ap (λ a. executed t.instruction a f.regs f.bus) (sym first) ∙ agreed.effect ∙ ap (gone (word_range f.pc) 1) goes in
      let itself = plain_itself t.instruction p in
      record {
        instruction = t.instruction;
        is = t.decodes;
        itself = itself;
        step = goes_by f t.word t.instruction (sum_of f.pc 4) regs bus t.reads t.decodes (no_store (word_range f.pc) 0 1 f.regs f.bus t.instruction p next) does;
        slots = rendered t.word f.pc t.instruction t.decodes ∙ itself_slot t.word f.pc t.instruction itself;
      }

  pub straight : (c : Class) → is_straight c ≡ true → (c ≡ class.Lui → ⊥) → class_of m.code ≡ c → (range : WordRange) (k next : ℕ) → (ran_as c range m k f.regs f.bus).next ≡ Some next →
      (next ≡ k + 1) × Straight f t.word (ran_as c range m k f.regs f.bus).regs (ran_as c range m k f.regs f.bus).bus
  straight c s other is range k next goes =
      let p : kind_of t.instruction ≡ Plain = kind_at c Plain is (plain_class c s other) (λ e. cc) in
      ((same_at c s range (word_range f.pc) m k 0 next f.regs f.bus goes).on, straight_by (ran_as c range m k f.regs f.bus).regs (ran_as c range m k f.regs f.bus).bus p (ran_here c s p is range k next goes))

  upper_of : (x : Instr) → kind_of x ≡ Value → decoded t.word ≡ Some x → ((text_op v f.pc x).rs1 == 1) ≡ false → Straight f t.word (with_reg f.regs (text_op v f.pc x).rd (text_op v f.pc x).imm) f.bus
  upper_of (instr.Lui rd imm) k is plain = record {
    instruction = instr.Lui rd imm;
    is = is;
    itself = refl;
    step = goes_by f t.word (instr.Lui rd imm) (sum_of f.pc 4) (with_reg f.regs rd imm) f.bus t.reads is refl refl;
    slots = rendered t.word f.pc (instr.Lui rd imm) is;
  }
  upper_of (instr.Auipc rd imm) k is plain = absurd (let never : true ≡ false = plain in cc)
  upper_of x k is plain = absurd (cc)

  pub upper : class_of m.code ≡ class.Lui → (m.rs1 == 1) ≡ false → Straight f t.word (with_reg f.regs m.rd m.imm) f.bus
  upper is plain =
      subst (λ (q : MicroOp). Straight f t.word (with_reg f.regs q.rd q.imm) f.bus) (sym t.is)
      (upper_of t.instruction (kind_at class.Lui Value is refl (λ e. cc)) t.decodes (ap (λ (q : MicroOp). q.rs1 == 1) (sym t.is) ∙ plain))

  pair_of : (x : Instr) → kind_of x ≡ Value → decoded t.word ≡ Some x → ((text_op v f.pc x).rs1 == 1) ≡ true → Pair f t.word (text_op v f.pc x)
  pair_of (instr.Auipc rd imm) k is marked = record {
    imm = imm;
    is = is;
    step = goes_by f t.word (instr.Auipc rd imm) (sum_of f.pc 4) (with_reg f.regs rd (sum_of f.pc imm)) f.bus t.reads is refl refl;
    slots = rendered t.word f.pc (instr.Auipc rd imm) is;
  }
  pair_of (instr.Lui rd imm) k is marked = absurd (let never : false ≡ true = marked in cc)
  pair_of x k is marked = absurd (cc)

  pub pair : class_of m.code ≡ class.Lui → (m.rs1 == 1) ≡ true → Pair f t.word m
  pair is marked =
      subst (λ (q : MicroOp). Pair f t.word q) (sym t.is)
      (pair_of t.instruction (kind_at class.Lui Value is refl (λ e. cc)) t.decodes (ap (λ (q : MicroOp). q.rs1 == 1) (sym t.is) ∙ marked))

  pub behind_straight : (regs : Registers) (bus : List AreaData) → Straight f t.word regs bus → GoesOn v (sum_of f.pc 4) b (o + 1)
  behind_straight regs bus s = behind v t.word f.pc b o 1 s.instruction (slot Step (Is t.word) ∷ []) t.stands s.is (itself_falls s.instruction s.itself) s.slots refl

  pub behind_pair : Pair f t.word m → GoesOn v (sum_of f.pc 4) b (o + 2)
  behind_pair p = behind v t.word f.pc b o 2 (instr.Auipc m.rd p.imm) (slot Lead (load_upper m.rd m.imm) ∷ slot Step (add_lower m.rd m.imm) ∷ []) t.stands p.is refl p.slots refl

-- ---- exits

-- the target of an exit has a place, and so is a multiple of 4
aligned_target : (text : ℕ → Option ℕ) (v : ImageData) (a k : ℕ) → Carries text v → row_of v a ≡ Some k → a % 4 ≡ 0
aligned_target text v a k carried is = let at = in_row v a k is in carried.aligned a at.block at.offset at.place

-- the slots of a jump to a multiple of 4
jump_slots : (w a rd off : ℕ) → decoded w ≡ Some (instr.Jal rd off) → sum_of a off % 4 ≡ 0 → rendering w a ≡ jump true (rd == 0) rd (sum_of a off) a
jump_slots w a rd off is aligned = rendered w a (instr.Jal rd off) is ∙ ap (λ t. jump t (rd == 0) rd (sum_of a off) a) (eq-eqb (sum_of a off % 4) 0 aligned)

-- an exit among the words of a block
stand_exit : (v : ImageData) (b o a k : ℕ) → StandAt v b o (slot Leave (Is ebreak) ∷ slot Inert (Is a) ∷ []) → row_of v a ≡ Some k → a % 4 ≡ 0 → ExitTo v b o a k
stand_exit v b o a k at target aligned = record { leaves = at.0; leads = at.1.0; room = (let room = at.1.1 in omega (arith, room)); target = target; aligned = aligned }

-- a jump that keeps no return address
exit_of : (text : ℕ → Option ℕ) (v : ImageData) (w a b o off k : ℕ) → Carries text v → StandsFor v w a b o → decoded w ≡ Some (instr.Jal 0 off) → row_of v (sum_of a off) ≡ Some k → ExitTo v b o (sum_of a off) k
exit_of text v w a b o off k carried stands is target =
    let aligned = aligned_target text v (sum_of a off) k carried target in
    stand_exit v b o (sum_of a off) k (subst (λ (ss : List Slot). StandAt v b o ss) (jump_slots w a 0 off is aligned) stands.words) target aligned

-- its instruction and its target
record ExitInstr (v : ImageData) (a : ℕ) (x : Instr) (k : ℕ) : Type 0 where
  pub off : ℕ
  pub is : x ≡ instr.Jal 0 off
  pub target : row_of v (sum_of a off) ≡ Some k

exit_instr : (v : ImageData) (a : ℕ) (x : Instr) (m : MicroOp) → m ≡ text_op v a x → class_of m.code ≡ class.Jal → m.rd ≡ 0 → ExitInstr v a x m.imm
exit_instr v a x m is jumps none =
    let j = jal_is v a x (ap (λ (q : MicroOp). class_of q.code) (sym is) ∙ jumps) in
    let at : m ≡ jump_op (j.rd == 0) j.rd (sum_of a 4) j.k = is ∙ j.op in
    elim (cases_Bool (j.rd == 0)) [
      | inl unkept ↦
          let exit : m ≡ exit_op j.k = at ∙ ap (λ q. jump_op q j.rd (sum_of a 4) j.k) unkept in
          record {
            off = j.off;
            is = j.is ∙ ap (λ r. instr.Jal r j.off) (eqb-true j.rd 0 unkept);
            target = j.target ∙ ap (λ (q : MicroOp). Some q.imm) (sym exit);
          }
      | inr keeps ↦
          let call : m ≡ made_op class.Jal j.rd 0 0 (sum_of a 4) = at ∙ ap (λ q. jump_op q j.rd (sum_of a 4) j.k) keeps in
          let rd : j.rd ≡ 0 = ap (λ (q : MicroOp). q.rd) (sym call) ∙ none in
          absurd (let zero : (j.rd == 0) ≡ true = ap (λ n. n == 0) rd in cc)
    ]

codes : (n : ℕ) → n ≡ 13 → n ≡ 55 → ⊥
codes n jal stop = omega (arith, jal, stop)

-- an exit's micro-op has the index of the word to which it leads, whichever stands there: a jump, or what falls out of a block
pub exit_leads : (text : ℕ → Option ℕ) (v : ImageData) (b o : ℕ) (m : MicroOp) → Carries text v → IsWordOp text v b o m → m.code ≡ code_of class.Jal → m.rd ≡ 0 → row_of v (word_at v b (o + 1)) ≡ Some m.imm
exit_leads text v b o m carried (inl stops) jumps none = absurd (codes m.code jumps (ap (λ (q : MicroOp). q.code) stops))
exit_leads text v b o m carried (inr (inl h)) jumps none =
    let x = exit_instr v h.address h.instruction m h.is (ap class_of jumps) none in
    let stands = stands_here text v h.address h.word b o carried h.stands h.place in
    let exit = exit_of text v h.word h.address b o x.off m.imm carried stands (h.decodes ∙ ap (λ i. Some i) x.is) x.target in
    ap (row_of v) exit.leads ∙ x.target
exit_leads text v b o m carried (inr (inr h)) jumps none = h.leads ∙ ap (λ (q : MicroOp). Some q.imm) (sym h.is)

-- ---- a jump that keeps its return address

record CallInstr (v : ImageData) (a : ℕ) (x : Instr) (m : MicroOp) : Type 0 where
  pub off : ℕ
  pub is : x ≡ instr.Jal m.rd off
  pub keeps : (m.rd == 0) ≡ false
  pub return : m.imm ≡ sum_of a 4
  pub k : ℕ
  pub target : row_of v (sum_of a off) ≡ Some k

call_instr : (v : ImageData) (a : ℕ) (x : Instr) (m : MicroOp) → m ≡ text_op v a x → class_of m.code ≡ class.Jal → (m.rd ≡ 0 → ⊥) → CallInstr v a x m
call_instr v a x m is jumps some =
    let j = jal_is v a x (ap (λ (q : MicroOp). class_of q.code) (sym is) ∙ jumps) in
    let at : m ≡ jump_op (j.rd == 0) j.rd (sum_of a 4) j.k = is ∙ j.op in
    elim (cases_Bool (j.rd == 0)) [
      | inl unkept ↦
          let exit : m ≡ exit_op j.k = at ∙ ap (λ q. jump_op q j.rd (sum_of a 4) j.k) unkept in
          absurd (some (ap (λ (q : MicroOp). q.rd) exit))
      | inr keeps ↦
          let call : m ≡ made_op class.Jal j.rd 0 0 (sum_of a 4) = at ∙ ap (λ q. jump_op q j.rd (sum_of a 4) j.k) keeps in
          let rd : m.rd ≡ j.rd = ap (λ (q : MicroOp). q.rd) call in
          record {
            off = j.off;
            is = j.is ∙ ap (λ r. instr.Jal r j.off) (sym rd);
            keeps = ap (λ r. r == 0) rd ∙ keeps;
            return = ap (λ (q : MicroOp). q.imm) call;
            k = j.k;
            target = j.target;
          }
    ]

-- the words of a call, whose exit stands two words on
abbrev call_slots : ℕ → ℕ → ℕ → List Slot
call_slots rd return a = slot Lead (load_upper rd return) ∷ slot Lead (add_lower rd return) ∷ slot Leave (Is ebreak) ∷ slot Inert (Is a) ∷ []

stand_call : (v : ImageData) (b o rd return a k : ℕ) → StandAt v b o (call_slots rd return a) → row_of v a ≡ Some k → a % 4 ≡ 0 → ExitTo v b (o + 2) a k
stand_call v b o rd return a k at target aligned =
    let on : o + 1 + 1 ≡ o + 2 = omega arith in
    stand_exit v b (o + 2) a k (subst (λ n. StandAt v b n (slot Leave (Is ebreak) ∷ slot Inert (Is a) ∷ [])) on at.1.1) target aligned

module _ (v : ImageData) (f : Machine) (b o : ℕ) (m : MicroOp) (t : AtText v f b o m) where
  pub exits : Carries (fetched f.bus) v → class_of m.code ≡ class.Jal → m.rd ≡ 0 → Exits v f b o t.word m.imm
  exits carried jumps none =
      let x = exit_instr v f.pc t.instruction m t.is jumps none in
      let is : decoded t.word ≡ Some (instr.Jal 0 x.off) = t.decodes ∙ ap (λ i. Some i) x.is in
      let exit = exit_of (fetched f.bus) v t.word f.pc b o x.off m.imm carried t.stands is x.target in
      record {
        off = x.off;
        is = is;
        step = goes_by f t.word (instr.Jal 0 x.off) (sum_of f.pc x.off) f.regs f.bus t.reads is refl (lands (sum_of f.pc x.off) f.regs f.regs f.bus exit.aligned);
        slots = jump_slots t.word f.pc 0 x.off is exit.aligned;
        exit = exit;
      }

  -- the rendering of a call
  call_rendered : Carries (fetched f.bus) v → (x : CallInstr v f.pc t.instruction m) → rendering t.word f.pc ≡ call_slots m.rd m.imm (sum_of f.pc x.off)
  call_rendered carried x =
      let is : decoded t.word ≡ Some (instr.Jal m.rd x.off) = t.decodes ∙ ap (λ i. Some i) x.is in
      let a : ℕ = sum_of f.pc x.off in
      jump_slots t.word f.pc m.rd x.off is (aligned_target (fetched f.bus) v a x.k carried x.target)
      ∙ ap (λ q. jump true q m.rd a f.pc) x.keeps
      ∙ ap (λ r. call_slots m.rd r a) (sym x.return)

  call_exit : (carried : Carries (fetched f.bus) v) (x : CallInstr v f.pc t.instruction m) → ExitTo v b (o + 2) (sum_of f.pc x.off) x.k
  call_exit carried x =
      let a : ℕ = sum_of f.pc x.off in
      stand_call v b o m.rd m.imm a x.k (subst (λ (ss : List Slot). StandAt v b o ss) (call_rendered carried x) t.stands.words) x.target (aligned_target (fetched f.bus) v a x.k carried x.target)

  pub call_room : Carries (fetched f.bus) v → class_of m.code ≡ class.Jal → (m.rd ≡ 0 → ⊥) → o + 4 ≤ length_at v b
  call_room carried jumps some = let room = (call_exit carried (call_instr v f.pc t.instruction m t.is jumps some)).room in omega (arith, room)

  pub calls : Carries (fetched f.bus) v → class_of m.code ≡ class.Jal → (m.rd ≡ 0 → ⊥) → (exit : MicroOp) → IsWordOp (fetched f.bus) v b (o + 2) exit → exit.code ≡ code_of class.Jal → exit.rd ≡ 0 →
      Calls v f b o t.word m exit.imm
  calls carried jumps some exit word leaves none =
      let x = call_instr v f.pc t.instruction m t.is jumps some in
      let a : ℕ = sum_of f.pc x.off in
      let is : decoded t.word ≡ Some (instr.Jal m.rd x.off) = t.decodes ∙ ap (λ i. Some i) x.is in
      let at = call_exit carried x in
      let to : row_of v a ≡ Some exit.imm = ap (row_of v) (sym at.leads) ∙ exit_leads (fetched f.bus) v b (o + 2) exit carried word leaves none in
      let regs : Registers = with_reg f.regs m.rd m.imm in
      let lands_there : executed (instr.Jal m.rd x.off) f.pc f.regs f.bus ≡ effect_at a regs f.bus =
      lands a f.regs (with_reg f.regs m.rd (sum_of f.pc 4)) f.bus at.aligned ∙ ap (λ r. effect_at a (with_reg f.regs m.rd r) f.bus) (sym x.return) in
      record {
        off = x.off;
        is = is;
        keeps = x.keeps;
        step = goes_by f t.word (instr.Jal m.rd x.off) a regs f.bus t.reads is refl lands_there;
        slots = call_rendered carried x;
        exit = record { leaves = at.leaves; leads = at.leads; room = at.room; target = to; aligned = at.aligned };
      }

  -- ---- a jump over a register

  returns_of : (x : Instr) → kind_of x ≡ Register → decoded t.word ≡ Some x → Returns v f b o t.word (text_op v f.pc x)
  returns_of (instr.Jalr rd rs1 imm) k is =
      let a : ℕ = address_of f.regs rs1 imm / 2 * 2 in
      let slots : rendering t.word f.pc ≡ slot Indirect (Is ebreak) ∷ slot Inert (Is t.word) ∷ slot Inert (Is (sum f.pc 4)) ∷ [] = rendered t.word f.pc (instr.Jalr rd rs1 imm) is in
      let at : StandAt v b o (slot Indirect (Is ebreak) ∷ slot Inert (Is t.word) ∷ slot Inert (Is (sum f.pc 4)) ∷ []) = subst (λ (ss : List Slot). StandAt v b o ss) slots t.stands.words in
      let on : o + 2 ≡ o + 1 + 1 = omega arith in
      record {
        is = is;
        step = λ aligned. goes_by f t.word (instr.Jalr rd rs1 imm) a (with_reg f.regs rd (sum_of f.pc 4)) f.bus t.reads is refl (lands a f.regs (with_reg f.regs rd (sum_of f.pc 4)) f.bus aligned);
        slots = slots;
        return = ap (λ n. word_at v b n) on ∙ at.1.1.0;
        room = (let room = at.1.1.1 in omega (arith, room));
      }
  returns_of x k is = absurd (cc)

  pub returns : class_of m.code ≡ class.Jalr → Returns v f b o t.word m
  returns is =
      let k : kind_of t.instruction ≡ Register = kind_by v f.pc t.instruction class.Jalr Register (ap (λ (q : MicroOp). class_of q.code) (sym t.is) ∙ is) refl (λ e. cc) in
      subst (λ (q : MicroOp). Returns v f b o t.word q) (sym t.is) (returns_of t.instruction k t.decodes)

-- ---- branches

-- the comparison by which a class's branch is taken
abbrev pub comparison_of : Class → Option BranchOp
comparison_of class.Equal = Some Beq
comparison_of class.Less = Some Blt
comparison_of class.Below = Some Bltu
comparison_of _ = None

compares : (c : Class) (by : BranchOp) → comparison_of c ≡ Some by → kind_of_class c ≡ Compare
compares class.Equal by e = refl
compares class.Less by e = refl
compares class.Below by e = refl
compares _ by e = absurd (cc)

-- it goes as its operation says
gone_as : (op : BranchOp) (rs1 rs2 k : ℕ) (by : BranchOp) (regs : Registers) → comparison_of (class_of (branch_op op rs1 rs2 k).code) ≡ Some by →
    is_taken op (reg regs rs1) (reg regs rs2) ≡ is_gone by (branch_op op rs1 rs2 k) regs
gone_as Beq rs1 rs2 k by regs e = let same : Beq ≡ by = cc in ap (λ c. is_gone c (branch_op Beq rs1 rs2 k) regs) same
gone_as Bne rs1 rs2 k by regs e = let same : Beq ≡ by = cc in ap (λ c. is_gone c (branch_op Bne rs1 rs2 k) regs) same
gone_as Blt rs1 rs2 k by regs e = let same : Blt ≡ by = cc in ap (λ c. is_gone c (branch_op Blt rs1 rs2 k) regs) same
gone_as Bge rs1 rs2 k by regs e = let same : Blt ≡ by = cc in ap (λ c. is_gone c (branch_op Bge rs1 rs2 k) regs) same
gone_as Bltu rs1 rs2 k by regs e = let same : Bltu ≡ by = cc in ap (λ c. is_gone c (branch_op Bltu rs1 rs2 k) regs) same
gone_as Bgeu rs1 rs2 k by regs e = let same : Bltu ≡ by = cc in ap (λ c. is_gone c (branch_op Bgeu rs1 rs2 k) regs) same

branch_leads : (op : BranchOp) (rs1 rs2 k : ℕ) → (branch_op op rs1 rs2 k).imm ≡ k
branch_leads Beq rs1 rs2 k = refl
branch_leads _ rs1 rs2 k = refl

abbrev branch_slots : BranchOp → ℕ → ℕ → ℕ → List Slot
branch_slots op rs1 rs2 a = slot Skip (Decodes (instr.Branch (opposite op) rs1 rs2 12)) ∷ slot Leave (Is ebreak) ∷ slot Inert (Is a) ∷ []

module _ (v : ImageData) (f : Machine) (b o : ℕ) (m : MicroOp) (t : AtText v f b o m) where
  pub branches : Carries (fetched f.bus) v → (by : BranchOp) → comparison_of (class_of m.code) ≡ Some by → Branches by v f b o t.word m
  branches carried by compared =
      let compares_here : kind_of_class (class_of (text_op v f.pc t.instruction).code) ≡ Compare = ap (λ (q : MicroOp). kind_of_class (class_of q.code)) (sym t.is) ∙ compares (class_of m.code) by compared in
      let x = branch_is v f.pc t.instruction compares_here in
      let at : m ≡ branch_op x.by x.rs1 x.rs2 x.k = t.is ∙ x.op in
      let a : ℕ = sum_of f.pc x.off in
      let is : decoded t.word ≡ Some (instr.Branch x.by x.rs1 x.rs2 x.off) = t.decodes ∙ ap (λ i. Some i) x.is in
      let taken : Bool = is_taken x.by (reg f.regs x.rs1) (reg f.regs x.rs2) in
      let same : taken ≡ is_gone by m f.regs =
      gone_as x.by x.rs1 x.rs2 x.k by f.regs (ap (λ (q : MicroOp). comparison_of (class_of q.code)) (sym at) ∙ compared) ∙ ap (λ q. is_gone by q f.regs) (sym at) in
      let aligned = aligned_target (fetched f.bus) v a x.k carried x.target in
      let to : row_of v a ≡ Some m.imm = x.target ∙ ap (λ i. Some i) (sym (ap (λ (q : MicroOp). q.imm) at ∙ branch_leads x.by x.rs1 x.rs2 x.k)) in
      let slots : rendering t.word f.pc ≡ branch_slots x.by x.rs1 x.rs2 a = rendered t.word f.pc (instr.Branch x.by x.rs1 x.rs2 x.off) is in
      let stands : StandAt v b o (branch_slots x.by x.rs1 x.rs2 a) = subst (λ (ss : List Slot). StandAt v b o ss) slots t.stands.words in
      record {
        op = x.by;
        rs1 = x.rs1;
        rs2 = x.rs2;
        off = x.off;
        is = is;
        same = same;
        taken = λ goes.
            goes_by f t.word (instr.Branch x.by x.rs1 x.rs2 x.off) a f.regs f.bus t.reads is refl
            (cond-true taken (Execute.jumps a f.regs f.regs f.bus) (goes_on f.pc f.regs f.bus) (same ∙ goes) ∙ lands a f.regs f.regs f.bus aligned);
        passed = λ stays.
            goes_by f t.word (instr.Branch x.by x.rs1 x.rs2 x.off) (sum_of f.pc 4) f.regs f.bus t.reads is refl
            (cond-false taken (Execute.jumps a f.regs f.regs f.bus) (goes_on f.pc f.regs f.bus) (same ∙ stays));
        slots = slots;
        exit = stand_exit v b (o + 1) a m.imm stands.1 to aligned;
        behind = behind v t.word f.pc b o 3 (instr.Branch x.by x.rs1 x.rs2 x.off) (branch_slots x.by x.rs1 x.rs2 a) t.stands is refl slots refl;
      }
