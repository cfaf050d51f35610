-- Each machine instruction but the boot fetches a word, but for a step at an address without a text word.
use Rattle.std.proofs.Common.{◌≡◌, ◌==◌, if◌then◌else◌, ℕ, zero, suc, ◌+◌, ◌*◌, ◌/◌, ◌%◌, ◌^◌, ◌<◌, Bool, true, false, not, Option, Some, None, is_some, List, length, refl, sym, ap, subst, ◌∙◌, inl, inr, arith}
use Rattle.std.proofs.lemmas.Bool.{false≢true, cases_Bool, and_parts}
use Rattle.std.proofs.lemmas.Bool.Decides.{nat_tests}
use Rattle.swi_isa.specs.declared.instr.AtomicOp.{AtomicOp}
use Rattle.swi_isa.specs.declared.instr.AtomicOp.TheVariants.{LrW, ScW, SwapW, AddW, XorW, AndW, OrW, MinW, MaxW, MinuW, MaxuW}
use Rattle.swi_isa.specs.declared.instr.Instr.{Instr}
use Rattle.swi_isa.specs.declared.instr.Instr.TheVariants as instr
use Rattle.swi_isa.specs.Decode.{decoded}
use Rattle.swi_memory.specs.Bus.{AreaData, holds, fetched}
use Rattle.swi_memory.specs.declared.right.Right.TheVariants.{Read, Write}
use Rattle.swi_exec.specs.Arithmetic.{sum_of}
use Rattle.swi_exec.specs.Registers.{Registers, reg}
use Rattle.swi_exec.specs.Execute.{Effect, executed, is_taken, lets_reserve, lets_store_word, lets_update, is_reserved, load_size, store_size, address_of, updates, jumps}
use Rattle.swi_exec.specs.declared.done.Done.{Done}
use Rattle.swi_exec.specs.declared.done.Done.TheVariants as done
use Rattle.swi_exec.specs.declared.done.FaultKind.TheVariants as kind
use Rattle.swi_calls.specs.declared.end.End.{End}
use Rattle.swi_calls.specs.declared.end.End.TheVariants.{Faulted}
use Rattle.swi_calls.specs.declared.machine.Machine.{Machine}
use Rattle.swi_calls.specs.Call.{CallEffect, called}
use Rattle.swi_calls.specs.Flat.{Made, made, after, with_call, past_call, with_instruction, with_word}
use Rattle.swi_calls.specs.Held.{held, held_made, held_run, held_step}
use Rattle.swi_calls.specs.Laws.{held_run_none, held_run_over, held_run_more}
use Rattle.swi_calls.specs.State.{FlatState}
use Rattle.swi_calls.specs.StoresText.{next_store, word_store}
use Rattle.swi_image.specs.Format.{ImageData}
use Rattle.swi_image.specs.Place.{place_of}
use Rattle.swi_render.specs.Carried.{Carries}
use Rattle.swi_hart.specs.declared.hart.Control.TheVariants.{Outside}
use Rattle.swi_hart.specs.Hart.{is_place, original, slots}
use Rattle.swi_board.specs.Transfers.{Here, at_fall, settled, step_size, size, here_after, jumps_as}
use Rattle.swi_board.proofs.Counting.{cost_none, cost_more, over_cost}
use Rattle.swi_hart.proofs.Kept.{image_same, next_text}
use Rattle.swi_cached.specs.Cached.{CachedRun, IsCounted, unfetched}

-- ---- what an instruction leads to: a pc of 32 bits, or an ending that is not that of a fetch

abbrev IsSmall : Done → Type 0
IsSmall (done.Next pc) = pc < 2 ^ 32
IsSmall done.Call = Unit {0}
IsSmall done.Break = Unit {0}
IsSmall (done.Fault k a) = unfetched (Some (Faulted k a)) ≡ 0

if_small : (t : Bool) (a b : Effect) → IsSmall a.done → IsSmall b.done → IsSmall (if t then a else b).done
if_small true a b p q = p
if_small false a b p q = q

sum_small : (a b : ℕ) → sum_of a b < 2 ^ 32
sum_small a b = omega arith

even_small : (a : ℕ) → a < 2 ^ 32 → a / 2 * 2 < 2 ^ 32
even_small a h = omega (arith, h)

jumps_small : (t : ℕ) (old new : Registers) (bus : List AreaData) → t < 2 ^ 32 → IsSmall (jumps t old new bus).done
jumps_small t old new bus h = if_small (t % 4 == 0) _ _ h refl

module _ (p : ℕ) (regs : Registers) (bus : List AreaData) where
  updates_small : (op : AtomicOp) (rd a k : ℕ) → IsSmall (updates op rd a k p regs bus).done
  updates_small op rd a k = if_small (lets_update bus a) _ _ (sum_small p 4) refl

  atomic_small : (op : AtomicOp) (rd rs1 rs2 : ℕ) → IsSmall (executed (instr.Atomic op rd rs1 rs2) p regs bus).done
  atomic_small LrW rd rs1 rs2 = if_small (lets_reserve bus (reg regs rs1)) _ _ (sum_small p 4) refl
  atomic_small ScW rd rs1 rs2 = if_small (lets_store_word bus (reg regs rs1)) _ _ (if_small (is_reserved regs (reg regs rs1)) _ _ (sum_small p 4) (sum_small p 4)) refl
  atomic_small SwapW rd rs1 rs2 = updates_small SwapW rd (reg regs rs1) (reg regs rs2)
  atomic_small AddW rd rs1 rs2 = updates_small AddW rd (reg regs rs1) (reg regs rs2)
  atomic_small XorW rd rs1 rs2 = updates_small XorW rd (reg regs rs1) (reg regs rs2)
  atomic_small AndW rd rs1 rs2 = updates_small AndW rd (reg regs rs1) (reg regs rs2)
  atomic_small OrW rd rs1 rs2 = updates_small OrW rd (reg regs rs1) (reg regs rs2)
  atomic_small MinW rd rs1 rs2 = updates_small MinW rd (reg regs rs1) (reg regs rs2)
  atomic_small MaxW rd rs1 rs2 = updates_small MaxW rd (reg regs rs1) (reg regs rs2)
  atomic_small MinuW rd rs1 rs2 = updates_small MinuW rd (reg regs rs1) (reg regs rs2)
  atomic_small MaxuW rd rs1 rs2 = updates_small MaxuW rd (reg regs rs1) (reg regs rs2)

  executed_small : (x : Instr) → IsSmall (executed x p regs bus).done
  executed_small (instr.Lui rd imm) = sum_small p 4
  executed_small (instr.Auipc rd imm) = sum_small p 4
  executed_small (instr.Jal rd off) = jumps_small (sum_of p off) _ _ bus (sum_small p off)
  executed_small (instr.Jalr rd rs1 imm) = jumps_small (address_of regs rs1 imm / 2 * 2) _ _ bus (even_small (address_of regs rs1 imm) (sum_small (reg regs rs1) imm))
  executed_small (instr.Branch op rs1 rs2 off) = if_small (is_taken op (reg regs rs1) (reg regs rs2)) _ _ (jumps_small (sum_of p off) _ _ bus (sum_small p off)) (sum_small p 4)
  executed_small (instr.Load op rd rs1 imm) = if_small (holds bus Read (address_of regs rs1 imm) (load_size op)) _ _ (sum_small p 4) refl
  executed_small (instr.Store op rs1 rs2 imm) = if_small (holds bus Write (address_of regs rs1 imm) (store_size op)) _ _ (sum_small p 4) refl
  executed_small (instr.Alu op rd rs1 imm) = sum_small p 4
  executed_small (instr.Op op rd rs1 rs2) = sum_small p 4
  executed_small (instr.Atomic op rd rs1 rs2) = atomic_small op rd rs1 rs2
  executed_small instr.Fence = sum_small p 4
  executed_small instr.Ecall = tt
  executed_small instr.Ebreak = tt

-- ---- a step of the program

abbrev pub IsFound : Machine → Type 0
IsFound m = (m.pc < 2 ^ 32) × (unfetched m.ending ≡ 0)

call_found : (m : Machine) (c : CallEffect) (code : Option ℕ) → IsFound m → IsFound (past_call (with_call m c) code)
call_found m c None found = (sum_small m.pc 4, found.1)
call_found m c (Some code) found = (found.0, refl)

after_found : (m : Machine) (d : Done) (input : List ℕ) → IsFound m → IsSmall d → IsFound (after m d input).machine
after_found m (done.Next pc) input found small = (small, found.1)
after_found m done.Call input found small = call_found m (called m.log m.regs m.bus m.heap input) (called m.log m.regs m.bus m.heap input).exited found
after_found m done.Break input found small = (found.0, refl)
after_found m (done.Fault k a) input found small = (found.0, small)

instruction_found : (m : Machine) (x : Option Instr) (input : List ℕ) → IsFound m → IsFound (with_instruction m x input).machine
instruction_found m None input found = (found.0, refl)
instruction_found m (Some x) input found =
    after_found (record m { regs = (executed x m.pc m.regs m.bus).regs; bus = (executed x m.pc m.regs m.bus).bus }) (executed x m.pc m.regs m.bus).done input found
    (executed_small m.pc m.regs m.bus x)

held_found : (m : Machine) (a : Option ℕ) (M : Made) (input : List ℕ) → IsFound m → IsFound M.machine → IsFound (held m a M input).machine
held_found m None M input found step = step
held_found m (Some a) M input found step = (found.0, refl)

made_is : (m : Machine) (input : List ℕ) (k : Option ℕ) → fetched m.bus m.pc ≡ k → made m input ≡ with_word m k input
unfolding made
made_is m input k e = ap (λ (x : Option ℕ). with_word m x input) e

-- a step at a text word
pub step_found : (m : Machine) (input : List ℕ) (w : ℕ) → fetched m.bus m.pc ≡ Some w → IsFound m → IsFound (held_made m input).machine
step_found m input w e found =
    held_found m (next_store m) (made m input) input found
    (subst (λ (M : Made). IsFound M.machine) (sym (made_is m input (Some w) e)) (instruction_found m (decoded w) input found))

-- a step at an address without one
pub step_lost : (m : Machine) (input : List ℕ) → fetched m.bus m.pc ≡ None → (held_made m input).machine.ending ≡ Some (Faulted kind.FetchAccess m.pc)
step_lost m input e =
    ap (λ (a : Option ℕ). (held m a (made m input) input).machine.ending) (ap (λ (k : Option ℕ). word_store m k) e)
    ∙ ap (λ (M : Made). M.machine.ending) (made_is m input None e)

-- ---- a run

none_of : (e : Option End) → is_some e ≡ false → e ≡ None
none_of None h = refl
none_of (Some x) h = absurd (false≢true (sym h))

pub lost_text : (v : ImageData) (text : ℕ → Option ℕ) (a : ℕ) → Carries text v → place_of v a ≡ None → text a ≡ None
lost_text v text a image none = by (text a) refl
  where
    by : (k : Option ℕ) → text a ≡ k → text a ≡ None
    by None e = e
    by (Some w) e = absurd (let some = image.stands a w e in let is = some.2 in let bad : ⊥ = cc in bad)

pub found_text : (v : ImageData) (text : ℕ → Option ℕ) (a : ℕ) (q : ℕ × ℕ) → Carries text v → a < 2 ^ 32 → place_of v a ≡ Some q → (w : ℕ) × (text a ≡ Some w)
found_text v text a q image word some = by (text a) refl
  where
    by : (k : Option ℕ) → text a ≡ k → (w : ℕ) × (text a ≡ Some w)
    by None e = absurd (let none = image.nowhere a word e in let bad : ⊥ = cc in bad)
    by (Some w) e = (w, e)

pub place_is : (p : Option (ℕ × ℕ)) (b o : ℕ) → is_place p b o ≡ true → p ≡ Some (b, o)
place_is None b o e = absurd (false≢true e)
place_is (Some (x, y)) b o e =
    let parts = and_parts (x == b) (y == o) e in
    let first : x ≡ b = grind (arith, nat_tests, parts.0) in
    let second : y ≡ o = grind (arith, nat_tests, parts.1) in
    ap (λ (n : ℕ). Some (n, y)) first ∙ ap (λ (n : ℕ). Some (b, n)) second

-- a step begins at its text word's place
settled_place : (v : ImageData) (m : Machine) (here : Here) → (here ≡ None → place_of v m.pc ≡ None) → settled v m here ≡ place_of v m.pc
settled_place v m None known = sym (known refl)
settled_place v m (Some (b, o)) known =
    elim (cases_Bool (is_place (place_of v m.pc) b o)) [
      | inl here ↦ ap (λ (t : Bool). if not t then place_of v m.pc else Some (b, o)) here ∙ sym (place_is (place_of v m.pc) b o here)
      | inr fall ↦ ap (λ (t : Bool). if not t then place_of v m.pc else Some (b, o)) fall
    ]

pub next_known : (v : ImageData) (m : Machine) (q : ℕ × ℕ) (next : Machine) → here_after v m (Some q) next ≡ None → place_of v next.pc ≡ None
next_known v m q next = by (jumps_as m (original m))
  where
    by : (t : Bool) → (if t then place_of v next.pc else Some (q.0, q.1 + length (slots m))) ≡ None → place_of v next.pc ≡ None
    by true e = e
    by false e = absurd (let bad : ⊥ = cc in bad)

-- where a run's size counts a step outside the text, and where it doesn't
sizes : (v : ImageData) (k : ℕ) (s : FlatState) (here : Here) → Carries (fetched s.machine.bus) v → IsFound s.machine → (here ≡ None → place_of v s.machine.pc ≡ None) →
    size 1 v k s here ≡ size 0 v k s here + unfetched (held_run k s).machine.ending
sizes v zero s here image found known =
    let one = cost_none 1 v s here in
    let none = cost_none 0 v s here in
    let rest : unfetched (held_run 0 s).machine.ending ≡ 0 = ap (λ (x : FlatState). unfetched x.machine.ending) (held_run_none s) ∙ found.1 in
    omega (arith, one, none, rest)
sizes v (suc k) s here image found known =
    elim (cases_Bool (is_some s.machine.ending)) [
      | inl over ↦
          let one = over_cost 1 v (suc k) s here over in
          let none = over_cost 0 v (suc k) s here over in
          let rest : unfetched (held_run (suc k) s).machine.ending ≡ 0 = ap (λ (x : FlatState). unfetched x.machine.ending) (held_run_over (suc k) s over) ∙ found.1 in
          omega (arith, one, none, rest)
      | inr going ↦ by going (λ h i f n. sizes v k (held_step s) h i f n) (place_of v s.machine.pc) refl
    ]
  where
    next : Machine
    next = (held_step s).machine

    fall : ℕ
    fall = if at_fall v s.machine here then 1 else 0

    more : (outside : ℕ) (p : Here) → is_some s.machine.ending ≡ false → place_of v s.machine.pc ≡ p →
        size outside v (suc k) s here ≡ fall + step_size outside s.machine p + size outside v k (held_step s) (here_after v s.machine p next)
    more outside p going place =
        cost_more outside v k s here going
        ∙ ap (λ (h : Here). fall + step_size outside s.machine h + size outside v k (held_step s) (here_after v s.machine h next)) (settled_place v s.machine here known ∙ place)

    by : is_some s.machine.ending ≡ false → ((h : Here) → Carries (fetched next.bus) v → IsFound next → (h ≡ None → place_of v next.pc ≡ None) →
        size 1 v k (held_step s) h ≡ size 0 v k (held_step s) h + unfetched (held_run k (held_step s)).machine.ending) →
        (p : Here) → place_of v s.machine.pc ≡ p → size 1 v (suc k) s here ≡ size 0 v (suc k) s here + unfetched (held_run (suc k) s).machine.ending
    by going others None place =
        let end = step_lost s.machine s.input (lost_text v (fetched s.machine.bus) s.machine.pc image place) in
        let over : is_some next.ending ≡ true = ap (λ (e : Option End). is_some e) end in
        let one = more 1 None going place in
        let none = more 0 None going place in
        let rest_one = over_cost 1 v k (held_step s) (here_after v s.machine None next) over in
        let rest_none = over_cost 0 v k (held_step s) (here_after v s.machine None next) over in
        let last : unfetched (held_run (suc k) s).machine.ending ≡ 1 =
        ap (λ (x : FlatState). unfetched x.machine.ending) (held_run_more k s going ∙ held_run_over k (held_step s) over) ∙ ap (λ (e : Option End). unfetched e) end in
        omega (arith, one, none, rest_one, rest_none, last)
    by going others (Some q) place =
        let text = found_text v (fetched s.machine.bus) s.machine.pc q image found.0 place in
        let rest = others (here_after v s.machine (Some q) next)
        (image_same v (fetched s.machine.bus) (fetched next.bus) (λ a. next_text a v s.machine Outside s.machine s.input) image)
        (step_found s.machine s.input text.0 text.1 found) (next_known v s.machine q next) in
        let one = more 1 (Some q) going place in
        let none = more 0 (Some q) going place in
        let last : unfetched (held_run (suc k) s).machine.ending ≡ unfetched (held_run k (held_step s)).machine.ending = ap (λ (x : FlatState). unfetched x.machine.ending) (held_run_more k s going) in
        omega (arith, one, none, rest, last)

pub is_counted : (c : CachedRun) → Carries (fetched c.start.machine.bus) c.image → c.start.machine.pc < 2 ^ 32 → c.start.machine.ending ≡ None → IsCounted c
is_counted c image word going = λ n.
    let all = sizes c.image n c.start (place_of c.image c.start.machine.pc) image (word, ap (λ (e : Option End). unfetched e) going) (λ e. e) in
    omega (arith, all)
