-- How much of the input a step takes.
use Rattle.std.proofs.Common.{◌≡◌, ◌⊎◌, ◌==◌, if◌then◌else◌, ℕ, zero, suc, ◌+◌, ◌-◌, ◌≤◌, Bool, true, false, ◌&&◌, ◌||◌, Option, Some, None, List, [], ◌∷◌, ◌++◌, length, drop, refl, ap, ◌∙◌, inl, inr, arith}
use Rattle.std.specs.Io.KnownBytes.{Consumes}
use Rattle.swi_isa.specs.declared.instr.Instr.{Instr}
use Rattle.swi_isa.specs.Decode.{decoded}
use Rattle.swi_memory.specs.Bus.{AreaData, holds, fetched}
use Rattle.swi_memory.specs.declared.right.Right.TheVariants.{Read, Write}
use Rattle.swi_exec.specs.Registers.{Registers}
use Rattle.swi_exec.specs.Execute.{executed}
use Rattle.swi_exec.specs.declared.done.Done.{Done}
use Rattle.swi_exec.specs.declared.done.Done.TheVariants as done
use Rattle.swi_calls.specs.declared.heap.Heap.{Heap}
use Rattle.swi_calls.specs.declared.machine.Machine.{Machine}
use Rattle.swi_calls.specs.Call.{Served, called, served, room_of_call, read_room, number_of, first_argument, second_argument, third_argument, ends_run}
use Rattle.swi_calls.specs.StoresText.{next_store}
use Rattle.swi_calls.specs.Flat.{Made, made, after, call_made, with_instruction, with_word as with_fetched}
use Rattle.swi_calls.specs.Held.{held, held_made}

length_drop : (n : ℕ) (l : List ℕ) → length (drop n l) ≡ length l - n
length_drop zero l = omega arith
length_drop (suc n) [] = omega arith
length_drop (suc n) (x ∷ l) = let rest = length_drop n l in omega arith

length_append : (x y : List ℕ) → length (x ++ y) ≡ length x + length y
length_append [] y = omega arith
length_append (a ∷ x) y = let rest = length_append x y in omega arith

-- what was consumed of a known input is no more than it had
consumed_few : (l : List ℕ) (left' : Option (List ℕ)) (bytes : List ℕ) → Consumes (Some l) left' bytes → length bytes ≤ length l
consumed_few l None bytes c = absurd c
consumed_few l (Some rest) bytes c = let e : length l ≡ length (bytes ++ rest) = ap (λ (k : List ℕ). length k) c in omega (arith, e, length_append bytes rest)

if_input : (P : List ℕ → Type 0) (t : Bool) (a b : Served) → (t ≡ true → P a.input) → (t ≡ false → P b.input) → P (if t then a else b).input
if_input P true a b p q = p refl
if_input P false a b p q = q refl

-- what is left of the input after a call: all, where the call has no room, or all but a front as long as the room
served_left : (regs : Registers) (bus : List AreaData) (heap : Heap) (input : List ℕ) →
    (((served regs bus heap input).input ≡ input) × (room_of_call regs bus ≡ 0)) ⊎ (((served regs bus heap input).input ≡ drop (third_argument regs) input) × (room_of_call regs bus ≡ third_argument regs))
served_left regs bus heap input =
    if_input Left (number_of regs == 63) _ _
    (λ n. if_input Left (first_argument regs == 0) _ _
    (λ d. if_input Left (holds bus Write (second_argument regs) (third_argument regs)) _ _
    (λ h. inr (refl, room_is n ∙ read_is d ∙ ap (λ (t : Bool). if t then third_argument regs else 0) h))
    (λ h. inl (refl, room_is n ∙ read_is d ∙ ap (λ (t : Bool). if t then third_argument regs else 0) h)))
    (λ d. inl (refl, room_is n ∙ ap (λ (t : Bool). if t && holds bus Write (second_argument regs) (third_argument regs) then third_argument regs else 0) d)))
    (λ n. if_input Left (number_of regs == 64) _ _
    (λ e. if_input Left (first_argument regs == 1 || first_argument regs == 2) _ _
    (λ e. if_input Left (holds bus Read (second_argument regs) (third_argument regs)) _ _ (λ e. inl (refl, none n)) (λ e. inl (refl, none n))) (λ e. inl (refl, none n)))
    (λ e. if_input Left (ends_run (number_of regs)) _ _ (λ e. inl (refl, none n)) (λ e. if_input Left (number_of regs == 214) _ _ (λ e. inl (refl, none n)) (λ e. inl (refl, none n)))))
  where
    Left : List ℕ → Type 0
    Left l = ((l ≡ input) × (room_of_call regs bus ≡ 0)) ⊎ ((l ≡ drop (third_argument regs) input) × (room_of_call regs bus ≡ third_argument regs))

    room_is : (number_of regs == 63) ≡ true → room_of_call regs bus ≡ read_room (first_argument regs) (second_argument regs) (third_argument regs) bus
    room_is n = ap (λ (t : Bool). if t then read_room (first_argument regs) (second_argument regs) (third_argument regs) bus else 0) n

    read_is : (first_argument regs == 0) ≡ true → read_room (first_argument regs) (second_argument regs) (third_argument regs) bus ≡ (if holds bus Write (second_argument regs) (third_argument regs) then third_argument regs else 0)
    read_is d = ap (λ (t : Bool). if t && holds bus Write (second_argument regs) (third_argument regs) then third_argument regs else 0) d

    none : (number_of regs == 63) ≡ false → room_of_call regs bus ≡ 0
    none n = ap (λ (t : Bool). if t then read_room (first_argument regs) (second_argument regs) (third_argument regs) bus else 0) n

call_left : (m : Machine) (input : List ℕ) → (((call_made m input).input ≡ input) × (room_of_call m.regs m.bus ≡ 0)) ⊎ (((call_made m input).input ≡ drop (third_argument m.regs) input) × (room_of_call m.regs m.bus ≡ third_argument m.regs))
unfolding called
call_left m input = served_left m.regs m.bus m.heap input

-- a call that a device broke off took no more than it takes
pub taken_few : (m : Machine) (l bytes : List ℕ) (left' : Option (List ℕ)) → length bytes ≤ room_of_call m.regs m.bus → Consumes (Some l) left' bytes → length bytes + length (call_made m l).input ≤ length l
taken_few m l bytes left' room took =
    let few = consumed_few l left' bytes took in
    elim (call_left m l) [
      | inl all ↦ let e : length (call_made m l).input ≡ length l = ap (λ (k : List ℕ). length k) all.0 in omega (arith, all.1, room, e)
      | inr less ↦
          let e : length (call_made m l).input ≡ length (drop (third_argument m.regs) l) = ap (λ (k : List ℕ). length k) less.0 in
          omega (arith, less.1, room, few, e, length_drop (third_argument m.regs) l)
    ]

-- no step has more input left than before
call_shrinks : (m : Machine) (input : List ℕ) → length (call_made m input).input ≤ length input
call_shrinks m input =
    elim (call_left m input) [
      | inl all ↦ let e : length (call_made m input).input ≡ length input = ap (λ (k : List ℕ). length k) all.0 in omega (arith, e)
      | inr less ↦
          let e : length (call_made m input).input ≡ length (drop (third_argument m.regs) input) = ap (λ (k : List ℕ). length k) less.0 in
          omega (arith, e, length_drop (third_argument m.regs) input)
    ]

after_shrinks : (m : Machine) (d : Done) (input : List ℕ) → length (after m d input).input ≤ length input
after_shrinks m (done.Next p) input = omega arith
after_shrinks m done.Call input = call_shrinks m input
after_shrinks m done.Break input = omega arith
after_shrinks m (done.Fault k a) input = omega arith

instruction_shrinks : (f : Machine) (x : Option Instr) (input : List ℕ) → length (with_instruction f x input).input ≤ length input
instruction_shrinks f None input = omega arith
instruction_shrinks f (Some i) input = after_shrinks (record f { regs = (executed i f.pc f.regs f.bus).regs; bus = (executed i f.pc f.regs f.bus).bus }) (executed i f.pc f.regs f.bus).done input

fetched_shrinks : (f : Machine) (k : Option ℕ) (input : List ℕ) → length (with_fetched f k input).input ≤ length input
fetched_shrinks f None input = omega arith
fetched_shrinks f (Some w) input = instruction_shrinks f (decoded w) input

made_shrinks : (f : Machine) (input : List ℕ) → length (made f input).input ≤ length input
unfolding made
made_shrinks f input = fetched_shrinks f (fetched f.bus f.pc) input

held_shrinks : (m : Machine) (a : Option ℕ) (M : Made) (input : List ℕ) → length M.input ≤ length input → length (held m a M input).input ≤ length input
held_shrinks m None M input le = le
held_shrinks m (Some a) M input le = omega arith

pub input_shrinks : (f : Machine) (input : List ℕ) → length (held_made f input).input ≤ length input
input_shrinks f input = held_shrinks f (next_store f) (made f input) input (made_shrinks f input)
