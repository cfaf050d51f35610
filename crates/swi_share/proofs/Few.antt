-- How far one event raises counts: of machine instructions four, and two where it ends the run before a store into the text; of services three.
use Rattle.std.proofs.Common.{◌≡◌, ◌⊎◌, ℕ, ◌+◌, ◌*◌, ◌≤◌, Bool, true, false, if◌then◌else◌, List, [], ◌∷◌, length, Option, Some, None, is_some, refl, ap, arith, inl, inr}
use Rattle.swi_isa.specs.declared.instr.Instr.{Instr}
use Rattle.swi_isa.specs.Decode.{decoded}
use Rattle.swi_memory.specs.Bus.{fetched}
use Rattle.swi_exec.specs.Execute.{executed}
use Rattle.swi_calls.specs.Flat.{Made, made, with_word, with_instruction, started}
use Rattle.swi_calls.specs.Held.{held, held_step, held_run}
use Rattle.swi_calls.specs.StoresText.{next_store}
use Rattle.swi_calls.specs.declared.end.End.{End}
use Rattle.swi_calls.specs.declared.end.End.TheVariants as end
use Rattle.swi_calls.specs.declared.machine.Machine.{Machine}
use Rattle.swi_image.specs.Format.{ImageData}
use Rattle.swi_image.specs.Place.{place_of}
use Rattle.swi_rom.specs.Record.{Record, Transfer, indirect, writes}
use Rattle.swi_rom.specs.Service.{Setting}
use Rattle.swi_rom.specs.Policy.{served_one, served_writes, with_link}
use Rattle.swi_slots.specs.Fifo.{fifo, arrived, fifo_arrival, fifo_extent, extent_of}
use Rattle.swi_hart.specs.Bounds.{depth, most_by}
use Rattle.swi_hart.specs.Leaving.{moved}
use Rattle.swi_hart.specs.declared.hart.Control.{Control}
use Rattle.swi_hart.proofs.Growing.{after_one}
use Rattle.swi_board.specs.Transfers.{transfers, after_all}
use Rattle.swi_board.proofs.Counting.{transfers_few}
use Rattle.swi_share.specs.Shared.{Context, enters, entered_if, begun_if, event_of, flat_of}
use Rattle.swi_share.specs.Waiting.{most_steps, most_services}

-- ---- a step of the flat machine over a text that is fixed

-- a step is counted, unless it would store into the text
unfoldable pub Counted : ℕ → Machine → Type 0
Counted n m = (m.steps ≡ n + 1) ⊎ ((a : ℕ) × (m.ending ≡ Some (end.StoreText a)) × (m.steps ≡ n))

instruction_one : (m : Machine) (x : Option Instr) (input : List ℕ) → (with_instruction m x input).machine.steps ≡ m.steps + 1
instruction_one m None input = refl
instruction_one m (Some x) input =
    let e = executed x m.pc m.regs m.bus in
    after_one (record m { regs = e.regs; bus = e.bus }) e.done input

word_one : (m : Machine) (w : Option ℕ) (input : List ℕ) → (with_word m w input).machine.steps ≡ m.steps + 1
word_one m None input = refl
word_one m (Some w) input = instruction_one m (decoded w) input

held_counted : (m : Machine) (a : Option ℕ) (M : Made) (input : List ℕ) → M.machine.steps ≡ m.steps + 1 → Counted m.steps (held m a M input).machine
unfolding Counted
held_counted m None M input one = inl one
held_counted m (Some a) M input one = inr (a, refl, refl)

pub run_one : (m : Machine) (input : List ℕ) → m.ending ≡ None → held_run 1 (started m input) ≡ held_step (started m input)
unfolding held_run
run_one m input going = ap (λ (e : Option End). if is_some e then started m input else held_step (started m input)) going

pub run_counted : (m : Machine) (input : List ℕ) → m.ending ≡ None → Counted m.steps (held_run 1 (started m input)).machine
unfolding made
run_counted m input going =
    rw (run_one m input going) (held_counted m (next_store m) (made m input) input (word_one m (fetched m.bus m.pc) input))

-- ---- machine instructions

pub bounded_after : (e : Option End) (v : ImageData) (m : Machine) (c : Control) (n k : ℕ) → e ≡ m.ending → (e ≡ None → depth v m c ≤ 1) → k ≤ n + most_by e v m c → Counted n m → k ≤ most_steps e m.steps
unfolding Counted
bounded_after None v m c n k is shallow le (inl one) = omega (arith, shallow refl, le, one)
bounded_after None v m c n k is shallow le (inr w) = absurd (cc (is, w.1))
bounded_after (Some (end.Exited code)) v m c n k is shallow le (inl one) = omega (arith, le, one)
bounded_after (Some (end.Exited code)) v m c n k is shallow le (inr w) = absurd (cc (is, w.1))
bounded_after (Some (end.Faulted f a)) v m c n k is shallow le (inl one) = omega (arith, le, one)
bounded_after (Some (end.Faulted f a)) v m c n k is shallow le (inr w) = absurd (cc (is, w.1))
bounded_after (Some (end.StoreText a)) v m c n k is shallow le (inl one) = omega (arith, le, one)
bounded_after (Some (end.StoreText a)) v m c n k is shallow le (inr w) = omega (arith, le, w.2)

-- ---- services

pub services_after : (e : Option End) (m : Machine) (n : ℕ) → e ≡ m.ending → Counted n m → 3 * n + 3 ≤ most_services e m.steps
unfolding Counted
services_after None m n is (inl one) = omega (arith, one)
services_after None m n is (inr w) = absurd (cc (is, w.1))
services_after (Some (end.Exited code)) m n is (inl one) = omega (arith, one)
services_after (Some (end.Exited code)) m n is (inr w) = absurd (cc (is, w.1))
services_after (Some (end.Faulted f a)) m n is (inl one) = omega (arith, one)
services_after (Some (end.Faulted f a)) m n is (inr w) = absurd (cc (is, w.1))
services_after (Some (end.StoreText a)) m n is (inl one) = omega (arith, one)
services_after (Some (end.StoreText a)) m n is (inr w) = omega (arith, w.2)

one_more : (by : Setting) (r : Record) (v : ImageData) (t : Transfer) → (fifo by r v t).counts.services ≤ r.counts.services + 1
one_more by = served_one arrived with_link by fifo_arrival

after_services : (by : Setting) (v : ImageData) (r : Record) (ts : List Transfer) → (after_all (fifo by) v r ts).counts.services ≤ r.counts.services + length ts
after_services by v r [] = omega arith
after_services by v r (t ∷ ts) = omega (arith, one_more by r v t, after_services by v (fifo by r v t) ts)

pub entered_services : (t : Bool) (by : Setting) (r : Record) (c : Context) → (entered_if t by r c).counts.services ≤ r.counts.services + 1
entered_services false by r c = omega arith
entered_services true by r c = at (is_some (place_of c.image c.machine.pc))
  where
    at : (t : Bool) → (moved (fifo by) r c.image (if t then Some (indirect c.machine.pc) else None)).counts.services ≤ r.counts.services + 1
    at true = one_more by r c.image (indirect c.machine.pc)
    at false = omega arith

-- an event asks for three services at most
pub event_services : (by : Setting) (r : Record) (c : Context) → (event_of by r c).kept.counts.services ≤ r.counts.services + 3
event_services by r c =
    let b = begun_if (enters r c) c in
    let before = entered_services (enters r c) by r c in
    let few = transfers_few b.image 1 (flat_of b) b.place in
    let after = after_services by b.image (entered_if (enters r c) by r c) (transfers b.image 1 (flat_of b) b.place) in
    omega (arith, before, few, after)

-- ---- writes, and the words that can have been written

more_writes : (by : Setting) (r : Record) (v : ImageData) (t : Transfer) → writes r ≤ writes (fifo by r v t)
more_writes by = served_writes arrived with_link by fifo_arrival

pub all_writes : (by : Setting) (v : ImageData) (r : Record) (ts : List Transfer) → writes r ≤ writes (after_all (fifo by) v r ts)
all_writes by v r [] = omega arith
all_writes by v r (t ∷ ts) = omega (arith, more_writes by r v t, all_writes by v (fifo by r v t) ts)

pub all_extent : (by : Setting) (v : ImageData) (r : Record) (ts : List Transfer) → extent_of by r ≤ extent_of by (after_all (fifo by) v r ts)
all_extent by v r [] = omega arith
all_extent by v r (t ∷ ts) = omega (arith, fifo_extent by r v t, all_extent by v (fifo by r v t) ts)

pub entered_writes : (t : Bool) (by : Setting) (r : Record) (c : Context) → writes r ≤ writes (entered_if t by r c)
entered_writes false by r c = omega arith
entered_writes true by r c = at (is_some (place_of c.image c.machine.pc))
  where
    at : (t : Bool) → writes r ≤ writes (moved (fifo by) r c.image (if t then Some (indirect c.machine.pc) else None))
    at true = more_writes by r c.image (indirect c.machine.pc)
    at false = omega arith

entered_extent : (t : Bool) (by : Setting) (r : Record) (c : Context) → extent_of by r ≤ extent_of by (entered_if t by r c)
entered_extent false by r c = omega arith
entered_extent true by r c = at (is_some (place_of c.image c.machine.pc))
  where
    at : (t : Bool) → extent_of by r ≤ extent_of by (moved (fifo by) r c.image (if t then Some (indirect c.machine.pc) else None))
    at true = fifo_extent by r c.image (indirect c.machine.pc)
    at false = omega arith

-- an event takes no write back
pub event_writes : (by : Setting) (r : Record) (c : Context) → writes r ≤ writes (event_of by r c).kept
event_writes by r c =
    let b = begun_if (enters r c) c in
    omega (arith, entered_writes (enters r c) by r c, all_writes by b.image (entered_if (enters r c) by r c) (transfers b.image 1 (flat_of b) b.place))

pub event_extent : (by : Setting) (r : Record) (c : Context) → extent_of by r ≤ extent_of by (event_of by r c).kept
event_extent by r c =
    let b = begun_if (enters r c) c in
    omega (arith, entered_extent (enters r c) by r c, all_extent by b.image (entered_if (enters r c) by r c) (transfers b.image 1 (flat_of b) b.place))
