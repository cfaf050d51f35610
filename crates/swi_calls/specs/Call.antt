-- What a system call does. Numbers, argument registers and error answers are those of Linux on RISC-V for read, write, exit,
-- exit_group and brk; which of them exist, and that the break is a number only, is this project's own rule.
use Rattle.std.specs.Prelude.{◌≡◌, ◌==◌, ℕ, ◌-◌, ◌^◌, Bool, ◌&&◌, ◌||◌, nat_le, List, [], ◌++◌, length, take, drop, Option, Some, None, if◌then◌else◌}
use Rattle.swi_memory.specs.declared.right.Right.TheVariants.{Read, Write}
use Rattle.swi_memory.specs.Bus.{AreaData, holds, bytes_at, with_bytes}
use Rattle.swi_exec.specs.Registers.{Registers, reg, with_reg}
use Rattle.swi_calls.specs.declared.heap.Heap.{Heap}
use Rattle.swi_calls.specs.declared.request.Called.{Called}
use Rattle.swi_calls.specs.declared.request.Called.TheVariants.{Returned, Exited}
use Rattle.swi_calls.specs.declared.request.Request.{Request}
use Rattle.swi_calls.specs.Exchange.{Exchange}
use Rattle.swi_calls.specs.Text.{call_line}

-- the registers of a call: its number in a7, its arguments in a0, a1 and a2, where a0 takes the answer too
abbrev pub number_of : Registers → ℕ
number_of regs = reg regs 17

abbrev pub first_argument : Registers → ℕ
first_argument regs = reg regs 10

abbrev pub second_argument : Registers → ℕ
second_argument regs = reg regs 11

abbrev pub third_argument : Registers → ℕ
third_argument regs = reg regs 12

-- what the guest asks for
abbrev pub request_of : Registers → Request
request_of regs = record { number = number_of regs; first = first_argument regs; second = second_argument regs; third = third_argument regs }

-- a number below 0 as a word
abbrev pub minus : ℕ → ℕ
minus n = 2 ^ 32 - n

-- the answers of a bad descriptor, a bad address and an unknown call
abbrev pub bad_descriptor : ℕ
bad_descriptor = minus 9

abbrev pub bad_address : ℕ
bad_address = minus 14

abbrev pub unknown_call : ℕ
unknown_call = minus 38

-- what a call leaves but for the break: its answer, none where it ends the run; memory and the input; and what it writes
pub record Served : Type 0 where
  pub answer : Option ℕ
  pub bus : List AreaData
  pub input : List ℕ
  pub output : List ℕ
  pub error : List ℕ

-- what it does with the devices
abbrev pub exchange_of_call : Served → Exchange
exchange_of_call s = record { input = s.input; output = s.output; error = s.error }

-- an answer alone
abbrev pub answers : ℕ → List AreaData → List ℕ → Served
answers v bus input = record { answer = Some v; bus = bus; input = input; output = []; error = [] }

-- read(descriptor, buffer, count): the first bytes of the input, up to the count, and their number
abbrev pub read_served : ℕ → ℕ → ℕ → List AreaData → List ℕ → Served
read_served descriptor buffer count bus input =
    if descriptor == 0
    then (if holds bus Write buffer count
    then record {
      answer = Some (length (take count input));
      bus = with_bytes bus buffer (take count input);
      input = drop count input;
      output = [];
      error = [];
    }
    else answers bad_address bus input)
    else answers bad_descriptor bus input

-- the most bytes that a read takes: none where its descriptor or its buffer is bad
abbrev pub read_room : ℕ → ℕ → ℕ → List AreaData → ℕ
read_room descriptor buffer count bus = if (descriptor == 0) && holds bus Write buffer count then count else 0

-- write(descriptor, buffer, count): the whole buffer goes to the output, descriptor 1, or to the errors, descriptor 2
abbrev pub write_served : ℕ → ℕ → ℕ → List AreaData → List ℕ → Served
write_served descriptor buffer count bus input =
    if descriptor == 1 || descriptor == 2
    then (if holds bus Read buffer count
    then record {
      answer = Some count;
      bus = bus;
      input = input;
      output = (if descriptor == 1 then bytes_at bus buffer count else []);
      error = (if descriptor == 1 then [] else bytes_at bus buffer count);
    }
    else answers bad_address bus input)
    else answers bad_descriptor bus input

-- the answer of a write with a good descriptor, and the bytes that it writes
abbrev pub write_answer : ℕ → ℕ → List AreaData → ℕ
write_answer buffer count bus = if holds bus Read buffer count then count else bad_address

abbrev pub written : ℕ → ℕ → List AreaData → List ℕ
written buffer count bus = if holds bus Read buffer count then bytes_at bus buffer count else []

-- brk(a): the break becomes a where that lies in the heap, its end included
abbrev pub brk_heap : ℕ → Heap → Heap
brk_heap a heap = if nat_le heap.base a && nat_le a heap.limit then record heap { now = a } else heap

-- exit and exit_group
abbrev pub ends_run : ℕ → Bool
ends_run number = number == 93 || number == 94

-- the call that is asked for; the answer of brk is the break
abbrev pub served_by : Request → List AreaData → Heap → List ℕ → Served
served_by r bus heap input =
    if r.number == 63 then read_served r.first r.second r.third bus input
    else if r.number == 64 then write_served r.first r.second r.third bus input
    else if ends_run r.number then record { answer = None; bus = bus; input = input; output = []; error = [] }
    else if r.number == 214 then answers (brk_heap r.first heap).now bus input
    else answers unknown_call bus input

abbrev pub served : Registers → List AreaData → Heap → List ℕ → Served
served regs bus heap input = served_by (request_of regs) bus heap input

-- the most bytes of the input that a call takes
abbrev pub room_by : Request → List AreaData → ℕ
room_by r bus = if r.number == 63 then read_room r.first r.second r.third bus else 0

abbrev pub room_of_call : Registers → List AreaData → ℕ
room_of_call regs bus = room_by (request_of regs) bus

-- how a call with this answer goes on; one without ends the run with code a0
abbrev pub called_of : Request → Option ℕ → Called
called_of r None = Exited r.first
called_of r (Some v) = Returned v

abbrev pub answer_of : Called → Option ℕ
answer_of (Returned v) = Some v
answer_of (Exited code) = None

-- a call was served so: how it goes on, and memory after it
pub record IsServed (r : Request) (s : Served) (called : Called) (bus : List AreaData) : Type 0 where
  pub answered : called ≡ called_of r s.answer
  pub memory : bus ≡ s.bus

-- the break after the call
abbrev pub heap_by : Request → Heap → Heap
heap_by r heap = if r.number == 214 then brk_heap r.first heap else heap

abbrev pub heap_after : Registers → Heap → Heap
heap_after regs heap = heap_by (request_of regs) heap

-- the line of the call, where calls are told
abbrev pub told_by : Bool → Request → Option ℕ → List ℕ
told_by log r answer = if log then call_line r.number r.first r.second r.third answer else []

abbrev pub told : Bool → Registers → Option ℕ → List ℕ
told log regs answer = told_by log (request_of regs) answer

-- the answer goes to a0; a call that ends the run has none
abbrev pub with_answer : Registers → Option ℕ → Registers
with_answer regs None = regs
with_answer regs (Some v) = with_reg regs 10 v

-- all that a call changes and writes; its line comes after its own output
pub record CallEffect : Type 0 where
  pub exited : Option ℕ
  pub regs : Registers
  pub bus : List AreaData
  pub heap : Heap
  pub input : List ℕ
  pub output : List ℕ
  pub error : List ℕ

-- the exit code
abbrev pub code_of : Registers → Option ℕ → Option ℕ
code_of regs None = Some (first_argument regs)
code_of regs (Some v) = None

abbrev pub effect_of : Bool → Registers → Heap → Served → CallEffect
effect_of log regs heap s = record {
  exited = code_of regs s.answer;
  regs = with_answer regs s.answer;
  bus = s.bus;
  heap = heap_after regs heap;
  input = s.input;
  output = s.output;
  error = s.error ++ told log regs s.answer;
}

unfoldable pub called : Bool → Registers → List AreaData → Heap → List ℕ → CallEffect
called log regs bus heap input = effect_of log regs heap (served regs bus heap input)
