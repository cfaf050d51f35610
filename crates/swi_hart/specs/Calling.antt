-- What a word leaves that asks for a system call.
use Rattle.std.specs.Prelude.{◌≡◌, ◌⊎◌, ℕ, ◌+◌, ◌≤◌, ◌<◌, ◌^◌, true, List, [], length, Option, Some, None, Result, Ok, Err, OnOk, OnErr, ⊤}
use Rattle.std.specs.Option.{ForSome}
use Rattle.std.specs.Io.KnownBytes.{Appends, Consumes}
use Rattle.swi_outside.specs.Sink.{AppendsPrefix}
use Rattle.swi_hart.specs.declared.fault.BoardFault.{BoardFault}
use Rattle.swi_hart.specs.declared.fault.BoardFault.TheVariants.{RamFault, SourceFault, SinkFault}
use Rattle.swi_memory.specs.Bus.{AreaData}
use Rattle.swi_exec.specs.Arithmetic.{sum_of}
use Rattle.swi_calls.specs.Call.{room_of_call, second_argument}
use Rattle.swi_isa.specs.declared.instr.Instr.{Instr}
use Rattle.swi_isa.specs.declared.instr.Instr.TheVariants as instr
use Rattle.swi_calls.specs.declared.end.CallFault.{CallFault}
use Rattle.swi_outside.specs.Devices.{Devices}
use Rattle.swi_calls.specs.Told.{ExchangedTold as Exchanged, ReadsIntoTold as ReadsInto}
use Rattle.swi_calls.specs.Flat.{call_made, exchange_of}
use Rattle.swi_calls.specs.StoresText.{text_store_of}
use Rattle.swi_calls.specs.declared.machine.Machine.{Machine}
use Rattle.swi_hart.specs.declared.hart.Stage.{Stage}
use Rattle.swi_hart.specs.declared.hart.Stage.TheVariants.{Start}
use Rattle.swi_hart.specs.declared.hart.Control.TheVariants.{At}
use Rattle.swi_image.specs.Format.{ImageData}
use Rattle.swi_rom.specs.Record.{Record}
use Rattle.swi_hart.specs.Matching.{BoardStep}
use Rattle.swi_hart.specs.Hart.{HartData, Stepped, hart_after, behind, call_stepped, is_between}

-- where control is after a call, whatever was read
pub record Called (i b o : ℕ) (stage : Stage) (h h' : HartData) : Type 0 where
  pub control : h'.control ≡ behind h'.machine.ending (At (i + 1) b (o + 1) Start) (At i b o stage)
  pub pc : h'.machine.ending ≡ None → h'.machine.pc ≡ sum_of h.machine.pc 4
  pub steps : h'.machine.steps ≡ h.machine.steps + 1
  pub count : h'.count ≡ h.count + 1
  pub failed : h'.failed ≡ h.failed
  pub booted : h'.booted ≡ h.booted

-- a step that left the hart so, took this input and wrote these bytes
pub record Did (h h' : HartData) (s : Stepped) (left' out out' err err' : Option (List ℕ)) : Type 0 where
  pub hart : h' ≡ hart_after h s
  pub input : left' ≡ Some s.made.input
  pub output : Appends out out' s.made.output
  pub error : Appends err err' s.made.error

-- a front of the buffer of the read that the registers ask for may be filled, with just the bytes that were taken
abbrev pub Moved : Machine → List AreaData → Option (List ℕ) → Option (List ℕ) → Type 0
Moved m bus left left' = (k : ℕ) × (k ≤ room_of_call m.regs m.bus) × ReadsInto m.bus bus left left' (second_argument m.regs) k

-- a call that a device broke off
abbrev pub with_memory : HartData → List AreaData → HartData
with_memory h bus = record h { machine = record h.machine { bus = bus } }

-- a hart that goes on at a word of the ram, with room for a step
pub record ReadyAt (h : HartData) (i b o : ℕ) (stage : Stage) : Type 0 where
  pub running : h.machine.ending ≡ None
  pub few : h.machine.steps < 2 ^ 48
  pub count : h.count < 2 ^ 56
  pub control : h.control ≡ At i b o stage
  pub small : i < 2 ^ 22
  pub inside : o < 2 ^ 22

-- a word that was executed, takes no input and writes nothing
pub record QuietWord (word : List ℕ → Stepped) (h h' : HartData) : Type 0 where
  pub ran : (input : List ℕ) → h' ≡ hart_after h (word input)
  pub took : (input : List ℕ) → (word input).made.input ≡ input
  pub output : (input : List ℕ) → (word input).made.output ≡ []
  pub error : (input : List ℕ) → (word input).made.error ≡ []

-- a word that leads to this step, by the answer: it was executed, or a device broke it off and only the memory can have changed
pub record WordExecuted {T : Type 0} (word : List ℕ → Stepped) (h h' : HartData) (before after : Devices)
    (result : Result T CallFault) : Type 0 where
  pub hart : OnOk result (ForSome before.input.left (λ left. h' ≡ hart_after h (word left)))
  pub stays : OnErr result (h' ≡ with_memory h h'.machine.bus)
  pub devices : Exchanged (λ left. exchange_of (word left).made) before after result

-- How control went on from a word, whatever was read: as the word says, or over a system call that reads into no text.
abbrev pub WordWent : Instr → (List ℕ → Stepped) → (List ℕ → Stepped) → ℕ → ℕ → ℕ → Stage → HartData → HartData → Option (List ℕ) → Option (List ℕ) → Type 0
WordWent x word call i b o stage h h' left left' =
    ((input : List ℕ) → h' ≡ hart_after h (word input))
    ⊎ ((x ≡ instr.Ecall) × (text_store_of x h.machine.regs h.machine.bus ≡ None) × ((input : List ℕ) → word input ≡ call input)
    × Called i b o stage h h' × Moved h.machine h'.machine.bus left left')

-- a word at this place that leads to this step, by the answer: how control went on from it; and a device breaks off only a system call,
-- of which a front of the buffer may be filled
pub record WordStepped {T : Type 0} (x : Instr) (i b o : ℕ) (stage : Stage) (word : List ℕ → Stepped) (h h' : HartData)
    (before after : Devices) (result : Result T CallFault) : Type 0 where
  pub executed : WordExecuted word h h' before after result
  pub went : OnOk result (WordWent x word (λ left. call_stepped i b o stage h.machine left) i b o stage h h' before.input.left after.input.left)
  pub call : OnErr result (x ≡ instr.Ecall)
  pub asked : OnErr result ((input : List ℕ) → word input ≡ call_stepped i b o stage h.machine input)
  pub moved : OnErr result (Moved h.machine h'.machine.bus before.input.left after.input.left)

-- a step of the board that was made so over this input
pub record Made (v : ImageData) (new : Record) (h h' : HartData) (left : List ℕ) (left' out out' err err' : Option (List ℕ)) : Type 0 where
  pub stepped : Stepped
  pub step : BoardStep v new h.machine h.control stepped left
  pub did : Did h h' stepped left' out out' err err'

-- a step that the input or a sink broke off, which is a system call: each sink has gained a front of what the step writes, and no more of
-- the input was taken
pub record BrokenStep (v : ImageData) (r : Record) (h : HartData) (left : List ℕ) (left' out out' err err' : Option (List ℕ)) : Type 0 where
  pub stepped : Stepped
  pub step : BoardStep v r h.machine h.control stepped left
  pub output : AppendsPrefix out out' stepped.made.output
  pub error : AppendsPrefix err err' stepped.made.error
  pub taken : List ℕ
  pub input : Consumes (Some left) left' taken
  pub few : length taken + length stepped.made.input ≤ length left
  pub calls : stepped.made ≡ call_made h.machine left

-- What such a step leaves besides. It comes between two instructions, a front of the buffer of a read may be filled, and a sink to which
-- the call gives nothing is not asked. What it writes to the output comes before what it writes to the errors, as its line is: where the
-- output failed the errors are as before, and where they failed the output has all of it.
pub record BrokenCall (h h' : HartData) (before after : Devices) : Type 0 where
  pub between : is_between h.control ≡ true
  pub moved : Moved h.machine h'.machine.bus before.input.left after.input.left
  pub unasked_output : (left : List ℕ) → (call_made h.machine left).output ≡ [] → after.output ≡ before.output
  pub unasked_error : (left : List ℕ) → (call_made h.machine left).error ≡ [] → after.error ≡ before.error
  pub failed_output : (after.output.faults ≡ before.output.faults → ⊥) → after.error ≡ before.error
  pub failed_error : (after.error.faults ≡ before.error.faults → ⊥) → ForSome before.input.left (λ left. Appends before.output.held after.output.held (call_made h.machine left).output)

-- the fact holds where the input or a sink failed
abbrev pub OnDevice : {T : Type 0} → Result T BoardFault → Type 0 → Type 0
OnDevice (Ok x) P = ⊤
OnDevice (Err RamFault) P = ⊤
OnDevice (Err SourceFault) P = P
OnDevice (Err SinkFault) P = P
