-- The run of a file's program, and what it leaves. The machine is that of the RISC-V unprivileged specification.
use Rattle.std.specs.Prelude.{◌≡◌, ◌⊎◌, ℕ, List, [], ◌++◌, length, take, Option, Some, None, Result, Ok, Err, if◌then◌else◌}
use Rattle.std.specs.Io.KnownBytes.{Appends}
use Rattle.swi_outside.specs.Causes.{Rose}
use Rattle.swi_exec.specs.Registers.{Registers}
use Rattle.swi_memory.specs.Bus.{AreaData}
use Rattle.swi_memory.specs.declared.layout.Layout.{Layout}
use Rattle.swi_program.specs.declared.placement.Room.{Room}
use Rattle.swi_program.specs.ProgramOf.{program_of_file}
use Rattle.swi_command.specs.declared.command.RunOptions.{RunOptions}
use Rattle.swi_command.specs.declared.command.Reports.{Reports}
use Rattle.swi_calls.specs.declared.end.End.{End}
use Rattle.swi_calls.specs.declared.end.End.TheVariants as end
use Rattle.swi_calls.specs.declared.machine.Machine.{Machine}
use Rattle.swi_calls.specs.State.{FlatState}
use Rattle.swi_calls.specs.Flat.{flat_start}
use Rattle.swi_hart.specs.declared.fault.BoardFault.{BoardFault}
use Rattle.swi_hart.specs.declared.fault.BoardFault.TheVariants as fault
use Rattle.swi_outcome.specs.Broken as outcome
use Rattle.swi_outcome.specs.Broken.{Coming, Names, Steps}
use Rattle.swi_report.specs.declared.stats.Work.{Work}
use Rattle.swi_report.specs.State.{state_text_of}
use Rattle.swi_report.specs.Stats.{stats_text_of}
use Rattle.swi_answer.specs.declared.answer.Ending.{Ending}
use Rattle.swi_answer.specs.declared.answer.Ending.TheVariants as ending
use Rattle.swi_answer.specs.declared.answer.Refusal.{Refusal}
use Rattle.swi_answer.specs.declared.answer.Refusal.TheVariants as refusal
use Rattle.swi_answer.specs.Lines.{ending_line}
use Rattle.swi_task.specs.Devices.{Devices, streams_of}
use Rattle.swi_task.specs.Checks.{room_in}

abbrev pub layout_in : Result Layout Room → Layout
layout_in (Ok l) = l
layout_in (Err room) = record { heap = 0; heap_len = 0; stack = 0; stack_len = 0; sp = 0 }

-- the file's program before its first step, with this input
unfoldable pub start_of : RunOptions → List ℕ → List ℕ → FlatState
start_of o file input = flat_start (program_of_file file) (layout_in (room_in file o.limits)) o.reports.calls input

-- how a run ended that stands so: its ending, its pc and its steps
abbrev pub ending_by : Option End → ℕ → ℕ → Ending
ending_by None pc steps = ending.Spent steps pc
ending_by (Some (end.Exited code)) pc steps = ending.Exited code steps
ending_by (Some (end.Faulted kind a)) pc steps = ending.Faulted kind pc a steps
ending_by (Some (end.StoreText a)) pc steps = ending.StoreText pc a steps

-- as the machine did, or with its steps spent
abbrev pub ending_of : FlatState → Ending
ending_of s = ending_by s.machine.ending s.machine.pc s.machine.steps

-- what a run is refused with in which a device failed so
abbrev pub refusal_of : BoardFault → Refusal
refusal_of fault.RamFault = refusal.RamFault
refusal_of fault.SourceFault = refusal.SourceFault
refusal_of fault.SinkFault = refusal.SinkFault

-- what is written to the output behind the program's own bytes: the state and the counts, as far as they are asked for
abbrev pub report_of : Reports → ℕ → Registers → List AreaData → ℕ → ℕ → Option Work → List ℕ
report_of r pc regs bus now steps work =
    (if r.state then state_text_of pc regs bus now else []) ++ (if r.stats then stats_text_of steps work else [])

abbrev pub report : Reports → Machine → Option Work → List ℕ
report r m work = report_of r m.pc m.regs m.bus m.heap.now m.steps work

-- a run that came to its end
pub record Ran (s : FlatState) (report : List ℕ) (before after : Devices) (e : Ending) (last : List ℕ) : Type 0 where
  pub ending : e ≡ ending_of s
  -- of the input just what the program took is gone
  pub input : after.input.left ≡ Some s.input
  -- the output gained what the program wrote, and then the report; the errors what it wrote there, and then the last line
  pub output : Appends before.output.held after.output.held (s.output ++ report)
  pub error : Appends before.error.held after.error.held (s.error ++ last)

-- what a refusal calls a failed source, and a failed sink
abbrev pub refusal_names : Names Refusal
refusal_names = record { source = refusal.SourceFault; sink = refusal.SinkFault }

-- A source or a sink failed at the step that would come next, or at one of a run's.
abbrev pub StepFailed : Coming → Devices → Devices → Refusal → List ℕ → Type 0
StepFailed c before after r last = outcome.StepFailed refusal_names c (streams_of before) (streams_of after) r last

abbrev pub FailedAtStep : Steps → Devices → Devices → Refusal → List ℕ → Type 0
FailedAtStep run before after r last = outcome.FailedAtStep refusal_names run (streams_of before) (streams_of after) r last

-- Which sink failed behind a run: the output, at a report that has bytes; or, where the report is whole, the error sink, at lines that have
-- bytes.
abbrev pub FailedBehind : List ℕ → ℕ → List ℕ → ℕ → Devices → Devices → Type 0
FailedBehind report output_front lines error_front before after =
    ((error_front ≡ 0) × (report ≡ [] → ⊥) × Rose before.output.faults after.output.faults)
    ⊎ ((output_front ≡ length report) × (lines ≡ [] → ⊥) × (after.output.faults ≡ before.output.faults) × Rose before.error.faults after.error.faults)

-- A sink failed behind the run: at the report, or, where that is whole, at what is told of the last steps and the ending's line.
pub record FailedAfterRun (s : FlatState) (report tail : List ℕ) (before after : Devices) (r : Refusal) (last : List ℕ) : Type 0 where
  pub output_front : ℕ
  pub output : Appends before.output.held after.output.held (s.output ++ take output_front report)
  pub error_front : ℕ
  pub error : Appends before.error.held after.error.held ((s.error ++ take error_front (tail ++ ending_line (ending_of s))) ++ last)
  pub behind : FailedBehind report output_front (tail ++ ending_line (ending_of s)) error_front before after
  pub input : after.input.left ≡ Some s.input
  pub fault : r ≡ refusal.SinkFault
