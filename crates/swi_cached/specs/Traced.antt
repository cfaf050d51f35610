-- A run of a board, from its first step on, of which each original step is told before the first word that it fetches: by its line among the
-- errors, and by its address in a history.
use Rattle.std.specs.Prelude.{◌≡◌, ◌⊎◌, ℕ, ◌+◌, ◌<◌, ◌≤◌, Bool, true, false, List, [], ◌∷◌, ◌++◌, Option, Some, None, Result, Ok, Err, is_some, ⊤}
use Rattle.swi_outside.specs.Causes.{Rose}
use Rattle.swi_outside.specs.Sink.{AppendsPrefix, SinkState}
use Rattle.swi_calls.specs.declared.end.End.{End}
use Rattle.swi_calls.specs.Held.{held_run}
use Rattle.swi_calls.specs.State.{FlatState}
use Rattle.swi_image.specs.Format.{ImageData}
use Rattle.swi_rom.specs.Service.{ServiceOf}
use Rattle.swi_hart.specs.declared.fault.BoardFault.{BoardFault}
use Rattle.swi_hart.specs.declared.fault.BoardFault.TheVariants.{SinkFault}
use Rattle.swi_board.specs.Board.{BoardWithDevices}
use Rattle.swi_board.specs.BoardRan.{BoardStays, BrokeOff}
use Rattle.swi_board.specs.Moments.{GoesOn, Moment, Policy, events}
use Rattle.swi_board.specs.Tracking.{Point, Tracks, point_of}
use Rattle.swi_trace.specs.History.{IsLastOf}
use Rattle.swi_line.specs.declared.trace.Trace.{Trace}
use Rattle.swi_line.specs.declared.trace.Trace.TheVariants as trace
use Rattle.swi_cached.specs.Told.{addresses, error_by, is_each, told_line}

-- the same moment with these errors
abbrev pub with_errors : List ℕ → Moment → Moment
with_errors e s = record s { flat = record s.flat { error = e } }

-- these are the last of the addresses that were told, where a history is kept
abbrev pub Noted : List ℕ → Option (List ℕ) → Type 0
Noted pushed None = ⊤
Noted pushed (Some held) = IsLastOf pushed held

-- whether one is
abbrev pub keeps_history : Trace → Bool
keeps_history trace.Off = false
keeps_history _ = true

-- all of so many steps was told, and nothing of the next
abbrev pub Before : Bool → ℕ → FlatState → List ℕ → Option (List ℕ) → Type 0
Before each k s error history = (error ≡ error_by each k s) × Noted (addresses k s) history

-- and the next
abbrev pub Begun : Bool → ℕ → FlatState → List ℕ → Option (List ℕ) → Type 0
Begun each k s error history =
    (error ≡ error_by each k s ++ told_line each (held_run k s).machine) × Noted (addresses k s ++ (held_run k s).machine.pc ∷ []) history

-- So much was told where k steps are made and `lines` are told; of a run that has ended, all that up to n steps have to tell.
abbrev pub Tells : Option End → Bool → ℕ → FlatState → ℕ → ℕ → List ℕ → Option (List ℕ) → Type 0
Tells None each n s k lines error history = ((lines ≡ k) × Before each k s error history) ⊎ ((lines ≡ k + 1) × Begun each k s error history)
Tells (Some e) each n s k lines error history = Before each n s error history

-- From one moment on so many machine instructions have led to this point, but for the errors, which hold what was told.
pub record ToldTo (by : Policy) (span : ℕ) (v : ImageData) (each : Bool) (n made lines : ℕ) (s : Moment) (from now : Point) (history : Option (List ℕ)) : Type 0 where
  pub error : List ℕ
  pub tracks : Tracks span v (with_errors error (events by v made s)) from now
  pub tells : Tells now.hart.machine.ending each n s.flat now.hart.machine.steps lines error history
  pub going : (j : ℕ) → j < made → GoesOn n (events by v j s)

-- Told machine instructions were made in a row, and no device has failed.
pub record ToldAlong {S : Type 0} (k : ServiceOf S) (v : ImageData) (telling : Trace) (n lines : ℕ) (old now : BoardWithDevices S) (history : Option (List ℕ)) : Type 0 where
  pub made : ℕ
  pub came : (s : Moment) (from : Point) → Tracks (k.span (k.setting old.rom)) v s from (point_of k old) →
      ToldTo (k.policy (k.setting old.rom)) (k.span (k.setting old.rom)) v (is_each telling) n made lines s from (point_of k now) history
  pub stays : BoardStays k v n old now
  pub next : (lines ≡ now.hart.machine.steps) ⊎ (lines ≡ now.hart.machine.steps + 1) × ((now.hart.machine.steps < n) ⊎ (is_some now.hart.machine.ending ≡ true))
  pub kept : is_some history ≡ keeps_history telling

abbrev pub with_sink : {S : Type 0} → BoardWithDevices S → SinkState → BoardWithDevices S
with_sink b sink = record b { devices = record b.devices { error = sink } }

-- The error sink failed at the line of the next step: nothing else has changed.
pub record LineBroke {S : Type 0} (each : Bool) (n lines : ℕ) (mid new : BoardWithDevices S) (fault : BoardFault) : Type 0 where
  pub is_each : each ≡ true
  pub first : lines ≡ mid.hart.machine.steps
  pub running : mid.hart.machine.ending ≡ None
  pub more : mid.hart.machine.steps < n
  pub rest : new ≡ with_sink mid new.devices.error
  pub front : AppendsPrefix mid.devices.error.held new.devices.error.held (told_line each mid.hart.machine)
  pub later : mid.devices.error.faults ≤ new.devices.error.faults
  pub rose : Rose mid.devices.error.faults new.devices.error.faults
  pub fault_is : fault ≡ SinkFault

-- so much is told of a run that stands where the machine instructions from one moment have led: its steps, and the next
pub record BegunTo (by : Policy) (span : ℕ) (v : ImageData) (each : Bool) (made k : ℕ) (s : Moment) (from now : Point) (history : Option (List ℕ)) : Type 0 where
  pub error : List ℕ
  pub tracks : Tracks span v (with_errors error (events by v made s)) from now
  pub begun : Begun each k s.flat error history

-- A device failed at the machine instruction behind it: its line is told, with this history.
pub record StepBroke {S : Type 0} (k : ServiceOf S) (v : ImageData) (each : Bool) (n made : ℕ) (old mid new : BoardWithDevices S) (fault : BoardFault) : Type 0 where
  pub sink : SinkState
  pub quiet : sink.faults ≡ mid.devices.error.faults
  pub history : Option (List ℕ)
  pub begun : (s : Moment) (from : Point) → Tracks (k.span (k.setting old.rom)) v s from (point_of k old) →
      BegunTo (k.policy (k.setting old.rom)) (k.span (k.setting old.rom)) v each made mid.hart.machine.steps s from (point_of k (with_sink mid sink)) history
  pub broke : BrokeOff k v n (with_sink mid sink) new fault

abbrev pub ToldEnds : {S : Type 0} → ServiceOf S → ImageData → Bool → ℕ → ℕ → ℕ → BoardWithDevices S → BoardWithDevices S → Option (List ℕ) → BoardWithDevices S → Result (Option (List ℕ)) BoardFault → Type 0
ToldEnds k v each n made lines old mid history new (Ok told) = (new ≡ mid) × ((n ≤ mid.hart.machine.steps) ⊎ (is_some mid.hart.machine.ending ≡ true)) × (told ≡ history)
ToldEnds k v each n made lines old mid history new (Err fault) = LineBroke each n lines mid new fault ⊎ StepBroke k v each n made old mid new fault

-- A told run up to a limit of original steps, by its answer: the history.
pub record ToldRan {S : Type 0} (k : ServiceOf S) (v : ImageData) (telling : Trace) (n : ℕ) (old new : BoardWithDevices S) (result : Result (Option (List ℕ)) BoardFault) : Type 0 where
  pub mid : BoardWithDevices S
  pub lines : ℕ
  pub history : Option (List ℕ)
  pub along : ToldAlong k v telling n lines old mid history
  pub ends : ToldEnds k v (is_each telling) n along.made lines old mid history new result
