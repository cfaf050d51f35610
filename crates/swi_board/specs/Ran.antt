-- What a run of the board does, from any state where a flat machine stands.
use Rattle.std.specs.Prelude.{◌≡◌, ℕ, List, [], Option, Some}
use Rattle.std.specs.Io.KnownBytes.{Appends}
use Rattle.swi_calls.specs.State.{FlatState}
use Rattle.swi_outside.specs.Causes.{risen}
use Rattle.swi_outside.specs.CacheRam.{RamState, KeepsBeyond}
use Rattle.swi_outside.specs.Devices.{Faults}
use Rattle.swi_calls.specs.Flat.{Made}
use Rattle.swi_image.specs.Format.{ImageData}
use Rattle.swi_rom.specs.Record.{Record}
use Rattle.swi_hart.specs.Hart.{HartData}
use Rattle.swi_hart.specs.Matching.{Matches}
use Rattle.swi_calls.specs.Held.{held_made}

-- the ram over a whole run: so many fetches and sets, and no fault
pub record RamRan (span fetched more : ℕ) (before after : RamState) : Type 0 where
  pub quiet : after.faults ≡ before.faults
  pub fetches : after.fetches ≡ risen before.fetches fetched
  pub sets : after.sets ≡ risen before.sets more
  pub kept : KeepsBeyond span before after

-- the flat machine's next step, over the fixed text
abbrev pub next_of : FlatState → Made
next_of s = held_made s.machine s.input

-- a sink to which a step gives nothing is not asked by it: its count of faults stays
pub record Unasked (next : Made) (before after : Faults) : Type 0 where
  pub output : next.output ≡ [] → after.output ≡ before.output
  pub error : next.error ≡ [] → after.error ≡ before.error

-- the board has come to where the flat machine's step leads, took the same input and wrote the same bytes
pub record Followed (v : ImageData) (r : Record) (h : HartData) (next : Made) (left' out out' err err' : Option (List ℕ)) : Type 0 where
  pub matches : Matches v r next.machine h.machine h.control
  pub input : left' ≡ Some next.input
  pub output : Appends out out' next.output
  pub error : Appends err err' next.error
