-- The cached machine as plain data, one machine instruction after the other, over the flat machine's steps.
use Rattle.std.specs.Prelude.{◌≡◌, ℕ, zero, suc, ◌+◌, ◌-◌, ◌<◌, List, [], ◌∷◌, ◌++◌, Some, None, is_some, nat_lt, if◌then◌else◌}
use Rattle.swi_outside.specs.CacheRam.{Fetch}
use Rattle.swi_calls.specs.declared.machine.Machine.{Machine}
use Rattle.swi_calls.specs.Flat.{started}
use Rattle.swi_calls.specs.Held.{held_step}
use Rattle.swi_calls.specs.State.{FlatState}
use Rattle.swi_image.specs.Format.{ImageData}
use Rattle.swi_image.specs.Place.{place_of}
use Rattle.swi_rom.specs.Record.{Record, Transfer, direct, indirect, writes}
use Rattle.swi_hart.specs.Hart.{original, slots}
use Rattle.swi_board.specs.Fetching.{Written, fetch_in, index_in}
use Rattle.swi_board.specs.Transfers.{Here, at_fall, step_transfers, here_after, before_last, after_all}

-- what a service makes of its record at a transfer
abbrev pub Policy : Type 0
Policy = Record → ImageData → Transfer → Record

-- What stands between two machine instructions.
pub record Moment : Type 0 where
  -- the flat machine over the fixed text, at its steps, with the input that is left and the bytes that are written
  pub flat : FlatState
  -- where the first word of its next instruction stands, or the exit behind a block's last text word, which comes first
  pub here : Here
  -- how many words of that instruction were executed
  pub spent : ℕ
  -- the service's record
  pub kept : Record
  -- the machine instructions, and the words that were set
  pub count : ℕ
  pub sets : ℕ
  -- the words that were fetched, the last one first
  pub words : List Fetch

-- what the service has written by then
abbrev pub written_in : Moment → Written
written_in s = record { kept = s.kept; sets = s.sets }

-- the fetch of the next word of what stands at a place
abbrev pub next_fetch : ImageData → ℕ × ℕ → Moment → Fetch
next_fetch v p s = fetch_in v (written_in s) p.0 (index_in s.kept p + s.spent)

-- a machine instruction that fetched these words
abbrev pub counted : List Fetch → Moment → Moment
counted ws s = record s { count = s.count + 1; words = ws ++ s.words }

-- the service has served these transfers
abbrev pub served : Policy → ImageData → List Transfer → Moment → Moment
served by v ts s = record s {
  kept = after_all by v s.kept ts;
  sets = s.sets + (writes (after_all by v s.kept ts) - writes s.kept);
}

-- the exit behind a block's last text word is left
abbrev pub fell : Policy → ImageData → ℕ × ℕ → Moment → Moment
fell by v p s = record (served by v (direct p.0 p.1 s.flat.machine.pc ∷ []) s) { here = place_of v s.flat.machine.pc; spent = 0 }

-- a word was executed that leads to another one of the same instruction
abbrev pub led : Moment → Moment
led s = record s { spent = s.spent + 1 }

-- where the run stands behind the instruction; where that ended the run, as before
abbrev pub here_behind : ImageData → Machine → Here → Machine → Here
here_behind v f here next = if is_some next.ending then here else here_after v f here next

-- the instruction is complete
abbrev pub completed : Policy → ImageData → Here → Moment → Moment
completed by v here s = record (served by v (step_transfers s.flat.machine here (held_step s.flat).machine) s) {
  flat = held_step s.flat;
  here = here_behind v s.flat.machine here (held_step s.flat).machine;
  spent = 0;
}

-- the word under control is executed
abbrev pub executed : Policy → ImageData → ℕ × ℕ → Moment → Moment
executed by v p s =
    if nat_lt s.spent (before_last s.flat.machine (original s.flat.machine) (slots s.flat.machine))
    then led s
    else completed by v (Some p) s

abbrev pub stepped_at : Policy → ImageData → Here → Moment → Moment
stepped_at by v None s = counted [] (completed by v None s)
stepped_at by v (Some p) s = counted (next_fetch v p s ∷ []) (if at_fall v s.flat.machine (Some p) then fell by v p s else executed by v p s)

-- one machine instruction; where the run has ended, nothing
abbrev pub event : Policy → ImageData → Moment → Moment
event by v s = if is_some s.flat.machine.ending then s else stepped_at by v s.here s

-- so many, one behind the other
unfoldable pub events : Policy → ImageData → ℕ → Moment → Moment
events by v zero s = s
events by v (suc k) s = event by v (events by v k s)

-- the run goes on, and fewer original steps were made
abbrev pub GoesOn : ℕ → Moment → Type 0
GoesOn limit s = (s.flat.machine.ending ≡ None) × (s.flat.machine.steps < limit)

-- so many are the first behind which the run no longer goes on
pub record IsRun (by : Policy) (v : ImageData) (limit made : ℕ) (s : Moment) : Type 0 where
  pub going : (j : ℕ) → j < made → GoesOn limit (events by v j s)
  pub over : GoesOn limit (events by v made s) → ⊥

-- The boot enters the ram at the machine's address, over a service with this record; this input is left. It is one machine instruction.
abbrev pub booted : Policy → ImageData → Machine → List ℕ → Record → Moment
booted by v m left empty = served by v (indirect m.pc ∷ []) (record {
  flat = started m left;
  here = place_of v m.pc;
  spent = 0;
  kept = empty;
  count = 1;
  sets = 0;
  words = [];
})
