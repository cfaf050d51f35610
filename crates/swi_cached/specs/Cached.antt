-- A run on the cached machine, as data: what it does besides what its program does.
use Rattle.std.specs.Prelude.{◌≡◌, ℕ, ◌+◌, ◌<◌, Bool, List, [], ◌∷◌, length, Option, Some}
use Rattle.swi_outside.specs.CacheRam.{Fetch}
use Rattle.swi_exec.specs.declared.done.FaultKind.TheVariants.{FetchAccess}
use Rattle.swi_calls.specs.declared.end.End.{End}
use Rattle.swi_calls.specs.declared.end.End.TheVariants.{Faulted}
use Rattle.swi_calls.specs.Flat.{flat_run, flat_start}
use Rattle.swi_calls.specs.FirstStore.{StoresAt}
use Rattle.swi_calls.specs.Held.{held_run, stopped_at}
use Rattle.swi_calls.specs.State.{FlatState}
use Rattle.swi_calls.specs.StoresText.{next_store}
use Rattle.swi_image.specs.Format.{ImageData}
use Rattle.swi_image.specs.Place.{place_of}
use Rattle.swi_memory.specs.Bus.{fetched}
use Rattle.swi_memory.specs.declared.layout.Layout.{Layout}
use Rattle.swi_program.specs.Program.{ProgramData}
use Rattle.swi_render.specs.Carried.{Carries}
use Rattle.swi_rom.specs.Record.{Record, Transfer, indirect, writes}
use Rattle.swi_rom.specs.Service.{Cache}
use Rattle.swi_board.specs.Transfers.{Here, transfers, cost, fall_transfers, fetches, here_run, after_all}
use Rattle.swi_cached.specs.declared.run.AskedRun.{AskedRun}
use Rattle.swi_board.specs.Fetching.{Written, words_run, written_by}
use Rattle.swi_cached.specs.Told.{error_by, is_each}

-- a run: its image, its cache, the program before its first step, the most steps, and whether the errors have a line of each
pub record CachedRun : Type 0 where
  pub image : ImageData
  pub cache : Cache
  pub start : FlatState
  pub limit : ℕ
  pub trace : Bool

-- the run of a program out of a cache that is asked for so, with this input
abbrev pub run_of : ImageData → Cache → ProgramData → Layout → AskedRun → List ℕ → CachedRun
run_of v cache p l asked input = record {
  image = v;
  cache = cache;
  start = flat_start p l asked.calls input;
  limit = asked.limit;
  trace = is_each asked.trace;
}

-- the image is one of the program's text, and the first instruction has a place in it
pub record IsCarried (c : CachedRun) : Type 0 where
  pub carries : Carries (fetched c.start.machine.bus) c.image
  pub entry : ℕ × ℕ
  pub place : place_of c.image c.start.machine.pc ≡ Some entry

-- the words of the ram that the cache uses
abbrev pub span_of : CachedRun → ℕ
span_of c = c.cache.span

-- The program after so many steps. It is the flat machine, which executes the original instructions where they stand,
-- but that it ends before a step that would store into the text.
abbrev pub program_after : CachedRun → ℕ → FlatState
program_after c n = held_run n c.start

-- the same with what the errors have gained by then: lines of the steps too, where they are told
abbrev pub told_after : CachedRun → ℕ → FlatState
told_after c n = record (program_after c n) { error = error_by c.trace n c.start }

abbrev pub end_of : CachedRun → FlatState
end_of c = program_after c c.limit

-- however many steps are made: where none of them would store into the text, the flat machine comes to the same state
abbrev pub IsFlatRun : CachedRun → Type 0
IsFlatRun c = (n : ℕ) → ((j : ℕ) → j < n → StoresAt c.start j → ⊥) → program_after c n ≡ flat_run n c.start

-- and where step k + 1 is the first that would, the run ends as the flat machine stands after k steps, with the ending
-- StoreText
abbrev pub StopsBeforeStore : CachedRun → Type 0
StopsBeforeStore c = (n k : ℕ) → k < n → ((j : ℕ) → j < k → StoresAt c.start j → ⊥) → StoresAt c.start k →
    (a : ℕ) × (next_store (flat_run k c.start).machine ≡ Some a) × (program_after c n ≡ stopped_at (flat_run k c.start) a)

-- the machine instructions of the first n steps: one for the boot, for each step one to three, and one for each exit
-- behind a block's last text word that is made before one of them
abbrev pub instructions_after : CachedRun → ℕ → ℕ
instructions_after c n = 1 + cost c.image n c.start (place_of c.image c.start.machine.pc)

-- the words that those fetch: one for each machine instruction but the boot, and none for a step at an address without
-- a text word
abbrev pub fetches_after : CachedRun → ℕ → ℕ
fetches_after c n = fetches c.image n c.start (place_of c.image c.start.machine.pc)

-- one where the program has ended at an address without a text word
abbrev pub unfetched : Option End → ℕ
unfetched (Some (Faulted FetchAccess a)) = 1
unfetched _ = 0

-- however many steps are made: each machine instruction but the boot has fetched a word, but for one at such an address
abbrev pub IsCounted : CachedRun → Type 0
IsCounted c = (n : ℕ) → instructions_after c n ≡ 1 + fetches_after c n + unfetched (program_after c n).machine.ending

-- a service that has done nothing yet: no block is placed, no transfer was served and no word written
pub record IsFresh (r : Record) : Type 0 where
  pub unplaced : r.placed ≡ []
  pub unserved : r.counts.services ≡ 0
  pub unwritten : writes r ≡ 0

abbrev pub policy_of : CachedRun → Record → ImageData → Transfer → Record
policy_of c = c.cache.policy

-- the boot enters the block of the first instruction
abbrev pub record_at_boot : CachedRun → Record
record_at_boot c = policy_of c c.cache.empty c.image (indirect c.start.machine.pc)

-- The blocks that are placed, the oldest first, the links and the counts after the first n steps: each transfer of
-- control behind the boot is served by the policy.
abbrev pub record_after : CachedRun → ℕ → Record
record_after c n = after_all (policy_of c) c.image (record_at_boot c)
    (transfers c.image n c.start (place_of c.image c.start.machine.pc))

-- what the boot has written
abbrev pub written_at_boot : CachedRun → Written
written_at_boot c = written_by (policy_of c) c.image (record { kept = c.cache.empty; sets = 0 }) (indirect c.start.machine.pc ∷ [])

-- The words of the ram that those fetch, in order: each where its block stands by then, as the image or a link has it, and behind the sets
-- of the boot and of all transfers before it.
abbrev pub words_after : CachedRun → ℕ → List Fetch
words_after c n = words_run (policy_of c) c.image n c.start (place_of c.image c.start.machine.pc) (written_at_boot c)

-- where the run stands by then: at the block and offset of a text word's first word, or of an exit behind a block, or outside
abbrev pub place_after : CachedRun → ℕ → Here
place_after c n = here_run c.image n c.start (place_of c.image c.start.machine.pc)

-- the record behind the exit that the next step makes first, where it makes one: that behind a block's last text word
abbrev pub record_behind_exit : CachedRun → ℕ → Record
record_behind_exit c n = after_all (policy_of c) c.image (record_after c n) (fall_transfers c.image (program_after c n).machine (place_after c n))

-- however many steps are made: they are as many as are counted
abbrev pub AreCounted : CachedRun → Type 0
AreCounted c = (n : ℕ) → length (words_after c n) ≡ fetches_after c n

-- the words of the cache that can have been written within the first n steps
abbrev pub used_after : CachedRun → ℕ → ℕ
used_after c n = c.cache.extent (record_after c n)
