-- A run on the cached machine, whatever asked for it: its cache, its counts, and what it leaves of the ram.
use Rattle.std.specs.Prelude.{◌≡◌, ℕ, ◌+◌, ◌-◌, ◌*◌, ◌^◌, ◌≤◌, min, Option, Some}
use Rattle.swi_outside.specs.CacheRam.{RamState}
use Rattle.swi_outside.specs.Causes.{risen}
use Rattle.swi_image.specs.Format.{ImageData}
use Rattle.swi_command.specs.declared.command.CacheKind.{CacheKind}
use Rattle.swi_command.specs.declared.command.CacheKind.TheVariants as kind
use Rattle.swi_command.specs.declared.command.CacheOptions.{CacheOptions}
use Rattle.swi_command.specs.declared.command.RunOptions.{RunOptions}
use Rattle.swi_calls.specs.State.{FlatState}
use Rattle.swi_calls.specs.declared.end.End.{End}
use Rattle.swi_calls.specs.declared.end.End.TheVariants as end
use Rattle.swi_rom.specs.Record.{Record, writes}
use Rattle.swi_rom.specs.Service.{Cache}
use Rattle.swi_cached.specs.Answers.{RamAfter}
use Rattle.swi_cached.specs.Cached.{CachedRun, AreCounted, IsCounted, IsFlatRun, StopsBeforeStore, end_of, instructions_after, fetches_after, record_after, unfetched}
use Rattle.swi_cached.specs.Slotted.{slotted}
use Rattle.swi_cached.specs.Ringed.{ringed}
use Rattle.swi_cached.specs.Told.{is_each}
use Rattle.swi_report.specs.declared.stats.Work.{Work}

-- the cache of a kind, of so many bytes: slots of a block each, or a ring of blocks of their own length; first in, first out
abbrev pub cache_by : CacheKind → ℕ → ImageData → Cache
cache_by kind.Slots bytes v = slotted bytes v
cache_by kind.Ring bytes v = ringed bytes

-- the cache that the options name
abbrev pub cache_for : CacheOptions → ImageData → Cache
cache_for cache v = cache_by cache.kind cache.cache_bytes v

-- the run of a program out of a cache; `trace` tells its steps too
abbrev pub cached_run : Cache → RunOptions → ImageData → FlatState → CachedRun
cached_run k o v s = record { image = v; cache = k; start = s; limit = o.limits.steps; trace = is_each o.reports.trace }

-- what the counts of a run tell: its machine instructions, and the words that were fetched and written for it, as numbers of 64 bits
abbrev pub work_of : CachedRun → Work
work_of c = record {
  machine = instructions_after c c.limit;
  fetches = fetches_after c c.limit;
  writes = min (writes (record_after c c.limit)) (2 ^ 64 - 1);
  counts = (record_after c c.limit).counts;
}

-- the ram has counted just as many
pub record RamCounted (w : Work) (before after : RamState) : Type 0 where
  pub fetches : after.fetches ≡ risen before.fetches w.fetches
  pub sets : after.sets ≡ risen before.sets w.writes

-- what a board tells that came to its end. It counts no fetches: there is one for each machine instruction but the boot, and none for one
-- at an address without a text word
abbrev pub board_work : ℕ → Option End → Record → Work
board_work instructions ending r = record {
  machine = instructions;
  fetches = instructions - 1 - unfetched ending;
  writes = min (writes r) (2 ^ 64 - 1);
  counts = r.counts;
}

-- What a cached run is, and what it leaves of the ram, however it was asked for: also which words were fetched, in their order.
pub record IsCachedRun (c : CachedRun) (before after : RamState) : Type 0 where
  -- it is the flat machine's run, up to the first step that would store into the text, before which it ends
  pub flat : IsFlatRun c
  pub stops : StopsBeforeStore c
  -- the ram holds what is placed at the end, and the run's counts are those that it has counted
  pub ram : RamAfter c before after
  pub counted : RamCounted (work_of c) before after
  -- at most three machine instructions for each step, and one for the boot; one more where the run stopped before a store into the text
  pub most : instructions_after c c.limit ≤ 3 * (end_of c).machine.steps + 2
  pub fewer : ((a : ℕ) → (end_of c).machine.ending ≡ Some (end.StoreText a) → ⊥) → instructions_after c c.limit ≤ 3 * (end_of c).machine.steps + 1
  -- each of them but the boot has fetched a word, but for one at an address without a text word
  pub each : IsCounted c
  -- by the definitions the words of the ram that a run fetches are as many as are counted
  pub words : AreCounted c
