-- The blocks that a command has placed in the ram, where it ended.
use Rattle.std.specs.Prelude.{◌≡◌, ℕ, ◌+◌, ◌<◌, ◌≤◌, List, Some, None, slice_index, slice_index_or}
use Rattle.swi_elf_read.specs.Loaded.{image_of as image_in}
use Rattle.swi_image.specs.Format.{ImageData}
use Rattle.swi_image.specs.Place.{length_at}
use Rattle.swi_rom.specs.Coherent.{Coherent}
use Rattle.swi_rom.specs.Record.{Record, Placed}
use Rattle.swi_memory.specs.declared.layout.Layout.{Layout}
use Rattle.swi_program.specs.Program.{ProgramData}
use Rattle.swi_command.specs.CommandLine.{Request, RunAhead, RunCached, RunShared, MeasureMade}
use Rattle.swi_cached.specs.Cached.{CachedRun, record_after, span_of, used_after}
use Rattle.swi_engine.specs.Engine.{extent_of as engine_extent, span_of as engine_span}
use Rattle.swi_prefetch.specs.Scheduled.{AheadRun, AreRounds, moment_after, setting_for}
use Rattle.swi_slots.specs.Fifo.{extent_of as slots_extent}
use Rattle.swi_slots.specs.Slots.{span_of as slots_span}
use Rattle.swi_share.specs.declared.process.Guest.{Guest}
use Rattle.swi_share.specs.Shared.{Context, Shared}
use Rattle.swi_task.specs.Runs.{start_of}
use Rattle.swi_task.specs.Subject.{IsImageFor}
use Rattle.swi_cached_task.specs.Caching.{cache_for, cached_run}
use Rattle.swi_measure_command.specs.MeasureMade.{IsMadeRun, made_run}
use Rattle.swi_prefetch_command.specs.RunAhead.{ahead_asked, ahead_run}
use Rattle.swi_share_command.specs.RunShared.{AreGuestsOf, shared_end}
use Rattle.swi_top.specs.Tasks.{task_of}

-- blocks of an image, placed as a service's record tells, in so many words of the ram
pub record Standing : Type 0 where
  pub image : ImageData
  pub kept : Record
  pub span : ℕ
  -- no word from here on was ever a block's
  pub extent : ℕ

-- two rams hold them in the same words, links included
pub record HoldAlike (s : Standing) (ws us : List ℕ) : Type 0 where
  pub one : Coherent s.image s.kept s.span ws
  pub other : Coherent s.image s.kept s.span us
  pub same : (b f o : ℕ) → Placed s.kept b f → o < length_at s.image b → slice_index ws (f + o) ≡ slice_index us (f + o)

-- and the words that no block ever had are the same
pub record StandAlike (s : Standing) (ws us : List ℕ) : Type 0 where
  pub placed : HoldAlike s ws us
  pub unused : (i : ℕ) → s.extent ≤ i → slice_index ws i ≡ slice_index us i

-- at the end of a run, without and with an engine, and those of program g of several
abbrev pub cached_standing : CachedRun → Standing
cached_standing c = record { image = c.image; kept = record_after c c.limit; span = span_of c; extent = used_after c c.limit }

abbrev pub ahead_standing : AheadRun → ℕ → Standing
ahead_standing c made = record { image = c.image; kept = (moment_after c made).kept; span = engine_span (setting_for c); extent = engine_extent (setting_for c) (moment_after c made).kept }

abbrev pub shared_standing : Shared → ℕ → Context → Standing
shared_standing s g c = record { image = c.image; kept = record s.kept { turn = g }; span = slots_span s.setting; extent = slots_extent s.setting s.kept }

-- so they stand at the end of a command that was asked for this, with these files and this input; the other commands place none
abbrev pub IsLeftBy : (q : Request) → (task_of q).Files → List ℕ → Standing → Type 0
IsLeftBy (RunCached name cache o) file input s =
    (v : ImageData) × IsImageFor file cache.block_words (image_in file) v × (s ≡ cached_standing (cached_run (cache_for cache v) o v (start_of o file input)))
IsLeftBy (RunAhead name cache o rate) file input s =
    (v : ImageData) × IsImageFor file cache.block_words (image_in file) v
    × ((made : ℕ) × AreRounds (ahead_run (ahead_asked cache o rate) v (start_of o file input)) made
    × (s ≡ ahead_standing (ahead_run (ahead_asked cache o rate) v (start_of o file input)) made))
IsLeftBy (MeasureMade seed functions cache) files input s =
    (p : ProgramData) × ((l : Layout) × ((v : ImageData) × IsMadeRun seed functions cache p l v × (s ≡ cached_standing (made_run (cache_for cache v) p l v))))
IsLeftBy (RunShared names cache o) files input s =
    (guests : List Guest) × AreGuestsOf cache o files guests
    × ((g : ℕ) × ((c : Context) × (slice_index_or (shared_end o cache.cache_bytes guests).contexts g None ≡ Some c)
    × (s ≡ shared_standing (shared_end o cache.cache_bytes guests) g c)))
IsLeftBy _ files input s = ⊥
