-- What the counts that `cached --stats` tells say of the cache: with room for all blocks, against any other policy, and for so many steps.
use Rattle.std.specs.Prelude.{◌≡◌, ℕ, ◌+◌, ◌-◌, ◌*◌, ◌≤◌, List, ◌∷◌, ◌++◌, length, Some, Ok}
use Rattle.std.specs.Io.KnownBytes.{Appends}
use Rattle.swi_outside.specs.CacheRam.{RamState}
use Rattle.swi_elf_read.specs.Loaded.{image_of as image_in}
use Rattle.swi_image.specs.Format.{ImageData}
use Rattle.swi_image.specs.Place.{place_of}
use Rattle.swi_rom.specs.Record.{indirect}
use Rattle.swi_board.specs.Transfers.{transfers}
use Rattle.swi_cache_laws.specs.Paging.{Choice, IsPolicy, copies}
use Rattle.swi_cache_laws.specs.Room.{exits_of, words_of}
use Rattle.swi_cache_laws.specs.Transfers.{entered}
use Rattle.swi_command.specs.declared.command.CacheKind.TheVariants.{Slots}
use Rattle.swi_command.specs.declared.command.CacheOptions.{CacheOptions}
use Rattle.swi_command.specs.declared.command.RunLimits.{RunLimits}
use Rattle.swi_command.specs.CommandLine.{RunCached}
use Rattle.swi_report.specs.declared.stats.Work.{Work}
use Rattle.swi_report.specs.Stats.{stats_text_of}
use Rattle.swi_answer.specs.declared.answer.Ending.{Ending}
use Rattle.swi_task.specs.Runs.{start_of}
use Rattle.swi_task.specs.Subject.{IsImageFor}
use Rattle.swi_cached.specs.Cached.{CachedRun}
use Rattle.swi_cached.specs.Slotted.{slots_of}
use Rattle.swi_cached_task.specs.Caching.{cache_for, cached_run}
use Rattle.swi_survey_command.specs.RunSurvey.{counting}
use Rattle.swi_answer_laws.specs.Answered.{Answer, Given, IsAnswerTo}

-- what `cached --stats` is asked for
pub record StatsAsked : Type 0 where
  pub name : List ℕ
  pub cache : CacheOptions
  pub limits : RunLimits

abbrev pub stats_given : StatsAsked → List ℕ → List ℕ → RamState → Given
stats_given q file input ram = record { request = RunCached q.name q.cache (counting q.limits); files = file; input = input; ram = ram }

-- its run in the blocks of an image, and the blocks that this enters, from the boot on
abbrev pub stats_run : StatsAsked → List ℕ → List ℕ → ImageData → CachedRun
stats_run q file input v = cached_run (cache_for q.cache v) (counting q.limits) v (start_of (counting q.limits) file input)

abbrev pub entered_by : CachedRun → List ℕ
entered_by c = entered c.image (indirect c.start.machine.pc ∷ transfers c.image c.limit c.start (place_of c.image c.start.machine.pc))

-- its answer tells these steps and this work, behind the program's own bytes
pub record TellsStats (b : Answer) : Type 0 where
  pub own : List ℕ
  pub steps : ℕ
  pub work : Work
  pub output : Appends b.before.output.held b.after.output.held (own ++ stats_text_of steps (Some work))

-- So many misses are few for k slots: take another policy with h of them, which may know which blocks are entered, and hold some before.
-- Then k - h + 1 times the misses are at most k times the blocks that it copies, and k - h + 1 times h more.
abbrev pub AreFew : (slots misses : ℕ) → List ℕ → Type 0
AreFew slots misses blocks = (h : ℕ) (before : List ℕ) (choices : List Choice) → h ≤ slots → IsPolicy h before blocks choices →
    (slots - h + 1) * misses ≤ slots * copies choices + (slots - h + 1) * h

-- Through slots, so it is of the misses that are told.
abbrev pub StatsMissFew : Type 0
StatsMissFew = (q : StatsAsked) (file input : List ℕ) (ram : RamState) (b : Answer) (f : Ending) → q.cache.kind ≡ Slots →
    IsAnswerTo (stats_given q file input ram) b → b.result ≡ Ok f →
    (t : TellsStats b) × ((v : ImageData) → IsImageFor file q.cache.block_words (image_in file) v →
    AreFew (slots_of q.cache.cache_bytes v) t.work.counts.misses (entered_by (stats_run q file input v)))

-- This is the work of a cache that holds all blocks: none leaves, each is copied once at most, and each exit linked once at most.
pub record HasRoomFor (v : ImageData) (w : Work) : Type 0 where
  pub evictions : w.counts.evictions ≡ 0
  pub unlinks : w.counts.unlinks ≡ 0
  pub misses : w.counts.misses ≤ length v.blocks
  pub links : w.counts.links ≤ length (exits_of v)
  pub writes : w.writes ≤ words_of v + length (exits_of v)

-- So it is where there is a slot for each block.
abbrev pub StatsHaveRoom : Type 0
StatsHaveRoom = (q : StatsAsked) (file input : List ℕ) (ram : RamState) (b : Answer) (f : Ending) → q.cache.kind ≡ Slots →
    IsAnswerTo (stats_given q file input ram) b → b.result ≡ Ok f →
    (t : TellsStats b) × ((v : ImageData) → IsImageFor file q.cache.block_words (image_in file) v → length v.blocks ≤ slots_of q.cache.cache_bytes v → HasRoomFor v t.work)

-- This is the most work that up to `limit` steps can take, of which so many were made: so whatever each count weighs, they cost no more.
pub record CostsFew (limit : ℕ) (v : ImageData) (steps : ℕ) (w : Work) : Type 0 where
  pub machine : w.machine ≤ 3 * steps + 2
  pub services : w.counts.services ≤ 2 * limit
  pub writes : w.writes ≤ (2 * limit + 1) * v.block_words + 4 * limit

-- So it is in slots and in a ring.
abbrev pub StatsCostFew : Type 0
StatsCostFew = (q : StatsAsked) (file input : List ℕ) (ram : RamState) (b : Answer) (f : Ending) → IsAnswerTo (stats_given q file input ram) b → b.result ≡ Ok f →
    (t : TellsStats b) × ((v : ImageData) → IsImageFor file q.cache.block_words (image_in file) v → CostsFew q.limits.steps v t.steps t.work)
