-- What the counts that `cached --stats` tells say of the cache.
use Rattle.std.proofs.Common.{◌≡◌, ℕ, ◌+◌, ◌-◌, ◌*◌, ◌≤◌, min, List, ◌∷◌, ◌++◌, length, Some, Ok, refl, arith, sym, subst}
use Rattle.std.specs.Io.KnownBytes.{Appends}
use Rattle.swi_outside.specs.CacheRam.{RamState}
use Rattle.swi_elf_read.specs.Loaded.{image_of as image_in}
use Rattle.swi_memory.specs.Bus.{fetched}
use Rattle.swi_image.specs.Format.{ImageData}
use Rattle.swi_image.specs.Place.{place_of}
use Rattle.swi_render.specs.Carried.{Carries}
use Rattle.swi_rom.specs.Record.{Record, Transfer, empty_record, indirect, writes}
use Rattle.swi_rom.specs.Service.{Setting}
use Rattle.swi_slots.specs.Fifo as in_slots
use Rattle.swi_ring.specs.Fifo as in_ring
use Rattle.swi_board.specs.Transfers.{Here, transfers}
use Rattle.swi_cache_laws.specs.Paging.{copies}
use Rattle.swi_cache_laws.specs.Room.{HasRoom, register_jumps}
use Rattle.swi_cache_laws.specs.Runs.{transfers_from}
use Rattle.swi_cache_laws.specs.Transfers.{after_boot}
use Rattle.swi_board.specs.Moments.{Policy}
use Rattle.swi_cache_laws.specs.Writes.{WritesFew}
use Rattle.swi_cache_laws.proofs.Along.{are_of_runs}
use Rattle.swi_cache_laws.proofs.Costing.{steps_cost_few, steps_write_few}
use Rattle.swi_cache_laws.proofs.Phases.{misses_few}
use Rattle.swi_cache_laws.proofs.Seating.{room_in_slots}
use Rattle.swi_cache_laws.proofs.Serving.{ring_arriving, slots_arriving, writes_few}
use Rattle.swi_command.specs.declared.command.CacheKind.{CacheKind}
use Rattle.swi_command.specs.declared.command.CacheKind.TheVariants.{Ring, Slots}
use Rattle.swi_command.specs.declared.command.RunOptions.{RunOptions}
use Rattle.swi_report.specs.declared.stats.Work.{Work}
use Rattle.swi_report.specs.Stats.{stats_text_of}
use Rattle.swi_answer.specs.declared.answer.Ending.{Ending}
use Rattle.swi_answer.specs.Lines.{ending_line}
use Rattle.swi_calls.specs.Flat.{started}
use Rattle.swi_calls.specs.State.{FlatState}
use Rattle.swi_task.specs.Runs.{start_of}
use Rattle.swi_task.specs.Subject.{IsImageFor}
use Rattle.swi_cached.specs.Cached.{CachedRun, end_of, record_after}
use Rattle.swi_cached.specs.Ringed.{ring_setting}
use Rattle.swi_cached.specs.Slotted.{slot_setting, slots_of, slotted}
use Rattle.swi_cached_task.specs.Caching.{IsCachedRun, cache_by, cached_run, work_of}
use Rattle.swi_cached_command.specs.RunCached.{RunsCached}
use Rattle.swi_survey_command.specs.RunSurvey.{counting}
use Rattle.swi_answer_laws.specs.Answered.{Answer, IsAnswerTo}
use Rattle.swi_answer_laws.specs.Counted.{AreFew, CostsFew, HasRoomFor, StatsAsked, StatsCostFew, StatsHaveRoom, StatsMissFew, TellsStats, entered_by, stats_given, stats_run}
use Rattle.swi_answer_laws.proofs.Parts.{image_is_one}
use Rattle.swi_answer_laws.proofs.Surveyed.{ended_as}

-- the misses of a run through slots
slots_few : (q : StatsAsked) (file input : List ℕ) (v : ImageData) →
    AreFew (slots_of q.cache.cache_bytes v) (record_after (cached_run (slotted q.cache.cache_bytes v) (counting q.limits) v (start_of (counting q.limits) file input)) q.limits.steps).counts.misses
    (entered_by (stats_run q file input v))
slots_few q file input v h before choices few is =
    let s : FlatState = start_of (counting q.limits) file input in
    let ts : List Transfer = indirect s.machine.pc ∷ transfers v q.limits.steps s (place_of v s.machine.pc) in
    let k : ℕ = slots_of q.cache.cache_bytes v in
    let none : h + 0 ≡ h = omega arith in
    subst (λ (n : ℕ). (k - h + 1) * (record_after (cached_run (slotted q.cache.cache_bytes v) (counting q.limits) v s) q.limits.steps).counts.misses ≤ k * copies choices + (k - h + 1) * n) none
    (misses_few (slot_setting q.cache.cache_bytes v) v empty_record ts (omega arith) h before choices few is)

kind_few : (q : StatsAsked) (file input : List ℕ) (v : ImageData) → q.cache.kind ≡ Slots →
    AreFew (slots_of q.cache.cache_bytes v) (work_of (stats_run q file input v)).counts.misses (entered_by (stats_run q file input v))
kind_few q file input v slots =
    subst (λ (kind : CacheKind). AreFew (slots_of q.cache.cache_bytes v)
    (record_after (cached_run (cache_by kind q.cache.cache_bytes v) (counting q.limits) v (start_of (counting q.limits) file input)) q.limits.steps).counts.misses (entered_by (stats_run q file input v))) (sym slots)
    (slots_few q file input v)

told_by : (q : StatsAsked) (file input : List ℕ) (v : ImageData) (b : Answer) (f : Ending) → RunsCached (counting q.limits) (stats_run q file input v) b.before b.after f (ending_line f) →
    Appends b.before.output.held b.after.output.held ((end_of (stats_run q file input v)).output ++ stats_text_of (end_of (stats_run q file input v)).machine.steps (Some (work_of (stats_run q file input v))))
told_by q file input v b f r = r.ran.output

pub stats_miss_few : StatsMissFew
stats_miss_few q file input ram b f slots x is =
    let r = ended_as (stats_given q file input ram) b f x is in
    let does = r.answers.done file r.are in
    let c : CachedRun = stats_run q file input does.0 in
    let t : TellsStats b = record { own = (end_of c).output; steps = (end_of c).machine.steps; work = work_of c; output = told_by q file input does.0 b f (does.3 input r.told) } in (
      t,
      λ v of_file.
          let same : v ≡ does.0 = image_is_one file q.cache.block_words v does.0 of_file does.1 in
          subst (λ (w : ImageData). AreFew (slots_of q.cache.cache_bytes v) (work_of (stats_run q file input w)).counts.misses (entered_by (stats_run q file input v))) same (kind_few q file input v slots),
    )

-- ---- room and cost

start_is : (o : RunOptions) (file input : List ℕ) → start_of o file input ≡ started (start_of o file input).machine input
unfolding start_of
start_is o file input = refl

min_below : (a b c : ℕ) → a ≤ c → min a b ≤ c
min_below a b c le = grind arith

-- the transfers of a run are those of a machine whose first text word stands at this place
transfers_as : (P : List Transfer → Type 0) (v : ImageData) (n : ℕ) (s : FlatState) (input : List ℕ) (p : ℕ × ℕ) → s ≡ started s.machine input → place_of v s.machine.pc ≡ Some p →
    P (transfers_from v n s.machine input p) → P (transfers v n s (place_of v s.machine.pc))
transfers_as P v n s input p started_is place have =
    subst (λ (h : Here). P (transfers v n s h)) (sym place) (subst (λ (x : FlatState). P (transfers v n x (Some p))) (sym started_is) have)

room_after : (bytes : ℕ) (v : ImageData) (n : ℕ) (s : FlatState) (input : List ℕ) (p : ℕ × ℕ) → s ≡ started s.machine input → Carries (fetched s.machine.bus) v → place_of v s.machine.pc ≡ Some p →
    length v.blocks ≤ slots_of bytes v →
    HasRoom v (length v.blocks * v.block_words) (register_jumps v (transfers v n s (place_of v s.machine.pc))) (after_boot (in_slots.fifo (slot_setting bytes v)) v s.machine.pc (transfers v n s (place_of v s.machine.pc)))
room_after bytes v n s input p started_is carries place many =
    transfers_as (λ ts. HasRoom v (length v.blocks * v.block_words) (register_jumps v ts) (after_boot (in_slots.fifo (slot_setting bytes v)) v s.machine.pc ts)) v n s input p started_is place
    (room_in_slots (slot_setting bytes v) v carries.image many (omega arith) s.machine.pc p (transfers_from v n s.machine input p) place (are_of_runs v n s.machine input p carries place))

-- the record of a run is few for its limit
abbrev IsFew : ImageData → ℕ → Record → Type 0
IsFew v n r = (r.counts.services ≤ 2 * n) × (writes r ≤ (2 * n + 1) * v.block_words + 4 * n)

few_after : (policy : Setting → Policy) → WritesFew policy → (by : Setting) (v : ImageData) (n : ℕ) (s : FlatState) (input : List ℕ) (p : ℕ × ℕ) → s ≡ started s.machine input →
    Carries (fetched s.machine.bus) v → place_of v s.machine.pc ≡ Some p → IsFew v n (after_boot (policy by) v s.machine.pc (transfers v n s (place_of v s.machine.pc)))
few_after policy few by v n s input p started_is carries place =
    let services = (few by v s.machine.pc p (transfers v n s (place_of v s.machine.pc)) carries.image place).services in
    let many = (steps_cost_few v s (place_of v s.machine.pc)).1 n in (
      omega (arith, services, many),
      transfers_as (λ ts. writes (after_boot (policy by) v s.machine.pc ts) ≤ (2 * n + 1) * v.block_words + 4 * n) v n s input p started_is place
          (steps_write_few policy few by v n s.machine input p carries place),
    )

kind_after : (kind : CacheKind) (bytes : ℕ) (o : RunOptions) (v : ImageData) (s : FlatState) (input : List ℕ) (p : ℕ × ℕ) → s ≡ started s.machine input → Carries (fetched s.machine.bus) v →
    place_of v s.machine.pc ≡ Some p → IsFew v o.limits.steps (record_after (cached_run (cache_by kind bytes v) o v s) o.limits.steps)
kind_after Slots bytes o v s input p started_is carries place =
    few_after in_slots.fifo (writes_few in_slots.arrived slots_arriving) (slot_setting bytes v) v o.limits.steps s input p started_is carries place
kind_after Ring bytes o v s input p started_is carries place =
    few_after in_ring.ring (writes_few in_ring.arrived ring_arriving) (ring_setting bytes) v o.limits.steps s input p started_is carries place

-- what the run is whose counts an answer tells
record IsTold (q : StatsAsked) (file input : List ℕ) (b : Answer) : Type 0 where
  image : ImageData
  is_image : IsImageFor file q.cache.block_words (image_in file) image
  tells : TellsStats b
  steps_are : tells.steps ≡ (end_of (stats_run q file input image)).machine.steps
  work_are : tells.work ≡ work_of (stats_run q file input image)
  run : IsCachedRun (stats_run q file input image) b.before.ram b.after.ram

told_run : (q : StatsAsked) (file input : List ℕ) (ram : RamState) (b : Answer) (f : Ending) → IsAnswerTo (stats_given q file input ram) b → b.result ≡ Ok f → IsTold q file input b
told_run q file input ram b f x is =
    let r = ended_as (stats_given q file input ram) b f x is in
    let does = r.answers.done file r.are in
    let c : CachedRun = stats_run q file input does.0 in
    record {
      image = does.0;
      is_image = does.1;
      tells = record { own = (end_of c).output; steps = (end_of c).machine.steps; work = work_of c; output = told_by q file input does.0 b f (does.3 input r.told) };
      steps_are = refl;
      work_are = refl;
      run = (does.3 input r.told).cached;
    }

room_told : (q : StatsAsked) (file input : List ℕ) (v : ImageData) (before after : RamState) → q.cache.kind ≡ Slots → IsCachedRun (stats_run q file input v) before after →
    length v.blocks ≤ slots_of q.cache.cache_bytes v → HasRoomFor v (work_of (stats_run q file input v))
room_told q file input v before after slots_are run many =
    let at = run.ram.carried in
    let room = room_after q.cache.cache_bytes v q.limits.steps (start_of (counting q.limits) file input) input at.entry (start_is (counting q.limits) file input) at.carries at.place many in
    subst (λ (kind : CacheKind). HasRoomFor v (work_of (cached_run (cache_by kind q.cache.cache_bytes v) (counting q.limits) v (start_of (counting q.limits) file input)))) (sym slots_are) (record {
      evictions = room.evictions;
      unlinks = room.unlinks;
      misses = room.misses;
      links = room.links;
      writes = min_below _ _ _ room.writes;
    })

pub stats_have_room : StatsHaveRoom
stats_have_room q file input ram b f slots_are x is =
    let t = told_run q file input ram b f x is in (
      t.tells,
      λ v of_file many.
          let same : t.image ≡ v = image_is_one file q.cache.block_words t.image v t.is_image of_file in
          let fits : length t.image.blocks ≤ slots_of q.cache.cache_bytes t.image = subst (λ (w : ImageData). length w.blocks ≤ slots_of q.cache.cache_bytes w) (sym same) many in
          subst (λ (w : ImageData). HasRoomFor w t.tells.work) same
          (subst (λ (w : Work). HasRoomFor t.image w) (sym t.work_are) (room_told q file input t.image b.before.ram b.after.ram slots_are t.run fits)),
    )

cost_told : (q : StatsAsked) (file input : List ℕ) (v : ImageData) (before after : RamState) → IsCachedRun (stats_run q file input v) before after →
    CostsFew q.limits.steps v (end_of (stats_run q file input v)).machine.steps (work_of (stats_run q file input v))
cost_told q file input v before after run =
    let at = run.ram.carried in
    let few = kind_after q.cache.kind q.cache.cache_bytes (counting q.limits) v (start_of (counting q.limits) file input) input at.entry (start_is (counting q.limits) file input) at.carries at.place in
    record { machine = run.most; services = few.0; writes = min_below _ _ _ few.1 }

pub stats_cost_few : StatsCostFew
stats_cost_few q file input ram b f x is =
    let t = told_run q file input ram b f x is in (
      t.tells,
      λ v of_file.
          let same : t.image ≡ v = image_is_one file q.cache.block_words t.image v t.is_image of_file in
          subst (λ (w : ImageData). CostsFew q.limits.steps w t.tells.steps t.tells.work) same
          (subst (λ (n : ℕ). CostsFew q.limits.steps t.image n t.tells.work) (sym t.steps_are)
          (subst (λ (w : Work). CostsFew q.limits.steps t.image (end_of (stats_run q file input t.image)).machine.steps w) (sym t.work_are) (cost_told q file input t.image b.before.ram b.after.ram t.run))),
    )
