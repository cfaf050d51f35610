-- Two endings of a command whose cache stands in the ram are the same, and leave the same.
use Rattle.std.proofs.Common.{◌≡◌, ◌/◌, ℕ, max, List, [], ◌∷◌, ◌++◌, map, length, get_or, suc, false, Option, Some, None, Ok, refl, sym, ap, subst, ◌∙◌}
use Rattle.std.specs.Prelude.{slice_index_or}
use Rattle.std.specs.List.{AllZip}
use Rattle.std.specs.Io.KnownBytes.{Appends}
use Rattle.swi_outside.specs.CacheRam.{RamState}
use Rattle.swi_memory.specs.declared.layout.Layout.{Layout}
use Rattle.swi_program.specs.Layout.{laid_out}
use Rattle.swi_program.specs.Program.{ProgramData}
use Rattle.swi_program.specs.Text.{text_of}
use Rattle.swi_image.specs.Format.{ImageData}
use Rattle.swi_calls.specs.Flat.{machine_of}
use Rattle.swi_rom.specs.Coherent.{Coherent}
use Rattle.swi_rom.specs.Served.{SameFrom}
use Rattle.swi_slots.specs.Fifo.{extent_of}
use Rattle.swi_rom.specs.Record.{empty_record, writes}
use Rattle.swi_cut.specs.declared.cutting.Cutting.TheVariants.{Greedy}
use Rattle.swi_cut_laws.proofs.Cuts.{cut_is_one}
use Rattle.swi_command.specs.declared.command.CacheOptions.{CacheOptions}
use Rattle.swi_command.specs.declared.command.RunLimits.{RunLimits}
use Rattle.swi_command.specs.declared.command.RunOptions.{RunOptions}
use Rattle.swi_command.specs.declared.command.ShareOptions.{ShareOptions}
use Rattle.swi_command.specs.CommandLine.{RunAhead, RunShared, RunCached, MeasureMade}
use Rattle.swi_answer.specs.declared.answer.Ending.{Ending}
use Rattle.swi_answer.specs.Lines.{ending_line}
use Rattle.swi_task.specs.Checks.{room_in}
use Rattle.swi_task.specs.Runs.{Ran, start_of}
use Rattle.swi_cached.specs.Cached.{CachedRun, end_of, fetches_after, record_after, words_after}
use Rattle.swi_cached_task.specs.Caching.{IsCachedRun, cache_for, cached_run}
use Rattle.swi_cached_command.specs.RunCached.{RunsCached, cached_report, shown_end}
use Rattle.swi_prefetch.specs.Events.{rounds}
use Rattle.swi_prefetch.specs.Scheduled.{AheadRun, AreRounds, end_of as ahead_end, moment_after, words_of}
use Rattle.swi_prefetch_command.specs.RunAhead.{IsAheadRun, RunsAhead, ahead_asked, ahead_report, ahead_run, ahead_work}
use Rattle.swi_measure_command.specs.MeasureMade.{IsMadeRun, made_ending, made_run, made_summary}
use Rattle.swi_share.specs.declared.process.Guest.{Guest}
use Rattle.swi_share.specs.Shared.{Context, Shared, shared_run}
use Rattle.swi_share.specs.Starting.{first_context, most_words}
use Rattle.swi_share_command.specs.RunShared.{AreGuestsOf, IsGuestOf, BlocksStand, limits_by, order_of, share_report, shared_end}
use Rattle.swi_answer_laws.specs.Placed.{StandAlike, Standing, ahead_standing, cached_standing, shared_standing}
use Rattle.swi_answer_laws.proofs.Alike.{RamWent, gain, ran_alike, store_none, went_alike}
use Rattle.swi_answer_laws.proofs.Ended.{End, EndOnce, SameRam}
use Rattle.swi_answer_laws.proofs.Parts.{image_is_one, placed_words_are_one, program_is_one, rounds_are_one}

-- a ram holds the blocks, and no other word was written but where one once stood
record Holds (s : Standing) (d m : RamState) : Type 0 where
  coherent : Coherent s.image s.kept s.span m.words
  unused : SameFrom s.extent d.words m.words

stands : (s : Standing) (x y : End) → SameRam x y →
    Holds s x.before.ram x.after.ram → Holds s y.before.ram y.after.ram → StandAlike s x.after.ram.words y.after.ram.words
stands s x y same h k = record {
  placed = placed_words_are_one s x.after.ram.words y.after.ram.words h.coherent k.coherent;
  unused = λ i far. h.unused i far ∙ (ap (λ (r : RamState). get_or r.words i 0) same ∙ sym (k.unused i far));
}

-- ---- `cached` and `trace`

cached_went : (c : CachedRun) (d m : RamState) → IsCachedRun c d m → RamWent (fetches_after c c.limit) (writes (record_after c c.limit)) (words_after c c.limit) d m
cached_went c d m r = record { counted = r.ram.fetches; written = r.ram.sets; fetched = r.ram.fetched_at }

pub cached_once : (name : List ℕ) (cache : CacheOptions) (o : RunOptions) → EndOnce (RunCached name cache o)
cached_once name cache o file input x y same p q =
    let a = p.answers.done file p.are in
    let b = q.answers.done file q.are in
    let by : ImageData → CachedRun = λ v. cached_run (cache_for cache v) o v (start_of o file input) in
    let v : ImageData = a.0 in
    let c : CachedRun = by v in
    let one : RunsCached o c x.before x.after x.ending (ending_line x.ending) = a.3 input p.told in
    let other : RunsCached o c y.before y.after y.ending (ending_line y.ending) =
    subst (λ (w : ImageData). RunsCached o (by w) y.before y.after y.ending (ending_line y.ending)) (image_is_one file cache.block_words b.0 v b.1 a.1) (b.3 input q.told) in
    let r = ran_alike (shown_end o c) (cached_report o c) x.before x.after y.before y.after x.ending y.ending one.ran other.ran in
    record {
      ending = r.ending;
      output = r.output;
      error = r.error;
      left = r.left;
      stored = store_none _ _ _ _ p.answers.shelf.passed.stored q.answers.shelf.passed.stored;
      ram = went_alike (fetches_after c c.limit) (writes (record_after c c.limit)) (cache.cache_bytes / 4) (words_after c c.limit) x.before.ram x.after.ram y.before.ram y.after.ram same
          (cached_went c x.before.ram x.after.ram one.cached) (cached_went c y.before.ram y.after.ram other.cached) p.answers.ram q.answers.ram;
      placed = λ s left.
          subst (λ (t : Standing). StandAlike t x.after.ram.words y.after.ram.words) (sym (left.2 ∙ ap (λ (w : ImageData). cached_standing (by w)) (image_is_one file cache.block_words left.0 v left.1 a.1)))
          (stands (cached_standing c) x y same (record { coherent = one.cached.ram.coherent; unused = one.cached.ram.unused }) (record { coherent = other.cached.ram.coherent; unused = other.cached.ram.unused }));
    }

-- ---- `prefetch`

ahead_went : (c : AheadRun) (made : ℕ) (d m : RamState) → IsAheadRun c made d m → RamWent (ahead_work (moment_after c made)).fetches (ahead_work (moment_after c made)).writes (words_of c (rounds c.rate made)) d m
ahead_went c made d m r = record { counted = r.counted.fetches; written = r.counted.sets; fetched = r.words }

pub ahead_once : (name : List ℕ) (cache : CacheOptions) (o : RunOptions) (rate : ℕ) → EndOnce (RunAhead name cache o rate)
ahead_once name cache o rate file input x y same p q =
    let a = p.answers.done file p.are in
    let b = q.answers.done file q.are in
    let by : ImageData → AheadRun = λ v. ahead_run (ahead_asked cache o rate) v (start_of o file input) in
    let v : ImageData = a.0 in
    let c : AheadRun = by v in
    let one : RunsAhead o c x.before x.after x.ending (ending_line x.ending) = a.3 input p.told in
    let other : RunsAhead o c y.before y.after y.ending (ending_line y.ending) =
    subst (λ (w : ImageData). RunsAhead o (by w) y.before y.after y.ending (ending_line y.ending)) (image_is_one file cache.block_words b.0 v b.1 a.1) (b.3 input q.told) in
    let made : ℕ = one.made in
    let rounds_same : other.made ≡ made = rounds_are_one c other.made made other.ahead.are one.ahead.are in
    let ahead : IsAheadRun c made y.before.ram y.after.ram = subst (λ (n : ℕ). IsAheadRun c n y.before.ram y.after.ram) rounds_same other.ahead in
    let r = ran_alike (ahead_end c) (ahead_report o c made) x.before x.after y.before y.after x.ending y.ending one.ran
    (subst (λ (n : ℕ). Ran (ahead_end c) (ahead_report o c n) y.before y.after y.ending (ending_line y.ending)) rounds_same other.ran) in
    record {
      ending = r.ending;
      output = r.output;
      error = r.error;
      left = r.left;
      stored = store_none _ _ _ _ p.answers.shelf.passed.stored q.answers.shelf.passed.stored;
      ram = went_alike (ahead_work (moment_after c made)).fetches (ahead_work (moment_after c made)).writes (cache.cache_bytes / 4) (words_of c (rounds c.rate made)) x.before.ram x.after.ram y.before.ram y.after.ram same
          (ahead_went c made x.before.ram x.after.ram one.ahead) (ahead_went c made y.before.ram y.after.ram ahead) p.answers.ram q.answers.ram;
      placed = λ s left.
          let image : left.0 ≡ v = image_is_one file cache.block_words left.0 v left.1 a.1 in
          let are : AreRounds c left.2.0 = subst (λ (w : ImageData). AreRounds (by w) left.2.0) image left.2.1 in
          let is : s ≡ ahead_standing c made =
          left.2.2 ∙ (ap (λ (w : ImageData). ahead_standing (by w) left.2.0) image ∙ ap (λ (n : ℕ). ahead_standing c n) (rounds_are_one c left.2.0 made are one.ahead.are)) in
          subst (λ (t : Standing). StandAlike t x.after.ram.words y.after.ram.words) (sym is)
          (stands (ahead_standing c made) x y same (record { coherent = one.ahead.coherent; unused = one.ahead.unused }) (record { coherent = ahead.coherent; unused = ahead.unused }));
    }

-- ---- `measure`

-- what a seed's run is made of
record Parts : Type 0 where
  program : ProgramData
  layout : Layout
  image : ImageData

abbrev run_by : CacheOptions → Parts → CachedRun
run_by cache m = made_run (cache_for cache m.image) m.program m.layout m.image

abbrev AreMade : ℕ → ℕ → CacheOptions → Parts → Type 0
AreMade seed functions cache m = IsMadeRun seed functions cache m.program m.layout m.image

layout_once : (p : ProgramData) (l k : Layout) → laid_out p.segments 1048576 65536 ≡ Ok l → laid_out p.segments 1048576 65536 ≡ Ok k → l ≡ k
layout_once p l k a b = cc

parts_once : (seed functions : ℕ) (cache : CacheOptions) (m n : Parts) → AreMade seed functions cache m → AreMade seed functions cache n → m ≡ n
parts_once seed functions cache m n a b =
    let program : m.program ≡ n.program = program_is_one seed functions m.program n.program a.made b.made in
    let c : IsMadeRun seed functions cache m.program n.layout n.image = subst (λ (p : ProgramData). IsMadeRun seed functions cache p n.layout n.image) (sym program) b in
    let layout : m.layout ≡ n.layout = layout_once m.program m.layout n.layout a.layout c.layout in
    let image : m.image ≡ n.image = cut_is_one Greedy (text_of m.program.segments) cache.block_words m.image n.image (record { sound = a.sound; cut = a.cut }) (record { sound = c.sound; cut = c.cut }) in
    λ i. record { program = program i; layout = layout i; image = image i }

record HasMeasured (functions : ℕ) (cache : CacheOptions) (m : Parts) (x : End) : Type 0 where
  ending : x.ending ≡ made_ending (end_of (run_by cache m))
  output : Appends x.before.output.held x.after.output.held (made_summary functions m.program m.image (run_by cache m))
  error : Appends x.before.error.held x.after.error.held (ending_line x.ending)
  ran : IsCachedRun (run_by cache m) x.before.ram x.after.ram

pub measure_once : (seed functions : ℕ) (cache : CacheOptions) → EndOnce (MeasureMade seed functions cache)
measure_once seed functions cache files input x y same p q =
    let a = p.answers.done files p.are in
    let b = q.answers.done files q.are in
    let m : Parts = record { program = a.program; layout = a.layout; image = a.image } in
    let n : Parts = record { program = b.program; layout = b.layout; image = b.image } in
    let c : CachedRun = run_by cache m in
    let other : HasMeasured functions cache m y = subst (λ (k : Parts). HasMeasured functions cache k y) (parts_once seed functions cache n m b.is a.is)
    (record { ending = b.ending; output = b.output; error = b.error; ran = b.ran }) in
    let ends : x.ending ≡ y.ending = a.ending ∙ sym other.ending in
    record {
      ending = ends;
      output = gain x.before.output x.after.output y.before.output y.after.output (made_summary functions m.program m.image c) (made_summary functions m.program m.image c) refl a.output other.output;
      error = gain x.before.error x.after.error y.before.error y.after.error (ending_line x.ending) (ending_line y.ending) (ap (λ (e : Ending). ending_line e) ends) a.error other.error;
      left = ap (λ s. s.left) p.answers.input ∙ (p.told ∙ (sym q.told ∙ sym (ap (λ s. s.left) q.answers.input)));
      stored = store_none _ _ _ _ p.answers.shelf.passed.stored q.answers.shelf.passed.stored;
      ram = went_alike (fetches_after c c.limit) (writes (record_after c c.limit)) (cache.cache_bytes / 4) (words_after c c.limit) x.before.ram x.after.ram y.before.ram y.after.ram same
          (cached_went c x.before.ram x.after.ram a.ran) (cached_went c y.before.ram y.after.ram other.ran) p.answers.ram q.answers.ram;
      placed = λ s left.
          let k : Parts = record { program = left.0; layout = left.1.0; image = left.1.1.0 } in
          let is : s ≡ cached_standing c = left.1.1.2 ∙ ap (λ (l : Parts). cached_standing (run_by cache l)) (parts_once seed functions cache k m left.1.1.1 a.is) in
          subst (λ (t : Standing). StandAlike t x.after.ram.words y.after.ram.words) (sym is)
          (stands (cached_standing c) x y same (record { coherent = a.ran.ram.coherent; unused = a.ran.ram.unused }) (record { coherent = other.ran.ram.coherent; unused = other.ran.ram.unused }));
    }

-- ---- `share`

-- a program before its first event, and the most words of its blocks
record BeginAlike (x y : Guest) : Type 0 where
  context : first_context x ≡ first_context y
  words : x.image.block_words ≡ y.image.block_words

room_once : (file : List ℕ) (limits : RunLimits) (l k : Layout) → room_in file limits ≡ Ok l → room_in file limits ≡ Ok k → l ≡ k
room_once file limits l k a b = cc

guest_once : (limits : RunLimits) (most : ℕ) (file : List ℕ) (x y : Guest) → IsGuestOf limits most file x → IsGuestOf limits most file y → BeginAlike x y
guest_once limits most file x y a b =
    let program : x.program ≡ y.program = a.program ∙ sym b.program in
    let image : x.image ≡ y.image = image_is_one file most x.image y.image a.image b.image in
    let layout : x.layout ≡ y.layout = room_once file limits x.layout y.layout a.layout b.layout in
    let input : x.input.items ≡ y.input.items = a.input ∙ sym b.input in
    record {
      context = λ i. Some (record { image = image i; machine = machine_of (program i) (layout i) false; input = input i; booted = false; place = None; count = 0 });
      words = ap (λ (v : ImageData). v.block_words) image;
    }

contexts_once : (limits : RunLimits) (most : ℕ) (files : List (List ℕ)) (xs ys : List Guest) → AllZip (IsGuestOf limits most) files xs → AllZip (IsGuestOf limits most) files ys →
    ◌≡◌ {A = List (Option Context)} (map first_context xs) (map first_context ys)
contexts_once limits most [] [] [] a b = refl
contexts_once limits most [] [] (y ∷ ys) a b = absurd b
contexts_once limits most [] (x ∷ xs) ys a b = absurd a
contexts_once limits most (f ∷ fs) [] ys a b = absurd a
contexts_once limits most (f ∷ fs) (x ∷ xs) [] a b = absurd b
contexts_once limits most (f ∷ fs) (x ∷ xs) (y ∷ ys) a b =
    let one = guest_once limits most f x y a.0 b.0 in
    let rest = contexts_once limits most fs xs ys a.1 b.1 in
    λ i. one.context i ∷ rest i

most_once : (limits : RunLimits) (most : ℕ) (files : List (List ℕ)) (xs ys : List Guest) → AllZip (IsGuestOf limits most) files xs → AllZip (IsGuestOf limits most) files ys → most_words xs ≡ most_words ys
unfolding most_words
most_once limits most [] [] [] a b = refl
most_once limits most [] [] (y ∷ ys) a b = absurd b
most_once limits most [] (x ∷ xs) ys a b = absurd a
most_once limits most (f ∷ fs) [] ys a b = absurd a
most_once limits most (f ∷ fs) (x ∷ xs) [] a b = absurd b
most_once limits most (f ∷ fs) (x ∷ xs) (y ∷ ys) a b =
    let one = guest_once limits most f x y a.0 b.0 in
    let rest = most_once limits most fs xs ys a.1 b.1 in
    λ i. max (one.words i) (rest i)

many_once : (limits : RunLimits) (most : ℕ) (files : List (List ℕ)) (xs ys : List Guest) → AllZip (IsGuestOf limits most) files xs → AllZip (IsGuestOf limits most) files ys → length xs ≡ length ys
many_once limits most [] [] [] a b = refl
many_once limits most [] [] (y ∷ ys) a b = absurd b
many_once limits most [] (x ∷ xs) ys a b = absurd a
many_once limits most (f ∷ fs) [] ys a b = absurd a
many_once limits most (f ∷ fs) (x ∷ xs) [] a b = absurd b
many_once limits most (f ∷ fs) (x ∷ xs) (y ∷ ys) a b = ap (λ (n : ℕ). suc n) (many_once limits most fs xs ys a.1 b.1)

end_once : (cache : CacheOptions) (o : ShareOptions) (files : List (List ℕ)) (xs ys : List Guest) → AreGuestsOf cache o files xs → AreGuestsOf cache o files ys →
    shared_end o cache.cache_bytes xs ≡ shared_end o cache.cache_bytes ys
end_once cache o files xs ys a b =
    let most = most_once (limits_by o) cache.block_words files xs ys a b in
    let many = many_once (limits_by o) cache.block_words files xs ys a b in
    let contexts = contexts_once (limits_by o) cache.block_words files xs ys a b in
    λ i. shared_run (order_of (many i) o.schedule) (record {
      setting = record { slots = cache.cache_bytes / 4 / most i; slot_words = most i; programs = many i };
      kept = empty_record;
      contexts = contexts i;
      output = [];
      error = [];
      sets = 0;
      fetches = 0;
      words = [];
    })

-- what is used of an end
record HasShared (o : ShareOptions) (s : Shared) (x : End) : Type 0 where
  output : Appends x.before.output.held x.after.output.held (s.output ++ share_report o s)
  error : Appends x.before.error.held x.after.error.held (s.error ++ ending_line x.ending)
  went : RamWent s.fetches (writes s.kept) s.words x.before.ram x.after.ram
  unused : SameFrom (extent_of s.setting s.kept) x.before.ram.words x.after.ram.words
  coherent : (g : ℕ) (c : Context) → slice_index_or s.contexts g None ≡ Some c → BlocksStand s g c x.after.ram.words

pub share_once : (names : List (List ℕ)) (cache : CacheOptions) (o : ShareOptions) → EndOnce (RunShared names cache o)
share_once names cache o files input x y same p q =
    let a = p.answers.done files p.are in
    let b = q.answers.done files q.are in
    let bytes : ℕ = cache.cache_bytes in
    let t : Shared = shared_end o bytes a.0 in
    let one : HasShared o t x = record { output = a.2.output; error = a.2.error; went = record { counted = a.2.ram.ran.fetches; written = a.2.ram.ran.sets; fetched = a.2.ram.words }; unused = a.2.ram.unused; coherent = a.2.ram.coherent } in
    let other : HasShared o t y = subst (λ (s : Shared). HasShared o s y) (end_once cache o files b.0 a.0 b.1 a.1)
    (record { output = b.2.output; error = b.2.error; went = record { counted = b.2.ram.ran.fetches; written = b.2.ram.ran.sets; fetched = b.2.ram.words }; unused = b.2.ram.unused; coherent = b.2.ram.coherent }) in
    let ends : x.ending ≡ y.ending = a.2.ending ∙ sym b.2.ending in
    record {
      ending = ends;
      output = gain x.before.output x.after.output y.before.output y.after.output (t.output ++ share_report o t) (t.output ++ share_report o t) refl one.output other.output;
      error = gain x.before.error x.after.error y.before.error y.after.error (t.error ++ ending_line x.ending) (t.error ++ ending_line y.ending) (ap (λ (e : Ending). t.error ++ ending_line e) ends) one.error other.error;
      left = ap (λ s. s.left) p.answers.input ∙ (p.told ∙ (sym q.told ∙ sym (ap (λ s. s.left) q.answers.input)));
      stored = store_none _ _ _ _ p.answers.shelf.passed.stored q.answers.shelf.passed.stored;
      ram = went_alike t.fetches (writes t.kept) (bytes / 4) t.words x.before.ram x.after.ram y.before.ram y.after.ram same one.went other.went p.answers.ram q.answers.ram;
      placed = λ s left.
          let g : ℕ = left.2.0 in
          let c : Context = left.2.1.0 in
          let same_end : shared_end o bytes left.0 ≡ t = end_once cache o files left.0 a.0 left.1 a.1 in
          let is_context : slice_index_or t.contexts g None ≡ Some c = subst (λ (u : Shared). slice_index_or u.contexts g None ≡ Some c) same_end left.2.1.1 in
          let is : s ≡ shared_standing t g c = left.2.1.2 ∙ ap (λ (u : Shared). shared_standing u g c) same_end in
          subst (λ (u : Standing). StandAlike u x.after.ram.words y.after.ram.words) (sym is)
          (stands (shared_standing t g c) x y same (record { coherent = one.coherent g c is_context; unused = one.unused }) (record { coherent = other.coherent g c is_context; unused = other.unused }));
    }
