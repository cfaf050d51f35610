-- Lemmas on a run of the cached machine that its commands share.
use Rattle.std.proofs.Common.{◌≡◌, ℕ, ◌+◌, ◌-◌, ◌*◌, ◌/◌, ◌^◌, ◌≤◌, min, List, Option, Err, IsErrOf, refl, sym, ◌∙◌, subst, ap, arith}
use Rattle.std.proofs.Math.Nat.{div-mul-le_self}
use Rattle.swi_outside.specs.Causes.{risen}
use Rattle.swi_outside.specs.CacheRam.{KeepsBeyond, RamState}
use Rattle.swi_outside.specs.Shelf.{Asked, ShelfState}
use Rattle.swi_outside.specs.Sink.{SinkState}
use Rattle.swi_outside.specs.Source.{SourceState}
use Rattle.swi_image.specs.Format.{ImageData}
use Rattle.swi_command.specs.declared.command.CacheKind.{CacheKind}
use Rattle.swi_command.specs.declared.command.CacheKind.TheVariants as kind
use Rattle.swi_command.specs.declared.command.CacheOptions.{CacheOptions}
use Rattle.swi_calls.specs.declared.end.End.{End}
use Rattle.swi_calls.specs.declared.machine.Machine.{Machine}
use Rattle.swi_rom.specs.Record.{Record, writes}
use Rattle.swi_rom.specs.Service.{Cache}
use Rattle.swi_hart.specs.Hart.{HartData}
use Rattle.swi_cached.specs.Answers as run
use Rattle.swi_cached.specs.Ringed.{ringed}
use Rattle.swi_cached.specs.Slotted.{slotted}
use Rattle.swi_cached.specs.Cached.{CachedRun, IsCounted, end_of, instructions_after, fetches_after, record_after, unfetched}
use Rattle.swi_cached.proofs.Failed.{are_counted, is_flat_run, stops_before_store}
use Rattle.swi_answer.specs.declared.answer.Ending.{Ending}
use Rattle.swi_answer.specs.declared.answer.Refusal.{Refusal}
use Rattle.swi_answer.specs.declared.answer.Refusal.TheVariants as refusal
use Rattle.swi_task.specs.Answers.{AreGiven, IsAskedFor, IsChecked, IsSizeRefusal}
use Rattle.swi_cached_task.specs.Caching.{IsCachedRun, RamCounted, board_work, cache_by, cache_for, work_of}
use Rattle.swi_task.specs.Checks.{Check, IsAccepted}
use Rattle.swi_task.specs.Devices.{Devices}
use Rattle.swi_task.specs.Over.{IsRunErr}
use Rattle.swi_task.specs.Runs.{ending_by}
use Rattle.swi_task.proofs.Refusals.{IsTooLong}

-- ---- devices and sinks

-- the devices after a run
abbrev pub ran_all : Devices → SourceState → SinkState → SinkState → RamState → Devices
ran_all d i o e ram = record d { input = i; output = o; error = e; ram = ram }

-- the devices after the command
abbrev pub cached_to : Devices → ShelfState → SourceState → SinkState → SinkState → RamState → Devices
cached_to d s i out e ram = record d { shelf = s; input = i; output = out; error = e; ram = ram }

-- how it ended, as its board says it
pub ending_is : {x : Ending} {e f : Option End} {a b n m : ℕ} → x ≡ ending_by e a n → e ≡ f → a ≡ b → n ≡ m → x ≡ ending_by f b m
ending_is {x} {e} {f} {a} {b} {n} {m} is ends pc steps =
    is ∙ ap (λ (k : Option End). ending_by k a n) ends ∙ ap (λ (k : ℕ). ending_by f k n) pc ∙ ap (λ (k : ℕ). ending_by f b k) steps

-- ---- the ram behind a cache

pub keeps_all : (n : ℕ) (r : RamState) → KeepsBeyond n r r
keeps_all n r = record { same_length = refl; beyond = λ i h. refl; reached = omega arith }

pub keeps_less : (a b : ℕ) (r s : RamState) → a ≤ b → KeepsBeyond a r s → KeepsBeyond b r s
keeps_less a b r s h k = record {
  same_length = k.same_length;
  beyond = λ i from. k.beyond i (omega arith);
  reached = omega (arith, k.reached);
}

span_within : (n b : ℕ) → n / (4 * b) * b ≤ n / 4
span_within n b =
    let whole : n / (4 * b) * (4 * b) ≤ n = div-mul-le_self n (4 * b) in
    let apart : n / (4 * b) * (4 * b) ≡ 4 * (n / (4 * b) * b) = omega arith in
    omega arith

-- either cache lies in its bytes
span_of_kind : (k : CacheKind) (bytes : ℕ) (v : ImageData) → (cache_by k bytes v).span ≤ bytes / 4
span_of_kind kind.Slots bytes v = span_within bytes v.block_words
span_of_kind kind.Ring bytes v = omega arith

pub keeps_run : (cache : CacheOptions) (v : ImageData) (r s : RamState) → KeepsBeyond (cache_for cache v).span r s → KeepsBeyond (cache.cache_bytes / 4) r s
keeps_run cache v r s k = keeps_less _ _ r s (span_of_kind cache.kind cache.cache_bytes v) k

-- ---- the cache that is made

-- the service that is made is that of the kind which the options name
pub slots_chosen : (cache : CacheOptions) (v : ImageData) (k : Cache) → cache.kind ≡ kind.Slots → k ≡ slotted cache.cache_bytes v → k ≡ cache_for cache v
slots_chosen cache v k is same = same ∙ sym (ap (λ (x : CacheKind). cache_by x cache.cache_bytes v) is)

pub ring_chosen : (cache : CacheOptions) (v : ImageData) (k : Cache) → cache.kind ≡ kind.Ring → k ≡ ringed cache.cache_bytes → k ≡ cache_for cache v
ring_chosen cache v k is same = same ∙ sym (ap (λ (x : CacheKind). cache_by x cache.cache_bytes v) is)

-- ---- a run that came to its end

pub fetches_are : (instructions fetches none : ℕ) → instructions ≡ 1 + fetches + none → instructions - 1 - none ≡ fetches
fetches_are instructions fetches none e = omega (arith, e)

-- at the end its counts are those of the run
pub work_is : (c : CachedRun) → IsCounted c → board_work (instructions_after c c.limit) (end_of c).machine.ending (record_after c c.limit) ≡ work_of c
work_is c counted =
    ap (λ (n : ℕ). record (work_of c) { fetches = n })
    (fetches_are (instructions_after c c.limit) (fetches_after c c.limit) (unfetched (end_of c).machine.ending) (counted c.limit))

-- a count that rises by a number of 64 bits
pub risen_min : (n more : ℕ) → risen n more ≡ risen n (min more (2 ^ 64 - 1))
risen_min n more = grind arith

ram_counted : (c : CachedRun) (before after : RamState) → run.RamAfter c before after → RamCounted (work_of c) before after
ram_counted c before after h = record { fetches = h.fetches; sets = h.sets ∙ risen_min before.sets (writes (record_after c c.limit)) }

-- what a run is that came to its end
pub cached_run_is : (c : CachedRun) (h : HartData) (r : Record) (i o p e f : Option (List ℕ)) (before after : RamState) → run.Ended c h r i o p e f → run.IsShort h →
    run.RamAfter c before after → IsCounted c → IsCachedRun c before after
cached_run_is c h r i o p e f before after b s ram counted = record {
  flat = is_flat_run c;
  stops = stops_before_store c;
  ram = ram;
  counted = ram_counted c before after ram;
  most = subst (λ (n : ℕ). n ≤ 3 * (end_of c).machine.steps + 2) b.count (subst (λ (m : Machine). h.count ≤ 3 * m.steps + 2) b.machine s.most);
  fewer = λ never. subst (λ (n : ℕ). n ≤ 3 * (end_of c).machine.steps + 1) b.count
      (subst (λ (m : Machine). h.count ≤ 3 * m.steps + 1) b.machine (s.fewer (λ a is. never a (ap (λ (m : Machine). m.ending) (sym b.machine) ∙ is))));
  each = counted;
  words = are_counted c;
}

-- ---- what a run is refused with, as a command's answer

pub run_err_not : (r s : Refusal) → IsRunErr r → (IsRunErr s → ⊥) → IsErrOf {T = Ending} (Err r) s → ⊥
run_err_not r s h never e = never (let p : r ≡ s = cc in subst IsRunErr p h)

pub run_err_size : (r : Refusal) → IsRunErr r → IsSizeRefusal r → ⊥
run_err_size (refusal.CacheLarge bytes) h f = h
run_err_size (refusal.RamSmall bytes held) h f = h
run_err_size _ h f = f

pub run_err_asked : (failed : Option Asked) (r : Refusal) → IsRunErr r → IsAskedFor 1 0 failed (Err r) 1 0
run_err_asked failed refusal.SourceFault h = (refl, refl)
run_err_asked failed refusal.SinkFault h = (refl, refl)
run_err_asked failed refusal.RamFault h = (refl, refl)
run_err_asked failed refusal.Memory h = (omega arith, omega arith, λ _. refl)
run_err_asked failed _ h = absurd h

pub run_err_given : (failed : Option Asked) (r : Refusal) → IsRunErr r → AreGiven failed (Err r) 1 1
run_err_given failed refusal.SourceFault h = refl
run_err_given failed refusal.SinkFault h = refl
run_err_given failed refusal.RamFault h = refl
run_err_given failed refusal.Memory h = (omega arith, omega arith)
run_err_given failed _ h = absurd h

pub run_err_short : (r : Refusal) → IsRunErr r → IsTooLong r → ⊥
run_err_short refusal.SourceFault h long = long
run_err_short refusal.SinkFault h long = long
run_err_short refusal.RamFault h long = long
run_err_short refusal.Memory h long = long
run_err_short _ h long = h

pub run_err_checked : (checks : List Check) (last : Option Asked) (r : Refusal) → IsRunErr r → IsAccepted checks → IsChecked checks last (Err r)
run_err_checked checks last refusal.SourceFault h passed = passed
run_err_checked checks last refusal.SinkFault h passed = passed
run_err_checked checks last refusal.RamFault h passed = passed
run_err_checked checks last refusal.Memory h passed = tt
run_err_checked checks last _ h passed = absurd h
