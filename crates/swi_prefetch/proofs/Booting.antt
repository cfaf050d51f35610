-- The board of a program whose boot has entered an empty cache.
use Rattle.std.proofs.Common.{◌≡◌, ◌&&◌, ℕ, ◌+◌, ◌*◌, ◌/◌, ◌≤◌, if◌then◌else◌, [], Option, None, is_some, ap, subst, ◌∙◌, arith}
use Rattle.swi_calls.specs.declared.end.End.{End}
use Rattle.swi_calls.specs.declared.machine.Machine.{Machine}
use Rattle.swi_image.specs.Format.{ImageData}
use Rattle.swi_rom.specs.Record.{Record, indirect}
use Rattle.swi_rom.specs.Service.{ServiceOf}
use Rattle.swi_hart.specs.Hart.{HartData, unbooted}
use Rattle.swi_hart.specs.Bounds.{depth, is_outside, most, most_by}
use Rattle.swi_hart.specs.MachineStep.{BoardWithRam}
use Rattle.swi_hart.specs.Service.{ServiceWithRam}
use Rattle.swi_board.specs.Entered.{Entered}
use Rattle.swi_outside.specs.CacheRam.{RamState}
use Rattle.swi_engine.specs.Engine.{beside, engine_words}
use Rattle.swi_engine.specs.Laws.{engine_laws}
use Rattle.swi_engine.specs.Service.{engine_service}
use Rattle.swi_engine.specs.State.{EngineData, kept_by, setting_of}
use Rattle.swi_run_laws.proofs.Between.{depth_booted}
use Rattle.swi_prefetch.specs.EngineLaws.{engine_laws as turn_laws}
use Rattle.swi_prefetch.specs.Turns.{Beside}
use Rattle.swi_prefetch.specs.Prefetching.{BootedOn, empty_for}
use Rattle.std.proofs.Math.Nat.{div-mul-le_self}

pub beside_at_boot : {S : Type 0} (k : ServiceOf S) (v : ImageData) (m : Machine) (before : ServiceWithRam S) (b : BoardWithRam S) → Entered k v (unbooted m) before b →
    m.ending ≡ None → m.steps ≡ 0 → b.hart.count ≡ 1 → (k.kept b.rom).counts.services ≡ 0 → Beside k v b
beside_at_boot k v m before b entered going none count unserved =
    let deep = depth_booted v m b.hart.control entered.between entered.here in
    let same : b.hart.machine ≡ m = ap (λ (h : HartData). h.machine) entered.hart in
    let sum : 3 * m.steps + depth v m b.hart.control ≡ 1 = omega (arith, none, deep) in
    let bound : most v b.hart.machine b.hart.control ≡ 1 =
    ap (λ (x : Machine). most v x b.hart.control) same ∙ ap (λ (e : Option End). most_by e v m b.hart.control) going ∙ sum in
    record {
      fits = entered.fits;
      sound = entered.sound;
      unfailed = ap (λ (h : HartData). h.failed) entered.hart;
      booted = ap (λ (h : HartData). h.booted) entered.hart;
      steps_few = omega (arith, count, bound);
      services_few = λ _. omega (arith, unserved);
    }

-- the boot enters an empty service
pub booted_on : (v : ImageData) (m : Machine) (bytes : ℕ) (rom : EngineData) (entry : ℕ) (before : RamState) (b : BoardWithRam EngineData) → rom ≡ empty_for bytes v →
    m.ending ≡ None → m.steps ≡ 0 → Entered engine_service v (unbooted m) (record { rom = rom; ram = before }) b → b.hart.count ≡ 1 →
    kept_by b.rom ≡ beside (setting_of rom) (kept_by rom) v (indirect entry) → BootedOn v (unbooted m) (empty_for bytes v) before b
booted_on v m bytes rom entry before b same going none entered count policy =
    let words : engine_words (kept_by b.rom) ≡ 0 =
    ap engine_words policy ∙ turn_laws.unwritten (setting_of rom) (kept_by rom) v (indirect entry) ∙ ap (λ (e : EngineData). engine_words (kept_by e)) same in
    let unplaced : (kept_by rom).placed ≡ [] = ap (λ (e : EngineData). (kept_by e).placed) same in
    let unserved : (kept_by b.rom).counts.services ≡ 0 =
    ap (λ (r : Record). r.counts.services) policy ∙ engine_laws.boot_uncounted (setting_of rom) (kept_by rom) v (indirect entry) unplaced
    ∙ ap (λ (e : EngineData). e.counts.services) same in
    record {
      entered = subst (λ (e : EngineData). Entered engine_service v (unbooted m) (record { rom = e; ram = before }) b) same entered;
      count = count;
      inside = ap {B = ℕ} (λ (x : Option End). if is_some x && is_outside b.hart.control then 1 else 0) (ap (λ (h : HartData). h.machine.ending) entered.hart ∙ going);
      words = words;
      beside = beside_at_boot engine_service v m (record { rom = rom; ram = before }) b entered going none count unserved;
    }

-- the slots of a cache are within it
pub slots_fit : (bytes words n : ℕ) → bytes ≤ 4 * n → bytes / 4 / words * words ≤ n
slots_fit bytes words n le = let few = div-mul-le_self (bytes / 4) words in omega (arith, few)

-- no step is made
pub booted_steps : (v : ImageData) (m : Machine) (bytes : ℕ) (before : RamState) (b : BoardWithRam EngineData) → m.steps ≡ 0 → BootedOn v (unbooted m) (empty_for bytes v) before b → (n : ℕ) → b.hart.machine.steps ≤ n
booted_steps v m bytes before b none on n = let same = ap (λ (h : HartData). h.machine.steps) on.entered.hart in omega (arith, none, same)

-- and the engine has written nothing
pub booted_words : (v : ImageData) (m : Machine) (bytes : ℕ) (before : RamState) (b : BoardWithRam EngineData) → BootedOn v (unbooted m) (empty_for bytes v) before b → (n : ℕ) → engine_words (kept_by b.rom) ≤ n
booted_words v m bytes before b on n = let none = on.words in omega (arith, none)
