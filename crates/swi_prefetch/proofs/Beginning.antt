-- The boot comes to the first event.
use Rattle.std.proofs.Common.{◌≡◌, ℕ, ◌+◌, ◌-◌, List, Some, sym, ap, subst, ◌∙◌, zero-add, arith}
use Rattle.swi_outside.specs.Causes.{risen}
use Rattle.swi_outside.specs.CacheRam.{RamState}
use Rattle.swi_outside.specs.Devices.{Devices}
use Rattle.swi_outside.specs.Laws.{Appends-none}
use Rattle.swi_memory.specs.Bus.{fetched}
use Rattle.swi_calls.specs.declared.machine.Machine.{Machine}
use Rattle.swi_image.specs.Format.{ImageData}
use Rattle.swi_render.specs.Carried.{Carries}
use Rattle.swi_rom.specs.Record.{Record, indirect, writes}
use Rattle.swi_rom.specs.Service.{Setting}
use Rattle.swi_hart.specs.Hart.{HartData, unbooted}
use Rattle.swi_hart.specs.MachineStep.{BoardWithRam}
use Rattle.swi_board.specs.Board.{BoardOf}
use Rattle.swi_board.specs.Ran.{RamRan}
use Rattle.swi_engine.specs.Engine.{beside, empty_beside, span_of}
use Rattle.swi_engine.specs.State.{EngineData, kept_by, setting_of}
use Rattle.swi_prefetch.specs.Events.{booted}
use Rattle.swi_prefetch.specs.Prefetching.{BootedOn, empty_for}
use Rattle.swi_prefetch.specs.Tracking.{BoardTracks, point_around}
use Rattle.swi_prefetch.proofs.Tracks.{with_devices}

risen_none : (n : ℕ) → n ≡ risen n 0
risen_none n = grind arith

pub begins : (v : ImageData) (m : Machine) (bytes : ℕ) (before : RamState) (b : BoardWithRam EngineData) → BootedOn v (unbooted m) (empty_for bytes v) before b →
    kept_by b.rom ≡ beside (setting_of (empty_for bytes v)) (kept_by (empty_for bytes v)) v (indirect m.pc) →
    (d : Devices) (any : BoardOf EngineData) (left : List ℕ) → d.input.left ≡ Some left →
    BoardTracks v (booted (setting_of (empty_for bytes v)) v m left) (point_around any (record { ram = before; devices = d })) (with_devices b d)
begins v m bytes before b on kept d any left input =
    let e = on.entered in
    let same : b.hart.machine ≡ m = ap (λ (h : HartData). h.machine) e.hart in
    let sets : writes (kept_by b.rom) - writes (kept_by (empty_for bytes v)) ≡ 0 + (writes (beside (setting_of (empty_for bytes v)) empty_beside v (indirect m.pc)) - writes empty_beside) =
    ap (λ (r : Record). writes r - writes empty_beside) kept ∙ sym (zero-add (writes (beside (setting_of (empty_for bytes v)) empty_beside v (indirect m.pc)) - writes empty_beside)) in
    record {
      image = subst (λ (x : Machine). Carries (fetched x.bus) v) same e.fits.image;
      matches = e.matches;
      here = λ still. e.here;
      spent = e.spent;
      kept = kept;
      count = on.count;
      input = input;
      output = Appends-none d.output.held;
      error = Appends-none d.error.held;
      words = e.ram.fetched_at_stays;
      ram = subst (λ (q : Setting). RamRan (span_of q) 0 (0 + (writes (beside (setting_of (empty_for bytes v)) empty_beside v (indirect m.pc)) - writes empty_beside)) before b.ram) (sym e.setting)
          (record {
            quiet = e.ram.quiet;
            fetches = e.ram.fetches_stay ∙ risen_none before.fetches;
            sets = e.ram.sets_rise ∙ ap (λ (n : ℕ). risen before.sets n) sets;
            kept = e.ram.kept;
          });
    }
