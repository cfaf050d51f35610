-- An event of the machine leads on from wherever it stands.
use Rattle.std.proofs.Common.{◌≡◌, ◌+◌, ◌<◌, ◌≤◌, ◌^◌, Bool, Option, Some, None, Result, Ok, Err, OnOk, [], ◌∷◌, length, refl, ap, subst, sym, arith}
use Rattle.swi_outside.specs.CacheRam.{RamState}
use Rattle.swi_outside.specs.Devices.{Devices}
use Rattle.swi_calls.specs.declared.end.End.{End}
use Rattle.swi_image.specs.Format.{ImageData}
use Rattle.swi_rom.specs.Record.{Record, Transfer}
use Rattle.swi_rom.specs.Served.{SameFrom}
use Rattle.swi_rom.specs.Service.{Setting}
use Rattle.swi_hart.specs.Leaving.{moved, transfer_at}
use Rattle.swi_hart.specs.MachineStep.{BoardWithRam}
use Rattle.swi_hart.specs.declared.fault.BoardFault.{BoardFault}
use Rattle.swi_board.specs.Board.{BoardOf, BoardWithDevices}
use Rattle.swi_board.specs.Moments.{Moment}
use Rattle.swi_board.specs.Runs.{unfetched}
use Rattle.swi_board.specs.Tracking.{Point}
use Rattle.swi_engine.specs.Engine.{beside, extent_of}
use Rattle.swi_engine.specs.Service.{engine_service}
use Rattle.swi_engine.specs.State.{EngineData, kept_by, setting_of}
use Rattle.swi_engine.specs.Taken.{beside_extent}
use Rattle.swi_prefetch.specs.Events.{Turn, of_hart, of_engine, turned, turned_all}
use Rattle.swi_prefetch.specs.Prefetching.{EngineEvent, HartEvent, PcShort, PrefetchState, TakesTurns, with_ram}
use Rattle.swi_prefetch.specs.Tracking.{BoardTracks, Led, Leads}
use Rattle.swi_prefetch.specs.Turns.{HartTurned}
use Rattle.swi_prefetch.proofs.Tracks.{engine_fetched, engine_tracks, hart_fetched, hart_tracks}

-- what it leaves of the slots that were never taken
record Leaves (a b : EngineData) (before after : RamState) : Type 0 where
  unused : SameFrom (extent_of (setting_of a) (kept_by b)) before.words after.words
  grows : extent_of (setting_of a) (kept_by a) ≤ extent_of (setting_of a) (kept_by b)

moved_grows : (by : Setting) (v : ImageData) (r new : Record) (t : Option Transfer) → new ≡ moved (beside by) r v t → extent_of by r ≤ extent_of by new
moved_grows by v r new None is = let same = ap (λ (k : Record). extent_of by k) is in omega (arith, same)
moved_grows by v r new (Some t) is = let same = ap (λ (k : Record). extent_of by k) is in omega (arith, same, beside_extent by r v t)

hart_leaves : (v : ImageData) (a b : BoardWithRam EngineData) (d d' : Devices) {u : Unit {0}} → HartTurned engine_service v a b d d' (Ok u) → Leaves a.rom b.rom a.ram b.ram
hart_leaves v a b d d' event = by a.hart.machine.ending refl
  where
    by : (e : Option End) → a.hart.machine.ending ≡ e → Leaves a.rom b.rom a.ram b.ram
    by None running =
        let step = event.stepped running in
        record { unused = step.unused; grows = moved_grows (setting_of a.rom) v (kept_by a.rom) (kept_by b.rom) (transfer_at v a.hart.machine a.hart.control) step.policy }
    by (Some x) ended =
        let same = (event.ended x ended).1 in
        subst (λ (k : BoardWithRam EngineData). Leaves a.rom k.rom a.ram k.ram) (sym same) (record { unused = λ i le. refl; grows = omega arith })

-- one event
one_led : (v : ImageData) (t : Turn) (old new : BoardWithDevices EngineData) → setting_of new.rom ≡ setting_of old.rom → Leaves old.rom new.rom old.ram new.ram →
    ((s : Moment) (from : Point) → BoardTracks v s from old → BoardTracks v (turned (setting_of old.rom) v t s) from new
    × (length (turned (setting_of old.rom) v t s).words + unfetched new.hart + s.count ≡ length s.words + unfetched old.hart + (turned (setting_of old.rom) v t s).count)) → Led v (t ∷ []) old new
unfolding turned_all
one_led v t old new same leaves leads = record {
  setting = same;
  unused = leaves.unused;
  grows = leaves.grows;
  tracks = λ s from at. (leads s from at).0;
  fetched = λ s from at. (leads s from at).1;
}

pub leads_hart : (v : ImageData) (old new : PrefetchState) (d d' : Devices) (result : Result Unit BoardFault) → TakesTurns v old.board old.ram → PcShort old.board → HartEvent v old new d d' result →
    OnOk result (Leads v (of_hart ∷ []) old.board new.board (record { ram = old.ram; devices = d }) (record { ram = new.ram; devices = d' }))
leads_hart v old new d d' (Ok u) was short event = by old.board new.board was short event
  where
    by : (o n : Option (BoardOf EngineData)) → TakesTurns v o old.ram → PcShort o → HartEvent v (record { board = o; ram = old.ram }) (record { board = n; ram = new.ram }) d d' (Ok u) →
        Leads v (of_hart ∷ []) o n (record { ram = old.ram; devices = d }) (record { ram = new.ram; devices = d' })
    by None n was short event = absurd event
    by (Some a) None was short event = absurd event
    by (Some a) (Some b) was short event = one_led v of_hart (record { hart = a.hart; rom = a.rom; ram = old.ram; devices = d }) (record { hart = b.hart; rom = b.rom; ram = new.ram; devices = d' }) event.setting
        (hart_leaves v (with_ram a old.ram) (with_ram b new.ram) d d' event)
        (λ s from at. (
          hart_tracks v (with_ram a old.ram) (with_ram b new.ram) d d' was short event s from at,
          hart_fetched v (with_ram a old.ram) (with_ram b new.ram) d d' was short event s from at,
        ))
leads_hart v old new d d' (Err e) was short event = tt

pub short_of : (o : Option (BoardOf EngineData)) (b : BoardOf EngineData) → o ≡ Some b → b.hart.machine.pc < 2 ^ 32 → PcShort o
short_of o b is short = subst (λ (x : Option (BoardOf EngineData)). PcShort x) (sym is) short

pub leads_engine : (v : ImageData) (old new : PrefetchState) (d : Devices) (wrote : Bool) → EngineEvent {E = BoardFault} v old new (Ok wrote) →
    Leads v (of_engine ∷ []) old.board new.board (record { ram = old.ram; devices = d }) (record { ram = new.ram; devices = d })
leads_engine v old new d wrote event = by old.board new.board event
  where
    by : (o n : Option (BoardOf EngineData)) → EngineEvent {E = BoardFault} v (record { board = o; ram = old.ram }) (record { board = n; ram = new.ram }) (Ok wrote) →
        Leads v (of_engine ∷ []) o n (record { ram = old.ram; devices = d }) (record { ram = new.ram; devices = d })
    by None n event = absurd event
    by (Some a) None event = absurd event
    by (Some a) (Some b) event = one_led v of_engine (record { hart = a.hart; rom = a.rom; ram = old.ram; devices = d }) (record { hart = b.hart; rom = b.rom; ram = new.ram; devices = d }) event.setting
        (record { unused = event.unused; grows = event.grows })
        (λ s from at. (
          engine_tracks v (with_ram a old.ram) (with_ram b new.ram) d wrote event s from at,
          engine_fetched v (with_ram a old.ram) (with_ram b new.ram) d wrote event s from at,
        ))
