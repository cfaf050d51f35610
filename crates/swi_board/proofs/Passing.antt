-- Transfers over exits and registers, as the service answers.
use Rattle.std.proofs.Common.{◌≡◌, ℕ, ◌+◌, ◌<◌, slice_index, None, Ok, Err, refl, sym, subst, ◌∙◌, arith}
use Rattle.swi_outside.specs.CacheRam.{RamState}
use Rattle.swi_outside.specs.Causes.{Rose}
use Rattle.swi_rom.specs.declared.rom.RomStop.{RomStop}
use Rattle.swi_rom.specs.declared.rom.RomStop.TheVariants.{Outside, RamFault}
use Rattle.swi_exec.specs.Arithmetic.{sum_of}
use Rattle.swi_image.specs.Format.{ImageData}
use Rattle.swi_image.specs.Place.{length_at, place_of, word_at}
use Rattle.swi_image.specs.Row.{row_once}
use Rattle.swi_render.specs.Rendering.{ebreak}
use Rattle.swi_rom.specs.Record.{Placed, Record, direct, indirect}
use Rattle.swi_rom.specs.Coherent.{ExitAt, TargetAt}
use Rattle.swi_rom.specs.Served.{Keeps, SameFrom, Served}
use Rattle.swi_rom.specs.Service.{IsService, ServiceOf}
use Rattle.swi_hart.specs.Leaving.{LeaveAt}
use Rattle.swi_hart.specs.Service.{ServiceWithRam}
use Rattle.swi_hart.proofs.Falls.{ram_same, words_same}
use Rattle.swi_hart.proofs.Leaving.{exit_unlinked, index_small, jump_linked, link_at, served_at}
use Rattle.swi_board.specs.Links.{IsLink}
use Rattle.swi_board.specs.Reached.{ExitInRow, Passed, Reached}

rose_none : (a b : ℕ) → Rose a b → b ≡ 0 → ⊥
rose_none a b rose none = grind (arith, rose, none)

-- a transfer to a text word's place, by a ram that counts no fault, is served
pub never : {v : ImageData} {span t : ℕ} {old next new : Record} {before after : RamState} (e : RomStop) → Served v span t old next new before after (Err e) → (place_of v t ≡ None → ⊥) → after.faults ≡ 0 → ⊥
never {before = before} {after = after} Outside s some none = some (s.outside refl)
never {before = before} {after = after} RamFault s some none = rose_none before.faults after.faults (s.failed refl) none

module _ {S : Type 0} {k : ServiceOf S} (laws : IsService k) (v : ImageData) (rom : S) (ram : RamState) (sound : k.sound rom v ram.words) where
  -- an exit in the row
  module _ {exit at : ℕ} (e : ExitInRow v (k.kept rom) exit at) where
    pub leave_at : (w : ℕ) → w ≡ slice_index ram.words at → LeaveAt v (k.kept rom) ram.words w at e.block e.offset
    leave_at w got = record {
      first = e.first;
      is_placed = e.is_placed;
      index = e.index;
      inside = e.is_exit.inside;
      known = e.known;
      leaves = e.is_exit.leaves;
      is_direct = e.is_exit.direct;
      fetched = got;
    }

    pub at_small : (w : ℕ) → w ≡ slice_index ram.words at → at < k.span (k.setting rom)
    at_small w got = index_small v (k.kept rom) (k.span (k.setting rom)) ram.words w at e.block e.offset (laws.coherent rom v ram.words sound) (leave_at w got)

    -- there is one such place
    pub passed_by : (old new : ServiceWithRam S) (index : ℕ) → Reached k v (direct e.block e.offset (word_at v e.block (e.offset + 1))) old new index → Passed k v exit old new index
    passed_by old new index reached = λ b o known inside row.
        let own = e.is_exit.inside in
        let same = row_once v e.block b e.offset o (omega (arith, own)) inside (sym e.row ∙ row) in
        subst (λ (n : ℕ). Reached k v (direct b n (word_at v b (n + 1))) old new index) same.1
        (subst (λ (n : ℕ). Reached k v (direct n e.offset (word_at v n (e.offset + 1))) old new index) same.0 reached)

    -- over a link nothing changes
    pub over_link : (w distance : ℕ) → w ≡ slice_index ram.words at → IsLink w distance →
        Passed k v exit (record { rom = rom; ram = ram }) (record { rom = rom; ram = ram }) (sum_of at distance)
    over_link w distance got is =
        let small = laws.small rom v ram.words sound in
        let linked = jump_linked v (k.kept rom) (k.span (k.setting rom)) ram.words w at e.block e.offset (laws.coherent rom v ram.words sound) (leave_at w got) is.linked in
        let link = link_at v (k.kept rom) (k.span (k.setting rom)) ram.words w at e.block e.offset (laws.coherent rom v ram.words sound) (laws.image rom v ram.words sound) (leave_at w got) is.linked in
        let low = at_small w got in
        let high = link.small in
        let lands = is.leads at link.to link.jumps (omega (arith, low, small)) (omega (arith, high, small)) in
        passed_by (record { rom = rom; ram = ram }) (record { rom = rom; ram = ram }) (sum_of at distance) (record {
          served = record {
            policy = sym (laws.link_stays (k.setting rom) (k.kept rom) v e.block e.offset (word_at v e.block (e.offset + 1)) linked);
            setting = refl;
            sound = (sound, λ images serves. serves);
            unused = λ i le. refl;
            words = words_same v (k.kept rom) ram ram refl;
            ram = ram_same (k.span (k.setting rom)) (k.kept rom) ram;
            failed = tt;
            placed = tt;
          };
          stands = subst (λ (n : ℕ). TargetAt v (k.kept rom) (word_at v e.block (e.offset + 1)) n) (sym lands) link.target;
        })

    -- the exit as the service is asked for it
    pub exit_at : (w target : ℕ) → w ≡ slice_index ram.words at → w ≡ ebreak → target ≡ word_at v e.block (e.offset + 1) → ExitAt v (k.kept rom) at target
    exit_at w target got is to = record {
      block = e.block;
      offset = e.offset;
      first = e.first;
      is_placed = e.is_placed;
      is_exit = e.is_exit;
      index = e.index;
      not_linked = exit_unlinked v (k.kept rom) (k.span (k.setting rom)) ram.words w at e.block e.offset (laws.coherent rom v ram.words sound) (leave_at w got) is;
      descriptor = to;
    }

    -- and as it has served it
    pub crossed : (target index : ℕ) (rom' : S) (ram' : RamState) → target ≡ word_at v e.block (e.offset + 1) → k.setting rom' ≡ k.setting rom →
        ((b o f : ℕ) → Placed (k.kept rom) b f → o < length_at v b → at ≡ f + o →
        Served v (k.span (k.setting rom)) target (k.kept rom) (k.policy (k.setting rom) (k.kept rom) v (direct b o target)) (k.kept rom') ram ram' (Ok index)) →
        SameFrom (k.extent (k.setting rom) (k.kept rom')) ram.words ram'.words → k.sound rom' v ram'.words → Keeps k v rom rom' ram.words ram'.words →
        Passed k v exit (record { rom = rom; ram = ram }) (record { rom = rom'; ram = ram' }) index
    crossed target index rom' ram' to setting served unused stays keeps =
        let inside = e.is_exit.inside in
        let d = served e.block e.offset e.first e.is_placed (omega (arith, inside)) e.index in
        passed_by (record { rom = rom; ram = ram }) (record { rom = rom'; ram = ram' }) index
        (subst (λ (t : ℕ). Reached k v (direct e.block e.offset t) (record { rom = rom; ram = ram }) (record { rom = rom'; ram = ram' }) index) to
        (record { served = served_at setting index index d unused (stays, keeps); stands = d.answer }))

  -- a jump over a register
  pub jumped : (target index : ℕ) (rom' : S) (ram' : RamState) → k.setting rom' ≡ k.setting rom →
      Served v (k.span (k.setting rom)) target (k.kept rom) (k.policy (k.setting rom) (k.kept rom) v (indirect target)) (k.kept rom') ram ram' (Ok index) →
      SameFrom (k.extent (k.setting rom) (k.kept rom')) ram.words ram'.words → k.sound rom' v ram'.words → Keeps k v rom rom' ram.words ram'.words →
      Reached k v (indirect target) (record { rom = rom; ram = ram }) (record { rom = rom'; ram = ram' }) index
  jumped target index rom' ram' setting d unused stays keeps = record { served = served_at setting index index d unused (stays, keeps); stands = d.answer }
