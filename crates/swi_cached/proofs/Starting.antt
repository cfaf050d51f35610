-- A run behind its boot: where its machine instructions begin, and where they have led.
use Rattle.std.proofs.Common.{◌≡◌, ℕ, ◌+◌, ◌-◌, ◌*◌, ◌≤◌, List, [], Option, Some, None, sym, ap, subst, ◌∙◌, zero-add, arith}
use Rattle.std.specs.Io.KnownBytes.{Appends}
use Rattle.swi_memory.specs.Bus.{fetched}
use Rattle.swi_outside.specs.Causes.{risen}
use Rattle.swi_outside.specs.CacheRam.{KeepsBeyond}
use Rattle.swi_outside.specs.Devices.{Devices, faults_of}
use Rattle.swi_outside.specs.Laws.{Appends-none}
use Rattle.swi_calls.specs.declared.end.End.{End}
use Rattle.swi_calls.specs.declared.machine.Machine.{Machine}
use Rattle.swi_image.specs.Format.{ImageData}
use Rattle.swi_render.specs.Carried.{Carries}
use Rattle.swi_rom.specs.Coherent.{Coherent}
use Rattle.swi_rom.specs.Record.{Record, indirect, writes}
use Rattle.swi_rom.specs.Service.{ServiceOf, IsService, Setting, cache_of}
use Rattle.swi_rom.specs.Served.{SameFrom}
use Rattle.swi_hart.specs.Bounds.{depth, most, most_by}
use Rattle.swi_hart.specs.Hart.{HartData}
use Rattle.swi_board.specs.Board.{BoardWithDevices, Around}
use Rattle.swi_board.specs.Moments.{Moment, booted, events}
use Rattle.swi_board.specs.Tracking.{Point, Tracks, point_of}
use Rattle.swi_board.proofs.Running.{kept_both}
use Rattle.swi_run_laws.proofs.Between.{depth_booted}
use Rattle.swi_run_laws.proofs.RunLaws.{events_written}
use Rattle.swi_line.specs.declared.trace.Trace.{Trace}
use Rattle.swi_cached.specs.Cached.{IsFresh}
use Rattle.swi_cached.specs.CachedRan.{Booted, Given}
use Rattle.swi_cached.specs.Told.{is_each}
use Rattle.swi_cached.specs.Traced.{ToldAlong, ToldTo}

risen_none : (n : ℕ) → n ≡ risen n 0
risen_none n = grind arith

abbrev pub given_for : {S : Type 0} → ServiceOf S → ImageData → S → Machine → ℕ → Trace → Given
given_for k v rom m n telling = record { image = v; cache = cache_of k rom; start = m; limit = n; telling = telling }

-- the moment behind the boot, with this input
abbrev pub first_moment : {S : Type 0} → ServiceOf S → ImageData → S → Machine → List ℕ → Moment
first_moment k v rom m left = booted (k.policy (k.setting rom)) v m left (k.kept rom)

module _ {S : Type 0} {k : ServiceOf S} {v : ImageData} {rom : S} {m : Machine} {n : ℕ} {telling : Trace} {before : Around} {b : BoardWithDevices S} (boot : Booted k (given_for k v rom m n telling) rom before b) where
  pub setting_is : k.setting b.rom ≡ k.setting rom
  setting_is = boot.entered.setting

  pub machine_is : b.hart.machine ≡ m
  machine_is = ap (λ (h : HartData). h.machine) boot.entered.hart

  -- the point before it
  abbrev pub from_point : Point
  from_point = point_of k (record { hart = b.hart; rom = rom; ram = before.ram; devices = before.devices })

  pub begins : (left : List ℕ) → before.devices.input.left ≡ Some left → Tracks (k.span (k.setting rom)) v (first_moment k v rom m left) from_point (point_of k b)
  begins left told =
      let e = boot.entered in
      let sets : writes (k.kept b.rom) - writes (k.kept rom) ≡ 0 + (writes (k.policy (k.setting rom) (k.kept rom) v (indirect m.pc)) - writes (k.kept rom)) =
      ap (λ (r : Record). writes r - writes (k.kept rom)) boot.policy ∙ sym (zero-add (writes (k.policy (k.setting rom) (k.kept rom) v (indirect m.pc)) - writes (k.kept rom))) in
      record {
        image = subst (λ (x : Machine). Carries (fetched x.bus) v) machine_is e.fits.image;
        matches = e.matches;
        here = λ still. e.here;
        spent = e.spent;
        kept = boot.policy;
        count = boot.count;
        input = ap (λ (d : Devices). d.input.left) boot.devices ∙ told;
        output = subst (λ (d : Devices). Appends before.devices.output.held d.output.held []) (sym boot.devices) (Appends-none before.devices.output.held);
        error = subst (λ (d : Devices). Appends before.devices.error.held d.error.held []) (sym boot.devices) (Appends-none before.devices.error.held);
        words = e.ram.fetched_at_stays;
        ram = record {
          quiet = e.ram.quiet;
          fetches = e.ram.fetches_stay ∙ risen_none before.ram.fetches;
          sets = e.ram.sets_rise ∙ ap (λ (n : ℕ). risen before.ram.sets n) sets;
          kept = e.ram.kept;
        };
      }

  -- and where a told run has led
  pub led_to : {mid : BoardWithDevices S} {lines : ℕ} {history : Option (List ℕ)} (along : ToldAlong k v telling n lines b mid history) (left : List ℕ) → before.devices.input.left ≡ Some left →
      ToldTo (k.policy (k.setting rom)) (k.span (k.setting rom)) v (is_each telling) n along.made lines (first_moment k v rom m left) from_point (point_of k mid) history
  led_to {mid} {lines} {history} along left told =
      subst (λ (s : Setting). ToldTo (k.policy s) (k.span s) v (is_each telling) n along.made lines (first_moment k v rom m left) from_point (point_of k mid) history) setting_is
      (along.came (first_moment k v rom m left) from_point (subst (λ (s : Setting). Tracks (k.span s) v (first_moment k v rom m left) from_point (point_of k b)) (sym setting_is) (begins left told)))

  pub bound : m.ending ≡ None → m.steps ≡ 0 → most v b.hart.machine b.hart.control ≡ 1
  bound going none =
      let deep = depth_booted v m b.hart.control boot.entered.between boot.entered.here in
      let sum : 3 * m.steps + depth v m b.hart.control ≡ 1 = omega (arith, none, deep) in
      ap (λ (x : Machine). most v x b.hart.control) machine_is ∙ ap (λ (x : Option End). most_by x v m b.hart.control) going ∙ sum

  pub count_most : {mid : BoardWithDevices S} {lines : ℕ} {history : Option (List ℕ)} → ToldAlong k v telling n lines b mid history → m.ending ≡ None → m.steps ≡ 0 → mid.hart.count ≤ most v mid.hart.machine mid.hart.control
  count_most {mid} {lines} {history} along going none =
      let rise = along.stays.point.count in
      let one = bound going none in
      let first = boot.count in
      omega (arith, rise, one, first)

  pub kept_run : {mid : BoardWithDevices S} {lines : ℕ} {history : Option (List ℕ)} → ToldAlong k v telling n lines b mid history → KeepsBeyond (k.span (k.setting rom)) before.ram mid.ram
  kept_run {mid} {lines} {history} along =
      kept_both (k.span (k.setting rom)) before.ram b.ram mid.ram boot.entered.ram.kept (subst (λ (s : Setting). KeepsBeyond (k.span s) b.ram mid.ram) setting_is along.stays.point.ram.kept)

  pub quiet_run : {mid : BoardWithDevices S} {lines : ℕ} {history : Option (List ℕ)} → ToldAlong k v telling n lines b mid history → (faults_of mid.devices ≡ faults_of before.devices) × (mid.ram.faults ≡ before.ram.faults)
  quiet_run {mid} {lines} {history} along = (along.stays.quiet ∙ ap (λ (d : Devices). faults_of d) boot.devices, along.stays.point.ram.quiet ∙ boot.entered.ram.quiet)

-- What the service has written by then, and what the ram holds.
module _ {S : Type 0} {k : ServiceOf S} (laws : IsService k) {v : ImageData} {rom : S} {m : Machine} {n : ℕ} {telling : Trace} {before : Around} {b mid : BoardWithDevices S} {lines : ℕ} {history : Option (List ℕ)}
    (boot : Booted k (given_for k v rom m n telling) rom before b) (along : ToldAlong k v telling n lines b mid history) where
  pub coherent_run : Coherent v (k.kept mid.rom) (k.span (k.setting rom)) mid.ram.words
  coherent_run = subst (λ (s : Setting). Coherent v (k.kept mid.rom) (k.span s) mid.ram.words) (along.stays.setting ∙ setting_is boot) (laws.coherent mid.rom v mid.ram.words along.stays.sound)

  pub unused_run : SameFrom (k.extent (k.setting rom) (k.kept mid.rom)) before.ram.words mid.ram.words
  unused_run =
      let grows = subst (λ (s : Setting). k.extent (k.setting rom) (k.kept b.rom) ≤ k.extent (k.setting rom) (k.kept mid.rom)) (setting_is boot)
      (along.stays.point.rises (λ r. k.extent (k.setting rom) r) (λ r v t. subst (λ (s : Setting). k.extent (k.setting rom) r ≤ k.extent (k.setting rom) (k.policy s r v t)) (sym (setting_is boot)) (laws.extent_rises (k.setting rom) r v t))) in
      let unused = subst (λ (s : Setting). SameFrom (k.extent s (k.kept mid.rom)) b.ram.words mid.ram.words) (setting_is boot) along.stays.unused in
      λ i least. unused i least ∙ boot.entered.unused i (omega (arith, least, grows))

  pub written_run : IsFresh (k.kept rom) → (left : List ℕ) → before.devices.input.left ≡ Some left → (events (k.policy (k.setting rom)) v along.made (first_moment k v rom m left)).sets ≡ writes (k.kept mid.rom)
  written_run fresh left told =
      let start = first_moment k v rom m left in
      let boot_sets : 0 + start.sets ≡ writes start.kept = (let up = laws.writes_rise (k.setting rom) (k.kept rom) v (indirect m.pc) in let first = fresh.unwritten in omega (arith, up, first)) in
      let all = events_written (k.policy (k.setting rom)) v 0 (λ r v t. laws.writes_rise (k.setting rom) r v t) along.made start boot_sets in
      let same = ap (λ (r : Record). writes r) (led_to boot along left told).tracks.kept in
      omega (arith, all, same)
