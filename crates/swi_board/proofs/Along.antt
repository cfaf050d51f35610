-- A run over whole boards: what holds all along it, and what stands at its end.
use Rattle.std.proofs.Common.{◌≡◌, ◌⊎◌, if◌then◌else◌, ℕ, zero, suc, ◌^◌, ◌<◌, ◌≤◌, Bool, List, [], ◌++◌, Option, Some, None, is_some, nat_lt, true, false, Ok, Err, refl, sym, subst, ap, ◌∙◌, inl, inr, arith, append-nil}
use Rattle.std.proofs.lemmas.Bool.{false≢true}
use Rattle.swi_outside.specs.Source.{SourceState, HasGiven, ReadFrom}
use Rattle.swi_outside.specs.Told.{AsTold, told_as}
use Rattle.swi_outside.specs.Laws.{ok_unmoved}
use Rattle.swi_outside.proofs.SourceLemmas.{given_more, given_still, read_first, read_last, rest_is}
use Rattle.swi_outside.proofs.ToldLemmas.{told_some}
use Rattle.swi_calls.specs.declared.end.End.{End}
use Rattle.swi_memory.specs.Bus.{fetched}
use Rattle.swi_outside.specs.Causes.{risen}
use Rattle.std.specs.Io.KnownBytes.{Appends}
use Rattle.swi_calls.specs.declared.machine.Machine.{Machine}
use Rattle.swi_calls.specs.Held.{held_step}
use Rattle.swi_image.specs.Format.{ImageData}
use Rattle.swi_rom.specs.Record.{Record}
use Rattle.swi_rom.specs.Service.{ServiceOf, IsService, Setting}
use Rattle.swi_rom.specs.Served.{SameFrom}
use Rattle.swi_hart.specs.declared.fault.BoardFault.{BoardFault}
use Rattle.swi_hart.specs.declared.hart.Stage.TheVariants.{Start, Low, Return, Leave}
use Rattle.swi_hart.specs.declared.hart.Control.{Control}
use Rattle.swi_hart.specs.declared.hart.Control.TheVariants.{At, Outside}
use Rattle.swi_hart.specs.Hart.{is_between, original, slots}
use Rattle.swi_hart.specs.Matching.{Agrees, Fits, Matches}
use Rattle.swi_hart.specs.MachineStep.{BoardStepped, BoardWithRam}
use Rattle.swi_hart.specs.Bounds.{most}
use Rattle.swi_hart.proofs.Fitting.{own_matches}
use Rattle.swi_hart.proofs.Kept.{next_text}
use Rattle.swi_board.specs.Board.{BoardWithDevices}
use Rattle.swi_board.specs.BoardRan.{Along, BoardRan, BoardStays, course_of, with_ram}
use Rattle.swi_board.specs.Advancing.{Onward, ServiceStays, Underway, course_from, service_of, with_board}
use Rattle.swi_board.specs.Moments.{Moment, Policy, completed, event, events, executed, fell, led, stepped_at}
use Rattle.swi_board.specs.Tracking.{Point, Running, Tracks, point_of}
use Rattle.swi_board.specs.Transfers.{Here, at_fall, before_last, here_of, spent_run}
use Rattle.swi_board.proofs.Fetching.{holds_under}
use Rattle.swi_board.proofs.Running.{came_none, came_on, no_less, stays_none, stays_on}

-- the machines have the same memory
same_memory : (v : ImageData) (r : Record) (f m : Machine) (c : Control) → Matches v r f m c → m.bus ≡ f.bus
same_memory v r f m c same = by m.ending c same
  where
    by : (e : Option End) (c : Control) → Agrees e v r f m c → m.bus ≡ f.bus
    by (Some e) c a = ap (λ (k : Machine). k.bus) a
    by None (At i b o Start) a = ap (λ (k : Machine). k.bus) a.1.0
    by None (At i b o Low) a = ap (λ (k : Machine). k.bus) a.1.done
    by None (At i b o Return) a = ap (λ (k : Machine). k.bus) a.1.done
    by None (At i b o Leave) (a, inl x) = ap (λ (k : Machine). k.bus) x.done
    by None (At i b o Leave) (a, inr x) = ap (λ (k : Machine). k.bus) x.done
    by None Outside a = ap (λ (k : Machine). k.bus) a.0

-- and between two instructions they are the same
pub same_between : (v : ImageData) (r : Record) (f m : Machine) (c : Control) → (m.ending ≡ None → is_between c ≡ true) → Matches v r f m c → m ≡ f
same_between v r f m c = by m.ending c
  where
    by : (e : Option End) (c : Control) → (e ≡ None → is_between c ≡ true) → Agrees e v r f m c → m ≡ f
    by (Some e) c between a = a
    by None (At i b o Start) between a = a.1.0
    by None (At i b o Low) between a = absurd (false≢true (between refl))
    by None (At i b o Return) between a = absurd (false≢true (between refl))
    by None (At i b o Leave) between a = absurd (false≢true (between refl))
    by None Outside between a = a.0

module _ {S : Type 0} {k : ServiceOf S} {v : ImageData} {n : ℕ} {old : BoardWithDevices S} where
  pub stays_start : Fits v (k.kept old.rom) old.hart → old.hart.machine.steps ≤ n → k.sound old.rom v old.ram.words → BoardStays k v n old old
  stays_start fits le sound = record {
    point = stays_none {run = course_of k v n old} fits le;
    setting = refl;
    sound = sound;
    keeps = λ images serves. serves;
    unused = λ i le. refl;
    quiet = refl;
  }

  pub along_start : Fits v (k.kept old.rom) old.hart → old.hart.machine.steps ≤ n → k.sound old.rom v old.ram.words → Along k v n old old
  along_start fits le sound = record {
    made = 0;
    came = came_none (k.policy (k.setting old.rom)) (k.span (k.setting old.rom)) v n (point_of k old);
    stays = stays_start fits le sound;
  }

  -- a machine step more
  pub stays_step : {now next : BoardWithDevices S} {u : Unit} → BoardStays k v n old now → IsService k →
      now.hart.machine.steps < n → now.hart.machine.ending ≡ None →
      BoardStepped k v (with_ram now) (with_ram next) now.devices next.devices (Ok u) → BoardStays k v n old next
  stays_step {now} {next} {u} was laws more running s =
      let moves = rw was.setting at s.policy in
      let stepped = rw was.setting at s.ram in
      let grows = no_less (k.policy (k.setting old.rom)) v (k.kept now.rom) (k.kept next.rom) now.hart.machine now.hart.control moves (λ r. k.extent (k.setting old.rom) r) (λ r v t. laws.extent_rises (k.setting old.rom) r v t) in
      let unused = rw was.setting at s.unused in
      record {
        point = stays_on was.point more running {next = point_of k next} (λ r v t. laws.writes_rise (k.setting old.rom) r v t) stepped s.fits (s.grown was.sound) moves;
        setting = s.setting ∙ was.setting;
        sound = (s.sound was.sound).0;
        keeps = λ images serves. (s.sound was.sound).1 images (was.keeps images serves);
        unused = λ i le. unused i le ∙ was.unused i (omega (arith, le, grows));
        quiet = ok_unmoved s.causes ∙ was.quiet;
      }

  pub steps_on : {now next : BoardWithDevices S} {u : Unit} → Along k v n old now → IsService k →
      now.hart.machine.steps < n → now.hart.machine.ending ≡ None → now.hart.machine.pc < 2 ^ 32 →
      BoardStepped k v (with_ram now) (with_ram next) now.devices next.devices (Ok u) → Along k v n old next
  steps_on {now} {next} {u} was laws more running word s =
      let moves = rw was.stays.setting at s.policy in
      let stepped = rw was.stays.setting at s.ram in
      record {
        made = suc was.made;
        came = came_on (k.policy (k.setting old.rom)) (k.span (k.setting old.rom)) v n was.made (point_of k old) (point_of k now) (point_of k next) was.came more running word
            (laws.coherent now.rom v now.ram.words was.stays.sound).once
            (holds_under v (k.kept now.rom) (k.span (k.setting now.rom)) now.ram.words now.hart (laws.coherent now.rom v now.ram.words was.stays.sound) was.stays.point.fits running word)
            moves (s.made was.stays.sound) stepped;
        stays = stays_step was.stays laws more running s;
      }

  -- a stretch of steps that ask for no device begins
  pub underway_from : {now : BoardWithDevices S} → Along k v n old now → old.hart.count ≤ 2 ^ 55 → (k.kept old.rom).counts.services ≤ 2 ^ 49 → Underway k v n (with_ram now)
  underway_from {now} was count services = record {
    from = point_of k old;
    now = point_of k now;
    running = subst (λ (by : Setting). Running (record { policy = k.policy by; image = v; limit = n; span = k.span by; from = point_of k old }) (point_of k now)) (sym was.stays.setting)
        (record { made = was.made; came = was.came; stays = was.stays.point });
    count = count;
    services = services;
  }

  -- and ends
  pub along_onward : {now : BoardWithDevices S} {b : BoardWithRam S} → Along k v n old now → Onward k v n (with_ram now) b → ServiceStays k v (service_of (with_ram now)) (service_of b) →
      Along k v n old (record now { hart = b.hart; rom = b.rom; ram = b.ram })
  along_onward {now} {b} was onward s =
      let there = onward (point_of k old) (point_of k now)
      (subst (λ (by : Setting). Running (record { policy = k.policy by; image = v; limit = n; span = k.span by; from = point_of k old }) (point_of k now)) (sym was.stays.setting)
      (record { made = was.made; came = was.came; stays = was.stays.point })) in
      let back = subst (λ (by : Setting). Running (record { policy = k.policy by; image = v; limit = n; span = k.span by; from = point_of k old }) (with_board k (point_of k now) b)) was.stays.setting there in
      let grows = subst (λ (by : Setting). k.extent by (k.kept now.rom) ≤ k.extent by (k.kept b.rom)) was.stays.setting s.grows in
      let unused = subst (λ (by : Setting). SameFrom (k.extent by (k.kept b.rom)) now.ram.words b.ram.words) was.stays.setting s.unused in
      record {
        made = back.made;
        came = back.came;
        stays = record {
          point = back.stays;
          setting = s.setting ∙ was.stays.setting;
          sound = s.sound.0;
          keeps = λ images serves. s.sound.1 images (was.stays.keeps images serves);
          unused = λ i le. unused i le ∙ was.stays.unused i (omega (arith, le, grows));
          quiet = was.stays.quiet;
        };
      }

  -- a run that came to its end: no step is left, or it has ended
  pub run_ended : {now : BoardWithDevices S} {u : Unit} → Along k v n old now → (n ≤ now.hart.machine.steps) ⊎ (is_some now.hart.machine.ending ≡ true) → BoardRan k v n old now (Ok u)
  run_ended {now} {u} was over = record { mid = now; along = was; ends = (refl, over) }

  -- a step that a device broke off
  pub run_broken : {now next : BoardWithDevices S} {fault : BoardFault} → Along k v n old now → now.hart.machine.steps < n → now.hart.machine.ending ≡ None → now.hart.machine.pc < 2 ^ 32 →
      BoardStepped k v (with_ram now) (with_ram next) now.devices next.devices (Err fault) → BoardRan k v n old next (Err fault)
  run_broken {now} {next} {fault} was more running word s = record { mid = now; along = was; ends = record { running = running; more = more; short = word; broke = s } }

abbrev pub with_source : {S : Type 0} → BoardWithDevices S → SourceState → BoardWithDevices S
with_source b s = record b { devices = record b.devices { input = s } }

-- Machine instructions in a row, over each input from which what the source gave may have been read.
pub record AlongOn {S : Type 0} (k : ServiceOf S) (v : ImageData) (n : ℕ) (old now : BoardWithDevices S) : Type 0 where
  pub gave : HasGiven old.devices.input now.devices.input
  pub along : AsTold old.devices.input now.devices.input (λ before after. Along k v n (with_source old before) (with_source now after))

module _ {S : Type 0} {k : ServiceOf S} {v : ImageData} {n : ℕ} {old : BoardWithDevices S} where
  pub on_start : Fits v (k.kept old.rom) old.hart → old.hart.machine.steps ≤ n → k.sound old.rom v old.ram.words → AlongOn k v n old old
  on_start fits le sound = record {
    gave = given_still old.devices.input;
    along = λ input rest read. subst (λ (left : List ℕ). Along k v n (with_source old (told_as old.devices.input input)) (with_source old (told_as old.devices.input left)))
        (sym (rest_is read)) (along_start {k = k} fits le sound);
  }

  pub on_some : {now : BoardWithDevices S} → AlongOn k v n old now → (input rest : List ℕ) × Along k v n (with_source old (told_as old.devices.input input)) (with_source now (told_as now.devices.input rest))
  on_some {now} on = told_some (λ before after. Along k v n (with_source old before) (with_source now after)) on.gave on.along

  pub on_more : {now next : BoardWithDevices S} → AlongOn k v n old now → HasGiven now.devices.input next.devices.input →
      ((input mid rest : List ℕ) → Along k v n (with_source old (told_as old.devices.input input)) (with_source now (told_as now.devices.input mid)) →
      ReadFrom now.devices.input next.devices.input mid rest → Along k v n (with_source old (told_as old.devices.input input)) (with_source next (told_as next.devices.input rest))) →
      AlongOn k v n old next
  on_more {now} {next} on gave step = record {
    gave = given_more on.gave gave;
    along = λ input rest read. step input (gave.0 ++ rest) rest (on.along input (gave.0 ++ rest) (read_first on.gave gave read)) (read_last on.gave gave read);
  }

-- ---- the text along a run that began between two instructions

event_text : (by : Policy) (v : ImageData) (s : Moment) (x : ℕ) → fetched (event by v s).flat.machine.bus x ≡ fetched s.flat.machine.bus x
event_text by v s x = by_ending s.flat.machine.ending
  where
    held : fetched (held_step s.flat).machine.bus x ≡ fetched s.flat.machine.bus x
    held = next_text x v s.flat.machine Outside s.flat.machine s.flat.input

    by_words : (p : ℕ × ℕ) (t : Bool) → fetched (if t then led s else completed by v (Some p) s).flat.machine.bus x ≡ fetched s.flat.machine.bus x
    by_words p true = refl
    by_words p false = held

    by_fall : (p : ℕ × ℕ) (t : Bool) → fetched (if t then fell by v p s else executed by v p s).flat.machine.bus x ≡ fetched s.flat.machine.bus x
    by_fall p true = refl
    by_fall p false = by_words p (nat_lt s.spent (before_last s.flat.machine (original s.flat.machine) (slots s.flat.machine)))

    by_here : (h : Here) → fetched (stepped_at by v h s).flat.machine.bus x ≡ fetched s.flat.machine.bus x
    by_here None = held
    by_here (Some p) = by_fall p (at_fall v s.flat.machine (Some p))

    by_ending : (e : Option End) → fetched (if is_some e then s else stepped_at by v s.here s).flat.machine.bus x ≡ fetched s.flat.machine.bus x
    by_ending None = by_here s.here
    by_ending (Some e) = refl

events_text : (by : Policy) (v : ImageData) (j : ℕ) (s : Moment) (x : ℕ) → fetched (events by v j s).flat.machine.bus x ≡ fetched s.flat.machine.bus x
unfolding events
events_text by v zero s x = refl
events_text by v (suc j) s x = event_text by v (events by v j s) x ∙ events_text by v j s x

-- the moment of a point itself
abbrev own_moment : ImageData → Point → List ℕ → Moment
own_moment v p left = record {
  flat = record { machine = p.hart.machine; input = left; output = []; error = [] };
  here = here_of v p.hart.machine p.hart.control;
  spent = spent_run p.hart.machine p.hart.control;
  kept = p.kept;
  count = p.hart.count;
  sets = 0;
  words = [];
}

nothing_more : (o : Option (List ℕ)) → Appends o o []
nothing_more None = tt
nothing_more (Some xs) = sym (append-nil xs)

own_tracks : (span : ℕ) (v : ImageData) (p : Point) (left : List ℕ) → p.left ≡ Some left → is_between p.hart.control ≡ true → Fits v p.kept p.hart → Tracks span v (own_moment v p left) p p
own_tracks span v p left told between fits = record {
  image = fits.image;
  matches = own_matches v p.kept p.hart.machine p.hart.control between fits.place;
  here = λ on. refl;
  spent = refl;
  kept = refl;
  count = refl;
  input = told;
  output = nothing_more p.out;
  error = nothing_more p.err;
  words = refl;
  ram = record { quiet = refl; fetches = none_more p.ram.fetches; sets = none_more p.ram.sets; kept = record { same_length = refl; beyond = λ i least. refl; reached = grind arith } };
}
  where
    none_more : (a : ℕ) → a ≡ risen a 0
    none_more a = grind arith

module _ {S : Type 0} {k : ServiceOf S} {v : ImageData} {n : ℕ} {old now : BoardWithDevices S} where
  pub text_along : {left : List ℕ} → Along k v n old now → old.devices.input.left ≡ Some left → is_between old.hart.control ≡ true → Fits v (k.kept old.rom) old.hart →
      (x : ℕ) → fetched now.hart.machine.bus x ≡ fetched old.hart.machine.bus x
  text_along {left} was told between fits x =
      let by = k.policy (k.setting old.rom) in
      let s = own_moment v (point_of k old) left in
      let there = was.came.tracks s (point_of k old) (own_tracks (k.span (k.setting old.rom)) v (point_of k old) left told between fits) in
      let same = same_memory v (k.kept now.rom) (events (k.policy (k.setting old.rom)) v was.made (own_moment v (point_of k old) left)).flat.machine now.hart.machine now.hart.control there.matches in
      ap (λ b. fetched b x) same ∙ events_text (k.policy (k.setting old.rom)) v was.made (own_moment v (point_of k old) left) x

pub text_on : {S : Type 0} {k : ServiceOf S} {v : ImageData} {n : ℕ} {old now : BoardWithDevices S} → AlongOn k v n old now → is_between old.hart.control ≡ true → Fits v (k.kept old.rom) old.hart →
    (x : ℕ) → fetched now.hart.machine.bus x ≡ fetched old.hart.machine.bus x
text_on {S} {k} {v} {n} {old} {now} on between fits x =
    let some = on_some on in
    text_along {k = k} {v = v} {n = n} {old = with_source old (told_as old.devices.input some.0)} {now = with_source now (told_as now.devices.input some.1)} some.2 refl between fits x

-- a stretch raises the bound of machine instructions, or leaves it
pub onward_most : {S : Type 0} (k : ServiceOf S) {v : ImageData} {n : ℕ} {old new : BoardWithRam S} → Onward k v n old new → Fits v (k.kept old.rom) old.hart → old.hart.machine.steps ≤ n →
    most v old.hart.machine old.hart.control ≤ most v new.hart.machine new.hart.control
onward_most {S} k {v} {n} {old} {new} onward fits le =
    let self : Point = record { hart = old.hart; kept = k.kept old.rom; ram = old.ram; left = None; out = None; err = None } in
    let there = onward self self (record {
      made = 0;
      came = came_none (k.policy (k.setting old.rom)) (k.span (k.setting old.rom)) v n self;
      stays = stays_none {run = course_from k v n old.rom self} fits le;
    }) in
    let count = there.stays.count in
    let later = there.stays.later in
    omega (arith, count, later)

module _ {S : Type 0} {k : ServiceOf S} {v : ImageData} {n : ℕ} {old : BoardWithDevices S} where
  pub on_onward : {now : BoardWithDevices S} {b : BoardWithRam S} → AlongOn k v n old now → Onward k v n (with_ram now) b → ServiceStays k v (service_of (with_ram now)) (service_of b) →
      AlongOn k v n old (record now { hart = b.hart; rom = b.rom; ram = b.ram })
  on_onward {now} {b} on onward stays = record { gave = on.gave; along = λ input rest read. along_onward (on.along input rest read) onward stays }

  pub on_underway : {now : BoardWithDevices S} → AlongOn k v n old now → old.hart.count ≤ 2 ^ 55 → (k.kept old.rom).counts.services ≤ 2 ^ 49 → Underway k v n (with_ram now)
  on_underway {now} on count services = underway_from (on_some on).2 count services
