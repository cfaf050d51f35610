-- A run that came to its end, in the words of its original steps.
use Rattle.std.proofs.Common.{◌≡◌, ◌⊎◌, ℕ, ◌-◌, ◌*◌, ◌≤◌, true, List, ◌++◌, length, reverse, Option, Some, None, is_some, refl, sym, ap, subst, ◌∙◌, inl, inr, arith, append-nil}
use Rattle.std.proofs.lemmas.Bool.{false≢true}
use Rattle.std.proofs.lemmas.List.{length-reverse}
use Rattle.std.specs.Io.KnownBytes.{Appends}
use Rattle.swi_outside.specs.CacheRam.{Fetch, since}
use Rattle.swi_outside.specs.Causes.{risen}
use Rattle.swi_calls.specs.declared.end.End.{End}
use Rattle.swi_calls.specs.declared.machine.Machine.{Machine}
use Rattle.swi_calls.specs.State.{FlatState}
use Rattle.swi_memory.specs.Bus.{fetched}
use Rattle.swi_image.specs.Format.{ImageData}
use Rattle.swi_image.specs.Place.{place_of}
use Rattle.swi_render.specs.Carried.{Carries}
use Rattle.swi_rom.specs.Coherent.{Coherent}
use Rattle.swi_rom.specs.Record.{Record, writes}
use Rattle.swi_rom.specs.Service.{ServiceOf, IsService}
use Rattle.swi_rom.specs.Served.{SameFrom}
use Rattle.swi_hart.specs.Hart.{HartData, is_between}
use Rattle.swi_hart.specs.Matching.{Matches}
use Rattle.swi_board.specs.Board.{BoardWithDevices, Around}
use Rattle.swi_board.specs.Moments.{IsRun, Moment, Policy, events, written_in}
use Rattle.swi_board.specs.Tracking.{point_of}
use Rattle.swi_board.specs.Transfers.{here_of}
use Rattle.swi_board.proofs.Along.{same_between}
use Rattle.swi_board.proofs.Fetching.{words_many}
use Rattle.swi_board.proofs.Held.{same_steps}
use Rattle.swi_run_laws.specs.After.{IsAfter}
use Rattle.swi_run_laws.proofs.Between.{between_at, most_any, settled_most}
use Rattle.swi_run_laws.proofs.RunLaws.{run_after}
use Rattle.swi_line.specs.declared.trace.Trace.{Trace}
use Rattle.swi_cached.specs.Answers.{BoardEnded, EndedSo, Ended, RamAfter}
use Rattle.swi_cached.specs.Cached.{CachedRun, IsCarried, IsFresh, end_of, record_after, words_after}
use Rattle.swi_cached.specs.CachedRan.{Booted, with_input}
use Rattle.swi_cached.specs.Told.{is_each}
use Rattle.swi_cached.specs.Traced.{Before, ToldAlong, ToldTo}
use Rattle.swi_cached.proofs.Boot.{lawful}
use Rattle.swi_cached.proofs.Services.{services_few}
use Rattle.swi_cached.proofs.Starting.{coherent_run, count_most, first_moment, from_point, given_for, led_to, machine_is, setting_is, unused_run, written_run}
use Rattle.swi_cached.proofs.Telling.{history_is}
use Rattle.swi_cached.proofs.Tells.{all_told}

module _ {S : Type 0} {k : ServiceOf S} (laws : IsService k) {v : ImageData} {rom : S} {m : Machine} {n : ℕ} {telling : Trace} {before : Around} {b mid : BoardWithDevices S} {lines : ℕ} {history : Option (List ℕ)}
    (boot : Booted k (given_for k v rom m n telling) rom before b) (fresh : IsFresh (k.kept rom)) (going : m.ending ≡ None) (none : m.steps ≡ 0) (along : ToldAlong k v telling n lines b mid history)
    (over : (n ≤ mid.hart.machine.steps) ⊎ (is_some mid.hart.machine.ending ≡ true)) where
  -- whatever the input tells
  pub board_ended : BoardEnded k (given_for k v rom m n telling) rom (record { hart = mid.hart; rom = mid.rom }) (record { ram = mid.ram; devices = mid.devices })
  board_ended = record {
    unfailed = along.stays.point.failed ∙ ap (λ (h : HartData). h.failed) boot.entered.hart;
    done = elim over [ inl least ↦ inl (let most = along.stays.point.steps in omega (arith, least, most)) | inr ended ↦ inr ended ];
    booted = along.stays.point.booted ∙ ap (λ (h : HartData). h.booted) boot.entered.hart;
    fits = along.stays.point.fits;
    sound = along.stays.sound;
    setting = along.stays.setting ∙ setting_is boot;
    count = most_any v mid.hart.machine mid.hart.control mid.hart.count (count_most boot along going none);
  }

  module _ (placed : is_some (place_of v m.pc) ≡ true) (left : List ℕ) (told : before.devices.input.left ≡ Some left) where
    abbrev by : Policy
    by = k.policy (k.setting rom)

    abbrev c : CachedRun
    c = with_input (given_for k v rom m n telling) left

    abbrev start : Moment
    start = first_moment k v rom m left

    abbrev last : Moment
    last = events by v along.made start

    to : ToldTo by (k.span (k.setting rom)) v (is_each telling) n along.made lines start (from_point boot) (point_of k mid) history
    to = led_to boot along left told

    run : IsRun by v n along.made start
    run = record {
      going = to.going;
      over = λ on.
          let same = same_steps v (k.kept mid.rom) last.flat.machine mid.hart.machine mid.hart.control to.tracks.matches in
          elim over [
            | inl least ↦ (let steps = same.0 in let below = on.1 in omega (arith, steps, below, least))
            | inr ended ↦ false≢true (sym (ap (λ (e : Option End). is_some e) (same.1 ∙ on.0)) ∙ ended)
          ];
    }

    after : IsAfter by v n start.here start last
    after =
        let all : n - m.steps ≡ n = omega (arith, none) in
        subst (λ (x : ℕ). IsAfter by v x start.here start last) all (run_after by v n along.made start run refl (omega (arith, none)))

    between : mid.hart.machine.ending ≡ None → is_between mid.hart.control ≡ true
    between on = between_at v (k.kept mid.rom) last.flat.machine mid.hart.machine mid.hart.control to.tracks.matches (to.tracks.spent ∙ after.spent) on

    machine : mid.hart.machine ≡ (end_of c).machine
    machine = same_between v (k.kept mid.rom) (end_of c).machine mid.hart.machine mid.hart.control between
        (subst (λ (q : FlatState). Matches v (k.kept mid.rom) q.machine mid.hart.machine mid.hart.control) after.flat to.tracks.matches)

    record_is : k.kept mid.rom ≡ record_after c n
    record_is = to.tracks.kept ∙ after.kept

    all : Before (is_each telling) n start.flat to.error history
    all = all_told mid.hart.machine.ending (is_each telling) n mid.hart.machine.steps lines start.flat to.error history along.stays.point.steps over along.next to.tells

    ended : Ended c mid.hart (k.kept mid.rom) mid.devices.input.left before.devices.output.held mid.devices.output.held before.devices.error.held mid.devices.error.held
    ended = record {
      machine = machine;
      count = to.tracks.count ∙ after.count;
      record_is = record_is;
      input = to.tracks.input ∙ ap (λ (q : FlatState). Some q.input) after.flat;
      output = subst (λ (q : FlatState). Appends before.devices.output.held mid.devices.output.held q.output) after.flat to.tracks.output;
      error = subst (λ (l : List ℕ). Appends before.devices.error.held mid.devices.error.held l) all.0 to.tracks.error;
      between = between;
      here = λ on. ap (λ (q : FlatState). here_of v q.machine mid.hart.control) (sym after.flat) ∙ to.tracks.here (ap (λ (x : Machine). x.ending) machine ∙ on)
          ∙ after.here (ap (λ (q : FlatState). q.machine.ending) after.flat ∙ on);
    }

    carried_at : (o : Option (ℕ × ℕ)) → place_of v m.pc ≡ o → is_some o ≡ true → IsCarried c
    carried_at None is some = absurd (false≢true some)
    carried_at (Some p) is some = record { carries = subst (λ (x : Machine). Carries (fetched x.bus) v) (machine_is boot) boot.entered.fits.image; entry = p; place = is }

    words_are : last.words ≡ reverse (words_after c n)
    words_are = after.words ∙ append-nil (reverse (words_after c n))

    ram : RamAfter c before.ram mid.ram
    ram = record {
      carried = carried_at (place_of v m.pc) refl placed;
      coherent = subst (λ (r : Record). Coherent v r (k.span (k.setting rom)) mid.ram.words) record_is (coherent_run laws boot along);
      fetches = to.tracks.ram.fetches ∙ ap (λ (l : List Fetch). risen before.ram.fetches (length l)) words_are
          ∙ ap (λ (x : ℕ). risen before.ram.fetches x) (length-reverse (words_after c n) ∙ words_many by v n start.flat start.here (written_in start));
      fetched_at = to.tracks.words ∙ ap (λ (l : List Fetch). since before.ram.sets l ++ before.ram.fetched_at) words_are;
      sets = to.tracks.ram.sets ∙ ap (λ (x : ℕ). risen before.ram.sets x) (written_run laws boot along fresh left told ∙ ap (λ (r : Record). writes r) record_is);
      unused = subst (λ (r : Record). SameFrom (k.extent (k.setting rom) r) before.ram.words mid.ram.words) record_is (unused_run laws boot along);
    }

    pub ended_so : EndedSo k c (record { hart = mid.hart; rom = mid.rom }) telling history before (record { ram = mid.ram; devices = mid.devices })
    ended_so =
        let short = settled_most v mid.hart.machine mid.hart.control mid.hart.count (count_most boot along going none) between in
        record {
          ended = ended;
          told = history_is telling _ history along.kept all.1;
          short = record { most = short.0; fewer = short.1 };
          services = subst (λ (r : Record). r.counts.services ≤ 2 * n) (sym record_is) (services_few c n (lawful k laws rom) fresh);
          ram = ram;
        }
