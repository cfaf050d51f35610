-- A run of a program out of a cache, in the words of its original steps.
use Rattle.std.proofs.Common.{◌≡◌, ℕ, ◌^◌, ◌<◌, true, List, Option, None, is_some, Result, Ok, Err, IsErrOf, refl, sym, ap, subst, ◌∙◌, inl, inr, arith}
use Rattle.swi_outside.specs.CacheRam.{KeepsBeyond}
use Rattle.swi_outside.specs.Causes.{DeviceCause}
use Rattle.swi_outside.specs.Devices.{Devices, Faults, HasCauses, faults_of}
use Rattle.swi_outside.specs.Laws.{cause_as, cause_from, causes_from, named_as, no_cause, none_named, ok_causes}
use Rattle.swi_calls.specs.declared.machine.Machine.{Machine}
use Rattle.swi_image.specs.Format.{ImageData}
use Rattle.swi_image.specs.Place.{place_of}
use Rattle.swi_memory.specs.Bus.{fetched}
use Rattle.swi_render.specs.Carried.{Carries}
use Rattle.swi_rom.specs.Service.{ServiceOf, IsService, Setting}
use Rattle.swi_hart.specs.declared.fault.BoardFault.{BoardFault}
use Rattle.swi_hart.specs.declared.fault.BoardFault.TheVariants.{RamFault, SourceFault, SinkFault}
use Rattle.swi_board.specs.Board.{BoardOf, BoardWithDevices, Around, board_around}
use Rattle.swi_board.proofs.Running.{kept_both}
use Rattle.swi_line.specs.declared.trace.Trace.{Trace}
use Rattle.swi_cached.specs.declared.run.CachedStop.{CachedStop}
use Rattle.swi_cached.specs.declared.run.CachedStop.TheVariants as stop
use Rattle.swi_cached.specs.Answers.{BoardEnded, EndedSo, Failed, InSteps}
use Rattle.swi_cached.specs.Cached.{IsFresh}
use Rattle.swi_cached.specs.CachedRan.{BootBroke, BootRan, CachedRan, RunBroke, with_input}
use Rattle.swi_cached.specs.Told.{is_each}
use Rattle.swi_cached.specs.Traced.{LineBroke, StepBroke, ToldAlong, with_sink}
use Rattle.swi_cached.proofs.Breaking.{failed_at_line, failed_at_step}
use Rattle.swi_cached.proofs.Ended.{board_ended, ended_so}
use Rattle.swi_cached.proofs.Failed.{boot_failed, words_unbooted}
use Rattle.swi_cached.proofs.Fetched.{is_counted}
use Rattle.swi_cached.proofs.Starting.{given_for, kept_run, machine_is, quiet_run, setting_is}

abbrev Answer : Type 0 → Type 0
Answer S = BoardOf S × Option (List ℕ)

-- the fault of an answer
fault_is : {T : Type 0} (f g : BoardFault) → IsErrOf {T = T} (Err (stop.Fault f)) (stop.Fault g) → f ≡ g
fault_is {T} f g e = let same : f ≡ g = cc in same

as_stop : {T : Type 0} (f g : BoardFault) → IsErrOf {T = Unit} (Err f) g → IsErrOf {T = T} (Err (stop.Fault f)) (stop.Fault g)
as_stop {T} f g e = let same : f ≡ g = cc in ap (λ (x : BoardFault). Err (stop.Fault x)) same

as_fault : {T : Type 0} (f g : BoardFault) → IsErrOf {T = T} (Err (stop.Fault f)) (stop.Fault g) → IsErrOf {T = Unit} (Err f) g
as_fault {T} f g e = ap (λ (x : BoardFault). Err x) (fault_is {T = T} f g e)

stop_causes : {T : Type 0} (f : BoardFault) {first before after : Faults} → before ≡ first → HasCauses before after (IsErrOf {T = Unit} (Err f) SourceFault) (IsErrOf {T = Unit} (Err f) SinkFault) →
    HasCauses first after (IsErrOf {T = T} (Err (stop.Fault f)) (stop.Fault SourceFault)) (IsErrOf {T = T} (Err (stop.Fault f)) (stop.Fault SinkFault))
stop_causes {T} f {first} {before} {after} same h =
    causes_from same (named_as h (as_stop {T = T} f SourceFault) (as_fault {T = T} f SourceFault) (as_stop {T = T} f SinkFault) (as_fault {T = T} f SinkFault))

stop_cause : {T : Type 0} (f : BoardFault) {first before after : ℕ} → before ≡ first → DeviceCause before after (IsErrOf {T = Unit} (Err f) RamFault) → DeviceCause first after (IsErrOf {T = T} (Err (stop.Fault f)) (stop.Fault RamFault))
stop_cause {T} f {first} {before} {after} same h = cause_from same (cause_as h (as_stop {T = T} f RamFault) (as_fault {T = T} f RamFault))

module _ {S : Type 0} {k : ServiceOf S} (laws : IsService k) {v : ImageData} {rom : S} {m : Machine} {n : ℕ} {telling : Trace} {before after : Around}
    (fresh : IsFresh (k.kept rom)) (going : m.ending ≡ None) (none : m.steps ≡ 0) where
  -- it came to its end
  ended_steps : is_some (place_of v m.pc) ≡ true → m.pc < 2 ^ 32 → (p : BoardOf S × Option (List ℕ)) → BootRan k (given_for k v rom m n telling) rom before (board_around p.0 after) (Ok p.1) → InSteps k (given_for k v rom m n telling) rom before after (Ok p)
  ended_steps placed word p r =
      let along = r.ran.along in
      let new = sym r.ran.ends.0 in
      let over = r.ran.ends.1 in
      let told = sym r.ran.ends.2 in
      let quiet = quiet_run r.booted along in
      record {
        ended = λ left is.
            subst (λ (h : Option (List ℕ)). EndedSo k (with_input (given_for k v rom m n telling) left) p.0 telling h before after) told
            (subst (λ (w : BoardWithDevices S). EndedSo k (with_input (given_for k v rom m n telling) left) (record { hart = w.hart; rom = w.rom }) telling r.ran.history before (record { ram = w.ram; devices = w.devices })) new
            (ended_so laws r.booted fresh going none along over placed left is));
        board = subst (λ (w : BoardWithDevices S). BoardEnded k (given_for k v rom m n telling) rom (record { hart = w.hart; rom = w.rom }) (record { ram = w.ram; devices = w.devices })) new (board_ended laws r.booted fresh going none along over);
        counted = λ left. is_counted (with_input (given_for k v rom m n telling) left) (subst (λ (x : Machine). Carries (fetched x.bus) v) (machine_is r.booted) r.booted.entered.fits.image) word going;
        memory = λ e. let bad : ⊥ = cc in absurd bad;
        failed = λ fault e. let bad : ⊥ = cc in absurd bad;
        fetched_at = tt;
        kept = subst (λ (w : BoardWithDevices S). KeepsBeyond (k.span (k.setting rom)) before.ram w.ram) new (kept_run r.booted along);
        causes = ok_causes (ap (λ (w : BoardWithDevices S). faults_of w.devices) (sym new) ∙ quiet.0);
        ram_cause = no_cause (ap (λ (w : BoardWithDevices S). w.ram.faults) (sym new) ∙ quiet.1) (λ e. let bad : ⊥ = cc in bad);
      }

  -- there was no memory
  no_memory : after ≡ before → InSteps k (given_for k v rom m n telling) rom before after (Err stop.Memory)
  no_memory same = record {
    ended = tt;
    board = tt;
    counted = tt;
    memory = λ e. same;
    failed = λ fault e. let bad : ⊥ = cc in absurd bad;
    fetched_at = λ left is. words_unbooted (with_input (given_for k v rom m n telling) left) before.ram after.ram (ap (λ (a : Around). a.ram.fetched_at) same);
    kept = subst (λ (a : Around). KeepsBeyond (k.span (k.setting rom)) before.ram a.ram) (sym same) (record { same_length = refl; beyond = λ i least. refl; reached = grind arith });
    causes = none_named (ap (λ (a : Around). faults_of a.devices) same) (λ e. let bad : ⊥ = cc in bad) (λ e. let bad : ⊥ = cc in bad);
    ram_cause = no_cause (ap (λ (a : Around). a.ram.faults) same) (λ e. let bad : ⊥ = cc in bad);
  }

  -- the ram failed at the boot
  boot_steps : is_some (place_of v m.pc) ≡ true → (fault : BoardFault) → BootBroke (given_for k v rom m n telling) before after fault → InSteps k (given_for k v rom m n telling) rom before after (Err (stop.Fault fault))
  boot_steps placed fault b = subst (λ (f : BoardFault). InSteps k (given_for k v rom m n telling) rom before after (Err (stop.Fault f))) (sym b.fault_is) (record {
    ended = tt;
    board = tt;
    counted = tt;
    memory = λ e. let bad : ⊥ = cc in absurd bad;
    failed = λ f e left is. subst (λ (x : BoardFault). Failed (with_input (given_for k v rom m n telling) left) x before after) (fault_is {T = Answer S} RamFault f e)
        (subst (λ (d : Devices). Failed (with_input (given_for k v rom m n telling) left) RamFault before (record { ram = after.ram; devices = d })) (sym b.devices)
        (boot_failed (with_input (given_for k v rom m n telling) left) before after.ram going refl refl is placed b.ram.fetches_stay b.ram.last_failed));
    fetched_at = λ left is. words_unbooted (with_input (given_for k v rom m n telling) left) before.ram after.ram b.ram.fetched_at_stays;
    kept = b.ram.kept;
    causes = none_named (ap (λ (d : Devices). faults_of d) b.devices) (λ e. let bad : ⊥ = cc in bad) (λ e. let bad : ⊥ = cc in bad);
    ram_cause = record { later = b.ram.later; cause = λ e. b.ram.rose; told = inr refl };
  })

  -- a device failed in the run
  module _ (fault : BoardFault) (r : RunBroke k (given_for k v rom m n telling) rom before after fault) where
    abbrev new : BoardWithDevices S
    new = board_around r.given_up after

    abbrev along : ToldAlong k v telling n r.ran.ran.lines r.ran.board r.ran.ran.mid r.ran.ran.history
    along = r.ran.ran.along

    line_steps : LineBroke (is_each telling) n r.ran.ran.lines r.ran.ran.mid new fault → InSteps k (given_for k v rom m n telling) rom before after (Err (stop.Fault fault))
    line_steps broke =
        let quiet = quiet_run r.ran.booted along in
        let rest = broke.rest in
        record {
          ended = tt;
          board = tt;
          counted = tt;
          memory = λ e. let bad : ⊥ = cc in absurd bad;
          failed = λ f e left is. subst (λ (x : BoardFault). Failed (with_input (given_for k v rom m n telling) left) x before after) (fault_is {T = Answer S} fault f e)
              (failed_at_line laws r.ran.booted fresh none along broke.running broke.more left is broke).0;
          fetched_at = λ left is. (failed_at_line laws r.ran.booted fresh none along broke.running broke.more left is broke).1;
          kept = subst (λ (w : BoardWithDevices S). KeepsBeyond (k.span (k.setting rom)) before.ram w.ram) (sym rest) (kept_run r.ran.booted along);
          causes = subst (λ (w : BoardWithDevices S). HasCauses (faults_of before.devices) (faults_of w.devices) (IsErrOf {T = Answer S} (Err (stop.Fault fault)) (stop.Fault SourceFault)) (IsErrOf {T = Answer S} (Err (stop.Fault fault)) (stop.Fault SinkFault))) (sym rest)
              (subst (λ (f : BoardFault). HasCauses (faults_of before.devices) (faults_of (with_sink r.ran.ran.mid new.devices.error).devices) (IsErrOf {T = Answer S} (Err (stop.Fault f)) (stop.Fault SourceFault)) (IsErrOf {T = Answer S} (Err (stop.Fault f)) (stop.Fault SinkFault))) (sym broke.fault_is)
              (causes_from quiet.0 (record {
                input = record { later = omega arith; cause = λ e. let bad : ⊥ = cc in absurd bad; told = inl refl };
                sinks = record { one_later = omega arith; other_later = broke.later; cause = λ e. inr broke.rose; one_told = inl refl; other_told = inr refl };
                once = λ e. let bad : ⊥ = cc in absurd bad;
              })));
          ram_cause = no_cause (ap (λ (w : BoardWithDevices S). w.ram.faults) rest ∙ quiet.1) (λ e. (let one = fault_is {T = Answer S} fault RamFault e in let two = broke.fault_is in let bad : ⊥ = cc in bad));
        }

    step_steps : StepBroke k v (is_each telling) n along.made r.ran.board r.ran.ran.mid new fault → InSteps k (given_for k v rom m n telling) rom before after (Err (stop.Fault fault))
    step_steps broke =
        let quiet = quiet_run r.ran.booted along in
        let off = broke.broke in
        let sinks : faults_of (with_sink r.ran.ran.mid broke.sink).devices ≡ faults_of before.devices =
        ap {B = Faults} (λ (f : ℕ). record { input = r.ran.ran.mid.devices.input.faults; output = r.ran.ran.mid.devices.output.faults; error = f }) broke.quiet ∙ quiet.0 in
        record {
          ended = tt;
          board = tt;
          counted = tt;
          memory = λ e. let bad : ⊥ = cc in absurd bad;
          failed = λ f e left is. subst (λ (x : BoardFault). Failed (with_input (given_for k v rom m n telling) left) x before after) (fault_is {T = Answer S} fault f e)
              (failed_at_step laws r.ran.booted fresh none along off.running off.more left is broke).0;
          fetched_at = λ left is. (failed_at_step laws r.ran.booted fresh none along off.running off.more left is broke).1;
          kept = kept_both (k.span (k.setting rom)) before.ram r.ran.ran.mid.ram after.ram (kept_run r.ran.booted along)
              (subst (λ (s : Setting). KeepsBeyond (k.span s) r.ran.ran.mid.ram after.ram) (along.stays.setting ∙ setting_is r.ran.booted) off.broke.kept);
          causes = stop_causes {T = Answer S} fault sinks off.broke.causes;
          ram_cause = stop_cause {T = Answer S} fault quiet.1 off.broke.ram_cause;
        }

  -- whatever it answers
  pub in_steps : is_some (place_of v m.pc) ≡ true → m.pc < 2 ^ 32 → (result : Result (BoardOf S × Option (List ℕ)) CachedStop) → CachedRan k (given_for k v rom m n telling) rom before after result →
      InSteps k (given_for k v rom m n telling) rom before after result
  in_steps placed word (Ok p) ran = ended_steps placed word p ran
  in_steps placed word (Err stop.Memory) same = no_memory same
  in_steps placed word (Err (stop.Fault fault)) (inl b) = boot_steps placed fault b
  in_steps placed word (Err (stop.Fault fault)) (inr r) = elim r.ran.ran.ends [
    | inl broke ↦ line_steps fault r broke
    | inr broke ↦ step_steps fault r broke
  ]
