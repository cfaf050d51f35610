-- Steps at exits and at other words, for the hart.
use Rattle.std.proofs.Common.{if◌then◌else◌, ◌≡◌, ◌⊎◌, ◌==◌, ℕ, ◌+◌, ◌-◌, ◌^◌, ◌<◌, ◌≤◌, max, Bool, true, Option, Some, None, List, [], ◌++◌, length, slice_index, refl, sym, ap, subst, ◌∙◌, inl, inr, arith}
use Rattle.swi_isa.specs.declared.instr.Instr.{Instr}
use Rattle.swi_isa.specs.declared.instr.Instr.TheVariants as instr
use Rattle.swi_outside.specs.CacheRam.{RamState, with_fetch, KeepsBeyond}
use Rattle.swi_outside.specs.Causes.{Rose, counted, risen}
use Rattle.swi_calls.specs.StoresText.{text_store_of}
use Rattle.swi_exec.specs.declared.done.FaultKind.TheVariants as kind
use Rattle.swi_calls.specs.declared.end.End.TheVariants.{Faulted}
use Rattle.swi_calls.specs.Flat.{ended}
use Rattle.swi_calls.specs.declared.machine.Machine.{Machine}
use Rattle.swi_image.specs.Format.{ImageData}
use Rattle.swi_image.specs.Place.{word_at}
use Rattle.swi_render.specs.Rendering.{ebreak}
use Rattle.swi_rom.specs.Record.{Record, writes}
use Rattle.swi_hart.specs.declared.hart.Stage.{Stage}
use Rattle.swi_hart.specs.declared.hart.Stage.TheVariants.{Start, Low, Return, Leave}
use Rattle.swi_hart.specs.declared.hart.Role.{Role}
use Rattle.swi_hart.specs.declared.hart.Control.{Control}
use Rattle.swi_hart.specs.declared.hart.Control.TheVariants.{At, Outside}
use Rattle.swi_hart.specs.Hart.{HartData, Stepped, hart_after, word_stepped, call_stepped, role_of, original, exit_kind, is_between}
use Rattle.swi_hart.specs.Matching.{ExitStep, HomeStep, BoardStep, Fits}
use Rattle.swi_calls.specs.Call.{room_of_call}
use Rattle.swi_memory.specs.Bus.{AreaData}
use Rattle.swi_outside.specs.Sink.{AppendsPrefix}
use Rattle.swi_hart.specs.Calling.{Did, Made, WordWent, Called, Moved, BrokenStep}
use Rattle.swi_hart.proofs.Taking.{taken_few}
use Rattle.swi_hart.specs.Leaving.{ExitHome, WordHome, Counted, quick_role, step_to, exit_transfer, transfer_at, fetch_under, HasPlace, RamServed, RamFailed, RamStepped, RamBroken}
use Rattle.swi_hart.proofs.Fetching.{at_exit_step, at_word_step, exit_test, counted_hart, did_quiet}
use Rattle.swi_hart.proofs.Kept.{kept_fits, exit_keeps, fits_between, fits_low, fits_return, fits_call}

-- after a word that was executed by its role the image fits
ran_fits : (stage : Stage) (v : ImageData) (r : Record) (h h' : HartData) (i b o : ℕ) (x : Instr) (role : Role) → h.control ≡ At i b o stage → Fits v r h → h.machine.ending ≡ None → h.machine.pc < 2 ^ 32 →
    ((w : WordHome v h.machine b o stage) × (w.instruction ≡ x)) → role ≡ role_of stage (original h.machine) → BoardStep v r h.machine h.control (word_stepped role i b o stage h.machine x []) [] →
    h' ≡ hart_after h (word_stepped role i b o stage h.machine x []) → Fits v r h'
ran_fits Start v r h h' i b o x role control fits running word w by step is = fits_between v r h h' _ [] fits (ap is_between control) running word step is
ran_fits Low v r h h' i b o x role control fits running word w by step is =
    fits_low v r h h' i b o x fits running (w.0.is ∙ ap (λ (k : Instr). Some k) w.1) control (is ∙ ap (λ (k : Role). hart_after h (word_stepped k i b o Low h.machine x [])) by)
ran_fits Return v r h h' i b o x role control fits running word w by step is =
    fits_return v r h h' i b o x fits running (w.0.is ∙ ap (λ (k : Instr). Some k) w.1) control (is ∙ ap (λ (k : Role). hart_after h (word_stepped k i b o Return h.machine x [])) by)
ran_fits Leave v r h h' i b o x role control fits running word w by step is = absurd (w.0.no_exit refl)

module _ (v : ImageData) (r new : Record) (h h' : HartData) (i b o : ℕ) (stage : Stage) (control : h.control ≡ At i b o stage) where
  board_step : (s : Stepped) (input : List ℕ) → HomeStep (word_at v b o == ebreak) v new h.machine s input i b o stage → BoardStep v new h.machine h.control s input
  board_step s input step = subst (λ (c : Control). BoardStep v new h.machine c s input) (sym control) step

  pub made_exit : (left : List ℕ) (left' out err : Option (List ℕ)) → ExitHome v h.machine b o stage → ((input : List ℕ) → ExitStep (exit_kind (word_at v b (o + 1))) v new h.machine (step_to h' input) input i b o stage) → Counted h h' → left' ≡ Some left →
      Made v new h h' left left' out out err err
  made_exit left left' out err e step counts told = record {
    stepped = step_to h' left;
    step = board_step (step_to h' left) left (at_exit_step v new h.machine i b o stage (step_to h' left) left e (step left));
    did = did_quiet h h' left left' out err counts told;
  }

  pub fits_exit : Fits v r h → None ≡ h.machine.ending → h.machine.pc < 2 ^ 32 → ExitHome v h.machine b o stage → ((input : List ℕ) → ExitStep (exit_kind (word_at v b (o + 1))) v new h.machine (step_to h' input) input i b o stage) → Counted h h' → Fits v new h'
  fits_exit fits running word e step counts =
      kept_fits v r new h h' (step_to h' []) fits (exit_keeps v new h.machine (sym running) [] i b o stage (step_to h' []) (exit_kind (word_at v b (o + 1))) e refl (step []))
      (counted_hart h h' [] counts)

  pub made_word : (x : Instr) (role : Role) (left : List ℕ) (left' out out' err err' : Option (List ℕ)) → ((w : WordHome v h.machine b o stage) × (w.instruction ≡ x)) → role ≡ quick_role stage x (original h.machine) →
      Did h h' (word_stepped role i b o stage h.machine x left) left' out out' err err' → Made v new h h' left left' out out' err err'
  made_word x role left left' out out' err err' w by did = record {
    stepped = word_stepped role i b o stage h.machine x left;
    step = board_step _ left (at_word_step v new h.machine i b o stage (word_stepped role i b o stage h.machine x left) left x role w by refl);
    did = did;
  }

  pub fits_word : (x : Instr) (role : Role) (left left' : Option (List ℕ)) → new ≡ r → Fits v r h → None ≡ h.machine.ending → h.machine.pc < 2 ^ 32 → ((w : WordHome v h.machine b o stage) × (w.instruction ≡ x)) → role ≡ quick_role stage x (original h.machine) →
      WordWent x (λ l. word_stepped role i b o stage h.machine x l) (λ l. call_stepped i b o stage h.machine l) i b o stage h h' left left' → Fits v new h'
  fits_word x role left left' same fits running word w by (inl plain) =
      let role_is : role ≡ role_of stage (original h.machine) = by ∙ (ap (λ (k : Instr). quick_role stage k (original h.machine)) (sym w.1) ∙ w.0.role) in
      subst (λ (k : Record). Fits v k h') (sym same) (ran_fits stage v r h h' i b o x role control fits (sym running) word w role_is
      (subst (λ (k : Record). BoardStep v k h.machine h.control (word_stepped role i b o stage h.machine x []) []) same
      (board_step _ [] (at_word_step v new h.machine i b o stage (word_stepped role i b o stage h.machine x []) [] x role w by refl))) (plain []))
  fits_word x role left left' same fits running word w by (inr call) =
      let goes = w.0.goes (w.1 ∙ call.0) in
      let start : h.control ≡ At i b o Start = control ∙ ap (λ (k : Stage). At i b o k) goes.0 in
      let none = sym (ap (λ (k : Instr). text_store_of k h.machine.regs h.machine.bus) call.0) ∙ call.1 in
      let went : Called i b o Start h h' = subst (λ (k : Stage). Called i b o k h h') goes.0 call.3 in
      subst (λ (k : Record). Fits v k h') (sym same) (fits_call v r i b o h h' left left' fits (sym running) start goes.1 none went call.4)

-- a step that a device broke off
pub broken_word : (v : ImageData) (r : Record) (h : HartData) (bus : List AreaData) (i b o : ℕ) (stage : Stage) → h.control ≡ At i b o stage → (x : Instr) (role : Role) (left : List ℕ) (left' out out' err err' : Option (List ℕ)) →
    ((w : WordHome v h.machine b o stage) × (w.instruction ≡ x)) → role ≡ quick_role stage x (original h.machine) →
    ((input : List ℕ) → word_stepped role i b o stage h.machine x input ≡ call_stepped i b o stage h.machine input) → Moved h.machine bus (Some left) left' →
    AppendsPrefix out out' (word_stepped role i b o stage h.machine x left).made.output → AppendsPrefix err err' (word_stepped role i b o stage h.machine x left).made.error →
    BrokenStep v r h left left' out out' err err'
broken_word v r h bus i b o stage control x role left left' out out' err err' w by asked moved output error = record {
  stepped = word_stepped role i b o stage h.machine x left;
  step = board_step v r r h h i b o stage control (word_stepped role i b o stage h.machine x left) left
      (at_word_step v r h.machine i b o stage (word_stepped role i b o stage h.machine x left) left x role w by refl);
  output = output;
  error = error;
  taken = moved.2.bytes;
  input = moved.2.consumed;
  few = subst (λ (s : Stepped). length moved.2.bytes + length s.made.input ≤ length left) (sym (asked left))
      (taken_few h.machine left moved.2.bytes left' (subst (λ n. n ≤ room_of_call h.machine.regs h.machine.bus) (sym moved.2.number) moved.1) moved.2.consumed);
  calls = ap (λ (s : Stepped). s.made) (asked left);
}

-- a system call comes between two instructions
pub between_call : (v : ImageData) (m : Machine) (c : Control) (i b o : ℕ) (stage : Stage) → c ≡ At i b o stage → (x : Instr) →
    ((w : WordHome v m b o stage) × (w.instruction ≡ x)) → x ≡ instr.Ecall → is_between c ≡ true
between_call v m c i b o stage control x w call =
    let first = (w.0.goes (w.1 ∙ call)).0 in
    ap (λ (k : Control). is_between k) control ∙ ap (λ (k : Stage). is_between (At i b o k)) first

-- what a fetch and then a call of the service leave alone
pub kept_after : (span i : ℕ) (first before after : RamState) → i < span → before ≡ with_fetch first i → KeepsBeyond span before after → KeepsBeyond span first after
kept_after span i first before after below fetched kept = record {
  same_length = kept.same_length ∙ ap (λ (k : RamState). length k.words) fetched;
  beyond = λ n le. kept.beyond n le ∙ ap (λ (k : RamState). slice_index k.words n) fetched;
  reached = reach_by first.reach before.reach after.reach (ap (λ (k : RamState). k.reach) fetched) kept.reached;
}
  where
    reach_by : (p q s : ℕ) → q ≡ max p (i + 1) → s ≤ max q span → s ≤ max p span
    reach_by p q s is le = grind arith

-- a fetch that failed
pub ram_unfetched : (v : ImageData) (m : Machine) (c : Control) (span i b o : ℕ) (stage : Stage) (first after : RamState) → c ≡ At i b o stage → i < span →
    Rose first.faults after.faults × (first.faults ≤ after.faults) × (after ≡ record first { faults = after.faults; reach = max first.reach (i + 1); last_failed = true }) → RamBroken v m c span first after
ram_unfetched v m c span i b o stage first after control below failed = record {
  inside = λ e. (let k : At i b o stage ≡ Outside = sym control ∙ e in cc);
  rose = failed.0;
  last_failed = ap (λ (k : RamState). k.last_failed) failed.2;
  later = failed.1;
  asked = inl (failed.2 ∙ ap (λ (n : ℕ). record first { faults = after.faults; reach = n; last_failed = true }) (sym (ap (λ (k : RamState). k.reach) failed.2)));
  kept = record {
    same_length = ap (λ (k : RamState). length k.words) failed.2;
    beyond = λ n le. ap (λ (k : RamState). slice_index k.words n) failed.2;
    reached = reach_by first.reach after.reach (ap (λ (k : RamState). k.reach) failed.2);
  };
}
  where
    reach_by : (p s : ℕ) → s ≡ max p (i + 1) → s ≤ max p span
    reach_by p s is = grind arith

-- a service that failed behind a fetch
pub ram_unserved : (v : ImageData) (m : Machine) (c : Control) (span i b o : ℕ) (stage : Stage) (first before after : RamState) → c ≡ At i b o stage → i < span → before ≡ with_fetch first i →
    RamFailed span before after → HasPlace v (transfer_at v m c) → RamBroken v m c span first after
ram_unserved v m c span i b o stage first before after control below fetched failed placed = record {
  inside = λ e. (let k : At i b o stage ≡ Outside = sym control ∙ e in cc);
  rose = subst (λ n. Rose n after.faults) (ap (λ (k : RamState). k.faults) fetched) failed.rose;
  last_failed = failed.last_failed;
  later = subst (λ n. n ≤ after.faults) (ap (λ (k : RamState). k.faults) fetched) failed.later;
  asked = inr ((failed.fetches_stay ∙ ap (λ (k : RamState). k.fetches) fetched, failed.fetched_at_stays ∙ fetched_at), placed);
  kept = kept_after span i first before after below fetched failed.kept;
}
  where
    fetched_at : before.fetched_at ≡ fetch_under c first.sets first.words ++ first.fetched_at
    fetched_at = ap (λ (k : RamState). k.fetched_at) fetched ∙ sym (ap (λ (k : Control). fetch_under k first.sets first.words ++ first.fetched_at) control)

-- how many words such a ram has fetched
pub ram_fetches : {v : ImageData} {m : Machine} {c : Control} {span : ℕ} {before after : RamState} → RamBroken v m c span before after →
    (after.fetches ≡ before.fetches) ⊎ ((after.fetches ≡ counted before.fetches) × HasPlace v (transfer_at v m c))
ram_fetches {v} {m} {c} {span} {before} {after} broken =
    elim broken.asked [
      | inl failed ↦ inl (ap (λ (k : RamState). k.fetches) failed)
      | inr made ↦ inr (made.0.0, made.1)
    ]

-- the ram after a fetch and a call of the service
pub ram_exit : (span more : ℕ) (i b o : ℕ) (stage : Stage) (c : Control) (first before after : RamState) → c ≡ At i b o stage → i < span → before ≡ with_fetch first i → RamServed span more before after →
    RamStepped span more c first after
ram_exit span more i b o stage c first before after control below fetched served =
    rw control (record {
      quiet = served.quiet ∙ ap (λ (k : RamState). k.faults) fetched;
      fetches = served.fetches_stay ∙ ap (λ (k : RamState). k.fetches) fetched;
      sets = served.sets_rise ∙ ap (λ (k : RamState). risen k.sets more) fetched;
      fetched_at = served.fetched_at_stays ∙ ap (λ (k : RamState). k.fetched_at) fetched;
      kept = kept_after span i first before after below fetched served.kept;
    })

-- outside the text
outside_step : (v : ImageData) (new : Record) (h h' : HartData) (input : List ℕ) → h.control ≡ Outside → h' ≡ record h { machine = ended h.machine (Faulted kind.FetchAccess h.machine.pc); count = h.count + 1 } →
    BoardStep v new h.machine h.control (step_to h' input) input
outside_step v new h h' input control is = rw (is, control) refl

outside_counted : (h h' : HartData) (m : Machine) → h' ≡ record h { machine = m; count = h.count + 1 } → Counted h h'
outside_counted h h' m is = record { count = ap (λ (k : HartData). k.count) is; failed = ap (λ (k : HartData). k.failed) is; booted = ap (λ (k : HartData). k.booted) is }

pub made_outside : (v : ImageData) (new : Record) (h h' : HartData) (left : List ℕ) (left' out err : Option (List ℕ)) → h.control ≡ Outside → h' ≡ record h { machine = ended h.machine (Faulted kind.FetchAccess h.machine.pc); count = h.count + 1 } → left' ≡ Some left →
    Made v new h h' left left' out out err err
made_outside v new h h' left left' out err control is told = record {
  stepped = step_to h' left;
  step = outside_step v new h h' left control is;
  did = did_quiet h h' left left' out err (outside_counted h h' _ is) told;
}

pub fits_outside : (v : ImageData) (r : Record) (h h' : HartData) → Fits v r h → h' ≡ record h { machine = ended h.machine (Faulted kind.FetchAccess h.machine.pc); count = h.count + 1 } → Fits v r h'
fits_outside v r h h' fits is = rw is (record { image = fits.image; place = tt })

pub ram_outside_step : (span : ℕ) (r : Record) (c : Control) (ram : RamState) → c ≡ Outside → RamStepped span (writes r - writes r) c ram ram
ram_outside_step span r c ram is = rw is (record {
  quiet = refl;
  fetches = refl;
  fetched_at = refl;
  sets = grind arith;
  kept = record { same_length = refl; beyond = λ n le. refl; reached = grind arith };
})

-- the transfer of an exit whose target has a place
pub exit_placed : (v : ImageData) (m : Machine) (c : Control) (i b o : ℕ) (stage : Stage) → c ≡ At i b o stage → ExitHome v m b o stage → HasPlace v (exit_transfer (exit_kind (word_at v b (o + 1))) v m b o) → HasPlace v (transfer_at v m c)
exit_placed v m c i b o stage control e placed =
    subst (λ (k : Control). HasPlace v (transfer_at v m k)) (sym control)
    (subst (λ (t : Bool). HasPlace v (if t then exit_transfer (exit_kind (word_at v b (o + 1))) v m b o else None)) (sym (exit_test v r_none m i b o stage e)) placed)
  where
    r_none : Record
    r_none = record { turn = 0; placed = []; links = []; counts = record { services = 0; misses = 0; evictions = 0; links = 0; unlinks = 0; copied = 0 }; more = [] }
