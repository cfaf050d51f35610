-- What stands where a device broke a machine instruction off.
use Rattle.std.proofs.Common.{◌≡◌, if◌then◌else◌, nat_lt, ℕ, zero, suc, ◌+◌, ◌^◌, ◌<◌, ◌≤◌, Bool, true, false, List, [], ◌∷◌, ◌++◌, length, take, Option, Some, None, is_some, refl, sym, ap, subst, ◌∙◌, inl, inr, arith, slice_index}
use Rattle.std.proofs.lemmas.List.{append_assoc}
use Rattle.std.specs.Io.KnownBytes.{Appends, Consumes}
use Rattle.swi_outside.specs.Causes.{counted as with_one, risen}
use Rattle.swi_outside.specs.CacheRam.{Fetch, RamState, fetch, since}
use Rattle.swi_outside.specs.Devices.{Devices, faults_of}
use Rattle.swi_outside.specs.Fetches.{since_append}
use Rattle.swi_outside.specs.Laws.{Appends-append, Appends-none}
use Rattle.swi_outside.specs.Sink.{AppendsPrefix, SinkState}
use Rattle.swi_calls.specs.declared.end.End.{End}
use Rattle.swi_calls.specs.declared.machine.Machine.{Machine}
use Rattle.swi_calls.specs.Flat.{Made as Step, call_made, quiet}
use Rattle.swi_calls.specs.Held.{held_made}
use Rattle.swi_image.specs.Format.{ImageData}
use Rattle.swi_rom.specs.Record.{Record, Placed}
use Rattle.swi_rom.specs.Service.{ServiceOf, IsService}
use Rattle.swi_hart.specs.declared.fault.BoardFault.{BoardFault}
use Rattle.swi_hart.specs.declared.fault.BoardFault.TheVariants.{RamFault, SourceFault, SinkFault}
use Rattle.swi_hart.specs.declared.hart.Control.{Control}
use Rattle.swi_hart.specs.declared.hart.Control.TheVariants.{At, Outside}
use Rattle.swi_hart.specs.Calling.{BrokenCall, BrokenStep}
use Rattle.swi_hart.specs.Hart.{HartData, completes, original, slots}
use Rattle.swi_hart.specs.Leaving.{RamBroken, RamStepped, fetch_under, fetches_after}
use Rattle.swi_exec.specs.declared.done.Done.TheVariants as done
use Rattle.swi_hart.proofs.Growing.{after_one}
use Rattle.swi_hart.proofs.Midway.{step_follows}
use Rattle.swi_hart.proofs.Taking.{input_shrinks}
use Rattle.swi_board.specs.Board.{BoardWithDevices}
use Rattle.swi_board.specs.Ran.{Unasked, next_of}
use Rattle.swi_board.specs.Transfers.{Here, at_fall, before_last, spent, spent_by}
use Rattle.swi_board.proofs.Fetching.{HoldsUnder, holds_under, under_is, word_at_place}
use Rattle.swi_hart.proofs.Fitting.{matched_fits}
use Rattle.swi_board.proofs.Held.{same_steps}
use Rattle.swi_run_laws.specs.Broken.{Broke, DeviceBroke, InOrder, RamBroke}
use Rattle.swi_board.specs.Moments.{Moment, Policy, completed, counted, event, executed, fell, led, next_fetch, stepped_at}
use Rattle.swi_board.specs.BoardRan.{BrokeOff}
use Rattle.swi_board.specs.Tracking.{Point, Tracks, point_of}
use Rattle.swi_run_laws.proofs.Inside.{exit_serves}

-- the words of a moment's event are those under control
event_words : (by : Policy) (v : ImageData) (s : Moment) → s.flat.machine.ending ≡ None → (event by v s).words ≡ word_at_place v s.here s.kept s.spent s.sets ++ s.words
event_words by v s on = ap (λ (e : Option End). (if is_some e then s else stepped_at by v s.here s).words) on ∙ by_here s.here
  where
    by_words : (p : ℕ × ℕ) (t : Bool) → (counted (next_fetch v p s ∷ []) (if t then led s else completed by v (Some p) s)).words ≡ next_fetch v p s ∷ s.words
    by_words p true = refl
    by_words p false = refl

    by_fall : (p : ℕ × ℕ) (t : Bool) → (counted (next_fetch v p s ∷ []) (if t then fell by v p s else executed by v p s)).words ≡ next_fetch v p s ∷ s.words
    by_fall p true = refl
    by_fall p false = by_words p (nat_lt s.spent (before_last s.flat.machine (original s.flat.machine) (slots s.flat.machine)))

    by_here : (h : Here) → (stepped_at by v h s).words ≡ word_at_place v h s.kept s.spent s.sets ++ s.words
    by_here None = refl
    by_here (Some p) = by_fall p (at_fall v s.flat.machine (Some p))

-- in the count of the ram
fetch_since : (c : Control) (n sets : ℕ) (held : List ℕ) → fetch_under c (risen n sets) held ≡ since n (fetch_under c sets held)
fetch_since (At i b o stage) n sets held = refl
fetch_since Outside n sets held = refl

take_nil : (n : ℕ) → ◌≡◌ {A = List ℕ} (take n []) []
take_nil zero = refl
take_nil (suc n) = refl

-- a front of what the board's step writes is one of what the flat machine's next step writes
output_next : (t : Bool) (f : Machine) (input : List ℕ) (out out' : Option (List ℕ)) → AppendsPrefix out out' (if t then held_made f input else quiet f input).output → AppendsPrefix out out' (held_made f input).output
output_next true f input out out' p = p
output_next false f input out out' p = (0, subst (λ (l : List ℕ). Appends out out' l) (take_nil p.0) p.1)

error_next : (t : Bool) (f : Machine) (input : List ℕ) (err err' : Option (List ℕ)) → AppendsPrefix err err' (if t then held_made f input else quiet f input).error → AppendsPrefix err err' (held_made f input).error
error_next true f input err err' p = p
error_next false f input err err' p = (0, subst (λ (l : List ℕ). Appends err err' l) (take_nil p.0) p.1)

input_next : (t : Bool) (f : Machine) (input : List ℕ) (n : ℕ) → n + length (if t then held_made f input else quiet f input).input ≤ length input → n + length (held_made f input).input ≤ length input
input_next true f input n le = le
input_next false f input n le = omega (arith, le, input_shrinks f input)

module _ (by : Policy) (span : ℕ) (v : ImageData) (s : Moment) (from a b : Point) (at : Tracks span v s from a) (running : a.hart.machine.ending ≡ None) (word : a.hart.machine.pc < 2 ^ 32)
    (once : (c f g : ℕ) → Placed a.kept c f → Placed a.kept c g → f ≡ g) (held : HoldsUnder v a.kept a.ram.words a.hart.control) where
  flat_on : s.flat.machine.ending ≡ None
  flat_on = sym (same_steps v a.kept s.flat.machine a.hart.machine a.hart.control at.matches).1 ∙ running

  spends : spent s.flat.machine a.hart.control ≡ s.spent
  spends = sym (ap (λ (e : Option End). spent_by e s.flat.machine a.hart.control) flat_on) ∙ at.spent

  under : fetch_under a.hart.control s.sets a.ram.words ≡ word_at_place v s.here s.kept s.spent s.sets
  under =
      sym (under_is v a.kept a.ram.words s.flat.machine a.hart.machine a.hart.control s.sets once held running at.matches)
      ∙ ap (λ (h : Here). word_at_place v h a.kept (spent s.flat.machine a.hart.control) s.sets) (at.here running)
      ∙ ap (λ (n : ℕ). word_at_place v s.here a.kept n s.sets) spends
      ∙ ap (λ (r : Record). word_at_place v s.here r s.spent s.sets) at.kept

  -- some word is under control, unless it is outside
  inside_now : (a.hart.control ≡ Outside → ⊥) → s.here ≡ None → ⊥
  inside_now inside none = by_control a.hart.control inside under
    where
      by_control : (c : Control) → (c ≡ Outside → ⊥) → fetch_under c s.sets a.ram.words ≡ word_at_place v s.here s.kept s.spent s.sets → ⊥
      by_control (At i b o stage) inside is = let clash : ◌≡◌ {A = List Fetch} (fetch i s.sets (slice_index a.ram.words i) ∷ []) [] = is ∙ ap (λ (h : Here). word_at_place v h s.kept s.spent s.sets) none in let bad : ⊥ = cc in bad
      by_control Outside inside is = inside refl

  -- where the word under control was fetched
  words_next : b.ram.fetched_at ≡ fetch_under a.hart.control a.ram.sets a.ram.words ++ a.ram.fetched_at → b.ram.fetched_at ≡ since from.ram.sets (event by v s).words ++ from.ram.fetched_at
  words_next more =
      more ∙ ap (λ (n : ℕ). fetch_under a.hart.control n a.ram.words ++ a.ram.fetched_at) at.ram.sets
      ∙ ap (λ (l : List Fetch). l ++ a.ram.fetched_at) (fetch_since a.hart.control from.ram.sets s.sets a.ram.words)
      ∙ ap (λ (l : List Fetch). since from.ram.sets l ++ a.ram.fetched_at) under
      ∙ ap (λ (l : List Fetch). since from.ram.sets (word_at_place v s.here s.kept s.spent s.sets) ++ l) at.words
      ∙ sym (append_assoc (since from.ram.sets (word_at_place v s.here s.kept s.spent s.sets)) (since from.ram.sets s.words) from.ram.fetched_at)
      ∙ ap (λ (l : List Fetch). l ++ from.ram.fetched_at) (sym (since_append from.ram.sets (word_at_place v s.here s.kept s.spent s.sets) s.words))
      ∙ ap (λ (l : List Fetch). since from.ram.sets l ++ from.ram.fetched_at) (sym (event_words by v s flat_on))

  fetches_next : b.ram.fetches ≡ fetches_after a.hart.control a.ram.fetches → b.ram.fetches ≡ risen from.ram.fetches (length (event by v s).words)
  fetches_next more =
      more ∙ ap (λ (n : ℕ). fetches_after a.hart.control n) at.ram.fetches ∙ by_control a.hart.control from.ram.fetches s.words
      ∙ ap (λ (l : List Fetch). risen from.ram.fetches (length (l ++ s.words))) under ∙ ap (λ (l : List Fetch). risen from.ram.fetches (length l)) (sym (event_words by v s flat_on))
    where
      one_more : (n k : ℕ) → with_one (risen n k) ≡ risen n (suc k)
      one_more n k = grind arith

      by_control : (c : Control) (n : ℕ) (words : List Fetch) → fetches_after c (risen n (length words)) ≡ risen n (length (fetch_under c s.sets a.ram.words ++ words))
      by_control (At i b o stage) n words = one_more n (length words)
      by_control Outside n words = refl

  one_longer : (a.hart.control ≡ Outside → ⊥) → length (event by v s).words ≡ length s.words + 1
  one_longer inside = ap (λ (l : List Fetch). length l) (event_words by v s flat_on) ∙ ap (λ (l : List Fetch). length (l ++ s.words)) (sym under) ∙ by_control a.hart.control inside
    where
      by_control : (c : Control) → (c ≡ Outside → ⊥) → length (fetch_under c s.sets a.ram.words ++ s.words) ≡ length s.words + 1
      by_control (At i b o stage) inside = omega arith
      by_control Outside inside = absurd (inside refl)

  pub ram_broke : b.left ≡ a.left → b.out ≡ a.out → b.err ≡ a.err → RamBroken v a.hart.machine a.hart.control span a.ram b.ram → RamBroke by v s from b
  ram_broke left out err failed = elim failed.asked [
    | inl same ↦ record {
      reached = s;
      is = inl refl;
      running = flat_on;
      inside = inside_now failed.inside;
      input = left ∙ at.input;
      output = subst (λ (o : Option (List ℕ)). Appends from.out o s.flat.output) (sym out) at.output;
      error = subst (λ (o : Option (List ℕ)). Appends from.err o s.flat.error) (sym err) at.error;
      words = ap (λ (r : RamState). r.fetched_at) same ∙ at.words;
      fetches = ap (λ (r : RamState). r.fetches) same ∙ at.ram.fetches;
      last_failed = failed.last_failed;
    }
    | inr one ↦
        let serves = exit_serves by v s a.kept a.hart.machine a.hart.control at.image at.matches running word (at.here running) spends one.1 in
        let bytes = serves.0 in
        record {
          reached = event by v s;
          is = inr refl;
          running = serves.1;
          inside = serves.2;
          input = left ∙ at.input ∙ ap (λ (l : List ℕ). Some l) (sym bytes.input);
          output = subst (λ (l : List ℕ). Appends from.out b.out l) (sym bytes.output) (subst (λ (o : Option (List ℕ)). Appends from.out o s.flat.output) (sym out) at.output);
          error = subst (λ (l : List ℕ). Appends from.err b.err l) (sym bytes.error) (subst (λ (o : Option (List ℕ)). Appends from.err o s.flat.error) (sym err) at.error);
          words = words_next one.0.1;
          fetches = one.0.0 ∙ ap with_one at.ram.fetches ∙ one_risen from.ram.fetches (length s.words) ∙ ap (λ (n : ℕ). risen from.ram.fetches n) (sym (one_longer failed.inside));
          last_failed = failed.last_failed;
        }
  ]
    where
      one_risen : (a f : ℕ) → with_one (risen a f) ≡ risen a (f + 1)
      one_risen a f = grind arith

  device_broke : (fault : BoardFault) → BrokenStep v a.kept a.hart s.flat.input b.left a.out b.out a.err b.err → (fault ≡ SourceFault → (b.out ≡ a.out) × (b.err ≡ a.err)) → (fault ≡ RamFault → ⊥) →
      RamStepped span 0 a.hart.control a.ram b.ram → DeviceBroke by v fault s from b
  device_broke fault step unwritten other more =
      let follows = step_follows v a.kept a.kept s.flat.machine a.hart.machine a.hart.control step.stepped s.flat.input at.image at.matches running word (λ e. refl) step.step in
      let t = completes v a.hart.machine a.hart.control in
      let out = output_next (completes v a.hart.machine a.hart.control) s.flat.machine s.flat.input a.out b.out (subst (λ (l : List ℕ). AppendsPrefix a.out b.out l) follows.output step.output) in
      let err = error_next (completes v a.hart.machine a.hart.control) s.flat.machine s.flat.input a.err b.err (subst (λ (l : List ℕ). AppendsPrefix a.err b.err l) follows.error step.error) in
      let few = input_next (completes v a.hart.machine a.hart.control) s.flat.machine s.flat.input (length step.taken) (subst (λ (l : List ℕ). length step.taken + length l ≤ length s.flat.input) follows.input step.few) in
      by_fault fault refl unwritten out err step.taken step.input few
    where
      none_set : (n first k : ℕ) → n ≡ risen first k → risen n 0 ≡ risen first k
      none_set n first k is = grind arith

      whole : (kf ke : ℕ) → Appends a.out b.out (take kf (next_of s.flat).output) → Appends a.err b.err (take ke (next_of s.flat).error) → (fault ≡ SourceFault → (kf ≡ 0) × (ke ≡ 0)) →
          (taken : List ℕ) → Consumes (Some s.flat.input) b.left taken → length taken + length (next_of s.flat).input ≤ length s.flat.input → DeviceBroke by v fault s from b
      whole kf ke out err none taken input few = record {
        output_front = kf;
        output = Appends-append from.out a.out b.out s.flat.output (take kf (next_of s.flat).output) at.output out;
        error_front = ke;
        error = Appends-append from.err a.err b.err s.flat.error (take ke (next_of s.flat).error) at.error err;
        unwritten = none;
        taken = taken;
        input = input;
        few = few;
        words = words_next more.fetched_at;
        fetches = fetches_next more.fetches;
        sets = more.sets ∙ none_set a.ram.sets from.ram.sets s.sets at.ram.sets;
      }

      by_fault : (f : BoardFault) → fault ≡ f → (fault ≡ SourceFault → (b.out ≡ a.out) × (b.err ≡ a.err)) → AppendsPrefix a.out b.out (next_of s.flat).output → AppendsPrefix a.err b.err (next_of s.flat).error →
          (taken : List ℕ) → Consumes (Some s.flat.input) b.left taken → length taken + length (next_of s.flat).input ≤ length s.flat.input → DeviceBroke by v fault s from b
      by_fault RamFault is same out err taken input few = absurd (other is)
      by_fault SourceFault is same out err taken input few =
          let kept = same is in
          whole 0 0 (subst (λ (o : Option (List ℕ)). Appends a.out o []) (sym kept.0) (Appends-none a.out)) (subst (λ (o : Option (List ℕ)). Appends a.err o []) (sym kept.1) (Appends-none a.err)) (λ e. (refl, refl)) taken input few
      by_fault SinkFault is same out err taken input few = whole out.0 err.0 out.1 err.1 (λ e. (let clash : SourceFault ≡ SinkFault = sym e ∙ is in let bad : ⊥ = cc in absurd bad)) taken input few

-- the ram holds what stands at the word under control
held_at : {S : Type 0} (k : ServiceOf S) (laws : IsService k) (v : ImageData) (mid : BoardWithDevices S) (s : Moment) (from : Point) → k.sound mid.rom v mid.ram.words → Tracks (k.span (k.setting mid.rom)) v s from (point_of k mid) →
    mid.hart.machine.ending ≡ None → mid.hart.machine.pc < 2 ^ 32 → HoldsUnder v (k.kept mid.rom) mid.ram.words mid.hart.control
held_at {S} k laws v mid s from sound at running short =
    holds_under v (k.kept mid.rom) (k.span (k.setting mid.rom)) mid.ram.words mid.hart (laws.coherent mid.rom v mid.ram.words sound)
    (matched_fits v (k.kept mid.rom) s.flat.machine mid.hart at.image at.matches) running short

-- Of a board: whatever fails, the moment before tells what stands.
pub broke_off : {S : Type 0} (k : ServiceOf S) (laws : IsService k) (v : ImageData) (n : ℕ) (mid new : BoardWithDevices S) (fault : BoardFault) → k.sound mid.rom v mid.ram.words → BrokeOff k v n mid new fault →
    (s : Moment) (from : Point) → Tracks (k.span (k.setting mid.rom)) v s from (point_of k mid) → Broke (k.policy (k.setting mid.rom)) v fault s from (point_of k new)
broke_off {S} k laws v n mid new RamFault sound off s from at =
    let same = off.broke.others_stay refl in
    ram_broke (k.policy (k.setting mid.rom)) (k.span (k.setting mid.rom)) v s from (point_of k mid) (point_of k new) at off.running off.short (laws.coherent mid.rom v mid.ram.words sound).once
    (held_at k laws v mid s from sound at off.running off.short)
    (ap (λ (d : Devices). d.input.left) same) (ap (λ (d : Devices). d.output.held) same) (ap (λ (d : Devices). d.error.held) same) (off.broke.ram_failed refl)
broke_off {S} k laws v n mid new SourceFault sound off s from at =
    device_broke (k.policy (k.setting mid.rom)) (k.span (k.setting mid.rom)) v s from (point_of k mid) (point_of k new) at off.running off.short (laws.coherent mid.rom v mid.ram.words sound).once
    (held_at k laws v mid s from sound at off.running off.short)
    SourceFault (off.broke.broke sound s.flat.input at.input) (λ e. (let u = off.broke.unwritten refl in (ap (λ (d : SinkState). d.held) u.0, ap (λ (d : SinkState). d.held) u.1))) (λ e. cc) off.broke.unserved.1
broke_off {S} k laws v n mid new SinkFault sound off s from at =
    device_broke (k.policy (k.setting mid.rom)) (k.span (k.setting mid.rom)) v s from (point_of k mid) (point_of k new) at off.running off.short (laws.coherent mid.rom v mid.ram.words sound).once
    (held_at k laws v mid s from sound at off.running off.short)
    SinkFault (off.broke.broke sound s.flat.input at.input) (λ e. cc) (λ e. cc) off.broke.unserved.1

nothing_written : (t : Bool) (f : Machine) (input : List ℕ) → (held_made f input).output ≡ [] → (if t then held_made f input else quiet f input).output ≡ []
nothing_written true f input none = none
nothing_written false f input none = refl

nothing_told : (t : Bool) (f : Machine) (input : List ℕ) → (held_made f input).error ≡ [] → (if t then held_made f input else quiet f input).error ≡ []
nothing_told true f input none = none
nothing_told false f input none = refl

-- and a sink to which the next step gives nothing was not asked
call_unasked : (v : ImageData) (s : Moment) (span : ℕ) (from a : Point) (h' : HartData) (left' out out' err err' : Option (List ℕ)) (d d' : Devices) → Tracks span v s from a → a.hart.machine.ending ≡ None → a.hart.machine.pc < 2 ^ 32 →
    BrokenCall a.hart h' d d' → BrokenStep v a.kept a.hart s.flat.input left' out out' err err' → Unasked (next_of s.flat) (faults_of d) (faults_of d')
call_unasked v s span from a h' left' out out' err err' d d' at running word call step =
    let follows = step_follows v a.kept a.kept s.flat.machine a.hart.machine a.hart.control step.stepped s.flat.input at.image at.matches running word (λ e. refl) step.step in
    record {
      output = λ none. ap (λ (x : SinkState). x.faults) (call.unasked_output s.flat.input
          (ap (λ (m : Step). m.output) (sym step.calls) ∙ follows.output ∙ nothing_written (completes v a.hart.machine a.hart.control) s.flat.machine s.flat.input none));
      error = λ none. ap (λ (x : SinkState). x.faults) (call.unasked_error s.flat.input
          (ap (λ (m : Step). m.error) (sym step.calls) ∙ follows.error ∙ nothing_told (completes v a.hart.machine a.hart.control) s.flat.machine s.flat.input none));
    }

pub off_unasked : {S : Type 0} (k : ServiceOf S) (v : ImageData) (n : ℕ) (mid new : BoardWithDevices S) (fault : BoardFault) → (fault ≡ RamFault → ⊥) → k.sound mid.rom v mid.ram.words → BrokeOff k v n mid new fault →
    (s : Moment) (from : Point) → Tracks (k.span (k.setting mid.rom)) v s from (point_of k mid) → Unasked (next_of s.flat) (faults_of mid.devices) (faults_of new.devices)
off_unasked {S} k v n mid new RamFault other sound off s from at = absurd (other refl)
off_unasked {S} k v n mid new SourceFault other sound off s from at =
    call_unasked v s (k.span (k.setting mid.rom)) from (point_of k mid) new.hart new.devices.input.left mid.devices.output.held new.devices.output.held mid.devices.error.held new.devices.error.held mid.devices new.devices at off.running off.short
    off.broke.call (off.broke.broke sound s.flat.input at.input)
off_unasked {S} k v n mid new SinkFault other sound off s from at =
    call_unasked v s (k.span (k.setting mid.rom)) from (point_of k mid) new.hart new.devices.input.left mid.devices.output.held new.devices.output.held mid.devices.error.held new.devices.error.held mid.devices new.devices at off.running off.short
    off.broke.call (off.broke.broke sound s.flat.input at.input)

-- the board's step that a device broke off completes one of the flat machine
call_completes : (t : Bool) (f m : Machine) (input : List ℕ) → m.steps ≡ f.steps → (call_made m input).machine.steps ≡ (if t then held_made f input else quiet f input).machine.steps → t ≡ true
call_completes true f m input same one = refl
call_completes false f m input same one = let more = after_one m done.Call input in absurd (omega (arith, same, one, more))

-- and its output came first
call_in_order : (v : ImageData) (s : Moment) (span : ℕ) (from a b : Point) (h' : HartData) (d d' : Devices) → Tracks span v s from a → a.hart.machine.ending ≡ None → a.hart.machine.pc < 2 ^ 32 → d.input.left ≡ Some s.flat.input →
    a.out ≡ d.output.held → b.out ≡ d'.output.held → a.err ≡ d.error.held → b.err ≡ d'.error.held →
    BrokenCall a.hart h' d d' → BrokenStep v a.kept a.hart s.flat.input b.left a.out b.out a.err b.err → InOrder s.flat from b (faults_of d) (faults_of d')
call_in_order v s span from a b h' d d' at running word told out_a out_b err_a err_b call step =
    let follows = step_follows v a.kept a.kept s.flat.machine a.hart.machine a.hart.control step.stepped s.flat.input at.image at.matches running word (λ e. refl) step.step in
    let t : Bool = completes v a.hart.machine a.hart.control in
    let same = (same_steps v a.kept s.flat.machine a.hart.machine a.hart.control at.matches).0 in
    let one = (same_steps v a.kept (if t then held_made s.flat.machine s.flat.input else quiet s.flat.machine s.flat.input).machine step.stepped.made.machine step.stepped.control follows.matches).0 in
    let whole : t ≡ true = call_completes t s.flat.machine a.hart.machine s.flat.input same (ap (λ (m : Step). m.machine.steps) (sym step.calls) ∙ one) in
    let bytes : (call_made a.hart.machine s.flat.input).output ≡ (next_of s.flat).output =
    ap (λ (m : Step). m.output) (sym step.calls) ∙ follows.output ∙ ap (λ (x : Bool). (if x then held_made s.flat.machine s.flat.input else quiet s.flat.machine s.flat.input).output) whole in
    record {
      output_failed = λ rose.
          let stays : b.err ≡ a.err = err_b ∙ ap (λ (x : SinkState). x.held) (call.failed_output rose) ∙ sym err_a in
          subst (λ (o : Option (List ℕ)). Appends from.err o s.flat.error) (sym stays) at.error;
      error_failed = λ rose.
          let gained : Appends a.out b.out (next_of s.flat).output =
          subst (λ (o : Option (List ℕ)). Appends a.out o (next_of s.flat).output) (sym out_b)
          (subst (λ (o : Option (List ℕ)). Appends o d'.output.held (next_of s.flat).output) (sym out_a)
          (subst (λ (l : List ℕ). Appends d.output.held d'.output.held l) bytes (call.failed_error rose s.flat.input told))) in
          Appends-append from.out a.out b.out s.flat.output (next_of s.flat).output at.output gained;
    }

pub off_in_order : {S : Type 0} (k : ServiceOf S) (v : ImageData) (n : ℕ) (mid new : BoardWithDevices S) (fault : BoardFault) → (fault ≡ RamFault → ⊥) → k.sound mid.rom v mid.ram.words → BrokeOff k v n mid new fault →
    (s : Moment) (from : Point) → Tracks (k.span (k.setting mid.rom)) v s from (point_of k mid) → InOrder s.flat from (point_of k new) (faults_of mid.devices) (faults_of new.devices)
off_in_order {S} k v n mid new RamFault other sound off s from at = absurd (other refl)
off_in_order {S} k v n mid new SourceFault other sound off s from at =
    call_in_order v s (k.span (k.setting mid.rom)) from (point_of k mid) (point_of k new) new.hart mid.devices new.devices at off.running off.short at.input refl refl refl refl
    off.broke.call (off.broke.broke sound s.flat.input at.input)
off_in_order {S} k v n mid new SinkFault other sound off s from at =
    call_in_order v s (k.span (k.setting mid.rom)) from (point_of k mid) (point_of k new) new.hart mid.devices new.devices at off.running off.short at.input refl refl refl refl
    off.broke.call (off.broke.broke sound s.flat.input at.input)
