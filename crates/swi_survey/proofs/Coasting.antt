-- Steps at which no cache has anything to do.
use Rattle.std.proofs.Common.{◌≡◌, ◌⊎◌, ◌==◌, ◌||◌, ℕ, zero, suc, ◌+◌, ◌*◌, ◌%◌, ◌^◌, ◌<◌, ◌≤◌, Bool, true, false, not, List, [], ◌∷◌, ◌++◌, length, map, nat_lt, slice_get, slice_index, Option, Some, None, is_some, Ok, if◌then◌else◌, arith, refl, sym, ◌∙◌, ap, subst, inl, inr}
use Rattle.std.proofs.lemmas.Bool.{cases_Bool, and_parts, eqb-true, eq-eqb, ltb-true}
use Rattle.swi_isa.specs.Decode.{decoded}
use Rattle.swi_isa.specs.declared.instr.Instr.{Instr}
use Rattle.swi_isa.specs.declared.instr.Instr.TheVariants as instr
use Rattle.swi_exec.specs.Arithmetic.{sum_of}
use Rattle.swi_exec.specs.Execute.{is_taken}
use Rattle.swi_exec.specs.Registers.{Registers, reg}
use Rattle.swi_outside.specs.Devices.{Devices}
use Rattle.swi_calls.specs.declared.end.End.{End}
use Rattle.swi_calls.specs.declared.machine.Machine.{Machine}
use Rattle.swi_calls.specs.Exchange.{Exchanged}
use Rattle.swi_calls.specs.Flat.{Made, exchange_of, made}
use Rattle.swi_calls.specs.StoresText.{instruction_store}
use Rattle.swi_flat.specs.declared.coast.Coasted.{Coasted}
use Rattle.swi_flat.specs.declared.coast.Gate.{Gate}
use Rattle.swi_flat.specs.Coasted.{At, Closes, Gates, GoesOn, HasCoasted, StepsOn, is_open, is_taken_branch, jumps, onward, over, toll}
use Rattle.swi_flat.specs.Coasted as flat
use Rattle.swi_flat.specs.FlatData.{FlatData, unfailed}
use Rattle.swi_flat.proofs.QuietSteps.{quiet_step}
use Rattle.swi_image.specs.Format.{ImageData}
use Rattle.swi_image.specs.Place.{place_of, place_of_word}
use Rattle.swi_program.specs.Text.{TextData, IsSized, word_of}
use Rattle.swi_render.specs.Rendering.{sum}
use Rattle.swi_render.specs.ImageOf.{address_of}
use Rattle.swi_tally.specs.Exits.{ExitsData}
use Rattle.swi_tally.specs.declared.exits.Exit.{Exit}
use Rattle.swi_tally.specs.Masks.{has}
use Rattle.swi_tally.proofs.Siding.{all_linked, all_serving}
use Rattle.swi_survey.specs.declared.leaving.Leaving.{Leaving}
use Rattle.swi_survey.specs.declared.leaving.Way.{Way}
use Rattle.swi_survey.specs.declared.leaving.Way.TheVariants as way
use Rattle.swi_survey.specs.declared.track.Here.{Here}
use Rattle.swi_survey.specs.declared.track.Here.TheVariants as here
use Rattle.swi_survey.specs.declared.track.Step.{Step}
use Rattle.swi_survey.specs.declared.track.Step.TheVariants as step
use Rattle.swi_survey.specs.declared.track.Track.{Track}
use Rattle.swi_survey.specs.declared.ways.Ways.{Ways}
use Rattle.swi_survey.specs.Leaving.{branch_by, leaving_by, untaken_by}
use Rattle.swi_survey.specs.Ways.{AreWays, HasNumber, exit_if, exit_to, gate_by, gate_of, instr_at, jump_of, own_exit, own_if, shut}
use Rattle.swi_survey.specs.Track.{Coasts, Follows, IsReady, IsStep, Settles, Stands, StandsAt, StepIs, closing, gates_by, passed}
use Rattle.swi_survey.proofs.Following.{call_on}
use Rattle.swi_survey.proofs.Mapping.{same_some, word_here}
use Rattle.swi_survey.proofs.Places.{AtWord, Ground, at_word, some_place}
use Rattle.swi_survey.proofs.Rows.{cross_one}
use Rattle.swi_survey.proofs.Running.{Running, is_step, running_on, settled_ready}
use Rattle.swi_survey.proofs.Settling.{settled_same}

-- ---- how an instruction leaves its word

by_branch : (b : Bool) → branch_by b ≡ (if b then branch_by true else branch_by false)
by_branch true = refl
by_branch false = refl

pub left_is : (i : Instr) (regs : Registers) (pc : ℕ) → leaving_by (Some i) regs pc ≡ (if is_taken_branch i regs then branch_by true else untaken_by (Some i) pc)
left_is (instr.Branch op rs1 rs2 off) regs pc = by_branch (is_taken op (reg regs rs1) (reg regs rs2))
left_is instr.Ebreak regs pc = refl
left_is (instr.Jalr rd rs1 imm) regs pc = refl
left_is (instr.Auipc rd imm) regs pc = refl
left_is (instr.Jal rd off) regs pc = refl
left_is _ regs pc = refl

-- a step that goes on to the next word: it has no exit, or is a branch that is not taken
pub record Onward (i : Instr) (ends : Bool) (regs : Registers) (paid : ℕ) : Type 0 where
  pub none : paid ≡ 0
  pub taken : is_taken_branch i regs ≡ false
  pub next : (a : ℕ) → (untaken_by (Some i) a).way ≡ way.Next
  pub own : ((a : ℕ) → jump_of (Some i) a ≡ None) ⊎ ((ends ≡ false) × ((a : ℕ) → (untaken_by (Some i) a).words ≡ 1))

none_paid : {A : Type 0} (paid : ℕ) → None ≡ Some paid → A
none_paid paid e = absurd cc

on_off : {A : Type 0} → true ≡ false → A
on_off e = absurd cc

onward_by : (ends : Bool) (paid : ℕ) → onward ends ≡ Some paid → (ends ≡ false) × (paid ≡ 0)
onward_by true paid e = none_paid paid e
onward_by false paid e = (refl, sym (same_some 0 paid e))

straight : (i : Instr) (ends : Bool) (regs : Registers) (paid : ℕ) → Some 0 ≡ Some paid → is_taken_branch i regs ≡ false → ((a : ℕ) → (untaken_by (Some i) a).way ≡ way.Next) → ((a : ℕ) → jump_of (Some i) a ≡ None) → Onward i ends regs paid
straight i ends regs paid e taken next own = record { none = sym (same_some 0 paid e); taken = taken; next = next; own = inl own }

pub onward_case : (i : Instr) (ends free : Bool) (regs : Registers) (paid : ℕ) → toll i ends free regs ≡ Some paid → jumps i regs ≡ false → Onward i ends regs paid
onward_case (instr.Jal rd off) ends free regs paid e j = on_off j
onward_case (instr.Jalr rd rs1 imm) ends free regs paid e j = on_off j
onward_case (instr.Branch op rs1 rs2 off) ends free regs paid e j =
    let o = onward_by ends paid (sym (ap (λ (b : Bool). if b then over free 1 else onward ends) j) ∙ e) in
    record { none = o.1; taken = j; next = λ a. refl; own = inr (o.0, λ a. refl) }
onward_case instr.Ecall ends free regs paid e j = none_paid paid e
onward_case instr.Ebreak ends free regs paid e j = none_paid paid e
onward_case (instr.Lui rd imm) ends free regs paid e j = straight (instr.Lui rd imm) ends regs paid e refl (λ a. refl) (λ a. refl)
onward_case (instr.Auipc rd imm) ends free regs paid e j = straight (instr.Auipc rd imm) ends regs paid e refl (λ a. refl) (λ a. refl)
onward_case (instr.Load op rd rs1 imm) ends free regs paid e j = straight (instr.Load op rd rs1 imm) ends regs paid e refl (λ a. refl) (λ a. refl)
onward_case (instr.Store op rs1 rs2 imm) ends free regs paid e j = straight (instr.Store op rs1 rs2 imm) ends regs paid e refl (λ a. refl) (λ a. refl)
onward_case (instr.Alu op rd rs1 imm) ends free regs paid e j = straight (instr.Alu op rd rs1 imm) ends regs paid e refl (λ a. refl) (λ a. refl)
onward_case (instr.Op op rd rs1 rs2) ends free regs paid e j = straight (instr.Op op rd rs1 rs2) ends regs paid e refl (λ a. refl) (λ a. refl)
onward_case (instr.Atomic op rd rs1 rs2) ends free regs paid e j = straight (instr.Atomic op rd rs1 rs2) ends regs paid e refl (λ a. refl) (λ a. refl)
onward_case instr.Fence ends free regs paid e j = straight instr.Fence ends regs paid e refl (λ a. refl) (λ a. refl)

-- over its exit: if the target is a multiple of 4
pub record Over (i : Instr) (free : Bool) (regs : Registers) (pc paid : ℕ) : Type 0 where
  pub gate : free ≡ true
  pub left : ((rd off : ℕ) → i ≡ instr.Jal rd off → sum pc off % 4 ≡ 0) → leaving_by (Some i) regs pc ≡ record { words = 1 + paid; way = way.Over }

over_by : (free : Bool) (n paid : ℕ) → over free n ≡ Some paid → (free ≡ true) × (n ≡ paid)
over_by true n paid e = (refl, same_some n paid e)
over_by false n paid e = none_paid paid e

jal_left : (whole zero_rd : Bool) → whole ≡ true → (if not whole || zero_rd then 1 else 3) ≡ 1 + (if zero_rd then 0 else 2)
jal_left true true e = refl
jal_left true false e = refl
jal_left false z e = on_off (sym e)

pub over_case : (i : Instr) (ends free : Bool) (regs : Registers) (pc paid : ℕ) → toll i ends free regs ≡ Some paid → jumps i regs ≡ true → Over i free regs pc paid
over_case (instr.Jal rd off) ends free regs pc paid e j =
    let o = over_by free (if rd == 0 then 0 else 2) paid e in
    record {
      gate = o.0;
      left = λ aligned. ap (λ (n : ℕ). let l : Leaving = record { words = n; way = way.Over } in l)
          (jal_left (sum pc off % 4 == 0) (rd == 0) (eq-eqb _ _ (aligned rd off refl)) ∙ ap (λ (n : ℕ). 1 + n) o.1);
    }
over_case (instr.Jalr rd rs1 imm) ends free regs pc paid e j = none_paid paid e
over_case (instr.Branch op rs1 rs2 off) ends free regs pc paid e j =
    let o = over_by free 1 paid (sym (ap (λ (b : Bool). if b then over free 1 else onward ends) j) ∙ e) in
    record {
      gate = o.0;
      left = λ aligned. ap branch_by j ∙ ap (λ (n : ℕ). let l : Leaving = record { words = 1 + n; way = way.Over } in l) o.1;
    }
over_case _ ends free regs pc paid e j = on_off (sym j)

-- ---- gates

gate_at : (n : ℕ) (ways : List Ways) (k : ℕ) (gate : Gate) → k < length ways → slice_get (map (gate_of n) ways ++ shut n ∷ []) k ≡ Some gate → (w : Ways) × (slice_get ways k ≡ Some w) × (gate_of n w ≡ gate)
gate_at n [] k gate lt at = absurd (omega (arith, lt))
gate_at n (w ∷ ws) zero gate lt at = (w, refl, same_some _ _ at)
gate_at n (w ∷ ws) (suc k) gate lt at = gate_at n ws k gate (omega (arith, lt)) at

gates_long : (n : ℕ) (ways : List Ways) → length (map (gate_of n) ways ++ shut n ∷ []) ≡ length ways + 1
gates_long n [] = refl
gates_long n (w ∷ ws) = omega (arith, gates_long n ws)

passes_by : (last : Bool) (n : ℕ) → (last || not (n == 1)) ≡ false → (last ≡ false) × (n ≡ 1)
passes_by true n e = on_off e
passes_by false n e = (refl, eqb-true n 1 (not_off (n == 1) e))
  where
    not_off : (b : Bool) → not b ≡ false → b ≡ true
    not_off true e = refl
    not_off false e = on_off e

gate_ends : (n words : ℕ) (last : Bool) (own : Option ℕ) → (gate_by n last words own).ends ≡ last
gate_ends n words last None = refl
gate_ends n words last (Some x) = refl

-- an open gate has an exit
opens : (n words pass : ℕ) (last : Bool) (masks : List ℕ) (own : Option ℕ) → length masks ≡ n → is_open masks pass (gate_by n last words own).exit ≡ true → (x : ℕ) × (own ≡ Some x) × (x < n) × (slice_index masks x ≡ pass)
opens n words pass last masks None long e = absurd (let lt : n < length masks = ltb-true _ _ (and_parts _ _ e).0 in omega (arith, lt, long))
opens n words pass last masks (Some x) long e =
    let parts = and_parts (nat_lt x (length masks)) (slice_index masks x == pass) e in
    let lt : x < length masks = ltb-true _ _ parts.0 in
    (x, refl, omega (arith, lt, long), eqb-true _ _ parts.1)

-- the exit of a JAL that has a number leads to a text word
number_placed : (v : ImageData) (e : ExitsData) (p : ℕ × ℕ) (a x : ℕ) → HasNumber e (exit_to v p a) (Some x) → (q : ℕ × ℕ) × (place_of v a ≡ Some q)
number_placed v e p a x has = by (place_of v a) refl has
  where
    by : (o : Option (ℕ × ℕ)) → place_of v a ≡ o → HasNumber e (exit_if p o) (Some x) → (q : ℕ × ℕ) × (place_of v a ≡ Some q)
    by None at h = absurd (let never : Some x ≡ None = h in cc)
    by (Some q) at h = (q, at)

-- ---- where such a step leads

address_small : (base len k : ℕ) → base + 4 * len ≤ 2 ^ 32 → k < len → (base + 4 * k) % 2 ^ 32 ≡ base + 4 * k
address_small base len k end lt = omega arith

next_index : (base len k n : ℕ) → base + 4 * len ≤ 2 ^ 32 → 0 < k → k < len → n ≤ len → (base + 4 * n) % 2 ^ 32 ≡ base + 4 * k → n ≡ k
next_index base len k n end some lt le same = omega arith

same_index : (base j k : ℕ) → base + 4 * j ≡ base + 4 * k → j ≡ k
same_index base j k same = omega arith

-- ---- a run, and the exit behind a block made where it stands at one

pub record Standing (t : TextData) (v : ImageData) (limit : ℕ) (first : FlatData) (k : Track) (f : FlatData) (now : Track) (d e : Devices) : Type 0 where
  pub before : Track
  pub running : Running t v limit first k f before d e
  pub settles : Settles t v f.machine before now

-- the run at a text word, with so many words fetched, or so many more
abbrev at_total : Track → ℕ → ℕ → Track
at_total now j n = record now { here = here.At j; fetches = n }

abbrev track_at : Track → ℕ → ℕ → Track
track_at now j more = at_total now j (now.fetches + more)

-- so many steps on
pub record Glided (t : TextData) (v : ImageData) (limit : ℕ) (first : FlatData) (k : Track) (d e : Devices) (f : FlatData) (now : Track) (m j more : ℕ) (o : Machine) : Type 0 where
  pub standing : Standing t v limit first k (unfailed o) (track_at now j more) d e
  pub running : 0 < m → Running t v limit first k (unfailed o) (track_at now j more) d e
  pub steps : o.steps ≡ f.machine.steps + m
  pub going : o.ending ≡ None

pub standing_so : {t : TextData} {v : ImageData} {limit : ℕ} {first : FlatData} {k : Track} {before now : Track} {d e : Devices} (f : FlatData) → Running t v limit first k f before d e → Settles t v f.machine before now → Standing t v limit first k f now d e
standing_so {before = before} f r s = record { before = before; running = r; settles = s }

pub same_run : {t : TextData} {v : ImageData} {limit : ℕ} {first : FlatData} {k : Track} {now : Track} {d e : Devices} (f q : FlatData) → q ≡ f → Running t v limit first k f now d e → Running t v limit first k q now d e
same_run {t = t} {v = v} {limit = limit} {first = first} {k = k} {now = now} {d = d} {e = e} f q same r = subst (λ (x : FlatData). Running t v limit first k x now d e) (sym same) r

module _ {t : TextData} {v : ImageData} {limit : ℕ} {first : FlatData} {k : Track} {d e : Devices} (g : Ground t v) where
  pub ways_now : (f : FlatData) (now : Track) → Standing t v limit first k f now d e → (j : ℕ) (w : Ways) → slice_get now.ways.items j ≡ Some w → AreWays t v now.caches.exits j w
  ways_now f now s j w at =
      subst (λ (x : ExitsData). AreWays t v x j w) (sym s.settles.moves.exits)
      (s.running.tracks.ways_are.each j w (subst (λ (l : List Ways). slice_get l j ≡ Some w) s.settles.moves.ways at))

  pub ways_long : (f : FlatData) (now : Track) → Standing t v limit first k f now d e → length now.ways.items ≡ length t.words
  ways_long f now s = ap (λ (l : List Ways). length l) s.settles.moves.ways ∙ s.running.tracks.long

  gates_so : (f : FlatData) (now : Track) → Standing t v limit first k f now d e → now.gates.items ≡ map (gate_of (length now.caches.exits.from)) now.ways.items ++ shut (length now.caches.exits.from) ∷ []
  gates_so f now s =
      s.settles.moves.gates ∙ s.running.tracks.gates_are
      ∙ ap (λ (l : List Ways). map (gate_of (length s.before.caches.exits.from)) l ++ shut (length s.before.caches.exits.from) ∷ []) (sym s.settles.moves.ways)
      ∙ ap (λ (x : ExitsData). map (gate_of (length x.from)) now.ways.items ++ shut (length x.from) ∷ []) (sym s.settles.moves.exits)

  -- a step at a text word that asks for no device
  module _ (f : FlatData) (now : Track) (s : Standing t v limit first k f now d e) (j : ℕ) (at : now.here ≡ here.At j) (i : Instr) (n : Machine) (steps : StepsOn i f.machine n) (fewer : f.machine.steps < limit) (on : f.machine.ending ≡ None) where
    stands : StandsAt t f.machine.pc (here.At j)
    stands = subst (λ (h : Here). StandsAt t f.machine.pc h) at s.settles.stands

    fetch : AtWord t f.machine j
    fetch = at_word t f.machine j g.sized s.running.text stands.0 stands.1

    instr_is : instr_at t j ≡ Some i
    instr_is = ap decoded (same_some (slice_index t.words j) steps.word (sym fetch.fetch ∙ steps.fetches)) ∙ steps.decodes

    unstored_is : instruction_store f.machine (instr_at t j) ≡ None
    unstored_is = ap (instruction_store f.machine) instr_is ∙ steps.unstored

    module _ (l : Leaving) (left : l ≡ leaving_by (Some i) f.machine.regs f.machine.pc) where
      abbrev own : Step
      own = step.From j l

      step_so : StepIs t f now.here own
      step_so = subst (λ (h : Here). StepIs t f h own) (sym at) (refl, left ∙ ap (λ (x : Option Instr). leaving_by x f.machine.regs f.machine.pc) (sym instr_is), unstored_is)

      other : (a : ℕ) → own ≡ step.Store a → ⊥
      other a same = cc

      quiet_so : Exchanged {T = Unit {0}} (λ left. exchange_of (made f.machine left)) e e (Ok tt)
      quiet_so = quiet_step f.machine e.input e.output e.error (λ left. record {
        input = ap (λ (m : Made). m.input) (steps.goes left);
        output = ap (λ (m : Made). m.output) (steps.goes left);
        error = ap (λ (m : Made). m.error) (steps.goes left);
      })

      pub stepped : IsStep t f.machine f.failed now.here own n
      stepped = is_step s.running (unfailed n) now now own e g fewer on s.settles step_so other (λ left rest r. ap (λ (m : Made). unfailed m.machine) (sym (steps.goes left))) steps.counted refl quiet_so

      pub running_so : (after : Track) → Follows t v f.machine n now after → Running t v limit first k (unfailed n) after d e
      running_so after follows = running_on s.running (unfailed n) now after own e g fewer on s.settles step_so other (λ left rest r. ap (λ (m : Made). unfailed m.machine) (sym (steps.goes left))) steps.counted refl quiet_so follows

  -- ---- one that a gate lets go on

  module _ (f : FlatData) (now : Track) (s : Standing t v limit first k f now d e) (j : ℕ) (at : now.here ≡ here.At j) (all : ℕ) (n : Machine) (next paid : ℕ)
      (every : (c : ℕ) → c < length now.caches.caches → has all c ≡ true) (masks : length now.caches.masks ≡ length now.caches.exits.from)
      (on : GoesOn (gates_by t.base now all) j f.machine next n paid) (fewer : f.machine.steps < limit) (going : f.machine.ending ≡ None) where
    abbrev i : Instr
    i = on.instruction

    abbrev own_left : Leaving
    own_left = leaving_by (Some i) f.machine.regs f.machine.pc

    here_is : StandsAt t f.machine.pc (here.At j)
    here_is = stands f now s j at i n on.step fewer going

    is_instr : instr_at t j ≡ Some i
    is_instr = instr_is f now s j at i n on.step fewer going

    gate_ways : (w : Ways) × (slice_get now.ways.items j ≡ Some w) × (gate_of (length now.caches.exits.from) w ≡ on.gate)
    gate_ways = gate_at (length now.caches.exits.from) now.ways.items j on.gate (omega (arith, here_is.0, ways_long f now s))
        (subst (λ (l : List Gate). slice_get l j ≡ Some on.gate) (gates_so f now s) on.gate_is)

    abbrev w : Ways
    w = gate_ways.0

    are : AreWays t v now.caches.exits j w
    are = ways_now f now s j w gate_ways.1

    on_next : is_some n.ending ≡ false
    on_next = ap (λ (o : Option End). is_some o) (on.step.ending ∙ going)

    base_end : t.base + 4 * length t.words ≤ 2 ^ 32
    base_end = g.sized.end

    words_long : length now.gates.items ≡ length t.words + 1
    words_long = ap (λ (l : List Gate). length l) (gates_so f now s) ∙ gates_long (length now.caches.exits.from) now.ways.items ∙ ap (λ (m : ℕ). m + 1) (ways_long f now s)

    pc_small : n.pc < 2 ^ 32
    pc_small = omega (arith, on.at.pc)

    -- to the next word
    gate_plain : Onward i on.gate.ends f.machine.regs paid → (w.last ≡ false) × (w.left.words ≡ 1)
    gate_plain o = elim o.own [
      | inl none ↦ (
          let p = place_of_word v j in
          let no_exit : own_exit t v j p ≡ None = ap (λ (x : Option Instr). own_if v p (jump_of x (address_of t j))) is_instr ∙ ap (own_if v p) (none (address_of t j)) in
          let no_number : w.own ≡ None = subst (λ (x : Option Exit). HasNumber now.caches.exits x w.own) no_exit (are.own p (some_place t v j g here_is.0)) in
          passes_by w.last w.left.words (sym (ap (λ (x : Option ℕ). (gate_by (length now.caches.exits.from) w.last w.left.words x).stops) no_number) ∙ ap (λ (q : Gate). q.stops) gate_ways.2 ∙ on.on))
      | inr branch ↦ (
        sym (gate_ends (length now.caches.exits.from) w.left.words w.last w.own) ∙ ap (λ (q : Gate). q.ends) gate_ways.2 ∙ branch.0,
        ap (λ (l : Leaving). l.words) (are.left ∙ ap (λ (x : Option Instr). untaken_by x (address_of t j)) is_instr) ∙ branch.1 (address_of t j),
      )
    ]

    onward_follows : Onward i on.gate.ends f.machine.regs paid → Follows t v f.machine n now (track_at now (suc j) (1 + paid))
    onward_follows o =
        let gate = gate_plain o in
        let untaken : own_left ≡ untaken_by (Some i) f.machine.pc = left_is i f.machine.regs f.machine.pc ∙ ap (λ (b : Bool). if b then branch_by true else untaken_by (Some i) f.machine.pc) o.taken in
        let same_left : w.left ≡ own_left = are.left ∙ ap (λ (x : Option Instr). untaken_by x (address_of t j)) is_instr ∙ ap (untaken_by (Some i)) (sym here_is.1) ∙ sym untaken in
        let way_is : own_left.way ≡ way.Next = ap (λ (l : Leaving). l.way) untaken ∙ o.next f.machine.pc in
        let words_is : own_left.words ≡ 1 = ap (λ (l : Leaving). l.words) (sym same_left) ∙ gate.1 in
        let l : Leaving = record { words = 1; way = way.Next } in
        let l_is : l ≡ own_left = ap (λ (n : ℕ). let q : Leaving = record { words = n; way = way.Next } in q) (sym words_is) ∙ ap (λ (y : Way). let q : Leaving = record { words = own_left.words; way = y } in q) (sym way_is) in
        call_on t v f.machine n f.failed now (track_at now (suc j) (1 + paid)) j l w n.pc g here_is.0
        (stepped f now s j at i n on.step fewer going l l_is) are refl refl
        (omega (arith, o.none)) refl (ap (λ (b : Bool). if b then here.Behind j else here.At (suc j)) (sym gate.0)) refl pc_small on_next refl (λ m h. all_serving v now.caches m h) refl

    -- over an exit that is a link in all caches
    over_follows : Over i (is_open now.caches.masks all on.gate.exit) f.machine.regs f.machine.pc paid → jumps i f.machine.regs ≡ true → Follows t v f.machine n now (track_at now next (1 + paid))
    over_follows o jumped =
        let out = opens (length now.caches.exits.from) w.left.words all w.last now.caches.masks w.own masks (ap (λ (q : Gate). is_open now.caches.masks all q.exit) gate_ways.2 ∙ o.gate) in
        let p = place_of_word v j in
        let number : HasNumber now.caches.exits (own_exit t v j p) (Some out.0) = subst (λ (x : Option ℕ). HasNumber now.caches.exits (own_exit t v j p) x) out.1 (are.own p (some_place t v j g here_is.0)) in
        let aligned : (rd off : ℕ) → i ≡ instr.Jal rd off → sum f.machine.pc off % 4 ≡ 0 = λ rd off is. (
        let jal : own_exit t v j p ≡ exit_to v (p.0, p.1 + (if rd == 0 then 0 else 2)) (sum (address_of t j) off) = ap (λ (x : Option Instr). own_if v p (jump_of x (address_of t j))) (is_instr ∙ ap (λ (y : Instr). Some y) is) in
        let there = number_placed v now.caches.exits (p.0, p.1 + (if rd == 0 then 0 else 2)) (sum (address_of t j) off) out.0 (subst (λ (x : Option Exit). HasNumber now.caches.exits x (Some out.0)) jal number) in
        ap (λ (a : ℕ). sum a off % 4) here_is.1 ∙ g.carries.aligned (sum (address_of t j) off) there.0.0 there.0.1 there.1) in
        let l : Leaving = record { words = 1 + paid; way = way.Over } in
        let lt : next < length t.words = omega (arith, on.lands jumped, words_long) in
        call_on t v f.machine n f.failed now (track_at now next (1 + paid)) j l w n.pc g here_is.0
        (stepped f now s j at i n on.step fewer going l (sym (o.left aligned))) are refl refl (omega arith) refl
        (lt, on.at.pc ∙ address_small t.base (length t.words) next base_end lt) refl pc_small on_next
        (λ q numbered. cross_one v now.caches now.caches out.0 q n.pc (λ b there. all_linked v now.caches out.0 (suc (2 * f.machine.steps + 1)) (s.settles.moves.serving (2 * f.machine.steps + 1) s.running.tracks.serving) out.2 (λ c inside. ap (λ (m : ℕ). has m c) out.3 ∙ every c inside) b) (subst (λ (x : Option ℕ). HasNumber now.caches.exits (exit_to v q n.pc) x) out.1 numbered))
        (λ m h. all_serving v now.caches m h) refl

    runs_at : (m more : ℕ) → Follows t v f.machine n now (track_at now m more) → Running t v limit first k (unfailed n) (track_at now m more) d e
    runs_at m more follows = running_so f now s j at i n on.step fewer going own_left refl (track_at now m more) follows

    pub runs_on : Running t v limit first k (unfailed n) (track_at now next (1 + paid)) d e
    runs_on = elim (cases_Bool (jumps i f.machine.regs)) [
      | inl jumped ↦ runs_at next (1 + paid) (over_follows (over_case i on.gate.ends (is_open now.caches.masks all on.gate.exit) f.machine.regs f.machine.pc paid on.toll_is jumped) jumped)
      | inr straight ↦ (
          let follows = onward_follows (onward_case i on.gate.ends (is_open now.caches.masks all on.gate.exit) f.machine.regs paid on.toll_is straight) in
          let there : StandsAt t n.pc (here.At (suc j)) = follows.stands (on.step.ending ∙ going) in
          let within : next ≤ length t.words = omega (arith, on.at.within, words_long) in
          let same : suc j ≡ next = sym (next_index t.base (length t.words) (suc j) next base_end (omega arith) there.0 within (sym on.at.pc ∙ there.1)) in
          subst (λ (m : ℕ). Running t v limit first k (unfailed n) (track_at now m (1 + paid)) d e) same (runs_at (suc j) (1 + paid) follows))
    ]

  -- where a run stands at a text word the exit behind a block isn't made
  standing_at : (f : FlatData) (now : Track) (j : ℕ) → now.here ≡ here.At j → f.machine.ending ≡ None → f.machine.pc < 2 ^ 32 → Running t v limit first k f now d e → Standing t v limit first k f now d e
  standing_at f now j at going small r = record {
    before = now;
    running = r;
    settles = settled_same t v f.machine f.machine.pc now g
        (subst (λ (h : Here). StandsAt t f.machine.pc h) (sym at) (subst (λ (h : Here). Stands t v f.machine.pc h) at (r.stands going))) small refl;
  }

  -- ---- many of them

  module _ (f : FlatData) (now : Track) (s : Standing t v limit first k f now d e) (begin all : ℕ) (at : now.here ≡ here.At begin) (going : f.machine.ending ≡ None)
      (every : (c : ℕ) → c < length now.caches.caches → has all c ≡ true) (masks : length now.caches.masks ≡ length now.caches.exits.from) where
    flat_is : f ≡ unfailed f.machine
    flat_is = ap (λ (b : Bool). let q : FlatData = record { machine = f.machine; failed = b } in q) s.running.going.unfailed_is

    first_is : (j more : ℕ) → j ≡ begin → more ≡ 0 → now ≡ track_at now j more
    first_is j more here_is none =
        let same : now.fetches ≡ now.fetches + more = omega (arith, none) in
        ap (λ (h : Here). let q : Track = record now { here = h } in q) (at ∙ ap here.At (sym here_is)) ∙ ap (λ (n : ℕ). at_total now j n) same

    begin_glided : (j more : ℕ) (o : Machine) → j ≡ begin → o ≡ f.machine → more ≡ 0 → Glided t v limit first k d e f now 0 j more o
    begin_glided j more o here_is same none = record {
      standing = subst (λ (q : FlatData). Standing t v limit first k q (track_at now j more) d e) (flat_is ∙ ap (λ (m : Machine). unfailed m) (sym same))
          (subst (λ (q : Track). Standing t v limit first k f q d e) (first_is j more here_is none) s);
      running = λ some. absurd (omega (arith, some));
      steps = ap (λ (m : Machine). m.steps) same ∙ omega arith;
      going = ap (λ (m : Machine). m.ending) same ∙ going;
    }

    pub glides : (m j paid : ℕ) (o : Machine) → flat.Coasts (gates_by t.base now all) begin f.machine m j o paid → f.machine.steps + m ≤ limit → Glided t v limit first k d e f now m j (m + paid) o
    glides zero j paid o (here_is, same, none) within = begin_glided j (0 + paid) o here_is same (omega (arith, none))
    glides (suc m) j paid o (h, before, p, q, coasts, on, paid_is) within =
        let so : Glided t v limit first k d e f now m h (m + p) before = glides m h p before coasts (omega (arith, within)) in
        let fewer : before.steps < limit = omega (arith, so.steps, within) in
        let run = runs_on (unfailed before) (track_at now h (m + p)) so.standing h refl all o j q every masks on fewer so.going in
        let total : now.fetches + (m + p) + (1 + q) ≡ now.fetches + (suc m + paid) = omega (arith, paid_is) in
        let there : Running t v limit first k (unfailed o) (track_at now j (suc m + paid)) d e = subst (λ (n : ℕ). Running t v limit first k (unfailed o) (at_total now j n) d e) total run in
        let ends : o.ending ≡ None = on.step.ending ∙ so.going in
        record {
          standing = standing_at (unfailed o) (track_at now j (suc m + paid)) j refl ends (omega (arith, on.at.pc)) there;
          running = λ some. there;
          steps = omega (arith, on.step.counted, so.steps);
          going = ends;
        }

-- where steps begin at a text word, the run stands at it
pub begins_here : (t : TextData) (pc begin : ℕ) (h : Here) → IsSized t → begin < length t.words → pc ≡ sum_of t.base (4 * begin) → StandsAt t pc h → h ≡ here.At begin
begins_here t pc begin (here.At j) sized lt at stands =
    let end : t.base + 4 * length t.words ≤ 2 ^ 32 = sized.end in
    ap here.At (same_index t.base j begin (sym stands.1 ∙ at ∙ address_small t.base (length t.words) begin end lt))
begins_here t pc begin (here.Behind j) sized lt at stands = absurd stands
begins_here t pc begin here.Outside sized lt at stands =
    let end : t.base + 4 * length t.words ≤ 2 ^ 32 = sized.end in
    absurd (nothing (sym stands ∙ ap (word_of t) (at ∙ address_small t.base (length t.words) begin end lt) ∙ word_here t begin sized lt))
  where
    nothing : {w : ℕ} → None ≡ Some w → ⊥
    nothing e = cc

-- ---- the calls of the run, as their code meets them

some_at : (ws : List Ways) (j : ℕ) → j < length ws → (w : Ways) × (slice_get ws j ≡ Some w)
some_at [] j lt = absurd (omega (arith, lt))
some_at (w ∷ ws) zero lt = (w, refl)
some_at (w ∷ ws) (suc j) lt = some_at ws j (omega (arith, lt))

module _ {t : TextData} {v : ImageData} {limit : ℕ} {first : FlatData} {k : Track} {d e : Devices} (g : Ground t v) (f new : FlatData) (now : Track) (c : Coasted) (s : Standing t v limit first k f now d e) (going : f.machine.ending ≡ None)
    (within : new.machine.steps ≤ limit) (failed : new.failed ≡ f.failed) (h : Coasts t.base now f.machine new.machine c) where
  abbrev by : HasCoasted (gates_by t.base now h.all) f.machine new.machine c
  by = h.coasted

  gates_words : length now.gates.items ≡ length t.words + 1
  gates_words = ap (λ (l : List Gate). length l) (gates_so g f now s) ∙ gates_long (length now.caches.exits.from) now.ways.items ∙ ap (λ (m : ℕ). m + 1) (ways_long g f now s)

  here_first : now.here ≡ here.At by.first
  here_first = begins_here t f.machine.pc by.first now.here g.sized (omega (arith, by.inside, gates_words)) by.begins.pc s.settles.stands

  steps_few : (last : Option Bool) → Closes last by.before new.machine → by.before.steps ≤ new.machine.steps
  steps_few None same = omega (arith, ap (λ (m : Machine). m.steps) same)
  steps_few (Some taken) closes = omega (arith, closes.1.counted)

  coasts_steps : (m j paid : ℕ) (o : Machine) → flat.Coasts (gates_by t.base now h.all) by.first f.machine m j o paid → o.steps ≡ f.machine.steps + m
  coasts_steps zero j paid o (here_is, same, none) = ap (λ (q : Machine). q.steps) same ∙ omega arith
  coasts_steps (suc m) j paid o (i, before, p, q, coasts, on, paid_is) = omega (arith, on.step.counted, coasts_steps m i p before coasts)

  pub so_far : Glided t v limit first k d e f now c.steps c.at (c.steps + c.paid) by.before
  so_far = glides g f now s by.first h.all here_first going h.every h.masks c.steps c.at c.paid by.before by.coasts
      (omega (arith, steps_few c.last by.closes, within, coasts_steps c.steps c.at c.paid by.before by.coasts))

  pub passed_word : c.at < length t.words
  passed_word = so_far.standing.settles.stands.0

  pub passed_ready : limit ≤ 2 ^ 48 → IsReady t v (passed now c)
  passed_ready small =
      let few : by.before.steps ≤ 2 ^ 48 = omega (arith, steps_few c.last by.closes, within, small) in
      settled_ready t v by.before by.before.steps so_far.standing.before (passed now c) so_far.standing.settles so_far.standing.running.tracks few

  new_is : new ≡ unfailed new.machine
  new_is = ap (λ (b : Bool). let q : FlatData = record { machine = new.machine; failed = b } in q) (failed ∙ s.running.going.unfailed_is)

  -- no more was made
  pub passed_all : c.last ≡ None → 0 < c.steps → Running t v limit first k new (passed now c) d e
  passed_all none some =
      let same : new.machine ≡ by.before = subst (λ (o : Option Bool). Closes o by.before new.machine) none by.closes in
      subst (λ (q : FlatData). Running t v limit first k q (passed now c) d e) (sym (new_is ∙ ap (λ (m : Machine). unfailed m) same)) (so_far.running some)

  -- one more was
  module _ (taken : Bool) (is : c.last ≡ Some taken) (w : Ways) (read : slice_get now.ways.items c.at ≡ Some w) where
    closes : (i : Instr) × StepsOn i by.before new.machine × (taken ≡ is_taken_branch i by.before.regs)
    closes = subst (λ (o : Option Bool). Closes o by.before new.machine) is by.closes

    last_left : (if taken then branch_by true else w.left) ≡ leaving_by (Some closes.0) by.before.regs by.before.pc
    last_left =
        let stands : StandsAt t by.before.pc (here.At c.at) = so_far.standing.settles.stands in
        let are : AreWays t v now.caches.exits c.at w = ways_now g (unfailed by.before) (passed now c) so_far.standing c.at w read in
        let instr : instr_at t c.at ≡ Some closes.0 = instr_is g (unfailed by.before) (passed now c) so_far.standing c.at refl closes.0 new.machine closes.1 fewer so_far.going in
        ap (λ (l : Leaving). if taken then branch_by true else l) (are.left ∙ ap (λ (x : Option Instr). untaken_by x (address_of t c.at)) instr ∙ ap (untaken_by (Some closes.0)) (sym stands.1))
        ∙ ap (λ (b : Bool). if b then branch_by true else untaken_by (Some closes.0) by.before.pc) closes.2 ∙ sym (left_is closes.0 by.before.regs by.before.pc)
      where
        fewer : by.before.steps < limit
        fewer = omega (arith, closes.1.counted, within)

    more : by.before.steps < limit
    more = omega (arith, closes.1.counted, within)

    pub last_step : IsStep t by.before false (here.At c.at) (closing c.at w taken) new.machine
    last_step = stepped g (unfailed by.before) (passed now c) so_far.standing c.at refl closes.0 new.machine closes.1 more so_far.going (if taken then branch_by true else w.left) last_left

    pub last_on : is_some new.machine.ending ≡ false
    last_on = ap (λ (o : Option End). is_some o) (closes.1.ending ∙ so_far.going)

    pub passed_on : (after : Track) → Follows t v by.before new.machine (passed now c) after → Running t v limit first k new after d e
    passed_on after follows =
        subst (λ (q : FlatData). Running t v limit first k q after d e) (sym new_is)
        (running_so g (unfailed by.before) (passed now c) so_far.standing c.at refl closes.0 new.machine closes.1 more so_far.going (if taken then branch_by true else w.left) last_left after follows)

  -- the run behind them
  module _ (some : c.last ≡ None → 0 < c.steps) where
    more_by : (o : Option Bool) → c.last ≡ o → Closes o by.before new.machine → f.machine.steps < new.machine.steps
    more_by None is same = omega (arith, some is, so_far.steps, ap (λ (m : Machine). m.steps) same)
    more_by (Some taken) is closes = omega (arith, closes.1.counted, so_far.steps)

    pub passed_more : f.machine.steps < new.machine.steps
    passed_more = more_by c.last refl by.closes

    pub passed_run : (after : Track) → (c.last ≡ None → after ≡ passed now c) →
        ((taken : Bool) (w : Ways) → c.last ≡ Some taken → slice_get now.ways.items c.at ≡ Some w → IsStep t by.before false (here.At c.at) (closing c.at w taken) new.machine → is_some new.machine.ending ≡ false →
        Follows t v by.before new.machine (passed now c) after) → Running t v limit first k new after d e
    passed_run after none_so follows = run_by c.last refl
      where
        run_by : (o : Option Bool) → c.last ≡ o → Running t v limit first k new after d e
        run_by None is = subst (λ (q : Track). Running t v limit first k new q d e) (sym (none_so is)) (passed_all is (some is))
        run_by (Some taken) is =
            let r = some_at now.ways.items c.at (omega (arith, passed_word, ways_long g f now s)) in
            passed_on taken is r.0 r.1 after (follows taken r.0 is r.1 (last_step taken is r.0 r.1) (last_on taken is r.0 r.1))
