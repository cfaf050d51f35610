-- Whole runs, one machine instruction after the other.
use Rattle.std.proofs.Common.{◌≡◌, ℕ, suc, ◌+◌, ◌-◌, ◌*◌, ◌^◌, ◌<◌, ◌≤◌, ◌&&◌, Bool, is_some, if◌then◌else◌, Option, Some, None, List, refl, sym, ap, subst, ◌∙◌, inl, inr, arith}
use Rattle.std.proofs.lemmas.Bool.{cases_lt}
use Rattle.swi_calls.specs.declared.end.End.{End}
use Rattle.swi_calls.specs.declared.machine.Machine.{Machine}
use Rattle.swi_image.specs.Format.{ImageData}
use Rattle.swi_outside.specs.CacheRam.{RamState}
use Rattle.swi_outside.specs.Causes.{risen}
use Rattle.swi_rom.specs.Record.{Record, Transfer, Placed, writes}
use Rattle.swi_hart.specs.declared.hart.Control.{Control}
use Rattle.swi_hart.specs.declared.hart.Control.TheVariants.{At, Outside}
use Rattle.swi_hart.specs.Hart.{HartData}
use Rattle.swi_hart.specs.Matching.{Fits}
use Rattle.swi_hart.specs.Calling.{Made}
use Rattle.swi_hart.specs.Leaving.{transfer_at, moved, RamStepped}
use Rattle.swi_hart.specs.Bounds.{depth, is_outside, most, most_by, Grown}
use Rattle.swi_hart.proofs.Growing.{depth_most, calls_most}
use Rattle.swi_hart.proofs.Grown.{moved_rises}
use Rattle.swi_board.specs.Moments.{GoesOn, Moment, Policy, events}
use Rattle.swi_board.specs.Ran.{RamRan}
use Rattle.swi_board.specs.Runs.{fetched_by, unfetched, weight}
use Rattle.swi_board.specs.Tracking.{Came, Course, Point, Running, Stays, Tracks}
use Rattle.swi_board.proofs.Held.{same_steps}
use Rattle.swi_board.proofs.Fetching.{HoldsUnder}
use Rattle.swi_board.proofs.Tracks.{ram_on, step_tracks}
pub use Rattle.swi_board.proofs.Tracks.{kept_both}

-- ---- so many machine instructions

pub came_none : (by : Policy) (span : ℕ) (v : ImageData) (n : ℕ) (old : Point) → Came by span v n 0 old old
unfolding events
came_none by span v n old = record { tracks = λ s from at. at; going = λ s from at j lt. absurd (omega (arith, lt)) }

-- the run goes on where the hart does
pub goes_with : (span : ℕ) (v : ImageData) (n : ℕ) (s : Moment) (from now : Point) → Tracks span v s from now → now.hart.machine.ending ≡ None → now.hart.machine.steps < n → GoesOn n s
goes_with span v n s from now at running more =
    let same = same_steps v now.kept s.flat.machine now.hart.machine now.hart.control at.matches in
    (sym same.1 ∙ running, subst (λ (k : ℕ). k < n) same.0 more)

-- one more
pub came_on : (by : Policy) (span : ℕ) (v : ImageData) (n made : ℕ) (old now next : Point) → Came by span v n made old now → now.hart.machine.steps < n → now.hart.machine.ending ≡ None → now.hart.machine.pc < 2 ^ 32 →
    ((c f g : ℕ) → Placed now.kept c f → Placed now.kept c g → f ≡ g) → HoldsUnder v now.kept now.ram.words now.hart.control → next.kept ≡ moved by now.kept v (transfer_at v now.hart.machine now.hart.control) →
    ((l : List ℕ) → now.left ≡ Some l → Made v next.kept now.hart next.hart l next.left now.out next.out now.err next.err) →
    RamStepped span (writes next.kept - writes now.kept) now.hart.control now.ram next.ram → Came by span v n (suc made) old next
unfolding events
came_on by span v n made old now next was more running word once held moves step ram = record {
  tracks = λ s from at.
      let mid = was.tracks s from at in
      step_tracks by span v (events by v made s) from now next mid running word once held moves (step (events by v made s).flat.input mid.input) ram;
  going = λ s from at j lt. elim (cases_lt j made) [
    | inl less ↦ was.going s from at j less
    | inr least ↦ (
        let same : made ≡ j = omega (arith, lt, least) in
        subst (λ (i : ℕ). GoesOn n (events by v i s)) same (goes_with span v n (events by v made s) from now (was.tracks s from at) running more))
  ];
}

abbrev pub point : HartData → Record → RamState → Option (List ℕ) → Option (List ℕ) → Option (List ℕ) → Point
point h r ram left out err = record { hart = h; kept = r; ram = ram; left = left; out = out; err = err }

pub stays_none : {run : Course} → Fits run.image run.from.kept run.from.hart → run.from.hart.machine.steps ≤ run.limit → Stays run run.from
stays_none {run} fits le = record {
  steps = le;
  fits = fits;
  failed = refl;
  booted = refl;
  later = omega arith;
  count = omega arith;
  calls = λ on. omega arith;
  rises = λ measure law. omega arith;
  ram = subst (λ (n : ℕ). RamRan run.span n (writes run.from.kept - writes run.from.kept) run.from.ram run.from.ram) (sym (fetched_none (unfetched run.from.hart)))
      (record { quiet = refl; fetches = none_more run.from.ram.fetches; sets = none_set run.from.ram.sets (writes run.from.kept); kept = record { same_length = refl; beyond = λ i least. refl; reached = grind arith } });
}
  where
    fetched_none : (u : ℕ) → run.from.hart.count - run.from.hart.count - u ≡ 0
    fetched_none u = omega arith

    none_more : (a : ℕ) → a ≡ risen a 0
    none_more a = grind arith

    none_set : (a w : ℕ) → a ≡ risen a (w - w)
    none_set a w = grind arith

pub most_running : (v : ImageData) (m : Machine) (c : Control) → m.ending ≡ None → most v m c ≡ 3 * m.steps + depth v m c
most_running v m c e = ap (λ (k : Option End). most_by k v m c) e

-- the loop's measure falls
pub falls : {v : ImageData} {n : ℕ} {r new : Record} {h h' : HartData} → h.machine.steps < n → h.machine.ending ≡ None → Grown v r new h h' →
    3 * n + 5 - most v h'.machine h'.control < 3 * n + 5 - most v h.machine h.control
falls {v} {n} {r} {new} {h} {h'} more running grown =
    let m = most_running v h.machine h.control running in
    let d = depth_most v h.machine h.control in
    let g = grown.most in
    omega arith

-- what no transfer makes less is no less behind a step
pub no_less : (policy : Policy) (v : ImageData) (r new : Record) (m : Machine) (c : Control) → new ≡ moved policy r v (transfer_at v m c) → (measure : Record → ℕ) →
    ((r : Record) (v : ImageData) (t : Transfer) → measure r ≤ measure (policy r v t)) → measure r ≤ measure new
no_less policy v r new m c moves measure grows = moved_rises measure policy grows r new v (transfer_at v m c) moves

-- one machine step more is one fetch more, but outside the text
fetched_one : (h0 h h' : HartData) → h0.count ≤ h.count → h.machine.ending ≡ None → h'.count ≡ h.count + 1 → (is_some h'.machine.ending && is_outside h'.control) ≡ is_outside h.control → fetched_by h0 h' ≡ fetched_by h0 h + weight 0 h.control
fetched_one h0 h h' later running one outside =
    by h.control (unfetched h) (ap (λ (e : Option End). if is_some e && is_outside h.control then 1 else 0) running)
    (unfetched h') (ap (λ (t : Bool). if t then 1 else 0) outside)
  where
    by : (c : Control) (u : ℕ) → u ≡ 0 → (u' : ℕ) → u' ≡ (if is_outside c then 1 else 0) → h'.count - h0.count - u' ≡ h.count - h0.count - u + weight 0 c
    by (At i b o stage) u none u' is = omega (arith, later, one)
    by Outside u none u' is = omega (arith, later, one)

sum_less : (a b c : ℕ) → a ≤ b → b ≤ c → b - a + (c - b) ≡ c - a
sum_less a b c p q = omega arith

module _ {run : Course} {now : Point} (so_far : Stays run now) (more : now.hart.machine.steps < run.limit) (running : now.hart.machine.ending ≡ None) where
  pub count_small : run.limit ≤ 2 ^ 48 → run.from.hart.count ≤ 2 ^ 55 → now.hart.count < 2 ^ 56
  count_small small le =
      let m = most_running run.image now.hart.machine now.hart.control running in
      let d = depth_most run.image now.hart.machine now.hart.control in
      let c = so_far.count in
      omega arith

  pub calls_small : run.limit ≤ 2 ^ 48 → run.from.kept.counts.services ≤ 2 ^ 49 → now.kept.counts.services < 2 ^ 50
  calls_small small le =
      let c = so_far.calls running in
      let k = calls_most (depth run.image now.hart.machine now.hart.control) in
      omega arith

  pub stays_on : {next : Point} → ((r : Record) (v : ImageData) (t : Transfer) → writes r ≤ writes (run.policy r v t)) →
      RamStepped run.span (writes next.kept - writes now.kept) now.hart.control now.ram next.ram →
      Fits run.image next.kept next.hart → Grown run.image now.kept next.kept now.hart next.hart →
      next.kept ≡ moved run.policy now.kept run.image (transfer_at run.image now.hart.machine now.hart.control) → Stays run next
  stays_on {next} writing stepped fits grown moves = record {
    steps = let g = grown.one in omega (arith, g, more);
    fits = fits;
    failed = grown.failed ∙ so_far.failed;
    booted = grown.booted ∙ so_far.booted;
    later = let g = grown.count in let l = so_far.later in omega (arith, g, l);
    count =
        let m = most_running run.image now.hart.machine now.hart.control running in
        let g = grown.most in
        let k = grown.count in
        let c = so_far.count in
        omega (arith, m, g, k, c);
    calls = λ e. (let g = grown.calls e in let c = so_far.calls running in omega (arith, g, c));
    rises = λ measure law.
        let before = so_far.rises measure law in
        let up = no_less run.policy run.image now.kept next.kept now.hart.machine now.hart.control moves measure law in
        omega (arith, before, up);
    ram = subst (λ k. RamRan run.span k (writes next.kept - writes run.from.kept) run.from.ram next.ram)
        (sym (fetched_one run.from.hart now.hart next.hart so_far.later running grown.count grown.outside))
        (subst (λ k. RamRan run.span (fetched_by run.from.hart now.hart + weight 0 now.hart.control) k run.from.ram next.ram)
        (sum_less (writes run.from.kept) (writes now.kept) (writes next.kept) (so_far.rises (λ r. writes r) writing) (no_less run.policy run.image now.kept next.kept now.hart.machine now.hart.control moves (λ r. writes r) writing))
        (ram_on run.span (fetched_by run.from.hart now.hart) (writes now.kept - writes run.from.kept) (weight 0 now.hart.control) (writes next.kept - writes now.kept) now.hart.control
        run.from.ram now.ram next.ram refl so_far.ram stepped));
  }
