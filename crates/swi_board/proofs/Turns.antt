-- The loop of steps out of a steady ram: what each of its arms leaves.
use Rattle.std.proofs.Common.{◌≡◌, ℕ, ◌+◌, ◌-◌, ◌^◌, ◌<◌, ◌≤◌, max, List, ◌∷◌, ◌++◌, length, reverse, slice_index, Option, None, refl, sym, ap, subst, ◌∙◌, arith}
use Rattle.swi_outside.specs.Causes.{risen}
use Rattle.swi_outside.specs.CacheRam.{RamState, fetch, with_fetch}
use Rattle.swi_exec.specs.Arithmetic.{sum_of}
use Rattle.swi_calls.specs.declared.end.End.{End}
use Rattle.swi_image.specs.Format.{ImageData}
use Rattle.swi_rom.specs.Record.{Record, Transfer}
use Rattle.swi_rom.specs.Rams.{risen_more}
use Rattle.swi_rom.specs.Served.{SameFrom}
use Rattle.swi_rom.specs.Service.{IsService, ServiceOf, Setting}
use Rattle.swi_hart.specs.Hart.{HartData}
use Rattle.swi_hart.specs.Leaving.{RamServed}
use Rattle.swi_hart.specs.Service.{ServiceWithRam}
use Rattle.swi_board.specs.Advancing.{ServiceStays, StandsInRow, Underway, course_from, with_board}
use Rattle.swi_board.specs.Fetching.{fetches_from}
use Rattle.swi_board.specs.Reached.{Reached}
use Rattle.swi_board.specs.Tracking.{Point, Running}
use Rattle.swi_board.specs.Turning.{Stood, StoodAt, Turn, Turned, Within, board_at, service_at}
use Rattle.swi_hart.specs.declared.hart.Stage.TheVariants.{Start}
use Rattle.swi_hart.specs.declared.hart.Control.{Control}
use Rattle.swi_hart.specs.declared.hart.Control.TheVariants.{At}
use Rattle.swi_hart.specs.Matching.{Fits, StandsBy}
use Rattle.swi_board.proofs.Running.{calls_small, count_small}
use Rattle.swi_board.proofs.Strides.{Laws, RamStrode, Stride, runs_stride}

-- ---- services

pub laws_of : {S : Type 0} {k : ServiceOf S} → IsService k → (by : Setting) → Laws (k.policy by)
laws_of {S} {k} laws by = record {
  linked = λ r v b o t is. laws.link_stays by r v b o t is;
  one = λ r v t. laws.one_service by r v t;
  written = λ r v t. laws.writes_rise by r v t;
}

module _ {S : Type 0} {k : ServiceOf S} {v : ImageData} where
  pub stays_none : {s : ServiceWithRam S} → k.sound s.rom v s.ram.words → ServiceStays k v s s
  stays_none {s} sound = record { setting = refl; sound = (sound, λ images serves. serves); grows = omega arith; unused = λ i le. refl }

  pub stays_more : {a b c : ServiceWithRam S} → ServiceStays k v a b → ServiceStays k v b c → ServiceStays k v a c
  stays_more {a} {b} {c} one two =
      let grows = subst (λ (by : Setting). k.extent by (k.kept b.rom) ≤ k.extent by (k.kept c.rom)) one.setting two.grows in
      let unused = subst (λ (by : Setting). SameFrom (k.extent by (k.kept c.rom)) b.ram.words c.ram.words) one.setting two.unused in
      record {
        setting = two.setting ∙ one.setting;
        sound = (two.sound.0, λ images serves. two.sound.1 images (one.sound.1 images serves));
        grows = (let g = one.grows in omega (arith, g, grows));
        unused = λ i le. unused i le ∙ one.unused i (omega (arith, le, grows));
      }

  -- a fetch changes no word
  pub stays_fetched : {s : ServiceWithRam S} {ram : RamState} → k.sound s.rom v s.ram.words → ram.words ≡ s.ram.words → ServiceStays k v s (record { rom = s.rom; ram = ram })
  stays_fetched {s} {ram} sound same = record {
    setting = refl;
    sound = (subst (λ (l : List ℕ). k.sound s.rom v l) (sym same) sound, λ images serves. subst (λ (l : List ℕ). k.serves s.rom v images l) (sym same) serves);
    grows = omega arith;
    unused = λ i le. ap (λ (l : List ℕ). slice_index l i) same;
  }

  pub stays_reached : {t : Transfer} {old new : ServiceWithRam S} {index : ℕ} → IsService k → Reached k v t old new index → ServiceStays k v old new
  stays_reached {t} {old} {new} {index} laws r =
      let up = laws.extent_rises (k.setting old.rom) (k.kept old.rom) v t in
      let is = ap (λ (x : Record). k.extent (k.setting old.rom) x) r.served.policy in
      record { setting = r.served.setting; sound = r.served.sound; grows = omega (arith, up, is); unused = r.served.unused }

-- ---- rams

-- so many words were fetched from an index on, and nothing else was done
pub record FetchedRow (n index : ℕ) (before after : RamState) : Type 0 where
  pub words : after.words ≡ before.words
  pub quiet : after.faults ≡ before.faults
  pub fetches : after.fetches ≡ risen before.fetches n
  pub fetched_at : after.fetched_at ≡ reverse (fetches_from (λ j. slice_index before.words j) index n before.sets) ++ before.fetched_at
  pub sets : after.sets ≡ before.sets
  pub reach : after.reach ≤ max before.reach (index + n)

reach_more : (r n m : ℕ) → n ≤ m → max r n ≤ max r m
reach_more r n m le = grind arith

pub fetched_one : (i : ℕ) (a : RamState) → FetchedRow 1 i a (with_fetch a i)
fetched_one i a = record { words = refl; quiet = refl; fetches = refl; fetched_at = refl; sets = refl; reach = omega arith }

two_reach : (r i : ℕ) → max (max r (i + 1)) (i + 1 + 1) ≤ max r (i + 2)
two_reach r i = grind arith

pub fetched_two : (i j : ℕ) (a : RamState) → j ≡ i + 1 → FetchedRow 2 i a (with_fetch (with_fetch a i) j)
fetched_two i j a is = subst (λ (n : ℕ). FetchedRow 2 i a (with_fetch (with_fetch a i) n)) (sym is)
    (record { words = refl; quiet = refl; fetches = risen_more a.fetches 1 1; fetched_at = refl; sets = refl; reach = two_reach a.reach i })

three_reach : (r i : ℕ) → max (max (max r (i + 1)) (i + 1 + 1)) (i + 2 + 1) ≤ max r (i + 3)
three_reach r i = grind arith

pub fetched_three : (i j m : ℕ) (a : RamState) → j ≡ i + 1 → m ≡ i + 2 → FetchedRow 3 i a (with_fetch (with_fetch (with_fetch a i) j) m)
fetched_three i j m a is two =
    let third : i + 1 + 1 ≡ i + 2 = omega arith in
    subst (λ (n : ℕ). FetchedRow 3 i a (with_fetch (with_fetch (with_fetch a i) n) m)) (sym is)
    (subst (λ (n : ℕ). FetchedRow 3 i a (with_fetch (with_fetch (with_fetch a i) (i + 1)) n)) (sym two)
    (record {
      words = refl;
      quiet = refl;
      fetches = ap (λ (n : ℕ). risen n 1) (risen_more a.fetches 1 1) ∙ risen_more a.fetches 2 1;
      fetched_at = ap (λ (n : ℕ). fetch n a.sets (slice_index a.words n) ∷ fetch (i + 1) a.sets (slice_index a.words (i + 1)) ∷ fetch i a.sets (slice_index a.words i) ∷ a.fetched_at) (sym third);
      sets = refl;
      reach = three_reach a.reach i;
    }))

-- words that are fetched, and then a call of the service
pub strode : (span n more index : ℕ) (a b c : RamState) → index + n ≤ span → FetchedRow n index a b → RamServed span more b c → RamStrode span n more index a c
strode span n more index a b c inside row served = record {
  quiet = served.quiet ∙ row.quiet;
  fetches = served.fetches_stay ∙ row.fetches;
  fetched_at = served.fetched_at_stays ∙ row.fetched_at;
  sets = served.sets_rise ∙ ap (λ (x : ℕ). risen x more) row.sets;
  kept = record {
    same_length = served.kept.same_length ∙ ap (λ (l : List ℕ). length l) row.words;
    beyond = λ i le. served.kept.beyond i le ∙ ap (λ (l : List ℕ). slice_index l i) row.words;
    reached = (let first = row.reach in let then_on = served.kept.reached in reached_by a.reach b.reach c.reach first then_on);
  };
}
  where
    reached_by : (p q s : ℕ) → q ≤ max p (index + n) → s ≤ max q span → s ≤ max p span
    reached_by p q s x y = grind (arith, inside)

-- ---- turns

module _ {S : Type 0} {k : ServiceOf S} {v : ImageData} {limit : ℕ} {first : Turn S} {from : StoodAt k v first} (laws : IsService k) where
  pub turned_none : k.sound first.rom v first.ram.words → first.machine.ending ≡ None → Within limit first.cursor → Turned k v limit first from first
  turned_none sound going within = record { at = from; going = going; within = within; ran = λ h begin now running. running; stays = stays_none {k = k} sound }

  pub turned_on : {t next : Turn S} (i : Turned k v limit first from t) → 0 < t.cursor.left → (to : StoodAt k v next) → next.machine.ending ≡ None → Within limit next.cursor →
      ((h : HartData) (p : Point) → Stride (k.policy (k.setting first.rom)) (k.span (k.setting first.rom)) v
      (with_board k p (board_at k v h limit t i.at)) (with_board k p (board_at k v h limit next to))) →
      ServiceStays k v (service_at t) (service_at next) → Turned k v limit first from next
  turned_on {t} {next} i some to going within stride stays = record {
    at = to;
    going = going;
    within = within;
    ran = λ h begin now running.
        let below = i.within.left in
        runs_stride (i.ran h begin now running) (stride h now) (omega (arith, some, below)) (laws_of laws (k.setting first.rom))
        (laws.coherent t.rom v t.ram.words i.stays.sound.0).once;
    stays = stays_more i.stays stays;
  }

  -- the run has room for a step more
  pub turned_running : {t : Turn S} (i : Turned k v limit first from t) (b : HartData) → (u : Underway k v limit (board_at k v b limit first from)) →
      Running (course_from k v limit first.rom u.from) (with_board k u.now (board_at k v b limit t i.at))
  turned_running i b u = i.ran b u.from u.now u.running

  pub count_room : {t : Turn S} (i : Turned k v limit first from t) (b : HartData) → Underway k v limit (board_at k v b limit first from) → limit ≤ 2 ^ 48 → 0 < t.cursor.left →
      t.cursor.total - t.cursor.left < 2 ^ 56
  count_room i b u small some = let below = i.within.left in count_small (turned_running i b u).stays (omega (arith, some, below)) i.going small u.count

  pub services_room : {t : Turn S} (i : Turned k v limit first from t) (b : HartData) → Underway k v limit (board_at k v b limit first from) → limit ≤ 2 ^ 48 → 0 < t.cursor.left →
      (k.kept t.rom).counts.services < 2 ^ 50
  services_room i b u small some = let below = i.within.left in calls_small (turned_running i b u).stays (omega (arith, some, below)) i.going small u.services

-- ---- the turn at which a stretch of a board begins

abbrev pub first_turn : {S : Type 0} → ℕ → HartData → S → RamState → ℕ → ℕ → Turn S
first_turn limit h rom ram row delta = record {
  machine = h.machine;
  rom = rom;
  ram = ram;
  cursor = record { row = row; delta = delta; left = limit - h.machine.steps; total = h.count + (limit - h.machine.steps) };
}

module _ {S : Type 0} (k : ServiceOf S) (v : ImageData) (h : HartData) (rom : S) (row delta : ℕ) (fits : Fits v (k.kept rom) h) (going : h.machine.ending ≡ None) (at : StandsInRow v h row delta) where
  placed : StandsBy None v (k.kept rom) h.machine (At at.index at.block at.offset Start)
  placed = subst (λ (c : Control). StandsBy None v (k.kept rom) h.machine c) at.control (subst (λ (e : Option End). StandsBy e v (k.kept rom) h.machine h.control) going fits.place)

  pub first_stood : Stood v (k.kept rom) row delta
  first_stood = record {
    block = at.block;
    offset = at.offset;
    first = placed.0.0;
    pc = h.machine.pc;
    known = at.known;
    inside = at.inside;
    is_row = at.is_row;
    is_placed = placed.0.1;
    index = at.is_index ∙ placed.0.2;
    goes = placed.1;
    short = at.short;
  }

  pub first_board : (limit : ℕ) (ram : RamState) → h.machine.steps ≤ limit → board_at k v h limit (first_turn limit h rom ram row delta) first_stood ≡ record { hart = h; rom = rom; ram = ram }
  unfolding first_stood
  first_board limit ram le =
      let steps : limit - (limit - h.machine.steps) ≡ h.machine.steps = omega (arith, le) in
      let count : h.count + (limit - h.machine.steps) - (limit - h.machine.steps) ≡ h.count = omega arith in
      let control : At (sum_of row delta) at.block at.offset Start ≡ h.control = ap (λ (i : ℕ). At i at.block at.offset Start) at.is_index ∙ sym at.control in
      ap (λ (c : Control). record {
        hart = record h { control = c; machine = record h.machine { steps = limit - (limit - h.machine.steps) }; count = h.count + (limit - h.machine.steps) - (limit - h.machine.steps) };
        rom = rom;
        ram = ram;
      }) control
      ∙ ap (λ (n : ℕ). record { hart = record h { machine = record h.machine { steps = n }; count = h.count + (limit - h.machine.steps) - (limit - h.machine.steps) }; rom = rom; ram = ram }) steps
      ∙ ap (λ (n : ℕ). record { hart = record h { count = n }; rom = rom; ram = ram }) count
