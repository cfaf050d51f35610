-- An event of one of several programs.
use Rattle.std.proofs.Common.{◌≡◌, ℕ, zero, suc, ◌+◌, ◌-◌, ◌*◌, ◌^◌, ◌<◌, ◌≤◌, max, Bool, List, [], ◌∷◌, map, length, slice_get, slice_index_or, slice_set, Option, Some, None, arith, refl, sym, ◌∙◌, ap, subst, inl, inr}
use Rattle.std.proofs.lemmas.Bool.{cases_eq}
use Rattle.std.proofs.lemmas.List.{length-set, map-set}
use Rattle.std.proofs.lemmas.Option.{same_Some}
use Rattle.swi_outside.specs.Causes.{risen}
use Rattle.swi_outside.specs.Laws.{Appends-none}
use Rattle.swi_outside.specs.CacheRam.{Fetch, RamState}
use Rattle.swi_calls.specs.Flat.{started}
use Rattle.swi_calls.specs.Held.{held_run}
use Rattle.swi_calls.specs.State.{FlatState}
use Rattle.swi_calls.specs.declared.end.End.{End}
use Rattle.swi_calls.specs.declared.end.End.TheVariants as end
use Rattle.swi_calls.specs.declared.machine.Machine.{Machine}
use Rattle.swi_image.specs.Format.{ImageData}
use Rattle.swi_rom.specs.Record.{Record, writes}
use Rattle.swi_rom.specs.Service.{Setting}
use Rattle.swi_slots.specs.Slots.{Slots, kept_by, setting_of, span_of}
use Rattle.swi_slots.specs.Sound.{SlotsServe}
use Rattle.swi_outside.specs.Sink.{SinkState}
use Rattle.swi_hart.specs.Hart.{HartData}
use Rattle.swi_board.specs.Board.{BoardOf}
use Rattle.swi_board.specs.Fetching.{HasFetched}
use Rattle.swi_board.specs.Ran.{RamRan}
use Rattle.swi_share.specs.declared.process.Process.{Process}
use Rattle.swi_share.specs.Shared.{Context, Event, Shared, enters, entered_if, begun_if, flat_of, step_event, with_event, event_by, event_in, shared_event, event_of}
use Rattle.swi_share.specs.Waiting.{Waits, most_services}
use Rattle.swi_share.specs.Event.{EventDevices, EventMade, context, event_at}
use Rattle.swi_share.specs.Sharing.{ShareData, IsSharing, Seated, Came, seen, turned, context_of, services_by, services_most, HasEnded}
use Rattle.swi_share.proofs.Few.{Counted, run_counted, services_after, event_services}
use Rattle.swi_share.proofs.Breaking.{flat_same}
use Rattle.swi_share.proofs.Later.{later_none}
use Rattle.swi_share.proofs.Others.{Passes, event_passes, waits_on}

-- ---- lists

pub get_set_same : {A : Type 0} (xs : List A) (i : ℕ) (x y : A) → slice_get xs i ≡ Some x → slice_get (slice_set xs i y) i ≡ Some y
get_set_same [] i x y is = absurd (cc)
get_set_same (z ∷ zs) zero x y is = refl
get_set_same (z ∷ zs) (suc i) x y is = get_set_same zs i x y is

pub get_set_other : {A : Type 0} (xs : List A) (i j : ℕ) (y : A) → (j ≡ i → ⊥) → slice_get (slice_set xs i y) j ≡ slice_get xs j
get_set_other [] i j y ne = refl
get_set_other (z ∷ zs) zero zero y ne = absurd (ne refl)
get_set_other (z ∷ zs) zero (suc j) y ne = refl
get_set_other (z ∷ zs) (suc i) zero y ne = refl
get_set_other (z ∷ zs) (suc i) (suc j) y ne = get_set_other zs i j y (λ e. ne (ap suc e))

pub set_own : {A : Type 0} (xs : List A) (i : ℕ) (x : A) → slice_get xs i ≡ Some x → slice_set xs i x ≡ xs
set_own [] i x is = absurd (cc)
set_own (z ∷ zs) zero x is = ap (λ y. y ∷ zs) (sym (same_Some z x is))
set_own (z ∷ zs) (suc i) x is = ap (λ ys. z ∷ ys) (set_own zs i x is)

-- ---- what is seen

pub context_at : (ps : List Process) (g : ℕ) (p : Process) → slice_get ps g ≡ Some p → slice_index_or (map context_of ps) g None ≡ context_of p
context_at [] g p is = absurd (cc)
context_at (q ∷ qs) zero p is = ap context_of (same_Some q p is)
context_at (q ∷ qs) (suc g) p is = context_at qs g p is

abbrev pub share_of : List Process → Slots → ShareData
share_of ps rom = record { processes = ps; rom = Some rom }

next_is : (ps : List Process) (rom : Slots) (g : ℕ) (p : Process) → slice_get ps g ≡ Some p → p.hart.machine.ending ≡ None →
    shared_event g (seen (share_of ps rom)) ≡ with_event g (seen (share_of ps rom)) (event_of (setting_of rom) (turned rom g) (context p.hart p.image p.input.left))
next_is ps rom g p is going =
    ap (λ (c : Option Context). event_in g (seen (share_of ps rom)) c) (context_at ps g p is)
    ∙ ap (λ (e : Option End). event_by g (seen (share_of ps rom)) (context p.hart p.image p.input.left) e) going

stays_as : (ps : List Process) (rom : Slots) (g : ℕ) (p : Process) (e : End) → slice_get ps g ≡ Some p → p.hart.machine.ending ≡ Some e → shared_event g (seen (share_of ps rom)) ≡ seen (share_of ps rom)
stays_as ps rom g p e is ended =
    ap (λ (c : Option Context). event_in g (seen (share_of ps rom)) c) (context_at ps g p is)
    ∙ ap (λ (x : Option End). event_by g (seen (share_of ps rom)) (context p.hart p.image p.input.left) x) ended

-- ---- services

pub services_set : (ps : List Process) (g : ℕ) (p q : Process) → slice_get ps g ≡ Some p → services_most (slice_set ps g q) + services_by p.hart ≡ services_most ps + services_by q.hart
unfolding services_most
services_set [] g p q is = absurd (cc)
services_set (x ∷ xs) zero p q is = let e : services_by x.hart ≡ services_by p.hart = ap (λ (y : Process). services_by y.hart) (same_Some x p is) in omega (arith, e)
services_set (x ∷ xs) (suc g) p q is = omega (arith, services_set xs g p q is)

most_three : (e : Option End) (n : ℕ) → most_services e n ≤ 3 * n + 3
most_three None n = omega arith
most_three (Some (end.Exited code)) n = omega arith
most_three (Some (end.Faulted k a)) n = omega arith
most_three (Some (end.StoreText a)) n = omega arith

few_by : (h : HartData) → h.machine.steps ≤ 2 ^ 44 → services_by h ≤ 3 * 2 ^ 44 + 3
few_by h few = omega (arith, few, most_three h.machine.ending h.machine.steps)

services_each : (ps : List Process) → ((g : ℕ) (p : Process) → slice_get ps g ≡ Some p → p.hart.machine.steps ≤ 2 ^ 44) → services_most ps ≤ length ps * (3 * 2 ^ 44 + 3)
unfolding services_most
services_each [] few = omega arith
services_each (p ∷ ps) few =
    omega (arith, few_by p.hart (few 0 p refl), services_each ps (λ g q at. few (suc g) q at))

pub services_few : (s : ShareData) (words : List ℕ) → (q : IsSharing s words) → q.rom.counts.services < 2 ^ 49
services_few s words q =
    let most : q.rom.programs ≤ 8 = q.serves.shape.programs_most in
    let each = services_each s.processes (λ g p at. (q.seated g p at).few) in
    let all = q.services in
    let long = q.programs in
    omega (arith, most, each, all, long, product (length s.processes) (omega (arith, most, long)))
  where
    product : (n : ℕ) → n ≤ 8 → n * (3 * 2 ^ 44 + 3) ≤ 8 * (3 * 2 ^ 44 + 3)
    product n le = omega (arith, le)

-- ---- an event that was made

-- program g of a share, with the service for which it is in turn, and what its event left
pub record Turned (g : ℕ) (ps : List Process) (rom rom' : Slots) (p p' : Process) (before after : EventDevices) : Type 0 where
  pub at : slice_get ps g ≡ Some p
  pub going : p.hart.machine.ending ≡ None
  pub few : p.hart.machine.steps < 2 ^ 44
  pub image_stays : p'.image ≡ p.image
  pub input_left : after.left ≡ p'.input.left
  pub setting : setting_of rom' ≡ setting_of rom
  pub made : EventMade p.image (event_of (setting_of rom) (turned rom g) (context p.hart p.image p.input.left)) (record { hart = p.hart; rom = record rom { turn = g } }) (record { hart = p'.hart; rom = rom' }) before after

-- the event, by the service as it is and by that for which the program is in turn
pub event_turned : (g : ℕ) (rom now : Slots) (h : HartData) (v : ImageData) (left : List ℕ) → now ≡ record rom { turn = g } → kept_by now ≡ turned rom g →
    event_at (record { hart = h; rom = now }) v left ≡ event_of (setting_of rom) (turned rom g) (context h v left)
event_turned g rom now h v left is kept =
    ap (λ (s : Setting). event_of s (kept_by now) (context h v left)) (ap (λ (x : Slots). setting_of x) is)
    ∙ ap (λ (r : Record). event_of (setting_of rom) r (context h v left)) kept

pub made_turned : (g : ℕ) (rom now : Slots) (h : HartData) (v : ImageData) (left : List ℕ) (new : BoardOf Slots) (before after : EventDevices) → now ≡ record rom { turn = g } → kept_by now ≡ turned rom g →
    EventMade v (event_at (record { hart = h; rom = now }) v left) (record { hart = h; rom = now }) new before after →
    EventMade v (event_of (setting_of rom) (turned rom g) (context h v left)) (record { hart = h; rom = record rom { turn = g } }) new before after
made_turned g rom now h v left new before after is kept made =
    subst (λ (x : Slots). EventMade v (event_of (setting_of rom) (turned rom g) (context h v left)) (record { hart = h; rom = x }) new before after) is
    (subst (λ (e : Event). EventMade v e (record { hart = h; rom = now }) new before after) (event_turned g rom now h v left is kept) made)

context_left : (p' : Process) (v : ImageData) (c : Context) → p'.image ≡ v → p'.input.left ≡ c.input → context p'.hart v c.input ≡ c → context_of p' ≡ Some c
context_left p' v c image input is =
    ap (λ (x : ImageData). Some (context p'.hart x p'.input.left)) image
    ∙ ap (λ (l : List ℕ). Some (context p'.hart v l)) input
    ∙ ap (λ (x : Context). Some x) is

shared_as : (ps : List Process) (rom rom' : Slots) (g : ℕ) (p' : Process) (e : Event) → setting_of rom' ≡ setting_of rom → kept_by rom' ≡ e.kept → context_of p' ≡ Some e.context →
    seen (share_of (slice_set ps g p') rom') ≡ record (with_event g (seen (share_of ps rom)) e) { output = []; error = []; sets = 0; fetches = 0; words = [] }
shared_as ps rom rom' g p' e setting kept left =
    ap (λ (s : Setting). let x : Shared = record { setting = s; kept = kept_by rom'; contexts = map context_of (slice_set ps g p'); output = []; error = []; sets = 0; fetches = 0; words = [] } in x) setting
    ∙ ap (λ (r : Record). let x : Shared = record { setting = setting_of rom; kept = r; contexts = map context_of (slice_set ps g p'); output = []; error = []; sets = 0; fetches = 0; words = [] } in x) kept
    ∙ ap (λ (cs : List (Option Context)). let x : Shared = record { setting = setting_of rom; kept = e.kept; contexts = cs; output = []; error = []; sets = 0; fetches = 0; words = [] } in x)
    (map-set context_of ps g p' ∙ ap (λ (c : Option Context). slice_set (map context_of ps) g c) left)

pub came_of : (g : ℕ) (ps : List Process) (rom rom' : Slots) (p p' : Process) (before after : EventDevices) → Turned g ps rom rom' p p' before after →
    Came (shared_event g (seen (share_of ps rom))) (record { share = share_of ps rom; ram = before.ram; out = before.out; err = before.err })
    (record { share = share_of (slice_set ps g p') rom'; ram = after.ram; out = after.out; err = after.err })
came_of g ps rom rom' p p' before after t =
    let e = event_of (setting_of rom) (turned rom g) (context p.hart p.image p.input.left) in
    let input : p'.input.left ≡ e.context.input = sym t.input_left ∙ t.made.input in
    let left : context_of p' ≡ Some e.context = context_left p' p.image e.context t.image_stays input t.made.context in
    subst (λ (s : Shared). Came s (record { share = share_of ps rom; ram = before.ram; out = before.out; err = before.err })
    (record { share = share_of (slice_set ps g p') rom'; ram = after.ram; out = after.out; err = after.err }))
    (sym (next_is ps rom g p t.at t.going)) (record {
      share = shared_as ps rom rom' g p' e t.setting t.made.kept left;
      output = t.made.output;
      error = t.made.error;
      ram = subst (λ (n : ℕ). RamRan (span_of (setting_of rom)) n (writes e.kept - writes (kept_by rom)) before.ram after.ram) (none_more e.fetches) t.made.ram;
      sets = sym (none_more (writes e.kept - writes (kept_by rom)));
      words = subst (λ (l : List Fetch). HasFetched l before.ram after.ram) (sym (later_none e.words)) t.made.words;
      unused = t.made.unused;
    })
  where
    none_more : (n : ℕ) → n ≡ 0 + n
    none_more n = omega arith

kept_turn : (r : Record) (g : ℕ) → r.turn ≡ g → record r { turn = g } ≡ r
kept_turn r g is = ap (λ (n : ℕ). let x : Record = record r { turn = n } in x) (sym is)

event_machine : (h : HartData) (v : ImageData) (left : List ℕ) (by : Setting) (r : Record) → (event_of by r (context h v left)).context.machine ≡ (held_run 1 (started h.machine left)).machine
event_machine h v left by r = begun_machine (enters r (context h v left)) (context h v left) ∙ ap (λ (x : FlatState). (held_run 1 x).machine) (flat_same (enters r (context h v left)) (context h v left))
  where
    begun_machine : (t : Bool) (c : Context) → (step_event by (writes (entered_if t by r c) - writes r) (entered_if t by r c) (begun_if t c)).context.machine ≡ (held_run 1 (flat_of (begun_if t c))).machine
    begun_machine t c = refl

counted_in : (h h' : HartData) (v : ImageData) (left : List ℕ) (by : Setting) (r : Record) → h.machine.ending ≡ None → h'.machine ≡ (event_of by r (context h v left)).context.machine → Counted h.machine.steps h'.machine
counted_in h h' v left by r going is = subst (λ (m : Machine). Counted h.machine.steps m) (sym (is ∙ event_machine h v left by r)) (run_counted h.machine left going)

few_steps : (n : ℕ) (m : Machine) → n < 2 ^ 44 → Counted n m → m.steps ≤ 2 ^ 44
unfolding Counted
few_steps n m lt (inl one) = omega (arith, lt, one)
few_steps n m lt (inr w) = omega (arith, lt, w.2)

pub sharing_of : (s : ShareData) (words words' : List ℕ) (g : ℕ) (rom' : Slots) (p p' : Process) (before after : EventDevices) → (q : IsSharing s words) → Turned g s.processes q.rom rom' p p' before after →
    SlotsServe rom' q.images words' → IsSharing (share_of (slice_set s.processes g p') rom') words'
sharing_of s words words' g rom' p p' before after q t serves =
    let c = context p.hart p.image p.input.left in
    let e = event_of (setting_of q.rom) (turned q.rom g) c in
    let passes : Passes (turned q.rom g) e.kept = event_passes (setting_of q.rom) (turned q.rom g) c in
    let own : turned rom' g ≡ e.kept = ap (λ (r : Record). let x : Record = record r { turn = g } in x) t.made.kept ∙ kept_turn e.kept g passes.turn in
    let counted : Counted p.hart.machine.steps p'.hart.machine = counted_in p.hart p'.hart p.image p.input.left (setting_of q.rom) (turned q.rom g) t.going (ap (λ (x : Context). x.machine) t.made.context) in
    record {
      rom = rom';
      is = refl;
      images = q.images;
      serves = serves;
      programs = ap (λ (k : Setting). k.programs) t.setting ∙ q.programs ∙ sym (length-set s.processes g p');
      seated = λ m r at. elim (cases_eq m g) [
        | inl same ↦ own_seat m r same at own counted
        | inr other ↦ (
            let w = q.seated m r (sym (get_set_other s.processes g m p' other) ∙ at) in record {
              image = w.image;
              waits = subst (λ (k : Record). Waits r.image (record k { turn = m }) r.hart) (sym t.made.kept) (waits_on r.image m (turned q.rom g) e.kept r.hart passes other w.waits);
              few = w.few;
            })
      ];
      services = more_services (ap (λ (r : Record). r.counts.services) t.made.kept) counted;
    }
  where
    own_seat : (m : ℕ) (r : Process) → m ≡ g → slice_get (slice_set s.processes g p') m ≡ Some r → turned rom' g ≡ (event_of (setting_of q.rom) (turned q.rom g) (context p.hart p.image p.input.left)).kept → Counted p.hart.machine.steps p'.hart.machine → Seated rom' q.images m r
    own_seat m r same at own counted =
        let is : p' ≡ r = same_Some p' r (sym (get_set_same s.processes g p p' t.at) ∙ ap (λ (k : ℕ). slice_get (slice_set s.processes g p') k) (sym same) ∙ at) in
        subst (λ (x : Process). Seated rom' q.images m x) is (record {
          image = (q.seated m p (ap (λ (k : ℕ). slice_get s.processes k) same ∙ t.at)).image ∙ sym t.image_stays;
          waits = subst (λ (v : ImageData). Waits v (turned rom' m) p'.hart) (sym t.image_stays) (subst (λ (k : ℕ). Waits p.image (turned rom' k) p'.hart) (sym same) (subst (λ (k : Record). Waits p.image k p'.hart) (sym own) t.made.waits));
          few = few_steps p.hart.machine.steps p'.hart.machine t.few counted;
        })

    more_services : rom'.counts.services ≡ (event_of (setting_of q.rom) (turned q.rom g) (context p.hart p.image p.input.left)).kept.counts.services → Counted p.hart.machine.steps p'.hart.machine → rom'.counts.services ≤ services_most (slice_set s.processes g p')
    more_services is counted =
        let few = event_services (setting_of q.rom) (turned q.rom g) (context p.hart p.image p.input.left) in
        let at_first : services_by p.hart ≡ 3 * p.hart.machine.steps = ap (λ (e : Option End). most_services e p.hart.machine.steps) t.going in
        let more = services_after p'.hart.machine.ending p'.hart.machine p.hart.machine.steps refl counted in
        let sum = services_set s.processes g p p' t.at in
        let all = q.services in
        omega (arith, is, few, at_first, more, sum, all)

-- ---- a program that has ended

pub came_idle : (s s' : ShareData) (words : List ℕ) (g : ℕ) (ram : RamState) (out err : SinkState) → IsSharing s words → HasEnded s g → s' ≡ s →
    Came (shared_event g (seen s)) (record { share = s; ram = ram; out = out; err = err }) (record { share = s'; ram = ram; out = out; err = err })
came_idle s s' words g ram out err q w same =
    subst (λ (x : Shared). Came x (record { share = s; ram = ram; out = out; err = err }) (record { share = s'; ram = ram; out = out; err = err })) (sym stays) (record {
      share = ap seen same;
      output = Appends-none out.held;
      error = Appends-none err.held;
      ram = record { quiet = refl; fetches = risen_none ram.fetches; sets = none_risen ram.sets (writes (seen s).kept); kept = record { same_length = refl; beyond = λ i le. refl; reached = reach_most ram.reach (span_of (seen s).setting) } };
      sets = none_left (writes (seen s).kept);
      words = refl;
      unused = λ i le. refl;
    })
  where
    share : s ≡ share_of s.processes q.rom
    share = ap (λ (r : Option Slots). let x : ShareData = record { processes = s.processes; rom = r } in x) q.is

    by_end : (e : Option End) → (e ≡ None → ⊥) → w.process.hart.machine.ending ≡ e → shared_event g (seen s) ≡ seen s
    by_end None never is = absurd (never refl)
    by_end (Some e) never is =
        subst (λ (x : ShareData). shared_event g (seen x) ≡ seen x) (sym share) (stays_as s.processes q.rom g w.process e w.process_is is)

    stays : shared_event g (seen s) ≡ seen s
    stays = by_end w.process.hart.machine.ending w.ended refl

    risen_none : (n : ℕ) → n ≡ risen n 0
    risen_none n = grind arith

    none_risen : (n w : ℕ) → n ≡ risen n (w - w)
    none_risen n w = grind arith

    none_left : (w : ℕ) → 0 ≡ w - w
    none_left w = omega arith

    reach_most : (n m : ℕ) → n ≤ max n m
    reach_most n m = grind arith
