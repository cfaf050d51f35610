-- A program in turn, and what its event leaves of the share.
use Rattle.std.proofs.Common.{◌≡◌, ℕ, zero, suc, ◌^◌, ◌<◌, true, false, List, [], ◌∷◌, length, slice_get, slice_index_or, slice_set, Option, Some, None, is_some, Ok, Err, arith, refl, sym, ◌∙◌, ap, subst}
use Rattle.std.proofs.lemmas.Bool.{false≢true}
use Rattle.std.proofs.lemmas.List.{length-set}
use Rattle.std.proofs.lemmas.Option.{same_Some, slice_get_read}
use Rattle.swi_outside.specs.CacheRam.{KeepsBeyond}
use Rattle.swi_calls.specs.declared.end.End.{End}
use Rattle.swi_calls.specs.declared.machine.Machine.{Machine}
use Rattle.swi_rom.specs.Record.{Record}
use Rattle.swi_slots.specs.Slots.{Slots, kept_by, setting_of, span_of}
use Rattle.swi_slots.specs.Sound.{SlotsServe, Serves}
use Rattle.swi_slots.specs.Keys.{Images}
use Rattle.swi_image.specs.Format.{ImageData}
use Rattle.swi_hart.specs.Hart.{HartData}
use Rattle.swi_hart.specs.declared.fault.BoardFault.{BoardFault}
use Rattle.swi_board.specs.Board.{BoardOf}
use Rattle.swi_share.specs.declared.process.Process.{Process}
use Rattle.swi_share.specs.Shared.{Context, shared_event}
use Rattle.swi_share.specs.Event.{EventBroke, EventDevices, EventMade, HartEvent, InputData, context, event_at}
use Rattle.swi_share.specs.Sharing.{ShareData, ShareWith, IsSharing, Came, EventRan, HasEnded, HasRoom, Tells, seen, setting_in, turned}
use Rattle.swi_share.specs.Waiting.{Waits}
use Rattle.swi_share.proofs.Turning.{Turned, came_idle, came_of, context_at, get_set_other, made_turned, services_few, share_of, sharing_of}

-- ---- what a hart tells of its program

seat : (ps : List Process) (g : ℕ) → g < length ps → (p : Process) × (slice_get ps g ≡ Some p)
seat [] g lt = absurd (omega (arith, lt))
seat (p ∷ ps) zero lt = (p, refl)
seat (p ∷ ps) (suc g) lt = seat ps g (omega (arith, lt))

told_machine : (s : ShareData) (g : ℕ) (p : Process) (k : HartData) → slice_get s.processes g ≡ Some p → Tells k (slice_index_or (seen s).contexts g None) → p.hart.machine ≡ k.machine
told_machine s g p k at tells = (subst (λ (c : Option Context). Tells k c) (context_at s.processes g p at) tells).machine

pub told_ended : (s : ShareData) (g : ℕ) (k : HartData) → g < length s.processes → Tells k (slice_index_or (seen s).contexts g None) → is_some k.machine.ending ≡ true → HasEnded s g
told_ended s g k lt tells ended =
    let w = seat s.processes g lt in
    let same = told_machine s g w.0 k w.1 tells in
    record {
      process = w.0;
      process_is = w.1;
      ended = λ none. false≢true (sym (ap (λ (x : Option End). is_some x) none) ∙ ap (λ (m : Machine). is_some m.ending) same ∙ ended);
    }

pub told_running : (s : ShareData) (g : ℕ) (p : Process) (k : HartData) → slice_get s.processes g ≡ Some p → Tells k (slice_index_or (seen s).contexts g None) → is_some k.machine.ending ≡ false → p.hart.machine.ending ≡ None
told_running s g p k at tells going = ap (λ (m : Machine). m.ending) (told_machine s g p k at tells) ∙ none_of k.machine.ending going
  where
    none_of : (e : Option End) → is_some e ≡ false → e ≡ None
    none_of None t = refl
    none_of (Some e) t = absurd (false≢true (sym t))

-- ---- a program in turn

-- the program that the code reads
pub seat_read : (s : ShareData) (items : List Process) (g : ℕ) (p : Process) → items ≡ s.processes → g < length s.processes → p ≡ slice_index_or items g p → slice_get s.processes g ≡ Some p
seat_read s items g p is below read = slice_get_read s.processes (length s.processes) g p refl below (read ∙ ap (λ (ps : List Process). slice_index_or ps g p) is)

pub turn_below : {s : ShareData} {words : List ℕ} (g : ℕ) (rom : Slots) → IsSharing s words → s.rom ≡ Some rom → g < length s.processes → g < rom.programs
turn_below {s} g rom q is below =
    let same : q.rom.programs ≡ rom.programs = ap (λ (x : Slots). x.programs) (same_Some q.rom rom (sym q.is ∙ is)) in
    let all = q.programs in
    omega (arith, same, all, below)

-- program g of a share has not ended, and the service is turned to it
pub record InTurn (s : ShareData) (g : ℕ) (p : Process) (before rom : Slots) : Type 0 where
  pub at : slice_get s.processes g ≡ Some p
  pub going : p.hart.machine.ending ≡ None
  pub before_is : s.rom ≡ Some before
  pub rom_is : rom ≡ record before { turn = g }
  pub kept : kept_by rom ≡ turned before g
  pub serves : (v : ImageData) (images : Images) (words : List ℕ) → Serves before v images words → Serves rom (images g) images words

-- the program with the hart and the input that an event leaves
abbrev pub left_with : Process → HartData → InputData → Process
left_with p h i = record p { hart = h; input = i }

module _ {s : ShareData} {g : ℕ} {p : Process} {before_rom rom : Slots} (t : InTurn s g p before_rom rom) where
  abbrev first : BoardOf Slots
  first = record { hart = p.hart; rom = rom }

  same_rom : {words : List ℕ} (q : IsSharing s words) → q.rom ≡ before_rom
  same_rom q = same_Some q.rom before_rom (sym q.is ∙ t.before_is)

  pub turn_few : HasRoom (seen s) g → p.hart.machine.steps < 2 ^ 44
  turn_few room = room (context p.hart p.image p.input.left) (context_at s.processes g p t.at)

  pub turn_waits : {words : List ℕ} → IsSharing s words → Waits p.image (kept_by rom) p.hart
  turn_waits q =
      subst (λ (k : Record). Waits p.image k p.hart) (sym t.kept)
      (subst (λ (x : Slots). Waits p.image (turned x g) p.hart) (same_rom q) (q.seated g p t.at).waits)

  pub turn_services : {words : List ℕ} → IsSharing s words → rom.counts.services < 2 ^ 49
  turn_services {words} q =
      subst (λ (x : Slots). x.counts.services < 2 ^ 49) (sym t.rom_is)
      (subst (λ (x : Slots). x.counts.services < 2 ^ 49) (same_rom q) (services_few s words q))

  pub turn_serves : {words : List ℕ} (q : IsSharing s words) → Serves rom p.image q.images words
  turn_serves {words} q =
      let b = t.serves (q.images before_rom.turn) q.images words (refl, subst (λ (x : Slots). SlotsServe x q.images words) (same_rom q) q.serves) in
      (b.0 ∙ (q.seated g p t.at).image, b.1)

  share_is : s ≡ share_of s.processes before_rom
  share_is = ap (λ (o : Option Slots). let x : ShareData = record { processes = s.processes; rom = o } in x) t.before_is

  others_stay : (q : Process) (ps : List Process) → ps ≡ slice_set s.processes g q → (k : ℕ) → (k ≡ g → ⊥) → slice_get ps k ≡ slice_get s.processes k
  others_stay q ps is = λ k other. ap (λ (xs : List Process). slice_get xs k) is ∙ get_set_other s.processes g k q other

  programs_stay : (q : Process) (ps : List Process) → ps ≡ slice_set s.processes g q → length ps ≡ length s.processes
  programs_stay q ps is = ap (λ (xs : List Process). length xs) is ∙ length-set s.processes g q

  kept_as : (before after : EventDevices) → KeepsBeyond (span_of (setting_of rom)) before.ram after.ram → KeepsBeyond (span_of (seen s).setting) before.ram after.ram
  kept_as before after kept =
      subst (λ (o : Option Slots). KeepsBeyond (span_of (setting_in o)) before.ram after.ram) (sym t.before_is)
      (subst (λ (x : Slots). KeepsBeyond (span_of (setting_of x)) before.ram after.ram) t.rom_is kept)

  -- ---- an event that was made

  module _ (h' : HartData) (rom' : Slots) (i : InputData) (before after : EventDevices) where
    abbrev left : Process
    left = left_with p h' i

    turned_by : HasRoom (seen s) g → after.left ≡ i.left → EventMade p.image (event_at first p.image p.input.left) first (record { hart = h'; rom = rom' }) before after →
        Turned g s.processes before_rom rom' p left before after
    turned_by room last made = record {
      at = t.at;
      going = t.going;
      few = turn_few room;
      image_stays = refl;
      input_left = last;
      setting = made.setting ∙ ap (λ (x : Slots). setting_of x) t.rom_is;
      made = made_turned g before_rom rom p.hart p.image p.input.left _ _ _ t.rom_is t.kept made;
    }

    came_by : (s' : ShareData) → s' ≡ share_of (slice_set s.processes g left) rom' → Turned g s.processes before_rom rom' p left before after →
        Came (shared_event g (seen s)) (record { share = s; ram = before.ram; out = before.out; err = before.err }) (record { share = s'; ram = after.ram; out = after.out; err = after.err })
    came_by s' is made =
        subst (λ (x : ShareData). Came (shared_event g (seen s)) (record { share = s; ram = before.ram; out = before.out; err = before.err }) (record { share = x; ram = after.ram; out = after.out; err = after.err })) (sym is)
        (subst (λ (x : ShareData). Came (shared_event g (seen x)) (record { share = x; ram = before.ram; out = before.out; err = before.err })
        (record { share = share_of (slice_set s.processes g left) rom'; ram = after.ram; out = after.out; err = after.err })) (sym share_is) (came_of g s.processes before_rom rom' p left before after made))

    sharing_by : {words : List ℕ} (words' : List ℕ) (s' : ShareData) → (q : IsSharing s words) → s' ≡ share_of (slice_set s.processes g left) rom' → Turned g s.processes before_rom rom' p left before after →
        SlotsServe rom' q.images words' → IsSharing s' words'
    sharing_by {words} words' s' q is made serves =
        subst (λ (x : ShareData). IsSharing x words') (sym is)
        (sharing_of s words words' g rom' p left before after q (subst (λ (x : Slots). Turned g s.processes x rom' p left before after) (sym (same_rom q)) made) serves)

    not_ended : HasEnded s g → ⊥
    not_ended w = w.ended (ap (λ (x : Process). x.hart.machine.ending) (same_Some w.process p (sym w.process_is ∙ t.at)) ∙ t.going)

    pub event_done : {u w : Unit} (s' : ShareData) → before.left ≡ p.input.left → after.left ≡ i.left → IsSharing s before.ram.words → HasRoom (seen s) g →
        HartEvent p.image first (record { hart = h'; rom = rom' }) before after (Ok u) → s' ≡ share_of (slice_set s.processes g left) rom' →
        EventRan g (record { share = s; ram = before.ram; out = before.out; err = before.err }) (record { share = s'; ram = after.ram; out = after.out; err = after.err }) (Ok w)
    event_done {u} s' first_left last q room ran is =
        let made = subst (λ (l : List ℕ). EventMade p.image (event_at first p.image l) first (record { hart = h'; rom = rom' }) before after) first_left ran.made in
        let turn = turned_by room last made in
        let processes = ap (λ (x : ShareData). x.processes) is in
        record {
          programs = programs_stay left s'.processes processes;
          others = others_stay left s'.processes processes;
          kept = kept_as before after ran.kept;
          ends = record {
            came = came_by s' is turn;
            sharing = sharing_by after.ram.words s' q is turn (made.keeps q.images (turn_serves q)).1;
            quiet = made.quiet;
            idle = λ ended. absurd (not_ended ended);
          };
        }

    -- and one that a device broke off
    pub event_stopped : (fault : BoardFault) (s' : ShareData) → before.left ≡ p.input.left → after.left ≡ i.left →
        HartEvent p.image first (record { hart = h'; rom = rom' }) before after (Err fault) → s'.rom ≡ None → s'.processes ≡ slice_set s.processes g left →
        EventRan g (record { share = s; ram = before.ram; out = before.out; err = before.err }) (record { share = s'; ram = after.ram; out = after.out; err = after.err }) (Err fault)
    event_stopped fault s' first_left last ran failed processes =
        let c : Context = context p.hart p.image p.input.left in
        let broke = subst (λ (l : List ℕ). EventBroke (setting_of rom) (kept_by rom) (context p.hart p.image l) fault (record before { left = l }) after) first_left ran.broke in
        record {
          programs = programs_stay left s'.processes processes;
          others = others_stay left s'.processes processes;
          kept = kept_as before after ran.kept;
          ends = record {
            failed = failed;
            context = c;
            context_is = context_at s.processes g p t.at;
            running = t.going;
            process = left;
            processes = processes;
            broke = broke_seen fault (record before { left = p.input.left }) (record after { left = i.left }) (subst (λ (l : List ℕ). EventBroke (setting_of rom) (kept_by rom) c fault (record before { left = p.input.left }) (record after { left = l })) last broke);
          };
        }
      where
        -- the service for which a program is in turn, as the share is seen
        broke_seen : (fault : BoardFault) (before after : EventDevices) → EventBroke (setting_of rom) (kept_by rom) (context p.hart p.image p.input.left) fault before after →
            EventBroke (seen s).setting (record (seen s).kept { turn = g }) (context p.hart p.image p.input.left) fault before after
        broke_seen fault before after broke =
            subst (λ (x : ShareData). EventBroke (seen x).setting (record (seen x).kept { turn = g }) (context p.hart p.image p.input.left) fault before after) (sym share_is)
            (subst (λ (k : Record). EventBroke (setting_of before_rom) k (context p.hart p.image p.input.left) fault before after) t.kept
            (subst (λ (x : Slots). EventBroke (setting_of x) (kept_by rom) (context p.hart p.image p.input.left) fault before after) t.rom_is broke))

-- where the program has ended
pub event_idle : {u : Unit} (g : ℕ) (w : ShareWith) → IsSharing w.share w.ram.words → HasEnded w.share g → EventRan g w w (Ok u)
event_idle {u} g w q ended = record {
  programs = refl;
  others = λ k other. refl;
  kept = record { same_length = refl; beyond = λ i le. refl; reached = grind arith };
  ends = record {
    came = came_idle w.share w.share w.ram.words g w.ram w.out w.err q ended refl;
    sharing = q;
    quiet = record { output = refl; error = refl };
    idle = λ _. refl;
  };
}
