-- Programs before their first events.
use Rattle.std.proofs.Common.{◌≡◌, ℕ, zero, suc, ◌+◌, ◌*◌, ◌/◌, ◌<◌, ◌≤◌, max, false, List, [], ◌∷◌, ◌++◌, map, length, slice_get, slice_index_or, drop, Option, Some, arith, refl, sym, ◌∙◌, ap, subst}
use Rattle.std.proofs.lemmas.Bool.{false≢true}
use Rattle.std.proofs.lemmas.List.{drop_more, drop_all}
use Rattle.std.proofs.lemmas.Option.{same_Some}
use Rattle.std.proofs.Math.Nat.{div-mul-le_self}
use Rattle.swi_memory.specs.Bus.{fetched}
use Rattle.swi_calls.specs.declared.machine.Machine.{Machine}
use Rattle.swi_calls.specs.Flat.{machine_of}
use Rattle.swi_image.specs.Format.{ImageData}
use Rattle.swi_image.specs.Sound.{IsImage}
use Rattle.swi_render.specs.Carried.{Carries}
use Rattle.swi_rom.specs.Record.{Record, empty_record}
use Rattle.swi_rom.specs.Service.{Setting}
use Rattle.swi_slots.specs.Slots.{Slots, kept_by, setting_of, empty_slots}
use Rattle.swi_slots.specs.Sound.{Serves}
use Rattle.swi_hart.specs.Hart.{HartData, unbooted}
use Rattle.swi_share.specs.declared.process.Guest.{Guest}
use Rattle.swi_share.specs.declared.process.Process.{Process}
use Rattle.swi_share.specs.Shared.{Context, Shared}
use Rattle.swi_share.specs.Waiting.{Waits}
use Rattle.swi_share.specs.Event.{context}
use Rattle.swi_share.specs.Sharing.{IsSharing, Seated, seen, turned, context_of}
use Rattle.swi_share.specs.Starting.{Started, AllStarted, most_words, first_context, shared_start}
use Rattle.swi_share.proofs.Turning.{share_of}

pub all_more : (xs : List Guest) (ps : List Process) (x : Guest) (p : Process) → AllStarted xs ps → Started x p → AllStarted (xs ++ x ∷ []) (ps ++ p ∷ [])
all_more [] [] x p all one = (one, tt)
all_more [] (q ∷ qs) x p all one = absurd all
all_more (y ∷ ys) [] x p all one = absurd all
all_more (y ∷ ys) (q ∷ qs) x p all one = (all.0, all_more ys qs x p all.1 one)

pub long_as : (xs : List Guest) (ps : List Process) → AllStarted xs ps → length xs ≡ length ps
long_as [] [] all = refl
long_as [] (q ∷ qs) all = absurd all
long_as (y ∷ ys) [] all = absurd all
long_as (y ∷ ys) (q ∷ qs) all = ap suc (long_as ys qs all.1)

context_first : (x : Guest) (p : Process) → Started x p → context_of p ≡ first_context x
context_first x p s =
    ap (λ (h : HartData). Some (context h p.image p.input.left)) s.hart
    ∙ ap (λ (v : ImageData). Some (context (unbooted (machine_of x.program x.layout false)) v p.input.left)) s.image
    ∙ ap (λ (i : List ℕ). Some (context (unbooted (machine_of x.program x.layout false)) x.image i)) s.input

contexts_first : (xs : List Guest) (ps : List Process) → AllStarted xs ps → map context_of ps ≡ map first_context xs
contexts_first [] [] all = refl
contexts_first [] (q ∷ qs) all = absurd all
contexts_first (y ∷ ys) [] all = absurd all
contexts_first (y ∷ ys) (q ∷ qs) all =
    ap (λ (c : Option Context). c ∷ map context_of qs) (context_first y q all.0) ∙ ap (λ (cs : List (Option Context)). first_context y ∷ cs) (contexts_first ys qs all.1)

-- each program's image; beyond the programs another
unfoldable image_in : ImageData → List Guest → ℕ → ImageData
image_in d [] g = d
image_in d (x ∷ xs) zero = x.image
image_in d (x ∷ xs) (suc g) = image_in d xs g

images_sound : (d : ImageData) (xs : List Guest) (ps : List Process) (g : ℕ) → IsImage d → AllStarted xs ps → IsImage (image_in d xs g)
unfolding image_in
images_sound d [] ps g sound all = sound
images_sound d (x ∷ xs) [] g sound all = absurd all
images_sound d (x ∷ xs) (p ∷ ps) zero sound all = all.0.carries.image
images_sound d (x ∷ xs) (p ∷ ps) (suc g) sound all = images_sound d xs ps g sound all.1

images_most : (d : ImageData) (xs : List Guest) (n g : ℕ) → d.block_words ≤ n → most_words xs ≤ n → (image_in d xs g).block_words ≤ n
unfolding image_in most_words
images_most d [] n g le most = le
images_most d (x ∷ xs) n zero le most = front x.image.block_words (most_words xs) n most
  where
    front : (a b n : ℕ) → max a b ≤ n → a ≤ n
    front a b n le = grind (arith, le)
images_most d (x ∷ xs) n (suc g) le most = images_most d xs n g le (rest x.image.block_words (most_words xs) n most)
  where
    rest : (a b n : ℕ) → max a b ≤ n → b ≤ n
    rest a b n le = grind (arith, le)

waits_first : (v : ImageData) (r : Record) (m : Machine) → Carries (fetched m.bus) v → Waits v r (unbooted m)
waits_first v r m carries = record {
  image = carries;
  unfailed = refl;
  between = λ _. refl;
  stands = λ booted. absurd (false≢true booted);
  holds = λ booted. absurd (false≢true booted);
  bounded = omega arith;
  unbooted = λ _. refl;
}

seated_first : (d : ImageData) (xs : List Guest) (ps : List Process) (rom : Slots) (n g : ℕ) (p : Process) → AllStarted xs ps → slice_get ps g ≡ Some p →
    (x : Guest) × (image_in d xs g ≡ x.image) × Started x p
unfolding image_in
seated_first d [] [] rom n g p all at = absurd (cc)
seated_first d [] (q ∷ qs) rom n g p all at = absurd all
seated_first d (x ∷ xs) [] rom n g p all at = absurd all
seated_first d (x ∷ xs) (q ∷ qs) rom n zero p all at = (x, refl, subst (λ (k : Process). Started x k) (same_Some q p at) all.0)
seated_first d (x ∷ xs) (q ∷ qs) rom n (suc g) p all at = seated_first d xs qs rom n g p all.1 at

seat_of : (x : Guest) (p : Process) (rom : Slots) (images : ℕ → ImageData) (g : ℕ) → images g ≡ x.image → Started x p → Seated rom images g p
seat_of x p rom images g is s = record {
  image = is ∙ sym s.image;
  waits = subst (λ (h : HartData). Waits p.image (turned rom g) h) (sym s.hart)
      (subst (λ (v : ImageData). Waits v (turned rom g) (unbooted (machine_of x.program x.layout false))) (sym s.image) (waits_first x.image (turned rom g) (machine_of x.program x.layout false) s.carries));
  few = let none : p.hart.machine.steps ≡ 0 = ap (λ (h : HartData). h.machine.steps) s.hart in omega (arith, none);
}

first_most : (x : Guest) (xs : List Guest) (n : ℕ) → most_words (x ∷ xs) ≤ n → x.image.block_words ≤ n
unfolding most_words
first_most x xs n le = by x.image.block_words (most_words xs) le
  where
    by : (a b : ℕ) → max a b ≤ n → a ≤ n
    by a b le = grind (arith, le)

pub sharing_first : (xs : List Guest) (ps : List Process) (rom : Slots) (bytes n : ℕ) (words : List ℕ) → 0 < length xs → AllStarted xs ps → n ≡ most_words xs → rom ≡ empty_slots (bytes / 4 / n) n (length xs) →
    ((images : ℕ → ImageData) (words : List ℕ) → ((p : ℕ) → IsImage (images p)) → ((p : ℕ) → (images p).block_words ≤ n) → bytes / 4 / n * n ≤ length words → Serves rom (images 0) images words) →
    bytes ≤ 4 * length words → IsSharing (share_of ps rom) words
sharing_first [] ps rom bytes n words some all most is serves fit = absurd (omega (arith, some))
sharing_first (x ∷ xs) [] rom bytes n words some all most is serves fit = absurd all
sharing_first (x ∷ xs) (p ∷ ps) rom bytes n words some all most is serves fit =
    let images : ℕ → ImageData = image_in x.image (x ∷ xs) in
    let sound : (g : ℕ) → IsImage (images g) = λ g. images_sound x.image (x ∷ xs) (p ∷ ps) g all.0.carries.image all in
    let least : most_words (x ∷ xs) ≤ n = omega (arith, most) in
    let few : (g : ℕ) → (images g).block_words ≤ n = λ g. images_most x.image (x ∷ xs) n g (first_most x xs n least) least in
    let cells = div-mul-le_self (bytes / 4) n in
    record {
      rom = rom;
      is = refl;
      images = images;
      serves = (serves images words sound few (omega (arith, cells, fit))).1;
      programs = ap (λ (s : Slots). s.programs) is ∙ long_as (x ∷ xs) (p ∷ ps) all;
      seated = λ g q at. (let w = seated_first x.image (x ∷ xs) (p ∷ ps) rom n g q all at in seat_of w.0 q rom images g w.1 w.2);
      services = omega (arith, ap (λ (s : Slots). s.counts.services) is);
    }

pub seen_first : (xs : List Guest) (ps : List Process) (rom : Slots) (bytes n : ℕ) → AllStarted xs ps → n ≡ most_words xs → rom ≡ empty_slots (bytes / 4 / n) n (length xs) → kept_by rom ≡ empty_record →
    seen (share_of ps rom) ≡ shared_start bytes xs
seen_first xs ps rom bytes n all most is kept =
    ap (λ (s : Setting). let y : Shared = record { setting = s; kept = kept_by rom; contexts = map context_of ps; output = []; error = []; sets = 0; fetches = 0; words = [] } in y)
    (ap (λ (s : Slots). setting_of s) is ∙ ap (λ (k : ℕ). let y : Setting = record { slots = bytes / 4 / k; slot_words = k; programs = length xs } in y) most)
    ∙ ap (λ (r : Record). let y : Shared = record { setting = record { slots = bytes / 4 / most_words xs; slot_words = most_words xs; programs = length xs }; kept = r; contexts = map context_of ps; output = []; error = []; sets = 0; fetches = 0; words = [] } in y) kept
    ∙ ap (λ (cs : List (Option Context)). let y : Shared = record { setting = record { slots = bytes / 4 / most_words xs; slot_words = most_words xs; programs = length xs }; kept = empty_record; contexts = cs; output = []; error = []; sets = 0; fetches = 0; words = [] } in y)
    (contexts_first xs ps all)

-- ---- the most words of a block

most_by : (a m r : ℕ) → max (max a m) r ≡ max m (max a r)
most_by a m r = grind arith

pub most_step : (xs : List Guest) (i : ℕ) (x : Guest) (m new : ℕ) → i < length xs → x ≡ slice_index_or xs i x → new ≡ max x.image.block_words m →
    max new (most_words (drop (i + 1) xs)) ≡ max m (most_words (drop i xs))
unfolding most_words
most_step xs i x m new lt read is =
    let split : most_words (drop i xs) ≡ max x.image.block_words (most_words (drop (i + 1) xs)) =
    ap (λ (ys : List Guest). most_words ys) (drop_more xs i x lt) ∙ ap (λ (y : Guest). max y.image.block_words (most_words (drop (i + 1) xs))) (sym read) in
    ap (λ (n : ℕ). max n (most_words (drop (i + 1) xs))) is ∙ most_by x.image.block_words m (most_words (drop (i + 1) xs)) ∙ ap (λ (n : ℕ). max m n) (sym split)

pub most_last : (xs : List Guest) (i m : ℕ) → length xs ≤ i → max m (most_words (drop i xs)) ≡ most_words xs → m ≡ most_words xs
unfolding most_words
most_last xs i m le is = front m ∙ ap (λ (ys : List Guest). max m (most_words ys)) (sym (drop_all i xs le)) ∙ is
  where
    front : (n : ℕ) → n ≡ max n 0
    front n = grind arith
