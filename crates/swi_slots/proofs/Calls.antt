-- The calls of a service with slots, as their code meets them.
use Rattle.std.proofs.Common.{◌≡◌, ℕ, ◌+◌, ◌*◌, ◌/◌, ◌<◌, ◌≤◌, ◌^◌, false, List, length, Option, None, Some, Ok, Err, slice_index, slice_index_or, arith, refl, sym, ◌∙◌, ap, subst}
use Rattle.std.proofs.lemmas.List.{get_or_read}
use Rattle.std.proofs.lemmas.Nat.{row_fits, div_below}
use Rattle.swi_image.specs.Format.{ImageData}
use Rattle.swi_image.specs.Place.{place_of, length_at}
use Rattle.swi_outside.specs.CacheRam.{RamState}
use Rattle.swi_rom.specs.Record.{Record, direct, indirect, Placed, is_linked}
use Rattle.swi_rom.specs.Coherent.{ExitAt, TargetAt}
use Rattle.swi_slots.specs.Fifo.{fifo}
use Rattle.swi_rom.specs.Served.{Served}
use Rattle.swi_slots.specs.Slots.{Slots, InShape, kept_by, setting_of, span_of}
use Rattle.swi_slots.specs.Keys.{Images, key_of}
use Rattle.swi_slots.specs.Sound.{SlotsSound, Serves}
use Rattle.swi_rom.specs.Writing.{FailedBelow}
use Rattle.swi_slots.specs.Steps.{counted_slots, IsAbsent, MaybeLinked, can_link}
use Rattle.swi_slots.specs.Arrived.{Arrived}
use Rattle.swi_rom.specs.declared.rom.RomStop.TheVariants.{RamFault}
use Rattle.swi_slots.specs.Queue.{length_queue, placed_slot, slot_placed}
use Rattle.swi_slots.specs.SlotLinks.{word_slot}
use Rattle.swi_rom.specs.Rams.{failed_more}
use Rattle.swi_slots.proofs.Policy.{counted_forward}
use Rattle.swi_rom.specs.Serving.{fault_served}
use Rattle.swi_slots.proofs.Crossing.{ExitIn, exit_in, free_stays, exit_same, entered, crossed, crossed_sound}
use Rattle.swi_image.specs.Sound.{IsImage}
use Rattle.swi_image.specs.Laws.{place_inside}
use Rattle.swi_rom.specs.Blocks.{block_short, known_few}
use Rattle.swi_slots.proofs.Arriving.{hit_arrived}

-- an arrival, for all images that the programs may have
abbrev pub Arrives : ImageData → Slots → ℕ → ℕ → Slots → RamState → RamState → Type 0
Arrives v s c slot t a b = (vs : Images) → Serves s v vs a.words → Arrived vs s c slot t a b

-- at those of which the service knows
known_arrived : (v : ImageData) (s t : Slots) (c slot : ℕ) (a b : RamState) → (sound : SlotsSound s v a.words) → Arrives v s c slot t a b → Arrived sound.0 s c slot t a b
known_arrived v s t c slot a b sound all = all sound.0 sound.1

pub arrived_serves : (v : ImageData) (s t : Slots) (c slot : ℕ) (a b : RamState) → Arrives v s c slot t a b → (vs : Images) → Serves s v vs a.words → Serves t v vs b.words
arrived_serves v s t c slot a b all vs serves = let arr = all vs serves in (ap (λ (p : ℕ). vs p) arr.turn_stays ∙ serves.0, arr.sound)

pub arrived_sound : (v : ImageData) (s t : Slots) (c slot : ℕ) (a b : RamState) → SlotsSound s v a.words → Arrives v s c slot t a b → SlotsSound t v b.words
arrived_sound v s t c slot a b sound all = (sound.0, arrived_serves v s t c slot a b all sound.0 sound.1)

-- what a place says of its block
pub place_block : (v : ImageData) (s : Slots) (words : List ℕ) (p : ℕ × ℕ) (target : ℕ) → SlotsSound s v words → Some p ≡ place_of v target → (p.0 < length v.blocks) × (p.1 < s.size)
place_block v s words p target sound e =
    let image : IsImage v = subst (λ (w : ImageData). IsImage w) sound.1.0 (sound.1.1.images s.turn) in
    let w = place_inside v image target p.0 p.1 (sym e) in
    (w.0, omega (arith, w.1, block_short v p.0 image w.0, subst (λ (x : ImageData). x.block_words ≤ s.size) sound.1.0 (sound.1.1.size_most s.turn)))

-- the answer is the index of a word of the slots
pub index_below : (v : ImageData) (s t : Slots) (c q slot : ℕ) (a b : RamState) → SlotsSound s v a.words → Arrives v s c slot t a b → q < s.size → slot * s.size + q < s.slots * s.size
index_below v s t c q slot a b sound all lt =
    let arr = known_arrived v s t c slot a b sound all in
    omega (arith, row_fits slot s.size s.slots s.size (omega (arith, arr.filled, arr.sound.shape.filled_most, arr.slots_stay)) (omega arith))

pub index_fits : (v : ImageData) (s t : Slots) (c q slot n : ℕ) (a b : RamState) → SlotsSound s v a.words → Arrives v s c slot t a b → q < s.size → n ≡ s.size → slot * n + q < 2 ^ 22
index_fits v s t c q slot n a b sound all lt e =
    omega (arith, index_below v s t c q slot a b sound all lt, sound.1.1.shape.words_few, ap (λ (x : ℕ). slot * x + q) e)

pub entered_call : (v : ImageData) (s t : Slots) (c q slot n target : ℕ) (a b : RamState) → SlotsSound s v a.words → Arrives v s c slot t a b → place_of v target ≡ Some (c, q) → n ≡ s.size →
    Served v (span_of (setting_of s)) target (kept_by s) (fifo (setting_of s) (kept_by s) v (indirect target)) (kept_by t) a b (Ok (slot * n + q))
entered_call v s t c q slot n target a b sound all is e =
    let arr = known_arrived v s t c slot a b sound all in
    let is' : place_of (sound.0 s.turn) target ≡ Some (c, q) = ap (λ (w : ImageData). place_of w target) sound.1.0 ∙ is in
    subst (λ (x : ℕ). Served v (span_of (setting_of s)) target (kept_by s) (fifo (setting_of s) (kept_by s) v (indirect target)) (kept_by t) a b (Ok (slot * x + q))) (sym e)
    (subst (λ (w : ImageData). Served w (span_of (setting_of s)) target (kept_by s) (fifo (setting_of s) (kept_by s) w (indirect target)) (kept_by t) a b (Ok (slot * s.size + q))) sound.1.0
    (entered sound.0 s t c q slot target a b arr is'))

-- a block's number is small
pub block_small : (v : ImageData) (s : Slots) (words : List ℕ) (b : ℕ) → SlotsSound s v words → b < length v.blocks → b < 2 ^ 19
block_small v s words b sound lt = known_few v b (subst (λ (w : ImageData). IsImage w) sound.1.0 (sound.1.1.images s.turn)) lt

-- the block of a place stood
pub stood : (s : Slots) (v : ImageData) (b n : ℕ) (a : RamState) → SlotsSound s v a.words → b < length v.blocks → n < s.filled → slice_index s.blocks n ≡ key_of s.turn b → Arrives v s b n (counted_slots s) a a
stood s v b n a sound known lt e vs serves = hit_arrived s vs b n a serves.1 lt (block_small v s a.words b sound known) e

-- a block's target stands in its slot
pub found_target : (v : ImageData) (s : Slots) (words : List ℕ) (b o n size target : ℕ) → SlotsSound s v words → Some (b, o) ≡ place_of v target → n < s.filled → slice_index s.blocks n ≡ key_of s.turn b → size ≡ s.size → TargetAt v (kept_by s) target (n * size + o)
found_target v s words b o n size target sound is lt e size_is = record {
  block = b;
  offset = o;
  first = n * s.size;
  place_is = sym is;
  is_placed = slot_placed s n b sound.1.1.shape lt (block_small v s words b sound (place_block v s words (b, o) target sound is).0) e;
  index = ap (λ (x : ℕ). n * x + o) size_is;
}

-- a jump to a target that stands, once a service is counted
pub visited : (v : ImageData) (s t : Slots) (target i : ℕ) (a : RamState) → t ≡ counted_slots s → SlotsSound s v a.words → TargetAt v (kept_by s) target i →
    Served v (span_of (setting_of s)) target (kept_by s) (fifo (setting_of s) (kept_by s) v (indirect target)) (kept_by t) a a (Ok i)
visited v s t target i a e sound at =
    let slot = placed_slot s at.block at.first sound.1.1.shape at.is_placed in
    let known = (place_block v s a.words (at.block, at.offset) target sound (sym at.place_is)).0 in
    let hit = subst (λ (x : Slots). Arrives v s at.block slot.0 x a a) (sym e) (stood s v at.block slot.0 a sound known slot.1 slot.2) in
    subst (λ (j : ℕ). Served v (span_of (setting_of s)) target (kept_by s) (fifo (setting_of s) (kept_by s) v (indirect target)) (kept_by t) a a (Ok j)) (ap (λ (f : ℕ). f + at.offset) slot.3 ∙ sym at.index)
    (entered_call v s t at.block at.offset slot.0 s.size target a a sound hit at.place_is refl)

-- a block that stands in no slot has no placed target
pub absent_target : (v : ImageData) (s : Slots) (words : List ℕ) (b o target i : ℕ) → SlotsSound s v words → place_of v target ≡ Some (b, o) → IsAbsent s (key_of s.turn b) → TargetAt v (kept_by s) target i → ⊥
unfolding Placed
absent_target v s words b o target i sound is absent at =
    let same : Some (at.block, at.offset) ≡ Some (b, o) = sym at.place_is ∙ is in
    let stands = placed_slot s at.block at.first sound.1.1.shape at.is_placed in
    absent stands.0 stands.1 (stands.2 ∙ ap (λ (x : ℕ). key_of s.turn x) (ap (λ (p : Option (ℕ × ℕ)). block_in p) same))
  where
    block_in : Option (ℕ × ℕ) → ℕ
    block_in None = 0
    block_in (Some p) = p.0

-- an exit of the program in turn, as the images say of which the service knows
exit_at : (v : ImageData) (s : Slots) (words : List ℕ) (at target : ℕ) → (sound : SlotsSound s v words) → ExitAt v (kept_by s) at target → ExitIn sound.0 s at target
exit_at v s words at target sound x =
    exit_in sound.0 s words at target sound.1.1 (subst (λ (w : ImageData). ExitAt w (kept_by s) at target) (sym sound.1.0) x)

pub links_same : (v : ImageData) (s t : Slots) (c slot : ℕ) (a b : RamState) → SlotsSound s v a.words → Arrives v s c slot t a b → 0 < s.filled → t.counts.links ≡ s.counts.links
links_same v s t c slot a b sound all some =
    let arr = known_arrived v s t c slot a b sound all in
    ap (λ (r : Record). r.counts.links) arr.moves ∙ (counted_forward (setting_of s) (sound.0 s.turn) (kept_by s) c (omega (arith, length_queue s sound.1.1.shape))).1

pub exit_row : (vs : Images) (s : Slots) (at target : ℕ) → (e : ExitIn vs s at target) → at / s.size ≡ e.slot
exit_row vs s at target e = ap (λ (x : ℕ). x / s.size) e.index ∙ (word_slot s e.slot e.offset e.inside).0

pub exit_below : (vs : Images) (s : Slots) (at target : ℕ) → InShape s → ExitIn vs s at target → at < s.slots * s.size
exit_below vs s at target shape e = omega (arith, e.index, row_fits e.slot s.size s.slots s.size (omega (arith, e.filled, shape.filled_most)) (omega arith), e.inside)

pub exit_not_linked : (v : ImageData) (s : Slots) (words : List ℕ) (at target b o f : ℕ) → SlotsSound s v words → ExitAt v (kept_by s) at target → Placed (kept_by s) b f → o < length_at v b → at ≡ f + o → is_linked (kept_by s) b o ≡ false
exit_not_linked v s words at target b o f sound x h lt at_is =
    let e = exit_at v s words at target sound x in
    let same = exit_same sound.0 s words at target b o f sound.1.1 e h (subst (λ (w : ImageData). o < length_at w b) (sym sound.1.0) lt) at_is in
    subst (λ (k : ℕ). is_linked (kept_by s) b k ≡ false) same.1 (subst (λ (c : ℕ). is_linked (kept_by s) c e.offset ≡ false) same.0 e.unlinked)

home_is : (vs : Images) (s : Slots) (at target home : ℕ) → (e : ExitIn vs s at target) → home ≡ slice_index s.blocks (at / s.size) → home ≡ slice_index s.blocks e.slot
home_is vs s at target home e is = is ∙ ap (λ (x : ℕ). slice_index s.blocks x) (exit_row vs s at target e)

maybe_at : (vs : Images) (s t u : Slots) (q slot at target home index : ℕ) (b d : RamState) → (e : ExitIn vs s at target) → home ≡ slice_index s.blocks (at / s.size) → index ≡ slot * s.size + q →
    MaybeLinked t u (can_link t at home index) at slot index b d → MaybeLinked t u (can_link t at (slice_index s.blocks e.slot) (slot * s.size + q)) at slot (slot * s.size + q) b d
maybe_at vs s t u q slot at target home index b d e home_at index_is maybe =
    subst (λ (i : ℕ). MaybeLinked t u (can_link t at (slice_index s.blocks e.slot) i) at slot i b d) index_is
    (subst (λ (k : ℕ). MaybeLinked t u (can_link t at k index) at slot index b d) (home_is vs s at target home e home_at) maybe)

pub crossed_call : (v : ImageData) (s t u : Slots) (c q slot at target home index : ℕ) (a b d : RamState) → SlotsSound s v a.words → ExitAt v (kept_by s) at target → place_of v target ≡ Some (c, q) → Arrives v s c slot t a b →
    home ≡ slice_index s.blocks (at / s.size) → index ≡ slot * s.size + q → MaybeLinked t u (can_link t at home index) at slot index b d →
    (bl o f : ℕ) → Placed (kept_by s) bl f → o < length_at v bl → at ≡ f + o →
    Served v (span_of (setting_of s)) target (kept_by s) (fifo (setting_of s) (kept_by s) v (direct bl o target)) (kept_by u) a d (Ok index)
crossed_call v s t u c q slot at target home index a b d sound x is all home_at index_is maybe bl o f h lt at_is =
    let e = exit_at v s a.words at target sound x in
    let arr = known_arrived v s t c slot a b sound all in
    let is' : place_of (sound.0 s.turn) target ≡ Some (c, q) = ap (λ (w : ImageData). place_of w target) sound.1.0 ∙ is in
    subst (λ (i : ℕ). Served v (span_of (setting_of s)) target (kept_by s) (fifo (setting_of s) (kept_by s) v (direct bl o target)) (kept_by u) a d (Ok i)) (sym index_is)
    (subst (λ (w : ImageData). Served w (span_of (setting_of s)) target (kept_by s) (fifo (setting_of s) (kept_by s) w (direct bl o target)) (kept_by u) a d (Ok (slot * s.size + q))) sound.1.0
    (crossed sound.0 s t u c q slot at target a b d sound.1.1 e is' arr (maybe_at sound.0 s t u q slot at target home index b d e home_at index_is maybe) bl o f h (subst (λ (w : ImageData). o < length_at w bl) (sym sound.1.0) lt) at_is))

pub crossed_serves : (v : ImageData) (s t u : Slots) (c q slot at target home index : ℕ) (a b d : RamState) → ExitAt v (kept_by s) at target → place_of v target ≡ Some (c, q) → Arrives v s c slot t a b →
    home ≡ slice_index s.blocks (at / s.size) → index ≡ slot * s.size + q → MaybeLinked t u (can_link t at home index) at slot index b d →
    (vs : Images) → Serves s v vs a.words → Serves u v vs d.words
crossed_serves v s t u c q slot at target home index a b d x is all home_at index_is maybe vs serves =
    let known : SlotsSound s v a.words = (vs, serves) in
    let e = exit_at v s a.words at target known x in
    let is' : place_of (vs s.turn) target ≡ Some (c, q) = ap (λ (w : ImageData). place_of w target) serves.0 ∙ is in
    let w = crossed_sound vs s t u c q slot at target a b d serves.1 e is' (all vs serves) (maybe_at vs s t u q slot at target home index b d e home_at index_is maybe) in
    (ap (λ (p : ℕ). vs p) w.1 ∙ serves.0, w.0)

-- the slot of a word is one of them
pub slot_within : (s t : Slots) (at n : ℕ) → s ≡ t → InShape s → at < t.slots * t.size → n ≡ at / s.size → n < length s.blocks
slot_within s t at n e shape lt is =
    let below : at < s.slots * s.size = subst (λ (x : Slots). at < x.slots * x.size) (sym e) lt in
    omega (arith, is, div_below at s.size s.slots (omega (arith, shape.size_least)) below, shape.blocks_long)

-- the block that was read there
pub slot_read : (s t : Slots) (at n b : ℕ) → s ≡ t → InShape s → at < t.slots * t.size → n ≡ at / s.size → b ≡ slice_index_or s.blocks n b → b ≡ slice_index t.blocks (at / t.size)
slot_read s t at n b e shape lt is read =
    get_or_read s.blocks n b (slot_within s t at n e shape lt is) read 0 ∙ ap (λ (k : ℕ). slice_index s.blocks k) is ∙ ap (λ (x : Slots). slice_index x.blocks (at / x.size)) e

-- an exit stands in a slot
pub exit_within : (v : ImageData) (s : Slots) (words : List ℕ) (at target : ℕ) → SlotsSound s v words → ExitAt v (kept_by s) at target → at < s.slots * s.size
exit_within v s words at target sound x = exit_below sound.0 s at target sound.1.1.shape (exit_at v s words at target sound x)

pub exit_after : (v : ImageData) (s t : Slots) (c slot at target : ℕ) (a b : RamState) → SlotsSound s v a.words → ExitAt v (kept_by s) at target → Arrives v s c slot t a b → at < t.slots * t.size
exit_after v s t c slot at target a b sound x all =
    let arr = known_arrived v s t c slot a b sound all in
    subst (λ (m : ℕ). at < m * t.size) (sym arr.slots_stay) (subst (λ (n : ℕ). at < s.slots * n) (sym arr.size_stays) (exit_below sound.0 s at target sound.1.1.shape (exit_at v s a.words at target sound x)))

pub index_after : (v : ImageData) (s t : Slots) (c q slot n : ℕ) (a b : RamState) → SlotsSound s v a.words → Arrives v s c slot t a b → q < s.size → n ≡ s.size → slot * n + q < t.slots * t.size
index_after v s t c q slot n a b sound all lt e =
    let arr = known_arrived v s t c slot a b sound all in
    subst (λ (k : ℕ). slot * k + q < t.slots * t.size) (sym e)
    (subst (λ (m : ℕ). slot * s.size + q < m * t.size) (sym arr.slots_stay) (subst (λ (m : ℕ). slot * s.size + q < s.slots * m) (sym arr.size_stays) (index_below v s t c q slot a b sound all lt)))

pub links_after : (v : ImageData) (s t : Slots) (c slot at target : ℕ) (a b : RamState) → SlotsSound s v a.words → ExitAt v (kept_by s) at target → Arrives v s c slot t a b → s.counts.services < 2 ^ 50 → t.counts.links < 2 ^ 60
links_after v s t c slot at target a b sound x all few =
    let e = exit_at v s a.words at target sound x in
    omega (arith, links_same v s t c slot a b sound all (omega (arith, e.filled)), sound.1.1.links_few)

-- an exit whose block still stands in its slot is no link yet
pub free_after : (v : ImageData) (s t : Slots) (c slot at target home : ℕ) (a b : RamState) → SlotsSound s v a.words → ExitAt v (kept_by s) at target → Arrives v s c slot t a b →
    home ≡ slice_index s.blocks (at / s.size) → slice_index t.blocks (at / t.size) ≡ home → t.slots ≤ slice_index t.targets at
free_after v s t c slot at target home a b sound x all home_at stood =
    let e = exit_at v s a.words at target sound x in
    let arr = known_arrived v s t c slot a b sound all in
    let at_is : at ≡ e.slot * t.size + e.offset = e.index ∙ ap (λ (n : ℕ). e.slot * n + e.offset) (sym arr.size_stays) in
    let inside : e.offset < t.size = omega (arith, arr.size_stays, e.inside) in
    let row : at / t.size ≡ e.slot = ap (λ (n : ℕ). n / t.size) at_is ∙ (word_slot t e.slot e.offset inside).0 in
    let same : slice_index t.blocks e.slot ≡ slice_index s.blocks e.slot = ap (λ (n : ℕ). slice_index t.blocks n) (sym row) ∙ stood ∙ home_is sound.0 s at target home e home_at in
    ap_le (ap (λ (n : ℕ). slice_index t.targets n) at_is) (free_stays sound.0 s t c slot e.slot e.offset a b sound.1.1 arr e.filled e.inside e.free same)
  where
    ap_le : {m n k : ℕ} → m ≡ n → k ≤ n → k ≤ m
    ap_le e le = omega (arith, e)

pub crossed_fault : (v : ImageData) (s t u : Slots) (c q slot target : ℕ) (r : Record) (a b d : RamState) → SlotsSound s v a.words → place_of v target ≡ Some (c, q) → Arrives v s c slot t a b → FailedBelow (t.slots * t.size) b d →
    Served v (span_of (setting_of s)) target (kept_by s) r (kept_by u) a d (Err RamFault)
crossed_fault v s t u c q slot target r a b d sound is all failed =
    let arr = known_arrived v s t c slot a b sound all in
    fault_served v (s.slots * s.size) target (c, q) (kept_by s) r (kept_by u) a d is
    (failed_more (s.slots * s.size) (s.slots * s.size) _ a b d arr.wrote
    (subst (λ (m : ℕ). FailedBelow (m * s.size) b d) arr.slots_stay (subst (λ (n : ℕ). FailedBelow (t.slots * n) b d) arr.size_stays failed)) (omega arith))
