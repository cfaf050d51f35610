-- A whole call: an arrival, and after a direct exit the link.
use Rattle.std.proofs.Common.{◌≡◌, ℕ, ◌+◌, ◌-◌, ◌*◌, ◌/◌, ◌^◌, ◌<◌, ◌≤◌, ◌==◌, ◌&&◌, ◌||◌, Bool, true, false, List, Option, Some, None, Ok, Err, slice_index, slice_set, arith, refl, sym, ◌∙◌, ap, subst, inl, inr}
use Rattle.std.proofs.lemmas.Bool.{cases_Bool, cases_eq, cases_lt, ltb-false, both_ways, and_left, or_left, false_from_ne_true, eqb-true, eqb-false, or_parts, and_parts}
use Rattle.std.proofs.lemmas.Nat.{same_from_place}
use Rattle.std.proofs.lemmas.List.{get_or-set_same, get_or-set_other}
use Rattle.swi_image.specs.Format.{ImageData}
use Rattle.swi_image.specs.Place.{place_of, length_at}
use Rattle.swi_outside.specs.CacheRam.{RamState}
use Rattle.swi_rom.specs.Record.{Record, Link, Transfer, direct, indirect, target_of, Has, Placed, has_link, same_link, is_linked, writes, reaches}
use Rattle.swi_rom.specs.Coherent.{TargetAt, ExitAt}
use Rattle.swi_rom.specs.Policy.{served_by, went, linked, is_over_link, counted, is_placed, first_of, with_link}
use Rattle.swi_rom.specs.Service.{Setting}
use Rattle.swi_slots.specs.Fifo.{fifo, arrived}
use Rattle.swi_rom.specs.Served.{Served, WordsMove}
use Rattle.swi_slots.specs.Slots.{Slots, links_of, queue_of, kept_by, setting_of, span_of}
use Rattle.swi_slots.specs.Keys.{Images, key_of, owner_of, number_of, key_owner, key_number, key_parts, word_in, ExitOf, key_place, goes}
use Rattle.swi_slots.specs.Sound.{SlotsServe}
use Rattle.swi_rom.specs.Writing.{Wrote}
use Rattle.swi_slots.specs.Steps.{Linked, MaybeLinked, can_link}
use Rattle.swi_slots.specs.Arrived.{Arrived}
use Rattle.swi_rom.specs.declared.rom.RomStop.TheVariants.{Outside}
use Rattle.swi_rom.specs.Rams.{wrote_more}
use Rattle.swi_rom.specs.Serving.{served, none_served}
use Rattle.swi_rom.specs.Links.{has_with, same_is, same_same}
use Rattle.swi_slots.specs.Queue.{has_slot, slot_has, placed_slot, slot_placed, length_queue}
use Rattle.swi_slots.specs.SlotLinks.{Tidy, link_of, link_key, link_target, never_link, linked_word, word_linked, among_is, word_slot}
use Rattle.swi_slots.specs.Coheres.{tidy_of, length_most, placed_most, exit_key, key_word}
use Rattle.swi_slots.proofs.Missing.{slot_cases}
use Rattle.swi_slots.proofs.Arriving.{slot_is_placed, is_placed_slot, same_queue}
use Rattle.swi_slots.proofs.Policy.{counted_forward}
use Rattle.swi_slots.proofs.Linking.{first_of_slot, linked_slots, CanLink, made_link, not_yet, linked_links, linked_sound}

arrived_target : (vs : Images) (s t : Slots) (c q slot target : ℕ) (a b : RamState) → Arrived vs s c slot t a b → place_of (vs s.turn) target ≡ Some (c, q) → TargetAt (vs s.turn) (kept_by t) target (slot * s.size + q)
arrived_target vs s t c q slot target a b arr is = record {
  block = c;
  offset = q;
  first = slot * t.size;
  place_is = is;
  is_placed = slot_placed t slot c arr.sound.shape arr.filled arr.small (arr.stands ∙ ap (λ (p : ℕ). key_of p c) (sym arr.turn_stays));
  index = ap (λ (x : ℕ). slot * x + q) (sym arr.size_stays);
}

outside_moves : (by : Setting) (v : ImageData) (r : Record) (t : Transfer) → is_over_link r t ≡ false → place_of v (target_of t) ≡ None → r ≡ fifo by r v t
unfolding served_by went
outside_moves by v r t over none = rw (over, none) refl

pub outside_served : (v : ImageData) (s : Slots) (t : Transfer) (a : RamState) → is_over_link (kept_by s) t ≡ false → place_of v (target_of t) ≡ None →
    Served v (span_of (setting_of s)) (target_of t) (kept_by s) (fifo (setting_of s) (kept_by s) v t) (kept_by s) a a (Err Outside)
outside_served v s t a over none = none_served v _ _ _ _ a none (outside_moves (setting_of s) v (kept_by s) t over none)

indirect_moves : (v : ImageData) (s : Slots) (target c q : ℕ) → place_of v target ≡ Some (c, q) → arrived (setting_of s) v (counted (kept_by s)) c ≡ fifo (setting_of s) (kept_by s) v (indirect target)
unfolding served_by went
indirect_moves v s target c q is = rw is refl

-- a jump
pub entered : (vs : Images) (s t : Slots) (c q slot target : ℕ) (a b : RamState) → Arrived vs s c slot t a b → place_of (vs s.turn) target ≡ Some (c, q) →
    Served (vs s.turn) (span_of (setting_of s)) target (kept_by s) (fifo (setting_of s) (kept_by s) (vs s.turn) (indirect target)) (kept_by t) a b (Ok (slot * s.size + q))
entered vs s t c q slot target a b arr is =
    served (vs s.turn) (s.slots * s.size) target (slot * s.size + q) _ (c, q) (kept_by s) _ (kept_by t) a b is (arr.moves ∙ indirect_moves (vs s.turn) s target c q is) (arrived_target vs s t c q slot target a b arr is) arr.wrote refl arr.words

-- an exit of block `block` of the program in turn by its slot
pub record ExitIn (vs : Images) (s : Slots) (at target : ℕ) : Type 0 where
  pub slot : ℕ
  pub offset : ℕ
  pub block : ℕ
  pub filled : slot < s.filled
  pub inside : offset < s.size
  pub small : block < 2 ^ 19
  pub key : slice_index s.blocks slot ≡ key_of s.turn block
  pub index : at ≡ slot * s.size + offset
  pub is_exit : ExitOf vs (slice_index s.blocks slot) offset
  pub free : s.slots ≤ slice_index s.targets (slot * s.size + offset)
  pub unlinked : is_linked (kept_by s) block offset ≡ false
  pub descriptor : target ≡ word_in vs (slice_index s.blocks slot) (offset + 1)

pub exit_in : (vs : Images) (s : Slots) (words : List ℕ) (at target : ℕ) → SlotsServe s vs words → ExitAt (vs s.turn) (kept_by s) at target → ExitIn vs s at target
exit_in vs s words at target sound e =
    let p = placed_slot s e.block e.first sound.shape e.is_placed in
    let exit : ExitOf vs (slice_index s.blocks p.0) e.offset = subst (λ (k : ℕ). ExitOf vs k e.offset) (sym p.2) (exit_key vs s.turn e.block e.offset p.4 e.is_exit) in
    let inside : e.offset < s.size = omega (arith, length_most s vs words p.0 sound p.1, exit.inside) in
    record {
      slot = p.0;
      offset = e.offset;
      block = e.block;
      filled = p.1;
      inside = inside;
      small = p.4;
      key = p.2;
      index = e.index ∙ ap (λ (f : ℕ). f + e.offset) (sym p.3);
      is_exit = exit;
      free = ltb-false _ _ (sym (among_is s p.0 s.turn e.block e.offset (tidy_of s vs words sound) p.1 inside p.4 p.2) ∙ e.not_linked);
      unlinked = e.not_linked;
      descriptor = e.descriptor ∙ sym (ap (λ (k : ℕ). word_in vs k (e.offset + 1)) p.2 ∙ key_word vs s.turn e.block (e.offset + 1) p.4);
    }

-- the exit that stands at an index is one
pub exit_same : (vs : Images) (s : Slots) (words : List ℕ) (at target b o f : ℕ) → SlotsServe s vs words → (e : ExitIn vs s at target) → Placed (kept_by s) b f → o < length_at (vs s.turn) b → at ≡ f + o → (e.block ≡ b) × (e.offset ≡ o)
exit_same vs s words at target b o f sound e h lt at_is =
    let p = placed_slot s b f sound.shape h in
    let inside : o < s.size = omega (arith, placed_most s vs words p.0 b sound p.1 p.2 p.4) in
    let same = same_from_place e.slot e.offset p.0 o s.size e.inside inside (sym e.index ∙ at_is ∙ ap (λ (x : ℕ). x + o) (sym p.3)) in
    let key : key_of s.turn e.block ≡ key_of s.turn b = sym e.key ∙ ap (λ (x : ℕ). slice_index s.blocks x) same.0 ∙ p.2 in
    (sym (key_number s.turn e.block e.small) ∙ ap number_of key ∙ key_number s.turn b p.4, same.1)

-- a block that has lost its slot stands nowhere
lost_block : (vs : Images) (s t : Slots) (c slot n h : ℕ) (a b : RamState) → SlotsServe s vs a.words → Arrived vs s c slot t a b → n < s.filled → slice_index s.blocks n ≡ key_of s.turn h → (slice_index t.blocks n ≡ slice_index s.blocks n → ⊥) → is_placed (kept_by t) h ≡ false
lost_block vs s t c slot n h a b sound arr lt key ne =
    false_from_ne_true (is_placed (kept_by t) h) (λ (p : is_placed (kept_by t) h ≡ true).
    let w = is_placed_slot t h arr.sound.shape p in
    let stood : slice_index t.blocks w.0 ≡ slice_index s.blocks n = w.2 ∙ ap (λ (x : ℕ). key_of x h) arr.turn_stays ∙ sym key in
    elim arr.blocks_move [
      | inl same ↦ ne (ap (λ (bs : List ℕ). slice_index bs n) same.0)
      | inr moved ↦ elim (slot_cases s w.0 sound.shape (omega (arith, w.1, moved.1))) [
        | inl here ↦ (let is : slice_index t.blocks w.0 ≡ key_of s.turn c = ap (λ (bs : List ℕ). slice_index bs w.0) moved.0 ∙ ap (λ (m : ℕ). slice_index (slice_set s.blocks s.next (key_of s.turn c)) m) here ∙ get_or-set_same s.blocks s.next (key_of s.turn c) 0 (omega (arith, sound.shape.next_below, sound.shape.blocks_long)) in
            moved.2 n lt (sym stood ∙ is))
        | inr other ↦ (let is : slice_index t.blocks w.0 ≡ slice_index s.blocks w.0 = ap (λ (bs : List ℕ). slice_index bs w.0) moved.0 ∙ get_or-set_other s.blocks s.next w.0 (key_of s.turn c) 0 other.1 in
            ne (ap (λ (m : ℕ). slice_index t.blocks m) (sym (sound.distinct w.0 n other.0 lt (sym is ∙ stood))) ∙ stood))
      ]
    ])

-- the code's test is the policy's
link_test : (vs : Images) (s t : Slots) (c q slot n h o : ℕ) (a b : RamState) → SlotsServe s vs a.words → Arrived vs s c slot t a b → n < s.filled → o < s.size → h < 2 ^ 19 → slice_index s.blocks n ≡ key_of s.turn h →
    (is_placed (kept_by t) h && reaches (first_of (kept_by t) h + o) (first_of (kept_by t) c + q))
    ≡ can_link t (n * s.size + o) (slice_index s.blocks n) (slot * s.size + q)
link_test vs s t c q slot n h o a b sound arr lt lt' small key =
    let row : (n * s.size + o) / t.size ≡ n = ap (λ (x : ℕ). (n * s.size + o) / x) arr.size_stays ∙ (word_slot s n o lt').0 in
    let tidy : Tidy t = tidy_of t vs b.words arr.sound in
    elim (cases_Bool (slice_index t.blocks n == slice_index s.blocks n)) [
      | inl stood ↦ (let stays : slice_index t.blocks n ≡ slice_index s.blocks n = eqb-true _ _ stood in
          let here : n < t.filled = omega (arith, arr.grows) in
          let key' : slice_index t.blocks n ≡ key_of t.turn h = stays ∙ key ∙ ap (λ (x : ℕ). key_of x h) (sym arr.turn_stays) in
          let placed : is_placed (kept_by t) h ≡ true = slot_is_placed t n h tidy.shape here small key' in
          let first : first_of (kept_by t) h ≡ n * s.size = first_of_slot t n h tidy here small key' ∙ ap (λ (x : ℕ). n * x) arr.size_stays in
          let first' : first_of (kept_by t) c ≡ slot * s.size = first_of_slot t slot c tidy arr.filled arr.small (arr.stands ∙ ap (λ (x : ℕ). key_of x c) (sym arr.turn_stays)) ∙ ap (λ (x : ℕ). slot * x) arr.size_stays in
          rw (placed, first, first', row, stood) refl)
      | inr gone ↦ and_left _ _ (lost_block vs s t c slot n h a b sound arr lt key (eqb-false _ _ gone)) ∙ sym (and_left _ _ (ap (λ (x : ℕ). slice_index t.blocks x == slice_index s.blocks n) row ∙ gone))
    ]

direct_moves : (v : ImageData) (s : Slots) (b o target c q : ℕ) → is_linked (kept_by s) b o ≡ false → place_of v target ≡ Some (c, q) →
    linked with_link (arrived (setting_of s) v (counted (kept_by s)) c) b o (c, q) ≡ fifo (setting_of s) (kept_by s) v (direct b o target)
unfolding served_by went
direct_moves v s b o target c q free is = rw (free, is) refl

linked_when : (r : Record) (b o : ℕ) (p : ℕ × ℕ) → (is_placed r b && reaches (first_of r b + o) (first_of r p.0 + p.1)) ≡ true →
    linked with_link r b o p ≡ record r { links = with_link (record { program = r.turn; block = b; offset = o; into = p.0 }) r.links; counts = record r.counts { links = r.counts.links + 1 } }
unfolding linked
linked_when r b o p t = rw t refl

linked_not : (r : Record) (b o : ℕ) (p : ℕ × ℕ) → (is_placed r b && reaches (first_of r b + o) (first_of r p.0 + p.1)) ≡ false → linked with_link r b o p ≡ r
unfolding linked
linked_not r b o p t = rw t refl

-- a link after the arrival was one before
links_before : (vs : Images) (s t : Slots) (c slot : ℕ) (a b : RamState) → SlotsServe s vs a.words → Arrived vs s c slot t a b → 0 < s.filled → (k : Link) → has_link (links_of t) k ≡ true → has_link (links_of s) k ≡ true
links_before vs s t c slot a b sound arr some k h =
    (counted_forward (setting_of s) (vs s.turn) (kept_by s) c (omega (arith, length_queue s sound.shape))).0 k (sym (ap (λ (r : Record). has_link r.links k) arr.moves) ∙ h)

counts_after : (vs : Images) (s t : Slots) (c slot : ℕ) (a b : RamState) → SlotsServe s vs a.words → Arrived vs s c slot t a b → 0 < s.filled →
    (t.counts.links < t.counts.services) × (writes (kept_by s) ≤ writes (kept_by t))
counts_after vs s t c slot a b sound arr some =
    let f = counted_forward (setting_of s) (vs s.turn) (kept_by s) c (omega (arith, length_queue s sound.shape)) in (
      omega (arith, sound.links_few, f.1, f.2, ap (λ (r : Record). r.counts.links) arr.moves, ap (λ (r : Record). r.counts.services) arr.moves),
      omega (arith, f.3, ap (λ (r : Record). writes r) arr.moves),
    )

-- an exit that was no link is none after the arrival, where its block still stands
pub free_stays : (vs : Images) (s t : Slots) (c slot n o : ℕ) (a b : RamState) → SlotsServe s vs a.words → Arrived vs s c slot t a b → n < s.filled → o < s.size → s.slots ≤ slice_index s.targets (n * s.size + o) →
    slice_index t.blocks n ≡ slice_index s.blocks n → t.slots ≤ slice_index t.targets (n * t.size + o)
free_stays vs s t c slot n o a b sound arr lt lt' free stays = elim (cases_lt (slice_index t.targets (n * t.size + o)) t.slots) [
  | inl small ↦ absurd (
      let was = links_before vs s t c slot a b sound arr (omega (arith, lt)) (link_of t n o) (word_linked t n o arr.sound.shape (omega (arith, lt, sound.shape.filled_most, arr.slots_stay)) (omega (arith, lt', arr.size_stays)) small) in
      let at = link_target s n o (link_of t n o) (tidy_of s vs a.words sound) lt (sym stays ∙ sym (key_parts (slice_index t.blocks n))) refl was in
      omega (arith, at, free))
  | inr le ↦ le
]

-- the exit can be linked where its block still stands
can_be : (vs : Images) (s t : Slots) (c q slot at target : ℕ) (a b : RamState) → SlotsServe s vs a.words → Arrived vs s c slot t a b → place_of (vs s.turn) target ≡ Some (c, q) → (e : ExitIn vs s at target) →
    slice_index t.blocks e.slot ≡ slice_index s.blocks e.slot → CanLink t vs e.slot e.offset slot q
can_be vs s t c q slot at target a b sound arr is e stays =
    let owner : owner_of (slice_index t.blocks e.slot) ≡ s.turn = ap owner_of (stays ∙ e.key) ∙ key_owner s.turn e.block e.small in
    record {
      filled = omega (arith, arr.grows, e.filled);
      inside = omega (arith, arr.size_stays, e.inside);
      free = free_stays vs s t c slot e.slot e.offset a b sound arr e.filled e.inside e.free stays;
      target = arr.filled;
      is_exit = subst (λ (x : ℕ). ExitOf vs x e.offset) (sym stays) e.is_exit;
      place_is = ap (λ (x : ℕ). goes vs (slice_index t.blocks e.slot) x) (ap (λ (x : ℕ). word_in vs x (e.offset + 1)) stays ∙ sym e.descriptor)
          ∙ ap (λ (p : ℕ). key_place p (place_of (vs p) target)) owner ∙ ap (λ (x : Option (ℕ × ℕ)). key_place s.turn x) is ∙ ap (λ (x : ℕ). Some (x, q)) (sym arr.stands);
    }

linked_kept : (t : Slots) (vs : Images) (n o slot q : ℕ) → Tidy t → CanLink t vs n o slot q →
    kept_by (linked_slots t (n * t.size + o) slot) ≡ record (kept_by t) { links = with_link (made_link t n o slot) (links_of t); counts = record t.counts { links = t.counts.links + 1 } }
linked_kept t vs n o slot q tidy can =
    rw (same_queue t (slice_set t.targets (n * t.size + o) slot) (record t.counts { links = t.counts.links + 1 }), linked_links t vs n o slot q tidy can) refl

abbrev pub with_new : Slots → ℕ → ℕ → ℕ → Record
with_new t n o slot = record (kept_by t) { links = with_link (made_link t n o slot) (links_of t); counts = record t.counts { links = t.counts.links + 1 } }

new_in : (t : Slots) (n o slot : ℕ) → has_link (with_link (made_link t n o slot) (links_of t)) (made_link t n o slot) ≡ true
new_in t n o slot = has_with (made_link t n o slot) (links_of t) (made_link t n o slot) ∙ or_left _ _ (same_same (made_link t n o slot))

-- an older link's word isn't that of the exit
other_link : (vs : Images) (s : Slots) (words : List ℕ) (n o f : ℕ) (k : Link) → SlotsServe s vs words → n < s.filled → o < s.size → s.slots ≤ slice_index s.targets (n * s.size + o) → has_link (links_of s) k ≡ true →
    Has (queue_of s) (record { program = k.program; block = k.block; first = f }) → f + k.offset ≡ n * s.size + o → ⊥
other_link vs s words n o f k sound lt lt' high was h e =
    let w = linked_word s k (tidy_of s vs words sound) was in
    let p = has_slot s k.program k.block f sound.shape h in
    let row : p.0 ≡ w.0 = sound.distinct p.0 w.0 p.1 w.2 (p.2 ∙ sym (link_key s w.0 w.1 k w.4)) in
    let at : w.0 * s.size + w.1 ≡ n * s.size + o = ap (λ (x : ℕ). x * s.size + w.1) (sym row) ∙ ap (λ (x : ℕ). x + w.1) p.3 ∙ ap (λ (x : ℕ). f + x) (ap (λ (x : Link). x.offset) w.4) ∙ e in
    let low : slice_index s.targets (n * s.size + o) < s.slots = subst (λ (j : ℕ). slice_index s.targets j < s.slots) at w.5 in
    omega (arith, high, low)

linked_words : (vs : Images) (s t u : Slots) (n o slot q to : ℕ) (a b d : RamState) → SlotsServe s vs a.words → Tidy t → n < s.filled → o < s.size → t.size ≡ s.size → CanLink t vs n o slot q →
    s.slots ≤ slice_index s.targets (n * s.size + o) → slice_index t.blocks n ≡ slice_index s.blocks n → t.turn ≡ s.turn →
    Linked t u (n * t.size + o) slot to b d → WordsMove (vs s.turn) (kept_by s) (kept_by t) a b → WordsMove (vs s.turn) (kept_by s) (with_new t n o slot) a d
unfolding Placed
linked_words vs s t u n o slot q to a b d sound tidy lt lt' size can free stays turn linked w =
    let k0 : Link = made_link t n o slot in
    let was : has_link (links_of s) (made_link t n o slot) ≡ false = never_link s n o (made_link t n o slot) (tidy_of s vs a.words sound) lt (sym stays ∙ sym (key_parts (slice_index t.blocks n))) refl free in
    let gone : has_link (links_of t) (made_link t n o slot) ≡ false = not_yet t vs n o slot q tidy can in
    record {
      changes = λ i. elim (cases_eq i (n * t.size + o)) [
        | inl e ↦ inr (inr (record {
          link = made_link t n o slot;
          first = n * t.size;
          stood = inr (slot_has t n tidy.shape can.filled);
          changed = λ same. both_ways (has_link (links_of s) (made_link t n o slot)) was (same ∙ new_in t n o slot);
          index = e;
        }))
        | inr ne ↦ elim (w.changes i) [
          | inl e ↦ inl (linked.others i ne ∙ e)
          | inr c ↦ elim c [
            | inl p ↦ inr (inl (record { block = p.block; first = p.first; offset = p.offset; stands = p.stands; is_new = p.is_new; inside = p.inside; index = p.index }))
            | inr l ↦ inr (inr (record {
              link = l.link;
              first = l.first;
              stood = l.stood;
              index = l.index;
              changed = λ same. elim (cases_Bool (same_link l.link (made_link t n o slot))) [
                | inl e ↦ (let is : l.link ≡ made_link t n o slot = same_is l.link (made_link t n o slot) e in
                    l.changed (ap (λ (x : Link). has_link (links_of s) x) is ∙ was ∙ sym gone ∙ ap (λ (x : Link). has_link (links_of t) x) (sym is)))
                | inr e ↦ l.changed (same ∙ has_with (made_link t n o slot) (links_of t) l.link ∙ ap (λ (x : Bool). x || has_link (links_of t) l.link) e)
              ];
            }))
          ]
        ]
      ];
      restored = λ k f old is h h'.
          (let parts = or_parts (same_link k (made_link t n o slot)) (has_link (links_of t) k) (sym (has_with (made_link t n o slot) (links_of t) k) ∙ is) in
          linked.others (f + k.offset) (λ (e : f + k.offset ≡ n * t.size + o). other_link vs s a.words n o f k sound lt lt' free old h (e ∙ ap (λ (x : ℕ). n * x + o) size)) ∙ w.restored k f old parts.1 h h');
    }

new_target : (v : ImageData) (t : Slots) (n o slot target i : ℕ) → TargetAt v (kept_by t) target i → TargetAt v (with_new t n o slot) target i
unfolding Placed
new_target v t n o slot target i at = record { block = at.block; offset = at.offset; first = at.first; place_is = at.place_is; is_placed = at.is_placed; index = at.index }

-- the link that is made is the policy's
made_parts : (t : Slots) (n o slot h c p : ℕ) → t.turn ≡ p → h < 2 ^ 19 → c < 2 ^ 19 → slice_index t.blocks n ≡ key_of p h → slice_index t.blocks slot ≡ key_of p c →
    let k : Link = record { program = t.turn; block = h; offset = o; into = c } in made_link t n o slot ≡ k
made_parts t n o slot h c p turn small small' key key' =
    rw (turn, key, key', key_owner p h small, key_number p h small, key_number p c small') refl

crossed_link : (vs : Images) (s t u : Slots) (c q slot at target : ℕ) (a b d : RamState) → SlotsServe s vs a.words → (e : ExitIn vs s at target) → place_of (vs s.turn) target ≡ Some (c, q) → Arrived vs s c slot t a b → 0 < s.filled →
    t.counts.links < t.counts.services → writes (kept_by s) ≤ writes (kept_by t) →
    Linked t u at slot (slot * s.size + q) b d → slice_index t.blocks e.slot ≡ slice_index s.blocks e.slot →
    let next : Record = record (kept_by t) { links = with_link (record { program = t.turn; block = e.block; offset = e.offset; into = c }) (links_of t); counts = record t.counts { links = t.counts.links + 1 } } in
    next ≡ fifo (setting_of s) (kept_by s) (vs s.turn) (direct e.block e.offset target) →
    Served (vs s.turn) (span_of (setting_of s)) target (kept_by s) (fifo (setting_of s) (kept_by s) (vs s.turn) (direct e.block e.offset target)) (kept_by u) a d (Ok (slot * s.size + q)) × SlotsServe u vs d.words × (u.turn ≡ s.turn)
crossed_link vs s t u c q slot at target a b d sound e is arr some few more linked stays moves =
    let n : ℕ = e.slot in
    let o : ℕ = e.offset in
    let tidy : Tidy t = tidy_of t vs b.words arr.sound in
    let can : CanLink t vs n o slot q = can_be vs s t c q slot at target a b sound arr is e stays in
    let at_is : at ≡ n * t.size + o = e.index ∙ ap (λ (x : ℕ). n * x + o) (sym arr.size_stays) in
    let linked' : Linked t u (n * t.size + o) slot (slot * s.size + q) b d = subst (λ (x : ℕ). Linked t u x slot (slot * s.size + q) b d) at_is linked in
    let u_is : u ≡ linked_slots t (n * t.size + o) slot = linked'.slots_are in
    let kept_u : kept_by u ≡ with_new t n o slot = ap (λ (x : Slots). kept_by x) u_is ∙ linked_kept t vs n o slot q tidy can in
    let whole : Linked t (linked_slots t (n * t.size + o) slot) (n * t.size + o) slot (slot * t.size + q) b d =
    subst (λ (x : Slots). Linked t x (n * t.size + o) slot (slot * t.size + q) b d) u_is
    (subst (λ (x : ℕ). Linked t u (n * t.size + o) slot (slot * x + q) b d) (sym arr.size_stays) linked') in
    let wrote : Wrote (s.slots * s.size) 1 b d = subst (λ (x : ℕ). Wrote (x * s.size) 1 b d) arr.slots_stay (subst (λ (x : ℕ). Wrote (t.slots * x) 1 b d) arr.size_stays linked'.wrote) in
    let words : WordsMove (vs s.turn) (kept_by s) (with_new t n o slot) a d = linked_words vs s t u n o slot q (slot * s.size + q) a b d sound tidy e.filled e.inside arr.size_stays can e.free stays arr.turn_stays linked' arr.words in
    let made : let k : Link = record { program = t.turn; block = e.block; offset = o; into = c } in made_link t n o slot ≡ k = made_parts t n o slot e.block c s.turn arr.turn_stays e.small arr.small (stays ∙ e.key) arr.stands in (
      subst (λ (x : Record). Served (vs s.turn) (span_of (setting_of s)) target (kept_by s) (fifo (setting_of s) (kept_by s) (vs s.turn) (direct e.block o target)) x a d (Ok (slot * s.size + q))) (sym kept_u)
          (served (vs s.turn) (s.slots * s.size) target (slot * s.size + q) (writes (kept_by t) - writes (kept_by s) + 1) (c, q) (kept_by s) _ (with_new t n o slot) a d is
          (ap (λ (x : Link). record (kept_by t) { links = with_link x (links_of t); counts = record t.counts { links = t.counts.links + 1 } }) made ∙ moves)
          (new_target (vs s.turn) t n o slot target (slot * s.size + q) (arrived_target vs s t c q slot target a b arr is))
          (wrote_more (s.slots * s.size) (s.slots * s.size) _ 1 a b d arr.wrote wrote (omega arith)) (omega arith) words),
      subst (λ (x : Slots). SlotsServe x vs d.words) (sym u_is) (linked_sound t vs n o slot q b d arr.sound can few whole),
      ap (λ (x : Slots). x.turn) u_is ∙ arr.turn_stays,
    )

-- the exit has been linked, or it can't be
crossed_at : (vs : Images) (s t u : Slots) (c q slot at target : ℕ) (a b d : RamState) → SlotsServe s vs a.words → (e : ExitIn vs s at target) → place_of (vs s.turn) target ≡ Some (c, q) → Arrived vs s c slot t a b →
    MaybeLinked t u (can_link t at (slice_index s.blocks e.slot) (slot * s.size + q)) at slot (slot * s.size + q) b d →
    Served (vs s.turn) (span_of (setting_of s)) target (kept_by s) (fifo (setting_of s) (kept_by s) (vs s.turn) (direct e.block e.offset target)) (kept_by u) a d (Ok (slot * s.size + q)) × SlotsServe u vs d.words × (u.turn ≡ s.turn)
crossed_at vs s t u c q slot at target a b d sound e is arr maybe =
    let n : ℕ = e.slot in
    let o : ℕ = e.offset in
    let home : ℕ = slice_index s.blocks n in
    let some : 0 < s.filled = omega (arith, e.filled) in
    let after = counts_after vs s t c slot a b sound arr some in
    let moves : linked with_link (kept_by t) e.block o (c, q) ≡ fifo (setting_of s) (kept_by s) (vs s.turn) (direct e.block o target) =
    ap (λ (r : Record). linked with_link r e.block o (c, q)) arr.moves ∙ direct_moves (vs s.turn) s e.block o target c q e.unlinked is in
    let test : (is_placed (kept_by t) e.block && reaches (first_of (kept_by t) e.block + o) (first_of (kept_by t) c + q)) ≡ can_link t at home (slot * s.size + q) =
    link_test vs s t c q slot n e.block o a b sound arr e.filled e.inside e.small e.key ∙ ap (λ (x : ℕ). can_link t x home (slot * s.size + q)) (sym e.index) in
    elim (cases_Bool (can_link t at home (slot * s.size + q))) [
      | inr stays ↦ (let same = maybe.no stays in (
        subst (λ (x : Slots). Served (vs s.turn) (span_of (setting_of s)) target (kept_by s) (fifo (setting_of s) (kept_by s) (vs s.turn) (direct e.block o target)) (kept_by x) a d (Ok (slot * s.size + q))) (sym same.0)
            (subst (λ (x : RamState). Served (vs s.turn) (span_of (setting_of s)) target (kept_by s) (fifo (setting_of s) (kept_by s) (vs s.turn) (direct e.block o target)) (kept_by t) a x (Ok (slot * s.size + q))) (sym same.1)
            (served (vs s.turn) (s.slots * s.size) target (slot * s.size + q) _ (c, q) (kept_by s) _ (kept_by t) a b is (sym (linked_not (kept_by t) e.block o (c, q) (test ∙ stays)) ∙ moves) (arrived_target vs s t c q slot target a b arr is) arr.wrote refl arr.words)),
        subst (λ (x : Slots). SlotsServe x vs d.words) (sym same.0) (subst (λ (x : RamState). SlotsServe t vs x.words) (sym same.1) arr.sound),
        ap (λ (x : Slots). x.turn) same.0 ∙ arr.turn_stays,
      ))
      | inl can ↦ crossed_link vs s t u c q slot at target a b d sound e is arr some after.0 after.1 (maybe.yes can) (stood t at n o home (slot * s.size + q) (e.index ∙ ap (λ (x : ℕ). n * x + o) (sym arr.size_stays)) (omega (arith, e.inside, arr.size_stays)) can)
          (sym (linked_when (kept_by t) e.block o (c, q) (test ∙ can)) ∙ moves)
    ]
  where
    stood : (t : Slots) (at n o home to : ℕ) → at ≡ n * t.size + o → o < t.size → can_link t at home to ≡ true → slice_index t.blocks n ≡ home
    stood t at n o home to e lt can =
        ap (λ (x : ℕ). slice_index t.blocks x) (sym (ap (λ (x : ℕ). x / t.size) e ∙ (word_slot t n o lt).0)) ∙ eqb-true _ _ (and_parts (slice_index t.blocks (at / t.size) == home) (reaches at to) can).0

pub crossed : (vs : Images) (s t u : Slots) (c q slot at target : ℕ) (a b d : RamState) → SlotsServe s vs a.words → (e : ExitIn vs s at target) → place_of (vs s.turn) target ≡ Some (c, q) → Arrived vs s c slot t a b →
    MaybeLinked t u (can_link t at (slice_index s.blocks e.slot) (slot * s.size + q)) at slot (slot * s.size + q) b d → (bl o f : ℕ) → Placed (kept_by s) bl f → o < length_at (vs s.turn) bl → at ≡ f + o →
    Served (vs s.turn) (span_of (setting_of s)) target (kept_by s) (fifo (setting_of s) (kept_by s) (vs s.turn) (direct bl o target)) (kept_by u) a d (Ok (slot * s.size + q))
crossed vs s t u c q slot at target a b d sound e is arr maybe bl o f h lt at_is =
    let same = exit_same vs s a.words at target bl o f sound e h lt at_is in
    subst (λ (x : ℕ). Served (vs s.turn) (span_of (setting_of s)) target (kept_by s) (fifo (setting_of s) (kept_by s) (vs s.turn) (direct bl x target)) (kept_by u) a d (Ok (slot * s.size + q))) same.1
    (subst (λ (x : ℕ). Served (vs s.turn) (span_of (setting_of s)) target (kept_by s) (fifo (setting_of s) (kept_by s) (vs s.turn) (direct x e.offset target)) (kept_by u) a d (Ok (slot * s.size + q))) same.0
    (crossed_at vs s t u c q slot at target a b d sound e is arr maybe).0)

pub crossed_sound : (vs : Images) (s t u : Slots) (c q slot at target : ℕ) (a b d : RamState) → SlotsServe s vs a.words → (e : ExitIn vs s at target) → place_of (vs s.turn) target ≡ Some (c, q) → Arrived vs s c slot t a b →
    MaybeLinked t u (can_link t at (slice_index s.blocks e.slot) (slot * s.size + q)) at slot (slot * s.size + q) b d → SlotsServe u vs d.words × (u.turn ≡ s.turn)
crossed_sound vs s t u c q slot at target a b d sound e is arr maybe = let x = crossed_at vs s t u c q slot at target a b d sound e is arr maybe in (x.1, x.2)
