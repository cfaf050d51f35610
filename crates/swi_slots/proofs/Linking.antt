-- An exit becomes a link.
use Rattle.std.proofs.Common.{◌≡◌, ℕ, ◌+◌, ◌*◌, ◌/◌, ◌<◌, ◌≤◌, ◌^◌, refl, true, false, length, Some, slice_index, slice_set, arith, sym, ◌∙◌, ap, subst, inl, inr}
use Rattle.std.proofs.lemmas.Bool.{cases_eq, or_left, or_right, or_cases}
use Rattle.std.proofs.lemmas.List.{length-set, get_or-set_same, get_or-set_other}
use Rattle.std.proofs.lemmas.Nat.{same_from_place}
use Rattle.swi_slots.specs.Keys.{Images, key_of, owner_of, number_of, key_parts, word_in, ExitOf, goes}
use Rattle.swi_outside.specs.CacheRam.{RamState}
use Rattle.swi_rom.specs.Record.{Link, Placed, has_link, same_link, IsJump}
use Rattle.swi_rom.specs.Policy.{with_link, first_of}
use Rattle.swi_slots.specs.Slots.{Slots, InShape, links_of, queue_of, kept_by}
use Rattle.swi_slots.specs.Sound.{SlotsServe, LinkStands}
use Rattle.swi_slots.specs.Steps.{Linked}
use Rattle.swi_rom.specs.Links.{same_ascending, with_ascending, has_with, same_same, same_is}
use Rattle.swi_rom.specs.Collected.{length_with_all}
use Rattle.swi_slots.specs.Queue.{placed_slot, slot_placed}
use Rattle.swi_slots.specs.SlotLinks.{Tidy, link_of, linked_word, word_linked, word_below, word_slot, links_ascending, never_link}
use Rattle.swi_slots.specs.Coheres.{tidy_of}
use Rattle.swi_rom.specs.Links.{same_tests}
use Rattle.swi_rom.specs.Found.{first_in_has}

-- the first word of a slot's block
pub first_of_slot : (s : Slots) (n b : ℕ) → Tidy s → n < s.filled → b < 2 ^ 19 → slice_index s.blocks n ≡ key_of s.turn b → first_of (kept_by s) b ≡ n * s.size
unfolding first_of Placed
first_of_slot s n b tidy lt small e =
    first_in_has (queue_of s) s.turn b (n * s.size) (slot_placed s n b tidy.shape lt small e)
    (λ g h. let p = placed_slot s b g tidy.shape h in sym p.3 ∙ ap (λ (m : ℕ). m * s.size) (tidy.distinct p.0 n p.1 lt (p.2 ∙ sym e)))

abbrev pub linked_slots : Slots → ℕ → ℕ → Slots
linked_slots s at slot = record s { targets = slice_set s.targets at slot; counts = record s.counts { links = s.counts.links + 1 } }

-- word o of a filled slot is no link yet, and its exit leads to a filled slot
pub record CanLink (s : Slots) (vs : Images) (n o slot q : ℕ) : Type 0 where
  pub filled : n < s.filled
  pub inside : o < s.size
  pub free : s.slots ≤ slice_index s.targets (n * s.size + o)
  pub target : slot < s.filled
  pub is_exit : ExitOf vs (slice_index s.blocks n) o
  pub place_is : goes vs (slice_index s.blocks n) (word_in vs (slice_index s.blocks n) (o + 1)) ≡ Some (slice_index s.blocks slot, q)

at_word : (s : Slots) (n o m p : ℕ) → o < s.size → p < s.size → n * s.size + o ≡ m * s.size + p → (n ≡ m) × (o ≡ p)
at_word s n o m p lt lt' e = same_from_place n o m p s.size lt lt' e

within : (s : Slots) (vs : Images) (n o slot q : ℕ) → InShape s → CanLink s vs n o slot q → n * s.size + o < length s.targets
within s vs n o slot q shape can = omega (arith, word_below s n o shape (omega (arith, can.filled, shape.filled_most)) can.inside, shape.targets_long)

target_here : (s : Slots) (vs : Images) (n o slot q : ℕ) → InShape s → CanLink s vs n o slot q → slice_index (slice_set s.targets (n * s.size + o) slot) (n * s.size + o) ≡ slot
target_here s vs n o slot q shape can = get_or-set_same s.targets (n * s.size + o) slot 0 (within s vs n o slot q shape can)

target_other : (s : Slots) (at slot i : ℕ) → (i ≡ at → ⊥) → slice_index (slice_set s.targets at slot) i ≡ slice_index s.targets i
target_other s at slot i ne = get_or-set_other s.targets at i slot 0 ne

pub linked_tidy : (s : Slots) (vs : Images) (n o slot q : ℕ) → Tidy s → CanLink s vs n o slot q → Tidy (linked_slots s (n * s.size + o) slot)
linked_tidy s vs n o slot q tidy can = record {
  shape = record {
    some_slot = tidy.shape.some_slot;
    size_least = tidy.shape.size_least;
    size_most = tidy.shape.size_most;
    words_few = tidy.shape.words_few;
    turn_below = tidy.shape.turn_below;
    programs_most = tidy.shape.programs_most;
    next_below = tidy.shape.next_below;
    filled_most = tidy.shape.filled_most;
    blocks_long = tidy.shape.blocks_long;
    lengths_long = tidy.shape.lengths_long;
    targets_long = length-set s.targets (n * s.size + o) slot ∙ tidy.shape.targets_long;
    next_is = tidy.shape.next_is;
    filled_is = tidy.shape.filled_is;
  };
  distinct = tidy.distinct;
  stands = λ i below t. elim (cases_eq i (n * s.size + o)) [
    | inl e ↦ subst (λ (m : ℕ). m < s.filled) (sym (ap (λ (j : ℕ). j / s.size) e ∙ (word_slot s n o can.inside).0)) can.filled
    | inr ne ↦ tidy.stands i below (subst (λ (x : ℕ). x < s.slots) (target_other s (n * s.size + o) slot i ne) t)
  ];
}

-- the link that is made
abbrev pub made_link : Slots → ℕ → ℕ → ℕ → Link
made_link s n o slot = record {
  program = owner_of (slice_index s.blocks n);
  block = number_of (slice_index s.blocks n);
  offset = o;
  into = number_of (slice_index s.blocks slot);
}

pub not_yet : (s : Slots) (vs : Images) (n o slot q : ℕ) → Tidy s → CanLink s vs n o slot q → has_link (links_of s) (made_link s n o slot) ≡ false
not_yet s vs n o slot q tidy can = never_link s n o (made_link s n o slot) tidy can.filled (sym (key_parts (slice_index s.blocks n))) refl can.free

made_is : (s : Slots) (vs : Images) (n o slot q : ℕ) → InShape s → CanLink s vs n o slot q → link_of (linked_slots s (n * s.size + o) slot) n o ≡ made_link s n o slot
made_is s vs n o slot q shape can = rw (target_here s vs n o slot q shape can) refl

other_is : (s : Slots) (at slot m p : ℕ) → (m * s.size + p ≡ at → ⊥) → link_of (linked_slots s at slot) m p ≡ link_of s m p
other_is s at slot m p ne = rw (target_other s at slot (m * s.size + p) ne) refl

-- the links are those before and the new one
pub linked_links : (s : Slots) (vs : Images) (n o slot q : ℕ) → Tidy s → CanLink s vs n o slot q →
    links_of (linked_slots s (n * s.size + o) slot) ≡ with_link (made_link s n o slot) (links_of s)
linked_links s vs n o slot q tidy can =
    let t : Slots = linked_slots s (n * s.size + o) slot in
    let k0 : Link = made_link s n o slot in
    let tidy' : Tidy t = linked_tidy s vs n o slot q tidy can in
    let most : s.filled ≤ s.slots = tidy.shape.filled_most in
    same_ascending _ _ (links_ascending t tidy') (with_ascending (made_link s n o slot) (links_of s) (links_ascending s tidy) (not_yet s vs n o slot q tidy can))
    (λ k. same_tests (has_link (links_of t) k) (has_link (with_link (made_link s n o slot) (links_of s)) k)
    (λ h. (let w = linked_word t k tidy' h in
    has_with (made_link s n o slot) (links_of s) k ∙ elim (cases_eq (w.0 * s.size + w.1) (n * s.size + o)) [
      | inl e ↦ (let same = at_word s w.0 w.1 n o w.3 can.inside e in
          or_left _ _ (subst (λ (l : Link). same_link k l ≡ true) (sym w.4 ∙ ap (λ (m : ℕ). link_of t m w.1) same.0 ∙ ap (λ (m : ℕ). link_of t n m) same.1 ∙ made_is s vs n o slot q tidy.shape can) (same_same k)))
      | inr ne ↦ or_right _ _ (subst (λ (l : Link). has_link (links_of s) l ≡ true) (sym (other_is s (n * s.size + o) slot w.0 w.1 ne) ∙ w.4)
          (word_linked s w.0 w.1 tidy.shape (omega (arith, w.2)) w.3 (subst (λ (x : ℕ). x < s.slots) (target_other s (n * s.size + o) slot (w.0 * s.size + w.1) ne) w.5)))
    ]))
    (λ h. elim (or_cases (same_link k (made_link s n o slot)) (has_link (links_of s) k) (sym (has_with (made_link s n o slot) (links_of s) k) ∙ h)) [
      | inl e ↦ subst (λ (l : Link). has_link (links_of t) l ≡ true) (made_is s vs n o slot q tidy.shape can ∙ sym (same_is k (made_link s n o slot) e))
          (word_linked t n o tidy'.shape (omega (arith, can.filled)) can.inside (subst (λ (x : ℕ). x < s.slots) (sym (target_here s vs n o slot q tidy.shape can)) (omega (arith, can.target))))
      | inr i ↦ (let w = linked_word s k tidy i in
          let ne : w.0 * s.size + w.1 ≡ n * s.size + o → ⊥ = λ (e : w.0 * s.size + w.1 ≡ n * s.size + o). (let f = can.free in let x : slice_index s.targets (n * s.size + o) < s.slots = subst (λ (j : ℕ). slice_index s.targets j < s.slots) e w.5 in omega arith) in
          subst (λ (l : Link). has_link (links_of t) l ≡ true) (other_is s (n * s.size + o) slot w.0 w.1 ne ∙ w.4)
          (word_linked t w.0 w.1 tidy'.shape (omega (arith, w.2)) w.3 (subst (λ (x : ℕ). x < s.slots) (sym (target_other s (n * s.size + o) slot (w.0 * s.size + w.1) ne)) w.5)))
    ]))

pub linked_sound : (s : Slots) (vs : Images) (n o slot q : ℕ) (before after : RamState) → SlotsServe s vs before.words → CanLink s vs n o slot q → s.counts.links < s.counts.services →
    Linked s (linked_slots s (n * s.size + o) slot) (n * s.size + o) slot (slot * s.size + q) before after → SlotsServe (linked_slots s (n * s.size + o) slot) vs after.words
linked_sound s vs n o slot q before after sound can few linked =
    let tidy = linked_tidy s vs n o slot q (tidy_of s vs before.words sound) can in
    let links = linked_links s vs n o slot q (tidy_of s vs before.words sound) can in
    record {
      shape = tidy.shape;
      images = sound.images;
      size_most = sound.size_most;
      fits = omega (arith, sound.fits, linked.wrote.spared.length_stays);
      distinct = sound.distinct;
      known = sound.known;
      lengths_are = sound.lengths_are;
      stands = tidy.stands;
      linked = λ m p lt lt' t. elim (cases_eq (m * s.size + p) (n * s.size + o)) [
        | inl e ↦ (let same = at_word s m p n o lt' can.inside e in
            subst (λ (x : ℕ). LinkStands (linked_slots s (n * s.size + o) slot) vs after.words x p) (sym same.0) (subst (λ (x : ℕ). LinkStands (linked_slots s (n * s.size + o) slot) vs after.words n x) (sym same.1)
            (new_link s vs n o slot q before after sound.shape can linked)))
        | inr ne ↦ old_link s vs n o slot q m p before after linked ne
            (sound.linked m p lt lt' (subst (λ (x : ℕ). x < s.slots) (target_other s (n * s.size + o) slot (m * s.size + p) ne) t))
      ];
      plain = λ m p lt lt' t. elim (cases_eq (m * s.size + p) (n * s.size + o)) [
        | inl e ↦ absurd (let here = target_here s vs n o slot q sound.shape can in
            let high : s.slots ≤ slice_index (slice_set s.targets (n * s.size + o) slot) (n * s.size + o) = subst (λ (j : ℕ). s.slots ≤ slice_index (slice_set s.targets (n * s.size + o) slot) j) e t in
            omega (arith, can.target, sound.shape.filled_most))
        | inr ne ↦ linked.others (m * s.size + p) ne ∙ sound.plain m p lt lt' (subst (λ (x : ℕ). s.slots ≤ x) (target_other s (n * s.size + o) slot (m * s.size + p) ne) t)
      ];
      misses_few = sound.misses_few;
      evictions_few = sound.evictions_few;
      copied_few = sound.copied_few;
      links_few = omega (arith, few);
      unlinks_few = omega (arith, ap length links, length_with_all (made_link s n o slot) (links_of s), sound.unlinks_few);
    }
  where
    new_link : (s : Slots) (vs : Images) (n o slot q : ℕ) (before after : RamState) → InShape s → CanLink s vs n o slot q →
        Linked s (linked_slots s (n * s.size + o) slot) (n * s.size + o) slot (slot * s.size + q) before after → LinkStands (linked_slots s (n * s.size + o) slot) vs after.words n o
    new_link s vs n o slot q before after shape can linked =
        let here = target_here s vs n o slot q shape can in
        record {
          is_exit = can.is_exit;
          target = subst (λ (x : ℕ). x < s.filled) (sym here) can.target;
          offset = q;
          place_is = can.place_is ∙ ap (λ (x : ℕ). Some (slice_index s.blocks x, q)) (sym here);
          jumps = subst (λ (x : ℕ). IsJump (n * s.size + o) (x * s.size + q) (slice_index after.words (n * s.size + o))) (sym here) linked.jumps;
        }

    old_link : (s : Slots) (vs : Images) (n o slot q m p : ℕ) (before after : RamState) →
        Linked s (linked_slots s (n * s.size + o) slot) (n * s.size + o) slot (slot * s.size + q) before after → (m * s.size + p ≡ n * s.size + o → ⊥) → LinkStands s vs before.words m p →
        LinkStands (linked_slots s (n * s.size + o) slot) vs after.words m p
    old_link s vs n o slot q m p before after linked ne k =
        let same = target_other s (n * s.size + o) slot (m * s.size + p) ne in
        record {
          is_exit = k.is_exit;
          target = subst (λ (x : ℕ). x < s.filled) (sym same) k.target;
          offset = k.offset;
          place_is = k.place_is ∙ ap (λ (x : ℕ). Some (slice_index s.blocks x, k.offset)) (sym same);
          jumps = subst (λ (x : ℕ). IsJump (m * s.size + p) (x * s.size + k.offset) (slice_index after.words (m * s.size + p))) (sym same)
              (subst (λ (w : ℕ). IsJump (m * s.size + p) (slice_index s.targets (m * s.size + p) * s.size + k.offset) w) (sym (linked.others (m * s.size + p) ne)) k.jumps);
        }
