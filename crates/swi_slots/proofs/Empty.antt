-- An empty cache is sound for every image and ram that fit.
use Rattle.std.proofs.Common.{◌≡◌, ℕ, suc, zero, ◌*◌, ◌<◌, ◌≤◌, List, [], length, slice_index, replicate, Result, Ok, Err, IfOk, arith, refl, ◌∙◌, ap}
use Rattle.std.proofs.lemmas.List.{get_or-replicate}
use Rattle.std.proofs.lemmas.Bool.{le-ltb}
use Rattle.swi_image.specs.Format.{ImageData}
use Rattle.swi_image.specs.Sound.{IsImage}
use Rattle.swi_rom.specs.Record.{empty_record}
use Rattle.swi_slots.specs.Slots.{Slots, InShape, kept_by, queue_of, numbered, links_of, link_at, empty_slots}
use Rattle.swi_rom.specs.Collected.{collected}
use Rattle.swi_slots.specs.Keys.{Images}
use Rattle.swi_slots.specs.Sound.{SlotsServe, SlotsSound, Serves}

pub record IsEmpty (s : Slots) : Type 0 where
  pub shape : InShape s
  pub filled : s.filled ≡ 0
  pub targets : s.targets ≡ replicate (s.slots * s.size) s.slots
  pub services : s.counts.services ≡ 0
  pub misses : s.counts.misses ≡ 0
  pub evictions : s.counts.evictions ≡ 0
  pub links : s.counts.links ≡ 0
  pub unlinks : s.counts.unlinks ≡ 0
  pub copied : s.counts.copied ≡ 0

none_collected : (s : Slots) (n : ℕ) → ((i : ℕ) → i < n → s.slots ≤ slice_index s.targets i) → collected (link_at s) n ≡ []
unfolding collected link_at
none_collected s zero f = refl
none_collected s (suc n) f = rw (le-ltb _ _ (f n (omega arith))) (none_collected s n (λ i lt. f i (omega arith)))

none_linked : (s : Slots) → ((i : ℕ) → i < s.slots * s.size → s.slots ≤ slice_index s.targets i) → links_of s ≡ []
unfolding links_of
none_linked s f = none_collected s (s.slots * s.size) f

pub empty_serves : (s : Slots) (vs : Images) (words : List ℕ) → IsEmpty s → ((p : ℕ) → IsImage (vs p)) → ((p : ℕ) → (vs p).block_words ≤ s.size) → s.slots * s.size ≤ length words → SlotsServe s vs words
empty_serves s vs words empty images sizes fits =
    let no : (i : ℕ) → i < s.slots * s.size → slice_index s.targets i ≡ s.slots = λ i lt. ap (λ (ts : List ℕ). slice_index ts i) empty.targets ∙ get_or-replicate (s.slots * s.size) i s.slots 0 lt in
    record {
      shape = empty.shape;
      images = images;
      size_most = sizes;
      fits = fits;
      distinct = λ n m lt lt' e. absurd (omega (arith, empty.filled));
      known = λ n lt. absurd (omega (arith, empty.filled));
      lengths_are = λ n lt. absurd (omega (arith, empty.filled));
      stands = λ i lt t. absurd (omega (arith, no i lt));
      linked = λ n o lt lt' t. absurd (omega (arith, empty.filled));
      plain = λ n o lt lt' t. absurd (omega (arith, empty.filled));
      misses_few = omega (arith, empty.misses);
      evictions_few = omega (arith, empty.evictions);
      copied_few = omega (arith, empty.copied);
      links_few = omega (arith, empty.links);
      unlinks_few = omega (arith, empty.unlinks, ap length (none_linked s (λ i lt. omega (arith, no i lt))));
    }

none_placed : (s : Slots) → s.next ≡ 0 → s.filled ≡ 0 → queue_of s ≡ []
unfolding queue_of numbered
none_placed s next filled = rw (next, filled) refl

-- and keeps nothing
pub kept_empty : (s : Slots) → s.next ≡ 0 → s.filled ≡ 0 → s.turn ≡ 0 → s.targets ≡ replicate (s.slots * s.size) s.slots →
    s.counts ≡ record { services = 0; misses = 0; evictions = 0; links = 0; unlinks = 0; copied = 0 } → kept_by s ≡ empty_record
kept_empty s next filled turn targets counts =
    let one = λ (i : ℕ) (lt : i < s.slots * s.size). ap (λ (ts : List ℕ). slice_index ts i) targets ∙ get_or-replicate (s.slots * s.size) i s.slots 0 lt in
    let links = none_linked s (λ i lt. omega (arith, one i lt)) in
    rw (none_placed s next filled, links, turn, counts) refl

-- with one program its image is that of all
pub alone : {T E : Type 0} (view : T → Slots) (result : Result T E) (size slots : ℕ) → IfOk result (λ (s : T). view s ≡ empty_slots slots size 1) →
    IfOk result (λ (s : T). (vs : Images) (words : List ℕ) → ((p : ℕ) → IsImage (vs p)) → ((p : ℕ) → (vs p).block_words ≤ size) → slots * size ≤ length words → Serves (view s) (vs 0) vs words) →
    IfOk result (λ (s : T). (v : ImageData) (words : List ℕ) → IsImage v → v.block_words ≤ size → slots * size ≤ length words → SlotsSound (view s) v words)
alone view (Ok s) size slots empty serves = λ v words image most fits. ((λ (p : ℕ). v), serves (λ (p : ℕ). v) words (λ p. image) (λ p. most) fits)
alone view (Err e) size slots empty serves = tt
