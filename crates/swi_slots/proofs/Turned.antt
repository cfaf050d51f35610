-- Another program in turn.
use Rattle.std.proofs.Common.{◌≡◌, ℕ, ◌<◌, List, refl, sym, ◌∙◌, ap, subst}
use Rattle.swi_image.specs.Format.{ImageData}
use Rattle.swi_slots.specs.Slots.{Slots, InShape, kept_by, queue_of, links_of, link_at}
use Rattle.swi_slots.specs.Keys.{Images}
use Rattle.swi_slots.specs.Sound.{SlotsServe, Serves}

same_kept : (s : Slots) (p : ℕ) → kept_by (record s { turn = p }) ≡ record (kept_by s) { turn = p }
unfolding queue_of links_of link_at
same_kept s p = refl

pub turned_kept : (r s : Slots) (p : ℕ) → r ≡ s → kept_by (record r { turn = p }) ≡ record (kept_by s) { turn = p }
turned_kept r s p e = same_kept r p ∙ ap (λ (x : Slots). record (kept_by x) { turn = p }) e

turned_shape : (s : Slots) (p : ℕ) → InShape s → p < s.programs → InShape (record s { turn = p })
turned_shape s p shape lt = record {
  some_slot = shape.some_slot;
  size_least = shape.size_least;
  size_most = shape.size_most;
  words_few = shape.words_few;
  turn_below = lt;
  programs_most = shape.programs_most;
  next_below = shape.next_below;
  filled_most = shape.filled_most;
  blocks_long = shape.blocks_long;
  lengths_long = shape.lengths_long;
  targets_long = shape.targets_long;
  next_is = shape.next_is;
  filled_is = shape.filled_is;
}

turned_sound : (s : Slots) (p : ℕ) (vs : Images) (words : List ℕ) → SlotsServe s vs words → p < s.programs → SlotsServe (record s { turn = p }) vs words
unfolding links_of link_at
turned_sound s p vs words sound below = record {
  shape = turned_shape s p sound.shape below;
  images = sound.images;
  size_most = sound.size_most;
  fits = sound.fits;
  distinct = sound.distinct;
  known = sound.known;
  lengths_are = sound.lengths_are;
  stands = sound.stands;
  linked = λ n o lt lt' t. (let k = sound.linked n o lt lt' t in record { is_exit = k.is_exit; target = k.target; offset = k.offset; place_is = k.place_is; jumps = k.jumps });
  plain = sound.plain;
  misses_few = sound.misses_few;
  evictions_few = sound.evictions_few;
  copied_few = sound.copied_few;
  links_few = sound.links_few;
  unlinks_few = sound.unlinks_few;
}

-- what serves the images of all programs serves them with another one in turn
pub turned_serves : (r s : Slots) (p : ℕ) (v : ImageData) (vs : Images) (words : List ℕ) → r ≡ s → p < s.programs → Serves s v vs words → Serves (record r { turn = p }) (vs p) vs words
turned_serves r s p v vs words e below serves =
    (refl, subst (λ (x : Slots). SlotsServe (record x { turn = p }) vs words) (sym e) (turned_sound s p vs words serves.1 below))
