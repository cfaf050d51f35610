-- What the lists say of the ram.
use Rattle.std.proofs.Common.{◌≡◌, ℕ, ◌+◌, ◌-◌, ◌<◌, ◌↔◌, List, Option, Some, None, length, slice_index, arith, sym, ◌∙◌, ap, subst}
use Rattle.swi_image.specs.Format.{ImageData}
use Rattle.swi_image.specs.Place.{length_at}
use Rattle.swi_links.specs.Chains.{Has, IsApart, list_of}
use Rattle.swi_links.specs.Holders.{holder_of}
use Rattle.swi_ring.specs.Ring.{Ring, first_at, target_at, links_of, kept_by}
use Rattle.swi_ring.specs.Sound.{RingSound}
use Rattle.swi_ring.specs.Chained.{LinkTo}
use Rattle.swi_ring.specs.Coheres.{placed_has, has_placed, link_of, has_found, link_found}
use Rattle.swi_rom.specs.Links.{has_among}
use Rattle.swi_links.specs.Lists.{holder_has}
use Rattle.swi_links.specs.Lists.{holder_is}

into : (s : Ring) (v : ImageData) (words : List ℕ) (b i : ℕ) → IsApart s.chains → RingSound s v words → Has (list_of s.chains b) i → LinkTo v (kept_by s) b i
into s v words b i apart sound h =
    let is : target_at s i ≡ b = holder_is s.chains b i apart h in
    let below : i < s.words = omega (arith, apart.within b i h, sound.shape.chain_words) in
    let small : target_at s i < length s.firsts = omega (arith, is, apart.slot b i h, sound.shape.chain_lists) in
    let own = sound.stands i below small in
    let c : ℕ = slice_index s.owners i in
    let here : first_at s (slice_index s.owners i) + (i - first_at s (slice_index s.owners i)) ≡ i = omega (arith, own.from) in
    let inside : i - first_at s (slice_index s.owners i) < length_at v (slice_index s.owners i) = omega (arith, own.from, own.to, sound.lengths_are (slice_index s.owners i) own.placed) in
    let small' : target_at s (first_at s (slice_index s.owners i) + (i - first_at s (slice_index s.owners i))) < length s.firsts = subst (λ (j : ℕ). target_at s j < length s.firsts) (sym here) small in
    let link = sound.linked (slice_index s.owners i) (i - first_at s (slice_index s.owners i)) own.placed inside small' in
    record {
      block = slice_index s.owners i;
      offset = i - first_at s (slice_index s.owners i);
      first = first_at s (slice_index s.owners i);
      is_placed = has_placed s (slice_index s.owners i) own.placed;
      linked = has_among (links_of s) (link_of s (slice_index s.owners i) (i - first_at s (slice_index s.owners i))) (has_found s v words (slice_index s.owners i) (i - first_at s (slice_index s.owners i)) sound own.placed inside small');
      index = sym here;
      target = link.offset;
      place_is = link.place_is ∙ ap (λ (j : ℕ). Some (target_at s j, link.offset)) here ∙ ap (λ (x : ℕ). Some (x, link.offset)) is;
    }

block_in : Option (ℕ × ℕ) → ℕ
block_in None = 0
block_in (Some p) = p.0

out_of : (s : Ring) (v : ImageData) (words : List ℕ) (b i : ℕ) → RingSound s v words → LinkTo v (kept_by s) b i → Has (list_of s.chains b) i
unfolding block_in
out_of s v words b i sound x =
    let w = link_found s v words x.block x.offset sound x.linked in
    let first : first_at s x.block ≡ x.first = (placed_has s x.block x.first x.is_placed).1 in
    let at : i ≡ first_at s x.block + x.offset = x.index ∙ ap (λ (f : ℕ). f + x.offset) (sym first) in
    let same : Some (target_at s (first_at s x.block + x.offset), w.2.offset) ≡ Some (b, x.target) = sym w.2.place_is ∙ x.place_is in
    let is : target_at s i ≡ b = ap (λ (j : ℕ). target_at s j) at ∙ ap (λ (p : Option (ℕ × ℕ)). block_in p) same in
    let lt : holder_of s.chains.lists i < length s.chains.lists =
    omega (arith, ap (λ (j : ℕ). target_at s j) at, sound.shape.known (target_at s (first_at s x.block + x.offset)) w.2.target, sound.shape.chain_lists) in
    subst (λ (c : ℕ). Has (list_of s.chains c) i) is (holder_has s.chains.lists i lt)

-- as the code meets it
pub chained_call : (s t : Ring) (v : ImageData) (words : List ℕ) (b i : ℕ) → s ≡ t → IsApart s.chains → RingSound t v words → Has (list_of s.chains b) i ↔ LinkTo v (kept_by t) b i
chained_call s t v words b i e apart sound =
    let sound' : RingSound s v words = subst (λ (x : Ring). RingSound x v words) (sym e) sound in
    subst (λ (x : Ring). Has (list_of s.chains b) i ↔ LinkTo v (kept_by x) b i) e
    (into s v words b i apart sound', out_of s v words b i sound')
