-- The oldest block leaves, as the code meets it.
use Rattle.std.proofs.Common.{◌≡◌, ℕ, ◌+◌, ◌<◌, ◌≤◌, List, ◌∷◌, length, slice_index, slice_index_or, slice_set, if◌then◌else◌, arith, sym, ◌∙◌, ap, subst}
use Rattle.std.proofs.lemmas.List.{get_or_read}
use Rattle.swi_links.specs.Chains.{ChainsData, Has}
use Rattle.swi_ring.specs.Ring.{Ring, InShape, first_at, target_at}
use Rattle.swi_ring.proofs.Shapes.{index_has}
use Rattle.swi_outside.specs.CacheRam.{RamState}
use Rattle.swi_rom.specs.Writing.{Wrote}
use Rattle.swi_rom.specs.declared.rom.Counts.{Counts}
use Rattle.swi_links.specs.Undone.{coming_in, is_dropped}
use Rattle.swi_links.specs.Gone.{Gone}
use Rattle.swi_ring.specs.Steps.{Left}
use Rattle.swi_ring.proofs.Receding.{left_shape}

oldest_in : (s t : Ring) (b : ℕ) → s ≡ t → 0 < length t.queue → b ≡ slice_index s.queue 0 → Has s.queue b
oldest_in s t b e pos is = subst (λ (x : ℕ). Has s.queue x) (sym is) (index_has s.queue 0 (omega (arith, pos, ap (λ (x : Ring). length x.queue) e)))

pub oldest_known : (s t : Ring) (b : ℕ) → s ≡ t → InShape s → 0 < length t.queue → b ≡ slice_index s.queue 0 → b < length s.firsts
oldest_known s t b e shape pos is = shape.known b (oldest_in s t b e pos is)

pub oldest_within : (s t : Ring) (b f n : ℕ) → s ≡ t → InShape s → 0 < length t.queue → b ≡ slice_index s.queue 0 → f ≡ slice_index_or s.firsts b f → n ≡ slice_index_or s.lengths b n → f + n ≤ s.words
oldest_within s t b f n e shape pos is first size =
    let h = oldest_in s t b e pos is in
    let small : b < length s.firsts = shape.known b h in
    let here : f ≡ slice_index s.firsts b = get_or_read s.firsts b f small first 0 in
    let long : n ≡ slice_index s.lengths b = get_or_read s.lengths b n (omega (arith, small, shape.lengths_long)) size 0 in
    omega (arith, here, long, shape.within b h)

pub front_is : (queue rest : List ℕ) (r b : ℕ) → queue ≡ r ∷ rest → b ≡ slice_index queue 0 → queue ≡ b ∷ rest
front_is queue rest r b e is =
    let same : b ≡ r = is ∙ ap (λ (xs : List ℕ). slice_index xs 0) e in
    e ∙ ap (λ (x : ℕ). x ∷ rest) (sym same)

-- the numbers keep their shape
pub evicted_shape : (s : Ring) (b r : ℕ) (rest : List ℕ) (new : ChainsData) (counts : Counts) → InShape s → s.queue ≡ r ∷ rest → b ≡ slice_index s.queue 0 → new.words ≡ s.chains.words → length new.lists ≡ length s.chains.lists →
    InShape (record s { queue = rest; firsts = slice_set s.firsts b s.words; chains = new; counts = counts })
evicted_shape s b r rest new counts shape e is words lists =
    left_shape s b rest new counts shape (front_is s.queue rest r b e is) words lists

left_is : (s : Ring) (e k : ℕ) (rest : List ℕ) (new : ChainsData) (a b : RamState) → InShape s → s.queue ≡ e ∷ rest → Gone e (first_at s e) (slice_index s.lengths e) s.chains new a b →
    k ≡ coming_in e (first_at s e) (slice_index s.lengths e) s.chains.lists s.chains.words → new.words ≡ s.chains.words → length new.lists ≡ length s.chains.lists →
    Left e s (record s { queue = rest; firsts = slice_set s.firsts e s.words; chains = new; counts = record s.counts { evictions = s.counts.evictions + 1; unlinks = s.counts.unlinks + k } }) a b
left_is s e k rest new a b shape oldest g is words lists =
    let number : k ≡ coming_in e (first_at s e) (slice_index s.lengths e) s.chains.lists s.words =
    is ∙ ap (λ (m : ℕ). coming_in e (first_at s e) (slice_index s.lengths e) s.chains.lists m) shape.chain_words in
    record {
      oldest = oldest;
      moved = ap (λ (m : ℕ). record s { queue = rest; firsts = slice_set s.firsts e s.words; chains = new; counts = record s.counts { evictions = s.counts.evictions + 1; unlinks = s.counts.unlinks + m } }) number;
      words_stay = words;
      lists_stay = lists;
      dropped = λ i lt. g.dropped i (omega (arith, lt, shape.chain_words))
          ∙ ap (λ (m : ℕ). if is_dropped e (first_at s e) (slice_index s.lengths e) s.chains.lists i then m else target_at s i) shape.chain_lists;
      undone = λ i lt. g.undone i (omega (arith, lt, shape.chain_words));
      wrote = subst (λ (m : ℕ). Wrote m (coming_in e (first_at s e) (slice_index s.lengths e) s.chains.lists m) a b) shape.chain_words g.wrote;
    }

pub evict_call : (s t : Ring) (e r f n k : ℕ) (rest : List ℕ) (new : ChainsData) (a b : RamState) → s ≡ t → InShape s → 0 < length t.queue → s.queue ≡ r ∷ rest → e ≡ slice_index s.queue 0 → f ≡ slice_index_or s.firsts e f → n ≡ slice_index_or s.lengths e n →
    Gone e f n s.chains new a b → k ≡ coming_in e f n s.chains.lists s.chains.words → new.words ≡ s.chains.words → length new.lists ≡ length s.chains.lists →
    Left (slice_index t.queue 0) t (record s { queue = rest; firsts = slice_set s.firsts e s.words; chains = new; counts = record s.counts { evictions = s.counts.evictions + 1; unlinks = s.counts.unlinks + k } }) a b
evict_call s t e r f n k rest new a b same shape pos popped is first size g number words lists =
    let small : e < length s.firsts = oldest_known s t e same shape pos is in
    let here : f ≡ first_at s e = get_or_read s.firsts e f small first 0 in
    let long : n ≡ slice_index s.lengths e = get_or_read s.lengths e n (omega (arith, small, shape.lengths_long)) size 0 in
    let both : Gone e (first_at s e) (slice_index s.lengths e) s.chains new a b × (k ≡ coming_in e (first_at s e) (slice_index s.lengths e) s.chains.lists s.chains.words) =
    subst (λ (x : ℕ). Gone e (first_at s e) x s.chains new a b × (k ≡ coming_in e (first_at s e) x s.chains.lists s.chains.words)) long
    (subst (λ (x : ℕ). Gone e x n s.chains new a b × (k ≡ coming_in e x n s.chains.lists s.chains.words)) here (g, number)) in
    let left = left_is s e k rest new a b shape (front_is s.queue rest r e popped is) both.0 both.1 words lists in
    subst (λ (x : Ring). Left (slice_index x.queue 0) x (record s { queue = rest; firsts = slice_set s.firsts e s.words; chains = new; counts = record s.counts { evictions = s.counts.evictions + 1; unlinks = s.counts.unlinks + k } }) a b) same
    (subst (λ (x : ℕ). Left x s (record s { queue = rest; firsts = slice_set s.firsts e s.words; chains = new; counts = record s.counts { evictions = s.counts.evictions + 1; unlinks = s.counts.unlinks + k } }) a b) is left)
