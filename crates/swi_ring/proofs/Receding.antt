-- The oldest block leaves.
use Rattle.std.proofs.Common.{◌≡◌, ◌⊎◌, ℕ, suc, zero, ◌+◌, ◌-◌, ◌<◌, ◌≤◌, ◌==◌, ◌&&◌, ◌||◌, Bool, true, false, not, List, [], ◌∷◌, map, filter, length, Option, Some, None, slice_index, slice_set, nat_lt, if◌then◌else◌, arith, refl, sym, ◌∙◌, ap, subst, inl, inr}
use Rattle.std.proofs.lemmas.Bool.{cases_Bool, cases_eq, cases_lt, ltb-true, ltb-false, both_ways, and_parts, eq-eqb, ne_eqb, eqb-true, eqb-false, false_from_ne_true}
use Rattle.std.proofs.lemmas.List.{length-set, get_or-set_same, get_or-set_other}
use Rattle.swi_image.specs.Format.{ImageData}
use Rattle.swi_image.specs.Place.{word_at, length_at}
use Rattle.swi_outside.specs.CacheRam.{RamState}
use Rattle.swi_links.specs.Chains.{ChainsData, Has, Distinct}
use Rattle.swi_rom.specs.Record.{Record, Placement, Link, has_link, ebreak, IsJump}
use Rattle.swi_rom.specs.Record.{Has as HasPlacement}
use Rattle.swi_rom.specs.Policy.{is_undone, is_kept, evicted}
use Rattle.swi_rom.specs.Writing.{Wrote}
use Rattle.swi_rom.specs.Rams.{wrote_more}
use Rattle.swi_rom.specs.Collected.{has_filter, length_collected, passing, passes}
use Rattle.swi_rom.specs.Collected.{undone_apart}
use Rattle.swi_rom.specs.declared.rom.Counts.{Counts}
use Rattle.swi_links.specs.Holders.{holder_of}
use Rattle.swi_links.specs.Undone.{is_own, comes_in, coming_in, is_dropped}
use Rattle.swi_ring.specs.Ring.{Ring, InShape, first_at, target_at, spot, queue_of, exit_of, link_at, links_of, behind, kept_by}
use Rattle.swi_ring.specs.Sound.{RingSound, LinkStands, IsOwned}
use Rattle.swi_ring.specs.Steps.{Left, Undid, Receded}
use Rattle.swi_ring.specs.Coheres.{spots_have, have_spots, word_below, link_at_some, some_link_at, differ_at, link_of, found_at, has_found, same_word}
use Rattle.swi_links.specs.Tells.{own_is, is_own_from, own_tells, comes_tells, none_tells, other_tells}
use Rattle.swi_ring.proofs.Gathered.{collected_filter}

-- the ring without its oldest block
abbrev pub left_ring : Ring → ℕ → List ℕ → ChainsData → ℕ → Ring
left_ring s e queue chains k = record s {
  queue = queue;
  firsts = slice_set s.firsts e s.words;
  chains = chains;
  counts = record s.counts { evictions = s.counts.evictions + 1; unlinks = s.counts.unlinks + k };
}

-- how it leaves, over plain data
pub record Leaves (s : Ring) (e : ℕ) (queue : List ℕ) (chains : ChainsData) (k : ℕ) (a b : RamState) : Type 0 where
  pub oldest : s.queue ≡ e ∷ queue
  pub words_stay : chains.words ≡ s.chains.words
  pub lists_stay : length chains.lists ≡ length s.chains.lists
  pub dropped : (i : ℕ) → i < s.words → holder_of chains.lists i ≡ (if is_dropped e (first_at s e) (slice_index s.lengths e) s.chains.lists i then length s.firsts else target_at s i)
  pub undone : (i : ℕ) → i < s.words → slice_index b.words i ≡ (if comes_in e (first_at s e) (slice_index s.lengths e) s.chains.lists i then ebreak else slice_index a.words i)
  pub number : k ≡ coming_in e (first_at s e) (slice_index s.lengths e) s.chains.lists s.words
  pub wrote : Wrote s.words k a b

pub oldest_has : (s : Ring) (e : ℕ) (queue : List ℕ) → s.queue ≡ e ∷ queue → Has s.queue e
oldest_has s e queue is = subst (λ (xs : List ℕ). Has xs e) (sym is) (inl refl)

pub rest_has : (s : Ring) (e b : ℕ) (queue : List ℕ) → s.queue ≡ e ∷ queue → Has queue b → Has s.queue b
rest_has s e b queue is h = subst (λ (xs : List ℕ). Has xs b) (sym is) (inr h)

rest_other : (s : Ring) (e b : ℕ) (queue : List ℕ) → InShape s → s.queue ≡ e ∷ queue → Has queue b → b ≡ e → ⊥
rest_other s e b queue shape is h same =
    let d : Distinct (e ∷ queue) = subst (λ (xs : List ℕ). Distinct xs) is shape.distinct in
    d.0 (subst (λ (x : ℕ). Has queue x) same h)

other_rest : (s : Ring) (e b : ℕ) (queue : List ℕ) → s.queue ≡ e ∷ queue → Has s.queue b → (b ≡ e → ⊥) → Has queue b
other_rest s e b queue is h ne = elim_has e b queue (subst (λ (xs : List ℕ). Has xs b) is h) ne
  where
    elim_has : (e b : ℕ) (queue : List ℕ) → Has (e ∷ queue) b → (b ≡ e → ⊥) → Has queue b
    elim_has e b queue (inl same) ne = absurd (ne (sym same))
    elim_has e b queue (inr h) ne = h

-- the first words of the others stay
first_other : (s : Ring) (e b : ℕ) → (b ≡ e → ⊥) → slice_index (slice_set s.firsts e s.words) b ≡ first_at s b
first_other s e b ne = get_or-set_other s.firsts e b s.words 0 ne

pub left_shape : (s : Ring) (e : ℕ) (queue : List ℕ) (chains : ChainsData) (counts : Counts) → InShape s → s.queue ≡ e ∷ queue → chains.words ≡ s.chains.words → length chains.lists ≡ length s.chains.lists →
    InShape (record s { queue = queue; firsts = slice_set s.firsts e s.words; chains = chains; counts = counts })
left_shape s e queue chains counts shape oldest words lists =
    let long : length (slice_set s.firsts e s.words) ≡ length s.firsts = length-set s.firsts e s.words in
    let d : Distinct (e ∷ queue) = subst (λ (xs : List ℕ). Distinct xs) oldest shape.distinct in
    record {
      words_few = shape.words_few;
      blocks_few = omega (arith, long, shape.blocks_few);
      next_most = shape.next_most;
      lengths_long = shape.lengths_long ∙ sym long;
      owners_long = shape.owners_long;
      chain_words = words ∙ shape.chain_words;
      chain_lists = lists ∙ shape.chain_lists ∙ sym long;
      owners_known = λ i lt. omega (arith, long, shape.owners_known i lt);
      distinct = d.1;
      known = λ c h. omega (arith, long, shape.known c (rest_has s e c queue oldest h));
      some = λ c h. shape.some c (rest_has s e c queue oldest h);
      within = λ c h. omega (arith, first_other s e c (rest_other s e c queue shape oldest h), shape.within c (rest_has s e c queue oldest h));
      absent = λ c lt lacks. elim (cases_eq c e) [
        | inl same ↦ ap (λ (x : ℕ). slice_index (slice_set s.firsts e s.words) x) same ∙ get_or-set_same s.firsts e s.words 0 (shape.known e (oldest_has s e queue oldest))
        | inr ne ↦ first_other s e c ne ∙ shape.absent c (omega (arith, long, lt)) (λ h. lacks (other_rest s e c queue oldest h ne))
      ];
    }

-- a word of another placed block is none of the oldest's
foreign : (s : Ring) (v : ImageData) (words : List ℕ) (e b o : ℕ) → RingSound s v words → Has s.queue e → Has s.queue b → (b ≡ e → ⊥) → o < length_at v b → is_own (first_at s e) (slice_index s.lengths e) (first_at s b + o) ≡ false
foreign s v words e b o sound he hb ne lt = false_from_ne_true _ (λ (t : is_own (first_at s e) (slice_index s.lengths e) (first_at s b + o) ≡ true).
    let w = own_is (first_at s e) (slice_index s.lengths e) (first_at s b + o) t in
    ne (same_word s v words b o e (first_at s b + o - first_at s e) sound hb he lt (omega (arith, w.0, w.1, sound.lengths_are e he)) (omega (arith, w.0))).0)

-- the link that a word is, and where it leads
pub record LinkAt (s : Ring) (v : ImageData) (i : ℕ) : Type 0 where
  pub owned : IsOwned s i
  pub inside : i - first_at s (slice_index s.owners i) < length_at v (slice_index s.owners i)
  pub here : first_at s (slice_index s.owners i) + (i - first_at s (slice_index s.owners i)) ≡ i
  pub target : Has s.queue (target_at s i)

pub link_here : (s : Ring) (v : ImageData) (words : List ℕ) (i : ℕ) → RingSound s v words → i < s.words → target_at s i < length s.firsts → LinkAt s v i
link_here s v words i sound lt t =
    let own = sound.stands i lt t in
    let here : first_at s (slice_index s.owners i) + (i - first_at s (slice_index s.owners i)) ≡ i = omega (arith, own.from) in
    let inside : i - first_at s (slice_index s.owners i) < length_at v (slice_index s.owners i) = omega (arith, own.from, own.to, sound.lengths_are (slice_index s.owners i) own.placed) in
    let k = sound.linked (slice_index s.owners i) (i - first_at s (slice_index s.owners i)) own.placed inside (subst (λ (j : ℕ). target_at s j < length s.firsts) (sym here) t) in
    record {
      owned = own;
      inside = inside;
      here = here;
      target = subst (λ (j : ℕ). Has s.queue (target_at s j)) here k.target;
    }

-- a linked word is the oldest block's exactly where it stands in its range
own_word : (s : Ring) (v : ImageData) (words : List ℕ) (e i : ℕ) → RingSound s v words → Has s.queue e → LinkAt s v i → (slice_index s.owners i == e) ≡ is_own (first_at s e) (slice_index s.lengths e) i
own_word s v words e i sound he l = elim (cases_eq (slice_index s.owners i) e) [
  | inl same ↦ eq-eqb _ _ same ∙ sym (is_own_from (first_at s e) (slice_index s.lengths e) i (subst (λ (c : ℕ). first_at s c ≤ i) same l.owned.from) (subst (λ (c : ℕ). i < first_at s c + slice_index s.lengths c) same l.owned.to))
  | inr ne ↦ ne_eqb _ _ ne ∙ sym (subst (λ (j : ℕ). is_own (first_at s e) (slice_index s.lengths e) j ≡ false) l.here (foreign s v words e (slice_index s.owners i) (i - first_at s (slice_index s.owners i)) sound he l.owned.placed ne l.inside))
]

-- what a word of another block becomes
pub record Other (s : Ring) (e : ℕ) (chains : ChainsData) (a b : RamState) (i : ℕ) : Type 0 where
  pub loses : target_at s i ≡ e → (holder_of chains.lists i ≡ length s.firsts) × (slice_index b.words i ≡ ebreak)
  pub keeps : (target_at s i ≡ e → ⊥) → (holder_of chains.lists i ≡ target_at s i) × (slice_index b.words i ≡ slice_index a.words i)

other_word : (s : Ring) (e k i : ℕ) (queue : List ℕ) (chains : ChainsData) (a b : RamState) → Leaves s e queue chains k a b → i < s.words → is_own (first_at s e) (slice_index s.lengths e) i ≡ false → Other s e chains a b i
other_word s e k i queue chains a b l lt away = record {
  loses = λ is. let t = comes_tells e (first_at s e) (slice_index s.lengths e) i s.chains.lists away is in (rw t.0 at (l.dropped i lt), rw t.1 at (l.undone i lt));
  keeps = λ ne. let t = none_tells e (first_at s e) (slice_index s.lengths e) i s.chains.lists away ne in (rw t.0 at (l.dropped i lt), rw t.1 at (l.undone i lt));
}

-- a word that is a link afterwards was the same one
record Kept (s : Ring) (v : ImageData) (e : ℕ) (chains : ChainsData) (a b : RamState) (i : ℕ) : Type 0 where
  same : holder_of chains.lists i ≡ target_at s i
  elsewhere : target_at s i ≡ e → ⊥
  word_stays : slice_index b.words i ≡ slice_index a.words i
  link : LinkAt s v i
  other : slice_index s.owners i ≡ e → ⊥

kept_word : (s : Ring) (v : ImageData) (e k i : ℕ) (queue : List ℕ) (chains : ChainsData) (a b : RamState) → RingSound s v a.words → Leaves s e queue chains k a b → i < s.words → holder_of chains.lists i < length s.firsts → Kept s v e chains a b i
kept_word s v e k i queue chains a b sound l lt t =
    let he = oldest_has s e queue l.oldest in
    elim (cases_Bool (is_own (first_at s e) (slice_index s.lengths e) i)) [
      | inl own ↦ absurd (let d = own_tells e (first_at s e) (slice_index s.lengths e) i s.chains.lists own in let all : holder_of chains.lists i ≡ length s.firsts = rw d.0 at (l.dropped i lt) in omega (arith, all, t))
      | inr away ↦ (
          let w = other_word s e k i queue chains a b l lt away in
          let ne : target_at s i ≡ e → ⊥ = λ (is : target_at s i ≡ e). omega (arith, (w.loses is).0, t) in
          let keep = w.keeps ne in
          let link = link_here s v a.words i sound lt (omega (arith, keep.0, t)) in
          record {
            same = keep.0;
            elsewhere = ne;
            word_stays = keep.1;
            link = link;
            other = λ (is : slice_index s.owners i ≡ e). both_ways _ away (sym (own_word s v a.words e i sound he link) ∙ eq-eqb _ _ is);
          })
    ]

same_exit : (s : Ring) (e k i : ℕ) (queue : List ℕ) (chains : ChainsData) → (slice_index s.owners i ≡ e → ⊥) → holder_of chains.lists i ≡ target_at s i → exit_of (left_ring s e queue chains k) i ≡ exit_of s i
same_exit s e k i queue chains ne same = rw (first_other s e (slice_index s.owners i) ne, same) refl

kept_in : (x y : Bool) → x ≡ false → y ≡ false → not (x || y) ≡ true
kept_in x y p q = rw (p, q) refl

kept_out : (x y : Bool) → not (x || y) ≡ true → (x ≡ false) × (y ≡ false)
kept_out true y e = absurd (both_ways false refl e)
kept_out false true e = absurd (both_ways false refl e)
kept_out false false e = (refl, refl)

undone_both : (a b d : Bool) → a ≡ d → (not a && b) ≡ (b && not d)
undone_both a b d p = rw p (swap b d)
  where
    swap : (b d : Bool) → (not d && b) ≡ (b && not d)
    swap true true = refl
    swap true false = refl
    swap false true = refl
    swap false false = refl

-- the links that are left
pub left_links : (s : Ring) (v : ImageData) (e k : ℕ) (queue : List ℕ) (chains : ChainsData) (a b : RamState) → RingSound s v a.words → Leaves s e queue chains k a b →
    links_of (left_ring s e queue chains k) ≡ filter (is_kept (spot s.firsts e)) (links_of s)
unfolding links_of is_kept
left_links s v e k queue chains a b sound l =
    let t : Ring = left_ring s e queue chains k in
    let he = oldest_has s e queue l.oldest in
    let long : length (slice_set s.firsts e s.words) ≡ length s.firsts = length-set s.firsts e s.words in
    collected_filter (is_kept (spot s.firsts e)) (link_at s) (link_at t) s.words (differ_at s sound.stands)
    (λ i k' lt is. let w = link_at_some t i k' is in
    let u = kept_word s v e k i queue chains a b sound l lt (omega (arith, w.0, long)) in
    let same : exit_of s i ≡ k' = sym (same_exit s e k i queue chains u.other u.same) ∙ w.1 in (
      some_link_at s i (omega (arith, u.same, w.0, long)) ∙ ap (λ (x : Link). Some x) same,
      subst (λ (x : Link). is_kept (spot s.firsts e) x ≡ true) same (kept_in (slice_index s.owners i == e) (target_at s i == e) (ne_eqb _ _ u.other) (ne_eqb _ _ u.elsewhere)),
    ))
    (λ i k' lt is pass. let w = link_at_some s i k' is in
    let link = link_here s v a.words i sound lt w.0 in
    let test : is_kept (spot s.firsts e) (exit_of s i) ≡ true = subst (λ (x : Link). is_kept (spot s.firsts e) x ≡ true) (sym w.1) pass in
    let parts = kept_out (slice_index s.owners i == e) (target_at s i == e) test in
    let ne : slice_index s.owners i ≡ e → ⊥ = eqb-false _ _ parts.0 in
    let other = other_word s e k i queue chains a b l lt (sym (own_word s v a.words e i sound he link) ∙ parts.0) in
    let keep = other.keeps (eqb-false _ _ parts.1) in
    some_link_at t i (omega (arith, keep.0, w.0, long)) ∙ ap (λ (x : Link). Some x) (same_exit s e k i queue chains ne keep.0 ∙ w.1))

-- how many of them are undone
undone_at : (s : Ring) (v : ImageData) (words : List ℕ) (e i : ℕ) → RingSound s v words → Has s.queue e → i < s.words →
    passes (is_undone (spot s.firsts e)) (link_at s i) ≡ comes_in e (first_at s e) (slice_index s.lengths e) s.chains.lists i
unfolding link_at is_undone
undone_at s v words e i sound he lt = ways (nat_lt (target_at s i) (length s.firsts)) refl
  where
    ways : (t : Bool) → nat_lt (target_at s i) (length s.firsts) ≡ t → passes (is_undone (spot s.firsts e)) (if t then Some (exit_of s i) else None) ≡ comes_in e (first_at s e) (slice_index s.lengths e) s.chains.lists i
    ways true t =
        let link = link_here s v words i sound lt (ltb-true _ _ t) in
        undone_both (slice_index s.owners i == e) (target_at s i == e) (is_own (first_at s e) (slice_index s.lengths e) i) (own_word s v words e i sound he link)
    ways false t =
        let le = ltb-false _ _ t in
        let small = sound.shape.known e he in
        sym (other_tells e (first_at s e) (slice_index s.lengths e) i s.chains.lists (λ (is : target_at s i ≡ e). omega (arith, is, le, small)))

passing_coming : (p : Link → Bool) (f : ℕ → Option Link) (e first n : ℕ) (ls : List (List ℕ)) (k : ℕ) → ((i : ℕ) → i < k → passes p (f i) ≡ comes_in e first n ls i) → passing p f k ≡ coming_in e first n ls k
unfolding coming_in
passing_coming p f e first n ls zero same = refl
passing_coming p f e first n ls (suc k) same =
    rw (same k (omega arith), passing_coming p f e first n ls k (λ i lt. same i (omega arith))) refl

pub undone_count : (s : Ring) (v : ImageData) (words : List ℕ) (e : ℕ) → RingSound s v words → Has s.queue e →
    coming_in e (first_at s e) (slice_index s.lengths e) s.chains.lists s.words ≡ length (filter (is_undone (spot s.firsts e)) (links_of s))
unfolding links_of
undone_count s v words e sound he =
    sym (length_collected (is_undone (spot s.firsts e)) (link_at s) s.words ∙ passing_coming _ (link_at s) e _ _ _ s.words (λ i lt. undone_at s v words e i sound he lt))

-- the queue of the others is as before
pub queue_alike : (firsts gs queue : List ℕ) → ((b : ℕ) → Has queue b → slice_index firsts b ≡ slice_index gs b) → queue_of firsts queue ≡ queue_of gs queue
unfolding queue_of
queue_alike firsts gs [] same = refl
queue_alike firsts gs (b ∷ bs) same =
    ap (λ (f : ℕ). spot_at b f ∷ map (spot firsts) bs) (same b (inl refl)) ∙ ap (λ (es : List Placement). spot gs b ∷ es) (queue_alike firsts gs bs (λ c h. same c (inr h)))
  where
    spot_at : ℕ → ℕ → Placement
    spot_at b f = record { program = 0; block = b; first = f }

queue_first : (firsts queue rest : List ℕ) (e : ℕ) → queue ≡ e ∷ rest → queue_of firsts queue ≡ spot firsts e ∷ queue_of firsts rest
unfolding queue_of
queue_first firsts queue rest e is = rw is refl

evicted_first : (r : Record) (q es : List Placement) (e : Placement) → q ≡ e ∷ es → evicted r q ≡ record r {
  placed = es;
  links = filter (is_kept e) r.links;
  counts = record r.counts { evictions = r.counts.evictions + 1; unlinks = r.counts.unlinks + length (filter (is_undone e) r.links) };
}
unfolding evicted
evicted_first r q es e is = rw is refl

kept_is : (s : Ring) (q : List Placement) (ls : List Link) (k n : ℕ) → links_of s ≡ ls → queue_of s.firsts s.queue ≡ q →
    let r : Record = record { turn = 0; placed = q; links = ls; counts = s.counts; more = behind s.next } in kept_by s ≡ r
kept_is s q ls k n e f = rw (e, f) refl

-- the record has gone on by one eviction
pub left_moves : (s : Ring) (v : ImageData) (e k : ℕ) (queue : List ℕ) (chains : ChainsData) (a b : RamState) → RingSound s v a.words → Leaves s e queue chains k a b →
    kept_by (left_ring s e queue chains k) ≡ evicted (kept_by s) (queue_of s.firsts s.queue)
left_moves s v e k queue chains a b sound l =
    let t : Ring = left_ring s e queue chains k in
    let rest : queue_of (slice_set s.firsts e s.words) queue ≡ queue_of s.firsts queue = queue_alike (slice_set s.firsts e s.words) s.firsts queue (λ c h. first_other s e c (rest_other s e c queue sound.shape l.oldest h)) in
    let number : k ≡ length (filter (is_undone (spot s.firsts e)) (links_of s)) = l.number ∙ undone_count s v a.words e sound (oldest_has s e queue l.oldest) in
    kept_is t (queue_of s.firsts queue) (filter (is_kept (spot s.firsts e)) (links_of s)) 0 0 (left_links s v e k queue chains a b sound l) rest
    ∙ ap (λ (m : ℕ). record (kept_by s) {
      placed = queue_of s.firsts queue;
      links = filter (is_kept (spot s.firsts e)) (links_of s);
      counts = record s.counts { evictions = s.counts.evictions + 1; unlinks = s.counts.unlinks + m };
    }) number
    ∙ sym (evicted_first (kept_by s) (queue_of s.firsts s.queue) (queue_of s.firsts queue) (spot s.firsts e) (queue_first s.firsts s.queue queue e l.oldest))

left_linked : (s : Ring) (v : ImageData) (e k c o : ℕ) (queue : List ℕ) (chains : ChainsData) (a b : RamState) → RingSound s v a.words → Leaves s e queue chains k a b → Has queue c → o < length_at v c →
    holder_of chains.lists (slice_index (slice_set s.firsts e s.words) c + o) < length s.firsts → LinkStands (left_ring s e queue chains k) v b.words c o
left_linked s v e k c o queue chains a b sound l h lt t =
    let f : ℕ = first_at s c in
    let ne = rest_other s e c queue sound.shape l.oldest h in
    let here : slice_index (slice_set s.firsts e s.words) c ≡ first_at s c = first_other s e c ne in
    let older = rest_has s e c queue l.oldest h in
    let below = word_below s v a.words c o sound older lt in
    let u = kept_word s v e k (first_at s c + o) queue chains a b sound l below (subst (λ (g : ℕ). holder_of chains.lists (g + o) < length s.firsts) here t) in
    let link = sound.linked c o older lt (omega (arith, u.same, subst (λ (g : ℕ). holder_of chains.lists (g + o) < length s.firsts) here t)) in
    let far : slice_index (slice_set s.firsts e s.words) (target_at s (first_at s c + o)) ≡ first_at s (target_at s (first_at s c + o)) = first_other s e (target_at s (first_at s c + o)) u.elsewhere in
    let target : holder_of chains.lists (slice_index (slice_set s.firsts e s.words) c + o) ≡ target_at s (first_at s c + o) = ap (λ (g : ℕ). holder_of chains.lists (g + o)) here ∙ u.same in
    record {
      is_exit = link.is_exit;
      target = subst (λ (x : ℕ). Has queue x) (sym target) (other_rest s e (target_at s (first_at s c + o)) queue l.oldest link.target u.elsewhere);
      offset = link.offset;
      place_is = link.place_is ∙ ap (λ (x : ℕ). Some (x, link.offset)) (sym target);
      jumps = subst (λ (g : ℕ). IsJump (g + o) (slice_index (slice_set s.firsts e s.words) (holder_of chains.lists (slice_index (slice_set s.firsts e s.words) c + o)) + link.offset) (slice_index b.words (g + o))) (sym here)
          (subst (λ (x : ℕ). IsJump (first_at s c + o) (slice_index (slice_set s.firsts e s.words) x + link.offset) (slice_index b.words (first_at s c + o))) (sym target)
          (subst (λ (g : ℕ). IsJump (first_at s c + o) (g + link.offset) (slice_index b.words (first_at s c + o))) (sym far)
          (subst (λ (w : ℕ). IsJump (first_at s c + o) (first_at s (target_at s (first_at s c + o)) + link.offset) w) (sym u.word_stays) link.jumps)));
    }

left_plain : (s : Ring) (v : ImageData) (e k c o : ℕ) (queue : List ℕ) (chains : ChainsData) (a b : RamState) → RingSound s v a.words → Leaves s e queue chains k a b → Has queue c → o < length_at v c →
    length s.firsts ≤ holder_of chains.lists (first_at s c + o) → slice_index b.words (first_at s c + o) ≡ word_at v c o
left_plain s v e k c o queue chains a b sound l h lt t =
    let he = oldest_has s e queue l.oldest in
    let ne = rest_other s e c queue sound.shape l.oldest h in
    let older = rest_has s e c queue l.oldest h in
    let below = word_below s v a.words c o sound older lt in
    let w = other_word s e k (first_at s c + o) queue chains a b l below (foreign s v a.words e c o sound he older ne lt) in
    elim (cases_eq (target_at s (first_at s c + o)) e) [
      | inl is ↦ (w.loses is).1 ∙ sym (sound.linked c o older lt (omega (arith, is, sound.shape.known e he))).is_exit.leaves
      | inr other ↦ (let keep = w.keeps other in keep.1 ∙ sound.plain c o older lt (omega (arith, keep.0, t)))
    ]

pub left_sound : (s : Ring) (v : ImageData) (e k : ℕ) (queue : List ℕ) (chains : ChainsData) (a b : RamState) → RingSound s v a.words → s.counts.misses ≤ s.counts.services → Leaves s e queue chains k a b →
    RingSound (left_ring s e queue chains k) v b.words
left_sound s v e k queue chains a b sound few l =
    let long : length (slice_set s.firsts e s.words) ≡ length s.firsts = length-set s.firsts e s.words in
    let old : (c : ℕ) → Has queue c → Has s.queue c = λ c h. rest_has s e c queue l.oldest h in
    let here : (c : ℕ) → Has queue c → slice_index (slice_set s.firsts e s.words) c ≡ first_at s c = λ c h. first_other s e c (rest_other s e c queue sound.shape l.oldest h) in
    record {
      shape = left_shape s e queue chains _ sound.shape l.oldest l.words_stay l.lists_stay;
      image = sound.image;
      blocks_most = omega (arith, sound.blocks_most, long);
      known = λ c h. sound.known c (old c h);
      holds_one = sound.holds_one;
      fits = omega (arith, sound.fits, l.wrote.spared.length_stays);
      lengths_are = λ c h. sound.lengths_are c (old c h);
      owned = λ c o h lt. ap (λ (g : ℕ). slice_index s.owners (g + o)) (here c h) ∙ sound.owned c o (old c h) lt;
      stands = λ i lt t. (
          let u = kept_word s v e k i queue chains a b sound l lt (omega (arith, t, long)) in
          let same = first_other s e (slice_index s.owners i) u.other in
          record {
            placed = other_rest s e (slice_index s.owners i) queue l.oldest u.link.owned.placed u.other;
            from = omega (arith, same, u.link.owned.from);
            to = omega (arith, same, u.link.owned.to);
          });
      linked = λ c o h lt t. left_linked s v e k c o queue chains a b sound l h lt (omega (arith, t, long));
      plain = λ c o h lt t. ap (λ (g : ℕ). slice_index b.words (g + o)) (here c h)
          ∙ left_plain s v e k c o queue chains a b sound l h lt (subst (λ (g : ℕ). length s.firsts ≤ holder_of chains.lists (g + o)) (here c h) (omega (arith, t, long)));
      next_copied = sound.next_copied;
      ends = λ c h. omega (arith, here c h, sound.ends c (old c h));
      misses_few = omega (arith, few);
      evictions_few = omega (arith, sound.evictions_few, ap (λ (xs : List ℕ). length xs) l.oldest);
      copied_few = sound.copied_few;
      links_few = sound.links_few;
      unlinks_few = omega (arith, ap (λ (ls : List Link). length ls) (left_links s v e k queue chains a b sound l), sound.unlinks_few, l.number, undone_count s v a.words e sound (oldest_has s e queue l.oldest), undone_apart (spot s.firsts e) (links_of s));
    }

-- a placement is left from before
pub placed_left : (s t : Ring) (p : Placement) → ((b : ℕ) → Has t.queue b → Has s.queue b × (first_at t b ≡ first_at s b)) → HasPlacement (queue_of t.firsts t.queue) p → HasPlacement (queue_of s.firsts s.queue) p
unfolding queue_of
placed_left s t p fewer h =
    let w = have_spots t.firsts t.queue p h in
    let f = fewer p.block w.0 in
    subst (λ (x : Placement). HasPlacement (map (spot s.firsts) s.queue) x) (ap (λ (g : ℕ). spot_at p.block g) (sym f.1) ∙ sym w.1) (spots_have s.firsts s.queue p.block f.0)
  where
    spot_at : ℕ → ℕ → Placement
    spot_at b f = record { program = 0; block = b; first = f }

-- one eviction
left_changes : (s : Ring) (v : ImageData) (e k i : ℕ) (queue : List ℕ) (chains : ChainsData) (a b : RamState) → RingSound s v a.words → Leaves s e queue chains k a b →
    (slice_index b.words i ≡ slice_index a.words i) ⊎ (Undid s (left_ring s e queue chains k) i × (slice_index b.words i ≡ ebreak))
unfolding queue_of is_kept
left_changes s v e k i queue chains a b sound l = elim (cases_lt i s.words) [
  | inl lt ↦ elim (cases_Bool (comes_in e (first_at s e) (slice_index s.lengths e) s.chains.lists i)) [
    | inl t ↦ inr (
        let parts = and_parts (target_at s i == e) (not (is_own (first_at s e) (slice_index s.lengths e) i)) t in
        let is : target_at s i ≡ e = eqb-true _ _ parts.0 in
        let small : target_at s i < length s.firsts = omega (arith, is, sound.shape.known e (oldest_has s e queue l.oldest)) in
        let link = link_here s v a.words i sound lt small in (
          record {
            link = exit_of s i;
            first = first_at s (slice_index s.owners i);
            stood = spots_have s.firsts s.queue (slice_index s.owners i) link.owned.placed;
            was = was_link i lt small;
            gone = ap (λ (ls : List Link). has_link ls (exit_of s i)) (left_links s v e k queue chains a b sound l) ∙ has_filter (is_kept (spot s.firsts e)) (links_of s) (exit_of s i)
                ∙ never (has_link (links_of s) (exit_of s i)) (slice_index s.owners i == e) (target_at s i == e) (eq-eqb _ _ is);
            index = sym link.here;
          },
          rw t at (l.undone i lt),
        ))
    | inr t ↦ inl (rw t at (l.undone i lt))
  ]
  | inr le ↦ inl (l.wrote.spared.beyond i le)
]
  where
    never : (x y z : Bool) → z ≡ true → (x && not (y || z)) ≡ false
    never true true z e = refl
    never true false z e = rw e refl
    never false y z e = refl

    exit_to : ℕ → ℕ → Link
    exit_to i j = record { program = 0; block = slice_index s.owners i; offset = i - first_at s (slice_index s.owners i); into = target_at s j }

    was_link : (i : ℕ) → i < s.words → target_at s i < length s.firsts → has_link (links_of s) (exit_of s i) ≡ true
    was_link i lt small = (let link = link_here s v a.words i sound lt small in
        subst (λ (j : ℕ). has_link (links_of s) (exit_to i j) ≡ true) link.here
        (has_found s v a.words (slice_index s.owners i) (i - first_at s (slice_index s.owners i)) sound link.owned.placed link.inside (subst (λ (j : ℕ). target_at s j < length s.firsts) (sym link.here) small)))

left_restored : (s : Ring) (v : ImageData) (e k : ℕ) (queue : List ℕ) (chains : ChainsData) (a b : RamState) (n : Link) (f : ℕ) → RingSound s v a.words → RingSound (left_ring s e queue chains k) v b.words → Leaves s e queue chains k a b →
    has_link (links_of s) n ≡ true → has_link (links_of (left_ring s e queue chains k)) n ≡ false → HasPlacement (queue_of s.firsts s.queue) (record { program = n.program; block = n.block; first = f }) →
    HasPlacement (queue_of (slice_set s.firsts e s.words) queue) (record { program = n.program; block = n.block; first = f }) → slice_index b.words (f + n.offset) ≡ ebreak
unfolding queue_of
left_restored s v e k queue chains a b n f sound sound' l was is h h' =
    let t : Ring = left_ring s e queue chains k in
    let he = oldest_has s e queue l.oldest in
    let w = found_at s v a.words n sound was in
    let p = have_spots s.firsts s.queue (record { program = n.program; block = n.block; first = f }) h in
    let q = have_spots (slice_set s.firsts e s.words) queue (record { program = n.program; block = n.block; first = f }) h' in
    let ne = rest_other s e n.block queue sound.shape l.oldest q.0 in
    let first : f ≡ first_at s n.block = ap (λ (x : Placement). x.first) p.1 in
    let below = word_below s v a.words n.block n.offset sound w.placed w.inside in
    let other = other_word s e k (first_at s n.block + n.offset) queue chains a b l below (foreign s v a.words e n.block n.offset sound he w.placed ne w.inside) in
    ap (λ (g : ℕ). slice_index b.words (g + n.offset)) first ∙ elim (cases_eq (target_at s (first_at s n.block + n.offset)) e) [
      | inl same ↦ (other.loses same).1
      | inr elsewhere ↦ absurd (
          let keep = other.keeps elsewhere in
          let here = first_other s e n.block ne in
          let long : length (slice_set s.firsts e s.words) ≡ length s.firsts = length-set s.firsts e s.words in
          let still : holder_of chains.lists (slice_index (slice_set s.firsts e s.words) n.block + n.offset) < length (slice_set s.firsts e s.words) =
          subst (λ (g : ℕ). holder_of chains.lists (g + n.offset) < length (slice_set s.firsts e s.words)) (sym here) (omega (arith, keep.0, w.target, long)) in
          let into : holder_of chains.lists (slice_index (slice_set s.firsts e s.words) n.block + n.offset) ≡ n.into = ap (λ (g : ℕ). holder_of chains.lists (g + n.offset)) here ∙ keep.0 ∙ sym w.into_is in
          let has : has_link (links_of t) (link_of t n.block n.offset) ≡ true = has_found t v b.words n.block n.offset sound' q.0 w.inside still in
          both_ways (has_link (links_of t) n) is (subst (λ (z : ℕ). has_link (links_of t) (record { program = z; block = n.block; offset = n.offset; into = n.into }) ≡ true) (sym w.own)
          (subst (λ (j : ℕ). has_link (links_of t) (record { program = 0; block = n.block; offset = n.offset; into = j }) ≡ true) into has)))
    ]

pub left_receded : (s : Ring) (v : ImageData) (e k : ℕ) (queue : List ℕ) (chains : ChainsData) (a b : RamState) → RingSound s v a.words → s.counts.misses ≤ s.counts.services → Leaves s e queue chains k a b →
    Receded v s (left_ring s e queue chains k) a b
left_receded s v e k queue chains a b sound few l =
    let sound' = left_sound s v e k queue chains a b sound few l in
    record {
      sound = sound';
      words_stay = refl;
      next_stays = refl;
      services_stay = refl;
      misses_stay = refl;
      links_stay = refl;
      copied_stay = refl;
      grows = omega arith;
      blocks_stay = length-set s.firsts e s.words;
      fewer = λ c h. (rest_has s e c queue l.oldest h, first_other s e c (rest_other s e c queue sound.shape l.oldest h));
      links_left = λ n h. (and_parts (has_link (links_of s) n) (is_kept (spot s.firsts e) n) (sym (has_filter (is_kept (spot s.firsts e)) (links_of s) n) ∙ sym (ap (λ (ls : List Link). has_link ls n) (left_links s v e k queue chains a b sound l)) ∙ h)).0;
      wrote = subst (λ (m : ℕ). Wrote s.words m a b) (omega arith) l.wrote;
      changes = λ i. left_changes s v e k i queue chains a b sound l;
      restored = λ n f was is h h'. left_restored s v e k queue chains a b n f sound sound' l was is h h';
    }

-- nothing has left
pub receded_none : (s : Ring) (v : ImageData) (a : RamState) → RingSound s v a.words → Wrote s.words 0 a a → Receded v s s a a
receded_none s v a sound none = record {
  sound = sound;
  words_stay = refl;
  next_stays = refl;
  services_stay = refl;
  misses_stay = refl;
  links_stay = refl;
  copied_stay = refl;
  grows = omega arith;
  blocks_stay = refl;
  fewer = λ c h. (h, refl);
  links_left = λ n h. h;
  wrote = subst (λ (m : ℕ). Wrote s.words m a a) (omega arith) none;
  changes = λ i. inl refl;
  restored = λ n f was is h h'. absurd (both_ways (has_link (links_of s) n) is was);
}

-- one after the other
pub receded_both : (v : ImageData) (s t u : Ring) (a b c : RamState) → Receded v s t a b → Receded v t u b c → Receded v s u a c
receded_both v s t u a b c p q = record {
  sound = q.sound;
  words_stay = q.words_stay ∙ p.words_stay;
  next_stays = q.next_stays ∙ p.next_stays;
  services_stay = q.services_stay ∙ p.services_stay;
  misses_stay = q.misses_stay ∙ p.misses_stay;
  links_stay = q.links_stay ∙ p.links_stay;
  copied_stay = q.copied_stay ∙ p.copied_stay;
  grows = omega (arith, p.grows, q.grows);
  blocks_stay = q.blocks_stay ∙ p.blocks_stay;
  fewer = λ x h. let w = q.fewer x h in let w' = p.fewer x w.0 in (w'.0, w.1 ∙ w'.1);
  links_left = λ n h. p.links_left n (q.links_left n h);
  wrote = subst (λ (m : ℕ). Wrote s.words m a c) (omega (arith, p.grows, q.grows))
      (wrote_more s.words s.words _ _ a b c p.wrote (subst (λ (m : ℕ). Wrote m (u.counts.unlinks - t.counts.unlinks) b c) p.words_stay q.wrote) (omega arith));
  changes = λ i. elim (q.changes i) [
    | inl same ↦ elim (p.changes i) [
      | inl before ↦ inl (same ∙ before)
      | inr d ↦ inr (
        record {
          link = d.0.link;
          first = d.0.first;
          stood = d.0.stood;
          was = d.0.was;
          gone = false_from_ne_true (has_link (links_of u) d.0.link) (λ (h : has_link (links_of u) d.0.link ≡ true). both_ways (has_link (links_of t) d.0.link) d.0.gone (q.links_left d.0.link h));
          index = d.0.index;
        },
        same ∙ d.1,
      )
    ]
    | inr d ↦ inr (
      record {
        link = d.0.link;
        first = d.0.first;
        stood = placed_left s t (record { program = d.0.link.program; block = d.0.link.block; first = d.0.first }) p.fewer d.0.stood;
        was = p.links_left d.0.link d.0.was;
        gone = d.0.gone;
        index = d.0.index;
      },
      d.1,
    )
  ];
  restored = λ n f was is h h'.
      let mid = placed_left t u (record { program = n.program; block = n.block; first = f }) q.fewer h' in
      elim (cases_Bool (has_link (links_of t) n)) [
        | inl still ↦ q.restored n f still is mid h'
        | inr gone ↦ (let e = p.restored n f was gone h mid in elim (q.changes (f + n.offset)) [ inl same ↦ same ∙ e | inr d ↦ d.1 ])
      ];
}

-- as the code meets it
pub leaves_from : (s t : Ring) (e : ℕ) (a b : RamState) → Left e s t a b → Leaves s e t.queue t.chains (coming_in e (first_at s e) (slice_index s.lengths e) s.chains.lists s.words) a b
leaves_from s t e a b l = record {
  oldest = l.oldest;
  words_stay = l.words_stay;
  lists_stay = l.lists_stay;
  dropped = l.dropped;
  undone = l.undone;
  number = refl;
  wrote = l.wrote;
}

pub left_call : (s t : Ring) (v : ImageData) (e : ℕ) (a b : RamState) → RingSound s v a.words → s.counts.misses ≤ s.counts.services → Left e s t a b → Receded v s t a b × (kept_by t ≡ evicted (kept_by s) (queue_of s.firsts s.queue))
left_call s t v e a b sound few l =
    let w = leaves_from s t e a b l in (
      subst (λ (x : Ring). Receded v s x a b) (sym l.moved) (left_receded s v e _ t.queue t.chains a b sound few w),
      ap (λ (x : Ring). kept_by x) l.moved ∙ left_moves s v e _ t.queue t.chains a b sound w,
    )
