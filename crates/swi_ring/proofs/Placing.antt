-- A block takes its place.
use Rattle.std.proofs.Common.{Result, Ok, Err, IfOk, OnOk, ◌≡◌, ◌⊎◌, ℕ, suc, zero, ◌+◌, ◌-◌, ◌*◌, ◌<◌, ◌≤◌, ◌==◌, ◌&&◌, Bool, true, false, List, [], ◌∷◌, ◌++◌, map, length, Some, None, slice_index, slice_set, nat_lt, if◌then◌else◌, arith, refl, sym, ◌∙◌, ap, subst, inl, inr}
use Rattle.std.proofs.lemmas.Bool.{cases_lt, ltb-true, both_ways, false_from_ne_true, or_left, or_right, or_cases, eq-eqb, eqb-true}
use Rattle.std.specs.List.{list_any}
use Rattle.std.proofs.lemmas.List.{length-set, get_or-set_same, get_or-set_other}
use Rattle.swi_image.specs.Format.{ImageData}
use Rattle.swi_image.specs.Place.{word_at, length_at}
use Rattle.swi_image.specs.Sound.{IsImage}
use Rattle.swi_outside.specs.CacheRam.{RamState}
use Rattle.swi_links.specs.Chains.{Has}
use Rattle.swi_rom.specs.Record.{Record, Placement, Link, Placed, has_link, IsJump}
use Rattle.swi_rom.specs.Record.{Has as HasPlacement}
use Rattle.swi_rom.specs.Policy.{is_placed, counted, more_services}
use Rattle.swi_rom.specs.Served.{WordsMove, NewlyPlaced, LinkChanged}
use Rattle.swi_rom.specs.Writing.{Wrote, Copied}
use Rattle.swi_rom.specs.Policy.{more_service}
use Rattle.swi_rom.specs.Rams.{wrote_none, wrote_more, wrote_wider}
use Rattle.swi_rom.proofs.Moving.{moves_from}
use Rattle.swi_rom.specs.declared.rom.Counts.{Counts}
use Rattle.swi_ring.specs.Fifo.{appended, placed, arrived, first_for}
use Rattle.swi_ring.specs.Ring.{Ring, first_at, target_at, spot, queue_of, exit_of, link_at, links_of, behind, kept_by}
use Rattle.swi_ring.specs.Sound.{RingSound, LinkStands}
use Rattle.swi_ring.specs.Steps.{marked, Receded, MadeRoom, settled, first_in, Filled, counted_ring, Arrived}
use Rattle.swi_ring.specs.Coheres.{spots_have, have_spots, found_at}
use Rattle.swi_links.proofs.Numbers.{append_has, append_here, has_append}
use Rattle.swi_ring.proofs.Shapes.{append_long, marked_in, marked_other, settled_shape, first_least, first_fits, behind_some}
use Rattle.swi_ring.proofs.Receding.{queue_alike}
use Rattle.swi_ring.proofs.Gathered.{collected_alike}

-- the block has a place that no other meets, and its words stand there
pub record Taken (v : ImageData) (u : Ring) (c p n : ℕ) (b d : RamState) : Type 0 where
  pub sound : RingSound u v b.words
  pub few : u.counts.misses ≤ u.counts.services
  pub known : c < length v.blocks
  pub size : n ≡ length_at v c
  pub lacks : Has u.queue c → ⊥
  pub fits : p + n ≤ u.words
  pub front : p ≤ u.counts.copied
  pub free : (x : ℕ) → Has u.queue x → (first_at u x + length_at v x ≤ p) ⊎ (p + n ≤ first_at u x)
  pub copied : Copied (word_at v c) p n b d

pub size_some : (v : ImageData) (c : ℕ) → IsImage v → c < length v.blocks → (1 ≤ length_at v c) × (length_at v c ≤ v.block_words)
size_some v c image lt = image.lengths c (omega (arith, lt, image.blocks))

other : (u : Ring) (c x : ℕ) → (Has u.queue c → ⊥) → Has u.queue x → x ≡ c → ⊥
other u c x lacks h e = lacks (subst (λ (y : ℕ). Has u.queue y) e h)

first_old : (u : Ring) (c p x : ℕ) → (x ≡ c → ⊥) → slice_index (slice_set u.firsts c p) x ≡ first_at u x
first_old u c p x ne = get_or-set_other u.firsts c x p 0 ne

first_new : (v : ImageData) (u : Ring) (c p n : ℕ) (b d : RamState) → Taken v u c p n b d → slice_index (slice_set u.firsts c p) c ≡ p
first_new v u c p n b d t = get_or-set_same u.firsts c p 0 (omega (arith, t.known, t.sound.blocks_most))

-- a word of another block is none of these
pub outside_range : (v : ImageData) (u : Ring) (c p n x o : ℕ) (b d : RamState) → Taken v u c p n b d → Has u.queue x → o < length_at v x → (first_at u x + o < p) ⊎ (p + n ≤ first_at u x + o)
outside_range v u c p n x o b d t h lt = elim (t.free x h) [ inl le ↦ inl (omega (arith, le, lt)) | inr le ↦ inr (omega (arith, le)) ]

old_word : (v : ImageData) (c p n i : ℕ) (b d : RamState) → Copied (word_at v c) p n b d → (i < p) ⊎ (p + n ≤ i) → slice_index d.words i ≡ slice_index b.words i
old_word v c p n i b d copied (inl lt) = copied.below i lt
old_word v c p n i b d copied (inr le) = copied.wrote.spared.beyond i le

-- a word of the range is no link
pub unlinked : (v : ImageData) (u : Ring) (c p n i : ℕ) (b d : RamState) → Taken v u c p n b d → p ≤ i → i < p + n → target_at u i < length u.firsts → ⊥
unlinked v u c p n i b d t le lt h =
    let own = t.sound.stands i (omega (arith, lt, t.fits)) h in
    elim (t.free (slice_index u.owners i) own.placed) [
      | inl before ↦ omega (arith, own.to, before, le, t.sound.lengths_are (slice_index u.owners i) own.placed)
      | inr behind ↦ omega (arith, own.from, behind, lt)
    ]

same_exit : (v : ImageData) (u : Ring) (c p n i : ℕ) (b d : RamState) → Taken v u c p n b d → i < u.words → target_at u i < length u.firsts → exit_of (settled u c p n) i ≡ exit_of u i
same_exit v u c p n i b d t lt h =
    let own = t.sound.stands i lt h in
    let away : (i < p) ⊎ (p + n ≤ i) = outside_word in
    let owner : slice_index (marked u.owners p n c) i ≡ slice_index u.owners i = marked_other u.owners p n c i away in
    let first : slice_index (slice_set u.firsts c p) (slice_index u.owners i) ≡ first_at u (slice_index u.owners i) = first_old u c p (slice_index u.owners i) (other u c (slice_index u.owners i) t.lacks own.placed) in
    rw (owner, first) refl
  where
    outside_word : (i < p) ⊎ (p + n ≤ i)
    outside_word = elim (cases_lt i p) [
      | inl before ↦ inl before
      | inr le ↦ elim (cases_lt i (p + n)) [
        | inl within ↦ absurd (unlinked v u c p n i b d t le within h)
        | inr behind ↦ inr behind
      ]
    ]

same_link_at : (v : ImageData) (u : Ring) (c p n i : ℕ) (b d : RamState) → Taken v u c p n b d → i < u.words → link_at (settled u c p n) i ≡ link_at u i
unfolding link_at
same_link_at v u c p n i b d t lt =
    let long : length (slice_set u.firsts c p) ≡ length u.firsts = length-set u.firsts c p in
    ap (λ (m : ℕ). if nat_lt (target_at u i) m then Some (exit_of (settled u c p n) i) else None) long ∙ ways (nat_lt (target_at u i) (length u.firsts)) refl
  where
    ways : (w : Bool) → nat_lt (target_at u i) (length u.firsts) ≡ w → (if w then Some (exit_of (settled u c p n) i) else None) ≡ (if w then Some (exit_of u i) else None)
    ways true e = ap (λ (k : Link). Some k) (same_exit v u c p n i b d t lt (ltb-true _ _ e))
    ways false e = refl

pub settled_links : (v : ImageData) (u : Ring) (c p n : ℕ) (b d : RamState) → Taken v u c p n b d → links_of (settled u c p n) ≡ links_of u
unfolding links_of
settled_links v u c p n b d t = collected_alike (link_at (settled u c p n)) (link_at u) u.words (λ i lt. same_link_at v u c p n i b d t lt)

settled_linked : (v : ImageData) (u : Ring) (c p n x o : ℕ) (b d : RamState) → Taken v u c p n b d → Has u.queue x → o < length_at v x → target_at u (first_at u x + o) < length u.firsts →
    slice_index (slice_set u.firsts c p) x ≡ first_at u x → LinkStands (settled u c p n) v d.words x o
settled_linked v u c p n x o b d t h lt small here =
    let link = t.sound.linked x o h lt small in
    let y : ℕ = target_at u (first_at u x + o) in
    let word : slice_index d.words (first_at u x + o) ≡ slice_index b.words (first_at u x + o) = old_word v c p n (first_at u x + o) b d t.copied (outside_range v u c p n x o b d t h lt) in
    let far : slice_index (slice_set u.firsts c p) (target_at u (first_at u x + o)) ≡ first_at u (target_at u (first_at u x + o)) = first_old u c p _ (other u c _ t.lacks link.target) in
    record {
      is_exit = link.is_exit;
      target = subst (λ (g : ℕ). Has (u.queue ++ c ∷ []) (target_at u (g + o))) (sym here) (append_has u.queue c _ link.target);
      offset = link.offset;
      place_is = link.place_is ∙ ap (λ (g : ℕ). Some (target_at u (g + o), link.offset)) (sym here);
      jumps = subst (λ (g : ℕ). IsJump (g + o) (slice_index (slice_set u.firsts c p) (target_at u (g + o)) + link.offset) (slice_index d.words (g + o))) (sym here)
          (subst (λ (g : ℕ). IsJump (first_at u x + o) (g + link.offset) (slice_index d.words (first_at u x + o))) (sym far)
          (subst (λ (w : ℕ). IsJump (first_at u x + o) (first_at u (target_at u (first_at u x + o)) + link.offset) w) (sym word) link.jumps));
    }

pub settled_sound : (v : ImageData) (u : Ring) (c p n : ℕ) (b d : RamState) → Taken v u c p n b d → RingSound (settled u c p n) v d.words
settled_sound v u c p n b d t =
    let sound = t.sound in
    let small : c < length u.firsts = omega (arith, t.known, sound.blocks_most) in
    let long : length (slice_set u.firsts c p) ≡ length u.firsts = length-set u.firsts c p in
    let size = size_some v c sound.image t.known in
    let some : 1 ≤ n = omega (arith, t.size, size.0) in
    let most : n ≤ 1024 = omega (arith, t.size, size.1, sound.image.most) in
    let own : p + n ≤ length u.owners = omega (arith, t.fits, sound.shape.owners_long) in
    let here : slice_index (slice_set u.firsts c p) c ≡ p = first_new v u c p n b d t in
    let old : (x : ℕ) → Has u.queue x → slice_index (slice_set u.firsts c p) x ≡ first_at u x = λ x h. first_old u c p x (other u c x t.lacks h) in
    record {
      shape = settled_shape u c p n (record u.counts { misses = u.counts.misses + 1; copied = u.counts.copied + n }) sound.shape small t.lacks some t.fits;
      image = sound.image;
      blocks_most = omega (arith, sound.blocks_most, long);
      known = λ x h. elim (has_append u.queue c x h) [ inl i ↦ sound.known x i | inr e ↦ subst (λ (y : ℕ). y < length v.blocks) e t.known ];
      holds_one = sound.holds_one;
      fits = omega (arith, sound.fits, t.copied.wrote.spared.length_stays);
      lengths_are = λ x h. elim (has_append u.queue c x h) [
        | inl i ↦ get_or-set_other u.lengths c x n 0 (other u c x t.lacks i) ∙ sound.lengths_are x i
        | inr e ↦ ap (λ (y : ℕ). slice_index (slice_set u.lengths c n) y) (sym e) ∙ get_or-set_same u.lengths c n 0 (omega (arith, small, sound.shape.lengths_long)) ∙ t.size ∙ ap (λ (y : ℕ). length_at v y) e
      ];
      owned = λ x o h lt. elim (has_append u.queue c x h) [
        | inl i ↦ ap (λ (g : ℕ). slice_index (marked u.owners p n c) (g + o)) (old x i) ∙ marked_other u.owners p n c (first_at u x + o) (outside_range v u c p n x o b d t i lt) ∙ sound.owned x o i lt
        | inr e ↦ (
            let inside : o < n = omega (arith, t.size, ap (λ (y : ℕ). length_at v y) e, lt) in
            ap (λ (y : ℕ). slice_index (marked u.owners p n c) (slice_index (slice_set u.firsts c p) y + o)) (sym e) ∙ ap (λ (g : ℕ). slice_index (marked u.owners p n c) (g + o)) here
            ∙ marked_in u.owners p n c (p + o) own (omega arith) (omega (arith, inside)) ∙ e)
      ];
      stands = λ i lt h. (
          let linked : target_at u i < length u.firsts = omega (arith, h, long) in
          let at = sound.stands i lt linked in
          let same = same_exit v u c p n i b d t lt linked in
          let owner : slice_index (marked u.owners p n c) i ≡ slice_index u.owners i = ap (λ (k : Link). k.block) same in
          record {
            placed = subst (λ (y : ℕ). Has (u.queue ++ c ∷ []) y) (sym owner) (append_has u.queue c _ at.placed);
            from = subst (λ (y : ℕ). slice_index (slice_set u.firsts c p) y ≤ i) (sym owner) (omega (arith, old (slice_index u.owners i) at.placed, at.from));
            to = subst (λ (y : ℕ). i < slice_index (slice_set u.firsts c p) y + slice_index (slice_set u.lengths c n) y) (sym owner)
                (omega (arith, old (slice_index u.owners i) at.placed, get_or-set_other u.lengths c (slice_index u.owners i) n 0 (other u c (slice_index u.owners i) t.lacks at.placed), at.to));
          });
      linked = λ x o h lt w. elim (has_append u.queue c x h) [
        | inl i ↦ settled_linked v u c p n x o b d t i lt (subst (λ (g : ℕ). target_at u (g + o) < length u.firsts) (old x i) (omega (arith, w, long))) (old x i)
        | inr e ↦ absurd (
            let inside : o < n = omega (arith, t.size, ap (λ (y : ℕ). length_at v y) e, lt) in
            let first : slice_index (slice_set u.firsts c p) x ≡ p = ap (λ (y : ℕ). slice_index (slice_set u.firsts c p) y) (sym e) ∙ here in
            unlinked v u c p n (p + o) b d t (omega arith) (omega (arith, inside)) (subst (λ (g : ℕ). target_at u (g + o) < length u.firsts) first (omega (arith, w, long))))
      ];
      plain = λ x o h lt w. elim (has_append u.queue c x h) [
        | inl i ↦ ap (λ (g : ℕ). slice_index d.words (g + o)) (old x i) ∙ old_word v c p n (first_at u x + o) b d t.copied (outside_range v u c p n x o b d t i lt)
            ∙ sound.plain x o i lt (subst (λ (g : ℕ). length u.firsts ≤ target_at u (g + o)) (old x i) (omega (arith, w, long)))
        | inr e ↦ (
            let inside : o < n = omega (arith, t.size, ap (λ (y : ℕ). length_at v y) e, lt) in
            let first : slice_index (slice_set u.firsts c p) x ≡ p = ap (λ (y : ℕ). slice_index (slice_set u.firsts c p) y) (sym e) ∙ here in
            ap (λ (g : ℕ). slice_index d.words (g + o)) first ∙ t.copied.copied o inside ∙ ap (λ (y : ℕ). word_at v y o) e)
      ];
      next_copied = omega (arith, t.front);
      ends = λ x h. elim (has_append u.queue c x h) [
        | inl i ↦ omega (arith, old x i, sound.ends x i)
        | inr e ↦ omega (arith, ap (λ (y : ℕ). slice_index (slice_set u.firsts c p) y) (sym e), here, ap (λ (y : ℕ). length_at v y) e, t.size, t.front)
      ];
      misses_few = more u.queue;
      evictions_few = omega (arith, sound.evictions_few, append_long u.queue c);
      copied_few = (let k : u.counts.copied + n ≤ (u.counts.misses + 1) * 1024 = omega (arith, sound.copied_few, most) in k);
      links_few = sound.links_few;
      unlinks_few = omega (arith, ap (λ (ls : List Link). length ls) (settled_links v u c p n b d t), sound.unlinks_few);
    }
  where
    more_in : (m : ℕ) → m ≡ length u.queue + 1 → u.counts.misses + 1 ≤ u.counts.services + more_service m
    more_in zero e = absurd (omega (arith, e))
    more_in (suc m) e = omega (arith, t.few)

    more : (q : List ℕ) → u.counts.misses + 1 ≤ u.counts.services + more_service (length (u.queue ++ c ∷ []))
    more q = more_in (length (u.queue ++ c ∷ [])) (append_long u.queue c)

-- the record after it
queue_more : (firsts queue : List ℕ) (c : ℕ) → queue_of firsts (queue ++ c ∷ []) ≡ queue_of firsts queue ++ spot firsts c ∷ []
unfolding queue_of
queue_more firsts [] c = refl
queue_more firsts (x ∷ xs) c = ap (λ (es : List Placement). spot firsts x ∷ es) (queue_more firsts xs c)

same_kept : (q r : List Placement) (ls ms : List Link) (counts : Counts) (ns os : List ℕ) → q ≡ r → ls ≡ ms → ns ≡ os →
    let x : Record = record { turn = 0; placed = q; links = ls; counts = counts; more = ns } in let y : Record = record { turn = 0; placed = r; links = ms; counts = counts; more = os } in x ≡ y
same_kept q r ls ms counts ns os e f g = rw (e, f, g) refl

settled_kept : (v : ImageData) (u : Ring) (c p n : ℕ) (b d : RamState) → Taken v u c p n b d → kept_by (settled u c p n) ≡ appended v p (kept_by u) c
unfolding appended
settled_kept v u c p n b d t =
    let q : queue_of (slice_set u.firsts c p) (u.queue ++ c ∷ []) ≡ queue_of u.firsts u.queue ++ record { program = 0; block = c; first = p } ∷ [] =
    queue_more (slice_set u.firsts c p) u.queue c
    ∙ ap (λ (es : List Placement). es ++ spot (slice_set u.firsts c p) c ∷ []) (queue_alike (slice_set u.firsts c p) u.firsts u.queue (λ x h. first_old u c p x (other u c x t.lacks h)))
    ∙ ap (λ (g : ℕ). queue_of u.firsts u.queue ++ spot_at c g ∷ []) (first_new v u c p n b d t) in
    let size = size_some v c t.sound.image t.known in
    same_kept _ _ _ _ _ (behind (p + n)) _ q (settled_links v u c p n b d t) (behind_some (p + n) (omega (arith, t.size, size.0)))
    ∙ ap (λ (m : ℕ). record (kept_by u) {
      placed = queue_of u.firsts u.queue ++ record { program = 0; block = c; first = p } ∷ [];
      counts = record u.counts { misses = u.counts.misses + 1; copied = u.counts.copied + m };
      more = (p + m) ∷ [];
    }) t.size
  where
    spot_at : ℕ → ℕ → Placement
    spot_at b f = record { program = 0; block = b; first = f }

-- a block is is_own the placed ones exactly where the queue has it
pub placed_is : (s : Ring) (b : ℕ) → Has s.queue b → is_placed (kept_by s) b ≡ true
unfolding is_placed queue_of
placed_is s b h = any s.queue h
  where
    any : (queue : List ℕ) → Has queue b → list_any (λ (e : Placement). e.program == 0 && e.block == b) (map (spot s.firsts) queue) ≡ true
    any [] h = absurd h
    any (c ∷ cs) (inl e) = or_left (c == b) _ (eq-eqb c b e)
    any (c ∷ cs) (inr h) = or_right (c == b) _ (any cs h)

pub is_placed_has : (s : Ring) (b : ℕ) → is_placed (kept_by s) b ≡ true → Has s.queue b
unfolding is_placed queue_of
is_placed_has s b h = has s.queue h
  where
    has : (queue : List ℕ) → list_any (λ (e : Placement). e.program == 0 && e.block == b) (map (spot s.firsts) queue) ≡ true → Has queue b
    has [] h = absurd (both_ways false refl h)
    has (c ∷ cs) h = elim (or_cases (c == b) (list_any (λ (e : Placement). e.program == 0 && e.block == b) (map (spot s.firsts) cs)) h) [
      | inl e ↦ inl (eqb-true c b e)
      | inr i ↦ inr (has cs i)
    ]

pub absent_is : (s : Ring) (b : ℕ) → (Has s.queue b → ⊥) → is_placed (kept_by s) b ≡ false
absent_is s b lacks = false_from_ne_true (is_placed (kept_by s) b) (λ (h : is_placed (kept_by s) b ≡ true). lacks (is_placed_has s b h))

-- a service has been counted
more_length : (es : List ℕ) (firsts : List ℕ) → more_services (queue_of firsts es) ≡ more_service (length es)
unfolding queue_of
more_length [] firsts = refl
more_length (e ∷ es) firsts = refl

counted_links : (s : Ring) (counts : Counts) → links_of (record s { counts = counts }) ≡ links_of s
unfolding links_of link_at
counted_links s counts = refl

pub counted_is : (s : Ring) → kept_by (counted_ring s) ≡ counted (kept_by s)
unfolding counted links_of link_at
counted_is s = ap (λ (m : ℕ). record (kept_by s) { counts = record s.counts { services = s.counts.services + m } }) (sym (more_length s.queue s.firsts))

-- nothing but the counts has changed where a service was counted
pub counted_alone : (s t : Ring) → t ≡ counted_ring s → kept_by t ≡ record (kept_by s) { counts = (kept_by t).counts }
unfolding links_of link_at
counted_alone s t e = subst (λ (x : Ring). kept_by x ≡ record (kept_by s) { counts = (kept_by x).counts }) (sym e) refl

pub counted_sound : (s : Ring) (v : ImageData) (words : List ℕ) → RingSound s v words → RingSound (counted_ring s) v words
counted_sound s v words sound = record {
  shape = record {
    words_few = sound.shape.words_few;
    blocks_few = sound.shape.blocks_few;
    next_most = sound.shape.next_most;
    lengths_long = sound.shape.lengths_long;
    owners_long = sound.shape.owners_long;
    chain_words = sound.shape.chain_words;
    chain_lists = sound.shape.chain_lists;
    owners_known = sound.shape.owners_known;
    distinct = sound.shape.distinct;
    known = sound.shape.known;
    some = sound.shape.some;
    within = sound.shape.within;
    absent = sound.shape.absent;
  };
  image = sound.image;
  blocks_most = sound.blocks_most;
  known = sound.known;
  holds_one = sound.holds_one;
  fits = sound.fits;
  lengths_are = sound.lengths_are;
  owned = sound.owned;
  stands = λ i lt t. (let k = sound.stands i lt t in record { placed = k.placed; from = k.from; to = k.to });
  linked = λ b o h lt t. (let k = sound.linked b o h lt t in record { is_exit = k.is_exit; target = k.target; offset = k.offset; place_is = k.place_is; jumps = k.jumps });
  plain = sound.plain;
  next_copied = sound.next_copied;
  ends = sound.ends;
  misses_few = omega (arith, sound.misses_few);
  evictions_few = sound.evictions_few;
  copied_few = sound.copied_few;
  links_few = omega (arith, sound.links_few);
  unlinks_few = subst (λ (ls : List Link). s.counts.unlinks + length ls ≤ s.counts.links) (sym (counted_links s (counted_ring s).counts)) sound.unlinks_few;
}

-- nothing has changed but the counts
unchanged : (v : ImageData) (r t : Record) (a : RamState) → r.links ≡ t.links → WordsMove v r t a a
unchanged v r t a e = record {
  changes = λ i. inl refl;
  restored = λ k f was is h h'. absurd (both_ways (has_link t.links k) is (ap (λ (ls : List Link). has_link ls k) (sym e) ∙ was));
}

-- which words have changed
filled_words : (v : ImageData) (s u : Ring) (c p n : ℕ) (a b d : RamState) → RingSound s v a.words → (Has s.queue c → ⊥) → Receded v s u a b → Taken v u c p n b d → WordsMove v (kept_by s) (kept_by (settled u c p n)) a d
unfolding Placed queue_of
filled_words v s u c p n a b d sound lacks r t = record {
  changes = λ i. elim (cases_lt i p) [
    | inl before ↦ older i (t.copied.below i before)
    | inr from ↦ elim (cases_lt i (p + n)) [
      | inl inside ↦ inr (inl (record {
        block = c;
        first = p;
        offset = i - p;
        stands = subst (λ (g : ℕ). HasPlacement (map (spot (slice_set u.firsts c p)) (u.queue ++ c ∷ [])) (record { program = 0; block = c; first = g })) (first_new v u c p n b d t)
            (spots_have (slice_set u.firsts c p) (u.queue ++ c ∷ []) c (append_here u.queue c));
        is_new = λ h. lacks (have_spots s.firsts s.queue (record { program = 0; block = c; first = p }) h).0;
        inside = omega (arith, t.size, from, inside);
        index = omega (arith, from);
      }))
      | inr past ↦ older i (t.copied.wrote.spared.beyond i past)
    ]
  ];
  restored = λ k f was is h h'.
      let w = found_at s v a.words k sound was in
      let q = have_spots (slice_set u.firsts c p) (u.queue ++ c ∷ []) (record { program = k.program; block = k.block; first = f }) h' in
      let ne : k.block ≡ c → ⊥ = λ (e : k.block ≡ c). lacks (subst (λ (x : ℕ). Has s.queue x) e w.placed) in
      let stays : Has u.queue k.block = elim (has_append u.queue c k.block q.0) [ inl i ↦ i | inr e ↦ absurd (ne (sym e)) ] in
      let first : f ≡ first_at u k.block = ap (λ (x : Placement). x.first) q.1 ∙ first_old u c p k.block ne in
      let in_u : HasPlacement (map (spot u.firsts) u.queue) (record { program = k.program; block = k.block; first = f }) =
      subst (λ (x : Placement). HasPlacement (map (spot u.firsts) u.queue) x) (ap (λ (g : ℕ). spot_at 0 k.block g) (sym first) ∙ ap (λ (z : ℕ). spot_at z k.block f) (sym w.own)) (spots_have u.firsts u.queue k.block stays) in
      let gone : has_link (links_of u) k ≡ false = ap (λ (ls : List Link). has_link ls k) (sym (settled_links v u c p n b d t)) ∙ is in
      ap (λ (g : ℕ). slice_index d.words (g + k.offset)) first ∙ old_word v c p n (first_at u k.block + k.offset) b d t.copied (outside_range v u c p n k.block k.offset b d t stays w.inside)
      ∙ ap (λ (g : ℕ). slice_index b.words (g + k.offset)) (sym first) ∙ r.restored k f was gone h in_u;
}
  where
    spot_at : ℕ → ℕ → ℕ → Placement
    spot_at z b f = record { program = z; block = b; first = f }

    older : (i : ℕ) → slice_index d.words i ≡ slice_index b.words i → (slice_index d.words i ≡ slice_index a.words i) ⊎ (NewlyPlaced v (kept_by s) (kept_by (settled u c p n)) i ⊎ LinkChanged (kept_by s) (kept_by (settled u c p n)) i)
    older i e = elim (r.changes i) [
      | inl same ↦ inl (e ∙ same)
      | inr w ↦ inr (inr (record {
        link = w.0.link;
        first = w.0.first;
        stood = inl w.0.stood;
        changed = λ same. both_ways (has_link (links_of u) w.0.link) w.0.gone (ap (λ (ls : List Link). has_link ls w.0.link) (sym (settled_links v u c p n b d t)) ∙ sym same ∙ w.0.was);
        index = w.0.index;
      }))
    ]

taken_from : (v : ImageData) (s u : Ring) (c : ℕ) (a b d : RamState) → RingSound s v a.words → s.counts.misses ≤ s.counts.services → (Has s.queue c → ⊥) → c < length v.blocks → MadeRoom v (first_in s (length_at v c)) (length_at v c) s u a b →
    first_in s (length_at v c) + length_at v c ≤ s.words → Copied (word_at v c) (first_in s (length_at v c)) (length_at v c) b d → Taken v u c (first_in s (length_at v c)) (length_at v c) b d
taken_from v s u c a b d sound few lacks known room fits copied = record {
  sound = room.receded.sound;
  few = omega (arith, few, room.receded.misses_stay, room.receded.services_stay);
  known = known;
  size = refl;
  lacks = λ h. lacks (room.receded.fewer c h).0;
  fits = omega (arith, fits, room.receded.words_stay);
  front = omega (arith, first_least s (length_at v c), sound.next_copied, room.receded.copied_stay);
  free = room.free;
  copied = copied;
}

-- the block didn't stand
pub miss_arrived : (v : ImageData) (s t : Ring) (c : ℕ) (a d : RamState) → RingSound s v a.words → (Has s.queue c → ⊥) → c < length v.blocks → first_in (counted_ring s) (length_at v c) + length_at v c ≤ s.words → Filled v (counted_ring s) c t a d →
    Arrived v s c (first_in (counted_ring s) (length_at v c)) t a d
unfolding arrived
miss_arrived v s t c a d sound lacks known fits f =
    let s' : Ring = counted_ring s in
    let sound' : RingSound (counted_ring s) v a.words = counted_sound s v a.words sound in
    let n : ℕ = length_at v c in
    let p : ℕ = first_in (counted_ring s) (length_at v c) in
    let r = f.made_room.receded in
    let taken = taken_from v (counted_ring s) f.room c a f.between d sound' (omega (arith, sound.misses_few)) lacks known f.made_room fits f.copied in
    let next : RingSound (settled f.room c (first_in (counted_ring s) (length_at v c)) (length_at v c)) v d.words = settled_sound v f.room c (first_in (counted_ring s) (length_at v c)) (length_at v c) f.between d taken in
    let absent : is_placed (counted (kept_by s)) c ≡ false = subst (λ (x : Record). is_placed x c ≡ false) (counted_is s) (absent_is (counted_ring s) c lacks) in
    let moves : kept_by (settled f.room c (first_in (counted_ring s) (length_at v c)) (length_at v c)) ≡ placed v (first_in (counted_ring s) (length_at v c)) (kept_by (counted_ring s)) c =
    settled_kept v f.room c (first_in (counted_ring s) (length_at v c)) (length_at v c) f.between d taken ∙ ap (λ (x : Record). appended v (first_in (counted_ring s) (length_at v c)) x c) f.made_room.clears in
    subst (λ (x : Ring). Arrived v s c (first_in (counted_ring s) (length_at v c)) x a d) (sym f.settles) (record {
      moves = moves ∙ ap (λ (x : Record). placed v (first_for s.words x (length_at v c)) x c) (counted_is s) ∙ sym (rw absent refl);
      sound = next;
      words_stay = r.words_stay;
      blocks_stay = length-set f.room.firsts c _ ∙ r.blocks_stay;
      stands = append_here f.room.queue c;
      first_is = first_new v f.room c (first_in (counted_ring s) (length_at v c)) (length_at v c) f.between d taken;
      older = λ x h h'.
          let ne : x ≡ c → ⊥ = λ (e : x ≡ c). lacks (subst (λ (y : ℕ). Has s.queue y) e h) in
          first_old f.room c _ x ne ∙ elim (has_append f.room.queue c x h') [ inl i ↦ (r.fewer x i).1 | inr e ↦ absurd (ne (sym e)) ];
      links_left = λ k h. subst (λ (ls : List Link). has_link ls k ≡ true) (counted_links s (counted_ring s).counts) (r.links_left k (ap (λ (ls : List Link). has_link ls k) (sym (settled_links v f.room c _ _ f.between d taken)) ∙ h));
      wrote = subst (λ (m : ℕ). Wrote s.words m a d) (omega (arith, r.grows, r.links_stay, r.copied_stay))
          (wrote_more s.words s.words _ (length_at v c) a f.between d r.wrote (wrote_wider _ s.words (length_at v c) f.between d f.copied.wrote fits) (omega arith));
      written = omega (arith, r.grows, r.links_stay, r.copied_stay);
      links_stay = r.links_stay;
      services_are = r.services_stay;
      words = moves_from v (kept_by (counted_ring s)) (kept_by s) _ a d refl (counted_links s (counted_ring s).counts) refl
          (filled_words v (counted_ring s) f.room c _ _ a f.between d sound' lacks r taken);
    })

-- the block stood
pub hit_arrived : (v : ImageData) (s : Ring) (c : ℕ) (a : RamState) → RingSound s v a.words → Has s.queue c → Arrived v s c (first_at s c) (counted_ring s) a a
unfolding arrived
hit_arrived v s c a sound h =
    let stands : is_placed (counted (kept_by s)) c ≡ true = subst (λ (x : Record). is_placed x c ≡ true) (counted_is s) (placed_is (counted_ring s) c h) in
    record {
      moves = counted_is s ∙ sym (rw stands refl);
      sound = counted_sound s v a.words sound;
      words_stay = refl;
      blocks_stay = refl;
      stands = h;
      first_is = refl;
      older = λ x h h'. refl;
      links_left = λ k h'. subst (λ (ls : List Link). has_link ls k ≡ true) (counted_links s (counted_ring s).counts) h';
      wrote = subst (λ (k : ℕ). Wrote s.words k a a) (omega arith) (wrote_none s.words a);
      written = omega arith;
      links_stay = refl;
      services_are = refl;
      words = unchanged v (kept_by s) (kept_by (counted_ring s)) a (sym (counted_links s (counted_ring s).counts));
    }

-- as the code meets it
pub miss_result : {E : Type 0} (r : Result ℕ E) (v : ImageData) (s s' t : Ring) (c : ℕ) (a d : RamState) → s' ≡ counted_ring s → RingSound s v a.words → (Has s'.queue c → ⊥) → c < length v.starts → OnOk r (Filled v s' c t a d) → IfOk r (λ f. f ≡ first_in s' (length_at v c)) →
    IfOk r (λ f. Arrived v s c f t a d)
miss_result (Err x) v s s' t c a d e sound lacks lt filled is = tt
miss_result (Ok f) v s s' t c a d e sound lacks lt filled is =
    let known : c < length v.blocks = omega (arith, lt, sound.image.blocks) in
    let size = size_some v c sound.image known in
    let lacks' : Has s.queue c → ⊥ = λ h. lacks (subst (λ (x : Ring). Has x.queue c) (sym e) h) in
    subst (λ (g : ℕ). Arrived v s c g t a d) (sym (is ∙ ap (λ (x : Ring). first_in x (length_at v c)) e))
    (miss_arrived v s t c a d sound lacks' known (first_fits (counted_ring s) (length_at v c) (omega (arith, size.1, sound.holds_one))) (subst (λ (x : Ring). Filled v x c t a d) e filled))

pub hit_call : (v : ImageData) (s t : Ring) (c f : ℕ) (a : RamState) → t ≡ counted_ring s → RingSound s v a.words → Has t.queue c × (slice_index t.firsts c ≡ f) → Arrived v s c f t a a
hit_call v s t c f a e sound found =
    let h : Has s.queue c = subst (λ (x : Ring). Has x.queue c) e found.0 in
    let first : first_at s c ≡ f = subst (λ (x : Ring). slice_index x.firsts c ≡ f) e found.1 in
    subst (λ (x : Ring). Arrived v s c f x a a) (sym e) (subst (λ (g : ℕ). Arrived v s c g (counted_ring s) a a) first (hit_arrived v s c a sound h))
