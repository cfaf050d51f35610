-- The oldest block leaves, with its links.
use Rattle.std.proofs.Common.{◌≡◌, ℕ, ◌+◌, ◌<◌, ◌≤◌, ◌&&◌, ◌==◌, Bool, true, false, not, List, ◌∷◌, filter, length, slice_index, slice_index_or, slice_set, nat_le, inl, inr, arith, refl, sym, ◌∙◌, ap, subst}
use Rattle.std.proofs.lemmas.Bool.{and_parts, both_ways, eq-eqb, eqb-true, false_from_ne_true, ne_eqb, le-leb}
use Rattle.swi_rom.specs.Record.{Placement}
use Rattle.swi_rom.specs.Policy.{evicted, is_undone}
use Rattle.swi_rom.specs.Collected.{undone_apart}
use Rattle.swi_tally.specs.Masks.{has_at}
use Rattle.swi_tally.specs.Groups.{Left, NoneIn, held_in, is_in}
use Rattle.swi_tally.specs.Exits.{ExitsData, AreExits, links_of}
use Rattle.swi_tally.specs.Tally.{TallyData, InShape, Before, Bounded, Leads, Moved, kept_by, without_oldest}
use Rattle.swi_slots.specs.Homes.{nowhere}
use Rattle.swi_ring.specs.Ring.{queue_of, spot}
use Rattle.swi_links.specs.Chains.{Distinct}
use Rattle.swi_tally.proofs.Leading.{leads_left, none_before}
use Rattle.swi_tally.proofs.Sets.{and_all, not_on}
use Rattle.swi_tally.proofs.Grouping.{held_none, held_more}
use Rattle.swi_tally.proofs.Linking.{links_kept, stays_linked, undone_is}
use Rattle.swi_tally.proofs.Queueing.{queue_next, without_queue, without_shape}

-- of the cache that has left a group's sets
left_here : (keys : List ℕ) (g c : ℕ) (old new : List ℕ) (x : ℕ) → c < 64 → x < length old → Left keys g c 0 old new → has_at new c x ≡ (has_at old c x && not (is_in keys g x))
left_here keys g c old new x small lt left =
    left.sets c x small lt
    ∙ ap (λ (t : Bool). has_at old c x && not (t && (is_in keys g x && nat_le 0 x))) (eq-eqb c c refl)
    ∙ ap (λ (t : Bool). has_at old c x && not (is_in keys g x && t)) (le-leb 0 x (omega arith))
    ∙ ap (λ (t : Bool). has_at old c x && not t) (and_all (is_in keys g x))

left_other : (keys : List ℕ) (g c : ℕ) (old new : List ℕ) (d x : ℕ) → d < 64 → (d ≡ c → ⊥) → x < length old → Left keys g c 0 old new → has_at new d x ≡ has_at old d x
left_other keys g c old new d x small ne lt left =
    left.sets d x small lt ∙ ap (λ (t : Bool). has_at old d x && not (t && (is_in keys g x && nat_le 0 x))) (ne_eqb d c ne) ∙ and_all (has_at old d x)

unequal : (x b : ℕ) → not (x == b) ≡ true → x ≡ b → ⊥
unequal x b off same = both_ways (x == b) (not_on (x == b) off) (eq-eqb x b same)

-- the oldest block, of which is not kept that a later one has a link into it, has left the sets of its own exits: no link leads into it
pub none_into : (e : ExitsData) (s : TallyData) (b : ℕ) (rest : List ℕ) (c : ℕ) (old between : List ℕ) → InShape s → s.queue ≡ b ∷ rest → Bounded e (has_at old c) s → c < 64 → length old ≡ length e.from → AreExits e →
    Left e.from b c 0 old between → slice_index_or s.led b true ≡ false → NoneIn e.into b between c
none_into e s b rest c old between shape is bounded small long are left unled x lt into = false_from_ne_true _ (λ (h : has_at between c x ≡ true).
    let inside : x < length e.from = omega (arith, lt, are.into_long) in
    let same : slice_index e.into x ≡ b = eqb-true _ _ into in
    let parts = and_parts (has_at old c x) (not (is_in e.from b x)) (sym (left_here e.from b c old between x small (omega (arith, inside, long)) left) ∙ h) in
    later (slice_index e.from x) (subst (λ (y : ℕ). Leads s (slice_index e.from x) y) same (bounded.led x inside parts.0 (λ (loop : slice_index e.from x ≡ slice_index e.into x). unequal _ _ parts.1 (loop ∙ same)))))
  where
    later : (a : ℕ) → Leads s a b → ⊥
    later a (inl h) = none_before b rest a (subst (λ (q : List ℕ). Distinct q) is shape.distinct) (subst (λ (q : List ℕ). Before q a b) is h)
    later a (inr h) = both_ways (slice_index_or s.led b true) unled h.1

-- a block leaves the sets: as its own exits' block, and then as that of targets
pub record Leaves (e : ExitsData) (b c : ℕ) (old between new : List ℕ) (undone : ℕ) : Type 0 where
  pub small : c < 64
  pub long : length old ≡ length e.from
  pub into_long : length e.into ≡ length e.from
  pub own : Left e.from b c 0 old between
  pub leading : Left e.into b c 0 between new
  pub count : undone ≡ held_in e.into b between c (length e.into)

leaves_links : (e : ExitsData) (p : Placement) (c : ℕ) (old between new : List ℕ) (undone : ℕ) → Leaves e p.block c old between new undone → (x : ℕ) → x < length e.from →
    has_at new c x ≡ stays_linked e p.block (has_at old c) x
leaves_links e p c old between new undone l x lt =
    left_here e.into p.block c between new x l.small (omega (arith, lt, l.long, l.own.long)) l.leading
    ∙ ap (λ (t : Bool). t && not (is_in e.into p.block x)) (left_here e.from p.block c old between x l.small (omega (arith, lt, l.long)) l.own)

leaves_undone : (e : ExitsData) (p : Placement) (c : ℕ) (old between new : List ℕ) (undone : ℕ) → Leaves e p.block c old between new undone → p.program ≡ 0 →
    length (filter (is_undone p) (links_of e (has_at old c))) ≡ undone
leaves_undone e p c old between new undone l own =
    undone_is e p (has_at old c) (λ x. is_in e.into p.block x && has_at between c x) (held_in e.into p.block between c) own
    (held_none e.into p.block between c)
    (λ x. held_more (is_in e.into p.block x) (has_at between c x) e.into p.block between c x refl refl)
    (λ x lt. ap (λ (t : Bool). is_in e.into p.block x && t) (left_here e.from p.block c old between x l.small (omega (arith, lt, l.long)) l.own))
    ∙ ap (held_in e.into p.block between c) (sym l.into_long) ∙ sym l.count

-- the cache without its oldest block, with so many links undone
abbrev pub left_tally : TallyData → ℕ → List ℕ → ℕ → TallyData
left_tally s b rest undone = let t : TallyData = without_oldest s b rest in record t { counts = record t.counts { unlinks = t.counts.unlinks + undone } }

pub evict_kept : (e : ExitsData) (s : TallyData) (b : ℕ) (rest : List ℕ) (c : ℕ) (old between new : List ℕ) (undone : ℕ) → AreExits e → InShape s → s.queue ≡ b ∷ rest → Leaves e b c old between new undone →
    kept_by e (has_at new c) (left_tally s b rest undone) ≡ evicted (kept_by e (has_at old c) s) (queue_of s.homes s.queue)
unfolding evicted
evict_kept e s b rest c old between new undone are shape is l =
    let p : Placement = spot s.homes b in
    let placed : queue_of (slice_set s.homes b nowhere) rest ≡ queue_of s.homes rest = without_queue s b rest shape is in
    let links = links_kept e p (has_at old c) (has_at new c) are refl (leaves_links e p c old between new undone l) in
    let count : length (filter (is_undone p) (links_of e (has_at old c))) ≡ undone = leaves_undone e p c old between new undone l refl in
    rw (is, queue_next s.homes b rest, placed, links, count) refl

-- the counts stay bounded
left_bounded : (e : ExitsData) (s : TallyData) (b : ℕ) (rest : List ℕ) (c : ℕ) (old between new : List ℕ) (undone : ℕ) → AreExits e → s.queue ≡ b ∷ rest → Leaves e b c old between new undone → Bounded e (has_at old c) s →
    Bounded e (has_at new c) (left_tally s b rest undone)
left_bounded e s b rest c old between new undone are is l bounded =
    let p : Placement = spot s.homes b in
    let links = links_kept e p (has_at old c) (has_at new c) are refl (leaves_links e p c old between new undone l) in
    let count = leaves_undone e p c old between new undone l refl in
    let apart = undone_apart p (links_of e (has_at old c)) in
    let fewer : undone + length (links_of e (has_at new c)) ≤ length (links_of e (has_at old c)) = rw (links, ← count) apart in
    record {
      misses = bounded.misses;
      links = bounded.links;
      evictions = omega (arith, bounded.evictions, ap (λ (xs : List ℕ). length xs) is);
      copied = bounded.copied;
      undone = omega (arith, bounded.undone, fewer);
      led = λ x lt stays ne. (
          let first = and_parts (has_at old c x && not (slice_index e.from x == b)) (not (slice_index e.into x == b)) (sym (leaves_links e p c old between new undone l x lt) ∙ stays) in
          let second = and_parts (has_at old c x) (not (slice_index e.from x == b)) first.0 in
          leads_left s b rest (slice_index e.from x) (slice_index e.into x) is (unequal _ _ second.1) (unequal _ _ first.1) (bounded.led x lt second.0 ne));
    }

pub evict_moved : (e : ExitsData) (s : TallyData) (b : ℕ) (rest : List ℕ) (c : ℕ) (old between new : List ℕ) (undone : ℕ) → AreExits e → InShape s → s.queue ≡ b ∷ rest → Leaves e b c old between new undone → Bounded e (has_at old c) s →
    Moved e c s (left_tally s b rest undone) old new
evict_moved e s b rest c old between new undone are shape is l bounded =
    let t = without_shape s b rest shape is in
    record {
      placing = refl;
      slots = refl;
      slot_words = refl;
      homes = omega (arith, t.room_is, shape.room_is);
      masks = l.leading.long ∙ l.own.long;
      others = λ d x small ne lt.
          left_other e.into b c between new d x small ne (omega (arith, lt, l.long, l.own.long)) l.leading
          ∙ left_other e.from b c old between d x small ne (omega (arith, lt, l.long)) l.own;
      shape = record {
        some_slot = t.some_slot;
        words_few = t.words_few;
        words_most = t.words_most;
        next_most = t.next_most;
        few = t.few;
        led_long = t.led_long;
        room_is = t.room_is;
        distinct = t.distinct;
        known = t.known;
        placed = t.placed;
        absent = t.absent;
      };
      bounded = left_bounded e s b rest c old between new undone are is l bounded;
    }

-- the calls, as their code meets them
pub leaves_call : (e : ExitsData) (from into : List ℕ) (b c : ℕ) (old between new : List ℕ) (undone : ℕ) → AreExits e → from ≡ e.from → into ≡ e.into → c < 64 → length old ≡ length e.from →
    Left from b c 0 old between → Left into b c 0 between new → undone ≡ held_in into b between c (length into) → Leaves e b c old between new undone
leaves_call e from into b c old between new undone are same same' small long own leading count = record {
  small = small;
  long = long;
  into_long = are.into_long;
  own = subst (λ (xs : List ℕ). Left xs b c 0 old between) same own;
  leading = subst (λ (xs : List ℕ). Left xs b c 0 between new) same' leading;
  count = count ∙ ap (λ (xs : List ℕ). held_in xs b between c (length xs)) same';
}

pub left_is : (s t u : TallyData) (b undone : ℕ) → t ≡ without_oldest s b t.queue → u ≡ record t { counts = record t.counts { unlinks = t.counts.unlinks + undone } } → left_tally s b t.queue undone ≡ u
left_is s t u b undone e f = sym (f ∙ ap (λ (q : TallyData). record q { counts = record q.counts { unlinks = q.counts.unlinks + undone } }) e)
