-- A block comes to stand.
use Rattle.std.proofs.Common.{◌≡◌, ℕ, zero, suc, ◌+◌, ◌*◌, ◌%◌, ◌^◌, ◌<◌, ◌≤◌, ◌==◌, ◌&&◌, Bool, true, false, List, [], ◌∷◌, ◌++◌, length, slice_index, slice_index_or, nat_lt, nat_le, if◌then◌else◌, arith, refl, sym, ◌∙◌, ap, subst, inl, inr}
use Rattle.std.proofs.lemmas.Bool.{le-ltb, lt-ltb, le-leb, lt-leb, or_left, or_right, or_from, ne_eqb, eq-eqb}
use Rattle.std.proofs.lemmas.List.{length-set, length_push, get_or_read}
use Rattle.std.specs.List.{list_any}
use Rattle.swi_image.specs.Format.{ImageData}
use Rattle.swi_image.specs.Place.{length_at}
use Rattle.swi_rom.specs.Record.{Record, Placement}
use Rattle.swi_rom.specs.Policy.{evicted, is_placed}
use Rattle.swi_slots.specs.Fifo as slots
use Rattle.swi_ring.specs.Fifo as ring
use Rattle.swi_ring.specs.Fifo.{cleared, first_for, meets}
use Rattle.swi_tally.specs.declared.tally.Placing.{Placing}
use Rattle.swi_tally.specs.declared.tally.Placing.TheVariants.{Slots, Ring}
use Rattle.swi_tally.specs.Masks.{has_at}
use Rattle.swi_tally.specs.Exits.{ExitsData}
use Rattle.swi_links.specs.Chains.{Has}
use Rattle.swi_links.proofs.Numbers.{append_here}
use Rattle.swi_tally.specs.Tally.{TallyData, InShape, Moved, Stands, Receded, Arrives, arrival_of, freed, kept_by, setting_of, settled, span}
use Rattle.swi_ring.specs.Ring.{behind, queue_of, spot}
use Rattle.swi_tally.proofs.Leading.{leads_settled}
use Rattle.swi_tally.proofs.Queueing.{queue_long, queue_next, settled_shape, settled_queue}

-- where all slots are taken, and where one is free
pub freed_full : (e : ExitsData) (linked : ℕ → Bool) (s : TallyData) → s.slots ≤ length s.queue → freed (setting_of s) (kept_by e linked s) ≡ evicted (kept_by e linked s) (queue_of s.homes s.queue)
freed_full e linked s full =
    ap (λ (t : Bool). if t then kept_by e linked s else evicted (kept_by e linked s) (queue_of s.homes s.queue))
    (ap (λ (n : ℕ). nat_lt n s.slots) (queue_long s.homes s.queue) ∙ le-ltb (length s.queue) s.slots full)

pub freed_free : (e : ExitsData) (linked : ℕ → Bool) (s : TallyData) → length s.queue < s.slots → freed (setting_of s) (kept_by e linked s) ≡ kept_by e linked s
freed_free e linked s free =
    ap (λ (t : Bool). if t then kept_by e linked s else evicted (kept_by e linked s) (queue_of s.homes s.queue))
    (ap (λ (n : ℕ). nat_lt n s.slots) (queue_long s.homes s.queue) ∙ lt-ltb (length s.queue) s.slots free)

-- where a block is placed in a ring
behind_first : (n : ℕ) → slice_index (behind n) 0 ≡ n
behind_first zero = refl
behind_first (suc n) = refl

behind_some : (n : ℕ) → 1 ≤ n → behind n ≡ n ∷ []
behind_some zero le = absurd (omega arith)
behind_some (suc n) le = refl

ring_next : (e : ExitsData) (linked : ℕ → Bool) (s : TallyData) → s.placing ≡ Ring → slice_index (kept_by e linked s).more 0 ≡ s.next
ring_next e linked s is = ways s.placing is
  where
    ways : (p : Placing) → p ≡ Ring → slice_index (kept_by e linked (record s { placing = p })).more 0 ≡ s.next
    ways Ring is = behind_first s.next
    ways Slots is = absurd cc

pub ring_first : (e : ExitsData) (linked : ℕ → Bool) (s : TallyData) (n : ℕ) → s.placing ≡ Ring → first_for (span s) (kept_by e linked s) n ≡ (if nat_le (s.next + n) (span s) then s.next else 0)
unfolding first_for
ring_first e linked s n is =
    ap (λ (k : ℕ). if nat_le (k + n) (span s) then k else 0) (ring_next e linked s is)

pub ring_here : (e : ExitsData) (linked : ℕ → Bool) (s : TallyData) (n : ℕ) → s.placing ≡ Ring → s.next + n ≤ span s → s.next ≡ first_for (span s) (kept_by e linked s) n
ring_here e linked s n is fits = sym (ring_first e linked s n is ∙ ap (λ (t : Bool). if t then s.next else 0) (le-leb _ _ fits))

pub ring_front : (e : ExitsData) (linked : ℕ → Bool) (s : TallyData) (n : ℕ) → s.placing ≡ Ring → span s < s.next + n → 0 ≡ first_for (span s) (kept_by e linked s) n
ring_front e linked s n is over = sym (ring_first e linked s n is ∙ ap (λ (t : Bool). if t then s.next else 0) (lt-leb _ _ over))

-- whether a block is in the way
pub met_at : (v : ImageData) (first n : ℕ) (homes queue : List ℕ) (k : ℕ) → k < length queue → meets v first n (spot homes (slice_index queue k)) ≡ true → list_any (meets v first n) (queue_of homes queue) ≡ true
unfolding queue_of
met_at v first n homes [] k lt met = absurd (omega arith)
met_at v first n homes (b ∷ bs) zero lt met = or_left _ _ met
met_at v first n homes (b ∷ bs) (suc k) lt met = or_right (meets v first n (spot homes b)) _ (met_at v first n homes bs k (omega arith) met)

pub met_none : (v : ImageData) (first n : ℕ) (homes queue : List ℕ) → ((k : ℕ) → k < length queue → meets v first n (spot homes (slice_index queue k)) ≡ false) → list_any (meets v first n) (queue_of homes queue) ≡ false
unfolding queue_of
met_none v first n homes [] none = refl
met_none v first n homes (b ∷ bs) none = or_from _ _ (none 0 (omega arith)) (met_none v first n homes bs (λ k lt. none (suc k) (omega arith)))

pub has_index : (xs : List ℕ) (k : ℕ) → k < length xs → Has xs (slice_index xs k)
has_index [] k lt = absurd (omega arith)
has_index (x ∷ xs) zero lt = inl refl
has_index (x ∷ xs) (suc k) lt = inr (has_index xs k (omega arith))

-- while one is, the oldest leaves
cleared_met : (v : ImageData) (first n : ℕ) (p : Placement) (ps : List Placement) (r : Record) → list_any (meets v first n) (p ∷ ps) ≡ true → cleared v first n (p ∷ ps) r ≡ cleared v first n ps (evicted r (p ∷ ps))
unfolding cleared
cleared_met v first n p ps r met = rw met refl

cleared_unmet : (v : ImageData) (first n : ℕ) (ps : List Placement) (r : Record) → list_any (meets v first n) ps ≡ false → cleared v first n ps r ≡ r
unfolding cleared
cleared_unmet v first n [] r none = refl
cleared_unmet v first n (p ∷ ps) r none = rw none refl

evicted_placed : (r : Record) (p : Placement) (ps : List Placement) → (evicted r (p ∷ ps)).placed ≡ ps
unfolding evicted
evicted_placed r p ps = refl

pub record Clearing (v : ImageData) (e : ExitsData) (cache first n : ℕ) (s t : TallyData) (old new : List ℕ) : Type 0 where
  pub same : cleared v first n (queue_of t.homes t.queue) (kept_by e (has_at new cache) t) ≡ cleared v first n (queue_of s.homes s.queue) (kept_by e (has_at old cache) s)
  pub stands : Stands v e cache new t
  pub moved : Moved e cache s t old new
  pub receded : Receded s t

pub moved_none : (v : ImageData) (e : ExitsData) (cache : ℕ) (masks : List ℕ) (s : TallyData) → Stands v e cache masks s → Moved e cache s s masks masks
moved_none v e cache masks s stands = record {
  placing = refl;
  slots = refl;
  slot_words = refl;
  homes = refl;
  masks = refl;
  others = λ d x small ne lt. refl;
  shape = stands.shape;
  bounded = stands.bounded;
}

pub moved_both : (e : ExitsData) (cache : ℕ) (s t u : TallyData) (a b c : List ℕ) → Moved e cache s t a b → Moved e cache t u b c → Moved e cache s u a c
moved_both e cache s t u a b c m n = record {
  placing = n.placing ∙ m.placing;
  slots = n.slots ∙ m.slots;
  slot_words = n.slot_words ∙ m.slot_words;
  homes = n.homes ∙ m.homes;
  masks = n.masks ∙ m.masks;
  others = λ d x small ne lt. n.others d x small ne lt ∙ m.others d x small ne lt;
  shape = n.shape;
  bounded = n.bounded;
}

pub stands_on : (v : ImageData) (e : ExitsData) (cache : ℕ) (s t : TallyData) (a b : List ℕ) → Stands v e cache a s → Moved e cache s t a b → Stands v e cache b t
stands_on v e cache s t a b stands m = record {
  image = stands.image;
  are = stands.are;
  blocks = stands.blocks;
  homes = stands.homes ∙ sym m.homes;
  masks_long = m.masks ∙ stands.masks_long;
  cache_below = stands.cache_below;
  words = omega (arith, stands.words, m.slot_words);
  shape = m.shape;
  bounded = m.bounded;
}

pub receded_none : (s : TallyData) → Receded s s
receded_none s = record { services = refl; misses = refl; links = refl; next = refl; fewer = λ x h. h }

pub clearing_start : (v : ImageData) (e : ExitsData) (cache first n : ℕ) (s : TallyData) (masks : List ℕ) → Stands v e cache masks s → Clearing v e cache first n s s masks masks
clearing_start v e cache first n s masks stands = record { same = refl; stands = stands; moved = moved_none v e cache masks s stands; receded = receded_none s }

-- an eviction, as its call tells it
pub record Evicts (e : ExitsData) (cache : ℕ) (s t : TallyData) (old new : List ℕ) : Type 0 where
  pub kept : kept_by e (has_at new cache) t ≡ evicted (kept_by e (has_at old cache) s) (queue_of s.homes s.queue)
  pub moved : Moved e cache s t old new
  pub services : t.counts.services ≡ s.counts.services
  pub misses : t.counts.misses ≡ s.counts.misses
  pub links : t.counts.links ≡ s.counts.links
  pub next : t.next ≡ s.next
  pub oldest : (b : ℕ) × (s.queue ≡ b ∷ t.queue)

pub clearing_more : (v : ImageData) (e : ExitsData) (cache first n : ℕ) (s t u : TallyData) (a b c : List ℕ) → Clearing v e cache first n s t a b → list_any (meets v first n) (queue_of t.homes t.queue) ≡ true → Evicts e cache t u b c →
    Clearing v e cache first n s u a c
clearing_more v e cache first n s t u a b c now met ev =
    let p : Placement = spot t.homes ev.oldest.0 in
    let split : queue_of t.homes t.queue ≡ p ∷ queue_of t.homes u.queue = ap (queue_of t.homes) ev.oldest.1 ∙ queue_next t.homes ev.oldest.0 u.queue in
    let step : kept_by e (has_at c cache) u ≡ evicted (kept_by e (has_at b cache) t) (p ∷ queue_of t.homes u.queue) = ev.kept ∙ ap (evicted (kept_by e (has_at b cache) t)) split in
    let placed : queue_of u.homes u.queue ≡ queue_of t.homes u.queue = ap (λ (r : Record). r.placed) step ∙ evicted_placed (kept_by e (has_at b cache) t) p (queue_of t.homes u.queue) in
    let met' : list_any (meets v first n) (p ∷ queue_of t.homes u.queue) ≡ true = subst (λ (ps : List Placement). list_any (meets v first n) ps ≡ true) split met in
    record {
      same = ap (λ (ps : List Placement). cleared v first n ps (kept_by e (has_at c cache) u)) placed
          ∙ ap (cleared v first n (queue_of t.homes u.queue)) step
          ∙ sym (cleared_met v first n p (queue_of t.homes u.queue) (kept_by e (has_at b cache) t) met')
          ∙ ap (λ (ps : List Placement). cleared v first n ps (kept_by e (has_at b cache) t)) (sym split)
          ∙ now.same;
      stands = stands_on v e cache t u b c now.stands ev.moved;
      moved = moved_both e cache s t u a b c now.moved ev.moved;
      receded = record {
        services = ev.services ∙ now.receded.services;
        misses = ev.misses ∙ now.receded.misses;
        links = ev.links ∙ now.receded.links;
        next = ev.next ∙ now.receded.next;
        fewer = λ x h. now.receded.fewer x (subst (λ (xs : List ℕ). Has xs x) (sym ev.oldest.1) (inr h));
      };
    }

pub clearing_end : (v : ImageData) (e : ExitsData) (cache first n : ℕ) (s t : TallyData) (a b : List ℕ) → Clearing v e cache first n s t a b → list_any (meets v first n) (queue_of t.homes t.queue) ≡ false →
    kept_by e (has_at b cache) t ≡ cleared v first n (queue_of s.homes s.queue) (kept_by e (has_at a cache) s)
clearing_end v e cache first n s t a b now none = sym (cleared_unmet v first n (queue_of t.homes t.queue) (kept_by e (has_at b cache) t) none) ∙ now.same

-- whether a block stands, by the record
any_placed : (homes queue : List ℕ) (b : ℕ) → (Has queue b → ⊥) → list_any (λ (p : Placement). p.program == 0 && p.block == b) (queue_of homes queue) ≡ false
unfolding queue_of
any_placed homes [] b none = refl
any_placed homes (x ∷ xs) b none = or_from _ _ (ne_eqb x b (λ (same : x ≡ b). none (inl same))) (any_placed homes xs b (λ h. none (inr h)))

pub placed_any : (homes queue : List ℕ) (b : ℕ) → Has queue b → list_any (λ (p : Placement). p.program == 0 && p.block == b) (queue_of homes queue) ≡ true
unfolding queue_of
placed_any homes [] b h = absurd h
placed_any homes (x ∷ xs) b (inl same) = or_left _ _ (eq-eqb x b same)
placed_any homes (x ∷ xs) b (inr h) = or_right (x == b) _ (placed_any homes xs b h)

pub is_absent : (e : ExitsData) (linked : ℕ → Bool) (s : TallyData) (b : ℕ) → (Has s.queue b → ⊥) → is_placed (kept_by e linked s) b ≡ false
unfolding is_placed
is_absent e linked s b none = any_placed s.homes s.queue b none

pub is_there : (e : ExitsData) (linked : ℕ → Bool) (s : TallyData) (b : ℕ) → Has s.queue b → is_placed (kept_by e linked s) b ≡ true
unfolding is_placed
is_there e linked s b h = placed_any s.homes s.queue b h

-- a block that stands: nothing changes
there_slots : (v : ImageData) (e : ExitsData) (linked : ℕ → Bool) (s : TallyData) (b : ℕ) → Has s.queue b → kept_by e linked s ≡ slots.arrived (setting_of s) v (kept_by e linked s) b
unfolding slots.arrived
there_slots v e linked s b h = rw (is_there e linked s b h) refl

there_ring : (v : ImageData) (e : ExitsData) (linked : ℕ → Bool) (s : TallyData) (b : ℕ) → Has s.queue b → kept_by e linked s ≡ ring.arrived (setting_of s) v (kept_by e linked s) b
unfolding ring.arrived
there_ring v e linked s b h = rw (is_there e linked s b h) refl

there_by : (p : Placing) (v : ImageData) (e : ExitsData) (linked : ℕ → Bool) (s : TallyData) (b : ℕ) → Has s.queue b → kept_by e linked s ≡ arrival_of p (setting_of s) v (kept_by e linked s) b
there_by Slots v e linked s b h = there_slots v e linked s b h
there_by Ring v e linked s b h = there_ring v e linked s b h

pub arrives_there : (v : ImageData) (e : ExitsData) (cache b : ℕ) (s : TallyData) (masks : List ℕ) → Stands v e cache masks s → Has s.queue b → Arrives v e cache b s s masks masks
arrives_there v e cache b s masks stands h = record {
  kept = there_by s.placing v e (has_at masks cache) s b h;
  moved = moved_none v e cache masks s stands;
  stands = stands;
  here = h;
  services = refl;
  links = refl;
}

-- the policy, of a block that doesn't stand
slots_absent : (v : ImageData) (e : ExitsData) (linked : ℕ → Bool) (s : TallyData) (b : ℕ) → (Has s.queue b → ⊥) →
    slots.arrived (setting_of s) v (kept_by e linked s) b ≡ slots.appended (setting_of s) v (freed (setting_of s) (kept_by e linked s)) b
unfolding slots.arrived
slots_absent v e linked s b none = rw (is_absent e linked s b none) refl

ring_absent : (v : ImageData) (e : ExitsData) (linked : ℕ → Bool) (s : TallyData) (b first : ℕ) → (Has s.queue b → ⊥) → first_for s.slot_words (kept_by e linked s) (length_at v b) ≡ first →
    ring.arrived (setting_of s) v (kept_by e linked s) b ≡ ring.appended v first (cleared v first (length_at v b) (queue_of s.homes s.queue) (kept_by e linked s)) b
unfolding ring.arrived
ring_absent v e linked s b first none at = rw (is_absent e linked s b none, at) refl

-- one that is placed
pub settled_moved : (v : ImageData) (e : ExitsData) (cache b first n : ℕ) (s : TallyData) (masks : List ℕ) → Stands v e cache masks s → b < length s.homes → (Has s.queue b → ⊥) → 1 ≤ n → n ≤ 1024 → first + n ≤ span s → s.counts.misses ≤ s.counts.services →
    Moved e cache s (settled s b first n) masks masks
settled_moved v e cache b first n s masks stands within none some few fits missed = record {
  placing = refl;
  slots = refl;
  slot_words = refl;
  homes = length-set s.homes b first;
  masks = refl;
  others = λ d x small ne lt. refl;
  shape = settled_shape s b first n stands.shape within none some fits;
  bounded = record {
    misses = omega (arith, missed);
    links = stands.bounded.links;
    evictions = omega (arith, stands.bounded.evictions, length_push s.queue b);
    copied = omega (arith, stands.bounded.copied, few);
    undone = stands.bounded.undone;
    led = λ x lt is ne. leads_settled s b first n (slice_index e.from x) (slice_index e.into x) none (stands.bounded.led x lt is ne);
  };
}

settled_slots : (v : ImageData) (e : ExitsData) (linked : ℕ → Bool) (b first n : ℕ) (s : TallyData) → s.placing ≡ Slots → b < length s.homes → (Has s.queue b → ⊥) → n ≡ length_at v b → first ≡ s.counts.misses % s.slots * s.slot_words →
    kept_by e linked (settled s b first n) ≡ slots.appended (setting_of s) v (kept_by e linked s) b
unfolding slots.appended
settled_slots v e linked b first n s is within none size at =
    rw (settled_queue s b first within none, size, is) (ap (λ (f : ℕ). let r : Record = record (kept_by e linked s) {
      placed = queue_of s.homes s.queue ++ record { program = 0; block = b; first = f } ∷ [];
      counts = record s.counts { misses = s.counts.misses + 1; copied = s.counts.copied + length_at v b };
      more = [];
    } in r) at)

settled_ring : (v : ImageData) (e : ExitsData) (linked : ℕ → Bool) (b first n : ℕ) (s : TallyData) → s.placing ≡ Ring → b < length s.homes → (Has s.queue b → ⊥) → n ≡ length_at v b → 1 ≤ n →
    kept_by e linked (settled s b first n) ≡ ring.appended v first (kept_by e linked s) b
unfolding ring.appended
settled_ring v e linked b first n s is within none size some =
    rw (settled_queue s b first within none, ← size, is, behind_some (first + n) (omega (arith, some))) refl

pub slot_arrives : (v : ImageData) (e : ExitsData) (cache b first n : ℕ) (s t u : TallyData) (old new : List ℕ) → Stands v e cache new t → Moved e cache s t old new → Receded s t → kept_by e (has_at new cache) t ≡ freed (setting_of s) (kept_by e (has_at old cache) s) →
    s.placing ≡ Slots → b < length s.homes → (Has s.queue b → ⊥) → n ≡ length_at v b → 1 ≤ n → n ≤ 1024 → n ≤ s.slot_words → first + s.slot_words ≤ span s → first ≡ s.counts.misses % s.slots * s.slot_words → s.counts.misses ≤ s.counts.services →
    u ≡ settled t b first n → Arrives v e cache b s u old new
slot_arrives v e cache b first n s t u old new stands moved receded freed_is is within none size some few fits room at missed same =
    subst (λ (w : TallyData). Arrives v e cache b s w old new) (sym same) (record {
      kept = settled_slots v e (has_at new cache) b first n t (moved.placing ∙ is) within' none' size at'
          ∙ ap (λ (r : Record). slots.appended (setting_of t) v r b) freed_is
          ∙ ap (λ (q : TallyData). slots.appended (setting_of q) v (freed (setting_of s) (kept_by e (has_at old cache) s)) b) setting
          ∙ sym (slots_absent v e (has_at old cache) s b none)
          ∙ ap (λ (p : Placing). arrival_of p (setting_of s) v (kept_by e (has_at old cache) s) b) (sym is);
      moved = moved_both e cache s t (settled t b first n) old new new moved last;
      stands = stands_on v e cache t (settled t b first n) new new stands last;
      here = append_here t.queue b;
      services = receded.services;
      links = receded.links;
    })
  where
    none' : Has t.queue b → ⊥
    none' h = none (receded.fewer b h)

    within' : b < length t.homes
    within' = omega (arith, within, moved.homes)

    at' : first ≡ t.counts.misses % t.slots * t.slot_words
    at' = at ∙ ap (λ (m : ℕ). m % s.slots * s.slot_words) (sym receded.misses) ∙ ap (λ (m : ℕ). t.counts.misses % m * s.slot_words) (sym moved.slots) ∙ ap (λ (m : ℕ). t.counts.misses % t.slots * m) (sym moved.slot_words)

    span_same : span t ≡ span s
    span_same = ap (λ (m : ℕ). m * t.slot_words) moved.slots ∙ ap (λ (m : ℕ). s.slots * m) moved.slot_words

    last : Moved e cache t (settled t b first n) new new
    last = settled_moved v e cache b first n t new stands within' none' some few (omega (arith, span_same, room, fits)) (omega (arith, receded.misses, receded.services, missed))

    -- only the setting counts
    setting : (let q : TallyData = record s { slots = t.slots; slot_words = t.slot_words } in q ≡ s)
    setting =
        let first_part = ap (λ (m : ℕ). let q : TallyData = record s { slots = m; slot_words = t.slot_words } in q) moved.slots in
        first_part ∙ ap (λ (m : ℕ). let q : TallyData = record s { slot_words = m } in q) moved.slot_words

pub ring_arrives : (v : ImageData) (e : ExitsData) (cache b first n : ℕ) (s t u : TallyData) (old new : List ℕ) → Stands v e cache new t → Moved e cache s t old new → Receded s t →
    kept_by e (has_at new cache) t ≡ cleared v first n (queue_of s.homes s.queue) (kept_by e (has_at old cache) s) →
    s.placing ≡ Ring → s.slots ≡ 1 → b < length s.homes → (Has s.queue b → ⊥) → n ≡ length_at v b → 1 ≤ n → n ≤ 1024 → first + n ≤ span s → first ≡ first_for (span s) (kept_by e (has_at old cache) s) n → s.counts.misses ≤ s.counts.services →
    u ≡ settled t b first n → Arrives v e cache b s u old new
ring_arrives v e cache b first n s t u old new stands moved receded cleared_is is one within none size some few room at missed same =
    subst (λ (w : TallyData). Arrives v e cache b s w old new) (sym same) (record {
      kept = settled_ring v e (has_at new cache) b first n t (moved.placing ∙ is) within' none' size some
          ∙ ap (λ (r : Record). ring.appended v first r b) (cleared_is ∙ ap (λ (m : ℕ). cleared v first m (queue_of s.homes s.queue) (kept_by e (has_at old cache) s)) size)
          ∙ sym (ring_absent v e (has_at old cache) s b first none here)
          ∙ ap (λ (p : Placing). arrival_of p (setting_of s) v (kept_by e (has_at old cache) s) b) (sym is);
      moved = moved_both e cache s t (settled t b first n) old new new moved last;
      stands = stands_on v e cache t (settled t b first n) new new stands last;
      here = append_here t.queue b;
      services = receded.services;
      links = receded.links;
    })
  where
    none' : Has t.queue b → ⊥
    none' h = none (receded.fewer b h)

    within' : b < length t.homes
    within' = omega (arith, within, moved.homes)

    span_same : span t ≡ span s
    span_same = ap (λ (m : ℕ). m * t.slot_words) moved.slots ∙ ap (λ (m : ℕ). s.slots * m) moved.slot_words

    last : Moved e cache t (settled t b first n) new new
    last = settled_moved v e cache b first n t new stands within' none' some few (omega (arith, span_same, room)) (omega (arith, receded.misses, receded.services, missed))

    whole : s.slot_words ≡ span s
    whole = sym (ap (λ (m : ℕ). m * s.slot_words) one ∙ omega arith)

    here : first_for s.slot_words (kept_by e (has_at old cache) s) (length_at v b) ≡ first
    here = ap (λ (m : ℕ). first_for m (kept_by e (has_at old cache) s) (length_at v b)) whole ∙ ap (first_for (span s) (kept_by e (has_at old cache) s)) (sym size) ∙ sym at

-- the calls, as their code meets them
pub queue_known : (s : TallyData) (k b : ℕ) → InShape s → k < length s.queue → b ≡ slice_index s.queue k → (b < length s.homes) × (slice_index s.homes b < span s)
queue_known s k b shape lt is =
    let h : Has s.queue b = subst (λ (x : ℕ). Has s.queue x) (sym is) (has_index s.queue k lt) in
    (shape.known b h, shape.placed b h)

-- the k-th oldest block, as it is read
pub home_read : (s : TallyData) (homes : List ℕ) (k b home : ℕ) → InShape s → k < length s.queue → b ≡ slice_index s.queue k → homes ≡ s.homes → home ≡ slice_index_or homes b home → home ≡ slice_index s.homes (slice_index s.queue k)
home_read s homes k b home shape lt is same read =
    get_or_read homes b home (omega (arith, (queue_known s k b shape lt is).0, ap (λ (xs : List ℕ). length xs) same)) read 0 ∙ ap (λ (xs : List ℕ). slice_index xs b) same ∙ ap (λ (x : ℕ). slice_index s.homes x) is

pub home_small : (s : TallyData) (k b home : ℕ) → InShape s → k < length s.queue → b ≡ slice_index s.queue k → home ≡ slice_index s.homes (slice_index s.queue k) → home < 2 ^ 21
home_small s k b home shape lt is at = omega (arith, at, (queue_known s k (slice_index s.queue k) shape lt refl).1, shape.words_few)

pub way_then : (v : ImageData) (s : TallyData) (k b home first n len : ℕ) → b ≡ slice_index s.queue k → home ≡ slice_index s.homes (slice_index s.queue k) → len ≡ length_at v b → home < first + n →
    nat_lt first (home + len) ≡ meets v first n (spot s.homes (slice_index s.queue k))
way_then v s k b home first n len is at size before =
    ap (λ (m : ℕ). nat_lt first (home + m)) (size ∙ ap (length_at v) is)
    ∙ ap (λ (t : Bool). t && nat_lt first (home + length_at v (slice_index s.queue k))) (sym (lt-ltb home (first + n) before))
    ∙ ap (λ (h : ℕ). nat_lt h (first + n) && nat_lt first (h + length_at v (slice_index s.queue k))) at

pub way_else : (v : ImageData) (s : TallyData) (k home first n : ℕ) → home ≡ slice_index s.homes (slice_index s.queue k) → first + n ≤ home →
    nat_lt home (first + n) ≡ meets v first n (spot s.homes (slice_index s.queue k))
way_else v s k home first n at past =
    le-ltb home (first + n) past
    ∙ ap (λ (t : Bool). t && nat_lt first (home + length_at v (slice_index s.queue k))) (sym (le-ltb home (first + n) past))
    ∙ ap (λ (h : ℕ). nat_lt h (first + n) && nat_lt first (h + length_at v (slice_index s.queue k))) at

pub met_some : (v : ImageData) (first n : ℕ) (homes queue : List ℕ) → list_any (meets v first n) (queue_of homes queue) ≡ true → 0 < length queue
unfolding queue_of
met_some v first n homes [] met = absurd cc
met_some v first n homes (b ∷ bs) met = omega arith
