-- What one transfer does to the counts of a record, whatever the arrival.
use Rattle.std.proofs.Common.{◌≡◌, ◌⊎◌, ℕ, ◌+◌, ◌*◌, ◌≤◌, ◌==◌, ◌&&◌, Bool, true, false, List, [], ◌∷◌, ◌++◌, length, Option, Some, None, if◌then◌else◌, nat_lt, arith, refl, sym, ◌∙◌, ap, subst, inl, inr}
use Rattle.std.proofs.lemmas.Bool.{both_ways}
use Rattle.std.proofs.lemmas.List.{length-append}
use Rattle.std.proofs.lemmas.Nat.{mul-le}
use Rattle.std.specs.List.{list_any}
use Rattle.swi_image.specs.Format.{ImageData}
use Rattle.swi_image.specs.Place.{place_of, length_at}
use Rattle.swi_image.specs.Sound.{IsImage}
use Rattle.swi_image.specs.Laws.{place_inside}
use Rattle.swi_rom.specs.Record.{Record, Placement, Link, Transfer, direct, indirect, target_of, writes, empty_record}
use Rattle.swi_rom.specs.Service.{Setting}
use Rattle.swi_rom.specs.Policy.{Arrival, is_placed, evicted, counted, more_services, linked, linked_over, with_link, went, served_by, is_over_link}
use Rattle.swi_rom.specs.Blocks.{block_short}
use Rattle.swi_rom.specs.Collected.{length_with_all, undone_apart}
use Rattle.swi_slots.specs.Fifo as slots
use Rattle.swi_ring.specs.Fifo as ring
use Rattle.swi_cache_laws.specs.Transfers.{served_all}
use Rattle.swi_cache_laws.specs.Writes.{HasWritten, WritesFew}

-- links and unlinks while blocks leave: no link is new, and each unlink was a link
record Leaves (r t : Record) : Type 0 where
  services : t.counts.services ≡ r.counts.services
  misses : t.counts.misses ≡ r.counts.misses
  copied : t.counts.copied ≡ r.counts.copied
  links : t.counts.links ≡ r.counts.links
  unlinks : t.counts.unlinks + length t.links ≤ r.counts.unlinks + length r.links

leaves_none : (r : Record) → Leaves r r
leaves_none r = record { services = refl; misses = refl; copied = refl; links = refl; unlinks = omega arith }

leaves_both : (r s t : Record) → Leaves r s → Leaves s t → Leaves r t
leaves_both r s t p q = record {
  services = q.services ∙ p.services;
  misses = q.misses ∙ p.misses;
  copied = q.copied ∙ p.copied;
  links = q.links ∙ p.links;
  unlinks = omega (arith, p.unlinks, q.unlinks);
}

leaves_oldest : (r : Record) (es : List Placement) → Leaves r (evicted r es)
unfolding evicted
leaves_oldest r [] = leaves_none r
leaves_oldest r (e ∷ es) = record { services = refl; misses = refl; copied = refl; links = refl; unlinks = omega (arith, undone_apart e r.links) }

-- an arrival: nothing, or a block is copied and appended
pub record Copies (v : ImageData) (r : Record) (c : ℕ) (t : Record) : Type 0 where
  pub services : t.counts.services ≡ r.counts.services
  pub misses : t.counts.misses ≡ r.counts.misses + 1
  pub copied : t.counts.copied ≡ r.counts.copied + length_at v c
  pub links : t.counts.links ≡ r.counts.links
  pub unlinks : t.counts.unlinks + length t.links ≤ r.counts.unlinks + length r.links
  pub some : 1 ≤ length t.placed

abbrev pub Arrives : ImageData → Record → ℕ → Record → Type 0
Arrives v r c t = ((t ≡ r) × (1 ≤ length r.placed)) ⊎ Copies v r c t

abbrev pub Arriving : Arrival → Type 0
Arriving arrive = (by : Setting) (v : ImageData) (r : Record) (c : ℕ) → Arrives v r c (arrive by v r c)

-- ---- the arrivals of slots and of a ring

push_some : (es : List Placement) (e : Placement) → 1 ≤ length (es ++ e ∷ [])
push_some es e = omega (arith, length-append es (e ∷ []))

either : (stands : Bool) (v : ImageData) (r t : Record) (c : ℕ) → is_placed r c ≡ stands → Copies v r c t → Arrives v r c (if stands then r else t)
unfolding is_placed
either true v r t c is copies = inl (refl, some_placed r.placed is)
  where
    some_placed : (es : List Placement) → list_any (λ (e : Placement). e.program == r.turn && e.block == c) es ≡ true → 1 ≤ length es
    some_placed [] e = absurd (both_ways false refl e)
    some_placed (x ∷ es) e = omega arith
either false v r t c is copies = inr copies

slots_copies : (by : Setting) (v : ImageData) (r m : Record) (c : ℕ) → Leaves r m → Copies v r c (slots.appended by v m c)
unfolding slots.appended
slots_copies by v r m c l = record {
  services = l.services;
  misses = ap (λ (n : ℕ). n + 1) l.misses;
  copied = ap (λ (n : ℕ). n + length_at v c) l.copied;
  links = l.links;
  unlinks = l.unlinks;
  some = push_some _ _;
}

slots_room : (free : Bool) (r : Record) → Leaves r (if free then r else evicted r r.placed)
slots_room true r = leaves_none r
slots_room false r = leaves_oldest r r.placed

pub slots_arriving : Arriving slots.arrived
unfolding slots.arrived
slots_arriving by v r c = either (is_placed r c) v r _ c refl (slots_copies by v r _ c (slots_room (nat_lt (length r.placed) by.slots) r))

ring_leaves : (v : ImageData) (first n : ℕ) (es : List Placement) (r : Record) → Leaves r (ring.cleared v first n es r)
unfolding ring.cleared
ring_leaves v first n [] r = leaves_none r
ring_leaves v first n (e ∷ es) r = ways (ring.is_free v first n (e ∷ es)) (leaves_both r _ _ (leaves_oldest r (e ∷ es)) (ring_leaves v first n es (evicted r (e ∷ es))))
  where
    ways : (free : Bool) → Leaves r (ring.cleared v first n es (evicted r (e ∷ es))) → Leaves r (if free then r else ring.cleared v first n es (evicted r (e ∷ es)))
    ways true l = leaves_none r
    ways false l = l

ring_copies : (v : ImageData) (first : ℕ) (r m : Record) (c : ℕ) → Leaves r m → Copies v r c (ring.appended v first m c)
unfolding ring.appended
ring_copies v first r m c l = record {
  services = l.services;
  misses = ap (λ (n : ℕ). n + 1) l.misses;
  copied = ap (λ (n : ℕ). n + length_at v c) l.copied;
  links = l.links;
  unlinks = l.unlinks;
  some = push_some _ _;
}

pub ring_arriving : Arriving ring.arrived
unfolding ring.arrived
ring_arriving by v r c =
    either (is_placed r c) v r _ c refl
    (ring_copies v (ring.first_for (ring.span_of by) r (length_at v c)) r _ c
    (ring_leaves v (ring.first_for (ring.span_of by) r (length_at v c)) (length_at v c) r.placed r))

-- ---- a transfer

-- a transfer to a place copies so many words of its block, or none, and makes one link or none
record Served (words more : ℕ) (r t : Record) : Type 0 where
  services : t.counts.services ≡ r.counts.services + more
  copies : ((t.counts.misses ≡ r.counts.misses) × (t.counts.copied ≡ r.counts.copied)) ⊎ ((t.counts.misses ≡ r.counts.misses + 1) × (t.counts.copied ≡ r.counts.copied + words))
  made : ℕ
  made_one : made ≤ 1
  links : t.counts.links ≡ r.counts.links + made
  unlinks : t.counts.unlinks + length t.links ≤ r.counts.unlinks + length r.links + made
  fewer : t.counts.unlinks ≤ r.counts.unlinks + length r.links
  some : 1 ≤ length t.placed

arrived_served : (v : ImageData) (r m : Record) (c : ℕ) → Arrives v (counted r) c m → Served (length_at v c) (more_services r.placed) r m
unfolding counted
arrived_served v r m c (inl same) = record {
  services = ap (λ (x : Record). x.counts.services) same.0;
  copies = inl (ap (λ (x : Record). x.counts.misses) same.0, ap (λ (x : Record). x.counts.copied) same.0);
  made = 0;
  made_one = omega arith;
  links = ap (λ (x : Record). x.counts.links) same.0 ∙ omega arith;
  unlinks = omega (arith, ap (λ (x : Record). x.counts.unlinks) same.0, ap (λ (x : Record). length x.links) same.0);
  fewer = omega (arith, ap (λ (x : Record). x.counts.unlinks) same.0);
  some = subst (λ (x : Record). 1 ≤ length x.placed) (sym same.0) same.1;
}
arrived_served v r m c (inr new) = record {
  services = new.services;
  copies = inr (new.misses, new.copied);
  made = 0;
  made_one = omega arith;
  links = new.links ∙ omega arith;
  unlinks = omega (arith, new.unlinks);
  fewer = omega (arith, new.unlinks);
  some = new.some;
}

linked_if : (t : Bool) (words more : ℕ) (r m : Record) (k : Link) → Served words more r m → m.counts.links ≡ r.counts.links → m.counts.unlinks + length m.links ≤ r.counts.unlinks + length r.links →
    Served words more r (if t then record m { links = with_link k m.links; counts = record m.counts { links = m.counts.links + 1 } } else m)
linked_if true words more r m k s links unlinks = record {
  services = s.services;
  copies = s.copies;
  made = 1;
  made_one = omega arith;
  links = ap (λ (n : ℕ). n + 1) links;
  unlinks = omega (arith, unlinks, length_with_all k m.links);
  fewer = s.fewer;
  some = s.some;
}
linked_if false words more r m k s links unlinks = s

unlinked : (v : ImageData) (r m : Record) (c : ℕ) → Arrives v (counted r) c m → (m.counts.links ≡ r.counts.links) × (m.counts.unlinks + length m.links ≤ r.counts.unlinks + length r.links)
unfolding counted
unlinked v r m c (inl same) = (ap (λ (x : Record). x.counts.links) same.0, omega (arith, ap (λ (x : Record). x.counts.unlinks) same.0, ap (λ (x : Record). length x.links) same.0))
unlinked v r m c (inr new) = (new.links, new.unlinks)

linked_served : (v : ImageData) (r m : Record) (t : Transfer) (p : ℕ × ℕ) → Arrives v (counted r) p.0 m → Served (length_at v p.0) (more_services r.placed) r (linked_over with_link m t p)
unfolding linked
linked_served v r m (direct b o t) p a = let u = unlinked v r m p.0 a in linked_if _ _ _ r m _ (arrived_served v r m p.0 a) u.0 u.1
linked_served v r m (indirect t) p a = arrived_served v r m p.0 a

-- what a transfer does: nothing, or it is served
abbrev Does : ImageData → Record → Option (ℕ × ℕ) → Record → Type 0
Does v r None t = t ≡ r
Does v r (Some p) t = (t ≡ r) ⊎ Served (length_at v p.0) (more_services r.placed) r t

does : (arrive : Arrival) → Arriving arrive → (by : Setting) (v : ImageData) (r : Record) (t : Transfer) → Does v r (place_of v (target_of t)) (served_by arrive with_link by r v t)
unfolding served_by went
does arrive arriving by v r t = over (is_over_link r t) (place_of v (target_of t))
  where
    over : (o : Bool) (p : Option (ℕ × ℕ)) → Does v r p (if o then r else went arrive with_link by v r t p)
    over true None = refl
    over true (Some p) = inl refl
    over false None = refl
    over false (Some p) = inr (linked_served v r _ t p (arriving by v (counted r) p.0))

place_short : (v : ImageData) → IsImage v → (a : ℕ) (p : ℕ × ℕ) → place_of v a ≡ Some p → length_at v p.0 ≤ v.block_words
place_short v image a p is = block_short v p.0 image (place_inside v image a p.0 p.1 is).0

-- ---- what one transfer writes

wrote : (words more : ℕ) (r t : Record) (most : ℕ) → Served words more r t → words ≤ most → writes t ≤ writes r + most + length r.links + 1
wrote words more r t most s le = elim s.copies [
  | inl hit ↦ omega (arith, hit.1, s.links, s.made_one, s.fewer)
  | inr miss ↦ omega (arith, miss.1, s.links, s.made_one, s.fewer)
]

pub writes_once : (arrive : Arrival) → Arriving arrive → (by : Setting) (v : ImageData) (r : Record) (t : Transfer) → IsImage v →
    writes (served_by arrive with_link by r v t) ≤ writes r + v.block_words + length r.links + 1
writes_once arrive arriving by v r t image = at (place_of v (target_of t)) refl (does arrive arriving by v r t)
  where
    at : (p : Option (ℕ × ℕ)) → place_of v (target_of t) ≡ p → Does v r p (served_by arrive with_link by r v t) →
        writes (served_by arrive with_link by r v t) ≤ writes r + v.block_words + length r.links + 1
    at None is same = omega (arith, ap writes same)
    at (Some p) is (inl same) = omega (arith, ap writes same)
    at (Some p) is (inr s) = wrote _ _ r _ v.block_words s (place_short v image (target_of t) p is)

-- ---- what many write

-- what holds from a boot on
record Bounded (v : ImageData) (n : ℕ) (r : Record) : Type 0 where
  some : 1 ≤ length r.placed
  services : r.counts.services ≤ n
  misses : r.counts.misses ≤ r.counts.services + 1
  copied : r.counts.copied ≤ r.counts.misses * v.block_words
  links : r.counts.links ≤ r.counts.services
  unlinks : r.counts.unlinks + length r.links ≤ r.counts.links

one_more : (es : List Placement) → 1 ≤ length es → more_services es ≡ 1
one_more [] some = absurd (omega arith)
one_more (e ∷ es) some = refl

bounded_served : (v : ImageData) (n words : ℕ) (r t : Record) → words ≤ v.block_words → Bounded v n r → Served words (more_services r.placed) r t → Bounded v (n + 1) t
bounded_served v n words r t le b s =
    let one = one_more r.placed b.some in
    record {
      some = s.some;
      services = omega (arith, s.services, one, b.services);
      misses = elim s.copies [ inl hit ↦ omega (arith, hit.0, b.misses, s.services, one) | inr miss ↦ omega (arith, miss.0, b.misses, s.services, one) ];
      copied = elim s.copies [
        | inl hit ↦ omega (arith, hit.1, b.copied, ap (λ (m : ℕ). m * v.block_words) hit.0)
        | inr miss ↦ omega (arith, miss.1, b.copied, le, ap (λ (m : ℕ). m * v.block_words) miss.0)
      ];
      links = omega (arith, s.links, s.made_one, b.links, s.services, one);
      unlinks = omega (arith, s.unlinks, s.links, b.unlinks);
    }

bounded_later : (v : ImageData) (n : ℕ) (r : Record) → Bounded v n r → Bounded v (n + 1) r
bounded_later v n r b = record { some = b.some; services = omega (arith, b.services); misses = b.misses; copied = b.copied; links = b.links; unlinks = b.unlinks }

bounded_does : (v : ImageData) (n : ℕ) (r t : Record) (a : ℕ) (p : Option (ℕ × ℕ)) → IsImage v → place_of v a ≡ p → Does v r p t → Bounded v n r → Bounded v (n + 1) t
bounded_does v n r t a None image is same b = subst (λ (x : Record). Bounded v (n + 1) x) (sym same) (bounded_later v n r b)
bounded_does v n r t a (Some p) image is (inl same) b = subst (λ (x : Record). Bounded v (n + 1) x) (sym same) (bounded_later v n r b)
bounded_does v n r t a (Some p) image is (inr s) b = bounded_served v n (length_at v p.0) r t (place_short v image a p is) b s

bounded_all : (arrive : Arrival) → Arriving arrive → (by : Setting) (v : ImageData) (n : ℕ) (r : Record) (ts : List Transfer) → IsImage v → Bounded v n r →
    Bounded v (n + length ts) (served_all (served_by arrive with_link by) v r ts)
bounded_all arrive arriving by v n r [] image b = subst (λ (m : ℕ). Bounded v m r) (omega arith) b
bounded_all arrive arriving by v n r (t ∷ ts) image b =
    let next = bounded_does v n r _ (target_of t) (place_of v (target_of t)) image refl (does arrive arriving by v r t) b in
    subst (λ (m : ℕ). Bounded v m (served_all (served_by arrive with_link by) v (served_by arrive with_link by r v t) ts)) (omega arith)
    (bounded_all arrive arriving by v (n + 1) (served_by arrive with_link by r v t) ts image next)

-- the boot is no service, and makes no link
booted : (v : ImageData) (c : ℕ) (t : Record) → length_at v c ≤ v.block_words → Arrives v (counted empty_record) c t → Bounded v 0 t
unfolding counted
booted v c t le (inl same) = absurd (omega (arith, same.1))
booted v c t le (inr new) = record {
  some = new.some;
  services = omega (arith, new.services);
  misses = omega (arith, new.misses);
  copied = omega (arith, new.copied, le, ap (λ (m : ℕ). m * v.block_words) new.misses);
  links = omega (arith, new.links);
  unlinks = omega (arith, new.unlinks, new.links);
}

boot_bounded : (arrive : Arrival) → Arriving arrive → (by : Setting) (v : ImageData) (a : ℕ) (p : ℕ × ℕ) → IsImage v → place_of v a ≡ Some p → Bounded v 0 (served_by arrive with_link by empty_record v (indirect a))
unfolding served_by went
boot_bounded arrive arriving by v a p image is = rw is (booted v p.0 _ (place_short v image a p is) (arriving by v (counted empty_record) p.0))

written : (v : ImageData) (n : ℕ) (r : Record) → Bounded v n r → HasWritten v n r
written v n r b = record {
  services = b.services;
  misses = b.misses;
  copied = b.copied;
  links = b.links;
  unlinks = omega (arith, b.unlinks);
  writes = omega (arith, b.copied, b.links, b.unlinks, mul-le r.counts.misses v.block_words (r.counts.services + 1) v.block_words b.misses (omega arith));
}

pub writes_few : (arrive : Arrival) → Arriving arrive → WritesFew (λ by. served_by arrive with_link by)
writes_few arrive arriving by v boot place ts image is =
    let first : Record = served_by arrive with_link by empty_record v (indirect boot) in
    let all = bounded_all arrive arriving by v 0 first ts image (boot_bounded arrive arriving by v boot place image is) in
    written v (length ts) _ (subst (λ (n : ℕ). Bounded v n (served_all (served_by arrive with_link by) v first ts)) (omega arith) all)
