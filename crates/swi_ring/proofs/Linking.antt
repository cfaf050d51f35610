-- An exit becomes a link.
use Rattle.std.proofs.Common.{◌≡◌, ℕ, ◌+◌, ◌-◌, ◌<◌, ◌≤◌, false, List, length, Some, None, slice_index, nat_lt, if◌then◌else◌, arith, refl, sym, ◌∙◌, ap, subst, inl, inr}
use Rattle.std.proofs.lemmas.Bool.{cases_eq, le-ltb}
use Rattle.swi_image.specs.Format.{ImageData}
use Rattle.swi_image.specs.Place.{place_of, word_at, length_at}
use Rattle.swi_outside.specs.CacheRam.{RamState}
use Rattle.swi_links.specs.Chains.{Has}
use Rattle.swi_rom.specs.Record.{Link, Placed, is_linked, IsJump}
use Rattle.swi_rom.specs.Policy.{with_link, first_of}
use Rattle.swi_rom.specs.Coherent.{IsExit}
use Rattle.swi_rom.specs.Collected.{length_with_all}
use Rattle.swi_rom.specs.Found.{first_in_has}
use Rattle.swi_links.specs.Holders.{holder_of}
use Rattle.swi_ring.specs.Ring.{Ring, first_at, target_at, queue_of, link_at, links_of, kept_by}
use Rattle.swi_ring.specs.Sound.{RingSound}
use Rattle.swi_ring.specs.Steps.{Linked}
use Rattle.swi_ring.specs.Coheres.{Tidy, placed_has, has_placed, word_below, some_link_at, none_link_at, differ_at, exit_is, same_word, linked_is}
use Rattle.swi_links.specs.Lists.{linked_lists, linked_here, linked_other, unheld_free}
use Rattle.swi_ring.proofs.Gathered.{collected_more}
use Rattle.swi_ring.proofs.Shapes.{linked_shape}

-- the first word of a placed block
pub first_of_is : (s : Ring) (b : ℕ) → Has s.queue b → first_of (kept_by s) b ≡ first_at s b
unfolding first_of Placed
first_of_is s b h = first_in_has (queue_of s.firsts s.queue) 0 b (first_at s b) (has_placed s b h) (λ g i. sym (placed_has s b g i).1)

abbrev pub linked_ring : Ring → ℕ → ℕ → Ring
linked_ring t at c = record t { chains = record t.chains { lists = linked_lists t.chains.lists at c }; counts = record t.counts { links = t.counts.links + 1 } }

-- word o of a placed block is no link yet, and its exit leads to a placed block
pub record CanLink (t : Ring) (v : ImageData) (b o c q : ℕ) : Type 0 where
  pub placed : Has t.queue b
  pub inside : o < length_at v b
  pub free : length t.firsts ≤ target_at t (first_at t b + o)
  pub target : Has t.queue c
  pub is_exit : IsExit v b o
  pub place_is : place_of v (word_at v b (o + 1)) ≡ Some (c, q)

-- where the words lead afterwards
record Leading (t : Ring) (v : ImageData) (b o c : ℕ) : Type 0 where
  below : first_at t b + o < t.words
  known : c < length t.firsts
  here : holder_of (linked_lists t.chains.lists (first_at t b + o) c) (first_at t b + o) ≡ c
  others : (i : ℕ) → (i ≡ first_at t b + o → ⊥) → holder_of (linked_lists t.chains.lists (first_at t b + o) c) i ≡ target_at t i

leading : (t : Ring) (v : ImageData) (words : List ℕ) (b o c q : ℕ) → RingSound t v words → CanLink t v b o c q → Leading t v b o c
leading t v words b o c q sound can =
    let known : c < length t.firsts = sound.shape.known c can.target in
    let small : c < length t.chains.lists = omega (arith, known, sound.shape.chain_lists) in
    record {
      below = word_below t v words b o sound can.placed can.inside;
      known = known;
      here = linked_here t.chains.lists (first_at t b + o) c small (unheld_free t.chains (first_at t b + o) (omega (arith, can.free, sound.shape.chain_lists)));
      others = λ i ne. linked_other t.chains.lists (first_at t b + o) c i small ne;
    }

linked_tidy : (t : Ring) (v : ImageData) (words : List ℕ) (b o c q : ℕ) → RingSound t v words → CanLink t v b o c q → Tidy (linked_ring t (first_at t b + o) c)
linked_tidy t v words b o c q sound can = λ i lt h.
    let w = leading t v words b o c q sound can in
    elim (cases_eq i (first_at t b + o)) [
      | inl e ↦ (
          let own : slice_index t.owners i ≡ b = ap (λ (j : ℕ). slice_index t.owners j) e ∙ sound.owned b o can.placed can.inside in
          record {
            placed = subst (λ (x : ℕ). Has t.queue x) (sym own) can.placed;
            from = subst (λ (x : ℕ). first_at t x ≤ i) (sym own) (omega (arith, e));
            to = subst (λ (x : ℕ). i < first_at t x + slice_index t.lengths x) (sym own) (omega (arith, e, can.inside, sound.lengths_are b can.placed));
          })
      | inr ne ↦ (let k = sound.stands i lt (omega (arith, h, w.others i ne)) in record { placed = k.placed; from = k.from; to = k.to })
    ]

-- the links are those before and the new one
pub linked_links : (t : Ring) (v : ImageData) (words : List ℕ) (b o c q : ℕ) → RingSound t v words → CanLink t v b o c q →
    links_of (linked_ring t (first_at t b + o) c) ≡ with_link (record { program = 0; block = b; offset = o; into = c }) (links_of t)
unfolding links_of link_at
linked_links t v words b o c q sound can =
    let u : Ring = linked_ring t (first_at t b + o) c in
    let w = leading t v words b o c q sound can in
    collected_more (link_at t) (link_at u) t.words (first_at t b + o) (record { program = 0; block = b; offset = o; into = c }) (differ_at u (linked_tidy t v words b o c q sound can)) w.below
    (none_link_at t (first_at t b + o) can.free)
    (some_link_at u (first_at t b + o) (omega (arith, w.here, w.known)) ∙ ap (λ (k : Link). Some k) (ap (λ (m : ℕ). exit_to (first_at t b + o) m) w.here ∙ ap (λ (k : Link). record k { into = c }) (exit_is t v words b o sound can.placed can.inside)))
    (λ i ne. ap (λ (m : ℕ). if nat_lt m (length t.firsts) then Some (exit_to i m) else None) (w.others i ne))
  where
    exit_to : ℕ → ℕ → Link
    exit_to i m = record { program = 0; block = slice_index t.owners i; offset = i - first_at t (slice_index t.owners i); into = m }

pub linked_sound : (t : Ring) (v : ImageData) (b o c q : ℕ) (before after : RamState) → RingSound t v before.words → CanLink t v b o c q → t.counts.links < t.counts.services →
    Linked t (linked_ring t (first_at t b + o) c) (first_at t b + o) c (first_at t c + q) before after → RingSound (linked_ring t (first_at t b + o) c) v after.words
linked_sound t v b o c q before after sound can few linked =
    let at : ℕ = first_at t b + o in
    let w = leading t v before.words b o c q sound can in
    let links = linked_links t v before.words b o c q sound can in
    record {
      shape = linked_shape t (first_at t b + o) c _ _ sound.shape refl;
      image = sound.image;
      blocks_most = sound.blocks_most;
      known = sound.known;
      holds_one = sound.holds_one;
      fits = omega (arith, sound.fits, linked.wrote.spared.length_stays);
      lengths_are = sound.lengths_are;
      owned = sound.owned;
      stands = linked_tidy t v before.words b o c q sound can;
      linked = λ x p h lt small. elim (cases_eq (first_at t x + p) (first_at t b + o)) [
        | inl e ↦ (
            let same = same_word t v before.words x p b o sound h can.placed lt can.inside e in
            let to : holder_of (linked_lists t.chains.lists (first_at t b + o) c) (first_at t x + p) ≡ c = ap (λ (i : ℕ). holder_of (linked_lists t.chains.lists (first_at t b + o) c) i) e ∙ w.here in
            let goes : word_at v x (p + 1) ≡ word_at v b (o + 1) = ap (λ (y : ℕ). word_at v y (p + 1)) same.0 ∙ ap (λ (y : ℕ). word_at v b (y + 1)) same.1 in
            record {
              is_exit = subst (λ (y : ℕ). IsExit v y p) (sym same.0) (subst (λ (y : ℕ). IsExit v b y) (sym same.1) can.is_exit);
              target = subst (λ (y : ℕ). Has t.queue y) (sym to) can.target;
              offset = q;
              place_is = ap (λ (y : ℕ). place_of v y) goes ∙ can.place_is ∙ ap (λ (y : ℕ). Some (y, q)) (sym to);
              jumps = subst (λ (i : ℕ). IsJump i (first_at t (holder_of (linked_lists t.chains.lists (first_at t b + o) c) i) + q) (slice_index after.words i)) (sym e)
                  (subst (λ (y : ℕ). IsJump (first_at t b + o) (first_at t y + q) (slice_index after.words (first_at t b + o))) (sym w.here) linked.jumps);
            })
        | inr ne ↦ (
            let to = w.others (first_at t x + p) ne in
            let k = sound.linked x p h lt (omega (arith, small, to)) in
            record {
              is_exit = k.is_exit;
              target = subst (λ (y : ℕ). Has t.queue y) (sym to) k.target;
              offset = k.offset;
              place_is = k.place_is ∙ ap (λ (y : ℕ). Some (y, k.offset)) (sym to);
              jumps = subst (λ (y : ℕ). IsJump (first_at t x + p) (first_at t y + k.offset) (slice_index after.words (first_at t x + p))) (sym to)
                  (subst (λ (z : ℕ). IsJump (first_at t x + p) (first_at t (target_at t (first_at t x + p)) + k.offset) z) (sym (linked.others (first_at t x + p) ne)) k.jumps);
            })
      ];
      plain = λ x p h lt large. elim (cases_eq (first_at t x + p) (first_at t b + o)) [
        | inl e ↦ absurd (omega (arith, large, ap (λ (i : ℕ). holder_of (linked_lists t.chains.lists (first_at t b + o) c) i) e, w.here, w.known))
        | inr ne ↦ linked.others (first_at t x + p) ne ∙ sound.plain x p h lt (omega (arith, large, w.others (first_at t x + p) ne))
      ];
      next_copied = sound.next_copied;
      ends = sound.ends;
      misses_few = sound.misses_few;
      evictions_few = sound.evictions_few;
      copied_few = sound.copied_few;
      links_few = omega (arith, few);
      unlinks_few = omega (arith, ap (λ (ls : List Link). length ls) links, length_with_all (record { program = 0; block = b; offset = o; into = c }) (links_of t), sound.unlinks_few);
    }

pub not_yet : (t : Ring) (v : ImageData) (words : List ℕ) (b o c q : ℕ) → RingSound t v words → CanLink t v b o c q → is_linked (kept_by t) b o ≡ false
not_yet t v words b o c q sound can = linked_is t v words b o sound can.placed can.inside ∙ le-ltb _ _ can.free
