-- A sound ring's ram is coherent.
use Rattle.std.proofs.Common.{◌≡◌, ◌⊎◌, ℕ, suc, zero, ◌+◌, ◌-◌, ◌<◌, ◌≤◌, ◌^◌, ◌&&◌, ◌==◌, Bool, true, false, List, [], ◌∷◌, map, filter, length, Option, Some, None, slice_index, slice_get, nat_lt, nat_le, if◌then◌else◌, arith, refl, sym, ◌∙◌, ap, subst, inl, inr}
use Rattle.std.proofs.lemmas.Bool.{cases_eq, cases_lt, ltb-true, lt-ltb, ltb-false, le-ltb, both_ways, and_parts, and_from, eq-eqb, false_from_ne_true}
use Rattle.std.proofs.lemmas.Bool.Decides.{nat_tests}
use Rattle.swi_image.specs.Format.{ImageData}
use Rattle.swi_image.specs.Place.{word_at, length_at}
use Rattle.swi_image.specs.Sound.{IsImage}
use Rattle.swi_links.specs.Chains.{Has, Distinct}
use Rattle.swi_rom.specs.Record.{Placement, Link, has_link, is_linked, Placed, IsJump}
use Rattle.swi_rom.specs.Record.{Has as HasPlacement}
use Rattle.swi_rom.specs.Coherent.{Coherent, TargetAt, StandsAt, resident_of, pair_of}
use Rattle.swi_rom.specs.Collected.{Differ, collected_has, has_collected, collected_ascending}
use Rattle.swi_rom.specs.Links.{Ascending, among_has, has_among}
use Rattle.swi_ring.specs.Ring.{Ring, InShape, first_at, target_at, spot, queue_of, exit_of, link_at, links_of, kept_by, setting_of, stands_at, shown_by}
use Rattle.swi_ring.specs.Fifo.{span_of}
use Rattle.swi_ring.specs.Sound.{RingSound, LinkStands, IsOwned}

-- the placed blocks are those of the queue
pub spots_have : (firsts queue : List ℕ) (b : ℕ) → Has queue b → HasPlacement (map (spot firsts) queue) (spot firsts b)
spots_have firsts [] b h = absurd h
spots_have firsts (c ∷ cs) b (inl e) = inl (ap (λ (x : ℕ). spot firsts x) e)
spots_have firsts (c ∷ cs) b (inr h) = inr (spots_have firsts cs b h)

pub have_spots : (firsts queue : List ℕ) (e : Placement) → HasPlacement (map (spot firsts) queue) e → Has queue e.block × (e ≡ spot firsts e.block)
have_spots firsts [] e h = absurd h
have_spots firsts (c ∷ cs) e (inl is) =
    let block : c ≡ e.block = ap (λ (x : Placement). x.block) is in
    (inl block, sym is ∙ ap (λ (x : ℕ). spot firsts x) block)
have_spots firsts (c ∷ cs) e (inr h) = let w = have_spots firsts cs e h in (inr w.0, w.1)

pub placed_has : (s : Ring) (b f : ℕ) → Placed (kept_by s) b f → Has s.queue b × (first_at s b ≡ f)
unfolding Placed queue_of
placed_has s b f h =
    let w = have_spots s.firsts s.queue (record { program = 0; block = b; first = f }) h in
    (w.0, ap (λ (x : Placement). x.first) (sym w.1))

pub has_placed : (s : Ring) (b : ℕ) → Has s.queue b → Placed (kept_by s) b (first_at s b)
unfolding Placed queue_of
has_placed s b h = spots_have s.firsts s.queue b h

-- a placed block's word is one of the ring's
pub word_below : (s : Ring) (v : ImageData) (words : List ℕ) (b o : ℕ) → RingSound s v words → Has s.queue b → o < length_at v b → first_at s b + o < s.words
word_below s v words b o sound h lt = omega (arith, sound.shape.within b h, sound.lengths_are b h)

pub some_same : (k l : Link) → Some k ≡ Some l → k ≡ l
some_same k l e = cc

pub link_at_some : (s : Ring) (i : ℕ) (k : Link) → link_at s i ≡ Some k → (target_at s i < length s.firsts) × (exit_of s i ≡ k)
unfolding link_at
link_at_some s i k e = ways (nat_lt (target_at s i) (length s.firsts)) refl e
  where
    ways : (t : Bool) → nat_lt (target_at s i) (length s.firsts) ≡ t → (if t then Some (exit_of s i) else None) ≡ Some k → (target_at s i < length s.firsts) × (exit_of s i ≡ k)
    ways true t e = (ltb-true _ _ t, some_same _ k e)
    ways false t e = absurd (cc)

pub some_link_at : (s : Ring) (i : ℕ) → target_at s i < length s.firsts → link_at s i ≡ Some (exit_of s i)
unfolding link_at
some_link_at s i lt = rw (lt-ltb (target_at s i) (length s.firsts) lt) refl

pub none_link_at : (s : Ring) (i : ℕ) → length s.firsts ≤ target_at s i → link_at s i ≡ None
unfolding link_at
none_link_at s i le = rw (le-ltb (target_at s i) (length s.firsts) le) refl

-- only words of placed blocks are links, each of the block that it shows
abbrev pub Tidy : Ring → Type 0
Tidy s = (i : ℕ) → i < s.words → target_at s i < length s.firsts → IsOwned s i

pub differ_at : (s : Ring) → Tidy s → Differ (link_at s) s.words
differ_at s tidy i j k lt lt' e f =
    let a = link_at_some s i k e in
    let b = link_at_some s j k f in
    let p = tidy i lt a.0 in
    let q = tidy j lt' b.0 in
    let same : exit_of s i ≡ exit_of s j = a.1 ∙ sym b.1 in
    let block : slice_index s.owners i ≡ slice_index s.owners j = ap (λ (l : Link). l.block) same in
    let first : first_at s (slice_index s.owners i) ≡ first_at s (slice_index s.owners j) = ap (λ (c : ℕ). first_at s c) block in
    let offset : i - first_at s (slice_index s.owners i) ≡ j - first_at s (slice_index s.owners j) = ap (λ (l : Link). l.offset) same in
    omega (arith, p.from, q.from, first, offset)

pub links_ascending : (s : Ring) → Tidy s → Ascending (links_of s)
unfolding links_of
links_ascending s tidy = collected_ascending (link_at s) s.words (differ_at s tidy)

-- a link is a word of a placed block, and leads into the block that is its target
pub record Found (s : Ring) (v : ImageData) (k : Link) : Type 0 where
  pub own : k.program ≡ 0
  pub placed : Has s.queue k.block
  pub inside : k.offset < length_at v k.block
  pub target : target_at s (first_at s k.block + k.offset) < length s.firsts
  pub into_is : k.into ≡ target_at s (first_at s k.block + k.offset)

pub found_at : (s : Ring) (v : ImageData) (words : List ℕ) (k : Link) → RingSound s v words → has_link (links_of s) k ≡ true → Found s v k
unfolding links_of
found_at s v words k sound h =
    let w = collected_has (link_at s) s.words k h in
    let e = link_at_some s w.0 k w.2 in
    let p = sound.stands w.0 w.1 e.0 in
    let block : slice_index s.owners w.0 ≡ k.block = ap (λ (l : Link). l.block) e.1 in
    let offset : w.0 - first_at s (slice_index s.owners w.0) ≡ k.offset = ap (λ (l : Link). l.offset) e.1 in
    let placed : Has s.queue k.block = subst (λ (c : ℕ). Has s.queue c) block p.placed in
    let first : first_at s (slice_index s.owners w.0) ≡ first_at s k.block = ap (λ (c : ℕ). first_at s c) block in
    let long : slice_index s.lengths (slice_index s.owners w.0) ≡ length_at v k.block = ap (λ (c : ℕ). slice_index s.lengths c) block ∙ sound.lengths_are k.block placed in
    let here : first_at s k.block + k.offset ≡ w.0 = omega (arith, p.from, first, offset) in
    record {
      own = sym (ap (λ (l : Link). l.program) e.1);
      placed = placed;
      inside = omega (arith, p.to, p.from, first, offset, long);
      target = subst (λ (i : ℕ). target_at s i < length s.firsts) (sym here) e.0;
      into_is = sym (ap (λ (l : Link). l.into) e.1) ∙ ap (λ (i : ℕ). target_at s i) (sym here);
    }

-- the link at word o of a block
abbrev pub link_of : Ring → ℕ → ℕ → Link
link_of s b o = record { program = 0; block = b; offset = o; into = target_at s (first_at s b + o) }

-- a word of a placed block shows its block and offset
pub exit_is : (s : Ring) (v : ImageData) (words : List ℕ) (b o : ℕ) → RingSound s v words → Has s.queue b → o < length_at v b → exit_of s (first_at s b + o) ≡ link_of s b o
exit_is s v words b o sound h lt =
    let own : slice_index s.owners (first_at s b + o) ≡ b = sound.owned b o h lt in
    let back : first_at s b + o - first_at s b ≡ o = omega arith in
    rw (own, back) refl

pub has_found : (s : Ring) (v : ImageData) (words : List ℕ) (b o : ℕ) → RingSound s v words → Has s.queue b → o < length_at v b → target_at s (first_at s b + o) < length s.firsts →
    has_link (links_of s) (link_of s b o) ≡ true
unfolding links_of
has_found s v words b o sound h lt t =
    has_collected (link_at s) s.words (first_at s b + o) _ (word_below s v words b o sound h lt)
    (some_link_at s (first_at s b + o) t ∙ ap (λ (k : Link). Some k) (exit_is s v words b o sound h lt))

-- a linked exit is a word that has a target
exit_found : (s : Ring) (v : ImageData) (words : List ℕ) (b o : ℕ) → RingSound s v words → is_linked (kept_by s) b o ≡ true → Has s.queue b × (o < length_at v b) × (target_at s (first_at s b + o) < length s.firsts)
exit_found s v words b o sound l =
    let w = among_has (links_of s) 0 b o l in
    let f = found_at s v words w.link sound w.has in
    let inside : o < length_at v w.link.block = subst (λ (p : ℕ). p < length_at v w.link.block) w.offset f.inside in
    let target : target_at s (first_at s w.link.block + o) < length s.firsts = subst (λ (p : ℕ). target_at s (first_at s w.link.block + p) < length s.firsts) w.offset f.target in (
      subst (λ (c : ℕ). Has s.queue c) w.block f.placed,
      subst (λ (c : ℕ). o < length_at v c) w.block inside,
      subst (λ (c : ℕ). target_at s (first_at s c + o) < length s.firsts) w.block target,
    )

-- an exit of a placed block is linked exactly where its word has a target
pub linked_is : (s : Ring) (v : ImageData) (words : List ℕ) (b o : ℕ) → RingSound s v words → Has s.queue b → o < length_at v b → is_linked (kept_by s) b o ≡ nat_lt (target_at s (first_at s b + o)) (length s.firsts)
linked_is s v words b o sound h lt = ways (nat_lt (target_at s (first_at s b + o)) (length s.firsts)) refl
  where
    ways : (t : Bool) → nat_lt (target_at s (first_at s b + o)) (length s.firsts) ≡ t → is_linked (kept_by s) b o ≡ t
    ways true t = has_among (links_of s) (link_of s b o) (has_found s v words b o sound h lt (ltb-true _ _ t))
    ways false t = false_from_ne_true (is_linked (kept_by s) b o) (λ (l : is_linked (kept_by s) b o ≡ true).
        omega (arith, (exit_found s v words b o sound l).2, ltb-false _ _ t))

pub link_found : (s : Ring) (v : ImageData) (words : List ℕ) (b o : ℕ) → RingSound s v words → is_linked (kept_by s) b o ≡ true → Has s.queue b × (o < length_at v b) × LinkStands s v words b o
link_found s v words b o sound l =
    let f = exit_found s v words b o sound l in
    (f.0, f.1, sound.linked b o f.0 f.1 f.2)

linked_target : (s : Ring) (v : ImageData) (words : List ℕ) (b f o : ℕ) → RingSound s v words → Placed (kept_by s) b f → is_linked (kept_by s) b o ≡ true →
    (j : ℕ) × TargetAt v (kept_by s) (word_at v b (o + 1)) j × IsJump (f + o) j (slice_index words (f + o))
linked_target s v words b f o sound h l =
    let p = placed_has s b f h in
    let k = (link_found s v words b o sound l).2 in
    let t : ℕ = target_at s (first_at s b + o) in (
      first_at s (target_at s (first_at s b + o)) + k.offset,
      record {
        block = target_at s (first_at s b + o);
        offset = k.offset;
        first = first_at s (target_at s (first_at s b + o));
        place_is = k.place_is;
        is_placed = has_placed s (target_at s (first_at s b + o)) k.target;
        index = refl;
      },
      subst (λ (g : ℕ). IsJump (g + o) (first_at s (target_at s (first_at s b + o)) + k.offset) (slice_index words (g + o))) p.1 k.jumps,
    )

-- two placed blocks that have a word in common are one
pub same_word : (s : Ring) (v : ImageData) (words : List ℕ) (b o c q : ℕ) → RingSound s v words → Has s.queue b → Has s.queue c → o < length_at v b → q < length_at v c → first_at s b + o ≡ first_at s c + q → (b ≡ c) × (o ≡ q)
same_word s v words b o c q sound h h' lt lt' e =
    let same : b ≡ c = sym (sound.owned b o h lt) ∙ ap (λ (i : ℕ). slice_index s.owners i) e ∙ sound.owned c q h' lt' in
    (same, omega (arith, e, ap (λ (x : ℕ). first_at s x) same))

-- no entries of the queue are alike
get_spot : (firsts queue : List ℕ) (k : ℕ) (e : Placement) → slice_get (map (spot firsts) queue) k ≡ Some e → slice_get queue k ≡ Some e.block
get_spot firsts [] k e h = absurd (cc)
get_spot firsts (c ∷ cs) zero e h = ap (λ (o : Option Placement). block_in o) h
  where
    block_in : Option Placement → Option ℕ
    block_in None = None
    block_in (Some x) = Some x.block
get_spot firsts (c ∷ cs) (suc k) e h = get_spot firsts cs k e h

get_has : (xs : List ℕ) (k x : ℕ) → slice_get xs k ≡ Some x → Has xs x
get_has [] k x e = absurd (cc)
get_has (y ∷ ys) zero x e = inl (cc)
get_has (y ∷ ys) (suc k) x e = inr (get_has ys k x e)

some_number : (x y : ℕ) → Some x ≡ Some y → x ≡ y
some_number x y e = cc

distinct_get : (xs : List ℕ) (j k x : ℕ) → Distinct xs → slice_get xs j ≡ Some x → slice_get xs k ≡ Some x → j ≡ k
distinct_get [] j k x d e f = absurd (cc)
distinct_get (y ∷ ys) zero zero x d e f = refl
distinct_get (y ∷ ys) zero (suc k) x d e f = absurd (d.0 (subst (λ (z : ℕ). Has ys z) (sym (some_number y x e)) (get_has ys k x f)))
distinct_get (y ∷ ys) (suc j) zero x d e f = absurd (d.0 (subst (λ (z : ℕ). Has ys z) (sym (some_number y x f)) (get_has ys j x e)))
distinct_get (y ∷ ys) (suc j) (suc k) x d e f = ap suc (distinct_get ys j k x d.1 e f)

entry_once : (s : Ring) → InShape s → (j k : ℕ) (e f : Placement) → slice_get (queue_of s.firsts s.queue) j ≡ Some e → slice_get (queue_of s.firsts s.queue) k ≡ Some f → e.block ≡ f.block → j ≡ k
unfolding queue_of
entry_once s shape j k e f at at' same =
    distinct_get s.queue j k e.block shape.distinct (get_spot s.firsts s.queue j e at) (get_spot s.firsts s.queue k f at' ∙ ap (λ (x : ℕ). Some x) (sym same))

pub ring_coherent : (s : Ring) (v : ImageData) (words : List ℕ) → RingSound s v words → Coherent v (kept_by s) (span_of (setting_of s)) words
ring_coherent s v words sound = record {
  fits = sound.fits;
  known = λ b f h. let p = placed_has s b f h in sound.known b p.0;
  distinct = λ j k e f at at' own same. entry_once s sound.shape j k e f at at' same;
  once = λ b f g h h'. sym (placed_has s b f h).1 ∙ (placed_has s b g h').1;
  inside = λ b f h. let p = placed_has s b f h in omega (arith, sound.shape.within b p.0, sound.lengths_are b p.0, p.1);
  apart = λ b f o c g q h h' lt lt' e.
      let m = placed_has s b f h in
      let n = placed_has s c g h' in
      same_word s v words b o c q sound m.0 n.0 lt lt' (omega (arith, m.1, n.1, e));
  exits = λ b o l. let w = link_found s v words b o sound l in ((first_at s b, has_placed s b w.0), w.2.is_exit);
  linked = λ b f o h l. linked_target s v words b f o sound h l;
  plain = λ b f o h lt l.
      let p = placed_has s b f h in
      let free : length s.firsts ≤ target_at s (first_at s b + o) = ltb-false _ _ (sym (linked_is s v words b o sound p.0 lt) ∙ l) in
      ap (λ (g : ℕ). slice_index words (g + o)) (sym p.1) ∙ sound.plain b o p.0 lt free;
}

pub ring_small : (s : Ring) (v : ImageData) (words : List ℕ) → RingSound s v words → span_of (setting_of s) ≤ 2 ^ 21
ring_small s v words sound = sound.shape.words_few

pub ring_image : (s : Ring) (v : ImageData) (words : List ℕ) → RingSound s v words → IsImage v
ring_image s v words sound = sound.image

-- a block is placed, or it isn't
pub has_or : (xs : List ℕ) (x : ℕ) → Has xs x ⊎ (Has xs x → ⊥)
has_or [] x = inr (λ h. h)
has_or (y ∷ ys) x = elim (cases_eq y x) [
  | inl e ↦ inl (inl e)
  | inr ne ↦ elim (has_or ys x) [
    | inl h ↦ inl (inr h)
    | inr lacks ↦ inr (other y x ys ne lacks)
  ]
]
  where
    other : (y x : ℕ) (ys : List ℕ) → (y ≡ x → ⊥) → (Has ys x → ⊥) → (y ≡ x) ⊎ Has ys x → ⊥
    other y x ys ne lacks (inl e) = ne e
    other y x ys ne lacks (inr h) = lacks h

-- a block that shows itself at a word is placed
pub shown_placed : (s : Ring) (i : ℕ) → InShape s → i < s.words → stands_at s i (slice_index s.owners i) ≡ true → IsOwned s i
shown_placed s i shape lt e =
    let b : ℕ = slice_index s.owners i in
    let parts = and_parts (nat_le (first_at s b) i) (nat_lt (i - first_at s b) (slice_index s.lengths b)) e in
    let from : first_at s b ≤ i = (let t = parts.0 in grind (arith, nat_tests)) in
    let to : i - first_at s b < slice_index s.lengths b = ltb-true _ _ parts.1 in
    record {
      placed = elim (has_or s.queue b) [
        | inl h ↦ h
        | inr lacks ↦ absurd (omega (arith, shape.absent b (shape.owners_known i lt) lacks, from, lt))
      ];
      from = from;
      to = omega (arith, from, to);
    }

shown_in : (s : Ring) (v : ImageData) (words : List ℕ) (i : ℕ) (t : Bool) → RingSound s v words → (nat_lt i s.words && stands_at s i (slice_index s.owners i)) ≡ t →
    StandsAt v (kept_by s) i (if t then Some (slice_index s.owners i, i - first_at s (slice_index s.owners i)) else None)
shown_in s v words i true sound e =
    let parts = and_parts (nat_lt i s.words) (stands_at s i (slice_index s.owners i)) e in
    let p = shown_placed s i sound.shape (ltb-true _ _ parts.0) parts.1 in (
      first_at s (slice_index s.owners i),
      has_placed s (slice_index s.owners i) p.placed,
      omega (arith, p.from, p.to, sound.lengths_are (slice_index s.owners i) p.placed),
      omega (arith, p.from),
    )
shown_in s v words i false sound e = λ b f h le. elim (cases_lt i (f + length_at v b)) [
  | inl lt ↦ absurd (
      let p = placed_has s b f h in
      let o : ℕ = i - f in
      let here : first_at s b + (i - f) ≡ i = omega (arith, p.1, le) in
      let inside : i - f < length_at v b = omega (arith, le, lt) in
      let own : slice_index s.owners i ≡ b = ap (λ (j : ℕ). slice_index s.owners j) (sym here) ∙ sound.owned b (i - f) p.0 inside in
      let below : i < s.words = omega (arith, here, word_below s v words b (i - f) sound p.0 inside) in
      let first : first_at s (slice_index s.owners i) ≡ f = ap (λ (c : ℕ). first_at s c) own ∙ p.1 in
      let long : slice_index s.lengths (slice_index s.owners i) ≡ length_at v b = ap (λ (c : ℕ). slice_index s.lengths c) own ∙ sound.lengths_are b p.0 in
      let t : stands_at s i (slice_index s.owners i) ≡ true = shows (first_at s (slice_index s.owners i)) i (slice_index s.lengths (slice_index s.owners i)) (omega (arith, first, le)) (omega (arith, first, long, lt, le)) in
      both_ways _ e (and_from (nat_lt i s.words) (stands_at s i (slice_index s.owners i)) (lt-ltb _ _ below) t))
  | inr past ↦ past
]
  where
    shows : (f i n : ℕ) → f ≤ i → i < f + n → (nat_le f i && nat_lt (i - f) n) ≡ true
    shows f i n le lt = grind (arith, nat_tests)

pub ring_shown : (s : Ring) (v : ImageData) (words : List ℕ) → RingSound s v words → (i : ℕ) → StandsAt v (kept_by s) i (shown_by s i)
unfolding shown_by
ring_shown s v words sound i = shown_in s v words i (nat_lt i s.words && stands_at s i (slice_index s.owners i)) sound refl

-- a word that no block shows is none of a placed block's
pub unshown_free : (s : Ring) (v : ImageData) (words : List ℕ) (i b : ℕ) → RingSound s v words → i < s.words → stands_at s i (slice_index s.owners i) ≡ false → Has s.queue b → first_at s b ≤ i → first_at s b + length_at v b ≤ i
unshown_free s v words i b sound lt e h le =
    shown_in s v words i false sound (rw e (and_no (nat_lt i s.words))) b (first_at s b) (has_placed s b h) le
  where
    and_no : (x : Bool) → (x && false) ≡ false
    and_no true = refl
    and_no false = refl

-- the k-th oldest block
filter_all : (p : Placement → Bool) (es : List Placement) → ((e : Placement) → HasPlacement es e → p e ≡ true) → filter p es ≡ es
filter_all p [] f = refl
filter_all p (e ∷ es) f = rw (f e (inl refl)) (ap (λ (zs : List Placement). e ∷ zs) (filter_all p es (λ x h. f x (inr h))))

spot_get : (firsts queue : List ℕ) (k : ℕ) → k < length queue → slice_get (map (spot firsts) queue) k ≡ Some (spot firsts (slice_index queue k))
spot_get firsts [] k lt = absurd (omega arith)
spot_get firsts (c ∷ cs) zero lt = refl
spot_get firsts (c ∷ cs) (suc k) lt = spot_get firsts cs k (omega arith)

spot_past : (firsts queue : List ℕ) (k : ℕ) → length queue ≤ k → slice_get (map (spot firsts) queue) k ≡ None
spot_past firsts [] k le = refl
spot_past firsts (c ∷ cs) zero le = absurd (omega arith)
spot_past firsts (c ∷ cs) (suc k) le = spot_past firsts cs k (omega arith)

own_queue : (s : Ring) → filter (λ (e : Placement). e.program == 0) (queue_of s.firsts s.queue) ≡ queue_of s.firsts s.queue
unfolding queue_of
own_queue s = filter_all (λ (e : Placement). e.program == 0) (map (spot s.firsts) s.queue) (λ e h.
    eq-eqb _ _ (ap (λ (x : Placement). x.program) (have_spots s.firsts s.queue e h).1))

pub resident_is : (s : Ring) (k : ℕ) → k < length s.queue → resident_of (kept_by s) k ≡ Some (slice_index s.queue k, first_at s (slice_index s.queue k))
unfolding resident_of queue_of
resident_is s k lt =
    ap (λ (es : List Placement). pair_of (slice_get es k)) (own_queue s) ∙ ap (λ (o : Option Placement). pair_of o) (spot_get s.firsts s.queue k lt)

pub resident_none : (s : Ring) (k : ℕ) → length s.queue ≤ k → resident_of (kept_by s) k ≡ None
unfolding resident_of queue_of
resident_none s k le =
    ap (λ (es : List Placement). pair_of (slice_get es k)) (own_queue s) ∙ ap (λ (o : Option Placement). pair_of o) (spot_past s.firsts s.queue k le)
