-- The laws of the service.
use Rattle.std.proofs.Common.{◌≡◌, ℕ, suc, zero, List, [], ◌∷◌, Bool, true, false, not, ◌&&◌, ◌+◌, ◌-◌, ◌*◌, ◌/◌, ◌%◌, ◌≤◌, ◌<◌, ◌^◌, map, length, Option, Some, None, slice_index, slice_get, nat_lt, if◌then◌else◌, arith, refl, sym, ◌∙◌, ap, subst, inl, inr}
use Rattle.std.proofs.lemmas.Bool.{cases_lt, ltb-true, lt-ltb, both_ways, and_parts, and_from, eq-eqb, ne_eqb}
use Rattle.std.proofs.lemmas.Nat.{same_from_place, mod-mul-add, div-mul-add, div-add-mod', mod_below}
use Rattle.swi_image.specs.Format.{ImageData}
use Rattle.swi_image.specs.Place.{place_of, word_at, length_at}
use Rattle.swi_image.specs.Sound.{IsImage}
use Rattle.swi_rom.specs.Record.{Placement, Has, Placed, is_linked, IsJump}
use Rattle.swi_rom.specs.Coherent.{Coherent, StandsAt, TargetAt, IsExit}
use Rattle.swi_rom.specs.Service.{IsService}
use Rattle.swi_rom.specs.Policy.{served_over_link, served_outside, served_one, served_boot, served_writes}
use Rattle.swi_engine.specs.declared.joints.Joint.{Joint}
use Rattle.swi_engine.specs.declared.copying.Copying.{Copying}
use Rattle.swi_engine.specs.Engine.{arrived, newest_first, span_of, beside_arrival}
use Rattle.swi_engine.specs.State.{EngineData, kept_by, setting_of, shown_by, spot, used, is_copied_to}
use Rattle.swi_engine.specs.Sound.{EngineSound, Standing, InShape, JointStands, NoJoint, Distinct, HasCopy, CopyIs}
use Rattle.swi_engine.specs.Service.{engine_service}
use Rattle.swi_engine.specs.Taken.{beside_extent, extent_within}
use Rattle.swi_engine.specs.Seats.{map_has, placed_slot, slot_placed, linked_joint, joint_linked, length_most, slot_within, joint_inside, joint_at}

slices_below : {X : Type 0} (xs : List X) (j : ℕ) (x : X) → slice_get xs j ≡ Some x → Has xs x
slices_below [] zero x e = absurd cc
slices_below [] (suc j) x e = absurd cc
slices_below (y ∷ ys) zero x e = inl cc
slices_below (y ∷ ys) (suc j) x e = inr (slices_below ys j x e)

-- no two entries have the same block
queue_distinct : (size : ℕ) (blocks queue : List ℕ) → Distinct queue → ((n m : ℕ) → Has queue n → Has queue m → slice_index blocks n ≡ slice_index blocks m → n ≡ m) →
    (j k : ℕ) (p q : Placement) → slice_get (map (λ n. spot size blocks n) queue) j ≡ Some p → slice_get (map (λ n. spot size blocks n) queue) k ≡ Some q → p.block ≡ q.block → j ≡ k
queue_distinct size blocks [] once distinct zero k p q at at' same = absurd cc
queue_distinct size blocks [] once distinct (suc j) k p q at at' same = absurd cc
queue_distinct size blocks (n ∷ ns) once distinct zero zero p q at at' same = refl
queue_distinct size blocks (n ∷ ns) once distinct zero (suc k) p q at at' same =
    let w = map_has (λ (m : ℕ). spot size blocks m) ns q (slices_below _ k q at') in
    let e : spot size blocks n ≡ p = cc in
    absurd (once.0 (subst (λ (m : ℕ). Has ns m) (sym (distinct n w.0 (inl refl) (inr w.1) (ap (λ (x : Placement). x.block) e ∙ same ∙ sym (ap (λ (x : Placement). x.block) w.2)))) w.1))
queue_distinct size blocks (n ∷ ns) once distinct (suc j) zero p q at at' same =
    let w = map_has (λ (m : ℕ). spot size blocks m) ns p (slices_below _ j p at) in
    let e : spot size blocks n ≡ q = cc in
    absurd (once.0 (subst (λ (m : ℕ). Has ns m) (distinct w.0 n (inr w.1) (inl refl) (ap (λ (x : Placement). x.block) w.2 ∙ same ∙ sym (ap (λ (x : Placement). x.block) e))) w.1))
queue_distinct size blocks (n ∷ ns) once distinct (suc j) (suc k) p q at at' same =
    ap suc (queue_distinct size blocks ns once.1 (λ m l h h' e. distinct m l (inr h) (inr h') e) j k p q at at' same)

-- the link at (b, o) of a placed block
placed_link : (e : EngineData) (v : ImageData) (words : List ℕ) (b o f : ℕ) → Standing e v words → Placed (kept_by e) b f → is_linked (kept_by e) b o ≡ true →
    (j : Joint) × Has e.joints j × (j.block ≡ b) × (j.offset ≡ o) × (j.at ≡ f + o) × JointStands e v words j
placed_link e v words b o f sound h l =
    let p = placed_slot e b f h in
    let w = linked_joint e b o l in
    let s = sound.linked w.0 w.1 in
    (w.0, w.1, w.2, w.3, joint_at e v words w.0 p.0 sound s p.1 (p.2 ∙ sym w.2) ∙ ap (λ (x : ℕ). x + w.0.offset) p.3 ∙ ap (λ (x : ℕ). f + x) w.3, s)

linked_target : (e : EngineData) (v : ImageData) (words : List ℕ) (b o f : ℕ) → Standing e v words → Placed (kept_by e) b f → is_linked (kept_by e) b o ≡ true →
    (i : ℕ) × TargetAt v (kept_by e) (word_at v b (o + 1)) i × IsJump (f + o) i (slice_index words (f + o))
linked_target e v words b o f sound h l =
    let w = placed_link e v words b o f sound h l in
    let s = w.5 in
    let same : word_at v w.0.block (w.0.offset + 1) ≡ word_at v b (o + 1) = ap (λ (c : ℕ). word_at v c (w.0.offset + 1)) w.2 ∙ ap (λ (c : ℕ). word_at v b (c + 1)) w.3 in (
      s.target * e.size + s.offset,
      record {
        block = slice_index e.blocks s.target;
        offset = s.offset;
        first = s.target * e.size;
        place_is = subst (λ (t : ℕ). place_of v t ≡ Some (slice_index e.blocks s.target, s.offset)) same (subst (λ (c : ℕ). place_of v (word_at v w.0.block (w.0.offset + 1)) ≡ Some (c, s.offset)) (sym s.target_is) s.place_is);
        is_placed = slot_placed e s.target s.target_queued;
        index = refl;
      },
      subst (λ (i : ℕ). IsJump i (s.target * e.size + s.offset) (slice_index words i)) w.4 s.jumps,
    )

pub not_linked_none : (e : EngineData) (v : ImageData) (words : List ℕ) (n o : ℕ) → Standing e v words → Has e.queue n → o < length_at v (slice_index e.blocks n) → is_linked (kept_by e) (slice_index e.blocks n) o ≡ false → NoJoint e (n * e.size + o)
not_linked_none e v words n o sound h lt l = λ j has at.
    let s = sound.linked j has in
    let same = same_from_place s.home j.offset n o e.size (joint_inside e v words j sound s) (omega (arith, lt, length_most e v words n sound h)) (sym s.index ∙ at) in
    both_ways (is_linked (kept_by e) (slice_index e.blocks n) o) l
    (subst (λ (x : ℕ). is_linked (kept_by e) (slice_index e.blocks n) x ≡ true) same.1
    (subst (λ (b : ℕ). is_linked (kept_by e) b j.offset ≡ true) (sym s.home_is ∙ ap (λ (m : ℕ). slice_index e.blocks m) same.0) (joint_linked e j has)))

stands_coherent : (e : EngineData) (v : ImageData) (words : List ℕ) → Standing e v words → Coherent v (kept_by e) (span_of (setting_of e)) words
stands_coherent e v words sound = record {
  fits = sound.fits;
  known = λ b f h. let p = placed_slot e b f h in subst (λ (c : ℕ). c < length v.blocks) p.2 (sound.known p.0 p.1);
  distinct = λ j k p q at at' own same. queue_distinct e.size e.blocks e.queue sound.once sound.distinct j k p q at at' same;
  once = λ b f g h h'.
      let p = placed_slot e b f h in
      let q = placed_slot e b g h' in
      sym p.3 ∙ ap (λ (n : ℕ). n * e.size) (sound.distinct p.0 q.0 p.1 q.1 (p.2 ∙ sym q.2)) ∙ q.3;
  inside = λ b f h.
      let p = placed_slot e b f h in
      let le : length_at v b ≤ e.size = subst (λ (c : ℕ). length_at v c ≤ e.size) p.2 (length_most e v words p.0 sound p.1) in
      omega (arith, slot_within e p.0 sound.shape (sound.shape.below p.0 p.1), p.3);
  apart = λ b f o c g q h h' lt lt' at.
      let m = placed_slot e b f h in
      let n = placed_slot e c g h' in
      let le : length_at v b ≤ e.size = subst (λ (x : ℕ). length_at v x ≤ e.size) m.2 (length_most e v words m.0 sound m.1) in
      let le' : length_at v c ≤ e.size = subst (λ (x : ℕ). length_at v x ≤ e.size) n.2 (length_most e v words n.0 sound n.1) in
      let same = same_from_place m.0 o n.0 q e.size (omega arith) (omega arith) (ap (λ (x : ℕ). x + o) m.3 ∙ at ∙ ap (λ (x : ℕ). x + q) (sym n.3)) in
      (sym m.2 ∙ ap (λ (x : ℕ). slice_index e.blocks x) same.0 ∙ n.2, same.1);
  exits = λ b o l.
      let w = linked_joint e b o l in
      let s = sound.linked w.0 w.1 in (
        (s.home * e.size, subst (λ (c : ℕ). Placed (kept_by e) c (s.home * e.size)) (s.home_is ∙ w.2) (slot_placed e s.home s.home_queued)),
        subst (λ (m : ℕ). IsExit v b m) w.3 (subst (λ (c : ℕ). IsExit v c w.0.offset) w.2 s.is_exit),
      );
  linked = λ b f o h l. linked_target e v words b o f sound h l;
  plain = λ b f o h lt l.
      let p = placed_slot e b f h in
      let lt' : o < length_at v (slice_index e.blocks p.0) = subst (λ (c : ℕ). o < length_at v c) (sym p.2) lt in
      let none = not_linked_none e v words p.0 o sound p.1 lt' (subst (λ (c : ℕ). is_linked (kept_by e) c o ≡ false) (sym p.2) l) in
      ap (λ (g : ℕ). slice_index words (g + o)) (sym p.3) ∙ sound.plain p.0 o p.1 lt' none ∙ ap (λ (c : ℕ). word_at v c o) p.2;
}

copied_apart : (c : Option Copying) (n : ℕ) → HasCopy c n → is_copied_to c n ≡ true
copied_apart None n h = absurd h
copied_apart (Some c) n h = eq-eqb _ _ h

copy_free : (c : Option Copying) (e : EngineData) (v : ImageData) (words : List ℕ) (n : ℕ) → CopyIs c e v words → Has e.queue n → is_copied_to c n ≡ false
copy_free None e v words n is h = refl
copy_free (Some c) e v words n is h = ne_eqb _ _ (λ (s : c.slot ≡ n). is.slot_free (subst (λ (m : ℕ). Has e.queue m) (sym s) h))

seated : (e : EngineData) (v : ImageData) (words : List ℕ) (n : ℕ) → Standing e v words → n < used e → is_copied_to e.copy n ≡ false → Has e.queue n
seated e v words n sound lt free = elim (sound.filled n lt) [ inl h ↦ h | inr c ↦ absurd (both_ways _ free (copied_apart e.copy n c)) ]

word_is : (e : EngineData) (i : ℕ) → InShape e → (i / e.size * e.size + i % e.size ≡ i) × (i % e.size < e.size)
word_is e i shape = (div-add-mod' i e.size, mod_below i e.size (omega (arith, shape.size_least)))

pub word_slot : (n o size : ℕ) → o < size → ((n * size + o) / size ≡ n) × ((n * size + o) % size ≡ o)
word_slot n o size lt = (div-mul-add n size o lt, mod-mul-add n size o lt)

shown_in : (e : EngineData) (v : ImageData) (words : List ℕ) (i : ℕ) (t : Bool) → Standing e v words → (nat_lt (i / e.size) (used e) && (not (is_copied_to e.copy (i / e.size)) && nat_lt (i % e.size) (slice_index e.lengths (i / e.size)))) ≡ t →
    StandsAt v (kept_by e) i (if t then Some (slice_index e.blocks (i / e.size), i % e.size) else None)
shown_in e v words i true sound is =
    let parts = and_parts (nat_lt (i / e.size) (used e)) _ is in
    let parts' = and_parts (not (is_copied_to e.copy (i / e.size))) _ parts.1 in
    let row : Has e.queue (i / e.size) = seated e v words (i / e.size) sound (ltb-true _ _ parts.0) (not_true _ parts'.0) in (
      i / e.size * e.size,
      slot_placed e (i / e.size) row,
      subst (λ (x : ℕ). i % e.size < x) (sound.lengths_are (i / e.size) row) (ltb-true _ _ parts'.1),
      sym (word_is e i sound.shape).0,
    )
  where
    not_true : (t : Bool) → not t ≡ true → t ≡ false
    not_true true e = sym e
    not_true false e = refl
shown_in e v words i false sound is = λ b f h le. elim (cases_lt i (f + length_at v b)) [
  | inl lt ↦ absurd (
      let p = placed_slot e b f h in
      let most : length_at v b ≤ e.size = subst (λ (x : ℕ). length_at v x ≤ e.size) p.2 (length_most e v words p.0 sound p.1) in
      let at : i ≡ p.0 * e.size + (i - f) = omega (arith, p.3) in
      let w = word_slot p.0 (i - f) e.size (omega arith) in
      let row : i / e.size ≡ p.0 = ap (λ (x : ℕ). x / e.size) at ∙ w.0 in
      let column : i % e.size ≡ i - f = ap (λ (x : ℕ). x % e.size) at ∙ w.1 in
      let long : slice_index e.lengths (i / e.size) ≡ length_at v b = ap (λ (x : ℕ). slice_index e.lengths x) row ∙ sound.lengths_are p.0 p.1 ∙ ap (λ (x : ℕ). length_at v x) p.2 in
      let free : not (is_copied_to e.copy (i / e.size)) ≡ true = ap (λ (x : ℕ). not (is_copied_to e.copy x)) row ∙ ap (λ (t : Bool). not t) (copy_free e.copy e v words p.0 sound.copy_is p.1) in
      both_ways _ is (and_from (nat_lt (i / e.size) (used e)) _ (lt-ltb _ _ (omega (arith, sound.low p.0 p.1, row)))
      (and_from (not (is_copied_to e.copy (i / e.size))) _ free (lt-ltb _ _ (omega (arith, column, long, lt))))))
  | inr past ↦ past
]

stands_shown : (e : EngineData) (v : ImageData) (words : List ℕ) → Standing e v words → (i : ℕ) → StandsAt v (kept_by e) i (shown_by e i)
unfolding shown_by
stands_shown e v words sound i =
    shown_in e v words i (nat_lt (i / e.size) (used e) && (not (is_copied_to e.copy (i / e.size)) && nat_lt (i % e.size) (slice_index e.lengths (i / e.size)))) sound refl

pub engine_coherent : (e : EngineData) (v : ImageData) (words : List ℕ) → EngineSound e v words → Coherent v (kept_by e) (span_of (setting_of e)) words
engine_coherent e v words sound = stands_coherent e v words sound.stands

pub engine_small : (e : EngineData) (v : ImageData) (words : List ℕ) → EngineSound e v words → span_of (setting_of e) ≤ 2 ^ 21
engine_small e v words sound = sound.stands.shape.words_few

pub engine_image : (e : EngineData) (v : ImageData) (words : List ℕ) → EngineSound e v words → IsImage v
engine_image e v words sound = sound.stands.image

pub engine_shown : (e : EngineData) (v : ImageData) (words : List ℕ) → EngineSound e v words → (i : ℕ) → StandsAt v (kept_by e) i (shown_by e i)
engine_shown e v words sound = stands_shown e v words sound.stands

pub engine_laws : IsService engine_service
engine_laws = record {
  coherent = engine_coherent;
  small = engine_small;
  image = engine_image;
  shown_is = engine_shown;
  link_stays = served_over_link arrived newest_first;
  outside_stays = served_outside arrived newest_first;
  one_service = λ by. served_one arrived newest_first by beside_arrival;
  boot_uncounted = λ by. served_boot arrived newest_first by beside_arrival;
  writes_rise = λ by. served_writes arrived newest_first by beside_arrival;
  within = extent_within;
  extent_rises = beside_extent;
}
