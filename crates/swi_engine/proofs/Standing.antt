-- Each part of a call leaves the ram with the placed blocks, the links and the copy.
use Rattle.std.proofs.Common.{◌≡◌, ℕ, ◌+◌, ◌*◌, ◌<◌, ◌≤◌, ◌==◌, List, [], ◌∷◌, ◌++◌, remove, true, false, not, length, slice_index, slice_get, slice_set, Some, None, Option, arith, refl, sym, ◌∙◌, ap, subst, inl, inr}
use Rattle.std.proofs.lemmas.List.{length-append, length-set, get_or-set_other, get_or-set_same}
use Rattle.std.proofs.lemmas.List.Edits.{length-remove}
use Rattle.std.proofs.lemmas.Bool.{cases_eq, cases_lt}
use Rattle.std.proofs.lemmas.Bool.Decides.{nat_tests}
use Rattle.std.proofs.lemmas.Nat.{same_from_place}
use Rattle.swi_image.specs.Format.{ImageData}
use Rattle.swi_image.specs.Place.{place_of, word_at, length_at}
use Rattle.swi_rom.specs.Record.{Has, ebreak, IsJump}
use Rattle.swi_rom.specs.Coherent.{IsExit}
use Rattle.swi_rom.specs.declared.rom.Counts.{Counts}
use Rattle.swi_rom.specs.Blocks.{block_short}
use Rattle.swi_engine.specs.declared.joints.Joint.{Joint}
use Rattle.swi_engine.specs.declared.copying.Copying.{Copying}
use Rattle.swi_engine.specs.Engine.{copies_begun}
use Rattle.swi_engine.specs.State.{EngineData, used}
use Rattle.swi_engine.specs.Sound.{Standing, JointStands, CopyStands, CopyIs, HasCopy, NoJoint}
use Rattle.swi_engine.specs.Seats.{length_most, slot_within, joint_inside, joint_below}
use Rattle.swi_engine.specs.Moves.{leads_in, undone_data, left_data, placed_data, linked_data, IsAbsent}
use Rattle.swi_engine.proofs.Shapes.{has_index, has_get, has_last, has_left, has_here, remove_has, has_remove, filter_has, has_filter, removed_apart, apart_remove, apart_filter, distinct_remove, removed_distinct, get_index, distinct_append, left_homed, placed_homed}

-- a link stands also where only its own parts are looked at
joint_moves : (e f : EngineData) (v : ImageData) (words next : List ℕ) (j : Joint) → f.size ≡ e.size → (s : JointStands e v words j) →
    Has f.queue s.home → Has f.queue s.target → slice_index f.blocks s.home ≡ slice_index e.blocks s.home → slice_index f.blocks s.target ≡ slice_index e.blocks s.target →
    slice_index next j.at ≡ slice_index words j.at → JointStands f v next j
joint_moves e f v words next j size s h t hb tb same = record {
  home = s.home;
  home_queued = h;
  home_is = hb ∙ s.home_is;
  index = s.index ∙ ap (λ (x : ℕ). s.home * x + j.offset) (sym size);
  is_exit = s.is_exit;
  target = s.target;
  offset = s.offset;
  target_queued = t;
  target_is = tb ∙ s.target_is;
  place_is = s.place_is;
  jumps = subst (λ (w : ℕ). IsJump j.at (s.target * f.size + s.offset) w) (sym same) (subst (λ (x : ℕ). IsJump j.at (s.target * x + s.offset) (slice_index words j.at)) (sym size) s.jumps);
}

-- the words of the copy are no link's
copy_apart : (e : EngineData) (v : ImageData) (words : List ℕ) (c : Copying) (n o k : ℕ) → Standing e v words → CopyStands e v words c → Has e.queue n → o < e.size → k < e.size → c.slot * e.size + k ≡ n * e.size + o → ⊥
copy_apart e v words c n o k stands is h lt lt' at =
    let same = same_from_place c.slot k n o e.size lt' lt at in
    is.slot_free (subst (λ (m : ℕ). Has e.queue m) (sym same.0) h)

pub copy_short : (e : EngineData) (v : ImageData) (words : List ℕ) (c : Copying) → Standing e v words → CopyStands e v words c → length_at v c.block ≤ e.size
copy_short e v words c stands is = omega (arith, block_short v c.block stands.image is.known, stands.holds_block)

undone_copy : (c : Option Copying) (e : EngineData) (v : ImageData) (words : List ℕ) (k : ℕ) (j : Joint) → Standing e v words → Has e.joints j → CopyIs c e v words → CopyIs c (undone_data e k) v (slice_set words j.at ebreak)
undone_copy None e v words k j stands has is = tt
undone_copy (Some c) e v words k j stands has is = record {
  slot_used = is.slot_used;
  slot_free = is.slot_free;
  known = is.known;
  absent = is.absent;
  more = is.more;
  stands = λ i lt.
      let s = stands.linked j has in
      get_or-set_other words j.at (c.slot * e.size + i) ebreak 0 (λ (at : c.slot * e.size + i ≡ j.at).
      copy_apart e v words c s.home j.offset i stands is s.home_queued (joint_inside e v words j stands s) (omega (arith, copy_short e v words c stands is, is.more, lt)) (at ∙ s.index))
      ∙ is.stands i lt;
}

-- a link is undone
pub undone_stands : (e : EngineData) (v : ImageData) (words : List ℕ) (k : ℕ) (j : Joint) → Standing e v words → slice_get e.joints k ≡ Some j → Standing (undone_data e k) v (slice_set words j.at ebreak)
undone_stands e v words k j stands get =
    let has = has_get e.joints k j get in
    let s = stands.linked j has in record {
      shape = record { slots_some = stands.shape.slots_some; size_least = stands.shape.size_least; size_most = stands.shape.size_most; words_few = stands.shape.words_few; used_most = stands.shape.used_most; blocks_long = stands.shape.blocks_long; lengths_long = stands.shape.lengths_long; below = stands.shape.below; homed = stands.shape.homed };
      image = stands.image;
      holds_block = stands.holds_block;
      blocks_most = stands.blocks_most;
      fits = omega (arith, stands.fits, length-set words j.at ebreak);
      once = stands.once;
      distinct = stands.distinct;
      known = stands.known;
      lengths_are = stands.lengths_are;
      low = stands.low;
      filled = stands.filled;
      copy_is = undone_copy e.copy e v words k j stands has stands.copy_is;
      linked = λ i h.
          let t = stands.linked i (remove_has e.joints k i h) in
          joint_moves e (undone_data e k) v words (slice_set words j.at ebreak) i refl t t.home_queued t.target_queued refl refl
          (get_or-set_other words j.at i.at ebreak 0 (λ (at : i.at ≡ j.at). removed_apart e.joints k j i stands.apart get h at));
      apart = apart_remove e.joints k stands.apart;
      plain = λ n o h lt none. elim (cases_eq (n * e.size + o) j.at) [
        | inl at ↦ (
            let same = same_from_place n o s.home j.offset e.size (omega (arith, lt, length_most e v words n stands h)) (joint_inside e v words j stands s) (at ∙ s.index) in
            ap (λ (i : ℕ). slice_index (slice_set words j.at ebreak) i) at ∙ get_or-set_same words j.at ebreak 0 (omega (arith, joint_below e v words j stands s, stands.fits))
            ∙ sym s.is_exit.leaves ∙ ap (λ (b : ℕ). word_at v b j.offset) (sym s.home_is ∙ ap (λ (m : ℕ). slice_index e.blocks m) (sym same.0)) ∙ ap (λ (x : ℕ). word_at v (slice_index e.blocks n) x) (sym same.1))
        | inr ne ↦ (
            get_or-set_other words j.at (n * e.size + o) ebreak 0 ne
            ∙ stands.plain n o h lt (λ i hi at. elim (has_remove e.joints k i j get hi) [ inl r ↦ none i r at | inr is ↦ ne (sym at ∙ ap (λ (x : Joint). x.at) (sym is)) ]))
      ];
    }

-- a copy begins in the lowest free slot
pub begun_stands : (e : EngineData) (v : ImageData) (words : List ℕ) (c : ℕ) → Standing e v words → e.copy ≡ None → length e.queue < e.slots → c < length v.blocks → 0 < length_at v c → IsAbsent e c →
    Standing (record e { copy = Some (record { block = c; slot = length e.queue; done = 0 }) }) v words
begun_stands e v words c stands none room known some absent =
    let few : used e ≡ length e.queue + 0 = ap (λ (k : Option Copying). length e.queue + copies_begun k) none in record {
      shape = record { slots_some = stands.shape.slots_some; size_least = stands.shape.size_least; size_most = stands.shape.size_most; words_few = stands.shape.words_few; used_most = omega (arith, room); blocks_long = stands.shape.blocks_long; lengths_long = stands.shape.lengths_long; below = stands.shape.below; homed = stands.shape.homed };
      image = stands.image;
      holds_block = stands.holds_block;
      blocks_most = stands.blocks_most;
      fits = stands.fits;
      once = stands.once;
      distinct = stands.distinct;
      known = stands.known;
      lengths_are = stands.lengths_are;
      low = λ n h. omega (arith, stands.low n h, few);
      filled = λ n lt. elim (cases_lt n (length e.queue)) [
        | inl below ↦ elim (stands.filled n (omega (arith, below, few))) [ inl h ↦ inl h | inr h ↦ absurd (no_copy e.copy n none h) ]
        | inr past ↦ inr (omega (arith, lt, past))
      ];
      copy_is = record {
        slot_used = omega arith;
        slot_free = λ h. omega (arith, stands.low (length e.queue) h, few);
        known = known;
        absent = absent;
        more = some;
        stands = λ k lt. absurd (omega (arith, lt));
      };
      linked = λ j h. let s = stands.linked j h in joint_moves e _ v words words j refl s s.home_queued s.target_queued refl refl refl;
      apart = stands.apart;
      plain = stands.plain;
    }
  where
    no_copy : (k : Option Copying) (n : ℕ) → k ≡ None → HasCopy k n → ⊥
    no_copy None n e h = h
    no_copy (Some c) n e h = cc

-- another copy begins in the slot of the one that has
pub rebegun_stands : (e : EngineData) (v : ImageData) (words : List ℕ) (c : ℕ) (k : Copying) → Standing e v words → e.copy ≡ Some k → c < length v.blocks → 0 < length_at v c → IsAbsent e c →
    Standing (record e { copy = Some (record { block = c; slot = k.slot; done = 0 }) }) v words
rebegun_stands e v words c k stands is known some absent =
    let few : used e ≡ length e.queue + 1 = ap (λ (k : Option Copying). length e.queue + copies_begun k) is in
    let was : CopyStands e v words k = subst (λ (o : Option Copying). CopyIs o e v words) is stands.copy_is in record {
      shape = record { slots_some = stands.shape.slots_some; size_least = stands.shape.size_least; size_most = stands.shape.size_most; words_few = stands.shape.words_few; used_most = omega (arith, stands.shape.used_most, few); blocks_long = stands.shape.blocks_long; lengths_long = stands.shape.lengths_long; below = stands.shape.below; homed = stands.shape.homed };
      image = stands.image;
      holds_block = stands.holds_block;
      blocks_most = stands.blocks_most;
      fits = stands.fits;
      once = stands.once;
      distinct = stands.distinct;
      known = stands.known;
      lengths_are = stands.lengths_are;
      low = λ n h. omega (arith, stands.low n h, few);
      filled = λ n lt. elim (stands.filled n (omega (arith, lt, few))) [ inl h ↦ inl h | inr h ↦ inr (subst (λ (o : Option Copying). HasCopy o n) is h) ];
      copy_is = record {
        slot_used = omega (arith, was.slot_used, few);
        slot_free = was.slot_free;
        known = known;
        absent = absent;
        more = some;
        stands = λ i lt. absurd (omega (arith, lt));
      };
      linked = λ j h. let s = stands.linked j h in joint_moves e _ v words words j refl s s.home_queued s.target_queued refl refl refl;
      apart = stands.apart;
      plain = stands.plain;
    }

-- the oldest block but one leaves its slot, into which no link leads from another block, and a copy begins there
pub left_stands : (e : EngineData) (v : ImageData) (words : List ℕ) (k c : ℕ) → Standing e v words → e.copy ≡ None → k < length e.queue → c < length v.blocks → 0 < length_at v c → IsAbsent e c →
    ((j : Joint) → Has e.joints j → leads_in j (slice_index e.blocks (slice_index e.queue k)) ≡ false) →
    Standing (record (left_data e k) { copy = Some (record { block = c; slot = slice_index e.queue k; done = 0 }) }) v words
left_stands e v words k c stands none lt known some absent unlinked =
    let few : used e ≡ length e.queue + 0 = ap (λ (k : Option Copying). length e.queue + copies_begun k) none in
    let short : length (remove e.queue k) + 1 ≡ length e.queue = length-remove e.queue k lt in
    let here : Has e.queue (slice_index e.queue k) = has_index e.queue k lt in
    let other : (n : ℕ) → Has (remove e.queue k) n → n ≡ slice_index e.queue k → ⊥ = λ n h is. removed_distinct e.queue k stands.once lt (subst (λ (m : ℕ). Has (remove e.queue k) m) is h) in
    let stays : (n : ℕ) → Has e.queue n → (n ≡ slice_index e.queue k → ⊥) → Has (remove e.queue k) n = λ n h ne. elim (has_remove e.queue k n (slice_index e.queue k) (get_index e.queue k lt) h) [ inl r ↦ r | inr is ↦ absurd (ne (sym is)) ] in record {
      shape = record { slots_some = stands.shape.slots_some; size_least = stands.shape.size_least; size_most = stands.shape.size_most; words_few = stands.shape.words_few; used_most = omega (arith, short, few, stands.shape.used_most); blocks_long = stands.shape.blocks_long; lengths_long = stands.shape.lengths_long; below = λ n h. stands.shape.below n (remove_has e.queue k n h); homed = left_homed e.slots e.queue e.blocks e.homes k stands.shape.homed stands.once lt };
      image = stands.image;
      holds_block = stands.holds_block;
      blocks_most = omega (arith, stands.blocks_most, length-set e.homes (slice_index e.blocks (slice_index e.queue k)) e.slots);
      fits = stands.fits;
      once = distinct_remove e.queue k stands.once;
      distinct = λ n m h h' is. stands.distinct n m (remove_has e.queue k n h) (remove_has e.queue k m h') is;
      known = λ n h. stands.known n (remove_has e.queue k n h);
      lengths_are = λ n h. stands.lengths_are n (remove_has e.queue k n h);
      low = λ n h. omega (arith, stands.low n (remove_has e.queue k n h), few, short);
      filled = λ n below. elim (cases_eq (slice_index e.queue k) n) [
        | inl is ↦ inr is
        | inr ne ↦ elim (stands.filled n (omega (arith, below, few, short))) [ inl h ↦ inl (stays n h (λ (s : n ≡ slice_index e.queue k). ne (sym s))) | inr h ↦ absurd (no_copy e.copy n none h) ]
      ];
      copy_is = record {
        slot_used = omega (arith, stands.low (slice_index e.queue k) here, few, short);
        slot_free = λ h. other (slice_index e.queue k) h refl;
        known = known;
        absent = λ n h is. absent n (remove_has e.queue k n h) is;
        more = some;
        stands = λ i lt. absurd (omega (arith, lt));
      };
      linked = λ j h.
          let w = filter_has (λ (i : Joint). not (i.block == slice_index e.blocks (slice_index e.queue k))) e.joints j h in
          let s = stands.linked j w.0 in
          joint_moves e _ v words words j refl s
          (stays s.home s.home_queued (λ is. not_from j (slice_index e.blocks (slice_index e.queue k)) w.1 (sym s.home_is ∙ ap (λ (m : ℕ). slice_index e.blocks m) is)))
          (stays s.target s.target_queued (λ is. not_into j (slice_index e.blocks (slice_index e.queue k)) w.1 (unlinked j w.0) (sym s.target_is ∙ ap (λ (m : ℕ). slice_index e.blocks m) is))) refl refl refl;
      apart = apart_filter (λ (i : Joint). not (i.block == slice_index e.blocks (slice_index e.queue k))) e.joints stands.apart;
      plain = λ n o h inside free.
          stands.plain n o (remove_has e.queue k n h) inside
          (λ j has at.
          let s = stands.linked j has in
          let same = same_from_place s.home j.offset n o e.size (joint_inside e v words j stands s) (omega (arith, inside, length_most e v words n stands (remove_has e.queue k n h))) (sym s.index ∙ at) in
          free j (has_filter (λ (i : Joint). not (i.block == slice_index e.blocks (slice_index e.queue k))) e.joints j has
          (from_other j (slice_index e.blocks (slice_index e.queue k))
          (λ (is : j.block ≡ slice_index e.blocks (slice_index e.queue k)). other n h (stands.distinct n (slice_index e.queue k) (remove_has e.queue k n h) here (ap (λ (m : ℕ). slice_index e.blocks m) (sym same.0) ∙ s.home_is ∙ is))))) at);
    }
  where
    no_copy : (k : Option Copying) (n : ℕ) → k ≡ None → HasCopy k n → ⊥
    no_copy None n e h = h
    no_copy (Some c) n e h = cc

    not_from : (j : Joint) (b : ℕ) → not (j.block == b) ≡ true → j.block ≡ b → ⊥
    not_from j b t is = grind (arith, nat_tests)

    not_into : (j : Joint) (b : ℕ) → not (j.block == b) ≡ true → leads_in j b ≡ false → j.into ≡ b → ⊥
    not_into j b t f is = grind (arith, nat_tests)

    from_other : (j : Joint) (b : ℕ) → (j.block ≡ b → ⊥) → not (j.block == b) ≡ true
    from_other j b ne = grind (arith, nat_tests)

-- the copy's next word is written, and it isn't the last one
pub wrote_stands : (e : EngineData) (v : ImageData) (words : List ℕ) (c : Copying) → Standing e v words → e.copy ≡ Some c → c.done + 1 < length_at v c.block →
    Standing (record e { copy = Some (record c { done = c.done + 1 }) }) v (slice_set words (c.slot * e.size + c.done) (word_at v c.block c.done))
wrote_stands e v words c stands is more =
    let few : used e ≡ length e.queue + 1 = ap (λ (k : Option Copying). length e.queue + copies_begun k) is in
    let was : CopyStands e v words c = subst (λ (o : Option Copying). CopyIs o e v words) is stands.copy_is in
    let short = copy_short e v words c stands was in
    let at : ℕ = c.slot * e.size + c.done in
    let w : ℕ = word_at v c.block c.done in
    let within : c.slot * e.size + e.size ≤ e.slots * e.size = slot_within e c.slot stands.shape (omega (arith, was.slot_used, stands.shape.used_most)) in
    let other : (n o : ℕ) → Has e.queue n → o < e.size → slice_index (slice_set words (c.slot * e.size + c.done) (word_at v c.block c.done)) (n * e.size + o) ≡ slice_index words (n * e.size + o) =
    λ n o h lt. get_or-set_other words (c.slot * e.size + c.done) (n * e.size + o) (word_at v c.block c.done) 0 (λ (s : n * e.size + o ≡ c.slot * e.size + c.done). copy_apart e v words c n o c.done stands was h lt (omega (arith, more, short)) (sym s)) in record {
      shape = record { slots_some = stands.shape.slots_some; size_least = stands.shape.size_least; size_most = stands.shape.size_most; words_few = stands.shape.words_few; used_most = omega (arith, stands.shape.used_most, few); blocks_long = stands.shape.blocks_long; lengths_long = stands.shape.lengths_long; below = stands.shape.below; homed = stands.shape.homed };
      image = stands.image;
      holds_block = stands.holds_block;
      blocks_most = stands.blocks_most;
      fits = omega (arith, stands.fits, length-set words (c.slot * e.size + c.done) (word_at v c.block c.done));
      once = stands.once;
      distinct = stands.distinct;
      known = stands.known;
      lengths_are = stands.lengths_are;
      low = λ n h. omega (arith, stands.low n h, few);
      filled = λ n lt. elim (stands.filled n (omega (arith, lt, few))) [ inl h ↦ inl h | inr h ↦ inr (subst (λ (o : Option Copying). HasCopy o n) is h) ];
      copy_is = record {
        slot_used = omega (arith, was.slot_used, few);
        slot_free = was.slot_free;
        known = was.known;
        absent = was.absent;
        more = more;
        stands = λ k lt. elim (cases_eq k c.done) [
          | inl s ↦ (ap (λ (i : ℕ). slice_index (slice_set words (c.slot * e.size + c.done) (word_at v c.block c.done)) (c.slot * e.size + i)) s
              ∙ get_or-set_same words (c.slot * e.size + c.done) (word_at v c.block c.done) 0 (omega (arith, within, stands.fits, more, short)) ∙ ap (λ (i : ℕ). word_at v c.block i) (sym s))
          | inr ne ↦ (get_or-set_other words (c.slot * e.size + c.done) (c.slot * e.size + k) (word_at v c.block c.done) 0 (λ (s : c.slot * e.size + k ≡ c.slot * e.size + c.done). ne (omega (arith, s)))
              ∙ was.stands k (below k c.done lt ne))
        ];
      };
      linked = λ j h.
          let s = stands.linked j h in
          joint_moves e _ v words _ j refl s s.home_queued s.target_queued refl refl
          (ap (λ (i : ℕ). slice_index (slice_set words (c.slot * e.size + c.done) (word_at v c.block c.done)) i) s.index ∙ other s.home j.offset s.home_queued (joint_inside e v words j stands s) ∙ ap (λ (i : ℕ). slice_index words i) (sym s.index));
      apart = stands.apart;
      plain = λ n o h inside free. other n o h (omega (arith, inside, length_most e v words n stands h)) ∙ stands.plain n o h inside free;
    }
  where
    below : (k d : ℕ) → k < d + 1 → (k ≡ d → ⊥) → k < d
    below k d lt ne = grind (arith)

-- all words of the copy's block stand, and it is placed
pub placed_stands : (e : EngineData) (v : ImageData) (words next : List ℕ) (c : Copying) → Standing e v words → e.copy ≡ Some c → length next ≡ length words →
    ((k : ℕ) → k < length_at v c.block → slice_index next (c.slot * e.size + k) ≡ word_at v c.block k) →
    ((n o : ℕ) → (n ≡ c.slot → ⊥) → o < e.size → slice_index next (n * e.size + o) ≡ slice_index words (n * e.size + o)) →
    Standing (placed_data e c.block c.slot (length_at v c.block)) v next
placed_stands e v words next c stands is long copied other =
    let few : used e ≡ length e.queue + 1 = ap (λ (k : Option Copying). length e.queue + copies_begun k) is in
    let was : CopyStands e v words c = subst (λ (o : Option Copying). CopyIs o e v words) is stands.copy_is in
    let slot : c.slot < e.slots = omega (arith, was.slot_used, stands.shape.used_most) in
    let more : length (e.queue ++ c.slot ∷ []) ≡ length e.queue + 1 = length-append e.queue (c.slot ∷ []) in
    let apart : (n : ℕ) → Has e.queue n → n ≡ c.slot → ⊥ = λ n h s. was.slot_free (subst (λ (m : ℕ). Has e.queue m) s h) in
    let old_block : (n : ℕ) → Has e.queue n → slice_index (slice_set e.blocks c.slot c.block) n ≡ slice_index e.blocks n = λ n h. get_or-set_other e.blocks c.slot n c.block 0 (apart n h) in
    let old_long : (n : ℕ) → Has e.queue n → slice_index (slice_set e.lengths c.slot (length_at v c.block)) n ≡ slice_index e.lengths n = λ n h. get_or-set_other e.lengths c.slot n (length_at v c.block) 0 (apart n h) in
    let new_block : slice_index (slice_set e.blocks c.slot c.block) c.slot ≡ c.block = get_or-set_same e.blocks c.slot c.block 0 (omega (arith, slot, stands.shape.blocks_long)) in
    let new_long : slice_index (slice_set e.lengths c.slot (length_at v c.block)) c.slot ≡ length_at v c.block = get_or-set_same e.lengths c.slot (length_at v c.block) 0 (omega (arith, slot, stands.shape.lengths_long)) in record {
      shape = record {
        slots_some = stands.shape.slots_some;
        size_least = stands.shape.size_least;
        size_most = stands.shape.size_most;
        words_few = stands.shape.words_few;
        used_most = omega (arith, stands.shape.used_most, few, more);
        blocks_long = length-set e.blocks c.slot c.block ∙ stands.shape.blocks_long;
        lengths_long = length-set e.lengths c.slot (length_at v c.block) ∙ stands.shape.lengths_long;
        below = λ n h. elim (has_last e.queue c.slot n h) [ inl a ↦ stands.shape.below n a | inr s ↦ omega (arith, s, slot) ];
        homed = placed_homed e.slots e.queue e.blocks e.homes c.slot c.block stands.shape.homed was.slot_free (omega (arith, slot, stands.shape.blocks_long)) (omega (arith, was.known, stands.blocks_most)) was.absent;
      };
      image = stands.image;
      holds_block = stands.holds_block;
      blocks_most = omega (arith, stands.blocks_most, length-set e.homes c.block c.slot);
      fits = omega (arith, stands.fits, long);
      once = distinct_append e.queue c.slot stands.once was.slot_free;
      distinct = λ n m h h' same. elim (has_last e.queue c.slot n h) [
        | inl a ↦ elim (has_last e.queue c.slot m h') [
          | inl b ↦ stands.distinct n m a b (sym (old_block n a) ∙ same ∙ old_block m b)
          | inr s ↦ absurd (was.absent n a (sym (old_block n a) ∙ same ∙ ap (λ (x : ℕ). slice_index (slice_set e.blocks c.slot c.block) x) (sym s) ∙ new_block))
        ]
        | inr s ↦ elim (has_last e.queue c.slot m h') [
          | inl b ↦ absurd (was.absent m b (sym (old_block m b) ∙ sym same ∙ ap (λ (x : ℕ). slice_index (slice_set e.blocks c.slot c.block) x) (sym s) ∙ new_block))
          | inr t ↦ sym s ∙ t
        ]
      ];
      known = λ n h. elim (has_last e.queue c.slot n h) [
        | inl a ↦ omega (arith, old_block n a, stands.known n a)
        | inr s ↦ omega (arith, ap (λ (x : ℕ). slice_index (slice_set e.blocks c.slot c.block) x) (sym s) ∙ new_block, was.known)
      ];
      lengths_are = λ n h. elim (has_last e.queue c.slot n h) [
        | inl a ↦ old_long n a ∙ stands.lengths_are n a ∙ ap (λ (b : ℕ). length_at v b) (sym (old_block n a))
        | inr s ↦ ap (λ (x : ℕ). slice_index (slice_set e.lengths c.slot (length_at v c.block)) x) (sym s) ∙ new_long ∙ ap (λ (b : ℕ). length_at v b) (sym (ap (λ (x : ℕ). slice_index (slice_set e.blocks c.slot c.block) x) (sym s) ∙ new_block))
      ];
      low = λ n h. elim (has_last e.queue c.slot n h) [ inl a ↦ omega (arith, stands.low n a, few, more) | inr s ↦ omega (arith, s, was.slot_used, few, more) ];
      filled = λ n lt. elim (stands.filled n (omega (arith, lt, few, more))) [
        | inl h ↦ inl (has_left e.queue (c.slot ∷ []) n h)
        | inr h ↦ inl (subst (λ (m : ℕ). Has (e.queue ++ c.slot ∷ []) m) (subst (λ (o : Option Copying). HasCopy o n) is h) (has_here e.queue c.slot))
      ];
      copy_is = tt;
      linked = λ j h.
          let s = stands.linked j h in
          joint_moves e _ v words next j refl s (has_left e.queue (c.slot ∷ []) s.home s.home_queued) (has_left e.queue (c.slot ∷ []) s.target s.target_queued) (old_block s.home s.home_queued) (old_block s.target s.target_queued)
          (ap (λ (i : ℕ). slice_index next i) s.index ∙ other s.home j.offset (apart s.home s.home_queued) (joint_inside e v words j stands s) ∙ ap (λ (i : ℕ). slice_index words i) (sym s.index));
      apart = stands.apart;
      plain = λ n o h inside free. elim (has_last e.queue c.slot n h) [
        | inl a ↦ (
            let inside' : o < length_at v (slice_index e.blocks n) = subst (λ (b : ℕ). o < length_at v b) (old_block n a) inside in
            other n o (apart n a) (omega (arith, inside', length_most e v words n stands a)) ∙ stands.plain n o a inside' free ∙ ap (λ (b : ℕ). word_at v b o) (sym (old_block n a)))
        | inr s ↦ (
            let b_is : slice_index (slice_set e.blocks c.slot c.block) n ≡ c.block = ap (λ (x : ℕ). slice_index (slice_set e.blocks c.slot c.block) x) (sym s) ∙ new_block in
            ap (λ (m : ℕ). slice_index next (m * e.size + o)) (sym s) ∙ copied o (subst (λ (b : ℕ). o < length_at v b) b_is inside) ∙ ap (λ (b : ℕ). word_at v b o) (sym b_is))
      ];
    }

-- an exit that isn't linked becomes a link
pub linked_stands : (e : EngineData) (v : ImageData) (words : List ℕ) (j : Joint) (w home target offset : ℕ) → Standing e v words → NoJoint e j.at →
    Has e.queue home → slice_index e.blocks home ≡ j.block → j.at ≡ home * e.size + j.offset → IsExit v j.block j.offset →
    Has e.queue target → slice_index e.blocks target ≡ j.into → place_of v (word_at v j.block (j.offset + 1)) ≡ Some (j.into, offset) →
    IsJump j.at (target * e.size + offset) w → Standing (linked_data e j) v (slice_set words j.at w)
linked_stands e v words j w home target offset stands free h h_is at exit t t_is place jumps =
    let inside : j.offset < e.size = omega (arith, exit.inside, subst (λ (b : ℕ). length_at v b ≤ e.size) h_is (length_most e v words home stands h)) in
    let below : j.at < e.slots * e.size = omega (arith, at, slot_within e home stands.shape (stands.shape.below home h), inside) in record {
      shape = record { slots_some = stands.shape.slots_some; size_least = stands.shape.size_least; size_most = stands.shape.size_most; words_few = stands.shape.words_few; used_most = stands.shape.used_most; blocks_long = stands.shape.blocks_long; lengths_long = stands.shape.lengths_long; below = stands.shape.below; homed = stands.shape.homed };
      image = stands.image;
      holds_block = stands.holds_block;
      blocks_most = stands.blocks_most;
      fits = omega (arith, stands.fits, length-set words j.at w);
      once = stands.once;
      distinct = stands.distinct;
      known = stands.known;
      lengths_are = stands.lengths_are;
      low = stands.low;
      filled = stands.filled;
      copy_is = linked_copy e.copy e v words j w home stands h at inside stands.copy_is;
      linked = λ i hi. elim hi [
        | inl s ↦ subst (λ (x : Joint). JointStands (linked_data e j) v (slice_set words j.at w) x) s (record {
          home = home;
          home_queued = h;
          home_is = h_is;
          index = at;
          is_exit = exit;
          target = target;
          offset = offset;
          target_queued = t;
          target_is = t_is;
          place_is = place;
          jumps = subst (λ (x : ℕ). IsJump j.at (target * e.size + offset) x) (sym (get_or-set_same words j.at w 0 (omega (arith, below, stands.fits)))) jumps;
        })
        | inr old ↦ (
            let s = stands.linked i old in
            let ne : i.at ≡ j.at → ⊥ = λ (x : i.at ≡ j.at). free i old x in record {
              home = s.home;
              home_queued = s.home_queued;
              home_is = s.home_is;
              index = s.index;
              is_exit = s.is_exit;
              target = s.target;
              offset = s.offset;
              target_queued = s.target_queued;
              target_is = s.target_is;
              place_is = s.place_is;
              jumps = subst (λ (x : ℕ). IsJump i.at (s.target * e.size + s.offset) x) (sym (get_or-set_other words j.at i.at w 0 ne)) s.jumps;
            })
      ];
      apart = (λ i hi s. free i hi s, stands.apart);
      plain = λ n o hn lt none.
          get_or-set_other words j.at (n * e.size + o) w 0 (λ (x : n * e.size + o ≡ j.at). none j (inl refl) (sym x)) ∙ stands.plain n o hn lt (λ i hi x. none i (inr hi) x);
    }
  where
    linked_copy : (c : Option Copying) (e : EngineData) (v : ImageData) (words : List ℕ) (j : Joint) (w home : ℕ) → Standing e v words → Has e.queue home → j.at ≡ home * e.size + j.offset → j.offset < e.size → CopyIs c e v words → CopyIs c (linked_data e j) v (slice_set words j.at w)
    linked_copy None e v words j w home stands h at inside is = tt
    linked_copy (Some c) e v words j w home stands h at inside is = record {
      slot_used = is.slot_used;
      slot_free = is.slot_free;
      known = is.known;
      absent = is.absent;
      more = is.more;
      stands = λ i lt.
          get_or-set_other words j.at (c.slot * e.size + i) w 0 (λ (x : c.slot * e.size + i ≡ j.at).
          copy_apart e v words c home j.offset i stands is h inside (omega (arith, copy_short e v words c stands is, is.more, lt)) (x ∙ at))
          ∙ is.stands i lt;
    }

-- the counts say nothing of where blocks and links stand
pub recounted : (e : EngineData) (v : ImageData) (words : List ℕ) (cs : Counts) (w n : ℕ) → Standing e v words → Standing (record e { counts = cs; words = w; copies = n }) v words
recounted e v words cs w n stands = record {
  shape = record { slots_some = stands.shape.slots_some; size_least = stands.shape.size_least; size_most = stands.shape.size_most; words_few = stands.shape.words_few; used_most = stands.shape.used_most; blocks_long = stands.shape.blocks_long; lengths_long = stands.shape.lengths_long; below = stands.shape.below; homed = stands.shape.homed };
  image = stands.image;
  holds_block = stands.holds_block;
  blocks_most = stands.blocks_most;
  fits = stands.fits;
  once = stands.once;
  distinct = stands.distinct;
  known = stands.known;
  lengths_are = stands.lengths_are;
  low = stands.low;
  filled = stands.filled;
  copy_is = same_copy e.copy e v words cs w n stands.copy_is;
  linked = λ j h. let s = stands.linked j h in joint_moves e _ v words words j refl s s.home_queued s.target_queued refl refl refl;
  apart = stands.apart;
  plain = stands.plain;
}
  where
    same_copy : (c : Option Copying) (e : EngineData) (v : ImageData) (words : List ℕ) (cs : Counts) (w n : ℕ) → CopyIs c e v words → CopyIs c (record e { counts = cs; words = w; copies = n }) v words
    same_copy None e v words cs w n is = tt
    same_copy (Some c) e v words cs w n is = record { slot_used = is.slot_used; slot_free = is.slot_free; known = is.known; absent = is.absent; more = is.more; stands = is.stands }
