-- A sound service's ram is coherent.
use Rattle.std.proofs.Common.{◌≡◌, ℕ, ◌+◌, ◌*◌, ◌<◌, ◌≤◌, ◌^◌, true, false, List, length, Some, Option, None, slice_index, nat_lt, arith, refl, sym, ◌∙◌, ap, subst}
use Rattle.std.proofs.lemmas.Bool.{ltb-false}
use Rattle.std.proofs.lemmas.Nat.{same_from_place, row_fits}
use Rattle.swi_image.specs.Format.{ImageData}
use Rattle.swi_image.specs.Place.{place_of, word_at, length_at}
use Rattle.swi_image.specs.Sound.{IsImage}
use Rattle.swi_image.specs.Laws.{place_inside}
use Rattle.swi_rom.specs.Record.{is_linked, Placed, IsJump}
use Rattle.swi_rom.specs.Coherent.{Coherent, IsExit, TargetAt}
use Rattle.swi_slots.specs.Keys.{Images, key_of, owner_of, number_of, key_owner, key_number, word_in, words_in, ExitOf, IsKnown, key_place, goes}
use Rattle.swi_slots.specs.Slots.{Slots, InShape, kept_by, span_of, setting_of}
use Rattle.swi_slots.specs.Sound.{SlotsServe, SlotsSound, LinkStands}
use Rattle.swi_slots.specs.SlotLinks.{Tidy, among_word, among_is}
use Rattle.swi_slots.specs.Order.{queue_distinct}
use Rattle.swi_slots.specs.Queue.{placed_slot, slot_placed}
use Rattle.swi_slots.specs.Inside.{known_short}
use Rattle.swi_rom.specs.Blocks.{known_few}

pub tidy_of : (s : Slots) (vs : Images) (words : List ℕ) → SlotsServe s vs words → Tidy s
tidy_of s vs words sound = record { shape = sound.shape; distinct = sound.distinct; stands = sound.stands }

pub length_most : (s : Slots) (vs : Images) (words : List ℕ) (n : ℕ) → SlotsServe s vs words → n < s.filled → words_in vs (slice_index s.blocks n) ≤ s.size
length_most s vs words n sound lt =
    omega (arith, known_short vs (slice_index s.blocks n) (sound.images (owner_of (slice_index s.blocks n))) (sound.known n lt), sound.size_most (owner_of (slice_index s.blocks n)))

pub slot_within : (s : Slots) (n : ℕ) → InShape s → n < s.filled → n * s.size + s.size ≤ s.slots * s.size
slot_within s n shape lt = row_fits n s.size s.slots s.size (omega (arith, shape.filled_most)) (omega arith)

-- what a key says where its block's number is small
pub key_word : (vs : Images) (p b o : ℕ) → b < 2 ^ 19 → word_in vs (key_of p b) o ≡ word_at (vs p) b o
key_word vs p b o small = ap (λ (x : ℕ). word_at (vs x) (number_of (key_of p b)) o) (key_owner p b small) ∙ ap (λ (x : ℕ). word_at (vs p) x o) (key_number p b small)

pub key_words : (vs : Images) (p b : ℕ) → b < 2 ^ 19 → words_in vs (key_of p b) ≡ length_at (vs p) b
key_words vs p b small = ap (λ (x : ℕ). length_at (vs x) (number_of (key_of p b))) (key_owner p b small) ∙ ap (λ (x : ℕ). length_at (vs p) x) (key_number p b small)

pub key_known : (vs : Images) (p b : ℕ) → b < 2 ^ 19 → IsKnown vs (key_of p b) → b < length (vs p).blocks
key_known vs p b small known =
    subst (λ (x : ℕ). x < length (vs p).blocks) (key_number p b small) (subst (λ (x : ℕ). number_of (key_of p b) < length (vs x).blocks) (key_owner p b small) known)

pub key_exit : (vs : Images) (p b o : ℕ) → b < 2 ^ 19 → ExitOf vs (key_of p b) o → IsExit (vs p) b o
key_exit vs p b o small exit =
    subst (λ (x : ℕ). IsExit (vs p) x o) (key_number p b small) (subst (λ (x : ℕ). IsExit (vs x) (number_of (key_of p b)) o) (key_owner p b small) exit)

pub exit_key : (vs : Images) (p b o : ℕ) → b < 2 ^ 19 → IsExit (vs p) b o → ExitOf vs (key_of p b) o
exit_key vs p b o small exit =
    subst (λ (x : ℕ). IsExit (vs x) (number_of (key_of p b)) o) (sym (key_owner p b small)) (subst (λ (x : ℕ). IsExit (vs p) x o) (sym (key_number p b small)) exit)

-- a place by its key
place_key : (p : ℕ) (at : Option (ℕ × ℕ)) (k q : ℕ) → key_place p at ≡ Some (k, q) → (b : ℕ) × (at ≡ Some (b, q)) × (k ≡ key_of p b)
place_key p None k q e = absurd (cc)
place_key p (Some w) k q e = let f = pair_same (key_of p w.0) w.1 k q e in (w.0, same_pair w.0 w.1 q f.1, sym f.0)
  where
    same_pair : (a b c : ℕ) → b ≡ c → (let x : Option (ℕ × ℕ) = Some (a, b) in let y : Option (ℕ × ℕ) = Some (a, c) in x ≡ y)
    same_pair a b c e = rw e refl

    first_in : Option (ℕ × ℕ) → ℕ
    first_in None = 0
    first_in (Some w) = w.0

    second_in : Option (ℕ × ℕ) → ℕ
    second_in None = 0
    second_in (Some w) = w.1

    pair_same : (a b c d : ℕ) → (let x : Option (ℕ × ℕ) = Some (a, b) in let y : Option (ℕ × ℕ) = Some (c, d) in x ≡ y) → (a ≡ c) × (b ≡ d)
    pair_same a b c d e = (ap first_in e, ap second_in e)

pub goes_place : (vs : Images) (k t to q : ℕ) → goes vs k t ≡ Some (to, q) → (b : ℕ) × (place_of (vs (owner_of k)) t ≡ Some (b, q)) × (to ≡ key_of (owner_of k) b)
goes_place vs k t to q e = place_key (owner_of k) (place_of (vs (owner_of k)) t) to q e

-- a place's block is small
pub place_small : (vs : Images) (p t b q : ℕ) → IsImage (vs p) → place_of (vs p) t ≡ Some (b, q) → b < 2 ^ 19
place_small vs p t b q image e = known_few (vs p) b image (place_inside (vs p) image t b q e).0

-- a link stays in its program
pub target_owner : (s : Slots) (vs : Images) (words : List ℕ) (m o : ℕ) → SlotsServe s vs words → LinkStands s vs words m o → owner_of (slice_index s.blocks (slice_index s.targets (m * s.size + o))) ≡ owner_of (slice_index s.blocks m)
target_owner s vs words m o sound link =
    let to = goes_place vs (slice_index s.blocks m) (word_in vs (slice_index s.blocks m) (o + 1)) (slice_index s.blocks (slice_index s.targets (m * s.size + o))) link.offset link.place_is in
    let small = place_small vs (owner_of (slice_index s.blocks m)) _ to.0 link.offset (sound.images (owner_of (slice_index s.blocks m))) to.1 in
    ap owner_of to.2 ∙ key_owner (owner_of (slice_index s.blocks m)) to.0 small

-- the link that a word of a placed block is, by its slot
pub placed_link : (s : Slots) (vs : Images) (words : List ℕ) (b o f : ℕ) → SlotsServe s vs words → Placed (kept_by s) b f → is_linked (kept_by s) b o ≡ true →
    (n : ℕ) × (n < s.filled) × (slice_index s.blocks n ≡ key_of s.turn b) × (n * s.size ≡ f) × (b < 2 ^ 19) × LinkStands s vs words n o
placed_link s vs words b o f sound h l =
    let p = placed_slot s b f sound.shape h in
    let w = among_word s s.turn b o (tidy_of s vs words sound) l in
    let same : w.0 ≡ p.0 = sound.distinct w.0 p.0 w.1 p.1 (w.3 ∙ sym p.2) in
    (p.0, p.1, p.2, p.3, p.4, subst (λ (m : ℕ). LinkStands s vs words m o) same (sound.linked w.0 o w.1 w.2 w.4))

linked_target : (s : Slots) (vs : Images) (words : List ℕ) (b o f : ℕ) → SlotsServe s vs words → Placed (kept_by s) b f → is_linked (kept_by s) b o ≡ true →
    (j : ℕ) × TargetAt (vs s.turn) (kept_by s) (word_at (vs s.turn) b (o + 1)) j × IsJump (f + o) j (slice_index words (f + o))
linked_target s vs words b o f sound h l =
    let w = placed_link s vs words b o f sound h l in
    let k = w.5 in
    let t : ℕ = slice_index s.targets (w.0 * s.size + o) in
    let owner : owner_of (slice_index s.blocks w.0) ≡ s.turn = ap owner_of w.2 ∙ key_owner s.turn b w.4 in
    let word : word_in vs (slice_index s.blocks w.0) (o + 1) ≡ word_at (vs s.turn) b (o + 1) = ap (λ (c : ℕ). word_in vs c (o + 1)) w.2 ∙ key_word vs s.turn b (o + 1) w.4 in
    let to = goes_place vs (slice_index s.blocks w.0) (word_in vs (slice_index s.blocks w.0) (o + 1)) (slice_index s.blocks t) k.offset k.place_is in
    let small : to.0 < 2 ^ 19 = place_small vs (owner_of (slice_index s.blocks w.0)) _ to.0 k.offset (sound.images (owner_of (slice_index s.blocks w.0))) to.1 in (
      t * s.size + k.offset,
      record {
        block = to.0;
        offset = k.offset;
        first = t * s.size;
        place_is = subst (λ (x : ℕ). place_of (vs s.turn) x ≡ Some (to.0, k.offset)) word (subst (λ (x : ℕ). place_of (vs x) (word_in vs (slice_index s.blocks w.0) (o + 1)) ≡ Some (to.0, k.offset)) owner to.1);
        is_placed = slot_placed s t to.0 sound.shape k.target small (to.2 ∙ ap (λ (x : ℕ). key_of x to.0) owner);
        index = refl;
      },
      subst (λ (g : ℕ). IsJump (g + o) (t * s.size + k.offset) (slice_index words (g + o))) w.3 k.jumps,
    )

-- the words of a placed block are at most those of a slot
pub placed_most : (s : Slots) (vs : Images) (words : List ℕ) (n b : ℕ) → SlotsServe s vs words → n < s.filled → slice_index s.blocks n ≡ key_of s.turn b → b < 2 ^ 19 → length_at (vs s.turn) b ≤ s.size
placed_most s vs words n b sound lt e small =
    subst (λ (x : ℕ). x ≤ s.size) (ap (λ (k : ℕ). words_in vs k) e ∙ key_words vs s.turn b small) (length_most s vs words n sound lt)

serve_coheres : (s : Slots) (vs : Images) (words : List ℕ) → SlotsServe s vs words → Coherent (vs s.turn) (kept_by s) (span_of (setting_of s)) words
serve_coheres s vs words sound = record {
  fits = sound.fits;
  known = λ b f h. let p = placed_slot s b f sound.shape h in key_known vs s.turn b p.4 (subst (λ (c : ℕ). IsKnown vs c) p.2 (sound.known p.0 p.1));
  distinct = λ j k e f at at' own same. queue_distinct s sound.shape sound.distinct j k e f at at' own same;
  once = λ b f g h h'.
      let p = placed_slot s b f sound.shape h in
      let q = placed_slot s b g sound.shape h' in
      sym p.3 ∙ ap (λ (n : ℕ). n * s.size) (sound.distinct p.0 q.0 p.1 q.1 (p.2 ∙ sym q.2)) ∙ q.3;
  inside = λ b f h.
      let p = placed_slot s b f sound.shape h in
      let le : length_at (vs s.turn) b ≤ s.size = placed_most s vs words p.0 b sound p.1 p.2 p.4 in
      omega (arith, slot_within s p.0 sound.shape p.1, p.3);
  apart = λ b f o c g q h h' lt lt' e.
      let m = placed_slot s b f sound.shape h in
      let n = placed_slot s c g sound.shape h' in
      let le : length_at (vs s.turn) b ≤ s.size = placed_most s vs words m.0 b sound m.1 m.2 m.4 in
      let le' : length_at (vs s.turn) c ≤ s.size = placed_most s vs words n.0 c sound n.1 n.2 n.4 in
      let same = same_from_place m.0 o n.0 q s.size (omega arith) (omega arith) (ap (λ (x : ℕ). x + o) m.3 ∙ e ∙ ap (λ (x : ℕ). x + q) (sym n.3)) in
      let key : key_of s.turn b ≡ key_of s.turn c = sym m.2 ∙ ap (λ (x : ℕ). slice_index s.blocks x) same.0 ∙ n.2 in
      (sym (key_number s.turn b m.4) ∙ ap number_of key ∙ key_number s.turn c n.4, same.1);
  exits = λ b o l.
      let w = among_word s s.turn b o (tidy_of s vs words sound) l in
      let small : b < 2 ^ 19 = w.5 in (
        (w.0 * s.size, slot_placed s w.0 b sound.shape w.1 small w.3),
        key_exit vs s.turn b o small (subst (λ (c : ℕ). ExitOf vs c o) w.3 (sound.linked w.0 o w.1 w.2 w.4).is_exit),
      );
  linked = λ b f o h l. linked_target s vs words b o f sound h l;
  plain = λ b f o h lt l.
      let p = placed_slot s b f sound.shape h in
      let le : length_at (vs s.turn) b ≤ s.size = placed_most s vs words p.0 b sound p.1 p.2 p.4 in
      let no : nat_lt (slice_index s.targets (p.0 * s.size + o)) s.slots ≡ false =
      sym (among_is s p.0 s.turn b o (tidy_of s vs words sound) p.1 (omega arith) p.4 p.2) ∙ l in
      let e : slice_index words (p.0 * s.size + o) ≡ word_in vs (slice_index s.blocks p.0) o =
      sound.plain p.0 o p.1 (subst (λ (c : ℕ). o < c) (sym (ap (λ (k : ℕ). words_in vs k) p.2 ∙ key_words vs s.turn b p.4)) lt) (ltb-false _ _ no) in
      ap (λ (g : ℕ). slice_index words (g + o)) (sym p.3) ∙ e ∙ ap (λ (c : ℕ). word_in vs c o) p.2 ∙ key_word vs s.turn b o p.4;
}

pub coheres : (s : Slots) (v : ImageData) (words : List ℕ) → SlotsSound s v words → Coherent v (kept_by s) (span_of (setting_of s)) words
coheres s v words sound = subst (λ (w : ImageData). Coherent w (kept_by s) (span_of (setting_of s)) words) sound.1.0 (serve_coheres s sound.0 words sound.1.1)

pub small_span : (s : Slots) (v : ImageData) (words : List ℕ) → SlotsSound s v words → span_of (setting_of s) ≤ 2 ^ 21
small_span s v words sound = omega (arith, sound.1.1.shape.words_few)

pub image_is : (s : Slots) (v : ImageData) (words : List ℕ) → SlotsSound s v words → IsImage v
image_is s v words sound = subst (λ (w : ImageData). IsImage w) sound.1.0 (sound.1.1.images s.turn)
