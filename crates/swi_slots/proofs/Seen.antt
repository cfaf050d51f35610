-- What the lists say of the ram.
use Rattle.std.proofs.Common.{◌≡◌, ℕ, ◌+◌, ◌*◌, ◌/◌, ◌%◌, ◌<◌, ◌↔◌, List, length, slice_index, arith, sym, ◌∙◌, ap, subst}
use Rattle.swi_image.specs.Format.{ImageData}
use Rattle.swi_rom.specs.Record.{Placement, Link, Has as InQueue}
use Rattle.swi_slots.specs.Keys.{Images, key_of, key_parts, owner_of, number_of}
use Rattle.swi_slots.specs.Slots.{Slots, InShape, queue_of, kept_by}
use Rattle.swi_slots.specs.Sound.{SlotsServe, SlotsSound, LinkStands}
use Rattle.swi_slots.specs.Queue.{has_slot, slot_has as placed_has}
use Rattle.swi_slots.specs.SlotLinks.{link_of, link_key, linked_word, word_linked, word_is, word_below}
use Rattle.swi_slots.specs.Coheres.{tidy_of, target_owner}
use Rattle.swi_links.specs.Chains.{ChainsData, Has, IsApart, list_of}
use Rattle.swi_slots.specs.Homes.{TableData}
use Rattle.swi_links.specs.Holders.{holder_of}
use Rattle.swi_links.specs.Lists.{holder_has, holder_is}
use Rattle.swi_slots.specs.Targets.{targets_of}
use Rattle.swi_slots.specs.Chained.{LinkInto}
use Rattle.swi_slots.proofs.Targets.{length_targets, target_at}

-- the table and the slots speak of the same words and slots
pub record Agrees (c : ChainsData) (s : Slots) : Type 0 where
  pub apart : IsApart c
  pub slots : length c.lists ≡ s.slots
  pub targets : targets_of c ≡ s.targets

words_are : (c : ChainsData) (s : Slots) → Agrees c s → InShape s → c.words ≡ s.slots * s.size
words_are c s agrees shape = sym (length_targets c.lists 0 c.words) ∙ ap (λ (xs : List ℕ). length xs) agrees.targets ∙ shape.targets_long

into : (c : ChainsData) (s : Slots) (vs : Images) (words : List ℕ) (n i : ℕ) → Agrees c s → SlotsServe s vs words → Has (list_of c n) i → LinkInto (kept_by s) (n * s.size) i
into c s vs words n i agrees sound h =
    let small : i < c.words = agrees.apart.within n i h in
    let below : i < s.slots * s.size = omega (arith, small, words_are c s agrees sound.shape) in
    let is : slice_index s.targets i ≡ n = ap (λ (xs : List ℕ). slice_index xs i) (sym agrees.targets) ∙ target_at c i small ∙ holder_is c n i agrees.apart h in
    let lt : n < s.slots = omega (arith, agrees.apart.slot n i h, agrees.slots) in
    let row : i / s.size < s.filled = sound.stands i below (omega (arith, is)) in
    let p = word_is s i sound.shape in
    let here : slice_index s.targets (i / s.size * s.size + i % s.size) ≡ n = ap (λ (x : ℕ). slice_index s.targets x) p.0 ∙ is in
    let link : LinkStands s vs words (i / s.size) (i % s.size) = sound.linked (i / s.size) (i % s.size) row p.1 (omega (arith, here)) in
    let owner = target_owner s vs words (i / s.size) (i % s.size) sound link in
    record {
      link = link_of s (i / s.size) (i % s.size);
      first = i / s.size * s.size;
      is_link = word_linked s (i / s.size) (i % s.size) sound.shape (omega (arith, row, sound.shape.filled_most)) p.1 (omega (arith, here));
      stood = placed_has s (i / s.size) sound.shape row;
      index = sym p.0;
      stands = subst (λ (q : ℕ). InQueue (queue_of s) (record { program = q; block = number_of (slice_index s.blocks (slice_index s.targets (i / s.size * s.size + i % s.size))); first = n * s.size })) owner
          (subst (λ (x : ℕ). InQueue (queue_of s) (spot_of s (slice_index s.targets (i / s.size * s.size + i % s.size)) x)) here
          (placed_has s (slice_index s.targets (i / s.size * s.size + i % s.size)) sound.shape link.target));
    }
  where
    spot_of : Slots → ℕ → ℕ → Placement
    spot_of s m x = record { program = owner_of (slice_index s.blocks m); block = number_of (slice_index s.blocks m); first = x * s.size }

out_of : (c : ChainsData) (s : Slots) (vs : Images) (words : List ℕ) (n i : ℕ) → Agrees c s → SlotsServe s vs words → LinkInto (kept_by s) (n * s.size) i → Has (list_of c n) i
out_of c s vs words n i agrees sound x =
    let w = linked_word s x.link (tidy_of s vs words sound) x.is_link in
    let k : LinkStands s vs words w.0 w.1 = sound.linked w.0 w.1 w.2 w.3 w.5 in
    let t : ℕ = slice_index s.targets (w.0 * s.size + w.1) in
    let key : slice_index s.blocks w.0 ≡ key_of x.link.program x.link.block = link_key s w.0 w.1 x.link w.4 in
    let p = has_slot s x.link.program x.link.block x.first sound.shape x.stood in
    let row : p.0 ≡ w.0 = sound.distinct p.0 w.0 p.1 w.2 (p.2 ∙ sym key) in
    let column : w.1 ≡ x.link.offset = ap (λ (l : Link). l.offset) w.4 in
    let owner : owner_of (slice_index s.blocks (slice_index s.targets (w.0 * s.size + w.1))) ≡ x.link.program = target_owner s vs words w.0 w.1 sound k ∙ ap (λ (l : Link). l.program) w.4 in
    let goal : number_of (slice_index s.blocks (slice_index s.targets (w.0 * s.size + w.1))) ≡ x.link.into = ap (λ (l : Link). l.into) w.4 in
    let q = has_slot s x.link.program x.link.into (n * s.size) sound.shape x.stands in
    let same : slice_index s.targets (w.0 * s.size + w.1) ≡ q.0 = sound.distinct _ q.0 k.target q.1
    (sym (key_parts (slice_index s.blocks (slice_index s.targets (w.0 * s.size + w.1)))) ∙ ap (λ (y : ℕ). key_of y (number_of (slice_index s.blocks (slice_index s.targets (w.0 * s.size + w.1))))) owner ∙ ap (λ (y : ℕ). key_of x.link.program y) goal ∙ sym q.2) in
    let slot : q.0 ≡ n = row_same q.0 n s.size (omega (arith, sound.shape.size_least)) q.3 in
    let at : i ≡ w.0 * s.size + w.1 = x.index ∙ ap (λ (f : ℕ). f + x.link.offset) (sym p.3 ∙ ap (λ (m : ℕ). m * s.size) row) ∙ ap (λ (o : ℕ). w.0 * s.size + o) (sym column) in
    let is : slice_index s.targets i ≡ n = ap (λ (j : ℕ). slice_index s.targets j) at ∙ same ∙ slot in
    let small : i < c.words = omega (arith, at, word_below s w.0 w.1 sound.shape (omega (arith, w.2, sound.shape.filled_most)) w.3, words_are c s agrees sound.shape) in
    let own : holder_of c.lists i ≡ n = sym (target_at c i small) ∙ ap (λ (xs : List ℕ). slice_index xs i) agrees.targets ∙ is in
    subst (λ (m : ℕ). Has (list_of c m) i) own (holder_has c.lists i (omega (arith, own, slot, q.1, sound.shape.filled_most, agrees.slots)))
  where
    row_same : (p n size : ℕ) → 0 < size → p * size ≡ n * size → p ≡ n
    row_same p n size pos e = grind arith

pub chained : (c : ChainsData) (s : Slots) (v : ImageData) (words : List ℕ) (n i : ℕ) → Agrees c s → SlotsSound s v words → Has (list_of c n) i ↔ LinkInto (kept_by s) (n * s.size) i
chained c s v words n i agrees sound = (into c s sound.0 words n i agrees sound.1.1, out_of c s sound.0 words n i agrees sound.1.1)

-- as the code meets it
pub chained_call : (t r : TableData) (s : Slots) (v : ImageData) (words : List ℕ) (n i : ℕ) → t ≡ r → IsApart t.chains → length r.chains.lists ≡ s.slots → targets_of r.chains ≡ s.targets → SlotsSound s v words →
    Has (list_of t.chains n) i ↔ LinkInto (kept_by s) (n * s.size) i
chained_call t r s v words n i e apart slots targets sound =
    let same : t.chains ≡ r.chains = ap (λ (x : TableData). x.chains) e in
    chained t.chains s v words n i (record { apart = apart; slots = ap (λ (x : ChainsData). length x.lists) same ∙ slots; targets = ap (λ (x : ChainsData). targets_of x) same ∙ targets }) sound
