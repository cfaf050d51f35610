-- A miss is what the policy says.
use Rattle.std.proofs.Common.{◌≡◌, ℕ, ◌+◌, ◌-◌, ◌*◌, ◌%◌, ◌^◌, ◌<◌, ◌≤◌, min, true, false, List, [], ◌∷◌, ◌++◌, filter, length, slice_index, slice_set, nat_lt, arith, refl, sym, ◌∙◌, ap, subst, inl, inr}
use Rattle.std.proofs.lemmas.Bool.{cases_lt, lt-ltb, le-ltb}
use Rattle.swi_image.specs.Place.{word_at, length_at}
use Rattle.swi_outside.specs.CacheRam.{RamState}
use Rattle.swi_rom.specs.Record.{Record, Placement, Link, writes}
use Rattle.swi_rom.specs.Policy.{is_kept, is_undone, is_placed, evicted}
use Rattle.swi_slots.specs.Fifo.{appended, arrived}
use Rattle.swi_rom.specs.Served.{WordsMove}
use Rattle.swi_slots.specs.Keys.{Images, key_of, key_owner, key_number, owner_of, number_of, word_in, words_in, IsKnown}
use Rattle.swi_slots.specs.Slots.{Slots, InShape, links_of, queue_of, kept_by, setting_of}
use Rattle.swi_slots.specs.Sound.{SlotsServe}
use Rattle.swi_rom.specs.Writing.{Wrote, Copied}
use Rattle.swi_slots.specs.Steps.{Filled, IsAbsent, counted_slots, settled, leading_in}
use Rattle.swi_slots.specs.Arrived.{Arrived}
use Rattle.swi_rom.specs.declared.rom.Counts.{Counts}
use Rattle.swi_rom.specs.Rams.{wrote_more, wrote_wider}
use Rattle.swi_rom.proofs.Moving.{moves_from}
use Rattle.swi_slots.proofs.Filling.{slot_fits}
use Rattle.swi_slots.specs.Queue.{spot, length_queue, queue_free, queue_full}
use Rattle.swi_slots.proofs.Missing.{Roomy, roomy_free, roomy_full, CountsMove, filled_slots, next_filled, here_block, moved_sound}
use Rattle.swi_slots.proofs.MissLinks.{entry, links_full, links_free, undone_count}
use Rattle.swi_rom.specs.Collected.{undone_apart}
use Rattle.swi_slots.proofs.Arriving.{absent_not_placed, counted_is, counted_sound, counted_few, same_links, miss_words}
use Rattle.swi_slots.specs.Inside.{known_short}
use Rattle.swi_rom.specs.Blocks.{known_few}
use Rattle.swi_slots.specs.Coheres.{key_word, key_words}

-- what a miss comes to, the service having been counted
pub record Missed (vs : Images) (s : Slots) (b : ℕ) (t : Slots) (before after : RamState) : Type 0 where
  pub moves : kept_by t ≡ arrived (setting_of s) (vs s.turn) (kept_by s) b
  pub sound : SlotsServe t vs after.words
  pub turn_stays : t.turn ≡ s.turn
  pub slots_stay : t.slots ≡ s.slots
  pub size_stays : t.size ≡ s.size
  pub programs_stay : t.programs ≡ s.programs
  pub filled : s.next < t.filled
  pub blocks_are : t.blocks ≡ slice_set s.blocks s.next (key_of s.turn b)
  pub filled_is : t.filled ≡ min (s.filled + 1) s.slots
  pub grows : s.filled ≤ t.filled
  pub wrote : Wrote (s.slots * s.size) (writes (kept_by t) - writes (kept_by s)) before after
  pub words : WordsMove (vs s.turn) (kept_by s) (kept_by t) before after

kept_is : (s : Slots) (q : List Placement) (ls : List Link) (c : Counts) → queue_of s ≡ q → links_of s ≡ ls → s.counts ≡ c →
    let r : Record = record { turn = s.turn; placed = q; links = ls; counts = c; more = [] } in kept_by s ≡ r
kept_is s q ls c e f g = rw (e, f, g) refl

pub next_first : (s : Slots) → InShape s → s.next * s.size ≡ s.counts.misses % s.slots * s.size
next_first s shape = ap (λ (m : ℕ). m * s.size) shape.next_is

-- where the block of a key stands
spot_is : (s : Slots) (b n : ℕ) → b < 2 ^ 19 → let e : Placement = record { program = s.turn; block = b; first = n * s.size } in spot s.size n (key_of s.turn b) ≡ e
spot_is s b n small = rw (key_owner s.turn b small, key_number s.turn b small) refl

free_moves : (s : Slots) (vs : Images) (b : ℕ) (before : RamState) → SlotsServe s vs before.words → IsAbsent s (key_of s.turn b) → b < 2 ^ 19 → s.filled < s.slots →
    kept_by (settled s (key_of s.turn b) (length_at (vs s.turn) b)) ≡ arrived (setting_of s) (vs s.turn) (kept_by s) b
unfolding arrived appended
free_moves s vs b before sound absent small free =
    let key : ℕ = key_of s.turn b in
    let n : ℕ = length_at (vs s.turn) b in
    let move : CountsMove s s.counts 0 = record { services = refl; misses = refl; evictions = omega (arith, sound.evictions_few); links = refl; unlinks = omega arith; copied = refl } in
    let placed : is_placed (kept_by s) b ≡ false = absent_not_placed s b sound.shape absent in
    let room : nat_lt (length (queue_of s)) s.slots ≡ true = lt-ltb _ _ (omega (arith, length_queue s sound.shape)) in
    rw (placed, room)
    (kept_is (settled s key n) (queue_of s ++ spot s.size s.next key ∷ []) (links_of s) _ (queue_free s key n sound.shape free)
    (links_free s s.targets s.counts vs key n 0 before before sound (roomy_free s vs before sound free) move absent free) refl
    ∙ ap (λ (e : Placement). record (kept_by s) {
      placed = queue_of s ++ e ∷ [];
      counts = record s.counts { misses = s.counts.misses + 1; copied = s.counts.copied + length_at (vs s.turn) b };
    }) (spot_is s b s.next small)
    ∙ ap (λ (f : ℕ). record (kept_by s) {
      placed = queue_of s ++ record { program = s.turn; block = b; first = f } ∷ [];
      counts = record s.counts { misses = s.counts.misses + 1; copied = s.counts.copied + length_at (vs s.turn) b };
    }) (next_first s sound.shape))

evicted_first : (r : Record) (q es : List Placement) (e : Placement) → q ≡ e ∷ es → evicted r q ≡ record r {
  placed = es;
  links = filter (is_kept e) r.links;
  counts = record r.counts { evictions = r.counts.evictions + 1; unlinks = r.counts.unlinks + length (filter (is_undone e) r.links) };
}
unfolding evicted
evicted_first r q es e is = rw is refl

same_full : (s : Slots) (targets : List ℕ) (counts : Counts) (b n : ℕ) → queue_of (filled_slots s targets counts b n) ≡ queue_of (settled s b n)
unfolding queue_of
same_full s targets counts b n = refl

abbrev pub full_counts : Slots → ℕ → Counts
full_counts s k = record s.counts { evictions = s.counts.evictions + 1; unlinks = s.counts.unlinks + k }

full_moves : (s : Slots) (targets : List ℕ) (vs : Images) (b k : ℕ) (before between : RamState) → SlotsServe s vs before.words → IsAbsent s (key_of s.turn b) → b < 2 ^ 19 → s.slots ≤ s.filled →
    Roomy s targets k before between → k ≡ length (filter (is_undone (entry s s.next)) (links_of s)) → CountsMove s (full_counts s k) k →
    kept_by (filled_slots s targets (full_counts s k) (key_of s.turn b) (length_at (vs s.turn) b)) ≡ arrived (setting_of s) (vs s.turn) (kept_by s) b
unfolding arrived appended
full_moves s targets vs b k before between sound absent small full roomy number move =
    let key : ℕ = key_of s.turn b in
    let n : ℕ = length_at (vs s.turn) b in
    let placed : is_placed (kept_by s) b ≡ false = absent_not_placed s b sound.shape absent in
    let room : nat_lt (length (queue_of s)) s.slots ≡ false = le-ltb _ _ (omega (arith, length_queue s sound.shape)) in
    let old = queue_full s key n sound.shape full in
    rw (placed, room, evicted_first (kept_by s) (queue_of s) old.0 (entry s s.next) old.1)
    (kept_is (filled_slots s targets (full_counts s k) key n) (old.0 ++ spot s.size s.next key ∷ []) (filter (is_kept (entry s s.next)) (links_of s)) _ (same_full s targets (full_counts s k) key n ∙ old.2)
    (links_full s targets (full_counts s k) vs key n k before between sound roomy move absent full) refl
    ∙ ap (λ (e : Placement). record (kept_by s) {
      placed = old.0 ++ e ∷ [];
      links = filter (is_kept (entry s s.next)) (links_of s);
      counts = record s.counts { misses = s.counts.misses + 1; copied = s.counts.copied + length_at (vs s.turn) b; evictions = s.counts.evictions + 1; unlinks = s.counts.unlinks + k };
    }) (spot_is s b s.next small)
    ∙ ap (λ (f : ℕ). record (kept_by s) {
      placed = old.0 ++ record { program = s.turn; block = b; first = f } ∷ [];
      links = filter (is_kept (entry s s.next)) (links_of s);
      counts = record s.counts { misses = s.counts.misses + 1; copied = s.counts.copied + length_at (vs s.turn) b; evictions = s.counts.evictions + 1; unlinks = s.counts.unlinks + k };
    }) (next_first s sound.shape)
    ∙ ap (λ (u : ℕ). record (kept_by s) {
      placed = old.0 ++ record { program = s.turn; block = b; first = s.counts.misses % s.slots * s.size } ∷ [];
      links = filter (is_kept (entry s s.next)) (links_of s);
      counts = record s.counts { misses = s.counts.misses + 1; copied = s.counts.copied + length_at (vs s.turn) b; evictions = s.counts.evictions + 1; unlinks = s.counts.unlinks + u };
    }) number)

copy_wrote : (s : Slots) (word : ℕ → ℕ) (n k : ℕ) (before between after : RamState) → InShape s → n ≤ s.size → Wrote (s.slots * s.size) k before between → Copied word (s.next * s.size) n between after →
    Wrote (s.slots * s.size) (k + n) before after
copy_wrote s word n k before between after shape le w copied =
    wrote_more (s.slots * s.size) (s.slots * s.size) k n before between after w (wrote_wider (s.next * s.size + n) (s.slots * s.size) n between after copied.wrote (slot_fits s n shape le)) (omega arith)

-- the words of a block by its key
abbrev pub key_words_of : Images → Slots → ℕ → ℕ → ℕ
key_words_of vs s b i = word_in vs (key_of s.turn b) i

copied_as : (f g : ℕ → ℕ) (first n : ℕ) (a b : RamState) → ((i : ℕ) → f i ≡ g i) → Copied f first n a b → Copied g first n a b
copied_as f g first n a b same c = record { wrote = c.wrote; copied = λ k lt. c.copied k lt ∙ same k; below = c.below }

-- what is known of a block of the program in turn
record Own (vs : Images) (s : Slots) (b : ℕ) : Type 0 where
  small : b < 2 ^ 19
  known : IsKnown vs (key_of s.turn b)
  long : length_at (vs s.turn) b ≡ words_in vs (key_of s.turn b)
  short : length_at (vs s.turn) b ≤ s.size

own_block : (vs : Images) (s : Slots) (b : ℕ) (words : List ℕ) → SlotsServe s vs words → b < length (vs s.turn).blocks → Own vs s b
own_block vs s b words sound lt =
    let small : b < 2 ^ 19 = known_few (vs s.turn) b (sound.images s.turn) lt in
    let known : IsKnown vs (key_of s.turn b) = subst (λ (p : ℕ). number_of (key_of s.turn b) < length (vs p).blocks) (sym (key_owner s.turn b small)) (subst (λ (x : ℕ). x < length (vs s.turn).blocks) (sym (key_number s.turn b small)) lt) in
    let long : length_at (vs s.turn) b ≡ words_in vs (key_of s.turn b) = sym (key_words vs s.turn b small) in
    record {
      small = small;
      known = known;
      long = long;
      short = omega (arith, long, known_short vs (key_of s.turn b) (sound.images (owner_of (key_of s.turn b))) known, sound.size_most (owner_of (key_of s.turn b)));
    }

missed_free : (vs : Images) (s : Slots) (b : ℕ) (before after : RamState) → SlotsServe s vs before.words → s.counts.misses ≤ s.counts.services → IsAbsent s (key_of s.turn b) → b < length (vs s.turn).blocks → s.filled < s.slots →
    Copied (key_words_of vs s b) (s.next * s.size) (length_at (vs s.turn) b) before after → Missed vs s b (settled s (key_of s.turn b) (length_at (vs s.turn) b)) before after
missed_free vs s b before after sound few absent known free copied =
    let key : ℕ = key_of s.turn b in
    let n : ℕ = length_at (vs s.turn) b in
    let own = own_block vs s b before.words sound known in
    let move : CountsMove s s.counts 0 = record { services = refl; misses = refl; evictions = omega (arith, sound.evictions_few); links = refl; unlinks = omega arith; copied = refl } in
    let roomy : Roomy s s.targets 0 before before = roomy_free s vs before sound free in
    let links = links_free s s.targets s.counts vs key n 0 before before sound roomy move absent free in
    record {
      moves = free_moves s vs b before sound absent own.small free;
      sound = moved_sound s s.targets s.counts vs key n 0 before before after sound few roomy move absent own.known own.long copied (omega (arith, ap length links, sound.unlinks_few));
      turn_stays = refl;
      slots_stay = refl;
      size_stays = refl;
      programs_stay = refl;
      filled = next_filled s sound.shape;
      blocks_are = refl;
      filled_is = refl;
      grows = omega (arith, sound.shape.filled_most);
      wrote = subst (λ (k : ℕ). Wrote (s.slots * s.size) k before after) (omega arith) (copy_wrote s (key_words_of vs s b) n 0 before before after sound.shape own.short roomy.wrote copied);
      words = miss_words s s.targets s.counts vs b n 0 before before after sound roomy move absent own.small refl own.short copied;
    }

missed_full : (vs : Images) (s : Slots) (targets : List ℕ) (b k : ℕ) (before between after : RamState) → SlotsServe s vs before.words → s.counts.misses ≤ s.counts.services → IsAbsent s (key_of s.turn b) → b < length (vs s.turn).blocks → s.slots ≤ s.filled →
    Roomy s targets k before between → k ≡ length (filter (is_undone (entry s s.next)) (links_of s)) →
    Copied (key_words_of vs s b) (s.next * s.size) (length_at (vs s.turn) b) between after → Missed vs s b (filled_slots s targets (full_counts s k) (key_of s.turn b) (length_at (vs s.turn) b)) before after
missed_full vs s targets b k before between after sound few absent known full roomy number copied =
    let key : ℕ = key_of s.turn b in
    let n : ℕ = length_at (vs s.turn) b in
    let own = own_block vs s b before.words sound known in
    let more : s.counts.evictions + 1 ≤ s.counts.misses + 1 = omega (arith, sound.evictions_few) in
    let move : CountsMove s (full_counts s k) k = record { services = refl; misses = refl; evictions = more; links = refl; unlinks = refl; copied = refl } in
    let links = links_full s targets (full_counts s k) vs key n k before between sound roomy move absent full in
    record {
      moves = full_moves s targets vs b k before between sound absent own.small full roomy number move;
      sound = moved_sound s targets (full_counts s k) vs key n k before between after sound few roomy move absent own.known own.long copied
          (omega (arith, ap length links, sound.unlinks_few, number, undone_apart (entry s s.next) (links_of s)));
      turn_stays = refl;
      slots_stay = refl;
      size_stays = refl;
      programs_stay = refl;
      filled = next_filled s sound.shape;
      blocks_are = refl;
      filled_is = refl;
      grows = omega (arith, sound.shape.filled_most);
      wrote = subst (λ (m : ℕ). Wrote (s.slots * s.size) m before after) (omega arith) (copy_wrote s (key_words_of vs s b) n k before between after sound.shape own.short roomy.wrote copied);
      words = miss_words s targets (full_counts s k) vs b n k before between after sound roomy move absent own.small refl own.short copied;
    }

pub missed : (vs : Images) (s t : Slots) (b : ℕ) (before after : RamState) → SlotsServe s vs before.words → s.counts.misses ≤ s.counts.services → IsAbsent s (key_of s.turn b) → b < length (vs s.turn).blocks →
    Filled (vs s.turn) s b t before after → Missed vs s b t before after
missed vs s t b before after sound few absent known f =
    let own = own_block vs s b before.words sound known in
    let word : ℕ → ℕ = λ (i : ℕ). word_at (vs s.turn) b i in
    let key : ℕ = key_of s.turn b in
    let n : ℕ = length_at (vs s.turn) b in
    let same_words : (i : ℕ) → word i ≡ key_words_of vs s b i = λ i. sym (key_word vs s.turn b i own.small) in
    elim (cases_lt s.filled s.slots) [
      | inl free ↦ (
          let same = f.made_room.free free in
          subst (λ (x : Slots). Missed vs s b x before after) (sym (f.settles ∙ ap (λ (x : Slots). settled x key n) same.0))
          (missed_free vs s b before after sound few absent known free
          (copied_as word (key_words_of vs s b) (s.next * s.size) n before after same_words
          (subst (λ (x : Slots). Copied word (x.next * x.size) n before after) same.0
          (subst (λ (x : RamState). Copied word (f.room.next * f.room.size) n x after) same.1 f.copied)))))
      | inr full ↦ (
          let w = f.made_room.full full in
          let roomy = roomy_full s f.room.targets before f.between w.0 in
          subst (λ (x : Slots). Missed vs s b x before after) (sym (f.settles ∙ ap (λ (x : Slots). settled x key n) w.1))
          (missed_full vs s f.room.targets b (leading_in s.size s.next s.targets (s.slots * s.size)) before f.between after sound few absent known full roomy (undone_count s vs before.words sound full)
          (copied_as word (key_words_of vs s b) (s.next * s.size) n f.between after same_words
          (subst (λ (x : Slots). Copied word (x.next * x.size) n f.between after) w.1 f.copied))))
    ]

counted_queue : (s : Slots) → queue_of (counted_slots s) ≡ queue_of s
unfolding queue_of
counted_queue s = refl

-- the block didn't stand
pub miss_arrived : (vs : Images) (s t : Slots) (b : ℕ) (before after : RamState) → SlotsServe s vs before.words → IsAbsent s (key_of s.turn b) → b < length (vs s.turn).blocks →
    Filled (vs s.turn) (counted_slots s) b t before after → Arrived vs s b s.next t before after
miss_arrived vs s t b before after sound absent known f =
    let m = missed vs (counted_slots s) t b before after (counted_sound s vs before.words sound) (counted_few s vs before.words sound) absent known f in
    record {
      moves = m.moves ∙ ap (λ (r : Record). arrived (setting_of s) (vs s.turn) r b) (counted_is s sound.shape);
      sound = m.sound;
      small = (own_block vs s b before.words sound known).small;
      turn_stays = m.turn_stays;
      slots_stay = m.slots_stay;
      size_stays = m.size_stays;
      programs_stay = m.programs_stay;
      filled = m.filled;
      stands = ap (λ (bs : List ℕ). slice_index bs s.next) m.blocks_are ∙ here_block s (key_of s.turn b) sound.shape;
      blocks_move = inr (m.blocks_are, m.filled_is, absent);
      grows = m.grows;
      wrote = m.wrote;
      words = moves_from (vs s.turn) (kept_by (counted_slots s)) (kept_by s) (kept_by t) before after (counted_queue s) (same_links s (counted_slots s).counts) refl m.words;
    }
