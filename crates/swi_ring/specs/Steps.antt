-- What the parts of a call do to the ring and to the ram.
use Rattle.std.specs.Prelude.{◌≡◌, ◌⊎◌, ℕ, suc, zero, ◌+◌, ◌-◌, ◌<◌, ◌≤◌, ◌&&◌, Bool, true, false, List, [], ◌∷◌, ◌++◌, length, replicate, slice_index, slice_set, nat_lt, if◌then◌else◌}
use Rattle.swi_image.specs.Format.{ImageData}
use Rattle.swi_image.specs.Place.{word_at, length_at}
use Rattle.swi_outside.specs.CacheRam.{RamState}
use Rattle.swi_rom.specs.Record.{ebreak, IsJump, reaches, has_link, writes, Link}
use Rattle.swi_rom.specs.Record.{Has as HasPlacement}
use Rattle.swi_rom.specs.Served.{WordsMove}
use Rattle.swi_rom.specs.Writing.{Wrote, Copied}
use Rattle.swi_rom.specs.Policy.{more_service}
use Rattle.swi_links.specs.Chains.{Has, list_of}
use Rattle.swi_links.specs.Undone.{comes_in, coming_in, is_dropped}
use Rattle.swi_ring.specs.Fifo.{cleared, arrived, first_for}
use Rattle.swi_rom.specs.Policy.{counted}
use Rattle.swi_ring.specs.Ring.{Ring, first_at, target_at, links_of, kept_by, setting_of, queue_of}
use Rattle.swi_ring.specs.Sound.{RingSound}

-- a ring in which nothing stands
abbrev pub empty_ring : ℕ → ℕ → Ring
empty_ring words blocks = record {
  words = words;
  next = 0;
  queue = [];
  firsts = replicate blocks words;
  lengths = replicate blocks 0;
  owners = replicate words 0;
  chains = record { words = words; lists = replicate blocks [] };
  counts = record { services = 0; misses = 0; evictions = 0; links = 0; unlinks = 0; copied = 0 };
}

-- n words from the first on were copied for the block last
abbrev pub marked : List ℕ → ℕ → ℕ → ℕ → List ℕ
marked owners first zero b = owners
marked owners first (suc n) b = slice_set (marked owners first n b) (first + n) b

-- the oldest block has left, with the links from it and to it
pub record Left (b : ℕ) (s t : Ring) (before after : RamState) : Type 0 where
  pub oldest : s.queue ≡ b ∷ t.queue
  pub moved : t ≡ record s {
    queue = t.queue;
    firsts = slice_set s.firsts b s.words;
    chains = t.chains;
    counts = record s.counts {
      evictions = s.counts.evictions + 1;
      unlinks = s.counts.unlinks + coming_in b (first_at s b) (slice_index s.lengths b) s.chains.lists s.words;
    };
  }
  pub words_stay : t.chains.words ≡ s.chains.words
  pub lists_stay : length t.chains.lists ≡ length s.chains.lists
  pub dropped : (i : ℕ) → i < s.words → target_at t i ≡ (if is_dropped b (first_at s b) (slice_index s.lengths b) s.chains.lists i then length s.firsts else target_at s i)
  pub undone : (i : ℕ) → i < s.words → slice_index after.words i ≡ (if comes_in b (first_at s b) (slice_index s.lengths b) s.chains.lists i then ebreak else slice_index before.words i)
  pub wrote : Wrote s.words (coming_in b (first_at s b) (slice_index s.lengths b) s.chains.lists s.words) before after

-- the word at an index was a link, and is none now
pub record Undid (s t : Ring) (i : ℕ) : Type 0 where
  pub link : Link
  pub first : ℕ
  pub stood : HasPlacement (queue_of s.firsts s.queue) (record { program = link.program; block = link.block; first = first })
  pub was : has_link (links_of s) link ≡ true
  pub gone : has_link (links_of t) link ≡ false
  pub index : i ≡ first + link.offset

-- some of the oldest blocks have left
pub record Receded (v : ImageData) (s t : Ring) (before after : RamState) : Type 0 where
  pub sound : RingSound t v after.words
  pub words_stay : t.words ≡ s.words
  pub next_stays : t.next ≡ s.next
  pub services_stay : t.counts.services ≡ s.counts.services
  pub misses_stay : t.counts.misses ≡ s.counts.misses
  pub links_stay : t.counts.links ≡ s.counts.links
  pub copied_stay : t.counts.copied ≡ s.counts.copied
  pub grows : s.counts.unlinks ≤ t.counts.unlinks
  pub blocks_stay : length t.firsts ≡ length s.firsts
  pub fewer : (b : ℕ) → Has t.queue b → Has s.queue b × (first_at t b ≡ first_at s b)
  pub links_left : (k : Link) → has_link (links_of t) k ≡ true → has_link (links_of s) k ≡ true
  pub wrote : Wrote s.words (t.counts.unlinks - s.counts.unlinks) before after
  -- a word that changed was a link and is an exit again
  pub changes : (i : ℕ) → (slice_index after.words i ≡ slice_index before.words i) ⊎ (Undid s t i × (slice_index after.words i ≡ ebreak))
  -- and each link that was removed is, where its own block stays
  pub restored : (k : Link) (f : ℕ) → has_link (links_of s) k ≡ true → has_link (links_of t) k ≡ false →
      HasPlacement (queue_of s.firsts s.queue) (record { program = k.program; block = k.block; first = f }) →
      HasPlacement (queue_of t.firsts t.queue) (record { program = k.program; block = k.block; first = f }) → slice_index after.words (f + k.offset) ≡ ebreak

-- so many of them that no placed block's range meets n words from the first on
pub record MadeRoom (v : ImageData) (first n : ℕ) (s t : Ring) (before after : RamState) : Type 0 where
  pub receded : Receded v s t before after
  pub clears : kept_by t ≡ cleared v first n (queue_of s.firsts s.queue) (kept_by s)
  pub free : (b : ℕ) → Has t.queue b → (first_at t b + length_at v b ≤ first) ⊎ (first + n ≤ first_at t b)

-- the block with a length has taken the words from the first on
abbrev pub settled : Ring → ℕ → ℕ → ℕ → Ring
settled s b first n = record s {
  next = first + n;
  queue = s.queue ++ b ∷ [];
  firsts = slice_set s.firsts b first;
  lengths = slice_set s.lengths b n;
  owners = marked s.owners first n b;
  counts = record s.counts { misses = s.counts.misses + 1; copied = s.counts.copied + n };
}

-- where a block of n words is placed
abbrev pub first_in : Ring → ℕ → ℕ
first_in s n = first_for s.words (kept_by s) n

-- a block that stood nowhere has been copied
pub record Filled (v : ImageData) (s : Ring) (b : ℕ) (t : Ring) (before after : RamState) : Type 0 where
  pub room : Ring
  pub between : RamState
  pub made_room : MadeRoom v (first_in s (length_at v b)) (length_at v b) s room before between
  pub copied : Copied (word_at v b) (first_in s (length_at v b)) (length_at v b) between after
  pub settles : t ≡ settled room b (first_in s (length_at v b)) (length_at v b)

-- one more service, but for the boot
abbrev pub counted_ring : Ring → Ring
counted_ring s = record s { counts = record s.counts { services = s.counts.services + more_service (length s.queue) } }

-- the block stands in the ram, at this word, before any link
pub record Arrived (v : ImageData) (s : Ring) (b first : ℕ) (t : Ring) (before after : RamState) : Type 0 where
  pub moves : kept_by t ≡ arrived (setting_of s) v (counted (kept_by s)) b
  pub sound : RingSound t v after.words
  pub words_stay : t.words ≡ s.words
  pub blocks_stay : length t.firsts ≡ length s.firsts
  pub stands : Has t.queue b
  pub first_is : first_at t b ≡ first
  -- a block that stood and stands is where it was
  pub older : (c : ℕ) → Has s.queue c → Has t.queue c → first_at t c ≡ first_at s c
  pub links_left : (k : Link) → has_link (links_of t) k ≡ true → has_link (links_of s) k ≡ true
  pub wrote : Wrote s.words (writes (kept_by t) - writes (kept_by s)) before after
  pub written : writes (kept_by s) ≤ writes (kept_by t)
  pub links_stay : t.counts.links ≡ s.counts.links
  pub services_are : t.counts.services ≡ s.counts.services + more_service (length s.queue)
  pub words : WordsMove v (kept_by s) (kept_by t) before after

-- the word at an index has been made a link to an index in a block
pub record Linked (s t : Ring) (at b to : ℕ) (before after : RamState) : Type 0 where
  pub ring_is : t ≡ record s {
    chains = record s.chains { lists = slice_set s.chains.lists b (at ∷ list_of s.chains b) };
    counts = record s.counts { links = s.counts.links + 1 };
  }
  pub jumps : IsJump at to (slice_index after.words at)
  pub others : (i : ℕ) → (i ≡ at → ⊥) → slice_index after.words i ≡ slice_index before.words i
  pub wrote : Wrote s.words 1 before after

-- the word at an index has been made a link, or it hasn't and nothing has changed
pub record MaybeLinked (s t : Ring) (links : Bool) (at b to : ℕ) (before after : RamState) : Type 0 where
  pub yes : links ≡ true → Linked s t at b to before after
  pub no : links ≡ false → (t ≡ s) × (after ≡ before)

-- the exit's block still stands, and a JAL reaches
abbrev pub can_link : Ring → ℕ → ℕ → ℕ → Bool
can_link s at home to = nat_lt (first_at s home) s.words && reaches at to
