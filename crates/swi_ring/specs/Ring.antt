-- A ring of blocks as plain data: what stands at each word, and which words are links.
use Rattle.std.specs.Prelude.{◌≡◌, ℕ, suc, zero, ◌+◌, ◌-◌, ◌<◌, ◌≤◌, ◌&&◌, ◌^◌, List, [], ◌∷◌, map, length, Option, Some, None, if◌then◌else◌, slice_index, nat_le, nat_lt, Bool}
use Rattle.swi_rom.specs.Record.{Record, Placement, Link}
use Rattle.swi_rom.specs.Service.{Setting}
use Rattle.swi_rom.specs.Collected.{collected}
use Rattle.swi_links.specs.Chains.{ChainsData, Has, Distinct}
use Rattle.swi_rom.specs.declared.rom.Counts.{Counts}
use Rattle.swi_links.specs.Holders.{holder_of}

pub record Ring : Type 0 where
  -- how many words
  pub words : ℕ
  -- the word behind the block that was placed last
  pub next : ℕ
  -- the placed blocks, the oldest first
  pub queue : List ℕ
  -- for each block its first word, and its length; of a block that isn't placed the first word is the number of words
  pub firsts : List ℕ
  pub lengths : List ℕ
  -- for each word the block that was copied there last
  pub owners : List ℕ
  -- for each block the words that are linked to it
  pub chains : ChainsData
  pub counts : Counts

abbrev pub first_at : Ring → ℕ → ℕ
first_at s b = slice_index s.firsts b

-- the block to which a word is linked; where it isn't, the number of blocks
abbrev pub target_at : Ring → ℕ → ℕ
target_at s i = holder_of s.chains.lists i

-- the numbers keep their shape, whatever the image
pub record InShape (s : Ring) : Type 0 where
  pub words_few : s.words ≤ 2 ^ 21
  pub blocks_few : length s.firsts ≤ 2 ^ 19
  pub next_most : s.next ≤ s.words
  pub lengths_long : length s.lengths ≡ length s.firsts
  pub owners_long : length s.owners ≡ s.words
  pub chain_words : s.chains.words ≡ s.words
  pub chain_lists : length s.chains.lists ≡ length s.firsts
  pub owners_known : (i : ℕ) → i < s.words → slice_index s.owners i < length s.firsts
  -- no block stands twice
  pub distinct : Distinct s.queue
  pub known : (b : ℕ) → Has s.queue b → b < length s.firsts
  pub some : (b : ℕ) → Has s.queue b → 1 ≤ slice_index s.lengths b
  pub within : (b : ℕ) → Has s.queue b → first_at s b + slice_index s.lengths b ≤ s.words
  pub absent : (b : ℕ) → b < length s.firsts → (Has s.queue b → ⊥) → first_at s b ≡ s.words

abbrev pub setting_of : Ring → Setting
setting_of s = record { slots = 1; slot_words = s.words; programs = 1 }

abbrev pub spot : List ℕ → ℕ → Placement
spot firsts b = record { program = 0; block = b; first = slice_index firsts b }

-- the placed blocks, the oldest first
unfoldable pub queue_of : List ℕ → List ℕ → List Placement
queue_of firsts queue = map (spot firsts) queue

-- the exit at a word, as a link
abbrev pub exit_of : Ring → ℕ → Link
exit_of s i = record { program = 0; block = slice_index s.owners i; offset = i - first_at s (slice_index s.owners i); into = target_at s i }

-- the link that a word is
unfoldable pub link_at : Ring → ℕ → Option Link
link_at s i = if nat_lt (target_at s i) (length s.firsts) then Some (exit_of s i) else None

unfoldable pub links_of : Ring → List Link
links_of s = collected (link_at s) s.words

-- the word behind the block that was placed last, once one was placed
abbrev pub behind : ℕ → List ℕ
behind zero = []
behind (suc n) = suc n ∷ []

abbrev pub kept_by : Ring → Record
kept_by s = record { turn = 0; placed = queue_of s.firsts s.queue; links = links_of s; counts = s.counts; more = behind s.next }

-- the block that was copied to a word last still has it
abbrev pub stands_at : Ring → ℕ → ℕ → Bool
stands_at s i b = nat_le (first_at s b) i && nat_lt (i - first_at s b) (slice_index s.lengths b)

-- what stands at a word
unfoldable pub shown_by : Ring → ℕ → Option (ℕ × ℕ)
shown_by s i =
    if nat_lt i s.words && stands_at s i (slice_index s.owners i)
    then Some (slice_index s.owners i, i - first_at s (slice_index s.owners i))
    else None
