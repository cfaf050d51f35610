-- The ram's words are those of the placed blocks, but for the links.
use Rattle.std.specs.Prelude.{◌≡◌, ℕ, ◌+◌, ◌<◌, ◌≤◌, ◌%◌, ◌==◌, true, false, List, length, Option, Some, None, slice_index, slice_get, filter}
use Rattle.swi_image.specs.Format.{ImageData}
use Rattle.swi_image.specs.Place.{place_of, word_at, length_at}
use Rattle.swi_rom.specs.Record.{Record, Placement, Placed, is_linked, ebreak, IsJump}

-- the target's place stands at this index
pub record TargetAt (v : ImageData) (r : Record) (t i : ℕ) : Type 0 where
  pub block : ℕ
  pub offset : ℕ
  pub first : ℕ
  pub place_is : place_of v t ≡ Some (block, offset)
  pub is_placed : Placed r block first
  pub index : i ≡ first + offset

-- a direct exit of the image: EBREAK, and behind it the address that it leads to
pub record IsExit (v : ImageData) (b o : ℕ) : Type 0 where
  pub inside : o + 1 < length_at v b
  pub leaves : word_at v b o ≡ ebreak
  pub direct : word_at v b (o + 1) % 4 ≡ 0

pub record Coherent (v : ImageData) (r : Record) (span : ℕ) (words : List ℕ) : Type 0 where
  pub fits : span ≤ length words
  -- the placed blocks are blocks of the image, each placed once, and their ranges don't overlap
  pub known : (b f : ℕ) → Placed r b f → b < length v.blocks
  pub distinct : (j k : ℕ) (e f : Placement) → slice_get r.placed j ≡ Some e → slice_get r.placed k ≡ Some f → e.program ≡ f.program → e.block ≡ f.block → j ≡ k
  pub once : (b f g : ℕ) → Placed r b f → Placed r b g → f ≡ g
  pub inside : (b f : ℕ) → Placed r b f → f + length_at v b ≤ span
  pub apart : (b f o c g q : ℕ) → Placed r b f → Placed r c g → o < length_at v b → q < length_at v c → f + o ≡ g + q → (b ≡ c) × (o ≡ q)
  -- a link is a direct exit of a placed block
  pub exits : (b o : ℕ) → is_linked r b o ≡ true → ((f : ℕ) × Placed r b f) × IsExit v b o
  -- and a jump to its target's place, which stands in the ram
  pub linked : (b f o : ℕ) → Placed r b f → is_linked r b o ≡ true →
      (j : ℕ) × TargetAt v r (word_at v b (o + 1)) j × IsJump (f + o) j (slice_index words (f + o))
  pub plain : (b f o : ℕ) → Placed r b f → o < length_at v b → is_linked r b o ≡ false → slice_index words (f + o) ≡ word_at v b o

-- at an index stands a direct exit that isn't linked, with this descriptor
pub record ExitAt (v : ImageData) (r : Record) (i t : ℕ) : Type 0 where
  pub block : ℕ
  pub offset : ℕ
  pub first : ℕ
  pub is_placed : Placed r block first
  pub is_exit : IsExit v block offset
  pub index : i ≡ first + offset
  pub not_linked : is_linked r block offset ≡ false
  pub descriptor : t ≡ word_at v block (offset + 1)

-- what stands at an index, and that nothing does
abbrev pub StandsAt : ImageData → Record → ℕ → Option (ℕ × ℕ) → Type 0
StandsAt v r i None = (b f : ℕ) → Placed r b f → f ≤ i → f + length_at v b ≤ i
StandsAt v r i (Some p) = (f : ℕ) × Placed r p.0 f × (p.1 < length_at v p.0) × (i ≡ f + p.1)

abbrev pub pair_of : Option Placement → Option (ℕ × ℕ)
pair_of None = None
pair_of (Some e) = Some (e.block, e.first)

-- the k-th oldest of the program's blocks, and its first word
unfoldable pub resident_of : Record → ℕ → Option (ℕ × ℕ)
resident_of r k = pair_of (slice_get (filter (λ e. e.program == r.turn) r.placed) k)
