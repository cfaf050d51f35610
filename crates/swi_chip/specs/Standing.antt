-- What stands at an address of the cache, and from where the program goes on there.
use Rattle.std.specs.Prelude.{◌≡◌, ℕ, ◌+◌, ◌-◌, ◌/◌, ◌%◌, ◌^◌, ◌==◌, ◌&&◌, ◌<◌, ◌≤◌, nat_lt, List, length, slice_index, Option, Some, None, if◌then◌else◌}
use Rattle.swi_image.specs.Format.{ImageData}
use Rattle.swi_image.specs.Place.{length_at, origin_of, word_at}
use Rattle.swi_image.specs.Sound.{IsImage}
use Rattle.swi_rom.specs.Coherent.{StandsAt}
use Rattle.swi_rom.specs.Record.{Record, ebreak}
use Rattle.swi_slots.specs.Keys.{Images}
use Rattle.swi_slots.specs.Slots.{Slots, kept_by}
use Rattle.swi_chip.specs.declared.chip.Chip.{Chip}
use Rattle.swi_chip.specs.Service.{IsSome, StandsFor, damaged, far_in}

-- at an address stands this block with this offset, or none
abbrev pub StandsIn : Chip → ImageData → Record → ℕ → Option (ℕ × ℕ) → Type 0
StandsIn c v r pc p = (far_in c pc < c.cache_bytes → StandsAt v r (far_in c pc / 4) p) × (c.cache_bytes ≤ far_in c pc → p ≡ None)

abbrev pub Stands : Chip → ℕ → Option (ℕ × ℕ) → Type 0
Stands c pc p = (s : Slots) (vs : Images) (ram : List ℕ) (lists : List (List ℕ)) → StandsFor s vs ram lists c → StandsIn c (vs s.turn) (kept_by s) pc p

-- the tables of an image's text words
pub record TextTables (v : ImageData) (starts places : List ℕ) : Type 0 where
  pub image : IsImage v
  pub starts_are : starts ≡ v.starts
  pub places_long : length places ≡ length v.offsets
  pub places_are : (k : ℕ) → k < length places → slice_index places k % 2 ^ 10 ≡ slice_index v.offsets k

abbrev pub SomeTexts : List ℕ → List ℕ → Type 0
SomeTexts starts places = (v : ImageData) × TextTables v starts places

abbrev pub Begins : Chip → ℕ → ℕ → ℕ → Type 0
Begins c block offset answer = (s : Slots) (vs : Images) (ram : List ℕ) (lists : List (List ℕ)) → StandsFor s vs ram lists c → answer ≡ (origin_of (vs s.turn) block offset).0

-- the address of the instruction that stands there
abbrev pub origin_at : ImageData → Option (ℕ × ℕ) → ℕ
origin_at v None = damaged
origin_at v (Some p) = (origin_of v p.0 p.1).0

abbrev pub Originates : Chip → ℕ → ℕ → Type 0
Originates c pc answer = (s : Slots) (vs : Images) (ram : List ℕ) (lists : List (List ℕ)) → StandsFor s vs ram lists c →
    (p : Option (ℕ × ℕ)) × StandsIn c (vs s.turn) (kept_by s) pc p × (answer ≡ origin_at (vs s.turn) p)

-- a word of the image
pub record CanRead (c : Chip) (block offset : ℕ) : Type 0 where
  pub some : IsSome c
  pub known : block < length c.marks.now
  pub inside : offset < length_at (some.vs some.s.turn) block

abbrev pub Reads : Chip → ℕ → ℕ → ℕ → Type 0
Reads c block offset answer = (s : Slots) (vs : Images) (ram : List ℕ) (lists : List (List ℕ)) → StandsFor s vs ram lists c → block < length c.marks.now → offset < length_at (vs s.turn) block → answer ≡ word_at (vs s.turn) block offset

-- the word before it, and behind it; 0 and 1 where the block has none
abbrev pub before_in_block : ImageData → ℕ → ℕ → ℕ
before_in_block v b o = if o == 0 then 0 else word_at v b (o - 1)

abbrev pub behind_in_block : ImageData → ℕ → ℕ → ℕ
behind_in_block v b o = if nat_lt (o + 1) (length_at v b) then word_at v b (o + 1) else 1

abbrev pub ReadsBefore : Chip → ℕ → ℕ → ℕ → Type 0
ReadsBefore c block offset answer = (s : Slots) (vs : Images) (ram : List ℕ) (lists : List (List ℕ)) → StandsFor s vs ram lists c → block < length c.marks.now → offset < length_at (vs s.turn) block → answer ≡ before_in_block (vs s.turn) block offset

abbrev pub ReadsBehind : Chip → ℕ → ℕ → ℕ → Type 0
ReadsBehind c block offset answer = (s : Slots) (vs : Images) (ram : List ℕ) (lists : List (List ℕ)) → StandsFor s vs ram lists c → block < length c.marks.now → offset < length_at (vs s.turn) block → answer ≡ behind_in_block (vs s.turn) block offset

-- where a program goes on, by a word, those before and behind it, and where its instruction begins: behind the word that stands in place of
-- an exit for it, or at a direct exit's descriptor; else where the instruction begins
abbrev pub chosen_from : ℕ → ℕ → ℕ → ℕ → ℕ
chosen_from before here behind origin =
    if before == ebreak && (here % 4 == 1) then (here + 3) % 2 ^ 32
    else if here == ebreak && (behind % 4 == 0) then behind
    else origin

abbrev pub goes_on_at : ImageData → ℕ → ℕ → ℕ
goes_on_at v b o = chosen_from (before_in_block v b o) (word_at v b o) (behind_in_block v b o) (origin_of v b o).0

abbrev pub GoesOnAt : ImageData → Option (ℕ × ℕ) → ℕ → Type 0
GoesOnAt v None answer = answer ≡ damaged
GoesOnAt v (Some p) answer = answer ≡ goes_on_at v p.0 p.1

abbrev pub Resumes : Chip → ℕ → ℕ → Type 0
Resumes c pc answer = (s : Slots) (vs : Images) (ram : List ℕ) (lists : List (List ℕ)) → StandsFor s vs ram lists c →
    (p : Option (ℕ × ℕ)) × StandsIn c (vs s.turn) (kept_by s) pc p × GoesOnAt (vs s.turn) p answer
