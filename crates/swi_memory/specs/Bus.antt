-- A bus: areas of bytes with rights, in which each byte is looked up by itself.
-- Source: RISC-V unprivileged specification, section 1.4 "Memory" (2 ^ 32 bytes, each with an address) and
-- section 2.6 "Load and Store Instructions" (numbers of 1, 2 or 4 bytes, the lowest byte first).
-- The rights of an area, its text words and what is fetched.
use Rattle.std.specs.Prelude.{◌≡◌, ◌⊎◌, ◌==◌, ℕ, ◌+◌, ◌-◌, ◌*◌, ◌/◌, ◌%◌, ◌^◌, ◌≤◌, ◌<◌, zero, suc, Bool, true, false, not, ◌&&◌, ◌||◌, nat_lt, nat_le, List, [], ◌∷◌, length, take, drop, slice_index, slice_set, Option, Some, None, Result, Ok, Err, if◌then◌else◌}
use Rattle.swi_memory.specs.declared.access.Access.{Access}
pub use Rattle.swi_memory.specs.declared.right.Right.{Right}
pub use Rattle.swi_memory.specs.declared.right.Right.TheVariants.{Read, Write, Execute}
pub use Rattle.swi_memory.specs.Rights.{grants}

-- bytes from a base on, as they stand now, with rights (4 read, 2 write, 1 execute). The first `file_size` of them came from a file
pub record AreaData : Type 0 where
  pub base : ℕ
  pub flags : ℕ
  pub file_size : ℕ
  pub bytes : List ℕ

-- whether the area has a byte at the address
abbrev pub is_in : AreaData → ℕ → Bool
is_in s a = nat_le s.base a && nat_lt a (s.base + length s.bytes)

-- whether an area with this right has a byte at the address
abbrev pub holds_byte : List AreaData → Right → ℕ → Bool
holds_byte [] right a = false
holds_byte (s ∷ rest) right a = if is_in s a then grants right s.flags else holds_byte rest right a

-- whether each of the n bytes from a on is below 2 ^ 32 and in an area with this right
abbrev pub holds : List AreaData → Right → ℕ → ℕ → Bool
holds bus right a zero = true
holds bus right a (suc n) = (nat_lt a (2 ^ 32) && holds_byte bus right a) && holds bus right (a + 1) n

-- the byte at the address, or 0 where there is none
abbrev pub byte_at : List AreaData → ℕ → ℕ
byte_at [] a = 0
byte_at (s ∷ rest) a = if is_in s a then slice_index s.bytes (a - s.base) else byte_at rest a

-- the number that the n bytes from a on make, the lowest first
abbrev pub number_at : List AreaData → ℕ → ℕ → ℕ
number_at bus a zero = 0
number_at bus a (suc n) = byte_at bus a + 256 * number_at bus (a + 1) n

-- the number that n bytes of a list make from a place on, the lowest first
abbrev pub number_in : List ℕ → ℕ → ℕ → ℕ
number_in bytes at zero = 0
number_in bytes at (suc n) = slice_index bytes at + 256 * number_in bytes (at + 1) n

-- the n bytes from a on
abbrev pub bytes_at : List AreaData → ℕ → ℕ → List ℕ
bytes_at bus a zero = []
bytes_at bus a (suc n) = byte_at bus a ∷ bytes_at bus (a + 1) n

-- the bus with another byte at the address, where there is one
abbrev pub with_byte : List AreaData → ℕ → ℕ → List AreaData
with_byte [] a b = []
with_byte (s ∷ rest) a b = if is_in s a then record s { bytes = slice_set s.bytes (a - s.base) b } ∷ rest else s ∷ with_byte rest a b

-- the bus with these bytes from a on
abbrev pub with_bytes : List AreaData → ℕ → List ℕ → List AreaData
with_bytes bus a [] = bus
with_bytes bus a (b ∷ bytes) = with_bytes (with_byte bus a b) (a + 1) bytes

-- the lowest n bytes of a number, the lowest first
abbrev pub lowest : ℕ → ℕ → List ℕ
lowest zero v = []
lowest (suc n) v = v % 256 ∷ lowest n (v / 256)

-- the bus with the lowest n bytes of v from a on, the lowest first
abbrev pub stored : List AreaData → ℕ → ℕ → ℕ → List AreaData
stored bus a n v = with_bytes bus a (lowest n v)

-- the numbers of bytes that a load or a store takes
abbrev pub IsSize : ℕ → Type 0
IsSize k = (k ≡ 1) ⊎ ((k ≡ 2) ⊎ (k ≡ 4))

-- what a load answers: the number, where each byte can be read
abbrev pub loaded : List AreaData → ℕ → ℕ → Result ℕ Access
loaded bus a k = if holds bus Read a k then Ok (number_at bus a k) else Err (record {})

-- the bytes from a on, at most n of them, that the area of a has
abbrev pub front_of : List AreaData → ℕ → ℕ → List ℕ
front_of [] a n = []
front_of (s ∷ rest) a n = if is_in s a then take n (drop (a - s.base) s.bytes) else front_of rest a n

-- whether a text word of the area stands at the address: a whole word among the bytes that came from the file
abbrev pub has_word : AreaData → ℕ → Bool
has_word s a = grants Execute s.flags && ((a % 4 == 0) && (nat_le s.base a && nat_le (a + 4) (s.base + s.file_size)))

-- whether a text word stands at the address
abbrev pub is_text_word : List AreaData → ℕ → Bool
is_text_word [] a = false
is_text_word (s ∷ rest) a = has_word s a || is_text_word rest a

-- the word that stands now at a text word's address, and at no other
abbrev pub fetched : List AreaData → ℕ → Option ℕ
fetched bus a = if is_text_word bus a then Some (number_at bus a 4) else None

-- whether one of the n bytes from a on is a text word's
abbrev pub touches_text : List AreaData → ℕ → ℕ → Bool
touches_text bus a zero = false
touches_text bus a (suc n) = is_text_word bus (a / 4 * 4) || touches_text bus (a + 1) n

-- whether each of the n bytes from a on can be written and none is a text word's
abbrev pub lets_store : List AreaData → ℕ → ℕ → Bool
lets_store bus a n = holds bus Write a n && not (touches_text bus a n)

-- areas of at least one byte, each behind the one before it, and all from this address on and below 2 ^ 32
abbrev pub AreInOrderFrom : ℕ → List AreaData → Type 0
AreInOrderFrom from [] = from ≤ 2 ^ 32
AreInOrderFrom from (s ∷ rest) = (from ≤ s.base) × (0 < length s.bytes) × (s.file_size ≤ length s.bytes) × AreInOrderFrom (s.base + length s.bytes) rest

-- areas of at least one byte, apart, in ascending order, below 2 ^ 32
abbrev pub AreInOrder : List AreaData → Type 0
AreInOrder bus = AreInOrderFrom 0 bus
