-- Where the text words of a bus lie, for the contracts between the parts of this crate.
use Rattle.std.specs.Prelude.{◌≡◌, ◌==◌, ℕ, ◌+◌, ◌%◌, ◌<◌, ◌≤◌, ◌^◌, ◌&&◌, nat_lt, nat_le, List, [], ◌∷◌, length, if◌then◌else◌}
use Rattle.std.proofs.Common.{get_or}
use Rattle.swi_memory.specs.declared.text.Text.{Text}
use Rattle.swi_memory.specs.Bus.{AreaData, Execute, grants, has_word, is_text_word}

-- how many areas can be executed
abbrev pub executables : List AreaData → ℕ
executables [] = 0
executables (s ∷ rest) = (if grants Execute s.flags then 1 else 0) + executables rest

-- one area at most can be executed
abbrev pub HasOne : List AreaData → Type 0
HasOne bus = executables bus ≤ 1

-- the area that the text is in
pub record InArea (s : AreaData) (t : Text) : Type 0 where
  pub from : s.base + t.skipped ≡ t.from
  pub end : t.from + t.len ≤ s.base + length s.bytes

-- the text words are those of a range of whole words, which lies in one area
pub record IsText (bus : List AreaData) (t : Text) : Type 0 where
  pub first : t.from % 4 ≡ 0
  pub whole : t.len % 4 ≡ 0
  pub end : t.from + t.len ≤ 2 ^ 32
  pub words : (x : ℕ) → is_text_word bus x ≡ ((x % 4 == 0) && (nat_le t.from x && nat_lt x (t.from + t.len)))
  pub place : 0 < t.len → t.bank < length bus
  pub area : 0 < t.len → (d : AreaData) → InArea (get_or bus t.bank d) t

-- the same of one area alone
pub record IsTextOf (s : AreaData) (place : ℕ) (t : Text) : Type 0 where
  pub first : t.from % 4 ≡ 0
  pub whole : t.len % 4 ≡ 0
  pub end : t.from + t.len ≤ 2 ^ 32
  pub words : (x : ℕ) → has_word s x ≡ ((x % 4 == 0) && (nat_le t.from x && nat_lt x (t.from + t.len)))
  pub here : t.bank ≡ place
  pub area : 0 < t.len → InArea s t
