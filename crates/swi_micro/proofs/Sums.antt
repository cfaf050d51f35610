-- Sums of operands, and the addresses and indices of the words of a range.
use Rattle.std.proofs.Common.{◌≡◌, ℕ, ◌+◌, ◌-◌, ◌*◌, ◌/◌, ◌%◌, ◌<◌, ◌≤◌, ◌^◌, ◌==◌, ◌&&◌, nat_lt, true, Some, None, arith, sym, ap, ◌∙◌, inl, inr}
use Rattle.std.proofs.lemmas.Bool.{and_parts, cases_Bool, cond-false, cond-true, eqb-true, ltb-true}
use Rattle.std.proofs.lemmas.Bool.Decides.{nat_tests}
use Rattle.swi_exec.specs.Arithmetic.{sum_of}
use Rattle.swi_memory.specs.declared.word_range.WordRange.{WordRange}
use Rattle.swi_memory.specs.WordRange.{IsWordRange}
use Rattle.swi_micro.specs.MicroOp.{address_at, distance_of, index_at, index_by}
use Rattle.swi_micro.specs.Ran.{joined}

-- ---- operands

pub joined_is : (a imm : ℕ) → a < 2 ^ 32 → imm < 2 ^ 32 → joined a imm ≡ sum_of a imm
joined_is a imm small word = grind (arith, nat_tests)

pub joined_none : (a : ℕ) → joined a 0 ≡ a
joined_none a = grind (arith, nat_tests)

pub sum_none : (a : ℕ) → a < 2 ^ 32 → sum_of 0 a ≡ a
sum_none a word = omega arith

-- ---- addresses

-- the address of the next word
next_sum : (from k : ℕ) → (from + 4 * (k + 1)) % 2 ^ 32 ≡ ((from + 4 * k) % 2 ^ 32 + 4) % 2 ^ 32
next_sum from k = omega arith

pub next_address : (range : WordRange) (k : ℕ) → address_at range (k + 1) ≡ sum_of (address_at range k) 4
next_address range k = next_sum range.from k

aligned_sum : (from k : ℕ) → from % 4 ≡ 0 → (from + 4 * k) % 2 ^ 32 % 4 ≡ 0
aligned_sum from k first = omega arith

pub aligned_address : (range : WordRange) (k : ℕ) → IsWordRange range → address_at range k % 4 ≡ 0
aligned_address range k whole = aligned_sum range.from k whole.first

end_sum : (from k words : ℕ) → from + 4 * words ≤ 2 ^ 32 → k < words → (from + 4 * k) % 2 ^ 32 + 4 ≤ 2 ^ 32
end_sum from k words end within = omega arith

pub end_address : (range : WordRange) (k : ℕ) → IsWordRange range → k < range.words → address_at range k + 4 ≤ 2 ^ 32
end_address range k whole within = end_sum range.from k range.words whole.end within

-- ---- indices

pub record Index (words d k : ℕ) : Type 0 where
  pub whole : d % 4 ≡ 0
  pub within : d / 4 < words
  pub is : d / 4 ≡ k

index_is : (words d k : ℕ) → index_by words d ≡ Some k → Index words d k
index_is words d k is = elim (cases_Bool ((d % 4 == 0) && nat_lt (d / 4) words)) [
  | inl here ↦
      let parts : ((d % 4 == 0) ≡ true) × (nat_lt (d / 4) words ≡ true) = and_parts (d % 4 == 0) (nat_lt (d / 4) words) here in
      let one : index_by words d ≡ Some (d / 4) = cond-true ((d % 4 == 0) && nat_lt (d / 4) words) (Some (d / 4)) None here in
      let same : Some (d / 4) ≡ Some k = sym one ∙ is in
      record { whole = eqb-true (d % 4) 0 parts.0; within = ltb-true (d / 4) words parts.1; is = cc }
  | inr none ↦
      let nowhere : index_by words d ≡ None = cond-false ((d % 4 == 0) && nat_lt (d / 4) words) (Some (d / 4)) None none in
      let never : None ≡ Some k = sym nowhere ∙ is in
      absurd (cc)
]

-- an index is that of the word at the address
target_sum : (from a : ℕ) → from ≤ 2 ^ 32 → a < 2 ^ 32 → (a + (2 ^ 32 - from)) % 2 ^ 32 % 4 ≡ 0 → (from + 4 * ((a + (2 ^ 32 - from)) % 2 ^ 32 / 4)) % 2 ^ 32 ≡ a
target_sum from a low word whole = omega arith

pub record Target (range : WordRange) (a k : ℕ) : Type 0 where
  pub within : k < range.words
  pub address : address_at range k ≡ a
  pub aligned : a % 4 ≡ 0

pub target : (range : WordRange) (a k : ℕ) → IsWordRange range → a < 2 ^ 32 → index_at range a ≡ Some k → Target range a k
target range a k whole word is =
    let at : Index range.words (distance_of range a) k = index_is range.words (distance_of range a) k is in
    let low : range.from ≤ 2 ^ 32 = omega (arith, whole.end) in
    let address : address_at range k ≡ a = ap (address_at range) (sym at.is) ∙ target_sum range.from a low word at.whole in
    record {
      within = omega (arith, at.is, at.within);
      address = address;
      aligned = ap (λ x. x % 4) (sym address) ∙ aligned_address range k whole;
    }

-- the index of a word's own address
own_sum : (from k words : ℕ) → from + 4 * words ≤ 2 ^ 32 → k < words → ((from + 4 * k) % 2 ^ 32 + (2 ^ 32 - from)) % 2 ^ 32 ≡ 4 * k
own_sum from k words end within = omega arith

index_of_whole : (words k : ℕ) → k < words → index_by words (4 * k) ≡ Some k
index_of_whole words k within = grind (arith, nat_tests)

pub own_index : (range : WordRange) (k : ℕ) → IsWordRange range → k < range.words → index_at range (address_at range k) ≡ Some k
own_index range k whole within =
    ap (index_by range.words) (own_sum range.from k range.words whole.end within) ∙ index_of_whole range.words k within
