-- The offsets of a block's text words, one by one.
use Rattle.std.proofs.Common.{◌≡◌, ◌≢◌, ℕ, ◌+◌, ◌-◌, ◌*◌, ◌<◌, ◌≤◌, List, length, get_or, arith, sym, inl, inr}
use Rattle.std.proofs.lemmas.Bool.{cases_eq}
use Rattle.swi_program.specs.Text.{TextData}
use Rattle.swi_render.specs.ImageOf.{OffsetsRight, offset_in, address_of, rendering_at, block_between}
use Rattle.swi_render.specs.Cut.{needs_of}
use Rattle.swi_render.proofs.Runs.{offset_first, offset_next, block_length}
use Rattle.swi_check.specs.Mismatches.{IsWrongPlace}

-- the offsets so far are right, and the numbers are those of the words so far
pub record IsPlacing (t : TextData) (offsets : List ℕ) (first k required needs : ℕ) : Type 0 where
  pub low : first ≤ k
  pub required_is : required ≡ offset_in t first k
  pub needs_is : first < k → needs ≡ length (block_between t first k)
  pub small : required ≤ 5 * (k - first)
  pub right : OffsetsRight t offsets first k

pub placing_start : (t : TextData) (offsets : List ℕ) (first : ℕ) → IsPlacing t offsets first first 0 0
placing_start t offsets first = record {
  low = omega arith;
  required_is = sym (offset_first t first);
  needs_is = λ more. absurd (omega arith);
  small = omega arith;
  right = λ k low high. absurd (omega arith);
}

pub placing_next : (t : TextData) (offsets : List ℕ) (first k required needs held len more : ℕ) → IsPlacing t offsets first k required needs → k < length t.words →
    held ≡ get_or offsets k 0 → held ≡ required → len ≡ length (rendering_at t k) → more ≡ needs_of t k → len ≤ 5 →
    IsPlacing t offsets first (k + 1) (required + len) (required + more)
placing_next t offsets first k required needs held len more p within is same len_is more_is few = record {
  low = omega (arith, p.low);
  required_is = omega (arith, offset_next t first k p.low within, p.required_is);
  needs_is = λ some. omega (arith, block_length t first k p.low within, p.required_is);
  small = omega (arith, p.small, p.low);
  right = λ j low high. elim (cases_eq j k) [
    | inl here ↦ (let there : get_or offsets k 0 ≡ offset_in t first k = omega (arith, p.required_is) in rw here there)
    | inr other ↦ p.right j low (omega arith)
  ];
}

pub placing_wrong : (t : TextData) (offsets : List ℕ) (first end k required needs held address : ℕ) → IsPlacing t offsets first k required needs → k < end →
    held ≡ get_or offsets k 0 → held ≢ required → address ≡ address_of t k → IsWrongPlace t offsets first end address held required
placing_wrong t offsets first end k required needs held address p high is differs place = record {
  word = k;
  low = p.low;
  high = high;
  before = p.right;
  address_is = place;
  held_is = is;
  required_is = p.required_is;
  wrong = differs;
}
