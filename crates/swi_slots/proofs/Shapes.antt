-- The numbers of the slots keep their shape.
use Rattle.std.proofs.Common.{◌≡◌, ◌⊎◌, ℕ, ◌+◌, ◌*◌, ◌/◌, ◌%◌, ◌<◌, ◌^◌, List, max, min, slice_set, arith, sym, ◌∙◌, ap, inl, inr}
use Rattle.std.proofs.lemmas.List.{length-set}
use Rattle.std.proofs.lemmas.Nat.{mod-mul-add, div-add-mod', mod_below}
use Rattle.std.proofs.lemmas.Bool.Decides.{nat_tests}
use Rattle.std.proofs.lemmas.Bool.{cases_eq, cases_lt}
use Rattle.std.proofs.Math.Nat.{mul-le-mul_left}
use Rattle.swi_slots.specs.Slots.{Slots, InShape}
use Rattle.swi_slots.specs.Steps.{settled, wrapped}
use Rattle.swi_slots.specs.Queue.{next_free}

wrapped_at : (n : ℕ) (r q : ℕ) → 0 < n → r < n → (r + 1 ≡ n) ⊎ (r + 1 ≡ n → ⊥) → (q * n + r + 1) % n ≡ wrapped (r + 1) n
wrapped_at n r q pos lt (inl e) =
    let up : q * n + r + 1 ≡ (q + 1) * n + 0 = grind arith in
    let zero_is : wrapped (r + 1) n ≡ 0 = grind (arith, nat_tests) in
    rw (up, zero_is) (mod-mul-add (q + 1) n 0 pos)
wrapped_at n r q pos lt (inr ne) =
    let up : q * n + r + 1 ≡ q * n + (r + 1) = omega arith in
    let same : wrapped (r + 1) n ≡ r + 1 = grind (arith, nat_tests) in
    rw (up, same) (mod-mul-add q n (r + 1) (grind arith))

pub mod_next : (m n : ℕ) → 0 < n → (m + 1) % n ≡ wrapped (m % n + 1) n
mod_next m n pos =
    let e : m / n * n + m % n ≡ m = div-add-mod' m n in
    ap (λ (k : ℕ). (k + 1) % n) (sym e) ∙ wrapped_at n (m % n) (m / n) pos (mod_below m n pos) (cases_eq (m % n + 1) n)

wrapped_below : (k n : ℕ) → k < n → wrapped (k + 1) n < n
wrapped_below k n lt = grind (arith, nat_tests)

pub settled_shape : (s : Slots) (b n : ℕ) → InShape s → InShape (settled s b n)
settled_shape s b n shape = record {
  some_slot = shape.some_slot;
  size_least = shape.size_least;
  size_most = shape.size_most;
  words_few = shape.words_few;
  turn_below = shape.turn_below;
  programs_most = shape.programs_most;
  next_below = wrapped_below s.next s.slots shape.next_below;
  filled_most = omega arith;
  blocks_long = length-set s.blocks s.next b ∙ shape.blocks_long;
  lengths_long = length-set s.lengths s.next n ∙ shape.lengths_long;
  targets_long = shape.targets_long;
  next_is = ap (λ (k : ℕ). wrapped (k + 1) s.slots) shape.next_is ∙ sym (mod_next s.counts.misses s.slots shape.some_slot);
  filled_is = omega (arith, shape.filled_is, shape.some_slot);
}

-- as the code meets it
pub settled_as : (s : Slots) (targets : List ℕ) (b n next filled : ℕ) → InShape s → targets ≡ s.targets → next ≡ wrapped (s.next + 1) s.slots → filled ≡ min (s.filled + 1) s.slots →
    InShape (record {
      slots = s.slots;
      size = s.size;
      next = next;
      filled = filled;
      programs = s.programs;
      turn = s.turn;
      blocks = slice_set s.blocks s.next b;
      lengths = slice_set s.lengths s.next n;
      targets = targets;
      counts = record s.counts { misses = s.counts.misses + 1; copied = s.counts.copied + n };
    })
settled_as s targets b n next filled shape targets_are next_is filled_is = rw (targets_are, next_is, filled_is) (settled_shape s b n shape)

-- the slot that is filled next is the one behind the filled ones, or one of them where all are
pub filled_more : (s : Slots) → InShape s → max s.filled (s.next + 1) ≡ min (s.filled + 1) s.slots
filled_more s shape = elim (cases_lt s.filled s.slots) [
  | inl free ↦ omega (arith, next_free s shape free)
  | inr full ↦ omega (arith, shape.next_below, shape.filled_most)
]

pub next_few : (s : Slots) → InShape s → s.next < 2 ^ 20
next_few s shape = omega (arith, mul-le-mul_left s.slots shape.size_least, shape.words_few, shape.next_below)
