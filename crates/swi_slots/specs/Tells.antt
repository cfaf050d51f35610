-- Which words are links into a slot, and how many.
use Rattle.std.proofs.Common.{◌≡◌, ℕ, ◌+◌, ◌/◌, Bool, true, false, if◌then◌else◌, List, slice_index, arith, refl, add-one}
use Rattle.std.proofs.lemmas.Bool.Decides.{nat_tests}
use Rattle.swi_slots.specs.Steps.{leads_in, is_dropped, leading_in}

pub own_tells : (size slot n : ℕ) (old : List ℕ) → n / size ≡ slot → (is_dropped size slot old n ≡ true) × (leads_in size slot old n ≡ false)
own_tells size slot n old e = (grind (arith, nat_tests), grind (arith, nat_tests))

pub leads_tells : (size slot n : ℕ) (old : List ℕ) → (n / size ≡ slot → ⊥) → slice_index old n ≡ slot → (is_dropped size slot old n ≡ true) × (leads_in size slot old n ≡ true)
leads_tells size slot n old ne e = (grind (arith, nat_tests), grind (arith, nat_tests))

pub none_tells : (size slot n : ℕ) (old : List ℕ) → (n / size ≡ slot → ⊥) → (slice_index old n ≡ slot → ⊥) → (is_dropped size slot old n ≡ false) × (leads_in size slot old n ≡ false)
none_tells size slot n old ne other = (grind (arith, nat_tests), grind (arith, nat_tests))

pub leading_none : (size slot : ℕ) (old : List ℕ) → leading_in size slot old 0 ≡ 0
unfolding leading_in
leading_none size slot old = refl

pub leading_more : (size slot n : ℕ) (old : List ℕ) (t : Bool) → leads_in size slot old n ≡ t → leading_in size slot old (n + 1) ≡ (if t then leading_in size slot old n + 1 else leading_in size slot old n)
unfolding leading_in
leading_more size slot n old t e = rw (add-one, e) refl
