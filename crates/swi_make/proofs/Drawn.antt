-- The numbers of a seed, one by one.
use Rattle.std.proofs.Common.{◌≡◌, ◌+◌, ◌*◌, ◌%◌, ◌^◌, ℕ, suc, List, [], ◌∷◌, ◌++◌, length, map, arith, refl, ap, ◌∙◌}
use Rattle.std.proofs.lemmas.List.FromFn.{length-map-range_with_len, map-range_with_len_more}
use Rattle.std.specs.List.{range_with_len}
use Rattle.swi_make.specs.Numbers.{additions, all_additions, number}

pub number_first : (seed : ℕ) → number seed 0 ≡ seed
unfolding number
number_first seed = refl

pub number_more : (seed k : ℕ) → number seed (k + 1) ≡ (1664525 * number seed k + 1013904223) % 2 ^ 32
unfolding number
number_more seed k = let next : k + 1 ≡ suc k = omega arith in rw next refl

pub additions_more : (seed k n : ℕ) → n ≡ additions seed k
    → map (additions seed) (range_with_len 0 k) ++ n ∷ [] ≡ map (additions seed) (range_with_len 0 (k + 1))
additions_more seed k n is = rw (is, map-range_with_len_more (additions seed) 0 k k (omega arith)) refl

pub length-additions : (seed count : ℕ) (ns : List ℕ) → ns ≡ all_additions seed count → length ns ≡ count
length-additions seed count ns is = ap length is ∙ length-map-range_with_len (additions seed) 0 count

pub ruleset drawn = (number_first, number_more, additions_more)
