-- The highest end of segments, and the room above it.
use Rattle.std.proofs.Common.{◌≡◌, ℕ, ◌+◌, ◌<◌, ◌≤◌, max, Bool, true, false, List, [], ◌∷◌, ◌++◌, map, length, get_or, drop, Ok, Err, if◌then◌else◌, arith, refl, subst, inl, inr}
use Rattle.std.proofs.lemmas.List.{drop_more}
use Rattle.std.proofs.lemmas.Bool.{ltb-false}
use Rattle.std.proofs.lemmas.Grind.{common_steps}
use Rattle.swi_memory.specs.declared.layout.Layout.{Layout}
use Rattle.swi_memory.specs.BusOf.{Range, IsClearOf, AreApart, range_of}
use Rattle.swi_program.specs.Program.{SegmentData, ProgramData, IsProgram}
use Rattle.swi_program.specs.Layout.{highest_end, stack_base, laid_out, IsLayoutOf, EndBelow, IsRoomy}

-- one segment more
pub end_step : (xs : List SegmentData) (i highest top : ℕ) (s : SegmentData) → i < length xs → s ≡ get_or xs i s → top ≡ max highest (s.base + s.size) →
    max top (highest_end (drop (i + 1) xs)) ≡ max highest (highest_end (drop i xs))
unfolding highest_end
end_step xs i highest top s within is e = rw (drop_more xs i s within, ← is, e) (omega arith)

pub end_none : (xs : List SegmentData) (i : ℕ) → length xs ≤ i → highest_end (drop i xs) ≡ 0
unfolding highest_end
end_none xs i past = grind (arith, common_steps)

pub ruleset end_steps = (end_step, end_none)

-- each segment ends at or below the highest end
end_below : (xs : List SegmentData) (a : ℕ) → highest_end xs ≤ a → EndBelow xs a
unfolding highest_end
end_below [] a le = tt
end_below (s ∷ xs) a le = (omega arith, end_below xs a (omega arith))

-- the heap and the stack above the segments share no address with them, nor with each other
clear_with : (r : Range) (xs : List SegmentData) (heap stack : Range) → IsClearOf r (map range_of xs) → r.base + r.size ≤ heap.base → r.base + r.size ≤ stack.base →
    IsClearOf r (map range_of xs ++ heap ∷ stack ∷ [])
clear_with r [] heap stack clear h s = (inr (inr (inl h)), (inr (inr (inl s)), tt))
clear_with r (x ∷ xs) heap stack clear h s = (clear.0, clear_with r xs heap stack clear.1 h s)

apart_with : (xs : List SegmentData) (heap stack : Range) → AreApart (map range_of xs) → EndBelow xs heap.base → heap.base + heap.size ≤ stack.base →
    AreApart (map range_of xs ++ heap ∷ stack ∷ [])
apart_with [] heap stack apart below on = ((inr (inr (inl on)), tt), (tt, tt))
apart_with (x ∷ xs) heap stack apart below on =
    (clear_with (range_of x) xs heap stack apart.0 below.0 (omega (arith, below.0)), apart_with xs heap stack apart.1 below.1 on)

ok_of : {A E : Type 0} (b : Bool) (e : E) (x y : A) → (if b then Err e else Ok x) ≡ Ok y → (b ≡ false) × (x ≡ y)
ok_of true e x y is = cc
ok_of false e x y is = (refl, cc)

-- a layout leaves its room
pub room_law : (p q : ProgramData) → p ≡ q → IsProgram p → (l : Layout) → IsLayoutOf q.segments l → IsRoomy q.segments l
unfolding laid_out
room_law p q is sound l own =
    let apart : AreApart (map range_of q.segments) = subst (λ (r : ProgramData). AreApart (map range_of r.segments)) is sound.apart in
    let ok = ok_of _ _ _ l own in
    subst (λ (k : Layout). IsRoomy q.segments k) ok.1 (record {
      heap = end_below q.segments (highest_end q.segments) (omega arith);
      stack = omega arith;
      end = ltb-false _ _ ok.0;
      apart = apart_with q.segments (record { base = highest_end q.segments; size = l.heap_len }) (record { base = stack_base q.segments l.heap_len; size = l.stack_len }) apart (end_below q.segments (highest_end q.segments) (omega arith)) (omega arith);
    })
