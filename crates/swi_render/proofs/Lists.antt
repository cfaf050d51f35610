-- Words that are as they are asked.
use Rattle.std.proofs.Common.{◌≡◌, ◌==◌, ◌%◌, Bool, Option, Some, None, ℕ, ◌+◌, ◌<◌, ◌≤◌, List, [], ◌∷◌, length, get_or, zero, suc, true, false, inl, inr, if◌then◌else◌, length-append, append-nil, refl, arith}
use Rattle.std.proofs.lemmas.Bool.{cases_Bool}
use Rattle.swi_isa.specs.declared.instr.Instr.{Instr}
use Rattle.swi_isa.specs.declared.instr.Instr.TheVariants.{Auipc, Jal, Jalr, Branch, Ebreak}
use Rattle.swi_isa.specs.Decode.{decoded}
use Rattle.swi_render.specs.ImageOf.{pad}
use Rattle.swi_render.specs.Rendering.{jump, sum, rendering, rendering_of, falls, falls_of, ending, ending_of, needs, len, fall_exit, parts_of, Slot, AreAs, AreThe, AreWords, IsThe}

pub the_as : (ss : List Slot) (xs : List ℕ) → AreThe ss xs → AreAs ss xs
the_as [] [] t = tt
the_as [] (x ∷ xs) t = absurd t
the_as (s ∷ ss) [] t = absurd t
the_as (s ∷ ss) (x ∷ xs) t = (t.0.here, the_as ss xs t.1)

pub the_only : (ss : List Slot) (xs ys : List ℕ) → AreThe ss xs → AreWords ys → AreAs ss ys → ys ≡ xs
the_only [] [] [] t w a = refl
the_only [] [] (y ∷ ys) t w a = absurd a
the_only [] (x ∷ xs) ys t w a = absurd t
the_only (s ∷ ss) [] ys t w a = absurd t
the_only (s ∷ ss) (x ∷ xs) [] t w a = absurd a
the_only (s ∷ ss) (x ∷ xs) (y ∷ ys) t w a =
    let first : y ≡ x = t.0.only y w.0 a.0 in
    let rest : ys ≡ xs = the_only ss xs ys t.1 w.1 a.1 in
    cc

pub the_length : (ss : List Slot) (xs : List ℕ) → AreThe ss xs → length xs ≡ length ss
the_length [] [] t = refl
the_length [] (x ∷ xs) t = absurd t
the_length (s ∷ ss) [] t = absurd t
the_length (s ∷ ss) (x ∷ xs) t = omega (arith, the_length ss xs t.1)

pub parts_length : (ss : List Slot) → length (parts_of ss) ≡ length ss
parts_length [] = refl
parts_length (s ∷ ss) = omega (arith, parts_length ss)

pub the_each : (ss : List Slot) (xs : List ℕ) → AreThe ss xs → (o : ℕ) → o < length ss → IsThe (get_or ss o pad).asked (get_or xs o 0)
the_each [] xs t o within = absurd (omega arith)
the_each (s ∷ ss) [] t o within = absurd t
the_each (s ∷ ss) (x ∷ xs) t zero within = t.0
the_each (s ∷ ss) (x ∷ xs) t (suc o) within = the_each ss xs t.1 o (omega arith)

pub ending_length : (w a : ℕ) → needs w a ≡ len w a + (if falls w then 2 else 0)
unfolding ending rendering falls
ending_length w a = elim (cases_Bool (falls_of (decoded w))) [
  | inl yes_ ↦ rw (yes_, length-append (rendering_of (decoded w) w a) (fall_exit a)) refl
  | inr none ↦ rw (none, append-nil (rendering_of (decoded w) w a)) (omega arith)
]

jump_some : (m l : Bool) (rd t a : ℕ) → 0 < length (jump m l rd t a)
jump_some false l rd t a = omega arith
jump_some true true rd t a = omega arith
jump_some true false rd t a = omega arith

some_of : (i : Option Instr) (w a : ℕ) → 0 < length (rendering_of i w a)
some_of None w a = omega arith
some_of (Some Ebreak) w a = omega arith
some_of (Some (Auipc rd imm)) w a = omega arith
some_of (Some (Jal rd off)) w a = jump_some (sum a off % 4 == 0) (rd == 0) rd (sum a off) a
some_of (Some (Branch op rs1 rs2 off)) w a = omega arith
some_of (Some (Jalr rd rs1 imm)) w a = omega arith
some_of (Some i) w a = omega arith

jump_least : (m l : Bool) (rd t a : ℕ) → 2 ≤ length (jump m l rd t a)
jump_least false l rd t a = omega arith
jump_least true true rd t a = omega arith
jump_least true false rd t a = omega arith

least_of : (i : Option Instr) (w a : ℕ) → 2 ≤ length (ending_of i w a)
least_of None w a = omega arith
least_of (Some Ebreak) w a = omega arith
least_of (Some (Auipc rd imm)) w a = omega arith
least_of (Some (Jal rd off)) w a = rw (append-nil (jump (sum a off % 4 == 0) (rd == 0) rd (sum a off) a)) (jump_least (sum a off % 4 == 0) (rd == 0) rd (sum a off) a)
least_of (Some (Branch op rs1 rs2 off)) w a = omega arith
least_of (Some (Jalr rd rs1 imm)) w a = omega arith
least_of (Some i) w a = omega arith

-- the last text word of a block takes two words at least
pub ending_least : (w a : ℕ) → 2 ≤ needs w a
unfolding ending
ending_least w a = least_of (decoded w) w a

pub rendering_some : (w a : ℕ) → 0 < len w a
unfolding rendering
rendering_some w a = some_of (decoded w) w a

pub ruleset lists = (the_as, the_only, the_length)
