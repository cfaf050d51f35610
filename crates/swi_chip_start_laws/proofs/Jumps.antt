-- No word of an image of a text is a JAL x0.
use Rattle.std.proofs.Common.{◌≡◌, ◌∙◌, ◌==◌, ℕ, ◌+◌, ◌-◌, ◌*◌, ◌/◌, ◌%◌, ◌^◌, ◌<◌, Bool, true, false, zero, suc, bit_and, if◌then◌else◌, List, [], ◌∷◌, ◌++◌, length, get_or, Option, Some, None, ap, arith, refl, sym, inl, inr}
use Rattle.std.proofs.lemmas.Bool.{cases_Bool, cases_lt, eqb-true}
use Rattle.std.proofs.lemmas.List.{get_or_past}
use Rattle.std.proofs.lemmas.Nat.{and_mask}
use Rattle.swi_isa.specs.declared.instr.Instr.{Instr}
use Rattle.swi_isa.specs.declared.instr.Instr.TheVariants as instr
use Rattle.swi_isa.specs.Decode.{decoded, decoded_by}
use Rattle.swi_isa.specs.Laws.{branch_even, jal_even}
use Rattle.swi_isa.specs.Table.{imm_j}
use Rattle.swi_image.specs.Format.{ImageData}
use Rattle.swi_image.specs.Place.{block_at, length_at, next_start, word_at}
use Rattle.swi_image.specs.Sound.{IsImage}
use Rattle.swi_image.specs.Words.{part}
use Rattle.swi_render.specs.Rendering.{Asked, As, Decodes, Is, Slot, ebreak, fall_exit, falls, jump, rendering, rendering_of, sum}
use Rattle.swi_render.specs.ImageOf.{address_of, block_between, block_of_words, exit_behind, filled, pad, pads, renderings, start_of}
use Rattle.swi_chip.specs.Owned.{is_jump}
use Rattle.swi_chip_start_laws.specs.Jumps.{HasNoJump}

-- a word with the bits of a JAL x0 decodes to one
jump_decodes : (w : ℕ) → is_jump w ≡ true → decoded w ≡ Some (instr.Jal 0 (imm_j w))
unfolding decoded decoded_by
jump_decodes w jump =
    let low : w % 2 ^ 12 ≡ 0x6f = eqb-true _ _ jump in
    let opcode : bit_and w 0x7F ≡ 0x6F = and_mask w 7 ∙ omega arith in
    let none : w / 2 ^ 7 % 2 ^ 5 ≡ 0 = omega arith in
    rw (opcode, none) refl

-- whatever word is as it is asked, it is no JAL x0
abbrev NoJump : Asked → Type 0
NoJump q = (x : ℕ) → As q x → is_jump x ≡ true → ⊥

abbrev NoJumps : List Slot → Type 0
NoJumps [] = Unit {0}
NoJumps (s ∷ ss) = NoJump s.asked × NoJumps ss

abbrev is_jal : Instr → Bool
is_jal (instr.Jal rd off) = true
is_jal _ = false

some_same : (i j : Instr) → ◌≡◌ {A = Option Instr} (Some i) (Some j) → i ≡ j
some_same i j e = cc

no_jal : (i : Instr) → is_jal i ≡ false → NoJump (Decodes i)
no_jal i other x is jump =
    let same : i ≡ instr.Jal 0 (imm_j x) = some_same i (instr.Jal 0 (imm_j x)) (sym is ∙ jump_decodes x jump) in
    let both : true ≡ false = sym (ap is_jal same) ∙ other in
    cc

no_number : (n : ℕ) → (n % 4 ≡ 3 → ⊥) → NoJump (Is n)
no_number n low x is jump =
    let bits : x % 2 ^ 12 ≡ 0x6f = eqb-true _ _ jump in
    low (omega (arith, is))

no_ebreak : NoJump (Is ebreak)
no_ebreak x is jump =
    let bits : x % 2 ^ 12 ≡ 0x6f = eqb-true _ _ jump in
    absurd (omega (arith, is))

no_word : (w : ℕ) (i : Instr) → decoded w ≡ Some i → is_jal i ≡ false → NoJump (Is w)
no_word w i is other x same jump = no_jal i other x (ap decoded same ∙ is) jump

-- what stands for a text word at a multiple of 4

behind : (a : ℕ) → a % 4 ≡ 0 → sum a 4 % 4 ≡ 3 → ⊥
behind a aligned e = omega arith

ahead : (a off : ℕ) → a % 4 ≡ 0 → off % 2 ≡ 0 → sum a off % 4 ≡ 3 → ⊥
ahead a off aligned even e = omega arith

marked : (a : ℕ) → a % 4 ≡ 0 → sum a 1 % 4 ≡ 3 → ⊥
marked a aligned e = omega arith

of_jump : (m l : Bool) (rd t a : ℕ) → (t % 4 ≡ 3 → ⊥) → NoJumps (jump m l rd t a)
of_jump false l rd t a low = (no_ebreak, (no_number t low, tt))
of_jump true true rd t a low = (no_ebreak, (no_number t low, tt))
of_jump true false rd t a low = (no_jal _ refl, (no_jal _ refl, (no_ebreak, (no_number t low, tt))))

of_word : (i : Option Instr) (w a : ℕ) → decoded w ≡ i → a % 4 ≡ 0 → NoJumps (rendering_of i w a)
of_word None w a is aligned = (no_ebreak, (no_number (sum a 1) (marked a aligned), tt))
of_word (Some instr.Ebreak) w a is aligned = (no_ebreak, (no_number (sum a 1) (marked a aligned), tt))
of_word (Some (instr.Auipc rd imm)) w a is aligned = (no_jal _ refl, (no_jal _ refl, tt))
of_word (Some (instr.Jal rd off)) w a is aligned = of_jump (sum a off % 4 == 0) (rd == 0) rd (sum a off) a (ahead a off aligned (jal_even w rd off is))
of_word (Some (instr.Branch op rs1 rs2 off)) w a is aligned = (no_jal _ refl, (no_ebreak, (no_number (sum a off) (ahead a off aligned (branch_even w op rs1 rs2 off is)), tt)))
of_word (Some (instr.Jalr rd rs1 imm)) w a is aligned = (no_ebreak, (no_word w _ is refl, (no_number (sum a 4) (behind a aligned), tt)))
of_word (Some i) w a is aligned = (no_word w i is refl, tt)

of_rendering : (w a : ℕ) → a % 4 ≡ 0 → NoJumps (rendering w a)
unfolding rendering
of_rendering w a aligned = of_word (decoded w) w a refl aligned

-- and in a block of them

of_both : (ss rr : List Slot) → NoJumps ss → NoJumps rr → NoJumps (ss ++ rr)
of_both [] rr one two = two
of_both (s ∷ ss) rr one two = (one.0, of_both ss rr one.1 two)

of_renderings : (a : ℕ) (ws : List ℕ) → a % 4 ≡ 0 → NoJumps (renderings a ws)
unfolding renderings
of_renderings a [] aligned = tt
of_renderings a (w ∷ ws) aligned = of_both (rendering w a) (renderings (a + 4) ws) (of_rendering w a aligned) (of_renderings (a + 4) ws (omega arith))

of_exit : (f : Bool) (a : ℕ) → a % 4 ≡ 0 → NoJumps (if f then fall_exit a else [])
of_exit true a aligned = (no_ebreak, (no_number (sum a 4) (behind a aligned), tt))
of_exit false a aligned = tt

of_block : (a : ℕ) (ws : List ℕ) → a % 4 ≡ 0 → NoJumps (block_of_words a ws)
unfolding block_of_words
of_block a ws aligned = of_both (renderings a ws) (exit_behind a ws) (of_renderings a ws aligned) (of_exit (falls (get_or ws (length ws - 1) 0)) (a + 4 * (length ws - 1)) (omega arith))

of_pads : (n : ℕ) → NoJumps (pads n)
unfolding pads
of_pads zero = tt
of_pads (suc n) = (no_number 0 (λ e. omega arith), of_pads n)

of_filled : (v : ImageData) (ss : List Slot) → NoJumps ss → NoJumps (filled v ss)
of_filled v ss one = elim (cases_Bool (v.version == 1)) [
  | inl is ↦ rw is (of_both ss (pads (v.block_words - length ss)) one (of_pads (v.block_words - length ss)))
  | inr other ↦ rw other one
]

at_each : (ss : List Slot) (o : ℕ) → NoJumps ss → o < length ss → NoJump (get_or ss o pad).asked
at_each [] o none inside = absurd (omega arith)
at_each (s ∷ ss) zero none inside = none.0
at_each (s ∷ ss) (suc o) none inside = at_each ss o none.1 (omega arith)

known : (v : ImageData) (b o : ℕ) → IsImage v → o < length_at v b → b < length v.starts
unfolding block_at
known v b o i inside = elim (cases_lt b (length v.blocks)) [
  | inl within ↦ omega (arith, i.blocks)
  | inr past ↦ absurd (let none : length (get_or v.blocks b []) ≡ 0 = ap (λ (ws : List ℕ). length ws) (get_or_past v.blocks b [] past) in omega arith)
]

pub no_jump : HasNoJump
no_jump t v aligned i of b o inside jump =
    let block = of.blocks b (known v b o i inside) in
    let asked = filled v (block_between t (start_of v b) (next_start v b)) in
    let none : NoJumps asked = of_filled v _ (of_block (address_of t (start_of v b)) (part (start_of v b) (next_start v b - start_of v b) t.words) (omega arith)) in
    at_each asked o none (omega (arith, block.words.size, inside)) (word_at v b o) (block.words.each o (omega (arith, block.words.size, inside))) jump
