-- The words of a block are one.
use Rattle.std.proofs.Common.{◌≡◌, ◌==◌, ◌%◌, ◌^◌, Bool, Option, Some, None, ℕ, ◌+◌, ◌-◌, ◌*◌, ◌<◌, List, [], ◌∷◌, ◌++◌, length, get_or, zero, suc, true, false, if◌then◌else◌, arith, sym, ◌∙◌}
use Rattle.std.proofs.lemmas.List.{ext_get_or}
use Rattle.swi_isa.specs.declared.instr.BranchOp.{BranchOp}
use Rattle.swi_isa.specs.declared.instr.ImmOp.TheVariants.{Addi}
use Rattle.swi_isa.specs.declared.instr.Instr.{Instr}
use Rattle.swi_isa.specs.declared.instr.Instr.TheVariants.{Lui, Auipc, Jal, Jalr, Branch, Alu, Ebreak}
use Rattle.swi_isa.specs.Decode.{decoded}
use Rattle.swi_encode.proofs.Back.{decoded_again}
use Rattle.swi_program.specs.Text.{TextData}
use Rattle.swi_render.specs.ImageOf.{pad, renderings, exit_behind, block_of_words, block_between, AreWordsOf}
use Rattle.swi_render.specs.Rendering.{Slot, Asked, Decodes, Is, As, jump, sum, rendering, rendering_of, falls, fall_exit}

-- what is asked has one word at most
abbrev pub IsPlain : Asked → Type 0
IsPlain q = (x y : ℕ) → x < 2 ^ 32 → y < 2 ^ 32 → As q x → As q y → x ≡ y

abbrev pub ArePlain : List Slot → Type 0
ArePlain [] = Unit {0}
ArePlain (s ∷ ss) = IsPlain s.asked × ArePlain ss

plain_is : (n : ℕ) → IsPlain (Is n)
plain_is n x y p q a b = a ∙ sym b

plain_lui : (rd v : ℕ) → IsPlain (Decodes (Lui rd v))
plain_lui rd v x y p q a b = sym ((decoded_again x (Lui rd v) p a).0) ∙ (decoded_again y (Lui rd v) q b).0

plain_addi : (rd rs v : ℕ) → IsPlain (Decodes (Alu Addi rd rs v))
plain_addi rd rs v x y p q a b = sym ((decoded_again x (Alu Addi rd rs v) p a).0) ∙ (decoded_again y (Alu Addi rd rs v) q b).0

plain_branch : (op : BranchOp) (r s v : ℕ) → IsPlain (Decodes (Branch op r s v))
plain_branch op r s v x y p q a b = sym ((decoded_again x (Branch op r s v) p a).0) ∙ (decoded_again y (Branch op r s v) q b).0

plain_jump : (m l : Bool) (rd t a : ℕ) → ArePlain (jump m l rd t a)
plain_jump false l rd t a = (plain_is _, (plain_is _, tt))
plain_jump true true rd t a = (plain_is _, (plain_is _, tt))
plain_jump true false rd t a = (plain_lui _ _, (plain_addi _ _ _, (plain_is _, (plain_is _, tt))))

plain_of : (i : Option Instr) (w a : ℕ) → ArePlain (rendering_of i w a)
plain_of None w a = (plain_is _, (plain_is _, tt))
plain_of (Some Ebreak) w a = (plain_is _, (plain_is _, tt))
plain_of (Some (Auipc rd imm)) w a = (plain_lui _ _, (plain_addi _ _ _, tt))
plain_of (Some (Jal rd off)) w a = plain_jump (sum a off % 4 == 0) (rd == 0) rd (sum a off) a
plain_of (Some (Branch op rs1 rs2 off)) w a = (plain_branch _ _ _ _, (plain_is _, (plain_is _, tt)))
plain_of (Some (Jalr rd rs1 imm)) w a = (plain_is _, (plain_is _, (plain_is _, tt)))
plain_of (Some i) w a = (plain_is _, tt)

plain_rendering : (w a : ℕ) → ArePlain (rendering w a)
unfolding rendering
plain_rendering w a = plain_of (decoded w) w a

plain_append : (ss rr : List Slot) → ArePlain ss → ArePlain rr → ArePlain (ss ++ rr)
plain_append [] rr a b = b
plain_append (s ∷ ss) rr a b = (a.0, plain_append ss rr a.1 b)

plain_renderings : (a : ℕ) (ws : List ℕ) → ArePlain (renderings a ws)
unfolding renderings
plain_renderings a [] = tt
plain_renderings a (w ∷ ws) = plain_append (rendering w a) (renderings (a + 4) ws) (plain_rendering w a) (plain_renderings (a + 4) ws)

plain_exit : (f : Bool) (a : ℕ) → ArePlain (if f then fall_exit a else [])
plain_exit true a = (plain_is _, (plain_is _, tt))
plain_exit false a = tt

plain_block : (a : ℕ) (ws : List ℕ) → ArePlain (block_of_words a ws)
unfolding block_of_words
plain_block a ws = plain_append (renderings a ws) (exit_behind a ws) (plain_renderings a ws) (plain_exit (falls (get_or ws (length ws - 1) 0)) (a + 4 * (length ws - 1)))

plain_at : (ss : List Slot) → ArePlain ss → (o : ℕ) → o < length ss → IsPlain (get_or ss o pad).asked
plain_at [] a o within = absurd (omega arith)
plain_at (s ∷ ss) a zero within = a.0
plain_at (s ∷ ss) a (suc o) within = plain_at ss a.1 o (omega arith)

-- words as a block of a text asks
pub block_once : (t : TextData) (first end : ℕ) (xs ys : List ℕ) → AreWordsOf (block_between t first end) xs → AreWordsOf (block_between t first end) ys →
    ((o : ℕ) → get_or xs o 0 < 2 ^ 32) → ((o : ℕ) → get_or ys o 0 < 2 ^ 32) → xs ≡ ys
block_once t first end xs ys a b small small_ =
    ext_get_or 0 xs ys (a.size ∙ sym b.size) (λ o within.
    let inside : o < length (block_between t first end) = omega (arith, a.size) in
    plain_at (block_between t first end) (plain_block _ _) o inside (get_or xs o 0) (get_or ys o 0) (small o) (small_ o) (a.each o inside) (b.each o inside))
