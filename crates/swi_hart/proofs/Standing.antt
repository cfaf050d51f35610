-- What stands in a block for a text word, by its instruction.
use Rattle.std.proofs.Common.{◌≡◌, ℕ, ◌+◌, ◌-◌, ◌%◌, ◌^◌, ◌<◌, ◌≤◌, Bool, true, false, not, ◌&&◌, List, [], ◌∷◌, length, Option, Some, arith, refl, sym, ap, subst, ◌∙◌}
use Rattle.std.proofs.lemmas.Bool.{false≢true}
use Rattle.swi_isa.specs.declared.instr.Instr.{Instr}
use Rattle.swi_isa.specs.Decode.{decoded}
use Rattle.swi_memory.specs.Bus.{fetched}
use Rattle.swi_exec.specs.Arithmetic.{sum_of}
use Rattle.swi_calls.specs.declared.machine.Machine.{Machine}
use Rattle.swi_image.specs.Format.{ImageData}
use Rattle.swi_image.specs.Place.{place_of, word_at, length_at}
use Rattle.swi_render.specs.Rendering.{Slot, rendering, rendering_of, falls, falls_of, jump, upper, lower, ebreak}
use Rattle.swi_render.specs.Carried.{StandAt, GoesOn, StandsFor, Carries}
use Rattle.swi_hart.specs.Hart.{slots, slots_at, leads}

-- the rendering of the text word w at a stands at an offset, and behind it the run goes on
pub record Stands (v : ImageData) (w a b o : ℕ) (x : Option Instr) : Type 0 where
  pub words : StandAt v b o (rendering_of x w a)
  pub behind : falls_of x ≡ true → GoesOn v (sum_of a 4) b (o + length (rendering_of x w a))
  pub known : b < length v.blocks

as_decoded : (v : ImageData) (w a b o : ℕ) → StandsFor v w a b o → Stands v w a b o (decoded w)
unfolding rendering falls
as_decoded v w a b o st = record { words = st.words; behind = st.behind; known = st.known }

-- what stands for the text word at a place
pub stands_for : (v : ImageData) (f : Machine) (w b o : ℕ) (x : Option Instr) → Carries (fetched f.bus) v → fetched f.bus f.pc ≡ Some w → decoded w ≡ x → place_of v f.pc ≡ Some (b, o) → Stands v w f.pc b o x
stands_for v f w b o x image fetch is at =
    let some = image.stands f.pc w fetch in
    let pair : ◌≡◌ {A = ℕ × ℕ} (some.0, some.1) (b, o) = cc in
    let eb : some.0 ≡ b = ap (λ (p : ℕ × ℕ). p.0) pair in
    let eo : some.1 ≡ o = ap (λ (p : ℕ × ℕ). p.1) pair in
    subst (λ (k : Option Instr). Stands v w f.pc b o k) is (as_decoded v w f.pc b o (subst (λ n. StandsFor v w f.pc n o) eb (subst (λ n. StandsFor v w f.pc some.0 n) eo some.3)))

rendering_is : (w a : ℕ) → rendering w a ≡ rendering_of (decoded w) w a
unfolding rendering
rendering_is w a = refl

pub slots_are : (f : Machine) (w : ℕ) (x : Option Instr) → fetched f.bus f.pc ≡ Some w → decoded w ≡ x → slots f ≡ rendering_of x w f.pc
slots_are f w x fetch is = ap (λ (k : Option ℕ). slots_at f.pc k) fetch ∙ rendering_is w f.pc ∙ ap (λ (k : Option Instr). rendering_of k w f.pc) is

-- the words that stand somewhere are within the block
pub are_within : (v : ImageData) (b o : ℕ) (ss : List Slot) → StandAt v b o ss → o + length ss ≤ length_at v b
are_within v b o [] at = omega arith
are_within v b o (s ∷ rest) at = let later = are_within v b (o + 1) rest at.1 in omega arith

-- LUI and ADDI together load the value
halves_by : (u v : ℕ) → u ≤ 2 ^ 32 → v < 2 ^ 32 → (u + (v + 2 ^ 32 - u) % 2 ^ 32) % 2 ^ 32 ≡ v
halves_by u v up low = omega arith

pub halves : (v : ℕ) → v < 2 ^ 32 → sum_of (upper v) (lower v) ≡ v
halves v low = halves_by (upper v) v (omega arith) low

-- a jump that keeps its return address
pub linked_jump : (v : ImageData) (b o : ℕ) (q z : Bool) (rd t a : ℕ) → (q && not z) ≡ true → StandAt v b o (jump q z rd t a) → StandAt v b o (jump true false rd t a)
linked_jump v b o true true rd t a e st = absurd (false≢true e)
linked_jump v b o true false rd t a e st = st
linked_jump v b o false z rd t a e st = absurd (false≢true e)

-- one that keeps none
pub plain_jump : (v : ImageData) (b o : ℕ) (q z : Bool) (rd t a : ℕ) → (q && not z) ≡ false → StandAt v b o (jump q z rd t a) → (word_at v b o ≡ ebreak) × (word_at v b (o + 1) ≡ t)
plain_jump v b o true true rd t a e st = (st.0, st.1.0)
plain_jump v b o true false rd t a e st = absurd (false≢true (sym e))
plain_jump v b o false z rd t a e st = (st.0, st.1.0)

pub plain_within : (v : ImageData) (b o : ℕ) (q z : Bool) (rd t a : ℕ) → (q && not z) ≡ false → StandAt v b o (jump q z rd t a) → o + 2 ≤ length_at v b
plain_within v b o true true rd t a e st = are_within v b o (jump true true rd t a) st
plain_within v b o true false rd t a e st = absurd (false≢true (sym e))
plain_within v b o false z rd t a e st = are_within v b o (jump false z rd t a) st

pub linked_leads : (q z : Bool) (rd t a : ℕ) → (q && not z) ≡ true → leads (jump q z rd t a) ≡ 2
linked_leads true true rd t a e = absurd (false≢true e)
linked_leads true false rd t a e = refl
linked_leads false z rd t a e = absurd (false≢true e)

pub plain_leads : (q z : Bool) (rd t a : ℕ) → (q && not z) ≡ false → leads (jump q z rd t a) ≡ 0
plain_leads true true rd t a e = refl
plain_leads true false rd t a e = absurd (false≢true (sym e))
plain_leads false z rd t a e = refl
