-- A text word has a place, so a program is entered there.
use Rattle.std.proofs.Common.{◌≡◌, ◌==◌, ℕ, ◌+◌, ◌-◌, ◌*◌, ◌/◌, ◌%◌, ◌≤◌, Bool, true, ◌&&◌, nat_le, Option, Some, None, is_some, length, slice_index, if◌then◌else◌, refl, ap, ◌∙◌, arith}
use Rattle.std.proofs.lemmas.Bool.Decides.{nat_tests}
use Rattle.swi_image.specs.Format.{ImageData}
use Rattle.swi_image.specs.Place.{place_of}
use Rattle.swi_program.specs.Text.{TextData, IsTextAddress, word_of}
use Rattle.swi_render.specs.Carried.{Carries}
use Rattle.swi_board.specs.Board.{entries}

le_test : (a b : ℕ) → a ≤ b → nat_le a b ≡ true
le_test a b le = grind (arith, nat_tests)

four_test : (a : ℕ) → a % 4 ≡ 0 → (a % 4 == 0) ≡ true
four_test a e = rw e refl

word_is : (t : TextData) (a : ℕ) → IsTextAddress t a → word_of t a ≡ Some (slice_index t.words ((a - t.base) / 4))
word_is t a at =
    ap (λ (q : Bool). if q && (nat_le t.base a && nat_le (a + 4) (t.base + 4 * length t.words)) then Some (slice_index t.words ((a - t.base) / 4)) else None) (four_test a at.aligned)
    ∙ ap (λ (q : Bool). if q && nat_le (a + 4) (t.base + 4 * length t.words) then Some (slice_index t.words ((a - t.base) / 4)) else None) (le_test t.base a at.first)
    ∙ ap (λ (q : Bool). if q then Some (slice_index t.words ((a - t.base) / 4)) else None) (le_test (a + 4) (t.base + 4 * length t.words) at.last)

-- a text word has a place
pub text_some : (t : TextData) (v : ImageData) (a : ℕ) → Carries (word_of t) v → IsTextAddress t a → is_some (place_of v a) ≡ true
text_some t v a carries at =
    let some = carries.stands a (slice_index t.words ((a - t.base) / 4)) (word_is t a at) in
    ap (λ (p : Option (ℕ × ℕ)). is_some p) some.2

pub text_place : (t : TextData) (v : ImageData) (a : ℕ) → Carries (word_of t) v → IsTextAddress t a → entries v a ≡ 1
text_place t v a carries at = ap (λ (q : Bool). if q then 1 else 0) (text_some t v a carries at)
