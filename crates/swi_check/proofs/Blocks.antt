-- A block, and the first of all that is wrong.
use Rattle.std.proofs.Common.{◌≡◌, ◌⊎◌, ℕ, ◌<◌, ◌≤◌, List, length, arith, ap, ◌∙◌, sym, subst, inl, inr}
use Rattle.swi_program.specs.Text.{TextData}
use Rattle.swi_image.specs.Format.{ImageData}
use Rattle.swi_image.specs.Place.{block_at, next_start}
use Rattle.swi_image.specs.Sound.{IsImage}
use Rattle.swi_render.specs.Rendering.{Slot}
use Rattle.swi_render.specs.ImageOf.{OffsetsRight, IsBlockOf, start_of, block_between}
use Rattle.swi_render.proofs.Stands.{filled_one, filled_two}
use Rattle.swi_check.specs.declared.mismatch.Mismatch.{Mismatch}
use Rattle.swi_check.specs.declared.mismatch.Mismatch.TheVariants.{Cover, Place, Long, Length, Word}
use Rattle.swi_check.specs.Parts.{IsRightBetween}
use Rattle.swi_check.specs.Mismatches.{Covers, asked_between, WordsRight, IsWrongBetween, IsWrongIn, IsMismatch}

-- a block's length, where in version 2 it is that of its renderings and exit
pub whole_block : (t : TextData) (v : ImageData) (b first end version held needs : ℕ) → IsImage v → b < length v.starts → needs ≡ length (block_between t first end) → needs ≤ v.block_words →
    version ≡ v.version → held ≡ length (block_at v b) → ((version ≡ 2) × (held ≡ needs)) ⊎ (version ≡ 2 → ⊥) → length (block_at v b) ≡ length (asked_between t v first end)
whole_block t v b first end version held needs i within needs_is fits version_is held_is tested =
    let ss : List Slot = block_between t first end in
    elim i.version [
      | inl one ↦ i.whole one b within ∙ sym (filled_one v ss one (omega arith))
      | inr two ↦ elim tested [
        | inl both ↦ sym held_is ∙ (both.1 ∙ (needs_is ∙ sym (ap length (filled_two v ss two))))
        | inr other ↦ absurd (other (version_is ∙ two))
      ]
    ]

pub right_between : (t : TextData) (v : ImageData) (b first end : ℕ) → OffsetsRight t v.offsets first end → length (block_between t first end) ≤ v.block_words →
    length (block_at v b) ≡ length (asked_between t v first end) → WordsRight (asked_between t v first end) (block_at v b) (length (block_at v b)) → IsRightBetween t v b first end
right_between t v b first end o f whole w = record {
  offsets = o;
  fits = f;
  words = record { size = whole; each = λ k within. w k (omega (arith, whole)) };
}

pub right_block : (t : TextData) (v : ImageData) (b first end : ℕ) → first ≡ start_of v b → end ≡ next_start v b → IsRightBetween t v b first end → IsBlockOf t v b
right_block t v b first end f e r =
    let here = subst (λ (n : ℕ). IsRightBetween t v b n (next_start v b)) f (subst (λ (n : ℕ). IsRightBetween t v b first n) e r) in
    record { offsets = here.offsets; fits = here.fits; words = here.words }

pub wrong_block : (t : TextData) (v : ImageData) (b first end : ℕ) (m : Mismatch) → first ≡ start_of v b → end ≡ next_start v b → IsWrongBetween t v b first end m → IsWrongIn t v b m
wrong_block t v b first end m f e w = subst (λ (n : ℕ). IsWrongBetween t v b n (next_start v b) m) f (subst (λ (n : ℕ). IsWrongBetween t v b first n m) e w)

pub first_wrong : (t : TextData) (v : ImageData) (b : ℕ) (m : Mismatch) → Covers t v → b < length v.starts → ((c : ℕ) → c < b → IsBlockOf t v c) → IsWrongIn t v b m → IsMismatch t v m
first_wrong t v b (Cover address) c within before w = absurd w
first_wrong t v b (Place address held required) c within before w = record { covers = c; block = b; within = within; before = before; wrong = w }
first_wrong t v b (Long block needs) c within before w = record { covers = c; block = b; within = within; before = before; wrong = w }
first_wrong t v b (Length block held required) c within before w = record { covers = c; block = b; within = within; before = before; wrong = w }
first_wrong t v b (Word block offset held required) c within before w = record { covers = c; block = b; within = within; before = before; wrong = w }
