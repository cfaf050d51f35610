-- An image with a difference is none of the text.
use Rattle.std.proofs.Common.{ℕ, length, get_or, arith, ap, ◌∙◌, sym, subst, inl, inr, Result, Ok, Err}
use Rattle.std.specs.Prelude.{OnErr, IfErr}
use Rattle.swi_program.specs.Text.{TextData}
use Rattle.swi_image.specs.Format.{ImageData}
use Rattle.swi_image.specs.Place.{next_start}
use Rattle.swi_render.specs.Rendering.{As}
use Rattle.swi_render.specs.ImageOf.{pad, start_of, block_between, IsBlockOf, IsImageOf}
use Rattle.swi_render.proofs.Stands.{filled_two}
use Rattle.swi_check.specs.declared.mismatch.Mismatch.{Mismatch}
use Rattle.swi_check.specs.declared.mismatch.Mismatch.TheVariants.{Cover, Place, Long, Length, Word}
use Rattle.swi_check.specs.Mismatches.{asked_between, IsMismatch, IsFirstWrong, IsWrongIn, IsUncovered}

-- a block with a difference is none of the text
pub not_block : (t : TextData) (v : ImageData) (b : ℕ) (m : Mismatch) → IsWrongIn t v b m → IsBlockOf t v b → ⊥
not_block t v b (Cover address) w r = w
not_block t v b (Place address held required) w r = w.wrong (w.held_is ∙ (r.offsets w.word w.low w.high ∙ sym w.required_is))
not_block t v b (Long block needs) w r = omega (arith, w.2, w.3, r.fits)
not_block t v b (Length block held required) w r =
    w.6 (w.5 ∙ (r.words.size ∙ (ap length (filled_two v (block_between t (start_of v b) (next_start v b)) w.4) ∙ sym w.2)))
not_block t v b (Word block offset held required) w r =
    w.4.wrong (subst (λ (x : ℕ). As (get_or (asked_between t v (start_of v b) (next_start v b)) offset pad).asked x) (sym w.4.held_is) (r.words.each offset w.4.within))

first_not : (t : TextData) (v : ImageData) (m : Mismatch) → IsFirstWrong t v m → IsImageOf t v → ⊥
first_not t v m f i = not_block t v f.block m f.wrong (i.blocks f.block f.within)

cover_not : (t : TextData) (v : ImageData) (a : ℕ) → IsUncovered t v a → IsImageOf t v → ⊥
cover_not t v a (inl x) i = x.0 i.base
cover_not t v a (inr x) i = x.1 i.len

mismatch_not : (t : TextData) (v : ImageData) (m : Mismatch) → IsMismatch t v m → IsImageOf t v → ⊥
mismatch_not t v (Cover address) w i = cover_not t v address w i
mismatch_not t v (Place address held required) w i = first_not t v (Place address held required) w i
mismatch_not t v (Long block needs) w i = first_not t v (Long block needs) w i
mismatch_not t v (Length block held required) w i = first_not t v (Length block held required) w i
mismatch_not t v (Word block offset held required) w i = first_not t v (Word block offset held required) w i

pub err_not : (t : TextData) (v : ImageData) (r : Result (Unit {0}) Mismatch) → IfErr r (IsMismatch t v) → OnErr r (IsImageOf t v → ⊥)
err_not t v (Ok x) w = tt
err_not t v (Err m) w = mismatch_not t v m w
