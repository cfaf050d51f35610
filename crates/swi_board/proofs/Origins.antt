-- Where a stretch of steps begins and ends: between two instructions, at a word of a block.
use Rattle.std.proofs.Common.{◌≡◌, ℕ, ◌^◌, ◌<◌, length, Option, Some, None, ap, subst, ◌∙◌, inl, inr, arith}
use Rattle.swi_memory.specs.Bus.{fetched}
use Rattle.swi_exec.specs.Arithmetic.{sum_of}
use Rattle.swi_calls.specs.declared.end.End.{End}
use Rattle.swi_image.specs.Format.{ImageData}
use Rattle.swi_image.specs.Place.{length_at, origin_of, place_of}
use Rattle.swi_image.specs.Row.{row_index}
use Rattle.swi_render.specs.Carried.{FallAt, GoesOn}
use Rattle.swi_image_ops.proofs.Standing.{on_inside, origin_is, place_once}
use Rattle.swi_rom.specs.Record.{Record}
use Rattle.swi_hart.specs.declared.hart.Stage.TheVariants.{Start}
use Rattle.swi_hart.specs.declared.hart.Control.{Control}
use Rattle.swi_hart.specs.declared.hart.Control.TheVariants.{At}
use Rattle.swi_hart.specs.Hart.{HartData}
use Rattle.swi_hart.specs.Matching.{Fits, StandsBy}
use Rattle.swi_board.specs.Advancing.{StandsInRow}
use Rattle.swi_board.specs.Turning.{Origin}

module _ (v : ImageData) (b o x : ℕ) (a : Origin v b o) where
  -- a text word that stands there is the one at its address
  pub origin_at : x < 2 ^ 32 → place_of v x ≡ Some (b, o) → x ≡ a.pc
  origin_at short at = by a.goes
    where
      by : GoesOn v a.pc b o → x ≡ a.pc
      by (inl own) = place_once a.text v x a.pc b o a.carries short a.short at own
      by (inr fall) = absurd (fall.no_place x at)

  -- where none does, an exit to it stands there
  pub origin_behind : x ≡ (origin_of v b o).0 → (place_of v x ≡ Some (b, o) → ⊥) → FallAt v a.pc b o
  origin_behind is apart = by a.goes
    where
      by : GoesOn v a.pc b o → FallAt v a.pc b o
      by (inl own) =
          let same : x ≡ a.pc = is ∙ origin_is a.text v a.pc b o a.carries a.short own in
          absurd (apart (ap (λ (n : ℕ). place_of v n) same ∙ own))
      by (inr fall) = fall

module _ (v : ImageData) (r : Record) (h : HartData) (i b o : ℕ) (fits : Fits v r h) (going : h.machine.ending ≡ None) (control : h.control ≡ At i b o Start) where
  goes_here : GoesOn v h.machine.pc b o
  goes_here = (subst (λ (c : Control). StandsBy None v r h.machine c) control (subst (λ (e : Option End). StandsBy e v r h.machine h.control) going fits.place)).1

  pub start_inside : (b < length v.starts) × (o < length_at v b)
  start_inside = on_inside (fetched h.machine.bus) v h.machine.pc b o fits.image goes_here

  pub start_short : o < 2 ^ 11
  start_short =
      let few = (fits.image.image.lengths b start_inside.0).1 in
      let most = fits.image.image.most in
      let inside = start_inside.1 in
      omega (arith, few, most, inside)

  pub start_stands : (row delta : ℕ) → row ≡ row_index v b o → sum_of row delta ≡ i → h.machine.pc < 2 ^ 32 → StandsInRow v h row delta
  start_stands row delta is at short = record {
    index = i;
    block = b;
    offset = o;
    control = control;
    known = start_inside.0;
    inside = start_inside.1;
    is_row = is;
    is_index = at;
    short = short;
  }
