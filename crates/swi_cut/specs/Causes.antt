-- Why a text isn't cut.
use Rattle.std.specs.Prelude.{◌≡◌, ℕ}
use Rattle.swi_program.specs.Text.{TextData}
use Rattle.swi_render.specs.ImageOf.{address_of}
use Rattle.swi_render.specs.Cut.{IsFirstLong, needs_of}
use Rattle.swi_cut.specs.declared.refusal.CutRefusal.{CutRefusal}
use Rattle.swi_cut.specs.declared.refusal.CutRefusal.TheVariants.{Long, Memory}

-- a text word is too long: the first that is, told by its address and by how many words it needs; or memory ran out
abbrev pub IsCutCause : TextData → ℕ → CutRefusal → Type 0
IsCutCause t most (Long address needs) =
    (k : ℕ) × IsFirstLong t most k × (address ≡ address_of t k) × (needs ≡ needs_of t k)
IsCutCause t most Memory = Unit {0}
