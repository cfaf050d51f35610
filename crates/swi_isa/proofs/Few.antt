-- Some instructions by the tests of their own rows.
use Rattle.std.proofs.Common.{◌≡◌, ◌≢◌, ℕ, bit_and, refl, ap, subst, ◌∙◌, Bool, true, false, cond, List, [], ◌∷◌, inl, inr, Option, Some, None}
use Rattle.std.proofs.lemmas.Bool.{eq-eqb, ne_eqb, cases_Bool, cases_eq, true≢false, cond-true, cond-false}
use Rattle.swi_isa.specs.declared.instr.Instr.{Instr}
use Rattle.swi_isa.specs.Decode.{decoded_by, decoded}
use Rattle.swi_isa.specs.Kind.{jalr_fields, pc_relative}
use Rattle.swi_isa.specs.Table.{Form, Jalr, Auipc, Jal, Branch, Row, rows, made}
use Rattle.swi_isa.proofs.Apart.{Each, Misses, Tells, by_bit, in_part, told}

-- the rows of the forms that a test picks
abbrev of_forms : (Form → Bool) → List Row → List Row
of_forms picks [] = []
of_forms picks (r ∷ rs) = cond (picks r.form) (r ∷ of_forms picks rs) (of_forms picks rs)

abbrev is_jalr : Form → Bool
is_jalr Jalr = true
is_jalr _ = false

abbrev is_relative : Form → Bool
is_relative Auipc = true
is_relative Jal = true
is_relative (Branch op) = true
is_relative _ = false

not_jalr : (f : Form) (w : ℕ) → is_jalr f ≡ false → jalr_fields (Some (made f w)) ≡ None
not_jalr Jalr w other = absurd (true≢false other)
not_jalr _ w other = refl

not_relative : (f : Form) (w : ℕ) → is_relative f ≡ false → pc_relative (Some (made f w)) ≡ None
not_relative Auipc w other = absurd (true≢false other)
not_relative Jal w other = absurd (true≢false other)
not_relative (Branch op) w other = absurd (true≢false other)
not_relative _ w other = refl

-- a kind that only the rows of some forms have is none where the word misses these rows
missed : {A : Type 0} (kind : Option Instr → Option A) (picks : Form → Bool) (w : ℕ) → kind None ≡ None →
    ((f : Form) → picks f ≡ false → kind (Some (made f w)) ≡ None) →
    (rs : List Row) → Each (Misses w) (of_forms picks rs) → kind (decoded_by rs w) ≡ None
unfolding decoded_by
missed kind picks w none other [] miss = none
missed kind picks w none other (r ∷ rs) miss = elim (cases_Bool (picks r.form)) [
  | inl picked ↦
      let all : Each (Misses w) (r ∷ of_forms picks rs) = subst (Each (Misses w)) (cond-true _ _ _ picked) miss in
      ap kind (cond-false _ _ _ (ne_eqb _ _ all.0)) ∙ missed kind picks w none other rs all.1
  | inr passed ↦
      let all : Each (Misses w) (of_forms picks rs) = subst (Each (Misses w)) (cond-false _ _ _ passed) miss in
      elim (cases_eq (bit_and w r.mask) r.value) [
        | inl hit ↦ ap kind (cond-true _ _ _ (eq-eqb _ _ hit)) ∙ other r.form passed
        | inr miss_here ↦ ap kind (cond-false _ _ _ (ne_eqb _ _ miss_here)) ∙ missed kind picks w none other rs all
      ]
]

-- whether a word is a JALR, by the test of its row
pub by_jalr : (w : ℕ) → (bit_and w 0x707F ≢ 0x67 → jalr_fields (decoded w) ≡ None)
    × (bit_and w 0x707F ≡ 0x67 → jalr_fields (decoded w) ≡ jalr_fields (Some (made Jalr w)))
unfolding decoded
by_jalr w = (
  λ miss. missed jalr_fields is_jalr w refl (λ f. not_jalr f w) rows (miss, tt),
  λ hit. ap jalr_fields ((told rows w refl).1.1.1.0 hit),
)

-- the rows of AUIPC, JAL and the branches
abbrev relatives : List Row
relatives = of_forms is_relative rows

pub by_relative : (w : ℕ) → (pc_relative (decoded w) ≡ pc_relative (decoded_by rows w))
    × (bit_and w 0x40 ≡ 0 → Each (Misses w) (by_bit 0x40 true relatives) → pc_relative (decoded w) ≡ None)
    × (bit_and w 0x40 ≢ 0 → Each (Misses w) (by_bit 0x40 false relatives) → pc_relative (decoded w) ≡ None)
    × Each (Tells (decoded w) w) rows
unfolding decoded
by_relative w = (
  refl,
  λ a miss. missed pc_relative is_relative w refl (λ f. not_relative f w) rows (in_part 0x40 true relatives w refl (eq-eqb _ _ a) miss),
  λ a miss. missed pc_relative is_relative w refl (λ f. not_relative f w) rows (in_part 0x40 false relatives w refl (ne_eqb _ _ a) miss),
  told rows w refl,
)
