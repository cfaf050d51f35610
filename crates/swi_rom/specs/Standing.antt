-- Which word stands where, as a service's record tells it.
use Rattle.std.proofs.Common.{◌≡◌, ℕ, ◌+◌, ◌-◌, ◌<◌, ◌≤◌, Bool, true, false, List, slice_index, Option, Some, None, if◌then◌else◌, refl, sym, ap, subst, ◌∙◌, inl, inr, arith}
use Rattle.std.proofs.lemmas.Bool.{cases_Bool}
use Rattle.swi_image.specs.Format.{ImageData}
use Rattle.swi_image.specs.Place.{length_at, place_of, word_at}
use Rattle.swi_rom.specs.Record.{Placed, Record, is_linked, jump_word}
use Rattle.swi_rom.specs.Coherent.{Coherent, TargetAt}
use Rattle.swi_rom.specs.Found.{first_in_has}
use Rattle.swi_rom.specs.Policy.{first_of}

-- the jump from an index to where a place stands
abbrev pub jump_to : Record → ℕ → Option (ℕ × ℕ) → ℕ
jump_to r from None = 0
jump_to r from (Some p) = jump_word from (first_of r p.0 + p.1)

-- The word that stands at the offset of a placed block: at an exit that is linked the jump to where its target stands, and else the image's.
unfoldable pub standing_word : ImageData → Record → ℕ → ℕ → ℕ
standing_word v r b o = if is_linked r b o then jump_to r (first_of r b + o) (place_of v (word_at v b (o + 1))) else word_at v b o

-- and so at an index, in a block
abbrev pub word_in : ImageData → Record → ℕ → ℕ → ℕ
word_in v r b i = standing_word v r b (i - first_of r b)

pub first_is : (r : Record) (b f : ℕ) → ((b f g : ℕ) → Placed r b f → Placed r b g → f ≡ g) → Placed r b f → first_of r b ≡ f
unfolding Placed first_of
first_is r b f once at = first_in_has r.placed r.turn b f at (λ g other. once b g f other at)

-- a coherent ram holds it there
module _ (v : ImageData) (r : Record) (span : ℕ) (words : List ℕ) (c : Coherent v r span words) where
  target_is : (from t j : ℕ) → TargetAt v r t j → jump_to r from (place_of v t) ≡ jump_word from j
  target_is from t j at =
      let first : first_of r at.block ≡ at.first = first_is r at.block at.first c.once at.is_placed in
      let index : first_of r at.block + at.offset ≡ j = (let i = at.index in omega (arith, first, i)) in
      ap (λ (p : Option (ℕ × ℕ)). jump_to r from p) at.place_is ∙ ap (λ (n : ℕ). jump_word from n) index

  pub word_stands : (b f o : ℕ) → Placed r b f → o < length_at v b → slice_index words (f + o) ≡ standing_word v r b o
  unfolding standing_word
  word_stands b f o placed inside = elim (cases_Bool (is_linked r b o)) [
    | inl linked ↦
        let l = c.linked b f o placed linked in
        let first : first_of r b + o ≡ f + o = ap (λ (n : ℕ). n + o) (first_is r b f c.once placed) in
        l.2.word
        ∙ sym (target_is (f + o) (word_at v b (o + 1)) l.0 l.1)
        ∙ ap (λ (n : ℕ). jump_to r n (place_of v (word_at v b (o + 1)))) (sym first)
        ∙ ap (λ (t : Bool). if t then jump_to r (first_of r b + o) (place_of v (word_at v b (o + 1))) else word_at v b o) (sym linked)
    | inr plain ↦
        c.plain b f o placed inside plain
        ∙ ap (λ (t : Bool). if t then jump_to r (first_of r b + o) (place_of v (word_at v b (o + 1))) else word_at v b o) (sym plain)
  ]

  pub index_stands : (b f o i : ℕ) → Placed r b f → o < length_at v b → i ≡ f + o → slice_index words i ≡ word_in v r b i
  index_stands b f o i placed inside is =
      let first = first_is r b f c.once placed in
      let offset : o ≡ i - first_of r b = omega (arith, first, is) in
      ap (λ (n : ℕ). slice_index words n) is ∙ word_stands b f o placed inside ∙ ap (λ (n : ℕ). standing_word v r b n) offset
