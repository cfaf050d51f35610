-- The blocks of several programs, each under one number, its key; and what the programs' images say of a block by its key.
use Rattle.std.proofs.Common.{◌≡◌, ℕ, ◌+◌, ◌*◌, ◌/◌, ◌%◌, ◌^◌, ◌<◌, length, Option, Some, None, arith}
use Rattle.std.proofs.lemmas.Nat.{mod-mul-add, div-mul-add, div-add-mod', mod_below}
use Rattle.swi_image.specs.Format.{ImageData}
use Rattle.swi_image.specs.Place.{place_of, word_at, length_at}
use Rattle.swi_rom.specs.Coherent.{IsExit}

-- the key of a program's block, and of which program a key is, and of which block of it
abbrev pub key_of : ℕ → ℕ → ℕ
key_of p b = p * 2 ^ 19 + b

unfoldable pub owner_of : ℕ → ℕ
owner_of k = k / 2 ^ 19

unfoldable pub number_of : ℕ → ℕ
number_of k = k % 2 ^ 19

pub key_owner : (p b : ℕ) → b < 2 ^ 19 → owner_of (key_of p b) ≡ p
unfolding owner_of
key_owner p b lt = div-mul-add p (2 ^ 19) b lt

pub key_number : (p b : ℕ) → b < 2 ^ 19 → number_of (key_of p b) ≡ b
unfolding number_of
key_number p b lt = mod-mul-add p (2 ^ 19) b lt

pub key_parts : (k : ℕ) → key_of (owner_of k) (number_of k) ≡ k
unfolding owner_of number_of
key_parts k = div-add-mod' k (2 ^ 19)

pub number_below : (k : ℕ) → number_of k < 2 ^ 19
unfolding number_of
number_below k = mod_below k (2 ^ 19) (omega arith)

-- the program's image for each program
abbrev pub Images : Type 0
Images = ℕ → ImageData

-- the word at an offset of a block, how many it has, and whether an exit stands there
abbrev pub word_in : Images → ℕ → ℕ → ℕ
word_in vs k o = word_at (vs (owner_of k)) (number_of k) o

abbrev pub words_in : Images → ℕ → ℕ
words_in vs k = length_at (vs (owner_of k)) (number_of k)

abbrev pub ExitOf : Images → ℕ → ℕ → Type 0
ExitOf vs k o = IsExit (vs (owner_of k)) (number_of k) o

abbrev pub IsKnown : Images → ℕ → Type 0
IsKnown vs k = number_of k < length (vs (owner_of k)).blocks

-- the key of a program's block, with an offset
abbrev pub key_place : ℕ → Option (ℕ × ℕ) → Option (ℕ × ℕ)
key_place p None = None
key_place p (Some q) = Some (key_of p q.0, q.1)

-- where the address stands in the images, for a block's own program
abbrev pub goes : Images → ℕ → ℕ → Option (ℕ × ℕ)
goes vs k t = key_place (owner_of k) (place_of (vs (owner_of k)) t)
