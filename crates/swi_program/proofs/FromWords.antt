-- Words as bytes.
use Rattle.std.proofs.Common.{◌≡◌, ℕ, ◌+◌, ◌*◌, ◌<◌, ◌≤◌, List, [], ◌∷◌, ◌++◌, length, get_or, drop, refl, arith, append_assoc}
use Rattle.std.proofs.lemmas.List.{drop_more}
use Rattle.std.proofs.lemmas.Grind.{common_steps}
use Rattle.byteorder.specs.Endian.{little_bytes}
use Rattle.swi_program.specs.ProgramOf.{bytes_of_words}

pub byte_step : (done grown ws : List ℕ) (i d : ℕ) → i < length ws → grown ≡ done ++ little_bytes 4 (get_or ws i d) →
    grown ++ bytes_of_words (drop (i + 1) ws) ≡ done ++ bytes_of_words (drop i ws)
unfolding bytes_of_words
byte_step done grown ws i d within is = rw (is, append_assoc, drop_more ws i d within) refl

pub byte_end : (done ws : List ℕ) (i : ℕ) → length ws ≤ i → done ++ bytes_of_words (drop i ws) ≡ done
unfolding bytes_of_words
byte_end done ws i past = grind (arith, common_steps)

pub length_bytes : (ws : List ℕ) → length (bytes_of_words ws) ≡ 4 * length ws
unfolding bytes_of_words
length_bytes [] = refl
length_bytes (w ∷ ws) = omega (arith, length_bytes ws)

pub ruleset byte_steps = (byte_step, byte_end, length_bytes)
