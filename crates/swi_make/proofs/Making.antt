-- The words of a made text are those that it was made of.
use Rattle.std.proofs.Common.{◌≡◌, ◌∙◌, ◌+◌, ◌-◌, ◌*◌, ◌/◌, ◌^◌, ◌≤◌, ℕ, List, [], ◌∷◌, ◌++◌, length, sum, drop, arith, refl, sym, ap, subst, append_assoc}
use Rattle.std.proofs.lemmas.List.{length-append}
use Rattle.std.proofs.Math.Seq.{drop-append_seam}
use Rattle.std.specs.List.{AllZip}
use Rattle.byteorder.specs.Endian.{little_bytes, little_number}
use Rattle.byteorder.specs.Numbers.{little_number-reads_back}
use Rattle.swi_isa.specs.declared.instr.Instr.{Instr}
use Rattle.swi_program.specs.ProgramOf.{bytes_of_words, program_of_text}
use Rattle.swi_program.specs.Text.{text_of, words_from}
use Rattle.swi_program.proofs.FromWords.{length_bytes}
use Rattle.swi_make.specs.Listing.{instructions_of}
use Rattle.swi_make.specs.Made.{IsMade, IsWordOf}
use Rattle.swi_make.specs.Numbers.{all_additions}
use Rattle.swi_make.proofs.Drawn.{length-additions}
use Rattle.swi_make.proofs.Encoded.{length-words}
use Rattle.swi_make.proofs.Functions.{instructions_length}

words_back : (is : List Instr) (ws front : List ℕ) → AllZip IsWordOf is ws → words_from (front ++ bytes_of_words ws) (length front) (length ws) ≡ ws
unfolding words_from bytes_of_words
words_back [] [] front all = refl
words_back [] (w ∷ ws) front all = absurd all
words_back (i ∷ is) [] front all = absurd all
words_back (i ∷ is) (w ∷ ws) front all =
    let rest : words_from ((front ++ little_bytes 4 w) ++ bytes_of_words ws) (length (front ++ little_bytes 4 w)) (length ws) ≡ ws =
    words_back is ws (front ++ little_bytes 4 w) all.1 in
    let size : length (front ++ little_bytes 4 w) ≡ length front + 4 = length-append front (little_bytes 4 w) in
    let behind : words_from (front ++ (little_bytes 4 w ++ bytes_of_words ws)) (length front + 4) (length ws) ≡ ws =
    rw (← size, ← append_assoc) rest in
    let here : little_number 4 (drop (length front) (front ++ (little_bytes 4 w ++ bytes_of_words ws))) ≡ w =
    rw drop-append_seam (little_number-reads_back 4 w (bytes_of_words ws) all.0.bits) in
    rw (here, behind) refl

text_back : (is : List Instr) (ws : List ℕ) → AllZip IsWordOf is ws → (text_of (program_of_text 0x10000 (bytes_of_words ws)).segments).words ≡ ws
unfolding text_of
text_back is ws all =
    let count : (0x10000 + length (bytes_of_words ws) - 0x10000) / 4 ≡ length ws = omega (arith, length_bytes ws) in
    rw count (words_back is ws [] all)

pub is_made : (seed count : ℕ) (ws text : List ℕ) → AllZip IsWordOf (instructions_of (all_additions seed count)) ws
    → text ≡ bytes_of_words ws → IsMade seed count (program_of_text 0x10000 text)
is_made seed count ws text all is =
    subst (λ (bytes : List ℕ). IsMade seed count (program_of_text 0x10000 bytes)) (sym is)
    (let back : (text_of (program_of_text 0x10000 (bytes_of_words ws)).segments).words ≡ ws = text_back (instructions_of (all_additions seed count)) ws all in
    record { text = rw back all; alone = ap (λ (l : List ℕ). program_of_text 0x10000 (bytes_of_words l)) (sym back) })

-- how long the text is
pub made_size : (seed count : ℕ) (ws text : List ℕ) → AllZip IsWordOf (instructions_of (all_additions seed count)) ws
    → text ≡ bytes_of_words ws → length text ≡ 4 * (6 + 6 * count + sum (all_additions seed count))
made_size seed count ws text all is =
    let functions : length (all_additions seed count) ≡ count = length-additions seed count (all_additions seed count) refl in
    let words : length ws ≡ 6 + 6 * count + sum (all_additions seed count) =
    length-words (instructions_of (all_additions seed count)) ws all
    ∙ instructions_length (all_additions seed count) ∙ ap (λ n. 6 + 6 * n + sum (all_additions seed count)) functions in
    ap length is ∙ length_bytes ws ∙ ap (λ n. 4 * n) words

pub made_most : (ws text : List ℕ) → text ≡ bytes_of_words ws → length ws ≤ 2 ^ 19 → length text ≤ 2 ^ 21
made_most ws text is few = rw is (omega (arith, length_bytes ws, few))

pub ruleset made = (is_made, made_size, made_most)
