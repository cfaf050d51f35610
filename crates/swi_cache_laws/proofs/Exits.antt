-- The exits of an image are all among its list, and the lengths of blocks that differ come to at most all words.
use Rattle.std.proofs.Common.{◌≡◌, ℕ, suc, zero, ◌+◌, ◌%◌, ◌<◌, ◌≤◌, ◌==◌, ◌&&◌, Bool, true, false, List, [], ◌∷◌, length, get_or, take, sum_by, if◌then◌else◌, arith, refl, ◌∙◌, ap, subst, inl, inr}
use Rattle.std.proofs.lemmas.Bool.{both_ways}
use Rattle.std.proofs.lemmas.Bool.Decides.{nat_tests}
use Rattle.std.proofs.lemmas.List.{take_all}
use Rattle.std.proofs.lemmas.List.Sums.{sum_by_more}
use Rattle.swi_image.specs.Format.{ImageData}
use Rattle.swi_image.specs.Place.{block_at, length_at}
use Rattle.swi_rom.specs.Record.{Has, ebreak}
use Rattle.swi_rom.specs.Coherent.{IsExit}
use Rattle.swi_cache_laws.specs.Room.{words_of, is_exit, exits_in, exits_from, exits_of}
use Rattle.swi_cache_laws.proofs.Few.{Distinct, total, light_distinct, numbers, below_numbers, has_left, has_right}

pair_is : (b o q : ℕ) → o ≡ q → (let x : ℕ × ℕ = (b, o) in let y : ℕ × ℕ = (b, q) in x ≡ y)
pair_is b o q e = rw e refl

exit_here : (t : Bool) (b o : ℕ) (rest : List (ℕ × ℕ)) → t ≡ true → Has (if t then (b, o) ∷ rest else rest) (b, o)
exit_here true b o rest e = inl refl
exit_here false b o rest e = absurd (both_ways false refl e)

exit_later : (t : Bool) (x : ℕ × ℕ) (rest : List (ℕ × ℕ)) (y : ℕ × ℕ) → Has rest y → Has (if t then x ∷ rest else rest) y
exit_later true x rest y h = inr h
exit_later false x rest y h = h

next_word : (w : ℕ) (ws : List ℕ) (i : ℕ) → get_or (w ∷ ws) (suc i + 1) 0 % 4 ≡ 0 → get_or ws (i + 1) 0 % 4 ≡ 0
next_word w ws i e =
    let on : suc i + 1 ≡ suc (i + 1) = omega arith in
    subst (λ (k : ℕ). get_or (w ∷ ws) k 0 % 4 ≡ 0) on e

in_block : (b o i : ℕ) (ws : List ℕ) → i + 1 < length ws → get_or ws i 0 ≡ ebreak → get_or ws (i + 1) 0 % 4 ≡ 0 → Has (exits_in b o ws) (b, o + i)
in_block b o i [] lt w x = absurd (omega arith)
in_block b o zero (w ∷ []) lt is x = absurd (omega arith)
in_block b o zero (w ∷ x ∷ ws) lt is aligned =
    subst (λ (y : ℕ × ℕ). Has (exits_in b o (w ∷ x ∷ ws)) y) (pair_is b o (o + 0) (omega arith))
    (exit_here (w == ebreak && x % 4 == 0) b o (exits_in b (o + 1) (x ∷ ws)) (grind (arith, nat_tests)))
in_block b o (suc i) (w ∷ ws) lt is aligned =
    exit_later (is_exit w ws) (b, o) (exits_in b (o + 1) ws) (b, o + suc i)
    (subst (λ (y : ℕ × ℕ). Has (exits_in b (o + 1) ws) y) (pair_is b (o + 1 + i) (o + suc i) (omega arith)) (in_block b (o + 1) i ws (omega arith) is (next_word w ws i aligned)))

first_is : (b c o : ℕ) → b ≡ c → (let x : ℕ × ℕ = (b, o) in let y : ℕ × ℕ = (c, o) in x ≡ y)
first_is b c o e = rw e refl

in_blocks : (from b o : ℕ) (blocks : List (List ℕ)) → o + 1 < length (get_or blocks b []) → get_or (get_or blocks b []) o 0 ≡ ebreak → get_or (get_or blocks b []) (o + 1) 0 % 4 ≡ 0 →
    Has (exits_from from blocks) (from + b, o)
in_blocks from b o [] lt is aligned = absurd (omega arith)
in_blocks from zero o (ws ∷ blocks) lt is aligned =
    has_left (exits_in from 0 ws) (exits_from (from + 1) blocks) (from + 0, o)
    (subst (λ (y : ℕ × ℕ). Has (exits_in from 0 ws) y) (pair_is from (0 + o) o (omega arith) ∙ first_is from (from + 0) o (omega arith)) (in_block from 0 o ws lt is aligned))
in_blocks from (suc b) o (ws ∷ blocks) lt is aligned =
    has_right (exits_in from 0 ws) (exits_from (from + 1) blocks) (from + suc b, o)
    (subst (λ (y : ℕ × ℕ). Has (exits_from (from + 1) blocks) y) (first_is (from + 1 + b) (from + suc b) o (omega arith)) (in_blocks (from + 1) b o blocks lt is aligned))

pub exit_listed : (v : ImageData) (b o : ℕ) → IsExit v b o → Has (exits_of v) (b, o)
unfolding block_at
exit_listed v b o is = subst (λ (y : ℕ × ℕ). Has (exits_of v) y) (first_is (0 + b) b o (omega arith)) (in_blocks 0 b o v.blocks is.inside is.leaves is.direct)

-- ---- words

numbered : (v : ImageData) (n : ℕ) → n ≤ length v.blocks → total (length_at v) (numbers n) ≡ sum_by length (take n v.blocks)
unfolding block_at
numbered v zero le = refl
numbered v (suc n) le =
    let more : sum_by length (take (n + 1) v.blocks) ≡ sum_by length (take n v.blocks) + length (get_or v.blocks n []) = sum_by_more length v.blocks n [] (omega arith) in
    let on : suc n ≡ n + 1 = omega arith in
    omega (arith, more, numbered v n (omega arith), ap (λ (m : ℕ). sum_by length (take m v.blocks)) on)

pub words_most : (v : ImageData) (bs : List ℕ) → Distinct bs → ((b : ℕ) → Has bs b → b < length v.blocks) → total (length_at v) bs ≤ words_of v
words_most v bs d known =
    let light = light_distinct (length_at v) bs (numbers (length v.blocks)) d (λ b h. below_numbers (length v.blocks) b (known b h)) in
    omega (arith, light, numbered v (length v.blocks) (omega arith), ap (λ (xs : List (List ℕ)). sum_by length xs) (take_all (length v.blocks) v.blocks (omega arith)))
