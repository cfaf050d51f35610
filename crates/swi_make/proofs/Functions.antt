-- How long functions are, one more of them, and that the instructions have words.
use Rattle.std.proofs.Common.{◌≡◌, ◌∙◌, ◌+◌, ◌-◌, ◌*◌, ◌%◌, ◌^◌, ◌<◌, ◌≤◌, ℕ, zero, suc, List, [], ◌∷◌, ◌++◌, All, length, map, sum, take, replicate, get_or, inl, inr, arith, refl, sym, ap, append_assoc}
use Rattle.std.proofs.lemmas.List.{length-append, length-replicate, length-take-le, append-nil, take_more}
use Rattle.std.proofs.lemmas.List.Sums.{sum_by-cons}
use Rattle.std.proofs.lemmas.List.FromFn.{length-map-range_with_len, map-range_with_len_more}
use Rattle.std.proofs.lemmas.List.Elements.{All-nil, All-cons, All-head, All-tail, All-append, All-replicate, All-take, All-from_recursion}
use Rattle.std.proofs.lemmas.Grind.{flat_map-append}
use Rattle.std.specs.List.{range_with_len}
use Rattle.swi_isa.specs.declared.instr.BranchOp.TheVariants.{Beq}
use Rattle.swi_isa.specs.declared.instr.StoreOp.TheVariants.{Sw}
use Rattle.swi_isa.specs.declared.instr.LoadOp.TheVariants.{Lw}
use Rattle.swi_isa.specs.declared.instr.Instr.{Instr}
use Rattle.swi_isa.specs.declared.instr.Instr.TheVariants.{Branch, Ecall, Jal, Jalr, Load, Store}
use Rattle.swi_make.specs.Listing.{addi, a0, a7, ra, s0, sp, x0, call_of, calls_of, main_of, minus, function_of, functions_of, instructions_of}
use Rattle.swi_make.specs.Made.{HasOneWord}
use Rattle.swi_make.proofs.Drawn.{length-additions}
use Rattle.swi_make.proofs.Encoded.{length-words}

pub length-function_of : (n : ℕ) → length (function_of n) ≡ n + 5
length-function_of n =
    rw (length-append (replicate n (addi a0 a0 1)) (Load Lw ra sp 12 ∷ addi sp sp 16 ∷ Jalr x0 ra 0 ∷ []), length-replicate n (addi a0 a0 1)) (omega arith)

pub functions_more : (ns : List ℕ) (i d : ℕ) → i < length ns
    → functions_of (take (i + 1) ns) ≡ functions_of (take i ns) ++ function_of (get_or ns i d)
functions_more ns i d within =
    rw (take_more ns i d within, flat_map-append function_of (take i ns) (get_or ns i d ∷ []), append-nil (function_of (get_or ns i d))) refl

pub length_more : (ns : List ℕ) (i d : ℕ) → i < length ns
    → length (functions_of (take (i + 1) ns)) ≡ length (functions_of (take i ns)) + (get_or ns i d + 5)
length_more ns i d within =
    ap length (functions_more ns i d within) ∙ length-append (functions_of (take i ns)) (function_of (get_or ns i d))
    ∙ ap (λ n. length (functions_of (take i ns)) + n) (length-function_of (get_or ns i d))

functions_length : (ns : List ℕ) → length (functions_of ns) ≡ 5 * length ns + sum ns
functions_length [] = refl
functions_length (n ∷ ns) =
    let rest : length (functions_of ns) ≡ 5 * length ns + sum ns = functions_length ns in
    let all : sum (n ∷ ns) ≡ n + sum ns = sum_by-cons (λ x. x) n ns in
    rw (length-append (function_of n) (functions_of ns), length-function_of n) (omega arith)

-- each function has at most 21 words
pub length_most : (ns : List ℕ) → All (λ n. n ≤ 16) ns → length (functions_of ns) ≤ 21 * length ns
length_most [] each = omega arith
length_most (n ∷ ns) each =
    let here : n ≤ 16 = All-head (λ n. n ≤ 16) n ns each in
    let rest : length (functions_of ns) ≤ 21 * length ns = length_most ns (All-tail (λ n. n ≤ 16) n ns each) in
    rw (length-append (function_of n) (functions_of ns), length-function_of n) (omega arith)

-- ---- the calls

-- what stands behind them
abbrev last_of : List ℕ → List Instr
last_of ns = addi s0 s0 (minus 1) ∷ Branch Beq s0 x0 8 ∷ Jal x0 (minus (4 * (length ns + 2))) ∷ addi a7 x0 93 ∷ Ecall ∷ []

pub calls_more : (front : List Instr) (ns : List ℕ) (i : ℕ)
    → (front ++ map (call_of ns) (range_with_len 0 i)) ++ call_of ns i ∷ [] ≡ front ++ map (call_of ns) (range_with_len 0 (i + 1))
calls_more front ns i = rw (append_assoc, map-range_with_len_more (call_of ns) 0 i i (omega arith)) refl

front_most : (ns : List ℕ) (i : ℕ) → All (λ n. n ≤ 16) ns → i ≤ length ns → length (functions_of (take i ns)) ≤ 21 * i
front_most ns i each within =
    let most : length (functions_of (take i ns)) ≤ 21 * length (take i ns) = length_most (take i ns) (All-take (λ n. n ≤ 16) i ns each) in
    let front : length (take i ns) ≡ i = length-take-le i ns within in
    omega arith

pub ruleset calls = (calls_more, length_more, append-nil)

main_length : (ns : List ℕ) → length (main_of ns) ≡ 6 + length ns
main_length ns =
    let calls : length (calls_of ns) ≡ length ns = length-map-range_with_len (call_of ns) 0 (length ns) in
    rw (length-append (calls_of ns) (last_of ns)) (omega arith)

pub instructions_length : (ns : List ℕ) → length (instructions_of ns) ≡ 6 + 6 * length ns + sum ns
instructions_length ns =
    rw (length-append (main_of ns) (functions_of ns)) (omega (arith, main_length ns, functions_length ns))

-- there are few
pub instructions_most : (ns : List ℕ) → length ns ≤ 4096 → All (λ n. n ≤ 16) ns → length (instructions_of ns) ≤ 2 ^ 19
instructions_most ns few each =
    rw (length-append (main_of ns) (functions_of ns)) (omega (arith, main_length ns, length_most ns each))

-- ---- every instruction has one word

call_word : (ns : List ℕ) (i : ℕ) → length ns ≤ 4096 → All (λ n. n ≤ 16) ns → i < length ns → HasOneWord (call_of ns i)
call_word ns i few each within =
    let most : length (functions_of (take i ns)) ≤ 21 * i = front_most ns i each (omega arith) in
    record { valid = (inl (omega arith), omega arith); own = λ w. refl }

mapped : (f : ℕ → Instr) (a n : ℕ) → ((i : ℕ) → a ≤ i → i < a + n → HasOneWord (f i)) → All HasOneWord (map f (range_with_len a n))
mapped f a zero each = All-nil HasOneWord
mapped f a (suc n) each =
    All-cons HasOneWord (f a) (map f (range_with_len (a + 1) n)) (each a (omega arith) (omega arith))
    (mapped f (a + 1) n (λ i from below. each i (omega arith) (omega arith)))

function_words : (n : ℕ) → All HasOneWord (function_of n)
function_words n =
    All-append HasOneWord (addi sp sp (minus 16) ∷ Store Sw sp ra 12 ∷ []) (replicate n (addi a0 a0 1) ++ returned)
    (All-from_recursion HasOneWord (addi sp sp (minus 16) ∷ Store Sw sp ra 12 ∷ [])
    (record { valid = inr (omega arith); own = λ w. refl }, (record { valid = inl (omega arith); own = λ w. refl }, tt)))
    (All-append HasOneWord (replicate n (addi a0 a0 1)) returned
    (All-replicate HasOneWord n (addi a0 a0 1) (record { valid = inl (omega arith); own = λ w. refl }))
    (All-from_recursion HasOneWord returned
    (record { valid = inl (omega arith); own = λ w. refl }, (record { valid = inl (omega arith); own = λ w. refl }, (record { valid = inl (omega arith); own = λ w. refl }, tt)))))
  where
    returned : List Instr
    returned = Load Lw ra sp 12 ∷ addi sp sp 16 ∷ Jalr x0 ra 0 ∷ []

functions_words : (ns : List ℕ) → All HasOneWord (functions_of ns)
functions_words [] = All-nil HasOneWord
functions_words (n ∷ ns) = All-append HasOneWord (function_of n) (functions_of ns) (function_words n) (functions_words ns)

main_words : (ns : List ℕ) → length ns ≤ 4096 → All (λ n. n ≤ 16) ns → All HasOneWord (main_of ns)
main_words ns few each =
    All-cons HasOneWord (addi s0 x0 8) (calls_of ns ++ last_of ns) (record { valid = inl (omega arith); own = λ w. refl })
    (All-append HasOneWord (calls_of ns) (last_of ns)
    (mapped (call_of ns) 0 (length ns) (λ i from below. call_word ns i few each (omega arith)))
    (All-from_recursion HasOneWord (last_of ns) (
      record { valid = inr (omega arith); own = λ w. refl },
      (
        record { valid = (inl (omega arith), refl); own = λ w. refl },
        (
          record { valid = (inr (omega arith), omega arith); own = λ w. refl },
          (
            record { valid = inl (omega arith); own = λ w. refl },
            (record { valid = tt; own = λ w. refl }, tt),
          ),
        ),
      ),
    )))

pub all_words : (ns : List ℕ) → length ns ≤ 4096 → All (λ n. n ≤ 16) ns → All HasOneWord (instructions_of ns)
all_words ns few each = All-append HasOneWord (main_of ns) (functions_of ns) (main_words ns few each) (functions_words ns)

pub ruleset text_facts = (all_words, instructions_most, length-words, length-additions)
