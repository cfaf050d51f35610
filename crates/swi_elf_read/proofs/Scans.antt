-- One step of a scan that looks for the first header that a test picks.
use Rattle.std.proofs.Common.{◌≡◌, ℕ, ◌+◌, ◌*◌, ◌-◌, ◌<◌, ◌≤◌, suc, Bool, true, false, List, [], ◌∷◌, ◌++◌, length, get_or, take, drop, arith, refl, append_assoc, Some, None}
use Rattle.std.proofs.lemmas.List.{drop_more, take_more}
use Rattle.std.proofs.lemmas.Bool.Decides.{nat_tests}
use Rattle.std.proofs.lemmas.List.Sums.{sum_by-append}
use Rattle.std.proofs.lemmas.List.Elements.{filter-append}
use Rattle.std.proofs.lemmas.Grind.{common_steps}
use Rattle.swi_elf_read.specs.declared.program_header.ProgramHeader.{ProgramHeader}
use Rattle.swi_elf_read.specs.ProgramHeaders.{first_from, memory_of, memory_taken, passes_limit, is_too_large, is_loaded, table_at, header_at}

-- a header that is picked
pub scan_found : (test : List ProgramHeader → ProgramHeader → Bool) (hs : List ProgramHeader) (i : ℕ) (d : ProgramHeader) → i < length hs →
    test (take i hs) (get_or hs i d) ≡ true → first_from test (take i hs) (drop i hs) ≡ Some i
unfolding first_from
scan_found test hs i d within picked = grind (arith, common_steps, drop_more hs i d within)

-- a header that is not
pub scan_next : (test : List ProgramHeader → ProgramHeader → Bool) (hs : List ProgramHeader) (i : ℕ) (d : ProgramHeader) → i < length hs →
    test (take i hs) (get_or hs i d) ≡ false → first_from test (take (i + 1) hs) (drop (i + 1) hs) ≡ first_from test (take i hs) (drop i hs)
unfolding first_from
scan_next test hs i d within passed = rw (drop_more hs i d within, passed, take_more hs i d within) refl

-- after the last header
pub scan_end : (test : List ProgramHeader → ProgramHeader → Bool) (hs before : List ProgramHeader) (i : ℕ) → length hs ≤ i →
    first_from test before (drop i hs) ≡ None
unfolding first_from
scan_end test hs before i past = grind (arith, common_steps)

pub ruleset scan_steps = (scan_found, scan_next, scan_end)

-- the memory of one header more
pub memory_one : (before : List ProgramHeader) (h : ProgramHeader) → memory_of (before ++ h ∷ []) ≡ memory_of before + memory_taken h
unfolding memory_of memory_taken
memory_one before h = grind (arith, nat_tests, filter-append is_loaded, sum_by-append (λ (x : ProgramHeader). x.p_memsz))

pub memory_step : (hs : List ProgramHeader) (i : ℕ) (d : ProgramHeader) → i < length hs →
    memory_of (take (i + 1) hs) ≡ memory_of (take i hs) + memory_taken (get_or hs i d)
memory_step hs i d within = rw (take_more hs i d within) (memory_one (take i hs) (get_or hs i d))

pub memory_start : memory_of [] ≡ 0
unfolding memory_of
memory_start = refl

-- the test, where the memory of the headers before is known
pub large_is : (before : List ProgramHeader) (h : ProgramHeader) (total : ℕ) → total ≡ memory_of before → is_too_large before h ≡ passes_limit total h
unfolding is_too_large
large_is before h total is = rw is refl

pub ruleset size_steps = (scan_found, scan_next, scan_end, large_is, memory_step, memory_start)

-- an entry of the table, and those to come
pub table_more : (hs grown : List ProgramHeader) (file : List ℕ) (offset k n : ℕ) → k < n → grown ≡ hs ++ (header_at file (offset + 32 * k) ∷ []) →
    grown ++ table_at file (offset + 32 * (k + 1)) (n - (k + 1)) ≡ hs ++ table_at file (offset + 32 * k) (n - k)
unfolding table_at
table_more hs grown file offset k n more is =
    let step : n - k ≡ suc (n - (k + 1)) = omega arith in
    let next : offset + 32 * (k + 1) ≡ offset + 32 * k + 32 = omega arith in
    rw (is, append_assoc, step, next) refl

pub table_end : (hs : List ProgramHeader) (file : List ℕ) (offset n k : ℕ) → n ≤ k → hs ++ table_at file offset (n - k) ≡ hs
unfolding table_at
table_end hs file offset n k past = grind (arith, common_steps)

pub table_start : (file : List ℕ) (offset n : ℕ) → table_at file (offset + 32 * 0) (n - 0) ≡ table_at file offset n
table_start file offset n = grind arith

pub ruleset table_steps = (table_more, table_end, table_start)
