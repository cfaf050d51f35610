-- The renderings of consecutive text words, with one word more, and the block of them.
use Rattle.std.proofs.Common.{◌≡◌, ℕ, ◌+◌, ◌-◌, ◌*◌, ◌<◌, ◌≤◌, zero, suc, Bool, List, [], ◌∷◌, ◌++◌, length, get_or, take, drop, arith, refl, ap, ◌∙◌, sym, add-one, true, false, if◌then◌else◌, append_assoc, append-nil, length-append, length-take, length-drop, get_or-drop, get_or-take, inl, inr}
use Rattle.std.proofs.lemmas.Bool.{cases_eq}
use Rattle.std.proofs.Math.Seq.{take-suc}
use Rattle.swi_program.specs.Text.{TextData}
use Rattle.swi_image.specs.Words.{part}
use Rattle.swi_render.specs.Rendering.{Slot, rendering, falls, fall_exit}
use Rattle.swi_render.specs.ImageOf.{address_of, rendering_at, falls_at, renderings, exit_behind, block_of_words, renderings_between, block_between, offset_in}
use Rattle.swi_render.specs.Cut.{needs_of}
use Rattle.swi_render.proofs.Lists.{ending_length, ending_least, rendering_some}

pub renderings_append : (a : ℕ) (xs ys : List ℕ) → renderings a (xs ++ ys) ≡ renderings a xs ++ renderings (a + 4 * length xs) ys
unfolding renderings
renderings_append a [] ys =
    let same : a + 4 * 0 ≡ a = omega arith in
    rw same refl
renderings_append a (x ∷ xs) ys =
    let on : a + 4 * suc (length xs) ≡ a + 4 + 4 * length xs = omega arith in
    rw (on, renderings_append (a + 4) xs ys, append_assoc) refl

renderings_one : (a w : ℕ) → renderings a (w ∷ []) ≡ rendering w a
unfolding renderings
renderings_one a w = append-nil (rendering w a)

part_more : (i n d : ℕ) (ws : List ℕ) → i + n < length ws → part i (n + 1) ws ≡ part i n ws ++ (get_or ws (i + n) d ∷ [])
part_more i n d ws within =
    let inside : n < length (drop i ws) = omega (arith, length-drop i ws) in
    let more : take (suc n) (drop i ws) ≡ take n (drop i ws) ++ (get_or (drop i ws) n d ∷ []) = take-suc (drop i ws) n d inside in
    rw (add-one, more, get_or-drop i ws n d) refl

pub length_part : (i n : ℕ) (ws : List ℕ) → i + n ≤ length ws → length (part i n ws) ≡ n
length_part i n ws within = omega (arith, length-take n (drop i ws), length-drop i ws)

-- the renderings of one word more
renderings_more : (a i n : ℕ) (ws : List ℕ) → i + n < length ws → renderings a (part i (n + 1) ws) ≡ renderings a (part i n ws) ++ rendering (get_or ws (i + n) 0) (a + 4 * n)
renderings_more a i n ws within =
    let size : length (part i n ws) ≡ n = length_part i n ws (omega arith) in
    rw (part_more i n 0 ws within, renderings_append a (part i n ws) (get_or ws (i + n) 0 ∷ []), size, renderings_one (a + 4 * n) (get_or ws (i + n) 0)) refl

-- the exit behind the last of some words
exit_last : (a i n : ℕ) (ws : List ℕ) → i + n < length ws → exit_behind a (part i (n + 1) ws) ≡ (if falls (get_or ws (i + n) 0) then fall_exit (a + 4 * n) else [])
exit_last a i n ws within =
    let size : length (part i (n + 1) ws) ≡ n + 1 = length_part i (n + 1) ws (omega arith) in
    let same : n + 1 - 1 ≡ n = omega arith in
    let read : get_or (part i (n + 1) ws) n 0 ≡ get_or ws (i + n) 0 = (let e = get_or-take (n + 1) (drop i ws) n 0 (omega arith) in e ∙ get_or-drop i ws n 0) in
    rw (size, same, read) refl

-- a block that grows by text word k

pub offset_first : (t : TextData) (first : ℕ) → offset_in t first first ≡ 0
unfolding renderings
offset_first t first =
    let none : first - first ≡ 0 = omega arith in
    rw none refl

address_on : (t : TextData) (first k : ℕ) → first ≤ k → t.base + 4 * first + 4 * (k - first) ≡ t.base + 4 * k
address_on t first k low = omega arith

pub renderings_next : (t : TextData) (first k : ℕ) → first ≤ k → k < length t.words →
    renderings_between t first (k + 1) ≡ renderings_between t first k ++ rendering_at t k
renderings_next t first k low within =
    let more : k + 1 - first ≡ k - first + 1 = omega arith in
    let here : first + (k - first) ≡ k = omega arith in
    let step = renderings_more (t.base + 4 * first) first (k - first) t.words (omega arith) in
    let place = address_on t first k low in
    rw more (rw (here, place) at step)

pub offset_next : (t : TextData) (first k : ℕ) → first ≤ k → k < length t.words → offset_in t first (k + 1) ≡ offset_in t first k + length (rendering_at t k)
offset_next t first k low within =
    ap length (renderings_next t first k low within) ∙ length-append (renderings_between t first k) (rendering_at t k)

offset_grows : (t : TextData) (first k d : ℕ) → first ≤ k → k + d ≤ length t.words → offset_in t first k + d ≤ offset_in t first (k + d)
offset_grows t first k zero low within =
    let same : k + 0 ≡ k = omega arith in
    rw same (omega arith)
offset_grows t first k (suc d) low within =
    let on : k + suc d ≡ k + d + 1 = omega arith in
    rw on (omega (arith, offset_grows t first k d low (omega arith), offset_next t first (k + d) (omega arith) (omega arith), rendering_some (get_or t.words (k + d) 0) (t.base + 4 * (k + d))))

-- each rendering has a word at least
pub offset_up : (t : TextData) (first k end : ℕ) → first ≤ k → k ≤ end → end ≤ length t.words → offset_in t first k + (end - k) ≤ offset_in t first end
offset_up t first k end low high within =
    let on : k + (end - k) ≡ end = omega arith in
    rw on at (offset_grows t first k (end - k) low (omega arith))

-- the renderings so far are no longer than the block
pub offset_below : (t : TextData) (first k end : ℕ) → first ≤ k → k ≤ end → end ≤ length t.words → offset_in t first k + (end - k) ≤ length (block_between t first end)
unfolding block_of_words
offset_below t first k end low high within =
    omega (arith, offset_up t first k end low high within, length-append (renderings_between t first end) (exit_behind (t.base + 4 * first) (part first (end - first) t.words)))

exit_length : (f : Bool) (a : ℕ) → length (if f then fall_exit a else []) ≡ (if f then 2 else 0)
exit_length true a = refl
exit_length false a = refl

exit_most : (f : Bool) → (if f then 2 else 0) ≤ 2
exit_most true = omega arith
exit_most false = omega arith

block_next : (t : TextData) (first k : ℕ) → first ≤ k → k < length t.words →
    block_between t first (k + 1) ≡ renderings_between t first (k + 1) ++ (if falls_at t k then fall_exit (address_of t k) else [])
unfolding block_of_words
block_next t first k low within =
    let more : k + 1 - first ≡ k - first + 1 = omega arith in
    let here : first + (k - first) ≡ k = omega arith in
    let place = address_on t first k low in
    let exit = exit_last (t.base + 4 * first) first (k - first) t.words (omega arith) in
    let exit_here = rw (here, place) at exit in
    ap (λ (ss : List Slot). renderings_between t first (k + 1) ++ ss) (rw more exit_here)

-- with text word k as its last
pub block_length : (t : TextData) (first k : ℕ) → first ≤ k → k < length t.words → length (block_between t first (k + 1)) ≡ offset_in t first k + needs_of t k
block_length t first k low within =
    let r = renderings_between t first (k + 1) in
    let exit : List Slot = if falls_at t k then fall_exit (address_of t k) else [] in
    let all : length (block_between t first (k + 1)) ≡ length r + length exit = ap length (block_next t first k low within) ∙ length-append r exit in
    omega (arith, exit_length (falls_at t k) (address_of t k), offset_next t first k low within, ending_length (get_or t.words k 0) (address_of t k))

-- with more text words it has no fewer words
pub block_longer : (t : TextData) (first k end : ℕ) → first < k → k ≤ end → end ≤ length t.words → length (block_between t first k) ≤ length (block_between t first end)
block_longer t first k end some high within = elim (cases_eq k end) [
  | inl same ↦ rw same (omega arith)
  | inr less ↦
      let before : k - 1 + 1 ≡ k = omega arith in
      let last : end - 1 + 1 ≡ end = omega arith in
      let here = rw before at (block_length t first (k - 1) (omega arith) (omega arith)) in
      let there = rw last at (block_length t first (end - 1) (omega arith) (omega arith)) in
      let next = rw before at (offset_next t first (k - 1) (omega arith) (omega arith)) in
      let up = offset_up t first k (end - 1) (omega arith) (omega arith) (omega arith) in
      omega (arith, ending_length (get_or t.words (k - 1) 0) (address_of t (k - 1)), exit_most (falls_at t (k - 1)), ending_least (get_or t.words (end - 1) 0) (address_of t (end - 1)))
]

-- the parts of a block
pub block_parts : (t : TextData) (first end : ℕ) → first < end → end ≤ length t.words →
    block_between t first end ≡ renderings_between t first end ++ (if falls_at t (end - 1) then fall_exit (address_of t (end - 1)) else [])
block_parts t first end some within =
    let same : end - 1 + 1 ≡ end = omega arith in
    rw same at (block_next t first (end - 1) (omega arith) (omega arith))

pub block_falls : (t : TextData) (first end a : ℕ) → first < end → end ≤ length t.words → falls_at t (end - 1) ≡ true → a ≡ address_of t (end - 1) →
    block_between t first end ≡ renderings_between t first end ++ fall_exit a
block_falls t first end a some within on is =
    (rw on at (block_parts t first end some within)) ∙ ap (λ (n : ℕ). renderings_between t first end ++ fall_exit n) (sym is)

pub block_stays : (t : TextData) (first end : ℕ) → first < end → end ≤ length t.words → falls_at t (end - 1) ≡ false →
    block_between t first end ≡ renderings_between t first end
block_stays t first end some within none = (rw none at (block_parts t first end some within)) ∙ append-nil (renderings_between t first end)
