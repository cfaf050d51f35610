-- Words of which all behind the first ones are 0.
use Rattle.std.proofs.Common.{◌≡◌, ℕ, ◌+◌, ◌-◌, ◌<◌, ◌≤◌, List, ◌++◌, length, replicate, slice_set, arith, sym, ap, ◌∙◌, append_assoc}
use Rattle.std.proofs.lemmas.List.{length-append, length-replicate, length-set, replicate-append-replicate, set-append_left}
use Rattle.swi_devices.specs.Stored.{zero_filled}

long : (front : List ℕ) (n : ℕ) → length (front ++ replicate n 0) ≡ length front + n
long front n = length-append front (replicate n 0) ∙ ap (λ k. length front + k) (length-replicate n 0)

-- more of the zeros are written
filled_more : (count n : ℕ) (front : List ℕ) → length front + n ≤ count → zero_filled count (front ++ replicate n 0) ≡ zero_filled count front
filled_more count n front within =
    let rest : ℕ = count - length (front ++ replicate n 0) in
    let all : n + rest ≡ count - length front = omega (arith, long front n) in
    append_assoc front (replicate n 0) (replicate rest 0) ∙ ap (λ l. front ++ l) (replicate-append-replicate n rest 0 ∙ ap (λ k. replicate k 0) all)

-- a word that is written is set
filled_set : (count : ℕ) (front : List ℕ) (i w : ℕ) → i < length front → zero_filled count (slice_set front i w) ≡ slice_set (zero_filled count front) i w
filled_set count front i w within =
    ap (λ k. slice_set front i w ++ replicate (count - k) 0) (length-set front i w)
    ∙ sym (set-append_left front (replicate (count - length front) 0) i w within)

-- A word is set where zeros were written up to it.
pub set_written : (count i w : ℕ) (old new : List ℕ) → new ≡ old ++ replicate (i + 1 - length old) 0 → length old ≤ count → i < length (zero_filled count old) →
    zero_filled count (slice_set new i w) ≡ slice_set (zero_filled count old) i w
set_written count i w old new is short within =
    let n : ℕ = i + 1 - length old in
    let whole : length (zero_filled count old) ≡ length old + (count - length old) = long old (count - length old) in
    let reached : i < length (old ++ replicate n 0) = omega (arith, long old n) in
    let fits : length old + n ≤ count = omega (arith, whole) in
    rw is (filled_set count (old ++ replicate n 0) i w reached ∙ ap (λ l. slice_set l i w) (filled_more count n old fits))
