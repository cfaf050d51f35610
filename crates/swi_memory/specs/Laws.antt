-- Laws of buses: what ranges hold, what writes keep, and what is fetched behind them.
use Rattle.std.proofs.Common.{inl, inr, ◌≡◌, ◌⊎◌, ◌≢◌, ℕ, ◌+◌, ◌-◌, ◌*◌, ◌/◌, ◌%◌, ◌<◌, ◌≤◌, ◌^◌, zero, suc, List, [], ◌∷◌, ◌++◌, length, true, false, arith, refl, ◌∙◌}
use Rattle.std.proofs.lemmas.Bool.Decides.{nat_tests}
use Rattle.std.proofs.lemmas.Grind.{common_steps}
use Rattle.std.proofs.lemmas.List.{length-set}
use Rattle.swi_memory.specs.Bus.{AreaData, Right, byte_at, bytes_at, fetched, holds, holds_byte, is_in, is_text_word, lowest, stored, touches_text, with_byte, with_bytes}

-- what a test of an address says
pub within : (s : AreaData) (a : ℕ) → is_in s a ≡ true → (s.base ≤ a) × (a < s.base + length s.bytes)
within s a h = grind (arith, nat_tests)

pub inside : (s : AreaData) (a : ℕ) → s.base ≤ a → a < s.base + length s.bytes → is_in s a ≡ true
inside s a p q = grind (arith, nat_tests)

-- each byte of a range that holds
pub holds_at : (bus : List AreaData) (r : Right) (a n i : ℕ) → holds bus r a n ≡ true → i < n → (a + i < 2 ^ 32) × (holds_byte bus r (a + i) ≡ true)
holds_at bus r a zero i h bound = absurd (omega arith)
holds_at bus r a (suc n) zero h bound = grind (arith, nat_tests)
holds_at bus r a (suc n) (suc i) h bound = grind (arith, nat_tests, holds_at bus r (a + 1) n i)

-- a range from its middle on holds too
pub holds_from : (bus : List AreaData) (r : Right) (a n d : ℕ) → holds bus r a n ≡ true → d ≤ n → holds bus r (a + d) (n - d) ≡ true
holds_from bus r a n zero h bound = grind arith
holds_from bus r a zero (suc d) h bound = absurd (omega arith)
holds_from bus r a (suc n) (suc d) h bound = grind (arith, nat_tests, holds_from bus r (a + 1) n d)

-- and so does a front of it
pub holds_front : (bus : List AreaData) (r : Right) (a n k : ℕ) → holds bus r a n ≡ true → k ≤ n → holds bus r a k ≡ true
holds_front bus r a n zero h bound = refl
holds_front bus r a zero (suc k) h bound = absurd (omega arith)
holds_front bus r a (suc n) (suc k) h bound = grind (arith, nat_tests, holds_front bus r (a + 1) n k)

-- bytes in two parts
pub with_bytes-append : (bus : List AreaData) (a : ℕ) (xs ys : List ℕ) → with_bytes bus a (xs ++ ys) ≡ with_bytes (with_bytes bus a xs) (a + length xs) ys
with_bytes-append bus a [] ys = grind arith
with_bytes-append bus a (x ∷ xs) ys = grind (arith, with_bytes-append (with_byte bus a x) (a + 1) xs ys)

pub bytes_at-add : (bus : List AreaData) (a d k : ℕ) → bytes_at bus a (d + k) ≡ bytes_at bus a d ++ bytes_at bus (a + d) k
bytes_at-add bus a zero k = grind arith
bytes_at-add bus a (suc d) k = let e : suc d + k ≡ suc (d + k) = omega arith in rw e (grind (arith, bytes_at-add bus (a + 1) d k))

-- a write changes no right
holds_byte-with_byte : (bus : List AreaData) (r : Right) (a b x : ℕ) → holds_byte (with_byte bus a b) r x ≡ holds_byte bus r x
holds_byte-with_byte [] r a b x = refl
holds_byte-with_byte (s ∷ rest) r a b x = grind (arith, nat_tests, length-set s.bytes (a - s.base) b, holds_byte-with_byte rest r a b x)

pub holds-with_byte : (bus : List AreaData) (r : Right) (a b x n : ℕ) → holds (with_byte bus a b) r x n ≡ holds bus r x n
holds-with_byte bus r a b x zero = refl
holds-with_byte bus r a b x (suc n) = grind (arith, holds_byte-with_byte bus r a b x, holds-with_byte bus r a b (x + 1) n)

pub holds-with_bytes : (bus : List AreaData) (r : Right) (a : ℕ) (bytes : List ℕ) (x n : ℕ) → holds (with_bytes bus a bytes) r x n ≡ holds bus r x n
holds-with_bytes bus r a [] x n = refl
holds-with_bytes bus r a (b ∷ bytes) x n = holds-with_bytes (with_byte bus a b) r (a + 1) bytes x n ∙ holds-with_byte bus r a b x n

-- nor where the text words stand
pub text-with_byte : (bus : List AreaData) (a b x : ℕ) → is_text_word (with_byte bus a b) x ≡ is_text_word bus x
text-with_byte [] a b x = refl
text-with_byte (s ∷ rest) a b x = grind (arith, nat_tests, text-with_byte rest a b x)

pub touches-with_byte : (bus : List AreaData) (a b x n : ℕ) → touches_text (with_byte bus a b) x n ≡ touches_text bus x n
touches-with_byte bus a b x zero = refl
touches-with_byte bus a b x (suc n) = grind (arith, text-with_byte bus a b (x / 4 * 4), touches-with_byte bus a b (x + 1) n)

-- a front of a range that touches no text word
pub touches_front : (bus : List AreaData) (a n k : ℕ) → touches_text bus a n ≡ false → k ≤ n → touches_text bus a k ≡ false
touches_front bus a n zero untouched bound = refl
touches_front bus a zero (suc k) untouched bound = absurd (omega arith)
touches_front bus a (suc n) (suc k) untouched bound = grind (arith, nat_tests, touches_front bus (a + 1) n k)

-- and so a range from its middle on, and any part of it
touches_from : (bus : List AreaData) (a n d : ℕ) → touches_text bus a n ≡ false → d ≤ n → touches_text bus (a + d) (n - d) ≡ false
touches_from bus a n zero untouched bound = grind arith
touches_from bus a zero (suc d) untouched bound = absurd (omega arith)
touches_from bus a (suc n) (suc d) untouched bound = grind (arith, nat_tests, touches_from bus (a + 1) n d)

pub touches_part : (bus : List AreaData) (from size a n : ℕ) → touches_text bus from size ≡ false → from ≤ a → a + n ≤ from + size → touches_text bus a n ≡ false
touches_part bus from size a n untouched behind end =
    let same : from + (a - from) ≡ a = omega arith in
    let rest : touches_text bus (from + (a - from)) (size - (a - from)) ≡ false = touches_from bus from size (a - from) untouched (omega arith) in
    touches_front bus a (size - (a - from)) n (rw same at rest) (omega arith)

-- a byte that is written changes no other
byte_elsewhere : (bus : List AreaData) (a b y : ℕ) → y ≢ a → byte_at (with_byte bus a b) y ≡ byte_at bus y
byte_elsewhere [] a b y other = refl
byte_elsewhere (s ∷ rest) a b y other = grind (arith, nat_tests, common_steps, length-set s.bytes (a - s.base) b, byte_elsewhere rest a b y other)

-- text words stand at multiples of 4
pub aligned_word : (bus : List AreaData) (x : ℕ) → is_text_word bus x ≡ true → x % 4 ≡ 0
aligned_word [] x word = cc
aligned_word (s ∷ rest) x word = grind (arith, nat_tests, aligned_word rest x)

-- a write that touches no text word leaves what is fetched
fetched_with_byte : (bus : List AreaData) (a b x : ℕ) → is_text_word bus (a / 4 * 4) ≡ false → fetched (with_byte bus a b) x ≡ fetched bus x
fetched_with_byte bus a b x untouched =
    grind (arith, nat_tests, aligned_word bus x, text-with_byte bus a b x, byte_elsewhere bus a b)

pub fetched_with_bytes : (bus : List AreaData) (a : ℕ) (bytes : List ℕ) (x : ℕ) → touches_text bus a (length bytes) ≡ false → fetched (with_bytes bus a bytes) x ≡ fetched bus x
fetched_with_bytes bus a [] x untouched = refl
fetched_with_bytes bus a (b ∷ bytes) x untouched =
    grind (arith, nat_tests, touches-with_byte bus a b (a + 1) (length bytes), fetched_with_bytes (with_byte bus a b) (a + 1) bytes x, fetched_with_byte bus a b x)

-- a write leaves each word beside its bytes
fetched_beside-with_byte : (bus : List AreaData) (a b x : ℕ) → (x + 4 ≤ a) ⊎ (a < x) → fetched (with_byte bus a b) x ≡ fetched bus x
fetched_beside-with_byte bus a b x (inl below) = grind (arith, nat_tests, text-with_byte bus a b x, byte_elsewhere bus a b)
fetched_beside-with_byte bus a b x (inr above) = grind (arith, nat_tests, text-with_byte bus a b x, byte_elsewhere bus a b)

pub fetched_beside : (bus : List AreaData) (a : ℕ) (bytes : List ℕ) (x : ℕ) → (x + 4 ≤ a) ⊎ (a + length bytes ≤ x) → fetched (with_bytes bus a bytes) x ≡ fetched bus x
fetched_beside bus a [] x beside = refl
fetched_beside bus a (b ∷ bytes) x (inl below) = fetched_beside (with_byte bus a b) (a + 1) bytes x (inl (omega arith)) ∙ fetched_beside-with_byte bus a b x (inl below)
fetched_beside bus a (b ∷ bytes) x (inr above) = fetched_beside (with_byte bus a b) (a + 1) bytes x (inr (omega arith)) ∙ fetched_beside-with_byte bus a b x (inr (omega arith))

pub length-lowest : (n v : ℕ) → length (lowest n v) ≡ n
length-lowest zero v = refl
length-lowest (suc n) v = grind (arith, length-lowest n (v / 256))

pub fetched_stored : (bus : List AreaData) (a n v x : ℕ) → touches_text bus a n ≡ false → fetched (stored bus a n v) x ≡ fetched bus x
fetched_stored bus a n v x untouched = fetched_with_bytes bus a (lowest n v) x (rw length-lowest untouched)
