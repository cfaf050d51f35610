-- Loads and stores that lie in one area.
use Rattle.std.proofs.Common.{◌≡◌, ℕ, ◌+◌, ◌-◌, ◌<◌, ◌≤◌, ◌^◌, zero, suc, List, [], ◌∷◌, length, get_or, set, take, drop, true, false, Ok, arith, refl, sym, ap, ◌∙◌}
use Rattle.std.proofs.lemmas.Bool.{cond-true}
use Rattle.std.proofs.lemmas.Bool.Decides.{nat_tests}
use Rattle.std.proofs.lemmas.List.Edits.{sets}
use Rattle.std.proofs.lemmas.List.{length-set, length-map, map-set, drop_more, take_all, length-drop}
use Rattle.swi_memory.specs.declared.bank.Bank.{Bank}
use Rattle.swi_memory.specs.Views.{area, areas}
use Rattle.swi_memory.specs.Bus.{AreaData, Right, Read, AreInOrderFrom, bytes_at, grants, holds, holds_byte, number_at, loaded, with_byte, with_bytes, number_in}
use Rattle.swi_memory.specs.Found.{HasAll, HasNone, IsFound}
use Rattle.swi_memory.specs.Laws.{inside}
use Rattle.swi_memory.proofs.Looks.{Place, area_at, held_found, place_of, InPlace, Looked, in_place, looked, none_holds}

-- the area at place i of an ordered bus, with n bytes from a on in it
pub record Within (bus : List AreaData) (i : ℕ) (s : AreaData) (a n : ℕ) : Type 0 where
  pub order : AreInOrderFrom 0 bus
  pub bound : i < length bus
  pub is : s ≡ get_or bus i s
  pub from : s.base ≤ a
  pub end : a + n ≤ s.base + length s.bytes

first_of_them : (bus : List AreaData) (i : ℕ) (s : AreaData) (a n : ℕ) → Within bus i s a (suc n) → (a < 2 ^ 32) × Looked bus s a
first_of_them bus i s a n w =
    let place : InPlace 0 s = in_place 0 bus i s w.order w.bound w.is in
    (omega (arith, place.end, w.end), looked 0 bus i s a w.order w.bound w.is (inside s a w.from (omega (arith, w.end))))

rest_of_them : (bus : List AreaData) (i : ℕ) (s : AreaData) (a n : ℕ) → Within bus i s a (suc n) → Within bus i s (a + 1) n
rest_of_them bus i s a n w = record { order = w.order; bound = w.bound; is = w.is; from = omega (arith, w.from); end = omega (arith, w.end) }

-- what is left to hold behind the bytes of one area
pub holds_behind : (bus : List AreaData) (i : ℕ) (s : AreaData) (r : Right) (a n d : ℕ) → Within bus i s a d → grants r s.flags ≡ true → d ≤ n → holds bus r (a + d) (n - d) ≡ holds bus r a n
holds_behind bus i s r a n zero w granted short = grind arith
holds_behind bus i s r a zero (suc d) w granted short = absurd (omega arith)
holds_behind bus i s r a (suc n) (suc d) w granted short =
    let here : (a < 2 ^ 32) × Looked bus s a = first_of_them bus i s a d w in
    grind (arith, nat_tests, here.0, here.1.holds r, holds_behind bus i s r (a + 1) n d (rest_of_them bus i s a d w) granted)

pub holds_within : (bus : List AreaData) (i : ℕ) (s : AreaData) (r : Right) (a n : ℕ) → Within bus i s a n → grants r s.flags ≡ true → holds bus r a n ≡ true
holds_within bus i s r a n w granted = grind (arith, holds_behind bus i s r a n n w granted)

pub holds_not : (bus : List AreaData) (r : Right) (a n : ℕ) → 0 < n → holds_byte bus r a ≡ false → holds bus r a n ≡ false
holds_not bus r a zero some held = absurd (omega arith)
holds_not bus r a (suc n) some held = grind (arith, nat_tests)

pub holds_none : (bus : List AreaData) (r : Right) (a n : ℕ) → HasNone bus a → 0 < n → holds bus r a n ≡ false
holds_none bus r a n none some = holds_not bus r a n some (none_holds bus r a none)

-- a number in the first area, and in one behind it
pub number_first : (s : AreaData) (rest : List AreaData) (a n : ℕ) → s.base ≤ a → a + n ≤ s.base + length s.bytes → number_at (s ∷ rest) a n ≡ number_in s.bytes (a - s.base) n
number_first s rest a zero from end = refl
number_first s rest a (suc n) from end =
    let next : a + 1 - s.base ≡ a - s.base + 1 = omega (arith, from) in
    grind (arith, nat_tests, next, number_first s rest (a + 1) n)

pub number_later : (s : AreaData) (rest : List AreaData) (a n : ℕ) → s.base + length s.bytes ≤ a → number_at (s ∷ rest) a n ≡ number_at rest a n
number_later s rest a zero past = refl
number_later s rest a (suc n) past = grind (arith, nat_tests, number_later s rest (a + 1) n)

pub number_within : (bus : List AreaData) (i : ℕ) (s : AreaData) (a n : ℕ) → Within bus i s a n → number_at bus a n ≡ number_in s.bytes (a - s.base) n
number_within bus i s a zero w = refl
number_within bus i s a (suc n) w =
    let here : (a < 2 ^ 32) × Looked bus s a = first_of_them bus i s a n w in
    let next : a + 1 - s.base ≡ a - s.base + 1 = omega (arith, w.from) in
    grind (arith, here.1.byte, next, number_within bus i s (a + 1) n (rest_of_them bus i s a n w))

pub loaded_within : (bus : List AreaData) (i : ℕ) (s : AreaData) (a n : ℕ) → Within bus i s a n → grants Read s.flags ≡ true → Ok (number_in s.bytes (a - s.base) n) ≡ loaded bus a n
loaded_within bus i s a n w granted =
    ap (λ m. Ok m) (sym (number_within bus i s a n w)) ∙ sym (cond-true _ _ _ (holds_within bus i s Read a n w granted))

pub bytes_within : (bus : List AreaData) (i : ℕ) (s : AreaData) (a n : ℕ) → Within bus i s a n → take n (drop (a - s.base) s.bytes) ≡ bytes_at bus a n
bytes_within bus i s a zero w = refl
bytes_within bus i s a (suc n) w =
    let here : (a < 2 ^ 32) × Looked bus s a = first_of_them bus i s a n w in
    let next : a + 1 - s.base ≡ a - s.base + 1 = omega (arith, w.from) in
    let cut : drop (a - s.base) s.bytes ≡ get_or s.bytes (a - s.base) 0 ∷ drop (a - s.base + 1) s.bytes = drop_more s.bytes (a - s.base) 0 (omega (arith, w.from, w.end)) in
    rw (cut, ← next, bytes_within bus i s (a + 1) n (rest_of_them bus i s a n w), here.1.byte) refl

-- bytes put into the first area, and into one behind it
put_first : (s : AreaData) (rest : List AreaData) (a : ℕ) (piece : List ℕ) → s.base ≤ a → a + length piece ≤ s.base + length s.bytes →
    with_bytes (s ∷ rest) a piece ≡ record s { bytes = sets s.bytes (a - s.base) piece } ∷ rest
put_first s rest a [] from end = refl
put_first s rest a (b ∷ piece) from end =
    let next : suc (a - s.base) ≡ a + 1 - s.base = omega (arith, from) in
    rw (inside s a from (omega (arith, end)), next)
    (put_first (record s { bytes = set s.bytes (a - s.base) b }) rest (a + 1) piece (omega (arith, from)) (omega (arith, end, length-set s.bytes (a - s.base) b)))

put_later : (s : AreaData) (rest : List AreaData) (a : ℕ) (piece : List ℕ) → s.base + length s.bytes ≤ a → with_bytes (s ∷ rest) a piece ≡ s ∷ with_bytes rest a piece
put_later s rest a [] past = refl
put_later s rest a (b ∷ piece) past = grind (arith, nat_tests, put_later s (with_byte rest a b) (a + 1) piece)

put_area : (from : ℕ) (bus : List AreaData) (i : ℕ) (s : AreaData) (a : ℕ) (piece : List ℕ) → AreInOrderFrom from bus → i < length bus → s ≡ get_or bus i s → s.base ≤ a →
    a + length piece ≤ s.base + length s.bytes → with_bytes bus a piece ≡ set bus i (record s { bytes = sets s.bytes (a - s.base) piece })
put_area from [] i s a piece order bound is low end = absurd (omega arith)
put_area from (x ∷ rest) zero s a piece order bound is low end = rw (← is) (put_first s rest a piece low end)
put_area from (x ∷ rest) (suc i) s a piece order bound is low end =
    let place : InPlace (x.base + length x.bytes) s = in_place (x.base + length x.bytes) rest i s order.3 (omega arith) is in
    grind (arith, place.behind, put_later x rest a piece, put_area (x.base + length x.bytes) rest i s a piece order.3)

-- the byte at a is in a bank that was found, and may not be used so
pub holds_denied : (banks : List Bank) (i : ℕ) (b : Bank) (r : Right) (a n : ℕ) → AreInOrderFrom 0 (areas banks) → IsFound banks a i → b ≡ get_or banks i b → 0 < n → grants r b.flags ≡ false → holds (areas banks) r a n ≡ false
holds_denied banks i b r a n order found is some denied =
    holds_not (areas banks) r a n some (held_found banks i b r a false order found is denied)

-- the bytes from a on that lie in a bank that was found
pub range_of : (banks : List Bank) (i : ℕ) (b : Bank) (a n : ℕ) → AreInOrderFrom 0 (areas banks) → IsFound banks a i → b ≡ get_or banks i b → n ≤ length b.bytes.items - (a - b.base) → Within (areas banks) i (area b) a n
range_of banks i b a n order found is short =
    let at : Place b a = place_of banks i b a found is in
    record {
      order = order;
      bound = omega (arith, length-map banks area, found.0);
      is = area_at banks i b is;
      from = at.from;
      end = omega (arith, at.from, at.end);
    }

pub holds_found : (banks : List Bank) (i : ℕ) (b : Bank) (r : Right) (a n : ℕ) → AreInOrderFrom 0 (areas banks) → IsFound banks a i → b ≡ get_or banks i b → n ≤ length b.bytes.items - (a - b.base) → grants r b.flags ≡ true →
    holds (areas banks) r a n ≡ true
holds_found banks i b r a n order found is short granted = holds_within (areas banks) i (area b) r a n (range_of banks i b a n order found is short) granted

-- what is left to hold behind that bank
pub behind_found : (banks : List Bank) (i : ℕ) (b : Bank) (r : Right) (a n next left : ℕ) → AreInOrderFrom 0 (areas banks) → IsFound banks a i → b ≡ get_or banks i b → grants r b.flags ≡ true →
    next ≡ b.base + length b.bytes.items → left + (next - a) ≡ n → holds (areas banks) r next left ≡ holds (areas banks) r a n
behind_found banks i b r a n next left order found is granted end rest =
    let at : Place b a = place_of banks i b a found is in
    let d : ℕ = length b.bytes.items - (a - b.base) in
    let e : next ≡ a + d = omega (arith, at.from, at.end) in
    let f : left ≡ n - d = omega (arith, at.from, at.end) in
    rw (e, f) (holds_behind (areas banks) i (area b) r a n d (range_of banks i b a d order found is (omega arith)) granted (omega (arith, at.from, at.end)))

pub loaded_found : (banks : List Bank) (i : ℕ) (b : Bank) (a n : ℕ) → AreInOrderFrom 0 (areas banks) → HasAll banks Read a n i → b ≡ get_or banks i b → Ok (number_in b.bytes.items (a - b.base) n) ≡ loaded (areas banks) a n
loaded_found banks i b a n order all is =
    let range : Within (areas banks) i (area b) a n = range_of banks i b a n order all.found is (rw is (all.room b)) in
    loaded_within (areas banks) i (area b) a n range (rw is (all.granted b))

-- past the last address nothing is held
holds_past : (bus : List AreaData) (r : Right) (a n : ℕ) → 2 ^ 32 ≤ a → 0 < n → holds bus r a n ≡ false
holds_past bus r a zero past some = absurd (omega arith)
holds_past bus r a (suc n) past some = grind (arith, nat_tests)

pub past_found : (banks : List Bank) (i : ℕ) (b : Bank) (r : Right) (a n : ℕ) → AreInOrderFrom 0 (areas banks) → IsFound banks a i → b ≡ get_or banks i b → grants r b.flags ≡ true →
    2 ^ 32 ≤ b.base + length b.bytes.items → length b.bytes.items - (a - b.base) < n → holds (areas banks) r a n ≡ false
past_found banks i b r a n order found is granted past more =
    let at : Place b a = place_of banks i b a found is in
    let end : ℕ = b.base + length b.bytes.items in
    sym (behind_found banks i b r a n end (n - (end - a)) order found is granted refl (omega (arith, at.from, at.end))) ∙ holds_past (areas banks) r end (n - (end - a)) past (omega (arith, at.from, at.end))

-- the rest of a list of bytes put in place
pub with_bytes_more : (bus : List AreaData) (a i : ℕ) (piece : List ℕ) → i < length piece → with_bytes (with_byte bus (a + i) (get_or piece i 0)) (a + (i + 1)) (drop (i + 1) piece) ≡ with_bytes bus (a + i) (drop i piece)
with_bytes_more bus a i piece bound =
    let next : a + (i + 1) ≡ a + i + 1 = omega arith in
    rw (drop_more piece i 0 bound, next) refl

-- bytes put into a bank that was found
pub put_found : (banks : List Bank) (i : ℕ) (b t : Bank) (a : ℕ) (piece : List ℕ) → AreInOrderFrom 0 (areas banks) → IsFound banks a i → b ≡ get_or banks i b → length piece ≤ length b.bytes.items - (a - b.base) →
    area t ≡ record (area b) { bytes = sets b.bytes.items (a - b.base) piece } → areas (set banks i t) ≡ with_bytes (areas banks) a piece
put_found banks i b t a piece order found is short made =
    let w : Within (areas banks) i (area b) a (length piece) = range_of banks i b a (length piece) order found is short in
    map-set area banks i t ∙ ap (set (areas banks) i) made ∙ sym (put_area 0 (areas banks) i (area b) a piece order w.bound w.is w.from w.end)

-- the bytes behind a place, as the code cuts them
pub rest_is : (xs : List ℕ) (at : ℕ) → take (length xs - at) (drop at xs) ≡ drop at xs
rest_is xs at = take_all (length xs - at) (drop at xs) (omega (arith, length-drop at xs))

-- what is held from an address on, by the bank that was found there
pub ruleset held = (holds_none, holds_denied, holds_found, past_found, behind_found)
