-- What an area that has a byte at an address says of the bus at that address.
use Rattle.std.proofs.Common.{◌≡◌, ℕ, ◌+◌, ◌-◌, ◌<◌, ◌≤◌, ◌^◌, zero, suc, List, [], ◌∷◌, length, get_or, Bool, take, drop, true, false, arith, refl, sym, ap, ◌∙◌}
use Rattle.std.proofs.Math.ListN.{get_or-map}
use Rattle.std.proofs.lemmas.List.{get_or_default, length-map}
use Rattle.std.proofs.lemmas.Bool.Decides.{nat_tests}
use Rattle.swi_memory.specs.declared.bank.Bank.{Bank}
use Rattle.swi_memory.specs.Bus.{AreaData, Right, AreInOrderFrom, is_in, grants, holds_byte, byte_at, with_byte, front_of}
use Rattle.swi_memory.specs.Found.{HasNone, IsFound}
use Rattle.swi_memory.specs.Views.{area, areas}

-- what the order says of one area
pub record InPlace (from : ℕ) (s : AreaData) : Type 0 where
  pub behind : from ≤ s.base
  pub some : 0 < length s.bytes
  pub file_size : s.file_size ≤ length s.bytes
  pub end : s.base + length s.bytes ≤ 2 ^ 32

pub from_small : (from : ℕ) (bus : List AreaData) → AreInOrderFrom from bus → from ≤ 2 ^ 32
from_small from [] o = o
from_small from (x ∷ rest) o = omega (arith, from_small (x.base + length x.bytes) rest o.3)

pub in_place : (from : ℕ) (bus : List AreaData) (i : ℕ) (s : AreaData) → AreInOrderFrom from bus → i < length bus → s ≡ get_or bus i s → InPlace from s
in_place from [] i s o within is = absurd (omega arith)
in_place from (x ∷ rest) zero s o within is =
    rw is (record { behind = o.0; some = o.1; file_size = o.2; end = from_small (x.base + length x.bytes) rest o.3 })
in_place from (x ∷ rest) (suc i) s o within is =
    let later : InPlace (x.base + length x.bytes) s = in_place (x.base + length x.bytes) rest i s o.3 (omega arith) is in
    record { behind = omega (arith, later.behind, o.0); some = later.some; file_size = later.file_size; end = later.end }

pub record Looked (bus : List AreaData) (s : AreaData) (a : ℕ) : Type 0 where
  pub holds : (r : Right) → holds_byte bus r a ≡ grants r s.flags
  pub byte : byte_at bus a ≡ get_or s.bytes (a - s.base) 0
  pub front : (n : ℕ) → front_of bus a n ≡ take n (drop (a - s.base) s.bytes)

pub looked : (from : ℕ) (bus : List AreaData) (i : ℕ) (s : AreaData) (a : ℕ) → AreInOrderFrom from bus → i < length bus → s ≡ get_or bus i s → is_in s a ≡ true → Looked bus s a
looked from [] i s a o within is hit = absurd (omega arith)
looked from (x ∷ rest) zero s a o within is hit = rw is (record { holds = λ r. grind (arith, nat_tests); byte = grind (arith, nat_tests); front = λ n. grind (arith, nat_tests) })
looked from (x ∷ rest) (suc i) s a o bound is hit =
    let place : InPlace (x.base + length x.bytes) s = in_place (x.base + length x.bytes) rest i s o.3 (omega arith) is in
    let later : Looked rest s a = looked (x.base + length x.bytes) rest i s a o.3 (omega arith) is hit in
    record { holds = λ r. grind (arith, nat_tests, place.behind, later.holds r); byte = grind (arith, nat_tests, place.behind, later.byte); front = λ n. grind (arith, nat_tests, place.behind, later.front n) }

-- where no area has the byte, none holds it
pub none_holds : (bus : List AreaData) (r : Right) (a : ℕ) → HasNone bus a → holds_byte bus r a ≡ false
none_holds [] r a none = refl
none_holds (x ∷ rest) r a none = grind (arith, none.0, none_holds rest r a none.1)

pub none_front : (bus : List AreaData) (a n : ℕ) → HasNone bus a → front_of bus a n ≡ []
none_front [] a n none = refl
none_front (x ∷ rest) a n none = grind (arith, none.0, none_front rest a n none.1)

pub none_put : (bus : List AreaData) (a b : ℕ) → HasNone bus a → with_byte bus a b ≡ bus
none_put [] a b none = refl
none_put (x ∷ rest) a b none = grind (arith, none.0, none_put rest a b none.1)

-- a bank and its area
pub area_at : (banks : List Bank) (i : ℕ) (b : Bank) → b ≡ get_or banks i b → area b ≡ get_or (areas banks) i (area b)
area_at banks i b is = ap area is ∙ sym (get_or-map area banks i b)

-- a bank of an ordered list: its file's bytes are within its bytes, which end at the last address at most
pub bank_place : (banks : List Bank) (i : ℕ) (b : Bank) → AreInOrderFrom 0 (areas banks) → i < length banks → b ≡ get_or banks i b → InPlace 0 (area b)
bank_place banks i b o bound is = in_place 0 (areas banks) i (area b) o (omega (arith, length-map banks area)) (area_at banks i b is)

pub bank_end : (banks : List Bank) (i : ℕ) (b : Bank) → AreInOrderFrom 0 (areas banks) → i < length banks → b ≡ get_or banks i b → b.base + length b.bytes.items ≤ 2 ^ 32
bank_end banks i b o bound is = (bank_place banks i b o bound is).end

-- what a bank that was found says
pub seen : (banks : List Bank) (i : ℕ) (b : Bank) (a : ℕ) → AreInOrderFrom 0 (areas banks) → IsFound banks a i → b ≡ get_or banks i b → Looked (areas banks) (area b) a
seen banks i b a order found is =
    looked 0 (areas banks) i (area b) a order (omega (arith, length-map banks area, found.0)) (area_at banks i b is) (rw is (found.1 b))

-- the address lies in the bank
pub record Place (b : Bank) (a : ℕ) : Type 0 where
  pub from : b.base ≤ a
  pub end : a < b.base + length b.bytes.items

pub place_of : (banks : List Bank) (i : ℕ) (b : Bank) (a : ℕ) → IsFound banks a i → b ≡ get_or banks i b → Place b a
place_of banks i b a found is =
    let hit : is_in (area b) a ≡ true = rw is (found.1 b) in
    record { from = grind (arith, nat_tests); end = grind (arith, nat_tests) }

pub byte_found : (banks : List Bank) (i : ℕ) (b : Bank) (a x : ℕ) → AreInOrderFrom 0 (areas banks) → IsFound banks a i → b ≡ get_or banks i b → x ≡ get_or b.bytes.items (a - b.base) x → x ≡ byte_at (areas banks) a
byte_found banks i b a x order found is read =
    let at : Place b a = place_of banks i b a found is in
    read ∙ get_or_default b.bytes.items (a - b.base) x 0 (omega (arith, at.from, at.end)) ∙ sym (seen banks i b a order found is).byte

pub held_found : (banks : List Bank) (i : ℕ) (b : Bank) (r : Right) (a : ℕ) (may : Bool) → AreInOrderFrom 0 (areas banks) → IsFound banks a i → b ≡ get_or banks i b → grants r b.flags ≡ may → holds_byte (areas banks) r a ≡ may
held_found banks i b r a may order found is grant = (seen banks i b a order found is).holds r ∙ grant

pub ruleset read = (none_holds, byte_found, held_found)
