-- Where the areas of a bus are found, and numbers in the bytes of one of them, for the contracts
-- between the parts of this crate.
use Rattle.std.specs.Prelude.{◌≡◌, ℕ, ◌-◌, ◌<◌, ◌≤◌, true, false, List, [], ◌∷◌, length}
use Rattle.std.proofs.Common.{get_or}
use Rattle.swi_memory.specs.declared.bank.Bank.{Bank}
use Rattle.swi_memory.specs.Bus.{AreaData, Right, bytes_at, front_of, grants, is_in}
use Rattle.swi_memory.specs.Views.{area}

-- no area has a byte at the address
abbrev pub HasNone : List AreaData → ℕ → Type 0
HasNone [] a = Unit {0}
HasNone (s ∷ rest) a = (is_in s a ≡ false) × HasNone rest a

-- the bank at this place has a byte at the address
abbrev pub IsFound : List Bank → ℕ → ℕ → Type 0
IsFound banks a i = (i < length banks) × ((d : Bank) → is_in (area (get_or banks i d)) a ≡ true)

-- the bank at this place has all n bytes from the address on, and grants the right
pub record HasAll (banks : List Bank) (right : Right) (a n i : ℕ) : Type 0 where
  pub found : IsFound banks a i
  pub room : (d : Bank) → n ≤ length (get_or banks i d).bytes.items - (a - (get_or banks i d).base)
  pub granted : (d : Bank) → grants right (get_or banks i d).flags ≡ true

-- the front of a range of bytes that can be read
pub record Front (bus : List AreaData) (a n : ℕ) (front : List ℕ) : Type 0 where
  pub value : front ≡ front_of bus a n
  pub some : 0 < length front
  pub short : length front ≤ n
  pub bytes : front ≡ bytes_at bus a (length front)
