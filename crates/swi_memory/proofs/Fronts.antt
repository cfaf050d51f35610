-- The front of a range is the bytes at its addresses.
use Rattle.std.proofs.Common.{◌≡◌, ℕ, ◌-◌, ◌<◌, min, List, length, get_or, take, drop, arith, sym, ap, ◌∙◌, length-take, length-drop}
use Rattle.std.proofs.lemmas.List.{take_min}
use Rattle.swi_memory.specs.declared.bank.Bank.{Bank}
use Rattle.swi_memory.specs.Bus.{AreInOrder, bytes_at}
use Rattle.swi_memory.specs.Found.{Front, IsFound}
use Rattle.swi_memory.specs.Views.{area, areas}
use Rattle.swi_memory.proofs.Accesses.{bytes_within, range_of}
use Rattle.swi_memory.proofs.Looks.{Place, place_of, seen}

pub front_is : (banks : List Bank) (i : ℕ) (b : Bank) (a n : ℕ) → AreInOrder (areas banks) → IsFound banks a i → b ≡ get_or banks i b → 0 < n → Front (areas banks) a n (take n (drop (a - b.base) b.bytes.items))
front_is banks i b a n order found is some =
    let at : Place b a = place_of banks i b a found is in
    let rest : List ℕ = drop (a - b.base) b.bytes.items in
    let most : ℕ = min n (length rest) in
    let size : length rest ≡ length b.bytes.items - (a - b.base) = length-drop (a - b.base) b.bytes.items in
    let front : take n rest ≡ bytes_at (areas banks) a most =
    sym (take_min n rest) ∙ bytes_within (areas banks) i (area b) a most (range_of banks i b a most order found is (omega (arith, size))) in
    record {
      value = sym ((seen banks i b a order found is).front n);
      some = omega (arith, length-take n rest, size, at.from, at.end);
      short = omega (arith, length-take n rest);
      bytes = front ∙ ap (bytes_at (areas banks) a) (sym (length-take n rest));
    }
