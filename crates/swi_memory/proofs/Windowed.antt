-- An access that lies in a window.
use Rattle.std.proofs.Common.{◌≡◌, ℕ, ◌+◌, ◌-◌, ◌<◌, zero, suc, List, [], ◌∷◌, length, get_or, true, false, inl, inr, arith, refl, subst, ◌∙◌}
use Rattle.std.proofs.lemmas.Bool.Decides.{nat_tests}
use Rattle.std.proofs.lemmas.List.{length-set, length-map}
use Rattle.std.proofs.Math.ListN.{get_or-map}
use Rattle.swi_memory.specs.declared.bank.Bank.{Bank}
use Rattle.swi_memory.specs.declared.window.Window.{Window}
use Rattle.swi_memory.specs.declared.window.Windows.{Windows}
use Rattle.swi_memory.specs.Bus.{AreaData, IsSize, Right, Read, Write, grants, holds, lets_store, touches_text, with_byte}
use Rattle.swi_memory.specs.Found.{HasAll}
use Rattle.swi_memory.specs.Laws.{inside, touches-with_byte, touches_part}
use Rattle.swi_memory.specs.Views.{area, areas}
use Rattle.swi_memory.specs.Windows.{AreWindows, HasRange, InArea, IsInWindow, IsWindow}

-- the bytes are no text word's
beside : (bus : List AreaData) (w : Window) (a n i : ℕ) → IsWindow bus w → HasRange w a n i → touches_text bus a n ≡ false
beside bus w a n i is has = touches_part bus w.base (w.starts + 3) a n (is.beside_text (omega (arith, has.from, has.start))) has.from has.end

untouched : (bus : List AreaData) (w : Windows) (a n i : ℕ) → AreWindows bus w → IsInWindow w a n i → touches_text bus a n ≡ false
untouched bus w a n i are (inl last) = beside bus w.last a n i are.last last
untouched bus w a n i are (inr first) = beside bus w.first a n i are.first first

-- so a store that may be made may be made beside the text
pub lets : (bus : List AreaData) (w : Windows) (a n i : ℕ) → AreWindows bus w → IsInWindow w a n i → holds bus Write a n ≡ true → lets_store bus a n ≡ true
lets bus w a n i are is held = grind (arith, nat_tests, held, untouched bus w a n i are is)

some_of : (n : ℕ) → IsSize n → 0 < n
some_of n (inl one) = omega arith
some_of n (inr (inl two)) = omega arith
some_of n (inr (inr four)) = omega arith

-- a bank with a right, by the area of the window
has_all : (banks : List Bank) (r : Right) (w : Window) (a n : ℕ) → 0 < n → HasRange w a n w.bank → w.bank < length banks → ((d : Bank) → InArea (area (get_or banks w.bank d)) w) → ((d : Bank) → grants r (get_or banks w.bank d).flags ≡ true) →
    HasAll banks r a n w.bank
has_all banks r w a n some has bound lies granted = record {
  found = (bound, λ d. let s = lies d in inside (area (get_or banks w.bank d)) a (omega (arith, s.base, has.from)) (omega (arith, s.base, s.room, has.end, some)));
  room = λ d. let s = lies d in omega (arith, s.base, s.room, has.from, has.end);
  granted = granted;
}

module _ (banks : List Bank) (w : Window) (a n i : ℕ) (is : IsWindow (areas banks) w) (some : 0 < n) (has : HasRange w a n i) where
  here : 0 < w.starts
  here = omega (arith, has.from, has.start)

  lies : (d : Bank) → InArea (area (get_or banks w.bank d)) w
  lies d = subst (λ s. InArea s w) (get_or-map area banks w.bank d) (is.area here (area d))

  at : HasRange w a n w.bank
  at = record { here = refl; from = has.from; start = has.start; end = has.end }

  bound : w.bank < length banks
  bound = omega (arith, is.place here, length-map banks area)

  reads : HasAll banks Read a n i
  reads = rw has.here (has_all banks Read w a n some at bound lies (λ d. (lies d).read))

  writes : HasAll banks Write a n i
  writes = rw has.here (has_all banks Write w a n some at bound lies (λ d. (lies d).write))

pub has_read : (banks : List Bank) (w : Windows) (a n i : ℕ) → AreWindows (areas banks) w → IsSize n → IsInWindow w a n i → HasAll banks Read a n i
has_read banks w a n i are size (inl last) = reads banks w.last a n i are.last (some_of n size) last
has_read banks w a n i are size (inr first) = reads banks w.first a n i are.first (some_of n size) first

pub has_write : (banks : List Bank) (w : Windows) (a n i : ℕ) → AreWindows (areas banks) w → IsSize n → IsInWindow w a n i → HasAll banks Write a n i
has_write banks w a n i are size (inl last) = writes banks w.last a n i are.last (some_of n size) last
has_write banks w a n i are size (inr first) = writes banks w.first a n i are.first (some_of n size) first

-- a write of a byte leaves each window
area-with_byte : (bus : List AreaData) (a b i : ℕ) (d : AreaData) (w : Window) → InArea (get_or bus i d) w → InArea (get_or (with_byte bus a b) i d) w
area-with_byte [] a b i d w h = h
area-with_byte (s ∷ rest) a b zero d w h = record { base = grind (arith, nat_tests, h.base); room = grind (arith, nat_tests, length-set s.bytes (a - s.base) b, h.room); read = grind (arith, nat_tests, h.read); write = grind (arith, nat_tests, h.write) }
area-with_byte (s ∷ rest) a b (suc i) d w h = grind (arith, nat_tests, area-with_byte rest a b i d w h)

window-with_byte : (bus : List AreaData) (a b : ℕ) (w : Window) → length (with_byte bus a b) ≡ length bus → IsWindow bus w → IsWindow (with_byte bus a b) w
window-with_byte bus a b w same h = record {
  place = λ some. rw same (h.place some);
  area = λ some d. area-with_byte bus a b w.bank d w (h.area some d);
  beside_text = λ some. touches-with_byte bus a b w.base (w.starts + 3) ∙ h.beside_text some;
}

pub windows-with_byte : (bus : List AreaData) (a b : ℕ) (w : Windows) → length (with_byte bus a b) ≡ length bus → AreWindows bus w → AreWindows (with_byte bus a b) w
windows-with_byte bus a b w same h = record { last = window-with_byte bus a b w.last same h.last; first = window-with_byte bus a b w.first same h.first }
