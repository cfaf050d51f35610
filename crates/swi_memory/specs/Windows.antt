-- The windows of a bus, for the contracts between the parts of this crate.
use Rattle.std.specs.Prelude.{◌≡◌, ◌⊎◌, ℕ, ◌+◌, ◌<◌, ◌≤◌, true, false, List, length}
use Rattle.std.proofs.Common.{get_or}
use Rattle.swi_memory.specs.declared.window.Window.{Window}
use Rattle.swi_memory.specs.declared.window.Windows.{Windows}
use Rattle.swi_memory.specs.Bus.{AreaData, Read, Write, grants, touches_text}

-- the area that the window is in, which can be read and written
pub record InArea (s : AreaData) (w : Window) : Type 0 where
  pub base : s.base ≡ w.base
  pub room : w.starts + 3 ≤ length s.bytes
  pub read : grants Read s.flags ≡ true
  pub write : grants Write s.flags ≡ true

-- where the window has an address it is in an area, and none of its bytes is a text word's
pub record IsWindow (bus : List AreaData) (w : Window) : Type 0 where
  pub place : 0 < w.starts → w.bank < length bus
  pub area : 0 < w.starts → (d : AreaData) → InArea (get_or bus w.bank d) w
  pub beside_text : 0 < w.starts → touches_text bus w.base (w.starts + 3) ≡ false

pub record AreWindows (bus : List AreaData) (w : Windows) : Type 0 where
  pub last : IsWindow bus w.last
  pub first : IsWindow bus w.first

-- the window at this place has all n bytes from the address on
pub record HasRange (w : Window) (a n i : ℕ) : Type 0 where
  pub here : i ≡ w.bank
  pub from : w.base ≤ a
  pub start : a < w.base + w.starts
  pub end : a + n ≤ w.base + (w.starts + 3)

-- one of the windows, at this place, has all n bytes from the address on
abbrev pub IsInWindow : Windows → ℕ → ℕ → ℕ → Type 0
IsInWindow w a n i = HasRange w.last a n i ⊎ HasRange w.first a n i
