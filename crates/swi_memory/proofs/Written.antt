-- A write leaves the areas in order, the text where it is, and the rights as they are.
use Rattle.std.proofs.Common.{◌≡◌, ℕ, ◌+◌, ◌-◌, zero, suc, true, false, List, [], ◌∷◌, length, get_or, Bool, Result, Ok, Err, arith, refl, ap, ◌∙◌}
use Rattle.std.proofs.lemmas.Bool.Decides.{nat_tests}
use Rattle.std.proofs.lemmas.List.{length-set, with_items_is}
use Rattle.std.specs.Vec.{with_items}
use Rattle.swi_memory.specs.declared.access.Access.{Access}
use Rattle.swi_memory.specs.declared.bank.Bank.{Bank}
use Rattle.swi_memory.specs.declared.bus.Bus.TheInside.{Inside}
use Rattle.swi_memory.specs.declared.text.Text.{Text}
use Rattle.swi_memory.specs.Bus.{AreaData, AreInOrder, AreInOrderFrom, Right, fetched, holds, lets_store, lowest, touches_text, with_byte, with_bytes}
use Rattle.swi_memory.specs.BusView.{IsBus}
use Rattle.swi_memory.specs.Laws.{fetched_with_bytes, holds-with_bytes, length-lowest, text-with_byte}
use Rattle.swi_memory.specs.Views.{areas}
use Rattle.swi_memory.specs.Writes.{Writes}
use Rattle.swi_memory.specs.TextAt.{InArea, IsText}
use Rattle.swi_memory.specs.Windows.{AreWindows}
use Rattle.swi_memory.specs.declared.window.Windows.{Windows}
use Rattle.swi_memory.proofs.Windowed.{windows-with_byte}

pub order-with_byte : (from : ℕ) (bus : List AreaData) (a b : ℕ) → AreInOrderFrom from bus → AreInOrderFrom from (with_byte bus a b)
order-with_byte from [] a b order = order
order-with_byte from (s ∷ rest) a b order =
    grind (arith, nat_tests, length-set s.bytes (a - s.base) b, order.0, order.1, order.2, order.3, order-with_byte (s.base + length s.bytes) rest a b order.3)

length-with_byte : (bus : List AreaData) (a b : ℕ) → length (with_byte bus a b) ≡ length bus
length-with_byte [] a b = refl
length-with_byte (s ∷ rest) a b = grind (arith, nat_tests, length-with_byte rest a b)

area-with_byte : (bus : List AreaData) (a b i : ℕ) (d : AreaData) (t : Text) → InArea (get_or bus i d) t → InArea (get_or (with_byte bus a b) i d) t
area-with_byte [] a b i d t h = h
area-with_byte (s ∷ rest) a b zero d t h = record { from = grind (arith, nat_tests, h.from); end = grind (arith, nat_tests, length-set s.bytes (a - s.base) b, h.end) }
area-with_byte (s ∷ rest) a b (suc i) d t h = grind (arith, nat_tests, area-with_byte rest a b i d t h)

-- the order of areas, and where their text and windows are
record Stands (bus : List AreaData) (t : Text) (w : Windows) : Type 0 where
  order : AreInOrder bus
  text : IsText bus t
  windows : AreWindows bus w

stands-with_byte : (bus : List AreaData) (a b : ℕ) (t : Text) (w : Windows) → Stands bus t w → Stands (with_byte bus a b) t w
stands-with_byte bus a b t w s = record {
  order = order-with_byte 0 bus a b s.order;
  text = record {
    first = s.text.first;
    whole = s.text.whole;
    end = s.text.end;
    words = λ x. text-with_byte bus a b x ∙ s.text.words x;
    place = λ some. rw length-with_byte (s.text.place some);
    area = λ some d. area-with_byte bus a b t.bank d t (s.text.area some d);
  };
  windows = windows-with_byte bus a b w (length-with_byte bus a b) s.windows;
}

stands-with_bytes : (bus : List AreaData) (a : ℕ) (bytes : List ℕ) (t : Text) (w : Windows) → Stands bus t w → Stands (with_bytes bus a bytes) t w
stands-with_bytes bus a [] t w s = s
stands-with_bytes bus a (b ∷ bytes) t w s = stands-with_bytes (with_byte bus a b) (a + 1) bytes t w (stands-with_byte bus a b t w s)

-- what a write leaves, whether it was made or not
after : (P : List AreaData → Type 0) (may : Bool) (old put new : List AreaData) (r : Result (Unit {0}) Access) → Writes may old put new r → P old → (may ≡ true → P put) → P new
after P may old put new (Ok u) w kept made = rw w.bytes (made w.granted)
after P may old put new (Err e) w kept made = rw w.unchanged kept

-- the banks of a bus after a write of bytes
module _ (b : Inside) (bus : List AreaData) (old new : List Bank) (may : Bool) (a : ℕ) (bytes : List ℕ) (r : Result (Unit {0}) Access) (is : old ≡ b.banks.items) (seen : areas b.banks.items ≡ bus)
    (same : length new ≡ length old) (w : Writes may (areas old) (with_bytes (areas old) a bytes) (areas new) r) where
  items : (with_items b.banks new).items ≡ new
  items = with_items_is b.banks new (omega (arith, ap length is, b.banks.ok.0))

  put : (P : List AreaData → Type 0) → P bus → (may ≡ true → P (with_bytes bus a bytes)) → P (areas (with_items b.banks new).items)
  put P kept made =
      let was : areas old ≡ bus = ap areas is ∙ seen in
      rw items (after P may (areas old) (with_bytes (areas old) a bytes) (areas new) r w (rw was kept) (rw was made))

  pub still_bus : IsBus b → IsBus (record { banks = with_items b.banks new; text = b.text; windows = b.windows })
  still_bus h =
      let s : Stands bus b.text b.windows = rw (← seen) (record { order = h.order; text = h.text; windows = h.windows }) in
      let stands : Stands (areas (with_items b.banks new).items) b.text b.windows = put (λ q. Stands q b.text b.windows) s (λ granted. stands-with_bytes bus a bytes b.text b.windows s) in
      record { order = stands.order; text = stands.text; windows = stands.windows; few = h.few }

  pub same_text : touches_text bus a (length bytes) ≡ false → (x : ℕ) → fetched (areas (with_items b.banks new).items) x ≡ fetched bus x
  same_text untouched x = put (λ q. fetched q x ≡ fetched bus x) refl (λ granted. fetched_with_bytes bus a bytes x untouched)

  pub same_text_beside : (may ≡ true → touches_text (areas old) a (length bytes) ≡ false) → (x : ℕ) → fetched (areas (with_items b.banks new).items) x ≡ fetched bus x
  same_text_beside untouched x =
      let was : areas old ≡ bus = ap areas is ∙ seen in
      put (λ q. fetched q x ≡ fetched bus x) refl (λ granted. fetched_with_bytes bus a bytes x (rw was at (untouched granted)))

  pub same_rights : (right : Right) (x n : ℕ) → holds (areas (with_items b.banks new).items) right x n ≡ holds bus right x n
  same_rights right x n = put (λ q. holds q right x n ≡ holds bus right x n) refl (λ granted. holds-with_bytes bus right a bytes x n)

-- bytes that are put beside the text are no text word's
pub untouched : (bus : List AreaData) (a n v : ℕ) → lets_store bus a n ≡ true → touches_text bus a (length (lowest n v)) ≡ false
untouched bus a n v lets = rw length-lowest (grind (arith, nat_tests, lets))
