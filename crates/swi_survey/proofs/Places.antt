-- Where text words stand in memory and in the image.
use Rattle.std.proofs.Common.{◌≡◌, ℕ, suc, ◌+◌, ◌-◌, ◌*◌, ◌/◌, ◌%◌, ◌^◌, ◌<◌, ◌≤◌, ◌==◌, ◌&&◌, Bool, false, nat_le, length, slice_index, Option, Some, None, if◌then◌else◌, arith, refl, sym, ◌∙◌, ap, inl, inr}
use Rattle.std.proofs.lemmas.Bool.{cases_Bool, and_parts, eqb-true, leb-true}
use Rattle.swi_memory.specs.Bus.{fetched}
use Rattle.swi_image.specs.Format.{ImageData}
use Rattle.swi_image.specs.Place.{place_of, place_of_word}
use Rattle.swi_image.specs.Sound.{IsImage}
use Rattle.swi_program.specs.Text.{TextData, IsSized, word_of}
use Rattle.swi_render.specs.Rendering.{rendering, rendering_of, sum}
use Rattle.swi_render.specs.ImageOf.{IsImageOf, address_of, rendering_at}
use Rattle.swi_render.specs.Carried.{Carries}
use Rattle.swi_render.proofs.Carrying.{image_carries}
use Rattle.swi_calls.specs.declared.machine.Machine.{Machine}
use Rattle.swi_hart.specs.Hart.{instruction, original, slots, slots_at}
use Rattle.swi_hart.proofs.Standing.{slots_are}
use Rattle.swi_survey.specs.declared.track.Here.{Here}
use Rattle.swi_survey.specs.declared.track.Here.TheVariants as here
use Rattle.swi_survey.specs.Ways.{instr_at, is_last, place_behind}
use Rattle.swi_survey.specs.Track.{HasText, StandsAt, place_at}
use Rattle.swi_survey.proofs.Mapping.{not_true, stands_at, word_here, word_placed}

-- an image of a text
pub record Ground (t : TextData) (v : ImageData) : Type 0 where
  pub sized : IsSized t
  pub image : IsImage v
  pub of : IsImageOf t v
  pub carries : Carries (word_of t) v

pub ground : (t : TextData) (v : ImageData) → IsSized t → IsImage v → IsImageOf t v → Ground t v
ground t v sized image of = record { sized = sized; image = image; of = of; carries = image_carries t v sized image of }

-- ---- the text word at an address

found_by : (base len a d : ℕ) → a < 2 ^ 32 → base + 4 * len ≤ 2 ^ 32 → d ≡ (a + 2 ^ 32 - base) % 2 ^ 32 → d % 4 ≡ 0 → d / 4 < len → a ≡ base + 4 * (d / 4)
found_by base len a d small within is even lt = omega arith

pub found : (t : TextData) (a d : ℕ) → IsSized t → a < 2 ^ 32 → d ≡ (a + 2 ^ 32 - t.base) % 2 ^ 32 → d % 4 ≡ 0 → d / 4 < length t.words → a ≡ address_of t (d / 4)
found t a d s small is even lt = found_by t.base (length t.words) a d small s.end is even lt

even_by : (base a d : ℕ) → base % 4 ≡ 0 → a % 4 ≡ 0 → a < 2 ^ 32 → base ≤ a → d ≡ (a + 2 ^ 32 - base) % 2 ^ 32 → d % 4 ≡ 0
even_by base a d aligned even small le is = omega arith

below_by : (base len a d : ℕ) → a < 2 ^ 32 → base ≤ a → a + 4 ≤ base + 4 * len → d ≡ (a + 2 ^ 32 - base) % 2 ^ 32 → d / 4 < len
below_by base len a d small le within is = omega arith

pub nowhere : (t : TextData) (a d : ℕ) → IsSized t → a < 2 ^ 32 → d ≡ (a + 2 ^ 32 - t.base) % 2 ^ 32 → (d % 4 ≡ 0 → d / 4 < length t.words → ⊥) → word_of t a ≡ None
nowhere t a d s small is none = elim (cases_Bool (a % 4 == 0 && (nat_le t.base a && nat_le (a + 4) (t.base + 4 * length t.words)))) [
  | inl inside ↦ (
      let parts = and_parts (a % 4 == 0) (nat_le t.base a && nat_le (a + 4) (t.base + 4 * length t.words)) inside in
      let ends = and_parts (nat_le t.base a) (nat_le (a + 4) (t.base + 4 * length t.words)) parts.1 in
      let even : a % 4 ≡ 0 = eqb-true _ _ parts.0 in
      let low : t.base ≤ a = leb-true _ _ ends.0 in
      let high : a + 4 ≤ t.base + 4 * length t.words = leb-true _ _ ends.1 in
      absurd (none (even_by t.base a d s.aligned even small low is) (below_by t.base (length t.words) a d small low high is)))
  | inr outside ↦ ap (λ (b : Bool). if b then Some (slice_index t.words ((a - t.base) / 4)) else None) outside
]

-- an address with a text word is within the text
pub record InText (t : TextData) (a : ℕ) : Type 0 where
  pub even : a % 4 ≡ 0
  pub low : t.base ≤ a
  pub high : a + 4 ≤ t.base + 4 * length t.words

pub in_text : (t : TextData) (a : ℕ) → (word_of t a ≡ None → ⊥) → InText t a
in_text t a some = elim (cases_Bool (a % 4 == 0 && (nat_le t.base a && nat_le (a + 4) (t.base + 4 * length t.words)))) [
  | inl inside ↦ (
      let parts = and_parts (a % 4 == 0) (nat_le t.base a && nat_le (a + 4) (t.base + 4 * length t.words)) inside in
      let ends = and_parts (nat_le t.base a) (nat_le (a + 4) (t.base + 4 * length t.words)) parts.1 in
      record { even = eqb-true _ _ parts.0; low = leb-true _ _ ends.0; high = leb-true _ _ ends.1 })
  | inr outside ↦ absurd (some (ap (λ (b : Bool). if b then Some (slice_index t.words ((a - t.base) / 4)) else None) outside))
]

-- ---- where a run stands

pub place_here : (t : TextData) (v : ImageData) (pc : ℕ) (h : Here) → Ground t v → StandsAt t pc h → pc < 2 ^ 32 → place_at t v h ≡ place_of v pc
place_here t v pc (here.At k) g at small = ap (place_of v) (sym at.1)
place_here t v pc (here.Behind k) g at small = absurd at
place_here t v pc here.Outside g at small = sym (g.carries.nowhere pc small at)

pub some_place : (t : TextData) (v : ImageData) (k : ℕ) → Ground t v → k < length t.words → place_of v (address_of t k) ≡ Some (place_of_word v k)
some_place t v k g lt = word_placed t v k g.sized g.of lt

-- behind a text word that isn't its block's last stands the next one
next_by : (base len k : ℕ) → len ≤ 2 ^ 19 → base + 4 * len ≤ 2 ^ 32 → k < len → base ≤ (base + 4 * k + 4) % 2 ^ 32 → (base + 4 * k + 4) % 2 ^ 32 + 4 ≤ base + 4 * len →
    ((base + 4 * k + 4) % 2 ^ 32 ≡ base + 4 * suc k) × (suc k < len)
next_by base len k few end lt low high = (omega arith, omega arith)

pub record NextStands (t : TextData) (v : ImageData) (k : ℕ) (p : ℕ × ℕ) : Type 0 where
  pub word : suc k < length t.words
  pub address : sum (address_of t k) 4 ≡ address_of t (suc k)
  pub place : place_of v (address_of t (suc k)) ≡ Some (place_behind t k p)

pub next_stands : (t : TextData) (v : ImageData) (k : ℕ) (p : ℕ × ℕ) → Ground t v → k < length t.words → is_last t v k p ≡ false → NextStands t v k p
next_stands t v k p g lt on =
    let there : place_of v (sum (address_of t k) 4) ≡ Some (place_behind t k p) = stands_at _ _ _ (not_true _ on) in
    let small : sum (address_of t k) 4 < 2 ^ 32 = omega arith in
    let inside = in_text t (sum (address_of t k) 4) (λ none. some_none _ _ there (g.carries.nowhere (sum (address_of t k) 4) small none)) in
    let next = next_by t.base (length t.words) k g.sized.few g.sized.end lt inside.low inside.high in
    record { word = next.1; address = next.0; place = ap (place_of v) (sym next.0) ∙ there }
  where
    some_none : (o : Option (ℕ × ℕ)) (q : ℕ × ℕ) → o ≡ Some q → o ≡ None → ⊥
    some_none o q is none = cc

-- ---- what the machine fetches at a text word

pub record AtWord (t : TextData) (f : Machine) (k : ℕ) : Type 0 where
  pub fetch : fetched f.bus f.pc ≡ Some (slice_index t.words k)
  pub original_is : original f ≡ instr_at t k
  pub slots_is : slots f ≡ rendering_of (instr_at t k) (slice_index t.words k) f.pc
  pub length_is : length (slots f) ≡ length (rendering_at t k)

pub at_word : (t : TextData) (f : Machine) (k : ℕ) → IsSized t → HasText t f → k < length t.words → f.pc ≡ address_of t k → AtWord t f k
at_word t f k s text lt at =
    let fetch : fetched f.bus f.pc ≡ Some (slice_index t.words k) = text f.pc ∙ ap (word_of t) at ∙ word_here t k s lt in
    record {
      fetch = fetch;
      original_is = ap (λ (o : Option ℕ). instruction o) fetch;
      slots_is = slots_are f (slice_index t.words k) (instr_at t k) fetch refl;
      length_is = ap (λ (o : Option ℕ). length (slots_at f.pc o)) fetch ∙ ap (λ (a : ℕ). length (rendering (slice_index t.words k) a)) at;
    }
