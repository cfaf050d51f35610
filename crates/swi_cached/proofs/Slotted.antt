-- The cache of slots, from what a service with slots tells that was just made.
use Rattle.std.proofs.Common.{◌≡◌, ℕ, ◌*◌, ◌/◌, ◌≤◌, Result, Ok, Err, IfOk, refl, ap, ◌∙◌, arith}
use Rattle.std.proofs.Math.Nat.{div-div-eq-div-mul, div-mul-le_self}
use Rattle.swi_image.specs.Format.{ImageData}
use Rattle.swi_rom.specs.Record.{Record, empty_record}
use Rattle.swi_rom.specs.Service.{Setting, Cache, cache_of}
use Rattle.swi_slots.specs.Fifo.{fifo, extent_of}
use Rattle.swi_slots.specs.Service.{slots_service}
use Rattle.swi_slots.specs.Slots.{Slots, kept_by, setting_of, span_of, empty_slots}
use Rattle.swi_cached.specs.Cached.{IsFresh}
use Rattle.swi_cached.specs.Slotted.{slot_setting, slotted}

-- slots of so many words for one program
sized : ℕ → ℕ → Setting
sized slots words = record { slots = slots; slot_words = words; programs = 1 }

pub setting_is : (bytes words : ℕ) (s : Slots) (v : ImageData) → s ≡ empty_slots (bytes / 4 / words) words 1 → words ≡ v.block_words → setting_of s ≡ slot_setting bytes v
unfolding sized
setting_is bytes words s v is same =
    ap setting_of is ∙ ap (λ (n : ℕ). sized n words) (div-div-eq-div-mul bytes 4 words) ∙ ap (λ (n : ℕ). sized (bytes / (4 * n)) n) same

-- the cache by a setting and what is kept
by : Setting → Record → Cache
by setting kept = record { span = span_of setting; empty = kept; policy = fifo setting; extent = extent_of setting }

pub cache_is : (bytes : ℕ) (s : Slots) (v : ImageData) → setting_of s ≡ slot_setting bytes v → kept_by s ≡ empty_record → cache_of slots_service s ≡ slotted bytes v
unfolding by
cache_is bytes s v setting empty = ap (λ (k : Setting). by k (kept_by s)) setting ∙ ap (λ (r : Record). by (slot_setting bytes v) r) empty

pub slots_fit : (bytes words n : ℕ) → bytes ≤ 4 * n → bytes / 4 / words * words ≤ n
slots_fit bytes words n le = let few = div-mul-le_self (bytes / 4) words in omega (arith, few)

pub fresh_is : (r : Record) → r ≡ empty_record → IsFresh r
fresh_is r is = rw is (record { unplaced = refl; unserved = refl; unwritten = refl })

pub if_ok : {T E : Type 0} {P Q : T → Type 0} (r : Result T E) → ((x : T) → P x → Q x) → IfOk r P → IfOk r Q
if_ok (Ok x) f p = f x p
if_ok (Err e) f p = tt

pub if_both : {T E : Type 0} {P Q R : T → Type 0} (r : Result T E) → ((x : T) → P x → Q x → R x) → IfOk r P → IfOk r Q → IfOk r R
if_both (Ok x) f p q = f x p q
if_both (Err e) f p q = tt
