-- The sizes of a survey's caches: what is refused of them, and what is known of those that are not.
use Rattle.std.proofs.Common.{◌≡◌, ◌⊎◌, inl, inr, ℕ, ◌+◌, ◌*◌, ◌/◌, ◌^◌, ◌<◌, ◌≤◌, nat_lt, List, [], ◌∷◌, length, map, Option, Some, None, if◌then◌else◌, refl, sym, ◌∙◌, subst, ap, arith}
use Rattle.std.proofs.lemmas.Bool.Decides.{nat_tests}
use Rattle.std.proofs.Math.Nat.{div-mul-le_self}
use Rattle.std.proofs.lemmas.Nat.{le-div}
use Rattle.std.proofs.lemmas.List.Elements.{All-from_recursion, All-map}
use Rattle.std.specs.List.{All, AllByRecursion}
use Rattle.std.specs.Option.{option_or}
use Rattle.swi_elf_read.specs.Loaded.{image_of as image_in}
use Rattle.swi_image.specs.Format.{ImageData}
use Rattle.swi_command.specs.declared.command.CacheKind.{CacheKind}
use Rattle.swi_command.specs.declared.command.CacheKind.TheVariants as kind
use Rattle.swi_command.specs.declared.command.RunLimits.{RunLimits}
use Rattle.swi_answer.specs.declared.answer.Refusal.{Refusal}
use Rattle.swi_tally.specs.declared.tally.Placing.TheVariants as placing
use Rattle.swi_tally.specs.Tallies.{IsFrame}
use Rattle.swi_cached_task.specs.Placing.{hold_block, placed_checks}
use Rattle.swi_task.specs.Checks.{Check, HoldsBlock, Fails, IsAccepted, IsRefusedBy, block_words, file_limit, first_size_refusal, size_refusal}
use Rattle.swi_task.specs.Subject.{IsImageFor}
use Rattle.swi_task.proofs.Images.{size_is}
use Rattle.swi_task.proofs.Refusals.{AreShort}
use Rattle.swi_survey_command.specs.Frames.{AreHeld, frame_by}

-- ---- one size behind another

-- a size that is not refused leaves it to the others
pub next_size : (bytes words : ℕ) (sizes : List ℕ) → size_refusal bytes words ≡ None → first_size_refusal (bytes ∷ sizes) words ≡ first_size_refusal sizes words
next_size bytes words sizes none = ap (λ (x : Option Refusal). option_or x (first_size_refusal sizes words)) none

pub this_size : (bytes words : ℕ) (sizes : List ℕ) (r : Refusal) → size_refusal bytes words ≡ Some r → first_size_refusal (bytes ∷ sizes) words ≡ Some r
this_size bytes words sizes r some = ap (λ (x : Option Refusal). option_or x (first_size_refusal sizes words)) some

-- ---- what is known of sizes that were let through

size_most : (bytes words : ℕ) → size_refusal bytes words ≡ None → bytes ≤ 2 ^ 23
size_most bytes words e = grind (arith, nat_tests)

none_first : (bytes words : ℕ) (sizes : List ℕ) → first_size_refusal (bytes ∷ sizes) words ≡ None → (size_refusal bytes words ≡ None) × (first_size_refusal sizes words ≡ None)
none_first bytes words sizes e = by (size_refusal bytes words) refl e
  where
    by : (x : Option Refusal) → size_refusal bytes words ≡ x → option_or x (first_size_refusal sizes words) ≡ None → (size_refusal bytes words ≡ None) × (first_size_refusal sizes words ≡ None)
    by None is e = (is, e)
    by (Some r) is e = absurd (let never : ⊥ = cc in never)

each_held : (sizes : List ℕ) (ram words : ℕ) → first_size_refusal sizes ram ≡ None → IsAccepted (hold_block sizes (4 * words)) → AllByRecursion (λ bytes. (4 * words ≤ bytes) × (bytes ≤ 2 ^ 23)) sizes
each_held [] ram words sized holds = tt
each_held (bytes ∷ sizes) ram words sized holds = let both = none_first bytes ram sizes sized in ((holds.0, size_most bytes ram both.0), each_held sizes ram words both.1 holds.1)

-- of a file that passes, with the image that is used
pub are_held : (limits : RunLimits) (sizes : List ℕ) (block ram : ℕ) (file : List ℕ) (v : ImageData) → first_size_refusal sizes ram ≡ None → IsAccepted (placed_checks limits sizes block file) →
    IsImageFor file block (image_in file) v → AreHeld v.block_words sizes
are_held limits sizes block ram file v sized passed own =
    subst (λ (words : ℕ). AreHeld words sizes) (size_is file block (image_in file) v own)
    (All-from_recursion _ sizes (each_held sizes ram (block_words (image_in file) block) sized passed.1.1.1.1.1.1))

-- ---- their frames

ring_words : (words bytes : ℕ) → 4 * words ≤ bytes → words ≤ bytes / 4
ring_words words bytes held = omega arith

slots_few : (words bytes : ℕ) → bytes ≤ 2 ^ 23 → bytes / (4 * words) * words ≤ 2 ^ 21
slots_few words bytes most =
    let four = div-mul-le_self bytes (4 * words) in
    let same : 4 * (bytes / (4 * words) * words) ≡ bytes / (4 * words) * (4 * words) = grind arith in
    omega (arith, four, same, most)

frame_is : (k : CacheKind) (words bytes : ℕ) → 2 ≤ words → words ≤ 1024 → (4 * words ≤ bytes) × (bytes ≤ 2 ^ 23) → IsFrame words (frame_by k words bytes)
frame_is kind.Slots words bytes some few h = record {
  some = le-div 1 bytes (4 * words) (omega (arith, some)) (omega (arith, h.0));
  words = slots_few words bytes h.1;
  most = omega (arith, few);
  holds = omega arith;
  one = λ e. absurd (let never : ⊥ = cc in never);
}
frame_is kind.Ring words bytes some few h = record {
  some = omega arith;
  words = omega (arith, h.1);
  most = omega (arith, h.1);
  holds = ring_words words bytes h.0;
  one = λ e. refl;
}

pub are_frames : (k : CacheKind) (words : ℕ) (sizes : List ℕ) → 2 ≤ words → words ≤ 1024 → AreHeld words sizes → All (IsFrame words) (map (frame_by k words) sizes)
are_frames k words sizes some few held = All-map (IsFrame words) (frame_by k words) sizes (λ i d lt. frame_is k words _ some few (held i d lt))

-- ---- the lengths that are checked

holds_short : (sizes : List ℕ) (least : ℕ) → AreShort (hold_block sizes least)
holds_short [] least = tt
holds_short (bytes ∷ sizes) least = holds_short sizes least

-- are those of the file
pub are_short : (limits : RunLimits) (sizes : List ℕ) (block : ℕ) (file : List ℕ) → length file ≤ file_limit → AreShort (placed_checks limits sizes block file)
are_short limits sizes block file within = (within, holds_short sizes (4 * block_words (image_in file) block))
