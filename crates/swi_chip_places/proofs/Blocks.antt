-- Which block a text word is of, as one goes through them in order.
use Rattle.std.proofs.Common.{◌≡◌, ◌∙◌, ℕ, ◌+◌, ◌^◌, ◌<◌, ◌≤◌, List, length, slice_index, ap, arith, sym, subst}
use Rattle.swi_image.specs.Checks.{block_of}
use Rattle.swi_image.specs.Format.{ImageData}
use Rattle.swi_image.specs.Laws.{block_inside}
use Rattle.swi_image.specs.Place.{length_at}
use Rattle.swi_image.proofs.Counting.{block_is}
use Rattle.swi_chip_places.specs.Places.{AreOfImage}

module _ {starts offsets : List ℕ} (t : AreOfImage starts offsets) where
  ascends : (b : ℕ) → b + 1 < length starts → slice_index starts b < slice_index starts (b + 1)
  ascends = subst (λ (xs : List ℕ). (b : ℕ) → b + 1 < length xs → slice_index xs b < slice_index xs (b + 1)) (sym t.starts_are) t.image.ascending

  pub stays : (k b : ℕ) → b < length starts → slice_index starts b ≤ k → (b + 1 < length starts → k < slice_index starts (b + 1)) → block_of starts k ≡ b
  stays k b inside low high = block_is starts k b (record { next = ascends }) inside low high

  pub next_above : (b k : ℕ) → slice_index starts (b + 1) ≡ k → b + 1 + 1 < length starts → k < slice_index starts (b + 1 + 1)
  next_above b k is more = (let up = ascends (b + 1) more in omega arith)

  pub moves : (k b : ℕ) → b + 1 < length starts → slice_index starts (b + 1) ≡ k → block_of starts k ≡ b + 1
  moves k b inside is = stays k (b + 1) inside (omega arith) (next_above b k is)

  pub begins : slice_index starts 0 ≡ 0
  begins = ap (λ (xs : List ℕ). slice_index xs 0) t.starts_are ∙ t.image.first

  pub some : 1 ≤ length starts
  some = subst (λ (xs : List ℕ). 1 ≤ length xs) (sym t.starts_are) t.image.some

  pub few : length starts ≤ 2 ^ 19
  few = (let a = ap (λ (xs : List ℕ). length xs) t.starts_are in omega (arith, t.image.fewer, t.image.few))

  pub few_words : length offsets ≤ 2 ^ 19
  few_words = (let a = ap (λ (xs : List ℕ). length xs) t.offsets_are in omega (arith, t.image.few))

  pub small : (k : ℕ) → k < length offsets → slice_index offsets k < 2 ^ 10
  small k inside =
      let v : ImageData = t.v in
      let b : ℕ = block_of v.starts k in
      let same : slice_index offsets k ≡ slice_index v.offsets k = ap (λ (xs : List ℕ). slice_index xs k) t.offsets_are in
      let within : slice_index v.offsets k < length_at v b = t.image.within k (subst (λ (xs : List ℕ). k < length xs) t.offsets_are inside) in
      let most = (t.image.lengths b (block_inside v.starts k t.image.some)).1 in
      omega (arith, t.image.most)

pub ruleset blocks = (stays, moves, next_above, few)

pub ruleset tables = (begins, some, few, few_words, small)
