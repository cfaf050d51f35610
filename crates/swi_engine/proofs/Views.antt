-- What the parts leave, as their code meets it.
use Rattle.std.proofs.Common.{◌≡◌, ℕ, ◌+◌, ◌*◌, ◌^◌, ◌<◌, ◌≤◌, ◌==◌, not, arith, filter, remove, List, length, slice_index, slice_index_or, slice_set, refl, sym, subst}
use Rattle.swi_engine.specs.declared.joints.Joint.{Joint}
use Rattle.swi_engine.specs.State.{EngineData}
use Rattle.std.proofs.lemmas.Nat.{row_fits}
use Rattle.std.proofs.lemmas.List.{get_or_read}
use Rattle.swi_rom.specs.Record.{Has}
use Rattle.swi_engine.proofs.Shapes.{has_index}
use Rattle.swi_engine.specs.Sound.{InShape}
use Rattle.swi_engine.specs.Moves.{left_data}

pub left_view : (e now : EngineData) (k b : ℕ) (q hs : List ℕ) (js : List Joint) → e ≡ now → q ≡ remove e.queue k → hs ≡ slice_set e.homes b e.slots → js ≡ filter (λ j. not (j.block == b)) e.joints → b ≡ slice_index e.blocks (slice_index e.queue k) →
    record e { queue = q; homes = hs; joints = js; counts = record e.counts { evictions = e.counts.evictions + 1 } } ≡ left_data now k
left_view e now k b q hs js same qs homes links is =
    subst (λ (t : EngineData). record e { queue = q; homes = hs; joints = js; counts = record e.counts { evictions = e.counts.evictions + 1 } } ≡ left_data t k) same (rw (qs, homes, links, is) refl)

-- the slot and the block that leave
pub leaving : (e now : EngineData) (k n b : ℕ) → e ≡ now → InShape e → k < length now.queue → n ≡ slice_index_or e.queue k n → b ≡ slice_index_or e.blocks n b → (n ≡ slice_index e.queue k) × (b ≡ slice_index e.blocks n) × (b < length e.homes)
leaving e now k n b same shape lt n_is b_is =
    let below : k < length e.queue = subst (λ (t : EngineData). k < length t.queue) (sym same) lt in
    let at : n ≡ slice_index e.queue k = get_or_read e.queue k n below n_is 0 in
    let here : Has e.queue n = subst (λ (m : ℕ). Has e.queue m) (sym at) (has_index e.queue k below) in
    let block : b ≡ slice_index e.blocks n = get_or_read e.blocks n b (omega (arith, shape.below n here, shape.blocks_long)) b_is 0 in
    (at, block, omega (arith, block, shape.homed.known n here))

-- a word of a slot, as the code computes its index
pub word_in : (e now : EngineData) (n o : ℕ) → e ≡ now → n < now.slots → o < now.size → n * e.size + o < now.slots * now.size
word_in e now n o same lt lt' = subst (λ (t : EngineData). n * t.size + o < now.slots * now.size) (sym same) (omega (arith, row_fits n now.size now.slots now.size lt (omega arith), lt'))

pub word_fits : (e now : EngineData) (n o : ℕ) → e ≡ now → InShape e → n < now.slots → o < now.size → n * e.size + o < 2 ^ 32
word_fits e now n o same shape lt lt' =
    omega (arith, word_in e now n o same lt lt', subst (λ (t : EngineData). t.slots * t.size ≤ 2 ^ 21) same shape.words_few)

-- its words lie within those of all slots
pub leaves_within : (e now : EngineData) (k n : ℕ) → e ≡ now → InShape e → k < length now.queue → n ≡ slice_index_or e.queue k n → (n < length e.lengths) × (n * e.size + e.size ≤ e.slots * e.size)
leaves_within e now k n same shape lt n_is =
    let below : k < length e.queue = subst (λ (t : EngineData). k < length t.queue) (sym same) lt in
    let at : n ≡ slice_index e.queue k = get_or_read e.queue k n below n_is 0 in
    let here : n < e.slots = shape.below n (subst (λ (m : ℕ). Has e.queue m) (sym at) (has_index e.queue k below)) in
    (omega (arith, here, shape.lengths_long), row_fits n e.size e.slots e.size here (omega arith))
