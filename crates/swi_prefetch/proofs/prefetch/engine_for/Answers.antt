use Rattle.std.proofs.Common.{◌≡◌, ◌*◌, ◌/◌, ◌≤◌, ℕ, List, length, Result, Ok, Err, IfOk, arith}
use Rattle.swi_image.specs.Format.{ImageData}
use Rattle.swi_image.specs.Sound.{IsImage}
use Rattle.swi_engine.specs.State.{EngineData}
use Rattle.swi_engine.specs.Sound.{EngineSound}
use Rattle.swi_prefetch.proofs.prefetch.engine_for.Goals as goal

-- what is said of an answer for every image, said of one
sound_for : {E : Type 0} (result : Result EngineData E) (v : ImageData) (bytes size blocks : ℕ) → IsImage v → blocks ≡ length v.starts → size ≡ v.block_words → 4 * size ≤ bytes → 2 ≤ size →
    IfOk result (λ e. (v : ImageData) (words : List ℕ) → IsImage v → length v.blocks ≤ blocks → v.block_words ≤ size → bytes / 4 / size * size ≤ length words → EngineSound e v words) →
    IfOk result (λ e. (words : List ℕ) → bytes ≤ 4 * length words → EngineSound e v words)
sound_for (Ok e) v bytes size blocks image many most least positive sound = λ words fits.
    sound v words image (let same = image.blocks in omega (arith, same, many)) (omega (arith, most)) (grind arith)
sound_for (Err x) v bytes size blocks image many most least positive sound = tt

-- src/prefetch.rt:52:1
pub returns-clause-sound : goal.returns-clause-sound
returns-clause-sound c =
    sound_for c.new.result c.args.image.now c.args.cache_bytes c.block_words.result c.blocks-2.result c.blocks-2.ensures.sound c.blocks-2.ensures.value c.block_words.ensures.value
    (let least = c.requires.least in let value = c.block_words.ensures.value in omega (arith, least, value)) c.block_words.ensures.least c.new.ensures.sound
