-- What a program's image says of a block, by the block's key.
use Rattle.std.proofs.Common.{ℕ, ◌≤◌}
use Rattle.swi_image.specs.Sound.{IsImage}
use Rattle.swi_rom.specs.Blocks.{block_short}
use Rattle.swi_slots.specs.Keys.{Images, owner_of, number_of, words_in, IsKnown}

pub known_short : (vs : Images) (k : ℕ) → IsImage (vs (owner_of k)) → IsKnown vs k → words_in vs k ≤ (vs (owner_of k)).block_words
known_short vs k image known = block_short (vs (owner_of k)) (number_of k) image known
