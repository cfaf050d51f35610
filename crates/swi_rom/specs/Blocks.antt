-- What an image says of its blocks' numbers and lengths.
use Rattle.std.proofs.Common.{ℕ, ◌^◌, ◌<◌, ◌≤◌, length, arith}
use Rattle.swi_image.specs.Format.{ImageData}
use Rattle.swi_image.specs.Place.{length_at}
use Rattle.swi_image.specs.Sound.{IsImage}

pub block_known : (v : ImageData) (b : ℕ) → IsImage v → b < length v.starts → b < length v.blocks
block_known v b image lt = omega (arith, image.blocks)

pub block_short : (v : ImageData) (b : ℕ) → IsImage v → b < length v.blocks → length_at v b ≤ v.block_words
block_short v b image lt = (image.lengths b (omega (arith, image.blocks))).1

pub block_few : (v : ImageData) (b : ℕ) → IsImage v → b < length v.starts → b < 2 ^ 19
block_few v b image lt = omega (arith, image.fewer, image.few)

pub known_few : (v : ImageData) (b : ℕ) → IsImage v → b < length v.blocks → b < 2 ^ 19
known_few v b image lt = omega (arith, image.blocks, image.fewer, image.few)
