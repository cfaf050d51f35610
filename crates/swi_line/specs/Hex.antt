-- Words and bytes in hexadecimal digits, lower-case, the highest first.
use Rattle.std.specs.Prelude.{ℕ, List, [], ◌∷◌}
use Rattle.std.specs.Int.{w32, to_be_bytes}
use Rattle.hex.specs.Hex.{encode_lower}

-- a word in eight digits
abbrev pub hex_word : ℕ → List ℕ
hex_word w = encode_lower (to_be_bytes w32 w)

-- a byte in two
abbrev pub hex_byte : ℕ → List ℕ
hex_byte b = encode_lower (b ∷ [])
