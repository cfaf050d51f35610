use Rattle.std.proofs.Common.{◌≡◌, ℕ, ◌/◌, ◌%◌, ◌≤◌, ◌++◌, [], ◌∷◌, List, false, length, arith, ap, sym, ◌∙◌}
use Rattle.std.proofs.lemmas.List.{append_assoc, length-append}
use Rattle.std.specs.Fmt.{digit_glyph, digits}
use Rattle.swi_trace.proofs.HexDigits.{hex_last, hex_more, length_hex}
use Rattle.swi_trace.proofs.text.+push_hex.Goals.{then-number-ge16, else-number-ge16}
use Rattle.swi_trace.proofs.text.+push_hex.Goals as goal

pub push_byte-requires : goal.push_byte-requires
push_byte-requires t c = elim c.if-number-ge16.branch [
  | then-number-ge16 w ↦
      let few : length (digits 16 false (c.args.number / 16)) ≤ 7 =
      length_hex 7 (c.args.number / 16) (omega arith) (omega arith) (omega arith) in
      let before : length c.if-number-ge16.line ≡ length (c.args.line.now ++ digits 16 false (c.args.number / 16)) =
      ap length (w.line-is ∙ w.push_hex.ensures.bytes) in
      omega (arith, length-append c.args.line.now (digits 16 false (c.args.number / 16)))
  | else-number-ge16 w ↦
      let before : length c.if-number-ge16.line ≡ length c.args.line.now = ap length w.line-is in
      omega arith
]

pub returns-clause-bytes : goal.returns-clause-bytes
returns-clause-bytes t c =
    let last : c.push_byte.new.self ≡ c.if-number-ge16.line ++ digit_glyph false (c.args.number % 16) ∷ [] =
    c.push_byte.ensures.bytes ∙ ap (λ (d : ℕ). c.if-number-ge16.line ++ d ∷ []) c.hex_digit.ensures in
    elim c.if-number-ge16.branch [
      | then-number-ge16 w ↦
          last ∙ ap (λ (l : List ℕ). l ++ digit_glyph false (c.args.number % 16) ∷ []) (w.line-is ∙ w.push_hex.ensures.bytes)
          ∙ append_assoc c.args.line.now (digits 16 false (c.args.number / 16)) (digit_glyph false (c.args.number % 16) ∷ [])
          ∙ ap (λ (d : List ℕ). c.args.line.now ++ d) (sym (hex_more c.args.number (omega arith) (omega arith)))
      | else-number-ge16 w ↦
          last ∙ ap (λ (l : List ℕ). l ++ digit_glyph false (c.args.number % 16) ∷ []) w.line-is
          ∙ ap (λ (d : List ℕ). c.args.line.now ++ d) (sym (hex_last c.args.number (omega arith)))
    ]

pub returns-clause-size : goal.returns-clause-size
returns-clause-size t c =
    let all : length c.push_byte.new.self ≡ length (c.args.line.now ++ digits 16 false c.args.number) =
    ap length (returns-clause-bytes t c) in
    let few : length (digits 16 false c.args.number) ≤ 8 = length_hex 8 c.args.number (omega arith) (omega arith) (omega arith) in
    omega (arith, length-append c.args.line.now (digits 16 false c.args.number))
