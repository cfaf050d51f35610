use Rattle.std.proofs.Common.{◌≡◌, ℕ, ◌+◌, ◌/◌, ◌%◌, ◌≤◌, ◌++◌, [], ◌∷◌, List, length, decimal, arith, ap, sym, ◌∙◌}
use Rattle.std.proofs.lemmas.List.{append_assoc, length-append}
use Rattle.swi_trace.proofs.Decimals.{decimal_last, decimal_more, length_decimal, length_front}
use Rattle.swi_trace.proofs.text.+push_decimal.Goals.{then-number-ge10, else-number-ge10}
use Rattle.swi_trace.proofs.text.+push_decimal.Goals as goal

pub push_byte-requires : goal.push_byte-requires
push_byte-requires t c = elim c.if-number-ge10.branch [
  | then-number-ge10 w ↦
      let few : length (decimal (c.args.number / 10)) ≤ 9 = length_front c.args.number (omega arith) in
      let before : length c.if-number-ge10.line ≡ length (c.args.line.now ++ decimal (c.args.number / 10)) =
      ap length (w.line-is ∙ w.push_decimal.ensures.bytes) in
      omega (arith, length-append c.args.line.now (decimal (c.args.number / 10)))
  | else-number-ge10 w ↦
      let before : length c.if-number-ge10.line ≡ length c.args.line.now = ap length w.line-is in
      omega arith
]

pub returns-clause-bytes : goal.returns-clause-bytes
returns-clause-bytes t c = elim c.if-number-ge10.branch [
  | then-number-ge10 w ↦
      c.push_byte.ensures.bytes
      ∙ ap (λ (l : List ℕ). l ++ (48 + c.args.number % 10) ∷ []) (w.line-is ∙ w.push_decimal.ensures.bytes)
      ∙ append_assoc c.args.line.now (decimal (c.args.number / 10)) ((48 + c.args.number % 10) ∷ [])
      ∙ ap (λ (d : List ℕ). c.args.line.now ++ d) (sym (decimal_more c.args.number (omega arith) (omega arith)))
  | else-number-ge10 w ↦
      c.push_byte.ensures.bytes
      ∙ ap (λ (l : List ℕ). l ++ (48 + c.args.number % 10) ∷ []) w.line-is
      ∙ ap (λ (d : List ℕ). c.args.line.now ++ d) (sym (decimal_last c.args.number (omega arith)))
]

pub returns-clause-size : goal.returns-clause-size
returns-clause-size t c =
    let all : length c.push_byte.new.self ≡ length (c.args.line.now ++ decimal c.args.number) =
    ap length (returns-clause-bytes t c) in
    let few : length (decimal c.args.number) ≤ 10 = length_decimal c.args.number (omega arith) in
    omega (arith, length-append c.args.line.now (decimal c.args.number))
