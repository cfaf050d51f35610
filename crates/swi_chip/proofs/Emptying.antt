-- An empty memo.
use Rattle.std.proofs.Common.{◌≡◌, ◌∙◌, ℕ, ◌+◌, ◌<◌, List, length, slice_index, slice_set, ap, arith, inl, inr}
use Rattle.std.proofs.lemmas.Bool.{cases_eq}
use Rattle.std.proofs.lemmas.List.{get_or-set_same, get_or-set_other}
use Rattle.swi_chip.specs.Memo.{HasNone}

pub emptied : (memo : List ℕ) → length memo ≡ 17 → ((j : ℕ) → j < 17 → slice_index memo j ≡ 0) → HasNone (slice_set memo 1 4)
emptied memo long zeros = record {
  filled = get_or-set_other memo 1 0 4 0 (omega arith) ∙ zeros 0 (omega arith);
  none = λ e lt own. elim (cases_eq e 0) [
    | inl zero ↦
        let first : slice_index (slice_set memo 1 4) (e + 1) ≡ 4 =
        ap (λ (k : ℕ). slice_index (slice_set memo 1 4) (k + 1)) zero ∙ get_or-set_same memo 1 4 0 (omega (arith, long)) in
        omega (arith, first, own, zero)
    | inr other ↦
        let rest : slice_index (slice_set memo 1 4) (e + 1) ≡ 0 =
        get_or-set_other memo 1 (e + 1) 4 0 (λ same. other (omega (arith, same))) ∙ zeros (e + 1) (omega (arith, lt)) in
        omega (arith, rest, own, other)
  ];
}
