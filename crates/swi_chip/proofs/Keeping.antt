-- What calls do to the vector's memo.
use Rattle.std.proofs.Common.{◌≡◌, ◌+◌, ◌%◌, ◌^◌, ℕ, Bool, true, false, if◌then◌else◌, List, slice_index, arith, refl, sym, ◌∙◌, ap, subst}
use Rattle.swi_chip.specs.declared.chip.Chip.{Chip}
use Rattle.swi_chip.specs.Memo.{Forgets, HasNone, KeepsMemo}

-- no block has left
pub forgets_none : {a b : Chip} → KeepsMemo a b → Forgets a b
forgets_none k = record { stays = λ e. k.memo; forgets = λ ne. absurd (ne k.evictions); unfilled = λ ne. absurd (ne k.evictions) }

-- between two that change nothing
pub forgets_between : {a b c d : Chip} → KeepsMemo a b → Forgets b c → KeepsMemo c d → Forgets a d
forgets_between {a} {b} {c} {d} p f q = record {
  stays = λ e. q.memo ∙ (f.stays (sym q.evictions ∙ (e ∙ sym p.evictions)) ∙ p.memo);
  forgets = λ ne some. subst (λ (m : List ℕ). HasNone m) (sym q.memo) (f.forgets (λ e. ne (q.evictions ∙ (e ∙ p.evictions))) (λ zero. some (sym (ap (λ (m : List ℕ). slice_index m 0) p.memo) ∙ zero)));
  unfilled = λ ne zero. q.memo ∙ (f.unfilled (λ e. ne (q.evictions ∙ (e ∙ p.evictions))) (ap (λ (m : List ℕ). slice_index m 0) p.memo ∙ zero) ∙ p.memo);
}

-- what `fill` does, by the test whether a block leaves
pub forgets_by : {a b : Chip} (leaves : Bool) → b.counts.evictions ≡ (if leaves then (a.counts.evictions + 1) % 2 ^ 32 else a.counts.evictions) → (leaves ≡ true → (slice_index a.memo.now 0 ≡ 0 → ⊥) → HasNone b.memo.now) →
    (leaves ≡ true → slice_index a.memo.now 0 ≡ 0 → b.memo.now ≡ a.memo.now) → (leaves ≡ false → b.memo.now ≡ a.memo.now) → Forgets a b
forgets_by true e left unfilled stays = record { stays = λ same. absurd (omega (arith, e, same)); forgets = λ ne. left refl; unfilled = λ ne. unfilled refl }
forgets_by false e left unfilled stays = forgets_none (record { evictions = e; memo = stays refl })
