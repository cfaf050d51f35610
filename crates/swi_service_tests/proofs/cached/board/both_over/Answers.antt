use Rattle.std.proofs.Common.{◌≤◌, ℕ, length, sym, subst}
use Rattle.swi_slots.specs.Slots.{Slots, setting_of, span_of}
use Rattle.swi_service_tests.proofs.cached.board.both_over.Goals as goal

pub run_on-requires-clause-new : goal.run_on-requires-clause-new
run_on-requires-clause-new c = λ v words image same fits.
    c.in_ok-scan.ensures.sound v words image (subst (λ (n : ℕ). v.block_words ≤ n) (sym c.block_words-2.ensures.value) same)
    (subst (λ (s : Slots). span_of (setting_of s) ≤ length words) c.in_ok-scan.ensures.empty fits)

pub run_on-requires-2-clause-new : goal.run_on-requires-2-clause-new
run_on-requires-2-clause-new c = λ v words image same fits.
    c.in_ok-fifo.ensures.sound v words image (subst (λ (n : ℕ). v.block_words ≤ n) (sym c.block_words-3.ensures.value) same)
    (subst (λ (s : Slots). span_of (setting_of s) ≤ length words) c.in_ok-fifo.ensures.empty fits)
