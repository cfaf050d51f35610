use Rattle.std.proofs.Common.{◌≤◌, ℕ, length, sym, subst}
use Rattle.swi_slots.specs.Slots.{Slots, setting_of, span_of}
use Rattle.swi_service_tests.proofs.cached.foreign.stepped_by_both.Goals as goal

pub stepped_alone-requires-2-clause-new : goal.stepped_alone-requires-2-clause-new
stepped_alone-requires-2-clause-new c = λ v words image same fits.
    c.in_ok-fifo.ensures.sound v words image (subst (λ (n : ℕ). v.block_words ≤ n) (sym c.block_words-3.ensures.value) same)
    (subst (λ (s : Slots). span_of (setting_of s) ≤ length words) c.in_ok-fifo.ensures.empty fits)
