use Rattle.std.proofs.Common.{◌≡◌, false}
use Rattle.swi_chip.specs.Memo.{KeepsMemo}
use Rattle.swi_chip.specs.Service.{CountsRefused, StaysPut, Undoes}
use Rattle.swi_chip.proofs.waiting.undo_portion.Given as goal

abbrev pub invariant-loop-k : goal.invariant-loop-k
invariant-loop-k l = Undoes l._k l.fn.chip l.chip × StaysPut l.fn.chip l.chip × CountsRefused false l.fn.chip l.chip × (l.chip.filled ≡ l.chip.slots) × KeepsMemo l.fn.chip l.chip
