use Rattle.std.proofs.Common.{◌≡◌, length}
use Rattle.swi_service_tests.proofs.ring.after_all.Given as goal

abbrev pub invariant-loop-transfer : goal.invariant-loop-transfer
invariant-loop-transfer g l = g.R.CacheRom.service.sound l.rom l.image l.ram.words × (length l.ram.words ≡ length l.fn.ram.words)
