use Rattle.std.proofs.Common.{◌≤◌, ◌<◌, ◌^◌, All}
use Rattle.swi_command.proofs.Sizes.{Reading}
use Rattle.swi_command.proofs.read.sizes_in.Given as goal

abbrev pub invariant-loop-text : goal.invariant-loop-text
invariant-loop-text l = record { read : Reading l.texts l.text-index l.sizes.items; ranges : All (λ n. (8 ≤ n) × (n < 2 ^ 32)) l.sizes.items }
