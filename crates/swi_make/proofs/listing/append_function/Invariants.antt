use Rattle.std.proofs.Common.{◌≡◌, ◌++◌, replicate}
use Rattle.swi_make.specs.Listing.{addi, a0}
use Rattle.swi_make.proofs.listing.append_function.Given as goal

abbrev pub invariant-loop : goal.invariant-loop
invariant-loop l = l.list.items ≡ l.initial.list.items ++ replicate l.counter (addi a0 a0 1)
