use Rattle.std.proofs.Common.{◌≡◌, ◌++◌, take}
use Rattle.swi_make.specs.Listing.{functions_of, main_of}
use Rattle.swi_make.proofs.listing.listing.Given as goal

abbrev pub invariant-loop-n : goal.invariant-loop-n
invariant-loop-n l = l.list.items ≡ main_of l.additions ++ functions_of (take l.n-index l.additions)
