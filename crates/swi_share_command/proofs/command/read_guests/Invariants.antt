use Rattle.std.proofs.Common.{length}
use Rattle.std.specs.Iterator.Adapters.{zip_first, zip_second}
use Rattle.std.specs.Slice.Iter.{iter_rest, iter_mut_rest}
use Rattle.swi_share_command.proofs.Reading.{ReadSoFar}
use Rattle.swi_share_command.proofs.command.read_guests.Given as goal

abbrev pub invariant-loop-name : goal.invariant-loop-name
invariant-loop-name g l =
    ReadSoFar l.limits l.block_words l.names (iter_rest (zip_first l.name-iterator)) (length (iter_mut_rest (zip_second l.name-iterator)))
    (g.F.Shelf.state l.initial.shelf) (g.F.Shelf.state l.shelf) l.guests.items
