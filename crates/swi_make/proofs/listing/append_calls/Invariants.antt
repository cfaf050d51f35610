use Rattle.std.proofs.Common.{◌≡◌, ◌+◌, ◌*◌, ◌≤◌, ◌++◌, length, map}
use Rattle.std.specs.List.{range_with_len}
use Rattle.swi_make.specs.Listing.{call_of, start_of}
use Rattle.swi_make.proofs.listing.append_calls.Given as goal

abbrev pub invariant-loop-n : goal.invariant-loop-n
invariant-loop-n l = record {
  items : l.list.items ≡ l.initial.list.items ++ map (call_of l.additions) (range_with_len 0 l.n-index);
  here : l.here ≡ l.n-index + 1;
  start : l.start ≡ start_of l.additions l.n-index;
  small : l.start ≤ length l.additions + 6 + 21 * l.n-index;
}
