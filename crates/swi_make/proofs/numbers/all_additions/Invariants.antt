use Rattle.std.proofs.Common.{◌≡◌, ◌≤◌, All, map}
use Rattle.std.specs.List.{range_with_len}
use Rattle.swi_make.specs.Numbers.{additions, number}
use Rattle.swi_make.proofs.numbers.all_additions.Given as goal

abbrev pub invariant-loop : goal.invariant-loop
invariant-loop l = record {
  items : l.all.items ≡ map (additions l.seed) (range_with_len 0 l.counter);
  each : All (λ n. n ≤ 16) l.all.items;
  number : l.x ≡ number l.seed l.counter;
}
