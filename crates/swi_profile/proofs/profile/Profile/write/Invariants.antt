use Rattle.std.proofs.Common.{◌≡◌, ℕ, ◌+◌, ◌*◌, ◌≤◌}
use Rattle.std.specs.Io.KnownBytes.{Appends}
use Rattle.std.specs.List.{flat_map}
use Rattle.swi_report.specs.State.{numbers}
use Rattle.swi_profile.specs.Executions.{AreCounts, word_line}
use Rattle.swi_profile.proofs.profile.Profile.write.Given as goal

abbrev pub invariant-loop-k : goal.invariant-loop-k
invariant-loop-k g l = record {
  written : (count : ℕ → ℕ) → AreCounts l.self.range l.self.counts.items count →
      Appends (g.O.Sink.state l.fn.out).held (g.O.Sink.state l.out).held (flat_map (λ k. word_line (l.self.range.from + 4 * k) (count (l.self.range.from + 4 * k))) (numbers 0 l.k));
  within : l.k ≤ l.self.range.words;
  still : (g.O.Sink.state l.out).faults ≡ (g.O.Sink.state l.fn.out).faults;
}
