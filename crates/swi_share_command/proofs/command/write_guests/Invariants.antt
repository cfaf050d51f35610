use Rattle.std.proofs.Common.{◌≡◌, slice_index_or, None}
use Rattle.std.specs.Io.KnownBytes.{Appends}
use Rattle.std.specs.List.{flat_map}
use Rattle.swi_report.specs.State.{numbers}
use Rattle.swi_share.specs.Sharing.{seen}
use Rattle.swi_share_command.specs.RunShared.{context_line}
use Rattle.swi_share_command.proofs.command.write_guests.Given as goal

abbrev pub invariant-loop-g : goal.invariant-loop-g
invariant-loop-g g l = record {
  written : Appends (g.O.Sink.state l.fn.out).held (g.O.Sink.state l.out).held
      (flat_map (λ k. context_line k (slice_index_or (seen l.share).contexts k None)) (numbers 0 l.g));
  still : (g.O.Sink.state l.out).faults ≡ (g.O.Sink.state l.fn.out).faults;
}
