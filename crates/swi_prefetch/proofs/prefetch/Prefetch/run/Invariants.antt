use Rattle.swi_outside.specs.Devices.{streams}
use Rattle.swi_prefetch.proofs.Inputs.{RunsOnInput}
use Rattle.swi_prefetch.proofs.Rounds.{left_of}
use Rattle.swi_prefetch.proofs.prefetch.Prefetch.run.Given as goal

abbrev pub invariant-loop-self : goal.invariant-loop-self
invariant-loop-self g l = RunsOnInput l.image l.limit l.rate
    (record {
      board = l.initial.self.board;
      around = record {
        ram = g.M.CacheRam.state l.initial.ram;
        devices = streams (g.I.Source.state l.initial.input) (g.O.Sink.state l.initial.out) (g.E.Sink.state l.initial.err);
      };
    })
    (record {
      board = l.self.board;
      around = record {
        ram = g.M.CacheRam.state l.ram;
        devices = streams (g.I.Source.state l.input) (g.O.Sink.state l.out) (g.E.Sink.state l.err);
      };
    })

abbrev pub decreases-loop-self : goal.decreases-loop-self
decreases-loop-self g l = left_of l.image l.limit l.self.board
