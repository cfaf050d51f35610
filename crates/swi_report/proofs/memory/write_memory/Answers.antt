use Rattle.std.proofs.Common.{◌≤◌, ◌^◌, ℕ, List, subst, sym, rules}
use Rattle.std.specs.Io.KnownBytes.{Appends}
use Rattle.swi_outside.specs.Sink.{AppendsPrefix}
use Rattle.swi_report.specs.State.{area_text}
use Rattle.swi_report.proofs.Areas.{area_ends, placed}
use Rattle.swi_outside.proofs.SinkLemmas.{written_part}
use Rattle.swi_report.proofs.Pieces.{each_more, each_broken}
use Rattle.swi_report.proofs.memory.write_memory.Goals as goal

pub write_area-requires : goal.write_area-requires
write_area-requires g c =
    let here = placed c.args.bus.now c.loop-k.k c.area.result.base c.area.result.flags c.area.result.bytes.now c.area.ensures in
    subst (λ (n : ℕ). n ≤ 2 ^ 32) (sym here.size) (area_ends 0 c.args.bus.now c.loop-k.k here.area c.areas-k-end.ensures.order here.at)

pub returns-in_err-write_area : goal.returns-in_err-write_area
returns-in_err-write_area g c =
    let here = placed c.args.bus.now c.loop-k.k c.area.result.base c.area.result.flags c.area.result.bytes.now c.area.ensures in
    written_part (g.S.Sink.state c.args.sink.now) (g.S.Sink.state c.loop-k.sink) (g.S.Sink.state c.write_area.new.sink) c.from_residual.result _ c.from_residual.ensures.0 c.loop-k.invariant.still c.in_err-write_area.ensures
    (each_broken area_text c.args.bus.now c.loop-k.k here.area
    (g.S.Sink.state c.args.sink.now).held (g.S.Sink.state c.loop-k.sink).held (g.S.Sink.state c.write_area.new.sink).held here.at
    c.loop-k.invariant.written
    (subst (λ (l : List ℕ). AppendsPrefix (g.S.Sink.state c.loop-k.sink).held (g.S.Sink.state c.write_area.new.sink).held l) here.text
    c.in_err-write_area.ensures.bytes))

pub loop-k-preserved : goal.loop-k-preserved
loop-k-preserved g c =
    let here = placed c.args.bus.now c.loop-k.k c.area.result.base c.area.result.flags c.area.result.bytes.now c.area.ensures in
    record {
      written = each_more area_text c.args.bus.now c.loop-k.k here.area
          (g.S.Sink.state c.args.sink.now).held (g.S.Sink.state c.loop-k.sink).held (g.S.Sink.state c.write_area.new.sink).held here.at
          c.loop-k.invariant.written
          (subst (λ (l : List ℕ). Appends (g.S.Sink.state c.loop-k.sink).held (g.S.Sink.state c.write_area.new.sink).held l) here.text
          c.in_ok-write_area.ensures.bytes);
      still = search rules;
    }
