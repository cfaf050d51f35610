use Rattle.std.proofs.Common.{◌∙◌, ◌++◌}
use Rattle.std.specs.List.{flat_map}
use Rattle.swi_outside.proofs.SinkLemmas.{written_front, written_then}
use Rattle.swi_report.specs.State.{numbers, pc_line, register_line, break_line, area_text, state_text_of}
use Rattle.swi_report.proofs.state.state_text.Goals as goal

pub returns-in_err-write : goal.returns-in_err-write
unfolding state_text_of
returns-in_err-write g c =
    written_front (g.S.Sink.state c.args.sink.now) (g.S.Sink.state c.write.new.self) c.from_residual.result (pc_line c.args.state.now.pc)
    (flat_map (register_line c.args.state.now.regs.now) (numbers 0 32) ++ (break_line c.args.state.now.heap.now ++ flat_map area_text c.args.state.now.bus.now)) c.from_residual.ensures.0
    (rw (c.as_bytes.ensures ∙ c.pc_line.ensures) at c.in_err-write.ensures.written)

pub returns-in_err-write_registers : goal.returns-in_err-write_registers
unfolding state_text_of
returns-in_err-write_registers g c =
    written_then (g.S.Sink.state c.args.sink.now) (g.S.Sink.state c.write.new.self) (g.S.Sink.state c.write_registers.new.sink) c.from_residual-in_err-write_registers.result (pc_line c.args.state.now.pc)
    (flat_map (register_line c.args.state.now.regs.now) (numbers 0 32) ++ (break_line c.args.state.now.heap.now ++ flat_map area_text c.args.state.now.bus.now))
    (rw (c.as_bytes.ensures ∙ c.pc_line.ensures) at c.in_ok-write.ensures.written)
    (written_front (g.S.Sink.state c.write.new.self) (g.S.Sink.state c.write_registers.new.sink) c.from_residual-in_err-write_registers.result
    (flat_map (register_line c.args.state.now.regs.now) (numbers 0 32)) (break_line c.args.state.now.heap.now ++ flat_map area_text c.args.state.now.bus.now)
    c.from_residual-in_err-write_registers.ensures.0 c.in_err-write_registers.ensures)

pub returns-in_err-write-2 : goal.returns-in_err-write-2
unfolding state_text_of
returns-in_err-write-2 g c =
    written_then (g.S.Sink.state c.args.sink.now) (g.S.Sink.state c.write.new.self) (g.S.Sink.state c.write-2.new.self) c.from_residual-in_err-write-2.result (pc_line c.args.state.now.pc)
    (flat_map (register_line c.args.state.now.regs.now) (numbers 0 32) ++ (break_line c.args.state.now.heap.now ++ flat_map area_text c.args.state.now.bus.now))
    (rw (c.as_bytes.ensures ∙ c.pc_line.ensures) at c.in_ok-write.ensures.written)
    (written_then (g.S.Sink.state c.write.new.self) (g.S.Sink.state c.write_registers.new.sink) (g.S.Sink.state c.write-2.new.self) c.from_residual-in_err-write-2.result
    (flat_map (register_line c.args.state.now.regs.now) (numbers 0 32)) (break_line c.args.state.now.heap.now ++ flat_map area_text c.args.state.now.bus.now)
    c.in_ok-write_registers.ensures
    (written_front (g.S.Sink.state c.write_registers.new.sink) (g.S.Sink.state c.write-2.new.self) c.from_residual-in_err-write-2.result
    (break_line c.args.state.now.heap.now) (flat_map area_text c.args.state.now.bus.now) c.from_residual-in_err-write-2.ensures.0
    (rw (c.as_bytes-2.ensures ∙ c.break_line.ensures) at c.in_err-write-2.ensures.written)))

pub returns : goal.returns
unfolding state_text_of
returns g c =
    written_then (g.S.Sink.state c.args.sink.now) (g.S.Sink.state c.write.new.self) (g.S.Sink.state c.write_memory.new.sink) c.write_memory.result (pc_line c.args.state.now.pc)
    (flat_map (register_line c.args.state.now.regs.now) (numbers 0 32) ++ (break_line c.args.state.now.heap.now ++ flat_map area_text c.args.state.now.bus.now))
    (rw (c.as_bytes.ensures ∙ c.pc_line.ensures) at c.in_ok-write.ensures.written)
    (written_then (g.S.Sink.state c.write.new.self) (g.S.Sink.state c.write_registers.new.sink) (g.S.Sink.state c.write_memory.new.sink) c.write_memory.result
    (flat_map (register_line c.args.state.now.regs.now) (numbers 0 32)) (break_line c.args.state.now.heap.now ++ flat_map area_text c.args.state.now.bus.now)
    c.in_ok-write_registers.ensures
    (written_then (g.S.Sink.state c.write_registers.new.sink) (g.S.Sink.state c.write-2.new.self) (g.S.Sink.state c.write_memory.new.sink) c.write_memory.result
    (break_line c.args.state.now.heap.now) (flat_map area_text c.args.state.now.bus.now)
    (rw (c.as_bytes-2.ensures ∙ c.break_line.ensures) at c.in_ok-write-2.ensures.written)
    c.write_memory.ensures))
