use Rattle.std.proofs.Common.{◌≡◌, ◌+◌, ◌++◌, ℕ, length, get_or, ap, arith, ◌∙◌}
use Rattle.swi_memory.specs.Segment.{SegmentData}
use Rattle.swi_elf_write.specs.declared.program_header.ProgramHeader.{ProgramHeader as Written}
use Rattle.swi_elf_write.specs.FileHeader.{program_header_bytes}
use Rattle.swi_elf_write.specs.Rewritten.{segment_header}
use Rattle.swi_elf_write.proofs.Headers.{header_step, size_step}
use Rattle.swi_elf_write.proofs.writer.append_segment_headers.Goals as goal

pub loop-segment-preserved : goal.loop-segment-preserved
loop-segment-preserved c =
    let segments = c.args.segments.now in
    let i : ℕ = c.loop-segment.segment-index in
    let s : SegmentData = c.segment-item.result in
    let at : ℕ = c.loop-segment.offset in
    let within = c.loop-segment-test.true in
    let header : c.append_program_header.new.file.items ≡ c.loop-segment.file.items ++ program_header_bytes (segment_header at (get_or segments i s)) =
    c.in_ok-append_program_header.ensures {u = tt} ∙ ap (λ (h : Written). c.loop-segment.file.items ++ program_header_bytes h) c.segment_header.ensures ∙ ap (λ (x : SegmentData). c.loop-segment.file.items ++ program_header_bytes (segment_header at x)) c.segment-item.is in
    let size : length c.bytes.result.now ≡ length (get_or segments i s).bytes = ap length c.bytes.ensures.value ∙ ap (λ (x : SegmentData). length x.bytes) c.segment-item.is in
    let left = size_step segments i s within in (
      header_step c.loop-segment.file.items c.append_program_header.new.file.items segments i at (at + length c.bytes.result.now) s within header (omega (arith, size)) ∙ c.loop-segment.invariant.0,
      omega (arith, left, size, c.loop-segment.invariant.1),
    )
