use Rattle.std.proofs.Common.{◌≤◌, ◌∙◌, length, sym, arith}
use Rattle.swi_elf_read.specs.Loaded.{loaded_segments}
use Rattle.swi_program.proofs.FromFile.{segment_end, file_program}
use Rattle.swi_program.proofs.programs.program_of.Goals as goal

pub invariant_of-result : goal.invariant_of-result
invariant_of-result c =
    let past : length (loaded_segments c.args.e.now) ≤ c.loop-k.k = omega arith in
    file_program c.loop-k.segments.items (loaded_segments c.args.e.now) _ _
    (sym (segment_end c.loop-k.segments.items (loaded_segments c.args.e.now) c.loop-k.k past) ∙ c.loop-k.invariant)
    c.elf_flags-flags.ensures.plain c.loaded-count.ensures.each c.loaded-count.ensures.apart c.loaded-count.ensures.one_text
    c.loaded-count.ensures.memory c.elf_entry-entry.ensures.word
