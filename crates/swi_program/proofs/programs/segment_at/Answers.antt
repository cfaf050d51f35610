use Rattle.std.proofs.Common.{arith}
use Rattle.std.proofs.lemmas.Grind.{common_steps}
use Rattle.swi_program.proofs.FromFile.{loadable_at}
use Rattle.swi_program.proofs.programs.segment_at.Goals as goal

pub of-requires : goal.of-requires
of-requires c =
    let s = loadable_at _ _ _ c.requires.each c.loaded_at-segment.ensures in
    record { rights = s.rights; front = grind (arith, common_steps, s.front); end = s.end }
