use Rattle.std.proofs.Common.{◌≡◌, ◌++◌, drop, map}
use Rattle.swi_survey_command.specs.Frames.{frame_by}
use Rattle.swi_survey_command.proofs.command.frames_of.Given as goal

abbrev pub invariant-loop-bytes : goal.invariant-loop-bytes
invariant-loop-bytes l = l.frames.items ++ map (frame_by l.kind l.block_words) (drop l.bytes-index l.sizes) ≡ map (frame_by l.kind l.block_words) l.sizes
