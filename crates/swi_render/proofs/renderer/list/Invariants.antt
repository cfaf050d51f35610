use Rattle.std.proofs.Common.{◌≡◌, take}
use Rattle.swi_render.proofs.renderer.list.Given as goal

-- the words so far
abbrev pub invariant-loop-word : goal.invariant-loop-word
invariant-loop-word l = l.list.items ≡ take l.word-index l.words
