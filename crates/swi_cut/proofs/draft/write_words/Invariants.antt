use Rattle.swi_render.specs.ImageOf.{renderings_between}
use Rattle.swi_cut.specs.Drafts.{IsWritten}
use Rattle.swi_cut.proofs.draft.write_words.Given as goal

-- the text words up to k are written
abbrev pub invariant-loop-k : goal.invariant-loop-k
invariant-loop-k l = IsWritten l.text l.first l.k (renderings_between l.text l.first l.k) l.initial.offsets.items l.offsets.items l.initial.words.items l.words.items
