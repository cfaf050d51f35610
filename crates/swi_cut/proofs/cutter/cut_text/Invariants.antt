use Rattle.std.proofs.Common.{◌≤◌, ◌-◌, length}
use Rattle.swi_cut.specs.Drafts.{IsDraft, AreBlockEnds}
use Rattle.swi_cut.proofs.cutter.cut_text.Given as goal

-- the text words up to `done` are cut
abbrev pub invariant-loop-done : goal.invariant-loop-done
invariant-loop-done l = IsDraft l.text l.most l.done l.draft × (l.done ≤ length l.text.words) × AreBlockEnds l.cutting l.text l.most l.draft.starts.items l.done

abbrev pub decreases-loop-done : goal.decreases-loop-done
decreases-loop-done l = length l.text.words - l.done
