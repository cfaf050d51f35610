use Rattle.std.proofs.Common.{◌≡◌, ◌-◌, ◌≤◌, filter, not}
use Rattle.swi_links.specs.Undone.{is_own}
use Rattle.swi_engine.proofs.joints.Joints.unlink_all.Given as goal

abbrev pub invariant-loop-at : goal.invariant-loop-at
invariant-loop-at l = (l.first ≤ l.at) × (l.self ≡ record l.fn.self { joints = filter (λ j. not (is_own l.first (l.at - l.first) j.at)) l.fn.self.joints })
