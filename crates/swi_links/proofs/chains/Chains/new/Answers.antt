use Rattle.std.proofs.Common.{◌≡◌, ℕ, List, replicate, arith, ap}
use Rattle.std.proofs.lemmas.Grind.{common_steps}
use Rattle.swi_links.proofs.Tying.{ready_tied, ready_lists}
use Rattle.swi_links.proofs.Calls.{empty_ready}
use Rattle.swi_links.proofs.chains.Chains.new.Goals as goal

pub invariant_of-result : goal.invariant_of-result
invariant_of-result c =
    let heads : c.in_ok-heads.heads.items ≡ replicate c.args.slots c.args.words = grind (arith, common_steps) in
    let nexts : c.in_ok-nexts.nexts.items ≡ replicate c.args.words c.args.words = grind (arith, common_steps) in
    let prevs : c.in_ok-prevs.prevs.items ≡ replicate c.args.words c.args.words = grind (arith, common_steps) in
    let owners : c.in_ok-owners.owners.items ≡ replicate c.args.words c.args.slots = grind (arith, common_steps) in
    rw (heads, nexts, prevs, owners) (ready_tied _ _ _ _ _ _ (empty_ready c.args.words c.args.slots (omega (arith, c.requires.words)) (omega (arith, c.requires.slots))))

pub returns : goal.returns
returns c =
    let heads : c.in_ok-heads.heads.items ≡ replicate c.args.slots c.args.words = grind (arith, common_steps) in
    let nexts : c.in_ok-nexts.nexts.items ≡ replicate c.args.words c.args.words = grind (arith, common_steps) in
    rw (heads, nexts) (ap (λ (ls : List (List ℕ)). record { words = c.args.words; lists = ls })
    (ready_lists _ _ _ _ _ _ (empty_ready c.args.words c.args.slots (omega (arith, c.requires.words)) (omega (arith, c.requires.slots)))))
