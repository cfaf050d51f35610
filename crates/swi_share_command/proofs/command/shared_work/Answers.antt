use Rattle.std.proofs.Common.{◌+◌, ℕ, min, ◌<◌, ◌≤◌, ◌^◌, ◌-◌, length, rules, ap, ◌∙◌, arith}
use Rattle.std.proofs.lemmas.List.{length-map}
use Rattle.swi_share.specs.Sharing.{context_of, seen}
use Rattle.swi_share_command.proofs.SharedGuests.{capped_below, counts_last, counts_more, work_told}
use Rattle.swi_share_command.proofs.command.shared_work.Goals as goal

pub loop-g-preserved : goal.loop-g-preserved
loop-g-preserved c =
    let cs = (seen c.args.share.now).contexts in
    let long = length-map c.args.share.now.processes context_of in
    let all = c.requires.programs in
    let lt : c.loop-g.g < length cs = let few : c.loop-g.g < c.args.programs = search rules in omega (arith, few, long, all) in
    record {
      whole = counts_more cs c.loop-g.g c.loop-g.instructions _ (2 ^ 64 - 1) _ c.hart.result.now lt c.hart.ensures
          (c.saturating_add-instructions.ensures ∙ ap (λ (n : ℕ). min (c.loop-g.instructions + n) (2 ^ 64 - 1)) c.machine_steps.ensures) c.loop-g.invariant.whole;
      few = capped_below _ _ (2 ^ 64 - 1) c.saturating_add-instructions.ensures;
    }

pub returns : goal.returns
returns c =
    let cs = (seen c.args.share.now).contexts in
    let long = length-map c.args.share.now.processes context_of in
    let all = c.requires.programs in
    let past : length cs ≤ c.loop-g.g = let over : c.args.programs ≤ c.loop-g.g = first_of (search rules, omega arith) in omega (arith, over, long, all) in
    work_told (seen c.args.share.now) c.counts-counts.result c.loop-g.instructions c.saturating_add.result c.saturating_add-2.result c.counts-counts.ensures
    (counts_last cs c.loop-g.g c.loop-g.instructions (2 ^ 64 - 1) _ past c.loop-g.invariant.few c.loop-g.invariant.whole)
    c.saturating_add.ensures c.saturating_add-2.ensures
