use Rattle.std.proofs.Common.{◌≡◌, ◌+◌, ◌-◌, ◌++◌, length, take, drop, arith, sym, ap, ◌∙◌}
use Rattle.std.proofs.Math.Seq.{take-add}
use Rattle.std.proofs.lemmas.Grind.{common_steps}
use Rattle.std.proofs.lemmas.List.{take_at}
use Rattle.swi_share.proofs.input.copy_front.Goals as goal

pub returns-clause-front : goal.returns-clause-front
returns-clause-front c =
    let n = c.min-count.result in
    let xs = c.args.bytes.now in
    let taken = c.args.taken in
    let piece = c.copy_from_slice.new.self in
    let same : taken + n - taken ≡ n = omega arith in
    let copied : piece ≡ take n (drop taken xs) = c.copy_from_slice.ensures.after ∙ ap (λ k. take k (drop taken xs)) same in
    let long : length piece ≡ n = grind (arith, common_steps) in
    take-add taken n xs ∙ ap (λ l. take taken xs ++ l) (sym copied ∙ sym (take_at piece (drop n c.args.buf.now) n long))
