use Rattle.std.proofs.Common.{◌≡◌, ◌^◌, List, length, replicate, sym, ap, subst, ◌∙◌}
use Rattle.std.proofs.lemmas.List.{length-replicate}
use Rattle.swi_board.specs.declared.links.Link.{Link}
use Rattle.swi_board.specs.Links.{AreLinks}
use Rattle.swi_board.proofs.Remembering.{no_link, none_links}
use Rattle.swi_board.proofs.links.Links.new.Goals as goal

pub invariant_of-result : goal.invariant_of-result
invariant_of-result c =
    let is : c.in-Ok.links.items ≡ replicate (2 ^ 14) no_link = c.in-Ok.links-1-ensures.1.1 (λ y same. same) in
    (ap length is ∙ length-replicate (2 ^ 14) no_link, subst (λ (l : List Link). AreLinks l) (sym is) (none_links (2 ^ 14)))
