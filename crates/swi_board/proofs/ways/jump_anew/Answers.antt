use Rattle.std.proofs.Common.{Some, ap, sym, subst, ◌∙◌, ℕ}
use Rattle.swi_rom.specs.Coherent.{TargetAt}
use Rattle.swi_board.proofs.Remembering.{still_found}
use Rattle.swi_board.proofs.ways.jump_anew.Goals as goal

pub returns-in-Some-clause-found : goal.returns-in-Some-clause-found
returns-in-Some-clause-found g c =
    c.keep.ensures.kept c.args.image.now _ (still_found c.args.image.now _ _ _ c.revisit.ensures.counted c.requires.found) (record {
      stands = subst (λ (i : ℕ). TargetAt c.args.image.now (g.R.CacheRom.service.kept c.revisit.new.self) c.args.target i) (sym c.keep.ensures.index) c.in-Some.ensures.served.answer;
      row = sym c.index_in_row.ensures ∙ c.in_ok-row.was ∙ ap (λ (n : ℕ). Some n) (sym c.keep.ensures.row);
    })

pub returns-clause-found : goal.returns-clause-found
returns-clause-found g c =
    c.keep-in-Ok.ensures.kept c.args.image.now _ (c.forget.ensures c.args.image.now _) (record {
      stands = subst (λ (i : ℕ). TargetAt c.args.image.now (g.R.CacheRom.service.kept c.enter.new.self) c.args.target i) (sym c.keep-in-Ok.ensures.index) c.in-Ok.ensures.served.answer;
      row = sym c.index_in_row.ensures ∙ c.in_ok-row.was ∙ ap (λ (n : ℕ). Some n) (sym c.keep-in-Ok.ensures.row);
    })
