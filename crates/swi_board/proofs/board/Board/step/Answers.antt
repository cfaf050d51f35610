use Rattle.std.proofs.Common.{◌≡◌, sym, ◌∙◌, ap, subst, None, inl, inr, refl}
use Rattle.std.proofs.lemmas.Bool.{false≢true}
use Rattle.swi_board.specs.Board.{BoardOf}
use Rattle.swi_hart.specs.Matching.{Fits}
use Rattle.swi_outside.proofs.ToldLemmas.{as_told_stands}
use Rattle.swi_board.proofs.Following.{followed}
use Rattle.swi_hart.proofs.Homes.{home}
use Rattle.swi_hart.proofs.Results.{ok_map, ok_map_2}
use Rattle.swi_board.proofs.board.Board.step.Goals as goal

pub plain_step-requires-clause-home : goal.plain_step-requires-clause-home
plain_step-requires-clause-home g c =
    let f = subst (λ (b : BoardOf g.row.R.Denot). Fits c.args.image.now (g.R.CacheRom.service.kept b.rom) b.hart) (sym c.self.view_is) c.requires.ready.fits in
    let running : c.self.inside.hart.machine.ending ≡ None = ap (λ (b : BoardOf g.row.R.Denot). b.hart.machine.ending) c.self.view_is ∙ c.requires.ready.running in
    home c.args.image.now (g.R.CacheRom.service.kept c.self.inside.rom) c.self.inside.hart c.in-Some.at.index c.in-Some.at.block c.in-Some.at.offset c.in-Some.at.stage f
    c.in-Some.ensures.place.0 running c.plain_place.ensures.word

pub returns-clause-follows : goal.returns-clause-follows
returns-clause-follows g c left rest read =
    let running : c.self.inside.hart.machine.ending ≡ None = ap (λ (b : BoardOf g.row.R.Denot). b.hart.machine.ending) c.self.view_is ∙ c.requires.ready.running in
    let s = c.quick_step.ensures.stepped left rest read in
    rw (← c.self.view_is) (λ sound.
    ok_map_2 c.quick_step.result
    (λ made moves. λ f image same. followed (g.R.CacheRom.service.policy (g.R.CacheRom.service.setting c.self.inside.rom)) c.args.image.now (g.R.CacheRom.service.kept c.self.inside.rom) (g.R.CacheRom.service.kept c.quick_step.new.rom) c.self.inside.hart c.quick_step.new.hart f left _ _ _ _ _
    running c.quick_step.ensures.word image same moves (made left refl))
    (s.made sound) s.policy)

pub returns-clause-executes : goal.returns-clause-executes
returns-clause-executes g c =
    rw (← c.self.view_is) (ok_map c.quick_step.result (λ made. λ i b o stage p. absurd (false≢true (sym (c.in_default.ensures.place i b o stage p.control) ∙ p.own))) (as_told_stands c.quick_step.ensures.gave (λ i rest read. (c.quick_step.ensures.stepped i rest read).policy)))

pub quick_step-requires-clause-sound : goal.quick_step-requires-clause-sound
quick_step-requires-clause-sound g c =
    let rom : c.self.inside.rom ≡ c.args.self.now.rom = ap (λ (b : BoardOf g.row.R.Denot). b.rom) c.self.view_is in
    elim c.requires.sound [
      | inl s ↦ rw rom s
      | inr x ↦ absurd (false≢true (sym (c.in_default.ensures.place x.index x.block x.offset x.stage (ap (λ (b : BoardOf g.row.R.Denot). b.hart.control) c.self.view_is ∙ x.plain.control)) ∙ x.plain.own))
    ]

pub returns-in-Some-clause-executes : goal.returns-in-Some-clause-executes
returns-in-Some-clause-executes g c =
    rw (← c.self.view_is) c.plain_step.ensures.executes

pub returns-in-Some-clause-follows : goal.returns-in-Some-clause-follows
returns-in-Some-clause-follows g c left rest read =
    let running : c.self.inside.hart.machine.ending ≡ None = ap (λ (b : BoardOf g.row.R.Denot). b.hart.machine.ending) c.self.view_is ∙ c.requires.ready.running in
    let s = c.plain_step.ensures.stepped left rest read in
    rw (← c.self.view_is) (λ sound.
    ok_map_2 c.plain_step.result
    (λ made moves. λ f image same. followed (g.R.CacheRom.service.policy (g.R.CacheRom.service.setting c.self.inside.rom)) c.args.image.now (g.R.CacheRom.service.kept c.self.inside.rom) (g.R.CacheRom.service.kept c.plain_step.new.rom) c.self.inside.hart c.plain_step.new.hart f left _ _ _ _ _
    running c.plain_place.ensures.word image same moves (made left refl))
    (s.made sound) s.policy)

pub returns-in-Some-clause-stepped : goal.returns-in-Some-clause-stepped
returns-in-Some-clause-stepped g c = rw (← c.self.view_is) c.plain_step.ensures.stepped

pub returns-clause-stepped : goal.returns-clause-stepped
returns-clause-stepped g c = rw (← c.self.view_is) c.quick_step.ensures.stepped
