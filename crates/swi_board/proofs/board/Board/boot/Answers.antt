use Rattle.std.proofs.Common.{◌+◌, Bool, Some, None, if◌then◌else◌, ap, ◌∙◌}
use Rattle.swi_memory.specs.Bus.{fetched}
use Rattle.swi_program.specs.Text.{text_of, word_of}
use Rattle.swi_rom.specs.Record.{indirect}
use Rattle.swi_hart.specs.Hart.{HartData}
use Rattle.swi_hart.specs.Leaving.{moved}
use Rattle.swi_board.specs.Board.{BoardOf, entries, entry_transfer}
use Rattle.swi_hart.proofs.Kept.{image_same}
use Rattle.swi_board.proofs.Entering.{text_place, text_some}
use Rattle.swi_board.proofs.board.Board.boot.Goals as goal

pub resume-requires-clause-carries : goal.resume-requires-clause-carries
resume-requires-clause-carries g c =
    image_same c.args.image.now (λ a. word_of (text_of c.args.p.now.segments) a) (λ a. fetched c.in-Ok.hart.machine.bus a) c.in-Ok.ensures.text c.requires.carries

pub returns-in-Ok-resume-clause-count : goal.returns-in-Ok-resume-clause-count
returns-in-Ok-resume-clause-count g c =
    ap (λ (b : BoardOf g.row.R.Denot). b.hart.count) c.board.view_is ∙ ap (λ (h : HartData). h.count) c.in-Ok-resume.ensures.entered.hart ∙ ap (λ (h : HartData). h.count + entries c.args.image.now h.machine.pc) c.in-Ok.ensures.hart
    ∙ ap (λ n. 0 + n) (text_place (text_of c.args.p.now.segments) c.args.image.now c.args.p.now.entry c.requires.carries c.start.ensures.entry)

pub returns-in-Ok-resume-clause-policy : goal.returns-in-Ok-resume-clause-policy
returns-in-Ok-resume-clause-policy g c =
    ap (λ (b : BoardOf g.row.R.Denot). g.R.CacheRom.service.kept b.rom) c.board.view_is ∙ c.in-Ok-resume.ensures.entered.policy
    ∙ ap (λ (h : HartData). moved (g.R.CacheRom.service.policy (g.R.CacheRom.service.setting c.args.rom)) (g.R.CacheRom.service.kept c.args.rom) c.args.image.now (entry_transfer c.args.image.now h.machine.pc)) c.in-Ok.ensures.hart
    ∙ ap (λ (q : Bool). moved (g.R.CacheRom.service.policy (g.R.CacheRom.service.setting c.args.rom)) (g.R.CacheRom.service.kept c.args.rom) c.args.image.now (if q then Some (indirect c.args.p.now.entry) else None)) (text_some (text_of c.args.p.now.segments) c.args.image.now c.args.p.now.entry c.requires.carries c.start.ensures.entry)
