use Rattle.std.proofs.Common.{◌≡◌, ◌++◌}
use Rattle.swi_render.specs.ImageOf.{rendering_at}
use Rattle.swi_cut.specs.Drafts.{IsAppended}
use Rattle.swi_cut.proofs.Written.{appended, ok_as}
use Rattle.swi_cut.proofs.draft.write_word.Goals as goal

pub returns : goal.returns
returns c =
    ok_as c.append.result (c.append.new.list.items ≡ c.args.words.now.items ++ c.deref.result.now)
    (IsAppended (rendering_at c.args.text.now c.args.k) c.args.words.now.items c.append.new.list.items) c.append.ensures
    (λ is. appended (rendering_at c.args.text.now c.args.k) c.args.words.now.items c.append.new.list.items c.deref.result.now is (rw c.deref.ensures.0 c.render_word.ensures.words))
