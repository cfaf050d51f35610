use Rattle.std.proofs.Common.{◌≡◌, ℕ, List, arith}
use Rattle.swi_image.specs.Format.{image_of}
use Rattle.swi_image.specs.Sound.{AreTables, image_of_tables}
use Rattle.swi_image.proofs.Views.{piece_at}
use Rattle.swi_cut.specs.Upgrades.{IsMade}
use Rattle.swi_cut.proofs.Written.{if_ok}
use Rattle.swi_cut.proofs.Finished.{tables_done, made_tables}
use Rattle.swi_cut.proofs.draft.Draft.image.Goals as goal

pub image_by-requires : goal.image_by-requires
image_by-requires c = rw (c.deref.ensures.value, c.deref-2.ensures.value, c.deref-3.ensures.value, c.deref-4.ensures.value)
    (tables_done c.args.text.now c.args.most c.args.self.now.starts.items c.args.self.now.ends.items c.args.self.now.offsets.items c.args.self.now.words.items c.requires.draft c.requires.some c.requires.few c.requires.least c.requires.highest)

pub returns-clause-made : goal.returns-clause-made
returns-clause-made c =
    let tables : AreTables c.args.most c.deref.result.now c.deref-2.result.now c.deref-3.result.now c.deref-4.result.now = rw (c.deref.ensures.value, c.deref-2.ensures.value, c.deref-3.ensures.value, c.deref-4.ensures.value)
    (tables_done c.args.text.now c.args.most c.args.self.now.starts.items c.args.self.now.ends.items c.args.self.now.offsets.items c.args.self.now.words.items c.requires.draft c.requires.some c.requires.few c.requires.least c.requires.highest) in
    if_ok c.image_by.result (λ (i : List ℕ). image_of i ≡ image_of_tables c.args.most c.base.result c.deref.result.now c.deref-2.result.now c.deref-3.result.now c.deref-4.result.now)
    (λ (i : List ℕ). IsMade c.args.text.now c.args.most c.args.self.now.starts.items (image_of i)) c.image_by.ensures.image
    (λ i is. made_tables c.args.text.now c.args.most c.base.result c.args.self.now.starts.items c.deref.result.now c.args.self.now.ends.items c.deref-2.result.now c.args.self.now.offsets.items c.deref-3.result.now c.args.self.now.words.items c.deref-4.result.now
    (image_of i) c.base.ensures.value c.deref.ensures.value c.deref-2.ensures.value c.deref-3.ensures.value c.deref-4.ensures.value c.requires.draft (λ b within. piece_at c.deref-2.result.now c.deref-4.result.now b (omega (arith, tables.ended))) is)
