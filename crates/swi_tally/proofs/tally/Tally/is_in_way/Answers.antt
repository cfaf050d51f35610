use Rattle.std.proofs.Common.{length, slice_index, arith, ap, ◌∙◌}
use Rattle.swi_tally.specs.Tally.{TallyData}
use Rattle.swi_tally.proofs.Arriving.{home_read, home_small, queue_known, way_else, way_then}
use Rattle.swi_tally.proofs.tally.Tally.is_in_way.Goals as goal

pub index-home-requires : goal.index-home-requires
index-home-requires c =
    omega (arith, (queue_known c.args.self.now c.args.k c.get-block.result c.requires.shape c.requires.k (c.get-block.ensures ∙ ap (λ (s : TallyData). slice_index s.queue c.args.k) c.self.view_is)).0, ap (λ (s : TallyData). length s.homes) c.self.view_is)

pub length-requires : goal.length-requires
length-requires c =
    omega (arith, (queue_known c.args.self.now c.args.k c.get-block.result c.requires.shape c.requires.k (c.get-block.ensures ∙ ap (λ (s : TallyData). slice_index s.queue c.args.k) c.self.view_is)).0, c.requires.blocks)

pub overflow_add-end : goal.overflow_add-end
overflow_add-end c =
    let is = c.get-block.ensures ∙ ap (λ (s : TallyData). slice_index s.queue c.args.k) c.self.view_is in
    let at = home_read c.args.self.now _ c.args.k c.get-block.result c.index-home.result.now c.requires.shape c.requires.k is (ap (λ (s : TallyData). s.homes) c.self.view_is) c.index-home.ensures in
    omega (arith, home_small c.args.self.now c.args.k c.get-block.result c.index-home.result.now c.requires.shape c.requires.k is at, c.length.ensures.most, c.requires.few)

pub returns-then-home-first : goal.returns-then-home-first
returns-then-home-first c =
    let is = c.get-block.ensures ∙ ap (λ (s : TallyData). slice_index s.queue c.args.k) c.self.view_is in
    let at = home_read c.args.self.now _ c.args.k c.get-block.result c.index-home.result.now c.requires.shape c.requires.k is (ap (λ (s : TallyData). s.homes) c.self.view_is) c.index-home.ensures in
    way_then c.args.image.now c.args.self.now c.args.k c.get-block.result c.index-home.result.now c.args.first c.args.size c.length.result is at c.length.ensures.value (omega arith)

pub returns-else-home-first : goal.returns-else-home-first
returns-else-home-first c =
    let is = c.get-block.ensures ∙ ap (λ (s : TallyData). slice_index s.queue c.args.k) c.self.view_is in
    let at = home_read c.args.self.now _ c.args.k c.get-block.result c.index-home.result.now c.requires.shape c.requires.k is (ap (λ (s : TallyData). s.homes) c.self.view_is) c.index-home.ensures in
    way_else c.args.image.now c.args.self.now c.args.k c.index-home.result.now c.args.first c.args.size at (omega arith)
