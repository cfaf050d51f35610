use Rattle.std.proofs.lemmas.Iterator.{items_from_collect}
use Rattle.std.proofs.lemmas.Iterator.Adapters.{YieldsList-from_skip, YieldsList-from_vec}
use Rattle.std.specs.Vec.Iter.{into_iter_items}
use Rattle.swic.proofs.behind_name.Goals as goal

pub returns : goal.returns
returns c =
    let made = items_from_collect {s = c.skip.result} c.collect.result c.collect.ensures.ran (YieldsList-from_skip 1 (YieldsList-from_vec (into_iter_items c.args.args) (cc) (cc)) c.skip.ensures.count) in
    rw c.in_ok-words.was at made
