use Rattle.std.proofs.Common.{◌≡◌, ◌++◌, [], ◌∷◌, arith}
use Rattle.swi_cut.specs.declared.draft.Draft.{Draft}
use Rattle.swi_cut.specs.Drafts.{IsDraft}
use Rattle.swi_cut.proofs.Written.{ok_as}
use Rattle.swi_cut.proofs.Drafted.{draft_more}
use Rattle.swi_cut.proofs.draft.Draft.add_block.Goals as goal

pub returns-clause-draft : goal.returns-clause-draft
returns-clause-draft c =
    let new : Draft = record { starts = c.push.new.list; ends = c.push-2.new.list; offsets = c.write_block.new.offsets; words = c.write_block.new.words } in
    ok_as c.push-2.result (c.push-2.new.list.items ≡ c.args.self.now.ends.items ++ c.len.result ∷ []) (IsDraft c.args.text.now c.args.most c.args.end new) c.push-2.ensures
    (λ is. draft_more c.args.text.now c.args.most c.args.done c.args.end c.len.result
    c.args.self.now.starts.items c.push.new.list.items c.args.self.now.ends.items c.push-2.new.list.items
    c.args.self.now.offsets.items c.write_block.new.offsets.items c.args.self.now.words.items c.write_block.new.words.items
    c.requires.most c.requires.draft c.requires.run (c.in_ok-write_block.ensures {u = tt}) (c.in_ok-push.ensures {u = tt}) is (omega arith))
