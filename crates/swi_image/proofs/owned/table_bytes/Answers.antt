use Rattle.std.proofs.Common.{length}
use Rattle.swi_image.specs.Sound.{header_words}
use Rattle.swi_image.proofs.Writing.{five_writes}
use Rattle.swi_image.proofs.owned.table_bytes.Goals as goal

pub returns : goal.returns
returns c =
    five_writes (header_words c.args.block_words (length c.args.starts.now) (length c.args.offsets.now) c.args.base)
    c.args.starts.now c.args.ends.now c.args.offsets.now c.args.words.now
    c.new-bytes.result.items c.append_words.new.bytes.items c.append_words-2.new.bytes.items c.append_words-3.new.bytes.items c.append_words-4.new.bytes.items c.append_words-5.new.bytes.items
    c.new-bytes.ensures.items (c.in_ok-append_words.ensures {u = tt}) (c.in_ok-append_words-2.ensures {u = tt}) (c.in_ok-append_words-3.ensures {u = tt}) (c.in_ok-append_words-4.ensures {u = tt}) (c.in_ok-append_words-5.ensures {u = tt})
