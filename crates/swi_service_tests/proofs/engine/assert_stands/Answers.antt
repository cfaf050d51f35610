use Rattle.std.proofs.Common.{ℕ, ◌≤◌, ◌/◌, ◌*◌, length, arith, rules}
use Rattle.std.proofs.lemmas.Nat.{div-add-mod'}
use Rattle.swi_service_tests.proofs.engine.assert_stands.Goals as goal

pub after_all-rom-requires : goal.after_all-rom-requires
after_all-rom-requires g c =
    let few : c.args.row.now.cache_bytes ≤ 256 = search rules in
    let long : 64 ≤ length c.in_ok-ram.ram.words = search rules in
    c.in_ok-rom.ensures.sound c.view_of-image.result c.in_ok-ram.ram.words c.blocks-blocks.ensures.sound
    (omega (arith, c.blocks-blocks.ensures.value, c.blocks-blocks.ensures.sound.blocks)) (omega (arith, c.block_words-block_words.ensures.value))
    (omega (arith, div-add-mod' (c.args.row.now.cache_bytes / 4) c.block_words-block_words.result, few, long))
