use Rattle.std.proofs.Common.{◌≡◌, ℕ, ◌/◌, List, length, rules, arith, ap, sym, ◌∙◌}
use Rattle.swi_slots.specs.Slots.{empty_slots}
use Rattle.swi_share.specs.declared.process.Guest.{Guest}
use Rattle.swi_share.specs.Starting.{most_words}
use Rattle.swi_share.proofs.Starting.{long_as, seen_first, sharing_first}
use Rattle.swi_share.proofs.share.Share.new.Goals as goal

pub returns-clause-programs : goal.returns-clause-programs
returns-clause-programs c = sym (long_as c.args.guests.items c.in_ok-processes.processes.items c.in_ok-processes.ensures)

pub returns-clause-start : goal.returns-clause-start
returns-clause-start c =
    let n = c.most_words.result in
    let most : n ≡ most_words c.args.guests.items = c.most_words.ensures.most ∙ ap (λ (xs : List Guest). most_words xs) c.deref.ensures.value in
    let long : c.len.result ≡ length c.args.guests.items = search rules in
    let is : c.in_ok-rom.rom ≡ empty_slots (c.args.cache_bytes / 4 / n) n (length c.args.guests.items) =
    c.in_ok-rom.ensures.empty ∙ ap (λ (k : ℕ). empty_slots (c.args.cache_bytes / 4 / n) n k) long in
    seen_first c.args.guests.items c.in_ok-processes.processes.items c.in_ok-rom.rom c.args.cache_bytes n c.in_ok-processes.ensures most is c.in_ok-rom.ensures.kept

pub returns-clause-sharing : goal.returns-clause-sharing
returns-clause-sharing c = λ words fit.
    let n = c.most_words.result in
    let most : n ≡ most_words c.args.guests.items = c.most_words.ensures.most ∙ ap (λ (xs : List Guest). most_words xs) c.deref.ensures.value in
    let long : c.len.result ≡ length c.args.guests.items = search rules in
    let is : c.in_ok-rom.rom ≡ empty_slots (c.args.cache_bytes / 4 / n) n (length c.args.guests.items) =
    c.in_ok-rom.ensures.empty ∙ ap (λ (k : ℕ). empty_slots (c.args.cache_bytes / 4 / n) n k) long in
    let some = c.requires.some in
    sharing_first c.args.guests.items c.in_ok-processes.processes.items c.in_ok-rom.rom c.args.cache_bytes n words (omega (arith, some)) c.in_ok-processes.ensures most is c.in_ok-rom.ensures.serves fit
