use Rattle.std.proofs.Common.{◌≡◌, ◌++◌, List, ℕ, OnOk, subst}
use Rattle.swi_elf_write.proofs.Headers.{file_header_words}
use Rattle.swi_elf_write.proofs.writer.append_file_header.Goals as goal

pub returns : goal.returns
returns c =
    subst (λ (l : List ℕ). OnOk c.append_words.result (c.append_words.new.bytes.items ≡ c.args.file.now.items ++ l)) (file_header_words c.args.entry c.args.flags c.args.count) c.append_words.ensures
