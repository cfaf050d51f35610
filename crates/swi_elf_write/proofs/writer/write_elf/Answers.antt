use Rattle.std.proofs.Common.{◌≡◌, ◌+◌, ◌*◌, ◌/◌, ◌-◌, ◌≤◌, ℕ, List, length, take, ap, arith, refl, subst, sym}
use Rattle.swi_program.specs.Text.{IsTextAddress, text_of}
use Rattle.swi_elf_write.specs.Rewritten.{executable_header, rewritten_file}
use Rattle.swi_elf_write.specs.ReadsAs.{ReadsAs}
use Rattle.swi_elf_write.proofs.Headers.{file_header_is, file_written, pad_is, three}
use Rattle.swi_elf_write.proofs.ReadBack.{IsSmall, read_back}
use Rattle.swi_elf_write.proofs.writer.write_elf.Goals as goal

written : (c : goal.In_ok-append_bytes-2) → c.append_bytes-2.new.file.items ≡ rewritten_file c.args.p.now c.args.image.now
written c =
    let segments = c.segments-segments.result.now in
    let same = c.segments-segments.ensures.value in
    let begin : ℕ = 52 + 32 * (length segments + 1) in
    let end : ℕ = begin + c.contents_size.result in
    let pad = pad_is c.args.p.now.segments segments begin c.contents_size.result same refl c.contents_size.ensures in
    file_written c.args.p.now segments c.args.image.now c.bytes-bytes.result.now (take ((end + 3) / 4 * 4 - end) three)
    c.new-file.result.items c.append_file_header.new.file.items c.append_segment_headers.new.file.items c.append_program_header.new.file.items
    c.append_contents.new.file.items c.append_bytes.new.file.items c.append_bytes-2.new.file.items
    (executable_header c.entry.result c.flags.result (length segments + 1)) c.image_header.result begin ((end + 3) / 4 * 4)
    (file_header_is c.args.p.now segments c.entry.result c.flags.result c.entry.ensures.value c.flags.ensures.value same)
    same c.bytes-bytes.ensures.value c.image_header.ensures (omega (arith, ap length same)) pad.0 pad.1
    c.new-file.ensures.items (c.in_ok-append_file_header.ensures {u = tt}) (c.in_ok-append_segment_headers.ensures {u = tt}) (c.in_ok-append_program_header.ensures {u = tt})
    (c.in_ok-append_contents.ensures {u = tt}) (c.in_ok-append_bytes.ensures {u = tt}) (c.in_ok-append_bytes-2.ensures {u = tt})

small : (c : goal.In_ok-append_bytes-2) → length c.args.p.now.segments ≤ 63 → IsSmall c.args.p.now
small c few = record {
  few = few;
  entry = omega (arith, c.entry.ensures.value, c.entry.type_inv);
  flags = omega (arith, c.flags.ensures.value, c.flags.type_inv);
  plain = omega (arith, c.flags.ensures.value, c.flags.ensures.plain);
  each = c.segments-segments.ensures.each;
  apart = c.segments-segments.ensures.apart;
  one_text = c.segments-segments.ensures.one_text;
  memory = c.segments-segments.ensures.memory;
  word = subst (λ (a : ℕ). IsTextAddress (text_of c.args.p.now.segments) a) c.entry.ensures.value c.entry.ensures.word;
}

pub returns-clause-bytes : goal.returns-clause-bytes
returns-clause-bytes c = written c

pub returns-clause-read_back : goal.returns-clause-read_back
returns-clause-read_back c = λ few.
    subst (λ (file : List ℕ). ReadsAs file c.args.p.now c.args.image.now) (sym (written c)) (read_back c.args.p.now c.args.image.now (small c few) c.bytes-bytes.ensures.few)
