-- The exit status of each answer.
use Rattle.std.specs.Prelude.{ℕ, ◌%◌, Result, Ok, Err}
use Rattle.swi_answer.specs.declared.answer.Ending.{Ending}
use Rattle.swi_answer.specs.declared.answer.Ending.TheVariants.{Exited, Spent, Faulted, StoreText, Done}
use Rattle.swi_answer.specs.declared.answer.Refusal.{Refusal}
use Rattle.swi_answer.specs.declared.answer.Refusal.TheVariants.{Usage, CacheLarge, RamSmall, ShelfFault, FileLong, Elf, Room, NoImage, Image, Mismatch, Long, CacheSmall, SourceFault, SinkFault, RamFault, Memory}

abbrev pub ending_status : Ending → ℕ
ending_status (Exited code n) = code % 256
ending_status Done = 0
ending_status (Spent n pc) = 240
ending_status (Faulted k pc a n) = 241
ending_status (StoreText pc a n) = 242

abbrev pub refusal_status : Refusal → ℕ
refusal_status (Elf r) = 243
refusal_status (Room end) = 243
refusal_status (Image r) = 244
refusal_status (Mismatch m) = 245
refusal_status (Long address needs) = 246
refusal_status (CacheSmall bytes least) = 247
refusal_status (RamSmall bytes held) = 247
refusal_status (CacheLarge bytes) = 247
refusal_status ShelfFault = 248
refusal_status (FileLong limit) = 248
refusal_status SourceFault = 249
refusal_status SinkFault = 249
refusal_status RamFault = 249
refusal_status Usage = 250
refusal_status Memory = 251
refusal_status NoImage = 252

abbrev pub status : Result Ending Refusal → ℕ
status (Ok ending) = ending_status ending
status (Err refusal) = refusal_status refusal
