-- The lines that a command writes: a run's ending and a refusal to the error sink, a checked image to the output.
use Rattle.std.specs.Prelude.{ℕ, List, [], ◌++◌, codes, decimal}
use Rattle.swi_line.specs.Hex.{hex_word}
use Rattle.swi_check.specs.declared.mismatch.Mismatch.{Mismatch}
use Rattle.swi_check.specs.declared.mismatch.Mismatch.TheVariants as mismatch
use Rattle.swi_elf_read.specs.declared.refusal.ElfRefusal.{ElfRefusal}
use Rattle.swi_elf_read.specs.declared.refusal.ElfRefusal.TheVariants as elf
use Rattle.swi_exec.specs.declared.done.FaultKind.{FaultKind}
use Rattle.swi_exec.specs.declared.done.FaultKind.TheVariants as kind
use Rattle.swi_image.specs.declared.refusal.ImageRefusal.{ImageRefusal}
use Rattle.swi_image.specs.declared.refusal.ImageRefusal.TheVariants as image
use Rattle.swi_answer.specs.declared.answer.Ending.{Ending}
use Rattle.swi_answer.specs.declared.answer.Ending.TheVariants.{Exited, Spent, Faulted, StoreText, Done}
use Rattle.swi_answer.specs.declared.answer.Refusal.{Refusal}
use Rattle.swi_answer.specs.declared.answer.Refusal.TheVariants.{Usage, CacheLarge, RamSmall, ShelfFault, FileLong, Elf, Room, NoImage, Image, Mismatch as Mismatched, Long, CacheSmall, SourceFault, SinkFault, RamFault, Memory}

abbrev pub kind_name : FaultKind → List ℕ
kind_name kind.FetchMisaligned = codes "fetch-misaligned"
kind_name kind.FetchAccess = codes "fetch-access"
kind_name kind.Illegal = codes "illegal"
kind_name kind.Break = codes "break"
kind_name kind.LoadAccess = codes "load-access"
kind_name kind.StoreAccess = codes "store-access"

-- the line of an ending; a guest that exits and a command that is done have none
abbrev pub ending_line : Ending → List ℕ
ending_line (Exited code n) = []
ending_line (Spent n pc) = codes "spent: " ++ decimal n ++ codes " steps, pc " ++ hex_word pc ++ codes "\n"
ending_line (Faulted k pc a n) =
    codes "fault: " ++ kind_name k ++ codes " at " ++ hex_word pc ++ codes ", address " ++ hex_word a ++ codes ", " ++ decimal n ++ codes " steps\n"
ending_line (StoreText pc a n) =
    codes "store into text: pc " ++ hex_word pc ++ codes ", address " ++ hex_word a ++ codes ", " ++ decimal n ++ codes " steps\n"
ending_line Done = []

-- the line of a program that shared a cache with others: its number and its ending
abbrev pub guest_line : ℕ → Ending → List ℕ
guest_line g (Exited code n) = decimal g ++ codes " exited " ++ decimal code ++ codes " " ++ decimal n ++ codes "\n"
guest_line g (Spent n pc) = decimal g ++ codes " spent " ++ decimal n ++ codes " " ++ hex_word pc ++ codes "\n"
guest_line g (Faulted k pc a n) =
    decimal g ++ codes " faulted " ++ kind_name k ++ codes " " ++ hex_word pc ++ codes " " ++ hex_word a ++ codes " " ++ decimal n ++ codes "\n"
guest_line g (StoreText pc a n) =
    decimal g ++ codes " store " ++ hex_word pc ++ codes " " ++ hex_word a ++ codes " " ++ decimal n ++ codes "\n"
guest_line g Done = []

-- a check of a file or an image: its number, its name and what it carries
pub record NumberedCheck : Type 0 where
  pub number : ℕ
  pub name : List ℕ
  pub carried : ℕ

abbrev pub numbered : ℕ → List ℕ → ℕ → NumberedCheck
numbered number name carried = record { number = number; name = name; carried = carried }

abbrev pub elf_check : ElfRefusal → NumberedCheck
elf_check (elf.Short v) = numbered 1 (codes "Short") v
elf_check (elf.Magic v) = numbered 2 (codes "Magic") v
elf_check (elf.Class v) = numbered 3 (codes "Class") v
elf_check (elf.Order v) = numbered 4 (codes "Order") v
elf_check (elf.Version v) = numbered 5 (codes "Version") v
elf_check (elf.FileType v) = numbered 6 (codes "FileType") v
elf_check (elf.Machine v) = numbered 7 (codes "Machine") v
elf_check (elf.Flags v) = numbered 8 (codes "Flags") v
elf_check (elf.HeaderSize v) = numbered 9 (codes "HeaderSize") v
elf_check (elf.Many v) = numbered 10 (codes "Many") v
elf_check (elf.Table v) = numbered 11 (codes "Table") v
elf_check (elf.Dynamic v) = numbered 12 (codes "Dynamic") v
elf_check (elf.Extent v) = numbered 13 (codes "Extent") v
elf_check (elf.Overlap v) = numbered 14 (codes "Overlap") v
elf_check (elf.NoText v) = numbered 15 (codes "NoText") v
elf_check (elf.TwoTexts v) = numbered 16 (codes "TwoTexts") v
elf_check (elf.Large v) = numbered 17 (codes "Large") v
elf_check (elf.Entry v) = numbered 18 (codes "Entry") v

abbrev pub image_check : ImageRefusal → NumberedCheck
image_check (image.Magic v) = numbered 1 (codes "Magic") v
image_check (image.Version v) = numbered 2 (codes "Version") v
image_check (image.BlockSize v) = numbered 3 (codes "BlockSize") v
image_check (image.Length v) = numbered 4 (codes "Length") v
image_check (image.Table v) = numbered 5 (codes "Table") v
image_check (image.Offsets v) = numbered 6 (codes "Offsets") v
image_check (image.Lengths v) = numbered 7 (codes "Lengths") v

abbrev pub check_line : List ℕ → NumberedCheck → List ℕ
check_line kind c = kind ++ codes " " ++ decimal c.number ++ codes " " ++ c.name ++ codes " " ++ decimal c.carried ++ codes "\n"

abbrev pub mismatch_line : Mismatch → List ℕ
mismatch_line (mismatch.Cover address) = codes "mismatch: cover " ++ hex_word address ++ codes "\n"
mismatch_line (mismatch.Place address held required) =
    codes "mismatch: place " ++ hex_word address ++ codes " " ++ decimal held ++ codes " " ++ decimal required ++ codes "\n"
mismatch_line (mismatch.Long block needs) = codes "mismatch: long " ++ decimal block ++ codes " " ++ decimal needs ++ codes "\n"
mismatch_line (mismatch.Length block held required) =
    codes "mismatch: length " ++ decimal block ++ codes " " ++ decimal held ++ codes " " ++ decimal required ++ codes "\n"
mismatch_line (mismatch.Word block offset held required) =
    codes "mismatch: word " ++ decimal block ++ codes " " ++ decimal offset ++ codes " " ++ hex_word held ++ codes " " ++ hex_word required ++ codes "\n"

-- the line of a refusal; whether the stack fits is check 19 of a file
abbrev pub refusal_line : Refusal → List ℕ
refusal_line Usage = codes "usage: swic rewrite, cached, plain, trace, list, check, measure, upgrade, share, prefetch, survey, profile\n"
refusal_line (CacheLarge bytes) = codes "cache large: " ++ decimal bytes ++ codes "\n"
refusal_line (RamSmall bytes held) = codes "ram small: " ++ decimal bytes ++ codes " " ++ decimal held ++ codes "\n"
refusal_line ShelfFault = codes "shelf fault\n"
refusal_line (FileLong limit) = codes "file too long\n"
refusal_line (Elf r) = check_line (codes "elf") (elf_check r)
refusal_line (Room end) = check_line (codes "elf") (numbered 19 (codes "Room") end)
refusal_line NoImage = codes "no image\n"
refusal_line (Image r) = check_line (codes "image") (image_check r)
refusal_line (Mismatched m) = mismatch_line m
refusal_line (Long address needs) = codes "long: " ++ hex_word address ++ codes " " ++ decimal needs ++ codes "\n"
refusal_line (CacheSmall bytes least) = codes "cache small: " ++ decimal bytes ++ codes " " ++ decimal least ++ codes "\n"
refusal_line SourceFault = codes "source fault\n"
refusal_line SinkFault = codes "sink fault\n"
refusal_line RamFault = codes "ram fault\n"
refusal_line Memory = codes "no memory\n"

-- the line of an image that was checked: how many blocks, and the most words of a block
abbrev pub image_line : ℕ → ℕ → List ℕ
image_line blocks words = codes "ok: " ++ decimal blocks ++ codes " blocks of " ++ decimal words ++ codes " words\n"
