-- The checks that a command makes before it does anything: what each asks, and what it refuses with.
use Rattle.std.specs.Prelude.{◌≡◌, ◌⊎◌, ℕ, ◌+◌, ◌*◌, ◌^◌, ◌<◌, ◌≤◌, nat_lt, List, [], ◌∷◌, length, Option, Some, None, option_map, Result, Ok, Err, ⊤, if◌then◌else◌}
use Rattle.std.specs.Option.{option_or}
use Rattle.swi_command.specs.declared.command.CacheOptions.{CacheOptions}
use Rattle.swi_command.specs.declared.command.RunLimits.{RunLimits}
use Rattle.swi_elf_read.specs.Elf as elf
use Rattle.swi_elf_read.specs.Loaded.{image_of as image_in}
use Rattle.swi_image.specs.Checks as image
use Rattle.swi_image.specs.Format.{image_of}
use Rattle.swi_memory.specs.declared.layout.Layout.{Layout}
use Rattle.swi_program.specs.declared.placement.Room.{Room}
use Rattle.swi_program.specs.Layout.{laid_out}
use Rattle.swi_program.specs.Program.{ProgramData}
use Rattle.swi_program.specs.ProgramOf.{program_of_file}
use Rattle.swi_program.specs.Text.{TextData, text_of}
use Rattle.swi_render.specs.Cut.{Fits, IsFirstLong, needs_of}
use Rattle.swi_render.specs.ImageOf.{IsImageOf}
use Rattle.swi_make.specs.Made.{IsMade}
use Rattle.swi_check.specs.declared.mismatch.Mismatch.{Mismatch}
use Rattle.swi_check.specs.Mismatches.{IsMismatch}
use Rattle.swi_answer.specs.declared.answer.Refusal.{Refusal}
use Rattle.swi_answer.specs.declared.answer.Refusal.TheVariants as refusal

-- ---- the sizes of cache and ram, before a file is read

-- the most bytes of a cache
abbrev pub cache_limit : ℕ
cache_limit = 2 ^ 23

abbrev pub size_refusal : ℕ → ℕ → Option Refusal
size_refusal bytes words =
    if nat_lt cache_limit bytes then Some (refusal.CacheLarge bytes)
    else if nat_lt (4 * words) bytes then Some (refusal.RamSmall bytes (4 * words))
    else None

-- the refusal by the first of several sizes that is refused
abbrev pub first_size_refusal : List ℕ → ℕ → Option Refusal
first_size_refusal [] words = None
first_size_refusal (bytes ∷ sizes) words = option_or (size_refusal bytes words) (first_size_refusal sizes words)

-- the caches of a command
pub data Caches : Type 0 where
  -- none
  NoCache : Caches
  -- one of so many bytes, in the ram
  InRam : (bytes : ℕ) → Caches
  -- of each of these sizes one, which is counted for without the ram
  CountedFor : (sizes : List ℕ) → Caches

-- the refusal of the first cache that is too large, or larger than a ram of so many words
abbrev pub cache_refusal : Caches → ℕ → Option Refusal
cache_refusal NoCache words = None
cache_refusal (InRam bytes) words = size_refusal bytes words
cache_refusal (CountedFor sizes) words = first_size_refusal sizes words

-- ---- the checks of a file

pub data Check : Type 0 where
  -- the file has at most 2^26 bytes
  IsShort : (file : List ℕ) → Check
  -- it is an ELF file that is accepted
  IsAcceptedElf : (file : List ℕ) → Check
  -- heap and stack find room behind its program
  HasRoom : (file : List ℕ) → RunLimits → Check
  -- it has an image
  HasImage : (file : List ℕ) → Check
  -- the image that it has is accepted
  IsAcceptedImage : (file : List ℕ) → Check
  -- and is one of its text
  IsOwnImage : (file : List ℕ) → Check
  -- each instruction fits into a block of so many words
  FitsBlocks : (file : List ℕ) (most : ℕ) → Check
  -- or the file has an image
  FitsUnlessImage : (file : List ℕ) (most : ℕ) → Check
  -- each instruction of the program that is made of the seed, with so many functions, fits into a block of so many words
  FitsMade : (seed functions most : ℕ) → Check
  -- a cache of so many bytes has at least those of a block
  HoldsBlock : (bytes least : ℕ) → Check

-- the most bytes that a file may have
abbrev pub file_limit : ℕ
file_limit = 2 ^ 26

-- the text of the file's program
abbrev pub text_in : List ℕ → TextData
text_in file = text_of (program_of_file file).segments

abbrev pub room_in : List ℕ → RunLimits → Result Layout Room
room_in file limits = laid_out (program_of_file file).segments limits.heap limits.stack

-- the most words of a block: of the file's image, or so many
abbrev pub block_words : Option (List ℕ) → ℕ → ℕ
block_words None most = most
block_words (Some bytes) most = (image_of bytes).block_words

-- the bytes of a block, which a cache holds at least
abbrev pub least_cache : List ℕ → CacheOptions → ℕ
least_cache file cache = 4 * block_words (image_in file) cache.block_words

-- it passes where there is no image
abbrev pub OfImage : Option (List ℕ) → (List ℕ → Type 0) → Type 0
OfImage None fact = ⊤
OfImage (Some bytes) fact = fact bytes

-- an instruction is the first that doesn't fit into a block of so many words
abbrev pub IsLong : TextData → ℕ → Refusal → Type 0
IsLong text most r = (k : ℕ) × IsFirstLong text most k × (r ≡ refusal.Long (text.base + 4 * k) (needs_of text k))

-- bytes are no image, or none of the text
abbrev pub ImageFails : TextData → List ℕ → Refusal → Type 0
ImageFails t bytes r =
    (option_map (λ e. refusal.Image e) (image.first_refusal bytes) ≡ Some r)
    ⊎ ((image.first_refusal bytes ≡ None) × ((m : Mismatch) × IsMismatch t (image_of bytes) m × (r ≡ refusal.Mismatch m)))

-- or they are an image of the text
abbrev pub ImagePasses : TextData → List ℕ → Type 0
ImagePasses t bytes = (image.first_refusal bytes ≡ None) × IsImageOf t (image_of bytes)

-- a check fails, and refuses so
abbrev pub Fails : Check → Refusal → Type 0
Fails (IsShort file) r = (file_limit < length file) × (r ≡ refusal.FileLong file_limit)
Fails (IsAcceptedElf file) r = option_map (λ e. refusal.Elf e) (elf.first_refusal file) ≡ Some r
Fails (HasRoom file limits) r = (room : Room) × (room_in file limits ≡ Err room) × (r ≡ refusal.Room room.end)
Fails (HasImage file) r = (image_in file ≡ None) × (r ≡ refusal.NoImage)
Fails (IsAcceptedImage file) r =
    (bytes : List ℕ) × (image_in file ≡ Some bytes) × (option_map (λ e. refusal.Image e) (image.first_refusal bytes) ≡ Some r)
Fails (IsOwnImage file) r =
    (bytes : List ℕ) × (image_in file ≡ Some bytes) × ((m : Mismatch) × IsMismatch (text_in file) (image_of bytes) m × (r ≡ refusal.Mismatch m))
Fails (FitsBlocks file most) r = IsLong (text_in file) most r
Fails (FitsUnlessImage file most) r = (image_in file ≡ None) × IsLong (text_in file) most r
Fails (FitsMade seed functions most) r = (p : ProgramData) × IsMade seed functions p × IsLong (text_of p.segments) most r
Fails (HoldsBlock bytes least) r = (bytes < least) × (r ≡ refusal.CacheSmall bytes least)

-- it passes
abbrev pub Passes : Check → Type 0
Passes (IsShort file) = length file ≤ file_limit
Passes (IsAcceptedElf file) = elf.first_refusal file ≡ None
Passes (HasRoom file limits) = (l : Layout) × (room_in file limits ≡ Ok l)
Passes (HasImage file) = (bytes : List ℕ) × (image_in file ≡ Some bytes)
Passes (IsAcceptedImage file) = OfImage (image_in file) (λ bytes. image.first_refusal bytes ≡ None)
Passes (IsOwnImage file) = OfImage (image_in file) (λ bytes. IsImageOf (text_in file) (image_of bytes))
Passes (FitsBlocks file most) = Fits (text_in file) most
Passes (FitsUnlessImage file most) = image_in file ≡ None → Fits (text_in file) most
Passes (FitsMade seed functions most) = (p : ProgramData) → IsMade seed functions p → Fits (text_of p.segments) most
Passes (HoldsBlock bytes least) = least ≤ bytes

-- a command is refused by the first check that fails
abbrev pub IsRefusedBy : List Check → Refusal → Type 0
IsRefusedBy [] r = ⊥
IsRefusedBy (c ∷ cs) r = Fails c r ⊎ (Passes c × IsRefusedBy cs r)

-- or all pass
abbrev pub IsAccepted : List Check → Type 0
IsAccepted [] = ⊤
IsAccepted (c ∷ cs) = Passes c × IsAccepted cs

-- a command was refused by the first check that fails, or for want of memory
abbrev pub IsRefusedOr : List Check → Refusal → Type 0
IsRefusedOr checks r = (r ≡ refusal.Memory) ⊎ IsRefusedBy checks r

-- the file has an image, which is one of its text
abbrev pub image_checks : List ℕ → List Check
image_checks file = IsShort file ∷ IsAcceptedElf file ∷ HasImage file ∷ IsAcceptedImage file ∷ IsOwnImage file ∷ []

-- the image that the file has is one of its text; where it has none, each instruction fits into a block of so many words
abbrev pub subject_checks : ℕ → List ℕ → List Check
subject_checks most file = IsAcceptedImage file ∷ IsOwnImage file ∷ FitsUnlessImage file most ∷ []
