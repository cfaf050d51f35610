-- Which ELF files are accepted, and what they say.
-- Source: System V ABI, "ELF Header" and "ELF Identification"; RISC-V ELF psABI, "File Header" (e_machine 243,
-- e_flags: EF_RISCV_RVC bit 0, EF_RISCV_FLOAT_ABI bits 1 and 2, EF_RISCV_RVE bit 3). The order of the checks, the
-- limits and what a refusal carries are this project's own rules.
use Rattle.std.specs.Prelude.{ℕ, ◌+◌, ◌*◌, ◌%◌, ◌==◌, Bool, not, nat_lt, nat_eq, List, [], ◌∷◌, length, slice_index, position, Option, Some, None, option_map, if◌then◌else◌}
use Rattle.std.specs.List.{list_any, starts_with}
use Rattle.swi_elf_read.specs.declared.refusal.ElfRefusal.{ElfRefusal}
use Rattle.swi_elf_read.specs.declared.refusal.ElfRefusal.TheVariants.{Short, Magic, Class, Order, Version, FileType, Machine, Flags, HeaderSize, Many, Table, Dynamic, Extent, Overlap, NoText, TwoTexts, Large, Entry}
use Rattle.swi_elf_read.specs.declared.program_header.ProgramHeader.{ProgramHeader}
use Rattle.swi_elf_read.specs.ProgramHeaders.{half_at, word_at, table_at, is_dynamic, is_extent_wrong, is_overlap, has_text_word, is_second_text, is_too_large, is_text_word, first_among}

-- e_ident[EI_MAG0] to e_ident[EI_MAG3]: 0x7F, 'E', 'L', 'F'
abbrev pub magic : List ℕ
magic = 0x7F ∷ 0x45 ∷ 0x4C ∷ 0x46 ∷ []

-- the fields of the ELF header
abbrev pub ei_class : List ℕ → ℕ
ei_class file = slice_index file 4

abbrev pub ei_data : List ℕ → ℕ
ei_data file = slice_index file 5

abbrev pub ei_version : List ℕ → ℕ
ei_version file = slice_index file 6

abbrev pub e_type : List ℕ → ℕ
e_type file = half_at file 16

abbrev pub e_machine : List ℕ → ℕ
e_machine file = half_at file 18

abbrev pub e_version : List ℕ → ℕ
e_version file = word_at file 20

abbrev pub e_entry : List ℕ → ℕ
e_entry file = word_at file 24

abbrev pub e_phoff : List ℕ → ℕ
e_phoff file = word_at file 28

abbrev pub e_flags : List ℕ → ℕ
e_flags file = word_at file 36

abbrev pub e_ehsize : List ℕ → ℕ
e_ehsize file = half_at file 40

abbrev pub e_phentsize : List ℕ → ℕ
e_phentsize file = half_at file 42

abbrev pub e_phnum : List ℕ → ℕ
e_phnum file = half_at file 44

-- the program header table
abbrev pub program_headers : List ℕ → List ProgramHeader
program_headers file = table_at file (e_phoff file) (e_phnum file)

-- bits 0 to 3 of e_flags are clear: no compressed instructions, no float ABI, 32 registers
abbrev pub has_plain_flags : ℕ → Bool
has_plain_flags flags = flags % 16 == 0

-- a check: its refusal where it fails
abbrev pub refuse_if : Bool → ElfRefusal → Option ElfRefusal
refuse_if fails refusal = if fails then Some refusal else None

-- the first refusal of a list of checks
abbrev pub first_some : List (Option ElfRefusal) → Option ElfRefusal
first_some [] = None
first_some (Some refusal ∷ rest) = Some refusal
first_some (None ∷ rest) = first_some rest

-- the checks of the ELF identification: ELFCLASS32, ELFDATA2LSB and EV_CURRENT are 1
abbrev pub identification_checks : List ℕ → List (Option ElfRefusal)
identification_checks file =
    refuse_if (nat_lt (length file) 52) (Short (length file))
    ∷ refuse_if (not (starts_with nat_eq file magic)) (Magic 0)
    ∷ refuse_if (not (ei_class file == 1)) (Class 4)
    ∷ refuse_if (not (ei_data file == 1)) (Order 5)
    ∷ refuse_if (not (ei_version file == 1)) (Version 6)
    ∷ []

abbrev pub identification_refusal : List ℕ → Option ElfRefusal
identification_refusal file = first_some (identification_checks file)

-- the checks of the other fields of the ELF header: EV_CURRENT is 1, ET_EXEC is 2, EM_RISCV is 243
abbrev pub header_checks : List ℕ → List (Option ElfRefusal)
header_checks file =
    refuse_if (not (e_version file == 1)) (Version 20)
    ∷ refuse_if (not (e_type file == 2)) (FileType 16)
    ∷ refuse_if (not (e_machine file == 243)) (Machine 18)
    ∷ refuse_if (not (has_plain_flags (e_flags file))) (Flags 36)
    ∷ refuse_if (not (e_ehsize file == 52)) (HeaderSize 40)
    ∷ refuse_if (not (e_phentsize file == 32)) (HeaderSize 42)
    ∷ refuse_if (nat_lt 64 (e_phnum file)) (Many 44)
    ∷ refuse_if (nat_lt (length file) (e_phoff file + 32 * e_phnum file)) (Table 28)
    ∷ []

abbrev pub header_refusal : List ℕ → Option ElfRefusal
header_refusal file = first_some (header_checks file)

-- the checks of the program headers of a file of so many bytes with this entry address
abbrev pub table_checks : ℕ → ℕ → List ProgramHeader → List (Option ElfRefusal)
table_checks size entry headers =
    option_map Dynamic (position is_dynamic headers)
    ∷ option_map Extent (position (is_extent_wrong size) headers)
    ∷ option_map Overlap (first_among is_overlap headers)
    ∷ refuse_if (not (list_any has_text_word headers)) (NoText 0)
    ∷ option_map TwoTexts (first_among is_second_text headers)
    ∷ option_map Large (first_among is_too_large headers)
    ∷ refuse_if (not (list_any (is_text_word entry) headers)) (Entry 24)
    ∷ []

unfoldable pub table_refusal : ℕ → ℕ → List ProgramHeader → Option ElfRefusal
table_refusal size entry headers = first_some (table_checks size entry headers)

-- the refusal of the first check that fails, in this order
unfoldable pub first_refusal : List ℕ → Option ElfRefusal
first_refusal file = first_some (
    identification_refusal file
    ∷ header_refusal file
    ∷ table_refusal (length file) (e_entry file) (program_headers file)
    ∷ [])
