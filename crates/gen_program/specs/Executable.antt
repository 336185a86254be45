-- The plain executable of some code: an ELF header, the program headers of the code and of the data, and the code
-- (System V ABI; ELF-64 object file format, "ELF header" and "Program header").
use Rattle.std.specs.Prelude.{ℕ, ◌+◌, ◌*◌, List, [], ◌∷◌, ◌++◌, length}
use Rattle.std.specs.List.{flat_map, concat}
use Rattle.std.specs.Int.{w16, w32, w64, to_le_bytes}

-- numbers of 2, 4 and 8 bytes
abbrev pub half : ℕ → List ℕ
half = to_le_bytes w16

abbrev pub word : ℕ → List ℕ
word = to_le_bytes w32

abbrev pub long : ℕ → List ℕ
long = to_le_bytes w64

-- where the code and the data stand in memory, and how much data there is
abbrev pub code_address : ℕ
code_address = 0x10000

abbrev pub data_address : ℕ
data_address = 0x1000000

abbrev pub data_size : ℕ
data_size = 2048

-- the magic number, ELFCLASS64, ELFDATA2LSB, EV_CURRENT, and no more
abbrev pub identification : List ℕ
identification = 0x7f ∷ 0x45 ∷ 0x4c ∷ 0x46 ∷ 2 ∷ 1 ∷ 1 ∷ 0 ∷ 0 ∷ 0 ∷ 0 ∷ 0 ∷ 0 ∷ 0 ∷ 0 ∷ 0 ∷ []

-- of an executable for RISC-V with two program headers and no sections
unfoldable pub elf_header : List ℕ
elf_header = concat (
    -- e_ident
    identification ∷
    -- e_type: ET_EXEC
    half 2 ∷
    -- e_machine: EM_RISCV
    half 243 ∷
    -- e_version: EV_CURRENT
    word 1 ∷
    -- e_entry
    long code_address ∷
    -- e_phoff
    long 64 ∷
    -- e_shoff
    long 0 ∷
    -- e_flags
    word 0 ∷
    -- e_ehsize
    half 64 ∷
    -- e_phentsize
    half 56 ∷
    -- e_phnum
    half 2 ∷
    -- e_shentsize
    half 0 ∷
    -- e_shnum
    half 0 ∷
    -- e_shstrndx
    half 0 ∷
    [])

-- of a segment with these flags, which stands at an offset of the file and at an address
unfoldable pub program_header : ℕ → ℕ → ℕ → ℕ → ℕ → List ℕ
program_header flags offset address file_size memory_size = concat (
    -- p_type: PT_LOAD
    word 1 ∷
    -- p_flags
    word flags ∷
    -- p_offset
    long offset ∷
    -- p_vaddr
    long address ∷
    -- p_paddr
    long address ∷
    -- p_filesz
    long file_size ∷
    -- p_memsz
    long memory_size ∷
    -- p_align
    long 8 ∷
    [])

-- code may be read and executed: PF_R and PF_X
abbrev pub code_header : ℕ → List ℕ
code_header size = program_header 5 176 code_address size size

-- data may be read and written, PF_R and PF_W, and has no bytes in the file
abbrev pub data_header : ℕ → List ℕ
data_header size = program_header 6 (176 + size) data_address 0 data_size

-- all that stands before the code, of so many bytes
unfoldable pub headers : ℕ → List ℕ
headers size = elf_header ++ (code_header size ++ data_header size)

unfoldable pub executable : List ℕ → List ℕ
executable words = headers (4 * length words) ++ flat_map word words
