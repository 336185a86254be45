-- Program headers: the segments of an executable (System V ABI; ELF-64 object file format, "Program header").
use Rattle.std.specs.Prelude.{ℕ, ◌+◌, ◌-◌, ◌*◌, ◌/◌, ◌<◌, ◌≤◌, ◌==◌, ◌&&◌, ◌||◌, ◌^◌, not, Bool, nat_lt, nat_le, bit_and, if◌then◌else◌, List, slice_index}
use Rattle.elf_image.specs.declared.header.ProgramHeader.{ProgramHeader}
use Rattle.elf_image.specs.declared.region.Region.{Region}
use Rattle.elf_image.specs.Bytes.{u32_at, u64_at}

-- the program header that stands at an offset of the file
unfoldable pub header_at : List ℕ → ℕ → ProgramHeader
header_at file at = record {
  kind = u32_at file at;
  flags = u32_at file (at + 4);
  offset = u64_at file (at + 8);
  address = u64_at file (at + 16);
  file_size = u64_at file (at + 32);
  memory_size = u64_at file (at + 40);
}

-- a PT_LOAD header whose segment takes memory
abbrev pub takes_memory : ProgramHeader → Bool
takes_memory h = h.kind == 1 && nat_lt 0 h.memory_size

-- the flags PF_X and PF_W
abbrev pub is_executable : ProgramHeader → Bool
is_executable h = not (bit_and h.flags 1 == 0)

abbrev pub is_writable : ProgramHeader → Bool
is_writable h = not (bit_and h.flags 2 == 0)

-- the segment's bytes don't lie in a file of this length
abbrev pub is_outside : ℕ → ProgramHeader → Bool
is_outside len h = nat_lt 0 h.file_size && nat_lt len (h.offset + h.file_size)

-- more bytes in the file than in memory, or memory above 2^40
abbrev pub has_bad_sizes : ProgramHeader → Bool
has_bad_sizes h = nat_lt h.memory_size h.file_size || nat_lt (2 ^ 40) (h.address + h.memory_size)

-- the segment's addresses, widened to multiples of eight
unfoldable pub region : ProgramHeader → Region
region h = record {
  start = 8 * (h.address / 8);
  end = 8 * ((h.address + h.memory_size + 7) / 8);
  writable = is_writable h;
  executable = is_executable h;
}

-- the stack, as a segment without bytes in the file
abbrev pub stack : ProgramHeader
stack = record { kind = 1; flags = 6; offset = 0; address = 0x7FFF0000; file_size = 0; memory_size = 0x10000 }

-- the file has a byte for the address
abbrev pub gives_byte : ProgramHeader → ℕ → Bool
gives_byte h a = nat_le h.address a && nat_lt a (h.address + h.file_size)

-- the address behind the bytes that the file has for it
abbrev pub file_end : ProgramHeader → ℕ
file_end h = h.address + h.file_size

-- the segment's byte at an address of its region: the file's where it has one, and else zero
unfoldable pub byte_of : List ℕ → ProgramHeader → ℕ → ℕ
byte_of file h a = if gives_byte h a then slice_index file (h.offset + (a - h.address)) else 0

-- the segment's bytes lie in the file, and it doesn't reach above 2^40
pub record IsSound (len : ℕ) (h : ProgramHeader) : Type 0 where
  pub in_file : 0 < h.file_size → h.offset + h.file_size ≤ len
  pub sizes : h.file_size ≤ h.memory_size
  pub low : h.address + h.memory_size ≤ 2 ^ 40
  pub takes : 0 < h.memory_size

-- the segment doesn't reach above 2^40
abbrev pub IsLow : ProgramHeader → Type 0
IsLow h = h.address + h.memory_size ≤ 2 ^ 40
