-- Executables: ELF64, little-endian, for RISC-V (System V ABI; ELF-64 object file format, "ELF header"), and the
-- memory that they describe. Each definition takes the file's bytes.
use Rattle.std.specs.Prelude.{ℕ, ◌+◌, ◌*◌, ◌%◌, ◌<◌, ◌≤◌, ◌==◌, ◌&&◌, ◌||◌, not, Bool, false, nat_lt, bit_and, if◌then◌else◌, List, [], ◌∷◌, length, slice_index, map, filter, sum_by, position, Option, Some, None, Result, Ok, Err}
use Rattle.std.specs.List.{range_with_len, list_any}
use Rattle.elf_image.specs.declared.fault.ElfFault.{ElfFault}
use Rattle.elf_image.specs.declared.fault.ElfFault.TheVariants.{NotElf, NotLittle64, NotExecutable, NotRiscv, Compressed, BadTable, NoSegments, SegmentOutside, SegmentSizes, Overlap, TooMuchMemory, EntryOutside}
use Rattle.elf_image.specs.declared.header.ProgramHeader.{ProgramHeader}
use Rattle.elf_image.specs.declared.region.Region.{Region}
use Rattle.elf_image.specs.Bytes.{u16_at, u32_at, u64_at, word_of, long_of}
use Rattle.elf_image.specs.Headers.{header_at, takes_memory, is_writable, is_outside, has_bad_sizes, region, stack, gives_byte, byte_of}
use Rattle.elf_image.specs.Headers as headers_of
use Rattle.elf_image.specs.Regions.{contains, overlaps, size, block, is_writable_in, is_constant_in, is_code_in, granule_count, granule_in, granule_start}

-- the header's fields e_entry, e_phoff and e_phnum
abbrev pub entry : List ℕ → ℕ
entry file = u64_at file 24

abbrev pub table_offset : List ℕ → ℕ
table_offset file = u64_at file 32

abbrev pub header_count : List ℕ → ℕ
header_count file = u16_at file 56

-- the program header of this number, of 56 bytes
abbrev pub header : List ℕ → ℕ → ProgramHeader
header file k = header_at file (table_offset file + 56 * k)

-- the program headers in the file's order
abbrev pub headers : List ℕ → List ProgramHeader
headers file = map (header file) (range_with_len 0 (header_count file))

-- those whose segments take memory
abbrev pub segments : List ℕ → List ProgramHeader
segments file = filter takes_memory (headers file)

-- puts a segment before the first that begins above it
abbrev pub placed : ProgramHeader → List ProgramHeader → List ProgramHeader
placed h [] = h ∷ []
placed h (t ∷ ts) = if nat_lt h.address t.address then h ∷ t ∷ ts else t ∷ placed h ts

-- segments by rising address
abbrev pub by_address : List ProgramHeader → List ProgramHeader
by_address [] = []
by_address (h ∷ hs) = placed h (by_address hs)

-- all that takes memory, by rising address: the file's segments and the stack
unfoldable pub segments_of : List ℕ → List ProgramHeader
segments_of file = by_address (stack ∷ segments file)

-- the regions by rising start
unfoldable pub regions_of : List ℕ → List Region
regions_of file = map region (segments_of file)

-- the regions of two of these segments share an address
abbrev pub has_overlap : List ProgramHeader → Bool
has_overlap [] = false
has_overlap (h ∷ hs) = list_any (λ t. overlaps (region h) (region t)) hs || has_overlap hs

-- how many bytes the widened writable segments take together, and the others
abbrev pub writable_bytes : ProgramHeader → ℕ
writable_bytes h = if is_writable h then size (region h) else 0

abbrev pub other_bytes : ProgramHeader → ℕ
other_bytes h = if is_writable h then 0 else size (region h)

abbrev pub needs_too_much : List ProgramHeader → Bool
needs_too_much hs = nat_lt 4194304 (sum_by writable_bytes hs) || nat_lt 16777216 (sum_by other_bytes hs)

-- an instruction can stand there: a multiple of 4 with its four bytes in one executable region
abbrev pub is_code : List ℕ → ℕ → Bool
is_code file a = a % 4 == 0 && is_code_in (regions_of file) a

-- program headers whose size isn't 56, or that reach past the file
unfoldable pub has_bad_table : List ℕ → Bool
has_bad_table file =
    not (header_count file == 0)
    && (not (u16_at file 54 == 56) || nat_lt (length file) (table_offset file + 56 * header_count file))

-- the first fault of the header and its table
unfoldable pub header_fault : List ℕ → Option ElfFault
header_fault file =
    if nat_lt (length file) 64 || not (u32_at file 0 == 0x464c457f) then Some NotElf
    else if not (slice_index file 4 == 2 && slice_index file 5 == 1) then Some NotLittle64
    else if not (u16_at file 16 == 2) then Some NotExecutable
    else if not (u16_at file 18 == 243) then Some NotRiscv
    else if not (bit_and (u32_at file 48) 1 == 0) then Some Compressed
    else if has_bad_table file then Some BadTable
    else None

-- the first fault of the segments one by one, in a file of this length
unfoldable pub segment_fault : ℕ → List ProgramHeader → Option ElfFault
segment_fault len hs =
    if length hs == 0 then Some NoSegments
    else if list_any (is_outside len) hs then Some SegmentOutside
    else if list_any has_bad_sizes hs then Some SegmentSizes
    else None

-- the first fault of the segments together
unfoldable pub memory_fault : List ℕ → Option ElfFault
memory_fault file =
    if has_overlap (stack ∷ segments file) then Some Overlap
    else if needs_too_much (segments file) then Some TooMuchMemory
    else if not (is_code file (entry file)) then Some EntryOutside
    else None

-- the file where no fault is there, and else the fault; then what the next test says, where the first finds none
abbrev pub judged : List ℕ → Option ElfFault → Result (List ℕ) ElfFault
judged file None = Ok file
judged file (Some fault) = Err fault

abbrev pub or_next : Option ElfFault → Option ElfFault → Option ElfFault
or_next None next = next
or_next (Some fault) next = Some fault

-- An accepted file, or its first fault.
unfoldable pub image_of : List ℕ → Result (List ℕ) ElfFault
image_of file =
    judged file (or_next (header_fault file) (or_next (segment_fault (length file) (segments file)) (memory_fault file)))

-- the byte that the file has for an address, and 0 where no segment has one
abbrev pub byte_in : List ℕ → List ProgramHeader → ℕ → ℕ
byte_in file [] a = 0
byte_in file (h ∷ hs) a = if gives_byte h a then byte_of file h a else byte_in file hs a

unfoldable pub byte_at : List ℕ → ℕ → ℕ
byte_at file a = byte_in file (segments_of file) a

-- the number of the region that has an address, by rising start
abbrev pub region_number : List ℕ → ℕ → Option ℕ
region_number file a = position (λ r. contains r a) (regions_of file)

-- the address behind the bytes that the file has for region k
abbrev pub file_end : List ℕ → ℕ → ℕ
file_end file k = slice_index (map headers_of.file_end (segments_of file)) k

-- an address of some region
abbrev pub is_mapped : List ℕ → ℕ → Bool
is_mapped file a = list_any (λ r. contains r a) (regions_of file)

-- the instruction at an address
unfoldable pub word_at : List ℕ → ℕ → Option ℕ
word_at file pc = if is_code file pc then Some (word_of (byte_at file) pc) else None

-- the eight bytes round an address of a region that isn't writable
unfoldable pub constant_word : List ℕ → ℕ → Option ℕ
constant_word file a =
    if is_constant_in (regions_of file) a then Some (long_of (byte_at file) (block a)) else None

-- an address that may be written
abbrev pub is_writable_at : List ℕ → ℕ → Bool
is_writable_at file a = is_writable_in (regions_of file) a

-- the granules are the eight-byte blocks of the writable regions, numbered by rising address
abbrev pub granules_of : List ℕ → ℕ
granules_of file = granule_count (regions_of file)

abbrev pub granule_of : List ℕ → ℕ → Option ℕ
granule_of file a = granule_in (regions_of file) a

abbrev pub granule_address : List ℕ → ℕ → ℕ
granule_address file g = granule_start (regions_of file) g

-- a granule's eight bytes when the program starts
unfoldable pub initial_word : List ℕ → ℕ → ℕ
initial_word file g = long_of (byte_at file) (granule_address file g)

-- the header and its table of program headers stand in the file
pub record HasTable (file : List ℕ) : Type 0 where
  pub long : 64 ≤ length file
  pub table : 0 < header_count file → table_offset file + 56 * header_count file ≤ length file
