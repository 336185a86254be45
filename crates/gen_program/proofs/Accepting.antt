-- The loader finds no fault in an executable of this form.
use Rattle.std.proofs.Common.{◌≡◌, ℕ, ◌+◌, ◌-◌, ◌*◌, ◌/◌, ◌^◌, ◌<◌, ◌≤◌, List, [], ◌∷◌, ◌++◌, length, arith, refl, ap, ◌∙◌, length-append, true, false}
use Rattle.std.specs.Prelude.{nat_lt, nat_le, slice_index, None, Ok}
use Rattle.std.specs.Int.{to_le_bytes, w64}
use Rattle.std.proofs.lemmas.Bool.{le-ltb, lt-ltb, le-leb}
use Rattle.std.proofs.lemmas.Nat.{from_le_bytes-to_le_bytes_8}
use Rattle.elf_image.specs.declared.header.ProgramHeader.{ProgramHeader}
use Rattle.elf_image.specs.Bytes.{u16_at, u32_at, u64_at}
use Rattle.elf_image.specs.Headers.{header_at, takes_memory, region}
use Rattle.elf_image.specs.File.{image_of, header_fault, has_bad_table, segment_fault, memory_fault, segments, segments_of, regions_of, header_count, table_offset, entry}
use Rattle.gen_program.specs.Executable.{headers, elf_header, program_header}

-- the segments of the code, of so many bytes, and of the data
abbrev pub code_segment : ℕ → ProgramHeader
code_segment s = record { kind = 1; flags = 5; offset = 176; address = 0x10000; file_size = s; memory_size = s }

abbrev pub data_segment : ℕ → ProgramHeader
data_segment s = record { kind = 1; flags = 6; offset = 176 + s; address = 0x1000000; file_size = 0; memory_size = 2048 }

-- ---- what the loader tests, for any file

header_passes : (file : List ℕ) → 176 ≤ length file → u32_at file 0 ≡ 0x464c457f → slice_index file 4 ≡ 2 → slice_index file 5 ≡ 1 → u16_at file 16 ≡ 2 → u16_at file 18 ≡ 243 → u32_at file 48 ≡ 0 → u16_at file 54 ≡ 56 → header_count file ≡ 2 → table_offset file ≡ 64 → header_fault file ≡ None
unfolding header_fault has_bad_table
header_passes file long magic class order kind machine flags size count offset =
    let not_short : nat_lt (length file) 64 ≡ false = le-ltb _ _ (omega arith) in
    let holds_table : nat_lt (length file) 176 ≡ false = le-ltb _ _ (omega arith) in
    rw (not_short, magic, class, order, kind, machine, flags, count, size, offset, holds_table) refl

segments_are : (file : List ℕ) (a b : ProgramHeader) → header_count file ≡ 2 → table_offset file ≡ 64 → header_at file 64 ≡ a → header_at file 120 ≡ b → takes_memory a ≡ true → takes_memory b ≡ true → segments file ≡ a ∷ b ∷ []
segments_are file a b count offset first second one two = rw (count, offset, first, second, one, two) refl

segments_pass : (len s : ℕ) → 176 + s ≤ len → 4 ≤ s → s ≤ 4000000 → segment_fault len (code_segment s ∷ data_segment s ∷ []) ≡ None
unfolding segment_fault
segments_pass len s long some small =
    let bytes : nat_lt 0 s ≡ true = lt-ltb _ _ (omega arith) in
    let inside : nat_lt len (176 + s) ≡ false = le-ltb _ _ long in
    let sizes : nat_lt s s ≡ false = le-ltb _ _ (omega arith) in
    let low : nat_lt (2 ^ 40) (0x10000 + s) ≡ false = le-ltb _ _ (omega arith) in
    rw (bytes, inside, sizes, low) refl

memory_passes : (file : List ℕ) (s : ℕ) → segments file ≡ code_segment s ∷ data_segment s ∷ [] → entry file ≡ 0x10000 → 4 ≤ s → s ≤ 4000000 → memory_fault file ≡ None
unfolding memory_fault regions_of segments_of region
memory_passes file s are begins some small =
    let end : ℕ = 8 * ((0x10000 + s + 7) / 8) in
    let low : 0x10000 + s ≤ end = omega arith in
    let high : end ≤ 0x10000 + s + 7 = omega arith in
    let below_stack : nat_lt 0x7fff0000 end ≡ false = le-ltb _ _ (omega arith) in
    let below_data : nat_lt 0x1000000 end ≡ false = le-ltb _ _ (omega arith) in
    let little : nat_lt 16777216 (0 + (end - 0x10000) + 0) ≡ false = le-ltb _ _ (omega arith) in
    let has_entry : nat_le 0x10004 end ≡ true = le-leb _ _ (omega arith) in
    rw (are, begins, below_stack, below_data, little, has_entry) refl

image_passes : (file : List ℕ) → header_fault file ≡ None → segment_fault (length file) (segments file) ≡ None → memory_fault file ≡ None → image_of file ≡ Ok file
unfolding image_of
image_passes file one two three = rw (one, two, three) refl

-- ---- an executable's fields

u64_at-long : (s : ℕ) → s < 2 ^ 64 → u64_at (to_le_bytes w64 s) 0 ≡ s
u64_at-long s fits = omega (arith, from_le_bytes-to_le_bytes_8 s fits)

pub length-headers : (s : ℕ) → length (headers s) ≡ 176
unfolding headers elf_header program_header
length-headers s = refl

header_at-code : (s : ℕ) (rest : List ℕ) → s < 2 ^ 64 → header_at (headers s ++ rest) 64 ≡ code_segment s
unfolding headers elf_header program_header header_at
header_at-code s rest fits = rw (u64_at-long s fits) refl

header_at-data : (s : ℕ) (rest : List ℕ) → 176 + s < 2 ^ 64 → header_at (headers s ++ rest) 120 ≡ data_segment s
unfolding headers elf_header program_header header_at
header_at-data s rest fits = rw (u64_at-long (176 + s) fits) refl

headers_pass : (s : ℕ) (rest : List ℕ) → 176 ≤ length (headers s ++ rest) → header_fault (headers s ++ rest) ≡ None
unfolding headers elf_header program_header
headers_pass s rest long = header_passes (headers s ++ rest) long refl refl refl refl refl refl refl refl refl

pub are_segments : (s : ℕ) (rest : List ℕ) → 4 ≤ s → s ≤ 4000000 → segments (headers s ++ rest) ≡ code_segment s ∷ data_segment s ∷ []
unfolding headers elf_header program_header
are_segments s rest some small =
    let takes : nat_lt 0 s ≡ true = lt-ltb _ _ (omega arith) in
    segments_are (headers s ++ rest) (code_segment s) (data_segment s) refl refl (header_at-code s rest (omega arith)) (header_at-data s rest (omega arith)) takes refl

memories_pass : (s : ℕ) (rest : List ℕ) → 4 ≤ s → s ≤ 4000000 → memory_fault (headers s ++ rest) ≡ None
unfolding headers elf_header program_header
memories_pass s rest some small = memory_passes (headers s ++ rest) s (are_segments s rest some small) refl some small

pub image_of-headers : (s : ℕ) (rest : List ℕ) → length rest ≡ s → 4 ≤ s → s ≤ 4000000 → image_of (headers s ++ rest) ≡ Ok (headers s ++ rest)
image_of-headers s rest has some small =
    let long : length (headers s ++ rest) ≡ 176 + s = omega (arith, length-append (headers s) rest, length-headers s) in
    let one = headers_pass s rest (omega arith) in
    let two : segment_fault (length (headers s ++ rest)) (segments (headers s ++ rest)) ≡ None =
    ap (segment_fault (length (headers s ++ rest))) (are_segments s rest some small) ∙ segments_pass (length (headers s ++ rest)) s (omega arith) some small in
    image_passes (headers s ++ rest) one two (memories_pass s rest some small)
