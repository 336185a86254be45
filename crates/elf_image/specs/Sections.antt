-- Section headers, and the sections and symbol tables that they name (System V ABI, "Sections" and "Symbol Table").
-- Each definition takes the file's bytes.
use Rattle.std.specs.Prelude.{◌≡◌, ℕ, ◌+◌, ◌*◌, ◌<◌, ◌≤◌, ◌==◌, ◌&&◌, Bool, true, nat_lt, nat_le, nat_eq, bit_and, if◌then◌else◌, List, [], length, take, drop, map, find, slice_index, Option, Some, None}
use Rattle.std.specs.List.{range_with_len, starts_with, list_any}
use Rattle.std.specs.Option.{option_map, option_and_then}
use Rattle.elf_image.specs.declared.section.SectionHeader.{SectionHeader}
use Rattle.elf_image.specs.Bytes.{u16_at, u32_at, u64_at}

-- the header's fields e_shoff, e_shnum and e_shstrndx
abbrev pub section_offset : List ℕ → ℕ
section_offset file = u64_at file 40

abbrev pub section_count : List ℕ → ℕ
section_count file = u16_at file 60

abbrev pub names_index : List ℕ → ℕ
names_index file = u16_at file 62

-- the section headers have 64 bytes each and lie in the file, and one of them is that of the names
unfoldable pub has_sections : List ℕ → Bool
has_sections file =
    u16_at file 58 == 64
    && nat_le (section_offset file + 64 * section_count file) (length file)
    && nat_lt (names_index file) (section_count file)

-- the section header that stands at an offset of the file
unfoldable pub section_at : List ℕ → ℕ → SectionHeader
section_at file at = record {
  name = u32_at file at;
  kind = u32_at file (at + 4);
  flags = u64_at file (at + 8);
  offset = u64_at file (at + 24);
  size = u64_at file (at + 32);
  link = u32_at file (at + 40);
}

-- the section header of this number
abbrev pub section_header : List ℕ → ℕ → SectionHeader
section_header file k = section_at file (section_offset file + 64 * k)

-- all section headers, and none where their table is malformed
unfoldable pub section_headers : List ℕ → List SectionHeader
section_headers file =
    if has_sections file then map (section_header file) (range_with_len 0 (section_count file)) else []

-- the section's bytes lie in a file of this length, and the flag SHF_COMPRESSED isn't set
abbrev pub is_readable : ℕ → SectionHeader → Bool
is_readable len s = nat_le (s.offset + s.size) len && bit_and s.flags 0x800 == 0

-- the section's bytes, and none where they can't be read
abbrev pub contents : List ℕ → SectionHeader → List ℕ
contents file s = if is_readable (length file) s then take s.size (drop s.offset file) else []

-- this text stands at the front of the bytes, with a zero byte behind it
abbrev pub begins_with_text : List ℕ → List ℕ → Bool
begins_with_text text bytes =
    nat_lt (length text) (length bytes) && starts_with nat_eq bytes text && slice_index bytes (length text) == 0

-- the names of the sections
abbrev pub section_names : List ℕ → List ℕ
section_names file = contents file (section_header file (names_index file))

-- the section can be read and has this name
abbrev pub is_section : List ℕ → List ℕ → SectionHeader → Bool
is_section file name s =
    is_readable (length file) s && begins_with_text name (drop s.name (section_names file))

-- the bytes of the first section of this name that can be read; a name has no zero byte
unfoldable pub section : List ℕ → List ℕ → Option (List ℕ)
section file name =
    if list_any (λ b. b == 0) name then None
    else option_map (contents file) (find (is_section file name) (section_headers file))

-- a section of type SHT_SYMTAB that can be read
abbrev pub is_symbol_table : List ℕ → SectionHeader → Bool
is_symbol_table file s = is_readable (length file) s && s.kind == 2

-- the section of this number is of type SHT_STRTAB and can be read
abbrev pub is_string_table : List ℕ → ℕ → Bool
is_string_table file k =
    nat_lt k (section_count file)
    && is_readable (length file) (section_header file k)
    && (section_header file k).kind == 3

-- a symbol table's bytes and those of the string table that it is linked to
abbrev pub with_strings : List ℕ → SectionHeader → Option (List ℕ × List ℕ)
with_strings file s =
    if is_string_table file s.link
    then Some (contents file s, contents file (section_header file s.link))
    else None

-- the first symbol table that can be read, with its string table
unfoldable pub symbol_tables : List ℕ → Option (List ℕ × List ℕ)
symbol_tables file = option_and_then (with_strings file) (find (is_symbol_table file) (section_headers file))

-- the file has a section table that isn't malformed
pub record HasSections (file : List ℕ) : Type 0 where
  pub long : 64 ≤ length file
  pub sound : has_sections file ≡ true
  pub table : section_offset file + 64 * section_count file ≤ length file
  pub names : names_index file < section_count file
