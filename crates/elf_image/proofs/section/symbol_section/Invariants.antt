use Rattle.std.proofs.Common.{◌≡◌, ◌-◌}
use Rattle.std.specs.Prelude.{map, find}
use Rattle.std.specs.List.{range_with_len}
use Rattle.elf_image.specs.Sections.{section_header, is_symbol_table}
use Rattle.elf_image.proofs.section.symbol_section.Given as goal

abbrev pub invariant-loop-number : goal.invariant-loop-number
invariant-loop-number l =
    find (is_symbol_table l.file) (map (section_header l.file) (range_with_len l.number (l.count - l.number)))
    ≡ find (is_symbol_table l.file) (map (section_header l.file) (range_with_len 0 l.count))
