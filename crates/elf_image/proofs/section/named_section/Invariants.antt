use Rattle.std.proofs.Common.{◌≡◌, ◌-◌}
use Rattle.std.specs.Prelude.{map, find}
use Rattle.std.specs.List.{range_with_len}
use Rattle.elf_image.specs.Sections.{section_header, is_section}
use Rattle.elf_image.proofs.section.named_section.Given as goal

abbrev pub invariant-loop-number : goal.invariant-loop-number
invariant-loop-number l =
    find (is_section l.file l.name) (map (section_header l.file) (range_with_len l.number (l.count - l.number)))
    ≡ find (is_section l.file l.name) (map (section_header l.file) (range_with_len 0 l.count))
