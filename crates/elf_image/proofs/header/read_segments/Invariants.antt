use Rattle.std.proofs.Common.{◌≡◌, ◌≤◌, length}
use Rattle.std.specs.Prelude.{map, filter}
use Rattle.std.specs.List.{range_with_len}
use Rattle.elf_image.specs.File.{header}
use Rattle.elf_image.specs.Headers.{takes_memory}
use Rattle.elf_image.proofs.header.read_segments.Given as goal

abbrev pub invariant-loop-index : goal.invariant-loop-index
invariant-loop-index l = record {
  items : l.segments.items ≡ filter takes_memory (map (header l.bytes) (range_with_len 0 l.index));
  few : length l.segments.items ≤ l.index;
}
