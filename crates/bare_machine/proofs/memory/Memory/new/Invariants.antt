use Rattle.std.proofs.Common.{◌≡◌, map}
use Rattle.std.specs.List.{range_with_len}
use Rattle.elf_image.specs.File.{initial_word}
use Rattle.bare_machine.proofs.memory.Memory.new.Given as goal

abbrev pub invariant-loop-granule : goal.invariant-loop-granule
invariant-loop-granule l = l.words.items ≡ map (initial_word l.image) (range_with_len 0 l.granule)
