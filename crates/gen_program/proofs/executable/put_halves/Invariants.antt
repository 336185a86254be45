use Rattle.std.proofs.Common.{◌≡◌, ◌++◌, take}
use Rattle.std.specs.List.{flat_map}
use Rattle.gen_program.specs.Executable.{half}
use Rattle.gen_program.proofs.executable.put_halves.Given as goal

abbrev pub invariant-loop-number : goal.invariant-loop-number
invariant-loop-number l = l.file.items ≡ l.initial.file.items ++ flat_map half (take l.number-index l.numbers)
