use Rattle.std.proofs.Common.{◌≡◌, map, drop}
use Rattle.tool_ports.specs.Ports.{file_named}
use Rattle.tool_ports.specs.MemoryFiles.{pair_of}
use Rattle.tool_ports.proofs.memory_files.find.Given as goal

abbrev pub invariant-loop-file : goal.invariant-loop-file
invariant-loop-file l = file_named l.name (map pair_of (drop l.file-index l.files)) ≡ file_named l.name (map pair_of l.files)
