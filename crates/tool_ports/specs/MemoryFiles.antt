-- A file in memory.
use Rattle.std.specs.Prelude.{ℕ, List, string_bytes}
use Rattle.tool_ports.specs.declared.memory_files.NamedFile.{NamedFile}

abbrev pub pair_of : NamedFile → List ℕ × List ℕ
pair_of f = (string_bytes f.name, f.bytes.items)

abbrev pub bytes_of : NamedFile → List ℕ
bytes_of f = f.bytes.items
