-- Lines of text.
use Rattle.std.specs.Prelude.{ℕ, List, string_bytes}
use Rattle.tsanrun_cli.specs.declared.refusals.Line.{Line}
use Rattle.tsanrun_cli.specs.declared.refusals.Line.TheVariants.{Fixed, Made}

abbrev pub line_bytes : Line → List ℕ
line_bytes (Fixed text) = text.now
line_bytes (Made text) = string_bytes text
