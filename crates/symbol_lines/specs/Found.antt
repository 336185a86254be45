-- Tables in which places are found by binary search.
use Rattle.std.specs.Prelude.{◌≡◌, ℕ, ◌<◌, ◌^◌, List, map}
use Rattle.std.specs.List.Sorted.{IsNonDecreasingBy}
use Rattle.symbol_lines.specs.declared.spans.Step.{Step}
use Rattle.symbol_lines.specs.Spans.{owner_at, owner_among}
use Rattle.symbol_lines.specs.Symbols.{functions}
use Rattle.symbol_lines.specs.Kept.{function_span, KeptSequence}
use Rattle.symbol_lines.specs.Paths.{TextSections}
use Rattle.symbol_lines.specs.Lines.{FileList, sequences}
use Rattle.symbol_lines.specs.Frames.{Tables}
use Rattle.symbol_lines.specs.NameEnds.{HasNames}
use Rattle.symbol_lines.specs.KeptLines.{kept_lines, resolved, numbered}

-- the steps serve for the functions of a symbol table
pub record HasFunctions (symbols : List ℕ) (steps : List Step) : Type 0 where
  pub rising : IsNonDecreasingBy (λ (s : Step). s.from) steps
  pub value : (p : ℕ) → p < 2 ^ 64 → owner_at steps p ≡ owner_among (map function_span (functions symbols)) p

-- the steps serve for the sequences of a section of line units
pub record HasLines (texts : TextSections) (section : List ℕ) (steps : List Step) (kept : List KeptSequence) (units : List FileList) : Type 0 where
  pub rising : IsNonDecreasingBy (λ (s : Step). s.from) steps
  pub value : (p : ℕ) → p < 2 ^ 64 → owner_at steps p ≡ owner_among (numbered 0 kept) p
  pub lines : map (resolved units) kept ≡ map kept_lines (sequences texts section)

-- what is kept serves for these tables
pub record IsRead (t : Tables) (ends : List ℕ) (functions places : List Step) (kept : List KeptSequence) (units : List FileList) : Type 0 where
  pub of_names : HasNames t.strings ends
  pub of_symbols : HasFunctions t.symbols functions
  pub of_lines : HasLines t.texts t.lines places kept units
