-- What is written of the pairs of code places that race in a history.
use Rattle.std.specs.Prelude.{◌≡◌, ℕ, ◌++◌, ◌↔◌, List, Option, length, codes, Contains}
use Rattle.std.specs.List.{flat_map}
use Rattle.std.specs.Fmt.{decimal}
use Rattle.run_record.specs.declared.entry.Entry.{Entry}
use Rattle.symbol_lines.specs.FrameTexts.{FrameText}
use Rattle.report_text.specs.declared.pair.Pair.{Pair}
use Rattle.report_text.specs.Texts.{pair_bytes}
use Rattle.offline_audit.specs.Pairs.{IsRacingPair, AreRisingPairs}

-- the line that counts the pairs
abbrev pub count_line : ℕ → List ℕ
count_line n = codes "audit: " ++ (decimal n ++ codes " pairs\n")

-- The text tells of all pairs that race in the history, each once and in order, and so many they are.
pub record IsPairText (granule_of : ℕ → Option ℕ) (frame_of : ℕ → FrameText) (entries : List Entry) (count : ℕ) (text : List ℕ) : Type 0 where
  pub pairs : List Pair
  pub rising : AreRisingPairs pairs
  pub exact : (p q : ℕ) → Contains pairs (record { low = p; high = q }) ↔ IsRacingPair granule_of entries p q
  pub count_is : count ≡ length pairs
  pub text_is : text ≡ flat_map (pair_bytes frame_of) pairs ++ count_line (length pairs)
