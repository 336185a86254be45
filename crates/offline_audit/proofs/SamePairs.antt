-- A history has one list of racing pairs, and these have one text.
use Rattle.std.proofs.Common.{◌≡◌, ℕ, List, ◌++◌, length, sym, ap, ◌∙◌, arith, Contains}
use Rattle.std.specs.Prelude.{◌↔◌, Option}
use Rattle.std.specs.List.{flat_map}
use Rattle.run_record.specs.declared.entry.Entry.{Entry}
use Rattle.symbol_lines.specs.FrameTexts.{FrameText}
use Rattle.report_text.specs.declared.pair.Pair.{Pair}
use Rattle.report_text.specs.Texts.{pair_bytes}
use Rattle.report_text.proofs.RisingLists.{same_rising}
use Rattle.offline_audit.specs.Pairs.{IsLower, IsRacingPair, AreRisingPairs}
use Rattle.offline_audit.specs.Texts.{count_line, IsPairText}

lower_turn : (a b : Pair) → IsLower a b → IsLower b a → ⊥
lower_turn a b l m = grind arith

same_pairs : (Race : ℕ → ℕ → Type 0) (ps qs : List Pair) → AreRisingPairs ps → AreRisingPairs qs
    → ((p q : ℕ) → Contains ps (record { low = p; high = q }) ↔ Race p q)
    → ((p q : ℕ) → Contains qs (record { low = p; high = q }) ↔ Race p q) → ps ≡ qs
same_pairs Race ps qs s t all each =
    same_rising IsLower lower_turn ps qs s t
    (λ z c. (each z.low z.high).1 ((all z.low z.high).0 c)) (λ z c. (all z.low z.high).1 ((each z.low z.high).0 c))

pub same_text : (granule_of : ℕ → Option ℕ) (frame_of : ℕ → FrameText) (entries : List Entry) (m n : ℕ) (text other : List ℕ)
    → IsPairText granule_of frame_of entries m text → IsPairText granule_of frame_of entries n other → (m ≡ n) × (text ≡ other)
same_text granule_of frame_of entries m n text other a b =
    let pairs : a.pairs ≡ b.pairs = same_pairs (IsRacingPair granule_of entries) a.pairs b.pairs a.rising b.rising a.exact b.exact in (
      a.count_is ∙ (ap length pairs ∙ sym b.count_is),
      a.text_is ∙ (ap (λ (ps : List Pair). flat_map (pair_bytes frame_of) ps ++ count_line (length ps)) pairs ∙ sym b.text_is),
    )
