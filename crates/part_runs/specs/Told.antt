-- The reports that are told at the ends of rounds.
use Rattle.std.specs.Prelude.{ℕ, List, [], ◌∷◌, ◌++◌, length}
use Rattle.std.specs.List.{AllZip, flat_map}
use Rattle.run_record.specs.declared.entry.Entry.{Entry}
use Rattle.run_record.specs.declared.limits.Limits.{Limits}
use Rattle.run_record.specs.declared.report.Report.{Report}
use Rattle.elf_image.specs.File.{granule_address}
use Rattle.run_laws.specs.Moments.{moments}
use Rattle.report_laws.specs.Awaited.{Awaited, Collects, IsToldBy}
use Rattle.hart_parts.specs.Rounds.{PartRound}

-- The accesses of a round that await its end, and the reports that are then told of them.
pub record RoundReports : Type 0 where
  pub awaited : List Awaited
  pub told : List Report

-- These accesses await the end of a round with these entries, after those of the earlier rounds: of each a word that it loaded
-- races by its thread's clock.
abbrev pub AwaitRoundEnd : Limits → List Entry → List Entry → List Awaited → Type 0
AwaitRoundEnd limits before part awaited =
    let h = moments (before ++ part) in
    Collects limits.epochs h (length (moments before)) (length h) awaited

-- The reports of the round are told of these accesses, by what the traces of threads tell at its end.
pub record IsToldRound (file : List ℕ) (limits : Limits) (before part : List Entry) (x : RoundReports) : Type 0 where
  pub awaits : AwaitRoundEnd limits before part x.awaited
  pub tells : AllZip (IsToldBy limits (granule_address file) (moments (before ++ part))) x.awaited x.told

-- so it is of each round, where these entries were made before
abbrev pub AreToldRounds : List ℕ → Limits → List Entry → List PartRound → List RoundReports → Type 0
AreToldRounds file limits before [] [] = Unit {0}
AreToldRounds file limits before (r ∷ rs) (x ∷ xs) =
    IsToldRound file limits before r.entries x × AreToldRounds file limits (before ++ r.entries) rs xs
AreToldRounds file limits before _ _ = ⊥

-- all reports, in the order in which they are told
abbrev pub all_told : List RoundReports → List Report
all_told xs = flat_map (λ (x : RoundReports). x.told) xs
