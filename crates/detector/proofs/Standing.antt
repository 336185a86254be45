-- The shadow after a moment without checks.
use Rattle.std.proofs.Common.{◌≡◌, ℕ, List, [], ◌∷◌, ◌++◌, refl, sym, ◌∙◌}
use Rattle.std.specs.Prelude.{fold}
use Rattle.run_record.specs.declared.entry.Check.{Check}
use Rattle.run_laws.specs.Moments.{Moment}
use Rattle.run_laws.specs.Loads.{cell_after}
use Rattle.run_laws.specs.Present.{cell_now}
use Rattle.run_laws.proofs.PresentLaw.{cell_now-push}
use Rattle.detector.specs.Stands.{IsShadow}

cell_stays : (h : List Moment) (m : Moment) (granule cell : ℕ) → m.checks ≡ [] → cell_now (h ++ m ∷ []) granule cell ≡ cell_now h granule cell
cell_stays h m granule cell none = cell_now-push h m granule cell ∙ go m.checks none
  where
    go : (cs : List Check) → cs ≡ [] → fold (cell_after granule cell) (cell_now h granule cell) (cs ++ []) ≡ cell_now h granule cell
    go [] e = refl
    go (c ∷ cs) e = cc

pub shadow_stays : (granules slots : ℕ) (h : List Moment) (m : Moment) (shadow : List ℕ) → m.checks ≡ [] → IsShadow granules slots h shadow → IsShadow granules slots (h ++ m ∷ []) shadow
shadow_stays granules slots h m shadow none s = record {
  whole = s.whole;
  last = λ granule cell a b. s.last granule cell a b ∙ sym (cell_stays h m granule cell none);
  within = s.within;
}
