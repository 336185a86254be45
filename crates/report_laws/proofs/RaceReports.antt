-- Each report stands for a race.
use Rattle.std.proofs.Common.{◌≡◌, ℕ, ◌+◌, ◌*◌, if◌then◌else◌, Bool, true, false, ◌⊎◌, Option, Some, List, [], ◌∷◌, ◌++◌, length, refl, sym, subst, inl, inr, arith}
use Rattle.std.specs.Prelude.{All, fold}
use Rattle.std.specs.List.{list_any}
use Rattle.std.proofs.lemmas.List.Elements.{All-nil, All-cons, All-append, All-head, All-tail}
use Rattle.run_record.specs.declared.event.Event.TheVariants as events
use Rattle.run_record.specs.declared.entry.Entry.{Entry}
use Rattle.run_record.specs.declared.entry.Check.{Check}
use Rattle.run_record.specs.declared.limits.Limits.{Limits}
use Rattle.run_record.specs.declared.report.Report.{Report}
use Rattle.run_record.specs.declared.report.Side.{Side}
use Rattle.run_laws.specs.Moments.{moments, RoundsNeverFall}
use Rattle.run_laws.specs.Candidates.{IsCandidate}
use Rattle.run_laws.specs.Reports.{IsReport, Finds, Start, Quiet, Race, is_equal, Kept, kept_after, AreReports}
use Rattle.run_laws.proofs.ReportLaw.{conflicts}
use Rattle.run_laws.proofs.UnorderedLaw.{not_earlier}
use Rattle.report_laws.specs.Sound.{IsSound, TellsAddresses}
use Rattle.report_laws.specs.Races.{StandsForRace}
use Rattle.report_laws.proofs.OwnedLabels.{first_has}

either : (b : Bool) (side whole lost : Side) → side ≡ (if b then whole else lost) → (side ≡ whole) ⊎ (side ≡ lost)
either true side whole lost e = inl e
either false side whole lost e = inr e

-- granules are apart
apart : (granule_of : ℕ → Option ℕ) (address_of : ℕ → ℕ) → TellsAddresses granule_of address_of → (b c k : ℕ) → granule_of (8 * b) ≡ Some k → granule_of (8 * c) ≡ Some k → b ≡ c
apart granule_of address_of tells b c k p q = let x = tells b k p in let y = tells c k q in omega arith

module _ (limits : Limits) (granule_of : ℕ → Option ℕ) (address_of : ℕ → ℕ) (needs_slot : ℕ → Bool) (entries : List Entry)
    (sound : IsSound limits granule_of needs_slot entries) (rise : RoundsNeverFall entries) (addresses : TellsAddresses granule_of address_of) where
  abbrev Stands : Report → Type 0
  Stands = StandsForRace limits.epochs granule_of address_of (moments entries)

  race_of : (n : ℕ) (c : Check) (w : ℕ) (report : Report) → IsCandidate limits.epochs (moments entries) n c w
      → IsReport limits address_of (moments entries) n c.granule w report → Stands report
  race_of n c w report k r =
      let m =
      conflicts limits granule_of needs_slot entries sound.few_slots sound.some_epochs sound.few_epochs (apart granule_of address_of addresses) sound.notes sound.checks sound.stores sound.loads n c w k r.first r.first_is r.tid r.other
      (events.Access r.access.place r.access.addr r.access.size r.access.read r.access.atomic) (events.Access r.other_access.place r.other_access.addr r.other_access.size r.other_access.read r.other_access.atomic) r.access r.other_access
      r.made refl r.other_made refl
      in
      record {
        position = n;
        tid = r.tid;
        access = r.access;
        made = r.made;
        mine = r.mine;
        other_position = r.first;
        other = r.other;
        other_access = r.other_access;
        other_made = r.other_made;
        granule = c.granule;
        word = w;
        other_word = (first_has (moments entries) c.granule w r.first r.first_is).0;
        previous = either _ _ _ _ r.previous;
        conflict = m.0;
        not_after = m.1;
        not_before = m.2;
        not_earlier =
            not_earlier limits granule_of needs_slot entries sound.few_slots sound.some_epochs sound.few_epochs
            sound.notes sound.checks sound.stores sound.loads n c w k r.first r.first_is rise;
      }

  pub races_of : (n : ℕ) (found : List Report) → Finds limits address_of (moments entries) n found → All Stands found
  races_of _ _ Start = All-nil Stands
  races_of _ _ (Quiet {n = n} {found = f} a none) = races_of n f a
  races_of _ _ (Race {n = n} {found = f} c w r a k told) =
      All-append Stands f (r ∷ []) (races_of n f a)
      (All-cons Stands r [] (race_of n c w r k told) (All-nil Stands))

  -- what is kept is among what is found
  kept_among : (P : Report → Type 0) (meets : Option (List ℕ) → Option (List ℕ) → Bool) (k : Kept) (found : List Report) → All P k.reports → All P found → All P (fold (kept_after meets) k found).reports
  kept_among P meets k [] a b = a
  kept_among P meets k (r ∷ found) a b = kept_among P meets (kept_after meets k r) found (step (meets r.mine.stack r.previous.stack) (list_any (is_equal r) k.reports)) (All-tail P r found b)
    where
      step : (p q : Bool) → All P (if p then record k { suppressed = k.suppressed + 1 } else if q then record k { equal = k.equal + 1 } else record k { reports = k.reports ++ r ∷ [] }).reports
      step true q = a
      step false true = a
      step false false = All-append P k.reports (r ∷ []) a (All-cons P r [] (All-head P r found b) (All-nil P))

  pub races_kept : (meets : Option (List ℕ) → Option (List ℕ) → Bool) (kept : Kept) → AreReports limits address_of meets (moments entries) kept
      → All Stands kept.reports
  races_kept meets kept are =
      subst (λ (k : Kept). All Stands k.reports) (sym are.kept_is)
      (kept_among Stands meets (record { reports = []; suppressed = 0; equal = 0 }) are.found (All-nil Stands)
      (races_of (length (moments entries)) are.found are.found_all))
