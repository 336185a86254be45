-- A history goes on by one round.
use Rattle.std.proofs.Common.{◌≡◌, ℕ, ◌-◌, ◌<◌, ◌≤◌, Bool, Option, List, [], ◌++◌, length, length-append, refl, ap, ◌∙◌, arith}
use Rattle.std.specs.Prelude.{All}
use Rattle.std.specs.List.{AllZip}
use Rattle.std.proofs.Math.ListN.{get_or-append}
use Rattle.std.proofs.Math.Seq.{get_or-append_right}
use Rattle.std.proofs.lemmas.List.Elements.{All-replicate}
use Rattle.run_record.specs.declared.entry.Entry.{Entry}
use Rattle.run_record.specs.declared.limits.Limits.{Limits}
use Rattle.run_record.specs.declared.report.Report.{Report}
use Rattle.run_laws.specs.Moments.{Past, NewEra, Moment, moment_at, items, moments, moments_in, era_moments, last_era}
use Rattle.run_laws.specs.Labels.{Labels, labels}
use Rattle.run_laws.specs.Present.{labels_now}
use Rattle.run_laws.specs.Reports.{Finds}
use Rattle.run_laws.proofs.PresentLaw.{labels_stay}
use Rattle.report_laws.specs.Sound.{IsSound, TellsAddresses}
use Rattle.report_laws.specs.Awaited.{Awaited, Collects, HasOwner, IsRestorable, IsToldBy}
use Rattle.report_laws.proofs.GrownLaw.{found_stay, last_round}
use Rattle.report_laws.proofs.CandidateSteps.{quiet_finds}
use Rattle.report_laws.proofs.AwaitedLaw.{owners, all_restorable, found_after}
use Rattle.report_laws.proofs.CollectedLaw.{collected}

-- the beginnings of eras have no checks
no_checks_between : (round era : ℕ) (entries : List Entry) (rest : List Moment) (k : ℕ) → length (moments entries) ≤ k → k < length (moments_in round era entries) → (moment_at (moments_in round era entries ++ rest) k).checks ≡ []
no_checks_between round era entries rest k l m =
    let past : Moment = record { entry = 0; round = 0; item = Past; checks = [] } in
    let eras = era_moments (last_era entries) (length entries) round era in
    let long = length-append (moments entries) eras in
    ap (λ (x : Moment). x.checks) (get_or-append (moments_in round era entries) rest past k m ∙ get_or-append_right (moments entries) eras k past l)
    ∙ All-replicate (λ (x : Moment). x.checks ≡ []) (era - last_era entries) (record { entry = length entries; round = round; item = NewEra; checks = [] }) refl (k - length (moments entries)) past (omega arith)

module _ (limits : Limits) (granule_of : ℕ → Option ℕ) (needs_slot : ℕ → Bool) (entries last : List Entry) (round era : ℕ) (rest : List Moment) (sound : IsSound limits granule_of needs_slot (entries ++ last)) (cut : moments (entries ++ last) ≡ moments_in round era entries ++ rest) where
  abbrev h : List Moment
  h = moments (entries ++ last)

  abbrev from : ℕ
  from = length (moments_in round era entries)

  within : from ≤ length h
  within = omega (arith, ap length cut, length-append (moments_in round era entries) rest)

  pub round_owners : (labels_now limits.epochs (moments_in round era entries)).era ≡ (labels_now limits.epochs h).era → (waiting : List Awaited) → Collects limits.epochs h from (length h) waiting → All (HasOwner limits.epochs h) waiting
  round_owners same waiting c =
      let start : labels limits.epochs (items h) from ≡ labels_now limits.epochs (moments_in round era entries) =
      ap (λ (x : List Moment). labels limits.epochs (items x) from) cut ∙ labels_stay limits.epochs (moments_in round era entries) rest from (omega arith)
      in
      owners limits granule_of needs_slot (entries ++ last) sound from (length h) waiting
      (collected limits granule_of needs_slot (entries ++ last) sound from (length h) waiting c) (omega arith) (ap (λ (x : Labels). x.era) start ∙ same)

  pub round_restorable : (address_of : ℕ → ℕ) → TellsAddresses granule_of address_of → (waiting : List Awaited) → Collects limits.epochs h from (length h) waiting → All (IsRestorable limits granule_of address_of h) waiting
  round_restorable address_of addresses waiting c =
      all_restorable limits granule_of address_of needs_slot (entries ++ last) sound addresses from (length h) waiting (collected limits granule_of needs_slot (entries ++ last) sound from (length h) waiting c)

  pub round_found :
      (address_of : ℕ → ℕ) → TellsAddresses granule_of address_of → All (λ (e : Entry). e.round < round) entries → All (λ (e : Entry). e.round ≡ round) last → (found : List Report) → Finds limits address_of (moments entries) (length (moments entries)) found →
      (waiting : List Awaited) → Collects limits.epochs h from (length h) waiting → (told : List Report) → AllZip (IsToldBy limits address_of h) waiting told → Finds limits address_of h (length h) (found ++ told)
  round_found address_of addresses before now found f waiting c told zip =
      let eras = era_moments (last_era entries) (length entries) round era in
      let begins : length (moments entries) ≤ from = omega (arith, length-append (moments entries) eras) in
      let old = found_stay limits address_of entries last (λ i d l j e m. let x = now i d l in let y = before j e m in omega arith) (length (moments entries)) found (omega arith) f in
      let start = quiet_finds limits address_of h (length (moments entries)) from found old begins (λ k l m. ap (λ (x : List Moment). (moment_at x k).checks) cut ∙ no_checks_between round era entries rest k l m) in
      found_after limits granule_of address_of needs_slot (entries ++ last) sound addresses from (length h) found start
      (λ k l m. last_round entries last round (λ i d y. let z = before i d y in omega arith) now k (omega arith) m)
      waiting told (collected limits granule_of needs_slot (entries ++ last) sound from (length h) waiting c) zip
