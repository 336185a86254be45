-- The reports of the candidates that await the end of their round.
use Rattle.std.proofs.Common.{◌≡◌, ℕ, suc, ◌<◌, ◌≤◌, Bool, Option, List, [], ◌∷◌, ◌++◌, length, refl, sym, ap, subst, ◌∙◌, arith}
use Rattle.std.specs.Prelude.{All}
use Rattle.std.specs.List.{AllZip}
use Rattle.std.proofs.lemmas.List.{append_assoc, append-nil}
use Rattle.std.proofs.lemmas.List.Elements.{All-nil, All-cons, All-append}
use Rattle.run_record.specs.declared.entry.Entry.{Entry}
use Rattle.run_record.specs.declared.limits.Limits.{Limits}
use Rattle.run_record.specs.declared.report.Report.{Report}
use Rattle.run_record.specs.declared.report.Side.{Side}
use Rattle.run_laws.specs.Moments.{Moment, moment_at, items, moments}
use Rattle.run_laws.specs.Labels.{labels}
use Rattle.run_laws.specs.Words.{era}
use Rattle.run_laws.specs.Window.{round_end}
use Rattle.run_laws.specs.Present.{labels_now}
use Rattle.run_laws.specs.Reports.{told_side, IsReport, Finds}
use Rattle.run_laws.specs.Reports as reports
use Rattle.run_laws.proofs.SlotInvariant.{era_mono}
use Rattle.report_laws.specs.Sound.{IsSound, TellsAddresses}
use Rattle.report_laws.specs.Awaited.{Awaited, Awaits, Start, Quiet, Race, HasOwner, IsRestorable, IsToldBy}
use Rattle.report_laws.proofs.OwnedLabels.{owner, own_era}
use Rattle.report_laws.proofs.PreviousLaw.{restorable, report_told}

awaits-le : (g : ℕ) (h : List Moment) (from n : ℕ) (waiting : List Awaited) → Awaits g h from n waiting → from ≤ n
awaits-le g h from _ _ Start = omega arith
awaits-le g h from _ _ (Quiet {n = n} {waiting = ws} a none) = let l = awaits-le g h from n ws a in omega arith
awaits-le g h from _ _ (Race {n = n} {waiting = ws} c w t a before k made) = let l = awaits-le g h from n ws before in omega arith

module _ (limits : Limits) (granule_of : ℕ → Option ℕ) (needs_slot : ℕ → Bool) (entries : List Entry) (sound : IsSound limits granule_of needs_slot entries) where
  -- in one era each of them has an owner
  pub owners :
      (from n : ℕ) (waiting : List Awaited) → Awaits limits.epochs (moments entries) from n waiting → n ≤ length (moments entries) → (labels limits.epochs (items (moments entries)) from).era ≡ (labels_now limits.epochs (moments entries)).era →
      All (HasOwner limits.epochs (moments entries)) waiting
  owners from _ _ Start l same = All-nil (HasOwner limits.epochs (moments entries))
  owners from _ _ (Quiet {n = n} {waiting = ws} a none) l same = owners from n ws a (omega arith) same
  owners from _ _ (Race {n = n} {waiting = ws} c w t a before k made) l same =
      let o = owner limits granule_of needs_slot entries sound n c w k in
      let low = era_mono limits.epochs (items (moments entries)) from n (awaits-le limits.epochs (moments entries) from n ws before) in
      let high = era_mono limits.epochs (items (moments entries)) n (length (moments entries)) (omega arith) in
      let own = own_era limits granule_of needs_slot entries sound n c w k in
      let now : era w ≡ (labels_now limits.epochs (moments entries)).era = omega arith in
      let one : Awaited = record { mine = told_side (moments entries) n t a; granule = c.granule; word = w } in
      All-append (HasOwner limits.epochs (moments entries)) ws (one ∷ []) (owners from n ws before (omega arith) same)
      (All-cons (HasOwner limits.epochs (moments entries)) one [] (record { tid = o.0; label_of = o.1; present = now }) (All-nil (HasOwner limits.epochs (moments entries))))

-- the last of a list goes with the last of the other
record Lasts (R : Awaited → Report → Type 0) (xs : List Awaited) (x : Awaited) (ys : List Report) : Type 0 where
  before : List Report
  last : Report
  whole : ys ≡ before ++ last ∷ []
  zip : AllZip R xs before
  goes : R x last

lasts : (R : Awaited → Report → Type 0) (xs : List Awaited) (x : Awaited) (ys : List Report) → AllZip R (xs ++ x ∷ []) ys → Lasts R xs x ys
lasts R [] x [] z = absurd z
lasts R [] x (y ∷ []) z = record { before = []; last = y; whole = refl; zip = tt; goes = z.0 }
lasts R [] x (y ∷ (v ∷ vs)) z = absurd z.1
lasts R (w ∷ ws) x [] z = absurd z
lasts R (w ∷ ws) x (y ∷ ys) z =
    let r = lasts R ws x ys z.1 in
    record { before = y ∷ r.before; last = r.last; whole = ap (λ (vs : List Report). y ∷ vs) r.whole; zip = (z.0, r.zip); goes = r.goes }

none_zip : (R : Awaited → Report → Type 0) (ys : List Report) → AllZip R [] ys → [] ≡ ys
none_zip R [] z = refl
none_zip R (y ∷ ys) z = absurd z

same_report : (r : Report) (mine previous : Side) → r.mine ≡ mine → r.previous ≡ previous → record { mine = mine; previous = previous } ≡ r
same_report r mine previous a b = let e : ◌≡◌ {A = Report} (record { mine = mine; previous = previous }) (record { mine = r.mine; previous = r.previous }) = rw (a, b) refl in e

module _ (limits : Limits) (granule_of : ℕ → Option ℕ) (address_of : ℕ → ℕ) (needs_slot : ℕ → Bool) (entries : List Entry) (sound : IsSound limits granule_of needs_slot entries) (addresses : TellsAddresses granule_of address_of) where
  -- each can be sought in a trace
  pub all_restorable : (from n : ℕ) (waiting : List Awaited) → Awaits limits.epochs (moments entries) from n waiting → All (IsRestorable limits granule_of address_of (moments entries)) waiting
  all_restorable from _ _ Start = All-nil (IsRestorable limits granule_of address_of (moments entries))
  all_restorable from _ _ (Quiet {n = n} {waiting = ws} a none) = all_restorable from n ws a
  all_restorable from _ _ (Race {n = n} {waiting = ws} c w t a before k made) =
      let P = IsRestorable limits granule_of address_of (moments entries) in
      let one : Awaited = record { mine = told_side (moments entries) n t a; granule = c.granule; word = w } in
      All-append P ws (one ∷ []) (all_restorable from n ws before) (All-cons P one [] (restorable limits granule_of address_of needs_slot entries sound addresses n c w k (told_side (moments entries) n t a)) (All-nil P))

  pub found_after :
      (from n : ℕ) (found : List Report) → Finds limits address_of (moments entries) from found →
      ((k : ℕ) → from ≤ k → k < n → round_end (moments entries) (moment_at (moments entries) k).round ≡ length (moments entries)) →
      (waiting : List Awaited) (told : List Report) → Awaits limits.epochs (moments entries) from n waiting → AllZip (IsToldBy limits address_of (moments entries)) waiting told → Finds limits address_of (moments entries) n (found ++ told)
  found_after from _ found f ends _ told Start z =
      subst (λ (rs : List Report). Finds limits address_of (moments entries) from (found ++ rs)) (none_zip (IsToldBy limits address_of (moments entries)) told z) (subst (Finds limits address_of (moments entries) from) (sym (append-nil found)) f)
  found_after from _ found f ends _ told (Quiet {n = n} {waiting = ws} a none) z = reports.Quiet (found_after from n found f (λ k x y. ends k x (omega arith)) ws told a z) none
  found_after from _ found f ends _ told (Race {n = n} {waiting = ws} c w t a before k made) z =
      let one : Awaited = record { mine = told_side (moments entries) n t a; granule = c.granule; word = w } in
      let r = lasts (IsToldBy limits address_of (moments entries)) ws one told z in
      let earlier = found_after from n found f (λ k x y. ends k x (omega arith)) ws r.before before r.zip in
      let end = ends n (awaits-le limits.epochs (moments entries) from n ws before) (omega arith) in
      let g = r.goes in
      let report : IsReport limits address_of (moments entries) n c.granule w r.last =
      subst (IsReport limits address_of (moments entries) n c.granule w) (same_report r.last _ _ g.mine g.previous)
      (report_told limits granule_of address_of needs_slot entries sound addresses n c w k end g.tid g.label_of g.trace g.trace_of t a made)
      in
      subst (Finds limits address_of (moments entries) (suc n)) (append_assoc found r.before (r.last ∷ []) ∙ ap (λ (rs : List Report). found ++ rs) (sym r.whole)) (reports.Race c w r.last earlier k report)
