-- Which accesses have a candidate.
use Rattle.std.proofs.Common.{◌≡◌, ℕ, zero, suc, ◌<◌, ◌≤◌, Bool, Option, Some, None, List, [], ◌∷◌, ◌++◌, refl, sym, subst, inl, inr, ◌∙◌, arith}
use Rattle.std.proofs.lemmas.Bool.{cases_eq}
use Rattle.run_record.specs.declared.event.Event.TheVariants as events
use Rattle.run_record.specs.declared.entry.Entry.{Entry}
use Rattle.run_record.specs.declared.entry.Check.{Check}
use Rattle.run_record.specs.declared.limits.Limits.{Limits}
use Rattle.run_record.specs.declared.report.Report.{Report}
use Rattle.run_laws.specs.Moments.{Moment, moment_at, moments}
use Rattle.run_laws.specs.Accesses.{Access}
use Rattle.run_laws.specs.Candidates.{IsCandidate}
use Rattle.run_laws.specs.Reports.{MakesAccess, told_side, Finds}
use Rattle.run_laws.specs.Reports as reports
use Rattle.run_laws.proofs.FindLaw.{candidate, loaded_from}
use Rattle.run_laws.proofs.LastLoads.{not_none}
use Rattle.report_laws.specs.Sound.{IsSound, first_race}
use Rattle.report_laws.specs.Awaited.{Awaited, Awaits, Quiet, Race}

-- without checks no candidate
pub no_checks : (g : ℕ) (h : List Moment) (n : ℕ) → (moment_at h n).checks ≡ [] → (c : Check) (w : ℕ) → IsCandidate g h n c w → ⊥
no_checks g h n none c w k = not_none h n c (loaded_from (moment_at h n).checks k.index c w k.loaded).among none

module _ (limits : Limits) (granule_of : ℕ → Option ℕ) (needs_slot : ℕ → Bool) (entries : List Entry) (sound : IsSound limits granule_of needs_slot entries) where
  pub has_candidate : (n t : ℕ) (a : Access) → MakesAccess (moments entries) n t a → (c : Check) (w : ℕ) → first_race limits.epochs (moments entries) n t ≡ Some (c, w) → IsCandidate limits.epochs (moments entries) n c w
  has_candidate n t a made c w e =
      (candidate limits granule_of needs_slot entries sound.few_slots sound.some_epochs sound.few_epochs sound.notes sound.checks sound.stores sound.loads n t (events.Access a.place a.addr a.size a.read a.atomic) made refl c w).0 e

  pub no_candidate : (n t : ℕ) (a : Access) → MakesAccess (moments entries) n t a → first_race limits.epochs (moments entries) n t ≡ None → (c : Check) (w : ℕ) → IsCandidate limits.epochs (moments entries) n c w → ⊥
  no_candidate n t a made none c w k =
      let e = (candidate limits granule_of needs_slot entries sound.few_slots sound.some_epochs sound.few_epochs sound.notes sound.checks sound.stores sound.loads n t (events.Access a.place a.addr a.size a.read a.atomic) made refl c w).1 k in
      absurd (let z = sym none ∙ e in cc)

  pub race_awaited :
      (from n t : ℕ) (waiting : List Awaited) (a : Access) → Awaits limits.epochs (moments entries) from n waiting → MakesAccess (moments entries) n t a → (c : Check) (w : ℕ) → first_race limits.epochs (moments entries) n t ≡ Some (c, w) →
      Awaits limits.epochs (moments entries) from (suc n) (waiting ++ record { mine = told_side (moments entries) n t a; granule = c.granule; word = w } ∷ [])
  race_awaited from n t waiting a before made c w e = Race c w t a before (has_candidate n t a made c w e) made

  pub none_awaited : (from n t : ℕ) (waiting : List Awaited) (a : Access) → Awaits limits.epochs (moments entries) from n waiting → MakesAccess (moments entries) n t a → first_race limits.epochs (moments entries) n t ≡ None → Awaits limits.epochs (moments entries) from (suc n) waiting
  none_awaited from n t waiting a before made none = Quiet before (no_candidate n t a made none)

-- over a stretch without checks
pub quiet_awaits : (g : ℕ) (h : List Moment) (from n m : ℕ) (waiting : List Awaited) → Awaits g h from n waiting → n ≤ m → ((k : ℕ) → n ≤ k → k < m → (moment_at h k).checks ≡ []) → Awaits g h from m waiting
quiet_awaits g h from n zero waiting a l none = let z : n ≡ zero = omega arith in subst (λ k. Awaits g h from k waiting) z a
quiet_awaits g h from n (suc m) waiting a l none = elim (cases_eq n (suc m)) [
  | inl e ↦ subst (λ k. Awaits g h from k waiting) e a
  | inr d ↦ Quiet (quiet_awaits g h from n m waiting a (omega arith) (λ k x y. none k x (omega arith))) (no_checks g h m (none m (omega arith) (omega arith)))
]

pub quiet_finds : (limits : Limits) (address_of : ℕ → ℕ) (h : List Moment) (n m : ℕ) (found : List Report) → Finds limits address_of h n found → n ≤ m → ((k : ℕ) → n ≤ k → k < m → (moment_at h k).checks ≡ []) → Finds limits address_of h m found
quiet_finds limits address_of h n zero found a l none = let z : n ≡ zero = omega arith in subst (λ k. Finds limits address_of h k found) z a
quiet_finds limits address_of h n (suc m) found a l none = elim (cases_eq n (suc m)) [
  | inl e ↦ subst (λ k. Finds limits address_of h k found) e a
  | inr d ↦ reports.Quiet (quiet_finds limits address_of h n m found a (omega arith) (λ k x y. none k x (omega arith))) (no_checks limits.epochs h m (none m (omega arith) (omega arith)))
]
