-- What threads' clocks find while a history goes on.
use Rattle.std.proofs.Common.{◌≡◌, ℕ, suc, ◌<◌, ◌≤◌, Bool, Option, Some, None, List, [], ◌∷◌, ◌++◌, length, length-append, ap, ap₂, subst, ◌∙◌, arith}
use Rattle.std.proofs.Math.Seq.{get_or-append_seam}
use Rattle.run_record.specs.declared.entry.Entry.{Entry}
use Rattle.run_record.specs.declared.entry.Check.{Check}
use Rattle.run_record.specs.declared.event.Event.TheVariants as events
use Rattle.run_record.specs.declared.limits.Limits.{Limits}
use Rattle.run_record.specs.declared.report.Side.{Side}
use Rattle.run_laws.specs.Moments.{Does, Past, Moment, moment_at, moments}
use Rattle.run_laws.specs.Accesses.{Access}
use Rattle.run_laws.specs.Clocks.{Clocks}
use Rattle.run_laws.specs.Present.{clocks_now}
use Rattle.run_laws.specs.Reports.{MakesAccess, told_side}
use Rattle.run_laws.proofs.PresentLaw.{clocks_stay}
use Rattle.report_laws.specs.Sound.{IsSound, first_race_in, first_race}
use Rattle.report_laws.specs.Awaited.{Awaited, Awaits, Start, Quiet, Race, Collects, Begin, Unchecked, Ordered, Unordered}
use Rattle.report_laws.proofs.AgreeLaw.{moments-append}
use Rattle.report_laws.proofs.GrownLaw.{told_stays, makes_stays}
use Rattle.report_laws.proofs.CandidateSteps.{no_checks, has_candidate, no_candidate}

race_stays : (g : ℕ) (h later : List Moment) (n t : ℕ) → n < length h → first_race g (h ++ later) n t ≡ first_race g h n t
race_stays g h later n t l = ap₂ (λ (k : Clocks) (m : Moment). first_race_in (k.thread t) m.checks) (clocks_stay g h later n (omega arith)) (moments-append h later n l)

pub collects_stay : (g : ℕ) (h later : List Moment) (from n : ℕ) (waiting : List Awaited) → n ≤ length h → Collects g h from n waiting → Collects g (h ++ later) from n waiting
collects_stay g h later from _ _ l Begin = Begin
collects_stay g h later from _ _ l (Unchecked {n = n} {waiting = ws} a none) = Unchecked (collects_stay g h later from n ws (omega arith) a) (ap (λ (m : Moment). m.checks) (moments-append h later n (omega arith)) ∙ none)
collects_stay g h later from _ _ l (Ordered {n = n} {waiting = ws} t a before made none) = Ordered t a (collects_stay g h later from n ws (omega arith) before) (makes_stays h later n t a (omega arith) made) (race_stays g h later n t (omega arith) ∙ none)
collects_stay g h later from _ _ l (Unordered {n = n} {waiting = ws} c w t a before made some) =
    subst (λ (s : Side). Collects g (h ++ later) from (suc n) (ws ++ record { mine = s; granule = c.granule; word = w } ∷ [])) (told_stays h later n t a (omega arith))
    (Unordered c w t a (collects_stay g h later from n ws (omega arith) before) (makes_stays h later n t a (omega arith) made) (race_stays g h later n t (omega arith) ∙ some))

module _ (g : ℕ) (h : List Moment) (from : ℕ) (waiting : List Awaited) (m : Moment) (so_far : Collects g h from (length h) waiting) where
  long : suc (length h) ≡ length (h ++ m ∷ [])
  long = omega (arith, length-append h (m ∷ []))

  seam : moment_at (h ++ m ∷ []) (length h) ≡ m
  seam = get_or-append_seam h m [] (record { entry = 0; round = 0; item = Past; checks = [] })

  before : Collects g (h ++ m ∷ []) from (length h) waiting
  before = collects_stay g h (m ∷ []) from (length h) waiting (omega arith) so_far

  here : (t : ℕ) → first_race g (h ++ m ∷ []) (length h) t ≡ first_race_in ((clocks_now g h).thread t) m.checks
  here t = ap₂ (λ (k : Clocks) (m : Moment). first_race_in (k.thread t) m.checks) (clocks_stay g h (m ∷ []) (length h) (omega arith)) seam

  pub push_unchecked : m.checks ≡ [] → Collects g (h ++ m ∷ []) from (length (h ++ m ∷ [])) waiting
  push_unchecked none = subst (λ k. Collects g (h ++ m ∷ []) from k waiting) long (Unchecked before (ap (λ (m : Moment). m.checks) seam ∙ none))

  module _ (t : ℕ) (a : Access) (made : m.item ≡ Does t (events.Access a.place a.addr a.size a.read a.atomic)) where
    makes : MakesAccess (h ++ m ∷ []) (length h) t a
    makes = ap (λ (m : Moment). m.item) seam ∙ made

    pub push_ordered : first_race_in ((clocks_now g h).thread t) m.checks ≡ None → Collects g (h ++ m ∷ []) from (length (h ++ m ∷ [])) waiting
    push_ordered none = subst (λ k. Collects g (h ++ m ∷ []) from k waiting) long (Ordered t a before makes (here t ∙ none))

    pub push_unordered : (c : Check) (w : ℕ) → first_race_in ((clocks_now g h).thread t) m.checks ≡ Some (c, w) → Collects g (h ++ m ∷ []) from (length (h ++ m ∷ [])) (waiting ++ record { mine = told_side h (length h) t a; granule = c.granule; word = w } ∷ [])
    push_unordered c w some =
        subst (λ k. Collects g (h ++ m ∷ []) from k (waiting ++ record { mine = told_side h (length h) t a; granule = c.granule; word = w } ∷ [])) long
        (subst (λ (s : Side). Collects g (h ++ m ∷ []) from (suc (length h)) (waiting ++ record { mine = s; granule = c.granule; word = w } ∷ [])) (told_stays h (m ∷ []) (length h) t a (omega arith))
        (Unordered c w t a before makes (here t ∙ some)))

-- what the clocks found are the candidates
pub collected : (limits : Limits) (granule_of : ℕ → Option ℕ) (needs_slot : ℕ → Bool) (entries : List Entry) → IsSound limits granule_of needs_slot entries → (from n : ℕ) (waiting : List Awaited) → Collects limits.epochs (moments entries) from n waiting → Awaits limits.epochs (moments entries) from n waiting
collected limits granule_of needs_slot entries sound from _ _ Begin = Start
collected limits granule_of needs_slot entries sound from _ _ (Unchecked {n = n} {waiting = ws} a none) = Quiet (collected limits granule_of needs_slot entries sound from n ws a) (no_checks limits.epochs (moments entries) n none)
collected limits granule_of needs_slot entries sound from _ _ (Ordered {n = n} {waiting = ws} t a before made none) = Quiet (collected limits granule_of needs_slot entries sound from n ws before) (no_candidate limits granule_of needs_slot entries sound n t a made none)
collected limits granule_of needs_slot entries sound from _ _ (Unordered {n = n} {waiting = ws} c w t a before made some) = Race c w t a (collected limits granule_of needs_slot entries sound from n ws before) (has_candidate limits granule_of needs_slot entries sound n t a made c w some) made
