-- The two accesses of a report conflict, and neither happens before the other.
use Rattle.std.proofs.Common.{◌≡◌, ℕ, ◌*◌, ◌≤◌, Bool, true, if◌then◌else◌, Option, Some, None, List, [], ◌==◌, ◌&&◌, refl, sym, ap, ◌∙◌}
use Rattle.std.proofs.lemmas.List.Quantifiers.{position-Some}
use Rattle.run_record.specs.declared.event.Event.{Event}
use Rattle.run_record.specs.declared.event.Event.TheVariants as events
use Rattle.run_record.specs.declared.entry.Entry.{Entry}
use Rattle.run_record.specs.declared.entry.Check.{Check}
use Rattle.run_record.specs.declared.limits.Limits.{Limits}
use Rattle.run_record.specs.declared.report.Report.{Report}
use Rattle.run_laws.specs.Moments.{Does, Past, moment_at, items, moments}
use Rattle.run_laws.specs.HappensBefore.{HappensBefore}
use Rattle.run_laws.specs.DeskNotes.{AreNotes}
use Rattle.run_laws.specs.Accesses.{Access, access_of, Conflict}
use Rattle.run_laws.specs.Checks.{AreChecks, AreAllChecks, AllStoreRightly}
use Rattle.run_laws.specs.Loads.{AllLoadRightly}
use Rattle.run_laws.specs.Words.{label_in}
use Rattle.run_laws.specs.Window.{trace_before, is_held, round_end}
use Rattle.run_laws.specs.Candidates.{has_word, IsCandidate}
use Rattle.run_laws.specs.Reports.{first_with, MakesAccess, told_side, lost_side, IsReport}
use Rattle.run_laws.proofs.MomentsLaw.{checks_of_event}
use Rattle.run_laws.proofs.LabelLaw.{no_any}
use Rattle.run_laws.proofs.FindLaw.{has_own_word, loaded_from}
use Rattle.run_laws.proofs.UnorderedLaw.{unordered, some_first}
use Rattle.run_laws.proofs.ConflictLaw.{told_by, meet}

pub conflicts :
    (limits : Limits) (granule_of : ℕ → Option ℕ) (needs_slot : ℕ → Bool) (entries : List Entry) →
    limits.slots ≤ 255 → 1 ≤ limits.epochs → limits.epochs ≤ 16383 → ((b c k : ℕ) → granule_of (8 * b) ≡ Some k → granule_of (8 * c) ≡ Some k → b ≡ c) →
    AreNotes limits needs_slot (moments entries) → AreAllChecks limits.epochs granule_of entries (moments entries) → AllStoreRightly (moments entries) → AllLoadRightly limits.epochs (moments entries) →
    (a : ℕ) (c : Check) (w : ℕ) → IsCandidate limits.epochs (moments entries) a c w → (x : ℕ) → first_with (moments entries) c.granule w ≡ Some x →
    (t u : ℕ) (e f : Event) (mine other : Access) → items (moments entries) a ≡ Does t e → access_of e ≡ Some mine → items (moments entries) x ≡ Does u f → access_of f ≡ Some other →
    Conflict granule_of t mine u other × (HappensBefore (items (moments entries)) x a → ⊥) × (HappensBefore (items (moments entries)) a x → ⊥)
conflicts limits granule_of needs_slot entries few some most one notes checks stores loads a c w candidate x first t u e f mine other made is_mine other_made is_other =
    let order = unordered limits granule_of needs_slot entries few some most notes checks stores loads a c w candidate x first in
    let l = loaded_from (moment_at (moments entries) a).checks candidate.index c w candidate.loaded in
    let p = told_by limits granule_of needs_slot entries few some most notes checks a t e mine made is_mine c.granule c.word (has_own_word (moment_at (moments entries) a) c l.among) in
    let q = told_by limits granule_of needs_slot entries few some most notes checks x u f other other_made is_other c.granule w (position-Some (has_word c.granule w) (moments entries) x (record { entry = 0; round = 0; item = Past; checks = [] }) first).1 in
    let m = meet limits.epochs granule_of one mine other c.granule c.word w candidate.races.opposed p q in
    let byte = m.0 in
    (record { threads_differ = order.2 t u e f made other_made; byte = byte.0; mine = byte.1; other = byte.2; not_both_read = m.1; not_both_atomic = m.2 }, order.0, order.1)

pub is_access : (e : Event) (a : Access) → access_of e ≡ Some a → e ≡ events.Access a.place a.addr a.size a.read a.atomic
is_access (events.Access place addr size read atomic) a q =
    let r : record { place = place; addr = addr; size = size; read = read; atomic = atomic } ≡ a = cc in
    rw (sym r) refl
is_access _ a q = absurd (cc)

-- where a word stands an access is made
access_with :
    (g : ℕ) (granule_of : ℕ → Option ℕ) (entries : List Entry) → AreAllChecks g granule_of entries (moments entries) → (x granule w : ℕ) → has_word granule w (moment_at (moments entries) x) ≡ true →
    (t : ℕ) × (a : Access) × MakesAccess (moments entries) x t a
access_with g granule_of entries checks x granule w has =
    let made = checks_of_event entries x (no_any (λ (c : Check). (c.granule == granule) && (c.word == w)) (moment_at (moments entries) x).checks has) in
    from made.0 made.1 made.2 (access_of made.1) refl (checks.of_events x made.0 made.1 made.2)
  where
    from : (t : ℕ) (e : Event) → items (moments entries) x ≡ Does t e → (o : Option Access) → access_of e ≡ o → AreChecks g granule_of (moments entries) x t o → (t : ℕ) × (a : Access) × MakesAccess (moments entries) x t a
    from t e made None q none = absurd (no_any (λ (c : Check). (c.granule == granule) && (c.word == w)) (moment_at (moments entries) x).checks has none)
    from t e made (Some a) q zip = (t, a, made ∙ ap (Does t) (is_access e a q))

-- each candidate has a report
pub told :
    (limits : Limits) (granule_of : ℕ → Option ℕ) (address_of : ℕ → ℕ) (needs_slot : ℕ → Bool) (entries : List Entry) →
    limits.slots ≤ 255 → 1 ≤ limits.epochs → limits.epochs ≤ 16383 →
    AreNotes limits needs_slot (moments entries) → AreAllChecks limits.epochs granule_of entries (moments entries) → AllStoreRightly (moments entries) → AllLoadRightly limits.epochs (moments entries) →
    (a : ℕ) (c : Check) (w : ℕ) → IsCandidate limits.epochs (moments entries) a c w → (report : Report) × IsReport limits address_of (moments entries) a c.granule w report
told limits granule_of address_of needs_slot entries few some most notes checks stores loads a c w candidate =
    let l = loaded_from (moment_at (moments entries) a).checks candidate.index c w candidate.loaded in
    let first = some_first limits granule_of needs_slot entries few some most notes checks stores loads a c w candidate in
    let has = (position-Some (has_word c.granule w) (moments entries) first.0 (record { entry = 0; round = 0; item = Past; checks = [] }) first.1).1 in
    let mine = access_with limits.epochs granule_of entries checks a c.granule c.word (has_own_word (moment_at (moments entries) a) c l.among) in
    let other = access_with limits.epochs granule_of entries checks first.0 c.granule w has in
    let previous =
    if is_held limits (trace_before limits.epochs (items (moments entries)) (round_end (moments entries) (moment_at (moments entries) a).round) other.0) (label_in w)
    then told_side (moments entries) first.0 other.0 other.1
    else lost_side address_of c.granule w other.0
    in (
      record { mine = told_side (moments entries) a mine.0 mine.1; previous = previous },
      record { tid = mine.0; access = mine.1; made = mine.2; mine = refl; first = first.0; first_is = first.1; other = other.0; other_access = other.1; other_made = other.2; previous = refl },
    )
