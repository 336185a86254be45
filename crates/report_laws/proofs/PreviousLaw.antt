-- The trace of the thread that a candidate's label is of tells the earlier access.
use Rattle.std.proofs.Common.{◌≡◌, ℕ, ◌<◌, ◌≤◌, if◌then◌else◌, Bool, true, false, Option, Some, None, List, ◌∷◌, length, take, refl, sym, ap, subst, inl, inr, ◌∙◌, arith}
use Rattle.std.specs.Prelude.{IsSome}
use Rattle.std.specs.List.{list_any}
use Rattle.std.proofs.lemmas.Bool.{cases_Bool}
use Rattle.run_record.specs.declared.event.Event.TheVariants as events
use Rattle.run_record.specs.declared.entry.Entry.{Entry}
use Rattle.run_record.specs.declared.entry.Check.{Check}
use Rattle.run_record.specs.declared.entry.Label.{Label}
use Rattle.run_record.specs.declared.limits.Limits.{Limits}
use Rattle.run_record.specs.declared.report.KeptLock.{KeptLock}
use Rattle.run_record.specs.declared.report.Report.{Report}
use Rattle.run_record.specs.declared.report.Side.{Side}
use Rattle.run_laws.specs.Moments.{Moment, moment_at, items, moments}
use Rattle.run_laws.specs.Accesses.{Access}
use Rattle.run_laws.specs.Words.{label_in}
use Rattle.run_laws.specs.Window.{is_label, parts_of_trace, trace_before, is_held, round_end}
use Rattle.run_laws.specs.Present.{trace_now}
use Rattle.run_laws.specs.Candidates.{IsCandidate}
use Rattle.run_laws.specs.Reports.{MakesAccess, first_with, told_side, lost_side, IsReport}
use Rattle.run_laws.proofs.ReportLaw.{told}
use Rattle.trace_parts.specs.declared.restored.Restored.{Restored}
use Rattle.trace_parts.specs.declared.restored.Restored.TheVariants.{Found}
use Rattle.trace_parts.specs.Held.{HeldTrace, has_label}
use Rattle.trace_parts.specs.Sought.{Seen, restored, first_held, first_in}
use Rattle.trace_parts.proofs.FirstLaws.{first_of_all, lost_where_not_held}
use Rattle.report_laws.specs.Sound.{IsSound, TellsAddresses}
use Rattle.report_laws.specs.Owners.{IsLabelOf, IsTraceOf, previous_side}
use Rattle.report_laws.specs.Awaited.{IsRestorable}
use Rattle.report_laws.proofs.StandingLaw.{Stands, standing, stands}
use Rattle.report_laws.proofs.OnceLaw.{once}
use Rattle.report_laws.proofs.SeenLaw.{first_found}
use Rattle.report_laws.proofs.OwnedLabels.{slot, attached, one_thread, first_has, has_within, left_in, label_of_maker}

-- a trace has the labels that are held
pub has_held : (limits : Limits) (h : List Moment) (u : ℕ) (trace : HeldTrace) → IsTraceOf limits h u trace → (l : Label) → has_label trace l ≡ is_held limits (trace_now limits.epochs h u) l
has_held limits h u trace of l =
    ap (list_any (list_any (is_label l))) (of.holds.parts_held ∙ ap (λ n. take n (parts_of_trace trace.part_words (trace_now limits.epochs h u))) of.parts ∙ ap (λ n. take limits.parts (parts_of_trace n (trace_now limits.epochs h u))) of.part_words)

same_side : (t : ℕ) {r s a b : Bool} (addr size : ℕ) {p q : List ℕ} {k j : List KeptLock} → r ≡ s → a ≡ b → p ≡ q → k ≡ j →
    ◌≡◌ {A = Side} (record { tid = t; read = r; atomic = a; addr = addr; size = size; stack = Some p; locks = k }) (record { tid = t; read = s; atomic = b; addr = addr; size = size; stack = Some q; locks = j })
same_side t addr size e f s l = rw (e, f, s, l) refl

module _ (limits : Limits) (granule_of : ℕ → Option ℕ) (address_of : ℕ → ℕ) (needs_slot : ℕ → Bool) (entries : List Entry) (sound : IsSound limits granule_of needs_slot entries) (addresses : TellsAddresses granule_of address_of) (granule w x u : ℕ) (a : Access) (made : MakesAccess (moments entries) x u a) (first_is : first_with (moments entries) granule w ≡ Some x) (trace : HeldTrace) (of : IsTraceOf limits (moments entries) u trace) where
  abbrev h : List Moment
  h = moments entries

  abbrev g : ℕ
  g = limits.epochs

  abbrev found : Restored
  found = restored (first_held trace.held (label_in w) (address_of granule) w)

  abbrev told_here : Restored
  told_here = Found a.place a.addr a.size (a.place ∷ (standing g h x u).frames) (standing g h x u).locks

  stands_at : (n : ℕ) → n ≤ length h → Stands g h n u
  stands_at = stands g h u (attached limits granule_of needs_slot entries sound u)

  within : x < length h
  within = has_within h x granule w (first_has h granule w x first_is).0

  -- the first sought access of the whole trace is the one at x
  first_told : restored (first_in (trace_now g h u) (label_in w) (address_of granule) w) ≡ told_here
  first_told =
      let left = left_in limits granule_of needs_slot entries sound x u (events.Access a.place a.addr a.size a.read a.atomic) a made refl granule w (first_has h granule w x first_is).0 in
      ap (λ n. restored (first_in (trace_now g h u) (label_in w) n w)) (addresses left.block granule left.granule_is)
      ∙ ap restored (first_found g granule_of h sound.checks.of_events u stands_at granule w left.block (label_in w) left.granule_is x within (first_has h granule w x first_is).1 (events.Access a.place a.addr a.size a.read a.atomic) a made refl left.labelled left.leaves (length h) within)

  pub found_where_held : has_label trace (label_in w) ≡ true → found ≡ told_here
  found_where_held has =
      first_of_all trace (label_in w) (address_of granule) w found refl (trace_now g h u) of.holds has
      (once g h u (label_in w) (attached limits granule_of needs_slot entries sound u) (length h))
      ∙ first_told

  pub some_held : has_label trace (label_in w) ≡ true → IsSome (first_held trace.held (label_in w) (address_of granule) w)
  some_held has = go (first_held trace.held (label_in w) (address_of granule) w) (found_where_held has)
    where
      go : (o : Option Seen) → restored o ≡ told_here → IsSome o
      go None e = absurd (cc)
      go (Some s) e = refl

  pub previous : previous_side address_of granule w u found ≡ (if is_held limits (trace_now g h u) (label_in w) then told_side h x u a else lost_side address_of granule w u)
  previous = elim (cases_Bool (has_label trace (label_in w))) [
    | inl has ↦
        let left = left_in limits granule_of needs_slot entries sound x u (events.Access a.place a.addr a.size a.read a.atomic) a made refl granule w (first_has h granule w x first_is).0 in
        let s = stands_at x (omega (arith, within)) in
        let side : previous_side address_of granule w u told_here ≡ told_side h x u a = same_side u a.addr a.size left.read_is left.atomic_is (ap (λ (fs : List ℕ). a.place ∷ fs) s.frames) s.locks in
        let held : is_held limits (trace_now g h u) (label_in w) ≡ true = sym (has_held limits h u trace of (label_in w)) ∙ has in
        rw held (ap (previous_side address_of granule w u) (found_where_held has) ∙ side)
    | inr none ↦
        let held : is_held limits (trace_now g h u) (label_in w) ≡ false = sym (has_held limits h u trace of (label_in w)) ∙ none in
        rw held (ap (previous_side address_of granule w u) (lost_where_not_held trace (label_in w) (address_of granule) w found refl none))
  ]

module _ (limits : Limits) (granule_of : ℕ → Option ℕ) (address_of : ℕ → ℕ) (needs_slot : ℕ → Bool) (entries : List Entry) (sound : IsSound limits granule_of needs_slot entries) (addresses : TellsAddresses granule_of address_of) (n : ℕ) (c : Check) (w : ℕ) (candidate : IsCandidate limits.epochs (moments entries) n c w) where
  -- a report of it, whatever a trace tells
  some_report : (report : Report) × IsReport limits address_of (moments entries) n c.granule w report
  some_report = told limits granule_of address_of needs_slot entries sound.few_slots sound.some_epochs sound.few_epochs sound.notes sound.checks sound.stores sound.loads n c w candidate

  one_owner : (x u v : ℕ) (a : Access) → first_with (moments entries) c.granule w ≡ Some x → MakesAccess (moments entries) x v a → IsLabelOf limits.epochs (moments entries) u (label_in w) → v ≡ u
  one_owner x u v a first made owned =
      one_thread limits.epochs (moments entries) v u (label_in w)
      (label_of_maker limits granule_of needs_slot entries sound x v c.granule w (events.Access a.place a.addr a.size a.read a.atomic) (first_has (moments entries) c.granule w x first).0 made) owned

  pub stands_in_trace : (u : ℕ) → IsLabelOf limits.epochs (moments entries) u (label_in w) → (trace : HeldTrace) → IsTraceOf limits (moments entries) u trace → has_label trace (label_in w) ≡ true → IsSome (first_held trace.held (label_in w) (address_of c.granule) w)
  stands_in_trace u owned trace of =
      let r = some_report.1 in
      let same = one_owner r.first u r.other r.other_access r.first_is r.other_made owned in
      some_held limits granule_of address_of needs_slot entries sound addresses c.granule w r.first u r.other_access (subst (λ v. MakesAccess (moments entries) r.first v r.other_access) same r.other_made) r.first_is trace of

  -- and what else the trace is asked by
  pub restorable : (mine : Side) → IsRestorable limits granule_of address_of (moments entries) (record { mine = mine; granule = c.granule; word = w })
  restorable mine =
      let r = some_report.1 in
      let a = r.other_access in
      let left = left_in limits granule_of needs_slot entries sound r.first r.other (events.Access a.place a.addr a.size a.read a.atomic) a r.other_made refl c.granule w (first_has (moments entries) c.granule w r.first r.first_is).0 in
      record {
        block = left.block;
        granule_is = left.granule_is;
        slot = slot limits granule_of needs_slot entries sound n c w candidate;
        bytes = left.bytes;
        stands = λ u trace owned of. stands_in_trace u owned trace of;
      }

  pub report_told :
      round_end (moments entries) (moment_at (moments entries) n).round ≡ length (moments entries) →
      (u : ℕ) → IsLabelOf limits.epochs (moments entries) u (label_in w) → (trace : HeldTrace) → IsTraceOf limits (moments entries) u trace → (t : ℕ) (access : Access) → MakesAccess (moments entries) n t access →
      IsReport limits address_of (moments entries) n c.granule w (record { mine = told_side (moments entries) n t access; previous = previous_side address_of c.granule w u (restored (first_held trace.held (label_in w) (address_of c.granule) w)) })
  report_told end u owned trace of t access made =
      let r = some_report.1 in
      let same = one_owner r.first u r.other r.other_access r.first_is r.other_made owned in
      let other : MakesAccess (moments entries) r.first u r.other_access = subst (λ v. MakesAccess (moments entries) r.first v r.other_access) same r.other_made in
      record {
        tid = t;
        access = access;
        made = made;
        mine = refl;
        first = r.first;
        first_is = r.first_is;
        other = u;
        other_access = r.other_access;
        other_made = other;
        previous =
            previous limits granule_of address_of needs_slot entries sound addresses c.granule w r.first u r.other_access other r.first_is trace of
            ∙ ap (λ m. if is_held limits (trace_before limits.epochs (items (moments entries)) m u) (label_in w) then told_side (moments entries) r.first u r.other_access else lost_side address_of c.granule w u) (sym end);
      }
