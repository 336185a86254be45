-- The reports of a lawful history that is written out, computed.
use Rattle.std.proofs.Common.{◌≡◌, ℕ, zero, suc, ◌≤◌, if◌then◌else◌, Bool, Option, Some, None, List, [], ◌∷◌, ◌++◌, length, refl, sym, ap, subst, ◌∙◌}
use Rattle.std.specs.Prelude.{find, option_map, Contains}
use Rattle.run_record.specs.declared.event.Event.{Event}
use Rattle.run_record.specs.declared.event.Event.TheVariants as events
use Rattle.run_record.specs.declared.entry.Check.{Check}
use Rattle.run_record.specs.declared.entry.Entry.{Entry}
use Rattle.run_record.specs.declared.limits.Limits.{Limits}
use Rattle.run_record.specs.declared.report.Report.{Report}
use Rattle.run_record.specs.declared.report.Side.{Side}
use Rattle.run_laws.specs.Moments.{Item, Does, Notes, NewEra, Past, Moment, moment_at, items, moments}
use Rattle.run_laws.specs.Clocks.{clocks, taken_from}
use Rattle.run_laws.specs.DeskNotes.{AreNotes}
use Rattle.run_laws.specs.Accesses.{Access, access_of}
use Rattle.run_laws.specs.Words.{label_in}
use Rattle.run_laws.specs.Window.{trace_before, is_held, round_end}
use Rattle.run_laws.specs.Checks.{AreChecks, AreAllChecks, AllStoreRightly}
use Rattle.run_laws.specs.Loads.{AllLoadRightly}
use Rattle.run_laws.specs.Candidates.{is_race, loaded_by, IsCandidate}
use Rattle.run_laws.specs.Reports.{told_side, lost_side, first_with, IsReport, Finds, Start, Quiet, Race, Kept, kept_of, AreReports}
use Rattle.run_laws.proofs.MomentsLaw.{checks_of_event}
use Rattle.run_laws.proofs.FindLaw.{loaded_from, candidate}
use Rattle.run_laws.proofs.ReportLaw.{is_access, told}
use Rattle.run_laws.proofs.LastLoads.{not_none}

abbrev pub candidate_at : ℕ → List Moment → ℕ → Item → Option (Check × ℕ)
candidate_at g h n (Does t v) = find (λ (l : Check × ℕ). is_race ((clocks g (items h) n).thread t) l.0.word l.1) (loaded_by (moment_at h n))
candidate_at g h n (Notes t note) = None
candidate_at g h n NewEra = None
candidate_at g h n Past = None

abbrev pub access_in : Item → Option (ℕ × Access)
access_in (Does t e) = option_map (λ (a : Access). (t, a)) (access_of e)
access_in (Notes t note) = None
access_in NewEra = None
access_in Past = None

abbrev pub previous_side : Limits → (ℕ → ℕ) → List Moment → ℕ → ℕ → ℕ → ℕ → ℕ × Access → Side
previous_side limits address_of h a granule word first other =
    if is_held limits (trace_before limits.epochs (items h) (round_end h (moment_at h a).round) other.0) (label_in word)
    then told_side h first other.0 other.1
    else lost_side address_of granule word other.0

abbrev pub two_sides : Limits → (ℕ → ℕ) → List Moment → ℕ → ℕ → ℕ → ℕ → Option (ℕ × Access) → Option (ℕ × Access) → Option Report
two_sides limits address_of h a granule word first (Some mine) (Some other) = Some (record { mine = told_side h a mine.0 mine.1; previous = previous_side limits address_of h a granule word first other })
two_sides limits address_of h a granule word first None other = None
two_sides limits address_of h a granule word first (Some mine) None = None

abbrev pub report_with : Limits → (ℕ → ℕ) → List Moment → ℕ → ℕ → ℕ → Option ℕ → Option Report
report_with limits address_of h a granule word (Some first) = two_sides limits address_of h a granule word first (access_in (items h a)) (access_in (items h first))
report_with limits address_of h a granule word None = None

abbrev pub report_at : Limits → (ℕ → ℕ) → List Moment → ℕ → Check × ℕ → Option Report
report_at limits address_of h a l = report_with limits address_of h a l.0.granule l.1 (first_with h l.0.granule l.1)

abbrev pub with_report : List Report → Option Report → Option (List Report)
with_report found (Some report) = Some (found ++ report ∷ [])
with_report found None = None

abbrev pub with_found : Limits → (ℕ → ℕ) → List Moment → ℕ → Option (List Report) → Option (Check × ℕ) → Option (List Report)
with_found limits address_of h n (Some found) (Some l) = with_report found (report_at limits address_of h n l)
with_found limits address_of h n (Some found) None = Some found
with_found limits address_of h n None l = None

-- the reports of the accesses before position n
abbrev pub found_upto : Limits → (ℕ → ℕ) → List Moment → ℕ → Option (List Report)
found_upto limits address_of h zero = Some []
found_upto limits address_of h (suc n) = with_found limits address_of h n (found_upto limits address_of h n) (candidate_at limits.epochs h n (items h n))

-- what these say
report-true : (limits : Limits) (address_of : ℕ → ℕ) (h : List Moment) (a : ℕ) (l : Check × ℕ) (r : Report) → report_at limits address_of h a l ≡ Some r → IsReport limits address_of h a l.0.granule l.1 r
report-true limits address_of h a l r e = first (first_with h l.0.granule l.1) refl e
  where
    made_in : (it : Item) (m : ℕ × Access) → access_in it ≡ Some m → it ≡ Does m.0 (events.Access m.1.place m.1.addr m.1.size m.1.read m.1.atomic)
    made_in (Does t e) m q = of_event (access_of e) refl q
      where
        of_event : (o : Option Access) → access_of e ≡ o → option_map {U = ℕ × Access} (λ (a : Access). (t, a)) o ≡ Some m → Does t e ≡ Does m.0 (events.Access m.1.place m.1.addr m.1.size m.1.read m.1.atomic)
        of_event None f g = absurd (cc)
        of_event (Some a) f g =
            let z : ◌≡◌ {A = ℕ × Access} (t, a) m = cc in
            ap (Does t) (is_access e a f) ∙ ap (λ (x : ℕ × Access). Does x.0 (events.Access x.1.place x.1.addr x.1.size x.1.read x.1.atomic)) z
    made_in (Notes t note) m q = absurd (cc)
    made_in NewEra m q = absurd (cc)
    made_in Past m q = absurd (cc)

    sides : (x : ℕ) → first_with h l.0.granule l.1 ≡ Some x → (mine other : Option (ℕ × Access)) → access_in (items h a) ≡ mine → access_in (items h x) ≡ other → two_sides limits address_of h a l.0.granule l.1 x mine other ≡ Some r → IsReport limits address_of h a l.0.granule l.1 r
    sides x f (Some mine) (Some other) p q e =
        let z : record { mine = told_side h a mine.0 mine.1; previous = previous_side limits address_of h a l.0.granule l.1 x other } ≡ r = cc in
        record {
          tid = mine.0;
          access = mine.1;
          made = made_in (items h a) mine p;
          mine = ap (λ (x : Report). x.mine) (sym z);
          first = x;
          first_is = f;
          other = other.0;
          other_access = other.1;
          other_made = made_in (items h x) other q;
          previous = ap (λ (x : Report). x.previous) (sym z);
        }
    sides x f None other p q e = absurd (cc)
    sides x f (Some mine) None p q e = absurd (cc)

    first : (o : Option ℕ) → first_with h l.0.granule l.1 ≡ o → report_with limits address_of h a l.0.granule l.1 o ≡ Some r → IsReport limits address_of h a l.0.granule l.1 r
    first (Some x) f e = sides x f (access_in (items h a)) (access_in (items h x)) refl refl e
    first None f e = absurd (cc)

find_none : (p : Check × ℕ → Bool) (cs : List Check) → cs ≡ [] → find p (Rattle.run_laws.proofs.FindLaw.loaded_in cs) ≡ None
find_none p cs e = rw e refl

still_access : (t : ℕ) (e : Event) (a : Access) → access_of e ≡ Some a → taken_from t e ≡ None
still_access t e a q = subst (λ v. taken_from t v ≡ None) (sym (is_access e a q)) refl

module _ (limits : Limits) (granule_of : ℕ → Option ℕ) (needs_slot : ℕ → Bool) (entries : List Entry) (few : limits.slots ≤ 255) (some : 1 ≤ limits.epochs) (most : limits.epochs ≤ 16383) (notes : AreNotes limits needs_slot (moments entries)) (checks : AreAllChecks limits.epochs granule_of entries (moments entries)) (stores : AllStoreRightly (moments entries)) (loads : AllLoadRightly limits.epochs (moments entries)) (address_of : ℕ → ℕ) where
  abbrev h : List Moment
  h = moments entries

  abbrev g : ℕ
  g = limits.epochs

  law : (a t : ℕ) (v : Event) → items h a ≡ Does t v → taken_from t v ≡ None → (c : Check) (w : ℕ) →
      Rattle.std.specs.Prelude.◌↔◌ (find (λ (l : Check × ℕ). is_race ((clocks g (items h) a).thread t) l.0.word l.1) (loaded_by (moment_at h a)) ≡ Some (c, w)) (IsCandidate g h a c w)
  law = candidate limits granule_of needs_slot entries few some most notes checks stores loads

  quiet : (n : ℕ) → candidate_at g h n (items h n) ≡ None → (c : Check) (w : ℕ) → IsCandidate g h n c w → ⊥
  quiet n none c w k =
      let l = loaded_from (moment_at h n).checks k.index c w k.loaded in
      let made = checks_of_event entries n (not_none h n c l.among) in
      go made.0 made.1 made.2 (access_of made.1) refl (checks.of_events n made.0 made.1 made.2)
    where
      go : (t : ℕ) (e : Event) → items (moments entries) n ≡ Does t e → (o : Option Access) → access_of e ≡ o → AreChecks limits.epochs granule_of (moments entries) n t o → ⊥
      go t e made None q empty = not_none (moments entries) n c (loaded_from (moment_at (moments entries) n).checks k.index c w k.loaded).among empty
      go t e made (Some a) q zip =
          let f = (law n t e made (still_access t e a q) c w).1 k in
          let z = subst (λ it. candidate_at limits.epochs (moments entries) n it ≡ None) made none in
          let y = sym f ∙ z in
          cc

  race : (n : ℕ) (l : Check × ℕ) → candidate_at g h n (items h n) ≡ Some l → IsCandidate g h n l.0 l.1
  race n l e = go (items h n) refl e
    where
      event : (t : ℕ) (v : Event) → items (moments entries) n ≡ Does t v → (o : Option Access) → access_of v ≡ o → AreChecks limits.epochs granule_of (moments entries) n t o → candidate_at limits.epochs (moments entries) n (Does t v) ≡ Some l → IsCandidate limits.epochs (moments entries) n l.0 l.1
      event t v made None q empty e = absurd (let z = sym (find_none (λ (l : Check × ℕ). is_race ((clocks limits.epochs (items (moments entries)) n).thread t) l.0.word l.1) (moment_at (moments entries) n).checks empty) ∙ e in cc)
      event t v made (Some a) q zip e = (law n t v made (still_access t v a q) l.0 l.1).0 e

      go : (it : Item) → items (moments entries) n ≡ it → candidate_at limits.epochs (moments entries) n it ≡ Some l → IsCandidate limits.epochs (moments entries) n l.0 l.1
      go (Does t v) q e = event t v q (access_of v) refl (checks.of_events n t v q) e
      go (Notes t note) q e = absurd (cc)
      go NewEra q e = absurd (cc)
      go Past q e = absurd (cc)

  finds : (n : ℕ) (found : List Report) → found_upto limits address_of h n ≡ Some found → Finds limits address_of h n found
  finds zero found e = let z : [] ≡ found = cc in subst (Finds limits address_of h 0) z Start
  finds (suc n) found e = go (finds n) (found_upto limits address_of h n) refl (candidate_at g h n (items h n)) refl e
    where
      go : ((found : List Report) → found_upto limits address_of (moments entries) n ≡ Some found → Finds limits address_of (moments entries) n found) → (o : Option (List Report)) → found_upto limits address_of (moments entries) n ≡ o → (c : Option (Check × ℕ)) → candidate_at limits.epochs (moments entries) n (items (moments entries) n) ≡ c → with_found limits address_of (moments entries) n o c ≡ Some found → Finds limits address_of (moments entries) (suc n) found
      go rest None p c q e = absurd (cc)
      go rest (Some before) p None q e = let z : before ≡ found = cc in subst (Finds limits address_of (moments entries) (suc n)) z (Quiet (rest before p) (quiet n q))
      go rest (Some before) p (Some l) q e = one (report_at limits address_of (moments entries) n l) refl e
        where
          one : (r : Option Report) → report_at limits address_of (moments entries) n l ≡ r → with_report before r ≡ Some found → Finds limits address_of (moments entries) (suc n) found
          one None f e = absurd (cc)
          one (Some r) f e = let z : before ++ r ∷ [] ≡ found = cc in subst (Finds limits address_of (moments entries) (suc n)) z (Race l.0 l.1 r (rest before p) (race n l q) (report-true limits address_of (moments entries) n l r f))

  -- and there are reports
  some_found : (n : ℕ) → (found : List Report) × Finds limits address_of h n found
  some_found zero = ([], Start)
  some_found (suc n) = go (some_found n) (candidate_at g h n (items h n)) refl
    where
      go : (found : List Report) × Finds limits address_of (moments entries) n found → (o : Option (Check × ℕ)) → candidate_at limits.epochs (moments entries) n (items (moments entries) n) ≡ o → (found : List Report) × Finds limits address_of (moments entries) (suc n) found
      go rest None q = (rest.0, Quiet rest.1 (quiet n q))
      go rest (Some l) q =
          let t = told limits granule_of address_of needs_slot entries few some most notes checks stores loads n l.0 l.1 (race n l q) in
          (rest.0 ++ t.0 ∷ [], Race l.0 l.1 t.0 rest.1 (race n l q) t.1)

  pub some_kept : (meets : Option (List ℕ) → Option (List ℕ) → Bool) → (kept : Kept) × AreReports limits address_of meets h kept
  some_kept meets = let f = some_found (length h) in (kept_of meets f.0, record { found = f.0; found_all = f.1; kept_is = refl })

  pub reports-true : (meets : Option (List ℕ) → Option (List ℕ) → Bool) (found : List Report) → found_upto limits address_of h (length h) ≡ Some found → AreReports limits address_of meets h (kept_of meets found)
  reports-true meets found e = record { found = found; found_all = finds (length h) found e; kept_is = refl }
