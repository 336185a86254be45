-- From one round of a run to the next.
use Rattle.std.proofs.Common.{◌≡◌, ℕ, suc, ◌+◌, ◌*◌, ◌<◌, ◌≤◌, Bool, Ok, Option, None, List, [], ◌∷◌, ◌++◌, length, length-append, refl, ap, sym, subst, ◌∙◌, arith}
use Rattle.std.specs.Prelude.{map, fold, All}
use Rattle.std.specs.List.{AllZip}
use Rattle.std.proofs.lemmas.List.{append-nil}
use Rattle.std.proofs.lemmas.List.Elements.{All-nil, All-head, All-tail}
use Rattle.std.proofs.lemmas.List.Sums.{fold-append}
use Rattle.run_record.specs.declared.event.Event.{Event}
use Rattle.run_record.specs.declared.entry.Entry.{Entry}
use Rattle.run_record.specs.declared.limits.Limits.{Limits}
use Rattle.run_record.specs.declared.report.Report.{Report}
use Rattle.elf_image.specs.File.{image_of, granule_of, granules_of, granule_address}
use Rattle.elf_image.proofs.MemoryLaws.{granule_address-of}
use Rattle.run_laws.specs.Moments.{Does, Moment, items, moments, moments_in, last_era, era_moments}
use Rattle.run_laws.specs.Faithful.{needs_slot}
use Rattle.run_laws.specs.Present.{labels_now, frames_now}
use Rattle.run_laws.specs.Reports.{Kept, Start, kept_after, told_side}
use Rattle.run_laws.proofs.MomentsLaw.{era_after}
use Rattle.run_laws.proofs.LastLoads.{last_loads}
use Rattle.run_laws.proofs.PresentLaw.{frames_now-push}
use Rattle.turn_laws.specs.Going.{era_moment}
use Rattle.turn_laws.proofs.AlikeLaw.{alike-rounds, frames-alike, one_more_era}
use Rattle.turn_laws.proofs.Shape.{quiet_news}
use Rattle.report_laws.specs.Sound.{IsSound, TellsAddresses}
use Rattle.report_laws.specs.Awaited.{Awaited, Collects, Begin, Unchecked, Ordered, Unordered, HasOwner, IsRestorable, IsToldBy}
use Rattle.report_laws.proofs.NextRound.{round_owners, round_restorable, round_found}
use Rattle.report_text.specs.Offers.{offers}
use Rattle.machine_laws.specs.Machine.{bare_of}
use Rattle.machine_laws.proofs.DeskLaw.{reset_after}
use Rattle.machine_laws.specs.Threads.{threads_in}
use Rattle.race_core.specs.declared.watcher.Candidate.{Candidate}
use Rattle.race_core.specs.History.{era_now}
use Rattle.detector.specs.Detected.{Detected, after_era}
use Rattle.detector.specs.Stands.{Stands, awaited}
use Rattle.detector.specs.Told.{CanTellAll, TellsAll}
use Rattle.detector.proofs.NoteLaws.{stands_era}
use Rattle.detector.proofs.ToldLaws.{dropped}
use Rattle.thread_turns.specs.declared.watched.WatchedMachine.{WatchedMachine}
use Rattle.thread_turns.specs.Follows.{Follows, moments_by}
use Rattle.whole_runs.specs.Told.{Told}
use Rattle.step_engine.specs.Rounds.{IsBetween, IsAtEnd}
use Rattle.step_engine.proofs.AlikeStands.{stands_alike}
use Rattle.step_engine.proofs.RoundMoments.{rest, cut, rest_in_era, no_era_since, era_kept}

-- ---- what waits

collected_few : (g : ℕ) (h : List Moment) (from n : ℕ) (ws : List Awaited) → Collects g h from n ws → length ws + from ≤ n
collected_few g h from _ _ Begin = omega arith
collected_few g h from _ _ (Unchecked {n = n} {waiting = ws} a none) = let l = collected_few g h from n ws a in omega arith
collected_few g h from _ _ (Ordered {n = n} {waiting = ws} t a before made none) = let l = collected_few g h from n ws before in omega arith
collected_few g h from _ _ (Unordered {n = n} {waiting = ws} c w t a before made some) =
    let one : Awaited = record { mine = told_side h n t a; granule = c.granule; word = w } in
    let l = collected_few g h from n ws before in
    omega (arith, length-append ws (one ∷ []))

-- where no event is made nothing is collected
collected_none : (g : ℕ) (h : List Moment) (from n : ℕ) (ws : List Awaited) → ((i t : ℕ) (e : Event) → items h i ≡ Does t e → ⊥) → Collects g h from n ws → length ws ≡ 0
collected_none g h from _ _ none Begin = refl
collected_none g h from _ _ none (Unchecked {n = n} {waiting = ws} a u) = collected_none g h from n ws none a
collected_none g h from _ _ none (Ordered {n = n} {waiting = ws} t a before made o) = collected_none g h from n ws none before
collected_none g h from _ _ none (Unordered {n = n} {waiting = ws} c w t a before made some) = absurd (none n t _ made)

as_many_wait : (cs : List Candidate) → length (map awaited cs) ≡ length cs
as_many_wait [] = refl
as_many_wait (c ∷ cs) = ap suc (as_many_wait cs)

is_nil : {X : Type 0} (xs : List X) → length xs ≡ 0 → xs ≡ []
is_nil [] l = refl
is_nil (x ∷ xs) l = absurd (omega arith)

-- what waits are at most as many as the positions since then
pub few_wait : (granules : ℕ) (limits : Limits) (from : ℕ) (leaving : Option ℕ) (h : List Moment) (d : Detected) → Stands granules limits from leaving h d → length d.waiting + from ≤ length h
few_wait granules limits from leaving h d s =
    let l = collected_few limits.epochs h from (length h) (map awaited d.waiting) s.waiting in
    omega (arith, as_many_wait d.waiting)

-- where nothing waits, what waits begins anew at the end
waits_anew : (granules : ℕ) (limits : Limits) (from : ℕ) (leaving : Option ℕ) (h : List Moment) (d : Detected) → Stands granules limits from leaving h d → d.waiting ≡ [] → Stands granules limits (length h) leaving h d
waits_anew granules limits from leaving h d s none =
    subst (Stands granules limits (length h) leaving h) (ap (λ (ws : List Candidate). record d { waiting = ws }) (sym none)) (dropped granules limits from leaving h d s)

-- ---- the start, and a round's beginning

-- the start of a run
pub at_start : (file : List ℕ) (limits : Limits) (w : WatchedMachine) → Follows file limits 0 0 [] w → IsBetween file limits 0 [] w
at_start file limits w f =
    let h = moments_by 0 [] w in
    let none = is_nil w.detector.waiting (sym (as_many_wait w.detector.waiting) ∙ collected_none limits.epochs h 0 (length h) (map awaited w.detector.waiting) (λ i t e. (quiet_news [] 0 0 0 w.detector.era i (omega arith)).no_event t e) f.stands.waiting) in
    record {
      follows = record {
        limits_are = f.limits_are;
        machine = f.machine;
        memory = f.memory;
        harts = f.harts;
        agrees = f.agrees;
        depths = f.depths;
        lawful = f.lawful;
        stands = waits_anew (granules_of file) limits 0 None h w.detector f.stands none;
        eras = f.eras;
        rounds = f.rounds;
      };
      before = All-nil (λ (e : Entry). e.round < 0);
    }

-- before it nothing was told
pub told_nothing : (meets : Option (List ℕ) → Option (List ℕ) → Bool) (file : List ℕ) (limits : Limits) → Told meets file limits [] (record { reports = []; suppressed = 0; equal = 0 })
told_nothing meets file limits = record { found = []; finds = Start; kept = refl; counted = omega arith }

-- a round begins: so far it has no entries
pub at_begin : (file : List ℕ) (limits : Limits) (round : ℕ) (entries : List Entry) (w : WatchedMachine) → IsBetween file limits round entries w → IsAtEnd file limits round entries [] w w
at_begin file limits round entries w b = record {
  follows = subst (λ (es : List Entry). Follows file limits (length (moments_by round entries w)) round es w) (sym (append-nil entries)) b.follows;
  before = b.before;
  now = All-nil (λ (e : Entry). (e.round ≡ round) × (e.era ≡ w.detector.era));
  era = refl;
}

-- with those that wait, at most as many reports were offered as there are moments
pub few_offers : (meets : Option (List ℕ) → Option (List ℕ) → Bool) (file : List ℕ) (limits : Limits) (round : ℕ) (entries part : List Entry) (old w : WatchedMachine) (reporter : Kept) → Told meets file limits entries reporter → IsAtEnd file limits round entries part old w → offers reporter + length w.detector.waiting ≤ length (moments_by round (entries ++ part) w)
few_offers meets file limits round entries part old w reporter told e =
    let l = few_wait (granules_of file) limits (length (moments_by round entries old)) None (moments_by round (entries ++ part) w) w.detector e.follows.stands in
    let m = told.counted in
    let n = length-append (moments entries) (era_moments (last_era entries) (length entries) round old.detector.era) in
    omega arith

-- ---- a round without entries

-- in a round without entries nothing waits
none_waits : (file : List ℕ) (limits : Limits) (round : ℕ) (entries : List Entry) (old w : WatchedMachine) → IsAtEnd file limits round entries [] old w → w.detector.waiting ≡ []
none_waits file limits round entries old w e =
    let l = few_wait (granules_of file) limits (length (moments_by round entries old)) None (moments_by round (entries ++ []) w) w.detector e.follows.stands in
    let same : length (moments_by round (entries ++ []) w) ≡ length (moments_by round entries old) = ap (λ (es : List Entry). length (moments_in round w.detector.era es)) (append-nil entries) ∙ ap (λ (r : ℕ). length (moments_in round r entries)) e.era in
    is_nil w.detector.waiting (omega arith)

-- ---- a round with entries

module _ (file : List ℕ) (limits : Limits) (round : ℕ) (entries : List Entry) (x : Entry) (es : List Entry) (old w : WatchedMachine) (accepted : image_of file ≡ Ok file) (e : IsAtEnd file limits round entries (x ∷ es) old w) where
  abbrev h : List Moment
  h = moments (entries ++ x ∷ es)

  abbrev from : ℕ
  from = length (moments_in round old.detector.era entries)

  abbrev needs : ℕ → Bool
  needs = needs_slot (bare_of file limits.harts) (entries ++ x ∷ es)

  whole : moments_by round (entries ++ x ∷ es) w ≡ h
  whole = ap (λ (r : ℕ). moments_in round r (entries ++ x ∷ es)) e.era ∙ no_era_since round old.detector.era entries x es e.now round

  stands : Stands (granules_of file) limits from None h w.detector
  stands = subst (λ (m : List Moment). Stands (granules_of file) limits from None m w.detector) whole e.follows.stands

  sound : IsSound limits (granule_of file) needs (entries ++ x ∷ es)
  sound = record {
    few_slots = e.follows.limits_are.few_slots;
    some_epochs = (let l = e.follows.limits_are.some_epochs in omega arith);
    few_epochs = e.follows.limits_are.few_epochs;
    notes = e.follows.lawful.notes;
    checks = e.follows.lawful.checks;
    stores = e.follows.lawful.stores;
    loads = last_loads limits.epochs (granule_of file) (entries ++ x ∷ es) e.follows.lawful.checks e.follows.lawful.stores e.follows.lawful.rounds e.follows.lawful.loads;
  }

  addresses : TellsAddresses (granule_of file) (granule_address file)
  addresses b g q = let y = granule_address-of file (8 * b) g accepted q in omega arith

  cut_here : h ≡ moments_in round old.detector.era entries ++ rest round old.detector.era entries x es e.now
  cut_here = cut round old.detector.era entries x es e.now

  one_era : (labels_now limits.epochs (moments_in round old.detector.era entries)).era ≡ (labels_now limits.epochs h).era
  one_era = sym (ap (era_now limits.epochs) cut_here ∙ era_kept limits.epochs (moments_in round old.detector.era entries) (rest round old.detector.era entries x es e.now) (rest_in_era round old.detector.era entries x es e.now))

  owned : All (HasOwner limits.epochs h) (map awaited w.detector.waiting)
  owned = round_owners limits (granule_of file) needs entries (x ∷ es) round old.detector.era (rest round old.detector.era entries x es e.now) sound cut_here one_era (map awaited w.detector.waiting) stands.waiting

  sought : All (IsRestorable limits (granule_of file) (granule_address file) h) (map awaited w.detector.waiting)
  sought = round_restorable limits (granule_of file) needs entries (x ∷ es) round old.detector.era (rest round old.detector.era entries x es e.now) sound cut_here (granule_address file) addresses (map awaited w.detector.waiting) stands.waiting

  can : CanTellAll file w.detector
  can = record {
    from = from;
    leaving = None;
    h = h;
    stands = subst (λ (l : Limits). Stands (granules_of file) l from None h w.detector) (sym stands.limits_are) stands;
    owners = subst (λ (l : Limits). All (HasOwner l.epochs h) (map awaited w.detector.waiting)) (sym stands.limits_are) owned;
    restorable = subst (λ (l : Limits). All (IsRestorable l (granule_of file) (granule_address file) h) (map awaited w.detector.waiting)) (sym stands.limits_are) sought;
  }

  module _ (meets : Option (List ℕ) → Option (List ℕ) → Bool) (d : Detected) (reporter after : Kept) (told : Told meets file limits entries reporter) (t : TellsAll meets file w.detector d reporter after) where
    told_by : AllZip (IsToldBy limits (granule_address file) h) (map awaited w.detector.waiting) t.told
    unfolding can
    told_by = subst (λ (l : Limits). AllZip (IsToldBy l (granule_address file) h) (map awaited w.detector.waiting) t.told) stands.limits_are (t.tells can.from can.leaving can.h can.stands can.owners can.restorable)

    all_told : Told meets file limits (entries ++ x ∷ es) after
    all_told = record {
      found = told.found ++ t.told;
      finds = round_found limits (granule_of file) needs entries (x ∷ es) round old.detector.era (rest round old.detector.era entries x es e.now) sound cut_here (granule_address file) addresses e.before (λ i y l. (e.now i y l).0) told.found told.finds (map awaited w.detector.waiting) stands.waiting t.told told_by;
      kept = t.kept ∙ (ap (λ (k : Kept). fold (kept_after meets) k t.told) told.kept ∙ sym (fold-append (kept_after meets) (record { reports = []; suppressed = 0; equal = 0 }) told.found t.told));
      counted =
          (let l = few_offers meets file limits round entries (x ∷ es) old w reporter told e in
          let m = ap (λ (ms : List Moment). length ms) whole in
          let n = t.counted in
          let k = t.as_many in
          omega arith);
    }

-- ---- the reports of a round

-- what waits at a round's end can be told
pub can_tell : (file : List ℕ) (limits : Limits) (round : ℕ) (entries part : List Entry) (old w : WatchedMachine) → image_of file ≡ Ok file → IsAtEnd file limits round entries part old w → CanTellAll file w.detector
can_tell file limits round entries [] old w accepted e =
    let none = none_waits file limits round entries old w e in
    let h = moments_by round (entries ++ []) w in
    record {
      from = length (moments_by round entries old);
      leaving = None;
      h = h;
      stands = subst (λ (l : Limits). Stands (granules_of file) l (length (moments_by round entries old)) None h w.detector) (sym e.follows.stands.limits_are) e.follows.stands;
      owners = subst (λ (cs : List Candidate). All (HasOwner w.detector.limits.epochs h) (map awaited cs)) (sym none) (All-nil (HasOwner w.detector.limits.epochs h));
      restorable =
          subst (λ (cs : List Candidate). All (IsRestorable w.detector.limits (granule_of file) (granule_address file) h) (map awaited cs)) (sym none)
          (All-nil (IsRestorable w.detector.limits (granule_of file) (granule_address file) h));
    }
can_tell file limits round entries (x ∷ es) old w accepted e = can file limits round entries x es old w accepted e

-- and then all reports of the entries were told
pub told_all : (meets : Option (List ℕ) → Option (List ℕ) → Bool) (file : List ℕ) (limits : Limits) (round : ℕ) (entries part : List Entry) (old w : WatchedMachine) (d : Detected) (reporter after : Kept) → image_of file ≡ Ok file →
    Told meets file limits entries reporter → IsAtEnd file limits round entries part old w → TellsAll meets file w.detector d reporter after → Told meets file limits (entries ++ part) after
told_all meets file limits round entries [] old w d reporter after accepted before e t =
    let none = none_waits file limits round entries old w e in
    let told = is_nil t.told (t.as_many ∙ ap (λ (cs : List Candidate). length cs) none) in
    let same : after ≡ reporter = t.kept ∙ ap (λ (rs : List Report). fold (kept_after meets) reporter rs) told in
    subst (λ (k : Kept). Told meets file limits (entries ++ []) k) (sym same) (subst (λ (xs : List Entry). Told meets file limits xs reporter) (sym (append-nil entries)) before)
told_all meets file limits round entries (x ∷ es) old w d reporter after accepted before e t = all_told file limits round entries x es old w accepted e meets d reporter after before t

-- ---- the next round

-- the next round may begin
pub next_round : (meets : Option (List ℕ) → Option (List ℕ) → Bool) (file : List ℕ) (limits : Limits) (round : ℕ) (entries part : List Entry) (old w : WatchedMachine) (d : Detected) (reporter after : Kept) →
    IsAtEnd file limits round entries part old w → TellsAll meets file w.detector d reporter after → IsBetween file limits (round + 1) (entries ++ part) (record { machine = w.machine; detector = d })
next_round meets file limits round entries part old w d reporter after e t =
    let f = e.follows in
    let alike = alike-rounds round (round + 1) w.detector.era (entries ++ part) in
    let h = moments_by round (entries ++ part) w in
    let k = moments_by (round + 1) (entries ++ part) w in
    subst (λ (x : Detected). IsBetween file limits (round + 1) (entries ++ part) (record { machine = w.machine; detector = x })) (sym t.none_waits)
    (record {
      follows = record {
        limits_are = f.limits_are;
        machine = f.machine;
        memory = f.memory;
        harts = f.harts;
        agrees = f.agrees;
        depths = λ u. ap (λ (xs : List ℕ). length xs) (sym (frames-alike h k u alike)) ∙ f.depths u;
        lawful = f.lawful;
        stands = stands_alike limits h k alike (granules_of file) (length (moments_by round entries old)) None w.detector f.stands;
        eras = f.eras;
        rounds = λ i y l. (let m = f.rounds i y l in omega arith);
      };
      before = λ i y l. (let m = f.rounds i y l in omega arith);
    })

-- ---- a new era

last_at_most : (most era : ℕ) (es : List Entry) → era ≤ most → All (λ (e : Entry). e.era ≤ most) es → era_after era es ≤ most
last_at_most most era [] l a = l
last_at_most most era (e ∷ es) l a = last_at_most most e.era es (All-head (λ (e : Entry). e.era ≤ most) e es a) (All-tail (λ (e : Entry). e.era ≤ most) e es a)

module _ (file : List ℕ) (limits : Limits) (round : ℕ) (entries : List Entry) (w : WatchedMachine) (b : IsBetween file limits round entries w) where
  abbrev so_far : List Moment
  so_far = moments_by round entries w

  abbrev begins : Moment
  begins = era_moment (length entries) round

  nothing : w.detector.waiting ≡ []
  nothing = is_nil w.detector.waiting (let l = few_wait (granules_of file) limits (length so_far) None so_far w.detector b.follows.stands in omega arith)

  more : so_far ++ begins ∷ [] ≡ moments_in round (w.detector.era + 1) entries
  more = sym (one_more_era round w.detector.era entries (last_at_most w.detector.era 0 entries (omega arith) b.follows.eras))

  stands_then : Stands (granules_of file) limits (length (so_far ++ begins ∷ [])) None (so_far ++ begins ∷ []) (after_era w.detector)
  stands_then = waits_anew (granules_of file) limits (length so_far) None (so_far ++ begins ∷ []) (after_era w.detector) (stands_era (granules_of file) limits (length so_far) so_far begins w.detector b.follows.stands refl refl) nothing

  depths_then : (u : ℕ) → length (frames_now (so_far ++ begins ∷ []) u) ≡ length (frames_now so_far u)
  depths_then u = ap (λ (xs : List ℕ). length xs) (frames_now-push so_far begins u)

-- between two rounds an era may begin
pub era_between : (file : List ℕ) (limits : Limits) (round : ℕ) (entries : List Entry) (w : WatchedMachine) → IsBetween file limits round entries w → IsBetween file limits round entries (record { machine = w.machine; detector = after_era w.detector })
era_between file limits round entries w b =
    let f = b.follows in
    let more_here = more file limits round entries w b in
    record {
      follows = record {
        limits_are = f.limits_are;
        machine = f.machine;
        memory = f.memory;
        harts = f.harts;
        agrees = reset_after limits.harts (threads_in w.machine) w.detector.desk f.agrees;
        depths = λ u. ap (λ (ms : List Moment). length (frames_now ms u)) (sym more_here) ∙ (depths_then file limits round entries w b u ∙ f.depths u);
        lawful = f.lawful;
        stands = subst (λ (ms : List Moment). Stands (granules_of file) limits (length ms) None ms (after_era w.detector)) more_here (stands_then file limits round entries w b);
        eras = λ i y l. (let m = f.eras i y l in omega arith);
        rounds = f.rounds;
      };
      before = b.before;
    }

-- the next round may begin in the next era
pub next_era : (meets : Option (List ℕ) → Option (List ℕ) → Bool) (file : List ℕ) (limits : Limits) (round : ℕ) (entries part : List Entry) (old w : WatchedMachine) (d : Detected) (reporter after : Kept) →
    IsAtEnd file limits round entries part old w → TellsAll meets file w.detector d reporter after → IsBetween file limits (round + 1) (entries ++ part) (record { machine = w.machine; detector = after_era d })
next_era meets file limits round entries part old w d reporter after e t =
    era_between file limits (round + 1) (entries ++ part) (record { machine = w.machine; detector = d }) (next_round meets file limits round entries part old w d reporter after e t)
