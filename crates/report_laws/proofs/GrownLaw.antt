-- Reports stay where a history goes on in later rounds.
use Rattle.std.proofs.Common.{◌≡◌, ℕ, suc, ◌+◌, ◌-◌, ◌<◌, ◌≤◌, Bool, true, false, cond, nat_le, Some, List, [], ◌∷◌, ◌++◌, length, map, get_or, refl, sym, ap, subst, ◌∙◌, arith}
use Rattle.std.specs.Prelude.{All, count_by}
use Rattle.std.specs.List.{enumerate_from, position_or_len}
use Rattle.std.proofs.Math.Seq.{get_or-append_right}
use Rattle.std.proofs.lemmas.Bool.{lt-ltb, le-leb, lt-leb}
use Rattle.std.proofs.lemmas.List.{length-append}
use Rattle.std.proofs.lemmas.List.Sums.{sum_by-append, sum_by-cons, count_by-le-length, position_or_len_is}
use Rattle.std.proofs.lemmas.List.Quantifiers.{position-Some}
use Rattle.std.proofs.lemmas.List.Elements.{All-nil, All-cons, All-append, All-head, All-tail, All-replicate}
use Rattle.run_record.specs.declared.event.Event.{Event}
use Rattle.run_record.specs.declared.entry.Entry.{Entry}
use Rattle.run_record.specs.declared.limits.Limits.{Limits}
use Rattle.run_record.specs.declared.report.Report.{Report}
use Rattle.run_record.specs.declared.report.Side.{Side}
use Rattle.run_laws.specs.Moments.{Notes, NewEra, Past, Moment, moment_at, items, moments, moments_from, era_moments, entry_moments, event_moment}
use Rattle.run_laws.specs.Accesses.{Access}
use Rattle.run_laws.specs.Window.{trace_before, round_end}
use Rattle.run_laws.specs.Candidates.{has_word}
use Rattle.run_laws.specs.Reports.{first_with, MakesAccess, told_side, lost_side, IsReport, Finds}
use Rattle.run_laws.specs.Reports as reports
use Rattle.run_laws.proofs.PresentLaw.{trace_stay, frames_stay, locks_stay}
use Rattle.run_laws.proofs.MomentsLaw.{era_after, moments_from-append}
use Rattle.report_laws.specs.Sound.{AreOfLaterRounds}
use Rattle.report_laws.specs.Awaited.{Awaited, Awaits}
use Rattle.report_laws.specs.Awaited as awaited
use Rattle.report_laws.proofs.AgreeLaw.{moments-append, candidates_stay}

-- what holds of the rounds of entries holds of those of their moments
pub rounds_of : (Q : ℕ → Type 0) (era i : ℕ) (es : List Entry) → All (λ (e : Entry). Q e.round) es → All (λ (m : Moment). Q m.round) (moments_from era i es)
rounds_of Q era i [] a = All-nil (λ (m : Moment). Q m.round)
rounds_of Q era i (e ∷ es) a =
    let q = All-head (λ (e : Entry). Q e.round) e es a in
    All-append (λ (m : Moment). Q m.round) (era_moments era i e.round e.era) (entry_moments i e ++ moments_from e.era (i + 1) es) (All-replicate (λ (m : Moment). Q m.round) (e.era - era) (record { entry = i; round = e.round; item = NewEra; checks = [] }) q)
    (All-append (λ (m : Moment). Q m.round) (entry_moments i e) (moments_from e.era (i + 1) es)
    (All-cons (λ (m : Moment). Q m.round) (record { entry = i; round = e.round; item = Notes e.tid e.note; checks = [] }) (map (event_moment i e) (enumerate_from 0 e.events)) q (events q 0 e.events))
    (rounds_of Q e.era (i + 1) es (All-tail (λ (e : Entry). Q e.round) e es a)))
  where
    events : Q e.round → (n : ℕ) (xs : List Event) → All (λ (m : Moment). Q m.round) (map (event_moment i e) (enumerate_from n xs))
    events q n [] = All-nil (λ (m : Moment). Q m.round)
    events q n (x ∷ xs) = All-cons (λ (m : Moment). Q m.round) (event_moment i e (n, x)) (map (event_moment i e) (enumerate_from (n + 1) xs)) q (events q (n + 1) xs)

count_all : (r : ℕ) (ms : List Moment) → All (λ (m : Moment). m.round ≤ r) ms → count_by (λ (m : Moment). nat_le m.round r) ms ≡ length ms
count_all r [] a = refl
count_all r (m ∷ ms) a =
    let e : nat_le m.round r ≡ true = le-leb m.round r (All-head (λ (m : Moment). m.round ≤ r) m ms a) in
    let c = count_all r ms (All-tail (λ (m : Moment). m.round ≤ r) m ms a) in
    let s = sum_by-cons (λ (m : Moment). cond (nat_le m.round r) 1 0) m ms in
    let one = ap (λ (b : Bool). cond {A = ℕ} b 1 0) e in
    omega arith

count_none : (r : ℕ) (ms : List Moment) → All (λ (m : Moment). r < m.round) ms → count_by (λ (m : Moment). nat_le m.round r) ms ≡ 0
count_none r [] a = refl
count_none r (m ∷ ms) a =
    let e : nat_le m.round r ≡ false = lt-leb m.round r (All-head (λ (m : Moment). r < m.round) m ms a) in
    let c = count_none r ms (All-tail (λ (m : Moment). r < m.round) m ms a) in
    let s = sum_by-cons (λ (m : Moment). cond (nat_le m.round r) 1 0) m ms in
    let none = ap (λ (b : Bool). cond {A = ℕ} b 1 0) e in
    omega arith

past : Moment
past = record { entry = 0; round = 0; item = Past; checks = [] }

-- a first access stays the first
first_stays : (h later : List Moment) (granule w x : ℕ) → first_with h granule w ≡ Some x → first_with (h ++ later) granule w ≡ Some x
unfolding past
first_stays h later granule w x e =
    let p = position-Some (has_word granule w) h x past e in
    let within : x < length h = p.0 in
    let long = length-append h later in
    let at : position_or_len (has_word granule w) (h ++ later) ≡ x =
    position_or_len_is (has_word granule w) (h ++ later) x past (omega arith)
    (λ k l. ap (has_word granule w) (moments-append h later k (omega arith)) ∙ p.2 k l)
    (λ l. ap (has_word granule w) (moments-append h later x within) ∙ p.1)
    in
    let t = lt-ltb x (length (h ++ later)) (omega arith) in
    rw (at, t) refl

pub told_stays : (h later : List Moment) (n t : ℕ) (a : Access) → n ≤ length h → told_side (h ++ later) n t a ≡ told_side h n t a
told_stays h later n t a l = rw (frames_stay h later n t l, locks_stay h later n t l) refl

pub makes_stays : (h later : List Moment) (n t : ℕ) (a : Access) → n < length h → MakesAccess h n t a → MakesAccess (h ++ later) n t a
makes_stays h later n t a l made = ap (λ (m : Moment). m.item) (moments-append h later n l) ∙ made

pub awaits_stay : (g : ℕ) (h later : List Moment) (from n : ℕ) (waiting : List Awaited) → n ≤ length h → Awaits g h from n waiting → Awaits g (h ++ later) from n waiting
awaits_stay g h later from _ _ l awaited.Start = awaited.Start
awaits_stay g h later from _ _ l (awaited.Quiet {n = n} {waiting = ws} a none) = awaited.Quiet (awaits_stay g h later from n ws (omega arith) a) (λ c w k. none c w ((candidates_stay g h later n c w (omega arith)).0 k))
awaits_stay g h later from _ _ l (awaited.Race {n = n} {waiting = ws} c w t a before k made) =
    subst (λ (s : Side). Awaits g (h ++ later) from (suc n) (ws ++ record { mine = s; granule = c.granule; word = w } ∷ [])) (told_stays h later n t a (omega arith))
    (awaited.Race c w t a (awaits_stay g h later from n ws (omega arith) before) ((candidates_stay g h later n c w (omega arith)).1 k) (makes_stays h later n t a (omega arith) made))

-- the round of a moment ends where it did, if what comes is of later rounds
module _ (limits : Limits) (address_of : ℕ → ℕ) (h later : List Moment) (rounds : All (λ (m : Moment). All (λ (k : Moment). k.round < m.round) h) later) where
  end_stays : (n : ℕ) → n < length h → round_end (h ++ later) (moment_at (h ++ later) n).round ≡ round_end h (moment_at h n).round
  end_stays n l =
      let r = (moment_at h n).round in
      let none : count_by (λ (m : Moment). nat_le m.round r) later ≡ 0 = count_none r later (λ i d y. rounds i d y n (record { entry = 0; round = 0; item = Past; checks = [] }) l) in
      let sum = sum_by-append (λ (m : Moment). cond (nat_le m.round r) 1 0) h later in
      ap (λ (m : Moment). round_end (h ++ later) m.round) (moments-append h later n l) ∙ (let y : round_end (h ++ later) r ≡ round_end h r = omega arith in y)

  report_stays : (n granule w : ℕ) (report : Report) → n < length h → IsReport limits address_of h n granule w report → IsReport limits address_of (h ++ later) n granule w report
  report_stays n granule w report l p =
      let x : p.first < length h = (position-Some (has_word granule w) h p.first (record { entry = 0; round = 0; item = Past; checks = [] }) p.first_is).0 in
      let held = ap (λ k. trace_before limits.epochs (items (h ++ later)) k p.other) (end_stays n l) ∙ trace_stay limits.epochs h later (round_end h (moment_at h n).round) p.other (count_by-le-length (λ (m : Moment). nat_le m.round (moment_at h n).round) h) in
      record {
        tid = p.tid;
        access = p.access;
        made = makes_stays h later n p.tid p.access l p.made;
        mine = p.mine ∙ sym (told_stays h later n p.tid p.access (omega arith));
        first = p.first;
        first_is = first_stays h later granule w p.first p.first_is;
        other = p.other;
        other_access = p.other_access;
        other_made = makes_stays h later p.first p.other p.other_access x p.other_made;
        previous = rw (held, told_stays h later p.first p.other p.other_access (omega arith)) p.previous;
      }

  finds_stay : (n : ℕ) (found : List Report) → n ≤ length h → Finds limits address_of h n found → Finds limits address_of (h ++ later) n found
  finds_stay _ _ l reports.Start = reports.Start
  finds_stay _ _ l (reports.Quiet {n = n} {found = f} a none) = reports.Quiet (finds_stay n f (omega arith) a) (λ c w k. none c w ((candidates_stay limits.epochs h later n c w (omega arith)).0 k))
  finds_stay _ _ l (reports.Race {n = n} {found = f} c w r a k told) =
      reports.Race c w r (finds_stay n f (omega arith) a) ((candidates_stay limits.epochs h later n c w (omega arith)).1 k) (report_stays n c.granule w r (omega arith) told)

later_moments : (entries later : List Entry) → AreOfLaterRounds entries later → (era i : ℕ) → All (λ (m : Moment). All (λ (k : Moment). k.round < m.round) (moments entries)) (moments_from era i later)
later_moments entries later a era i =
    rounds_of (λ r. All (λ (k : Moment). k.round < r) (moments entries)) era i later
    (λ j d l. rounds_of (λ r. r < (get_or later j d).round) 0 0 entries (a j d l))

pub found_stay : (limits : Limits) (address_of : ℕ → ℕ) (entries later : List Entry) → AreOfLaterRounds entries later → (n : ℕ) (found : List Report) → n ≤ length (moments entries) → Finds limits address_of (moments entries) n found → Finds limits address_of (moments (entries ++ later)) n found
found_stay limits address_of entries later a n found l f =
    subst (λ (h : List Moment). Finds limits address_of h n found) (sym (moments_from-append 0 0 entries later))
    (finds_stay limits address_of (moments entries) (moments_from (era_after 0 entries) (0 + length entries) later) (later_moments entries later a (era_after 0 entries) (0 + length entries)) n found l f)

-- the last round's moments
pub last_round :
    (entries last : List Entry) (round : ℕ) → All (λ (e : Entry). e.round ≤ round) entries → All (λ (e : Entry). e.round ≡ round) last → (n : ℕ) → length (moments entries) ≤ n → n < length (moments (entries ++ last)) →
    round_end (moments (entries ++ last)) (moment_at (moments (entries ++ last)) n).round ≡ length (moments (entries ++ last))
last_round entries last round before now n l m =
    let tail = moments_from (era_after 0 entries) (0 + length entries) last in
    let cut : moments (entries ++ last) ≡ moments entries ++ tail = moments_from-append 0 0 entries last in
    let long : length (moments (entries ++ last)) ≡ length (moments entries) + length tail = ap length cut ∙ length-append (moments entries) tail in
    let own : (moment_at (moments (entries ++ last)) n).round ≡ round =
    ap (λ (h : List Moment). (moment_at h n).round) cut
    ∙ (ap (λ (x : Moment). x.round) (get_or-append_right (moments entries) tail n (record { entry = 0; round = 0; item = Past; checks = [] }) l)
    ∙ rounds_of (λ r. r ≡ round) (era_after 0 entries) (0 + length entries) last now (n - length (moments entries)) (record { entry = 0; round = 0; item = Past; checks = [] }) (omega arith))
    in
    ap (round_end (moments (entries ++ last))) own
    ∙ count_all round (moments (entries ++ last)) (rounds_of (λ r. r ≤ round) 0 0 (entries ++ last) (All-append (λ (e : Entry). e.round ≤ round) entries last before (λ i d y. let z = now i d y in omega arith)))
