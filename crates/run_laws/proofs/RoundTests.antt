-- Tests that compute: whether a history that is written out stands in whole rounds; and all that makes it lawful.
use Rattle.std.proofs.Common.{◌≡◌, ◌≢◌, ℕ, ◌==◌, ◌&&◌, ◌||◌, ◌⊎◌, not, Bool, true, false, nat_lt, nat_le, Option, Some, None, is_none, is_some, List, [], ◌∷◌, ◌++◌, length, map, take, slice_get, refl, sym, subst, arith, inl, inr, eqb-true, ◌+◌, ap, zero, suc, ◌<◌, eq-eqb, ◌∙◌}
use Rattle.std.specs.Prelude.{filter}
use Rattle.std.specs.List.{list_any, list_all}
use Rattle.std.proofs.lemmas.Bool.{and_parts, leb-true, ltb-true}
use Rattle.run_record.specs.declared.entry.Entry.{Entry}
use Rattle.run_record.specs.declared.limits.Limits.{Limits}
use Rattle.run_record.specs.declared.plan.Turn.{Turn}
use Rattle.run_record.specs.declared.finished.GuestEnd.{GuestEnd}
use Rattle.run_laws.specs.Numbers.{up_from}
use Rattle.run_laws.specs.Moments.{Item, Does, Notes, NewEra, Past, Moment, moment_at, items, moments, RoundsNeverFall}
use Rattle.run_laws.specs.Labels.{label_of, queue}
use Rattle.run_laws.specs.Faithful.{Bare, state_after, state_before, object_of, desk, Mode, OneByOne, AtOnce, needs_slot}
use Rattle.run_laws.specs.Rounds.{Progress, Due, at_start, dues, steps_by, is_starved, moments_with, IsQueueEmpty, after_round, end_in, MayFindNone, MakesDue, IsInRound, Reaches, Start, Round, Ends, NeedsLabel}
use Rattle.run_laws.specs.Lawful.{IsLawful}
use Rattle.run_laws.proofs.ConflictLaw.{all_up}
use Rattle.run_laws.proofs.LawfulTests.{within, any_up, notes_test, notes-true}
use Rattle.run_laws.proofs.CheckTests.{checks_test, own_checks, grouped_checks, checks-true, stores-true, loads-true}
use Rattle.run_laws.proofs.RunTests.{faithful_test, own_events, made_events, faithful-true, all-true}
use Rattle.run_laws.proofs.RoundOrder.{rounds_rise}
use Rattle.run_laws.proofs.LastLoads.{last_loads}

-- rounds
abbrev pub no_numbers : List ℕ → Bool
no_numbers [] = true
no_numbers (x ∷ xs) = false

abbrev pub in_round_test : Progress → List Due → Entry → Bool
in_round_test p ds e = (e.round == p.round) && (e.era == p.era) && list_any (λ (d : Due). d.tid == e.tid) ds

-- the queue is empty after the first k entries of the round
abbrev pub queue_test : Limits → Progress → List Entry → ℕ → Bool
queue_test limits p part k = let h = moments_with p (take k part) in no_numbers (queue limits.epochs limits.slots (items h) (length h))

abbrev pub is_desk : Option ℕ → Bool
is_desk None = false
is_desk (Some o) = o == desk

-- no entry of thread t from the k-th of the round on uses the desk
abbrev pub no_desk_from : {S : Type 0} → Bare S → Progress → List Entry → ℕ → ℕ → ℕ → List Entry → Bool
no_desk_from bare p part t k j [] = true
no_desk_from bare p part t k j (e ∷ es) = (not (e.tid == t) || nat_lt j k || not (is_desk (object_of bare (state_before bare (p.entries ++ part) (length p.entries + j)) e))) && no_desk_from bare p part t k (suc j) es

abbrev pub no_slot_test : {S : Type 0} → Mode → Limits → Bare S → Progress → List Entry → ℕ → Bool
no_slot_test OneByOne limits bare p part t = queue_test limits p part (length part)
no_slot_test AtOnce limits bare p part t = list_any (λ (k : ℕ). nat_le k (length part) && queue_test limits p part k && no_desk_from bare p part t k 0 part) (up_from 0 (length part + 1))

abbrev pub due_test : {S : Type 0} → Mode → Limits → Bare S → Progress → List Entry → Due → Bool
due_test mode limits bare p part d =
    nat_le (steps_by d.tid part) d.given && ((steps_by d.tid part == d.given) || not (bare.lives (state_after bare (p.entries ++ part)) d.tid) || (is_starved limits bare p part d && no_slot_test mode limits bare p part d.tid))

abbrev pub rounds_test : {S : Type 0} → Mode → Limits → Bare S → Progress → List (List Entry) → Bool
rounds_test mode limits bare p [] = true
rounds_test mode limits bare p (part ∷ parts) =
    is_none (end_in bare (state_after bare p.entries)) && list_any (λ (d : Due). nat_lt 0 d.given) (dues mode limits bare p)
    && list_all (in_round_test p (dues mode limits bare p)) part && list_all (due_test mode limits bare p part) (dues mode limits bare p) && rounds_test mode limits bare (after_round mode limits bare p part) parts

abbrev pub progress_after : {S : Type 0} → Mode → Limits → Bare S → Progress → List (List Entry) → Progress
progress_after mode limits bare p [] = p
progress_after mode limits bare p (part ∷ parts) = progress_after mode limits bare (after_round mode limits bare p part) parts

-- the entries of each round
abbrev pub parts_of : List Entry → ℕ → List (List Entry)
parts_of entries rounds = map (λ (r : ℕ). filter (λ (e : Entry). e.round == r) entries) (up_from 0 rounds)

abbrev pub label_test : Limits → (ℕ → Bool) → List Moment → ℕ → Item → Bool
label_test limits needs h n (Notes t note) = not (needs (moment_at h n).entry) || is_some (label_of limits.epochs (items h) n t)
label_test limits needs h n (Does t e) = true
label_test limits needs h n NewEra = true
label_test limits needs h n Past = true

abbrev pub labels_test : Limits → (ℕ → Bool) → List Moment → Bool
labels_test limits needs h = list_all (λ (n : ℕ). label_test limits needs h n (items h n)) (up_from 0 (length h))

-- all of them at once
abbrev pub lawful_test : {S : Type 0} → Mode → Limits → List Turn → Bare S → (ℕ → Option ℕ) → List Entry → ℕ → Bool
lawful_test mode limits plan bare granule_of entries rounds =
    faithful_test mode bare entries && rounds_test mode limits bare (at_start limits plan) (parts_of entries rounds) && labels_test limits (needs_slot bare entries) (moments entries)
    && notes_test limits (needs_slot bare entries) (moments entries) && checks_test limits.epochs granule_of (moments entries)

-- what these tests say
or_cases : (b c : Bool) → (b || c) ≡ true → (b ≡ true) ⊎ (c ≡ true)
or_cases true c e = inl refl
or_cases false c e = inr e

not-true : (b : Bool) → not b ≡ true → b ≡ true → ⊥
not-true true e f = cc
not-true false e f = cc

no_numbers-true : (xs : List ℕ) → no_numbers xs ≡ true → xs ≡ []
no_numbers-true [] e = refl
no_numbers-true (x ∷ xs) e = absurd (cc)

is_none-true : {X : Type 0} (o : Option X) → is_none o ≡ true → o ≡ None
is_none-true None e = refl
is_none-true (Some x) e = absurd (cc)

is_some-true : {X : Type 0} (o : Option X) → is_some o ≡ true → o ≢ None
is_some-true None e = absurd (cc)
is_some-true (Some x) e = λ z. cc

is_desk-true : (o : Option ℕ) → o ≡ Some desk → is_desk o ≡ true
is_desk-true o e = rw e refl

no_desk_from-true : {S : Type 0} (bare : Bare S) (p : Progress) (part : List Entry) (t k i : ℕ) (es : List Entry) → no_desk_from bare p part t k i es ≡ true →
    (j : ℕ) (e : Entry) → slice_get es j ≡ Some e → e.tid ≡ t → object_of bare (state_before bare (p.entries ++ part) (length p.entries + (i + j))) e ≡ Some desk → i + j < k
no_desk_from-true bare p part t k i [] test j e q a o = absurd (cc)
no_desk_from-true {S} bare p part t k i (x ∷ es) test zero e q a o =
    let z : x ≡ e = cc in
    let y : i + 0 ≡ i = omega arith in
    let uses = not (is_desk (object_of bare (state_before bare (p.entries ++ part) (length p.entries + i)) x)) in
    let r = and_parts (not (x.tid == t) || nat_lt i k || uses) (no_desk_from bare p part t k (suc i) es) test in
    let desk_used : is_desk (object_of bare (state_before bare (p.entries ++ part) (length p.entries + i)) x) ≡ true =
    is_desk-true (object_of bare (state_before bare (p.entries ++ part) (length p.entries + i)) x)
    (subst (λ (n : ℕ). object_of bare (state_before bare (p.entries ++ part) (length p.entries + n)) x ≡ Some desk) y (subst (λ (w : Entry). object_of bare (state_before bare (p.entries ++ part) (length p.entries + (i + 0))) w ≡ Some desk) (sym z) o))
    in
    elim (or_cases (not (x.tid == t) || nat_lt i k) uses r.0) [
      | inr u ↦ absurd (not-true (is_desk (object_of bare (state_before bare (p.entries ++ part) (length p.entries + i)) x)) u desk_used)
      | inl u ↦ elim (or_cases (not (x.tid == t)) (nat_lt i k) u) [
        | inr v ↦ let l = ltb-true i k v in omega arith
        | inl v ↦ absurd (not-true (x.tid == t) v (eq-eqb x.tid t (ap (λ (w : Entry). w.tid) z ∙ a)))
      ]
    ]
no_desk_from-true bare p part t k i (x ∷ es) test (suc j) e q a o =
    let y : suc i + j ≡ i + suc j = omega arith in
    let r = and_parts (not (x.tid == t) || nat_lt i k || not (is_desk (object_of bare (state_before bare (p.entries ++ part) (length p.entries + i)) x))) (no_desk_from bare p part t k (suc i) es) test in
    let l = no_desk_from-true bare p part t k (suc i) es r.1 j e q a (subst (λ (n : ℕ). object_of bare (state_before bare (p.entries ++ part) (length p.entries + n)) e ≡ Some desk) (sym y) o) in
    omega arith

queue-true : (limits : Limits) (p : Progress) (part : List Entry) (k : ℕ) → queue_test limits p part k ≡ true → IsQueueEmpty limits p part k
queue-true limits p part k e = no_numbers-true (let h = moments_with p (take k part) in queue limits.epochs limits.slots (items h) (length h)) e

no_slot-true : {S : Type 0} (mode : Mode) (limits : Limits) (bare : Bare S) (p : Progress) (part : List Entry) (t : ℕ) → no_slot_test mode limits bare p part t ≡ true → MayFindNone mode limits bare p part t
no_slot-true OneByOne limits bare p part t e = queue-true limits p part (length part) e
no_slot-true AtOnce limits bare p part t e =
    let test = λ (k : ℕ). nat_le k (length part) && queue_test limits p part k && no_desk_from bare p part t k 0 part in
    let found = any_up test 0 (length part + 1) e in
    let k = found.0 in
    let a = and_parts (nat_le k (length part) && queue_test limits p part k) (no_desk_from bare p part t k 0 part) found.1 in
    let b = and_parts (nat_le k (length part)) (queue_test limits p part k) a.0 in (
      k,
      leb-true k (length part) b.0,
      queue-true limits p part k b.1,
      λ j f q s o.
          let z : 0 + j ≡ j = omega arith in
          let l = no_desk_from-true bare p part t k 0 part a.1 j f q s (subst (λ (n : ℕ). object_of bare (state_before bare (p.entries ++ part) (length p.entries + n)) f ≡ Some desk) (sym z) o) in
          omega arith,
    )

in_round-true : (p : Progress) (ds : List Due) (e : Entry) → in_round_test p ds e ≡ true → IsInRound p ds e
in_round-true p ds e t =
    let p2 = and_parts ((e.round == p.round) && (e.era == p.era)) (list_any (λ (d : Due). d.tid == e.tid) ds) t in
    let p1 = and_parts (e.round == p.round) (e.era == p.era) p2.0 in
    record { round = eqb-true e.round p.round p1.0; era = eqb-true e.era p.era p1.1; due = p2.1 }

due-true : {S : Type 0} (mode : Mode) (limits : Limits) (bare : Bare S) (p : Progress) (part : List Entry) (d : Due) → due_test mode limits bare p part d ≡ true → MakesDue mode limits bare p part d
due-true mode limits bare p part d t =
    let lives = bare.lives (state_after bare (p.entries ++ part)) d.tid in
    let starved = is_starved limits bare p part d && no_slot_test mode limits bare p part d.tid in
    let p1 = and_parts (nat_le (steps_by d.tid part) d.given) ((steps_by d.tid part == d.given) || not lives || starved) t in
    record {
      no_more = leb-true (steps_by d.tid part) d.given p1.0;
      fewer = λ l alive. elim (or_cases ((steps_by d.tid part == d.given) || not lives) starved p1.1) [
        | inr r ↦ let q = and_parts (is_starved limits bare p part d) (no_slot_test mode limits bare p part d.tid) r in (q.0, no_slot-true mode limits bare p part d.tid q.1)
        | inl r ↦ absurd (elim (or_cases (steps_by d.tid part == d.given) (not lives) r) [
          | inl r ↦ let z = eqb-true (steps_by d.tid part) d.given r in omega arith
          | inr r ↦ not-true lives r alive
        ])
      ];
    }

reaches-true : {S : Type 0} (mode : Mode) (limits : Limits) (bare : Bare S) (plan : List Turn) (p : Progress) (parts : List (List Entry)) → Reaches mode limits bare plan p → rounds_test mode limits bare p parts ≡ true → Reaches mode limits bare plan (progress_after mode limits bare p parts)
reaches-true mode limits bare plan p [] r t = r
reaches-true mode limits bare plan p (part ∷ parts) r t =
    let a = is_none (end_in bare (state_after bare p.entries)) in
    let b = list_any (λ (d : Due). nat_lt 0 d.given) (dues mode limits bare p) in
    let c = list_all (in_round_test p (dues mode limits bare p)) part in
    let d = list_all (due_test mode limits bare p part) (dues mode limits bare p) in
    let p4 = and_parts (a && b && c && d) (rounds_test mode limits bare (after_round mode limits bare p part) parts) t in
    let p3 = and_parts (a && b && c) d p4.0 in
    let p2 = and_parts (a && b) c p3.0 in
    let p1 = and_parts a b p2.0 in
    reaches-true mode limits bare plan (after_round mode limits bare p part) parts
    (Round p part r (is_none-true (end_in bare (state_after bare p.entries)) p1.0) p1.1
    (record {
      entries = all-true (IsInRound p (dues mode limits bare p)) (in_round_test p (dues mode limits bare p)) (in_round-true p (dues mode limits bare p)) part p2.1;
      made = all-true (MakesDue mode limits bare p part) (due_test mode limits bare p part) (due-true mode limits bare p part) (dues mode limits bare p) p3.1;
    }))
    p4.1

labels-true : (limits : Limits) (needs : ℕ → Bool) (h : List Moment) → labels_test limits needs h ≡ true → NeedsLabel limits needs h
labels-true limits needs h test n t note made needed =
    let l = within h n (Notes t note) made (λ z. cc) in
    let a = all_up (λ (n : ℕ). label_test limits needs h n (items h n)) 0 (length h) test n (omega arith) (omega arith) in
    let b : (not (needs (moment_at h n).entry) || is_some (label_of limits.epochs (items h) n t)) ≡ true = subst (λ it. label_test limits needs h n it ≡ true) made a in
    elim (or_cases (not (needs (moment_at h n).entry)) (is_some (label_of limits.epochs (items h) n t)) b) [
      | inl r ↦ absurd (not-true (needs (moment_at h n).entry) r needed)
      | inr r ↦ is_some-true (label_of limits.epochs (items h) n t) r
    ]

module _ {S : Type 0} (mode : Mode) (limits : Limits) (plan : List Turn) (bare : Bare S) (granule_of : ℕ → Option ℕ) (entries : List Entry) (rounds : ℕ) where
  abbrev last : Progress
  last = progress_after mode limits bare (at_start limits plan) (parts_of entries rounds)

  pub lawful-true :
      lawful_test mode limits plan bare granule_of entries rounds ≡ true → own_events entries ≡ made_events bare bare.start entries → own_checks entries ≡ grouped_checks entries → entries ≡ last.entries → (end : GuestEnd) → Ends mode limits bare last end →
      IsLawful mode limits plan bare granule_of entries
  lawful-true test made grouped whole end ends =
      let a = faithful_test mode bare entries in
      let b = rounds_test mode limits bare (at_start limits plan) (parts_of entries rounds) in
      let c = labels_test limits (needs_slot bare entries) (moments entries) in
      let d = notes_test limits (needs_slot bare entries) (moments entries) in
      let p4 = and_parts (a && b && c && d) (checks_test limits.epochs granule_of (moments entries)) test in
      let p3 = and_parts (a && b && c) d p4.0 in
      let p2 = and_parts (a && b) c p3.0 in
      let p1 = and_parts a b p2.0 in
      let reached = reaches-true mode limits bare plan (at_start limits plan) (parts_of entries rounds) Start p1.1 in
      let checks = checks-true limits.epochs granule_of entries p4.1 grouped in
      let stores = stores-true limits.epochs granule_of entries p4.1 in
      let loads = loads-true limits.epochs granule_of entries p4.1 in
      record {
        faithful = faithful-true mode bare entries p1.0 made;
        last = record { threads = bare.threads (state_after bare entries); rounds = last.round; era = last.last_era; end = end };
        rounds = record { progress = last; reached = reached; history_is = whole; ends = ends; threads_are = refl; rounds_are = refl; era_is = refl };
        labelled = labels-true limits (needs_slot bare entries) (moments entries) p2.1;
        notes = notes-true limits (needs_slot bare entries) (moments entries) p3.1;
        checks = checks;
        stores = stores;
        loads = last_loads limits.epochs granule_of entries checks stores (subst RoundsNeverFall (sym whole) (rounds_rise mode limits bare plan last reached)) loads;
        loads_last = λ q. loads;
      }
