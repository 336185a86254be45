-- Of two lawful starts of one run one begins the other: round by round.
use Rattle.std.proofs.Common.{◌≡◌, ℕ, ◌+◌, ◌-◌, ◌<◌, ◌≤◌, ◌==◌, ◌&&◌, ◌||◌, ◌⊎◌, Bool, true, false, Option, Some, None, List, [], ◌∷◌, ◌++◌, append_assoc, refl, sym, ap, ap₂, subst, ◌∙◌, arith, eqb-true, eq-eqb, inl, inr}
use Rattle.std.specs.Prelude.{All, filter, nat_lt, is_none, option_to_list}
use Rattle.std.specs.List.{list_any}
use Rattle.std.proofs.Math.Seq.{take-length}
use Rattle.std.proofs.lemmas.Bool.{cases_lt, cases_eq, and_parts}
use Rattle.std.proofs.lemmas.List.{append-nil}
use Rattle.std.proofs.lemmas.List.Elements.{All-nil, All-append, All-head, All-tail}
use Rattle.run_record.specs.declared.entry.Entry.{Entry}
use Rattle.run_record.specs.declared.entry.Label.{Label}
use Rattle.run_record.specs.declared.limits.Limits.{Limits}
use Rattle.run_record.specs.declared.finished.GuestEnd.{GuestEnd}
use Rattle.run_record.specs.declared.plan.Turn.{Turn}
use Rattle.run_laws.specs.Moments.{moments_in, RoundsNeverFall, ErasNeverFall}
use Rattle.run_laws.specs.Faithful.{Bare, state_after, Mode, OneByOne}
use Rattle.run_laws.specs.Checks.{IsGrouped}
use Rattle.run_laws.specs.Rounds.{Progress, at_start, Due, dues, steps_in, steps_by, MakesDue, IsRound, after_round, end_in, Reaches, Start, Round, Ends}
use Rattle.run_laws.specs.Lawful.{IsLawful}
use Rattle.run_laws.specs.Present.{label_now, queue_now}
use Rattle.run_laws.proofs.RoundOrder.{rounds_rise, eras_rise}
use Rattle.run_laws.proofs.LastLoads.{last_loads}
use Rattle.turn_laws.specs.SoFar.{IsLawfulSoFar}
use Rattle.one_history.specs.Reached.{ComesTo, Begins, LeaveLabels}
use Rattle.one_history.proofs.Split.{IsOf, Side, step-side}
use Rattle.one_history.proofs.Part.{same_part, comes_next}
use Rattle.partial_runs.specs.Starts.{AreWholeRounds, IsLawfulStart, GoesOn}

single : (o : Option Due) → list_any (λ (d : Due). nat_lt 0 d.given) (option_to_list o) ≡ true → (d : Due) × (option_to_list o ≡ d ∷ [])
single None q = absurd cc
single (Some d) q = (d, refl)

only : (b : Bool) → (b || false) ≡ true → b ≡ true
only true q = refl
only false q = q

none_from : (o : Option Label) → is_none o ≡ true → o ≡ None
none_from None q = refl
none_from (Some l) q = absurd cc

all_by : (t : ℕ) (es : List Entry) → All (λ (e : Entry). e.tid ≡ t) es → steps_by t es ≡ steps_in es
all_by t es a = ap steps_in (kept es a)
  where
    kept : (es : List Entry) → All (λ (e : Entry). e.tid ≡ t) es → filter (λ (e : Entry). e.tid == t) es ≡ es
    kept [] a = refl
    kept (e ∷ es) a = rw (eq-eqb e.tid t (All-head (λ (e : Entry). e.tid ≡ t) e es a))
        (ap (λ (xs : List Entry). e ∷ xs) (kept es (All-tail (λ (e : Entry). e.tid ≡ t) e es a)))

-- the entries of the rounds before are of earlier rounds
past : {S : Type 0} (mode : Mode) (limits : Limits) (bare : Bare S) (plan : List Turn) (p : Progress) → Reaches mode limits bare plan p →
    All (λ (e : Entry). e.round < p.round) p.entries
past mode limits bare plan _ Start = All-nil (λ (e : Entry). e.round < 0)
past mode limits bare plan _ (Round p part r going given round) =
    let o = past mode limits bare plan p r in
    All-append (λ (e : Entry). e.round < p.round + 1) p.entries part (λ i d l. let z = o i d l in omega arith)
    (λ i d l. let z = (round.entries i d l).round in omega arith)

-- no entries are a lawful start
pub no_entries : {S : Type 0} (mode : Mode) (limits : Limits) (bare : Bare S) (granule_of : ℕ → Option ℕ) (plan : List Turn) →
    IsLawfulStart mode limits plan bare granule_of []
no_entries mode limits bare granule_of plan = record {
  faithful = record { ordered = λ i j d l m. absurd (omega arith); made = λ i e q. absurd cc; turns = λ i e q. absurd cc; stamped = λ i e q. absurd cc };
  rounds = record { progress = at_start limits plan; reached = Start; history_is = refl };
  labelled = λ n t note q s. absurd cc;
  notes = record { attached = λ n t l q. absurd cc; left = λ n t l s. absurd (let q = s.made in cc); left_only = λ m t l q. absurd cc };
  checks = record { of_events = λ n t e q. absurd cc; grouped = All-nil IsGrouped };
  stores = λ n c b. absurd (let l = b.1 in omega arith);
  loads = λ a c b. absurd (let l = b.1 in omega arith);
  loads_last = λ m a c b cell word q. absurd (let l = b.1 in omega arith);
}

module _ {S : Type 0} (limits : Limits) (bare : Bare S) (granule_of : ℕ → Option ℕ) (plan : List Turn) where
  -- a round of thread d.tid, and what comes after it
  side_of :
      (p : Progress) (part tail : List Entry) (d : Due) → dues OneByOne limits bare p ≡ d ∷ [] → IsRound OneByOne limits bare p part →
      IsLawfulSoFar limits bare granule_of (p.entries ++ (part ++ tail)) →
      All (λ (e : Entry). p.round + 1 ≤ e.round) tail → Side limits bare granule_of p.round p.era d.tid d.given p.entries part tail
  side_of p part tail d one round lawful later = record {
    lawful = lawful;
    here = here;
    later = λ i e l q. let z = later i e l in omega arith;
    no_more = let m = made.no_more in omega (arith, total);
    fewer = λ l alive.
        let m = made.fewer (omega (arith, total)) alive in
        let s = state_after bare (p.entries ++ part) in
        let h = moments_in p.round p.era (p.entries ++ part) in
        let few = nat_lt (steps_by d.tid part) d.given in
        let three = and_parts (few && bare.lives s d.tid && bare.needs_slot s d.tid) (is_none (label_now limits.epochs h d.tid)) m.0 in
        let two = and_parts (few && bare.lives s d.tid) (bare.needs_slot s d.tid) three.0 in
        record {
          needs = two.1;
          unlabelled = none_from (label_now limits.epochs h d.tid) three.1;
          none_free =
              ap (λ (es : List Entry). queue_now limits.epochs limits.slots (moments_in p.round p.era (p.entries ++ es))) (sym (take-length part)) ∙ m.1;
        };
  }
    where
      here : All (IsOf p.round p.era d.tid) part
      here i e l =
          let o = round.entries i e l in
          record {
            in_round = o.round;
            in_era = o.era;
            by = sym (eqb-true d.tid _ (only _ (ap (list_any _) (sym one) ∙ o.due)));
          }

      total : steps_by d.tid part ≡ steps_in part
      total = all_by d.tid part (λ i e l. (here i e l).by)

      made : MakesDue OneByOne limits bare p part d
      made = All-head (MakesDue OneByOne limits bare p part) d [] (subst (All (MakesDue OneByOne limits bare p part)) one round.made)

  module _ (local : LeaveLabels bare) where
    comes_part : (round era t n : ℕ) (xs part tail : List Entry) → Side limits bare granule_of round era t n xs part tail →
        ComesTo bare (state_after bare xs) → ComesTo bare (state_after bare (xs ++ part))
    comes_part round era t n xs [] tail side comes = subst (λ (es : List Entry). ComesTo bare (state_after bare es)) (sym (append-nil xs)) comes
    comes_part round era t n xs (x ∷ part) tail side comes =
        subst (λ (es : List Entry). ComesTo bare (state_after bare es)) (append_assoc xs (x ∷ []) part)
        (comes_part round era t (n - x.steps) (xs ++ x ∷ []) part tail (step-side limits bare granule_of round era t n xs x part tail side)
        (comes_next limits bare granule_of local round era t n xs x part tail side comes))

    -- as far as two runs came in the same number of rounds
    record SameSoFar (p q : Progress) : Type 0 where
      same : p ≡ q
      comes : ComesTo bare (state_after bare p.entries)

    same_round :
        (p q : Progress) (part other ta tb : List Entry) → SameSoFar p q → list_any (λ (d : Due). nat_lt 0 d.given) (dues OneByOne limits bare p) ≡ true →
        IsRound OneByOne limits bare p part → IsRound OneByOne limits bare q other →
        All (λ (e : Entry). p.round + 1 ≤ e.round) ta → All (λ (e : Entry). q.round + 1 ≤ e.round) tb →
        IsLawfulSoFar limits bare granule_of (p.entries ++ (part ++ ta)) → IsLawfulSoFar limits bare granule_of (q.entries ++ (other ++ tb)) →
        SameSoFar (after_round OneByOne limits bare p part) (after_round OneByOne limits bare q other)
    same_round p q part other ta tb so given a b la lb mine yours =
        let due = single _ given in
        let back = sym so.same in
        let side = side_of p part ta due.0 due.1 a mine la in
        let theirs = side_of p other tb due.0 due.1 (subst (λ (q : Progress). IsRound OneByOne limits bare q other) back b)
        (subst (λ (q : Progress). IsLawfulSoFar limits bare granule_of (q.entries ++ (other ++ tb))) back yours)
        (subst (λ (q : Progress). All (λ (e : Entry). q.round + 1 ≤ e.round) tb) back lb) in
        record {
          same = ap₂ (after_round OneByOne limits bare) so.same
              (same_part limits bare granule_of local p.round p.era due.0.tid due.0.given p.entries part ta other tb side theirs so.comes);
          comes = comes_part p.round p.era due.0.tid due.0.given p.entries part ta side so.comes;
        }

    rounds_from : (p : Progress) (part tail : List Entry) → IsRound OneByOne limits bare p part → All (λ (e : Entry). p.round + 1 ≤ e.round) tail →
        All (λ (e : Entry). p.round ≤ e.round) (part ++ tail)
    rounds_from p part tail round later =
        All-append (λ (e : Entry). p.round ≤ e.round) part tail (λ i e l. let o = (round.entries i e l).round in omega arith)
        (λ i e l. let o = later i e l in omega arith)

    same_progress :
        (p q : Progress) → Reaches OneByOne limits bare plan p → Reaches OneByOne limits bare plan q → p.round ≡ q.round → (ta tb : List Entry) →
        All (λ (e : Entry). p.round ≤ e.round) ta → All (λ (e : Entry). q.round ≤ e.round) tb →
        IsLawfulSoFar limits bare granule_of (p.entries ++ ta) → IsLawfulSoFar limits bare granule_of (q.entries ++ tb) → SameSoFar p q
    same_progress _ _ Start Start e ta tb la lb mine yours = record { same = refl; comes = Begins }
    same_progress _ _ Start (Round q other s going given b) e ta tb la lb mine yours = absurd (omega arith)
    same_progress _ _ (Round p part r going given a) Start e ta tb la lb mine yours = absurd (omega arith)
    same_progress _ _ (Round p part r going given a) (Round q other s on some b) e ta tb la lb mine yours =
        let my = subst (IsLawfulSoFar limits bare granule_of) (append_assoc p.entries part ta) mine in
        let your = subst (IsLawfulSoFar limits bare granule_of) (append_assoc q.entries other tb) yours in
        same_round p q part other ta tb
        (same_progress p q r s (omega arith) (part ++ ta) (other ++ tb) (rounds_from p part ta a la) (rounds_from q other tb b lb) my your)
        given a b la lb my your

    -- a run before one of its rounds
    record Earlier (k : ℕ) (q : Progress) : Type 0 where
      progress : Progress
      more : List Entry
      reached : Reaches OneByOne limits bare plan progress
      round : progress.round ≡ k
      goes_on : end_in bare (state_after bare progress.entries) ≡ None
      given : list_any (λ (d : Due). nat_lt 0 d.given) (dues OneByOne limits bare progress) ≡ true
      grows : q.entries ≡ progress.entries ++ more
      later : All (λ (e : Entry). progress.round ≤ e.round) more

    earlier : (k : ℕ) (q : Progress) → Reaches OneByOne limits bare plan q → k < q.round → Earlier k q
    earlier k _ Start l = absurd (omega arith)
    earlier k _ (Round q part r going given a) l = elim (cases_eq q.round k) [
      | inl e ↦ record {
        progress = q;
        more = part;
        reached = r;
        round = e;
        goes_on = going;
        given = given;
        grows = refl;
        later = λ i e l. let o = (a.entries i e l).round in omega arith;
      }
      | inr d ↦
          let o = earlier k q r (omega arith) in
          let here = o.round in
          record {
            progress = o.progress;
            more = o.more ++ part;
            reached = o.reached;
            round = o.round;
            goes_on = o.goes_on;
            given = o.given;
            grows = ap (λ (es : List Entry). es ++ part) o.grows ∙ append_assoc o.progress.entries o.more part;
            later = All-append (λ (e : Entry). o.progress.round ≤ e.round) o.more part o.later (λ i e w. let z = (a.entries i e w).round in omega arith);
          }
    ]

    no_later : (p : Progress) → All (λ (e : Entry). p.round ≤ e.round) []
    no_later p = All-nil (λ (e : Entry). p.round ≤ e.round)

    module _ (p q : Progress) (r : Reaches OneByOne limits bare plan p) (s : Reaches OneByOne limits bare plan q)
        (mine : IsLawfulSoFar limits bare granule_of p.entries) (yours : IsLawfulSoFar limits bare granule_of q.entries) where
      -- where a run came further it came as far before
      as_far : (o : Earlier p.round q) → SameSoFar p o.progress
      as_far o =
          same_progress p o.progress r o.reached (sym o.round) [] o.more (no_later p) o.later
          (subst (IsLawfulSoFar limits bare granule_of) (sym (append-nil p.entries)) mine) (subst (IsLawfulSoFar limits bare granule_of) o.grows yours)

      -- a run that ended has no round more
      not_further : (end : GuestEnd) → Ends OneByOne limits bare p end → p.round < q.round → ⊥
      not_further end ends l =
          let o = earlier p.round q s l in
          let so = as_far o in
          elim ends [
            | inl e ↦ (let z = sym e ∙ (ap (λ (x : Progress). end_in bare (state_after bare x.entries)) so.same ∙ o.goes_on) in cc)
            | inr e ↦ (let z = sym e.1 ∙ (ap (λ (x : Progress). list_any (λ (d : Due). nat_lt 0 d.given) (dues OneByOne limits bare x)) so.same ∙ o.given) in
                cc)
          ]

      further : p.round ≤ q.round → GoesOn p.entries q.entries
      further l = elim (cases_eq p.round q.round) [
        | inl e ↦
            let so = same_progress p q r s e [] [] (no_later p) (no_later q)
            (subst (IsLawfulSoFar limits bare granule_of) (sym (append-nil p.entries)) mine)
            (subst (IsLawfulSoFar limits bare granule_of) (sym (append-nil q.entries)) yours) in
            record {
              later = [];
              whole_is = ap (λ (x : Progress). x.entries) (sym so.same) ∙ sym (append-nil p.entries);
              of_later_rounds = All-nil (λ (e : Entry). All (λ (d : Entry). d.round < e.round) p.entries);
            }
        | inr d ↦
            let o = earlier p.round q s (omega arith) in
            let before = past OneByOne limits bare plan p r in
            let same = o.round in
            record {
              later = o.more;
              whole_is = o.grows ∙ ap (λ (x : Progress). x.entries ++ o.more) (sym (as_far o).same);
              of_later_rounds = λ i e l j d m. let x = o.later i e l in let y = before j d m in omega arith;
            }
      ]

  pub so_far : (entries : List Entry) → IsLawfulStart OneByOne limits plan bare granule_of entries → IsLawfulSoFar limits bare granule_of entries
  so_far entries lawful = record {
    faithful = lawful.faithful;
    labelled = lawful.labelled;
    notes = lawful.notes;
    checks = lawful.checks;
    stores = lawful.stores;
    loads = lawful.loads_last refl;
    rounds = subst RoundsNeverFall (sym lawful.rounds.history_is) (rounds_rise OneByOne limits bare plan lawful.rounds.progress lawful.rounds.reached);
    eras = subst ErasNeverFall (sym lawful.rounds.history_is) (eras_rise OneByOne limits bare plan lawful.rounds.progress lawful.rounds.reached);
  }

  -- a history that is lawful so far, in whole rounds
  pub start_of : (entries : List Entry) → IsLawfulSoFar limits bare granule_of entries → AreWholeRounds OneByOne limits plan bare entries →
      IsLawfulStart OneByOne limits plan bare granule_of entries
  start_of entries lawful rounds = record {
    faithful = lawful.faithful;
    rounds = rounds;
    labelled = lawful.labelled;
    notes = lawful.notes;
    checks = lawful.checks;
    stores = lawful.stores;
    loads = last_loads limits.epochs granule_of entries lawful.checks lawful.stores lawful.rounds lawful.loads;
    loads_last = λ m. lawful.loads;
  }

  pub start_of_whole : (mode : Mode) (entries : List Entry) → IsLawful mode limits plan bare granule_of entries →
      IsLawfulStart mode limits plan bare granule_of entries
  start_of_whole mode entries lawful = record {
    faithful = lawful.faithful;
    rounds = record { progress = lawful.rounds.progress; reached = lawful.rounds.reached; history_is = lawful.rounds.history_is };
    labelled = lawful.labelled;
    notes = lawful.notes;
    checks = lawful.checks;
    stores = lawful.stores;
    loads = lawful.loads;
    loads_last = lawful.loads_last;
  }

  module _ (local : LeaveLabels bare) (entries others : List Entry) (mine : IsLawfulStart OneByOne limits plan bare granule_of entries) where
    abbrev p : Progress
    p = mine.rounds.progress

    my : IsLawfulSoFar limits bare granule_of p.entries
    my = subst (IsLawfulSoFar limits bare granule_of) mine.rounds.history_is (so_far entries mine)

    module _ (yours : IsLawfulStart OneByOne limits plan bare granule_of others) where
      abbrev q : Progress
      q = yours.rounds.progress

      your : IsLawfulSoFar limits bare granule_of q.entries
      your = subst (IsLawfulSoFar limits bare granule_of) yours.rounds.history_is (so_far others yours)

      goes_on : p.round ≤ q.round → GoesOn entries others
      goes_on l =
          subst (λ (es : List Entry). GoesOn es others) (sym mine.rounds.history_is)
          (subst (GoesOn p.entries) (sym yours.rounds.history_is) (further local p q mine.rounds.reached yours.rounds.reached my your l))

      comes_back : q.round ≤ p.round → GoesOn others entries
      comes_back l =
          subst (λ (es : List Entry). GoesOn es entries) (sym yours.rounds.history_is)
          (subst (GoesOn q.entries) (sym mine.rounds.history_is) (further local q p yours.rounds.reached mine.rounds.reached your my l))

      pub in_order : GoesOn entries others ⊎ GoesOn others entries
      in_order = elim (cases_lt p.round q.round) [ inl l ↦ inl (goes_on (omega arith)) | inr l ↦ inr (comes_back (omega arith)) ]

    -- a whole run goes on after each lawful start
    pub begins_whole : IsLawful OneByOne limits plan bare granule_of others → GoesOn entries others
    unfolding start_of_whole
    begins_whole whole =
        let yours = start_of_whole OneByOne others whole in
        let q = whole.rounds.progress in
        elim (cases_lt q.round p.round) [
          | inl l ↦ absurd (not_further local q p whole.rounds.reached mine.rounds.reached (your yours) my whole.last.end whole.rounds.ends l)
          | inr l ↦ goes_on yours (omega arith)
        ]
