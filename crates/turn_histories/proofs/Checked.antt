-- The checks of the entries of all rounds.
use Rattle.std.proofs.Common.{◌≡◌, ◌<◌, ◌≤◌, ◌⊎◌, inl, inr, ℕ, zero, suc, ◌+◌, Bool, true, false, cond, List, [], ◌∷◌, ◌++◌, length, Option, refl, sym, ap, ap₂, subst, ◌∙◌, arith, length-append}
use Rattle.std.specs.Prelude.{All, Contains, slice_index_or, Ok}
use Rattle.std.specs.List.{AllZip}
use Rattle.std.proofs.lemmas.Bool.{cases_lt}
use Rattle.std.proofs.lemmas.Slice.Zip.{AllZip-long}
use mathlib.Core.Path.{fun_ext}
use Rattle.elf_image.specs.File.{image_of, granule_of}
use Rattle.run_record.specs.declared.event.Event.{Event}
use Rattle.run_record.specs.declared.entry.Entry.{Entry}
use Rattle.run_record.specs.declared.entry.Check.{Check}
use Rattle.run_laws.specs.Moments.{Item, Does, NewEra, Moment, items, moment_at, moments, moments_in, era_moments, last_era}
use Rattle.run_laws.specs.Accesses.{Access, access_of, parts_of}
use Rattle.run_laws.specs.Labels.{label_of}
use Rattle.run_laws.specs.Window.{trace_before}
use Rattle.run_laws.specs.Checks.{ChecksPart, AreChecks, IsGrouped, AreAllChecks, StoresRightly, AllStoreRightly}
use Rattle.run_laws.proofs.PresentLaw.{trace_stay}
use Rattle.run_laws.proofs.MomentsLaw.{checks_of_event}
use Rattle.turn_laws.specs.Going.{AreAlike}
use Rattle.turn_laws.proofs.Carry.{at_stay, items_stay, does_inside, label_stay, weaken}
use Rattle.bare_machine.specs.World.{start}
use Rattle.turn_orders.specs.Lists.{Each, In, SameMembers}
use Rattle.turn_orders.specs.Machine.{State, many}
use Rattle.turn_orders.specs.LineUp.{Stamped, stamped}
use Rattle.turn_orders.specs.Rounds.{AreRounds, top, made_end}
use Rattle.turn_orders.proofs.Members.{all_members, at_member}
use Rattle.joint_turns.specs.Joint.{Value}
use Rattle.watched_turns.specs.Turns.{Local, Told, watched_turn}
use Rattle.watched_turns.specs.Along.{StandFrom, IsRight, IsRightEvent, AreRight, StampedDeed, WasPlaced}
use Rattle.watched_turns.specs.Rounds.{WatchedRound, between, round_told, round_end, position_after, AllPlaced, EraStands, RoundsStand, RoundsAreRight}
use Rattle.watched_turns.proofs.Run.{first_watched}
use Rattle.watched_turns.proofs.Rounds.{rounds_watched}
use Rattle.turn_histories.specs.Entries.{IsEntryOf}
use Rattle.turn_histories.specs.Rounds.{IsIn, AreRoundsOf, all_entries, first_stamped}
use Rattle.turn_histories.proofs.Rounds.{eras_in, moments_of, rounds_moments, rounds_stand, all_told, era_length}
use Rattle.turn_histories.proofs.Alike.{same_items, same_checks, rounds_alike, last_round, final_era}

-- ---- what is right at a position

-- the event has its checks, and they store by the rule
pub record Right (file : List ℕ) (g : ℕ) (h : List Moment) (n t : ℕ) (e : Event) : Type 0 where
  pub checks : AreChecks g (granule_of file) h n t (access_of e)
  pub stores : All StoresRightly (moment_at h n).checks

module _ (file : List ℕ) (g : ℕ) (h : List Moment) (n t : ℕ) (e : Event) (is : items h n ≡ Does t e) where
  told_right : (p : ℕ) (xs : List Told) → StandFrom h p xs → AreRight file g h p xs → p ≤ n → n < p + length xs → Right file g h n t e
  told_right p [] stand right l m = absurd (omega arith)
  told_right p (x ∷ xs) stand right l m = elim (cases_lt p n) [
    | inl later ↦ told_right (suc p) xs stand.1 right.1 (omega (arith, later)) (omega (arith, m))
    | inr same ↦
        let q : p ≡ n = omega (arith, l, same) in
        let item : x.item ≡ Does t e = sym stand.0.item ∙ (ap (items h) q ∙ is) in
        let here : IsRightEvent file g h p t e x.race = subst (λ (i : Item). IsRight file g h p i x.race) item right.0 in
        let there : IsRightEvent file g h n t e x.race = subst (λ (i : ℕ). IsRightEvent file g h i t e x.race) q here in
        record { checks = there.checks; stores = there.stores }
  ]

  era_not : (p : ℕ) (ends : Bool) → EraStands h p ends → p ≤ n → n < p + cond ends 1 0 → ⊥
  era_not p true s l m = (let q : p ≡ n = omega (arith, l, m) in let z : NewEra ≡ Does t e = sym s ∙ (ap (items h) q ∙ is) in absurd (cc))
  era_not p false s l m = omega (arith, l, m)

  pub round_right : (p : ℕ) (rs : List WatchedRound) → RoundsStand h p rs → RoundsAreRight file g h p rs → p ≤ n → n < position_after p rs → Right file g h n t e
  round_right p [] stand right l m = absurd (omega (arith, l, m))
  round_right p (r ∷ rs) stand right l m = elim (cases_lt n (p + length (round_told r))) [
    | inl here ↦ told_right p (round_told r) stand.0 right.0 l here
    | inr after ↦ elim (cases_lt n (round_end p r)) [
      | inl era ↦ absurd (era_not (p + length (round_told r)) r.ends stand.1 after era)
      | inr later ↦ round_right (round_end p r) rs stand.2 right.1 later m
    ]
  ]

-- ---- moved to other moments

module _ (g : ℕ) (granules : ℕ → Option ℕ) (h k : List Moment) (n t : ℕ) (label : label_of g (items h) n t ≡ label_of g (items k) n t) (trace : trace_before g (items h) n t ≡ trace_before g (items k) n t) (checks : (moment_at h n).checks ≡ (moment_at k n).checks) where
  pub checks_moved : (a : Option Access) → AreChecks g granules h n t a → AreChecks g granules k n t a
  checks_moved Option.None c = sym checks ∙ c
  checks_moved (Option.Some a) c =
      subst (λ (cs : List Check). AllZip (ChecksPart g k n t a) (parts_of granules a) cs) checks
      (weaken (ChecksPart g h n t a) (ChecksPart g k n t a) (parts_of granules a) (moment_at h n).checks
      (λ part check p. record {
        label = p.label;
        labelled = sym label ∙ p.labelled;
        granule = p.granule;
        word = p.word;
        turn = rw (sym trace) p.turn;
        four = p.four;
      }) c)

-- ---- all rounds

module _ (file : List ℕ) (harts g slots : ℕ) (ok : image_of file ≡ Ok file) where
  abbrev last_of : Stamped Local → ℕ
  last_of l = l.last

  abbrev value_last : Stamped Value → ℕ
  value_last x = x.last

  zip_placed : (ds : List StampedDeed) (es : List Entry) → AllZip (IsEntryOf file harts g) ds es → Each (WasPlaced file harts g) ds
  zip_placed [] [] z = tt
  zip_placed [] (e ∷ es) z = absurd z
  zip_placed (d ∷ ds) [] z = absurd z
  zip_placed (d ∷ ds) (e ∷ es) z = (z.0.placed, zip_placed ds es z.1)

  pub all_placed : (base round era : ℕ) (m : State (Stamped Local) (Stamped Value)) (rs : List WatchedRound) (ess : List (List Entry)) → AreRounds (stamped (many (watched_turn file harts g))) (between slots) last_of value_last base m rs → AreRoundsOf file harts g round era rs ess → AllPlaced file harts g rs
  all_placed base round era m [] ess rounds of = tt
  all_placed base round era m (r ∷ rs) [] rounds of = absurd of
  all_placed base round era m (r ∷ rs) (es ∷ ess) (same, made, later) of =
      let listed = zip_placed r.listed es of.0.entries in
      let turn = stamped (many (watched_turn file harts g)) in (
        all_members (WasPlaced file harts g) r.made (λ d i. at_member (WasPlaced file harts g) d r.listed listed ((made.same d).0 i)),
        all_placed (top turn (between slots) last_of value_last r) (round + 1) (cond r.ends (era + 1) era) (made_end turn (between slots) last_of value_last m r) rs ess later of.1,
      )

  -- how many moments the rounds have
  moments_count : (p round era : ℕ) (rs : List WatchedRound) (ess : List (List Entry)) → AreRoundsOf file harts g round era rs ess → position_after p rs ≡ p + length (rounds_moments rs ess)
  moments_count p round era [] [] of = omega arith
  moments_count p round era [] (es ∷ ess) of = absurd of
  moments_count p round era (r ∷ rs) [] of = absurd of
  moments_count p round era (r ∷ rs) (es ∷ ess) of =
      let rest = moments_count (round_end p r) (round + 1) (cond r.ends (era + 1) era) rs ess of.1 in
      let told = AllZip-long Rattle.turn_histories.specs.Entries.IsTold (moments_of es) (round_told r) (all_told file harts g r.listed es of.0.entries) in
      omega (arith, rest, told, era_length file harts g r.ends, length-append (moments_of es) (eras_in r.ends ++ rounds_moments rs ess), length-append (eras_in r.ends) (rounds_moments rs ess))

  module _ (rs : List WatchedRound) (ess : List (List Entry)) (rounds : AreRounds (stamped (many (watched_turn file harts g))) (between slots) last_of value_last 0 (first_stamped file slots) rs) (of : AreRoundsOf file harts g 0 0 rs ess) where
    abbrev all : List Entry
    all = all_entries ess

    abbrev h : List Moment
    h = rounds_moments rs ess

    abbrev trailing : List Moment
    trailing = era_moments (last_era all) (length all) (last_round 0 rs) (final_era 0 rs)

    stand : RoundsStand h 0 rs
    stand = rounds_stand file harts g [] 0 0 rs ess of

    right : RoundsAreRight file g h 0 rs
    right = (rounds_watched file harts g slots ok h (start file harts) 0 0 (first_stamped file slots) rs (first_watched file harts g slots h) rounds (all_placed 0 0 0 (first_stamped file slots) rs ess rounds of) stand).right

    alike : AreAlike h (moments all ++ trailing)
    alike = rounds_alike file harts g 0 0 [] [] rs ess of (omega arith) tt

    same : items h ≡ items (moments all ++ trailing)
    same = fun_ext (λ i. same_items h (moments all ++ trailing) i alike)

    right_at : (n t : ℕ) (e : Event) → items (moments all) n ≡ Does t e → Right file g (moments all) n t e
    right_at n t e is =
        let inside = does_inside (moments all) n t e is in
        let there : items h n ≡ Does t e = ap (λ (f : ℕ → Item). f n) same ∙ (items_stay (moments all) trailing n inside ∙ is) in
        let within = does_inside h n t e there in
        let here = round_right file g h n t e there 0 rs stand right (omega arith) (omega (arith, within, moments_count 0 0 0 rs ess of)) in
        let label : label_of g (items h) n t ≡ label_of g (items (moments all)) n t = ap (λ (f : ℕ → Item). label_of g f n t) same ∙ label_stay g (moments all) trailing n t (omega (arith, inside)) in
        let trace : trace_before g (items h) n t ≡ trace_before g (items (moments all)) n t = ap (λ (f : ℕ → Item). trace_before g f n t) same ∙ trace_stay g (moments all) trailing n t (omega (arith, inside)) in
        let checks : (moment_at h n).checks ≡ (moment_at (moments all) n).checks = same_checks h (moments all ++ trailing) n alike ∙ ap (λ (m : Moment). m.checks) (at_stay (moments all) trailing n inside) in
        record { checks = checks_moved g (granule_of file) h (moments all) n t label trace checks (access_of e) here.checks; stores = subst (All StoresRightly) checks here.stores }

    grouped_zip : (ds : List StampedDeed) (es : List Entry) → AllZip (IsEntryOf file harts g) ds es → All IsGrouped es
    grouped_zip [] [] z = Rattle.std.proofs.lemmas.List.Elements.All-nil IsGrouped
    grouped_zip [] (e ∷ es) z = absurd z
    grouped_zip (d ∷ ds) [] z = absurd z
    grouped_zip (d ∷ ds) (e ∷ es) z = Rattle.std.proofs.lemmas.List.Elements.All-cons IsGrouped e es z.0.grouped (grouped_zip ds es z.1)

    grouped_rounds : (round era : ℕ) (rs : List WatchedRound) (ess : List (List Entry)) → AreRoundsOf file harts g round era rs ess → All IsGrouped (all_entries ess)
    grouped_rounds round era [] [] of = Rattle.std.proofs.lemmas.List.Elements.All-nil IsGrouped
    grouped_rounds round era [] (es ∷ ess) of = absurd of
    grouped_rounds round era (r ∷ rs) [] of = absurd of
    grouped_rounds round era (r ∷ rs) (es ∷ ess) of =
        Rattle.std.proofs.lemmas.List.Elements.All-append IsGrouped es (all_entries ess) (grouped_zip r.listed es of.0.entries) (grouped_rounds (round + 1) (cond r.ends (era + 1) era) rs ess of.1)

    pub all_checks : AreAllChecks g (granule_of file) all (moments all)
    all_checks = record { of_events = λ n t e is. (right_at n t e is).checks; grouped = grouped_rounds 0 0 rs ess of }

    pub all_stores : AllStoreRightly (moments all)
    all_stores n c within =
        let event = checks_of_event all n (λ none. Rattle.run_laws.proofs.LastLoads.not_none (moments all) n c within none) in
        subst StoresRightly within.2 ((right_at n event.0 event.1 event.2).stores within.0 c within.1)
