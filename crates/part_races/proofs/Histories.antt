-- From the first state on, the history collects what the workers told.
use Rattle.std.proofs.Common.{◌≡◌, ◌+◌, ℕ, List, [], ◌∷◌, ◌++◌, length, length-append, append_assoc, refl, sym, ap, subst, ◌∙◌, arith}
use Rattle.std.specs.Prelude.{map, Ok}
use Rattle.std.specs.List.{AllZip, flat_map}
use Rattle.std.proofs.lemmas.List.{map-append}
use Rattle.std.proofs.lemmas.Slice.Zip.{AllZip-long}
use Rattle.run_record.specs.declared.entry.Entry.{Entry}
use Rattle.run_record.specs.declared.limits.Limits.{Limits}
use Rattle.elf_image.specs.File.{image_of}
use Rattle.run_laws.specs.Moments.{Moment, moments, moments_in, era_moments, last_era}
use Rattle.run_laws.specs.Labels.{labels}
use Rattle.report_laws.specs.Awaited.{Awaited, Collects, Begin}
use Rattle.bare_machine.specs.World.{start}
use Rattle.turn_orders.specs.Lists.{Each}
use Rattle.turn_orders.specs.Machine.{State}
use Rattle.turn_orders.specs.LineUp.{Stamped, plain}
use Rattle.turn_laws.specs.Going.{AreAlike}
use Rattle.turn_laws.proofs.AlikeLaw.{alike-rounds}
use Rattle.watched_turns.specs.Rounds.{WatchedRound, round_told, position_after, RoundsStand, RoundsAreRight}
use Rattle.watched_turns.proofs.Run.{first_watched}
use Rattle.watched_turns.proofs.Rounds.{rounds_watched}
use Rattle.turn_histories.specs.Entries.{IsTold}
use Rattle.turn_histories.specs.Rounds.{IsIn, AreRoundsOf, all_entries, first_stamped}
use Rattle.turn_histories.proofs.Rounds.{eras_in, moments_of, rounds_moments, rounds_stand, all_told}
use Rattle.turn_histories.proofs.Alike.{rounds_alike, last_round, final_era}
use Rattle.turn_histories.proofs.Checked.{all_placed}
use Rattle.shared_table.specs.declared.object.Object.{Object}
use Rattle.shared_table.specs.declared.view.Layout.{Layout}
use Rattle.race_core.specs.Watched.{AreWatcherLimits}
use Rattle.race_core.specs.History.{era_now}
use Rattle.placed_detector.specs.Standing.{Hand}
use Rattle.placed_detector.proofs.First.{first_stands}
use Rattle.deed_histories.specs.Lines.{StandsStamped}
use Rattle.table_deeds.specs.Objects.{AreFirstObjects, held_at}
use Rattle.table_deeds.proofs.First.{first_kept}
use Rattle.hart_parts.specs.Rounds.{PartRound, ArePartRounds}
use Rattle.part_races.specs.Rounds.{AllAwait, era_after, entries_of_rounds}
use Rattle.part_races.proofs.Spans.{told_awaits}
use Rattle.part_races.proofs.Rounds.{TellsAs, all_follow}
use Rattle.part_races.proofs.Parts.{hands_await}
use Rattle.part_races.proofs.Collecting.{quiet_at, quiet_rounds, collects_told, collects_rounds, last_stands, last_right}
use Rattle.part_races.proofs.Moved.{same_length, alike_collects, collects_shorter, collects_until}
use Rattle.part_races.proofs.Last.{Split, split, as_many, last_tells, same_era, round_alike, eras_below, no_checks, no_era}

first_era : (g : ℕ) → era_now g [] ≡ 0
unfolding labels
first_era g = refl

module _ (file : List ℕ) (limits : Limits) (lay : Layout) (m : State (Stamped Hand) Object) (few : AreWatcherLimits limits)
    (first : AreFirstObjects file limits m) (ok : image_of file ≡ Ok file) where
  abbrev g : ℕ
  g = limits.epochs

  first_state_stands : StandsStamped file limits (held_at file limits m) (first_stamped file limits.slots) (start file limits.harts) []
  first_state_stands = record {
    standing = first_stands file limits few (plain (held_at file limits m)) (first_kept file limits m first).first;
    locals = λ t. sym ((first_kept file limits m first).threads t);
    values = λ k. sym ((first_kept file limits m first).places k);
  }

  -- ---- rounds of the watched machine that stand in a history, and tell what awaits

  record Told (rs : List PartRound) (wss : List (List Awaited)) : Type 0 where
    rounds : List WatchedRound
    told : AreRoundsOf file limits.harts g 0 0 rounds (entries_of_rounds rs)
    stand : RoundsStand (rounds_moments rounds (entries_of_rounds rs)) 0 rounds
    right : RoundsAreRight file g (rounds_moments rounds (entries_of_rounds rs)) 0 rounds
    waits : AllZip TellsAs rounds wss
    ends : map (λ (r : WatchedRound). r.ends) rounds ≡ map (λ (r : PartRound). r.ends) rs

  all_told_so : (rs : List PartRound) (wss : List (List Awaited)) → ArePartRounds file limits lay 0 0 0 m rs → AllAwait file limits 0 rs wss → Told rs wss
  all_told_so rs wss parts await =
      let hands = hands_await file limits lay rs wss 0 0 0 m parts await in
      let all = all_follow file limits ok hands.rounds wss (held_at file limits m) (first_stamped file limits.slots) (start file limits.harts) [] 0 0 0
      first_state_stands (first_era g) hands.are hands.await in
      let ess = entries_of_rounds rs in
      let told = subst (λ (x : List (List Entry)). AreRoundsOf file limits.harts g 0 0 all.rounds x) hands.entries all.told in
      let h = rounds_moments all.rounds ess in
      let stand = rounds_stand file limits.harts g [] 0 0 all.rounds ess told in
      record {
        rounds = all.rounds;
        told = told;
        stand = stand;
        right = (rounds_watched file limits.harts g limits.slots ok h (start file limits.harts) 0 0 (first_stamped file limits.slots) all.rounds
            (first_watched file limits.harts g limits.slots h) all.follow
            (all_placed file limits.harts g limits.slots ok 0 0 0 (first_stamped file limits.slots) all.rounds ess all.follow told) stand).right;
        waits = all.waits;
        ends = all.ends ∙ hands.ends;
      }

  -- ---- all rounds

  pub history_collects : (rs : List PartRound) (wss : List (List Awaited)) → ArePartRounds file limits lay 0 0 0 m rs → AllAwait file limits 0 rs wss →
      Collects g (moments (all_entries (entries_of_rounds rs))) 0 (length (moments (all_entries (entries_of_rounds rs))))
      (flat_map (λ (ws : List Awaited). ws) wss)
  history_collects rs wss parts await =
      let t = all_told_so rs wss parts await in
      let ess = entries_of_rounds rs in
      let all = all_entries ess in
      let h = rounds_moments t.rounds ess in
      let ws = flat_map (λ (xs : List Awaited). xs) wss in
      let round = last_round 0 t.rounds in
      let era = final_era 0 t.rounds in
      let k = moments_in round era all in
      let alike : AreAlike h k = rounds_alike file limits.harts g 0 0 [] [] t.rounds ess t.told (omega arith) tt in
      let n = position_after 0 t.rounds in
      let count : n ≡ length k = (let q = as_many file limits.harts g 0 0 0 t.rounds ess t.told in let l = same_length h k alike in omega (arith, q, l)) in
      let here = collects_rounds file g h 0 (λ i l. quiet_at h (quiet_rounds t.rounds ess) i) 0 t.rounds wss 0 [] (omega arith) Begin t.stand t.right t.waits in
      let there = alike_collects g h k alike 0 n ws here in
      let trailing = era_moments (last_era all) (length all) round era in
      let long = length-append (moments all) trailing in
      let cut = collects_until g k 0 (length (moments all)) n ws (omega arith) (omega (arith, count, long)) (no_checks round era all) there in
      collects_shorter g (moments all) trailing 0 (length (moments all)) ws (omega arith) cut

  -- ---- the last round

  module _ (before : List PartRound) (r : PartRound) (wss : List (List Awaited)) (ws : List Awaited)
      (parts : ArePartRounds file limits lay 0 0 0 m (before ++ r ∷ [])) (await : AllAwait file limits 0 (before ++ r ∷ []) (wss ++ ws ∷ [])) where
    abbrev done : List Entry
    done = all_entries (entries_of_rounds before)

    abbrev era : ℕ
    era = era_after 0 before

    t : Told (before ++ r ∷ []) (wss ++ ws ∷ [])
    t = all_told_so (before ++ r ∷ []) (wss ++ ws ∷ []) parts await

    both : entries_of_rounds (before ++ r ∷ []) ≡ entries_of_rounds before ++ r.entries ∷ []
    both = map-append (λ (p : PartRound). p.entries) before (r ∷ [])

    s : Split file limits.harts g 0 0 t.rounds (entries_of_rounds before) r.entries
    s = split file limits.harts g (entries_of_rounds before) r.entries t.rounds 0 0
        (subst (λ (x : List (List Entry)). AreRoundsOf file limits.harts g 0 0 t.rounds x) both t.told)

    abbrev pre : List Moment
    pre = rounds_moments s.early (entries_of_rounds before)

    abbrev h : List Moment
    h = rounds_moments t.rounds (entries_of_rounds (before ++ r ∷ []))

    era_is : final_era 0 s.early ≡ era
    era_is = same_era 0 s.early s.last before r (ap (λ (xs : List WatchedRound). map (λ (r : WatchedRound). r.ends) xs) (sym s.whole) ∙ t.ends)

    -- what the last round told
    told_last : told_awaits (round_told s.last) ≡ ws
    told_last = last_tells s.early s.last wss ws (subst (λ (xs : List WatchedRound). AllZip TellsAs xs (wss ++ ws ∷ [])) s.whole t.waits)

    abbrev n : ℕ
    n = position_after 0 s.early

    here : Collects g h n (n + length (round_told s.last)) ws
    here =
        let stand = last_stands h 0 s.early s.last (subst (λ (xs : List WatchedRound). RoundsStand h 0 xs) s.whole t.stand) in
        let right = last_right file g h 0 s.early s.last (subst (λ (xs : List WatchedRound). RoundsAreRight file g h 0 xs) s.whole t.right) in
        subst (Collects g h n (n + length (round_told s.last))) told_last
        (collects_told file g h 0 (λ i l. quiet_at h (quiet_rounds t.rounds (entries_of_rounds (before ++ r ∷ []))) i) n n (round_told s.last) []
        (omega arith) Begin stand right)

    begins_at : n ≡ length pre
    begins_at = let q = as_many file limits.harts g 0 0 0 s.early (entries_of_rounds before) s.told in omega (arith, q)

    ends_at : n + length (round_told s.last) ≡ length (pre ++ moments_of r.entries)
    ends_at =
        let told = AllZip-long IsTold (moments_of r.entries) (round_told s.last) (all_told file limits.harts g s.last.listed r.entries s.told_last.entries) in
        let start = begins_at in
        let long = length-append pre (moments_of r.entries) in
        omega (arith, told, start, long)

    whole : h ≡ (pre ++ moments_of r.entries) ++ (eras_in s.last.ends ++ [])
    whole = ap (rounds_moments t.rounds) both ∙ (s.moments_are ∙ sym (append_assoc pre (moments_of r.entries) (eras_in s.last.ends ++ [])))

    shorter : Collects g (pre ++ moments_of r.entries) (length pre) (length (pre ++ moments_of r.entries)) ws
    shorter = collects_shorter g (pre ++ moments_of r.entries) (eras_in s.last.ends ++ []) (length pre) (length (pre ++ moments_of r.entries)) ws (omega arith)
        (subst (λ (x : List Moment). Collects g x (length pre) (length (pre ++ moments_of r.entries)) ws) whole
        (subst (λ (i : ℕ). Collects g h i (length (pre ++ moments_of r.entries)) ws) begins_at
        (subst (λ (i : ℕ). Collects g h n i ws) ends_at here)))

    pre_alike : AreAlike pre (moments_in (last_round 0 s.early) (final_era 0 s.early) done)
    pre_alike = rounds_alike file limits.harts g 0 0 [] [] s.early (entries_of_rounds before) s.told (omega arith) tt

    begins_alike : (round : ℕ) → length pre ≡ length (moments_in round era done)
    begins_alike round =
        same_length pre (moments_in (last_round 0 s.early) (final_era 0 s.early) done) pre_alike
        ∙ (same_length (moments_in (last_round 0 s.early) (final_era 0 s.early) done) (moments_in round (final_era 0 s.early) done)
        (alike-rounds (last_round 0 s.early) round (final_era 0 s.early) done)
        ∙ ap (λ (e : ℕ). length (moments_in round e done)) era_is)

    ends_alike : (round : ℕ) → AreAlike (pre ++ moments_of r.entries) (moments_in round era (done ++ r.entries))
    ends_alike round = subst (λ (e : ℕ). AreAlike (pre ++ moments_of r.entries) (moments_in round e (done ++ r.entries))) era_is
        (round_alike file limits.harts g (last_round 0 s.early) (final_era 0 s.early) round done pre s.last r.entries s.told_last
        (eras_below file limits.harts g 0 0 [] s.early (entries_of_rounds before) s.told (omega arith)) pre_alike)

    -- the history up to the round's end collects what the round's workers told, from the round's beginning on
    pub round_collects : (round : ℕ) → Collects g (moments_in round era (done ++ r.entries)) (length (moments_in round era done))
        (length (moments_in round era (done ++ r.entries))) ws
    round_collects round =
        let k = moments_in round era (done ++ r.entries) in
        let moved = alike_collects g (pre ++ moments_of r.entries) k (ends_alike round) (length pre) (length (pre ++ moments_of r.entries)) ws shorter in
        subst (λ (i : ℕ). Collects g k i (length k) ws) (begins_alike round)
        (subst (λ (i : ℕ). Collects g k (length pre) i ws) (same_length (pre ++ moments_of r.entries) k (ends_alike round)) moved)

    -- where the round has entries, its end is the history's
    pub entries_collect : (round : ℕ) → (r.entries ≡ [] → ⊥) → Collects g (moments (done ++ r.entries)) (length (moments_in round era done))
        (length (moments (done ++ r.entries))) ws
    entries_collect round some =
        subst (λ (x : List Moment). Collects g x (length (moments_in round era done)) (length x) ws)
        (no_era (last_round 0 s.early) era round done r.entries
        (subst (λ (e : ℕ). Each (IsIn (last_round 0 s.early) e) r.entries) era_is s.told_last.inside) some) (round_collects round)
