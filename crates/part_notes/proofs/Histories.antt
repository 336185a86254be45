-- The notes of all rounds stand rightly.
use Rattle.std.proofs.Common.{◌≡◌, ◌≤◌, ◌+◌, ◌-◌, ℕ, Bool, true, false, cond, List, [], ◌∷◌, ◌++◌, length, length-append, map, append_assoc, append-nil, inl, inr, refl, sym, ap, ap₂, subst, ◌∙◌, arith}
use Rattle.std.specs.Prelude.{Ok, replicate}
use Rattle.std.specs.List.{enumerate_from}
use Rattle.std.proofs.lemmas.List.Sums.{fold-append}
use Rattle.elf_image.specs.File.{image_of}
use Rattle.run_record.specs.declared.event.Event.{Event}
use Rattle.run_record.specs.declared.entry.Entry.{Entry}
use Rattle.run_record.specs.declared.limits.Limits.{Limits}
use Rattle.run_laws.specs.Moments.{Moment, moments, moments_in, entry_moments, event_moment, last_era}
use Rattle.run_laws.specs.Faithful.{Bare, state_after, needs_slot}
use Rattle.run_laws.specs.Labels.{labels}
use Rattle.run_laws.specs.DeskNotes.{AreNotes}
use Rattle.run_laws.specs.Rounds.{NeedsLabel}
use Rattle.run_laws.proofs.MomentsLaw.{moments-push}
use Rattle.turn_laws.specs.Going.{AreAlike, era_moment}
use Rattle.turn_laws.proofs.AlikeLaw.{alike-rounds, one_more_era}
use Rattle.bare_machine.specs.World.{World, start}
use Rattle.machine_laws.specs.Machine.{bare_of}
use Rattle.machine_laws.proofs.ThreadLaw.{start_threads}
use Rattle.turn_orders.specs.Lists.{Each}
use Rattle.turn_orders.specs.Machine.{State, after}
use Rattle.turn_orders.specs.LineUp.{Stamped, plain, calls}
use Rattle.turn_histories.specs.Rounds.{IsIn, first_stamped}
use Rattle.turn_histories.proofs.Along.{world_over}
use Rattle.turn_histories.proofs.Rounds.{an_era, eras_in}
use Rattle.race_core.specs.Watched.{AreWatcherLimits}
use Rattle.race_core.specs.History.{era_now}
use Rattle.shared_table.specs.declared.object.Object.{Object}
use Rattle.shared_table.specs.declared.view.Layout.{Layout}
use Rattle.woven_turns.specs.Following.{left_after, deeds_of}
use Rattle.watched_turns.specs.Rounds as watched
use Rattle.placed_detector.specs.Standing.{Hand}
use Rattle.deed_histories.specs.Lines.{HandDeed, acts_of, IsHandDeed, entries_of, moments_of, StandsStamped}
use Rattle.deed_histories.specs.Rounds.{top}
use Rattle.placed_detector.proofs.First.{first_stands}
use Rattle.table_deeds.specs.Objects.{held_at, AreFirstObjects}
use Rattle.table_deeds.specs.Rounds.{last_stamp}
use Rattle.table_deeds.proofs.First.{first_kept}
use Rattle.table_deeds.proofs.Rounds.{OneRound}
use Rattle.hart_parts.specs.Rounds.{PartRound, table_round, IsPartRound, ArePartRounds}
use Rattle.part_notes.specs.Entries.{entries_in_rounds}
use Rattle.part_notes.proofs.Lists.{cut_at, cut_two}
use Rattle.part_notes.proofs.Notes.{IsNoted, needs_label, notes_stand}
use Rattle.part_notes.proofs.Walk.{Hands, Watched, turn, Advanced, advance, onward}
use Rattle.part_notes.proofs.Calm.{HasThreads, threads_over}
use Rattle.part_notes.proofs.Rounds.{era_over, one, listed, listed_each, listed_line, listed_left, is_noted}

-- ---- alike moments

alike_then : (h k l : List Moment) → AreAlike h k → AreAlike k l → AreAlike h l
alike_then [] [] [] a b = tt
alike_then [] [] (z ∷ l) a b = absurd b
alike_then [] (y ∷ k) l a b = absurd a
alike_then (x ∷ h) [] l a b = absurd a
alike_then (x ∷ h) (y ∷ k) [] a b = absurd b
alike_then (x ∷ h) (y ∷ k) (z ∷ l) a b = ((a.0.0 ∙ b.0.0, a.0.1 ∙ b.0.1), alike_then h k l a.1 b.1)

alike_both : (h k x y : List Moment) → AreAlike h k → AreAlike x y → AreAlike (h ++ x) (k ++ y)
alike_both [] [] x y a b = b
alike_both [] (m ∷ k) x y a b = absurd a
alike_both (n ∷ h) [] x y a b = absurd a
alike_both (n ∷ h) (m ∷ k) x y a b = (a.0, alike_both h k x y a.1 b)

numbered_alike : (k : ℕ) (e : Entry) (n : ℕ) (es : List Event) →
    AreAlike (map (event_moment 0 e) (enumerate_from n es)) (map (event_moment k e) (enumerate_from n es))
numbered_alike k e n [] = tt
numbered_alike k e n (x ∷ es) = ((refl, refl), numbered_alike k e (n + 1) es)

-- an entry has the same moments whatever its number is
entry_alike : (k : ℕ) (e : Entry) → AreAlike (entry_moments 0 e) (entry_moments k e)
entry_alike k e = ((refl, refl), numbered_alike k e 0 e.events)

last_pushed : (done : List Entry) (e : Entry) → last_era (done ++ e ∷ []) ≡ e.era
last_pushed done e = fold-append (λ (era : ℕ) (e : Entry). e.era) 0 done (e ∷ [])

-- one more entry of the round
entry_more : (round era : ℕ) (done : List Entry) (e : Entry) → IsIn round era e →
    moments_in round era (done ++ e ∷ []) ≡ moments_in round era done ++ entry_moments (length done) e
entry_more round era done e in_ =
    let none : era - last_era (done ++ e ∷ []) ≡ 0 = (let q = last_pushed done e in let r = in_.era in omega (arith, q, r)) in
    ap (λ (n : ℕ). moments (done ++ e ∷ []) ++ replicate n (era_moment (length (done ++ e ∷ [])) round)) none
    ∙ (append-nil (moments (done ++ e ∷ []))
    ∙ (moments-push done e ∙ ap₂ (λ (r a : ℕ). moments_in r a done ++ entry_moments (length done) e) in_.round in_.era))

entries_more : (round era : ℕ) (done es : List Entry) (pre : List Moment) → Each (IsIn round era) es → AreAlike pre (moments_in round era done) →
    AreAlike (pre ++ moments_of es) (moments_in round era (done ++ es))
entries_more round era done [] pre inside a =
    subst (λ (x : List Moment). AreAlike x (moments_in round era (done ++ []))) (sym (append-nil pre))
    (subst (λ (x : List Entry). AreAlike pre (moments_in round era x)) (sym (append-nil done)) a)
entries_more round era done (e ∷ es) pre inside a =
    let grown = subst (AreAlike (pre ++ entry_moments 0 e)) (sym (entry_more round era done e inside.0))
    (alike_both pre (moments_in round era done) (entry_moments 0 e) (entry_moments (length done) e) a (entry_alike (length done) e)) in
    subst (λ (x : List Moment). AreAlike x (moments_in round era (done ++ e ∷ es))) (append_assoc pre (entry_moments 0 e) (moments_of es))
    (subst (λ (x : List Entry). AreAlike ((pre ++ entry_moments 0 e) ++ moments_of es) (moments_in round era x)) (append_assoc done (e ∷ []) es)
    (entries_more round era (done ++ e ∷ []) es (pre ++ entry_moments 0 e) inside.1 grown))

-- the last entry's era is no later than the round's
last_below : (round era : ℕ) (done es : List Entry) → Each (IsIn round era) es → last_era done ≤ era → last_era (done ++ es) ≤ era
last_below round era done [] inside l = (let q = ap last_era (append-nil done) in omega (arith, q, l))
last_below round era done (e ∷ es) inside l =
    let here : last_era (done ++ e ∷ []) ≤ era = (let q = last_pushed done e in let r = inside.0.era in omega (arith, q, r)) in
    let rest = last_below round era (done ++ e ∷ []) es inside.1 here in
    let q = ap last_era (append_assoc done (e ∷ []) es) in
    omega (arith, q, rest)

-- where a round ends, and its era, if it does
eras_more : (round era : ℕ) (done : List Entry) (ends : Bool) (pre : List Moment) → last_era done ≤ era → AreAlike pre (moments_in round era done) →
    AreAlike (pre ++ eras_in ends) (moments_in (round + 1) (cond ends (era + 1) era) done)
eras_more round era done false pre l a =
    subst (λ (x : List Moment). AreAlike x (moments_in (round + 1) era done)) (sym (append-nil pre))
    (alike_then pre (moments_in round era done) (moments_in (round + 1) era done) a (alike-rounds round (round + 1) era done))
eras_more round era done true pre l a =
    subst (AreAlike (pre ++ an_era ∷ [])) (sym (one_more_era (round + 1) era done l))
    (alike_both pre (moments_in (round + 1) era done) (an_era ∷ []) (era_moment (length done) (round + 1) ∷ [])
    (alike_then pre (moments_in round era done) (moments_in (round + 1) era done) a (alike-rounds round (round + 1) era done)) ((refl, refl), tt))

below_next : (ends : Bool) (n era : ℕ) → n ≤ era → n ≤ cond ends (era + 1) era
below_next true n era l = omega (arith, l)
below_next false n era l = l

first_era : (g : ℕ) → era_now g [] ≡ 0
unfolding labels
first_era g = refl

-- ---- round after round

module _ (file : List ℕ) (limits : Limits) (ok : image_of file ≡ Ok file) (lay : Layout) where
  abbrev bare : Bare World
  bare = bare_of file limits.harts

  abbrev Objects : Type 0
  Objects = State (Stamped Hand) Object

  -- what stands before a round
  record Before (round era : ℕ) (m : Objects) (done : List Entry) : Type 0 where
    machine : Watched
    world : World
    history : List Moment
    stands : StandsStamped file limits (held_at file limits m) machine world history
    era_is : era_now limits.epochs history ≡ era
    threads : HasThreads file limits.harts world
    alike : AreAlike history (moments_in round era done)
    low : last_era done ≤ era
    world_is : world ≡ state_after bare done

  -- what stands behind it
  module _ (round era : ℕ) (m : Objects) (r : PartRound) (hr : IsPartRound file limits lay round era m r) (done : List Entry)
      (b : Before round era m done) where
    abbrev it : OneRound file limits lay round era m (table_round m r)
    it = one file limits ok lay round era m r hr

    abbrev ds : List HandDeed
    ds = listed file limits ok lay round era m r hr

    entries_are : entries_of ds ≡ r.entries
    entries_are = it.entries

    each_made : Each (IsHandDeed file limits (era_now limits.epochs b.history)) ds
    each_made = subst (λ (n : ℕ). Each (IsHandDeed file limits n) ds) (sym b.era_is) (listed_each file limits ok lay round era m r hr)

    all_of_it : Advanced file limits ok (held_at file limits m) b.machine b.world b.history ds
    all_of_it =
        advance file limits ok ds (held_at file limits m) b.machine b.world b.history (listed_line file limits ok lay round era m r hr) each_made b.stands

    behind : Before (round + 1) (cond r.ends (era + 1) era) r.next (done ++ r.entries)
    behind =
        let left = listed_left file limits ok lay round era m r hr in
        let es = entries_of ds in
        let h = b.history ++ moments_of es in
        let w = world_over file limits.harts b.world es in
        let machine = after (turn file limits ok) b.machine (calls (deeds_of (turn file limits ok) acts_of b.machine ds)) in
        let stands = subst (λ (x : Hands). StandsStamped file limits x machine w h) left all_of_it.stands in
        let now : era_now limits.epochs h ≡ era = era_over limits.epochs b.history es ∙ b.era_is in
        let o = onward file limits ok (left_after (held_at file limits m) it.it.made) machine w h (top it.it) era it.it.ends stands now it.is_round.begun in
        let inside = it.is_round.inside in
        let alike = entries_more round era done es b.history inside b.alike in
        let low = last_below round era done es inside b.low in
        let raw : Before (round + 1) (cond it.it.ends (era + 1) era) r.next (done ++ es) = record {
          machine = watched.between limits.slots (top it.it) it.it.ends machine;
          world = w;
          history = h ++ eras_in it.it.ends;
          stands = subst (λ (x : Hands). StandsStamped file limits x (watched.between limits.slots (top it.it) it.it.ends machine) w (h ++ eras_in it.it.ends))
              it.after_it o.stands;
          era_is = o.era_is;
          threads = threads_over file limits.harts b.world (deeds_of (turn file limits ok) acts_of b.machine ds) es all_of_it.facts b.threads;
          alike = eras_more round era (done ++ es) it.it.ends h low alike;
          low = below_next it.it.ends (last_era (done ++ es)) era low;
          world_is =
              ap (λ (x : World). world_over file limits.harts x es) b.world_is
              ∙ sym (fold-append (λ (x : World) (f : Entry). Rattle.run_laws.specs.Faithful.after bare x f.tid f.steps) bare.start done es);
        } in
        subst (λ (ends : Bool). Before (round + 1) (cond ends (era + 1) era) r.next (done ++ r.entries)) it.ends_is
        (subst (λ (es : List Entry). Before (round + 1) (cond it.it.ends (era + 1) era) r.next (done ++ es)) entries_are raw)

    -- each of its entries has its notes
    here_noted : (later : List Entry) (front : List Entry) (e : Entry) (back : List Entry) → r.entries ≡ front ++ e ∷ back →
        IsNoted limits (needs_slot bare (done ++ (r.entries ++ later))) (done ++ front) e (back ++ later)
    here_noted later front e back whole =
        let q = cut_at (λ (d : HandDeed). d.told.entry) ds front e back (entries_are ∙ whole) in
        let n = is_noted file limits ok lay round era m r hr b.machine b.world b.history done later b.stands b.era_is b.threads
        (λ es inside. entries_more round era done es b.history inside b.alike) b.world_is q.first q.it q.others q.whole in
        let all_is = subst (λ (es : List Entry). IsNoted limits (needs_slot bare (done ++ (es ++ later))) (done ++ entries_of q.first) q.it.told.entry
        (entries_of q.others ++ later)) entries_are n in
        subst (λ (es : List Entry). IsNoted limits (needs_slot bare (done ++ (r.entries ++ later))) (done ++ front) e (es ++ later)) q.rest
        (subst (λ (x : Entry). IsNoted limits (needs_slot bare (done ++ (r.entries ++ later))) (done ++ front) x (entries_of q.others ++ later)) q.is
        (subst (λ (es : List Entry). IsNoted limits (needs_slot bare (done ++ (r.entries ++ later))) (done ++ es) q.it.told.entry
        (entries_of q.others ++ later)) q.firsts all_is))

  all_noted : (rs : List PartRound) (round era base : ℕ) (m : Objects) (done : List Entry) → Before round era m done →
      ArePartRounds file limits lay round era base m rs → (front : List Entry) (e : Entry) (back : List Entry) →
      entries_in_rounds rs ≡ front ++ e ∷ back → IsNoted limits (needs_slot bare (done ++ entries_in_rounds rs)) (done ++ front) e back
  all_noted [] round era base m done b h front e back whole =
      absurd (let z = ap (λ (es : List Entry). length es) whole in omega (arith, z, length-append front (e ∷ back)))
  all_noted (r ∷ rs) round era base m done b h front e back whole =
      let later = entries_in_rounds rs in
      elim (cut_two r.entries later front e back whole) [
        | inl q ↦
            subst (λ (es : List Entry). IsNoted limits (needs_slot bare (done ++ (r.entries ++ later))) (done ++ front) e es) (sym q.back_is)
            (here_noted round era m r h.1 done b later front e q.rest q.whole)
        | inr q ↦
            let n = all_noted rs (round + 1) (cond r.ends (era + 1) era) (last_stamp (table_round m r)) r.next (done ++ r.entries)
            (behind round era m r h.1 done b) h.2 q.first e back q.whole in
            let moved = subst (λ (es : List Entry). IsNoted limits (needs_slot bare es) ((done ++ r.entries) ++ q.first) e back)
            (append_assoc done r.entries later) n in
            subst (λ (es : List Entry). IsNoted limits (needs_slot bare (done ++ (r.entries ++ later))) es e back)
            (append_assoc done r.entries q.first ∙ ap (λ (es : List Entry). done ++ es) (sym q.front_is)) moved
      ]

  -- ---- from a new table on

  module _ (ranges : AreWatcherLimits limits) (some : 1 ≤ limits.harts) (m : Objects) (first : AreFirstObjects file limits m) where
    at_first : Before 0 0 m []
    at_first = record {
      machine = first_stamped file limits.slots;
      world = start file limits.harts;
      history = [];
      stands =
          let kept = first_kept file limits m first in
          record {
            standing = first_stands file limits ranges (plain (held_at file limits m)) kept.first;
            locals = λ t. sym (kept.threads t);
            values = λ k. sym (kept.places k);
          };
      era_is = first_era limits.epochs;
      threads = start_threads file limits.harts some;
      alike = tt;
      low = omega arith;
      world_is = refl;
    }

    module _ (rs : List PartRound) (h : ArePartRounds file limits lay 0 0 0 m rs) where
      abbrev all : List Entry
      all = entries_in_rounds rs

      noted : (done : List Entry) (e : Entry) (rest : List Entry) → all ≡ done ++ e ∷ rest → IsNoted limits (needs_slot bare all) done e rest
      noted done e rest whole = all_noted rs 0 0 0 m [] at_first h done e rest whole

      pub all_labelled : NeedsLabel limits (needs_slot bare all) (moments all)
      all_labelled = needs_label limits (needs_slot bare all) all noted

      pub all_notes : AreNotes limits (needs_slot bare all) (moments all)
      all_notes = notes_stand limits (needs_slot bare all) all noted
