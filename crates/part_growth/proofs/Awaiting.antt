-- What the gathered instructions and the deeds of a part await.
use Rattle.std.proofs.Common.{◌≡◌, ℕ, List, [], ◌∷◌, ◌++◌, refl, ap₂, subst, ◌∙◌}
use Rattle.run_record.specs.declared.limits.Limits.{Limits}
use Rattle.run_record.specs.declared.event.Event.{Event}
use Rattle.run_record.specs.declared.entry.Check.{Check}
use Rattle.run_record.specs.declared.entry.Entry.{Entry}
use Rattle.run_record.specs.declared.entry.DeskNote.{DeskNote}
use Rattle.report_laws.specs.Awaited.{Awaited}
use Rattle.place_turns.specs.Places.{of_nobody}
use Rattle.watched_turns.specs.Checking.{Loads}
use Rattle.placed_detector.specs.Standing.{Hand, Held}
use Rattle.placed_detector.specs.Instructions.{Beside, beside, HearsEvents}
use Rattle.deed_histories.specs.Deeds.{Made, all_events, TellsMade, TellsNote}
use Rattle.part_races.specs.Awaits.{AwaitsEvents, AwaitsInstruction, AwaitsMade, AwaitsGathered, AwaitsIn, Quiet, Makes}
use Rattle.part_races.proofs.Growing.{one_more_made, gathered_there}
use Rattle.part_growth.specs.Growth.{MakesLocal, AreLocal}
use Rattle.part_growth.proofs.Gathering.{some_held}

-- ---- instructions without events

first_none : (es fs : List Event) → es ++ fs ≡ [] → es ≡ []
first_none [] fs q = refl
first_none (e ∷ es) fs q = let r : e ∷ (es ++ fs) ≡ [] = q in absurd (cc)

later_none : (es fs : List Event) → es ++ fs ≡ [] → fs ≡ []
later_none [] fs q = q
later_none (e ∷ es) fs q = let r : e ∷ (es ++ fs) ≡ [] = q in absurd (cc)

-- without events nothing awaits
no_events_await : (k t : ℕ) (es : List Event) (css : List (List Check)) (b c : Beside) (ws : List Awaited) → es ≡ [] →
    AwaitsEvents k t es css b c ws → ws ≡ []
no_events_await k t [] [] b c ws q a = a.1
no_events_await k t [] (cs ∷ css) b c ws q a = absurd a
no_events_await k t (e ∷ es) css b c ws q a = absurd (cc)

quiet_events : (file : List ℕ) (k t : ℕ) (loads : Loads) (i : ℕ) (es : List Event) (css : List (List Check)) (b c : Beside) → es ≡ [] →
    HearsEvents file k t loads i es css b c → AwaitsEvents k t es css b c []
quiet_events file k t loads i [] [] b c q h = (h, refl)
quiet_events file k t loads i [] (cs ∷ css) b c q h = absurd h
quiet_events file k t loads i (e ∷ es) css b c q h = absurd (cc)

module _ (file : List ℕ) (limits : Limits) (era t : ℕ) where
  -- of an instruction without events nothing awaits, wherever it is made
  pub quiet_one : (x : Made) (found left : Hand) → MakesLocal file limits.harts era t x found left → x.events ≡ [] → (k : ℕ) (held : Held) →
      AwaitsInstruction file limits.harts era t k x found left held held []
  quiet_one x found left m q k held = record {
    makes = m.instruction k held;
    awaits = quiet_events file k t x.loads 0 x.events x.checks (beside found held) (beside left held) q (m.instruction k held).heard;
  }

  -- nor of such instructions one after another
  pub quiet_all : (xs : List Made) (found left : Hand) → AreLocal file limits.harts era t xs found left → all_events xs ≡ [] →
      AwaitsGathered file limits.harts era t xs found left []
  quiet_all [] found left a q = (a, refl)
  quiet_all (x ∷ xs) found left a q = (
    a.0,
    [],
    [],
    quiet_one x found a.0 a.1 (first_none x.events (all_events xs) q),
    quiet_all xs a.0 left a.2 (later_none x.events (all_events xs) q),
    refl,
  )

  -- what was said to await of instructions without events is nothing
  pub none_await : (xs : List Made) (found left : Hand) (ws : List Awaited) → AwaitsGathered file limits.harts era t xs found left ws →
      all_events xs ≡ [] → ws ≡ []
  none_await [] found left ws a q = a.1
  none_await (x ∷ xs) found left ws a q =
      let first = no_events_await 0 t x.events x.checks _ _ a.1 (first_none x.events (all_events xs) q) (a.3 0 (some_held limits of_nobody)).awaits in
      let later = none_await xs a.0 left a.2 a.4 (later_none x.events (all_events xs) q) in
      a.5 ∙ ap₂ (λ (us vs : List Awaited). us ++ vs) first later

  -- ---- deeds

  -- of a slot that is taken or left nothing awaits
  pub noted_awaits : (k : ℕ) (e : Entry) (place_found place_left : Held) (note : DeskNote) (found left : Hand) → TellsNote t note e →
      AwaitsIn file limits era t k found left place_found place_left e []
  noted_awaits k e place_found place_left note found left tells = Quiet tells.events

  -- of gathered instructions and one at an object behind them awaits what does of the first, and then what does of the last
  pub with_one : (k : ℕ) (e : Entry) (place_found place_left : Held) (xs : List Made) (x : Made) (found now left : Hand) (ws later : List Awaited) →
      AwaitsGathered file limits.harts era t xs found now ws →
      AwaitsInstruction file limits.harts era t k x now left place_found place_left later → TellsMade t (xs ++ x ∷ []) e →
      AwaitsIn file limits era t k found left place_found place_left e (ws ++ later)
  with_one k e place_found place_left xs x found now left ws later a i tells = Makes (xs ++ x ∷ []) (ws ++ later)
      (one_more_made file limits.harts era t k xs x found now left place_found place_found place_left ws later
      (gathered_there file limits.harts era t k xs found now place_found ws a) i) tells

  -- gathered instructions alone are made at a place of their thread, which keeps what it has
  pub alone : (k : ℕ) (e : Entry) (place_found place_left : Held) (xs : List Made) (found left : Hand) (ws : List Awaited) →
      AwaitsGathered file limits.harts era t xs found left ws → place_found ≡ place_left → TellsMade t xs e →
      AwaitsIn file limits era t k found left place_found place_left e ws
  alone k e place_found place_left xs found left ws a same tells = Makes xs ws
      (subst (λ (v : Held). AwaitsMade file limits.harts era t k xs found left place_found v ws) same
      (gathered_there file limits.harts era t k xs found left place_found ws a)) tells
