-- Where rounds of the watched machine stand in a history, what they tell of races is what the history collects.
use Rattle.std.proofs.Common.{◌≡◌, ◌≤◌, ◌+◌, ℕ, zero, suc, Bool, true, false, cond, Option, Some, None, List, [], ◌∷◌, ◌++◌, length, append_assoc, append-nil, refl, sym, ap, subst, ◌∙◌, arith}
use Rattle.std.specs.Prelude.{map, option_map}
use Rattle.std.specs.List.{AllZip, enumerate_from, flat_map}
use Rattle.run_record.specs.declared.event.Event.{Event}
use Rattle.run_record.specs.declared.event.Event.TheVariants as events
use Rattle.run_record.specs.declared.entry.Entry.{Entry}
use Rattle.run_record.specs.declared.entry.Check.{Check}
use Rattle.elf_image.specs.File.{granule_of}
use Rattle.run_laws.specs.Moments.{Item, Does, Notes, NewEra, Past, Moment, moment_at, items, entry_moments, event_moment}
use Rattle.run_laws.specs.Accesses.{Access, access_of}
use Rattle.run_laws.specs.Checks.{AreChecks}
use Rattle.report_laws.specs.Awaited.{Awaited, Collects, Unchecked, Ordered, Unordered}
use Rattle.report_laws.specs.Sound.{first_race}
use Rattle.turn_orders.specs.Lists.{Each}
use Rattle.turn_orders.proofs.Members.{each_append}
use Rattle.watched_turns.specs.Turns.{Raced, Told}
use Rattle.watched_turns.specs.Along.{StandFrom, IsRight, AreRight, race_by_clock, raced_at}
use Rattle.watched_turns.specs.Rounds.{WatchedRound, round_told, round_end, position_after, EraStands, RoundsStand, RoundsAreRight}
use Rattle.turn_histories.proofs.Rounds.{eras_in, moments_of, rounds_moments}
use Rattle.part_races.proofs.Spans.{told_there, told_item, told_awaits}
use Rattle.part_races.proofs.Rounds.{TellsAs}

-- ---- what is no event has no checks

abbrev pub IsQuiet : Moment → Type 0
IsQuiet m = ((t : ℕ) (e : Event) → m.item ≡ Does t e → ⊥) → m.checks ≡ []

quiet_events : (e : Entry) (n : ℕ) (es : List Event) → Each IsQuiet (map (event_moment 0 e) (enumerate_from n es))
quiet_events e n [] = tt
quiet_events e n (v ∷ es) = ((λ nobody. absurd (nobody e.tid v refl)), quiet_events e (n + 1) es)

pub quiet_entry : (e : Entry) → Each IsQuiet (entry_moments 0 e)
quiet_entry e = ((λ nobody. refl), quiet_events e 0 e.events)

quiet_entries : (es : List Entry) → Each IsQuiet (moments_of es)
quiet_entries [] = tt
quiet_entries (e ∷ es) = each_append IsQuiet (entry_moments 0 e) (moments_of es) (quiet_entry e) (quiet_entries es)

quiet_eras : (ends : Bool) → Each IsQuiet (eras_in ends)
quiet_eras true = ((λ nobody. refl), tt)
quiet_eras false = tt

pub quiet_rounds : (rs : List WatchedRound) (ess : List (List Entry)) → Each IsQuiet (rounds_moments rs ess)
quiet_rounds [] [] = tt
quiet_rounds [] (es ∷ ess) = tt
quiet_rounds (r ∷ rs) [] = tt
quiet_rounds (r ∷ rs) (es ∷ ess) = each_append IsQuiet (moments_of es) (eras_in r.ends ++ rounds_moments rs ess) (quiet_entries es)
    (each_append IsQuiet (eras_in r.ends) (rounds_moments rs ess) (quiet_eras r.ends) (quiet_rounds rs ess))

pub quiet_at : (h : List Moment) → Each IsQuiet h → (n : ℕ) → IsQuiet (moment_at h n)
quiet_at [] q n nobody = refl
quiet_at (m ∷ h) q zero nobody = q.0 nobody
quiet_at (m ∷ h) q (suc n) nobody = quiet_at h q.1 n nobody

-- ---- moments, told one after another

access_is : (e : Event) (a : Access) → access_of e ≡ Some a → e ≡ events.Access a.place a.addr a.size a.read a.atomic
access_is (events.Access place addr size read atomic) a q = cc
access_is _ a q = absurd (cc)

module _ (file : List ℕ) (g : ℕ) (h : List Moment) (start : ℕ) (quiet : (i : ℕ) → start ≤ i → IsQuiet (moment_at h i)) (from : ℕ) where
  -- nothing more
  same_list : (n : ℕ) (ws : List Awaited) → Collects g h from n ws → Collects g h from n (ws ++ [])
  same_list n ws c = subst (Collects g h from n) (sym (append-nil ws)) c

  collects_race : (n t : ℕ) (a : Access) (ws : List Awaited) → Collects g h from n ws →
      items h n ≡ Does t (events.Access a.place a.addr a.size a.read a.atomic) → (l : Option (Check × ℕ)) → first_race g h n t ≡ l →
      Collects g h from (suc n) (ws ++ told_there t (Some a) (option_map (raced_at h n t) l))
  collects_race n t a ws c made None q = same_list (suc n) ws (Ordered t a c made q)
  collects_race n t a ws c made (Some (check, word)) q = Unordered check word t a c made q

  collects_access : (n t : ℕ) (e : Event) (o : Option Access) (race : Option Raced) (ws : List Awaited) → Collects g h from n ws →
      items h n ≡ Does t e → access_of e ≡ o → AreChecks g (granule_of file) h n t o →
      race ≡ option_map (raced_at h n t) (race_by_clock g h n t) → Collects g h from (suc n) (ws ++ told_there t o race)
  collects_access n t e None race ws c is q checks right = same_list (suc n) ws (Unchecked c checks)
  collects_access n t e (Some a) race ws c is q checks right =
      subst (λ (r : Option Raced). Collects g h from (suc n) (ws ++ told_there t (Some a) r)) (sym right)
      (collects_race n t a ws c (is ∙ ap (Does t) (access_is e a q)) (first_race g h n t) refl)

  collects_item : (n : ℕ) (i : Item) (race : Option Raced) (ws : List Awaited) → start ≤ n → Collects g h from n ws → items h n ≡ i →
      IsRight file g h n i race →
      Collects g h from (suc n) (ws ++ told_item i race)
  collects_item n (Does t e) race ws s c is right = collects_access n t e (access_of e) race ws c is refl right.checks right.race_is
  collects_item n (Notes t note) race ws s c is right = same_list (suc n) ws (Unchecked c (quiet n s (λ u e q. none (sym is ∙ q))))
    where
      none : {u : ℕ} {e : Event} → Notes t note ≡ Does u e → ⊥
      none q = cc
  collects_item n NewEra race ws s c is right = same_list (suc n) ws (Unchecked c (quiet n s (λ u e q. none (sym is ∙ q))))
    where
      none : {u : ℕ} {e : Event} → NewEra ≡ Does u e → ⊥
      none q = cc
  collects_item n Past race ws s c is right = same_list (suc n) ws (Unchecked c (quiet n s (λ u e q. none (sym is ∙ q))))
    where
      none : {u : ℕ} {e : Event} → Past ≡ Does u e → ⊥
      none q = cc

  pub collects_told : (n : ℕ) (xs : List Told) (ws : List Awaited) → start ≤ n → Collects g h from n ws → StandFrom h n xs → AreRight file g h n xs →
      Collects g h from (n + length xs) (ws ++ told_awaits xs)
  collects_told n [] ws s c stand right =
      let e : n ≡ n + 0 = omega arith in
      subst (λ (i : ℕ). Collects g h from i (ws ++ [])) e (same_list n ws c)
  collects_told n (x ∷ xs) ws s c stand right =
      let e : suc n + length xs ≡ n + suc (length xs) = omega arith in
      let one = collects_item n x.item x.race ws s c stand.0.item right.0 in
      subst (λ (i : ℕ). Collects g h from i (ws ++ (told_item x.item x.race ++ told_awaits xs))) e
      (subst (Collects g h from (suc n + length xs)) (append_assoc ws (told_item x.item x.race) (told_awaits xs))
      (collects_told (suc n) xs (ws ++ told_item x.item x.race) (omega (arith, s)) one stand.1 right.1))

  collects_era : (n : ℕ) (ends : Bool) (ws : List Awaited) → start ≤ n → Collects g h from n ws → EraStands h n ends → Collects g h from (n + cond ends 1 0) ws
  collects_era n true ws s c is =
      let e : suc n ≡ n + 1 = omega arith in
      subst (λ (i : ℕ). Collects g h from i ws) e (Unchecked c (quiet n s (λ u v q. none (sym is ∙ q))))
    where
      none : {u : ℕ} {v : Event} → NewEra ≡ Does u v → ⊥
      none q = cc
  collects_era n false ws s c is = let e : n ≡ n + 0 = omega arith in subst (λ (i : ℕ). Collects g h from i ws) e c

  -- rounds
  pub collects_rounds : (rs : List WatchedRound) (wss : List (List Awaited)) (n : ℕ) (ws : List Awaited) → start ≤ n → Collects g h from n ws →
      RoundsStand h n rs → RoundsAreRight file g h n rs → AllZip TellsAs rs wss → Collects g h from (position_after n rs) (ws ++ flat_map (λ (xs : List Awaited). xs) wss)
  collects_rounds [] [] n ws s c stand right z = same_list n ws c
  collects_rounds [] (vs ∷ wss) n ws s c stand right z = absurd z
  collects_rounds (r ∷ rs) [] n ws s c stand right z = absurd z
  collects_rounds (r ∷ rs) (vs ∷ wss) n ws s c stand right z =
      let told = collects_told n (round_told r) ws s c stand.0 right.0 in
      let one = collects_era (n + length (round_told r)) r.ends (ws ++ told_awaits (round_told r)) (omega (arith, s)) told stand.1 in
      let here = subst (λ (xs : List Awaited). Collects g h from (round_end n r) (ws ++ xs)) z.0 one in
      subst (Collects g h from (position_after (round_end n r) rs)) (append_assoc ws vs (flat_map (λ (xs : List Awaited). xs) wss))
      (collects_rounds rs wss (round_end n r) (ws ++ vs) (omega (arith, s)) here stand.2 right.1 z.1)

-- ---- the last round

pub last_stands : (h : List Moment) (n : ℕ) (rs : List WatchedRound) (r : WatchedRound) → RoundsStand h n (rs ++ r ∷ []) →
    StandFrom h (position_after n rs) (round_told r)
last_stands h n [] r stand = stand.0
last_stands h n (x ∷ rs) r stand = last_stands h (round_end n x) rs r stand.2

pub last_right : (file : List ℕ) (g : ℕ) (h : List Moment) (n : ℕ) (rs : List WatchedRound) (r : WatchedRound) → RoundsAreRight file g h n (rs ++ r ∷ []) →
    AreRight file g h (position_after n rs) (round_told r)
last_right file g h n [] r right = right.0
last_right file g h n (x ∷ rs) r right = last_right file g h (round_end n x) rs r right.1
