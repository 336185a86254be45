-- What a deed awaits is what the history says of its moments, and what the watched machine tells of it.
use Rattle.std.proofs.Common.{◌≡◌, ◌≤◌, ◌+◌, ℕ, suc, Option, Some, None, List, [], ◌∷◌, ◌++◌, length, length-append, append_assoc, append-nil, refl, sym, ap, ap₂, subst, ◌∙◌, arith}
use Rattle.std.specs.Prelude.{map, slice_index, Ok}
use Rattle.std.specs.List.{AllZip, enumerate_from}
use Rattle.std.proofs.Math.Seq.{get_or-append_seam}
use mathlib.Core.Path.{fun_ext}
use Rattle.run_record.specs.declared.event.Event.{Event}
use Rattle.run_record.specs.declared.entry.Check.{Check}
use Rattle.run_record.specs.declared.entry.Entry.{Entry}
use Rattle.run_record.specs.declared.entry.DeskNote.TheVariants.{Nothing}
use Rattle.run_record.specs.declared.limits.Limits.{Limits}
use Rattle.elf_image.specs.File.{image_of}
use Rattle.run_laws.specs.Moments.{Does, Notes, NewEra, Past, Moment, moment_at, entry_moments, event_moment}
use Rattle.run_laws.specs.Accesses.{Access, access_of}
use Rattle.run_laws.specs.Clocks.{Clocks}
use Rattle.run_laws.specs.Present.{clocks_now}
use Rattle.run_laws.specs.Reports.{told_side}
use Rattle.run_laws.proofs.PresentLaw.{clocks_stay}
use Rattle.report_laws.specs.Awaited.{Awaited}
use Rattle.report_laws.specs.Sound.{first_race_in, first_race}
use Rattle.report_laws.proofs.GrownLaw.{told_stays}
use Rattle.bare_machine.specs.World.{World}
use Rattle.turn_orders.specs.Machine.{State, Call, Turn, next, tells, many, single, singles}
use Rattle.turn_orders.proofs.Functions.{but_here}
use Rattle.turn_orders.proofs.Many.{many_tells}
use Rattle.joint_turns.specs.Joint as joint
use Rattle.joint_turns.specs.Joint.{Value}
use Rattle.joint_turns.specs.Along as along
use Rattle.watched_turns.specs.Checking.{checked_of}
use Rattle.watched_turns.specs.Turns.{Local, Act, Told, steps, begins, watched_turn}
use Rattle.watched_turns.specs.Along.{StandFrom, AreRight, all_of}
use Rattle.watched_turns.proofs.Run.{runs}
use Rattle.watched_turns.proofs.Listed.{acts_placed}
use Rattle.turn_histories.specs.Entries.{IsTold}
use Rattle.race_core.specs.Watched.{side_of}
use Rattle.race_core.specs.History.{IsWatcherAt, era_now}
use Rattle.thread_events.specs.Standing.{Kept}
use Rattle.thread_events.proofs.Longer.{era_stays, length-push}
use Rattle.placed_detector.specs.Standing.{Hand, Held, Standing, kept_of, AreGiven, left_with}
use Rattle.placed_detector.specs.Instructions.{Beside, beside, AreHeard}
use Rattle.placed_detector.proofs.Fitting.{Stood, one_heard}
use Rattle.placed_detector.proofs.Instructions.{instruction_stands}
use Rattle.placed_detector.proofs.Longer.{watched_stays}
use Rattle.placed_detector.proofs.Slots.{begins_stands}
use Rattle.turn_orders.proofs.Functions.{but_same}
use Rattle.bare_machine.specs.Step.{desk}
use Rattle.deed_histories.specs.Deeds.{Made, all_events, all_checks, TellsMade, IsFollowed}
use Rattle.deed_histories.proofs.Entries.{beginning}
use Rattle.deed_histories.proofs.Numbered.{entry_heard}
use Rattle.deed_histories.proofs.Made.{cut_heard}
use Rattle.part_races.specs.Awaits.{awaited_of, awaits_at, AwaitsEvents, AwaitsInstruction, AwaitsMade, AwaitsIn, Quiet, Makes}
use Rattle.part_races.proofs.Spans.{awaits_there, awaits_item, here, span, span_stays, span_append, span_zip, told_awaits, told_span}

-- ---- one event

module _ (limits : Limits) (k t : ℕ) (given : ℕ → Option (Option (List ℕ))) (h : List Moment) (m : Moment) (ms : List Moment) (x : Kept) (b : Beside)
    (s : Stood limits k t given h x b) where
  abbrev whole : List Moment
  whole = h ++ m ∷ ms

  le : length h ≤ length h
  le = omega arith

  seam : moment_at whole (length h) ≡ m
  seam = get_or-append_seam h m ms (record { entry = 0; round = 0; item = Past; checks = [] })

  watcher : IsWatcherAt limits h t b.watched
  watcher = subst (IsWatcherAt limits h t) s.fits.watched (s.stands.watchers t)

  clock_is : slice_index b.watched.clock ≡ (clocks_now limits.epochs h).thread t
  clock_is = fun_ext (λ (r : ℕ). watcher.clock s.era r)

  race_is : first_race_in (slice_index b.watched.clock) m.checks ≡ first_race limits.epochs whole (length h) t
  race_is = ap₂ (λ (f : ℕ → ℕ) (y : Moment). first_race_in f y.checks)
      (clock_is ∙ sym (ap (λ (c : Clocks). c.thread t) (clocks_stay limits.epochs h (m ∷ ms) (length h) le))) (sym seam)

  side_here : (a : Access) → side_of b.watched a ≡ told_side h (length h) t a
  side_here a = rw (watcher.tid, watcher.frames, watcher.locks) refl

  access_is : (o : Option Access) → awaits_at b.watched o m.checks ≡ awaits_there limits.epochs whole (length h) t o
  access_is None = refl
  access_is (Some a) = ap₂ awaited_of (side_here a ∙ sym (told_stays h (m ∷ ms) (length h) t a le)) race_is

  event_is : (e : Event) → m.item ≡ Does t e → awaits_at b.watched (access_of e) m.checks ≡ here limits.epochs whole (length h)
  event_is e made = access_is (access_of e)
      ∙ sym (ap (awaits_item limits.epochs whole (length h)) (ap (λ (y : Moment). y.item) seam ∙ made))

-- ---- the events of an instruction

-- each event has its checks
events_as_many : (k t : ℕ) (es : List Event) (css : List (List Check)) (b c : Beside) (ws : List Awaited) → AwaitsEvents k t es css b c ws →
    length es ≡ length css
events_as_many k t [] [] b c ws a = refl
events_as_many k t (e ∷ es) (cs ∷ css) b c ws a = ap suc (events_as_many k t es css a.0 c a.1 a.3)
events_as_many k t [] (cs ∷ css) b c ws a = absurd a
events_as_many k t (e ∷ es) [] b c ws a = absurd a

module _ (limits : Limits) (k t : ℕ) (given : ℕ → Option (Option (List ℕ))) where
  events_await : (es : List Event) (css : List (List Check)) (ms h : List Moment) (x : Kept) (b c : Beside) (ws : List Awaited) →
      Stood limits k t given h x b → AwaitsEvents k t es css b c ws → AreHeard t ms es css → ws ≡ span limits.epochs (h ++ ms) (length h) ms
  events_await [] [] [] h x b c ws s a are = a.1
  events_await (e ∷ es) (cs ∷ css) (m ∷ ms) h x b c ws s a are =
      let made : m.item ≡ Does t e = are.0.item in
      let one = one_heard limits k t given h m x b a.0 s e made a.2 in
      let rest = events_await es css ms (h ++ m ∷ []) one.then a.0 c a.1 one.stood a.3 are.1 in
      a.4
      ∙ ap₂ (λ (u v : List Awaited). u ++ v)
      (ap (awaits_at b.watched (access_of e)) (sym are.0.checks_are) ∙ event_is limits k t given h m ms x b s e made)
      (rest
      ∙ ap₂ (λ (y : List Moment) (j : ℕ). span limits.epochs y j ms) (append_assoc h (m ∷ []) ms) (length-push h m))
  events_await [] [] (m ∷ ms) h x b c ws s a are = absurd are
  events_await [] (cs ∷ css) ms h x b c ws s a are = absurd a
  events_await (e ∷ es) [] ms h x b c ws s a are = absurd a
  events_await (e ∷ es) (cs ∷ css) [] h x b c ws s a are = absurd are

-- ---- instructions

module _ (file : List ℕ) (limits : Limits) (ok : image_of file ≡ Ok file) (t k : ℕ) where
  abbrev turn : Turn Local Value Act (List Told)
  turn = watched_turn file limits.harts limits.epochs

  instruction_awaits : (c : State Hand Held) (m : State Local Value) (w : World) (h ms : List Moment) (x : Made) (hand : Hand) (held : Held)
      (ws : List Awaited) → Standing file limits c m w h →
      AwaitsInstruction file limits.harts (era_now limits.epochs h) t k x (c.local t) hand (c.value k) held ws → AreHeard t ms x.events x.checks →
      ws ≡ span limits.epochs (h ++ ms) (length h) ms
  instruction_awaits c m w h ms x hand held ws s a are =
      let given : ℕ → Option (Option (List ℕ)) = λ u. (c.local u).given in
      let stood : Stood limits k t given h (kept_of c) (beside (c.local t) (c.value k)) = record {
        leaving = s.leaving;
        stands = s.kept;
        fits = record { watched = refl; sync = refl; desk_is = λ q. ap (λ (j : ℕ). (c.value j).desk) (sym q) };
        era = a.makes.present;
        are_given = subst (AreGiven limits h (c.value desk).desk.made) (sym (but_same given t)) s.given;
      } in
      events_await limits k t given x.events x.checks ms h (kept_of c) (beside (c.local t) (c.value k)) (beside hand held) ws stood a.awaits are

  -- no era begins among events
  era_heard : (h ms : List Moment) (es : List Event) (css : List (List Check)) → AreHeard t ms es css →
      era_now limits.epochs (h ++ ms) ≡ era_now limits.epochs h
  era_heard h [] es css are = ap (era_now limits.epochs) (append-nil h)
  era_heard h (m ∷ ms) [] css are = absurd are
  era_heard h (m ∷ ms) (e ∷ es) [] are = absurd are
  era_heard h (m ∷ ms) (e ∷ es) (cs ∷ css) are =
      ap (era_now limits.epochs) (sym (append_assoc h (m ∷ []) ms))
      ∙ (era_heard (h ++ m ∷ []) ms es css are.1 ∙ era_stays limits.epochs h m (λ q. none (sym are.0.item ∙ q)))
    where
      none : Does t e ≡ NewEra → ⊥
      none q = cc

  made_await : (xs : List Made) (c : State Hand Held) (m : State Local Value) (w : World) (h ms : List Moment) (hand : Hand) (held : Held)
      (ws : List Awaited) → Standing file limits c m w h →
      AwaitsMade file limits.harts (era_now limits.epochs h) t k xs (c.local t) hand (c.value k) held ws →
      AreHeard t ms (all_events xs) (all_checks xs) → ws ≡ span limits.epochs (h ++ ms) (length h) ms
  made_await [] c m w h [] hand held ws s a are = a.2
  made_await [] c m w h (y ∷ ms) hand held ws s a are = absurd are
  made_await (x ∷ xs) c m w h ms hand held ws s a are =
      let g = limits.epochs in
      let mk = a.4 in
      let cut = cut_heard t ms x.events (all_events xs) x.checks (all_checks xs)
      (events_as_many k t x.events x.checks (beside (c.local t) (c.value k)) (beside a.0 a.1) a.2 mk.awaits) are in
      let one = instruction_awaits c m w h cut.first x a.0 a.1 a.2 s mk cut.heard in
      let stands = instruction_stands file limits ok c m w h s t k x.loads a.0 a.1 x.events x.checks cut.first mk.makes cut.heard in
      let c1 : State Hand Held = left_with c t k a.0 a.1 in
      let later = h ++ cut.first in
      let era = era_heard h cut.first x.events x.checks cut.heard in
      let from = subst (λ (n : ℕ). AwaitsMade file limits.harts n t k xs a.0 hand a.1 held a.3) (sym era) a.5 in
      let there = subst (λ (l : Hand). AwaitsMade file limits.harts (era_now g later) t k xs l hand (c1.value k) held a.3)
      (sym (but_here c.local t t a.0 refl))
      (subst (λ (v : Held). AwaitsMade file limits.harts (era_now g later) t k xs a.0 hand v held a.3) (sym (but_here c.value k k a.1 refl)) from) in
      let others = made_await xs c1 (next turn m (single t k (steps x.loads))) (along.world_after file w t joint.steps) later cut.rest hand held a.3
      stands there cut.later in
      let whole : later ++ cut.rest ≡ h ++ ms = append_assoc h cut.first cut.rest ∙ ap (λ (zs : List Moment). h ++ zs) (sym cut.whole) in
      let long : length later ≡ length h + length cut.first = length-append h cut.first in
      let first_part : span g later (length h) cut.first ≡ span g (h ++ ms) (length h) cut.first =
      sym (span_stays g later cut.rest (length h) cut.first (omega (arith, long)))
      ∙ ap (λ (y : List Moment). span g y (length h) cut.first) whole in
      let rest_part : span g (later ++ cut.rest) (length later) cut.rest ≡ span g (h ++ ms) (length h + length cut.first) cut.rest =
      ap₂ (λ (y : List Moment) (j : ℕ). span g y j cut.rest) whole long in
      a.6
      ∙ (ap₂ (λ (u v : List Awaited). u ++ v) (one ∙ first_part) (others ∙ rest_part)
      ∙ (sym (span_append g (h ++ ms) (length h) cut.first cut.rest) ∙ ap (span g (h ++ ms) (length h)) (sym cut.whole)))

-- ---- a deed

-- the instructions' events have their checks
made_as_many : (file : List ℕ) (harts era t k : ℕ) (xs : List Made) (found left : Hand) (place_found place_left : Held) (ws : List Awaited) →
    AwaitsMade file harts era t k xs found left place_found place_left ws → length (all_events xs) ≡ length (all_checks xs)
made_as_many file harts era t k [] found left pf pl ws a = refl
made_as_many file harts era t k (x ∷ xs) found left pf pl ws a =
    let one = events_as_many k t x.events x.checks (beside found pf) (beside a.0 a.1) a.2 a.4.awaits in
    let rest = made_as_many file harts era t k xs a.0 left a.1 pl a.3 a.5 in
    length-append x.events (all_events xs) ∙ (ap₂ (λ (u v : ℕ). u + v) one rest ∙ sym (length-append x.checks (all_checks xs)))

-- what is told of moments stands behind a history
pub stand_behind : (h ms : List Moment) (xs : List Told) → AllZip IsTold ms xs → StandFrom (h ++ ms) (length h) xs
stand_behind h [] [] z = tt
stand_behind h [] (x ∷ xs) z = absurd z
stand_behind h (m ∷ ms) [] z = absurd z
stand_behind h (m ∷ ms) (x ∷ xs) z =
    let at = get_or-append_seam h m ms (record { entry = 0; round = 0; item = Past; checks = [] }) in (
      record { item = ap (λ (y : Moment). y.item) at ∙ z.0.item; checks = ap (λ (y : Moment). map checked_of y.checks) at ∙ z.0.checks },
      subst (λ (j : ℕ). StandFrom (h ++ m ∷ ms) j xs) (length-push h m)
          (subst (λ (y : List Moment). StandFrom y (length (h ++ m ∷ [])) xs) (append_assoc h (m ∷ []) ms) (stand_behind (h ++ m ∷ []) ms xs z.1)),
    )

module _ (file : List ℕ) (limits : Limits) (ok : image_of file ≡ Ok file) (c : State Hand Held) (m : State Local Value) (w : World) (h : List Moment)
    (s : Standing file limits c m w h) (t k : ℕ) (hand : Hand) (held : Held) (e : Entry) where
  abbrev g : ℕ
  g = limits.epochs

  abbrev then : List Moment
  then = h ++ entry_moments 0 e

  -- an entry begins with a note, which awaits nothing
  begins_quiet : (rest : List Moment) → here g (h ++ beginning e ∷ rest) (length h) ≡ []
  begins_quiet rest = ap (λ (y : Moment). awaits_item g (h ++ beginning e ∷ rest) (length h) y.item)
      (get_or-append_seam h (beginning e) rest (record { entry = 0; round = 0; item = Past; checks = [] }))

  made_in_deed : (xs : List Made) (ws : List Awaited) → AwaitsMade file limits.harts (era_now g h) t k xs (c.local t) hand (c.value k) held ws →
      TellsMade t xs e → ws ≡ span g then (length h) (entry_moments 0 e)
  made_in_deed xs ws a tm =
      let b = beginning e in
      let h1 = h ++ b ∷ [] in
      let rest = map (event_moment 0 e) (enumerate_from 0 e.events) in
      let begun : b.item ≡ Notes t Nothing = ap₂ Notes tm.thread tm.note in
      let stands = begins_stands file limits ok c m w h s t b refl k begun in
      let era : era_now g h1 ≡ era_now g h = era_stays g h b none in
      let heard : AreHeard t rest (all_events xs) (all_checks xs) =
      subst (λ (es : List Event). AreHeard t (map (event_moment 0 e) (enumerate_from 0 es)) (all_events xs) (all_checks xs)) (sym tm.events)
      (entry_heard e t tm.thread (all_events xs) (all_checks xs)
      (made_as_many file limits.harts (era_now g h) t k xs (c.local t) hand (c.value k) held ws a) tm.checks tm.numbered) in
      let is = made_await file limits ok t k xs c (next (watched_turn file limits.harts g) m (single t k begins)) w h1 rest hand held ws stands
      (subst (λ (n : ℕ). AwaitsMade file limits.harts n t k xs (c.local t) hand (c.value k) held ws) (sym era) a) heard in
      is
      ∙ (ap₂ (λ (y : List Moment) (j : ℕ). span g y j rest) (append_assoc h (b ∷ []) rest) (length-push h b)
      ∙ ap (λ (zs : List Awaited). zs ++ span g then (suc (length h)) rest) (sym (begins_quiet rest)))
    where
      none : (beginning e).item ≡ NewEra → ⊥
      none q = cc

  -- what a deed awaits is what the history with its entry says of the entry's moments
  pub deed_span : (ws : List Awaited) → AwaitsIn file limits (era_now g h) t k (c.local t) hand (c.value k) held e ws →
      ws ≡ span g then (length h) (entry_moments 0 e)
  deed_span _ (Quiet none) =
      let one : beginning e ∷ [] ≡ entry_moments 0 e =
      ap (λ (es : List Event). beginning e ∷ map (event_moment 0 e) (enumerate_from 0 es)) (sym none) in
      sym (ap (λ (zs : List Awaited). zs ++ []) (begins_quiet []))
      ∙ ap (λ (zs : List Moment). span g (h ++ zs) (length h) zs) one
  deed_span _ (Makes xs ws a tm) = made_in_deed xs ws a tm

  -- what the watched machine tells where it follows is right
  pub told_right : (acts : List Act) → IsFollowed file limits c m h t k hand held e acts →
      AreRight file g then (length h) (all_of (many (watched_turn file limits.harts g) t acts (m.local t) (m.value k)).told)
  told_right acts f =
      let turn = watched_turn file limits.harts g in
      let told = (many turn t acts (m.local t) (m.value k)).told in
      let call : Call (List Act) = single t k acts in
      let once : told ≡ tells turn m (singles t k acts) =
      sym (append-nil told) ∙ (many_tells turn m (call ∷ []) ∙ ap (tells turn m) (append-nil (singles t k acts))) in
      let right = (runs file limits.harts g limits.slots ok then w (length h) m (singles t k acts)
      (watched_stays file limits.harts g limits.slots w h (entry_moments 0 e) m s.watched)
      (acts_placed file limits.harts g m t k acts f.placed)
      (subst (λ (xss : List (List Told)). StandFrom then (length h) (all_of xss)) once (stand_behind h (entry_moments 0 e) (all_of told) f.told))).right in
      subst (λ (xss : List (List Told)). AreRight file g then (length h) (all_of xss)) (sym once) right

  -- and it is what the deed awaits
  pub deed_told : (acts : List Act) (ws : List Awaited) → IsFollowed file limits c m h t k hand held e acts →
      AwaitsIn file limits (era_now g h) t k (c.local t) hand (c.value k) held e ws →
      told_awaits (all_of (many (watched_turn file limits.harts g) t acts (m.local t) (m.value k)).told) ≡ ws
  deed_told acts ws f a =
      let told = (many (watched_turn file limits.harts g) t acts (m.local t) (m.value k)).told in
      told_span file g then (length h) (all_of told) (stand_behind h (entry_moments 0 e) (all_of told) f.told) (told_right acts f)
      ∙ (sym (span_zip IsTold g then (length h) (entry_moments 0 e) (all_of told) f.told) ∙ sym (deed_span ws a))
