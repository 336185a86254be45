-- How a turn begins and ends.
use Rattle.std.proofs.Common.{◌≡◌, ℕ, zero, suc, ◌+◌, ◌*◌, ◌<◌, ◌≤◌, ◌^◌, ◌⊎◌, inl, inr, ◌==◌, Bool, true, false, Option, Some, None, List, [], ◌∷◌, ◌++◌, length, length-append, append-nil, refl, ap, sym, subst, ◌∙◌, arith, eqb-true}
use Rattle.std.specs.Prelude.{All, option_map, option_to_list, if◌then◌else◌}
use Rattle.std.specs.List.{list_any, enumerate_from}
use Rattle.std.specs.Prelude.{IsSomeAnd, slice_index}
use Rattle.std.specs.Option.{is_some}
use Rattle.slot_desk.specs.Desks.{thread_of, held_of}
use Rattle.slot_desk.specs.Steps.{new_desk}
use Rattle.std.proofs.lemmas.List.{get_or-set_same}
use Rattle.std.proofs.lemmas.List.Elements.{All-nil}
use Rattle.std.proofs.Math.ListN.{length-set}
use Rattle.run_record.specs.declared.entry.Entry.{Entry}
use Rattle.run_record.specs.declared.entry.Check.{Check}
use Rattle.run_record.specs.declared.entry.Label.{Label}
use Rattle.run_record.specs.declared.entry.DeskNote.TheVariants.{Nothing, Leave}
use Rattle.run_record.specs.declared.limits.Limits.{Limits}
use Rattle.elf_image.specs.File.{granule_of, granules_of}
use Rattle.run_laws.specs.Moments.{Does, Notes, Moment, entry_moments, moments_from, moments, moments_in, era_moments}
use Rattle.run_laws.specs.Faithful.{state_after, after}
use Rattle.run_laws.specs.Labels.{Labels, labels}
use Rattle.run_laws.specs.Present.{labels_now, label_now, frames_now}
use Rattle.run_laws.specs.Rounds.{Progress, Due, IsInRound}
use Rattle.bare_machine.specs.World.{World, lives, HasMemory, start}
use Rattle.race_core.specs.Watched.{Watched, new_watched, in_era}
use Rattle.race_core.specs.History.{era_now}
use Rattle.race_core.proofs.FrameLaws.{frames_none}
use Rattle.turn_laws.specs.SoFar.{IsLawfulSoFar}
use Rattle.turn_laws.specs.Turns.{Turn, GoesOn, IsTurn, entries_of, entries_before, moments_before, note_moment}
use Rattle.turn_laws.proofs.StepsLaw.{begin_is, before_without, end_is, state_after_turn, turn_goes_on, rounds_after, eras_after}
use Rattle.turn_laws.proofs.TurnLaw.{lawful-turn}
use Rattle.turn_laws.proofs.WholeLaw.{lawful-start}
use Rattle.turn_laws.proofs.PartLaw.{turn_steps, turn_steps_by, turn_in_round}
use Rattle.turn_laws.proofs.PushLaw.{spent-none, spent-quiet}
use Rattle.turn_laws.proofs.NoteEntry.{note_right, note_grouped}
use Rattle.turn_laws.proofs.StillLaw.{labels-still}
use Rattle.machine_laws.specs.Machine.{bare_of}
use Rattle.machine_laws.specs.Threads.{threads_in, depth}
use Rattle.machine_laws.specs.Agrees.{Agrees}
use Rattle.machine_laws.proofs.ThreadLaw.{made_of}
use Rattle.machine_laws.proofs.DeskLaw.{detach_after, new_is}
use Rattle.detector.specs.Detected.{Detected, watcher_of, after_resume, after_leave}
use Rattle.detector.specs.Stands.{Stands}
use Rattle.detector.proofs.NoteLaws.{stands_resume, stands_nothing, stands_leave}
use Rattle.thread_turns.specs.declared.part.Part.{Part}
use Rattle.thread_turns.specs.declared.watched.WatchedMachine.{WatchedMachine}
use Rattle.thread_turns.specs.Ranges.{AreLimits}
use Rattle.thread_turns.specs.Going.{Setting, bare, world, first, turn_of, so_far, is_needy, HasSlot, IsQuiet, IsGoingOn}
use Rattle.thread_turns.specs.Turned.{IsStopped, Ends, BeginsPart, RunsPart}
use Rattle.thread_turns.specs.Follows.{Follows, IsFollowing, IsStarved, TakesTurn, moments_by}

-- ---- what follows, by the era

follows_of :
    (file : List ℕ) (limits : Limits) (from round : ℕ) (entries : List Entry) (w : WatchedMachine) (era : ℕ) → w.detector.era ≡ era → AreLimits limits →
    w.machine ≡ state_after (bare_of file limits.harts) entries → HasMemory file w.machine → w.machine.harts ≡ limits.harts → Agrees limits.harts (threads_in w.machine) w.detector.desk →
    ((u : ℕ) → length (frames_now (moments_in round era entries) u) ≡ depth w.machine u) → IsLawfulSoFar limits (bare_of file limits.harts) (granule_of file) entries →
    Stands (granules_of file) limits from None (moments_in round era entries) w.detector → All (λ (e : Entry). e.era ≤ era) entries → All (λ (e : Entry). e.round ≤ round) entries →
    Follows file limits from round entries w
follows_of file limits from round entries w era same are machine memory harts agrees depths lawful stands eras rounds = record {
  limits_are = are;
  machine = machine;
  memory = memory;
  harts = harts;
  agrees = agrees;
  depths = λ u. ap (λ (x : ℕ). length (frames_now (moments_in round x entries) u)) same ∙ depths u;
  lawful = lawful;
  stands = subst (λ (x : ℕ). Stands (granules_of file) limits from None (moments_in round x entries) w.detector) (sym same) stands;
  eras = subst (λ (x : ℕ). All (λ (e : Entry). e.era ≤ x) entries) (sym same) eras;
  rounds = rounds;
}

-- each entry has a moment
few_from : (era i : ℕ) (es : List Entry) → length es ≤ length (moments_from era i es)
few_from era i [] = omega arith
few_from era i (e ∷ es) =
    let a = few_from e.era (i + 1) es in
    omega (arith, length-append (era_moments era i e.round e.era) (entry_moments i e ++ moments_from e.era (i + 1) es), length-append (entry_moments i e) (moments_from e.era (i + 1) es))

pub few_entries : (round era : ℕ) (es : List Entry) → length es ≤ length (moments_in round era es)
few_entries round era es = let a = few_from 0 0 es in omega (arith, length-append (moments es) (era_moments (Rattle.run_laws.specs.Moments.last_era es) (length es) round era))

-- ---- a turn ends

-- the detector after the thread has left the slot that it spent
abbrev pub after_spent : Option Label → Detected → ℕ → Detected
after_spent None d t = d
after_spent (Some l) d t = after_leave d t

abbrev pub ended : Setting → Part → WatchedMachine → WatchedMachine
ended s p w = record { machine = w.machine; detector = after_spent p.spent w.detector s.tid }

abbrev pub entries_now : Setting → Part → List Entry
entries_now s p = s.entries ++ entries_of (length s.entries) (turn_of s p)

era_spent : (o : Option Label) (d : Detected) (t : ℕ) → (after_spent o d t).era ≡ d.era
era_spent None d t = refl
era_spent (Some l) d t = refl

module _ (s : Setting) (p : Part) (w : WatchedMachine) (on : IsGoingOn s 0 p w) where
  abbrev turn : Turn
  turn = turn_of s p

  abbrev k : ℕ
  k = length (entries_before s.entries turn) + 1

  abbrev leave : Option Label → List Moment
  leave o = option_to_list (option_map (λ (l : Label). note_moment k turn (Leave l)) o)

  spent_stands : (o : Option Label) → p.spent ≡ o → Stands (granules_of s.file) s.limits s.from None (so_far s p ++ leave o) (after_spent o w.detector s.tid)
  spent_stands None q =
      subst (λ (ms : List Moment). Stands (granules_of s.file) s.limits s.from None ms w.detector) (sym (append-nil (so_far s p)))
      (subst (λ (o : Option Label). Stands (granules_of s.file) s.limits s.from (option_map (λ (l : Label). s.tid) o) (so_far s p) w.detector) q on.hearing.stands)
  spent_stands (Some l) q =
      let x = on.hearing.leaves l q in
      stands_leave (granules_of s.file) s.limits s.from (so_far s p) (note_moment k turn (Leave l)) w.detector s.tid l
      (subst (λ (o : Option Label). Stands (granules_of s.file) s.limits s.from (option_map (λ (l : Label). s.tid) o) (so_far s p) w.detector) q on.hearing.stands) refl refl x.leaving x.lost

  spent_agrees : (o : Option Label) → Agrees s.limits.harts (threads_in w.machine) (after_spent o w.detector s.tid).desk
  spent_agrees None = on.hearing.agrees
  spent_agrees (Some l) = detach_after s.limits.harts (threads_in w.machine) w.detector.desk s.tid on.hearing.agrees

  spent_depths : (o : Option Label) (u : ℕ) → length (frames_now (so_far s p ++ leave o) u) ≡ depth w.machine u
  spent_depths None u = ap (λ (ms : List Moment). length (frames_now ms u)) (append-nil (so_far s p)) ∙ on.hearing.depths u
  spent_depths (Some l) u = ap length (frames_none (so_far s p) (note_moment k turn (Leave l)) u refl) ∙ on.hearing.depths u

  few_leave : (o : Option Label) → length (leave o) ≤ 1
  few_leave None = omega arith
  few_leave (Some l) = omega arith

  now_is : moments_in s.round s.era (entries_now s p) ≡ so_far s p ++ leave p.spent
  now_is = end_is s.entries turn

  era_now_is : (ended s p w).detector.era ≡ s.era
  era_now_is = era_spent p.spent w.detector s.tid ∙ on.hearing.era

  pub longer : 1 ≤ p.steps → length (moments_in s.round s.era (entries_now s p)) ≤ length (first s) + 7 * p.steps
  longer some = omega (arith, some, on.grown, ap length now_is, length-append (so_far s p) (leave p.spent), few_leave p.spent)

  module _ (goes : GoesOn (bare s) s.entries s.tid s.round) (rounds : All (λ (e : Entry). e.round ≤ s.round) s.entries) (eras : All (λ (e : Entry). e.era ≤ s.era) s.entries) (some : 1 ≤ p.steps) where
    is_turn : IsTurn s.limits (bare s) (granule_of s.file) s.entries turn
    is_turn = record {
      some_steps = omega (arith, some);
      made = on.running.made;
      apart = on.running.apart;
      goes_on = goes;
      rounds_so_far = rounds;
      eras_so_far = eras;
      taken = λ l q. let x = on.taken l q in record { unlabelled = x.0.unlabelled; rest = x.0.rest; front = x.0.front; new_epoch = x.0.new_epoch; present_era = x.0.present_era; needed = ap (λ (n : ℕ). is_needy s n) (sym (none_more p.steps)) ∙ x.1 };
      labelled = on.labelled;
      grouped = on.hearing.grouped;
      right = on.hearing.right;
      spent = on.hearing.spent;
    }
      where
        none_more : (n : ℕ) → n + 0 ≡ n
        none_more n = omega arith

    pub follows_end : IsLawfulSoFar s.limits (bare s) (granule_of s.file) s.entries → Follows s.file s.limits s.from s.round (entries_now s p) (ended s p w)
    follows_end lawful =
        follows_of s.file s.limits s.from s.round (entries_now s p) (ended s p w) s.era era_now_is on.limits_are
        (on.running.machine ∙ sym (state_after_turn (bare s) s.entries turn)) on.running.memory on.running.harts (spent_agrees p.spent)
        (λ u. ap (λ (ms : List Moment). length (frames_now ms u)) now_is ∙ spent_depths p.spent u)
        (lawful-turn s.limits (bare s) (granule_of s.file) s.entries turn lawful is_turn)
        (subst (λ (ms : List Moment). Stands (granules_of s.file) s.limits s.from None ms (after_spent p.spent w.detector s.tid)) (sym now_is) (spent_stands p.spent refl))
        (eras_after s.entries turn s.era eras (omega arith)) (rounds_after s.entries turn s.round rounds (omega arith))

    pub goes_on_end : p.used ≡ true → GoesOn (bare s) (entries_now s p) s.tid s.round
    goes_on_end used = turn_goes_on (bare s) s.entries turn goes (on.running.used used).1

-- ---- a turn begins

abbrev pub setting_of : List ℕ → Limits → ℕ → ℕ → List Entry → ℕ → WatchedMachine → Setting
setting_of file limits from round entries t w = record { file = file; limits = limits; from = from; round = round; era = w.detector.era; entries = entries; tid = t }

abbrev pub no_part : Part
no_part = record { attached = None; steps = 0; events = []; checks = []; spent = None; used = false }

abbrev pub resumed : WatchedMachine → ℕ → WatchedMachine
resumed w t = record { machine = w.machine; detector = after_resume w.detector t }

era_resumed : (w : Watched) (era : ℕ) → (in_era w era).era ≡ era
era_resumed w era = go (w.era == era) refl
  where
    go : (b : Bool) → (w.era == era) ≡ b → (if b then w else record w { era = era; label = None; clock = Rattle.std.specs.Prelude.replicate (length w.clock) 0 }).era ≡ era
    go true q = eqb-true w.era era q
    go false q = refl

module _ (file : List ℕ) (limits : Limits) (from round : ℕ) (entries : List Entry) (t : ℕ) (w : WatchedMachine) (f : Follows file limits from round entries w) (alive : lives w.machine t ≡ true) where
  abbrev s : Setting
  s = setting_of file limits from round entries t w

  abbrev d : Detected
  d = after_resume w.detector t

  abbrev m : Moment
  m = note_moment (length (entries_before entries (turn_of s no_part))) (turn_of s no_part) Nothing

  pub watched : t < length w.detector.watchers
  watched = let x = made_of (threads_in w.machine) t f.agrees.are_threads alive in let y = f.stands.as_many in let z = f.agrees.made_are in omega arith

  watched_still : t < length d.watchers
  watched_still = let x = watched in let y = length-set w.detector.watchers t (in_era (watcher_of w.detector t) w.detector.era) in omega arith

  resumes : Stands (granules_of file) limits from None (first s) d
  resumes = stands_resume (granules_of file) limits from None (first s) w.detector t f.stands watched

  begins : so_far s no_part ≡ first s ++ m ∷ []
  begins = begin_is entries (turn_of s no_part) refl ∙ ap (λ (ms : List Moment). ms ++ m ∷ []) (before_without entries (turn_of s no_part) refl)

  stands_now : Stands (granules_of file) limits from None (so_far s no_part) d
  stands_now = subst (λ (ms : List Moment). Stands (granules_of file) limits from None ms d) (sym begins) (stands_nothing (granules_of file) limits from (first s) m d t None resumes refl refl)

  present : (watcher_of d t).era ≡ d.era
  present = ap (λ (x : Watched). x.era) (get_or-set_same w.detector.watchers t (in_era (watcher_of w.detector t) w.detector.era) (new_watched t w.detector.limits) watched) ∙ era_resumed (watcher_of w.detector t) w.detector.era

  phase : (o : Option ℕ) → (labels_now limits.epochs (so_far s no_part)).slot_of t ≡ o → (HasSlot s no_part) ⊎ (IsQuiet s no_part d)
  phase (Some sid) q = inl (record { sid = sid; slot = q; unspent = refl; had = λ free none. had sid (sym (ap (λ (l : Labels). l.slot_of t) labels_begin) ∙ q) none })
    where
      labels_begin : labels_now limits.epochs (so_far s no_part) ≡ labels_now limits.epochs (first s)
      labels_begin = ap (labels_now limits.epochs) begins ∙ labels-still limits.epochs (first s) m (record { item = refl; checks = refl })

      had : (sid : ℕ) → (labels_now limits.epochs (first s)).slot_of t ≡ Some sid → label_now limits.epochs (first s) t ≡ None → ⊥
      had sid r none = let z = sym (ap (option_map (λ (r : ℕ). record { sid = r; epoch = (labels_now limits.epochs (first s)).epoch r; era = (labels_now limits.epochs (first s)).era })) r) ∙ none in cc
  phase None q = inr (record {
    events = refl;
    checks = refl;
    attached = refl;
    unspent = refl;
    needless = refl;
    era = present;
    label = (stands_now.watchers t).label (present ∙ stands_now.era) ∙ ap (option_map (λ (r : ℕ). record { sid = r; epoch = (labels_now limits.epochs (so_far s no_part)).epoch r; era = (labels_now limits.epochs (so_far s no_part)).era })) q;
    stands = resumes;
  })

  pub begin_law : IsGoingOn s 0 no_part (resumed w t)
  begin_law = record {
    limits_are = f.limits_are;
    running = record {
      made = record { alive = λ k l. absurd (omega arith); events_are = refl };
      machine = f.machine;
      memory = f.memory;
      harts = f.harts;
      apart = λ k l. absurd (omega arith);
      unused = λ q k l. absurd (omega arith);
      used = λ q. absurd (cc);
    };
    hearing = record {
      stands = stands_now;
      era = refl;
      watched = watched_still;
      agrees = f.agrees;
      depths = λ u. ap (λ (ms : List Moment). length (frames_now ms u)) begins ∙ (ap length (frames_none (first s) m u refl) ∙ f.depths u);
      right = note_right limits.epochs (granule_of file) (moments_before entries (turn_of s no_part)) (length (entries_before entries (turn_of s no_part))) (length (entries_before entries (turn_of s no_part)) + 1) (turn_of s no_part) Nothing;
      spent = spent-quiet limits (moments_before entries (turn_of s no_part)) (length (moments_before entries (turn_of s no_part))) t m None (spent-none limits (moments_before entries (turn_of s no_part)) t) (λ u e q. cc);
      grouped = note_grouped (length (entries_before entries (turn_of s no_part)) + 1) (turn_of s no_part) Nothing;
      of_events = All-nil (λ (c : Check). c.event < 0);
      leaves = λ l q. absurd (cc);
    };
    taken = λ l q. absurd (cc);
    labelled = λ q needy. absurd (cc);
    phase = λ q. phase ((labels_now limits.epochs (so_far s no_part)).slot_of t) refl;
    alive = λ q. alive;
    grown = omega (arith, ap length begins, length-append (first s) (m ∷ []));
  }

-- ---- a turn is taken

-- what is known when a thread's turn begins
pub record Taking (file : List ℕ) (round tid most : ℕ) (before : List Entry) (old : WatchedMachine) : Type 0 where
  pub alive : lives old.machine tid ≡ true
  pub following : IsFollowing file round before old
  pub goes_on : GoesOn (bare_of file old.detector.limits.harts) before tid round
  pub room : length (moments_by round before old) + 8 * most < 2 ^ 32

pub begins_part : (file : List ℕ) (round tid most : ℕ) (before : List Entry) (old : WatchedMachine) → Taking file round tid most before old → BeginsPart file tid most no_part (resumed old tid)
begins_part file round tid most before old taking =
    let f = taking.following in
    record {
      setting = setting_of file old.detector.limits f.from round before tid old;
      file_is = refl;
      tid_is = refl;
      none_yet = refl;
      unused = refl;
      going_on = begin_law file old.detector.limits f.from round before tid old f.follows taking.alive;
      room = taking.room;
    }

module _ (file : List ℕ) (round tid most : ℕ) (before : List Entry) (starved : Bool) (p : Part) (old mid : WatchedMachine) (taking : Taking file round tid most before old) (runs : RunsPart file tid most starved no_part p (resumed old tid) mid) where
  ends_of : (limits : Limits) (from : ℕ) → Follows file limits from round before old → Ends (setting_of file limits from round before tid old) starved p mid most
  ends_of limits from f = runs (setting_of file limits from round before tid old) refl refl refl refl (begin_law file limits from round before tid old f taking.alive) taking.room

  abbrev limits_old : Limits
  limits_old = old.detector.limits

  abbrev followed : Follows file limits_old taking.following.from round before old
  followed = taking.following.follows

  abbrev at : Setting
  at = setting_of file limits_old taking.following.from round before tid old

  pub ends_now : Ends at starved p mid most
  ends_now = ends_of limits_old taking.following.from followed

  -- where instructions were made
  module _ (some : 1 ≤ p.steps) where
    follows_some : (limits : Limits) (from : ℕ) → Follows file limits from round before old → Follows file limits from round (entries_now at p) (ended at p mid)
    follows_some limits from f =
        let same : old.detector.limits ≡ limits = f.stands.limits_are in
        let s = setting_of file limits from round before tid old in
        follows_end s p mid (ends_of limits from f).going_on (subst (λ (l : Limits). GoesOn (bare_of file l.harts) before tid round) same taking.goes_on) f.rounds f.eras some f.lawful

    here : Follows file limits_old taking.following.from round (entries_now at p) (ended at p mid)
    here = follows_some limits_old taking.following.from followed

    starved_some : starved ≡ true → IsStarved file limits_old round tid (entries_now at p) (ended at p mid)
    starved_some so =
        let x = ends_now.stopped so in
        starved_of x.0 x.1 p.spent refl here
      where
        starved_of : p.used ≡ false → IsStopped at p mid → (o : Option Label) → p.spent ≡ o → Follows file limits_old taking.following.from round (entries_now at p) (record { machine = mid.machine; detector = after_spent o mid.detector tid }) → IsStarved file limits_old round tid (entries_now at p) (record { machine = mid.machine; detector = after_spent o mid.detector tid })
        starved_of unused stopped None q f = record {
          alive = ends_now.going_on.alive unused;
          needy = stopped.needy;
          unlabelled = sym ((f.stands.watchers tid).label (stopped.quiet.era ∙ f.stands.era)) ∙ stopped.quiet.label;
          empty = sym f.stands.desk.desk.same_queue ∙ stopped.empty;
        }
        starved_of unused stopped (Some l) q f = absurd (let z = sym q ∙ stopped.quiet.unspent in cc)

    pub takes_some : TakesTurn file round tid most before (entries_now at p) old (ended at p mid) (record { steps = p.steps; starved = starved })
    takes_some = record {
      added = entries_of (length before) (turn_of at p);
      entries_are = refl;
      in_round = λ (g : Progress) (ds : List Due) r e due. turn_in_round (length before) (turn_of at p) g ds (sym r) (sym e) due;
      steps_are = turn_steps (length before) (turn_of at p);
      steps_by_it = turn_steps_by (length before) (turn_of at p);
      no_more = ends_now.no_more;
      none_added = λ q. absurd (omega (arith, some, q));
      some = λ q. some;
      limits_stay = here.stands.limits_are;
      era_stays = era_now_is at p mid ends_now.going_on;
      follows = follows_some;
      goes_on = λ q less. goes_on_end at p mid ends_now.going_on taking.goes_on followed.rounds followed.eras some (elim (ends_now.ended q) [
        | inl used ↦ used
        | inr all ↦ absurd (omega (arith, less, all))
      ]);
      starved = starved_some;
      grown = subst (λ (x : ℕ). length (moments_in round x (entries_now at p)) ≤ length (first at) + 7 * p.steps) (sym (era_now_is at p mid ends_now.going_on)) (longer at p mid ends_now.going_on some);
    }

  -- where none was
  module _ (none : p.steps ≡ 0) where
    stopped_at_once : starved ≡ true
    stopped_at_once = go starved refl
      where
        go : (b : Bool) → starved ≡ b → starved ≡ true
        go true q = q
        go false q = absurd (let z = ends_now.some q in omega (arith, none))

    machine_stays : mid.machine ≡ old.machine
    machine_stays = ends_now.going_on.running.machine ∙ (ap (λ (n : ℕ). world at n) none ∙ sym followed.machine)

    follows_none : (limits : Limits) (from : ℕ) → Follows file limits from round before old → Follows file limits from round before mid
    follows_none limits from f =
        let e = ends_of limits from f in
        follows_of file limits from round before mid old.detector.era e.going_on.hearing.era f.limits_are (machine_stays ∙ f.machine) e.going_on.running.memory e.going_on.running.harts e.going_on.hearing.agrees
        (λ u. f.depths u ∙ ap (λ (x : World). depth x u) (sym machine_stays)) f.lawful (e.stopped stopped_at_once).1.quiet.stands f.eras f.rounds

    nothing_here : Follows file limits_old taking.following.from round before mid
    nothing_here = follows_none limits_old taking.following.from followed

    pub takes_none : TakesTurn file round tid most before before old mid (record { steps = p.steps; starved = starved })
    takes_none =
        let x = ends_now.stopped stopped_at_once in
        record {
          added = [];
          entries_are = sym (append-nil before);
          in_round = λ (g : Progress) (ds : List Due) r e due. All-nil (IsInRound g ds);
          steps_are = sym none;
          steps_by_it = sym none;
          no_more = ends_now.no_more;
          none_added = λ q. refl;
          some = λ q. ends_now.some q;
          limits_stay = nothing_here.stands.limits_are;
          era_stays = ends_now.going_on.hearing.era;
          follows = follows_none;
          goes_on = λ q less. absurd (let z = sym q ∙ stopped_at_once in cc);
          starved = λ q. record {
            alive = ends_now.going_on.alive x.0;
            needy = x.1.needy;
            unlabelled = sym ((nothing_here.stands.watchers tid).label (x.1.quiet.era ∙ nothing_here.stands.era)) ∙ x.1.quiet.label;
            empty = sym nothing_here.stands.desk.desk.same_queue ∙ x.1.empty;
          };
          grown = omega (arith, ap (λ (n : ℕ). length (moments_in round n before)) ends_now.going_on.hearing.era);
        }

-- ---- the slot that is left

pub record MayLeave (d : Detected) (t : ℕ) : Type 0 where
  pub watched : t < length d.watchers
  pub live : (thread_of d.desk t).lives ≡ true
  pub slots : length (watcher_of d t).clock ≡ length d.desk.slots
  pub greatest : IsSomeAnd (held_of d.desk t) (λ (h : ℕ × ℕ). slice_index (watcher_of d t).clock h.0 ≡ d.desk.greatest)

pub may_leave :
    (file : List ℕ) (round tid most : ℕ) (before : List Entry) (starved : Bool) (p : Part) (old mid : WatchedMachine) → Taking file round tid most before old → RunsPart file tid most starved no_part p (resumed old tid) mid →
    is_some p.spent ≡ true → MayLeave mid.detector tid
may_leave file round tid most before starved p old mid taking runs spent = go p.spent refl spent
  where
    ends : Ends (setting_of file old.detector.limits taking.following.from round before tid old) starved p mid most
    ends = ends_now file round tid most before starved p old mid taking runs

    go : (o : Option Label) → p.spent ≡ o → is_some o ≡ true → MayLeave mid.detector tid
    go None q yes_is = absurd (cc)
    go (Some l) q yes_is =
        let x = (ends.going_on.hearing.leaves l q).leaving in
        let st = ends.going_on.hearing.stands in
        record {
          watched = x.watched;
          live = x.alive;
          slots = (st.watchers tid).slots ∙ sym st.desk.desk.slots.all_slots;
          greatest = subst (λ (o : Option (ℕ × ℕ)). IsSomeAnd o (λ (h : ℕ × ℕ). slice_index (watcher_of mid.detector tid).clock h.0 ≡ mid.detector.desk.greatest)) (sym x.held) x.greatest;
        }

-- there are few entries
pub few_before : (file : List ℕ) (round tid most : ℕ) (before : List Entry) (old : WatchedMachine) → Taking file round tid most before old → length before < 2 ^ 32
few_before file round tid most before old taking = let a = few_entries round old.detector.era before in let b = taking.room in omega arith

-- ---- the same, as the function comes to it

-- the detector after the thread has left its slot, if it spent one
pub after_some : (o : Option Label) (d : Detected) (t : ℕ) → is_some o ≡ true → after_spent o d t ≡ after_leave d t
after_some None d t q = absurd (cc)
after_some (Some l) d t q = refl

pub after_none : (o : Option Label) (d : Detected) (t : ℕ) → is_some o ≡ false → after_spent o d t ≡ d
after_none None d t q = refl
after_none (Some l) d t q = absurd (cc)

pub new_some : (o : Option Label) (mid new : WatchedMachine) (d : Detected) (t : ℕ) → is_some o ≡ true → new ≡ record { machine = mid.machine; detector = d } → d ≡ after_leave mid.detector t → new ≡ record { machine = mid.machine; detector = after_spent o mid.detector t }
new_some o mid new d t q is d_is = is ∙ ap (λ (x : Detected). record { machine = mid.machine; detector = x }) (d_is ∙ sym (after_some o mid.detector t q))

pub new_none : (o : Option Label) (mid new : WatchedMachine) (t : ℕ) → is_some o ≡ false → new ≡ mid → new ≡ record { machine = mid.machine; detector = after_spent o mid.detector t }
new_none o mid new t q is = is ∙ ap (λ (x : Detected). record { machine = mid.machine; detector = x }) (sym (after_none o mid.detector t q))

pub begins_of : (file : List ℕ) (round tid most : ℕ) (before : List Entry) (old : WatchedMachine) (q : Part) (d : Detected) → Taking file round tid most before old → q ≡ no_part → d ≡ after_resume old.detector tid → BeginsPart file tid most q (record { machine = old.machine; detector = d })
begins_of file round tid most before old q d taking q_is d_is =
    subst (λ (x : Part). BeginsPart file tid most x (record { machine = old.machine; detector = d })) (sym q_is)
    (subst (λ (x : Detected). BeginsPart file tid most no_part (record { machine = old.machine; detector = x })) (sym d_is) (begins_part file round tid most before old taking))

pub runs_of : (file : List ℕ) (tid most : ℕ) (starved : Bool) (p : Part) (old mid : WatchedMachine) (q : Part) (d : Detected) → q ≡ no_part → d ≡ after_resume old.detector tid → RunsPart file tid most starved q p (record { machine = old.machine; detector = d }) mid → RunsPart file tid most starved no_part p (resumed old tid) mid
runs_of file tid most starved p old mid q d q_is d_is runs =
    subst (λ (x : Detected). RunsPart file tid most starved no_part p (record { machine = old.machine; detector = x }) mid) d_is
    (subst (λ (x : Part). RunsPart file tid most starved x p (record { machine = old.machine; detector = d }) mid) q_is runs)

pub takes :
    (file : List ℕ) (round tid most : ℕ) (before after : List Entry) (starved : Bool) (p : Part) (old mid new : WatchedMachine) (era : ℕ) → Taking file round tid most before old → RunsPart file tid most starved no_part p (resumed old tid) mid → 0 < p.steps →
    new ≡ record { machine = mid.machine; detector = after_spent p.spent mid.detector tid } → era ≡ old.detector.era →
    after ≡ before ++ entries_of (length before) (record { round = round; era = era; tid = tid; steps = p.steps; attached = p.attached; events = p.events; checks = p.checks; left = p.spent }) →
    TakesTurn file round tid most before after old new (record { steps = p.steps; starved = starved })
takes file round tid most before after starved p old mid new era taking runs some new_is era_is after_is =
    let after_now : after ≡ entries_now (setting_of file old.detector.limits taking.following.from round before tid old) p = after_is ∙ ap (λ (x : ℕ). before ++ entries_of (length before) (record { round = round; era = x; tid = tid; steps = p.steps; attached = p.attached; events = p.events; checks = p.checks; left = p.spent })) era_is in
    subst (λ (es : List Entry). TakesTurn file round tid most before es old new (record { steps = p.steps; starved = starved })) (sym after_now)
    (subst (λ (w : WatchedMachine). TakesTurn file round tid most before (entries_now (setting_of file old.detector.limits taking.following.from round before tid old) p) old w (record { steps = p.steps; starved = starved })) (sym new_is)
    (takes_some file round tid most before starved p old mid taking runs (omega (arith, some))))

-- ---- the machine at its start

era_first : (g : ℕ) → era_now g [] ≡ 0
unfolding labels
era_first g = refl

depth_first : (file : List ℕ) (harts u : ℕ) → length (frames_now [] u) ≡ depth (start file harts) u
depth_first file harts zero = refl
depth_first file harts (suc u) = refl

pub first_follows : (file : List ℕ) (limits : Limits) (machine : World) (d : Detected) → AreLimits limits → machine ≡ start file limits.harts → HasMemory file machine → Stands (granules_of file) limits 0 None [] d → d.desk ≡ new_desk limits → Follows file limits 0 0 [] (record { machine = machine; detector = d })
first_follows file limits machine d are starts memory stands desk =
    follows_of file limits 0 0 [] (record { machine = machine; detector = d }) 0 (stands.era ∙ era_first limits.epochs) are
    starts memory (ap (λ (x : World). x.harts) starts)
    (subst (λ (x : World). Agrees limits.harts (threads_in x) d.desk) (sym starts) (subst (Agrees limits.harts (threads_in (start file limits.harts))) (sym desk) (new_is file limits are.some_harts)))
    (λ u. depth_first file limits.harts u ∙ ap (λ (x : World). depth x u) (sym starts))
    (lawful-start limits (bare_of file limits.harts) (granule_of file)) stands (All-nil (λ (e : Entry). e.era ≤ 0)) (All-nil (λ (e : Entry). e.round ≤ 0))

pub first_era : (file : List ℕ) (limits : Limits) (d : Detected) → Stands (granules_of file) limits 0 None [] d → d.era ≡ 0
first_era file limits d stands = stands.era ∙ era_first limits.epochs
