-- An instruction with all its events: the watched machine makes it too, and all stands after it.
use Rattle.std.proofs.Common.{◌≡◌, ◌≢◌, ℕ, suc, ◌+◌, ◌⊎◌, inl, inr, Bool, Option, List, [], ◌∷◌, ◌++◌, length, length-append, refl, ap, ap₂, sym, subst, ◌∙◌, arith}
use Rattle.std.specs.Prelude.{Ok}
use mathlib.Core.Logic.{dite}
use native.Mathlib.Decide.{ℕ_discrete}
use Rattle.run_record.specs.declared.event.Event.{Event}
use Rattle.run_record.specs.declared.entry.Check.{Check}
use Rattle.run_record.specs.declared.entry.Label.{Label}
use Rattle.run_record.specs.declared.limits.Limits.{Limits}
use Rattle.elf_image.specs.File.{image_of}
use Rattle.run_laws.specs.Moments.{Moment, items}
use Rattle.bare_machine.specs.World.{World}
use Rattle.bare_machine.specs.Memory.{stripe}
use Rattle.bare_machine.specs.Step.{desk}
use Rattle.turn_orders.specs.Machine.{Outcome, State, but, next, single}
use Rattle.turn_orders.proofs.Functions.{but_here, but_else, but_map, but_same}
use Rattle.place_turns.specs.Places as machine
use Rattle.place_turns.specs.Turns as turns
use Rattle.place_turns.specs.Wholes.{IsAtPlace}
use Rattle.place_clocks.specs.Places.{Own}
use Rattle.place_clocks.specs.Places as clocks
use Rattle.place_clocks.specs.Turns.{own_after, value_after}
use Rattle.joint_turns.specs.Joint as joint
use Rattle.joint_turns.specs.Joint.{Value}
use Rattle.joint_turns.specs.Along as along
use Rattle.watched_turns.specs.Checking.{Loads}
use Rattle.watched_turns.specs.Watch.{Watch, watch_after}
use Rattle.watched_turns.specs.Turns.{Local, steps, watched_turn, events_of, events_told, AreLabelled, IsPlaced}
use Rattle.watched_turns.specs.Along.{StandFrom, IsWatched}
use Rattle.watched_turns.specs.Right.{AreEvents}
use Rattle.watched_turns.proofs.Together.{comes_watched}
use Rattle.watched_turns.proofs.Converse.{step_stands}
use Rattle.slot_desk.specs.Desks.{DeskContents}
use Rattle.slot_desk.specs.History.{IsDeskAt}
use Rattle.sync_slab.specs.Objects.{SyncObjects}
use Rattle.sync_slab.specs.Channels.{KeepsChannels}
use Rattle.race_core.specs.History.{IsWatcherAt, era_now}
use Rattle.thread_events.specs.Standing.{Kept, is_kept_at, AreSettled, Stands}
use Rattle.run_laws.specs.Present.{labels_now, clocks_now}
use Rattle.placed_detector.specs.Standing.{Hand, Held, kept_of, AreGiven, Standing, left_with}
use Rattle.placed_detector.specs.Instructions.{beside, AreHeard, MakesInstruction}
use Rattle.placed_detector.proofs.Fitting.{Stood, Fits, Elsewhere}
use Rattle.placed_detector.proofs.Hearing.{HeardAll, all_heard}
use Rattle.placed_detector.proofs.Longer.{watched_stays}

-- what is kept stands, whoever writes it down
pub stands_same : (limits : Limits) (keeper : ℕ → ℕ) (leaving : ℕ → Bool) (h : List Moment) (x y : Kept) → Stands limits keeper leaving h x →
    x.desk ≡ y.desk → ((k : ℕ) → x.objects k ≡ y.objects k) → ((t : ℕ) → x.watchers t ≡ y.watchers t) → Stands limits keeper leaving h y
stands_same limits keeper leaving h x y s desk_is objects watchers = record {
  desk = subst (λ (d : DeskContents). IsDeskAt limits.epochs limits.slots (items h) (length h) d) desk_is s.desk;
  objects = λ k. subst (λ (o : SyncObjects). KeepsChannels (is_kept_at keeper k) (era_now limits.epochs h) (clocks_now limits.epochs h) o) (objects k)
      (s.objects k);
  object_slots = λ k. ap (λ (o : SyncObjects). o.slots) (sym (objects k)) ∙ s.object_slots k;
  watchers = λ t. subst (IsWatcherAt limits h t) (watchers t) (s.watchers t);
  settled = subst (λ (d : DeskContents). AreSettled leaving (labels_now limits.epochs h) d) desk_is s.settled;
  within = s.within;
}

-- one thing is told of each event
told_long : (file : List ℕ) (g t : ℕ) (loads : Loads) (i : ℕ) (o : Own) (v : clocks.Value) (w : Watch) (es : List Event) → length
    (events_told file g t loads i o v w es) ≡ length es
told_long file g t loads i o v w [] = refl
told_long file g t loads i o v w (e ∷ es) = ap suc (told_long file g t loads (i + 1) (own_after g e o v) (value_after g t e o v)
    (watch_after g o.label w e) es)

heard_long : (t : ℕ) (ms : List Moment) (es : List Event) (css : List (List Check)) → AreHeard t ms es css → length ms ≡ length es
heard_long t [] [] [] are = refl
heard_long t (m ∷ ms) (e ∷ es) (cs ∷ css) are = ap suc (heard_long t ms es css are.1)
heard_long t [] [] (cs ∷ css) are = absurd are
heard_long t [] (e ∷ es) css are = absurd are
heard_long t (m ∷ ms) [] css are = absurd are
heard_long t (m ∷ ms) (e ∷ es) [] are = absurd are

pub dec : (u t : ℕ) → (u ≡ t) ⊎ (u ≢ t)
dec u t = dite (ℕ_discrete u t) (λ p. inl p) (λ p. inr p)

-- ---- from what is kept to what workers and places have

pub kept_changed : (limits : Limits) (leaving : ℕ → Bool) (h : List Moment) (c : State Hand Held) (t k : ℕ) (hand : Hand) (held : Held) (y : Kept) →
    Stands limits stripe leaving h y → Fits k t (beside hand held) y → Elsewhere k t (kept_of c) y → Stands limits stripe leaving h
    (kept_of (left_with c t k hand held))
kept_changed limits leaving h c t k hand held y s f e = stands_same limits stripe leaving h y
    (kept_of (left_with c t k hand held)) s desk_then objects_then watchers_then
  where
    desk_by : (k ≡ desk) ⊎ (k ≢ desk) → y.desk ≡ (but c.value k held desk).desk
    desk_by (inl q) = f.desk_is q ∙ ap (λ (v : Held). v.desk) (sym (but_here c.value k desk held (sym q)))
    desk_by (inr ne) = e.desk_stays ne ∙ ap (λ (v : Held). v.desk) (sym (but_else c.value k desk held (λ q. ne (sym q))))

    desk_then : y.desk ≡ (but c.value k held desk).desk
    desk_then = desk_by (dec k desk)

    objects_by : (j : ℕ) → (j ≡ k) ⊎ (j ≢ k) → y.objects j ≡ (but c.value k held j).sync
    objects_by j (inl q) = ap y.objects q ∙ (f.sync ∙ ap (λ (v : Held). v.sync) (sym (but_here c.value k j held q)))
    objects_by j (inr ne) = e.objects j ne ∙ ap (λ (v : Held). v.sync) (sym (but_else c.value k j held ne))

    objects_then : (j : ℕ) → y.objects j ≡ (but c.value k held j).sync
    objects_then j = objects_by j (dec j k)

    watchers_by : (u : ℕ) → (u ≡ t) ⊎ (u ≢ t) → y.watchers u ≡ (but c.local t hand u).watched
    watchers_by u (inl q) = ap y.watchers q ∙ (f.watched ∙ ap (λ (l : Hand). l.watched) (sym (but_here c.local t u hand q)))
    watchers_by u (inr ne) = e.watchers u ne ∙ ap (λ (l : Hand). l.watched) (sym (but_else c.local t u hand ne))

    watchers_then : (u : ℕ) → y.watchers u ≡ (but c.local t hand u).watched
    watchers_then u = watchers_by u (dec u t)

pub made_changed : (c : State Hand Held) (t k : ℕ) (hand : Hand) (held : Held) (y : Kept) → Fits k t (beside hand held) y → Elsewhere k t (kept_of c) y →
    y.desk ≡ (but c.value k held desk).desk
made_changed c t k hand held y f e = go (dec k desk)
  where
    go : (k ≡ desk) ⊎ (k ≢ desk) → y.desk ≡ (but c.value k held desk).desk
    go (inl q) = f.desk_is q ∙ ap (λ (v : Held). v.desk) (sym (but_here c.value k desk held (sym q)))
    go (inr ne) = e.desk_stays ne ∙ ap (λ (v : Held). v.desk) (sym (but_else c.value k desk held (λ q. ne (sym q))))

-- ---- an instruction

module _ (file : List ℕ) (limits : Limits) (ok : image_of file ≡ Ok file) (c : State Hand Held) (m : State Local Value) (w : World) (h : List Moment)
    (s : Standing file limits c m w h)
    (t k : ℕ) (loads : Loads) (hand : Hand) (held : Held) (es : List Event) (css : List (List Check)) (ms : List Moment)
    (mk : MakesInstruction file limits.harts (era_now limits.epochs h) t k loads es css (c.local t) hand (c.value k) held)
    (are : AreHeard t ms es css) where
  abbrev g : ℕ
  g = limits.epochs

  abbrev n : ℕ
  n = length h

  abbrev later : List Moment
  later = h ++ ms

  abbrev given : ℕ → Option (Option (List ℕ))
  given = λ u. (c.local u).given

  stood : Stood limits k t given h (kept_of c) (beside (c.local t) (c.value k))
  stood = record {
    leaving = s.leaving;
    stands = s.kept;
    fits = record { watched = refl; sync = refl; desk_is = λ q. ap (λ (j : ℕ). (c.value j).desk) (sym q) };
    era = mk.present;
    are_given = subst (AreGiven limits h (c.value desk).desk.made) (sym (but_same given t)) s.given;
  }

  heard : HeardAll file limits k t given loads 0 h ms (kept_of c) es (beside hand held)
  heard = all_heard file limits k t given loads 0 es css ms h (kept_of c) (beside (c.local t) (c.value k)) (beside hand held) stood mk.heard are

  -- the watched turn
  stepped_is : turns.bare_turn file limits.harts t turns.steps (m.local t).joint.bare (m.value k).bare ≡ record
      { local = hand.bare; value = held.bare; told = es }
  stepped_is = ap₂ (λ (x : machine.Local) (v : machine.Value). turns.bare_turn file limits.harts t turns.steps x v) (s.locals t) (s.values k) ∙ mk.stepped

  events_are : events_of file limits.harts t (m.local t).joint (m.value k) ≡ es
  events_are = ap (λ (o : Outcome machine.Local machine.Value (List Event)). o.told) stepped_is

  at_place : IsAtPlace file (m.local t).joint.bare t k
  at_place = subst (λ (x : machine.Local). IsAtPlace file x t k) (sym (s.locals t)) mk.at

  pub stand : StandFrom later n (watched_turn file limits.harts g t (steps loads) (m.local t) (m.value k)).told
  stand = step_stands file limits.harts g limits.slots w later n m t k loads ok
      (watched_stays file limits.harts g limits.slots w h ms m s.watched) at_place
      (subst (λ (xs : List Event). AreEvents file g later t loads n 0 xs) (sym events_are) heard.right)

  labelled : AreLabelled g (m.local t).joint.own.label (events_of file limits.harts t (m.local t).joint (m.value k))
  labelled = subst (λ (xs : List Event). AreLabelled g (m.local t).joint.own.label xs) (sym events_are)
      (subst (λ (o : Option Label). AreLabelled g o es) (sym (s.watched.joint.clocks.own.label t)) heard.labelled)

  pub placed : IsPlaced file limits.harts g (m.local t) (m.value k) t k (steps loads)
  placed = (at_place, labelled)

  abbrev then : State Local Value
  then = next (watched_turn file limits.harts g) m (single t k (steps loads))

  pub long : n + length (watched_turn file limits.harts g t (steps loads) (m.local t) (m.value k)).told ≡ length later
  long =
      let told = told_long file g t loads 0 (m.local t).joint.own (m.value k).clocks (m.local t).watch
      (events_of file limits.harts t (m.local t).joint (m.value k)) in
      let same = ap (λ (xs : List Event). length xs) events_are in
      let moments = heard_long t ms es css are in
      let whole = length-append h ms in
      omega arith

  watched_then : IsWatched file limits.harts g limits.slots (along.world_after file w t joint.steps) later (length later) then
  watched_then =
      let one = comes_watched file limits.harts g limits.slots ok w later n m (watched_stays file limits.harts g limits.slots w h ms m s.watched) t k
      (steps loads) placed stand in
      subst (λ (i : ℕ). IsWatched file limits.harts g limits.slots (along.world_after file w t joint.steps) later i then) long one.watched

  locals_then : (u : ℕ) → (then.local u).joint.bare ≡ (but c.local t hand u).bare
  locals_then u = go (dec u t)
    where
      go : (u ≡ t) ⊎ (u ≢ t) → (then.local u).joint.bare ≡ (but c.local t hand u).bare
      go (inl q) =
          ap (λ (l : Local). l.joint.bare) (but_here m.local t u (watched_turn file limits.harts g t (steps loads) (m.local t) (m.value k)).local q)
          ∙ (ap (λ (o : Outcome machine.Local machine.Value (List Event)). o.local) stepped_is ∙ ap (λ (l : Hand). l.bare)
          (sym (but_here c.local t u hand q)))
      go (inr ne) =
          ap (λ (l : Local). l.joint.bare) (but_else m.local t u (watched_turn file limits.harts g t (steps loads) (m.local t) (m.value k)).local ne)
          ∙ (s.locals u ∙ ap (λ (l : Hand). l.bare) (sym (but_else c.local t u hand ne)))

  values_then : (j : ℕ) → (then.value j).bare ≡ (but c.value k held j).bare
  values_then j = go (dec j k)
    where
      go : (j ≡ k) ⊎ (j ≢ k) → (then.value j).bare ≡ (but c.value k held j).bare
      go (inl q) =
          ap (λ (v : Value). v.bare) (but_here m.value k j (watched_turn file limits.harts g t (steps loads) (m.local t) (m.value k)).value q)
          ∙ (ap (λ (o : Outcome machine.Local machine.Value (List Event)). o.value) stepped_is ∙ ap (λ (v : Held). v.bare)
          (sym (but_here c.value k j held q)))
      go (inr ne) =
          ap (λ (v : Value). v.bare) (but_else m.value k j (watched_turn file limits.harts g t (steps loads) (m.local t) (m.value k)).value ne)
          ∙ (s.values j ∙ ap (λ (v : Held). v.bare) (sym (but_else c.value k j held ne)))

  given_then : AreGiven limits later (but c.value k held desk).desk.made (λ u. (but c.local t hand u).given)
  given_then =
      subst (λ (d : DeskContents). AreGiven limits later d.made (λ u. (but c.local t hand u).given))
      (made_changed c t k hand held heard.then heard.stood.fits heard.elsewhere)
      (subst (λ (f : ℕ → Option (Option (List ℕ))). AreGiven limits later heard.then.desk.made f)
      (sym (but_map (λ (l : Hand). l.given) c.local t hand)) heard.stood.are_given)

  pub instruction_stands : Standing file limits (left_with c t k hand held) then (along.world_after file w t joint.steps) later
  instruction_stands = record {
    watched = watched_then;
    leaving = heard.stood.leaving;
    kept = kept_changed limits heard.stood.leaving later c t k hand held heard.then heard.stood.stands heard.stood.fits heard.elsewhere;
    given = given_then;
    locals = locals_then;
    values = values_then;
  }
