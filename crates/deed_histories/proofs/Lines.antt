-- Deeds of workers that line up: the watched machine follows them.
use Rattle.std.proofs.Common.{◌≡◌, ◌≢◌, ℕ, ◌+◌, max, ◌⊎◌, inl, inr, List, [], ◌∷◌, ◌++◌, append_assoc, append-nil, ap, ap₂, sym, subst, ◌∙◌}
use Rattle.std.specs.Prelude.{map, Ok}
use Rattle.std.specs.List.{enumerate_from}
use mathlib.Core.Logic.{dite}
use native.Mathlib.Decide.{ℕ_discrete}
use Rattle.run_record.specs.declared.event.Event.{Event}
use Rattle.run_record.specs.declared.entry.Entry.{Entry}
use Rattle.run_record.specs.declared.limits.Limits.{Limits}
use Rattle.elf_image.specs.File.{image_of}
use Rattle.run_laws.specs.Moments.{Does, Notes, NewEra, Moment, entry_moments, event_moment}
use Rattle.bare_machine.specs.World.{World}
use Rattle.turn_orders.specs.Lists.{Each}
use Rattle.turn_orders.specs.Machine.{Call, State, but, next, after, many, single}
use Rattle.turn_orders.specs.LineUp.{Deed, Stamped, plain, calls}
use Rattle.turn_orders.proofs.Functions.{but_here, but_else, but_map}
use Rattle.joint_turns.specs.Joint.{Value}
use Rattle.watched_turns.specs.Turns.{Local, Act, watched_turn}
use Rattle.turn_histories.specs.Entries.{IsEntryOf}
use Rattle.race_core.specs.History.{era_now}
use Rattle.thread_events.proofs.Longer.{era_stays}
use Rattle.woven_turns.specs.Weave.{LinesUp}
use Rattle.woven_turns.specs.Following.{left_by, left_after, deed_of, deeds_of, call_of}
use Rattle.woven_turns.proofs.Following.{found_local, found_value, rest_lines, first_line}
use Rattle.placed_detector.specs.Standing.{Hand, Held, Standing, left_with}
use Rattle.deed_histories.specs.Deeds.{IsDeed, Takes, Leaves, Makes, IsFollowed}
use Rattle.deed_histories.specs.Lines.{HandDeed, acts_of, entries_of, moments_of, IsHandDeed, stamped_turn, StandsStamped, FollowsDeeds}
use Rattle.deed_histories.proofs.Entries.{followed}

-- no era begins within an entry
era_events : (g : ℕ) (h : List Moment) (e : Entry) (n : ℕ) (es : List Event) → era_now g (h ++ map (event_moment 0 e) (enumerate_from n es)) ≡ era_now g h
era_events g h e n [] = ap (era_now g) (append-nil h)
era_events g h e n (v ∷ es) =
    let m : Moment = event_moment 0 e (n, v) in
    ap (era_now g) (sym (append_assoc h (m ∷ []) (map (event_moment 0 e) (enumerate_from (n + 1) es))))
    ∙ (era_events g (h ++ m ∷ []) e (n + 1) es ∙ era_stays g h m none)
  where
    none : Does e.tid v ≡ NewEra → ⊥
    none q = cc

pub era_entry : (g : ℕ) (h : List Moment) (e : Entry) → era_now g (h ++ entry_moments 0 e) ≡ era_now g h
era_entry g h e =
    let m : Moment = record { entry = 0; round = e.round; item = Notes e.tid e.note; checks = [] } in
    ap (era_now g) (sym (append_assoc h (m ∷ []) (map (event_moment 0 e) (enumerate_from 0 e.events))))
    ∙ (era_events g (h ++ m ∷ []) e 0 e.events ∙ era_stays g h m none)
  where
    none : Notes e.tid e.note ≡ NewEra → ⊥
    none q = cc

-- the entry has its thread's number
tid_of : (file : List ℕ) (limits : Limits) (era t k : ℕ) (found left : Hand) (place_found place_left : Held) (e : Entry) (acts : List Act) →
    IsDeed file limits era t k found left place_found place_left e acts → e.tid ≡ t
tid_of file limits era t k found left pf pl e _ (Takes label at tk tn) = tn.thread
tid_of file limits era t k found left pf pl e _ (Leaves label at lv same tn) = tn.thread
tid_of file limits era t k found left pf pl e _ (Makes xs made tm) = tm.thread

module _ (file : List ℕ) (limits : Limits) (ok : image_of file ≡ Ok file) where
  abbrev turn : Rattle.turn_orders.specs.Machine.Turn (Stamped Local) (Stamped Value) (List Act)
      (Stamped (List (List Rattle.watched_turns.specs.Turns.Told)))
  turn = stamped_turn file limits

  abbrev Hands : Type 0
  Hands = State (Stamped Hand) (Stamped Held)

  abbrev Watched : Type 0
  Watched = State (Stamped Local) (Stamped Value)

  -- the states without stamps
  plain_left : (c : Hands) (d : HandDeed) → plain (left_by c d) ≡ left_with (plain c) d.call.thread d.call.place d.local_left.state d.left.state
  plain_left c d = λ i. record {
    local = but_map (λ (l : Stamped Hand). l.state) c.local d.call.thread d.local_left i;
    value = but_map (λ (v : Stamped Held). v.state) c.value d.call.place d.left i;
  }

  plain_next : (m : Watched) (t k : ℕ) (acts : List Act) → plain (next turn m (single t k acts)) ≡ next
      (many (watched_turn file limits.harts limits.epochs)) (plain m) (single t k acts)
  plain_next m t k acts = λ i. record {
    local = but_map (λ (l : Stamped Local). l.state) m.local t (turn t acts (m.local t) (m.value k)).local i;
    value = but_map (λ (v : Stamped Value). v.state) m.value k (turn t acts (m.local t) (m.value k)).value i;
  }

  dec : (u t : ℕ) → (u ≡ t) ⊎ (u ≢ t)
  dec u t = dite (ℕ_discrete u t) (λ p. inl p) (λ p. inr p)

  -- ---- one deed

  module _ (c : Hands) (m : Watched) (w : World) (h : List Moment) (s : StandsStamped file limits c m w h) (d : HandDeed)
      (made : IsHandDeed file limits (era_now limits.epochs h) d) (here : c.local d.call.thread ≡ d.local_found)
      (there : c.value d.call.place ≡ d.found) where
    abbrev t : ℕ
    t = d.call.thread

    abbrev k : ℕ
    k = d.call.place

    abbrev it : Deed (Stamped Local) (Stamped Value) (List Act) (Stamped (List (List Rattle.watched_turns.specs.Turns.Told)))
    it = deed_of turn m (call_of turn acts_of d)

    deed_here : IsDeed file limits (era_now limits.epochs h) t k ((plain c).local t) d.local_left.state
        ((plain c).value k) d.left.state d.told.entry d.told.acts
    deed_here =
        subst (λ (l : Hand). IsDeed file limits (era_now limits.epochs h) t k l d.local_left.state
        (c.value k).state d.left.state d.told.entry d.told.acts) (ap (λ (l : Stamped Hand). l.state) (sym here))
        (subst (λ (v : Held). IsDeed file limits
        (era_now limits.epochs h) t k d.local_found.state d.local_left.state v d.left.state d.told.entry d.told.acts)
        (ap (λ (v : Stamped Held). v.state) (sym there)) made.deed)

    pub one : IsFollowed file limits (plain c) (plain m) h t k d.local_left.state d.left.state d.told.entry d.told.acts
    one = followed file limits ok (plain c) (plain m) w h s.standing t d.local_left.state d.left.state d.told.entry k d.told.acts deed_here

    -- both draw the same stamp
    stamp_is : max (m.local t).last (m.value k).last + 1 ≡ d.local_left.last
    stamp_is =
        ap₂ (λ (a b : ℕ). max a b + 1) (s.locals t ∙ ap (λ (l : Stamped Hand). l.last) here) (s.values k ∙ ap (λ (v : Stamped Held). v.last) there)
        ∙ sym made.drawn

    entry_of : IsEntryOf file limits.harts limits.epochs it d.told.entry
    entry_of = record {
      thread = sym (tid_of file limits (era_now limits.epochs h) t k ((plain c).local t) d.local_left.state
          ((plain c).value k) d.left.state d.told.entry d.told.acts deed_here);
      stamp = stamp_is ∙ sym made.entry_stamp;
      makes = one.makes;
      placed = one.placed;
      told = one.told;
      grouped = one.grouped;
    }

    locals_then : (u : ℕ) → ((next turn m (single t k d.told.acts)).local u).last ≡ ((left_by c d).local u).last
    locals_then u = go (dec u t)
      where
        go : (u ≡ t) ⊎ (u ≢ t) → ((next turn m (single t k d.told.acts)).local u).last ≡ ((left_by c d).local u).last
        go (inl q) = ap (λ (l : Stamped Local). l.last) (but_here m.local t u (turn t d.told.acts (m.local t) (m.value k)).local q) ∙
            (stamp_is ∙ ap (λ (l : Stamped Hand). l.last) (sym (but_here c.local t u d.local_left q)))
        go (inr ne) = ap (λ (l : Stamped Local). l.last) (but_else m.local t u (turn t d.told.acts (m.local t) (m.value k)).local ne) ∙
            (s.locals u ∙ ap (λ (l : Stamped Hand). l.last) (sym (but_else c.local t u d.local_left ne)))

    values_then : (j : ℕ) → ((next turn m (single t k d.told.acts)).value j).last ≡ ((left_by c d).value j).last
    values_then j = go (dec j k)
      where
        go : (j ≡ k) ⊎ (j ≢ k) → ((next turn m (single t k d.told.acts)).value j).last ≡ ((left_by c d).value j).last
        go (inl q) = ap (λ (v : Stamped Value). v.last) (but_here m.value k j (turn t d.told.acts (m.local t) (m.value k)).value q) ∙
            (stamp_is ∙ (sym made.left_there ∙ ap (λ (v : Stamped Held). v.last) (sym (but_here c.value k j d.left q))))
        go (inr ne) = ap (λ (v : Stamped Value). v.last) (but_else m.value k j (turn t d.told.acts (m.local t) (m.value k)).value ne) ∙
            (s.values j ∙ ap (λ (v : Stamped Held). v.last) (sym (but_else c.value k j d.left ne)))

    pub stands_next : StandsStamped file limits (left_by c d) (next turn m (single t k d.told.acts)) one.world (h ++ entry_moments 0 d.told.entry)
    stands_next = record {
      standing = subst (λ (z : State Hand Held). Standing file limits z (plain (next turn m (single t k d.told.acts))) one.world
          (h ++ entry_moments 0 d.told.entry)) (sym (plain_left c d))
          (subst (λ (z : State Local Value). Standing file limits (left_with (plain c) t k d.local_left.state d.left.state) z one.world
          (h ++ entry_moments 0 d.told.entry)) (sym (plain_next m t k d.told.acts)) one.stands);
      locals = locals_then;
      values = values_then;
    }

  -- ---- all of a line

  pub follows_deeds : (ds : List HandDeed) (c : Hands) (m : Watched) (w : World) (h : List Moment) → LinesUp c ds → Each
      (IsHandDeed file limits (era_now limits.epochs h)) ds → StandsStamped file limits c m w h → FollowsDeeds file limits c m h ds
  follows_deeds [] c m w h line made s = record {
    line = record { turns = tt; locals = λ t. tt; values = λ k. tt };
    told = tt;
    world = w;
    stands = subst (StandsStamped file limits c m w) (sym (append-nil h)) s;
  }
  follows_deeds (d ∷ ds) c m w h line made s =
      let here = found_local c d ds line in
      let there = found_value c d ds line in
      let it : Call (List Act) = call_of turn acts_of d in
      let era = era_entry limits.epochs h d.told.entry in
      let rest = follows_deeds ds (left_by c d) (next turn m it) (one c m w h s d made.0 here there).world (h ++ entry_moments 0 d.told.entry)
      (rest_lines c d ds line)
      (subst (λ (n : ℕ). Each (IsHandDeed file limits n) ds) (sym era) made.1) (stands_next c m w h s d made.0 here there) in
      record {
        line = first_line turn m it (deeds_of turn acts_of (next turn m it) ds) rest.line;
        told = (entry_of c m w h s d made.0 here there, rest.told);
        world = rest.world;
        stands = subst (StandsStamped file limits (left_after c (d ∷ ds)) (after turn m (calls (deeds_of turn acts_of m (d ∷ ds)))) rest.world)
            (append_assoc h (entry_moments 0 d.told.entry) (moments_of (entries_of ds))) rest.stands;
      }
