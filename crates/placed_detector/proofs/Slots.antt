-- A slot that is taken or left, and an entry that begins without one: the watched machine does so too, and all stands after it.
use Rattle.std.proofs.Common.{◌≡◌, ◌≢◌, ◌<◌, ℕ, ◌+◌, ◌⊎◌, inl, inr, Bool, true, false, cond, Option, Some, None, List, [], ◌∷◌, ◌++◌, length, refl, ap, ap₂, sym, subst, ◌∙◌, arith}
use Rattle.std.specs.Prelude.{map, Ok}
use Rattle.run_record.specs.declared.entry.DeskNote.{DeskNote}
use Rattle.run_record.specs.declared.entry.DeskNote.TheVariants.{Nothing, Attach, Leave}
use Rattle.run_record.specs.declared.entry.Label.{Label}
use Rattle.run_record.specs.declared.limits.Limits.{Limits}
use Rattle.elf_image.specs.File.{image_of}
use Rattle.run_laws.specs.Moments.{Notes, NewEra, Moment, items}
use Rattle.run_laws.specs.Labels.{Labels, queue, can_attach, next_labels}
use Rattle.run_laws.specs.Clocks.{Clocks, Spot, Given, Of, next_clocks, attach_clocks}
use Rattle.run_laws.specs.Present.{labels_now, clocks_now}
use Rattle.run_laws.proofs.PresentLaw.{clocks_now-push, labels_now-push}
use Rattle.bare_machine.specs.World.{World}
use Rattle.bare_machine.specs.Memory.{stripe}
use Rattle.bare_machine.specs.Step.{desk}
use Rattle.bare_machine.specs.declared.thread.Thread.{Thread}
use Rattle.turn_orders.specs.Lists.{In}
use Rattle.turn_orders.specs.Machine.{State, but, next, single}
use Rattle.turn_orders.proofs.Functions.{but_here, but_else, but_same}
use Rattle.place_turns.specs.Places as machine
use Rattle.place_turns.specs.Turns as turns
use Rattle.place_clocks.specs.Places as clock_places
use Rattle.place_clocks.specs.Turns as clock_turns
use Rattle.joint_turns.specs.Joint.{Value, attach_turn}
use Rattle.joint_turns.specs.Along as along
use Rattle.watched_turns.specs.Checking.{checked_of}
use Rattle.watched_turns.specs.Turns.{Local, Act, Told, unchecked, attaches, begins, leaves, watched_turn, joint_act, IsPlaced, era_after}
use Rattle.watched_turns.specs.Along.{StandFrom, IsWatched}
use Rattle.watched_turns.proofs.Together.{comes_watched}
use Rattle.watched_turns.proofs.Run.{era_watched}
use Rattle.slot_desk.specs.Desks.{DeskContents, slot_of, thread_of}
use Rattle.slot_desk.specs.Steps as desks
use Rattle.slot_desk.proofs.HistorySlots.{front_is_free}
use Rattle.race_core.specs.Watched.{labelled, with_clock, in_era}
use Rattle.race_core.specs.History.{era_now, IsWatcherAt}
use Rattle.thread_events.specs.Standing.{Stands}
use Rattle.thread_events.specs.Heard.{IsGiven, kept_attached, kept_left, kept_in_era, leaving_without}
use Rattle.thread_events.proofs.Longer.{moment-seam, item-seam, length-push}
use Rattle.thread_events.proofs.Notes.{slotless, nothing_stands, left_stands, attached_stands, era_stands}
use Rattle.placed_detector.specs.Standing.{Hand, Held, kept_of, Standing, left_with}
use Rattle.placed_detector.specs.Slots.{given_at, TakesSlot, LeavesSlot, in_new_era}
use Rattle.placed_detector.proofs.Longer.{watched_stays}
use Rattle.placed_detector.proofs.Eras.{enters}
use Rattle.placed_detector.proofs.Instructions.{dec, kept_changed, stands_same}

-- ---- a note tells one thing

module _ (file : List ℕ) (limits : Limits) (ok : image_of file ≡ Ok file) (m : State Local Value) (w : World) (h : List Moment)
    (watched : IsWatched file limits.harts limits.epochs limits.slots w h (length h) m)
    (t k : ℕ) (a : Act) (note : DeskNote) (mom : Moment) (is : mom.item ≡ Notes t note) (none : mom.checks ≡ [])
    (placed : IsPlaced file limits.harts limits.epochs (m.local t) (m.value k) t k a)
    (told_is : (watched_turn file limits.harts limits.epochs t a (m.local t) (m.value k)).told ≡ unchecked (Notes t note) ∷ []) where
  note_stands : StandFrom (h ++ mom ∷ []) (length h) (watched_turn file limits.harts limits.epochs t a (m.local t) (m.value k)).told
  note_stands = subst (StandFrom (h ++ mom ∷ []) (length h)) (sym told_is)
      (record { item = item-seam h mom ∙ is; checks = ap (λ (x : Moment). map checked_of x.checks) (moment-seam h mom) ∙ ap (map checked_of) none }, tt)

  pub noted : IsWatched file limits.harts limits.epochs limits.slots (along.world_after file w t (joint_act a)) (h ++ mom ∷ []) (length (h ++ mom ∷ []))
      (next (watched_turn file limits.harts limits.epochs) m (single t k a))
  noted =
      let one = comes_watched file limits.harts limits.epochs limits.slots ok w (h ++ mom ∷ []) (length h) m
      (watched_stays file limits.harts limits.epochs limits.slots w h (mom ∷ []) m watched) t k a placed note_stands in
      let long : length h + 1 ≡ length (h ++ mom ∷ []) = omega (arith, length-push h mom) in
      let e : length h + length (watched_turn file limits.harts limits.epochs t a (m.local t) (m.value k)).told ≡ length (h ++ mom ∷ []) = ap
      (λ (xs : List Told). length h + length xs) told_is ∙ long in
      subst (λ (i : ℕ). IsWatched file limits.harts limits.epochs limits.slots (along.world_after file w t (joint_act a)) (h ++ mom ∷ []) i
      (next (watched_turn file limits.harts limits.epochs) m (single t k a))) e one.watched

-- a note leaves what is given at each spot
spot_noted : (g : ℕ) (l : Labels) (k : Clocks) (t : ℕ) (note : DeskNote) (y : Spot) (r : ℕ) → (next_clocks g l k (Notes t note)).spot y r ≡ k.spot y r
spot_noted g l k t Nothing y r = refl
spot_noted g l k t (Leave a) y r = refl
spot_noted g l k t (Attach a) y r = go (can_attach l t a.sid)
  where
    go : (b : Bool) → (cond b (attach_clocks l k t a.sid) k).spot y r ≡ k.spot y r
    go true = refl
    go false = refl

given_noted : (limits : Limits) (h : List Moment) (mom : Moment) (t u : ℕ) (note : DeskNote) (told : Option (List ℕ)) → mom.item ≡ Notes t note →
    IsGiven limits h u told → IsGiven limits (h ++ mom ∷ []) u told
given_noted limits h mom t u note told is given = record {
  long = given.long;
  known = λ r l.
      ap (λ (y : Clocks). y.spot (Of (Given u)) r) (clocks_now-push limits.epochs h mom ∙ ap
      (next_clocks limits.epochs (labels_now limits.epochs h) (clocks_now limits.epochs h)) is)
      ∙ (spot_noted limits.epochs (labels_now limits.epochs h) (clocks_now limits.epochs h) t note (Of (Given u)) r ∙ given.known r l);
}

module _ (file : List ℕ) (limits : Limits) (ok : image_of file ≡ Ok file) (c : State Hand Held) (m : State Local Value) (w : World) (h : List Moment)
    (s : Standing file limits c m w h) (t : ℕ) (mom : Moment) (none : mom.checks ≡ []) where
  abbrev g : ℕ
  g = limits.epochs

  abbrev later : List Moment
  later = h ++ mom ∷ []

  -- ---- an entry begins, without a note

  module _ (k : ℕ) (is : mom.item ≡ Notes t Nothing) where
    same_local : (u : ℕ) → (next (watched_turn file limits.harts g) m (single t k begins)).local u ≡ m.local u
    same_local u = ap (λ (f : ℕ → Local). f u) (but_same m.local t)

    same_value : (j : ℕ) → (next (watched_turn file limits.harts g) m (single t k begins)).value j ≡ m.value j
    same_value j = ap (λ (f : ℕ → Value). f j) (but_same m.value k)

    pub begins_stands : Standing file limits c (next (watched_turn file limits.harts g) m (single t k begins)) w later
    begins_stands = record {
      watched = noted file limits ok m w h s.watched t k begins Nothing mom is none (tt, tt) refl;
      leaving = s.leaving;
      kept = nothing_stands limits stripe s.leaving h mom (kept_of c) t s.kept is;
      given = λ u told q. (given_noted limits h mom t u Nothing told is (s.given u told q).0, (s.given u told q).1);
      locals = λ u. ap (λ (l : Local). l.joint.bare) (same_local u) ∙ s.locals u;
      values = λ j. ap (λ (v : Value). v.bare) (same_value j) ∙ s.values j;
    }

  -- ---- a slot is left

  module _ (label : Label) (is : mom.item ≡ Notes t (Leave label)) (left : Held)
      (lv : LeavesSlot (era_now limits.epochs h) t label (c.local t) (c.value desk) left) where
    abbrev then : State Local Value
    then = next (watched_turn file limits.harts g) m (single t desk (leaves label))

    abbrev c' : State Hand Held
    c' = left_with c t desk (c.local t) left

    made_stays : (c.value desk).desk.made ≡ left.desk.made
    made_stays = sym (ap (λ (v : Held). v.desk.made) lv.place ∙ go (Rattle.slot_desk.specs.Desks.held_of (c.value desk).desk t))
      where
        go : (o : Option (ℕ × ℕ)) → (Rattle.std.specs.Option.option_map_or (λ (x : ℕ × ℕ). record (c.value desk).desk
            { slots = Rattle.std.specs.Prelude.slice_set (c.value desk).desk.slots x.0 (desks.spent_slot (slot_of (c.value desk).desk x.0)) }) o
            (c.value desk).desk).made ≡ (c.value desk).desk.made
        go None = refl
        go (Some x) = refl

    kept_then : Stands limits stripe (leaving_without s.leaving t) later (kept_of c')
    kept_then =
        kept_changed limits (leaving_without s.leaving t) later c t desk (c.local t) left (kept_left (kept_of c) t)
        (left_stands limits stripe s.leaving h mom (kept_of c) t s.kept label is lv.holds
        (slotless limits.epochs h t (sym ((s.kept.watchers t).label lv.present) ∙ lv.lost)))
        (record { watched = refl; sync = ap (λ (v : Held). v.sync) (sym lv.place); desk_is = λ q. ap (λ (v : Held). v.desk) (sym lv.place) })
        (record { watchers = λ u ne. refl; objects = λ j ne. refl; desk_stays = λ ne. absurd (ne refl) })

    locals_then : (u : ℕ) → (then.local u).joint.bare ≡ (c'.local u).bare
    locals_then u = go (dec u t)
      where
        go : (u ≡ t) ⊎ (u ≢ t) → (then.local u).joint.bare ≡ (c'.local u).bare
        go (inl q) = ap (λ (l : Local). l.joint.bare) (but_here m.local t u (watched_turn file limits.harts g t (leaves label) (m.local t)
            (m.value desk)).local q) ∙ (s.locals t ∙ ap (λ (l : Hand). l.bare) (sym (but_here c.local t u (c.local t) q)))
        go (inr ne) = ap (λ (l : Local). l.joint.bare) (but_else m.local t u
            (watched_turn file limits.harts g t (leaves label) (m.local t) (m.value desk)).local ne) ∙
            (s.locals u ∙ ap (λ (l : Hand). l.bare) (sym (but_else c.local t u (c.local t) ne)))

    values_then : (j : ℕ) → (then.value j).bare ≡ (c'.value j).bare
    values_then j = go (dec j desk)
      where
        go : (j ≡ desk) ⊎ (j ≢ desk) → (then.value j).bare ≡ (c'.value j).bare
        go (inl q) = ap (λ (v : Value). v.bare) (but_here m.value desk j (watched_turn file limits.harts g t (leaves label) (m.local t)
            (m.value desk)).value q) ∙ (s.values desk ∙ (ap (λ (v : Held). v.bare) (sym lv.place) ∙ ap (λ (v : Held). v.bare)
            (sym (but_here c.value desk j left q))))
        go (inr ne) = ap (λ (v : Value). v.bare) (but_else m.value desk j (watched_turn file limits.harts g t (leaves label) (m.local t)
            (m.value desk)).value ne) ∙ (s.values j ∙ ap (λ (v : Held). v.bare) (sym (but_else c.value desk j left ne)))

    same_given : (u : ℕ) → (c'.local u).given ≡ (c.local u).given
    same_given u = ap (λ (f : ℕ → Hand). (f u).given) (but_same c.local t)

    pub left_slot_stands : Standing file limits c' then w later
    left_slot_stands = record {
      watched = noted file limits ok m w h s.watched t desk (leaves label) (Leave label) mom is none (tt, tt) refl;
      leaving = leaving_without s.leaving t;
      kept = kept_then;
      given = λ u told q.
          let before = s.given u told (sym (same_given u) ∙ q) in
          let made : (but c.value desk left desk).desk.made ≡ left.desk.made = ap (λ (v : Held). v.desk.made) (but_here c.value desk desk left refl) in
          (given_noted limits h mom t u (Leave label) told is before.0, let z = before.1 in let y = made_stays in omega arith);
      locals = locals_then;
      values = values_then;
    }

  -- ---- a slot is taken

  module _ (label : Label) (is : mom.item ≡ Notes t (Attach label)) (hand : Hand) (left : Held)
      (tk : TakesSlot limits (era_now limits.epochs h) t label (c.local t) hand (c.value desk) left) where
    abbrev taken_then : State Local Value
    taken_then = next (watched_turn file limits.harts g) m (single t desk attaches)

    abbrev c_taken : State Hand Held
    c_taken = left_with c t desk hand left

    abbrev d : DeskContents
    d = (c.value desk).desk

    abbrev cd : clock_places.Desk
    cd = clock_places.desk_in (m.value desk).clocks

    -- what the watched turn tells
    queue_is : cd.queue ≡ label.sid ∷ tk.attaches.rest
    queue_is = s.watched.joint.clocks.at_desk.queue ∙ (sym s.kept.desk.desk.same_queue ∙ tk.attaches.front)

    in_front : In label.sid cd.queue
    in_front = subst (In label.sid) (sym queue_is) (inl refl)

    last_is : cd.last label.sid + 1 ≡ label.epoch
    last_is =
        let q : In label.sid (queue g limits.slots (items h) (length h)) = subst (In label.sid) s.watched.joint.clocks.at_desk.queue in_front in
        let last = s.watched.joint.clocks.at_desk.last label.sid q in
        let free = front_is_free d.queue tk.attaches.rest d.slots label.sid s.kept.desk.desk.slots.queued tk.attaches.front in
        let epoch = (s.kept.desk.desk.slots.free label.sid free.0).1 in
        ap (λ (x : ℕ). x + 1) (last ∙ epoch) ∙ sym tk.attaches.epoch

    era_is : cd.era ≡ label.era
    era_is = s.watched.joint.clocks.at_desk.era ∙ (sym tk.present ∙ sym tk.attaches.era)

    label_told : (x y : ℕ) → x ≡ label.epoch → y ≡ label.era → unchecked (Notes t (Attach (record { sid = label.sid; epoch = x; era = y }))) ∷
        [] ≡ unchecked (Notes t (Attach label)) ∷ []
    label_told x y p q = λ i. unchecked (Notes t (Attach (record { sid = label.sid; epoch = p i; era = q i }))) ∷ []

    abbrev turned : List ℕ → List Told
    turned queue = map unchecked (attach_turn file limits.harts g t (m.local t).joint (m.value desk) queue).told

    -- the queue stands twice in the turn
    told_by : (queue : List ℕ) → queue ≡ label.sid ∷ tk.attaches.rest → map unchecked
        (clock_turns.attached t (m.local t).joint.own cd queue (m.value desk).clocks).told ≡ unchecked (Notes t (Attach label)) ∷ []
    told_by queue e = ap (λ (x : List ℕ). map unchecked (clock_turns.attached t (m.local t).joint.own cd x (m.value desk).clocks).told) e ∙ label_told
        (cd.last label.sid + 1) cd.era last_is era_is

    pub told_is : (watched_turn file limits.harts g t attaches (m.local t) (m.value desk)).told ≡ unchecked (Notes t (Attach label)) ∷ []
    told_is = ap turned queue_is ∙ told_by cd.queue queue_is

    label_none : (m.local t).joint.own.label ≡ None
    label_none = s.watched.joint.clocks.own.label t ∙ (sym ((s.kept.watchers t).label tk.present) ∙ tk.attaches.unlabelled)

    pub attach_placed : IsPlaced file limits.harts g (m.local t) (m.value desk) t desk attaches
    attach_placed = ((refl, label_none, subst (λ (v : machine.Value). t < length (machine.desk_in v).made) (sym (s.values desk)) tk.known), tt)

    -- the kept side
    kept_taken : Stands limits stripe s.leaving later (kept_of c_taken)
    kept_taken =
        kept_changed limits s.leaving later c t desk hand left (kept_attached (kept_of c) t label)
        (attached_stands limits stripe s.leaving h mom (kept_of c) t s.kept label is tk.attaches tk.present)
        (record {
          watched = but_here (kept_of c).watchers t t (labelled (with_clock (c.local t).watched
              (desks.clock_after_attach d (c.local t).watched.clock)) label) refl ∙ ap (λ (l : Hand). l.watched) (sym tk.hand);
          sync = ap (λ (v : Held). v.sync) (sym tk.place);
          desk_is = λ q. ap (λ (v : Held). v.desk) (sym tk.place);
        })
        (record {
          watchers = λ u ne. but_else (kept_of c).watchers t u (labelled
              (with_clock (c.local t).watched
              (desks.clock_after_attach d (c.local t).watched.clock)) label) ne;
          objects = λ j ne. refl;
          desk_stays = λ ne. absurd (ne refl);
        })

    -- the bare machine's part
    bare_turned : (queue : List ℕ) → queue ≡ label.sid ∷ tk.attaches.rest → (attach_turn file limits.harts g t (m.local t).joint
        (m.value desk) queue).local.bare ≡ turns.arrived t (m.local t).joint.bare (machine.desk_in (m.value desk).bare) (m.local t).joint.bare.thread
    bare_turned queue e = ap (λ (x : List ℕ). (attach_turn file limits.harts g t (m.local t).joint (m.value desk) x).local.bare) e

    bare_stays : (queue : List ℕ) → queue ≡ label.sid ∷ tk.attaches.rest → (attach_turn file limits.harts g t (m.local t).joint
        (m.value desk) queue).value.bare ≡ (m.value desk).bare
    bare_stays queue e = ap (λ (x : List ℕ). (attach_turn file limits.harts g t (m.local t).joint (m.value desk) x).value.bare) e

    locals_taken : (u : ℕ) → (taken_then.local u).joint.bare ≡ (c_taken.local u).bare
    locals_taken u = go (dec u t)
      where
        go : (u ≡ t) ⊎ (u ≢ t) → (taken_then.local u).joint.bare ≡ (c_taken.local u).bare
        go (inl q) =
            ap (λ (l : Local). l.joint.bare) (but_here m.local t u (watched_turn file limits.harts g t attaches (m.local t) (m.value desk)).local q)
            ∙ (bare_turned cd.queue queue_is
            ∙ (ap₂ (λ (x : machine.Local) (v : machine.Value). turns.arrived t x (machine.desk_in v) x.thread) (s.locals t) (s.values desk)
            ∙ (ap (λ (l : Hand). l.bare) (sym tk.hand) ∙ ap (λ (l : Hand). l.bare) (sym (but_here c.local t u hand q)))))
        go (inr ne) = ap (λ (l : Local). l.joint.bare) (but_else m.local t u
            (watched_turn file limits.harts g t attaches (m.local t) (m.value desk)).local ne) ∙
            (s.locals u ∙ ap (λ (l : Hand). l.bare) (sym (but_else c.local t u hand ne)))

    values_taken : (j : ℕ) → (taken_then.value j).bare ≡ (c_taken.value j).bare
    values_taken j = go (dec j desk)
      where
        go : (j ≡ desk) ⊎ (j ≢ desk) → (taken_then.value j).bare ≡ (c_taken.value j).bare
        go (inl q) =
            ap (λ (v : Value). v.bare) (but_here m.value desk j (watched_turn file limits.harts g t attaches (m.local t) (m.value desk)).value q)
            ∙ (bare_stays cd.queue queue_is ∙ (s.values desk ∙ (ap (λ (v : Held). v.bare) (sym tk.place) ∙ ap (λ (v : Held). v.bare)
            (sym (but_here c.value desk j left q)))))
        go (inr ne) = ap (λ (v : Value). v.bare) (but_else m.value desk j (watched_turn file limits.harts g t attaches (m.local t)
            (m.value desk)).value ne) ∙ (s.values j ∙ ap (λ (v : Held). v.bare) (sym (but_else c.value desk j left ne)))

    -- what the thread was given
    made_then : (but c.value desk left desk).desk.made ≡ d.made
    made_then = ap (λ (v : Held). v.desk.made) (but_here c.value desk desk left refl) ∙ (ap (λ (v : Held). v.desk.made) tk.place ∙ go d.queue)
      where
        go : (queue : List ℕ) → (desks.after_attach_from d t queue).made ≡ d.made
        go [] = refl
        go (x ∷ xs) = refl

    its_given : (o : Option Thread) (told : Option (List ℕ)) → given_at d t o (c.local t).given ≡ Some told → IsGiven limits h t told × (t < d.made)
    its_given None told q =
        let same : (thread_of d t).told ≡ told = some_is q in (
          subst (IsGiven limits h t) same
              (record { long = s.kept.desk.desk.told.long t; known = λ r l. s.kept.desk.desk.told.given t r l tk.lives }),
          tk.made,
        )
      where
        some_is : Some (thread_of d t).told ≡ Some told → (thread_of d t).told ≡ told
        some_is z = cc
    its_given (Some x) told q = s.given t told q

    given_by : (u : ℕ) → (u ≡ t) ⊎ (u ≢ t) → (told : Option (List ℕ)) → (but c.local t hand u).given ≡ Some told → IsGiven limits h u told × (u < d.made)
    given_by u (inl same) told q =
        subst (λ (v : ℕ). IsGiven limits h v told × (v < d.made)) (sym same)
        (its_given (c.local t).bare.thread told (sym (ap (λ (l : Hand). l.given) (but_here c.local t u hand same) ∙ ap (λ (l : Hand). l.given) tk.hand)
        ∙ q))
    given_by u (inr ne) told q = s.given u told (sym (ap (λ (l : Hand). l.given) (but_else c.local t u hand ne)) ∙ q)

    pub taken_slot_stands : Standing file limits c_taken taken_then w later
    taken_slot_stands = record {
      watched = noted file limits ok m w h s.watched t desk attaches (Attach label) mom is none attach_placed told_is;
      leaving = s.leaving;
      kept = kept_taken;
      given = λ u told q.
          let before = given_by u (dec u t) told q in
          (given_noted limits h mom t u (Attach label) told is before.0, let z = before.1 in let y = made_then in omega arith);
      locals = locals_taken;
      values = values_taken;
    }

-- ---- an era begins

pub era_standing : (file : List ℕ) (limits : Limits) (c : State Hand Held) (m : State Local Value) (w : World) (h : List Moment) (mom : Moment) →
    Standing file limits c m w h → mom.item ≡ NewEra → ((t : ℕ) → (c.local t).given ≡ None) →
    Standing file limits (in_new_era (era_now limits.epochs h + 1) c) (era_after limits.slots m) w (h ++ mom ∷ [])
era_standing file limits c m w h mom s is none = record {
  watched = subst (λ (i : ℕ). IsWatched file limits.harts limits.epochs limits.slots w (h ++ mom ∷ []) i (era_after limits.slots m))
      (sym (length-push h mom))
      (era_watched file limits.harts limits.epochs limits.slots w (h ++ mom ∷ []) (length h) m (item-seam h mom ∙ is)
      (watched_stays file limits.harts limits.epochs limits.slots w h (mom ∷ []) m s.watched));
  leaving = λ t. false;
  kept = record {
    desk = began.desk;
    objects = began.objects;
    object_slots = began.object_slots;
    watchers = λ t. subst (λ (n : ℕ). IsWatcherAt limits (h ++ mom ∷ []) t (in_era (c.local t).watched n)) era_is
        (enters limits (h ++ mom ∷ []) t (c.local t).watched (began.watchers t));
    settled = began.settled;
    within = began.within;
  };
  given = λ t told q. absurd (no_given t told q);
  locals = s.locals;
  values = λ k. s.values k ∙ values_by k (dec k desk);
}
  where
    next : State Hand Held
    next = in_new_era (era_now limits.epochs h + 1) c

    reset : State Hand Held
    reset = record { local = c.local; value = next.value }

    era_is : era_now limits.epochs (h ++ mom ∷ []) ≡ era_now limits.epochs h + 1
    era_is = ap (λ (l : Labels). l.era) (labels_now-push limits.epochs h mom ∙ ap (next_labels limits.epochs (labels_now limits.epochs h)) is)

    objects_by : (k : ℕ) → (k ≡ desk) ⊎ (k ≢ desk) → (c.value k).sync ≡ (next.value k).sync
    objects_by k (inl q) = ap (λ (j : ℕ). (c.value j).sync) q ∙ ap (λ (v : Held). v.sync)
        (sym (but_here c.value desk k (record (c.value desk) { desk = desks.after_reset (c.value desk).desk }) q))
    objects_by k (inr ne) = ap (λ (v : Held). v.sync) (sym (but_else c.value desk k
        (record (c.value desk) { desk = desks.after_reset (c.value desk).desk }) ne))

    values_by : (k : ℕ) → (k ≡ desk) ⊎ (k ≢ desk) → (c.value k).bare ≡ (next.value k).bare
    values_by k (inl q) = ap (λ (j : ℕ). (c.value j).bare) q ∙ ap (λ (v : Held). v.bare)
        (sym (but_here c.value desk k (record (c.value desk) { desk = desks.after_reset (c.value desk).desk }) q))
    values_by k (inr ne) = ap (λ (v : Held). v.bare) (sym (but_else c.value desk k
        (record (c.value desk) { desk = desks.after_reset (c.value desk).desk }) ne))

    began : Stands limits stripe (λ t. false) (h ++ mom ∷ []) (kept_of reset)
    began = stands_same limits stripe (λ t. false) (h ++ mom ∷ []) (kept_in_era (kept_of c)) (kept_of reset)
        (era_stands limits stripe s.leaving h mom (kept_of c) s.kept is)
        (ap (λ (v : Held). v.desk) (sym (but_here c.value desk desk (record (c.value desk) { desk = desks.after_reset (c.value desk).desk }) refl)))
        (λ k. objects_by k (dec k desk)) (λ t. refl)

    no_given : (t : ℕ) (told : Option (List ℕ)) → (c.local t).given ≡ Some told → ⊥
    no_given t told q = let z = sym (none t) ∙ q in cc
