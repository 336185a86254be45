-- A part grows by a slot that its thread takes or leaves.
use Rattle.std.proofs.Common.{◌≡◌, ◌≢◌, inl, inr, ℕ, Bool, true, false, Option, Some, None, List, [], ◌∷◌, ◌++◌, append-nil, refl, ap, ap₂, sym, subst, ◌∙◌, arith}
use Rattle.std.specs.Prelude.{take}
use Rattle.std.specs.List.{flat_map}
use Rattle.run_record.specs.declared.limits.Limits.{Limits}
use Rattle.run_record.specs.declared.event.Event.{Event}
use Rattle.run_record.specs.declared.entry.Check.{Check}
use Rattle.run_record.specs.declared.entry.Entry.{Entry}
use Rattle.run_record.specs.declared.entry.Label.{Label}
use Rattle.run_record.specs.declared.entry.DeskNote.{DeskNote}
use Rattle.run_record.specs.declared.entry.DeskNote.TheVariants.{Attach, Leave}
use Rattle.bare_machine.specs.Step.{desk}
use Rattle.bare_machine.specs.Requests.{Request, done, returned, touch, operate, put, create, join, stop, request}
use Rattle.bare_machine.specs.declared.thread.Thread.{Thread}
use Rattle.turn_orders.specs.Lists.{Each}
use Rattle.turn_orders.specs.LineUp.{Stamped, with_stamp}
use Rattle.place_turns.specs.Places as machine
use Rattle.place_turns.specs.Turns as turns
use Rattle.machine_laws.specs.Events.{is_local}
use Rattle.watched_turns.specs.Turns.{Act, attaches, leaves}
use Rattle.shared_table.specs.declared.object.Object.{Object}
use Rattle.shared_table.specs.declared.view.Item.TheVariants.{Take, Give}
use Rattle.shared_table.specs.Past.{Log}
use Rattle.slot_desk.specs.Steps as desks
use Rattle.race_core.specs.Watched.{Watched, with_clock, labelled}
use Rattle.placed_detector.specs.Standing.{Hand, Held}
use Rattle.placed_detector.specs.Instructions.{Beside, beside, HearsEvents}
use Rattle.placed_detector.specs.Slots.{TakesSlot, LeavesSlot, with_slot, given_at}
use Rattle.deed_histories.specs.Deeds.{Made, all_events, all_checks, TellsNote, Takes, Leaves}
use Rattle.deed_histories.specs.Lines.{IsHandDeed}
use Rattle.table_deeds.specs.Objects.{ObjectDeed, hand_deed}
use Rattle.hart_parts.specs.Parts.{IsStretch, all_touches, IsNeedy, SpendsIn}
use Rattle.part_races.specs.Awaits.{AwaitsGathered}
use Rattle.part_races.specs.Rounds.{Tagged, TellsAwaited}
use Rattle.part_growth.specs.Growth.{Gathered, nothing_gathered, MakesLocal, AreLocal, Owing, nothing, needy, leave_of, Meets}
use Rattle.part_growth.specs.Growth.{IsOwedWith, SoFar, place_in, IsTurn, HasAttached}
use Rattle.part_growth.proofs.Gathering.{Silent, silent, some_held, labels_stay}
use Rattle.part_growth.proofs.Awaiting.{quiet_all, none_await, noted_awaits}
use Rattle.part_growth.proofs.Deeds.{AreDeeds, IsNextDeed, AreTold, deeds_push, told_push, items_push}
use Rattle.part_growth.proofs.Growing.{deeds_of, told_of, anew}

-- ---- a deed without instructions

-- an entry with a note has no events, so that its last one can't spend a slot
pub none_spent : (limits : Limits) (d : ObjectDeed) (l : Label) → d.told.entry.events ≡ [] → SpendsIn limits d l → ⊥
none_spent limits d l none s = go s.before s.event (sym none ∙ s.last)
  where
    go : (before : List Event) (event : Event) → [] ≡ before ++ event ∷ [] → ⊥
    go [] event q = let r : [] ≡ event ∷ [] = q in absurd (cc)
    go (b ∷ bs) event q = let r : [] ≡ b ∷ (bs ++ event ∷ []) = q in absurd (cc)

-- and no instruction that needs one
pub none_needy : (file : List ℕ) (limits : Limits) (d : ObjectDeed) → d.told.entry.steps ≡ 0 → IsNeedy file limits d → ⊥
none_needy file limits d none n = let l = n.within in omega (arith, none, l)

-- what is told of it: nothing awaits
abbrev pub note_told : Entry → Tagged
note_told e = record { entry = e; awaited = [] }

module _ (file : List ℕ) (limits : Limits) (era t : ℕ) (before : Stamped Hand) where
  abbrev pub note_deed : Hand → Hand → ℕ → ℕ → Object → Object → Entry → Act → ObjectDeed
  note_deed found left last stamp x y e act = record {
    call = record { thread = t; place = desk; act = record {} };
    local_found = with_stamp found last;
    local_left = with_stamp left stamp;
    found = x;
    left = y;
    told = record { entry = e; acts = act ∷ [] };
  }

  abbrev pub note_stretch : ℕ → Object → Object → Log
  note_stretch number x y = Take desk number ∷ (([] ++ Give desk number x y ∷ []))

  note_stretch_is : (found left : Hand) (last stamp : ℕ) (x y : Object) (e : Entry) (act : Act) (note : DeskNote) (number : ℕ) → TellsNote t note e →
      IsStretch (note_deed found left last stamp x y e act) (note_stretch number x y)
  note_stretch_is found left last stamp x y e act note number tn = record {
    first = 0;
    early = [];
    late = [];
    number = number;
    checks = tn.checks;
    early_events = tt;
    late_events = tt;
    local_events = subst (λ (es : List Event). Each (λ (f : Event). is_local f ≡ true) (take 0 es)) (sym tn.events) tt;
    items_are = refl;
  }

  note_tells : (found left : Hand) (last stamp : ℕ) (x y : Object) (e : Entry) (act : Act) (note : DeskNote) → TellsNote t note e →
      TellsAwaited file limits era (hand_deed file limits (note_deed found left last stamp x y e act)) (note_told e)
  note_tells found left last stamp x y e act note tn = record {
    entry = refl;
    awaits = noted_awaits file limits era t desk e (place_in file limits desk x) (place_in file limits desk y) note found left tn;
  }

  -- ---- a slot is left

  module _ (log new : Log) (told : List Tagged) (now : Hand) (last : ℕ) (l : Label) (x y : Object) (e : Entry) (stamp number : ℕ)
      (s : SoFar file limits era t before log told now now last nothing_gathered (leave_of l))
      (leaves_slot : LeavesSlot era t l now (place_in file limits desk x) (place_in file limits desk y))
      (turn : IsTurn desk log new number [] x y last stamp) (tells : TellsNote t (Leave l) e) (stamp_is : e.stamp ≡ stamp) where
    abbrev leave_deed : ObjectDeed
    leave_deed = note_deed now now last stamp x y e (leaves l)

    leave_is_deed : IsHandDeed file limits era (hand_deed file limits leave_deed)
    leave_is_deed = record { deed = Leaves l refl leaves_slot refl tells; drawn = turn.stamp_is; left_there = turn.left_there; entry_stamp = stamp_is }

    leave_meets : (owing : Owing) → IsOwedWith file limits.harts t now nothing_gathered owing (leave_of l) → Meets file limits owing leave_deed
    leave_meets nothing w = absurd (let r : leave_of l ≡ nothing = w in cc)
    leave_meets needy (inl q) = absurd (let r : leave_of l ≡ needy = q in cc)
    leave_meets needy (inr q) = absurd (let r : leave_of l ≡ nothing = q.0 in cc)
    leave_meets (leave_of m) w =
        let r : leave_of l ≡ leave_of m = w.0 in
        let same : l ≡ m = cc in
        tells.note_is ∙ ap Leave same

    leave_next : IsNextDeed file limits era t (with_stamp now last) s.owing leave_deed (note_stretch number x y) nothing
    leave_next = record {
      mine = refl;
      at_object = omega arith;
      is_deed = leave_is_deed;
      found = refl;
      stretch = note_stretch_is now now last stamp x y e (leaves l) (Leave l) number tells;
      meets = leave_meets s.owing s.owed_with;
      owes = (λ m q. absurd (let r = tells.note_is in cc), λ m z. none_spent limits leave_deed m tells.events z);
      labelled = λ n. absurd (none_needy file limits leave_deed tells.steps n);
    }

    leave_log : new ≡ flat_map (λ (items : Log). items) (s.stretches ++ note_stretch number x y ∷ [])
    leave_log =
        let items = flat_map (λ (xs : Log). xs) s.stretches in
        turn.log ∙ (ap (λ (z : Log). z ++ note_stretch number x y) (s.log_is ∙ append-nil items) ∙ sym (items_push s.stretches (note_stretch number x y)))

    leaves_so_far : SoFar file limits era t before new (told ++ note_told e ∷ []) now now stamp nothing_gathered nothing
    leaves_so_far = anew file limits era t before new (told ++ note_told e ∷ []) (s.deeds ++ leave_deed ∷ []) (s.stretches ++ note_stretch number x y ∷ []) now
        stamp nothing (deeds_push file limits era t before s.deeds s.stretches (with_stamp now last) s.owing leave_deed (note_stretch number x y) nothing
        (deeds_of file limits era t before log told now now last nothing_gathered (leave_of l) s) leave_next) leave_log
        (told_push file limits era s.deeds leave_deed told (note_told e)
        (told_of file limits era t before log told now now last nothing_gathered (leave_of l) s)
        (note_tells now now last stamp x y e (leaves l) (Leave l) tells))

  -- a slot that was spent is left
  pub leave_grows : (log new : Log) (told : List Tagged) (now : Hand) (last : ℕ) (l : Label) (x y : Object) (e : Entry) (stamp number : ℕ) →
      SoFar file limits era t before log told now now last nothing_gathered (leave_of l) →
      LeavesSlot era t l now (place_in file limits desk x) (place_in file limits desk y) → IsTurn desk log new number [] x y last stamp →
      TellsNote t (Leave l) e → e.stamp ≡ stamp → SoFar file limits era t before new (told ++ note_told e ∷ []) now now stamp nothing_gathered nothing
  leave_grows log new told now last l x y e stamp number s leaves_slot turn tells stamp_is =
      leaves_so_far log new told now last l x y e stamp number s leaves_slot turn tells stamp_is

-- ---- what an instruction leaves of a thread that has arrived

-- it has arrived still
arrived_by : (file : List ℕ) (harts t : ℕ) (l : machine.Local) (v : machine.Value) (x : Thread) (r : Request) →
    (y : Thread) × ((turns.served harts t l v x r).local.thread ≡ Some y)
arrived_by file harts t l v x (done r) = (_, refl)
arrived_by file harts t l v x (returned call answer object) = (_, refl)
arrived_by file harts t l v x (touch i effect addr n) = (_, refl)
arrived_by file harts t l v x (operate call addr size n) = (_, refl)
arrived_by file harts t l v x (put word count) = (_, refl)
arrived_by file harts t l v x (create pc argument stack) = go (turns.is_full harts (machine.desk_in v))
  where
    go : (b : Bool) → (y : Thread) × ((turns.create_turn l (machine.desk_in v) x pc argument stack b).local.thread ≡ Some y)
    go true = (_, refl)
    go false = (_, refl)
arrived_by file harts t l v x (join n) = (_, refl)
arrived_by file harts t l v x (stop end) = (_, refl)

stays_arrived : (file : List ℕ) (harts t : ℕ) (l : machine.Local) (v : machine.Value) (x : Thread) (o : Option Thread) → o ≡ Some x →
    (y : Thread) × ((turns.stepped file harts t l v o).local.thread ≡ Some y)
stays_arrived file harts t l v x None q = absurd (cc)
stays_arrived file harts t l v x (Some z) q = arrived_by file harts t l v z (request file t z)

-- ---- a slot is taken

-- with a slot that this hand took, where the thread has arrived
pub slot_there : (t : ℕ) (label : Label) (l : Hand) (v : Held) (x : Thread) → l.bare.thread ≡ Some x → with_slot t label l v ≡ record {
  bare = l.bare;
  watched = labelled (with_clock l.watched (desks.clock_after_attach v.desk l.watched.clock)) label;
  given = l.given;
}
slot_there t label l v x q = ap₂ (λ (b : machine.Local) (g : Option (Option (List ℕ))). record {
  bare = b;
  watched = labelled (with_clock l.watched (desks.clock_after_attach v.desk l.watched.clock)) label;
  given = g;
}) (ap (turns.arrived t l.bare (machine.desk_in v.bare)) q) (ap (λ (o : Option Thread). given_at v.desk t o l.given) q)

-- the thread's own state of the machine, with another watcher and what it was given
abbrev pub beside_it : Watched → Option (Option (List ℕ)) → Hand → Hand
beside_it w g l = record { bare = l.bare; watched = w; given = g }

module _ (file : List ℕ) (limits : Limits) (era t : ℕ) where
  abbrev IsOne : Made → Hand → Hand → Type 0
  IsOne x found left = MakesLocal file limits.harts era t x found left

  none_heard : (x : Made) (found left : Hand) → IsOne x found left → found.watched.label ≡ None →
      Silent file 0 t x.loads x.events x.checks (beside found (some_held limits machine.of_nobody)) (beside left (some_held limits machine.of_nobody))
  none_heard x found left m q = silent file 0 t x.loads 0 x.events x.checks _ _ (m.instruction 0 (some_held limits machine.of_nobody)).heard m.local_events q

  -- an instruction without events may be made with any watcher of the era
  with_other : (x : Made) (found left : Hand) → IsOne x found left → x.events ≡ [] → x.checks ≡ [] → (w : Watched) (g : Option (Option (List ℕ))) →
      w.era ≡ era → IsOne x (beside_it w g found) (beside_it w g left)
  with_other x found left m none_told none_made w g present = record {
    instruction = λ k held. record {
      present = present;
      at = (m.instruction k held).at;
      stepped = (m.instruction k held).stepped;
      heard =
          let b = beside (beside_it w g found) held in
          let c = beside (beside_it w g left) held in
          subst (λ (es : List Event). HearsEvents file k t x.loads 0 es x.checks b c) (sym none_told)
          (subst (λ (css : List (List Check)). HearsEvents file k t x.loads 0 [] css b c) (sym none_made) refl);
    };
    alive = m.alive;
    without_object = m.without_object;
    local_events = m.local_events;
  }

  has_arrived : (x : Made) (found left : Hand) → IsOne x found left → (y : Thread) × (left.bare.thread ≡ Some y)
  has_arrived x found left m =
      let q = (m.instruction 0 (some_held limits machine.of_nobody)).stepped in
      let z = stays_arrived file limits.harts t found.bare machine.of_nobody m.alive.thread found.bare.thread m.alive.arrived in
      (z.0, ap (λ (r : turns.Turned). r.local.thread) (sym q) ∙ z.1)

  -- it may as well be made with the slot
  one_with_slot : (x : Made) (found left : Hand) (label : Label) (v : Held) → IsOne x found left → found.watched.label ≡ None → found.watched.era ≡ era →
      IsOne x (with_slot t label found v) (with_slot t label left v)
  one_with_slot x found left label v m q present =
      let n = none_heard x found left m q in
      let w = labelled (with_clock found.watched (desks.clock_after_attach v.desk found.watched.clock)) label in
      let y = has_arrived x found left m in
      let there = slot_there t label found v m.alive.thread m.alive.arrived in
      let same = ap₂ (λ (u : Watched) (g : Option (Option (List ℕ))).
      beside_it (labelled (with_clock u (desks.clock_after_attach v.desk u.clock)) label) g left)
      (ap (λ (b : Beside). b.watched) n.same) (ap (λ (b : Beside). b.given) n.same) in
      subst (λ (h : Hand). IsOne x h (with_slot t label left v)) (sym there)
      (subst (λ (h : Hand). IsOne x (beside_it w found.given found) h) (same ∙ sym (slot_there t label left v y.0 y.1))
      (with_other x found left m n.events n.checks w found.given present))

  -- what instructions without a label leave as it was, and that they may be made with the slot
  pub record MadeBefore (xs : List Made) (found left : Hand) (label : Label) (v : Held) : Type 0 where
    pub watched : found.watched ≡ left.watched
    pub events : all_events xs ≡ []
    pub checks : flat_map (λ (cs : List Check). cs) (all_checks xs) ≡ []
    pub local : AreLocal file limits.harts era t xs (with_slot t label found v) (with_slot t label left v)

  pub slot_taken_before : (xs : List Made) (found left : Hand) (label : Label) (v : Held) → AreLocal file limits.harts era t xs found left →
      found.watched.label ≡ None → found.watched.era ≡ era → MadeBefore xs found left label v
  slot_taken_before [] found left label v a q present =
      record { watched = ap (λ (h : Hand). h.watched) a; events = refl; checks = refl; local = ap (λ (h : Hand). with_slot t label h v) a }
  slot_taken_before (x ∷ xs) found left label v a q present =
      let n = none_heard x found a.0 a.1 q in
      let same : found.watched ≡ a.0.watched = ap (λ (b : Beside). b.watched) n.same in
      let rest = slot_taken_before xs a.0 left label v a.2 (ap (λ (w : Watched). w.label) (sym same) ∙ q) (ap (λ (w : Watched). w.era) (sym same) ∙ present) in
      record {
        watched = same ∙ rest.watched;
        events = ap₂ (λ (es fs : List Event). es ++ fs) n.events rest.events;
        checks = ap (λ (css : List (List Check)). flat_map (λ (cs : List Check). cs) (css ++ all_checks xs)) n.checks ∙ rest.checks;
        local = (with_slot t label a.0 v, one_with_slot x found a.0 label v a.1 q present, rest.local);
      }

  -- they are made in the era
  present_before : (xs : List Made) (found left : Hand) → AreLocal file limits.harts era t xs found left → left.watched.era ≡ era → found.watched.era ≡ era
  present_before [] found left a q = ap (λ (h : Hand). h.watched.era) a ∙ q
  present_before (x ∷ xs) found left a q = (a.1.instruction 0 (some_held limits machine.of_nobody)).present

  -- ---- the part with the slot

  module _ (before : Stamped Hand) (log new : Log) (told : List Tagged) (found now left : Hand) (last : ℕ) (g : Gathered) (label : Label) (x y : Object)
      (e : Entry) (stamp number : ℕ) (s : SoFar file limits era t before log told found now last g nothing)
      (takes : TakesSlot limits era t label now left (place_in file limits desk x) (place_in file limits desk y))
      (turn : IsTurn desk log new number [] x y last stamp) (tells : TellsNote t (Attach label) e) (stamp_is : e.stamp ≡ stamp) where
    abbrev place : Held
    place = place_in file limits desk x

    abbrev first : Hand
    first = with_slot t label found place

    stays : now.watched.label ≡ found.watched.label
    stays = labels_stay file limits era t s.gathered.made found now s.gathered.local

    unlabelled : found.watched.label ≡ None
    unlabelled = sym stays ∙ takes.attaches.unlabelled

    present : found.watched.era ≡ era
    present = present_before s.gathered.made found now s.gathered.local takes.present

    earlier : MadeBefore s.gathered.made found now label place
    earlier = slot_taken_before s.gathered.made found now label place s.gathered.local unlabelled present

    takes_first : TakesSlot limits era t label found first place (place_in file limits desk y)
    takes_first = record {
      present = present;
      attaches = subst (λ (w : Watched). Rattle.thread_events.specs.Heard.Attaches limits place.desk w t label) (sym earlier.watched) takes.attaches;
      lives = takes.lives;
      made = takes.made;
      known = takes.known;
      hand = refl;
      place = takes.place;
    }

    abbrev attach_deed : ObjectDeed
    attach_deed = note_deed file limits era t before found first last stamp x y e attaches

    attach_is_deed : IsHandDeed file limits era (hand_deed file limits attach_deed)
    attach_is_deed = record { deed = Takes label refl takes_first tells; drawn = turn.stamp_is; left_there = turn.left_there; entry_stamp = stamp_is }

    -- nothing is owed by the deeds either
    attach_meets : (owing : Owing) → IsOwedWith file limits.harts t found g owing nothing → Meets file limits owing attach_deed
    attach_meets nothing w = λ l q. absurd (let r = tells.note_is in cc)
    attach_meets needy (inl q) = absurd (let r : nothing ≡ needy = q in cc)
    attach_meets needy (inr q) = absurd (s.labelled q.1 unlabelled)
    attach_meets (leave_of m) w = absurd (let r : nothing ≡ leave_of m = w.0 in cc)

    attach_next : IsNextDeed file limits era t (with_stamp found last) s.owing attach_deed (note_stretch file limits era t before number x y) needy
    attach_next = record {
      mine = refl;
      at_object = omega arith;
      is_deed = attach_is_deed;
      found = refl;
      stretch = note_stretch_is file limits era t before found first last stamp x y e attaches (Attach label) number tells;
      meets = attach_meets s.owing s.owed_with;
      owes = (label, tells.note_is);
      labelled = λ n. absurd (none_needy file limits attach_deed tells.steps n);
    }

    all_deeds : AreDeeds file limits era t before (s.deeds ++ attach_deed ∷ []) (s.stretches ++ note_stretch file limits era t before number x y ∷ [])
        (with_stamp first stamp) needy
    all_deeds = deeds_push file limits era t before s.deeds s.stretches (with_stamp found last) s.owing attach_deed
        (note_stretch file limits era t before number x y) needy (deeds_of file limits era t before log told found now last g nothing s) attach_next

    no_checks : g.checks ≡ []
    no_checks = s.gathered.checks ∙ earlier.checks

    attach_log : new ≡ flat_map (λ (items : Log). items) (s.stretches ++ note_stretch file limits era t before number x y ∷ []) ++ all_touches g.checks
    attach_log =
        let items = flat_map (λ (xs : Log). xs) s.stretches in
        let turned = note_stretch file limits era t before number x y in
        let none : all_touches g.checks ≡ [] = ap all_touches no_checks in
        turn.log ∙ (ap (λ (z : Log). z ++ turned) (s.log_is ∙ (ap (λ (z : Log). items ++ z) none ∙ append-nil items))
        ∙ (sym (items_push s.stretches turned) ∙ (sym (append-nil _)
        ∙ ap (λ (z : Log). flat_map (λ (xs : Log). xs) (s.stretches ++ turned ∷ []) ++ z) (sym none))))

    none_awaits : g.awaits ≡ []
    none_awaits = none_await file limits era t s.gathered.made found now g.awaits s.gathered.awaits earlier.events

    all_told : AreTold file limits era (s.deeds ++ attach_deed ∷ []) (told ++ note_told e ∷ [])
    all_told = told_push file limits era s.deeds attach_deed told (note_told e)
        (told_of file limits era t before log told found now last g nothing s)
        (note_tells file limits era t before found first last stamp x y e attaches (Attach label) tells)

    labelled_first : first.watched.label ≢ None
    labelled_first q = absurd (let r : Some label ≡ None = q in cc)

    attached : SoFar file limits era t before new (told ++ note_told e ∷ []) first (with_slot t label now place) stamp g needy
    attached = record {
      deeds = s.deeds ++ attach_deed ∷ [];
      stretches = s.stretches ++ note_stretch file limits era t before number x y ∷ [];
      mine = all_deeds.mine;
      at_objects = all_deeds.at_objects;
      each = all_deeds.each;
      follow = all_deeds.follow;
      found_is = all_deeds.left_is;
      along = all_deeds.along;
      log_is = attach_log;
      entries_are = all_told.entries;
      awaited = all_told.awaited;
      gathered = record {
        made = s.gathered.made;
        local = earlier.local;
        steps = s.gathered.steps;
        events = s.gathered.events;
        checks = s.gathered.checks;
        numbered = s.gathered.numbered;
        awaits = subst (AwaitsGathered file limits.harts era t s.gathered.made first (with_slot t label now place)) (sym none_awaits)
            (quiet_all file limits era t s.gathered.made first (with_slot t label now place) earlier.local earlier.events);
      };
      owing = needy;
      paid = all_deeds.paid;
      owed_with = inl refl;
      labelled = λ n. labelled_first;
    }

    attached_left : SoFar file limits era t before new (told ++ note_told e ∷ []) first left stamp g needy
    attached_left = subst (λ (h : Hand). SoFar file limits era t before new (told ++ note_told e ∷ []) first h stamp g needy) (sym takes.hand) attached

  -- A slot is taken: the deed is of what the thread had before the instructions that were gathered, and these lead from there on.
  pub attach_grows : (before : Stamped Hand) (log new : Log) (told : List Tagged) (found now left : Hand) (last : ℕ) (g : Gathered) (label : Label)
      (x y : Object) (e : Entry) (stamp number : ℕ) → SoFar file limits era t before log told found now last g nothing →
      TakesSlot limits era t label now left (place_in file limits desk x) (place_in file limits desk y) → IsTurn desk log new number [] x y last stamp →
      TellsNote t (Attach label) e → e.stamp ≡ stamp → HasAttached file limits era t before new (told ++ note_told e ∷ []) left stamp g
  attach_grows before log new told found now left last g label x y e stamp number s takes turn tells stamp_is = record {
    found = with_slot t label found (place_in file limits desk x);
    so_far = attached_left before log new told found now left last g label x y e stamp number s takes turn tells stamp_is;
  }
