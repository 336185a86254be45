-- A part grows by an instruction: one that uses no object is gathered, and one that uses an object makes a deed of all.
use Rattle.std.proofs.Common.{◌≡◌, ◌≢◌, ◌⊎◌, inl, inr, ℕ, ◌+◌, ◌<◌, ◌≤◌, true, None, List, [], ◌∷◌, ◌++◌, length, append_assoc, append-nil, length-append, refl, ap, sym, subst, ◌∙◌, arith}
use Rattle.std.specs.Prelude.{map, take}
use Rattle.std.specs.List.{flat_map}
use Rattle.std.proofs.lemmas.List.Concat.{flat_map-append}
use Rattle.std.proofs.lemmas.List.{take-append-le, take_all}
use Rattle.run_record.specs.declared.limits.Limits.{Limits}
use Rattle.run_record.specs.declared.event.Event.{Event}
use Rattle.run_record.specs.declared.entry.Check.{Check}
use Rattle.run_record.specs.declared.entry.Entry.{Entry}
use Rattle.run_record.specs.declared.entry.Label.{Label}
use Rattle.bare_machine.specs.Step.{desk}
use Rattle.bare_machine.specs.Preview.{thread_needs}
use Rattle.report_laws.specs.Awaited.{Awaited}
use Rattle.turn_orders.specs.Lists.{Each}
use Rattle.turn_orders.specs.LineUp.{Stamped, with_stamp}
use Rattle.place_turns.specs.Places.{Value, of_nobody}
use Rattle.machine_laws.specs.Events.{is_local}
use Rattle.watched_turns.specs.Checking.{Loads}
use Rattle.watched_turns.specs.Turns.{steps, begins}
use Rattle.turn_histories.specs.Entries.{IsAlive, IsPlaceOf, next_object}
use Rattle.shared_table.specs.declared.object.Object.{Object}
use Rattle.shared_table.specs.declared.view.Item.TheVariants.{Take, Give}
use Rattle.shared_table.specs.Past.{Log}
use Rattle.placed_detector.specs.Standing.{Hand, Held}
use Rattle.deed_histories.specs.Deeds.{Made, all_checks, AreNumbered, TellsMade, Makes}
use Rattle.deed_histories.specs.Lines.{IsHandDeed}
use Rattle.table_deeds.specs.Objects.{ObjectDeed, hand_deed, held_in}
use Rattle.hart_parts.specs.Parts.{IsStretch, all_touches, touches_of, IsNeedy, SpendsIn}
use Rattle.part_races.specs.Awaits.{AwaitsInstruction}
use Rattle.part_races.specs.Rounds.{Tagged, TellsAwaited}
use Rattle.part_races.proofs.Growing.{one_more_gathered}
use Rattle.part_growth.specs.Growth.{checks_in, Gathered, nothing_gathered, MakesLocal, IsGathered, gathered_with, Owing, nothing, needy, leave_of, Meets, Owes, IsPaidBy}
use Rattle.part_growth.specs.Growth.{NeedsWithin, IsOwedWith, SpendsBy, IsOwedBy, IsEntryWith, SoFar, place_in, IsTurn}
use Rattle.part_growth.proofs.Lists.{events_push, checks_push, numbered_append, before_end, from_start, last_of}
use Rattle.turn_orders.proofs.Members.{at_member}
use Rattle.part_growth.proofs.Gathering.{many_checks, all_local, local_push, made_before, none_raised}
use Rattle.part_growth.proofs.Awaiting.{with_one}
use Rattle.part_growth.proofs.Deeds.{AreDeeds, IsNextDeed, AreTold, deeds_push, told_push, items_push}
use Rattle.part_growth.proofs.Needs.{none_within, now_label, label_there, owed_after, now_bare}

checks_append : (css dss : List (List Check)) → checks_in (css ++ dss) ≡ checks_in css ++ checks_in dss
checks_append css dss = flat_map-append (λ (cs : List Check). cs) css dss

touches_append : (cs ds : List Check) → all_touches (cs ++ ds) ≡ all_touches cs ++ all_touches ds
touches_append cs ds = flat_map-append touches_of cs ds

module _ (file : List ℕ) (limits : Limits) (era t : ℕ) (before : Stamped Hand) where
  -- the deeds of a part so far
  pub deeds_of : (log : Log) (told : List Tagged) (found now : Hand) (last : ℕ) (g : Gathered) (owed : Owing) →
      (s : SoFar file limits era t before log told found now last g owed) →
      AreDeeds file limits era t before s.deeds s.stretches (with_stamp found last) s.owing
  deeds_of log told found now last g owed s = record {
    mine = s.mine;
    at_objects = s.at_objects;
    each = s.each;
    follow = s.follow;
    left_is = s.found_is;
    along = s.along;
    paid = s.paid;
  }

  -- and what was told of them
  pub told_of : (log : Log) (told : List Tagged) (found now : Hand) (last : ℕ) (g : Gathered) (owed : Owing) →
      (s : SoFar file limits era t before log told found now last g owed) → AreTold file limits era s.deeds told
  told_of log told found now last g owed s = record { entries = s.entries_are; awaited = s.awaited }

  -- after a deed nothing is gathered
  owed_anew : (left : Hand) (owing : Owing) → IsOwedWith file limits.harts t left nothing_gathered owing owing
  owed_anew left nothing = refl
  owed_anew left needy = inl refl
  owed_anew left (leave_of l) = (refl, refl)

  pub anew : (log : Log) (told : List Tagged) (deeds : List ObjectDeed) (stretches : List Log) (left : Hand) (last : ℕ) (owing : Owing) →
      AreDeeds file limits era t before deeds stretches (with_stamp left last) owing → log ≡ flat_map (λ (items : Log). items) stretches →
      AreTold file limits era deeds told → SoFar file limits era t before log told left left last nothing_gathered owing
  anew log told deeds stretches left last owing a log_is tells = record {
    deeds = deeds;
    stretches = stretches;
    mine = a.mine;
    at_objects = a.at_objects;
    each = a.each;
    follow = a.follow;
    found_is = a.left_is;
    along = a.along;
    log_is = log_is ∙ sym (append-nil (flat_map (λ (items : Log). items) stretches));
    entries_are = tells.entries;
    awaited = tells.awaited;
    gathered = record { made = []; local = refl; steps = refl; events = refl; checks = refl; numbered = tt; awaits = (refl, refl) };
    owing = owing;
    paid = a.paid;
    owed_with = owed_anew left owing;
    labelled = λ n. absurd (none_within file limits.harts t left nothing_gathered refl n);
  }

  -- a part begins
  pub begins_so_far : SoFar file limits era t before [] [] before.state before.state before.last nothing_gathered nothing
  begins_so_far = anew [] [] [] [] before.state before.last nothing
      (record { mine = tt; at_objects = tt; each = tt; follow = tt; left_is = refl; along = tt; paid = refl }) refl
      (record { entries = refl; awaited = tt })

  -- ---- what was gathered

  module _ (found now : Hand) (g : Gathered) (is : IsGathered file limits.harts era t found now g) where
    -- as many events as lists of checks
    pub gathered_many : length g.events ≡ length (all_checks is.made)
    gathered_many = ap (λ (es : List Event). length es) is.events ∙ many_checks file limits era t is.made found now is.local

    pub gathered_local : Each (λ (e : Event). is_local e ≡ true) g.events
    gathered_local = subst (λ (es : List Event). Each (λ (e : Event). is_local e ≡ true) es) (sym is.events)
        (all_local file limits era t is.made found now is.local)

    -- all checks are numbered where more are that come next
    pub numbered_with : (css : List (List Check)) → AreNumbered (length g.events) css → AreNumbered 0 (all_checks is.made ++ css)
    numbered_with css n =
        let e : length g.events ≡ 0 + length (all_checks is.made) = let q = gathered_many in omega (arith, q) in
        numbered_append 0 (all_checks is.made) css is.numbered (subst (λ (m : ℕ). AreNumbered m css) e n)

    pub gather : (x : Made) (left : Hand) (later : List Awaited) → MakesLocal file limits.harts era t x now left →
        ((k : ℕ) (held : Held) → AwaitsInstruction file limits.harts era t k x now left held held later) → AreNumbered (length g.events) x.checks →
        IsGathered file limits.harts era t found left (gathered_with g x.events x.checks later)
    gather x left later m await n = record {
      made = is.made ++ x ∷ [];
      local = local_push file limits era t is.made x found now left is.local m;
      steps = let q = is.steps in let p = length-append is.made (x ∷ []) in
          let r : length (is.made ++ x ∷ []) ≡ length is.made + 1 = p in omega (arith, q, r);
      events = ap (λ (es : List Event). es ++ x.events) is.events ∙ sym (events_push is.made x);
      checks = ap (λ (cs : List Check). cs ++ checks_in x.checks) is.checks
          ∙ (sym (checks_append (all_checks is.made) x.checks) ∙ ap checks_in (sym (checks_push is.made x)));
      numbered = subst (AreNumbered 0) (sym (checks_push is.made x)) (numbered_with x.checks n);
      awaits = one_more_gathered file limits.harts era t is.made x found now left g.awaits later is.awaits await;
    }

  -- one more instruction without an object is gathered
  pub local_grows : (log new : Log) (told : List Tagged) (found now left : Hand) (last : ℕ) (g : Gathered) (owed next : Owing) (x : Made)
      (later : List Awaited) → SoFar file limits era t before log told found now last g owed → MakesLocal file limits.harts era t x now left →
      ((k : ℕ) (held : Held) → AwaitsInstruction file limits.harts era t k x now left held held later) →
      AreNumbered (length g.events) x.checks → new ≡ log ++ all_touches (checks_in x.checks) →
      (thread_needs file t now.bare.thread ≡ true → now.watched.label ≢ None) → ((l : Label) → owed ≡ leave_of l → ⊥) → IsPaidBy file t now owed next →
      SoFar file limits era t before new told found left last (gathered_with g x.events x.checks later) next
  local_grows log new told found now left last g owed next x later s m await n log_is label unspent paid =
      let h = gathered_with g x.events x.checks later in
      let longer : g.steps < h.steps = omega arith in
      record {
        deeds = s.deeds;
        stretches = s.stretches;
        mine = s.mine;
        at_objects = s.at_objects;
        each = s.each;
        follow = s.follow;
        found_is = s.found_is;
        along = s.along;
        log_is =
            let items = flat_map (λ (items : Log). items) s.stretches in
            log_is ∙ (ap (λ (l : Log). l ++ all_touches (checks_in x.checks)) s.log_is
            ∙ (append_assoc items (all_touches g.checks) (all_touches (checks_in x.checks))
            ∙ ap (λ (l : Log). items ++ l) (sym (touches_append g.checks (checks_in x.checks)))));
        entries_are = s.entries_are;
        awaited = s.awaited;
        gathered = gather found now g s.gathered x left later m await n;
        owing = s.owing;
        paid = s.paid;
        owed_with = owed_after file limits era t found now g s.gathered h longer s.owing owed next unspent s.owed_with paid;
        labelled = λ w. label_there file limits era t found now g s.gathered s.labelled label of_nobody w.step w.within (w.needs of_nobody);
      }

  -- ---- an instruction at an object

  module _ (found now : Hand) (last : ℕ) (g : Gathered) (is : IsGathered file limits.harts era t found now g) (k : ℕ) (loads : Loads) (es : List Event)
      (css : List (List Check)) (later : List Awaited) (left : Hand) (x y : Object) (e : Entry) (stamp : ℕ) where
    abbrev one : Made
    one = record { loads = loads; events = es; checks = css }

    -- the deed of all
    abbrev pub made_deed : ObjectDeed
    made_deed = record {
      call = record { thread = t; place = k; act = record {} };
      local_found = with_stamp found last;
      local_left = with_stamp left stamp;
      found = x;
      left = y;
      told = record { entry = e; acts = begins ∷ map (λ (z : Made). steps z.loads) (is.made ++ one ∷ []) };
    }

    module _ (tells : IsEntryWith t g es css stamp e) (numbered : AreNumbered (length g.events) css) where
      tells_made : TellsMade t (is.made ++ one ∷ []) e
      tells_made = record {
        thread = tells.thread;
        steps = let p = tells.steps in let q = is.steps in
            let r : length (is.made ++ one ∷ []) ≡ length is.made + 1 = length-append is.made (one ∷ []) in omega (arith, p, q, r);
        note = tells.note;
        events = tells.events ∙ (ap (λ (fs : List Event). fs ++ es) is.events ∙ sym (events_push is.made one));
        checks = tells.checks ∙ (ap (λ (cs : List Check). cs ++ checks_in css) is.checks
            ∙ (sym (checks_append (all_checks is.made) css) ∙ ap checks_in (sym (checks_push is.made one))));
        numbered = subst (AreNumbered 0) (sym (checks_push is.made one)) (numbered_with found now g is css numbered);
      }

      -- its stretch
      abbrev pub made_stretch : ℕ → Log
      made_stretch number = all_touches g.checks ++ Take k number ∷ (all_touches (checks_in css) ++ Give k number x y ∷ [])

      made_stretch_is : (number : ℕ) → IsStretch made_deed (made_stretch number)
      made_stretch_is number = record {
        first = length g.events;
        early = g.checks;
        late = checks_in css;
        number = number;
        checks = tells.checks;
        early_events = subst (λ (cs : List Check). Each (λ (c : Check). c.event < length g.events) cs) (sym is.checks)
            (before_end 0 (length g.events) (all_checks is.made) (let q = gathered_many found now g is in omega (arith, q)) is.numbered);
        late_events = from_start (length g.events) (length g.events) css (omega arith) numbered;
        local_events = subst (λ (fs : List Event). Each (λ (f : Event). is_local f ≡ true) fs)
            (sym (ap (take (length g.events)) tells.events ∙ (take-append-le (length g.events) g.events es (omega arith)
            ∙ take_all (length g.events) g.events (omega arith))))
            (gathered_local found now g is);
        items_are = refl;
      }

      -- it needs a slot where one of them does
      needed : NeedsWithin file limits.harts t found g ⊎ (thread_needs file t now.bare.thread ≡ true) → IsNeedy file limits made_deed
      needed (inl w) = record {
        step = w.step;
        within = let p = tells.steps in let q = w.within in omega (arith, p, q);
        needs = w.needs (held_in file limits k x).state.bare;
      }
      needed (inr m) = record {
        step = g.steps;
        within = let p = tells.steps in omega (arith, p);
        needs = subst (λ (l : Rattle.place_turns.specs.Places.Local). thread_needs file t l.thread ≡ true)
            (sym (now_bare file limits era t found now g is (held_in file limits k x).state.bare)) m;
      }

      meets : (owing owed : Owing) → ((l : Label) → owed ≡ leave_of l → ⊥) → IsOwedWith file limits.harts t found g owing owed →
          IsPaidBy file t now owed nothing → Meets file limits owing made_deed
      meets nothing owed unspent w p = λ l q. absurd (let r = tells.note in cc)
      meets (leave_of l) owed unspent w p = absurd (unspent l w.0)
      meets needy owed unspent (inr q) p = needed (inl q.1)
      meets needy owed unspent (inl q) p = by (subst (λ (z : Owing). IsPaidBy file t now z nothing) q p)
        where
          by : IsPaidBy file t now needy nothing → IsNeedy file limits made_deed
          by (inl a) = absurd (let r = a.0 in cc)
          by (inr a) = needed (inr a.1)

      -- the last of its events is the last of the last instruction, where it raises an epoch
      spends_by : (l : Label) → SpendsIn limits made_deed l → SpendsBy limits now.watched es l
      spends_by l s = elim (last_of g.events es s.before s.event (sym tells.events ∙ s.last)) [
        | inl i ↦ absurd (none_raised s.event (at_member (λ (f : Event). is_local f ≡ true) s.event g.events (gathered_local found now g is) i) s.raising)
        | inr r ↦ record {
          before = r.before;
          event = s.event;
          last = r.is;
          raising = s.raising;
          label = now_label file limits era t found now g is ∙ s.label;
          greatest = s.greatest;
        }
      ]

      owes : (next : Owing) → IsOwedBy limits now.watched es next → Owes limits made_deed next
      owes nothing o = (λ l q. absurd (let r = tells.note in cc), λ l s. o l (spends_by l s))
      owes needy o = absurd o
      owes (leave_of l) o = record {
        before = g.events ++ o.before;
        event = o.event;
        last = tells.events ∙ (ap (λ (fs : List Event). g.events ++ fs) o.last ∙ sym (append_assoc g.events o.before (o.event ∷ [])));
        raising = o.raising;
        label = sym (now_label file limits era t found now g is) ∙ o.label;
        greatest = o.greatest;
      }

      module _ (log new : Log) (told : List Tagged) (owed next : Owing) (number : ℕ)
          (s : SoFar file limits era t before log told found now last g owed)
          (awaits : AwaitsInstruction file limits.harts era t k one now left (place_in file limits k x) (place_in file limits k y) later)
          (alive : IsAlive now.bare) (at : IsPlaceOf k t (next_object file t now.bare.thread)) (at_object : k ≤ desk)
          (turn : IsTurn k log new number (all_touches (checks_in css)) x y last stamp)
          (label : thread_needs file t now.bare.thread ≡ true → now.watched.label ≢ None)
          (unspent : (l : Label) → owed ≡ leave_of l → ⊥) (paid : IsPaidBy file t now owed nothing) (owing : IsOwedBy limits now.watched es next) where
        is_deed : IsHandDeed file limits era (hand_deed file limits made_deed)
        is_deed = record {
          deed = Makes (is.made ++ one ∷ []) (made_before file limits era t k is.made one found now left _ _ is.local (awaits.makes, alive, at)) tells_made;
          drawn = turn.stamp_is;
          left_there = turn.left_there;
          entry_stamp = tells.stamp_is;
        }

        -- what is told of it
        abbrev made_told : Tagged
        made_told = record { entry = e; awaited = g.awaits ++ later }

        tells_awaited : TellsAwaited file limits era (hand_deed file limits made_deed) made_told
        tells_awaited = record {
          entry = refl;
          awaits = with_one file limits era t k e (place_in file limits k x) (place_in file limits k y) is.made one found now left g.awaits later
              is.awaits awaits tells_made;
        }

        next_deed : IsNextDeed file limits era t (with_stamp found last) s.owing made_deed (made_stretch number) next
        next_deed = record {
          mine = refl;
          at_object = at_object;
          is_deed = is_deed;
          found = refl;
          stretch = made_stretch_is number;
          meets = meets s.owing owed unspent s.owed_with paid;
          owes = owes next owing;
          labelled = λ n. label_there file limits era t found now g is s.labelled label (held_in file limits k x).state.bare n.step
              (let p = tells.steps in let q = n.within in omega (arith, p, q)) n.needs;
        }

        deeds : AreDeeds file limits era t before (s.deeds ++ made_deed ∷ []) (s.stretches ++ made_stretch number ∷ []) (with_stamp left stamp) next
        deeds = deeds_push file limits era t before s.deeds s.stretches (with_stamp found last) s.owing made_deed (made_stretch number) next
            (deeds_of log told found now last g owed s) next_deed

        log_with : new ≡ flat_map (λ (items : Log). items) (s.stretches ++ made_stretch number ∷ [])
        log_with =
            let items = flat_map (λ (xs : Log). xs) s.stretches in
            let turned = Take k number ∷ (all_touches (checks_in css) ++ Give k number x y ∷ []) in
            turn.log ∙ (ap (λ (l : Log). l ++ turned) s.log_is
            ∙ (append_assoc items (all_touches g.checks) turned ∙ sym (items_push s.stretches (made_stretch number))))

        grows : SoFar file limits era t before new (told ++ made_told ∷ []) left left stamp nothing_gathered next
        grows = anew new (told ++ made_told ∷ []) (s.deeds ++ made_deed ∷ []) (s.stretches ++ made_stretch number ∷ []) left stamp next deeds log_with
            (told_push file limits era s.deeds made_deed told made_told (told_of log told found now last g owed s) tells_awaited)

  -- one more instruction, at an object: all that were gathered and it are a deed
  pub object_grows : (log new : Log) (told : List Tagged) (found now left : Hand) (last : ℕ) (g : Gathered) (owed next : Owing) (k : ℕ) (loads : Loads)
      (es : List Event) (css : List (List Check)) (later : List Awaited) (x y : Object) (e : Entry) (stamp number : ℕ) →
      SoFar file limits era t before log told found now last g owed →
      AwaitsInstruction file limits.harts era t k (record { loads = loads; events = es; checks = css }) now left (place_in file limits k x)
      (place_in file limits k y) later → IsAlive now.bare → IsPlaceOf k t (next_object file t now.bare.thread) → k ≤ desk →
      AreNumbered (length g.events) css → IsTurn k log new number (all_touches (checks_in css)) x y last stamp → IsEntryWith t g es css stamp e →
      (thread_needs file t now.bare.thread ≡ true → now.watched.label ≢ None) → ((l : Label) → owed ≡ leave_of l → ⊥) → IsPaidBy file t now owed nothing →
      IsOwedBy limits now.watched es next →
      SoFar file limits era t before new (told ++ record { entry = e; awaited = g.awaits ++ later } ∷ []) left left stamp nothing_gathered next
  object_grows log new told found now left last g owed next k loads es css later x y e stamp number s awaits alive at at_object numbered turn tells label
      unspent paid owing =
      grows found now last g s.gathered k loads es css later left x y e stamp tells numbered log new told owed next number s awaits alive at at_object
      turn label unspent paid owing
