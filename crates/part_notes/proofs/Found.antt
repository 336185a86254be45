-- What a listed deed finds, as the history before its entry has it.
use Rattle.std.proofs.Common.{◌≡◌, ◌<◌, ◌≤◌, ◌+◌, ◌==◌, ℕ, Bool, true, false, cond, List, [], ◌∷◌, Option, ◌⊎◌, inl, inr, Some, None, refl, sym, ap, subst, ◌∙◌, arith, eq-eqb}
use Rattle.std.specs.Prelude.{slice_get, option_map, count_by, sum_by, Ok}
use Rattle.std.specs.List.{list_any}
use Rattle.std.proofs.lemmas.Bool.{cases_Bool, cases_lt}
use Rattle.elf_image.specs.File.{image_of}
use Rattle.run_record.specs.declared.entry.Entry.{Entry}
use Rattle.run_record.specs.declared.entry.DeskNote.TheVariants.{Nothing, Attach, Leave}
use Rattle.run_record.specs.declared.entry.Label.{Label}
use Rattle.run_record.specs.declared.limits.Limits.{Limits}
use Rattle.run_laws.specs.Moments.{Moment}
use Rattle.run_laws.specs.Labels.{Labels}
use Rattle.run_laws.specs.Numbers.{up_from}
use Rattle.run_laws.specs.Present.{labels_now, label_now, queue_now, clocks_now}
use Rattle.run_laws.specs.Faithful.{after, has_needy}
use Rattle.bare_machine.specs.World.{World}
use Rattle.bare_machine.specs.Step.{desk, step}
use Rattle.bare_machine.specs.Preview.{thread_needs}
use Rattle.machine_laws.specs.Machine.{bare_of}
use Rattle.turn_orders.specs.Machine.{State}
use Rattle.turn_orders.specs.LineUp.{Stamped, plain}
use Rattle.place_turns.specs.Places as machine
use Rattle.place_turns.specs.Wholes.{Whole, IsStateOf}
use Rattle.joint_turns.specs.Joint as joint
use Rattle.joint_turns.specs.Along.{whole_of}
use Rattle.watched_turns.specs.Turns.{Act, joint_of}
use Rattle.turn_histories.specs.Entries.{IsAlive}
use Rattle.turn_histories.proofs.Made.{Facts}
use Rattle.slot_desk.specs.Desks.{DeskContents, slot_of, is_free}
use Rattle.slot_desk.proofs.DeskLists.{sum_by-cons_is}
use Rattle.slot_desk.specs.History.{IsDesk, AreSlots}
use Rattle.thread_events.specs.Heard.{Attaches}
use Rattle.race_core.specs.History.{era_now}
use Rattle.woven_turns.specs.Weave.{LinesUp}
use Rattle.woven_turns.proofs.Following.{found_local, found_value}
use Rattle.placed_detector.specs.Standing.{Hand, Held}
use Rattle.deed_histories.specs.Deeds.{Made, IsDeed, Takes, Leaves, Makes, AreMade}
use Rattle.deed_histories.specs.Lines.{HandDeed, IsHandDeed, StandsStamped}
use Rattle.table_deeds.proofs.Listing.{thread_of_deed}
use Rattle.part_notes.proofs.Needs.{NeedsAt, some_needs, needs_some}
use Rattle.part_notes.proofs.Walk.{Hands, Watched, first_part, advance}

-- ---- what its worker says

module _ (file : List ℕ) (limits : Limits) (era : ℕ) where
  present_made : (t k : ℕ) (xs : List Made) (found left : Hand) (pf pl : Held) → AreMade file limits.harts era t k xs found left pf pl → found.watched.era ≡ era
  present_made t k [] found left pf pl a = absurd a
  present_made t k (x ∷ []) found left pf pl a = a.0.present
  present_made t k (x ∷ (y ∷ rest)) found left pf pl a = a.2.present

  present_in : (t k : ℕ) (found left : Hand) (pf pl : Held) (e : Entry) (acts : List Act) → IsDeed file limits era t k found left pf pl e acts →
      found.watched.era ≡ era
  present_in t k found left pf pl e acts (Takes label at takes tells) = takes.present
  present_in t k found left pf pl e acts (Leaves label at leaves same tells) = leaves.present
  present_in t k found left pf pl e acts (Makes xs made tells) = present_made t k xs found left pf pl made

  alive_made : (t k : ℕ) (xs : List Made) (found left : Hand) (pf pl : Held) → AreMade file limits.harts era t k xs found left pf pl → IsAlive found.bare
  alive_made t k [] found left pf pl a = absurd a
  alive_made t k (x ∷ []) found left pf pl a = a.1
  alive_made t k (x ∷ (y ∷ rest)) found left pf pl a = a.3

  alive_in : (t k : ℕ) (found left : Hand) (pf pl : Held) (e : Entry) (acts : List Act) → IsDeed file limits era t k found left pf pl e acts →
      0 < e.steps → IsAlive found.bare
  alive_in t k found left pf pl e acts (Takes label at takes tells) some = absurd (let none = tells.steps in omega (arith, some, none))
  alive_in t k found left pf pl e acts (Leaves label at leaves same tells) some = absurd (let none = tells.steps in omega (arith, some, none))
  alive_in t k found left pf pl e acts (Makes xs made tells) some = alive_made t k xs found left pf pl made

  -- an attachment that its entry tells
  record TookIn (k : ℕ) (l : Label) (found : Hand) (pf : Held) (e : Entry) (t : ℕ) : Type 0 where
    at : k ≡ desk
    attaches : Attaches limits pf.desk found.watched t l
    quiet : e.events ≡ []

  took_in : (t k : ℕ) (found left : Hand) (pf pl : Held) (e : Entry) (acts : List Act) (l : Label) → IsDeed file limits era t k found left pf pl e acts →
      e.note ≡ Attach l → TookIn k l found pf e t
  took_in t k found left pf pl e acts l (Takes label at takes tells) is =
      let same : Attach label ≡ Attach l = sym tells.note_is ∙ is in
      let one : label ≡ l = cc in
      record { at = at; attaches = subst (Attaches limits pf.desk found.watched t) one takes.attaches; quiet = tells.events }
  took_in t k found left pf pl e acts l (Leaves label at leaves same tells) is = absurd (let z : Leave label ≡ Attach l = sym tells.note_is ∙ is in cc)
  took_in t k found left pf pl e acts l (Makes xs made tells) is = absurd (let z : Nothing ≡ Attach l = sym tells.note ∙ is in cc)

-- ---- the front of the queue is free

front_free : (g n : ℕ) (l : Labels) (queue : List ℕ) (d : DeskContents) (sid : ℕ) (rest : List ℕ) → AreSlots g n l queue d.slots → queue ≡ sid ∷ rest →
    is_free (slot_of d sid) ≡ true
front_free g n l queue d sid rest s is = elim (cases_Bool (is_free (slot_of d sid))) [
  | inl e ↦ e
  | inr e ↦
      let none : count_by (λ (x : ℕ). x == sid) (sid ∷ rest) ≡ 0 =
      ap (λ (q : List ℕ). count_by (λ (x : ℕ). x == sid) q) (sym is) ∙ (s.queued sid ∙ ap (λ (b : Bool). cond b 1 0) e) in
      absurd (counted none)
]
  where
    counted : count_by (λ (x : ℕ). x == sid) (sid ∷ rest) ≡ 0 → ⊥
    counted q =
        let weight : ℕ → ℕ = λ x. cond (x == sid) 1 0 in
        let here : weight sid ≡ 1 = ap (λ (b : Bool). cond b 1 0) (eq-eqb sid sid refl) in
        let sum : sum_by weight (sid ∷ rest) ≡ 1 + sum_by weight rest = sum_by-cons_is weight sid rest 1 here in
        let none : sum_by weight (sid ∷ rest) ≡ 0 = q in
        omega (arith, none, sum)

no_slot_of : {X : Type 0} (f : ℕ → X) (o : Option ℕ) → option_map f o ≡ None → o ≡ None
no_slot_of f None q = refl
no_slot_of f (Some s) q = absurd (cc)

-- ---- what it finds

module _ (file : List ℕ) (limits : Limits) (ok : image_of file ≡ Ok file) where
  -- A deed found what stands before its entry, and this tells what the machine does from that world on.
  pub record Found (era : ℕ) (d : HandDeed) (w : World) (h : List Moment) : Type 0 where
    pub hands : Hands
    pub machine : Watched
    pub stands : StandsStamped file limits hands machine w h
    pub here : hands.local d.call.thread ≡ d.local_found
    pub there : hands.value d.call.place ≡ d.found
    pub era_is : era_now limits.epochs h ≡ era
    pub made : IsHandDeed file limits era d
    pub facts : Facts file limits.harts w d.told.entry d.told.entry.tid d.call.place

  pub found_first : (era : ℕ) (d : HandDeed) (ds : List HandDeed) (c : Hands) (m : Watched) (w : World) (h : List Moment) →
      LinesUp c (d ∷ ds) → IsHandDeed file limits era d → era_now limits.epochs h ≡ era → StandsStamped file limits c m w h → Found era d w h
  found_first era d ds c m w h line made is s =
      let one = first_part c (d ∷ []) ds line in
      let a = advance file limits ok (d ∷ []) c m w h one (subst (λ (n : ℕ). IsHandDeed file limits n d) (sym is) made, tt) s in
      record {
        hands = c;
        machine = m;
        stands = s;
        here = found_local c d ds line;
        there = found_value c d ds line;
        era_is = is;
        made = made;
        facts = a.facts.0;
      }

  module _ (era : ℕ) (d : HandDeed) (w : World) (h : List Moment) (f : Found era d w h) where
    abbrev t : ℕ
    t = d.call.thread

    abbrev k : ℕ
    k = d.call.place

    abbrev e : Entry
    e = d.told.entry

    thread_is : e.tid ≡ t
    thread_is = thread_of_deed file limits era d f.made

    found_is : (f.hands.local t).state ≡ d.local_found.state
    found_is = ap (λ (l : Stamped Hand). l.state) f.here

    present : d.local_found.state.watched.era ≡ era
    present = present_in file limits era t k d.local_found.state d.local_left.state d.found.state d.left.state e d.told.acts f.made.deed

    -- its thread has the label that it found
    pub label_is : d.local_found.state.watched.label ≡ label_now limits.epochs h e.tid
    label_is =
        let watcher = f.stands.standing.kept.watchers t in
        ap (λ (l : Hand). l.watched.label) (sym found_is)
        ∙ (watcher.label (ap (λ (l : Hand). l.watched.era) found_is ∙ (present ∙ sym f.era_is))
        ∙ ap (label_now limits.epochs h) (sym thread_is))

    -- an attachment takes the queue's front
    pub record TakesNow (l : Label) : Type 0 where
      pub unlabelled : (labels_now limits.epochs h).slot_of e.tid ≡ None
      pub rest : List ℕ
      pub front : queue_now limits.epochs limits.slots h ≡ l.sid ∷ rest
      pub new_epoch : l.epoch ≡ (labels_now limits.epochs h).epoch l.sid + 1
      pub present_era : l.era ≡ (labels_now limits.epochs h).era

    abbrev IsDeskNow : DeskContents → Type 0
    IsDeskNow x = IsDesk limits.epochs limits.slots (labels_now limits.epochs h) (clocks_now limits.epochs h) (queue_now limits.epochs limits.slots h) x

    took : (l : Label) → e.note ≡ Attach l → TookIn file limits era k l d.local_found.state d.found.state e t
    took l is = took_in file limits era t k d.local_found.state d.local_left.state d.found.state d.left.state e d.told.acts l f.made.deed is

    pub takes_now : (l : Label) → e.note ≡ Attach l → TakesNow l
    takes_now l is =
        let x = took l is in
        let a = x.attaches in
        let dd = (plain f.hands).value desk in
        let same : dd.desk ≡ d.found.state.desk =
        ap (λ (j : ℕ). (f.hands.value j).state.desk) (sym x.at) ∙ ap (λ (v : Stamped Held). v.state.desk) f.there in
        let stands : IsDeskNow d.found.state.desk = subst IsDeskNow same f.stands.standing.kept.desk.desk in
        let free = front_free limits.epochs limits.slots (labels_now limits.epochs h) d.found.state.desk.queue d.found.state.desk l.sid a.rest
        stands.slots a.front in
        record {
          unlabelled = no_slot_of (λ (s : ℕ). record { sid = s; epoch = (labels_now limits.epochs h).epoch s; era = (labels_now limits.epochs h).era })
              ((labels_now limits.epochs h).slot_of e.tid) (sym label_is ∙ a.unlabelled);
          rest = a.rest;
          front = sym stands.same_queue ∙ a.front;
          new_epoch = a.epoch ∙ ap (λ (n : ℕ). n + 1) (sym (stands.slots.free l.sid free).1);
          present_era = a.era ∙ (present ∙ sym f.era_is);
        }

    pub quiet_attach : (l : Label) → e.note ≡ Attach l → e.events ≡ []
    quiet_attach l is = (took l is).quiet

    -- ---- its instructions

    whole : Whole
    whole = whole_of w (joint_of (plain f.machine))

    abbrev bares : State machine.Local machine.Value
    bares = joint.bare_of (joint_of (plain f.machine))

    state_is : IsStateOf file limits.harts whole bares
    unfolding whole
    state_is = f.stands.standing.watched.joint.bare

    local_is : bares.local t ≡ d.local_found.state.bare
    local_is = f.stands.standing.locals t ∙ ap (λ (l : Hand). l.bare) found_is

    value_is : bares.value k ≡ d.found.state.bare
    value_is = f.stands.standing.values k ∙ ap (λ (v : Stamped Held). v.state.bare) f.there

    -- the deed has an instruction that needs a slot
    pub record NeedsSlot : Type 0 where
      pub step : ℕ
      pub within : step < e.steps
      pub needs : NeedsAt file limits.harts ok t k d.local_found.state.bare d.found.state.bare step

    abbrev needy : ℕ → Bool
    needy u = list_any (λ (i : ℕ). thread_needs file u (slice_get (after (bare_of file limits.harts) w u i).threads u)) (up_from 0 e.steps)

    apart_there : (j : ℕ) → j + 1 < e.steps → (step file (after (bare_of file limits.harts) w t j) t).object ≡ None
    apart_there j l = subst (λ (u : ℕ). (step file (after (bare_of file limits.harts) w u j) u).object ≡ None) thread_is (f.facts.apart j l)

    alive : 0 < e.steps → IsAlive d.local_found.state.bare
    alive some = alive_in file limits era t k d.local_found.state d.local_left.state d.found.state d.left.state e d.told.acts f.made.deed some

    pub has_one : NeedsSlot → has_needy (bare_of file limits.harts) w e ≡ true
    unfolding whole
    has_one n =
        let a = alive (let l = n.within in omega (arith, l)) in
        let arrived = ap (λ (l : machine.Local). l.thread) local_is ∙ a.arrived in
        let needs = subst (λ (v : machine.Value). NeedsAt file limits.harts ok t k (bares.local t) v n.step) (sym value_is)
        (subst (λ (l : machine.Local). NeedsAt file limits.harts ok t k l d.found.state.bare n.step) (sym local_is) n.needs) in
        ap needy thread_is
        ∙ some_needs file limits.harts ok t k whole bares state_is a.thread arrived e.steps apart_there n.step n.within needs

    pub one_has : has_needy (bare_of file limits.harts) w e ≡ true → NeedsSlot
    unfolding whole
    one_has q = go (cases_lt 0 e.steps)
      where
        go : ((0 < e.steps) ⊎ (e.steps ≤ 0)) → NeedsSlot
        go (inl some) =
            let a = alive some in
            let arrived = ap (λ (l : machine.Local). l.thread) local_is ∙ a.arrived in
            let r = needs_some file limits.harts ok t k whole bares state_is a.thread arrived e.steps apart_there (ap needy (sym thread_is) ∙ q) in
            record {
              step = r.0;
              within = r.1;
              needs = subst (λ (v : machine.Value). NeedsAt file limits.harts ok t k d.local_found.state.bare v r.0) value_is
                  (subst (λ (l : machine.Local). NeedsAt file limits.harts ok t k l (bares.value k) r.0) local_is r.2);
            }
        go (inr none) =
            let zero_steps : e.steps ≡ 0 = omega (arith, none) in
            let z : false ≡ true = sym (ap (λ (n : ℕ). list_any (λ (i : ℕ). thread_needs file e.tid
            (slice_get (after (bare_of file limits.harts) w e.tid i).threads e.tid)) (up_from 0 n)) zero_steps) ∙ q in
            absurd (cc)
