-- The timings of a part of a round, deed by deed.
use Rattle.std.proofs.Common.{◌≡◌, ◌<◌, ◌≤◌, ◌+◌, ◌*◌, true, inl, inr, ℕ, List, [], ◌∷◌, ◌++◌, length, map, Option, Some, None, refl, sym, ap, subst, ◌∙◌}
use Rattle.std.proofs.Common.{arith}
use Rattle.std.specs.Prelude.{take}
use Rattle.std.specs.List.{AllZip, flat_map}
use Rattle.std.proofs.lemmas.List.{map-append, append_assoc}
use Rattle.run_record.specs.declared.event.Event.{Event}
use Rattle.run_record.specs.declared.event.Event.TheVariants as events
use Rattle.run_record.specs.declared.entry.Check.{Check}
use Rattle.run_record.specs.declared.entry.Entry.{Entry}
use Rattle.run_record.specs.declared.limits.Limits.{Limits}
use Rattle.bare_machine.specs.Step.{desk}
use Rattle.machine_laws.specs.Events.{is_local}
use Rattle.turn_orders.specs.Lists.{Each, In, InOrder}
use Rattle.turn_orders.specs.LineUp.{Stamped, LocalsFollow, last_local}
use Rattle.turn_orders.proofs.Members.{at_member, all_members, each_append, each_parts, order_append}
use Rattle.shared_table.specs.declared.object.Object.{Object}
use Rattle.shared_table.specs.declared.view.Item.{Item}
use Rattle.shared_table.specs.declared.view.Item.TheVariants.{Take, Give, Load, Store}
use Rattle.shared_table.specs.Past.{Past, Log}
use Rattle.woven_turns.specs.Steps.{Raises}
use Rattle.woven_turns.proofs.Weaving.{in_parts, in_left, in_right}
use Rattle.placed_detector.specs.Standing.{Hand}
use Rattle.deed_histories.specs.Lines.{entries_of}
use Rattle.table_deeds.specs.Objects.{ObjectDeed, hand_deeds, last_in}
use Rattle.hart_parts.specs.Parts.{Rest, Try, rest_entries, rest_deed, loads_from, store_at, touches_of, all_touches, IsStretch, rest_touches, try_items}
use Rattle.cell_loads.specs.Spans.{Step, IsSooner, Checked, steps_of, Timing, entries_timed, WasMade, IsChecked, AreSooner, IsTiming}
use Rattle.cell_loads.specs.Pasts.{made_in}
use Rattle.cell_loads.proofs.Lists.{in_flat, order_parts, Parted, parted, map_in}
use Rattle.cell_loads.proofs.Steps.{item_of, IsLate, late_bounds, Cut, cut, checked_steps, checked_order, single}
use Rattle.cell_loads.proofs.Deeds.{IsToldDeed}

-- ---- steps that change no object

abbrev IsTouch : Item → Type 0
IsTouch (Load c w) = Unit {0}
IsTouch (Store c w) = Unit {0}
IsTouch _ = ⊥

loads_touch : (n : ℕ) (ws : List ℕ) → Each IsTouch (loads_from n ws)
loads_touch n [] = tt
loads_touch n (w ∷ ws) = (tt, loads_touch (n + 1) ws)

store_touches : (granule : ℕ) (s : Option (ℕ × ℕ)) → Each IsTouch (store_at granule s)
store_touches granule None = tt
store_touches granule (Some s) = (tt, tt)

all_touch : (cs : List Check) → Each IsTouch (all_touches cs)
all_touch [] = tt
all_touch (c ∷ cs) = each_append IsTouch (touches_of c) (all_touches cs)
    (each_append IsTouch (loads_from (4 * c.granule) c.cells) (store_at c.granule c.stored)
    (loads_touch (4 * c.granule) c.cells) (store_touches c.granule c.stored)) (all_touch cs)

touch_raises : (measure : Object → ℕ) (x : Item) → IsTouch x → Raises measure x
touch_raises measure (Load c w) t = tt
touch_raises measure (Store c w) t = tt
touch_raises measure _ t = absurd t

-- neither an object's stamp falls, nor the number of threads that it has made
abbrev pub StepRaises : Limits → Step → Type 0
StepRaises limits s = Raises last_in s.0 × Raises (made_in limits) s.0

touches_raise : (limits : Limits) (cs : List Check) (ss : List Step) → map item_of ss ≡ all_touches cs → Each (StepRaises limits) ss
touches_raise limits cs ss e = all_members (StepRaises limits) ss (λ s i.
    let t = at_member IsTouch s.0 (all_touches cs) (all_touch cs) (subst (In s.0) e (map_in item_of s ss i)) in
    (touch_raises last_in s.0 t, touch_raises (made_in limits) s.0 t))

-- ---- one deed

-- The steps of a deed: those of the checks before its last instruction, then its turn of the object, with those of the last
-- instruction.
pub record Stretched (limits : Limits) (d : ObjectDeed) (ss : List Step) : Type 0 where
  pub first : ℕ
  pub before : List Checked
  pub within : List Checked
  pub number : ℕ
  pub took : Step
  pub gave : Step
  pub whole : ss ≡ steps_of before ++ (took ∷ (steps_of within ++ gave ∷ []))
  pub take_is : took.0 ≡ Take d.call.place number
  pub give_is : gave.0 ≡ Give d.call.place number d.found d.left
  pub checks : map (λ (c : Checked). c.check) (before ++ within) ≡ d.told.entry.checks
  pub touches : Each (λ (c : Checked). map item_of c.steps ≡ touches_of c.check) (before ++ within)
  pub early_events : (c : Checked) → In c before → c.check.event < first
  pub local_events : Each (λ (e : Event). is_local e ≡ true) (take first d.told.entry.events)
  pub early_raise : Each (StepRaises limits) (steps_of before)
  pub late_raise : Each (StepRaises limits) (steps_of within)

stretched : (limits : Limits) (d : ObjectDeed) (items : Log) (ss : List Step) → IsStretch d items → map item_of ss ≡ items → Stretched limits d ss
stretched limits d items ss h e = make
    (parted item_of ss (all_touches h.early) (Take d.call.place h.number ∷ (all_touches h.late ++ Give d.call.place h.number d.found d.left ∷ []))
    (e ∙ h.items_are))
  where
    make : Parted item_of ss (all_touches h.early) (Take d.call.place h.number ∷ (all_touches h.late ++ Give d.call.place h.number d.found d.left ∷ [])) →
        Stretched limits d ss
    make p =
        let check_of : Checked → Check = λ c. c.check in
        let q = parted item_of p.back (Take d.call.place h.number ∷ []) (all_touches h.late ++ Give d.call.place h.number d.found d.left ∷ []) p.backs in
        let t = single item_of q.front (Take d.call.place h.number) q.fronts in
        let r = parted item_of q.back (all_touches h.late) (Give d.call.place h.number d.found d.left ∷ []) q.backs in
        let g = single item_of r.back (Give d.call.place h.number d.found d.left) r.backs in
        let a = cut h.early p.front p.fronts in
        let b = cut h.late r.front r.fronts in
        let inner : q.back ≡ steps_of b.checked ++ g.0 ∷ [] =
        r.whole ∙ (ap (λ (l : List Step). r.front ++ l) g.1 ∙ ap (λ (l : List Step). l ++ g.0 ∷ []) (sym b.steps)) in
        let turn : p.back ≡ t.0 ∷ (steps_of b.checked ++ g.0 ∷ []) =
        q.whole ∙ (ap (λ (l : List Step). l ++ q.back) t.1 ∙ ap (λ (l : List Step). t.0 ∷ l) inner) in
        record {
          first = h.first;
          before = a.checked;
          within = b.checked;
          number = h.number;
          took = t.0;
          gave = g.0;
          whole = p.whole ∙ (ap (λ (l : List Step). p.front ++ l) turn ∙ ap (λ (l : List Step). l ++ (t.0 ∷ (steps_of b.checked ++ g.0 ∷ []))) (sym a.steps));
          take_is = t.2;
          give_is = g.2;
          checks = map-append check_of a.checked b.checked
              ∙ (ap (λ (l : List Check). l ++ map check_of b.checked) a.checks ∙ (ap (λ (l : List Check). h.early ++ l) b.checks ∙ sym h.checks));
          touches = each_append (λ (c : Checked). map item_of c.steps ≡ touches_of c.check) a.checked b.checked a.touches b.touches;
          early_events = λ c i. at_member (λ (x : Check). x.event < h.first) c.check h.early h.early_events
              (subst (In c.check) a.checks (map_in check_of c a.checked i));
          local_events = h.local_events;
          early_raise = subst (Each (StepRaises limits)) (sym a.steps) (touches_raise limits h.early p.front p.fronts);
          late_raise = subst (Each (StepRaises limits)) (sym b.steps) (touches_raise limits h.late r.front r.fronts);
        }

-- ---- timings

-- the turn of a timing's object, in the part `late` of the past after `early`
pub record HasTurn (limits : Limits) (early late : Past) (x : Timing) : Type 0 where
  pub number : ℕ
  pub found : Object
  pub left : Object
  pub took : ℕ
  pub take : IsLate early late x.seat (Take x.place number, took)
  pub taken : x.taken ≡ took + 1
  pub give : IsLate early late x.seat (Give x.place number found left, x.given)
  pub stamp : last_in left ≡ x.entry.stamp
  pub raised : last_in found < last_in left
  pub free : (child : ℕ) → In (events.Create child) x.entry.events → made_in limits found ≤ child

-- a timing of a part: from that time on, with a greater stamp than that
pub record IsOfPart (limits : Limits) (past early late : Past) (thread seat start last : ℕ) (x : Timing) : Type 0 where
  pub is : IsTiming past x
  pub thread_is : x.entry.tid ≡ thread
  pub seat_is : x.seat ≡ seat
  pub from : start ≤ x.start
  pub to : x.stop ≤ length (late ++ early)
  pub stamp : last < x.entry.stamp
  pub turn : x.place ≤ desk → HasTurn limits early late x

abbrev pub IsSoonerInPart : Timing → Timing → Type 0
IsSoonerInPart x y = (x.entry.stamp < y.entry.stamp) × (x.stop ≤ y.start)

-- the store is a step of one of the timings
abbrev pub IsStoreOf : List Timing → ℕ → ℕ → ℕ → Type 0
IsStoreOf xs c w p = (x : Timing) × In x xs × In (Store c w, p) (steps_of x.checked)

pub record Walked (limits : Limits) (past early late : Past) (thread seat start last : ℕ) (entries : List Entry) (ss : List Step) : Type 0 where
  pub timings : List Timing
  pub entries_are : entries_timed timings ≡ entries
  pub each : Each (IsOfPart limits past early late thread seat start last) timings
  pub order : InOrder IsSoonerInPart timings
  pub stores : (c w p : ℕ) → In (Store c w, p) ss → IsStoreOf timings c w p
  pub raise : Each (StepRaises limits) ss

later_part : (limits : Limits) (past early late : Past) (thread seat start last start' last' : ℕ) (x : Timing) → start ≤ start' → last ≤ last' →
    IsOfPart limits past early late thread seat start' last' x → IsOfPart limits past early late thread seat start last x
later_part limits past early late thread seat start last start' last' x a b h = record {
  is = h.is;
  thread_is = h.thread_is;
  seat_is = h.seat_is;
  from = let c = h.from in omega arith;
  to = h.to;
  stamp = let c = h.stamp in omega arith;
  turn = h.turn;
}

not_take : (c w p k i : ℕ) (s : Step) → s.0 ≡ Take k i → (Store c w, p) ≡ s → ⊥
not_take c w p k i s e q = let z : Store c w ≡ Take k i = ap item_of q ∙ e in cc

not_give : (c w p k i : ℕ) (f l : Object) (s : Step) → s.0 ≡ Give k i f l → (Store c w, p) ≡ s → ⊥
not_give c w p k i f l s e q = let z : Store c w ≡ Give k i f l = ap item_of q ∙ e in cc

module _ (limits : Limits) (past early late : Past) (seat : ℕ) (up : (s : Step) → IsLate early late seat s → WasMade past seat s) where
  abbrev Late : Step → Type 0
  Late = IsLate early late seat

  -- the timing of a deed at an object
  module _ (d : ObjectDeed) (ss : List Step) (start : ℕ) (told : IsToldDeed limits d) (st : Stretched limits d ss) (order : InOrder IsSooner ss)
      (late_is : Each Late ss)
      (from : Each (λ (s : Step). start ≤ s.1) ss) where
    abbrev back : List Step
    back = st.took ∷ (steps_of st.within ++ st.gave ∷ [])

    abbrev timing : Timing
    timing = record {
      entry = d.told.entry;
      place = d.call.place;
      seat = seat;
      first = st.first;
      start = start;
      taken = st.took.1 + 1;
      given = st.gave.1;
      stop = st.gave.1 + 1;
      checked = st.before ++ st.within;
    }

    outer : InOrder IsSooner (steps_of st.before) × InOrder IsSooner back × ((x y : Step) → In x (steps_of st.before) → In y back → IsSooner x y)
    outer = order_parts IsSooner (steps_of st.before) back (subst (InOrder IsSooner) st.whole order)

    inner : InOrder IsSooner (steps_of st.within) × InOrder IsSooner (st.gave ∷ []) ×
        ((x y : Step) → In x (steps_of st.within) → In y (st.gave ∷ []) → IsSooner x y)
    inner = order_parts IsSooner (steps_of st.within) (st.gave ∷ []) outer.1.1

    gave_in : In st.gave back
    gave_in = inr (in_right st.gave (steps_of st.within) (st.gave ∷ []) (inl refl))

    turn_order : st.took.1 < st.gave.1
    turn_order = at_member (λ (s : Step). st.took.1 < s.1) st.gave (steps_of st.within ++ st.gave ∷ []) outer.1.0
        (in_right st.gave (steps_of st.within) (st.gave ∷ []) (inl refl))

    in_whole : (s : Step) → In s (steps_of st.before ++ back) → In s ss
    in_whole s i = subst (In s) (sym st.whole) i

    before_in : (s : Step) → In s (steps_of st.before) → In s ss
    before_in s i = in_whole s (in_left s (steps_of st.before) back i)

    back_in : (s : Step) → In s back → In s ss
    back_in s i = in_whole s (in_right s (steps_of st.before) back i)

    within_in : (s : Step) → In s (steps_of st.within) → In s back
    within_in s i = inr (in_left s (steps_of st.within) (st.gave ∷ []) i)

    is_late : (s : Step) → In s ss → Late s
    is_late s i = at_member Late s ss late_is i

    begun : (s : Step) → In s ss → start ≤ s.1
    begun s i = at_member (λ (s : Step). start ≤ s.1) s ss from i

    orders : (InOrder AreSooner st.before × Each (λ (c : Checked). InOrder IsSooner c.steps) st.before)
        × (InOrder AreSooner st.within × Each (λ (c : Checked). InOrder IsSooner c.steps) st.within)
    orders = (checked_order st.before outer.0, checked_order st.within inner.0)

    touches_at : (c : Checked) → In c (st.before ++ st.within) → map item_of c.steps ≡ touches_of c.check
    touches_at c i = at_member (λ (x : Checked). map item_of x.steps ≡ touches_of x.check) c (st.before ++ st.within) st.touches i

    check_before : (c : Checked) → In c st.before → IsChecked past timing c
    check_before c i = record {
      touches = touches_at c (in_left c st.before st.within i);
      made = all_members (WasMade past seat) c.steps (λ s j. up s (is_late s (before_in s (checked_steps c s st.before i j))));
      order = at_member (λ (x : Checked). InOrder IsSooner x.steps) c st.before orders.0.1 i;
      begun = all_members (λ (s : Step). start ≤ s.1) c.steps (λ s j. begun s (before_in s (checked_steps c s st.before i j)));
      held = λ l. absurd (let z = st.early_events c i in omega arith);
      ended = all_members (λ (s : Step). s.1 < st.gave.1) c.steps (λ s j. outer.2 s st.gave (checked_steps c s st.before i j) gave_in);
    }

    check_within : (c : Checked) → In c st.within → IsChecked past timing c
    check_within c i = record {
      touches = touches_at c (in_right c st.before st.within i);
      made = all_members (WasMade past seat) c.steps (λ s j. up s (is_late s (back_in s (within_in s (checked_steps c s st.within i j)))));
      order = at_member (λ (x : Checked). InOrder IsSooner x.steps) c st.within orders.1.1 i;
      begun = all_members (λ (s : Step). start ≤ s.1) c.steps (λ s j. begun s (back_in s (within_in s (checked_steps c s st.within i j))));
      held = λ l. all_members (λ (s : Step). st.took.1 + 1 ≤ s.1) c.steps (λ s j.
          let z = at_member (λ (u : Step). st.took.1 < u.1) s (steps_of st.within ++ st.gave ∷ []) outer.1.0
          (in_left s (steps_of st.within) (st.gave ∷ []) (checked_steps c s st.within i j)) in omega arith);
      ended = all_members (λ (s : Step). s.1 < st.gave.1) c.steps (λ s j. inner.2 s st.gave (checked_steps c s st.within i j) (inl refl));
    }

    check_of : (c : Checked) → In c (st.before ++ st.within) → IsChecked past timing c
    check_of c i = elim (in_parts c st.before st.within i) [ inl j ↦ check_before c j | inr j ↦ check_within c j ]

    check_order : InOrder AreSooner (st.before ++ st.within)
    check_order = order_append AreSooner st.before st.within orders.0.0 orders.1.0
        (λ c e i j s u m n. outer.2 s u (checked_steps c s st.before i m) (within_in u (checked_steps e u st.within j n)))

    timing_is : IsTiming past timing
    timing_is = record {
      checks = st.checks;
      checked = all_members (IsChecked past timing) (st.before ++ st.within) check_of;
      order = check_order;
      events = told.entry.events;
      begins = let a = begun st.took (back_in st.took (inl refl)) in omega arith;
      holds = let a = turn_order in omega arith;
      ends = omega arith;
      local_events = st.local_events;
      places = told.entry.places;
      noted = told.entry.noted;
      attached = told.entry.attached;
    }

    turn_is : HasTurn limits early late timing
    turn_is = record {
      number = st.number;
      found = d.found;
      left = d.left;
      took = st.took.1;
      take = subst (λ (x : Item). Late (x, st.took.1)) st.take_is (is_late st.took (back_in st.took (inl refl)));
      taken = refl;
      give = subst (λ (x : Item). Late (x, st.gave.1)) st.give_is (is_late st.gave (back_in st.gave gave_in));
      stamp = told.left ∙ sym told.stamp;
      raised = let a = told.over in let b = told.left in omega arith;
      free = told.made.free;
    }

    pub deed_timing : (last : ℕ) → last ≤ d.local_found.last → IsOfPart limits past early late d.call.thread seat start last timing
    deed_timing last l = record {
      is = timing_is;
      thread_is = told.thread;
      seat_is = refl;
      from = omega arith;
      to = let a = (late_bounds early seat late st.gave (is_late st.gave (back_in st.gave gave_in))).1 in omega arith;
      stamp = let a = told.above in let b = told.stamp in omega arith;
      turn = λ p. turn_is;
    }

    at_end : (c w p : ℕ) → In (Store c w, p) (st.gave ∷ []) → In (Store c w, p) (steps_of (st.before ++ st.within))
    at_end c w p (inl q) = absurd (not_give c w p d.call.place st.number d.found d.left st.gave st.give_is q)
    at_end c w p (inr j) = absurd j

    of_before : (s : Step) → (x : Checked) × In x st.before × In s x.steps → In s (steps_of (st.before ++ st.within))
    of_before s r = checked_steps r.0 s (st.before ++ st.within) (in_left r.0 st.before st.within r.1) r.2

    of_within : (s : Step) → (x : Checked) × In x st.within × In s x.steps → In s (steps_of (st.before ++ st.within))
    of_within s r = checked_steps r.0 s (st.before ++ st.within) (in_right r.0 st.before st.within r.1) r.2

    in_turn : (c w p : ℕ) → In (Store c w, p) back → In (Store c w, p) (steps_of (st.before ++ st.within))
    in_turn c w p (inl q) = absurd (not_take c w p d.call.place st.number st.took st.take_is q)
    in_turn c w p (inr j) = elim (in_parts (Store c w, p) (steps_of st.within) (st.gave ∷ []) j) [
      | inl k ↦ of_within (Store c w, p) (in_flat (λ (x : Checked). x.steps) (Store c w, p) st.within k)
      | inr k ↦ at_end c w p k
    ]

    pub deed_stores : (c w p : ℕ) → In (Store c w, p) ss → In (Store c w, p) (steps_of (st.before ++ st.within))
    deed_stores c w p i = elim (in_parts (Store c w, p) (steps_of st.before) back (subst (In (Store c w, p)) st.whole i)) [
      | inl j ↦ of_before (Store c w, p) (in_flat (λ (x : Checked). x.steps) (Store c w, p) st.before j)
      | inr j ↦ in_turn c w p j
    ]

    pub deed_raise : Each (StepRaises limits) ss
    deed_raise = subst (Each (StepRaises limits)) (sym st.whole) (each_append (StepRaises limits) (steps_of st.before) back st.early_raise (
      (subst (Raises last_in) (sym st.take_is) tt, subst (Raises (made_in limits)) (sym st.take_is) tt),
      each_append (StepRaises limits) (steps_of st.within) (st.gave ∷ []) st.late_raise (
        (
          subst (Raises last_in) (sym st.give_is) (let a = told.over in let b = told.left in omega arith),
          subst (Raises (made_in limits))
              (sym st.give_is) told.made.more,
        ),
        tt,
      ),
    ))

  -- ---- without an object

  module _ (thread : ℕ) (found : Stamped Hand) (x : Object) (r : Rest) (told : IsToldDeed limits (rest_deed thread found x r)) (ss : List Step) (start : ℕ)
      (e : map item_of ss ≡ all_touches r.entry.checks) (le : start ≤ length (late ++ early)) (order : InOrder IsSooner ss) (late_is : Each Late ss)
      (from : Each (λ (s : Step). start ≤ s.1) ss) where
    abbrev parts : Cut r.entry.checks ss
    parts = cut r.entry.checks ss e

    abbrev alone_timing : Timing
    alone_timing = record {
      entry = r.entry;
      place = desk + 1 + thread;
      seat = seat;
      first = 0;
      start = start;
      taken = start;
      given = length (late ++ early);
      stop = length (late ++ early);
      checked = parts.checked;
    }

    in_all : (c : Checked) (s : Step) → In c parts.checked → In s c.steps → In s ss
    in_all c s i j = subst (In s) parts.steps (checked_steps c s parts.checked i j)

    alone_orders : InOrder AreSooner parts.checked × Each (λ (c : Checked). InOrder IsSooner c.steps) parts.checked
    alone_orders = checked_order parts.checked (subst (InOrder IsSooner) (sym parts.steps) order)

    alone_check : (c : Checked) → In c parts.checked → IsChecked past alone_timing c
    alone_check c i =
        let started = all_members (λ (s : Step). start ≤ s.1) c.steps (λ s j. at_member (λ (u : Step). start ≤ u.1) s ss from (in_all c s i j)) in
        record {
          touches = at_member (λ (d : Checked). map item_of d.steps ≡ touches_of d.check) c parts.checked parts.touches i;
          made = all_members (WasMade past seat) c.steps (λ s j. up s (at_member Late s ss late_is (in_all c s i j)));
          order = at_member (λ (d : Checked). InOrder IsSooner d.steps) c parts.checked alone_orders.1 i;
          begun = started;
          held = λ l. started;
          ended = all_members (λ (s : Step). s.1 < length (late ++ early)) c.steps
              (λ s j. (late_bounds early seat late s (at_member Late s ss late_is (in_all c s i j))).1);
        }

    alone_is : IsTiming past alone_timing
    alone_is = record {
      checks = parts.checks;
      checked = all_members (IsChecked past alone_timing) parts.checked alone_check;
      order = alone_orders.0;
      events = told.entry.events;
      begins = omega arith;
      holds = le;
      ends = omega arith;
      local_events = tt;
      places = told.entry.places;
      noted = told.entry.noted;
      attached = told.entry.attached;
    }

    pub rest_timing : (last : ℕ) → last ≤ found.last → IsOfPart limits past early late thread seat start last alone_timing
    rest_timing last l = record {
      is = alone_is;
      thread_is = told.thread;
      seat_is = refl;
      from = omega arith;
      to = omega arith;
      stamp = let a = told.above in let b = told.stamp in omega arith;
      turn = λ p. absurd (omega arith);
    }

    pub rest_stores : (c w p : ℕ) → In (Store c w, p) ss → In (Store c w, p) (steps_of parts.checked)
    rest_stores c w p i = subst (In (Store c w, p)) (sym parts.steps) i

  try_stores : (tried : Option Try) (c w : ℕ) → In (Store c w) (try_items tried) → ⊥
  try_stores None c w i = i
  try_stores (Some x) c w (inl q) = cc
  try_stores (Some x) c w (inr (inl q)) = cc
  try_stores (Some x) c w (inr (inr i)) = i

  try_raises : (measure : Object → ℕ) (tried : Option Try) → Each (Raises measure) (try_items tried)
  try_raises measure None = tt
  try_raises measure (Some x) = (tt, (omega arith, tt))

  tried_steps : (tried : Option Try) (ss : List Step) → map item_of ss ≡ try_items tried → Each (StepRaises limits) ss ×
      ((c w p : ℕ) → In (Store c w, p) ss → ⊥)
  tried_steps tried ss e = (
    all_members (StepRaises limits) ss (λ s i.
        let k = subst (In s.0) e (map_in item_of s ss i) in (
          at_member (Raises last_in) s.0 (try_items tried) (try_raises last_in tried) k,
          at_member (Raises (made_in limits)) s.0 (try_items tried) (try_raises (made_in limits) tried) k,
        )),
    λ c w p i. try_stores tried c w (subst (In (Store c w)) e (map_in item_of (Store c w, p) ss i)),
  )

  walk_end : (thread : ℕ) (found : Stamped Hand) (x : Object) (rest : Option Rest) (tried : Option Try) (start : ℕ) (ss : List Step) →
      start ≤ length (late ++ early) → ((r : Rest) → rest ≡ Some r → IsToldDeed limits (rest_deed thread found x r)) →
      map item_of ss ≡ rest_touches rest ++ try_items tried → InOrder IsSooner ss → Each Late ss → Each (λ (s : Step). start ≤ s.1) ss →
      Walked limits past early late thread seat start found.last (rest_entries rest) ss
  walk_end thread found x None tried start ss le told e order late_is from =
      let t = tried_steps tried ss e in
      record { timings = []; entries_are = refl; each = tt; order = tt; stores = λ c w p i. absurd (t.1 c w p i); raise = t.0 }
  walk_end thread found x (Some r) tried start ss le told e order late_is from = make (parted item_of ss (all_touches r.entry.checks) (try_items tried) e)
    where
      make : Parted item_of ss (all_touches r.entry.checks) (try_items tried) → Walked limits past early late thread seat start found.last (r.entry ∷ []) ss
      make p =
          let t = tried_steps tried p.back p.backs in
          let order' = order_parts IsSooner p.front p.back (subst (InOrder IsSooner) p.whole order) in
          let late' = each_parts Late p.front p.back (subst (Each Late) p.whole late_is) in
          let from' = each_parts (λ (s : Step). start ≤ s.1) p.front p.back (subst (Each (λ (s : Step). start ≤ s.1)) p.whole from) in
          let told' = told r refl in
          record {
            timings = alone_timing thread found x r told' p.front start p.fronts le order'.0 late'.0 from'.0 ∷ [];
            entries_are = refl;
            each = (rest_timing thread found x r told' p.front start p.fronts le order'.0 late'.0 from'.0 found.last (omega arith), tt);
            order = (tt, tt);
            stores = λ c w q i. elim (in_parts (Store c w, q) p.front p.back (subst (In (Store c w, q)) p.whole i)) [
              | inl j ↦ (
                alone_timing thread found x r told' p.front start p.fronts le order'.0 late'.0 from'.0,
                inl refl,
                rest_stores thread found x r told' p.front start p.fronts le order'.0 late'.0 from'.0 c w q j,
              )
              | inr j ↦ absurd (t.1 c w q j)
            ];
            raise = subst (Each (StepRaises limits)) (sym p.whole)
                (each_append (StepRaises limits) p.front p.back (touches_raise limits r.entry.checks p.front p.fronts) t.0);
          }

  -- ---- all deeds of a part

  module _ (file : List ℕ) (thread : ℕ) (x : Object) (rest : Option Rest) (tried : Option Try) where
    abbrev tail : Log
    tail = rest_touches rest ++ try_items tried

    -- the steps behind those of a deed
    abbrev later_of : List Log → Log
    later_of logs = flat_map (λ (zs : Log). zs) logs ++ tail

    abbrev Others : ObjectDeed → List ObjectDeed → List Log → Type 0
    Others d ds logs =
        (start' : ℕ) (back : List Step) → start' ≤ length (late ++ early) → map item_of back ≡ later_of logs → InOrder IsSooner back → Each Late back →
        Each (λ (s : Step). start' ≤ s.1) back →
        Walked limits past early late thread seat start' d.local_left.last (entries_of (hand_deeds file limits ds) ++ rest_entries rest) back

    -- a deed before others
    first_of : (d : ObjectDeed) (ds : List ObjectDeed) (logs : List Log) (l : Stamped Hand) (items : Log) (start : ℕ) (ss : List Step) →
        d.call.thread ≡ thread → IsToldDeed limits d → l ≡ d.local_found → IsStretch d items → InOrder IsSooner ss → Each Late ss →
        Each (λ (s : Step). start ≤ s.1) ss → Parted item_of ss items (later_of logs) → Others d ds logs →
        Walked limits past early late thread seat start l.last (entries_of (hand_deeds file limits (d ∷ ds)) ++ rest_entries rest) ss
    first_of d ds logs l items start ss own told follow zip order late_is from p others =
        let st = stretched limits d items p.front zip p.fronts in
        let order' = order_parts IsSooner p.front p.back (subst (InOrder IsSooner) p.whole order) in
        let late' = each_parts Late p.front p.back (subst (Each Late) p.whole late_is) in
        let from' = each_parts (λ (s : Step). start ≤ s.1) p.front p.back (subst (Each (λ (s : Step). start ≤ s.1)) p.whole from) in
        let gave : In st.gave p.front = subst (In st.gave) (sym st.whole)
        (in_right st.gave (steps_of st.before) (st.took ∷ (steps_of st.within ++ st.gave ∷ []))
        (inr (in_right st.gave (steps_of st.within) (st.gave ∷ []) (inl refl)))) in
        let bound = (late_bounds early seat late st.gave (at_member Late st.gave p.front late'.0 gave)).1 in
        let begun = at_member (λ (s : Step). start ≤ s.1) st.gave p.front from'.0 gave in
        let same : l.last ≡ d.local_found.last = ap (λ (z : Stamped Hand). z.last) follow in
        let higher = told.above in
        let more = others (st.gave.1 + 1) p.back (omega arith) p.backs order'.1 late'.1
        (all_members (λ (s : Step). st.gave.1 + 1 ≤ s.1) p.back (λ s i. let z = order'.2 st.gave s gave i in omega arith)) in
        let first = deed_timing d p.front start told st order'.0 late'.0 from'.0 l.last (omega arith) in
        record {
          timings = timing d p.front start told st order'.0 late'.0 from'.0 ∷ more.timings;
          entries_are = ap (λ (es : List Entry). d.told.entry ∷ es) more.entries_are;
          each = (
            subst (λ (t : ℕ). IsOfPart limits past early late t seat start l.last (timing d p.front start told st order'.0 late'.0 from'.0)) own first,
            all_members (IsOfPart limits past early late thread seat start l.last) more.timings (λ y i.
                later_part limits past early late thread seat start l.last (st.gave.1 + 1) d.local_left.last y (omega arith) (omega arith)
                (at_member (IsOfPart limits past early late thread seat (st.gave.1 + 1) d.local_left.last) y more.timings more.each i)),
          );
          order = (
            all_members (IsSoonerInPart (timing d p.front start told st order'.0 late'.0 from'.0)) more.timings (λ y i.
                let z = at_member (IsOfPart limits past early late thread seat (st.gave.1 + 1) d.local_left.last) y more.timings more.each i in
                let a = z.stamp in let b = told.stamp in (omega arith, z.from)),
            more.order,
          );
          stores = λ c w q i. elim (in_parts (Store c w, q) p.front p.back (subst (In (Store c w, q)) p.whole i)) [
            | inl j ↦ (
              timing d p.front start told st order'.0 late'.0 from'.0,
              inl refl,
              deed_stores d p.front start told st order'.0 late'.0 from'.0 c w q j,
            )
            | inr j ↦ let z = more.stores c w q j in (z.0, inr z.1, z.2)
          ];
          raise = subst (Each (StepRaises limits)) (sym p.whole)
              (each_append (StepRaises limits) p.front p.back (deed_raise d p.front start told st order'.0 late'.0 from'.0) more.raise);
        }

    pub walk : (ds : List ObjectDeed) (logs : List Log) (l : Stamped Hand) (start : ℕ) (ss : List Step) → start ≤ length (late ++ early) →
        Each (λ (d : ObjectDeed). d.call.thread ≡ thread) ds → Each (IsToldDeed limits) ds → LocalsFollow l ds → AllZip IsStretch ds logs →
        ((r : Rest) → rest ≡ Some r → IsToldDeed limits (rest_deed thread (last_local l ds) x r)) →
        map item_of ss ≡ flat_map (λ (items : Log). items) logs ++ tail → InOrder IsSooner ss → Each Late ss → Each (λ (s : Step). start ≤ s.1) ss →
        Walked limits past early late thread seat start l.last (entries_of (hand_deeds file limits ds) ++ rest_entries rest) ss
    walk [] [] l start ss le own told follow zip rested e order late_is from = walk_end thread l x rest tried start ss le rested e order late_is from
    walk [] (items ∷ logs) l start ss le own told follow zip rested e order late_is from = absurd zip
    walk (d ∷ ds) [] l start ss le own told follow zip rested e order late_is from = absurd zip
    walk (d ∷ ds) (items ∷ logs) l start ss le own told follow zip rested e order late_is from =
        make (parted item_of ss items (later_of logs) (e ∙ append_assoc items (flat_map (λ (zs : Log). zs) logs) tail))
        (λ start' back le' e' o' l' f'. walk ds logs d.local_left start' back le' own.1 told.1 follow.1 zip.1 rested e' o' l' f')
      where
        make : Parted item_of ss items (later_of logs) → Others d ds logs →
            Walked limits past early late thread seat start l.last (entries_of (hand_deeds file limits (d ∷ ds)) ++ rest_entries rest) ss
        make p others = first_of d ds logs l items start ss own.0 told.0 follow.0 zip.0 order late_is from p others
