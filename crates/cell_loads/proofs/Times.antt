-- The times of an entry's events.
use Rattle.std.proofs.Common.{◌≡◌, ◌<◌, ◌≤◌, ◌+◌, ◌==◌, ◌⊎◌, inl, inr, ℕ, zero, suc, Bool, cond, true, false, List, [], ◌∷◌, map, Option, Some, None, refl}
use Rattle.std.proofs.Common.{sym, ap, subst, ◌∙◌, arith, eqb-true, eq-eqb}
use Rattle.std.specs.Prelude.{nat_lt, take, filter}
use Rattle.std.specs.List.{enumerate_from}
use Rattle.std.proofs.lemmas.Bool.{cases_Bool, cond-true, cond-false, ltb-true, ltb-false, lt-ltb}
use Rattle.run_record.specs.declared.event.Event.{Event}
use Rattle.run_record.specs.declared.event.Event.TheVariants as events
use Rattle.run_record.specs.declared.entry.Check.{Check}
use Rattle.run_record.specs.declared.entry.DeskNote.{DeskNote}
use Rattle.run_record.specs.declared.entry.DeskNote.TheVariants.{Nothing, Attach, Leave}
use Rattle.run_laws.specs.Moments.{Item, Does, Notes, NewEra, Past, IsBy}
use Rattle.bare_machine.specs.Step.{desk}
use Rattle.machine_laws.specs.Events.{is_local}
use Rattle.turn_orders.specs.Lists.{Each, In, InOrder}
use Rattle.turn_orders.proofs.Members.{at_member, all_members, filter_in, in_filter}
use Rattle.shared_table.specs.Past as tables
use Rattle.cell_loads.specs.Spans.{Step, Checked, steps_of, checked_before, checked_at, over, Timing, opens, until, at_note, object_at}
use Rattle.cell_loads.specs.Spans.{Span, event_span, note_span, entry_spans, IsChecked, AreSooner, IsTiming}
use Rattle.cell_loads.proofs.Lists.{in_flat, flat_in, order_map, order_both, order_cases}

over_least : (n m : ℕ) (ss : List Step) → n ≤ m → Each (λ (s : Step). s.1 < m) ss → over n ss ≤ m
over_least n m [] l h = l
over_least n m (s ∷ ss) l h = let r = over_least n m ss l h.1 in let z = h.0 in omega arith

over_base : (n : ℕ) (ss : List Step) → n ≤ over n ss
over_base n [] = omega arith
over_base n (s ∷ ss) = let r = over_base n ss in omega arith

over_step : (n : ℕ) (s : Step) (ss : List Step) → In s ss → s.1 < over n ss
over_step n s [] i = absurd i
over_step n s (u ∷ ss) (inl e) = let q : s.1 ≡ u.1 = ap (λ (z : Step). z.1) e in omega arith
over_step n s (u ∷ ss) (inr i) = let r = over_step n s ss i in omega arith

-- the steps of the checks before an event
before_in : (n : ℕ) (s : Step) (cs : List Checked) → In s (steps_of (checked_before n cs)) → (c : Checked) × In c cs × (c.check.event < n) × In s c.steps
before_in n s cs i =
    let r = in_flat (λ (c : Checked). c.steps) s (checked_before n cs) i in
    let k = filter_in (λ (c : Checked). nat_lt c.check.event n) r.0 cs r.1 in
    (r.0, k.0, ltb-true r.0.check.event n k.1, r.2)

in_before : (n : ℕ) (s : Step) (c : Checked) (cs : List Checked) → In c cs → c.check.event < n → In s c.steps → In s (steps_of (checked_before n cs))
in_before n s c cs i l j = flat_in (λ (d : Checked). d.steps) c s (checked_before n cs)
    (in_filter (λ (d : Checked). nat_lt d.check.event n) c cs i (lt-ltb c.check.event n l)) j

-- and those of an event's own
pub at_in : (n : ℕ) (c : Checked) (cs : List Checked) → In c (checked_at n cs) → In c cs × (c.check.event ≡ n)
at_in n c cs i = let r = filter_in (λ (d : Checked). d.check.event == n) c cs i in (r.0, eqb-true c.check.event n r.1)

pub in_at : (n : ℕ) (c : Checked) (cs : List Checked) → In c cs → c.check.event ≡ n → In c (checked_at n cs)
in_at n c cs i e = in_filter (λ (d : Checked). d.check.event == n) c cs i (eq-eqb c.check.event n e)

opens_cases : (x : Timing) (n : ℕ) → ((n < x.first) × (opens x n ≡ x.start)) ⊎ ((x.first ≤ n) × (opens x n ≡ x.taken))
opens_cases x n = elim (cases_Bool (nat_lt n x.first)) [
  | inl e ↦ inl (ltb-true n x.first e, cond-true (nat_lt n x.first) x.start x.taken e)
  | inr e ↦ inr (ltb-false n x.first e, cond-false (nat_lt n x.first) x.start x.taken e)
]

opens_rise : (x : Timing) (p q : ℕ) → x.start ≤ x.taken → p ≤ q → opens x p ≤ opens x q
opens_rise x p q b l = go (opens_cases x p) (opens_cases x q)
  where
    go : ((p < x.first) × (opens x p ≡ x.start)) ⊎ ((x.first ≤ p) × (opens x p ≡ x.taken)) →
        ((q < x.first) × (opens x q ≡ x.start)) ⊎ ((x.first ≤ q) × (opens x q ≡ x.taken)) → opens x p ≤ opens x q
    go (inl a) (inl c) = let e = a.1 in let f = c.1 in omega arith
    go (inl a) (inr c) = let e = a.1 in let f = c.1 in omega arith
    go (inr a) (inr c) = let e = a.1 in let f = c.1 in omega arith
    go (inr a) (inl c) = absurd (let e = a.0 in let f = c.0 in omega arith)

module _ (past : tables.Past) (x : Timing) (h : IsTiming past x) where
  -- later events are over later
  pub until_rises : (p q : ℕ) → p ≤ q → until x p ≤ until x q
  until_rises p q l =
      over_least (opens x p) (until x q) (steps_of (checked_before p x.checked))
      (let a = opens_rise x p q h.begins l in let b = over_base (opens x q) (steps_of (checked_before q x.checked)) in omega arith)
      (all_members (λ (s : Step). s.1 < until x q) (steps_of (checked_before p x.checked)) later)
    where
      later : (s : Step) → In s (steps_of (checked_before p x.checked)) → s.1 < until x q
      later s i = let r = before_in p s x.checked i in
          over_step (opens x q) s (steps_of (checked_before q x.checked)) (in_before q s r.0 x.checked r.1 (let z = r.2 in omega arith) r.3)

  pub until_start : (n : ℕ) → x.start ≤ until x n
  until_start n =
      let b = over_base (opens x n) (steps_of (checked_before n x.checked)) in
      let d = h.begins in
      elim (opens_cases x n) [
        | inl a ↦ let e = a.1 in omega arith
        | inr a ↦ let e = a.1 in omega arith
      ]

  pub until_taken : (n : ℕ) → x.first ≤ n → x.taken ≤ until x n
  until_taken n l =
      let b = over_base (opens x n) (steps_of (checked_before n x.checked)) in
      elim (opens_cases x n) [
        | inl a ↦ absurd (let e = a.0 in omega arith)
        | inr a ↦ let e = a.1 in omega arith
      ]

  pub until_given : (n : ℕ) → until x n ≤ x.given
  until_given n = over_least (opens x n) x.given (steps_of (checked_before n x.checked)) base
      (all_members (λ (s : Step). s.1 < x.given) (steps_of (checked_before n x.checked)) each)
    where
      base : opens x n ≤ x.given
      base = let d = h.begins in let g = h.holds in elim (opens_cases x n) [
        | inl a ↦ let e = a.1 in omega arith
        | inr a ↦ let e = a.1 in omega arith
      ]

      each : (s : Step) → In s (steps_of (checked_before n x.checked)) → s.1 < x.given
      each s i = let r = before_in n s x.checked i in at_member (λ (u : Step). u.1 < x.given) s r.0.steps
          (at_member (IsChecked past x) r.0 x.checked h.checked r.1).ended r.3

  -- a step of an event's check was made while the event was
  pub step_within : (n : ℕ) (s : Step) (c : Checked) → In c x.checked → c.check.event ≡ n → In s c.steps → (until x n ≤ s.1) × (s.1 < until x (n + 1))
  step_within n s c i e j = (
    over_least (opens x n) s.1 (steps_of (checked_before n x.checked)) base
        (all_members (λ (u : Step). u.1 < s.1) (steps_of (checked_before n x.checked)) sooner),
    over_step (opens x (n + 1)) s (steps_of (checked_before (n + 1) x.checked)) (in_before (n + 1) s c x.checked i (omega arith) j),
  )
    where
      is : IsChecked past x c
      is = at_member (IsChecked past x) c x.checked h.checked i

      base : opens x n ≤ s.1
      base = elim (opens_cases x n) [
        | inl a ↦ let b = at_member (λ (u : Step). x.start ≤ u.1) s c.steps is.begun j in let f = a.1 in omega arith
        | inr a ↦ let b = at_member (λ (u : Step). x.taken ≤ u.1) s c.steps (is.held (let z = a.0 in omega arith)) j in let f = a.1 in omega arith
      ]

      sooner : (u : Step) → In u (steps_of (checked_before n x.checked)) → u.1 < s.1
      sooner u k =
          let r = before_in n u x.checked k in
          let events = order_map (λ (d : Checked). d.check) (λ (a b : Check). a.event ≤ b.event) x.checked
          (subst (InOrder (λ (a b : Check). a.event ≤ b.event)) (sym h.checks) h.events) in
          let both = order_both AreSooner (λ (a b : Checked). a.check.event ≤ b.check.event) x.checked h.order events in
          go r.0 r.2 r.3 (order_cases (λ (a b : Checked). AreSooner a b × (a.check.event ≤ b.check.event)) r.0 c x.checked both r.1 i)
        where
          go : (d : Checked) → d.check.event < n → In u d.steps →
              (d ≡ c) ⊎ ((AreSooner d c × (d.check.event ≤ c.check.event)) ⊎ (AreSooner c d × (c.check.event ≤ d.check.event))) → u.1 < s.1
          go d l m (inl q) = absurd (let z = ap (λ (b : Checked). b.check.event) q in omega arith)
          go d l m (inr (inl q)) = q.0 u s m j
          go d l m (inr (inr q)) = absurd (let z = q.1 in omega arith)

-- ---- the spans of an entry

-- the object at which what happens is made, if it reaches a clock or another thread
abbrev pub item_at : Item → Option ℕ
item_at (Does t e) = object_at e
item_at (Notes t (Attach l)) = Some desk
item_at (Notes t Nothing) = None
item_at (Notes t (Leave l)) = None
item_at NewEra = None
item_at Past = None

-- What is known of each span of an entry: it is of the entry's thread, within the entry's times, and what reaches a clock or another
-- thread is made at the entry's place while the seat has the object.
pub record IsSpanOf (x : Timing) (s : Span) : Type 0 where
  pub by : IsBy x.entry.tid s.moment.item
  pub round : s.moment.round ≡ x.entry.round
  pub order : s.lo ≤ s.hi
  pub from : x.start ≤ s.lo
  pub to : s.hi ≤ x.stop
  pub place : (k : ℕ) → item_at s.moment.item ≡ Some k → x.place ≡ k
  pub taken : (k : ℕ) → item_at s.moment.item ≡ Some k → x.taken ≤ s.lo
  pub given : (k : ℕ) → item_at s.moment.item ≡ Some k → s.hi ≤ x.given
  pub created : (t child : ℕ) → s.moment.item ≡ Does t (events.Create child) → In (events.Create child) x.entry.events
  pub checks : map (λ (c : Checked). c.check) s.checked ≡ s.moment.checks
  pub among : (c : Checked) → In c s.checked → In c x.checked
  pub steps : (c : Checked) (u : Step) → In c s.checked → In u c.steps → (s.lo ≤ u.1) × (u.1 < s.hi)

-- an event of the entry by its number
record IsNumbered (x : Timing) (q : ℕ × Event) : Type 0 where
  here : In q.1 x.entry.events
  early : q.0 < x.first → is_local q.1 ≡ true

local_nowhere : (e : Event) (k : ℕ) → is_local e ≡ true → object_at e ≡ Some k → ⊥
local_nowhere events.Begin k l o = cc
local_nowhere (events.Create child) k l o = cc
local_nowhere events.End k l o = cc
local_nowhere (events.Join of) k l o = cc
local_nowhere (events.Enter f) k l o = cc
local_nowhere events.Leave k l o = cc
local_nowhere (events.Lock a r) k l o = cc
local_nowhere (events.Unlock a r) k l o = cc
local_nowhere (events.Acquire a p) k l o = cc
local_nowhere (events.Release a p r) k l o = cc
local_nowhere (events.Destroy a) k l o = cc
local_nowhere (events.Access p a s r t) k l o = cc
local_nowhere (events.Put v c) k l o = cc
local_nowhere (events.Clear a) k l o = cc

abbrev check_of : Checked → Check
check_of d = d.check

filtered : (n : ℕ) (cs : List Checked) → map (λ (c : Checked). c.check) (checked_at n cs) ≡ filter (λ (d : Check). d.event == n)
    (map (λ (c : Checked). c.check) cs)
filtered n [] = refl
filtered n (c ∷ cs) = go (c.check.event == n) (filtered n cs)
  where
    go : (b : Bool) → map check_of (checked_at n cs) ≡ filter (λ (d : Check). d.event == n) (map check_of cs) →
        map check_of (cond b (c ∷ checked_at n cs) (checked_at n cs))
        ≡ cond b (c.check ∷ filter (λ (d : Check). d.event == n) (map check_of cs)) (filter (λ (d : Check). d.event == n) (map check_of cs))
    go true r = ap (λ (ds : List Check). c.check ∷ ds) r
    go false r = r

module _ (past : tables.Past) (x : Timing) (h : IsTiming past x) (i : ℕ) where
  span_is : (q : ℕ × Event) → IsNumbered x q → IsSpanOf x (event_span i x q)
  span_is q is = record {
    by = refl;
    round = refl;
    order = until_rises past x h q.0 (q.0 + 1) (omega arith);
    from = until_start past x h q.0;
    to = let a = until_given past x h (q.0 + 1) in let b = h.ends in omega arith;
    place = λ k o. h.places q.1 k is.here o;
    taken = λ k o. until_taken past x h q.0 (late k o);
    given = λ k o. until_given past x h (q.0 + 1);
    created = λ t child e. subst (λ (v : Event). In v x.entry.events) (event_is q.1 t child e) is.here;
    checks = filtered q.0 x.checked ∙ ap (λ (cs : List Check). filter (λ (d : Check). d.event == q.0) cs) h.checks;
    among = λ c m. (at_in q.0 c x.checked m).0;
    steps = λ c u m j. let r = at_in q.0 c x.checked m in step_within past x h q.0 u c r.0 r.1 j;
  }
    where
      late : (k : ℕ) → object_at q.1 ≡ Some k → x.first ≤ q.0
      late k o = elim (Rattle.std.proofs.lemmas.Bool.cases_lt q.0 x.first) [
        | inl l ↦ absurd (local_nowhere q.1 k (is.early l) o)
        | inr l ↦ l
      ]

      event_is : (v : Event) (t child : ℕ) → Does x.entry.tid v ≡ Does t (events.Create child) → v ≡ events.Create child
      event_is v t child e = cc

  -- ---- all of them

  numbered : (n k : ℕ) (es : List Event) → Each (λ (e : Event). is_local e ≡ true) (take k es) →
      Each (λ (q : ℕ × Event). (n ≤ q.0) × In q.1 es × (q.0 < n + k → is_local q.1 ≡ true)) (enumerate_from n es)
  numbered n k [] l = tt
  numbered n zero (e ∷ es) l = (
    (omega arith, inl refl, λ z. absurd (omega arith)),
    weaken (numbered (n + 1) 0 es (nil es)),
  )
    where
      nil : (vs : List Event) → Each (λ (v : Event). is_local v ≡ true) (take 0 vs)
      nil vs = tt

      weaken : Each (λ (q : ℕ × Event). (n + 1 ≤ q.0) × In q.1 es × (q.0 < n + 1 + 0 → is_local q.1 ≡ true)) (enumerate_from (n + 1) es) →
          Each (λ (q : ℕ × Event). (n ≤ q.0) × In q.1 (e ∷ es) × (q.0 < n + 0 → is_local q.1 ≡ true)) (enumerate_from (n + 1) es)
      weaken a = all_members (λ (q : ℕ × Event). (n ≤ q.0) × In q.1 (e ∷ es) × (q.0 < n + 0 → is_local q.1 ≡ true)) (enumerate_from (n + 1) es)
          (λ q m. let r = at_member (λ (q : ℕ × Event). (n + 1 ≤ q.0) × In q.1 es × (q.0 < n + 1 + 0 → is_local q.1 ≡ true)) q
          (enumerate_from (n + 1) es) a m in
          let z = r.0 in (omega arith, inr r.1, λ y. absurd (omega arith)))
  numbered n (suc k) (e ∷ es) l = (
    (omega arith, inl refl, λ z. l.0),
    weaken (numbered (n + 1) k es l.1),
  )
    where
      weaken : Each (λ (q : ℕ × Event). (n + 1 ≤ q.0) × In q.1 es × (q.0 < n + 1 + k → is_local q.1 ≡ true)) (enumerate_from (n + 1) es) →
          Each (λ (q : ℕ × Event). (n ≤ q.0) × In q.1 (e ∷ es) × (q.0 < n + suc k → is_local q.1 ≡ true)) (enumerate_from (n + 1) es)
      weaken a = all_members (λ (q : ℕ × Event). (n ≤ q.0) × In q.1 (e ∷ es) × (q.0 < n + suc k → is_local q.1 ≡ true)) (enumerate_from (n + 1) es)
          (λ q m. let r = at_member (λ (q : ℕ × Event). (n + 1 ≤ q.0) × In q.1 es × (q.0 < n + 1 + k → is_local q.1 ≡ true)) q
          (enumerate_from (n + 1) es) a m in
          let z = r.0 in (omega arith, inr r.1, λ y. r.2 (omega arith)))

  are_numbered : Each (IsNumbered x) (enumerate_from 0 x.entry.events)
  are_numbered = all_members (IsNumbered x) (enumerate_from 0 x.entry.events) (λ q m.
      let r = at_member (λ (q : ℕ × Event). (0 ≤ q.0) × In q.1 x.entry.events × (q.0 < 0 + x.first → is_local q.1 ≡ true)) q (enumerate_from 0 x.entry.events)
      (numbered 0 x.first x.entry.events h.local_events) m in
      record { here = r.1; early = λ l. r.2 (omega arith) })

  note_within : (note : DeskNote) → (x.start ≤ at_note x note) × (at_note x note ≤ x.given)
  note_within Nothing = let a = h.begins in let b = h.holds in (omega arith, omega arith)
  note_within (Attach l) = let a = h.begins in let b = h.holds in (omega arith, omega arith)
  note_within (Leave l) = let a = h.begins in let b = h.holds in (omega arith, omega arith)

  note_at : (note : DeskNote) → x.entry.note ≡ note → (k : ℕ) → item_at (Notes x.entry.tid note) ≡ Some k → (x.place ≡ k) × (x.taken ≤ at_note x note)
  note_at Nothing e k o = absurd (cc)
  note_at (Leave l) e k o = absurd (cc)
  note_at (Attach l) e k o = let q : desk ≡ k = cc in (h.attached l e ∙ q, omega arith)

  note_is : IsSpanOf x (note_span i x)
  note_is = let w = note_within x.entry.note in record {
    by = refl;
    round = refl;
    order = omega arith;
    from = w.0;
    to = let a = w.1 in let b = h.ends in omega arith;
    place = λ k o. (note_at x.entry.note refl k o).0;
    taken = λ k o. (note_at x.entry.note refl k o).1;
    given = λ k o. w.1;
    created = λ t child e. absurd (cc);
    checks = refl;
    among = λ c m. absurd m;
    steps = λ c u m j. absurd m;
  }

  events_are : (qs : List (ℕ × Event)) → Each (IsNumbered x) qs → Each (IsSpanOf x) (map (event_span i x) qs)
  events_are [] a = tt
  events_are (q ∷ qs) a = (span_is q a.0, events_are qs a.1)

  pub spans_are : Each (IsSpanOf x) (entry_spans i x)
  spans_are = (note_is, events_are (enumerate_from 0 x.entry.events) are_numbered)

  -- ---- one after another

  abbrev IsOver : Span → Span → Type 0
  IsOver s u = s.hi ≤ u.lo

  from_number : (n : ℕ) (es : List Event) → Each (λ (s : Span). until x n ≤ s.lo) (map (event_span i x) (enumerate_from n es))
  from_number n [] = tt
  from_number n (e ∷ es) = (
    omega arith,
    all_members (λ (s : Span). until x n ≤ s.lo) (map (event_span i x) (enumerate_from (n + 1) es))
        (λ s m. let r = at_member (λ (s : Span). until x (n + 1) ≤ s.lo) s (map (event_span i x) (enumerate_from (n + 1) es)) (from_number (n + 1) es) m in
        let u = until_rises past x h n (n + 1) (omega arith) in omega arith),
  )

  events_order : (n : ℕ) (es : List Event) → InOrder IsOver (map (event_span i x) (enumerate_from n es))
  events_order n [] = tt
  events_order n (e ∷ es) = (from_number (n + 1) es, events_order (n + 1) es)

  note_first : (note : DeskNote) → x.entry.note ≡ note → Each (λ (s : Span). at_note x note ≤ s.lo) (map (event_span i x) (enumerate_from 0 x.entry.events))
  note_first Nothing e = all_members (λ (s : Span). x.start ≤ s.lo) (map (event_span i x) (enumerate_from 0 x.entry.events))
      (λ s m. (at_member (IsSpanOf x) s (map (event_span i x) (enumerate_from 0 x.entry.events))
      (events_are (enumerate_from 0 x.entry.events) are_numbered) m).from)
  note_first (Attach l) e = subst (λ (es : List Event). Each (λ (s : Span). x.taken ≤ s.lo) (map (event_span i x) (enumerate_from 0 es)))
      (sym (h.noted (λ q. let z : Attach l ≡ Nothing = sym e ∙ q in cc))) tt
  note_first (Leave l) e = subst (λ (es : List Event). Each (λ (s : Span). x.taken ≤ s.lo) (map (event_span i x) (enumerate_from 0 es)))
      (sym (h.noted (λ q. let z : Leave l ≡ Nothing = sym e ∙ q in cc))) tt

  -- what happens in an entry is over before the next thing in it begins
  pub spans_order : InOrder (λ (s u : Span). s.hi ≤ u.lo) (entry_spans i x)
  spans_order = (note_first x.entry.note refl, events_order 0 x.entry.events)
