-- The items of a history whose entries have right timings have times.
use Rattle.std.proofs.Common.{◌≡◌, ◌<◌, ◌≤◌, ◌+◌, ◌-◌, ◌⊎◌, inl, inr, ℕ, zero, suc, Bool, List, [], ◌∷◌, ◌++◌, map, replicate, Some, refl, sym, ap, ap₂}
use Rattle.std.proofs.Common.{subst, ◌∙◌, arith}
use Rattle.std.specs.List.{enumerate_from}
use Rattle.std.proofs.lemmas.List.{map-append}
use Rattle.run_record.specs.declared.event.Event.{Event}
use Rattle.run_record.specs.declared.event.Event.TheVariants as events
use Rattle.run_record.specs.declared.event.Part.{Part}
use Rattle.run_record.specs.declared.entry.Label.{Label}
use Rattle.run_record.specs.declared.entry.DeskNote.TheVariants.{Attach}
use Rattle.run_laws.specs.Moments.{Item, Does, Notes, NewEra, Past, IsBy, Moment, moment_at, items, moments, moments_from, event_moment}
use Rattle.cell_times.specs.Times.{AreTimed}
use Rattle.bare_machine.specs.Memory.{stripe}
use Rattle.bare_machine.specs.Step.{desk}
use Rattle.turn_orders.specs.Lists.{Each, In, InOrder}
use Rattle.turn_orders.proofs.Members.{at_member, all_members, each_append, order_append}
use Rattle.shared_table.specs.Past as tables
use Rattle.cell_loads.specs.Spans.{Timing, Span, event_span, note_span, entry_spans, era_span, spans_from, spans, no_span, span_at, entries_timed}
use Rattle.cell_loads.specs.Spans.{IsTiming, IsSoonerInRound, IsSoonerEntry}
use Rattle.cell_loads.proofs.Lists.{order_as, each_index, order_index, map_index}
use Rattle.cell_loads.proofs.Times.{item_at, IsSpanOf, spans_are, spans_order}

-- the pairs that times must order
pub data Linked (a b : Item) : Type 0 where
  Own : (t : ℕ) → IsBy t a → IsBy t b → Linked a b
  Channel : (t u addr : ℕ) (part : Part) (replaces : Bool) → a ≡ Does t (events.Release addr part replaces) → b ≡ Does u (events.Acquire addr part) →
      Linked a b
  Created : (t child : ℕ) → a ≡ Does t (events.Create child) → b ≡ Does child events.Begin → Linked a b
  Joined : (child t : ℕ) → a ≡ Does child events.End → b ≡ Does t (events.Join child) → Linked a b
  Attached : (t u : ℕ) (l : Label) → a ≡ Does t events.End → b ≡ Notes u (Attach l) → Linked a b

abbrev pub IsOrdered : Span → Span → Type 0
IsOrdered s u = Linked s.moment.item u.moment.item → s.hi ≤ u.lo

one_thread : (t u : ℕ) (a : Item) → IsBy t a → IsBy u a → t ≡ u
one_thread t u (Does v e) p q = sym p ∙ q
one_thread t u (Notes v n) p q = sym p ∙ q
one_thread t u NewEra p q = absurd p
one_thread t u Past p q = absurd p

-- what begins an era, or is no item, is in no pair
none_from : (b : Item) → Linked NewEra b → ⊥
none_from b (Own t p q) = p
none_from b (Channel t u addr part replaces p q) = cc
none_from b (Created t child p q) = cc
none_from b (Joined child t p q) = cc
none_from b (Attached t u l p q) = cc

none_to : (a : Item) → Linked a NewEra → ⊥
none_to a (Own t p q) = q
none_to a (Channel t u addr part replaces p q) = cc
none_to a (Created t child p q) = cc
none_to a (Joined child t p q) = cc
none_to a (Attached t u l p q) = cc

none_past : (a : Item) → Linked a Past → ⊥
none_past a (Own t p q) = q
none_past a (Channel t u addr part replaces p q) = cc
none_past a (Created t child p q) = cc
none_past a (Joined child t p q) = cc
none_past a (Attached t u l p q) = cc

few_stripes : (addr : ℕ) → stripe addr ≤ desk
few_stripes addr = omega arith

-- ---- of two entries

module _ (x y : Timing) (s u : Span) (hs : IsSpanOf x s) (hu : IsSpanOf y u) where
  -- two turns of one object
  at_object : (k : ℕ) → IsSoonerInRound x y → item_at s.moment.item ≡ Some k → item_at u.moment.item ≡ Some k → k ≤ desk → s.hi ≤ u.lo
  at_object k r p q l =
      let a = hs.place k p in
      let b = hu.place k q in
      let c = r.object (a ∙ sym b) (omega (arith, a, l)) in
      let d = hs.given k p in
      let e = hu.taken k q in
      omega arith

  in_round : IsSoonerInRound x y → Linked s.moment.item u.moment.item → s.hi ≤ u.lo
  in_round r (Own t p q) =
      let a = one_thread t x.entry.tid s.moment.item p hs.by in
      let b = one_thread t y.entry.tid u.moment.item q hu.by in
      let c = r.thread (sym a ∙ b) in
      let d = hs.to in
      let e = hu.from in
      omega arith
  in_round r (Channel t v addr part replaces p q) = at_object (stripe addr) r (ap item_at p) (ap item_at q) (few_stripes addr)
  in_round r (Joined child t p q) = at_object desk r (ap item_at p) (ap item_at q) (omega arith)
  in_round r (Attached t v l p q) = at_object desk r (ap item_at p) (ap item_at q) (omega arith)
  in_round r (Created t child p q) = absurd (r.created child (hs.created t child p)
      (one_thread child y.entry.tid u.moment.item (subst (IsBy child) (sym q) refl) hu.by))

  of_entries : IsSoonerEntry x y → IsOrdered s u
  of_entries (inl r) l = in_round r l
  of_entries (inr r) l = let a = hs.to in let b = r.over in let c = hu.from in omega arith

-- ---- all of them

-- the spans are those of the history's moments
eras_are : (n i round : ℕ) → map (λ (s : Span). s.moment) (replicate n (era_span i round)) ≡ replicate n (era_span i round).moment
eras_are zero i round = refl
eras_are (suc n) i round = ap (λ (ms : List Moment). (era_span i round).moment ∷ ms) (eras_are n i round)

events_are : (i : ℕ) (x : Timing) (qs : List (ℕ × Event)) → map (λ (s : Span). s.moment) (map (event_span i x) qs) ≡ map (event_moment i x.entry) qs
events_are i x [] = refl
events_are i x (q ∷ qs) = ap (λ (ms : List Moment). event_moment i x.entry q ∷ ms) (events_are i x qs)

moments_are : (era i : ℕ) (xs : List Timing) → map (λ (s : Span). s.moment) (spans_from era i xs) ≡ moments_from era i (entries_timed xs)
moments_are era i [] = refl
moments_are era i (x ∷ xs) =
    let moment_of : Span → Moment = λ s. s.moment in
    map-append moment_of (replicate (x.entry.era - era) (era_span i x.entry.round)) (entry_spans i x ++ spans_from x.entry.era (i + 1) xs)
    ∙ ap₂ (λ (ms ns : List Moment). ms ++ ns) (eras_are (x.entry.era - era) i x.entry.round)
    (map-append moment_of (entry_spans i x) (spans_from x.entry.era (i + 1) xs)
    ∙ ap₂ (λ (ms ns : List Moment). ms ++ ns)
    (ap (λ (ms : List Moment). (note_span i x).moment ∷ ms) (events_are i x (enumerate_from 0 x.entry.events)))
    (moments_are x.entry.era (i + 1) xs))

pub moment_of_span : (xs : List Timing) (n : ℕ) → moment_at (moments (entries_timed xs)) n ≡ (span_at (spans xs) n).moment
moment_of_span xs n =
    ap (λ (h : List Moment). moment_at h n) (sym (moments_are 0 0 xs)) ∙ map_index (λ (s : Span). s.moment) no_span (spans xs) n

-- the span of a moment of one of the entries
pub record IsOfEntry (xs : List Timing) (s : Span) : Type 0 where
  pub timing : Timing
  pub number : ℕ
  pub among : In timing xs
  pub at : In s (entry_spans number timing)
  pub is : IsSpanOf timing s

-- and one that begins an era
pub record IsOfEra (s : Span) : Type 0 where
  pub number : ℕ
  pub round : ℕ
  pub is : s ≡ era_span number round

abbrev pub IsOfOne : List Timing → Span → Type 0
IsOfOne xs s = IsOfEntry xs s ⊎ IsOfEra s

more_entries : (x : Timing) (xs : List Timing) (s : Span) → IsOfOne xs s → IsOfOne (x ∷ xs) s
more_entries x xs s (inl o) = inl (record { timing = o.timing; number = o.number; among = inr o.among; at = o.at; is = o.is })
more_entries x xs s (inr e) = inr e

eras_each : (P : Span → Type 0) (n i round : ℕ) → P (era_span i round) → Each P (replicate n (era_span i round))
eras_each P zero i round p = tt
eras_each P (suc n) i round p = (p, eras_each P n i round p)

era_left : (s u : Span) (i round : ℕ) → s ≡ era_span i round → IsOrdered s u
era_left s u i round e l = absurd (none_from u.moment.item (subst (λ (z : Span). Linked z.moment.item u.moment.item) e l))

era_right : (s u : Span) (i round : ℕ) → u ≡ era_span i round → IsOrdered s u
era_right s u i round e l = absurd (none_to s.moment.item (subst (λ (z : Span). Linked s.moment.item z.moment.item) e l))

eras_order : (n i round : ℕ) → InOrder IsOrdered (replicate n (era_span i round))
eras_order zero i round = tt
eras_order (suc n) i round = (
  eras_each (IsOrdered (era_span i round)) n i round
      (era_left (era_span i round) (era_span i round) i round refl),
  eras_order n i round,
)

is_era : (s : Span) (n i round : ℕ) → In s (replicate n (era_span i round)) → s ≡ era_span i round
is_era s zero i round m = absurd m
is_era s (suc n) i round (inl e) = e
is_era s (suc n) i round (inr m) = is_era s n i round m

module _ (past : tables.Past) where
  -- each span is of an entry or begins an era
  pub all_spans : (era i : ℕ) (xs : List Timing) → Each (IsTiming past) xs → Each (IsOfOne xs) (spans_from era i xs)
  all_spans era i [] h = tt
  all_spans era i (x ∷ xs) h =
      each_append (IsOfOne (x ∷ xs)) (replicate (x.entry.era - era) (era_span i x.entry.round)) (entry_spans i x ++ spans_from x.entry.era (i + 1) xs)
      (eras_each (IsOfOne (x ∷ xs)) (x.entry.era - era) i x.entry.round (inr (record { number = i; round = x.entry.round; is = refl })))
      (each_append (IsOfOne (x ∷ xs)) (entry_spans i x) (spans_from x.entry.era (i + 1) xs)
      (all_members (IsOfOne (x ∷ xs)) (entry_spans i x)
      (λ s m. inl (record { timing = x; number = i; among = inl refl; at = m; is = at_member (IsSpanOf x) s (entry_spans i x) (spans_are past x h.0 i) m })))
      (all_members (IsOfOne (x ∷ xs)) (spans_from x.entry.era (i + 1) xs)
      (λ s m. more_entries x xs s (at_member (IsOfOne xs) s (spans_from x.entry.era (i + 1) xs) (all_spans x.entry.era (i + 1) xs h.1) m))))

  -- an entry's span before one of those that follow
  before_later : (x : Timing) (xs : List Timing) (s u : Span) → Each (IsSoonerEntry x) xs → IsSpanOf x s → IsOfOne xs u → IsOrdered s u
  before_later x xs s u h is (inl o) = of_entries x o.timing s u is o.is (at_member (IsSoonerEntry x) o.timing xs h o.among)
  before_later x xs s u h is (inr e) = era_right s u e.number e.round e.is

  spans_in_order : (era i : ℕ) (xs : List Timing) → Each (IsTiming past) xs → InOrder IsSoonerEntry xs → InOrder IsOrdered (spans_from era i xs)
  spans_in_order era i [] h o = tt
  spans_in_order era i (x ∷ xs) h o =
      let eras = replicate (x.entry.era - era) (era_span i x.entry.round) in
      let rest = spans_from x.entry.era (i + 1) xs in
      order_append IsOrdered eras (entry_spans i x ++ rest)
      (eras_order (x.entry.era - era) i x.entry.round)
      (order_append IsOrdered (entry_spans i x) rest
      (order_as (λ (s u : Span). s.hi ≤ u.lo) IsOrdered (entry_spans i x) (λ s u m n l k. l) (spans_order past x h.0 i))
      (spans_in_order x.entry.era (i + 1) xs h.1 o.1)
      (λ s u m n. before_later x xs s u o.0 (at_member (IsSpanOf x) s (entry_spans i x) (spans_are past x h.0 i) m)
      (at_member (IsOfOne xs) u rest (all_spans x.entry.era (i + 1) xs h.1) n)))
      (λ s u m n. era_left s u i x.entry.round (is_era s (x.entry.era - era) i x.entry.round m))

  module _ (xs : List Timing) (h : Each (IsTiming past) xs) (o : InOrder IsSoonerEntry xs) where
    in_order_at : (i j : ℕ) → i < j → Linked (items (moments (entries_timed xs)) i) (items (moments (entries_timed xs)) j) → (span_at (spans xs) i).hi ≤
        (span_at (spans xs) j).lo
    in_order_at i j l k =
        order_index IsOrdered no_span (spans xs) i j l (spans_in_order 0 0 xs h o) (λ s z. absurd (none_past s.moment.item z))
        (subst (λ (m : Moment). Linked (span_at (spans xs) i).moment.item m.item) (moment_of_span xs j)
        (subst (λ (m : Moment). Linked m.item (items (moments (entries_timed xs)) j)) (moment_of_span xs i) k))

    one_span : (s : Span) → IsOfOne xs s → s.lo ≤ s.hi
    one_span s (inl e) = e.is.order
    one_span s (inr e) = subst (λ (z : Span). z.lo ≤ z.hi) (sym e.is) (omega arith)

    -- the items have times
    pub are_timed : AreTimed (items (moments (entries_timed xs))) (λ (i : ℕ). (span_at (spans xs) i).lo) (λ (i : ℕ). (span_at (spans xs) i).hi)
    are_timed = record {
      span = λ i. each_index (λ (s : Span). s.lo ≤ s.hi) no_span (spans xs) i
          (all_members (λ (s : Span). s.lo ≤ s.hi) (spans xs) (λ s m. one_span s (at_member (IsOfOne xs) s (spans xs) (all_spans 0 0 xs h) m))) (omega arith);
      program = λ i j t l p q. in_order_at i j l (Own t p q);
      channel = λ i j t u addr part replaces l p q. in_order_at i j l (Channel t u addr part replaces p q);
      created = λ i j t child l p q. in_order_at i j l (Created t child p q);
      joined = λ i j child t l p q. in_order_at i j l (Joined child t p q);
      attached = λ i j t u label l p q. in_order_at i j l (Attached t u label p q);
    }
