-- Each check loaded words that the rule allows.
use Rattle.std.proofs.Common.{◌≡◌, ◌≢◌, ◌<◌, ◌≤◌, ◌+◌, ◌-◌, ◌*◌, ◌⊎◌, inl, inr, ℕ, List, [], ◌∷◌, ◌++◌, length, map, Some, refl, sym, ap, subst, ◌∙◌, arith}
use Rattle.std.specs.Prelude.{Contains, Ok}
use Rattle.std.specs.List.{enumerate_from}
use Rattle.std.proofs.lemmas.Bool.{cases_eq}
use Rattle.elf_image.specs.File.{image_of, granule_of}
use Rattle.run_record.specs.declared.event.Event.{Event}
use Rattle.run_record.specs.declared.entry.Check.{Check}
use Rattle.run_laws.specs.Moments.{Moment, moment_at, items, moments}
use Rattle.run_laws.specs.Checks.{AreAllChecks, AllStoreRightly, IsGrouped}
use Rattle.run_laws.specs.Loads.{IsEarlier, Stored, FindsEmpty, FindsWord, LoadsRightly, AllLoadRightly}
use Rattle.cell_times.proofs.Order.{before}
use Rattle.turn_orders.specs.Lists.{In, InOrder}
use Rattle.turn_orders.proofs.Members.{at_member}
use Rattle.shared_table.specs.declared.view.Item.{Item}
use Rattle.shared_table.specs.declared.view.Item.TheVariants.{Load, Store}
use Rattle.shared_table.specs.declared.view.Layout.{Layout}
use Rattle.shared_table.specs.Past as tables
use Rattle.shared_table.specs.Past.{Lawful}
use Rattle.woven_turns.specs.Steps.{Stands}
use Rattle.woven_turns.specs.Cells.{LoadRule}
use Rattle.woven_turns.proofs.Loading.{Placed, load_rule}
use Rattle.woven_turns.proofs.Weaving.{in_left, in_right}
use Rattle.hart_parts.specs.Parts.{touches_of}
use Rattle.cell_loads.specs.Spans.{Step, Checked, steps_of, checked_at, Timing, entries_timed, Span, event_span, entry_spans, era_span, spans_from, spans}
use Rattle.cell_loads.specs.Spans.{no_span, span_at}
use Rattle.cell_loads.specs.Spans.{WasMade, IsChecked, IsTiming, IsSoonerEntry, AreTimings}
use Rattle.cell_loads.proofs.Lists.{in_flat, map_in, in_map, order_map, order_cases, in_index, index_in}
use Rattle.cell_loads.proofs.Times.{in_at}
use Rattle.cell_loads.proofs.Timed.{IsOfEntry, IsOfOne, all_spans, are_timed, moment_of_span}
use Rattle.cell_loads.proofs.Steps.{item_of, checked_steps}
use Rattle.cell_loads.proofs.Checks.{all_each, contains_in, in_contains, event_of_check, LoadOf, load_of, of_load, StoreOf, store_of, of_store, loads_first}
use Rattle.cell_loads.proofs.Checks.{RisesTo, AreParts, are_parts, IsFour, stores_below}

-- the event of that number
event_there : (k n : ℕ) (es : List Event) → k ≤ n → n < k + length es → (e : Event) × In (n, e) (enumerate_from k es)
event_there k n [] l m = absurd (omega arith)
event_there k n (e ∷ es) l m = elim (cases_eq k n) [
  | inl q ↦ (e, inl (ap (λ (i : ℕ). (i, e)) (sym q)))
  | inr q ↦ let r = event_there (k + 1) n es (omega arith) (omega arith) in (r.0, inr r.1)
]

-- the spans of an entry are among all
spans_there : (era i : ℕ) (x : Timing) (xs : List Timing) → In x xs → (j : ℕ) × ((s : Span) → In s (entry_spans j x) → In s (spans_from era i xs))
spans_there era i x [] m = absurd m
spans_there era i x (y ∷ xs) (inl e) = (
  i,
  λ s k.
      in_right s (Rattle.std.specs.Prelude.replicate (y.entry.era - era) (era_span i y.entry.round)) (entry_spans i y ++ spans_from y.entry.era (i + 1) xs)
      (in_left s (entry_spans i y) (spans_from y.entry.era (i + 1) xs) (subst (λ (z : Timing). In s (entry_spans i z)) e k)),
)
spans_there era i x (y ∷ xs) (inr m) = let r = spans_there y.entry.era (i + 1) x xs m in (
  r.0,
  λ s k.
      in_right s (Rattle.std.specs.Prelude.replicate (y.entry.era - era) (era_span i y.entry.round)) (entry_spans i y ++ spans_from y.entry.era (i + 1) xs)
      (in_right s (entry_spans i y) (spans_from y.entry.era (i + 1) xs) (r.1 s k)),
)

module _ (lay : Layout) (past : tables.Past) (lawful : Lawful lay past) (xs : List Timing) (t : AreTimings past xs) (file : List ℕ) (g : ℕ)
    (accepted : image_of file ≡ Ok file)
    (checks : AreAllChecks g (granule_of file) (entries_timed xs) (moments (entries_timed xs))) (stores : AllStoreRightly (moments (entries_timed xs))) where
  abbrev h : List Moment
  h = moments (entries_timed xs)

  -- the span of the moment at a position, and its steps
  abbrev at : ℕ → Span
  at n = span_at (spans xs) n

  abbrev steps_at : ℕ → List Step
  steps_at n = steps_of (at n).checked

  abbrev first : ℕ → ℕ
  first n = (at n).lo

  abbrev last : ℕ → ℕ
  last n = (at n).hi - 1

  of_one : (n : ℕ) → IsOfEntry xs (at n) ⊎ ((at n).checked ≡ [])
  of_one n = elim (index_in no_span (spans xs) n) [
    | inl i ↦ known (at_member (IsOfOne xs) (at n) (spans xs) (all_spans past 0 0 xs t.each) i)
    | inr e ↦ inr (ap (λ (s : Span). s.checked) e)
  ]
    where
      known : IsOfOne xs (at n) → IsOfEntry xs (at n) ⊎ ((at n).checked ≡ [])
      known (inl o) = inl o
      known (inr e) = inr (ap (λ (s : Span). s.checked) e.is)

  -- a moment with a step is one of an entry
  with_step : (n : ℕ) (u : Step) → In u (steps_at n) → IsOfEntry xs (at n)
  with_step n u i = elim (of_one n) [
    | inl o ↦ o
    | inr e ↦ absurd (subst (λ (cs : List Checked). In u (steps_of cs)) e i)
  ]

  -- what is so of a step at a position
  record StepAt (n : ℕ) (u : Step) : Type 0 where
    checked : Checked
    among : In checked (at n).checked
    its : In u checked.steps
    owner : Timing
    made : WasMade past owner.seat u
    is : IsChecked past owner checked
    from : first n ≤ u.1
    to : u.1 < (at n).hi

  step_at : (n : ℕ) (u : Step) → In u (steps_at n) → StepAt n u
  step_at n u i =
      let r = in_flat (λ (c : Checked). c.steps) u (at n).checked i in
      let o = with_step n u i in
      let k = o.is.steps r.0 u r.1 r.2 in
      let c = at_member (IsChecked past o.timing) r.0 o.timing.checked (at_member (IsTiming past) o.timing xs t.each o.among).checked (o.is.among r.0 r.1) in
      record {
        checked = r.0;
        among = r.1;
        its = r.2;
        owner = o.timing;
        made = at_member
            (WasMade past o.timing.seat) u r.0.steps c.made r.2;
        is = c;
        from = k.0;
        to = k.1;
      }

  -- the checks at a position
  checks_at_span : (n : ℕ) → map (λ (c : Checked). c.check) (at n).checked ≡ (moment_at h n).checks
  checks_at_span n = elim (index_in no_span (spans xs) n) [
    | inl i ↦ known (at_member (IsOfOne xs) (at n) (spans xs) (all_spans past 0 0 xs t.each) i) ∙ ap (λ (m : Moment). m.checks) (sym (moment_of_span xs n))
    | inr e ↦ ap (λ (s : Span). map (λ (c : Checked). c.check) s.checked) e ∙
        (ap (λ (s : Span). s.moment.checks) (sym e) ∙ ap (λ (m : Moment). m.checks) (sym (moment_of_span xs n)))
  ]
    where
      known : IsOfOne xs (at n) → map (λ (c : Checked). c.check) (at n).checked ≡ (at n).moment.checks
      known (inl o) = o.is.checks
      known (inr e) = ap (λ (s : Span). map (λ (c : Checked). c.check) s.checked) e.is ∙ ap (λ (s : Span). s.moment.checks) (sym e.is)

  check_there : (n : ℕ) (c : Checked) → In c (at n).checked → In c.check (moment_at h n).checks
  check_there n c i = subst (In c.check) (checks_at_span n) (map_in (λ (d : Checked). d.check) c (at n).checked i)

  there_check : (n : ℕ) (c : Check) → Contains (moment_at h n).checks c → (d : Checked) × In d (at n).checked × (c ≡ d.check)
  there_check n c k = in_map (λ (d : Checked). d.check) c (at n).checked (subst (In c) (sym (checks_at_span n)) (contains_in (moment_at h n).checks c k))

  parts_at : (n : ℕ) → AreParts (moment_at h n).checks
  parts_at n = are_parts file g accepted (entries_timed xs) checks n

  is_four : (n : ℕ) (c : Check) → In c (moment_at h n).checks → IsFour c
  is_four n c i = at_member IsFour c (moment_at h n).checks (parts_at n).each i

  -- the touches of a check at a position are steps there
  touch_there : (n : ℕ) (c : Checked) (x : Item) → In c (at n).checked → In x (touches_of c.check) → (p : ℕ) × In (x, p) (steps_at n)
  touch_there n c x i j = elim (of_one n) [
    | inr e ↦ absurd (subst (λ (cs : List Checked). In c cs) e i)
    | inl o ↦ owned o
  ]
    where
      owned : IsOfEntry xs (at n) → (p : ℕ) × In (x, p) (steps_at n)
      owned o = step (at_member (IsChecked past o.timing) c o.timing.checked (at_member (IsTiming past) o.timing xs t.each o.among).checked (o.is.among c i))
        where
          step : IsChecked past o.timing c → (p : ℕ) × In (x, p) (steps_at n)
          step k =
              let r = in_map item_of x c.steps (subst (In x) (sym k.touches) j) in
              (r.0.1, checked_steps c (x, r.0.1) (at n).checked i (subst (λ (z : Item). In (z, r.0.1) c.steps) (sym r.2) r.1))

  -- ---- the order of moments with steps

  in_rounds : (i j : ℕ) → IsOfEntry xs (at i) → IsOfEntry xs (at j) → (moment_at h i).round < (moment_at h j).round → (at i).hi ≤ (at j).lo
  in_rounds i j a b l = go (order_cases IsSoonerEntry a.timing b.timing xs t.order a.among b.among)
    where
      ri : (moment_at h i).round ≡ a.timing.entry.round
      ri = ap (λ (m : Moment). m.round) (moment_of_span xs i) ∙ a.is.round

      rj : (moment_at h j).round ≡ b.timing.entry.round
      rj = ap (λ (m : Moment). m.round) (moment_of_span xs j) ∙ b.is.round

      less : a.timing.entry.round < b.timing.entry.round
      less = let p = ri in let q = rj in omega arith

      go : (a.timing ≡ b.timing) ⊎ (IsSoonerEntry a.timing b.timing ⊎ IsSoonerEntry b.timing a.timing) → (at i).hi ≤ (at j).lo
      go (inl e) = absurd (let z = ap (λ (x : Timing). x.entry.round) e in let k = less in omega arith)
      go (inr (inl (inl r))) = absurd (let z = r.round in let k = less in omega arith)
      go (inr (inl (inr r))) = let z = r.over in let u = a.is.to in let v = b.is.from in omega arith
      go (inr (inr (inl r))) = absurd (let z = r.round in let k = less in omega arith)
      go (inr (inr (inr r))) = absurd (let z = r.round in let k = less in omega arith)

  earlier : (i j : ℕ) (u v : Step) → In u (steps_at i) → In v (steps_at j) → IsEarlier g h i j → last i < first j
  earlier i j u v m n (inl l) = let r = in_rounds i j (with_step i u m) (with_step j v n) l in let s = (step_at i u m).to in omega arith
  earlier i j u v m n (inr b) =
      let r = before g (items h) first (λ (k : ℕ). (at k).hi) (are_timed past xs t.each t.order) i j b in
      let s = (step_at i u m).to in
      omega arith

  -- ---- the load rule

  abbrev Loads : ℕ → ℕ → ℕ → ℕ → Type 0
  Loads n c w p = In (Load c w, p) (steps_at n)

  abbrev Stores : ℕ → ℕ → ℕ → ℕ → Type 0
  Stores n c w p = In (Store c w, p) (steps_at n)

  abbrev IsOver : ℕ → ℕ → Type 0
  IsOver i j = last i < first j

  placed_step : (n : ℕ) (x : Item) (p : ℕ) → In (x, p) (steps_at n) →
      (seat : ℕ) × (early : tables.Past) × Stands past early (seat, x) × (length early ≡ p) × (first n ≤ p) × (p ≤ last n)
  placed_step n x p i = let s = step_at n (x, p) i in let l = s.to in (s.owner.seat, s.made.early, s.made.stands, s.made.place, s.from, omega arith)

  -- each store of the past is one of a moment
  of_moment : (n c w : ℕ) (early : tables.Past) → Stands past early (n, Store c w) → (b : ℕ) × Stores b c w (length early)
  of_moment n c w early s = find (t.stores n c w early s)
    where
      find : (x : Timing) × In x xs × In (Store c w, length early) (steps_of x.checked) → (b : ℕ) × Stores b c w (length early)
      find r =
          let u : Step = (Store c w, length early) in
          let k = in_flat (λ (d : Checked). d.steps) u r.0.checked r.2 in
          let is = at_member (IsTiming past) r.0 xs t.each r.1 in
          let entry = map_in (λ (x : Timing). x.entry) r.0 xs r.1 in
          let grouped = at_member IsGrouped r.0.entry (entries_timed xs) (all_each IsGrouped (entries_timed xs) checks.grouped) entry in
          let within = event_of_check r.0.entry k.0.check grouped (subst (In k.0.check) is.checks (map_in (λ (d : Checked). d.check) k.0 r.0.checked k.1)) in
          let e = event_there 0 k.0.check.event r.0.entry.events (omega arith) (omega arith) in
          let there = spans_there 0 0 r.0 xs r.1 in
          let span = event_span there.0 r.0 (k.0.check.event, e.0) in
          let among = there.1 span (inr (map_in (event_span there.0 r.0) (k.0.check.event, e.0) (enumerate_from 0 r.0.entry.events) e.1)) in
          let b = in_index no_span span (spans xs) among in (
            b.0,
            subst (λ (z : Span). In u (steps_of z.checked)) (sym b.1)
                (checked_steps k.0 u (checked_at k.0.check.event r.0.checked) (in_at k.0.check.event k.0 r.0.checked k.1 refl) k.2),
          )

  -- a moment stores in a cell after it has loaded it
  own : (n c w v p q : ℕ) → Loads n c w p → Stores n c v q → p < q
  own n c w v p q i j = go (step_at n (Load c w, p) i) (step_at n (Store c v, q) j)
    where
      go : StepAt n (Load c w, p) → StepAt n (Store c v, q) → p < q
      go a b = both (order_cases (λ (d e : Checked). RisesTo d.check e.check) a.checked b.checked (at n).checked rises a.among b.among)
        where
          rises : InOrder (λ (d e : Checked). RisesTo d.check e.check) (at n).checked
          rises = order_map (λ (d : Checked). d.check) RisesTo (at n).checked (subst (InOrder RisesTo) (sym (checks_at_span n)) (parts_at n).rise)

          loaded : LoadOf a.checked.check c w
          loaded = load_of a.checked.check c w (subst (In (Load c w)) a.is.touches (map_in item_of (Load c w, p) a.checked.steps a.its))

          stored : StoreOf b.checked.check c v
          stored = store_of b.checked.check c v (subst (In (Store c v)) b.is.touches (map_in item_of (Store c v, q) b.checked.steps b.its))

          same : a.checked.check.granule ≡ b.checked.check.granule
          same =
              let x = loaded.is in
              let y = stored.is in
              let k = loaded.within in
              let f = (is_four n a.checked.check (check_there n a.checked a.among)).four in
              let fb = is_four n b.checked.check (check_there n b.checked b.among) in
              let l = stores_below b.checked.check stored.cell v fb
              (stores n b.checked.check (in_contains (moment_at h n).checks b.checked.check (check_there n b.checked b.among))) stored.stored in
              omega arith

          both : (a.checked ≡ b.checked) ⊎ (RisesTo a.checked.check b.checked.check ⊎ RisesTo b.checked.check a.checked.check) → p < q
          both (inl e) = loads_first a.checked.check a.checked.steps c c w v p q a.is.touches a.is.order a.its
              (subst (λ (d : Checked). In (Store c v, q) d.steps) (sym e) b.its)
          both (inr (inl l)) = absurd (let z = same in omega arith)
          both (inr (inr l)) = absurd (let z = same in omega arith)

  placed : Placed past Loads Stores IsOver first last
  placed = record {
    load = λ n c w p i. placed_step n (Load c w) p i;
    store = λ n c w p i. placed_step n (Store c w) p i;
    by = of_moment;
    own = own;
    apart = λ a b l. l;
  }

  -- ---- the rule of the history

  -- a store that a moment's checks tell is a step of it
  stored_step : (x granule cell word : ℕ) → Stored h x granule cell word → (q : ℕ) × Stores x (4 * granule + cell) word q
  stored_step x granule cell word s =
      let d = there_check x s.check s.among in
      let i = of_store s.check cell word s.stored in
      touch_there x d.0 (Store (4 * granule + cell) word) d.1
      (subst (λ (c : Check). In (Store (4 * granule + cell) word) (touches_of c)) d.2
      (subst (λ (k : ℕ). In (Store (4 * k + cell) word) (touches_of s.check)) s.on_granule i))

  -- and the other way round
  step_stored : (x granule cell word q : ℕ) → cell < 4 → Stores x (4 * granule + cell) word q → Stored h x granule cell word
  step_stored x granule cell word q low i = go (step_at x (Store (4 * granule + cell) word, q) i)
    where
      go : StepAt x (Store (4 * granule + cell) word, q) → Stored h x granule cell word
      go a = make (store_of a.checked.check (4 * granule + cell) word
          (subst (In (Store (4 * granule + cell) word)) a.is.touches (map_in item_of (Store (4 * granule + cell) word, q) a.checked.steps a.its)))
        where
          make : StoreOf a.checked.check (4 * granule + cell) word → Stored h x granule cell word
          make s =
              let there = check_there x a.checked a.among in
              let among = in_contains (moment_at h x).checks a.checked.check there in
              let l = stores_below a.checked.check s.cell word (is_four x a.checked.check there) (stores x a.checked.check among) s.stored in
              let e = s.is in
              let k : s.cell ≡ cell = omega arith in
              record {
                check = a.checked.check;
                among = among;
                on_granule = omega arith;
                stored = s.stored ∙ ap (λ (z : ℕ). Some (z, word)) k;
              }

  loads_rightly : (a : ℕ) (c : Check) → Contains (moment_at h a).checks c → LoadsRightly g h a c
  loads_rightly a c k cell word e = go (there_check a c k)
    where
      go : (d : Checked) × In d (at a).checked × (c ≡ d.check) → ((word ≡ 0) × FindsEmpty g h a c.granule cell) ⊎
          ((word ≢ 0) × FindsWord g h a c.granule cell word)
      go d = from (touch_there a d.0 (Load (4 * c.granule + cell) word) d.1
          (subst (λ (z : Check). In (Load (4 * c.granule + cell) word) (touches_of z)) d.2 (of_load c cell word e)))
        where
          from : (p : ℕ) × In (Load (4 * c.granule + cell) word, p) (steps_at a) → ((word ≡ 0) × FindsEmpty g h a c.granule cell) ⊎
              ((word ≢ 0) × FindsWord g h a c.granule cell word)
          from l = cases (load_rule lay past Loads Stores IsOver first last lawful placed a (4 * c.granule + cell) word l.0 l.1)
            where
              low : cell < 4
              low =
                  let f = (is_four a c (contains_in (moment_at h a).checks c k)).four in
                  let z = (load_of c (4 * c.granule + cell) word (of_load c cell word e)) in
                  let y = z.is in
                  let x = z.within in
                  omega arith

              cases : LoadRule Stores IsOver a (4 * c.granule + cell) word → ((word ≡ 0) × FindsEmpty g h a c.granule cell) ⊎
                  ((word ≢ 0) × FindsWord g h a c.granule cell word)
              cases r = elim (cases_eq word 0) [
                | inl z ↦ inl (
                  z,
                  λ x other s early.
                      let q = stored_step x c.granule cell other s in
                      r.0 z x other q.0 q.1 (earlier x a (Store (4 * c.granule + cell) other, q.0) (Load (4 * c.granule + cell) word, l.0) q.1 l.1 early),
                )
                | inr z ↦ inr (z, found (r.1 z))
              ]
                where
                  found : (b : ℕ) × (q : ℕ) × Stores b (4 * c.granule + cell) word q × (b ≢ a) × (IsOver a b → ⊥)
                      × ((s : ℕ) (v n : ℕ) → Stores s (4 * c.granule + cell) v n → IsOver b s → IsOver s a → ⊥) → FindsWord g h a c.granule cell word
                  found f = record {
                    source = f.0;
                    stored = step_stored f.0 c.granule cell word f.1 low f.2;
                    another = f.3;
                    not_later = λ early. f.4 (earlier a f.0 (Load (4 * c.granule + cell) word, l.0) (Store (4 * c.granule + cell) word, f.1) l.1 f.2 early);
                    not_overwritten = λ x other s later early.
                        let q = stored_step x c.granule cell other s in
                        f.5 x other q.0 q.1
                        (earlier f.0 x (Store (4 * c.granule + cell) word, f.1) (Store (4 * c.granule + cell) other, q.0) f.2 q.1 later)
                        (earlier x a (Store (4 * c.granule + cell) other, q.0) (Load (4 * c.granule + cell) word, l.0) q.1 l.1 early);
                  }

  pub all_load_rightly : AllLoadRightly g h
  all_load_rightly a c k = loads_rightly a c k
