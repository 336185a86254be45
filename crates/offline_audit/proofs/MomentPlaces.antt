-- Where the moments of an entry stand, and what stands there.
use Rattle.std.proofs.Common.{◌≡◌, ℕ, zero, suc, ◌+◌, ◌-◌, ◌<◌, ◌≤◌, Bool, true, false, if◌then◌else◌, List, [], ◌∷◌, ◌++◌, length, map, get_or, Some, refl, sym, ap, ◌∙◌, subst, inl, inr, arith, append_assoc, length-append, take}
use Rattle.std.specs.Prelude.{slice_get, slice_index_or, drop, replicate, ◌^◌}
use Rattle.std.specs.List.{enumerate_from}
use Rattle.std.proofs.lemmas.Bool.{cases_lt}
use Rattle.std.proofs.lemmas.List.{get_or-append-add, get_or-replicate, get_or_default, take-append-drop, length-replicate, length-map}
use Rattle.std.proofs.lemmas.List.FromFn.{get_or-enumerate_from, length-enumerate_from}
use Rattle.std.proofs.lemmas.Option.{get_or_from_slice_get, slice_get_cases}
use Rattle.std.proofs.Math.ListN.{get_or-append, get_or-map, get_or-eq_default}
use Rattle.std.proofs.Math.Seq.{take-suc, get_or-append_seam}
use Rattle.run_record.specs.declared.event.Event.{Event}
use Rattle.run_record.specs.declared.entry.Entry.{Entry}
use Rattle.run_laws.specs.Moments.{Item, Does, Notes, NewEra, Past, Moment, moments, moments_from, moments_in, last_era, items, entry_moments, event_moment}
use Rattle.run_laws.proofs.MomentsLaw.{moments-push, moments_from-append, era_after}
use Rattle.offline_audit.specs.declared.known.Known.{Known}
use Rattle.offline_audit.specs.declared.order.Row.{Row}
use Rattle.offline_audit.specs.Known.{AreNumbers, Stands, steps_between, told}
use Rattle.offline_audit.specs.declared.order.EventName.{EventName}
use Rattle.run_laws.specs.Clocks.{Place}
use Rattle.std.specs.BTreeMap.{BTreeMap}
use Rattle.offline_audit.specs.Mutexes.{awaited, awaited_after, AreAwaited}
use Rattle.offline_audit.specs.Orders.{IsAt, start_of, is_event, events_before, Makes, AreRows}
use Rattle.offline_audit.proofs.StandsLaw.{quiet_stands}

abbrev past : Moment
past = record { entry = 0; round = 0; item = Past; checks = [] }

-- the numbers of events
pub events_before-next : (h : ℕ → Item) (n : ℕ) → events_before h (suc n) ≡ events_before h n + (if is_event (h n) then 1 else 0)
unfolding events_before
events_before-next h n = refl

pub events_before-start : (h : ℕ → Item) → events_before h 0 ≡ 0
unfolding events_before
events_before-start h = refl

one_more : (h : ℕ → Item) (n : ℕ) (it : Item) → h n ≡ it → events_before h (suc n) ≡ events_before h n + (if is_event it then 1 else 0)
one_more h n it e = events_before-next h n ∙ ap (λ (x : Item). events_before h n + (if is_event x then 1 else 0)) e

pub are_numbers : (h : ℕ → Item) → AreNumbers h (events_before h)
are_numbers h = record {
  rise = λ n t e f. let a = one_more h n (Does t e) f in omega arith;
  never_fall = λ n. let a = events_before-next h n in omega arith;
}

-- the same where some events are left out
pub numbers_of : (h g : ℕ → Item) → ((n t : ℕ) (v : Event) → g n ≡ Does t v → h n ≡ Does t v) → AreNumbers g (events_before h)
numbers_of h g sub = record {
  rise = λ n t e f. (are_numbers h).rise n t e (sub n t e f);
  never_fall = (are_numbers h).never_fall;
}

pub awaited-next : (h : ℕ → Item) (n t : ℕ) → awaited h (suc n) t ≡ awaited_after t (h n) (awaited h n t)
unfolding awaited
awaited-next h n t = refl

pub awaited-start : (h : ℕ → Item) (t : ℕ) → awaited h 0 t ≡ 0
unfolding awaited
awaited-start h t = refl

no_change : (it : Item) → is_event it ≡ false → (t k : ℕ) → awaited_after t it k ≡ k
no_change (Does u e) f t k = absurd (cc)
no_change (Notes u note) f t k = refl
no_change NewEra f t k = refl
no_change Past f t k = refl

-- events of one thread that follow one another have numbers that do
pub numbers_follow : (h : ℕ → Item) (number : ℕ → ℕ) → AreNumbers h number → (n t : ℕ) (es : List Event) → Makes h n t es → (d : Event) (x : ℕ) →
    x ≤ length es → number (n + x) ≡ number n + x
numbers_follow h number nums n t es makes d zero l = let e : n + 0 ≡ n = omega arith in let a = ap number e in omega arith
numbers_follow h number nums n t es makes d (suc x) l =
    let r = numbers_follow h number nums n t es makes d x (omega arith) in
    let a = nums.rise (n + x) t (slice_index_or es x d) (makes x d (omega arith)) in
    let e : n + suc x ≡ suc (n + x) = omega arith in
    let b = ap number e in
    omega arith

no_event : (b : Bool) → b ≡ false → (n m : ℕ) → m ≡ n + (if b then 1 else 0) → m ≡ n
no_event true e n m q = absurd (cc)
no_event false e n m q = omega arith

middle : (a x r : List Moment) (n : ℕ) → n < length x → get_or (a ++ (x ++ r)) (length a + n) past ≡ get_or x n past
middle a x r n l = get_or-append-add a (x ++ r) n past ∙ get_or-append x r past n l

module _ (entries : List Entry) (k : ℕ) (e : Entry) (l : k < length entries) (is : slice_get entries k ≡ Some e) where
  abbrev before : List Entry
  before = take k entries

  abbrev rest : List Moment
  rest = moments_from (era_after 0 (take (suc k) entries)) (0 + length (take (suc k) entries)) (drop (suc k) entries)

  taken : take (suc k) entries ≡ before ++ e ∷ []
  taken = take-suc entries k e l ∙ ap (λ (d : Entry). before ++ d ∷ []) (get_or_from_slice_get entries k e e is)

  abbrev start : ℕ
  start = start_of entries k e

  through : moments (take (suc k) entries) ≡ moments_in e.round e.era before ++ entry_moments (length before) e
  through = ap moments taken ∙ moments-push before e

  whole : moments entries ≡ moments_in e.round e.era before ++ (entry_moments (length before) e ++ rest)
  whole =
      ap moments (sym (take-append-drop (suc k) entries))
      ∙ (moments_from-append 0 0 (take (suc k) entries) (drop (suc k) entries)
      ∙ (ap (λ (ms : List Moment). ms ++ rest) through
      ∙ append_assoc (moments_in e.round e.era before) (entry_moments (length before) e) rest))

  abbrev era : Moment
  era = record { entry = length before; round = e.round; item = NewEra; checks = [] }

  abbrev eras : ℕ
  eras = e.era - last_era before

  whole_eras : moments entries ≡ moments before ++ (replicate eras era ++ (entry_moments (length before) e ++ rest))
  whole_eras = whole ∙ append_assoc (moments before) (replicate eras era) (entry_moments (length before) e ++ rest)

  pub at_era : (j : ℕ) → j < eras → items (moments entries) (length (moments before) + j) ≡ NewEra
  at_era j m =
      ap (λ (ms : List Moment). (get_or ms (length (moments before) + j) past).item) whole_eras
      ∙ (ap (λ (x : Moment). x.item) (middle (moments before) (replicate eras era) (entry_moments (length before) e ++ rest) j (let r = length-replicate eras era in omega arith))
      ∙ ap (λ (x : Moment). x.item) (get_or-replicate eras j era past m))

  pub length_eras : length (moments_in e.round e.era before) ≡ length (moments before) + eras
  length_eras = length-append (moments before) (replicate eras era) ∙ ap (λ (n : ℕ). length (moments before) + n) (length-replicate eras era)

  length_entry : length (entry_moments (length before) e) ≡ suc (length e.events)
  length_entry = ap suc (length-map (enumerate_from 0 e.events) (event_moment (length before) e) ∙ length-enumerate_from 0 e.events)

  at_entry : (n : ℕ) → n < suc (length e.events) →
      items (moments entries) (length (moments_in e.round e.era before) + n) ≡ (get_or (entry_moments (length before) e) n past).item
  at_entry n m =
      ap (λ (ms : List Moment). (get_or ms (length (moments_in e.round e.era before) + n) past).item) whole
      ∙ ap (λ (x : Moment). x.item) (middle (moments_in e.round e.era before) (entry_moments (length before) e) rest n (let r = length_entry in omega arith))

  pub at_note : items (moments entries) (length (moments before) + eras) ≡ Notes e.tid e.note
  at_note =
      let q : length (moments before) + eras ≡ length (moments_in e.round e.era before) + 0 = let r = length_eras in omega arith in
      ap (items (moments entries)) q ∙ at_entry 0 (omega arith)

  -- the entry's events stand one after another
  pub makes : Makes (items (moments entries)) start e.tid e.events
  makes = λ x d m.
      let q : start + x ≡ length (moments_in e.round e.era before) + suc x = omega arith in
      let f = event_moment (length before) e in
      let es = enumerate_from 0 e.events in
      let a : x < length (map f es) = let r = length-map es f in let s = length-enumerate_from 0 e.events in omega arith in
      ap (items (moments entries)) q
      ∙ (at_entry (suc x) (omega arith)
      ∙ (ap (λ (y : Moment). y.item) (get_or_default (map f es) x past (f (0, d)) a ∙ get_or-map f es x (0, d))
      ∙ ap (λ (p : ℕ × Event). (event_moment (length before) e p).item) (get_or-enumerate_from 0 e.events x (0, d) m)))

  -- the next entry's moments begin after them
  pub next_start : length (moments (take (suc k) entries)) ≡ start + length e.events
  next_start =
      let a = ap (λ (ms : List Moment). length ms) through in
      let b = length-append (moments_in e.round e.era before) (entry_moments (length before) e) in
      let c = length_entry in
      omega arith

  not_event : (it : Item) → is_event it ≡ false → (t : ℕ) (v : Event) → it ≡ Does t v → ⊥
  not_event it f t v q = let a = subst (λ (x : Item). is_event x ≡ false) q f in cc

  still : (n : ℕ) (it : Item) → items (moments entries) n ≡ it → is_event it ≡ false → events_before (items (moments entries)) (suc n) ≡ events_before (items (moments entries)) n
  still n it q f =
      no_event (is_event it) f (events_before (items (moments entries)) n) (events_before (items (moments entries)) (suc n))
      (one_more (items (moments entries)) n it q)

  -- What stands at the moments before an entry goes on, also where some of the events are left out.
  module _ (g : ℕ → Item) (sub : (n t : ℕ) (v : Event) → g n ≡ Does t v → items (moments entries) n ≡ Does t v) where
    quiet : (n : ℕ) (it : Item) (known : Known) → items (moments entries) n ≡ it → is_event it ≡ false →
        Stands g (events_before (items (moments entries))) n known → Stands g (events_before (items (moments entries))) (suc n) known
    quiet n it known q f st =
        quiet_stands g (events_before (items (moments entries))) (numbers_of (items (moments entries)) g sub) n known known
        (λ t v x. not_event it f t v (sym q ∙ sub n t v x)) (st.count ∙ sym (still n it q f)) (λ t u. refl) (λ y u. refl) st

    eras_stand : (j : ℕ) (known : Known) → j ≤ eras → Stands g (events_before (items (moments entries))) (length (moments before)) known →
        Stands g (events_before (items (moments entries))) (length (moments before) + j) known
    eras_stand zero known m st =
        let q : length (moments before) + 0 ≡ length (moments before) = omega arith in
        subst (λ (n : ℕ). Stands g (events_before (items (moments entries))) n known) (sym q) st
    eras_stand (suc j) known m st =
        let q : length (moments before) + suc j ≡ suc (length (moments before) + j) = omega arith in
        subst (λ (n : ℕ). Stands g (events_before (items (moments entries))) n known) (sym q)
        (quiet (length (moments before) + j) NewEra known (at_era j (omega arith)) refl (eras_stand j known (omega arith) st))

    -- what stands before an entry stands where its events begin
    pub start_stands : (known : Known) → Stands g (events_before (items (moments entries))) (length (moments before)) known →
        Stands g (events_before (items (moments entries))) start known
    start_stands known st =
        let q : suc (length (moments before) + eras) ≡ start = let r = length_eras in omega arith in
        subst (λ (n : ℕ). Stands g (events_before (items (moments entries))) n known) q
        (quiet (length (moments before) + eras) (Notes e.tid e.note) known at_note refl (eras_stand eras known (omega arith) st))

  awaited_still : (n : ℕ) (it : Item) → items (moments entries) n ≡ it → is_event it ≡ false → (left : BTreeMap ℕ ℕ) →
      AreAwaited (items (moments entries)) n left → AreAwaited (items (moments entries)) (suc n) left
  awaited_still n it q f left a = λ t. a t ∙ sym (awaited-next (items (moments entries)) n t ∙ (ap (λ (x : Item). awaited_after t x (awaited (items (moments entries)) n t)) q ∙ no_change it f t (awaited (items (moments entries)) n t)))

  awaited_eras : (j : ℕ) (left : BTreeMap ℕ ℕ) → j ≤ eras → AreAwaited (items (moments entries)) (length (moments before)) left →
      AreAwaited (items (moments entries)) (length (moments before) + j) left
  awaited_eras zero left m a =
      let q : length (moments before) + 0 ≡ length (moments before) = omega arith in
      subst (λ (n : ℕ). AreAwaited (items (moments entries)) n left) (sym q) a
  awaited_eras (suc j) left m a =
      let q : length (moments before) + suc j ≡ suc (length (moments before) + j) = omega arith in
      subst (λ (n : ℕ). AreAwaited (items (moments entries)) n left) (sym q)
      (awaited_still (length (moments before) + j) NewEra (at_era j (omega arith)) refl left (awaited_eras j left (omega arith) a))

  -- the same of the events of mutexes
  pub start_awaited : (left : BTreeMap ℕ ℕ) → AreAwaited (items (moments entries)) (length (moments before)) left →
      AreAwaited (items (moments entries)) start left
  start_awaited left a =
      let q : suc (length (moments before) + eras) ≡ start = let r = length_eras in omega arith in
      subst (λ (n : ℕ). AreAwaited (items (moments entries)) n left) q
      (awaited_still (length (moments before) + eras) (Notes e.tid e.note) at_note refl left (awaited_eras eras left (omega arith) a))

  same_entry : (e' : Entry) → slice_get entries k ≡ Some e' → e ≡ e'
  same_entry e' q = let a = sym is ∙ q in cc

  -- one more row
  pub rows_more : (known : Known) (rows : List Row) → known.count + length e.events < 2 ^ 64 →
      known.count ≡ events_before (items (moments entries)) start →
      AreRows (events_before (items (moments entries))) entries k rows →
      AreRows (events_before (items (moments entries))) entries (suc k) (rows ++ record { tid = e.tid; first = known.count } ∷ [])
  rows_more known rows few count (len, each) = (
    omega (arith, length-append rows (record { tid = e.tid; first = known.count } ∷ [])),
    λ k' x e' d m q lx. elim (cases_lt k' k) [
      | inl b ↦
          let a = each k' x e' d b q lx in
          rw (get_or-append rows (record { tid = e.tid; first = known.count } ∷ []) d k' (omega arith)) a
      | inr b ↦
          let s : k' ≡ k = omega arith in
          last_row k' x e' d s (subst (λ (i : ℕ). slice_get entries i ≡ Some e') s q) lx
    ],
  )
    where
      last_row : (k' x : ℕ) (e' : Entry) (d : Row) → k' ≡ k → slice_get entries k ≡ Some e' → x < length e'.events →
          ((slice_index_or (rows ++ record { tid = e.tid; first = known.count } ∷ []) k' d).tid ≡ e'.tid)
          × ((slice_index_or (rows ++ record { tid = e.tid; first = known.count } ∷ []) k' d).first + x ≡ events_before (items (moments entries)) (start_of entries k' e' + x))
          × (events_before (items (moments entries)) (start_of entries k' e' + x) < 2 ^ 64)
      last_row k' x e' d s q lx =
          let same = same_entry e' q in
          let r : Row = record { tid = e.tid; first = known.count } in
          let seam : slice_index_or (rows ++ r ∷ []) k' d ≡ r = ap (λ (i : ℕ). slice_index_or (rows ++ r ∷ []) i d) (s ∙ sym len) ∙ get_or-append_seam rows r [] d in
          let lx' : x < length e.events = subst (λ (y : Entry). x < length y.events) (sym same) lx in
          let follow = numbers_follow (items (moments entries)) (events_before (items (moments entries))) (are_numbers (items (moments entries))) start e.tid e.events makes
          (slice_index_or e.events x (Rattle.run_record.specs.declared.event.Event.TheVariants.Begin)) x (omega arith) in
          let place : events_before (items (moments entries)) (start_of entries k' e' + x) ≡ events_before (items (moments entries)) (start + x) =
          ap (λ (y : Entry). events_before (items (moments entries)) (start_of entries k' y + x)) (sym same)
          ∙ ap (λ (i : ℕ). events_before (items (moments entries)) (start_of entries i e + x)) s in (
            ap (λ (y : Row). y.tid) seam ∙ ap (λ (y : Entry). y.tid) same,
            let f = ap (λ (y : Row). y.first) seam in omega arith,
            omega arith,
          )

-- the named event is made there by its entry's thread
pub made_at : (entries : List Entry) (name : EventName) (i : ℕ) (a : IsAt entries name i) → (v : Event) × (items (moments entries) i ≡ Does a.entry.tid v)
made_at entries name i a =
    let l : name.entry < length entries = elim (slice_get_cases entries name.entry).1 [
      | inl s ↦ s.1
      | inr s ↦ absurd (let q = sym a.listed ∙ s.1 in cc)
    ] in
    let none : Event = Rattle.run_record.specs.declared.event.Event.TheVariants.Begin in (
      slice_index_or a.entry.events name.event none,
      ap (items (moments entries)) a.place ∙ makes entries name.entry a.entry l a.listed name.event none a.within,
    )

-- past the end nothing happens
pub within : (entries : List Entry) (n t : ℕ) (e : Event) → items (moments entries) n ≡ Does t e → n < length (moments entries)
within entries n t e f = elim (cases_lt n (length (moments entries))) [
  | inl l ↦ l
  | inr l ↦ absurd (let q = sym (ap (λ (m : Moment). m.item) (get_or-eq_default (moments entries) past l)) ∙ f in cc)
]

-- nothing is known at first
pub nothing_stands : (g : ℕ → Item) (entries : List Entry) (known : Known) → known.count ≡ 0 → ((v u : ℕ) → steps_between known.threads v u ≡ []) →
    ((y : Place) (u : ℕ) → told known y u ≡ 0) →
    Stands g (events_before (items (moments entries))) 0 known
nothing_stands g entries known count steps places = record {
  count = count ∙ sym (events_before-start (items (moments entries)));
  places = λ y u i e f. (λ p. absurd (let l = p.early in omega arith), λ l. absurd (let z = places y u in omega arith));
  threads = λ t u d. rw (steps t u) (record {
    rising = λ i j d m l. absurd (omega arith);
    early = λ k d l. absurd (omega arith);
    now = λ i e f. (λ p. absurd (let l = p.early in omega arith), λ p. absurd (let l = p.1.1 in omega arith));
    before = λ m i f e l a b. absurd (omega arith);
  });
}
