-- Where the moments of entries stand in a history.
use Rattle.std.proofs.Common.{◌≡◌, ◌≢◌, ◌<◌, ◌≤◌, ◌+◌, ◌-◌, ℕ, zero, suc, List, [], ◌∷◌, ◌++◌, length, map, length-append, append_assoc, append-nil, inl, inr, refl, sym, ap, subst, ◌∙◌, arith}
use Rattle.std.specs.List.{enumerate_from}
use Rattle.std.proofs.lemmas.Bool.{cases_lt}
use Rattle.run_record.specs.declared.event.Event.{Event}
use Rattle.run_record.specs.declared.entry.DeskNote.{DeskNote}
use Rattle.run_record.specs.declared.entry.Entry.{Entry}
use Rattle.run_laws.specs.Moments.{Item, Does, Notes, NewEra, Past, IsBy, Moment, moment_at, items, moments, moments_from, moments_in, era_moments, entry_moments, event_moment, last_era}
use Rattle.run_laws.specs.DeskNotes.{IsNextEntry}
use Rattle.run_laws.proofs.MomentsLaw.{moments_from-append, moments-push}
use Rattle.turn_orders.specs.Lists.{Each}
use Rattle.turn_laws.proofs.Carry.{at_stay, at_end}
use Rattle.turn_laws.proofs.Shape.{IsQuiet, quiet_past, quiet_news, entry_or_past, at_right}

-- the history before an entry that follows those
abbrev pub before : List Entry → Entry → List Moment
before done e = moments_in e.round e.era done

-- and what follows it
abbrev pub later : List Entry → Entry → List Entry → List Moment
later done e rest = moments_from e.era (length done + 1) rest

pub parted : (done : List Entry) (e : Entry) (rest : List Entry) →
    moments (done ++ e ∷ rest) ≡ before done e ++ (entry_moments (length done) e ++ later done e rest)
parted done e rest =
    let z : 0 + length done ≡ length done = omega arith in
    moments_from-append 0 0 done (e ∷ rest)
    ∙ (ap (λ (k : ℕ). moments done ++ moments_from (last_era done) k (e ∷ rest)) z
    ∙ sym (append_assoc (moments done) (era_moments (last_era done) (length done) e.round e.era) (entry_moments (length done) e ++ later done e rest)))

-- a moment of the entry, by its place there
pub at_spot : (done : List Entry) (e : Entry) (rest : List Entry) (k : ℕ) → k < length (entry_moments (length done) e) →
    moment_at (moments (done ++ e ∷ rest)) (length (before done e) + k) ≡ moment_at (entry_moments (length done) e) k
at_spot done e rest k l =
    let n = length (before done e) + k in
    let q : n - length (before done e) ≡ k = omega arith in
    ap (λ (h : List Moment). moment_at h n) (parted done e rest)
    ∙ (at_right (before done e) (entry_moments (length done) e ++ later done e rest) n (omega arith)
    ∙ (ap (moment_at (entry_moments (length done) e ++ later done e rest)) q ∙ at_stay (entry_moments (length done) e) (later done e rest) k l))

-- ---- the moments of an entry

pub events_long : (i : ℕ) (e : Entry) (n : ℕ) (es : List Event) → length (map (event_moment i e) (enumerate_from n es)) ≡ length es
events_long i e n [] = refl
events_long i e n (x ∷ es) = ap suc (events_long i e (n + 1) es)

pub entry_long : (i : ℕ) (e : Entry) → length (entry_moments i e) ≡ suc (length e.events)
entry_long i e = ap suc (events_long i e 0 e.events)

-- the event at a place of its entry
pub record EventAt (i : ℕ) (e : Entry) (n : ℕ) (es : List Event) (k : ℕ) : Type 0 where
  pub first : List Event
  pub event : Event
  pub others : List Event
  pub whole : es ≡ first ++ event ∷ others
  pub place : length first ≡ k
  pub moment : moment_at (map (event_moment i e) (enumerate_from n es)) k ≡ event_moment i e (n + k, event)

pub event_at : (i : ℕ) (e : Entry) (n : ℕ) (es : List Event) (k : ℕ) → k < length es → EventAt i e n es k
event_at i e n [] k l = absurd (omega arith)
event_at i e n (x ∷ es) zero l =
    let z : n ≡ n + 0 = omega arith in
    record { first = []; event = x; others = es; whole = refl; place = refl; moment = ap (λ (m : ℕ). event_moment i e (m, x)) z }
event_at i e n (x ∷ es) (suc k) l =
    let r = event_at i e (n + 1) es k (omega arith) in
    let z : n + 1 + k ≡ n + suc k = omega arith in
    record {
      first = x ∷ r.first;
      event = r.event;
      others = r.others;
      whole = ap (λ (ys : List Event). x ∷ ys) r.whole;
      place = ap suc r.place;
      moment = r.moment ∙ ap (λ (m : ℕ). event_moment i e (m, r.event)) z;
    }

-- and the other way round
pub event_there : (i : ℕ) (e : Entry) (n : ℕ) (first : List Event) (event : Event) (others : List Event) →
    moment_at (map (event_moment i e) (enumerate_from n (first ++ event ∷ others))) (length first) ≡ event_moment i e (n + length first, event)
event_there i e n [] event others = let z : n ≡ n + 0 = omega arith in ap (λ (m : ℕ). event_moment i e (m, event)) z
event_there i e n (x ∷ first) event others =
    let z : n + 1 + length first ≡ n + suc (length first) = omega arith in
    event_there i e (n + 1) first event others ∙ ap (λ (m : ℕ). event_moment i e (m, event)) z

-- each moment of an entry is in its round
pub in_round : (i : ℕ) (e : Entry) (k : ℕ) → k < length (entry_moments i e) → (moment_at (entry_moments i e) k).round ≡ e.round
in_round i e zero l = refl
in_round i e (suc k) l =
    let m : k < length e.events = (let q = entry_long i e in omega (arith, l, q)) in
    let r = event_at i e 0 e.events k m in
    ap (λ (x : Moment). x.round) r.moment

-- ---- which moment is whose

not_by : (t : ℕ) (m : Moment) → IsQuiet m → IsBy t m.item → ⊥
not_by t m q b = go m.item refl b
  where
    go : (it : Item) → m.item ≡ it → IsBy t it → ⊥
    go (Does u e) z c = q.no_event u e z
    go (Notes u note) z c = q.no_note u note z
    go NewEra z c = c
    go Past z c = c

-- a place in the moments of an entry
pub record Spot (all : List Entry) (n : ℕ) : Type 0 where
  pub done : List Entry
  pub entry : Entry
  pub rest : List Entry
  pub whole : all ≡ done ++ entry ∷ rest
  pub offset : ℕ
  pub at : n ≡ length (before done entry) + offset
  pub inside : offset < length (entry_moments (length done) entry)

find : (done es : List Entry) (n t : ℕ) → IsBy t (items (moments (done ++ es)) n) → length (moments done) ≤ n → Spot (done ++ es) n
find done [] n t b l =
    let past = subst (λ (xs : List Entry). IsBy t (items (moments xs) n)) (append-nil done) b in
    absurd (not_by t (moment_at (moments done) n) (subst IsQuiet (sym (at_end (moments done) n l)) quiet_past) past)
find done (e ∷ es) n t b l = elim (cases_lt n (length (before done e))) [
  | inl era ↦
      let here : moment_at (moments (done ++ e ∷ es)) n ≡ moment_at (before done e) n =
      ap (λ (h : List Moment). moment_at h n) (parted done e es) ∙ at_stay (before done e) (entry_moments (length done) e ++ later done e es) n era in
      absurd (not_by t (moment_at (moments (done ++ e ∷ es)) n)
      (subst IsQuiet (sym here) (quiet_news (moments done) (last_era done) (length done) e.round e.era n l)) b)
  | inr after ↦ elim (cases_lt n (length (before done e) + length (entry_moments (length done) e))) [
    | inl own ↦ record {
      done = done;
      entry = e;
      rest = es;
      whole = refl;
      offset = n - length (before done e);
      at = omega (arith, after);
      inside = omega (arith, after, own);
    }
    | inr others ↦
        let same : (done ++ e ∷ []) ++ es ≡ done ++ e ∷ es = append_assoc done (e ∷ []) es in
        let long = ap (λ (h : List Moment). length h) (moments-push done e) in
        let sum = length-append (before done e) (entry_moments (length done) e) in
        subst (λ (xs : List Entry). Spot xs n) same
        (find (done ++ e ∷ []) es n t (subst (λ (xs : List Entry). IsBy t (items (moments xs) n)) (sym same) b) (omega (arith, others, long, sum)))
  ]
]

pub spot : (all : List Entry) (n t : ℕ) → IsBy t (items (moments all) n) → Spot all n
spot all n t b = find [] all n t b (omega arith)

-- an entry begins there
pub record Beginning (all : List Entry) (n t : ℕ) (note : DeskNote) : Type 0 where
  pub done : List Entry
  pub entry : Entry
  pub rest : List Entry
  pub whole : all ≡ done ++ entry ∷ rest
  pub at : n ≡ length (before done entry)
  pub thread : entry.tid ≡ t
  pub note_is : entry.note ≡ note

pub beginning : (all : List Entry) (n t : ℕ) (note : DeskNote) → items (moments all) n ≡ Notes t note → Beginning all n t note
beginning all n t note is =
    let s = spot all n t (subst (IsBy t) (sym is) refl) in
    let there : moment_at (moments all) n ≡ moment_at (entry_moments (length s.done) s.entry) s.offset =
    ap (λ (xs : List Entry). moment_at (moments xs) n) s.whole
    ∙ (ap (moment_at (moments (s.done ++ s.entry ∷ s.rest))) s.at ∙ at_spot s.done s.entry s.rest s.offset s.inside) in
    go s.offset s.done s.entry s.rest s.whole s.at s.inside (sym (ap (λ (m : Moment). m.item) there) ∙ is)
  where
    go : (k : ℕ) (done : List Entry) (e : Entry) (rest : List Entry) → all ≡ done ++ e ∷ rest → n ≡ length (before done e) + k →
        k < length (entry_moments (length done) e) → (moment_at (entry_moments (length done) e) k).item ≡ Notes t note → Beginning all n t note
    go zero done e rest whole at inside q = record {
      done = done;
      entry = e;
      rest = rest;
      whole = whole;
      at = omega (arith, at);
      thread = cc;
      note_is = cc;
    }
    go (suc k) done e rest whole at inside q =
        let m : k < length e.events = (let z = entry_long (length done) e in omega (arith, inside, z)) in
        let r = event_at (length done) e 0 e.events k m in
        let z : Does e.tid r.event ≡ Notes t note = sym (ap (λ (x : Moment). x.item) r.moment) ∙ q in
        absurd (cc)

-- a thread makes an event there
pub record Making (all : List Entry) (n t : ℕ) (event : Event) : Type 0 where
  pub done : List Entry
  pub entry : Entry
  pub rest : List Entry
  pub whole : all ≡ done ++ entry ∷ rest
  pub first : List Event
  pub others : List Event
  pub events : entry.events ≡ first ++ event ∷ others
  pub at : n ≡ length (before done entry) + suc (length first)
  pub thread : entry.tid ≡ t

pub making : (all : List Entry) (n t : ℕ) (event : Event) → items (moments all) n ≡ Does t event → Making all n t event
making all n t event is =
    let s = spot all n t (subst (IsBy t) (sym is) refl) in
    let there : moment_at (moments all) n ≡ moment_at (entry_moments (length s.done) s.entry) s.offset =
    ap (λ (xs : List Entry). moment_at (moments xs) n) s.whole
    ∙ (ap (moment_at (moments (s.done ++ s.entry ∷ s.rest))) s.at ∙ at_spot s.done s.entry s.rest s.offset s.inside) in
    go s.offset s.done s.entry s.rest s.whole s.at s.inside (sym (ap (λ (m : Moment). m.item) there) ∙ is)
  where
    go : (k : ℕ) (done : List Entry) (e : Entry) (rest : List Entry) → all ≡ done ++ e ∷ rest → n ≡ length (before done e) + k →
        k < length (entry_moments (length done) e) → (moment_at (entry_moments (length done) e) k).item ≡ Does t event → Making all n t event
    go zero done e rest whole at inside q = absurd (cc)
    go (suc k) done e rest whole at inside q =
        let m : k < length e.events = (let z = entry_long (length done) e in omega (arith, inside, z)) in
        let r = event_at (length done) e 0 e.events k m in
        let z : Does e.tid r.event ≡ Does t event = sym (ap (λ (x : Moment). x.item) r.moment) ∙ q in
        let same : r.event ≡ event = cc in
        let place = r.place in
        record {
          done = done;
          entry = e;
          rest = rest;
          whole = whole;
          first = r.first;
          others = r.others;
          events = r.whole ∙ ap (λ (x : Event). r.first ++ x ∷ r.others) same;
          at = omega (arith, at, place);
          thread = cc;
        }

-- ---- what stands at an entry's moments

pub begins_there : (done : List Entry) (e : Entry) (rest : List Entry) →
    moment_at (moments (done ++ e ∷ rest)) (length (before done e)) ≡ record { entry = length done; round = e.round; item = Notes e.tid e.note; checks = [] }
begins_there done e rest =
    let long = entry_long (length done) e in
    let z : length (before done e) ≡ length (before done e) + 0 = omega arith in
    ap (moment_at (moments (done ++ e ∷ rest))) z ∙ at_spot done e rest 0 (omega (arith, long))

pub makes_there : (done : List Entry) (e : Entry) (rest : List Entry) (first : List Event) (event : Event) (others : List Event) →
    e.events ≡ first ++ event ∷ others → items (moments (done ++ e ∷ rest)) (length (before done e) + suc (length first)) ≡ Does e.tid event
makes_there done e rest first event others is =
    let long = entry_long (length done) e in
    let more = ap (λ (xs : List Event). length xs) is in
    let sum = length-append first (event ∷ others) in
    ap (λ (m : Moment). m.item) (at_spot done e rest (suc (length first)) (omega (arith, long, more, sum)))
    ∙ (ap (λ (xs : List Event). (moment_at (map (event_moment (length done) e) (enumerate_from 0 xs)) (length first)).item) is
    ∙ ap (λ (m : Moment). m.item) (event_there (length done) e 0 first event others))

-- ---- the next entry of a thread

-- entries of other threads have no note of it
none_by : (era i : ℕ) (es : List Entry) (t k : ℕ) (note : DeskNote) → Each (λ (x : Entry). x.tid ≢ t) es →
    items (moments_from era i es) k ≡ Notes t note → ⊥
none_by era i [] t k note others is =
    let z : Past ≡ Notes t note = sym (ap (λ (m : Moment). m.item) (at_end [] k (omega arith))) ∙ is in absurd (cc)
none_by era i (e ∷ es) t k note others is =
    let eras = era_moments era i e.round e.era in
    let own = entry_moments i e in
    let rest = moments_from e.era (i + 1) es in
    elim (cases_lt k (length eras)) [
      | inl l ↦
          (quiet_news [] era i e.round e.era k (omega arith)).no_note t note (sym (ap (λ (m : Moment). m.item) (at_stay eras (own ++ rest) k l)) ∙ is)
      | inr l ↦
          let here : items (own ++ rest) (k - length eras) ≡ Notes t note = sym (ap (λ (m : Moment). m.item) (at_right eras (own ++ rest) k l)) ∙ is in
          elim (cases_lt (k - length eras) (length own)) [
            | inl m ↦
                let there : items own (k - length eras) ≡ Notes t note =
                sym (ap (λ (x : Moment). x.item) (at_stay own rest (k - length eras) m)) ∙ here in
                own_note (k - length eras) there
            | inr m ↦
                none_by e.era (i + 1) es t (k - length eras - length own) note others.1
                (sym (ap (λ (x : Moment). x.item) (at_right own rest (k - length eras) m)) ∙ here)
          ]
    ]
  where
    own_note : (j : ℕ) → items (entry_moments i e) j ≡ Notes t note → ⊥
    own_note zero q = others.0 (cc)
    own_note (suc j) q = elim (entry_or_past i e (suc j) (omega arith)) [
      | inl past ↦ let z : Past ≡ Notes t note = sym (ap (λ (m : Moment). m.item) past) ∙ q in absurd (cc)
      | inr event ↦ let z : Does e.tid event.event ≡ Notes t note = sym event.made ∙ q in absurd (cc)
    ]

module _ (done : List Entry) (e : Entry) (mid : List Entry) (f : Entry) (tail : List Entry) where
  abbrev through : List Entry
  through = done ++ e ∷ mid

  abbrev all : List Entry
  all = done ++ e ∷ (mid ++ f ∷ tail)

  pub whole_again : all ≡ through ++ f ∷ tail
  whole_again = sym (append_assoc done (e ∷ mid) (f ∷ tail))

  -- from a moment of the entry on, the next entry of its thread is that one
  pub next_entry : (k : ℕ) → k < length (entry_moments (length done) e) → Each (λ (x : Entry). x.tid ≢ e.tid) mid → f.tid ≡ e.tid → f.round ≡ e.round →
      IsNextEntry (moments all) (length (before done e) + k) e.tid (length (before through f)) f.note
  next_entry k inside others same round =
      let n = length (before done e) + k in
      let m = length (before through f) in
      let long : length (moments through) ≡ length (before done e) + (length (entry_moments (length done) e) + length (later done e mid)) =
      ap (λ (h : List Moment). length h) (parted done e mid)
      ∙ (length-append (before done e) (entry_moments (length done) e ++ later done e mid)
      ∙ ap (λ (j : ℕ). length (before done e) + j) (length-append (entry_moments (length done) e) (later done e mid))) in
      let most : m ≡ length (moments through) + length (era_moments (last_era through) (length through) f.round f.era) =
      length-append (moments through) (era_moments (last_era through) (length through) f.round f.era) in
      let there : moment_at (moments all) m ≡ record { entry = length through; round = f.round; item = Notes f.tid f.note; checks = [] } =
      ap (λ (xs : List Entry). moment_at (moments xs) m) whole_again ∙ begins_there through f tail in
      record {
        later = omega (arith, inside, long, most);
        begins = ap (λ (x : Moment). x.item) there ∙ ap (λ (t : ℕ). Notes t f.note) same;
        next = λ j other low high is.
            let at : moment_at (moments all) j ≡ moment_at (before through f) j =
            ap (λ (xs : List Entry). moment_at (moments xs) j) whole_again
            ∙ (ap (λ (h : List Moment). moment_at h j) (parted through f tail)
            ∙ at_stay (before through f) (entry_moments (length through) f ++ later through f tail) j high) in
            not_between j other (omega (arith, low)) (sym (ap (λ (x : Moment). x.item) at) ∙ is) others;
        same_round = ap (λ (x : Moment). x.round) there
            ∙ (round ∙ sym (ap (λ (x : Moment). x.round) (at_spot done e (mid ++ f ∷ tail) k inside) ∙ in_round (length done) e k inside));
      }
    where
      not_between : (j : ℕ) (other : DeskNote) → length (before done e) < j → items (before through f) j ≡ Notes e.tid other →
          Each (λ (x : Entry). x.tid ≢ e.tid) mid → ⊥
      not_between j other low is apart = elim (cases_lt j (length (moments through))) [
        | inr l ↦
            (quiet_news (moments through) (last_era through) (length through) f.round f.era j l).no_note e.tid other is
        | inl l ↦
            let inner : items (moments through) j ≡ Notes e.tid other =
            sym (ap (λ (x : Moment). x.item) (at_stay (moments through) (era_moments (last_era through) (length through) f.round f.era) j l)) ∙ is in
            let q = j - length (before done e) in
            let own = entry_moments (length done) e in
            let at : moment_at (moments through) j ≡ moment_at (own ++ later done e mid) q =
            ap (λ (h : List Moment). moment_at h j) (parted done e mid) ∙ at_right (before done e) (own ++ later done e mid) j (omega (arith, low)) in
            let here : items (own ++ later done e mid) q ≡ Notes e.tid other = sym (ap (λ (x : Moment). x.item) at) ∙ inner in
            elim (cases_lt q (length own)) [
              | inl m ↦ elim (entry_or_past (length done) e q (omega (arith, low))) [
                | inl past ↦
                    let z : Past ≡ Notes e.tid other = sym (ap (λ (x : Moment). x.item) (at_stay own (later done e mid) q m ∙ past)) ∙ here in absurd (cc)
                | inr event ↦
                    let z : Does e.tid event.event ≡ Notes e.tid other =
                    sym (ap (λ (x : Moment). x.item) (at_stay own (later done e mid) q m) ∙ event.made) ∙ here in absurd (cc)
              ]
              | inr m ↦
                  none_by e.era (length done + 1) mid e.tid (q - length own) other apart
                  (sym (ap (λ (x : Moment). x.item) (at_right own (later done e mid) q m)) ∙ here)
            ]
      ]
