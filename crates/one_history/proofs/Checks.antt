-- What stands before an event determines its checks; so entries with the same events after the same entries have the
-- same checks.
use Rattle.std.proofs.Common.{◌≡◌, ℕ, zero, suc, ◌+◌, ◌<◌, ◌≤◌, ◌%◌, ◌==◌, true, Option, Some, None, List, [], ◌∷◌, ◌++◌, append_assoc, length, map, refl, sym, ap, ap₂, subst, ◌∙◌, arith, eqb-true, inl, inr}
use Rattle.std.specs.Prelude.{All, Contains, flat_map, option_map, slice_index_or}
use Rattle.std.specs.List.{AllZip, enumerate_from}
use Rattle.std.proofs.Math.Seq.{get_or-append_seam}
use Rattle.std.proofs.lemmas.List.{ext_get_or, length-append}
use Rattle.std.proofs.lemmas.List.Elements.{All-head, All-tail, All-weaker, All-contains_itself, filter_passes}
use Rattle.std.proofs.lemmas.Option.{slice_get-get_or}
use Rattle.std.proofs.lemmas.Bool.{cases_eq}
use Rattle.run_record.specs.declared.event.Event.{Event}
use Rattle.run_record.specs.declared.entry.Check.{Check}
use Rattle.run_record.specs.declared.entry.Label.{Label}
use Rattle.run_record.specs.declared.entry.Entry.{Entry}
use Rattle.run_record.specs.declared.limits.Limits.{Limits}
use Rattle.run_laws.specs.Numbers.{up_from}
use Rattle.run_laws.specs.Moments.{Does, Notes, Moment, moment_at, moments, moments_in, moments_from, event_moment, checks_at}
use Rattle.run_laws.specs.Accesses.{Access, access_of, Part, parts_of}
use Rattle.run_laws.specs.Words.{word_of, cell_for}
use Rattle.run_laws.specs.Checks.{ChecksPart, AreChecks, StoresRightly, IsGrouped}
use Rattle.run_laws.specs.Faithful.{Bare}
use Rattle.run_laws.specs.Present.{label_now, trace_now, cell_now}
use Rattle.run_laws.proofs.PresentLaw.{trace_stay, cell_stay}
use Rattle.turn_laws.specs.SoFar.{IsLawfulSoFar}
use Rattle.turn_laws.specs.Going.{AreRightFrom, LoadsNow}
use Rattle.turn_laws.proofs.Carry.{past, label_stay}
use Rattle.one_history.proofs.Split.{moments-split}

zip_more : {A B : Type 0} (R Q : A → B → Type 0) (P : B → Type 0) (xs : List A) (ys : List B) → ((x : A) (y : B) → R x y → P y → Q x y) → AllZip R xs ys → All P ys → AllZip Q xs ys
zip_more R Q P [] [] f a p = a
zip_more R Q P [] (y ∷ ys) f a p = a
zip_more R Q P (x ∷ xs) [] f a p = a
zip_more R Q P (x ∷ xs) (y ∷ ys) f a p = (f x y a.0 (All-head P y ys p), zip_more R Q P xs ys f a.1 (All-tail P y ys p))

zip_same : {A B : Type 0} (R : A → B → Type 0) (xs : List A) (ys zs : List B) → ((x : A) (y z : B) → R x y → R x z → y ≡ z) → AllZip R xs ys → AllZip R xs zs → ys ≡ zs
zip_same R [] [] [] f a b = refl
zip_same R [] [] (z ∷ zs) f a b = absurd b
zip_same R [] (y ∷ ys) zs f a b = absurd a
zip_same R (x ∷ xs) [] zs f a b = absurd a
zip_same R (x ∷ xs) (y ∷ ys) [] f a b = absurd b
zip_same {B = B} R (x ∷ xs) (y ∷ ys) (z ∷ zs) f a b = ap₂ (λ (w : B) (ws : List B). w ∷ ws) (f x y z a.0 b.0) (zip_same R xs ys zs f a.1 b.1)

-- all that is known of a check of a part of thread t's access, the event of that place after these moments
record Known (g : ℕ) (h : List Moment) (place t : ℕ) (a : Access) (part : Part) (c : Check) : Type 0 where
  event : c.event ≡ place
  label : Label
  labelled : label_now g h t ≡ Some label
  granule : c.granule ≡ part.granule
  word : c.word ≡ word_of part.mask label a.read a.atomic
  turn : c.turn ≡ length (trace_now g h t) % 4
  four : length c.cells ≡ 4
  stored : StoresRightly c
  loaded : LoadsNow h c

known_same : (g : ℕ) (h : List Moment) (place t : ℕ) (a : Access) (part : Part) (c d : Check) → Known g h place t a part c → Known g h place t a part d → c ≡ d
known_same g h place t a part c d k l =
    λ i. record { event = event i; granule = granule i; word = word i; turn = turn i; cells = cells i; stored = stored i }
  where
    event : c.event ≡ d.event
    event = k.event ∙ sym l.event

    granule : c.granule ≡ d.granule
    granule = k.granule ∙ sym l.granule

    label : k.label ≡ l.label
    label = let q = sym k.labelled ∙ l.labelled in cc

    word : c.word ≡ d.word
    word = k.word ∙ (ap (λ (x : Label). word_of part.mask x a.read a.atomic) label ∙ sym l.word)

    turn : c.turn ≡ d.turn
    turn = k.turn ∙ sym l.turn

    cells : c.cells ≡ d.cells
    cells = ext_get_or 0 c.cells d.cells (k.four ∙ sym l.four) (λ i below.
        k.loaded i (slice_index_or c.cells i 0) (slice_get-get_or c.cells i 0 below)
        ∙ (ap (λ x. cell_now h x i) granule
        ∙ sym (l.loaded i (slice_index_or d.cells i 0) (slice_get-get_or d.cells i 0 (let x = k.four in let y = l.four in omega arith)))))

    stored : c.stored ≡ d.stored
    stored =
        k.stored
        ∙ (ap (λ w. option_map (λ (i : ℕ). (i, w)) (cell_for w c.cells c.turn)) word
        ∙ (ap (λ (xs : List ℕ). option_map (λ (i : ℕ). (i, d.word)) (cell_for d.word xs c.turn)) cells
        ∙ (ap (λ n. option_map (λ (i : ℕ). (i, d.word)) (cell_for d.word d.cells n)) turn ∙ sym l.stored)))

module _ (g : ℕ) (granule_of : ℕ → Option ℕ) where
  known : (h rest : List Moment) (m : Moment) (place t : ℕ) (a : Access) → AreRightFrom g granule_of (h ++ m ∷ rest) 0 →
      AreChecks g granule_of (h ++ m ∷ rest) (length h) t (Some a) → All (λ (c : Check). c.event ≡ place) m.checks →
      AllZip (Known g h place t a) (parts_of granule_of a) m.checks
  known h rest m place t a right checks events =
      zip_more (ChecksPart g (h ++ m ∷ rest) (length h) t a) (Known g h place t a) (λ (c : Check). (c.event ≡ place) × Contains m.checks c) (parts_of granule_of a) m.checks
      (λ part c p q.
      let there : Contains (moment_at (h ++ m ∷ rest) (length h)).checks c = subst (λ (x : Moment). Contains x.checks c) (sym here) q.1 in
      record {
        event = q.0;
        label = p.label;
        labelled = sym (label_stay g h (m ∷ rest) (length h) t (omega arith)) ∙ p.labelled;
        granule = p.granule;
        word = p.word;
        turn = p.turn ∙ ap (λ ts. length ts % 4) (trace_stay g h (m ∷ rest) (length h) t (omega arith));
        four = p.four;
        stored = right.stores (length h) c (omega arith) there;
        loaded = λ cell word s. right.loads (length h) c (omega arith) there cell word s ∙ cell_stay h (m ∷ rest) c.granule cell (length h) (omega arith);
      })
      (subst (λ (x : Moment). AllZip (ChecksPart g (h ++ m ∷ rest) (length h) t a) (parts_of granule_of a) x.checks) here checks)
      (λ j d l. (events j d l, All-contains_itself m.checks j d l))
    where
      here : moment_at (h ++ m ∷ rest) (length h) ≡ m
      here = get_or-append_seam h m rest past

  -- the checks of an event after the same moments are the same
  same_at : (h rest other : List Moment) (m k : Moment) (place t : ℕ) (e : Event) → AreRightFrom g granule_of (h ++ m ∷ rest) 0 → AreRightFrom g granule_of (h ++ k ∷ other) 0 →
      m.item ≡ Does t e → k.item ≡ Does t e → All (λ (c : Check). c.event ≡ place) m.checks → All (λ (c : Check). c.event ≡ place) k.checks → m.checks ≡ k.checks
  same_at h rest other m k place t e mine yours p q events others =
      by_access (access_of e)
      (mine.checks (length h) t e (omega arith) (ap (λ (x : Moment). x.item) here ∙ p))
      (yours.checks (length h) t e (omega arith) (ap (λ (x : Moment). x.item) there ∙ q))
    where
      here : moment_at (h ++ m ∷ rest) (length h) ≡ m
      here = get_or-append_seam h m rest past

      there : moment_at (h ++ k ∷ other) (length h) ≡ k
      there = get_or-append_seam h k other past

      by_access : (o : Option Access) → AreChecks g granule_of (h ++ m ∷ rest) (length h) t o → AreChecks g granule_of (h ++ k ∷ other) (length h) t o → m.checks ≡ k.checks
      by_access None a b = ap (λ (x : Moment). x.checks) (sym here) ∙ (a ∙ (sym b ∙ ap (λ (x : Moment). x.checks) there))
      by_access (Some a) x y =
          zip_same (Known g h place t a) (parts_of granule_of a) m.checks k.checks (λ part c d. known_same g h place t a part c d)
          (known h rest m place t a mine x events) (known h other k place t a yours y others)

  of_place : (place : ℕ) (cs : List Check) → All (λ (c : Check). c.event ≡ place) (checks_at place cs)
  of_place place cs = All-weaker (λ (c : Check). (c.event == place) ≡ true) (λ (c : Check). c.event ≡ place) (λ c q. eqb-true c.event place q) (checks_at place cs) (filter_passes (λ (c : Check). c.event == place) cs)

  events_same : (i : ℕ) (x y : Entry) → x.round ≡ y.round → x.tid ≡ y.tid → (h rest other : List Moment) (n : ℕ) (es : List Event) →
      AreRightFrom g granule_of (h ++ (map (event_moment i x) (enumerate_from n es) ++ rest)) 0 → AreRightFrom g granule_of (h ++ (map (event_moment i y) (enumerate_from n es) ++ other)) 0 →
      (j : ℕ) → n ≤ j → j < n + length es → checks_at j x.checks ≡ checks_at j y.checks
  events_same i x y r t h rest other n [] mine yours j a b = absurd (omega arith)
  events_same i x y r t h rest other n (e ∷ es) mine yours j a b = elim (cases_eq n j) [
    | inl q ↦ subst (λ k. checks_at k x.checks ≡ checks_at k y.checks) q first
    | inr d ↦
        events_same i x y r t (h ++ event_moment i y (n, e) ∷ []) rest other (n + 1) es
        (subst (λ (m : Moment). AreRightFrom g granule_of ((h ++ m ∷ []) ++ (map (event_moment i x) (enumerate_from (n + 1) es) ++ rest)) 0) one
        (subst (λ (ms : List Moment). AreRightFrom g granule_of ms 0) (sym (append_assoc h (event_moment i x (n, e) ∷ []) (map (event_moment i x) (enumerate_from (n + 1) es) ++ rest))) mine))
        (subst (λ (ms : List Moment). AreRightFrom g granule_of ms 0) (sym (append_assoc h (event_moment i y (n, e) ∷ []) (map (event_moment i y) (enumerate_from (n + 1) es) ++ other))) yours)
        j (omega arith) (omega arith)
  ]
    where
      first : checks_at n x.checks ≡ checks_at n y.checks
      first =
          same_at h (map (event_moment i x) (enumerate_from (n + 1) es) ++ rest) (map (event_moment i y) (enumerate_from (n + 1) es) ++ other) (event_moment i x (n, e)) (event_moment i y (n, e)) n x.tid e mine yours
          refl (ap (λ u. Does u e) (sym t)) (of_place n x.checks) (of_place n y.checks)

      one : event_moment i x (n, e) ≡ event_moment i y (n, e)
      one = λ k. record { entry = i; round = r k; item = Does (t k) e; checks = first k }

flat_map-same : (f f2 : ℕ → List Check) (k n : ℕ) → ((i : ℕ) → k ≤ i → i < k + n → f i ≡ f2 i) → flat_map f (up_from k n) ≡ flat_map f2 (up_from k n)
flat_map-same f f2 k zero s = refl
flat_map-same f f2 k (suc n) s = ap₂ (λ (xs ys : List Check). xs ++ ys) (s k (omega arith) (omega arith)) (flat_map-same f f2 (suc k) n (λ i a b. s i (omega arith) (omega arith)))

module _ {S : Type 0} (limits : Limits) (bare : Bare S) (granule_of : ℕ → Option ℕ) where
  right : (entries : List Entry) → IsLawfulSoFar limits bare granule_of entries → AreRightFrom limits.epochs granule_of (moments entries) 0
  right entries lawful = record {
    checks = λ n t e l q. lawful.checks.of_events n t e q;
    stores = λ n c l b. lawful.stores n c b;
    loads = λ n c l b cell word q. lawful.loads n c b cell word q;
  }

  right_split : (xs : List Entry) (x : Entry) (more : List Entry) → IsLawfulSoFar limits bare granule_of (xs ++ x ∷ more) → (h : List Moment) (m : Moment) → moments_in x.round x.era xs ≡ h →
      record { entry = length xs; round = x.round; item = Notes x.tid x.note; checks = [] } ≡ m →
      AreRightFrom limits.epochs granule_of ((h ++ m ∷ []) ++ (map (event_moment (length xs) x) (enumerate_from 0 x.events) ++ moments_from x.era (length xs + 1) more)) 0
  right_split xs x more lawful h m q r =
      subst (λ (ms : List Moment). AreRightFrom limits.epochs granule_of ms 0)
      (moments-split xs x more
      ∙ (ap₂ (λ (k : List Moment) (n : Moment). k ++ n ∷ (map (event_moment (length xs) x) (enumerate_from 0 x.events) ++ moments_from x.era (length xs + 1) more)) q r
      ∙ sym (append_assoc h (m ∷ []) (map (event_moment (length xs) x) (enumerate_from 0 x.events) ++ moments_from x.era (length xs + 1) more))))
      (right (xs ++ x ∷ more) lawful)

  grouped_at : (xs : List Entry) (x : Entry) (more : List Entry) → IsLawfulSoFar limits bare granule_of (xs ++ x ∷ more) → IsGrouped x
  grouped_at xs x more lawful = subst IsGrouped (get_or-append_seam xs x more x) (lawful.checks.grouped (length xs) x (omega (arith, length-append xs (x ∷ more))))

  -- two entries after the same ones, of the same round, era and thread, with the same note and events
  pub checks_same : (xs : List Entry) (x y : Entry) (more other : List Entry) → IsLawfulSoFar limits bare granule_of (xs ++ x ∷ more) → IsLawfulSoFar limits bare granule_of (xs ++ y ∷ other) →
      x.round ≡ y.round → x.era ≡ y.era → x.tid ≡ y.tid → x.note ≡ y.note → x.events ≡ y.events → x.checks ≡ y.checks
  checks_same xs x y more other mine yours r e t n es =
      grouped_at xs x more mine
      ∙ (flat_map-same (λ j. checks_at j x.checks) (λ j. checks_at j y.checks) 0 (length x.events) same
      ∙ (ap (λ (zs : List Event). flat_map (λ (j : ℕ). checks_at j y.checks) (up_from 0 (length zs))) es ∙ sym (grouped_at xs y other yours)))
    where
      m : Moment
      m = record { entry = length xs; round = y.round; item = Notes y.tid y.note; checks = [] }

      same : (j : ℕ) → 0 ≤ j → j < 0 + length x.events → checks_at j x.checks ≡ checks_at j y.checks
      same =
          events_same limits.epochs granule_of (length xs) x y r t (moments_in y.round y.era xs ++ m ∷ []) (moments_from x.era (length xs + 1) more) (moments_from y.era (length xs + 1) other) 0 x.events
          (right_split xs x more mine (moments_in y.round y.era xs) m (ap₂ (λ (r e : ℕ). moments_in r e xs) r e) (λ k. record { entry = length xs; round = r k; item = Notes (t k) (n k); checks = [] }))
          (subst (λ (zs : List Event). AreRightFrom limits.epochs granule_of ((moments_in y.round y.era xs ++ m ∷ []) ++ (map (event_moment (length xs) y) (enumerate_from 0 zs) ++ moments_from y.era (length xs + 1) other)) 0) (sym es)
          (right_split xs y other yours (moments_in y.round y.era xs) m refl refl))
