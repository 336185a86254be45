-- The invariant goes on over an event.
use Rattle.std.proofs.Common.{◌≡◌, ℕ, suc, ◌+◌, ◌<◌, ◌≤◌, max, ◌⊎◌, true, false, ◌&&◌, Option, Some, None, refl, sym, ap, subst, inl, inr, le_trans, ◌∙◌, arith}
use Rattle.std.proofs.lemmas.Bool.{cases_eq, cases_Bool, and_parts, and_from, and_right}
use Rattle.run_record.specs.declared.event.Event.{Event}
use Rattle.run_laws.specs.Moments.{Item, Does}
use Rattle.run_laws.specs.Labels.{holds, is_end, raised, event_labels, next_labels, labels}
use Rattle.run_laws.specs.Clocks.{Place, taken_from, left_at, Spot, Of, Left, leaves, empties, clock_at, event_clocks, next_clocks, clocks}
use Rattle.run_laws.proofs.SlotSteps.{holds-true, holds-some, holds_cases, is_end-true, Publishes, leaves_publishes, slot_other, slot_kept, slot_end, raised_other, raised_stays, raised_lost, free_cases, max_cases, thread_here, thread_other, thread_grows, thread_takes, spot_grows, spot_takes, spot_from}
use Rattle.run_laws.proofs.Places.{is_place-true, one_way}
use Rattle.run_laws.proofs.SlotInvariant.{item_leaves, item_empties, does_thread, does_what, labels-next, clocks-next, Upto, Kept, Known, Under, Ends, Law, ends_more, taken_below, kept_from, kept_now, kept_cases, known_before, kept_before, before_cases}
use Rattle.run_laws.proofs.SlotInvariant.{Did, Got}

module _ (g : ℕ) (h : ℕ → Item) where
  -- an event
  module _ (n t : ℕ) (w : Event) (e : h n ≡ Does t w) (law : Law g h n) where
    labels_now : labels g h (suc n) ≡ event_labels g (labels g h n) t w
    labels_now = labels-next g h n ∙ ap (next_labels g (labels g h n)) e

    clocks_now : clocks g h (suc n) ≡ event_clocks g (labels g h n) (clocks g h n) t w
    clocks_now = clocks-next g h n ∙ ap (next_clocks g (labels g h n) (clocks g h n)) e

    era_now : (labels g h (suc n)).era ≡ (labels g h n).era
    era_now = ap (λ x. x.era) labels_now

    slot_back : (u s : ℕ) → (labels g h (suc n)).slot_of u ≡ Some s → (labels g h n).slot_of u ≡ Some s
    slot_back u s f = slot_kept g (labels g h n) t w u s (subst (λ x. x.slot_of u ≡ Some s) labels_now f)

    slot_stays : (u s : ℕ) → (u ≡ t → ⊥) → (labels g h n).slot_of u ≡ Some s → (labels g h (suc n)).slot_of u ≡ Some s
    slot_stays u s d f = ap (λ x. x.slot_of u) labels_now ∙ (slot_other g (labels g h n) t w u d ∙ f)

    epoch_now : (s : ℕ) → (labels g h (suc n)).epoch s ≡ (labels g h n).epoch s + raised g (labels g h n) t w s
    epoch_now s = ap (λ x. x.epoch s) labels_now

    leaves_now : (y : Spot) → item_leaves (labels g h n) (h n) y ≡ leaves (labels g h n) t w y
    leaves_now y = ap (λ x. item_leaves (labels g h n) x y) e

    empties_now : (y : Spot) → item_empties (labels g h n) (h n) y ≡ empties (labels g h n) t w y
    empties_now y = ap (λ x. item_empties (labels g h n) x y) e

    abbrev under_back : (s j : ℕ) → Under g h (suc n) s j → Under g h n s j
    under_back s j u = record { thread = u.thread; what = u.what; item = u.item; slot = u.slot; era = u.era ∙ era_now }

    -- the event itself, if it is under slot s
    here_slot : (s : ℕ) → Under g h (suc n) s n → (labels g h n).slot_of t ≡ Some s
    here_slot s u = subst (λ x. (labels g h n).slot_of x ≡ Some s) (does_thread u.thread t u.what w (sym u.item ∙ e)) u.slot

    here_what : (s : ℕ) (u : Under g h (suc n) s n) → u.what ≡ w
    here_what s u = does_what u.thread t u.what w (sym u.item ∙ e)

    abbrev under_here : (s : ℕ) → (labels g h n).slot_of t ≡ Some s → Under g h (suc n) s n
    under_here s f = record { thread = t; what = w; item = e; slot = f; era = sym era_now }

    apart : (u s : ℕ) → (u ≡ t → ⊥) → (labels g h n).slot_of u ≡ Some s → (labels g h n).slot_of t ≡ Some s → ⊥
    apart u s d f f' = d (law.one_owner u t s f f')

    left_full : (s : ℕ) → ((labels g h n).slot_of t ≡ Some s → ⊥) → item_empties (labels g h n) (h n) (Left s) ≡ false
    left_full s d =
        elim (holds_cases ((labels g h n).slot_of t) s) [
          | inl f ↦ absurd (d f.0)
          | inr f ↦ empties_now (Left s) ∙ and_right (is_end w) (holds ((labels g h n).slot_of t) s) f.1
        ]

    known_more : (u j : ℕ) → (u ≡ t → ⊥) → Known g h n u j → Known g h (suc n) u j
    known_more u j d (Did i v l f up) = Did i v (omega arith) f up
    known_more u j d (Got s f k) = Got s (slot_stays u s d f) (kept_from g h n (Left s) j (left_full s (apart u s d f)) k)

    known_now : (j : ℕ) → Upto g h j n → Known g h (suc n) t j
    known_now j u = Did n w (omega arith) e u

    known_kept : (u j : ℕ) → (labels g h j).era ≡ (labels g h n).era → Known g h n u j → Known g h (suc n) u j
    known_kept u j r k =
        elim (cases_eq u t) [
          | inl q ↦ subst (λ x. (Known g h) (suc n) x j) (sym q) (known_now j (inr (known_before g h n t j w e r (subst (λ x. (Known g h) n x j) q k))))
          | inr d ↦ known_more u j d k
        ]

    left_slot : (s : ℕ) → item_leaves (labels g h n) (h n) (Left s) ≡ true → (is_end w ≡ true) × ((labels g h n).slot_of t ≡ Some s)
    left_slot s f =
        let b = and_parts (is_end w) (holds ((labels g h n).slot_of t) s) (sym (leaves_now (Left s)) ∙ f) in
        (b.0, holds-true ((labels g h n).slot_of t) s b.1)

    known_cases : (u j : ℕ) → Known g h (suc n) u j → Known g h n u j ⊎ ((u ≡ t) × (Upto g h) j n)
    known_cases u j (Did i v l f up) =
        elim (cases_eq i n) [
          | inl q ↦ inr (does_thread u t v w (sym f ∙ (ap h q ∙ e)), subst (Upto g h j) q up)
          | inr d ↦ inl (Did i v (omega arith) f up)
        ]
    known_cases u j (Got s f k) =
        let b = slot_back u s f in
        elim (kept_cases g h n (Left s) j k) [
          | inl c ↦ inl (Got s b c.1)
          | inr c ↦ inr (law.one_owner u t s b (left_slot s c.0).1, c.1)
        ]

    event_one_owner : (u v s : ℕ) → (labels g h (suc n)).slot_of u ≡ Some s → (labels g h (suc n)).slot_of v ≡ Some s → u ≡ v
    event_one_owner u v s a b = law.one_owner u v s (slot_back u s a) (slot_back v s b)

    event_free : (s : ℕ) → (labels g h (suc n)).free s ≡ true → (((labels g h n).free s ≡ true) × ((is_end w && holds ((labels g h n).slot_of t) s) ≡ false)) ⊎ ((is_end w ≡ true) × ((labels g h n).slot_of t ≡ Some s))
    event_free s f = free_cases g (labels g h n) t w s (subst (λ x. x.free s ≡ true) labels_now f)

    event_slot_end : (s : ℕ) → is_end w ≡ true → (labels g h (suc n)).slot_of t ≡ Some s → ⊥
    event_slot_end s a f = slot_end g (labels g h n) t w s a (subst (λ x. x.slot_of t ≡ Some s) labels_now f)

    event_not_free : (u s : ℕ) → (labels g h (suc n)).slot_of u ≡ Some s → (labels g h (suc n)).free s ≡ false
    event_not_free u s f =
        elim (cases_Bool ((labels g h (suc n)).free s)) [
          | inr b ↦ b
          | inl b ↦ absurd (
              elim (event_free s b) [
                | inl c ↦ (let z = law.not_free u s (slot_back u s f) in let z' = sym z ∙ c.0 in cc)
                | inr c ↦ (let q = law.one_owner u t s (slot_back u s f) c.1 in event_slot_end s c.0 (subst (λ x. (labels g h (suc n)).slot_of x ≡ Some s) q f))
              ])
        ]

    event_pos : (u s : ℕ) → (labels g h (suc n)).slot_of u ≡ Some s → 1 ≤ (labels g h (suc n)).epoch s
    event_pos u s f = let p = law.pos u s (slot_back u s f) in let q = epoch_now s in omega arith

    event_epoch_le : (s j : ℕ) → j < suc n → Under g h (suc n) s j → (labels g h j).epoch s ≤ (labels g h (suc n)).epoch s
    event_epoch_le s j l u =
        let q = epoch_now s in
        elim (cases_eq j n) [
          | inl i ↦ subst (λ x. (labels g h x).epoch s ≤ (labels g h (suc n)).epoch s) (sym i) (omega arith)
          | inr d ↦ let p = law.epoch_le s j (omega arith) (under_back s j u) in omega arith
        ]

    event_strict : (s j v : ℕ) → j < suc n → (u : Under g h (suc n) s j) → Publishes u.what → (labels g h (suc n)).slot_of v ≡ Some s → (labels g h j).epoch s < (labels g h (suc n)).epoch s
    event_strict s j v l u p f = go (cases_eq j n)
      where
        here : (i : ℕ) → i ≡ n → (x : Under g h (suc n) s i) → Publishes x.what → (labels g h i).epoch s < (labels g h (suc n)).epoch s
        here i q x p' =
            let q1 = does_thread x.thread t x.what w (sym x.item ∙ (ap h q ∙ e)) in
            let q2 = does_what x.thread t x.what w (sym x.item ∙ (ap h q ∙ e)) in
            let o = subst (λ z. (labels g h n).slot_of z ≡ Some s) q1 (subst (λ z. (labels g h z).slot_of x.thread ≡ Some s) q x.slot) in
            let f' = subst (λ z. (labels g h (suc n)).slot_of z ≡ Some s) (law.one_owner v t s (slot_back v s f) o) f in
            let r = raised_stays g (labels g h n) t w s (subst Publishes q2 p') (subst (λ y. y.slot_of t ≡ Some s) labels_now f') in
            let m = epoch_now s in
            subst (λ z. (labels g h z).epoch s < (labels g h (suc n)).epoch s) (sym q) (omega arith)

        go : ((j ≡ n) ⊎ (j ≡ n → ⊥)) → (labels g h j).epoch s < (labels g h (suc n)).epoch s
        go (inl q) = here j q u p
        go (inr d) =
            let q = epoch_now s in
            let r = law.strict s j v (omega arith) (under_back s j u) p (slot_back v s f) in
            omega arith

    event_chain_owned : (s j v : ℕ) → j < suc n → Under g h (suc n) s j → (labels g h (suc n)).slot_of v ≡ Some s → Known g h (suc n) v j
    event_chain_owned s j v l u f =
        elim (cases_eq j n) [
          | inl q ↦
              let o = subst (λ x. (labels g h n).slot_of x ≡ Some s) (does_thread u.thread t u.what w (sym u.item ∙ (ap h q ∙ e))) (subst (λ x. (labels g h x).slot_of u.thread ≡ Some s) q u.slot) in
              subst (λ x. (Known g h) (suc n) x j) (sym (law.one_owner v t s (slot_back v s f) o)) (known_now j (inl q))
          | inr d ↦ let u' = under_back s j u in known_kept v j u'.era (law.chain_owned s j v (omega arith) u' (slot_back v s f))
        ]

    event_chain_free : (s j : ℕ) → j < suc n → Under g h (suc n) s j → (labels g h (suc n)).free s ≡ true → Kept g h (suc n) (Left s) j
    event_chain_free s j l u f = go (cases_eq j n) (event_free s f)
      where
        u' : Under g h n s j
        u' = under_back s j u

        back : is_end w ≡ true → (labels g h n).slot_of t ≡ Some s → item_leaves (labels g h n) (h n) (Left s) ≡ true
        back a o = leaves_now (Left s) ∙ and_from (is_end w) (holds ((labels g h n).slot_of t) s) a (holds-some ((labels g h n).slot_of t) s o)

        go : ((j ≡ n) ⊎ (j ≡ n → ⊥)) → ((((labels g h n).free s ≡ true) × ((is_end w && holds ((labels g h n).slot_of t) s) ≡ false)) ⊎ ((is_end w ≡ true) × ((labels g h n).slot_of t ≡ Some s))) → Kept g h (suc n) (Left s) j
        go (inl q) (inl (a, b)) =
            let o = subst (λ x. (labels g h n).slot_of x ≡ Some s) (does_thread u.thread t u.what w (sym u.item ∙ (ap h q ∙ e))) (subst (λ x. (labels g h x).slot_of u.thread ≡ Some s) q u.slot) in
            let z = sym (law.not_free t s o) ∙ a in
            absurd (cc)
        go (inl q) (inr (a, o)) = kept_now g h n (Left s) j (back a o) (inl q)
        go (inr d) (inl (a, b)) = kept_from g h n (Left s) j (empties_now (Left s) ∙ b) (law.chain_free s j (omega arith) u' a)
        go (inr d) (inr (a, o)) = kept_now g h n (Left s) j (back a o) (inr (known_before g h n t j w e u'.era (law.chain_owned s j t (omega arith) u' o)))

    thread_now : (s : ℕ) → (clocks g h (suc n)).thread t s ≡ max ((clocks g h n).thread t s) (clock_at (clocks g h n) (taken_from t w) s) + raised g (labels g h n) t w s
    thread_now s = ap (λ x. x.thread t s) clocks_now ∙ thread_here g (labels g h n) (clocks g h n) t w s

    thread_same : (u s : ℕ) → (u ≡ t → ⊥) → (clocks g h (suc n)).thread u s ≡ (clocks g h n).thread u s
    thread_same u s d = ap (λ x. x.thread u s) clocks_now ∙ thread_other g (labels g h n) (clocks g h n) t w u s d

    thread_more : (u s : ℕ) → (clocks g h n).thread u s ≤ (clocks g h (suc n)).thread u s
    thread_more u s = subst (λ x. (clocks g h n).thread u s ≤ x.thread u s) (sym clocks_now) (thread_grows g (labels g h n) (clocks g h n) t w u s)

    event_own : (u s : ℕ) → (labels g h (suc n)).slot_of u ≡ Some s → (clocks g h (suc n)).thread u s ≡ (labels g h (suc n)).epoch s
    event_own u s f =
        let b = slot_back u s f in
        let m = epoch_now s in
        elim (cases_eq u t) [
          | inl q ↦
              let o = law.own t s (subst (λ x. (labels g h n).slot_of x ≡ Some s) q b) in
              let c = taken_below g h n (taken_from t w) s law in
              let k = thread_now s in
              subst (λ x. (clocks g h (suc n)).thread x s ≡ (labels g h (suc n)).epoch s) (sym q) (omega arith)
          | inr d ↦
              let o = law.own u s b in
              let k = thread_same u s d in
              let r = raised_other g (labels g h n) t w s (apart u s d b) in
              omega arith
        ]

    event_all_known : (u s j : ℕ) → Known g h (suc n) u j → Under g h (suc n) s j → (labels g h j).epoch s ≤ (clocks g h (suc n)).thread u s
    event_all_known u s j k un = go (known_cases u j k)
      where
        un' : Under g h n s j
        un' = under_back s j un

        before : (Known g h n t j ⊎ ((y : Place) × (taken_from t w ≡ Some y) × (Kept g h) n (Of y) j)) → (labels g h j).epoch s ≤ (clocks g h (suc n)).thread t s
        before (inl a) = le_trans (law.all_known t s j a un') (thread_more t s)
        before (inr (y, f, a)) =
            le_trans (law.all_kept (Of y) s j a un')
            (subst (λ x. (clocks g h n).spot (Of y) s ≤ x.thread t s) (sym clocks_now) (thread_takes g (labels g h n) (clocks g h n) t w y s f))

        here : Upto g h j n → (labels g h j).epoch s ≤ (clocks g h (suc n)).thread t s
        here (inl q) =
            let o = subst (λ x. (labels g h n).slot_of x ≡ Some s) (does_thread un.thread t un.what w (sym un.item ∙ (ap h q ∙ e))) (subst (λ x. (labels g h x).slot_of un.thread ≡ Some s) q un.slot) in
            let c = law.own t s o in
            let m = thread_more t s in
            subst (λ x. (labels g h x).epoch s ≤ (clocks g h (suc n)).thread t s) (sym q) (omega arith)
        here (inr b) = before (before_cases g h n t j w e b)

        go : (Known g h n u j ⊎ ((u ≡ t) × (Upto g h) j n)) → (labels g h j).epoch s ≤ (clocks g h (suc n)).thread u s
        go (inl a) = le_trans (law.all_known u s j a un') (thread_more u s)
        go (inr (q, up)) = subst (λ x. (labels g h j).epoch s ≤ (clocks g h (suc n)).thread x s) (sym q) (here up)

    -- an event that leaves a clock takes none in
    quiet : (y : Spot) (z : Place) → leaves (labels g h n) t w y ≡ true → taken_from t w ≡ Some z → ⊥
    quiet (Of y) z a b = one_way t w y z (is_place-true (left_at t w) y a) b
    quiet (Left s) z a b = let q = is_end-true w (and_parts (is_end w) (holds ((labels g h n).slot_of t) s) a).0 in let b' = subst (λ x. taken_from t x ≡ Some z) q b in cc

    event_all_kept : (y : Spot) (s j : ℕ) → Kept g h (suc n) y j → Under g h (suc n) s j → (labels g h j).epoch s ≤ (clocks g h (suc n)).spot y s
    event_all_kept y s j k un = go (kept_cases g h n y j k)
      where
        un' : Under g h n s j
        un' = under_back s j un

        before : leaves (labels g h n) t w y ≡ true → (Known g h n t j ⊎ ((z : Place) × (taken_from t w ≡ Some z) × (Kept g h) n (Of z) j)) → (labels g h j).epoch s ≤ (clocks g h n).thread t s
        before b (inl a) = law.all_known t s j a un'
        before b (inr (z, f, a)) = absurd (quiet y z b f)

        here : leaves (labels g h n) t w y ≡ true → Upto g h j n → (labels g h j).epoch s ≤ (clocks g h n).thread t s
        here b (inl q) =
            let o = subst (λ x. (labels g h n).slot_of x ≡ Some s) (does_thread un.thread t un.what w (sym un.item ∙ (ap h q ∙ e))) (subst (λ x. (labels g h x).slot_of un.thread ≡ Some s) q un.slot) in
            let c = law.own t s o in
            subst (λ x. (labels g h x).epoch s ≤ (clocks g h n).thread t s) (sym q) (omega arith)
        here b (inr bf) = before b (before_cases g h n t j w e bf)

        go : ((item_empties (labels g h n) (h n) y ≡ false) × (Kept g h) n y j) ⊎ ((item_leaves (labels g h n) (h n) y ≡ true) × (Upto g h) j n) → (labels g h j).epoch s ≤ (clocks g h (suc n)).spot y s
        go (inl (a, c)) =
            le_trans (law.all_kept y s j c un')
            (subst (λ x. (clocks g h n).spot y s ≤ x.spot y s) (sym clocks_now) (spot_grows g (labels g h n) (clocks g h n) t w y s (sym (empties_now y) ∙ a)))
        go (inr (a, up)) =
            let b = sym (leaves_now y) ∙ a in
            le_trans (here b up) (subst (λ x. (clocks g h n).thread t s ≤ x.spot y s) (sym clocks_now) (spot_takes g (labels g h n) (clocks g h n) t w y s b))

    event_some_known : (u s : ℕ) → ((labels g h (suc n)).slot_of u ≡ Some s → ⊥) → 1 ≤ (clocks g h (suc n)).thread u s → Ends g h (Known g h (suc n) u) (suc n) s ((clocks g h (suc n)).thread u s)
    event_some_known u s d p = go (cases_eq u t)
      where
        other : (u ≡ t → ⊥) → Ends g h (Known g h (suc n) u) (suc n) s ((clocks g h (suc n)).thread u s)
        other d' =
            let c = thread_same u s d' in
            subst (Ends g h (Known g h (suc n) u) (suc n) s) (sym c)
            (ends_more g h (Known g h n u) (Known g h (suc n) u) n (suc n) s ((clocks g h n).thread u s) (omega arith) (sym era_now) (known_kept u)
            (law.some_known u s (λ f. d (slot_stays u s d' f)) (subst (λ x. 1 ≤ x) c p)))

        -- the thread itself, at a slot that it loses now
        lost : ((labels g h (suc n)).slot_of t ≡ Some s → ⊥) → (labels g h n).slot_of t ≡ Some s → Ends g h (Known g h (suc n) t) (suc n) s ((clocks g h (suc n)).thread t s)
        lost d' f =
            let r = raised_lost g (labels g h n) t w s f (λ q. d' (subst (λ x. x.slot_of t ≡ Some s) (sym labels_now) q)) in
            let r1 = r.1 in
            let o = law.own t s f in
            let c = taken_below g h n (taken_from t w) s law in
            let k = thread_now s in
            record { at = n; known = known_now n (inl refl); early = omega arith; under = under_here s f; enough = omega arith; ends = r.0 }

        -- the thread itself, at another's slot
        foreign : ((labels g h n).slot_of t ≡ Some s → ⊥) → 1 ≤ (clocks g h (suc n)).thread t s → Ends g h (Known g h (suc n) t) (suc n) s ((clocks g h (suc n)).thread t s)
        foreign d' p' = pick (max_cases ((clocks g h n).thread t s) (clock_at (clocks g h n) (taken_from t w) s)) (taken_from t w) refl
          where
            c : (clocks g h (suc n)).thread t s ≡ max ((clocks g h n).thread t s) (clock_at (clocks g h n) (taken_from t w) s)
            c = let k = thread_now s in let r = raised_other g (labels g h n) t w s d' in omega arith

            pick : ((max ((clocks g h n).thread t s) (clock_at (clocks g h n) (taken_from t w) s) ≡ (clocks g h n).thread t s) ⊎ (max ((clocks g h n).thread t s) (clock_at (clocks g h n) (taken_from t w) s) ≡ clock_at (clocks g h n) (taken_from t w) s)) → (o : Option Place) → taken_from t w ≡ o → Ends g h (Known g h (suc n) t) (suc n) s ((clocks g h (suc n)).thread t s)
            pick (inl a) o q =
                subst (Ends g h (Known g h (suc n) t) (suc n) s) (sym (c ∙ a))
                (ends_more g h (Known g h n t) (Known g h (suc n) t) n (suc n) s ((clocks g h n).thread t s) (omega arith) (sym era_now) (known_kept t)
                (law.some_known t s d' (subst (λ x. 1 ≤ x) (c ∙ a) p')))
            pick (inr a) None q = absurd (let a' = c ∙ (a ∙ ap (λ x. clock_at (clocks g h n) x s) q) in omega arith)
            pick (inr a) (Some y) q =
                let a' = c ∙ (a ∙ ap (λ x. clock_at (clocks g h n) x s) q) in
                subst (Ends g h (Known g h (suc n) t) (suc n) s) (sym a')
                (ends_more g h (Kept g h n (Of y)) (Known g h (suc n) t) n (suc n) s ((clocks g h n).spot (Of y) s) (omega arith) (sym era_now)
                (λ j r k. known_now j (inr (kept_before g h n t j w y e q k)))
                (law.some_kept (Of y) s (subst (λ x. 1 ≤ x) a' p')))

        go : ((u ≡ t) ⊎ (u ≡ t → ⊥)) → Ends g h (Known g h (suc n) u) (suc n) s ((clocks g h (suc n)).thread u s)
        go (inr d') = other d'
        go (inl q) =
            subst (λ x. (Ends g h) (Known g h (suc n) x) (suc n) s ((clocks g h (suc n)).thread x s)) (sym q)
            (let d' = subst (λ x. (labels g h (suc n)).slot_of x ≡ Some s → ⊥) q d in
            let p' = subst (λ x. 1 ≤ (clocks g h (suc n)).thread x s) q p in
            elim (holds_cases ((labels g h n).slot_of t) s) [ inl f ↦ lost d' f.0 | inr f ↦ foreign f.0 p' ])

    event_some_kept : (y : Spot) (s : ℕ) → 1 ≤ (clocks g h (suc n)).spot y s → Ends g h (Kept g h (suc n) y) (suc n) s ((clocks g h (suc n)).spot y s)
    event_some_kept y s p = go (spot_from g (labels g h n) (clocks g h n) t w y s (subst (λ x. 1 ≤ x.spot y s) clocks_now p))
      where
        q : (clocks g h (suc n)).spot y s ≡ (event_clocks g (labels g h n) (clocks g h n) t w).spot y s
        q = ap (λ x. x.spot y s) clocks_now

        here : leaves (labels g h n) t w y ≡ true → 1 ≤ (clocks g h n).thread t s → (((labels g h n).slot_of t ≡ Some s) × (holds ((labels g h n).slot_of t) s ≡ true)) ⊎ (((labels g h n).slot_of t ≡ Some s → ⊥) × (holds ((labels g h n).slot_of t) s ≡ false)) → Ends g h (Kept g h (suc n) y) (suc n) s ((clocks g h n).thread t s)
        here a b (inl (f, f')) =
            let o = law.own t s f in
            record {
              at = n;
              known = kept_now g h n y n (leaves_now y ∙ a) (inl refl);
              early = omega arith;
              under = under_here s f;
              enough = omega arith;
              ends = leaves_publishes (labels g h n) t w y a;
            }
        here a b (inr (d, f')) =
            (ends_more g h) (Known g h n t) (Kept g h (suc n) y) n (suc n) s ((clocks g h n).thread t s) (omega arith) (sym era_now)
            (λ j r k. (kept_now g h) n y j (leaves_now y ∙ a) (inr (known_before g h n t j w e r k)))
            (law.some_known t s d b)

        go : ((empties (labels g h n) t w y ≡ false) × ((event_clocks g (labels g h n) (clocks g h n) t w).spot y s ≡ (clocks g h n).spot y s)) ⊎ ((leaves (labels g h n) t w y ≡ true) × ((event_clocks g (labels g h n) (clocks g h n) t w).spot y s ≡ (clocks g h n).thread t s)) → Ends g h (Kept g h (suc n) y) (suc n) s ((clocks g h (suc n)).spot y s)
        go (inl (a, b)) =
            let c = q ∙ b in
            subst (Ends g h (Kept g h (suc n) y) (suc n) s) (sym c)
            (ends_more g h (Kept g h n y) (Kept g h (suc n) y) n (suc n) s ((clocks g h n).spot y s) (omega arith) (sym era_now) (λ j r k. (kept_from g h) n y j (empties_now y ∙ a) k)
            (law.some_kept y s (subst (λ x. 1 ≤ x) c p)))
        go (inr (a, b)) =
            let c = q ∙ b in
            subst (Ends g h (Kept g h (suc n) y) (suc n) s) (sym c) (here a (subst (λ x. 1 ≤ x) c p) (holds_cases ((labels g h n).slot_of t) s))

    pub event_law : Law g h (suc n)
    event_law =
        record {
          one_owner = event_one_owner;
          not_free = event_not_free;
          pos = event_pos;
          epoch_le = event_epoch_le;
          strict = event_strict;
          chain_owned = event_chain_owned;
          chain_free = event_chain_free;
          own = event_own;
          all_known = event_all_known;
          all_kept = event_all_kept;
          some_known = event_some_known;
          some_kept = event_some_kept;
        }
