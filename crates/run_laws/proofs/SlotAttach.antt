-- The invariant goes on over an attachment.
use Rattle.std.proofs.Common.{◌≡◌, ℕ, suc, ◌+◌, ◌<◌, ◌≤◌, max, ◌⊎◌, true, false, Some, None, is_none, refl, sym, ap, subst, inl, inr, ◌∙◌, arith}
use Rattle.std.proofs.lemmas.Bool.{cases_eq, and_parts}
use Rattle.run_record.specs.declared.entry.DeskNote.TheVariants.{Attach}
use Rattle.run_record.specs.declared.entry.Label.{Label}
use Rattle.run_laws.specs.Moments.{Item, Notes}
use Rattle.run_laws.specs.Labels.{can_attach, attach_labels, next_labels, labels}
use Rattle.run_laws.specs.Clocks.{Spot, Left, attach_clocks, next_clocks, clocks}
use Rattle.run_laws.proofs.SlotSteps.{Publishes, max_cases, is_none-true, attach_slot_here, attach_slot_other, attach_free, attach_free_taken, attach_free_other, attach_epoch_here, attach_epoch_other, attach_epoch_grows, attach_thread_here, attach_thread_joined, attach_thread_other}
use Rattle.run_laws.proofs.SlotInvariant.{labels-next, clocks-next, Kept, Known, Under, Ends, Law, ends_more, known_lt, NoEvent, still_more, still_back, still_early, still_did}
use Rattle.run_laws.proofs.SlotInvariant.{Did, Got}

module _ (g : ℕ) (h : ℕ → Item) where
  -- a slot is taken
  module _ (n t : ℕ) (taken : Label) (e : h n ≡ Notes t (Attach taken)) (can : can_attach (labels g h n) t taken.sid ≡ true) (law : Law g h n) where
    abbrev r : ℕ
    r = taken.sid

    attached : labels g h (suc n) ≡ attach_labels (labels g h n) t r
    attached = labels-next g h n ∙ (ap (next_labels g (labels g h n)) e ∙ rw can refl)

    attached_clocks : clocks g h (suc n) ≡ attach_clocks (labels g h n) (clocks g h n) t r
    attached_clocks = clocks-next g h n ∙ (ap (next_clocks g (labels g h n) (clocks g h n)) e ∙ rw can refl)

    attach_era : (labels g h (suc n)).era ≡ (labels g h n).era
    attach_era = ap (λ x. x.era) attached

    no_slot : (labels g h n).slot_of t ≡ None
    no_slot = is_none-true ((labels g h n).slot_of t) (and_parts (is_none ((labels g h n).slot_of t)) ((labels g h n).free r) can).0

    was_free : (labels g h n).free r ≡ true
    was_free = (and_parts (is_none ((labels g h n).slot_of t)) ((labels g h n).free r) can).1

    no_event : NoEvent g h (h n)
    no_event u w f = let c = sym e ∙ f in cc

    had_none : (s : ℕ) → (labels g h n).slot_of t ≡ Some s → ⊥
    had_none s f = let c = sym no_slot ∙ f in cc

    was_owned_by_none : (u : ℕ) → (labels g h n).slot_of u ≡ Some r → ⊥
    was_owned_by_none u f = let c = sym (law.not_free u r f) ∙ was_free in cc

    abbrev attach_under : (s j : ℕ) → Under g h (suc n) s j → Under g h n s j
    attach_under s j u = record { thread = u.thread; what = u.what; item = u.item; slot = u.slot; era = u.era ∙ attach_era }

    taker : (labels g h (suc n)).slot_of t ≡ Some r
    taker = ap (λ x. x.slot_of t) attached ∙ attach_slot_here (labels g h n) t r

    others : (u : ℕ) → (u ≡ t → ⊥) → (labels g h (suc n)).slot_of u ≡ (labels g h n).slot_of u
    others u d = ap (λ x. x.slot_of u) attached ∙ attach_slot_other (labels g h n) t r u d

    -- who holds a slot now
    holder : (u s : ℕ) → (labels g h (suc n)).slot_of u ≡ Some s → ((u ≡ t) × (s ≡ r)) ⊎ ((u ≡ t → ⊥) × ((labels g h n).slot_of u ≡ Some s))
    holder u s f =
        elim (cases_eq u t) [
          | inl q ↦ inl (q, (let c = sym taker ∙ subst (λ x. (labels g h (suc n)).slot_of x ≡ Some s) q f in cc))
          | inr d ↦ inr (d, sym (others u d) ∙ f)
        ]

    epoch_taken : (labels g h (suc n)).epoch r ≡ (labels g h n).epoch r + 1
    epoch_taken = ap (λ x. x.epoch r) attached ∙ attach_epoch_here (labels g h n) t r

    epoch_same : (s : ℕ) → (s ≡ r → ⊥) → (labels g h (suc n)).epoch s ≡ (labels g h n).epoch s
    epoch_same s d = ap (λ x. x.epoch s) attached ∙ attach_epoch_other (labels g h n) t r s d

    epoch_more : (s : ℕ) → (labels g h n).epoch s ≤ (labels g h (suc n)).epoch s
    epoch_more s = subst (λ x. (labels g h n).epoch s ≤ x.epoch s) (sym attached) (attach_epoch_grows (labels g h n) t r s)

    still_known : (u j : ℕ) → Known g h n u j → Known g h (suc n) u j
    still_known u j (Did i w l f up) = Did i w (omega arith) f up
    still_known u j (Got s f k) =
        Got s (others u (λ q. had_none s (subst (λ x. (labels g h n).slot_of x ≡ Some s) q f)) ∙ f) (still_more g h n no_event (Left s) j k)

    taken_known : (j : ℕ) → Kept g h n (Left r) j → Known g h (suc n) t j
    taken_known j k = Got r taker (still_more g h n no_event (Left r) j k)

    attach_known : (u j : ℕ) → Known g h (suc n) u j → Known g h n u j ⊎ ((u ≡ t) × (Kept g h) n (Left r) j)
    attach_known u j (Did i w l f up) = inl (Did i w (still_did g h n no_event i u w l f) f up)
    attach_known u j (Got s f k) =
        elim (holder u s f) [
          | inl c ↦ inr (c.0, subst (λ x. (Kept g h) n (Left x) j) c.1 (still_back g h n no_event (Left s) j k))
          | inr c ↦ inl (Got s c.1 (still_back g h n no_event (Left s) j k))
        ]

    attach_one_owner : (u v s : ℕ) → (labels g h (suc n)).slot_of u ≡ Some s → (labels g h (suc n)).slot_of v ≡ Some s → u ≡ v
    attach_one_owner u v s a b = go (holder u s a) (holder v s b)
      where
        go : (((u ≡ t) × (s ≡ r)) ⊎ ((u ≡ t → ⊥) × ((labels g h n).slot_of u ≡ Some s))) → (((v ≡ t) × (s ≡ r)) ⊎ ((v ≡ t → ⊥) × ((labels g h n).slot_of v ≡ Some s))) → u ≡ v
        go (inl x) (inl y) = x.0 ∙ sym y.0
        go (inl x) (inr y) = absurd (was_owned_by_none v (subst (λ z. (labels g h n).slot_of v ≡ Some z) x.1 y.1))
        go (inr x) (inl y) = absurd (was_owned_by_none u (subst (λ z. (labels g h n).slot_of u ≡ Some z) y.1 x.1))
        go (inr x) (inr y) = law.one_owner u v s x.1 y.1

    attach_not_free : (u s : ℕ) → (labels g h (suc n)).slot_of u ≡ Some s → (labels g h (suc n)).free s ≡ false
    attach_not_free u s f =
        elim (holder u s f) [
          | inl c ↦ subst (λ x. (labels g h (suc n)).free x ≡ false) (sym c.1) (ap (λ x. x.free r) attached ∙ attach_free_taken (labels g h n) t r)
          | inr c ↦
              let d : s ≡ r → ⊥ = λ q. was_owned_by_none u (subst (λ z. (labels g h n).slot_of u ≡ Some z) q c.1) in
              ap (λ x. x.free s) attached ∙ (attach_free_other (labels g h n) t r s d ∙ law.not_free u s c.1)
        ]

    attach_pos : (u s : ℕ) → (labels g h (suc n)).slot_of u ≡ Some s → 1 ≤ (labels g h (suc n)).epoch s
    attach_pos u s f =
        elim (holder u s f) [
          | inl c ↦ let q = epoch_taken in subst (λ x. 1 ≤ (labels g h (suc n)).epoch x) (sym c.1) (omega arith)
          | inr c ↦ let p = law.pos u s c.1 in let q = epoch_more s in omega arith
        ]

    attach_epoch_le : (s j : ℕ) → j < suc n → Under g h (suc n) s j → (labels g h j).epoch s ≤ (labels g h (suc n)).epoch s
    attach_epoch_le s j l u =
        let p = law.epoch_le s j (still_early g h n no_event s j l u) (attach_under s j u) in
        let q = epoch_more s in
        omega arith

    attach_strict : (s j v : ℕ) → j < suc n → (u : Under g h (suc n) s j) → Publishes u.what → (labels g h (suc n)).slot_of v ≡ Some s → (labels g h j).epoch s < (labels g h (suc n)).epoch s
    attach_strict s j v l u p f = go (holder v s f)
      where
        go : (((v ≡ t) × (s ≡ r)) ⊎ ((v ≡ t → ⊥) × ((labels g h n).slot_of v ≡ Some s))) → (labels g h j).epoch s < (labels g h (suc n)).epoch s
        go (inl c) =
            let a = law.epoch_le s j (still_early g h n no_event s j l u) (attach_under s j u) in
            let q = epoch_taken in
            let q' : (labels g h (suc n)).epoch s ≡ (labels g h n).epoch s + 1 = subst (λ x. (labels g h (suc n)).epoch x ≡ (labels g h n).epoch x + 1) (sym c.1) q in
            omega arith
        go (inr c) =
            let a = law.strict s j v (still_early g h n no_event s j l u) (attach_under s j u) p c.1 in
            let q = epoch_more s in
            omega arith

    attach_chain_owned : (s j v : ℕ) → j < suc n → Under g h (suc n) s j → (labels g h (suc n)).slot_of v ≡ Some s → Known g h (suc n) v j
    attach_chain_owned s j v l u f =
        let l' = still_early g h n no_event s j l u in
        let u' = attach_under s j u in
        elim (holder v s f) [
          | inl c ↦
              subst (λ x. (Known g h) (suc n) x j) (sym c.0)
              (taken_known j (subst (λ x. (Kept g h) n (Left x) j) c.1 (law.chain_free s j l' u' (subst (λ x. (labels g h n).free x ≡ true) (sym c.1) was_free))))
          | inr c ↦ still_known v j (law.chain_owned s j v l' u' c.1)
        ]

    attach_chain_free : (s j : ℕ) → j < suc n → Under g h (suc n) s j → (labels g h (suc n)).free s ≡ true → Kept g h (suc n) (Left s) j
    attach_chain_free s j l u f =
        let c = attach_free (labels g h n) t r s (subst (λ x. x.free s ≡ true) attached f) in
        (still_more g h) n no_event (Left s) j (law.chain_free s j (still_early g h n no_event s j l u) (attach_under s j u) c.1)

    clock_taken : (clocks g h (suc n)).thread t r ≡ (labels g h n).epoch r + 1
    clock_taken = ap (λ x. x.thread t r) attached_clocks ∙ attach_thread_here (labels g h n) (clocks g h n) t r

    clock_joined : (s : ℕ) → (s ≡ r → ⊥) → (clocks g h (suc n)).thread t s ≡ max ((clocks g h n).thread t s) ((clocks g h n).spot (Left r) s)
    clock_joined s d = ap (λ x. x.thread t s) attached_clocks ∙ attach_thread_joined (labels g h n) (clocks g h n) t r s d

    clock_same : (u s : ℕ) → (u ≡ t → ⊥) → (clocks g h (suc n)).thread u s ≡ (clocks g h n).thread u s
    clock_same u s d = ap (λ x. x.thread u s) attached_clocks ∙ attach_thread_other (labels g h n) (clocks g h n) t r u s d

    spots_same : (y : Spot) (s : ℕ) → (clocks g h (suc n)).spot y s ≡ (clocks g h n).spot y s
    spots_same y s = ap (λ x. x.spot y s) attached_clocks

    attach_own : (u s : ℕ) → (labels g h (suc n)).slot_of u ≡ Some s → (clocks g h (suc n)).thread u s ≡ (labels g h (suc n)).epoch s
    attach_own u s f =
        elim (holder u s f) [
          | inl c ↦
              subst (λ x. (clocks g h (suc n)).thread x s ≡ (labels g h (suc n)).epoch s) (sym c.0)
              (subst (λ x. (clocks g h (suc n)).thread t x ≡ (labels g h (suc n)).epoch x) (sym c.1) (clock_taken ∙ sym epoch_taken))
          | inr c ↦
              let d : s ≡ r → ⊥ = λ q. was_owned_by_none u (subst (λ z. (labels g h n).slot_of u ≡ Some z) q c.1) in
              clock_same u s c.0 ∙ (law.own u s c.1 ∙ sym (epoch_same s d))
        ]

    attach_all_known : (u s j : ℕ) → Known g h (suc n) u j → Under g h (suc n) s j → j < n → (labels g h j).epoch s ≤ (clocks g h (suc n)).thread u s
    attach_all_known u s j k un l = go (cases_eq u t) (cases_eq s r) (attach_known u j k)
      where
        un' : Under g h n s j
        un' = attach_under s j un

        go : ((u ≡ t) ⊎ (u ≡ t → ⊥)) → ((s ≡ r) ⊎ (s ≡ r → ⊥)) → (Known g h n u j ⊎ ((u ≡ t) × (Kept g h) n (Left r) j)) → (labels g h j).epoch s ≤ (clocks g h (suc n)).thread u s
        go (inl q) (inl q') a =
            let b = law.epoch_le s j l un' in
            let c = clock_taken in
            let b' = subst (λ x. (labels g h j).epoch s ≤ (labels g h n).epoch x) q' b in
            subst (λ x. (labels g h j).epoch s ≤ (clocks g h (suc n)).thread x s) (sym q)
            (subst (λ x. (labels g h j).epoch s ≤ (clocks g h (suc n)).thread t x) (sym q') (omega arith))
        go (inl q) (inr d) (inl a) =
            let b = law.all_known t s j (subst (λ x. (Known g h) n x j) q a) un' in
            let c = clock_joined s d in
            subst (λ x. (labels g h j).epoch s ≤ (clocks g h (suc n)).thread x s) (sym q) (omega arith)
        go (inl q) (inr d) (inr a) =
            let b = law.all_kept (Left r) s j a.1 un' in
            let c = clock_joined s d in
            subst (λ x. (labels g h j).epoch s ≤ (clocks g h (suc n)).thread x s) (sym q) (omega arith)
        go (inr d) z (inl a) = let b = law.all_known u s j a un' in let c = clock_same u s d in omega arith
        go (inr d) z (inr a) = absurd (d a.0)

    attach_all_kept : (y : Spot) (s j : ℕ) → Kept g h (suc n) y j → Under g h (suc n) s j → (labels g h j).epoch s ≤ (clocks g h (suc n)).spot y s
    attach_all_kept y s j k un =
        let a = law.all_kept y s j (still_back g h n no_event y j k) (attach_under s j un) in
        let c = spots_same y s in
        omega arith

    attach_some_known : (u s : ℕ) → ((labels g h (suc n)).slot_of u ≡ Some s → ⊥) → 1 ≤ (clocks g h (suc n)).thread u s → Ends g h (Known g h (suc n) u) (suc n) s ((clocks g h (suc n)).thread u s)
    attach_some_known u s d p = go (cases_eq u t)
      where
        go : ((u ≡ t) ⊎ (u ≡ t → ⊥)) → Ends g h (Known g h (suc n) u) (suc n) s ((clocks g h (suc n)).thread u s)
        go (inr d') =
            let c = clock_same u s d' in
            subst (Ends g h (Known g h (suc n) u) (suc n) s) (sym c)
            (ends_more g h (Known g h n u) (Known g h (suc n) u) n (suc n) s ((clocks g h n).thread u s) (omega arith) (sym attach_era) (λ j r' k. still_known u j k)
            (law.some_known u s (λ f. d (others u d' ∙ f)) (subst (λ x. 1 ≤ x) c p)))
        go (inl q) =
            subst (λ x. (Ends g h) (Known g h (suc n) x) (suc n) s ((clocks g h (suc n)).thread x s)) (sym q)
            (here (max_cases ((clocks g h n).thread t s) ((clocks g h n).spot (Left r) s)))
          where
            sr : s ≡ r → ⊥
            sr z = d (subst (λ x. (labels g h (suc n)).slot_of x ≡ Some s) (sym q) (taker ∙ ap Some (sym z)))

            p' : 1 ≤ (clocks g h (suc n)).thread t s
            p' = subst (λ x. 1 ≤ (clocks g h (suc n)).thread x s) q p

            here : ((max ((clocks g h n).thread t s) ((clocks g h n).spot (Left r) s) ≡ (clocks g h n).thread t s) ⊎ (max ((clocks g h n).thread t s) ((clocks g h n).spot (Left r) s) ≡ (clocks g h n).spot (Left r) s)) → Ends g h (Known g h (suc n) t) (suc n) s ((clocks g h (suc n)).thread t s)
            here (inl a) =
                let c = clock_joined s sr ∙ a in
                subst (Ends g h (Known g h (suc n) t) (suc n) s) (sym c)
                (ends_more g h (Known g h n t) (Known g h (suc n) t) n (suc n) s ((clocks g h n).thread t s) (omega arith) (sym attach_era) (λ j r' k. still_known t j k)
                (law.some_known t s (had_none s) (subst (λ x. 1 ≤ x) c p')))
            here (inr a) =
                let c = clock_joined s sr ∙ a in
                subst (Ends g h (Known g h (suc n) t) (suc n) s) (sym c)
                (ends_more g h (Kept g h n (Left r)) (Known g h (suc n) t) n (suc n) s ((clocks g h n).spot (Left r) s) (omega arith) (sym attach_era) (λ j r' k. taken_known j k)
                (law.some_kept (Left r) s (subst (λ x. 1 ≤ x) c p')))

    attach_some_kept : (y : Spot) (s : ℕ) → 1 ≤ (clocks g h (suc n)).spot y s → Ends g h (Kept g h (suc n) y) (suc n) s ((clocks g h (suc n)).spot y s)
    attach_some_kept y s p =
        let c = spots_same y s in
        subst (Ends g h (Kept g h (suc n) y) (suc n) s) (sym c)
        (ends_more g h (Kept g h n y) (Kept g h (suc n) y) n (suc n) s ((clocks g h n).spot y s) (omega arith) (sym attach_era) (λ j r' k. (still_more g h) n no_event y j k)
        (law.some_kept y s (subst (λ x. 1 ≤ x) c p)))

    attach_known_lt : (u s j : ℕ) → Known g h (suc n) u j → Under g h (suc n) s j → j < n
    attach_known_lt u s j k un = still_early g h n no_event s j (known_lt g h (suc n) u j k) un

    pub attach_law : Law g h (suc n)
    attach_law =
        record {
          one_owner = attach_one_owner;
          not_free = attach_not_free;
          pos = attach_pos;
          epoch_le = attach_epoch_le;
          strict = attach_strict;
          chain_owned = attach_chain_owned;
          chain_free = attach_chain_free;
          own = attach_own;
          all_known = λ u s j k un. attach_all_known u s j k un (attach_known_lt u s j k un);
          all_kept = attach_all_kept;
          some_known = attach_some_known;
          some_kept = attach_some_kept;
        }
