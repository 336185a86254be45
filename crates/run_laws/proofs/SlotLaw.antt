-- The law of clocks with slots, slot order and eras.
use Rattle.std.proofs.Common.{◌≡◌, ℕ, zero, suc, ◌+◌, ◌<◌, ◌≤◌, ◌⊎◌, ◌↔◌, true, false, Some, None, refl, sym, ap, subst, inl, inr, ◌∙◌, arith}
use Rattle.std.proofs.lemmas.Bool.{cases_order, cases_Bool}
use Rattle.run_record.specs.declared.event.Event.{Event}
use Rattle.run_record.specs.declared.entry.DeskNote.TheVariants.{Nothing, Attach, Leave}
use Rattle.run_laws.specs.Moments.{Item, Does, Notes, NewEra, Past}
use Rattle.run_laws.specs.HappensBefore.{item_ends_channel, Pair, Program, Released, Created, Joined}
use Rattle.run_laws.specs.HappensBefore
use Rattle.run_laws.specs.Labels.{holds, new_era, can_attach, next_labels, labels}
use Rattle.run_laws.specs.SlotOrder.{Plain, SlotBefore, One, Then}
use Rattle.run_laws.specs.Clocks.{taken_from, Spot, Left, no_clocks, next_clocks, clocks}
use Rattle.run_laws.proofs.SlotSteps.{holds_cases}
use Rattle.run_laws.proofs.SlotInvariant.{does_thread, labels-next, clocks-next, era_mono, Kept, Known, Under, Ends, Law, ends_more, known_before, before_cases, known_lt, kept_lt, NoEvent, still_more, still_back, still_early, still_did}
use Rattle.run_laws.proofs.SlotInvariant.{Did, Got}
use Rattle.run_laws.proofs.SlotEvent.{event_law}
use Rattle.run_laws.proofs.SlotAttach.{attach_law}

module _ (g : ℕ) (h : ℕ → Item) where
  -- nothing changes
  module _ (n : ℕ) (d : NoEvent g h (h n)) (eL : labels g h (suc n) ≡ labels g h n) (eC : clocks g h (suc n) ≡ clocks g h n) (law : Law g h n) where
    same_slot : (u s : ℕ) → (labels g h (suc n)).slot_of u ≡ Some s → (labels g h n).slot_of u ≡ Some s
    same_slot u s f = ap (λ x. x.slot_of u) (sym eL) ∙ f

    same_free : (s : ℕ) → (labels g h (suc n)).free s ≡ (labels g h n).free s
    same_free s = ap (λ x. x.free s) eL

    same_epoch : (s : ℕ) → (labels g h (suc n)).epoch s ≡ (labels g h n).epoch s
    same_epoch s = ap (λ x. x.epoch s) eL

    same_era : (labels g h (suc n)).era ≡ (labels g h n).era
    same_era = ap (λ x. x.era) eL

    same_thread : (u s : ℕ) → (clocks g h (suc n)).thread u s ≡ (clocks g h n).thread u s
    same_thread u s = ap (λ x. x.thread u s) eC

    same_spot : (y : Spot) (s : ℕ) → (clocks g h (suc n)).spot y s ≡ (clocks g h n).spot y s
    same_spot y s = ap (λ x. x.spot y s) eC

    abbrev same_under : (s j : ℕ) → Under g h (suc n) s j → Under g h n s j
    same_under s j u = record { thread = u.thread; what = u.what; item = u.item; slot = u.slot; era = u.era ∙ same_era }

    same_known : (u j : ℕ) → Known g h n u j → Known g h (suc n) u j
    same_known u j (Did i w l f up) = Did i w (omega arith) f up
    same_known u j (Got s f k) = Got s (ap (λ x. x.slot_of u) eL ∙ f) (still_more g h n d (Left s) j k)

    same_known_back : (u j : ℕ) → Known g h (suc n) u j → Known g h n u j
    same_known_back u j (Did i w l f up) = Did i w (still_did g h n d i u w l f) f up
    same_known_back u j (Got s f k) = Got s (same_slot u s f) (still_back g h n d (Left s) j k)

    same_law : Law g h (suc n)
    same_law =
        record {
          one_owner = λ u v s a b. law.one_owner u v s (same_slot u s a) (same_slot v s b);
          not_free = λ u s a. same_free s ∙ law.not_free u s (same_slot u s a);
          pos = λ u s a. let p = law.pos u s (same_slot u s a) in let q = same_epoch s in omega arith;
          epoch_le = λ s j l u. let p = law.epoch_le s j (still_early g h n d s j l u) (same_under s j u) in let q = same_epoch s in omega arith;
          strict = λ s j v l u p f. let a = law.strict s j v (still_early g h n d s j l u) (same_under s j u) p (same_slot v s f) in let q = same_epoch s in omega arith;
          chain_owned = λ s j v l u f. same_known v j (law.chain_owned s j v (still_early g h n d s j l u) (same_under s j u) (same_slot v s f));
          chain_free = λ s j l u f. (still_more g h) n d (Left s) j (law.chain_free s j (still_early g h n d s j l u) (same_under s j u) (sym (same_free s) ∙ f));
          own = λ u s f. same_thread u s ∙ (law.own u s (same_slot u s f) ∙ sym (same_epoch s));
          all_known = λ u s j k un. let a = law.all_known u s j (same_known_back u j k) (same_under s j un) in let c = same_thread u s in omega arith;
          all_kept = λ y s j k un. let a = law.all_kept y s j (still_back g h n d y j k) (same_under s j un) in let c = same_spot y s in omega arith;
          some_known = λ u s f p.
              subst (Ends g h (Known g h (suc n) u) (suc n) s) (sym (same_thread u s))
              (ends_more g h (Known g h n u) (Known g h (suc n) u) n (suc n) s ((clocks g h n).thread u s) (omega arith) (sym same_era) (λ j r k. same_known u j k)
              (law.some_known u s (λ q. f (ap (λ x. x.slot_of u) eL ∙ q)) (subst (λ x. 1 ≤ x) (same_thread u s) p)));
          some_kept = λ y s p.
              subst (Ends g h (Kept g h (suc n) y) (suc n) s) (sym (same_spot y s))
              (ends_more g h (Kept g h n y) (Kept g h (suc n) y) n (suc n) s ((clocks g h n).spot y s) (omega arith) (sym same_era) (λ j r k. (still_more g h) n d y j k)
              (law.some_kept y s (subst (λ x. 1 ≤ x) (same_spot y s) p)));
        }

  -- the beginning, and a new era: nothing is under a slot yet
  module _ (n r : ℕ) (eL : labels g h n ≡ new_era r) (eC : clocks g h n ≡ no_clocks) (fresh : (s j : ℕ) → j < n → Under g h n s j → ⊥) where
    none_held : (u s : ℕ) → (labels g h n).slot_of u ≡ Some s → ⊥
    none_held u s f = let c : None ≡ Some s = sym (ap (λ x. x.slot_of u) eL) ∙ f in cc

    no_thread : (u s : ℕ) → (clocks g h n).thread u s ≡ 0
    no_thread u s = ap (λ x. x.thread u s) eC

    no_spot : (y : Spot) (s : ℕ) → (clocks g h n).spot y s ≡ 0
    no_spot y s = ap (λ x. x.spot y s) eC

    fresh_law : Law g h n
    fresh_law =
        record {
          one_owner = λ u v s a b. absurd (none_held u s a);
          not_free = λ u s a. absurd (none_held u s a);
          pos = λ u s a. absurd (none_held u s a);
          epoch_le = λ s j l u. absurd (fresh s j l u);
          strict = λ s j v l u p f. absurd (fresh s j l u);
          chain_owned = λ s j v l u f. absurd (fresh s j l u);
          chain_free = λ s j l u f. absurd (fresh s j l u);
          own = λ u s f. absurd (none_held u s f);
          all_known = λ u s j k un. absurd (fresh s j (known_lt g h n u j k) un);
          all_kept = λ y s j k un. absurd (fresh s j (kept_lt g h n y j k) un);
          some_known = λ u s f p. absurd (let c = no_thread u s in omega arith);
          some_kept = λ y s p. absurd (let c = no_spot y s in omega arith);
        }

  labels-start : labels g h 0 ≡ new_era 0
  unfolding labels
  labels-start = refl

  clocks-start : clocks g h 0 ≡ no_clocks
  unfolding clocks
  clocks-start = refl

  start_law : Law g h 0
  start_law = fresh_law 0 0 labels-start clocks-start (λ s j l u. absurd (omega arith))

  era_law : (n : ℕ) → h n ≡ NewEra → Law g h (suc n)
  era_law n e =
      let eL = labels-next g h n ∙ ap (next_labels g (labels g h n)) e in
      fresh_law (suc n) ((labels g h n).era + 1) eL
      (clocks-next g h n ∙ ap (next_clocks g (labels g h n) (clocks g h n)) e)
      (λ s j l u. let a = era_mono g h j n (omega arith) in let b = u.era in let c : (labels g h (suc n)).era ≡ (labels g h n).era + 1 = ap (λ x. x.era) eL in omega arith)

  step_law : (n : ℕ) → Law g h n → (it : Item) → h n ≡ it → Law g h (suc n)
  step_law n law (Does t w) e = event_law g h n t w e law
  step_law n law NewEra e = era_law n e
  step_law n law (Notes z Nothing) e =
      same_law n (λ t w f. let c = sym e ∙ f in cc)
      (labels-next g h n ∙ ap (next_labels g (labels g h n)) e)
      (clocks-next g h n ∙ ap (next_clocks g (labels g h n) (clocks g h n)) e)
      law
  step_law n law (Notes z (Leave b)) e =
      same_law n (λ t w f. let c = sym e ∙ f in cc)
      (labels-next g h n ∙ ap (next_labels g (labels g h n)) e)
      (clocks-next g h n ∙ ap (next_clocks g (labels g h n) (clocks g h n)) e)
      law
  step_law n law Past e =
      same_law n (λ t w f. let c = sym e ∙ f in cc)
      (labels-next g h n ∙ ap (next_labels g (labels g h n)) e)
      (clocks-next g h n ∙ ap (next_clocks g (labels g h n) (clocks g h n)) e)
      law
  step_law n law (Notes t (Attach r)) e =
      elim (cases_Bool (can_attach (labels g h n) t r.sid)) [
        | inl c ↦ attach_law g h n t r e c law
        | inr c ↦
            same_law n (λ u w f. let c = sym e ∙ f in cc)
            (labels-next g h n ∙ (ap (next_labels g (labels g h n)) e ∙ rw c refl))
            (clocks-next g h n ∙ (ap (next_clocks g (labels g h n) (clocks g h n)) e ∙ rw c refl))
            law
      ]

  law_at : (n : ℕ) → Law g h n
  law_at zero = start_law
  law_at (suc n) = step_law n (law_at n) (h n) refl

  -- from the invariant to the law. A is an event at a that takes no clock in, and B an event at b under slot s, in one era
  module _ (a b t u s : ℕ) (v w : Event) (still : taken_from t v ≡ None) (isA : h a ≡ Does t v) (isB : h b ≡ Does u w) (under : (labels g h b).slot_of u ≡ Some s) (one_era : (labels g h b).era ≡ (labels g h a).era) where
    abbrev Same : Type 0
    Same = (a < b) × ((labels g h a).slot_of t ≡ Some s) × ((labels g h a).epoch s ≡ (labels g h b).epoch s)

    abbrev bUnder : (n : ℕ) → (labels g h b).era ≡ (labels g h n).era → Under g h n s b
    bUnder n r = record { thread = u; what = w; item = isB; slot = under; era = r }

    told : (labels g h b).epoch s ≤ (clocks g h a).thread t s → SlotBefore g h b a ⊎ ((b ≡ a) ⊎ Same)
    told le = go (holds_cases ((labels g h a).slot_of t) s)
      where
        law : Law g h a
        law = law_at a

        mine : (labels g h a).slot_of t ≡ Some s → ((b ≡ a) ⊎ ((b < a) ⊎ (a < b))) → SlotBefore g h b a ⊎ ((b ≡ a) ⊎ Same)
        mine f (inl q) = inr (inl q)
        mine f (inr (inl l)) = inl (known_before g h a t b v isA one_era (law.chain_owned s b t l (bUnder a one_era) f))
        mine f (inr (inr l)) =
            let o = law.own t s f in
            let m = (law_at b).epoch_le s a l (record { thread = t; what = v; item = isA; slot = f; era = sym one_era }) in
            inr (inr (l, f, omega arith))

        foreign : Ends g h (Known g h a t) a s ((clocks g h a).thread t s) → SlotBefore g h b a ⊎ ((b ≡ a) ⊎ Same)
        foreign x = pick (cases_order b x.at)
          where
            after : SlotBefore g h x.at a
            after = known_before g h a t x.at v isA x.under.era x.known

            pick : ((b ≡ x.at) ⊎ ((b < x.at) ⊎ (x.at < b))) → SlotBefore g h b a ⊎ ((b ≡ a) ⊎ Same)
            pick (inl q) = inl (subst (λ z. SlotBefore g h z a) (sym q) after)
            pick (inr (inl l)) =
                let r = one_era ∙ sym x.under.era in
                inl (Then (known_before g h x.at x.under.thread b x.under.what x.under.item r ((law_at x.at).chain_owned s b x.under.thread l (bUnder x.at r) x.under.slot)) after)
            pick (inr (inr l)) =
                let v : Under g h b s x.at = record { thread = x.under.thread; what = x.under.what; item = x.under.item; slot = x.under.slot; era = x.under.era ∙ sym one_era } in
                let c = (law_at b).strict s x.at u l v x.ends under in
                let c' = x.enough in
                absurd (omega arith)

        go : (((labels g h a).slot_of t ≡ Some s) × (holds ((labels g h a).slot_of t) s ≡ true)) ⊎ (((labels g h a).slot_of t ≡ Some s → ⊥) × (holds ((labels g h a).slot_of t) s ≡ false)) → SlotBefore g h b a ⊎ ((b ≡ a) ⊎ Same)
        go (inl (f, f')) = mine f (cases_order b a)
        go (inr (d, f')) = let p = (law_at b).pos u s under in foreign (law.some_known t s d (omega arith))

    untold : SlotBefore g h b a ⊎ ((b ≡ a) ⊎ Same) → (labels g h b).epoch s ≤ (clocks g h a).thread t s
    untold (inl before) =
        elim (before_cases g h a t b v isA before) [
          | inl k ↦ (law_at a).all_known t s b k (bUnder a one_era)
          | inr k ↦ absurd (let c = sym still ∙ k.1 in cc)
        ]
    untold (inr (inl q)) =
        let same_thread = does_thread u t w v (sym isB ∙ (ap h q ∙ isA)) in
        let f = subst (λ x. (labels g h a).slot_of x ≡ Some s) same_thread (subst (λ x. (labels g h x).slot_of u ≡ Some s) q under) in
        let o = (law_at a).own t s f in
        subst (λ x. (labels g h x).epoch s ≤ (clocks g h a).thread t s) (sym q) (omega arith)
    untold (inr (inr (l, f, e))) = let o = (law_at a).own t s f in omega arith

-- the statement itself
pub slots :
    (g : ℕ) (h : ℕ → Item) (a b t u s : ℕ) (v w : Event) →
    taken_from t v ≡ None → h a ≡ Does t v → h b ≡ Does u w → (labels g h b).slot_of u ≡ Some s → (labels g h b).era ≡ (labels g h a).era →
    ((labels g h b).epoch s ≤ (clocks g h a).thread t s) ↔ (SlotBefore g h b a ⊎ ((b ≡ a) ⊎ ((a < b) × ((labels g h a).slot_of t ≡ Some s) × ((labels g h a).epoch s ≡ (labels g h b).epoch s))))
slots g h a b t u s v w still isA isB under one_era = (told g h a b t u s v w still isA isB under one_era, untold g h a b t u s v w still isA isB under one_era)

-- what the other laws take from the invariant
pub not_free_at : (g : ℕ) (h : ℕ → Item) (n t s : ℕ) → (labels g h n).slot_of t ≡ Some s → (labels g h n).free s ≡ false
not_free_at g h n = (law_at g h n).not_free

pub one_owner_at : (g : ℕ) (h : ℕ → Item) (n t u s : ℕ) → (labels g h n).slot_of t ≡ Some s → (labels g h n).slot_of u ≡ Some s → t ≡ u
one_owner_at g h n = (law_at g h n).one_owner

-- two events under one slot in one era are ordered
pub same_slot_ordered :
    (g : ℕ) (h : ℕ → Item) (i j t u s : ℕ) (v w : Event) →
    i < j → h i ≡ Does t v → h j ≡ Does u w → (labels g h i).slot_of t ≡ Some s → (labels g h j).slot_of u ≡ Some s → (labels g h i).era ≡ (labels g h j).era →
    SlotBefore g h i j
same_slot_ordered g h i j t u s v w l e f p q r =
    known_before g h j u i w f r ((law_at g h j).chain_owned s i u l (record { thread = t; what = v; item = e; slot = p; era = r }) q)

-- and their epochs never fall
pub same_slot_epochs :
    (g : ℕ) (h : ℕ → Item) (i j t s : ℕ) (v : Event) →
    i < j → h i ≡ Does t v → (labels g h i).slot_of t ≡ Some s → (labels g h i).era ≡ (labels g h j).era →
    (labels g h i).epoch s ≤ (labels g h j).epoch s
same_slot_epochs g h i j t s v l e p r = (law_at g h j).epoch_le s i l (record { thread = t; what = v; item = e; slot = p; era = r })

-- what happens before comes before in slot order too
pub slot_before : (g : ℕ) (h : ℕ → Item) {i j : ℕ} → HappensBefore.HappensBefore h i j → SlotBefore g h i j
slot_before g h (HappensBefore.One p) = One (Plain p)
slot_before g h (HappensBefore.Then b c) = Then (slot_before g h b) (slot_before g h c)
