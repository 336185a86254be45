-- Two lawful histories with the same entries before go on in the same way until the round ends.
use Rattle.std.proofs.Common.{◌≡◌, ℕ, zero, suc, ◌+◌, ◌-◌, ◌<◌, ◌≤◌, true, Option, Some, None, List, [], ◌∷◌, ◌++◌, length, refl, sym, ap, ap₂, subst, ◌∙◌, arith, ◌⊎◌, inl, inr}
use Rattle.std.specs.Prelude.{All, option_map}
use Rattle.std.proofs.lemmas.Bool.{cases_lt}
use Rattle.std.proofs.lemmas.List.{append-nil}
use Rattle.std.proofs.lemmas.List.Elements.{All-nil, All-append}
use Rattle.std.proofs.lemmas.List.Sums.{fold-append, sum_by-cons}
use Rattle.run_record.specs.declared.entry.DeskNote.{DeskNote}
use Rattle.run_record.specs.declared.entry.DeskNote.TheVariants.{Nothing, Attach, Leave}
use Rattle.run_record.specs.declared.entry.Label.{Label}
use Rattle.run_record.specs.declared.entry.Entry.{Entry}
use Rattle.run_record.specs.declared.limits.Limits.{Limits}
use Rattle.run_laws.specs.Moments.{moments_in}
use Rattle.run_laws.specs.Faithful.{Bare, after, events_made, state_after}
use Rattle.run_laws.specs.Rounds.{steps_in}
use Rattle.run_laws.specs.Present.{labels_now, label_now, queue_now}
use Rattle.turn_laws.proofs.Shape.{moments_in-push}
use Rattle.one_history.specs.Reached.{ComesTo, Goes, LeavesLabel, LeaveLabels}
use Rattle.one_history.proofs.Split.{Side, Lacks, Told, told, step-side}
use Rattle.one_history.proofs.Stays.{entry_stays}
use Rattle.one_history.proofs.Takes.{takes}
use Rattle.one_history.proofs.Leaves.{leaves, ends_there}
use Rattle.one_history.proofs.Checks.{checks_same}

none_of : (f : ℕ → Label) (o : Option ℕ) → option_map f o ≡ None → o ≡ None
none_of f None q = refl
none_of f (Some s) q = absurd cc

same_entry : (x y : Entry) → x.round ≡ y.round → x.era ≡ y.era → x.stamp ≡ y.stamp → x.tid ≡ y.tid → x.steps ≡ y.steps → x.note ≡ y.note → x.events ≡ y.events → x.checks ≡ y.checks → x ≡ y
same_entry x y r e s t n o es cs = λ i. record { round = r i; era = e i; stamp = s i; tid = t i; steps = n i; note = o i; events = es i; checks = cs i }

same_label : (l m : Label) → l.sid ≡ m.sid → l.epoch ≡ m.epoch → l.era ≡ m.era → l ≡ m
same_label l m s e r = λ i. record { sid = s i; epoch = e i; era = r i }

module _ {S : Type 0} (limits : Limits) (bare : Bare S) (granule_of : ℕ → Option ℕ) (local : LeaveLabels bare) where
  pub comes_after : (s : S) (t n : ℕ) → ComesTo bare s → ((k : ℕ) → k < n → bare.lives (after bare s t k) t ≡ true) → ComesTo bare (after bare s t n)
  comes_after s t zero c a = c
  comes_after s t (suc n) c a = Goes (after bare s t n) t (comes_after s t n c (λ k l. a k (omega arith))) (a n (omega arith))

  local_events : (s : S) (t n : ℕ) → ComesTo bare s → ((k : ℕ) → k < n → bare.lives (after bare s t k) t ≡ true) → ((k : ℕ) → k < n → (bare.step (after bare s t k) t).object ≡ None) → All LeavesLabel (events_made bare s t n)
  local_events s t zero c a o = All-nil LeavesLabel
  local_events s t (suc n) c a o =
      All-append LeavesLabel (events_made bare s t n) (bare.step (after bare s t n) t).events (local_events s t n c (λ k l. a k (omega arith)) (λ k l. o k (omega arith)))
      (local (after bare s t n) t (comes_after s t n c (λ k l. a k (omega arith))) (a n (omega arith)) (o n (omega arith)))

  pub state_push : (xs : List Entry) (x : Entry) → state_after bare (xs ++ x ∷ []) ≡ after bare (state_after bare xs) x.tid x.steps
  state_push xs x = fold-append (λ (s : S) (e : Entry). after bare s e.tid e.steps) bare.start xs (x ∷ [])

  -- what the desk was like before an entry that ended its thread's part too early
  record Short (round era t : ℕ) (xs : List Entry) (u : Entry) : Type 0 where
    unlabelled : (labels_now limits.epochs (moments_in round era xs)).slot_of t ≡ None
    none_free : queue_now limits.epochs limits.slots (moments_in round era xs) ≡ []
    needs : bare.needs_slot (after bare (state_after bare xs) t u.steps) t ≡ true

  -- The entry u has fewer of the instructions that its thread may make, of which only the last may use an object: so it
  -- ends its part, for want of a slot.
  shorter :
      (round era t n : ℕ) (xs : List Entry) (u : Entry) (part tail : List Entry) → Side limits bare granule_of round era t n xs (u ∷ part) tail → ComesTo bare (state_after bare xs) →
      0 < u.steps → (b : ℕ) → u.steps < b → b ≤ n → ((k : ℕ) → k < b → bare.lives (after bare (state_after bare xs) t k) t ≡ true) →
      ((k : ℕ) → k + 1 < b → (bare.step (after bare (state_after bare xs) t k) t).object ≡ None) → Short round era t xs u
  shorter round era t n xs u part tail side comes some b more most alive apart =
      elim (k.last some) [ inl used ↦ absurd (used (apart (u.steps - 1) (omega arith))) | inr ends ↦ alone (ends_there limits bare granule_of round era t n xs u part tail side leaving ends) ]
    where
      k : Told limits bare granule_of round era t xs u part
      k = told limits bare granule_of round era t n xs u part tail side

      leaving : All LeavesLabel u.events
      leaving = subst (All LeavesLabel) (sym k.events) (local_events (state_after bare xs) t u.steps comes k.alive (λ j l. apart j (omega arith)))

      alone : part ≡ [] → Short round era t xs u
      alone q =
          let last = subst (λ (part : List Entry). Side limits bare granule_of round era t n xs (u ∷ part) tail) q side in
          let sum = sum_by-cons (λ (e : Entry). e.steps) u [] in
          let fewer : steps_in (u ∷ []) < n = omega arith in
          let state = state_push xs u ∙ ap (λ v. after bare (state_after bare xs) v u.steps) k.is_of.by in
          let lacks = last.fewer fewer (ap (λ (s : S). bare.lives s t) state ∙ alive u.steps more) in
          let h = moments_in round era xs in
          let shape = ap₂ (λ (r e : ℕ). moments_in r e (xs ++ u ∷ [])) (sym k.is_of.in_round) (sym k.is_of.in_era) ∙ (moments_in-push xs u ∙ ap₂ (λ (r e : ℕ). moments_in r e xs ++ Rattle.run_laws.specs.Moments.entry_moments (length xs) u) k.is_of.in_round k.is_of.in_era) in
          let stays = entry_stays limits.epochs limits.slots t h (length xs) u (k.unnoted some) leaving in
          record {
            unlabelled = sym stays.0 ∙ (ap (λ ms. (labels_now limits.epochs ms).slot_of t) (sym shape) ∙ none_of _ ((labels_now limits.epochs (moments_in round era (xs ++ u ∷ []))).slot_of t) lacks.unlabelled);
            none_free = sym stays.1 ∙ (ap (queue_now limits.epochs limits.slots) (sym shape) ∙ lacks.none_free);
            needs = ap (λ (s : S). bare.needs_slot s t) (sym state) ∙ lacks.needs;
          }

  no_label : (round era t : ℕ) (xs : List Entry) → (labels_now limits.epochs (moments_in round era xs)).slot_of t ≡ None → label_now limits.epochs (moments_in round era xs) t ≡ None
  no_label round era t xs q = ap (option_map (λ (s : ℕ). record { sid = s; epoch = (labels_now limits.epochs (moments_in round era xs)).epoch s; era = (labels_now limits.epochs (moments_in round era xs)).era })) q

  -- the next entry's instructions are no more than the given ones
  most_of : (n : ℕ) (x : Entry) (part : List Entry) → steps_in (x ∷ part) ≤ n → x.steps + steps_in part ≤ n
  most_of n x part l = let sum = sum_by-cons (λ (e : Entry). e.steps) x part in omega arith

  module _ (round era t : ℕ) where
    -- an entry of instructions isn't longer than that of the other history
    not_longer :
        (n : ℕ) (xs : List Entry) (x y : Entry) (pa ta pb tb : List Entry) → Side limits bare granule_of round era t n xs (x ∷ pa) ta → Side limits bare granule_of round era t n xs (y ∷ pb) tb → ComesTo bare (state_after bare xs) →
        0 < x.steps → x.steps < y.steps → ⊥
    not_longer n xs x y pa ta pb tb a b comes some more =
        let told_y = told limits bare granule_of round era t n xs y pb tb b in
        let most = most_of n y pb b.no_more in
        let short = shorter round era t n xs x pa ta a comes some y.steps more (omega arith) told_y.alive told_y.apart in
        told_y.labelled x.steps more short.needs (no_label round era t xs short.unlabelled)

    -- where one history takes a label next, the other doesn't go on with instructions
    not_taken :
        (n : ℕ) (xs : List Entry) (x y : Entry) (pa ta pb tb : List Entry) (l : Label) → Side limits bare granule_of round era t n xs (x ∷ pa) ta → Side limits bare granule_of round era t n xs (y ∷ pb) tb → ComesTo bare (state_after bare xs) →
        x.note ≡ Attach l → 0 < y.steps → ⊥
    not_taken n xs x y pa ta pb tb l a b comes note some =
        let taking = takes limits bare granule_of round era t n xs x pa ta l a note in
        let told_y = told limits bare granule_of round era t n xs y pb tb b in
        let z = taking.next in
        let within = taking.within in
        let further = subst (λ (part : List Entry). Side limits bare granule_of round era t (n - x.steps) (xs ++ x ∷ []) part ta) taking.part_is (step-side limits bare granule_of round era t n xs x pa ta a) in
        let told_z = told limits bare granule_of round era t (n - x.steps) (xs ++ x ∷ []) z taking.rest ta further in
        let most = most_of (n - x.steps) z taking.rest further.no_more in
        elim (cases_lt y.steps z.steps) [
          | inl more ↦
              let short = shorter round era t n xs y pb tb b comes some z.steps more (omega arith)
              (λ k l. ap (λ (s : S). bare.lives (after bare s t k) t) (sym taking.same_state) ∙ told_z.alive k l)
              (λ k l. ap (λ (s : S). (bare.step (after bare s t k) t).object) (sym taking.same_state) ∙ told_z.apart k l) in
              let clash = sym short.none_free ∙ taking.front in
              cc
          | inr less ↦ told_y.labelled taking.place (omega arith) taking.needs (no_label round era t xs taking.unlabelled)
        ]

    -- where one history goes on in the round, the other does too
    not_ended : (n : ℕ) (xs : List Entry) (y : Entry) (ta pb tb : List Entry) → Side limits bare granule_of round era t n xs [] ta → Side limits bare granule_of round era t n xs (y ∷ pb) tb → ⊥
    not_ended n xs y ta pb tb a b = elim (cases_lt 0 y.steps) [
      | inl some ↦
          let most = most_of n y pb b.no_more in
          let lacking = lacks (omega arith) (told_y.alive 0 some) in
          told_y.labelled 0 some lacking.needs lacking.unlabelled
      | inr none ↦ by_note (omega arith) y.note refl
    ]
      where
        told_y : Told limits bare granule_of round era t xs y pb
        told_y = told limits bare granule_of round era t n xs y pb tb b

        lacks : 0 < n → bare.lives (state_after bare xs) t ≡ true → Lacks limits bare granule_of round era t xs
        lacks l alive =
            let same : xs ++ [] ≡ xs = append-nil xs in
            subst (Lacks limits bare granule_of round era t) same (a.fewer l (ap (λ (es : List Entry). bare.lives (state_after bare es) t) same ∙ alive))

        by_note : y.steps ≡ 0 → (o : DeskNote) → y.note ≡ o → ⊥
        by_note none Nothing q = (told_y.noted none).0 q
        by_note none (Attach l) q =
            let taking = takes limits bare granule_of round era t n xs y pb tb l b q in
            let within = taking.within in
            let further = subst (λ (part : List Entry). Side limits bare granule_of round era t (n - y.steps) (xs ++ y ∷ []) part tb) taking.part_is (step-side limits bare granule_of round era t n xs y pb tb b) in
            let told_z = told limits bare granule_of round era t (n - y.steps) (xs ++ y ∷ []) taking.next taking.rest tb further in
            let most = most_of (n - y.steps) taking.next taking.rest further.no_more in
            let lacking = lacks (omega arith) (ap (λ (s : S). bare.lives s t) (sym taking.same_state) ∙ told_z.alive 0 (omega arith)) in
            let clash = sym lacking.none_free ∙ taking.front in
            cc
        by_note none (Leave l) q =
            let left = leaves limits bare granule_of round era t n n xs y [] ta pb tb l a b q in
            let clash = left.2 in
            cc

    -- both leave a label, or the one that leaves it is followed by the other
    both_leave : (n : ℕ) (xs : List Entry) (x y : Entry) (pa ta pb tb : List Entry) (l : Label) → Side limits bare granule_of round era t n xs (x ∷ pa) ta → Side limits bare granule_of round era t n xs (y ∷ pb) tb → y.note ≡ Leave l → x.note ≡ Leave l
    both_leave n xs x y pa ta pb tb l a b q =
        let left = leaves limits bare granule_of round era t n n xs y (x ∷ pa) ta pb tb l a b q in
        let same : x ≡ left.0 = (let z = left.2 in cc) in
        ap (λ (e : Entry). e.note) same ∙ left.3

    -- both take the same label
    both_take : (n : ℕ) (xs : List Entry) (x y : Entry) (pa ta pb tb : List Entry) (l m : Label) → Side limits bare granule_of round era t n xs (x ∷ pa) ta → Side limits bare granule_of round era t n xs (y ∷ pb) tb → x.note ≡ Attach l → y.note ≡ Attach m → x.note ≡ y.note
    both_take n xs x y pa ta pb tb l m a b p q =
        let mine = takes limits bare granule_of round era t n xs x pa ta l a p in
        let yours = takes limits bare granule_of round era t n xs y pb tb m b q in
        let front = sym mine.front ∙ yours.front in
        let sid : l.sid ≡ m.sid = cc in
        let epoch = mine.new_epoch ∙ (ap (λ s. (labels_now limits.epochs (moments_in round era xs)).epoch s + 1) sid ∙ sym yours.new_epoch) in
        p ∙ (ap Attach (same_label l m sid epoch (mine.present_era ∙ sym yours.present_era)) ∙ sym q)

    module _ (n : ℕ) (xs : List Entry) (x y : Entry) (pa ta pb tb : List Entry) (a : Side limits bare granule_of round era t n xs (x ∷ pa) ta) (b : Side limits bare granule_of round era t n xs (y ∷ pb) tb) (comes : ComesTo bare (state_after bare xs)) where
      told_x : Told limits bare granule_of round era t xs x pa
      told_x = told limits bare granule_of round era t n xs x pa ta a

      told_y : Told limits bare granule_of round era t xs y pb
      told_y = told limits bare granule_of round era t n xs y pb tb b

      same_note : ((0 < x.steps) ⊎ (x.steps ≤ 0)) → ((0 < y.steps) ⊎ (y.steps ≤ 0)) → (x.note ≡ y.note) × (x.steps ≡ y.steps)
      same_note (inl some) (inl more) = (
        told_x.unnoted some ∙ sym (told_y.unnoted more),
        elim (cases_lt x.steps y.steps) [
          | inl l ↦ absurd (not_longer n xs x y pa ta pb tb a b comes some l)
          | inr l ↦ elim (cases_lt y.steps x.steps) [ inl m ↦ absurd (not_longer n xs y x pb tb pa ta b a comes more m) | inr m ↦ omega arith ]
        ],
      )
      same_note (inl some) (inr none) = absurd (by_note y.note refl)
        where
          by_note : (o : DeskNote) → y.note ≡ o → ⊥
          by_note Nothing q = (told_y.noted (omega arith)).0 q
          by_note (Attach l) q = not_taken n xs y x pb tb pa ta l b a comes q some
          by_note (Leave l) q = let z = sym (told_x.unnoted some) ∙ both_leave n xs x y pa ta pb tb l a b q in cc
      same_note (inr none) (inl some) = absurd (by_note x.note refl)
        where
          by_note : (o : DeskNote) → x.note ≡ o → ⊥
          by_note Nothing q = (told_x.noted (omega arith)).0 q
          by_note (Attach l) q = not_taken n xs x y pa ta pb tb l a b comes q some
          by_note (Leave l) q = let z = sym (told_y.unnoted some) ∙ both_leave n xs y x pb tb pa ta l b a q in cc
      same_note (inr none) (inr nothing) = (by_notes x.note y.note refl refl, omega arith)
        where
          by_notes : (o p : DeskNote) → x.note ≡ o → y.note ≡ p → x.note ≡ y.note
          by_notes Nothing p q r = absurd ((told_x.noted (omega arith)).0 q)
          by_notes o Nothing q r = absurd ((told_y.noted (omega arith)).0 r)
          by_notes (Attach l) (Attach m) q r = both_take n xs x y pa ta pb tb l m a b q r
          by_notes (Leave l) p q r = q ∙ sym (both_leave n xs y x pb tb pa ta l b a q)
          by_notes o (Leave l) q r = both_leave n xs x y pa ta pb tb l a b r ∙ sym r

      pub same_next : x ≡ y
      same_next =
          let notes = same_note (cases_lt 0 x.steps) (cases_lt 0 y.steps) in
          let events = told_x.events ∙ (ap (events_made bare (state_after bare xs) t) notes.1 ∙ sym told_y.events) in
          let rounds = told_x.is_of.in_round ∙ sym told_y.is_of.in_round in
          let eras = told_x.is_of.in_era ∙ sym told_y.is_of.in_era in
          let tids = told_x.is_of.by ∙ sym told_y.is_of.by in
          same_entry x y rounds eras (told_x.stamp ∙ sym told_y.stamp) tids notes.1 notes.0 events
          (checks_same limits bare granule_of xs x y (pa ++ ta) (pb ++ tb) a.lawful b.lawful rounds eras tids notes.0 events)

    pub comes_next : (n : ℕ) (xs : List Entry) (x : Entry) (part tail : List Entry) → Side limits bare granule_of round era t n xs (x ∷ part) tail → ComesTo bare (state_after bare xs) → ComesTo bare (state_after bare (xs ++ x ∷ []))
    comes_next n xs x part tail side comes =
        let k = told limits bare granule_of round era t n xs x part tail side in
        subst (ComesTo bare) (sym (state_push xs x ∙ ap (λ u. after bare (state_after bare xs) u x.steps) k.is_of.by)) (comes_after (state_after bare xs) t x.steps comes k.alive)

    -- the rest of the round
    pub same_part : (n : ℕ) (xs pa ta pb tb : List Entry) → Side limits bare granule_of round era t n xs pa ta → Side limits bare granule_of round era t n xs pb tb → ComesTo bare (state_after bare xs) → pa ≡ pb
    same_part n xs [] ta [] tb a b comes = refl
    same_part n xs [] ta (y ∷ pb) tb a b comes = absurd (not_ended n xs y ta pb tb a b)
    same_part n xs (x ∷ pa) ta [] tb a b comes = absurd (not_ended n xs x tb pa ta b a)
    same_part n xs (x ∷ pa) ta (y ∷ pb) tb a b comes =
        let q : x ≡ y = same_next n xs x y pa ta pb tb a b comes in
        ap₂ (λ (e : Entry) (es : List Entry). e ∷ es) q
        (same_part (n - x.steps) (xs ++ x ∷ []) pa ta pb tb (step-side limits bare granule_of round era t n xs x pa ta a)
        (subst (λ (e : Entry). Side limits bare granule_of round era t (n - e.steps) (xs ++ e ∷ []) pb tb) (sym q) (step-side limits bare granule_of round era t n xs y pb tb b))
        (comes_next n xs x pa ta a comes))
