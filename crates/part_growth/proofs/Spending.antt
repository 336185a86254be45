-- Which label the last event of an instruction spends, and what is owed then.
use Rattle.std.proofs.Common.{◌≡◌, ◌≤◌, ℕ, Bool, true, false, Option, Some, None, List, [], ◌∷◌, ◌++◌, refl, ap, sym, ◌∙◌, arith, eq-eqb, eqb-true}
use Rattle.std.specs.Prelude.{◌==◌, nat_lt, if◌then◌else◌}
use Rattle.std.proofs.lemmas.Bool.{ltb-true, ltb-false}
use Rattle.run_record.specs.declared.limits.Limits.{Limits}
use Rattle.run_record.specs.declared.event.Event.{Event}
use Rattle.run_record.specs.declared.event.Event.TheVariants as events
use Rattle.run_record.specs.declared.entry.Label.{Label}
use Rattle.run_laws.specs.Labels.{raises, is_end}
use Rattle.slot_desk.specs.Desks.{DeskContents}
use Rattle.sync_slab.specs.Objects.{SyncObjects}
use Rattle.race_core.specs.Watched.{Watched, next_label, next_epoch}
use Rattle.thread_events.specs.Heard.{lost_label_to, watcher_after}
use Rattle.part_growth.specs.Growth.{nothing, SpendsBy, IsOwedBy, spent_by, owing_of}

one_is_zero : (n : ℕ) → n ≡ 1 → n ≡ 0 → ⊥
one_is_zero n p q = omega arith

-- An event that neither raises the epoch nor ends the thread leaves the label.
pub label_stays : (told : Option (List ℕ)) (set : SyncObjects) (d : DeskContents) (e : Event) (w : Watched) → raises e ≡ 0 → is_end e ≡ false →
    (watcher_after told set d e w).label ≡ w.label
label_stays told set d (events.Release addr part replaces) w r n = absurd (one_is_zero 1 refl r)
label_stays told set d (events.Create child) w r n = absurd (one_is_zero 1 refl r)
label_stays told set d events.End w r n = absurd (cc)
label_stays told set d events.Begin w r n = refl
label_stays told set d (events.Join of) w r n = refl
label_stays told set d (events.Acquire addr part) w r n = refl
label_stays told set d (events.Enter frame) w r n = refl
label_stays told set d events.Leave w r n = refl
label_stays told set d (events.Lock addr read) w r n = refl
label_stays told set d (events.Unlock addr read) w r n = refl
label_stays told set d (events.Destroy addr) w r n = refl
label_stays told set d (events.Access place addr size read atomic) w r n = refl
label_stays told set d (events.Put value count) w r n = refl
label_stays told set d (events.Clear addr) w r n = refl

-- ---- the last event

same_last : {X : Type 0} (xs ys : List X) (x y : X) → xs ++ x ∷ [] ≡ ys ++ y ∷ [] → x ≡ y
same_last [] [] x y q = (let r : x ∷ [] ≡ y ∷ [] = q in cc)
same_last [] (b ∷ []) x y q = absurd (let r : x ∷ [] ≡ b ∷ (y ∷ []) = q in cc)
same_last [] (b ∷ (c ∷ ys)) x y q = absurd (let r : x ∷ [] ≡ b ∷ (c ∷ (ys ++ y ∷ [])) = q in cc)
same_last (a ∷ []) [] x y q = absurd (let r : a ∷ (x ∷ []) ≡ y ∷ [] = q in cc)
same_last (a ∷ (c ∷ xs)) [] x y q = absurd (let r : a ∷ (c ∷ (xs ++ x ∷ [])) ≡ y ∷ [] = q in cc)
same_last (a ∷ xs) (b ∷ ys) x y q = let r : a ∷ (xs ++ x ∷ []) ≡ b ∷ (ys ++ y ∷ []) = q in same_last xs ys x y (cc)

none_ends : {X : Type 0} (xs : List X) (x : X) → [] ≡ xs ++ x ∷ [] → ⊥
none_ends [] x q = absurd (let r : [] ≡ x ∷ [] = q in cc)
none_ends (a ∷ xs) x q = absurd (let r : [] ≡ a ∷ (xs ++ x ∷ []) = q in cc)

-- an instruction without events spends nothing
pub none_owed : (limits : Limits) (w : Watched) → IsOwedBy limits w [] nothing
none_owed limits w l s = none_ends s.before s.event s.last

module _ (limits : Limits) (w : Watched) (before : List Event) (event : Event) where
  abbrev es : List Event
  es = before ++ event ∷ []

  raising : (l : Label) → SpendsBy limits w es l → raises event ≡ 1
  raising l s = ap raises (same_last before s.before event s.event s.last) ∙ s.raising

  same_label : (x y : Label) → Some x ≡ Some y → x ≡ y
  same_label x y z = cc

  -- where the label can rise none is spent
  by_epoch : (l : Label) (g : ℕ) → w.label ≡ Some l → l.epoch ≤ limits.epochs → g ≡ limits.epochs → raises event ≡ 1 → (less : Bool) →
      nat_lt l.epoch g ≡ less → IsOwedBy limits w es (owing_of (lost_label_to (if less then Some (next_epoch l) else None) (Some l)))
  by_epoch l g is most top r true less = λ m s.
      let below = ltb-true l.epoch g less in
      let same : m.epoch ≡ l.epoch = ap (λ (x : Label). x.epoch) (same_label m l (sym s.label ∙ is)) in
      let greatest = s.greatest in
      omega (arith, below, same, greatest, top)
  by_epoch l g is most top r false less = record {
    before = before;
    event = event;
    last = refl;
    raising = r;
    label = is;
    greatest = let above = ltb-false l.epoch g less in omega (arith, above, most, top);
  }

  by_label : (o : Option Label) (g : ℕ) → w.label ≡ o → ((l : Label) → o ≡ Some l → l.epoch ≤ limits.epochs) → g ≡ limits.epochs → raises event ≡ 1 →
      IsOwedBy limits w es (owing_of (lost_label_to (next_label g o) o))
  by_label None g is most top r = λ l s. absurd (none_some l (sym is ∙ s.label))
    where
      none_some : (x : Label) → None ≡ Some x → ⊥
      none_some x q = absurd (cc)
  by_label (Some l) g is most top r = by_epoch l g is (most l refl) top r (nat_lt l.epoch g) refl

  by_raise : (b : Bool) → (raises event == 1) ≡ b → (o : Option Label) (g : ℕ) → w.label ≡ o → ((l : Label) → o ≡ Some l → l.epoch ≤ limits.epochs) →
      g ≡ limits.epochs → IsOwedBy limits w es (owing_of (if b then lost_label_to (next_label g o) o else None))
  by_raise true e o g is most top = by_label o g is most top (eqb-true (raises event) 1 e)
  by_raise false e o g is most top = λ l s. absurd (let q = eq-eqb (raises event) 1 (raising l s) in cc)

-- What is owed after an instruction is the leave of the label that its last event spends, if it spends one.
pub spent_owed : (limits : Limits) (w last : Watched) (before : List Event) (event : Event) → last.label ≡ w.label → last.greatest ≡ limits.epochs →
    ((l : Label) → last.label ≡ Some l → l.epoch ≤ limits.epochs) → IsOwedBy limits w (before ++ event ∷ []) (owing_of (spent_by event last))
spent_owed limits w last before event same top most = by_raise limits w before event (raises event == 1) refl last.label last.greatest (sym same) most top
