-- How the clocks at a desk go with those of a history.
use Rattle.std.proofs.Common.{◌≡◌, ◌<◌, ◌≤◌, ◌+◌, ◌==◌, ℕ, zero, suc, Bool, true, false, Some, None, List, [], ◌∷◌, length, set, map, replicate, refl, sym, ap, subst, ◌∙◌, inl, inr, arith, eq-eqb, ne_eqb}
use Rattle.std.proofs.Math.ListN.{length-set, length-map, length-replicate, get_or-eq_default}
use Rattle.std.proofs.lemmas.Bool.{cases_lt, cases_Bool}
use Rattle.std.proofs.lemmas.List.{get_or-replicate}
use Rattle.run_record.specs.declared.event.Event.{Event}
use Rattle.run_record.specs.declared.event.Event.TheVariants.{Create, End}
use Rattle.run_laws.specs.Labels.{Labels, is_end}
use Rattle.run_laws.specs.Clocks.{Clocks, Given, Ended, Spot, Of, Left, left_at, leaves, empties, event_clocks, no_clocks}
use Rattle.run_laws.proofs.Places.{is_place-true, left_given, left_ended}
use Rattle.slot_desk.specs.Desks.{SlotContents, ThreadContents, no_slot, no_thread, fresh_slot}
use Rattle.slot_desk.specs.Steps.{ended_slot, forgotten}
use Rattle.slot_desk.specs.History.{Tells, AreLeft, AreTold, slot_at, thread_at, epoch_told}
use Rattle.slot_desk.proofs.DeskLists.{at_each_set}

spot_stays : (g : ℕ) (l : Labels) (k : Clocks) (t : ℕ) (w : Event) (y : Spot) (r : ℕ) → leaves l t w y ≡ false → empties l t w y ≡ false → (event_clocks g l k t w).spot y r ≡ k.spot y r
spot_stays g l k t w y r e f = rw (e, f) (omega arith)

-- only a Create leaves a clock for its thread, and only an End one of its own
pub given_stays : (g : ℕ) (l : Labels) (k : Clocks) (t : ℕ) (w : Event) (u r : ℕ) → (w ≡ Create u → ⊥) → (event_clocks g l k t w).spot (Of (Given u)) r ≡ k.spot (Of (Given u)) r
given_stays g l k t w u r d =
    spot_stays g l k t w (Of (Given u)) r
    (elim (cases_Bool (leaves l t w (Of (Given u)))) [ inr e ↦ e | inl e ↦ absurd (d (left_given t w u (is_place-true (left_at t w) (Given u) e))) ])
    refl

pub ended_stays : (g : ℕ) (l : Labels) (k : Clocks) (t : ℕ) (w : Event) (u r : ℕ) → (w ≡ End → t ≡ u → ⊥) → (event_clocks g l k t w).spot (Of (Ended u)) r ≡ k.spot (Of (Ended u)) r
ended_stays g l k t w u r d =
    spot_stays g l k t w (Of (Ended u)) r
    (elim (cases_Bool (leaves l t w (Of (Ended u)))) [ inr e ↦ e | inl e ↦ absurd (let z = left_ended t w u (is_place-true (left_at t w) (Ended u) e) in d z.0 z.1) ])
    refl

pub left_stays : (g : ℕ) (l : Labels) (k : Clocks) (t : ℕ) (w : Event) (s r : ℕ) → is_end w ≡ false → (event_clocks g l k t w).spot (Left s) r ≡ k.spot (Left s) r
left_stays g l k t w s r e = spot_stays g l k t w (Left s) r (rw e refl) (rw e refl)

-- where no clock changes there
pub told_same : (n : ℕ) (k m : Clocks) (made : ℕ) (threads : List ThreadContents) → ((u r : ℕ) → m.spot (Of (Given u)) r ≡ k.spot (Of (Given u)) r) → ((u r : ℕ) → m.spot (Of (Ended u)) r ≡ k.spot (Of (Ended u)) r) → AreTold n k made threads → AreTold n m made threads
told_same n k m made threads e f b =
    record {
      all_threads = b.all_threads;
      few_made = b.few_made;
      long = b.long;
      given = λ u r l a. e u r ∙ b.given u r l a;
      ended = λ u r l a. f u r ∙ b.ended u r l a;
      living = λ u r l a. f u r ∙ b.living u r l a;
      unmade = b.unmade;
      ungiven = λ u r l a. e u r ∙ b.ungiven u r l a;
      untold = b.untold;
    }

pub left_same : (n : ℕ) (k m : Clocks) (slots : List SlotContents) → ((s r : ℕ) → m.spot (Left s) r ≡ k.spot (Left s) r) → AreLeft n k slots → AreLeft n m slots
left_same n k m slots e b = record { long = b.long; known = λ s l r i. e s r ∙ b.known s l r i }

-- where the slot keeps the clock that was left in it
pub left_kept : (n : ℕ) (k : Clocks) (slots : List SlotContents) (s : ℕ) (x : SlotContents) → s < length slots → x.left ≡ (slot_at slots s).left → AreLeft n k slots → AreLeft n k (set slots s x)
left_kept n k slots s x within e b =
    record {
      long = at_each_set (λ r (y : SlotContents). r < n → length y.left ≡ n) slots s x no_slot within (λ l. ap length e ∙ b.long s l) (λ r d. b.long r);
      known = at_each_set (λ r (y : SlotContents). r < n → Tells n y.left (k.spot (Left r))) slots s x no_slot within (λ l. rw e (b.known s l)) (λ r d. b.known r);
    }

-- a thread is made
pub told_create :
    (g n : ℕ) (l : Labels) (k : Clocks) (made : ℕ) (threads : List ThreadContents) (t : ℕ) (clock : List ℕ) → AreTold n k made threads → (made ≡ 1024 → ⊥) → length clock ≡ n → Tells n clock (k.thread t) →
    AreTold n (event_clocks g l k t (Create made)) (made + 1) (set threads made (record { lives = true; told = Some clock }))
told_create g n l k made threads t clock b more long tells =
    record {
      all_threads = length-set threads made (record { lives = true; told = Some clock }) ∙ b.all_threads;
      few_made = let a = b.few_made in omega arith;
      long = at_each_set (λ u (x : ThreadContents). (c : List ℕ) → x.told ≡ Some c → length c ≡ n) threads made new no_thread inside (λ c e. let z : clock ≡ c = cc in subst (λ x. length x ≡ n) z long) (λ u d. b.long u);
      given = at_each_set (λ u (x : ThreadContents). (r : ℕ) → r < n → x.lives ≡ true → (event_clocks g l k t (Create made)).spot (Of (Given u)) r ≡ epoch_told x.told r) threads made new no_thread inside
          (λ r i a. rw (eq-eqb made made refl) (let z = b.ungiven made r i (omega arith) in let y = tells r i in omega arith))
          (λ u d r i a. given_stays g l k t (Create made) u r (λ e. d (let z : made ≡ u = cc in sym z)) ∙ b.given u r i a);
      ended = at_each_set (λ u (x : ThreadContents). (r : ℕ) → r < n → x.lives ≡ false → (event_clocks g l k t (Create made)).spot (Of (Ended u)) r ≡ epoch_told x.told r) threads made new no_thread inside
          (λ r i a. absurd (cc))
          (λ u d r i a. ended_stays g l k t (Create made) u r (λ e. absurd (cc)) ∙ b.ended u r i a);
      living = at_each_set (λ u (x : ThreadContents). (r : ℕ) → r < n → x.lives ≡ true → (event_clocks g l k t (Create made)).spot (Of (Ended u)) r ≡ 0) threads made new no_thread inside
          (λ r i a. ended_stays g l k t (Create made) made r (λ e. absurd (cc)) ∙ (b.ended made r i (b.unmade made (omega arith)) ∙ rw (b.untold made (omega arith)) refl))
          (λ u d r i a. ended_stays g l k t (Create made) u r (λ e. absurd (cc)) ∙ b.living u r i a);
      unmade = at_each_set (λ u (x : ThreadContents). made + 1 ≤ u → x.lives ≡ false) threads made new no_thread inside (λ a. absurd (omega arith)) (λ u d a. b.unmade u (omega arith));
      ungiven = λ u r i a. given_stays g l k t (Create made) u r (λ e. let z : made ≡ u = cc in omega arith) ∙ b.ungiven u r i (omega arith);
      untold = at_each_set (λ u (x : ThreadContents). made + 1 ≤ u → x.told ≡ None) threads made new no_thread inside (λ a. absurd (omega arith)) (λ u d a. b.untold u (omega arith));
    }
  where
    new : ThreadContents
    new = record { lives = true; told = Some clock }

    inside : made < length threads
    inside = let a = b.all_threads in let c = b.few_made in omega arith

-- a thread ends
pub told_end :
    (g n : ℕ) (l : Labels) (k : Clocks) (made : ℕ) (threads : List ThreadContents) (t : ℕ) (clock : List ℕ) → AreTold n k made threads → (thread_at threads t).lives ≡ true → length clock ≡ n → Tells n clock (k.thread t) →
    AreTold n (event_clocks g l k t End) made (set threads t (record { lives = false; told = Some clock }))
told_end g n l k made threads t clock b alive long tells =
    record {
      all_threads = length-set threads t (record { lives = false; told = Some clock }) ∙ b.all_threads;
      few_made = b.few_made;
      long = at_each_set (λ u (x : ThreadContents). (c : List ℕ) → x.told ≡ Some c → length c ≡ n) threads t new no_thread inside (λ c e. let z : clock ≡ c = cc in subst (λ x. length x ≡ n) z long) (λ u d. b.long u);
      given = at_each_set (λ u (x : ThreadContents). (r : ℕ) → r < n → x.lives ≡ true → (event_clocks g l k t End).spot (Of (Given u)) r ≡ epoch_told x.told r) threads t new no_thread inside
          (λ r i a. absurd (cc))
          (λ u d r i a. given_stays g l k t End u r (λ e. absurd (cc)) ∙ b.given u r i a);
      ended = at_each_set (λ u (x : ThreadContents). (r : ℕ) → r < n → x.lives ≡ false → (event_clocks g l k t End).spot (Of (Ended u)) r ≡ epoch_told x.told r) threads t new no_thread inside
          (λ r i a. rw (eq-eqb t t refl) (let z = b.living t r i alive in let y = tells r i in omega arith))
          (λ u d r i a. ended_stays g l k t End u r (λ e q. d (sym q)) ∙ b.ended u r i a);
      living = at_each_set (λ u (x : ThreadContents). (r : ℕ) → r < n → x.lives ≡ true → (event_clocks g l k t End).spot (Of (Ended u)) r ≡ 0) threads t new no_thread inside
          (λ r i a. absurd (cc))
          (λ u d r i a. ended_stays g l k t End u r (λ e q. d (sym q)) ∙ b.living u r i a);
      unmade = at_each_set (λ u (x : ThreadContents). made ≤ u → x.lives ≡ false) threads t new no_thread inside (λ a. refl) (λ u d a. b.unmade u a);
      ungiven = λ u r i a. given_stays g l k t End u r (λ e. absurd (cc)) ∙ b.ungiven u r i a;
      untold = at_each_set (λ u (x : ThreadContents). made ≤ u → x.told ≡ None) threads t new no_thread inside (λ a. absurd (let z = b.unmade t a in cc)) (λ u d a. b.untold u a);
    }
  where
    new : ThreadContents
    new = record { lives = false; told = Some clock }

    inside : t < length threads
    inside = elim (cases_lt t (length threads)) [ inl m ↦ m | inr m ↦ absurd (let z = rw (get_or-eq_default threads no_thread {n = t} m) at alive in cc) ]

pub left_end :
    (g n : ℕ) (l : Labels) (k : Clocks) (slots : List SlotContents) (t s epoch : ℕ) (is_last : Bool) (clock : List ℕ) → AreLeft n k slots → l.slot_of t ≡ Some s → s < length slots → length clock ≡ n → Tells n clock (k.thread t) →
    AreLeft n (event_clocks g l k t End) (set slots s (ended_slot epoch is_last clock (slot_at slots s)))
left_end g n l k slots t s epoch is_last clock b e within long tells =
    record {
      long = at_each_set (λ r (y : SlotContents). r < n → length y.left ≡ n) slots s (ended_slot epoch is_last clock (slot_at slots s)) no_slot within (λ i. long) (λ r d. b.long r);
      known = at_each_set (λ r (y : SlotContents). r < n → Tells n y.left ((event_clocks g l k t End).spot (Left r))) slots s (ended_slot epoch is_last clock (slot_at slots s)) no_slot within
          (λ i r j. rw (e, eq-eqb s s refl) (let y = tells r j in omega arith))
          (λ r d i q j. let z : (s == r) ≡ false = ne_eqb s r (λ x. d (sym x)) in spot_stays g l k t End (Left r) q (rw (e, z) refl) (rw (e, z) refl) ∙ b.known r i q j);
    }

-- an era begins
pub left_fresh : (n : ℕ) → AreLeft n no_clocks (replicate n (fresh_slot n))
left_fresh n =
    record {
      long = λ s i. rw (get_or-replicate n s (fresh_slot n) no_slot i) (length-replicate n 0);
      known = λ s i r j. rw (get_or-replicate n s (fresh_slot n) no_slot i) (sym (get_or-replicate n r 0 0 j));
    }

forgotten_at : (threads : List ThreadContents) (u : ℕ) → thread_at (map forgotten threads) u ≡ forgotten (thread_at threads u)
forgotten_at [] u = refl
forgotten_at (t ∷ threads) zero = refl
forgotten_at (t ∷ threads) (suc u) = forgotten_at threads u

pub told_fresh : (n : ℕ) (k : Clocks) (made : ℕ) (threads : List ThreadContents) → AreTold n k made threads → AreTold n no_clocks made (map forgotten threads)
told_fresh n k made threads b =
    record {
      all_threads = rw length-map b.all_threads;
      few_made = b.few_made;
      long = λ u c e. absurd (let z = rw (forgotten_at threads u) at e in cc);
      given = λ u r i a. rw (forgotten_at threads u) refl;
      ended = λ u r i a. rw (forgotten_at threads u) refl;
      living = λ u r i a. refl;
      unmade = λ u a. rw (forgotten_at threads u) (b.unmade u a);
      ungiven = λ u r i a. refl;
      untold = λ u a. rw (forgotten_at threads u) refl;
    }

-- the main thread alone was made
pub told_first : (n m : ℕ) → m ≡ 1023 → AreTold n no_clocks 1 (record { lives = true; told = None } ∷ replicate m no_thread)
told_first n m e =
    record {
      all_threads = let a = length-replicate m no_thread in omega arith;
      few_made = omega arith;
      long = λ u c q. absurd (let z = none u in cc);
      given = λ u r i a. rw (none u) refl;
      ended = λ u r i a. rw (none u) refl;
      living = λ u r i a. refl;
      unmade = unmade;
      ungiven = λ u r i a. refl;
      untold = λ u a. none u;
    }
  where
    others : (m u : ℕ) → thread_at (replicate m no_thread) u ≡ no_thread
    others zero u = refl
    others (suc m) zero = refl
    others (suc m) (suc u) = others m u

    none : (u : ℕ) → (thread_at (record { lives = true; told = None } ∷ replicate m no_thread) u).told ≡ None
    none zero = refl
    none (suc u) = ap (λ (x : ThreadContents). x.told) (others m u)

    unmade : (u : ℕ) → 1 ≤ u → (thread_at (record { lives = true; told = None } ∷ replicate m no_thread) u).lives ≡ false
    unmade zero a = absurd (omega arith)
    unmade (suc u) a = ap (λ (x : ThreadContents). x.lives) (others m u)
