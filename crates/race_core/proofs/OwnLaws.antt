-- No clock knows more of a slot than its epoch, and a thread's own clock knows just that of the slot that it holds.
use Rattle.std.proofs.Common.{◌≡◌, ◌≤◌, ◌+◌, ◌==◌, ◌&&◌, ◌⊎◌, max, ℕ, zero, suc, Bool, true, false, if◌then◌else◌, nat_lt, Option, Some, None, refl, sym, ap, inl, inr, arith, eq-eqb, ne_eqb, eqb-true}
use Rattle.std.specs.Prelude.{◌||◌}
use Rattle.std.proofs.lemmas.Bool.{cases_eq, and_parts}
use Rattle.run_record.specs.declared.event.Event.{Event}
use Rattle.run_record.specs.declared.entry.DeskNote.TheVariants.{Nothing, Attach, Leave}
use Rattle.run_laws.specs.Moments.{Item, Does, Notes, NewEra, Past}
use Rattle.run_laws.specs.Labels.{Labels, labels, holds, is_end, raises, raised, slot_after, can_attach, event_labels, attach_labels, new_era, next_labels}
use Rattle.run_laws.specs.Clocks.{Clocks, Place, Spot, Of, Left, clocks, clock_at, taken_from, empties, leaves, event_clocks, attach_clocks, no_clocks, next_clocks}
use Rattle.run_laws.proofs.SlotLaw.{not_free_at, one_owner_at}

-- what is known of each slot
pub record AreKnown (l : Labels) (k : Clocks) : Type 0 where
  pub thread : (u r : ℕ) → k.thread u r ≤ l.epoch r
  pub spot : (y : Spot) (r : ℕ) → k.spot y r ≤ l.epoch r
  pub own : (u s : ℕ) → l.slot_of u ≡ Some s → k.thread u s ≡ l.epoch s

-- each slot is held by one thread at most, and is not free then
pub record AreHeld (l : Labels) : Type 0 where
  pub one : (t u s : ℕ) → l.slot_of t ≡ Some s → l.slot_of u ≡ Some s → t ≡ u
  pub not_free : (t s : ℕ) → l.slot_of t ≡ Some s → l.free s ≡ false

place_known : (l : Labels) (k : Clocks) (r : ℕ) → AreKnown l k → (o : Option Place) → clock_at k o r ≤ l.epoch r
place_known l k r b None = omega arith
place_known l k r b (Some y) = b.spot (Of y) r

pub kept_slot : (g : ℕ) (epoch : ℕ → ℕ) (o : Option ℕ) (e : Event) (s : ℕ) → slot_after g epoch o e ≡ Some s → o ≡ Some s
kept_slot g epoch None e s q = q
kept_slot g epoch (Some r) e s q = go (is_end e) ((raises e == 0) || nat_lt (epoch r) g) q
  where
    go : (b c : Bool) → (if b then None else (if c then Some r else None)) ≡ Some s → Some r ≡ Some s
    go true c q = absurd (cc)
    go false true q = q
    go false false q = absurd (cc)

held_true : (o : Option ℕ) (s : ℕ) → holds o s ≡ true → o ≡ Some s
held_true None s e = absurd (cc)
held_true (Some r) s e = ap Some (eqb-true r s e)

-- an event of a thread doesn't raise the epoch of a slot that it doesn't hold
pub not_raised : (g : ℕ) (l : Labels) (t : ℕ) (e : Event) (s : ℕ) → (l.slot_of t ≡ Some s → ⊥) → raised g l t e s ≡ 0
not_raised g l t e s d = go (holds (l.slot_of t) s) refl
  where
    go : (b : Bool) → holds (l.slot_of t) s ≡ b → (if b && nat_lt (l.epoch s) g then raises e else 0) ≡ 0
    go true q = absurd (d (held_true (l.slot_of t) s q))
    go false q = refl

-- an event
thread_event : (g : ℕ) (l : Labels) (k : Clocks) (t : ℕ) (e : Event) → AreKnown l k → (u r : ℕ) → (event_clocks g l k t e).thread u r ≤ l.epoch r + raised g l t e r
thread_event g l k t e b u r =
    elim (cases_eq u t) [
      | inl q ↦ rw (eq-eqb u t q) (let x = b.thread t r in let y = place_known l k r b (taken_from t e) in omega arith)
      | inr d ↦ rw (ne_eqb u t d) (let x = b.thread u r in omega arith)
    ]

spot_event : (g : ℕ) (l : Labels) (k : Clocks) (t : ℕ) (e : Event) → AreKnown l k → (y : Spot) (r : ℕ) → (event_clocks g l k t e).spot y r ≤ l.epoch r + raised g l t e r
spot_event g l k t e b y r = go (empties l t e y) (leaves l t e y) (b.spot y r) (b.thread t r)
  where
    go : (c d : Bool) → k.spot y r ≤ l.epoch r → k.thread t r ≤ l.epoch r → max (if c then 0 else k.spot y r) (if d then k.thread t r else 0) ≤ l.epoch r + raised g l t e r
    go true true p q = omega arith
    go true false p q = omega arith
    go false true p q = omega arith
    go false false p q = omega arith

own_event : (g : ℕ) (l : Labels) (k : Clocks) (t : ℕ) (e : Event) → AreHeld l → AreKnown l k → (u s : ℕ) → (event_labels g l t e).slot_of u ≡ Some s → (event_clocks g l k t e).thread u s ≡ l.epoch s + raised g l t e s
own_event g l k t e a b u s =
    elim (cases_eq u t) as (λ _. (if u == t then slot_after g l.epoch (l.slot_of t) e else l.slot_of u) ≡ Some s → (if u == t then max (k.thread t s) (clock_at k (taken_from t e) s) + raised g l t e s else k.thread u s) ≡ l.epoch s + raised g l t e s) [
      | inl q ↦ rw (eq-eqb u t q) (λ f.
          let x = b.own t s (kept_slot g l.epoch (l.slot_of t) e s f) in
          let y = place_known l k s b (taken_from t e) in
          omega arith)
      | inr d ↦ rw (ne_eqb u t d) (λ f.
          let x = b.own u s f in
          let z = not_raised g l t e s (λ h. d (a.one u t s f h)) in
          omega arith)
    ]

known_event : (g : ℕ) (l : Labels) (k : Clocks) (t : ℕ) (e : Event) → AreHeld l → AreKnown l k → AreKnown (event_labels g l t e) (event_clocks g l k t e)
known_event g l k t e a b = record { thread = thread_event g l k t e b; spot = spot_event g l k t e b; own = own_event g l k t e a b }

-- an attachment
known_attach : (l : Labels) (k : Clocks) (t s : ℕ) → AreHeld l → l.free s ≡ true → AreKnown l k → AreKnown (attach_labels l t s) (attach_clocks l k t s)
known_attach l k t s a free b =
    record {
      thread = λ u r. thread u r (cases_eq u t) (cases_eq r s);
      spot = λ y r. let x = b.spot y r in elim (cases_eq r s) [ inl q ↦ rw (eq-eqb r s q) (omega arith) | inr d ↦ rw (ne_eqb r s d) x ];
      own = λ u r. own u r (cases_eq u t) (cases_eq r s);
    }
  where
    thread : (u r : ℕ) → (u ≡ t) ⊎ (u ≡ t → ⊥) → (r ≡ s) ⊎ (r ≡ s → ⊥) → (attach_clocks l k t s).thread u r ≤ (attach_labels l t s).epoch r
    thread u r (inl p) (inl q) = rw (eq-eqb u t p, eq-eqb r s q) (let z = ap l.epoch q in omega arith)
    thread u r (inl p) (inr d) = rw (eq-eqb u t p, ne_eqb r s d) (let x = b.thread t r in let y = b.spot (Left s) r in omega arith)
    thread u r (inr c) (inl q) = rw (ne_eqb u t c, eq-eqb r s q) (let x = b.thread u r in omega arith)
    thread u r (inr c) (inr d) = rw (ne_eqb u t c, ne_eqb r s d) (b.thread u r)

    own : (u r : ℕ) → (u ≡ t) ⊎ (u ≡ t → ⊥) → (r ≡ s) ⊎ (r ≡ s → ⊥) → (attach_labels l t s).slot_of u ≡ Some r → (attach_clocks l k t s).thread u r ≡ (attach_labels l t s).epoch r
    own u r (inl p) (inl q) = rw (eq-eqb u t p, eq-eqb r s q) (λ f. let z = ap l.epoch q in omega arith)
    own u r (inl p) (inr d) = rw (eq-eqb u t p) (λ f. let z : s ≡ r = cc in absurd (d (sym z)))
    own u r (inr c) (inl q) = rw (ne_eqb u t c) (λ f. absurd (let z = a.not_free u r f in let y : l.free r ≡ l.free s = ap l.free q in cc))
    own u r (inr c) (inr d) = rw (ne_eqb u t c, ne_eqb r s d) (λ f. b.own u r f)

known_empty : (l : Labels) → ((u s : ℕ) → l.slot_of u ≡ Some s → ⊥) → AreKnown l no_clocks
known_empty l none = record { thread = λ u r. omega arith; spot = λ y r. omega arith; own = λ u s f. absurd (none u s f) }

known_next : (g : ℕ) (l : Labels) (k : Clocks) (item : Item) → AreHeld l → AreKnown l k → AreKnown (next_labels g l item) (next_clocks g l k item)
known_next g l k (Does t e) a b = known_event g l k t e a b
known_next g l k (Notes t (Attach m)) a b = go (can_attach l t m.sid) refl
  where
    go : (c : Bool) → can_attach l t m.sid ≡ c → AreKnown (if c then attach_labels l t m.sid else l) (if c then attach_clocks l k t m.sid else k)
    go true e = known_attach l k t m.sid a (and_parts _ (l.free m.sid) e).1 b
    go false e = b
known_next g l k (Notes t Nothing) a b = b
known_next g l k (Notes t (Leave m)) a b = b
known_next g l k NewEra a b = known_empty (new_era (l.era + 1)) (λ u s f. absurd (cc))
known_next g l k Past a b = b

pub known_at : (g : ℕ) (h : ℕ → Item) (n : ℕ) → AreKnown (labels g h n) (clocks g h n)
unfolding labels clocks
known_at g h zero = known_empty (new_era 0) (λ u s f. absurd (cc))
known_at g h (suc n) = known_next g (labels g h n) (clocks g h n) (h n) (record { one = one_owner_at g h n; not_free = not_free_at g h n }) (known_at g h n)
