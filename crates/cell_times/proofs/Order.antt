-- What comes before in slot order was over before.
use Rattle.std.proofs.Common.{◌≡◌, ◌<◌, ◌≤◌, ◌⊎◌, inl, inr, ℕ, zero, suc, ◌==◌, ◌&&◌, ◌||◌, Bool, true, false, cond, Option, Some, None, refl, sym, ap, subst, ◌∙◌, arith, eqb-true, eq-eqb}
use Rattle.std.specs.Prelude.{nat_lt}
use Rattle.std.proofs.lemmas.Bool.{and_parts, cases_eq, cases_lt}
use Rattle.run_record.specs.declared.event.Event.{Event}
use Rattle.run_record.specs.declared.event.Event.TheVariants as events
use Rattle.run_record.specs.declared.entry.Label.{Label}
use Rattle.run_record.specs.declared.entry.DeskNote.TheVariants.{Nothing, Attach, Leave}
use Rattle.run_laws.specs.Moments.{Item, Does, Notes, NewEra, Past, IsBy}
use Rattle.run_laws.specs.Labels.{Labels, labels, next_labels, event_labels, slot_after, raises, is_end, holds, can_attach, attach_labels}
use Rattle.run_laws.specs.HappensBefore.{Pair, Program, Released, Created, Joined}
use Rattle.run_laws.specs.SlotOrder.{slot_under, gives_back, SlotPair, Plain, NextOwner, SlotBefore, One, Then}
use Rattle.run_laws.proofs.SlotLaw.{one_owner_at}
use Rattle.cell_times.specs.Times.{AreTimed}

slot_keeps : (g : ℕ) (epoch : ℕ → ℕ) (e : Event) (s : ℕ) (o : Option ℕ) → slot_after g epoch o e ≡ Some s → o ≡ Some s
slot_keeps g epoch e s None q = absurd (cc)
slot_keeps g epoch e s (Some r) q = go (is_end e) ((raises e == 0) || nat_lt (epoch r) g) q
  where
    go : (a b : Bool) → cond a None (cond b (Some r) None) ≡ Some s → Some r ≡ Some s
    go true b p = absurd (cc)
    go false true p = p
    go false false p = absurd (cc)

-- who has a slot had it before, or has attached
had : (g : ℕ) (l : Labels) (u s : ℕ) (it : Item) → (next_labels g l it).slot_of u ≡ Some s → (l.slot_of u ≡ Some s) ⊎ ((a : Label) × (it ≡ Notes u (Attach a)))
had g l u s (Does t e) q = go (u == t) refl q
  where
    go : (b : Bool) → u == t ≡ b → cond b (slot_after g l.epoch (l.slot_of t) e) (l.slot_of u) ≡ Some s → (l.slot_of u ≡ Some s) ⊎ ((a : Label) × (Does t e ≡ Notes u (Attach a)))
    go true same p = inl (ap l.slot_of (eqb-true u t same) ∙ slot_keeps g l.epoch e s (l.slot_of t) p)
    go false other p = inl p
had g l u s (Notes t Nothing) q = inl q
had g l u s (Notes t (Leave a)) q = inl q
had g l u s (Notes t (Attach a)) q = go (can_attach l t a.sid) q
  where
    took : (b : Bool) → u == t ≡ b → cond b (Some a.sid) (l.slot_of u) ≡ Some s → (l.slot_of u ≡ Some s) ⊎ ((x : Label) × (Notes t (Attach a) ≡ Notes u (Attach x)))
    took true same p = inr (a, ap (λ (v : ℕ). Notes v (Attach a)) (sym (eqb-true u t same)))
    took false other p = inl p

    go : (b : Bool) → (cond b (attach_labels l t a.sid) l).slot_of u ≡ Some s → (l.slot_of u ≡ Some s) ⊎ ((x : Label) × (Notes t (Attach a) ≡ Notes u (Attach x)))
    go true p = took (u == t) refl p
    go false p = inl p
had g l u s NewEra q = absurd (cc)
had g l u s Past q = inl q

-- the attachment by which it got the slot
got : (g : ℕ) (h : ℕ → Item) (i u s j : ℕ) → i < j → ((labels g h (suc i)).slot_of u ≡ Some s → ⊥) → (labels g h j).slot_of u ≡ Some s → (k : ℕ) × (a : Label) × (i < k) × (k < j) × (h k ≡ Notes u (Attach a))
unfolding labels
got g h i u s zero l none q = absurd (omega arith)
got g h i u s (suc n) l none q = elim (cases_eq i n) [
  | inl same ↦ absurd (none (subst (λ (x : ℕ). (labels g h (suc x)).slot_of u ≡ Some s) (sym same) q))
  | inr differ ↦ go (λ (m : i < n) (p : (labels g h n).slot_of u ≡ Some s). got g h i u s n m none p) (omega arith) (had g (labels g h n) u s (h n) q)
]
  where
    go : (i < n → (labels g h n).slot_of u ≡ Some s → (k : ℕ) × (a : Label) × (i < k) × (k < n) × (h k ≡ Notes u (Attach a))) → i < n → ((labels g h n).slot_of u ≡ Some s) ⊎ ((a : Label) × (h n ≡ Notes u (Attach a)))
        → (k : ℕ) × (a : Label) × (i < k) × (k < suc n) × (h k ≡ Notes u (Attach a))
    go more lt (inl before) = let r = more lt before in let z = r.3 in (r.0, r.1, r.2, omega arith, r.4)
    go more lt (inr now) = (n, now.0, lt, omega arith, now.1)

end_is : (e : Event) → is_end e ≡ true → e ≡ events.End
end_is events.End q = refl
end_is _ q = absurd (cc)

-- the thread that gives a slot back
gave : (l : Labels) (it : Item) (s : ℕ) → gives_back l it s ≡ true → (t : ℕ) × (it ≡ Does t events.End) × (l.slot_of t ≡ Some s)
gave l (Does t e) s q = let p = and_parts (is_end e) (holds (l.slot_of t) s) q in (t, ap (Does t) (end_is e p.0), owns (l.slot_of t) p.1)
  where
    owns : (o : Option ℕ) → holds o s ≡ true → o ≡ Some s
    owns None p = absurd (cc)
    owns (Some r) p = ap (λ (x : ℕ). Some x) (eqb-true r s p)
gave l _ s q = absurd (cc)

-- nobody has it right after
nobody : (g : ℕ) (h : ℕ → Item) (i t s : ℕ) → h i ≡ Does t events.End → (labels g h i).slot_of t ≡ Some s → (u : ℕ) → (labels g h (suc i)).slot_of u ≡ Some s → ⊥
unfolding labels
nobody g h i t s is own u q = go (u == t) refl (sym (ap (λ (it : Item). (next_labels g (labels g h i) it).slot_of u) is) ∙ q)
  where
    none : (o : Option ℕ) → slot_after g (labels g h i).epoch o events.End ≡ None
    none None = refl
    none (Some r) = refl

    go : (b : Bool) → u == t ≡ b → cond b (slot_after g (labels g h i).epoch ((labels g h i).slot_of t) events.End) ((labels g h i).slot_of u) ≡ Some s → ⊥
    go true same p = let z = sym (none ((labels g h i).slot_of t)) ∙ p in cc
    go false other p = let z : u ≡ t = one_owner_at g h i u t s p own in let y = eq-eqb u t z in cc

under_is : (l : Labels) (it : Item) (s : ℕ) → slot_under l it ≡ Some s → (u : ℕ) × (e : Event) × (it ≡ Does u e) × (l.slot_of u ≡ Some s)
under_is l (Does u e) s q = (u, e, refl, q)
under_is l (Notes u note) s q = absurd (cc)
under_is l NewEra s q = absurd (cc)
under_is l Past s q = absurd (cc)

module _ (g : ℕ) (h : ℕ → Item) (lo hi : ℕ → ℕ) (a : AreTimed h lo hi) where
  by_event : (i t : ℕ) (e : Event) → h i ≡ Does t e → IsBy t (h i)
  by_event i t e is = subst (IsBy t) (sym is) refl

  plain : (i j : ℕ) → Pair h i j → hi i ≤ lo j
  plain i j (Program t e f l p q) = a.program i j t l (by_event i t e p) (by_event j t f q)
  plain i j (Released t u addr part replaces l p q none) = a.channel i j t u addr part replaces l p q
  plain i j (Created t child l p q) = a.created i j t child l p q
  plain i j (Joined child t l p q) = a.joined i j child t l p q

  pair : (i j : ℕ) → SlotPair g h i j → hi i ≤ lo j
  pair i j (Plain p) = plain i j p
  pair i j (NextOwner s l back under era none) =
      let from = gave (labels g h i) (h i) s back in
      let to = under_is (labels g h j) (h j) s under in
      let k = got g h i to.0 s j l (nobody g h i from.0 s from.1 from.2 to.0) to.3 in
      let first = a.attached i k.0 from.0 to.0 k.1 k.2 from.1 k.4 in
      let between = a.span k.0 in
      let rest = a.program k.0 j to.0 k.3 (subst (IsBy to.0) (sym k.4) refl) (by_event j to.0 to.1 to.2) in
      omega arith

  pub before : (i j : ℕ) → SlotBefore g h i j → hi i ≤ lo j
  before i j (One p) = pair i j p
  before i k (Then {j = j} p q) = let x = before i j p in let y = before j k q in let z = a.span j in omega arith
