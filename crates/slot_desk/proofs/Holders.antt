-- Which slot a thread holds.
use Rattle.std.proofs.Common.{◌≡◌, ◌<◌, ◌+◌, ℕ, zero, suc, Option, Some, None, List, [], ◌∷◌, length, get_or, refl, sym, ap, subst, ◌∙◌, inl, inr, arith, add-zero, eq-eqb, ne_eqb}
use Rattle.std.specs.Option.{option_map_or}
use Rattle.std.proofs.lemmas.Bool.{cases_eq}
use Rattle.slot_desk.specs.declared.slot.Attachment.{Attachment}
use Rattle.slot_desk.specs.Desks.{SlotContents, no_slot, held_or, held_from}

held_or-other : (n t : ℕ) (o : Option Attachment) (others : Option (ℕ × ℕ)) → ((a : Attachment) → o ≡ Some a → a.tid ≡ t → ⊥) → held_or n t o others ≡ others
held_or-other n t None others f = refl
held_or-other n t (Some a) others f = elim (cases_eq a.tid t) [ inl q ↦ absurd (f a refl q) | inr d ↦ rw (ne_eqb a.tid t d) refl ]

-- a thread that owns no slot holds none
pub held_from-none : (n t : ℕ) (slots : List SlotContents) → ((i : ℕ) (a : Attachment) → (get_or slots i no_slot).owner ≡ Some a → a.tid ≡ t → ⊥) → held_from n t slots ≡ None
held_from-none n t [] f = refl
held_from-none n t (s ∷ slots) f = held_or-other n t s.owner (held_from (n + 1) t slots) (f zero) ∙ held_from-none (n + 1) t slots (λ i. f (suc i))

-- a thread that owns no slot but one holds that one, if it owns it
pub held_from-only : (n t h : ℕ) (slots : List SlotContents) → h < length slots → ((i : ℕ) (a : Attachment) → (get_or slots i no_slot).owner ≡ Some a → a.tid ≡ t → i ≡ h) → held_from n t slots ≡ held_or (n + h) t (get_or slots h no_slot).owner None
held_from-only n t h [] l f = absurd (omega arith)
held_from-only n t zero (s ∷ slots) l f =
    rw add-zero (ap (held_or n t s.owner) (held_from-none (n + 1) t slots (λ i a e q. let z = f (suc i) a e q in absurd (omega arith))))
held_from-only n t (suc h) (s ∷ slots) l f =
    let e : (n + 1) + h ≡ n + suc h = omega arith in
    held_or-other n t s.owner (held_from (n + 1) t slots) (λ a o q. let z = f zero a o q in absurd (omega arith))
    ∙ (held_from-only (n + 1) t h slots (omega arith) (λ i a o q. let z = f (suc i) a o q in omega arith) ∙ ap (λ k. held_or k t (get_or slots h no_slot).owner None) e)

-- The slot of number m, which is that many after n, is the thread's since epoch e.
pub record IsHeldAt (slots : List SlotContents) (n t m e : ℕ) : Type 0 where
  pub place : ℕ
  pub number : m ≡ n + place
  pub within : place < length slots
  pub owner : Attachment
  pub owned : (get_or slots place no_slot).owner ≡ Some owner
  pub thread : owner.tid ≡ t
  pub epoch : owner.epoch ≡ e

held_from-some : (n t : ℕ) (slots : List SlotContents) (m e : ℕ) → held_from n t slots ≡ Some (m, e) → IsHeldAt slots n t m e
held_from-some n t [] m e q = absurd (cc)
held_from-some n t (s ∷ slots) m e q = go (held_from-some (n + 1) t slots m e) s.owner refl q
  where
    later : IsHeldAt slots (n + 1) t m e → IsHeldAt (s ∷ slots) n t m e
    later r = let c = r.number in let w = r.within in record { place = suc r.place; number = omega arith; within = omega arith; owner = r.owner; owned = r.owned; thread = r.thread; epoch = r.epoch }

    go : (held_from (n + 1) t slots ≡ Some (m, e) → IsHeldAt slots (n + 1) t m e) → (o : Option Attachment) → s.owner ≡ o → held_or n t o (held_from (n + 1) t slots) ≡ Some (m, e) → IsHeldAt (s ∷ slots) n t m e
    go among None o p = later (among p)
    go among (Some a) o p =
        elim (cases_eq a.tid t) [
          | inl z ↦
              let y = rw (eq-eqb a.tid t z) at p in
              let x : n ≡ m = ap (λ (h : Option (ℕ × ℕ)). option_map_or (λ (p : ℕ × ℕ). p.0) h 0) y in
              let w : a.epoch ≡ e = ap (λ (h : Option (ℕ × ℕ)). option_map_or (λ (p : ℕ × ℕ). p.1) h 0) y in
              record { place = zero; number = sym x ∙ sym (add-zero n); within = omega arith; owner = a; owned = o; thread = z; epoch = w }
          | inr d ↦ let y = rw (ne_eqb a.tid t d) at p in later (among y)
        ]

-- the slot that a thread holds is owned by it
pub held_of-some : (slots : List SlotContents) (t m e : ℕ) → held_from 0 t slots ≡ Some (m, e) → (m < length slots) × ((a : Attachment) × ((get_or slots m no_slot).owner ≡ Some a) × (a.tid ≡ t) × (a.epoch ≡ e))
held_of-some slots t m e q =
    let r = held_from-some 0 t slots m e q in
    let z : r.place ≡ m = (let c = r.number in omega arith) in
    (subst (λ x. x < length slots) z r.within, (r.owner, subst (λ x. (get_or slots x no_slot).owner ≡ Some r.owner) z r.owned, r.thread, r.epoch))

-- a thread that holds no slot owns none
pub none_from-held_from : (n t : ℕ) (slots : List SlotContents) → held_from n t slots ≡ None → (i : ℕ) (a : Attachment) → (get_or slots i no_slot).owner ≡ Some a → a.tid ≡ t → ⊥
none_from-held_from n t [] q i a o z = cc
none_from-held_from n t (s ∷ slots) q zero a o z =
    let x = rw (o, eq-eqb a.tid t z) at q in cc
none_from-held_from n t (s ∷ slots) q (suc i) a o z = none_from-held_from (n + 1) t slots (rest s.owner q) i a o z
  where
    rest : (o : Option Attachment) → held_or n t o (held_from (n + 1) t slots) ≡ None → held_from (n + 1) t slots ≡ None
    rest None p = p
    rest (Some b) p = elim (cases_eq b.tid t) [ inl y ↦ absurd (let x = rw (eq-eqb b.tid t y) at p in cc) | inr d ↦ rw (ne_eqb b.tid t d) at p ]
