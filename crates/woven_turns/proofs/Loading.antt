-- What a load gives, and the load rule.
use Rattle.std.proofs.Common.{◌≡◌, ◌≢◌, ℕ, ◌<◌, ◌≤◌, Bool, List, [], ◌∷◌, length, ◌⊎◌, inl, inr, refl, sym, ap, ◌∙◌, subst, arith}
use mathlib.Core.Logic.{dite}
use native.Mathlib.Decide.{ℕ_discrete}
use Rattle.shared_table.specs.declared.view.Item.{Item}
use Rattle.shared_table.specs.declared.view.Item.TheVariants.{Split, Join, Take, Give, Load, Store}
use Rattle.shared_table.specs.declared.view.Layout.{Layout}
use Rattle.shared_table.specs.Past.{Past, IsCellWord, cell_of, Lawful}
use Rattle.shared_table.proofs.Pasts.{if_here, if_else}
use Rattle.woven_turns.specs.Steps.{Stands}
use Rattle.woven_turns.specs.Cells.{LoadRule, Touch, EarlierBy, One, Then, among, Timed}
use Rattle.woven_turns.proofs.Standing.{stands_len, stands_further, earlier_stands, lawful_at}

-- The same as `Timed`, of loads, stores and an order that are any relations.
pub record Placed {E : Type 0} (past : Past) (Loads Stores : E → ℕ → ℕ → ℕ → Type 0) (Earlier : E → E → Type 0) (first last : E → ℕ) : Type 0 where
  pub load : (a : E) (c w p : ℕ) → Loads a c w p → (n : ℕ) × (early : Past) × Stands past early (n, Load c w) × (length early ≡ p) × (first a ≤ p) × (p ≤ last a)
  pub store : (a : E) (c w p : ℕ) → Stores a c w p → (n : ℕ) × (early : Past) × Stands past early (n, Store c w) × (length early ≡ p) × (first a ≤ p) × (p ≤ last a)
  pub by : (n c w : ℕ) (early : Past) → Stands past early (n, Store c w) → (b : E) × Stores b c w (length early)
  pub own : (a : E) (c w v p q : ℕ) → Loads a c w p → Stores a c v q → p < q
  pub apart : (a b : E) → Earlier a b → last a < first b

-- the last store in the cell c
pub record LastStore (c : ℕ) (past : Past) : Type 0 where
  pub seat : ℕ
  pub early : Past
  pub at : Stands past early (seat, Store c (cell_of c past))
  pub last : (m v : ℕ) (e : Past) → Stands past e (m, Store c v) → length e ≤ length early

abbrev pub NoStore : ℕ → Past → Type 0
NoStore c past = (m v : ℕ) (e : Past) → Stands past e (m, Store c v) → ⊥

abbrev pub StoreState : ℕ → Past → Type 0
StoreState c past = ((cell_of c past ≡ 0) × NoStore c past) ⊎ LastStore c past

abbrev stored_in : Item → ℕ → Type 0
stored_in (Store c w) d = c ≡ d
stored_in (Load c w) d = ⊥
stored_in (Take k i) d = ⊥
stored_in (Give k i f l) d = ⊥
stored_in (Split m) d = ⊥
stored_in (Join m) d = ⊥

-- a step that stores nothing in c changes nothing
quiet : (c : ℕ) (x : ℕ × Item) (past : Past) → (stored_in x.1 c → ⊥) → cell_of c (x ∷ past) ≡ cell_of c past → StoreState c past → StoreState c (x ∷ past)
quiet c x past un same (inl a) = inl (same ∙ a.0, λ m v e s. none m v e s)
  where
    none : (m v : ℕ) (e : Past) → Stands (x ∷ past) e (m, Store c v) → ⊥
    none m v e (inl q) = un (subst (λ (z : ℕ × Item). stored_in z.1 c) (sym q.0) refl)
    none m v e (inr s) = a.1 m v e s
quiet c x past un same (inr a) = inr (record { seat = a.seat; early = a.early; at = inr (subst (λ (w : ℕ). Stands past a.early (a.seat, Store c w)) (sym same) a.at); last = last })
  where
    last : (m v : ℕ) (e : Past) → Stands (x ∷ past) e (m, Store c v) → length e ≤ length a.early
    last m v e (inl q) = absurd (un (subst (λ (z : ℕ × Item). stored_in z.1 c) (sym q.0) refl))
    last m v e (inr s) = a.last m v e s

pub store_state : (c : ℕ) (past : Past) → StoreState c past
store_state c [] = inl (refl, λ m v e s. s)
store_state c ((n, Split m) ∷ past) = quiet c (n, Split m) past (λ e. e) refl (store_state c past)
store_state c ((n, Join m) ∷ past) = quiet c (n, Join m) past (λ e. e) refl (store_state c past)
store_state c ((n, Take j t) ∷ past) = quiet c (n, Take j t) past (λ e. e) refl (store_state c past)
store_state c ((n, Give j t f l) ∷ past) = quiet c (n, Give j t f l) past (λ e. e) refl (store_state c past)
store_state c ((n, Load d w) ∷ past) = quiet c (n, Load d w) past (λ e. e) refl (store_state c past)
store_state c ((n, Store d w) ∷ past) = dite (ℕ_discrete d c)
    (λ e. inr (record { seat = n; early = past; at = inl (ap (λ (z : ℕ). (n, Store z w)) e ∙ ap (λ (z : ℕ). (n, Store c z)) (sym (if_here d c w (cell_of c past) e)), refl); last = λ m v f s. bound m v f s }))
    (λ o. quiet c (n, Store d w) past o (if_else d c w (cell_of c past) o) (store_state c past))
  where
    bound : (m v : ℕ) (f : Past) → Stands ((n, Store d w) ∷ past) f (m, Store c v) → length f ≤ length past
    bound m v f s = let q = stands_len ((n, Store d w) ∷ past) f (m, Store c v) s in omega arith

module _ (lay : Layout) where
  -- no word that is stored is 0
  store_word : (past early : Past) (n c w : ℕ) → Lawful lay past → Stands past early (n, Store c w) → w ≡ 0 → ⊥
  store_word past early n c w h s e = subst (IsCellWord lay) e (lawful_at lay past early (n, Store c w) h s).0.1

  module _ {E : Type 0} (past : Past) (Loads Stores : E → ℕ → ℕ → ℕ → Type 0) (Earlier : E → E → Type 0) (first last : E → ℕ) (h : Lawful lay past) (p : Placed past Loads Stores Earlier first last) where
    pub load_rule : (a : E) (c w r : ℕ) → Loads a c w r → LoadRule Stores Earlier a c w
    load_rule a c w r l = cases (store_state c early)
      where
        at : (n : ℕ) × (early : Past) × Stands past early (n, Load c w) × (length early ≡ r) × (first a ≤ r) × (r ≤ last a)
        at = p.load a c w r l

        early : Past
        early = at.1

        gave : w ≡ cell_of c at.1
        gave = (lawful_at lay past at.1 (at.0, Load c w) h at.2).0.1

        cases : StoreState c at.1 → LoadRule Stores Earlier a c w
        cases (inl z) = ((λ e s v q st f. none s v q st f), (λ ne. absurd (ne (gave ∙ z.0))))
          where
            none : (s : E) (v q : ℕ) → Stores s c v q → Earlier s a → ⊥
            none s v q st f =
                let o = p.store s c v q st in
                let d = p.apart s a f in
                let e1 = o.3 in let e2 = o.5 in let e3 = at.3 in let e4 = at.4 in
                let lt : length o.1 < length at.1 = omega arith in
                z.1 o.0 v o.1 (earlier_stands past o.1 at.1 (o.0, Store c v) (at.0, Load c w) o.2 at.2 lt)
        cases (inr k) = ((λ e. absurd (zero_word e)), (λ ne. (who.0, length k.early, who.1, other, not_later, between)))
          where
            stands : Stands past k.early (k.seat, Store c w)
            stands = subst (λ (x : ℕ). Stands past k.early (k.seat, Store c x)) (sym gave) (stands_further past at.1 k.early (at.0, Load c w) (k.seat, Store c (cell_of c at.1)) at.2 k.at)

            zero_word : w ≡ 0 → ⊥
            zero_word e = store_word past k.early k.seat c w h stands e

            who : (b : E) × Stores b c w (length k.early)
            who = p.by k.seat c w k.early stands

            before : length k.early < r
            before = let q = stands_len at.1 k.early (k.seat, Store c (cell_of c at.1)) k.at in let e = at.3 in omega arith

            other : who.0 ≢ a
            other e = let q = p.own a c w w r (length k.early) l (subst (λ (b : E). Stores b c w (length k.early)) e who.1) in let f = before in omega arith

            not_later : Earlier a who.0 → ⊥
            not_later f =
                let o = p.store who.0 c w (length k.early) who.1 in
                let d = p.apart a who.0 f in
                let e1 = o.4 in let e2 = at.5 in let g = before in
                omega arith

            between : (s : E) (v q : ℕ) → Stores s c v q → Earlier who.0 s → Earlier s a → ⊥
            between s v q st f g =
                let o = p.store s c v q st in
                let b = p.store who.0 c w (length k.early) who.1 in
                let d1 = p.apart who.0 s f in
                let d2 = p.apart s a g in
                let e1 = o.3 in let e2 = o.4 in let e3 = o.5 in let e4 = b.5 in let e5 = at.3 in let e6 = at.4 in
                let lt : length o.1 < length at.1 = omega arith in
                let m = k.last o.0 v o.1 (earlier_stands past o.1 at.1 (o.0, Store c v) (at.0, Load c w) o.2 at.2 lt) in
                omega arith

module _ {E : Type 0} (past : Past) (loads stores : E → List Touch) (pair : E → E → Bool) (first last : E → ℕ) (t : Timed past loads stores pair first last) where
  pub over : (a b : E) → EarlierBy pair a b → last a < first b
  over a b (One e) = t.pairs a b e
  over a c (Then {b = b} p q) = let x = over a b p in let y = over b c q in let z = t.span b in omega arith

  pub placed : Placed past (among loads) (among stores) (EarlierBy pair) first last
  placed = record { load = t.load; store = t.store; by = t.by; own = t.own; apart = over }
