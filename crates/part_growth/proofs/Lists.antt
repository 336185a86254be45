-- Lists of a part: deeds, stretches, instructions and checks, with one more behind them.
use Rattle.std.proofs.Common.{◌≡◌, ◌⊎◌, inl, inr, ℕ, suc, ◌+◌, ◌<◌, ◌≤◌, List, [], ◌∷◌, ◌++◌, length, append_assoc, append-nil, refl, ap, sym, subst, ◌∙◌, arith}
use Rattle.std.specs.List.{flat_map}
use Rattle.run_record.specs.declared.event.Event.{Event}
use Rattle.run_record.specs.declared.entry.Check.{Check}
use Rattle.turn_orders.specs.Lists.{Each, In}
use Rattle.turn_orders.specs.LineUp.{Deed, LocalsFollow, last_local}
use Rattle.turn_orders.proofs.Members.{each_append}
use Rattle.deed_histories.specs.Deeds.{Made, all_events, all_checks, AreNumbered}

-- ---- deeds

module _ {L O A T : Type 0} where
  pub follow_push : (l : L) (ds : List (Deed L O A T)) (d : Deed L O A T) → LocalsFollow l ds → last_local l ds ≡ d.local_found → LocalsFollow l (ds ++ d ∷ [])
  follow_push l [] d f e = (e, tt)
  follow_push l (x ∷ xs) d f e = (f.0, follow_push x.local_left xs d f.1 e)

  pub last_push : (l : L) (ds : List (Deed L O A T)) (d : Deed L O A T) → last_local l (ds ++ d ∷ []) ≡ d.local_left
  last_push l [] d = refl
  last_push l (x ∷ xs) d = last_push x.local_left xs d

pub each_push : {X : Type 0} (P : X → Type 0) (xs : List X) (x : X) → Each P xs → P x → Each P (xs ++ x ∷ [])
each_push P xs x h p = each_append P xs (x ∷ []) h (p, tt)

-- ---- instructions

pub events_push : (xs : List Made) (x : Made) → all_events (xs ++ x ∷ []) ≡ all_events xs ++ x.events
events_push [] x = append-nil x.events
events_push (y ∷ ys) x = ap (λ (es : List Event). y.events ++ es) (events_push ys x) ∙ sym (append_assoc y.events (all_events ys) x.events)

pub checks_push : (xs : List Made) (x : Made) → all_checks (xs ++ x ∷ []) ≡ all_checks xs ++ x.checks
checks_push [] x = append-nil x.checks
checks_push (y ∷ ys) x =
    ap (λ (css : List (List Check)). y.checks ++ css) (checks_push ys x) ∙ sym (append_assoc y.checks (all_checks ys) x.checks)

-- ---- numbers of checks

pub numbered_append : (n : ℕ) (css dss : List (List Check)) → AreNumbered n css → AreNumbered (n + length css) dss → AreNumbered n (css ++ dss)
numbered_append n [] dss a b = let e : n + 0 ≡ n = omega arith in subst (λ (m : ℕ). AreNumbered m dss) e b
numbered_append n (cs ∷ css) dss a b =
    let e : n + suc (length css) ≡ n + 1 + length css = omega arith in
    (a.0, numbered_append (n + 1) css dss a.1 (subst (λ (m : ℕ). AreNumbered m dss) e b))

-- checks of one number, among checks of other numbers
below : (n m : ℕ) (cs : List Check) → n < m → Each (λ (c : Check). c.event ≡ n) cs → Each (λ (c : Check). c.event < m) cs
below n m [] l h = tt
below n m (c ∷ cs) l h = (let q = h.0 in omega (arith, q, l), below n m cs l h.1)

above : (n m : ℕ) (cs : List Check) → m ≤ n → Each (λ (c : Check). c.event ≡ n) cs → Each (λ (c : Check). m ≤ c.event) cs
above n m [] l h = tt
above n m (c ∷ cs) l h = (let q = h.0 in omega (arith, q, l), above n m cs l h.1)

pub before_end : (n m : ℕ) (css : List (List Check)) → n + length css ≤ m → AreNumbered n css →
    Each (λ (c : Check). c.event < m) (flat_map (λ (cs : List Check). cs) css)
before_end n m [] l h = tt
before_end n m (cs ∷ css) l h =
    let q : n + suc (length css) ≤ m = l in
    each_append (λ (c : Check). c.event < m) cs (flat_map (λ (ds : List Check). ds) css) (below n m cs (omega arith) h.0)
    (before_end (n + 1) m css (omega arith) h.1)

pub from_start : (n m : ℕ) (css : List (List Check)) → m ≤ n → AreNumbered n css →
    Each (λ (c : Check). m ≤ c.event) (flat_map (λ (cs : List Check). cs) css)
from_start n m [] l h = tt
from_start n m (cs ∷ css) l h =
    each_append (λ (c : Check). m ≤ c.event) cs (flat_map (λ (ds : List Check). ds) css) (above n m cs l h.0) (from_start (n + 1) m css (omega arith) h.1)

-- ---- the last of two lists

pub record EndsWith {X : Type 0} (xs : List X) (x : X) : Type 0 where
  pub before : List X
  pub is : xs ≡ before ++ x ∷ []

-- the last of two lists together is the last of the second one, or stands in the first
pub last_of : {X : Type 0} (xs ys before : List X) (x : X) → xs ++ ys ≡ before ++ x ∷ [] → In x xs ⊎ EndsWith ys x
last_of [] ys before x e = inr (record { before = before; is = e })
last_of (z ∷ zs) ys [] x e = inl (inl (let q : z ∷ (zs ++ ys) ≡ x ∷ [] = e in cc))
last_of (z ∷ zs) ys (b ∷ bs) x e =
    let q : z ∷ (zs ++ ys) ≡ b ∷ (bs ++ x ∷ []) = e in
    elim (last_of zs ys bs x (cc)) [
      | inl i ↦ inl (inr i)
      | inr r ↦ inr r
    ]
