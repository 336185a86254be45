-- What the entries of a map that are left to go through tell of a key.
use Rattle.std.proofs.Common.{◌≡◌, ℕ, suc, ◌≤◌, ◌==◌, max, if◌then◌else◌, Bool, true, false, cond, List, [], ◌∷◌, ◌++◌, Option, Some, None, length, refl, sym, ap, ◌∙◌, subst, inl, inr, arith, eq-eqb, ne_eqb}
use Rattle.std.specs.Prelude.{unwrap_or, slice_index_or, ◌-◌}
use Rattle.std.specs.List.{All}
use Rattle.std.specs.Ordering.{nat_cmp, is_eq}
use Rattle.std.specs.Map.{lookup}
use Rattle.std.specs.BTreeMap.{BTreeMap, get, is_at}
use Rattle.std.proofs.lemmas.Bool.{cases_eq, cases_lt, lt-ltb, le-ltb}
use Rattle.std.proofs.lemmas.Bool.Decides.{nat_tests}
use Rattle.std.proofs.Math.Seq.{get_or-append_seam}
use Rattle.std.proofs.lemmas.List.{length-append}
use Rattle.offline_audit.specs.declared.heard.Step.{Step}
use Rattle.offline_audit.specs.Heard.{known_of, latest, steps_after, steps_of}

-- the greatest value at the key
abbrev pub greatest : {X : Type 0} → (X → ℕ) → List (ℕ × X) → ℕ → ℕ
greatest f [] u = 0
greatest f (e ∷ es) u = max (if u == e.0 then f e.1 else 0) (greatest f es u)

abbrev value : {X : Type 0} → (X → ℕ) → Option X → ℕ
value f None = 0
value f (Some x) = f x

tail : {X : Type 0} (P : X → Type 0) (x : X) (xs : List X) → All P (x ∷ xs) → All P xs
tail P x xs a = λ k d l. a (suc k) d (omega arith)

head : {X : Type 0} (P : X → Type 0) (x : X) (xs : List X) → All P (x ∷ xs) → P x
head P x xs a = a 0 x (omega arith)

module _ {X : Type 0} (f : X → ℕ) (v : ℕ → ℕ) where
  pub greatest-le : (es : List (ℕ × X)) → All (λ (e : ℕ × X). f e.1 ≡ v e.0) es → (u : ℕ) → greatest f es u ≤ v u
  greatest-le [] a u = omega arith
  greatest-le (e ∷ es) a u =
      let r = greatest-le es (tail (λ (e : ℕ × X). f e.1 ≡ v e.0) e es a) u in
      let p = head (λ (e : ℕ × X). f e.1 ≡ v e.0) e es a in
      elim (cases_eq u e.0) [
        | inl q ↦ let t = eq-eqb u e.0 q in let p' : f e.1 ≡ v u = p ∙ ap v (sym q) in rw t (omega arith)
        | inr d ↦ let t = ne_eqb u e.0 d in rw t (omega arith)
      ]

pick_le : {X : Type 0} (f : X → ℕ) (b : Bool) (x : X) (o : Option X) (g : ℕ) → (b ≡ true → f x ≤ g) → value f o ≤ g →
    value f (cond b (Some x) o) ≤ g
pick_le f true x o g p q = p refl
pick_le f false x o g p q = q

le-greatest : {X : Type 0} (f : X → ℕ) (es : List (ℕ × X)) (u : ℕ) → value f (lookup (is_at (nat_cmp u)) es) ≤ greatest f es u
le-greatest f [] u = omega arith
le-greatest f (e ∷ es) u =
    let r = le-greatest f es u in
    pick_le f (is_eq (nat_cmp u e.0)) e.1 (lookup (is_at (nat_cmp u)) es) (greatest f (e ∷ es) u)
    (λ t. let q : u ≡ e.0 = grind (arith, nat_tests) in let b = eq-eqb u e.0 q in rw b (omega arith))
    (omega arith)

both : (a b c : ℕ) → a ≤ b → b ≡ c → c ≤ a → a ≡ b
both a b c l e m = omega arith

known_value : (o : Option ℕ) → unwrap_or o 0 ≡ value (λ (x : ℕ). x) o
known_value None = refl
known_value (Some x) = refl

steps_value : (o : Option (List Step)) → latest (unwrap_or o []) ≡ value latest o
steps_value None = refl
steps_value (Some x) = refl

abbrev IsFound : {X : Type 0} → BTreeMap ℕ X → Type 0
IsFound {X} m = All (λ (e : ℕ × X). get nat_cmp m e.0 ≡ Some e.1) m.entries

pub found_known : (m : BTreeMap ℕ ℕ) → IsFound m → All (λ (e : ℕ × ℕ). e.1 ≡ known_of m e.0) m.entries
found_known m a = λ k d l. sym (ap (λ (o : Option ℕ). unwrap_or o 0) (a k d l))

pub greatest-known : (m : BTreeMap ℕ ℕ) → IsFound m → (u : ℕ) → greatest (λ (x : ℕ). x) m.entries u ≡ known_of m u
greatest-known m a u =
    both (greatest (λ (x : ℕ). x) m.entries u) (known_of m u) (value (λ (x : ℕ). x) (get nat_cmp m u))
    (greatest-le (λ (x : ℕ). x) (known_of m) m.entries (found_known m a) u) (known_value (get nat_cmp m u)) (le-greatest (λ (x : ℕ). x) m.entries u)

pub greatest-steps : (m : BTreeMap ℕ (List Step)) → IsFound m → (u : ℕ) → greatest latest m.entries u ≡ latest (steps_of m u)
greatest-steps m a u =
    both (greatest latest m.entries u) (latest (steps_of m u)) (value latest (get nat_cmp m u))
    (greatest-le latest (λ (t : ℕ). latest (steps_of m t)) m.entries (λ k d l. sym (ap (λ (o : Option (List Step)). latest (unwrap_or o [])) (a k d l))) u)
    (steps_value (get nat_cmp m u)) (le-greatest latest m.entries u)

abbrev pub nothing : Step
nothing = record { at = 0; known = 0 }

pub latest-push : (steps : List Step) (s : Step) → latest (steps ++ s ∷ []) ≡ s.known
latest-push steps s =
    let l : length (steps ++ s ∷ []) - 1 ≡ length steps = omega (arith, length-append steps (s ∷ [])) in
    ap (λ (i : ℕ). (slice_index_or (steps ++ s ∷ []) i nothing).known) l ∙ ap (λ (x : Step). x.known) (get_or-append_seam steps s [] nothing)

-- what is heard twice is heard once
pub heard_twice : (at k g : ℕ) (steps : List Step) → g ≤ k → steps_after at g (steps_after at k steps) ≡ steps_after at (max k g) steps
heard_twice at k g steps l =
    let m : max k g ≡ k = omega arith in
    elim (cases_lt (latest steps) k) [
      | inl b ↦
          let t = lt-ltb (latest steps) k b in
          let p = latest-push steps (record { at = at; known = k }) in
          let u = le-ltb k g l in
          rw (m, t, p, u) refl
      | inr b ↦ let t = le-ltb (latest steps) k b in let u = le-ltb (latest steps) g (omega arith) in rw (m, t, u) refl
    ]

abbrev id : ℕ → ℕ
id x = x

-- one of the entries that are left is heard, or is passed over since it is the thread's own
pub more_heard : (at t o k : ℕ) (c : ℕ → ℕ) (rest left : List (ℕ × ℕ)) (s new whole : ℕ → List Step) → rest ≡ (o, k) ∷ left →
    (o ≡ t → ⊥) → ((u : ℕ) → new u ≡ (if u == o then steps_after at k (s o) else s u)) →
    (((u : ℕ) → (if u == t then s u else steps_after at (greatest (λ (x : ℕ). x) rest u) (s u)) ≡ whole u) × All (λ (e : ℕ × ℕ). e.1 ≡ c e.0) rest) →
    ((u : ℕ) → (if u == t then new u else steps_after at (greatest (λ (x : ℕ). x) left u) (new u)) ≡ whole u) × All (λ (e : ℕ × ℕ). e.1 ≡ c e.0) left
more_heard at t o k c rest left s new whole is apart step (inv, all) =
    let all' : All (λ (e : ℕ × ℕ). e.1 ≡ c e.0) ((o, k) ∷ left) = subst (λ (es : List (ℕ × ℕ)). All (λ (e : ℕ × ℕ). e.1 ≡ c e.0) es) is all in
    let later = tail (λ (e : ℕ × ℕ). e.1 ≡ c e.0) (o, k) left all' in
    let first = head (λ (e : ℕ × ℕ). e.1 ≡ c e.0) (o, k) left all' in (
      λ u. let i = rw is at (inv u) in elim (cases_eq u t) [
        | inl q ↦
            let a = eq-eqb u t q in
            let b = ne_eqb u o (λ e. apart (sym e ∙ q)) in
            let n = rw b at (step u) in
            rw (a, n) (rw a at i)
        | inr d ↦
            let a = ne_eqb u t d in
            let j = rw a at i in
            elim (cases_eq u o) [
              | inl q ↦
                  let b = eq-eqb u o q in
                  let n = rw b at (step u) in
                  let g : greatest (λ (x : ℕ). x) left u ≤ k = subst (λ (z : ℕ). greatest (λ (x : ℕ). x) left u ≤ z) (ap c q ∙ sym first) (greatest-le (λ (x : ℕ). x) c left later u) in
                  let j' = rw b at j in
                  rw (a, n) (heard_twice at k (greatest (λ (x : ℕ). x) left u) (s o) g ∙ (ap (λ (z : ℕ). steps_after at (max k (greatest (λ (x : ℕ). x) left u)) (s z)) (sym q) ∙ j'))
              | inr f ↦
                  let b = ne_eqb u o f in
                  let n = rw b at (step u) in
                  let z : max 0 (greatest (λ (x : ℕ). x) left u) ≡ greatest (λ (x : ℕ). x) left u = omega arith in
                  let j' = rw b at j in
                  rw (a, n) (rw z at j')
            ]
      ],
      later,
    )

pub own_passed : (at t o k : ℕ) (c : ℕ → ℕ) (rest left : List (ℕ × ℕ)) (s whole : ℕ → List Step) → rest ≡ (o, k) ∷ left →
    o ≡ t →
    (((u : ℕ) → (if u == t then s u else steps_after at (greatest (λ (x : ℕ). x) rest u) (s u)) ≡ whole u) × All (λ (e : ℕ × ℕ). e.1 ≡ c e.0) rest) →
    ((u : ℕ) → (if u == t then s u else steps_after at (greatest (λ (x : ℕ). x) left u) (s u)) ≡ whole u) × All (λ (e : ℕ × ℕ). e.1 ≡ c e.0) left
own_passed at t o k c rest left s whole is same (inv, all) = (
  λ u. let i = rw is at (inv u) in elim (cases_eq u t) [
    | inl q ↦ let a = eq-eqb u t q in rw a (rw a at i)
    | inr d ↦
        let a = ne_eqb u t d in
        let b = ne_eqb u o (λ e. d (e ∙ same)) in
        let z : max 0 (greatest (λ (x : ℕ). x) left u) ≡ greatest (λ (x : ℕ). x) left u = omega arith in
        rw a (rw z at rw (a, b) at i)
  ],
  tail (λ (e : ℕ × ℕ). e.1 ≡ c e.0) (o, k) left (subst (λ (es : List (ℕ × ℕ)). All (λ (e : ℕ × ℕ). e.1 ≡ c e.0) es) is all),
)
