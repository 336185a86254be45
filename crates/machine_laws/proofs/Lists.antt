-- Lists of threads: one changed, one more, and how many live.
use Rattle.std.proofs.Common.{◌≡◌, ◌<◌, ◌+◌, ◌≢◌, ℕ, zero, suc, Bool, true, false, cond, List, [], ◌∷◌, ◌++◌, length, slice_get, slice_set, Option, Some, refl, sym, ap, subst, ◌∙◌, inl, inr, arith, add-zero, eq-eqb, ne_eqb}
use Rattle.std.specs.Prelude.{count_by}
use Rattle.std.specs.Option.{option_map_or}
use Rattle.std.proofs.lemmas.Bool.{cases_eq}
use Rattle.std.proofs.lemmas.List.{length-set, length_push}
use Rattle.std.proofs.lemmas.List.Sums.{sum_by-cons}
use Rattle.std.proofs.lemmas.Option.{slice_get_past}
use Rattle.run_record.specs.declared.event.Event.TheVariants.{Create}
use Rattle.run_laws.specs.Numbers.{up_from}
use Rattle.bare_machine.specs.declared.thread.Thread.{Thread}
use Rattle.machine_laws.specs.Threads.{Threads, living, but, threads_after}

-- ---- places of a list

pub set_set : {X : Type 0} (xs : List X) (i : ℕ) (x y : X) → slice_set (slice_set xs i x) i y ≡ slice_set xs i y
set_set [] i x y = refl
set_set (z ∷ xs) zero x y = refl
set_set (z ∷ xs) (suc i) x y = ap (λ rest. z ∷ rest) (set_set xs i x y)

pub set_append : {X : Type 0} (xs ys : List X) (i : ℕ) (x : X) → i < length xs → slice_set (xs ++ ys) i x ≡ slice_set xs i x ++ ys
set_append [] ys i x h = absurd (omega arith)
set_append (z ∷ xs) ys zero x h = refl
set_append (z ∷ xs) ys (suc i) x h = ap (λ rest. z ∷ rest) (set_append xs ys i x (omega arith))

pub get_set_same : {X : Type 0} (xs : List X) (i : ℕ) (x : X) → i < length xs → slice_get (slice_set xs i x) i ≡ Some x
get_set_same [] i x h = absurd (omega arith)
get_set_same (z ∷ xs) zero x h = refl
get_set_same (z ∷ xs) (suc i) x h = get_set_same xs i x (omega arith)

pub get_set_other : {X : Type 0} (xs : List X) (i u : ℕ) (x : X) → u ≢ i → slice_get (slice_set xs i x) u ≡ slice_get xs u
get_set_other [] i u x n = refl
get_set_other (z ∷ xs) zero zero x n = absurd (n refl)
get_set_other (z ∷ xs) zero (suc u) x n = refl
get_set_other (z ∷ xs) (suc i) zero x n = refl
get_set_other (z ∷ xs) (suc i) (suc u) x n = get_set_other xs i u x (λ e. n (ap suc e))

get_push_same : {X : Type 0} (xs : List X) (x : X) → slice_get (xs ++ x ∷ []) (length xs) ≡ Some x
get_push_same [] x = refl
get_push_same (z ∷ xs) x = get_push_same xs x

get_push_other : {X : Type 0} (xs : List X) (x : X) (u : ℕ) → u ≢ length xs → slice_get (xs ++ x ∷ []) u ≡ slice_get xs u
get_push_other [] x zero n = absurd (n refl)
get_push_other [] x (suc u) n = refl
get_push_other (z ∷ xs) x zero n = refl
get_push_other (z ∷ xs) x (suc u) n = get_push_other xs x u (λ e. n (ap suc e))

-- ---- a function but for one number

pub but_at : {X : Type 0} (f : ℕ → X) (t : ℕ) (x : X) → but f t x t ≡ x
but_at f t x = rw (eq-eqb t t refl) refl

pub but_other : {X : Type 0} (f : ℕ → X) (t u : ℕ) (x : X) → u ≢ t → but f t x u ≡ f u
but_other f t u x n = rw (ne_eqb u t n) refl

-- what holds at the number and at each other one
pub but_each : {X : Type 0} (P : ℕ → X → Type 0) (f : ℕ → X) (t : ℕ) (x : X) → P t x → ((u : ℕ) → u ≢ t → P u (f u)) → (u : ℕ) → P u (but f t x u)
but_each P f t x here there u =
    elim (cases_eq u t) [
      | inl e ↦ subst (λ v. P v (but f t x v)) (sym e) (subst (P t) (sym (but_at f t x)) here)
      | inr n ↦ subst (P u) (sym (but_other f t u x n)) (there u n)
    ]

pub but_same : {X : Type 0} (f : ℕ → X) (t : ℕ) (x : X) → f t ≡ x → (u : ℕ) → but f t x u ≡ f u
but_same f t x e u = but_each (λ v y. y ≡ f v) f t x (sym e) (λ v n. refl) u

pub but_alike : {X : Type 0} (f : ℕ → X) (t : ℕ) (x y : X) → x ≡ y → (u : ℕ) → but f t x u ≡ but f t y u
but_alike f t x y e u = ap (λ z. but f t z u) e

-- ---- threads

pub same_threads : (a b : Threads) → a.made ≡ b.made → ((u : ℕ) → a.lives u ≡ b.lives u) → ((u : ℕ) → a.began u ≡ b.began u) → ((u : ℕ) → a.depth u ≡ b.depth u) → a ≡ b
same_threads a b made lives began depth = λ i. record { made = made i; lives = λ u. lives u i; began = λ u. began u i; depth = λ u. depth u i }

-- what is told of the threads of a list
abbrev pub told : {X : Type 0} → (Thread → X) → X → List Thread → ℕ → X
told f none ts u = option_map_or f (slice_get ts u) none

abbrev pub threads_of : List Thread → Threads
threads_of ts = record { made = length ts; lives = told (λ (x : Thread). x.lives) false ts; began = told (λ (x : Thread). x.began) false ts; depth = told (λ (x : Thread). x.depth) 0 ts }

pub told_at : {X : Type 0} (f : Thread → X) (none : X) (ts : List Thread) (t : ℕ) (x : Thread) → slice_get ts t ≡ Some x → told f none ts t ≡ f x
told_at f none ts t x e = ap (λ (o : Option Thread). option_map_or f o none) e

told_set : {X : Type 0} (f : Thread → X) (none : X) (ts : List Thread) (t : ℕ) (y : Thread) → t < length ts → (u : ℕ) → told f none (slice_set ts t y) u ≡ but (told f none ts) t (f y) u
told_set f none ts t y h u =
    but_each (λ v z. told f none (slice_set ts t y) v ≡ z) (told f none ts) t (f y) (told_at f none (slice_set ts t y) t y (get_set_same ts t y h))
    (λ v n. ap (λ (o : Option Thread). option_map_or f o none) (get_set_other ts t v y n)) u

told_push : {X : Type 0} (f : Thread → X) (none : X) (ts : List Thread) (y : Thread) (u : ℕ) → told f none (ts ++ y ∷ []) u ≡ but (told f none ts) (length ts) (f y) u
told_push f none ts y u =
    but_each (λ v z. told f none (ts ++ y ∷ []) v ≡ z) (told f none ts) (length ts) (f y) (told_at f none (ts ++ y ∷ []) (length ts) y (get_push_same ts y))
    (λ v n. ap (λ (o : Option Thread). option_map_or f o none) (get_push_other ts y v n)) u

told_past : {X : Type 0} (f : Thread → X) (none : X) (ts : List Thread) → told f none ts (length ts) ≡ none
told_past f none ts = ap (λ (o : Option Thread). option_map_or f o none) (slice_get_past ts (length ts) (omega arith))

-- one thread of the list is another
pub threads_set : (ts : List Thread) (t : ℕ) (y : Thread) → t < length ts →
    threads_of (slice_set ts t y) ≡ record { made = length ts; lives = but (threads_of ts).lives t y.lives; began = but (threads_of ts).began t y.began; depth = but (threads_of ts).depth t y.depth }
threads_set ts t y h =
    same_threads _ _ (length-set ts t y) (told_set (λ (x : Thread). x.lives) false ts t y h) (told_set (λ (x : Thread). x.began) false ts t y h) (told_set (λ (x : Thread). x.depth) 0 ts t y h)

-- a new thread
pub threads_push : (ts : List Thread) (t : ℕ) (y : Thread) → y.lives ≡ true → y.began ≡ false → y.depth ≡ 0 →
    threads_of (ts ++ y ∷ []) ≡ threads_after t (threads_of ts) (Create (length ts))
threads_push ts t y lives began depth =
    same_threads _ _ (length_push ts y)
    (λ u. told_push (λ (x : Thread). x.lives) false ts y u ∙ but_alike (threads_of ts).lives (length ts) y.lives true lives u)
    (λ u. told_push (λ (x : Thread). x.began) false ts y u ∙ but_same (threads_of ts).began (length ts) y.began (told_past (λ (x : Thread). x.began) false ts ∙ sym began) u)
    (λ u. told_push (λ (x : Thread). x.depth) 0 ts y u ∙ but_same (threads_of ts).depth (length ts) y.depth (told_past (λ (x : Thread). x.depth) 0 ts ∙ sym depth) u)

-- ---- how many live

counted : (ts : List Thread) (f : ℕ → Bool) (k : ℕ) → ((i : ℕ) → f (k + i) ≡ told (λ (x : Thread). x.lives) false ts i) → count_by f (up_from k (length ts)) ≡ count_by (λ (x : Thread). x.lives) ts
counted [] f k h = refl
counted (x ∷ ts) f k h =
    let here : f k ≡ x.lives = ap f (sym (add-zero k)) ∙ h zero in
    let rest = counted ts f (suc k) (λ i. (let e : suc k + i ≡ k + suc i = omega arith in ap f e) ∙ h (suc i)) in
    let left = sum_by-cons (λ (u : ℕ). cond (f u) 1 0) k (up_from (suc k) (length ts)) in
    let right = sum_by-cons (λ (y : Thread). cond y.lives 1 0) x ts in
    left ∙ (rw here (ap (λ (n : ℕ). cond {A = ℕ} x.lives 1 0 + n) rest) ∙ sym right)

pub living_is : (ts : List Thread) → living (threads_of ts) ≡ count_by (λ (x : Thread). x.lives) ts
living_is ts = counted ts (threads_of ts).lives 0 (λ i. (let e : 0 + i ≡ i = omega arith in ap (threads_of ts).lives e))
