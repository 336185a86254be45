-- The locks of each thread, as one list of the locks of all threads goes on.
use Rattle.std.proofs.Common.{◌≡◌, ℕ, zero, suc, ◌<◌, ◌≤◌, ◌==◌, ◌&&◌, Bool, true, false, cond, List, [], ◌∷◌, ◌++◌, length, map, drop, get_or, refl, sym, ap, ◌∙◌, subst, inl, inr, arith}
use Rattle.std.specs.List.{list_any, remove, filter}
use Rattle.std.proofs.lemmas.Bool.{or_parts, or_from, or_right, and_parts, and_right, eq-eqb, ne_eqb, eqb-true, cases_eq, lt-ltb, le-ltb}
use Rattle.std.proofs.lemmas.List.{map-append, append-nil}
use Rattle.std.proofs.lemmas.List.Elements.{filter-append}
use Rattle.run_record.specs.declared.report.KeptLock.{KeptLock}
use Rattle.run_record.specs.declared.event.Event.{Event}
use Rattle.run_record.specs.declared.event.Event.TheVariants.{Lock, Unlock}
use Rattle.run_laws.specs.Stacks.{without_last, is_lock, locks_after}
use Rattle.trace_parts.proofs.LockLaws.{without_last-none}
use Rattle.kept_locks.specs.declared.held.Held.{Held}
use Rattle.kept_locks.specs.Held.{locks_by, is_held, GoOnBy}

abbrev pub lock_of : Held → KeptLock
lock_of h = h.lock

abbrev pub by : ℕ → List Held → List Held
by u held = filter (λ (h : Held). h.tid == u) held

after_one : (xs : List Held) (h : Held) (b : Bool) → map lock_of (xs ++ cond b (h ∷ []) []) ≡ cond b (map lock_of xs ++ h.lock ∷ []) (map lock_of xs)
after_one xs h true = map-append lock_of xs (h ∷ [])
after_one xs h false = ap (map lock_of) (append-nil xs)

-- one more lock behind
pub locks_by-push : (held : List Held) (h : Held) (u : ℕ) → locks_by (held ++ h ∷ []) u ≡ cond (h.tid == u) (locks_by held u ++ h.lock ∷ []) (locks_by held u)
locks_by-push held h u = ap (map lock_of) (filter-append (λ (k : Held). k.tid == u) held (h ∷ [])) ∙ after_one (by u held) h (h.tid == u)

none_of_two : (p : KeptLock → Bool) (h : Held) (xs : List Held) (b : Bool) → (b && p h.lock) ≡ false → list_any p (map lock_of xs) ≡ false →
    list_any p (map lock_of (cond b (h ∷ xs) xs)) ≡ false
none_of_two p h xs true e rest = or_from (p h.lock) (list_any p (map lock_of xs)) e rest
none_of_two p h xs false e rest = rest

-- where no lock is it, none of the thread's is
none_by : (t addr : ℕ) (read : Bool) (held : List Held) → list_any (is_held t addr read) held ≡ false → list_any (is_lock addr read) (locks_by held t) ≡ false
none_by t addr read [] none = refl
none_by t addr read (h ∷ held) none =
    let parts = or_parts (is_held t addr read h) (list_any (is_held t addr read) held) none in
    none_of_two (is_lock addr read) h (by t held) (h.tid == t) parts.0 (none_by t addr read held parts.1)

any_of_two : (p : KeptLock → Bool) (h : Held) (xs : List Held) (b : Bool) → list_any p (map lock_of xs) ≡ true →
    list_any p (map lock_of (cond b (h ∷ xs) xs)) ≡ true
any_of_two p h xs true e = or_right (p h.lock) (list_any p (map lock_of xs)) e
any_of_two p h xs false e = e

any_by : (t addr : ℕ) (read : Bool) (held : List Held) (i : ℕ) (d : Held) → i < length held → is_held t addr read (get_or held i d) ≡ true →
    list_any (is_lock addr read) (locks_by held t) ≡ true
any_by t addr read [] i d l it = absurd (omega arith)
any_by t addr read (h ∷ held) zero d l it = let parts = and_parts (h.tid == t) (is_lock addr read h.lock) it in rw (parts.0, parts.1) refl
any_by t addr read (h ∷ held) (suc i) d l it = any_of_two (is_lock addr read) h (by t held) (h.tid == t) (any_by t addr read held i d (omega arith) it)

own_of_two : (p : KeptLock → Bool) (h : Held) (xs ys : List Held) (b : Bool) → list_any p (map lock_of xs) ≡ true →
    map lock_of ys ≡ without_last p (map lock_of xs) → map lock_of (cond b (h ∷ ys) ys) ≡ without_last p (map lock_of (cond b (h ∷ xs) xs))
own_of_two p h xs ys true any e = rw (any, and_right (p h.lock) false refl) (ap (λ (ls : List KeptLock). h.lock ∷ ls) e)
own_of_two p h xs ys false any e = e

-- the thread's last such lock leaves
removed_own : (t addr : ℕ) (read : Bool) (held : List Held) (i : ℕ) (d : Held) → i < length held → is_held t addr read (get_or held i d) ≡ true →
    list_any (is_held t addr read) (drop (suc i) held) ≡ false →
    locks_by (remove held i) t ≡ without_last (is_lock addr read) (locks_by held t)
removed_own t addr read [] i d l it none = absurd (omega arith)
removed_own t addr read (h ∷ held) zero d l it none =
    let parts = and_parts (h.tid == t) (is_lock addr read h.lock) it in
    let rest = none_by t addr read held none in
    rw (parts.0, parts.1, rest) refl
removed_own t addr read (h ∷ held) (suc i) d l it none =
    own_of_two (is_lock addr read) h (by t held) (by t (remove held i)) (h.tid == t) (any_by t addr read held i d (omega arith) it)
    (removed_own t addr read held i d (omega arith) it none)

other_of_two : (h : Held) (xs ys : List Held) (b : Bool) → map lock_of ys ≡ map lock_of xs → map lock_of (cond b (h ∷ ys) ys) ≡ map lock_of (cond b (h ∷ xs) xs)
other_of_two h xs ys true e = ap (λ (ls : List KeptLock). h.lock ∷ ls) e
other_of_two h xs ys false e = e

removed_other : (u : ℕ) (held : List Held) (i : ℕ) (d : Held) → i < length held → ((get_or held i d).tid == u) ≡ false →
    locks_by (remove held i) u ≡ locks_by held u
removed_other u [] i d l other = absurd (omega arith)
removed_other u (h ∷ held) zero d l other = rw other refl
removed_other u (h ∷ held) (suc i) d l other = other_of_two h (by u held) (by u (remove held i)) (h.tid == u) (removed_other u held i d (omega arith) other)

pub go_on : (t : ℕ) (e : Event) (old new : List Held) → locks_by new t ≡ locks_after (locks_by old t) e →
    ((u : ℕ) → (t ≡ u → ⊥) → locks_by new u ≡ locks_by old u) → GoOnBy t e old new
go_on t e old new own others u = elim (cases_eq t u) [
  | inl same ↦ let yes = eq-eqb t u same in rw yes (subst (λ (v : ℕ). locks_by new v ≡ locks_after (locks_by old v) e) same own)
  | inr other ↦ let no = ne_eqb t u other in rw no (others u other)
]

-- a lock is kept
pub taken_kept : (t addr : ℕ) (read : Bool) (old new : List Held) → length (locks_by old t) < 64 →
    new ≡ old ++ record { tid = t; lock = record { addr = addr; read = read } } ∷ [] → GoOnBy t (Lock addr read) old new
taken_kept t addr read old new room e =
    go_on t (Lock addr read) old new
    (let fits = lt-ltb (length (locks_by old t)) 64 room in
    let own = eq-eqb t t refl in
    ap (λ (held : List Held). locks_by held t) e ∙ locks_by-push old (record { tid = t; lock = record { addr = addr; read = read } }) t ∙ rw (fits, own) refl)
    (λ u other.
    let no = ne_eqb t u other in
    ap (λ (held : List Held). locks_by held u) e ∙ locks_by-push old (record { tid = t; lock = record { addr = addr; read = read } }) u ∙ rw no refl)

-- a lock is not kept, since 64 are
pub taken_over : (t addr : ℕ) (read : Bool) (old new : List Held) → 64 ≤ length (locks_by old t) → new ≡ old → GoOnBy t (Lock addr read) old new
taken_over t addr read old new full e =
    go_on t (Lock addr read) old new
    (let over = le-ltb (length (locks_by old t)) 64 full in ap (λ (held : List Held). locks_by held t) e ∙ rw over refl)
    (λ u other. ap (λ (held : List Held). locks_by held u) e)

-- the lock at i is given back
pub given_back : (t addr : ℕ) (read : Bool) (old new : List Held) (i : ℕ) (d : Held) → i < length old → is_held t addr read (get_or old i d) ≡ true →
    list_any (is_held t addr read) (drop (suc i) old) ≡ false → new ≡ remove old i → GoOnBy t (Unlock addr read) old new
given_back t addr read old new i d l it none e =
    let parts = and_parts ((get_or old i d).tid == t) (is_lock addr read (get_or old i d).lock) it in
    let tid : (get_or old i d).tid ≡ t = eqb-true (get_or old i d).tid t parts.0 in
    go_on t (Unlock addr read) old new
    (ap (λ (held : List Held). locks_by held t) e ∙ removed_own t addr read old i d l it none)
    (λ u other. ap (λ (held : List Held). locks_by held u) e ∙ removed_other u old i d l (ne_eqb (get_or old i d).tid u (λ same. other (sym tid ∙ same))))

-- no lock is given back
pub none_given : (t addr : ℕ) (read : Bool) (old new : List Held) → list_any (is_held t addr read) old ≡ false → new ≡ old → GoOnBy t (Unlock addr read) old new
none_given t addr read old new none e =
    go_on t (Unlock addr read) old new
    (ap (λ (held : List Held). locks_by held t) e ∙ sym (without_last-none (is_lock addr read) (locks_by old t) (none_by t addr read old none)))
    (λ u other. ap (λ (held : List Held). locks_by held u) e)
