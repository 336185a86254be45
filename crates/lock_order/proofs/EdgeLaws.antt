-- The edges of a history, as it goes on.
use Rattle.std.proofs.Common.{◌≡◌, ℕ, zero, suc, ◌<◌, ◌≤◌, ◌==◌, ◌-◌, ◌&&◌, ◌||◌, not, Bool, true, false, cond, if◌then◌else◌, List, [], ◌∷◌, ◌++◌, length, map, get_or, Option, Some, None, refl, sym, ap, ap₂, ◌∙◌, subst, ◌⊎◌, inl, inr, arith, append_assoc, length-append, append-nil, take, ◌+◌, length-take}
use Rattle.std.specs.Prelude.{filter_map, fold, replicate}
use Rattle.std.specs.List.{Contains, enumerate_from, cons_option}
use Rattle.std.specs.BTreeMap.{BTreeMap, get, is_at, IsOrdered}
use Rattle.std.specs.Map.{lookup}
use Rattle.std.specs.Cmp.{IsTotalOrder}
use Rattle.std.specs.List.Sorted.{IsStrictlySortedBy}
use Rattle.std.proofs.lemmas.Cmp.{then_total, on_total, nat_cmp_total}
use Rattle.std.proofs.lemmas.Map.Lookups.{CmpEqualImpliesEq, exact_pairs, exact_unsigned}
use Rattle.std.proofs.lemmas.Map.Views.{btree_map_get_iff}
use Rattle.std.proofs.lemmas.Bool.{cases_order, cases_lt, cases_eq, lt-ltb, le-ltb, eq-eqb, ne_eqb, and_right, false≢true}
use Rattle.std.specs.Ordering.{is_eq, nat_cmp, ordering_then}
use Rattle.std.specs.declared.cmp.Ordering.{Ordering}
use Rattle.std.specs.declared.cmp.Ordering.TheVariants.{Less, Equal, Greater}
use Rattle.std.specs.Option.{is_some}
use Rattle.std.proofs.lemmas.List.{map-append, length-map, take_all}
use Rattle.std.proofs.lemmas.List.Folds.{list_any-append}
use Rattle.std.proofs.Math.ListN.{get_or-eq_default, get_or-append, get_or-map}
use Rattle.std.proofs.Math.Seq.{get_or-append_seam, take-suc}
use Rattle.run_record.specs.declared.event.Event.{Event}
use Rattle.run_record.specs.declared.event.Event.TheVariants.{Lock}
use Rattle.run_record.specs.declared.report.KeptLock.{KeptLock}
use Rattle.run_record.specs.declared.entry.Entry.{Entry}
use Rattle.run_record.specs.declared.entry.DeskNote.{DeskNote}
use Rattle.run_laws.specs.Moments.{Item, Does, Notes, NewEra, Past, Moment, items, event_moment, entry_moments, moments, moments_in, last_era}
use Rattle.run_laws.proofs.MomentsLaw.{moments-push}
use Rattle.run_laws.specs.Stacks.{kept_locks, locks_after, event_by}
use Rattle.run_laws.specs.Present.{locks_now}
use Rattle.run_laws.proofs.PresentLaw.{locks_stay, locks_now-push}
use Rattle.lock_order.specs.declared.edge.Edge.{Edge}
use Rattle.kept_locks.specs.declared.held.Held.{Held}
use Rattle.kept_locks.specs.Held.{locks_by, GoOnBy}
use Rattle.kept_locks.proofs.HeldLaws.{locks_by-push}
use Rattle.kept_locks.proofs.KeptLaws.{event_locks}
use Rattle.lock_order.specs.Edges.{has_address, takes, taker_by, taker, pair_order, ends, IsEdge, AreEdges}
use Rattle.lock_order.specs.Found.{first_by, or_else, IsFirst, Follows, edge_of}

abbrev past : Moment
past = record { entry = 0; round = 0; item = Past; checks = [] }

same_locks : (f g : ℕ → List KeptLock) → ((t : ℕ) → f t ≡ g t) → (it : Item) (x y : ℕ) → taker_by f it x y ≡ taker_by g it x y
same_locks f g e (Does t event) x y = ap (λ (ls : List KeptLock). if takes x y ls event then Some t else None) (e t)
same_locks f g e (Notes t note) x y = refl
same_locks f g e NewEra x y = refl
same_locks f g e Past x y = refl

-- what was told of a position stays so
taker-stay : (h : List Moment) (m : Moment) (n x y : ℕ) → n < length h → taker (h ++ m ∷ []) n x y ≡ taker h n x y
taker-stay h m n x y l =
    ap (λ (k : Moment). taker_by (kept_locks (h ++ m ∷ []) n) k.item x y) (get_or-append h (m ∷ []) past n l)
    ∙ same_locks (kept_locks (h ++ m ∷ []) n) (kept_locks h n) (λ t. locks_stay h (m ∷ []) n t (omega arith)) (items h n) x y

taker-now : (h : List Moment) (m : Moment) (x y : ℕ) → taker (h ++ m ∷ []) (length h) x y ≡ taker_by (locks_now h) m.item x y
taker-now h m x y =
    ap (λ (k : Moment). taker_by (kept_locks (h ++ m ∷ []) (length h)) k.item x y) (get_or-append_seam h m [] past)
    ∙ same_locks (kept_locks (h ++ m ∷ []) (length h)) (locks_now h) (λ t. locks_stay h (m ∷ []) (length h) t (omega arith)) m.item x y

taker-past : (h : List Moment) (n x y : ℕ) → length h ≤ n → taker h n x y ≡ None
taker-past h n x y l = ap (λ (k : Moment). taker_by (kept_locks h n) k.item x y) (get_or-eq_default h past l)

one_more : (h : List Moment) (m : Moment) → length (h ++ m ∷ []) ≡ suc (length h)
one_more h m = omega (arith, length-append h (m ∷ []))

none≢some : {X : Type 0} (x : X) → None ≡ Some x → ⊥
none≢some x e = subst (λ o. elim o as (λ _. Type 0) [ None ↦ Unit {0} | Some _ ↦ ⊥ ]) e tt

-- one more moment, at which the answer is k
first-push : (h : List Moment) (m : Moment) (x y : ℕ) (o k : Option ℕ) → IsFirst h x y o → taker_by (locks_now h) m.item x y ≡ k →
    IsFirst (h ++ m ∷ []) x y (or_else o k)
first-push h m x y (Some t) k (place, taken, before) e = elim (cases_lt place (length h)) [
  | inl l ↦ (place, taker-stay h m place x y l ∙ taken, λ n b. taker-stay h m n x y (omega arith) ∙ before n b)
  | inr l ↦ absurd (none≢some t (sym (taker-past h place x y l) ∙ taken))
]
first-push h m x y None (Some t) never e = (length h, taker-now h m x y ∙ e, λ n b. taker-stay h m n x y b ∙ never n)
first-push h m x y None None never e = λ n. elim (cases_order n (length h)) [
  | inl same ↦ subst (λ (i : ℕ). taker (h ++ m ∷ []) i x y ≡ None) (sym same) (taker-now h m x y ∙ e)
  | inr (inl l) ↦ taker-stay h m n x y l ∙ never n
  | inr (inr l) ↦ taker-past (h ++ m ∷ []) n x y (omega (arith, one_more h m))
]

or_none : (o : Option ℕ) → or_else o None ≡ o
or_none None = refl
or_none (Some x) = refl

-- one more event
pub follows-event : (h : List Moment) (m : Moment) (t : ℕ) (e : Event) (held now : List Held) (found new : BTreeMap (ℕ × ℕ) ℕ) → m.item ≡ Does t e →
    GoOnBy t e held now →
    ((x y : ℕ) → first_by new x y ≡ or_else (first_by found x y) (taker_by (locks_by held) (Does t e) x y)) → Follows h held found →
    Follows (h ++ m ∷ []) now new
follows-event h m t e held now found new is on more f = record {
  locks = λ u.
      on u ∙ (event_locks t u e (locks_by held u)
      ∙ (ap (λ (ls : List KeptLock). fold locks_after ls (filter_map (λ (k : Item). event_by u k) (Does t e ∷ []))) (f.locks u)
      ∙ (ap (λ (it : Item). fold locks_after (locks_now h u) (filter_map (λ (k : Item). event_by u k) (it ∷ []))) (sym is)
      ∙ sym (locks_now-push h m u))));
  first = λ x y.
      subst (IsFirst (h ++ m ∷ []) x y) (sym (more x y))
      (first-push h m x y (first_by found x y) (taker_by (locks_by held) (Does t e) x y) (f.first x y)
      (ap (λ (it : Item). taker_by (locks_now h) it x y) is ∙ same_locks (locks_now h) (locks_by held) (λ u. sym (f.locks u)) (Does t e) x y));
}

-- a moment at which no thread makes an event
abbrev IsQuiet : Moment → Type 0
IsQuiet m = (f : ℕ → List KeptLock) (u x y : ℕ) → (taker_by f m.item x y ≡ None) × (event_by u m.item ≡ None)

follows-quiet : (h : List Moment) (m : Moment) (held : List Held) (found : BTreeMap (ℕ × ℕ) ℕ) → IsQuiet m → Follows h held found →
    Follows (h ++ m ∷ []) held found
follows-quiet h m held found quiet f = record {
  locks = λ u.
      f.locks u ∙ sym (locks_now-push h m u ∙ ap (λ (o : Option Event). fold locks_after (locks_now h u) (cons_option o [])) (quiet (locks_now h) u 0 0).1);
  first = λ x y.
      subst (IsFirst (h ++ m ∷ []) x y) (or_none (first_by found x y))
      (first-push h m x y (first_by found x y) None (f.first x y) (quiet (locks_now h) 0 x y).0);
}

-- eras begin
pub follows-eras : (h : List Moment) (n i round : ℕ) (held : List Held) (found : BTreeMap (ℕ × ℕ) ℕ) → Follows h held found →
    Follows (h ++ replicate n (record { entry = i; round = round; item = NewEra; checks = [] })) held found
follows-eras h zero i round held found f = rw (append-nil h) f
follows-eras h (suc n) i round held found f =
    let era : Moment = record { entry = i; round = round; item = NewEra; checks = [] } in
    subst (λ (k : List Moment). Follows k held found) (append_assoc h (era ∷ []) (replicate n era))
    (follows-eras (h ++ era ∷ []) n i round held found (follows-quiet h era held found (λ g u x y. (refl, refl)) f))

-- an entry begins, with its note
pub follows-note : (h : List Moment) (i round t : ℕ) (note : DeskNote) (held : List Held) (found : BTreeMap (ℕ × ℕ) ℕ) → Follows h held found →
    Follows (h ++ record { entry = i; round = round; item = Notes t note; checks = [] } ∷ []) held found
follows-note h i round t note held found f = follows-quiet h (record { entry = i; round = round; item = Notes t note; checks = [] }) held found
    (λ g u x y. (refl, refl)) f

-- nothing happened yet
pub follows-nothing : (held : List Held) (found : BTreeMap (ℕ × ℕ) ℕ) → held ≡ [] → found.entries ≡ [] → Follows [] held found
follows-nothing held found none empty = record {
  locks = λ t. ap (λ (ks : List Held). locks_by ks t) none;
  first = λ x y. subst (λ es. IsFirst [] x y (lookup (is_at (pair_order (x, y))) es)) (sym empty) (λ n. taker-past [] n x y (omega arith));
}

spread : (a b c : Bool) → (a && (b || (c || false))) ≡ ((a && b) || (a && c))
spread true true c = refl
spread true false true = refl
spread true false false = refl
spread false b c = refl

-- one more kept lock of the thread
pub takes-push : (x y to : ℕ) (read : Bool) (ls : List KeptLock) (l : KeptLock) →
    takes x y (ls ++ l ∷ []) (Lock to read) ≡ (takes x y ls (Lock to read) || (((to == y) && not (x == y)) && (l.addr == x)))
takes-push x y to read ls l =
    ap (λ b. ((to == y) && not (x == y)) && b) (list_any-append (λ (k : KeptLock). k.addr == x) ls (l ∷ [])) ∙ spread ((to == y) && not (x == y))
    (has_address ls x) (l.addr == x)

or_false : (b : Bool) → (b || false) ≡ b
or_false true = refl
or_false false = refl

both_equal : (a b : Ordering) → is_eq (ordering_then a b) ≡ (is_eq a && is_eq b)
both_equal Less b = refl
both_equal Equal b = refl
both_equal Greater b = refl

stays : (o k : Option ℕ) → is_some o ≡ true → o ≡ or_else o k
stays None k e = absurd (false≢true e)
stays (Some x) k e = refl

comes : (o : Option ℕ) (t : ℕ) → is_some o ≡ false → Some t ≡ or_else o (Some t)
comes None t e = refl
comes (Some x) t e = absurd (false≢true (sym e))

added : (found : BTreeMap (ℕ × ℕ) ℕ) (from to t : ℕ) → is_some (first_by found from to) ≡ false → (x y : ℕ) → ((from ≡ x) ⊎ (from ≡ x → ⊥)) →
    ((to ≡ y) ⊎ (to ≡ y → ⊥)) →
    cond ((from == x) && (to == y)) (Some t) (first_by found x y) ≡ or_else (first_by found x y) (cond ((from == x) && (to == y)) (Some t) None)
added found from to t none x y (inl e) (inl f) =
    let a = eq-eqb from x e in
    let b = eq-eqb to y f in
    rw (a, b) (comes (first_by found x y) t (subst (λ (b : ℕ). is_some (first_by found x b) ≡ false) f
    (subst (λ (a : ℕ). is_some (first_by found a to) ≡ false) e none)))
added found from to t none x y (inl e) (inr f) = let b = ne_eqb to y f in rw (b, and_right (from == x) false refl) (sym (or_none (first_by found x y)))
added found from to t none x y (inr e) f = let a = ne_eqb from x e in rw a (sym (or_none (first_by found x y)))

or_both : (t : ℕ) (b c : Bool) (o : Option ℕ) → or_else (or_else o (cond b (Some t) None)) (cond c (Some t) None) ≡ or_else o (cond (b || c) (Some t) None)
or_both t true true None = refl
or_both t true false None = refl
or_both t false c None = refl
or_both t true true (Some s) = refl
or_both t true false (Some s) = refl
or_both t false c (Some s) = refl

same_pair : (x y from to : ℕ) → (from ≡ to → ⊥) → (((to == y) && not (x == y)) && (from == x)) ≡ ((from == x) && (to == y))
same_pair x y from to apart = elim (cases_eq from x) [
  | inl e ↦ elim (cases_eq to y) [
    | inl f ↦ let a = eq-eqb from x e in let b = eq-eqb to y f in let c = ne_eqb x y (λ g. apart (e ∙ (g ∙ sym f))) in rw (a, b, c) refl
    | inr f ↦ let a = eq-eqb from x e in let b = ne_eqb to y f in rw (a, b) refl
  ]
  | inr e ↦ let a = ne_eqb from x e in rw (a, and_right ((to == y) && not (x == y)) false refl) refl
]

no_pair : (x y from to : ℕ) → from ≡ to → (((to == y) && not (x == y)) && (from == x)) ≡ false
no_pair x y from to same = elim (cases_eq from x) [
  | inl e ↦ elim (cases_eq to y) [
    | inl f ↦ let b = eq-eqb to y f in let c = eq-eqb x y (sym e ∙ (same ∙ f)) in rw (b, c) refl
    | inr f ↦ let b = ne_eqb to y f in rw b refl
  ]
  | inr e ↦ let a = ne_eqb from x e in rw a (and_right ((to == y) && not (x == y)) false refl)
]

-- the thread that takes `to`, with the first k locks
abbrev pub with_first : List Held → ℕ → ℕ → ℕ → Bool → ℕ → ℕ → Option ℕ
with_first held k t to read x y = taker_by (locks_by (take k held)) (Does t (Lock to read)) x y

first_more : (held : List Held) (k t to : ℕ) (read : Bool) (x y : ℕ) (d : Held) → k < length held →
    with_first held (suc k) t to read x y ≡
    cond (takes x y (cond ((get_or held k d).tid == t) (locks_by (take k held) t ++ (get_or held k d).lock ∷ []) (locks_by (take k held) t)) (Lock to read))
    (Some t) None
first_more held k t to read x y d l =
    ap (λ (ls : List KeptLock). cond (takes x y ls (Lock to read)) (Some t) None)
    (ap (λ (ks : List Held). locks_by ks t) (take-suc held k d l) ∙ locks_by-push (take k held) (get_or held k d) t)

-- the next lock is another thread's
pub edge_of_other : (held : List Held) (k t to : ℕ) (read : Bool) (x y : ℕ) (h : Held) (o : Option ℕ) → k < length held → h ≡ get_or held k h →
    (h.tid ≡ t → ⊥) → or_else o (with_first held k t to read x y) ≡ or_else o (with_first held (suc k) t to read x y)
edge_of_other held k t to read x y h o l is other =
    let no : ((get_or held k h).tid == t) ≡ false = ne_eqb (get_or held k h).tid t (λ e. other (ap (λ (g : Held). g.tid) is ∙ e)) in
    ap (or_else o) (sym (first_more held k t to read x y h l ∙ rw no refl))

own_locks : (held : List Held) (k t to : ℕ) (read : Bool) (x y : ℕ) (h : Held) → k < length held → h ≡ get_or held k h → h.tid ≡ t →
    with_first held (suc k) t to read x y ≡
    cond (takes x y (locks_by (take k held) t) (Lock to read) || (((to == y) && not (x == y)) && (h.lock.addr == x))) (Some t) None
own_locks held k t to read x y h l is own =
    let yes : ((get_or held k h).tid == t) ≡ true = eq-eqb (get_or held k h).tid t (ap (λ (g : Held). g.tid) (sym is) ∙ own) in
    first_more held k t to read x y h l
    ∙ (rw yes refl
    ∙ (ap (λ (g : Held). cond (takes x y (locks_by (take k held) t ++ g.lock ∷ []) (Lock to read)) (Some t) None) (sym is)
    ∙ ap (λ b. cond b (Some t) None) (takes-push x y to read (locks_by (take k held) t) h.lock)))

-- the next lock is the thread's, of the mutex that it takes
pub edge_to_itself : (held : List Held) (k t to : ℕ) (read : Bool) (x y : ℕ) (h : Held) (o : Option ℕ) → k < length held → h ≡ get_or held k h → h.tid ≡ t →
    h.lock.addr ≡ to → or_else o (with_first held k t to read x y) ≡ or_else o (with_first held (suc k) t to read x y)
edge_to_itself held k t to read x y h o l is own same =
    let none = no_pair x y h.lock.addr to same in
    ap (or_else o) (sym (own_locks held k t to read x y h l is own ∙ rw (none, or_false (takes x y (locks_by (take k held) t) (Lock to read))) refl))

-- the next lock is the thread's
pub edge_of_own : (held : List Held) (k t to : ℕ) (read : Bool) (x y : ℕ) (h : Held) (o : Option ℕ) → k < length held → h ≡ get_or held k h → h.tid ≡ t →
    (h.lock.addr ≡ to → ⊥) →
    or_else (or_else o (with_first held k t to read x y)) (cond ((h.lock.addr == x) && (to == y)) (Some t) None) ≡
    or_else o (with_first held (suc k) t to read x y)
edge_of_own held k t to read x y h o l is own apart =
    or_both t (takes x y (locks_by (take k held) t) (Lock to read)) ((h.lock.addr == x) && (to == y)) o
    ∙ ap (or_else o) (ap (λ b. cond (takes x y (locks_by (take k held) t) (Lock to read) || b) (Some t) None) (sym (same_pair x y h.lock.addr to apart))
    ∙ sym (own_locks held k t to read x y h l is own))

is_eq-numbers : (a b : ℕ) → is_eq (nat_cmp a b) ≡ (a == b)
is_eq-numbers a b = elim (cases_order a b) [
  | inl same ↦ let l = le-ltb a b (omega arith) in let e = eq-eqb a b same in rw (l, e) refl
  | inr (inl less) ↦ let l = lt-ltb a b less in let e = ne_eqb a b (λ q. omega arith) in rw (l, e) refl
  | inr (inr more) ↦ let l = le-ltb a b (omega arith) in let e = ne_eqb a b (λ q. omega arith) in rw (l, e) refl
]

is_at-pair : (from to x y : ℕ) → is_at (pair_order (from, to)) (x, y) ≡ ((from == x) && (to == y))
is_at-pair from to x y = both_equal (nat_cmp from x) (nat_cmp to y) ∙ ap₂ (λ (a b : Bool). a && b) (is_eq-numbers from x) (is_eq-numbers to y)

-- a new pair
pub pair_added : (found new : BTreeMap (ℕ × ℕ) ℕ) (from to t : ℕ) → is_some (first_by found from to) ≡ false →
    ((q : ℕ × ℕ) → get pair_order new q ≡ cond (is_at (pair_order (from, to)) q) (Some t) (get pair_order found q)) → (x y : ℕ) →
    first_by new x y ≡ or_else (first_by found x y) (cond ((from == x) && (to == y)) (Some t) None)
pair_added found new from to t none put x y =
    put (x, y) ∙ (ap (λ b. cond b (Some t) (first_by found x y)) (is_at-pair from to x y) ∙ added found from to t none x y (cases_eq from x) (cases_eq to y))

-- a pair that is there
pub pair_there : (found : BTreeMap (ℕ × ℕ) ℕ) (from to t : ℕ) → is_some (first_by found from to) ≡ true → (x y : ℕ) →
    first_by found x y ≡ or_else (first_by found x y) (cond ((from == x) && (to == y)) (Some t) None)
pair_there found from to t some x y = elim (cases_eq from x) [
  | inl e ↦ elim (cases_eq to y) [
    | inl f ↦ stays (first_by found x y) (cond ((from == x) && (to == y)) (Some t) None)
        (subst (λ (b : ℕ). is_some (first_by found x b) ≡ true) f (subst (λ (a : ℕ). is_some (first_by found a to) ≡ true) e some))
    | inr f ↦ let b = ne_eqb to y f in rw (b, and_right (from == x) false refl) (sym (or_none (first_by found x y)))
  ]
  | inr e ↦ let a = ne_eqb from x e in rw a (sym (or_none (first_by found x y)))
]

enumerate_from-push : (n : ℕ) (es : List Event) (e : Event) → enumerate_from n (es ++ e ∷ []) ≡ enumerate_from n es ++ (n + length es, e) ∷ []
enumerate_from-push n [] e = let z : n ≡ n + 0 = omega arith in ap (λ (k : ℕ). (k, e) ∷ []) z
enumerate_from-push n (x ∷ es) e =
    let z : n + 1 + length es ≡ n + suc (length es) = omega arith in
    ap (λ (ps : List (ℕ × Event)). (n, x) ∷ ps) (enumerate_from-push (n + 1) es e ∙ ap (λ (k : ℕ). enumerate_from (n + 1) es ++ (k, e) ∷ []) z)

place_of : (es : List Event) (k : ℕ) → k < length es → 0 + length (take k es) ≡ k
place_of es k l = omega (arith, length-take k es)

-- an entry begins, and the first k of its events are made
abbrev pub some_moments : ℕ → Entry → ℕ → List Moment
some_moments i e k = record { entry = i; round = e.round; item = Notes e.tid e.note; checks = [] } ∷ map (event_moment i e) (enumerate_from 0 (take k e.events))

pub all_moments : (i : ℕ) (e : Entry) (k : ℕ) → length e.events ≤ k → some_moments i e k ≡ entry_moments i e
all_moments i e k l =
    ap (λ (es : List Event). record { entry = i; round = e.round; item = Notes e.tid e.note; checks = [] } ∷ map (event_moment i e) (enumerate_from 0 es))
    (take_all k e.events l)

more_moments : (i : ℕ) (e : Entry) (k : ℕ) (d : Event) → k < length e.events →
    some_moments i e (suc k) ≡ some_moments i e k ++ event_moment i e (k, get_or e.events k d) ∷ []
more_moments i e k d l =
    ap (λ (ms : List Moment). record { entry = i; round = e.round; item = Notes e.tid e.note; checks = [] } ∷ ms)
    (ap (λ (es : List Event). map (event_moment i e) (enumerate_from 0 es)) (take-suc e.events k d l)
    ∙ (ap (map (event_moment i e)) (enumerate_from-push 0 (take k e.events) (get_or e.events k d))
    ∙ (map-append (event_moment i e) (enumerate_from 0 (take k e.events)) ((0 + length (take k e.events), get_or e.events k d) ∷ [])
    ∙ ap (λ (n : ℕ). map (event_moment i e) (enumerate_from 0 (take k e.events)) ++ event_moment i e (n, get_or e.events k d) ∷ []) (place_of e.events k l))))

-- one more event of the entry
pub follows-more : (h : List Moment) (i : ℕ) (e : Entry) (k : ℕ) (event : Event) (held now : List Held) (found new : BTreeMap (ℕ × ℕ) ℕ) →
    k < length e.events → event ≡ get_or e.events k event → GoOnBy e.tid event held now →
    ((x y : ℕ) → first_by new x y ≡ or_else (first_by found x y) (taker_by (locks_by held) (Does e.tid event) x y)) →
    Follows (h ++ some_moments i e k) held found → Follows (h ++ some_moments i e (suc k)) now new
follows-more h i e k event held now found new l is on more f =
    subst (λ (ms : List Moment). Follows ms now new)
    (append_assoc h (some_moments i e k) (event_moment i e (k, get_or e.events k event) ∷ []) ∙ ap (λ (ms : List Moment). h ++ ms)
    (sym (more_moments i e k event l)))
    (follows-event (h ++ some_moments i e k) (event_moment i e (k, get_or e.events k event)) e.tid event held now found new
    (ap (Does e.tid) (sym is)) on more f)

-- one more entry of the history
pub follows-entry : (entries : List Entry) (k : ℕ) (e : Entry) (held now : List Held) (found new : BTreeMap (ℕ × ℕ) ℕ) → k < length entries →
    e ≡ get_or entries k e → ((h : List Moment) (i : ℕ) → Follows h held found → Follows (h ++ entry_moments i e) now new) →
    Follows (moments (take k entries)) held found → Follows (moments (take (suc k) entries)) now new
follows-entry entries k e held now found new l is step f =
    let before = take k entries in
    subst (λ (ms : List Moment). Follows ms now new)
    (sym (ap moments (take-suc entries k e l ∙ ap (λ (d : Entry). before ++ d ∷ []) (sym is)) ∙ moments-push before e))
    (step (moments_in e.round e.era before) (length before) (follows-eras (moments before) (e.era - last_era before) (length before) e.round held found f))

contains-edge : (es : List ((ℕ × ℕ) × ℕ)) (p : (ℕ × ℕ) × ℕ) → Contains es p → Contains (map edge_of es) (edge_of p)
contains-edge es p (k, l, e) = (k, omega (arith, length-map es edge_of), get_or-map edge_of es k p ∙ ap edge_of e)

abbrev entry_of : Edge → (ℕ × ℕ) × ℕ
entry_of e = ((e.from, e.to), e.tid)

contains-entry : (es : List ((ℕ × ℕ) × ℕ)) (e : Edge) → Contains (map edge_of es) e → Contains es (entry_of e)
contains-entry es e (k, l, is) = (k, omega (arith, length-map es edge_of), ap entry_of (sym (get_or-map edge_of es k (entry_of e)) ∙ is))

map-map : (es : List ((ℕ × ℕ) × ℕ)) → map ends (map edge_of es) ≡ map (λ (p : (ℕ × ℕ) × ℕ). p.0) es
map-map [] = refl
map-map (p ∷ es) = ap (λ (ps : List (ℕ × ℕ)). p.0 ∷ ps) (map-map es)

pair_total : IsTotalOrder pair_order
pair_total = then_total (on_total (λ (p : ℕ × ℕ). p.0) nat_cmp_total) (on_total (λ (p : ℕ × ℕ). p.1) nat_cmp_total)

pair_exact : CmpEqualImpliesEq pair_order
pair_exact = exact_pairs nat_cmp nat_cmp exact_unsigned exact_unsigned

first_some : (h : List Moment) (x y t : ℕ) (o : Option ℕ) → o ≡ Some t → IsFirst h x y o → IsEdge h (record { from = x; to = y; tid = t })
first_some h x y t None e f = absurd (none≢some t e)
first_some h x y t (Some s) e (place, taken, before) = record { place = place; taken = taken ∙ e; first = before }

some_first : (h : List Moment) (edge : Edge) (o : Option ℕ) → IsEdge h edge → IsFirst h edge.from edge.to o → o ≡ Some edge.tid
some_first h edge None e f = absurd (none≢some edge.tid (sym (f e.place) ∙ e.taken))
some_first h edge (Some s) e (place, taken, before) = elim (cases_order place e.place) [
  | inl same ↦ sym taken ∙ (ap (λ (n : ℕ). taker h n edge.from edge.to) same ∙ e.taken)
  | inr (inl less) ↦ absurd (none≢some s (sym (e.first place less) ∙ taken))
  | inr (inr more) ↦ absurd (none≢some edge.tid (sym (before e.place more) ∙ e.taken))
]

-- the entries, as edges, are the history's
pub are_edges : (h : List Moment) (held : List Held) (found : BTreeMap (ℕ × ℕ) ℕ) (es : List Edge) → Follows h held found → IsOrdered pair_order found →
    es ≡ map edge_of found.entries → AreEdges h es
are_edges h held found es f ordered is = subst (AreEdges h) (sym is) (record {
  ordered = subst (IsStrictlySortedBy pair_order) (sym (map-map found.entries)) ordered;
  each = λ e c.
      first_some h e.from e.to e.tid (first_by found e.from e.to)
      ((btree_map_get_iff pair_total pair_exact found ordered (e.from, e.to) e.tid).1 (contains-entry found.entries e c)) (f.first e.from e.to);
  all = λ e edge.
      contains-edge found.entries (entry_of e) ((btree_map_get_iff pair_total pair_exact found ordered (e.from, e.to) e.tid).0
      (some_first h e (first_by found e.from e.to) edge (f.first e.from e.to)));
})

-- an event that takes no lock
pub no_lock : (found : Option ℕ) (t x y : ℕ) (ls : List KeptLock) (e : Event) → ((addr : ℕ) (read : Bool) → e ≡ Lock addr read → ⊥) →
    found ≡ or_else found (if takes x y ls e then Some t else None)
no_lock found t x y ls (Lock addr read) other = absurd (other addr read refl)
no_lock found t x y ls _ other = sym (or_none found)
