-- The era of the labels is that of the entries.
use Rattle.std.proofs.Common.{◌≡◌, ℕ, zero, suc, ◌+◌, ◌-◌, ◌≤◌, if◌then◌else◌, true, false, Some, List, [], ◌∷◌, ◌++◌, map, slice_get, refl, sym, ap, subst, ◌∙◌, arith}
use Rattle.std.specs.Prelude.{All, replicate, slice_index_or}
use Rattle.std.specs.List.{enumerate_from}
use Rattle.std.proofs.lemmas.List.Elements.{All-nil, All-cons, All-head, All-tail}
use Rattle.run_record.specs.declared.event.Event.{Event}
use Rattle.run_record.specs.declared.entry.DeskNote.TheVariants.{Nothing, Attach, Leave}
use Rattle.run_record.specs.declared.entry.Entry.{Entry}
use Rattle.run_laws.specs.Moments.{Item, Does, Notes, NewEra, Past, Moment, moment_at, items, moments, moments_from, entry_moments, event_moment, ErasNeverFall, IsBy}
use Rattle.run_laws.specs.Labels.{Labels, can_attach, attach_labels, next_labels, labels}
use Rattle.run_laws.proofs.RoundOrder.{pairs_head, pairs_tail}

one : Item → ℕ
one NewEra = 1
one (Does t e) = 0
one (Notes t note) = 0
one Past = 0

-- the era at a position of moments that begin in era r
era_at : ℕ → List Moment → ℕ → ℕ
era_at r ms zero = r
era_at r [] (suc n) = r
era_at r (m ∷ ms) (suc n) = era_at (r + one m.item) ms n

past : Moment
past = record { entry = 0; round = 0; item = Past; checks = [] }

era_at-next : (r : ℕ) (ms : List Moment) (n : ℕ) → era_at r ms (suc n) ≡ era_at r ms n + one (slice_index_or ms n past).item
unfolding era_at one past
era_at-next r [] zero = omega arith
era_at-next r [] (suc n) = omega arith
era_at-next r (m ∷ []) zero = refl
era_at-next r (m ∷ (k ∷ ms)) zero = refl
era_at-next r (m ∷ ms) (suc n) = era_at-next (r + one m.item) ms n

next_era : (g : ℕ) (l : Labels) (it : Item) → (next_labels g l it).era ≡ l.era + one it
unfolding one
next_era g l (Does t e) = omega arith
next_era g l (Notes t (Attach a)) = elim (can_attach l t a.sid) as (λ b. (if b then attach_labels l t a.sid else l).era ≡ l.era + 0) [ true ↦ omega arith | false ↦ omega arith ]
next_era g l (Notes t Nothing) = omega arith
next_era g l (Notes t (Leave a)) = omega arith
next_era g l NewEra = refl
next_era g l Past = omega arith

labels-era : (g : ℕ) (h : List Moment) (n : ℕ) → (labels g (items h) n).era ≡ era_at 0 h n
unfolding labels era_at past
labels-era g h zero = refl
labels-era g h (suc n) = next_era g (labels g (items h) n) (items h n) ∙ (ap (λ x. x + one (items h n)) (labels-era g h n) ∙ sym (era_at-next 0 h n))

-- each moment but a new era's is as G says in its era
Holds : (ℕ → Moment → Type 0) → ℕ → List Moment → Type 0
Holds G r ms = (n : ℕ) (t : ℕ) → IsBy t (slice_index_or ms n past).item → G (era_at r ms n) (slice_index_or ms n past)

holds_none : (G : ℕ → Moment → Type 0) (r : ℕ) → Holds G r []
unfolding Holds past
holds_none G r n t b = absurd b

holds_news : (G : ℕ → Moment → Type 0) (r c i round : ℕ) (tail : List Moment) → Holds G (r + c) tail → Holds G r (replicate c (record { entry = i; round = round; item = NewEra; checks = [] }) ++ tail)
unfolding Holds era_at one
holds_news G r zero i round tail h n t b = let z : r + 0 ≡ r = omega arith in subst (λ x. Holds G x tail) z h n t b
holds_news G r (suc c) i round tail h zero t b = absurd b
holds_news G r (suc c) i round tail h (suc n) t b =
    let z : r + suc c ≡ r + 1 + c = omega arith in
    holds_news G (r + 1) c i round tail (subst (λ x. Holds G x tail) z h) n t b

holds_entry : (G : ℕ → Moment → Type 0) (r : ℕ) (xs tail : List Moment) → All (λ (m : Moment). (one m.item ≡ 0) × G r m) xs → Holds G r tail → Holds G r (xs ++ tail)
unfolding Holds era_at
holds_entry G r [] tail a h n t b = h n t b
holds_entry G r (x ∷ xs) tail a h zero t b = (All-head (λ (m : Moment). (one m.item ≡ 0) × G r m) x xs a).1
holds_entry G r (x ∷ xs) tail a h (suc n) t b =
    let e = (All-head (λ (m : Moment). (one m.item ≡ 0) × G r m) x xs a).0 in
    let z : r + one x.item ≡ r = omega arith in
    subst (λ y. G (era_at y (xs ++ tail) n) (slice_index_or (xs ++ tail) n past)) (sym z) (holds_entry G r xs tail (All-tail (λ (m : Moment). (one m.item ≡ 0) × G r m) x xs a) h n t b)

-- the moment is one of an entry of that era
pub record OfEntry (i : ℕ) (es : List Entry) (era : ℕ) (m : Moment) : Type 0 where
  pub index : ℕ
  pub entry : Entry
  pub stands : slice_get es index ≡ Some entry
  pub number : m.entry ≡ i + index
  pub thread : IsBy entry.tid m.item
  pub same_round : m.round ≡ entry.round
  pub same_era : entry.era ≡ era

later : (i : ℕ) (e : Entry) (es : List Entry) (era : ℕ) (m : Moment) → OfEntry (i + 1) es era m → OfEntry i (e ∷ es) era m
later i e es era m o = record { index = suc o.index; entry = o.entry; stands = o.stands; number = let z = o.number in omega arith; thread = o.thread; same_round = o.same_round; same_era = o.same_era }

events_of : (i : ℕ) (e : Entry) (es : List Entry) (n : ℕ) (xs : List Event) → All (λ (m : Moment). (one m.item ≡ 0) × OfEntry i (e ∷ es) e.era m) (map (event_moment i e) (enumerate_from n xs))
unfolding one
events_of i e es n [] = All-nil (λ (m : Moment). (one m.item ≡ 0) × OfEntry i (e ∷ es) e.era m)
events_of i e es n (x ∷ xs) =
    All-cons (λ (m : Moment). (one m.item ≡ 0) × OfEntry i (e ∷ es) e.era m) (event_moment i e (n, x)) (map (event_moment i e) (enumerate_from (n + 1) xs))
    (refl, record { index = 0; entry = e; stands = refl; number = omega arith; thread = refl; same_round = refl; same_era = refl }) (events_of i e es (n + 1) xs)

holds_weaker : (G H : ℕ → Moment → Type 0) (r : ℕ) (ms : List Moment) → ((era : ℕ) (m : Moment) → G era m → H era m) → Holds G r ms → Holds H r ms
unfolding Holds
holds_weaker G H r ms f h n t b = f (era_at r ms n) (slice_index_or ms n past) (h n t b)

holds : (era i : ℕ) (es : List Entry) → All (λ (e : Entry). era ≤ e.era) es → ErasNeverFall es → Holds (OfEntry i es) era (moments_from era i es)
unfolding one
holds era i [] a p = holds_none (OfEntry i []) era
holds era i (e ∷ es) a p =
    let l = All-head (λ (e : Entry). era ≤ e.era) e es a in
    let z : e.era ≡ era + (e.era - era) = omega arith in
    let rest = holds e.era (i + 1) es (pairs_head (λ (d e : Entry). d.era ≤ e.era) e es p) (pairs_tail (λ (d e : Entry). d.era ≤ e.era) e es p) in
    holds_news (OfEntry i (e ∷ es)) era (e.era - era) i e.round (entry_moments i e ++ moments_from e.era (i + 1) es)
    (subst (λ x. Holds (OfEntry i (e ∷ es)) x (entry_moments i e ++ moments_from e.era (i + 1) es)) z
    (holds_entry (OfEntry i (e ∷ es)) e.era (entry_moments i e) (moments_from e.era (i + 1) es)
    (All-cons (λ (m : Moment). (one m.item ≡ 0) × OfEntry i (e ∷ es) e.era m) (record { entry = i; round = e.round; item = Notes e.tid e.note; checks = [] }) (map (event_moment i e) (enumerate_from 0 e.events))
    (refl, record { index = 0; entry = e; stands = refl; number = omega arith; thread = refl; same_round = refl; same_era = refl }) (events_of i e es 0 e.events))
    (holds_weaker (OfEntry (i + 1) es) (OfEntry i (e ∷ es)) e.era (moments_from e.era (i + 1) es) (later i e es) rest)))

-- at each moment of an entry the labels' era is the entry's
pub era_of_entry : (g : ℕ) (entries : List Entry) → ErasNeverFall entries → (n t : ℕ) → IsBy t (items (moments entries) n) → OfEntry 0 entries (labels g (items (moments entries)) n).era (moment_at (moments entries) n)
unfolding Holds past
era_of_entry g entries p n t b =
    subst (λ x. OfEntry 0 entries x (moment_at (moments entries) n)) (sym (labels-era g (moments entries) n))
    (holds 0 0 entries (λ i d l. omega arith) p n t b)

one_thread : (t u : ℕ) (it : Item) → IsBy t it → IsBy u it → t ≡ u
one_thread t u (Does v e) a b = sym a ∙ b
one_thread t u (Notes v note) a b = sym a ∙ b
one_thread t u NewEra a b = absurd a
one_thread t u Past a b = absurd a

pub entry_era : (g : ℕ) (entries : List Entry) → ErasNeverFall entries → (n t : ℕ) → IsBy t (items (moments entries) n) →
    (e : Entry) × (slice_get entries (moment_at (moments entries) n).entry ≡ Some e) × (e.tid ≡ t) × (e.era ≡ (labels g (items (moments entries)) n).era)
entry_era g entries p n t b =
    let o = era_of_entry g entries p n t b in
    let z : (moment_at (moments entries) n).entry ≡ o.index = (let y = o.number in omega arith) in
    (o.entry, ap (slice_get entries) z ∙ o.stands, one_thread o.entry.tid t (items (moments entries) n) o.thread b, o.same_era)
