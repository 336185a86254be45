-- What an order tells of two events.
use Rattle.std.proofs.Common.{◌≡◌, ℕ, ◌<◌, ◌≤◌, ◌↔◌, true, List, length, sym, ap, ◌∙◌, subst, inl, inr, arith, leb, Option, Some, None, nat_lt, false}
use Rattle.std.specs.Prelude.{IsTrue, slice_index_or}
use Rattle.std.specs.List.{AllWithin}
use Rattle.std.specs.List.Sorted.{IsNonDecreasingBy}
use Rattle.std.proofs.lemmas.Bool.{cases_eq, cases_lt, lt-ltb}
use Rattle.std.proofs.lemmas.List.{get_or_default}
use Rattle.run_record.specs.declared.event.Event.{Event}
use Rattle.run_record.specs.declared.entry.Entry.{Entry}
use Rattle.run_laws.specs.Moments.{Item, Does}
use Rattle.run_laws.specs.HappensBefore.{HappensBefore, Program, One}
use Rattle.offline_audit.specs.declared.heard.Step.{Step}
use Rattle.offline_audit.specs.declared.order.Order.{Order}
use Rattle.offline_audit.specs.Heard.{TellBy, AreRising}
use Rattle.offline_audit.specs.Known.{steps_between}
use Rattle.offline_audit.specs.Orders.{TellsOrder}
use Rattle.offline_audit.proofs.KnowledgeLaw.{before-lt}
use Rattle.offline_audit.proofs.StandsLaw.{number-lt, number-le}
use Rattle.offline_audit.proofs.Entries.{nothing}

-- steps that rise rise in time
pub rising_at : (steps : List Step) → AreRising steps → IsNonDecreasingBy (λ (s : Step). s.at) steps
rising_at steps rising = λ i j d l m. elim (cases_eq i j) [
  | inl e ↦ rw e (omega arith)
  | inr n ↦ (rising i j d (omega arith) m).0
]

-- No step was made by then.
pub none_by : (steps : List Step) (at x : ℕ) → AllWithin (λ (s : Step). leb s.at at ≡ true → ⊥) steps 0 (length steps) →
    (x < 0) ↔ TellBy steps at x
none_by steps at x later = (λ l. absurd (omega arith), λ t. absurd (later t.1.0 t.0 (omega arith) t.1.1 (le-leb' _ _ (subst (λ (s : Step). s.at ≤ at) (sym t.1.2) t.2))))
  where
    le-leb' : (a b : ℕ) → a ≤ b → leb a b ≡ true
    le-leb' a b l = grind arith

-- The last of the steps that were made by then tells what all of them tell.
pub last_by : (steps : List Step) (at n x : ℕ) → AreRising steps → n < length steps →
    (slice_index_or steps n nothing).at ≤ at → ((k : ℕ) → n < k → k < length steps → at < (slice_index_or steps k nothing).at) →
    (x < (slice_index_or steps n nothing).known) ↔ TellBy steps at x
last_by steps at n x rising l early later = (
  λ m. (slice_index_or steps n nothing, (n, l, get_or_default steps n (slice_index_or steps n nothing) nothing l), early, m),
  λ t.
      let k = t.1.0 in
      let e : slice_index_or steps k nothing ≡ t.0 = get_or_default steps k nothing t.0 t.1.1 ∙ t.1.2 in
      let a = ap (λ (s : Step). s.at) e in
      let b = ap (λ (s : Step). s.known) e in
      let c = t.2 in
      let d = t.3 in
      elim (cases_lt n k) [
        | inl m ↦ absurd (let f = later k m t.1.1 in omega arith)
        | inr m ↦ elim (cases_eq k n) [
          | inl q ↦ let f = ap (λ (i : ℕ). (slice_index_or steps i nothing).known) q in omega arith
          | inr q ↦ let f = (rising k n nothing (omega arith) l).1 in omega arith
        ]
      ],
)

pub is_less : (x y : ℕ) → IsTrue (nat_lt x y) ↔ (x < y)
is_less x y = (λ t. grind arith, λ l. lt-ltb x y l)

abbrev found : ℕ → ℕ → Option (ℕ × ℕ)
found tid number = Some (tid, number)

pair_first : (a b c d : ℕ) → found a b ≡ found c d → a ≡ c
pair_first a b c d e = ap (λ (o : Option (ℕ × ℕ)). (elim o [ None ↦ 0 | Some p ↦ p.0 ])) e

pair_second : (a b c d : ℕ) → found a b ≡ found c d → b ≡ d
pair_second a b c d e = ap (λ (o : Option (ℕ × ℕ)). (elim o [ None ↦ 0 | Some p ↦ p.1 ])) e

module _ (h : ℕ → Item) (entries : List Entry) (o : Order) (tells : TellsOrder h entries o) (i j t u : ℕ) (v w : Event) (isI : h i ≡ Does t v) (isJ : h j ≡ Does u w) where
  -- of one thread
  pub same_thread : t ≡ u → (tells.number i < tells.number j) ↔ HappensBefore h i j
  same_thread e = (
    λ l. elim (cases_lt i j) [
      | inl m ↦ One (Program u v w m (isI ∙ ap (λ (x : ℕ). Does x v) e) isJ)
      | inr m ↦ absurd (let a = number-le h tells.number tells.numbers j i m in omega arith)
    ],
    λ b. number-lt h tells.number tells.numbers i j t v isI (before-lt h b),
  )

  -- of two threads
  pub two_threads : (t ≡ u → ⊥) → (x : ℕ) → (AreRising (steps_between o.threads u t) →
      (y : ℕ) → (y < x) ↔ TellBy (steps_between o.threads u t) (tells.number j) y) → (tells.number i < x) ↔ HappensBefore h i j
  two_threads d x known =
      let heard = tells.heard u t d in
      let a = known heard.rising (tells.number i) in
      let b = heard.before j i w v (tells.within j u w isJ) isJ isI in
      (λ l. b.1 (a.0 l), λ p. a.1 (b.0 p))

  pub one_told : (tid number other at : ℕ) → found tid number ≡ found t (tells.number i) → found other at ≡ found u (tells.number j) → tid ≡ other →
      IsTrue (nat_lt number at) ↔ HappensBefore h i j
  one_told tid number other at e f q =
      let a = is_less number at in
      let b = same_thread (sym (pair_first tid number t (tells.number i) e) ∙ (q ∙ pair_first other at u (tells.number j) f)) in
      let x = pair_second tid number t (tells.number i) e in
      let y = pair_second other at u (tells.number j) f in
      (λ l. b.0 (let m = a.0 l in omega arith), λ p. a.1 (let m = b.1 p in omega arith))

  pub two_told : (tid number other at x : ℕ) → found tid number ≡ found t (tells.number i) → found other at ≡ found u (tells.number j) → (tid ≡ other → ⊥) →
      (AreRising (steps_between o.threads other tid) → (y : ℕ) → (y < x) ↔ TellBy (steps_between o.threads other tid) at y) →
      IsTrue (nat_lt number x) ↔ HappensBefore h i j
  two_told tid number other at x e f d known =
      let p = pair_first tid number t (tells.number i) e in
      let q = pair_first other at u (tells.number j) f in
      let r = pair_second tid number t (tells.number i) e in
      let z = pair_second other at u (tells.number j) f in
      let b = two_threads (λ g. d (p ∙ (g ∙ sym q))) x (rw (p, q, z) at known) in
      let a = is_less number x in
      (λ l. b.0 (let m = a.0 l in omega arith), λ s. a.1 (let m = b.1 s in omega arith))

  pub none_told : (o : Option (ℕ × ℕ)) (x : ℕ × ℕ) → o ≡ Some x → o ≡ None → IsTrue false ↔ HappensBefore h i j
  none_told o x e f = absurd (let g = sym e ∙ f in cc)
