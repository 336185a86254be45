-- What is known after so many moments is what happens before: it stands from one to the next.
use Rattle.std.proofs.Common.{◌≡◌, ℕ, zero, suc, ◌<◌, ◌≤◌, ◌⊎◌, ◌↔◌, max, Bool, true, false, if◌then◌else◌, Option, Some, None, List, refl, sym, ap, ◌∙◌, subst, inl, inr, arith, eq-eqb, ne_eqb}
use Rattle.std.specs.List.{All}
use Rattle.std.proofs.lemmas.Bool.{cases_eq, cases_order, cases_lt}
use Rattle.run_record.specs.declared.event.Event.{Event}
use Rattle.run_laws.specs.Moments.{Item, Does, Notes, NewEra, Past}
use Rattle.run_laws.specs.HappensBefore.{HappensBefore, Program, One}
use Rattle.run_laws.specs.Clocks.{Place, Channel, Given, Ended, taken_from, left_at, is_place}
use Rattle.offline_audit.specs.declared.heard.Step.{Step}
use Rattle.offline_audit.specs.declared.known.Known.{Known}
use Rattle.offline_audit.specs.Heard.{steps_after, Tell, AreRising}
use Rattle.offline_audit.specs.Knowledge.{empties, item_empties, item_leaves, IsUpto, IsLeft, IsKnown}
use Rattle.offline_audit.specs.Known.{told, told_from, steps_between, AreNumbers, AreHeard, Stands, own_or_latest, GoesOn}
use Rattle.offline_audit.proofs.KnowledgeLaw.{does_thread, before-lt, known_before, left_before, before_cases, left_cases, left_from}
use Rattle.offline_audit.proofs.StepLaws.{tell_latest, tell_after, rising_after, early_after, by_after, by_all}

lt_max : (ends leaves : Bool) (a b x : ℕ) →
    (x < max (if ends then 0 else a) (if leaves then b else 0)) ↔ (((ends ≡ false) × (x < a)) ⊎ ((leaves ≡ true) × (x < b)))
lt_max true true a b x = (λ l. inr (refl, omega arith), λ s. elim s [ inl (e, l) ↦ absurd (cc) | inr (e, l) ↦ omega arith ])
lt_max true false a b x = (λ l. absurd (omega arith), λ s. elim s [ inl (e, l) ↦ absurd (cc) | inr (e, l) ↦ absurd (cc) ])
lt_max false false a b x = (λ l. inl (refl, omega arith), λ s. elim s [ inl (e, l) ↦ omega arith | inr (e, l) ↦ absurd (cc) ])
lt_max false true a b x = (
  λ l. elim (cases_lt x a) [ inl m ↦ inl (refl, m) | inr m ↦ inr (refl, omega arith) ],
  λ s. elim s [ inl (e, l) ↦ omega arith | inr (e, l) ↦ omega arith ],
)

empties_by : (y : Place) (t : ℕ) (w : Event) → item_empties y (Does t w) ≡ empties y w
empties_by (Channel a p) t w = refl
empties_by (Given c) t w = refl
empties_by (Ended c) t w = refl

module _ (h : ℕ → Item) (number : ℕ → ℕ) (nums : AreNumbers h number) where
  pub number-le : (i n : ℕ) → i ≤ n → number i ≤ number n
  number-le i zero l = let e : i ≡ 0 = omega arith in rw e (omega arith)
  number-le i (suc n) l =
      elim (cases_eq i (suc n)) [
        | inl e ↦ rw e (omega arith)
        | inr d ↦ let r = number-le i n (omega arith) in let q = nums.never_fall n in omega arith
      ]

  pub number-lt : (i n t : ℕ) (e : Event) → h i ≡ Does t e → i < n → number i < number n
  number-lt i n t e f l = let a = number-le (suc i) n (omega arith) in let b = nums.rise i t e f in omega arith

  -- A thread that makes no event learns nothing.
  quiet_heard : (n t u : ℕ) (steps : List Step) → ((e : Event) → h n ≡ Does t e → ⊥) → AreHeard h number n t u steps → AreHeard h number (suc n) t u steps
  quiet_heard n t u steps quiet heard =
      record {
        rising = heard.rising;
        early = λ k d l. let a = heard.early k d l in let b = nums.never_fall n in omega arith;
        now = λ i e f. (
          λ k. elim (cases_eq k.at n) [
            | inl q ↦ absurd (quiet k.event (sym (ap h q) ∙ k.made))
            | inr d ↦ let l = k.early in (heard.now i e f).0 (record { at = k.at; event = k.event; early = omega arith; made = k.made; upto = k.upto })
          ],
          λ t'. let k = (heard.now i e f).1 t' in let l = k.early in record { at = k.at; event = k.event; early = omega arith; made = k.made; upto = k.upto },
        );
        before = λ m i f e l a b. elim (cases_eq m n) [
          | inl q ↦ absurd (quiet f (sym (ap h q) ∙ a))
          | inr d ↦ heard.before m i f e (omega arith) a b
        ];
      }

  module _ (n t : ℕ) (w : Event) (made : h n ≡ Does t w) (k new : Known) (st : Stands h number n k) (go : GoesOn t w k new) where
    from : (u i : ℕ) (e : Event) → h i ≡ Does u e → (o : Option Place) → taken_from t w ≡ o → number i < told_from k o u → HappensBefore h i n
    from u i e f None q l = absurd (omega arith)
    from u i e f (Some y) q l = left_before h n t i w y made q ((st.places y u i e f).1 l)

    -- what comes before the event is known to its thread, or is heard by it
    before_told : (u i : ℕ) (e : Event) → h i ≡ Does u e → HappensBefore h i n ↔ (IsKnown h n t i ⊎ (number i < told_from k (taken_from t w) u))
    before_told u i e f = (
      λ b. elim (before_cases h n t i w made b) [
        | inl c ↦ inl c
        | inr (y, q, c) ↦ inr (subst (λ (o : Option Place). number i < told_from k o u) (sym q) ((st.places y u i e f).0 c))
      ],
      λ s. elim s [ inl c ↦ known_before h n t i w made c | inr l ↦ from u i e f (taken_from t w) refl l ],
    )

    -- the thread's steps after the event
    abbrev now_steps : ℕ → List Step
    now_steps u = steps_after k.count (told_from k (taken_from t w) u) (steps_between k.threads t u)

    early_now : (u : ℕ) → (u ≡ t → ⊥) → All (λ (s : Step). s.at ≤ k.count) (steps_between k.threads t u)
    early_now u d = λ j x l. let a = (st.threads t u d).early j x l in let c = st.count in omega arith

    rising_now : (u : ℕ) → (u ≡ t → ⊥) → AreRising (now_steps u)
    rising_now u d =
        rising_after k.count (told_from k (taken_from t w) u) (steps_between k.threads t u) (st.threads t u d).rising (early_now u d)

    pub before_tell : (u i : ℕ) (e : Event) → (u ≡ t → ⊥) → h i ≡ Does u e → HappensBefore h i n ↔ Tell (now_steps u) (number i)
    before_tell u i e d f =
        let a = before_told u i e f in
        let b = tell_after k.count (told_from k (taken_from t w) u) (steps_between k.threads t u) (number i) (st.threads t u d).rising in
        let c = (st.threads t u d).now i e f in (
          λ q. b.1 (elim (a.0 q) [ inl r ↦ inl (c.0 r) | inr l ↦ inr l ]),
          λ q. a.1 (elim (b.0 q) [ inl r ↦ inl (c.1 r) | inr l ↦ inr l ]),
        )

    up_now : number (suc n) ≡ suc k.count
    up_now = nums.rise n t w made ∙ ap suc (sym st.count)

    own_heard : (u : ℕ) → (u ≡ t → ⊥) → AreHeard h number (suc n) t u (now_steps u)
    own_heard u d =
        record {
          rising = rising_now u d;
          early =
              early_after k.count (told_from k (taken_from t w) u) (number (suc n)) (steps_between k.threads t u)
              (λ j x l. let a = early_now u d j x l in let b = up_now in omega arith) (let b = up_now in omega arith);
          now = λ i e f. (λ q. (before_tell u i e d f).0 (known_now i e f q), λ q. record { at = n; event = w; early = omega arith; made = made; upto = inr ((before_tell u i e d f).1 q) });
          before = λ m i f e l a b. elim (cases_eq m n) [
            | inl q ↦
                let c = before_tell u i e d b in
                let all : All (λ (s : Step). s.at ≤ number m) (now_steps u) =
                (λ j x o.
                let z = early_after k.count (told_from k (taken_from t w) u) (number (suc n)) (steps_between k.threads t u)
                (λ j x l. let a = early_now u d j x l in let b = up_now in omega arith) (let b = up_now in omega arith) j x o in
                let b' = up_now in
                let c' = st.count in
                let e' = ap number q in
                omega arith) in
                let g = by_all (number m) (now_steps u) (number i) all in
                (λ p. g.1 (c.0 (subst (HappensBefore h i) q p)), λ p. subst (HappensBefore h i) (sym q) (c.1 (g.0 p)))
            | inr x ↦
                let o : m < n = omega arith in
                let c = (st.threads t u d).before m i f e o a b in
                let z = number-lt m n t f a o in
                let y = st.count in
                let g = by_after k.count (told_from k (taken_from t w) u) (number m) (steps_between k.threads t u) (number i) (omega arith) in
                (λ p. g.1 (c.0 p), λ p. c.1 (g.0 p))
          ];
        }
      where
        known_now : (i : ℕ) (e : Event) → h i ≡ Does u e → IsKnown h (suc n) t i → HappensBefore h i n
        known_now i e f q = elim (cases_eq q.at n) [
          | inl x ↦ elim (subst (IsUpto h i) x q.upto) [
            | inl y ↦ absurd (d (does_thread u t e w (sym f ∙ (ap h y ∙ made))))
            | inr b ↦ b
          ]
          | inr x ↦ let l = q.early in known_before h n t i w made (record { at = q.at; event = q.event; early = omega arith; made = q.made; upto = q.upto })
        ]

    -- what the thread leaves with the event
    own_left : (u i : ℕ) (e : Event) → h i ≡ Does u e → IsUpto h i n ↔ (number i < own_or_latest t k.count u (now_steps u))
    own_left u i e f = elim (cases_eq u t) [
      | inl q ↦
          let z = eq-eqb u t q in
          rw z (
            λ p. elim p [
              | inl x ↦ let a = ap number x in let c = st.count in omega arith
              | inr b ↦ let a = number-le i n (let l = before-lt h b in omega arith) in let c = st.count in omega arith
            ],
            λ l. elim (cases_order i n) [
              | inl x ↦ inl x
              | inr (inl x) ↦ inr (One (Program t e w x (f ∙ ap (λ v. Does v e) q) made))
              | inr (inr x) ↦ let a = number-le (suc n) i (omega arith) in let b = up_now in absurd (omega arith)
            ],
          )
      | inr d ↦
          let z = ne_eqb u t d in
          let c = before_tell u i e d f in
          let g = tell_latest (now_steps u) (rising_now u d) (number i) in
          rw z (
            λ p. elim p [
              | inl x ↦ absurd (d (does_thread u t e w (sym f ∙ (ap h x ∙ made))))
              | inr b ↦ g.0 (c.0 b)
            ],
            λ l. inr (c.1 (g.1 l)),
          )
    ]

    steps_now : (u : ℕ) → (u ≡ t → ⊥) → steps_between new.threads t u ≡ now_steps u
    steps_now u d = let a = go.steps t u in let b = eq-eqb t t refl in let c = ne_eqb u t d in rw (b, c) at a

    own_or : (u : ℕ) → own_or_latest t k.count u (steps_between new.threads t u) ≡ own_or_latest t k.count u (now_steps u)
    own_or u = elim (cases_eq u t) [
      | inl q ↦ let z = eq-eqb u t q in rw z refl
      | inr d ↦ ap (own_or_latest t k.count u) (steps_now u d)
    ]

    left_now : (y : Place) (u i : ℕ) (e : Event) → h i ≡ Does u e → IsLeft h (suc n) y i ↔ (number i < told new y u)
    left_now y u i e f =
        let ends : item_empties y (h n) ≡ empties y w = ap (item_empties y) made ∙ empties_by y t w in
        let leaves : item_leaves y (h n) ≡ is_place (left_at t w) y = ap (item_leaves y) made in
        let is : told new y u ≡ max (if empties y w then 0 else told k y u) (if is_place (left_at t w) y then own_or_latest t k.count u (now_steps u) else 0) =
        go.places y u ∙ ap (λ (x : ℕ). max (if empties y w then 0 else told k y u) (if is_place (left_at t w) y then x else 0)) (own_or u) in
        let m = lt_max (empties y w) (is_place (left_at t w) y) (told k y u) (own_or_latest t k.count u (now_steps u)) (number i) in
        let a = st.places y u i e f in
        let b = own_left u i e f in (
          λ p. subst (λ (x : ℕ). number i < x) (sym is) (m.1 (elim (left_cases h n y i p) [
            | inl (x, z) ↦ inl (sym ends ∙ x, a.0 z)
            | inr (x, z) ↦ inr (sym leaves ∙ x, b.0 z)
          ])),
          λ p. left_from h n y i (elim (m.0 (subst (λ (x : ℕ). number i < x) is p)) [
            | inl (x, z) ↦ inl (ends ∙ x, a.1 z)
            | inr (x, z) ↦ inr (leaves ∙ x, b.1 z)
          ]),
        )

    -- one more event
    pub event_stands : Stands h number (suc n) new
    event_stands =
        record {
          count = let a = go.count in let b = up_now in omega arith;
          places = left_now;
          threads = λ v u d. elim (cases_eq v t) [
            | inl q ↦
                subst (λ (x : ℕ). AreHeard h number (suc n) x u (steps_between new.threads x u)) (sym q)
                (subst (AreHeard h number (suc n) t u) (sym (steps_now u (λ e. d (e ∙ sym q)))) (own_heard u (λ e. d (e ∙ sym q))))
            | inr x ↦
                let same : steps_between new.threads v u ≡ steps_between k.threads v u = let a = go.steps v u in let b = ne_eqb v t x in rw b at a in
                subst (AreHeard h number (suc n) v u) (sym same)
                (quiet_heard n v u (steps_between k.threads v u) (λ e f. x (does_thread v t e w (sym f ∙ made))) (st.threads v u d))
          ];
        }

  no_empties : (it : Item) (y : Place) → ((t : ℕ) (e : Event) → it ≡ Does t e → ⊥) → item_empties y it ≡ false
  no_empties (Does t w) y d = absurd (d t w refl)
  no_empties (Notes t m) (Channel a p) d = refl
  no_empties NewEra (Channel a p) d = refl
  no_empties Past (Channel a p) d = refl
  no_empties it (Given c) d = refl
  no_empties it (Ended c) d = refl

  no_leaves : (it : Item) (y : Place) → ((t : ℕ) (e : Event) → it ≡ Does t e → ⊥) → item_leaves y it ≡ false
  no_leaves (Does t w) y d = absurd (d t w refl)
  no_leaves (Notes t m) y d = refl
  no_leaves NewEra y d = refl
  no_leaves Past y d = refl

  -- a moment at which no thread makes an event
  pub quiet_stands : (n : ℕ) (k new : Known) → ((t : ℕ) (e : Event) → h n ≡ Does t e → ⊥) → new.count ≡ number (suc n) →
      ((t u : ℕ) → steps_between new.threads t u ≡ steps_between k.threads t u) → ((y : Place) (u : ℕ) → told new y u ≡ told k y u) →
      Stands h number n k → Stands h number (suc n) new
  quiet_stands n k new quiet count steps places st =
      record {
        count = count;
        places = λ y u i e f. (
          λ p. subst (λ (x : ℕ). number i < x) (sym (places y u)) (elim (left_cases h n y i p) [
            | inl (x, z) ↦ (st.places y u i e f).0 z
            | inr (x, z) ↦ absurd (let c = sym x ∙ no_leaves (h n) y quiet in cc)
          ]),
          λ l. left_from h n y i (inl (no_empties (h n) y quiet, (st.places y u i e f).1 (subst (λ (x : ℕ). number i < x) (places y u) l))),
        );
        threads = λ t u d. subst (AreHeard h number (suc n) t u) (sym (steps t u)) (quiet_heard n t u (steps_between k.threads t u) (quiet t) (st.threads t u d));
      }
