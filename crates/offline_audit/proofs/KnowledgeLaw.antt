-- What happens before an event is what its thread knew, and what was left at the place that it takes from.
use Rattle.std.proofs.Common.{◌≡◌, ℕ, suc, ◌<◌, ◌⊎◌, true, false, Some, refl, sym, ap, subst, inl, inr, lt_trans, ◌∙◌, arith}
use Rattle.std.proofs.lemmas.Bool.{cases_eq}
use Rattle.run_record.specs.declared.event.Event.{Event}
use Rattle.run_record.specs.declared.event.Event.TheVariants.{Begin, Create, Join, Acquire}
use Rattle.run_laws.specs.Moments.{Item, Does, Notes, NewEra, Past}
use Rattle.run_laws.specs.HappensBefore.{HappensBefore, Pair, Program, Released, Created, Joined, One, Then}
use Rattle.run_laws.specs.Clocks.{Place, Channel, Given, Ended, taken_from, left_at}
use Rattle.run_laws.proofs.Places.{is_place-true, is_place-some, left_channel, left_given, left_ended, taken_channel, taken_given, taken_ended}
use Rattle.offline_audit.specs.Knowledge.{item_empties, item_leaves, IsUpto, IsLeft, IsKnown}

pub does_thread : (t u : ℕ) (v w : Event) → Does t v ≡ Does u w → t ≡ u
does_thread t u v w e = cc

does_what : (t u : ℕ) (v w : Event) → Does t v ≡ Does u w → v ≡ w
does_what t u v w e = cc

-- the event that leaves something at a place
left_by : (it : Item) (y : Place) → item_leaves y it ≡ true → (t : ℕ) × (w : Event) × (it ≡ Does t w) × (left_at t w ≡ Some y)
left_by (Does t w) y e = (t, w, refl, is_place-true (left_at t w) y e)
left_by (Notes t note) y e = absurd (cc)
left_by NewEra y e = absurd (cc)
left_by Past y e = absurd (cc)

module _ (h : ℕ → Item) where
  pair-lt : {i j : ℕ} → Pair h i j → i < j
  pair-lt (Program t v w l e f) = l
  pair-lt (Released t u a p r l e f k) = l
  pair-lt (Created t u l e f) = l
  pair-lt (Joined t u l e f) = l

  pub before-lt : {i j : ℕ} → HappensBefore h i j → i < j
  before-lt (One p) = pair-lt p
  before-lt (Then b c) = lt_trans (before-lt b) (before-lt c)

  before_upto : (j k i : ℕ) → HappensBefore h j k → IsUpto h k i → HappensBefore h j i
  before_upto j k i b (inl e) = subst (λ x. HappensBefore h j x) e b
  before_upto j k i b (inr c) = Then b c

  upto_pair : (j i n : ℕ) → IsUpto h j i → Pair h i n → HappensBefore h j n
  upto_pair j i n (inl e) p = subst (λ x. HappensBefore h x n) (sym e) (One p)
  upto_pair j i n (inr b) p = Then b (One p)

  last : {j n : ℕ} → HappensBefore h j n → (i : ℕ) × Pair h i n × IsUpto h j i
  last (One {i = i} p) = (i, p, inl refl)
  last (Then {i = a} {j = b} p q) = let r = last q in (r.0, r.1, inr (before_upto a b r.0 p r.2))

  pub known_before : (n t j : ℕ) (w : Event) → h n ≡ Does t w → IsKnown h n t j → HappensBefore h j n
  known_before n t j w e k = upto_pair j k.at n k.upto (Program t k.event w k.early k.made e)

  left_pair : (i n t : ℕ) (w : Event) (y : Place) → h n ≡ Does t w → item_leaves y (h i) ≡ true → taken_from t w ≡ Some y → i < n →
      ((k : ℕ) → i < k → k < n → item_empties y (h k) ≡ false) → Pair h i n
  left_pair i n t w (Channel a p) e f q l k =
      let b = left_by (h i) (Channel a p) f in
      let r = left_channel b.0 b.1 a p b.3 in
      Released b.0 t a p r.0 l (b.2 ∙ ap (Does b.0) r.1) (e ∙ ap (Does t) (taken_channel t w a p q)) k
  left_pair i n t w (Given c) e f q l k =
      let b = left_by (h i) (Given c) f in
      let r = taken_given t w c q in
      Created b.0 t l (b.2 ∙ ap (Does b.0) (left_given b.0 b.1 c b.3 ∙ ap Create (sym r.1))) (e ∙ ap (Does t) r.0)
  left_pair i n t w (Ended u) e f q l k =
      let b = left_by (h i) (Ended u) f in
      let r = left_ended b.0 b.1 u b.3 in
      Joined b.0 t l (b.2 ∙ ap (Does b.0) r.0) (e ∙ ap (Does t) (taken_ended t w u q ∙ ap Join (sym r.1)))

  pub left_before : (n t j : ℕ) (w : Event) (y : Place) → h n ≡ Does t w → taken_from t w ≡ Some y → IsLeft h n y j → HappensBefore h j n
  left_before n t j w y e q k = upto_pair j k.at n k.upto (left_pair k.at n t w y e k.left q k.early k.stays)

  -- what comes before an event of thread t
  pub before_cases : (n t j : ℕ) (w : Event) → h n ≡ Does t w → HappensBefore h j n →
      IsKnown h n t j ⊎ ((y : Place) × (taken_from t w ≡ Some y) × IsLeft h n y j)
  before_cases n t j w e b = let r = last b in go r.0 r.1 r.2
    where
      go : (i : ℕ) → Pair h i n → IsUpto h j i → IsKnown h n t j ⊎ ((y : Place) × (taken_from t w ≡ Some y) × IsLeft h n y j)
      go i (Program t' v w' l f f') u =
          let q = does_thread t' t w' w (sym f' ∙ e) in
          inl (record { at = i; event = v; early = l; made = f ∙ ap (λ x. Does x v) q; upto = u })
      go i (Released t' u' a p r l f f' k) u =
          let q = does_what u' t (Acquire a p) w (sym f' ∙ e) in
          inr (
            Channel a p,
            subst (λ x. taken_from t x ≡ Some (Channel a p)) q refl,
            record {
              at = i;
              early = l;
              left = subst (λ x. item_leaves (Channel a p) x ≡ true) (sym f) (is_place-some (Some (Channel a p)) (Channel a p) refl);
              stays = k;
              upto = u;
            },
          )
      go i (Created t' u' l f f') u =
          let q = does_what u' t Begin w (sym f' ∙ e) in
          let q' = does_thread u' t Begin w (sym f' ∙ e) in
          inr (
            Given t,
            subst (λ x. taken_from t x ≡ Some (Given t)) q refl,
            record {
              at = i;
              early = l;
              left = subst (λ x. item_leaves (Given t) x ≡ true) (sym f) (is_place-some (Some (Given u')) (Given t) (ap (λ x. Some (Given x)) q'));
              stays = λ m x z. refl;
              upto = u;
            },
          )
      go i (Joined t' u' l f f') u =
          let q = does_what u' t (Join t') w (sym f' ∙ e) in
          inr (
            Ended t',
            subst (λ x. taken_from t x ≡ Some (Ended t')) q refl,
            record {
              at = i;
              early = l;
              left = subst (λ x. item_leaves (Ended t') x ≡ true) (sym f) (is_place-some (Some (Ended t')) (Ended t') refl);
              stays = λ m x z. refl;
              upto = u;
            },
          )

  -- one more item
  left_on : (n : ℕ) (y : Place) (j : ℕ) → item_empties y (h n) ≡ false → IsLeft h n y j → IsLeft h (suc n) y j
  left_on n y j e k =
      record {
        at = k.at;
        early = let q = k.early in omega arith;
        left = k.left;
        stays = λ m a b. elim (cases_eq m n) [ inl q ↦ subst (λ x. item_empties y (h x) ≡ false) (sym q) e | inr d ↦ k.stays m a (omega arith) ];
        upto = k.upto;
      }

  left_now : (n : ℕ) (y : Place) (j : ℕ) → item_leaves y (h n) ≡ true → IsUpto h j n → IsLeft h (suc n) y j
  left_now n y j e u = record { at = n; early = omega arith; left = e; stays = λ m a b. absurd (omega arith); upto = u }

  pub left_cases : (n : ℕ) (y : Place) (j : ℕ) → IsLeft h (suc n) y j →
      ((item_empties y (h n) ≡ false) × IsLeft h n y j) ⊎ ((item_leaves y (h n) ≡ true) × IsUpto h j n)
  left_cases n y j k =
      elim (cases_eq k.at n) [
        | inl q ↦ inr (subst (λ x. item_leaves y (h x) ≡ true) q k.left, subst (IsUpto h j) q k.upto)
        | inr d ↦
            let l = k.early in
            inl (k.stays n (omega arith) (omega arith), record { at = k.at; early = omega arith; left = k.left; stays = λ m a b. k.stays m a (omega arith); upto = k.upto })
      ]

  -- what is left after one more item
  pub left_from : (n : ℕ) (y : Place) (j : ℕ) →
      (((item_empties y (h n) ≡ false) × IsLeft h n y j) ⊎ ((item_leaves y (h n) ≡ true) × IsUpto h j n)) → IsLeft h (suc n) y j
  left_from n y j (inl k) = left_on n y j k.0 k.1
  left_from n y j (inr k) = left_now n y j k.0 k.1
