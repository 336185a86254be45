-- What the law of clocks speaks of: what is known at a position, and the invariant.
use Rattle.std.proofs.Common.{◌≡◌, ℕ, zero, suc, ◌<◌, ◌≤◌, if◌then◌else◌, ◌⊎◌, Bool, true, false, Option, Some, None, refl, sym, ap, subst, inl, inr, lt_trans, eq-zero-or-pos, ◌∙◌, arith}
use Rattle.std.proofs.lemmas.Bool.{cases_eq}
use Rattle.run_record.specs.declared.event.Event.{Event}
use Rattle.run_record.specs.declared.event.Event.TheVariants.{Begin, Create, Join, Acquire}
use Rattle.run_record.specs.declared.event.Part.{Part}
use Rattle.run_record.specs.declared.entry.DeskNote.TheVariants.{Nothing, Attach, Leave}
use Rattle.run_laws.specs.Moments.{Item, Does, Notes, NewEra, Past}
use Rattle.run_laws.specs.HappensBefore.{item_ends_channel, Pair, Program, Released, Created, Joined}
use Rattle.run_laws.specs.Labels.{Labels, can_attach, attach_labels, next_labels, labels}
use Rattle.run_laws.specs.SlotOrder.{slot_under, gives_back, SlotPair, Plain, NextOwner, SlotBefore, One, Then}
use Rattle.run_laws.specs.Clocks.{Place, Channel, Given, Ended, taken_from, left_at, Spot, Of, Left, leaves, empties, clock_at, next_clocks, clocks}
use Rattle.run_laws.proofs.SlotSteps.{Publishes}
use Rattle.run_laws.proofs.Places.{is_place-true, is_place-some, left_channel, left_given, left_ended, taken_channel, taken_given, taken_ended}

abbrev pub item_leaves : Labels → Item → Spot → Bool
item_leaves l (Does t w) y = leaves l t w y
item_leaves l (Notes t (Attach s)) y = false
item_leaves l NewEra y = false
item_leaves l (Notes z Nothing) y = false
item_leaves l (Notes z (Leave b)) y = false
item_leaves l Past y = false

abbrev pub item_empties : Labels → Item → Spot → Bool
item_empties l (Does t w) y = empties l t w y
item_empties l (Notes t (Attach s)) y = false
item_empties l NewEra y = false
item_empties l (Notes z Nothing) y = false
item_empties l (Notes z (Leave b)) y = false
item_empties l Past y = false

pub gives_back-leaves : (l : Labels) (it : Item) (s : ℕ) → gives_back l it s ≡ item_leaves l it (Left s)
gives_back-leaves l (Does t w) s = refl
gives_back-leaves l (Notes t (Attach r)) s = refl
gives_back-leaves l NewEra s = refl
gives_back-leaves l (Notes z Nothing) s = refl
gives_back-leaves l (Notes z (Leave b)) s = refl
gives_back-leaves l Past s = refl

pub gives_back-empties : (l : Labels) (it : Item) (s : ℕ) → gives_back l it s ≡ item_empties l it (Left s)
gives_back-empties l (Does t w) s = refl
gives_back-empties l (Notes t (Attach r)) s = refl
gives_back-empties l NewEra s = refl
gives_back-empties l (Notes z Nothing) s = refl
gives_back-empties l (Notes z (Leave b)) s = refl
gives_back-empties l Past s = refl

pub stops-empties : (l : Labels) (it : Item) (a : ℕ) (p : Part) → item_ends_channel a p it ≡ item_empties l it (Of (Channel a p))
stops-empties l (Does t w) a p = refl
stops-empties l (Notes t (Attach r)) a p = refl
stops-empties l NewEra a p = refl
stops-empties l (Notes z Nothing) a p = refl
stops-empties l (Notes z (Leave b)) a p = refl
stops-empties l Past a p = refl

pub not_emptied : (l : Labels) (it : Item) (y : Place) → (a : ℕ) (u : ℕ) → (y ≡ Given u) ⊎ (y ≡ Ended u) → item_empties l it (Of y) ≡ false
not_emptied l (Does t w) y a u (inl e) = rw e refl
not_emptied l (Does t w) y a u (inr e) = rw e refl
not_emptied l (Notes t (Attach r)) y a u e = refl
not_emptied l NewEra y a u e = refl
not_emptied l (Notes z Nothing) y a u e = refl
not_emptied l (Notes z (Leave b)) y a u e = refl
not_emptied l Past y a u e = refl

-- the event that leaves a clock at a place
pub left_by : (l : Labels) (it : Item) (y : Place) → item_leaves l it (Of y) ≡ true → (t : ℕ) × (w : Event) × (it ≡ Does t w) × (left_at t w ≡ Some y)
left_by l (Does t w) y e = (t, w, refl, is_place-true (left_at t w) y e)
left_by l (Notes t (Attach r)) y e = absurd (cc)
left_by l NewEra y e = absurd (cc)
left_by l (Notes z Nothing) y e = absurd (cc)
left_by l (Notes z (Leave b)) y e = absurd (cc)
left_by l Past y e = absurd (cc)

pub does_thread : (t u : ℕ) (v w : Event) → Does t v ≡ Does u w → t ≡ u
does_thread t u v w e = cc

pub does_what : (t u : ℕ) (v w : Event) → Does t v ≡ Does u w → v ≡ w
does_what t u v w e = cc

module _ (g : ℕ) (h : ℕ → Item) where
  pub labels-next : (n : ℕ) → labels g h (suc n) ≡ next_labels g (labels g h n) (h n)
  unfolding labels
  labels-next n = refl

  pub clocks-next : (n : ℕ) → clocks g h (suc n) ≡ next_clocks g (labels g h n) (clocks g h n) (h n)
  unfolding clocks
  clocks-next n = refl

  pub pair-lt : {i j : ℕ} → Pair h i j → i < j
  pair-lt (Program t v w l e f) = l
  pair-lt (Released t u a p r l e f k) = l
  pair-lt (Created t u l e f) = l
  pair-lt (Joined t u l e f) = l

  pub slot_pair-lt : {i j : ℕ} → SlotPair g h i j → i < j
  slot_pair-lt (Plain p) = pair-lt p
  slot_pair-lt (NextOwner s l e f r k) = l

  pub before-lt : {i j : ℕ} → SlotBefore g h i j → i < j
  before-lt (One p) = slot_pair-lt p
  before-lt (Then b c) = lt_trans (before-lt b) (before-lt c)

  abbrev pub Upto : ℕ → ℕ → Type 0
  Upto j i = (j ≡ i) ⊎ SlotBefore g h j i

  pub upto_le : (j i : ℕ) → Upto j i → j ≤ i
  upto_le j i (inl e) = omega arith
  upto_le j i (inr b) = let l = before-lt b in omega arith

  pub before_upto : (j k i : ℕ) → SlotBefore g h j k → Upto k i → SlotBefore g h j i
  before_upto j k i b (inl e) = subst (λ x. SlotBefore g h j x) e b
  before_upto j k i b (inr c) = Then b c

  pub upto_pair : (j i n : ℕ) → Upto j i → SlotPair g h i n → SlotBefore g h j n
  upto_pair j i n (inl e) p = subst (λ x. SlotBefore g h x n) (sym e) (One p)
  upto_pair j i n (inr b) p = Then b (One p)

  pub last : {j n : ℕ} → SlotBefore g h j n → (i : ℕ) × SlotPair g h i n × Upto j i
  last (One {i = i} p) = (i, p, inl refl)
  last (Then {i = a} {j = b} p q) = let r = last q in (r.0, r.1, inr (before_upto a b r.0 p r.2))

  -- eras never fall
  pub era_grows : (l : Labels) (it : Item) → l.era ≤ (next_labels g l it).era
  era_grows l (Does t w) = omega arith
  era_grows l (Notes t (Attach s)) = elim (can_attach l t s.sid) as (λ b. l.era ≤ (if b then attach_labels l t s.sid else l).era) [ true ↦ omega arith | false ↦ omega arith ]
  era_grows l NewEra = omega arith
  era_grows l (Notes z Nothing) = omega arith
  era_grows l (Notes z (Leave b)) = omega arith
  era_grows l Past = omega arith

  pub era_next : (n : ℕ) → (labels g h n).era ≤ (labels g h (suc n)).era
  era_next n = rw (labels-next n) (era_grows (labels g h n) (h n))

  pub era_mono : (i n : ℕ) → i ≤ n → (labels g h i).era ≤ (labels g h n).era
  era_mono i zero l = let e : i ≡ 0 = omega arith in rw e (omega arith)
  era_mono i (suc n) l =
      elim (cases_eq i (suc n)) [
        | inl e ↦ rw e (omega arith)
        | inr d ↦ let r = era_mono i n (omega arith) in let q = era_next n in omega arith
      ]

  pub era_between : (j i n : ℕ) → j ≤ i → i ≤ n → (labels g h j).era ≡ (labels g h n).era → (labels g h i).era ≡ (labels g h n).era
  era_between j i n a b e = let p = era_mono j i a in let q = era_mono i n b in omega arith

  -- what the clock at a spot knows before position n
  pub record Kept (n : ℕ) (y : Spot) (j : ℕ) : Type 0 where
    pub at : ℕ
    pub early : at < n
    pub left : item_leaves (labels g h at) (h at) y ≡ true
    pub stays : (k : ℕ) → at < k → k < n → item_empties (labels g h k) (h k) y ≡ false
    pub upto : Upto j at

  -- what a thread knows before position n: by its own events, and by its slot
  pub data Known (n t j : ℕ) : Type 0 where
    Did : (i : ℕ) (w : Event) → i < n → h i ≡ Does t w → Upto j i → Known n t j
    Got : (s : ℕ) → (labels g h n).slot_of t ≡ Some s → Kept n (Left s) j → Known n t j

  -- j is an event under slot s in the era of n
  pub record Under (n s j : ℕ) : Type 0 where
    pub thread : ℕ
    pub what : Event
    pub item : h j ≡ Does thread what
    pub slot : (labels g h j).slot_of thread ≡ Some s
    pub era : (labels g h j).era ≡ (labels g h n).era

  -- a known event under slot s that ends an epoch not below e
  pub record Ends (K : ℕ → Type 0) (n s e : ℕ) : Type 0 where
    pub at : ℕ
    pub known : K at
    pub early : at < n
    pub under : Under n s at
    pub enough : e ≤ (labels g h at).epoch s
    pub ends : Publishes under.what

  pub record Law (n : ℕ) : Type 0 where
    pub one_owner : (t u s : ℕ) → (labels g h n).slot_of t ≡ Some s → (labels g h n).slot_of u ≡ Some s → t ≡ u
    pub not_free : (t s : ℕ) → (labels g h n).slot_of t ≡ Some s → (labels g h n).free s ≡ false
    pub pos : (t s : ℕ) → (labels g h n).slot_of t ≡ Some s → 1 ≤ (labels g h n).epoch s
    pub epoch_le : (s j : ℕ) → j < n → Under n s j → (labels g h j).epoch s ≤ (labels g h n).epoch s
    pub strict : (s j t : ℕ) → j < n → (u : Under n s j) → Publishes u.what → (labels g h n).slot_of t ≡ Some s → (labels g h j).epoch s < (labels g h n).epoch s
    pub chain_owned : (s j t : ℕ) → j < n → Under n s j → (labels g h n).slot_of t ≡ Some s → Known n t j
    pub chain_free : (s j : ℕ) → j < n → Under n s j → (labels g h n).free s ≡ true → Kept n (Left s) j
    pub own : (t s : ℕ) → (labels g h n).slot_of t ≡ Some s → (clocks g h n).thread t s ≡ (labels g h n).epoch s
    pub all_known : (t s j : ℕ) → Known n t j → Under n s j → (labels g h j).epoch s ≤ (clocks g h n).thread t s
    pub all_kept : (y : Spot) (s j : ℕ) → Kept n y j → Under n s j → (labels g h j).epoch s ≤ (clocks g h n).spot y s
    pub some_known : (t s : ℕ) → ((labels g h n).slot_of t ≡ Some s → ⊥) → 1 ≤ (clocks g h n).thread t s → Ends (Known n t) n s ((clocks g h n).thread t s)
    pub some_kept : (y : Spot) (s : ℕ) → 1 ≤ (clocks g h n).spot y s → Ends (Kept n y) n s ((clocks g h n).spot y s)

  pub ends_more : (K L : ℕ → Type 0) (n m s e : ℕ) → n ≤ m → (labels g h n).era ≡ (labels g h m).era → ((j : ℕ) → (labels g h j).era ≡ (labels g h n).era → K j → L j) → Ends K n s e → Ends L m s e
  ends_more K L n m s e le r f w =
      record {
        at = w.at;
        known = f w.at w.under.era w.known;
        early = let q = w.early in omega arith;
        under = record { thread = w.under.thread; what = w.under.what; item = w.under.item; slot = w.under.slot; era = w.under.era ∙ r };
        enough = w.enough;
        ends = w.ends;
      }

  pub spot_below : (n : ℕ) (y : Spot) (s : ℕ) → Law n → (clocks g h n).spot y s ≤ (labels g h n).epoch s
  spot_below n y s law =
      elim (eq-zero-or-pos ((clocks g h n).spot y s)) [
        | inl z ↦ omega arith
        | inr p ↦
            let w = law.some_kept y s p in
            let a = w.enough in
            let b = law.epoch_le s w.at w.early w.under in
            omega arith
      ]

  pub taken_below : (n : ℕ) (o : Option Place) (s : ℕ) → Law n → clock_at (clocks g h n) o s ≤ (labels g h n).epoch s
  taken_below n None s law = omega arith
  taken_below n (Some y) s law = spot_below n (Of y) s law

  pub kept_from : (n : ℕ) (y : Spot) (j : ℕ) → item_empties (labels g h n) (h n) y ≡ false → Kept n y j → Kept (suc n) y j
  kept_from n y j e k =
      record {
        at = k.at;
        early = let q = k.early in omega arith;
        left = k.left;
        stays = λ m a b. elim (cases_eq m n) [ inl q ↦ subst (λ x. item_empties (labels g h x) (h x) y ≡ false) (sym q) e | inr d ↦ k.stays m a (omega arith) ];
        upto = k.upto;
      }

  pub kept_now : (n : ℕ) (y : Spot) (j : ℕ) → item_leaves (labels g h n) (h n) y ≡ true → Upto j n → Kept (suc n) y j
  kept_now n y j e u = record { at = n; early = omega arith; left = e; stays = λ m a b. absurd (omega arith); upto = u }

  pub kept_cases : (n : ℕ) (y : Spot) (j : ℕ) → Kept (suc n) y j → ((item_empties (labels g h n) (h n) y ≡ false) × Kept n y j) ⊎ ((item_leaves (labels g h n) (h n) y ≡ true) × Upto j n)
  kept_cases n y j k =
      elim (cases_eq k.at n) [
        | inl q ↦ inr (subst (λ x. item_leaves (labels g h x) (h x) y ≡ true) q k.left, subst (Upto j) q k.upto)
        | inr d ↦
            let l = k.early in
            inl (k.stays n (omega arith) (omega arith), record { at = k.at; early = omega arith; left = k.left; stays = λ m a b. k.stays m a (omega arith); upto = k.upto })
      ]

  -- the pair that a kept clock makes with the event that takes it in
  pub kept_pair : (i n t : ℕ) (w : Event) (y : Place) → h n ≡ Does t w → item_leaves (labels g h i) (h i) (Of y) ≡ true → taken_from t w ≡ Some y → i < n → ((k : ℕ) → i < k → k < n → item_empties (labels g h k) (h k) (Of y) ≡ false) → Pair h i n
  kept_pair i n t w (Channel a p) e f q l k =
      let b = left_by (labels g h i) (h i) (Channel a p) f in
      let r = left_channel b.0 b.1 a p b.3 in
      Released b.0 t a p r.0 l (b.2 ∙ ap (Does b.0) r.1) (e ∙ ap (Does t) (taken_channel t w a p q)) (λ m x z. stops-empties (labels g h m) (h m) a p ∙ k m x z)
  kept_pair i n t w (Given c) e f q l k =
      let b = left_by (labels g h i) (h i) (Given c) f in
      let r = taken_given t w c q in
      Created b.0 t l (b.2 ∙ ap (Does b.0) (left_given b.0 b.1 c b.3 ∙ ap Create (sym r.1))) (e ∙ ap (Does t) r.0)
  kept_pair i n t w (Ended u) e f q l k =
      let b = left_by (labels g h i) (h i) (Ended u) f in
      let r = left_ended b.0 b.1 u b.3 in
      Joined b.0 t l (b.2 ∙ ap (Does b.0) r.0) (e ∙ ap (Does t) (taken_ended t w u q ∙ ap Join (sym r.1)))

  pub known_before : (n t j : ℕ) (w : Event) → h n ≡ Does t w → (labels g h j).era ≡ (labels g h n).era → Known n t j → SlotBefore g h j n
  known_before n t j w e r (Did i v l f u) = upto_pair j i n u (Plain (Program t v w l f e))
  known_before n t j w e r (Got s f k) =
      let early = k.early in
      let up = upto_le j k.at k.upto in
      upto_pair j k.at n k.upto
      (NextOwner s early
      (gives_back-leaves (labels g h k.at) (h k.at) s ∙ k.left)
      (ap (slot_under (labels g h n)) e ∙ f)
      (era_between j k.at n up (omega arith) r)
      (λ m a b. gives_back-empties (labels g h m) (h m) s ∙ k.stays m a b))

  pub kept_before : (n t j : ℕ) (w : Event) (y : Place) → h n ≡ Does t w → taken_from t w ≡ Some y → Kept n (Of y) j → SlotBefore g h j n
  kept_before n t j w y e q k = upto_pair j k.at n k.upto (Plain (kept_pair k.at n t w y e k.left q k.early k.stays))

  -- what comes before an event of thread t
  pub before_cases : (n t j : ℕ) (w : Event) → h n ≡ Does t w → SlotBefore g h j n → Known n t j ⊎ ((y : Place) × (taken_from t w ≡ Some y) × Kept n (Of y) j)
  before_cases n t j w e b = let r = last b in go r.0 r.1 r.2
    where
      plain : (i : ℕ) → Pair h i n → Upto j i → Known n t j ⊎ ((y : Place) × (taken_from t w ≡ Some y) × Kept n (Of y) j)
      plain i (Program t' v w' l f f') u =
          let q = does_thread t' t w' w (sym f' ∙ e) in
          inl (Did i v l (f ∙ ap (λ x. Does x v) q) u)
      plain i (Released t' u' a p r l f f' k) u =
          let q = does_what u' t (Acquire a p) w (sym f' ∙ e) in
          inr (
            Channel a p,
            subst (λ x. taken_from t x ≡ Some (Channel a p)) q refl,
            record {
              at = i;
              early = l;
              left = subst (λ x. item_leaves (labels g h i) x (Of (Channel a p)) ≡ true) (sym f) (is_place-some (Some (Channel a p)) (Channel a p) refl);
              stays = λ m x z. sym (stops-empties (labels g h m) (h m) a p) ∙ k m x z;
              upto = u;
            },
          )
      plain i (Created t' u' l f f') u =
          let q = does_what u' t Begin w (sym f' ∙ e) in
          let q' = does_thread u' t Begin w (sym f' ∙ e) in
          inr (
            Given t,
            subst (λ x. taken_from t x ≡ Some (Given t)) q refl,
            record {
              at = i;
              early = l;
              left = subst (λ x. item_leaves (labels g h i) x (Of (Given t)) ≡ true) (sym f) (is_place-some (Some (Given u')) (Given t) (ap (λ x. Some (Given x)) q'));
              stays = λ m x z. not_emptied (labels g h m) (h m) (Given t) 0 t (inl refl);
              upto = u;
            },
          )
      plain i (Joined t' u' l f f') u =
          let q = does_what u' t (Join t') w (sym f' ∙ e) in
          inr (
            Ended t',
            subst (λ x. taken_from t x ≡ Some (Ended t')) q refl,
            record {
              at = i;
              early = l;
              left = subst (λ x. item_leaves (labels g h i) x (Of (Ended t')) ≡ true) (sym f) (is_place-some (Some (Ended t')) (Ended t') refl);
              stays = λ m x z. not_emptied (labels g h m) (h m) (Ended t') 0 t' (inr refl);
              upto = u;
            },
          )

      go : (i : ℕ) → SlotPair g h i n → Upto j i → Known n t j ⊎ ((y : Place) × (taken_from t w ≡ Some y) × Kept n (Of y) j)
      go i (Plain p) u = plain i p u
      go i (NextOwner s l f f' r k) u =
          inl (Got s (sym (ap (slot_under (labels g h n)) e) ∙ f')
          (record {
            at = i;
            early = l;
            left = sym (gives_back-leaves (labels g h i) (h i) s) ∙ f;
            stays = λ m x z. sym (gives_back-empties (labels g h m) (h m) s) ∙ k m x z;
            upto = u;
          }))

  pub known_lt : (n t j : ℕ) → Known n t j → j < n
  known_lt n t j (Did i w l f up) = let a = upto_le j i up in omega arith
  known_lt n t j (Got s f k) = let a = upto_le j k.at k.upto in let b = k.early in omega arith

  pub kept_lt : (n : ℕ) (y : Spot) (j : ℕ) → Kept n y j → j < n
  kept_lt n y j k = let a = upto_le j k.at k.upto in let b = k.early in omega arith

  -- an item that is no event leaves nothing and empties nothing
  abbrev pub NoEvent : Item → Type 0
  NoEvent it = (t : ℕ) (w : Event) → it ≡ Does t w → ⊥

  pub no_leaves : (l : Labels) (it : Item) (y : Spot) → NoEvent it → item_leaves l it y ≡ false
  no_leaves l (Does t w) y d = absurd (d t w refl)
  no_leaves l (Notes t (Attach r)) y d = refl
  no_leaves l NewEra y d = refl
  no_leaves l (Notes z Nothing) y d = refl
  no_leaves l (Notes z (Leave b)) y d = refl
  no_leaves l Past y d = refl

  pub no_empties : (l : Labels) (it : Item) (y : Spot) → NoEvent it → item_empties l it y ≡ false
  no_empties l (Does t w) y d = absurd (d t w refl)
  no_empties l (Notes t (Attach r)) y d = refl
  no_empties l NewEra y d = refl
  no_empties l (Notes z Nothing) y d = refl
  no_empties l (Notes z (Leave b)) y d = refl
  no_empties l Past y d = refl

  module _ (n : ℕ) (d : NoEvent (h n)) where
    pub still_more : (y : Spot) (j : ℕ) → Kept n y j → Kept (suc n) y j
    still_more y j k = kept_from n y j (no_empties (labels g h n) (h n) y d) k

    pub still_back : (y : Spot) (j : ℕ) → Kept (suc n) y j → Kept n y j
    still_back y j k =
        elim (kept_cases n y j k) [
          | inl c ↦ c.1
          | inr c ↦ absurd (let z = sym (no_leaves (labels g h n) (h n) y d) ∙ c.0 in cc)
        ]

    pub still_early : (s j : ℕ) → j < suc n → Under (suc n) s j → j < n
    still_early s j l u = elim (cases_eq j n) [ inl q ↦ absurd (d u.thread u.what (sym (ap h q) ∙ u.item)) | inr c ↦ omega arith ]

    pub still_did : (i t : ℕ) (v : Event) → i < suc n → h i ≡ Does t v → i < n
    still_did i t v l f = elim (cases_eq i n) [ inl q ↦ absurd (d t v (sym (ap h q) ∙ f)) | inr c ↦ omega arith ]
