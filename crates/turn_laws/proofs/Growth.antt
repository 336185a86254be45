-- A history grows by one entry: what the bare machine does is told on, and what needs a slot stays.
use Rattle.std.proofs.Common.{◌≡◌, ◌≢◌, ℕ, zero, suc, ◌+◌, ◌<◌, ◌≤◌, true, false, Option, Some, None, List, [], ◌∷◌, ◌++◌, length, length-append, refl, sym, ap, subst, ◌∙◌, arith, ◌⊎◌, inl, inr}
use Rattle.std.specs.Prelude.{slice_get, slice_index_or}
use Rattle.std.specs.Option.{option_map_or}
use Rattle.std.proofs.Math.Seq.{take-length, take-append-le}
use Rattle.std.proofs.lemmas.Bool.{cases_lt, cases_eq}
use Rattle.std.proofs.lemmas.List.Sums.{fold-append}
use Rattle.std.proofs.lemmas.Option.{slice_get_within, slice_get-get_or}
use Rattle.run_record.specs.declared.entry.DeskNote.TheVariants.{Nothing}
use Rattle.run_record.specs.declared.entry.Entry.{Entry}
use Rattle.run_laws.specs.Faithful.{Bare, after, state_after, state_before, object_of, has_needy, needs_slot, IsMade, IsOneTurn, EndsItsPart, OneByOne, IsFaithful}

-- the entry at a place of entries that one more follows
pub get_stay : (xs ys : List Entry) (i : ℕ) → i < length xs → slice_get (xs ++ ys) i ≡ slice_get xs i
get_stay [] ys i l = absurd (omega arith)
get_stay (x ∷ xs) ys zero l = refl
get_stay (x ∷ xs) ys (suc i) l = get_stay xs ys i (omega arith)

pub get_last : (xs : List Entry) (x : Entry) → slice_get (xs ++ x ∷ []) (length xs) ≡ Some x
get_last [] x = refl
get_last (y ∷ xs) x = get_last xs x

pub old_or_last : (xs : List Entry) (x : Entry) (i : ℕ) (e : Entry) → slice_get (xs ++ x ∷ []) i ≡ Some e → ((i < length xs) × (slice_get xs i ≡ Some e)) ⊎ ((i ≡ length xs) × (x ≡ e))
old_or_last xs x i e q = elim (cases_lt i (length xs)) [
  | inl l ↦ inl (l, sym (get_stay xs (x ∷ []) i l) ∙ q)
  | inr l ↦
      let m = slice_get_within (xs ++ x ∷ []) i e q in
      let z : i ≡ length xs = omega (arith, length-append xs (x ∷ [])) in
      inr (z, let y = sym (get_last xs x) ∙ (ap (slice_get (xs ++ x ∷ [])) (sym z) ∙ q) in cc)
]

module _ {S : Type 0} (bare : Bare S) where
  pub state_stay : (xs ys : List Entry) (i : ℕ) → i ≤ length xs → state_before bare (xs ++ ys) i ≡ state_before bare xs i
  state_stay xs ys i l = rw (take-append-le i xs ys l) refl

  pub state_last : (xs ys : List Entry) → state_before bare (xs ++ ys) (length xs) ≡ state_after bare xs
  state_last xs ys = state_stay xs ys (length xs) (omega arith) ∙ rw (take-length xs) refl

  -- an entry of no instructions leaves the state
  pub state_quiet : (xs : List Entry) (x : Entry) → x.steps ≡ 0 → state_after bare (xs ++ x ∷ []) ≡ state_after bare xs
  state_quiet xs x z = fold-append (λ (s : S) (e : Entry). after bare s e.tid e.steps) bare.start xs (x ∷ []) ∙ ap (after bare (state_after bare xs) x.tid) z

  pub needs_stay : (xs ys : List Entry) (i : ℕ) → i < length xs → needs_slot bare (xs ++ ys) i ≡ needs_slot bare xs i
  needs_stay xs ys i l = rw (get_stay xs ys i l, state_stay xs ys i (omega arith)) refl

  pub needs_grow : (xs ys : List Entry) (i : ℕ) → needs_slot bare xs i ≡ true → needs_slot bare (xs ++ ys) i ≡ true
  needs_grow xs ys i n = needs_stay xs ys i (within (slice_get xs i) refl n) ∙ n
    where
      within : (o : Option Entry) → slice_get xs i ≡ o → option_map_or (has_needy bare (state_before bare xs i)) o false ≡ true → i < length xs
      within None q r = absurd cc
      within (Some e) q r = slice_get_within xs i e q

  pub needs_last : (xs : List Entry) (x : Entry) (ys : List Entry) → needs_slot bare (xs ++ x ∷ ys) (length xs) ≡ has_needy bare (state_after bare xs) x
  needs_last xs x ys = rw (get_next xs, state_last xs (x ∷ ys)) refl
    where
      get_next : (zs : List Entry) → slice_get (zs ++ x ∷ ys) (length zs) ≡ Some x
      get_next [] = refl
      get_next (z ∷ zs) = get_next zs

  -- The entry may come next: it is made by its thread, whose earlier instructions of the round ended in one
  -- that uses an object.
  pub record MayFollow (xs : List Entry) (x : Entry) : Type 0 where
    pub made : IsMade bare (state_after bare xs) x
    pub apart : (k : ℕ) → k + 1 < x.steps → (bare.step (after bare (state_after bare xs) x.tid k) x.tid).object ≡ None
    pub noted : x.steps ≡ 0 → (x.note ≢ Nothing) × (x.events ≡ []) × (x.checks ≡ [])
    pub unnoted : 0 < x.steps → x.note ≡ Nothing
    pub numbered : x.stamp ≡ length xs + 1
    pub goes_on :
        0 < x.steps → (i : ℕ) (f : Entry) → slice_get xs i ≡ Some f → f.tid ≡ x.tid → f.round ≡ x.round → 0 < f.steps →
        object_of bare (state_before bare xs i) f ≢ None

  module _ (xs : List Entry) (x : Entry) (old : IsFaithful OneByOne bare xs) (new : MayFollow xs x) where
    stamp_at : (i : ℕ) (e : Entry) → slice_get (xs ++ x ∷ []) i ≡ Some e → e.stamp ≡ i + 1
    stamp_at i e q = elim (old_or_last xs x i e q) [
      | inl o ↦ old.stamped i e o.1
      | inr o ↦ let a = new.numbered in let b = ap (λ (y : Entry). y.stamp) o.1 in omega (arith, o.0)
    ]

    made_at : (i : ℕ) (e : Entry) → slice_get (xs ++ x ∷ []) i ≡ Some e → IsMade bare (state_before bare (xs ++ x ∷ []) i) e
    made_at i e q = elim (old_or_last xs x i e q) [
      | inl o ↦ rw (state_stay xs (x ∷ []) i (let z = o.0 in omega arith)) (old.made i e o.1)
      | inr o ↦ rw (o.0, state_last xs (x ∷ [])) (subst (IsMade bare (state_after bare xs)) o.1 new.made)
    ]

    -- an earlier entry still ends its thread's part of the round, or else uses an object
    ends_still : (i : ℕ) (e : Entry) → slice_get xs i ≡ Some e → 0 < e.steps → EndsItsPart xs i e → (object_of bare (state_before bare xs i) e ≢ None) ⊎ EndsItsPart (xs ++ x ∷ []) i e
    ends_still i e q some part = go (cases_eq e.tid x.tid) (cases_eq e.round x.round) (cases_lt 0 x.steps)
      where
        ends : (x.tid ≡ e.tid → x.round ≡ e.round → x.steps ≡ 0) → EndsItsPart (xs ++ x ∷ []) i e
        ends none j f l r t p = elim (old_or_last xs x j f r) [
          | inl o ↦ part j f l o.1 t p
          | inr o ↦
              let z : x.steps ≡ 0 = none (ap (λ (y : Entry). y.tid) o.1 ∙ t) (ap (λ (y : Entry). y.round) o.1 ∙ p) in
              sym (ap (λ (y : Entry). y.steps) o.1) ∙ z
        ]

        go : ((e.tid ≡ x.tid) ⊎ (e.tid ≢ x.tid)) → ((e.round ≡ x.round) ⊎ (e.round ≢ x.round)) → ((0 < x.steps) ⊎ (x.steps ≤ 0)) → (object_of bare (state_before bare xs i) e ≢ None) ⊎ EndsItsPart (xs ++ x ∷ []) i e
        go (inl t) (inl r) (inl s) = inl (new.goes_on s i e q t r some)
        go (inr t) r s = inr (ends (λ a b. absurd (t (sym a))))
        go t (inr r) s = inr (ends (λ a b. absurd (r (sym b))))
        go t r (inr s) = inr (ends (λ a b. omega arith))

    turn_at : (i : ℕ) (e : Entry) → slice_get (xs ++ x ∷ []) i ≡ Some e → IsOneTurn bare (xs ++ x ∷ []) i e
    turn_at i e q = elim (old_or_last xs x i e q) [ inl o ↦ earlier o | inr o ↦ last o.0 o.1 ]
      where
        earlier : ((i < length xs) × (slice_get xs i ≡ Some e)) → IsOneTurn bare (xs ++ x ∷ []) i e
        earlier o =
            let was = old.turns i e o.1 in
            let l = o.0 in
            let s = state_stay xs (x ∷ []) i (omega arith) in
            record {
              apart = rw s was.apart;
              last = λ some. rw s (elim (was.last some) [ inl u ↦ inl u | inr p ↦ ends_still i e o.1 some p ]);
              noted = was.noted;
              unnoted = was.unnoted;
            }

        last : i ≡ length xs → x ≡ e → IsOneTurn bare (xs ++ x ∷ []) i e
        last z y =
            subst (λ (e : Entry). IsOneTurn bare (xs ++ x ∷ []) i e) y
            (rw z record {
              apart = rw (state_last xs (x ∷ [])) new.apart;
              last = λ some. inr (λ j f l r t p. absurd (let m = slice_get_within (xs ++ x ∷ []) j f r in omega (arith, length-append xs (x ∷ []))));
              noted = new.noted;
              unnoted = new.unnoted;
            })

    pub faithful-push : IsFaithful OneByOne bare (xs ++ x ∷ [])
    faithful-push = record {
      ordered = λ i j d l m.
          let a = stamp_at i (slice_index_or (xs ++ x ∷ []) i d) (slice_get-get_or (xs ++ x ∷ []) i d (omega arith)) in
          let b = stamp_at j (slice_index_or (xs ++ x ∷ []) j d) (slice_get-get_or (xs ++ x ∷ []) j d m) in
          inl (omega arith);
      made = made_at;
      turns = turn_at;
      stamped = stamp_at;
    }
