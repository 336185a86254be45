-- A history at one of its entries: its moments, and what it tells of the entry.
use Rattle.std.proofs.Common.{◌≡◌, ◌≢◌, ℕ, zero, suc, ◌+◌, ◌-◌, ◌<◌, ◌≤◌, Bool, true, if◌then◌else◌, ne_eqb, Option, Some, None, List, [], ◌∷◌, ◌++◌, append_assoc, length, refl, sym, ap, ap₂, subst, ◌∙◌, arith, ◌⊎◌, inl, inr}
use Rattle.std.specs.Prelude.{All, slice_get, slice_index_or}
use Rattle.std.specs.List.{list_any}
use Rattle.std.proofs.Math.Seq.{get_or-append_seam}
use Rattle.std.proofs.lemmas.Bool.{cases_Bool, cases_eq}
use Rattle.std.proofs.lemmas.Option.{slice_get-get_or}
use Rattle.std.proofs.lemmas.List.Elements.{All-head, All-tail}
use Rattle.std.proofs.lemmas.List.Sums.{sum_by-cons}
use Rattle.run_record.specs.declared.entry.DeskNote.TheVariants.{Nothing}
use Rattle.run_record.specs.declared.entry.Entry.{Entry}
use Rattle.run_record.specs.declared.limits.Limits.{Limits}
use Rattle.run_laws.specs.Numbers.{up_from}
use Rattle.run_laws.specs.Moments.{Notes, Moment, moment_at, items, moments, moments_from, moments_in, last_era, era_moments, entry_moments}
use Rattle.run_laws.specs.Labels.{label_of}
use Rattle.run_laws.specs.Faithful.{Bare, after, events_made, state_after, state_before, desk, object_of, has_needy, needs_slot, IsMade, IsOneTurn}
use Rattle.run_laws.specs.Rounds.{steps_in}
use Rattle.run_laws.specs.Present.{label_now, queue_now}
use Rattle.run_laws.proofs.MomentsLaw.{moments_from-append}
use Rattle.turn_laws.specs.SoFar.{IsLawfulSoFar}
use Rattle.turn_laws.proofs.Carry.{past, label_stay}
use Rattle.turn_laws.proofs.Growth.{state_last, needs_last}

-- the moments from the beginning of the entry on
abbrev pub rest_from : List Entry → Entry → List Entry → List Moment
rest_from xs x more = entry_moments (length xs) x ++ moments_from x.era (length xs + 1) more

pub moments-split : (xs : List Entry) (x : Entry) (more : List Entry) → moments (xs ++ x ∷ more) ≡ moments_in x.round x.era xs ++ rest_from xs x more
moments-split xs x more =
    let z : 0 + length xs ≡ length xs = omega arith in
    moments_from-append 0 0 xs (x ∷ more)
    ∙ (ap (λ k. moments xs ++ moments_from (last_era xs) k (x ∷ more)) z
    ∙ sym (append_assoc (moments xs) (era_moments (last_era xs) (length xs) x.round x.era) (rest_from xs x more)))

pub get_split : (xs : List Entry) (x : Entry) (more : List Entry) → slice_get (xs ++ x ∷ more) (length xs) ≡ Some x
get_split [] x more = refl
get_split (y ∷ xs) x more = get_split xs x more

pub get_right : (xs ys : List Entry) (k j : ℕ) → k ≡ length xs + j → slice_get (xs ++ ys) k ≡ slice_get ys j
get_right [] ys k j e = let z : k ≡ j = omega arith in ap (slice_get ys) z
get_right (x ∷ xs) ys zero j e = absurd (omega arith)
get_right (x ∷ xs) ys (suc k) j e = get_right xs ys k j (omega arith)

get_left : (xs ys : List Entry) (j : ℕ) → j < length xs → slice_get (xs ++ ys) j ≡ slice_get xs j
get_left [] ys j l = absurd (omega arith)
get_left (x ∷ xs) ys zero l = refl
get_left (x ∷ xs) ys (suc j) l = get_left xs ys j (omega arith)

-- tests of the numbers from k on
pub any_of : (p : ℕ → Bool) (k n i : ℕ) → k ≤ i → i < k + n → p i ≡ true → list_any p (up_from k n) ≡ true
any_of p k zero i a b q = absurd (omega arith)
any_of p k (suc n) i a b q = elim (cases_Bool (p k)) [
  | inl y ↦ rw y refl
  | inr y ↦ elim (cases_eq k i) [
    | inl e ↦ absurd (let z = ap p e in cc)
    | inr d ↦ rw y (any_of p (suc k) n i (omega arith) (omega arith) q)
  ]
]

pub any_found : (p : ℕ → Bool) (k n : ℕ) → list_any p (up_from k n) ≡ true → (i : ℕ) × (i < k + n) × (p i ≡ true)
any_found p k zero e = absurd cc
any_found p k (suc n) e = elim (cases_Bool (p k)) [
  | inl q ↦ (k, omega arith, q)
  | inr q ↦ let r = any_found p (suc k) n (rw q at e) in let l = r.1 in (r.0, omega arith, r.2)
]

-- the entry is of that round and era, and of thread t
pub record IsOf (round era t : ℕ) (e : Entry) : Type 0 where
  pub in_round : e.round ≡ round
  pub in_era : e.era ≡ era
  pub by : e.tid ≡ t

module _ {S : Type 0} (limits : Limits) (bare : Bare S) (granule_of : ℕ → Option ℕ) where
  -- thread t lacks a slot after the entries: its next instruction needs one, it has none, and none is free
  pub record Lacks (round era t : ℕ) (xs : List Entry) : Type 0 where
    pub needs : bare.needs_slot (state_after bare xs) t ≡ true
    pub unlabelled : label_now limits.epochs (moments_in round era xs) t ≡ None
    pub none_free : queue_now limits.epochs limits.slots (moments_in round era xs) ≡ []

  -- A lawful history from some entry of a round on: thread t has the round, of which part is left, and then the rest
  -- comes. It makes the n instructions that it is given, and fewer only where it ends or lacks a slot.
  pub record Side (round era t n : ℕ) (xs part tail : List Entry) : Type 0 where
    pub lawful : IsLawfulSoFar limits bare granule_of (xs ++ (part ++ tail))
    pub here : All (IsOf round era t) part
    pub later : All (λ (e : Entry). e.round ≡ round → ⊥) tail
    pub no_more : steps_in part ≤ n
    pub fewer : steps_in part < n → bare.lives (state_after bare (xs ++ part)) t ≡ true → Lacks round era t (xs ++ part)

  -- What a lawful history tells of the entry x of thread t after the entries xs, before the part of the round that is left.
  pub record Told (round era t : ℕ) (xs : List Entry) (x : Entry) (part : List Entry) : Type 0 where
    pub is_of : IsOf round era t x
    pub stamp : x.stamp ≡ length xs + 1
    pub alive : (k : ℕ) → k < x.steps → bare.lives (after bare (state_after bare xs) t k) t ≡ true
    pub events : x.events ≡ events_made bare (state_after bare xs) t x.steps
    pub apart : (k : ℕ) → k + 1 < x.steps → (bare.step (after bare (state_after bare xs) t k) t).object ≡ None
    pub last : 0 < x.steps → ((bare.step (after bare (state_after bare xs) t (x.steps - 1)) t).object ≢ None) ⊎ All (λ (f : Entry). f.steps ≡ 0) part
    pub noted : x.steps ≡ 0 → (x.note ≢ Nothing) × (x.events ≡ []) × (x.checks ≡ [])
    pub unnoted : 0 < x.steps → x.note ≡ Nothing
    pub labelled :
        (k : ℕ) → k < x.steps → bare.needs_slot (after bare (state_after bare xs) t k) t ≡ true →
        label_now limits.epochs (moments_in round era xs) t ≢ None

  -- the moment at which the entry begins
  pub begins : (xs : List Entry) (x : Entry) (more : List Entry) →
      moment_at (moments (xs ++ x ∷ more)) (length (moments_in x.round x.era xs)) ≡ record { entry = length xs; round = x.round; item = Notes x.tid x.note; checks = [] }
  begins xs x more =
      ap (λ (ms : List Moment). moment_at ms (length (moments_in x.round x.era xs))) (moments-split xs x more)
      ∙ get_or-append_seam (moments_in x.round x.era xs) (record { entry = length xs; round = x.round; item = Notes x.tid x.note; checks = [] }) _ past

  needs_label : (xs : List Entry) (x : Entry) (more : List Entry) → IsLawfulSoFar limits bare granule_of (xs ++ x ∷ more) → has_needy bare (state_after bare xs) x ≡ true → label_now limits.epochs (moments_in x.round x.era xs) x.tid ≢ None
  needs_label xs x more lawful needy none =
      let b = begins xs x more in
      lawful.labelled (length (moments_in x.round x.era xs)) x.tid x.note (ap (λ (m : Moment). m.item) b)
      (ap (λ (m : Moment). needs_slot bare (xs ++ x ∷ more) m.entry) b ∙ (needs_last bare xs x more ∙ needy))
      (ap (λ (ms : List Moment). label_of limits.epochs (items ms) (length (moments_in x.round x.era xs)) x.tid) (moments-split xs x more)
      ∙ (label_stay limits.epochs (moments_in x.round x.era xs) (rest_from xs x more) (length (moments_in x.round x.era xs)) x.tid (omega arith) ∙ none))

  pub told : (round era t n : ℕ) (xs : List Entry) (x : Entry) (part tail : List Entry) → Side round era t n xs (x ∷ part) tail → Told round era t xs x part
  told round era t n xs x part tail side = record {
    is_of = of_x;
    stamp = lawful.faithful.stamped (length xs) x at;
    alive = λ k l. subst (λ u. bare.lives (after bare s u k) u ≡ true) of_x.by (made.alive k l);
    events = made.events_are ∙ ap (λ u. events_made bare s u x.steps) of_x.by;
    apart = λ k l. subst (λ u. (bare.step (after bare s u k) u).object ≡ None) of_x.by (ap (λ (z : S). (bare.step (after bare z x.tid k) x.tid).object) (sym here) ∙ turn.apart k l);
    last = last;
    noted = turn.noted;
    unnoted = turn.unnoted;
    labelled = λ k l needs none.
        needs_label xs x (part ++ tail) lawful (any_of (λ (k : ℕ). bare.needs_slot (after bare s x.tid k) x.tid) 0 x.steps k (omega arith) (omega arith) (subst (λ u. bare.needs_slot (after bare s u k) u ≡ true) (sym of_x.by) needs))
        (subst (λ u. label_now limits.epochs (moments_in x.round x.era xs) u ≡ None) (sym of_x.by)
        (ap₂ (λ (r e : ℕ). label_now limits.epochs (moments_in r e xs) t) of_x.in_round of_x.in_era ∙ none));
  }
    where
      s : S
      s = state_after bare xs

      lawful : IsLawfulSoFar limits bare granule_of (xs ++ x ∷ (part ++ tail))
      lawful = side.lawful

      of_x : IsOf round era t x
      of_x = All-head (IsOf round era t) x part side.here

      at : slice_get (xs ++ x ∷ (part ++ tail)) (length xs) ≡ Some x
      at = get_split xs x (part ++ tail)

      here : state_before bare (xs ++ x ∷ (part ++ tail)) (length xs) ≡ state_after bare xs
      here = state_last bare xs (x ∷ (part ++ tail))

      made : IsMade bare (state_after bare xs) x
      made = subst (λ (z : S). IsMade bare z x) here (lawful.faithful.made (length xs) x at)

      turn : IsOneTurn bare (xs ++ x ∷ (part ++ tail)) (length xs) x
      turn = lawful.faithful.turns (length xs) x at

      last : 0 < x.steps → ((bare.step (after bare (state_after bare xs) t (x.steps - 1)) t).object ≢ None) ⊎ All (λ (f : Entry). f.steps ≡ 0) part
      last some = elim (turn.last some) [
        | inl o ↦ inl (λ none. o (object_is some ∙ none))
        | inr ends ↦ inr (λ j d l.
            let f = slice_index_or part j d in
            let g : slice_get (xs ++ x ∷ (part ++ tail)) (length xs + suc j) ≡ Some f = get_right xs (x ∷ (part ++ tail)) (length xs + suc j) (suc j) refl ∙ (get_left part tail j l ∙ slice_get-get_or part j d l) in
            let o = All-tail (IsOf round era t) x part side.here j d l in
            ends (length xs + suc j) f (omega arith) g (o.by ∙ sym of_x.by) (o.in_round ∙ sym of_x.in_round))
      ]
        where
          object_is : 0 < x.steps → object_of bare (state_before bare (xs ++ x ∷ (part ++ tail)) (length xs)) x ≡ (bare.step (after bare (state_after bare xs) t (x.steps - 1)) t).object
          object_is some =
              ap (λ (z : S). object_of bare z x) here
              ∙ (ap (λ b. if b then Some desk else (bare.step (after bare s x.tid (x.steps - 1)) x.tid).object) (ne_eqb x.steps 0 (omega arith))
              ∙ ap (λ u. (bare.step (after bare s u (x.steps - 1)) u).object) of_x.by)

  -- one entry further
  pub step-side : (round era t n : ℕ) (xs : List Entry) (x : Entry) (part tail : List Entry) → Side round era t n xs (x ∷ part) tail → Side round era t (n - x.steps) (xs ++ x ∷ []) part tail
  step-side round era t n xs x part tail side =
      let sum = sum_by-cons (λ (e : Entry). e.steps) x part in
      let whole = side.no_more in
      record {
        lawful = subst (IsLawfulSoFar limits bare granule_of) (sym (append_assoc xs (x ∷ []) (part ++ tail))) side.lawful;
        here = All-tail (IsOf round era t) x part side.here;
        later = side.later;
        no_more = omega arith;
        fewer = λ l a.
            let k : steps_in (x ∷ part) < n = omega arith in
            subst (Lacks round era t) (sym (append_assoc xs (x ∷ []) part))
            (side.fewer k (ap (λ (es : List Entry). bare.lives (state_after bare es) t) (sym (append_assoc xs (x ∷ []) part)) ∙ a));
      }
