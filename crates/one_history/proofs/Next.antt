-- The entry that comes next: where a thread's next entry in the round is known, it is the next one of the history.
use Rattle.std.proofs.Common.{◌≡◌, ℕ, zero, suc, ◌+◌, ◌-◌, ◌<◌, Option, List, [], ◌∷◌, ◌++◌, length, length-append, map, refl, sym, ap, subst, ◌∙◌, arith, inl, inr}
use Rattle.std.specs.Prelude.{All, replicate}
use Rattle.std.specs.List.{enumerate_from}
use Rattle.std.proofs.lemmas.Bool.{cases_lt, cases_eq}
use Rattle.std.proofs.lemmas.List.Elements.{All-nil, All-cons, All-head, All-tail, All-append}
use Rattle.run_record.specs.declared.event.Event.{Event}
use Rattle.run_record.specs.declared.entry.DeskNote.{DeskNote}
use Rattle.run_record.specs.declared.entry.Entry.{Entry}
use Rattle.run_record.specs.declared.limits.Limits.{Limits}
use Rattle.run_laws.specs.Moments.{Does, Notes, NewEra, Moment, moment_at, items, moments, moments_from, moments_in, last_era, era_moments, entry_moments, event_moment}
use Rattle.run_laws.specs.DeskNotes.{IsNextEntry}
use Rattle.run_laws.specs.Faithful.{Bare}
use Rattle.run_laws.proofs.MomentsLaw.{moments_from-append}
use Rattle.turn_laws.proofs.Carry.{past, at_stay, items_stay, notes_inside}
use Rattle.turn_laws.proofs.Shape.{quiet_news, at_right}
use Rattle.one_history.proofs.Split.{rest_from, moments-split, IsOf, Side, begins}

-- the moments of entries have the entries' rounds
pub rounds_of : (P : ℕ → Type 0) (era i : ℕ) (es : List Entry) → All (λ (e : Entry). P e.round) es → All (λ (m : Moment). P m.round) (moments_from era i es)
rounds_of P era i [] a = All-nil (λ (m : Moment). P m.round)
rounds_of P era i (e ∷ es) a =
    let p = All-head (λ (e : Entry). P e.round) e es a in
    All-append (λ (m : Moment). P m.round) (era_moments era i e.round e.era) (entry_moments i e ++ moments_from e.era (i + 1) es) (news p (e.era - era))
    (All-append (λ (m : Moment). P m.round) (entry_moments i e) (moments_from e.era (i + 1) es)
    (All-cons (λ (m : Moment). P m.round) (record { entry = i; round = e.round; item = Notes e.tid e.note; checks = [] }) (map (event_moment i e) (enumerate_from 0 e.events)) p (made p 0 e.events))
    (rounds_of P e.era (i + 1) es (All-tail (λ (e : Entry). P e.round) e es a)))
  where
    news : P e.round → (n : ℕ) → All (λ (m : Moment). P m.round) (replicate n (record { entry = i; round = e.round; item = NewEra; checks = [] }))
    news p zero = All-nil (λ (m : Moment). P m.round)
    news p (suc n) = All-cons (λ (m : Moment). P m.round) (record { entry = i; round = e.round; item = NewEra; checks = [] }) (replicate n (record { entry = i; round = e.round; item = NewEra; checks = [] })) p (news p n)

    made : P e.round → (n : ℕ) (xs : List Event) → All (λ (m : Moment). P m.round) (map (event_moment i e) (enumerate_from n xs))
    made p n [] = All-nil (λ (m : Moment). P m.round)
    made p n (x ∷ xs) = All-cons (λ (m : Moment). P m.round) (event_moment i e (n, x)) (map (event_moment i e) (enumerate_from (n + 1) xs)) p (made p (n + 1) xs)

-- an event of the entry's moments is one of its events
pub event_among : (P : Event → Type 0) (i : ℕ) (e : Entry) (k t : ℕ) (x : Event) → All P e.events → items (entry_moments i e) k ≡ Does t x → P x
event_among P i e zero t x a q = absurd cc
event_among P i e (suc k) t x a q = go 0 e.events k a q
  where
    go : (n : ℕ) (es : List Event) (k : ℕ) → All P es → items (map (event_moment i e) (enumerate_from n es)) k ≡ Does t x → P x
    go n [] k a q = absurd cc
    go n (y ∷ es) zero a q = let z : y ≡ x = cc in subst P z (All-head P y es a)
    go n (y ∷ es) (suc k) a q = go (n + 1) es k (All-tail P y es a) q

-- the first entry of the part that is left has that note, and is the one that begins at that moment
pub record IsHead (xs part : List Entry) (note : DeskNote) (m : Moment) : Type 0 where
  pub entry : Entry
  pub rest : List Entry
  pub part_is : part ≡ entry ∷ rest
  pub note_is : entry.note ≡ note
  pub number : m.entry ≡ length xs

module _ {S : Type 0} (limits : Limits) (bare : Bare S) (granule_of : ℕ → Option ℕ) where
  pub next_in :
      (round era t n : ℕ) (xs part tail : List Entry) → Side limits bare granule_of round era t n xs part tail → (k m : ℕ) (note : DeskNote) →
      k < length (moments xs) → (moment_at (moments xs) k).round ≡ round →
      ((j : ℕ) (other : DeskNote) → k < j → j < length (moments xs) → items (moments xs) j ≡ Notes t other → ⊥) →
      IsNextEntry (moments (xs ++ (part ++ tail))) k t m note → IsHead xs part note (moment_at (moments (xs ++ (part ++ tail))) m)
  next_in round era t n xs [] tail side k m note l r none next =
      let grown : moments (xs ++ tail) ≡ moments xs ++ moments_from (last_era xs) (0 + length xs) tail = moments_from-append 0 0 xs tail in
      let e = subst (λ (ms : List Moment). IsNextEntry ms k t m note) grown next in
      let inside = notes_inside (moments xs ++ moments_from (last_era xs) (0 + length xs) tail) m t note e.begins in
      let late = e.later in
      elim (cases_lt m (length (moments xs))) [
        | inl i ↦ absurd (none m note e.later i (sym (items_stay (moments xs) (moments_from (last_era xs) (0 + length xs) tail) m i) ∙ e.begins))
        | inr i ↦ absurd (
            rounds_of (λ z. z ≡ round → ⊥) (last_era xs) (0 + length xs) tail side.later (m - length (moments xs)) past
            (omega (arith, length-append (moments xs) (moments_from (last_era xs) (0 + length xs) tail)))
            (sym (ap (λ (m : Moment). m.round) (at_right (moments xs) (moments_from (last_era xs) (0 + length xs) tail) m i))
            ∙ (e.same_round ∙ (ap (λ (m : Moment). m.round) (at_stay (moments xs) (moments_from (last_era xs) (0 + length xs) tail) k l) ∙ r)))
            )
      ]
  next_in round era t n xs (z ∷ rest) tail side k m note l r none next =
      let more = rest ++ tail in
      let h = moments_in z.round z.era xs in
      let news = era_moments (last_era xs) (length xs) z.round z.era in
      let b = begins limits bare granule_of xs z more in
      let thread = (All-head (IsOf round era t) z rest side.here).by in
      let note_at : items (moments (xs ++ z ∷ more)) (length h) ≡ Notes t z.note = ap (λ (m : Moment). m.item) b ∙ ap (λ u. Notes u z.note) thread in
      let long = length-append (moments xs) news in
      elim (cases_lt m (length h)) [
        | inl i ↦
            let e = subst (λ (ms : List Moment). items ms m ≡ Notes t note) (moments-split xs z more) next.begins in
            let f = sym (items_stay h (rest_from xs z more) m i) ∙ e in
            elim (cases_lt m (length (moments xs))) [
              | inl j ↦ absurd (none m note next.later j (sym (items_stay (moments xs) news m j) ∙ f))
              | inr j ↦ absurd ((quiet_news (moments xs) (last_era xs) (length xs) z.round z.era m j).no_note t note f)
            ]
        | inr i ↦ elim (cases_eq m (length h)) [
          | inl same ↦
              let y : Notes t z.note ≡ Notes t note = sym note_at ∙ (ap (items (moments (xs ++ z ∷ more))) (sym same) ∙ next.begins) in
              record { entry = z; rest = rest; part_is = refl; note_is = cc; number = ap (λ j. (moment_at (moments (xs ++ z ∷ more)) j).entry) same ∙ ap (λ (m : Moment). m.entry) b }
          | inr d ↦ absurd (next.next (length h) z.note (omega arith) (omega arith) note_at)
        ]
      ]
