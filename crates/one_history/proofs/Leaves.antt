-- Where a label is left, and that nothing follows an entry that leaves its thread's label and ends its part.
use Rattle.std.proofs.Common.{◌≡◌, ℕ, suc, ◌+◌, ◌-◌, ◌<◌, Option, List, [], ◌∷◌, ◌++◌, length, length-append, map, refl, sym, ap, ap₂, subst, ◌∙◌, arith, inl, inr}
use Rattle.std.specs.Prelude.{All}
use Rattle.std.specs.List.{enumerate_from}
use Rattle.std.proofs.Math.Seq.{get_or-append_seam}
use Rattle.std.proofs.lemmas.Bool.{cases_lt}
use Rattle.std.proofs.lemmas.List.Elements.{All-head, All-tail}
use Rattle.run_record.specs.declared.entry.DeskNote.{DeskNote}
use Rattle.run_record.specs.declared.entry.DeskNote.TheVariants.{Nothing, Attach, Leave}
use Rattle.run_record.specs.declared.entry.Label.{Label}
use Rattle.run_record.specs.declared.entry.Entry.{Entry}
use Rattle.run_record.specs.declared.limits.Limits.{Limits}
use Rattle.run_laws.specs.Moments.{Notes, Moment, moment_at, items, moments, moments_from, moments_in, last_era, era_moments, entry_moments, event_moment}
use Rattle.run_laws.specs.DeskNotes.{IsNextEntry, Spends}
use Rattle.run_laws.specs.Faithful.{Bare}
use Rattle.run_laws.proofs.MomentsLaw.{moments_from-append}
use Rattle.turn_laws.proofs.Carry.{past, at_stay, items_stay, spends_stay, spends_before}
use Rattle.turn_laws.proofs.Shape.{moments_in-push, quiet_news, at_right}
use Rattle.one_history.specs.Reached.{LeavesLabel}
use Rattle.one_history.proofs.Split.{rest_from, moments-split, Side, Told, begins, told, step-side}
use Rattle.one_history.proofs.Next.{event_among, next_in}
use Rattle.one_history.proofs.Takes.{takes}

module _ {S : Type 0} (limits : Limits) (bare : Bare S) (granule_of : ℕ → Option ℕ) where
  module _ (round era t n k : ℕ) (xs : List Entry) (y : Entry) (part tail other end : List Entry) (l : Label) (mine : Side limits bare granule_of round era t n xs part tail) (yours : Side limits bare granule_of round era t k xs (y ∷ other) end) (note : y.note ≡ Leave l) where
    abbrev theirs : List Entry
    theirs = xs ++ y ∷ (other ++ end)

    abbrev h : List Moment
    h = moments_in y.round y.era xs

    abbrev more_here : List Moment
    more_here = moments_from (last_era xs) (0 + length xs) (part ++ tail)

    abbrev more_there : List Moment
    more_there = moments_from (last_era xs) (0 + length xs) (y ∷ (other ++ end))

    grown_here : moments (xs ++ (part ++ tail)) ≡ moments xs ++ more_here
    grown_here = moments_from-append 0 0 xs (part ++ tail)

    grown_there : moments theirs ≡ moments xs ++ more_there
    grown_there = moments_from-append 0 0 xs (y ∷ (other ++ end))

    known : Told limits bare granule_of round era t xs y other
    known = told limits bare granule_of round era t k xs y other end yours

    left : (n : ℕ) × Spends limits (moments theirs) n t l × IsNextEntry (moments theirs) n t (length h) (Leave l)
    left =
        subst (λ u. (n : ℕ) × Spends limits (moments theirs) n u l × IsNextEntry (moments theirs) n u (length h) (Leave l)) known.is_of.by
        (yours.lawful.notes.left_only (length h) y.tid l (ap (λ (m : Moment). m.item) (begins limits bare granule_of xs y (other ++ end)) ∙ ap (Notes y.tid) note))

    -- the label was spent in the entries before
    within : left.0 < length (moments xs)
    within =
        let before = left.2.later in
        elim (cases_lt left.0 (length (moments xs))) [
          | inl j ↦ j
          | inr j ↦ absurd ((quiet_news (moments xs) (last_era xs) (length xs) y.round y.era left.0 j).no_event t left.1.event
              (sym (items_stay h (rest_from xs y (other ++ end)) left.0 before) ∙ (ap (λ (ms : List Moment). items ms left.0) (sym (moments-split xs y (other ++ end))) ∙ left.1.made)))
        ]

    spends : Spends limits (moments (xs ++ (part ++ tail))) left.0 t l
    spends =
        subst (λ (ms : List Moment). Spends limits ms left.0 t l) (sym grown_here)
        (spends_stay limits (moments xs) more_here left.0 t l
        (spends_before limits (moments xs) more_there left.0 t l within (subst (λ (ms : List Moment). Spends limits ms left.0 t l) grown_there left.1)))

    next : (m : ℕ) × IsNextEntry (moments (xs ++ (part ++ tail))) left.0 t m (Leave l)
    next = mine.lawful.notes.left left.0 t l spends

    spent_in_round : (moment_at (moments xs) left.0).round ≡ round
    spent_in_round =
        sym (ap (λ (m : Moment). m.round) (at_stay (moments xs) more_there left.0 within))
        ∙ (ap (λ (ms : List Moment). (moment_at ms left.0).round) (sym grown_there)
        ∙ (sym left.2.same_round ∙ (ap (λ (m : Moment). m.round) (begins limits bare granule_of xs y (other ++ end)) ∙ known.is_of.in_round)))

    -- Where one history leaves a label next, another with the same entries before does so too.
    pub leaves : (x : Entry) × (rest : List Entry) × (part ≡ x ∷ rest) × (x.note ≡ Leave l)
    leaves =
        let long = length-append (moments xs) (era_moments (last_era xs) (length xs) y.round y.era) in
        let head = next_in limits bare granule_of round era t n xs part tail mine left.0 next.0 (Leave l) within spent_in_round
        (λ j note late early q. left.2.next j note late (omega arith) (ap (λ (ms : List Moment). items ms j) grown_there ∙ (items_stay (moments xs) more_there j early ∙ q)))
        next.1 in
        (head.entry, head.rest, head.part_is, head.note_is)

  module _ (round era t n : ℕ) (xs : List Entry) (u z : Entry) (rest tail : List Entry) (side : Side limits bare granule_of round era t n xs (u ∷ (z ∷ rest)) tail) (local : All LeavesLabel u.events) (none : All (λ (f : Entry). f.steps ≡ 0) (z ∷ rest)) where
    told_u : Told limits bare granule_of round era t xs u (z ∷ rest)
    told_u = told limits bare granule_of round era t n xs u (z ∷ rest) tail side

    further : Side limits bare granule_of round era t (n - u.steps) (xs ++ u ∷ []) (z ∷ rest) tail
    further = step-side limits bare granule_of round era t n xs u (z ∷ rest) tail side

    told_z : Told limits bare granule_of round era t (xs ++ u ∷ []) z rest
    told_z = told limits bare granule_of round era t (n - u.steps) (xs ++ u ∷ []) z rest tail further

    still : z.steps ≡ 0
    still = All-head (λ (f : Entry). f.steps ≡ 0) z rest none

    abbrev before : List Moment
    before = moments_in u.round u.era xs

    abbrev beyond : List Moment
    beyond = moments_in z.round z.era (xs ++ u ∷ [])

    shape : beyond ≡ before ++ entry_moments (length xs) u
    shape =
        ap₂ (λ (r e : ℕ). moments_in r e (xs ++ u ∷ [])) (told_z.is_of.in_round ∙ sym told_u.is_of.in_round) (told_z.is_of.in_era ∙ sym told_u.is_of.in_era)
        ∙ moments_in-push xs u

    long : length beyond ≡ length before + suc (length (map (event_moment (length xs) u) (enumerate_from 0 u.events)))
    long = ap length shape ∙ length-append before (entry_moments (length xs) u)

    item_at : (j : ℕ) → j < length beyond → items (moments ((xs ++ u ∷ []) ++ z ∷ (rest ++ tail))) j ≡ items (before ++ entry_moments (length xs) u) j
    item_at j e =
        ap (λ (ms : List Moment). items ms j) (moments-split (xs ++ u ∷ []) z (rest ++ tail))
        ∙ (items_stay beyond (rest_from (xs ++ u ∷ []) z (rest ++ tail)) j e ∙ ap (λ (ms : List Moment). items ms j) shape)

    begin : length before < length beyond → items (moments ((xs ++ u ∷ []) ++ z ∷ (rest ++ tail))) (length before) ≡ Notes z.tid u.note
    begin l =
        item_at (length before) l
        ∙ (ap (λ (m : Moment). m.item) (get_or-append_seam before (record { entry = length xs; round = u.round; item = Notes u.tid u.note; checks = [] }) _ past)
        ∙ ap (λ v. Notes v u.note) (told_u.is_of.by ∙ sym told_z.is_of.by))

    leaving : (l : Label) → z.note ≡ Leave l → ⊥
    leaving l q =
        let left = further.lawful.notes.left_only (length beyond) z.tid l (ap (λ (m : Moment). m.item) (begins limits bare granule_of (xs ++ u ∷ []) z (rest ++ tail)) ∙ ap (Notes z.tid) q) in
        let i : ℕ = left.0 in
        let inside : i < length beyond = left.2.later in
        let length_is = long in
        elim (cases_lt i (length before)) [
          | inl early ↦ left.2.next (length before) u.note early (omega arith) (begin (omega arith))
          | inr late ↦
              let made = sym (ap (λ (m : Moment). m.item) (at_right before (entry_moments (length xs) u) i late)) ∙ (sym (item_at i inside) ∙ left.1.made) in
              let leaves_it = event_among LeavesLabel (length xs) u (i - length before) z.tid left.1.event local made in
              let zero_raise = leaves_it.0 in
              let one_raise = left.1.raising in
              omega arith
        ]

    no_next : (o : DeskNote) → z.note ≡ o → ⊥
    no_next Nothing q = (told_z.noted still).0 q
    no_next (Attach l) q =
        let a = takes limits bare granule_of round era t (n - u.steps) (xs ++ u ∷ []) z rest tail l further q in
        let zero_next = All-head (λ (f : Entry). f.steps ≡ 0) a.next a.rest (subst (All (λ (f : Entry). f.steps ≡ 0)) a.part_is (All-tail (λ (f : Entry). f.steps ≡ 0) z rest none)) in
        let w = a.within in
        omega arith
    no_next (Leave l) q = leaving l q

  -- No entry of the round follows one that leaves its thread's label, where none with instructions does.
  pub ends_there : (round era t n : ℕ) (xs : List Entry) (u : Entry) (part tail : List Entry) → Side limits bare granule_of round era t n xs (u ∷ part) tail →
      All LeavesLabel u.events → All (λ (f : Entry). f.steps ≡ 0) part → part ≡ []
  ends_there round era t n xs u [] tail side local none = refl
  ends_there round era t n xs u (z ∷ rest) tail side local none = absurd (no_next round era t n xs u z rest tail side local none z.note refl)
