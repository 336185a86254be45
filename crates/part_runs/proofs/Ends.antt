-- At a round's end what awaits can be told, by the desk and the traces of threads.
use Rattle.std.proofs.Common.{◌≡◌, ◌≢◌, ℕ, zero, suc, ◌+◌, ◌-◌, ◌<◌, ◌≤◌, inl, inr, Bool, true, false, cond, Some, Ok, List, [], ◌∷◌, ◌++◌, append_assoc, length, get_or, refl, sym, ap, subst, ◌∙◌, arith, eq-eqb, ne_eqb}
use Rattle.std.specs.Prelude.{All, replicate}
use Rattle.std.proofs.lemmas.Bool.{cases_eq}
use Rattle.std.proofs.lemmas.List.{append-nil}
use Rattle.std.proofs.lemmas.List.Elements.{All-nil, All-head, All-tail}
use Rattle.std.proofs.lemmas.List.Sums.{fold-append}
use Rattle.run_record.specs.declared.entry.Entry.{Entry}
use Rattle.run_record.specs.declared.entry.DeskNote.TheVariants.{Nothing, Attach, Leave}
use Rattle.run_record.specs.declared.limits.Limits.{Limits}
use Rattle.elf_image.specs.File.{image_of, granule_of, granule_address}
use Rattle.run_laws.specs.Moments.{Item, Does, Notes, NewEra, Past, Moment, items, moments, moments_in, last_era}
use Rattle.run_laws.specs.Labels.{Labels, labels, next_labels, can_attach, attach_labels}
use Rattle.run_laws.specs.Window.{TraceEvent, traced_by, trace_before}
use Rattle.run_laws.specs.Words.{mask, sid, epoch, label_in}
use Rattle.run_laws.proofs.MomentsLaw.{era_after}
use Rattle.run_laws.proofs.SlotSteps.{slot_kept, attach_slot_here, attach_slot_other, attach_epoch_here, attach_epoch_grows}
use Rattle.turn_laws.specs.Going.{AreAlike}
use Rattle.turn_laws.proofs.AlikeLaw.{trace-alike}
use Rattle.shadow_word.specs.Cells.{cell_in, fields_of}
use Rattle.slot_desk.specs.Desks.{slot_of, owner_at}
use Rattle.slot_desk.specs.History.{IsDeskAt}
use Rattle.slot_desk.proofs.HistoryLaw.{at_agrees}
use Rattle.trace_parts.specs.Held.{Holds}
use Rattle.race_core.specs.History.{IsWatcherAt}
use Rattle.report_laws.specs.Owners.{IsLabelOf, IsTraceOf}
use Rattle.report_laws.specs.Awaited.{Awaited, HasOwner, IsRestorable}
use Rattle.detector.specs.Told.{IsOwnedBy, CanBeSought}
use Rattle.bare_machine.specs.Step.{desk}
use Rattle.turn_orders.specs.Lists.{Each}
use Rattle.turn_orders.specs.Machine.{State}
use Rattle.turn_orders.specs.LineUp.{Stamped}
use Rattle.turn_histories.specs.Rounds.{IsIn}
use Rattle.shared_table.specs.declared.object.DeskState.{DeskState}
use Rattle.shared_table.specs.declared.object.Object.{Object}
use Rattle.shared_table.specs.declared.object.Object.TheVariants.{Stripe, Desk}
use Rattle.shared_table.specs.declared.view.Layout.{Layout}
use Rattle.shared_table.specs.Past as table
use Rattle.placed_detector.specs.Standing.{Hand}
use Rattle.table_deeds.specs.Objects.{slots_in, held_at}
use Rattle.table_deeds.specs.Rounds.{last_stamp}
use Rattle.table_deeds.proofs.First.{first_kept}
use Rattle.hart_parts.specs.Rounds.{PartRound, table_round, ArePartRounds}
use Rattle.hart_parts.proofs.Rounds.{round_is}
use Rattle.whole_parts.specs.Dues.{HasDesk}
use Rattle.whole_parts.proofs.Dues.{all_of_each}
use Rattle.whole_parts.proofs.Standing.{Stood, first_stood}
use Rattle.whole_parts.proofs.Listed.{Objects, after_all, at_next}
use Rattle.part_runs.specs.Runs.{entries_of_rounds, AreRounds}
use Rattle.part_runs.specs.Told.{AwaitRoundEnd}
use Rattle.part_runs.specs.Ends.{at_end, trace_of, IsTellable}
use Rattle.part_runs.proofs.Owned.{owned, sought, none_collected}

-- ---- who has a slot has a trace, and the slot's epoch isn't 0

nothing_first : {X : Type 0} (xs ys : List X) → xs ++ ys ≡ [] → (xs ≡ []) × (ys ≡ [])
nothing_first [] ys e = (refl, e)
nothing_first (x ∷ xs) ys e = absurd (cc)

module _ (g : ℕ) (h : ℕ → Item) (t : ℕ) where
  empty_before : (m n : ℕ) → n ≤ m → trace_before g h m t ≡ [] → trace_before g h n t ≡ []
  empty_before zero n le e = let z : n ≡ 0 = omega arith in rw z refl
  empty_before (suc m) n le e = elim (cases_eq n (suc m)) [
    | inl q ↦ rw q e
    | inr d ↦ empty_before m n (omega arith) (nothing_first (trace_before g h m t) (traced_by g h m t (h m)) e).0
  ]

  slot_before : (n s : ℕ) (item : Item) → traced_by g h n t item ≡ [] → (next_labels g (labels g h n) item).slot_of t ≡ Some s →
      (labels g h n).slot_of t ≡ Some s
  slot_before n s (Does u e) none has = slot_kept g (labels g h n) u e t s has
  slot_before n s (Notes u Nothing) none has = has
  slot_before n s (Notes u (Leave l)) none has = has
  slot_before n s (Notes u (Attach l)) none has = go (can_attach (labels g h n) u l.sid) has
    where
      other : t ≡ u → ⊥
      other same = absurd (let q = eq-eqb u t (sym same) in let z = rw q at none in cc)

      go : (b : Bool) → (cond b (attach_labels (labels g h n) u l.sid) (labels g h n)).slot_of t ≡ Some s → (labels g h n).slot_of t ≡ Some s
      go true has = sym (attach_slot_other (labels g h n) u l.sid t other) ∙ has
      go false has = has
  slot_before n s NewEra none has = absurd (cc)
  slot_before n s Past none has = has

  no_slot : (n s : ℕ) → trace_before g h n t ≡ [] → (labels g h n).slot_of t ≡ Some s → ⊥
  unfolding labels
  no_slot zero s e has = absurd (cc)
  no_slot (suc n) s e has =
      let p = nothing_first (trace_before g h n t) (traced_by g h n t (h n)) e in
      no_slot n s p.0 (slot_before n s (h n) p.1 has)

  later_then : (l : Labels) (s : ℕ) (item : Item) → (l.slot_of t ≡ Some s → 1 ≤ l.epoch s) → (next_labels g l item).slot_of t ≡ Some s →
      1 ≤ (next_labels g l item).epoch s
  later_then l s (Does u e) before has = let z = before (slot_kept g l u e t s has) in omega arith
  later_then l s (Notes u Nothing) before has = before has
  later_then l s (Notes u (Leave a)) before has = before has
  later_then l s (Notes u (Attach a)) before has = go (can_attach l u a.sid) has
    where
      taken : (attach_labels l u a.sid).slot_of t ≡ Some s → t ≡ u → s ≡ a.sid
      taken has same = let z = rw same at has in let y : Some s ≡ Some a.sid = sym z ∙ attach_slot_here l u a.sid in cc

      go : (b : Bool) → (cond b (attach_labels l u a.sid) l).slot_of t ≡ Some s → 1 ≤ (cond b (attach_labels l u a.sid) l).epoch s
      go true has = elim (cases_eq t u) [
        | inl same ↦ subst (λ (r : ℕ). 1 ≤ (attach_labels l u a.sid).epoch r) (sym (taken has same)) (let z = attach_epoch_here l u a.sid in omega arith)
        | inr other ↦ let z = before (sym (attach_slot_other l u a.sid t other) ∙ has) in let y = attach_epoch_grows l u a.sid s in omega arith
      ]
      go false has = before has
  later_then l s NewEra before has = absurd (cc)
  later_then l s Past before has = before has

  later_at : (n s : ℕ) → (labels g h n).slot_of t ≡ Some s → 1 ≤ (labels g h n).epoch s
  unfolding labels
  later_at zero s has = absurd (cc)
  later_at (suc n) s has = later_then (labels g h n) s (h n) (later_at n s) has

-- the cell of a word
cell_is : (w slots : ℕ) → mask w ≢ 0 → 1 ≤ epoch w → sid w < slots → slots ≤ 255 → cell_in w ≡ Some (fields_of w)
cell_is w slots some later below few =
    let e : epoch w ≢ 0 = (λ z. absurd (omega arith)) in
    let f : sid w ≢ 255 = (λ z. absurd (omega arith)) in
    rw (ne_eqb (mask w) 0 some, ne_eqb (epoch w) 0 e, ne_eqb (sid w) 255 f) refl

-- ---- moments that are alike

same_length : (h k : List Moment) → AreAlike h k → length h ≡ length k
same_length [] [] a = refl
same_length [] (y ∷ ys) a = absurd a
same_length (x ∷ xs) [] a = absurd a
same_length (x ∷ xs) (y ∷ ys) a = ap suc (same_length xs ys a.1)

same_items : (h k : List Moment) (i : ℕ) → AreAlike h k → items h i ≡ items k i
same_items [] [] i a = refl
same_items [] (y ∷ ys) i a = absurd a
same_items (x ∷ xs) [] i a = absurd a
same_items (x ∷ xs) (y ∷ ys) zero a = a.0.0
same_items (x ∷ xs) (y ∷ ys) (suc i) a = same_items xs ys i a.1

-- ---- the last round's era goes on

last_after : (era : ℕ) (es : List Entry) → All (λ (e : Entry). e.era ≡ era) es → era_after era es ≡ era
last_after era [] a = refl
last_after era (e ∷ es) a =
    ap (λ (r : ℕ). era_after r es) (All-head (λ (e : Entry). e.era ≡ era) e es a) ∙ last_after era es (All-tail (λ (e : Entry). e.era ≡ era) e es a)

pub no_era_since : (round era : ℕ) (before : List Entry) (e : Entry) (es : List Entry) → All (λ (e : Entry). e.era ≡ era) (e ∷ es) →
    moments_in round era (before ++ e ∷ es) ≡ moments (before ++ e ∷ es)
no_era_since round era before e es all =
    let xs = before ++ e ∷ es in
    let last_is : last_era xs ≡ era = fold-append (λ (r : ℕ) (e : Entry). e.era) 0 before (e ∷ es)
    ∙ (ap (λ (r : ℕ). era_after r es) (All-head (λ (e : Entry). e.era ≡ era) e es all) ∙ last_after era es (All-tail (λ (e : Entry). e.era ≡ era) e es all)) in
    let z : era - last_era xs ≡ 0 = (let q = last_is in omega (arith, q)) in
    ap (λ (n : ℕ). moments xs ++ replicate n (record { entry = length xs; round = round; item = NewEra; checks = [] })) z ∙ append-nil (moments xs)

-- ---- one access

-- the desk's slots
desk_slots : (limits : Limits) (x : Object) (d : DeskState) → HasDesk x d → slots_in limits x ≡ d.desk
desk_slots limits (Desk o) d q = ap (λ (y : DeskState). y.desk) q
desk_slots limits (Stripe o) d q = absurd q

module _ (file : List ℕ) (limits : Limits) (s : Objects file limits) (d : DeskState) (round era : ℕ) (done : List Entry)
    (stood : Stood file limits (held_at file limits s) round era done) (h : List Moment) (alike : AreAlike stood.history h)
    (has : HasDesk (s.value desk) d) (one : Awaited) (o : HasOwner limits.epochs h one)
    (r : IsRestorable limits (granule_of file) (granule_address file) h one) where
  abbrev g : ℕ
  g = limits.epochs

  abbrev n : ℕ
  n = o.label_of.position

  watcher : (t : ℕ) → IsWatcherAt limits stood.history t (s.local t).state.watched
  watcher t = stood.stands.standing.kept.watchers t

  desk_at : IsDeskAt g limits.slots (items h) (length h) d.desk
  desk_at =
      let was = stood.stands.standing.kept.desk in
      subst (IsDeskAt g limits.slots (items h) (length h)) (desk_slots limits (s.value desk) d has)
      (subst (λ (i : ℕ). IsDeskAt g limits.slots (items h) i (slots_in limits (s.value desk))) (same_length stood.history h alike)
      (at_agrees g limits.slots (items stood.history) (items h) (length stood.history) (slots_in limits (s.value desk))
      (λ j l. same_items stood.history h j alike) was))

  trace_is : (t : ℕ) → IsTraceOf limits h t (trace_of s t)
  trace_is t = let at = watcher t in record {
    part_words = at.part_words;
    parts = at.parts;
    holds = subst (λ (xs : List TraceEvent). Holds (trace_of s t) xs) (trace-alike g stood.history h t alike) at.trace;
  }

  owner_is : IsOwnedBy d.desk one.word o.tid
  owner_is =
      let under = o.label_of.under in
      subst (λ (e : ℕ). owner_at (slot_of d.desk (sid one.word)).journal e ≡ Some o.tid) under.epoch
      (desk_at.journals.named n o.tid (sid one.word) under.event o.label_of.within under.made under.slot (under.era ∙ o.present))

  cell_there : cell_in one.word ≡ Some (fields_of one.word)
  cell_there =
      let under = o.label_of.under in
      cell_is one.word limits.slots r.bytes (subst (λ (e : ℕ). 1 ≤ e) under.epoch (later_at g (items h) o.tid n (sid one.word) under.slot)) r.slot
      (watcher 0).in_range.few_slots

  same_owner : (t : ℕ) → IsOwnedBy d.desk one.word t → o.tid ≡ t
  same_owner t owns = let e = sym owner_is ∙ owns in cc

  label_of : (t : ℕ) → IsOwnedBy d.desk one.word t → IsLabelOf g h t (label_in one.word)
  label_of t owns = subst (λ (u : ℕ). IsLabelOf g h u (label_in one.word)) (same_owner t owns) o.label_of

  not_empty : (t : ℕ) → IsOwnedBy d.desk one.word t → (trace_of s t).held ≢ []
  not_empty t owns none =
      let mine = label_of t owns in
      let w = mine.within in
      no_slot g (items h) t mine.position (sid one.word)
      (empty_before g (items h) t (length h) mine.position (omega (arith, w)) ((trace_is t).holds.none_yet none)) mine.under.slot

  can_seek : (t : ℕ) → IsOwnedBy d.desk one.word t → CanBeSought file (trace_of s t) one.granule one.word
  can_seek t owns = record {
    block = r.block;
    granule_is = r.granule_is;
    cell = cell_there;
    stands = r.stands t (trace_of s t) (label_of t owns) (trace_is t);
  }

  tellable : IsTellable file limits h s d.desk one
  tellable = record {
    owner = record { cell = cell_there; tid = o.tid; owned = owner_is };
    some = not_empty;
    sought = can_seek;
    tells = λ t side owns side_is. record {
      tid = t;
      label_of = label_of t owns;
      trace = trace_of s t;
      trace_of = trace_is t;
      mine = refl;
      previous = side_is;
    };
  }

-- ---- all that await

module _ (file : List ℕ) (limits : Limits) (s : Objects file limits) (d : DeskState) (has : HasDesk (s.value desk) d) (before : List Entry) (round era : ℕ)
    (awaited : List Awaited) where
  tellable_all : (part : List Entry) → Stood file limits (held_at file limits s) round era (before ++ part) → Each (IsIn round era) part →
      AwaitRoundEnd limits before part awaited → All (HasOwner limits.epochs (moments (before ++ part))) awaited →
      All (IsRestorable limits (granule_of file) (granule_address file) (moments (before ++ part))) awaited →
      All (IsTellable file limits (moments (before ++ part)) s d.desk) awaited
  tellable_all [] stood inside awaits owners restorable =
      let h = moments (before ++ []) in
      let long : length h ≡ length (moments before) = ap (λ (es : List Entry). length (moments es)) (append-nil before) in
      let none = (none_collected limits.epochs h (length (moments before)) (length h) awaited awaits (λ k l m. absurd (omega (arith, l, m, long)))).0 in
      subst (All (IsTellable file limits h s d.desk)) (sym none) (All-nil (IsTellable file limits h s d.desk))
  tellable_all (e ∷ es) stood inside awaits owners restorable =
      let each = all_of_each (IsIn round era) (e ∷ es) inside in
      let alike = subst (AreAlike stood.history) (no_era_since round era before e es (λ i x l. (each i x l).era)) stood.alike in
      λ i x l. tellable file limits s d round era (before ++ e ∷ es) stood (moments (before ++ e ∷ es)) alike has (get_or awaited i x) (owners i x l)
      (restorable i x l)

module _ (file : List ℕ) (limits : Limits) (ok : image_of file ≡ Ok file) (lay : Layout) where
  -- how the last of some rounds ends
  record Closes (m : Objects file limits) (done : List Entry) (rs : List PartRound) (r : PartRound) : Type 0 where
    round : ℕ
    era : ℕ
    inside : Each (IsIn round era) r.entries
    stood : Stood file limits (held_at file limits (at_end m rs r)) round era (done ++ (entries_of_rounds rs ++ r.entries))

  closes : (rs : List PartRound) (r : PartRound) (round era base : ℕ) (m : Objects file limits) (done : List Entry) →
      Stood file limits (held_at file limits m) round era done → ArePartRounds file limits lay round era base m (rs ++ r ∷ []) → Closes m done rs r
  closes [] r round era base m done s are = record {
    round = round;
    era = era;
    inside = are.1.inside;
    stood = after_all file limits lay round era m (table_round m r) (round_is file limits lay round era m r are.1) ok done s;
  }
  closes (x ∷ xs) r round era base m done s are =
      let next = at_next file limits lay round era m (table_round m x) (round_is file limits lay round era m x are.1) ok done s in
      let rest = closes xs r (round + 1) (cond x.ends (era + 1) era) (last_stamp (table_round m x)) x.next (done ++ x.entries) next are.2 in
      let same : (done ++ x.entries) ++ (entries_of_rounds xs ++ r.entries) ≡ done ++ (entries_of_rounds (x ∷ xs) ++ r.entries) =
      append_assoc done x.entries (entries_of_rounds xs ++ r.entries)
      ∙ ap (λ (es : List Entry). done ++ es) (sym (append_assoc x.entries (entries_of_rounds xs) r.entries)) in
      record {
        round = rest.round;
        era = rest.era;
        inside = rest.inside;
        stood = subst (Stood file limits (held_at file limits (at_end x.next xs r)) rest.round rest.era) same rest.stood;
      }

-- at a round's end each access that awaits it can be told
pub all_tellable : (file : List ℕ) (limits : Limits) (lay : Layout) (past : table.Past) (m : State (Stamped Hand) Object) (rs : List PartRound) (r : PartRound)
    (d : DeskState) → AreRounds file limits lay past m (rs ++ r ∷ []) → HasDesk ((at_end m rs r).value desk) d →
    (awaited : List Awaited) → AwaitRoundEnd limits (entries_of_rounds rs) r.entries awaited →
    All (IsTellable file limits (moments (entries_of_rounds rs ++ r.entries)) (at_end m rs r) d.desk) awaited
all_tellable file limits lay past m rs r d all has awaited awaits =
    let c = closes file limits all.accepted lay rs r 0 0 0 m []
    (first_stood file limits (held_at file limits m) all.limits_are.watcher (first_kept file limits m all.first)) all.parts in
    tellable_all file limits (at_end m rs r) d has (entries_of_rounds rs) c.round c.era awaited r.entries c.stood c.inside awaits
    (owned file limits lay past m rs r all awaited awaits) (sought file limits lay past m rs r all awaited awaits)
