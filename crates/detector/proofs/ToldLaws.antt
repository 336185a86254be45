-- The owner of a candidate's word, and what its trace tells.
use Rattle.std.proofs.Common.{◌≡◌, ◌≢◌, ℕ, zero, suc, ◌+◌, ◌*◌, ◌<◌, ◌≤◌, inl, inr, Bool, true, false, cond, Option, Some, None, List, [], ◌∷◌, ◌++◌, length, get_or, refl, ap, sym, subst, ◌∙◌, arith, eq-eqb, ne_eqb, append_assoc, append-nil, length-append}
use Rattle.std.specs.Prelude.{Ok, ◌-◌, ◌^◌, count_ones, All, IsSome, map, fold}
use Rattle.std.proofs.lemmas.Bool.{cases_eq, cases_lt}
use Rattle.std.proofs.lemmas.List.{get_or_past, map-append}
use Rattle.std.proofs.Math.Seq.{get_or-append_seam}
use Rattle.std.specs.Int.{w8, trailing_zeros}
use Rattle.std.specs.List.{AllZip}
use Rattle.std.proofs.lemmas.List.Sums.{fold-append}
use Rattle.run_record.specs.declared.entry.Label.{Label}
use Rattle.run_record.specs.declared.entry.DeskNote.TheVariants.{Nothing, Attach, Leave}
use Rattle.run_record.specs.declared.report.Side.{Side}
use Rattle.run_record.specs.declared.report.KeptLock.{KeptLock}
use Rattle.run_record.specs.declared.limits.Limits.{Limits}
use Rattle.run_record.specs.declared.report.Report.{Report}
use Rattle.run_laws.specs.Moments.{Item, Does, Notes, NewEra, Past, Moment, items}
use Rattle.run_laws.specs.Labels.{Labels, labels, next_labels, can_attach, attach_labels}
use Rattle.run_laws.specs.Window.{traced_by, trace_before}
use Rattle.run_laws.specs.Words.{mask, sid, epoch, label_in}
use Rattle.run_laws.specs.Present.{trace_now}
use Rattle.run_laws.proofs.SlotSteps.{slot_kept, attach_slot_here, attach_slot_other, attach_epoch_here, attach_epoch_grows}
use Rattle.run_laws.specs.Reports.{Kept, kept_after}
use Rattle.elf_image.specs.File.{image_of, granule_of, granules_of, granule_address}
use Rattle.elf_image.specs.Regions.{block}
use Rattle.elf_image.proofs.MemoryLaws.{granule_below, granule_address-of}
use Rattle.shadow_word.specs.declared.cell.Cell.{Cell}
use Rattle.shadow_word.specs.Cells.{cell_in, fields_of}
use Rattle.slot_desk.specs.Desks.{DeskContents, slot_of, owner_at}
use Rattle.trace_parts.specs.Held.{HeldTrace, has_label}
use Rattle.trace_parts.specs.declared.restored.Restored.TheVariants.{Found, Lost}
use Rattle.trace_parts.specs.declared.restored.Restored.{Restored}
use Rattle.trace_parts.specs.Sought.{restored, first_held}
use Rattle.race_core.specs.Watched.{Watched, new_watched}
use Rattle.race_core.specs.declared.watcher.Candidate.{Candidate}
use Rattle.report_laws.specs.Owners.{IsLabelOf, IsTraceOf, previous_side}
use Rattle.report_laws.specs.Awaited.{Awaited, HasOwner, IsRestorable, IsToldBy}
use Rattle.report_laws.specs.Awaited.Collects.{Begin}
use Rattle.report_text.specs.Offers.{offers}
use Rattle.detector.specs.Detected.{Detected, watcher_of}
use Rattle.detector.specs.Stands.{Stands, awaited}
use Rattle.detector.specs.Told.{IsOwnedBy, HasOwnerAt, CanBeSought, side_in, CanBeTold, TellsPrevious, CanTellAll, TellsAll}

-- ---- who has a slot has a trace

nothing_first : {X : Type 0} (xs ys : List X) → xs ++ ys ≡ [] → (xs ≡ []) × (ys ≡ [])
nothing_first [] ys e = (refl, e)
nothing_first (x ∷ xs) ys e = absurd (cc)

module _ (g : ℕ) (h : ℕ → Item) (t : ℕ) where
  empty_before : (m n : ℕ) → n ≤ m → trace_before g h m t ≡ [] → trace_before g h n t ≡ []
  empty_before zero n le e = let z : n ≡ 0 = omega arith in rw z refl
  empty_before (suc m) n le e = elim (cases_eq n (suc m)) [
    | inl q ↦ rw q e
    | inr d ↦ empty_before m n (omega arith) (nothing_first (trace_before g h m t) (traced_by g h m t (h m)) e).0
  ]

  slot_before : (n s : ℕ) (item : Item) → traced_by g h n t item ≡ [] → (next_labels g (labels g h n) item).slot_of t ≡ Some s → (labels g h n).slot_of t ≡ Some s
  slot_before n s (Does u e) none has = slot_kept g (labels g h n) u e t s has
  slot_before n s (Notes u Nothing) none has = has
  slot_before n s (Notes u (Leave l)) none has = has
  slot_before n s (Notes u (Attach l)) none has = go (can_attach (labels g h n) u l.sid) has
    where
      other : t ≡ u → ⊥
      other same = absurd (let q = eq-eqb u t (sym same) in let z = rw q at none in cc)

      go : (b : Bool) → (cond b (attach_labels (labels g h n) u l.sid) (labels g h n)).slot_of t ≡ Some s → (labels g h n).slot_of t ≡ Some s
      go true has = sym (attach_slot_other (labels g h n) u l.sid t other) ∙ has
      go false has = has
  slot_before n s NewEra none has = absurd (cc)
  slot_before n s Past none has = has

  no_slot : (n s : ℕ) → trace_before g h n t ≡ [] → (labels g h n).slot_of t ≡ Some s → ⊥
  unfolding labels
  no_slot zero s e has = absurd (cc)
  no_slot (suc n) s e has =
      let p = nothing_first (trace_before g h n t) (traced_by g h n t (h n)) e in
      no_slot n s p.0 (slot_before n s (h n) p.1 has)

-- ---- the epoch of a slot that someone has isn't 0

module _ (g : ℕ) (h : ℕ → Item) (t : ℕ) where
  later_then : (l : Labels) (s : ℕ) (item : Item) → (l.slot_of t ≡ Some s → 1 ≤ l.epoch s) → (next_labels g l item).slot_of t ≡ Some s → 1 ≤ (next_labels g l item).epoch s
  later_then l s (Does u e) before has = let z = before (slot_kept g l u e t s has) in omega arith
  later_then l s (Notes u Nothing) before has = before has
  later_then l s (Notes u (Leave a)) before has = before has
  later_then l s (Notes u (Attach a)) before has = go (can_attach l u a.sid) has
    where
      taken : (attach_labels l u a.sid).slot_of t ≡ Some s → t ≡ u → s ≡ a.sid
      taken has same = let z = rw same at has in let y : Some s ≡ Some a.sid = sym z ∙ attach_slot_here l u a.sid in cc

      go : (b : Bool) → (cond b (attach_labels l u a.sid) l).slot_of t ≡ Some s → 1 ≤ (cond b (attach_labels l u a.sid) l).epoch s
      go true has = elim (cases_eq t u) [
        | inl same ↦ subst (λ (r : ℕ). 1 ≤ (attach_labels l u a.sid).epoch r) (sym (taken has same)) (let z = attach_epoch_here l u a.sid in omega arith)
        | inr other ↦ let z = before (sym (attach_slot_other l u a.sid t other) ∙ has) in let y = attach_epoch_grows l u a.sid s in omega arith
      ]
      go false has = before has
  later_then l s NewEra before has = absurd (cc)
  later_then l s Past before has = before has

  later_at : (n s : ℕ) → (labels g h n).slot_of t ≡ Some s → 1 ≤ (labels g h n).epoch s
  unfolding labels
  later_at zero s has = absurd (cc)
  later_at (suc n) s has = later_then (labels g h n) s (h n) (later_at n s) has

-- ---- the cell of a word

cell_is : (w slots : ℕ) → mask w ≢ 0 → 1 ≤ epoch w → sid w < slots → slots ≤ 255 → cell_in w ≡ Some (fields_of w)
cell_is w slots some later below few =
    let e : epoch w ≢ 0 = (λ z. absurd (omega arith)) in
    let f : sid w ≢ 255 = (λ z. absurd (omega arith)) in
    rw (ne_eqb (mask w) 0 some, ne_eqb (epoch w) 0 e, ne_eqb (sid w) 255 f) refl

module _ (granules : ℕ) (d : Detected) (one : Awaited) (from : ℕ) (leaving : Option ℕ) (h : List Moment) (s : Stands granules d.limits from leaving h d) (o : HasOwner d.limits.epochs h one) where
  abbrev g : ℕ
  g = d.limits.epochs

  abbrev n : ℕ
  n = o.label_of.position

  pub owner_is : owner_at (slot_of d.desk (sid one.word)).journal (epoch one.word) ≡ Some o.tid
  owner_is =
      let under = o.label_of.under in
      subst (λ (e : ℕ). owner_at (slot_of d.desk (sid one.word)).journal e ≡ Some o.tid) under.epoch
      (s.desk.journals.named n o.tid (sid one.word) under.event o.label_of.within under.made under.slot (under.era ∙ o.present))

  pub later_epoch : 1 ≤ epoch one.word
  later_epoch = subst (λ (e : ℕ). 1 ≤ e) o.label_of.under.epoch (later_at g (items h) o.tid n (sid one.word) o.label_of.under.slot)

  pub owner_watched : o.tid < length d.watchers
  owner_watched = elim (cases_lt o.tid (length d.watchers)) [
    | inl l ↦ l
    | inr past ↦
        let new : watcher_of d o.tid ≡ new_watched o.tid d.limits = get_or_past d.watchers o.tid (new_watched o.tid d.limits) past in
        let none : trace_now g h o.tid ≡ [] = (s.watchers o.tid).trace.none_yet (ap (λ (w : Watched). w.trace.held) new) in
        let w = o.label_of.within in
        absurd (no_slot g (items h) o.tid n (sid one.word) (empty_before g (items h) o.tid (length h) n (omega arith) none) o.label_of.under.slot)
  ]

  pub trace_is : IsTraceOf d.limits h o.tid (watcher_of d o.tid).trace
  trace_is = let at = s.watchers o.tid in record { part_words = at.part_words; parts = at.parts; holds = at.trace }

  pub word_cell : (slots_of : sid one.word < d.limits.slots) → mask one.word ≢ 0 → cell_in one.word ≡ Some (fields_of one.word)
  word_cell below some = cell_is one.word d.limits.slots some later_epoch below (s.watchers 0).in_range.few_slots

-- ---- in terms of a trace

abbrev label_by : Cell → Label
label_by cell = record { sid = cell.sid; epoch = cell.epoch; era = cell.era }

-- the side that the code makes of an access that it found, and of one that is lost
abbrev found_by : Cell → ℕ → ℕ → ℕ → List ℕ → List KeptLock → Side
found_by cell t addr size stack locks =
    record { tid = t; read = cell.read; atomic = cell.atomic; addr = addr; size = size; stack = Some stack; locks = locks }

abbrev lost_by : Cell → ℕ → ℕ → Side
lost_by cell address t =
    record {
      tid = t;
      read = cell.read;
      atomic = cell.atomic;
      addr = address + trailing_zeros w8 cell.mask;
      size = count_ones cell.mask;
      stack = None;
      locks = [];
    }

module _ (file : List ℕ) (trace : HeldTrace) (granule word : ℕ) (can : CanBeSought file trace granule word) where
  pub sought_cell : (cell : Cell) (r : Option Cell) → r ≡ cell_in word → r ≡ Some cell → cell ≡ fields_of word
  sought_cell cell r value is = let e = can.cell in cc

  pub granule_there : image_of file ≡ Ok file → granule < granules_of file
  granule_there accepted = granule_below file (8 * can.block) granule accepted can.granule_is

  pub address_room : image_of file ≡ Ok file → granule_address file granule < 2 ^ 64 → granule_address file granule ≤ 2 ^ 64 - 8
  address_room accepted fits =
      let e : granule_address file granule ≡ block (8 * can.block) = granule_address-of file (8 * can.block) granule accepted can.granule_is in
      omega arith

  pub stands_there : (cell : Cell) (address : ℕ) → cell ≡ fields_of word → address ≡ granule_address file granule → has_label trace (label_by cell) ≡ true →
      IsSome (first_held trace.held (label_by cell) address word)
  stands_there cell address cell_fields address_is = rw (cell_fields, address_is) can.stands

  module _ (cell : Cell) (address t : ℕ) (found : Restored) (cell_fields : cell ≡ fields_of word) (address_is : address ≡ granule_address file granule)
      (found_is : found ≡ restored (first_held trace.held (label_by cell) address word)) where
    found_same : found ≡ restored (first_held trace.held (label_in word) (granule_address file granule) word)
    found_same = rw (cell_fields, address_is) at found_is

    pub side_found : (place addr size : ℕ) (stack : List ℕ) (locks : List KeptLock) → found ≡ Found place addr size stack locks →
        found_by cell t addr size stack locks ≡ side_in file trace granule word t
    side_found place addr size stack locks is = step ∙ ap (previous_side (granule_address file) granule word t) found_same
      where
        step : found_by cell t addr size stack locks ≡ previous_side (granule_address file) granule word t found
        step = rw (is, cell_fields) refl

    pub side_lost : (side : Side) → found ≡ Lost → side ≡ lost_by cell address t → side ≡ side_in file trace granule word t
    side_lost side lost side_is = side_is ∙ (step ∙ ap (previous_side (granule_address file) granule word t) found_same)
      where
        step : lost_by cell address t ≡ previous_side (granule_address file) granule word t found
        step = rw (lost, cell_fields, address_is) refl

module _ (desk : DeskContents) (word : ℕ) where
  pub owner_cell : HasOwnerAt desk word → (cell : Cell) (r : Option Cell) → r ≡ cell_in word → r ≡ Some cell → cell ≡ fields_of word
  owner_cell has cell r value is = let e = has.cell in cc

  pub owner_named : (t : ℕ) (cell : Cell) (u : Option ℕ) → cell ≡ fields_of word → u ≡ owner_at (slot_of desk cell.sid).journal cell.epoch
      → u ≡ Some t → IsOwnedBy desk word t
  owner_named t cell u cell_fields value is = sym (rw cell_fields at value) ∙ is

-- ---- in terms of the premise

module _ (file : List ℕ) (d : Detected) (one : Awaited) (can : CanBeTold file d one) where
  abbrev granules : ℕ
  granules = granules_of file

  -- a trace with the word's label has an access under it with the word on the granule
  abbrev HasAccess : HeldTrace → Type 0
  HasAccess x = has_label x (label_in one.word) ≡ true → IsSome (first_held x.held (label_in one.word) (granule_address file one.granule) one.word)

  cell_there : cell_in one.word ≡ Some (fields_of one.word)
  cell_there = word_cell (granules_of file) d one can.from can.leaving can.h can.stands can.owner can.restorable.slot can.restorable.bytes

  pub owner_there : (desk : DeskContents) → desk ≡ d.desk → HasOwnerAt desk one.word
  owner_there desk same = record {
    cell = cell_there;
    tid = can.owner.tid;
    owned = subst (λ (k : DeskContents). IsOwnedBy k one.word can.owner.tid) (sym same)
        (owner_is granules d one can.from can.leaving can.h can.stands can.owner);
  }

  module _ (desk : DeskContents) (t : ℕ) (desk_is : desk ≡ d.desk) (owned : IsOwnedBy desk one.word t) where
    owned_here : IsOwnedBy d.desk one.word t
    owned_here = subst (λ (k : DeskContents). IsOwnedBy k one.word t) desk_is owned

    known_owner : can.owner.tid ≡ t
    known_owner = let e = sym (owner_is (granules_of file) d one can.from can.leaving can.h can.stands can.owner) ∙ owned_here in cc

    pub watched_owner : t < length d.watchers
    watched_owner = subst (λ (u : ℕ). u < length d.watchers) known_owner
        (owner_watched granules d one can.from can.leaving can.h can.stands can.owner)

    module _ (trace : HeldTrace) (w : Watched) (trace_of : trace ≡ w.trace) (watcher_is : w ≡ watcher_of d t) where
      held : trace ≡ (watcher_of d t).trace
      held = trace_of ∙ ap (λ (x : Watched). x.trace) watcher_is

      pub can_seek : CanBeSought file trace one.granule one.word
      can_seek = record {
        block = can.restorable.block;
        granule_is = can.restorable.granule_is;
        cell = cell_there;
        stands = subst HasAccess (sym held) (can.restorable.stands t (watcher_of d t).trace
            (subst (λ (u : ℕ). IsLabelOf d.limits.epochs can.h u (label_in one.word)) known_owner can.owner.label_of)
            (subst (λ (u : ℕ). IsTraceOf d.limits can.h u (watcher_of d u).trace) known_owner
            (trace_is granules d one can.from can.leaving can.h can.stands can.owner)));
      }

      -- what the owner's trace tells is what each history tells
      pub tells : (side : Side) → side ≡ side_in file trace one.granule one.word t → TellsPrevious file d one side
      tells side side_is from leaving h s o r =
          let same : o.tid ≡ t = (let e = sym (owner_is (granules_of file) d one from leaving h s o) ∙ owned_here in cc) in
          record {
            tid = t;
            label_of = subst (λ (u : ℕ). IsLabelOf d.limits.epochs h u (label_in one.word)) same o.label_of;
            trace = (watcher_of d t).trace;
            trace_of = subst (λ (u : ℕ). IsTraceOf d.limits h u (watcher_of d u).trace) same (trace_is (granules_of file) d one from leaving h s o);
            mine = refl;
            previous = subst (λ (x : HeldTrace). side ≡ side_in file x one.granule one.word t) held side_is;
          }

-- ---- all that waits

zip_more : {X Y : Type 0} (R : X → Y → Type 0) (xs : List X) (ys : List Y) (x : X) (y : Y) → AllZip R xs ys → R x y → AllZip R (xs ++ x ∷ []) (ys ++ y ∷ [])
zip_more R [] [] x y z r = (r, tt)
zip_more R [] (y ∷ ys) x z none r = absurd none
zip_more R (x ∷ xs) [] z y none r = absurd none
zip_more R (a ∷ xs) (b ∷ ys) x y z r = (z.0, zip_more R xs ys x y z.1 r)

all_at : {X Y : Type 0} (P : Y → Type 0) (f : X → Y) (all before after : List X) (x : X) → all ≡ before ++ (x ∷ after) → All P (map f all) → P (f x)
all_at {Y = Y} P f all before after x is each =
    let e : map f all ≡ map f before ++ (f x ∷ map f after) = ap (map f) is ∙ map-append f before (x ∷ after) in
    let l : length (map f before) < length (map f all) = omega (arith, ap length e, length-append (map f before) (f x ∷ map f after)) in
    subst P (ap (λ (ys : List Y). get_or ys (length (map f before)) (f x)) e ∙ get_or-append_seam (map f before) (f x) (map f after) (f x)) (each (length (map f before)) (f x) l)

-- what waits at the end of a history may be dropped: then nothing waits from there on
pub dropped : (granules : ℕ) (limits : Limits) (from : ℕ) (leaving : Option ℕ) (h : List Moment) (d : Detected) → Stands granules limits from leaving h d → Stands granules limits (length h) leaving h (record d { waiting = [] })
dropped granules limits from leaving h d s = record {
  limits_are = s.limits_are;
  era = s.era;
  desk = s.desk;
  objects = s.objects;
  object_slots = s.object_slots;
  watchers = s.watchers;
  settled = s.settled;
  as_many = s.as_many;
  within = s.within;
  shadow = s.shadow;
  waiting = Begin;
}

-- Of what waited, these have been told, and the others are left.
pub record Telling (meets : Option (List ℕ) → Option (List ℕ) → Bool) (file : List ℕ) (old new : Detected) (before after : Kept) (done left : List Candidate) : Type 0 where
  pub told : List Report
  pub all : old.waiting ≡ done ++ left
  pub as_many : length told ≡ length done
  pub tells :
      (from : ℕ) (leaving : Option ℕ) (h : List Moment) → Stands (granules_of file) old.limits from leaving h old →
      All (HasOwner old.limits.epochs h) (map awaited old.waiting) →
      All (IsRestorable old.limits (granule_of file) (granule_address file) h) (map awaited old.waiting) →
      AllZip (IsToldBy old.limits (granule_address file) h) (map awaited done) told
  pub kept : after ≡ fold (kept_after meets) before told
  pub counted : offers after ≡ offers before + length told
  pub none_waits : new ≡ record old { waiting = [] }

pub telling_start : (meets : Option (List ℕ) → Option (List ℕ) → Bool) (file : List ℕ) (old new : Detected) (before : Kept) → new ≡ record old { waiting = [] } → Telling meets file old new before before [] old.waiting
telling_start meets file old new before none = record {
  told = [];
  all = refl;
  as_many = refl;
  tells = λ from leaving h s o r. tt;
  kept = refl;
  counted = omega arith;
  none_waits = none;
}

module _ (meets : Option (List ℕ) → Option (List ℕ) → Bool) (file : List ℕ) (old new : Detected) (before after : Kept) (done : List Candidate) (c : Candidate) (left : List Candidate) (t : Telling meets file old new before after done (c ∷ left)) where
  pub next_can : CanTellAll file old → CanBeTold file new (awaited c)
  next_can can = rw t.none_waits (record {
    from = length can.h;
    leaving = can.leaving;
    h = can.h;
    stands = dropped (granules_of file) old.limits can.from can.leaving can.h old can.stands;
    owner = all_at (HasOwner old.limits.epochs can.h) awaited old.waiting done left c t.all can.owners;
    restorable = all_at (IsRestorable old.limits (granule_of file) (granule_address file) can.h) awaited old.waiting done left c t.all can.restorable;
  })

  pub telling_room : offers before + length old.waiting < 2 ^ 32 - 1 → offers after < 2 ^ 32 - 1
  telling_room room =
      let n = length-append done (c ∷ left) in let e = ap length t.all in let f = t.counted in let k = t.as_many in omega arith

  pub telling_step : (side : Side) (next : Kept) → TellsPrevious file new (awaited c) side → next ≡ kept_after meets after (record { mine = c.mine; previous = side }) → offers next ≡ offers after + 1 →
      Telling meets file old new before next (done ++ c ∷ []) left
  telling_step side next is next_is more =
      let report : Report = record { mine = c.mine; previous = side } in
      record {
        told = t.told ++ report ∷ [];
        all = t.all ∙ sym (append_assoc done (c ∷ []) left);
        as_many = (let k = t.as_many in let m = length-append t.told (report ∷ []) in let n = length-append done (c ∷ []) in omega arith);
        tells = λ from leaving h s o r. subst (λ (xs : List Awaited). AllZip (IsToldBy old.limits (granule_address file) h) xs (t.told ++ report ∷ [])) (sym (map-append awaited done (c ∷ [])))
            (zip_more (IsToldBy old.limits (granule_address file) h) (map awaited done) t.told (awaited c) report (t.tells from leaving h s o r)
            (told_now (length h) leaving h (dropped (granules_of file) old.limits from leaving h old s)
            (all_at (HasOwner old.limits.epochs h) awaited old.waiting done left c t.all o)
            (all_at (IsRestorable old.limits (granule_of file) (granule_address file) h) awaited old.waiting done left c t.all r)));
        kept = next_is ∙ (ap (λ (k : Kept). kept_after meets k report) t.kept ∙ sym (fold-append (kept_after meets) before t.told (report ∷ [])));
        counted = (let k = t.counted in let m = length-append t.told (report ∷ []) in omega arith);
        none_waits = t.none_waits;
      }
    where
      told_now : TellsPrevious file (record old { waiting = [] }) (awaited c) side
      told_now = rw t.none_waits at is

pub telling_end : (meets : Option (List ℕ) → Option (List ℕ) → Bool) (file : List ℕ) (old new : Detected) (before after : Kept) (done : List Candidate) → Telling meets file old new before after done [] → TellsAll meets file old new before after
telling_end meets file old new before after done t =
    let all : done ≡ old.waiting = sym (t.all ∙ append-nil done) in
    record {
      told = t.told;
      as_many = t.as_many ∙ ap length all;
      tells = λ from leaving h s o r. subst (λ (xs : List Candidate). AllZip (IsToldBy old.limits (granule_address file) h) (map awaited xs) t.told) all (t.tells from leaving h s o r);
      kept = t.kept;
      counted = t.counted;
      none_waits = t.none_waits;
    }
