-- An access: its checks, one after another, and the detector after it.
use Rattle.std.proofs.Common.{◌≡◌, ℕ, zero, suc, ◌+◌, ◌*◌, ◌/◌, ◌%◌, ◌^◌, ◌<◌, ◌≤◌, inl, inr, ◌==◌, false, Option, Some, None, List, [], ◌∷◌, ◌++◌, length, get_or, length-append, append-nil, append_assoc, refl, ap, ap₂, sym, subst, ◌∙◌, arith, ne_eqb}
use Rattle.std.specs.Prelude.{IsSome, IsSomeAnd, Ok, map, fold, slice_get, slice_set, slice_index, option_map, All, position}
use Rattle.std.specs.List.{AllZip}
use Rattle.std.proofs.lemmas.List.Elements.{All-push, All-nil, All-cons}
use Rattle.std.specs.Option.{option_or}
use Rattle.std.proofs.Math.Seq.{get_or-append_seam}
use Rattle.race_core.proofs.PartsLaws.{with_bytes}
use Rattle.elf_image.specs.File.{image_of, granule_of, granules_of}
use Rattle.elf_image.specs.Regions.{block}
use Rattle.elf_image.proofs.MemoryLaws.{granule_below, one_block}
use Rattle.shadow_word.specs.Decisions.{AreInClock}
use Rattle.hart_events.specs.declared.checks.Raced.{Raced}
use Rattle.run_record.specs.declared.event.Event.{Event}
use Rattle.run_record.specs.declared.event.Event.TheVariants as events
use Rattle.run_record.specs.declared.entry.Check.{Check}
use Rattle.run_record.specs.declared.entry.Label.{Label}
use Rattle.run_record.specs.declared.limits.Limits.{Limits}
use Rattle.run_laws.specs.Moments.{Does, Moment}
use Rattle.run_laws.specs.Accesses.{Access, access_of, Part, parts_of}
use Rattle.run_laws.specs.Words.{sid, era, cell_for}
use Rattle.run_laws.specs.Loads.{cell_after}
use Rattle.run_laws.specs.Checks.{StoresRightly}
use Rattle.run_laws.specs.Candidates.{is_race}
use Rattle.run_laws.specs.Present.{label_now, clocks_now, trace_now, cell_now}
use Rattle.run_laws.proofs.WordLaw.{sid-word_of}
use Rattle.turn_laws.specs.Going.{ChecksPartNow, LoadsNow, AreRightNow}
use Rattle.race_core.specs.Walk.{pair_of, planned}
use Rattle.race_core.specs.Watched.{Watched, noted, side_of}
use Rattle.race_core.specs.History.{IsWatcherAt}
use Rattle.race_core.specs.declared.watcher.Candidate.{Candidate}
use Rattle.report_laws.specs.Sound.{first_race_in, race_in}
use Rattle.report_laws.specs.Awaited.{Awaited, Collects}
use Rattle.report_laws.proofs.CollectedLaw.{push_ordered, push_unordered}
use Rattle.report_laws.proofs.CheckRaces.{same_races, race_at, next_check}
use Rattle.detector.specs.Detected.{Detected, watcher_of, shadow_at, cells_at, IsGoing}
use Rattle.hart_events.specs.Checks.{raced_of}
use Rattle.detector.specs.Checked.{IsCheckOf, stored_in}
use Rattle.detector.specs.Stands.{Stands, awaited}
use Rattle.detector.specs.Checking.{Checking, Half, IsStanding}
use Rattle.detector.proofs.CheckLaws.{StoresWithin, cell_below, shadow_start, shadow_step, shadow_end}
use Rattle.detector.proofs.PartLaws.{NoneOn, IsInjective, part_of_block, parts_apart, zip_parts}
use Rattle.detector.proofs.Laws.{side_told}
use Rattle.detector.proofs.Placed.{watcher_but, stands_event}
use Rattle.thread_events.proofs.Longer.{era_stays, no_era}
use Rattle.run_laws.specs.Moments.{IsBy}
use Rattle.std.proofs.Math.ListN.{length-set}
use Rattle.run_record.specs.declared.report.Side.{Side}

-- ---- the checks so far

AllZip-snoc : {A B : Type 0} (R : A → B → Type 0) (xs : List A) (ys : List B) (x : A) (y : B) → AllZip R xs ys → R x y → AllZip R (xs ++ x ∷ []) (ys ++ y ∷ [])
AllZip-snoc R [] [] x y z r = (r, tt)
AllZip-snoc R [] (b ∷ ys) x y z r = absurd z
AllZip-snoc R (a ∷ xs) [] x y z r = absurd z
AllZip-snoc R (a ∷ xs) (b ∷ ys) x y z r = (z.0, AllZip-snoc R xs ys x y z.1 r)

-- the words of a granule on which no check was made are those before the access
then_elsewhere : (limits : Limits) (h : List Moment) (t : ℕ) (a : Access) (done : List (ℕ × ℕ)) (checks : List Check) (granule cell word : ℕ) →
    AllZip (λ (p : ℕ × ℕ) (c : Check). ChecksPartNow limits.epochs h t a (record { granule = p.0; mask = p.1 }) c) done checks → NoneOn granule done → fold (cell_after granule cell) word checks ≡ word
then_elsewhere limits h t a [] [] granule cell word z n = refl
then_elsewhere limits h t a [] (c ∷ cs) granule cell word z n = absurd z
then_elsewhere limits h t a (p ∷ ps) [] granule cell word z n = absurd z
then_elsewhere limits h t a (p ∷ ps) (c ∷ cs) granule cell word z n =
    ap (λ (w : ℕ). fold (cell_after granule cell) w cs) (here c.stored) ∙ then_elsewhere limits h t a ps cs granule cell word z.1 n.1
  where
    other : c.granule == granule ≡ false
    other = ne_eqb c.granule granule (λ q. n.0 (sym z.0.granule ∙ q))

    here : (o : Option (ℕ × ℕ)) → cell_after granule cell word (record c { stored = o }) ≡ word
    here None = refl
    here (Some s) = rw other refl

-- each of the four words
four_words : (shadow : List ℕ) (granule cell word : ℕ) → slice_get (cells_at shadow granule) cell ≡ Some word → (cell < 4) × (word ≡ shadow_at shadow granule cell)
four_words shadow granule zero word q = (omega arith, let z = q in cc)
four_words shadow granule (suc zero) word q = (omega arith, let z = q in cc)
four_words shadow granule (suc (suc zero)) word q = (omega arith, let z = q in cc)
four_words shadow granule (suc (suc (suc zero))) word q = (omega arith, let z = q in cc)
four_words shadow granule (suc (suc (suc (suc n)))) word q = absurd (cc)

within_slots : (slots place turn : ℕ) (shadow : List ℕ) (label : Label) (a : Access) (p : ℕ × ℕ) (c : Check) → IsCheckOf shadow label a place turn p c → turn < 4 → p.1 < 256 → label.sid < slots → slots ≤ 255 → StoresWithin slots c
within_slots slots place turn shadow label a p c is few mask label_within most = record {
  cell = λ i w q. cell_below c.word c.cells c.turn i (ap length is.cells) (let z = is.turn_is in omega arith) (first_is i w (cell_for c.word c.cells c.turn) (sym is.stored ∙ q));
  slot = λ i w q. let e = word_is i w (cell_for c.word c.cells c.turn) (sym is.stored ∙ q) in
      let s = sid-word_of p.1 label a.read a.atomic mask (omega arith) in
      let x : sid w ≡ label.sid = ap sid (sym e ∙ is.word) ∙ s in omega arith;
}
  where
    first_is : (i w : ℕ) (o : Option ℕ) → option_map {U = ℕ × ℕ} (λ (i : ℕ). (i, c.word)) o ≡ Some (i, w) → o ≡ Some i
    first_is i w None q = absurd (cc)
    first_is i w (Some x) q = let z = ap (option_map (λ (p : ℕ × ℕ). p.0)) q in z

    word_is : (i w : ℕ) (o : Option ℕ) → option_map {U = ℕ × ℕ} (λ (i : ℕ). (i, c.word)) o ≡ Some (i, w) → c.word ≡ w
    word_is i w None q = absurd (cc)
    word_is i w (Some x) q = let z = ap (option_map (λ (p : ℕ × ℕ). p.1)) q in some_is z
      where
        some_is : Some c.word ≡ Some w → c.word ≡ w
        some_is q = cc

pub checking_start : (granules : ℕ) (limits : Limits) (h : List Moment) (t : ℕ) (a : Access) (d : Detected) (from : ℕ) (leaving : Option ℕ) → Stands granules limits from leaving h d → Checking granules limits h t a [] [] d.shadow
checking_start granules limits h t a d from leaving s = record { zipped = tt; stores = All-nil StoresRightly; loads = All-nil (LoadsNow h); shadow_is = shadow_start granules limits.slots h d.shadow s.shadow }

pub checking_step : (granules : ℕ) (limits : Limits) (h : List Moment) (t place turn : ℕ) (a : Access) (label : Label) (done : List (ℕ × ℕ)) (checks : List Check) (shadow : List ℕ) (p : ℕ × ℕ) (c : Check) →
    Checking granules limits h t a done checks shadow → IsCheckOf shadow label a place turn p c → NoneOn p.0 done → p.0 < granules → label_now limits.epochs h t ≡ Some label → label.sid < limits.slots → limits.slots ≤ 255 → p.1 < 256 →
    turn ≡ length (trace_now limits.epochs h t) % 4 → Checking granules limits h t a (done ++ p ∷ []) (checks ++ c ∷ []) (stored_in shadow c.granule c.stored)
checking_step granules limits h t place turn a label done checks shadow p c k is none within labelled slot slots mask turn_is =
    let few : turn < 4 = (let z = turn_is in omega arith) in
    record {
      zipped = AllZip-snoc (λ (p : ℕ × ℕ) (c : Check). ChecksPartNow limits.epochs h t a (record { granule = p.0; mask = p.1 }) c) done checks p c k.zipped
          (record { label = label; labelled = labelled; granule = is.granule; word = is.word; turn = is.turn_is ∙ turn_is; four = ap length is.cells });
      stores = All-push StoresRightly checks c k.stores is.stored;
      loads = All-push (LoadsNow h) checks c k.loads (λ cell word q.
          let f = four_words shadow p.0 cell word (ap (λ (ws : List ℕ). slice_get ws cell) (sym is.cells) ∙ q) in
          f.1 ∙ (k.shadow_is.last p.0 cell within f.0 ∙ (then_elsewhere limits h t a done checks p.0 cell (cell_now h p.0 cell) k.zipped none ∙ ap (λ (x : ℕ). cell_now h x cell) (sym is.granule))));
      shadow_is = shadow_step granules limits.slots h checks shadow c k.shadow_is (let z = is.granule in omega arith) (within_slots limits.slots place turn shadow label a p c is few mask slot slots);
    }

-- ---- after all checks

-- what is awaited after the access, where that word races
abbrev pub waits_for : Watched → Access → Option (Check × ℕ) → List Candidate → List Candidate
waits_for w a None waiting = waiting
waits_for w a (Some (c, word)) waiting = waiting ++ record { mine = side_of w a; granule = c.granule; word = word } ∷ []

map-snoc : (f : Candidate → Awaited) (xs : List Candidate) (x : Candidate) → map f (xs ++ x ∷ []) ≡ map f xs ++ f x ∷ []
map-snoc f [] x = refl
map-snoc f (y ∷ xs) x = ap (λ (zs : List Awaited). f y ∷ zs) (map-snoc f xs x)

abbrev pub event_of : Access → Event
event_of a = events.Access a.place a.addr a.size a.read a.atomic

-- the detector after an access: its checks were made, and it is noted
abbrev pub after_access : Detected → ℕ → Access → List ℕ → Option (Check × ℕ) → Detected
after_access d t a shadow raced =
    let w = watcher_of d t in
    record d { shadow = shadow; watchers = slice_set d.watchers t (noted w (event_of a)); waiting = waits_for w a raced d.waiting }

module _ (granules : ℕ) (limits : Limits) (from : ℕ) (h : List Moment) (m : Moment) (d : Detected) (t : ℕ) (a : Access) (shadow : List ℕ) (s : Stands granules limits from None h d) (going : IsGoing d t) (made : m.item ≡ Does t (event_of a)) (granule_of : ℕ → Option ℕ)
    (k : Checking granules limits h t a (map pair_of (parts_of granule_of a)) m.checks shadow) where
  -- the thread's clock finds what the watcher's does
  found_is : first_race_in ((clocks_now limits.epochs h).thread t) m.checks ≡ first_race_in (slice_index (watcher_of d t).clock) m.checks
  found_is = same_races ((clocks_now limits.epochs h).thread t) (slice_index (watcher_of d t).clock) m.checks (λ r. sym ((s.watchers t).clock (going.era ∙ s.era) r))

  waiting_after : (raced : Option (Check × ℕ)) → first_race_in (slice_index (watcher_of d t).clock) m.checks ≡ raced → Collects limits.epochs (h ++ m ∷ []) from (length (h ++ m ∷ [])) (map awaited (waits_for (watcher_of d t) a raced d.waiting))
  waiting_after None none = push_ordered limits.epochs h from (map awaited d.waiting) m s.waiting t a made (found_is ∙ none)
  waiting_after (Some (c, word)) some =
      let told = side_told limits h t (watcher_of d t) a (s.watchers t) in
      let P : Side → Type 0 = λ x. Collects limits.epochs (h ++ m ∷ []) from (length (h ++ m ∷ [])) (map awaited d.waiting ++ record { mine = x; granule = c.granule; word = word } ∷ []) in
      rw (map-snoc awaited d.waiting (record { mine = side_of (watcher_of d t) a; granule = c.granule; word = word })) (subst P (sym told) (push_unordered limits.epochs h from (map awaited d.waiting) m s.waiting t a made c word (found_is ∙ some)))

  pub right_after : AreRightNow limits.epochs granule_of h t (event_of a) m.checks
  right_after = record {
    of_access = zip_parts (λ (p : Part) (c : Check). ChecksPartNow limits.epochs h t a p c) (parts_of granule_of a) m.checks k.zipped;
    stores = k.stores;
    loads = k.loads;
  }

  pub stands_access : (raced : Option (Check × ℕ)) → first_race_in (slice_index (watcher_of d t).clock) m.checks ≡ raced → t < length d.watchers → Stands granules limits from None (h ++ m ∷ []) (after_access d t a shadow raced)
  stands_access raced is watched =
      stands_event granules limits from h m d (after_access d t a shadow raced) t s going (event_of a) made tt refl refl
      (s.era ∙ sym (era_stays limits.epochs h m (no_era t m.item (subst (IsBy t) (sym made) refl)))) refl (watcher_but d t (noted (watcher_of d t) (event_of a)) watched)
      (length-set d.watchers t (noted (watcher_of d t) (event_of a)) ∙ s.as_many) (shadow_end granules limits.slots h m shadow k.shadow_is) (waiting_after raced is)

-- ---- along the parts

some_of : {X : Type 0} (o : Option X) → IsSome o → (x : X) × (o ≡ Some x)
some_of None s = absurd (cc)
some_of (Some x) s = (x, refl)

pub half_start : (file : List ℕ) (d : Detected) (t place : ℕ) (e : Event) (checks : List Check) (left : List (ℕ × ℕ)) → IsSome (access_of e) → ((a : Access) → access_of e ≡ Some a → left ≡ planned file a) → Half file d d t place e checks checks left None
half_start file d t place e checks left some planned_is =
    let a = some_of (access_of e) some in
    record {
      access = a.0;
      is_access = a.1;
      done = [];
      parts = sym (planned_is a.0 a.1);
      added = [];
      checks_are = sym (append-nil checks);
      of_event = All-nil (λ (c : Check). c.event ≡ place);
      rest = refl;
      checking = λ from leaving h s. checking_start (granules_of file) d.limits h t a.0 d from leaving s;
      raced_is = refl;
    }

pub injective : (file : List ℕ) → image_of file ≡ Ok file → IsInjective (granule_of file)
injective file accepted b c g x y =
    let same : block (8 * b) ≡ block (8 * c) = one_block file (8 * b) (8 * c) g accepted x y in
    let p : 8 * b / 8 ≡ b = omega arith in
    let q : 8 * c / 8 ≡ c = omega arith in
    omega arith

all_at : {X : Type 0} (P : X → Type 0) (all before after : List X) (x : X) → all ≡ before ++ (x ∷ after) → All P all → P x
all_at {X} P all before after x is each =
    let l : length before < length all = omega (arith, ap length is, length-append before (x ∷ after)) in
    subst P (ap (λ (xs : List X). get_or xs (length before) x) is ∙ get_or-append_seam before x after x) (each (length before) x l)

-- the part that comes next
pub record NextPart (file : List ℕ) (p : ℕ × ℕ) (done : List (ℕ × ℕ)) : Type 0 where
  pub within : p.0 < granules_of file
  pub some_byte : p.1 ≡ 0 → ⊥
  pub few_bits : p.1 < 256
  pub apart : NoneOn p.0 done

pub next_part : (file : List ℕ) (a : Access) (done left : List (ℕ × ℕ)) (p : ℕ × ℕ) → image_of file ≡ Ok file → planned file a ≡ done ++ (p ∷ left) → NextPart file p done
next_part file a done left p accepted is =
    let b = part_of_block (granule_of file) a done left p is in
    record {
      within = granule_below file (8 * b.block) p.0 accepted b.granule;
      some_byte = b.some_byte;
      few_bits = (all_at (λ (q : ℕ × ℕ). (q.1 ≡ 0 → ⊥) × (q.1 < 2 ^ 8)) (planned file a) done left p is (with_bytes file a)).1;
      apart = parts_apart (granule_of file) a done left p (injective file accepted) is;
    }

-- what a check of a part needs of the shadow
pub room_for : (file : List ℕ) (old new : Detected) (t place : ℕ) (e : Event) (before after : List Check) (left : List (ℕ × ℕ)) (raced : Option Raced) (p : ℕ × ℕ) → Half file old new t place e before after left raced → IsStanding (granules_of file) old → p.0 < granules_of file → 4 * p.0 + 4 ≤ length new.shadow
room_for file old new t place e before after left raced p half standing within =
    let k = (half.checking standing.from standing.leaving standing.history standing.stands).shadow_is.whole in omega arith

pub slots_known : (file : List ℕ) (old new : Detected) (t place : ℕ) (e : Event) (before after : List Check) (left : List (ℕ × ℕ)) (raced : Option Raced) (p : ℕ × ℕ) (this_era : ℕ) → Half file old new t place e before after left raced → IsStanding (granules_of file) old → p.0 < granules_of file →
    AreInClock this_era (watcher_of old t).clock (cells_at new.shadow p.0)
slots_known file old new t place e before after left raced p this_era half standing within =
    let k = (half.checking standing.from standing.leaving standing.history standing.stands).shadow_is in
    let long = (standing.stands.watchers t).slots in
    let P : ℕ → Type 0 = λ (w : ℕ). (w ≡ 0 → ⊥) → era w ≡ this_era → sid w < length (watcher_of old t).clock in
    let known : (i : ℕ) → i < 4 → P (shadow_at new.shadow p.0 i) = λ i l some q. (let z = k.within p.0 i within l some in omega arith) in
    All-cons P (shadow_at new.shadow p.0 0) (shadow_at new.shadow p.0 1 ∷ shadow_at new.shadow p.0 2 ∷ shadow_at new.shadow p.0 3 ∷ []) (known 0 (omega arith))
    (All-cons P (shadow_at new.shadow p.0 1) (shadow_at new.shadow p.0 2 ∷ shadow_at new.shadow p.0 3 ∷ []) (known 1 (omega arith))
    (All-cons P (shadow_at new.shadow p.0 2) (shadow_at new.shadow p.0 3 ∷ []) (known 2 (omega arith))
    (All-cons P (shadow_at new.shadow p.0 3) [] (known 3 (omega arith)) (All-nil P))))

-- one more part is checked
pub half_step : (file : List ℕ) (old new after_new : Detected) (t place turn : ℕ) (e : Event) (before after : List Check) (left : List (ℕ × ℕ)) (raced found : Option Raced) (p : ℕ × ℕ) (c : Check) (label : Label) →
    (half : Half file old new t place e before after (p ∷ left) raced) → NextPart file p half.done → IsGoing old t → (watcher_of old t).label ≡ Some label → p.1 < 256 → turn ≡ (watcher_of old t).trace.count % 4 →
    IsCheckOf new.shadow label half.access place turn p c → after_new ≡ record new { shadow = stored_in new.shadow p.0 c.stored } →
    found ≡ option_map (λ (i : ℕ). record { granule = p.0; word = slice_index c.cells i }) (position (is_race (slice_index (watcher_of old t).clock) c.word) c.cells) →
    Half file old after_new t place e before (after ++ c ∷ []) left (option_or raced found)
half_step file old new after_new t place turn e before after left raced found p c label half next going labelled mask turn_is is new_at found_at =
    let new_is : after_new ≡ record new { shadow = stored_in new.shadow c.granule c.stored } = new_at ∙ ap (λ (g : ℕ). record new { shadow = stored_in new.shadow g c.stored }) (sym is.granule) in
    let found_is : found ≡ option_map {U = Raced} (λ (i : ℕ). record { granule = c.granule; word = slice_index c.cells i }) (position (is_race (slice_index (watcher_of old t).clock) c.word) c.cells) = found_at ∙ ap (λ (g : ℕ). option_map {U = Raced} (λ (i : ℕ). record { granule = g; word = slice_index c.cells i }) (position (is_race (slice_index (watcher_of old t).clock) c.word) c.cells)) (sym is.granule) in
    record {
      access = half.access;
      is_access = half.is_access;
      done = half.done ++ p ∷ [];
      parts = half.parts ∙ sym (append_assoc half.done (p ∷ []) left);
      added = half.added ++ c ∷ [];
      checks_are = ap (λ (cs : List Check). cs ++ c ∷ []) half.checks_are ∙ append_assoc before half.added (c ∷ []);
      of_event = All-push (λ (c : Check). c.event ≡ place) half.added c half.of_event is.event;
      rest = new_is ∙ (ap (λ (d : Detected). record d { shadow = stored_in new.shadow c.granule c.stored }) half.rest ∙ ap (λ (s : List ℕ). record old { shadow = s }) (sym (ap (λ (d : Detected). d.shadow) new_is)));
      checking = λ from leaving h s.
          let k = half.checking from leaving h s in
          let w = s.watchers t in
          let present = going.era ∙ s.era in
          let step = checking_step (granules_of file) old.limits h t place turn half.access label half.done half.added new.shadow p c k is next.apart next.within (sym (w.label present) ∙ labelled) (w.slot label labelled) w.in_range.few_slots mask (turn_is ∙ ap (λ (n : ℕ). n % 4) w.trace.counted) in
          subst (Checking (granules_of file) old.limits h t half.access (half.done ++ p ∷ []) (half.added ++ c ∷ [])) (sym (ap (λ (d : Detected). d.shadow) new_is)) step;
      raced_is =
          let clock = slice_index (watcher_of old t).clock in
          ap₂ option_or half.raced_is found_is
          ∙ (one_more clock half.added (first_race_in clock half.added) ∙ ap raced_of (sym (next_check clock half.added c)));
    }
  where
    one_more : (clock : ℕ → ℕ) (added : List Check) (o : Option (Check × ℕ)) → option_or (raced_of o) (option_map {U = Raced} (λ (i : ℕ). record { granule = c.granule; word = slice_index c.cells i }) (position (is_race clock c.word) c.cells)) ≡ raced_of (option_or o (option_map (λ (w : ℕ). (c, w)) (race_in clock c)))
    one_more clock added (Some l) = refl
    one_more clock added None = rw (race_at clock c) (mapped (position (is_race clock c.word) c.cells))
      where
        mapped : (o : Option ℕ) → option_map {U = Raced} (λ (i : ℕ). record { granule = c.granule; word = slice_index c.cells i }) o ≡ raced_of (option_map (λ (w : ℕ). (c, w)) (option_map (slice_index c.cells) o))
        mapped None = refl
        mapped (Some i) = refl

-- the thread's watcher is as it was
pub same_watcher : (file : List ℕ) (old new : Detected) (t place : ℕ) (e : Event) (before after : List Check) (left : List (ℕ × ℕ)) (raced : Option Raced) → Half file old new t place e before after left raced → watcher_of new t ≡ watcher_of old t
same_watcher file old new t place e before after left raced half = ap (λ (d : Detected). watcher_of d t) half.rest

pub label_known : (w v : Watched) (label : Label) (cells : List ℕ) → v ≡ w → w.label ≡ Some label → ((this_era : ℕ) → AreInClock this_era w.clock cells) → IsSomeAnd v.label (λ (l : Label). AreInClock l.era v.clock cells)
label_known w v label cells same labelled known = rw (same, labelled) (known label.era)
