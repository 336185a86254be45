-- A ring goes on being one, and holds one event more.
use Rattle.std.proofs.Common.{◌≡◌, ℕ, zero, suc, ◌+◌, ◌-◌, ◌<◌, ◌≤◌, ◌||◌, Bool, true, false, List, [], ◌∷◌, ◌++◌, length, take, map, vec_len, vec_capacity, refl, sym, ◌∙◌, ap, subst, length-append, arith}
use Rattle.std.specs.VecDeque.{deque_len, deque_capacity}
use Rattle.std.specs.declared.collections.VecDeque.{VecDeque}
use Rattle.std.specs.declared.alloc.Global.{Global}
use Rattle.std.specs.Prelude.{Result, Ok, Err, IsOk, OnOk}
use Rattle.std.specs.List.{list_any}
use Rattle.std.proofs.lemmas.Bool.{false≢true, or_from, le-leb, lt-leb}
use Rattle.std.proofs.lemmas.List.Folds.{list_any-append}
use Rattle.std.proofs.lemmas.List.{map-append, take-map, take_all, length-take, length-map}
use Rattle.std.proofs.Math.Numerals.{sub-one}
use Rattle.std.proofs.lemmas.List.Sums.{fold-append}
use Rattle.run_record.specs.declared.entry.Label.{Label}
use Rattle.run_laws.specs.Window as window
use Rattle.run_laws.specs.Window.{words_of, words_in, is_label}
use Rattle.trace_parts.specs.LabelRange.{is_in_range}
use Rattle.trace_parts.specs.declared.event.TraceEvent.{TraceEvent}
use Rattle.trace_parts.specs.declared.standing.Standing.{Standing}
use Rattle.trace_parts.specs.declared.ring.Part.{Part}
use Rattle.trace_parts.specs.declared.ring.Ring.{Ring}
use Rattle.trace_parts.specs.Spelling.{is_traceable, spelling, told}
use Rattle.trace_parts.specs.Snapshot.{Snapshot, nothing_yet, snapshot_after, after_all}
use Rattle.trace_parts.specs.Held.{HeldPart, after_part, standing_of, with_pushed}
use Rattle.trace_parts.specs.Part.{place_then, last_place, spelled, events_from, IsSpelled, snapshot_of, HasRoom, told_from, held_part, held_parts, held_in, IsRangeOf, IsPart, ArePartsOf, LeadTo, NextIsReady, IsRing, BeginsEmpty, Begins, Appends}
use Rattle.trace_parts.proofs.WordLaws.{length-spelling, words_of-bounds, spelled-push, length-spelled, events_from-push, IsSpelled-push, IsSpelled-nil, events_from-nil}

-- a ring whose current part is empty
pub empty_ring :
    (ring : Ring) → 64 ≤ ring.part_words → 2 ≤ ring.parts → ring.spare ≤ 4 → ring.current.words.items ≡ [] → ring.part_words ≤ vec_capacity ring.current.words → ArePartsOf ring.part_words ring.older.items → LeadTo (snapshot_of ring.current.before) ring.older.items → deque_len ring.older < ring.parts →
    ring.parts ≤ deque_capacity ring.older + 1 → ring.previous ≡ 0 → snapshot_of ring.standing ≡ snapshot_of ring.current.before → HasRoom ring.spare ring.standing → IsRing ring
empty_ring ring least_words least_parts few_spare empty room older in_order few older_room previous now now_room =
    let before = snapshot_of ring.current.before in
    let none : vec_len ring.current.words ≡ 0 = ring.current.words.ok.0 ∙ ap length empty in
    let no_events : events_from 0 ring.current.words.items ≡ [] = ap (events_from 0) empty ∙ events_from-nil 0 in
    record {
      least_words = least_words;
      least_parts = least_parts;
      few_spare = few_spare;
      current = record {
        is_spelled = subst (IsSpelled 0) (sym empty) (IsSpelled-nil 0);
        labels = λ l _. ap (λ (es : List TraceEvent). list_any (is_label l) (map told es)) no_events;
        room = room;
      };
      within = omega arith;
      older = older;
      in_order = in_order;
      few = few;
      older_room = older_room;
      previous = previous ∙ sym (ap (last_place 0) no_events);
      now = now ∙ sym (ap (λ (es : List TraceEvent). after_all before (map told es)) no_events);
      now_room = now_room;
      next_room = λ h. absurd (omega arith);
    }

told_from-push : (words : List ℕ) (e : TraceEvent) → IsSpelled 0 words → is_traceable e ≡ true → told_from (words ++ spelling (last_place 0 (events_from 0 words)) e) ≡ told_from words ++ told e ∷ []
told_from-push words e h t = ap (map told) (events_from-push 0 words e (omega arith) h t) ∙ map-append told (events_from 0 words) (e ∷ [])

-- the next part is as ready for one event less
still_ready : (e : TraceEvent) (written : List ℕ) (old new : Ring) → Appends e written old new → NextIsReady old.spare old → NextIsReady new.spare new
still_ready e written old new appends ready =
    let frames : vec_capacity new.next.before.frames ≡ vec_capacity old.next.before.frames = ap (λ (part : Part). vec_capacity part.before.frames) appends.next in
    let locks : vec_capacity new.next.before.locks ≡ vec_capacity old.next.before.locks = ap (λ (part : Part). vec_capacity part.before.locks) appends.next in
    let words : vec_capacity new.next.words ≡ vec_capacity old.next.words = ap (λ (part : Part). vec_capacity part.words) appends.next in
    let older : deque_len new.older ≡ deque_len old.older = ap (λ (q : VecDeque Part Global). deque_len q) appends.older in
    record {
      frames = omega (arith, appends.frames_len, appends.spare, ready.frames);
      locks = omega (arith, appends.locks_len, appends.spare, ready.locks);
      words = λ h. omega (arith, appends.part_words, appends.parts, ready.words (omega (arith, appends.parts)));
    }

out_of_range : (wide narrow : Bool) → (narrow ≡ true → wide ≡ true) → wide ≡ false → narrow ≡ false
out_of_range wide true h out = absurd (false≢true (sym out ∙ h refl))
out_of_range wide false h out = refl

-- the range of a part with one event more
range_on :
    (e : TraceEvent) (old new : Part) → IsRangeOf old.labels (told_from old.words.items) → ((l : Label) → is_label l (told e) ≡ true → is_in_range new.labels l ≡ true) → ((l : Label) → is_in_range old.labels l ≡ true → is_in_range new.labels l ≡ true) →
    told_from new.words.items ≡ told_from old.words.items ++ told e ∷ [] → IsRangeOf new.labels (told_from new.words.items)
range_on e old new range included labels read =
    λ l out.
    ap (list_any (is_label l)) read ∙ list_any-append (is_label l) (told_from old.words.items) (told e ∷ [])
    ∙ or_from (list_any (is_label l) (told_from old.words.items)) (is_label l (told e) || false) (range l (out_of_range (is_in_range new.labels l) (is_in_range old.labels l) (labels l) out))
    (or_from (is_label l (told e)) false (out_of_range (is_in_range new.labels l) (is_label l (told e)) (included l) out) refl)

-- the ring after an event whose words fit
pub appended_ring :
    (e : TraceEvent) (old new : Ring) → IsRing old → Appends e (spelling old.previous e) old new → is_traceable e ≡ true → vec_len old.current.words + length (spelling old.previous e) ≤ old.part_words → IsRing new
appended_ring e old new ring appends traceable fits =
    let p = last_place 0 (events_from 0 old.current.words.items) in
    let words : new.current.words.items ≡ old.current.words.items ++ spelling p e = appends.words ∙ ap (λ (q : ℕ). old.current.words.items ++ spelling q e) ring.previous in
    let read : events_from 0 new.current.words.items ≡ events_from 0 old.current.words.items ++ e ∷ [] = ap (events_from 0) words ∙ events_from-push 0 old.current.words.items e (omega arith) ring.current.is_spelled traceable in
    let read_told : told_from new.current.words.items ≡ told_from old.current.words.items ++ told e ∷ [] = ap told_from words ∙ told_from-push old.current.words.items e ring.current.is_spelled traceable in
    let three : length (spelling old.previous e) ≤ 3 = omega (arith, length-spelling old.previous e, (words_of-bounds old.previous e).1) in
    let longer : vec_len new.current.words ≡ vec_len old.current.words + length (spelling old.previous e) = omega (arith, new.current.words.ok.0, old.current.words.ok.0, ap length appends.words, length-append old.current.words.items (spelling old.previous e)) in
    record {
      least_words = rw appends.part_words ring.least_words;
      least_parts = rw appends.parts ring.least_parts;
      few_spare = omega (arith, appends.spare, ring.few_spare);
      current = record {
        is_spelled = subst (IsSpelled 0) (sym words) (IsSpelled-push 0 old.current.words.items e (omega arith) ring.current.is_spelled traceable);
        labels = range_on e old.current new.current ring.current.labels appends.included appends.labels read_told;
        room = omega (arith, appends.part_words, appends.room, ring.current.room);
      };
      within = omega (arith, appends.part_words);
      older = subst (λ (n : ℕ). ArePartsOf n new.older.items) (sym appends.part_words) (subst (λ (older : VecDeque Part Global). ArePartsOf old.part_words older.items) (sym appends.older) ring.older);
      in_order = subst (λ (before : Standing). LeadTo (snapshot_of before) new.older.items) (sym appends.before) (subst (λ (older : VecDeque Part Global). LeadTo (snapshot_of old.current.before) older.items) (sym appends.older) ring.in_order);
      few = omega (arith, appends.parts, ap (λ (q : VecDeque Part Global). deque_len q) appends.older, ring.few);
      older_room = omega (arith, appends.parts, ap (λ (q : VecDeque Part Global). deque_capacity q) appends.older, ring.older_room);
      previous = appends.previous ∙ ap (λ (q : ℕ). place_then q e) ring.previous ∙ sym (fold-append place_then 0 (events_from 0 old.current.words.items) (e ∷ [])) ∙ sym (ap (last_place 0) read);
      now =
          appends.now ∙ ap (λ (s : Snapshot). snapshot_after s (told e)) ring.now ∙ sym (fold-append snapshot_after (snapshot_of old.current.before) (told_from old.current.words.items) (told e ∷ []))
          ∙ sym (ap (after_all (snapshot_of old.current.before)) read_told) ∙ ap (λ (s : Standing). after_all (snapshot_of s) (told_from new.current.words.items)) (sym appends.before);
      now_room = appends.now_room new.spare (subst (λ (n : ℕ). HasRoom n old.standing) (sym appends.spare) ring.now_room);
      next_room = λ h. still_ready e (spelling old.previous e) old new appends (ring.next_room (omega (arith, appends.part_words, appends.spare)));
    }

held_parts-some : (words : List ℕ) (current : Part) (older : List Part) → 0 < length words → held_parts words current older ≡ held_part current ∷ map held_part older
held_parts-some [] current older h = absurd (omega arith)
held_parts-some (_ ∷ _) current older h = refl

abbrev part_of : Snapshot → List window.TraceEvent → HeldPart
part_of s events = record { snapshot = s; events = events }

same_part : (s t : Snapshot) (xs ys : List window.TraceEvent) → s ≡ t → xs ≡ ys → part_of s xs ≡ part_of t ys
same_part s t xs ys p q = ap (λ (u : Snapshot). part_of u xs) p ∙ ap (part_of t) q

-- The newest part has one event more, where its words fit: here in a part that has begun, and in one that
-- hasn't.
here_begun : (size parts : ℕ) (part : HeldPart) (older : List HeldPart) (e : window.TraceEvent) → words_in 0 (part.events ++ e ∷ []) ≤ size → length older < parts → part_of part.snapshot (part.events ++ e ∷ []) ∷ older ≡ take parts (with_pushed size (part ∷ older) e)
here_begun size parts part older e fits few =
    rw (le-leb (words_in 0 (part.events ++ e ∷ [])) size fits) (sym (take_all parts (part_of part.snapshot (part.events ++ e ∷ []) ∷ older) (omega arith)))

here_unbegun : (size parts : ℕ) (e : window.TraceEvent) → 2 ≤ parts → part_of nothing_yet (e ∷ []) ∷ [] ≡ take parts (with_pushed size [] e)
here_unbegun size parts e two = sym (take_all parts (part_of nothing_yet (e ∷ []) ∷ []) (omega arith))

-- a new part begins, where the words don't fit
beyond : (size parts : ℕ) (part : HeldPart) (older : List HeldPart) (e : window.TraceEvent) → size < words_in 0 (part.events ++ e ∷ []) → 2 ≤ parts → part_of (after_part part) (e ∷ []) ∷ take (parts - 1) (part ∷ older) ≡ take parts (with_pushed size (part ∷ older) e)
beyond size zero part older e full two = absurd (omega arith)
beyond size (suc parts) part older e full two = rw (lt-leb (words_in 0 (part.events ++ e ∷ [])) size full, sub-one) refl

-- how many words a part takes with one event more
words_in-push : (words : List ℕ) (e : TraceEvent) → IsSpelled 0 words → is_traceable e ≡ true → words_in 0 (told_from words ++ told e ∷ []) ≡ length words + length (spelling (last_place 0 (events_from 0 words)) e)
words_in-push words e h t =
    let es = events_from 0 words in
    ap (words_in 0) (sym (map-append told es (e ∷ []))) ∙ sym (length-spelled 0 (es ++ e ∷ [])) ∙ ap length (spelled-push 0 es e) ∙ length-append (spelled 0 es) (spelling (last_place 0 es) e)
    ∙ ap (λ (ws : List ℕ). length ws + length (spelling (last_place 0 es) e)) h

-- what the current part holds after an event
appended_current : (e : TraceEvent) (old new : Ring) → IsRing old → Appends e (spelling old.previous e) old new → is_traceable e ≡ true → held_in new ≡ part_of (snapshot_of old.current.before) (told_from old.current.words.items ++ told e ∷ []) ∷ map held_part old.older.items
appended_current e old new ring appends traceable =
    let p = last_place 0 (events_from 0 old.current.words.items) in
    let words : new.current.words.items ≡ old.current.words.items ++ spelling p e = appends.words ∙ ap (λ (q : ℕ). old.current.words.items ++ spelling q e) ring.previous in
    let some : 0 < length new.current.words.items = omega (arith, ap length words, length-append old.current.words.items (spelling p e), length-spelling p e, (words_of-bounds p e).0) in
    held_parts-some new.current.words.items new.current new.older.items some
    ∙ ap (λ (part : HeldPart). part ∷ map held_part new.older.items) (same_part (snapshot_of new.current.before) (snapshot_of old.current.before) (told_from new.current.words.items) (told_from old.current.words.items ++ told e ∷ []) (ap snapshot_of appends.before) (ap told_from words ∙ told_from-push old.current.words.items e ring.current.is_spelled traceable))
    ∙ ap (λ (q : VecDeque Part Global). part_of (snapshot_of old.current.before) (told_from old.current.words.items ++ told e ∷ []) ∷ map held_part q.items) appends.older

-- the parts after an event whose words fit
pub appended_held :
    (e : TraceEvent) (old new : Ring) (words : List ℕ) → old.current.words.items ≡ words → IsRing old → BeginsEmpty old → Appends e (spelling old.previous e) old new → is_traceable e ≡ true → vec_len old.current.words + length (spelling old.previous e) ≤ old.part_words →
    held_in new ≡ take old.parts (with_pushed old.part_words (held_in old) (told e))
appended_held e old new [] w ring begins appends traceable fits =
    let es : told_from old.current.words.items ≡ [] = ap told_from w ∙ ap (map told) (events_from-nil 0) in
    let unbegun : held_in old ≡ [] = ap (λ (ws : List ℕ). held_parts ws old.current old.older.items) w in
    appended_current e old new ring appends traceable
    ∙ ap (λ (older : List Part). part_of (snapshot_of old.current.before) (told_from old.current.words.items ++ told e ∷ []) ∷ map held_part older) (begins.older w)
    ∙ ap (λ (part : HeldPart). part ∷ []) (same_part (snapshot_of old.current.before) nothing_yet (told_from old.current.words.items ++ told e ∷ []) (told e ∷ []) (begins.nothing w) (ap (λ (xs : List window.TraceEvent). xs ++ told e ∷ []) es))
    ∙ here_unbegun old.part_words old.parts (told e) ring.least_parts
    ∙ sym (ap (λ (held : List HeldPart). take old.parts (with_pushed old.part_words held (told e))) unbegun)
appended_held e old new (v ∷ ws) w ring begins appends traceable fits =
    let p = last_place 0 (events_from 0 old.current.words.items) in
    let begun : held_in old ≡ held_part old.current ∷ map held_part old.older.items = held_parts-some old.current.words.items old.current old.older.items (omega (arith, ap length w)) in
    let within : words_in 0 (told_from old.current.words.items ++ told e ∷ []) ≤ old.part_words = omega (arith, words_in-push old.current.words.items e ring.current.is_spelled traceable, old.current.words.ok.0, ap (λ (q : ℕ). length (spelling q e)) ring.previous) in
    let few : length (map held_part old.older.items) < old.parts = omega (arith, length-map old.older.items held_part, old.older.ok.0, ring.few) in
    appended_current e old new ring appends traceable
    ∙ here_begun old.part_words old.parts (held_part old.current) (map held_part old.older.items) (told e) within few
    ∙ sym (ap (λ (held : List HeldPart). take old.parts (with_pushed old.part_words held (told e))) begun)

ArePartsOf-take : (size n : ℕ) (parts : List Part) → ArePartsOf size parts → ArePartsOf size (take n parts)
ArePartsOf-take size zero parts h = tt
ArePartsOf-take size (suc n) [] h = tt
ArePartsOf-take size (suc n) (part ∷ parts) h = (h.0, ArePartsOf-take size n parts h.1)

LeadTo-take : (next : Snapshot) (n : ℕ) (parts : List Part) → LeadTo next parts → LeadTo next (take n parts)
LeadTo-take next zero parts h = tt
LeadTo-take next (suc n) [] h = tt
LeadTo-take next (suc n) (part ∷ parts) h = (h.0, LeadTo-take (snapshot_of part.before) n parts h.1)

-- the ring whose next part has begun
pub begun_ring : (old new : Ring) → IsRing old → Begins old new → IsRing new
begun_ring old new ring begins =
    empty_ring new
    (rw begins.part_words ring.least_words)
    (rw begins.parts ring.least_parts)
    (rw begins.spare ring.few_spare)
    begins.words
    (omega (arith, begins.part_words, begins.room))
    (subst (λ (n : ℕ). ArePartsOf n new.older.items) (sym begins.part_words) (subst (ArePartsOf old.part_words) (sym begins.older) (ArePartsOf-take old.part_words (old.parts - 1) (old.current ∷ old.older.items) (ring.current, ring.older))))
    (subst (λ (next : Snapshot). LeadTo next new.older.items) (sym begins.before) (subst (LeadTo (snapshot_of old.standing)) (sym begins.older) (LeadTo-take (snapshot_of old.standing) (old.parts - 1) (old.current ∷ old.older.items) (ring.now, ring.in_order))))
    (omega (arith, begins.parts, ring.least_parts, new.older.ok.0, ap length begins.older, length-take (old.parts - 1) (old.current ∷ old.older.items)))
    (omega (arith, begins.parts, begins.older_room, ring.older_room))
    begins.previous
    (ap snapshot_of begins.now ∙ sym begins.before)
    (subst (λ (n : ℕ). HasRoom n new.standing) (sym begins.spare) (subst (HasRoom old.spare) (sym begins.now) ring.now_room))

-- the parts after an event that begins a new one
pub begun_held :
    (e : TraceEvent) (old mid new : Ring) → IsRing old → Begins old mid → Appends e (spelling 0 e) mid new → is_traceable e ≡ true → old.part_words < vec_len old.current.words + length (spelling old.previous e) →
    held_in new ≡ take old.parts (with_pushed old.part_words (held_in old) (told e))
begun_held e old mid new ring begins appends traceable full =
    let p = last_place 0 (events_from 0 old.current.words.items) in
    let es : told_from mid.current.words.items ≡ [] = ap told_from begins.words ∙ ap (map told) (events_from-nil 0) in
    let here : Appends e (spelling mid.previous e) mid new = subst (λ (q : ℕ). Appends e (spelling q e) mid new) (sym begins.previous) appends in
    let some : 0 < length old.current.words.items = omega (arith, ring.least_words, old.current.words.ok.0, length-spelling old.previous e, (words_of-bounds old.previous e).1) in
    let begun : held_in old ≡ held_part old.current ∷ map held_part old.older.items = held_parts-some old.current.words.items old.current old.older.items some in
    let more : old.part_words < words_in 0 (told_from old.current.words.items ++ told e ∷ []) = omega (arith, words_in-push old.current.words.items e ring.current.is_spelled traceable, old.current.words.ok.0, ap (λ (q : ℕ). length (spelling q e)) ring.previous) in
    appended_current e mid new (begun_ring old mid ring begins) here traceable
    ∙ ap (λ (part : HeldPart). part ∷ map held_part mid.older.items) (same_part (snapshot_of mid.current.before) (after_part (held_part old.current)) (told_from mid.current.words.items ++ told e ∷ []) (told e ∷ []) (begins.before ∙ ring.now) (ap (λ (xs : List window.TraceEvent). xs ++ told e ∷ []) es))
    ∙ ap (λ (older : List HeldPart). part_of (after_part (held_part old.current)) (told e ∷ []) ∷ older) (ap (map held_part) begins.older ∙ sym (take-map held_part (old.parts - 1) (old.current ∷ old.older.items)))
    ∙ beyond old.part_words old.parts (held_part old.current) (map held_part old.older.items) (told e) more ring.least_parts
    ∙ sym (ap (λ (held : List HeldPart). take old.parts (with_pushed old.part_words held (told e))) begun)

-- after an event something is held
pub appended_begins : (e : TraceEvent) (old new : Ring) (written : List ℕ) → Appends e written old new → 0 < length written → BeginsEmpty new
appended_begins e old new written appends some =
    let longer : 0 < length new.current.words.items = omega (arith, ap length appends.words, length-append old.current.words.items written) in
    record {
      older = λ h. absurd (omega (arith, ap length h));
      nothing = λ h. absurd (omega (arith, ap length h));
    }

-- the oldest part is one
pub ArePartsOf-last : (size : ℕ) (parts : List Part) (part : Part) → ArePartsOf size (parts ++ part ∷ []) → IsPart size part
ArePartsOf-last size [] part h = h.0
ArePartsOf-last size (other ∷ parts) part h = ArePartsOf-last size parts part h.1

pub take-cons : {A : Type 0} → (n : ℕ) (x : A) (xs : List A) → 2 ≤ n → take (n - 1) (x ∷ xs) ≡ x ∷ take (n - 2) xs
take-cons zero x xs h = absurd (omega arith)
take-cons (suc zero) x xs h = absurd (omega arith)
take-cons (suc (suc n)) x xs h =
    let less : suc (suc n) - 1 ≡ suc n = omega arith in
    let less_two : suc (suc n) - 2 ≡ n = omega arith in
    rw (less, less_two) refl

-- what a result that is Ok says
pub on_ok : {T E P : Type 0} → (r : Result T E) → IsOk r → OnOk r P → P
on_ok (Ok x) is_ok h = h
on_ok (Err e) is_ok h = absurd (false≢true is_ok)

-- what stands now is what stands after the held parts
pub standing-ring : (ring : Ring) → IsRing ring → BeginsEmpty ring → snapshot_of ring.standing ≡ standing_of (held_in ring)
standing-ring ring sound begins = go ring.current.words.items refl
  where
    go : (words : List ℕ) → ring.current.words.items ≡ words → snapshot_of ring.standing ≡ standing_of (held_parts words ring.current ring.older.items)
    go [] e = sound.now ∙ ap (λ (ws : List ℕ). after_all (snapshot_of ring.current.before) (told_from ws)) e ∙ ap (λ (es : List TraceEvent). after_all (snapshot_of ring.current.before) (map told es)) (events_from-nil 0) ∙ begins.nothing e
    go (w ∷ ws) e = sound.now
