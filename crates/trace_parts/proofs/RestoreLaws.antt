-- A walk through the held parts, the oldest first.
use Rattle.std.proofs.Common.{◌≡◌, ℕ, zero, suc, ◌-◌, ◌<◌, ◌≤◌, List, [], ◌∷◌, ◌++◌, length, take, map, get_or, Option, Some, None, refl, sym, ◌∙◌, ap, subst, append_assoc, arith}
use Rattle.std.specs.Prelude.{unwrap_or}
use Rattle.std.specs.Option.{option_map, option_or}
use Rattle.std.proofs.lemmas.List.{map-append, append-nil, take_all}
use Rattle.run_record.specs.declared.entry.Label.{Label}
use Rattle.run_laws.specs.Window as window
use Rattle.trace_parts.specs.declared.ring.Part.{Part}
use Rattle.trace_parts.specs.declared.ring.Ring.{Ring}
use Rattle.trace_parts.specs.declared.restored.Restored.{Restored}
use Rattle.trace_parts.specs.declared.restored.Restored.TheVariants.{Lost}
use Rattle.trace_parts.specs.Spelling.{told}
use Rattle.trace_parts.specs.Snapshot.{Snapshot, snapshot_after, after_all, with_label}
use Rattle.trace_parts.specs.Held.{HeldPart}
use Rattle.trace_parts.specs.Part.{snapshot_of, told_from, held_part, held_parts, held_in, IsPart, ArePartsOf, LeadTo, BeginsEmpty, oldest_of}
use Rattle.trace_parts.specs.Sought.{Seen, is_under, told_of, told_if, restored, without_label, start_of, events_of_parts, first_held}
use Rattle.trace_parts.proofs.WordLaws.{events_from-nil}
use Rattle.trace_parts.proofs.SeekLaws.{first_told, first_told-cons}
use Rattle.trace_parts.proofs.UnderLaws.{same_under, same_frames, same_locks}

option_or-assoc : {T : Type 0} → (a b c : Option T) → option_or a (option_or b c) ≡ option_or (option_or a b) c
option_or-assoc None b c = refl
option_or-assoc (Some x) b c = refl

-- the first of some events, or else of those behind
pub first_told-append : (l : Label) (address word : ℕ) (s : Snapshot) (xs ys : List window.TraceEvent) → first_told l address word s (xs ++ ys) ≡ option_or (first_told l address word s xs) (first_told l address word (after_all s xs) ys)
first_told-append l address word s [] ys = refl
first_told-append l address word s (x ∷ xs) ys =
    let t = told_if l address word s x in
    let u = first_told l address word (snapshot_after s x) xs in
    let v = first_told l address word (after_all s (x ∷ xs)) ys in
    first_told-cons l address word s x (xs ++ ys) ∙ ap (option_or t) (first_told-append l address word (snapshot_after s x) xs ys) ∙ option_or-assoc t u v
    ∙ ap (λ (o : Option Restored). option_or o v) (sym (first_told-cons l address word s x xs))

-- the events of the first n of the older parts, and of the current one
abbrev pub events_left : ℕ → List Part → Part → List window.TraceEvent
events_left n older current = events_of_parts (map held_part (take n older)) ++ told_from current.words.items

abbrev pub start_in : Ring → Snapshot
start_in ring = without_label (snapshot_of (oldest_of ring.current ring.older.items).before)

-- what is told of all of them
abbrev pub told_in : Label → ℕ → ℕ → Ring → Option Restored
told_in l address word ring = first_told l address word (start_in ring) (events_left (length ring.older.items) ring.older.items ring.current)

events_of_parts-append : (parts : List HeldPart) (part : HeldPart) → events_of_parts (parts ++ part ∷ []) ≡ part.events ++ events_of_parts parts
events_of_parts-append [] part = sym (append-nil part.events)
events_of_parts-append (newer ∷ parts) part =
    ap (λ (es : List window.TraceEvent). es ++ newer.events) (events_of_parts-append parts part) ∙ append_assoc part.events (events_of_parts parts) newer.events

take-last : (n : ℕ) (older : List Part) (part : Part) → n < length older → part ≡ get_or older n part → take (suc n) older ≡ take n older ++ part ∷ []
take-last n [] part l h = absurd (omega arith)
take-last zero (x ∷ older) part l h = ap (λ (p : Part). p ∷ []) (sym h)
take-last (suc n) (x ∷ older) part l h = ap (λ (ps : List Part). x ∷ ps) (take-last n older part (omega arith) h)

-- the oldest of those left comes first
events_left-suc : (n : ℕ) (older : List Part) (current part : Part) → n < length older → part ≡ get_or older n part → events_left (suc n) older current ≡ told_from part.words.items ++ events_left n older current
events_left-suc n older current part l h =
    let rest = told_from current.words.items in
    ap (λ (ps : List Part). events_of_parts (map held_part ps) ++ rest) (take-last n older part l h)
    ∙ ap (λ (ps : List HeldPart). events_of_parts ps ++ rest) (map-append held_part (take n older) (part ∷ []))
    ∙ ap (λ (es : List window.TraceEvent). es ++ rest) (events_of_parts-append (map held_part (take n older)) (held_part part))
    ∙ append_assoc (told_from part.words.items) (events_of_parts (map held_part (take n older))) rest

pub ArePartsOf-at : (size n : ℕ) (older : List Part) (part : Part) → ArePartsOf size older → n < length older → part ≡ get_or older n part → IsPart size part
ArePartsOf-at size n [] part are l h = absurd (omega arith)
ArePartsOf-at size zero (x ∷ older) part are l h = subst (IsPart size) (sym h) are.0
ArePartsOf-at size (suc n) (x ∷ older) part are l h = ArePartsOf-at size n older part are.1 (omega arith) h

-- the newest part but n: the current one, and then the older ones
abbrev pub part_left : ℕ → List Part → Part → Part
part_left zero older current = current
part_left (suc n) [] current = current
part_left (suc n) (part ∷ older) current = part_left n older part

part_left-oldest : (older : List Part) (current : Part) → part_left (length older) older current ≡ oldest_of current older
part_left-oldest [] current = refl
part_left-oldest (part ∷ older) current = part_left-oldest older part

part_left-at : (n : ℕ) (older : List Part) (current part : Part) → n < length older → part ≡ get_or older n part → part ≡ part_left (suc n) older current
part_left-at n [] current part l h = absurd (omega arith)
part_left-at zero (x ∷ older) current part l h = h
part_left-at (suc n) (x ∷ older) current part l h = part_left-at n older x part (omega arith) h

-- the part before the newest but n leaves what stands before that one
leads_to : (n : ℕ) (older : List Part) (current part : Part) → LeadTo (snapshot_of current.before) older → n < length older → part ≡ get_or older n part → snapshot_of (part_left n older current).before ≡ after_all (snapshot_of part.before) (told_from part.words.items)
leads_to n [] current part lead l h = absurd (omega arith)
leads_to zero (x ∷ older) current part lead l h = lead.0 ∙ ap (λ (p : Part). after_all (snapshot_of p.before) (told_from p.words.items)) (sym h)
leads_to (suc n) (x ∷ older) current part lead l h = leads_to n older x part lead.1 (omega arith) h

-- what stands before the newest part but n, under another label
abbrev pub start_at : Option Label → ℕ → Ring → Snapshot
start_at label n ring = with_label label (snapshot_of (part_left n ring.older.items ring.current).before)

-- what is told of that part and those behind it
abbrev pub told_left : Label → ℕ → ℕ → Option Label → ℕ → Ring → Option Restored
told_left l address word label n ring = first_told l address word (start_at label n ring) (events_left n ring.older.items ring.current)

-- at the beginning all is left
pub parts_first : (l : Label) (address word n : ℕ) (ring : Ring) (label : Option Label) → label ≡ None → n ≡ length ring.older.items → told_left l address word label n ring ≡ told_in l address word ring
parts_first l address word n ring label none all =
    ap (λ (m : ℕ). told_left l address word label m ring) all ∙ ap (λ (o : Option Label). told_left l address word o (length ring.older.items) ring) none
    ∙ ap (λ (part : Part). first_told l address word (without_label (snapshot_of part.before)) (events_left (length ring.older.items) ring.older.items ring.current)) (part_left-oldest ring.older.items ring.current)

-- the events of a part come before those that are left behind it
left_from : (l : Label) (address word n : ℕ) (ring : Ring) (label : Option Label) (part : Part) → n < length ring.older.items → part ≡ get_or ring.older.items n part →
    let s = with_label label (snapshot_of part.before) in
    let xs = told_from part.words.items in
    told_left l address word label (suc n) ring ≡ option_or (first_told l address word s xs) (first_told l address word (after_all s xs) (events_left n ring.older.items ring.current))
left_from l address word n ring label part below at =
    let s = with_label label (snapshot_of part.before) in
    let xs = told_from part.words.items in
    let older = ring.older.items in
    ap (λ (p : Part). first_told l address word (with_label label (snapshot_of p.before)) (events_left (suc n) older ring.current)) (sym (part_left-at n older ring.current part below at))
    ∙ ap (first_told l address word s) (events_left-suc n older ring.current part below at) ∙ first_told-append l address word s xs (events_left n older ring.current)

-- a part has it
pub parts_found :
    (l : Label) (address word n : ℕ) (ring : Ring) (label : Option Label) (part : Part) (found : Restored) → 0 < n → n ≤ length ring.older.items → part ≡ get_or ring.older.items (n - 1) part → told_left l address word label n ring ≡ told_in l address word ring →
    Some found ≡ first_told l address word (with_label label (snapshot_of part.before)) (told_from part.words.items) → Some found ≡ told_in l address word ring
parts_found l address word zero ring label part found some within at left it = absurd (omega arith)
parts_found l address word (suc n) ring label part found some within at left it =
    let s = with_label label (snapshot_of part.before) in
    let less : suc n - 1 ≡ n = omega arith in
    let here : part ≡ get_or ring.older.items n part = rw less at at in
    ap (λ (o : Option Restored). option_or o (first_told l address word (after_all s (told_from part.words.items)) (events_left n ring.older.items ring.current))) it
    ∙ sym (left_from l address word n ring label part (omega arith) here) ∙ left

-- a part doesn't have it
pub parts_on :
    (l : Label) (address word n : ℕ) (ring : Ring) (label next : Option Label) (part : Part) → LeadTo (snapshot_of ring.current.before) ring.older.items → 0 < n → n ≤ length ring.older.items → part ≡ get_or ring.older.items (n - 1) part →
    told_left l address word label n ring ≡ told_in l address word ring → None ≡ first_told l address word (with_label label (snapshot_of part.before)) (told_from part.words.items) →
    is_under l next ≡ is_under l (after_all (with_label label (snapshot_of part.before)) (told_from part.words.items)).label → told_left l address word next (n - 1) ring ≡ told_in l address word ring
parts_on l address word zero ring label next part lead some within at left other under = absurd (omega arith)
parts_on l address word (suc n) ring label next part lead some within at left other under =
    let older = ring.older.items in
    let rest = events_left n older ring.current in
    let s = with_label label (snapshot_of part.before) in
    let xs = told_from part.words.items in
    let less : suc n - 1 ≡ n = omega arith in
    let here : part ≡ get_or older n part = rw less at at in
    let before = leads_to n older ring.current part lead (omega arith) here in
    let frames : (start_at next n ring).frames ≡ (after_all s xs).frames = ap (λ (t : Snapshot). t.frames) before ∙ same_frames (snapshot_of part.before) s xs refl in
    let locks : (start_at next n ring).locks ≡ (after_all s xs).locks = ap (λ (t : Snapshot). t.locks) before ∙ same_locks (snapshot_of part.before) s xs refl in
    rw less
    (same_under l address word (start_at next n ring) (after_all s xs) rest frames locks under ∙ ap (λ (o : Option Restored). option_or o (first_told l address word (after_all s xs) rest)) other
    ∙ sym (left_from l address word n ring label part (omega arith) here) ∙ left)

-- the current part has it, or nothing does
pub parts_last : (l : Label) (address word n : ℕ) (ring : Ring) (label : Option Label) (found : Option Restored) → n ≤ 0 → told_left l address word label n ring ≡ told_in l address word ring →
    found ≡ first_told l address word (with_label label (snapshot_of ring.current.before)) (told_from ring.current.words.items) → found ≡ told_in l address word ring
parts_last l address word zero ring label found none left it = it ∙ left
parts_last l address word (suc n) ring label found none left it = absurd (omega arith)

start_of-held : (current : Part) (older : List Part) → start_of (held_part current ∷ map held_part older) ≡ snapshot_of (oldest_of current older).before
start_of-held current [] = refl
start_of-held current (part ∷ older) = start_of-held part older

pub restored-is : (o : Option Seen) → restored o ≡ unwrap_or (option_map told_of o) Lost
restored-is None = refl
restored-is (Some seen) = refl

begun_told : (l : Label) (address word : ℕ) (ring : Ring) → option_map told_of (first_held (held_part ring.current ∷ map held_part ring.older.items) l address word) ≡ told_in l address word ring
begun_told l address word ring =
    let older = ring.older.items in
    ap (λ (s : Snapshot). first_told l address word (without_label s) (events_of_parts (map held_part older) ++ told_from ring.current.words.items)) (start_of-held ring.current older)
    ∙ ap (λ (ps : List Part). first_told l address word (start_in ring) (events_of_parts (map held_part ps) ++ told_from ring.current.words.items)) (sym (take_all (length older) older (omega arith)))

-- what is told of the parts in memory is told of the parts that are held
held_told : (l : Label) (address word : ℕ) (words : List ℕ) (ring : Ring) → ring.current.words.items ≡ words → BeginsEmpty ring → option_map told_of (first_held (held_in ring) l address word) ≡ told_in l address word ring
held_told l address word [] ring w begins =
    let none : told_from ring.current.words.items ≡ [] = ap told_from w ∙ ap (map told) (events_from-nil 0) in
    ap (λ (ws : List ℕ). option_map told_of (first_held (held_parts ws ring.current ring.older.items) l address word)) w
    ∙ sym (ap (first_told l address word (start_in ring)) (ap (λ (ps : List Part). events_left (length ps) ps ring.current) (begins.older w) ∙ none))
held_told l address word (v ∷ ws) ring w begins =
    ap (λ (us : List ℕ). option_map told_of (first_held (held_parts us ring.current ring.older.items) l address word)) w ∙ begun_told l address word ring

pub told_is_restored : (l : Label) (address word : ℕ) (ring : Ring) (found : Restored) → BeginsEmpty ring → Some found ≡ told_in l address word ring → found ≡ restored (first_held (held_in ring) l address word)
told_is_restored l address word ring found begins it =
    ap (λ (o : Option Restored). unwrap_or o Lost) (it ∙ sym (held_told l address word ring.current.words.items ring refl begins)) ∙ sym (restored-is (first_held (held_in ring) l address word))

pub lost_is_restored : (l : Label) (address word : ℕ) (ring : Ring) → BeginsEmpty ring → None ≡ told_in l address word ring → Lost ≡ restored (first_held (held_in ring) l address word)
lost_is_restored l address word ring begins it =
    ap (λ (o : Option Restored). unwrap_or o Lost) (it ∙ sym (held_told l address word ring.current.words.items ring refl begins)) ∙ sym (restored-is (first_held (held_in ring) l address word))
