-- A walk through the events of words.
use Rattle.std.proofs.Common.{◌≡◌, ℕ, ◌+◌, ◌^◌, ◌<◌, ◌≤◌, ◌==◌, Bool, true, false, if◌then◌else◌, List, [], ◌∷◌, ◌++◌, length, drop, map, Option, Some, None, refl, sym, ◌∙◌, ap, subst, length-append, arith}
use Rattle.std.specs.Prelude.{find}
use Rattle.std.specs.Option.{option_map, option_or, option_map_or}
use Rattle.std.specs.List.{list_all}
use Rattle.std.proofs.lemmas.Bool.{false≢true, eqb-true, and_parts, and_right}
use Rattle.std.proofs.Math.Seq.{drop-append_seam}
use Rattle.run_record.specs.declared.entry.Label.{Label}
use Rattle.run_laws.specs.Window as window
use Rattle.trace_parts.specs.declared.event.TraceEvent.{TraceEvent}
use Rattle.trace_parts.specs.Spelling.{is_traceable, spelling, told, kind_of, words_of_kind, fields_at}
use Rattle.trace_parts.specs.Snapshot.{Snapshot, snapshot_after, after_all}
use Rattle.trace_parts.specs.Part.{place_then, spelled, events_from, IsSpelled, told_from}
use Rattle.trace_parts.specs.declared.restored.Restored.{Restored}
use Rattle.trace_parts.specs.Sought.{Seen, seen_from, is_sought, is_under, access_in, told_of, told_if}
use Rattle.trace_parts.proofs.ReadBack.{fields_back, length-by_kind, no_access-by_kind}
use Rattle.trace_parts.proofs.WordLaws.{AllTraceable, length-spelling, words_of-bounds, place_then-fits, spelled-cons, spelled-nil, events_from-nil, events_from-spelled, first_events-traceable}

-- what is told of the first sought access, and what stands in the end
abbrev pub first_told : Label → ℕ → ℕ → Snapshot → List window.TraceEvent → Option Restored
first_told l address word s events = option_map told_of (find (is_sought l address word) (seen_from s events))

-- The words left, read from that place on and from what stands, have what the whole words have from the
-- beginning.
pub record SeeksOn (l : Label) (address word previous : ℕ) (rest : List ℕ) (now : Snapshot) (words : List ℕ) (start : Snapshot) : Type 0 where
  pub fits : previous < 2 ^ 64
  pub is_spelled : IsSpelled previous rest
  pub same_found : first_told l address word now (map told (events_from previous rest)) ≡ first_told l address word start (told_from words)
  pub same_end : after_all now (map told (events_from previous rest)) ≡ after_all start (told_from words)

-- The first of the spelled events, and how many words it takes.
pub record Reads (p : ℕ) (words : List ℕ) (e : TraceEvent) (n : ℕ) : Type 0 where
  pub is_next : events_from p words ≡ e ∷ events_from (place_then p e) (drop n words)
  pub rest_spelled : IsSpelled (place_then p e) (drop n words)
  pub some : 1 ≤ n
  pub within : n ≤ length words
  pub traceable : is_traceable e ≡ true

-- spelled words with a first event
begins_with : (p : ℕ) (words : List ℕ) (e : TraceEvent) (es : List TraceEvent) → IsSpelled p words → events_from p words ≡ e ∷ es → words ≡ spelling p e ++ spelled (place_then p e) es
begins_with p words e es h eq = sym h ∙ ap (spelled p) eq ∙ spelled-cons p e es

traceable_parts : (p : ℕ) (words : List ℕ) (e : TraceEvent) (es : List TraceEvent) → events_from p words ≡ e ∷ es → (is_traceable e ≡ true) × AllTraceable es
traceable_parts p words e es eq = and_parts (is_traceable e) (list_all is_traceable es) (subst AllTraceable eq (first_events-traceable (length words) p words))

reads_first : (p : ℕ) (words : List ℕ) (e : TraceEvent) (es : List TraceEvent) → p < 2 ^ 64 → IsSpelled p words → events_from p words ≡ e ∷ es → Reads p words e (length (spelling p e))
reads_first p words e es hp h eq =
    let n = length (spelling p e) in
    let q = place_then p e in
    let w = begins_with p words e es h eq in
    let t = traceable_parts p words e es eq in
    let rest : drop n words ≡ spelled q es = ap (drop n) w ∙ drop-append_seam (spelling p e) (spelled q es) in
    let read : events_from q (spelled q es) ≡ es = events_from-spelled q es (place_then-fits p e hp t.0) t.1 in
    record {
      is_next = eq ∙ ap (λ (xs : List TraceEvent). e ∷ xs) (sym (ap (events_from q) rest ∙ read));
      rest_spelled = subst (IsSpelled q) (sym rest) (ap (spelled q) read);
      some = omega (arith, length-spelling p e, (words_of-bounds p e).0);
      within = omega (arith, ap length w, length-append (spelling p e) (spelled q es));
      traceable = t.0;
    }

no_events : (p : ℕ) (words : List ℕ) → IsSpelled p words → events_from p words ≡ [] → words ≡ []
no_events p words h eq = sym h ∙ ap (spelled p) eq ∙ spelled-nil p

-- The first of the spelled events is in the fields, and its kind tells how many words it takes.
pub record ReadsFirst (p : ℕ) (words : List ℕ) : Type 0 where
  pub event : TraceEvent
  pub fields : fields_at p words ≡ Some event
  pub reads : Reads p words event (words_of_kind (kind_of words))
  pub no_access : 2 < kind_of words → (access_in (told event) ≡ None) × (place_then p event ≡ p)

pub first_read : (p : ℕ) (words : List ℕ) → p < 2 ^ 64 → IsSpelled p words → 0 < length words → ReadsFirst p words
first_read p words hp h some = by_events (events_from p words) refl
  where
    by_events : (es : List TraceEvent) → events_from p words ≡ es → ReadsFirst p words
    by_events [] eq = absurd (omega (arith, ap length (no_events p words h eq)))
    by_events (e ∷ es) eq =
        let tail = spelled (place_then p e) es in
        let t = (traceable_parts p words e es eq).0 in
        let w : words ≡ spelling p e ++ tail = begins_with p words e es h eq in
        record {
          event = e;
          fields = ap (fields_at p) w ∙ fields_back p e tail hp t;
          reads = subst (Reads p words e) (length-by_kind p e tail t ∙ sym (ap (λ (ws : List ℕ). words_of_kind (kind_of ws)) w)) (reads_first p words e es hp h eq);
          no_access = λ k. no_access-by_kind p e tail t (subst (λ (ws : List ℕ). 2 < kind_of ws) w k);
        }

-- the first of some events is told, or else the first of the rest
pub first_told-cons : (l : Label) (address word : ℕ) (s : Snapshot) (e : window.TraceEvent) (es : List window.TraceEvent) → first_told l address word s (e ∷ es) ≡ option_or (told_if l address word s e) (first_told l address word (snapshot_after s e) es)
first_told-cons l address word s e es = by_test (is_sought l address word (seen s e)) (seen s e) (find (is_sought l address word) (seen_from (snapshot_after s e) es))
  where
    seen : Snapshot → window.TraceEvent → Seen
    seen s e = record { before = s; event = e }

    by_test : (b : Bool) (x : Seen) (o : Option Seen) → option_map told_of (if b then Some x else o) ≡ option_or (if b then Some (told_of x) else None) (option_map told_of o)
    by_test true x o = refl
    by_test false x o = refl

seen_first : (l : Label) (address word p n : ℕ) (rest : List ℕ) (e : TraceEvent) (now : Snapshot) → Reads p rest e n →
    first_told l address word now (map told (events_from p rest)) ≡ option_or (told_if l address word now (told e)) (first_told l address word (snapshot_after now (told e)) (map told (events_from (place_then p e) (drop n rest))))
seen_first l address word p n rest e now reads =
    ap (λ (es : List TraceEvent). first_told l address word now (map told es)) reads.is_next ∙ first_told-cons l address word now (told e) (map told (events_from (place_then p e) (drop n rest)))

-- the event is the one
pub seeks_found :
    (l : Label) (address word p n : ℕ) (rest : List ℕ) (e : TraceEvent) (now : Snapshot) (words : List ℕ) (start : Snapshot) (found : Restored) → SeeksOn l address word p rest now words start → Reads p rest e n → Some found ≡ told_if l address word now (told e) →
    Some found ≡ first_told l address word start (told_from words)
seeks_found l address word p n rest e now words start found seeks reads it =
    ap (λ (o : Option Restored). option_or o (first_told l address word (snapshot_after now (told e)) (map told (events_from (place_then p e) (drop n rest))))) it ∙ sym (seen_first l address word p n rest e now reads) ∙ seeks.same_found

-- the event isn't the one
pub seeks_on :
    (l : Label) (address word p n q : ℕ) (rest : List ℕ) (e : TraceEvent) (now next : Snapshot) (words : List ℕ) (start : Snapshot) → SeeksOn l address word p rest now words start → Reads p rest e n → None ≡ told_if l address word now (told e) →
    next ≡ snapshot_after now (told e) → q ≡ place_then p e → SeeksOn l address word q (drop n rest) next words start
seeks_on l address word p n q rest e now next words start seeks reads other noted placed =
    let after : SeeksOn l address word (place_then p e) (drop n rest) (snapshot_after now (told e)) words start =
    record {
      fits = place_then-fits p e seeks.fits reads.traceable;
      is_spelled = reads.rest_spelled;
      same_found =
          ap (λ (o : Option Restored). option_or o (first_told l address word (snapshot_after now (told e)) (map told (events_from (place_then p e) (drop n rest))))) other ∙ sym (seen_first l address word p n rest e now reads) ∙ seeks.same_found;
      same_end = sym (ap (λ (es : List TraceEvent). after_all now (map told es)) reads.is_next) ∙ seeks.same_end;
    }
    in
    subst (λ (s : Snapshot). SeeksOn l address word q (drop n rest) s words start) (sym noted) (subst (λ (m : ℕ). SeeksOn l address word m (drop n rest) (snapshot_after now (told e)) words start) (sym placed) after)

pub some_left : (words : List ℕ) (b : Bool) → b ≡ (length words == 0) → b ≡ false → 0 < length words
some_left [] b is h = absurd (false≢true (sym h ∙ is))
some_left (w ∷ words) b is h = omega arith

pub none_left : (words : List ℕ) (b : Bool) → b ≡ (length words == 0) → b ≡ true → length words ≡ 0
none_left words b is h = eqb-true (length words) 0 (sym is ∙ h)

-- nothing is told of an event that is no access
pub told_if-no_access : (l : Label) (address word : ℕ) (s : Snapshot) (e : window.TraceEvent) → access_in e ≡ None → None ≡ told_if l address word s e
told_if-no_access l address word s e h = rw (h, and_right (is_under l s.label) false refl) refl

-- no event is left
pub seeks_none : (l : Label) (address word p : ℕ) (rest : List ℕ) (now : Snapshot) (words : List ℕ) (start : Snapshot) → SeeksOn l address word p rest now words start → length rest ≡ 0 → (None ≡ first_told l address word start (told_from words)) × (now ≡ after_all start (told_from words))
seeks_none l address word p [] now words start seeks none = (
  sym (ap (λ (es : List TraceEvent). first_told l address word now (map told es)) (events_from-nil p)) ∙ seeks.same_found,
  sym (ap (λ (es : List TraceEvent). after_all now (map told es)) (events_from-nil p)) ∙ seeks.same_end,
)
seeks_none l address word p (x ∷ rest) now words start seeks none = absurd (omega arith)
