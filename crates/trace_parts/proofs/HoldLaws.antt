-- One event more is held.
use Rattle.std.proofs.Common.{◌≡◌, ℕ, zero, suc, ◌≤◌, Bool, true, false, if◌then◌else◌, nat_le, List, [], ◌∷◌, ◌++◌, take, map, refl, sym, ◌∙◌, ap, append_assoc, length-append, arith}
use Rattle.std.proofs.lemmas.List.{take-map}
use Rattle.std.proofs.lemmas.List.Sums.{fold-append}
use Rattle.run_laws.specs.Window.{TraceEvent, words_in, with_event, parts_of_trace}
use Rattle.trace_parts.specs.Snapshot.{Snapshot, nothing_yet, snapshot_after, after_all}
use Rattle.trace_parts.specs.Held.{HeldPart, HeldTrace, events_in, after_part, standing_of, with_pushed, pushed, EndsWithParts, Holds}

take-take : {A : Type 0} → (m n : ℕ) (xs : List A) → m ≤ n → take m (take n xs) ≡ take m xs
take-take zero n xs h = refl
take-take (suc m) zero xs h = absurd (omega arith)
take-take (suc m) (suc n) [] h = refl
take-take (suc m) (suc n) (x ∷ xs) h = ap (λ ys. x ∷ ys) (take-take m n xs (omega arith))

take-cons_take : {A : Type 0} → (n : ℕ) (x : A) (xs : List A) → take n (x ∷ take n xs) ≡ take n (x ∷ xs)
take-cons_take zero x xs = refl
take-cons_take (suc n) x xs = ap (λ ys. x ∷ ys) (take-take n (suc n) xs (omega arith))

-- what was dropped plays no part in the next cut
with_event-take : (size n : ℕ) (parts : List (List TraceEvent)) (e : TraceEvent) → 1 ≤ n → take n (with_event size (take n parts) e) ≡ take n (with_event size parts e)
with_event-take size zero parts e h = absurd (omega arith)
with_event-take size (suc n) [] e h = refl
with_event-take size (suc n) (part ∷ older) e h = by_test (nat_le (words_in 0 (part ++ e ∷ [])) size) n part older e
  where
    by_test : (b : Bool) (n : ℕ) (part : List TraceEvent) (older : List (List TraceEvent)) (e : TraceEvent) → take (suc n) (if b then (part ++ e ∷ []) ∷ take n older else (e ∷ []) ∷ (part ∷ take n older)) ≡ take (suc n) (if b then (part ++ e ∷ []) ∷ older else (e ∷ []) ∷ (part ∷ older))
    by_test true n part older e = ap (λ (ps : List (List TraceEvent)). (part ++ e ∷ []) ∷ ps) (take-take n n older (omega arith))
    by_test false n part older e = ap (λ (ps : List (List TraceEvent)). (e ∷ []) ∷ ps) (take-cons_take n part older)

-- the parts are cut as the definition of a thread's trace has it
pub events_in-with_pushed : (size : ℕ) (held : List HeldPart) (e : TraceEvent) → map events_in (with_pushed size held e) ≡ with_event size (map events_in held) e
events_in-with_pushed size [] e = refl
events_in-with_pushed size (part ∷ older) e = by_test (nat_le (words_in 0 (part.events ++ e ∷ [])) size) part older e
  where
    by_test :
        (b : Bool) (part : HeldPart) (older : List HeldPart) (e : TraceEvent) →
        map events_in (if b then record { snapshot = part.snapshot; events = part.events ++ e ∷ [] } ∷ older else record { snapshot = after_part part; events = e ∷ [] } ∷ part ∷ older)
        ≡ (if b then (part.events ++ e ∷ []) ∷ map events_in older else (e ∷ []) ∷ (part.events ∷ map events_in older))
    by_test true part older e = refl
    by_test false part older e = refl

ends-take : (n : ℕ) (held : List HeldPart) (events : List TraceEvent) → EndsWithParts held events → EndsWithParts (take n held) events
ends-take zero held events h = tt
ends-take (suc n) [] events h = tt
ends-take (suc n) (part ∷ older) events h = (h.0, h.1, h.2, ends-take n older h.0 h.3)

ends-push : (size : ℕ) (held : List HeldPart) (events : List TraceEvent) (e : TraceEvent) → (held ≡ [] → events ≡ []) → EndsWithParts held events → EndsWithParts (with_pushed size held e) (events ++ e ∷ [])
ends-push size [] events e none h = (events, refl, sym (ap (after_all nothing_yet) (none refl)), tt)
ends-push size (part ∷ older) events e none h =
    by_test (nat_le (words_in 0 (part.events ++ e ∷ [])) size)
    (h.0, ap (λ (xs : List TraceEvent). xs ++ e ∷ []) h.1 ∙ append_assoc h.0 part.events (e ∷ []), h.2, h.3)
    (events, refl, ap (λ (s : Snapshot). after_all s part.events) h.2 ∙ sym (fold-append snapshot_after nothing_yet h.0 part.events) ∙ sym (ap (after_all nothing_yet) h.1), h)
  where
    by_test :
        (b : Bool) → EndsWithParts (record { snapshot = part.snapshot; events = part.events ++ e ∷ [] } ∷ older) (events ++ e ∷ []) → EndsWithParts (record { snapshot = after_part part; events = e ∷ [] } ∷ part ∷ older) (events ++ e ∷ []) →
        EndsWithParts (if b then record { snapshot = part.snapshot; events = part.events ++ e ∷ [] } ∷ older else record { snapshot = after_part part; events = e ∷ [] } ∷ part ∷ older) (events ++ e ∷ [])
    by_test true here there = here
    by_test false here there = there

with_pushed-some : (size n : ℕ) (held : List HeldPart) (e : TraceEvent) → 1 ≤ n → take n (with_pushed size held e) ≡ [] → ⊥
with_pushed-some size zero held e n h = absurd (omega arith)
with_pushed-some size (suc n) [] e one h = cc
with_pushed-some size (suc n) (part ∷ older) e one h = by_test (nat_le (words_in 0 (part.events ++ e ∷ [])) size) h
  where
    by_test : (b : Bool) → take (suc n) (if b then record { snapshot = part.snapshot; events = part.events ++ e ∷ [] } ∷ older else record { snapshot = after_part part; events = e ∷ [] } ∷ part ∷ older) ≡ [] → ⊥
    by_test true h = cc
    by_test false h = cc

-- the trace with one more event holds one more
pub holds-push : (trace : HeldTrace) (events : List TraceEvent) (e : TraceEvent) → 1 ≤ trace.parts → Holds trace events → Holds (pushed trace e) (events ++ e ∷ [])
holds-push trace events e one holds =
    let size = trace.part_words in
    let n = trace.parts in
    record {
      parts_held =
          sym (take-map events_in n (with_pushed size trace.held e)) ∙ ap (take n) (events_in-with_pushed size trace.held e) ∙ ap (λ (parts : List (List TraceEvent)). take n (with_event size parts e)) holds.parts_held
          ∙ with_event-take size n (parts_of_trace size events) e one ∙ sym (ap (take n) (fold-append (with_event size) [] events (e ∷ [])));
      ends = ends-take n (with_pushed size trace.held e) (events ++ e ∷ []) (ends-push size trace.held events e holds.none_yet holds.ends);
      none_yet = λ h. absurd (with_pushed-some size n trace.held e one h);
      counted = omega (arith, holds.counted, length-append events (e ∷ []));
    }

-- what stands then, by one event more
standing-by_test :
    (b : Bool) (part : HeldPart) (older : List HeldPart) (e : TraceEvent) →
    standing_of (if b then record { snapshot = part.snapshot; events = part.events ++ e ∷ [] } ∷ older else record { snapshot = after_part part; events = e ∷ [] } ∷ part ∷ older) ≡ snapshot_after (after_part part) e
standing-by_test true part older e = fold-append snapshot_after part.snapshot part.events (e ∷ [])
standing-by_test false part older e = refl

standing-with_pushed : (size : ℕ) (held : List HeldPart) (e : TraceEvent) → standing_of (with_pushed size held e) ≡ snapshot_after (standing_of held) e
standing-with_pushed size [] e = refl
standing-with_pushed size (part ∷ older) e = standing-by_test (nat_le (words_in 0 (part.events ++ e ∷ [])) size) part older e

standing-take : (n : ℕ) (held : List HeldPart) → 1 ≤ n → standing_of (take n held) ≡ standing_of held
standing-take zero held h = absurd (omega arith)
standing-take (suc n) [] h = refl
standing-take (suc n) (part ∷ older) h = refl

pub standing-pushed : (trace : HeldTrace) (e : TraceEvent) → 1 ≤ trace.parts → standing_of (pushed trace e).held ≡ snapshot_after (standing_of trace.held) e
standing-pushed trace e one = standing-take trace.parts (with_pushed trace.part_words trace.held e) one ∙ standing-with_pushed trace.part_words trace.held e
