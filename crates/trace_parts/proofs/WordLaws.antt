-- The words of events one after another, and the events read from them.
use Rattle.std.proofs.Common.{◌≡◌, ℕ, zero, suc, ◌^◌, ◌<◌, ◌≤◌, ◌&&◌, Bool, true, false, if◌then◌else◌, ltb, leb, List, [], ◌∷◌, ◌++◌, length, drop, map, Option, Some, None, refl, sym, ◌∙◌, ap, append_assoc, length-append, arith}
use Rattle.std.specs.List.{list_all}
use Rattle.std.specs.Option.{option_map_or}
use Rattle.std.proofs.lemmas.Bool.{and_parts, and_from, ltb-true}
use Rattle.std.proofs.lemmas.List.{append-nil}
use Rattle.std.proofs.lemmas.List.Folds.{list_all-append}
use Rattle.std.proofs.Math.Seq.{drop-append_seam}
use Rattle.run_laws.specs.Window.{is_short, words_of, words_in}
use Rattle.trace_parts.specs.declared.event.TraceEvent.{TraceEvent}
use Rattle.trace_parts.specs.declared.event.TraceEvent.TheVariants.{Access, Enter, Leave, Lock, Unlock, Label}
use Rattle.trace_parts.specs.Spelling.{is_traceable, spelling, event_at, told}
use Rattle.trace_parts.specs.Part.{place_then, last_place, spelled, first_events, events_from, IsSpelled}
use Rattle.trace_parts.proofs.ReadBack.{event_at-spelling, event_at-traceable}

abbrev pub AllTraceable : List TraceEvent → Type 0
AllTraceable events = list_all is_traceable events ≡ true

pub length-spelling : (p : ℕ) (e : TraceEvent) → length (spelling p e) ≡ words_of p (told e)
unfolding spelling
length-spelling p (Access place addr size read atomic) = short_or_long (is_short p place addr size) _ _ _ _
  where
    short_or_long : (b : Bool) (w v place addr : ℕ) → length (if b then w ∷ [] else v ∷ place ∷ addr ∷ []) ≡ (if b then 1 else 3)
    short_or_long true w v place addr = refl
    short_or_long false w v place addr = refl
length-spelling p (Enter pc) = refl
length-spelling p Leave = refl
length-spelling p (Lock addr read) = refl
length-spelling p (Unlock addr read) = refl
length-spelling p (Label sid epoch era) = refl

-- an event takes one to three words
pub words_of-bounds : (p : ℕ) (e : TraceEvent) → (1 ≤ words_of p (told e)) × (words_of p (told e) ≤ 3)
words_of-bounds p (Access place addr size read atomic) = one_or_three (is_short p place addr size)
  where
    one_or_three : (b : Bool) → (1 ≤ (if b then 1 else 3)) × ((if b then 1 else 3) ≤ 3)
    one_or_three true = (omega arith, omega arith)
    one_or_three false = (omega arith, omega arith)
words_of-bounds p (Enter pc) = (omega arith, omega arith)
words_of-bounds p Leave = (omega arith, omega arith)
words_of-bounds p (Lock addr read) = (omega arith, omega arith)
words_of-bounds p (Unlock addr read) = (omega arith, omega arith)
words_of-bounds p (Label sid epoch era) = (omega arith, omega arith)

pub place_then-fits : (p : ℕ) (e : TraceEvent) → p < 2 ^ 64 → is_traceable e ≡ true → place_then p e < 2 ^ 64
place_then-fits p (Access place addr size read atomic) hp h = ltb-true place (2 ^ 64) (and_parts (leb size 65536) (ltb place (2 ^ 64)) h).1
place_then-fits p (Enter pc) hp h = hp
place_then-fits p Leave hp h = hp
place_then-fits p (Lock addr read) hp h = hp
place_then-fits p (Unlock addr read) hp h = hp
place_then-fits p (Label sid epoch era) hp h = hp

pub last_place-fits : (p : ℕ) (es : List TraceEvent) → p < 2 ^ 64 → AllTraceable es → last_place p es < 2 ^ 64
last_place-fits p [] hp h = hp
last_place-fits p (e ∷ es) hp h =
    let t = and_parts (is_traceable e) (list_all is_traceable es) h in
    last_place-fits (place_then p e) es (place_then-fits p e hp t.0) t.1

pub spelled-cons : (p : ℕ) (e : TraceEvent) (es : List TraceEvent) → spelled p (e ∷ es) ≡ spelling p e ++ spelled (place_then p e) es
unfolding spelled
spelled-cons p e es = refl

-- one more event has its words behind the others'
pub spelled-push : (p : ℕ) (es : List TraceEvent) (e : TraceEvent) → spelled p (es ++ e ∷ []) ≡ spelled p es ++ spelling (last_place p es) e
unfolding spelled
spelled-push p [] e = append-nil (spelling p e)
spelled-push p (x ∷ es) e =
    ap (λ (ws : List ℕ). spelling p x ++ ws) (spelled-push (place_then p x) es e) ∙ sym (append_assoc (spelling p x) (spelled (place_then p x) es) (spelling (last_place (place_then p x) es) e))

pub length-spelled : (p : ℕ) (es : List TraceEvent) → length (spelled p es) ≡ words_in p (map told es)
unfolding spelled
length-spelled p [] = refl
length-spelled p (e ∷ es) = omega (arith, length-append (spelling p e) (spelled (place_then p e) es), length-spelling p e, length-spelled (place_then p e) es)

pub length-le-spelled : (p : ℕ) (es : List TraceEvent) → length es ≤ length (spelled p es)
unfolding spelled
length-le-spelled p [] = omega arith
length-le-spelled p (e ∷ es) =
    omega (arith, length-append (spelling p e) (spelled (place_then p e) es), length-spelling p e, (words_of-bounds p e).0, length-le-spelled (place_then p e) es)

event_at-nil : (p : ℕ) → event_at p [] ≡ None
unfolding event_at
event_at-nil p = refl

-- the events of a spelling, where at least as many are read
pub first_events-spelled : (n p : ℕ) (es : List TraceEvent) → p < 2 ^ 64 → AllTraceable es → length es ≤ n → first_events n p (spelled p es) ≡ es
unfolding first_events spelled
first_events-spelled zero p [] hp h l = refl
first_events-spelled zero p (e ∷ es) hp h l = absurd (omega arith)
first_events-spelled (suc n) p [] hp h l = rw (event_at-nil p) refl
first_events-spelled (suc n) p (e ∷ es) hp h l =
    let t = and_parts (is_traceable e) (list_all is_traceable es) h in
    rw (event_at-spelling p e (spelled (place_then p e) es) hp t.0, drop-append_seam (spelling p e) (spelled (place_then p e) es))
    (ap (λ (xs : List TraceEvent). e ∷ xs) (first_events-spelled n (place_then p e) es (place_then-fits p e hp t.0) t.1 (omega arith)))

pub events_from-spelled : (p : ℕ) (es : List TraceEvent) → p < 2 ^ 64 → AllTraceable es → events_from p (spelled p es) ≡ es
events_from-spelled p es hp h = first_events-spelled (length (spelled p es)) p es hp h (length-le-spelled p es)

-- what is read may be traced
pub first_events-traceable : (n p : ℕ) (words : List ℕ) → AllTraceable (first_events n p words)
unfolding first_events
first_events-traceable zero p words = refl
first_events-traceable (suc n) p words =
    one_more p words (λ (e : TraceEvent). first_events n (place_then p e) (drop (length (spelling p e)) words)) (λ (e : TraceEvent). first_events-traceable n (place_then p e) (drop (length (spelling p e)) words)) (event_at p words) refl
  where
    one_more : (p : ℕ) (words : List ℕ) (more : TraceEvent → List TraceEvent) → ((e : TraceEvent) → AllTraceable (more e)) → (o : Option TraceEvent) → event_at p words ≡ o → AllTraceable (option_map_or (λ (e : TraceEvent). e ∷ more e) o [])
    one_more p words more all None h = refl
    one_more p words more all (Some e) h = and_from (is_traceable e) (list_all is_traceable (more e)) (event_at-traceable p words e h) (all e)

-- one more event, spelled behind the others, is read behind them
pub events_from-push : (p : ℕ) (words : List ℕ) (e : TraceEvent) → p < 2 ^ 64 → IsSpelled p words → is_traceable e ≡ true → events_from p (words ++ spelling (last_place p (events_from p words)) e) ≡ events_from p words ++ e ∷ []
events_from-push p words e hp h t =
    let es = events_from p words in
    let all : AllTraceable (es ++ e ∷ []) = list_all-append is_traceable es (e ∷ []) ∙ and_from (list_all is_traceable es) (is_traceable e && true) (first_events-traceable (length words) p words) (and_from (is_traceable e) true t refl) in
    ap (λ (ws : List ℕ). events_from p (ws ++ spelling (last_place p es) e)) (sym h) ∙ ap (events_from p) (sym (spelled-push p es e)) ∙ events_from-spelled p (es ++ e ∷ []) hp all

pub IsSpelled-push : (p : ℕ) (words : List ℕ) (e : TraceEvent) → p < 2 ^ 64 → IsSpelled p words → is_traceable e ≡ true → IsSpelled p (words ++ spelling (last_place p (events_from p words)) e)
IsSpelled-push p words e hp h t =
    let es = events_from p words in
    ap (spelled p) (events_from-push p words e hp h t) ∙ spelled-push p es e ∙ ap (λ (ws : List ℕ). ws ++ spelling (last_place p es) e) h

pub IsSpelled-nil : (p : ℕ) → IsSpelled p []
unfolding spelled first_events
IsSpelled-nil p = refl

pub events_from-nil : (p : ℕ) → events_from p [] ≡ []
unfolding first_events
events_from-nil p = refl

pub spelled-nil : (p : ℕ) → spelled p [] ≡ []
unfolding spelled
spelled-nil p = refl
