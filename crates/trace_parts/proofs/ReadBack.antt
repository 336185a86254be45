-- Words read back: an event's words give that event, and words that give an event are its own.
use Rattle.std.proofs.Common.{◌≡◌, ℕ, zero, suc, ◌+◌, ◌*◌, ◌/◌, ◌%◌, ◌^◌, ◌<◌, ◌≤◌, ◌==◌, ◌&&◌, ◌||◌, Bool, true, false, if◌then◌else◌, ltb, leb, List, [], ◌∷◌, ◌++◌, length, drop, get_or, Option, Some, None, inl, inr, refl, sym, ◌∙◌, ap, arith}
use Rattle.std.proofs.lemmas.Bool.{eqb-true, ltb-true, leb-true, or_cases, and_parts}
use Rattle.std.proofs.lemmas.Bool.Decides.{Decides-eqb, nat_tests}
use Rattle.std.proofs.lemmas.Slice.Eq.{starts_is}
use Rattle.std.specs.List.{starts_with}
use Rattle.std.specs.Prelude.{nat_eq}
use Rattle.std.specs.Option.{option_map}
use Rattle.run_laws.specs.Window.{distance, is_short, place_after}
use Rattle.run_laws.specs.Words.{bit}
use Rattle.trace_parts.specs.declared.event.TraceEvent.{TraceEvent}
use Rattle.trace_parts.specs.declared.event.TraceEvent.TheVariants.{Access, Enter, Leave, Lock, Unlock, Label}
use Rattle.trace_parts.specs.Sought.{access_in}
use Rattle.trace_parts.specs.Spelling.{told, IsTraceable, is_traceable, power_of, short_word, long_word, lock_word, label_word, spelling, bits, flag, place_from, short_in, long_in, label_in, fields_in, fields_at, kind_of, words_of_kind, if_spelled, event_at, decoded, IsSpelledAt}

-- a word of fields side by side: kind, two flags, power, distance, address
short_fields :
    (r a k d addr : ℕ) → r < 2 → a < 2 → k < 4 → d < 65536 →
    let w = 1 + r * 2 ^ 3 + a * 2 ^ 4 + k * 2 ^ 5 + d * 2 ^ 7 + addr * 2 ^ 23 in
    (bits w 0 3 ≡ 1) × (bits w 3 1 ≡ r) × (bits w 4 1 ≡ a) × (bits w 5 2 ≡ k) × (bits w 7 16 ≡ d) × (w / 2 ^ 23 ≡ addr)
short_fields r a k d addr hr ha hk hd = (omega arith, omega arith, omega arith, omega arith, omega arith, omega arith)

long_fields :
    (r a size : ℕ) → r < 2 → a < 2 → size ≤ 65536 →
    let w = 2 + r * 2 ^ 3 + a * 2 ^ 4 + size * 2 ^ 8 in
    (bits w 0 3 ≡ 2) × (bits w 3 1 ≡ r) × (bits w 4 1 ≡ a) × (bits w 8 17 ≡ size)
long_fields r a size hr ha hs = (omega arith, omega arith, omega arith, omega arith)

lock_fields : (kind r : ℕ) → kind < 8 → r < 2 → (bits (kind + r * 2 ^ 3) 0 3 ≡ kind) × (bits (kind + r * 2 ^ 3) 3 1 ≡ r)
lock_fields kind r hk hr = (omega arith, omega arith)

label_fields :
    (sid epoch era : ℕ) → sid < 256 → epoch ≤ 16383 →
    let w = 7 + sid * 2 ^ 8 + epoch * 2 ^ 16 + era * 2 ^ 32 in
    (bits w 0 3 ≡ 7) × (bits w 8 8 ≡ sid) × (bits w 16 14 ≡ epoch) × (w / 2 ^ 32 ≡ era)
label_fields sid epoch era hs he = (omega arith, omega arith, omega arith, omega arith)

place_back :
    (p place : ℕ) → p < 2 ^ 64 → place < 2 ^ 64 → distance p place % 4 ≡ 0 →
    place_from p (distance p place / 4 * 4) ≡ place
place_back p place hp hq h = omega arith

size_at : (size n : ℕ) → size ≡ n → 2 ^ power_of n ≡ n → 2 ^ power_of size ≡ size
size_at size n e h = rw e h

size_back : (size : ℕ) → ((size == 1) || (size == 2) || (size == 4) || (size == 8)) ≡ true → 2 ^ power_of size ≡ size
size_back size h =
    elim (or_cases ((size == 1) || (size == 2) || (size == 4)) (size == 8) h) [
      | inl below_8 ↦ elim (or_cases ((size == 1) || (size == 2)) (size == 4) below_8) [
        | inl below_4 ↦ elim (or_cases (size == 1) (size == 2) below_4) [
          | inl one ↦ size_at size 1 (eqb-true size 1 one) refl
          | inr two ↦ size_at size 2 (eqb-true size 2 two) refl
        ]
        | inr four ↦ size_at size 4 (eqb-true size 4 four) refl
      ]
      | inr eight ↦ size_at size 8 (eqb-true size 8 eight) refl
    ]

power_small : (size : ℕ) → power_of size < 4
power_small size = grind (arith, nat_tests)

bit_small : (b : Bool) → bit b < 2
bit_small true = omega arith
bit_small false = omega arith

bit_back : (b : Bool) → (bit b == 1) ≡ b
bit_back true = refl
bit_back false = refl

same_access :
    (place place' addr addr' size size' : ℕ) (read read' atomic atomic' : Bool) → place ≡ place' → addr ≡ addr' → size ≡ size' → read ≡ read' → atomic ≡ atomic' →
    Access place addr size read atomic ≡ Access place' addr' size' read' atomic'
same_access place place' addr addr' size size' read read' atomic atomic' p a s r t = cc

-- what is said of an access in one word
record Short (p place addr size : ℕ) : Type 0 where
  sized : ((size == 1) || (size == 2) || (size == 4) || (size == 8)) ≡ true
  low : addr < 2 ^ 41
  whole : distance p place % 4 ≡ 0
  near : distance p place ≤ 262140

short_parts : (p place addr size : ℕ) → is_short p place addr size ≡ true → Short p place addr size
short_parts p place addr size h =
    let sized = ((size == 1) || (size == 2) || (size == 4) || (size == 8)) in
    let low = ltb addr (2 ^ 41) in
    let whole = distance p place % 4 == 0 in
    let near = leb (distance p place) 262140 in
    let last = and_parts (sized && low && whole) near h in
    let third = and_parts (sized && low) whole last.0 in
    let second = and_parts sized low third.0 in
    record {
      sized = second.0;
      low = ltb-true addr (2 ^ 41) second.1;
      whole = eqb-true (distance p place % 4) 0 third.1;
      near = leb-true (distance p place) 262140 last.1;
    }

flag_back : (w at : ℕ) (b : Bool) → bits w at 1 ≡ bit b → flag w at ≡ b
flag_back w at b e = rw e (bit_back b)

short_kind : (p place addr size : ℕ) (read atomic : Bool) → is_short p place addr size ≡ true → bits (short_word p place addr size read atomic) 0 3 ≡ 1
short_kind p place addr size read atomic h =
    let s = short_parts p place addr size h in
    let d : distance p place / 4 < 65536 = omega (arith, s.near) in
    (short_fields (bit read) (bit atomic) (power_of size) (distance p place / 4) addr (bit_small read) (bit_small atomic) (power_small size) d).0

short_back :
    (p place addr size : ℕ) (read atomic : Bool) → p < 2 ^ 64 → place < 2 ^ 64 → is_short p place addr size ≡ true →
    short_in p (short_word p place addr size read atomic) ≡ Access place addr size read atomic
short_back p place addr size read atomic hp hq h =
    let w = short_word p place addr size read atomic in
    let s = short_parts p place addr size h in
    let d : distance p place / 4 < 65536 = omega (arith, s.near) in
    let f = short_fields (bit read) (bit atomic) (power_of size) (distance p place / 4) addr (bit_small read) (bit_small atomic) (power_small size) d in
    same_access (place_from p (bits w 7 16 * 4)) place (w / 2 ^ 23) addr (2 ^ bits w 5 2) size (flag w 3) read (flag w 4) atomic
    (ap (λ (n : ℕ). place_from p (n * 4)) f.4 ∙ place_back p place hp hq s.whole)
    f.5
    (ap (λ (n : ℕ). 2 ^ n) f.3 ∙ size_back size s.sized)
    (flag_back w 3 read f.1)
    (flag_back w 4 atomic f.2)

long_back : (size place addr : ℕ) (read atomic : Bool) (rest : List ℕ) → size ≤ 65536 → long_in (long_word size read atomic) (place ∷ addr ∷ rest) ≡ Some (Access place addr size read atomic)
long_back size place addr read atomic rest h =
    let w = long_word size read atomic in
    let f = long_fields (bit read) (bit atomic) size (bit_small read) (bit_small atomic) h in
    ap Some (same_access place place addr addr (bits w 8 17) size (flag w 3) read (flag w 4) atomic refl refl f.3 (flag_back w 3 read f.1) (flag_back w 4 atomic f.2))

-- by its low bits a word is of one kind
kind_1 : (p w : ℕ) (rest : List ℕ) → bits w 0 3 ≡ 1 → fields_in p w rest ≡ Some (short_in p w)
unfolding fields_in
kind_1 p w rest h = rw h refl

kind_2 : (p w : ℕ) (rest : List ℕ) → bits w 0 3 ≡ 2 → fields_in p w rest ≡ long_in w rest
unfolding fields_in
kind_2 p w rest h = rw h refl

kind_3 : (p w x : ℕ) (rest : List ℕ) → bits w 0 3 ≡ 3 → fields_in p w (x ∷ rest) ≡ Some (Enter x)
unfolding fields_in
kind_3 p w x rest h = rw h refl

kind_4 : (p w : ℕ) (rest : List ℕ) → bits w 0 3 ≡ 4 → fields_in p w rest ≡ Some Leave
unfolding fields_in
kind_4 p w rest h = rw h refl

kind_5 : (p w x : ℕ) (rest : List ℕ) → bits w 0 3 ≡ 5 → fields_in p w (x ∷ rest) ≡ Some (Lock x (flag w 3))
unfolding fields_in
kind_5 p w x rest h = rw h refl

kind_6 : (p w x : ℕ) (rest : List ℕ) → bits w 0 3 ≡ 6 → fields_in p w (x ∷ rest) ≡ Some (Unlock x (flag w 3))
unfolding fields_in
kind_6 p w x rest h = rw h refl

kind_7 : (p w : ℕ) (rest : List ℕ) → bits w 0 3 ≡ 7 → fields_in p w rest ≡ Some (label_in w)
unfolding fields_in
kind_7 p w rest h = rw h refl

access_back :
    (p place addr size : ℕ) (read atomic : Bool) (rest : List ℕ) (short : Bool) → is_short p place addr size ≡ short → p < 2 ^ 64 → place < 2 ^ 64 → size ≤ 65536 →
    fields_at p ((if short then short_word p place addr size read atomic ∷ [] else long_word size read atomic ∷ place ∷ addr ∷ []) ++ rest) ≡ Some (Access place addr size read atomic)
access_back p place addr size read atomic rest true h hp hq hs =
    kind_1 p (short_word p place addr size read atomic) rest (short_kind p place addr size read atomic h) ∙ ap Some (short_back p place addr size read atomic hp hq h)
access_back p place addr size read atomic rest false h hp hq hs =
    let f = long_fields (bit read) (bit atomic) size (bit_small read) (bit_small atomic) hs in
    kind_2 p (long_word size read atomic) (place ∷ addr ∷ rest) f.0 ∙ long_back size place addr read atomic rest hs

-- an event's words have its fields
pub fields_back : (p : ℕ) (e : TraceEvent) (rest : List ℕ) → p < 2 ^ 64 → is_traceable e ≡ true → fields_at p (spelling p e ++ rest) ≡ Some e
unfolding spelling
fields_back p (Access place addr size read atomic) rest hp h =
    let t = and_parts (leb size 65536) (ltb place (2 ^ 64)) h in
    access_back p place addr size read atomic rest (is_short p place addr size) refl hp (ltb-true place (2 ^ 64) t.1) (leb-true size 65536 t.0)
fields_back p (Enter pc) rest hp h = kind_3 p 3 pc rest refl
fields_back p Leave rest hp h = kind_4 p 4 rest refl
fields_back p (Lock addr read) rest hp h =
    let f = lock_fields 5 (bit read) (omega arith) (bit_small read) in
    kind_5 p (lock_word 5 read) addr rest f.0 ∙ ap (λ (b : Bool). Some (Lock addr b)) (flag_back (lock_word 5 read) 3 read f.1)
fields_back p (Unlock addr read) rest hp h =
    let f = lock_fields 6 (bit read) (omega arith) (bit_small read) in
    kind_6 p (lock_word 6 read) addr rest f.0 ∙ ap (λ (b : Bool). Some (Unlock addr b)) (flag_back (lock_word 6 read) 3 read f.1)
fields_back p (Label sid epoch era) rest hp h =
    let t = and_parts (ltb sid (2 ^ 8)) (leb epoch 16383) h in
    let f = label_fields sid epoch era (ltb-true sid (2 ^ 8) t.0) (leb-true epoch 16383 t.1) in
    let w = label_word sid epoch era in
    kind_7 p w rest f.0 ∙ ap Some (same_label (bits w 8 8) sid (bits w 16 14) epoch (w / 2 ^ 32) era f.1 f.2 f.3)
  where
    same_label : (s s' p p' r r' : ℕ) → s ≡ s' → p ≡ p' → r ≡ r' → Label s p r ≡ Label s' p' r'
    same_label s s' p p' r r' a b c = cc

-- whether words begin with others
begins : (words s : List ℕ) → starts_with nat_eq words s ≡ true → words ≡ s ++ drop (length s) words
begins words s h = (starts_is Decides-eqb words s (starts_with nat_eq words s) refl).0 h

begins_with : (words s rest : List ℕ) → words ≡ s ++ rest → starts_with nat_eq words s ≡ true
begins_with words s rest h = (starts_is Decides-eqb words s (starts_with nat_eq words s) refl).1 rest h

if_spelled-yes : (p : ℕ) (words : List ℕ) (e : TraceEvent) → is_traceable e ≡ true → starts_with nat_eq words (spelling p e) ≡ true → if_spelled p words (Some e) ≡ Some e
if_spelled-yes p words e t s = rw (t, s) refl

if_spelled-untraceable : (p : ℕ) (words : List ℕ) (e : TraceEvent) → is_traceable e ≡ false → if_spelled p words (Some e) ≡ None
if_spelled-untraceable p words e t = rw t refl

if_spelled-other : (p : ℕ) (words : List ℕ) (e : TraceEvent) → is_traceable e ≡ true → starts_with nat_eq words (spelling p e) ≡ false → if_spelled p words (Some e) ≡ None
if_spelled-other p words e t s = rw (t, s) refl

-- what is decoded, by what the fields have
pub decoded-is : (p : ℕ) (words : List ℕ) (fields read : Option TraceEvent) → fields_at p words ≡ fields → if_spelled p words fields ≡ read → decoded p words ≡ option_map (λ (e : TraceEvent). (e, length (spelling p e))) read
unfolding event_at
decoded-is p words fields read f r = rw (f, r) refl

pub decoded-none : (p : ℕ) (words : List ℕ) → fields_at p words ≡ None → decoded p words ≡ None
decoded-none p words f = decoded-is p words None None f refl

pub decoded-untraceable : (p : ℕ) (words : List ℕ) (e : TraceEvent) → fields_at p words ≡ Some e → is_traceable e ≡ false → decoded p words ≡ None
decoded-untraceable p words e f t = decoded-is p words (Some e) None f (if_spelled-untraceable p words e t)

pub decoded-yes : (p : ℕ) (words : List ℕ) (e : TraceEvent) → fields_at p words ≡ Some e → is_traceable e ≡ true → starts_with nat_eq words (spelling p e) ≡ true → decoded p words ≡ Some (e, length (spelling p e))
decoded-yes p words e f t s = decoded-is p words (Some e) (Some e) f (if_spelled-yes p words e t s)

pub decoded-other : (p : ℕ) (words : List ℕ) (e : TraceEvent) → fields_at p words ≡ Some e → is_traceable e ≡ true → starts_with nat_eq words (spelling p e) ≡ false → decoded p words ≡ None
decoded-other p words e f t s = decoded-is p words (Some e) None f (if_spelled-other p words e t s)

-- words that begin with an event's give that event
pub event_at-spelling : (p : ℕ) (e : TraceEvent) (rest : List ℕ) → p < 2 ^ 64 → is_traceable e ≡ true → event_at p (spelling p e ++ rest) ≡ Some e
unfolding event_at
event_at-spelling p e rest hp t =
    rw (fields_back p e rest hp t) (if_spelled-yes p (spelling p e ++ rest) e t (begins_with (spelling p e ++ rest) (spelling p e) rest refl))

pub spelled_decodes : (p : ℕ) (words : List ℕ) (e : TraceEvent) (rest : List ℕ) → p < 2 ^ 64 → is_traceable e ≡ true → words ≡ spelling p e ++ rest → decoded p words ≡ Some (e, length (spelling p e))
spelled_decodes p words e rest hp t h =
    rw h (ap (option_map (λ (f : TraceEvent). (f, length (spelling p f)))) (event_at-spelling p e rest hp t))

pub IsTraceable-from : (e : TraceEvent) → is_traceable e ≡ true → IsTraceable e
IsTraceable-from (Access place addr size read atomic) h = leb-true size 65536 (and_parts (leb size 65536) (ltb place (2 ^ 64)) h).0
IsTraceable-from (Enter pc) h = tt
IsTraceable-from Leave h = tt
IsTraceable-from (Lock addr read) h = tt
IsTraceable-from (Unlock addr read) h = tt
IsTraceable-from (Label sid epoch era) h = leb-true epoch 16383 (and_parts (ltb sid (2 ^ 8)) (leb epoch 16383) h).1

pub found : (p count : ℕ) (words : List ℕ) (e : TraceEvent) → is_traceable e ≡ true → starts_with nat_eq words (spelling p e) ≡ true → count ≡ length (spelling p e) → IsSpelledAt p e count words
found p count words e t s n = record { traceable = IsTraceable-from e t; taken = n; begins = rw n (begins words (spelling p e) s) }

pub event_at-traceable : (p : ℕ) (words : List ℕ) (e : TraceEvent) → event_at p words ≡ Some e → is_traceable e ≡ true
unfolding event_at
event_at-traceable p words e h = by_fields (fields_at p words) h
  where
    by_test : (d : TraceEvent) (b : Bool) → is_traceable d ≡ b → (if b && starts_with nat_eq words (spelling p d) then Some d else None) ≡ Some e → is_traceable e ≡ true
    by_test d false t g = cc
    by_test d true t g = from_some d (starts_with nat_eq words (spelling p d)) t g
      where
        from_some : (d : TraceEvent) (b : Bool) → is_traceable d ≡ true → (if b then Some d else None) ≡ Some e → is_traceable e ≡ true
        from_some d false t g = cc
        from_some d true t g = cc

    by_fields : (o : Option TraceEvent) → if_spelled p words o ≡ Some e → is_traceable e ≡ true
    by_fields None g = cc
    by_fields (Some d) g = by_test d (is_traceable d) refl g

-- how many words an event takes is told by the kind in its first one
pub length-by_kind : (p : ℕ) (e : TraceEvent) (rest : List ℕ) → is_traceable e ≡ true → length (spelling p e) ≡ words_of_kind (kind_of (spelling p e ++ rest))
unfolding spelling
length-by_kind p (Access place addr size read atomic) rest h = short_or_long (is_short p place addr size) refl
  where
    short_or_long :
        (short : Bool) → is_short p place addr size ≡ short →
        length (if short then short_word p place addr size read atomic ∷ [] else long_word size read atomic ∷ place ∷ addr ∷ []) ≡ words_of_kind (kind_of ((if short then short_word p place addr size read atomic ∷ [] else long_word size read atomic ∷ place ∷ addr ∷ []) ++ rest))
    short_or_long true is = sym (ap words_of_kind (short_kind p place addr size read atomic is))
    short_or_long false is = sym (ap words_of_kind (long_fields (bit read) (bit atomic) size (bit_small read) (bit_small atomic) (leb-true size 65536 (and_parts (leb size 65536) (ltb place (2 ^ 64)) h).0)).0)
length-by_kind p (Enter pc) rest h = refl
length-by_kind p Leave rest h = refl
length-by_kind p (Lock addr read) rest h = sym (ap words_of_kind (lock_fields 5 (bit read) (omega arith) (bit_small read)).0)
length-by_kind p (Unlock addr read) rest h = sym (ap words_of_kind (lock_fields 6 (bit read) (omega arith) (bit_small read)).0)
length-by_kind p (Label sid epoch era) rest h =
    let t = and_parts (ltb sid (2 ^ 8)) (leb epoch 16383) h in
    sym (ap words_of_kind (label_fields sid epoch era (ltb-true sid (2 ^ 8) t.0) (leb-true epoch 16383 t.1)).0)

kind_0 : (p w : ℕ) (rest : List ℕ) → bits w 0 3 ≡ 0 → fields_in p w rest ≡ None
unfolding fields_in
kind_0 p w rest h = rw h refl

same_some : (d e : TraceEvent) → Some d ≡ Some e → e ≡ d
same_some d e h = cc

no_some : (e : TraceEvent) → None ≡ Some e → ⊥
no_some e h = cc

-- the event in the fields, by the kind
pub short-by_kind : (p : ℕ) (words : List ℕ) (e : TraceEvent) → kind_of words ≤ 2 → (kind_of words ≡ 2 → ⊥) → fields_at p words ≡ Some e → e ≡ short_in p (get_or words 0 0)
short-by_kind p [] e few other h = absurd (no_some e h)
short-by_kind p (w ∷ ws) e few other h = by_kind (bits w 0 3) refl few other
  where
    by_kind : (kind : ℕ) → bits w 0 3 ≡ kind → kind ≤ 2 → (kind ≡ 2 → ⊥) → e ≡ short_in p w
    by_kind zero k few other = absurd (no_some e (sym (kind_0 p w ws k) ∙ h))
    by_kind (suc zero) k few other = same_some (short_in p w) e (sym (kind_1 p w ws k) ∙ h)
    by_kind (suc (suc zero)) k few other = absurd (other refl)
    by_kind (suc (suc (suc n))) k few other = absurd (omega arith)

pub long-by_kind : (p : ℕ) (words : List ℕ) (e : TraceEvent) → kind_of words ≡ 2 → fields_at p words ≡ Some e → e ≡ Access (get_or words 1 0) (get_or words 2 0) (bits (get_or words 0 0) 8 17) (flag (get_or words 0 0) 3) (flag (get_or words 0 0) 4)
long-by_kind p [] e k h = absurd (no_some e h)
long-by_kind p (w ∷ []) e k h = absurd (no_some e (sym (kind_2 p w [] k) ∙ h))
long-by_kind p (w ∷ (x ∷ [])) e k h = absurd (no_some e (sym (kind_2 p w (x ∷ []) k) ∙ h))
long-by_kind p (w ∷ (x ∷ (y ∷ ws))) e k h = same_some (Access x y (bits w 8 17) (flag w 3) (flag w 4)) e (sym (kind_2 p w (x ∷ (y ∷ ws)) k) ∙ h)

pub enter-by_kind : (p : ℕ) (words : List ℕ) (e : TraceEvent) → 1 < length words → kind_of words ≡ 3 → fields_at p words ≡ Some e → e ≡ Enter (get_or words 1 0)
enter-by_kind p [] e some k h = absurd (omega arith)
enter-by_kind p (w ∷ []) e some k h = absurd (omega arith)
enter-by_kind p (w ∷ (x ∷ ws)) e some k h = same_some (Enter x) e (sym (kind_3 p w x ws k) ∙ h)

pub leave-by_kind : (p : ℕ) (words : List ℕ) (e : TraceEvent) → kind_of words ≡ 4 → fields_at p words ≡ Some e → e ≡ Leave
leave-by_kind p [] e k h = absurd (no_some e h)
leave-by_kind p (w ∷ ws) e k h = same_some Leave e (sym (kind_4 p w ws k) ∙ h)

pub lock-by_kind : (p : ℕ) (words : List ℕ) (e : TraceEvent) → 1 < length words → kind_of words ≡ 5 → fields_at p words ≡ Some e → e ≡ Lock (get_or words 1 0) (flag (get_or words 0 0) 3)
lock-by_kind p [] e some k h = absurd (omega arith)
lock-by_kind p (w ∷ []) e some k h = absurd (omega arith)
lock-by_kind p (w ∷ (x ∷ ws)) e some k h = same_some (Lock x (flag w 3)) e (sym (kind_5 p w x ws k) ∙ h)

pub unlock-by_kind : (p : ℕ) (words : List ℕ) (e : TraceEvent) → 1 < length words → kind_of words ≡ 6 → fields_at p words ≡ Some e → e ≡ Unlock (get_or words 1 0) (flag (get_or words 0 0) 3)
unlock-by_kind p [] e some k h = absurd (omega arith)
unlock-by_kind p (w ∷ []) e some k h = absurd (omega arith)
unlock-by_kind p (w ∷ (x ∷ ws)) e some k h = same_some (Unlock x (flag w 3)) e (sym (kind_6 p w x ws k) ∙ h)

pub label-by_kind : (p : ℕ) (words : List ℕ) (e : TraceEvent) → kind_of words ≡ 7 → fields_at p words ≡ Some e → e ≡ label_in (get_or words 0 0)
label-by_kind p [] e k h = absurd (no_some e h)
label-by_kind p (w ∷ ws) e k h = same_some (label_in w) e (sym (kind_7 p w ws k) ∙ h)

pub second_word : (words : List ℕ) (kind : ℕ) → kind_of words ≡ kind → words_of_kind kind ≡ 2 → words_of_kind (kind_of words) ≤ length words → 1 < length words
second_word words kind k two whole = omega (arith, ap words_of_kind k)

-- only an access has a kind below 3
pub no_access-by_kind : (p : ℕ) (e : TraceEvent) (rest : List ℕ) → is_traceable e ≡ true → 2 < kind_of (spelling p e ++ rest) → (access_in (told e) ≡ None) × (place_after p (told e) ≡ p)
unfolding spelling
no_access-by_kind p (Access place addr size read atomic) rest h k = absurd (short_or_long (is_short p place addr size) refl k)
  where
    short_or_long :
        (short : Bool) → is_short p place addr size ≡ short → 2 < kind_of ((if short then short_word p place addr size read atomic ∷ [] else long_word size read atomic ∷ place ∷ addr ∷ []) ++ rest) → ⊥
    short_or_long true is k = omega (arith, short_kind p place addr size read atomic is)
    short_or_long false is k = omega (arith, (long_fields (bit read) (bit atomic) size (bit_small read) (bit_small atomic) (leb-true size 65536 (and_parts (leb size 65536) (ltb place (2 ^ 64)) h).0)).0)
no_access-by_kind p (Enter pc) rest h k = (refl, refl)
no_access-by_kind p Leave rest h k = (refl, refl)
no_access-by_kind p (Lock addr read) rest h k = (refl, refl)
no_access-by_kind p (Unlock addr read) rest h k = (refl, refl)
no_access-by_kind p (Label sid epoch era) rest h k = (refl, refl)
