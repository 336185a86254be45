-- When an access is lost, and that the one that is found is the first of all.
use Rattle.std.proofs.Common.{◌≡◌, ℕ, ◌+◌, ◌≤◌, ◌||◌, Bool, true, false, cond, List, [], ◌∷◌, ◌++◌, map, Option, Some, None, refl, sym, ◌∙◌, ap, subst, append_assoc, zero-add, arith}
use Rattle.std.specs.Prelude.{find, count_by, unwrap_or, IsSome}
use Rattle.std.specs.Option.{option_or, option_map_or}
use Rattle.std.specs.List.{list_any}
use Rattle.std.proofs.lemmas.Bool.{false≢true, or_parts, and_parts}
use Rattle.std.proofs.lemmas.List.Folds.{list_any-append}
use Rattle.std.proofs.lemmas.List.Sums.{sum_by-append}
use Rattle.run_record.specs.declared.entry.Label.{Label}
use Rattle.run_laws.specs.Accesses.{Access}
use Rattle.run_laws.specs.Window.{TraceEvent, Labelled, Traced, is_label}
use Rattle.trace_parts.specs.declared.restored.Restored.{Restored}
use Rattle.trace_parts.specs.declared.restored.Restored.TheVariants.{Found, Lost}
use Rattle.trace_parts.specs.Snapshot.{Snapshot, nothing_yet, snapshot_after, after_all}
use Rattle.trace_parts.specs.Held.{HeldPart, HeldTrace, events_in, has_label, EndsWithParts}
use Rattle.trace_parts.specs.Sought.{Seen, seen_from, is_sought, is_under, leaves_word, access_in, told_of, told_if, restored, without_label, start_of, events_of_parts, first_held, first_in, IsFirstOfAll}
use Rattle.trace_parts.proofs.SeekLaws.{first_told}
use Rattle.trace_parts.proofs.UnderLaws.{none_told, under_after_all, same_under}
use Rattle.trace_parts.proofs.RestoreLaws.{first_told-append, restored-is}

or_comm : (a b : Bool) → (a || b) ≡ (b || a)
or_comm true true = refl
or_comm true false = refl
or_comm false true = refl
or_comm false false = refl

-- a label is held where its event is among the held ones
has_label-events : (l : Label) (held : List HeldPart) → list_any (is_label l) (events_of_parts held) ≡ list_any (list_any (is_label l)) (map events_in held)
has_label-events l [] = refl
has_label-events l (part ∷ older) =
    list_any-append (is_label l) (events_of_parts older) part.events ∙ ap (λ (b : Bool). b || list_any (is_label l) part.events) (has_label-events l older)
    ∙ or_comm (list_any (list_any (is_label l)) (map events_in older)) (list_any (is_label l) part.events)

-- where the label isn't held, nothing is found
pub lost_where_not_held : (trace : HeldTrace) (l : Label) (address word : ℕ) (found : Restored) → found ≡ restored (first_held trace.held l address word) → has_label trace l ≡ false → found ≡ Lost
lost_where_not_held trace l address word found is none =
    is ∙ restored-is (first_held trace.held l address word)
    ∙ ap (λ (o : Option Restored). unwrap_or o Lost) (none_told l address word (without_label (start_of trace.held)) (events_of_parts trace.held) refl (has_label-events l trace.held ∙ none))

-- a sought access isn't lost
find-true : (p : Seen → Bool) (xs : List Seen) (x : Seen) → find p xs ≡ Some x → p x ≡ true
find-true p [] x h = cc
find-true p (y ∷ ys) x h = by_test p ys x y (p y) refl h (λ (g : find p ys ≡ Some x). find-true p ys x g)
  where
    by_test : (p : Seen → Bool) (ys : List Seen) (x y : Seen) (b : Bool) → p y ≡ b → cond b (Some y) (find p ys) ≡ Some x → (find p ys ≡ Some x → p x ≡ true) → p x ≡ true
    by_test p ys x y true t h more = let same : y ≡ x = ap (λ (o : Option Seen). unwrap_or o y) h in subst (λ (z : Seen). p z ≡ true) same t
    by_test p ys x y false t h more = more h

is_lost : Restored → Bool
is_lost Lost = true
is_lost (Found place addr size stack locks) = false

told_found : (leaves : Access → Bool) (make : Access → Restored) (o : Option Access) → ((a : Access) → is_lost (make a) ≡ false) → option_map_or leaves o false ≡ true → is_lost (option_map_or make o Lost) ≡ false
told_found leaves make None each h = absurd (false≢true h)
told_found leaves make (Some a) each h = each a

sought_found : (l : Label) (address word : ℕ) (seen : Seen) → is_sought l address word seen ≡ true → is_lost (told_of seen) ≡ false
unfolding is_lost
sought_found l address word seen h =
    told_found (leaves_word l address word) (λ (a : Access). Found a.place a.addr a.size (a.place ∷ seen.before.frames) seen.before.locks) (access_in seen.event) (λ a. refl)
    (and_parts (is_under l seen.before.label) (option_map_or (leaves_word l address word) (access_in seen.event) false) h).1

some_not_lost : (l : Label) (address word : ℕ) (seen : List Seen) (o : Option Seen) → find (is_sought l address word) seen ≡ o → IsSome o → is_lost (restored o) ≡ false
some_not_lost l address word seen None eq some = absurd (false≢true some)
some_not_lost l address word seen (Some x) eq some = sought_found l address word x (find-true (is_sought l address word) seen x eq)

lost_is : is_lost Lost ≡ true
unfolding is_lost
lost_is = refl

-- where an access is lost, its label isn't held
pub not_held_where_lost : (trace : HeldTrace) (l : Label) (address word : ℕ) (found : Restored) (b : Bool) → has_label trace l ≡ b → found ≡ restored (first_held trace.held l address word) → (b ≡ true → IsSome (first_held trace.held l address word)) → found ≡ Lost → b ≡ false
not_held_where_lost trace l address word found false eq is some lost = refl
not_held_where_lost trace l address word found true eq is some lost =
    let here = some_not_lost l address word (seen_from (without_label (start_of trace.held)) (events_of_parts trace.held)) (first_held trace.held l address word) refl (some refl) in
    absurd (false≢true (sym here ∙ ap is_lost (sym is ∙ lost) ∙ lost_is))

-- The held events end all events, and what stood before the first of them is what was left by the others.
record Split (held : List HeldPart) (events : List TraceEvent) : Type 0 where
  before : List TraceEvent
  whole : events ≡ before ++ events_of_parts held
  start : start_of held ≡ after_all nothing_yet before

split_held : (part : HeldPart) (older : List HeldPart) (events : List TraceEvent) → EndsWithParts (part ∷ older) events → Split (part ∷ older) events
split_held part [] events h = record { before = h.0; whole = h.1; start = h.2 }
split_held part (next ∷ older) events h =
    let rest = split_held next older h.0 h.3 in
    record {
      before = rest.before;
      whole = h.1 ∙ ap (λ (es : List TraceEvent). es ++ part.events) rest.whole ∙ append_assoc rest.before (events_of_parts (next ∷ older)) part.events;
      start = rest.start;
    }

count-cons : (p : TraceEvent → Bool) (e : TraceEvent) (es : List TraceEvent) → count_by p (e ∷ es) ≡ cond (p e) 1 0 + count_by p es
count-cons p e es = sum_by-append (λ (x : TraceEvent). cond (p x) 1 0) (e ∷ []) es ∙ ap (λ (n : ℕ). n + count_by p es) (zero-add (cond (p e) 1 0))

count-some : (p : TraceEvent → Bool) (es : List TraceEvent) → list_any p es ≡ true → 1 ≤ count_by p es
count-some p [] h = absurd (false≢true h)
count-some p (e ∷ es) h = omega (arith, count-cons p e es, by_test (p e) (list_any p es) (count_by p es) h (λ (g : list_any p es ≡ true). count-some p es g))
  where
    by_test : (b rest : Bool) (n : ℕ) → (b || rest) ≡ true → (rest ≡ true → 1 ≤ n) → 1 ≤ cond b 1 0 + n
    by_test true rest n h more = omega arith
    by_test false rest n h more = omega (arith, more h)

count-none : (p : TraceEvent → Bool) (es : List TraceEvent) → count_by p es ≡ 0 → list_any p es ≡ false
count-none p [] h = refl
count-none p (e ∷ es) h = by_test (p e) (list_any p es) (count_by p es) (sym (count-cons p e es) ∙ h) (λ (g : count_by p es ≡ 0). count-none p es g)
  where
    by_test : (b rest : Bool) (n : ℕ) → cond b 1 0 + n ≡ 0 → (n ≡ 0 → rest ≡ false) → (b || rest) ≡ false
    by_test true rest n h more = absurd (omega (arith, h))
    by_test false rest n h more = more (omega (arith, h))

-- where the label comes once, and its event is held, the first of the held ones is the first of all
first_of_parts :
    (held : List HeldPart) (l : Label) (address word : ℕ) (events : List TraceEvent) → EndsWithParts held events → list_any (list_any (is_label l)) (map events_in held) ≡ true → count_by (is_label l) events ≤ 1 →
    first_told l address word (without_label (start_of held)) (events_of_parts held) ≡ first_told l address word nothing_yet events
first_of_parts [] l address word events ends label once = absurd (false≢true label)
first_of_parts (part ∷ older) l address word events ends label once =
    let held = part ∷ older in
    let last = events_of_parts held in
    let split = split_held part older events ends in
    let some = count-some (is_label l) last (has_label-events l held ∙ label) in
    let none : list_any (is_label l) split.before ≡ false = count-none (is_label l) split.before (omega (arith, once, ap (count_by (is_label l)) split.whole, sum_by-append (λ (e : TraceEvent). cond (is_label l e) 1 0) split.before last, some)) in
    let under : is_under l (start_of held).label ≡ false = subst (λ (s : Snapshot). is_under l s.label ≡ false) (sym split.start) (under_after_all l nothing_yet split.before refl none) in
    same_under l address word (without_label (start_of held)) (start_of held) last refl refl (sym under) ∙ ap (λ (s : Snapshot). first_told l address word s last) split.start
    ∙ sym
    (ap (first_told l address word nothing_yet) split.whole ∙ first_told-append l address word nothing_yet split.before last
    ∙ ap (λ (o : Option Restored). option_or o (first_told l address word (after_all nothing_yet split.before) last)) (none_told l address word nothing_yet split.before refl none))

pub first_of_all : (trace : HeldTrace) (l : Label) (address word : ℕ) (found : Restored) → found ≡ restored (first_held trace.held l address word) → IsFirstOfAll trace l address word found
first_of_all trace l address word found is =
    λ events holds label once.
    is ∙ restored-is (first_held trace.held l address word) ∙ ap (λ (o : Option Restored). unwrap_or o Lost) (first_of_parts trace.held l address word events holds.ends label once)
    ∙ sym (restored-is (first_in events l address word))
