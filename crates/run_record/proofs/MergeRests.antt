-- One step of the merge: the chosen rest's first entries are appended.
use Rattle.std.proofs.Common.{◌≡◌, ℕ, zero, suc, ◌<◌, ◌≤◌, List, [], ◌∷◌, ◌++◌, length, take, drop, get_or, set, map, Option, Some, None, refl, sym, ◌∙◌, ap, subst, inl, inr, arith, append_assoc, append-nil}
use Rattle.std.specs.Prelude.{slice_get, option_map, All, Result, Ok, Err, OnErr}
use Rattle.std.proofs.Math.Seq.{take-append_seam}
use Rattle.std.proofs.lemmas.List.{length-map, get_or-map, map-set, take-append-drop, length-take}
use Rattle.std.proofs.lemmas.List.Elements.{All-set}
use Rattle.std.proofs.lemmas.List.Sorted.{IsPermutation-refl}
use Rattle.run_record.specs.declared.event.Event.{Event}
use Rattle.run_record.specs.declared.entry.Check.{Check}
use Rattle.run_record.specs.declared.entry.DeskNote.{DeskNote}
use Rattle.run_record.specs.declared.entry.Entry.{Entry}
use Rattle.run_record.specs.declared.flat.Head.{Head}
use Rattle.run_record.specs.declared.flat.Row.{Row}
use Rattle.run_record.specs.declared.flat.Mark.{Mark}
use Rattle.run_record.specs.declared.rest.Rest.{Rest}
use Rattle.run_record.specs.declared.merged.Choice.{Choice}
use Rattle.run_record.specs.Marks.{rest_at}
use Rattle.run_record.specs.Flat.{checks_of, entries_of, head_of}
use Rattle.run_record.specs.Order.{AreOrdered, AreDistinct, AppendsMerged, entries_in}
use Rattle.run_record.specs.Rest.{rest_entries, IsRest}
use Rattle.run_record.specs.Merging.{AreRestsOf, IsUpto, IsUptoLimit, IsLimitOf, BeginWith, IsChosen, IsChosenBelow}
use Rattle.run_record.proofs.MergeSteps.{AreSorted, IsMerging, step, fewer, all_done}

-- ---- rows and their entries

-- what holds of the heads of the first rows holds of the first entries
heads_hold : (P : Head → Type 0) (count n : ℕ) (rows : List Row) (notes : List (Mark DeskNote)) (es : List Event) (cs : List Check) →
    All (λ (r : Row). P r.head) (take count rows) → All (λ (e : Entry). P (head_of e)) (take count (entries_of n rows notes es cs))
heads_hold P zero n rows notes es cs h k d l = absurd (omega arith)
heads_hold P (suc count) n [] notes es cs h k d l = absurd (omega arith)
heads_hold P (suc count) n (r ∷ rows) notes es cs h zero d l = h 0 r (omega arith)
heads_hold P (suc count) n (r ∷ rows) notes es cs h (suc k) d l =
    heads_hold P count (suc n) rows (rest_at n notes) (drop r.events es) (drop r.checks cs) (λ j e m. h (suc j) e (omega arith)) k d (omega arith)

pub as_many_entries : (n : ℕ) (rows : List Row) (notes : List (Mark DeskNote)) (es : List Event) (cs : List Check) → length (entries_of n rows notes es cs) ≡ length rows
as_many_entries n [] notes es cs = refl
as_many_entries n (r ∷ rows) notes es cs = ap suc (as_many_entries (suc n) rows (rest_at n notes) (drop r.events es) (drop r.checks cs))

-- the head of a row is that of its entry
pub head_at : (k n : ℕ) (rows : List Row) (notes : List (Mark DeskNote)) (es : List Event) (cs : List Check) →
    option_map (λ (r : Row). r.head) (slice_get rows k) ≡ option_map head_of (slice_get (entries_of n rows notes es cs) k)
head_at k n [] notes es cs = refl
head_at zero n (r ∷ rows) notes es cs = refl
head_at (suc k) n (r ∷ rows) notes es cs = head_at k (suc n) rows (rest_at n notes) (drop r.events es) (drop r.checks cs)

upto_trans : (g h k : Head) → IsUpto g h → IsUpto h k → IsUpto g k
upto_trans g h k first second = elim first [
  | inl a ↦ elim second [ inl b ↦ inl (omega arith) | inr b ↦ inl (omega arith) ]
  | inr a ↦ elim second [ inl b ↦ inl (omega arith) | inr b ↦ inr (omega arith, omega arith) ]
]

-- what isn't after the limit of some rows isn't after any of their entries
limit_all : (limit : Option Head) (n : ℕ) (rows : List Row) (notes : List (Mark DeskNote)) (es : List Event) (cs : List Check) (a : Head) →
    IsLimitOf limit rows → AreSorted (entries_of n rows notes es cs) → IsUptoLimit a limit → All (λ (e : Entry). IsUpto a (head_of e)) (entries_of n rows notes es cs)
limit_all limit n [] notes es cs a is sorted upto = λ k d l. absurd (omega arith)
limit_all None n (r ∷ rows) notes es cs a is sorted upto = absurd is
limit_all (Some g) n (r ∷ rows) notes es cs a is sorted upto = at
  where
    first : IsUpto a r.head
    first = upto_trans a g r.head upto is

    at : All (λ (e : Entry). IsUpto a (head_of e)) (entries_of n (r ∷ rows) notes es cs)
    at zero d l = first
    at (suc k) d l = upto_trans a r.head (head_of (get_or (entries_of n (r ∷ rows) notes es cs) (suc k) d)) first (sorted 0 (suc k) d (omega arith) l)

-- the first row of the chosen rest is among those that go
pub some_go : (rows : List Row) (h : Head) (limit : Option Head) (count : ℕ) → BeginWith h rows → IsUptoLimit h limit →
    ((d : Row) → count < length rows → IsUptoLimit (get_or rows count d).head limit → ⊥) → (0 < count) × (0 < length rows)
some_go [] h limit count begin upto stops = absurd begin
some_go (r ∷ rows) h limit zero begin upto stops = absurd (stops r (omega arith) (subst (λ (x : Head). IsUptoLimit x limit) (sym begin) upto))
some_go (r ∷ rows) h limit (suc count) begin upto stops = (omega arith, omega arith)

-- ---- the state of the loop

-- Behind the old entries the new ones have some of the logs' entries, merged, and these rests are left.
pub record Merges (logs : List (List Entry)) (old new : List Entry) (rests : List Rest) : Type 0 where
  pub done : List Entry
  pub all : new ≡ old ++ done
  pub merging : IsMerging logs done (map rest_entries rests)
  pub are : All IsRest rests

module _ (rests : List Rest) (c : Choice) (count : ℕ) (rest front later : Rest) (chosen : IsChosen rests (length rests) c)
    (is : rest ≡ get_or rests c.index rest) (upto : All (λ (r : Row). IsUptoLimit r.head c.limit) (take count rest.rows.now))
    (first : rest_entries front ≡ take count (rest_entries rest)) (second : rest_entries later ≡ drop count (rest_entries rest)) where
  abbrev left : List (List Entry)
  left = map rest_entries rests

  many : length left ≡ length rests
  many = length-map rests rest_entries

  within : c.index < length left
  within = let w = chosen.within in omega (arith, many, w)

  cut_at : (d : List Entry) → get_or left c.index d ≡ rest_entries front ++ rest_entries later
  cut_at d =
      get_or-map rest_entries rests c.index rest d chosen.within ∙ (ap rest_entries (sym is)
      ∙ (sym (take-append-drop count (rest_entries rest)) ∙ (ap (λ (es : List Entry). es ++ drop count (rest_entries rest)) (sym first)
      ∙ ap (λ (es : List Entry). rest_entries front ++ es) (sym second))))

  set_left : set left c.index (rest_entries later) ≡ map rest_entries (set rests c.index later)
  set_left = sym (map-set rest_entries rests c.index later)

  below_others : (logs : List (List Entry)) (done : List Entry) → IsMerging logs done left → (a : Head) → IsUptoLimit a c.limit →
      (k : ℕ) (d : List Entry) → k < length left → (k ≡ c.index → ⊥) → All (λ (e : Entry). IsUpto a (head_of e)) (get_or left k d)
  below_others logs done m a upto_limit k d l other =
      let low : k < length rests = omega (arith, many, l) in
      let r = get_or rests k front in
      let is : get_or left k d ≡ rest_entries r = get_or-map rest_entries rests k front d low in
      subst (All (λ (e : Entry). IsUpto a (head_of e))) (sym is)
      (limit_all c.limit r.entry r.rows.now r.notes.now r.events.now (checks_of r.check r.checks.now r.words.now) a (chosen.others k front low other)
      (subst AreSorted is (m.each k d l)) upto_limit)

  pub next : (logs : List (List Entry)) (old new newer : List Entry) → newer ≡ new ++ rest_entries front → IsRest later → Merges logs old new rests →
      Merges logs old newer (set rests c.index later)
  next logs old new newer appended whole m =
      let limited : All (λ (e : Entry). IsUptoLimit (head_of e) c.limit) (rest_entries front) =
      subst (All (λ (e : Entry). IsUptoLimit (head_of e) c.limit)) (sym first)
      (heads_hold (λ (h : Head). IsUptoLimit h c.limit) count rest.entry rest.rows.now rest.notes.now rest.events.now
      (checks_of rest.check rest.checks.now rest.words.now) upto) in
      record {
        done = m.done ++ rest_entries front;
        all = appended ∙ (ap (λ (es : List Entry). es ++ rest_entries front) m.all ∙ append_assoc old m.done (rest_entries front));
        merging = subst (IsMerging logs (m.done ++ rest_entries front)) set_left
            (step left c.index (rest_entries front) (rest_entries later) within cut_at logs m.done
            (λ k d l. below_others logs m.done m.merging (head_of (get_or (rest_entries front) k d)) (limited k d l)) m.merging);
        are = All-set IsRest rests c.index later whole m.are;
      }

  pub shorter : (count ≤ length rest.rows.now) →
      ((d : Row) → count < length rest.rows.now → IsUptoLimit (get_or rest.rows.now count d).head c.limit → ⊥) →
      length (entries_in (map rest_entries (set rests c.index later))) < length (entries_in (map rest_entries rests))
  shorter whole stops =
      let go = some_go rest.rows.now c.head c.limit count (subst (λ (r : Rest). BeginWith c.head r.rows.now) (sym is) (chosen.first rest)) chosen.upto stops in
      let some = go.0 in
      let rows = go.1 in
      let n = as_many_entries rest.entry rest.rows.now rest.notes.now rest.events.now (checks_of rest.check rest.checks.now rest.words.now) in
      let taken = ap (λ (es : List Entry). length es) first ∙ length-take count (rest_entries rest) in
      let long : 0 < length (rest_entries front) = omega (arith, n, taken, some, rows, whole) in
      subst (λ (lists : List (List Entry)). length (entries_in lists) < length (entries_in left)) set_left
      (fewer left c.index (rest_entries front) (rest_entries later) within cut_at long)

-- where no rest has entries the merge is done
none_left : (rests : List Rest) → ((k : ℕ) (d : Rest) → k < length rests → (get_or rests k d).rows.now ≡ []) → entries_in (map rest_entries rests) ≡ []
none_left [] none = refl
none_left (r ∷ rests) none =
    let empty : rest_entries r ≡ [] = rw (none 0 r (omega arith)) refl in
    rw empty (none_left rests (λ k d l. none (suc k) d (omega arith)))

pub merged : (logs : List (List Entry)) (old new : List Entry) (rests : List Rest) → IsChosenBelow rests (length rests) None → AreDistinct (entries_in logs) →
    Merges logs old new rests → AppendsMerged old new logs
merged logs old new rests none distinct m =
    let are = all_done logs m.done (map rest_entries rests) (none_left rests none) distinct m.merging in
    record { merged = m.done; all = m.all; same = are.0; ordered = are.1 }

-- all entries of the logs are left
pub begun : (logs : List (List Entry)) (old : List Entry) (rests : List Rest) → AreRestsOf logs rests → All AreOrdered logs → Merges logs old old rests
begun logs old rests are ordered =
    record {
      done = [];
      all = sym (append-nil old);
      merging = subst (IsMerging logs []) (sym are.same) (record {
        same = IsPermutation-refl (entries_in logs);
        sorted = λ i j d below within. absurd (omega arith);
        below = λ k d l. absurd (omega arith);
        each = λ k d l i j e below within. elim (ordered k d l i j e below within) [
          | inl less ↦ inl less
          | inr same ↦ inr (same.0, let t = same.1 in omega arith)
        ];
      });
      are = are.are;
    }

-- what had some entries more has them cut off again
pub cut_off : (old more : List Entry) (n : ℕ) → n ≡ length old → take n (old ++ more) ≡ old
cut_off old more n is = ap (λ (k : ℕ). take k (old ++ more)) is ∙ take-append_seam old more

pub on_err : {T E : Type 0} (r : Result T E) (P : Type 0) → P → OnErr r P
on_err (Ok v) P p = tt
on_err (Err e) P p = p
