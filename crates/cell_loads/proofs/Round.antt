-- The timings of a round, as its entries are listed.
use Rattle.std.proofs.Common.{◌≡◌, ◌≢◌, ◌<◌, ◌≤◌, ◌+◌, ◌⊎◌, inl, inr, ℕ, zero, suc, List, [], ◌∷◌, ◌++◌, length, map, slice_get, Option, Some, None, refl}
use Rattle.std.proofs.Common.{sym, ap, ap₂, subst, ◌∙◌, arith}
use Rattle.std.specs.List.{AllZip}
use Rattle.std.proofs.lemmas.Bool.{cases_lt, cases_eq}
use Rattle.std.proofs.lemmas.List.{map-append}
use Rattle.run_record.specs.declared.event.Event.TheVariants as events
use Rattle.run_record.specs.declared.entry.Entry.{Entry}
use Rattle.run_record.specs.declared.limits.Limits.{Limits}
use Rattle.run_record.specs.Order.{Precedes, entries_in}
use Rattle.bare_machine.specs.Step.{desk}
use Rattle.turn_orders.specs.Lists.{Each, In, InOrder}
use Rattle.turn_orders.specs.Machine.{State}
use Rattle.turn_orders.specs.LineUp.{Stamped, LocalsFollow, last_local}
use Rattle.turn_orders.proofs.Members.{at_member, all_members, each_append, order_append}
use Rattle.turn_histories.specs.Rounds.{IsIn}
use Rattle.shared_table.specs.declared.object.Object.{Object}
use Rattle.shared_table.specs.declared.view.Item.{Item}
use Rattle.shared_table.specs.declared.view.Item.TheVariants.{Split, Join, Take, Give, Load, Store}
use Rattle.shared_table.specs.declared.view.Layout.{Layout}
use Rattle.shared_table.specs.Past.{Past, log_of}
use Rattle.woven_turns.specs.Steps.{Stands, Raises, AllRaise}
use Rattle.woven_turns.specs.Weave.{IsTagged}
use Rattle.woven_turns.proofs.Standing.{two, stands_more, given_before_taken, step_by}
use Rattle.woven_turns.proofs.Weaving.{in_left, in_right}
use Rattle.woven_turns.proofs.Items.{item_in_log}
use Rattle.placed_detector.specs.Standing.{Hand}
use Rattle.deed_histories.specs.Lines.{Tells, IsHandDeed}
use Rattle.deed_histories.proofs.Permuted.{Moved, moved}
use Rattle.table_deeds.specs.Objects.{ObjectDeed, hand_deed, last_in}
use Rattle.table_deeds.specs.Listing.{AreApart}
use Rattle.hart_parts.specs.Parts.{Part, Rest, part_entries, rest_deed, rest_entries, rest_touches, try_items, at_last_object, IsPrivate, IsPart}
use Rattle.hart_parts.specs.Rounds.{PartRound, IsSeatOfPart, IsPartRound}
use Rattle.cell_loads.specs.Spans.{Step, Timing, entries_timed, WasMade, IsTiming, IsSoonerInRound}
use Rattle.cell_loads.specs.Pasts.{made_in, GoesOn}
use Rattle.cell_loads.proofs.Lists.{order_cases, order_as, order_map, in_order, map_in, in_map}
use Rattle.cell_loads.proofs.Steps.{IsLate, seat_steps, seat_log, seat_late, seat_order, seat_has, late_bounds}
use Rattle.cell_loads.proofs.Rising.{later_found, first_found}
use Rattle.cell_loads.proofs.Deeds.{IsToldDeed, told_deed}
use Rattle.cell_loads.proofs.Walks.{HasTurn, IsOfPart, IsSoonerInPart, IsStoreOf, StepRaises, Walked, walk}

-- a timing of a round
pub record IsOfRound (limits : Limits) (past early late : Past) (x : Timing) : Type 0 where
  pub is : IsTiming past x
  pub from : length early ≤ x.start
  pub to : x.stop ≤ length (late ++ early)
  pub turn : x.place ≤ desk → HasTurn limits early late x

-- two timings, part by part: of different threads and seats, or one after another
abbrev pub AreParted : Timing → Timing → Type 0
AreParted x y = ((x.entry.tid ≢ y.entry.tid) × (x.seat ≢ y.seat)) ⊎ IsSoonerInPart x y

-- the step of a give raises the object's stamp
abbrev RaisesAt : ℕ × Item → Type 0
RaisesAt x = Raises last_in x.1

-- Timings of parts whose seats have the numbers from `seat` on.
pub record PartsWalked (limits : Limits) (past early late : Past) (seat : ℕ) (ps : List Part) (entries : List Entry) : Type 0 where
  pub timings : List Timing
  pub entries_are : entries_timed timings ≡ entries
  pub each : Each (IsOfRound limits past early late) timings
  pub known : Each (λ (x : Timing). In x.entry.tid (map (λ (p : Part). p.thread) ps) × (seat ≤ x.seat)) timings
  pub order : InOrder AreParted timings
  pub stores : (n c w : ℕ) (made : Past) → seat ≤ n → n < seat + length ps → Stands late made (n, Store c w) → IsStoreOf timings c w (length (made ++ early))
  pub raise : (n : ℕ) (made : Past) (x : Item) → seat ≤ n → n < seat + length ps → Stands late made (n, x) → Raises last_in x × Raises (made_in limits) x

-- each seat's log is its part's
abbrev AreLogs : Past → ℕ → List Part → Type 0
AreLogs late seat [] = Unit {0}
AreLogs late seat (p ∷ ps) = (log_of seat late ≡ p.log) × AreLogs late (seat + 1) ps

are_logs : (late : Past) (seat : ℕ) (ps : List Part) → ((i : ℕ) (p : Part) → slice_get ps i ≡ Some p → log_of (seat + i) late ≡ p.log) → AreLogs late seat ps
are_logs late seat [] h = tt
are_logs late seat (p ∷ ps) h = (
  ap (λ (n : ℕ). log_of n late) (omega arith) ∙ h 0 p refl,
  are_logs late (seat + 1) ps (λ i q e. ap (λ (n : ℕ). log_of n late) (omega arith) ∙ h (suc i) q e),
)

rises_along : (limits : Limits) (ds : List ObjectDeed) (l : Stamped Hand) → Each (IsToldDeed limits) ds → LocalsFollow l ds → l.last ≤ (last_local l ds).last
rises_along limits [] l h f = omega arith
rises_along limits (d ∷ ds) l h f =
    let a = rises_along limits ds d.local_left h.1 f.1 in
    let b = h.0.above in
    let c : l.last ≡ d.local_found.last = ap (λ (z : Stamped Hand). z.last) f.0 in
    omega arith

module _ (file : List ℕ) (limits : Limits) (era : ℕ) (past early late : Past) (up : (n : ℕ) (s : Step) → IsLate early late n s → WasMade past n s)
    (m : State (Stamped Hand) Object) (low : (t : ℕ) → last_in (m.value (desk + 1 + t)) ≤ (m.local t).last)
    (private : (k : ℕ) → desk < k → IsPrivate limits (m.value k)) where
  -- the timings of one part
  one_part : (p : Part) (seat : ℕ) → IsPart file limits era p → p.before ≡ m.local p.thread → log_of seat late ≡ p.log →
      Walked limits past early late p.thread seat (length early) p.before.last (part_entries file limits p) (seat_steps early seat late)
  one_part p seat h before log =
      walk limits past early late seat (up seat) file p.thread (m.value (desk + 1 + p.thread)) p.rest p.tried p.deeds h.log_is.stretches p.before
      (length early)
      (seat_steps early seat late) (omega (arith, Rattle.std.proofs.Common.length-append late early)) h.mine told h.follow h.log_is.each rested
      (seat_log early seat late ∙ (log ∙ h.log_is.whole)) (seat_order early seat late) (seat_late early seat late)
      (all_members (λ (s : Step). length early ≤ s.1) (seat_steps early seat late)
      (λ s i. (late_bounds early seat late s (at_member (IsLate early late seat) s (seat_steps early seat late) (seat_late early seat late) i)).0))
    where
      told : Each (IsToldDeed limits) p.deeds
      told = all_members (IsToldDeed limits) p.deeds (λ d i. told_deed file limits era d
          (at_member (λ (d : ObjectDeed). IsHandDeed file limits era (hand_deed file limits d)) d p.deeds h.deeds i))

      rested : (r : Rest) → p.rest ≡ Some r → IsToldDeed limits (rest_deed p.thread (at_last_object p) (m.value (desk + 1 + p.thread)) r)
      rested r e =
          let is = subst (Rattle.hart_parts.specs.Parts.IsRest file limits era p.thread (at_last_object p)) e h.rest_is in
          let a = rises_along limits p.deeds p.before told h.follow in
          let b = low p.thread in
          let c : p.before.last ≡ (m.local p.thread).last = ap (λ (z : Stamped Hand). z.last) before in
          told_deed file limits era (rest_deed p.thread (at_last_object p) (m.value (desk + 1 + p.thread)) r)
          (is (m.value (desk + 1 + p.thread)) (private (desk + 1 + p.thread) (omega arith)) (omega arith))

  -- those of all parts
  all_parts : (ps : List Part) (seat : ℕ) → Each (IsPart file limits era) ps → Each (λ (p : Part). p.before ≡ m.local p.thread) ps →
      AreApart (map (λ (p : Part). p.thread) ps) → AreLogs late seat ps →
      PartsWalked limits past early late seat ps (entries_in (map (part_entries file limits) ps))
  all_parts [] seat h before apart logs = record {
    timings = [];
    entries_are = refl;
    each = tt;
    known = tt;
    order = tt;
    stores = λ n c w made l k s. absurd (omega arith);
    raise = λ n made x l k s. absurd (omega arith);
  }
  all_parts (p ∷ ps) seat h before apart logs =
      make (one_part p seat h.0 before.0 logs.0) (all_parts ps (seat + 1) h.1 before.1 apart.1 logs.1)
    where
      make : Walked limits past early late p.thread seat (length early) p.before.last (part_entries file limits p) (seat_steps early seat late) →
          PartsWalked limits past early late (seat + 1) ps (entries_in (map (part_entries file limits) ps)) →
          PartsWalked limits past early late seat (p ∷ ps) (entries_in (map (part_entries file limits) (p ∷ ps)))
      make a b = record {
        timings = a.timings ++ b.timings;
        entries_are = map-append (λ (x : Timing). x.entry) a.timings b.timings ∙ ap₂ (λ (xs ys : List Entry). xs ++ ys) a.entries_are b.entries_are;
        each = each_append (IsOfRound limits past early late) a.timings b.timings
            (all_members (IsOfRound limits past early late) a.timings
            (λ x i. let z = at_member (IsOfPart limits past early late p.thread seat (length early) p.before.last) x a.timings a.each i in
            record { is = z.is; from = z.from; to = z.to; turn = z.turn })) b.each;
        known = each_append (λ (x : Timing). In x.entry.tid (map (λ (q : Part). q.thread) (p ∷ ps)) × (seat ≤ x.seat)) a.timings b.timings
            (all_members (λ (x : Timing). In x.entry.tid (map (λ (q : Part). q.thread) (p ∷ ps)) × (seat ≤ x.seat)) a.timings
            (λ x i. let z = at_member (IsOfPart limits past early late p.thread seat
            (length early) p.before.last) x a.timings a.each i in let y = z.seat_is in (inl z.thread_is, omega arith)))
            (all_members (λ (x : Timing). In x.entry.tid (map (λ (q : Part). q.thread) (p ∷ ps)) × (seat ≤ x.seat)) b.timings
            (λ x i. let z = at_member (λ (x : Timing). In x.entry.tid (map (λ (q : Part). q.thread) ps) × (seat + 1 ≤ x.seat)) x b.timings b.known i in
            let y = z.1 in (inr z.0, omega arith)));
        order = order_append AreParted a.timings b.timings
            (order_as IsSoonerInPart AreParted a.timings (λ x y i j r. inr r) a.order) b.order across;
        stores = stores;
        raise = raise;
      }
        where
          across : (x y : Timing) → In x a.timings → In y b.timings → AreParted x y
          across x y i j =
              let u = at_member (IsOfPart limits past early late p.thread seat (length early) p.before.last) x a.timings a.each i in
              let v = at_member (λ (x : Timing). In x.entry.tid (map (λ (q : Part). q.thread) ps) × (seat + 1 ≤ x.seat)) y b.timings b.known j in
              let ne : p.thread ≢ y.entry.tid = at_member (λ (t : ℕ). p.thread ≢ t) y.entry.tid (map (λ (q : Part). q.thread) ps) apart.0 v.0 in
              let s = u.seat_is in
              let r = v.1 in
              inl (λ q. ne (sym u.thread_is ∙ q), λ q. absurd (omega arith))

          stores : (n c w : ℕ) (made : Past) → seat ≤ n → n < seat + length (p ∷ ps) → Stands late made (n, Store c w) →
              IsStoreOf (a.timings ++ b.timings) c w (length (made ++ early))
          stores n c w made l k s = elim (cases_eq n seat) [
            | inl e ↦
                let r = a.stores c w (length (made ++ early))
                (seat_has early seat late made (Store c w) (subst (λ (z : ℕ). Stands late made (z, Store c w)) e s)) in
                (r.0, in_left r.0 a.timings b.timings r.1, r.2)
            | inr ne ↦
                let r = b.stores n c w made (omega arith) (omega arith) s in
                (r.0, in_right r.0 a.timings b.timings r.1, r.2)
          ]

          raise : (n : ℕ) (made : Past) (x : Item) → seat ≤ n → n < seat + length (p ∷ ps) → Stands late made (n, x) → Raises last_in x × Raises
              (made_in limits) x
          raise n made x l k s = elim (cases_eq n seat) [
            | inl e ↦ at_member (StepRaises limits) (x, length (made ++ early)) (seat_steps early seat late) a.raise
                (seat_has early seat late made x (subst (λ (z : ℕ). Stands late made (z, x)) e s))
            | inr ne ↦ b.raise n made x (omega arith) (omega arith) s
          ]

-- ---- stamps rise

-- what holds of each step where it stands holds of all
all_raise : (measure : Object → ℕ) (late : Past) → ((n : ℕ) (made : Past) (x : Item) → Stands late made (n, x) → Raises measure x) → AllRaise measure late
all_raise measure [] h = tt
all_raise measure ((n, x) ∷ late) h = (h n late x (inl (refl, refl)), all_raise measure late (λ k made y s. h k made y (inr s)))

-- a step without a deed leaves its object as it was
untold : (measure : Object → ℕ) (x : Item) → IsTagged {L = Stamped Hand} {A = Unit {0}} {T = Tells} x [] → Raises measure x
untold measure (Give k i f l) e = let q = ap measure e in omega arith
untold measure (Take k i) e = tt
untold measure (Split k) e = tt
untold measure (Join k) e = tt
untold measure (Load c w) e = tt
untold measure (Store c w) e = tt

-- the seat is that of a part, or not
seat_cases : (r : PartRound) (n : ℕ) → IsSeatOfPart r n ⊎ (IsSeatOfPart r n → ⊥)
seat_cases r n = elim (cases_lt n r.first_seat) [
  | inl l ↦ inr (λ h. absurd (let z = h.0 in omega arith))
  | inr l ↦ elim (cases_lt n (r.first_seat + length r.parts)) [
    | inl k ↦ inl (l, k)
    | inr k ↦ inr (λ h. absurd (let z = h.1 in omega arith))
  ]
]

-- ---- as the entries are listed

pub record RoundTimed (limits : Limits) (past : Past) (round : ℕ) (r : PartRound) : Type 0 where
  pub timings : List Timing
  pub entries_are : entries_timed timings ≡ r.entries
  pub each : Each (IsOfRound limits past r.early r.late) timings
  pub rounds : Each (λ (x : Timing). x.entry.round ≡ round) timings
  pub order : InOrder IsSoonerInRound timings
  pub stores : (n c w : ℕ) (made : Past) → Stands r.late made (n, Store c w) → IsStoreOf timings c w (length (made ++ r.early))

has_entries : (xs : List Timing) → AllZip (λ (x : Timing) (e : Entry). x.entry ≡ e) xs (entries_timed xs)
has_entries [] = tt
has_entries (x ∷ xs) = (refl, has_entries xs)

from_entries : (xs : List Timing) (es : List Entry) → AllZip (λ (x : Timing) (e : Entry). x.entry ≡ e) xs es → entries_timed xs ≡ es
from_entries [] [] h = refl
from_entries [] (e ∷ es) h = absurd h
from_entries (x ∷ xs) [] h = absurd h
from_entries (x ∷ xs) (e ∷ es) h = ap₂ (λ (d : Entry) (ds : List Entry). d ∷ ds) h.0 (from_entries xs es h.1)

module _ (file : List ℕ) (limits : Limits) (lay : Layout) (round era : ℕ) (m : State (Stamped Hand) Object) (r : PartRound)
    (h : IsPartRound file limits lay round era m r) (past before : Past) (g : GoesOn limits before m r)
    (up : (n : ℕ) (s : Step) → IsLate r.early r.late n s → WasMade past n s) where
  abbrev parted_entries : List Entry
  parted_entries = entries_in (map (part_entries file limits) r.parts)

  walked : PartsWalked limits past r.early r.late r.first_seat r.parts parted_entries
  walked = all_parts file limits era past r.early r.late up m
      (λ t. let a = h.stamps.threads t in let b = h.stamps.places (desk + 1 + t) in omega arith)
      h.private r.parts r.first_seat h.parts h.before h.apart (are_logs r.late r.first_seat r.parts h.logs)

  raises : AllRaise last_in r.late
  raises = all_raise last_in r.late (λ n made x s. elim (seat_cases r n) [
    | inl is ↦ (walked.raise n made x is.0 is.1 s).0
    | inr other ↦ untold last_in x (h.others n (length (log_of n made)) x other (item_in_log r.late made n x s))
  ])

  makes_more : AllRaise (made_in limits) r.late
  makes_more = all_raise (made_in limits) r.late (λ n made x s. elim (seat_cases r n) [
    | inl is ↦ (walked.raise n made x is.0 is.1 s).1
    | inr other ↦ untold (made_in limits) x (h.others n (length (log_of n made)) x other (item_in_log r.late made n x s))
  ])

  list : Moved (λ (x : Timing) (e : Entry). x.entry ≡ e) walked.timings r.entries
  list = moved (λ (x : Timing) (e : Entry). x.entry ≡ e) walked.timings parted_entries r.entries
      (subst (AllZip (λ (x : Timing) (e : Entry). x.entry ≡ e) walked.timings) walked.entries_are (has_entries walked.timings)) h.merged

  listed_are : entries_timed list.list ≡ r.entries
  listed_are = from_entries list.list r.entries list.goes

  walked_in : (x : Timing) → In x list.list → In x walked.timings
  walked_in x i = (list.same x).1 i

  entry_in : (x : Timing) → In x list.list → In x.entry r.entries
  entry_in x i = subst (In x.entry) listed_are (map_in (λ (z : Timing). z.entry) x list.list i)

  of_round : (x : Timing) → In x list.list → IsOfRound limits past r.early r.late x
  of_round x i = at_member (IsOfRound limits past r.early r.late) x walked.timings walked.each (walked_in x i)

  its_round : (x : Timing) → In x list.list → x.entry.round ≡ round
  its_round x i = (at_member (IsIn round era) x.entry r.entries h.inside (entry_in x i)).round

  -- two entries of the round, as they are listed
  module _ (x y : Timing) (i : In x list.list) (j : In y list.list) (first : Precedes x.entry y.entry) where
    cases : (x ≡ y) ⊎ (AreParted x y ⊎ AreParted y x)
    cases = order_cases AreParted x y walked.timings walked.order (walked_in x i) (walked_in y j)

    of_thread : x.entry.tid ≡ y.entry.tid → x.stop ≤ y.start
    of_thread same = go cases
      where
        lower : Precedes x.entry y.entry → x.entry.stamp < y.entry.stamp
        lower (inl l) = l
        lower (inr q) = absurd (let z = q.1 in omega arith)

        go : (x ≡ y) ⊎ (AreParted x y ⊎ AreParted y x) → x.stop ≤ y.start
        go (inl e) = absurd (let z = ap (λ (t : Timing). t.entry.stamp) e in let l = lower first in omega arith)
        go (inr (inl (inl d))) = absurd (d.0 same)
        go (inr (inl (inr s))) = s.1
        go (inr (inr (inl d))) = absurd (d.0 (sym same))
        go (inr (inr (inr s))) = absurd (let z = s.0 in let l = lower first in omega arith)

    at_object : x.place ≡ y.place → x.place ≤ desk → x.given ≤ y.taken
    at_object same low = go tx.give ty.give
      where
        tx : HasTurn limits r.early r.late x
        tx = (of_round x i).turn low

        ty : HasTurn limits r.early r.late y
        ty = (of_round y j).turn (omega arith)

        there : (made : Past) → Stands r.late made (y.seat, Give y.place ty.number ty.found ty.left) → Stands r.late made
            (y.seat, Give x.place ty.number ty.found ty.left)
        there made s = subst (λ (k : ℕ). Stands r.late made (y.seat, Give k ty.number ty.found ty.left)) (sym same) s

        less : (e1 e2 : Past) → Stands r.late e1 (x.seat, Give x.place tx.number tx.found tx.left) → Stands r.late e2
            (y.seat, Give x.place ty.number ty.found ty.left) → length (e1 ++ r.early) ≡ x.given →
            x.entry.stamp < y.entry.stamp → x.given ≤ y.taken
        less e1 e2 a b q l =
            let t = ty.take in
            let c : Stands (r.late ++ r.early) (t.made ++ r.early) (y.seat, Take x.place ty.number) =
            stands_more r.late r.early t.made (y.seat, Take x.place ty.number)
            (subst (λ (k : ℕ). Stands r.late t.made (y.seat, Take k ty.number)) (sym same) t.stands) in
            let sx = tx.stamp in
            let sy = ty.stamp in
            let z = given_before_taken lay last_in r.early r.late e1 e2
            (t.made ++ r.early) x.place x.seat y.seat tx.number ty.number tx.found tx.left ty.found ty.left
            h.lawful raises a b c (omega arith) in
            let u = t.place in
            let v = ty.taken in
            omega arith

        -- of two different turns one has the lesser stamp
        differ : (e1 e2 : Past) → Stands r.late e1 (x.seat, Give x.place tx.number tx.found tx.left) → Stands r.late e2
            (y.seat, Give x.place ty.number ty.found ty.left) → x.entry.stamp ≡ y.entry.stamp → x.entry.tid < y.entry.tid → ⊥
        differ e1 e2 a b q lt = which (two r.late e1 e2 (x.seat, Give x.place tx.number tx.found tx.left)
            (y.seat, Give x.place ty.number ty.found ty.left) a b)
          where
            one : x.seat ≡ y.seat → (x ≡ y) ⊎ (AreParted x y ⊎ AreParted y x) → ⊥
            one s (inl e) = let z = ap (λ (t : Timing). t.entry.tid) e in omega arith
            one s (inr (inl (inl d))) = d.1 s
            one s (inr (inl (inr d))) = let z = d.0 in omega arith
            one s (inr (inr (inl d))) = d.1 (sym s)
            one s (inr (inr (inr d))) = let z = d.0 in omega arith

            which : Stands e2 e1 (x.seat, Give x.place tx.number tx.found tx.left) ⊎
                (Stands e1 e2 (y.seat, Give x.place ty.number ty.found ty.left) ⊎
                ((step_by x.seat (Give x.place tx.number tx.found tx.left) ≡ step_by y.seat (Give x.place ty.number ty.found ty.left)) × (e1 ≡ e2))) → ⊥
            which (inl s) =
                let z = later_found lay last_in r.early r.late h.lawful raises x.place x.seat y.seat tx.number ty.number tx.found tx.left ty.found ty.left e1 e2 b s in
                let sx = tx.stamp in let sy = ty.stamp in let ry = ty.raised in omega arith
            which (inr (inl s)) =
                let z = later_found lay last_in r.early r.late h.lawful raises x.place y.seat x.seat ty.number tx.number ty.found ty.left tx.found tx.left e2 e1 a s in
                let sx = tx.stamp in let sy = ty.stamp in let rx = tx.raised in omega arith
            which (inr (inr s)) = one (ap (λ (z : ℕ × Item). z.0) s.0) cases

        go : IsLate r.early r.late x.seat (Give x.place tx.number tx.found tx.left, x.given) → IsLate r.early r.late y.seat
            (Give y.place ty.number ty.found ty.left, y.given) → x.given ≤ y.taken
        go a b = by_stamp first
          where
            by_stamp : Precedes x.entry y.entry → x.given ≤ y.taken
            by_stamp (inl l) = less a.made b.made a.stands (there b.made b.stands) a.place l
            by_stamp (inr q) = absurd (differ a.made b.made a.stands (there b.made b.stands) q.0 q.1)

    not_born : (child : ℕ) → In (events.Create child) x.entry.events → child ≢ y.entry.tid
    not_born child c e =
        let at = (of_round x i).is.places (events.Create child) desk c refl in
        let turn = (of_round x i).turn (omega arith) in
        let stands = subst (λ (k : ℕ). Stands r.late turn.give.made (x.seat, Give k turn.number turn.found turn.left)) at turn.give.stands in
        let grown = first_found lay (made_in limits) r.early r.late h.lawful makes_more desk x.seat turn.number turn.found turn.left
        (m.value desk) turn.give.made
        (h.values desk (let o = h.objects in omega arith)) stands in
        let free = turn.free child c in
        let known = (at_member (λ (z : Timing). In z.entry.tid (map (λ (p : Part). p.thread) r.parts) ×
        (r.first_seat ≤ z.seat)) y walked.timings walked.known (walked_in y j)).0 in
        let p = in_map (λ (p : Part). p.thread) y.entry.tid r.parts known in
        let born = at_member (λ (p : Part). p.thread < made_in limits (m.value desk)) p.0 r.parts g.born p.1 in
        let same = p.2 in
        omega arith

    sooner : IsSoonerInRound x y
    sooner = record { round = its_round x i ∙ sym (its_round y j); thread = of_thread; object = at_object; created = not_born }

  pub round_timed : RoundTimed limits past round r
  round_timed = record {
    timings = list.list;
    entries_are = listed_are;
    each = all_members (IsOfRound limits past r.early r.late) list.list of_round;
    rounds = all_members (λ (x : Timing). x.entry.round ≡ round) list.list its_round;
    order = order_as (λ (x y : Timing). Precedes x.entry y.entry) IsSoonerInRound list.list (λ x y i j p. sooner x y i j p)
        (order_map (λ (z : Timing). z.entry) Precedes list.list (subst (InOrder Precedes) (sym listed_are) (in_order Precedes r.entries h.ordered)));
    stores = stores;
  }
    where
      stores : (n c w : ℕ) (made : Past) → Stands r.late made (n, Store c w) → IsStoreOf list.list c w (length (made ++ r.early))
      stores n c w made s = elim (seat_cases r n) [
        | inl is ↦ let z = walked.stores n c w made is.0 is.1 s in (z.0, (list.same z.0).0 z.1, z.2)
        | inr other ↦ absurd (g.others n (length (log_of n made)) (Store c w) other (item_in_log r.late made n (Store c w) s))
      ]
