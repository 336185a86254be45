-- Rounds of parts at the shared table.
use Rattle.std.specs.Prelude.{◌≡◌, ◌<◌, ◌≤◌, ◌+◌, ℕ, zero, suc, Bool, if◌then◌else◌, IsPermutation, List, [], ◌∷◌, ◌++◌, length, map, flat_map, take, drop, slice_get, None, Some}
use Rattle.std.specs.Prelude.{◌==◌}
use mathlib.Core.Option.{some}
use lib.ListN.{get_elem?}
use Rattle.run_record.specs.declared.limits.Limits.{Limits}
use Rattle.run_record.specs.declared.entry.Entry.{Entry}
use Rattle.run_record.specs.Order.{AreOrdered, entries_in}
use Rattle.bare_machine.specs.Step.{desk}
use Rattle.turn_orders.specs.Lists.{Each}
use Rattle.turn_orders.specs.Machine.{State}
use Rattle.turn_orders.specs.LineUp.{Stamped}
use Rattle.turn_histories.specs.Rounds.{IsIn}
use Rattle.shared_table.specs.declared.object.Object.{Object}
use Rattle.shared_table.specs.declared.view.Layout.{Layout}
use Rattle.shared_table.specs.declared.view.Item.{Item}
use Rattle.shared_table.specs.declared.view.Item.TheVariants.{Give}
use Rattle.shared_table.specs.Layouts.{objects_of}
use Rattle.shared_table.specs.Past.{Past, Log, log_of, Lawful}
use Rattle.woven_turns.specs.Weave.{Tags, IsTagged}
use Rattle.woven_turns.specs.Following.{left_after}
use Rattle.placed_detector.specs.Standing.{Hand}
use Rattle.deed_histories.specs.Lines.{Tells}
use Rattle.table_deeds.specs.Objects.{ObjectDeed}
use Rattle.table_deeds.specs.Listing.{AreApart}
use Rattle.table_deeds.specs.Rounds.{TableRound, made_in, last_stamp, HasObjects, HaveStamps, IsNextState}
use Rattle.hart_parts.specs.Parts.{Part, IsStretch, at_last_object, rest_deeds, part_entries, IsPrivate, IsPart}

-- A round: the past before it and its own; the parts of its threads, of which the first has the seat of that number, the second the
-- next one, and so on; the entries as the parts' logs are merged; the greatest stamp before it; whether an era begins after it; and
-- what threads and the table have when the next one begins.
pub record PartRound : Type 0 where
  pub early : Past
  pub late : Past
  pub parts : List Part
  pub first_seat : ℕ
  pub entries : List Entry
  pub base : ℕ
  pub ends : Bool
  pub next : State (Stamped Hand) Object

-- the deed of an item: a give has the first of those that are left, if there is one; no other item has any
abbrev pub told_at : List ObjectDeed → Item → List ObjectDeed
told_at ds (Give k i found left) = take 1 ds
told_at ds _ = []

-- the deeds that are left for the items behind it
abbrev pub told_after : List ObjectDeed → Item → List ObjectDeed
told_after ds (Give k i found left) = drop 1 ds
told_after ds _ = ds

-- Along a log each give has the next of the deeds, so long as there is one. (A give behind all deeds has none: it is that of a turn
-- which found no slot.)
abbrev pub tags_along : List ObjectDeed → Log → ℕ → List ObjectDeed
tags_along ds [] j = []
tags_along ds (x ∷ log) zero = told_at ds x
tags_along ds (x ∷ log) (suc j) = tags_along (told_after ds x) log j

-- Where a deed stands in a log of these deeds: behind the items `front` is its stretch, whose last item, the give, has the deed.
pub record StandsIn (ds : List ObjectDeed) (log : Log) (d : ObjectDeed) : Type 0 where
  pub front : Log
  pub items : Log
  pub back : Log
  pub whole : log ≡ front ++ (items ++ back)
  pub is : IsStretch d items
  pub place : ℕ
  pub last : suc place ≡ length front + length items
  pub give : get_elem? log place ≡ some (Give d.call.place is.number d.found d.left)
  pub told : tags_along ds log place ≡ d ∷ []

-- what the seat of that number tells of its items, where the parts have the seats from `first` on
abbrev pub tag_from : ℕ → List Part → Tags (Stamped Hand) (Unit {0}) Tells
tag_from first [] n j = []
tag_from first (p ∷ ps) n j = if n == first then tags_along p.deeds p.log j else tag_from (first + 1) ps n j

-- the seat of a thread; of one without a part the opening seat
abbrev pub seat_from : ℕ → List Part → ℕ → ℕ
seat_from first [] t = 0
seat_from first (p ∷ ps) t = if p.thread == t then first else seat_from (first + 1) ps t

-- the deeds without an object
abbrev pub alone_of : State (Stamped Hand) Object → List Part → List ObjectDeed
alone_of m ps = flat_map (λ (p : Part). rest_deeds p.thread (at_last_object p) (m.value (desk + 1 + p.thread)) p.rest) ps

-- the round as the laws of the table have it
abbrev pub table_round : State (Stamped Hand) Object → PartRound → TableRound
table_round m r = record {
  early = r.early;
  late = r.late;
  tag = tag_from r.first_seat r.parts;
  seat = seat_from r.first_seat r.parts;
  alone = alone_of m r.parts;
  workers = map (λ (p : Part). p.thread) r.parts;
  entries = r.entries;
  base = r.base;
  ends = r.ends;
  next = r.next;
}

-- the seat is that of a part
abbrev pub IsSeatOfPart : PartRound → ℕ → Type 0
IsSeatOfPart r n = (r.first_seat ≤ n) × (n < r.first_seat + length r.parts)

-- A round from this state on, of that number and era. Each thread has the greatest stamp so far, no place has a greater one, and no
-- thread keeps what it was given. Each worker made a part from what its thread had; its log is that of its seat in the past; and
-- no other seat gave anything back. The entries of the parts are merged by stamp and then by thread.
pub record IsPartRound (file : List ℕ) (limits : Limits) (lay : Layout) (round era : ℕ) (m : State (Stamped Hand) Object) (r : PartRound) : Type 0 where
  pub stamps : HaveStamps m r.base
  pub lawful : Lawful lay (r.late ++ r.early)
  pub objects : objects_of lay ≡ desk + 1
  pub values : HasObjects lay r.early m
  pub private : (k : ℕ) → desk < k → IsPrivate limits (m.value k)
  pub begun : (t : ℕ) → (m.local t).state.given ≡ None
  pub opening : 0 < r.first_seat
  pub parts : Each (IsPart file limits era) r.parts
  pub before : Each (λ (p : Part). p.before ≡ m.local p.thread) r.parts
  pub apart : AreApart (map (λ (p : Part). p.thread) r.parts)
  pub logs : (i : ℕ) (p : Part) → slice_get r.parts i ≡ Some p → log_of (r.first_seat + i) r.late ≡ p.log
  pub others :
      (n j : ℕ) (x : Item) → (IsSeatOfPart r n → ⊥) → get_elem? (log_of n r.late) j ≡ some x →
      IsTagged {L = Stamped Hand} {A = Unit {0}} {T = Tells} x []
  pub merged : IsPermutation (entries_in (map (part_entries file limits) r.parts)) r.entries
  pub ordered : AreOrdered r.entries
  pub inside : Each (IsIn round era) r.entries
  pub onward : IsNextState (left_after m (made_in (table_round m r))) r.next era (last_stamp (table_round m r)) r.ends

-- rounds one after another
abbrev pub ArePartRounds : List ℕ → Limits → Layout → ℕ → ℕ → ℕ → State (Stamped Hand) Object → List PartRound → Type 0
ArePartRounds file limits lay round era base m [] = Unit {0}
ArePartRounds file limits lay round era base m (r ∷ rs) =
    (r.base ≡ base) × IsPartRound file limits lay round era m r
    × ArePartRounds file limits lay (round + 1) (if r.ends then era + 1 else era) (last_stamp (table_round m r)) r.next rs

-- the same rounds as the laws of the table have them
abbrev pub table_rounds : State (Stamped Hand) Object → List PartRound → List TableRound
table_rounds m [] = []
table_rounds m (r ∷ rs) = table_round m r ∷ table_rounds r.next rs
