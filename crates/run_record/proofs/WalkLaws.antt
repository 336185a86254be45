-- The threads and the events of entries, and of the rows that they are kept as.
use Rattle.std.proofs.Common.{arith, ◌≡◌, ℕ, suc, ◌<◌, ◌^◌, List, [], ◌∷◌, length, map, refl, ◌∙◌, ap, subst}
use Rattle.std.specs.Prelude.{take, drop, All}
use Rattle.std.proofs.lemmas.List.{get_or-map, length-map}
use Rattle.std.proofs.lemmas.List.Elements.{All-map}
use Rattle.run_record.specs.declared.event.Event.{Event}
use Rattle.run_record.specs.declared.entry.Check.{Check}
use Rattle.run_record.specs.declared.entry.DeskNote.{DeskNote}
use Rattle.run_record.specs.declared.entry.Entry.{Entry}
use Rattle.run_record.specs.declared.flat.Row.{Row}
use Rattle.run_record.specs.declared.flat.Mark.{Mark}
use Rattle.run_record.specs.declared.walk.EntryEvents.{EntryEvents}
use Rattle.run_record.specs.Marks.{rest_at}
use Rattle.run_record.specs.Flat.{entries_of}
use Rattle.run_record.specs.Walk.{thread_events, rows_events, AreEventsOf, AreRowEvents}

abbrev entry_events : Entry → ℕ × List Event
entry_events e = (e.tid, e.events)

abbrev IsShort : ℕ × List Event → Type 0
IsShort p = length p.1 < 2 ^ 32

rows_events-entries : (n : ℕ) (rows : List Row) (notes : List (Mark DeskNote)) (es : List Event) (cs : List Check) →
    rows_events rows es ≡ map (λ (e : Entry). (e.tid, e.events)) (entries_of n rows notes es cs)
rows_events-entries n [] notes es cs = refl
rows_events-entries n (r ∷ rows) notes es cs =
    ap (λ (xs : List (ℕ × List Event)). (r.head.tid, take r.events es) ∷ xs)
    (rows_events-entries (suc n) rows (rest_at n notes) (drop r.events es) (drop r.checks cs))

-- what walks the rows walks the entries that are kept so
pub walk-rows : (n : ℕ) (rows : List Row) (notes : List (Mark DeskNote)) (es : List Event) (cs : List Check) (walk : List EntryEvents) →
    AreRowEvents rows es walk → AreEventsOf (entries_of n rows notes es cs) walk
walk-rows n rows notes es cs walk are =
    let entries = entries_of n rows notes es cs in
    let same : map thread_events walk ≡ map entry_events entries = are.same ∙ rows_events-entries n rows notes es cs in
    let short : All IsShort (map entry_events entries) = subst (All IsShort) same (All-map IsShort thread_events walk are.few) in
    record {
      same = same;
      few = λ k d within. subst IsShort (get_or-map entry_events entries k d (entry_events d) within)
          (short k (entry_events d) (omega (arith, length-map entries entry_events)));
    }
