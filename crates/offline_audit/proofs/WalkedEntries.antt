-- The threads and the events of a history's entries, one by one.
use Rattle.std.proofs.Common.{◌≡◌, ℕ, zero, suc, ◌<◌, List, [], ◌∷◌, length, map, get_or, Some, refl, sym, ap, subst, ◌∙◌, arith}
use Rattle.std.specs.Prelude.{slice_get, ◌^◌, All}
use Rattle.std.proofs.lemmas.List.{length-map}
use Rattle.std.proofs.lemmas.Option.{slice_get_within, get_or_from_slice_get}
use Rattle.run_record.specs.declared.event.Event.{Event}
use Rattle.run_record.specs.declared.entry.Entry.{Entry}
use Rattle.run_record.specs.declared.walk.EntryEvents.{EntryEvents}
use Rattle.run_record.specs.Walk.{thread_events, AreEventsOf}

abbrev entry_events : Entry → ℕ × List Event
entry_events e = (e.tid, e.events)

-- an entry of the history with that thread and those events
pub record IsEntry (entries : List Entry) (k tid : ℕ) (events : List Event) : Type 0 where
  pub entry : Entry
  pub listed : slice_get entries k ≡ Some entry
  pub same : ◌≡◌ {A = ℕ × List Event} (entry.tid, entry.events) (tid, events)

entry_at : (entries : List Entry) (walk : List EntryEvents) → map thread_events walk ≡ map entry_events entries → (k : ℕ) (d : EntryEvents) → k < length walk →
    IsEntry entries k (get_or walk k d).tid (get_or walk k d).events.now
entry_at [] [] q k d l = absurd (omega arith)
entry_at [] (w ∷ ws) q k d l = absurd (let z = ap (λ (xs : List (ℕ × List Event)). length xs) q in cc)
entry_at (e ∷ es) [] q k d l = absurd (omega arith)
entry_at (e ∷ es) (w ∷ ws) q zero d l = record {
  entry = e;
  listed = refl;
  same = let z : ◌≡◌ {A = ℕ × List Event} (w.tid, w.events.now) (e.tid, e.events) = cc in sym z;
}
entry_at (e ∷ es) (w ∷ ws) q (suc k) d l =
    let rest : map thread_events ws ≡ map entry_events es = cc in
    let it = entry_at es ws rest k d (omega arith) in
    record { entry = it.entry; listed = it.listed; same = it.same }

pub entry_walked : (entries : List Entry) (walk : List EntryEvents) → AreEventsOf entries walk → (k : ℕ) (d : EntryEvents) → k < length walk →
    IsEntry entries k (get_or walk k d).tid (get_or walk k d).events.now
entry_walked entries walk are k d l = entry_at entries walk are.same k d l

pub as_many : (entries : List Entry) (walk : List EntryEvents) → AreEventsOf entries walk → length walk ≡ length entries
as_many entries walk are =
    sym (length-map walk thread_events) ∙ (ap (λ (xs : List (ℕ × List Event)). length xs) are.same ∙ length-map entries entry_events)

pub entry_short : (entries : List Entry) (walk : List EntryEvents) → AreEventsOf entries walk → (k : ℕ) (e : Entry) → slice_get entries k ≡ Some e → length e.events < 2 ^ 32
entry_short entries walk are k e listed =
    subst (λ (x : Entry). length x.events < 2 ^ 32) (get_or_from_slice_get entries k e e listed) (are.few k e (slice_get_within entries k e listed))

pub are_short : (entries : List Entry) (walk : List EntryEvents) → AreEventsOf entries walk → All (λ (w : EntryEvents). length w.events.now < 2 ^ 32) walk
are_short entries walk are k d l =
    let it = entry_walked entries walk are k d l in
    subst (λ (p : ℕ × List Event). length p.1 < 2 ^ 32) it.same (entry_short entries walk are k it.entry it.listed)
