use Rattle.std.proofs.Common.{◌≡◌, ℕ, suc, ◌+◌, ◌<◌, ◌≤◌, ◌^◌, length, take, List, [], ◌∷◌, ◌++◌, arith, sym, ap, subst}
use Rattle.std.proofs.lemmas.List.{take_all}
use Rattle.run_record.specs.declared.entry.Entry.{Entry}
use Rattle.run_record.specs.declared.event.Event.{Event}
use Rattle.run_record.specs.Walk.{AreEventsOf}
use Rattle.run_laws.specs.Moments.{moments, items}
use Rattle.offline_audit.specs.declared.order.Row.{Row}
use Rattle.offline_audit.specs.Known.{Stands}
use Rattle.offline_audit.specs.Orders.{Makes, events_before, start_of, AreRows}
use Rattle.offline_audit.proofs.MomentPlaces.{nothing_stands, makes, start_stands, next_start, rows_more, are_numbers, numbers_of, start_awaited, within}
use Rattle.offline_audit.specs.Mutexes.{without_mutexes, AreAwaited}
use Rattle.offline_audit.proofs.MutexLaws.{still_made, none_awaited}
use Rattle.offline_audit.proofs.WalkedEntries.{entry_walked, as_many, entry_short}
use Rattle.offline_audit.proofs.order.Order.without_mutexes.Goals as goal

pub loop-entry-init : goal.loop-entry-init
loop-entry-init c = (
  nothing_stands (without_mutexes (items (moments c.args.history.now.entries))) c.args.history.now.entries c.new-known.result c.new-known.ensures.count c.new-known.ensures.steps c.new-known.ensures.places,
  (ap (λ (rows : List Row). length rows) c.new-rows.ensures.items, λ k x e d l. absurd (omega arith)),
  let q = c.new-known.ensures.count in omega arith,
  none_awaited (items (moments c.args.history.now.entries)) c.new-left.result c.new-left.ensures.empty,
)

pub loop-entry-preserved : goal.loop-entry-preserved
loop-entry-preserved c =
    let entries : List Entry = c.args.history.now.entries in
    let h = items (moments entries) in
    let k = c.loop-entry.entry-index in
    let known = c.loop-entry.known in
    let walk = c.deref-entry-items.result.now in
    let are = subst (AreEventsOf entries) (sym c.deref-entry-items.ensures.value) c.in_ok-walk.ensures.same in
    let it = entry_walked entries walk are k _ c.loop-entry-test.true in
    let e : Entry = it.entry in
    let listed = it.listed in
    let many_walked = as_many entries walk are in
    let w = c.loop-entry-test.true in
    let l : k < length entries = omega arith in
    let at = start_stands entries k e l listed (without_mutexes h) (still_made h) known c.loop-entry.invariant.0 in
    let awaited = start_awaited entries k e l listed c.loop-entry.left c.loop-entry.invariant.3 in
    let after = c.in_ok-note_without.ensures.stands h (events_before h) (start_of entries k e) (are_numbers h)
    (subst (λ (p : ℕ × List Event). Makes h (start_of entries k e) p.0 p.1) it.same (makes entries k e l listed)) awaited at in
    let next : k + 1 ≡ suc k = omega arith in
    let place = next_start entries k e l listed in
    let small : length e.events < 2 ^ 32 = entry_short entries walk are k e listed in
    let events = ap (λ (p : ℕ × List Event). p.1) it.same in
    let many_events = ap (λ (es : List Event). length es) events in
    let bound = c.loop-entry.invariant.2 in
    let many = c.in_ok-walk.ensures.few.count in
    let few : known.count + length e.events < 2 ^ 64 = omega arith in (
      subst (λ (i : ℕ). Stands (without_mutexes h) (events_before h) (length (moments (take i entries))) c.note_without.new.known) (sym next)
          (subst (λ (n : ℕ). Stands (without_mutexes h) (events_before h) n c.note_without.new.known) (sym place)
          (subst (λ (es : List Event). Stands (without_mutexes h) (events_before h) (start_of entries k e + length es) c.note_without.new.known) (sym events) after.0)),
      subst (λ (i : ℕ). AreRows (events_before h) entries i c.push.new.self.items) (sym next)
          (subst (λ (rows : List Row). AreRows (events_before h) entries (suc k) rows) (sym c.in_ok-push.ensures.items)
          (subst (λ (p : ℕ × List Event). AreRows (events_before h) entries (suc k) (c.loop-entry.rows.items ++ record { tid = p.0; first = known.count } ∷ [])) it.same
          (rows_more entries k e l listed known c.loop-entry.rows.items few at.count c.loop-entry.invariant.1))),
      let a = c.in_ok-note_without.ensures.count in omega arith,
      subst (λ (i : ℕ). AreAwaited h (length (moments (take i entries))) c.note_without.new.left) (sym next)
          (subst (λ (n : ℕ). AreAwaited h n c.note_without.new.left) (sym place)
          (subst (λ (es : List Event). AreAwaited h (start_of entries k e + length es) c.note_without.new.left) (sym events) after.1)),
    )

pub returns : goal.returns
returns c =
    let entries : List Entry = c.args.history.now.entries in
    let h = items (moments entries) in
    let many = as_many entries c.deref-entry-items.result.now (subst (AreEventsOf entries) (sym c.deref-entry-items.ensures.value) c.in_ok-walk.ensures.same) in
    let past = c.loop-entry-test.false in
    let most = c.loop-entry.auto.entry-index-end in
    let full : length entries ≤ c.loop-entry.entry-index = omega arith in
    let same : c.loop-entry.entry-index ≡ length entries = omega arith in
    let all : take c.loop-entry.entry-index entries ≡ entries = take_all c.loop-entry.entry-index entries full in
    let stands = subst (λ (es : List Entry). Stands (without_mutexes h) (events_before h) (length (moments es)) c.loop-entry.known) all c.loop-entry.invariant.0 in
    record {
      number = events_before h;
      numbers = numbers_of h (without_mutexes h) (still_made h);
      within = λ n t v q. within entries n t v (still_made h n t v q);
      rows = subst (λ (i : ℕ). AreRows (events_before h) entries i c.loop-entry.rows.items) same c.loop-entry.invariant.1;
      heard = stands.threads;
    }
