use Rattle.std.proofs.Common.{◌≤◌, ℕ, List, length, ap, sym, subst, arith}
use Rattle.run_record.specs.declared.event.Event.{Event}
use Rattle.run_record.specs.declared.entry.Entry.{Entry}
use Rattle.run_record.specs.Walk.{AreEventsOf}
use Rattle.offline_audit.proofs.WalkedEntries.{entry_walked, as_many}
use Rattle.offline_audit.proofs.AccessLaw.{none_of, entry_more, all_of}
use Rattle.offline_audit.proofs.access.in_order.Goals as goal

pub loop-n-init : goal.loop-n-init
loop-n-init c = none_of c.args.history.now.entries c.new-made.result.items c.new-made.ensures.items

pub loop-n-preserved : goal.loop-n-preserved
loop-n-preserved c =
    let entries : List Entry = c.args.history.now.entries in
    let n = c.loop-n.n in
    let are = subst (AreEventsOf entries) (sym c.deref-entry-items.ensures.value) c.in_ok-walk.ensures.same in
    let it = entry_walked entries c.deref-entry-items.result.now are n _ c.loop-n-test.true in
    entry_more entries n it.entry c.loop-n.made.items c.add_accesses.new.made.items it.listed c.loop-n.invariant
    (c.in_ok-add_accesses.ensures it.entry (ap (λ (p : ℕ × List Event). p.0) it.same) (ap (λ (p : ℕ × List Event). p.1) it.same))

pub returns : goal.returns
returns c =
    let entries : List Entry = c.args.history.now.entries in
    let are = subst (AreEventsOf entries) (sym c.deref-entry-items.ensures.value) c.in_ok-walk.ensures.same in
    let many = as_many entries c.deref-entry-items.result.now are in
    let past = c.loop-n-test.false in
    let full : length entries ≤ c.loop-n.n = omega arith in
    all_of entries c.loop-n.n c.loop-n.made.items full c.loop-n.invariant
