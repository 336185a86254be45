use Rattle.std.proofs.Common.{◌<◌, ◌+◌, ◌≤◌, List, length, sym, subst}
use Rattle.run_record.specs.declared.event.Event.{Event}
use Rattle.offline_audit.proofs.AccessLaw.{AreWith, access_step, none_with, all_with}
use Rattle.offline_audit.proofs.access.add_accesses.Goals as goal

pub loop-n-init : goal.loop-n-init
loop-n-init c = λ entry tid events. none_with c.args.number entry c.args.made.now.items

pub loop-n-preserved : goal.loop-n-preserved
loop-n-preserved c = λ entry tid events.
    let number = c.args.number in
    let n = c.loop-n.n in
    let old = c.args.made.now.items in
    let l : n < length entry.events = subst (λ (es : List Event). n < length es) (sym events) c.loop-n-test.true in
    let items = rw (sym tid, sym events) at c.in_ok-add_access.ensures in
    subst (AreWith number entry (n + 1) old) (sym items) (access_step number entry n old c.loop-n.made.items l (c.loop-n.invariant entry tid events))

pub returns : goal.returns
returns c = λ entry tid events.
    let full : length entry.events ≤ c.loop-n.n = subst (λ (es : List Event). length es ≤ c.loop-n.n) (sym events) c.loop-n-test.false in
    all_with c.args.number entry c.loop-n.n c.args.made.now.items c.loop-n.made.items full (c.loop-n.invariant entry tid events)
