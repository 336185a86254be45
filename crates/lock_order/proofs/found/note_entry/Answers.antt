use Rattle.std.proofs.Common.{◌≡◌, ℕ, List, suc, ◌+◌, ◌++◌, arith, get_or, sym, subst}
use Rattle.std.proofs.lemmas.List.{get_or_default}
use Rattle.run_record.specs.declared.event.Event.{Event}
use Rattle.run_record.specs.declared.event.Event.TheVariants.{Begin}
use Rattle.run_laws.specs.Moments.{Moment}
use Rattle.lock_order.specs.Found.{Follows}
use Rattle.lock_order.proofs.EdgeLaws.{some_moments, all_moments, follows-note, follows-more}
use Rattle.lock_order.proofs.found.note_entry.Goals as goal

pub loop-event-init : goal.loop-event-init
loop-event-init c = λ h i f.
    follows-note h i c.args.entry.now.round c.args.entry.now.tid c.args.entry.now.note c.args.held.now.items c.args.found.now f

pub loop-event-preserved : goal.loop-event-preserved
loop-event-preserved c = λ h i f.
    let e = c.args.entry.now in
    let k = c.loop-event.event-index in
    let event : Event = get_or e.events k Begin in
    let next : k + 1 ≡ suc k = omega arith in
    let locks = rw c.as_slice-event-items.ensures at c.in_ok-note_event.ensures.locks in
    let edges = rw c.as_slice-event-items.ensures at c.in_ok-note_event.ensures.edges in
    let l = rw c.as_slice-event-items.ensures at c.loop-event-test.true in
    subst (λ (n : ℕ). Follows (h ++ some_moments i e n) c.note_event.new.held.items c.note_event.new.found) (sym next)
    (follows-more h i e k event c.loop-event.held.items c.note_event.new.held.items c.loop-event.found c.note_event.new.found l
    (get_or_default e.events k Begin event l) locks edges
    (c.loop-event.invariant h i f))

pub returns : goal.returns
returns c = λ h i f.
    let full = rw c.as_slice-event-items.ensures at c.loop-event-test.false in
    subst (λ (ms : List Moment). Follows (h ++ ms) c.loop-event.held.items c.loop-event.found)
    (all_moments i c.args.entry.now c.loop-event.event-index full) (c.loop-event.invariant h i f)
