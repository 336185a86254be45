use Rattle.std.proofs.Common.{◌≡◌, ℕ, suc, ◌+◌, arith, get_or, length, subst}
use Rattle.run_record.specs.declared.event.Event.TheVariants.{Begin}
use Rattle.offline_audit.specs.Known.{Stands}
use Rattle.offline_audit.proofs.StandsLaw.{event_stands}
use Rattle.offline_audit.proofs.order.note_entry.Goals as goal

pub loop-event-preserved : goal.loop-event-preserved
loop-event-preserved c =
    let es = c.args.events.now in
    let k = c.loop-event.event-index in
    let l = c.loop-event-test.true in
    let goes = c.in_ok-note_event.ensures in (
      let a = goes.count in let b = c.loop-event.invariant.0 in omega arith,
      λ h number n nums makes st.
          let next : n + (k + 1) ≡ suc (n + k) = omega arith in
          rw next (event_stands h number nums (n + k) c.args.tid (get_or es k Begin) (makes k Begin l)
          c.loop-event.known c.note_event.new.known (c.loop-event.invariant.1 h number n nums makes st) goes),
    )

pub returns-clause-stands : goal.returns-clause-stands
returns-clause-stands c = λ h number n nums makes st.
    let full = c.loop-event-test.false in
    let most = c.loop-event.auto.event-index-end in
    let same : c.loop-event.event-index ≡ length c.args.events.now = omega arith in
    subst (λ (x : ℕ). Stands h number (n + x) c.loop-event.known) same (c.loop-event.invariant.1 h number n nums makes st)
