use Rattle.std.proofs.Common.{◌≡◌, ℕ, suc, ◌+◌, arith, get_or, length, subst}
use Rattle.run_record.specs.declared.event.Event.TheVariants.{Begin}
use Rattle.offline_audit.specs.Known.{Stands}
use Rattle.offline_audit.specs.Mutexes.{without_mutexes, AreAwaited}
use Rattle.offline_audit.proofs.MutexLaws.{without_stands, awaited_next}
use Rattle.offline_audit.proofs.order.note_without.Goals as goal

pub loop-event-init : goal.loop-event-init
loop-event-init c = (
  omega arith,
  λ h number n nums makes left st.
      let same : n + 0 ≡ n = omega arith in
      rw same (st, left),
)

pub loop-event-preserved : goal.loop-event-preserved
loop-event-preserved c =
    let es = c.args.events.now in
    let k = c.loop-event.event-index in
    let l = c.loop-event-test.true in
    let noted = c.in_ok-note_or_pass.ensures.noted in
    let left = c.in_ok-note_or_pass.ensures.left in (
      let a = c.in_ok-note_or_pass.ensures.count in let b = c.loop-event.invariant.0 in omega arith,
      λ h number n nums makes awaited st.
          let next : n + (k + 1) ≡ suc (n + k) = omega arith in
          let before = c.loop-event.invariant.1 h number n nums makes awaited st in
          rw next (
            without_stands h (n + k) c.args.tid (get_or es k Begin) (makes k Begin l) c.loop-event.left c.note_or_pass.new.left before.1 number nums
                c.loop-event.known c.note_or_pass.new.known c.in_ok-note_or_pass.ensures.passed noted before.0,
            awaited_next h (n + k) c.args.tid (get_or es k Begin) (makes k Begin l) c.loop-event.left c.note_or_pass.new.left before.1 left,
          ),
    )

pub returns-clause-stands : goal.returns-clause-stands
returns-clause-stands c = λ h number n nums makes awaited st.
    let full = c.loop-event-test.false in
    let most = c.loop-event.auto.event-index-end in
    let same : c.loop-event.event-index ≡ length c.args.events.now = omega arith in
    subst (λ (x : ℕ). Stands (without_mutexes h) number (n + x) c.loop-event.known × AreAwaited h (n + x) c.loop-event.left) same
    (c.loop-event.invariant.1 h number n nums makes awaited st)
