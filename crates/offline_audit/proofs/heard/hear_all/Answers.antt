use Rattle.std.proofs.Common.{refl, arith}
use Rattle.offline_audit.specs.Heard.{known_of, steps_of}
use Rattle.offline_audit.proofs.Entries.{greatest-known, found_known, more_heard, own_passed}
use Rattle.offline_audit.proofs.heard.hear_all.Goals as goal

pub loop-other-init : goal.loop-other-init
loop-other-init c =
    let gives = c.into_iter-other-iterator.ensures.into_iter_gives in
    (λ u. rw (gives.0, greatest-known c.args.clock.now gives.6 u) refl, rw gives.0 (found_known c.args.clock.now gives.6))

pub loop-other-preserved-in-Continue-1 : goal.loop-other-preserved-in-Continue-1
loop-other-preserved-in-Continue-1 c =
    more_heard c.args.at c.args.tid c.in-Some.other.now c.in-Some.known.now (known_of c.args.clock.now) _ c.next.new.self
    (steps_of c.loop-other.heard) (steps_of c.hear.new.heard) _ c.in-Some.ensures.steps (grind arith) c.in_ok-hear.ensures c.loop-other.invariant

pub loop-other-preserved : goal.loop-other-preserved
loop-other-preserved c =
    own_passed c.args.at c.args.tid c.in-Some.other.now c.in-Some.known.now (known_of c.args.clock.now) _ c.next.new.self
    (steps_of c.loop-other.heard) _ c.in-Some.ensures.steps (grind arith) c.loop-other.invariant
