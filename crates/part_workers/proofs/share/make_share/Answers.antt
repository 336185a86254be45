use Rattle.std.proofs.Common.{◌<◌, ◌-◌, None, refl, sym, ◌∙◌, arith}
use Rattle.turn_orders.specs.LineUp.{with_stamp}
use Rattle.hart_turns.specs.Slots.{hand_of}
use Rattle.part_workers.proofs.Sharing.{begins_midway, midway_more, midway_next, share_made, thread_ended, is_starved}
use Rattle.part_workers.proofs.share.make_share.Goals as goal
use Rattle.part_workers.proofs.share.make_share.Goals.{then-left-eq0-via-then-left-eq0, then-left-eq0-via-else-left-eq0+then-has_ended}

pub loop-init : goal.loop-init
loop-init g c = record {
  own = c.requires.own;
  free = c.requires.free;
  number = refl;
  midway = begins_midway c.args.image.now c.args.limits.now c.args.post.now c.args.share c.args.seat.now.me.0.log c.args.state.now c.args.part.now
      c.requires.new c.requires.of_part c.requires.untold;
  left = omega arith;
}

pub returns-then-left-eq0-clause-stopped : goal.returns-then-left-eq0-clause-stopped
returns-then-left-eq0-clause-stopped g c =
    let m = midway_more c.args.image.now c.args.limits.now c.args.post.now c.args.share (with_stamp (hand_of c.args.state.now None) c.args.part.now.last)
    c.args.code.now c.loop.seat.me.0.log c.loop.state c.make_some.new.state c.loop.part c.make_some.new.part c.loop.left c.in_ok-left.field-0 c.requires.code
    c.in_ok-left.ensures.few c.in_ok-left.ensures.goes c.loop.invariant.midway in
    elim c.then-left-eq0.branch [
      | then-left-eq0-via-then-left-eq0 w ↦ share_made c.args.image.now c.args.limits.now c.args.post.now c.args.share (with_stamp (hand_of c.args.state.now None) c.args.part.now.last)
          c.loop.seat.me.0.log c.make_some.new.state c.make_some.new.part (c.loop.left - c.in_ok-left.field-0) w.if-left-eq0.true m
      | then-left-eq0-via-else-left-eq0+then-has_ended w ↦ thread_ended c.args.image.now c.args.limits.now c.args.post.now c.args.share (with_stamp (hand_of c.args.state.now None) c.args.part.now.last)
          c.loop.seat.me.0.log c.make_some.new.state c.make_some.new.part (c.loop.left - c.in_ok-left.field-0) (w.has_ended.ensures.ended w.if-has_ended.true) m
    ]

pub make_next-requires-clause-greatest : goal.make_next-requires-clause-greatest
make_next-requires-clause-greatest g c =
    let m = midway_more c.args.image.now c.args.limits.now c.args.post.now c.args.share (with_stamp (hand_of c.args.state.now None) c.args.part.now.last)
    c.args.code.now c.loop.seat.me.0.log c.loop.state c.make_some.new.state c.loop.part c.make_some.new.part c.loop.left c.in_ok-left.field-0 c.requires.code
    c.in_ok-left.ensures.few c.in_ok-left.ensures.goes c.loop.invariant.midway in
    sym m.of_part.greatest

pub returns-then-not-branch-clause-stopped : goal.returns-then-not-branch-clause-stopped
returns-then-not-branch-clause-stopped g c =
    let m = midway_more c.args.image.now c.args.limits.now c.args.post.now c.args.share (with_stamp (hand_of c.args.state.now None) c.args.part.now.last)
    c.args.code.now c.loop.seat.me.0.log c.loop.state c.make_some.new.state c.loop.part c.make_some.new.part c.loop.left c.in_ok-left.field-0 c.requires.code
    c.in_ok-left.ensures.few c.in_ok-left.ensures.goes c.loop.invariant.midway in
    let some : 0 < c.loop.left - c.in_ok-left.field-0 = let z = c.if-left-eq0.false in omega (arith, z) in
    is_starved c.args.image.now c.args.limits.now c.args.post.now c.args.share (with_stamp (hand_of c.args.state.now None) c.args.part.now.last)
    c.loop.seat.me.0.log c.make_next.new.seat.me.0.log c.make_some.new.state c.make_next.new.state c.make_some.new.part c.make_next.new.part
    (c.loop.left - c.in_ok-left.field-0) some (c.has_ended.ensures.living c.if-has_ended.false)
    (let z = c.if-not-branch.true in c.in_ok-make_next.ensures.none (cc)) m

pub loop-preserved : goal.loop-preserved
loop-preserved g c =
    let m = midway_more c.args.image.now c.args.limits.now c.args.post.now c.args.share (with_stamp (hand_of c.args.state.now None) c.args.part.now.last)
    c.args.code.now c.loop.seat.me.0.log c.loop.state c.make_some.new.state c.loop.part c.make_some.new.part c.loop.left c.in_ok-left.field-0 c.requires.code
    c.in_ok-left.ensures.few c.in_ok-left.ensures.goes c.loop.invariant.midway in
    let some : 0 < c.loop.left - c.in_ok-left.field-0 = let z = c.if-left-eq0.false in omega (arith, z) in
    record {
      own = c.in_ok-make_next.ensures.own;
      free = c.in_ok-make_next.ensures.free;
      number = c.in_ok-make_next.ensures.number ∙ c.loop.invariant.number;
      midway = midway_next c.args.image.now c.args.limits.now c.args.post.now c.args.share (with_stamp (hand_of c.args.state.now None) c.args.part.now.last)
          c.loop.seat.me.0.log c.make_next.new.seat.me.0.log c.make_some.new.state c.make_next.new.state c.make_some.new.part c.make_next.new.part
          (c.loop.left - c.in_ok-left.field-0) some (c.has_ended.ensures.living c.if-has_ended.false)
          (let z = c.if-not-branch.false in c.in_ok-make_next.ensures.goes (cc)) m;
      left = let l = c.loop.invariant.left in omega (arith, l, some);
    }
