use Rattle.hart_workers.proofs.Idle.{can_work}
use Rattle.hart_workers.specs.Standing.{stand_in}
use Rattle.hart_workers.proofs.AtEnd.{due_in, are_back, logs_ordered, logs_distinct, at_end}
use Rattle.hart_workers.proofs.rounds.Rounds.make.Goals as goal

pub round-requires-clause-can : goal.round-requires-clause-can
round-requires-clause-can g c κs within =
    let file = c.args.new.now.image.now in
    let limits = c.args.new.now.limits.now in
    let b = c.requires.between.2 in
    can_work file limits (due_in c.args.self.now) c.args.self.now.crew.states.items (stand_in limits b.so_far) c.args.shared.now c.requires.table b.idle
    c.as_slice.result.now c.in_ok-workers.workers.items c.in_ok-workers.ensures.workers

pub returns-clause-at_end : goal.returns-clause-at_end
returns-clause-at_end g c meets kept b =
    let file = c.args.new.now.image.now in
    let limits = c.args.new.now.limits.now in
    let back =
    are_back file limits _ _ _ _ c.round.new.seat.me.0 _ _ _ _ _ _ _ _ _ c.as_slice.ensures.value c.new-logs.ensures.items c.new-pending.ensures c.in_ok-workers.ensures
    c.in_ok-after.ensures.round c.in_ok-starved.ensures in
    record {
      ordered = logs_ordered file limits meets c.args.shared.now.layout kept c.args.self.now c.take_back.new.self c.args.shared.now c.args.seat.now.me.0
          c.args.seat.now.me.0 c.round.new.seat.me.0 c.hire.new.self.states.items c.in_ok-workers.workers.items c.in_ok-after.after.items
          c.take_back.new.logs.items c.take_back.new.pending c.in_ok-starved.starved b back;
      distinct = logs_distinct file limits meets c.args.shared.now.layout kept c.args.self.now c.take_back.new.self c.args.shared.now c.args.seat.now.me.0
          c.args.seat.now.me.0 c.round.new.seat.me.0 c.hire.new.self.states.items c.in_ok-workers.workers.items c.in_ok-after.after.items
          c.take_back.new.logs.items c.take_back.new.pending c.in_ok-starved.starved b back;
      merges = λ entries same ordered.
          at_end file limits meets c.args.shared.now.layout kept c.args.self.now c.take_back.new.self c.args.shared.now c.args.seat.now.me.0
          c.round.new.seat.me.0 c.hire.new.self.states.items c.in_ok-workers.workers.items c.in_ok-after.after.items c.take_back.new.logs.items
          c.take_back.new.pending _ b c.requires.due back c.in_ok-after.ensures.own c.in_ok-sort.ensures same ordered;
    }
