use Rattle.std.proofs.Common.{◌≡◌, length}
use Rattle.part_workers.proofs.Working.{made_part}
use Rattle.part_workers.proofs.worker.HartWorker.make_part.Goals as goal

pub returns-clause-makes : goal.returns-clause-makes
returns-clause-makes g c =
    let clock : length c.make_share.new.state.watcher.clock ≡ c.args.self.now.limits.now.slots =
    let a = c.slots.ensures in let b = c.clock_ref.ensures in let d = c.if-slots-self.false in cc in
    made_part c.args.self.now c.make_share.new.seat.me.0.log c.enter_era.new.self c.make_share.new.state c.make_share.new.part c.tell_rest.new.part
    c.in_ok-self.field-0 c.enter_era.ensures c.in_ok-self.ensures.stopped c.in_ok-tell_rest.ensures clock
