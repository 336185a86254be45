use Rattle.std.proofs.lemmas.Result.{IfOk-weaker}
use Rattle.hart_workers.proofs.Tellings.{there_so, owner_there, can_seek}
use Rattle.hart_workers.proofs.telling.told_previous.Goals as goal

pub find_owner-owner-requires : goal.find_owner-owner-requires
find_owner-owner-requires c = owner_there _ _ _ _ c.requires

pub tell_previous-requires : goal.tell_previous-requires
tell_previous-requires c =
    let read = c.in-Some-Some.ensures.lookup in
    let there = there_so c.args.states.now c.find_owner-owner.result c.in-Some-Some.field-0.now c.in-Some-Some.state read.3.0 read.1 c.in-Some-Some.field-0-is in
    rw c.trace.ensures (can_seek _ _ _ _ c.requires c.find_owner-owner.result c.in-Some-Some.state c.find_owner-owner.ensures there)

pub returns : goal.returns
returns c =
    let read = c.in-Some-Some.ensures.lookup in
    IfOk-weaker c.tell_previous.result _ _
    (λ side is. record {
      tid = c.find_owner-owner.result;
      owned = c.find_owner-owner.ensures;
      state = c.in-Some-Some.state;
      there = there_so c.args.states.now c.find_owner-owner.result c.in-Some-Some.field-0.now c.in-Some-Some.state read.3.0 read.1 c.in-Some-Some.field-0-is;
      side_is = rw c.trace.ensures at is;
    })
    c.tell_previous.ensures
