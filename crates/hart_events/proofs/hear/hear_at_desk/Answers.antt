use Rattle.hart_events.proofs.hear.hear_at_desk.Goals as goal

pub returns-in-Create-clause-watcher : goal.returns-in-Create-clause-watcher
returns-in-Create-clause-watcher c = λ given set. rw c.in-Create.is (c.create.ensures.watcher given set)

pub returns-in-End-clause-watcher : goal.returns-in-End-clause-watcher
returns-in-End-clause-watcher c = λ given set. rw c.in-End.is (c.end.ensures.watcher given set)

pub returns-in-Join-clause-granted : goal.returns-in-Join-clause-granted
returns-in-Join-clause-granted c = rw c.in-Join.is (c.join.ensures.granted c.args.tid)

pub returns-in-Join-clause-sure : goal.returns-in-Join-clause-sure
returns-in-Join-clause-sure c = rw c.in-Join.is (c.join.ensures.sure c.args.tid)

pub returns-in-Join-clause-watcher : goal.returns-in-Join-clause-watcher
returns-in-Join-clause-watcher c = λ given set. rw c.in-Join.is (c.join.ensures.watcher given set)
