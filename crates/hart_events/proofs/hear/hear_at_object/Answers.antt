use Rattle.hart_events.proofs.hear.hear_at_object.Goals as goal

pub returns-in-Release-clause-watcher : goal.returns-in-Release-clause-watcher
returns-in-Release-clause-watcher c = λ given desk. rw c.in-Release.is (c.release.ensures.watcher given desk)

pub returns-in-Acquire-clause-watcher : goal.returns-in-Acquire-clause-watcher
returns-in-Acquire-clause-watcher c = λ given desk. rw c.in-Acquire.is (c.acquire.ensures given desk)
