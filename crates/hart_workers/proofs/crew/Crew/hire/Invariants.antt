use Rattle.std.proofs.Common.{take}
use Rattle.hart_workers.specs.Crews.{Hires}
use Rattle.hart_workers.proofs.crew.Crew.hire.Given as goal

abbrev pub invariant-loop-tid : goal.invariant-loop-tid
invariant-loop-tid g l = Hires l.fn.new.image.now l.fn.new.limits.now l.fn.due l.fn.self.states.items (take l.tid-index l.live) l.self.states.items l.workers.items
