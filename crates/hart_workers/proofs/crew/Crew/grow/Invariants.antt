use Rattle.std.proofs.Common.{◌≡◌, ◌-◌, max, length}
use Rattle.made_rounds.specs.Made.{Stand}
use Rattle.hart_workers.specs.Crews.{IsIdle}
use Rattle.hart_workers.proofs.crew.Crew.grow.Given as goal

abbrev pub invariant-loop-alloc : goal.invariant-loop-alloc
invariant-loop-alloc l = record {
  idle : (s : Stand) → IsIdle l.fn.limits s l.fn.self.states.items → IsIdle l.fn.limits s l.self.states.items;
  count : max (length l.self.states.items) l.made ≡ max (length l.fn.self.states.items) l.made;
}

abbrev pub decreases-loop-alloc : goal.decreases-loop-alloc
decreases-loop-alloc l = l.made - length l.self.states.items
