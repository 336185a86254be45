use Rattle.std.proofs.Common.{◌-◌, ◌≡◌, ◌≤◌, Some}
use Rattle.guest_code.specs.Locals.{locals}
use Rattle.guest_code.proofs.code.Code.run_block.Given as goal

abbrev pub invariant-steps : goal.invariant-steps
invariant-steps l = (l.made ≤ l.most) × (locals l.self l.made l.initial.regs ≡ Some l.regs)

abbrev pub decreases-steps : goal.decreases-steps
decreases-steps l = l.most - l.made
