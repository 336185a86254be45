use Rattle.std.proofs.Common.{refl}
use Rattle.guest_code.specs.Locals.{locals}
use Rattle.guest_code.proofs.code.Code.run_locals.Goals as goal

pub returns-then-after-eq0-clause-made : goal.returns-then-after-eq0-clause-made
unfolding locals
returns-then-after-eq0-clause-made c = refl
