use Rattle.offline_audit.proofs.AccessLaw.{AreOf}
use Rattle.offline_audit.proofs.access.in_order.Given as goal

-- those of the entries so far are there
abbrev pub invariant-loop-n : goal.invariant-loop-n
invariant-loop-n l = AreOf l.history.entries l.n l.made.items
