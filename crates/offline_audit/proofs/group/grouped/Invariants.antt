use Rattle.offline_audit.proofs.GroupLaw.{AreGrouped}
use Rattle.offline_audit.proofs.group.grouped.Given as goal

-- the accesses so far are in groups
abbrev pub invariant-loop-one : goal.invariant-loop-one
invariant-loop-one l = AreGrouped l.order l.made l.one-index l.groups.items
