use Rattle.std.proofs.Common.{◌≡◌, ◌≤◌, length}
use Rattle.hart_turns.proofs.unheard.forget_unheard.Given as goal

abbrev pub invariant-loop-made : goal.invariant-loop-made
invariant-loop-made l =
    (l.desk.desk ≡ l.initial.desk.desk)
    × (l.desk.desk.made ≤ length l.made.items)
    × (length l.made.items ≤ 1024)

abbrev pub decreases-loop-made : goal.decreases-loop-made
decreases-loop-made l = length l.made.items
