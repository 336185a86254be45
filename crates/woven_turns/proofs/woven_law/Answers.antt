use Rattle.std.proofs.Common.{inl, inr, ◌++◌}
use Rattle.turn_orders.specs.LineUp.{IsTurn}
use Rattle.turn_orders.proofs.Members.{each_append}
use Rattle.woven_turns.specs.Weave.{weave}
use Rattle.woven_turns.proofs.Weaving.{in_parts, in_left, in_right, woven_told, told_woven, woven_each, place_all, value_after, thread_all, round_line}
use Rattle.woven_turns.proofs.Sorting.{machine_line}
use Rattle.woven_turns.proofs.woven_law.Goals as goal

pub returns-clause-members : goal.returns-clause-members
returns-clause-members g c late tag alone d = (
  (λ i. elim (in_parts d (weave tag late) alone i) [ inl j ↦ inl (woven_told tag d late j) | inr j ↦ inr j ]),
  (λ i. elim i [ inl r ↦ in_left d (weave tag late) alone (told_woven tag d late r) | inr j ↦ in_right d (weave tag late) alone j ]),
)

pub returns-clause-order : goal.returns-clause-order
returns-clause-order g c lay m early late tag seat alone h w = round_line tag lay m early late seat alone w h

pub returns-clause-line_up : goal.returns-clause-line_up
returns-clause-line_up g c turn lay m early late tag seat alone h w turns last =
    machine_line turn m (weave tag late ++ alone) (each_append (IsTurn turn) (weave tag late) alone (woven_each tag (IsTurn turn) late turns) last) (round_line tag lay m early late seat alone w h)

pub returns-clause-threads : goal.returns-clause-threads
returns-clause-threads g c lay m early late tag seat alone t w = thread_all tag lay m early late seat alone w t

pub returns-clause-objects : goal.returns-clause-objects
returns-clause-objects g c lay m early late tag seat alone k h w lt = (place_all tag lay m early late seat alone w k lt, value_after tag lay m early late seat alone w k lt h)
