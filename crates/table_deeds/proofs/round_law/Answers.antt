use Rattle.std.proofs.Common.{◌++◌, sym, ap, ◌∙◌}
use Rattle.std.specs.Prelude.{Some}
use Rattle.turn_orders.specs.LineUp.{last_local, last_value}
use Rattle.woven_turns.specs.Weave.{weave}
use Rattle.woven_turns.proofs.Weaving.{place_all, value_after, thread_all}
use Rattle.table_deeds.proofs.Left.{local_left_is, value_left_is}
use Rattle.table_deeds.proofs.round_law.Goals as goal

pub returns-clause-objects : goal.returns-clause-objects
returns-clause-objects c lay m early late tag seat alone k lawful worked below =
    value_after tag lay m early late seat alone worked k below lawful
    ∙ ap Some (ap (last_value (m.value k)) (sym (place_all tag lay m early late seat alone worked k below))
    ∙ sym (value_left_is m k (weave tag late ++ alone)))

pub returns-clause-threads : goal.returns-clause-threads
returns-clause-threads c lay m early late tag seat alone t worked =
    local_left_is m t (weave tag late ++ alone) ∙ ap (last_local (m.local t)) (thread_all tag lay m early late seat alone worked t)
