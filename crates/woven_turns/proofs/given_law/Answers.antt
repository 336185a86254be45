use Rattle.woven_turns.proofs.Weaving.{tagged, public_woven}
use Rattle.woven_turns.proofs.Given.{turn_of, given_order}
use Rattle.woven_turns.proofs.given_law.Goals as goal

pub returns-clause-turn : goal.returns-clause-turn
returns-clause-turn g c lay m early late tag seat alone listed d h w same i lt =
    turn_of lay tag d early late h (tagged tag lay m early late seat alone w) (public_woven tag lay m early late seat alone w listed d same lt i)

pub returns-clause-order : goal.returns-clause-order
returns-clause-order g c lay local_stamp value_stamp m early late tag seat alone a b e d f h w drew sorted same q x y =
    given_order lay tag local_stamp value_stamp m early late seat alone h w drew a b e d f sorted same q x y
