use Rattle.woven_turns.proofs.Placing.{place_in_list}
use Rattle.woven_turns.proofs.place_law.Goals as goal

pub returns : goal.returns
returns g c lay local_stamp value_stamp m early late made tag seat alone listed n k i f l h w drew sorted same st =
    place_in_list tag lay m early late made seat alone h w local_stamp value_stamp listed n k i f l drew sorted same st
