use Rattle.whole_parts.proofs.Vain.{in_vain}
use Rattle.whole_parts.proofs.tried_law.Goals as goal

pub returns : goal.returns
returns c file limits lay m rs r p seat t found ranges first ok are come vain seat_is none =
    in_vain file limits ok lay m rs r p seat t found ranges first are come vain seat_is none
