use Rattle.woven_turns.proofs.Placing.{so_far, found_before}
use Rattle.woven_turns.proofs.Weaving.{thread_deeds}
use Rattle.woven_turns.proofs.found_law.Goals as goal

pub returns-clause-order : goal.returns-clause-order
returns-clause-order g c lay m early late made tag seat alone y h w st = so_far tag lay m early late made seat alone h w y st

pub returns-clause-found : goal.returns-clause-found
returns-clause-found g c lay m early late made tag seat alone n k i f l h w st = found_before tag lay m early late made seat alone h w n k i f l st

pub returns-clause-own : goal.returns-clause-own
returns-clause-own g c made tag t n s = thread_deeds tag t n s made
