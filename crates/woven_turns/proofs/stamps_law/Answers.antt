use Rattle.woven_turns.proofs.Standing.{given_before_taken}
use Rattle.woven_turns.proofs.stamps_law.Goals as goal

pub returns : goal.returns
returns c = given_before_taken
