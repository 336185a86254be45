use Rattle.woven_turns.proofs.Following.{rest_lines, deeds_on}
use Rattle.woven_turns.proofs.follow_law.Goals as goal

pub returns-clause-rest : goal.returns-clause-rest
returns-clause-rest g c m d ds h = rest_lines m d ds h

pub returns-clause-parts : goal.returns-clause-parts
returns-clause-parts g c turn act_of n xs ys = deeds_on turn act_of n xs ys
