use Rattle.shared_table.proofs.Pasts.{sound_stays}
use Rattle.shared_table.proofs.PastLaws.{turns_follow, in_turn}
use Rattle.shared_table.proofs.laws.turns_law.Goals as goal

pub returns-clause-follow : goal.returns-clause-follow
returns-clause-follow c lay past k h = (turns_follow lay past k h).0

pub returns-clause-count : goal.returns-clause-count
returns-clause-count c lay past k h = (turns_follow lay past k h).1

pub returns-clause-last : goal.returns-clause-last
returns-clause-last c lay past k h = (turns_follow lay past k h).2

pub returns-clause-alternate : goal.returns-clause-alternate
returns-clause-alternate c lay past k h = (in_turn lay past k h).0

pub returns-clause-sound : goal.returns-clause-sound
returns-clause-sound c lay past k first h = sound_stays lay past k first h
