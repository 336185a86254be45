use Rattle.thread_turns.proofs.EndLaws.{first_follows, first_era}
use Rattle.thread_turns.proofs.watched.WatchedMachine.new.Goals as goal

pub returns-clause-follows : goal.returns-clause-follows
returns-clause-follows c = first_follows _ _ _ _ c.requires c.in_ok-new.ensures.start c.in_ok-new.ensures.memory c.in_ok-new-2.ensures.stands c.in_ok-new-2.ensures.first

pub returns-clause-era : goal.returns-clause-era
returns-clause-era c = first_era _ _ _ c.in_ok-new-2.ensures.stands
