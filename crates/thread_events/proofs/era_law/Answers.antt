use Rattle.thread_events.proofs.Notes.{era_stands}
use Rattle.thread_events.proofs.era_law.Goals as goal

pub returns : goal.returns
returns c limits keeper leaving h m x s made = era_stands limits keeper leaving h m x s made
