use Rattle.placed_detector.proofs.Slots.{era_standing}
use Rattle.placed_detector.proofs.era_law.Goals as goal

pub returns : goal.returns
returns c file limits cs m w h mom s is none = era_standing file limits cs m w h mom s is none
