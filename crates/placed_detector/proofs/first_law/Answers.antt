use Rattle.placed_detector.proofs.First.{first_stands}
use Rattle.placed_detector.proofs.first_law.Goals as goal

pub returns : goal.returns
returns c file limits cs ranges are = first_stands file limits ranges cs are
