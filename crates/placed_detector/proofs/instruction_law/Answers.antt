use Rattle.placed_detector.proofs.Instructions.{instruction_stands}
use Rattle.placed_detector.proofs.instruction_law.Goals as goal

pub returns : goal.returns
returns c file limits cs m w h ms t k loads hand held es checks ok s mk are = instruction_stands file limits ok cs m w h s t k loads hand held es checks ms mk are
