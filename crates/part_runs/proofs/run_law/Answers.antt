use Rattle.part_runs.proofs.Found.{run_of}
use Rattle.part_runs.proofs.run_law.Goals as goal

pub returns : goal.returns
returns c file limits lay past m rs plan closed ts meets f all told entries kept output =
    run_of file limits lay past m rs plan closed ts meets f all told entries kept output
