use Rattle.part_races.proofs.Histories.{history_collects}
use Rattle.part_races.proofs.history_law.Goals as goal

pub returns : goal.returns
returns c file limits lay m rs told few first ok parts await = history_collects file limits lay m few first ok rs told parts await
