use Rattle.run_laws.specs.Labels.{labels, queue}
use Rattle.run_laws.specs.Clocks.{clocks}
use Rattle.slot_desk.proofs.HistorySteps.{labelled_holds}
use Rattle.slot_desk.proofs.history.held_law.Goals as goal

pub returns : goal.returns
returns c = λ g n h i d t sid b e. labelled_holds g n (labels g h i) (clocks g h i) (queue g n h i) d t sid b.desk e
