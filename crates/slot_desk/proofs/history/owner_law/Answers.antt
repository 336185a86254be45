use Rattle.slot_desk.proofs.history.owner_law.Goals as goal

pub returns : goal.returns
returns c = λ g n h i d j t sid event b. b.journals.named j t sid event
