use Rattle.place_clocks.proofs.label_law.Goals as goal

pub returns : goal.returns
returns c g slots h n m t k = k.own.label t
