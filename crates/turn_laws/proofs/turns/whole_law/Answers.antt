use Rattle.turn_laws.proofs.WholeLaw.{lawful-whole}
use Rattle.turn_laws.proofs.turns.whole_law.Goals as goal

pub returns : goal.returns
returns g c = λ limits plan bare granule_of entries last so_far whole. lawful-whole limits plan bare granule_of entries last so_far whole
