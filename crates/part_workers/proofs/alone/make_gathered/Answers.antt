use Rattle.std.proofs.Common.{ap, ◌∙◌}
use Rattle.shared_table.specs.Steps.{Mine}
use Rattle.part_workers.proofs.alone.make_gathered.Goals as goal

pub returns-clause-free : goal.returns-clause-free
returns-clause-free c =
    let e = c.make_from.ensures.seat.steps in
    (ap (λ (m : Mine). m.0.held) e ∙ c.requires.free.0, ap (λ (m : Mine). m.1) e ∙ c.requires.free.1)

pub returns-clause-number : goal.returns-clause-number
returns-clause-number c = ap (λ (m : Mine). m.0.number) c.make_from.ensures.seat.steps
