use Rattle.std.proofs.Common.{◌≡◌, ◌++◌, length, take, drop, arith}
use Rattle.std.proofs.lemmas.Grind.{common_steps}
use Rattle.vector_clock.specs.Clocks.{joined}
use Rattle.vector_clock.proofs.ClockLaws.{get_or-joined}
use Rattle.vector_clock.proofs.clock.Clock.join.Goals as goal

pub returns-clause-each : goal.returns-clause-each
returns-clause-each c =
    let inside = c.self.inside.epochs in
    let whole : take inside.len (c.join_epochs.new.mine ++ drop (length c.join_epochs.new.mine) inside.items) ≡ joined c.args.self.now c.args.other.now = grind (arith, common_steps) in
    λ sid. rw whole (get_or-joined c.args.self.now c.args.other.now sid c.requires)
