use Rattle.std.proofs.Common.{ap, ◌∙◌}
use Rattle.shared_table.specs.Steps.{Mine}
use Rattle.shared_table.proofs.Turns.{still_holds, gave_up}
use Rattle.shared_table.proofs.tests.finish.Goals as goal

pub give-requires-clause-holds : goal.give-requires-clause-holds
give-requires-clause-holds c = still_holds c.args.object c.load_cell-seen.new.seat.me c.store_cell.new.seat.me _ c.store_cell.ensures.log (still_holds c.args.object c.args.seat.now.me c.load_cell-seen.new.seat.me _ c.load_cell-seen.ensures.log c.requires.holds)

pub returns-clause-free : goal.returns-clause-free
returns-clause-free c =
    let held = still_holds c.args.object c.load_cell-seen.new.seat.me c.store_cell.new.seat.me _ c.store_cell.ensures.log (still_holds c.args.object c.args.seat.now.me c.load_cell-seen.new.seat.me _ c.load_cell-seen.ensures.log c.requires.holds) in
    let up = gave_up c.args.object c.store_cell.new.seat.me c.give.new.seat.me c.args.value held c.give.ensures.gave in
    (up.0, up.1 ∙ (ap (λ (m : Mine). m.0.number) c.store_cell.ensures.log ∙ ap (λ (m : Mine). m.0.number) c.load_cell-seen.ensures.log))
