use Rattle.std.proofs.Common.{length, ◌-◌}
use Rattle.symbol_lines.specs.Kept.{perform_kept}
use Rattle.symbol_lines.specs.Views.{rules_view, operation_view}
use Rattle.symbol_lines.specs.MachineViews.{machine_view}
use Rattle.symbol_lines.proofs.Counting.{operation_more, operations_end, operations_bad, operations_over, is_empty, is_some}
use Rattle.symbol_lines.proofs.units.run.Goals as goal

pub returns-then-is_empty : goal.returns-then-is_empty
returns-then-is_empty c =
    operations_end perform_kept (machine_view c.loop.machine) (rules_view c.args.rules.now) (length c.args.program.now - c.loop.counter) c.loop.rest.now _
    (is_empty _ _ c.is_empty.ensures c.if-is_empty.true) c.loop.invariant

pub returns-in-None : goal.returns-in-None
returns-in-None c =
    operations_bad perform_kept (machine_view c.loop.machine) (rules_view c.args.rules.now) (length c.args.program.now) c.loop.counter c.loop.rest.now _ c.loop-test.true
    (is_some _ _ c.is_empty.ensures c.if-is_empty.false) c.in-None.ensures c.loop.invariant

pub loop-preserved : goal.loop-preserved
loop-preserved c =
    rw c.in_ok-perform.ensures
    (operation_more perform_kept (machine_view c.loop.machine) (rules_view c.args.rules.now) (length c.args.program.now) c.loop.counter c.loop.rest.now c.in-Some.read.1.now (operation_view c.in-Some.read.0) _ c.loop-test.true
    (is_some _ _ c.is_empty.ensures c.if-is_empty.false) c.in-Some.ensures c.loop.invariant)

pub returns-then-is_empty-2 : goal.returns-then-is_empty-2
returns-then-is_empty-2 c =
    operations_end perform_kept (machine_view c.loop.machine) (rules_view c.args.rules.now) (length c.args.program.now - c.loop.counter) c.loop.rest.now _
    (is_empty _ _ c.is_empty-2.ensures c.if-is_empty-2.true) c.loop.invariant

pub returns : goal.returns
returns c =
    operations_over perform_kept (machine_view c.loop.machine) (rules_view c.args.rules.now) (length c.args.program.now) c.loop.counter c.loop.rest.now _ c.loop-test.false
    (is_some _ _ c.is_empty-2.ensures c.if-is_empty-2.false) c.loop.invariant
