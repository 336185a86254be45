use Rattle.std.proofs.Common.{◌≡◌, ◌-◌, length}
use Rattle.std.specs.Prelude.{fold}
use Rattle.std.specs.Option.{option_map}
use Rattle.symbol_lines.specs.Program.{operations_in}
use Rattle.symbol_lines.specs.Kept.{perform_kept}
use Rattle.symbol_lines.specs.Views.{rules_view}
use Rattle.symbol_lines.specs.MachineViews.{machine_view}
use Rattle.symbol_lines.proofs.units.run.Given as goal

abbrev pub invariant-loop : goal.invariant-loop
invariant-loop l =
    option_map (fold perform_kept (machine_view l.machine)) (operations_in (rules_view l.rules) (length l.program - l.counter) l.rest)
    ≡ option_map (fold perform_kept (machine_view l.initial.machine)) (operations_in (rules_view l.rules) (length l.program) l.program)
